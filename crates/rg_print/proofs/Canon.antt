-- The law of canonical text: a text is made of lexemes, is cut into their tokens, and these are read as the tree.
pub mod Lexemes
pub mod LexemeTexts
pub mod LexemeCuts
pub mod LexemesApart
pub mod FineTokens
pub mod Readings
pub mod ExprReads
pub mod ExprLimits
pub mod PartReads
pub mod CanonFacts
pub mod SameLines
pub mod CanonReads
pub mod CanonLines
pub mod ParsesBack
