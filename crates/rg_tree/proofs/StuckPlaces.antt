-- Tokens that are stuck: their code and place, computed.
use Rattle.std.proofs.Common.{◌≡◌, ℕ, zero, suc, pos, List, [], ◌∷◌, ◌++◌, Result, Ok, Err, codes, map, refl}
use Rattle.rg_base.specs.declared.words.Keyword.TheVariants as w
use Rattle.rg_base.specs.declared.words.Sign.TheVariants as s
use Rattle.rg_base.specs.declared.token.Kind.{Kind}
use Rattle.rg_base.specs.declared.token.Kind.TheVariants as k
use Rattle.rg_base.specs.declared.token.Token.{Token}
use Rattle.rg_base.specs.declared.fault.Code.TheVariants.{Syntax, Nesting, Limit}
use Rattle.rg_base.specs.Tokens.{cut, cut_from, end_line}
use Rattle.rg_base.specs.Pieces.{front}
use Rattle.rg_tree.specs.Stuck.{Stuck, line_at}
use Rattle.rg_tree.proofs.Halting.{halted, stuck_within, stuck_within-Stuck}

-- a token of a kind on line 1; its place in the source doesn't matter here
abbrev pub token : Kind → Token
token kind = record { kind = kind; from = 0; to = 0; line = 1 }

-- tokens of these kinds
abbrev pub tokens : List Kind → List Token
tokens ks = map token ks

-- kinds, so many times
abbrev pub times : ℕ → List Kind → List Kind
times zero ks = []
times (suc n) ks = ks ++ times n ks

-- the tokens that were cut
abbrev pub taken : {E : Type 0} → Result (List Token) E → List Token
taken (Ok ts) = ts
taken (Err e) = []

-- the empty source is stuck at its end, on line 1
no_tokens : Stuck [] Syntax [] × (line_at (end_line []) [] ≡ 1)
no_tokens = (stuck_within-Stuck 10 [] [] Syntax refl, refl)

-- main arena {
-- print 1
-- }
three_lines : List ℕ
three_lines = codes "main arena {" ++ 10 ∷ codes "print 1" ++ 10 ∷ codes "}"

-- it is stuck where the semicolon is missing, at the } on line 3
no_semicolon : stuck_within 40 (taken (cut three_lines)) ≡ halted Syntax (record { kind = k.Mark s.CloseBrace; from = 21; to = 22; line = 3 } ∷ [])
unfolding front cut_from three_lines
no_semicolon = refl

-- main arena { print X; }
abbrev pub printing : List Kind → List Kind
printing x = k.Word w.Main ∷ k.Word w.Arena ∷ k.Mark s.OpenBrace ∷ k.Word w.Print ∷ x ++ k.Mark s.Semicolon ∷ k.Mark s.CloseBrace ∷ []

-- 64 parentheses within the block of main: the 64th is past the limit
parentheses_past_their_limit : stuck_within 1000 (tokens (printing (times 64 (k.Mark s.OpenParen ∷ []) ++ k.Number (pos 1)
    ∷ times 64 (k.Mark s.CloseParen ∷ []))))
    ≡ halted Nesting (tokens (k.Mark s.OpenParen ∷ k.Number (pos 1) ∷ times 64 (k.Mark s.CloseParen ∷ []) ++ k.Mark s.Semicolon
    ∷ k.Mark s.CloseBrace ∷ []))
parentheses_past_their_limit = refl

-- 64 brackets of two kinds within the block of main: the 64th is past the limit
brackets_past_their_limit : stuck_within 2000 (tokens (printing (times 32 (k.Mark s.OpenParen ∷ k.Name ∷ k.Mark s.OpenBracket ∷ []))))
    ≡ halted Nesting (tokens (k.Mark s.OpenBracket ∷ k.Mark s.Semicolon ∷ k.Mark s.CloseBrace ∷ []))
brackets_past_their_limit = refl

-- a[]: an index is missing
no_index : stuck_within 100 (tokens (printing (k.Name ∷ k.Mark s.OpenBracket ∷ k.Mark s.CloseBracket ∷ [])))
    ≡ halted Syntax (tokens (k.Mark s.CloseBracket ∷ k.Mark s.Semicolon ∷ k.Mark s.CloseBrace ∷ []))
no_index = refl

-- a[1].f: an element has no fields of its own
field_of_an_element : stuck_within 100 (tokens (printing (k.Name ∷ k.Mark s.OpenBracket ∷ k.Number (pos 1) ∷ k.Mark s.CloseBracket ∷ k.Mark s.Dot
    ∷ k.Name ∷ [])))
    ≡ halted Syntax (tokens (k.Mark s.Dot ∷ k.Name ∷ k.Mark s.Semicolon ∷ k.Mark s.CloseBrace ∷ []))
field_of_an_element = refl

-- size (a): a size is that of a path
size_of_parentheses : stuck_within 100 (tokens (printing (k.Word w.Size ∷ k.Mark s.OpenParen ∷ k.Name ∷ k.Mark s.CloseParen ∷ [])))
    ≡ halted Syntax (tokens (k.Mark s.OpenParen ∷ k.Name ∷ k.Mark s.CloseParen ∷ k.Mark s.Semicolon ∷ k.Mark s.CloseBrace ∷ []))
size_of_parentheses = refl

-- 513 signs in one statement: the 513th is past the limit
signs_past_their_limit : stuck_within 5000 (tokens (printing (k.Number (pos 1) ∷ times 513 (k.Mark s.Plus ∷ k.Number (pos 1) ∷ []))))
    ≡ halted Limit (tokens (k.Mark s.Plus ∷ k.Number (pos 1) ∷ k.Mark s.Semicolon ∷ k.Mark s.CloseBrace ∷ []))
signs_past_their_limit = refl

-- 257 names in the body of main: the 257th is past the limit
abbrev pub let_row : List Kind
let_row = k.Word w.Let ∷ k.Name ∷ k.Mark s.Colon ∷ k.Word w.Int ∷ k.Mark s.Assign ∷ k.Word w.Read ∷ k.Mark s.Semicolon ∷ []

names_past_their_limit : stuck_within 4000 (tokens (k.Word w.Main ∷ k.Word w.Arena ∷ k.Mark s.OpenBrace ∷ times 257 let_row))
    ≡ halted Limit (tokens (k.Name ∷ k.Mark s.Colon ∷ k.Word w.Int ∷ k.Mark s.Assign ∷ k.Word w.Read ∷ k.Mark s.Semicolon ∷ []))
names_past_their_limit = refl

-- class A {
abbrev pub class_opens : List Kind
class_opens = k.Word w.Class ∷ k.Name ∷ k.Mark s.OpenBrace ∷ []

-- x: int
abbrev named : List Kind
named = k.Name ∷ k.Mark s.Colon ∷ k.Word w.Int ∷ []

-- def mut m(
abbrev method_opens : List Kind
method_opens = k.Word w.Def ∷ k.Word w.Mut ∷ k.Name ∷ k.Mark s.OpenParen ∷ []

-- self and a parameter are names of the body: the 255th name of a let is past the limit
names_of_a_method : stuck_within 4000 (tokens (class_opens ++ method_opens ++ named ++ k.Mark s.CloseParen ∷ k.Mark s.OpenBrace ∷ times 255 let_row))
    ≡ halted Limit (tokens (k.Name ∷ k.Mark s.Colon ∷ k.Word w.Int ∷ k.Mark s.Assign ∷ k.Word w.Read ∷ k.Mark s.Semicolon ∷ []))
names_of_a_method = refl

-- 65 fields of a class: the 65th is past the limit
fields_past_their_limit : stuck_within 2000 (tokens (class_opens ++ times 65 (named ++ k.Mark s.Semicolon ∷ [])))
    ≡ halted Limit (tokens (named ++ k.Mark s.Semicolon ∷ []))
fields_past_their_limit = refl

-- 65 methods of a class: the name of the 65th is past the limit
methods_past_their_limit : stuck_within 2000 (tokens (class_opens ++ times 65 (method_opens ++ k.Mark s.CloseParen ∷ k.Mark s.OpenBrace
    ∷ k.Mark s.CloseBrace ∷ [])))
    ≡ halted Limit (tokens (k.Name ∷ k.Mark s.OpenParen ∷ k.Mark s.CloseParen ∷ k.Mark s.OpenBrace ∷ k.Mark s.CloseBrace ∷ []))
methods_past_their_limit = refl

-- 17 parameters of a method: the 17th is past the limit
params_past_their_limit : stuck_within 1000 (tokens (class_opens ++ method_opens ++ named ++ times 16 (k.Mark s.Comma ∷ named)))
    ≡ halted Limit (tokens named)
params_past_their_limit = refl

-- 1,025 classes: the name of the last is past the limit
classes_past_their_limit : stuck_within 20000 (tokens (times 1025 (class_opens ++ k.Mark s.CloseBrace ∷ [])))
    ≡ halted Limit (tokens (k.Name ∷ k.Mark s.OpenBrace ∷ k.Mark s.CloseBrace ∷ []))
classes_past_their_limit = refl
