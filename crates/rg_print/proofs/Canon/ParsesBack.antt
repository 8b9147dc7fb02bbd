-- The canonical text of what a source spells is cut and read back.
use Rattle.std.proofs.Common.{◌≡◌, ℕ, ◌+◌, ◌-◌, List, [], ◌∷◌, ◌++◌, length, drop, Ok, sym, ◌∙◌, ap, drop-drop, arith}
use Rattle.std.specs.Fmt.{signed_decimal}
use Rattle.std.proofs.Math.Seq.{take-append_seam, drop-append_seam}
use Rattle.rg_base.specs.declared.token.Token.{Token}
use Rattle.rg_base.specs.Tokens.{cut}
use Rattle.rg_tree.specs.Tree.{Tree}
use Rattle.rg_tree.specs.Canonical.{canon}
use Rattle.rg_tree.specs.Grammar.{Spells}
use Rattle.rg_tree.specs.Laws.{ParsesBack}
use Rattle.rg_print.proofs.Canon.Lexemes.{Lexeme, gap, word, mark, named, numeral, word_text, sign_text, text_of, program_lexemes}
use Rattle.rg_print.proofs.Canon.LexemeTexts.{program-text}
use Rattle.rg_print.proofs.Canon.LexemeCuts.{tokens_at, cut_from-lexemes}
use Rattle.rg_print.proofs.Canon.FineTokens.{cut-fine}
use Rattle.rg_print.proofs.Canon.Readings.{Spelt}
use Rattle.rg_print.proofs.Canon.CanonLines.{canon-same}
use Rattle.rg_print.proofs.Canon.CanonReads.{program-told}

-- behind a front of what is left
drop-front : (S x t : List ℕ) (n : ℕ) → drop n S ≡ x ++ t → drop (n + length x) S ≡ t
drop-front S x t n h = sym (drop-drop (length x) n S) ∙ ap (drop (length x)) h ∙ drop-append_seam x t

-- the names of lexemes stand where their bytes do
Spelt-text : (S : List ℕ) (xs : List Lexeme) (from : ℕ) → drop from S ≡ text_of xs → Spelt S from xs
Spelt-text S [] from h = tt
Spelt-text S (gap g ∷ xs) from h = Spelt-text S xs (from + length g) (drop-front S g (text_of xs) from h)
Spelt-text S (word x ∷ xs) from h = Spelt-text S xs (from + length (word_text x)) (drop-front S (word_text x) (text_of xs) from h)
Spelt-text S (mark x ∷ xs) from h = Spelt-text S xs (from + length (sign_text x)) (drop-front S (sign_text x) (text_of xs) from h)
Spelt-text S (named n ∷ xs) from h =
    let w : from + length n - from ≡ length n = omega arith in
    (rw (w, h) (take-append_seam n (text_of xs)), Spelt-text S xs (from + length n) (drop-front S n (text_of xs) from h))
Spelt-text S (numeral z ∷ xs) from h =
    Spelt-text S xs (from + length (signed_decimal z)) (drop-front S (signed_decimal z) (text_of xs) from h)

pub parses-back : (source : List ℕ) (r : Tree) (ts : List Token) → cut source ≡ Ok ts → Spells source r ts → ParsesBack r
parses-back source r ts h y =
    let xs = program_lexemes r in
    let all = program-told (canon r) source _ y.0 ts [] r y.1 (cut-fine source ts h) in
    let back = all.reads 0 1 (Spelt-text (canon r) xs 0 (sym (program-text r))) in
    record {
      tokens = tokens_at 0 1 xs;
      tree = back.tree;
      is_cut = ap cut (sym (program-text r)) ∙ cut_from-lexemes 0 1 xs all.apart;
      is_spelt = (y.0, back.read.reads);
      is_same = back.same;
      is_settled = canon-same back.tree r back.same;
    }
