-- Sources and their tokens, computed.
use Rattle.std.proofs.Common.{◌≡◌, ℕ, pos, negsuc, true, List, [], ◌∷◌, ◌++◌, Ok, Err, codes, replicate, refl}
use Rattle.std.specs.Fmt.{digits}
use Rattle.rg_base.specs.declared.words.Keyword.TheVariants as w
use Rattle.rg_base.specs.declared.words.Sign.TheVariants as s
use Rattle.rg_base.specs.declared.token.Kind.{Kind}
use Rattle.rg_base.specs.declared.token.Kind.TheVariants as k
use Rattle.rg_base.specs.declared.token.Token.{Token}
use Rattle.rg_base.specs.declared.fault.Code.{Code}
use Rattle.rg_base.specs.declared.fault.Code.TheVariants as code
use Rattle.rg_base.specs.declared.fault.Fault.{Fault}
use Rattle.rg_base.specs.declared.value.Val.TheVariants as v
use Rattle.rg_base.specs.Diagnostics.{fault_text}
use Rattle.rg_base.specs.Text.{text}
use Rattle.rg_base.specs.Pieces.{front}
use Rattle.rg_base.specs.Tokens.{cut, cut_from, end_line}

-- a token with its place and line
abbrev at : Kind → ℕ → ℕ → ℕ → Token
at kind from to line = record { kind = kind; from = from; to = to; line = line }

-- a fault with its line
abbrev fault : Code → ℕ → Fault
fault c line = record { code = c; line = line }

-- the source that prints what X stands for
abbrev printing : List ℕ → List ℕ
printing x = codes "main arena { print " ++ x ++ codes "; }"

main_that_prints : cut (codes "main arena { print 7; }") ≡
    Ok (at (k.Word w.Main) 0 4 1 ∷ at (k.Word w.Arena) 5 10 1 ∷ at (k.Mark s.OpenBrace) 11 12 1 ∷ at (k.Word w.Print) 13 18 1
    ∷ at (k.Number (pos 7)) 19 20 1 ∷ at (k.Mark s.Semicolon) 20 21 1 ∷ at (k.Mark s.CloseBrace) 22 23 1 ∷ [])
unfolding front cut_from
main_that_prints = refl

no_bytes : (cut [] ≡ Ok []) × (end_line [] ≡ 1)
unfolding front cut_from
no_bytes = (refl, refl)

three_lines : end_line (codes "main arena {" ++ 10 ∷ codes "print 1" ++ 10 ∷ codes "}") ≡ 3
three_lines = refl

tokens_of_three_lines : cut (codes "main {" ++ 10 ∷ codes "print 1" ++ 10 ∷ codes "}") ≡
    Ok (at (k.Word w.Main) 0 4 1 ∷ at (k.Mark s.OpenBrace) 5 6 1 ∷ at (k.Word w.Print) 7 12 2 ∷ at (k.Number (pos 1)) 13 14 2
    ∷ at (k.Mark s.CloseBrace) 15 16 3 ∷ [])
unfolding front cut_from
tokens_of_three_lines = refl

comment_up_to_its_line : cut (codes "x//y z" ++ 10 ∷ codes "/") ≡ Ok (at k.Name 0 1 1 ∷ at (k.Mark s.Slash) 7 8 2 ∷ [])
unfolding front cut_from
comment_up_to_its_line = refl

longest_sign : cut (codes "<==!=>=>") ≡
    Ok (at (k.Mark s.AtMost) 0 2 1 ∷ at (k.Mark s.Assign) 2 3 1 ∷ at (k.Mark s.NotEqual) 3 5 1 ∷ at (k.Mark s.AtLeast) 5 7 1
    ∷ at (k.Mark s.Greater) 7 8 1 ∷ [])
unfolding front cut_from
longest_sign = refl

brackets_of_an_index : cut (codes "a[b[0]]") ≡
    Ok (at k.Name 0 1 1 ∷ at (k.Mark s.OpenBracket) 1 2 1 ∷ at k.Name 2 3 1 ∷ at (k.Mark s.OpenBracket) 3 4 1 ∷ at (k.Number (pos 0)) 4 5 1
    ∷ at (k.Mark s.CloseBracket) 5 6 1 ∷ at (k.Mark s.CloseBracket) 6 7 1 ∷ [])
unfolding front cut_from
brackets_of_an_index = refl

number_past_its_limit : cut (printing (codes "9223372036854775808")) ≡ Err (fault code.Number 1)
unfolding front cut_from
number_past_its_limit = refl

number_before_a_letter : cut (printing (codes "1x")) ≡ Err (fault code.Number 1)
unfolding front cut_from
number_before_a_letter = refl

byte_of_no_token : cut (printing (codes "1 $ 2")) ≡ Err (fault code.Byte 1)
unfolding front cut_from
byte_of_no_token = refl

name_of_65_letters : cut (printing (replicate 65 97)) ≡ Err (fault code.Name 1)
unfolding front cut_from
name_of_65_letters = refl

name_of_64_letters : cut (replicate 64 97) ≡ Ok (at k.Name 0 64 1 ∷ [])
unfolding front cut_from
name_of_64_letters = refl

fault_on_the_second_line : cut (10 ∷ codes "! x") ≡ Err (fault code.Byte 2)
unfolding front cut_from
fault_on_the_second_line = refl

text_of_a_fault : fault_text (fault code.Loop (end_line [])) ≡ codes "E34 loop at line 1" ++ 10 ∷ []
unfolding digits
text_of_a_fault = refl

two_values : text (v.Int (negsuc 2) ∷ v.Bool true ∷ []) ≡ codes "-3" ++ 10 ∷ codes "true" ++ 10 ∷ []
unfolding digits
two_values = refl
