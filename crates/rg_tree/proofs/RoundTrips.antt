-- From a source to its tokens, their tree and its canonical text, computed.
use Rattle.std.proofs.Common.{◌≡◌, ℕ, pos, List, [], ◌∷◌, ◌++◌, Option, Some, is_some, true, option_map, codes, refl}
use Rattle.std.specs.Fmt.{digits}
use Rattle.rg_base.specs.declared.words.Keyword.TheVariants as w
use Rattle.rg_base.specs.declared.words.Sign.TheVariants as s
use Rattle.rg_base.specs.declared.token.Kind.{Kind}
use Rattle.rg_base.specs.declared.token.Kind.TheVariants as k
use Rattle.rg_base.specs.Pieces.{front}
use Rattle.rg_base.specs.Tokens.{cut, cut_from}
use Rattle.rg_tree.specs.Tree.{Tree}
use Rattle.rg_tree.specs.Canonical.{canon}
use Rattle.rg_tree.proofs.StuckPlaces.{tokens, taken, times, printing, let_row, class_opens}
use Rattle.rg_tree.proofs.Texts.{lines, prints_a_difference, tests_an_inequality}
use Rattle.rg_tree.proofs.Reader.{tree_within}

-- the tree of a source, found within so many steps
abbrev pub read_tree : ℕ → List ℕ → Option Tree
read_tree n source = option_map (λ r. r.0) (tree_within n source (taken (cut source)))

-- the canonical text of a source
abbrev pub format : ℕ → List ℕ → Option (List ℕ)
format n source = option_map canon (read_tree n source)

difference : read_tree 60 (codes "main arena{print (1+2)*3-(4);}//c") ≡ Some prints_a_difference
unfolding front cut_from
difference = refl

difference-formatted : format 60 (codes "main arena{print (1+2)*3-(4);}//c") ≡ Some (lines (codes "main arena {"
    ∷ codes "  print (1 + 2) * 3 - 4;" ∷ codes "}" ∷ []))
unfolding front cut_from digits
difference-formatted = refl

-- the canonical text is its own
difference-again : format 60 (lines (codes "main arena {" ∷ codes "  print (1 + 2) * 3 - 4;" ∷ codes "}" ∷ []))
    ≡ Some (lines (codes "main arena {" ∷ codes "  print (1 + 2) * 3 - 4;" ∷ codes "}" ∷ []))
unfolding front cut_from digits
difference-again = refl

inequality : read_tree 60 (codes "class A{x:int;}main count{if not 1==2{}else{print - (1);}}") ≡ Some tests_an_inequality
unfolding front cut_from
inequality = refl

array_class-formatted : format 60 (codes "class Row[int];main arena{}") ≡ Some (lines (codes "class Row [int];" ∷ codes "main arena {"
    ∷ codes "}" ∷ []))
unfolding front cut_from
array_class-formatted = refl

-- 63 parentheses within the block of main
parentheses_at_their_limit : is_some (tree_within 1000 [] (tokens (printing (times 63 (k.Mark s.OpenParen ∷ []) ++ k.Number (pos 1)
    ∷ times 63 (k.Mark s.CloseParen ∷ []))))) ≡ true
parentheses_at_their_limit = refl

-- 63 brackets within the block of main
brackets_at_their_limit : is_some (tree_within 1000 [] (tokens (printing (times 63 (k.Name ∷ k.Mark s.OpenBracket ∷ []) ++ k.Number (pos 1)
    ∷ times 63 (k.Mark s.CloseBracket ∷ []))))) ≡ true
brackets_at_their_limit = refl

-- 512 signs in each of two statements
abbrev sum_of_513 : List Kind
sum_of_513 = k.Word w.Print ∷ k.Number (pos 1) ∷ times 512 (k.Mark s.Plus ∷ k.Number (pos 1) ∷ []) ++ k.Mark s.Semicolon ∷ []

signs_at_their_limit : is_some (tree_within 1000 [] (tokens (k.Word w.Main ∷ k.Word w.Arena ∷ k.Mark s.OpenBrace ∷ sum_of_513
    ++ sum_of_513 ++ k.Mark s.CloseBrace ∷ []))) ≡ true
signs_at_their_limit = refl

-- 256 names in the body of main
names_at_their_limit : is_some (tree_within 1000 [] (tokens (k.Word w.Main ∷ k.Word w.Arena ∷ k.Mark s.OpenBrace ∷ times 256 let_row
    ++ k.Mark s.CloseBrace ∷ []))) ≡ true
names_at_their_limit = refl

-- 1,024 classes
classes_at_their_limit : is_some (tree_within 2000 [] (tokens (times 1024 (class_opens ++ k.Mark s.CloseBrace ∷ []) ++ k.Word w.Main
    ∷ k.Word w.Arena ∷ k.Mark s.OpenBrace ∷ k.Mark s.CloseBrace ∷ []))) ≡ true
classes_at_their_limit = refl
