-- An accepted program that a source spells, computed.
use Rattle.std.proofs.Common.{◌≡◌, refl, ℕ, List, [], ◌∷◌, Ok, codes, arith}
use Rattle.rg_base.specs.declared.words.Keyword.TheVariants as w
use Rattle.rg_base.specs.declared.words.Sign.TheVariants as s
use Rattle.rg_base.specs.declared.words.Manager.TheVariants.{Arena}
use Rattle.rg_base.specs.declared.token.Kind.{Kind}
use Rattle.rg_base.specs.declared.token.Kind.TheVariants as k
use Rattle.rg_base.specs.declared.token.Token.{Token}
use Rattle.rg_base.specs.Pieces.{front}
use Rattle.rg_base.specs.Tokens.{cut_from, cut}
use Rattle.rg_tree.specs.Tree.{stmt, collect, empty, then as next, Tree}
use Rattle.rg_tree.specs.Grammar.{Spells, program_main, manager_row, block_row, more_stmts, collect_row, no_stmts}
use Rattle.rg_packed.specs.Laws.{IsOfSource}

abbrev source : List ℕ
source = codes "main arena { collect; }"

abbrev token : Kind → (from to : ℕ) → Token
token kind from to = record { kind = kind; from = from; to = to; line = 1 }

abbrev tokens : List Token
tokens =
    token (k.Word w.Main) 0 4 ∷ token (k.Word w.Arena) 5 10 ∷ token (k.Mark s.OpenBrace) 11 12 ∷ token (k.Word w.Collect) 13 20
    ∷ token (k.Mark s.Semicolon) 20 21 ∷ token (k.Mark s.CloseBrace) 22 23 ∷ []

abbrev tree : Tree
tree = record { classes = []; manager = Arena; body = next (stmt 1 collect) empty; line = 1 }

source-cut : cut source ≡ Ok tokens
unfolding front cut_from
source-cut = refl

tree-spelt : Spells source tree tokens
tree-spelt = (_, program_main refl (manager_row refl) (block_row refl refl (more_stmts refl (collect_row refl refl) (no_stmts refl)) refl))

tree-of_source : IsOfSource source tree
tree-of_source = record { size = omega arith; tokens = tokens; cuts = source-cut; spells = tree-spelt; accepted = refl }
