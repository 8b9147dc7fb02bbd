-- The answer to a whole source.
use Rattle.std.proofs.Common.{◌≡◌, ℕ, List, [], ◌∷◌, ap, subst}
use Rattle.rg_base.specs.declared.fault.Code.{Code}
use Rattle.rg_base.specs.declared.fault.Fault.{Fault}
use Rattle.rg_lex.specs.TokenList.{TokenList}
use Rattle.rg_tree.specs.Counts.{at_start}
use Rattle.rg_tree.specs.Grammar.{Spells}
use Rattle.rg_tree.specs.Tree.{Tree}
use Rattle.rg_tree.specs.Phrases.{the}
use Rattle.rg_tree.specs.Phrases as p
use Rattle.rg_tree.specs.Stuck.{Stops, line_at}
use Rattle.rg_tree.specs.Rows.Tables.{at_first}
use Rattle.rg_tree.proofs.Stopping.{spelt-not_stuck}
use Rattle.rg_reader.specs.declared.reader.halt.Halt.TheVariants as halt
use Rattle.rg_parse.specs.Answers.{IsStuckWith}
use Rattle.rg_reader.specs.Steps.{State, Halts}

-- where the reading of a source halts, its tokens are stuck
pub stuck-with : (source : List ℕ) (t : TokenList) {a b : State} (code : Code) (line : ℕ) (f : Fault) → Halts (the p.Program ∷ []) a (halt.At code) b
    → a ≡ record { source = source; rest = t.tokens; counts = at_start; tables = at_first } → line ≡ line_at t.end_line b.rest
    → record { code = code; line = line } ≡ f → IsStuckWith t f
stuck-with source t {a} {b} code line f h e l same =
    let s = subst (λ z. Stops (the p.Program ∷ []) z.counts z.rest code b.rest) e (h.stops []) in
    rw (← same) (b.rest, s, ap (λ n. record { code = code; line = n }) l)

-- then nothing is spelt
pub stuck-spells_none : (source : List ℕ) (t : TokenList) (f : Fault) → IsStuckWith t f → (r : Tree) → Spells source r t.tokens → ⊥
stuck-spells_none source t f h r s = spelt-not_stuck source r t.tokens h.0 f.code s h.1
