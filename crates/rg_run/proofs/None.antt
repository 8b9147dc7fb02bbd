-- Where no step was made, no collection is told.
use Rattle.std.proofs.Common.{◌≡◌, ℕ, List, [], sym, subst, arith}
use Rattle.std.proofs.lemmas.Option.{none-some}
use Rattle.rg_base.specs.declared.event.Event.{Event}
use Rattle.rg_tree.specs.Tree.{Tree}
use Rattle.rg_run.specs.Collected.{Tells}

-- no step was made
pub tells-none : (t : Tree) (input : List ℕ) (k : ℕ) (events : List Event) → k ≡ 0 → events ≡ [] → Tells t input k events
tells-none t input k events first none = subst (Tells t input k) (sym none) (record {
  each = λ i e at. absurd (none-some e at);
  within = λ i e at. absurd (none-some e at);
  rise = λ i j d e less at. absurd (none-some d at);
  all = λ i m less. absurd (omega (arith, first, less));
})
