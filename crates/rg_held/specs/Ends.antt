-- Walks, steps and runs of the machine that frees end as those over the growing store do (docs/architecture.md, "The machine that frees").
use Rattle.std.specs.Prelude.{◌≡◌, ℕ, Bool as Truth, List, []}
use Rattle.rg_base.specs.declared.value.Val.{Val}
use Rattle.rg_stack.specs.Effects.{Walked, Stops, Returns, Traps, Stuck}
use Rattle.rg_stack.specs.Tops.{Work}
use Rattle.rg_stack.specs.Runs.{Stepped, Goes, Ends, Trapped, Lost, Ran}
use Rattle.rg_held.specs.Alike.{Alike}

-- with some objects held, the two work on the same
abbrev pub Match : (owners : List Val) → Work → Work → (stack : List Val) → Type 0
Match owners u w stack = (held : ℕ → Truth) × Alike held owners u w stack

-- the walk that frees ends as one over the growing store does that isn't stuck; what a frame leaves on the stack may own
abbrev pub SameEnd : Walked → Walked → Type 0
SameEnd (Stops at u) (Stops here w) = (at ≡ here) × Match [] u w []
SameEnd (Stops at u) (Returns back stack w) = ⊥
SameEnd (Stops at u) (Traps t) = ⊥
SameEnd (Stops at u) Stuck = Unit {0}
SameEnd (Returns back stack u) (Stops at w) = ⊥
SameEnd (Returns back stack u) (Returns here left w) = (back ≡ here) × (stack ≡ left) × Match left u w left
SameEnd (Returns back stack u) (Traps t) = ⊥
SameEnd (Returns back stack u) Stuck = Unit {0}
SameEnd (Traps t) (Stops at w) = ⊥
SameEnd (Traps t) (Returns back stack w) = ⊥
SameEnd (Traps t) (Traps kind) = t ≡ kind
SameEnd (Traps t) Stuck = Unit {0}
SameEnd Stuck (Stops at w) = ⊥
SameEnd Stuck (Returns back stack w) = ⊥
SameEnd Stuck (Traps t) = ⊥
SameEnd Stuck Stuck = Unit {0}

-- steps do the same: both go on, both end, or both trap, at the same line
abbrev pub SameStep : Stepped → Stepped → Type 0
SameStep (Goes u) (Goes w) = Match [] u w []
SameStep (Goes u) (Ends w) = ⊥
SameStep (Goes u) (Trapped t line) = ⊥
SameStep (Goes u) Lost = ⊥
SameStep (Ends u) (Goes w) = ⊥
SameStep (Ends u) (Ends w) = Match [] u w []
SameStep (Ends u) (Trapped t line) = ⊥
SameStep (Ends u) Lost = ⊥
SameStep (Trapped t line) (Goes w) = ⊥
SameStep (Trapped t line) (Ends w) = ⊥
SameStep (Trapped t line) (Trapped kind here) = (t ≡ kind) × (line ≡ here)
SameStep (Trapped t line) Lost = ⊥
SameStep Lost (Goes w) = ⊥
SameStep Lost (Ends w) = ⊥
SameStep Lost (Trapped t line) = ⊥
SameStep Lost Lost = ⊥

-- runs do the same: as many steps, the same output and the same ending, and the two machines match
pub record SameRun (r s : Ran) : Type 0 where
  pub match : Match [] r.work s.work []
  pub output : r.output ≡ s.output
  pub steps : r.steps ≡ s.steps
  pub standing : r.standing ≡ s.standing
