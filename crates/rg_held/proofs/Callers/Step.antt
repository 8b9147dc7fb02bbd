-- A step of the machine that frees beside that over the growing store: a walk, and behind a frame's end another one, behind which nothing is
-- refused.
use Rattle.std.proofs.Common.{◌≡◌, inl, inr, ℕ, ◌+◌, true, false, List, [], ◌∷◌, drop, None, refl, sym, subst, ◌∙◌, slice_get}
use Rattle.rg_base.specs.declared.value.Val.{Val}
use Rattle.rg_tree.specs.Tree.{Class, Tree}
use Rattle.rg_rules.specs.Acceptance.{Accepted}
use Rattle.rg_rules.specs.State.{State}
use Rattle.rg_rules.specs.Steps.{Stepped as Plain, Went, Trapped as Fails, next}
use Rattle.rg_sound.specs.Fit.{Fit}
use Rattle.rg_code.specs.declared.op.Op.{Op}
use Rattle.rg_code.specs.declared.op.Op.TheVariants as i
use Rattle.rg_code.specs.Code.{Code}
use Rattle.rg_code.specs.Lowering.{Lowers}
use Rattle.rg_stack.specs.Effects.{Walked, Stops, Returns, Traps, Stuck}
use Rattle.rg_stack.specs.Tops.{Work}
use Rattle.rg_stack.specs.Runs.{Stepped, Goes, Ends, Trapped, Lost, landed, step}
use Rattle.rg_stack.specs.Simulates.{Holds}
use Rattle.rg_stack.specs.Left.{SomeLeft}
use Rattle.rg_stack.specs.Simulates as shown
use Rattle.rg_stack.specs.Given.{given_walk, given_finished, given_step_from, given_step}
use Rattle.rg_stack.specs.Refusals.{Orderly}
use Rattle.rg_stack.proofs.Callers.Step.{steps-given, step-shows}
use Rattle.rg_stack.proofs.Callers.Refusal.{steps-orderly}
use Rattle.rg_held.specs.Frees.{free_given_walk, free_given_finished, free_given_step_from, free_given_step}
use Rattle.rg_held.specs.Ends.{Match, SameEnd, SameStep}
use Rattle.rg_held.specs.Laws.{StepsSame, FreeGivenSame}
use Rattle.rg_held.proofs.Walks.Walk.{drop-next, given-walks-same}
use Rattle.rg_held.proofs.Walks.Less.{step-less}
use Rattle.rg_held.proofs.Walks.Stop.{come-same}
use Rattle.rg_held.proofs.Walks.Back.{Back, walk-back}

-- the walk behind a frame's end stops
landed-same : (code : Code) (x y : Walked) → SameEnd x y → (landed code y ≡ Lost → ⊥) → SameStep (landed code x) (landed code y)
landed-same code (Stops at u) (Stops here w) same h =
    subst (λ n. SameStep (landed code (Stops n u)) (landed code (Stops here w))) (sym same.0) (come-same (slice_get code.ops here) here u w h same.1)
landed-same code (Stops at u) (Returns back stack w) same h = absurd same
landed-same code (Stops at u) (Traps t) same h = absurd same
landed-same code (Stops at u) Stuck same h = absurd (h refl)
landed-same code (Returns back stack u) (Stops at w) same h = absurd same
landed-same code (Returns back stack u) (Returns here left w) same h = absurd (h refl)
landed-same code (Returns back stack u) (Traps t) same h = absurd same
landed-same code (Returns back stack u) Stuck same h = absurd (h refl)
landed-same code (Traps t) (Stops at w) same h = absurd same
landed-same code (Traps t) (Returns back stack w) same h = absurd same
landed-same code (Traps t) (Traps kind) same h = absurd (h refl)
landed-same code (Traps t) Stuck same h = absurd (h refl)
landed-same code Stuck (Stops at w) same h = absurd same
landed-same code Stuck (Returns back stack w) same h = absurd same
landed-same code Stuck (Traps t) same h = absurd same
landed-same code Stuck Stuck same h = absurd (h refl)

finished-same : (code : Code) (line : ℕ) (x y : Walked) → SameEnd x y → Back code.ops y → (given_finished code line y ≡ Lost → ⊥)
    → SameStep (free_given_finished code line x) (given_finished code line y)
finished-same code line (Stops at u) (Stops here w) same back h = landed-same code (Stops at u) (Stops here w) same h
finished-same code line (Stops at u) (Returns back stack w) same calm h = absurd same
finished-same code line (Stops at u) (Traps t) same calm h = absurd same
finished-same code line (Stops at u) Stuck same calm h = absurd (h refl)
finished-same code line (Returns back stack u) (Stops at w) same calm h = absurd same
finished-same code line (Returns back stack u) (Returns here left w) same calm h =
    subst (λ n. SameStep (free_given_finished code line (Returns n stack u)) (given_finished code line (Returns here left w))) (sym same.0)
    (subst (λ s. SameStep (free_given_finished code line (Returns here s u)) (given_finished code line (Returns here left w))) (sym same.1)
    (landed-same code (free_given_walk code (drop here code.ops) here 0 left u) (given_walk code (drop here code.ops) here 0 left w)
    (given-walks-same code here false true left u w calm same.2) h))
finished-same code line (Returns back stack u) (Traps t) same calm h = absurd same
finished-same code line (Returns back stack u) Stuck same calm h = absurd (h refl)
finished-same code line (Traps t) (Stops at w) same calm h = absurd same
finished-same code line (Traps t) (Returns back stack w) same calm h = absurd same
finished-same code line (Traps t) (Traps kind) same calm h = (same, refl)
finished-same code line (Traps t) Stuck same calm h = absurd (h refl)
finished-same code line Stuck (Stops at w) same calm h = absurd same
finished-same code line Stuck (Returns back stack w) same calm h = absurd same
finished-same code line Stuck (Traps t) same calm h = absurd same
finished-same code line Stuck Stuck same calm h = absurd (h refl)

from-same : (code : Code) (u w : Work) (os : List Op) → drop w.machine.at code.ops ≡ os → u.machine.at ≡ w.machine.at → Match [] u w []
    → Orderly code.ops w.machine → (given_step_from code w os ≡ Lost → ⊥) → SameStep (free_given_step_from code u os) (given_step_from code w os)
from-same code u w [] here at m order h = absurd (h refl)
from-same code u w (i.Mark line ∷ os) here at m order h =
    let behind = drop-next code.ops w.machine.at (i.Mark line) os here in
    let walks = subst (λ l. SameEnd (free_given_walk code l (w.machine.at + 1) 0 [] u) (given_walk code l (w.machine.at + 1) 0 [] w)) behind
    (given-walks-same code (w.machine.at + 1) false false [] u w order.here m) in
    subst (λ n. SameStep (free_given_finished code line (free_given_walk code os (n + 1) 0 [] u)) (given_step_from code w (i.Mark line ∷ os)))
    (sym at)
    (finished-same code line (free_given_walk code os (w.machine.at + 1) 0 [] u) (given_walk code os (w.machine.at + 1) 0 [] w) walks
    (walk-back code os (w.machine.at + 1) 0 [] w order.behind) h)
from-same code u w (o ∷ os) here at m order h = absurd (h refl)

-- a step in which each instruction is given what it needs, and which leads on
given-same : (code : Code) (u w : Work) → Match [] u w [] → Orderly code.ops w.machine → (given_step code w ≡ Lost → ⊥)
    → SameStep (free_given_step code u) (given_step code w)
given-same code u w m order h =
    subst (λ n. SameStep (free_given_step_from code u (drop n code.ops)) (given_step code w)) (sym m.1.machine.at)
    (from-same code u w (drop w.machine.at code.ops) refl m.1.machine.at m order h)

not-lost : (classes : List Class) (code : Code) (before : List Val) (d : Plain) (x : Stepped) → shown.SameStep classes code before d x
    → x ≡ Lost → ⊥
not-lost classes code before (Went p) x same e = subst (shown.SameStep classes code before (Went p)) e same
not-lost classes code before (Fails t line) x same e = subst (shown.SameStep classes code before (Fails t line)) e same

-- a step beside one that isn't lost isn't so either
leads-on : (x y : Stepped) → SameStep x y → (y ≡ Lost → ⊥) → x ≡ Lost → ⊥
leads-on x y same h e = by y (subst (λ z. SameStep z y) e same) h
  where
    by : (y : Stepped) → SameStep Lost y → (y ≡ Lost → ⊥) → ⊥
    by (Goes w) same h = same
    by (Ends w) same h = same
    by (Trapped t line) same h = same
    by Lost same h = h refl

given-as-step : (t : Tree) (code : Code) (u w : Work) (p : State) → Accepted t → Lowers t code → Fit t p → Holds t.classes code w p
    → w.printed ≡ None → SomeLeft p.items → Match [] u w []
    → SameStep (free_given_step code u) (step code w) × (step code w ≡ Lost → ⊥)
given-as-step t code u w p accepted lowers fit holds quiet left m =
    let given = steps-given t code w p accepted lowers fit holds quiet left in
    let leads = not-lost t.classes code p.output (next t.classes p) (step code w) (step-shows t code w p accepted lowers fit holds quiet left) in (
      subst (SameStep (free_given_step code u)) given
          (given-same code u w m (steps-orderly t code w.machine p accepted lowers fit holds.shows left)
          (subst (λ x. x ≡ Lost → ⊥) (sym given) leads)),
      leads,
    )

-- over the growing store the step in which each instruction is given what it needs leads on
pub step-leads : (t : Tree) (code : Code) (u w : Work) (p : State) → Accepted t → Lowers t code → Fit t p → Holds t.classes code w p
    → w.printed ≡ None → SomeLeft p.items → Match [] u w [] → given_step code w ≡ Lost → ⊥
step-leads t code u w p accepted lowers fit holds quiet left m e =
    (given-as-step t code u w p accepted lowers fit holds quiet left m).1 (sym (steps-given t code w p accepted lowers fit holds quiet left) ∙ e)

pub free-given-same : FreeGivenSame
free-given-same t code u w p accepted lowers fit holds quiet left m =
    let h = given-as-step t code u w p accepted lowers fit holds quiet left m in
    let leads = leads-on (free_given_step code u) (step code w) h.0 h.1 in
    (elim (step-less code u) [ inl lost ↦ absurd (leads lost) | inr same ↦ same ], leads)

pub steps-same : StepsSame
steps-same t code u w p accepted lowers fit holds quiet left m =
    subst (λ x. SameStep x (step code w)) (free-given-same t code u w p accepted lowers fit holds quiet left m).0
    (given-as-step t code u w p accepted lowers fit holds quiet left m).0
