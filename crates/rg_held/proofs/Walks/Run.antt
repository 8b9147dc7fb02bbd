-- A run of the machine that frees beside that over the growing store, step by step.
use Rattle.std.proofs.Common.{◌≡◌, ℕ, zero, suc, ◌+◌, List, [], None, refl, ap, subst, ◌∙◌}
use Rattle.rg_base.specs.declared.value.Val.{Val}
use Rattle.rg_tree.specs.Tree.{Class, Tree}
use Rattle.rg_rules.specs.Acceptance.{Accepted}
use Rattle.rg_rules.specs.Runs as plain
use Rattle.rg_rules.specs.State.{State}
use Rattle.rg_rules.specs.Steps.{Stepped as Plain, Went, Trapped as Fails, next}
use Rattle.rg_sound.specs.Fit.{Fit}
use Rattle.rg_sound.proofs.Law.{step-keeps}
use Rattle.rg_code.specs.Code.{Code}
use Rattle.rg_code.specs.Lowering.{Lowers}
use Rattle.rg_stack.specs.Tops.{Work}
use Rattle.rg_stack.specs.Runs.{Stepped, Goes, Ends, Trapped, Lost, Stopped, with_printed, after_step, coded_from, step, opening}
use Rattle.rg_stack.specs.Simulates.{Holds}
use Rattle.rg_stack.specs.Left.{SomeLeft}
use Rattle.rg_stack.specs.Simulates as shown
use Rattle.rg_stack.proofs.Callers.Step.{step-shows}
use Rattle.rg_stack.proofs.Callers.Opening.{opening-shows, opening-fit}
use Rattle.rg_stack.proofs.Callers.Run.{opening_left}
use Rattle.rg_held.specs.Frees.{free_coded_from, free_step}
use Rattle.rg_held.specs.Ends.{Match, SameStep, SameRun}
use Rattle.rg_held.specs.Laws.{RunsSame}
use Rattle.rg_held.proofs.Callers.Opening.{opening-match}
use Rattle.rg_held.proofs.Callers.Step.{steps-same}

-- what was printed is said
quiet-match : (u w : Work) → Match [] u w [] → Match [] (record u { printed = None }) (record w { printed = None }) []
quiet-match u w m = (m.0, record { machine = m.1.machine; input = m.1.input; printed = refl })

outputs : (u w : Work) (more output : List Val) → more ≡ output → Match [] u w [] → with_printed more u.printed ≡ with_printed output w.printed
outputs u w more output e m = ap (λ o. with_printed o u.printed) e ∙ ap (with_printed output) m.1.printed

-- behind a step
from-step : (code : Code) (n made : ℕ) (u w : Work) (more output : List Val) (x y : Stepped) → more ≡ output → Match [] u w [] → SameStep x y
    → ((a b : Work) (so_far here : List Val) → y ≡ Goes b → so_far ≡ here → Match [] (record a { printed = None }) (record b { printed = None }) []
    → SameRun (free_coded_from code n (made + 1) (record a { printed = None }) so_far)
    (coded_from code n (made + 1) (record b { printed = None }) here))
    → SameRun (after_step made more u x (free_coded_from code n (made + 1))) (after_step made output w y (coded_from code n (made + 1)))
from-step code n made u w more output (Goes a) (Goes b) e m same go =
    go a b (with_printed more a.printed) (with_printed output b.printed) refl (outputs a b more output e same) (quiet-match a b same)
from-step code n made u w more output (Goes a) (Ends b) e m same go = absurd same
from-step code n made u w more output (Goes a) (Trapped t line) e m same go = absurd same
from-step code n made u w more output (Goes a) Lost e m same go = absurd same
from-step code n made u w more output (Ends a) (Goes b) e m same go = absurd same
from-step code n made u w more output (Ends a) (Ends b) e m same go = record
    { match = same; output = outputs a b more output e same; steps = refl; standing = refl }
from-step code n made u w more output (Ends a) (Trapped t line) e m same go = absurd same
from-step code n made u w more output (Ends a) Lost e m same go = absurd same
from-step code n made u w more output (Trapped t line) (Goes b) e m same go = absurd same
from-step code n made u w more output (Trapped t line) (Ends b) e m same go = absurd same
from-step code n made u w more output (Trapped t line) (Trapped kind here) e m same go = record
    { match = m; output = e; steps = refl; standing = ap (λ k. Stopped k line) same.0 ∙ ap (Stopped kind) same.1 }
from-step code n made u w more output (Trapped t line) Lost e m same go = absurd same
from-step code n made u w more output Lost (Goes b) e m same go = absurd same
from-step code n made u w more output Lost (Ends b) e m same go = absurd same
from-step code n made u w more output Lost (Trapped t line) e m same go = absurd same
from-step code n made u w more output Lost Lost e m same go = record { match = m; output = e; steps = refl; standing = refl }

-- where a step goes on, the next state is shown
record Shown (classes : List Class) (code : Code) (d : Plain) (w : Work) : Type 0 where
  state : State
  went : d ≡ Went state
  holds : Holds classes code w state
  left : SomeLeft state.items

shown-behind : (classes : List Class) (code : Code) (before : List Val) (d : Plain) (w : Work) → shown.SameStep classes code before d (Goes w)
    → Shown classes code d (record w { printed = None })
shown-behind classes code before (Went q) w same = record {
  state = q;
  went = refl;
  holds = record { shows = same.0.holds.shows; input = same.0.holds.input };
  left = same.1;
}
shown-behind classes code before (Fails t line) w same = absurd same

runs-from : (t : Tree) (code : Code) → Accepted t → Lowers t code → (n made : ℕ) (u w : Work) (more output : List Val) (p : State) → Fit t p
    → Holds t.classes code w p → w.printed ≡ None → SomeLeft p.items → more ≡ output → Match [] u w []
    → SameRun (free_coded_from code n made u more) (coded_from code n made w output)
unfolding coded_from free_coded_from
runs-from t code accepted lowers zero made u w more output p fit holds quiet left e m = record
    { match = m; output = e; steps = refl; standing = refl }
runs-from t code accepted lowers (suc n) made u w more output p fit holds quiet left e m =
    from-step code n made u w more output (free_step code u) (step code w) e m
    (steps-same t code u w p accepted lowers fit holds quiet left m)
    (λ a b so_far here goes same match.
    let h = shown-behind t.classes code p.output (next t.classes p) b
    (subst (shown.SameStep t.classes code p.output (next t.classes p)) goes (step-shows t code w p accepted lowers fit holds quiet left)) in
    runs-from t code accepted lowers n (made + 1) (record a { printed = None }) (record b { printed = None }) so_far here h.state
    (step-keeps t p h.state accepted fit h.went).fit h.holds refl h.left same match)

pub runs-same : RunsSame
runs-same t code input n accepted lowers =
    runs-from t code accepted lowers n 0 (opening t code input) (opening t code input) [] [] (plain.opening t input) (opening-fit t input accepted)
    (opening-shows t code input accepted lowers) refl (opening_left t.body) refl (opening-match t code input)
