-- Each run of an accepted program's code shows the state of the machine that never frees behind as many steps. For callers.
use Rattle.std.proofs.Common.{◌≡◌, ℕ, zero, suc, ◌+◌, None, List, [], ◌∷◌, refl, sym, ap, subst, ◌∙◌}
use Rattle.rg_base.specs.declared.value.Val.{Val}
use Rattle.rg_tree.specs.Tree.{Block, empty as none, then as more_of, Class, Tree}
use Rattle.rg_rules.specs.Acceptance.{Accepted}
use Rattle.rg_rules.specs.Items.{Item, EndAt, items_of}
use Rattle.rg_rules.specs.State.{State}
use Rattle.rg_rules.specs.Steps.{Stepped as Plain, Went, Trapped as Fails, step_first, next}
use Rattle.rg_rules.specs.Runs.{plain_from, run_on}
use Rattle.rg_rules.specs.Runs as plain
use Rattle.rg_sound.specs.Fit.{Fit}
use Rattle.rg_sound.proofs.Law.{step-keeps}
use Rattle.rg_code.specs.Code.{Code}
use Rattle.rg_code.specs.Lowering.{Lowers}
use Rattle.rg_stack.specs.Tops.{Work}
use Rattle.rg_stack.specs.Runs.{Stepped, Goes, Ends, Trapped, Lost, Running, with_printed, after_step, coded_from, step, opening}
use Rattle.rg_stack.specs.Simulates.{Holds, SameStep, SameEnd, SameRun}
use Rattle.rg_stack.specs.Left.{NoneLeft, SomeLeft}
use Rattle.rg_stack.specs.Laws.{RunShows}
use Rattle.rg_stack.proofs.Callers.Step.{step-shows}
use Rattle.rg_stack.proofs.Callers.Opening.{opening-shows, opening-fit}

-- a run without items is done
done_is : (classes : List Class) (n made : ℕ) (p : State) (items : List Item) → p.items ≡ items → NoneLeft items → plain_from classes n made p
    ≡ record { state = p; steps = made; ending = plain.Done }
unfolding plain_from
done_is classes zero made p [] e h = ap (λ l. record { state = p; steps = made; ending = plain.ending_of l }) e
done_is classes (suc n) made p [] e h = ap (λ l. run_on classes made p l (plain_from classes n (made + 1))) e
done_is classes n made p (i ∷ rest) e h = absurd h

-- one with items goes on with the next step
goes_is : (classes : List Class) (n made : ℕ) (p : State) (items : List Item) → p.items ≡ items → SomeLeft items → plain_from classes (suc n) made p
    ≡ plain.after_step made p (next classes p) (plain_from classes n (made + 1))
unfolding plain_from
goes_is classes n made p [] e h = absurd h
goes_is classes n made p (i ∷ rest) e h =
    ap (λ l. run_on classes made p l (plain_from classes n (made + 1))) e
    ∙ ap (λ l. plain.after_step made p (step_first classes p l) (plain_from classes n (made + 1))) (sym e)

-- behind a step
from_step : (classes : List Class) (code : Code) (n made : ℕ) (w : Work) (output : List Val) (p : State) (d : Plain) (x : Stepped) → output
    ≡ p.output → Holds classes code w p → SameStep classes code p.output d x
    → ((q : State) (y : Work) (more : List Val) → d ≡ Went q → more ≡ q.output → Holds classes code y q → y.printed ≡ None → SomeLeft q.items
    → SameRun classes code (coded_from code n (made + 1) y more) (plain_from classes n (made + 1) q))
    → SameRun classes code (after_step made output w x (coded_from code n (made + 1))) (plain.after_step made p d (plain_from classes n (made + 1)))
from_step classes code n made w output p (Went q) (Goes x) out h same go =
    go q (record x { printed = None }) (with_printed output x.printed) refl (ap (λ o. with_printed o x.printed) out ∙ sym same.0.output)
    (record { shows = same.0.holds.shows; input = same.0.holds.input }) refl same.1
from_step classes code n made w output p (Went q) (Ends x) out h same go =
    subst (λ r. SameRun classes code (after_step made output w (Ends x) (coded_from code n (made + 1))) r)
    (sym (done_is classes n (made + 1) q q.items refl same.1))
    (record { holds = same.0.holds; output = ap (λ o. with_printed o x.printed) out ∙ sym same.0.output; steps = refl; ending = tt })
from_step classes code n made w output p (Went q) (Trapped t line) out h same go = absurd same
from_step classes code n made w output p (Went q) Lost out h same go = absurd same
from_step classes code n made w output p (Fails t line) (Goes x) out h same go = absurd same
from_step classes code n made w output p (Fails t line) (Ends x) out h same go = absurd same
from_step classes code n made w output p (Fails t line) (Trapped u here) out h same go = record
    { holds = h; output = out; steps = refl; ending = same }
from_step classes code n made w output p (Fails t line) Lost out h same go = absurd same

running_is : (items : List Item) → SomeLeft items → plain.ending_of items ≡ plain.Running
running_is [] h = absurd h
running_is (i ∷ rest) h = refl

-- a run from states that the machine shows
runs_from : (t : Tree) (code : Code) → Accepted t → Lowers t code → (n made : ℕ) (w : Work) (output : List Val) (p : State) → Fit t p
    → Holds t.classes code w p → w.printed ≡ None → SomeLeft p.items → output ≡ p.output
    → SameRun t.classes code (coded_from code n made w output) (plain_from t.classes n made p)
unfolding plain_from coded_from
runs_from t code accepted lowers zero made w output p fit h quiet left out = record {
  holds = h;
  output = out;
  steps = refl;
  ending = subst (λ e. SameEnd e Running) (sym (running_is p.items left)) tt;
}
runs_from t code accepted lowers (suc n) made w output p fit h quiet left out =
    subst (λ r. SameRun t.classes code (after_step made output w (step code w) (coded_from code n (made + 1))) r)
    (sym (goes_is t.classes n made p p.items refl left))
    (from_step t.classes code n made w output p (next t.classes p) (step code w) out h (step-shows t code w p accepted lowers fit h quiet left)
    (λ q y more went same holds silent some. runs_from t code accepted lowers n (made + 1) y more q (step-keeps t p q accepted fit went).fit holds
    silent some same))

-- main's block has an item at least
pub opening_left : (b : Block) → SomeLeft (items_of b (EndAt 0 ∷ []))
opening_left none = tt
opening_left (more_of s b) = tt

pub run-shows : RunShows
run-shows t code input n accepted lowers =
    runs_from t code accepted lowers n 0 (opening t code input) [] (plain.opening t input) (opening-fit t input accepted)
    (opening-shows t code input accepted lowers) refl (opening_left t.body) refl
