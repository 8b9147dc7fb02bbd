-- Each state of a run of a behaviour fits, and has the behaviour's object as its first one. For callers.
use Rattle.std.proofs.Common.{◌≡◌, refl, sym, ap, subst, ℕ, zero, suc, ◌+◌, List, [], ◌∷◌, length}
use Rattle.rg_base.specs.declared.object.Label.TheVariants.{Region}
use Rattle.rg_tree.specs.Tree.{Field, Method, Tree}
use Rattle.rg_rules.specs.Acceptance.{Accepted}
use Rattle.rg_rules.specs.Types.{fields_of}
use Rattle.rg_rules.specs.Items.{Item}
use Rattle.rg_rules.specs.State.{State}
use Rattle.rg_rules.specs.Steps.{Stepped, Went, Trapped, step_item, step_first, next}
use Rattle.rg_rules.specs.Runs.{Ran, after_step, run_on, plain_from}
use Rattle.rg_rules.proofs.Run.{plain_from-suc}
use Rattle.rg_sound.proofs.Law.{step-keeps}
use Rattle.rg_opening.specs.declared.given.Given.{Given}
use Rattle.rg_opening.specs.declared.given.Given.TheVariants.{Start, Held}
use Rattle.rg_opening.specs.Opening.{field_values, opening_of}
use Rattle.rg_opening.specs.Beginning.{FieldsBegin, MayBegin}
use Rattle.rg_opening.specs.Laws.{OpeningFits}
use Rattle.rg_first.specs.First.{IsOfBehaviour}
use Rattle.rg_first.specs.Laws.{RunsGoOn, FirstOfRuns}
use Rattle.rg_first.proofs.Steps.{first-stays}

pub step-goes_on : (t : Tree) (class : ℕ) (s u : State) → Accepted t → IsOfBehaviour t class s → next t.classes s ≡ Went u → IsOfBehaviour t class u
step-goes_on t class s u a h went =
    record { fit = (step-keeps t s u a h.fit went).fit; first = first-stays t class s u a h.fit h.first went }

-- one step more
one-goes_on : (t : Tree) (class : ℕ) (s : State) (made : ℕ) → Accepted t → IsOfBehaviour t class s
    → IsOfBehaviour t class (plain_from t.classes 1 made s).state
unfolding plain_from
one-goes_on t class s made a h = by s.items refl
  where
    went : (d : Stepped) → next t.classes s ≡ d → IsOfBehaviour t class (after_step made s d (plain_from t.classes zero (made + 1))).state
    went (Went u) e = step-goes_on t class s u a h e
    went (Trapped kind line) e = h

    by : (items : List Item) → s.items ≡ items → IsOfBehaviour t class (run_on t.classes made s items (plain_from t.classes zero (made + 1))).state
    by [] e = h
    by (i ∷ rest) e = went (step_item t.classes (record s { items = rest }) i) (ap (step_first t.classes s) e)

pub runs-go_on : RunsGoOn
unfolding plain_from
runs-go_on t class s zero made a h = h
runs-go_on t class s (suc n) made a h =
    let r = plain_from t.classes n made s in
    subst (λ (q : Ran). IsOfBehaviour t class q.state) (sym (plain_from-suc t.classes n made s))
    (one-goes_on t class r.state r.steps a (runs-go_on t class s n made a h))

-- there are as many values as fields
values-many : (t : Tree) (fs : List Field) (given : List Given) (n : ℕ) → FieldsBegin t fs given → length (field_values n given) ≡ length fs
values-many t [] [] n h = refl
values-many t [] (g ∷ gs) n h = absurd h
values-many t (f ∷ fs) [] n h = absurd h
values-many t (f ∷ fs) (Start v ∷ gs) n h = ap suc (values-many t fs gs n h.1)
values-many t (f ∷ fs) (Held c ∷ gs) n h = ap suc (values-many t fs gs (n + length c.cells) h.1)

pub begins : OpeningFits → (t : Tree) (class : ℕ) (m : Method) (given : List Given) → Accepted t → MayBegin t class m given
    → IsOfBehaviour t class (opening_of class m given)
begins opening t class m given a may = record {
  fit = opening t class m given a may;
  first = record {
    object = record { class = class; fields = field_values 1 given; label = Region 0 };
    there = refl;
    class_is = refl;
    label_is = refl;
    many = values-many t (fields_of t.classes class) given 1 may.fields;
  };
}

pub first-of_runs : OpeningFits → FirstOfRuns
first-of_runs opening t class m given n made a may =
    runs-go_on t class (opening_of class m given) n made a (begins opening t class m given a may)
