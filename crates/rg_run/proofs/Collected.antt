-- The collections of a run, one step after another.
use Rattle.std.proofs.Common.{◌≡◌, ◌≢◌, ◌-◌, ◌^◌, ◌≤◌, ◌<◌, ◌⊎◌, inl, inr, ℕ, zero, suc, ◌+◌, true, List, [], ◌∷◌, ◌++◌, length, Option, Some, None}
use Rattle.std.proofs.Common.{refl, sym, ap, subst, ◌∙◌, arith, slice_get, add-one}
use Rattle.std.proofs.lemmas.Option.{none-some, same_Some}
use Rattle.std.proofs.lemmas.Bool.{cases_lt as order}
use Rattle.std.proofs.lemmas.List.{append_cancel_left}
use Rattle.rg_base.specs.declared.event.Cause.TheVariants.{Asked}
use Rattle.rg_base.specs.declared.event.Event.{Event}
use Rattle.rg_base.specs.declared.outcome.Outcome.{Outcome}
use Rattle.rg_base.specs.declared.outcome.Outcome.TheVariants as outcome
use Rattle.rg_base.specs.declared.words.Manager.{Manager}
use Rattle.rg_base.specs.declared.words.Manager.TheVariants.{Arena}
use Rattle.rg_tree.specs.Tree.{Tree}
use Rattle.rg_tree.specs.Rows.Tables.{Tables}
use Rattle.rg_tree.specs.Rows.RowTrees.{program_of}
use Rattle.rg_rules.specs.Items.{Item}
use Rattle.rg_rules.specs.State.{State, active}
use Rattle.rg_rules.specs.Steps.{Went, next}
use Rattle.rg_rules.specs.Runs.{opening, plain, plain_from}
use Rattle.rg_rules.proofs.Run.{one_more, one_more-went, plain_from-suc}
use Rattle.rg_code.specs.Code.{Code}
use Rattle.rg_code.specs.Dues.{due_at}
use Rattle.rg_machine.specs.Parts.{machine_in}
use Rattle.rg_stack.specs.Dues.{first_due}
use Rattle.rg_stack.specs.Machine.{Machine}
use Rattle.rg_stack.proofs.Callers.Due.{steps-due}
use Rattle.rg_step.specs.States.{OneStep, Standing}
use Rattle.rg_step.specs.Steps.{Leapt, counted, is_made}
use Rattle.rg_step.proofs.Callers.Told.{EventTold, asked-told, event-told}
use Rattle.rg_run.specs.Collected.{IsManaged, Tells, Told}
use Rattle.rg_run.specs.Inner.{Adds, OneMore, behind}
use Rattle.rg_run.proofs.Ask.{at}
use Rattle.rg_run.proofs.Collects.{event-collects}
use Rattle.rg_run.proofs.Report.{step-adds}
use Rattle.rg_run.proofs.Turn.{Between, leapt}

-- Lists

-- what stands in a list with one more
last-or : (xs : List Event) (y u : Event) (j : ℕ) → slice_get (xs ++ y ∷ []) j ≡ Some u
    → ((y ≡ u) × (j ≡ length xs)) ⊎ ((slice_get xs j ≡ Some u) × (j < length xs))
last-or [] y u zero e = inl (same_Some y u e, refl)
last-or [] y u (suc j) e = absurd (none-some u e)
last-or (x ∷ xs) y u zero e = inr (e, omega arith)
last-or (x ∷ xs) y u (suc j) e = elim (last-or xs y u j e) [
  | inl (is, end) ↦ inl (is, omega (arith, end))
  | inr (there, less) ↦ inr (there, omega (arith, less))
]

there-still : (xs : List Event) (y u : Event) (j : ℕ) → slice_get xs j ≡ Some u → slice_get (xs ++ y ∷ []) j ≡ Some u
there-still [] y u j e = absurd (none-some u e)
there-still (x ∷ xs) y u zero e = e
there-still (x ∷ xs) y u (suc j) e = there-still xs y u j e

there-last : (xs : List Event) (y : Event) → slice_get (xs ++ y ∷ []) (length xs) ≡ Some y
there-last [] y = refl
there-last (x ∷ xs) y = there-last xs y

longer : (xs : List Event) (e : Event) → xs ≡ xs ++ e ∷ [] → ⊥
longer [] e is = cc
longer (x ∷ xs) e is = longer xs e (append_cancel_left (x ∷ []) xs (xs ++ e ∷ []) is)

split : (i k : ℕ) → (i < k) ⊎ (k ≤ i)
split i k = order i k

-- One state after another

went_by : (t : Tree) (u v : State) (k : ℕ) (items : List Item) → u.items ≡ items → items ≢ [] → next t.classes u ≡ Went v →
    (plain_from t.classes 1 k u).state ≡ v
went_by t u v k [] is some went = absurd (some refl)
went_by t u v k (i ∷ rest) is some went = ap (λ r. r.state) (one_more-went t.classes k u v i rest is went)

pub state-next : (t : Tree) (input : List ℕ) (k : ℕ) (u v : State) → plain_from t.classes k 0 (opening t input) ≡ at u k → u.items ≢ [] →
    next t.classes u ≡ Went v → (plain t input (k + 1)).state ≡ v
state-next t input k u v is some went =
    ap (λ r. r.state) (more ∙ ap (one_more t.classes) is) ∙ went_by t u v k u.items refl some went
  where
    more : plain_from t.classes (k + 1) 0 (opening t input) ≡ one_more t.classes (plain_from t.classes k 0 (opening t input))
    more = rw add-one (plain_from-suc t.classes k 0 (opening t input))

-- Steps

module _ (t : Tree) (input : List ℕ) (k : ℕ) (old new : List Event) (so_far : Tells t input k old) where
  -- no step more tells a collection
  tells-still : (j : ℕ) → k ≤ j → new ≡ old → ((i : ℕ) (m : Manager) → k ≤ i → i < j →
      first_due t.classes (plain t input i).state.items ≡ Some Asked → IsManaged (plain t input (i + 1)).state m → m ≢ Arena → ⊥) →
      Tells t input j new
  tells-still j more same none = subst (Tells t input j) (sym same) (record {
    each = so_far.each;
    within = λ i e at. (let w = so_far.within i e at in omega (arith, w, more));
    rise = so_far.rise;
    all = λ i m less due managed never. elim (split i k) [
      | inl before ↦ so_far.all i m before due managed never
      | inr from ↦ absurd (none i m from less due managed never)
    ];
  })

  -- one step more, with this state before it and that one behind it
  module _ (p q : State) (before : (plain t input k).state ≡ p) (after : (plain t input (k + 1)).state ≡ q) where
    told-at : (e : Event) → EventTold t p q (k + 1) e → e.manager ≢ Arena → Told t input e
    told-at e h collects =
        let P : State → Type 0 = λ s. first_due t.classes s.items ≡ Some e.cause in
        let R : State → Type 0 = λ s. e.region ≡ active s.windows in
        let M : State → Type 0 = λ s. IsManaged s e.manager in
        let K : State → Type 0 = λ s. EventTold t p s (k + 1) e in
        record {
          before = k;
          step = h.step;
          due = subst P (sym before) h.due;
          region = subst R (sym after) h.region;
          manager = subst M (sym after) h.manager;
          collects = collects;
          kept = (subst K (sym after) h).kept;
        }

    pub tells-next : OneMore (k + 1) old new → ((e : Event) → new ≡ old ++ e ∷ [] → EventTold t p q (k + 1) e) →
        ((e : Event) → new ≡ old ++ e ∷ [] → e.manager ≢ Arena) →
        (first_due t.classes p.items ≡ Some Asked → (m : Manager) → IsManaged q m → m ≢ Arena → (e : Event) × (new ≡ old ++ e ∷ [])) →
        Tells t input (k + 1) new
    tells-next (inl same) event collects asked = tells-still (k + 1) (omega arith) same (λ i m from less due managed never.
        let here : i ≡ k = omega (arith, from, less) in
        let D : ℕ → Type 0 = λ n. first_due t.classes (plain t input n).state.items ≡ Some Asked in
        let M : ℕ → Type 0 = λ n. IsManaged (plain t input (n + 1)).state m in
        let E : State → Type 0 = λ s. first_due t.classes s.items ≡ Some Asked in
        let N : State → Type 0 = λ s. IsManaged s m in
        let e = asked (subst E before (subst D here due)) m (subst N after (subst M here managed)) never in
        longer old e.0 (sym same ∙ e.1))
    tells-next (inr (e, is, number)) event collects asked = subst (Tells t input (k + 1)) (sym is) (record {
      each = λ i d at. elim (last-or old e d i at) [
        | inl (last, end) ↦ subst (Told t input) last (told-at e (event e is) (collects e is))
        | inr (there, less) ↦ so_far.each i d there
      ];
      within = λ i d at. elim (last-or old e d i at) [
        | inl (last, end) ↦ (let s : d.step ≡ k + 1 = ap (λ (x : Event). x.step) (sym last) ∙ number in omega (arith, s))
        | inr (there, less) ↦ (let w = so_far.within i d there in omega (arith, w))
      ];
      rise = λ i j d f less at here. elim (last-or old e f j here) [
        | inl (last, end) ↦ elim (last-or old e d i at) [
          | inl (first, begin) ↦ absurd (omega (arith, less, end, begin))
          | inr (there, within) ↦ (
              let w = so_far.within i d there in
              let s : f.step ≡ k + 1 = ap (λ (x : Event). x.step) (sym last) ∙ number in
              omega (arith, w, s)
              )
        ]
        | inr (there, within) ↦ elim (last-or old e d i at) [
          | inl (first, begin) ↦ absurd (omega (arith, less, within, begin))
          | inr (so, under) ↦ so_far.rise i j d f less so there
        ]
      ];
      all = λ i m less due managed never. elim (split i k) [
        | inl sooner ↦ (let a = so_far.all i m sooner due managed never in (a.0, a.1, there-still old e a.1 a.0 a.2, a.3))
        | inr from ↦ (let here : i ≡ k = omega (arith, from, less) in
            (length old, e, there-last old e, number ∙ ap (λ n. n + 1) (sym here)))
      ];
    })

counts-on : (k old new : ℕ) → new ≡ counted old → old ≡ k → k < 2 ^ 64 - 1 → new ≡ k + 1
counts-on k old new counts is room = grind (arith, counts, is, room)

module _ (t : Tables) (code : Code) (k : ℕ) (old new : Standing) (taken out : Option (List ℕ)) (Still : Type 0) (before between : List ℕ)
    (b : Between t code k (machine_in old.stepper.parts) taken out Still before between)
    (so_far : Tells (program_of t) before k old.stepper.events) (steps : old.stepper.steps ≡ k) (room : k < 2 ^ 64 - 1) where
  adds : (r : Outcome) {end : List ℕ} → OneStep code old new r between end → Adds new.stepper.steps old.stepper.events new.stepper.events r
  adds r one =
      step-adds (due_at code.ops old.stepper.parts.at) old.stepper one.serves.mid new.stepper old.pacers new.pacers r one.serves.does

  tells-more : (r : Outcome) (end : List ℕ) → is_made r ≡ true → (one : OneStep code old new r between end) → (q : State) →
      next (program_of t).classes b.state ≡ Went q → OneMore new.stepper.steps old.stepper.events new.stepper.events →
      new.stepper.steps ≡ counted old.stepper.steps → Tells (program_of t) before (k + 1) new.stepper.events
  tells-more r end made one q went more counts =
      let p = program_of t in
      let number : new.stepper.steps ≡ k + 1 = counts-on k old.stepper.steps new.stepper.steps counts steps room in
      let M : ℕ → Type 0 = λ n. OneMore n old.stepper.events new.stepper.events in
      let E : ℕ → Type 0 = λ n. (e : Event) → new.stepper.events ≡ old.stepper.events ++ e ∷ [] → EventTold p b.state q n e in
      tells-next p before k old.stepper.events new.stepper.events so_far b.state q (ap (λ x. x.state) b.so_far.ran_is)
      (state-next p before k b.state q b.so_far.ran_is b.so_far.some went) (subst M number more)
      (subst E number (event-told p code old new r between end made one b.state q b.runs b.input went))
      (event-collects code old new r between end made one)
      (asked-told p code old new r between end made one b.state q b.runs b.input went)

  pub tells-by : (end : List ℕ) (r : Outcome) → OneStep code old new r between end → Tells (program_of t) before (behind k r) new.stepper.events
  tells-by end outcome.Running one =
      let h = one.shows (program_of t) b.state b.runs b.input in
      tells-more outcome.Running end refl one h.0 h.1.0 (adds outcome.Running one) one.counts
  tells-by end (outcome.Printed v) one =
      let h = one.shows (program_of t) b.state b.runs b.input in
      tells-more (outcome.Printed v) end refl one h.0 h.1.0 (adds (outcome.Printed v) one) one.counts
  tells-by end outcome.Done one =
      let h = one.shows (program_of t) b.state b.runs b.input in
      tells-more outcome.Done end refl one h.0 h.1.0 (adds outcome.Done one) one.counts
  tells-by end (outcome.Trap kind line) one = subst (Tells (program_of t) before k) (sym (adds (outcome.Trap kind line) one)) so_far
  tells-by end outcome.InputFault one = subst (Tells (program_of t) before k) (sym (adds outcome.InputFault one)) so_far
  tells-by end outcome.Memory one = subst (Tells (program_of t) before k) (sym (adds outcome.Memory one)) so_far

-- steps that were made at once tell none, and none is left out
pub tells-leapt : (t : Tables) (code : Code) (k j : ℕ) (m new : Machine) (Still : Type 0) (before between : List ℕ) (old out : Option (List ℕ))
    (events : List Event) → Between t code k m old out Still before between → Leapt code j m new → Tells (program_of t) before k events →
    Tells (program_of t) before (k + j) events
tells-leapt t code k zero m new Still before between old out events b h so_far =
    let same : k ≡ k + 0 = omega arith in
    let P : ℕ → Type 0 = λ n. Tells (program_of t) before n events in subst P same so_far
tells-leapt t code k (suc j) m new Still before between old out events b h so_far =
    let p = program_of t in
    let c = leapt t code k j m h.0 Still before between old out b h.1 in
    let shown = c.runs.shows in
    let undue : first_due p.classes c.state.items ≡ None =
    sym (steps-due p code shown.grown c.state c.runs.accepted c.runs.fits shown.shows c.runs.left)
    ∙ ap (due_at code.ops) (sym shown.beside.at) ∙ h.2 in
    let q = h.3 between p c.state c.runs c.input in
    let same : k + j + 1 ≡ k + suc j = omega arith in
    let P : ℕ → Type 0 = λ n. Tells p before n events in
    subst P same
    (tells-next p before (k + j) events events (tells-leapt t code k j m h.0 Still before between old out events b h.1 so_far) c.state q.0
    (ap (λ x. x.state) c.so_far.ran_is) (state-next p before (k + j) c.state q.0 c.so_far.ran_is c.so_far.some q.1.0) (inl refl)
    (λ e is. absurd (longer events e is)) (λ e is. absurd (longer events e is)) (λ due. absurd (none-some Asked (sym undue ∙ due))))
