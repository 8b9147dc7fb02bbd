-- What a step writes: what the plain step from the state that the machine shows does.
use Rattle.std.proofs.Common.{◌≡◌, ◌≢◌, ◌⊎◌, inl, inr, ℕ, true, false, Bool, List, [], ◌∷◌, Option, Some, None, option_map, slice_get}
use Rattle.std.proofs.Common.{slice_set, Result, Ok, refl, sym, ap, ◌∙◌, subst}
use Rattle.std.proofs.lemmas.Bool.{cases_eq}
use Rattle.std.proofs.lemmas.Option.{same_Some}
use Rattle.rg_base.specs.declared.object.Label.{Label}
use Rattle.rg_base.specs.declared.object.Label.TheVariants.{Region, Temp}
use Rattle.rg_base.specs.declared.object.Place.{Place}
use Rattle.rg_base.specs.declared.object.Place.TheVariants.{Var, Field}
use Rattle.rg_base.specs.declared.object.Seen.{Seen}
use Rattle.rg_base.specs.declared.outcome.Outcome.{Outcome}
use Rattle.rg_base.specs.declared.outcome.Outcome.TheVariants as outcome
use Rattle.rg_base.specs.declared.outcome.Trap.{Trap}
use Rattle.rg_base.specs.declared.value.Val.{Val}
use Rattle.rg_base.specs.declared.value.Val.TheVariants.{Obj}
use Rattle.rg_tree.specs.Tree.{Name, Tree}
use Rattle.rg_rules.specs.Evaluation.{object_at, with_element}
use Rattle.rg_rules.specs.Items.{Item, Do, EndAt, LeaveAt, LeaveGiving, Back}
use Rattle.rg_rules.specs.State.{State, Window as Opened, locals_of, top_number, value_in}
use Rattle.rg_rules.specs.Steps.{Went, next, put_at, step_first, step_leave, step_leave_giving}
use Rattle.rg_rules.proofs.Answers.{then-ok}
use Rattle.rg_rules.proofs.Step.{stepped-went}
use Rattle.rg_sound.specs.Fit.{Fit}
use Rattle.rg_sound.specs.OpenRegions.{AllOwned, IsNear}
use Rattle.rg_sound.specs.Writes.{AllowedBy, WritesActive, fields_at}
use Rattle.rg_sound.proofs.Law.{step-keeps}
use Rattle.rg_sound.proofs.Owners.Owner.{get-set, get-set-other}
use Rattle.rg_sound.proofs.Stores.Element.{put_element-is}
use Rattle.rg_code.specs.Code.{Code}
use Rattle.rg_stack.specs.Machine.{Machine, Window}
use Rattle.rg_stack.specs.Tops.{top_region, top_window, top_owner, without_top}
use Rattle.rg_stack.specs.Shows.{ShowsWindows, sizes_of}
use Rattle.rg_held.specs.Gone.{gone}
use Rattle.rg_held.specs.Shown.{ShowsHeld}
use Rattle.rg_step.specs.Steps.{IsRunning, Runs, Settles, StepsOn}
use Rattle.rg_step.specs.Writes.{DifferAt, IsOwnersField, MayWrite, Writable, WritesOnly}
use Rattle.rg_step.proofs.Giving.{first_gives, runs-give}
use Rattle.rg_step.proofs.Walking.Run.{with-input}
use Rattle.rg_step.proofs.Callers.Active.{active-of}

-- of each object that is held before and behind, and has other fields then, a fact holds
abbrev Changed : (old new : Machine) → (ℕ → Seen → Seen → Type 0) → Type 0
Changed old new P = (a : ℕ) (o n : Seen) → slice_get old.store a ≡ Some o → slice_get new.store a ≡ Some n → o ≢ gone → n ≢ gone
    → n.fields ≢ o.fields → P a o n

-- an object that a machine shows, and that isn't gone, is the state's
shown-there : (t : Tree) (code : Code) (m : Machine) (p : State) → ShowsHeld t.classes code m p → (a : ℕ) (o : Seen)
    → slice_get m.store a ≡ Some o → o ≢ gone → slice_get p.store a ≡ Some o
shown-there t code m p h a o there held = by (h.held a) refl
  where
    grown : slice_get h.grown.store a ≡ slice_get p.store a
    grown = ap (λ (s : List Seen). slice_get s a) h.shows.store

    buried : (x : Option Seen) → option_map (λ (y : Seen). gone) x ≡ Some o → gone ≡ o
    buried None e = cc
    buried (Some y) e = cc

    by : (b : Bool) → h.held a ≡ b → slice_get p.store a ≡ Some o
    by true e = sym grown ∙ sym (h.beside.same a e) ∙ there
    by false e = absurd (held (sym (buried (slice_get h.grown.store a) (sym (h.beside.others a e) ∙ there))))

ok-is : {E : Type 0} (x y : State) → ◌≡◌ {A = Result State E} (Ok x) (Ok y) → x ≡ y
ok-is x y e = cc

same-window : (sizes : List ℕ) (ws : List Window) (ps : List Opened) → ShowsWindows sizes ws ps → top_number ps ≡ top_window ws
same-window sizes [] [] h = refl
same-window sizes [] (p ∷ ps) h = absurd h
same-window sizes (w ∷ ws) [] h = absurd h
same-window sizes (w ∷ ws) (p ∷ ps) h = sym h.0.number

-- what the windows of a state beneath the topmost one may write the machine may, once that window is gone
beneath-writable : (sizes : List ℕ) (ws : List Window) (w v : Opened) (us : List Opened) (m : Machine) (l : Label)
    → ShowsWindows sizes ws (w ∷ v ∷ us) → m.windows ≡ ws → (l ≡ Region v.region) ⊎ (l ≡ Temp v.number)
    → Writable (record m { windows = without_top m.windows }) l
beneath-writable sizes [] w v us m l h is near = absurd h
beneath-writable sizes (x ∷ []) w v us m l h is near = absurd h.1
beneath-writable sizes (x ∷ y ∷ zs) w v us m l h is (inl e) =
    inl (e ∙ ap Region (sym h.1.0.region ∙ ap (λ (q : List Window). top_region (without_top q)) (sym is)))
beneath-writable sizes (x ∷ y ∷ zs) w v us m l h is (inr e) =
    inr (e ∙ ap Temp (sym h.1.0.number ∙ ap (λ (q : List Window). top_window (without_top q)) (sym is)))

-- the place of the owner is the same
same-owner : (sizes : List ℕ) (ws : List Window) (w v : Opened) (us : List Opened) → ShowsWindows sizes ws (w ∷ v ∷ us) → top_owner ws ≡ w.owner
same-owner sizes [] w v us h = absurd h
same-owner sizes (x ∷ []) w v us h = absurd h.1
same-owner sizes (x ∷ y ∷ zs) w v us h = h.0.owner

-- where the place of an owner takes a value, at most a field of the object at that place differs
set-differs : (store : List Seen) (b k : ℕ) (v : Val) (o : Seen) → slice_get store b ≡ Some o → (a : ℕ) (before after : Seen)
    → slice_get store a ≡ Some before → slice_get (slice_set store b (with_element k v o)) a ≡ Some after → after.fields ≢ before.fields
    → (b ≡ a) × (before ≡ o) × DifferAt k before after
set-differs store b k v o there a before after was is differ = elim (cases_eq a b) [
  | inl same ↦ (
    sym same,
    same_Some before o (sym was ∙ ap (slice_get store) same ∙ there),
    λ j other.
        ap (λ (x : Seen). slice_get x.fields j) (same_Some after (with_element k v o)
        (sym is ∙ ap (slice_get (slice_set store b (with_element k v o))) same ∙ get-set store b (with_element k v o) o there))
        ∙ get-set-other o.fields k j v other
        ∙ ap (λ (x : Seen). slice_get x.fields j) (sym (same_Some before o (sym was ∙ ap (slice_get store) same ∙ there))),
  )
  | inr other ↦
      absurd (differ (ap (λ (x : Seen). x.fields) (same_Some after before (sym is ∙ get-set-other store b a (with_element k v o) other ∙ was))))
]

module _ (t : Tree) (code : Code) (old new : Machine) (p q : State) (h : ShowsHeld t.classes code old p) (k : ShowsHeld t.classes code new q) where
  -- what may be written in the state may be written in the machine
  active-only : WritesActive p q → Changed old new (λ a o n. Writable old o.label)
  active-only allowed a o n there here was is differ =
      let before = shown-there t code old p h a o there was in
      let after = shown-there t code new q k a n here is in
      let fields : fields_at q.store a ≡ Some n.fields = ap (option_map (λ (x : Seen). x.fields)) after in
      let may = allowed a (record { object = o; there = before; differ = λ e. differ (same n.fields o.fields (sym fields ∙ e)) }) in
      elim may [
        | inl e ↦ inl (e ∙ ap Region (active-of _ h.grown.windows p.windows h.shows.windows ∙ ap top_region (sym h.beside.windows)))
        | inr e ↦ inr (e ∙ ap Temp (same-window _ h.grown.windows p.windows h.shows.windows ∙ ap top_window (sym h.beside.windows)))
      ]
    where
      same : (x y : List Val) → Some x ≡ Some y → x ≡ y
      same x y e = cc

  -- a step that leaves the store writes nothing
  none-written : q.store ≡ p.store → Changed old new (λ a o n. ⊥)
  none-written store a o n there here was is differ =
      let before = shown-there t code old p h a o there was in
      let after = shown-there t code new q k a n here is in
      differ (ap (λ (x : Seen). x.fields) (same_Some n o (sym after ∙ ap (λ (s : List Seen). slice_get s a) store ∙ before)))

  -- the end of a window with `giving`, where the value goes to a place
  module _ (w v : Opened) (us : List Opened) (windows : p.windows ≡ w ∷ v ∷ us) (mid : State) (store : mid.store ≡ p.store) (x : Val) where
    shown-windows : (sizes : List ℕ) × ShowsWindows sizes h.grown.windows (w ∷ v ∷ us)
    shown-windows = (
      sizes_of h.grown.frames,
      subst (λ (ps : List Opened). ShowsWindows (sizes_of h.grown.frames) h.grown.windows ps) windows h.shows.windows,
    )

    at-place : (place : Place) → w.owner ≡ Some place → IsNear p.store w v place → q ≡ put_at (Some place) mid x
        → Changed old new (IsOwnersField old (top_owner old.windows))
    at-place (Var m i) named near is a o n there here was live differ =
        absurd (none-written (ap (λ (s : State). s.store) is ∙ store) a o n there here was live differ)
    at-place (Field b j) named near is a o n there here was live differ =
        let before = shown-there t code old p h a o there was in
        let after = shown-there t code new q k a n here live in
        let host : slice_get mid.store b ≡ Some near.0 = ap (λ (s : List Seen). slice_get s b) store ∙ near.1 in
        let stored : q.store ≡ slice_set p.store b (with_element j x near.0) =
        ap (λ (s : State). s.store) (is ∙ put_element-is (Obj b) j mid x b near.0 refl host)
        ∙ ap (λ (s : List Seen). slice_set s b (with_element j x near.0)) store in
        let c = set-differs p.store b j x near.0 near.1 a o n before (ap (λ (s : List Seen). slice_get s a) (sym stored) ∙ after) differ in
        let owner : top_owner old.windows ≡ Some (Field b j) =
        ap top_owner h.beside.windows ∙ same-owner shown-windows.0 h.grown.windows w v us shown-windows.1 ∙ named in
        let may = beneath-writable shown-windows.0 h.grown.windows w v us old near.0.label shown-windows.1 h.beside.windows near.2 in
        subst (λ (z : Option Place). IsOwnersField old z a o n) (sym owner)
        (c.0, c.2, subst (λ (y : Seen). Writable (record old { windows = without_top old.windows }) y.label) (sym c.1) may)

  -- the end of a window with `giving`
  given-only : (line n : ℕ) (w : Name) (rest : List Item) → p.items ≡ LeaveGiving line n w ∷ rest → next t.classes p ≡ Went q
      → AllOwned t.classes p.store p.frames p.windows → Changed old new (IsOwnersField old (top_owner old.windows))
  given-only line n w rest is went owned = by p.windows refl owned did
    where
      start : State
      start = record p { items = rest }

      did : step_leave_giving n w start p.windows ≡ Ok q
      did =
          stepped-went line (step_leave_giving n w start p.windows) q
          (ap (λ (items : List Item). step_first t.classes p items) (sym is) ∙ went)

      still : ◌≡◌ {A = Result State Trap} (Ok start) (Ok q) → q.store ≡ p.store
      still e = ap (λ (s : State). s.store) (sym (ok-is start q e))

      by : (ws : List Opened) → p.windows ≡ ws → AllOwned t.classes p.store p.frames ws → step_leave_giving n w start ws ≡ Ok q
          → Changed old new (IsOwnersField old (top_owner old.windows))
      by [] windows owned e = absurd owned
      by (top ∷ []) windows owned e = λ a o u there here was live differ. absurd (none-written (still e) a o u there here was live differ)
      by (top ∷ v ∷ us) windows owned e =
          let value = value_in (locals_of start) (Some w) in
          let mid = step_leave n start (top ∷ v ∷ us) in
          let c = then-ok (object_at p.store value) _ q e in
          at-place top v us windows mid refl value owned.0.place owned.0.named owned.0.near
          (sym (ok-is _ q c.2) ∙ ap (λ z. put_at z mid value) owned.0.named)

  -- a step that goes well
  went-only : (items : List Item) → p.items ≡ items → next t.classes p ≡ Went q → Fit t p → AllowedBy items p q
      → Changed old new (MayWrite (first_gives items) old)
  went-only [] is went fit allowed = active-only allowed
  went-only (Do s ∷ rest) is went fit allowed = active-only allowed
  went-only (EndAt n ∷ rest) is went fit allowed = active-only allowed
  went-only (LeaveAt n ∷ rest) is went fit allowed = active-only allowed
  went-only (LeaveGiving line n w ∷ rest) is went fit allowed = given-only line n w rest is went fit.opened.owned
  went-only (Back ∷ rest) is went fit allowed = active-only allowed

-- each step, made or refused
step-writes : (t : Tree) (code : Code) (old new : Machine) (s q : State) (result : Outcome) → Runs t code old s
    → Settles (next t.classes s) s q result → ShowsHeld t.classes code new q → Changed old new (MayWrite (first_gives s.items) old)
step-writes t code old new s q result r settles k = by result settles
  where
    went : next t.classes s ≡ Went q → Changed old new (MayWrite (first_gives s.items) old)
    went e = went-only t code old new s q r.shows k s.items refl e r.fits (step-keeps t s q r.accepted r.fits e).allowed

    still : q ≡ s → Changed old new (MayWrite (first_gives s.items) old)
    still e a o n there here was is differ =
        absurd (none-written t code old new s q r.shows k (ap (λ (x : State). x.store) e) a o n there here was is differ)

    by : (x : Outcome) → Settles (next t.classes s) s q x → Changed old new (MayWrite (first_gives s.items) old)
    by outcome.Running c = went c.0
    by (outcome.Printed v) c = went c.0
    by outcome.Done c = went c.0
    by (outcome.Trap kind line) c = still c.1
    by outcome.InputFault c = still c
    by outcome.Memory c = still c

pub steps-write : (code : Code) (old new : Machine) (result : Outcome) (before after : List ℕ) → IsRunning code old
    → StepsOn code old new result before after → WritesOnly code.ops old new
steps-write code old new result before after (t, p, r) steps =
    let runs = with-input t code old p before r in
    let s = steps t (record p { input = before }) runs refl in
    subst (λ (giving : Bool). Changed old new (MayWrite giving old)) (sym (runs-give t code old (record p { input = before }) runs))
    (step-writes t code old new (record p { input = before }) s.0 result runs s.1 s.2)
