-- What hangs beneath a region that a step freezes or merges stays held: none of its regions leaves the table.
use Rattle.std.proofs.Common.{◌≡◌, ◌≢◌, ◌⊎◌, ◌≤◌, inl, inr, ℕ, ◌==◌, not, Bool as Truth, true, false, true≢false, if◌then◌else◌, List, length}
use Rattle.std.proofs.Common.{Option, Some, None, option_and_then, slice_get, refl, sym, ap, ◌∙◌, subst}
use Rattle.std.specs.List.{list_any}
use Rattle.std.proofs.lemmas.Bool.{ne_eqb}
use Rattle.std.proofs.lemmas.Option.{none-some}
use Rattle.rg_base.specs.declared.object.Label.{Label}
use Rattle.rg_base.specs.declared.object.Label.TheVariants.{Region, Temp, Frozen}
use Rattle.rg_base.specs.declared.object.Seen.{Seen}
use Rattle.rg_base.specs.declared.value.Val.{Val}
use Rattle.rg_base.specs.declared.value.Val.TheVariants as val
use Rattle.rg_tree.specs.Tree.{Class, Field, Tree}
use Rattle.rg_rules.specs.Owners.{Above, Parent, direct, further, owned_by_field, owned_by_slot}
use Rattle.rg_rules.specs.Regions.{owned, owned_as, region_at, region_of}
use Rattle.rg_rules.specs.State.{State, Window as Opened}
use Rattle.rg_rules.specs.Types.{fields_of, type_of}
use Rattle.rg_code.specs.Code.{Code}
use Rattle.rg_sound.proofs.LocalRoots.{label-region}
use Rattle.rg_stack.specs.Labels.{is_open, is_outside}
use Rattle.rg_stack.specs.Machine.{Machine}
use Rattle.rg_stack.specs.Needs.{places_into}
use Rattle.rg_stack.proofs.Callers.Once.{owned_once-fits}
use Rattle.rg_held.specs.Gone.{gone}
use Rattle.rg_held.specs.Part.{FieldInto, Placed}
use Rattle.rg_held.specs.Shown.{ShowsHeld}
use Rattle.rg_held.proofs.Gather.Whole.{shows-fit}
use Rattle.rg_held.proofs.Places.{field-field, once, region-into, slot-field}
use Rattle.rg_held.proofs.Gather.Roots.{owned-value}
use Rattle.rg_machine.specs.Collects.{holds}
use Rattle.rg_machine.specs.Parts.{machine_in}
use Rattle.rg_machine.proofs.Callers.Part.{gone-shown, held-shown}
use Rattle.rg_step.specs.Frees.{LeftTable}
use Rattle.rg_step.specs.States.{Standing}
use Rattle.rg_once.proofs.Answer.{Answer, beside, mid, shown}
use Rattle.rg_once.proofs.Held.{regions-shown, shut-out}
use Rattle.rg_once.proofs.Seen.{IsSeen, Led, led-held, seen-held}

-- a region is the first one, or hangs beneath it
abbrev pub Hangs : List Class → List Seen → (first region : ℕ) → Type 0
Hangs classes store first r = (r ≡ first) ⊎ Above classes store first r

-- a step that gives objects of a region, and of those beneath it, another label, and of which a reference into it is seen
pub record Shifts (classes : List Class) (p q : State) : Type 0 where
  pub first : ℕ
  pub root : ℕ
  pub object : Seen
  pub there : slice_get p.store root ≡ Some object
  pub lies : object.label ≡ Region first
  pub led : Led p root
  pub seen : IsSeen p q root
  pub windows : q.windows ≡ p.windows
  pub count : length q.store ≡ length p.store
  pub labels : (a : ℕ) (o v : Seen) → slice_get p.store a ≡ Some o → slice_get q.store a ≡ Some v
      → (v.label ≡ o.label) ⊎ ((r : ℕ) × (o.label ≡ Region r) × Hangs classes p.store first r)
  pub fields : (a : ℕ) (o : Seen) (r : ℕ) → slice_get p.store a ≡ Some o → o.label ≡ Region r → Hangs classes p.store first r
      → (v : Seen) × (slice_get q.store a ≡ Some v) × (v.fields ≡ o.fields)

-- an owner reference in a field is the field's value
slot-is : (classes : List Class) (o : Seen) (k a : ℕ) → owned_by_slot classes o k ≡ Some a → slice_get o.fields k ≡ Some (val.Obj a)
slot-is classes o k a e = by (slice_get (fields_of classes o.class) k) e
  where
    on : (f : Field) (x : Option Val) → option_and_then (owned_as classes f) x ≡ Some a → x ≡ Some (val.Obj a)
    on f None e = absurd (none-some a e)
    on f (Some x) e = ap Some (owned-value (type_of classes f.ty) x a e)

    by : (f : Option Field) → option_and_then (λ (f : Field). option_and_then (owned_as classes f) (slice_get o.fields k)) f ≡ Some a
        → slice_get o.fields k ≡ Some (val.Obj a)
    by None e = absurd (none-some a e)
    by (Some f) e = on f (slice_get o.fields k) e

field-is : (classes : List Class) (o : Seen) (k a r : ℕ) → o.label ≡ Region r → owned_by_field classes o k ≡ Some a
    → slice_get o.fields k ≡ Some (val.Obj a)
field-is classes o k a r label e =
    slot-is classes o k a
    (sym (ap (λ (l : Label). elim l [ Region r ↦ owned_by_slot classes o k | Temp n ↦ owned_by_slot classes o k | Frozen ↦ None ]) label) ∙ e)

-- the object that holds an owner reference, and the one to which it leads
record Holds (store : List Seen) (parent child : ℕ) : Type 0 where
  pub object : ℕ
  pub holder : Seen
  pub there : slice_get store object ≡ Some holder
  pub lies : holder.label ≡ Region parent
  pub field : ℕ
  pub to : ℕ
  pub leads : slice_get holder.fields field ≡ Some (val.Obj to)
  pub child_object : Seen
  pub child_there : slice_get store to ≡ Some child_object
  pub child_lies : child_object.label ≡ Region child

region-back : (store : List Seen) (a r : ℕ) → region_at store a ≡ Some r → (o : Seen) × (slice_get store a ≡ Some o) × (o.label ≡ Region r)
region-back store a r e = by (slice_get store a) refl e
  where
    by : (o : Option Seen) → slice_get store a ≡ o → option_and_then (λ (o : Seen). region_of o.label) o ≡ Some r
        → (o : Seen) × (slice_get store a ≡ Some o) × (o.label ≡ Region r)
    by None f e = absurd (none-some r e)
    by (Some o) f e = (o, f, label-region o.label r e)

parent-holds : (classes : List Class) (store : List Seen) (parent child : ℕ) → Parent classes store parent child → Holds store parent child
parent-holds classes store parent child x = by (owned_by_field classes h.0 x.field) refl (sym (ap (λ o. option_and_then (region_at store)
    (option_and_then (λ (o : Seen). owned_by_field classes o x.field) o)) h.1) ∙ x.leads)
  where
    h : (o : Seen) × (slice_get store x.object ≡ Some o) × (o.label ≡ Region parent)
    h = region-back store x.object parent x.lies

    by : (a : Option ℕ) → owned_by_field classes h.0 x.field ≡ a → option_and_then (region_at store) (owned_by_field classes h.0 x.field) ≡ Some child
        → Holds store parent child
    by None e leads = absurd (none-some child (sym (ap (option_and_then (region_at store)) e) ∙ leads))
    by (Some a) e leads =
        let c = region-back store a child (sym (ap (option_and_then (region_at store)) e) ∙ leads) in
        record {
          object = x.object;
          holder = h.0;
          there = h.1;
          lies = h.2;
          field = x.field;
          to = a;
          leads = field-is classes h.0 x.field a parent h.2 e;
          child_object = c.0;
          child_there = c.1;
          child_lies = c.2;
        }

module _ {t : Tree} {code : Code} {old : Standing} {p q : State} {new : Standing} (u : Answer t code old p q new) (s : Shifts t.classes p q) where
  abbrev also : ℕ → Truth
  also a = holds (mid u).heap.cells.heap a

  abbrev before : ShowsHeld t.classes code (machine_in old.stepper.parts) p
  before = u.runs.shows

  abbrev m : Machine
  m = before.grown

  abbrev two : Machine
  two = (shown u).grown

  not-gone : (b r : ℕ) (o : Seen) → o.label ≡ Region r → o ≡ gone → ⊥
  not-gone b r o label is = let e : Region r ≡ gone.label = sym label ∙ ap (λ (x : Seen). x.label) is in absurd cc

  stood : (b : ℕ) (o : Seen) → before.held b ≡ true → slice_get p.store b ≡ Some o → slice_get (machine_in old.stepper.parts).store b ≡ Some o
  stood b o h at = before.beside.same b h ∙ ap (λ (l : List Seen). slice_get l b) before.shows.store ∙ at

  -- what is held of a region in front of the instructions and behind them keeps it in the table
  keeps-table : (b r : ℕ) (o : Seen) → before.held b ≡ true → slice_get p.store b ≡ Some o → o.label ≡ Region r → also b ≡ true
      → LeftTable old.stepper.parts (mid u) r → ⊥
  keeps-table b r o h at label now left =
      let x = held-shown (mid u).heap (mid u).frames (beside u).serials (beside u).stands u.step.serves.sound.windows b now in
      x.2 (left.all_gone b o (stood b o h at) label x.0 x.1)

  -- an object of a region that doesn't leave the table stays
  stays : (b r : ℕ) (o : Seen) → before.held b ≡ true → slice_get p.store b ≡ Some o → o.label ≡ Region r
      → (LeftTable old.stepper.parts (mid u) r → ⊥) → also b ≡ true
  stays b r o h at label never = by (also b) refl
    where
      region-is : {k : ℕ} → Region k ≡ Region r → k ≡ r
      region-is f = cc

      by : (x : Truth) → also b ≡ x → also b ≡ true
      by true e = e
      by false e = elim (u.step.serves.frees b o (stood b o h at) (not-gone b r o label)
          (λ x f. gone-shown (mid u).heap (mid u).frames (beside u).serials (beside u).stands b x e f)) [
            | inl ended ↦ (let f : Region r ≡ Temp ended.0 = sym label ∙ ended.1 in absurd cc)
            | inr left ↦
                absurd (never (subst (LeftTable old.stepper.parts (mid u)) (region-is (sym left.1 ∙ label)) left.2))
          ]

  -- the owner of a region of which something was held was held
  owner-held : (a r k : ℕ) (o : Seen) → before.held a ≡ true → slice_get p.store a ≡ Some o → o.label ≡ Region r → is_open m.windows r ≡ false
      → k ≢ r → (h : Holds p.store k r) → before.held h.object ≡ true
  owner-held a r k o here at label shut other h =
      elim (before.beside.owned a o r here (store a ∙ at) label shut) [
        | inl placed ↦ by placed
        | inr none ↦ absurd (true≢false (sym none))
      ]
    where
      store : (n : ℕ) → slice_get m.store n ≡ slice_get p.store n
      store n = ap (λ (l : List Seen). slice_get l n) before.shows.store

      most : places_into m r ≤ 1
      most =
          once m r (owned_once-fits t.classes m p.frames p.windows (shows-fit t code m p u.runs.fits before.shows))
          (before.beside.tidy.labels a o r (store a ∙ at) label) shut

      field : FieldInto m r
      field = record {
        object = h.object;
        field = h.field;
        holder = h.holder;
        value = val.Obj h.to;
        holder_there = store h.object ∙ h.there;
        value_there = h.leads;
        outside = ap (λ l. is_outside m.windows r l) h.lies ∙ ap not (ne_eqb k r other);
        into = region-into m.store r h.to h.child_object (store h.to ∙ h.child_there) h.child_lies;
      }

      by : Placed before.held m r → before.held h.object ≡ true
      by (inl x) = slot-field m r most x field
      by (inr x) = subst (λ n. before.held n ≡ true) (field-field m r most x.0 field).0 x.1

  -- it isn't open
  shut-before : (r : ℕ) → LeftTable old.stepper.parts (mid u) r → is_open m.windows r ≡ false
  shut-before r left =
      regions-shown _ m.windows p.windows r before.shows.windows
      ∙ ap (λ (ws : List Opened). list_any (λ (o : Opened). o.region == r) ws) (sym s.windows)
      ∙ sym (regions-shown _ two.windows q.windows r (shown u).shows.windows) ∙ shut-out u r left.left

  -- so none of what hangs there leaves the table
  first-stays : LeftTable old.stepper.parts (mid u) s.first → ⊥
  first-stays left = keeps-table s.root s.first s.object (led-held u s.root s.led) s.there s.lies (seen-held u s.root s.seen) left

  child-stays : (k r : ℕ) → Parent t.classes p.store k r → Hangs t.classes p.store s.first k
      → ((c : ℕ) (h : Seen) → before.held c ≡ true → slice_get p.store c ≡ Some h → h.label ≡ Region k → LeftTable old.stepper.parts (mid u) k → ⊥)
      → (a : ℕ) (o : Seen) → before.held a ≡ true → slice_get p.store a ≡ Some o → o.label ≡ Region r
      → LeftTable old.stepper.parts (mid u) r → ⊥
  child-stays k r parent hangs above a o here at label left =
      let h = parent-holds t.classes p.store k r parent in
      let other : k ≢ r = λ e. u.runs.fits.forest.no_cycle r (direct (subst (λ n. Parent t.classes p.store n r) e parent)) in
      let was = owner-held a r k o here at label (shut-before r left) other h in
      let now = stays h.object k h.holder was h.there h.lies (above h.object h.holder was h.there h.lies) in
      let v = s.fields h.object h.holder k h.there h.lies hangs in
      let to = (beside u).part.fields h.object v.0 h.field (val.Obj h.to) now
      (ap (λ (l : List Seen). slice_get l h.object) (shown u).shows.store ∙ v.1) (ap (λ vs. slice_get vs h.field) v.2 ∙ h.leads) in
      let to_was = before.beside.fields h.object h.holder h.field (val.Obj h.to) was
      (ap (λ (l : List Seen). slice_get l h.object) before.shows.store ∙ h.there) h.leads in
      keeps-table h.to r h.child_object to_was h.child_there h.child_lies to left

  beneath-stays : (r : ℕ) → Above t.classes p.store s.first r → (a : ℕ) (o : Seen) → before.held a ≡ true → slice_get p.store a ≡ Some o
      → o.label ≡ Region r → LeftTable old.stepper.parts (mid u) r → ⊥
  beneath-stays r (direct parent) a o here at label left =
      child-stays s.first r parent (inl refl) (λ c h was there lies. first-stays) a o here at label left
  beneath-stays r (further {q = k} up parent) a o here at label left =
      child-stays k r parent (inr up) (λ c h was there lies. beneath-stays k up c h was there lies) a o here at label left

  pub hanging-stays : (r : ℕ) → Hangs t.classes p.store s.first r → (a : ℕ) (o : Seen) → before.held a ≡ true → slice_get p.store a ≡ Some o
      → o.label ≡ Region r → LeftTable old.stepper.parts (mid u) r → ⊥
  hanging-stays r (inl e) a o here at label left = first-stays (subst (LeftTable old.stepper.parts (mid u)) e left)
  hanging-stays r (inr up) a o here at label left = beneath-stays r up a o here at label left
