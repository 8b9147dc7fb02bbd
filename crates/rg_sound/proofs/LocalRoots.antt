-- In a state that fits only the bridge of the active region is seen from outside the topmost window, and of the regions beneath it nothing.
-- For callers.
use Rattle.std.proofs.Common.{◌≡◌, ◌≢◌, refl, sym, ◌∙◌, ap, subst, inl, inr, ℕ, zero, suc, ◌==◌, ◌<◌, Bool as Truth, true, false, if◌then◌else◌, List}
use Rattle.std.proofs.Common.{[], ◌∷◌, map, Option, Some, None, option_and_then, slice_get, arith}
use Rattle.std.proofs.lemmas.Option.{same_Some}
use Rattle.rg_base.specs.declared.words.Cap.{Cap}
use Rattle.rg_base.specs.declared.words.Cap.TheVariants.{Mut, Tmp, Paused, Imm, Iso}
use Rattle.rg_base.specs.declared.ty.Ty.{Ty}
use Rattle.rg_base.specs.declared.ty.Ty.TheVariants as ty
use Rattle.rg_base.specs.declared.object.Label.{Label}
use Rattle.rg_base.specs.declared.object.Label.TheVariants.{Region, Temp, Frozen}
use Rattle.rg_base.specs.declared.object.Place.{Place}
use Rattle.rg_base.specs.declared.object.Place.TheVariants.{Var, Field}
use Rattle.rg_base.specs.declared.object.Seen.{Seen}
use Rattle.rg_base.specs.declared.value.Val.{Val}
use Rattle.rg_base.specs.declared.value.Val.TheVariants as val
use Rattle.rg_tree.specs.Tree.{Field as FieldOfClass, Class, Tree}
use Rattle.rg_rules.specs.Types.{type_of}
use Rattle.rg_rules.specs.State.{Local, Frame, Window, State, frame_at, active}
use Rattle.rg_rules.specs.Regions.{region_of, region_at, owned, owned_as}
use Rattle.rg_rules.specs.Owners.{owned_by_local, owned_by_slot, owned_by_field, owned_at, leads_into, Parent, Above, direct, further, is_temp_of}
use Rattle.rg_sound.specs.Windows.{windows_of, windows_from, IsOpen}
use Rattle.rg_sound.specs.Values.{LabelFits, MeetsBy, Meets, ValuesFit}
use Rattle.rg_sound.specs.Objects.{RegionFieldFits, TempFieldFits, FieldFits, fields_in, ObjectsFit}
use Rattle.rg_sound.specs.OpenRegions.{AllOwned, OneWindowEach}
use Rattle.rg_sound.specs.Numbers.{Rising}
use Rattle.rg_sound.specs.Fit.{Fit}
use Rattle.rg_sound.specs.LocalRoots.{top_owner, lower, IsInFront, bridge, IsActive, LocalRoots, IsWithin, Hidden}
use Rattle.rg_sound.proofs.Basics.{none-some}
use Rattle.rg_sound.proofs.Values.Label.{windows_of-open, windows_from-open}
use Rattle.rg_sound.proofs.Owners.Open.{IsOpenIn, above-open}
use Rattle.rg_sound.proofs.Stores.Member.{In, among-in}
use Rattle.rg_sound.proofs.Owners.Window.{rising-below}
use Rattle.rg_sound.proofs.Held.{values-at, SlotMeets, slot-meets, from-open}
use Rattle.rg_sound.proofs.Stores.MergeLabel.{open-in}
use Rattle.rg_sound.proofs.Values.Declared.{owned-declared}

-- Labels

pub label-region : (l : Label) (r : ℕ) → region_of l ≡ Some r → l ≡ Region r
label-region (Region q) r e = ap Region (same_Some q r e)
label-region (Temp n) r e = none-some e
label-region Frozen r e = none-some e

pub not-frozen : (l : Label) (r : ℕ) {B : Type 0} → l ≡ Region r → l ≡ Frozen → B
not-frozen l r e f = none-some (ap region_of (sym f ∙ e))

-- a reference into a region that isn't open at its window is `iso`
closed-iso_by : (us : List Window) (cap : Cap) (l : Label) (r : ℕ) → l ≡ Region r → (IsOpen us l → ⊥) → LabelFits us cap l → cap ≡ Iso
closed-iso_by [] Mut l r e away h = absurd h
closed-iso_by (u ∷ us) Mut l r e away h = absurd (away (inl h))
closed-iso_by [] Tmp l r e away h = absurd h
closed-iso_by (u ∷ us) Tmp l r e away h = absurd (away (inr (inl h)))
closed-iso_by us Paused l r e away (inl h) = not-frozen l r e h
closed-iso_by us Paused l r e away (inr h) = absurd (away h)
closed-iso_by us Imm l r e away h = not-frozen l r e h
closed-iso_by us Iso l r e away h = refl

pub closed-iso : (us : List Window) (r : ℕ) → (IsOpen us (Region r) → ⊥) → (cap : Cap) (l : Label) → l ≡ Region r → LabelFits us cap l → cap ≡ Iso
closed-iso us r away cap l e h =
    let Q : Label → Type 0 = λ q. IsOpen us q in closed-iso_by us cap l r e (λ o. away (subst Q e o)) h

-- and so is one from another region
pub other-iso : (p r : ℕ) → p ≢ r → (cap : Cap) (l : Label) → l ≡ Region r → RegionFieldFits p cap l → cap ≡ Iso
other-iso p r other Mut l e h = absurd (other (same_Some p r (ap region_of (sym h ∙ e))))
other-iso p r other Tmp l e h = absurd h
other-iso p r other Paused l e h = absurd h
other-iso p r other Imm l e h = not-frozen l r e h
other-iso p r other Iso l e h = refl

-- a frozen object has no reference into a region
frozen-none : (store : List Seen) (k : Ty) (a r : ℕ) → region_at store a ≡ Some r → MeetsBy store (λ cap l. l ≡ Frozen) k (val.Obj a) → ⊥
frozen-none store ty.Int a r lies m = absurd m
frozen-none store ty.Bool a r lies m = absurd m
frozen-none store (ty.Ref cap c) a r lies m =
    none-some (ap region_of (sym m.label_fits) ∙ ap (option_and_then (λ (q : Seen). region_of q.label)) (sym m.there) ∙ lies)

-- a reference into a region is an owner reference, where it must be `iso`
pub iso-owned : (store : List Seen) (F : Cap → Label → Type 0) (k : Ty) (a r : ℕ) → region_at store a ≡ Some r →
    ((cap : Cap) (l : Label) → l ≡ Region r → F cap l → cap ≡ Iso) → MeetsBy store F k (val.Obj a) → owned k (val.Obj a) ≡ Some a
iso-owned store F ty.Int a r lies f m = absurd m
iso-owned store F ty.Bool a r lies f m = absurd m
iso-owned store F (ty.Ref cap c) a r lies f m =
    let P : Cap → Type 0 = λ q. owned (ty.Ref q c) (val.Obj a) ≡ Some a in
    let e : m.object.label ≡ Region r =
    label-region m.object.label r (ap (option_and_then (λ (q : Seen). region_of q.label)) (sym m.there) ∙ lies) in
    subst P (sym (f cap m.object.label e m.label_fits)) refl

-- Windows

pub open-get : (ws : List Window) (r : ℕ) → IsOpenIn ws r → (i : ℕ) × (u : Window) × (slice_get ws i ≡ Some u) × (u.region ≡ r)
open-get [] r h = absurd h
open-get (w ∷ ws) r (inl e) = (0, w, refl, e)
open-get (w ∷ ws) r (inr h) = let g = open-get ws r h in (suc g.0, g.1, g.2, g.3)

pub beneath-other : (w : Window) (ws : List Window) → OneWindowEach (w ∷ ws) → IsOpen ws (Region w.region) → ⊥
beneath-other w ws each h =
    let g = open-get ws w.region (open-in ws w.region h) in
    let e : zero ≡ suc g.0 = each zero (suc g.0) w g.1 refl g.2 (sym g.3) in grind arith

pub in-number : (ws : List Window) (n : ℕ) → In n (map (λ (w : Window). w.number) ws) →
    (i : ℕ) × (u : Window) × (slice_get ws i ≡ Some u) × (u.number ≡ n)
in-number [] n h = absurd h
in-number (w ∷ ws) n (inl e) = (0, w, refl, e)
in-number (w ∷ ws) n (inr h) = let g = in-number ws n h in (suc g.0, g.1, g.2, g.3)

-- a window beneath isn't the topmost one
from-lower : (w : Window) (ws : List Window) (n : ℕ) → Rising (w ∷ ws) → In n (map (λ (u : Window). u.number) ws) →
    windows_from n (w ∷ ws) ≡ windows_from n ws
from-lower w ws n r h =
    let g = in-number ws n h in
    let l : g.1.number < w.number = rising-below w ws r g.0 g.1 g.2 in
    let s : g.1.number ≡ n = g.3 in
    let e : (w.number == n) ≡ false = grind arith in rw e refl

pub temp-label : (us : List Window) → (us ≡ [] → ⊥) → (cap : Cap) (l : Label) → TempFieldFits us cap l → LabelFits us cap l
temp-label [] some cap l h = absurd (some refl)
temp-label (u ∷ us) some cap l h = h

-- The bridge

-- each owner reference into the active region is the bridge's
pub owner-bridge : (t : Tree) (s : State) → Fit t s → (p : Place) (a : ℕ) → owned_at t.classes s.store s.frames p ≡ Some a → IsActive s a →
    bridge t.classes s ≡ Some a
owner-bridge t s fit p a at lies = by s.windows fit.opened.owned (ap (option_and_then (region_at s.store)) at ∙ lies)
  where
    by : (ws : List Window) → AllOwned t.classes s.store s.frames ws → leads_into t.classes s.store s.frames p ≡ Some (active ws) →
        option_and_then (owned_at t.classes s.store s.frames) (top_owner ws) ≡ Some a
    by [] h e = absurd h
    by (w ∷ []) h e = absurd (fit.forest.none_into_first p (e ∙ ap Some h.0))
    by (w ∷ v ∷ ws) h e =
        ap (option_and_then (owned_at t.classes s.store s.frames)) (h.0.named ∙ ap Some (sym ((h.0.exact p).0 e))) ∙ at

first-none : (t : Tree) (s : State) → Fit t s → active s.windows ≡ 0 → bridge t.classes s ≡ None
first-none t s fit z = by s.windows fit.opened.owned z
  where
    by : (ws : List Window) → AllOwned t.classes s.store s.frames ws → active ws ≡ 0 →
        option_and_then (owned_at t.classes s.store s.frames) (top_owner ws) ≡ None
    by [] h e = absurd h
    by (w ∷ []) h e = ap (option_and_then (owned_at t.classes s.store s.frames)) h.1
    by (w ∷ v ∷ ws) h e = absurd (fit.forest.none_into_first h.0.place ((h.0.exact h.0.place).1 refl ∙ ap Some e))

module _ (classes : List Class) (store : List Seen) (frames : List Frame) (ws : List Window) (values : ValuesFit store ws frames)
    (objects : ObjectsFit classes store ws) where
  -- a variable whose window has no label of the region
  pub local-owned : (n i : ℕ) (f : Frame) (l : Local) (a r : ℕ) → frame_at frames n ≡ Some f → slice_get f.locals i ≡ Some l →
      l.value ≡ val.Obj a → region_at store a ≡ Some r → (IsOpen (windows_of n i ws) (Region r) → ⊥) →
      owned_at classes store frames (Var n i) ≡ Some a
  local-owned n i f l a r at there is lies away =
      let m = values-at store ws frames n f values at i l there in
      let P : Val → Type 0 = λ q. Meets store (windows_of n i ws) l.ty q in
      ap (λ (q : Option Frame). option_and_then owned_by_local (option_and_then (λ (g : Frame). slice_get g.locals i) q)) at
      ∙ ap (option_and_then owned_by_local) there ∙ ap (owned l.ty) is
      ∙ iso-owned store (LabelFits (windows_of n i ws)) l.ty a r lies (closed-iso (windows_of n i ws) r away) (subst P is m)

  pub field-meets : (b k : ℕ) (o : Seen) (v : Val) (there : slice_get store b ≡ Some o) → slice_get o.fields k ≡ Some v →
      SlotMeets classes store (FieldFits ws o.label) (fields_in classes (objects b o there).class o) k v
  field-meets b k o v there is =
      slot-meets classes store (FieldFits ws o.label) (fields_in classes (objects b o there).class o) o.fields k v (objects b o there).fields is

  pub frozen-away : (b k : ℕ) (o : Seen) (a r : ℕ) → slice_get store b ≡ Some o → o.label ≡ Frozen → slice_get o.fields k ≡ Some (val.Obj a) →
      region_at store a ≡ Some r → ⊥
  frozen-away b k o a r there label is lies =
      let m = field-meets b k o (val.Obj a) there is in
      let P : Label → Type 0 = λ z. MeetsBy store (FieldFits ws z) (type_of classes m.field.ty) (val.Obj a) in
      frozen-none store (type_of classes m.field.ty) a r lies (subst P label m.meets)

  -- a field of an object with a label that isn't frozen, where a reference into the region must be `iso`
  pub field-owned : (b k : ℕ) (o : Seen) (a r : ℕ) (own : Label) → slice_get store b ≡ Some o → o.label ≡ own → own ≢ Frozen →
      slice_get o.fields k ≡ Some (val.Obj a) → region_at store a ≡ Some r →
      ((cap : Cap) (l : Label) → l ≡ Region r → FieldFits ws own cap l → cap ≡ Iso) → owned_at classes store frames (Field b k) ≡ Some a
  field-owned b k o a r own there label away is lies f =
      ap (option_and_then (λ (z : Seen). owned_by_field classes z k)) there ∙ whole own label away ∙ slot
    where
      m : SlotMeets classes store (FieldFits ws o.label) (fields_in classes (objects b o there).class o) k (val.Obj a)
      m = field-meets b k o (val.Obj a) there is

      P : Label → Type 0
      P q = MeetsBy store (FieldFits ws q) (type_of classes m.field.ty) (val.Obj a)

      slot : owned_by_slot classes o k ≡ Some a
      slot = owned-declared classes store ws o (objects b o there) k a
          (ap (option_and_then (λ (g : FieldOfClass). option_and_then (owned_as classes g) (slice_get o.fields k))) m.field_is
          ∙ ap (option_and_then (owned_as classes m.field)) is
          ∙ iso-owned store (FieldFits ws own) (type_of classes m.field.ty) a r lies f (subst P label m.meets))

      whole : (own : Label) → o.label ≡ own → own ≢ Frozen → owned_by_field classes o k ≡ owned_by_slot classes o k
      whole (Region p) e away = rw (owned_by_field, e) refl
      whole (Temp n) e away = rw (owned_by_field, e) refl
      whole Frozen e away = absurd (away refl)

  -- a field of a temporary whose window has no label of the region
  pub temporary-owned : (b k n : ℕ) (o : Seen) (a r : ℕ) → slice_get store b ≡ Some o → o.label ≡ Temp n →
      (windows_from n ws ≡ [] → ⊥) → slice_get o.fields k ≡ Some (val.Obj a) → region_at store a ≡ Some r →
      (IsOpen (windows_from n ws) (Region r) → ⊥) → owned_at classes store frames (Field b k) ≡ Some a
  temporary-owned b k n o a r there temp some is lies away =
      field-owned b k o a r (Temp n) there temp (λ x. grind arith) is lies
      (λ cap l e h. closed-iso (windows_from n ws) r away cap l e (temp-label (windows_from n ws) some cap l h))

-- the windows of a variable in front of the base don't have the active region
front-other : (ws : List Window) (n i : ℕ) → OneWindowEach ws → IsInFront ws n i → IsOpen (windows_of n i ws) (Region (active ws)) → ⊥
front-other [] n i each h o = absurd h
front-other (w ∷ ws) n i each h o =
    let P : Truth → Type 0 = λ b. IsOpen (if b then w ∷ ws else windows_of n i ws) (Region w.region) in
    beneath-other w ws each (windows_of-open n i ws (Region w.region) (subst P h o))

-- and so those of a temporary beneath
record LowerWindow (ws : List Window) (n : ℕ) : Type 0 where
  pub found : windows_from n ws ≡ [] → ⊥
  pub other : IsOpen (windows_from n ws) (Region (active ws)) → ⊥

lower-window : (ws : List Window) (n : ℕ) → OneWindowEach ws → Rising ws → In n (map (λ (u : Window). u.number) (lower ws)) → LowerWindow ws n
lower-window [] n each r h = absurd h
lower-window (w ∷ ws) n each r h =
    let e = from-lower w ws n r h in
    let P : List Window → Type 0 = λ q. IsOpen q (Region w.region) in record {
      found = λ none. from-open ws n h (sym e ∙ none);
      other = λ o. beneath-other w ws each (windows_from-open n ws (Region w.region) (subst P e o));
    }

temp-of : (ws : List Window) (l : Label) → is_temp_of ws l ≡ true → (n : ℕ) × (l ≡ Temp n) × In n (map (λ (u : Window). u.number) ws)
temp-of ws (Region r) h = grind arith
temp-of ws (Temp n) h = (n, refl, among-in (map (λ (u : Window). u.number) ws) n h)
temp-of ws Frozen h = grind arith

pub fit-local_roots : (t : Tree) (s : State) → Fit t s → LocalRoots t.classes s
fit-local_roots t s fit = record {
  locals = λ n i f l a at there front is lies.
      owner-bridge t s fit (Var n i) a
      (local-owned t.classes s.store s.frames s.windows fit.values fit.objects n i f l a (active s.windows) at there is lies
      (front-other s.windows n i fit.opened.one_each front)) lies;
  temporaries = λ b k o a there temp is lies.
      let x = temp-of (lower s.windows) o.label temp in
      let w = lower-window s.windows x.0 fit.opened.one_each fit.numbers.rising x.2 in
      owner-bridge t s fit (Field b k) a
      (temporary-owned t.classes s.store s.frames s.windows fit.values fit.objects b k x.0 o a (active s.windows) there x.1 w.found is lies
      w.other) lies;
  regions = λ b k p o a there label other is lies.
      owner-bridge t s fit (Field b k) a
      (field-owned t.classes s.store s.frames s.windows fit.values fit.objects b k o a (active s.windows) (Region p) there label (λ x. grind arith)
      is lies (λ cap l g h. other-iso p (active s.windows) other cap l g h)) lies;
  frozen = λ b k o a there label is lies.
      frozen-away t.classes s.store s.frames s.windows fit.values fit.objects b k o a (active s.windows) there label is lies;
  first = first-none t s fit;
}

-- Beneath the active region

-- the object that holds the owner reference into a region beneath
record Holder (classes : List Class) (s : State) (q : ℕ) : Type 0 where
  pub region : ℕ
  pub within : IsWithin classes s region
  pub parent : Parent classes s.store region q

holder : (classes : List Class) (s : State) (q : ℕ) → Above classes s.store (active s.windows) q → Holder classes s q
holder classes s q (direct h) = record { region = active s.windows; within = inl refl; parent = h }
holder classes s q (further {q = p} up h) = record { region = p; within = inr up; parent = h }

-- a region beneath the active one isn't open
beneath-closed : (t : Tree) (s : State) → Fit t s → (q : ℕ) → Above t.classes s.store (active s.windows) q → IsOpenIn s.windows q → ⊥
beneath-closed t s fit q up h = by s.windows fit.opened.owned fit.opened.one_each up h
  where
    by : (ws : List Window) → AllOwned t.classes s.store s.frames ws → OneWindowEach ws → Above t.classes s.store (active ws) q → IsOpenIn ws q → ⊥
    by [] owned each up h = absurd h
    by (w ∷ ws) owned each up (inl e) =
        let P : ℕ → Type 0 = λ z. Above t.classes s.store w.region z in fit.forest.no_cycle w.region (subst P (sym e) up)
    by (w ∷ []) owned each up (inr h) = absurd h
    by (w ∷ v ∷ vs) owned each up (inr h) =
        let g = open-get (v ∷ vs) w.region
        (above-open t.classes s.store s.frames (v ∷ vs) owned.1 fit.forest.none_into_first w.region q up h) in
        let e : zero ≡ suc g.0 = each zero (suc g.0) w g.1 refl g.2 (sym g.3) in grind arith

get-open : (ws : List Window) (i : ℕ) (w : Window) → slice_get ws i ≡ Some w → IsOpenIn ws w.region
get-open [] i w h = none-some h
get-open (v ∷ ws) zero w h = inl (ap (λ (q : Window). q.region) (same_Some v w h))
get-open (v ∷ ws) (suc i) w h = inr (get-open ws i w h)

object-of : (a b k j : ℕ) → ◌≡◌ {A = Place} (Field a k) (Field b j) → a ≡ b
object-of a b k j e = grind arith

pub fit-hidden : (t : Tree) (s : State) → Fit t s → (q : ℕ) → Above t.classes s.store (active s.windows) q → Hidden t.classes s q
fit-hidden t s fit q up = record {
  closed = λ i w h e.
      let P : ℕ → Type 0 = λ z. IsOpenIn s.windows z in beneath-closed t s fit q up (subst P e (get-open s.windows i w h));
  locals = λ n i f l a at there is lies.
      let e : Var n i ≡ Field owner.parent.object owner.parent.field =
      at-holder (Var n i) a
      (local-owned t.classes s.store s.frames s.windows fit.values fit.objects n i f l a q at there is lies
      (λ o. closed (windows_of-open n i s.windows (Region q) o))) lies in
      grind arith;
  temporaries = λ b k o a there temp is lies.
      let x = temp-of s.windows o.label temp in
      let found = from-open s.windows x.0 x.2 in
      let e = at-holder (Field b k) a
      (temporary-owned t.classes s.store s.frames s.windows fit.values fit.objects b k x.0 o a q there x.1 found is lies
      (λ y. closed (windows_from-open x.0 s.windows (Region q) y))) lies in
      none-some (ap region_of (sym x.1) ∙ region-is b k o there e);
  frozen = λ b k o a there label is lies. frozen-away t.classes s.store s.frames s.windows fit.values fit.objects b k o a q there label is lies;
  regions = λ b k p o a there label other is lies.
      ap (option_and_then (region_at s.store))
      (field-owned t.classes s.store s.frames s.windows fit.values fit.objects b k o a q (Region p) there label (λ z. grind arith) is lies
      (λ cap l g h. other-iso p q other cap l g h))
      ∙ lies;
  owner = λ p h.
      let e = fit.forest.one_owner (Field h.object h.field) (Field owner.parent.object owner.parent.field) q h.leads owner.parent.leads in
      let P : ℕ → Type 0 = λ z. IsWithin t.classes s z in
      subst P (same_Some owner.region p (sym owner.parent.lies ∙ ap (region_at s.store) (sym (object-of h.object owner.parent.object h.field _ e))
      ∙ h.lies)) owner.within;
}
  where
    owner : Holder t.classes s q
    owner = holder t.classes s q up

    closed : IsOpen s.windows (Region q) → ⊥
    closed h = beneath-closed t s fit q up (open-in s.windows q h)

    at-holder : (p : Place) (a : ℕ) → owned_at t.classes s.store s.frames p ≡ Some a → region_at s.store a ≡ Some q →
        p ≡ Field owner.parent.object owner.parent.field
    at-holder p a at lies =
        fit.forest.one_owner p (Field owner.parent.object owner.parent.field) q (ap (option_and_then (region_at s.store)) at ∙ lies)
        owner.parent.leads

    region-is : (b k : ℕ) (o : Seen) → slice_get s.store b ≡ Some o → ◌≡◌ {A = Place} (Field b k) (Field owner.parent.object owner.parent.field) →
        region_of o.label ≡ Some owner.region
    region-is b k o there e =
        ap (option_and_then (λ (z : Seen). region_of z.label)) (sym there) ∙ ap (region_at s.store) (object-of b owner.parent.object k _ e)
        ∙ owner.parent.lies
