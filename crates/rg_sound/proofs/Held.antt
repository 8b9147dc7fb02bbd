-- In a state that fits no held reference is stale, and each live region but the first has one owner. For callers.
use Rattle.std.proofs.Common.{◌≡◌, ◌≢◌, refl, sym, ◌∙◌, ap, subst, inl, inr, ℕ, zero, suc, ◌==◌, Bool as Truth, true, false, if◌then◌else◌, List, []}
use Rattle.std.proofs.Common.{◌∷◌, length, map, Option, Some, None, option_and_then, slice_get, arith}
use Rattle.std.proofs.lemmas.Option.{same_Some}
use Rattle.std.proofs.lemmas.Bool.{eqb-false}
use Rattle.rg_base.specs.declared.words.Cap.{Cap}
use Rattle.rg_base.specs.declared.words.Cap.TheVariants.{Mut, Tmp, Paused, Imm, Iso}
use Rattle.rg_base.specs.declared.ty.Ty.{Ty}
use Rattle.rg_base.specs.declared.ty.Ty.TheVariants as ty
use Rattle.rg_base.specs.declared.object.Label.{Label}
use Rattle.rg_base.specs.declared.object.Label.TheVariants.{Region, Temp, Frozen}
use Rattle.rg_base.specs.declared.object.Place.{Place}
use Rattle.rg_base.specs.declared.object.Place.TheVariants.{Var, Field}
use Rattle.rg_base.specs.declared.object.Seen.{Seen}
use Rattle.rg_base.specs.declared.value.Val.{Val}
use Rattle.rg_base.specs.declared.value.Val.TheVariants as val
use Rattle.rg_tree.specs.Tree.{Field as FieldOfClass, Class, Tree}
use Rattle.rg_rules.specs.Types.{type_of}
use Rattle.rg_rules.specs.State.{Local, Frame, Window, State, frame_at}
use Rattle.rg_rules.specs.Regions.{region_of, region_at, owned, owned_as}
use Rattle.rg_rules.specs.Owners.{owned_by_local, owned_by_slot, owned_by_field, leads_into}
use Rattle.rg_sound.specs.Windows.{windows_of, windows_from, IsOpen}
use Rattle.rg_sound.specs.Values.{LabelFits, MeetsBy, Meets, FrameMeets, ValuesFit}
use Rattle.rg_sound.specs.Objects.{TempFieldFits, FieldFits, FieldsMeet, fields_in}
use Rattle.rg_sound.specs.OpenRegions.{IsNear, AllOwned}
use Rattle.rg_sound.specs.Fit.{Fit}
use Rattle.rg_sound.specs.Held.{IsLive, HoldsLabel, IsHeld, InHeld, InStore, NoneStale, OwnedOnce, LiveFit}
use Rattle.rg_sound.specs.Laws.{FitHolds}
use Rattle.rg_sound.proofs.Basics.{none-some}
use Rattle.rg_sound.proofs.Owners.Owner.{frame_at-top, frame_at-lower}
use Rattle.rg_sound.proofs.Values.Label.{windows_of-open, windows_from-open}
use Rattle.rg_sound.proofs.Values.Declared.{owned-declared}
use Rattle.rg_sound.proofs.Owners.Data.{Within, meets-within}
use Rattle.rg_sound.proofs.Owners.Open.{IsOpenIn}
use Rattle.rg_sound.proofs.Stores.Member.{In, among-in}
use Rattle.rg_sound.proofs.Live.{live-open, live-local, live-field, live-from, open-held}

-- what a variable's value meets, by its frame's number
pub values-at : (store : List Seen) (ws : List Window) (fs : List Frame) (n : ℕ) (f : Frame) → ValuesFit store ws fs → frame_at fs n ≡ Some f →
    FrameMeets store ws n f.locals
values-at store ws [] n f v h = none-some h
values-at store ws (g ∷ fs) n f v h = by (n == length fs) refl (values-at store ws fs n f v.1)
  where
    by : (b : Truth) → (n == length fs) ≡ b → (frame_at fs n ≡ Some f → FrameMeets store ws n f.locals) → FrameMeets store ws n f.locals
    by true e rest =
        let here : n ≡ length fs = grind arith in
        let same : g ≡ f = same_Some g f (sym (frame_at-top g fs) ∙ ap (frame_at (g ∷ fs)) (sym here) ∙ h) in
        let P : Frame → Type 0 = λ q. FrameMeets store ws (length fs) q.locals in
        let Q : ℕ → Type 0 = λ q. FrameMeets store ws q f.locals in subst Q (sym here) (subst P same v.0)
    by false e rest =
        let other : n ≢ length fs = eqb-false n (length fs) e in
        rest (sym (frame_at-lower g fs n other) ∙ h)

-- a field's value, with its field
pub record SlotMeets (classes : List Class) (store : List Seen) (F : Cap → Label → Type 0) (fs : List FieldOfClass) (k : ℕ) (v : Val) : Type 0 where
  pub field : FieldOfClass
  pub field_is : slice_get fs k ≡ Some field
  pub meets : MeetsBy store F (type_of classes field.ty) v

pub slot-meets : (classes : List Class) (store : List Seen) (F : Cap → Label → Type 0) (fs : List FieldOfClass) (vs : List Val) (k : ℕ) (v : Val) →
    FieldsMeet classes store F fs vs → slice_get vs k ≡ Some v →
    SlotMeets classes store F fs k v
slot-meets classes store F fs [] k v m h = none-some h
slot-meets classes store F [] (w ∷ vs) k v m h = absurd m
slot-meets classes store F (x ∷ fs) (w ∷ vs) zero v m h =
    let P : Val → Type 0 = λ q. MeetsBy store F (type_of classes x.ty) q in
    record { field = x; field_is = refl; meets = subst P (same_Some w v h) m.0 }
slot-meets classes store F (x ∷ fs) (w ∷ vs) (suc k) v m h =
    let r = slot-meets classes store F fs vs k v m.1 h in record { field = r.field; field_is = r.field_is; meets = r.meets }

-- a window that is open is found
pub from-open : (ws : List Window) (n : ℕ) → In n (map (λ (w : Window). w.number) ws) → windows_from n ws ≡ [] → ⊥
from-open [] n h e = absurd h
from-open (w ∷ ws) n h e = by (w.number == n) refl h (from-open ws n) e
  where
    by : (b : Truth) → (w.number == n) ≡ b → In n (map (λ (w : Window). w.number) (w ∷ ws)) →
        (In n (map (λ (w : Window). w.number) ws) → windows_from n ws ≡ [] → ⊥) →
        (if b then w ∷ ws else windows_from n ws) ≡ [] → ⊥
    by true x i rest e = grind arith
    by false x (inl i) rest e = let yes_it : (w.number == n) ≡ true = grind arith in let c : true ≡ false = sym yes_it ∙ x in grind arith
    by false x (inr i) rest e = rest i e

module _ (t : Tree) (s : State) (fit : Fit t s) where
  -- a reference that meets its type leads to a held object, where what is known of its owner reference is enough for its label
  leads-held : (F : Cap → Label → Type 0) (Ok : ℕ → Type 0) (k : Ty) (a : ℕ) →
      ((r : ℕ) → option_and_then (region_at s.store) (owned k (val.Obj a)) ≡ Some r → Ok r) →
      ((cap : Cap) (l : Label) → ((r : ℕ) → cap ≡ Iso → l ≡ Region r → Ok r) → F cap l → HoldsLabel t.classes s l) →
      MeetsBy s.store F k (val.Obj a) → IsHeld t.classes s a
  leads-held F Ok ty.Int a lives f m = absurd m
  leads-held F Ok ty.Bool a lives f m = absurd m
  leads-held F Ok (ty.Ref cap c) a lives f m = record {
    object = m.object;
    there = m.there;
    held =
        f cap m.object.label (λ r e l. lives r (owns r e l)) m.label_fits;
  }
    where
      owns : (r : ℕ) → cap ≡ Iso → m.object.label ≡ Region r → option_and_then (region_at s.store) (owned (ty.Ref cap c) (val.Obj a)) ≡ Some r
      owns r e l =
          let P : Cap → Type 0 = λ q. option_and_then (region_at s.store) (owned (ty.Ref q c) (val.Obj a)) ≡ Some r in
          subst P (sym e) (ap (option_and_then (λ (q : Seen). region_of q.label)) m.there ∙ ap region_of l)

  frozen-held : (l : Label) → l ≡ Frozen → HoldsLabel t.classes s l
  frozen-held l e = let P : Label → Type 0 = λ q. HoldsLabel t.classes s q in subst P (sym e) tt

  label-held : (us : List Window) → ((l : Label) → IsOpen us l → IsOpen s.windows l) → (cap : Cap) (l : Label) →
      ((r : ℕ) → cap ≡ Iso → l ≡ Region r → IsLive t.classes s r) →
      LabelFits us cap l → HoldsLabel t.classes s l
  label-held [] up Mut l lives h = absurd h
  label-held (u ∷ us) up Mut l lives h = open-held t s fit l (up l (inl h))
  label-held [] up Tmp l lives h = absurd h
  label-held (u ∷ us) up Tmp l lives h = open-held t s fit l (up l (inr (inl h)))
  label-held us up Paused l lives (inl h) = frozen-held l h
  label-held us up Paused l lives (inr h) = open-held t s fit l (up l h)
  label-held us up Imm l lives h = frozen-held l h
  label-held us up Iso l lives h = let P : Label → Type 0 = λ q. HoldsLabel t.classes s q in subst P (sym h.1) (lives h.0 refl h.1)

  temp-held : (us : List Window) → (us ≡ [] → ⊥) → ((l : Label) → IsOpen us l → IsOpen s.windows l) → (cap : Cap) (l : Label) →
      ((r : ℕ) → cap ≡ Iso → l ≡ Region r → IsLive t.classes s r) →
      TempFieldFits us cap l → HoldsLabel t.classes s l
  temp-held [] some up cap l lives h = absurd (some refl)
  temp-held (u ∷ us) some up cap l lives h = label-held (u ∷ us) up cap l lives h

  field-held : (own : Label) → HoldsLabel t.classes s own → (cap : Cap) (l : Label) → ((r : ℕ) → cap ≡ Iso → l ≡ Region r → IsLive t.classes s r) →
      FieldFits s.windows own cap l → HoldsLabel t.classes s l
  field-held (Region r) held Mut l lives h = let P : Label → Type 0 = λ q. HoldsLabel t.classes s q in subst P (sym h) held
  field-held (Region r) held Tmp l lives h = absurd h
  field-held (Region r) held Paused l lives h = absurd h
  field-held (Region r) held Imm l lives h = frozen-held l h
  field-held (Region r) held Iso l lives h = let P : Label → Type 0 = λ q. HoldsLabel t.classes s q in subst P (sym h.1) (lives h.0 refl h.1)
  field-held (Temp n) held cap l lives h =
      temp-held (windows_from n s.windows) (from-open s.windows n (among-in (map (λ (w : Window). w.number) s.windows) n held))
      (λ y. windows_from-open n s.windows y) cap l lives h
  field-held Frozen held cap l lives h = frozen-held l h

  none-stale : NoneStale t.classes s
  none-stale = record {
    locals = λ n i f l a at there is.
        let m = values-at s.store s.windows s.frames n f fit.values at i l there in
        let P : Val → Type 0 = λ q. Meets s.store (windows_of n i s.windows) l.ty q in
        leads-held (LabelFits (windows_of n i s.windows)) (IsLive t.classes s) l.ty a
        (λ r e. live-local t s fit n i r (
        ap (λ (q : Option Frame). option_and_then (region_at s.store)
        (option_and_then owned_by_local (option_and_then (λ (g : Frame). slice_get g.locals i) q))) at
        ∙ ap (λ (q : Option Local). option_and_then (region_at s.store) (option_and_then owned_by_local q)) there
        ∙ ap (λ v. option_and_then (region_at s.store) (owned l.ty v)) is ∙ e))
        (λ cap q lives h. label-held (windows_of n i s.windows) (λ y. windows_of-open n i s.windows y) cap q lives h) (subst P is m);
    fields = λ a k o b there held is. fields a k o b there held is;
  }
    where
      fields : (a k : ℕ) (o : Seen) (b : ℕ) → slice_get s.store a ≡ Some o → HoldsLabel t.classes s o.label →
          slice_get o.fields k ≡ Some (val.Obj b) → IsHeld t.classes s b
      fields a k o b there held is = by_label o.label refl held
        where
          m : SlotMeets t.classes s.store (FieldFits s.windows o.label) (fields_in t.classes (fit.objects a o there).class o) k (val.Obj b)
          m = slot-meets t.classes s.store (FieldFits s.windows o.label) (fields_in t.classes (fit.objects a o there).class o) o.fields k (val.Obj b)
              (fit.objects a o there).fields is

          slot : (r : ℕ) → option_and_then (region_at s.store) (owned (type_of t.classes m.field.ty) (val.Obj b)) ≡ Some r →
              option_and_then (region_at s.store) (owned_by_slot t.classes o k) ≡ Some r
          slot r e = by (owned (type_of t.classes m.field.ty) (val.Obj b)) refl e
            where
              by : (x : Option ℕ) → owned (type_of t.classes m.field.ty) (val.Obj b) ≡ x → option_and_then (region_at s.store) x ≡ Some r →
                  option_and_then (region_at s.store) (owned_by_slot t.classes o k) ≡ Some r
              by None x y = none-some y
              by (Some c) x y =
                  ap (option_and_then (region_at s.store)) (owned-declared t.classes s.store s.windows o (fit.objects a o there) k c
                  (ap (option_and_then (λ (g : FieldOfClass). option_and_then (owned_as t.classes g) (slice_get o.fields k))) m.field_is
                  ∙ ap (option_and_then (owned_as t.classes m.field)) is ∙ x)) ∙ y

          -- what it owns lies in live regions, unless it is frozen
          live : (l : Label) → o.label ≡ l → (l ≢ Frozen) → HoldsLabel t.classes s o.label → (r : ℕ) →
              option_and_then (region_at s.store) (owned (type_of t.classes m.field.ty) (val.Obj b)) ≡ Some r → IsLive t.classes s r
          live l e away h r g =
              live-field t s fit a k r (record { object = o; there = there; held = h })
              (ap (λ (q : Option Seen). option_and_then (region_at s.store) (option_and_then (λ (z : Seen). owned_by_field t.classes z k) q)) there
              ∙ ap (option_and_then (region_at s.store)) (owner l e away) ∙ slot r g)
            where
              owner : (l : Label) → o.label ≡ l → (l ≢ Frozen) → owned_by_field t.classes o k ≡ owned_by_slot t.classes o k
              owner (Region p) e away = rw (owned_by_field, e) refl
              owner (Temp n) e away = rw (owned_by_field, e) refl
              owner Frozen e away = absurd (away refl)

          by_label : (l : Label) → o.label ≡ l → HoldsLabel t.classes s o.label → IsHeld t.classes s b
          by_label (Region p) e h =
              leads-held (FieldFits s.windows o.label) (IsLive t.classes s) (type_of t.classes m.field.ty) b
              (live (Region p) e (λ x. grind arith) h) (λ cap q lives z. field-held o.label h cap q lives z) m.meets
          by_label (Temp n) e h =
              leads-held (FieldFits s.windows o.label) (IsLive t.classes s) (type_of t.classes m.field.ty) b (live (Temp n) e (λ x. grind arith) h)
              (λ cap q lives z. field-held o.label h cap q lives z) m.meets
          by_label Frozen e h =
              let P : Label → Type 0 = λ q. MeetsBy s.store (FieldFits s.windows q) (type_of t.classes m.field.ty) (val.Obj b) in
              leads-held (FieldFits s.windows Frozen) (λ r. Unit {0}) (type_of t.classes m.field.ty) b (λ r g. tt)
              (λ cap q lives z. frozen-held q z) (subst P e m.meets)

  -- the owner of an open region stands in a variable, or in a held object
  owner-held : (ws : List Window) → ((l : Label) → IsOpen ws l → IsOpen s.windows l) → AllOwned t.classes s.store s.frames ws → (r : ℕ) →
      IsOpenIn ws r → r ≢ 0 → OwnedOnce t.classes s r
  owner-held [] up h r i away = absurd h
  owner-held (w ∷ []) up h r (inl e) away = absurd (away (sym e ∙ h.0))
  owner-held (w ∷ []) up h r (inr i) away = absurd i
  owner-held (w ∷ v ∷ ws) up h r (inl e) away =
      let P : ℕ → Type 0 = λ q. OwnedOnce t.classes s q in
      subst P e (record { place = h.0.place; held = near h.0.place h.0.near; exact = h.0.exact })
    where
      near : (p : Place) → IsNear s.store w v p → InHeld t.classes s p
      near (Var n i) z = tt
      near (Field a k) z = record {
        object = z.0;
        there = z.1;
        held =
            open-held t s fit z.0.label (up z.0.label (inr (inr (elim (z.2) [ inl y ↦ inl y | inr y ↦ inr (inl y) ]))));
      }
  owner-held (w ∷ v ∷ ws) up h r (inr i) away = owner-held (v ∷ ws) (λ l z. up l (inr (inr z))) h.1 r i away

  live-fits : LiveFit t.classes s
  live-fits = record {
    first = live-open t s fit 0 (lowest-open s.windows fit.opened.owned);
    led = λ p r h l. led p r h l;
    owned = λ r h away. elim (live-from t s fit r h) [
      | inl shown ↦ owner-held s.windows (λ l z. z) fit.opened.owned r shown away
      | inr q ↦ record {
        place = q.0;
        held = q.1;
        exact = λ p. (
          λ e. fit.forest.one_owner p q.0 r e q.2,
          λ e. let P : Place → Type 0 = λ z. leads_into t.classes s.store s.frames z ≡ Some r in
              subst P (sym e) q.2,
        );
      }
    ];
    none_into_first = fit.forest.none_into_first;
    no_cycle = fit.forest.no_cycle;
  }
    where
      lowest-open : (ws : List Window) → AllOwned t.classes s.store s.frames ws → IsOpenIn ws 0
      lowest-open [] h = absurd h
      lowest-open (w ∷ []) h = inl h.0
      lowest-open (w ∷ v ∷ ws) h = inr (lowest-open (v ∷ ws) h.1)

      led : (p : Place) (r : ℕ) → InHeld t.classes s p → leads_into t.classes s.store s.frames p ≡ Some r → IsLive t.classes s r
      led (Var n i) r h l = live-local t s fit n i r l
      led (Field a k) r h l = live-field t s fit a k r h l

in-store : (t : Tree) (s : State) → Fit t s → InStore s
in-store t s fit = record {
  locals = λ n i f l a at there is.
      let P : Val → Type 0 = λ q. Within (length s.store) q in
      subst P is (meets-within s.store _ l.ty l.value (values-at s.store s.windows s.frames n f fit.values at i l there));
  fields = λ a k o b there is.
      let m = slot-meets t.classes s.store (FieldFits s.windows o.label) (fields_in t.classes (fit.objects a o there).class o) o.fields k (val.Obj b)
      (fit.objects a o there).fields is in
      meets-within s.store _ (type_of t.classes m.field.ty) (val.Obj b) m.meets;
}

pub fit-holds : FitHolds
fit-holds t s fit = record { in_store = in-store t s fit; none_stale = none-stale t s fit; live_regions = live-fits t s fit }
