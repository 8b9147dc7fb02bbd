-- What isn't `iso` leads into no closed region, and an `iso` variable or field that no window names as its owner is nil or leads into one.
use Rattle.std.proofs.Common.{◌≡◌, ◌≢◌, ◌⊎◌, inl, inr, ℕ, zero, suc, ◌-◌, ◌≤◌, Bool as Truth, true, false, true≢false, ◌||◌, if◌then◌else◌, List}
use Rattle.std.proofs.Common.{[], ◌∷◌, ◌++◌, Option, Some, None, is_some, map, option_and_then, unwrap_or, length, replicate, slice_get, refl, sym}
use Rattle.std.proofs.Common.{ap, subst, ◌∙◌, arith}
use Rattle.std.proofs.lemmas.Bool.{or_right}
use Rattle.std.proofs.lemmas.Option.{same_Some}
use Rattle.rg_base.specs.declared.words.Cap.{Cap}
use Rattle.rg_base.specs.declared.words.Cap.TheVariants.{Mut, Tmp, Paused, Imm, Iso}
use Rattle.rg_base.specs.declared.ty.Ty.{Ty}
use Rattle.rg_base.specs.declared.ty.Ty.TheVariants as ty
use Rattle.rg_base.specs.declared.object.Label.{Label}
use Rattle.rg_base.specs.declared.object.Label.TheVariants.{Region, Temp, Frozen}
use Rattle.rg_base.specs.declared.object.Place.{Place}
use Rattle.rg_base.specs.declared.object.Place.TheVariants as place
use Rattle.rg_base.specs.declared.object.Seen.{Seen}
use Rattle.rg_base.specs.declared.value.Val.{Val}
use Rattle.rg_base.specs.declared.value.Val.TheVariants as val
use Rattle.rg_tree.specs.Tree.{Field, Class}
use Rattle.rg_rules.specs.Capabilities.{is_iso}
use Rattle.rg_rules.specs.Types.{type_of, fields_of}
use Rattle.rg_rules.specs.State.{Local, Frame as Body, Window as Opened}
use Rattle.rg_rules.specs.Regions.{region_of, region_at, address, owned}
use Rattle.rg_rules.specs.Owners.{owned_by_local, leads_into}
use Rattle.rg_rules.specs.Values.{is_nil_value}
use Rattle.rg_sound.specs.Windows.{windows_of, windows_from, IsOpen}
use Rattle.rg_sound.specs.Values.{IsRegion, LabelFits, MeetsBy, Meets}
use Rattle.rg_sound.specs.Objects.{TempFieldFits, FieldFits, FieldsMeet}
use Rattle.rg_sound.specs.OpenRegions.{AllOwned}
use Rattle.rg_sound.proofs.Basics.{none-some}
use Rattle.rg_sound.proofs.Held.{slot-meets}
use Rattle.rg_sound.proofs.Values.Declared.{declared-fields}
use Rattle.rg_sound.proofs.Owners.Data.{NotOwner}
use Rattle.rg_sound.proofs.Owners.Open.{IsOpenIn}
use Rattle.rg_sound.proofs.Owners.Owner.{AllOwners, leads-top}
use Rattle.rg_sound.proofs.Owners.Receiver.{IsTop, top-not_owner_field, field-leads as leads-field}
use Rattle.rg_sound.proofs.Values.Label.{windows_of-open}
use Rattle.rg_sound.proofs.Writable.{top-live}
use Rattle.rg_stack.specs.Machine.{Frame, Machine, top_slots, slot_at}
use Rattle.rg_stack.specs.Shows.{ShowsFrames}
use Rattle.rg_stack.specs.Needs.{is_closed, owns_or_nil}
use Rattle.rg_stack.specs.Places.{field_of}
use Rattle.rg_stack.specs.Labels.{is_open}
use Rattle.rg_stack.proofs.Callers.List.{refused, get-nils}
use Rattle.rg_stack.proofs.Callers.Lead.{ShowsFit, LeadsInto, IntoClosed, not-closed, into-closed, shown-closed, open-shown, value-owns}
use Rattle.rg_stack.proofs.Callers.Mark.{shown-at}

-- what a type that isn't `iso` owns
pub none-owned : (store : List Seen) (t : Ty) (v : Val) (r : ℕ) → is_iso t ≡ false → option_and_then (region_at store) (owned t v) ≡ Some r → ⊥
none-owned store t v r e h =
    none-some (ap (λ (b : Truth). option_and_then (region_at store) (if b then address v else None)) (sym e) ∙ h)

-- a value of a type that isn't `iso`
pub not_iso-closed : (classes : List Class) (m : Machine) (bodies : List Body) (opened us : List Opened) → ShowsFit classes m bodies opened →
    ((l : Label) → IsOpen us l → IsOpen opened l) → (t : Ty) (v : Val) → Meets m.store us t v → is_iso t ≡ false → is_closed m v ≡ false
not_iso-closed classes m bodies opened us d up t v meets iso = not-closed m v (λ r c.
    none-owned m.store t v r iso
    (value-owns m.store us t v r meets (λ o. shown-closed d.sizes m.windows opened r d.windows c.closed (up (Region r) o)) c.leads))

-- Slots

behind-at : (locals : List Local) (k i : ℕ) → length locals ≤ i →
    unwrap_or (slice_get (map (λ (l : Local). l.value) locals ++ replicate k val.Nil) i) val.Nil ≡ val.Nil
behind-at [] k i h = by (slice_get (replicate k val.Nil) i) refl
  where
    by : (q : Option Val) → slice_get (replicate k val.Nil) i ≡ q → unwrap_or q val.Nil ≡ val.Nil
    by None e = refl
    by (Some v) e = get-nils k i v e
behind-at (x ∷ ls) k zero h = absurd (omega (arith, h))
behind-at (x ∷ ls) k (suc i) h = behind-at ls k i (omega (arith, h))

-- a variable's slot holds its value
pub slot-value : (classes : List Class) (m : Machine) (b : Body) (bs : List Body) (opened : List Opened) → ShowsFit classes m (b ∷ bs) opened →
    (i : ℕ) (l : Local) → slice_get b.locals i ≡ Some l → slot_at m i ≡ l.value
slot-value classes m b bs opened d i l at = by m.frames d.slots
  where
    by : (fs : List Frame) → ShowsFrames fs (b ∷ bs) → unwrap_or (slice_get (top_slots fs) i) val.Nil ≡ l.value
    by [] h = absurd h
    by (f ∷ fs) h = ap (λ s. unwrap_or (slice_get s i) val.Nil) h.0
        ∙ ap (λ q. unwrap_or q val.Nil) (shown-at b.locals (length f.slots - length b.locals) i l at)

-- and the slots behind the variables are nil
pub slot-behind : (classes : List Class) (m : Machine) (b : Body) (bs : List Body) (opened : List Opened) → ShowsFit classes m (b ∷ bs) opened →
    (i : ℕ) → length b.locals ≤ i → slot_at m i ≡ val.Nil
slot-behind classes m b bs opened d i h = by m.frames d.slots
  where
    by : (fs : List Frame) → ShowsFrames fs (b ∷ bs) → unwrap_or (slice_get (top_slots fs) i) val.Nil ≡ val.Nil
    by [] h = absurd h
    by (f ∷ fs) shows = ap (λ s. unwrap_or (slice_get s i) val.Nil) shows.0 ∙ behind-at b.locals (length f.slots - length b.locals) i h

-- the slot of a variable that isn't `iso`
pub slot-closed : (classes : List Class) (m : Machine) (b : Body) (bs : List Body) (opened : List Opened) → ShowsFit classes m (b ∷ bs) opened →
    (i : ℕ) (l : Local) → slice_get b.locals i ≡ Some l → is_iso l.ty ≡ false → is_closed m (slot_at m i) ≡ false
slot-closed classes m b bs opened d i l at iso =
    ap (is_closed m) (slot-value classes m b bs opened d i l at)
    ∙ not_iso-closed classes m (b ∷ bs) opened (windows_of (length bs) i opened) d (λ l o. windows_of-open (length bs) i opened l o) l.ty l.value
    (d.fits.values.0 i l at) iso

-- and one behind the variables
pub behind-closed : (classes : List Class) (m : Machine) (b : Body) (bs : List Body) (opened : List Opened) → ShowsFit classes m (b ∷ bs) opened →
    (i : ℕ) → length b.locals ≤ i → is_closed m (slot_at m i) ≡ false
behind-closed classes m b bs opened d i h = ap (is_closed m) (slot-behind classes m b bs opened d i h)

-- What owns

-- an `iso` value is nil or leads into a region
iso-leads : (store : List Seen) (F : Cap → Label → Type 0) → ((l : Label) → F Iso l → IsRegion l) → (t : Ty) (v : Val) → is_iso t ≡ true →
    MeetsBy store F t v → (v ≡ val.Nil) ⊎ ((r : ℕ) × LeadsInto store r v)
iso-leads store F regions ty.Int v e m = absurd (true≢false (sym e))
iso-leads store F regions ty.Bool v e m = absurd (true≢false (sym e))
iso-leads store F regions (ty.Ref Mut c) v e m = absurd (true≢false (sym e))
iso-leads store F regions (ty.Ref Tmp c) v e m = absurd (true≢false (sym e))
iso-leads store F regions (ty.Ref Paused c) v e m = absurd (true≢false (sym e))
iso-leads store F regions (ty.Ref Imm c) v e m = absurd (true≢false (sym e))
iso-leads store F regions (ty.Ref Iso c) val.Nil e m = inl refl
iso-leads store F regions (ty.Ref Iso c) (val.Int z) e m = absurd m
iso-leads store F regions (ty.Ref Iso c) (val.Bool b) e m = absurd m
iso-leads store F regions (ty.Ref Iso c) (val.Obj a) e m =
    let g = regions m.object.label m.label_fits in
    inr (
      g.0,
      record {
        address = a;
        value = refl;
        lies = ap (option_and_then (λ (o : Seen). region_of o.label)) m.there ∙ ap region_of g.1;
      },
    )

-- and owns it
pub iso-owns : (store : List Seen) (t : Ty) (v : Val) (r : ℕ) → is_iso t ≡ true → LeadsInto store r v →
    option_and_then (region_at store) (owned t v) ≡ Some r
iso-owns store t v r e d =
    ap (λ (b : Truth). option_and_then (region_at store) (if b then address v else None)) e
    ∙ ap (λ v. option_and_then (region_at store) (address v)) d.value ∙ d.lies

-- a region whose owner reference stands where no window names its owner isn't open
owner-closed : (classes : List Class) (store : List Seen) (bodies : List Body) (ws : List Opened) → AllOwned classes store bodies ws →
    ((q : Place) → leads_into classes store bodies q ≡ Some 0 → ⊥) → (p : Place) (r : ℕ) → AllOwners ws (λ q. q ≢ p) →
    leads_into classes store bodies p ≡ Some r → IsOpenIn ws r → ⊥
owner-closed classes store bodies [] h first p r apart leads o = absurd o
owner-closed classes store bodies (w ∷ []) h first p r apart leads (inl e) = first p (leads ∙ ap Some (sym e ∙ h.0))
owner-closed classes store bodies (w ∷ []) h first p r apart leads (inr o) = absurd o
owner-closed classes store bodies (w ∷ v ∷ ws) h first p r apart leads (inl e) =
    apart.0 h.0.place h.0.named (sym ((h.0.exact p).0 (leads ∙ ap Some (sym e))))
owner-closed classes store bodies (w ∷ v ∷ ws) h first p r apart leads (inr o) =
    owner-closed classes store bodies (v ∷ ws) h.1 first p r apart.1 leads o

nil_or : (m : Machine) (v : Val) → (v ≡ val.Nil) ⊎ ((r : ℕ) × IntoClosed m v r) → owns_or_nil m v ≡ true
nil_or m v (inl e) = ap (λ v. is_nil_value v || is_closed m v) e
nil_or m v (inr c) = or_right (is_nil_value v) (is_closed m v) (ap is_some (into-closed m v c.0 c.1))

-- what stands at such a place is nil or leads into a closed region
place-owns : (classes : List Class) (m : Machine) (bodies : List Body) (opened : List Opened) → ShowsFit classes m bodies opened →
    (F : Cap → Label → Type 0) → ((l : Label) → F Iso l → IsRegion l) → (t : Ty) (v : Val) → is_iso t ≡ true → MeetsBy m.store F t v → (p : Place) →
    leads_into classes m.store bodies p ≡ option_and_then (region_at m.store) (owned t v) → AllOwners opened (λ q. q ≢ p) → owns_or_nil m v ≡ true
place-owns classes m bodies opened d F regions t v iso meets p leads apart = nil_or m v (elim (iso-leads m.store F regions t v iso meets) [
  | inl e ↦ inl e
  | inr l ↦ inr (
    l.0,
    record {
      leads = l.1;
      closed = refused (is_open m.windows) l.0 (λ o. owner-closed classes m.store bodies opened d.fits.opened.owned d.fits.forest.none_into_first
          p l.0 apart (leads ∙ iso-owns m.store t v l.0 iso l.1) (open-shown d.sizes m.windows opened l.0 d.windows o));
    },
  )
])

-- an `iso` variable
pub slot-owns : (classes : List Class) (m : Machine) (b : Body) (bs : List Body) (opened : List Opened) → ShowsFit classes m (b ∷ bs) opened →
    (i : ℕ) (l : Local) → slice_get b.locals i ≡ Some l → is_iso l.ty ≡ true → NotOwner opened (length bs) i → owns_or_nil m (slot_at m i) ≡ true
slot-owns classes m b bs opened d i l at iso apart =
    ap (owns_or_nil m) (slot-value classes m b bs opened d i l at)
    ∙ place-owns classes m (b ∷ bs) opened d (LabelFits (windows_of (length bs) i opened)) (λ l h. h) l.ty l.value iso (d.fits.values.0 i l at)
    (place.Var (length bs) i)
    (leads-top classes m.store b bs i ∙ ap (λ (q : Option Local). option_and_then (region_at m.store) (option_and_then owned_by_local q)) at) apart

-- Fields of objects of the topmost window

pub temp-region : (ws : List Opened) (l : Label) → TempFieldFits ws Iso l → IsRegion l
temp-region [] l h = h
temp-region (w ∷ ws) l h = h

field-region : (ws : List Opened) (own : Label) → (own ≡ Frozen → ⊥) → (l : Label) → FieldFits ws own Iso l → IsRegion l
field-region ws (Region r) live l h = h
field-region ws (Temp n) live l h = temp-region (windows_from n ws) l h
field-region ws Frozen live l h = absurd (live refl)

-- an `iso` field
pub field-owns : (classes : List Class) (m : Machine) (bodies : List Body) (opened : List Opened) → ShowsFit classes m bodies opened → (a k : ℕ)
    (o : Seen) (f : Field) (v : Val) → slice_get m.store a ≡ Some o → IsTop opened o.label → slice_get (fields_of classes o.class) k ≡ Some f →
    slice_get o.fields k ≡ Some v → is_iso (type_of classes f.ty) ≡ true → owns_or_nil m (field_of o k) ≡ true
field-owns classes m bodies opened d a k o f v there top field at iso =
    let fit = d.fits.objects a o there in
    let F : List Field → Type 0 = λ q. FieldsMeet classes m.store (FieldFits opened o.label) q o.fields in
    let fields : F (fields_of classes o.class) = subst F (declared-fields classes m.store opened o fit k f field) fit.fields in
    let s = slot-meets classes m.store (FieldFits opened o.label) (fields_of classes o.class) o.fields k v fields at in
    let same : s.field ≡ f = same_Some s.field f (sym s.field_is ∙ field) in
    let P : Field → Type 0 = λ q. MeetsBy m.store (FieldFits opened o.label) (type_of classes q.ty) v in
    ap (λ q. owns_or_nil m (unwrap_or q val.Nil)) at
    ∙ place-owns classes m bodies opened d (FieldFits opened o.label) (field-region opened o.label (top-live opened o.label top))
    (type_of classes f.ty) v iso (subst P same s.meets) (place.Field a k)
    (leads-field classes m.store bodies opened a k o f v there top field at)
    (top-not_owner_field classes m.store bodies opened d.fits.opened.owned d.fits.opened.one_each d.fits.numbers.rising a k o there top)
