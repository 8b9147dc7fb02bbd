-- The object whose field is written, swapped or entered: it may be written, it has the field, and each closed region is outside of it; and the
-- value may stand there.
use Rattle.std.proofs.Common.{◌≡◌, ◌⊎◌, inl, inr, ℕ, ◌==◌, nat_lt, Bool as Truth, true, false, true≢false, ◌&&◌, ◌||◌, not, List, [], ◌∷◌}
use Rattle.std.proofs.Common.{Option, Some, None, option_and_then, unwrap_or, length, slice_get, refl, sym, ap, subst, ◌∙◌, arith}
use Rattle.std.proofs.lemmas.Bool.{lt-ltb, eq-eqb}
use Rattle.std.proofs.lemmas.Option.{slice_get_within}
use Rattle.rg_base.specs.declared.words.Cap.{Cap}
use Rattle.rg_base.specs.declared.words.Cap.TheVariants.{Mut, Tmp, Paused, Imm, Iso}
use Rattle.rg_base.specs.declared.ty.Ty.{Ty}
use Rattle.rg_base.specs.declared.ty.Ty.TheVariants as ty
use Rattle.rg_base.specs.declared.object.Label.{Label}
use Rattle.rg_base.specs.declared.object.Label.TheVariants.{Region, Temp, Frozen}
use Rattle.rg_base.specs.declared.object.Seen.{Seen}
use Rattle.rg_base.specs.declared.value.Val.{Val}
use Rattle.rg_base.specs.declared.value.Val.TheVariants as val
use Rattle.rg_base.specs.declared.object.Place.TheVariants as place
use Rattle.rg_tree.specs.Tree.{Ty as Written, Field, Class}
use Rattle.rg_rules.specs.Capabilities.{is_iso}
use Rattle.rg_rules.specs.Types.{type_of, fields_of, element_type}
use Rattle.rg_rules.specs.State.{Frame as Body, Window as Opened}
use Rattle.rg_rules.specs.Regions.{region_of, owned_as, region_at}
use Rattle.rg_sound.specs.Values.{MeetsBy, Meets}
use Rattle.rg_sound.specs.Objects.{RegionFieldFits, FieldFits, ArrayFits, ObjectFits}
use Rattle.rg_sound.proofs.Basics.{none-some}
use Rattle.rg_sound.proofs.Owners.Receiver.{IsTop, field-leads as leads-field}
use Rattle.rg_stack.specs.Machine.{Window, Machine}
use Rattle.rg_stack.specs.Tops.{top_region, top_window}
use Rattle.rg_stack.specs.Shows.{ShowsWindows}
use Rattle.rg_stack.specs.Needs.{is_closed, may_stand}
use Rattle.rg_stack.specs.Places.{is_writable, is_field, field_of}
use Rattle.rg_stack.specs.Labels.{is_open, has_window, is_outside}
use Rattle.rg_stack.proofs.Callers.Lead.{ShowsFit, not-closed, field-leads}
use Rattle.rg_stack.proofs.Needs.Closed.{none-owned, not_iso-closed}
use Rattle.rg_stack.proofs.Basics.{or-left}
use Rattle.rg_sound.proofs.Values.Declared.{element-is, no-fields}
use Rattle.rg_rules.specs.Owners.{owned_by_slot, owned_by_field, leads_into}

top-shown : (sizes : List ℕ) (ws : List Window) (ps : List Opened) (l : Label) → ShowsWindows sizes ws ps → IsTop ps l →
    (l ≡ Region (top_region ws)) ⊎ (l ≡ Temp (top_window ws))
top-shown sizes [] [] l h top = absurd top
top-shown sizes [] (p ∷ ps) l h top = absurd h
top-shown sizes (w ∷ ws) [] l h top = absurd top
top-shown sizes (w ∷ ws) (p ∷ ps) l h (inl e) = inl (e ∙ ap Region (sym h.0.region))
top-shown sizes (w ∷ ws) (p ∷ ps) l h (inr e) = inr (e ∙ ap Temp (sym h.0.number))

-- an object of the topmost window's region, or a temporary of it, may be written
pub top-writable : (classes : List Class) (m : Machine) (bodies : List Body) (opened : List Opened) → ShowsFit classes m bodies opened →
    (l : Label) → IsTop opened l → is_writable m l ≡ true
top-writable classes m bodies opened d l top =
    let P : Label → Type 0 = λ q. is_writable m q ≡ true in
    elim (top-shown d.sizes m.windows opened l d.windows top) [
      | inl e ↦ subst P (sym e) (eq-eqb (top_region m.windows) (top_region m.windows) refl)
      | inr e ↦ subst P (sym e) (eq-eqb (top_window m.windows) (top_window m.windows) refl)
    ]

-- in a field that it has
pub top-field : (classes : List Class) (m : Machine) (bodies : List Body) (opened : List Opened) → ShowsFit classes m bodies opened →
    (k : ℕ) (o : Seen) (v : Val) → IsTop opened o.label → slice_get o.fields k ≡ Some v → is_field m k o ≡ true
top-field classes m bodies opened d k o v top at =
    ap (λ b. b && nat_lt k (length o.fields)) (top-writable classes m bodies opened d o.label top)
    ∙ lt-ltb k (length o.fields) (slice_get_within o.fields k v at)

outside-by : (sizes : List ℕ) (ws : List Window) (ps : List Opened) (l : Label) (r : ℕ) → ShowsWindows sizes ws ps → IsTop ps l →
    is_open ws r ≡ false → is_outside ws r l ≡ true
outside-by sizes [] [] l r h top e = absurd top
outside-by sizes [] (p ∷ ps) l r h top e = absurd h
outside-by sizes (w ∷ ws) [] l r h top e = absurd top
outside-by sizes (w ∷ ws) (p ∷ ps) l r h (inl at) e =
    let P : Label → Type 0 = λ q. is_outside (w ∷ ws) r q ≡ true in
    subst P (sym at) (ap not (ap (λ n. n == r) (sym h.0.region) ∙ or-left (w.region == r) (is_open ws r) e))
outside-by sizes (w ∷ ws) (p ∷ ps) l r h (inr at) e =
    let P : Label → Type 0 = λ q. is_outside (w ∷ ws) r q ≡ true in
    subst P (sym at) (ap (λ b. b || has_window ws p.number) (eq-eqb w.number p.number h.0.number))

-- and it is outside of each closed region
pub top-outside : (classes : List Class) (m : Machine) (bodies : List Body) (opened : List Opened) → ShowsFit classes m bodies opened →
    (l : Label) → IsTop opened l → (r : ℕ) → is_open m.windows r ≡ false → is_outside m.windows r l ≡ true
top-outside classes m bodies opened d l top r e = outside-by d.sizes m.windows opened l r d.windows top e

-- a field that isn't `iso`
pub field-closed : (classes : List Class) (m : Machine) (bodies : List Body) (opened : List Opened) → ShowsFit classes m bodies opened → (a k : ℕ)
    (o : Seen) (f : Field) (v : Val) → slice_get m.store a ≡ Some o → IsTop opened o.label → slice_get (fields_of classes o.class) k ≡ Some f →
    slice_get o.fields k ≡ Some v → is_iso (type_of classes f.ty) ≡ false → is_closed m (field_of o k) ≡ false
field-closed classes m bodies opened d a k o f v there top field at iso =
    ap (λ q. is_closed m (unwrap_or q val.Nil)) at
    ∙ not-closed m v (λ r c. none-owned m.store (type_of classes f.ty) v r iso
    (sym (leads-field classes m.store bodies opened a k o f v there top field at)
    ∙ field-leads classes m bodies opened d a k r o v there (top-outside classes m bodies opened d o.label top r c.closed) at c))

-- an array's class has no fields
pub array-fields : (classes : List Class) (store : List Seen) (opened : List Opened) (o : Seen) → ObjectFits classes store opened o → (t : Ty) →
    element_type classes o.class ≡ Some t → fields_of classes o.class ≡ []
array-fields classes store opened o fit t declared =
    let e = element-is classes store opened o fit t declared in
    let A : Option Written → Type 0 = λ q. ArrayFits fit.class q (length o.fields) in
    let a : ArrayFits fit.class (Some e.0) (length o.fields) = subst A e.1 fit.array in no-fields classes o.class fit.class fit.class_is a.0

-- so an element owns nothing
pub element-closed : (classes : List Class) (m : Machine) (bodies : List Body) (opened : List Opened) → ShowsFit classes m bodies opened →
    (a k : ℕ) (o : Seen) → slice_get m.store a ≡ Some o → IsTop opened o.label → fields_of classes o.class ≡ [] →
    is_closed m (field_of o k) ≡ false
element-closed classes m bodies opened d a k o there top none = by (slice_get o.fields k) refl
  where
    slot : owned_by_slot classes o k ≡ None
    slot = ap (λ (fs : List Field). option_and_then (λ (f : Field). option_and_then (owned_as classes f) (slice_get o.fields k)) (slice_get fs k))
        none

    of_label : (l : Label) → ◌≡◌ {A = Option ℕ} (elim l [
      | Region r ↦ owned_by_slot classes o k
      | Temp n ↦ owned_by_slot classes o k
      | Frozen ↦ None
    ]) None
    of_label (Region r) = slot
    of_label (Temp n) = slot
    of_label Frozen = refl

    nowhere : leads_into classes m.store bodies (place.Field a k) ≡ None
    nowhere =
        ap (λ (q : Option Seen). option_and_then (region_at m.store) (option_and_then (λ (p : Seen). owned_by_field classes p k) q)) there
        ∙ ap (option_and_then (region_at m.store)) (of_label o.label)

    by : (q : Option Val) → slice_get o.fields k ≡ q → is_closed m (field_of o k) ≡ false
    by None at = ap (λ q. is_closed m (unwrap_or q val.Nil)) at
    by (Some v) at =
        ap (λ q. is_closed m (unwrap_or q val.Nil)) at
        ∙ not-closed m v (λ r c. none-some (sym nowhere
        ∙ field-leads classes m bodies opened d a k r o v there (top-outside classes m bodies opened d o.label top r c.closed) at c))

-- a value of the field's type may stand there

in-region : (m : Machine) (r : ℕ) (t : Ty) (v : Val) → MeetsBy m.store (RegionFieldFits r) t v → is_iso t ≡ false → may_stand m (Region r) v ≡ true
in-region m r ty.Int val.Nil meets iso = absurd meets
in-region m r ty.Int (val.Int z) meets iso = refl
in-region m r ty.Int (val.Bool b) meets iso = absurd meets
in-region m r ty.Int (val.Obj a) meets iso = absurd meets
in-region m r ty.Bool val.Nil meets iso = absurd meets
in-region m r ty.Bool (val.Int z) meets iso = absurd meets
in-region m r ty.Bool (val.Bool b) meets iso = refl
in-region m r ty.Bool (val.Obj a) meets iso = absurd meets
in-region m r (ty.Ref cap c) val.Nil meets iso = refl
in-region m r (ty.Ref cap c) (val.Int z) meets iso = absurd meets
in-region m r (ty.Ref cap c) (val.Bool b) meets iso = absurd meets
in-region m r (ty.Ref cap c) (val.Obj a) meets iso = ap test (ap (option_and_then (λ (o : Seen). Some o.label)) meets.there)
    ∙ by cap meets.object.label meets.label_fits iso
  where
    test : Option Label → Truth
    test None = false
    test (Some (Region q)) = q == r
    test (Some (Temp n)) = false
    test (Some Frozen) = true

    by : (cap : Cap) (l : Label) → RegionFieldFits r cap l → is_iso (ty.Ref cap c) ≡ false → test (Some l) ≡ true
    by Mut l h e = ap (λ q. test (Some q)) h ∙ eq-eqb r r refl
    by Tmp l h e = absurd h
    by Paused l h e = absurd h
    by Imm l h e = ap (λ q. test (Some q)) h
    by Iso l h e = absurd (true≢false e)

pub may_stand-fits : (classes : List Class) (m : Machine) (bodies : List Body) (opened : List Opened) → ShowsFit classes m bodies opened →
    (l : Label) (t : Ty) (v : Val) → IsTop opened l → Meets m.store opened t v → MeetsBy m.store (FieldFits opened l) t v → is_iso t ≡ false →
    may_stand m l v ≡ true
may_stand-fits classes m bodies opened d (Region r) t v top meets fits iso = in-region m r t v fits iso
may_stand-fits classes m bodies opened d (Temp n) t v top meets fits iso =
    ap not (not_iso-closed classes m bodies opened opened d (λ l o. o) t v meets iso)
may_stand-fits classes m bodies opened d Frozen t v top meets fits iso = elim (top-shown d.sizes m.windows opened Frozen d.windows top) [
  | inl e ↦ none-some (ap region_of e)
  | inr e ↦ grind arith
]
