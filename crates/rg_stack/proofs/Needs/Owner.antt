-- The topmost window's region is led into from the place that the window names as its owner.
use Rattle.std.proofs.Common.{◌≡◌, ◌≢◌, inl, inr, ℕ, ◌-◌, Bool as Truth, true, false, if◌then◌else◌, List, [], ◌∷◌, ◌++◌, length, Option, Some, None}
use Rattle.std.proofs.Common.{option_and_then, unwrap_or, slice_get, refl, sym, ap, subst, ◌∙◌}
use Rattle.std.specs.Prelude.{reverse}
use Rattle.std.proofs.lemmas.List.{length-reverse, reverse-append}
use Rattle.std.proofs.lemmas.Option.{same_Some}
use Rattle.std.proofs.lemmas.Bool.{cases_eq}
use Rattle.rg_base.specs.declared.ty.Ty.{Ty}
use Rattle.rg_base.specs.declared.object.Label.{Label}
use Rattle.rg_base.specs.declared.object.Label.TheVariants.{Region, Temp, Frozen}
use Rattle.rg_base.specs.declared.object.Place.{Place}
use Rattle.rg_base.specs.declared.object.Place.TheVariants as place
use Rattle.rg_base.specs.declared.object.Seen.{Seen}
use Rattle.rg_base.specs.declared.value.Val.{Val}
use Rattle.rg_base.specs.declared.value.Val.TheVariants as val
use Rattle.rg_tree.specs.Tree.{Field, Class}
use Rattle.rg_tree.proofs.TreesFrom.{slice_get-push as get-snoc}
use Rattle.rg_rules.specs.Capabilities.{is_iso}
use Rattle.rg_rules.specs.Types.{type_of, fields_of}
use Rattle.rg_rules.specs.State.{Local, Frame as Body, Window as Opened, frame_at}
use Rattle.rg_rules.specs.Regions.{region_at, address, owned, owned_as}
use Rattle.rg_rules.specs.Owners.{owned_by_local, owned_by_slot, owned_by_field, leads_into}
use Rattle.rg_sound.specs.OpenRegions.{AllOwned}
use Rattle.rg_sound.proofs.Basics.{none-some}
use Rattle.rg_sound.proofs.Owners.Owner.{get-snoc-other, frame_at-top, frame_at-lower}
use Rattle.rg_stack.specs.Machine.{Frame, Window, Machine}
use Rattle.rg_stack.specs.Shows.{ShowsFrame, ShowsFrames, ShowsWindows}
use Rattle.rg_stack.specs.Needs.{owner_leads}
use Rattle.rg_stack.specs.Places.{field_of, value_at}
use Rattle.rg_stack.specs.Labels.{is_into}
use Rattle.rg_stack.proofs.Callers.Lead.{ShowsFit, LeadsInto, leads-is_into}
use Rattle.rg_stack.proofs.Callers.Mark.{shown-at}
use Rattle.rg_stack.proofs.Callers.Base.{as_many}

-- what is owned leads there
owned-leads : (store : List Seen) (t : Ty) (v : Val) (r : ℕ) → option_and_then (region_at store) (owned t v) ≡ Some r → LeadsInto store r v
owned-leads store t v r e = by (is_iso t) v e
  where
    by : (b : Truth) (v : Val) → option_and_then (region_at store) (if b then address v else None) ≡ Some r → LeadsInto store r v
    by false v e = none-some e
    by true val.Nil e = none-some e
    by true (val.Int z) e = none-some e
    by true (val.Bool b) e = none-some e
    by true (val.Obj a) e = record { address = a; value = refl; lies = e }

-- a frame by its number

reverse-top : (f : Frame) (fs : List Frame) → slice_get (reverse (f ∷ fs)) (length fs) ≡ Some f
reverse-top f fs = ap (λ q. slice_get q (length fs)) (reverse-append (f ∷ []) fs)
    ∙ ap (λ n. slice_get (reverse fs ++ f ∷ []) n) (sym (length-reverse fs)) ∙ get-snoc (reverse fs) f

reverse-lower : (f : Frame) (fs : List Frame) (n : ℕ) → n ≢ length fs → slice_get (reverse (f ∷ fs)) n ≡ slice_get (reverse fs) n
reverse-lower f fs n h = ap (λ q. slice_get q n) (reverse-append (f ∷ []) fs)
    ∙ get-snoc-other (reverse fs) f n (λ e. h (e ∙ length-reverse fs))

record ShownAt (fs : List Frame) (n : ℕ) (b : Body) : Type 0 where
  pub frame : Frame
  pub there : slice_get (reverse fs) n ≡ Some frame
  pub shows : ShowsFrame frame b

shown-frame : (fs : List Frame) (bs : List Body) → ShowsFrames fs bs → (n : ℕ) (b : Body) → frame_at bs n ≡ Some b → ShownAt fs n b
shown-frame [] [] h n b e = none-some e
shown-frame [] (c ∷ bs) h n b e = absurd h
shown-frame (f ∷ fs) [] h n b e = absurd h
shown-frame (f ∷ fs) (c ∷ bs) h n b e = elim (cases_eq n (length bs)) [
  | inl at ↦
      let one : c ≡ b = same_Some c b (sym (frame_at-top c bs) ∙ ap (frame_at (c ∷ bs)) (sym at) ∙ e) in
      let P : Body → Type 0 = λ q. ShowsFrame f q in
      record {
        frame = f;
        there = ap (slice_get (reverse (f ∷ fs))) (at ∙ sym (as_many fs bs h.1)) ∙ reverse-top f fs;
        shows = subst P one h.0;
      }
  | inr other ↦
      let s = shown-frame fs bs h.1 n b (sym (frame_at-lower c bs n other) ∙ e) in
      record {
        frame = s.frame;
        there = reverse-lower f fs n (λ x. other (x ∙ as_many fs bs h.1)) ∙ s.there;
        shows = s.shows;
      }
]

-- what stands at the place of an owner reference leads into its region

var-leads : (classes : List Class) (m : Machine) (bs : List Body) → ShowsFrames m.frames bs → (n i r : ℕ) →
    leads_into classes m.store bs (place.Var n i) ≡ Some r → LeadsInto m.store r (value_at m (place.Var n i))
var-leads classes m bs h n i r e = by (frame_at bs n) refl e
  where
    local : (b : Body) → frame_at bs n ≡ Some b → (q : Option Local) → slice_get b.locals i ≡ q →
        option_and_then (region_at m.store) (option_and_then owned_by_local q) ≡ Some r → LeadsInto m.store r (value_at m (place.Var n i))
    local b at None there e = none-some e
    local b at (Some l) there e =
        let s = shown-frame m.frames bs h n b at in
        let value : value_at m (place.Var n i) ≡ l.value =
        ap (λ q. elim q [ None ↦ val.Nil | Some f ↦ unwrap_or (slice_get f.slots i) val.Nil ]) s.there
        ∙ ap (λ q. unwrap_or (slice_get q i) val.Nil) s.shows
        ∙ ap (λ q. unwrap_or q val.Nil) (shown-at b.locals (length s.frame.slots - length b.locals) i l there) in
        let P : Val → Type 0 = λ v. LeadsInto m.store r v in subst P (sym value) (owned-leads m.store l.ty l.value r e)

    by : (q : Option Body) → frame_at bs n ≡ q →
        option_and_then (region_at m.store) (option_and_then owned_by_local (option_and_then (λ (b : Body). slice_get b.locals i) q)) ≡ Some r →
        LeadsInto m.store r (value_at m (place.Var n i))
    by None at e = none-some e
    by (Some b) at e = local b at (slice_get b.locals i) refl e

field-leads-at : (classes : List Class) (m : Machine) (bs : List Body) (a k r : ℕ) → leads_into classes m.store bs (place.Field a k) ≡ Some r →
    LeadsInto m.store r (value_at m (place.Field a k))
field-leads-at classes m bs a k r e = by (slice_get m.store a) refl e
  where
    value : (o : Seen) → slice_get m.store a ≡ Some o → field_of o k ≡ value_at m (place.Field a k)
    value o at = ap (λ q. elim q [ None ↦ val.Nil | Some o ↦ field_of o k ]) (sym at)

    held : (o : Seen) (f : Field) (q : Option Val) → slice_get o.fields k ≡ q →
        option_and_then (region_at m.store) (option_and_then (owned_as classes f) q) ≡ Some r → LeadsInto m.store r (field_of o k)
    held o f None at e = none-some e
    held o f (Some v) at e =
        let P : Val → Type 0 = λ v. LeadsInto m.store r v in
        subst P (sym (ap (λ q. unwrap_or q val.Nil) at)) (owned-leads m.store (type_of classes f.ty) v r e)

    slot : (o : Seen) (q : Option Field) →
        option_and_then (region_at m.store) (option_and_then (λ (f : Field). option_and_then (owned_as classes f) (slice_get o.fields k)) q)
        ≡ Some r →
        LeadsInto m.store r (field_of o k)
    slot o None e = none-some e
    slot o (Some f) e = held o f (slice_get o.fields k) refl e

    of_label : (o : Seen) (l : Label) →
        option_and_then (region_at m.store) (elim l [
          | Region q ↦ owned_by_slot classes o k
          | Temp n ↦ owned_by_slot classes o k
          | Frozen ↦ None
        ]) ≡ Some r → LeadsInto m.store r (field_of o k)
    of_label o (Region q) e = slot o (slice_get (fields_of classes o.class) k) e
    of_label o (Temp n) e = slot o (slice_get (fields_of classes o.class) k) e
    of_label o Frozen e = none-some e

    by : (q : Option Seen) → slice_get m.store a ≡ q →
        option_and_then (region_at m.store) (option_and_then (λ (o : Seen). owned_by_field classes o k) q) ≡ Some r →
        LeadsInto m.store r (value_at m (place.Field a k))
    by None at e = none-some e
    by (Some o) at e = let P : Val → Type 0 = λ v. LeadsInto m.store r v in subst P (value o at) (of_label o o.label e)

place-leads : (classes : List Class) (m : Machine) (bs : List Body) → ShowsFrames m.frames bs → (p : Place) (r : ℕ) →
    leads_into classes m.store bs p ≡ Some r → LeadsInto m.store r (value_at m p)
place-leads classes m bs h (place.Var n i) r e = var-leads classes m bs h n i r e
place-leads classes m bs h (place.Field a k) r e = field-leads-at classes m bs a k r e

pub owner_leads-fits : (classes : List Class) (m : Machine) (bodies : List Body) (opened : List Opened) → ShowsFit classes m bodies opened →
    owner_leads m ≡ true
owner_leads-fits classes m bodies opened d = by m.windows opened d.windows d.fits.opened.owned
  where
    by : (ws : List Window) (ps : List Opened) → ShowsWindows d.sizes ws ps → AllOwned classes m.store bodies ps →
        owner_leads (record m { windows = ws }) ≡ true
    by [] ps h owned = refl
    by (w ∷ []) ps h owned = refl
    by (w ∷ v ∷ ws) [] h owned = absurd h
    by (w ∷ v ∷ ws) (p ∷ []) h owned = absurd h.1
    by (w ∷ v ∷ ws) (p ∷ q ∷ ps) h owned =
        let o = owned.0 in
        let leads : LeadsInto m.store w.region (value_at m o.place) =
        place-leads classes m bodies d.slots o.place w.region ((o.exact o.place).1 refl ∙ ap Some (sym h.0.region)) in
        ap (λ q. elim q [ None ↦ false | Some p ↦ is_into m.store w.region (value_at m p) ]) (h.0.owner ∙ o.named)
        ∙ leads-is_into m.store w.region (value_at m o.place) leads
