-- Where the block of an `enter` ends, the topmost window may close.
use Rattle.std.proofs.Common.{◌≡◌, ℕ, true, List, [], ◌∷◌, length, take, sym, subst, ◌||◌, cond, suc, refl, ap, ◌∙◌, false, Some, None, Option}
use Rattle.std.proofs.Common.{unwrap_or, slice_get, option_and_then, arith, ◌<◌, ◌-◌, ◌≤◌, zero, ◌==◌, ◌&&◌, nat_lt, inl, inr, length-append, map, replicate}
use Rattle.std.proofs.lemmas.Bool.{and_from, eq-eqb, le-leb, lt-ltb}
use Rattle.std.proofs.lemmas.List.{length-map}
use Rattle.rg_base.specs.declared.object.Seen.{Seen}
use Rattle.rg_tree.specs.Tree.{Tree, Name, Variable, Class, Field as FieldOfClass}
use Rattle.rg_base.specs.declared.object.Label.{Label}
use Rattle.rg_base.specs.declared.object.Label.TheVariants.{Region, Temp, Frozen}
use Rattle.rg_base.specs.declared.object.Place.{Place}
use Rattle.rg_rules.specs.Acceptance.{Accepted}
use Rattle.rg_rules.specs.Items.{Item, leave_of, LeaveGiving}
use Rattle.rg_rules.specs.State.{State, Frame as Body, Window as Opened, Local, value_in}
use Rattle.rg_sound.specs.Fit.{Fit}
use Rattle.rg_sound.proofs.Owners.Data.{Data}
use Rattle.rg_sound.proofs.Owners.Leave.{leaving}
use Rattle.rg_stack.specs.Machine.{Frame, Machine, top_slots, with_slots, ended_slots, end_slots, Window, slot_at}
use Rattle.rg_stack.specs.Shows.{ShowsFrames, ShowsWindows}
use Rattle.rg_stack.specs.Needs.{temps_may_go, owner_leads, places_into, owned_alone, owner_near}
use Rattle.rg_stack.specs.Places.{is_field, is_near, is_writable}
use Rattle.rg_stack.specs.Needs.{seen_by_owner}
use Rattle.rg_stack.proofs.Statements.Block.{shows_ended}
use Rattle.rg_stack.proofs.Callers.Lead.{ShowsFit, open-shown, leads-is_into}
use Rattle.rg_stack.proofs.Needs.Owner.{owner_leads-fits}
use Rattle.rg_stack.proofs.Needs.Temp.{temps_may_go-fits}
use Rattle.std.specs.Prelude.{nat_le}
use Rattle.std.proofs.lemmas.Option.{same_Some, slice_get_within}
use Rattle.rg_base.specs.declared.ty.Ty.TheVariants.{Ref}
use Rattle.rg_base.specs.declared.words.Cap.TheVariants.{Mut}
use Rattle.rg_base.specs.declared.value.Val.{Val}
use Rattle.rg_base.specs.declared.value.Val.TheVariants as val
use Rattle.rg_base.specs.declared.object.Place.TheVariants as place
use Rattle.rg_rules.specs.Values.{is_nil_value}
use Rattle.rg_rules.specs.Regions.{owned_as, region_of, region_at}
use Rattle.rg_rules.specs.Types.{fields_of}
use Rattle.rg_rules.specs.Owners.{owned_by_field, owned_by_local, owned_by_slot, owned_in_field, leads_into}
use Rattle.rg_rules.proofs.Point.{and_then-some}
use Rattle.rg_sound.specs.Values.{Meets}
use Rattle.rg_sound.specs.OpenRegions.{IsNear, OneWindowEach}
use Rattle.rg_sound.proofs.Owners.Open.{IsOpenIn}
use Rattle.rg_sound.proofs.LocalRoots.{open-get}
use Rattle.rg_sound.proofs.Owners.Owner.{leads-top}
use Rattle.rg_sound.proofs.Owners.Window.{pop-window}
use Rattle.rg_sound.proofs.Basics.{none-some}
use Rattle.rg_code.specs.Lowering.{slot_of}
use Rattle.rg_code.specs.Places.{scope_of}
use Rattle.rg_stack.specs.Effects.{left}
use Rattle.rg_stack.specs.Tops.{frame_number, without_top, top_region, top_owner, top_window}
use Rattle.rg_stack.specs.Labels.{is_open, is_into}
use Rattle.rg_stack.proofs.Callers.List.{refused}
use Rattle.rg_stack.proofs.Callers.Once.{places-one}
use Rattle.rg_stack.proofs.Callers.Base.{as_many}
use Rattle.rg_stack.proofs.Statements.Right.{same_region, same_window}
use Rattle.rg_stack.proofs.Statements.Window.{OwnerHere}
use Rattle.rg_stack.proofs.Walks.End.{slots_hold}

-- the variables of the block are gone
pub ended-shows : (fs : List Frame) (b : Body) (bs : List Body) (k : ℕ) → ShowsFrames fs (b ∷ bs) →
    ShowsFrames (with_slots (ended_slots k (top_slots fs)) fs) (record b { locals = take k b.locals } ∷ bs)
ended-shows [] b bs k h = absurd h
ended-shows (f ∷ fs) b bs k h = (shows_ended k f.slots b.locals h.0, h.1)

pub leave-fits : (t : Tree) → Accepted t → (s : State) (line k : ℕ) (giving : Option Name) (later : List Item) → Fit t s →
    (b : Body) (bs : List Body) → s.frames ≡ b ∷ bs → s.items ≡ leave_of line k giving ∷ later → (m : Machine) → m.store ≡ s.store → ShowsFrames m.frames (b ∷ bs) → (sizes : List ℕ) →
    ShowsWindows sizes m.windows s.windows → (temps_may_go (end_slots m k) ≡ true) × (owner_leads (end_slots m k) ≡ true)
leave-fits t a s line k giving later fit b bs at is m store shows sizes windows =
    let e = leaving t a s line k giving later fit b bs at is in
    let c : Body = record b { locals = take k b.locals } in
    let P : List Seen → Type 0 = λ q. Data t.classes q (c ∷ bs) (e.w ∷ e.v ∷ e.us) (length s.managers) s.windows_made in
    let Q : List Opened → Type 0 = λ q. ShowsWindows sizes m.windows q in
    let d : ShowsFit t.classes (end_slots m k) (c ∷ bs) (e.w ∷ e.v ∷ e.us) = record {
      regions = length s.managers;
      made = s.windows_made;
      sizes = sizes;
      fits = subst P (sym store) e.fits;
      slots = ended-shows m.frames b bs k shows;
      windows = subst Q e.windows windows;
    } in (
      temps_may_go-fits t.classes (end_slots m k) (c ∷ bs) e.w (e.v ∷ e.us) d e.front,
      owner_leads-fits t.classes (end_slots m k) (c ∷ bs) (e.w ∷ e.v ∷ e.us) d,
    )

-- With `giving x` what is given is of the region that closes, and nothing else leads there from outside than its owner, which is a variable
-- that is kept, or a field.

-- the windows beneath
beneath-shown : (sizes : List ℕ) (ws : List Window) (p q : Opened) (ps : List Opened) → ShowsWindows sizes ws (p ∷ q ∷ ps) →
    ShowsWindows sizes (without_top ws) (q ∷ ps)
beneath-shown sizes [] p q ps h = absurd h
beneath-shown sizes (w ∷ []) p q ps h = absurd h.1
beneath-shown sizes (w ∷ v ∷ ws) p q ps h = h.1

top-owner-shown : (sizes : List ℕ) (ws : List Window) (p q : Opened) (ps : List Opened) → ShowsWindows sizes ws (p ∷ q ∷ ps) →
    top_owner ws ≡ p.owner
top-owner-shown sizes [] p q ps h = absurd h
top-owner-shown sizes (w ∷ []) p q ps h = absurd h.1
top-owner-shown sizes (w ∷ v ∷ ws) p q ps h = h.0.owner

-- none of the windows beneath has the region of the topmost one open
closed-beneath : (w : Opened) (ws : List Opened) → OneWindowEach (w ∷ ws) → IsOpenIn ws w.region → ⊥
closed-beneath w ws each o =
    let g = open-get ws w.region o in
    let z : 0 ≡ suc g.0 = each 0 (suc g.0) w g.1 refl g.2 (sym g.3) in grind arith

-- a value of the topmost window's region, or nil
given-into : (store : List Seen) (w : Opened) (ws : List Opened) (c : ℕ) (v : Val) → Meets store (w ∷ ws) (Ref Mut c) v →
    (is_nil_value v || is_into store w.region v) ≡ true
given-into store w ws c val.Nil m = refl
given-into store w ws c (val.Int z) m = absurd m
given-into store w ws c (val.Bool b) m = absurd m
given-into store w ws c (val.Obj a) m = leads-is_into store w.region (val.Obj a) (record {
  address = a;
  value = refl;
  lies = ap (option_and_then (λ (o : Seen). region_of o.label)) m.there ∙ ap region_of m.label_fits;
})

-- a variable that owns is there
owner-there : (classes : List Class) (store : List Seen) (b : Body) (bs : List Body) (i r : ℕ) →
    leads_into classes store (b ∷ bs) (place.Var (length bs) i) ≡ Some r → i < length b.locals
owner-there classes store b bs i r h = by (slice_get b.locals i) refl (sym (leads-top classes store b bs i) ∙ h)
  where
    by : (o : Option Local) → slice_get b.locals i ≡ o → option_and_then (region_at store) (option_and_then owned_by_local o) ≡ Some r →
        i < length b.locals
    by None at e = none-some e
    by (Some l) at e = slice_get_within b.locals i l at

-- frames have the same numbers, and a slot for each variable
number-shown : (fs : List Frame) (b : Body) (bs : List Body) → ShowsFrames fs (b ∷ bs) → frame_number fs ≡ length bs
number-shown [] b bs h = absurd h
number-shown (f ∷ fs) b bs h = as_many fs bs h.1

room-shown : (fs : List Frame) (b : Body) (bs : List Body) (i : ℕ) → ShowsFrames fs (b ∷ bs) → i < length b.locals →
    nat_lt i (length (top_slots fs)) ≡ true
room-shown [] b bs i h less = absurd h
room-shown (f ∷ fs) b bs i h less =
    let vals = map (λ (l : Local). l.value) b.locals in
    lt-ltb i (length f.slots) (omega (
      arith,
      less,
      ap length h.0,
      length-append vals (replicate (length f.slots - length b.locals) val.Nil),
      length-map b.locals (λ (l : Local). l.value),
    ))

most : {A : Type 0} (k : ℕ) (xs : List A) → length (take k xs) ≤ length xs
most zero xs = omega arith
most (suc k) [] = omega arith
most (suc k) (x ∷ xs) = let r = most k xs in omega (arith, r)

-- an object has the field that owns something
owner-within : (classes : List Class) (o : Seen) (k x : ℕ) → owned_by_field classes o k ≡ Some x → k < length o.fields
owner-within classes o k x owns = by_label o.label owns
  where
    slot : owned_by_slot classes o k ≡ Some x → k < length o.fields
    slot e =
        let f = and_then-some (slice_get (fields_of classes o.class) k)
        (λ (f : FieldOfClass). option_and_then (owned_as classes f) (slice_get o.fields k)) x e in
        let v = and_then-some (slice_get o.fields k) (owned_as classes f.0) x f.2 in
        slice_get_within o.fields k v.0 v.1

    by_label : (l : Label) → elim l [ Region r ↦ owned_by_slot classes o k | Temp n ↦ owned_by_slot classes o k | Frozen ↦ None ] ≡ Some x →
        k < length o.fields
    by_label (Region r) e = slot e
    by_label (Temp n) e = slot e
    by_label Frozen e = none-some e

-- An owner's place is a slot of the topmost frame, or a field of an object of the window beneath.
module _ (classes : List Class) (m : Machine) (b c : Body) (bs : List Body) (sizes : List ℕ) (w v : Opened) (us : List Opened) (r : ℕ)
    (frames : ShowsFrames m.frames (b ∷ bs)) (windows : ShowsWindows sizes (without_top m.windows) (v ∷ us)) where
  field-near : (a k : ℕ) → IsNear m.store w v (place.Field a k) → leads_into classes m.store (c ∷ bs) (place.Field a k) ≡ Some r →
      is_near m (place.Field a k) ≡ true
  field-near a k near leads =
      let o = near.0 in
      let owned = and_then-some (owned_in_field classes m.store a k) (region_at m.store) r leads in
      let within = owner-within classes o k owned.0
      (sym (ap (option_and_then (λ (o : Seen). owned_by_field classes o k)) near.1) ∙ owned.1) in
      ap (λ (q : Option Seen). elim q [ None ↦ false | Some o ↦ is_field (record m { windows = without_top m.windows }) k o ]) near.1
      ∙ and_from (is_writable (record m { windows = without_top m.windows }) o.label) (nat_lt k (length o.fields))
      (elim near.2 [
        | inl e ↦ ap (is_writable (record m { windows = without_top m.windows })) e
            ∙ eq-eqb v.region (top_region (without_top m.windows)) (sym (same_region sizes (without_top m.windows) (v ∷ us) windows))
        | inr e ↦ ap (is_writable (record m { windows = without_top m.windows })) e
            ∙ eq-eqb v.number (top_window (without_top m.windows)) (sym (same_window sizes (without_top m.windows) (v ∷ us) windows))
      ])
      (lt-ltb k (length o.fields) within)

  var-near : (n i : ℕ) → n ≡ length bs → i < length b.locals → is_near m (place.Var n i) ≡ true
  var-near n i frame less =
      and_from (n == frame_number m.frames) (nat_lt i (length (top_slots m.frames)))
      (eq-eqb n (frame_number m.frames) (frame ∙ sym (number-shown m.frames b bs frames)))
      (room-shown m.frames b bs i frames less)

  pub place-near : (p : Place) → IsNear m.store w v p → ((n i : ℕ) → p ≡ place.Var n i → (n ≡ length bs) × (i < length b.locals)) →
      leads_into classes m.store (c ∷ bs) p ≡ Some r → is_near m p ≡ true
  place-near (place.Var n i) near here leads = let h = here n i refl in var-near n i h.0 h.1
  place-near (place.Field a k) near here leads = field-near a k near leads

slot-is : (fs : List Frame) (b : Body) (bs : List Body) (x : Variable) → ShowsFrames fs (b ∷ bs) →
    unwrap_or (slice_get (top_slots fs) (slot_of (scope_of b.locals) x)) val.Nil ≡ value_in b.locals x
slot-is [] b bs x h = absurd h
slot-is (f ∷ fs) b bs x h = slots_hold (scope_of b.locals) f.slots b.locals h.0 refl x

pub record GivingFits (m : Machine) (b : Body) (bs : List Body) (ws : List Opened) (k : ℕ) (x : Name) : Type 0 where
  pub given : (is_nil_value (slot_at m (slot_of (scope_of b.locals) (Some x)))
      || is_into m.store (top_region m.windows) (slot_at m (slot_of (scope_of b.locals) (Some x)))) ≡ true
  pub seen : seen_by_owner m k ≡ true
  pub here : (w : Opened) (us : List Opened) → ws ≡ w ∷ us → OwnerHere w.owner (length bs) (length (take k b.locals))

pub giving-fits : (t : Tree) → Accepted t → (s : State) (line k : ℕ) (x : Name) (later : List Item) → Fit t s →
    (b : Body) (bs : List Body) → s.frames ≡ b ∷ bs → s.items ≡ LeaveGiving line k x ∷ later → (m : Machine) → m.store ≡ s.store →
    ShowsFrames m.frames (b ∷ bs) → (sizes : List ℕ) → ShowsWindows sizes m.windows s.windows → GivingFits m b bs s.windows k x
giving-fits t a s line k x later fit b bs at is m store shows sizes windows =
    let e = leaving t a s line k (Some x) later fit b bs at is in
    let c : Body = record b { locals = take k b.locals } in
    let us = e.v ∷ e.us in
    let Q : List Opened → Type 0 = λ q. ShowsWindows sizes m.windows q in
    let shown = subst Q e.windows windows in
    let P : List Seen → Type 0 = λ q. Data t.classes q (c ∷ bs) us (length s.managers) s.windows_made in
    let d : ShowsFit t.classes (left m k) (c ∷ bs) us = record {
      regions = length s.managers;
      made = s.windows_made;
      sizes = sizes;
      fits = subst P (sym store) (pop-window t.classes s.store (c ∷ bs) e.w e.v e.us (length s.managers) s.windows_made e.fits e.front);
      slots = ended-shows m.frames b bs k shows;
      windows = beneath-shown sizes m.windows e.w e.v e.us shown;
    } in
    let region : top_region m.windows ≡ e.w.region = same_region sizes m.windows (e.w ∷ us) shown in
    let closed : is_open (without_top m.windows) (top_region m.windows) ≡ false =
    refused (is_open (without_top m.windows)) (top_region m.windows) (λ o.
    closed-beneath e.w us e.fits.opened.one_each
    (open-shown sizes (without_top m.windows) us e.w.region d.windows
    (ap (is_open (without_top m.windows)) (sym region) ∙ o))) in
    let owned = e.fits.opened.owned.0 in
    let leads : leads_into t.classes s.store (c ∷ bs) owned.place ≡ Some e.w.region = (owned.exact owned.place).1 refl in
    let leads_now : leads_into t.classes m.store (c ∷ bs) owned.place ≡ Some (top_region m.windows) =
    ap (λ q. leads_into t.classes q (c ∷ bs) owned.place) store ∙ leads ∙ ap Some (sym region) in
    let slot = slot-is m.frames b bs (Some x) shows in
    let owner : top_owner m.windows ≡ Some owned.place = top-owner-shown sizes m.windows e.w e.v e.us shown ∙ owned.named in
    let N : List Seen → Type 0 = λ q. IsNear q e.w e.v owned.place in
    let here : (n i : ℕ) → e.w.owner ≡ Some (place.Var n i) → (n ≡ length bs) × (i < length (take k b.locals)) = λ n i named.
    let frame : n ≡ length bs = e.left.here n i (ap (λ (u : Opened). u.owner) e.left_is ∙ named) in
    let put : owned.place ≡ place.Var (length bs) i =
    same_Some owned.place (place.Var (length bs) i) (sym owned.named ∙ named ∙ ap (λ n. Some (place.Var n i)) frame) in
    (frame, owner-there t.classes s.store c bs i e.w.region (ap (leads_into t.classes s.store (c ∷ bs)) (sym put) ∙ leads)) in
    let M : List Opened → Type 0 = λ q. Meets s.store q (Ref Mut e.left.given.class) (value_in b.locals (Some x)) in
    let into = given-into s.store e.w us e.left.given.class (value_in b.locals (Some x)) (subst M e.windows e.left.given.meets) in
    record {
      given = ap (λ v. is_nil_value v || is_into m.store (top_region m.windows) v) slot
          ∙ ap (λ r. is_nil_value (value_in b.locals (Some x)) || is_into m.store r (value_in b.locals (Some x))) region
          ∙ ap (λ q. is_nil_value (value_in b.locals (Some x)) || is_into q e.w.region (value_in b.locals (Some x))) store ∙ into;
      seen = and_from (owned_alone m k) (owner_near m)
          (le-leb (places_into (left m k) (top_region m.windows)) 1 (places-one t.classes (left m k) (c ∷ bs) us d (top_region m.windows) closed))
          (ap (λ o. elim o [ None ↦ true | Some p ↦ is_near m p ]) owner
          ∙ place-near t.classes m b c bs sizes e.w e.v e.us (top_region m.windows) shows d.windows owned.place (subst N (sym store) owned.near)
          (λ n i is.
          let h = here n i (owned.named ∙ ap Some is) in
          let kept = h.1 in
          (h.0, omega (arith, kept, most k b.locals)))
          leads_now);
      here = λ w vs same n i is.
          let one : w ≡ e.w = ap (λ l. elim l [ [] ↦ w | u ∷ us ↦ u ]) (sym same ∙ e.windows) in
          here n i (ap (λ (u : Opened). u.owner) (sym one) ∙ is);
    }
