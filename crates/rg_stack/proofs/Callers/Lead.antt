-- A machine that shows data that fit, and where its slots and fields lead: each slot, and each field from outside, that leads into a closed
-- region is the place of its owner reference.
use Rattle.std.proofs.Common.{◌≡◌, ◌≢◌, inl, inr, ℕ, ◌==◌, Bool as Truth, true, false, true≢false, ◌||◌, not, if◌then◌else◌, List, [], ◌∷◌, map}
use Rattle.std.proofs.Common.{Option, Some, None, is_some, option_and_then, length, slice_get, refl, sym, ap, subst, ◌∙◌, arith}
use Rattle.std.proofs.lemmas.Bool.{or_right, cases_eq}
use Rattle.std.proofs.lemmas.Option.{same_Some}
use Rattle.rg_base.specs.declared.ty.Ty.{Ty}
use Rattle.rg_base.specs.declared.object.Label.{Label}
use Rattle.rg_base.specs.declared.object.Label.TheVariants.{Region, Temp, Frozen}
use Rattle.rg_base.specs.declared.object.Place.TheVariants as place
use Rattle.rg_base.specs.declared.object.Seen.{Seen}
use Rattle.rg_base.specs.declared.value.Val.{Val}
use Rattle.rg_base.specs.declared.value.Val.TheVariants as val
use Rattle.rg_tree.specs.Tree.{Class}
use Rattle.rg_rules.specs.State.{Local, Frame as Body, Window as Opened}
use Rattle.rg_rules.specs.Regions.{region_of, region_at, address, owned}
use Rattle.rg_rules.specs.Owners.{owned_by_local, owned_at, leads_into}
use Rattle.rg_sound.specs.Windows.{windows_of, IsOpen}
use Rattle.rg_sound.specs.Values.{LabelFits, Meets, FrameMeets}
use Rattle.rg_sound.proofs.Basics.{none-some}
use Rattle.rg_sound.proofs.Held.{from-open}
use Rattle.rg_sound.proofs.LocalRoots.{closed-iso, other-iso, iso-owned, frozen-away, field-owned, temporary-owned}
use Rattle.rg_sound.proofs.Owners.Data.{Data}
use Rattle.rg_sound.proofs.Owners.Open.{IsOpenIn}
use Rattle.rg_sound.proofs.Owners.Owner.{leads-top, leads-lower, leads-past}
use Rattle.rg_sound.proofs.Stores.Member.{In}
use Rattle.rg_sound.proofs.Values.Label.{windows_of-open, windows_from-open}
use Rattle.rg_sound.proofs.Stores.MergeLabel.{open-in}
use Rattle.rg_stack.specs.Machine.{Frame, Window, Machine}
use Rattle.rg_stack.specs.Shows.{ShowsFrame, ShowsFrames, ShowsWindows}
use Rattle.rg_stack.specs.Needs.{closed_of, closed_into, is_closed}
use Rattle.rg_stack.specs.Labels.{is_open, has_window, label_of, lies_in, is_into, is_outside}
use Rattle.rg_stack.proofs.Callers.List.{slot-local}

-- a machine shows frames and windows whose data fit
pub record ShowsFit (classes : List Class) (m : Machine) (bodies : List Body) (opened : List Opened) : Type 0 where
  pub regions : ℕ
  pub made : ℕ
  pub sizes : List ℕ
  pub fits : Data classes m.store bodies opened regions made
  pub slots : ShowsFrames m.frames bodies
  pub windows : ShowsWindows sizes m.windows opened

-- Where values lead

-- a value leads into a region
pub record LeadsInto (store : List Seen) (r : ℕ) (v : Val) : Type 0 where
  pub address : ℕ
  pub value : v ≡ val.Obj address
  pub lies : region_at store address ≡ Some r

pub nil-leads : (store : List Seen) (r : ℕ) (v : Val) {B : Type 0} → LeadsInto store r v → v ≡ val.Nil → B
nil-leads store r v d e = none-some (ap address (sym e ∙ d.value))

lies-region : (l : Label) (r : ℕ) → lies_in r l ≡ true → region_of l ≡ Some r
lies-region (Region q) r e = let same : q ≡ r = grind arith in ap Some same
lies-region (Temp n) r e = absurd (true≢false (sym e))
lies-region Frozen r e = absurd (true≢false (sym e))

pub into-leads : (store : List Seen) (r : ℕ) (v : Val) → is_into store r v ≡ true → LeadsInto store r v
into-leads store r val.Nil e = absurd (true≢false (sym e))
into-leads store r (val.Int z) e = absurd (true≢false (sym e))
into-leads store r (val.Bool b) e = absurd (true≢false (sym e))
into-leads store r (val.Obj a) e = by (slice_get store a) refl e
  where
    by : (q : Option Seen) → slice_get store a ≡ q →
        elim (option_and_then (λ (o : Seen). Some o.label) q) [ None ↦ false | Some l ↦ lies_in r l ] ≡ true → LeadsInto store r (val.Obj a)
    by None at e = absurd (true≢false (sym e))
    by (Some o) at e =
        record { address = a; value = refl; lies = ap (option_and_then (λ (o : Seen). region_of o.label)) at ∙ lies-region o.label r e }

-- the label of a region's object
pub region-label : (store : List Seen) (a r : ℕ) → region_at store a ≡ Some r → label_of store (val.Obj a) ≡ Some (Region r)
region-label store a r h = by (slice_get store a) h
  where
    of_label : (l : Label) → region_of l ≡ Some r → ◌≡◌ {A = Option Label} (Some l) (Some (Region r))
    of_label (Region q) e = ap (λ q. Some (Region q)) (same_Some q r e)
    of_label (Temp n) e = none-some e
    of_label Frozen e = none-some e

    by : (q : Option Seen) → option_and_then (λ (o : Seen). region_of o.label) q ≡ Some r →
        option_and_then (λ (o : Seen). Some o.label) q ≡ Some (Region r)
    by None e = none-some e
    by (Some o) e = of_label o.label e

pub leads-label : (store : List Seen) (r : ℕ) (v : Val) → LeadsInto store r v → label_of store v ≡ Some (Region r)
leads-label store r v d = ap (label_of store) d.value ∙ region-label store d.address r d.lies

pub leads-is_into : (store : List Seen) (r : ℕ) (v : Val) → LeadsInto store r v → is_into store r v ≡ true
leads-is_into store r v d =
    let same : (r == r) ≡ true = grind arith in
    ap (λ q. elim q [ None ↦ false | Some l ↦ lies_in r l ]) (leads-label store r v d) ∙ same

-- a value leads into a closed region
pub record IntoClosed (m : Machine) (v : Val) (r : ℕ) : Type 0 where
  pub leads : LeadsInto m.store r v
  pub closed : is_open m.windows r ≡ false

closed-label : (ws : List Window) (l : Label) (r : ℕ) → closed_of ws l ≡ Some r → (region_of l ≡ Some r) × (is_open ws r ≡ false)
closed-label ws (Region q) r e = by (is_open ws q) refl e
  where
    by : (b : Truth) → is_open ws q ≡ b → (if b then None else Some q) ≡ Some r → (◌≡◌ {A = Option ℕ} (Some q) (Some r)) × (is_open ws r ≡ false)
    by true at e = none-some e
    by false at e = (e, ap (is_open ws) (sym (same_Some q r e)) ∙ at)
closed-label ws (Temp n) r e = none-some e
closed-label ws Frozen r e = none-some e

pub closed-into : (m : Machine) (v : Val) (r : ℕ) → closed_into m v ≡ Some r → IntoClosed m v r
closed-into m val.Nil r e = none-some e
closed-into m (val.Int z) r e = none-some e
closed-into m (val.Bool b) r e = none-some e
closed-into m (val.Obj a) r e = by (slice_get m.store a) refl e
  where
    by : (q : Option Seen) → slice_get m.store a ≡ q →
        option_and_then (closed_of m.windows) (option_and_then (λ (o : Seen). Some o.label) q) ≡ Some r →
        IntoClosed m (val.Obj a) r
    by None at e = none-some e
    by (Some o) at e = let c = closed-label m.windows o.label r e in record {
      leads = record { address = a; value = refl; lies = ap (option_and_then (λ (o : Seen). region_of o.label)) at ∙ c.0 };
      closed = c.1;
    }

pub into-closed : (m : Machine) (v : Val) (r : ℕ) → IntoClosed m v r → closed_into m v ≡ Some r
into-closed m v r c =
    ap (option_and_then (closed_of m.windows)) (leads-label m.store r v c.leads) ∙ ap (λ (b : Truth). if b then None else Some r) c.closed

-- a value that leads into no closed region
pub not-closed : (m : Machine) (v : Val) → ((r : ℕ) → IntoClosed m v r → ⊥) → is_closed m v ≡ false
not-closed m v never = by (closed_into m v) refl
  where
    by : (q : Option ℕ) → closed_into m v ≡ q → is_some q ≡ false
    by None e = refl
    by (Some r) e = absurd (never r (closed-into m v r e))

-- Windows

pub shown-open : (sizes : List ℕ) (ws : List Window) (ps : List Opened) (r : ℕ) → ShowsWindows sizes ws ps → IsOpenIn ps r → is_open ws r ≡ true
shown-open sizes [] [] r h o = absurd o
shown-open sizes [] (p ∷ ps) r h o = absurd h
shown-open sizes (w ∷ ws) [] r h o = absurd h
shown-open sizes (w ∷ ws) (p ∷ ps) r h (inl e) =
    let at : w.region ≡ r = h.0.region ∙ e in
    let same : (w.region == r) ≡ true = grind arith in ap (λ b. b || is_open ws r) same
shown-open sizes (w ∷ ws) (p ∷ ps) r h (inr o) = or_right (w.region == r) (is_open ws r) (shown-open sizes ws ps r h.1 o)

pub open-shown : (sizes : List ℕ) (ws : List Window) (ps : List Opened) (r : ℕ) → ShowsWindows sizes ws ps → is_open ws r ≡ true → IsOpenIn ps r
open-shown sizes [] [] r h o = absurd (true≢false (sym o))
open-shown sizes [] (p ∷ ps) r h o = absurd h
open-shown sizes (w ∷ ws) [] r h o = absurd h
open-shown sizes (w ∷ ws) (p ∷ ps) r h o = by (w.region == r) refl (open-shown sizes ws ps r h.1) o
  where
    by : (b : Truth) → (w.region == r) ≡ b → (is_open ws r ≡ true → IsOpenIn ps r) → (b || is_open ws r) ≡ true → IsOpenIn (p ∷ ps) r
    by true e more o = let at : w.region ≡ r = grind arith in inl (sym h.0.region ∙ at)
    by false e more o = inr (more o)

-- a region that no window has open
pub shown-closed : (sizes : List ℕ) (ws : List Window) (ps : List Opened) (r : ℕ) → ShowsWindows sizes ws ps → is_open ws r ≡ false →
    IsOpen ps (Region r) → ⊥
shown-closed sizes ws ps r h e o = true≢false (sym (shown-open sizes ws ps r h (open-in ps r o)) ∙ e)

-- a window of a number
pub shown-number : (sizes : List ℕ) (ws : List Window) (ps : List Opened) (n : ℕ) → ShowsWindows sizes ws ps → has_window ws n ≡ true →
    In n (map (λ (p : Opened). p.number) ps)
shown-number sizes [] [] n h o = absurd (true≢false (sym o))
shown-number sizes [] (p ∷ ps) n h o = absurd h
shown-number sizes (w ∷ ws) [] n h o = absurd h
shown-number sizes (w ∷ ws) (p ∷ ps) n h o = by (w.number == n) refl (shown-number sizes ws ps n h.1) o
  where
    by : (b : Truth) → (w.number == n) ≡ b → (has_window ws n ≡ true → In n (map (λ (p : Opened). p.number) ps)) → (b || has_window ws n) ≡ true →
        In n (map (λ (p : Opened). p.number) (p ∷ ps))
    by true e more o = let at : w.number ≡ n = grind arith in inl (sym h.0.number ∙ at)
    by false e more o = inr (more o)

-- Owner references

-- a value that leads into a region which isn't open at its windows owns it
pub value-owns : (store : List Seen) (us : List Opened) (t : Ty) (v : Val) (r : ℕ) → Meets store us t v → (IsOpen us (Region r) → ⊥) →
    LeadsInto store r v → option_and_then (region_at store) (owned t v) ≡ Some r
value-owns store us t v r m away d =
    let P : Val → Type 0 = λ q. Meets store us t q in
    ap (λ q. option_and_then (region_at store) (owned t q)) d.value
    ∙ ap (option_and_then (region_at store)) (iso-owned store (LabelFits us) t d.address r d.lies (closed-iso us r away) (subst P d.value m))
    ∙ d.lies

-- a slot of the topmost frame
pub frame-leads : (classes : List Class) (store : List Seen) (ps : List Opened) (f : Frame) (b : Body) (bs : List Body) (i : ℕ) (v : Val) (r : ℕ) →
    ShowsFrame f b → FrameMeets store ps (length bs) b.locals → (IsOpen ps (Region r) → ⊥) → slice_get f.slots i ≡ Some v → LeadsInto store r v →
    leads_into classes store (b ∷ bs) (place.Var (length bs) i) ≡ Some r
frame-leads classes store ps f b bs i v r shows meets away at d =
    elim (slot-local b.locals _ i v (ap (λ s. slice_get s i) (sym shows) ∙ at)) [
      | inl n ↦ nil-leads store r v d n
      | inr l ↦
          let P : Val → Type 0 = λ q. LeadsInto store r q in
          leads-top classes store b bs i
          ∙ ap (λ (q : Option Local). option_and_then (region_at store) (option_and_then owned_by_local q)) l.there
          ∙ value-owns store (windows_of (length bs) i ps) l.local.ty l.local.value r (meets i l.local l.there)
          (λ o. away (windows_of-open (length bs) i ps (Region r) o)) (subst P (sym l.value) d)
    ]

-- what a variable of the frames beneath owns
pub leads-more : (classes : List Class) (store : List Seen) (b : Body) (bs : List Body) (n i r : ℕ) →
    leads_into classes store bs (place.Var n i) ≡ Some r → (n ≢ length bs) × (leads_into classes store (b ∷ bs) (place.Var n i) ≡ Some r)
leads-more classes store b bs n i r e = elim (cases_eq n (length bs)) [
  | inr other ↦ (other, leads-lower classes store b bs n i other ∙ e)
  | inl here ↦ none-some (sym (leads-past classes store bs n i (omega (arith, here))) ∙ e)
]

-- a field that is seen from outside the region
pub field-leads : (classes : List Class) (m : Machine) (bodies : List Body) (opened : List Opened) → ShowsFit classes m bodies opened →
    (a k r : ℕ) (o : Seen) (v : Val) →
    slice_get m.store a ≡ Some o → is_outside m.windows r o.label ≡ true → slice_get o.fields k ≡ Some v → IntoClosed m v r →
    leads_into classes m.store bodies (place.Field a k) ≡ Some r
field-leads classes m bodies opened d a k r o v there outside at c =
    ap (option_and_then (region_at m.store)) (by o.label refl outside) ∙ c.leads.lies
  where
    away : IsOpen opened (Region r) → ⊥
    away = shown-closed d.sizes m.windows opened r d.windows c.closed

    is : slice_get o.fields k ≡ Some (val.Obj c.leads.address)
    is = at ∙ ap Some c.leads.value

    other : (p : ℕ) → not (p == r) ≡ true → p ≢ r
    other p x e = let same : (p == r) ≡ true = grind arith in true≢false (sym x ∙ ap not same)

    by : (l : Label) → o.label ≡ l → is_outside m.windows r l ≡ true → owned_at classes m.store bodies (place.Field a k) ≡ Some c.leads.address
    by (Region p) e x = field-owned classes m.store bodies opened d.fits.values d.fits.objects a k o c.leads.address r (Region p) there e
        (λ z. grind arith) is c.leads.lies (λ cap l g h. other-iso p r (other p x) cap l g h)
    by (Temp n) e x = temporary-owned classes m.store bodies opened d.fits.values d.fits.objects a k n o c.leads.address r there e
        (from-open opened n (shown-number d.sizes m.windows opened n d.windows x)) is c.leads.lies
        (λ z. away (windows_from-open n opened (Region r) z))
    by Frozen e x = absurd (frozen-away classes m.store bodies opened d.fits.values d.fits.objects a k o c.leads.address r there e is c.leads.lies)
