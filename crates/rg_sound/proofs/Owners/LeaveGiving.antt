-- The end of the block of an `enter` with `giving w` keeps the invariant: the window goes, and what owned its region leads to another
-- object of it.
use Rattle.std.proofs.Common.{◌≡◌, refl, sym, ◌∙◌, ap, subst, ◌⊎◌, inl, inr, ℕ, zero, suc, ◌==◌, Bool as Truth, true, if◌then◌else◌}
use Rattle.std.proofs.Common.{List, [], ◌∷◌, length, take, Option, Some, None, option_map, option_and_then, slice_get, slice_set, Ok, arith}
use Rattle.std.proofs.lemmas.Option.{same_Some}
use Rattle.std.proofs.lemmas.Bool.{cases_eq}
use Rattle.rg_base.specs.declared.words.Cap.TheVariants.{Mut, Iso}
use Rattle.rg_base.specs.declared.ty.Ty.{Ty}
use Rattle.rg_base.specs.declared.ty.Ty.TheVariants.{Ref}
use Rattle.rg_base.specs.declared.object.Label.{Label}
use Rattle.rg_base.specs.declared.object.Label.TheVariants.{Region, Temp, Frozen}
use Rattle.rg_base.specs.declared.object.Place.{Place}
use Rattle.rg_base.specs.declared.object.Place.TheVariants.{Var, Field}
use Rattle.rg_base.specs.declared.object.Seen.{Seen}
use Rattle.rg_base.specs.declared.value.Val.{Val}
use Rattle.rg_base.specs.declared.value.Val.TheVariants.{Obj}
use Rattle.rg_tree.specs.Tree.{Name, Field as FieldOfClass, Class, Tree}
use Rattle.rg_rules.specs.Acceptance.{Accepted}
use Rattle.rg_rules.specs.Types.{type_of, fields_of}
use Rattle.rg_rules.specs.Items.{Item, LeaveGiving}
use Rattle.rg_rules.specs.State.{Local, Frame, Window, State, locals_of, top_locals, value_in, set_at, set_in_frame}
use Rattle.rg_rules.specs.Evaluation.{object_at, with_element}
use Rattle.rg_rules.specs.Regions.{region_of, region_at, address, owned, owned_as}
use Rattle.rg_rules.specs.Owners.{owned_by_local, owned_by_slot, owned_by_field, leads_into}
use Rattle.rg_rules.specs.Steps.{put_at, step_leave, step_leave_giving}
use Rattle.rg_rules.proofs.Answers.{then-ok}
use Rattle.rg_rules.proofs.Step.{stepped-went, object_at-ok}
use Rattle.rg_sound.specs.Windows.{windows_of, windows_from}
use Rattle.rg_sound.specs.Values.{IsRegion, LabelFits, Leads, MeetsRef, MeetsBy, Meets}
use Rattle.rg_sound.specs.Objects.{TempFieldFits, FieldFits}
use Rattle.rg_sound.specs.OpenRegions.{IsNear, IsOwned}
use Rattle.rg_rules.specs.Environment.{Entry}
use Rattle.rg_sound.specs.Frames.{Named, FramesFit}
use Rattle.rg_sound.specs.Bridges.{local_type, type_at, IsBridged, BridgesFit}
use Rattle.rg_sound.specs.Fit.{Fit}
use Rattle.rg_sound.specs.Writes.{Written, StandsIn, owners_place, AllowedBy, fields_at}
use Rattle.rg_sound.specs.Laws.{StaysFit, LeaveGivingKeeps}
use Rattle.rg_sound.proofs.Basics.{none-some}
use Rattle.rg_sound.proofs.Frames.Entry.{Stays-same}
use Rattle.rg_sound.proofs.Frames.Stands.{stands-stays}
use Rattle.rg_sound.proofs.Owners.Owner.{get-set, get-set-other, get-take, led_by, leads-top, length-slice_set}
use Rattle.rg_sound.proofs.Owners.Data.{Data, data-fit, puts-set, put-same}
use Rattle.rg_sound.proofs.Owners.Window.{pop-window}
use Rattle.rg_sound.proofs.Owners.Bridge.{KeepsTypes, local_type-top, classes-same, classes-set, bridges-top, types-same}
use Rattle.rg_sound.proofs.Owners.Leave.{Leaving, leaving}
use Rattle.rg_sound.proofs.Stores.Store.{store-set}
use Rattle.rg_sound.proofs.Stores.Field.{field-set}
use Rattle.rg_sound.proofs.Stores.Element.{put_element-is}
use Rattle.rg_sound.proofs.Frames.Quiet.{allowed-same}

-- what is given is an object of the region that closes
record GivenObject (store : List Seen) (w : Window) (c : ℕ) (v : Val) : Type 0 where
  pub address : ℕ
  pub value : v ≡ Obj address
  pub object : Seen
  pub there : slice_get store address ≡ Some object
  pub class_is : object.class ≡ c
  pub label_is : object.label ≡ Region w.region

given-object : (store : List Seen) (w : Window) (ws : List Window) (c : ℕ) (v : Val) (o : Seen) → Meets store (w ∷ ws) (Ref Mut c) v →
    object_at store v ≡ Ok o → GivenObject store w c v
given-object store w ws c v o m h =
    let a = object_at-ok store v o h in
    let P : Val → Type 0 = λ q. MeetsRef store c (LabelFits (w ∷ ws) Mut) q in
    let n : Leads store a.address c (LabelFits (w ∷ ws) Mut) = subst P a.value m in
    record { address = a.address; value = a.value; object = n.object; there = n.there; class_is = n.class_is; label_is = n.label_fits }

-- a variable of the topmost frame gets another value
set_at-is : (i : ℕ) (v : Val) (ls : List Local) (l : Local) → slice_get ls i ≡ Some l → set_at i v ls ≡ slice_set ls i (record l { value = v })
set_at-is i v ls l h = rw (set_at, h) refl

set-types : (ls : List Local) (i : ℕ) (l m : Local) → slice_get ls i ≡ Some l → m.ty ≡ l.ty → KeepsTypes ls (slice_set ls i m)
set-types ls i l m at ty j n e = elim (cases_eq j i) [
  | inl here ↦
      let one : l ≡ n = same_Some l n (sym at ∙ ap (slice_get ls) (sym here) ∙ e) in
      (m, ap (slice_get (slice_set ls i m)) here ∙ get-set ls i m l at, ty ∙ ap (λ (q : Local). q.ty) one)
  | inr away ↦ (n, get-set-other ls i j m away ∙ e, refl)
]

set-top : (i : ℕ) (v : Val) (f : Frame) (fs : List Frame) → set_in_frame (length fs) i v (f ∷ fs) ≡ record f { locals = set_at i v f.locals } ∷ fs
set-top i v f fs =
    let same : (length fs == length fs) ≡ true = grind arith in
    let P : Truth → Type 0 = λ b. ◌≡◌ {A = List Frame} (if b then record f { locals = set_at i v f.locals } ∷ fs else f ∷ set_in_frame (length fs) i
    v fs)
    (record f { locals = set_at i v f.locals } ∷ fs) in subst P (sym same) refl

named-set : (es : List Entry) (ls : List Local) (i : ℕ) (l m : Local) → Named es ls → slice_get ls i ≡ Some m → l.name ≡ m.name → l.ty ≡ m.ty →
    Named es (slice_set ls i l)
named-set [] [] i l m h at name ty = none-some at
named-set [] (x ∷ ls) i l m h at name ty = absurd h
named-set (e ∷ es) [] i l m h at name ty = none-some at
named-set (e ∷ es) (x ∷ ls) zero l m h at name ty =
    let same : x ≡ m = same_Some x m at in
    (name ∙ ap (λ (q : Local). q.name) (sym same) ∙ h.0, ty ∙ ap (λ (q : Local). q.ty) (sym same) ∙ h.1, h.2)
named-set (e ∷ es) (x ∷ ls) (suc i) l m h at name ty = (h.0, h.1, named-set es ls i l m h.2 at name ty)

-- where a variable's value changes, its frame stands where it stood
frames-set : (t : Tree) (g : Frame) (fs : List Frame) (ws : List Window) (items : List Item) (i : ℕ) (l m : Local) → slice_get g.locals i ≡ Some m →
    l.name ≡ m.name → l.ty ≡ m.ty → FramesFit t (g ∷ fs) ws items → FramesFit t (record g { locals = slice_set g.locals i l } ∷ fs) ws items
frames-set t g fs ws items i l m at name ty (inl r) = inl (record {
  body = r.body;
  own = r.own;
  under = r.under;
  windows_are = r.windows_are;
  point = r.point;
  spot = r.spot;
  spot_is = r.spot_is;
  stands = stands-stays g (record g { locals = slice_set g.locals i l }) (length fs) r.own r.spot r.spot.env r.spot.items r.stands
      (Stays-same r.spot.env) refl (named-set r.spot.env.entries g.locals i l m r.stands.named at name ty);
  first = r.first;
  more = r.more;
  begins = r.begins;
  rest = r.rest;
  items_are = r.items_are;
  beneath = r.beneath;
})
frames-set t g fs ws items i l m at name ty (inr d) =
    none-some (sym (ap (λ (q : Frame). slice_get q.locals i) d.no_variable) ∙ at)

led-local : (store : List Seen) (o : Option Local) (r : ℕ) → option_and_then (region_at store) (option_and_then owned_by_local o) ≡ Some r →
    (m : Local) × (o ≡ Some m) × (led_by store m ≡ Some r)
led-local store None r h = none-some h
led-local store (Some m) r h = (m, refl, h)

-- what an `iso` place owns
iso-leads : (store : List Seen) (w : Window) (c : ℕ) (v : Val) (ty : Ty) → GivenObject store w c v → ty ≡ Ref Iso c →
    option_and_then (region_at store) (owned ty v) ≡ Some w.region
iso-leads store w c v ty o is =
    ap (λ q. option_and_then (region_at store) (owned q v)) is ∙ ap (λ q. option_and_then (region_at store) (address q)) o.value
    ∙ ap (λ (q : Option Seen). option_and_then (λ (y : Seen). region_of y.label) q) o.there ∙ ap region_of o.label_is

iso-meets : (store : List Seen) (w : Window) (c : ℕ) (v : Val) (F : Label → Type 0) → ((l : Label) → IsRegion l → F l) → GivenObject store w c v →
    MeetsRef store c F v
iso-meets store w c v F to o =
    let P : Val → Type 0 = λ q. MeetsRef store c F q in
    subst P (sym o.value) (record {
      object = o.object;
      there = o.there;
      class_is = o.class_is;
      label_fits = to o.object.label (w.region, o.label_is);
    })

field-region : (ws : List Window) (own : Label) → (own ≡ Frozen → ⊥) → (l : Label) → IsRegion l → FieldFits ws own Iso l
field-region ws (Region r) live l h = h
field-region ws (Temp n) live l h = by (windows_from n ws)
  where
    by : (vs : List Window) → TempFieldFits vs Iso l
    by [] = h
    by (v ∷ vs) = h
field-region ws Frozen live l h = absurd (live refl)

-- the object in which the owner stands isn't frozen
near-live : (v : Window) (l : Label) → (l ≡ Region v.region) ⊎ (l ≡ Temp v.number) → l ≡ Frozen → ⊥
near-live v l (inl e) z = let no : Region v.region ≡ Frozen = sym e ∙ z in grind arith
near-live v l (inr e) z = let no : Temp v.number ≡ Frozen = sym e ∙ z in grind arith

typed-field : (classes : List Class) (o : Option FieldOfClass) (ty : Ty) → option_map (λ (f : FieldOfClass). type_of classes f.ty) o ≡ Some ty →
    (f : FieldOfClass) × (o ≡ Some f) × (type_of classes f.ty ≡ ty)
typed-field classes None ty h = none-some h
typed-field classes (Some f) ty h = (f, refl, same_Some (type_of classes f.ty) ty h)

module _ (t : Tree) (a : Accepted t) (s u : State) (line k : ℕ) (x : Name) (rest : List Item) (f : Fit t s)
    (e : s.items ≡ LeaveGiving line k x ∷ rest) (h : step_leave_giving k x (record s { items = rest }) s.windows ≡ Ok u)
    (fr : Frame) (fs : List Frame) (at : s.frames ≡ fr ∷ fs) (l : Leaving t s fr fs k (Some x) rest) where
  abbrev s0 : State
  s0 = record s { items = rest }

  abbrev g : Frame
  g = record fr { locals = take k fr.locals }

  abbrev v : Val
  v = value_in fr.locals (Some x)

  abbrev mid : State
  mid = record s { frames = g ∷ fs; windows = l.v ∷ l.us; items = rest }

  popped : Data t.classes s.store (g ∷ fs) (l.v ∷ l.us) (length s.managers) s.windows_made
  popped = pop-window t.classes s.store (g ∷ fs) l.w l.v l.us (length s.managers) s.windows_made l.fits l.front

  ran : (o : Seen) × (object_at s.store v ≡ Ok o) × (u ≡ put_at l.w.owner mid v)
  ran =
      let P : List Window → Type 0 = λ q. step_leave_giving k x s0 q ≡ Ok u in
      let run = subst P l.windows h in
      let c = then-ok (object_at s.store (value_in (locals_of s0) (Some x))) _ u run in
      let locals : locals_of s0 ≡ fr.locals = ap top_locals at in
      let is : put_at l.w.owner (step_leave k s0 (l.w ∷ l.v ∷ l.us)) (value_in (locals_of s0) (Some x)) ≡ u = let q = c.2 in grind arith in
      let left : step_leave k s0 (l.w ∷ l.v ∷ l.us) ≡ mid = rw at refl in (
        c.0,
        ap (λ q. object_at s.store (value_in q (Some x))) (sym locals) ∙ c.1,
        sym is ∙ ap (λ q. put_at l.w.owner q (value_in (locals_of s0) (Some x))) left ∙ ap (λ q. put_at l.w.owner mid (value_in q (Some x))) locals,
      )

  owned_here : IsOwned t.classes s.store (g ∷ fs) l.w l.v
  owned_here = l.fits.opened.owned.0

  bridge : IsBridged t.classes s.store (fr ∷ fs) l.w owned_here.place
  bridge =
      let P : List Frame → Type 0 = λ q. BridgesFit t.classes s.store q s.windows in
      (subst P at f.bridges) 0 l.w owned_here.place (ap (λ q. slice_get q 0) l.windows) owned_here.named

  -- the class of the bridge is that of what is given
  same_class : l.left.given.class ≡ bridge.class
  same_class =
      let base_frame : l.w.base_frame ≡ length fs = ap (λ (q : Window). q.base_frame) (sym l.left_is) ∙ l.left.base_frame in
      let base_place : l.w.base_place ≡ k = ap (λ (q : Window). q.base_place) (sym l.left_is) ∙ l.left.base_place in
      let both : ◌≡◌ {A = Option Ty} (Some (Ref Mut l.left.given.class)) (Some (Ref Mut bridge.class)) =
      sym l.left.given.bridge ∙ ap (λ q. local_type (fr ∷ fs) q k) (sym base_frame)
      ∙ ap (local_type (fr ∷ fs) l.w.base_frame) (sym base_place) ∙ bridge.bridge_is in
      grind arith

  object : GivenObject s.store l.w bridge.class v
  object =
      let P : List Window → Type 0 = λ q. Meets s.store q (Ref Mut l.left.given.class) v in
      let Q : ℕ → Type 0 = λ q. GivenObject s.store l.w q v in
      subst Q same_class (given-object s.store l.w (l.v ∷ l.us) l.left.given.class v ran.0 (subst P l.windows l.left.given.meets) ran.1)

  put_is : (p : Place) → owned_here.place ≡ p → u ≡ put_at (Some p) mid v
  put_is p same = ran.2 ∙ ap (λ q. put_at q mid v) (owned_here.named ∙ ap Some same)

  leads : (p : Place) → owned_here.place ≡ p → leads_into t.classes s.store (g ∷ fs) p ≡ Some l.w.region
  leads p same = (owned_here.exact p).1 (sym same)

  -- the owner is a variable
  variable : (n i : ℕ) → owned_here.place ≡ Var n i → StaysFit t s u
  variable n i same =
      let here : n ≡ length fs = l.left.here n i (ap (λ (q : Window). q.owner) l.left_is ∙ owned_here.named ∙ ap Some same) in
      let led = led-local s.store (slice_get g.locals i) l.w.region
      (sym (leads-top t.classes s.store g fs i) ∙ ap (λ q. leads_into t.classes s.store (g ∷ fs) (Var q i)) (sym here) ∙ leads (Var n i) same) in
      let m = led.0 in
      let ty : m.ty ≡ Ref Iso bridge.class =
      let was = get-take k fr.locals i m led.1 in
      let declared : ◌≡◌ {A = Option Ty} (Some m.ty) (Some (Ref Iso bridge.class)) =
      sym (local_type-top fr fs i ∙ ap (option_map (λ (q : Local). q.ty)) was) ∙ ap (λ q. local_type (fr ∷ fs) q i) (sym here)
      ∙ ap (type_at t.classes s.store (fr ∷ fs)) (sym same) ∙ bridge.owner_is in grind arith in
      let new : Local = record m { value = v } in
      let g1 : Frame = record g { locals = slice_set g.locals i new } in
      let P : Ty → Type 0 = λ q. Meets s.store (windows_of (length fs) i (l.v ∷ l.us)) q v in
      let fits = put-same t.classes s.store g fs (l.v ∷ l.us) (length s.managers) s.windows_made (slice_set g.locals i new) i new m popped
      (puts-set g.locals i new m led.1) led.1 (iso-leads s.store l.w bridge.class v m.ty object ty ∙ sym led.2)
      (subst P (sym ty) (iso-meets s.store l.w bridge.class v (λ q. IsRegion q) (λ q z. z) object)) in
      let w : State = record mid { frames = g1 ∷ fs } in
      let is : u ≡ w = put_is (Var n i) same ∙ ap (λ q. record mid { frames = set_in_frame q i v (g ∷ fs) }) here
      ∙ ap (λ (q : List Frame). record mid { frames = q }) (set-top i v g fs)
      ∙ ap (λ (q : List Local). record mid { frames = record g { locals = q } ∷ fs }) (set_at-is i v g.locals m led.1) in
      rw is (record {
        fit = data-fit t w (frames-set t g fs (l.v ∷ l.us) rest i new m led.1 refl refl l.frames_fit) fits
            (bridges-top t.classes s.store s.store g g1 fs (l.v ∷ l.us) (classes-same s.store) (set-types g.locals i m new led.1 refl) l.bridged);
        allowed = allowed-same s w refl;
      })

  -- the owner is a field
  field : (b j : ℕ) → owned_here.place ≡ Field b j → StaysFit t s u
  field b j same =
      let N : Place → Type 0 = λ q. IsNear s.store l.w l.v q in
      let near : IsNear s.store l.w l.v (Field b j) = subst N same owned_here.near in
      let o = near.0 in
      let declared = typed-field t.classes (slice_get (fields_of t.classes o.class) j) (Ref Iso bridge.class)
      (sym (ap (λ (q : Option Seen). option_map (λ (f : FieldOfClass). type_of t.classes f.ty)
      (option_and_then (λ (q : Seen). slice_get (fields_of t.classes q.class) j) q)) near.1)
      ∙ ap (type_at t.classes s.store (fr ∷ fs)) (sym same) ∙ bridge.owner_is) in
      let n : Seen = with_element j v o in
      let live = near-live l.v o.label near.2 in
      let set = store-set t.classes s.store (g ∷ fs) (l.v ∷ l.us) (length s.managers) s.windows_made b o n popped near.1 refl refl
      (owns b j o near.1 live declared.0 declared.1 declared.2 (leads (Field b j) same)) (length-slice_set o.fields j v)
      (field-set t.classes s.store (l.v ∷ l.us) o (popped.objects b o near.1) j declared.0 v declared.1
      (let P : Ty → Type 0 = λ q. MeetsBy s.store (FieldFits (l.v ∷ l.us) o.label) q v in
      subst P (sym declared.2) (iso-meets s.store l.w bridge.class v (FieldFits (l.v ∷ l.us) o.label Iso)
      (field-region (l.v ∷ l.us) o.label live) object))) in
      let w : State = record mid { store = slice_set s.store b n } in
      let is : u ≡ w = put_is (Field b j) same ∙ put_element-is (Obj b) j mid v b o refl near.1 in
      let A : List Item → Type 0 = λ q. AllowedBy q s w in
      rw is (record {
        fit = data-fit t w l.frames_fit set
            (bridges-top t.classes s.store (slice_set s.store b n) g g fs (l.v ∷ l.us) (classes-set s.store b o n near.1 refl)
            (types-same g.locals) l.bridged);
        allowed = subst A (sym e) (λ c written. stands b j same (slice_set s.store b n) n refl c written);
      })
    where
      stands : (b j : ℕ) → owned_here.place ≡ Field b j → (store : List Seen) (n : Seen) → store ≡ slice_set s.store b n → (c : ℕ) →
          Written s (record mid { store = store }) c → StandsIn (owners_place s.windows) c
      stands b j same store n is c written = elim (cases_eq c b) [
        | inl at_it ↦
            let P : Option Place → Type 0 = λ q. StandsIn q c in
            subst P (sym (ap owners_place l.windows ∙ owned_here.named ∙ ap Some same)) (sym at_it)
        | inr away ↦ absurd (written.differ (ap (λ q. fields_at q c) is
            ∙ ap (option_map (λ (q : Seen). q.fields)) (get-set-other s.store b c n away ∙ written.there)))
      ]

      owns : (b j : ℕ) (o : Seen) → slice_get s.store b ≡ Some o → (o.label ≡ Frozen → ⊥) → (fd : FieldOfClass) →
          slice_get (fields_of t.classes o.class) j ≡ Some fd → type_of t.classes fd.ty ≡ Ref Iso bridge.class →
          leads_into t.classes s.store (g ∷ fs) (Field b j) ≡ Some l.w.region → (i : ℕ) →
          option_and_then (region_at s.store) (owned_by_slot t.classes (with_element j v o) i)
          ≡ option_and_then (region_at s.store) (owned_by_slot t.classes o i)
      owns b j o there live fd declared ty led i = elim (cases_eq i j) [
        | inr away ↦ ap (λ (q : Option Val). option_and_then (region_at s.store)
            (option_and_then (λ (z : FieldOfClass). option_and_then (owned_as t.classes z) q) (slice_get (fields_of t.classes o.class) i)))
            (get-set-other o.fields j i v away)
        | inl here ↦
            let was : option_and_then (region_at s.store) (owned_by_slot t.classes o j) ≡ Some l.w.region = slot-leads b j o there live led in
            let old = slot-value t.classes o j fd declared l.w.region was in
            ap (λ q. option_and_then (region_at s.store) (owned_by_slot t.classes (with_element j v o) q)) here
            ∙ ap (λ (q : Option FieldOfClass). option_and_then (region_at s.store)
            (option_and_then (λ (z : FieldOfClass). option_and_then (owned_as t.classes z) (slice_get (slice_set o.fields j v) j)) q)) declared
            ∙ ap (λ (q : Option Val). option_and_then (region_at s.store) (option_and_then (owned_as t.classes fd) q)) (get-set o.fields j v old.0
            old.1)
            ∙ iso-leads s.store l.w bridge.class v (type_of t.classes fd.ty) object ty ∙ sym was
            ∙ ap (λ q. option_and_then (region_at s.store) (owned_by_slot t.classes o q)) (sym here)
      ]
        where
          slot-leads : (b j : ℕ) (o : Seen) → slice_get s.store b ≡ Some o → (o.label ≡ Frozen → ⊥) →
              leads_into t.classes s.store (g ∷ fs) (Field b j) ≡ Some l.w.region →
              option_and_then (region_at s.store) (owned_by_slot t.classes o j) ≡ Some l.w.region
          slot-leads b j o there live led =
              ap (option_and_then (region_at s.store)) (sym (unfrozen o.label live))
              ∙ sym (ap (λ (q : Option Seen). option_and_then (region_at s.store) (option_and_then (λ (z : Seen). owned_by_field t.classes z j) q))
              there)
              ∙ led
            where
              unfrozen : (q : Label) → (q ≡ Frozen → ⊥) → ◌≡◌ {A = Option ℕ} (elim q [
                | Region r ↦ owned_by_slot t.classes o j
                | Temp n ↦ owned_by_slot t.classes o j
                | Frozen ↦ None
              ]) (owned_by_slot t.classes o j)
              unfrozen (Region r) z = refl
              unfrozen (Temp n) z = refl
              unfrozen Frozen z = absurd (z refl)

          slot-value : (classes : List Class) (o : Seen) (j : ℕ) (fd : FieldOfClass) → slice_get (fields_of classes o.class) j ≡ Some fd → (r : ℕ) →
              option_and_then (region_at s.store) (owned_by_slot classes o j) ≡ Some r → (old : Val) × (slice_get o.fields j ≡ Some old)
          slot-value classes o j fd declared r led = by (slice_get o.fields j) refl
              (sym (ap (λ (q : Option FieldOfClass). option_and_then (region_at s.store)
              (option_and_then (λ (z : FieldOfClass). option_and_then (owned_as classes z) (slice_get o.fields j)) q)) declared) ∙ led)
            where
              by : (q : Option Val) → slice_get o.fields j ≡ q →
                  option_and_then (region_at s.store) (option_and_then (owned_as classes fd) q) ≡ Some r →
                  (old : Val) × (slice_get o.fields j ≡ Some old)
              by None is z = none-some z
              by (Some old) is z = (old, is)

  by_place : (p : Place) → owned_here.place ≡ p → StaysFit t s u
  by_place (Var n i) same = variable n i same
  by_place (Field b j) same = field b j same

  pub given-kept : StaysFit t s u
  given-kept = by_place owned_here.place refl

pub leave_giving-keeps : LeaveGivingKeeps
leave_giving-keeps line k x t s u rest a f e went = by_frames s.frames refl
  where
    h : step_leave_giving k x (record s { items = rest }) s.windows ≡ Ok u
    h = stepped-went line (step_leave_giving k x (record s { items = rest }) s.windows) u (rw e at went)

    by_frames : (fs : List Frame) → s.frames ≡ fs → StaysFit t s u
    by_frames [] at = let P : List Frame → Type 0 = λ q. FramesFit t q s.windows s.items in absurd (subst P at f.frames)
    by_frames (fr ∷ fs) at =
        let l = leaving t a s line k (Some x) rest f fr fs at e in
        given-kept t a s u line k x rest f e h fr fs at l
