-- What is reached in the state of the machine that never frees is kept by a collection of the machine's own heap that lets no root go.
use Rattle.std.proofs.Common.{◌≡◌, inl, inr, ℕ, zero, suc, List, [], Option, Some, None, option_map, option_and_then, option_to_list, slice_get}
use Rattle.std.proofs.Common.{reverse, unwrap_or, true, refl, sym, ap, ◌∙◌, subst}
use Rattle.std.proofs.lemmas.Option.{none-some, same_Some}
use Rattle.rg_base.specs.declared.object.Label.{Label}
use Rattle.rg_base.specs.declared.object.Label.TheVariants.{Region, Temp, Frozen}
use Rattle.rg_base.specs.declared.object.Place.{Place}
use Rattle.rg_base.specs.declared.object.Place.TheVariants as place
use Rattle.rg_base.specs.declared.object.Seen.{Seen}
use Rattle.rg_base.specs.declared.value.Val.{Val}
use Rattle.rg_base.specs.declared.value.Val.TheVariants as val
use Rattle.rg_base.specs.declared.value.Word.{Word}
use Rattle.rg_tree.specs.Tree.{Tree}
use Rattle.rg_rules.specs.Reach.{led_from_object, plain_reach, reach_of, starts, value_at}
use Rattle.rg_rules.specs.Regions.{address, region_at, region_of}
use Rattle.rg_rules.specs.State.{Frame as BodyRow, Local, State, active, frame_at}
use Rattle.rg_sound.proofs.Stores.Member.{In}
use Rattle.rg_code.specs.Code.{Code}
use Rattle.rg_cells.specs.declared.cell.Body.{Body}
use Rattle.rg_cells.specs.Table.{Heap, body_at}
use Rattle.rg_regions.specs.Reach.{LiesIn}
use Rattle.rg_regions.specs.Reach.{Stands as Root}
use Rattle.rg_frames.specs.Stack.{Stack}
use Rattle.rg_stack.specs.Tops.{top_region, top_window}
use Rattle.rg_stack.specs.Machine.{Machine}
use Rattle.rg_stack.specs.Needs.{owned_once}
use Rattle.rg_stack.specs.Places.{field_of}
use Rattle.rg_stack.specs.Places.{value_at as shown_at}
use Rattle.rg_stack.specs.Shows.{sizes_of}
use Rattle.rg_heap.specs.Answers.{AllLead, val_of}
use Rattle.rg_heap.specs.Collects.{Collects}
use Rattle.rg_heap.specs.Parts.{Parts}
use Rattle.rg_view.specs.View.{frames_of, machine_of, store_of, windows_of}
use Rattle.rg_view.proofs.Callers.Link.{val-back}
use Rattle.rg_view.proofs.Callers.Shown.{held-body}
use Rattle.rg_view.proofs.Callers.Window.{active-number, top-window}
use Rattle.rg_held.specs.Gather.{Keeps, bridge_value}
use Rattle.rg_machine.specs.Collects.{holds}
use Rattle.rg_machine.proofs.Callers.Collect.{Active, root-stays, roots_in, slot-root, was}
use Rattle.rg_machine.proofs.Callers.Gather.{collection-keeps, holds-back, holds-there}
use Rattle.rg_machine.proofs.Callers.Part.{once-held, owner-outside}
use Rattle.rg_machine.proofs.Callers.ReachPath.{Trail, led-back, trail-back}
use Rattle.rg_machine.proofs.Callers.ReachShown.{Beside, FromTemp, TopShown, held-owner, lies-there, owner_leads, roots-are, roots-back}
use Rattle.rg_machine.proofs.Callers.ReachShown.{shown-slots, temps-back, temps-held, top-shown}
use Rattle.rg_machine.proofs.Collect.Slots.{local-word, variable-at}

-- an owner that leads to an address
owner-back : (s : State) (o : Option Place) (n : ℕ) → In n (owner_leads s o)
    → (w : Place) × (o ≡ Some w) × (value_at s.store s.frames w ≡ Some (val.Obj n))
owner-back s None n i = absurd i
owner-back s (Some w) n i = by (value_at s.store s.frames w) refl i
  where
    here : (x : Val) → In n (option_to_list (address x)) → x ≡ val.Obj n
    here val.Nil i = absurd i
    here (val.Int k) i = absurd i
    here (val.Bool b) i = absurd i
    here (val.Obj k) (inl e) = ap val.Obj e
    here (val.Obj k) (inr i) = absurd i

    by : (x : Option Val) → value_at s.store s.frames w ≡ x → In n (option_to_list (option_and_then address x))
        → (w₂ : Place) × (Some w ≡ Some w₂) × (value_at s.store s.frames w₂ ≡ Some (val.Obj n))
    by None e i = absurd i
    by (Some x) e i = (w, refl, e ∙ ap Some (here x i))

-- a variable with a value
variable-back : (store : List Seen) (frames : List BodyRow) (n i : ℕ) (x : Val) → value_at store frames (place.Var n i) ≡ Some x
    → (b : BodyRow) × (l : Local) × (frame_at frames n ≡ Some b) × (slice_get b.locals i ≡ Some l) × (l.value ≡ x)
variable-back store frames n i x e = by (frame_at frames n) refl e
  where
    local : (b : BodyRow) → frame_at frames n ≡ Some b → (o : Option Local) → slice_get b.locals i ≡ o
        → option_map (λ (l : Local). l.value) o ≡ Some x
        → (b : BodyRow) × (l : Local) × (frame_at frames n ≡ Some b) × (slice_get b.locals i ≡ Some l) × (l.value ≡ x)
    local b f None g e = absurd (none-some x e)
    local b f (Some l) g e = (b, l, f, g, same_Some l.value x e)

    by : (o : Option BodyRow) → frame_at frames n ≡ o
        → option_map (λ (l : Local). l.value) (option_and_then (λ (f : BodyRow). slice_get f.locals i) o) ≡ Some x
        → (b : BodyRow) × (l : Local) × (frame_at frames n ≡ Some b) × (slice_get b.locals i ≡ Some l) × (l.value ≡ x)
    by None f e = absurd (none-some x e)
    by (Some b) f e = local b f (slice_get b.locals i) refl e

-- a field with a value
field-back : (store : List Seen) (frames : List BodyRow) (b k : ℕ) (x : Val) → value_at store frames (place.Field b k) ≡ Some x
    → (o : Seen) × (slice_get store b ≡ Some o) × (slice_get o.fields k ≡ Some x)
field-back store frames b k x e = by (slice_get store b) refl e
  where
    by : (o : Option Seen) → slice_get store b ≡ o → option_and_then (λ (o : Seen). slice_get o.fields k) o ≡ Some x
        → (o : Seen) × (slice_get store b ≡ Some o) × (slice_get o.fields k ≡ Some x)
    by None f e = absurd (none-some x e)
    by (Some o) f e = (o, f, e)

module _ (old new : Parts) (v : Stack) (at : ℕ) (t : Tree) (code : Code) (s : State) (m : Machine) (z : Beside old v at t code s m)
    (lead : (s : ℕ) → AllLead new.cells.heap s) (a : Active old v) (Cell : ℕ → Type 0)
    (c : Collects old new a.window.region a.rec Cell)
    (no-root : (x : ℕ) → LiesIn old.cells.heap a.rec.number x → Root old.cells.heap (roots_in old v a) x → Cell x → ⊥) where
  abbrev h : Heap
  h = old.cells.heap

  abbrev h₂ : Heap
  h₂ = new.cells.heap

  abbrev r : ℕ
  r = a.rec.number

  abbrev f : Machine
  f = machine_of old v at

  abbrev ws : TopShown (sizes_of (frames_of h v)) a.window r s.windows
  ws = top-shown old v at t code s m z a

  pub once : owned_once f ≡ true
  once = once-held t code s (holds h) f m z.fit z.shows z.part

  keeps : Keeps (holds h) (holds h₂) f
  keeps = collection-keeps old new v at z.serials z.grove lead z.stands once a Cell c no-root (owner-outside (holds h) [] f m [] z.part)

  pub body-was : (x : ℕ) (b : Body) → body_at h₂ x ≡ Some b → body_at h x ≡ Some b
  body-was x b e = was old new v at z.serials z.grove z.stands once a Cell c no-root x b e

  was-held : (n : ℕ) → holds h₂ n ≡ true → holds h n ≡ true
  was-held n e =
      let x = holds-back h₂ n e in subst (λ k. holds h k ≡ true) x.3 (holds-there h x.0 x.1 (body-was x.0 x.1 x.2))

  -- the state has what the heap shows
  same : (n : ℕ) → holds h n ≡ true → slice_get (store_of h) n ≡ slice_get s.store n
  same n e = z.part.same n e ∙ ap (λ l. slice_get l n) z.shows.store

  -- a field of a held object leads to a held one
  field-held : (b k n : ℕ) (o : Seen) → holds h b ≡ true → slice_get s.store b ≡ Some o → slice_get o.fields k ≡ Some (val.Obj n)
      → holds h n ≡ true
  field-held b k n o held there at = z.part.fields b o k (val.Obj n) held (ap (λ l. slice_get l b) z.shows.store ∙ there) at

  region : (n : ℕ) → holds h n ≡ true → region_at s.store n ≡ Some r → region_at (store_of h) n ≡ Some (top_region (windows_of old.regions v))
  region n held is = ap (option_and_then (λ (o : Seen). region_of o.label)) (same n held) ∙ is ∙ ap Some (sym a.shown)

  -- Roots

  word-kept : (j n : ℕ) (w : Word) → slice_get v.slots j ≡ Some w → val_of h w ≡ val.Obj n → region_at s.store n ≡ Some r
      → holds h₂ n ≡ true
  word-kept j n w there shown is =
      let to = val-back h w n shown in
      let lies = lies-there old v at t code s m z r to.slot to.body to.held (ap (region_at s.store) to.serial ∙ is) in
      let held = root-stays old new v at z.serials z.grove z.stands once a Cell c no-root to.slot lies
      (slot-root old new v at z.serials z.grove z.stands once a Cell c no-root j to.slot (there ∙ ap Some to.is) lies) in
      let b = held-body h₂ to.slot held in
      let body : b.0 ≡ to.body = same_Some b.0 to.body (sym (body-was to.slot b.0 b.1) ∙ to.held) in
      subst (λ k. holds h₂ k ≡ true) (ap (λ (b : Body). b.serial) body ∙ to.serial) (holds-there h₂ to.slot b.0 b.1)

  place-kept : (w : Place) (n : ℕ) → a.window.owner ≡ Some w → value_at s.store s.frames w ≡ Some (val.Obj n) → region_at s.store n ≡ Some r
      → holds h₂ n ≡ true
  place-kept (place.Var k i) n owner e is =
      let x = variable-back s.store s.frames k i (val.Obj n) e in
      let y = variable-at h v.slots v.first (reverse v.frames) z.stands.lain s.frames (shown-slots old v at t code s m z) k i x.0 x.1 x.2 x.3 in
      word-kept y.place n y.word y.there (y.shown ∙ x.4) is
  place-kept (place.Field b k) n owner e is =
      let x = field-back s.store s.frames b k (val.Obj n) e in
      let held = held-owner old v at t code s m z a b k owner in
      keeps.bridge n (value x.0 (same b held ∙ x.1) x.2) (region n (field-held b k n x.0 held x.1 x.2) is)
    where
      value : (o : Seen) → slice_get (store_of h) b ≡ Some o → slice_get o.fields k ≡ Some (val.Obj n)
          → bridge_value f (windows_of old.regions v) ≡ val.Obj n
      value o there at =
          ap (bridge_value f) (top-window old.regions v a.window a.is)
          ∙ ap (λ o. elim o [ None ↦ val.Nil | Some w ↦ shown_at f w ]) owner
          ∙ ap (λ o. elim o [ None ↦ val.Nil | Some o ↦ field_of o k ]) there
          ∙ ap (λ o. unwrap_or o val.Nil) at

  temp-kept : (n : ℕ) → FromTemp ws.top.number n s.store → region_at s.store n ≡ Some r → holds h₂ n ≡ true
  temp-kept n x is =
      let held = temps-held old v at t code s m z a x.object x.holder x.there (x.temp ∙ ap Temp (sym ws.number)) in
      let label : x.holder.label ≡ Temp (top_window (windows_of old.regions v)) =
      x.temp ∙ ap Temp (sym ws.number ∙ sym (active-number old.regions v a.window a.is)) in
      keeps.temps x.object x.field x.holder (val.Obj n) held (same x.object held ∙ x.there) label x.leads n refl
      (region n (field-held x.object x.field n x.holder held x.there x.leads) is)

  -- what a root leads to in the region is kept
  pub start-kept : (n : ℕ) → In n (starts s.store s.frames s.windows) → region_at s.store n ≡ Some r → holds h₂ n ≡ true
  start-kept n i is = elim (roots-back s ws.top n (subst (In n) (roots-are s ws.top ws.rest ws.is) i)) [
    | inl owner ↦ (let x = owner-back s ws.top.owner n owner in place-kept x.0 n (ws.owner ∙ x.1) x.2 is)
    | inr more ↦ elim more [
      | inl variable ↦
          (let x = local-word h v.slots v.first (reverse v.frames) z.stands.lain s.frames (shown-slots old v at t code s m z)
          ws.top.base_frame ws.top.base_place n variable in
          word-kept x.0 n x.1 x.2 x.3 is)
      | inr temp ↦ temp-kept n (temps-back ws.top.number n s.store temp) is
    ]
  ]

  -- Paths

  region-label : (o : Seen) (p : ℕ) → slice_get s.store p ≡ Some o → region_at s.store p ≡ Some r → o.label ≡ Region r
  region-label o p there is = by o.label (sym (ap (option_and_then (λ (o : Seen). region_of o.label)) there) ∙ is)
    where
      by : (l : Label) → region_of l ≡ Some r → l ≡ Region r
      by (Region k) e = ap Region (same_Some k r e)
      by (Temp k) e = absurd (none-some r e)
      by Frozen e = absurd (none-some r e)

  link-kept : (p n : ℕ) → holds h₂ p ≡ true → region_at s.store p ≡ Some r → In n (led_from_object s.store p) → region_at s.store n ≡ Some r
      → holds h₂ n ≡ true
  link-kept p n kept from i is =
      let x = led-back s.store p n i in
      let held = was-held p kept in
      keeps.fields p x.2.0 x.0 (val.Obj n) held kept (same p held ∙ x.1) (region-label x.0 p x.1 from ∙ ap Region (sym a.shown)) x.2.1 n refl
      (region n (field-held p x.2.0 n x.0 held x.1 x.2.1) is)

  trail-kept : (k n : ℕ) → Trail r s.store (starts s.store s.frames s.windows) k n → (holds h₂ n ≡ true) × (region_at s.store n ≡ Some r)
  trail-kept zero n x = (start-kept n x.1 x.0, x.0)
  trail-kept (suc k) n x =
      let y = trail-kept k x.1.0 x.1.1 in (link-kept x.1.0 n y.0 y.1 x.1.2 x.0, x.0)

  -- what is reached in the state is held behind the collection, and lies in the region
  pub reach-kept : (n : ℕ) → In n (plain_reach s) → (holds h₂ n ≡ true) × (region_at s.store n ≡ Some r)
  reach-kept n i =
      let active_is : active s.windows ≡ r = ap active ws.is ∙ sym ws.region_is in
      let x = trail-back r s.store (starts s.store s.frames s.windows) n
      (subst (λ k. In n (reach_of k s.store (starts s.store s.frames s.windows))) active_is i) in
      trail-kept x.0 n x.1
