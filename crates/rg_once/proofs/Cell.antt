-- Two heaps in which the same is held: a cell of the one is one of the other by its serial, and a region has as many cells in both.
use Rattle.std.proofs.Common.{◌≡◌, ◌≤◌, ◌-◌, ◌^◌, ℕ, Bool as Truth, true, false, List, length, map, Some, slice_get, refl, sym, ap, ◌∙◌, subst, arith}
use Rattle.std.proofs.lemmas.List.{length-map}
use Rattle.std.proofs.lemmas.Option.{same_Some}
use Rattle.rg_base.specs.declared.object.Label.TheVariants.{Region}
use Rattle.rg_base.specs.declared.object.Seen.{Seen}
use Rattle.rg_sound.proofs.Stores.Member.{In}
use Rattle.rg_cells.specs.declared.cell.Body.{Body}
use Rattle.rg_cells.specs.Table.{Heap, Serials, body_at}
use Rattle.rg_regions.specs.Grove.{Members}
use Rattle.rg_regions.specs.Reach.{LiesIn}
use Rattle.rg_regions.proofs.Callers.Told.{labelled_held}
use Rattle.rg_frames.specs.Stack.{Stack}
use Rattle.rg_heap.specs.Parts.{Parts}
use Rattle.rg_view.specs.View.{object_of, store_of}
use Rattle.rg_view.proofs.Callers.Link.{label-in}
use Rattle.rg_view.proofs.Callers.Look.{store-held}
use Rattle.rg_view.proofs.Callers.Shown.{held-body}
use Rattle.rg_machine.specs.Collects.{holds}
use Rattle.rg_machine.specs.Stands.{Stands}
use Rattle.rg_machine.proofs.Callers.Gather.{holds-back, holds-there}
use Rattle.rg_machine.proofs.Callers.Part.{gone-shown, held-shown}
use Rattle.rg_machine.proofs.Callers.ReachCount.{distinct-map, mapped-back, mapped-in, serial_in}
use Rattle.rg_machine.proofs.Callers.ReachPath.{no-longer}
use Rattle.rg_machine.proofs.Callers.ReachShown.{label-of}

-- a cell with the serial of a body, and the same label and fields
pub record Also (h g : Heap) (b : Body) : Type 0 where
  pub slot : ℕ
  pub body : Body
  pub held : body_at g slot ≡ Some body
  pub serial : body.serial ≡ b.serial
  pub shown : object_of g (Some body) ≡ object_of h (Some b)

-- each cell of the one heap is one of the other
abbrev pub Within : (h g : Heap) → Type 0
Within h g = (s : ℕ) (b : Body) → body_at h s ≡ Some b → Also h g b

-- slots with the same serial
pub record Mates (h g : Heap) (x y : ℕ) : Type 0 where
  pub here : Body
  pub there : Body
  pub held : body_at h x ≡ Some here
  pub also : body_at g y ≡ Some there
  pub serial : here.serial ≡ there.serial

module _ (p r : Parts) (v w : Stack) (q : Serials p.cells.heap) (u : Serials r.cells.heap) (st : Stands p v) (sr : Stands r w)
    (few : v.next ≤ 2 ^ 64 - 1) (same : store_of p.cells.heap ≡ store_of r.cells.heap) where
  -- what is held in the one is held in the other
  pub held-same : (a : ℕ) → holds p.cells.heap a ≡ true → holds r.cells.heap a ≡ true
  held-same a e = by (holds r.cells.heap a) refl
    where
      by : (t : Truth) → holds r.cells.heap a ≡ t → holds r.cells.heap a ≡ true
      by true f = f
      by false f =
          let x = held-shown p v q st few a e in
          absurd (x.2 (gone-shown r w u sr a x.0 f (ap (λ l. slice_get l a) (sym same) ∙ x.1)))

  pub within : Within p.cells.heap r.cells.heap
  within s b e =
      let y = holds-back r.cells.heap b.serial (held-same b.serial (holds-there p.cells.heap s b e)) in
      record {
        slot = y.0;
        body = y.1;
        held = y.2;
        serial = y.3;
        shown = same_Some (object_of r.cells.heap (Some y.1)) (object_of p.cells.heap (Some b))
            (sym (store-held r.cells.heap y.0 y.1 u y.2) ∙ ap (slice_get (store_of r.cells.heap)) y.3
            ∙ ap (λ l. slice_get l b.serial) (sym same) ∙ store-held p.cells.heap s b q e);
      }

-- Cells that go together

pub mates-back : (h g : Heap) (x y : ℕ) → Mates h g x y → Mates g h y x
mates-back h g x y m = record { here = m.there; there = m.here; held = m.also; also = m.held; serial = sym m.serial }

pub mate : (h g : Heap) (r x : ℕ) → Within h g → LiesIn h r x → (y : ℕ) × Mates h g x y
mate h g r x w lies =
    let b = held-body h x (labelled_held h x (Region r) lies) in
    let a = w x b.0 b.1 in
    (a.slot, record { here = b.0; there = a.body; held = b.1; also = a.held; serial = sym a.serial })

-- one slot goes with one slot
pub one-mate : (h g : Heap) (x y z : ℕ) → Serials g → Mates h g x y → Mates h g x z → y ≡ z
one-mate h g x y z u m n =
    u.differ y z m.there n.there m.also n.also
    (sym m.serial ∙ ap (λ (b : Body). b.serial) (same_Some m.here n.here (sym m.held ∙ n.held)) ∙ n.serial)

-- they show the same
pub mates-show : (h g : Heap) (x y : ℕ) → Serials g → Within h g → (m : Mates h g x y)
    → object_of g (Some m.there) ≡ object_of h (Some m.here)
mates-show h g x y u w m =
    let a = w x m.here m.held in
    let at : a.slot ≡ y = u.differ a.slot y a.body m.there a.held m.also (a.serial ∙ m.serial) in
    let body : a.body ≡ m.there = same_Some a.body m.there (sym a.held ∙ ap (body_at g) at ∙ m.also) in
    ap (λ b. object_of g (Some b)) (sym body) ∙ a.shown

-- and lie in the same region
pub mates-lie : (h g : Heap) (r x y : ℕ) → Serials g → Within h g → Mates h g x y → LiesIn h r x → LiesIn g r y
mates-lie h g r x y u w m lies =
    label-in g y m.there (Region r) m.also
    (ap (λ (o : Seen). o.label) (mates-show h g x y u w m) ∙ label-of h x m.here (Region r) m.held lies)

-- Members

abbrev serial_at : Heap → ℕ → ℕ
serial_at h x = serial_in (body_at h x)

pub members-fewer : (h g : Heap) → Serials h → Serials g → Within h g → (r : ℕ) (ms ns : List ℕ) → Members h r ms → Members g r ns
    → length ms ≤ length ns
members-fewer h g q u w r ms ns all also =
    let most = no-longer (map (serial_at h) ms) (map (serial_at g) ns) (distinct-map (serial_at h) ms apart) there in
    let few = length-map ms (serial_at h) in
    let many = length-map ns (serial_at g) in
    omega (arith, most, few, many)
  where
    apart : (i j x y : ℕ) → slice_get ms i ≡ Some x → slice_get ms j ≡ Some y → serial_at h x ≡ serial_at h y → i ≡ j
    apart i j x y e f same =
        let b = held-body h x (labelled_held h x (Region r) (all.lie i x e)) in
        let d = held-body h y (labelled_held h y (Region r) (all.lie j y f)) in
        let at : x ≡ y = q.differ x y b.0 d.0 b.1 d.1 (sym (ap serial_in b.1) ∙ same ∙ ap serial_in d.1) in
        all.once i j x e (f ∙ ap Some (sym at))

    there : (n : ℕ) → In n (map (serial_at h) ms) → In n (map (serial_at g) ns)
    there n i =
        let x = mapped-back (serial_at h) ms n i in
        let lies = all.lie x.0 x.1 x.2 in
        let y = mate h g r x.1 w lies in
        let place = also.all y.0 (mates-lie h g r x.1 y.0 u w y.1 lies) in
        let serial : serial_at g y.0 ≡ n = ap serial_in y.1.also ∙ sym y.1.serial ∙ sym (ap serial_in y.1.held) ∙ x.3 in
        subst (λ k. In k (map (serial_at g) ns)) serial (mapped-in (serial_at g) ns place.0 y.0 place.1)
