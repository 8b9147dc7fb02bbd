-- What the roots of the active region reach in the machine's own heap is reached in the state of the machine that never frees.
use Rattle.std.proofs.Common.{◌≡◌, ◌≤◌, ℕ, zero, suc, ◌+◌, ◌-◌, List, length, reverse, Some, None, option_map, slice_get}
use Rattle.std.proofs.Common.{refl, sym, ap, ◌∙◌, subst, arith}
use Rattle.std.proofs.lemmas.Option.{slice_get-map}
use Rattle.rg_base.specs.declared.object.Label.TheVariants.{Region, Temp}
use Rattle.rg_base.specs.declared.value.Val.TheVariants as val
use Rattle.rg_base.specs.declared.value.Word.TheVariants as word
use Rattle.rg_tree.specs.Tree.{Tree}
use Rattle.rg_rules.specs.Reach.{plain_reach, reach_of, size_of, starts}
use Rattle.rg_rules.specs.State.{State, active}
use Rattle.rg_sound.proofs.Stores.Member.{In}
use Rattle.rg_code.specs.Code.{Code}
use Rattle.rg_cells.specs.declared.cell.Body.{Body}
use Rattle.rg_cells.specs.Table.{Heap, body_at, field_at, label_at}
use Rattle.rg_regions.specs.Reach.{LiesIn, Reach, Walk, in_slots, in_temps, is_bridge, region_size}
use Rattle.rg_regions.specs.Reach.{Stands as Root}
use Rattle.rg_regions.specs.Table.{HasNumber}
use Rattle.rg_regions.proofs.Callers.Told.{labelled_held}
use Rattle.rg_frames.specs.declared.rows.Window.{Window as WindowRow}
use Rattle.rg_frames.specs.Stack.{Stack}
use Rattle.rg_stack.specs.Machine.{Machine}
use Rattle.rg_stack.specs.Shows.{sizes_of}
use Rattle.rg_heap.specs.Answers.{val_of}
use Rattle.rg_heap.specs.Ends.{top_temps}
use Rattle.rg_heap.specs.Opened.{IsWindow}
use Rattle.rg_heap.specs.Parts.{Parts}
use Rattle.rg_view.specs.View.{frames_of, object_of}
use Rattle.rg_view.proofs.Callers.Leave.{top-temp}
use Rattle.rg_view.proofs.Callers.Look.{val-held}
use Rattle.rg_view.proofs.Callers.Shown.{field-in, get-drop, held-body}
use Rattle.rg_machine.proofs.Callers.Collect.{Active, roots_in}
use Rattle.rg_machine.proofs.Collect.Bridge.{bridge-leads}
use Rattle.rg_machine.proofs.Callers.ReachCount.{fewer-cells}
use Rattle.rg_machine.proofs.Callers.ReachPath.{Trail, led-in, trail-in}
use Rattle.rg_machine.proofs.Callers.ReachShown.{Beside, TopShown, label-of}
use Rattle.rg_machine.proofs.Callers.ReachShown.{by-temp, by-variable, region-there, roots-are, roots_lead, shown-slots, temps-in, there, top-shown}
use Rattle.rg_machine.proofs.Collect.Slots.{word-local}

module _ (p : Parts) (v : Stack) (at : ℕ) (t : Tree) (code : Code) (s : State) (m : Machine) (z : Beside p v at t code s m) (a : Active p v)
    (sole : (i : ℕ) (w : WindowRow) → IsWindow v i w → HasNumber p.regions w.region a.rec.number → i ≡ length v.windows - 1)
    (first : a.rec.number ≡ 0 → a.rec.bridge ≡ None) where
  abbrev h : Heap
  h = p.cells.heap

  abbrev r : ℕ
  r = a.rec.number

  abbrev ws : TopShown (sizes_of (frames_of h v)) a.window r s.windows
  ws = top-shown p v at t code s m z a

  abbrev plain_starts : List ℕ
  plain_starts = starts s.store s.frames s.windows

  slot-leads : (k x : ℕ) (b : Body) → slice_get v.slots (a.window.base + k) ≡ Some (word.Slot x) → body_at h x ≡ Some b
      → In b.serial (roots_lead s ws.top)
  slot-leads k x b e held =
      let base = ws.base in
      let local = word-local h v.slots v.first (reverse v.frames) z.stands.lain s.frames (shown-slots p v at t code s m z)
      ws.top.base_frame ws.top.base_place (a.window.base + k) b.serial (word.Slot x) e (val-held h x b held) (omega (arith, base)) in
      by-variable s ws.top b.serial local

  -- a field of a cell is one of its object
  field-shown : (x k y : ℕ) (d b : Body) → body_at h x ≡ Some d → field_at h x k ≡ Some (word.Slot y) → body_at h y ≡ Some b
      → slice_get (object_of h (Some d)).fields k ≡ Some (val.Obj b.serial)
  field-shown x k y d b e leads f =
      slice_get-map (val_of h) d.fields k ∙ ap (option_map (val_of h)) (sym (field-in h x k d e) ∙ leads) ∙ ap Some (val-held h y b f)

  temp-leads : (i k temp x : ℕ) (b : Body) → slice_get (top_temps v) i ≡ Some temp → field_at h temp k ≡ Some (word.Slot x) → body_at h x ≡ Some b
      → In b.serial (roots_lead s ws.top)
  temp-leads i k temp x b e leads held =
      let label : label_at h temp ≡ Some (Temp a.window.number) =
      z.stands.opened.temps (length v.windows - 1) temp a.window a.is (top-temp p v z.grove z.stands.opened i temp e) in
      let d = held-body h temp (labelled_held h temp (Temp a.window.number) label) in
      let number : d.0.label ≡ Temp ws.top.number = label-of h temp d.0 (Temp a.window.number) d.1 label ∙ ap Temp ws.number in
      let led = temps-in ws.top.number d.0.serial k b.serial s.store (object_of h (Some d.0)) (there p v at t code s m z temp d.0 d.1) number
      (field-shown temp k x d.0 b d.1 leads held) in
      by-temp s ws.top b.serial led

  -- a root's serial is one of the addresses to which roots lead
  pub root-leads : (x : ℕ) (b : Body) → Root h (roots_in p v a) x → body_at h x ≡ Some b → In b.serial (roots_lead s ws.top)
  root-leads x b (is_bridge e) held = bridge-leads p v at t code s m z a sole first x b e held
  root-leads x b (in_slots k e) held = slot-leads k x b (sym (get-drop a.window.base k v.slots) ∙ e) held
  root-leads x b (in_temps i k temp e leads) held = temp-leads i k temp x b e leads held

  walk-trail : (n x : ℕ) (b : Body) → Walk h r (roots_in p v a) n x → body_at h x ≡ Some b → Trail r s.store plain_starts n b.serial
  walk-trail zero x b w e = (
    region-there p v at t code s m z r x b e w.0,
    subst (In b.serial) (sym (roots-are s ws.top ws.rest ws.is)) (root-leads x b w.1 e),
  )
  walk-trail (suc n) x b w e =
      let d = held-body h w.1.0 (labelled_held h w.1.0 (Region r) (lies n w.1.0 w.1.2)) in (
        region-there p v at t code s m z r x b e w.0,
        (
          d.0.serial,
          walk-trail n w.1.0 d.0 w.1.2 d.1,
          led-in s.store d.0.serial w.1.1 b.serial (object_of h (Some d.0)) (there p v at t code s m z w.1.0 d.0 d.1)
              (field-shown w.1.0 w.1.1 x d.0 b d.1 w.1.3 e),
        ),
      )
    where
      lies : (n x : ℕ) → Walk h r (roots_in p v a) n x → LiesIn h r x
      lies zero x w = w.0
      lies (suc n) x w = w.0

  few : region_size h r ≤ size_of r s.store
  few = fewer-cells h r s.store z.serials (λ x b e. (object_of h (Some b), there p v at t code s m z x b e, refl))

  -- what is in reach in the heap is among what is reached in the state
  pub reach-in : (x : ℕ) (b : Body) → Reach h r (roots_in p v a) x → body_at h x ≡ Some b → In b.serial (plain_reach s)
  reach-in x b y e =
      let le = y.1 in
      let most = few in
      let active_is : active s.windows ≡ r = ap active ws.is ∙ sym ws.region_is in
      subst (λ n. In b.serial (reach_of n s.store plain_starts)) (sym active_is)
      (trail-in r s.store plain_starts y.0 b.serial (omega (arith, le, most)) (walk-trail y.0 x b y.2 e))
