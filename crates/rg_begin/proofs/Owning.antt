-- A content comes, and a field of the behaviour's object owns it.
use Rattle.std.proofs.Common.{◌≡◌, ◌≢◌, ◌<◌, ◌+◌, ◌⊎◌, inl, inr, ℕ, zero, suc, List, [], ◌∷◌, ◌++◌, length, map, take, drop, Option, Some}
use Rattle.std.proofs.Common.{None, slice_get}
use Rattle.std.proofs.Common.{slice_set, option_map, option_and_then, refl, sym, ap, ◌∙◌, subst, arith, append_assoc}
use Rattle.std.proofs.lemmas.List.{length-map}
use Rattle.std.proofs.lemmas.Option.{none-some, same_Some, slice_get-map, slice_get_within, get_or_from_slice_get}
use Rattle.rg_base.specs.declared.object.Label.{Label}
use Rattle.rg_base.specs.declared.object.Label.TheVariants.{Region, Temp, Frozen}
use Rattle.rg_base.specs.declared.object.Seen.{Seen}
use Rattle.rg_base.specs.declared.words.Manager.TheVariants.{Arena}
use Rattle.rg_base.specs.declared.value.Val.{Val}
use Rattle.rg_base.specs.declared.value.Val.TheVariants.{Nil, Obj}
use Rattle.rg_base.specs.declared.value.Word.TheVariants as word
use Rattle.rg_base.proofs.Callers.Labels.{slot-same, region-same}
use Rattle.rg_cells.specs.declared.cell.Body.{Body}
use Rattle.rg_cells.specs.Table.{body_at, field_at, label_at, width, with_field, HasSerial, Serials, IsHeld}
use Rattle.rg_regions.specs.Table.{record_at, HasNumber, IsBridge}
use Rattle.rg_regions.specs.Reach.{LiesIn}
use Rattle.rg_regions.specs.Grove.{Grove, Above, direct, further}
use Rattle.rg_regions.proofs.Callers.Told.{labelled_held, led_held, number_of, record_there}
use Rattle.rg_frames.specs.Stack.{Stack}
use Rattle.rg_cown.specs.declared.cargo.CargoCell.{CargoCell}
use Rattle.rg_cown.specs.Cargo.{CargoList, label_of, SoundCargo}
use Rattle.rg_cown.specs.Loads.{word_in, Loaded}
use Rattle.rg_cown.specs.Cargo.{label_from}
use Rattle.rg_cown.proofs.GroveLoaded.{led_by_object}
use Rattle.rg_cown.proofs.SoundMade.{is_in_true}
use Rattle.rg_cown.proofs.SoundParts.{HasField, parts_of, in_range, no_temp, no_entry, label_there}
use Rattle.rg_heap.specs.Parts.{Parts}
use Rattle.rg_heap.specs.Answers.{val_of, AllLead}
use Rattle.rg_heap.specs.Writes.{Comes, InActive, LeadsOut, Ownerless}
use Rattle.rg_heap.specs.Ends.{IsTemp}
use Rattle.rg_opening.specs.declared.given.Given.{Given}
use Rattle.rg_opening.specs.declared.given.Given.TheVariants.{Start, Held}
use Rattle.rg_opening.specs.Opening.{object_from, field_values, content_objects, content_managers}
use Rattle.rg_opening.proofs.Placed.{content-back}
use Rattle.rg_stack.specs.Effects.{put_in}
use Rattle.rg_view.specs.View.{object_of, store_of, managers_of}
use Rattle.rg_view.specs.Numbers.{Numbers, HasBridges}
use Rattle.rg_view.proofs.Callers.Look.{store-length, store-held, val-held}
use Rattle.rg_view.proofs.Callers.Manager.{managers-length}
use Rattle.rg_view.proofs.Callers.Shown.{held-body, field-in, get-take}
use Rattle.rg_view.proofs.Callers.Write.{written-there, written-store}
use Rattle.rg_begin.specs.Inner.Laid.{start_value, object_with, AllMayCome, Laid}
use Rattle.rg_begin.proofs.Givens.{take-one, drop-one, take-length, set-behind, get-behind, objects_behind, regions_behind, objects-many}
use Rattle.rg_begin.proofs.Givens.{regions-many}
use Rattle.rg_begin.proofs.Givens.{values-length, values-start, values-held, objects-start, objects-held, managers-start, managers-held}
use Rattle.rg_begin.proofs.Loaded.{slot-of, body-of, held-on, New, back, loaded-store, region-on, loaded-numbers, loaded-managers, loaded-bridges}

-- No temporaries

-- no object of a content is a temporary
pub content-label : (n r : ℕ) (gs : List Given) → AllMayCome gs → (i : ℕ) (o : Seen) (m : ℕ) → slice_get (content_objects n r gs) i ≡ Some o
    → o.label ≡ Temp m → ⊥
content-label n r gs may i o m at is =
    let b = content-back n r gs i o at in
    let label : label_of b.content.cells b.place ≡ Some b.cell.label = ap (option_map (λ (x : CargoCell). x.label)) b.cell_is in
    by _ b.content b.place b.cell.label (may b.field (Held b.content) b.held) label (sym (ap (λ (x : Seen). x.label) b.object) ∙ is)
  where
    by : (k : ℕ) (c : CargoList) (j : ℕ) (l : Label) → SoundCargo c → label_of c.cells j ≡ Some l → label_from k l ≡ Temp m → ⊥
    by k c j (Region q) s l e = cc
    by k c j (Temp q) s l e = no_temp c j q s l
    by k c j Frozen s l e = cc

store-label : (class : ℕ) (given : List Given) (k : ℕ) → AllMayCome given → (i : ℕ) (o : Seen) (m : ℕ)
    → slice_get (object_with class given k ∷ content_objects 1 1 (take k given)) i ≡ Some o → o.label ≡ Temp m → ⊥
store-label class given k may zero o m at is =
    let same : Region 0 ≡ Temp m = ap (λ (x : Seen). x.label) (same_Some (object_with class given k) o at) ∙ is in
    absurd cc
store-label class given k may (suc i) o m at is =
    content-label 1 1 (take k given) (λ j g e. may j g (get-take k j given g e)) i o m at is

module _ (p : Parts) (v : Stack) (slot class : ℕ) (given : List Given) (k : ℕ) (may : AllMayCome given) (q : Serials p.cells.heap)
    (l : Laid p v slot class given k) where
  -- what is shown of a held cell stands in the store
  pub shown : (x : ℕ) (b : Body) → body_at p.cells.heap x ≡ Some b
      → slice_get (object_with class given k ∷ content_objects 1 1 (take k given)) b.serial ≡ Some (object_of p.cells.heap (Some b))
  shown x b e = ap (λ os. slice_get os b.serial) (sym l.store) ∙ store-held p.cells.heap x b q e

  pub no-temps : (x m : ℕ) → label_at p.cells.heap x ≡ Some (Temp m) → ⊥
  no-temps x m e =
      let b = held-body p.cells.heap x (labelled_held p.cells.heap x (Temp m) e) in
      let is : b.0.label ≡ Temp m = same_Some b.0.label (Temp m) (sym (ap (option_map (λ (y : Body). y.label)) b.1) ∙ e) in
      store-label class given k may b.0.serial (object_of p.cells.heap (Some b.0)) m (shown x b.0 b.1) is

  -- all fields lead to held cells
  pub all-held : Grove p.cells p.regions → (x : ℕ) → AllLead p.cells.heap x
  all-held g x j to e = by (body_at p.cells.heap x) refl
    where
      label : (a : Label) → label_at p.cells.heap x ≡ Some a → IsHeld p.cells.heap to
      label (Region r) is = led_held p.cells p.regions g r x j to is e
      label (Temp n) is = absurd (no-temps x n is)
      label Frozen is = labelled_held p.cells.heap to Frozen (g.frozen x j to is e)

      by : (c : Option Body) → body_at p.cells.heap x ≡ c → IsHeld p.cells.heap to
      by None f = absurd (none-some (word.Slot to) (sym (ap (option_and_then (λ (b : Body). slice_get b.fields j)) f) ∙ e))
      by (Some b) f = label b.label (ap (option_map (λ (y : Body). y.label)) f)

  -- as many objects and regions were made
  pub objects-made : p.cells.heap.next ≡ objects_behind 1 (take k given)
  objects-made =
      let many = ap length l.store in
      omega (arith, many, store-length p.cells.heap, objects-many 1 1 (take k given))

  pub regions-made : p.regions.next ≡ regions_behind 1 (take k given)
  regions-made =
      let many = ap length l.managers in
      omega (arith, many, managers-length p.regions, regions-many 1 (take k given))

-- the object has as many fields as there are
pub laid-width : (p : Parts) (v : Stack) (slot class : ℕ) (given : List Given) → AllMayCome given → Serials p.cells.heap
    → Laid p v slot class given 0 → width (body_at p.cells.heap slot) ≡ length given
laid-width p v slot class given may q l =
    let b : Body = l.first.0 in
    let object = object_with class given 0 in
    let same : object_of p.cells.heap (Some b) ≡ object =
    same_Some (object_of p.cells.heap (Some b)) object
    (sym (shown p v slot class given 0 may q l slot b l.first.1)
    ∙ ap (slice_get (object ∷ content_objects 1 1 [])) l.first.2) in
    ap width l.first.1
    ∙ sym (length-map b.fields (val_of p.cells.heap))
    ∙ ap (λ (o : Seen). length o.fields) same
    ∙ length-map given start_value

pub next-laid : (p : Parts) (v : Stack) (slot class : ℕ) (given : List Given) (k : ℕ) → Laid p v slot class given (suc k)
    → Laid p v slot class given (k + 1)
next-laid p v slot class given k l = let e : suc k ≡ k + 1 = omega arith in subst (Laid p v slot class given) e l

-- a field that holds a value goes on to the next one
pub start-laid : (p : Parts) (v : Stack) (slot class : ℕ) (given : List Given) (k : ℕ) (w : Val) → slice_get given k ≡ Some (Start w)
    → Laid p v slot class given k → Laid p v slot class given (suc k)
start-laid p v slot class given k w at l =
    let gs = take k given in
    let one : take (suc k) given ≡ gs ++ Start w ∷ [] = take-one given k (Start w) at in
    let fields : field_values 1 gs ++ map start_value (drop k given) ≡ field_values 1 (take (suc k) given) ++ map start_value (drop (suc k) given) =
    ap (λ ds. field_values 1 gs ++ map start_value ds) (drop-one given k (Start w) at)
    ∙ sym (append_assoc (field_values 1 gs) (w ∷ []) (map start_value (drop (suc k) given)))
    ∙ ap (λ vs. vs ++ map start_value (drop (suc k) given)) (sym (ap (field_values 1) one ∙ values-start 1 gs w)) in
    let object : List Val → Seen = λ vs. record { class = class; fields = vs; label = Region 0 } in
    record {
      numbers = l.numbers;
      bridges = l.bridges;
      window = l.window;
      top = l.top;
      region = l.region;
      first = l.first;
      store = l.store ∙ ap (λ vs. object vs ∷ content_objects 1 1 gs) fields
          ∙ ap (λ os. object_with class given (suc k) ∷ os) (sym (ap (content_objects 1 1) one ∙ objects-start 1 1 gs w));
      managers = l.managers ∙ ap (λ ms. Arena ∷ ms) (sym (ap content_managers one ∙ managers-start gs w));
    }

-- A content is loaded
module _ (p m : Parts) (v : Stack) (slot class : ℕ) (given : List Given) (k bridge : ℕ) (c : CargoList) (may : AllMayCome given)
    (at : slice_get given k ≡ Some (Held c)) (q : Serials p.cells.heap) (g : Grove p.cells p.regions) (l : Laid p v slot class given k)
    (w : Loaded c bridge p.cells p.regions m.cells m.regions) (is : IsBridge m.regions p.regions.next bridge)
    (r : Serials m.cells.heap) (f : Grove m.cells m.regions) where
  sound : SoundCargo c
  sound = may k (Held c) at

  abbrev gs : List Given
  gs = take k given

  -- the values of the fields in front of this one, and of those behind it
  abbrev front : List Val
  front = field_values 1 gs

  abbrev rest : List Val
  rest = map start_value (drop (suc k) given)

  abbrev object : List Val → Seen
  object vs = record { class = class; fields = vs; label = Region 0 }

  abbrev others : List Seen
  others = content_objects 1 1 gs ++ map (object_from p.cells.heap.next p.regions.next) c.cells

  front-many : length front ≡ k
  front-many = values-length 1 gs ∙ take-length given k (Held c) at

  -- the store, with the objects of the content
  store-mid : store_of m.cells.heap ≡ object (front ++ Nil ∷ rest) ∷ others
  store-mid =
      loaded-store c bridge p.cells m.cells p.regions m.regions sound w q r (all-held p v slot class given k may q l g)
      ∙ ap (λ os. os ++ map (object_from p.cells.heap.next p.regions.next) c.cells) l.store
      ∙ ap (λ ds. object (front ++ map start_value ds) ∷ others) (drop-one given k (Held c) at)

  -- the object's body
  abbrev body : Body
  body = l.first.0

  mid-there : body_at m.cells.heap slot ≡ Some body
  mid-there = held-on c bridge p.cells m.cells p.regions m.regions sound w slot body l.first.1

  mid-object : object_of m.cells.heap (Some body) ≡ object (front ++ Nil ∷ rest)
  mid-object =
      same_Some (object_of m.cells.heap (Some body)) (object (front ++ Nil ∷ rest))
      (sym (store-held m.cells.heap slot body r mid-there)
      ∙ ap (slice_get (store_of m.cells.heap)) l.first.2
      ∙ ap (λ (os : List Seen). slice_get os 0) store-mid)

  mid-values : map (val_of m.cells.heap) body.fields ≡ front ++ Nil ∷ rest
  mid-values = ap (λ (o : Seen). o.fields) mid-object

  -- what the write asks
  pub owner-width : k < width (body_at m.cells.heap slot)
  owner-width =
      let many : length body.fields ≡ length (front ++ Nil ∷ rest) =
      sym (length-map body.fields (val_of m.cells.heap)) ∙ ap length mid-values in
      let within = slice_get_within (front ++ Nil ∷ rest) (length front) Nil (get-behind front rest Nil) in
      let here : width (body_at m.cells.heap slot) ≡ length body.fields = ap width mid-there in
      omega (arith, many, within, here, front-many)

  owner-lies : LiesIn m.cells.heap 0 slot
  owner-lies = ap (option_map (λ (b : Body). b.label)) mid-there ∙ ap (λ (o : Seen). Some o.label) mid-object

  leads-out : LeadsOut m.cells.heap slot k 0
  leads-out to e lies =
      let b = held-body m.cells.heap to (labelled_held m.cells.heap to (Region 0) lies) in
      let there : slice_get body.fields k ≡ Some (word.Slot to) = sym (field-in m.cells.heap slot k body mid-there) ∙ e in
      let leads : slice_get (front ++ Nil ∷ rest) k ≡ Some (Obj b.0.serial) =
      ap (λ vs. slice_get vs k) (sym mid-values)
      ∙ slice_get-map (val_of m.cells.heap) body.fields k
      ∙ ap (option_map (val_of m.cells.heap)) there
      ∙ ap Some (val-held m.cells.heap to b.0 b.1) in
      let nil : slice_get (front ++ Nil ∷ rest) k ≡ Some Nil =
      ap (slice_get (front ++ Nil ∷ rest)) (sym front-many) ∙ get-behind front rest Nil in
      apart (same_Some Nil (Obj b.0.serial) (sym nil ∙ leads))
    where
      apart : {n : ℕ} → Nil ≡ Obj n → ⊥
      apart e = cc

  some : 0 < p.regions.next
  some =
      let n = regions-made p v slot class given k may q l in
      omega (arith, n, regions-many 1 gs)

  first-label : label_of c.cells 0 ≡ Some (Region 0)
  first-label = is_in_true 0 (label_of c.cells 0) (parts_of c sound).first

  bridge-lies : LiesIn m.cells.heap p.regions.next bridge
  bridge-lies =
      let o = label_there c.cells 0 (Region 0) first-label in
      let n : p.regions.next + 0 ≡ p.regions.next = omega arith in
      ap (option_map (λ (b : Body). b.label)) (w.cells_are.bodies 0 bridge o.0 w.first o.1)
      ∙ ap (λ x. Some (label_from p.regions.next x)) o.2
      ∙ ap (λ x. Some (Region x)) n

  -- a label of the content, moved, that is that of a region
  moved : (x : Label) (a : ℕ) → label_from p.regions.next x ≡ Region a → (i : ℕ) × (x ≡ Region i) × (a ≡ p.regions.next + i)
  moved (Region i) a e = (i, refl, region-same a (p.regions.next + i) (ap Some (sym e)))
  moved (Temp n) a e = absurd cc
  moved Frozen a e = absurd cc

  -- no region of those before has the next number
  not-old : (x : ℕ) → LiesIn p.cells.heap p.regions.next x → ⊥
  not-old x lies =
      let has = g.labels p.regions.next x lies in
      let rec = record_there (record_at p.regions has.0) p.regions.next has.1 in
      let below = l.numbers.below has.0 rec.0 rec.1 in
      let n = rec.2 in
      omega (arith, below, n)

  alone : (a x j to : ℕ) → a ≢ p.regions.next → LiesIn m.cells.heap a x → field_at m.cells.heap x j ≡ Some (word.Slot to)
      → LiesIn m.cells.heap p.regions.next to → ⊥
  alone a x j to differ lies e into =
      let b = held-body m.cells.heap x (labelled_held m.cells.heap x (Region a) lies) in
      let field : slice_get b.0.fields j ≡ Some (word.Slot to) = sym (field-in m.cells.heap x j b.0 b.1) ∙ e in
      let label : b.0.label ≡ Region a = same_Some b.0.label (Region a) (sym (ap (option_map (λ (y : Body). y.label)) b.1) ∙ lies) in
      elim (back c bridge p.cells m.cells p.regions m.regions sound w x b.0 b.1) [
        | inl n ↦
            let mine : label_from p.regions.next n.cell.label ≡ Region a = ap (λ (y : Body). y.label) (sym n.body) ∙ label in
            let from = moved n.cell.label a mine in
            let leads : slice_get (map (word_in w.slots) n.cell.fields) j ≡ Some (word.Slot to) =
            ap (λ (y : Body). slice_get y.fields j) (sym n.body) ∙ field in
            let led = led_by_object w.slots to n.cell.fields j leads in
            let has : HasField c.cells n.place j (Obj led.0) = record { cell = n.cell; there = n.there; value = led.1 } in
            let range = in_range c n.place j led.0 sound has in
            let to-slot = slot-of c bridge p.cells m.cells p.regions m.regions sound w led.0 range in
            let to-is : to-slot.0 ≡ to = sym (get_or_from_slice_get w.slots led.0 to-slot.0 0 to-slot.1) ∙ led.2 in
            entered a n.place j led.0 n.cell from.0 differ from.2
            (ap (option_map (λ (y : CargoCell). y.label)) n.there ∙ ap Some from.1) has
            to-slot.0 to-slot.1 (subst (LiesIn m.cells.heap p.regions.next) (sym to-is) into)
        | inr was ↦
            let lay : LiesIn p.cells.heap a x = ap (option_map (λ (y : Body). y.label)) was ∙ ap Some label in
            let there : field_at p.cells.heap x j ≡ Some (word.Slot to) = field-in p.cells.heap x j b.0 was ∙ field in
            let d = held-body p.cells.heap to (led_held p.cells p.regions g a x j to lay there) in
            let now = held-on c bridge p.cells m.cells p.regions m.regions sound w to d.0 d.1 in
            not-old to (ap (option_map (λ (y : Body). y.label)) d.1 ∙ sym (ap (option_map (λ (y : Body). y.label)) now) ∙ into)
      ]
    where
      entered : (a i j o : ℕ) (cell : CargoCell) (n : ℕ) → a ≢ p.regions.next → a ≡ p.regions.next + n → label_of c.cells i ≡ Some (Region n)
          → HasField c.cells i j (Obj o) → (y : ℕ) → slice_get w.slots o ≡ Some y → LiesIn m.cells.heap p.regions.next y → ⊥
      entered a i j o cell n differ number from has y at lies =
          let range = in_range c i j o sound has in
          let there = label-at o y at lies in
          no_entry c n i j o sound (record {
            field = has;
            from = from;
            to = there;
            other = λ z. differ (omega (arith, number, z));
          })
        where
          label-at : (o y : ℕ) → slice_get w.slots o ≡ Some y → LiesIn m.cells.heap p.regions.next y → label_of c.cells o ≡ Some (Region 0)
          label-at o y at lies =
              let b = held-body m.cells.heap y (labelled_held m.cells.heap y (Region p.regions.next) lies) in
              by b.0 b.1 (back c bridge p.cells m.cells p.regions m.regions sound w y b.0 b.1)
            where
              by : (b : Body) → body_at m.cells.heap y ≡ Some b → New c bridge p.cells m.cells p.regions m.regions sound w y b
                  ⊎ (body_at p.cells.heap y ≡ Some b) → label_of c.cells o ≡ Some (Region 0)
              by b e (inr was) =
                  absurd (none-some b (sym (w.cells_are.vacant o y at) ∙ was))
              by b e (inl n) =
                  let place : n.place ≡ o = w.cells_are.once n.place o y n.slot at in
                  let label : label_from p.regions.next n.cell.label ≡ Region p.regions.next =
                  ap (λ (z : Body). z.label) (sym n.body)
                  ∙ same_Some b.label (Region p.regions.next) (sym (ap (option_map (λ (z : Body). z.label)) e) ∙ lies) in
                  let to = moved n.cell.label p.regions.next label in
                  let number = to.2 in
                  let zero : to.0 ≡ 0 = omega (arith, number) in
                  ap (label_of c.cells) (sym place)
                  ∙ (ap (option_map (λ (z : CargoCell). z.label)) n.there ∙ ap Some (to.1 ∙ ap Region zero))

  none-above : {x : ℕ} → Above m.cells.heap x 0 → ⊥
  none-above (direct b) = f.none_into_first _ b.from b.field b.to b.differ b.lies b.leads b.child_has
  none-above (further a b) = f.none_into_first _ b.from b.field b.to b.differ b.lies b.leads b.child_has

  comes : Comes m.cells.heap m.regions 0 (word.Slot bridge)
  comes to e =
      let same : bridge ≡ to = slot-same bridge to e in
      let less = some in
      let owner : Ownerless m.cells.heap m.regions p.regions.next bridge = record {
        lies = bridge-lies;
        bridge = is;
        not_first = λ z. omega (arith, z, less);
        alone = alone;
      } in (
        p.regions.next,
        subst (Ownerless m.cells.heap m.regions p.regions.next) same owner,
        λ z. omega (arith, z, less),
        λ a. none-above a,
      )

  mid-region : HasNumber m.regions l.window.region 0
  mid-region =
      let rec = record_there (record_at p.regions l.window.region) 0 l.region in
      number_of m.regions l.window.region 0 rec.0
      (region-on c bridge p.cells m.cells p.regions m.regions sound w l.window.region rec.0 rec.1) rec.2

  pub owner-place : InActive m.cells.heap m.regions v slot (λ n. Comes m.cells.heap m.regions n (word.Slot bridge)
      × LeadsOut m.cells.heap slot k n) ⊎ IsTemp m.cells.heap slot
  owner-place = inl (l.window, 0, l.top, mid-region, owner-lies, (comes, leads-out))

  -- behind the write the content is one of those that have come
  pub held-laid : (n : Parts) → n.cells.heap ≡ with_field m.cells.heap slot k (word.Slot bridge) → n.regions ≡ m.regions
      → Laid n v slot class given (suc k)
  held-laid n heap regions =
      let one : take (suc k) given ≡ gs ++ Held c ∷ [] = take-one given k (Held c) at in
      let objects = objects-made p v slot class given k may q l in
      let numbers = regions-made p v slot class given k may q l in
      let o = label_there c.cells 0 (Region 0) first-label in
      let next : p.cells.heap.next + 0 ≡ objects_behind 1 gs = omega (arith, objects) in
      let value : val_of m.cells.heap (word.Slot bridge) ≡ Obj (objects_behind 1 gs) =
      val-held m.cells.heap bridge (body-of c bridge p.cells m.cells p.regions m.regions sound w 0 o.0)
      (w.cells_are.bodies 0 bridge o.0 w.first o.1)
      ∙ ap Obj next in
      let at-object : val_of m.cells.heap (word.Slot slot) ≡ Obj 0 = val-held m.cells.heap slot body mid-there ∙ ap Obj l.first.2 in
      let set : slice_set (front ++ Nil ∷ rest) k (Obj (objects_behind 1 gs)) ≡ front ++ Obj (objects_behind 1 gs) ∷ rest =
      ap (λ i. slice_set (front ++ Nil ∷ rest) i (Obj (objects_behind 1 gs))) (sym front-many)
      ∙ set-behind front rest Nil (Obj (objects_behind 1 gs)) in
      let fields : front ++ Obj (objects_behind 1 gs) ∷ rest ≡ field_values 1 (take (suc k) given) ++ rest =
      sym (append_assoc front (Obj (objects_behind 1 gs) ∷ []) rest)
      ∙ ap (λ vs. vs ++ rest) (sym (ap (field_values 1) one ∙ values-held 1 gs c)) in
      let rest-of : others ≡ content_objects 1 1 (take (suc k) given) =
      ap (λ i. content_objects 1 1 gs ++ map (object_from i p.regions.next) c.cells) objects
      ∙ ap (λ i. content_objects 1 1 gs ++ map (object_from (objects_behind 1 gs) i) c.cells) numbers
      ∙ sym (ap (content_objects 1 1) one ∙ objects-held 1 1 gs c) in
      let there = written-there m.cells.heap slot k (word.Slot bridge) body mid-there in
      let new-numbers = loaded-numbers c bridge p.cells m.cells p.regions m.regions sound w l.numbers in
      record {
        numbers = subst Numbers (sym regions) new-numbers;
        bridges = subst HasBridges (sym regions) (loaded-bridges c bridge p.cells m.cells p.regions m.regions sound w some l.bridges);
        window = l.window;
        top = l.top;
        region = subst (λ t. HasNumber t l.window.region 0) (sym regions) mid-region;
        first = subst (λ h. HasSerial h slot 0) (sym heap)
            (record body { fields = slice_set body.fields k (word.Slot bridge) }, there, l.first.2);
        store = ap store_of heap
            ∙ written-store m.cells.heap slot k (word.Slot bridge) body mid-there r
            ∙ ap (λ x. put_in (store_of m.cells.heap) x k (val_of m.cells.heap (word.Slot bridge))) at-object
            ∙ ap (put_in (store_of m.cells.heap) (Obj 0) k) value
            ∙ ap (λ os. put_in os (Obj 0) k (Obj (objects_behind 1 gs))) store-mid
            ∙ ap (λ vs. object vs ∷ others) (set ∙ fields)
            ∙ ap (λ os. object_with class given (suc k) ∷ os) rest-of;
        managers = ap managers_of regions
            ∙ loaded-managers c bridge p.cells m.cells p.regions m.regions sound w l.numbers
            ∙ ap (λ ms. ms ++ c.managers) l.managers
            ∙ ap (λ ms. Arena ∷ ms) (sym (ap content_managers one ∙ managers-held gs c));
      }
