-- The conditions of the heap's calls, from what instructions need of the machine that the heap shows.
use Rattle.std.proofs.Common.{◌≡◌, ◌≢◌, ◌≤◌, ◌<◌, ◌==◌, ◌||◌, ◌⊎◌, inl, inr, ℕ, ◌-◌, Bool as Truth, true, false, cond, not}
use Rattle.std.proofs.Common.{List, [], ◌∷◌, map, length, Option, Some, None, option_map, slice_get, unwrap_or, count_by, nat_le}
use Rattle.std.proofs.Common.{refl, sym, ap, ◌∙◌, subst, arith}
use Rattle.std.proofs.lemmas.Bool.{false≢true, eqb-true, ne_eqb}
use Rattle.std.proofs.lemmas.Option.{none-some, same_Some, slice_get-map}
use Rattle.rg_base.specs.declared.object.Label.{Label}
use Rattle.rg_base.specs.declared.object.Label.TheVariants.{Region, Temp, Frozen}
use Rattle.rg_base.specs.declared.object.Seen.{Seen}
use Rattle.rg_base.specs.declared.value.Val.{Val}
use Rattle.rg_base.specs.declared.value.Val.TheVariants as val
use Rattle.rg_base.specs.declared.value.Word.{Word}
use Rattle.rg_base.specs.declared.value.Word.TheVariants as word
use Rattle.rg_base.proofs.Callers.Lists.{there}
use Rattle.rg_base.proofs.Callers.Labels.{region-same}
use Rattle.rg_cells.specs.declared.cell.Body.{Body}
use Rattle.rg_cells.specs.Table.{body_at, label_at, field_at, Serials, IsHeld}
use Rattle.rg_regions.specs.Table.{Record, record_at, HasNumber, IsBridge}
use Rattle.rg_regions.specs.Reach.{LiesIn}
use Rattle.rg_regions.specs.Grove.{Grove, Above, direct, further}
use Rattle.rg_frames.specs.declared.rows.Window.{Window as WindowRow}
use Rattle.rg_frames.specs.Stack.{Stack, IsTop}
use Rattle.rg_stack.specs.Machine.{Frame, top_slots, slot_at}
use Rattle.rg_stack.specs.Tops.{top_region}
use Rattle.rg_stack.specs.Needs.{slots_into, fields_into, places_into, owned_once, loose}
use Rattle.rg_stack.specs.Labels.{is_open, is_into, label_of, is_outside}
use Rattle.rg_stack.specs.Needs.{may_stand}
use Rattle.rg_stack.specs.Places.{is_writable}
use Rattle.rg_heap.specs.Parts.{Parts}
use Rattle.rg_heap.specs.Answers.{val_of, IsClosed}
use Rattle.rg_heap.specs.Reads.{LeadsIntoClosed}
use Rattle.rg_heap.specs.Opened.{Opened}
use Rattle.rg_heap.specs.Writes.{Stays, Ownerless, Comes, InActive, LeadsOut}
use Rattle.rg_heap.specs.Ends.{IsTemp}
use Rattle.rg_heap.specs.Moves.{NotBeneath}
use Rattle.rg_held.proofs.Lists.{sum-one, count-one}
use Rattle.rg_held.proofs.Places.{all-below}
use Rattle.rg_view.specs.View.{object_of, store_of, windows_of, frames_of, managers_of, machine_of}
use Rattle.rg_view.specs.Numbers.{Numbers}
use Rattle.rg_view.proofs.Callers.Look.{store-held, val-held}
use Rattle.rg_view.proofs.Callers.Shown.{held-body, field-in}
use Rattle.rg_view.proofs.Callers.Manager.{managers-length}
use Rattle.rg_view.proofs.Callers.Window.{active-region}
use Rattle.rg_view.proofs.Callers.Open.{Keyed, number-is, open-back, window-open, closed-not-open, label-shown}
use Rattle.rg_view.proofs.Callers.Open.{into-there, closed-there}

-- Counts

-- one where a test passes
abbrev pub weight : Truth → ℕ
weight b = cond b 1 0

module _ (p : Parts) (v : Stack) (at : ℕ) (q : Serials p.cells.heap) (g : Grove p.cells p.regions) (o : Opened p v) where
  -- the windows' regions, and the numbers of regions
  pub keyed : Keyed p.regions v
  keyed = record { known = o.known; numbers = g.numbers }

  -- the topmost window, and the number of its region
  pub record Top : Type 0 where
    pub window : WindowRow
    pub number : ℕ
    pub is : IsTop v window
    pub has : HasNumber p.regions window.region number
    pub shown : top_region (windows_of p.regions v) ≡ number

  pub top : Top
  top =
      let some = o.some in
      let w = there v.windows (length v.windows - 1) (omega (arith, some)) in
      let n = o.known (length v.windows - 1) w.0 w.1 in
      record {
        window = w.0;
        number = n.0;
        is = w.1;
        has = n.1;
        shown = active-region p.regions v w.0 w.1 ∙ number-is p.regions w.0.region n.0 n.1;
      }

  -- the active region is open, and a closed one isn't region 0
  pub active-open : is_open (windows_of p.regions v) top.number ≡ true
  active-open = window-open p.regions v keyed top.number (length v.windows - 1) top.window top.is top.has

  pub closed-other : (r : ℕ) → IsClosed p.regions v r → r ≢ top.number
  closed-other r c e = false≢true (sym (closed-not-open p.regions v keyed r c) ∙ ap (is_open (windows_of p.regions v)) e ∙ active-open)

  pub closed-not-first : (r : ℕ) → IsClosed p.regions v r → r ≢ 0
  closed-not-first r c e =
      let w = there v.windows 0 o.some in
      false≢true (sym (closed-not-open p.regions v keyed r c) ∙ ap (is_open (windows_of p.regions v)) e
      ∙ window-open p.regions v keyed 0 0 w.0 w.1 (o.first w.0 w.1))

  -- Where a write may go

  -- an object that may be written is a temporary, or lies in the active region
  pub write-place : (s : ℕ) (b : Body) (P : ℕ → Type 0) → body_at p.cells.heap s ≡ Some b → is_writable (machine_of p v at) b.label ≡ true
      → ((n : ℕ) → n ≡ top.number → b.label ≡ Region n → P n) → InActive p.cells.heap p.regions v s P ⊎ IsTemp p.cells.heap s
  write-place s b P e may h = by b.label refl
    where
      label-is : (l : Label) → b.label ≡ l → label_at p.cells.heap s ≡ Some l
      label-is l is = ap (option_map (λ (b : Body). b.label)) e ∙ ap Some is

      by : (l : Label) → b.label ≡ l → InActive p.cells.heap p.regions v s P ⊎ IsTemp p.cells.heap s
      by (Region r) is =
          let same : r ≡ top.number =
          eqb-true r (top_region (windows_of p.regions v)) (sym (ap (is_writable (machine_of p v at)) is) ∙ may) ∙ top.shown in
          inl (top.window, r, top.is, subst (HasNumber p.regions top.window.region) (sym same) top.has, label-is (Region r) is, h r same is)
      by (Temp n) is = inr (n, label-is (Temp n) is)
      by Frozen is = absurd (false≢true (sym (ap (is_writable (machine_of p v at)) is) ∙ may))

  -- a value that may stand in a field of a region's object stays within the region
  pub stays : (n : ℕ) (w : Word) → ((s : ℕ) → w ≡ word.Slot s → IsHeld p.cells.heap s)
      → may_stand (machine_of p v at) (Region n) (val_of p.cells.heap w) ≡ true → Stays p.cells.heap n w
  stays n w held e to is =
      let b = held-body p.cells.heap to (held to is) in
      let shown = ap (val_of p.cells.heap) is ∙ val-held p.cells.heap to b.0 b.1 in
      by b.0 b.1 b.0.label refl (sym (ap (λ (x : Val). may_stand (machine_of p v at) (Region n) x) shown) ∙ e)
    where
      answer : Option Label → Truth
      answer x = elim x [
        | None ↦ false
        | Some k ↦ elim k [ Region r ↦ r == n | Temp m ↦ false | Frozen ↦ true ]
      ]

      by : (b : Body) → body_at p.cells.heap to ≡ Some b → (l : Label) → b.label ≡ l
          → may_stand (machine_of p v at) (Region n) (val.Obj b.serial) ≡ true
          → (label_at p.cells.heap to ≡ Some Frozen) ⊎ LiesIn p.cells.heap n to
      by b f l is may = label l is (sym (ap answer (sym (ap (label_of (store_of p.cells.heap)) (val-held p.cells.heap to b f))
          ∙ label-shown p.cells.heap to b q f ∙ ap Some is)) ∙ may)
        where
          label : (l : Label) → b.label ≡ l → answer (Some l) ≡ true → (label_at p.cells.heap to ≡ Some Frozen) ⊎ LiesIn p.cells.heap n to
          label (Region r) is e =
              inr (ap (option_map (λ (b : Body). b.label)) f ∙ ap Some is ∙ ap (λ r. Some (Region r)) (eqb-true r n e))
          label (Temp m) is e = absurd (false≢true e)
          label Frozen is e = inl (ap (option_map (λ (b : Body). b.label)) f ∙ ap Some is)

  -- Owners

  -- a field from outside that leads into a region is counted
  pub label-counts : (r s k x : ℕ) (l : Label) → label_at p.cells.heap s ≡ Some l → is_outside (windows_of p.regions v) r l ≡ true
      → field_at p.cells.heap s k ≡ Some (word.Slot x) → LiesIn p.cells.heap r x
      → 1 ≤ fields_into (store_of p.cells.heap) (windows_of p.regions v) r (store_of p.cells.heap)
  label-counts r s k x l labelled from leads into = by (body_at p.cells.heap s) refl
    where
      by : (c : Option Body) → body_at p.cells.heap s ≡ c
          → 1 ≤ fields_into (store_of p.cells.heap) (windows_of p.regions v) r (store_of p.cells.heap)
      by None e = absurd (none-some l (sym (ap (option_map (λ (b : Body). b.label)) e) ∙ labelled))
      by (Some b) e =
          let one = count-one (is_into (store_of p.cells.heap) r) (map (val_of p.cells.heap) b.fields) k (val_of p.cells.heap (word.Slot x))
          (slice_get-map (val_of p.cells.heap) b.fields k
          ∙ ap (option_map (val_of p.cells.heap)) (sym (field-in p.cells.heap s k b e) ∙ leads))
          (into-there p.cells.heap r x q into) in
          let label : b.label ≡ l = same_Some b.label l (sym (ap (option_map (λ (b : Body). b.label)) e) ∙ labelled) in
          let outside : is_outside (windows_of p.regions v) r b.label ≡ true =
          ap (is_outside (windows_of p.regions v) r) label ∙ from in
          let counts : cond (is_outside (windows_of p.regions v) r b.label)
          (count_by (is_into (store_of p.cells.heap) r) (map (val_of p.cells.heap) b.fields)) 0
          ≡ count_by (is_into (store_of p.cells.heap) r) (map (val_of p.cells.heap) b.fields) =
          ap (λ t. cond t (count_by (is_into (store_of p.cells.heap) r) (map (val_of p.cells.heap) b.fields)) 0) outside in
          let hit = sum-one (λ (o : Seen). cond (is_outside (windows_of p.regions v) r o.label)
          (count_by (is_into (store_of p.cells.heap) r) o.fields) 0) (store_of p.cells.heap) b.serial (object_of p.cells.heap (Some b))
          (store-held p.cells.heap s b q e) in
          omega (arith, one, counts, hit)

  -- a field of another region's cell that leads into a region is counted
  pub field-counts : (r p₂ s k x : ℕ) → p₂ ≢ r → LiesIn p.cells.heap p₂ s → field_at p.cells.heap s k ≡ Some (word.Slot x) → LiesIn p.cells.heap r x
      → 1 ≤ fields_into (store_of p.cells.heap) (windows_of p.regions v) r (store_of p.cells.heap)
  field-counts r p₂ s k x d lies leads into = label-counts r s k x (Region p₂) lies (ap not (ne_eqb p₂ r d)) leads into

  -- a closed region into which no such field leads has a bridge without an owner
  ownerless : (r s : ℕ) → LiesIn p.cells.heap r s → IsClosed p.regions v r → IsBridge p.regions r s
      → fields_into (store_of p.cells.heap) (windows_of p.regions v) r (store_of p.cells.heap) ≡ 0
      → Ownerless p.cells.heap p.regions r s
  ownerless r s lies c bridge none = record {
    lies = lies;
    bridge = bridge;
    not_first = closed-not-first r c;
    alone = λ p₂ x k to d l f i. let one = field-counts r p₂ x k to d l f i in absurd (omega (arith, one, none));
  }

  -- so it is where no place leads into the region of a value
  pub ownerless-loose : (r s : ℕ) → LiesIn p.cells.heap r s → IsClosed p.regions v r → IsBridge p.regions r s
      → loose (machine_of p v at) (val_of p.cells.heap (word.Slot s)) ≡ true → Ownerless p.cells.heap p.regions r s
  ownerless-loose r s lies c bridge e =
      let m = machine_of p v at in
      let none : places_into m r ≡ 0 = eqb-true (places_into m r) 0
      (sym (ap (λ (x : Option ℕ). elim x [ None ↦ true | Some n ↦ places_into m n == 0 ]) (closed-there p v at q keyed g.labels s r lies c)) ∙ e) in
      ownerless r s lies c bridge (omega (arith, none))

  -- the slots of the topmost frame that lead into a region are counted
  pub slot-counts : (r i : ℕ) → is_into (store_of p.cells.heap) r (slot_at (machine_of p v at) i) ≡ true
      → 1 ≤ slots_into (store_of p.cells.heap) r (frames_of p.cells.heap v)
  slot-counts r i e = by (frames_of p.cells.heap v) e
    where
      found : (vs : List Val) (x : Option Val) → slice_get vs i ≡ x → is_into (store_of p.cells.heap) r (unwrap_or x val.Nil) ≡ true
          → 1 ≤ count_by (is_into (store_of p.cells.heap) r) vs
      found vs None f e = absurd (false≢true e)
      found vs (Some u) f e = count-one (is_into (store_of p.cells.heap) r) vs i u f e

      by : (fs : List Frame) → is_into (store_of p.cells.heap) r (unwrap_or (slice_get (top_slots fs) i) val.Nil) ≡ true
          → 1 ≤ slots_into (store_of p.cells.heap) r fs
      by [] e = absurd (false≢true e)
      by (f ∷ fs) e =
          let one = found f.slots (slice_get f.slots i) refl e in
          let hit = sum-one (λ (f : Frame). count_by (is_into (store_of p.cells.heap) r) f.slots) (f ∷ fs) 0 f refl in
          omega (arith, one, hit)

  -- where each closed region is owned once, at most one place leads into it
  pub places-most : (r : ℕ) → Numbers p.regions → IsClosed p.regions v r → owned_once (machine_of p v at) ≡ true
      → places_into (machine_of p v at) r ≤ 1
  places-most r n c once =
      let m = machine_of p v at in
      let below : r < length (managers_of p.regions) = known (record_at p.regions c.0) refl in
      let test = all-below (length m.managers) (λ r. is_open m.windows r || nat_le (places_into m r) 1) r once below in
      let most : nat_le (places_into m r) 1 ≡ true =
      sym (ap (λ b. b || nat_le (places_into m r) 1) (closed-not-open p.regions v keyed r c)) ∙ test in
      grind (arith, most)
    where
      known : (x : Option Record) → record_at p.regions c.0 ≡ x → r < length (managers_of p.regions)
      known None f = absurd (none-some r (sym (ap (option_map (λ (r : Record). r.number)) f) ∙ c.1))
      known (Some rec) f =
          let is : rec.number ≡ r = same_Some rec.number r (sym (ap (option_map (λ (r : Record). r.number)) f) ∙ c.1) in
          let lt = n.below c.0 rec f in
          omega (arith, is, lt, managers-length p.regions)

  -- and where each closed region is owned once, that of a slot of the topmost frame by the slot
  pub ownerless-slot : (r s i : ℕ) → Numbers p.regions → LiesIn p.cells.heap r s → IsClosed p.regions v r → IsBridge p.regions r s
      → slot_at (machine_of p v at) i ≡ val_of p.cells.heap (word.Slot s) → owned_once (machine_of p v at) ≡ true
      → Ownerless p.cells.heap p.regions r s
  ownerless-slot r s i n lies c bridge is once =
      let one = slot-counts r i (ap (is_into (store_of p.cells.heap) r) is ∙ into-there p.cells.heap r s q lies) in
      let le = places-most r n c once in
      ownerless r s lies c bridge (omega (arith, one, le))

  -- Open and closed regions in the forest

  -- what is above an open region is open
  above-open : {r m : ℕ} → Above p.cells.heap r m → is_open (windows_of p.regions v) m ≡ true → is_open (windows_of p.regions v) r ≡ true
  above-open (direct {p = r} {r = m} a) e =
      let w = open-back p.regions v keyed m e in
      let u = o.parents w.0 w.1 m r w.2 w.3 a in
      window-open p.regions v keyed r u.0 u.1 u.3 u.4
  above-open (further {p = r} {q = b} {r = m} x a) e =
      let w = open-back p.regions v keyed m e in
      let u = o.parents w.0 w.1 m b w.2 w.3 a in
      above-open x (window-open p.regions v keyed b u.0 u.1 u.3 u.4)

  pub closed-not-above : (r m : ℕ) → IsClosed p.regions v r → is_open (windows_of p.regions v) m ≡ true → Above p.cells.heap r m → ⊥
  closed-not-above r m c e a = false≢true (sym (closed-not-open p.regions v keyed r c) ∙ above-open a e)

  -- the active region isn't beneath that of a cell of a closed one
  pub not-beneath : (r s : ℕ) → LiesIn p.cells.heap r s → IsClosed p.regions v r → NotBeneath p s top.window.region
  not-beneath r s lies c n m l has below =
      let same : n ≡ r = region-same n r (sym l ∙ lies) in
      let number : m ≡ top.number = same_Some m top.number (sym has ∙ top.has) in
      elim below [
        | inl is ↦ closed-other r c (sym same ∙ sym is ∙ number)
        | inr x ↦ closed-not-above r m c (ap (is_open (windows_of p.regions v)) number ∙ active-open)
            (subst (λ z. Above p.cells.heap z m) same x.1)
      ]

  -- What a swap asks for

  -- the word comes: the bridge of a closed region without an owner
  pub comes : (w : Word) → ((s r : ℕ) → w ≡ word.Slot s → LiesIn p.cells.heap r s → IsClosed p.regions v r → Ownerless p.cells.heap p.regions r s)
      → ((s : ℕ) → w ≡ word.Slot s → LeadsIntoClosed p v w) → Comes p.cells.heap p.regions top.number w
  comes w free closed to is =
      let l = closed to is in
      let slot : l.1 ≡ to = slot-same l.1 to (sym l.2 ∙ is) in
      let lies : LiesIn p.cells.heap l.0 to = subst (LiesIn p.cells.heap l.0) slot l.3 in
      (l.0, free to l.0 is lies l.4, closed-other l.0 l.4, λ a. closed-not-above l.0 top.number l.4 active-open a)
    where
      slot-same : (a b : ℕ) → word.Slot a ≡ word.Slot b → a ≡ b
      slot-same a b e = cc

  -- the field leads out of the active region
  pub leads-out : (s k : ℕ) → ((to : ℕ) → field_at p.cells.heap s k ≡ Some (word.Slot to) → LeadsIntoClosed p v (word.Slot to))
      → LeadsOut p.cells.heap s k top.number
  leads-out s k closed to f lies =
      let l = closed to f in
      let slot : l.1 ≡ to = slot-same l.1 to (sym l.2) in
      closed-other l.0 l.4 (region-same l.0 top.number (sym (subst (LiesIn p.cells.heap l.0) slot l.3) ∙ lies))
    where
      slot-same : (a b : ℕ) → word.Slot a ≡ word.Slot b → a ≡ b
      slot-same a b e = cc
