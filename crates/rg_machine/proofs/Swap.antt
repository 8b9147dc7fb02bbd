-- A field and a slot that own change places: what the call of the heap asks, what holds behind it, and the machine that is shown.
use Rattle.std.proofs.Common.{◌≡◌, ◌⊎◌, inl, inr, ◌<◌, ◌+◌, ◌-◌, ℕ, zero, suc, Bool as Truth, true, ◌&&◌, nat_lt}
use Rattle.std.proofs.Common.{List, [], ◌∷◌, ◌++◌, Some, length, reverse, slice_get, unwrap_or}
use Rattle.std.proofs.Common.{Result, Ok, Err, sym, ap, subst, ◌∙◌, arith}
use Rattle.std.proofs.lemmas.Bool.{false≢true}
use Rattle.std.proofs.lemmas.Option.{none-some}
use Rattle.rg_base.specs.declared.object.Label.TheVariants.{Region, Temp, Frozen}
use Rattle.rg_base.specs.declared.object.Seen.{Seen}
use Rattle.rg_base.specs.declared.outcome.Trap.{Trap}
use Rattle.rg_base.specs.declared.value.Val.{Val}
use Rattle.rg_base.specs.declared.value.Word.{Word}
use Rattle.rg_base.specs.declared.value.Word.TheVariants as word
use Rattle.rg_base.proofs.Callers.Labels.{slot-same, region-same}
use Rattle.rg_base.proofs.Callers.Lists.{there}
use Rattle.rg_tree.proofs.TreesFrom.{slice_get-push}
use Rattle.rg_code.specs.Code.{empty}
use Rattle.rg_code.specs.declared.op.Op.TheVariants as i
use Rattle.rg_cells.specs.declared.cell.Body.{Body}
use Rattle.rg_cells.specs.Table.{body_at, field_at, width, with_field, Serials}
use Rattle.rg_regions.specs.Table.{HasNumber, IsBridge}
use Rattle.rg_regions.specs.Reach.{LiesIn}
use Rattle.rg_regions.specs.Grove.{Grove}
use Rattle.rg_frames.specs.declared.rows.Window.{Window as WindowRow}
use Rattle.rg_frames.specs.Stack.{Stack}
use Rattle.rg_frames.specs.Changes.{with_slot}
use Rattle.rg_stack.specs.Machine.{Machine, put_slot, slot_at}
use Rattle.rg_stack.specs.Effects.{Traps, Walked, on_object, on_top, put_in, stored, with_store}
use Rattle.rg_stack.specs.Needs.{is_empty, of_object, of_top, owned_once, owns_or_nil}
use Rattle.rg_stack.specs.Places.{field_of, is_field, is_writable, size_of}
use Rattle.rg_stack.proofs.Basics.{and-left, and-right}
use Rattle.rg_held.specs.Frees.{free_act}
use Rattle.rg_heap.specs.Parts.{Parts}
use Rattle.rg_heap.specs.Answers.{IsClosed, val_of}
use Rattle.rg_heap.specs.Opened.{IsWindow}
use Rattle.rg_heap.specs.Writes.{Comes, InActive, LeadsOut}
use Rattle.rg_heap.specs.Ends.{IsTemp}
use Rattle.rg_view.specs.View.{frames_of, machine_of, object_of, values_of}
use Rattle.rg_view.proofs.Callers.Instructions.{can-swap, owns}
use Rattle.rg_view.proofs.Callers.Frame.{slot-there, top-size}
use Rattle.rg_view.proofs.Callers.Held.{all-lead}
use Rattle.rg_view.proofs.Callers.Need.{closed-other, keyed, write-place}
use Rattle.rg_view.proofs.Callers.Open.{closed-not-open, window-open}
use Rattle.rg_view.proofs.Callers.Read.{field-there, field-within, object-tested, object-there, pushed-value}
use Rattle.rg_view.proofs.Callers.Shown.{held-body}
use Rattle.rg_view.proofs.Callers.Write.{written-val}
use Rattle.rg_machine.specs.Core.{ActIs, Core, Has, with_machine, work_of}
use Rattle.rg_machine.specs.Keeps.{backs}
use Rattle.rg_machine.specs.Parts.{Parts as Whole, machine_in, val_in}
use Rattle.rg_machine.specs.Cores.{core_of}
use Rattle.rg_machine.specs.Stands.{AllLead, Leads, Stands}
use Rattle.rg_machine.specs.declared.next.Next.TheVariants as next
use Rattle.rg_machine.proofs.Write.Slot.{core-slot, lead-slot, put-backs, stands-word}
use Rattle.rg_machine.proofs.Write.Field.{Written, core-written, lead-written, leads-written, stands-written, topmost, written}
use Rattle.rg_machine.proofs.Enter.Field.{front-lead as lead-front}

-- words behind which one more stands
pub get-front : {A : Type 0} → (xs : List A) (y : A) (k : ℕ) (x : A) → slice_get xs k ≡ Some x → slice_get (xs ++ y ∷ []) k ≡ Some x
get-front [] y k x e = absurd (none-some x e)
get-front (z ∷ xs) y zero x e = e
get-front (z ∷ xs) y (suc k) x e = get-front xs y k x e

module _ (p : Parts) (v : Stack) (q : Serials p.cells.heap) (g : Grove p.cells p.regions) (h : Stands p v) where
  -- a closed region has no window
  no-window : (r i : ℕ) (u : WindowRow) → IsClosed p.regions v r → IsWindow v i u → HasNumber p.regions u.region r → ⊥
  no-window r i u c e has =
      let k = keyed p v 0 q g h.opened in
      false≢true (sym (closed-not-open p.regions v k r c) ∙ window-open p.regions v k r i u e has)

  -- the word in a slot leads
  pub slot-leads : (j : ℕ) (w : Word) → slice_get v.slots j ≡ Some w → Leads p v w
  slot-leads j w e = record {
    held = λ s is. h.opened.slots j s (e ∙ ap Some is);
    bridge = λ s r is lies c. h.slots j s r (e ∙ ap Some is) lies (λ i u at has. absurd (no-window r i u c at has));
  }

  -- and so does that in a field of a cell that may be written
  pub field-leads : (at s k : ℕ) (b : Body) (w : Word) → body_at p.cells.heap s ≡ Some b → is_writable (machine_of p v at) b.label ≡ true
      → field_at p.cells.heap s k ≡ Some w → Leads p v w
  field-leads at s k b w e may f = record {
    held = λ to is. all-lead p v g h.opened h.temps s k to (f ∙ ap Some is);
    bridge = λ to r is lies c. by to r (f ∙ ap Some is) lies c (write-place p v at q g h.opened s b (λ n. IsClosed p.regions v n → ⊥) e may
        (λ n same label c. closed-other p v at q g h.opened n c same));
  }
    where
      by : (to r : ℕ) → field_at p.cells.heap s k ≡ Some (word.Slot to) → LiesIn p.cells.heap r to → IsClosed p.regions v r
          → InActive p.cells.heap p.regions v s (λ n. IsClosed p.regions v n → ⊥) ⊎ IsTemp p.cells.heap s → IsBridge p.regions r to
      by to r f lies c (inl a) = elim (g.fields a.1 s k to a.4 f) [
        | inl frozen ↦ absurd (not-frozen (sym frozen ∙ lies))
        | inr rest ↦ elim rest [
          | inl own ↦ absurd (a.5 (subst (IsClosed p.regions v) (region-same r a.1 (sym lies ∙ own)) c))
          | inr x ↦ subst (λ n. IsBridge p.regions n to) (region-same x.0 r (sym x.2 ∙ lies)) x.3
        ]
      ]
        where
          not-frozen : Some Frozen ≡ Some (Region r) → ⊥
          not-frozen e = cc
      by to r f lies c (inr t) =
          let u = h.temps s t.0 t.1 in
          let of = h.opened.all_temps u.0 s u.1 u.2 (t.1 ∙ ap (λ n. Some (Temp n)) (sym u.3)) in
          h.fields u.0 s k to r u.1 u.2 of f lies (λ i o at has. absurd (no-window r i o c at has))

-- The cell and the slot that change places: both words own, or are nil.
pub record Swaps (x : Whole) (slot s k : ℕ) : Type 0 where
  pub body : Body
  pub there : body_at x.heap.cells.heap slot ≡ Some body
  pub inside : nat_lt s (size_of (machine_in x)) ≡ true
  pub once : owned_once (machine_in x) ≡ true
  pub writable : is_writable (machine_in x) body.label ≡ true
  pub within : nat_lt k (length (object_of x.heap.cells.heap (Some body)).fields) ≡ true
  pub field : owns_or_nil (machine_in x) (field_of (object_of x.heap.cells.heap (Some body)) k) ≡ true
  pub owner : owns_or_nil (machine_in x) (slot_at (machine_in x) s) ≡ true

-- the topmost word leads to the cell, where the instruction is given what it needs
swaps-by : (x : Whole) (words : List Word) (r : Word) (slot s k : ℕ) → x.words ≡ words ++ r ∷ [] → r ≡ word.Slot slot → Serials x.heap.cells.heap
    → AllLead x.heap x.frames x.words → Has (i.Swap s k) (core_of x) → Swaps x slot s k
swaps-by x words r slot s k ends is q l given =
    let m = machine_in x in
    let leads = l (length words) r (ap (λ ws. slice_get ws (length words)) ends ∙ slice_get-push words r) in
    let b = held-body x.heap.cells.heap slot (leads.held slot is) in
    let o = object_of x.heap.cells.heap (Some b.0) in
    let test : Seen → Truth = λ o. owned_once m && is_field m k o && owns_or_nil m (field_of o k) && owns_or_nil m (slot_at m s) in
    let stack : values_of x.heap.cells.heap x.words ≡ val_in x r ∷ values_of x.heap.cells.heap words =
    ap (values_of x.heap.cells.heap) ends ∙ pushed-value x.heap.cells.heap words r in
    let one : (is_empty (values_of x.heap.cells.heap words) && nat_lt s (size_of m) && of_object m (val_in x r) test) ≡ true =
    sym (ap (λ vs. of_top vs (λ r rest. is_empty rest && nat_lt s (size_of m) && of_object m r test)) stack) ∙ given in
    let two : test o ≡ true =
    sym (ap (λ r. of_object m (val_in x r) test) is ∙ object-tested x.heap x.frames x.at slot b.0 test q b.1) ∙ and-right _ _ one in
    let three = and-left _ _ two in
    let four = and-left _ _ three in
    let field = and-right _ _ four in
    record {
      body = b.0;
      there = b.1;
      inside = and-right _ _ (and-left _ _ one);
      once = and-left _ _ four;
      writable = and-left _ _ field;
      within = and-right _ _ field;
      field = and-right _ _ three;
      owner = and-right _ _ two;
    }

swaps : (x y : Whole) → x ≡ y → (words : List Word) (r : Word) (slot s k : ℕ) → x.words ≡ words ++ r ∷ [] → r ≡ word.Slot slot
    → Serials x.heap.cells.heap → AllLead x.heap x.frames x.words → Has (i.Swap s k) (core_of y) → Swaps x slot s k
swaps x y e words r slot s k ends is q l given =
    swaps-by x words r slot s k ends is q l (subst (λ (z : Whole). Has (i.Swap s k) (core_of z)) (sym e) given)

module _ (x : Whole) (slot s k : ℕ) (q : Serials x.heap.cells.heap) (g : Grove x.heap.cells x.heap.regions) (h : Stands x.heap x.frames)
    (a : Swaps x slot s k) (w : Word) (read : w ≡ unwrap_or (slice_get x.frames.slots (x.frames.first + s)) word.Nil) where
  -- the slot is there
  size : s < length x.frames.slots - x.frames.first
  size =
      let lt : s < size_of (machine_in x) = less s (size_of (machine_in x)) a.inside in
      omega (arith, lt, top-size x.heap.cells.heap x.frames.slots x.frames.first (reverse x.frames.frames) h.lain)
    where
      less : (a b : ℕ) → nat_lt a b ≡ true → a < b
      less a b e = grind (arith, e)

  stands-there : slice_get x.frames.slots (x.frames.first + s) ≡ Some w
  stands-there =
      let lt = size in
      let e = there x.frames.slots (x.frames.first + s) (omega (arith, lt)) in
      e.1 ∙ ap Some (sym (read ∙ ap (λ o. unwrap_or o word.Nil) e.1))

  slot-value : slot_at (machine_in x) s ≡ val_in x w
  slot-value = slot-there x.heap.cells.heap x.frames.slots x.frames.first s (reverse x.frames.frames) w h.lain stands-there

  w-leads : Leads x.heap x.frames w
  w-leads = slot-leads x.heap x.frames q g h (x.frames.first + s) w stands-there

  w-owns : owns_or_nil (machine_in x) (val_in x w) ≡ true
  w-owns = sym (ap (owns_or_nil (machine_in x)) slot-value) ∙ a.owner

  field-owns : (u : Word) → field_at x.heap.cells.heap slot k ≡ Some u → owns_or_nil (machine_in x) (val_in x u) ≡ true
  field-owns u f = sym (ap (owns_or_nil (machine_in x)) (field-there x.heap.cells.heap slot k a.body u a.there f)) ∙ a.field

  -- what the heap asks
  swap-place : InActive x.heap.cells.heap x.heap.regions x.frames slot
      (λ n. Comes x.heap.cells.heap x.heap.regions n w × LeadsOut x.heap.cells.heap slot k n) ⊎ IsTemp x.heap.cells.heap slot
  swap-place =
      can-swap x.heap x.frames x.at q g h.opened slot k s a.body w h.numbers a.there a.writable w-leads.held
      (λ to f. all-lead x.heap x.frames g h.opened h.temps slot k to f) w-leads.bridge slot-value a.once w-owns field-owns

  swap-width : k < width (body_at x.heap.cells.heap slot)
  swap-width = field-within x.heap x.frames x.at slot k a.body q a.there a.within

  -- a word that owns leads into closed regions alone
  owned : (u : Word) → Leads x.heap x.frames u → owns_or_nil (machine_in x) (val_in x u) ≡ true
      → (to r : ℕ) → u ≡ word.Slot to → LiesIn x.heap.cells.heap r to → IsClosed x.heap.regions x.frames r
  owned u l own to r is lies =
      let c = owns x.heap x.frames x.at q g h.opened to (l.held to is) (sym (ap (λ u. owns_or_nil (machine_in x) (val_in x u)) is) ∙ own) in
      let at : c.1 ≡ to = slot-same c.1 to (sym c.2) in
      let same : c.0 ≡ r = region-same c.0 r (sym (subst (LiesIn x.heap.cells.heap c.0) at c.3) ∙ lies) in
      subst (IsClosed x.heap.regions x.frames) same c.4

  module _ (new : Parts) (u : Word) (f : field_at x.heap.cells.heap slot k ≡ Some u)
      (heap : new.cells.heap ≡ with_field x.heap.cells.heap slot k w) (regions : new.regions ≡ x.heap.regions) where
    wrote : Written x.heap.cells.heap new.cells.heap slot w
    wrote = written x.heap.cells.heap new.cells.heap slot k w a.body a.there heap

    u-leads : Leads x.heap x.frames u
    u-leads = field-leads x.heap x.frames q g h x.at slot k a.body u a.there a.writable f

    -- all stands behind both writes
    stands-swap : Stands new (with_slot x.frames s u)
    stands-swap =
        let l = leads-written x.heap new x.frames slot w wrote regions u u-leads in
        stands-word new x.frames s u
        (stands-written x.heap new x.frames slot w wrote regions q g h w-leads
        (λ r n to lies is into. inr (owned w w-leads w-owns to n is into))
        (topmost x.heap x.frames x.at slot a.body h a.there a.writable))
        l.held
        (λ to r within is lies behind.
        l.bridge to r is lies
        (subst (λ t. IsClosed t x.frames r) (sym regions) (owned u u-leads (field-owns u f) to r is (sym (wrote.labels to) ∙ lies))))

    lead-swap : (words : List Word) → AllLead x.heap x.frames words → AllLead new (with_slot x.frames s u) words
    lead-swap words l =
        lead-slot new x.frames s u words (lead-written x.heap new x.frames slot w wrote regions words l)

    -- the machine behind both
    abbrev behind : Machine → Val → Machine
    behind m r =
        put_slot (record m { store = put_in m.store r k (slot_at m s) }) s (field_of (object_of x.heap.cells.heap (Some a.body)) k)

    core-swap : (words : List Word) → core_of (record x { heap = new; frames = with_slot x.frames s u; words = words })
        ≡ record { machine = behind (machine_in x) (val_in x (word.Slot slot)); stack = values_of x.heap.cells.heap words; printed = x.printed }
    core-swap words =
        let y = record x { words = words } in
        let m = machine_in x in
        let r = val_in x (word.Slot slot) in
        let machine : Machine → Core = λ m. record { machine = m; stack = values_of x.heap.cells.heap words; printed = x.printed } in
        let shows : val_of new.cells.heap u ≡ field_of (object_of x.heap.cells.heap (Some a.body)) k =
        ap (λ h. val_of h u) heap ∙ written-val x.heap.cells.heap slot k w a.body a.there u
        ∙ sym (field-there x.heap.cells.heap slot k a.body u a.there f) in
        core-slot (record y { heap = new }) s u
        ∙ ap (λ (c : Core). with_machine c (put_slot c.machine s (val_of new.cells.heap u)))
        (core-written y new slot k w a.body a.there heap regions q)
        ∙ ap (λ n. machine (put_slot (record m { store = put_in m.store r k (val_in x w) }) s n)) shows
        ∙ ap (λ n. machine (put_slot (record m { store = put_in m.store r k n }) s (field_of (object_of x.heap.cells.heap (Some a.body)) k)))
        (sym slot-value)

    -- so the instruction did what it says
    act-swap : (words : List Word) (r : Word) → x.words ≡ words ++ r ∷ [] → r ≡ word.Slot slot
        → (at : ℕ) → ActIs (free_act empty at (i.Swap s k)) at (core_of x)
        (core_of (record x { heap = new; frames = with_slot x.frames s u; words = words })) next.On
    act-swap words r ends is at go input =
        let m = machine_in x in
        let c = core_of x in
        let work = work_of c input in
        let then : Val → Seen → Walked = λ r o. go 0 (values_of x.heap.cells.heap words)
        (stored (with_store work (put_in m.store r k (slot_at m s))) s (field_of o k)) in
        let stack : values_of x.heap.cells.heap x.words ≡ val_in x r ∷ values_of x.heap.cells.heap words =
        ap (values_of x.heap.cells.heap) ends ∙ pushed-value x.heap.cells.heap words r in
        ap (λ vs. on_top vs (λ r rest. on_object m.store r (λ o.
        go 0 rest (stored (with_store work (put_in m.store r k (slot_at m s))) s (field_of o k))))) stack
        ∙ ap (λ r. on_object m.store (val_in x r) (then (val_in x r))) is
        ∙ ap (λ (o : Result Seen Trap). elim o [ Ok o ↦ then (val_in x (word.Slot slot)) o | Err t ↦ Traps t ])
        (object-there x.heap.cells.heap slot a.body q a.there)
        ∙ sym (ap (λ (c : Core). go 0 c.stack (work_of c input)) (core-swap words))

    backs-swap : backs (frames_of new.cells.heap (with_slot x.frames s u)) ≡ backs (frames_of x.heap.cells.heap x.frames)
    backs-swap = ap (λ (c : Core). backs c.machine.frames) (core-swap []) ∙ put-backs (machine_in x) s _

-- what all of it comes to
pub record Swapped (x : Whole) (s k : ℕ) (new : Parts) (v : Stack) (words : List Word) : Type 0 where
  pub stands : Stands new v
  pub lead : AllLead new v words
  pub effect : (at : ℕ) → ActIs (free_act empty at (i.Swap s k)) at (core_of x) (core_of (record x { heap = new; frames = v; words = words })) next.On
  pub backs : backs (frames_of new.cells.heap v) ≡ backs (frames_of x.heap.cells.heap x.frames)

module _ (x y : Whole) (e : x ≡ y) (words : List Word) (r : Word) (slot s k : ℕ) (ends : x.words ≡ words ++ r ∷ []) (is : r ≡ word.Slot slot)
    (q : Serials x.heap.cells.heap) (g : Grove x.heap.cells x.heap.regions) (h : Stands x.heap x.frames) (l : AllLead x.heap x.frames x.words)
    (given : Has (i.Swap s k) (core_of y)) (w : Word) (read : w ≡ unwrap_or (slice_get x.frames.slots (x.frames.first + s)) word.Nil) where
  change : Swaps x slot s k
  change = swaps x y e words r slot s k ends is q l given

  pub may-swap : (k < width (body_at x.heap.cells.heap slot))
      × (InActive x.heap.cells.heap x.heap.regions x.frames slot
      (λ n. Comes x.heap.cells.heap x.heap.regions n w × LeadsOut x.heap.cells.heap slot k n) ⊎ IsTemp x.heap.cells.heap slot)
  may-swap = (swap-width x slot s k q g h change w read, swap-place x slot s k q g h change w read)

  pub swapped : (new : Parts) (u : Word) → field_at x.heap.cells.heap slot k ≡ Some u
      → new.cells.heap ≡ with_field x.heap.cells.heap slot k w → new.regions ≡ x.heap.regions → Swapped x s k new (with_slot x.frames s u) words
  swapped new u f heap regions = record {
    stands = stands-swap x slot s k q g h change w read new u f heap regions;
    lead = lead-swap x slot s k q g h change w read new u f heap regions words (lead-front x.heap x.frames x.words words r ends l);
    effect = act-swap x slot s k q g h change w read new u f heap regions words r ends is;
    backs = backs-swap x slot s k q g h change w read new u f heap regions;
  }
