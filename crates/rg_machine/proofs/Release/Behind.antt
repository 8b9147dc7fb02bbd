-- What stands behind a release: nothing that stays leads into a region that went.
use Rattle.std.proofs.Common.{◌≡◌, ◌≢◌, ◌≤◌, ◌<◌, ◌==◌, ◌⊎◌, inl, inr, ℕ, zero, suc, ◌+◌, ◌-◌, true, List, [], ◌∷◌}
use Rattle.std.proofs.Common.{map, length, take, drop, reverse, Option, Some, None, option_map, slice_get, slice_index_or}
use Rattle.std.proofs.Common.{refl, sym, ap, ◌∙◌, subst, arith}
use Rattle.std.specs.List.{count_by}
use Rattle.std.proofs.lemmas.Bool.{false≢true, false_from_ne_true as never, cases_lt as order}
use Rattle.std.proofs.lemmas.List.{length-take-le, get_or_past}
use Rattle.std.proofs.lemmas.List.Sums.{sum_by-cons}
use Rattle.std.proofs.lemmas.Option.{none-some, same_Some, slice_get-map, slice_get_within}
use Rattle.rg_base.specs.declared.object.Label.TheVariants.{Region, Temp}
use Rattle.rg_base.specs.declared.value.Val.{Val}
use Rattle.rg_base.specs.declared.value.Word.{Word}
use Rattle.rg_base.specs.declared.value.Word.TheVariants as word
use Rattle.rg_base.proofs.Callers.Labels.{region-same, temp-region}
use Rattle.rg_base.proofs.Callers.Lists.{there}
use Rattle.rg_sound.proofs.Owners.Owner.{get-take-within}
use Rattle.rg_cells.specs.declared.cell.Body.{Body}
use Rattle.rg_cells.specs.Table.{Heap, label_at, field_at, Serials, IsHeld}
use Rattle.rg_regions.specs.Table.{InTable}
use Rattle.rg_regions.specs.Reach.{LiesIn}
use Rattle.rg_regions.specs.Grove.{Grove, Parent, Above, Below, direct, further}
use Rattle.rg_frames.specs.declared.rows.Frame.{Frame as FrameRow}
use Rattle.rg_frames.specs.declared.rows.Window.{Window as WindowRow}
use Rattle.rg_frames.specs.Stack.{Stack}
use Rattle.rg_stack.specs.Machine.{Frame, Machine}
use Rattle.rg_stack.specs.Effects.{beneath_by_labels}
use Rattle.rg_stack.specs.Needs.{slots_into, fields_into, places_into, owned_once, loose, closed_into}
use Rattle.rg_stack.specs.Labels.{is_open, is_into}
use Rattle.rg_heap.specs.Parts.{Parts}
use Rattle.rg_heap.specs.Answers.{val_of, IsClosed}
use Rattle.rg_heap.specs.Ends.{Released, NoCell}
use Rattle.rg_heap.specs.Opened.{Opened, IsWindow, IsTempOf}
use Rattle.rg_held.proofs.Lists.{count-one as count-hit}
use Rattle.rg_view.specs.Lain.{Nested}
use Rattle.rg_view.specs.Links.{BelowSome}
use Rattle.rg_view.specs.Names.{Names}
use Rattle.rg_view.specs.View.{store_of, frames_of, windows_of, managers_of, machine_of}
use Rattle.rg_view.proofs.Callers.Gone.After.{no-temps}
use Rattle.rg_view.proofs.Callers.Gone.Beneath.{beneath-names}
use Rattle.rg_view.proofs.Callers.Frame.{frames_from}
use Rattle.rg_view.proofs.Callers.Gone.Records.{released-numbers}
use Rattle.rg_view.proofs.Callers.Label.{one-is, one-there}
use Rattle.rg_view.proofs.Callers.Need.{keyed, places-most, field-counts, closed-not-above}
use Rattle.rg_view.proofs.Callers.Once.{outside-once, outside-counts}
use Rattle.rg_view.proofs.Callers.Open.{closed-not-open, closed-there, not-open-closed, into-there}
use Rattle.rg_view.proofs.Callers.Shown.{get-drop}
use Rattle.rg_view.proofs.Callers.Table.{fewer-numbers}
use Rattle.rg_machine.proofs.Release.Stays.{Stays, stays}
use Rattle.rg_machine.specs.Stands.{BeginsBehind, Leads, OpensLater, Stands}

is-zero : (n : ℕ) → (n == 0) ≡ true → n ≡ 0
is-zero n e = grind (arith, e)

-- no place leads into the closed region of a value that is loose
pub none-loose : (m : Machine) (v : Val) (r : ℕ) → closed_into m v ≡ Some r → loose m v ≡ true → places_into m r ≡ 0
none-loose m v r c free =
    is-zero (places_into m r) (sym (ap (λ (x : Option ℕ). elim x [ None ↦ true | Some n ↦ places_into m n == 0 ]) c) ∙ free)

-- a slot of any frame that leads into a region is counted
pub slots-count : (h : Heap) (r j : ℕ) (w : Word) (slots : List Word) (first : ℕ) (fs : List FrameRow) → Nested first (length slots) fs
    → slice_get slots j ≡ Some w → is_into (store_of h) r (val_of h w) ≡ true → 1 ≤ slots_into (store_of h) r (frames_from h slots first fs)
slots-count h r j w slots first [] n e is = let within = slice_get_within slots j w e in absurd (omega (arith, n, within))
slots-count h r j w slots first (f ∷ fs) n e is =
    let counts : Frame → ℕ = λ f. count_by (is_into (store_of h) r) f.slots in
    let top : Frame = record { slots = map (val_of h) (drop first slots); back = f.back } in
    let all = sum_by-cons counts top (frames_from h (take first slots) f.below fs) in
    elim (order j first) [
      | inl lt ↦
          let P : ℕ → Type 0 = λ n. Nested f.below n fs in
          let under = slots-count h r j w (take first slots) f.below fs (subst P (sym (length-take-le first slots n.0)) n.1)
          (get-take-within first slots j lt ∙ e) is in
          omega (arith, all, under)
      | inr le ↦
          let back : first + (j - first) ≡ j = omega (arith, le) in
          let one = count-hit (is_into (store_of h) r) (map (val_of h) (drop first slots)) (j - first) (val_of h w)
          (slice_get-map (val_of h) (drop first slots) (j - first)
          ∙ ap (option_map (val_of h)) (get-drop first (j - first) slots ∙ ap (slice_get slots) back ∙ e)) is in
          omega (arith, all, one)
    ]

-- Temporaries

index-at : (xs : List ℕ) (k n d : ℕ) → slice_get xs k ≡ Some n → slice_index_or xs k d ≡ n
index-at [] k n d e = absurd (none-some n e)
index-at (x ∷ xs) zero n d e = same_Some x n e
index-at (x ∷ xs) (suc k) n d e = index-at xs k n d e

-- where the temporaries of a window begin, and where they end
abbrev begins-at : List ℕ → ℕ → ℕ
begins-at marks k = slice_index_or marks k 0

abbrev ends-at : List ℕ → (most k : ℕ) → ℕ
ends-at marks most k = slice_index_or marks (k + 1) most

-- each temporary is one of some window
find-mark : (marks : List ℕ) (most j : ℕ) → ((n : ℕ) → slice_get marks 0 ≡ Some n → n ≡ 0) → (k : ℕ) → k < length marks → j < ends-at marks most k
    → (i : ℕ) × (i < length marks) × (begins-at marks i ≤ j) × (j < ends-at marks most i)
find-mark marks most j zeroth zero lt within = elim (order j (begins-at marks 0)) [
  | inr le ↦ (0, lt, le, within)
  | inl up ↦
      (let n = there marks 0 lt in
      let at = index-at marks 0 n.0 0 n.1 in
      let none = zeroth n.0 n.1 in
      absurd (omega (arith, up, at, none)))
]
find-mark marks most j zeroth (suc k) lt within = elim (order j (begins-at marks (suc k))) [
  | inr le ↦ (suc k, lt, le, within)
  | inl up ↦
      (let n = there marks (suc k) lt in
      let at = index-at marks (suc k) n.0 0 n.1 in
      let on : k + 1 ≡ suc k = omega arith in
      let end : ends-at marks most k ≡ n.0 = ap (λ i. slice_index_or marks i most) on ∙ index-at marks (suc k) n.0 most n.1 in
      find-mark marks most j zeroth k (omega (arith, lt)) (omega (arith, up, at, end)))
]

temp-at : (temps : List ℕ) (begin stop j s : ℕ) → begin ≤ j → j < stop → slice_get temps j ≡ Some s
    → slice_get (drop begin (take stop temps)) (j - begin) ≡ Some s
temp-at temps begin stop j s le lt e =
    let back : begin + (j - begin) ≡ j = omega (arith, le) in
    get-drop begin (j - begin) (take stop temps) ∙ ap (slice_get (take stop temps)) back ∙ get-take-within stop temps j lt ∙ e

pub temp-window : (v : Stack) → length v.marks ≡ length v.windows → 0 < length v.windows
    → ((n : ℕ) → slice_get v.marks 0 ≡ Some n → n ≡ 0) → (j s : ℕ) → slice_get v.temps j ≡ Some s
    → (i : ℕ) × (w : WindowRow) × IsWindow v i w × IsTempOf v i s
temp-window v many some zeroth j s e =
    let within = slice_get_within v.temps j s e in
    let last : length v.marks - 1 + 1 ≡ length v.marks = omega (arith, many, some) in
    let end : ends-at v.marks (length v.temps) (length v.marks - 1) ≡ length v.temps =
    get_or_past v.marks (length v.marks - 1 + 1) (length v.temps) (omega (arith, last)) in
    let a = find-mark v.marks (length v.temps) j zeroth (length v.marks - 1) (omega (arith, many, some)) (omega (arith, within, end)) in
    let le = a.2 in
    let lt = a.1 in
    let w = there v.windows a.0 (omega (arith, lt, many)) in (
      a.0,
      w.0,
      w.1,
      (j - begins-at v.marks a.0, temp-at v.temps (begins-at v.marks a.0) (ends-at v.marks (length v.temps) a.0) j s le a.3 e),
    )

-- the region that leads into one at the end of a way
pub last-parent : (h : Heap) {t r : ℕ} → Above h t r → (p : ℕ) × Parent h p r
last-parent h (direct {p = p} {r = r} a) = (p, a)
last-parent h (further {p = p} {q = m} {r = r} x a) = (m, a)

-- what went, told by another test that the same regions pass
pub released-as : (old new : Parts) (A B Cell : ℕ → Type 0) → ((r : ℕ) → B r → A r) → ((r : ℕ) → A r → B r) → Released old new A Cell
    → Released old new B Cell
released-as old new A B Cell back on rel = record {
  freed = λ r x b l. rel.freed r x (back r b) l;
  ended = rel.ended;
  cells = λ x out keep. rel.cells x (λ r a l. out r (on r a) l) keep;
  removed = λ key r b h. rel.removed key r (back r b) h;
  records = λ key out. rel.records key (λ r a h. out r (on r a) h);
  serials = rel.serials;
  high = rel.high;
  numbers = rel.numbers;
}

module _ (old : Parts) (v : Stack) (at : ℕ) (q : Serials old.cells.heap) (g : Grove old.cells old.regions) (s : Stands old v) where
  -- at most one place leads into a closed region
  pub most-one : (r : ℕ) → IsClosed old.regions v r → owned_once (machine_of old v at) ≡ true → places_into (machine_of old v at) r ≤ 1
  most-one r c once = places-most old v at q g s.opened r s.numbers c once

  -- a slot that leads into a region is counted
  pub slot-counts-one : (r j x : ℕ) → slice_get v.slots j ≡ Some (word.Slot x) → LiesIn old.cells.heap r x
      → 1 ≤ slots_into (store_of old.cells.heap) r (frames_of old.cells.heap v)
  slot-counts-one r j x e lies =
      slots-count old.cells.heap r j (word.Slot x) v.slots v.first (reverse v.frames) s.lain e (into-there old.cells.heap r x q lies)

  -- a region that isn't open is closed
  pub shut-closed : (r : ℕ) → (is_open (windows_of old.regions v) r ≡ true → ⊥) → InTable old.regions r → IsClosed old.regions v r
  shut-closed r shut known =
      not-open-closed old.regions v (keyed old v at q g s.opened) r known (never (is_open (windows_of old.regions v) r) shut)

  -- the field by which another region does is counted
  pub parent-counts : (p r : ℕ) → Parent old.cells.heap p r
      → 1 ≤ fields_into (store_of old.cells.heap) (windows_of old.regions v) r (store_of old.cells.heap)
  parent-counts p r a = field-counts old v at q g s.opened r p a.from a.field a.to a.differ a.lies a.leads a.child_has

  module _ (new : Parts) (top : ℕ) (c : IsClosed old.regions v top) (once : owned_once (machine_of old v at) ≡ true)
      (none : places_into (machine_of old v at) top ≡ 0) (rel : Released old new (Below old.cells.heap old.regions top) NoCell)
      (gn : Grove new.cells new.regions) where
    abbrev pub tops : List ℕ
    tops = top ∷ []

    -- what goes
    abbrev pub Goes : ℕ → Type 0
    Goes r = BelowSome old.cells.heap old.regions tops r

    to-top : (r : ℕ) → Goes r → Below old.cells.heap old.regions top r
    to-top r b = subst (λ x. Below old.cells.heap old.regions x r) (sym (one-is top b.0 b.1)) b.2

    from-top : (r : ℕ) → Below old.cells.heap old.regions top r → Goes r
    from-top r b = (top, one-there top top refl, b)

    pub released : Released old new Goes NoCell
    released = released-as old new (Below old.cells.heap old.regions top) Goes NoCell to-top from-top rel

    abbrev pub regions : List ℕ
    regions = beneath_by_labels (store_of old.cells.heap) (length (managers_of old.regions)) tops

    pub names : Names regions Goes
    names = beneath-names old q g s.numbers tops

    -- what goes is closed
    goes-closed : (r : ℕ) → Goes r → is_open (windows_of old.regions v) r ≡ true → ⊥
    goes-closed r b e = elim (to-top r b) [
      | inl is ↦ false≢true (sym (closed-not-open old.regions v (keyed old v at q g s.opened) top c)
          ∙ ap (is_open (windows_of old.regions v)) (sym is) ∙ e)
      | inr a ↦ closed-not-above old v at q g s.opened top r c e a.1
    ]

    -- beneath the topmost one, a region is led into from another one
    owner : (r : ℕ) → Goes r → (r ≡ top) ⊎ ((p : ℕ) × Parent old.cells.heap p r)
    owner r b = elim (to-top r b) [
      | inl is ↦ inl is
      | inr a ↦ inr (last-parent old.cells.heap a.1)
    ]

    -- no slot leads there
    pub no-slot : (j x r : ℕ) → slice_get v.slots j ≡ Some (word.Slot x) → LiesIn old.cells.heap r x → Goes r → ⊥
    no-slot j x r e lies b =
        let one = slot-counts-one r j x e lies in
        elim (owner r b) [
          | inl is ↦ (let zero : places_into (machine_of old v at) r ≡ 0 = ap (places_into (machine_of old v at)) is ∙ none in
              absurd (omega (arith, one, zero)))
          | inr a ↦ (let two = parent-counts a.0 r a.1 in
              let most = most-one r (shut-closed r (goes-closed r b) (g.labels r x lies)) once in absurd (omega (arith, one, two, most)))
        ]

    -- nor does a field of a temporary
    pub no-field : (x n k to r : ℕ) → label_at old.cells.heap x ≡ Some (Temp n) → field_at old.cells.heap x k ≡ Some (word.Slot to)
        → LiesIn old.cells.heap r to → Goes r → ⊥
    no-field x n k to r label e lies b =
        let away : LiesIn old.cells.heap r x → ⊥ = λ l. temp-region n r (sym label ∙ l) in
        elim (owner r b) [
          | inl is ↦ (let one = outside-counts old v at q g s.opened s.temps r x k to away e lies in
              let zero : places_into (machine_of old v at) r ≡ 0 = ap (places_into (machine_of old v at)) is ∙ none in
              absurd (omega (arith, one, zero)))
          | inr a ↦
              (let once = outside-once old v at q g s.opened s.temps s.numbers once in
              let same = once r a.1.from a.1.field a.1.to x k to (shut-closed r (goes-closed r b) (g.labels r to lies))
              (λ l. a.1.differ (region-same a.0 r (sym a.1.lies ∙ l))) a.1.leads a.1.child_has away e lies in
              temp-region n a.0 (sym label ∙ sym (ap (label_at old.cells.heap) same.0) ∙ a.1.lies))
        ]

    -- nor does a word that leads into no region in which a place does, and not into the topmost
    pub no-word : (x r : ℕ) → LiesIn old.cells.heap r x → loose (machine_of old v at) (val_of old.cells.heap (word.Slot x)) ≡ true
        → r ≢ top → Goes r → ⊥
    no-word x r lies free d b = elim (owner r b) [
      | inl is ↦ d is
      | inr a ↦
          (let one = parent-counts a.0 r a.1 in
          let zero : places_into (machine_of old v at) r ≡ 0 = none-loose (machine_of old v at) (val_of old.cells.heap (word.Slot x)) r
          (closed-there old v at q (keyed old v at q g s.opened) g.labels x r lies (shut-closed r (goes-closed r b) (g.labels r x lies))) free in
          absurd (omega (arith, one, zero)))
    ]

    -- What stays

    stay : Stays old new v Goes NoCell
    stay = stays old new v at q g s tops None NoCell (no-temps old.cells.heap) released goes-closed

    held-stays : (x : ℕ) → ((r : ℕ) → Goes r → LiesIn old.cells.heap r x → ⊥) → IsHeld old.cells.heap x → IsHeld new.cells.heap x
    held-stays x out = stay.held x (λ no. absurd no) out

    opened : Opened new v
    opened =
        let o = s.opened in
        record {
          as_many = o.as_many;
          first = λ w e. stay.window 0 w 0 e (o.first w e);
          some = o.some;
          known = λ i w e. let n = o.known i w e in (n.0, stay.window i w n.0 e n.1);
          differ = o.differ;
          temps = λ i x w e t.
              let label = o.temps i x w e t in
              ap (option_map (λ (b : Body). b.label))
              (released.cells x (λ r b l. temp-region w.number r (sym label ∙ l)) (λ no. absurd no)) ∙ label;
          all_temps = λ i x w e l. o.all_temps i x w e (stay.label x (Temp w.number) l);
          once = o.once;
          slots = λ j x e. held-stays x (λ r b l. no-slot j x r e l b) (o.slots j x e);
          lead = λ j x e k to f.
              let t = temp-of j x e in
              let was = stay.field x k (word.Slot to) f in
              held-stays to (λ r b l. no-field x t.0 k to r t.1 was l b) (o.lead j x e k to was);
          parents = λ i w n p e h a.
              let u = o.parents i w n p e (stay.key w.region n h) (stay.parent p n a) in
              (u.0, u.1, u.2, u.3, stay.window u.0 u.1 p u.3 u.4);
        }
      where
        temp-of : (j x : ℕ) → slice_get v.temps j ≡ Some x → (n : ℕ) × (label_at old.cells.heap x ≡ Some (Temp n))
        temp-of j x e =
            let t = temp-window v s.opened.as_many s.opened.some s.first_mark j x e in (t.1.number, s.opened.temps t.0 x t.1 t.2 t.3)

    -- what a window begins behind, it began behind
    behind-was : (j r : ℕ) → BeginsBehind new.regions v j r → BeginsBehind old.regions v j r
    behind-was j r b i w e h = b i w e (stay.window i w r e h)

    later-was : (j r : ℕ) → OpensLater new.regions v j r → OpensLater old.regions v j r
    later-was j r b i w e h = b i w e (stay.window i w r e h)

    pub stands-released : Stands new v
    stands-released = record {
      opened = opened;
      lain = s.lain;
      some = s.some;
      numbers =
          fewer-numbers old.regions new.regions (released-numbers old new Goes NoCell regions released names) s.numbers;
      bridges = λ key r e. s.bridges key r (stay.was key r e);
      window_numbers = s.window_numbers;
      windows_next = s.windows_next;
      temps = λ x n e. s.temps x n (stay.label x (Temp n) e);
      slots = λ j x r e l b. stay.bridge r x l (s.slots j x r e (stay.label x (Region r) l) (behind-was j r b));
      fields = λ i x k to r w e t f l b.
          stay.bridge r to l (s.fields i x k to r w e t (stay.field x k (word.Slot to) f) (stay.label to (Region r) l) (later-was i r b));
      first_mark = s.first_mark;
    }

    -- a word that leads into no region that goes still leads where it may
    pub leads-released : (w : Word) → Leads old v w
        → ((x r : ℕ) → w ≡ word.Slot x → LiesIn old.cells.heap r x → Goes r → ⊥) → Leads new v w
    leads-released w l out = record {
      held = λ x is. held-stays x (λ r b lies. out x r is lies b) (l.held x is);
      bridge = λ x r is lies closed.
          stay.bridge r x lies (l.bridge x r is (stay.label x (Region r) lies) (closed.0, stay.key closed.0 r closed.1, closed.2));
    }
