-- A collection that moves what it keeps: where each cell stands behind it, and that all words are led on to there.
use Rattle.std.proofs.Common.{◌≡◌, ◌⊎◌, inl, inr, ℕ, zero, suc, ◌-◌, ◌<◌, List, [], ◌∷◌, ◌++◌, map, take, drop, length, Option, Some, None}
use Rattle.std.proofs.Common.{option_map, slice_get, refl, sym, ap, ◌∙◌, subst, arith}
use Rattle.std.proofs.lemmas.Bool.{cases_eq}
use Rattle.std.proofs.lemmas.List.{map-append, take-append-drop}
use Rattle.std.proofs.lemmas.Option.{none-some, same_Some, slice_get-map, slice_get_cases, slice_get_past, slice_get_within}
use Rattle.rg_base.specs.declared.object.Label.{Label}
use Rattle.rg_base.specs.declared.object.Label.TheVariants.{Region, Temp, Frozen}
use Rattle.rg_base.specs.declared.value.Word.{Word}
use Rattle.rg_base.specs.declared.value.Word.TheVariants as word
use Rattle.rg_base.proofs.Callers.Labels.{frozen-region, slot-same}
use Rattle.rg_cells.specs.declared.cell.Body.{Body}
use Rattle.rg_cells.specs.Table.{Heap, body_at, label_at, field_at, Serials}
use Rattle.rg_regions.specs.Grove.{Grove}
use Rattle.rg_regions.specs.Reach.{LiesIn, Reach, Walk, is_bridge, in_slots, in_temps}
use Rattle.rg_regions.specs.Table.{Record, record_at, Has, HasNumber, IsBridge}
use Rattle.rg_regions.proofs.Callers.Shares.{has-cases, has_place, place_has}
use Rattle.rg_regions.proofs.Callers.Told.{labelled_held, lies_or_not, one_region}
use Rattle.rg_frames.specs.declared.rows.Window.{Window as WindowRow}
use Rattle.rg_frames.specs.Stack.{Stack}
use Rattle.rg_copy.specs.Slid.{Slid, AllBecome, Becomes, CellBecomes, base_of, top_roots, top_slots, top_temps}
use Rattle.rg_heap.specs.Opened.{IsTempOf, IsWindow}
use Rattle.rg_heap.specs.Parts.{Parts}
use Rattle.rg_view.proofs.Callers.Leave.{temp-top}
use Rattle.rg_view.proofs.Callers.Shown.{field-in, get-take, held-body}
use Rattle.rg_machine.specs.Stands.{Stands}
use Rattle.rg_machine.proofs.Callers.Collect.{Active}
use Rattle.rg_machine.proofs.Collect.Effect.{asks-temps}
use Rattle.rg_machine.proofs.New.Grow.{field-held}
use Rattle.rg_machine.proofs.Callers.Shift.{led_on, shift}

-- one number where something holds, and another where it doesn't
abbrev pub pick : {A B : Type 0} → A ⊎ B → (off on : ℕ) → ℕ
pick (inl a) off on = off
pick (inr b) off on = on

pick-on : {B : Type 0} (o : (B → ⊥) ⊎ B) (off on : ℕ) → B → pick o off on ≡ on
pick-on (inl a) off on b = absurd (a b)
pick-on (inr a) off on b = refl

pick-off : {B : Type 0} (o : (B → ⊥) ⊎ B) (off on : ℕ) → (B → ⊥) → pick o off on ≡ off
pick-off (inl a) off on n = refl
pick-off (inr a) off on n = absurd (n a)

-- lists with the same at each place
pub same-lists : {A : Type 0} (xs ys : List A) → ((i : ℕ) → slice_get xs i ≡ slice_get ys i) → xs ≡ ys
same-lists [] [] h = refl
same-lists [] (y ∷ ys) h = let e = h 0 in absurd cc
same-lists (x ∷ xs) [] h = let e = h 0 in absurd cc
same-lists (x ∷ xs) (y ∷ ys) h =
    let e : x ≡ y = same_Some x y (h 0) in
    ap (λ z. z ∷ xs) e ∙ ap (λ zs. y ∷ zs) (same-lists xs ys (λ i. h (suc i)))

-- words that lead to cells which stay where they are
still-words : (f : ℕ → ℕ) (ws : List Word) → ((k y : ℕ) → slice_get ws k ≡ Some (word.Slot y) → f y ≡ y) → map (shift f) ws ≡ ws
still-words f [] h = refl
still-words f (w ∷ ws) h =
    ap (λ u. u ∷ map (shift f) ws) (still w (λ y e. h 0 y (ap Some e)))
    ∙ ap (λ us. w ∷ us) (still-words f ws (λ k y e. h (suc k) y e))
  where
    still : (w : Word) → ((y : ℕ) → w ≡ word.Slot y → f y ≡ y) → shift f w ≡ w
    still word.Nil h = refl
    still (word.Int z) h = refl
    still (word.Bool b) h = refl
    still (word.Slot y) h = ap word.Slot (h y refl)

-- a body by its parts
same-body : (b d : Body) (fields : List Word) → d.class ≡ b.class → d.label ≡ b.label → d.serial ≡ b.serial → d.fields ≡ fields
    → d ≡ record b { fields = fields }
same-body b d fields class label serial is = rw (sym class, sym label, sym serial, sym is) refl

-- what is in reach lies in the region
reach-lies : (h : Heap) (r : ℕ) (rec : Record) (v : Stack) (s : ℕ) → Reach h r (top_roots rec v) s → LiesIn h r s
reach-lies h r rec v s x = by x.0 x.2
  where
    by : (n : ℕ) → Walk h r (top_roots rec v) n s → LiesIn h r s
    by zero w = w.0
    by (suc n) w = w.0

module _ (old : Parts) (v : Stack) (q : Serials old.cells.heap) (g : Grove old.cells old.regions) (st : Stands old v) (a : Active old v)
    (mid : Parts) (frames : Stack) (w : Slid old.cells old.regions a.window.region a.rec v mid.cells mid.regions frames) where
  abbrev h : Heap
  h = old.cells.heap

  abbrev r : ℕ
  r = a.rec.number

  abbrev IsReached : ℕ → Type 0
  IsReached x = Reach h r (top_roots a.rec v) x

  -- a cell of the region in reach, or one outside
  abbrev pub Near : ℕ → Type 0
  Near x = LiesIn h r x → IsReached x

  -- where a cell stands behind the collection
  abbrev pub moves : ℕ → ℕ
  moves x = pick (lies_or_not h r x) x (w.place x)

  pub moves-in : (x : ℕ) → LiesIn h r x → moves x ≡ w.place x
  moves-in x l = pick-on (lies_or_not h r x) x (w.place x) l

  pub moves-off : (x : ℕ) → (LiesIn h r x → ⊥) → moves x ≡ x
  moves-off x off = pick-off (lies_or_not h r x) x (w.place x) off

  pub lies : (x : ℕ) → IsReached x → LiesIn h r x
  lies x n = reach-lies h r a.rec v x n

  -- Bridges

  has : HasNumber old.regions a.window.region r
  has = ap (option_map (λ (r : Record). r.number)) a.known

  sole : (i : ℕ) (u : WindowRow) → IsWindow v i u → HasNumber old.regions u.region r → i ≡ length v.windows - 1
  sole i u e n =
      st.opened.differ i (length v.windows - 1) u a.window e a.is (g.numbers u.region a.window.region r n has)

  bridge-is : (x : ℕ) → IsBridge old.regions r x → a.rec.bridge ≡ Some x
  bridge-is x b =
      let number : HasNumber old.regions b.0 r = ap (option_map (λ (r : Record). r.number)) b.2 ∙ ap Some b.3 in
      let key : b.0 ≡ a.window.region = g.numbers b.0 a.window.region r number has in
      let rec : b.1 ≡ a.rec = same_Some b.1 a.rec (sym b.2 ∙ ap (record_at old.regions) key ∙ a.known) in
      ap (λ (r : Record). r.bridge) (sym rec) ∙ b.4

  near-bridge : (x : ℕ) → IsBridge old.regions r x → IsReached x
  near-bridge x b =
      let e = bridge-is x b in (0, omega arith, (g.bridges a.window.region x a.rec a.known e, is_bridge e))

  -- a bridge stays where it is
  pub moves-bridge : (x n : ℕ) → LiesIn h n x → IsBridge old.regions n x → moves x ≡ x
  moves-bridge x n l b = elim (lies_or_not h r x) [
    | inl off ↦ moves-off x off
    | inr i ↦
        let same : n ≡ r = one_region h x n r l i in
        moves-in x i ∙ w.bridge x (bridge-is x (subst (λ n. IsBridge old.regions n x) same b))
  ]

  -- Words

  becomes-shift : (u now : Word) → Becomes h r (top_roots a.rec v) w.place u now → ((y : ℕ) → u ≡ word.Slot y → Near y) → now ≡ shift moves u
  becomes-shift word.Nil now b near = b.stays (λ y e n. cc)
  becomes-shift (word.Int z) now b near = b.stays (λ y e n. cc)
  becomes-shift (word.Bool t) now b near = b.stays (λ y e n. cc)
  becomes-shift (word.Slot y) now b near = elim (lies_or_not h r y) [
    | inl off ↦
        b.stays (λ x e n. off (subst (λ z. LiesIn h r z) (sym (slot-same y x e)) (lies x n)))
        ∙ ap word.Slot (sym (moves-off y off))
    | inr i ↦ b.moved y refl (near y refl i) ∙ ap word.Slot (sym (moves-in y i))
  ]

  all-shift : (olds news : List Word) → AllBecome h r (top_roots a.rec v) w.place olds news
      → ((k y : ℕ) → slice_get olds k ≡ Some (word.Slot y) → Near y) → news ≡ map (shift moves) olds
  all-shift olds news b near = same-lists news (map (shift moves) olds) (λ k. elim (slice_get_cases olds k).1 [
    | inl x ↦ elim (slice_get_cases news k).1 [
      | inl y ↦
          y.2 ∙ ap Some (becomes-shift x.0 y.0 (b.each k x.0 y.0 x.2 y.2) (λ z e. near k z (x.2 ∙ ap Some e)))
          ∙ sym (slice_get-map (shift moves) olds k ∙ ap (option_map (shift moves)) x.2)
      | inr y ↦ let many = b.as_many in let within = x.1 in let past = y.0 in absurd (omega (arith, many, within, past))
    ]
    | inr x ↦
        let many = b.as_many in
        let past = x.0 in
        slice_get_past news k (omega (arith, many, past))
        ∙ sym (slice_get-map (shift moves) olds k ∙ ap (option_map (shift moves)) x.1)
  ])

  -- Where words lead

  -- a cell that is neither of the region nor a temporary of the top window leads into the region by the bridge alone
  field-bridge : (s k y : ℕ) → (LiesIn h r s → ⊥) → (Has (top_temps v) s → ⊥) → field_at h s k ≡ Some (word.Slot y) → LiesIn h r y
      → IsBridge old.regions r y
  field-bridge s k y off none e l =
      let b = held-body h s (field-held h s k (word.Slot y) e) in
      by b.0.label (ap (option_map (λ (b : Body). b.label)) b.1)
    where
      by : (x : Label) → label_at h s ≡ Some x → IsBridge old.regions r y
      by (Region p) is = elim (g.fields p s k y is e) [
        | inl frozen ↦ absurd (frozen-region r (sym frozen ∙ l))
        | inr more ↦ elim more [
          | inl own ↦ absurd (off (is ∙ ap (λ n. Some (Region n)) (one_region h y p r own l)))
          | inr z ↦ subst (λ n. IsBridge old.regions n y) (one_region h y z.0 r z.2 l) z.3
        ]
      ]
      by (Temp m) is =
          let t = st.temps s m is in
          let of_window = st.opened.all_temps t.0 s t.1 t.2 (is ∙ ap (λ n. Some (Temp n)) (sym t.3)) in
          elim (cases_eq t.0 (length v.windows - 1)) [
            | inl last ↦
                let x = temp-top old v g st.opened s (subst (λ i. IsTempOf v i s) last of_window) in
                absurd (none (place_has (top_temps v) s x.0 x.1))
            | inr d ↦ st.fields t.0 s k y r t.1 t.2 of_window e l (λ j u at n.
                let last = sole j u at n in
                let within = slice_get_within v.windows t.0 t.1 t.2 in
                omega (arith, last, within, d))
          ]
      by Frozen is = absurd (frozen-region r (sym (g.frozen s k y is e) ∙ l))

  -- what is near leads to what is near
  pub near-field : (s k y : ℕ) → Near s → field_at h s k ≡ Some (word.Slot y) → Near y
  near-field s k y near e l = elim (lies_or_not h r s) [
    | inr i ↦ w.closed s k y (near i) e l
    | inl off ↦ elim (has-cases (top_temps v) s) [
      | inl n ↦ let x = has_place (top_temps v) s n in (0, omega arith, (l, in_temps x.0 k s x.1 e))
      | inr n ↦ near-bridge y (field-bridge s k y off n e l)
    ]
  ]

  near-fields : (s : ℕ) (b : Body) → body_at h s ≡ Some b → Near s → (k y : ℕ) → slice_get b.fields k ≡ Some (word.Slot y) → Near y
  near-fields s b e near k y is = near-field s k y near (field-in h s k b e ∙ is)

  cell-shift : (b d : Body) → CellBecomes h r (top_roots a.rec v) w.place b d
      → ((k y : ℕ) → slice_get b.fields k ≡ Some (word.Slot y) → Near y) → d ≡ led_on moves b
  cell-shift b d c near =
      same-body b d (map (shift moves) b.fields) c.class c.label c.serial (all-shift b.fields d.fields c.fields near)

  -- Cells

  -- a cell that is near stands at its new place
  pub moves-on : (s : ℕ) (b : Body) → body_at h s ≡ Some b → Near s → body_at mid.cells.heap (moves s) ≡ Some (led_on moves b)
  moves-on s b e near = elim (lies_or_not h r s) [
    | inr i ↦
        let d = w.stands s b (near i) e in
        ap (body_at mid.cells.heap) (moves-in s i) ∙ d.1 ∙ ap Some (cell-shift b d.0 d.2 (near-fields s b e near))
    | inl off ↦ elim (has-cases (top_temps v) s) [
      | inl n ↦
          let d = w.temps s b n off e in
          ap (body_at mid.cells.heap) (moves-off s off) ∙ d.1 ∙ ap Some (cell-shift b d.0 d.2 (near-fields s b e near))
      | inr n ↦
          ap (body_at mid.cells.heap) (moves-off s off) ∙ w.others s n off ∙ e
          ∙ ap Some (sym (ap (λ ws. record b { fields = ws }) (still-words moves b.fields (λ k y is. still s k y off n (field-in h s k b e ∙ is)))))
    ]
  ]
    where
      still : (s k y : ℕ) → (LiesIn h r s → ⊥) → (Has (top_temps v) s → ⊥) → field_at h s k ≡ Some (word.Slot y) → moves y ≡ y
      still s k y off n e = elim (lies_or_not h r y) [
        | inl out ↦ moves-off y out
        | inr i ↦ moves-bridge y r i (field-bridge s k y off n e i)
      ]

  -- and no other one stands there
  pub moves-back : (s : ℕ) (d : Body) → body_at mid.cells.heap s ≡ Some d → (x : ℕ) × (b : Body) × (body_at h x ≡ Some b) × Near x × (moves x ≡ s)
  moves-back s d e = elim (lies_or_not mid.cells.heap r s) [
    | inr i ↦
        let x = w.only s i in
        let l = lies x.0 x.1 in
        let b = held-body h x.0 (labelled_held h x.0 (Region r) l) in
        (x.0, b.0, b.1, λ l. x.1, moves-in x.0 l ∙ x.2)
    | inl out ↦ elim (lies_or_not h r s) [
      | inr i ↦ absurd (none-some d (sym (w.gone s i out) ∙ e))
      | inl off ↦ elim (has-cases (top_temps v) s) [
        | inl n ↦
            let i = has_place (top_temps v) s n in
            let b = held-body h s (asks-temps old v g st i.0 s i.1) in
            (s, b.0, b.1, λ l. absurd (off l), moves-off s off)
        | inr n ↦ (s, d, sym (w.others s n off) ∙ e, λ l. absurd (off l), moves-off s off)
      ]
    ]
  ]

  -- Frames

  pub base-is : base_of v ≡ a.window.base
  base-is = ap (λ (o : Option WindowRow). elim o [ None ↦ 0 | Some w ↦ w.base ]) a.is

  -- a slot in front of the window's base leads into the region by the bridge alone
  lower-still : (j y : ℕ) → j < base_of v → slice_get v.slots j ≡ Some (word.Slot y) → moves y ≡ y
  lower-still j y lt e = elim (lies_or_not h r y) [
    | inl off ↦ moves-off y off
    | inr i ↦ moves-bridge y r i (st.slots j y r e i (λ k u at n.
        let last = sole k u at n in
        let same : u ≡ a.window = same_Some u a.window (sym at ∙ ap (slice_get v.windows) last ∙ a.is) in
        let base : u.base ≡ a.window.base = ap (λ (w : WindowRow). w.base) same in
        omega (arith, lt, base, base-is)))
  ]

  taken-below : {A : Type 0} (n k : ℕ) (xs : List A) (x : A) → slice_get (take n xs) k ≡ Some x → k < n
  taken-below zero k xs x e = absurd (none-some x e)
  taken-below (suc n) k [] x e = absurd (none-some x e)
  taken-below (suc n) zero (y ∷ xs) x e = omega arith
  taken-below (suc n) (suc k) (y ∷ xs) x e = let lt = taken-below n k xs x e in omega (arith, lt)

  pub moves-slots : frames.slots ≡ map (shift moves) v.slots
  moves-slots =
      let n = base_of v in
      let lower : map (shift moves) (take n v.slots) ≡ take n v.slots =
      still-words moves (take n v.slots)
      (λ k y e. lower-still k y (taken-below n k v.slots (word.Slot y) e) (get-take n k v.slots (word.Slot y) e)) in
      let upper : drop n frames.slots ≡ map (shift moves) (top_slots v) =
      all-shift (top_slots v) (drop n frames.slots) w.slots (λ k y e l. (0, omega arith, (l, in_slots k e))) in
      sym (take-append-drop n frames.slots)
      ∙ ap (λ ws. ws ++ drop n frames.slots) (w.beneath ∙ sym lower)
      ∙ ap (λ ws. map (shift moves) (take n v.slots) ++ ws) upper
      ∙ sym (map-append (shift moves) (take n v.slots) (drop n v.slots))
      ∙ ap (map (shift moves)) (take-append-drop n v.slots)

  pub moves-frames : frames ≡ record v { slots = map (shift moves) v.slots }
  moves-frames = w.stack ∙ ap (λ ws. record v { slots = ws }) moves-slots
