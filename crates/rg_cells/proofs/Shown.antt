-- What places show, place by place.
use Rattle.std.proofs.Common.{◌≡◌, ◌≢◌, ℕ, ◌+◌, Bool, true, false, zero, suc, List, [], ◌∷◌, length, map, Option, Some, None, IsSome}
use Rattle.std.proofs.Common.{is_some, get_or, set, refl, ap, sym, ◌∙◌, subst, arith, cond, if◌then◌else◌}
use Rattle.std.specs.Prelude.{slice_get, option_map, option_and_then}
use Rattle.std.proofs.lemmas.List.{map-set}
use Rattle.std.proofs.lemmas.List.Sums.{sum_by-cons}
use Rattle.std.proofs.lemmas.Option.{same_Some}
use Rattle.rg_base.specs.declared.value.Word.{Word}
use Rattle.rg_base.specs.declared.object.Label.{Label}
use Rattle.rg_cells.specs.declared.cell.Body.{Body}
use Rattle.rg_cells.specs.declared.cell.Cell.{Cell}
use Rattle.rg_cells.specs.declared.cell.Beside.{Beside}
use Rattle.rg_cells.specs.Table.{Heap, Table, body_in, body_at, IsHeld, Made, with_body, with_field, with_label, freed_from}
use Rattle.rg_cells.specs.Table.{one, held_count, high_of, traded, exchanged}
use Rattle.rg_cells.specs.Inner.Layout.{few_of, is_free, index_in, label_in}
use Rattle.rg_cells.specs.Inner.Places.{index_of, list_at, fields_of, body_of, shown, mark_of, link_of, table_of, frees, Links, Labels, Clears}
use Rattle.rg_cells.proofs.Lists.{get-map, got, or-map, or-same, map-kept, within}

pub field-of : (h : Heap) (slot k : ℕ) (w : Word) (b : Body) → body_at h slot ≡ Some b
    → with_field h slot k w ≡ with_body h slot (record b { fields = set b.fields k w })
field-of h slot k w b e = ap (λ (o : Option Body). elim o [ None ↦ h | Some b ↦ with_body h slot (record b { fields = set b.fields k w }) ]) e

pub label-of : (h : Heap) (slot : ℕ) (l : Label) (b : Body) → body_at h slot ≡ Some b
    → with_label h slot l ≡ with_body h slot (record b { label = l })
label-of h slot l b e = ap (λ (o : Option Body). elim o [ None ↦ h | Some b ↦ with_body h slot (record b { label = l }) ]) e

-- what a place shows of a cell
abbrev worn : List Beside → Cell → Option Body
worn bs c = if is_free c.state then None else Some (body_of bs c)

body-told : (bs : List Beside) (cells : List Cell) (slot : ℕ)
    → body_in (get_or (map (shown bs) cells) slot None) ≡ option_and_then (worn bs) (slice_get cells slot)
body-told bs [] slot = refl
body-told bs (c ∷ cells) zero = refl
body-told bs (c ∷ cells) (suc slot) = body-told bs cells slot

-- a held slot has a cell that isn't free
pub held_cell : (cells : List Cell) (bs : List Beside) (next slot : ℕ) → IsHeld (table_of cells bs next).heap slot
    → (c : Cell) × (slice_get cells slot ≡ Some c) × (is_free c.state ≡ false)
held_cell cells bs next slot h =
    let P : Option Body → Type 0 = λ o. IsSome o in
    by_place (slice_get cells slot) (subst P (body-told bs cells slot) h)
  where
    by_state : (b : Bool) (x : Body) → IsSome (if b then None else Some x) → b ≡ false
    by_state true x h = cc
    by_state false x h = refl

    by_place : (o : Option Cell) → IsSome (option_and_then (worn bs) o) → (c : Cell) × (o ≡ Some c) × (is_free c.state ≡ false)
    by_place None h = cc
    by_place (Some c) h = (c, refl, by_state (is_free c.state) (body_of bs c) h)

-- the same of the table that the places are seen as
pub held_in : (cells : List Cell) (bs : List Beside) (next slot : ℕ) (t : Table) → table_of cells bs next ≡ t → IsHeld t.heap slot
    → (c : Cell) × (slice_get cells slot ≡ Some c) × (is_free c.state ≡ false)
held_in cells bs next slot t same h =
    let P : Table → Type 0 = λ z. IsHeld z.heap slot in held_cell cells bs next slot (subst P (sym same) h)

-- a held place that was read
pub held_read : (cells : List Cell) (bs : List Beside) (next slot : ℕ) (t : Table) → table_of cells bs next ≡ t → IsHeld t.heap slot
    → (c : Cell) → c ≡ get_or cells slot c → (slice_get cells slot ≡ Some c) × (is_free c.state ≡ false)
held_read cells bs next slot t same h c is =
    let p = held_in cells bs next slot t same h in
    let e = got cells slot c (within cells slot p.0 p.1) is in
    (e, ap (λ (z : Cell). is_free z.state) (same_Some c p.0 (sym e ∙ p.1)) ∙ p.2)

-- what a held place shows
pub body-held : (cells : List Cell) (bs : List Beside) (next slot : ℕ) (c : Cell) → slice_get cells slot ≡ Some c → is_free c.state ≡ false
    → body_at (table_of cells bs next).heap slot ≡ Some (body_of bs c)
body-held cells bs next slot c e f =
    let s : worn bs c ≡ Some (body_of bs c) = ap (λ b. if b then None else Some (body_of bs c)) f in
    body-told bs cells slot ∙ ap (option_and_then (worn bs)) e ∙ s

-- a free one, or a slot without a place, shows nothing
pub body-free : (cells : List Cell) (bs : List Beside) (next slot : ℕ) (c : Cell) → slice_get cells slot ≡ Some c → is_free c.state ≡ true
    → body_at (table_of cells bs next).heap slot ≡ None
body-free cells bs next slot c e f =
    let s : worn bs c ≡ None = ap (λ b. if b then None else Some (body_of bs c)) f in
    body-told bs cells slot ∙ ap (option_and_then (worn bs)) e ∙ s

pub body-past : (cells : List Cell) (bs : List Beside) (next slot : ℕ) → slice_get cells slot ≡ None
    → body_at (table_of cells bs next).heap slot ≡ None
body-past cells bs next slot e = body-told bs cells slot ∙ ap (option_and_then (worn bs)) e

abbrev body_with : Cell → List Word → Body
body_with c fs = record { class = c.class; label = label_in c.state c.number; serial = c.serial; fields = fs }

-- a cell shows the same where its fields beside do
pub shown-agree : (bs ds : List Beside) (c : Cell) → ((j : ℕ) → index_of c ≡ Some j → list_at ds j ≡ list_at bs j) → shown ds c ≡ shown bs c
shown-agree bs ds c h = by_state (is_free c.state) (index_in c.kinds c.words) h
  where
    by_state : (b : Bool) (o : Option ℕ) → ((j : ℕ) → (if b then None else o) ≡ Some j → list_at ds j ≡ list_at bs j)
        → Some (if b then None else Some (body_with c (elim o [ None ↦ few_of c.kinds c.words | Some j ↦ list_at ds j ])))
        ≡ Some (if b then None else Some (body_with c (elim o [ None ↦ few_of c.kinds c.words | Some j ↦ list_at bs j ])))
    by_state true o h = refl
    by_state false None h = refl
    by_state false (Some j) h = ap (λ fs. Some (Some (body_with c fs))) (h j refl)

abbrev one_if : Bool → ℕ
one_if b = if b then 1 else 0

-- the number of places, and of held ones
pub high-is : (cells : List Cell) (bs : List Beside) (next : ℕ) → high_of (table_of cells bs next).heap ≡ length cells
high-is [] bs next = refl
high-is (c ∷ cells) bs next =
    sum_by-cons (λ o. cond (is_some o) 1 0) (shown bs c) (map (shown bs) cells) ∙ ap (λ n. 1 + n) (high-is cells bs next)
    ∙ omega arith

pub held-is : (cells : List Cell) (bs : List Beside) (next : ℕ) → held_count (table_of cells bs next).heap + frees cells ≡ length cells
held-is [] bs next = refl
held-is (c ∷ cells) bs next = let ih = held-is cells bs next in let l = by_state (is_free c.state) (body_of bs c) in omega (arith, ih, l)
  where
    by_state : (b : Bool) (x : Body) → one (if b then None else Some x) + one_if b ≡ 1
    by_state true x = refl
    by_state false x = refl

-- maps that agree at each element
pub map-agree : {Y : Type 0} (f g : Cell → Y) (xs : List Cell) → ((i : ℕ) (x : Cell) → slice_get xs i ≡ Some x → g x ≡ f x)
    → map g xs ≡ map f xs
map-agree f g [] h = refl
map-agree f g (y ∷ xs) h =
    ap (λ z. z ∷ map g xs) (h 0 y refl) ∙ ap (λ zs. f y ∷ zs) (map-agree f g xs (λ i x q. h (suc i) x q))

-- a list that is written at a place is mapped there to what is wanted, and elsewhere as before by another map
pub map-put : {Y : Type 0} (f g : Cell → Y) (xs : List Cell) (slot : ℕ) (c d : Cell) (v : Y) → slice_get xs slot ≡ Some c → g d ≡ v
    → ((i : ℕ) (x : Cell) → i ≢ slot → slice_get xs i ≡ Some x → g x ≡ f x) → map g (set xs slot d) ≡ set (map f xs) slot v
map-put f g [] slot c d v e h others = refl
map-put f g (y ∷ xs) zero c d v e h others =
    ap (λ z. z ∷ map g xs) h ∙ ap (λ zs. v ∷ zs) (map-agree f g xs (λ i x q. others (suc i) x (omega arith) q))
map-put f g (y ∷ xs) (suc slot) c d v e h others =
    ap (λ z. z ∷ map g (set xs slot d)) (others 0 y (omega arith) refl)
    ∙ ap (λ zs. f y ∷ zs) (map-put f g xs slot c d v e h (λ i x n q. others (suc i) x (λ r. n (omega (arith, r))) q))

-- Of a held cell that is written. A mark:
pub marked : (cells : List Cell) (bs : List Beside) (next slot m : ℕ) (c : Cell) → slice_get cells slot ≡ Some c
    → table_of (set cells slot (record c { mark = m })) bs next ≡ record (table_of cells bs next) { marks = set (map mark_of cells) slot m }
marked cells bs next slot m c e =
    let d : Cell = record c { mark = m } in
    let x : map (shown bs) (set cells slot d) ≡ map (shown bs) cells = map-kept (shown bs) cells slot c d e refl in
    let y : map mark_of (set cells slot d) ≡ set (map mark_of cells) slot m = map-set mark_of cells slot d in
    let z : map link_of (set cells slot d) ≡ map link_of cells = map-kept link_of cells slot c d e refl in
    rw (x, y, z) refl

-- a link:
pub linked : (cells : List Cell) (bs : List Beside) (next slot : ℕ) (l : Option ℕ) (c d : Cell) → slice_get cells slot ≡ Some c → Links c d l
    → table_of (set cells slot d) bs next ≡ record (table_of cells bs next) { links = set (map link_of cells) slot l }
linked cells bs next slot l c d e h =
    let same : d ≡ record c { state = h.0; link = h.1 } = h.2 in
    let s : shown bs d ≡ shown bs c =
    ap (shown bs) same
    ∙ ap (λ b. Some (if b then None else Some (record {
      class = c.class;
      label = label_in h.0 c.number;
      serial = c.serial;
      fields = fields_of bs c;
    }))) h.3
    ∙ ap (λ f. Some (if is_free c.state then None else Some (record {
      class = c.class;
      label = f c.number;
      serial = c.serial;
      fields = fields_of bs c;
    }))) h.4 in
    let m : mark_of d ≡ mark_of c = ap mark_of same in
    let x : map (shown bs) (set cells slot d) ≡ map (shown bs) cells = map-kept (shown bs) cells slot c d e s in
    let y : map mark_of (set cells slot d) ≡ map mark_of cells = map-kept mark_of cells slot c d e m in
    let z : map link_of (set cells slot d) ≡ set (map link_of cells) slot l =
    map-set link_of cells slot d ∙ ap (λ o. set (map link_of cells) slot o) h.5 in
    rw (x, y, z) refl

-- a label:
pub labelled : (cells : List Cell) (bs : List Beside) (next slot : ℕ) (l : Label) (c d : Cell) → slice_get cells slot ≡ Some c
    → is_free c.state ≡ false → Labels c d l
    → table_of (set cells slot d) bs next ≡ record (table_of cells bs next) { heap = with_label (table_of cells bs next).heap slot l }
labelled cells bs next slot l c d e f h =
    let same : d ≡ record c { state = h.0; number = h.1 } = h.2 in
    let b : Body = record (body_of bs c) { label = l } in
    let s : shown bs d ≡ Some (Some b) =
    ap (shown bs) same
    ∙ ap (λ x. Some (if x then None else Some (record {
      class = c.class;
      label = label_in h.0 h.1;
      serial = c.serial;
      fields = fields_of bs c;
    }))) h.3
    ∙ ap (λ y. Some (Some (record { class = c.class; label = y; serial = c.serial; fields = fields_of bs c }))) h.4 in
    let k : link_of d ≡ link_of c = ap link_of same ∙ ap (λ x. if x then Some c.link else None) h.5 in
    let m : mark_of d ≡ mark_of c = ap mark_of same in
    let x : map (shown bs) (set cells slot d) ≡ set (map (shown bs) cells) slot (Some (Some b)) =
    map-set (shown bs) cells slot d ∙ ap (λ o. set (map (shown bs) cells) slot o) s in
    let y : map mark_of (set cells slot d) ≡ map mark_of cells = map-kept mark_of cells slot c d e m in
    let z : map link_of (set cells slot d) ≡ map link_of cells = map-kept link_of cells slot c d e k in
    let q = label-of (table_of cells bs next).heap slot l (body_of bs c) (body-held cells bs next slot c e f) in
    rw (x, y, z, q) refl

-- a field, in the cell itself or beside: the slot's cell shows it, and each other one shows what it showed
pub fielded : (cells new : List Cell) (bs ds : List Beside) (next slot k : ℕ) (w : Word) (c d : Cell) → slice_get cells slot ≡ Some c
    → is_free c.state ≡ false → new ≡ set cells slot d → mark_of d ≡ mark_of c → link_of d ≡ link_of c
    → shown ds d ≡ Some (Some (record (body_of bs c) { fields = set (fields_of bs c) k w }))
    → ((i : ℕ) (x : Cell) → i ≢ slot → slice_get cells i ≡ Some x → shown ds x ≡ shown bs x)
    → table_of new ds next ≡ record (table_of cells bs next) { heap = with_field (table_of cells bs next).heap slot k w }
fielded cells new bs ds next slot k w c d e f is m l s others =
    let b : Body = record (body_of bs c) { fields = set (fields_of bs c) k w } in
    let x : map (shown ds) (set cells slot d) ≡ set (map (shown bs) cells) slot (Some (Some b)) =
    map-put (shown bs) (shown ds) cells slot c d (Some (Some b)) e s others in
    let y : map mark_of (set cells slot d) ≡ map mark_of cells = map-kept mark_of cells slot c d e m in
    let z : map link_of (set cells slot d) ≡ map link_of cells = map-kept link_of cells slot c d e l in
    let q = field-of (table_of cells bs next).heap slot k w (body_of bs c) (body-held cells bs next slot c e f) in
    rw (is, x, y, z, q) refl

-- a cell is made at a slot, and all others show what they showed
pub made : (cells new : List Cell) (bs ds : List Beside) (next later slot : ℕ) (c : Cell) → slice_get new slot ≡ Some c → is_free c.state ≡ false
    → c.mark ≡ 0 → link_of c ≡ None → ((i : ℕ) → i ≢ slot → slice_get new i ≡ slice_get cells i)
    → ((i : ℕ) (x : Cell) → slice_get cells i ≡ Some x → shown ds x ≡ shown bs x)
    → Made (table_of cells bs next) (table_of new ds later) slot (body_of ds c)
made cells new bs ds next later slot c at f m l others agree =
    let same : map (shown ds) cells ≡ map (shown bs) cells = map-agree (shown bs) (shown ds) cells agree in
    record {
      body = body-held new ds later slot c at f;
      others = λ i d. or-same (map (shown ds) new) (map (shown bs) cells) i None
          (get-map (shown ds) new i ∙ ap (option_map (shown ds)) (others i d) ∙ sym (get-map (shown ds) cells i)
          ∙ ap (λ xs. slice_get xs i) same);
      mark = or-map mark_of 0 new slot c at ∙ m;
      marks = λ i d. or-same (map mark_of new) (map mark_of cells) i 0
          (get-map mark_of new i ∙ ap (option_map mark_of) (others i d) ∙ sym (get-map mark_of cells i));
      link = or-map link_of None new slot c at ∙ l;
      links = λ i d. or-same (map link_of new) (map link_of cells) i None
          (get-map link_of new i ∙ ap (option_map link_of) (others i d) ∙ sym (get-map link_of cells i));
    }

-- a cell is given up
pub cleared : (cells : List Cell) (bs : List Beside) (next slot free : ℕ) (d : Cell) → Clears d free
    → table_of (set cells slot d) bs next ≡ freed_from (table_of cells bs next) slot
cleared cells bs next slot free d h =
    let s : shown bs d ≡ Some None = ap (λ b. Some (if b then None else Some (body_of bs d))) h.free in
    let x : map (shown bs) (set cells slot d) ≡ set (map (shown bs) cells) slot (Some None) =
    map-set (shown bs) cells slot d ∙ ap (λ o. set (map (shown bs) cells) slot o) s in
    let y : map mark_of (set cells slot d) ≡ set (map mark_of cells) slot 0 =
    map-set mark_of cells slot d ∙ ap (λ m. set (map mark_of cells) slot m) h.mark in
    let z : map link_of (set cells slot d) ≡ set (map link_of cells) slot None =
    map-set link_of cells slot d ∙ ap (λ o. set (map link_of cells) slot o) h.link in
    rw (x, y, z) refl

-- the cells at two slots change places, and their fields beside stay
pub traded-is : {Y : Type 0} (f : Cell → Y) (z : Y) (cells : List Cell) (a b : ℕ) (c d : Cell) → slice_get cells a ≡ Some c → slice_get cells b ≡ Some d
    → map f (set (set cells a d) b c) ≡ traded z (map f cells) a b
traded-is f z cells a b c d e g =
    map-set f (set cells a d) b c ∙ ap (λ us. set us b (f c)) (map-set f cells a d)
    ∙ ap (λ o. set (set (map f cells) a o) b (f c)) (sym (or-map f z cells b d g))
    ∙ ap (λ o. set (set (map f cells) a (get_or (map f cells) b z)) b o) (sym (or-map f z cells a c e))

pub exchanged-is : (cells : List Cell) (bs ds : List Beside) (next a b : ℕ) (c d : Cell) → slice_get cells a ≡ Some c → slice_get cells b ≡ Some d
    → ((j : ℕ) → list_at ds j ≡ list_at bs j) → table_of (set (set cells a d) b c) ds next ≡ exchanged (table_of cells bs next) a b
exchanged-is cells bs ds next a b c d e f same =
    let new : List Cell = set (set cells a d) b c in
    let k : map (shown ds) new ≡ map (shown bs) new =
    map-agree (shown bs) (shown ds) new (λ i x q. shown-agree bs ds x (λ j r. same j)) in
    let s : map (shown bs) new ≡ traded None (map (shown bs) cells) a b = traded-is (shown bs) None cells a b c d e f in
    let m : map mark_of new ≡ traded 0 (map mark_of cells) a b = traded-is mark_of 0 cells a b c d e f in
    let l : map link_of new ≡ traded None (map link_of cells) a b = traded-is link_of None cells a b c d e f in
    rw (k ∙ s, m, l) refl
