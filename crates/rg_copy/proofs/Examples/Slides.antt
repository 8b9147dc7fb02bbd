-- A collection that moves cells, on a small heap, and one that the definition refuses.
use Rattle.std.proofs.Common.{◌≡◌, ◌≢◌, ℕ, ◌<◌, zero, suc, List, [], ◌∷◌, Option, Some, None, refl, ap, sym, ◌∙◌, subst}
use Rattle.std.proofs.Common.{arith, ◌⊎◌, inl, inr, slice_get}
use Rattle.std.proofs.lemmas.Option.{same_Some}
use Rattle.rg_base.specs.declared.object.Label.TheVariants.{Region}
use Rattle.rg_base.specs.declared.words.Manager.TheVariants.{Trace}
use Rattle.rg_base.specs.declared.value.Word.{Word}
use Rattle.rg_base.specs.declared.value.Word.TheVariants.{Slot}
use Rattle.rg_cells.specs.declared.cell.Body.{Body}
use Rattle.rg_cells.specs.Table.{Table, body_at, field_at, mark_at}
use Rattle.rg_frames.specs.Stack.{Stack}
use Rattle.rg_regions.specs.Table.{Record, RegionTable, record_at}
use Rattle.rg_regions.specs.Reach.{LiesIn, Walk, Reach, Stands, is_bridge, in_slots, in_temps, region_size}
use Rattle.rg_copy.specs.Slid.{top_roots, Becomes, AllBecome, CellBecomes, Slid}

abbrev body : (serial : ℕ) → List Word → Body
body n ws = record { class = 0; label = Region 0; serial = n; fields = ws }

abbrev table : List (Option (Option Body)) → Table
table xs = record {
  heap = record { slots = xs; next = 4 };
  marks = 0 ∷ 0 ∷ 0 ∷ 0 ∷ [];
  links = None ∷ None ∷ None ∷ None ∷ [];
}

abbrev region : List ℕ → Record
region ms = record { number = 0; manager = Trace; members = ms; bridge = None; room = 0 }

abbrev regions : List ℕ → RegionTable
regions ms = record { records = Some (region ms) ∷ []; links = None ∷ []; next = 1 }

abbrev stack : List Word → Stack
stack ws = record {
  slots = ws;
  first = 0;
  frames = record { back = 0; below = 0 } ∷ [];
  windows = record { number = 0; region = 0; owner = None; base = 0 } ∷ [];
  temps = [];
  marks = 0 ∷ [];
  next = 1;
  frame_room = 0;
  slot_room = 0;
}

-- Cells of serials 0 to 3 in slots 0 to 3 of region 0; cell 3 leads to cell 1, and slot 3 is the only root.
abbrev before : Table
before = table (Some (Some (body 0 [])) ∷ Some (Some (body 1 [])) ∷ Some (Some (body 2 []))
    ∷ Some (Some (body 3 (Slot 1 ∷ []))) ∷ [])

-- Cells 1 and 3 stand in slots 0 and 1 behind it, and cell 3 leads to cell 1.
abbrev behind : Table
behind = table (Some (Some (body 1 [])) ∷ Some (Some (body 3 (Slot 0 ∷ []))) ∷ Some None ∷ Some None ∷ [])

abbrev all : Record
all = region (0 ∷ 1 ∷ 2 ∷ 3 ∷ [])

abbrev IsReached : ℕ → Type 0
IsReached x = Reach before.heap 0 (top_roots all (stack (Slot 3 ∷ []))) x

number_of : (x y : ℕ) → Some (Slot x) ≡ Some (Slot y) → x ≡ y
number_of x y q = cc

-- what is in reach
by_root : (x : ℕ) → Stands before.heap (top_roots all (stack (Slot 3 ∷ []))) x → x ≡ 3
by_root x (is_bridge q) = cc
by_root x (in_slots zero q) = number_of x 3 (sym q)
by_root x (in_slots (suc k) q) = cc
by_root x (in_temps i k temp q e) = cc

by_field : (p k x : ℕ) → (p ≡ 1) ⊎ (p ≡ 3) → field_at before.heap p k ≡ Some (Slot x) → x ≡ 1
by_field p k x o q = elim o [
  | inl e ↦ let z : field_at before.heap 1 k ≡ Some (Slot x) = ap (λ y. field_at before.heap y k) (sym e) ∙ q in none k z
  | inr e ↦ let z : field_at before.heap 3 k ≡ Some (Slot x) = ap (λ y. field_at before.heap y k) (sym e) ∙ q in one k z
]
  where
    none : (k : ℕ) → field_at before.heap 1 k ≡ Some (Slot x) → x ≡ 1
    none k q = cc

    one : (k : ℕ) → field_at before.heap 3 k ≡ Some (Slot x) → x ≡ 1
    one zero q = number_of x 1 (sym q)
    one (suc k) q = cc

by_links : (n x : ℕ) → Walk before.heap 0 (top_roots all (stack (Slot 3 ∷ []))) n x → (x ≡ 1) ⊎ (x ≡ 3)
by_links zero x w = inr (by_root x w.1)
by_links (suc n) x w = inl (by_field w.1.0 w.1.1 x (by_links n w.1.0 w.1.2) w.1.3)

reached : (x : ℕ) → IsReached x → (x ≡ 1) ⊎ (x ≡ 3)
reached x n = by_links n.0 x n.2

root : IsReached 3
root = (0, omega arith, (refl, in_slots 0 refl))

next : IsReached 1
next = let q : region_size before.heap 0 ≡ 4 = refl in
    (1, omega (arith, q), (refl, (3, 0, (refl, in_slots 0 refl), refl)))

-- where each cell goes
abbrev place : ℕ → ℕ
place zero = 0
place (suc zero) = 0
place (suc (suc zero)) = 2
place (suc (suc (suc n))) = 1

abbrev IsCell : ℕ → Body → Type 0
IsCell x b = (d : Body) × (body_at behind.heap (place x) ≡ Some d)
    × CellBecomes before.heap 0 (top_roots all (stack (Slot 3 ∷ []))) place b d

-- a word that leads to a cell that is kept
leads : (x : ℕ) → IsReached x → Becomes before.heap 0 (top_roots all (stack (Slot 3 ∷ []))) place (Slot x) (Slot (place x))
leads x n = record {
  moved = λ y q r. let z : x ≡ y = number_of x y (ap Some q) in ap (λ i. Slot (place i)) z;
  stays = λ r. absurd (r x refl n);
}

-- lists of one such word, and of none
pub one_word : (x : ℕ) → IsReached x
    → AllBecome before.heap 0 (top_roots all (stack (Slot 3 ∷ []))) place (Slot x ∷ []) (Slot (place x) ∷ [])
one_word x n = record { as_many = refl; each = by_place }
  where
    by_place : (k : ℕ) (old new : Word) → slice_get (Slot x ∷ []) k ≡ Some old → slice_get (Slot (place x) ∷ []) k ≡ Some new
        → Becomes before.heap 0 (top_roots all (stack (Slot 3 ∷ []))) place old new
    by_place zero old new a b =
        let P : Word → Type 0 =
        λ w. Becomes before.heap 0 (top_roots all (stack (Slot 3 ∷ []))) place w (Slot (place x)) in
        let Q : Word → Type 0 = λ w. Becomes before.heap 0 (top_roots all (stack (Slot 3 ∷ []))) place old w in
        subst Q (same_Some (Slot (place x)) new b) (subst P (same_Some (Slot x) old a) (leads x n))
    by_place (suc k) old new a b = cc

no_word : AllBecome before.heap 0 (top_roots all (stack (Slot 3 ∷ []))) place [] []
no_word = record { as_many = refl; each = λ k old new a b. cc }

cell_of : (x : ℕ) (b : Body) → IsReached x → body_at before.heap x ≡ Some b → IsCell x b
cell_of x b n is = elim (reached x n) [
  | inl e ↦
      let P : ℕ → Type 0 = λ y. IsCell y b in
      let B : Body → Type 0 = λ y. IsCell 1 y in
      let q : body 1 [] ≡ b = same_Some (body 1 []) b (ap (body_at before.heap) (sym e) ∙ is) in
      subst P (sym e) (subst B q (
        body 1 [],
        refl,
        record { class = refl; label = refl; serial = refl; fields = no_word },
      ))
  | inr e ↦
      let P : ℕ → Type 0 = λ y. IsCell y b in
      let B : Body → Type 0 = λ y. IsCell 3 y in
      let q : body 3 (Slot 1 ∷ []) ≡ b =
      same_Some (body 3 (Slot 1 ∷ [])) b (ap (body_at before.heap) (sym e) ∙ is) in
      subst P (sym e) (subst B q (
        body 3 (Slot 0 ∷ []),
        refl,
        record { class = refl; label = refl; serial = refl; fields = one_word 1 next },
      ))
]

only_these : (s : ℕ) → LiesIn behind.heap 0 s → (x : ℕ) × IsReached x × (place x ≡ s)
only_these zero l = (1, next, refl)
only_these (suc zero) l = (3, root, refl)
only_these (suc (suc zero)) l = cc
only_these (suc (suc (suc zero))) l = cc
only_these (suc (suc (suc (suc s)))) l = cc

goes_within : (x : ℕ) → IsReached x → LiesIn before.heap 0 (place x)
goes_within x n = elim (reached x n) [
  | inl e ↦ let P : ℕ → Type 0 = λ y. LiesIn before.heap 0 (place y) in subst P (sym e) refl
  | inr e ↦ let P : ℕ → Type 0 = λ y. LiesIn before.heap 0 (place y) in subst P (sym e) refl
]

below : (x s : ℕ) → IsReached x → s < place x → LiesIn behind.heap 0 s
below x s n l = elim (reached x n) [
  | inl e ↦ let z : place x ≡ 0 = ap place e in absurd (omega (arith, z, l))
  | inr e ↦
      let z : place x ≡ 1 = ap place e in
      let y : s ≡ 0 = omega (arith, z, l) in
      let P : ℕ → Type 0 = λ i. LiesIn behind.heap 0 i in
      subst P (sym y) refl
]

free : (s : ℕ) → LiesIn before.heap 0 s → (LiesIn behind.heap 0 s → ⊥) → body_at behind.heap s ≡ None
free zero l n = absurd (n refl)
free (suc zero) l n = absurd (n refl)
free (suc (suc zero)) l n = refl
free (suc (suc (suc zero))) l n = refl
free (suc (suc (suc (suc s)))) l n = cc

white : (s : ℕ) → LiesIn before.heap 0 s → mark_at behind s ≡ 0
white zero l = refl
white (suc zero) l = refl
white (suc (suc zero)) l = refl
white (suc (suc (suc zero))) l = refl
white (suc (suc (suc (suc s)))) l = cc

far : (s : ℕ) → (LiesIn before.heap 0 s → ⊥) → body_at behind.heap s ≡ body_at before.heap s
far zero n = absurd (n refl)
far (suc zero) n = absurd (n refl)
far (suc (suc zero)) n = absurd (n refl)
far (suc (suc (suc zero))) n = absurd (n refl)
far (suc (suc (suc (suc s)))) n = refl

-- the collection leaves this heap, and its slot leads to cell 3
pub slides-down : Slid before (regions (0 ∷ 1 ∷ 2 ∷ 3 ∷ [])) 0 all (stack (Slot 3 ∷ [])) behind (regions (0 ∷ 1 ∷ []))
    (stack (Slot 1 ∷ []))
slides-down = record {
  place = place;
  stands = λ x b n is. cell_of x b n is;
  closed = λ x k to n q l. let P : ℕ → Type 0 = λ y. IsReached y in
      subst P (sym (by_field x k to (reached x n) q)) next;
  only = only_these;
  bridge = λ s q. cc;
  within = goes_within;
  lowest = λ x s n b l d low. below x s n low;
  gone = free;
  unmarked = white;
  temps = λ s b n. absurd n;
  others = λ s n off. far s off;
  marks = λ s n. (refl, refl);
  slots = one_word 3 root;
  beneath = refl;
  stack = refl;
  serials = refl;
  high = refl;
  numbers = refl;
  records = λ k d. other k d;
  own = (
    region (0 ∷ 1 ∷ []),
    refl,
    refl,
    refl,
    refl,
    record {
      lie = λ i s e. by_two i s e;
      all = λ s l. two_all s l;
      once = λ i j s e f. two_once i j s e f;
    },
  );
}
  where
    other : (k : ℕ) → k ≢ 0 → record_at (regions (0 ∷ 1 ∷ [])) k
        ≡ record_at (regions (0 ∷ 1 ∷ 2 ∷ 3 ∷ [])) k
    other zero d = absurd (d refl)
    other (suc k) d = refl

    by_two : (i s : ℕ) → slice_get (0 ∷ 1 ∷ []) i ≡ Some s → LiesIn behind.heap 0 s
    by_two zero s e =
        let P : ℕ → Type 0 = λ y. LiesIn behind.heap 0 y in subst P (same_Some 0 s e) refl
    by_two (suc zero) s e =
        let P : ℕ → Type 0 = λ y. LiesIn behind.heap 0 y in subst P (same_Some 1 s e) refl
    by_two (suc (suc i)) s e = cc

    two_all : (s : ℕ) → LiesIn behind.heap 0 s → (i : ℕ) × (slice_get (0 ∷ 1 ∷ []) i ≡ Some s)
    two_all zero l = (0, refl)
    two_all (suc zero) l = (1, refl)
    two_all (suc (suc zero)) l = cc
    two_all (suc (suc (suc zero))) l = cc
    two_all (suc (suc (suc (suc s)))) l = cc

    two_once : (i j s : ℕ) → slice_get (0 ∷ 1 ∷ []) i ≡ Some s → slice_get (0 ∷ 1 ∷ []) j ≡ Some s → i ≡ j
    two_once zero zero s e f = refl
    two_once zero (suc zero) s e f =
        let q : 0 ≡ 1 = same_Some 0 s e ∙ sym (same_Some 1 s f) in absurd (omega (arith, q))
    two_once zero (suc (suc j)) s e f = cc
    two_once (suc zero) zero s e f =
        let q : 0 ≡ 1 = same_Some 0 s f ∙ sym (same_Some 1 s e) in absurd (omega (arith, q))
    two_once (suc zero) (suc zero) s e f = refl
    two_once (suc zero) (suc (suc j)) s e f = cc
    two_once (suc (suc i)) j s e f = cc

-- where the slot still leads to slot 3, that is refused
pub slot-left : Slid before (regions (0 ∷ 1 ∷ 2 ∷ 3 ∷ [])) 0 all (stack (Slot 3 ∷ [])) behind (regions (0 ∷ 1 ∷ []))
    (stack (Slot 3 ∷ [])) → ⊥
slot-left w =
    let z = (w.slots.each 0 (Slot 3) (Slot 3) refl refl).moved 3 refl root in
    let q : 3 ≡ w.place 3 = number_of 3 (w.place 3) (ap Some z) in
    let a = w.stands 3 (body 3 (Slot 1 ∷ [])) root refl in
    let e : None ≡ Some a.0 = ap (body_at behind.heap) q ∙ a.1 in
    cc
