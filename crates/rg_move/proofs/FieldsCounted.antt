-- Fields of a region's cells that are counted, one by one (docs/architecture.md, "Freeze and merge").
use Rattle.std.proofs.Common.{◌≡◌, ℕ, ◌+◌, ◌<◌, ◌≤◌, Bool, true, false, cond, List, length, take, Option, Some, None}
use Rattle.std.proofs.Common.{get_or, refl, ap, sym, ◌∙◌}
use Rattle.std.proofs.Common.{subst, arith, inl, inr, option_map, option_and_then, slice_get, count_by}
use Rattle.std.proofs.lemmas.List.{take_all}
use Rattle.std.proofs.lemmas.List.Sums.{sum_by_more, sum_by_more_le}
use Rattle.std.proofs.lemmas.Option.{slice_get_within, get_or_from_slice_get, same_Some}
use Rattle.std.proofs.lemmas.Bool.Decides.{eqb_tells}
use Rattle.rg_base.specs.declared.object.Label.{Label}
use Rattle.rg_base.specs.declared.object.Label.TheVariants.{Region}
use Rattle.rg_base.specs.declared.value.Word.{Word}
use Rattle.rg_base.specs.declared.value.Word.TheVariants.{Nil}
use Rattle.rg_cells.specs.declared.cell.Body.{Body}
use Rattle.rg_cells.specs.Table.{Heap, Table, body_at, field_at, mark_at, width}
use Rattle.rg_regions.specs.Reach.{LiesIn, belongs, is_region}
use Rattle.rg_regions.specs.Grove.{leads_to}
use Rattle.rg_move.specs.Counted.{led, led_by, Grown, HasRoomFor}
use Rattle.rg_move.specs.Inner.Moves.{led_first}

-- a cell of a region belongs to it
pub belongs_there : (h : Heap) (r s : ℕ) → LiesIn h r s → belongs r (body_at h s) ≡ true
belongs_there h r s l = by_body (body_at h s) l
  where
    by_label : (l : Label) → Some l ≡ Some (Region r) → is_region r l ≡ true
    by_label l e =
        let q : l ≡ Region r = same_Some l (Region r) e in
        ap (is_region r) q ∙ elim (eqb_tells r r) [ inl a ↦ a.0 | inr a ↦ absurd (a.1 refl) ]

    by_body : (b : Option Body) → option_map (λ (b : Body). b.label) b ≡ Some (Region r) → belongs r b ≡ true
    by_body None e = cc
    by_body (Some b) e = by_label b.label e

both : (b : Bool) (m n : ℕ) → cond {A = ℕ} b m 0 + cond {A = ℕ} b n 0 ≡ cond {A = ℕ} b (m + n) 0
both true m n = refl
both false m n = refl

-- what is counted in two turns
pub grown_then : (r : ℕ) (old t new : Table) (f g h : ℕ → ℕ) → ((x : ℕ) → f x + g x ≡ h x) → Grown r old f t
    → Grown r t g new → Grown r old h new
grown_then r old t new f g h sum a b = record {
  heap = b.heap ∙ a.heap;
  links = b.links ∙ a.links;
  marks = λ x.
      let p = a.marks x in
      let q = b.marks x in
      let same : cond {A = ℕ} (belongs r (body_at t.heap x)) (g x) 0 ≡ cond {A = ℕ} (belongs r (body_at old.heap x))
      (g x) 0 =
      ap (λ (z : Heap). cond {A = ℕ} (belongs r (body_at z x)) (g x) 0) a.heap in
      let two = both (belongs r (body_at old.heap x)) (f x) (g x) in
      let all : cond {A = ℕ} (belongs r (body_at old.heap x)) (f x + g x) 0 ≡ cond {A = ℕ} (belongs r
      (body_at old.heap x)) (h x) 0 =
      ap (λ n. cond {A = ℕ} (belongs r (body_at old.heap x)) n 0) (sum x) in
      omega (arith, p, q, same, two, all);
}

pub room_then : (r : ℕ) (old t : Table) (f g h : ℕ → ℕ) → ((x : ℕ) → f x + g x ≤ h x) → HasRoomFor r old h
    → Grown r old f t → HasRoomFor r t g
room_then r old t f g h sum room a = λ x l more.
    let L : Heap → Type 0 = λ z. LiesIn z r x in
    let m = subst L a.heap l in
    let p = a.marks x in
    let in_r : cond {A = ℕ} (belongs r (body_at old.heap x)) (f x) 0 ≡ f x = ap (λ b. cond {A = ℕ} b (f x) 0)
    (belongs_there old.heap r x m) in
    let s = sum x in
    let b = room x m (omega (arith, more, s)) in
    omega (arith, p, in_r, s, b)

-- one field more of a body
next_led : (x : ℕ) (o : Option Body) (k : ℕ) (w : Word)
    → option_and_then (λ (b : Body). slice_get b.fields k) o ≡ Some w
    → (led_first x o k + cond {A = ℕ} (leads_to x w) 1 0 ≡ led_first x o (k + 1)) × (led_first x o k + cond {A = ℕ}
    (leads_to x w) 1 0 ≤ led x o)
next_led x None k w e = cc
next_led x (Some b) k w e =
    let f : Word → ℕ = λ y. cond {A = ℕ} (leads_to x y) 1 0 in
    let n = slice_get_within b.fields k w e in
    let same : f (get_or b.fields k Nil) ≡ f w = ap f (get_or_from_slice_get b.fields k w Nil e) in
    let a = sum_by_more f b.fields k Nil n in
    let l = sum_by_more_le f b.fields k Nil n in
    (sym (a ∙ ap (λ n. led_first x (Some b) k + n) same), omega (arith, l, same))

pub field_grown : (r slot k : ℕ) (old t new : Table) (w : Word) → field_at t.heap slot k ≡ Some w
    → Grown r old (λ x. led_first x (body_at old.heap slot) k) t → Grown r t (λ x. cond (leads_to x w) 1 0) new
    → Grown r old (λ x. led_first x (body_at old.heap slot) (k + 1)) new
field_grown r slot k old t new w e a b =
    let at : field_at old.heap slot k ≡ Some w = ap (λ (z : Heap). field_at z slot k) (sym a.heap) ∙ e in
    grown_then r old t new (λ x. led_first x (body_at old.heap slot) k) (λ x. cond (leads_to x w) 1 0)
    (λ x. led_first x (body_at old.heap slot) (k + 1)) (λ x. (next_led x (body_at old.heap slot) k w at).0) a b

pub field_room : (r slot k : ℕ) (old t : Table) (w : Word) → field_at t.heap slot k ≡ Some w
    → HasRoomFor r old (λ x. led x (body_at old.heap slot)) → Grown r old (λ x. led_first x (body_at old.heap slot) k) t
    → HasRoomFor r t (λ x. cond (leads_to x w) 1 0)
field_room r slot k old t w e room a =
    let at : field_at old.heap slot k ≡ Some w = ap (λ (z : Heap). field_at z slot k) (sym a.heap) ∙ e in
    room_then r old t (λ x. led_first x (body_at old.heap slot) k) (λ x. cond (leads_to x w) 1 0)
    (λ x. led x (body_at old.heap slot)) (λ x. (next_led x (body_at old.heap slot) k w at).1) room a

-- all fields of a body
all_led : (x : ℕ) (o : Option Body) (k : ℕ) → width o ≤ k → led_first x o k ≡ led x o
all_led x None k l = refl
all_led x (Some b) k l = ap (count_by (leads_to x)) (take_all k b.fields l)

pub fields_grown : (r slot k : ℕ) (old new : Table) → width (body_at old.heap slot) ≤ k
    → Grown r old (λ x. led_first x (body_at old.heap slot) k) new
    → Grown r old (λ x. led x (body_at old.heap slot)) new
fields_grown r slot k old new l a = record {
  heap = a.heap;
  links = a.links;
  marks = λ x. a.marks x
      ∙ ap (λ n. mark_at old x + cond {A = ℕ} (belongs r (body_at old.heap x)) n 0) (all_led x (body_at old.heap slot)
      k l);
}

-- the fields of one cell more
pub member_grown : (r : ℕ) (members : List ℕ) (i : ℕ) (old t new : Table) → i < length members
    → Grown r old (led_by old.heap (take i members)) t
    → Grown r t (λ x. led x (body_at t.heap (get_or members i 0))) new
    → Grown r old (led_by old.heap (take (i + 1) members)) new
member_grown r members i old t new n a b =
    grown_then r old t new (led_by old.heap (take i members)) (λ x. led x (body_at t.heap (get_or members i 0)))
    (led_by old.heap (take (i + 1) members))
    (λ x.
    let f : ℕ → ℕ = λ s. led x (body_at old.heap s) in
    let same : led x (body_at t.heap (get_or members i 0)) ≡ f (get_or members i 0) =
    ap (λ (z : Heap). led x (body_at z (get_or members i 0))) a.heap in
    omega (arith, sum_by_more f members i 0 n, same))
    a b

pub member_room : (r : ℕ) (members : List ℕ) (i : ℕ) (old t : Table) → i < length members
    → HasRoomFor r old (led_by old.heap members)
    → Grown r old (led_by old.heap (take i members)) t
    → HasRoomFor r t (λ x. led x (body_at t.heap (get_or members i 0)))
member_room r members i old t n room a =
    room_then r old t (led_by old.heap (take i members)) (λ x. led x (body_at t.heap (get_or members i 0)))
    (led_by old.heap members)
    (λ x.
    let f : ℕ → ℕ = λ s. led x (body_at old.heap s) in
    let same : led x (body_at t.heap (get_or members i 0)) ≡ f (get_or members i 0) =
    ap (λ (z : Heap). led x (body_at z (get_or members i 0))) a.heap in
    omega (arith, sum_by_more_le f members i 0 n, same))
    room a
