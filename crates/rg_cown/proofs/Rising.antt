-- How many slots were ever held, behind cells that come and that are taken back (docs/architecture.md, "Cargo").
use Rattle.std.proofs.Common.{◌≡◌, ◌≢◌, ℕ, zero, suc, ◌+◌, ◌≤◌, max, cond, List, [], ◌∷◌, Option, Some, None}
use Rattle.std.proofs.Common.{is_some, count_by, get_or, set, refl, sym, ap, ◌∙◌, subst, arith, inl, inr}
use Rattle.std.specs.Prelude.{◌==◌, if◌then◌else◌}
use Rattle.std.proofs.lemmas.List.{get_or-set_other}
use Rattle.std.proofs.lemmas.List.Sums.{sum_by-cons}
use Rattle.std.proofs.lemmas.Bool.{cases_eq}
use Rattle.std.proofs.lemmas.Bool.Decides.{eqb_tells}
use Rattle.rg_base.specs.declared.value.Word.{Word}
use Rattle.rg_cells.specs.declared.cell.Body.{Body}
use Rattle.rg_cells.specs.Table.{Heap, Table, Made, IsNewest, body_at, body_in, one, total, held_count, high_of, high_after, with_field, with_body}
use Rattle.rg_cells.specs.Table.{cancelled}
use Rattle.rg_regions.proofs.Callers.Removed.{none_there}
use Rattle.rg_regions.proofs.Callers.Fewer.{total_alike}
use Rattle.rg_cown.specs.Loads.{HighUpTo}
use Rattle.rg_cown.specs.Inner.Coming.{Rises}

-- Slots that stay slots

count_kept : (xs : List (Option (Option Body))) (s : ℕ) (o y : Option Body) → get_or xs s None ≡ Some o
    → count_by is_some (set xs s (Some y)) ≡ count_by is_some xs
count_kept [] s o y e = cc
count_kept (x ∷ xs) zero o y e = rw e
count_kept (x ∷ xs) (suc s) o y e =
    sum_by-cons (λ z. cond (is_some z) 1 0) x (set xs s (Some y))
    ∙ ap (λ n. cond (is_some x) 1 0 + n) (count_kept xs s o y e)
    ∙ sym (sum_by-cons (λ z. cond (is_some z) 1 0) x xs)

slot_there : (o : Option (Option Body)) (b : Body) → body_in o ≡ Some b → o ≡ Some (Some b)
slot_there None b e = cc
slot_there (Some None) b e = cc
slot_there (Some (Some d)) b e = ap Some e

-- a cell that is taken back leaves its slot
pub high_back : (t new : Table) (s : ℕ) → IsNewest t.heap s → new ≡ cancelled t s → high_of new.heap ≡ high_of t.heap
high_back t new s n e =
    ap (λ (z : Table). high_of z.heap) e ∙ count_kept t.heap.slots s (Some n.0) None (slot_there (get_or t.heap.slots s None) n.0 n.1)

-- so does a field that is written
pub high_with_field : (h : Heap) (slot k : ℕ) (w : Word) → high_of (with_field h slot k w) ≡ high_of h
high_with_field h slot k w = by (body_at h slot) refl
  where
    by : (o : Option Body) → body_at h slot ≡ o → high_of (with_field h slot k w) ≡ high_of h
    by None e =
        let F : Option Body → Heap = λ z. elim z [ None ↦ h | Some x ↦ with_body h slot (record x { fields = set x.fields k w }) ] in
        ap high_of (ap F e)
    by (Some b) e =
        let F : Option Body → Heap = λ z. elim z [ None ↦ h | Some x ↦ with_body h slot (record x { fields = set x.fields k w }) ] in
        ap high_of (ap F e)
        ∙ count_kept h.slots slot (Some b) (Some (record b { fields = set b.fields k w })) (slot_there (get_or h.slots slot None) b e)

-- A cell more

one_less : (xs : List (Option (Option Body))) (s : ℕ) → total one (set xs s None) + one (body_in (get_or xs s None)) ≡ total one xs
one_less [] s = refl
one_less (x ∷ xs) zero = omega arith
one_less (x ∷ xs) (suc s) = let e = one_less xs s in omega (arith, e)

-- as many slots at least were ever held as are held
pub held_high : (xs : List (Option (Option Body))) → total one xs ≤ count_by is_some xs
held_high [] = omega arith
held_high (None ∷ xs) =
    let n = sum_by-cons (λ (z : Option (Option Body)). cond (is_some z) 1 0) None xs in
    let l = held_high xs in
    omega (arith, n, l)
held_high (Some None ∷ xs) =
    let n = sum_by-cons (λ (z : Option (Option Body)). cond (is_some z) 1 0) (Some None) xs in
    let l = held_high xs in
    omega (arith, n, l)
held_high (Some (Some b) ∷ xs) =
    let n = sum_by-cons (λ (z : Option (Option Body)). cond (is_some z) 1 0) (Some (Some b)) xs in
    let l = held_high xs in
    omega (arith, n, l)

held_more : (old new : Table) (slot : ℕ) (b : Body) → body_at old.heap slot ≡ None → Made old new slot b
    → held_count new.heap ≡ held_count old.heap + 1
held_more old new slot b e m =
    let xs = old.heap.slots in
    let ys = new.heap.slots in
    let alike : total one (set ys slot None) ≡ total one xs = total_alike one refl xs (set ys slot None) (λ k. elim (cases_eq k slot) [
      | inl q ↦
          let P : ℕ → Type 0 = λ z. one (body_in (get_or (set ys slot None) z None)) ≡ one (body_in (get_or xs z None)) in
          subst P (sym q) (ap (λ o. one (body_in o)) (none_there ys slot) ∙ sym (ap one e))
      | inr d ↦ ap (λ o. one (body_in o)) (get_or-set_other ys slot k None None d ∙ m.others k d)
    ]) in
    let less = one_less ys slot in
    let here : one (body_in (get_or ys slot None)) ≡ 1 = ap one m.body in
    omega (arith, alike, less, here)

after : (old held high new : ℕ) (n : ℕ) (h : ℕ) → held ≡ h + n → high ≡ max old (h + n) → held ≤ high
    → new ≡ (if held == high then high + 1 else high) → new ≡ max old (h + (n + 1))
after old held high new n h a b l e = elim (eqb_tells held high) [
  | inl t ↦ let q : new ≡ high + 1 = e ∙ ap (λ z. if z then high + 1 else high) t.0 in let s = t.1 in omega (arith, a, b, q, s)
  | inr t ↦ let q : new ≡ high = e ∙ ap (λ z. if z then high + 1 else high) t.0 in let d : held ≢ high = t.1 in omega (arith, a, b, l, q, d)
]

pub none_risen : (h : Heap) → Rises h h 0
none_risen h = let l = held_high h.slots in record { held = omega arith; high = omega (arith, l) }

pub one_risen : (start : Heap) (old new : Table) (n slot : ℕ) (b : Body) → Rises start old.heap n → body_at old.heap slot ≡ None
    → Made old new slot b → high_of new.heap ≡ high_after old.heap → Rises start new.heap (n + 1)
one_risen start old new n slot b r e m h =
    let more = held_more old new slot b e m in
    let a = r.held in
    record {
      held = omega (arith, more, a);
      high = after (high_of start) (held_count old.heap) (high_of old.heap) (high_of new.heap) n (held_count start) r.held r.high
          (held_high old.heap.slots) h;
    }

-- What a refusal leaves

pub up_to : (old mid new : Heap) (n most : ℕ) → Rises old mid n → n ≤ most → high_of new ≡ high_of mid → HighUpTo old new most
up_to old mid new n most r l e =
    let h = r.high in
    record { least = omega (arith, h, e); most = omega (arith, h, e, l) }
