-- Two tables of regions over heaps in which the same is held have as many regions.
use Rattle.std.proofs.Common.{◌≡◌, ◌≤◌, inl, inr, ℕ, zero, suc, List, [], ◌∷◌, length, Option, Some, None, is_some, count_by}
use Rattle.std.proofs.Common.{cond, slice_index_or, refl, sym, ap, ◌∙◌, subst, arith}
use Rattle.std.proofs.lemmas.Bool.{cases_eq}
use Rattle.std.proofs.lemmas.List.Sums.{sum_by-cons}
use Rattle.std.proofs.lemmas.Option.{none-some, same_Some}
use Rattle.rg_base.proofs.Callers.Lists.{there}
use Rattle.rg_base.proofs.Callers.Options.{some-there}
use Rattle.rg_sound.proofs.Stores.Member.{In}
use Rattle.rg_cells.specs.Table.{Serials}
use Rattle.rg_regions.specs.Grove.{Grove}
use Rattle.rg_regions.specs.Table.{InTable, Record, record_at}
use Rattle.rg_frames.specs.Stack.{Stack}
use Rattle.rg_heap.specs.Parts.{Parts}
use Rattle.rg_machine.specs.Stands.{Stands}
use Rattle.rg_machine.proofs.Callers.Collect.{has-record}
use Rattle.rg_machine.proofs.Callers.ReachPath.{Distinct, no-longer}
use Rattle.rg_once.proofs.Cell.{Within, mate, mates-lie}

abbrev numbers_in : List (Option Record) → List ℕ
numbers_in [] = []
numbers_in (None ∷ rs) = numbers_in rs
numbers_in (Some r ∷ rs) = r.number ∷ numbers_in rs

numbers-count : (rs : List (Option Record)) → length (numbers_in rs) ≡ count_by is_some rs
numbers-count [] = refl
numbers-count (None ∷ rs) =
    let rest = numbers-count rs in
    let more = sum_by-cons (λ (r : Option Record). cond (is_some r) 1 0) None rs in
    omega (arith, rest, more)
numbers-count (Some r ∷ rs) =
    let rest = numbers-count rs in
    let more = sum_by-cons (λ (r : Option Record). cond (is_some r) 1 0) (Some r) rs in
    omega (arith, rest, more)

numbers-in : (rs : List (Option Record)) (key : ℕ) (r : Record) → slice_index_or rs key None ≡ Some r → In r.number (numbers_in rs)
numbers-in [] key r e = absurd (none-some r e)
numbers-in (None ∷ rs) zero r e = absurd (none-some r e)
numbers-in (Some u ∷ rs) zero r e = inl (ap (λ (r : Record). r.number) (same_Some u r e))
numbers-in (None ∷ rs) (suc key) r e = numbers-in rs key r e
numbers-in (Some u ∷ rs) (suc key) r e = inr (numbers-in rs key r e)

numbers-back : (rs : List (Option Record)) (n : ℕ) → In n (numbers_in rs)
    → (key : ℕ) × (r : Record) × (slice_index_or rs key None ≡ Some r) × (r.number ≡ n)
numbers-back [] n i = absurd i
numbers-back (None ∷ rs) n i = let x = numbers-back rs n i in (suc x.0, x.1, x.2, x.3)
numbers-back (Some u ∷ rs) n (inl e) = (0, u, refl, e)
numbers-back (Some u ∷ rs) n (inr i) = let x = numbers-back rs n i in (suc x.0, x.1, x.2, x.3)

abbrev Differ : List (Option Record) → Type 0
Differ rs = (k o : ℕ) (r u : Record) → slice_index_or rs k None ≡ Some r → slice_index_or rs o None ≡ Some u → r.number ≡ u.number → k ≡ o

numbers-distinct : (rs : List (Option Record)) → Differ rs → Distinct (numbers_in rs)
numbers-distinct [] d = tt
numbers-distinct (None ∷ rs) d =
    numbers-distinct rs (λ k o r u e f same. let is = d (suc k) (suc o) r u e f same in omega (arith, is))
numbers-distinct (Some u ∷ rs) d = (
  λ i.
      let x = numbers-back rs u.number i in
      let same = d (suc x.0) 0 x.1 u x.2 refl x.3 in absurd (omega (arith, same)),
  numbers-distinct rs (λ k o r u e f same. let is = d (suc k) (suc o) r u e f same in omega (arith, is)),
)

-- region 0 is in the table
first-there : (p : Parts) (v : Stack) → Stands p v → InTable p.regions 0
first-there p v st =
    let some = st.opened.some in
    let w = there v.windows 0 some in
    (w.0.region, st.opened.first w.0 w.1)

module _ (p r : Parts) (v w : Stack) (u : Serials r.cells.heap) (st : Stands p v) (sr : Stands r w) (g : Grove p.cells p.regions)
    (gr : Grove r.cells r.regions) (in-both : Within p.cells.heap r.cells.heap) where
  number-there : (key : ℕ) (c : Record) → record_at p.regions key ≡ Some c → InTable r.regions c.number
  number-there key c e = elim (cases_eq c.number 0) [
    | inl is ↦ subst (InTable r.regions) (sym is) (first-there r w sr)
    | inr other ↦
        (let x = some-there c.bridge ((st.bridges key c e).0 other) in
        let lies = g.bridges key x.0 c e x.1 in
        let y = mate p.cells.heap r.cells.heap c.number x.0 in-both lies in
        gr.labels c.number y.0 (mates-lie p.cells.heap r.cells.heap c.number x.0 y.0 u in-both y.1 lies))
  ]

  pub regions-fewer : count_by is_some p.regions.records ≤ count_by is_some r.regions.records
  regions-fewer =
      let most = no-longer (numbers_in p.regions.records) (numbers_in r.regions.records)
      (numbers-distinct p.regions.records (λ k o c d e f same. st.numbers.differ k o c d e f same)) (λ n i.
      let x = numbers-back p.regions.records n i in
      let in-table = number-there x.0 x.1 x.2 in
      let c = has-record r in-table.0 x.1.number in-table.1 in
      subst (λ k. In k (numbers_in r.regions.records)) (c.2 ∙ x.3) (numbers-in r.regions.records in-table.0 c.0 c.1)) in
      let few = numbers-count p.regions.records in
      let many = numbers-count r.regions.records in
      omega (arith, most, few, many)
