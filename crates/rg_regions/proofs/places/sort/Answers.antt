use Rattle.std.proofs.Common.{◌≡◌, ◌∙◌, ◌++◌, ◌-◌, ℕ, List, IsPermutation, ap, drop, length, subst, sym, take}
use Rattle.std.proofs.Math.Seq.{take-append_seam}
use Rattle.std.proofs.lemmas.List.Sorted.{IsNonDecreasingBy-from_sort}
use Rattle.std.specs.List.{refill}
use Rattle.std.specs.List.Sorted.{IsNonDecreasing}
use Rattle.rg_regions.specs.Table.{Record}
use Rattle.rg_regions.proofs.places.sort.Goals as goal

-- as many elements as there were stand in their place
whole : (xs ws : List ℕ) → length ws ≡ length xs → refill (length xs) xs ws ≡ ws
whole xs ws e =
    let P : ℕ → Type 0 = λ n. take n (ws ++ drop (length ws) xs) ≡ ws in
    subst P e (take-append_seam ws (drop (length ws) xs))

pub returns-clause-rise : goal.returns-clause-rise
returns-clause-rise c =
    let old = c.args.region.now.members.items in
    let new = c.sort_unstable.new.self in
    let many : length new ≡ length old = c.sort_unstable.ensures.len ∙ ap length c.as_mut_slice-members.ensures.value in
    subst IsNonDecreasing (sym (whole old new many)) (IsNonDecreasingBy-from_sort (λ x. x) new c.sort_unstable.ensures.sorted)

pub returns-clause-same : goal.returns-clause-same
returns-clause-same c =
    let old = c.args.region.now.members.items in
    let new = c.sort_unstable.new.self in
    let many : length new ≡ length old = c.sort_unstable.ensures.len ∙ ap length c.as_mut_slice-members.ensures.value in
    let P : List ℕ → Type 0 = λ xs. IsPermutation xs new in
    let Q : List ℕ → Type 0 = λ ys. IsPermutation old ys in
    subst Q (sym (whole old new many)) (subst P c.as_mut_slice-members.ensures.value c.sort_unstable.ensures.permutation)

pub returns-clause-shows : goal.returns-clause-shows
returns-clause-shows c =
    let r = c.args.region.now in
    let new = c.sort_unstable.new.self in
    let many : length new ≡ length r.members.items = c.sort_unstable.ensures.len ∙ ap length c.as_mut_slice-members.ensures.value in
    let f : ℕ → Record = λ n. record {
      number = r.number;
      manager = r.manager;
      members = refill (length r.members.items) r.members.items new;
      bridge = r.bridge;
      room = r.members.capacity - n;
    } in
    ap f (ap length (whole r.members.items new many) ∙ many)
