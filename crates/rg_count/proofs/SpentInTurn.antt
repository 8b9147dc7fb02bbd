-- The cells that are done, in the order in which they were done.
use Rattle.std.proofs.Common.{◌≡◌, ℕ, ◌+◌, ◌-◌, ◌<◌, ◌≤◌, ◌⊎◌, zero, suc, Bool, true, false, cond, List, [], ◌∷◌, ◌++◌}
use Rattle.std.proofs.Common.{length, Option, Some, None, get_or, sum_by, refl, ap, sym, ◌∙◌, subst, arith, inl, inr}
use Rattle.std.proofs.Common.{slice_get, count_by, option_and_then}
use Rattle.std.proofs.lemmas.List.{get_or_append_left, length-append}
use Rattle.std.proofs.Math.Seq.{get_or-append_seam}
use Rattle.std.proofs.lemmas.Bool.{cases_eq, cases_lt}
use Rattle.std.proofs.lemmas.List.Sums.{sum_by-cons}
use Rattle.std.proofs.lemmas.Option.{slice_get_within, get_or_from_slice_get, slice_get-get_or}
use Rattle.rg_cells.specs.declared.cell.Body.{Body}
use Rattle.rg_base.specs.declared.value.Word.{Word}
use Rattle.rg_base.specs.declared.value.Word.TheVariants.{Slot}
use Rattle.rg_cells.specs.Table.{Heap, Table, body_at, field_at, mark_at, link_at, total, width}
use Rattle.rg_regions.specs.Table.{RegionTable, Has, Chained}
use Rattle.rg_regions.specs.Reach.{LiesIn, Roots, Stands, belongs, region_size}
use Rattle.rg_regions.specs.Grove.{Members, leads_to}
use Rattle.rg_regions.specs.Spent.{IsSpentOrder, Spent}
use Rattle.rg_regions.specs.Chains.{OwnsOnce, LeadsOnce}
use Rattle.rg_regions.specs.Owned.{Every, Owned, ChainsOwned, FollowsFields}
use Rattle.rg_regions.proofs.Callers.OwnedFound.{owned_alike, owned_next}
use Rattle.rg_regions.proofs.Callers.Told.{lies_or_not}
use Rattle.rg_regions.proofs.Callers.Fewer.{belongs_not}
use Rattle.rg_regions.proofs.Callers.Fewer.{lies_belongs}
use Rattle.rg_count.specs.Inner.Counting.{words_of, weight, owed, nothing, Spends, in_turn, Counts, Lowered, Down}
use Rattle.rg_count.specs.Inner.Counting.{IsReady, CountedDown}
use Rattle.rg_regions.proofs.Callers.Shares.{Distinct, share, parted-le, parted-all, place_has, distinct_by}
use Rattle.rg_count.proofs.CountsLowered.{spends-lie, spends-distinct, count-pop, count-done, owed-none}
use Rattle.rg_count.proofs.CountsLowered.{referrers-total, leads-is}

-- a list with one element more at its end
snoc-length : (xs : List ℕ) (s : ℕ) → length (xs ++ s ∷ []) ≡ length xs + 1
snoc-length xs s = length-append xs (s ∷ [])

snoc-old : (xs : List ℕ) (s j : ℕ) → j < length xs → get_or (xs ++ s ∷ []) j 0 ≡ get_or xs j 0
snoc-old xs s j l = get_or_append_left xs (s ∷ []) 0 j l

snoc-new : (xs : List ℕ) (s j : ℕ) → j ≡ length xs → get_or (xs ++ s ∷ []) j 0 ≡ s
snoc-new xs s j e = ap (λ z. get_or (xs ++ s ∷ []) z 0) e ∙ get_or-append_seam xs s [] 0

-- what stands in turn is done, and the other way round
pub turn-has : (done : List ℕ) (j : ℕ) → j < length (in_turn done) → Has done (get_or (in_turn done) j 0)
turn-has [] j l = absurd (omega (arith, l))
turn-has (s ∷ done) j l = elim (cases_lt j (length (in_turn done))) [
  | inl a ↦ let P : ℕ → Type 0 = λ z. Has done z in
      inr (subst P (sym (snoc-old (in_turn done) s j a)) (turn-has done j a))
  | inr a ↦ inl (snoc-new (in_turn done) s j (omega (arith, a, l, snoc-length (in_turn done) s)))
]

pub has-turn : (done : List ℕ) (x : ℕ) → Has done x
    → (j : ℕ) × (j < length (in_turn done)) × (get_or (in_turn done) j 0 ≡ x)
has-turn [] x m = absurd m
has-turn (s ∷ done) x m = elim m [
  | inl e ↦ (
    length (in_turn done),
    omega (arith, snoc-length (in_turn done) s),
    snoc-new (in_turn done) s (length (in_turn done)) refl ∙ sym e,
  )
  | inr n ↦ let a = has-turn done x n in
      (a.0, omega (arith, a.1, snoc-length (in_turn done) s), snoc-old (in_turn done) s a.0 a.1 ∙ a.2)
]

pub turn-once : (done : List ℕ) → Distinct done → (a b : ℕ) → a < length (in_turn done) → b < length (in_turn done)
    → get_or (in_turn done) a 0 ≡ get_or (in_turn done) b 0 → a ≡ b
turn-once [] d a b l m e = absurd (omega (arith, l))
turn-once (s ∷ done) d a b l m e =
    let P : ℕ → Type 0 = λ z. Has done z in
    elim (cases_lt a (length (in_turn done))) [
      | inl p ↦ elim (cases_lt b (length (in_turn done))) [
        | inl q ↦ turn-once done d.1 a b p q (sym (snoc-old (in_turn done) s a p) ∙ e ∙ snoc-old (in_turn done) s b q)
        | inr q ↦
            let y : get_or (in_turn done) a 0 ≡ s = sym (snoc-old (in_turn done) s a p) ∙ e
            ∙ snoc-new (in_turn done) s b (omega (arith, q, m, snoc-length (in_turn done) s)) in
            absurd (d.0 (subst P y (turn-has done a p)))
      ]
      | inr p ↦ elim (cases_lt b (length (in_turn done))) [
        | inl q ↦
            let y : get_or (in_turn done) b 0 ≡ s = sym (snoc-old (in_turn done) s b q) ∙ sym e
            ∙ snoc-new (in_turn done) s a (omega (arith, p, l, snoc-length (in_turn done) s)) in
            absurd (d.0 (subst P y (turn-has done b q)))
        | inr q ↦ omega (arith, p, q, l, m, snoc-length (in_turn done) s)
      ]
    ]

-- a cell that is done stands behind all that lead to it
turn-earlier : (h : Heap) (r : ℕ) (roots : Roots) (done : List ℕ) → Spends h r roots done → (i s p k : ℕ)
    → i < length (in_turn done) → get_or (in_turn done) i 0 ≡ s → LiesIn h r p → field_at h p k ≡ Some (Slot s)
    → (j : ℕ) × (j < i) × (get_or (in_turn done) j 0 ≡ p)
turn-earlier h r roots [] w i s p k l e a f = absurd (omega (arith, l))
turn-earlier h r roots (x ∷ done) w i s p k l e a f = elim (cases_lt i (length (in_turn done))) [
  | inl m ↦
      let z = turn-earlier h r roots done w.4 i s p k m (sym (snoc-old (in_turn done) x i m) ∙ e) a f in
      (z.0, z.1, snoc-old (in_turn done) x z.0 (omega (arith, z.1, m)) ∙ z.2)
  | inr m ↦
      let last : i ≡ length (in_turn done) = omega (arith, m, l, snoc-length (in_turn done) x) in
      let same : s ≡ x = sym e ∙ snoc-new (in_turn done) x i last in
      let z = has-turn done p (w.3 p k a (f ∙ ap (λ y. Some (Slot y)) same)) in
      (z.0, omega (arith, z.1, last), snoc-old (in_turn done) x z.0 z.1 ∙ z.2)
]

pub no-root : (h : Heap) (r : ℕ) (roots : Roots) (done : List ℕ) → Spends h r roots done → (s : ℕ) → Has done s
    → Stands h roots s → ⊥
no-root h r roots [] w s m n = m
no-root h r roots (x ∷ done) w s m n = elim m [
  | inl e ↦ let P : ℕ → Type 0 = λ z. Stands h roots z in w.1 (subst P e n)
  | inr k ↦ no-root h r roots done w.4 s k n
]

-- the cells that are done are spent, each by the cells that were done up to then
pub turn-order : (h : Heap) (r : ℕ) (roots : Roots) (done : List ℕ) → Spends h r roots done
    → IsSpentOrder h r roots (in_turn done)
turn-order h r roots done w =
    let xs = in_turn done in
    let in_it : (i s : ℕ) → slice_get xs i ≡ Some s → Has done s = λ i s e.
    let P : ℕ → Type 0 = λ z. Has done z in
    subst P (get_or_from_slice_get xs i s 0 e) (turn-has done i (slice_get_within xs i s e)) in
    record {
      lie = λ i s e. spends-lie h r roots done w s (in_it i s e);
      once = λ i j s a b. turn-once done (spends-distinct h r roots done w) i j (slice_get_within xs i s a)
          (slice_get_within xs j s b) (get_or_from_slice_get xs i s 0 a ∙ sym (get_or_from_slice_get xs j s 0 b));
      no_root = λ i s e n. no-root h r roots done w s (in_it i s e) n;
      earlier = λ i s p k e l f.
          let z = turn-earlier h r roots done w i s p k (slice_get_within xs i s e)
          (get_or_from_slice_get xs i s 0 e) l f in
          (z.0, z.1, slice_get-get_or xs z.0 0 (omega (arith, z.1, slice_get_within xs i s e)) ∙ ap Some z.2);
    }

pub done-spent : (h : Heap) (r : ℕ) (roots : Roots) (done : List ℕ) (s : ℕ) → Spends h r roots done → Has done s
    → Spent h r roots s
done-spent h r roots done s w m =
    let z = has-turn done s m in
    (in_turn done, turn-order h r roots done w, (z.0, slice_get-get_or (in_turn done) z.0 0 z.1 ∙ ap Some z.2))

-- where fields lead to a slot there is one
count-found : (s : ℕ) (ws : List Word) → 0 < count_by (leads_to s) ws → (k : ℕ) × (slice_get ws k ≡ Some (Slot s))
count-found s [] l = absurd (omega (arith, l))
count-found s (w ∷ ws) l = elim (bool-cases (leads_to s w)) [
  | inl y ↦ (0, ap Some (leads-is s w y))
  | inr y ↦
      let z : cond {A = ℕ} (leads_to s w) 1 0 ≡ 0 = ap (λ b. cond {A = ℕ} b 1 0) y in
      let q = count-found s ws (omega (arith, l, z, sum_by-cons (λ x. cond {A = ℕ} (leads_to s x) 1 0) w ws)) in
      (suc q.0, q.1)
]
  where
    bool-cases : (b : Bool) → (b ≡ true) ⊎ (b ≡ false)
    bool-cases true = inl refl
    bool-cases false = inr refl

-- what weighs is a referrer
pub referrer : (h : Heap) (r s p : ℕ) → 0 < weight r s (body_at h p)
    → LiesIn h r p × ((k : ℕ) × (field_at h p k ≡ Some (Slot s)))
referrer h r s p l = elim (lies_or_not h r p) [
  | inl out ↦ let e = belongs_not r (body_at h p) out in
      let z : weight r s (body_at h p) ≡ 0 =
      ap (λ c. cond {A = ℕ} c (count_by (leads_to s) (words_of (body_at h p))) 0) e in absurd (omega (arith, l, z))
  | inr e ↦
      let z : weight r s (body_at h p) ≡ count_by (leads_to s) (words_of (body_at h p)) =
      ap (λ c. cond {A = ℕ} c (count_by (leads_to s) (words_of (body_at h p))) 0)
      (lies_belongs r (body_at h p) e) in
      let k = count-found s (words_of (body_at h p)) (omega (arith, l, z)) in
      (e, (k.0, back (body_at h p) k.0 (Slot s) k.1))
]
  where
    back : (b : Option Body) (k : ℕ) (w : Word) → slice_get (words_of b) k ≡ Some w
        → option_and_then (λ (b : Body). slice_get b.fields k) b ≡ Some w
    back None k w e = cc
    back (Some b) k w e = e

-- where no zero is left, the cells of a list of spent ones are done one after another
pub spent-done : (h : Heap) (r : ℕ) (roots : Roots) (first : Table) (done : List ℕ) (t : Table)
    → Counts h r roots first nothing done [] t None → (s : ℕ) → Spent h r roots s → Has done s
spent-done h r roots first done t c s w = up_to (w.2.0 + 1) w.2.0 s (omega arith) w.2.1
  where
    none_else : (p x : ℕ) (order : List ℕ) → IsSpentOrder h r roots order → (i : ℕ) → slice_get order i ≡ Some x
        → ((j y : ℕ) → j < i → slice_get order j ≡ Some y → Has done y) → (Has done p → ⊥)
        → share (weight r x) h.slots p ≡ 0
    none_else p x order o i e ih n = elim (cases_eq (share (weight r x) h.slots p) 0) [
      | inl z ↦ z
      | inr d ↦
          let f = referrer h r x p (omega (arith, d)) in
          let z = o.earlier i x p f.1.0 e f.0 f.1.1 in
          absurd (n (ih z.0 p z.1 z.2))
    ]

    up_to : (n i x : ℕ) → i < n → slice_get w.0 i ≡ Some x → Has done x
    up_to zero i x l e = absurd (omega (arith, l))
    up_to (suc n) i x l e =
        let o = w.1 in
        let lies = o.lie i x e in
        let all = parted-all (weight r x) refl h.slots done (spends-distinct h r roots done c.spends)
        (λ p k. none_else p x w.0 o i e (λ j y m q. up_to n j y (omega (arith, m, l)) q) k) in
        let zero : mark_at t x ≡ 0 = omega (arith, c.sum x lies, all, referrers-total h r x) in
        elim (c.all x lies zero (o.no_root i x e)) [ inl a ↦ a | inr a ↦ absurd a ]

-- at most so many cells are done as the region has
pub done-bound : (h : Heap) (r : ℕ) (roots : Roots) (done : List ℕ) → Spends h r roots done
    → length done ≤ region_size h r
done-bound h r roots done w =
    let a = parted-le (λ b. cond (belongs r b) 1 0) refl h.slots done (spends-distinct h r roots done w) in
    omega (arith, a, each done (spends-lie h r roots done w))
  where
    each : (ss : List ℕ) → ((s : ℕ) → Has ss s → LiesIn h r s)
        → sum_by (share (λ b. cond {A = ℕ} (belongs r b) 1 0) h.slots) ss ≡ length ss
    each [] l = refl
    each (s ∷ ss) l =
        let one : share (λ b. cond {A = ℕ} (belongs r b) 1 0) h.slots s ≡ 1 =
        ap (λ c. cond {A = ℕ} c 1 0) (lies_belongs r (body_at h s) (l s (inl refl))) in
        omega (
          arith,
          sum_by-cons (share (λ b. cond {A = ℕ} (belongs r b) 1 0) h.slots) s ss,
          one,
          each ss (λ x m. l x (inr m)),
        )

-- what is done has at most the fields of the region
pub done-fields : (h : Heap) (r : ℕ) (roots : Roots) (done : List ℕ) → Spends h r roots done
    → sum_by (λ p. width (body_at h p)) done ≤ total (λ b. cond (belongs r b) (width b) 0) h.slots
done-fields h r roots done w =
    let a = parted-le (λ b. cond (belongs r b) (width b) 0) refl h.slots done (spends-distinct h r roots done w) in
    omega (arith, a, each done (spends-lie h r roots done w))
  where
    each : (ss : List ℕ) → ((s : ℕ) → Has ss s → LiesIn h r s)
        → sum_by (share (λ b. cond {A = ℕ} (belongs r b) (width b) 0) h.slots) ss ≡ sum_by (λ p. width (body_at h p)) ss
    each [] l = refl
    each (s ∷ ss) l =
        let one : share (λ b. cond {A = ℕ} (belongs r b) (width b) 0) h.slots s ≡ width (body_at h s) =
        ap (λ c. cond {A = ℕ} c (width (body_at h s)) 0) (lies_belongs r (body_at h s) (l s (inl refl))) in
        omega (
          arith,
          sum_by-cons (share (λ b. cond {A = ℕ} (belongs r b) (width b) 0) h.slots) s ss,
          sum_by-cons (λ p. width (body_at h p)) s ss,
          one,
          each ss (λ x m. l x (inr m)),
        )

-- a region has at most as many cells as members
pub size-members : (h : Heap) (r : ℕ) (members : List ℕ) → Members h r members → region_size h r ≤ length members
size-members h r members m =
    let a = parted-all (λ b. cond (belongs r b) 1 0) refl h.slots members (distinct_by members m.once)
    (λ x n. elim (lies_or_not h r x) [
      | inl out ↦ ap (λ c. cond {A = ℕ} c 1 0) (belongs_not r (body_at h x) out)
      | inr l ↦ let i = m.all x l in absurd (n (place_has members x i.0 i.1))
    ]) in
    omega (arith, a, each members)
  where
    each : (ss : List ℕ) → sum_by (share (λ b. cond {A = ℕ} (belongs r b) 1 0) h.slots) ss ≤ length ss
    each [] = omega arith
    each (s ∷ ss) = omega (
      arith,
      sum_by-cons (share (λ b. cond {A = ℕ} (belongs r b) 1 0) h.slots) s ss,
      at_most (belongs r (body_at h s)),
      each ss,
    )
      where
        at_most : (b : Bool) → cond {A = ℕ} b 1 0 ≤ 1
        at_most true = omega arith
        at_most false = omega arith

-- what is known of the cells in turn where orphans are looked for
pub turn-owners : (h : Heap) (r : ℕ) (roots : Roots) (done : List ℕ) → LeadsOnce h r → Spends h r roots done
    → OwnsOnce h r (in_turn done)
turn-owners h r roots done one w = record {
  one = one;
  lie = λ j l. spends-lie h r roots done w (get_or (in_turn done) j 0) (turn-has done j l);
  once = turn-once done (spends-distinct h r roots done w);
}

-- a cell more that isn't looked at yet owns nothing so far
owned-grow : (h : Heap) (r : ℕ) (xs : List ℕ) (s : ℕ) (t now : RegionTable) (head : Option ℕ)
    → ChainsOwned h Every r xs [] t (length xs) 0 now head
    → ChainsOwned h Every r (xs ++ s ∷ []) [] t (length xs) 0 now head
owned-grow h r xs s t now head =
    owned_alike h Every r xs (xs ++ s ∷ []) [] t (length xs) 0 (length xs) 0 now head up back
  where
    up : (q : ℕ) → Owned h Every r xs (length xs) 0 q → Owned h Every r (xs ++ s ∷ []) (length xs) 0 q
    up q w = record {
      place = w.place;
      field = w.field;
      to = w.to;
      early = w.early;
      within = omega (arith, w.within, snoc-length xs s);
      gone = tt;
      leads = ap (λ z. field_at h z w.field) (snoc-old xs s w.place w.within) ∙ w.leads;
      lies = w.lies;
      other = w.other;
    }

    back : (q : ℕ) → Owned h Every r (xs ++ s ∷ []) (length xs) 0 q → Owned h Every r xs (length xs) 0 q
    back q w =
        let l : w.place < length xs = elim (w.early) [ inl a ↦ a | inr b ↦ absurd (omega (arith, b.1)) ] in
        record {
          place = w.place;
          field = w.field;
          to = w.to;
          early = w.early;
          within = l;
          gone = tt;
          leads = ap (λ z. field_at h z w.field) (sym (snoc-old xs s w.place l)) ∙ w.leads;
          lies = w.lies;
          other = w.other;
        }

-- one turn of counting down
pub down-more : (h : Heap) (r : ℕ) (roots : Roots) (first : Table) (before : RegionTable) (most start : ℕ)
    (old new : Table) (mid next : RegionTable) (s : ℕ) (zr orphans result : Option ℕ) (left steps now : ℕ)
    → LeadsOnce h r → 0 < left → Lowered h r s (width (body_at h s)) old new (link_at old s) zr
    → FollowsFields h Every r s (width (body_at h s)) mid next orphans result → now ≡ steps + width (body_at h s)
    → Down h r roots first before most start old mid (Some s) orphans left steps
    → Down h r roots first before most start new next zr result (left - 1) now
down-more h r roots first before most start old new mid next s zr orphans result left steps now one some low fields cost
    d =
    let a = count-pop h r roots first d.done d.zeros old s d.counts in
    let b = low.counts roots first (s ∷ d.done) a.0 a.1 in
    let c = count-done h r roots first (owed h s (width (body_at h s))) nothing (s ∷ d.done) b.0 new zr
    (λ x l. owed-none h s x) b.1 in
    let xs = in_turn d.done in
    let ow = turn-owners h r roots (s ∷ d.done) one c.spends in
    let long = snoc-length xs s in
    let at : get_or (xs ++ s ∷ []) (length xs) 0 ≡ s = snoc-new xs s (length xs) refl in
    let g = fields.chained (xs ++ s ∷ []) [] before (length xs) ow (λ key q p k to m. absurd m)
    (omega (arith, long)) at tt (owned-grow h r xs s before mid orphans d.owned) in
    let e = owned_next h Every r (xs ++ s ∷ []) [] before (length xs)
    (width (body_at h s)) next result (omega (arith, ap (λ z. width (body_at h z)) at)) g in
    let P : ℕ → Type 0 = λ n. ChainsOwned h Every r (xs ++ s ∷ []) [] before n 0 next result in
    record {
      done = s ∷ d.done;
      zeros = b.0;
      counts = c;
      owned = subst P (sym long) e;
      bound = omega (arith, d.bound, some);
      cost = omega (arith, d.cost, cost, sum_by-cons (λ p. width (body_at h p)) s d.done);
    }

-- a cell is left where the zero list has a head
pub down-left : (h : Heap) (r : ℕ) (roots : Roots) (first : Table) (before : RegionTable) (most start : ℕ) (t : Table)
    (mid : RegionTable) (s : ℕ) (orphans : Option ℕ) (left steps : ℕ) → region_size h r ≤ most
    → Down h r roots first before most start t mid (Some s) orphans left steps → 0 < left
down-left h r roots first before most start t mid s orphans left steps m d =
    let a = count-pop h r roots first d.done d.zeros t s d.counts in
    let b = done-bound h r roots (s ∷ d.done) a.1.spends in
    omega (arith, b, m, d.bound)

-- the head of the zero list lies in the region
pub down-lies : (h : Heap) (r : ℕ) (roots : Roots) (first : Table) (before : RegionTable) (most start : ℕ) (t : Table)
    (mid : RegionTable) (s : ℕ) (orphans : Option ℕ) (left steps : ℕ)
    → Down h r roots first before most start t mid (Some s) orphans left steps → LiesIn h r s
down-lies h r roots first before most start t mid s orphans left steps d =
    let a = count-pop h r roots first d.done d.zeros t s d.counts in a.1.spends.0

-- all fields of the head are owed
pub down-ready : (h : Heap) (r : ℕ) (roots : Roots) (first : Table) (before : RegionTable) (most start : ℕ) (t : Table)
    (mid : RegionTable) (s : ℕ) (orphans : Option ℕ) (left steps : ℕ)
    → Down h r roots first before most start t mid (Some s) orphans left steps → IsReady h r s t (link_at t s)
down-ready h r roots first before most start t mid s orphans left steps d =
    let a = count-pop h r roots first d.done d.zeros t s d.counts in
    record { roots = roots; first = first; done = s ∷ d.done; zeros = a.0; is = a.1 }

-- no zero is left
pub down-ended : (h : Heap) (r : ℕ) (roots : Roots) (first : Table) (before : RegionTable) (most start : ℕ) (t : Table)
    (mid : RegionTable) (orphans : Option ℕ) (left steps : ℕ)
    → Down h r roots first before most start t mid None orphans left steps
    → CountedDown h r roots first before start t mid orphans steps
down-ended h r roots first before most start t mid orphans left steps d =
    let e : d.zeros ≡ [] = empty d.zeros d.counts.chain in
    let C : List ℕ → Type 0 = λ z. Counts h r roots first nothing d.done z t None in
    record { done = d.done; counts = subst C e d.counts; owned = d.owned; cost = d.cost }
  where
    empty : (zs : List ℕ) → Chained t.links None zs → zs ≡ []
    empty [] c = refl
    empty (z ∷ zs) c = let q : None ≡ Some z = c.0 in cc
