-- Before the first turn of counting down.
use Rattle.std.proofs.Common.{◌≡◌, ℕ, List, [], length, Option, Some, None, get_or, refl, ap, sym, ◌∙◌, arith, inl, inr}
use Rattle.std.proofs.Common.{slice_get}
use Rattle.std.proofs.lemmas.Option.{slice_get_within}
use Rattle.rg_base.specs.declared.value.Word.{Word}
use Rattle.rg_base.specs.declared.value.Word.TheVariants.{Slot}
use Rattle.rg_cells.specs.Table.{Heap, Table, link_at, mark_at}
use Rattle.rg_regions.specs.Table.{RegionTable}
use Rattle.rg_regions.specs.Reach.{LiesIn, Roots, Stands, is_bridge, in_slots, in_temps}
use Rattle.rg_regions.specs.Grove.{Members, referrers}
use Rattle.rg_regions.proofs.Callers.OwnedFound.{owned_begin}
use Rattle.rg_regions.specs.Owned.{Every}
use Rattle.rg_count.specs.Inner.Flags.{Cleared, Flagged, Among, InTemps, Rooted}
use Rattle.rg_regions.specs.Same.{LinksStay}
use Rattle.rg_count.specs.Inner.Counting.{Counts, Listed, nothing, Down}
use Rattle.rg_regions.proofs.Callers.Shares.{has-cases}

pub rooted-of : (h : Heap) (r : ℕ) (members : List ℕ) (bridge : Option ℕ) (slots : List Word) (temps : List ℕ)
    (old a b d e : Table) → Members h r members → Cleared members (length members) old a
    → Flagged h r (λ s. bridge ≡ Some s) a b → Flagged h r (Among (λ k. slice_get slots k) (length slots)) b d
    → Flagged h r (InTemps h temps (length temps)) d e
    → Rooted h r (record { bridge = bridge; slots = slots; temps = temps }) e
rooted-of h r members bridge slots temps old a b d e m cl fb fw ft =
    let roots : Roots = record { bridge = bridge; slots = slots; temps = temps } in
    let last : (s : ℕ) → link_at d s ≡ Some s
    → link_at e s ≡ Some s = λ s q. elim (ft.only s) [ inl z ↦ z ∙ q | inr z ↦ z.1 ] in
    let mid : (s : ℕ) → link_at b s ≡ Some s
    → link_at d s ≡ Some s = λ s q. elim (fw.only s) [ inl z ↦ z ∙ q | inr z ↦ z.1 ] in
    record {
      all = λ s l st. by_root s l st last mid;
      only = λ s l q. elim (ft.only s) [
        | inr z ↦ let y = z.0 in in_temps y.0 y.1 y.2 y.4 y.5
        | inl z ↦ elim (fw.only s) [
          | inr y ↦ let x = y.0 in in_slots x.0 x.2
          | inl y ↦ elim (fb.only s) [
            | inr x ↦ is_bridge x.0
            | inl x ↦
                let i = m.all s l in
                let n : None ≡ Some s = sym (cl.none i.0 s (slice_get_within members i.0 s i.1) i.1) ∙ sym x ∙ sym y
                ∙ sym z ∙ q in
                cc
          ]
        ]
      ];
    }
  where
    by_root : (s : ℕ) → LiesIn h r s → Stands h (record { bridge = bridge; slots = slots; temps = temps }) s
        → ((s : ℕ) → link_at d s ≡ Some s → link_at e s ≡ Some s)
        → ((s : ℕ) → link_at b s ≡ Some s → link_at d s ≡ Some s) → link_at e s ≡ Some s
    by_root s l (is_bridge q) last mid = last s (mid s (fb.found s q l))
    by_root s l (in_slots k q) last mid = last s (fw.found s (k, slice_get_within slots k (Slot s) q, q) l)
    by_root s l (in_temps i k temp q f) last mid = ft.found s (i, k, temp, slice_get_within temps i temp q, q, f) l

-- the links of other regions' cells stay
pub links-of : (h : Heap) (r : ℕ) (members : List ℕ) (P Q S : ℕ → Type 0) (old a b d e : Table) → Members h r members
    → Cleared members (length members) old a → Flagged h r P a b → Flagged h r Q b d → Flagged h r S d e
    → LinksStay h r old e
links-of h r members P Q S old a b d e m cl fb fw ft =
    λ s n. ft.links s n ∙ fw.links s n ∙ fb.links s n ∙ cl.others s (λ i q. n (m.lie i s q))

pub counts-begin : (h : Heap) (r : ℕ) (roots : Roots) (first : Table) (members : List ℕ) (a b : Table) (head : Option ℕ)
    → Members h r members → ((s : ℕ) → LiesIn h r s → mark_at first s ≡ referrers h r s) → a.heap ≡ h
    → a.marks ≡ first.marks → LinksStay h r first a → Rooted h r roots a
    → (w : Listed members (length members) a b head) → Counts h r roots first nothing [] w.zeros b head
counts-begin h r roots first members a b head m counts ah am ls rt w =
    let marks : b.marks ≡ first.marks = w.marks ∙ am in
    let mark : (x : ℕ) → mark_at b x ≡ mark_at first x = λ x. ap (λ ms. get_or ms x 0) marks in
    let was : (x : ℕ) → mark_at a x ≡ mark_at first x = λ x. ap (λ ms. get_or ms x 0) am in
    record {
      heap = w.heap ∙ ah;
      sum = λ x l. omega (arith, mark x, counts x l);
      spends = tt;
      chain = w.chain;
      zero_lies = λ x n. let e = w.each x n in m.lie e.0 x e.2;
      zero_mark = λ x n. let e = w.each x n in mark x ∙ sym (was x) ∙ e.3;
      zero_root = λ x n s. let e = w.each x n in e.4 (rt.all x (m.lie e.0 x e.2) s);
      zero_done = λ x n d. d;
      done_mark = λ x n. absurd n;
      all = λ x l z n.
          let i = m.all x l in
          inr (w.all i.0 x (slice_get_within members i.0 x i.1) i.1 (was x ∙ sym (mark x) ∙ z)
          (λ q. n (rt.only x l q)));
      rooted = λ x l s.
          let q = rt.all x l s in
          w.same x (λ n. let e = w.each x n in e.4 q) ∙ q;
      only = λ x l q. elim (has-cases w.zeros x) [
        | inl n ↦ absurd (w.off x n q)
        | inr n ↦ rt.only x l (sym (w.same x n) ∙ q)
      ];
      outside = λ x n. (mark x, w.same x (λ z. let e = w.each x z in n (m.lie e.0 x e.2)) ∙ ls x n);
    }

pub down-begin : (h : Heap) (r : ℕ) (roots : Roots) (first : Table) (members : List ℕ) (before : RegionTable)
    (a b : Table) (head : Option ℕ) (left start steps : ℕ) → steps ≡ start → Members h r members
    → ((s : ℕ) → LiesIn h r s → mark_at first s ≡ referrers h r s) → a.heap ≡ h → a.marks ≡ first.marks
    → LinksStay h r first a → Rooted h r roots a → Listed members (length members) a b head
    → Down h r roots first before left start b before head None left steps
down-begin h r roots first members before a b head left start steps cost m counts ah am ls rt w = record {
  done = [];
  zeros = w.zeros;
  counts = counts-begin h r roots first members a b head m counts ah am ls rt w;
  owned = owned_begin h Every r [] [] before None refl;
  bound = omega arith;
  cost = omega (arith, cost);
}
