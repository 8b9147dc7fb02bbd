-- From the forest to the parts of a collection, and from the parts to the whole.
use Rattle.std.proofs.Common.{◌≡◌, ℕ, List, [], length, Option, Some, None, get_or, refl, ap, sym, ◌∙◌, subst}
use Rattle.std.proofs.Common.{arith, ◌⊎◌, inl, inr, option_map}
use Rattle.rg_cells.specs.declared.cell.Body.{Body}
use Rattle.rg_base.specs.declared.object.Label.TheVariants.{Region}
use Rattle.rg_cells.specs.Table.{Heap, Table, field_at, body_at, body_in, mark_at, link_at, high_of}
use Rattle.rg_regions.specs.Table.{Record, RegionTable, record_at, Has}
use Rattle.rg_regions.specs.Reach.{LiesIn, Roots}
use Rattle.rg_regions.specs.Spent.{Spent}
use Rattle.rg_regions.specs.Grove.{Grove, referrers}
use Rattle.rg_regions.specs.Owned.{Every, ChainsOwned}
use Rattle.rg_regions.specs.Collection.{ChainsOrphans}
use Rattle.rg_regions.specs.Same.{IsSameCell}
use Rattle.rg_regions.proofs.Callers.OwnedFound.{lost_each}
use Rattle.rg_regions.proofs.Callers.Fewer.{total_alike}
use Rattle.rg_regions.proofs.Callers.Told.{lies_or_not}
use Rattle.rg_count.specs.Inner.Counting.{weight, nothing, in_turn, Counts}
use Rattle.rg_count.specs.Inner.Sweeping.{Goes, Swept, Sweeps}
use Rattle.rg_count.specs.Counted.{Counted}
use Rattle.rg_regions.proofs.Callers.Shares.{has-cases, without, without-off, without-in, parted}
use Rattle.rg_regions.proofs.Callers.MembersSwept.{Lists, lists_of, members_of}
use Rattle.rg_count.proofs.CellsSwept.{swept-lists}
use Rattle.rg_count.proofs.CountsLowered.{referrers-total, spends-distinct, spends-lie}
use Rattle.rg_count.proofs.SpentInTurn.{done-spent, spent-done, has-turn, turn-has, no-root}

-- before the first turn of sweeping
pub swept-begin : (c d : Table) (t : RegionTable) (key : ℕ) (rec : Record) → Grove c t → record_at t key ≡ Some rec
    → d.heap ≡ c.heap → Swept d rec.number rec.members (length rec.members) d
swept-begin c d t key rec g e h =
    let L : Heap → Type 0 = λ z. Lists z rec.number rec.members in
    let a = subst L (sym h) (lists_of c.heap rec.number rec.members (g.members key rec e)) in
    record {
      fits = omega arith;
      lie = a.lie;
      once = a.once;
      all = a.all;
      after = λ j l n q. absurd (omega (arith, l, n));
      either = λ s l. inl (refl, refl, refl);
      others = λ s l. (refl, refl, refl);
      next = refl;
      high = refl;
    }

-- a cell without a count and a flag is done, and no other
pub goes-done : (h : Heap) (r : ℕ) (roots : Roots) (first : Table) (done : List ℕ) (t : Table)
    → Counts h r roots first nothing done [] t None → (s : ℕ) → LiesIn h r s → Goes t s → Has done s
goes-done h r roots first done t c s l g =
    elim (c.all s l g.0 (λ n. g.1 (c.rooted s l n))) [ inl a ↦ a | inr a ↦ absurd a ]

pub done-goes : (h : Heap) (r : ℕ) (roots : Roots) (first : Table) (done : List ℕ) (t : Table)
    → Counts h r roots first nothing done [] t None → (s : ℕ) → LiesIn h r s → Has done s → Goes t s
done-goes h r roots first done t c s l m = (c.done_mark s m, (λ q. no-root h r roots done c.spends s m (c.only s l q)))

-- where the cells that are done are gone, the marks are counts again
pub counts-left : (h new : Heap) (r : ℕ) (roots : Roots) (first : Table) (done : List ℕ) (t : Table) (s : ℕ)
    → Counts h r roots first nothing done [] t None → LiesIn h r s → ((x : ℕ) → Has done x → body_at new x ≡ None)
    → ((x : ℕ) → (Has done x → ⊥) → body_at new x ≡ body_at h x) → mark_at t s ≡ referrers new r s
counts-left h new r roots first done t s c l gone stay =
    let a = parted (weight r s) refl h.slots done (spends-distinct h r roots done c.spends) in
    let b = total_alike (weight r s) refl (without h.slots done) new.slots (λ k. elim (has-cases done k) [
      | inl m ↦ ap (weight r s) (gone k m) ∙ sym (ap (λ o. weight r s (body_in o)) (without-in h.slots done k m))
      | inr n ↦ ap (weight r s) (stay k n) ∙ sym (ap (λ o. weight r s (body_in o)) (without-off h.slots done k n))
    ]) in
    omega (arith, c.sum s l, a, b, referrers-total h r s, referrers-total new r s)

-- the parts together
pub counted : (c d : Table) (t u : RegionTable) (key : ℕ) (rec : Record) (roots : Roots) (first : Table) (done : List ℕ)
    (cells : Table) (regions : RegionTable) → first ≡ c → record_at t key ≡ Some rec
    → Counts c.heap rec.number roots first nothing done [] d None → u.records ≡ t.records → u.next ≡ t.next
    → Sweeps d u key cells regions 0 → Counted c t key rec roots cells regions
counted c d t u key rec roots first done cells regions fm e k a b w =
    let f : record_at u key ≡ Some rec = ap (λ (rs : List (Option Record)). get_or rs key None) a ∙ e in
    let s = w.left rec f in
    let h : d.heap ≡ c.heap = k.heap in
    let r = rec.number in
    let to_d : (x : ℕ) → LiesIn c.heap r x → LiesIn d.heap r x = λ x l. let P : Heap → Type 0 = λ z. LiesIn z r x in
    subst P (sym h) l in
    let of_d : (x : ℕ) → LiesIn d.heap r x → LiesIn c.heap r x = λ x l. let P : Heap → Type 0 = λ z. LiesIn z r x in
    subst P h l in
    let bodies : (x : ℕ) → body_at d.heap x ≡ body_at c.heap x = λ x. ap (λ (z : Heap). body_at z x) h in
    let is_spent : (x : ℕ) → Has done x → Spent c.heap r roots x = λ x m. done-spent c.heap r roots done x k.spends m in
    let is_done : (x : ℕ) → Spent c.heap r roots x → Has done x = λ x m. spent-done c.heap r roots first done d k x m in
    let lie : (x : ℕ) → Has done x → LiesIn c.heap r x = spends-lie c.heap r roots done k.spends in
    let lies_same : (x : ℕ) → body_at cells.heap x ≡ body_at d.heap x → LiesIn c.heap r x
    → LiesIn cells.heap r x = λ x q l. ap (option_map (λ (y : Body). y.label)) (q ∙ bodies x) ∙ l in
    let stays : (x : ℕ) → LiesIn cells.heap r x → Goes d x → ⊥ = λ x l g.
    let p = s.5.all x l in
    let G : ℕ → Type 0 = λ z. Goes d z in
    s.5.after p.0 (omega arith) p.1 (subst G (sym p.2) g) in
    let gone : (x : ℕ) → Has done x → (body_at cells.heap x ≡ None) × (mark_at cells x ≡ 0) = λ x m.
    let l = lie x m in
    elim (s.5.either x (to_d x l)) [
      | inl q ↦ absurd (stays x (lies_same x q.0 l) (done-goes c.heap r roots first done d k x l m))
      | inr q ↦ (q.0, q.1)
    ] in
    let far : (x : ℕ) → (LiesIn c.heap r x → ⊥) → IsSameCell c cells x = λ x n.
    let o = s.5.others x (λ l. n (of_d x l)) in
    let p = k.outside x n in (
      ap body_in o.0 ∙ bodies x,
      o.1 ∙ p.0 ∙ ap (λ (z : Table). mark_at z x) fm,
      o.2 ∙ p.1 ∙ ap (λ (z : Table). link_at z x) fm,
    ) in
    let near : (x : ℕ) → LiesIn c.heap r x → (Has done x → ⊥)
    → (body_at cells.heap x ≡ body_at c.heap x) × (mark_at cells x ≡ mark_at d x) = λ x l n.
    elim (s.5.either x (to_d x l)) [
      | inl q ↦ (q.0 ∙ bodies x, q.1)
      | inr q ↦ absurd (n (goes-done c.heap r roots first done d k x l q.2))
    ] in
    let stay : (x : ℕ) → (Has done x → ⊥)
    → body_at cells.heap x ≡ body_at c.heap x = λ x n. elim (lies_or_not c.heap r x) [
      | inl z ↦ (far x z).0
      | inr l ↦ (near x l n).0
    ] in
    let within : (x : ℕ) → LiesIn cells.heap r x → Has done x
    → ⊥ = λ x l m. stays x l (done-goes c.heap r roots first done d k x (lie x m) m) in
    let was : (x : ℕ) → LiesIn cells.heap r x
    → LiesIn c.heap r x = λ x l. ap (option_map (λ (y : Body). y.label)) (sym (stay x (within x l))) ∙ l in
    record {
      shrinks = record {
        fewer = λ x. elim (has-cases done x) [ inl m ↦ inr (gone x m).0 | inr n ↦ inl (stay x n) ];
        others = far;
        serials = s.5.next ∙ ap (λ (z : Heap). z.next) h;
        high = s.5.high ∙ ap high_of h;
        numbers = w.next ∙ b;
        records = λ k n. w.others k n ∙ ap (λ (rs : List (Option Record)). get_or rs k None) a;
        own = (s.0, s.1, s.2, s.3, s.4, members_of cells.heap r s.0.members (swept-lists d r s.0.members 0 cells s.5));
      };
      kept = λ x l n. stay x (λ m. n (is_spent x m));
      gone = λ x m. (gone x (is_done x m)).0;
      counts = λ x l. (near x (was x l) (within x l)).1
          ∙ counts-left c.heap cells.heap r roots first done d x k (was x l) (λ y m. (gone y m).0) stay;
      unmarked = λ x m. (gone x (is_done x m)).1;
      freed = λ x l q. elim (has-cases done x) [
        | inl m ↦ is_spent x m
        | inr n ↦
            let z : None ≡ Some (Region r) = sym (ap (option_map (λ (y : Body). y.label)) q)
            ∙ lies_same x (stay x n ∙ sym (bodies x)) l in
            cc
      ];
    }

-- exactly the regions that lost their owner were chained
pub orphaning : (c d : Table) (t u : RegionTable) (r : ℕ) (roots : Roots) (first : Table) (done : List ℕ)
    (result : Option ℕ) → Counts c.heap r roots first nothing done [] d None
    → ChainsOwned c.heap Every r (in_turn done) [] t (length (in_turn done)) 0 u result
    → ChainsOrphans c.heap t r (Spent c.heap r roots) u.links result
orphaning c d t u r roots first done result k o = (
  o.0,
  record {
    chain = o.1.chain;
    each = lost_each c.heap Every (Spent c.heap r roots) r (in_turn done) t (length (in_turn done)) 0 u result o.0 (λ p l g. (
      spends-lie c.heap r roots done k.spends (get_or (in_turn done) p 0) (turn-has done p l),
      done-spent c.heap r roots done (get_or (in_turn done) p 0) k.spends (turn-has done p l),
    )) o.1;
    all = λ q y l n.
        let a = has-turn done l.slot (spent-done c.heap r roots first done d k l.slot l.gone) in
        o.1.all q y (record {
          place = a.0;
          field = l.field;
          to = l.to;
          early = inl a.1;
          within = a.1;
          gone = tt;
          leads = ap (λ z. field_at c.heap z l.field) a.2 ∙ l.leads;
          lies = l.lies;
          other = l.other;
        }) n;
    apart = o.1.apart;
  },
)
