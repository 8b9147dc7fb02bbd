-- From the forest to the parts of a collection, and from the parts to the whole (docs/architecture.md, "Mark and
-- sweep").
use Rattle.std.proofs.Common.{◌≡◌, ◌≢◌, ℕ, List, length, Option, Some, None, get_or, refl, ap, sym, ◌∙◌, subst}
use Rattle.std.proofs.Common.{arith, ◌⊎◌, inl, inr, option_map}
use Rattle.std.proofs.lemmas.Bool.{cases_eq}
use Rattle.std.proofs.lemmas.Option.{slice_get_within, slice_get-get_or, same_Some}
use Rattle.rg_base.specs.declared.words.Manager.TheVariants.{Count, Trace}
use Rattle.rg_base.proofs.Callers.Labels.{region-same}
use Rattle.rg_cells.specs.declared.cell.Body.{Body}
use Rattle.rg_cells.specs.Table.{Heap, Table, field_at, body_at, body_in, mark_at, high_of}
use Rattle.rg_regions.specs.Table.{Record, RegionTable, record_at, HasNumber}
use Rattle.rg_regions.specs.Reach.{LiesIn, Roots, Reach}
use Rattle.rg_regions.specs.Grove.{Grove, Members}
use Rattle.rg_trace.specs.Marking.{Marked}
use Rattle.rg_trace.specs.Sweeping.{Swept, Sweeps}
use Rattle.rg_regions.specs.Collection.{ChainsOrphans, Lost}
use Rattle.rg_trace.specs.Orphans.{FollowsWhite, IsWhite}
use Rattle.rg_trace.specs.Collected.{Collected}
use Rattle.rg_regions.specs.Reach.{OutOfReach}
use Rattle.rg_trace.proofs.CellsSwept.{swept-lists}
use Rattle.rg_trace.proofs.Marks.Colours.{walk-lies}
use Rattle.rg_regions.proofs.Callers.OwnedFound.{lost_each}
use Rattle.rg_regions.proofs.Callers.MembersSwept.{lists_of, members_of}
use Rattle.rg_regions.proofs.Callers.Told.{owns_once, lies_or_not}

-- a cell of a trace region is white
pub all-white : (c : Table) (t : RegionTable) (key : ℕ) (rec : Record) → Grove c t → record_at t key ≡ Some rec
    → rec.manager ≡ Trace → (s : ℕ)
    → LiesIn c.heap rec.number s → mark_at c s ≡ 0
all-white c t key rec g e m s l = g.unmarked s (λ k r f n i.
    let same : r.number ≡ rec.number = region-same r.number rec.number (sym i ∙ l) in
    let a : HasNumber t k rec.number = ap (option_map (λ (z : Record). z.number)) f ∙ ap Some same in
    let b : HasNumber t key rec.number = ap (option_map (λ (z : Record). z.number)) e in
    let q : k ≡ key = g.numbers k key rec.number a b in
    let z : r ≡ rec = same_Some r rec (sym f ∙ ap (record_at t) q ∙ e) in
    let w : Count ≡ Trace = sym n ∙ ap (λ (y : Record). y.manager) z ∙ m in
    cc)

-- before the first turn of sweeping
pub swept-start : (d : Table) (r : ℕ) (members : List ℕ) → Members d.heap r members
    → Swept d r members (length members) d
swept-start d r members ms =
    let a = lists_of d.heap r members ms in
    record {
      fits = omega arith;
      lie = a.lie;
      once = a.once;
      all = a.all;
      before = λ j l. refl;
      after = λ j l n. absurd (omega (arith, l, n));
      black = λ s l n. refl;
      others = λ s l. (refl, refl, refl);
      only = λ s l. refl;
      either = λ s l. inl refl;
      next = refl;
      high = refl;
    }

-- the same behind marking
pub swept-begin : (c d : Table) (t : RegionTable) (key : ℕ) (rec : Record) → Grove c t → record_at t key ≡ Some rec
    → d.heap ≡ c.heap
    → Swept d rec.number rec.members (length rec.members) d
swept-begin c d t key rec g e h =
    let M : Heap → Type 0 = λ z. Members z rec.number rec.members in
    swept-start d rec.number rec.members (subst M (sym h) (g.members key rec e))

-- what a marked region's marks say, turned round
pub white-gone : (h : Heap) (r : ℕ) (roots : Roots) (old new : Table) (s : ℕ) → Marked h r roots old new → LiesIn h r s
    → (Reach h r roots s → ⊥)
    → mark_at new s ≡ 0
white-gone h r roots old new s m l n =
    elim (cases_eq (mark_at new s) 0) [ inl e ↦ e | inr d ↦ absurd (n (m.only s l (omega arith))) ]

pub not-grey : (h : Heap) (r : ℕ) (roots : Roots) (old new : Table) → Marked h r roots old new → (s : ℕ) → LiesIn h r s
    → mark_at new s ≢ 1
not-grey h r roots old new m s l e = let q = m.reached s (m.only s l (omega (arith, e))) in omega (arith, q, e)

-- the parts together
pub collected : (c d : Table) (t u : RegionTable) (key : ℕ) (rec : Record) (roots : Roots) (cells : Table)
    (regions : RegionTable) → record_at t key
    ≡ Some rec → Marked c.heap rec.number roots c d → u.records ≡ t.records → u.next ≡ t.next
    → Sweeps d u key cells regions 0
    → Collected c t key rec roots cells regions
collected c d t u key rec roots cells regions e m a b w =
    let f : record_at u key ≡ Some rec = ap (λ (rs : List (Option Record)). get_or rs key None) a ∙ e in
    let s = w.left rec f in
    let h : d.heap ≡ c.heap = m.heap in
    let D : Heap → ℕ → Type 0 = λ z x. LiesIn z rec.number x in
    let to_d : (x : ℕ) → LiesIn c.heap rec.number x → LiesIn d.heap rec.number x = λ x l. let P : Heap
    → Type 0 = λ z. D z x in subst P (sym h) l in
    let of_d : (x : ℕ) → LiesIn d.heap rec.number x → LiesIn c.heap rec.number x = λ x l. let P : Heap
    → Type 0 = λ z. D z x in subst P h l in
    let bodies : (x : ℕ) → body_at d.heap x ≡ body_at c.heap x = λ x. ap (λ (z : Heap). body_at z x) h in
    record {
      shrinks = record {
        fewer = λ x. elim (lies_or_not c.heap rec.number x) [
          | inl z ↦ inl (ap body_in (s.5.others x (λ l. z (of_d x l))).0 ∙ bodies x)
          | inr l ↦ elim (s.5.either x (to_d x l)) [ inl a ↦ inl (a ∙ bodies x) | inr a ↦ inr a.0 ]
        ];
        others = λ x n. let o = s.5.others x (λ l. n (of_d x l)) in
            (ap body_in o.0 ∙ bodies x, o.1 ∙ (m.outside x n).0, o.2 ∙ (m.outside x n).1);
        serials = s.5.next ∙ ap (λ (z : Heap). z.next) h;
        high = s.5.high ∙ ap high_of h;
        numbers = w.next ∙ b;
        records = λ k n. w.others k n ∙ ap (λ (rs : List (Option Record)). get_or rs k None) a;
        own = (s.0, s.1, s.2, s.3, s.4, members_of cells.heap rec.number s.0.members (swept-lists d rec.number s.0.members 0 cells s.5));
      };
      kept = λ x r. s.5.black x (to_d x (walk-lies c.heap rec.number roots r.0 x r.2)) (m.reached x r) ∙ bodies x;
      gone = λ x l n.
          let z = white-gone c.heap rec.number roots c d x m l n in
          let off : LiesIn cells.heap rec.number x → ⊥ = λ i.
          let p = s.5.all x i in
          let q = s.5.after p.0 (omega arith) p.1 in
          let v : get_or d.marks (get_or s.0.members p.0 0) 0 ≡ mark_at d x = ap (λ y. get_or d.marks y 0) p.2 in
          omega (arith, q.0, v, z) in
          elim (s.5.either x (to_d x l)) [
            | inl a ↦ absurd (off (ap (option_map (λ (y : Body). y.label)) a ∙ to_d x l))
            | inr a ↦ a.0
          ];
      unmarked = λ x l. elim (s.5.either x (to_d x l)) [
        | inl a ↦ let i : LiesIn cells.heap rec.number x = ap (option_map (λ (y : Body). y.label)) a
            ∙ to_d x l in let p = s.5.all x i in let q = s.5.after p.0 (omega arith) p.1 in
            ap (λ y. mark_at cells y) (sym p.2) ∙ q.1
        | inr a ↦ a.1
      ];
      within = λ x i.
          let l : LiesIn c.heap rec.number x =
          of_d x (ap (option_map (λ (y : Body). y.label)) (sym (s.5.only x i)) ∙ i) in
          let p = s.5.all x i in
          let q = s.5.after p.0 (omega arith) p.1 in
          let v : get_or d.marks (get_or s.0.members p.0 0) 0 ≡ mark_at d x = ap (λ y. get_or d.marks y 0) p.2 in
          m.only x l (omega (arith, q.0, v));
      closed = λ x k to n f i.
          let z = m.closed x k to (walk-lies c.heap rec.number roots n.0 x n.2) (m.reached x n) f i in
          m.only to i (omega (arith, z));
    }

-- exactly the regions that lost their owner were chained
pub orphaning : (c d : Table) (t u : RegionTable) (key : ℕ) (rec : Record) (roots : Roots) (result : Option ℕ)
    → Grove c t → record_at t key
    ≡ Some rec → Marked c.heap rec.number roots c d
    → FollowsWhite d.heap d.marks rec.number rec.members (length rec.members) t u result
    → ChainsOrphans c.heap t rec.number (OutOfReach c.heap rec.number roots) u.links result
orphaning c d t u key rec roots result g e m o =
    let h : d.heap ≡ c.heap = m.heap in
    let k = o.orphans in
    let ms = g.members key rec e in
    let ow = owns_once c t key rec g e in
    let of_lies : (q x : ℕ) → LiesIn c.heap q x → LiesIn d.heap q x = λ q x l. let P : Heap
    → Type 0 = λ z. LiesIn z q x in subst P (sym h) l in (
      k.0,
      record {
        chain = k.1.chain;
        each = λ y n.
            let w = lost_each d.heap (IsWhite d.marks) (OutOfReach c.heap rec.number roots) rec.number rec.members t
            (length rec.members) 0 u result k.0 (λ p l g. (
              of_lies rec.number (get_or rec.members p 0) (ow.lie p l),
              λ r. let z = m.reached (get_or rec.members p 0) r in omega (arith, z, g),
            )) k.1 y n in
            let P : Heap → Type 0 = λ z. Lost z rec.number (OutOfReach c.heap rec.number roots) w.0 in
            (w.0, w.1, subst P h w.2);
        all = λ q y l n.
            let a = ms.all l.slot l.from in
            let within = slice_get_within rec.members a.0 l.slot a.1 in
            let is : get_or rec.members a.0 0 ≡ l.slot = same_Some (get_or rec.members a.0 0) l.slot
            (sym (slice_get-get_or rec.members a.0 0 within) ∙ a.1) in
            k.1.all q y (record {
              place = a.0;
              field = l.field;
              to = l.to;
              early = inl within;
              within = within;
              gone = ap (λ z. mark_at d z) is ∙ white-gone c.heap rec.number roots c d l.slot m l.from l.gone;
              leads = ap (λ z. field_at d.heap z l.field) is ∙ ap (λ (z : Heap). field_at z l.slot l.field) h ∙ l.leads;
              lies = of_lies q l.to l.lies;
              other = l.other;
            }) n;
        apart = k.1.apart;
      },
    )
