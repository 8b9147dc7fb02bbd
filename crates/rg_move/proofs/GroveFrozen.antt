-- Where regions are frozen with all that they own, the forest is kept (docs/architecture.md, "Freeze and merge").
use Rattle.std.proofs.Common.{◌≡◌, ℕ, cond, Option, Some, None, refl, ap, sym, ◌∙◌, subst, ◌⊎◌, inl, inr, option_map}
use Rattle.std.proofs.Common.{count_by, false}
use Rattle.rg_base.specs.declared.object.Label.TheVariants.{Region, Frozen}
use Rattle.rg_cells.specs.declared.cell.Body.{Body}
use Rattle.rg_cells.specs.Table.{Table, body_at, mark_at, label_at}
use Rattle.rg_regions.specs.Table.{Record, RegionTable, record_at, HasNumber}
use Rattle.rg_regions.specs.Reach.{LiesIn, belongs}
use Rattle.rg_regions.specs.Grove.{Grove, Parent, Above, direct, further, referrers, leads_to}
use Rattle.rg_regions.proofs.Callers.Told.{number_of, labelled_held, one_region}
use Rattle.rg_regions.proofs.Callers.Fewer.{total_alike, belongs_not}
use Rattle.rg_move.specs.Inner.Freezes.{IsGone, Hardened}
use Rattle.rg_move.proofs.PartFrozen.{label_there, record_was, number_was, not_gone, lies_on, gone_or_here, either}
use Rattle.rg_move.proofs.PartFrozen.{fields_same, lay, in_table, parent_was}

module _ (c : Table) (t : RegionTable) (cells : Table) (regions : RegionTable) (g : Grove c t)
    (w : Hardened c t cells regions)
    (down : (p q : ℕ) → Parent c.heap p q → IsGone t regions p → IsGone t regions q) where
  above_was : (p q : ℕ) → Above cells.heap p q → Above c.heap p q
  above_was p q (direct a) = direct (parent_was c t cells regions g w p q a)
  above_was p q (further {q = m} b a) = further (above_was p m b) (parent_was c t cells regions g w m q a)

  here : (k : ℕ) (z : Record) → record_at regions k ≡ Some z → IsGone t regions z.number → ⊥
  here k z a = not_gone c t cells regions g w k z.number (number_of regions k z.number z a refl)

  frozen_on : (s : ℕ) → label_at c.heap s ≡ Some Frozen → label_at cells.heap s ≡ Some Frozen
  frozen_on s l = elim (either c t cells regions g w s) [
    | inl a ↦ let q : Some Frozen ≡ Some (Region a.0) = sym l ∙ a.2 in cc
    | inr a ↦ ap (option_map (λ (b : Body). b.label)) a.1.0 ∙ l
  ]

  frozen_now : (q s : ℕ) → IsGone t regions q → LiesIn c.heap q s → label_at cells.heap s ≡ Some Frozen
  frozen_now q s a l =
      ap (option_map (λ (b : Body). b.label)) (w.froze q s a l).0
      ∙ label_there Frozen (body_at c.heap s) (labelled_held c.heap s (Region q) l)

  -- what a field of a region leads to: it is frozen, or lies where it lay
  frozen_or_here : (q s : ℕ) → LiesIn c.heap q s → (label_at cells.heap s ≡ Some Frozen) ⊎ LiesIn cells.heap q s
  frozen_or_here q s l = elim (gone_or_here c t cells regions g w q s l) [
    | inl a ↦ inl (frozen_now q s a l)
    | inr a ↦ inr a.1
  ]

  -- a record of a region that hasn't gone is there
  record_on : (k q o : ℕ) (z : Record) → record_at t k ≡ Some z → z.number ≡ q → HasNumber regions o q
      → record_at regions k ≡ Some z
  record_on k q o z e n h = elim (w.records k) [
    | inl r ↦ r ∙ e
    | inr r ↦ absurd (not_gone c t cells regions g w o q h (k, number_of t k q z e n, r))
  ]

  -- the region of a cell that has gone, by its number
  one_gone : (p q s : ℕ) → LiesIn c.heap p s → LiesIn c.heap q s → IsGone t regions p → IsGone t regions q
  one_gone p q s i l a = let P : ℕ → Type 0 = λ z. IsGone t regions z in subst P (one_region c.heap s p q i l) a

  weightless : (q s : ℕ) (b : Option Body) → belongs q b ≡ false
      → cond {A = ℕ} (belongs q b) (elim b [ None ↦ 0 | Some b ↦ count_by (leads_to s) b.fields ]) 0 ≡ 0
  weightless q s b e = rw e refl

  referrers_on : (q s : ℕ) → (IsGone t regions q → ⊥) → referrers cells.heap q s ≡ referrers c.heap q s
  referrers_on q s n =
      let F : Option Body → ℕ = λ b. cond (belongs q b) (elim b [ None ↦ 0 | Some b ↦ count_by (leads_to s) b.fields ])
      0 in
      total_alike F refl c.heap.slots cells.heap.slots (λ k. elim (either c t cells regions g w k) [
        | inl a ↦
            let now : belongs q (body_at cells.heap k) ≡ false =
            belongs_not q (body_at cells.heap k) (λ l.
            let z : Some Frozen ≡ Some (Region q) = sym (frozen_now a.0 k a.1 a.2) ∙ l in
            cc) in
            let was : belongs q (body_at c.heap k) ≡ false =
            belongs_not q (body_at c.heap k) (λ l.
            n (one_gone a.0 q k a.2 l a.1)) in
            weightless q s (body_at cells.heap k) now ∙ sym (weightless q s (body_at c.heap k) was)
        | inr a ↦ ap F a.1.0
      ])

  pub grove_frozen : Grove cells regions
  grove_frozen =
      let fld = fields_same c t cells regions g w in
      let was : (q s : ℕ) → LiesIn cells.heap q s → LiesIn c.heap q s = λ q s l. (lay c t cells regions g w q s l).0 in
      let rec_was = record_was c t cells regions g w in
      record {
        numbers = λ k o n a b.
            g.numbers k o n (number_was c t cells regions g w k n a) (number_was c t cells regions g w o n b);
        members = λ k z a.
            let m = g.members k z (rec_was k z a) in
            record {
              lie = λ i s q. lies_on c t cells regions g w z.number s (here k z a) (m.lie i s q);
              all = λ s l. m.all s (was z.number s l);
              once = m.once;
            };
        bridges = λ k s z a b. lies_on c t cells regions g w z.number s (here k z a) (g.bridges k s z (rec_was k z a)
            b);
        labels = in_table c t cells regions g w;
        frozen = λ s k to l f.
            let field = sym (fld s k) ∙ f in
            elim (either c t cells regions g w s) [
              | inl a ↦ elim (g.fields a.0 s k to a.2 field) [
                | inl x ↦ frozen_on to x
                | inr y ↦ elim y [
                  | inl x ↦ frozen_now a.0 to a.1 x
                  | inr x ↦
                      let child : Parent c.heap a.0 x.0 = record {
                        differ = λ e. x.1 (sym e);
                        from = s;
                        field = k;
                        to = to;
                        lies = a.2;
                        leads = field;
                        child_has = x.2;
                      } in
                      frozen_now x.0 to (down a.0 x.0 child a.1) x.2
                ]
              ]
              | inr a ↦ frozen_on to (g.frozen s k to (ap (option_map (λ (b : Body). b.label)) (sym a.1.0) ∙ l) field)
            ];
        fields = λ p s k to l f.
            elim (g.fields p s k to (was p s l) (sym (fld s k) ∙ f)) [
              | inl x ↦ inl (frozen_on to x)
              | inr y ↦ elim y [
                | inl x ↦ elim (frozen_or_here p to x) [ inl a ↦ inl a | inr a ↦ inr (inl a) ]
                | inr x ↦ elim (gone_or_here c t cells regions g w x.0 to x.2) [
                  | inl a ↦ inl (frozen_now x.0 to a x.2)
                  | inr a ↦
                      let v = x.3 in
                      let on = record_on v.0 x.0 a.0.0 v.1 v.2 v.3 a.0.1 in
                      inr (inr (x.0, x.1, a.1, (v.0, v.1, on, v.3, v.4)))
                ]
              ]
            ];
        one_in = λ q p s k to p2 s2 k2 to2 d l f i d2 l2 f2 i2.
            g.one_in q p s k to p2 s2 k2 to2 d (was p s l) (sym (fld s k) ∙ f) (was q to i)
            d2 (was p2 s2 l2) (sym (fld s2 k2) ∙ f2) (was q to2 i2);
        none_into_first = λ p s k to d l f i. g.none_into_first p s k to d (was p s l) (sym (fld s k) ∙ f) (was 0 to i);
        no_cycle = λ q a. g.no_cycle q (above_was q q a);
        counts = λ k s z a m l.
            let x = lay c t cells regions g w z.number s l in
            let same : mark_at cells s ≡ mark_at c s =
            elim (either c t cells regions g w s) [
              | inl a ↦ absurd (x.1 (one_gone a.0 z.number s a.2 x.0 a.1))
              | inr a ↦ a.1.1
            ] in
            same ∙ g.counts k s z (rec_was k z a) m x.0 ∙ sym (referrers_on z.number s x.1);
        unmarked = λ s n. elim (either c t cells regions g w s) [
          | inl a ↦ a.3.1
          | inr a ↦ a.1.1 ∙ g.unmarked s (λ k z e m l. elim (w.records k) [
            | inl q ↦ n k z (q ∙ e) m (ap (option_map (λ (b : Body). b.label)) a.1.0 ∙ l)
            | inr q ↦ a.0 z.number l (k, number_of t k z.number z e refl, q)
          ])
        ];
      }
