-- Where one region is emptied, the forest is kept (docs/architecture.md, "Release").
use Rattle.std.proofs.Common.{◌≡◌, ◌≢◌, ℕ, Some, None, ap, sym, ◌∙◌, subst, ◌⊎◌, inl, inr, option_map, refl}
use Rattle.std.proofs.lemmas.Bool.{cases_eq}
use Rattle.std.proofs.lemmas.Option.{same_Some}
use Rattle.rg_base.specs.declared.object.Label.TheVariants.{Region, Frozen}
use Rattle.rg_base.specs.declared.value.Word.{Word}
use Rattle.rg_base.specs.declared.value.Word.TheVariants.{Slot}
use Rattle.rg_cells.specs.declared.cell.Body.{Body}
use Rattle.rg_cells.specs.Table.{Table, field_at, body_at, label_at}
use Rattle.rg_regions.specs.Table.{Record, RegionTable, record_at, HasNumber}
use Rattle.rg_regions.specs.Reach.{LiesIn}
use Rattle.rg_regions.specs.Grove.{Grove}
use Rattle.rg_regions.proofs.Callers.Told.{one_region, lies_or_not, number_of}
use Rattle.rg_regions.proofs.Callers.Fewer.{label_before, field_before, above_before, referrers_kept}
use Rattle.rg_release.specs.Inner.Turns.{Emptied}

module _ (c : Table) (t : RegionTable) (key : ℕ) (rec : Record) (cells : Table) (regions : RegionTable) (w : Emptied c t key rec cells regions)
  where
    pub fewer : (s : ℕ) → (body_at cells.heap s ≡ body_at c.heap s) ⊎ (body_at cells.heap s ≡ None)
    fewer s = elim (lies_or_not c.heap rec.number s) [ inl n ↦ inl (w.others s n).0 | inr l ↦ inr (w.gone s l).0 ]

    -- what lies in a region now did so before, and the region isn't the emptied one
    pub lay : (q s : ℕ) → LiesIn cells.heap q s → (q ≢ rec.number) × LiesIn c.heap q s
    lay q s l =
        let a = label_before c.heap cells.heap s (Region q) (fewer s) l in (
          (λ e.
              let P : ℕ → Type 0 = λ z. LiesIn c.heap z s in
              let z : None ≡ Some (Region q) = sym (ap (option_map (λ (b : Body). b.label)) (w.gone s (subst P e a)).0) ∙ l in
              cc),
          a,
        )

    pub lies_on : (q s : ℕ) → q ≢ rec.number → LiesIn c.heap q s → LiesIn cells.heap q s
    lies_on q s d l = ap (option_map (λ (b : Body). b.label)) (w.others s (λ i. d (one_region c.heap s q rec.number l i))).0 ∙ l

    -- the number of a key that is left
    pub had_number : (k n : ℕ) → HasNumber regions k n → (k ≢ key) × HasNumber t k n
    had_number k n a =
        let d : k ≢ key = λ e.
        let z : None ≡ Some n = sym (ap (option_map (λ (z : Record). z.number)) (ap (record_at regions) e ∙ w.removed)) ∙ a in
        cc in
        (d, sym (ap (option_map (λ (z : Record). z.number)) (w.stay k d)) ∙ a)

    pub keeps_number : (k n : ℕ) → k ≢ key → HasNumber t k n → HasNumber regions k n
    keeps_number k n d a = ap (option_map (λ (z : Record). z.number)) (w.stay k d) ∙ a

    -- a record that is left
    had_record : (k : ℕ) (z : Record) → record_at regions k ≡ Some z → (k ≢ key) × (record_at t k ≡ Some z)
    had_record k z a =
        let d : k ≢ key = λ p. let v : None ≡ Some z = sym (ap (record_at regions) p ∙ w.removed) ∙ a in cc in
        (d, sym (w.stay k d) ∙ a)

    -- the forest is kept, where no other region leads into the one that goes
    pub grove_emptied : Grove c t → record_at t key ≡ Some rec
        → ((p s f to : ℕ) → p ≢ rec.number → LiesIn c.heap p s → field_at c.heap s f ≡ Some (Slot to) → LiesIn c.heap rec.number to → ⊥)
        → Grove cells regions
    grove_emptied g e alone =
        let r = rec.number in
        let lie : (q s : ℕ) → LiesIn cells.heap q s → LiesIn c.heap q s = λ q s l. (lay q s l).1 in
        let not : (q s : ℕ) → LiesIn cells.heap q s → q ≢ r = λ q s l. (lay q s l).0 in
        let fld : (s k : ℕ) (v : Word) → field_at cells.heap s k ≡ Some v → field_at c.heap s k ≡ Some v =
        λ s k v f. field_before c.heap cells.heap s k v (fewer s) f in
        let far : (s : ℕ) → (LiesIn c.heap r s → ⊥) → body_at cells.heap s ≡ body_at c.heap s = λ s n. (w.others s n).0 in
        let ice : (s : ℕ) → label_at c.heap s ≡ Some Frozen → label_at cells.heap s ≡ Some Frozen =
        λ s l. ap (option_map (λ (b : Body). b.label)) (far s (λ i. let q : Some Frozen ≡ Some (Region r) = sym l ∙ i in cc)) ∙ l in
        let number_r : HasNumber t key r = number_of t key r rec e refl in
        let apart : (k : ℕ) (z : Record) → k ≢ key → record_at t k ≡ Some z → z.number ≢ r =
        λ k z d a n. d (g.numbers k key r (number_of t k r z a n) number_r) in
        record {
          numbers = λ k o n a b. g.numbers k o n (had_number k n a).1 (had_number o n b).1;
          members = λ k z a.
              let b = had_record k z a in
              let m = g.members k z b.1 in
              let off = apart k z b.0 b.1 in
              record {
                lie = λ i s q. lies_on z.number s off (m.lie i s q);
                all = λ s l. m.all s (lie z.number s l);
                once = m.once;
              };
          bridges = λ k s z a b. let o = had_record k z a in lies_on z.number s (apart k z o.0 o.1) (g.bridges k s z o.1 b);
          labels = λ q s l.
              let a = g.labels q s (lie q s l) in
              let d : a.0 ≢ key = λ p. let P : ℕ → Type 0 = λ y. HasNumber t y q in not q s l (same_Some q r (sym (subst P p a.1) ∙ number_r)) in
              (a.0, keeps_number a.0 q d a.1);
          frozen = λ s k to l f. ice to (g.frozen s k to (label_before c.heap cells.heap s Frozen (fewer s) l) (fld s k (Slot to) f));
          fields = λ p s k to l f.
              let a = lie p s l in
              let b = fld s k (Slot to) f in
              elim (g.fields p s k to a b) [
                | inl x ↦ inl (ice to x)
                | inr y ↦ elim y [
                  | inl x ↦ inr (inl (lies_on p to (not p s l) x))
                  | inr x ↦
                      let d : x.0 ≢ r = λ q. let X : ℕ → Type 0 = λ n. LiesIn c.heap n to in alone p s k to (not p s l) a b (subst X q x.2) in
                      let v = x.3 in
                      let P : ℕ → Type 0 = λ y. HasNumber t y x.0 in
                      let n : v.0 ≢ key = λ q. d (same_Some x.0 r (sym (subst P q (number_of t v.0 x.0 v.1 v.2 v.3)) ∙ number_r)) in
                      inr (inr (x.0, x.1, lies_on x.0 to d x.2, (v.0, v.1, w.stay v.0 n ∙ v.2, v.3, v.4)))
                ]
              ];
          one_in = λ q p s k to p2 s2 k2 to2 d l f i d2 l2 f2 i2.
              g.one_in q p s k to p2 s2 k2 to2 d (lie p s l) (fld s k (Slot to) f) (lie q to i)
              d2 (lie p2 s2 l2) (fld s2 k2 (Slot to2) f2) (lie q to2 i2);
          none_into_first = λ p s k to d l f i. g.none_into_first p s k to d (lie p s l) (fld s k (Slot to) f) (lie 0 to i);
          no_cycle = λ q a. g.no_cycle q (above_before c.heap cells.heap fewer q q a);
          counts = λ k s z a m l.
              let o = had_record k z a in
              let off = apart k z o.0 o.1 in
              let x : LiesIn c.heap z.number s = lie z.number s l in
              (w.others s (λ i. off (one_region c.heap s z.number r x i))).1
              ∙ g.counts k s z o.1 m x
              ∙ sym (referrers_kept c cells r z.number s off fewer far);
          unmarked = λ s n. elim (lies_or_not c.heap r s) [
            | inl out ↦ (w.others s out).1 ∙ g.unmarked s (λ k z a m l. elim (cases_eq k key) [
              | inl p ↦
                  let same : rec ≡ z = same_Some rec z (sym e ∙ sym (ap (record_at t) p) ∙ a) in
                  let L : Record → Type 0 = λ y. LiesIn c.heap y.number s in
                  out (subst L (sym same) l)
              | inr d ↦ n k z (w.stay k d ∙ a) m (lies_on z.number s (apart k z d a) l)
            ])
            | inr l ↦ (w.gone s l).1
          ];
        }
