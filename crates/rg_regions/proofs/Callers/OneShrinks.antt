-- Where cells of one region go and none comes, the forest is kept (docs/architecture.md, "Regions").
use Rattle.std.proofs.Common.{◌≡◌, ◌≢◌, ℕ, Some, refl, ap, sym, ◌∙◌, subst, inl, inr, option_map}
use Rattle.std.proofs.lemmas.Bool.{cases_eq}
use Rattle.std.proofs.lemmas.Option.{same_Some}
use Rattle.rg_base.specs.declared.object.Label.TheVariants.{Region, Frozen}
use Rattle.rg_base.specs.declared.words.Manager.TheVariants.{Count}
use Rattle.rg_base.specs.declared.value.Word.{Word}
use Rattle.rg_base.specs.declared.value.Word.TheVariants.{Slot}
use Rattle.rg_cells.specs.declared.cell.Body.{Body}
use Rattle.rg_cells.specs.Table.{Table, field_at, body_at, label_at, mark_at}
use Rattle.rg_regions.specs.Table.{Record, RegionTable, record_at, HasNumber, IsBridge}
use Rattle.rg_regions.specs.Reach.{LiesIn}
use Rattle.rg_regions.specs.Grove.{Grove, Members, referrers}
use Rattle.rg_regions.specs.Shrinks.{OneShrinks}
use Rattle.rg_regions.proofs.Callers.Told.{one_region, lies_or_not}
use Rattle.rg_regions.proofs.Callers.Fewer.{label_before, field_before, above_before, referrers_kept}

-- a bridge stays one where one region's record has changed, and keeps its number and its bridge
pub bridge_stays : (t regions : RegionTable) (key : ℕ) (rec now : Record) → record_at t key ≡ Some rec
    → record_at regions key ≡ Some now → now.number ≡ rec.number → now.bridge ≡ rec.bridge
    → ((k : ℕ) → k ≢ key → record_at regions k ≡ record_at t k) → (q to : ℕ) → IsBridge t q to → IsBridge regions q to
bridge_stays t regions key rec now e f number bridge others q to b = elim (cases_eq b.0 key) [
  | inl p ↦
      let same : b.1 ≡ rec = same_Some b.1 rec (sym b.2 ∙ ap (record_at t) p ∙ e) in (
        key,
        now,
        f,
        number ∙ sym (ap (λ (z : Record). z.number) same) ∙ b.3,
        bridge ∙ sym (ap (λ (z : Record). z.bridge) same) ∙ b.4,
      )
  | inr d ↦ (b.0, b.1, others b.0 d ∙ b.2, b.3, b.4)
]

-- The forest is kept where one region shrinks: its bridge stays, cells that are left lead within it to cells that are
-- left, and its marks are as the forest wants them.
pub grove_shrinks : (c : Table) (t : RegionTable) (key : ℕ) (rec : Record) (cells : Table) (regions : RegionTable)
    → Grove c t → record_at t key ≡ Some rec → OneShrinks c t key rec cells regions
    → ((s : ℕ) → rec.bridge ≡ Some s → LiesIn c.heap rec.number s → LiesIn cells.heap rec.number s)
    → ((s k to : ℕ) → LiesIn cells.heap rec.number s → field_at c.heap s k ≡ Some (Slot to)
    → LiesIn c.heap rec.number to
    → LiesIn cells.heap rec.number to)
    → (rec.manager ≡ Count → (s : ℕ) → LiesIn cells.heap rec.number s
    → mark_at cells s ≡ referrers cells.heap rec.number s)
    → ((s : ℕ) → LiesIn c.heap rec.number s → (rec.manager ≡ Count → LiesIn cells.heap rec.number s → ⊥)
    → mark_at cells s ≡ 0)
    → Grove cells regions
grove_shrinks c t key rec cells regions g e w bridge closed counts unmarked =
    let r = rec.number in
    let lie : (q s : ℕ) → LiesIn cells.heap q s
    → LiesIn c.heap q s = λ q s l. label_before c.heap cells.heap s (Region q) (w.fewer s) l in
    let fld : (s k : ℕ) (v : Word) → field_at cells.heap s k ≡ Some v → field_at c.heap s k
    ≡ Some v = λ s k v f. field_before c.heap cells.heap s k v (w.fewer s) f in
    let far : (s : ℕ) → (LiesIn c.heap r s → ⊥) → body_at cells.heap s ≡ body_at c.heap s = λ s n. (w.others s n).0 in
    let stay : (q s : ℕ) → q ≢ r → LiesIn c.heap q s
    → LiesIn cells.heap q s = λ q s d l. ap (option_map (λ (b : Body). b.label))
    (far s (λ i. d (one_region c.heap s q r l i))) ∙ l in
    let ice : (s : ℕ) → label_at c.heap s ≡ Some Frozen → label_at cells.heap s
    ≡ Some Frozen = λ s l. ap (option_map (λ (b : Body). b.label))
    (far s (λ i. let q : Some Frozen ≡ Some (Region r) = sym l ∙ i in cc)) ∙ l in
    let has : (k n : ℕ) → HasNumber regions k n → HasNumber t k n = λ k n a. elim (cases_eq k key) [
      | inl q ↦
          let P : ℕ → Type 0 = λ y. HasNumber regions y n in
          let N : ℕ → Type 0 = λ y. HasNumber t y n in
          let b : HasNumber regions key n = subst P q a in
          subst N (sym q) (ap (option_map (λ (z : Record). z.number)) e ∙ ap Some (sym w.own.2)
          ∙ sym (ap (option_map (λ (z : Record). z.number)) w.own.1) ∙ b)
      | inr d ↦ sym (ap (option_map (λ (z : Record). z.number)) (w.records k d)) ∙ a
    ] in
    let has_back : (k n : ℕ) → HasNumber t k n → HasNumber regions k n = λ k n a. elim (cases_eq k key) [
      | inl q ↦
          let P : ℕ → Type 0 = λ y. HasNumber t y n in
          let N : ℕ → Type 0 = λ y. HasNumber regions y n in
          let b : HasNumber t key n = subst P q a in
          subst N (sym q) (ap (option_map (λ (z : Record). z.number)) w.own.1 ∙ ap Some w.own.2
          ∙ sym (ap (option_map (λ (z : Record). z.number)) e)
          ∙ b)
      | inr d ↦ ap (option_map (λ (z : Record). z.number)) (w.records k d) ∙ a
    ] in
    let number_of : (k n : ℕ) (z : Record) → record_at t k ≡ Some z → z.number ≡ n
    → HasNumber t k n = λ k n z a b. ap (option_map (λ (y : Record). y.number)) a ∙ ap Some b in
    let apart : (k : ℕ) (z : Record) → k ≢ key → record_at t k ≡ Some z
    → z.number ≢ r = λ k z d a n. d (g.numbers k key r (number_of k r z a n) (number_of key r rec e refl)) in
    let bridge_to = bridge_stays t regions key rec w.own.0 e w.own.1 w.own.2 w.own.4 w.records in
    record {
      numbers = λ k o n a b. g.numbers k o n (has k n a) (has o n b);
      members = λ k z a. elim (cases_eq k key) [
        | inl p ↦
            let same : w.own.0 ≡ z = same_Some w.own.0 z (sym w.own.1 ∙ sym (ap (record_at regions) p) ∙ a) in
            let M : Record → Type 0 = λ y. Members cells.heap y.number y.members in
            let N : ℕ → Type 0 = λ n. Members cells.heap n w.own.0.members in
            subst M same (subst N (sym w.own.2) w.own.5)
        | inr d ↦
            let b : record_at t k ≡ Some z = sym (w.records k d) ∙ a in
            let m = g.members k z b in
            let off = apart k z d b in
            record {
              lie = λ i s q. stay z.number s off (m.lie i s q);
              all = λ s l. m.all s (lie z.number s l);
              once = m.once;
            }
      ];
      bridges = λ k s z a b. elim (cases_eq k key) [
        | inl p ↦
            let same : w.own.0 ≡ z = same_Some w.own.0 z (sym w.own.1 ∙ sym (ap (record_at regions) p) ∙ a) in
            let f : rec.bridge ≡ Some s = sym w.own.4 ∙ ap (λ (y : Record). y.bridge) same ∙ b in
            let l : LiesIn c.heap r s = g.bridges key s rec e f in
            let L : ℕ → Type 0 = λ n. LiesIn cells.heap n s in
            subst L (sym w.own.2 ∙ ap (λ (y : Record). y.number) same) (bridge s f l)
        | inr d ↦
            let v : record_at t k ≡ Some z = sym (w.records k d) ∙ a in
            stay z.number s (apart k z d v) (g.bridges k s z v b)
      ];
      labels = λ q s l. let a = g.labels q s (lie q s l) in (a.0, has_back a.0 q a.1);
      frozen = λ s k to l f. ice to (g.frozen s k to (label_before c.heap cells.heap s Frozen (w.fewer s) l)
          (fld s k (Slot to) f));
      fields = λ p s k to l f.
          let b = fld s k (Slot to) f in
          elim (g.fields p s k to (lie p s l) b) [
            | inl x ↦ inl (ice to x)
            | inr y ↦ elim y [
              | inl x ↦ inr (inl (elim (cases_eq p r) [
                | inl q ↦
                    let L : ℕ → Type 0 = λ n. LiesIn cells.heap n s in
                    let X : ℕ → Type 0 = λ n. LiesIn c.heap n to in
                    let Y : ℕ → Type 0 = λ n. LiesIn cells.heap n to in
                    let z : LiesIn c.heap r to = subst X q x in
                    subst Y (sym q) (closed s k to (subst L q l) b z)
                | inr d ↦ stay p to d x
              ]))
              | inr x ↦ inr (inr (
                x.0,
                x.1,
                elim (cases_eq x.0 r) [
                  | inl q ↦
                      let X : ℕ → Type 0 = λ n. LiesIn c.heap n to in
                      let Y : ℕ → Type 0 = λ n. LiesIn cells.heap n to in
                      let z : LiesIn c.heap r to = subst X q x.2 in
                      let v = x.3 in
                      let k2 : v.0 ≡ key = g.numbers v.0 key r (number_of v.0 r v.1 v.2 (v.3 ∙ q))
                      (number_of key r rec e refl) in
                      let same : v.1 ≡ rec = same_Some v.1 rec (sym v.2 ∙ ap (record_at t) k2 ∙ e) in
                      subst Y (sym q) (bridge to (sym (ap (λ (y : Record). y.bridge) same) ∙ v.4) z)
                  | inr d ↦ stay x.0 to d x.2
                ],
                bridge_to x.0 to x.3,
              ))
            ]
          ];
      one_in = λ q p s k to p2 s2 k2 to2 d l f i d2 l2 f2 i2. g.one_in q p s k to p2 s2 k2 to2 d (lie p s l)
          (fld s k (Slot to) f) (lie q to i) d2
          (lie p2 s2 l2) (fld s2 k2 (Slot to2) f2) (lie q to2 i2);
      none_into_first = λ p s k to d l f i. g.none_into_first p s k to d (lie p s l) (fld s k (Slot to) f) (lie 0 to i);
      no_cycle = λ q a. g.no_cycle q (above_before c.heap cells.heap w.fewer q q a);
      counts = λ k s z a m l. elim (cases_eq k key) [
        | inl p ↦
            let same : w.own.0 ≡ z = same_Some w.own.0 z (sym w.own.1 ∙ sym (ap (record_at regions) p) ∙ a) in
            let n : r ≡ z.number = sym w.own.2 ∙ ap (λ (y : Record). y.number) same in
            let v : rec.manager ≡ Count = sym w.own.3 ∙ ap (λ (y : Record). y.manager) same ∙ m in
            let L : ℕ → Type 0 = λ y. LiesIn cells.heap y s in
            let M : ℕ → Type 0 = λ y. mark_at cells s ≡ referrers cells.heap y s in
            subst M n (counts v s (subst L (sym n) l))
        | inr d ↦
            let b : record_at t k ≡ Some z = sym (w.records k d) ∙ a in
            let off = apart k z d b in
            let x : LiesIn c.heap z.number s = lie z.number s l in
            (w.others s (λ i. off (one_region c.heap s z.number r x i))).1 ∙ g.counts k s z b m x
            ∙ sym (referrers_kept c cells r z.number s off w.fewer far)
      ];
      unmarked = λ s n. elim (lies_or_not c.heap r s) [
        | inl off ↦
            (w.others s off).1 ∙ g.unmarked s (λ k z a m l. elim (cases_eq k key) [
              | inl p ↦
                  let same : rec ≡ z = same_Some rec z (sym e ∙ sym (ap (record_at t) p) ∙ a) in
                  let L : ℕ → Type 0 = λ y. LiesIn c.heap y s in
                  off (subst L (sym (ap (λ (y : Record). y.number) same)) l)
              | inr d ↦ n k z (w.records k d ∙ a) m (stay z.number s (apart k z d a) l)
            ])
        | inr i ↦ unmarked s i (λ m l.
            let L : ℕ → Type 0 = λ y. LiesIn cells.heap y s in
            n key w.own.0 w.own.1 (w.own.3 ∙ m) (subst L (sym w.own.2) l))
      ];
    }
