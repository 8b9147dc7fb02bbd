-- The forest is kept where cells and records stay but for rooms, and where a region without cells comes
-- (docs/architecture.md, "The heap").
use Rattle.std.proofs.Common.{◌≡◌, ◌≢◌, ℕ, cond, Option, Some, None, refl, ap, sym, ◌∙◌, subst, ◌⊎◌, inl, inr}
use Rattle.std.proofs.Common.{option_map, option_and_then, slice_get, count_by, Result, Ok, Err, IfOk, OnErr}
use Rattle.rg_base.specs.declared.fault.Memory.{Memory}
use Rattle.std.proofs.lemmas.Bool.{cases_eq}
use Rattle.std.proofs.lemmas.Option.{same_Some}
use Rattle.rg_base.specs.declared.words.Manager.{Manager}
use Rattle.rg_base.specs.declared.object.Label.{Label}
use Rattle.rg_base.specs.declared.object.Label.TheVariants.{Region, Frozen}
use Rattle.rg_base.specs.declared.value.Word.{Word}
use Rattle.rg_base.specs.declared.value.Word.TheVariants.{Slot}
use Rattle.rg_cells.specs.declared.cell.Body.{Body}
use Rattle.rg_cells.specs.Table.{Table, body_at, field_at, label_at, mark_at}
use Rattle.rg_regions.specs.Table.{Record, RegionTable, record_at, HasNumber, Added, fresh}
use Rattle.rg_regions.specs.Reach.{LiesIn, belongs}
use Rattle.rg_regions.specs.Grove.{Grove, Members, Parent, referrers, leads_to}
use Rattle.rg_regions.proofs.Callers.Told.{number_of, record_there}
use Rattle.rg_regions.proofs.Callers.Fewer.{total_alike, above_by, parent_by}
use Rattle.rg_regions.proofs.Callers.Beside.{leads_on}
use Rattle.rg_heap.proofs.Kin.{IsKin, Kin, kin_of}

-- two records are one but for the room
pub record IsAlike (a b : Record) : Type 0 where
  pub number : a.number ≡ b.number
  pub manager : a.manager ≡ b.manager
  pub members : a.members ≡ b.members
  pub bridge : a.bridge ≡ b.bridge

-- cells and records are as they were, but for links and rooms
pub record Alike (c : Table) (t : RegionTable) (cells : Table) (regions : RegionTable) : Type 0 where
  pub bodies : (s : ℕ) → body_at cells.heap s ≡ body_at c.heap s
  pub marks : (s : ℕ) → mark_at cells s ≡ mark_at c s
  pub back : (k : ℕ) (z : Record) → record_at regions k ≡ Some z → (y : Record) × (record_at t k ≡ Some y) × IsAlike y z
  pub on : (k : ℕ) (y : Record) → record_at t k ≡ Some y → (z : Record) × (record_at regions k ≡ Some z) × IsAlike y z

module _ (c : Table) (t : RegionTable) (cells : Table) (regions : RegionTable) (w : Alike c t cells regions) where
  label_back : (s : ℕ) (l : Label) → label_at cells.heap s ≡ Some l → label_at c.heap s ≡ Some l
  label_back s l e = sym (ap (option_map (λ (b : Body). b.label)) (w.bodies s)) ∙ e

  label_on : (s : ℕ) (l : Label) → label_at c.heap s ≡ Some l → label_at cells.heap s ≡ Some l
  label_on s l e = ap (option_map (λ (b : Body). b.label)) (w.bodies s) ∙ e

  field_back : (s k : ℕ) (v : Word) → field_at cells.heap s k ≡ Some v → field_at c.heap s k ≡ Some v
  field_back s k v f = sym (ap (option_and_then (λ (b : Body). slice_get b.fields k)) (w.bodies s)) ∙ f

  parent_back : (p q : ℕ) → Parent cells.heap p q → Parent c.heap p q
  parent_back p q e =
      parent_by c.heap cells.heap p q e (label_back e.from (Region p) e.lies) (field_back e.from e.field (Slot e.to) e.leads)
      (label_back e.to (Region q) e.child_has)

  kin : Kin t regions
  kin =
      let kept : (y z : Record) → IsAlike y z → IsKin y z =
      λ y z a. record { number = a.number; manager = a.manager; bridge = a.bridge } in
      kin_of t regions (λ k z e. let y = w.back k z e in (y.0, y.1, kept y.0 z y.2))
      (λ k y e. let z = w.on k y e in (z.0, z.1, kept y z.0 z.2))

  referrers_on : (q s : ℕ) → referrers cells.heap q s ≡ referrers c.heap q s
  referrers_on q s =
      let F : Option Body → ℕ = λ b. cond (belongs q b) (elim b [ None ↦ 0 | Some b ↦ count_by (leads_to s) b.fields ]) 0 in
      total_alike F refl c.heap.slots cells.heap.slots (λ n. ap F (w.bodies n))

  pub grove_alike : Grove c t → Grove cells regions
  grove_alike g = record {
    numbers = λ k o n x y. g.numbers k o n (kin.number_back k n x) (kin.number_back o n y);
    members = λ k z a.
        let y = w.back k z a in
        let m = g.members k y.0 y.1 in
        record {
          lie = λ i s e. label_on s (Region z.number) (
              let L : ℕ → Type 0 = λ n. LiesIn c.heap n s in
              subst L y.2.number (m.lie i s (ap (λ ms. slice_get ms i) y.2.members ∙ e)));
          all = λ s l.
              let L : ℕ → Type 0 = λ n. LiesIn c.heap n s in
              let a = m.all s (subst L (sym y.2.number) (label_back s (Region z.number) l)) in
              (a.0, sym (ap (λ ms. slice_get ms a.0) y.2.members) ∙ a.1);
          once = λ i j s e f. m.once i j s (ap (λ ms. slice_get ms i) y.2.members ∙ e) (ap (λ ms. slice_get ms j) y.2.members ∙ f);
        };
    bridges = λ k s z a e.
        let y = w.back k z a in
        let L : ℕ → Type 0 = λ n. LiesIn c.heap n s in
        label_on s (Region z.number) (subst L y.2.number (g.bridges k s y.0 y.1 (y.2.bridge ∙ e)));
    labels = λ r s l. let a = g.labels r s (label_back s (Region r) l) in (a.0, kin.number_on a.0 r a.1);
    frozen = λ s k to l f. label_on to Frozen (g.frozen s k to (label_back s Frozen l) (field_back s k (Slot to) f));
    fields = λ p s k to l f. leads_on c cells t regions label_on kin.bridge_on p to
        (g.fields p s k to (label_back s (Region p) l) (field_back s k (Slot to) f));
    one_in = λ q p s k to p2 s2 k2 to2 d l f i d2 l2 f2 i2.
        g.one_in q p s k to p2 s2 k2 to2
        d (label_back s (Region p) l) (field_back s k (Slot to) f) (label_back to (Region q) i)
        d2 (label_back s2 (Region p2) l2) (field_back s2 k2 (Slot to2) f2) (label_back to2 (Region q) i2);
    none_into_first = λ p s k to d l f i.
        g.none_into_first p s k to d (label_back s (Region p) l) (field_back s k (Slot to) f) (label_back to (Region 0) i);
    no_cycle = λ r a. g.no_cycle r (above_by c.heap cells.heap parent_back r r a);
    counts = λ k s z a m l.
        let y = w.back k z a in
        let L : ℕ → Type 0 = λ n. LiesIn c.heap n s in
        let x = g.counts k s y.0 y.1 (y.2.manager ∙ m) (subst L (sym y.2.number) (label_back s (Region z.number) l)) in
        w.marks s ∙ x ∙ ap (λ n. referrers c.heap n s) y.2.number ∙ sym (referrers_on z.number s);
    unmarked = λ s n. w.marks s ∙ g.unmarked s (λ k y a m l.
        let z = w.on k y a in
        let L : ℕ → Type 0 = λ n. LiesIn cells.heap n s in
        n k z.0 z.1 (sym z.2.manager ∙ m) (subst L z.2.number (label_on s (Region y.number) l)));
  }

-- a region comes that has no cell
module _ (c : Table) (t : RegionTable) (regions : RegionTable) (key : ℕ) (m : Manager) (g : Grove c t)
    (w : Added t regions key (fresh t m)) (new : (k : ℕ) → HasNumber t k t.next → ⊥) where
  key_apart : (k : ℕ) (y : Record) → record_at t k ≡ Some y → k ≢ key
  key_apart k y a e = let P : ℕ → Type 0 = λ x. record_at t x ≡ Some y in let q : None ≡ Some y = sym w.vacant ∙ subst P e a in cc

  stays : (k : ℕ) (y : Record) → record_at t k ≡ Some y → record_at regions k ≡ Some y
  stays k y a = w.others k (key_apart k y a) ∙ a

  stays_number : (k n : ℕ) → HasNumber t k n → HasNumber regions k n
  stays_number k n a = let y = record_there (record_at t k) n a in number_of regions k n y.0 (stays k y.0 y.1) y.2

  record_back : (k : ℕ) (z : Record) → record_at regions k ≡ Some z → ((k ≡ key) × (z ≡ fresh t m)) ⊎ (record_at t k ≡ Some z)
  record_back k z a = elim (cases_eq k key) [
    | inl e ↦
        let P : ℕ → Type 0 = λ x. record_at regions x ≡ Some z in
        inl (e, same_Some z (fresh t m) (sym (subst P e a) ∙ w.is))
    | inr d ↦ inr (sym (w.others k d) ∙ a)
  ]

  number_was : (k n : ℕ) → HasNumber regions k n → ((k ≡ key) × (n ≡ t.next)) ⊎ HasNumber t k n
  number_was k n a =
      let z = record_there (record_at regions k) n a in
      elim (record_back k z.0 z.1) [
        | inl e ↦ inl (e.0, sym z.2 ∙ ap (λ (y : Record). y.number) e.1)
        | inr o ↦ inr (number_of t k n z.0 o z.2)
      ]

  none_lies : (s : ℕ) → LiesIn c.heap t.next s → ⊥
  none_lies s l = let a = g.labels t.next s l in new a.0 a.1

  pub grove_added : Grove c regions
  grove_added = record {
    numbers = λ k o n x y. elim (number_was k n x) [
      | inl e ↦ elim (number_was o n y) [
        | inl f ↦ e.0 ∙ sym f.0
        | inr f ↦ let P : ℕ → Type 0 = λ z. HasNumber t o z in absurd (new o (subst P e.1 f))
      ]
      | inr e ↦ elim (number_was o n y) [
        | inl f ↦ let P : ℕ → Type 0 = λ z. HasNumber t k z in absurd (new k (subst P f.1 e))
        | inr f ↦ g.numbers k o n e f
      ]
    ];
    members = λ k z a. elim (record_back k z a) [
      | inl e ↦ let P : Record → Type 0 = λ y. Members c.heap y.number y.members in subst P (sym e.1) (record {
        lie = λ i s q. cc;
        all = λ s l. absurd (none_lies s l);
        once = λ i j s p q. cc;
      })
      | inr o ↦ g.members k z o
    ];
    bridges = λ k s z a x. elim (record_back k z a) [
      | inl e ↦ let q : None ≡ Some s = sym (ap (λ (y : Record). y.bridge) e.1) ∙ x in cc
      | inr o ↦ g.bridges k s z o x
    ];
    labels = λ r s l. let a = g.labels r s l in (a.0, stays_number a.0 r a.1);
    frozen = g.frozen;
    fields = λ p s k to l f. elim (g.fields p s k to l f) [
      | inl a ↦ inl a
      | inr x ↦ elim x [
        | inl a ↦ inr (inl a)
        | inr a ↦ let v = a.3 in inr (inr (a.0, a.1, a.2, (v.0, v.1, stays v.0 v.1 v.2, v.3, v.4)))
      ]
    ];
    one_in = g.one_in;
    none_into_first = g.none_into_first;
    no_cycle = g.no_cycle;
    counts = λ k s z a y l. elim (record_back k z a) [
      | inl e ↦ let P : Record → Type 0 = λ y. LiesIn c.heap y.number s in absurd (none_lies s (subst P e.1 l))
      | inr o ↦ g.counts k s z o y l
    ];
    unmarked = λ s n. g.unmarked s (λ k y a e l. n k y (stays k y a) e l);
  }

-- region 0 comes, or there was no memory
pub begins : (c : Table) (t regions : RegionTable) (m : Manager) (r : Result ℕ Memory) → Grove c t
    → IfOk r (λ key. Added t regions key (fresh t m)) → ((k : ℕ) → HasNumber t k t.next → ⊥) → OnErr r (regions ≡ t) → Grove c regions
begins c t regions m (Ok key) g a new e = grove_added c t regions key m g a new
begins c t regions m (Err x) g a new e = let P : RegionTable → Type 0 = λ (z : RegionTable). Grove c z in subst P (sym e) g
