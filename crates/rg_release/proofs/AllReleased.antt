-- From one released region to the next, and the end (docs/architecture.md, "Release").
use Rattle.std.proofs.Common.{◌≡◌, ◌≢◌, ℕ, ◌+◌, List, [], ◌∷◌, Some, None, is_some, count_by}
use Rattle.std.proofs.Common.{refl, ap, sym, ◌∙◌, subst, arith, ◌⊎◌, inl, inr, option_map}
use Rattle.std.proofs.lemmas.Bool.{cases_eq}
use Rattle.rg_base.specs.declared.object.Label.TheVariants.{Region}
use Rattle.rg_cells.specs.declared.cell.Body.{Body}
use Rattle.rg_cells.specs.Table.{Table, body_at}
use Rattle.rg_regions.specs.Table.{Record, RegionTable, record_at, HasNumber, Has}
use Rattle.rg_regions.specs.Reach.{LiesIn}
use Rattle.rg_regions.proofs.Callers.Told.{number_of}
use Rattle.rg_regions.proofs.Callers.Fewer.{label_before}
use Rattle.rg_release.specs.Released.{Unowned, BelowOne, CellsGo, RecordsGo}
use Rattle.rg_release.specs.Inner.Turns.{Turned, Releasing}
use Rattle.rg_release.proofs.GroveKept.{fewer, grove_emptied}
use Rattle.rg_release.proofs.BelowLeft.{below_left, below_before, below_first, unowned_left, alone_first}

module _ (c : Table) (t : RegionTable) (tops : List ℕ) (mid : Table) (was : RegionTable) (key : ℕ) (rec : Record) (rest : List ℕ)
    (cells : Table) (regions : RegionTable) (keys : List ℕ) (e : record_at was key ≡ Some rec) (w : Turned mid was key rec rest cells regions keys)
    (i : Releasing c t tops mid was (key ∷ rest)) where
  number_was : HasNumber was key rec.number
  number_was = number_of was key rec.number rec e refl

  cells_less : (s : ℕ) → (body_at cells.heap s ≡ body_at mid.heap s) ⊎ (body_at cells.heap s ≡ None)
  cells_less = fewer mid was key rec cells regions w.emptied

  records_less : (k : ℕ) → (record_at regions k ≡ record_at was k) ⊎ (record_at regions k ≡ None)
  records_less k = elim (cases_eq k key) [ inl q ↦ inr (ap (record_at regions) q ∙ w.emptied.removed) | inr d ↦ inl (w.emptied.stay k d) ]

  -- what is gone stays so
  cell_gone : (s : ℕ) → body_at mid.heap s ≡ None → body_at cells.heap s ≡ None
  cell_gone s q = elim (cells_less s) [ inl y ↦ y ∙ q | inr y ↦ y ]

  record_gone : (k : ℕ) → record_at was k ≡ None → record_at regions k ≡ None
  record_gone k q = elim (records_less k) [ inl y ↦ y ∙ q | inr y ↦ y ]

  -- the region that goes is one of those that go
  first_goes : BelowOne c.heap t tops rec.number
  first_goes = i.back rec.number (below_first mid was key rec rest cells regions keys i.grove e i.unowned w)

  lay_first : (q s : ℕ) → LiesIn mid.heap q s → LiesIn c.heap q s
  lay_first q s l = label_before c.heap mid.heap s (Region q) (i.sub s) l

  had_first : (k n : ℕ) → HasNumber was k n → HasNumber t k n
  had_first k n h = elim (i.records_sub k) [
    | inl q ↦ ap (option_map (λ (z : Record). z.number)) (sym q) ∙ h
    | inr q ↦ let v : None ≡ Some n = sym (ap (option_map (λ (z : Record). z.number)) q) ∙ h in cc
  ]

  left : (q : ℕ) → BelowOne mid.heap was (key ∷ rest) q → (q ≡ rec.number) ⊎ BelowOne cells.heap regions keys q
  left = below_left mid was key rec rest cells regions keys i.grove e i.unowned w

  left_before : (q : ℕ) → BelowOne cells.heap regions keys q → BelowOne c.heap t tops q
  left_before q d = i.back q (below_before mid was key rec rest cells regions keys i.grove e i.unowned w q d)

  left_unowned : Unowned cells.heap regions keys
  left_unowned = unowned_left mid was key rec rest cells regions keys i.grove e i.unowned w

  -- the cells of the region that goes, and its key
  freed_now : (q s : ℕ) → q ≡ rec.number → LiesIn c.heap q s → body_at cells.heap s ≡ None
  freed_now q s z l = elim (i.sub s) [
    | inl v ↦ let L : ℕ → Type 0 = λ n. LiesIn c.heap n s in (w.emptied.gone s (ap (option_map (λ (b : Body). b.label)) v ∙ subst L z l)).0
    | inr v ↦ cell_gone s v
  ]

  removed_now : (k q : ℕ) → q ≡ rec.number → HasNumber t k q → record_at regions k ≡ None
  removed_now k q z h = elim (i.records_sub k) [
    | inl v ↦
        let N : ℕ → Type 0 = λ n. HasNumber t k n in
        let n : HasNumber was k rec.number = ap (option_map (λ (z : Record). z.number)) v ∙ subst N z h in
        ap (record_at regions) (i.grove.numbers k key rec.number n number_was) ∙ w.emptied.removed
    | inr v ↦ record_gone k v
  ]

  -- a key without a region that goes is neither the first nor one of those that are left
  not_key : (k : ℕ) → ((q : ℕ) → BelowOne c.heap t tops q → HasNumber t k q → ⊥) → (k ≢ key) × (Has keys k → ⊥)
  not_key k n =
      let P : ℕ → Type 0 = λ v. HasNumber was v rec.number in
      let d : k ≢ key = λ q. n rec.number first_goes (had_first k rec.number (subst P (sym q) number_was)) in (
        d,
        (λ m.
            let h = left_unowned.there k m in
            let z = left_before h.0 (record { key = k; top = h.0; one = m; has = h.1; below = inl refl }) in
            n h.0 z (had_first k h.0 (sym (ap (option_map (λ (z : Record). z.number)) (w.emptied.stay k d)) ∙ h.1))),
      )

  pub releasing_turn : count_by is_some regions.records + 1 ≡ count_by is_some was.records → Releasing c t tops cells regions keys
  releasing_turn less = record {
    grove =
        grove_emptied mid was key rec cells regions w.emptied i.grove e
        (alone_first mid was key rec rest cells regions keys i.grove e i.unowned w);
    unowned = left_unowned;
    sub = λ s. elim (cells_less s) [ inl y ↦ elim (i.sub s) [ inl z ↦ inl (y ∙ z) | inr z ↦ inr (y ∙ z) ] | inr y ↦ inr y ];
    records_sub = λ k. elim (records_less k) [ inl y ↦ elim (i.records_sub k) [ inl z ↦ inl (y ∙ z) | inr z ↦ inr (y ∙ z) ] | inr y ↦ inr y ];
    back = left_before;
    gone = λ q s d l. elim (i.gone q s d l) [
      | inl y ↦ inl (cell_gone s y)
      | inr y ↦ elim (left q y) [ inl z ↦ inl (freed_now q s z l) | inr z ↦ inr z ]
    ];
    records = λ k q d h. elim (i.records k q d h) [
      | inl y ↦ inl (record_gone k y)
      | inr y ↦ elim (left q y) [ inl z ↦ inl (removed_now k q z h) | inr z ↦ inr z ]
    ];
    others = λ s n.
        let a = i.others s n in
        let b = w.emptied.others s (λ l. n rec.number first_goes (lay_first rec.number s l)) in
        (b.0 ∙ a.0, b.1 ∙ a.1, b.2 ∙ a.2);
    stay = λ k n.
        let a = i.stay k n in
        let d = not_key k n in
        (w.emptied.stay k d.0 ∙ a.0, w.apart k d.0 d.1 ∙ a.1);
    serials = w.emptied.serials ∙ i.serials;
    high = w.emptied.high ∙ i.high;
    numbers = w.emptied.numbers ∙ i.numbers;
    count = omega (arith, less, i.count);
  }

-- no key is left
pub cells_go : (c : Table) (t : RegionTable) (tops : List ℕ) (cells : Table) (regions : RegionTable)
    → Releasing c t tops cells regions [] → CellsGo c t cells tops
cells_go c t tops cells regions i = λ q s d l. elim (i.gone q s d l) [ inl y ↦ y | inr y ↦ absurd y.one ]

pub records_go : (c : Table) (t : RegionTable) (tops : List ℕ) (cells : Table) (regions : RegionTable)
    → Releasing c t tops cells regions [] → RecordsGo c.heap t regions tops
records_go c t tops cells regions i = λ k q d h. elim (i.records k q d h) [ inl y ↦ y | inr y ↦ absurd y.one ]
