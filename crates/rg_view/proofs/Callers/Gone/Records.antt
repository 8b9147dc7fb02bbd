-- The records that are left where regions are released, frozen or merged.
use Rattle.std.proofs.Common.{◌≡◌, ◌⊎◌, inl, inr, ℕ, Bool as Truth, true, false, List, Option, Some, None, option_map, refl, sym, ap, ◌∙◌}
use Rattle.std.proofs.lemmas.Bool.{false≢true, cases_eq}
use Rattle.std.proofs.lemmas.Option.{none-some, same_Some}
use Rattle.rg_rules.specs.Regions.{among}
use Rattle.rg_regions.specs.Table.{Record, RegionTable, record_at, HasNumber}
use Rattle.rg_move.specs.Closed.{BelowKey}
use Rattle.rg_heap.specs.Parts.{Parts}
use Rattle.rg_heap.specs.Ends.{Released}
use Rattle.rg_heap.specs.Moves.{Freezes, Merges}
use Rattle.rg_view.specs.Names.{Names}
use Rattle.rg_view.proofs.Callers.Table.{FewerNumbers, gone-or-same}

-- a region goes, or the record of its key stays
by-names : (old new : RegionTable) (regions : List ℕ) (Gone : ℕ → Type 0) → Names regions Gone
    → ((key q : ℕ) → Gone q → HasNumber old key q → record_at new key ≡ None)
    → ((key : ℕ) → ((q : ℕ) → Gone q → HasNumber old key q → ⊥) → record_at new key ≡ record_at old key)
    → (key : ℕ) → (record_at new key ≡ None) ⊎ (record_at new key ≡ record_at old key)
by-names old new regions Gone names goes stays key = by (record_at old key) refl
  where
    number-of : (o : Option Record) → record_at old key ≡ o → option_map (λ (r : Record). r.number) (record_at old key)
        ≡ option_map (λ (r : Record). r.number) o
    number-of o e = ap (option_map (λ (r : Record). r.number)) e

    test : (r : Record) → record_at old key ≡ Some r → (t : Truth) → among regions r.number ≡ t
        → (record_at new key ≡ None) ⊎ (record_at new key ≡ record_at old key)
    test r e true a = inl (goes key r.number (names.only r.number a) (number-of (Some r) e))
    test r e false a = inr (stays key (λ q g h.
        let same : r.number ≡ q = same_Some r.number q (sym (number-of (Some r) e) ∙ h) in
        false≢true (sym a ∙ ap (among regions) same ∙ names.all q g)))

    by : (o : Option Record) → record_at old key ≡ o → (record_at new key ≡ None) ⊎ (record_at new key ≡ record_at old key)
    by None e = inr (stays key (λ q g h. none-some q (sym (number-of None e) ∙ h)))
    by (Some r) e = test r e (among regions r.number) refl

pub released-numbers : (old new : Parts) (Gone Cell : ℕ → Type 0) (regions : List ℕ) → Released old new Gone Cell → Names regions Gone
    → FewerNumbers old.regions new.regions
released-numbers old new Gone Cell regions r names =
    gone-or-same old.regions new.regions r.numbers (by-names old.regions new.regions regions Gone names r.removed r.records)

pub freeze-numbers : (old new : Parts) (key : ℕ) (regions : List ℕ) → Freezes old new key
    → Names regions (BelowKey old.cells.heap old.regions key) → FewerNumbers old.regions new.regions
freeze-numbers old new key regions f names =
    gone-or-same old.regions new.regions f.numbers
    (by-names old.regions new.regions regions (BelowKey old.cells.heap old.regions key) names f.removed (λ k out. (f.records k out).0))

-- a merge takes one record away, and the one that takes the cells keeps its number and manager
pub merge-numbers : (old new : Parts) (source into : ℕ) (a b : Record) → Merges old new source into
    → record_at old.regions source ≡ Some a → record_at old.regions into ≡ Some b → FewerNumbers old.regions new.regions
merge-numbers old new source into a b m from to = record {
  next = m.numbers;
  there = λ k r e. elim (cases_eq k source) [
    | inl is ↦ absurd (none-some r (sym (ap (record_at new.regions) is ∙ m.records.gone) ∙ e))
    | inr d ↦ elim (cases_eq k into) [
      | inl is ↦
          let now = m.records.members a b from to in
          let same = same_Some _ r (sym now.1 ∙ ap (record_at new.regions) (sym is) ∙ e) in (
            b,
            ap (record_at old.regions) is ∙ to,
            ap (λ (x : Record). x.number) same,
            ap (λ (x : Record). x.manager) same,
          )
      | inr d₂ ↦ (r, sym (m.records.others k d d₂).0 ∙ e, refl, refl)
    ]
  ];
}
