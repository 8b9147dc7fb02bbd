-- The managers of regions that came, by their numbers (docs/architecture.md, "Cargo").
use Rattle.std.proofs.Common.{◌≡◌, ℕ, zero, suc, ◌+◌, inl, inr, if◌then◌else◌, List, [], ◌∷◌, length, map, Option, Some, None, slice_get}
use Rattle.std.proofs.Common.{option_map, refl, ap, ◌∙◌, arith}
use Rattle.std.specs.Prelude.{slice_index_or}
use Rattle.std.specs.List.{range_with_len}
use Rattle.std.proofs.lemmas.Bool.Decides.{eqb_tells}
use Rattle.std.proofs.lemmas.Option.{same_Some}
use Rattle.rg_base.specs.declared.words.Manager.{Manager}
use Rattle.rg_regions.specs.Table.{Record, RegionTable, record_at, HasNumber}
use Rattle.rg_cown.specs.Contents.{manager_in}

-- a region whose number no other one has is found by it
manager-found : (records : List (Option Record)) (key n : ℕ) (r : Record) → slice_index_or records key None ≡ Some r → r.number ≡ n
    → ((other : ℕ) (q : Record) → slice_index_or records other None ≡ Some q → q.number ≡ n → other ≡ key) → manager_in records n ≡ r.manager
manager-found [] key n r e is once = absurd (none-some e)
  where
    none-some : None ≡ Some r → ⊥
    none-some z = cc
manager-found (None ∷ rs) zero n r e is once = cc
manager-found (None ∷ rs) (suc key) n r e is once =
    manager-found rs key n r e is (λ other q f of. let z : suc other ≡ suc key = once (suc other) q f of in omega (arith, z))
manager-found (Some q ∷ rs) zero n r e is once =
    let same = same_Some q r e in
    elim (eqb_tells q.number n) [
      | inl t ↦ ap (λ z. if z then q.manager else manager_in rs n) t.0 ∙ ap (λ (z : Record). z.manager) same
      | inr t ↦ absurd (t.1 (ap (λ (z : Record). z.number) same ∙ is))
    ]
manager-found (Some q ∷ rs) (suc key) n r e is once = elim (eqb_tells q.number n) [
  | inl t ↦ let z : 0 ≡ suc key = once 0 q refl t.1 in absurd (omega (arith, z))
  | inr t ↦
      ap (λ z. if z then q.manager else manager_in rs n) t.0
      ∙ manager-found rs key n r e is (λ other x f of. let z : suc other ≡ suc key = once (suc other) x f of in omega (arith, z))
]

pub manager-of : (t : RegionTable) (key : ℕ) (r : Record) → ((k other n : ℕ) → HasNumber t k n → HasNumber t other n → k ≡ other)
    → record_at t key ≡ Some r → manager_in t.records r.number ≡ r.manager
manager-of t key r once e = manager-found t.records key r.number r e refl (λ other q f of.
    once other key r.number (ap (option_map (λ (z : Record). z.number)) f ∙ ap Some of) (ap (option_map (λ (z : Record). z.number)) e))

-- managers of numbers that follow one another
pub managers-from : (f : ℕ → Manager) (b : ℕ) (ms : List Manager) → ((i : ℕ) (m : Manager) → slice_get ms i ≡ Some m → f (b + i) ≡ m)
    → map f (range_with_len b (length ms)) ≡ ms
managers-from f b [] h = refl
managers-from f b (m ∷ ms) h =
    let first : f b ≡ m = ap f (plus b) ∙ h 0 m refl in
    ap (λ z. z ∷ map f (range_with_len (b + 1) (length ms))) first ∙ ap (λ z. m ∷ z) (managers-from f (b + 1) ms
    (λ i x e. let same : f (b + 1 + i) ≡ f (b + suc i) = ap f (shift b i) in same ∙ h (suc i) x e))
  where
    plus : (k : ℕ) → k ≡ k + 0
    plus k = omega arith

    shift : (k i : ℕ) → k + 1 + i ≡ k + suc i
    shift k i = omega arith
