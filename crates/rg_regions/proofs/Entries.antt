-- The numbers' keys, where a region comes or goes.
use Rattle.std.proofs.Common.{◌≡◌, ◌≢◌, ℕ, ◌+◌, ◌-◌, zero, suc, cond, List, [], ◌∷◌, map, Option, Some, None, is_some, count_by, get_or, set, nat_eq}
use Rattle.std.proofs.Common.{refl, ap, sym, ◌∙◌, subst, arith, option_map, inl, inr}
use Rattle.std.proofs.lemmas.List.{map-set, get_or-set_other}
use Rattle.std.proofs.lemmas.List.Sums.{sum_by-cons}
use Rattle.std.proofs.lemmas.Bool.{cases_eq}
use Rattle.std.proofs.lemmas.Bool.Decides.{eqb_tells}
use Rattle.std.specs.Map.{lookup}
use Rattle.std.proofs.lemmas.Option.{same_Some}
use Rattle.rg_regions.specs.declared.region.Region.{Region}
use Rattle.rg_regions.specs.Table.{Record, RegionTable, record_at, HasNumber, removed, Added}
use Rattle.rg_regions.specs.Inner.Layout.{record_of, shown, link_of, table_of, IsIndexed}
use Rattle.rg_regions.proofs.Written.{shown-at}

pub count-shown : (xs : List (Option Region)) → count_by is_some (map shown xs) ≡ count_by is_some xs
count-shown [] = refl
count-shown (x ∷ xs) = sum_by-cons (λ y. cond (is_some y) 1 0) (shown x) (map shown xs)
    ∙ ap (λ n. cond (is_some (shown x)) 1 0 + n) (count-shown xs) ∙ by_slot x ∙ sym (sum_by-cons (λ y. cond (is_some y) 1 0) x xs)
  where
    by_slot : (o : Option Region) → cond {A = ℕ} (is_some (shown o)) 1 0 + count_by is_some xs ≡ cond (is_some o) 1 0 + count_by is_some xs
    by_slot None = refl
    by_slot (Some r) = refl

-- the region of a key goes
pub removed-is : (xs : List (Option Region)) (next key : ℕ) → table_of (set xs key None) next ≡ removed (table_of xs next) key
removed-is xs next key = ap (λ ys. record { records = ys; links = map link_of (set xs key None); next = next }) (map-set shown xs key None)
    ∙ ap (λ ys. record { records = set (map shown xs) key None; links = ys; next = next }) (map-set link_of xs key None)

-- a number that another key has
pub same-key : (entries : List (ℕ × ℕ)) (t : RegionTable) (a b n : ℕ) → IsIndexed entries t → HasNumber t a n → HasNumber t b n → a ≡ b
same-key entries t a b n i p q = same_Some a b (sym (i.all n a p) ∙ i.all n b q)

-- what the slots without one key show
without : (t : RegionTable) (key k n : ℕ) → HasNumber (removed t key) k n → (k ≢ key) × HasNumber t k n
without t key k n h = elim (cases_eq k key) [
  | inl e ↦
      let P : ℕ → Type 0 = λ z. HasNumber (removed t key) z n in
      let g : option_map (λ (r : Record). r.number) (get_or (set t.records key None) key None) ≡ Some n = subst P e h in
      let z : get_or (set t.records key None) key None ≡ None = none_there t.records key in
      let v : None ≡ Some n = sym (ap (option_map (λ (r : Record). r.number)) z) ∙ g in
      cc
  | inr d ↦ (d, ap (option_map (λ (r : Record). r.number)) (sym (get_or-set_other t.records key k None None d)) ∙ h)
]
  where
    none_there : (xs : List (Option Record)) (key : ℕ) → get_or (set xs key None) key None ≡ None
    none_there [] key = refl
    none_there (x ∷ xs) zero = refl
    none_there (x ∷ xs) (suc key) = none_there xs key

with_it : (t : RegionTable) (key k n : ℕ) → k ≢ key → HasNumber t k n → HasNumber (removed t key) k n
with_it t key k n d h = ap (option_map (λ (r : Record). r.number)) (get_or-set_other t.records key k None None d) ∙ h

pub indexed-removed : (entries left : List (ℕ × ℕ)) (t : RegionTable) (key number : ℕ) → HasNumber t key number
    → ((q : ℕ) → lookup (nat_eq q) left ≡ cond (nat_eq number q) None (lookup (nat_eq q) entries)) → IsIndexed entries t
    → IsIndexed left (removed t key)
indexed-removed entries left t key number is up i = record {
  found = λ n k l. elim (eqb_tells number n) [
    | inl e ↦ let v : None ≡ Some k = sym (up n ∙ ap (λ b. cond b None (lookup (nat_eq n) entries)) e.0) ∙ l in cc
    | inr e ↦
        let h : HasNumber t k n = i.found n k (sym (up n ∙ ap (λ b. cond b None (lookup (nat_eq n) entries)) e.0) ∙ l) in
        with_it t key k n (λ q. let P : ℕ → Type 0 = λ z. HasNumber t z n in e.1 (same_Some number n (sym is ∙ subst P q h))) h
  ];
  all = λ n k h.
      let w = without t key k n h in
      elim (eqb_tells number n) [
        | inl e ↦ let P : ℕ → Type 0 = λ z. HasNumber t key z in absurd (w.0 (same-key entries t k key n i w.1 (subst P e.1 is)))
        | inr e ↦ up n ∙ ap (λ b. cond b None (lookup (nat_eq n) entries)) e.0 ∙ i.all n k w.1
      ];
  below = λ n k h. i.below n k (without t key k n h).1;
}

-- the last number is the next one again
pub indexed-last : (entries : List (ℕ × ℕ)) (t : RegionTable) (number : ℕ) → number + 1 ≡ t.next → ((k : ℕ) → HasNumber t k number → ⊥)
    → IsIndexed entries t → IsIndexed entries (record t { next = t.next - 1 })
indexed-last entries t number last none i = record {
  found = i.found;
  all = i.all;
  below = λ n k h.
      let b = i.below n k h in
      elim (cases_eq n number) [
        | inl e ↦ absurd (let P : ℕ → Type 0 = λ z. HasNumber t k z in none k (subst P e h))
        | inr e ↦ omega (arith, b, last, e)
      ];
}

-- a region is added under the next number
pub indexed-added : (entries more : List (ℕ × ℕ)) (t new : RegionTable) (key : ℕ) → record_at t key ≡ None → HasNumber new key t.next
    → ((k : ℕ) → k ≢ key → record_at new k ≡ record_at t k) → new.next ≡ t.next + 1
    → ((q : ℕ) → lookup (nat_eq q) more ≡ cond (nat_eq t.next q) (Some key) (lookup (nat_eq q) entries)) → IsIndexed entries t
    → IsIndexed more new
indexed-added entries more t new key vacant is others next up i =
    let old : (n k : ℕ) → k ≢ key → HasNumber new k n → HasNumber t k n =
    λ n k d h. ap (option_map (λ (r : Record). r.number)) (sym (others k d)) ∙ h in
    let number : (n k : ℕ) → k ≡ key → HasNumber new k n → t.next ≡ n =
    λ n k q h. let P : ℕ → Type 0 = λ z. HasNumber new z n in same_Some t.next n (sym is ∙ subst P q h) in
    record {
      found = λ n k l. elim (eqb_tells t.next n) [
        | inl e ↦
            let v : key ≡ k = same_Some key k (sym (up n ∙ ap (λ b. cond b (Some key) (lookup (nat_eq n) entries)) e.0) ∙ l) in
            let P : ℕ → Type 0 = λ z. HasNumber new z n in
            let N : ℕ → Type 0 = λ z. HasNumber new key z in
            subst P v (subst N e.1 is)
        | inr e ↦
            let h : HasNumber t k n = i.found n k (sym (up n ∙ ap (λ b. cond b (Some key) (lookup (nat_eq n) entries)) e.0) ∙ l) in
            let d : k ≢ key = λ q. let v : None ≡ Some n = sym (ap (option_map (λ (r : Record). r.number)) (ap (record_at t) q ∙ vacant)) ∙ h in cc in
            ap (option_map (λ (r : Record). r.number)) (others k d) ∙ h
      ];
      all = λ n k h. elim (cases_eq k key) [
        | inl q ↦ let e = number n k q h in elim (eqb_tells t.next n) [
          | inl f ↦ up n ∙ ap (λ b. cond b (Some key) (lookup (nat_eq n) entries)) f.0 ∙ ap Some (sym q)
          | inr f ↦ absurd (f.1 e)
        ]
        | inr d ↦
            let o = old n k d h in
            let b = i.below n k o in
            elim (eqb_tells t.next n) [
              | inl f ↦ absurd (omega (arith, f.1, b))
              | inr f ↦ up n ∙ ap (λ b. cond b (Some key) (lookup (nat_eq n) entries)) f.0 ∙ i.all n k o
            ]
      ];
      below = λ n k h. elim (cases_eq k key) [
        | inl q ↦ let e = number n k q h in omega (arith, e, next)
        | inr d ↦ let b = i.below n k (old n k d h) in omega (arith, b, next)
      ];
    }

-- no key has the number of a region that has gone
pub only-one : (entries : List (ℕ × ℕ)) (t : RegionTable) (key : ℕ) → IsIndexed entries t → (k n : ℕ) → HasNumber t key n
    → HasNumber (removed t key) k n → ⊥
only-one entries t key i k n h g = let w = without t key k n g in w.0 (same-key entries t k key n i w.1 h)

-- a region is shown under a new key
pub added-is : (xs ys : List (Option Region)) (next key : ℕ) (r : Region) → get_or xs key None ≡ None → get_or ys key None ≡ Some r
    → ((k : ℕ) → k ≢ key → get_or ys k None ≡ get_or xs k None) → r.link ≡ None → Added (table_of xs next) (table_of ys (next + 1)) key (record_of r)
added-is xs ys next key r vacant is others l = record {
  vacant = shown-at xs key ∙ ap shown vacant;
  is = shown-at ys key ∙ ap shown is;
  others = λ k d. shown-at ys k ∙ ap shown (others k d) ∙ sym (shown-at xs k);
  link = link-at ys key ∙ ap link_of is ∙ l;
  links = λ k d. link-at ys k ∙ ap link_of (others k d) ∙ sym (link-at xs k);
  next = refl;
}
  where
    link-at : (xs : List (Option Region)) (k : ℕ) → get_or (map link_of xs) k None ≡ link_of (get_or xs k None)
    link-at [] k = refl
    link-at (x ∷ xs) zero = refl
    link-at (x ∷ xs) (suc k) = link-at xs k
