-- What the managers show: those of the regions of a table, by their numbers.
use Rattle.std.proofs.Common.{◌≡◌, ◌≢◌, ◌<◌, ◌==◌, ◌⊎◌, inl, inr, ℕ, zero, suc, Bool as Truth, true, false, if◌then◌else◌, List, [], ◌∷◌, ◌++◌, map}
use Rattle.std.proofs.Common.{length, Option, Some, None, slice_get, slice_index_or, refl, sym, ap, ◌∙◌, arith}
use Rattle.std.specs.List.{range_with_len}
use Rattle.std.proofs.lemmas.Bool.{cases_eq, eqb-true, eqb-false}
use Rattle.std.proofs.lemmas.Option.{none-some, same_Some}
use Rattle.std.proofs.lemmas.List.FromFn.{length-map-range_with_len}
use Rattle.rg_base.specs.declared.words.Manager.{Manager}
use Rattle.rg_base.specs.declared.words.Manager.TheVariants.{Arena}
use Rattle.rg_regions.specs.Table.{Record, RegionTable, record_at}
use Rattle.rg_heap.specs.Changes.{Opens}
use Rattle.rg_held.proofs.Callers.Forget.{made-at}
use Rattle.rg_view.specs.View.{manager_with, managers_of}
use Rattle.rg_view.specs.Numbers.{Numbers}
use Rattle.rg_view.proofs.List.{map-numbers, map-more}

-- a region of the table has the number, and this is its manager
pub record Known (t : RegionTable) (n : ℕ) : Type 0 where
  pub key : ℕ
  pub rec : Record
  pub there : record_at t key ≡ Some rec
  pub number : rec.number ≡ n
  pub shown : manager_with n t.records ≡ rec.manager

-- none has it
pub record Unknown (t : RegionTable) (n : ℕ) : Type 0 where
  pub none : (key : ℕ) (r : Record) → record_at t key ≡ Some r → r.number ≢ n
  pub shown : manager_with n t.records ≡ Arena

record Found (rs : List (Option Record)) (n : ℕ) : Type 0 where
  pub key : ℕ
  pub rec : Record
  pub there : slice_index_or rs key None ≡ Some rec
  pub number : rec.number ≡ n
  pub shown : manager_with n rs ≡ rec.manager

record Nowhere (rs : List (Option Record)) (n : ℕ) : Type 0 where
  pub none : (key : ℕ) (r : Record) → slice_index_or rs key None ≡ Some r → r.number ≢ n
  pub shown : manager_with n rs ≡ Arena

look-in : (n : ℕ) (rs : List (Option Record)) → Found rs n ⊎ Nowhere rs n
look-in n [] = inr (record { none = λ key r e. absurd (none-some r e); shown = refl })
look-in n (None ∷ rs) = elim (look-in n rs) [
  | inl f ↦ inl (record { key = suc f.key; rec = f.rec; there = f.there; number = f.number; shown = f.shown })
  | inr w ↦ inr (record { none = none w; shown = w.shown })
]
  where
    none : Nowhere rs n → (key : ℕ) (r : Record) → slice_index_or (None ∷ rs) key None ≡ Some r → r.number ≢ n
    none w zero r e = absurd (none-some r e)
    none w (suc key) r e = w.none key r e
look-in n (Some r ∷ rs) = test (r.number == n) refl (look-in n rs)
  where
    none : Nowhere rs n → r.number ≢ n → (key : ℕ) (u : Record) → slice_index_or (Some r ∷ rs) key None ≡ Some u → u.number ≢ n
    none w d zero u e = λ f. d (ap (λ (x : Record). x.number) (same_Some r u e) ∙ f)
    none w d (suc key) u e = w.none key u e

    test : (t : Truth) → (r.number == n) ≡ t → Found rs n ⊎ Nowhere rs n → Found (Some r ∷ rs) n ⊎ Nowhere (Some r ∷ rs) n
    test true e rest = inl (record {
      key = 0;
      rec = r;
      there = refl;
      number = eqb-true r.number n e;
      shown = ap (λ b. if b then r.manager else manager_with n rs) e;
    })
    test false e rest = elim rest [
      | inl f ↦ inl (record {
        key = suc f.key;
        rec = f.rec;
        there = f.there;
        number = f.number;
        shown = ap (λ b. if b then r.manager else manager_with n rs) e ∙ f.shown;
      })
      | inr w ↦ inr (record {
        none = none w (eqb-false r.number n e);
        shown = ap (λ b. if b then r.manager else manager_with n rs) e ∙ w.shown;
      })
    ]

pub look-number : (t : RegionTable) (n : ℕ) → Known t n ⊎ Unknown t n
look-number t n = elim (look-in n t.records) [
  | inl f ↦ inl (record { key = f.key; rec = f.rec; there = f.there; number = f.number; shown = f.shown })
  | inr w ↦ inr (record { none = w.none; shown = w.shown })
]

-- the manager of a region of the table
pub manager-of : (t : RegionTable) (key : ℕ) (r : Record) → Numbers t → record_at t key ≡ Some r → manager_with r.number t.records ≡ r.manager
manager-of t key r q e = elim (look-number t r.number) [
  | inl k ↦
      let same : k.key ≡ key = q.differ k.key key k.rec r k.there e k.number in
      let rec : k.rec ≡ r = same_Some k.rec r (sym k.there ∙ ap (record_at t) same ∙ e) in
      k.shown ∙ ap (λ (x : Record). x.manager) rec
  | inr u ↦ absurd (u.none key r e refl)
]

-- as many as regions were made
pub managers-length : (t : RegionTable) → length (managers_of t) ≡ t.next
managers-length t = length-map-range_with_len (λ n. manager_with n t.records) 0 t.next

-- the manager that is shown of a region of the table
pub manager-at : (t : RegionTable) (key : ℕ) (r : Record) → Numbers t → record_at t key ≡ Some r
    → slice_get (managers_of t) r.number ≡ Some r.manager
manager-at t key r q e =
    made-at (λ n. manager_with n t.records) t.next r.number (q.below key r e) ∙ ap Some (manager-of t key r q e)

module _ (old new : RegionTable) (key slot : ℕ) (manager : Manager) (o : Opens old new key slot manager) (q : Numbers old) where
  -- the record that comes
  abbrev fresh : Record
  fresh = record { number = old.next; manager = manager; members = slot ∷ []; bridge = Some slot; room = o.is.0 }

  pub kept : (k : ℕ) (r : Record) → record_at old k ≡ Some r → record_at new k ≡ Some r
  kept k r e = o.others k (λ is. none-some r (sym o.vacant ∙ ap (record_at old) (sym is) ∙ e)) ∙ e

  was : (k : ℕ) (r : Record) → record_at new k ≡ Some r → ((k ≡ key) × (r ≡ fresh)) ⊎ (record_at old k ≡ Some r)
  was k r e = elim (cases_eq k key) [
    | inl is ↦ inl (is, same_Some r fresh (sym e ∙ ap (record_at new) is ∙ o.is.1))
    | inr d ↦ inr (sym (o.others k d) ∙ e)
  ]

  number-is : (r : Record) → r ≡ fresh → r.number ≡ old.next
  number-is r e = ap (λ (x : Record). x.number) e

  -- numbers are still below the next one, and differ
  pub opens-numbers : Numbers new
  opens-numbers = record {
    below = λ k r e. let n = o.next in elim (was k r e) [
      | inl w ↦ let is = number-is r w.1 in omega (arith, n, is)
      | inr w ↦ let lt = q.below k r w in omega (arith, n, lt)
    ];
    differ = λ k m r u e f same. elim (was k r e) [
      | inl w ↦ elim (was m u f) [
        | inl x ↦ w.0 ∙ sym x.0
        | inr x ↦ let lt = q.below m u x in let is = number-is r w.1 in absurd (omega (arith, lt, is, same))
      ]
      | inr w ↦ elim (was m u f) [
        | inl x ↦ let lt = q.below k r w in let is = number-is u x.1 in absurd (omega (arith, lt, is, same))
        | inr x ↦ q.differ k m r u w x same
      ]
    ];
  }

  stays : (n : ℕ) → n < old.next → manager_with n new.records ≡ manager_with n old.records
  stays n lt = elim (look-number old n) [
    | inl k ↦
        ap (λ a. manager_with a new.records) (sym k.number)
        ∙ manager-of new k.key k.rec opens-numbers (kept k.key k.rec k.there)
        ∙ sym k.shown
    | inr u ↦ elim (look-number new n) [
      | inl k ↦ elim (was k.key k.rec k.there) [
        | inl w ↦ let is = number-is k.rec w.1 in let at = k.number in absurd (omega (arith, is, at, lt))
        | inr w ↦ absurd (u.none k.key k.rec w k.number)
      ]
      | inr w ↦ w.shown ∙ sym u.shown
    ]
  ]

  -- a region that comes has its manager behind the others
  pub opens-managers : managers_of new ≡ managers_of old ++ manager ∷ []
  opens-managers =
      map-more (λ n. manager_with n new.records) old.next new.next o.next
      ∙ ap (λ ms. ms ++ manager_with old.next new.records ∷ [])
      (map-numbers (λ n. manager_with n new.records) (λ n. manager_with n old.records) 0 old.next (λ a le lt. stays a (omega (arith, lt))))
      ∙ ap (λ m. managers_of old ++ m ∷ []) (manager-of new key fresh opens-numbers o.is.1)

-- records of the two tables have the same numbers and managers
pub record SameNumbers (old new : RegionTable) : Type 0 where
  pub next : new.next ≡ old.next
  pub there : (key : ℕ) (r : Record) → record_at new key ≡ Some r
      → (u : Record) × (record_at old key ≡ Some u) × (u.number ≡ r.number) × (u.manager ≡ r.manager)
  pub back : (key : ℕ) (u : Record) → record_at old key ≡ Some u
      → (r : Record) × (record_at new key ≡ Some r) × (u.number ≡ r.number)

module _ (old new : RegionTable) (s : SameNumbers old new) (q : Numbers old) where
  same-at : (n : ℕ) → manager_with n new.records ≡ manager_with n old.records
  same-at n = elim (look-number new n) [
    | inl k ↦
        let u = s.there k.key k.rec k.there in
        k.shown ∙ sym u.3 ∙ sym (manager-of old k.key u.0 q u.1) ∙ ap (λ a. manager_with a old.records) (u.2 ∙ k.number)
    | inr w ↦ elim (look-number old n) [
      | inl k ↦ let r = s.back k.key k.rec k.there in absurd (w.none k.key r.0 r.1 (sym r.2 ∙ k.number))
      | inr u ↦ w.shown ∙ sym u.shown
    ]
  ]

  -- then the managers are the same
  pub same-managers : managers_of new ≡ managers_of old
  same-managers =
      ap (λ n. map (λ a. manager_with a new.records) (range_with_len 0 n)) s.next
      ∙ map-numbers (λ a. manager_with a new.records) (λ a. manager_with a old.records) 0 old.next (λ a le lt. same-at a)
