-- What is below the first of some regions goes with it, or is below one of the keys that are left (docs/architecture.md, "Release").
use Rattle.std.proofs.Common.{◌≡◌, ◌≢◌, ℕ, List, ◌∷◌, Some, refl, ap, sym, ◌∙◌, subst, ◌⊎◌, inl, inr, option_and_then, slice_get}
use Rattle.std.proofs.lemmas.Bool.{cases_eq}
use Rattle.rg_base.specs.declared.value.Word.TheVariants.{Slot}
use Rattle.rg_cells.specs.declared.cell.Body.{Body}
use Rattle.rg_cells.specs.Table.{Table, field_at}
use Rattle.rg_regions.specs.Table.{Record, RegionTable, record_at, HasNumber, InTable, Has}
use Rattle.rg_regions.specs.Reach.{LiesIn}
use Rattle.rg_regions.specs.Grove.{Grove, Parent, Above, direct, further, Below}
use Rattle.rg_regions.proofs.Callers.Told.{one_number, one_region, number_of}
use Rattle.rg_regions.proofs.Callers.Fewer.{field_before, above_before, above_both}
use Rattle.rg_release.specs.Released.{Unowned, BelowOne}
use Rattle.rg_release.specs.Inner.Turns.{Turned}
use Rattle.rg_release.proofs.GroveKept.{fewer, lay, lies_on, had_number, keeps_number}

module _ (c : Table) (t : RegionTable) (key : ℕ) (rec : Record) (rest : List ℕ) (cells : Table) (regions : RegionTable) (keys : List ℕ)
    (g : Grove c t) (e : record_at t key ≡ Some rec) (unowned : Unowned c.heap t (key ∷ rest)) (w : Turned c t key rec rest cells regions keys)
  where
    number_r : HasNumber t key rec.number
    number_r = number_of t key rec.number rec e refl

    -- nothing leads into it
    pub alone_first : (p s f to : ℕ) → p ≢ rec.number → LiesIn c.heap p s → field_at c.heap s f ≡ Some (Slot to) → LiesIn c.heap rec.number to → ⊥
    alone_first p s f to d l x i = unowned.alone key rec.number p s f to (inl refl) number_r d l x i

    not_child : (p q : ℕ) → Parent c.heap p q → q ≢ rec.number
    not_child p q a z =
        let P : ℕ → Type 0 = λ y. LiesIn c.heap y a.to in
        alone_first p a.from a.field a.to (λ y. a.differ (y ∙ sym z)) a.lies a.leads (subst P z a.child_has)

    -- a key that is left
    other_key : (k q : ℕ) → q ≢ rec.number → HasNumber t k q → k ≢ key
    other_key k q d h z = let P : ℕ → Type 0 = λ y. HasNumber t y q in d (one_number t key q rec.number (subst P z h) number_r)

    kept_number : (k q : ℕ) → q ≢ rec.number → HasNumber t k q → HasNumber regions k q
    kept_number k q d h = keeps_number c t key rec cells regions w.emptied k q (other_key k q d h) h

    had : (k n : ℕ) → HasNumber regions k n → HasNumber t k n
    had k n h = (had_number c t key rec cells regions w.emptied k n h).1

    in_table : (p q : ℕ) → Parent c.heap p q → InTable t q
    in_table p q a = g.labels q a.to a.child_has

    -- two regions that are left stay parent and child
    parent_left : (p q : ℕ) → p ≢ rec.number → q ≢ rec.number → Parent c.heap p q → Parent cells.heap p q
    parent_left p q d n a =
        let same = w.emptied.others a.from (λ i. d (one_region c.heap a.from p rec.number a.lies i)) in
        record {
          differ = a.differ;
          from = a.from;
          field = a.field;
          to = a.to;
          lies = lies_on c t key rec cells regions w.emptied p a.from d a.lies;
          leads = ap (λ b. option_and_then (λ (b : Body). slice_get b.fields a.field) b) same.0 ∙ a.leads;
          child_has = lies_on c t key rec cells regions w.emptied q a.to n a.child_has;
        }

    -- a child of the region that goes
    child_left : (q : ℕ) → Parent c.heap rec.number q → BelowOne cells.heap regions keys q
    child_left q a =
        let k = in_table rec.number q a in
        record { key = k.0; top = q; one = w.all k.0 q a k.1; has = kept_number k.0 q (not_child rec.number q a) k.1; below = inl refl }

    -- a child of a region that is left
    lower_left : (m q : ℕ) → m ≢ rec.number → Parent c.heap m q → BelowOne cells.heap regions keys m → BelowOne cells.heap regions keys q
    lower_left m q d a z =
        let n = not_child m q a in
        let k = in_table m q a in
        let p = parent_left m q d n a in
        let i : InTable regions q = (k.0, kept_number k.0 q n k.1) in
        record {
          key = z.key;
          top = z.top;
          one = z.one;
          has = z.has;
          below = elim (z.below) [
            | inl y ↦ let P : ℕ → Type 0 = λ v. Parent cells.heap v q in inr (i, direct (subst P y p))
            | inr y ↦ inr (i, further y.1 p)
          ];
        }

    beneath_left : (top q : ℕ) → ((top ≡ rec.number) ⊎ BelowOne cells.heap regions keys top) → Above c.heap top q
        → (q ≡ rec.number) ⊎ BelowOne cells.heap regions keys q
    beneath_left top q z (direct a) = elim (cases_eq top rec.number) [
      | inl y ↦ let P : ℕ → Type 0 = λ v. Parent c.heap v q in inr (child_left q (subst P y a))
      | inr d ↦ elim z [ inl y ↦ absurd (d y) | inr y ↦ inr (lower_left top q d a y) ]
    ]
    beneath_left top q z (further {q = m} b a) = elim (cases_eq m rec.number) [
      | inl y ↦ let P : ℕ → Type 0 = λ v. Parent c.heap v q in inr (child_left q (subst P y a))
      | inr d ↦ elim (beneath_left top m z b) [ inl y ↦ absurd (d y) | inr y ↦ inr (lower_left m q d a y) ]
    ]

    -- what was below one of the keys is the region that goes, or is still below one
    pub below_left : (q : ℕ) → BelowOne c.heap t (key ∷ rest) q → (q ≡ rec.number) ⊎ BelowOne cells.heap regions keys q
    below_left q z =
        let N : ℕ → Type 0 = λ v. HasNumber t v z.top in
        let Q : ℕ → Type 0 = λ v. BelowOne cells.heap regions keys v in
        let first : (z.top ≡ rec.number) ⊎ BelowOne cells.heap regions keys z.top = elim (cases_eq z.top rec.number) [
          | inl y ↦ inl y
          | inr d ↦ elim (z.one) [
            | inl y ↦ inl (one_number t key z.top rec.number (subst N y z.has) number_r)
            | inr y ↦ inr (record { key = z.key; top = z.top; one = w.old z.key y; has = kept_number z.key z.top d z.has; below = inl refl })
          ]
        ] in
        elim (z.below) [
          | inl y ↦ elim first [ inl x ↦ inl (y ∙ x) | inr x ↦ inr (subst Q (sym y) x) ]
          | inr y ↦ beneath_left z.top q first y.1
        ]

    pub below_first : BelowOne c.heap t (key ∷ rest) rec.number
    below_first = record { key = key; top = rec.number; one = inl refl; has = number_r; below = inl refl }

    -- what is below one of the keys now was so before
    pub below_before : (q : ℕ) → BelowOne cells.heap regions keys q → BelowOne c.heap t (key ∷ rest) q
    below_before q z =
        let has : HasNumber t z.key z.top = had z.key z.top z.has in
        let up : Below cells.heap regions z.top q → Below c.heap t z.top q = λ b. elim b [
          | inl y ↦ inl y
          | inr y ↦ inr ((y.0.0, had y.0.0 q y.0.1), above_before c.heap cells.heap (fewer c t key rec cells regions w.emptied) z.top q y.1)
        ] in
        elim (w.each z.key z.one) [
          | inl a ↦ record { key = z.key; top = z.top; one = inr a; has = has; below = up z.below }
          | inr a ↦
              let P : ℕ → Type 0 = λ v. Parent c.heap rec.number v in
              let A : ℕ → Type 0 = λ v. Above c.heap rec.number v in
              let N : ℕ → Type 0 = λ v. HasNumber t z.key v in
              let down : Above c.heap rec.number z.top = direct (subst P (one_number t z.key a.0 z.top a.1 has) a.2) in
              record {
                key = key;
                top = rec.number;
                one = inl refl;
                has = number_r;
                below = elim (up z.below) [
                  | inl y ↦ inr ((z.key, subst N (sym y) has), subst A (sym y) down)
                  | inr y ↦ inr (y.0, above_both c.heap rec.number z.top q down y.1)
                ];
              }
        ]

    -- nothing leads into the others, and nothing any more into the children
    pub unowned_left : Unowned cells.heap regions keys
    unowned_left = record {
      there = λ k m. elim (w.each k m) [
        | inl a ↦
            let n = unowned.there k (inr a) in
            let d : k ≢ key = λ z. let P : ℕ → Type 0 = λ v. Has keys v in w.unkeyed (subst P z m) in
            (n.0, keeps_number c t key rec cells regions w.emptied k n.0 d n.1)
        | inr a ↦ (a.0, kept_number k a.0 (not_child rec.number a.0 a.2) a.1)
      ];
      not_first = λ k m h. elim (w.each k m) [
        | inl a ↦ unowned.not_first k (inr a) (had k 0 h)
        | inr a ↦
            let P : ℕ → Type 0 = λ v. Parent c.heap rec.number v in
            let b = subst P (one_number t k a.0 0 a.1 (had k 0 h)) a.2 in
            g.none_into_first rec.number b.from b.field b.to b.differ b.lies b.leads b.child_has
      ];
      alone = λ k q p s f to m h d l x i.
          let a = lay c t key rec cells regions w.emptied p s l in
          let y = field_before c.heap cells.heap s f (Slot to) (fewer c t key rec cells regions w.emptied s) x in
          let v = lay c t key rec cells regions w.emptied q to i in
          elim (w.each k m) [
            | inl b ↦ unowned.alone k q p s f to (inr b) (had k q h) d a.1 y v.1
            | inr b ↦
                let P : ℕ → Type 0 = λ z. Parent c.heap rec.number z in
                let z = subst P (one_number t k b.0 q b.1 (had k q h)) b.2 in
                let same = g.one_in q p s f to rec.number z.from z.field z.to d a.1 y v.1 z.differ z.lies z.leads z.child_has in
                let S : ℕ → Type 0 = λ u. LiesIn c.heap rec.number u in
                a.0 (one_region c.heap s p rec.number a.1 (subst S (sym same.0) z.lies))
          ];
    }
