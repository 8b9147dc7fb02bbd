-- What the records show after one is written.
use Rattle.std.proofs.Common.{◌≡◌, ℕ, ◌-◌, ◌<◌, zero, suc, List, [], ◌∷◌, length, map, Option, Some, None, IsSome, get_or, set, refl}
use Rattle.std.proofs.Common.{ap, sym, ◌∙◌, subst, arith, option_map}
use Rattle.std.proofs.lemmas.List.{map-set}
use Rattle.std.proofs.lemmas.Option.{same_Some}
use Rattle.slab.specs.Slab.{Slab, with_value}
use Rattle.rg_regions.specs.declared.region.Region.{Region}
use Rattle.rg_regions.specs.Table.{Record, RegionTable, record_at, changed}
use Rattle.rg_regions.specs.Inner.Layout.{record_of, shown, link_of, table_of, IsIndexed}

-- what a slot shows
pub shown-at : (xs : List (Option Region)) (k : ℕ) → get_or (map shown xs) k None ≡ shown (get_or xs k None)
shown-at [] k = refl
shown-at (x ∷ xs) zero = refl
shown-at (x ∷ xs) (suc k) = shown-at xs k

region_there : (o : Option Region) → IsSome (shown o) → (r : Region) × (o ≡ Some r)
region_there None h = cc
region_there (Some r) h = (r, refl)

-- a key of the table has a region
pub region_at : (xs : List (Option Region)) (next key : ℕ) (now : RegionTable) → table_of xs next ≡ now → IsSome (record_at now key)
    → (r : Region) × (get_or xs key None ≡ Some r)
region_at xs next key now e h =
    let P : RegionTable → Type 0 = λ t. IsSome (record_at t key) in
    let Q : Option Record → Type 0 = λ o. IsSome o in
    region_there (get_or xs key None) (subst Q (shown-at xs key) (subst P (sym e) h))

-- a member's place is one of the region's
pub members_at : (xs : List (Option Region)) (next key place : ℕ) (now : RegionTable) (rec : Record) → table_of xs next ≡ now
    → record_at now key ≡ Some rec → place < length rec.members → (r : Region) × (get_or xs key None ≡ Some r) × (place < length r.members.items)
members_at xs next key place now rec e f l =
    let P : RegionTable → Type 0 = λ t. record_at t key ≡ Some rec in
    let g : shown (get_or xs key None) ≡ Some rec = sym (shown-at xs key) ∙ subst P (sym e) f in
    by_option (get_or xs key None) g
  where
    by_option : (o : Option Region) → shown o ≡ Some rec → (r : Region) × (o ≡ Some r) × (place < length r.members.items)
    by_option None q = cc
    by_option (Some r) q =
        let s : record_of r ≡ rec = same_Some (record_of r) rec q in
        let n : length r.members.items ≡ length rec.members = ap (λ (z : Record). length z.members) s in
        (r, refl, omega (arith, n, l))

-- the links stay
link-same : (xs : List (Option Region)) (key : ℕ) (r n : Region) → get_or xs key None ≡ Some r → n.link ≡ r.link
    → map link_of (set xs key (Some n)) ≡ map link_of xs
link-same [] key r n e l = refl
link-same (x ∷ xs) zero r n e l =
    let a : link_of x ≡ r.link = ap link_of e in
    ap (λ o. o ∷ map link_of xs) (l ∙ sym a)
link-same (x ∷ xs) (suc key) r n e l = ap (λ ys. link_of x ∷ ys) (link-same xs key r n e l)

-- what all show stays
shown-same : (xs : List (Option Region)) (key : ℕ) (r n : Region) → get_or xs key None ≡ Some r → record_of n ≡ record_of r
    → map shown (set xs key (Some n)) ≡ map shown xs
shown-same [] key r n e l = refl
shown-same (x ∷ xs) zero r n e l =
    let a : shown x ≡ Some (record_of r) = ap shown e in
    ap (λ o. Some o ∷ map shown xs) l ∙ ap (λ o. o ∷ map shown xs) (sym a)
shown-same (x ∷ xs) (suc key) r n e l = ap (λ ys. shown x ∷ ys) (shown-same xs key r n e l)

-- a link alone is written
pub linked : (xs : List (Option Region)) (next key : ℕ) (l : Option ℕ) (r : Region) → get_or xs key None ≡ Some r
    → table_of (set xs key (Some (record r { link = l }))) next ≡ record (table_of xs next) { links = set (table_of xs next).links key l }
linked xs next key l r e =
    ap (λ ys. record { records = ys; links = map link_of (set xs key (Some (record r { link = l }))); next = next })
    (shown-same xs key r (record r { link = l }) e refl)
    ∙ ap (λ ys. record { records = map shown xs; links = ys; next = next }) (map-set link_of xs key (Some (record r { link = l })))

-- the region of a key shows something else
pub rewritten : (xs : List (Option Region)) (next key : ℕ) (r n : Region) (f : Record → Record) → get_or xs key None ≡ Some r → n.link ≡ r.link
    → record_of n ≡ f (record_of r) → table_of (set xs key (Some n)) next ≡ changed (table_of xs next) key f
rewritten xs next key r n f e l s =
    let a : record_at (table_of xs next) key ≡ Some (record_of r) = shown-at xs key ∙ ap shown e in
    let b : changed (table_of xs next) key f ≡ record (table_of xs next) { records = set (map shown xs) key (Some (f (record_of r))) } =
    ap (λ (o : Option Record). elim o
    [ None ↦ table_of xs next | Some z ↦ record (table_of xs next) { records = set (map shown xs) key (Some (f z)) } ]) a in
    ap (λ ys. record { records = map shown (set xs key (Some n)); links = ys; next = next }) (link-same xs key r n e l)
    ∙ ap (λ ys. record { records = ys; links = map link_of xs; next = next }) (map-set shown xs key (Some n))
    ∙ ap (λ (z : Record). record { records = set (map shown xs) key (Some z); links = map link_of xs; next = next }) s
    ∙ sym b

-- the numbers stay where a region's number does
pub indexed-written : (entries : List (ℕ × ℕ)) (xs : List (Option Region)) (next key : ℕ) (r n : Region) → get_or xs key None ≡ Some r
    → n.number ≡ r.number → IsIndexed entries (table_of xs next) → IsIndexed entries (table_of (set xs key (Some n)) next)
indexed-written entries xs next key r n e s i = record {
  found = λ m k l. subst (λ (o : Option ℕ). o ≡ Some m) (sym (same k)) (i.found m k l);
  all = λ m k h. i.all m k (sym (same k) ∙ h);
  below = λ m k h. i.below m k (sym (same k) ∙ h);
}
  where
    number_at : (ys : List (Option Region)) (k : ℕ)
        → option_map (λ (r : Record). r.number) (get_or (map shown ys) k None) ≡ option_map (λ (r : Region). r.number) (get_or ys k None)
    number_at ys k = ap (option_map (λ (r : Record). r.number)) (shown-at ys k) ∙ by_option (get_or ys k None)
      where
        by_option : (o : Option Region) → option_map (λ (r : Record). r.number) (shown o) ≡ option_map (λ (r : Region). r.number) o
        by_option None = refl
        by_option (Some r) = refl

    kept : (ys : List (Option Region)) (k j : ℕ) → get_or ys k None ≡ Some r
        → option_map (λ (r : Region). r.number) (get_or (set ys k (Some n)) j None) ≡ option_map (λ (r : Region). r.number) (get_or ys j None)
    kept [] k j q = refl
    kept (y ∷ ys) zero zero q = ap Some s ∙ sym (ap (option_map (λ (r : Region). r.number)) q)
    kept (y ∷ ys) zero (suc j) q = refl
    kept (y ∷ ys) (suc k) zero q = refl
    kept (y ∷ ys) (suc k) (suc j) q = kept ys k j q

    same : (k : ℕ) → option_map (λ (r : Record). r.number) (get_or (map shown (set xs key (Some n))) k None)
        ≡ option_map (λ (r : Record). r.number) (get_or (map shown xs) k None)
    same k = number_at (set xs key (Some n)) k ∙ kept xs key k e ∙ sym (number_at xs k)

-- room for a member is room of the region's
pub room_at : (xs : List (Option Region)) (next key : ℕ) (now : RegionTable) (rec : Record) → table_of xs next ≡ now → record_at now key ≡ Some rec
    → 0 < rec.room → (r : Region) × (get_or xs key None ≡ Some r) × (length r.members.items < r.members.capacity)
room_at xs next key now rec e f l =
    let P : RegionTable → Type 0 = λ t. record_at t key ≡ Some rec in
    let g : shown (get_or xs key None) ≡ Some rec = sym (shown-at xs key) ∙ subst P (sym e) f in
    by_option (get_or xs key None) g
  where
    by_option : (o : Option Region) → shown o ≡ Some rec → (r : Region) × (o ≡ Some r) × (length r.members.items < r.members.capacity)
    by_option None q = cc
    by_option (Some r) q =
        let s : record_of r ≡ rec = same_Some (record_of r) rec q in
        let n : r.members.capacity - length r.members.items ≡ rec.room = ap (λ (z : Record). z.room) s in
        (r, refl, omega (arith, n, l))

-- nothing shows a change
pub same-shown : (xs : List (Option Region)) (next key : ℕ) (r n : Region) → get_or xs key None ≡ Some r → n.link ≡ r.link
    → record_of n ≡ record_of r → table_of (set xs key (Some n)) next ≡ table_of xs next
same-shown xs next key r n e l s =
    ap (λ ys. record { records = ys; links = map link_of (set xs key (Some n)); next = next }) (shown-same xs key r n e s)
    ∙ ap (λ ys. record { records = map shown xs; links = ys; next = next }) (link-same xs key r n e l)

-- the same of the records as a call left them, with one region written
pub index-stays : (entries : List (ℕ × ℕ)) (old new : Slab Region) (next key : ℕ) (r n : Region) → get_or old.slots key None ≡ Some r
    → new ≡ with_value old key n → n.number ≡ r.number
    → IsIndexed entries (table_of old.slots next) → IsIndexed entries (table_of new.slots next)
index-stays entries old new next key r n e is same i =
    let P : Slab Region → Type 0 = λ p. IsIndexed entries (table_of p.slots next) in
    subst P (sym is) (indexed-written entries old.slots next key r n e same i)
