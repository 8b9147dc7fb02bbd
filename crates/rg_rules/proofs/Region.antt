-- Regions beneath others, other labels, and objects in reach. For callers.
use Rattle.std.proofs.Common.{◌≡◌, refl, ◌∙◌, ℕ, zero, suc, Bool, true, false, ◌&&◌, if◌then◌else◌, List, [], ◌∷◌, ◌++◌, length, flat_map, option_map}
use Rattle.std.proofs.Common.{slice_get, arith}
use Rattle.std.specs.List.{list_all}
use Rattle.std.proofs.lemmas.Option.{slice_get-map}
use Rattle.std.proofs.lemmas.List.{length-map}
use Rattle.rg_base.specs.declared.object.Seen.{Seen}
use Rattle.rg_base.specs.declared.object.Label.{Label}
use Rattle.rg_tree.specs.Tree.{Class}
use Rattle.rg_rules.specs.Regions.{among, in_regions, led_from, joined_with, beneath, relabelled_object, relabelled}
use Rattle.rg_rules.specs.Reach.{inside, led_from_object, reached}

-- numbers that are all there add nothing
joined_with-all_by : (b rest : Bool) (ns joined others : List ℕ) → b && rest ≡ true → (rest ≡ true → joined ≡ ns) →
    (b ≡ true → others ≡ joined) → others ≡ ns
joined_with-all_by true rest ns joined others h behind same = same refl ∙ behind h
joined_with-all_by false rest ns joined others h behind same = grind arith

joined_with-first_by : (b : Bool) (ns ms : List ℕ) (m : ℕ) → b ≡ true → joined_with (if b then ns else ns ++ m ∷ []) ms ≡ joined_with ns ms
joined_with-first_by true ns ms m h = refl
joined_with-first_by false ns ms m h = grind arith

pub joined_with-all : (ns ms : List ℕ) → list_all (among ns) ms ≡ true → joined_with ns ms ≡ ns
joined_with-all ns [] h = refl
joined_with-all ns (m ∷ ms) h =
    joined_with-all_by (among ns m) (list_all (among ns) ms) ns (joined_with ns ms) (joined_with (if among ns m then ns else ns ++ m ∷ []) ms) h
    (joined_with-all ns ms) (joined_with-first_by (among ns m) ns ms m)

-- regions from which owner references lead to no other are all
pub beneath-still : (classes : List Class) (store : List Seen) (links : ℕ) (regions : List ℕ) →
    joined_with regions (led_from classes store (in_regions regions) store) ≡ regions → beneath classes store links regions ≡ regions
beneath-still classes store zero regions h = refl
beneath-still classes store (suc k) regions h = rw h (beneath-still classes store k regions h)

-- objects from which fields lead to no other of the region are all
pub reached-still : (r : ℕ) (store : List Seen) (links : ℕ) (found : List ℕ) →
    joined_with found (inside r store (flat_map (led_from_object store) found)) ≡ found → reached r store links found ≡ found
reached-still r store zero found h = refl
reached-still r store (suc k) found h = rw h (reached-still r store k found h)

-- one more link at the end
pub beneath-suc : (classes : List Class) (store : List Seen) (links : ℕ) (regions : List ℕ) → beneath classes store (suc links) regions ≡
    joined_with (beneath classes store links regions) (led_from classes store (in_regions (beneath classes store links regions)) store)
beneath-suc classes store zero regions = refl
beneath-suc classes store (suc k) regions = beneath-suc classes store k (joined_with regions (led_from classes store (in_regions regions) store))

pub reached-suc : (r : ℕ) (store : List Seen) (links : ℕ) (found : List ℕ) → reached r store (suc links) found ≡
    joined_with (reached r store links found) (inside r store (flat_map (led_from_object store) (reached r store links found)))
reached-suc r store zero found = refl
reached-suc r store (suc k) found = reached-suc r store k (joined_with found (inside r store (flat_map (led_from_object store) found)))

-- another label is given object by object
pub slice_get-relabelled : (regions : List ℕ) (label : Label) (store : List Seen) (a : ℕ) →
    slice_get (relabelled regions label store) a ≡ option_map (relabelled_object regions label) (slice_get store a)
slice_get-relabelled regions label store a = slice_get-map (relabelled_object regions label) store a

pub length-relabelled : (regions : List ℕ) (label : Label) (store : List Seen) → length (relabelled regions label store) ≡ length store
length-relabelled regions label store = length-map store (relabelled_object regions label)

-- it changes neither class nor fields
class-relabelled_by : (b : Bool) (label : Label) (o : Seen) → (if b then record o { label = label } else o).class ≡ o.class
class-relabelled_by true label o = refl
class-relabelled_by false label o = refl

pub class-relabelled_object : (regions : List ℕ) (label : Label) (o : Seen) → (relabelled_object regions label o).class ≡ o.class
class-relabelled_object regions label o = class-relabelled_by (in_regions regions o.label) label o

fields-relabelled_by : (b : Bool) (label : Label) (o : Seen) → (if b then record o { label = label } else o).fields ≡ o.fields
fields-relabelled_by true label o = refl
fields-relabelled_by false label o = refl

pub fields-relabelled_object : (regions : List ℕ) (label : Label) (o : Seen) → (relabelled_object regions label o).fields ≡ o.fields
fields-relabelled_object regions label o = fields-relabelled_by (in_regions regions o.label) label o
