-- The `iso` fields of members against cowns, one after another (docs/architecture.md, "Plans").
use Rattle.std.specs.Prelude.{◌≡◌, ℕ, bytes_eq, false, List, ◌∷◌, filter_map, Option, Some, None}
use Rattle.rg_tree.specs.Tree.{Member, Class}
use Rattle.rg_plan.specs.declared.cown.Cown.{Cown}
use Rattle.rg_plan.specs.Lines.{owned_by, cown_classes}

-- the classes of the `iso` fields among members
abbrev pub owned_among : List Class → List Member → List ℕ
owned_among classes members = filter_map (owned_by classes) members

-- these cowns begin with one of a class, if others are left; what is compared behind it
abbrev pub BeginsWith : (class : ℕ) → List Cown → (numbers : List ℕ) → Option (List ℕ) → Type 0
BeginsWith class cowns numbers None = (cs : List ℕ) → bytes_eq (class ∷ cs) (cown_classes cowns numbers) ≡ false
BeginsWith class cowns numbers (Some rest) =
    (cs : List ℕ) → bytes_eq (class ∷ cs) (cown_classes cowns numbers) ≡ bytes_eq cs (cown_classes cowns rest)

-- the same of what a member owns, if it owns anything
abbrev pub Matches : List Class → Member → List Cown → (numbers : List ℕ) → Option (List ℕ) → Type 0
Matches classes m cowns numbers None = (ms : List Member) → bytes_eq (owned_among classes (m ∷ ms)) (cown_classes cowns numbers) ≡ false
Matches classes m cowns numbers (Some rest) =
    (ms : List Member) → bytes_eq (owned_among classes (m ∷ ms)) (cown_classes cowns numbers)
    ≡ bytes_eq (owned_among classes ms) (cown_classes cowns rest)
