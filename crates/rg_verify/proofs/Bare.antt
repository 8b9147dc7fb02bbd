-- A program that raises a module has no brackets but those of its form: the one that is told has none, and it is the same but for lines.
use Rattle.std.proofs.Common.{◌≡◌, subst, List, [], ◌∷◌, map, Option, Some, None}
use Rattle.std.specs.List.{AllByRecursion}
use Rattle.rg_tree.specs.Tree.{Ty, Member, field, method, Tree}
use Rattle.rg_limits.specs.Bare.{IsBareMember, HasBareMembers, IsBareClass, IsBareTree}
use Rattle.rg_lines.specs.Unlined.{member_unlined, class_unlined, unlined, SameButLines}
use Rattle.rg_told.specs.Bare.{ToldAreBare}
use Rattle.rg_verify.specs.Told.{RaisedAlike, ToldRaisesIfAny}
use Rattle.rg_verify.specs.Bare.{RaisedAreBare}

-- Names don't change with lines.

member-to : (m : Member) → IsBareMember m → IsBareMember (member_unlined m)
member-to (field f) h = h
member-to (method m) h = h

member-from : (m : Member) → IsBareMember (member_unlined m) → IsBareMember m
member-from (field f) h = h
member-from (method m) h = h

all-to : {A B : Type 0} (P : A → Type 0) (Q : B → Type 0) (f : A → B) → ((x : A) → P x → Q (f x)) → (xs : List A) → AllByRecursion P xs →
    AllByRecursion Q (map f xs)
all-to P Q f go [] h = tt
all-to P Q f go (x ∷ xs) h = (go x h.0, all-to P Q f go xs h.1)

all-from : {A B : Type 0} (P : A → Type 0) (Q : B → Type 0) (f : A → B) → ((x : A) → Q (f x) → P x) → (xs : List A) →
    AllByRecursion Q (map f xs) → AllByRecursion P xs
all-from P Q f go [] h = tt
all-from P Q f go (x ∷ xs) h = (go x h.0, all-from P Q f go xs h.1)

none : {B : Type 0} (m : Member) (ms : List Member) → m ∷ ms ≡ [] → B
none m ms e = absurd cc

members-to : (e : Option Ty) (ms : List Member) → HasBareMembers e ms → HasBareMembers e (map member_unlined ms)
members-to None ms h = all-to IsBareMember IsBareMember member_unlined member-to ms h
members-to (Some t) [] h = h
members-to (Some t) (m ∷ ms) h = none m ms h.1

members-from : (e : Option Ty) (ms : List Member) → HasBareMembers e (map member_unlined ms) → HasBareMembers e ms
members-from None ms h = all-from IsBareMember IsBareMember member_unlined member-from ms h
members-from (Some t) [] h = h
members-from (Some t) (m ∷ ms) h = none (member_unlined m) (map member_unlined ms) h.1

tree-to : (t : Tree) → IsBareTree t → IsBareTree (unlined t)
tree-to t h = record {
  classes = all-to IsBareClass IsBareClass class_unlined
      (λ c b. record { name = b.name; members = members-to c.element c.members b.members }) t.classes h.classes;
  body = h.body;
}

tree-from : (t : Tree) → IsBareTree (unlined t) → IsBareTree t
tree-from t h = record {
  classes = all-from IsBareClass IsBareClass class_unlined
      (λ c b. record { name = b.name; members = members-from c.element c.members b.members }) t.classes h.classes;
  body = h.body;
}

bare-lineless : (t u : Tree) → SameButLines t u → IsBareTree t → IsBareTree u
bare-lineless t u e h = tree-from u (subst IsBareTree e (tree-to t h))

pub raised-bare : ToldRaisesIfAny → RaisedAlike → ToldAreBare → RaisedAreBare
raised-bare raises alike bare m t h =
    let told = raises m t h in
    bare-lineless told.program t (alike m told.program t told.raises h) (bare m told.program told.is_told told.raises.within.numbers)
