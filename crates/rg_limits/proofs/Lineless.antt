-- The limits say the same of a program without the lines that no mark has.
use Rattle.std.proofs.Common.{◌≡◌, refl, sym, ap, ◌∙◌, subst, ℕ, suc, ◌≤◌, max, List, [], ◌∷◌, length, map, filter_map, All}
use Rattle.std.specs.List.{AllByRecursion}
use Rattle.std.proofs.lemmas.List.{length-map}
use Rattle.std.proofs.lemmas.List.Elements.{recursion_from_All, All-from_recursion}
use Rattle.rg_base.specs.declared.limits.TheConstants.{BRACKETS, CLASSES, CLASS_FIELDS, CLASS_METHODS, PARAMETERS}
use Rattle.rg_tree.specs.Tree.{StmtKind, Method, Member, field, method, Class, Tree}
use Rattle.rg_rules.specs.Types.{field_member, method_member}
use Rattle.rg_lines.specs.Unlined.{method_unlined, member_unlined, class_unlined, classes_unlined, unlined, SameButLines}
use Rattle.rg_lines.specs.Laws.{SameNames}
use Rattle.rg_limits.specs.Parts.{HasFewMembers, HasFewParts}
use Rattle.rg_limits.specs.Opens.{member_opens, members_opens, class_opens, classes_opens, block_opens, tree_opens}
use Rattle.rg_limits.specs.Each.{HoldsInMember, HoldsOfEach}
use Rattle.rg_limits.specs.Laws.{LimitsAreLineless}

-- Of each element of a list, and of what is made of it

module _ {A B : Type 0} (P : A → Type 0) (Q : B → Type 0) (f : A → B) where
  recursion-to : ((x : A) → P x → Q (f x)) → (xs : List A) → AllByRecursion P xs → AllByRecursion Q (map f xs)
  recursion-to g [] h = h
  recursion-to g (x ∷ xs) h = (g x h.0, recursion-to g xs h.1)

  recursion-from : ((x : A) → Q (f x) → P x) → (xs : List A) → AllByRecursion Q (map f xs) → AllByRecursion P xs
  recursion-from g [] h = h
  recursion-from g (x ∷ xs) h = (g x h.0, recursion-from g xs h.1)

  all-to : ((x : A) → P x → Q (f x)) → (xs : List A) → All P xs → All Q (map f xs)
  all-to g xs h = All-from_recursion Q (map f xs) (recursion-to g xs (recursion_from_All P xs h))

  all-from : ((x : A) → Q (f x) → P x) → (xs : List A) → All Q (map f xs) → All P xs
  all-from g xs h = All-from_recursion P xs (recursion-from g xs (recursion_from_All Q (map f xs) h))

-- Parts

fields-long : (ms : List Member) → length (filter_map field_member (map member_unlined ms)) ≡ length (filter_map field_member ms)
fields-long [] = refl
fields-long (field f ∷ ms) = ap suc (fields-long ms)
fields-long (method m ∷ ms) = fields-long ms

methods-same : (ms : List Member) → filter_map method_member (map member_unlined ms) ≡ map method_unlined (filter_map method_member ms)
methods-same [] = refl
methods-same (field f ∷ ms) = methods-same ms
methods-same (method m ∷ ms) = ap (λ r. method_unlined m ∷ r) (methods-same ms)

methods-long : (ms : List Member) → length (filter_map method_member (map member_unlined ms)) ≡ length (filter_map method_member ms)
methods-long ms = ap length (methods-same ms) ∙ length-map (filter_map method_member ms) method_unlined

-- a method has few parameters
abbrev HasFewParams : Method → Type 0
HasFewParams m = length m.params ≤ PARAMETERS

members-to : (c : Class) → HasFewMembers c → HasFewMembers (class_unlined c)
members-to c h = record {
  fields = subst (λ (n : ℕ). n ≤ CLASS_FIELDS) (sym (fields-long c.members)) h.fields;
  methods = subst (λ (n : ℕ). n ≤ CLASS_METHODS) (sym (methods-long c.members)) h.methods;
  params = subst (AllByRecursion HasFewParams) (sym (methods-same c.members))
      (recursion-to HasFewParams HasFewParams method_unlined (λ m p. p) (filter_map method_member c.members) h.params);
}

members-from : (c : Class) → HasFewMembers (class_unlined c) → HasFewMembers c
members-from c h = record {
  fields = subst (λ (n : ℕ). n ≤ CLASS_FIELDS) (fields-long c.members) h.fields;
  methods = subst (λ (n : ℕ). n ≤ CLASS_METHODS) (methods-long c.members) h.methods;
  params = recursion-from HasFewParams HasFewParams method_unlined (λ m p. p) (filter_map method_member c.members)
      (subst (AllByRecursion HasFewParams) (methods-same c.members) h.params);
}

parts-to : (t : Tree) → HasFewParts t → HasFewParts (unlined t)
parts-to t h = record {
  classes = subst (λ (n : ℕ). n ≤ CLASSES) (sym (length-map t.classes class_unlined)) h.classes;
  members = recursion-to HasFewMembers HasFewMembers class_unlined members-to t.classes h.members;
}

parts-from : (t : Tree) → HasFewParts (unlined t) → HasFewParts t
parts-from t h = record {
  classes = subst (λ (n : ℕ). n ≤ CLASSES) (length-map t.classes class_unlined) h.classes;
  members = recursion-from HasFewMembers HasFewMembers class_unlined members-from t.classes h.members;
}

-- Brackets

member-opens : (m : Member) → member_opens (member_unlined m) ≡ member_opens m
member-opens (field f) = refl
member-opens (method m) = refl

members-opens : (ms : List Member) → members_opens (map member_unlined ms) ≡ members_opens ms
members-opens [] = refl
members-opens (m ∷ ms) =
    ap (λ (n : ℕ). max n (members_opens (map member_unlined ms))) (member-opens m)
    ∙ ap (λ (n : ℕ). max (member_opens m) n) (members-opens ms)

classes-opens : (cs : List Class) → classes_opens (classes_unlined cs) ≡ classes_opens cs
classes-opens [] = refl
classes-opens (c ∷ cs) =
    ap (λ (n : ℕ). max (suc n) (classes_opens (classes_unlined cs))) (members-opens c.members)
    ∙ ap (λ (n : ℕ). max (class_opens c) n) (classes-opens cs)

tree-opens : (t : Tree) → tree_opens (unlined t) ≡ tree_opens t
tree-opens t = ap (λ (n : ℕ). max n (suc (block_opens t.body))) (classes-opens t.classes)

-- it opens few brackets
abbrev OpensFew : Tree → Type 0
OpensFew t = tree_opens t ≤ BRACKETS

opens-to : (t : Tree) → OpensFew t → OpensFew (unlined t)
opens-to t h = subst (λ (n : ℕ). n ≤ BRACKETS) (sym (tree-opens t)) h

opens-from : (t : Tree) → OpensFew (unlined t) → OpensFew t
opens-from t h = subst (λ (n : ℕ). n ≤ BRACKETS) (tree-opens t) h

-- Each statement

module _ (P : StmtKind → Type 0) where
  member-to : (m : Member) → HoldsInMember P m → HoldsInMember P (member_unlined m)
  member-to (field f) h = h
  member-to (method m) h = h

  member-from : (m : Member) → HoldsInMember P (member_unlined m) → HoldsInMember P m
  member-from (field f) h = h
  member-from (method m) h = h

  -- it holds of the statements of a class
  abbrev InClass : Class → Type 0
  InClass c = All (HoldsInMember P) c.members

  class-to : (c : Class) → InClass c → InClass (class_unlined c)
  class-to c h = all-to (HoldsInMember P) (HoldsInMember P) member_unlined member-to c.members h

  class-from : (c : Class) → InClass (class_unlined c) → InClass c
  class-from c h = all-from (HoldsInMember P) (HoldsInMember P) member_unlined member-from c.members h

  each-to : (t : Tree) → HoldsOfEach P t → HoldsOfEach P (unlined t)
  each-to t h = record { methods = all-to InClass InClass class_unlined class-to t.classes h.methods; main = h.main }

  each-from : (t : Tree) → HoldsOfEach P (unlined t) → HoldsOfEach P t
  each-from t h = record { methods = all-from InClass InClass class_unlined class-from t.classes h.methods; main = h.main }

-- what holds of a program without such lines exactly where it holds of the program goes over
over : (X : Tree → Type 0) → ((t : Tree) → X t → X (unlined t)) → ((t : Tree) → X (unlined t) → X t) → (t u : Tree) → SameButLines t u → X t → X u
over X to from t u e h = from u (subst X e (to t h))

pub limits-lineless : SameNames → LimitsAreLineless
limits-lineless names t u e h = record {
  parts = over HasFewParts parts-to parts-from t u e h.parts;
  names = names t u e h.names;
  signs = over (HoldsOfEach _) (each-to _) (each-from _) t u e h.signs;
  numbers = over (HoldsOfEach _) (each-to _) (each-from _) t u e h.numbers;
  brackets = over OpensFew opens-to opens-from t u e h.brackets;
}
