-- The type of the elements of a class: what the table answers is what the rules answer for the tree.
use Rattle.std.proofs.Common.{◌≡◌, ℕ, List, length, Option, None, Some, IfSome, option_map, option_and_then, [], Ok, refl, sym}
use Rattle.std.proofs.Common.{ap, ◌∙◌, subst, arith, false, is_some}
use Rattle.std.proofs.lemmas.List.{length-map}
use Rattle.std.proofs.lemmas.Option.{slice_get-map}
use Rattle.rg_base.specs.declared.ty.Ty.{Ty}
use Rattle.rg_base.proofs.Callers.Lists.{there}
use Rattle.rg_tree.specs.declared.rows.TypeRow.{TypeRow}
use Rattle.rg_tree.specs.Tree.{Name, Ty as Written, Class}
use Rattle.rg_tree.specs.Rows.Tables.{Tables}
use Rattle.rg_tree.specs.Rows.RowTrees.{class_of, classes_of, type_of as written}
use Rattle.rg_tree.proofs.Programs.{classes_of-row}
use Rattle.rg_rules.specs.Answers.{at_line}
use Rattle.rg_rules.specs.Types.{class_number, class_named, type_of, good_type, is_array, names_array, element_type}
use Rattle.rg_rules.specs.Headers.{element_header, rest_header, class_names}
use Rattle.rg_rules.proofs.Answers.{then-ok, at_line-ok}
use Rattle.rg_rules.proofs.Header.{class_number-at, good_type-type_of, class_members-at}
use Rattle.rg_names.specs.Table.{Table, IsClass, element_in}
use Rattle.rg_names.specs.TableOf.{ty_of, element_of, IsTableOf}
use Rattle.rg_names.specs.TreeAnswers.{class_place, IsKnown}
use Rattle.rg_names.proofs.TypeFacts.{head_of, good_type-IsKnown}

element-written : (t : Tables) (o : Option TypeRow) →
    option_map (ty_of t) o ≡ option_map (type_of (classes_of t)) (option_map (written t) o)
element-written t None = refl
element-written t (Some y) = refl

-- its class is there
element-known : (classes : List Class) (d : Class) (o : Option Written) → rest_header classes d o ≡ Ok tt →
    IfSome (option_map (type_of classes) o) (IsKnown classes)
element-known classes d None h = tt
element-known classes d (Some w) h =
    let p = then-ok (at_line d.line (element_header classes d w)) _ tt h in
    let q = then-ok (good_type classes w) _ tt (at_line-ok d.line (element_header classes d w) tt p.1) in
    rw (← good_type-type_of classes w q.0 q.1) (good_type-IsKnown classes w q.0 q.1)

-- the type of the elements of the class of a number, in the table and in the tree
record ElementAt (t : Tables) (table : Table) (class : ℕ) : Type 0 where
  pub in_tree : element_in table class ≡ element_type (classes_of t) class
  pub known : IfSome (element_in table class) (IsKnown (classes_of t))

element_at : (t : Tables) (table : Table) → IsTableOf t table → (class : ℕ) → IsClass table class → ElementAt t table class
element_at t table is class l =
    let same : length table.heads ≡ length t.classes = ap (λ (v : Table). length v.heads) is.table_is ∙ length-map t.classes head_of in
    let c = there t.classes class (omega arith) in
    let tree = classes_of-row t class c.0 c.1 in
    let table_has : element_in table class ≡ element_of t c.0 =
    ap (λ (v : Table). element_in v class) is.table_is
    ∙ ap (option_and_then (λ (o : Option Ty). o)) (slice_get-map (element_of t) t.classes class ∙ ap (option_map (element_of t)) c.1) in
    let tree_has : element_type (classes_of t) class ≡ option_map (type_of (classes_of t)) (class_of t c.0).element =
    ap (λ o. option_map (type_of (classes_of t)) (option_and_then (λ (k : Class). k.element) o)) tree in
    let same_type = table_has ∙ element-written t c.0.element in
    let names = then-ok (class_names [] (classes_of t)) _ tt is.headers in
    let good = class_members-at (classes_of t) (classes_of t) class (class_of t c.0) names.2 tree in
    record {
      in_tree = same_type ∙ sym tree_has;
      known = subst (λ o. IfSome o (IsKnown (classes_of t))) (sym same_type)
          (element-known (classes_of t) (class_of t c.0) (class_of t c.0).element good);
    }

pub element_in-tree : (t : Tables) (table : Table) → IsTableOf t table → (class : ℕ) → IsClass table class →
    element_in table class ≡ element_type (classes_of t) class
element_in-tree t table is class l = (element_at t table is class l).in_tree

pub element_in-known : (t : Tables) (table : Table) → IsTableOf t table → (class : ℕ) → IsClass table class →
    IfSome (element_in table class) (IsKnown (classes_of t))
element_in-known t table is class l = (element_at t table is class l).known

-- Whether the class of a name is an array class.

pub array-none : (classes : List Class) (x : Name) → None ≡ class_place classes x → false ≡ names_array classes x
array-none classes x = by (class_named classes x)
  where
    by : (o : Option Class) → None ≡ option_map (λ c. class_number classes x) o → false ≡ elim o [ None ↦ false | Some c ↦ is_array c ]
    by None h = refl
    by (Some c) h = grind arith

typed : (classes : List Class) (o : Option Written) → is_some (option_map (type_of classes) o) ≡ is_some o
typed classes None = refl
typed classes (Some w) = refl

pub array-some : (classes : List Class) (x : Name) (k : ℕ) → Some k ≡ class_place classes x → is_some (element_type classes k) ≡ names_array classes x
array-some classes x k = by (class_named classes x) refl
  where
    by : (o : Option Class) → class_named classes x ≡ o → Some k ≡ option_map (λ c. class_number classes x) o →
        is_some (element_type classes k) ≡ elim o [ None ↦ false | Some c ↦ is_array c ]
    by None e h = grind arith
    by (Some c) e h = let same : k ≡ class_number classes x = grind arith in rw (same, class_number-at classes x c e) (typed classes c.element)
