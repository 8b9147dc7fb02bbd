-- Types, fields and methods of classes without their lines are those of the classes. For callers.
use Rattle.std.proofs.Common.{◌≡◌, refl, ap, ◌∙◌, ℕ, suc, Bool as Truth, true, false, if◌then◌else◌, bytes_eq, List, [], ◌∷◌, map, find, filter_map}
use Rattle.std.proofs.Common.{Option, Some, None, option_map, option_and_then, slice_get, Ok}
use Rattle.std.proofs.lemmas.Option.{slice_get-map}
use Rattle.rg_base.specs.declared.ty.Ty.TheVariants.{Ref}
use Rattle.rg_base.specs.declared.fault.Code.TheVariants.{Unknown, BadType}
use Rattle.rg_tree.specs.Tree.{Name, Ty as Written, int, bool, ref, Param, Field, Method, Member, field, method, Class}
use Rattle.rg_rules.specs.Answers.{◌>>◌, test}
use Rattle.rg_rules.specs.Types.{class_number, class_named, type_of, suits_class, good_type, is_array, names_array, element_type, field_member}
use Rattle.rg_rules.specs.Types.{method_member, members_of, fields_of, methods_of, field_place, field_type, method_named, param_types, method_result}
use Rattle.rg_lines.specs.Unlined.{field_unlined, method_unlined, member_unlined, class_unlined, classes_unlined}
use Rattle.rg_lines.proofs.DoBlocks.{found-same}

-- what is found among changed items is what is found among the items, changed
pub find-map : {A C : Type 0} (f : A → C) (test' : C → Truth) (xs : List A) → find test' (map f xs) ≡ option_map f (find (λ a. test' (f a)) xs)
find-map f test' [] = refl
find-map f test' (x ∷ xs) = by (test' (f x)) (find-map f test' xs)
  where
    by : (b : Truth) → find test' (map f xs) ≡ option_map f (find (λ a. test' (f a)) xs) →
        (if b then Some (f x) else find test' (map f xs)) ≡ option_map f (if b then Some x else find (λ a. test' (f a)) xs)
    by true h = refl
    by false h = h

-- Classes

pub class_number-unlined : (cs : List Class) (x : Name) → class_number (classes_unlined cs) x ≡ class_number cs x
class_number-unlined [] x = refl
class_number-unlined (c ∷ cs) x = ap (λ n. if bytes_eq c.name x then 0 else suc n) (class_number-unlined cs x)

pub class_named-unlined : (cs : List Class) (x : Name) → class_named (classes_unlined cs) x ≡ option_map class_unlined (class_named cs x)
class_named-unlined cs x = find-map class_unlined (λ c. bytes_eq c.name x) cs

pub class_at-unlined : (cs : List Class) (c : ℕ) → slice_get (classes_unlined cs) c ≡ option_map class_unlined (slice_get cs c)
class_at-unlined cs c = slice_get-map class_unlined cs c

-- Types

pub type_of-unlined : (cs : List Class) (t : Written) → type_of (classes_unlined cs) t ≡ type_of cs t
type_of-unlined cs int = refl
type_of-unlined cs bool = refl
type_of-unlined cs (ref cap x) = ap (Ref cap) (class_number-unlined cs x)

pub types_of-unlined : (cs : List Class) (o : Option Written) → option_map (type_of (classes_unlined cs)) o ≡ option_map (type_of cs) o
types_of-unlined cs None = refl
types_of-unlined cs (Some t) = ap Some (type_of-unlined cs t)

pub good_type-unlined : (cs : List Class) (t : Written) → good_type (classes_unlined cs) t ≡ good_type cs t
good_type-unlined cs int = refl
good_type-unlined cs bool = refl
good_type-unlined cs (ref cap x) =
    found-same class_unlined _ (class_named cs x) Unknown _ _ (class_named-unlined cs x)
    (λ c. ap (λ n. ◌>>◌ (test (suits_class cap c.is_tmp) BadType) (Ok (Ref cap n))) (class_number-unlined cs x))

is_array_by : (o : Option Class) →
    let f : Option Class → Truth = λ o. elim o [ None ↦ false | Some c ↦ is_array c ] in f (option_map class_unlined o) ≡ f o
is_array_by None = refl
is_array_by (Some c) = refl

pub names_array-unlined : (cs : List Class) (x : Name) → names_array (classes_unlined cs) x ≡ names_array cs x
names_array-unlined cs x =
    let f : Option Class → Truth = λ o. elim o [ None ↦ false | Some c ↦ is_array c ] in
    ap f (class_named-unlined cs x) ∙ is_array_by (class_named cs x)

element_by : (cs : List Class) (o : Option Class) →
    option_map (type_of (classes_unlined cs)) (option_and_then (λ (k : Class). k.element) (option_map class_unlined o))
    ≡ option_map (type_of cs) (option_and_then (λ (k : Class). k.element) o)
element_by cs None = refl
element_by cs (Some c) = types_of-unlined cs c.element

pub element_type-unlined : (cs : List Class) (c : ℕ) → element_type (classes_unlined cs) c ≡ element_type cs c
element_type-unlined cs c = rw (class_at-unlined cs c) (element_by cs (slice_get cs c))

-- Fields

fields_by : (ms : List Member) → filter_map field_member (map member_unlined ms) ≡ map field_unlined (filter_map field_member ms)
fields_by [] = refl
fields_by (field f ∷ ms) = ap (λ fs. field_unlined f ∷ fs) (fields_by ms)
fields_by (method m ∷ ms) = fields_by ms

fields_at : (o : Option Class) → filter_map field_member (members_of (option_map class_unlined o))
    ≡ map field_unlined (filter_map field_member (members_of o))
fields_at None = refl
fields_at (Some c) = fields_by c.members

pub fields_of-unlined : (cs : List Class) (c : ℕ) → fields_of (classes_unlined cs) c ≡ map field_unlined (fields_of cs c)
fields_of-unlined cs c = rw (class_at-unlined cs c) (fields_at (slice_get cs c))

field_place_by : (fs : List Field) (x : Name) → field_place (map field_unlined fs) x ≡ field_place fs x
field_place_by [] x = refl
field_place_by (f ∷ fs) x = ap (λ n. if bytes_eq f.name x then Some 0 else option_map suc n) (field_place_by fs x)

pub field_place-unlined : (cs : List Class) (c : ℕ) (x : Name) → field_place (fields_of (classes_unlined cs) c) x ≡ field_place (fields_of cs c) x
field_place-unlined cs c x = ap (λ fs. field_place fs x) (fields_of-unlined cs c) ∙ field_place_by (fields_of cs c) x

field_type_by : (cs : List Class) (o : Option Field) →
    option_map (λ (f : Field). type_of (classes_unlined cs) f.ty) (option_map field_unlined o) ≡ option_map (λ (f : Field). type_of cs f.ty) o
field_type_by cs None = refl
field_type_by cs (Some f) = ap Some (type_of-unlined cs f.ty)

pub field_type-unlined : (cs : List Class) (c : ℕ) (x : Name) → field_type (classes_unlined cs) c x ≡ field_type cs c x
field_type-unlined cs c x =
    ap (λ fs. option_map (λ (f : Field). type_of (classes_unlined cs) f.ty) (find (λ (f : Field). bytes_eq f.name x) fs)) (fields_of-unlined cs c)
    ∙ (ap (λ o. option_map (λ (f : Field). type_of (classes_unlined cs) f.ty) o)
    (find-map field_unlined (λ (f : Field). bytes_eq f.name x) (fields_of cs c))
    ∙ field_type_by cs (find (λ (f : Field). bytes_eq f.name x) (fields_of cs c)))

-- Methods

methods_by : (ms : List Member) → filter_map method_member (map member_unlined ms) ≡ map method_unlined (filter_map method_member ms)
methods_by [] = refl
methods_by (field f ∷ ms) = methods_by ms
methods_by (method m ∷ ms) = ap (λ others. method_unlined m ∷ others) (methods_by ms)

methods_at : (o : Option Class) → filter_map method_member (members_of (option_map class_unlined o))
    ≡ map method_unlined (filter_map method_member (members_of o))
methods_at None = refl
methods_at (Some c) = methods_by c.members

pub methods_of-unlined : (cs : List Class) (c : ℕ) → methods_of (classes_unlined cs) c ≡ map method_unlined (methods_of cs c)
methods_of-unlined cs c = rw (class_at-unlined cs c) (methods_at (slice_get cs c))

pub method_named-unlined : (cs : List Class) (c : ℕ) (x : Name) →
    method_named (classes_unlined cs) c x ≡ option_map method_unlined (method_named cs c x)
method_named-unlined cs c x =
    ap (λ ms. find (λ (m : Method). bytes_eq m.name x) ms) (methods_of-unlined cs c)
    ∙ find-map method_unlined (λ (m : Method). bytes_eq m.name x) (methods_of cs c)

params_by : (cs : List Class) (ps : List Param) → map (λ (p : Param). type_of (classes_unlined cs) p.ty) ps ≡ map (λ (p : Param). type_of cs p.ty) ps
params_by cs [] = refl
params_by cs (p ∷ ps) =
    ap (λ t. t ∷ map (λ (p : Param). type_of (classes_unlined cs) p.ty) ps) (type_of-unlined cs p.ty)
    ∙ ap (λ ts. type_of cs p.ty ∷ ts) (params_by cs ps)

pub param_types-unlined : (cs : List Class) (m : Method) → param_types (classes_unlined cs) m ≡ param_types cs m
param_types-unlined cs m = params_by cs m.params

pub method_result-unlined : (cs : List Class) (m : Method) → method_result (classes_unlined cs) m ≡ method_result cs m
method_result-unlined cs m = types_of-unlined cs m.result
