-- The code of paths and expressions is the same without the lines of the classes.
use Rattle.std.proofs.Common.{◌≡◌, refl, ap, ◌∙◌, ℕ, zero, suc, ◌+◌, if◌then◌else◌, bytes_eq, List, [], ◌∷◌, ◌++◌, map, length, Option, Some, None}
use Rattle.std.proofs.Common.{option_map, unwrap_or}
use Rattle.std.proofs.lemmas.List.{length-map}
use Rattle.rg_base.specs.declared.ty.Ty.{Ty}
use Rattle.rg_base.specs.declared.ty.Ty.TheVariants as ty
use Rattle.rg_tree.specs.Tree.{Name, Variable, Expr, path, is_nil, neg, not, binary, size, element, Call, Member, field, method, Method, Class}
use Rattle.rg_rules.specs.Types.{method_named, method_result}
use Rattle.rg_rules.specs.Paths.{all_but_last, last_field}
use Rattle.rg_code.specs.declared.op.Op.TheVariants as i
use Rattle.rg_code.specs.Lowering.{Scope, slot_of, type_in, field_number, type_behind, type_along, fields_code, path_code, holder_code, held_number}
use Rattle.rg_code.specs.Lowering.{gap, expr_code, exprs_code, used_slots, clears, whole_code, class_of, method_place, methods_among, method_number}
use Rattle.rg_code.specs.Lowering.{number_called, target_class, call_result}
use Rattle.rg_lines.specs.Unlined.{method_unlined, member_unlined, class_unlined, classes_unlined}
use Rattle.rg_lines.proofs.Types.{field_place-unlined, field_type-unlined, method_named-unlined, method_result-unlined}

-- Paths

field_number-unlined : (cs : List Class) (t : Ty) (f : Name) → field_number (classes_unlined cs) t f ≡ field_number cs t f
field_number-unlined cs (ty.Ref cap c) f = ap (λ k. unwrap_or k 0) (field_place-unlined cs c f)
field_number-unlined cs _ f = refl

type_behind-unlined : (cs : List Class) (t : Ty) (f : Name) → type_behind (classes_unlined cs) t f ≡ type_behind cs t f
type_behind-unlined cs (ty.Ref cap c) f = ap (λ o. unwrap_or o ty.Int) (field_type-unlined cs c f)
type_behind-unlined cs _ f = refl

pub type_along-unlined : (cs : List Class) (t : Ty) (fs : List Name) → type_along (classes_unlined cs) t fs ≡ type_along cs t fs
type_along-unlined cs t [] = refl
type_along-unlined cs t (f ∷ fs) =
    ap (λ u. type_along (classes_unlined cs) u fs) (type_behind-unlined cs t f) ∙ type_along-unlined cs (type_behind cs t f) fs

fields_code-unlined : (cs : List Class) (t : Ty) (fs : List Name) → fields_code (classes_unlined cs) t fs ≡ fields_code cs t fs
fields_code-unlined cs t [] = refl
fields_code-unlined cs t (f ∷ fs) =
    ap (λ n. i.Field n ∷ fields_code (classes_unlined cs) (type_behind (classes_unlined cs) t f) fs) (field_number-unlined cs t f)
    ∙ (ap (λ u. i.Field (field_number cs t f) ∷ fields_code (classes_unlined cs) u fs) (type_behind-unlined cs t f)
    ∙ ap (λ ops. i.Field (field_number cs t f) ∷ ops) (fields_code-unlined cs (type_behind cs t f) fs))

pub path_code-unlined : (cs : List Class) (sc : Scope) (x : Variable) (fs : List Name) → path_code (classes_unlined cs) sc x fs ≡ path_code cs sc x fs
path_code-unlined cs sc x fs = ap (λ ops. i.Load (slot_of sc x) ∷ ops) (fields_code-unlined cs (type_in sc x) fs)

pub holder_code-unlined : (cs : List Class) (sc : Scope) (x : Variable) (f : Name) (fs : List Name) →
    holder_code (classes_unlined cs) sc x f fs ≡ holder_code cs sc x f fs
holder_code-unlined cs sc x f fs = path_code-unlined cs sc x (all_but_last f fs)

pub held_number-unlined : (cs : List Class) (sc : Scope) (x : Variable) (f : Name) (fs : List Name) →
    held_number (classes_unlined cs) sc x f fs ≡ held_number cs sc x f fs
held_number-unlined cs sc x f fs =
    ap (λ t. field_number (classes_unlined cs) t (last_field f fs)) (type_along-unlined cs (type_in sc x) (all_but_last f fs))
    ∙ field_number-unlined cs (type_along cs (type_in sc x) (all_but_last f fs)) (last_field f fs)

-- Expressions

pub expr_code-unlined : (cs : List Class) (sc : Scope) (at : ℕ) (e : Expr) → expr_code (classes_unlined cs) sc at e ≡ expr_code cs sc at e
expr_code-unlined cs sc at (path p) = path_code-unlined cs sc p.base p.fields
expr_code-unlined cs sc at (is_nil p) = ap (λ ops. ops ++ i.IsNil ∷ []) (path_code-unlined cs sc p.base p.fields)
expr_code-unlined cs sc at (size p) = ap (λ ops. ops ++ i.Size ∷ []) (path_code-unlined cs sc p.base p.fields)
expr_code-unlined cs sc at (element q e) =
    let array = path_code cs sc q.base q.fields ++ i.Check ∷ [] in
    ap (λ ops. let front = ops ++ i.Check ∷ [] in front ++ (expr_code (classes_unlined cs) sc (at + length front) e ++ i.Bound ∷ i.Element ∷ []))
    (path_code-unlined cs sc q.base q.fields)
    ∙ ap (λ ops. array ++ (ops ++ i.Bound ∷ i.Element ∷ [])) (expr_code-unlined cs sc (at + length array) e)
expr_code-unlined cs sc at (neg a) = ap (λ ops. ops ++ i.Neg ∷ []) (expr_code-unlined cs sc at a)
expr_code-unlined cs sc at (not a) = ap (λ ops. ops ++ i.Not ∷ []) (expr_code-unlined cs sc at a)
expr_code-unlined cs sc at (binary o a b) =
    let left = expr_code-unlined cs sc at a in
    let right = expr_code-unlined cs sc (at + length (expr_code cs sc at a) + gap o) b in
    rw (left, right) refl
expr_code-unlined cs sc at _ = refl

pub exprs_code-unlined : (cs : List Class) (sc : Scope) (at : ℕ) (es : List Expr) → exprs_code (classes_unlined cs) sc at es ≡ exprs_code cs sc at es
exprs_code-unlined cs sc at [] = refl
exprs_code-unlined cs sc at (e ∷ es) =
    let first = expr_code-unlined cs sc at e in
    let others = exprs_code-unlined cs sc (at + length (expr_code cs sc at e)) es in
    rw (first, others) refl

pub whole_code-unlined : (cs : List Class) (sc : Scope) (at : ℕ) (e : Expr) → whole_code (classes_unlined cs) sc at e ≡ whole_code cs sc at e
whole_code-unlined cs sc at e = ap (λ ops. ops ++ clears (used_slots sc e)) (expr_code-unlined cs sc at e)

-- What is called

pub class_of-unlined : (cs : List Class) (t : Ty) → class_of (classes_unlined cs) t ≡ class_of cs t
class_of-unlined cs ty.Int = length-map cs class_unlined
class_of-unlined cs ty.Bool = length-map cs class_unlined
class_of-unlined cs (ty.Ref cap c) = refl

pub target_class-unlined : (cs : List Class) (sc : Scope) (c : Call) → target_class (classes_unlined cs) sc c ≡ target_class cs sc c
target_class-unlined cs sc c =
    ap (class_of (classes_unlined cs)) (type_along-unlined cs (type_in sc c.target.base) c.target.fields)
    ∙ class_of-unlined cs (type_along cs (type_in sc c.target.base) c.target.fields)

method_place-unlined : (ms : List Method) (x : Name) → method_place (map method_unlined ms) x ≡ method_place ms x
method_place-unlined [] x = refl
method_place-unlined (m ∷ ms) x = ap (λ n. if bytes_eq m.name x then 0 else suc n) (method_place-unlined ms x)

pub methods_among-unlined : (ms : List Member) → methods_among (map member_unlined ms) ≡ map method_unlined (methods_among ms)
methods_among-unlined [] = refl
methods_among-unlined (field f ∷ ms) = methods_among-unlined ms
methods_among-unlined (method m ∷ ms) = ap (λ others. method_unlined m ∷ others) (methods_among-unlined ms)

method_number-unlined : (cs : List Class) (c : ℕ) (x : Name) → method_number (classes_unlined cs) c x ≡ method_number cs c x
method_number-unlined [] c x = refl
method_number-unlined (k ∷ ks) zero x =
    ap (λ ms. method_place ms x) (methods_among-unlined k.members) ∙ method_place-unlined (methods_among k.members) x
method_number-unlined (k ∷ ks) (suc c) x =
    ap (λ n. n + method_number (classes_unlined ks) c x)
    (ap length (methods_among-unlined k.members) ∙ length-map (methods_among k.members) method_unlined)
    ∙ ap (λ n. length (methods_among k.members) + n) (method_number-unlined ks c x)

-- a number, if there is a method
abbrev number_as : Option Method → ℕ → ℕ
number_as o n = elim o [ None ↦ 0 | Some m ↦ n ]

number_by : (o : Option Method) (n : ℕ) → number_as (option_map method_unlined o) n ≡ number_as o n
number_by None n = refl
number_by (Some m) n = refl

pub number_called-unlined : (cs : List Class) (c : ℕ) (x : Name) → number_called (classes_unlined cs) c x ≡ number_called cs c x
number_called-unlined cs c x =
    ap (number_as (method_named (classes_unlined cs) c x)) (method_number-unlined cs c x)
    ∙ (ap (λ o. number_as o (method_number cs c x)) (method_named-unlined cs c x) ∙ number_by (method_named cs c x) (method_number cs c x))

-- the type of the result, if there is a method
abbrev result_as : List Class → Option Method → Option Ty
result_as cs o = elim o [ None ↦ None | Some m ↦ method_result cs m ]

result_by : (cs : List Class) (o : Option Method) → result_as (classes_unlined cs) (option_map method_unlined o) ≡ result_as cs o
result_by cs None = refl
result_by cs (Some m) = method_result-unlined cs m

pub call_result-unlined : (cs : List Class) (sc : Scope) (c : Call) → call_result (classes_unlined cs) sc c ≡ call_result cs sc c
call_result-unlined cs sc c =
    ap (λ k. result_as (classes_unlined cs) (method_named (classes_unlined cs) k c.method)) (target_class-unlined cs sc c)
    ∙ (ap (result_as (classes_unlined cs)) (method_named-unlined cs (target_class cs sc c) c.method)
    ∙ result_by cs (method_named cs (target_class cs sc c) c.method))
