-- Expressions with names have the code of those with numbers.
use Rattle.std.proofs.Common.{◌≡◌, ℕ, ◌+◌, Bool as Truth, List, [], ◌∷◌, ◌++◌, map, length, refl, ap, ◌∙◌}
use Rattle.std.specs.List.{AllByRecursion}
use Rattle.rg_base.specs.declared.ty.Ty.{Ty}
use Rattle.rg_tree.specs.Tree.{Class}
use Rattle.rg_code.specs.declared.op.Op.{Op}
use Rattle.rg_code.specs.declared.op.Op.TheVariants as i
use Rattle.rg_code.specs.Lowering.{Scope, type_in, type_behind, fields_code, path_code, gap, operator_code, expr_code, exprs_code}
use Rattle.rg_verify_expressions.specs.Naming.{variable_in, field_name}
use Rattle.rg_verify_expressions.specs.Raised.{Raised, number, boolean, nil, path, is_nil, size, element, neg, not, binary, path_ops, holder_ops, ops_of, named}
use Rattle.rg_verify_expressions.specs.Raised.{AreFound, IsPathFound, IsFound, all_ops}
use Rattle.rg_verify_expressions.specs.Raises.{HaveTheirCode}

pub fields-named : (classes : List Class) (t : Ty) (ks : List ℕ) → AreFound classes t ks → fields_code classes t (map field_name ks) ≡ map i.Field ks
fields-named classes t [] h = refl
fields-named classes t (k ∷ ks) (e, h) = rw (e, fields-named classes (type_behind classes t (field_name k)) ks h) refl

module _ (classes : List Class) (scope : Scope) (m : Truth) where
  pub path-named : (s : ℕ) (ks : List ℕ) → IsPathFound classes scope m s ks
      → path_code classes scope (variable_in m s) (map field_name ks) ≡ path_ops s ks
  path-named s ks (e, h) = rw (e, fields-named classes (type_in scope (variable_in m s)) ks h) refl

  pub code-named : (r : Raised) (at : ℕ) → IsFound classes scope m r → expr_code classes scope at (named m r) ≡ ops_of at r
  code-named (path s ks) at h = path-named s ks h
  code-named (is_nil s ks) at h = ap (λ (os : List Op). os ++ i.IsNil ∷ []) (path-named s ks h)
  code-named (size s ks) at h = ap (λ (os : List Op). os ++ i.Size ∷ []) (path-named s ks h)
  code-named (element s ks a) at (f, g) =
      let array = holder_ops s ks in
      let index : ℕ → List Op = λ n. expr_code classes scope n (named m a) in
      ap (λ (os : List Op). (os ++ i.Check ∷ []) ++ (index (at + length (os ++ i.Check ∷ [])) ++ i.Bound ∷ i.Element ∷ [])) (path-named s ks f)
      ∙ ap (λ (os : List Op). array ++ (os ++ i.Bound ∷ i.Element ∷ [])) (code-named a (at + length array) g)
  code-named (neg a) at h = ap (λ (os : List Op). os ++ i.Neg ∷ []) (code-named a at h)
  code-named (not a) at h = ap (λ (os : List Op). os ++ i.Not ∷ []) (code-named a at h)
  code-named (binary o a b) at (f, g) =
      let middle : ℕ = at + length (ops_of at a) + gap o in
      let right : ℕ → List Op = λ n. expr_code classes scope n (named m b) in
      ap (λ (os : List Op). os ++ operator_code o (at + length os + gap o + length (right (at + length os + gap o))) (right (at + length os + gap o)))
      (code-named a at f)
      ∙ ap (λ (os : List Op). ops_of at a ++ operator_code o (middle + length os) os) (code-named b middle g)
  code-named _ at h = refl

  pub all-named : (rs : List Raised) (at : ℕ) → AllByRecursion (IsFound classes scope m) rs
      → exprs_code classes scope at (map (named m) rs) ≡ all_ops at rs
  all-named [] at h = refl
  all-named (r ∷ rs) at (f, g) =
      ap (λ (os : List Op). os ++ exprs_code classes scope (at + length os) (map (named m) rs)) (code-named r at f)
      ∙ ap (λ (os : List Op). ops_of at r ++ os) (all-named rs (at + length (ops_of at r)) g)

pub have-their-code : HaveTheirCode
have-their-code classes scope m at rs h = all-named classes scope m rs at h
