-- The field at the end of a path, by what stands in front of it.
use Rattle.std.proofs.Common.{◌≡◌, refl, sym, ap, ◌∙◌, ◌+◌, List, [], ◌∷◌, ◌++◌, length, Some, append_assoc, length-append, arith}
use Rattle.rg_base.specs.declared.ty.Ty.{Ty}
use Rattle.rg_tree.specs.Tree.{Name, Variable, Path, Expr, Right, Class}
use Rattle.rg_rules.proofs.Path.{all_but_last-append, last_field-append}
use Rattle.rg_names.specs.declared.entry.FieldAt.{FieldAt}
use Rattle.rg_code.specs.declared.op.Op.{Op}
use Rattle.rg_code.specs.declared.op.Op.TheVariants as i
use Rattle.rg_code.specs.Code.{Code, with_op}
use Rattle.rg_code.specs.Lowering.{Scope, type_in, field_number, type_behind, type_along, path_code, holder_code, held_number, right_code}
use Rattle.rg_code.specs.Lowering.{expr_code, pace_code, assign_code, assign_element_code}
use Rattle.rg_lower.specs.Inner.Emitted.{with_ops, index_code, HolderIs}
use Rattle.rg_lower.proofs.Codes.{with_ops-then, emitted-then}

type_along-append : (classes : List Class) (t : Ty) (fs : List Name) (l : Name) →
    type_along classes t (fs ++ l ∷ []) ≡ type_behind classes (type_along classes t fs) l
type_along-append classes t [] l = refl
type_along-append classes t (f ∷ fs) l = type_along-append classes (type_behind classes t f) fs l

-- the walk to what is in front of the last field, and that field
pub holder-front : (classes : List Class) (scope : Scope) (x : Variable) (front : List Name) (l : Name) (old new : Code) (ty : Ty) (found : FieldAt) →
    new ≡ with_ops old (path_code classes scope x front) → ty ≡ type_along classes (type_in scope x) front →
    found.index ≡ field_number classes ty l → found.ty ≡ type_behind classes ty l →
    HolderIs classes scope x (front ++ l ∷ []) old new (Some found)
holder-front classes scope x [] l old new ty found n y i z = (n, rw y at i, rw y at z)
holder-front classes scope x (f ∷ fs) l old new ty found n y i z = (
  rw (all_but_last-append f fs l) n,
  rw (all_but_last-append f fs l, last_field-append f fs l) (rw y at i),
  (rw y at z) ∙ sym (type_along-append classes (type_in scope x) (f ∷ fs) l),
)

last-of-three : (o h r : List Op) (p : Op) (q : List Op) → ((o ++ (h ++ r)) ++ p ∷ []) ++ q ≡ o ++ (h ++ (r ++ p ∷ q))
last-of-three o h r p q = simp append_assoc refl

-- `q.f = r` behind its mark
pub assign-field : (classes : List Class) (scope : Scope) (x : Variable) (fs : List Name) (r : Right) (found : FieldAt)
    (old held checked done put new : Code) →
    HolderIs classes scope x fs old held (Some found) → checked ≡ with_op held i.Check →
    done ≡ with_ops checked (right_code classes scope (length checked.ops) r) →
    put ≡ with_op done (i.Put found.index) → new ≡ with_ops put (pace_code r) → new ≡ with_ops old (assign_code classes scope (length old.ops) x fs r)
assign-field classes scope x [] r found old held checked done put new h c d p n = absurd h
assign-field classes scope x (f ∷ fs) r found old held checked done put new h c d p n =
    let holder : List Op = holder_code classes scope x f fs ++ i.Check ∷ [] in
    let c' : checked ≡ with_ops old holder = rw (c, h.0) (with_ops-then old (holder_code classes scope x f fs) (i.Check ∷ [])) in
    let d' = emitted-then old checked done holder (λ at. right_code classes scope at r) c' d in
    rw (n, p, d', h.1) (ap (λ (ops : List Op). record old { ops = ops })
    (last-of-three old.ops holder (right_code classes scope (length old.ops + length holder) r)
    (i.Put (held_number classes scope x f fs)) (pace_code r)))

-- `q[e] = r` behind its mark
pub assign-element : (classes : List Class) (scope : Scope) (q : Path) (e : Expr) (r : Right) (old indexed done put new : Code) →
    indexed ≡ with_ops old (index_code classes scope (length old.ops) q e) →
    done ≡ with_ops indexed (right_code classes scope (length indexed.ops) r) → put ≡ with_op done i.PutElement →
    new ≡ with_ops put (pace_code r) → new ≡ with_ops old (assign_element_code classes scope (length old.ops) q e r)
assign-element classes scope q e r old indexed done put new x d p n =
    let array : List Op = path_code classes scope q.base q.fields ++ i.Check ∷ [] in
    let index : List Op = expr_code classes scope (length old.ops + length array) e ++ i.Bound ∷ [] in
    let d' = emitted-then old indexed done (array ++ index) (λ at. right_code classes scope at r) x d in
    let at : length old.ops + length (array ++ index) ≡ length old.ops + length array + length index = omega (arith, length-append array index) in
    rw (n, p, d', at) (ap (λ (ops : List Op). record old { ops = ops })
    (four_parts old.ops array index (right_code classes scope (length old.ops + length array + length index) r) i.PutElement (pace_code r)))
  where
    four_parts : (o a b r : List Op) (p : Op) (q : List Op) → ((o ++ ((a ++ b) ++ r)) ++ p ∷ []) ++ q ≡ o ++ (a ++ (b ++ (r ++ p ∷ q)))
    four_parts o a b r p q = simp append_assoc refl
