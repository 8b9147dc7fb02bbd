-- What passes over instructions that neither ask for the input nor may collect.
use Rattle.std.proofs.Common.{◌≡◌, ℕ, ◌+◌, Bool as Truth, false, List, [], ◌∷◌, ◌++◌, Option, None, Some, length, refl, ap, ◌∙◌, append_assoc}
use Rattle.rg_base.specs.declared.event.Cause.{Cause}
use Rattle.rg_base.specs.declared.ty.Ty.{Ty}
use Rattle.rg_tree.specs.declared.rows.BinOp.{BinOp}
use Rattle.rg_tree.specs.declared.rows.BinOp.TheVariants as op
use Rattle.rg_tree.specs.Tree.{Name, Variable, Expr, path, is_nil, neg, not, binary, size, element, Class}
use Rattle.rg_code.specs.declared.op.Op.{Op}
use Rattle.rg_code.specs.declared.op.Op.TheVariants as i
use Rattle.rg_code.specs.Lowering.{Scope, type_in, type_behind, fields_code, path_code, gap, operator_code, expr_code, exprs_code, used_slots, clears}
use Rattle.rg_code.specs.Lowering.{whole_code, new_code}
use Rattle.rg_stack.specs.Reads.{reads}
use Rattle.rg_code.specs.Dues.{due}

-- whether instructions ask for the input, and why they may collect
abbrev pub tells : List Op → Truth × Option Cause
tells os = (reads os, due os)

-- they neither ask nor may
abbrev pub nothing : Truth × Option Cause
nothing = (false, None)

-- instructions that neither ask nor collect, and don't end the walk
abbrev pub Plain : List Op → Type 0
Plain ops = (rest : List Op) → tells (ops ++ rest) ≡ tells rest

plain-append : (xs ys : List Op) → Plain xs → Plain ys → Plain (xs ++ ys)
plain-append xs ys a b rest = ap tells (append_assoc xs ys rest) ∙ a (ys ++ rest) ∙ b rest

plain-fields : (classes : List Class) (t : Ty) (fs : List Name) → Plain (fields_code classes t fs)
plain-fields classes t [] rest = refl
plain-fields classes t (f ∷ fs) rest = plain-fields classes (type_behind classes t f) fs rest

pub plain-path : (classes : List Class) (scope : Scope) (x : Variable) (fs : List Name) → Plain (path_code classes scope x fs)
plain-path classes scope x fs rest = plain-fields classes (type_in scope x) fs rest

pub plain-check : (classes : List Class) (scope : Scope) (x : Variable) (fs : List Name) → Plain (path_code classes scope x fs ++ i.Check ∷ [])
plain-check classes scope x fs = plain-append (path_code classes scope x fs) (i.Check ∷ []) (plain-path classes scope x fs) (λ rest. refl)

plain-operator : (o : BinOp) (end : ℕ) (right : List Op) → Plain right → Plain (operator_code o end right)
plain-operator op.Or end right h = h
plain-operator op.And end right h = h
plain-operator op.Eq end right h = plain-append right (i.Eq ∷ []) h (λ rest. refl)
plain-operator op.Ne end right h = plain-append right (i.Ne ∷ []) h (λ rest. refl)
plain-operator op.Lt end right h = plain-append right (i.Lt ∷ []) h (λ rest. refl)
plain-operator op.Le end right h = plain-append right (i.Le ∷ []) h (λ rest. refl)
plain-operator op.Gt end right h = plain-append right (i.Gt ∷ []) h (λ rest. refl)
plain-operator op.Ge end right h = plain-append right (i.Ge ∷ []) h (λ rest. refl)
plain-operator op.Add end right h = plain-append right (i.Add ∷ []) h (λ rest. refl)
plain-operator op.Sub end right h = plain-append right (i.Sub ∷ []) h (λ rest. refl)
plain-operator op.Mul end right h = plain-append right (i.Mul ∷ []) h (λ rest. refl)
plain-operator op.Div end right h = plain-append right (i.Div ∷ []) h (λ rest. refl)
plain-operator op.Rem end right h = plain-append right (i.Rem ∷ []) h (λ rest. refl)

pub plain-expr : (classes : List Class) (scope : Scope) (at : ℕ) (e : Expr) → Plain (expr_code classes scope at e)
plain-expr classes scope at (path p) rest = plain-path classes scope p.base p.fields rest
plain-expr classes scope at (is_nil p) rest = plain-append (path_code classes scope p.base p.fields) (i.IsNil ∷ [])
    (plain-path classes scope p.base p.fields) (λ rest. refl) rest
plain-expr classes scope at (neg a) rest = plain-append (expr_code classes scope at a) (i.Neg ∷ []) (plain-expr classes scope at a)
    (λ rest. refl)
    rest
plain-expr classes scope at (not a) rest = plain-append (expr_code classes scope at a) (i.Not ∷ []) (plain-expr classes scope at a)
    (λ rest. refl)
    rest
plain-expr classes scope at (binary o a b) rest =
    let left = expr_code classes scope at a in
    let middle = at + length left + gap o in
    let right = expr_code classes scope middle b in
    plain-append left (operator_code o (middle + length right) right) (plain-expr classes scope at a)
    (plain-operator o (middle + length right) right (plain-expr classes scope middle b)) rest
plain-expr classes scope at (size q) rest = plain-append (path_code classes scope q.base q.fields) (i.Size ∷ [])
    (plain-path classes scope q.base q.fields) (λ rest. refl) rest
plain-expr classes scope at (element q e) rest =
    let array = path_code classes scope q.base q.fields ++ i.Check ∷ [] in
    let index = expr_code classes scope (at + length array) e in
    plain-append array (index ++ (i.Bound ∷ i.Element ∷ [])) (plain-check classes scope q.base q.fields)
    (plain-append index (i.Bound ∷ i.Element ∷ []) (plain-expr classes scope (at + length array) e) (λ rest. refl)) rest
plain-expr classes scope at _ rest = refl

pub plain-exprs : (classes : List Class) (scope : Scope) (at : ℕ) (es : List Expr) → Plain (exprs_code classes scope at es)
plain-exprs classes scope at [] rest = refl
plain-exprs classes scope at (e ∷ es) rest =
    let first = expr_code classes scope at e in
    plain-append first (exprs_code classes scope (at + length first) es) (plain-expr classes scope at e)
    (plain-exprs classes scope (at + length first) es) rest

pub plain-clears : (us : List ℕ) → Plain (clears us)
plain-clears [] rest = refl
plain-clears (u ∷ us) rest = plain-clears us rest

pub plain-whole : (classes : List Class) (scope : Scope) (at : ℕ) (e : Expr) → Plain (whole_code classes scope at e)
plain-whole classes scope at e = plain-append (expr_code classes scope at e) (clears (used_slots scope e)) (plain-expr classes scope at e)
    (plain-clears (used_slots scope e))

-- an index, which is tested
pub plain-index : (classes : List Class) (scope : Scope) (at : ℕ) (e : Expr) → Plain (expr_code classes scope at e ++ i.Bound ∷ [])
plain-index classes scope at e = plain-append (expr_code classes scope at e) (i.Bound ∷ []) (plain-expr classes scope at e) (λ rest. refl)

-- what makes an object, or an array behind its size
pub plain-new : (classes : List Class) (scope : Scope) (at : ℕ) (object array : Op) (many : Option Expr) → Plain (object ∷ []) → Plain (array ∷ [])
    → Plain (new_code classes scope at object array many)
plain-new classes scope at object array None one other = one
plain-new classes scope at object array (Some e) one other =
    plain-append (expr_code classes scope at e) (array ∷ []) (plain-expr classes scope at e) other
