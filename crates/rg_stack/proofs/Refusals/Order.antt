-- The code of expressions, calls and right sides is orderly in front of what is calm.
use Rattle.std.proofs.Common.{◌≡◌, ℕ, ◌+◌, ◌-◌, true, false, Bool as Truth, if◌then◌else◌, List, [], ◌∷◌, ◌++◌, Option, Some, None, length, refl}
use Rattle.std.proofs.Common.{ap, subst, ◌∙◌, arith}
use Rattle.std.proofs.Common.{append_assoc, length-append}
use Rattle.std.proofs.lemmas.Bool.{and_from}
use Rattle.rg_base.specs.declared.ty.Ty.{Ty}
use Rattle.rg_tree.specs.declared.rows.BinOp.{BinOp}
use Rattle.rg_tree.specs.declared.rows.BinOp.TheVariants as op
use Rattle.rg_tree.specs.Tree.{Name, Variable, Expr, number, boolean, nil, path, is_nil, neg, not, binary, size, element, Call, Right, value}
use Rattle.rg_tree.specs.Tree.{new, new_tmp, new_iso, more, result_of, Class}
use Rattle.rg_rules.specs.Capabilities.{is_iso}
use Rattle.rg_code.specs.declared.op.Op.{Op}
use Rattle.rg_code.specs.declared.op.Op.TheVariants as i
use Rattle.rg_code.specs.Lowering.{Scope, slot_of, type_in, field_number, type_behind, fields_code, path_code, gap, operator_code, expr_code}
use Rattle.rg_code.specs.Lowering.{exprs_code, used_slots, used_by_all, clears, whole_code, number_called, target_class, call_code, right_code}
use Rattle.rg_code.specs.Lowering.{new_code, pace_code, assign_op}
use Rattle.rg_stack.proofs.Callers.Order.{calm-orderly}
use Rattle.rg_stack.proofs.Basics.{and-left, and-right}
use Rattle.rg_stack.specs.Refusals.{Takes, Computes, Passes, manner, room_behind, calm, all_compute, orderly_by, orderly}

-- what an expression's code consists of

abbrev AllCompute : List Op → Type 0
AllCompute os = all_compute (length os) os ≡ true

compute-append : (xs ys : List Op) → AllCompute xs → AllCompute ys → AllCompute (xs ++ ys)
compute-append [] ys a b = b
compute-append (x ∷ xs) ys a b = and_from _ _ (and-left _ _ a) (compute-append xs ys (and-right _ _ a) b)

compute-front : (xs ys : List Op) → AllCompute xs → all_compute (length xs) (xs ++ ys) ≡ true
compute-front [] ys a = refl
compute-front (x ∷ xs) ys a = and_from _ _ (and-left _ _ a) (compute-front xs ys (and-right _ _ a))

compute-fields : (classes : List Class) (t : Ty) (fs : List Name) → AllCompute (fields_code classes t fs)
compute-fields classes t [] = refl
compute-fields classes t (f ∷ fs) = compute-fields classes (type_behind classes t f) fs

compute-path : (classes : List Class) (scope : Scope) (x : Variable) (fs : List Name) → AllCompute (path_code classes scope x fs)
compute-path classes scope x fs = compute-fields classes (type_in scope x) fs

compute-operator : (o : BinOp) (end : ℕ) (right : List Op) → AllCompute right → AllCompute (operator_code o end right)
compute-operator op.Or end right h = h
compute-operator op.And end right h = h
compute-operator op.Eq end right h = compute-append right (i.Eq ∷ []) h refl
compute-operator op.Ne end right h = compute-append right (i.Ne ∷ []) h refl
compute-operator op.Lt end right h = compute-append right (i.Lt ∷ []) h refl
compute-operator op.Le end right h = compute-append right (i.Le ∷ []) h refl
compute-operator op.Gt end right h = compute-append right (i.Gt ∷ []) h refl
compute-operator op.Ge end right h = compute-append right (i.Ge ∷ []) h refl
compute-operator op.Add end right h = compute-append right (i.Add ∷ []) h refl
compute-operator op.Sub end right h = compute-append right (i.Sub ∷ []) h refl
compute-operator op.Mul end right h = compute-append right (i.Mul ∷ []) h refl
compute-operator op.Div end right h = compute-append right (i.Div ∷ []) h refl
compute-operator op.Rem end right h = compute-append right (i.Rem ∷ []) h refl

compute-expr : (classes : List Class) (scope : Scope) (at : ℕ) (e : Expr) → AllCompute (expr_code classes scope at e)
compute-expr classes scope at (path p) = compute-path classes scope p.base p.fields
compute-expr classes scope at (is_nil p) = compute-append (path_code classes scope p.base p.fields) (i.IsNil ∷ [])
    (compute-path classes scope p.base p.fields) refl
compute-expr classes scope at (neg a) = compute-append (expr_code classes scope at a) (i.Neg ∷ []) (compute-expr classes scope at a) refl
compute-expr classes scope at (not a) = compute-append (expr_code classes scope at a) (i.Not ∷ []) (compute-expr classes scope at a) refl
compute-expr classes scope at (binary o a b) =
    let left = expr_code classes scope at a in
    let middle = at + length left + gap o in
    let right = expr_code classes scope middle b in
    compute-append left (operator_code o (middle + length right) right) (compute-expr classes scope at a)
    (compute-operator o (middle + length right) right (compute-expr classes scope middle b))
compute-expr classes scope at (size q) = compute-append (path_code classes scope q.base q.fields) (i.Size ∷ [])
    (compute-path classes scope q.base q.fields) refl
compute-expr classes scope at (element q e) =
    let front = path_code classes scope q.base q.fields in
    let array = front ++ i.Check ∷ [] in
    let index = expr_code classes scope (at + length array) e in
    compute-append array (index ++ (i.Bound ∷ i.Element ∷ [])) (compute-append front (i.Check ∷ []) (compute-path classes scope q.base q.fields) refl)
    (compute-append index (i.Bound ∷ i.Element ∷ []) (compute-expr classes scope (at + length array) e) refl)
compute-expr classes scope at _ = refl

module _ (code : List Op) where
  -- in front of what is orderly
  abbrev pub Before : (at : ℕ) → List Op → Type 0
  Before at ops = (rest : List Op) → orderly code (at + length ops) false rest ≡ true → orderly code at false (ops ++ rest) ≡ true

  before-none : (at : ℕ) → Before at []
  before-none at rest h = let same : at + 0 ≡ at = omega arith in subst (λ k. orderly code k false rest ≡ true) same h

  -- one that works on the stack alone
  before-one : (o : Op) → manner o ≡ Computes → (at : ℕ) → Before at (o ∷ [])
  before-one o is at rest h =
      ap (λ m. orderly_by code at false m rest (calm code (room_behind m false) rest) (orderly code (at + 1) (room_behind m false) rest)) is ∙ h

  before-append : (xs ys : List Op) (at : ℕ) → Before at xs → Before (at + length xs) ys → Before at (xs ++ ys)
  before-append xs ys at a b rest h =
      let same : at + length (xs ++ ys) ≡ at + length xs + length ys = omega (arith, length-append xs ys) in
      ap (orderly code at false) (append_assoc xs ys rest) ∙ a (ys ++ rest) (b rest (subst (λ k. orderly code k false rest ≡ true) same h))

  -- one that passes over the others
  before-choice : (o : Op) (end : ℕ) (ops : List Op) (at : ℕ) → manner o ≡ Passes end → end ≡ at + 1 + length ops → AllCompute ops
      → Before (at + 1) ops → Before at (o ∷ ops)
  before-choice o end ops at is e all go rest h =
      let n : end - (at + 1) ≡ length ops = omega (arith, e) in
      let same : at + length (o ∷ ops) ≡ at + 1 + length ops = omega arith in
      ap (λ m. orderly_by code at false m (ops ++ rest) (calm code (room_behind m false) (ops ++ rest))
      (orderly code (at + 1) (room_behind m false) (ops ++ rest))) is
      ∙ and_from _ _ (ap (λ k. all_compute k (ops ++ rest)) n ∙ compute-front ops rest all)
      (go rest (subst (λ k. orderly code k false rest ≡ true) same h))

  before-more : (o : Op) → manner o ≡ Computes → (ops : List Op) (at : ℕ) → Before at ops → Before at (ops ++ o ∷ [])
  before-more o is ops at go = before-append ops (o ∷ []) at go (before-one o is (at + length ops))

  before-fields : (classes : List Class) (t : Ty) (fs : List Name) (at : ℕ) → Before at (fields_code classes t fs)
  before-fields classes t [] at = before-none at
  before-fields classes t (f ∷ fs) at = before-append (i.Field (field_number classes t f) ∷ []) (fields_code classes (type_behind classes t f) fs)
      at (before-one (i.Field (field_number classes t f)) refl at)
      (before-fields classes (type_behind classes t f) fs (at + 1))

  pub before-path : (classes : List Class) (scope : Scope) (x : Variable) (fs : List Name) (at : ℕ) → Before at (path_code classes scope x fs)
  before-path classes scope x fs at = before-append (i.Load (slot_of scope x) ∷ []) (fields_code classes (type_in scope x) fs) at
      (before-one (i.Load (slot_of scope x)) refl at) (before-fields classes (type_in scope x) fs (at + 1))

  pub before-check : (classes : List Class) (scope : Scope) (x : Variable) (fs : List Name) (at : ℕ)
      → Before at (path_code classes scope x fs ++ i.Check ∷ [])
  before-check classes scope x fs at = before-more i.Check refl (path_code classes scope x fs) at (before-path classes scope x fs at)

  at_once : (at : ℕ) (ops : List Op) → Before (at + 0) ops → Before at ops
  at_once at ops h = let same : at + 0 ≡ at = omega arith in subst (λ k. Before k ops) same h

  before-operator : (o : BinOp) (at end : ℕ) (right : List Op) → end ≡ at + gap o + length right → AllCompute right → Before (at + gap o) right
      → Before at (operator_code o end right)
  before-operator op.Or at end right e all go = before-choice (i.Or end) end right at refl e all go
  before-operator op.And at end right e all go = before-choice (i.And end) end right at refl e all go
  before-operator op.Eq at end right e all go = before-more i.Eq refl right at (at_once at right go)
  before-operator op.Ne at end right e all go = before-more i.Ne refl right at (at_once at right go)
  before-operator op.Lt at end right e all go = before-more i.Lt refl right at (at_once at right go)
  before-operator op.Le at end right e all go = before-more i.Le refl right at (at_once at right go)
  before-operator op.Gt at end right e all go = before-more i.Gt refl right at (at_once at right go)
  before-operator op.Ge at end right e all go = before-more i.Ge refl right at (at_once at right go)
  before-operator op.Add at end right e all go = before-more i.Add refl right at (at_once at right go)
  before-operator op.Sub at end right e all go = before-more i.Sub refl right at (at_once at right go)
  before-operator op.Mul at end right e all go = before-more i.Mul refl right at (at_once at right go)
  before-operator op.Div at end right e all go = before-more i.Div refl right at (at_once at right go)
  before-operator op.Rem at end right e all go = before-more i.Rem refl right at (at_once at right go)

  pub before-expr : (classes : List Class) (scope : Scope) (at : ℕ) (e : Expr) → Before at (expr_code classes scope at e)
  before-expr classes scope at (number z) = before-one (i.Int z) refl at
  before-expr classes scope at (boolean b) = before-one (i.Bool b) refl at
  before-expr classes scope at nil = before-one i.Nil refl at
  before-expr classes scope at (path p) = before-path classes scope p.base p.fields at
  before-expr classes scope at (is_nil p) = before-more i.IsNil refl (path_code classes scope p.base p.fields) at
      (before-path classes scope p.base p.fields at)
  before-expr classes scope at (neg a) = before-more i.Neg refl (expr_code classes scope at a) at (before-expr classes scope at a)
  before-expr classes scope at (not a) = before-more i.Not refl (expr_code classes scope at a) at (before-expr classes scope at a)
  before-expr classes scope at (binary o a b) =
      let left = expr_code classes scope at a in
      let middle = at + length left + gap o in
      let right = expr_code classes scope middle b in
      before-append left (operator_code o (middle + length right) right) at (before-expr classes scope at a)
      (before-operator o (at + length left) (middle + length right) right refl (compute-expr classes scope middle b)
      (before-expr classes scope middle b))
  before-expr classes scope at (size q) = before-more i.Size refl (path_code classes scope q.base q.fields) at
      (before-path classes scope q.base q.fields at)
  before-expr classes scope at (element q e) =
      let array = path_code classes scope q.base q.fields ++ i.Check ∷ [] in
      let middle = at + length array in
      let index = expr_code classes scope middle e in
      before-append array (index ++ (i.Bound ∷ i.Element ∷ [])) at (before-check classes scope q.base q.fields at)
      (before-append index (i.Bound ∷ i.Element ∷ []) middle (before-expr classes scope middle e)
      (before-append (i.Bound ∷ []) (i.Element ∷ []) (middle + length index) (before-one i.Bound refl (middle + length index))
      (before-one i.Element refl (middle + length index + 1))))

  -- an index, which is tested
  pub before-index : (classes : List Class) (scope : Scope) (at : ℕ) (e : Expr) → Before at (expr_code classes scope at e ++ i.Bound ∷ [])
  before-index classes scope at e = before-more i.Bound refl (expr_code classes scope at e) at (before-expr classes scope at e)

  pub before-exprs : (classes : List Class) (scope : Scope) (at : ℕ) (es : List Expr) → Before at (exprs_code classes scope at es)
  before-exprs classes scope at [] = before-none at
  before-exprs classes scope at (e ∷ es) =
      let first = expr_code classes scope at e in
      before-append first (exprs_code classes scope (at + length first) es) at (before-expr classes scope at e)
      (before-exprs classes scope (at + length first) es)

  -- in front of what is calm
  abbrev pub Quiet : (at : ℕ) → List Op → Type 0
  Quiet at ops = (rest : List Op) → calm code false rest ≡ true → orderly code at false (ops ++ rest) ≡ true

  pub quiet-append : (xs ys : List Op) (at : ℕ) → Before at xs → Quiet (at + length xs) ys → Quiet at (xs ++ ys)
  quiet-append xs ys at a b rest h = ap (orderly code at false) (append_assoc xs ys rest) ∙ a (ys ++ rest) (b rest h)

  pub calm-clears : (room : Truth) (us : List ℕ) (rest : List Op) → calm code room rest ≡ true → calm code room (clears us ++ rest) ≡ true
  calm-clears room [] rest h = h
  calm-clears room (u ∷ us) rest h = calm-clears room us rest h

  pub quiet-clears : (us : List ℕ) (at : ℕ) → Quiet at (clears us)
  quiet-clears us at rest h = calm-orderly code at false (clears us ++ rest) (calm-clears false us rest h)

  pub quiet-whole : (classes : List Class) (scope : Scope) (at : ℕ) (e : Expr) → Quiet at (whole_code classes scope at e)
  quiet-whole classes scope at e =
      let ops = expr_code classes scope at e in
      quiet-append ops (clears (used_slots scope e)) at (before-expr classes scope at e) (quiet-clears (used_slots scope e) (at + length ops))

  pub quiet-call : (classes : List Class) (scope : Scope) (at : ℕ) (c : Call) → Quiet at (call_code classes scope at c)
  quiet-call classes scope at c =
      let path = path_code classes scope c.target.base c.target.fields in
      let receiver = path ++ i.Check ∷ [] in
      let exprs = exprs_code classes scope (at + length receiver) c.args in
      let calls = i.Call (number_called classes (target_class classes scope c) c.method) ∷ [] in
      let last = clears (used_by_all scope c.args) ++ calls in
      quiet-append receiver (exprs ++ i.Room ∷ last) at (before-check classes scope c.target.base c.target.fields at)
      (quiet-append exprs (i.Room ∷ last) (at + length receiver) (before-exprs classes scope (at + length receiver) c.args)
      (λ rest h. calm-orderly code (at + length receiver + length exprs + 1) true (last ++ rest)
      (ap (calm code true) (append_assoc (clears (used_by_all scope c.args)) calls rest)
      ∙ calm-clears true (used_by_all scope c.args) (calls ++ rest) refl)))

  -- one that is refused or changes the machine
  quiet-takes : (o : Op) → manner o ≡ Takes → (at : ℕ) → Quiet at (o ∷ [])
  quiet-takes o is at rest h =
      ap (λ m. orderly_by code at false m rest (calm code (room_behind m false) rest) (orderly code (at + 1) (room_behind m false) rest)) is ∙ h

  -- what makes an object, or an array behind its size
  quiet-new : (classes : List Class) (scope : Scope) (at : ℕ) (object array : Op) (many : Option Expr) → manner object ≡ Takes
      → manner array ≡ Takes → Quiet at (new_code classes scope at object array many)
  quiet-new classes scope at object array None one other = quiet-takes object one at
  quiet-new classes scope at object array (Some e) one other =
      let ops = expr_code classes scope at e in
      quiet-append ops (array ∷ []) at (before-expr classes scope at e) (quiet-takes array other (at + length ops))

  pub quiet-right : (classes : List Class) (scope : Scope) (at : ℕ) (r : Right) → Quiet at (right_code classes scope at r)
  quiet-right classes scope at (value e) = quiet-whole classes scope at e
  quiet-right classes scope at (new x many) = quiet-new classes scope at _ _ many refl refl
  quiet-right classes scope at (new_tmp x many) = quiet-new classes scope at _ _ many refl refl
  quiet-right classes scope at (new_iso x many m) = quiet-new classes scope at _ _ many refl refl
  quiet-right classes scope at more = λ rest h. calm-orderly code (at + 1) false rest h
  quiet-right classes scope at (result_of c) = quiet-call classes scope at c
  quiet-right classes scope at _ = λ rest h. h

  -- what comes last
  pub calm-pace : (r : Right) (rest : List Op) → calm code false rest ≡ true → calm code false (pace_code r ++ rest) ≡ true
  calm-pace (value e) rest h = h
  calm-pace _ rest h = h

  pub calm-assign : (scope : Scope) (x : Variable) (rest : List Op) → calm code false rest ≡ true → calm code false (assign_op scope x ∷ rest) ≡ true
  calm-assign scope x rest h = by (is_iso (type_in scope x))
    where
      by : (b : Truth) → calm code false ((if b then i.Own (slot_of scope x) else i.Store (slot_of scope x)) ∷ rest) ≡ true
      by true = h
      by false = h
