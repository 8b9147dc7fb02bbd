-- In the code of a program whose bodies have few names no slot is above the most names, and no jump leads past the end.
use Rattle.std.proofs.Common.{◌≡◌, ℕ, suc, ◌+◌, ◌≤◌, true, false, Bool as Truth, if◌then◌else◌, List, [], ◌∷◌, ◌++◌, length}
use Rattle.std.proofs.Common.{Option, Some, None, All, length-append, arith}
use Rattle.std.proofs.lemmas.List.Elements.{All-head, All-tail}
use Rattle.std.specs.List.{AllByRecursion}
use Rattle.rg_base.specs.declared.limits.TheConstants.{BODY_NAMES}
use Rattle.rg_base.specs.declared.ty.Ty.{Ty}
use Rattle.rg_base.specs.declared.ty.Ty.TheVariants as ty
use Rattle.rg_tree.specs.declared.rows.BinOp.{BinOp}
use Rattle.rg_tree.specs.declared.rows.BinOp.TheVariants as op
use Rattle.rg_tree.specs.Tree.{Name, Variable, Ty as Written, Path, Expr, number, boolean, nil, path, is_nil, neg, not, binary, size, element, Call}
use Rattle.rg_tree.specs.Tree.{Right, value, new, new_tmp, new_iso, freeze, merge, read, more, result_of, stmt, StmtKind, declare, assign}
use Rattle.rg_tree.specs.Tree.{assign_element, call, swap, branch, while, enter, print, collect, return, Else, no_else, otherwise}
use Rattle.rg_tree.specs.Tree.{Block, empty as none, then as next, Param, Method, Member, field, method, Class, Tree}
use Rattle.rg_rules.specs.Capabilities.{is_iso}
use Rattle.rg_rules.specs.Environment.{same_variable}
use Rattle.rg_rules.specs.Names.{kind_names, else_names, block_names, HasFewNames, FewNames}
use Rattle.rg_rules.specs.Paths.{all_but_last}
use Rattle.rg_rules.specs.Types.{class_number, type_of}
use Rattle.rg_code.specs.declared.op.Op.{Op}
use Rattle.rg_code.specs.declared.op.Op.TheVariants as i
use Rattle.rg_code.specs.Lowering.{Scope, slot_of, type_in, type_behind, fields_code, path_code, holder_code, held_number, gap, operator_code}
use Rattle.rg_code.specs.Lowering.{expr_code, exprs_code, used_path, used_slots, used_by_all, clears, whole_code, number_called, target_class}
use Rattle.rg_code.specs.Lowering.{call_code, call_result, new_code, right_code, pace_code, assign_op, dropped_code, scope_behind, scope_inside}
use Rattle.rg_code.specs.Lowering.{assign_code, assign_element_code, swap_code, enter_code, scope_at_end, leave_op, kind_code, else_code, block_code}
use Rattle.rg_code.specs.Lowering.{else_gap, with_params, with_slot, method_scope, method_end_code, method_code, main_code, Methods, members_code}
use Rattle.rg_code.specs.Lowering.{methods_code, lowered}
use Rattle.rg_build.specs.Inner.Near.{IsNear}

abbrev pub Near : (end : ℕ) → List Op → Type 0
Near end ops = AllByRecursion (IsNear end) ops

near-then : (end : ℕ) (a b : List Op) → Near end a → Near end b → Near end (a ++ b)
near-then end [] b h g = g
near-then end (o ∷ os) b h g = (h.0, near-then end os b h.1 g)

-- what stands in front ends within, and so does what stands behind it
front-ends : (at end : ℕ) (a b : List Op) → at + length (a ++ b) ≤ end → at + length a ≤ end
front-ends at end a b h = let e = length-append a b in omega (arith, e, h)

rest-ends : (at end : ℕ) (a b : List Op) → at + length (a ++ b) ≤ end → (at + length a) + length b ≤ end
rest-ends at end a b h = let e = length-append a b in omega (arith, e, h)

behind-one : (at end : ℕ) (o : Op) (a : List Op) → at + length (o ∷ a) ≤ end → (at + 1) + length a ≤ end
behind-one at end o a h = omega (arith, h)

-- Slots

-- slots that are not above the most names
abbrev Few : List ℕ → Type 0
Few ss = AllByRecursion (λ s. s ≤ BODY_NAMES) ss

few-then : (a b : List ℕ) → Few a → Few b → Few (a ++ b)
few-then [] b h g = g
few-then (s ∷ ss) b h g = (h.0, few-then ss b h.1 g)

pub slot_by : (b : Truth) (n k : ℕ) → n ≤ k → (if b then 0 else suc n) ≤ suc k
slot_by true n k h = omega arith
slot_by false n k h = omega (arith, h)

slot-within : (sc : Scope) (x : Variable) → slot_of sc x ≤ length sc
slot-within [] x = omega arith
slot-within (s ∷ ss) x = slot_by (same_variable s.name x) (slot_of ss x) (length ss) (slot-within ss x)

slot-few : (sc : Scope) (x : Variable) → length sc ≤ BODY_NAMES → slot_of sc x ≤ BODY_NAMES
slot-few sc x few = let w = slot-within sc x in omega (arith, w, few)

used_by : (b : Truth) (s : ℕ) → s ≤ BODY_NAMES → Few (if b then s ∷ [] else [])
used_by true s h = (h, tt)
used_by false s h = tt

used_path-few : (sc : Scope) (x : Variable) (fs : List Name) → length sc ≤ BODY_NAMES → Few (used_path sc x fs)
used_path-few sc x [] few = used_by (is_iso (type_in sc x)) (slot_of sc x) (slot-few sc x few)
used_path-few sc x (f ∷ fs) few = tt

used-few : (sc : Scope) (e : Expr) → length sc ≤ BODY_NAMES → Few (used_slots sc e)
used-few sc (number z) few = tt
used-few sc (boolean b) few = tt
used-few sc nil few = tt
used-few sc (path p) few = used_path-few sc p.base p.fields few
used-few sc (is_nil p) few = tt
used-few sc (neg a) few = used-few sc a few
used-few sc (not a) few = used-few sc a few
used-few sc (binary o a b) few = few-then (used_slots sc a) (used_slots sc b) (used-few sc a few) (used-few sc b few)
used-few sc (size q) few = tt
used-few sc (element q e) few = used-few sc e few

used_all-few : (sc : Scope) (es : List Expr) → length sc ≤ BODY_NAMES → Few (used_by_all sc es)
used_all-few sc [] few = tt
used_all-few sc (e ∷ es) few = few-then (used_slots sc e) (used_by_all sc es) (used-few sc e few) (used_all-few sc es few)

clears-near : (end : ℕ) (ss : List ℕ) → Few ss → Near end (clears ss)
clears-near end [] h = tt
clears-near end (s ∷ ss) h = ((h.0, tt), clears-near end ss h.1)

-- Paths and expressions

fields-near : (end : ℕ) (cs : List Class) (t : Ty) (fs : List Name) → Near end (fields_code cs t fs)
fields-near end cs t [] = tt
fields-near end cs t (f ∷ fs) = ((tt, tt), fields-near end cs (type_behind cs t f) fs)

path-near : (end : ℕ) (cs : List Class) (sc : Scope) (x : Variable) (fs : List Name) → length sc ≤ BODY_NAMES → Near end (path_code cs sc x fs)
path-near end cs sc x fs few = ((slot-few sc x few, tt), fields-near end cs (type_in sc x) fs)

checked-near : (end : ℕ) (cs : List Class) (sc : Scope) (x : Variable) (fs : List Name) → length sc ≤ BODY_NAMES →
    Near end (path_code cs sc x fs ++ i.Check ∷ [])
checked-near end cs sc x fs few = near-then end (path_code cs sc x fs) (i.Check ∷ []) (path-near end cs sc x fs few) (tt, tt)

last-long : (right : List Op) (o : Op) → 0 + length right ≤ length (right ++ o ∷ [])
last-long right o = let e = length-append right (o ∷ []) in omega (arith, e)

operator-long : (o : BinOp) (to : ℕ) (right : List Op) → gap o + length right ≤ length (operator_code o to right)
operator-long op.Or to right = omega arith
operator-long op.And to right = omega arith
operator-long op.Eq to right = last-long right i.Eq
operator-long op.Ne to right = last-long right i.Ne
operator-long op.Lt to right = last-long right i.Lt
operator-long op.Le to right = last-long right i.Le
operator-long op.Gt to right = last-long right i.Gt
operator-long op.Ge to right = last-long right i.Ge
operator-long op.Add to right = last-long right i.Add
operator-long op.Sub to right = last-long right i.Sub
operator-long op.Mul to right = last-long right i.Mul
operator-long op.Div to right = last-long right i.Div
operator-long op.Rem to right = last-long right i.Rem

operator-near : (end : ℕ) (o : BinOp) (to : ℕ) (right : List Op) → to ≤ end → Near end right → Near end (operator_code o to right)
operator-near end op.Or to right le h = ((le, tt), h)
operator-near end op.And to right le h = ((le, tt), h)
operator-near end op.Eq to right le h = near-then end right (i.Eq ∷ []) h (tt, tt)
operator-near end op.Ne to right le h = near-then end right (i.Ne ∷ []) h (tt, tt)
operator-near end op.Lt to right le h = near-then end right (i.Lt ∷ []) h (tt, tt)
operator-near end op.Le to right le h = near-then end right (i.Le ∷ []) h (tt, tt)
operator-near end op.Gt to right le h = near-then end right (i.Gt ∷ []) h (tt, tt)
operator-near end op.Ge to right le h = near-then end right (i.Ge ∷ []) h (tt, tt)
operator-near end op.Add to right le h = near-then end right (i.Add ∷ []) h (tt, tt)
operator-near end op.Sub to right le h = near-then end right (i.Sub ∷ []) h (tt, tt)
operator-near end op.Mul to right le h = near-then end right (i.Mul ∷ []) h (tt, tt)
operator-near end op.Div to right le h = near-then end right (i.Div ∷ []) h (tt, tt)
operator-near end op.Rem to right le h = near-then end right (i.Rem ∷ []) h (tt, tt)

operands-near : (end : ℕ) (o : BinOp) (at : ℕ) (left right : List Op) → let middle = at + length left + gap o in
    at + length (left ++ operator_code o (middle + length right) right) ≤ end → middle + length right ≤ end
operands-near end o at left right le =
    let to = at + length left + gap o + length right in
    let r = rest-ends at end left (operator_code o to right) le in
    let g = operator-long o to right in
    omega (arith, r, g)

expr-near : (end : ℕ) (cs : List Class) (sc : Scope) (at : ℕ) (e : Expr) → length sc ≤ BODY_NAMES →
    at + length (expr_code cs sc at e) ≤ end → Near end (expr_code cs sc at e)
expr-near end cs sc at (number z) few le = ((tt, tt), tt)
expr-near end cs sc at (boolean b) few le = ((tt, tt), tt)
expr-near end cs sc at nil few le = (tt, tt)
expr-near end cs sc at (path p) few le = path-near end cs sc p.base p.fields few
expr-near end cs sc at (is_nil p) few le =
    near-then end (path_code cs sc p.base p.fields) (i.IsNil ∷ []) (path-near end cs sc p.base p.fields few) (tt, tt)
expr-near end cs sc at (size p) few le =
    near-then end (path_code cs sc p.base p.fields) (i.Size ∷ []) (path-near end cs sc p.base p.fields few) (tt, tt)
expr-near end cs sc at (element q e) few le =
    let array = path_code cs sc q.base q.fields ++ i.Check ∷ [] in
    let index = expr_code cs sc (at + length array) e in
    let last = i.Bound ∷ i.Element ∷ [] in
    near-then end array (index ++ last) (checked-near end cs sc q.base q.fields few)
    (near-then end index last
    (expr-near end cs sc (at + length array) e few (front-ends (at + length array) end index last (rest-ends at end array (index ++ last) le)))
    (tt, (tt, tt)))
expr-near end cs sc at (neg a) few le =
    near-then end (expr_code cs sc at a) (i.Neg ∷ [])
    (expr-near end cs sc at a few (front-ends at end (expr_code cs sc at a) (i.Neg ∷ []) le)) (tt, tt)
expr-near end cs sc at (not a) few le =
    near-then end (expr_code cs sc at a) (i.Not ∷ [])
    (expr-near end cs sc at a few (front-ends at end (expr_code cs sc at a) (i.Not ∷ []) le)) (tt, tt)
expr-near end cs sc at (binary o a b) few le =
    let left = expr_code cs sc at a in
    let middle = at + length left + gap o in
    let right = expr_code cs sc middle b in
    let to = middle + length right in
    let r = operands-near end o at left right le in
    near-then end left (operator_code o to right) (expr-near end cs sc at a few (front-ends at end left (operator_code o to right) le))
    (operator-near end o to right r (expr-near end cs sc middle b few r))

exprs-near : (end : ℕ) (cs : List Class) (sc : Scope) (at : ℕ) (es : List Expr) → length sc ≤ BODY_NAMES →
    at + length (exprs_code cs sc at es) ≤ end → Near end (exprs_code cs sc at es)
exprs-near end cs sc at [] few le = tt
exprs-near end cs sc at (e ∷ es) few le =
    let first = expr_code cs sc at e in
    let rest = exprs_code cs sc (at + length first) es in
    near-then end first rest (expr-near end cs sc at e few (front-ends at end first rest le))
    (exprs-near end cs sc (at + length first) es few (rest-ends at end first rest le))

whole-near : (end : ℕ) (cs : List Class) (sc : Scope) (at : ℕ) (e : Expr) → length sc ≤ BODY_NAMES →
    at + length (whole_code cs sc at e) ≤ end → Near end (whole_code cs sc at e)
whole-near end cs sc at e few le =
    let used = clears (used_slots sc e) in
    near-then end (expr_code cs sc at e) used (expr-near end cs sc at e few (front-ends at end (expr_code cs sc at e) used le))
    (clears-near end (used_slots sc e) (used-few sc e few))

-- Calls and right sides

call-near : (end : ℕ) (cs : List Class) (sc : Scope) (at : ℕ) (c : Call) → length sc ≤ BODY_NAMES →
    at + length (call_code cs sc at c) ≤ end → Near end (call_code cs sc at c)
call-near end cs sc at c few le =
    let receiver = path_code cs sc c.target.base c.target.fields ++ i.Check ∷ [] in
    let args = exprs_code cs sc (at + length receiver) c.args in
    let used = clears (used_by_all sc c.args) in
    let last = i.Call (number_called cs (target_class cs sc c) c.method) ∷ [] in
    let behind = i.Room ∷ (used ++ last) in
    near-then end receiver (args ++ behind) (checked-near end cs sc c.target.base c.target.fields few)
    (near-then end args behind
    (exprs-near end cs sc (at + length receiver) c.args few
    (front-ends (at + length receiver) end args behind (rest-ends at end receiver (args ++ behind) le)))
    (tt, near-then end used last (clears-near end (used_by_all sc c.args) (used_all-few sc c.args few)) ((tt, tt), tt)))

new-near : (end : ℕ) (cs : List Class) (sc : Scope) (at : ℕ) (object array : Op) (n : Option Expr) → length sc ≤ BODY_NAMES →
    IsNear end object → IsNear end array → at + length (new_code cs sc at object array n) ≤ end → Near end (new_code cs sc at object array n)
new-near end cs sc at object array None few o a le = (o, tt)
new-near end cs sc at object array (Some e) few o a le =
    near-then end (expr_code cs sc at e) (array ∷ [])
    (expr-near end cs sc at e few (front-ends at end (expr_code cs sc at e) (array ∷ []) le)) (a, tt)

right-near : (end : ℕ) (cs : List Class) (sc : Scope) (at : ℕ) (r : Right) → length sc ≤ BODY_NAMES →
    at + length (right_code cs sc at r) ≤ end → Near end (right_code cs sc at r)
right-near end cs sc at (value e) few le = whole-near end cs sc at e few le
right-near end cs sc at (new x n) few le =
    new-near end cs sc at (i.New (class_number cs x)) (i.NewArray (class_number cs x)) n few (tt, tt) (tt, tt) le
right-near end cs sc at (new_tmp x n) few le =
    new-near end cs sc at (i.NewTmp (class_number cs x)) (i.NewTmpArray (class_number cs x)) n few (tt, tt) (tt, tt) le
right-near end cs sc at (new_iso x n m) few le =
    new-near end cs sc at (i.NewIso (class_number cs x) m) (i.NewIsoArray (class_number cs x) m) n few (tt, (tt, tt)) (tt, (tt, tt)) le
right-near end cs sc at (freeze y) few le = ((slot-few sc (Some y) few, tt), tt)
right-near end cs sc at (merge y) few le = ((slot-few sc (Some y) few, tt), tt)
right-near end cs sc at read few le = (tt, tt)
right-near end cs sc at more few le = (tt, tt)
right-near end cs sc at (result_of c) few le = call-near end cs sc at c few le

pace-near : (end : ℕ) (r : Right) → Near end (pace_code r)
pace-near end (new x n) = (tt, tt)
pace-near end _ = tt

behind_right-near : (end : ℕ) (cs : List Class) (sc : Scope) (at : ℕ) (r : Right) (o : Op) → length sc ≤ BODY_NAMES → IsNear end o →
    at + length (right_code cs sc at r ++ o ∷ pace_code r) ≤ end → Near end (right_code cs sc at r ++ o ∷ pace_code r)
behind_right-near end cs sc at r o few h le =
    near-then end (right_code cs sc at r) (o ∷ pace_code r)
    (right-near end cs sc at r few (front-ends at end (right_code cs sc at r) (o ∷ pace_code r) le)) (h, pace-near end r)

assign_op-near : (end : ℕ) (b : Truth) (s : ℕ) → s ≤ BODY_NAMES → IsNear end (if b then i.Own s else i.Store s)
assign_op-near end true s h = (h, tt)
assign_op-near end false s h = (h, tt)

iso-near : (end : ℕ) (b : Truth) → Near end (if b then i.Drop ∷ [] else i.Pop ∷ [])
iso-near end true = (tt, tt)
iso-near end false = (tt, tt)

dropped-near : (end : ℕ) (t : Option Ty) → Near end (dropped_code t)
dropped-near end None = tt
dropped-near end (Some t) = iso-near end (is_iso t)

-- Statements

assign-near : (end : ℕ) (cs : List Class) (sc : Scope) (at : ℕ) (x : Variable) (fs : List Name) (r : Right) → length sc ≤ BODY_NAMES →
    at + length (assign_code cs sc at x fs r) ≤ end → Near end (assign_code cs sc at x fs r)
assign-near end cs sc at x [] r few le =
    behind_right-near end cs sc at r (assign_op sc x) few (assign_op-near end (is_iso (type_in sc x)) (slot_of sc x) (slot-few sc x few)) le
assign-near end cs sc at x (f ∷ fs) r few le =
    let holder = holder_code cs sc x f fs ++ i.Check ∷ [] in
    let put = i.Put (held_number cs sc x f fs) in
    let last = right_code cs sc (at + length holder) r ++ put ∷ pace_code r in
    near-then end holder last (checked-near end cs sc x (all_but_last f fs) few)
    (behind_right-near end cs sc (at + length holder) r put few (tt, tt) (rest-ends at end holder last le))

assign_element-near : (end : ℕ) (cs : List Class) (sc : Scope) (at : ℕ) (q : Path) (e : Expr) (r : Right) → length sc ≤ BODY_NAMES →
    at + length (assign_element_code cs sc at q e r) ≤ end → Near end (assign_element_code cs sc at q e r)
assign_element-near end cs sc at q e r few le =
    let array = path_code cs sc q.base q.fields ++ i.Check ∷ [] in
    let place = expr_code cs sc (at + length array) e in
    let index = place ++ i.Bound ∷ [] in
    let last = right_code cs sc (at + length array + length index) r ++ i.PutElement ∷ pace_code r in
    let inner = rest-ends at end array (index ++ last) le in
    let front = front-ends (at + length array) end index last inner in
    near-then end array (index ++ last) (checked-near end cs sc q.base q.fields few)
    (near-then end index last
    (near-then end place (i.Bound ∷ [])
    (expr-near end cs sc (at + length array) e few (front-ends (at + length array) end place (i.Bound ∷ []) front)) (tt, tt))
    (behind_right-near end cs sc (at + length array + length index) r i.PutElement few tt (rest-ends (at + length array) end index last inner)))

swap-near : (end : ℕ) (cs : List Class) (sc : Scope) (y : Name) (x : Variable) (fs : List Name) → length sc ≤ BODY_NAMES →
    Near end (swap_code cs sc y x fs)
swap-near end cs sc y x [] few = tt
swap-near end cs sc y x (f ∷ fs) few =
    near-then end (holder_code cs sc x f fs) (i.Check ∷ i.Swap (slot_of sc (Some y)) (held_number cs sc x f fs) ∷ [])
    (path-near end cs sc x (all_but_last f fs) few) (tt, ((slot-few sc (Some y) few, (tt, tt)), tt))

enter-near : (end : ℕ) (cs : List Class) (sc : Scope) (x : Variable) (fs : List Name) → length sc ≤ BODY_NAMES → Near end (enter_code cs sc x fs)
enter-near end cs sc x [] few = ((slot-few sc x few, (few, tt)), tt)
enter-near end cs sc x (f ∷ fs) few =
    near-then end (holder_code cs sc x f fs) (i.EnterField (held_number cs sc x f fs) (length sc) ∷ [])
    (path-near end cs sc x (all_but_last f fs) few) ((tt, (few, tt)), tt)

leave-near : (end : ℕ) (sc : Scope) (s : ℕ) (w : Option Name) → length sc ≤ BODY_NAMES → s ≤ BODY_NAMES → IsNear end (leave_op sc s w)
leave-near end sc s None few h = (h, tt)
leave-near end sc s (Some w) few h = (slot-few sc (Some w) few, (h, tt))

-- Scopes

with_slot-length : (sc : Scope) (x : Variable) (t : Ty) → length (with_slot sc x t) ≡ suc (length sc)
with_slot-length sc x t = let e = length-append sc (record { name = x; ty = t } ∷ []) in omega (arith, e)

pub behind-length : (cs : List Class) (sc : Scope) (k : StmtKind) → length (scope_behind cs sc k) ≤ length sc + kind_names k
behind-length cs sc (declare x t r) = let e = with_slot-length sc (Some x) (type_of cs t) in omega (arith, e)
behind-length cs sc (assign p r) = omega arith
behind-length cs sc (assign_element q e r) = omega arith
behind-length cs sc (call c) = omega arith
behind-length cs sc (swap y p) = omega arith
behind-length cs sc (branch e b other) = omega arith
behind-length cs sc (while e b) = omega arith
behind-length cs sc (enter p z b giving) = omega arith
behind-length cs sc (print e) = omega arith
behind-length cs sc collect = omega arith
behind-length cs sc (return e) = omega arith

pub inside-length : (cs : List Class) (sc : Scope) (p : Path) (z : Name) → length (scope_inside cs sc p z) ≡ suc (length sc)
inside-length cs sc p z = with_slot-length sc (Some z) _

end-length : (cs : List Class) (sc : Scope) (b : Block) → length (scope_at_end cs sc b) ≤ length sc + block_names b
end-length cs sc none = omega arith
end-length cs sc (next (stmt line k) b) =
    let h = behind-length cs sc k in
    let g = end-length cs (scope_behind cs sc k) b in
    omega (arith, h, g)

with_params-length : (cs : List Class) (sc : Scope) (ps : List Param) → length (with_params cs sc ps) ≡ length sc + length ps
with_params-length cs sc [] = omega arith
with_params-length cs sc (p ∷ ps) =
    let e = with_slot-length sc (Some p.name) (type_of cs p.ty) in
    let g = with_params-length cs (with_slot sc (Some p.name) (type_of cs p.ty)) ps in
    omega (arith, e, g)

pub method-length : (cs : List Class) (c : ℕ) (m : Method) → length (method_scope cs c m) ≡ suc (length m.params)
method-length cs c m =
    let e = with_slot-length [] None (ty.Ref m.receiver c) in
    let g = with_params-length cs (with_slot [] None (ty.Ref m.receiver c)) m.params in
    omega (arith, e, g)

-- Blocks

gap-long : (cs : List Class) (sc : Scope) (at line : ℕ) (other : Else) → else_gap other ≤ 2 + length (else_code cs sc at line other)
gap-long cs sc at line no_else = omega arith
gap-long cs sc at line (otherwise b) = omega arith

mutual
  kind-near : (end : ℕ) (cs : List Class) (sc : Scope) (at line : ℕ) (k : StmtKind) → length sc + kind_names k ≤ BODY_NAMES →
      at + length (kind_code cs sc at line k) ≤ end → Near end (kind_code cs sc at line k)
  kind-near end cs sc at line (declare x t r) few le =
      let s : length sc ≤ BODY_NAMES = omega (arith, few) in
      let body = right_code cs sc (at + 1) r ++ i.Store (length sc) ∷ pace_code r in
      ((tt, tt), behind_right-near end cs sc (at + 1) r (i.Store (length sc)) s (s, tt) (behind-one at end (i.Mark line) body le))
  kind-near end cs sc at line (assign p r) few le =
      let s : length sc ≤ BODY_NAMES = omega (arith, few) in (
        (tt, tt),
        assign-near end cs sc (at + 1) p.base p.fields r s
            (behind-one at end (i.Mark line) (assign_code cs sc (at + 1) p.base p.fields r) le),
      )
  kind-near end cs sc at line (assign_element q e r) few le =
      let s : length sc ≤ BODY_NAMES = omega (arith, few) in
      ((tt, tt), assign_element-near end cs sc (at + 1) q e r s (behind-one at end (i.Mark line) (assign_element_code cs sc (at + 1) q e r) le))
  kind-near end cs sc at line (call c) few le =
      let s : length sc ≤ BODY_NAMES = omega (arith, few) in
      let made = call_code cs sc (at + 1) c in
      let gone = dropped_code (call_result cs sc c) in (
        (tt, tt),
        near-then end made gone
            (call-near end cs sc (at + 1) c s (front-ends (at + 1) end made gone (behind-one at end (i.Mark line) (made ++ gone) le)))
            (dropped-near end (call_result cs sc c)),
      )
  kind-near end cs sc at line (swap y p) few le =
      let s : length sc ≤ BODY_NAMES = omega (arith, few) in
      ((tt, tt), swap-near end cs sc y p.base p.fields s)
  kind-near end cs sc at line (branch e b other) few le =
      let s : length sc ≤ BODY_NAMES = omega (arith, few) in
      let test = whole_code cs sc (at + 1) e in
      let inside = at + 1 + length test + 1 in
      let block = block_code cs sc inside b in
      let behind = else_code cs sc (inside + length block + 2) line other in
      let ended = i.Mark line ∷ i.End (length sc) ∷ behind in
      let jump = i.JumpFalse (inside + length block + else_gap other) in
      let all = behind-one at end (i.Mark line) (test ++ jump ∷ (block ++ ended)) le in
      let after : inside + length (block ++ ended) ≤ end =
      behind-one (at + 1 + length test) end jump (block ++ ended) (rest-ends (at + 1) end test (jump ∷ (block ++ ended)) all) in
      let last = rest-ends inside end block ended after in
      let to : inside + length block + else_gap other ≤ end =
      let g = gap-long cs sc (inside + length block + 2) line other in omega (arith, last, g) in (
        (tt, tt),
        near-then end test (jump ∷ (block ++ ended))
            (whole-near end cs sc (at + 1) e s (front-ends (at + 1) end test (jump ∷ (block ++ ended)) all)) (
              (to, tt),
              near-then end block ended
                  (block-near end cs sc inside b (omega (arith, few)) (front-ends inside end block ended after))
                  ((tt, tt), ((s, tt), else-near end cs sc (inside + length block + 2) line other (omega (arith, few)) (omega (arith, last)))),
            ),
      )
  kind-near end cs sc at line (while e b) few le =
      let s : length sc ≤ BODY_NAMES = omega (arith, few) in
      let test = whole_code cs sc (at + 1) e in
      let inside = at + 1 + length test + 1 in
      let block = block_code cs sc inside b in
      let ended = i.Mark line ∷ i.End (length sc) ∷ i.Jump at ∷ [] in
      let jump = i.JumpFalse (inside + length block + 3) in
      let all = behind-one at end (i.Mark line) (test ++ jump ∷ (block ++ ended)) le in
      let after : inside + length (block ++ ended) ≤ end =
      behind-one (at + 1 + length test) end jump (block ++ ended) (rest-ends (at + 1) end test (jump ∷ (block ++ ended)) all) in
      let last = rest-ends inside end block ended after in (
        (tt, tt),
        near-then end test (jump ∷ (block ++ ended))
            (whole-near end cs sc (at + 1) e s (front-ends (at + 1) end test (jump ∷ (block ++ ended)) all)) (
              (omega (arith, last), tt),
              near-then end block ended
                  (block-near end cs sc inside b few (front-ends inside end block ended after))
                  ((tt, tt), ((s, tt), ((omega (arith, le), tt), tt))),
            ),
      )
  kind-near end cs sc at line (enter p z b giving) few le =
      let s : length sc ≤ BODY_NAMES = omega (arith, few) in
      let front = enter_code cs sc p.base p.fields in
      let inside = scope_inside cs sc p z in
      let block = block_code cs inside (at + 1 + length front) b in
      let last = i.Mark line ∷ leave_op (scope_at_end cs inside b) (length sc) giving ∷ [] in
      let one = inside-length cs sc p z in
      let room : length inside + block_names b ≤ BODY_NAMES = omega (arith, one, few) in
      let at_end : length (scope_at_end cs inside b) ≤ BODY_NAMES = let h = end-length cs inside b in omega (arith, h, room) in
      let after = rest-ends (at + 1) end front (block ++ last) (behind-one at end (i.Mark line) (front ++ (block ++ last)) le) in (
        (tt, tt),
        near-then end front (block ++ last) (enter-near end cs sc p.base p.fields s)
            (near-then end block last
            (block-near end cs inside (at + 1 + length front) b room (front-ends (at + 1 + length front) end block last after))
            ((tt, tt), (leave-near end (scope_at_end cs inside b) (length sc) giving at_end s, tt))),
      )
  kind-near end cs sc at line (print e) few le =
      let s : length sc ≤ BODY_NAMES = omega (arith, few) in
      let test = whole_code cs sc (at + 1) e in (
        (tt, tt),
        near-then end test (i.Print ∷ [])
            (whole-near end cs sc (at + 1) e s
            (front-ends (at + 1) end test (i.Print ∷ []) (behind-one at end (i.Mark line) (test ++ i.Print ∷ []) le))) (tt, tt),
      )
  kind-near end cs sc at line collect few le = ((tt, tt), (tt, tt))
  kind-near end cs sc at line (return e) few le =
      let s : length sc ≤ BODY_NAMES = omega (arith, few) in
      let test = whole_code cs sc (at + 1) e in (
        (tt, tt),
        near-then end test (i.Ret ∷ [])
            (whole-near end cs sc (at + 1) e s
            (front-ends (at + 1) end test (i.Ret ∷ []) (behind-one at end (i.Mark line) (test ++ i.Ret ∷ []) le))) (tt, tt),
      )

  else-near : (end : ℕ) (cs : List Class) (sc : Scope) (at line : ℕ) (other : Else) → length sc + else_names other ≤ BODY_NAMES →
      at + length (else_code cs sc at line other) ≤ end → Near end (else_code cs sc at line other)
  else-near end cs sc at line no_else few le = tt
  else-near end cs sc at line (otherwise b) few le =
      let s : length sc ≤ BODY_NAMES = omega (arith, few) in
      let block = block_code cs sc (at + 1) b in
      let ended = i.Mark line ∷ i.End (length sc) ∷ [] in
      let after = behind-one at end (i.Jump (at + 1 + length block + 2)) (block ++ ended) le in
      let last = rest-ends (at + 1) end block ended after in (
        (omega (arith, last), tt),
        near-then end block ended
            (block-near end cs sc (at + 1) b few (front-ends (at + 1) end block ended after)) ((tt, tt), ((s, tt), tt)),
      )

  block-near : (end : ℕ) (cs : List Class) (sc : Scope) (at : ℕ) (b : Block) → length sc + block_names b ≤ BODY_NAMES →
      at + length (block_code cs sc at b) ≤ end → Near end (block_code cs sc at b)
  block-near end cs sc at none few le = tt
  block-near end cs sc at (next (stmt line k) b) few le =
      let first = kind_code cs sc at line k in
      let behind = scope_behind cs sc k in
      let rest = block_code cs behind (at + length first) b in
      let room : length behind + block_names b ≤ BODY_NAMES = let h = behind-length cs sc k in omega (arith, h, few) in
      near-then end first rest (kind-near end cs sc at line k (omega (arith, few)) (front-ends at end first rest le))
      (block-near end cs behind (at + length first) b room (rest-ends at end first rest le))

-- Methods

method_end-near : (end line : ℕ) (result : Option Written) → Near end (method_end_code line result)
method_end-near end line None = ((tt, tt), (tt, tt))
method_end-near end line (Some t) = tt

method-near : (end : ℕ) (cs : List Class) (at c : ℕ) (m : Method) → HasFewNames (method m) → at + length (method_code cs at c m) ≤ end →
    Near end (method_code cs at c m)
method-near end cs at c m few le =
    let sc = method_scope cs c m in
    let body = block_code cs sc at m.body in
    let last = method_end_code m.line m.result in
    let room : length sc + block_names m.body ≤ BODY_NAMES = let e = method-length cs c m in omega (arith, e, few) in
    near-then end body last (block-near end cs sc at m.body room (front-ends at end body last le)) (method_end-near end m.line m.result)

members-near : (end : ℕ) (cs : List Class) (at c : ℕ) (ms : List Member) (go : ℕ → Methods) → All HasFewNames ms →
    ((behind : ℕ) → behind + length (go behind).ops ≤ end → Near end (go behind).ops) →
    at + length (members_code cs at c ms go).ops ≤ end → Near end (members_code cs at c ms go).ops
members-near end cs at c [] go few g le = g at le
members-near end cs at c (field f ∷ ms) go few g le = members-near end cs at c ms go (All-tail HasFewNames (field f) ms few) g le
members-near end cs at c (method m ∷ ms) go few g le =
    let own = method_code cs at c m in
    let others = (members_code cs (at + length own) c ms go).ops in
    near-then end own others (method-near end cs at c m (All-head HasFewNames (method m) ms few) (front-ends at end own others le))
    (members-near end cs (at + length own) c ms go (All-tail HasFewNames (method m) ms few) g (rest-ends at end own others le))

methods-near : (end : ℕ) (cs : List Class) (at c : ℕ) (ks : List Class) → All (λ (k : Class). All HasFewNames k.members) ks →
    at + length (methods_code cs at c ks).ops ≤ end → Near end (methods_code cs at c ks).ops
methods-near end cs at c [] few le = tt
methods-near end cs at c (k ∷ ks) few le =
    let P : Class → Type 0 = λ (d : Class). All HasFewNames d.members in
    members-near end cs at c k.members (λ behind. methods_code cs behind (suc c) ks) (All-head P k ks few)
    (λ behind l. methods-near end cs behind (suc c) ks (All-tail P k ks few) l) le

-- of a whole program
pub code-near : (t : Tree) → FewNames t → Near (length (lowered t).ops) (lowered t).ops
code-near t few =
    let main = main_code t in
    let behind = (methods_code t.classes (length main) 0 t.classes).ops in
    let end = length (main ++ behind) in
    let body = block_code t.classes [] 0 t.body in
    let last = i.Mark t.line ∷ i.End 0 ∷ i.Halt ∷ [] in
    let both = length-append main behind in
    let own = length-append body last in
    let rest = few.main in
    near-then end main behind
    (near-then end body last (block-near end t.classes [] 0 t.body (omega (arith, rest)) (omega (arith, both, own)))
    ((tt, tt), ((omega arith, tt), (tt, tt))))
    (methods-near end t.classes (length main) 0 t.classes few.methods (omega (arith, both)))
