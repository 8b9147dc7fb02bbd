-- The marks of blocks with numbers: one for each statement, and one at each end that has one.
use Rattle.std.proofs.Common.{◌≡◌, refl, sym, ap, ℕ, suc, ◌+◌, Bool as Truth, true, false, if◌then◌else◌, List, [], ◌∷◌, ◌++◌, map, length, Option}
use Rattle.std.proofs.Common.{Some, None, length-append, arith}
use Rattle.rg_base.specs.declared.ty.Ty.{Ty}
use Rattle.rg_tree.specs.declared.rows.BinOp.{BinOp}
use Rattle.rg_tree.specs.declared.rows.BinOp.TheVariants as op
use Rattle.rg_rules.specs.Capabilities.{is_iso}
use Rattle.rg_code.specs.declared.op.Op.{Op}
use Rattle.rg_code.specs.declared.op.Op.TheVariants as i
use Rattle.rg_code.specs.Places.{is_mark}
use Rattle.rg_code.specs.Lowering.{gap, operator_code, clears, dropped_code}
use Rattle.rg_build.specs.Laws.{marks}
use Rattle.rg_verify_expressions.specs.Raised.{Raised, number, boolean, nil, path, is_nil, size, element, neg, not, binary, path_ops, holder_ops, place_ops}
use Rattle.rg_verify_expressions.specs.Raised.{ops_of, all_ops}
use Rattle.rg_verify_expressions.specs.Statements.{Call, Right, value, new, new_tmp, new_iso, freeze, merge, read, more, result_of, Kind, declare, assign, write}
use Rattle.rg_verify_expressions.specs.Statements.{write_element, call, swap, branch, while, enter, enter_field, print, collect, return, Else, no_else, otherwise}
use Rattle.rg_verify_expressions.specs.Statements.{Block, empty, next, type_at, used, all_used, types_behind, types_inside}
use Rattle.rg_verify_expressions.specs.Statements.{whole_ops, call_ops, new_ops, right_ops}
use Rattle.rg_verify_expressions.specs.Statements.{pace_ops, assign_op, leave_op, else_gap, kind_ops, else_ops, block_ops}
use Rattle.rg_fitted.proofs.Maps.{inner_types, else_types, block_types}

marks_by : (b : Truth) (a c : ℕ) → (if b then suc a else a) + c ≡ (if b then suc (a + c) else a + c)
marks_by true a c = omega arith
marks_by false a c = refl

pub marks-then : (a b : List Op) → marks (a ++ b) ≡ marks a + marks b
marks-then [] b = omega arith
marks-then (o ∷ os) b = rw (marks-then os b) (sym (marks_by (is_mark (Some o)) (marks os) (marks b)))

pub none-then : (a b : List Op) → marks a ≡ 0 → marks b ≡ 0 → marks (a ++ b) ≡ 0
none-then a b h g = omega (arith, marks-then a b, h, g)

fields-none : (ks : List ℕ) → marks (map i.Field ks) ≡ 0
fields-none [] = refl
fields-none (k ∷ ks) = fields-none ks

pub path-none : (s : ℕ) (ks : List ℕ) → marks (path_ops s ks) ≡ 0
path-none s ks = fields-none ks

holder-none : (s : ℕ) (ks : List ℕ) → marks (holder_ops s ks) ≡ 0
holder-none s ks = none-then (path_ops s ks) (i.Check ∷ []) (path-none s ks) refl

operator-none : (o : BinOp) (end : ℕ) (right : List Op) → marks right ≡ 0 → marks (operator_code o end right) ≡ 0
operator-none op.Or end right h = h
operator-none op.And end right h = h
operator-none op.Eq end right h = none-then right (i.Eq ∷ []) h refl
operator-none op.Ne end right h = none-then right (i.Ne ∷ []) h refl
operator-none op.Lt end right h = none-then right (i.Lt ∷ []) h refl
operator-none op.Le end right h = none-then right (i.Le ∷ []) h refl
operator-none op.Gt end right h = none-then right (i.Gt ∷ []) h refl
operator-none op.Ge end right h = none-then right (i.Ge ∷ []) h refl
operator-none op.Add end right h = none-then right (i.Add ∷ []) h refl
operator-none op.Sub end right h = none-then right (i.Sub ∷ []) h refl
operator-none op.Mul end right h = none-then right (i.Mul ∷ []) h refl
operator-none op.Div end right h = none-then right (i.Div ∷ []) h refl
operator-none op.Rem end right h = none-then right (i.Rem ∷ []) h refl

ops-none : (e : Raised) (at : ℕ) → marks (ops_of at e) ≡ 0
ops-none (number z) at = refl
ops-none (boolean b) at = refl
ops-none nil at = refl
ops-none (path s ks) at = path-none s ks
ops-none (is_nil s ks) at = none-then (path_ops s ks) (i.IsNil ∷ []) (path-none s ks) refl
ops-none (size s ks) at = none-then (path_ops s ks) (i.Size ∷ []) (path-none s ks) refl
ops-none (element s ks e) at =
    let array = holder_ops s ks in
    none-then array (ops_of (at + length array) e ++ i.Bound ∷ i.Element ∷ []) (holder-none s ks)
    (none-then (ops_of (at + length array) e) (i.Bound ∷ i.Element ∷ []) (ops-none e (at + length array)) refl)
ops-none (neg a) at = none-then (ops_of at a) (i.Neg ∷ []) (ops-none a at) refl
ops-none (not a) at = none-then (ops_of at a) (i.Not ∷ []) (ops-none a at) refl
ops-none (binary o a b) at =
    let left = ops_of at a in
    let middle = at + length left + gap o in
    let right = ops_of middle b in
    none-then left (operator_code o (middle + length right) right) (ops-none a at) (operator-none o (middle + length right) right (ops-none b middle))

all-none : (rs : List Raised) (at : ℕ) → marks (all_ops at rs) ≡ 0
all-none [] at = refl
all-none (r ∷ rs) at =
    let first = ops_of at r in none-then first (all_ops (at + length first) rs) (ops-none r at) (all-none rs (at + length first))

clears-none : (ss : List ℕ) → marks (clears ss) ≡ 0
clears-none [] = refl
clears-none (s ∷ ss) = clears-none ss

pub whole-none : (types : List Ty) (at : ℕ) (e : Raised) → marks (whole_ops types at e) ≡ 0
whole-none types at e = none-then (ops_of at e) (clears (used types e)) (ops-none e at) (clears-none (used types e))

call-none : (types : List Ty) (at : ℕ) (c : Call) → marks (call_ops types at c) ≡ 0
call-none types at c =
    let receiver = holder_ops c.slot c.fields in
    let args = all_ops (at + length receiver) c.args in
    let cleared = clears (all_used types c.args) in
    let last = i.Call c.callee.number ∷ [] in
    none-then receiver (args ++ i.Room ∷ (cleared ++ last)) (holder-none c.slot c.fields)
    (none-then args (i.Room ∷ (cleared ++ last)) (all-none c.args (at + length receiver))
    (none-then cleared last (clears-none (all_used types c.args)) refl))

new-none : (at : ℕ) (o a : Op) (n : Option Raised) → marks (o ∷ []) ≡ 0 → marks (a ∷ []) ≡ 0 → marks (new_ops at o a n) ≡ 0
new-none at o a None h g = h
new-none at o a (Some e) h g = none-then (ops_of at e) (a ∷ []) (ops-none e at) g

right-none : (types : List Ty) (at : ℕ) (r : Right) → marks (right_ops types at r) ≡ 0
right-none types at (value e) = whole-none types at e
right-none types at (new c n) = new-none at (i.New c) (i.NewArray c) n refl refl
right-none types at (new_tmp c n) = new-none at (i.NewTmp c) (i.NewTmpArray c) n refl refl
right-none types at (new_iso c n m) = new-none at (i.NewIso c m) (i.NewIsoArray c m) n refl refl
right-none types at (freeze s) = refl
right-none types at (merge s) = refl
right-none types at read = refl
right-none types at more = refl
right-none types at (result_of c) = call-none types at c

pace-none : (r : Right) → marks (pace_ops r) ≡ 0
pace-none (new c n) = refl
pace-none _ = refl

put-none : (types : List Ty) (at : ℕ) (r : Right) (o : Op) → marks (o ∷ []) ≡ 0 → marks (right_ops types at r ++ o ∷ pace_ops r) ≡ 0
put-none types at r o h =
    none-then (right_ops types at r) (o ∷ pace_ops r) (right-none types at r) (none-then (o ∷ []) (pace_ops r) h (pace-none r))

own-none : (b : Truth) (s : ℕ) → marks ((if b then i.Own s else i.Store s) ∷ []) ≡ 0
own-none true s = refl
own-none false s = refl

taken-none : (b : Truth) → marks (if b then i.Drop ∷ [] else i.Pop ∷ []) ≡ 0
taken-none true = refl
taken-none false = refl

dropped-none : (t : Option Ty) → marks (dropped_code t) ≡ 0
dropped-none None = refl
dropped-none (Some t) = taken-none (is_iso t)

pub leave-none : (n : ℕ) (w : Option ℕ) → marks (leave_op n w ∷ []) ≡ 0
leave-none n None = refl
leave-none n (Some w) = refl

place-none : (at s : ℕ) (ks : List ℕ) (e : Raised) → marks (place_ops at s ks e) ≡ 0
place-none at s ks e =
    let array = holder_ops s ks in
    none-then array (ops_of (at + length array) e ++ i.Bound ∷ []) (holder-none s ks)
    (none-then (ops_of (at + length array) e) (i.Bound ∷ []) (ops-none e (at + length array)) refl)

-- the mark at the end of a block, if one stands there
abbrev pub one : Truth → ℕ
one false = 0
one true = 1

mutual
  pub kind-marks : (types : List Ty) (at line : ℕ) (k : Kind) → marks (kind_ops types at line k) ≡ suc (length (inner_types types k))
  kind-marks types at line (declare t r) = ap suc (put-none types (at + 1) r (i.Store (length types)) refl)
  kind-marks types at line (assign s r) = ap suc (put-none types (at + 1) r (assign_op types s) (own-none (is_iso (type_at types s)) s))
  kind-marks types at line (write s ks k r) =
      let holder = holder_ops s ks in
      ap suc (none-then holder (right_ops types (at + 1 + length holder) r ++ i.Put k ∷ pace_ops r) (holder-none s ks)
      (put-none types (at + 1 + length holder) r (i.Put k) refl))
  kind-marks types at line (write_element s ks e r) =
      let place = place_ops (at + 1) s ks e in
      ap suc (none-then place (right_ops types (at + 1 + length place) r ++ i.PutElement ∷ pace_ops r) (place-none (at + 1) s ks e)
      (put-none types (at + 1 + length place) r i.PutElement refl))
  kind-marks types at line (call c) =
      ap suc (none-then (call_ops types (at + 1) c) (dropped_code c.callee.result) (call-none types (at + 1) c) (dropped-none c.callee.result))
  kind-marks types at line (swap y s ks k) = ap suc (none-then (path_ops s ks) (i.Check ∷ i.Swap y k ∷ []) (path-none s ks) refl)
  kind-marks types at line (branch e b other) =
      let test = whole_ops types (at + 1) e in
      let inside = at + 1 + length test + 1 in
      let block = block_ops types inside b in
      let others = else_ops types (inside + length block + 2) line other in
      let all = marks-then test (i.JumpFalse (inside + length block + else_gap other) ∷ (block ++ i.Mark line ∷ i.End (length types) ∷ others)) in
      let none = whole-none types (at + 1) e in
      let rest = marks-then block (i.Mark line ∷ i.End (length types) ∷ others) in
      let here = block-marks types inside true b in
      let there = else-marks types (inside + length block + 2) line other in
      let sum = length-append (block_types true types b) (else_types types other) in omega (arith, all, none, rest, here, there, sum)
  kind-marks types at line (while e b) =
      let test = whole_ops types (at + 1) e in
      let inside = at + 1 + length test + 1 in
      let block = block_ops types inside b in
      let all = marks-then test (i.JumpFalse (inside + length block + 3) ∷ (block ++ i.Mark line ∷ i.End (length types) ∷ i.Jump at ∷ [])) in
      let none = whole-none types (at + 1) e in
      let rest = marks-then block (i.Mark line ∷ i.End (length types) ∷ i.Jump at ∷ []) in
      let here = block-marks types inside true b in omega (arith, all, none, rest, here)
  kind-marks types at line (enter s c b w) =
      let block = block_ops (types_inside types c) (at + 1 + 1) b in
      let rest = marks-then block (i.Mark line ∷ leave_op (length types) w ∷ []) in
      let last = leave-none (length types) w in
      let here = block-marks (types_inside types c) (at + 1 + 1) true b in omega (arith, rest, last, here)
  kind-marks types at line (enter_field s ks k c b w) =
      let front = path_ops s ks ++ i.EnterField k (length types) ∷ [] in
      let block = block_ops (types_inside types c) (at + 1 + length front) b in
      let all = marks-then front (block ++ i.Mark line ∷ leave_op (length types) w ∷ []) in
      let none = none-then (path_ops s ks) (i.EnterField k (length types) ∷ []) (path-none s ks) refl in
      let rest = marks-then block (i.Mark line ∷ leave_op (length types) w ∷ []) in
      let last = leave-none (length types) w in
      let here = block-marks (types_inside types c) (at + 1 + length front) true b in omega (arith, all, none, rest, last, here)
  kind-marks types at line (print e) = ap suc (none-then (whole_ops types (at + 1) e) (i.Print ∷ []) (whole-none types (at + 1) e) refl)
  kind-marks types at line collect = refl
  kind-marks types at line (return e) = ap suc (none-then (whole_ops types (at + 1) e) (i.Ret ∷ []) (whole-none types (at + 1) e) refl)

  else-marks : (types : List Ty) (at line : ℕ) (o : Else) → marks (else_ops types at line o) ≡ length (else_types types o)
  else-marks types at line no_else = refl
  else-marks types at line (otherwise b) =
      let block = block_ops types (at + 1) b in
      let rest = marks-then block (i.Mark line ∷ i.End (length types) ∷ []) in
      let here = block-marks types (at + 1) true b in omega (arith, rest, here)

  pub block-marks : (types : List Ty) (at : ℕ) (marked : Truth) (b : Block) →
      marks (block_ops types at b) + one marked ≡ length (block_types marked types b)
  block-marks types at true empty = refl
  block-marks types at false empty = refl
  block-marks types at marked (next line k b) =
      let first = kind_ops types at line k in
      let behind = types_behind types k in
      let all = marks-then first (block_ops behind (at + length first) b) in
      let own = kind-marks types at line k in
      let rest = block-marks behind (at + length first) marked b in
      let sum = length-append (inner_types types k) (block_types marked behind b) in omega (arith, all, own, rest, sum)
