-- The lines of the marks of a code are those of its program, in order.
use Rattle.std.proofs.Common.{◌≡◌, refl, sym, ap, ◌∙◌, ℕ, suc, ◌+◌, if◌then◌else◌, Bool as Truth, true, false, List, [], ◌∷◌, ◌++◌, length, Option}
use Rattle.std.proofs.Common.{Some, None}
use Rattle.rg_base.specs.declared.ty.Ty.{Ty}
use Rattle.rg_tree.specs.declared.rows.BinOp.{BinOp}
use Rattle.rg_tree.specs.declared.rows.BinOp.TheVariants as op
use Rattle.rg_tree.specs.Tree.{Name, Variable, Ty as Written, Path, Expr, number, boolean, nil, path, is_nil, neg, not, binary, size, element, Call}
use Rattle.rg_tree.specs.Tree.{Right, value, new, new_tmp, new_iso, freeze, merge, read, more, result_of, stmt, StmtKind, declare, assign}
use Rattle.rg_tree.specs.Tree.{assign_element, call, swap, branch, while, enter, print, collect, return, Else, no_else, otherwise, Block}
use Rattle.rg_tree.specs.Tree.{empty as none, then as next, Method, Member, field, method, Class, Tree}
use Rattle.rg_tree.specs.Lineless.{lineless}
use Rattle.rg_rules.specs.Capabilities.{is_iso}
use Rattle.rg_rules.specs.Types.{class_number}
use Rattle.rg_rules.specs.Paths.{all_but_last}
use Rattle.rg_code.specs.declared.op.Op.{Op}
use Rattle.rg_code.specs.declared.op.Op.TheVariants as i
use Rattle.rg_code.specs.Lowering.{Scope, type_in, type_behind, slot_of, fields_code, path_code, holder_code, held_number, gap, operator_code}
use Rattle.rg_code.specs.Lowering.{expr_code, exprs_code, used_slots, used_by_all, clears, whole_code, number_called, target_class, call_code}
use Rattle.rg_code.specs.Lowering.{call_result, new_code, right_code, pace_code, assign_op, dropped_code, scope_behind, scope_inside, assign_code}
use Rattle.rg_code.specs.Lowering.{assign_element_code, swap_code, enter_code, scope_at_end, leave_op, kind_code, else_code, block_code, else_gap}
use Rattle.rg_code.specs.Lowering.{method_scope, method_end_code, method_code, main_code, Methods, members_code, methods_code, lowered}
use Rattle.rg_lines.specs.Unlined.{SameButLines}
use Rattle.rg_marks.proofs.Relined.{kind_lines, else_lines, block_lines, end_lines, members_lines, methods_lines, tree_lines, lines-tell}

-- the lines of the marks among instructions, in front of others
abbrev lines_in : List Op → List ℕ → List ℕ
lines_in [] ls = ls
lines_in (i.Mark line ∷ os) ls = line ∷ lines_in os ls
lines_in (o ∷ os) ls = lines_in os ls

pub lines_in-append : (a b : List Op) (ls : List ℕ) → lines_in (a ++ b) ls ≡ lines_in a (lines_in b ls)
lines_in-append [] b ls = refl
lines_in-append (i.Mark line ∷ os) b ls = ap (λ ms. line ∷ ms) (lines_in-append os b ls)
lines_in-append (o ∷ os) b ls = lines_in-append os b ls

-- none of these is a mark
abbrev Markless : List Op → Type 0
Markless ops = (ls : List ℕ) → lines_in ops ls ≡ ls

-- behind instructions without a mark
behind : (a b : List Op) → Markless a → (ls : List ℕ) → lines_in (a ++ b) ls ≡ lines_in b ls
behind a b h ls = lines_in-append a b ls ∙ h (lines_in b ls)

both : (a b : List Op) → Markless a → Markless b → Markless (a ++ b)
both a b h g ls = behind a b h ls ∙ g ls

-- Expressions

fields-markless : (cs : List Class) (t : Ty) (fs : List Name) → Markless (fields_code cs t fs)
fields-markless cs t [] ls = refl
fields-markless cs t (f ∷ fs) ls = fields-markless cs (type_behind cs t f) fs ls

path-markless : (cs : List Class) (sc : Scope) (x : Variable) (fs : List Name) → Markless (path_code cs sc x fs)
path-markless cs sc x fs ls = fields-markless cs (type_in sc x) fs ls

operator-markless : (o : BinOp) (end : ℕ) (right : List Op) → Markless right → Markless (operator_code o end right)
operator-markless op.Or end right h = h
operator-markless op.And end right h = h
operator-markless op.Eq end right h = both right (i.Eq ∷ []) h (λ ls. refl)
operator-markless op.Ne end right h = both right (i.Ne ∷ []) h (λ ls. refl)
operator-markless op.Lt end right h = both right (i.Lt ∷ []) h (λ ls. refl)
operator-markless op.Le end right h = both right (i.Le ∷ []) h (λ ls. refl)
operator-markless op.Gt end right h = both right (i.Gt ∷ []) h (λ ls. refl)
operator-markless op.Ge end right h = both right (i.Ge ∷ []) h (λ ls. refl)
operator-markless op.Add end right h = both right (i.Add ∷ []) h (λ ls. refl)
operator-markless op.Sub end right h = both right (i.Sub ∷ []) h (λ ls. refl)
operator-markless op.Mul end right h = both right (i.Mul ∷ []) h (λ ls. refl)
operator-markless op.Div end right h = both right (i.Div ∷ []) h (λ ls. refl)
operator-markless op.Rem end right h = both right (i.Rem ∷ []) h (λ ls. refl)

expr-markless : (cs : List Class) (sc : Scope) (at : ℕ) (e : Expr) → Markless (expr_code cs sc at e)
expr-markless cs sc at (number z) = λ ls. refl
expr-markless cs sc at (boolean b) = λ ls. refl
expr-markless cs sc at nil = λ ls. refl
expr-markless cs sc at (path p) = path-markless cs sc p.base p.fields
expr-markless cs sc at (is_nil p) = both (path_code cs sc p.base p.fields) (i.IsNil ∷ []) (path-markless cs sc p.base p.fields) (λ ls. refl)
expr-markless cs sc at (size p) = both (path_code cs sc p.base p.fields) (i.Size ∷ []) (path-markless cs sc p.base p.fields) (λ ls. refl)
expr-markless cs sc at (element q e) =
    let array = path_code cs sc q.base q.fields ++ i.Check ∷ [] in
    both array (expr_code cs sc (at + length array) e ++ i.Bound ∷ i.Element ∷ [])
    (both (path_code cs sc q.base q.fields) (i.Check ∷ []) (path-markless cs sc q.base q.fields) (λ ls. refl))
    (both (expr_code cs sc (at + length array) e) (i.Bound ∷ i.Element ∷ []) (expr-markless cs sc (at + length array) e) (λ ls. refl))
expr-markless cs sc at (neg a) = both (expr_code cs sc at a) (i.Neg ∷ []) (expr-markless cs sc at a) (λ ls. refl)
expr-markless cs sc at (not a) = both (expr_code cs sc at a) (i.Not ∷ []) (expr-markless cs sc at a) (λ ls. refl)
expr-markless cs sc at (binary o a b) =
    let left = expr_code cs sc at a in
    let middle = at + length left + gap o in
    let right = expr_code cs sc middle b in
    both left (operator_code o (middle + length right) right) (expr-markless cs sc at a)
    (operator-markless o (middle + length right) right (expr-markless cs sc middle b))

exprs-markless : (cs : List Class) (sc : Scope) (at : ℕ) (es : List Expr) → Markless (exprs_code cs sc at es)
exprs-markless cs sc at [] = λ ls. refl
exprs-markless cs sc at (e ∷ es) =
    let first = expr_code cs sc at e in
    both first (exprs_code cs sc (at + length first) es) (expr-markless cs sc at e) (exprs-markless cs sc (at + length first) es)

clears-markless : (ss : List ℕ) → Markless (clears ss)
clears-markless [] ls = refl
clears-markless (s ∷ ss) ls = clears-markless ss ls

whole-markless : (cs : List Class) (sc : Scope) (at : ℕ) (e : Expr) → Markless (whole_code cs sc at e)
whole-markless cs sc at e = both (expr_code cs sc at e) (clears (used_slots sc e)) (expr-markless cs sc at e) (clears-markless (used_slots sc e))

-- Calls and right sides

call-markless : (cs : List Class) (sc : Scope) (at : ℕ) (c : Call) → Markless (call_code cs sc at c)
call-markless cs sc at c =
    let receiver = path_code cs sc c.target.base c.target.fields ++ i.Check ∷ [] in
    let used = clears (used_by_all sc c.args) in
    let last = i.Call (number_called cs (target_class cs sc c) c.method) ∷ [] in
    both receiver (exprs_code cs sc (at + length receiver) c.args ++ i.Room ∷ (used ++ last))
    (both (path_code cs sc c.target.base c.target.fields) (i.Check ∷ []) (path-markless cs sc c.target.base c.target.fields) (λ ls. refl))
    (both (exprs_code cs sc (at + length receiver) c.args) (i.Room ∷ (used ++ last)) (exprs-markless cs sc (at + length receiver) c.args)
    (both used last (clears-markless (used_by_all sc c.args)) (λ ls. refl)))

new-markless : (cs : List Class) (sc : Scope) (at : ℕ) (o a : Op) (n : Option Expr) → Markless (o ∷ []) → Markless (a ∷ []) →
    Markless (new_code cs sc at o a n)
new-markless cs sc at o a None h g = h
new-markless cs sc at o a (Some n) h g = both (expr_code cs sc at n) (a ∷ []) (expr-markless cs sc at n) g

right-markless : (cs : List Class) (sc : Scope) (at : ℕ) (r : Right) → Markless (right_code cs sc at r)
right-markless cs sc at (value e) = whole-markless cs sc at e
right-markless cs sc at (new x n) = new-markless cs sc at (i.New (class_number cs x)) (i.NewArray (class_number cs x)) n (λ ls. refl) (λ ls. refl)
right-markless cs sc at (new_tmp x n) =
    new-markless cs sc at (i.NewTmp (class_number cs x)) (i.NewTmpArray (class_number cs x)) n (λ ls. refl) (λ ls. refl)
right-markless cs sc at (new_iso x n m) =
    new-markless cs sc at (i.NewIso (class_number cs x) m) (i.NewIsoArray (class_number cs x) m) n (λ ls. refl) (λ ls. refl)
right-markless cs sc at (freeze y) = λ ls. refl
right-markless cs sc at (merge y) = λ ls. refl
right-markless cs sc at read = λ ls. refl
right-markless cs sc at more = λ ls. refl
right-markless cs sc at (result_of c) = call-markless cs sc at c

pace-markless : (r : Right) → Markless (pace_code r)
pace-markless (new x n) = λ ls. refl
pace-markless _ = λ ls. refl

assign_op_by : (b : Truth) (s : ℕ) → Markless ((if b then i.Own s else i.Store s) ∷ [])
assign_op_by true s = λ ls. refl
assign_op_by false s = λ ls. refl

dropped_by : (b : Truth) → Markless (if b then i.Drop ∷ [] else i.Pop ∷ [])
dropped_by true = λ ls. refl
dropped_by false = λ ls. refl

dropped-markless : (t : Option Ty) → Markless (dropped_code t)
dropped-markless None = λ ls. refl
dropped-markless (Some t) = dropped_by (is_iso t)

-- Statements

behind_right : (cs : List Class) (sc : Scope) (at : ℕ) (r : Right) (o : Op) → Markless (o ∷ []) → Markless (right_code cs sc at r ++ o ∷ pace_code r)
behind_right cs sc at r o h =
    both (right_code cs sc at r) (o ∷ pace_code r) (right-markless cs sc at r) (both (o ∷ []) (pace_code r) h (pace-markless r))

holder-markless : (cs : List Class) (sc : Scope) (x : Variable) (f : Name) (fs : List Name) → Markless (holder_code cs sc x f fs)
holder-markless cs sc x f fs = path-markless cs sc x (all_but_last f fs)

assign-markless : (cs : List Class) (sc : Scope) (at : ℕ) (x : Variable) (fs : List Name) (r : Right) → Markless (assign_code cs sc at x fs r)
assign-markless cs sc at x [] r = behind_right cs sc at r (assign_op sc x) (assign_op_by (is_iso (type_in sc x)) (slot_of sc x))
assign-markless cs sc at x (f ∷ fs) r =
    let holder = holder_code cs sc x f fs ++ i.Check ∷ [] in
    both holder (right_code cs sc (at + length holder) r ++ i.Put (held_number cs sc x f fs) ∷ pace_code r)
    (both (holder_code cs sc x f fs) (i.Check ∷ []) (holder-markless cs sc x f fs) (λ ls. refl))
    (behind_right cs sc (at + length holder) r (i.Put (held_number cs sc x f fs)) (λ ls. refl))

assign_element-markless : (cs : List Class) (sc : Scope) (at : ℕ) (q : Path) (e : Expr) (r : Right) → Markless (assign_element_code cs sc at q e r)
assign_element-markless cs sc at q e r =
    let array = path_code cs sc q.base q.fields ++ i.Check ∷ [] in
    let index = expr_code cs sc (at + length array) e ++ i.Bound ∷ [] in
    let last = right_code cs sc (at + length array + length index) r ++ i.PutElement ∷ pace_code r in
    both array (index ++ last)
    (both (path_code cs sc q.base q.fields) (i.Check ∷ []) (path-markless cs sc q.base q.fields) (λ ls. refl))
    (both index last
    (both (expr_code cs sc (at + length array) e) (i.Bound ∷ []) (expr-markless cs sc (at + length array) e) (λ ls. refl))
    (behind_right cs sc (at + length array + length index) r i.PutElement (λ ls. refl)))

swap-markless : (cs : List Class) (sc : Scope) (y : Name) (x : Variable) (fs : List Name) → Markless (swap_code cs sc y x fs)
swap-markless cs sc y x [] = λ ls. refl
swap-markless cs sc y x (f ∷ fs) =
    both (holder_code cs sc x f fs) (i.Check ∷ i.Swap (slot_of sc (Some y)) (held_number cs sc x f fs) ∷ [])
    (holder-markless cs sc x f fs) (λ ls. refl)

enter-markless : (cs : List Class) (sc : Scope) (x : Variable) (fs : List Name) → Markless (enter_code cs sc x fs)
enter-markless cs sc x [] = λ ls. refl
enter-markless cs sc x (f ∷ fs) =
    both (holder_code cs sc x f fs) (i.EnterField (held_number cs sc x f fs) (length sc) ∷ []) (holder-markless cs sc x f fs) (λ ls. refl)

leave-markless : (sc : Scope) (s : ℕ) (w : Option Name) → Markless (leave_op sc s w ∷ [])
leave-markless sc s None = λ ls. refl
leave-markless sc s (Some w) = λ ls. refl

-- The marks of a program

mutual
  kind-told : (cs : List Class) (sc : Scope) (at line : ℕ) (k : StmtKind) (ls : List ℕ) →
      lines_in (kind_code cs sc at line k) ls ≡ line ∷ kind_lines line k ls
  kind-told cs sc at line (declare x t r) ls =
      ap (λ ms. line ∷ ms) (behind_right cs sc (at + 1) r (i.Store (length sc)) (λ ms. refl) ls)
  kind-told cs sc at line (assign p r) ls = ap (λ ms. line ∷ ms) (assign-markless cs sc (at + 1) p.base p.fields r ls)
  kind-told cs sc at line (assign_element q e r) ls = ap (λ ms. line ∷ ms) (assign_element-markless cs sc (at + 1) q e r ls)
  kind-told cs sc at line (call c) ls =
      ap (λ ms. line ∷ ms) (both (call_code cs sc (at + 1) c) (dropped_code (call_result cs sc c)) (call-markless cs sc (at + 1) c)
      (dropped-markless (call_result cs sc c)) ls)
  kind-told cs sc at line (swap y p) ls = ap (λ ms. line ∷ ms) (swap-markless cs sc y p.base p.fields ls)
  kind-told cs sc at line (branch e b other) ls =
      let test = whole_code cs sc (at + 1) e in
      let inside = at + 1 + length test + 1 in
      let block = block_code cs sc inside b in
      let behind_b = else_code cs sc (inside + length block + 2) line other in
      ap (λ ms. line ∷ ms)
      (behind test (i.JumpFalse (inside + length block + else_gap other) ∷ (block ++ i.Mark line ∷ i.End (length sc) ∷ behind_b))
      (whole-markless cs sc (at + 1) e) ls
      ∙ (lines_in-append block (i.Mark line ∷ i.End (length sc) ∷ behind_b) ls
      ∙ (block-told cs sc inside b (line ∷ lines_in behind_b ls)
      ∙ ap (λ ms. block_lines b (line ∷ ms)) (else-told cs sc (inside + length block + 2) line other ls))))
  kind-told cs sc at line (while e b) ls =
      let test = whole_code cs sc (at + 1) e in
      let inside = at + 1 + length test + 1 in
      let block = block_code cs sc inside b in
      ap (λ ms. line ∷ ms)
      (behind test (i.JumpFalse (inside + length block + 3) ∷ (block ++ i.Mark line ∷ i.End (length sc) ∷ i.Jump at ∷ []))
      (whole-markless cs sc (at + 1) e) ls
      ∙ (lines_in-append block (i.Mark line ∷ i.End (length sc) ∷ i.Jump at ∷ []) ls ∙ block-told cs sc inside b (line ∷ ls)))
  kind-told cs sc at line (enter p z b giving) ls =
      let front = enter_code cs sc p.base p.fields in
      let inside = scope_inside cs sc p z in
      let block = block_code cs inside (at + 1 + length front) b in
      let end = leave_op (scope_at_end cs inside b) (length sc) giving in
      ap (λ ms. line ∷ ms)
      (behind front (block ++ i.Mark line ∷ end ∷ []) (enter-markless cs sc p.base p.fields) ls
      ∙ (lines_in-append block (i.Mark line ∷ end ∷ []) ls
      ∙ (ap (λ ms. lines_in block (line ∷ ms)) (leave-markless (scope_at_end cs inside b) (length sc) giving ls)
      ∙ block-told cs inside (at + 1 + length front) b (line ∷ ls))))
  kind-told cs sc at line (print e) ls =
      ap (λ ms. line ∷ ms) (behind (whole_code cs sc (at + 1) e) (i.Print ∷ []) (whole-markless cs sc (at + 1) e) ls)
  kind-told cs sc at line collect ls = refl
  kind-told cs sc at line (return e) ls =
      ap (λ ms. line ∷ ms) (behind (whole_code cs sc (at + 1) e) (i.Ret ∷ []) (whole-markless cs sc (at + 1) e) ls)

  else-told : (cs : List Class) (sc : Scope) (at line : ℕ) (o : Else) (ls : List ℕ) →
      lines_in (else_code cs sc at line o) ls ≡ else_lines line o ls
  else-told cs sc at line no_else ls = refl
  else-told cs sc at line (otherwise b) ls =
      let block = block_code cs sc (at + 1) b in
      lines_in-append block (i.Mark line ∷ i.End (length sc) ∷ []) ls ∙ block-told cs sc (at + 1) b (line ∷ ls)

  block-told : (cs : List Class) (sc : Scope) (at : ℕ) (b : Block) (ls : List ℕ) → lines_in (block_code cs sc at b) ls ≡ block_lines b ls
  block-told cs sc at none ls = refl
  block-told cs sc at (next (stmt line k) b) ls =
      let first = kind_code cs sc at line k in
      let rest = block_code cs (scope_behind cs sc k) (at + length first) b in
      lines_in-append first rest ls
      ∙ (kind-told cs sc at line k (lines_in rest ls)
      ∙ ap (λ ms. line ∷ kind_lines line k ms) (block-told cs (scope_behind cs sc k) (at + length first) b ls))

end-told : (line : ℕ) (o : Option Written) (ls : List ℕ) → lines_in (method_end_code line o) ls ≡ end_lines o line ls
end-told line None ls = refl
end-told line (Some t) ls = refl

method-told : (cs : List Class) (at c : ℕ) (m : Method) (ls : List ℕ) →
    lines_in (method_code cs at c m) ls ≡ block_lines m.body (end_lines m.result m.line ls)
method-told cs at c m ls =
    lines_in-append (block_code cs (method_scope cs c m) at m.body) (method_end_code m.line m.result) ls
    ∙ (block-told cs (method_scope cs c m) at m.body (lines_in (method_end_code m.line m.result) ls)
    ∙ ap (block_lines m.body) (end-told m.line m.result ls))

members-told : (cs : List Class) (at c : ℕ) (ms : List Member) (go : ℕ → Methods) (ls : List ℕ) → ((n : ℕ) → lines_in (go n).ops [] ≡ ls) →
    lines_in (members_code cs at c ms go).ops [] ≡ members_lines ms ls
members-told cs at c [] go ls h = h at
members-told cs at c (field f ∷ ms) go ls h = members-told cs at c ms go ls h
members-told cs at c (method m ∷ ms) go ls h =
    let body = method_code cs at c m in
    let later = members_code cs (at + length body) c ms go in
    lines_in-append body later.ops []
    ∙ (method-told cs at c m (lines_in later.ops [])
    ∙ ap (λ ns. block_lines m.body (end_lines m.result m.line ns)) (members-told cs (at + length body) c ms go ls h))

methods-told : (cs : List Class) (at c : ℕ) (ks : List Class) → lines_in (methods_code cs at c ks).ops [] ≡ methods_lines ks []
methods-told cs at c [] = refl
methods-told cs at c (k ∷ ks) =
    members-told cs at c k.members (λ later. methods_code cs later (suc c) ks) (methods_lines ks []) (λ n. methods-told cs n (suc c) ks)

code-told : (t : Tree) → lines_in (lowered t).ops [] ≡ tree_lines t
code-told t =
    let block = block_code t.classes [] 0 t.body in
    let methods = methods_code t.classes (length (main_code t)) 0 t.classes in
    lines_in-append (main_code t) methods.ops []
    ∙ (lines_in-append block (i.Mark t.line ∷ i.End 0 ∷ i.Halt ∷ []) (lines_in methods.ops [])
    ∙ (block-told t.classes [] 0 t.body (t.line ∷ lines_in methods.ops [])
    ∙ ap (λ ms. block_lines t.body (t.line ∷ ms)) (methods-told t.classes (length (main_code t)) 0 t.classes)))

pub code-tells : (t u : Tree) → lineless t ≡ lineless u → lowered t ≡ lowered u → SameButLines t u
code-tells t u h g = lines-tell t u h (sym (code-told t) ∙ (ap (λ c. lines_in c.ops []) g ∙ code-told u))
