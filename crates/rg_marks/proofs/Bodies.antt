-- The code of a program is the same without the lines that no mark has.
use Rattle.std.proofs.Common.{◌≡◌, refl, sym, ap, ◌∙◌, ℕ, suc, ◌+◌, List, [], ◌∷◌, ◌++◌, map, length, Option, Some, None}
use Rattle.rg_base.specs.declared.words.Cap.TheVariants as cap
use Rattle.rg_base.specs.declared.ty.Ty.{Ty}
use Rattle.rg_base.specs.declared.ty.Ty.TheVariants as ty
use Rattle.rg_base.specs.declared.value.Word.{Word}
use Rattle.rg_tree.specs.Tree.{Name, Variable, Ty as Written, Path, Expr, Call, Right, value, new, new_tmp, new_iso, result_of, stmt, StmtKind}
use Rattle.rg_tree.specs.Tree.{declare, assign, assign_element, call, swap, branch, while, enter, print, collect, return, Else, no_else, otherwise}
use Rattle.rg_tree.specs.Tree.{Block, empty as none, then as next, Param, Method, Member, field, method, Class, Tree}
use Rattle.rg_rules.specs.Types.{class_number, type_of}
use Rattle.rg_code.specs.declared.op.Op.{Op}
use Rattle.rg_code.specs.declared.op.Op.TheVariants as i
use Rattle.rg_code.specs.Code.{Code}
use Rattle.rg_code.specs.Lowering.{Scope, with_slot, slot_of, type_in, type_along, path_code, holder_code, held_number, expr_code, exprs_code}
use Rattle.rg_code.specs.Lowering.{whole_code, used_by_all, clears, class_of, number_called, target_class, call_code, call_result, new_code}
use Rattle.rg_code.specs.Lowering.{right_code, pace_code, dropped_code, scope_behind, scope_inside, assign_code, assign_element_code, swap_code}
use Rattle.rg_code.specs.Lowering.{enter_code, scope_at_end, leave_op, kind_code, else_code, block_code, with_params, method_scope, method_end_code}
use Rattle.rg_code.specs.Lowering.{method_code, main_code, slots_of, Methods, with_method, members_code, methods_code, opening_word, opening_words}
use Rattle.rg_code.specs.Lowering.{opening_of, lowered}
use Rattle.rg_lines.specs.Unlined.{end_line, method_unlined, member_unlined, classes_unlined, unlined, SameButLines}
use Rattle.rg_lines.proofs.Types.{class_number-unlined, type_of-unlined}
use Rattle.rg_marks.proofs.Paths.{type_along-unlined, path_code-unlined, holder_code-unlined, held_number-unlined, expr_code-unlined}
use Rattle.rg_marks.proofs.Paths.{exprs_code-unlined, whole_code-unlined, class_of-unlined, target_class-unlined, number_called-unlined}
use Rattle.rg_marks.proofs.Paths.{call_result-unlined}

-- Calls and right sides

called_number-unlined : (cs : List Class) (sc : Scope) (c : Call) →
    number_called (classes_unlined cs) (target_class (classes_unlined cs) sc c) c.method ≡ number_called cs (target_class cs sc c) c.method
called_number-unlined cs sc c =
    ap (λ k. number_called (classes_unlined cs) k c.method) (target_class-unlined cs sc c) ∙ number_called-unlined cs (target_class cs sc c) c.method

-- a call by its parts
abbrev call_by : Scope → Call → (receiver args : List Op) → (number : ℕ) → List Op
call_by sc c receiver args n = receiver ++ (args ++ i.Room ∷ (clears (used_by_all sc c.args) ++ i.Call n ∷ []))

call_code-unlined : (cs : List Class) (sc : Scope) (at : ℕ) (c : Call) → call_code (classes_unlined cs) sc at c ≡ call_code cs sc at c
call_code-unlined cs sc at c =
    let number = number_called (classes_unlined cs) (target_class (classes_unlined cs) sc c) c.method in
    let receiver = path_code cs sc c.target.base c.target.fields ++ i.Check ∷ [] in
    let args = exprs_code cs sc (at + length receiver) c.args in
    ap (λ ops. call_by sc c (ops ++ i.Check ∷ []) (exprs_code (classes_unlined cs) sc (at + length (ops ++ i.Check ∷ [])) c.args) number)
    (path_code-unlined cs sc c.target.base c.target.fields)
    ∙ (ap (λ ops. call_by sc c receiver ops number) (exprs_code-unlined cs sc (at + length receiver) c.args)
    ∙ ap (call_by sc c receiver args) (called_number-unlined cs sc c))

new_code-unlined : (cs : List Class) (sc : Scope) (at : ℕ) (o a : Op) (n : Option Expr) →
    new_code (classes_unlined cs) sc at o a n ≡ new_code cs sc at o a n
new_code-unlined cs sc at o a None = refl
new_code-unlined cs sc at o a (Some e) = ap (λ ops. ops ++ a ∷ []) (expr_code-unlined cs sc at e)

-- a new object, whose class has a number
made_code-unlined : (cs : List Class) (sc : Scope) (at : ℕ) (o a : ℕ → Op) (x : Name) (n : Option Expr) →
    new_code (classes_unlined cs) sc at (o (class_number (classes_unlined cs) x)) (a (class_number (classes_unlined cs) x)) n
    ≡ new_code cs sc at (o (class_number cs x)) (a (class_number cs x)) n
made_code-unlined cs sc at o a x n =
    ap (λ k. new_code (classes_unlined cs) sc at (o k) (a k) n) (class_number-unlined cs x)
    ∙ new_code-unlined cs sc at (o (class_number cs x)) (a (class_number cs x)) n

right_code-unlined : (cs : List Class) (sc : Scope) (at : ℕ) (r : Right) → right_code (classes_unlined cs) sc at r ≡ right_code cs sc at r
right_code-unlined cs sc at (value e) = whole_code-unlined cs sc at e
right_code-unlined cs sc at (new x n) = made_code-unlined cs sc at (λ k. i.New k) (λ k. i.NewArray k) x n
right_code-unlined cs sc at (new_tmp x n) = made_code-unlined cs sc at (λ k. i.NewTmp k) (λ k. i.NewTmpArray k) x n
right_code-unlined cs sc at (new_iso x n m) = made_code-unlined cs sc at (λ k. i.NewIso k m) (λ k. i.NewIsoArray k m) x n
right_code-unlined cs sc at (result_of c) = call_code-unlined cs sc at c
right_code-unlined cs sc at _ = refl

-- Statements

assign_code-unlined : (cs : List Class) (sc : Scope) (at : ℕ) (x : Variable) (fs : List Name) (r : Right) →
    assign_code (classes_unlined cs) sc at x fs r ≡ assign_code cs sc at x fs r
assign_code-unlined cs sc at x [] r = rw (right_code-unlined cs sc at r) refl
assign_code-unlined cs sc at x (f ∷ fs) r =
    let holder = holder_code cs sc x f fs ++ i.Check ∷ [] in
    let f' : List Op → List Op → ℕ → List Op = λ front right n. front ++ (right ++ i.Put n ∷ pace_code r) in
    ap (λ ops. f' (ops ++ i.Check ∷ []) (right_code (classes_unlined cs) sc (at + length (ops ++ i.Check ∷ [])) r)
    (held_number (classes_unlined cs) sc x f fs)) (holder_code-unlined cs sc x f fs)
    ∙ (ap (λ ops. f' holder ops (held_number (classes_unlined cs) sc x f fs)) (right_code-unlined cs sc (at + length holder) r)
    ∙ ap (f' holder (right_code cs sc (at + length holder) r)) (held_number-unlined cs sc x f fs))

assign_element_code-unlined : (cs : List Class) (sc : Scope) (at : ℕ) (q : Path) (e : Expr) (r : Right) →
    assign_element_code (classes_unlined cs) sc at q e r ≡ assign_element_code cs sc at q e r
assign_element_code-unlined cs sc at q e r =
    let array = path_code cs sc q.base q.fields ++ i.Check ∷ [] in
    let index = expr_code cs sc (at + length array) e ++ i.Bound ∷ [] in
    let f : List Op → List Op → List Op → List Op = λ front mid right. front ++ (mid ++ (right ++ i.PutElement ∷ pace_code r)) in
    ap (λ ops.
    let front = ops ++ i.Check ∷ [] in
    let mid = expr_code (classes_unlined cs) sc (at + length front) e ++ i.Bound ∷ [] in
    f front mid (right_code (classes_unlined cs) sc (at + length front + length mid) r)) (path_code-unlined cs sc q.base q.fields)
    ∙ (ap (λ ops. f array (ops ++ i.Bound ∷ []) (right_code (classes_unlined cs) sc (at + length array + length (ops ++ i.Bound ∷ [])) r))
    (expr_code-unlined cs sc (at + length array) e)
    ∙ ap (f array index) (right_code-unlined cs sc (at + length array + length index) r))

swap_code-unlined : (cs : List Class) (sc : Scope) (y : Name) (x : Variable) (fs : List Name) →
    swap_code (classes_unlined cs) sc y x fs ≡ swap_code cs sc y x fs
swap_code-unlined cs sc y x [] = refl
swap_code-unlined cs sc y x (f ∷ fs) =
    ap (λ ops. ops ++ i.Check ∷ i.Swap (slot_of sc (Some y)) (held_number (classes_unlined cs) sc x f fs) ∷ []) (holder_code-unlined cs sc x f fs)
    ∙ ap (λ n. holder_code cs sc x f fs ++ i.Check ∷ i.Swap (slot_of sc (Some y)) n ∷ []) (held_number-unlined cs sc x f fs)

enter_code-unlined : (cs : List Class) (sc : Scope) (x : Variable) (fs : List Name) → enter_code (classes_unlined cs) sc x fs ≡ enter_code cs sc x fs
enter_code-unlined cs sc x [] = refl
enter_code-unlined cs sc x (f ∷ fs) =
    ap (λ ops. ops ++ i.EnterField (held_number (classes_unlined cs) sc x f fs) (length sc) ∷ []) (holder_code-unlined cs sc x f fs)
    ∙ ap (λ n. holder_code cs sc x f fs ++ i.EnterField n (length sc) ∷ []) (held_number-unlined cs sc x f fs)

-- Scopes

pub scope_behind-unlined : (cs : List Class) (sc : Scope) (k : StmtKind) → scope_behind (classes_unlined cs) sc k ≡ scope_behind cs sc k
scope_behind-unlined cs sc (declare x t r) = ap (with_slot sc (Some x)) (type_of-unlined cs t)
scope_behind-unlined cs sc _ = refl

pub scope_inside-unlined : (cs : List Class) (sc : Scope) (p : Path) (z : Name) → scope_inside (classes_unlined cs) sc p z ≡ scope_inside cs sc p z
scope_inside-unlined cs sc p z =
    ap (λ n. with_slot sc (Some z) (ty.Ref cap.Mut n))
    (ap (class_of (classes_unlined cs)) (type_along-unlined cs (type_in sc p.base) p.fields)
    ∙ class_of-unlined cs (type_along cs (type_in sc p.base) p.fields))

scope_at_end-unlined : (cs : List Class) (sc : Scope) (b : Block) → scope_at_end (classes_unlined cs) sc b ≡ scope_at_end cs sc b
scope_at_end-unlined cs sc none = refl
scope_at_end-unlined cs sc (next (stmt line k) b) =
    ap (λ s. scope_at_end (classes_unlined cs) s b) (scope_behind-unlined cs sc k) ∙ scope_at_end-unlined cs (scope_behind cs sc k) b

-- Blocks

abbrev call_alone : ℕ → List Op → Option Ty → List Op
call_alone line ops t = i.Mark line ∷ ops ++ dropped_code t

-- an `enter` by its parts
abbrev entered_by : ℕ → Scope → Option Name → (front block : List Op) → (end : Scope) → List Op
entered_by line sc giving front block end = i.Mark line ∷ (front ++ (block ++ i.Mark line ∷ leave_op end (length sc) giving ∷ []))

mutual
  pub kind_code-unlined : (cs : List Class) (sc : Scope) (at line : ℕ) (k : StmtKind) →
      kind_code (classes_unlined cs) sc at line k ≡ kind_code cs sc at line k
  kind_code-unlined cs sc at line (declare x t r) =
      ap (λ ops. i.Mark line ∷ ops ++ i.Store (length sc) ∷ pace_code r) (right_code-unlined cs sc (at + 1) r)
  kind_code-unlined cs sc at line (assign p r) = ap (λ ops. i.Mark line ∷ ops) (assign_code-unlined cs sc (at + 1) p.base p.fields r)
  kind_code-unlined cs sc at line (assign_element q e r) = ap (λ ops. i.Mark line ∷ ops) (assign_element_code-unlined cs sc (at + 1) q e r)
  kind_code-unlined cs sc at line (call c) =
      ap (λ ops. call_alone line ops (call_result (classes_unlined cs) sc c)) (call_code-unlined cs sc (at + 1) c)
      ∙ ap (call_alone line (call_code cs sc (at + 1) c)) (call_result-unlined cs sc c)
  kind_code-unlined cs sc at line (swap y p) = ap (λ ops. i.Mark line ∷ ops) (swap_code-unlined cs sc y p.base p.fields)
  kind_code-unlined cs sc at line (branch e b other) =
      let inside = at + 1 + length (whole_code cs sc (at + 1) e) + 1 in
      let test = expr_code-unlined cs sc (at + 1) e in
      let first = block_code-unlined cs sc inside b in
      let second = else_code-unlined cs sc (inside + length (block_code cs sc inside b) + 2) line other in
      rw (test, first, second) refl
  kind_code-unlined cs sc at line (while e b) =
      let inside = at + 1 + length (whole_code cs sc (at + 1) e) + 1 in
      let test = expr_code-unlined cs sc (at + 1) e in
      let body = block_code-unlined cs sc inside b in
      rw (test, body) refl
  kind_code-unlined cs sc at line (enter p z b giving) =
      let front = enter_code cs sc p.base p.fields in
      let inside = scope_inside cs sc p z in
      ap (λ ops. entered_by line sc giving ops
      (block_code (classes_unlined cs) (scope_inside (classes_unlined cs) sc p z) (at + 1 + length ops) b)
      (scope_at_end (classes_unlined cs) (scope_inside (classes_unlined cs) sc p z) b)) (enter_code-unlined cs sc p.base p.fields)
      ∙ (ap (λ s. entered_by line sc giving front (block_code (classes_unlined cs) s (at + 1 + length front) b)
      (scope_at_end (classes_unlined cs) s b)) (scope_inside-unlined cs sc p z)
      ∙ (ap (λ ops. entered_by line sc giving front ops (scope_at_end (classes_unlined cs) inside b))
      (block_code-unlined cs inside (at + 1 + length front) b)
      ∙ ap (entered_by line sc giving front (block_code cs inside (at + 1 + length front) b)) (scope_at_end-unlined cs inside b)))
  kind_code-unlined cs sc at line (print e) = ap (λ ops. i.Mark line ∷ ops ++ i.Print ∷ []) (whole_code-unlined cs sc (at + 1) e)
  kind_code-unlined cs sc at line collect = refl
  kind_code-unlined cs sc at line (return e) = ap (λ ops. i.Mark line ∷ ops ++ i.Ret ∷ []) (whole_code-unlined cs sc (at + 1) e)

  else_code-unlined : (cs : List Class) (sc : Scope) (at line : ℕ) (o : Else) →
      else_code (classes_unlined cs) sc at line o ≡ else_code cs sc at line o
  else_code-unlined cs sc at line no_else = refl
  else_code-unlined cs sc at line (otherwise b) =
      ap (λ ops. i.Jump (at + 1 + length ops + 2) ∷ ops ++ i.Mark line ∷ i.End (length sc) ∷ []) (block_code-unlined cs sc (at + 1) b)

  block_code-unlined : (cs : List Class) (sc : Scope) (at : ℕ) (b : Block) → block_code (classes_unlined cs) sc at b ≡ block_code cs sc at b
  block_code-unlined cs sc at none = refl
  block_code-unlined cs sc at (next (stmt line k) b) =
      let first = kind_code cs sc at line k in
      ap (λ ops. ops ++ block_code (classes_unlined cs) (scope_behind (classes_unlined cs) sc k) (at + length ops) b)
      (kind_code-unlined cs sc at line k)
      ∙ (ap (λ s. first ++ block_code (classes_unlined cs) s (at + length first) b) (scope_behind-unlined cs sc k)
      ∙ ap (λ ops. first ++ ops) (block_code-unlined cs (scope_behind cs sc k) (at + length first) b))

-- Bodies

with_params-unlined : (cs : List Class) (sc : Scope) (ps : List Param) → with_params (classes_unlined cs) sc ps ≡ with_params cs sc ps
with_params-unlined cs sc [] = refl
with_params-unlined cs sc (p ∷ ps) =
    ap (λ t. with_params (classes_unlined cs) (with_slot sc (Some p.name) t) ps) (type_of-unlined cs p.ty)
    ∙ with_params-unlined cs (with_slot sc (Some p.name) (type_of cs p.ty)) ps

pub method_scope-unlined : (cs : List Class) (c : ℕ) (m : Method) → method_scope (classes_unlined cs) c (method_unlined m) ≡ method_scope cs c m
method_scope-unlined cs c m = with_params-unlined cs (with_slot [] None (ty.Ref m.receiver c)) m.params

end_by : (line : ℕ) (o : Option Written) → method_end_code (end_line o line) o ≡ method_end_code line o
end_by line None = refl
end_by line (Some t) = refl

method_code-unlined : (cs : List Class) (at c : ℕ) (m : Method) → method_code (classes_unlined cs) at c (method_unlined m) ≡ method_code cs at c m
method_code-unlined cs at c m =
    ap (λ s. block_code (classes_unlined cs) s at m.body ++ method_end_code (end_line m.result m.line) m.result) (method_scope-unlined cs c m)
    ∙ (ap (λ ops. ops ++ method_end_code (end_line m.result m.line) m.result) (block_code-unlined cs (method_scope cs c m) at m.body)
    ∙ ap (λ ops. block_code cs (method_scope cs c m) at m.body ++ ops) (end_by m.line m.result))

members_code-unlined : (cs : List Class) (at c : ℕ) (ms : List Member) (go to : ℕ → Methods) → ((n : ℕ) → go n ≡ to n) →
    members_code (classes_unlined cs) at c (map member_unlined ms) go ≡ members_code cs at c ms to
members_code-unlined cs at c [] go to h = h at
members_code-unlined cs at c (field f ∷ ms) go to h = members_code-unlined cs at c ms go to h
members_code-unlined cs at c (method m ∷ ms) go to h =
    let body = method_code cs at c m in
    ap (λ ops. with_method at (suc (length m.params)) ops (members_code (classes_unlined cs) (at + length ops) c (map member_unlined ms) go))
    (method_code-unlined cs at c m)
    ∙ ap (with_method at (suc (length m.params)) body) (members_code-unlined cs (at + length body) c ms go to h)

methods_code-unlined : (cs : List Class) (at c : ℕ) (ks : List Class) →
    methods_code (classes_unlined cs) at c (classes_unlined ks) ≡ methods_code cs at c ks
methods_code-unlined cs at c [] = refl
methods_code-unlined cs at c (k ∷ ks) =
    members_code-unlined cs at c k.members (λ behind. methods_code (classes_unlined cs) behind (suc c) (classes_unlined ks))
    (λ behind. methods_code cs behind (suc c) ks) (λ n. methods_code-unlined cs n (suc c) ks)

-- Programs

main_code-unlined : (t : Tree) → main_code (unlined t) ≡ main_code t
main_code-unlined t = ap (λ ops. ops ++ i.Mark t.line ∷ i.End 0 ∷ i.Halt ∷ []) (block_code-unlined t.classes [] 0 t.body)

words_by : (ms : List Member) → opening_words (map member_unlined ms) ≡ opening_words ms
words_by [] = refl
words_by (field f ∷ ms) = ap (λ ws. opening_word f.ty ∷ ws) (words_by ms)
words_by (method m ∷ ms) = words_by ms

opening_by : (o : Option Written) (ms : List Member) → opening_of o (map member_unlined ms) ≡ opening_of o ms
opening_by None ms = words_by ms
opening_by (Some t) ms = refl

-- the openings of classes
abbrev openings : List Class → List (List Word)
openings cs = map (λ (c : Class). opening_of c.element c.members) cs

openings-unlined : (cs : List Class) → openings (classes_unlined cs) ≡ openings cs
openings-unlined [] = refl
openings-unlined (c ∷ cs) =
    ap (λ ws. ws ∷ openings (classes_unlined cs)) (opening_by c.element c.members)
    ∙ ap (λ others. opening_of c.element c.members ∷ others) (openings-unlined cs)

-- a code by its parts
abbrev code_by : List Op → Methods → List (List Word) → Code
code_by main methods words = record { ops = main ++ methods.ops; openings = words; entries = methods.entries; main_slots = slots_of 0 main }

pub lowered-unlined : (t : Tree) → lowered (unlined t) ≡ lowered t
lowered-unlined t =
    let main = main_code t in
    let cs = classes_unlined t.classes in
    ap (λ ops. code_by ops (methods_code cs (length ops) 0 cs) (openings cs)) (main_code-unlined t)
    ∙ (ap (λ methods. code_by main methods (openings cs)) (methods_code-unlined t.classes (length main) 0 t.classes)
    ∙ ap (code_by main (methods_code t.classes (length main) 0 t.classes)) (openings-unlined t.classes))

pub same-code : (t u : Tree) → SameButLines t u → lowered t ≡ lowered u
same-code t u h = sym (lowered-unlined t) ∙ (ap lowered h ∙ lowered-unlined u)
