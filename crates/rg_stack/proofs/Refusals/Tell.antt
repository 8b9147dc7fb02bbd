-- A step's code asks for the input, and may collect, exactly where its statement does.
use Rattle.std.proofs.Common.{◌≡◌, ℕ, ◌+◌, true, false, true≢false, Bool as Truth, if◌then◌else◌, List, [], ◌∷◌, ◌++◌, length, drop, Option, Some}
use Rattle.std.proofs.Common.{None, refl, sym, ap, ◌∙◌, append_assoc, slice_get}
use Rattle.rg_base.specs.declared.event.Cause.{Cause}
use Rattle.rg_base.specs.declared.event.Cause.TheVariants.{Asked, Paced}
use Rattle.rg_tree.specs.Tree.{Name, Variable, Path, Expr, Call, Right, value, new, new_tmp, new_iso}
use Rattle.rg_tree.specs.Tree.{read, more, result_of}
use Rattle.rg_tree.specs.Tree.{StmtKind, declare, assign, assign_element, call, swap, branch, while, enter, print, collect, return, no_else}
use Rattle.rg_tree.specs.Tree.{otherwise, Block, Class}
use Rattle.rg_rules.specs.Capabilities.{is_iso}
use Rattle.rg_rules.specs.Paths.{all_but_last}
use Rattle.rg_rules.specs.Bodies.{is_return}
use Rattle.rg_rules.specs.Outside.Inputs.{asks, kind_asks}
use Rattle.rg_code.specs.declared.op.Op.{Op}
use Rattle.rg_code.specs.declared.op.Op.TheVariants as i
use Rattle.rg_code.specs.Lowering.{Scope, type_in, slot_of, path_code, expr_code, holder_code, held_number, assign_element_code, scope_at_end}
use Rattle.rg_code.specs.Lowering.{leave_op}
use Rattle.rg_code.specs.Lowering.{exprs_code, used_by_all, clears, whole_code, number_called, target_class, call_code}
use Rattle.rg_code.specs.Lowering.{call_result, dropped_code, right_code, pace_code, assign_op, assign_code, swap_code, enter_code, scope_inside}
use Rattle.rg_code.specs.Lowering.{else_code, block_code, kind_code}
use Rattle.rg_code.specs.Places.{Stands, is_mark}
use Rattle.rg_stack.proofs.Walks.Place.{block_starts}
use Rattle.rg_stack.proofs.Refusals.Kind.{behind_first}
use Rattle.rg_stack.proofs.Refusals.Plain.{tells, nothing, plain-check, plain-index, plain-new, plain-clears, plain-exprs, plain-path, plain-whole}

-- why a right side may, as it is written: by the form alone, whether its class is there or not
abbrev pub right_due : Right → Option Cause
right_due (new x many) = Some Paced
right_due _ = None

-- why a statement may, as it is written
abbrev pub written_due : StmtKind → Option Cause
written_due (declare x t r) = right_due r
written_due (assign p r) = right_due r
written_due (assign_element q e r) = right_due r
written_due collect = Some Asked
written_due _ = None

pub tells-mark : (os : List Op) → is_mark (slice_get os 0) ≡ true → tells os ≡ nothing
tells-mark [] e = refl
tells-mark (i.Mark line ∷ os) e = refl
tells-mark (o ∷ os) e = absurd (true≢false (sym e))

call-tells : (classes : List Class) (scope : Scope) (at : ℕ) (c : Call) (rest : List Op) → tells (call_code classes scope at c ++ rest) ≡ nothing
call-tells classes scope at c rest =
    let receiver = path_code classes scope c.target.base c.target.fields ++ i.Check ∷ [] in
    let exprs = exprs_code classes scope (at + length receiver) c.args in
    let used = clears (used_by_all scope c.args) in
    let calls = i.Call (number_called classes (target_class classes scope c) c.method) ∷ [] in
    let last = i.Room ∷ (used ++ calls) in
    ap tells (append_assoc receiver (exprs ++ last) rest) ∙ plain-check classes scope c.target.base c.target.fields ((exprs ++ last) ++ rest)
    ∙ ap tells (append_assoc exprs last rest) ∙ plain-exprs classes scope (at + length receiver) c.args (last ++ rest)
    ∙ ap tells (append_assoc used calls rest) ∙ plain-clears (used_by_all scope c.args) (calls ++ rest)

-- right sides, and what comes last

right-tells : (classes : List Class) (scope : Scope) (at : ℕ) (r : Right) (rest : List Op) → tells rest ≡ (false, right_due r)
    → tells (right_code classes scope at r ++ rest) ≡ (asks r, right_due r)
right-tells classes scope at (value e) rest h = plain-whole classes scope at e rest ∙ h
right-tells classes scope at (new x many) rest h = plain-new classes scope at _ _ many (λ rest. refl) (λ rest. refl) rest ∙ h
right-tells classes scope at (new_tmp x many) rest h = plain-new classes scope at _ _ many (λ rest. refl) (λ rest. refl) rest ∙ h
right-tells classes scope at (new_iso x many m) rest h = plain-new classes scope at _ _ many (λ rest. refl) (λ rest. refl) rest ∙ h
right-tells classes scope at read rest h = ap (λ q. (true, q.1)) h
right-tells classes scope at more rest h = ap (λ q. (true, q.1)) h
right-tells classes scope at (result_of c) rest h = call-tells classes scope at c rest
right-tells classes scope at _ rest h = h

pace-tells : (r : Right) (rest : List Op) → tells rest ≡ nothing → tells (pace_code r ++ rest) ≡ (false, right_due r)
pace-tells (new x many) rest h = ap (λ q. (q.0, Some Paced)) h
pace-tells _ rest h = h

assign-op-tells : (scope : Scope) (x : Variable) (rest : List Op) → tells (assign_op scope x ∷ rest) ≡ tells rest
assign-op-tells scope x rest = by (is_iso (type_in scope x))
  where
    by : (b : Truth) → tells ((if b then i.Own (slot_of scope x) else i.Store (slot_of scope x)) ∷ rest) ≡ tells rest
    by true = refl
    by false = refl

assign-tells : (classes : List Class) (scope : Scope) (at : ℕ) (x : Variable) (fs : List Name) (r : Right) (rest : List Op) → tells rest ≡ nothing
    → tells (assign_code classes scope at x fs r ++ rest) ≡ (asks r, right_due r)
assign-tells classes scope at x [] r rest h =
    let ops = right_code classes scope at r in
    ap tells (append_assoc ops (assign_op scope x ∷ pace_code r) rest)
    ∙ right-tells classes scope at r (assign_op scope x ∷ (pace_code r ++ rest))
    (assign-op-tells scope x (pace_code r ++ rest) ∙ pace-tells r rest h)
assign-tells classes scope at x (f ∷ fs) r rest h =
    let holder = holder_code classes scope x f fs ++ i.Check ∷ [] in
    let ops = right_code classes scope (at + length holder) r in
    let last = i.Put (held_number classes scope x f fs) ∷ pace_code r in
    ap tells (append_assoc holder (ops ++ last) rest) ∙ plain-check classes scope x (all_but_last f fs) ((ops ++ last) ++ rest)
    ∙ ap tells (append_assoc ops last rest)
    ∙ right-tells classes scope (at + length holder) r (last ++ rest) (pace-tells r rest h)

element-tells : (classes : List Class) (scope : Scope) (at : ℕ) (q : Path) (e : Expr) (r : Right) (rest : List Op) → tells rest ≡ nothing
    → tells (assign_element_code classes scope at q e r ++ rest) ≡ (asks r, right_due r)
element-tells classes scope at q e r rest h =
    let array = path_code classes scope q.base q.fields ++ i.Check ∷ [] in
    let index = expr_code classes scope (at + length array) e ++ i.Bound ∷ [] in
    let ops = right_code classes scope (at + length array + length index) r in
    let last = i.PutElement ∷ pace_code r in
    ap tells (append_assoc array (index ++ (ops ++ last)) rest) ∙ plain-check classes scope q.base q.fields ((index ++ (ops ++ last)) ++ rest)
    ∙ ap tells (append_assoc index (ops ++ last) rest) ∙ plain-index classes scope (at + length array) e ((ops ++ last) ++ rest)
    ∙ ap tells (append_assoc ops last rest)
    ∙ right-tells classes scope (at + length array + length index) r (last ++ rest) (pace-tells r rest h)

-- statements

quiet-tells : (code : List Op) (at line : ℕ) (ops : List Op) (answer : Truth × Option Cause) → Stands code at (i.Mark line ∷ ops)
    → ((rest : List Op) → tells rest ≡ nothing → tells (ops ++ rest) ≡ answer) → tells (drop (at + length (i.Mark line ∷ ops)) code) ≡ nothing
    → tells (drop (at + 1) code) ≡ answer
quiet-tells code at line ops answer h go ends = ap tells (behind_first code at (i.Mark line) ops h)
    ∙ go (drop (at + length (i.Mark line ∷ ops)) code) ends

-- a test, behind which a block begins or is passed over
test-tells : (classes : List Class) (scope : Scope) (at to inside line : ℕ) (e : Expr) (b : Block) (closing rest : List Op)
    → tells ((whole_code classes scope at e ++ i.JumpFalse to ∷ (block_code classes scope inside b ++ i.Mark line ∷ closing)) ++ rest) ≡ nothing
test-tells classes scope at to inside line e b closing rest =
    let whole = whole_code classes scope at e in
    let block = block_code classes scope inside b in
    let more = block ++ i.Mark line ∷ closing in
    ap tells (append_assoc whole (i.JumpFalse to ∷ more) rest) ∙ plain-whole classes scope at e (i.JumpFalse to ∷ (more ++ rest))
    ∙ tells-mark (more ++ rest) (ap (λ l. is_mark (slice_get l 0)) (append_assoc block (i.Mark line ∷ closing) rest)
    ∙ block_starts classes scope inside line b (closing ++ rest))

holder-tells : (classes : List Class) (scope : Scope) (x : Variable) (fs : List Name) (o : Op) (rest : List Op) → tells (o ∷ rest) ≡ nothing
    → tells ((path_code classes scope x fs ++ o ∷ []) ++ rest) ≡ nothing
holder-tells classes scope x fs o rest h = ap tells (append_assoc (path_code classes scope x fs) (o ∷ []) rest)
    ∙ plain-path classes scope x fs (o ∷ rest) ∙ h

swap-tells : (classes : List Class) (scope : Scope) (y : Name) (x : Variable) (fs : List Name) (rest : List Op) → tells rest ≡ nothing
    → tells (swap_code classes scope y x fs ++ rest) ≡ nothing
swap-tells classes scope y x [] rest h = h
swap-tells classes scope y x (f ∷ fs) rest h =
    let path = holder_code classes scope x f fs in
    ap tells (append_assoc path (i.Check ∷ i.Swap (slot_of scope (Some y)) (held_number classes scope x f fs) ∷ []) rest)
    ∙ plain-path classes scope x (all_but_last f fs) (i.Check ∷ i.Swap (slot_of scope (Some y)) (held_number classes scope x f fs) ∷ rest) ∙ h

enter-tells : (classes : List Class) (scope : Scope) (x : Variable) (fs : List Name) (rest : List Op) → tells rest ≡ nothing
    → tells (enter_code classes scope x fs ++ rest) ≡ nothing
enter-tells classes scope x [] rest h = h
enter-tells classes scope x (f ∷ fs) rest h = holder-tells classes scope x (all_but_last f fs)
    (i.EnterField (held_number classes scope x f fs) (length scope)) rest h

pub kind-tells : (classes : List Class) (code : List Op) (scope : Scope) (at line : ℕ) (k : StmtKind)
    → Stands code at (kind_code classes scope at line k)
    → (is_return k ≡ false → tells (drop (at + length (kind_code classes scope at line k)) code) ≡ nothing)
    → tells (drop (at + 1) code) ≡ (kind_asks k, written_due k)
kind-tells classes code scope at line (declare x t r) h ends =
    let ops = right_code classes scope (at + 1) r in
    quiet-tells code at line (ops ++ i.Store (length scope) ∷ pace_code r) (asks r, right_due r) h
    (λ rest e. ap tells (append_assoc ops (i.Store (length scope) ∷ pace_code r) rest)
    ∙ right-tells classes scope (at + 1) r (i.Store (length scope) ∷ (pace_code r ++ rest)) (pace-tells r rest e)) (ends refl)
kind-tells classes code scope at line (assign p r) h ends =
    quiet-tells code at line (assign_code classes scope (at + 1) p.base p.fields r) (asks r, right_due r) h
    (assign-tells classes scope (at + 1) p.base p.fields r) (ends refl)
kind-tells classes code scope at line (assign_element q e r) h ends =
    quiet-tells code at line (assign_element_code classes scope (at + 1) q e r) (asks r, right_due r) h (element-tells classes scope (at + 1) q e r)
    (ends refl)
kind-tells classes code scope at line (call c) h ends =
    let ops = call_code classes scope (at + 1) c in
    let dropped = dropped_code (call_result classes scope c) in
    quiet-tells code at line (ops ++ dropped) nothing h (λ rest e. ap tells (append_assoc ops dropped rest)
    ∙ call-tells classes scope (at + 1) c (dropped ++ rest)) (ends refl)
kind-tells classes code scope at line (swap y p) h ends = quiet-tells code at line (swap_code classes scope y p.base p.fields) nothing h
    (swap-tells classes scope y p.base p.fields) (ends refl)
kind-tells classes code scope at line (branch e b no_else) h ends =
    let inside = at + 1 + length (whole_code classes scope (at + 1) e) + 1 in
    quiet-tells code at line _ nothing h (λ rest c. test-tells classes scope (at + 1) (inside + length (block_code classes scope inside b) + 2) inside
    line e b (i.End (length scope) ∷ []) rest) (ends refl)
kind-tells classes code scope at line (branch e b (otherwise c)) h ends =
    let inside = at + 1 + length (whole_code classes scope (at + 1) e) + 1 in
    let end = inside + length (block_code classes scope inside b) + 2 in
    quiet-tells code at line _ nothing h (λ rest d. test-tells classes scope (at + 1) (inside + length (block_code classes scope inside b) + 3) inside
    line e b (i.End (length scope) ∷ else_code classes scope end line (otherwise c)) rest) (ends refl)
kind-tells classes code scope at line (while e b) h ends =
    let inside = at + 1 + length (whole_code classes scope (at + 1) e) + 1 in
    quiet-tells code at line _ nothing h (λ rest c. test-tells classes scope (at + 1) (inside + length (block_code classes scope inside b) + 3) inside
    line e b (i.End (length scope) ∷ i.Jump at ∷ []) rest) (ends refl)
kind-tells classes code scope at line (enter p z b giving) h ends =
    let front = enter_code classes scope p.base p.fields in
    let within = scope_inside classes scope p z in
    let block = block_code classes within (at + 1 + length front) b in
    let leaves = leave_op (scope_at_end classes within b) (length scope) giving in
    let closing = i.Mark line ∷ leaves ∷ [] in
    quiet-tells code at line (front ++ (block ++ closing)) nothing h
    (λ rest c. ap tells (append_assoc front (block ++ closing) rest) ∙ enter-tells classes scope p.base p.fields ((block ++ closing) ++ rest)
    (tells-mark ((block ++ closing) ++ rest) (ap (λ l. is_mark (slice_get l 0)) (append_assoc block closing rest)
    ∙ block_starts classes within (at + 1 + length front) line b (leaves ∷ rest)))) (ends refl)
kind-tells classes code scope at line (print e) h ends =
    let whole = whole_code classes scope (at + 1) e in
    quiet-tells code at line (whole ++ i.Print ∷ []) nothing h
    (λ rest c. ap tells (append_assoc whole (i.Print ∷ []) rest) ∙ plain-whole classes scope (at + 1) e (i.Print ∷ rest) ∙ c) (ends refl)
kind-tells classes code scope at line collect h ends =
    quiet-tells code at line (i.Collect ∷ []) (false, Some Asked) h (λ rest c. ap (λ q. (q.0, Some Asked)) c) (ends refl)
kind-tells classes code scope at line (return e) h ends =
    let whole = whole_code classes scope (at + 1) e in
    let tail = drop (at + length (i.Mark line ∷ whole ++ i.Ret ∷ [])) code in
    ap tells (behind_first code at (i.Mark line) (whole ++ i.Ret ∷ []) h ∙ append_assoc whole (i.Ret ∷ []) tail)
    ∙ plain-whole classes scope (at + 1) e (i.Ret ∷ tail)
