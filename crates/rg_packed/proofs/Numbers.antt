-- The numbers in the code of a program have spellings, those of slots and addresses aside, where its lines, numbers and parts are bounded.
use Rattle.std.proofs.Common.{sym, subst, ℕ, ℤ, pos, negsuc, suc, ◌+◌, ◌<◌, ◌≤◌, ◌^◌, Bool as Truth, true, false, if◌then◌else◌, bytes_eq}
use Rattle.std.proofs.Common.{List, [], ◌∷◌, ◌++◌, length, All, Option, Some, None, option_map, option_to_list, unwrap_or, unsigned_abs, arith}
use Rattle.std.proofs.lemmas.Int.{ints}
use Rattle.std.proofs.lemmas.List.Elements.{All-head, All-tail}
use Rattle.std.specs.List.{AllByRecursion}
use Rattle.std.specs.Int.{w64}
use Rattle.std.specs.Int.RustNames.{FitsSigned}
use Rattle.rg_base.specs.declared.limits.TheConstants.{GREATEST_NUMBER}
use Rattle.rg_base.specs.declared.ty.Ty.{Ty}
use Rattle.rg_base.specs.declared.ty.Ty.TheVariants as ty
use Rattle.rg_tree.specs.declared.rows.BinOp.{BinOp}
use Rattle.rg_tree.specs.declared.rows.BinOp.TheVariants as op
use Rattle.rg_tree.specs.Tree.{Name, Variable, Ty as Written, Path, Expr, number, boolean, nil, path, is_nil, neg, not, binary, size, element, Call}
use Rattle.rg_tree.specs.Tree.{Right, value, new, new_tmp, new_iso, freeze, merge, read, more, result_of, stmt, StmtKind, declare, assign}
use Rattle.rg_tree.specs.Tree.{assign_element, call, swap, branch, while, enter, print, collect, return, Else, no_else, otherwise}
use Rattle.rg_tree.specs.Tree.{Block, empty as none, then as next, Field, Method, Member, field, method, Class}
use Rattle.rg_rules.specs.Capabilities.{is_iso}
use Rattle.rg_rules.specs.Paths.{all_but_last, last_field}
use Rattle.rg_rules.specs.Types.{class_number, field_place, fields_of}
use Rattle.rg_limits.specs.Each.{right_exprs, HoldsWithin, HoldsBehind, HoldsInBlock, HoldsInMember}
use Rattle.rg_limits.specs.Numbers.{HasSmall, HasOwnSmall}
use Rattle.rg_code.specs.declared.op.Op.{Op}
use Rattle.rg_code.specs.declared.op.Op.TheVariants as i
use Rattle.rg_code.specs.declared.operands.Operand.{Operand}
use Rattle.rg_code.specs.declared.operands.Operand.TheVariants as p
use Rattle.rg_code.specs.Operands.{operands_of}
use Rattle.rg_code.specs.Lowering.{Scope, slot_of, type_in, type_behind, type_along, field_number, fields_code, path_code, holder_code, held_number}
use Rattle.rg_code.specs.Lowering.{gap, operator_code, expr_code, exprs_code, used_slots, used_by_all, clears, whole_code, number_called}
use Rattle.rg_code.specs.Lowering.{target_class}
use Rattle.rg_code.specs.Lowering.{call_code, call_result, new_code, right_code, pace_code, assign_op, dropped_code, scope_behind, scope_inside}
use Rattle.rg_code.specs.Lowering.{assign_code, assign_element_code, swap_code, enter_code, scope_at_end, leave_op, kind_code, else_code, block_code}
use Rattle.rg_code.specs.Lowering.{else_gap, method_scope, method_end_code, method_code, Methods, members_code, methods_code}
use Rattle.rg_packed.proofs.Lined.{IsLinedKind, IsLinedElse, IsLinedBlock, IsLinedMember, HasLinedMembers, IsLinedClass}

-- what the bytes of a module ask of an operand, if it is no slot and no address
abbrev pub FitsAside : Operand → Type 0
FitsAside (p.Line n) = n < 2 ^ 64
FitsAside (p.Int z) = FitsSigned w64 z
FitsAside (p.Bool b) = Unit {0}
FitsAside (p.Slot s) = Unit {0}
FitsAside (p.From s) = Unit {0}
FitsAside (p.Field k) = k < 2 ^ 32
FitsAside (p.Class c) = c < 2 ^ 32
FitsAside (p.Method m) = m < 2 ^ 32
FitsAside (p.Address t) = Unit {0}
FitsAside (p.Manager m) = Unit {0}

-- of an instruction
abbrev pub Aside : Op → Type 0
Aside o = AllByRecursion FitsAside (operands_of o)

abbrev pub AreAside : List Op → Type 0
AreAside ops = AllByRecursion Aside ops

pub aside-then : (a b : List Op) → AreAside a → AreAside b → AreAside (a ++ b)
aside-then [] b h g = g
aside-then (o ∷ os) b h g = (h.0, aside-then os b h.1 g)

-- Numbers by themselves

small-fits : (z : ℤ) → unsigned_abs z ≤ GREATEST_NUMBER → FitsSigned w64 z
small-fits (pos n) h = grind (arith, ints)
small-fits (negsuc n) h = grind (arith, ints)

place_by : (b : Truth) (o : Option ℕ) (n : ℕ) → unwrap_or o 0 ≤ n → unwrap_or (if b then Some 0 else option_map suc o) 0 ≤ suc n
place_by true o n h = omega arith
place_by false None n h = omega arith
place_by false (Some k) n h = omega (arith, h)

place-within : (fs : List Field) (x : Name) → unwrap_or (field_place fs x) 0 ≤ length fs
place-within [] x = omega arith
place-within (f ∷ fs) x = place_by (bytes_eq f.name x) (field_place fs x) (length fs) (place-within fs x)

-- What bounds the numbers of a program's parts: classes, the fields of each, the methods that are called, and the lines of marks.
pub record AreBounded (cs : List Class) (most : ℕ) : Type 0 where
  pub classes : (x : Name) → class_number cs x < 2 ^ 32
  pub fields : (c : ℕ) → length (fields_of cs c) < 2 ^ 32
  pub methods : (c : ℕ) (x : Name) → number_called cs c x < 2 ^ 32
  pub lines : most < 2 ^ 64

module _ (cs : List Class) (most : ℕ) (few : AreBounded cs most) where
  field-few : (t : Ty) (f : Name) → field_number cs t f < 2 ^ 32
  field-few ty.Int f = omega arith
  field-few ty.Bool f = omega arith
  field-few (ty.Ref cap c) f =
      let w = place-within (fields_of cs c) f in let l = few.fields c in omega (arith, w, l)

  held-few : (sc : Scope) (x : Variable) (f : Name) (fs : List Name) → held_number cs sc x f fs < 2 ^ 32
  held-few sc x f fs = field-few (type_along cs (type_in sc x) (all_but_last f fs)) (last_field f fs)

  pub mark-aside : (line : ℕ) → line ≤ most → Aside (i.Mark line)
  mark-aside line h = let l = few.lines in (omega (arith, h, l), tt)

  -- Paths and expressions

  clears-aside : (ss : List ℕ) → AreAside (clears ss)
  clears-aside [] = tt
  clears-aside (s ∷ ss) = ((tt, tt), clears-aside ss)

  fields-aside : (t : Ty) (fs : List Name) → AreAside (fields_code cs t fs)
  fields-aside t [] = tt
  fields-aside t (f ∷ fs) = ((field-few t f, tt), fields-aside (type_behind cs t f) fs)

  path-aside : (sc : Scope) (x : Variable) (fs : List Name) → AreAside (path_code cs sc x fs)
  path-aside sc x fs = ((tt, tt), fields-aside (type_in sc x) fs)

  checked-aside : (sc : Scope) (x : Variable) (fs : List Name) → AreAside (path_code cs sc x fs ++ i.Check ∷ [])
  checked-aside sc x fs = aside-then (path_code cs sc x fs) (i.Check ∷ []) (path-aside sc x fs) (tt, tt)

  operator-aside : (o : BinOp) (to : ℕ) (right : List Op) → AreAside right → AreAside (operator_code o to right)
  operator-aside op.Or to right h = ((tt, tt), h)
  operator-aside op.And to right h = ((tt, tt), h)
  operator-aside op.Eq to right h = aside-then right (i.Eq ∷ []) h (tt, tt)
  operator-aside op.Ne to right h = aside-then right (i.Ne ∷ []) h (tt, tt)
  operator-aside op.Lt to right h = aside-then right (i.Lt ∷ []) h (tt, tt)
  operator-aside op.Le to right h = aside-then right (i.Le ∷ []) h (tt, tt)
  operator-aside op.Gt to right h = aside-then right (i.Gt ∷ []) h (tt, tt)
  operator-aside op.Ge to right h = aside-then right (i.Ge ∷ []) h (tt, tt)
  operator-aside op.Add to right h = aside-then right (i.Add ∷ []) h (tt, tt)
  operator-aside op.Sub to right h = aside-then right (i.Sub ∷ []) h (tt, tt)
  operator-aside op.Mul to right h = aside-then right (i.Mul ∷ []) h (tt, tt)
  operator-aside op.Div to right h = aside-then right (i.Div ∷ []) h (tt, tt)
  operator-aside op.Rem to right h = aside-then right (i.Rem ∷ []) h (tt, tt)

  expr-aside : (sc : Scope) (at : ℕ) (e : Expr) → HasSmall e → AreAside (expr_code cs sc at e)
  expr-aside sc at (number z) h = ((small-fits z h, tt), tt)
  expr-aside sc at (boolean b) h = ((tt, tt), tt)
  expr-aside sc at nil h = (tt, tt)
  expr-aside sc at (path q) h = path-aside sc q.base q.fields
  expr-aside sc at (is_nil q) h = aside-then (path_code cs sc q.base q.fields) (i.IsNil ∷ []) (path-aside sc q.base q.fields) (tt, tt)
  expr-aside sc at (size q) h = aside-then (path_code cs sc q.base q.fields) (i.Size ∷ []) (path-aside sc q.base q.fields) (tt, tt)
  expr-aside sc at (element q e) h =
      let array = path_code cs sc q.base q.fields ++ i.Check ∷ [] in
      let index = expr_code cs sc (at + length array) e in
      let last = i.Bound ∷ i.Element ∷ [] in
      aside-then array (index ++ last) (checked-aside sc q.base q.fields)
      (aside-then index last (expr-aside sc (at + length array) e h) (tt, (tt, tt)))
  expr-aside sc at (neg a) h = aside-then (expr_code cs sc at a) (i.Neg ∷ []) (expr-aside sc at a h) (tt, tt)
  expr-aside sc at (not a) h = aside-then (expr_code cs sc at a) (i.Not ∷ []) (expr-aside sc at a h) (tt, tt)
  expr-aside sc at (binary o a b) h =
      let left = expr_code cs sc at a in
      let middle = at + length left + gap o in
      let right = expr_code cs sc middle b in
      let to = middle + length right in
      aside-then left (operator_code o to right) (expr-aside sc at a h.0) (operator-aside o to right (expr-aside sc middle b h.1))

  exprs-aside : (sc : Scope) (at : ℕ) (es : List Expr) → AllByRecursion HasSmall es → AreAside (exprs_code cs sc at es)
  exprs-aside sc at [] h = tt
  exprs-aside sc at (e ∷ es) h =
      let first = expr_code cs sc at e in
      let rest = exprs_code cs sc (at + length first) es in
      aside-then first rest (expr-aside sc at e h.0) (exprs-aside sc (at + length first) es h.1)

  whole-aside : (sc : Scope) (at : ℕ) (e : Expr) → HasSmall e → AreAside (whole_code cs sc at e)
  whole-aside sc at e h =
      aside-then (expr_code cs sc at e) (clears (used_slots sc e)) (expr-aside sc at e h) (clears-aside (used_slots sc e))

  -- Calls and right sides

  call-aside : (sc : Scope) (at : ℕ) (c : Call) → AllByRecursion HasSmall c.args → AreAside (call_code cs sc at c)
  call-aside sc at c h =
      let receiver = path_code cs sc c.target.base c.target.fields ++ i.Check ∷ [] in
      let args = exprs_code cs sc (at + length receiver) c.args in
      let used = clears (used_by_all sc c.args) in
      let last = i.Call (number_called cs (target_class cs sc c) c.method) ∷ [] in
      let behind = i.Room ∷ (used ++ last) in
      aside-then receiver (args ++ behind) (checked-aside sc c.target.base c.target.fields)
      (aside-then args behind (exprs-aside sc (at + length receiver) c.args h)
      (tt, aside-then used last (clears-aside (used_by_all sc c.args)) ((few.methods (target_class cs sc c) c.method, tt), tt)))

  new-aside : (sc : Scope) (at : ℕ) (object array : Op) (n : Option Expr) → Aside object → Aside array → AllByRecursion HasSmall (option_to_list n) →
      AreAside (new_code cs sc at object array n)
  new-aside sc at object array None o a h = (o, tt)
  new-aside sc at object array (Some e) o a h = aside-then (expr_code cs sc at e) (array ∷ []) (expr-aside sc at e h.0) (a, tt)

  right-aside : (sc : Scope) (at : ℕ) (r : Right) → AllByRecursion HasSmall (right_exprs r) → AreAside (right_code cs sc at r)
  right-aside sc at (value e) h = whole-aside sc at e h.0
  right-aside sc at (new x n) h =
      new-aside sc at (i.New (class_number cs x)) (i.NewArray (class_number cs x)) n (few.classes x, tt) (few.classes x, tt) h
  right-aside sc at (new_tmp x n) h =
      new-aside sc at (i.NewTmp (class_number cs x)) (i.NewTmpArray (class_number cs x)) n (few.classes x, tt) (few.classes x, tt) h
  right-aside sc at (new_iso x n m) h =
      new-aside sc at (i.NewIso (class_number cs x) m) (i.NewIsoArray (class_number cs x) m) n (few.classes x, (tt, tt)) (few.classes x, (tt, tt)) h
  right-aside sc at (freeze y) h = ((tt, tt), tt)
  right-aside sc at (merge y) h = ((tt, tt), tt)
  right-aside sc at read h = (tt, tt)
  right-aside sc at more h = (tt, tt)
  right-aside sc at (result_of c) h = call-aside sc at c h

  pace-aside : (r : Right) → AreAside (pace_code r)
  pace-aside (new x n) = (tt, tt)
  pace-aside _ = tt

  behind_right-aside : (sc : Scope) (at : ℕ) (r : Right) (o : Op) → Aside o → AllByRecursion HasSmall (right_exprs r) →
      AreAside (right_code cs sc at r ++ o ∷ pace_code r)
  behind_right-aside sc at r o g h = aside-then (right_code cs sc at r) (o ∷ pace_code r) (right-aside sc at r h) (g, pace-aside r)

  assign_op-aside : (b : Truth) (s : ℕ) → Aside (if b then i.Own s else i.Store s)
  assign_op-aside true s = (tt, tt)
  assign_op-aside false s = (tt, tt)

  iso-aside : (b : Truth) → AreAside (if b then i.Drop ∷ [] else i.Pop ∷ [])
  iso-aside true = (tt, tt)
  iso-aside false = (tt, tt)

  dropped-aside : (t : Option Ty) → AreAside (dropped_code t)
  dropped-aside None = tt
  dropped-aside (Some t) = iso-aside (is_iso t)

  -- Statements

  assign-aside : (sc : Scope) (at : ℕ) (x : Variable) (fs : List Name) (r : Right) → AllByRecursion HasSmall (right_exprs r) →
      AreAside (assign_code cs sc at x fs r)
  assign-aside sc at x [] r h = behind_right-aside sc at r (assign_op sc x) (assign_op-aside (is_iso (type_in sc x)) (slot_of sc x)) h
  assign-aside sc at x (f ∷ fs) r h =
      let holder = holder_code cs sc x f fs ++ i.Check ∷ [] in
      let put = i.Put (held_number cs sc x f fs) in
      aside-then holder (right_code cs sc (at + length holder) r ++ put ∷ pace_code r) (checked-aside sc x (all_but_last f fs))
      (behind_right-aside sc (at + length holder) r put (held-few sc x f fs, tt) h)

  assign_element-aside : (sc : Scope) (at : ℕ) (q : Path) (e : Expr) (r : Right) → HasSmall e → AllByRecursion HasSmall (right_exprs r) →
      AreAside (assign_element_code cs sc at q e r)
  assign_element-aside sc at q e r g h =
      let array = path_code cs sc q.base q.fields ++ i.Check ∷ [] in
      let place = expr_code cs sc (at + length array) e in
      let index = place ++ i.Bound ∷ [] in
      let last = right_code cs sc (at + length array + length index) r ++ i.PutElement ∷ pace_code r in
      aside-then array (index ++ last) (checked-aside sc q.base q.fields)
      (aside-then index last (aside-then place (i.Bound ∷ []) (expr-aside sc (at + length array) e g) (tt, tt))
      (behind_right-aside sc (at + length array + length index) r i.PutElement tt h))

  swap-aside : (sc : Scope) (y : Name) (x : Variable) (fs : List Name) → AreAside (swap_code cs sc y x fs)
  swap-aside sc y x [] = tt
  swap-aside sc y x (f ∷ fs) =
      aside-then (holder_code cs sc x f fs) (i.Check ∷ i.Swap (slot_of sc (Some y)) (held_number cs sc x f fs) ∷ [])
      (path-aside sc x (all_but_last f fs)) (tt, ((tt, (held-few sc x f fs, tt)), tt))

  enter-aside : (sc : Scope) (x : Variable) (fs : List Name) → AreAside (enter_code cs sc x fs)
  enter-aside sc x [] = ((tt, (tt, tt)), tt)
  enter-aside sc x (f ∷ fs) =
      aside-then (holder_code cs sc x f fs) (i.EnterField (held_number cs sc x f fs) (length sc) ∷ []) (path-aside sc x (all_but_last f fs))
      ((held-few sc x f fs, (tt, tt)), tt)

  leave-aside : (sc : Scope) (s : ℕ) (w : Option Name) → Aside (leave_op sc s w)
  leave-aside sc s None = (tt, tt)
  leave-aside sc s (Some w) = (tt, (tt, tt))

  mutual
    kind-aside : (sc : Scope) (at line : ℕ) (k : StmtKind) → line ≤ most → HasOwnSmall k × HoldsWithin HasOwnSmall k → IsLinedKind most k →
        AreAside (kind_code cs sc at line k)
    kind-aside sc at line (declare x t r) l h g =
        (mark-aside line l, behind_right-aside sc (at + 1) r (i.Store (length sc)) (tt, tt) h.0)
    kind-aside sc at line (assign q r) l h g = (mark-aside line l, assign-aside sc (at + 1) q.base q.fields r h.0)
    kind-aside sc at line (assign_element q e r) l h g = (mark-aside line l, assign_element-aside sc (at + 1) q e r h.0.0 h.0.1)
    kind-aside sc at line (call c) l h g = (
      mark-aside line l,
      aside-then (call_code cs sc (at + 1) c) (dropped_code (call_result cs sc c)) (call-aside sc (at + 1) c h.0)
          (dropped-aside (call_result cs sc c)),
    )
    kind-aside sc at line (swap y q) l h g = (mark-aside line l, swap-aside sc y q.base q.fields)
    kind-aside sc at line (branch e b other) l h g =
        let test = whole_code cs sc (at + 1) e in
        let inside = at + 1 + length test + 1 in
        let block = block_code cs sc inside b in
        let behind = else_code cs sc (inside + length block + 2) line other in
        let ended = i.Mark line ∷ i.End (length sc) ∷ behind in (
          mark-aside line l,
          aside-then test (i.JumpFalse (inside + length block + else_gap other) ∷ (block ++ ended)) (whole-aside sc (at + 1) e h.0.0) (
            (tt, tt),
            aside-then block ended (block-aside sc inside b h.1.0 g.0)
                (mark-aside line l, ((tt, tt), else-aside sc (inside + length block + 2) line other l h.1.1 g.1)),
          ),
        )
    kind-aside sc at line (while e b) l h g =
        let test = whole_code cs sc (at + 1) e in
        let inside = at + 1 + length test + 1 in
        let block = block_code cs sc inside b in
        let ended = i.Mark line ∷ i.End (length sc) ∷ i.Jump at ∷ [] in (
          mark-aside line l,
          aside-then test (i.JumpFalse (inside + length block + 3) ∷ (block ++ ended)) (whole-aside sc (at + 1) e h.0.0) (
            (tt, tt),
            aside-then block ended (block-aside sc inside b h.1 g) (mark-aside line l, ((tt, tt), ((tt, tt), tt))),
          ),
        )
    kind-aside sc at line (enter q z b giving) l h g =
        let front = enter_code cs sc q.base q.fields in
        let inside = scope_inside cs sc q z in
        let block = block_code cs inside (at + 1 + length front) b in
        let last = i.Mark line ∷ leave_op (scope_at_end cs inside b) (length sc) giving ∷ [] in (
          mark-aside line l,
          aside-then front (block ++ last) (enter-aside sc q.base q.fields)
              (aside-then block last (block-aside inside (at + 1 + length front) b h.1 g)
              (mark-aside line l, (leave-aside (scope_at_end cs inside b) (length sc) giving, tt))),
        )
    kind-aside sc at line (print e) l h g =
        (mark-aside line l, aside-then (whole_code cs sc (at + 1) e) (i.Print ∷ []) (whole-aside sc (at + 1) e h.0.0) (tt, tt))
    kind-aside sc at line collect l h g = (mark-aside line l, (tt, tt))
    kind-aside sc at line (return e) l h g =
        (mark-aside line l, aside-then (whole_code cs sc (at + 1) e) (i.Ret ∷ []) (whole-aside sc (at + 1) e h.0.0) (tt, tt))

    else-aside : (sc : Scope) (at line : ℕ) (other : Else) → line ≤ most → HoldsBehind HasOwnSmall other → IsLinedElse most other →
        AreAside (else_code cs sc at line other)
    else-aside sc at line no_else l h g = tt
    else-aside sc at line (otherwise b) l h g = (
      (tt, tt),
      aside-then (block_code cs sc (at + 1) b) (i.Mark line ∷ i.End (length sc) ∷ []) (block-aside sc (at + 1) b h g)
          (mark-aside line l, ((tt, tt), tt)),
    )

    pub block-aside : (sc : Scope) (at : ℕ) (b : Block) → HoldsInBlock HasOwnSmall b → IsLinedBlock most b → AreAside (block_code cs sc at b)
    block-aside sc at none h g = tt
    block-aside sc at (next (stmt line k) b) h g =
        let first = kind_code cs sc at line k in
        let behind = scope_behind cs sc k in
        aside-then first (block_code cs behind (at + length first) b) (kind-aside sc at line k g.0 h.0 g.1)
        (block-aside behind (at + length first) b h.1 g.2)

  -- Methods

  method_end-aside : (line : ℕ) (result : Option Written) → line ≤ most → AreAside (method_end_code line result)
  method_end-aside line None l = (mark-aside line l, (tt, tt))
  method_end-aside line (Some t) l = tt

  method-aside : (at c : ℕ) (m : Method) → HoldsInBlock HasOwnSmall m.body → IsLinedMember most (method m) → AreAside (method_code cs at c m)
  method-aside at c m h g =
      aside-then (block_code cs (method_scope cs c m) at m.body) (method_end_code m.line m.result)
      (block-aside (method_scope cs c m) at m.body h g.1) (method_end-aside m.line m.result g.0)

  members-aside : (at c : ℕ) (ms : List Member) (go : ℕ → Methods) → All (HoldsInMember HasOwnSmall) ms → AllByRecursion (IsLinedMember most) ms →
      ((behind : ℕ) → AreAside (go behind).ops) → AreAside (members_code cs at c ms go).ops
  members-aside at c [] go h g rest = rest at
  members-aside at c (field f ∷ ms) go h g rest = members-aside at c ms go (All-tail (HoldsInMember HasOwnSmall) (field f) ms h) g.1 rest
  members-aside at c (method m ∷ ms) go h g rest =
      let own = method_code cs at c m in
      aside-then own (members_code cs (at + length own) c ms go).ops
      (method-aside at c m (All-head (HoldsInMember HasOwnSmall) (method m) ms h) g.0)
      (members-aside (at + length own) c ms go (All-tail (HoldsInMember HasOwnSmall) (method m) ms h) g.1 rest)

  members-lined : (o : Option Written) (ms : List Member) → HasLinedMembers most o ms → AllByRecursion (IsLinedMember most) ms
  members-lined None ms h = h
  members-lined (Some t) ms h = subst (AllByRecursion (IsLinedMember most)) (sym h) tt

  pub methods-aside : (at c : ℕ) (ks : List Class) → All (λ (k : Class). All (HoldsInMember HasOwnSmall) k.members) ks →
      AllByRecursion (IsLinedClass most) ks → AreAside (methods_code cs at c ks).ops
  methods-aside at c [] h g = tt
  methods-aside at c (k ∷ ks) h g =
      let P : Class → Type 0 = λ (d : Class). All (HoldsInMember HasOwnSmall) d.members in
      members-aside at c k.members (λ behind. methods_code cs behind (suc c) ks) (All-head P k ks h) (members-lined k.element k.members g.0)
      (λ behind. methods-aside behind (suc c) ks (All-tail P k ks h) g.1)
