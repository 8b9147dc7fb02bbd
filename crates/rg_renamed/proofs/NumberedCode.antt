-- Bodies have the code of their blocks with numbers, whatever names they have; but for a `swap` whose path has no field, which isn't accepted.
use Rattle.std.proofs.Common.{◌≡◌, refl, sym, ap, ◌∙◌, ℕ, suc, ◌+◌, if◌then◌else◌, Bool as Truth, false, true, List, [], ◌∷◌, ◌++◌, map, length}
use Rattle.std.proofs.Common.{Option, Some, None, option_map, append_assoc, arith}
use Rattle.std.proofs.lemmas.List.{length-append, length-map, map-append}
use Rattle.rg_base.specs.declared.words.Cap.TheVariants as cap
use Rattle.rg_base.specs.declared.ty.Ty.{Ty}
use Rattle.rg_base.specs.declared.ty.Ty.TheVariants as ty
use Rattle.rg_tree.specs.Tree.{Name, Variable, Path, Expr, number, boolean, nil, path, is_nil, neg, not, binary, size, element, Call, Right, value}
use Rattle.rg_tree.specs.Tree.{new, new_tmp, new_iso, freeze, merge, read, more, result_of, stmt, StmtKind, declare, assign, assign_element, call}
use Rattle.rg_tree.specs.Tree.{swap}
use Rattle.rg_tree.specs.Tree.{branch, while, enter, print, collect, return, Else, no_else, otherwise, Block, empty, then as next, Class}
use Rattle.rg_rules.specs.Capabilities.{is_iso}
use Rattle.rg_rules.specs.Types.{class_number, type_of, methods_of}
use Rattle.rg_rules.specs.Environment.{same_variable}
use Rattle.rg_rules.specs.Paths.{all_but_last}
use Rattle.rg_code.specs.declared.op.Op.{Op}
use Rattle.rg_code.specs.declared.op.Op.TheVariants as i
use Rattle.rg_code.specs.Lowering.{Scope, Slot, with_slot, slot_of, type_in, type_behind, fields_code, path_code, gap, operator_code, expr_code}
use Rattle.rg_code.specs.Lowering.{exprs_code, used_path, used_slots, used_by_all, clears, whole_code, number_called, target_class, call_code}
use Rattle.rg_code.specs.Lowering.{call_result, new_code, right_code, pace_code, assign_op as assigned, dropped_code, scope_behind, scope_inside}
use Rattle.rg_code.specs.Lowering.{assign_code, assign_element_code, swap_code, enter_code, scope_at_end, leave_op as leaves, kind_code, else_code}
use Rattle.rg_code.specs.Lowering.{block_code, field_number, else_gap as gap_behind, held_number, class_of, type_along}
use Rattle.rg_verify_expressions.specs.Raised.{path_ops, holder_ops, place_ops, ops_of, all_ops}
use Rattle.rg_verify_expressions.specs.Statements as numbers
use Rattle.rg_verify_expressions.specs.Statements.{type_at, used_by_path, used, all_used, types_behind, types_inside, whole_ops, call_ops, new_ops, right_ops}
use Rattle.rg_verify_expressions.specs.Statements.{pace_ops, assign_op, leave_op, else_gap, kind_ops, else_ops, block_ops}
use Rattle.rg_verify_expressions.specs.Found.{types_of}
use Rattle.rg_numbered.specs.Numbered.{field_numbers, path_numbers, numbered, numbered_call, numbered_right, numbered_assign, numbered_swap}
use Rattle.rg_numbered.specs.Numbered.{bridge_class}
use Rattle.rg_numbered.specs.Numbered.{numbered_enter, giving_slot, numbered_kind, numbered_else, numbered_block}

-- Each `swap` has a field
abbrev mutual
  pub KindSwaps : StmtKind → Type 0
  KindSwaps (declare x t r) = Unit {0}
  KindSwaps (assign p r) = Unit {0}
  KindSwaps (assign_element q e r) = Unit {0}
  KindSwaps (call c) = Unit {0}
  KindSwaps (swap y p) = p.fields ≡ [] → ⊥
  KindSwaps (branch e b other) = BlockSwaps b × ElseSwaps other
  KindSwaps (while e b) = BlockSwaps b
  KindSwaps (enter p z b giving) = BlockSwaps b
  KindSwaps (print e) = Unit {0}
  KindSwaps collect = Unit {0}
  KindSwaps (return e) = Unit {0}

  pub ElseSwaps : Else → Type 0
  ElseSwaps no_else = Unit {0}
  ElseSwaps (otherwise b) = BlockSwaps b

  pub BlockSwaps : Block → Type 0
  BlockSwaps empty = Unit {0}
  BlockSwaps (next (stmt line k) b) = KindSwaps k × BlockSwaps b

-- the type in the slot of a variable
pub slot-type : (ss : Scope) (x : Variable) → type_at (types_of ss) (slot_of ss x) ≡ type_in ss x
slot-type [] x = refl
slot-type (s ∷ ss) x = by (same_variable s.name x) (slot-type ss x)
  where
    by : (b : Truth) → type_at (types_of ss) (slot_of ss x) ≡ type_in ss x
        → type_at (s.ty ∷ types_of ss) (if b then 0 else suc (slot_of ss x)) ≡ (if b then s.ty else type_in ss x)
    by true h = refl
    by false h = h

more-types : (ss : Scope) (x : Variable) (t : Ty) → types_of (with_slot ss x t) ≡ types_of ss ++ t ∷ []
more-types ss x t = map-append (λ (s : Slot). s.ty) ss (record { name = x; ty = t } ∷ [])

pub types-long : (ss : Scope) → length (types_of ss) ≡ length ss
types-long ss = length-map ss (λ (s : Slot). s.ty)

module _ (cs : List Class) where
  fields-are : (t : Ty) (fs : List Name) → fields_code cs t fs ≡ map i.Field (field_numbers cs t fs)
  fields-are t [] = refl
  fields-are t (f ∷ fs) = ap (λ (os : List Op). i.Field (field_number cs t f) ∷ os) (fields-are (type_behind cs t f) fs)

  path-is : (ss : Scope) (x : Variable) (fs : List Name) → path_code cs ss x fs ≡ path_ops (slot_of ss x) (path_numbers cs ss x fs)
  path-is ss x fs = ap (λ (os : List Op). i.Load (slot_of ss x) ∷ os) (fields-are (type_in ss x) fs)

  -- Expressions

  module _ (ss : Scope) where
    expr-is : (e : Expr) (at : ℕ) → expr_code cs ss at e ≡ ops_of at (numbered cs ss e)
    expr-is (path q) at = path-is ss q.base q.fields
    expr-is (is_nil q) at = ap (λ (os : List Op). os ++ i.IsNil ∷ []) (path-is ss q.base q.fields)
    expr-is (size q) at = ap (λ (os : List Op). os ++ i.Size ∷ []) (path-is ss q.base q.fields)
    expr-is (element q e) at =
        let array = holder_ops (slot_of ss q.base) (path_numbers cs ss q.base q.fields) in
        let index : ℕ → List Op = λ n. expr_code cs ss n e in
        ap (λ (os : List Op). (os ++ i.Check ∷ []) ++ (index (at + length (os ++ i.Check ∷ [])) ++ i.Bound ∷ i.Element ∷ []))
        (path-is ss q.base q.fields)
        ∙ ap (λ (os : List Op). array ++ (os ++ i.Bound ∷ i.Element ∷ [])) (expr-is e (at + length array))
    expr-is (neg a) at = ap (λ (os : List Op). os ++ i.Neg ∷ []) (expr-is a at)
    expr-is (not a) at = ap (λ (os : List Op). os ++ i.Not ∷ []) (expr-is a at)
    expr-is (binary o a b) at =
        let left = ops_of at (numbered cs ss a) in
        let middle : ℕ = at + length left + gap o in
        let right : ℕ → List Op = λ n. expr_code cs ss n b in
        ap (λ (os : List Op). os ++ operator_code o (at + length os + gap o + length (right (at + length os + gap o)))
        (right (at + length os + gap o))) (expr-is a at)
        ∙ ap (λ (os : List Op). left ++ operator_code o (middle + length os) os) (expr-is b middle)
    expr-is (number z) at = refl
    expr-is (boolean b) at = refl
    expr-is nil at = refl

    exprs-are : (es : List Expr) (at : ℕ) → exprs_code cs ss at es ≡ all_ops at (map (numbered cs ss) es)
    exprs-are [] at = refl
    exprs-are (e ∷ es) at =
        let first = ops_of at (numbered cs ss e) in
        ap (λ (os : List Op). os ++ exprs_code cs ss (at + length os) es) (expr-is e at)
        ∙ ap (λ (os : List Op). first ++ os) (exprs-are es (at + length first))

    used-path : (x : Variable) (fs : List Name) →
        used_path ss x fs ≡ used_by_path (types_of ss) (slot_of ss x) (path_numbers cs ss x fs)
    used-path x [] = ap (λ (t : Ty). if is_iso t then slot_of ss x ∷ [] else []) (sym (slot-type ss x))
    used-path x (f ∷ fs) = refl

    used-is : (e : Expr) → used_slots ss e ≡ used (types_of ss) (numbered cs ss e)
    used-is (path q) = used-path q.base q.fields
    used-is (element q e) = used-is e
    used-is (neg a) = used-is a
    used-is (not a) = used-is a
    used-is (binary o a b) =
        ap (λ (xs : List ℕ). xs ++ used_slots ss b) (used-is a) ∙ ap (λ (xs : List ℕ). used (types_of ss) (numbered cs ss a) ++ xs) (used-is b)
    used-is (number z) = refl
    used-is (boolean b) = refl
    used-is nil = refl
    used-is (is_nil q) = refl
    used-is (size q) = refl

    all-used : (es : List Expr) → used_by_all ss es ≡ all_used (types_of ss) (map (numbered cs ss) es)
    all-used [] = refl
    all-used (e ∷ es) =
        ap (λ (xs : List ℕ). xs ++ used_by_all ss es) (used-is e)
        ∙ ap (λ (xs : List ℕ). used (types_of ss) (numbered cs ss e) ++ xs) (all-used es)

    whole-is : (e : Expr) (at : ℕ) → whole_code cs ss at e ≡ whole_ops (types_of ss) at (numbered cs ss e)
    whole-is e at =
        ap (λ (os : List Op). os ++ clears (used_slots ss e)) (expr-is e at)
        ∙ ap (λ (xs : List ℕ). ops_of at (numbered cs ss e) ++ clears xs) (used-is e)

    assign-is : (x : Variable) → assigned ss x ≡ assign_op (types_of ss) (slot_of ss x)
    assign-is x = ap (λ (t : Ty). if is_iso t then i.Own (slot_of ss x) else i.Store (slot_of ss x)) (sym (slot-type ss x))

    -- Calls and right sides

    call-is : (c : Call) (at : ℕ) → call_code cs ss at c ≡ call_ops (types_of ss) at (numbered_call cs ss c)
    call-is c at =
        let behind : List Op → List Op =
        λ os. os ++ i.Room ∷ (clears (used_by_all ss c.args) ++ i.Call (number_called cs (target_class cs ss c) c.method) ∷ []) in
        let whole : List Op → List Op = λ q. (q ++ i.Check ∷ []) ++ behind (exprs_code cs ss (at + length (q ++ i.Check ∷ [])) c.args) in
        let receiver = holder_ops (slot_of ss c.target.base) (path_numbers cs ss c.target.base c.target.fields) in
        ap whole (path-is ss c.target.base c.target.fields)
        ∙ ap (λ (os : List Op). receiver ++ behind os) (exprs-are c.args (at + length receiver))
        ∙ ap (λ (xs : List ℕ). receiver ++ (all_ops (at + length receiver) (map (numbered cs ss) c.args) ++ i.Room ∷
        (clears xs ++ i.Call (number_called cs (target_class cs ss c) c.method) ∷ []))) (all-used c.args)

    new-is : (n : Option Expr) (object array : Op) (at : ℕ) →
        new_code cs ss at object array n ≡ new_ops at object array (option_map (numbered cs ss) n)
    new-is None object array at = refl
    new-is (Some e) object array at = ap (λ (os : List Op). os ++ array ∷ []) (expr-is e at)

    right-is : (r : Right) (at : ℕ) → right_code cs ss at r ≡ right_ops (types_of ss) at (numbered_right cs ss r)
    right-is (value e) at = whole-is e at
    right-is (new x n) at = new-is n _ _ at
    right-is (new_tmp x n) at = new-is n _ _ at
    right-is (new_iso x n m) at = new-is n _ _ at
    right-is (freeze y) at = refl
    right-is (merge y) at = refl
    right-is read at = refl
    right-is more at = refl
    right-is (result_of c) at = call-is c at

    pace-is : (r : Right) → pace_code r ≡ pace_ops (numbered_right cs ss r)
    pace-is (value e) = refl
    pace-is (new x n) = refl
    pace-is (new_tmp x n) = refl
    pace-is (new_iso x n m) = refl
    pace-is (freeze y) = refl
    pace-is (merge y) = refl
    pace-is read = refl
    pace-is more = refl
    pace-is (result_of c) = refl

    -- Statements

    assign-code : (line at : ℕ) (x : Variable) (fs : List Name) (r : Right) →
        i.Mark line ∷ assign_code cs ss (at + 1) x fs r
        ≡ kind_ops (types_of ss) at line (numbered_assign cs ss x fs (numbered_right cs ss r))
    assign-code line at x [] r = rw (right-is r (at + 1), pace-is r, assign-is x) refl
    assign-code line at x (f ∷ fs) r =
        let holder = holder_ops (slot_of ss x) (path_numbers cs ss x (all_but_last f fs)) in
        let right : ℕ → List Op = λ n. right_code cs ss n r in
        let put = i.Put (held_number cs ss x f fs) in
        ap (λ (q : List Op). i.Mark line ∷ ((q ++ i.Check ∷ []) ++ (right (at + 1 + length (q ++ i.Check ∷ [])) ++ put ∷ pace_code r)))
        (path-is ss x (all_but_last f fs))
        ∙ ap (λ (os : List Op). i.Mark line ∷ (holder ++ (os ++ put ∷ pace_code r))) (right-is r (at + 1 + length holder))
        ∙ ap (λ (os : List Op). i.Mark line ∷ (holder ++ (right_ops (types_of ss) (at + 1 + length holder) (numbered_right cs ss r) ++ put ∷ os)))
        (pace-is r)

    element-code : (q : Path) (e : Expr) (r : Right) (at : ℕ) →
        let place = place_ops at (slot_of ss q.base) (path_numbers cs ss q.base q.fields) (numbered cs ss e) in
        assign_element_code cs ss at q e r
        ≡ place ++ (right_ops (types_of ss) (at + length place) (numbered_right cs ss r) ++ i.PutElement ∷ pace_ops (numbered_right cs ss r))
    element-code q e r at =
        let right : ℕ → List Op = λ n. right_code cs ss n r in
        let index : ℕ → List Op = λ n. expr_code cs ss n e in
        let array = holder_ops (slot_of ss q.base) (path_numbers cs ss q.base q.fields) in
        let bound = ops_of (at + length array) (numbered cs ss e) ++ i.Bound ∷ [] in
        let r' = numbered_right cs ss r in
        let whole : List Op → List Op → List Op → List Op =
        λ q x p. q ++ (x ++ (right (at + length q + length x) ++ i.PutElement ∷ p)) in
        let there : at + length array + length bound ≡ at + length (array ++ bound) = omega (arith, length-append array bound) in
        ap (λ (os : List Op). whole (os ++ i.Check ∷ []) (index (at + length (os ++ i.Check ∷ [])) ++ i.Bound ∷ []) (pace_code r))
        (path-is ss q.base q.fields)
        ∙ ap (λ (os : List Op). whole array (os ++ i.Bound ∷ []) (pace_code r)) (expr-is e (at + length array))
        ∙ ap (λ (os : List Op). whole array bound os) (pace-is r)
        ∙ ap (λ (os : List Op). array ++ (bound ++ (os ++ i.PutElement ∷ pace_ops r'))) (right-is r (at + length array + length bound))
        ∙ ap (λ (n : ℕ). array ++ (bound ++ (right_ops (types_of ss) n r' ++ i.PutElement ∷ pace_ops r'))) there
        ∙ sym (append_assoc array bound (right_ops (types_of ss) (at + length (array ++ bound)) r' ++ i.PutElement ∷ pace_ops r'))

    swap-code : (line at : ℕ) (y : Name) (x : Variable) (fs : List Name) → (fs ≡ [] → ⊥) →
        i.Mark line ∷ swap_code cs ss y x fs ≡ kind_ops (types_of ss) at line (numbered_swap cs ss (slot_of ss (Some y)) x fs)
    swap-code line at y x [] h = absurd (h refl)
    swap-code line at y x (f ∷ fs) h =
        ap (λ (q : List Op). i.Mark line ∷ q ++ i.Check ∷ i.Swap (slot_of ss (Some y)) (held_number cs ss x f fs) ∷ [])
        (path-is ss x (all_but_last f fs))

    leave-is : (n : ℕ) (w : Option Name) → leaves ss n w ≡ leave_op n (giving_slot ss w)
    leave-is n None = refl
    leave-is n (Some w) = refl

  -- Behind statements, and in front of the block of an `enter`

  assign-types : (ss : Scope) (x : Variable) (fs : List Name) (ts : List Ty) (r : numbers.Right) →
      ts ≡ types_behind ts (numbered_assign cs ss x fs r)
  assign-types ss x [] ts r = refl
  assign-types ss x (f ∷ fs) ts r = refl

  swap-types : (ss : Scope) (y : ℕ) (x : Variable) (fs : List Name) (ts : List Ty) → ts ≡ types_behind ts (numbered_swap cs ss y x fs)
  swap-types ss y x [] ts = refl
  swap-types ss y x (f ∷ fs) ts = refl

  enter-types : (ss : Scope) (x : Variable) (fs : List Name) (ts : List Ty) (b : numbers.Block) (w : Option ℕ) →
      ts ≡ types_behind ts (numbered_enter cs ss x fs b w)
  enter-types ss x [] ts b w = refl
  enter-types ss x (f ∷ fs) ts b w = refl

  pub behind-types : (ss : Scope) (k : StmtKind) → types_of (scope_behind cs ss k) ≡ types_behind (types_of ss) (numbered_kind cs ss k)
  behind-types ss (declare x t r) = more-types ss (Some x) (type_of cs t)
  behind-types ss (assign p r) = assign-types ss p.base p.fields (types_of ss) (numbered_right cs ss r)
  behind-types ss (assign_element q e r) = refl
  behind-types ss (call c) = refl
  behind-types ss (swap y p) = swap-types ss (slot_of ss (Some y)) p.base p.fields (types_of ss)
  behind-types ss (branch e b other) = refl
  behind-types ss (while e b) = refl
  behind-types ss (enter p z b giving) = enter-types ss p.base p.fields (types_of ss) _ _
  behind-types ss (print e) = refl
  behind-types ss collect = refl
  behind-types ss (return e) = refl

  inside-types : (ss : Scope) (x : Variable) (fs : List Name) (z : Name) →
      types_of (scope_inside cs ss (record { base = x; fields = fs }) z) ≡ types_inside (types_of ss) (bridge_class cs ss x fs)
  inside-types ss x fs z = more-types ss (Some z) (ty.Ref cap.Mut (bridge_class cs ss x fs))

  gap-is : (ss : Scope) (o : Else) → gap_behind o ≡ else_gap (numbered_else cs ss o)
  gap-is ss no_else = refl
  gap-is ss (otherwise b) = refl

  -- `enter`, from its block's code and its last instruction
  enter-code : (ss : Scope) (line at : ℕ) (x : Variable) (fs : List Name) (inner : ℕ → List Op) (b : numbers.Block) (w : Option ℕ) (o : Op) →
      ((to : ℕ) → inner to ≡ block_ops (types_inside (types_of ss) (bridge_class cs ss x fs)) to b) → o ≡ leave_op (length ss) w →
      i.Mark line ∷ (enter_code cs ss x fs ++ (inner (at + 1 + length (enter_code cs ss x fs)) ++ i.Mark line ∷ o ∷ []))
      ≡ kind_ops (types_of ss) at line (numbered_enter cs ss x fs b w)
  enter-code ss line at x [] inner b w o h e = rw (h (at + 1 + 1), e, types-long ss) refl
  enter-code ss line at x (f ∷ fs) inner b w o h e =
      let front = path_ops (slot_of ss x) (path_numbers cs ss x (all_but_last f fs)) ++ i.EnterField (held_number cs ss x f fs) (length ss) ∷ [] in
      let ts = types_inside (types_of ss) (bridge_class cs ss x (f ∷ fs)) in
      let k = held_number cs ss x f fs in
      let ks = path_numbers cs ss x (all_but_last f fs) in
      let to = at + 1 + length front in
      let made : ℕ → List Op = λ n.
      let front' = path_ops (slot_of ss x) ks ++ i.EnterField k n ∷ [] in
      i.Mark line ∷ (front' ++ (block_ops ts (at + 1 + length front') b ++ i.Mark line ∷ leave_op n w ∷ [])) in
      ap (λ (q : List Op). i.Mark line ∷ ((q ++ i.EnterField k (length ss) ∷ [])
      ++ (inner (at + 1 + length (q ++ i.EnterField k (length ss) ∷ [])) ++ i.Mark line ∷ o ∷ []))) (path-is ss x (all_but_last f fs))
      ∙ ap (λ (os : List Op). i.Mark line ∷ (front ++ (os ++ i.Mark line ∷ o ∷ []))) (h to)
      ∙ ap (λ (p : Op). i.Mark line ∷ (front ++ (block_ops ts to b ++ i.Mark line ∷ p ∷ []))) e
      ∙ ap made (sym (types-long ss))

  mutual
    kind-code : (ss : Scope) (k : StmtKind) (at line : ℕ) → KindSwaps k →
        kind_code cs ss at line k ≡ kind_ops (types_of ss) at line (numbered_kind cs ss k)
    kind-code ss (declare x t r) at line h = rw (right-is ss r (at + 1), pace-is ss r, types-long ss) refl
    kind-code ss (assign p r) at line h = assign-code ss line at p.base p.fields r
    kind-code ss (assign_element q e r) at line h = ap (λ (os : List Op). i.Mark line ∷ os) (element-code ss q e r (at + 1))
    kind-code ss (call c) at line h =
        ap (λ (os : List Op). i.Mark line ∷ os ++ dropped_code (call_result cs ss c)) (call-is ss c (at + 1))
    kind-code ss (swap y p) at line h = swap-code ss line at y p.base p.fields h
    kind-code ss (branch e b other) at line h =
        let types = types_of ss in
        let inside = at + 1 + length (whole_ops types (at + 1) (numbered cs ss e)) + 1 in
        rw (whole-is ss e (at + 1)) (rw (block-code ss b inside h.0) (rw (
          gap-is ss other,
          else-code ss other (inside + length (block_ops types inside (numbered_block cs ss b)) + 2) line h.1,
          types-long ss,
        ) refl))
    kind-code ss (while e b) at line h =
        let types = types_of ss in
        let inside = at + 1 + length (whole_ops types (at + 1) (numbered cs ss e)) + 1 in
        rw (whole-is ss e (at + 1)) (rw (block-code ss b inside h, types-long ss) refl)
    kind-code ss (enter p z b giving) at line h =
        let inside = scope_inside cs ss p z in
        enter-code ss line at p.base p.fields (λ to. block_code cs inside to b) (numbered_block cs inside b)
        (giving_slot (scope_at_end cs inside b) giving) (leaves (scope_at_end cs inside b) (length ss) giving)
        (λ to. block-code inside b to h ∙ ap (λ (ts : List Ty). block_ops ts to (numbered_block cs inside b)) (inside-types ss p.base p.fields z))
        (leave-is (scope_at_end cs inside b) (length ss) giving)
    kind-code ss (print e) at line h = ap (λ (os : List Op). i.Mark line ∷ os ++ i.Print ∷ []) (whole-is ss e (at + 1))
    kind-code ss collect at line h = refl
    kind-code ss (return e) at line h = ap (λ (os : List Op). i.Mark line ∷ os ++ i.Ret ∷ []) (whole-is ss e (at + 1))

    else-code : (ss : Scope) (o : Else) (at line : ℕ) → ElseSwaps o →
        else_code cs ss at line o ≡ else_ops (types_of ss) at line (numbered_else cs ss o)
    else-code ss no_else at line h = refl
    else-code ss (otherwise b) at line h = rw (block-code ss b (at + 1) h, types-long ss) refl

    -- a block has the code of its block with numbers
    pub block-code : (ss : Scope) (b : Block) (at : ℕ) → BlockSwaps b → block_code cs ss at b ≡ block_ops (types_of ss) at (numbered_block cs ss b)
    block-code ss empty at h = refl
    block-code ss (next (stmt line k) b) at h =
        let first = kind_ops (types_of ss) at line (numbered_kind cs ss k) in
        let behind = scope_behind cs ss k in
        ap (λ (os : List Op). os ++ block_code cs behind (at + length os) b) (kind-code ss k at line h.0)
        ∙ ap (λ (os : List Op). first ++ os) (block-code behind b (at + length first) h.1)
        ∙ ap (λ (ts : List Ty). first ++ block_ops ts (at + length first) (numbered_block cs behind b)) (behind-types ss k)
