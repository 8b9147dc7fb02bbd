-- What is judged of paths, expressions, right sides and statements is the same without the lines of the classes.
use Rattle.std.proofs.Common.{◌≡◌, refl, ap, ◌∙◌, ℕ, ◌==◌, ◌||◌, not as negated, List, [], ◌∷◌, length, Option, Some, None, ok_or, Ok}
use Rattle.rg_base.specs.declared.words.Cap.{Cap}
use Rattle.rg_base.specs.declared.words.Cap.TheVariants.{Mut, Tmp, Iso}
use Rattle.rg_base.specs.declared.ty.Ty.{Ty}
use Rattle.rg_base.specs.declared.ty.Ty.TheVariants.{Int, Bool, Ref}
use Rattle.rg_base.specs.declared.fault.Code.TheVariants.{Unknown, BadType, Mismatch, Unavailable, Capability, OutsideWindow, IsoField, Return}
use Rattle.rg_base.specs.declared.fault.Code.TheVariants.{CallTarget, Arity}
use Rattle.rg_tree.specs.Tree.{Name, Variable, Ty as Written, ref, Path, Expr, path, is_nil, neg, not, binary, size, element, Call, Right, value, new}
use Rattle.rg_tree.specs.Tree.{new_tmp, new_iso, result_of, Stmt, stmt, StmtKind, declare, assign, assign_element, call, swap, branch, while, enter}
use Rattle.rg_tree.specs.Tree.{print, collect, return, Else, no_else, otherwise, Block, empty as none, then as next, Method, Class}
use Rattle.rg_rules.specs.Answers.{◌>>◌, test, Answer, at_line}
use Rattle.rg_rules.specs.Capabilities.{below, is_iso, stays_at_depth, may_write}
use Rattle.rg_rules.specs.Environment.{Env, Entry, entry_of, at_depth, seen_type, is_ready, is_lent}
use Rattle.rg_rules.specs.Types.{names_array, method_named, param_types}
use Rattle.rg_rules.specs.Paths.{Followed, follow, Looked, look_up, walk_field, walk_fields, walk, walk_array, all_but_last, last_field}
use Rattle.rg_rules.specs.Paths.{walk_receiver, writable_field}
use Rattle.rg_rules.specs.Expressions.{Judged, judge_path, judge_is_nil, among, operand_type, judge_expr}
use Rattle.rg_rules.specs.Rights.{Called, judge_args, judge_call, judge_size, judge_new, judge_right}
use Rattle.rg_rules.specs.Statements.{judge_declare, is_call, judge_assign, judge_assign_element, judge_call_alone, swapped_field, judge_swap}
use Rattle.rg_rules.specs.Statements.{judge_test, judge_enter, judge_print, judge_return, last_of, judge_stmt, judge_kind, judge_else, judge_block}
use Rattle.rg_lines.specs.Unlined.{method_unlined, classes_unlined}
use Rattle.rg_lines.proofs.DoBlocks.{bind-rest, then-rest, bind-same, then-same, found-same}
use Rattle.rg_lines.proofs.Types.{good_type-unlined, field_type-unlined, element_type-unlined, names_array-unlined, method_named-unlined}
use Rattle.rg_lines.proofs.Types.{param_types-unlined, method_result-unlined}

-- Paths

look_up-unlined : (cs : List Class) (t : Ty) (f : Name) → look_up (classes_unlined cs) t f ≡ look_up cs t f
look_up-unlined cs t f =
    bind-same _ _ _ _ refl (λ r. bind-same _ _ _ _ (ap (λ o. ok_or o Unknown) (field_type-unlined cs r.class f)) (λ d. refl))

walk_field-unlined : (cs : List Class) (t : Ty) (f : Name) → walk_field (classes_unlined cs) t f ≡ walk_field cs t f
walk_field-unlined cs t f = bind-same _ _ _ _ (look_up-unlined cs t f) (λ r. refl)

walk_fields-unlined : (cs : List Class) (t : Ty) (fs : List Name) → walk_fields (classes_unlined cs) t fs ≡ walk_fields cs t fs
walk_fields-unlined cs t [] = refl
walk_fields-unlined cs t (f ∷ fs) = bind-same _ _ _ _ (walk_field-unlined cs t f) (λ u. walk_fields-unlined cs u fs)

walk-unlined : (cs : List Class) (env : Env) (x : Variable) (fs : List Name) → walk (classes_unlined cs) env x fs ≡ walk cs env x fs
walk-unlined cs env x fs = bind-same _ _ _ _ refl (λ e. walk_fields-unlined cs (seen_type env e) fs)

walk_array-unlined : (cs : List Class) (env : Env) (x : Variable) (fs : List Name) → walk_array (classes_unlined cs) env x fs ≡ walk_array cs env x fs
walk_array-unlined cs env x fs =
    bind-same _ _ _ _ (walk-unlined cs env x fs)
    (λ t. bind-same _ _ _ _ refl (λ r. bind-same _ _ _ _ (ap (λ o. ok_or o Mismatch) (element_type-unlined cs r.class)) (λ d. refl)))

walk_receiver-unlined : (cs : List Class) (env : Env) (x : Variable) (f : Name) (fs : List Name) →
    walk_receiver (classes_unlined cs) env x f fs ≡ walk_receiver cs env x f fs
walk_receiver-unlined cs env x f fs =
    bind-same _ _ _ _ (walk-unlined cs env x (all_but_last f fs)) (λ t. look_up-unlined cs t (last_field f fs))

writable_field-unlined : (cs : List Class) (env : Env) (x : Variable) (f : Name) (fs : List Name) →
    writable_field (classes_unlined cs) env x f fs ≡ writable_field cs env x f fs
writable_field-unlined cs env x f fs = bind-same _ _ _ _ (walk_receiver-unlined cs env x f fs) (λ r. refl)

-- Expressions

judge_path-unlined : (cs : List Class) (env : Env) (x : Variable) (fs : List Name) → judge_path (classes_unlined cs) env x fs ≡ judge_path cs env x fs
judge_path-unlined cs env x [] = refl
judge_path-unlined cs env x (f ∷ fs) = bind-same _ _ _ _ (walk-unlined cs env x (f ∷ fs)) (λ t. refl)

judge_is_nil-unlined : (cs : List Class) (env : Env) (x : Variable) (fs : List Name) →
    judge_is_nil (classes_unlined cs) env x fs ≡ judge_is_nil cs env x fs
judge_is_nil-unlined cs env x [] = refl
judge_is_nil-unlined cs env x (f ∷ fs) = bind-same _ _ _ _ (walk-unlined cs env x (f ∷ fs)) (λ t. refl)

judge_expr-unlined : (cs : List Class) (env : Env) (w : Option Ty) (e : Expr) → judge_expr (classes_unlined cs) env w e ≡ judge_expr cs env w e
judge_expr-unlined cs env w (path p) = bind-same _ _ _ _ (judge_path-unlined cs env p.base p.fields) (λ j. refl)
judge_expr-unlined cs env w (is_nil p) = then-same _ _ _ _ (judge_is_nil-unlined cs env p.base p.fields) refl
judge_expr-unlined cs env w (neg a) = bind-same _ _ _ _ (judge_expr-unlined cs env (Some Int) a) (λ j. refl)
judge_expr-unlined cs env w (not a) = bind-same _ _ _ _ (judge_expr-unlined cs env (Some Bool) a) (λ j. refl)
judge_expr-unlined cs env w (binary op a b) =
    bind-same _ _ _ _ (judge_expr-unlined cs env (operand_type (among op)) a)
    (λ l. bind-same _ _ _ _ (judge_expr-unlined cs l.env (operand_type (among op)) b) (λ r. refl))
judge_expr-unlined cs env w (size q) = then-same _ _ _ _ (walk_array-unlined cs env q.base q.fields) refl
judge_expr-unlined cs env w (element q e) =
    bind-same _ _ _ _ (walk_array-unlined cs env q.base q.fields)
    (λ a. bind-same _ _ _ _ refl (λ t. bind-same _ _ _ _ (judge_expr-unlined cs env (Some Int) e) (λ j. refl)))
judge_expr-unlined cs env w _ = refl

-- Right sides

judge_args-unlined : (cs : List Class) (env : Env) (ts : List Ty) (es : List Expr) →
    judge_args (classes_unlined cs) env ts es ≡ judge_args cs env ts es
judge_args-unlined cs env (t ∷ ts) (a ∷ others) =
    bind-same _ _ _ _ (judge_expr-unlined cs env (Some t) a) (λ j. judge_args-unlined cs j.env ts others)
judge_args-unlined cs env (t ∷ ts) [] = refl
judge_args-unlined cs env [] others = refl

abbrev called_as : Env → Option Ty → Answer Called
called_as env t = Ok (record { result = t; env = env })

judge_call-unlined : (cs : List Class) (env : Env) (c : Call) → judge_call (classes_unlined cs) env c ≡ judge_call cs env c
judge_call-unlined cs env c =
    bind-same _ _ _ _ (walk-unlined cs env c.target.base c.target.fields)
    (λ t. bind-rest (follow t) _ _
    (λ (r : Followed). found-same method_unlined _ (method_named cs r.class c.method) Unknown _ _ (method_named-unlined cs r.class c.method)
    (λ (m : Method). then-rest (test (below t (Ref m.receiver r.class)) Capability) _ _
    (then-rest (test (length c.args == length m.params) Arity) _ _
    (bind-same _ _ _ _ (ap (λ ts. judge_args (classes_unlined cs) env ts c.args) (param_types-unlined cs m)
    ∙ judge_args-unlined cs env (param_types cs m) c.args) (λ out. ap (called_as out) (method_result-unlined cs m)))))))

judge_size-unlined : (cs : List Class) (env : Env) (x : Name) (o : Option Expr) →
    judge_size (classes_unlined cs) env x o ≡ judge_size cs env x o
judge_size-unlined cs env x None = ap (λ b. ◌>>◌ (test (negated b) BadType) (Ok env)) (names_array-unlined cs x)
judge_size-unlined cs env x (Some e) =
    then-same (test _ BadType) (test (names_array cs x) BadType) _ _ (ap (λ b. test b BadType) (names_array-unlined cs x))
    (bind-same _ _ _ _ (judge_expr-unlined cs env (Some Int) e) (λ j. refl))

judge_new-unlined : (cs : List Class) (env : Env) (wanted : Ty) (cap : Cap) (x : Name) (o : Option Expr) →
    judge_new (classes_unlined cs) env wanted cap x o ≡ judge_new cs env wanted cap x o
judge_new-unlined cs env wanted cap x o =
    bind-same _ _ _ _ (good_type-unlined cs (ref cap x)) (λ t. bind-same _ _ _ _ (judge_size-unlined cs env x o) (λ out. refl))

judge_right-unlined : (cs : List Class) (env : Env) (wanted : Ty) (r : Right) →
    judge_right (classes_unlined cs) env wanted r ≡ judge_right cs env wanted r
judge_right-unlined cs env wanted (value e) = judge_expr-unlined cs env (Some wanted) e
judge_right-unlined cs env wanted (new x o) = judge_new-unlined cs env wanted Mut x o
judge_right-unlined cs env wanted (new_tmp x o) = judge_new-unlined cs env wanted Tmp x o
judge_right-unlined cs env wanted (new_iso x o m) = judge_new-unlined cs env wanted Iso x o
judge_right-unlined cs env wanted (result_of c) = bind-same _ _ _ _ (judge_call-unlined cs env c) (λ j. refl)
judge_right-unlined cs env wanted _ = refl

-- Statements

judge_declare-unlined : (cs : List Class) (env : Env) (x : Name) (t : Written) (r : Right) →
    judge_declare (classes_unlined cs) env x t r ≡ judge_declare cs env x t r
judge_declare-unlined cs env x t r =
    then-same _ _ _ _ refl (bind-same _ _ _ _ (good_type-unlined cs t) (λ d. bind-same _ _ _ _ (judge_right-unlined cs env d r) (λ j. refl)))

judge_assign-unlined : (cs : List Class) (env : Env) (x : Variable) (fs : List Name) (r : Right) →
    judge_assign (classes_unlined cs) env x fs r ≡ judge_assign cs env x fs r
judge_assign-unlined cs env x [] r =
    bind-rest (ok_or (entry_of env x) Unknown) _ _
    (λ (e : Entry). then-rest (test e.assignable OutsideWindow) _ _
    (then-rest (test (at_depth env e || negated (stays_at_depth e.ty)) OutsideWindow) _ _
    (then-rest (test (negated (is_lent e.readiness)) Unavailable) _ _ (bind-same _ _ _ _ (judge_right-unlined cs env e.ty r) (λ j. refl)))))
judge_assign-unlined cs env x (f ∷ fs) r =
    bind-same _ _ _ _ (writable_field-unlined cs env x f fs)
    (λ (t : Ty). then-rest (test (negated (is_iso t)) IsoField) _ _ (then-rest (test (negated (is_call r)) CallTarget) _ _
    (bind-same _ _ _ _ (judge_right-unlined cs env t r) (λ j. refl))))

judge_assign_element-unlined : (cs : List Class) (env : Env) (x : Variable) (fs : List Name) (e : Expr) (r : Right) →
    judge_assign_element (classes_unlined cs) env x fs e r ≡ judge_assign_element cs env x fs e r
judge_assign_element-unlined cs env x fs e r =
    bind-same _ _ _ _ (walk_array-unlined cs env x fs)
    (λ (a : Looked). then-rest (test (may_write a.receiver) Capability) _ _ (then-rest (test (negated (is_call r)) CallTarget) _ _
    (bind-same _ _ _ _ (judge_expr-unlined cs env (Some Int) e)
    (λ (i : Judged). bind-same _ _ _ _ (judge_right-unlined cs i.env a.ty r) (λ j. refl)))))

judge_call_alone-unlined : (cs : List Class) (env : Env) (c : Call) → judge_call_alone (classes_unlined cs) env c ≡ judge_call_alone cs env c
judge_call_alone-unlined cs env c = bind-same _ _ _ _ (judge_call-unlined cs env c) (λ j. refl)

swapped_field-unlined : (cs : List Class) (env : Env) (x : Variable) (fs : List Name) →
    swapped_field (classes_unlined cs) env x fs ≡ swapped_field cs env x fs
swapped_field-unlined cs env x [] = refl
swapped_field-unlined cs env x (f ∷ fs) = writable_field-unlined cs env x f fs

judge_swap-unlined : (cs : List Class) (env : Env) (y : Name) (p : Path) → judge_swap (classes_unlined cs) env y p ≡ judge_swap cs env y p
judge_swap-unlined cs env y p =
    bind-rest (ok_or (entry_of env (Some y)) Unknown) _ _
    (λ (e : Entry). then-rest (test (is_iso e.ty) Mismatch) _ _ (then-rest (test (is_ready e.readiness) Unavailable) _ _
    (bind-same _ _ _ _ (swapped_field-unlined cs env p.base p.fields) (λ t. refl))))

judge_test-unlined : (cs : List Class) (env : Env) (e : Expr) → judge_test (classes_unlined cs) env e ≡ judge_test cs env e
judge_test-unlined cs env e = bind-same _ _ _ _ (judge_expr-unlined cs env (Some Bool) e) (λ j. refl)

judge_enter-unlined : (cs : List Class) (env : Env) (x : Variable) (fs : List Name) (z : Name) →
    judge_enter (classes_unlined cs) env x fs z ≡ judge_enter cs env x fs z
judge_enter-unlined cs env x [] z = refl
judge_enter-unlined cs env x (f ∷ fs) z = bind-same _ _ _ _ (writable_field-unlined cs env x f fs) (λ t. refl)

judge_print-unlined : (cs : List Class) (env : Env) (e : Expr) → judge_print (classes_unlined cs) env e ≡ judge_print cs env e
judge_print-unlined cs env e = bind-same _ _ _ _ (judge_expr-unlined cs env None e) (λ j. refl)

judge_return-unlined : (cs : List Class) (last : Option Ty) (env : Env) (e : Expr) →
    judge_return (classes_unlined cs) last env e ≡ judge_return cs last env e
judge_return-unlined cs last env e = bind-rest (ok_or last Return) _ _ (λ t. bind-same _ _ _ _ (judge_expr-unlined cs env (Some t) e) (λ j. refl))

mutual
  judge_stmt-unlined : (cs : List Class) (last : Option Ty) (env : Env) (s : Stmt) →
      judge_stmt (classes_unlined cs) last env s ≡ judge_stmt cs last env s
  judge_stmt-unlined cs last env (stmt line k) = judge_kind-unlined cs last line env k

  judge_kind-unlined : (cs : List Class) (last : Option Ty) (line : ℕ) (env : Env) (k : StmtKind) →
      judge_kind (classes_unlined cs) last line env k ≡ judge_kind cs last line env k
  judge_kind-unlined cs last line env (declare x t r) = ap (at_line line) (judge_declare-unlined cs env x t r)
  judge_kind-unlined cs last line env (assign p r) = ap (at_line line) (judge_assign-unlined cs env p.base p.fields r)
  judge_kind-unlined cs last line env (assign_element q e r) = ap (at_line line) (judge_assign_element-unlined cs env q.base q.fields e r)
  judge_kind-unlined cs last line env (call c) = ap (at_line line) (judge_call_alone-unlined cs env c)
  judge_kind-unlined cs last line env (swap y p) = ap (at_line line) (judge_swap-unlined cs env y p)
  judge_kind-unlined cs last line env (branch e first other) =
      bind-same _ _ _ _ (ap (at_line line) (judge_test-unlined cs env e))
      (λ front. bind-same _ _ _ _ (judge_block-unlined cs None front first)
      (λ out. bind-same _ _ _ _ (judge_else-unlined cs front other) (λ out'. refl)))
  judge_kind-unlined cs last line env (while e body) =
      bind-same _ _ _ _ (ap (at_line line) (judge_test-unlined cs env e))
      (λ front. bind-same _ _ _ _ (judge_block-unlined cs None front body) (λ out. refl))
  judge_kind-unlined cs last line env (enter p z body giving) =
      bind-same _ _ _ _ (ap (at_line line) (judge_enter-unlined cs env p.base p.fields z))
      (λ front. bind-same _ _ _ _ (judge_block-unlined cs None front body) (λ out. refl))
  judge_kind-unlined cs last line env (print e) = ap (at_line line) (judge_print-unlined cs env e)
  judge_kind-unlined cs last line env collect = refl
  judge_kind-unlined cs last line env (return e) = ap (at_line line) (judge_return-unlined cs last env e)

  judge_else-unlined : (cs : List Class) (env : Env) (o : Else) → judge_else (classes_unlined cs) env o ≡ judge_else cs env o
  judge_else-unlined cs env no_else = refl
  judge_else-unlined cs env (otherwise b) = judge_block-unlined cs None env b

  pub judge_block-unlined : (cs : List Class) (result : Option Ty) (env : Env) (b : Block) →
      judge_block (classes_unlined cs) result env b ≡ judge_block cs result env b
  judge_block-unlined cs result env none = refl
  judge_block-unlined cs result env (next s b) =
      bind-same _ _ _ _ (judge_stmt-unlined cs (last_of result b) env s) (λ mid. judge_block-unlined cs result mid b)
