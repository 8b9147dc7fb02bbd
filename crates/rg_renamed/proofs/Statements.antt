-- Statements and blocks that have no fault have none again with numbers for names, and are found then.
use Rattle.std.proofs.Common.{◌≡◌, refl, sym, ap, ◌∙◌, subst, ℕ, zero, suc, ◌+◌, ◌<◌, ◌≤◌, ◌^◌, Bool as Truth, true, false, ◌||◌, not as negated}
use Rattle.std.proofs.Common.{if◌then◌else◌, List, [], ◌∷◌, ◌++◌, length, map, Option, Some, None, option_map, ok_or, Ok, Err, arith}
use Rattle.std.proofs.lemmas.List.{length-map}
use Rattle.rg_base.specs.declared.words.Cap.TheVariants.{Mut}
use Rattle.rg_base.specs.declared.ty.Ty.{Ty}
use Rattle.rg_base.specs.declared.ty.Ty.TheVariants.{Int, Bool, Ref}
use Rattle.rg_base.specs.declared.fault.Code.TheVariants.{Unknown, Duplicate, Mismatch, Unavailable, Capability, OutsideWindow, Loop, IsoField}
use Rattle.rg_base.specs.declared.fault.Code.TheVariants.{Return, CallTarget}
use Rattle.rg_tree.specs.Tree as tree
use Rattle.rg_tree.specs.Tree.{Name, Variable, Ty as Written, Path, Expr, Call, Right, value, new, new_tmp, new_iso, freeze, merge, read, more}
use Rattle.rg_tree.specs.Tree.{result_of, stmt, StmtKind, declare, assign, assign_element, call, swap, branch, while, enter, print, collect, return}
use Rattle.rg_tree.specs.Tree.{Else, no_else, otherwise, Block, empty, then as next, Class}
use Rattle.rg_rules.specs.Answers.{◌>>=◌, ◌>>◌, test, Answer, Lined, at_line}
use Rattle.rg_rules.specs.Names.{kind_names, else_names, block_names}
use Rattle.rg_rules.specs.Capabilities.{is_iso, iso_class, same_type, stays_at_depth, may_write, printable}
use Rattle.rg_rules.specs.Types.{good_type, type_of}
use Rattle.rg_rules.specs.Environment.{Env, Entry, entry_of, visible, at_depth, seen_type, with_variable, marked, marked_entry, is_ready, is_lent}
use Rattle.rg_rules.specs.Environment.{ready, lent, deeper, closed, joined, covers}
use Rattle.rg_rules.specs.Paths.{Looked, walk_array, writable_field, all_but_last, last_field}
use Rattle.rg_rules.specs.Expressions.{Judged, judge_expr}
use Rattle.rg_rules.specs.Rights.{Called, judge_call, judge_right}
use Rattle.rg_rules.specs.Statements.{judge_declare, is_call, judge_assign, judge_assign_element, judge_call_alone, swapped_field, judge_swap}
use Rattle.rg_rules.specs.Statements.{judge_test, judge_enter, judge_giving, left, judge_print, judge_return, last_of, judge_kind, judge_else}
use Rattle.rg_rules.specs.Statements.{judge_block}
use Rattle.rg_rules.proofs.Answers.{bind-ok, then-ok, test-then, ok_or-ok, at_line-ok}
use Rattle.rg_sound.proofs.Frames.Entry.{Absent}
use Rattle.rg_sound.proofs.Frames.JudgeRight.{judge_expr-stays, judge_right-stays}
use Rattle.rg_sound.proofs.Frames.Judge.{judge_declare-parts, judge_assign-parts, judge_assign-field, judge_assign-element, judge_swap-parts}
use Rattle.rg_sound.proofs.Frames.Judge.{judge_test-stays, judge_enter-variable, judge_enter-field}
use Rattle.rg_code.specs.Lowering.{Scope, slot_of, type_in, type_along, type_behind, class_of, field_number, held_number, scope_behind, scope_inside}
use Rattle.rg_code.specs.Lowering.{scope_at_end}
use Rattle.rg_verify_expressions.specs.Naming.{variable_name, variable_in, field_name, written}
use Rattle.rg_verify_expressions.specs.Raised.{path_named, named, IsFound}
use Rattle.rg_verify_expressions.specs.Statements as numbers
use Rattle.rg_verify_expressions.specs.Found as found
use Rattle.rg_verify_expressions.specs.Found.{call_named, right_named, kind_named, else_named, block_named, IsEntryFound, IsGivingFound, IsKindFound}
use Rattle.rg_verify_expressions.specs.Found.{IsElseFound, IsBlockFound}
use Rattle.rg_numbered.specs.Numbered.{field_numbers, path_numbers, numbered, numbered_call, numbered_right, numbered_assign, numbered_swap}
use Rattle.rg_numbered.specs.Numbered.{bridge_class}
use Rattle.rg_numbered.specs.Numbered.{numbered_enter, giving_slot, numbered_kind, numbered_else, numbered_block}
use Rattle.rg_renamed.specs.Renamed.{renamed_classes, renamed_type}
use Rattle.rg_renamed.proofs.Classes.{AreFew, type-again, good-again}
use Rattle.rg_renamed.proofs.Environments.{ok-is}
use Rattle.rg_renamed.proofs.Follows.{Follows, ok-follows, same-follows, bind-follows, then-follows, test-follows, passes-follows, found-follows}
use Rattle.rg_renamed.proofs.Follows.{line-follows, fault-follows}
use Rattle.rg_renamed.proofs.Scopes.{scope_again, entry_again, env_again, Scoped, slot-is, slot-name, found-again, new-again, marked-again, more-at}
use Rattle.rg_renamed.proofs.Scopes.{more-again, long, scoped-stays, closed-again, joined-again, covers-again, slots-more, scope-more, scoped-behind}
use Rattle.rg_renamed.proofs.Scopes.{scoped-inside}
use Rattle.rg_renamed.proofs.Behind.{scope-long, behind-count, behind-room, bridge-slot, scoped-closed, behind-again, end-again}
use Rattle.rg_renamed.proofs.Paths.{names_again, name_again, split-numbers, class_of-again, array-follows, array-found, writable-follows, alone-found}
use Rattle.rg_renamed.proofs.Paths.{last-found, along-is}
use Rattle.rg_renamed.proofs.Expressions.{judged_again, called_again, expr-follows, expr-found, call-follows, call-found, right-follows, right-found}
use Rattle.rg_renamed.proofs.Expressions.{name-found}

call-again : (cs : List Class) (ss : Scope) (m : Truth) (r : Right) → is_call (right_named m (numbered_right cs ss r)) ≡ is_call r
call-again cs ss m (value e) = refl
call-again cs ss m (new x n) = refl
call-again cs ss m (new_tmp x n) = refl
call-again cs ss m (new_iso x n manager) = refl
call-again cs ss m (freeze y) = refl
call-again cs ss m (merge y) = refl
call-again cs ss m read = refl
call-again cs ss m more = refl
call-again cs ss m (result_of c) = refl

pub last-again : (cs : List Class) (ss : Scope) (m : Truth) (n : ℕ) (r : Option Ty) (b : Block) →
    last_of r (block_named m n (numbered_block cs ss b)) ≡ last_of r b
last-again cs ss m n r empty = refl
last-again cs ss m n r (next (stmt line k) b) = refl

module _ (cs : List Class) (few : AreFew cs) (m : Truth) where
  abbrev again : List Class
  again = renamed_classes cs

  -- the names of the numbers of a path whose last field is apart
  pub fields-apart : (t : Ty) (f : Name) (fs : List Name) →
      map field_name (field_numbers cs t (all_but_last f fs) ++ field_number cs (type_along cs t (all_but_last f fs)) (last_field f fs) ∷ [])
      ≡ names_again cs t (f ∷ fs)
  fields-apart t f fs = ap (map field_name) (split-numbers cs t f fs)

  module _ (env : Env) (ss : Scope) (s : Scoped m env ss) where
    pub right-scoped : (w : Ty) (r : Right) (j : Judged) → judge_right cs env w r ≡ Ok j → Scoped m j.env ss
    right-scoped w r j h = scoped-stays m env ss s j.env (judge_right-stays cs env w r j s.distinct h)

    pub expr-scoped : (w : Option Ty) (e : Expr) (j : Judged) → judge_expr cs env w e ≡ Ok j → Scoped m j.env ss
    expr-scoped w e j h = scoped-stays m env ss s j.env (judge_expr-stays cs env w e j s.distinct h)

    is-new : negated (visible (env_again m env) (Some (variable_name (length ss)))) ≡ true
    is-new = ap (λ (b : Truth). negated b) (new-again m env ss s)

    -- `let`
    pub declare-follows : (x : Name) (t : Written) (r : Right) → Follows (env_again m) (judge_declare cs env x t r)
        (judge_declare again (env_again m env) (variable_name (length ss)) (renamed_type cs t) (right_named m (numbered_right cs ss r)))
    declare-follows x t r =
        passes-follows _ (negated (visible env (Some x)))
        (negated (visible (env_again m env) (Some (variable_name (length ss))))) Duplicate _ _ is-new
        (bind-follows (λ (d : Ty). d) _ (good_type cs t) (good_type again (renamed_type cs t)) _ _ (same-follows _ _ (good-again cs few t)) (λ d is.
        bind-follows (judged_again m) _ _ _ _ _ (right-follows cs few m env ss s d r) (λ j is'.
        ok-follows _ _ _ (more-again m j.env ss (right-scoped d r j is') (Some x) d true))))

    -- `x = r` and `q.f = r`
    pub assign-follows : (last : Option Ty) (line : ℕ) (x : Variable) (fs : List Name) (r : Right) →
        Follows (env_again m) (at_line line (judge_assign cs env x fs r))
        (judge_kind again last line (env_again m env) (kind_named m (length ss) (numbered_assign cs ss x fs (numbered_right cs ss r))))
    assign-follows last line x [] r =
        line-follows _ line _ _
        (found-follows (entry_again m (slot_of ss x)) _ _ _ _ _ _ (λ e h. found-again m env ss s x e h) (λ e h.
        test-follows _ e.assignable e.assignable OutsideWindow _ _ refl (λ a.
        test-follows _ (at_depth env e || negated (stays_at_depth e.ty)) (at_depth env e || negated (stays_at_depth e.ty)) OutsideWindow _ _ refl
        (λ b.
        test-follows _ (negated (is_lent e.readiness)) (negated (is_lent e.readiness)) Unavailable _ _ refl (λ c.
        bind-follows (judged_again m) _ _ _ _ _ (right-follows cs few m env ss s e.ty r) (λ j is.
        ok-follows _ _ _ (marked-again m j.env ss (right-scoped e.ty r j is) x ready)))))))
    assign-follows last line x (f ∷ fs) r =
        let right = right_named m (numbered_right cs ss r) in
        let P : List Name → Type 0 = λ gs. Follows (env_again m) (at_line line (judge_assign cs env x (f ∷ fs) r))
        (at_line line (judge_assign again (env_again m env) (variable_in m (slot_of ss x)) gs right)) in
        subst P (sym (fields-apart (type_in ss x) f fs))
        (line-follows _ line _ _
        (bind-follows (λ (t : Ty). t) _ _ _ _ _ (writable-follows cs few m env ss s x f fs) (λ t is.
        test-follows _ (negated (is_iso t)) (negated (is_iso t)) IsoField _ _ refl (λ a.
        test-follows _ (negated (is_call r)) (negated (is_call right)) CallTarget _ _ (ap (λ (b : Truth). negated b) (call-again cs ss m r)) (λ b.
        bind-follows (judged_again m) _ _ _ _ _ (right-follows cs few m env ss s t r) (λ j is'. ok-follows _ _ _ refl))))))

    -- `q[e] = r`
    pub element-follows : (x : Variable) (fs : List Name) (e : Expr) (r : Right) → Follows (env_again m) (judge_assign_element cs env x fs e r)
        (judge_assign_element again (env_again m env) (variable_in m (slot_of ss x)) (names_again cs (type_in ss x) fs) (named m (numbered cs ss e))
        (right_named m (numbered_right cs ss r)))
    element-follows x fs e r =
        let right = right_named m (numbered_right cs ss r) in
        bind-follows (λ (a : Looked). a) _ _ _ _ _ (array-follows cs few m env ss s x fs) (λ a is.
        test-follows _ (may_write a.receiver) (may_write a.receiver) Capability _ _ refl (λ b.
        test-follows _ (negated (is_call r)) (negated (is_call right)) CallTarget _ _ (ap (λ (c : Truth). negated c) (call-again cs ss m r)) (λ c.
        bind-follows (judged_again m) _ _ _ _ _ (expr-follows cs few m env ss (Some Int) e s) (λ i is'.
        bind-follows (judged_again m) _ _ _ _ _ (right-follows cs few m i.env ss (expr-scoped (Some Int) e i is') a.ty r) (λ j is''.
        ok-follows _ _ _ refl)))))

    -- `swap`
    pub swap-follows : (last : Option Ty) (line : ℕ) (y : Name) (x : Variable) (fs : List Name) →
        Follows (env_again m) (at_line line (judge_swap cs env y (record { base = x; fields = fs })))
        (judge_kind again last line (env_again m env) (kind_named m (length ss) (numbered_swap cs ss (slot_of ss (Some y)) x fs)))
    swap-follows last line y x [] = record { ok = λ a h. absurd (no-field line y x a h) }
      where
        no-field : (line : ℕ) (y : Name) (x : Variable) (a : Env) → at_line line (judge_swap cs env y (record { base = x; fields = [] })) ≡ Ok a → ⊥
        no-field line y x a h =
            let q = judge_swap-parts cs env a y (record { base = x; fields = [] })
            (at_line-ok line (judge_swap cs env y (record { base = x; fields = [] })) a h) in
            let e : Err Mismatch ≡ Ok q.ty = q.field in grind arith
    swap-follows last line y x (f ∷ fs) =
        let y' = variable_name (slot_of ss (Some y)) in
        let P : List Name → Type 0 = λ gs. Follows (env_again m) (at_line line (judge_swap cs env y (record { base = x; fields = f ∷ fs })))
        (at_line line (judge_swap again (env_again m env) y' (record { base = variable_in m (slot_of ss x); fields = gs }))) in
        subst P (sym (fields-apart (type_in ss x) f fs))
        (line-follows _ line _ _
        (found-follows (entry_again m (slot_of ss (Some y))) _ (entry_of env (Some y)) (entry_of (env_again m env) (Some y')) Unknown _ _
        (λ e h. ap (entry_of (env_again m env)) (sym (slot-name m ss y s.self)) ∙ found-again m env ss s (Some y) e h) (λ e h.
        test-follows _ (is_iso e.ty) (is_iso e.ty) Mismatch _ _ refl (λ a.
        test-follows _ (is_ready e.readiness) (is_ready e.readiness) Unavailable _ _ refl (λ b.
        bind-follows (λ (t : Ty). t) _ _ _ _ _ (writable-follows cs few m env ss s x f fs) (λ t is.
        test-follows _ (same_type t e.ty) (same_type t e.ty) Mismatch _ _ refl (λ c. ok-follows _ _ _ refl)))))))

    -- tests, and what is printed or returned
    pub test-goes : (e : Expr) → Follows (env_again m) (judge_test cs env e) (judge_test again (env_again m env) (named m (numbered cs ss e)))
    test-goes e = bind-follows (judged_again m) _ _ _ _ _ (expr-follows cs few m env ss (Some Bool) e s) (λ j is. ok-follows _ _ _ refl)

    pub print-goes : (e : Expr) → Follows (env_again m) (judge_print cs env e) (judge_print again (env_again m env) (named m (numbered cs ss e)))
    print-goes e =
        bind-follows (judged_again m) _ _ _ _ _ (expr-follows cs few m env ss None e s) (λ j is.
        test-follows _ (printable j.ty) (printable j.ty) Mismatch _ _ refl (λ b. ok-follows _ _ _ refl))

    pub return-goes : (last : Option Ty) (e : Expr) →
        Follows (env_again m) (judge_return cs last env e) (judge_return again last (env_again m env) (named m (numbered cs ss e)))
    return-goes last e =
        found-follows (λ (t : Ty). t) _ last last Return _ _ (λ t h. h) (λ t h.
        bind-follows (judged_again m) _ _ _ _ _ (expr-follows cs few m env ss (Some t) e s) (λ j is. ok-follows _ _ _ refl))

    pub call-goes : (c : Call) → Follows (env_again m) (judge_call_alone cs env c)
        (judge_call_alone again (env_again m env) (call_named m (numbered_call cs ss c)))
    call-goes c = bind-follows (called_again m) _ _ _ _ _ (call-follows cs few m env ss s c) (λ j is. ok-follows _ _ _ refl)

    -- how a window is entered
    inside-again : (front : Env) (z : Name) (c : ℕ) → length front.entries ≡ length ss →
        with_variable (deeper (env_again m front)) (Some (variable_name (length ss))) (Ref Mut c) true
        ≡ env_again m (with_variable (deeper front) (Some z) (Ref Mut c) true)
    inside-again front z c l = more-at m env ss s (deeper front) (Some z) (Ref Mut c) true l

    pub enter-variable : (x : Variable) (z : Name) → Follows (env_again m) (judge_enter cs env x [] z)
        (judge_enter again (env_again m env) (variable_in m (slot_of ss x)) [] (variable_name (length ss)))
    enter-variable x z =
        found-follows (entry_again m (slot_of ss x)) _ _ _ _ _ _ (λ e h. found-again m env ss s x e h) (λ e h.
        found-follows (λ (c : ℕ). c) _ (iso_class e.ty) (iso_class e.ty) Mismatch _ _ (λ c g. g) (λ c g.
        test-follows _ (is_ready e.readiness) (is_ready e.readiness) Unavailable _ _ refl (λ a.
        passes-follows _ (negated (visible env (Some z)))
        (negated (visible (env_again m env) (Some (variable_name (length ss))))) Duplicate _ _ is-new
        (ok-follows _ _ _
        (ap (λ (o : Env). with_variable (deeper o) (Some (variable_name (length ss))) (Ref Mut c) true) (marked-again m env ss s x lent)
        ∙ inside-again (marked x lent env) z c (length-map env.entries (marked_entry x lent) ∙ long m env ss s))))))

    pub enter-field : (x : Variable) (f : Name) (fs : List Name) (z : Name) → Follows (env_again m) (judge_enter cs env x (f ∷ fs) z)
        (judge_enter again (env_again m env) (variable_in m (slot_of ss x)) (names_again cs (type_in ss x) (f ∷ fs)) (variable_name (length ss)))
    enter-field x f fs z =
        bind-follows (λ (t : Ty). t) _ _ _ _ _ (writable-follows cs few m env ss s x f fs) (λ t is.
        found-follows (λ (c : ℕ). c) _ (iso_class t) (iso_class t) Mismatch _ _ (λ c g. g) (λ c g.
        passes-follows _ (negated (visible env (Some z)))
        (negated (visible (env_again m env) (Some (variable_name (length ss))))) Duplicate _ _ is-new
        (ok-follows _ _ _ (inside-again env z c (long m env ss s)))))

    pub enter-absent : (x : Variable) (fs : List Name) (z : Name) (out : Env) → judge_enter cs env x fs z ≡ Ok out → Absent (Some z) env.entries
    enter-absent x [] z out h = (judge_enter-variable cs env out x z h).absent
    enter-absent x (f ∷ fs) z out h = (judge_enter-field cs env out x f fs z h).absent

  -- what a window gives
  pub giving-follows : (out : Env) (end : Scope) (n : ℕ) (z : Name) (w : Option Name) → Scoped m out end → slot_of end (Some z) ≡ n →
      Follows (λ (u : Unit {0}). u) (judge_giving out z w)
      (judge_giving (env_again m out) (variable_name n) (option_map variable_name (giving_slot end w)))
  giving-follows out end n z None s e = ok-follows _ _ _ refl
  giving-follows out end n z (Some w) s e =
      let w' = variable_name (slot_of end (Some w)) in
      found-follows (entry_again m (slot_of end (Some w))) _ (entry_of out (Some w)) (entry_of (env_again m out) (Some w')) Unknown _ _
      (λ o h. ap (entry_of (env_again m out)) (sym (slot-name m end w s.self)) ∙ found-again m out end s (Some w) o h) (λ o h.
      found-follows (entry_again m (slot_of end (Some z))) _ (entry_of out (Some z)) (entry_of (env_again m out) (Some (variable_name n))) Unknown _ _
      (λ q g. ap (λ (k : ℕ). entry_of (env_again m out) (Some (variable_name k))) (sym e)
      ∙ ap (entry_of (env_again m out)) (sym (slot-name m end z s.self)) ∙ found-again m out end s (Some z) q g)
      (λ q g. same-follows _ _ refl))

  pub left-again : (env : Env) (ss : Scope) (x : Variable) → Scoped m env ss →
      left (variable_in m (slot_of ss x)) [] (env_again m env) ≡ env_again m (left x [] env)
  left-again env ss x s = marked-again m env ss s x ready
