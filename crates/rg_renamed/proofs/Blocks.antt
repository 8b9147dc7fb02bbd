-- Blocks that have no fault have none again with numbers for names.
use Rattle.std.proofs.Common.{◌≡◌, refl, sym, ap, ◌∙◌, subst, ℕ, zero, suc, ◌+◌, ◌<◌, ◌≤◌, ◌^◌, Bool as Truth, true, false, ◌||◌, not as negated}
use Rattle.std.proofs.Common.{if◌then◌else◌, List, [], ◌∷◌, ◌++◌, length, map, Option, Some, None, option_map, ok_or, Ok, Err, arith}
use Rattle.std.proofs.lemmas.List.{length-map}
use Rattle.rg_base.specs.declared.words.Cap.TheVariants.{Mut}
use Rattle.rg_base.specs.declared.ty.Ty.{Ty}
use Rattle.rg_base.specs.declared.ty.Ty.TheVariants.{Int, Bool, Ref}
use Rattle.rg_base.specs.declared.fault.Code.TheVariants.{Unknown, Duplicate, Mismatch, Unavailable, Capability, OutsideWindow, Loop, IsoField}
use Rattle.rg_base.specs.declared.fault.Code.TheVariants.{Return, CallTarget}
use Rattle.rg_tree.specs.Tree as tree
use Rattle.rg_tree.specs.Tree.{Name, Variable, Ty as Written, Path, Expr, Call, Right, value, new, new_tmp, new_iso, freeze, merge, read, more}
use Rattle.rg_tree.specs.Tree.{result_of, stmt, StmtKind, declare, assign, assign_element, call, swap, branch, while, enter, print, collect, return}
use Rattle.rg_tree.specs.Tree.{Else, no_else, otherwise, Block, empty, then as next, Class}
use Rattle.rg_rules.specs.Answers.{◌>>=◌, ◌>>◌, test, Answer, Lined, at_line}
use Rattle.rg_rules.specs.Names.{kind_names, else_names, block_names}
use Rattle.rg_rules.specs.Capabilities.{is_iso, iso_class, same_type, stays_at_depth, may_write, printable}
use Rattle.rg_rules.specs.Types.{good_type, type_of}
use Rattle.rg_rules.specs.Environment.{Env, Entry, entry_of, visible, at_depth, seen_type, with_variable, marked, marked_entry, is_ready, is_lent}
use Rattle.rg_rules.specs.Environment.{ready, lent, deeper, closed, joined, covers}
use Rattle.rg_rules.specs.Paths.{Looked, walk_array, writable_field, all_but_last, last_field}
use Rattle.rg_rules.specs.Expressions.{Judged, judge_expr}
use Rattle.rg_rules.specs.Rights.{Called, judge_call, judge_right}
use Rattle.rg_rules.specs.Statements.{judge_declare, is_call, judge_assign, judge_assign_element, judge_call_alone, swapped_field, judge_swap}
use Rattle.rg_rules.specs.Statements.{judge_test, judge_enter, judge_giving, left, judge_print, judge_return, last_of, judge_kind, judge_else}
use Rattle.rg_rules.specs.Statements.{judge_block}
use Rattle.rg_rules.proofs.Answers.{bind-ok, then-ok, test-then, ok_or-ok, at_line-ok}
use Rattle.rg_sound.proofs.Frames.Entry.{Absent}
use Rattle.rg_sound.proofs.Frames.JudgeRight.{judge_expr-stays, judge_right-stays}
use Rattle.rg_sound.proofs.Frames.Judge.{judge_declare-parts, judge_assign-parts, judge_assign-field, judge_assign-element, judge_swap-parts}
use Rattle.rg_sound.proofs.Frames.Judge.{judge_test-stays, judge_enter-variable, judge_enter-field}
use Rattle.rg_code.specs.Lowering.{Scope, slot_of, type_in, type_along, type_behind, class_of, field_number, held_number, scope_behind, scope_inside}
use Rattle.rg_code.specs.Lowering.{scope_at_end}
use Rattle.rg_verify_expressions.specs.Naming.{variable_name, variable_in, field_name, written}
use Rattle.rg_verify_expressions.specs.Raised.{path_named, named, IsFound}
use Rattle.rg_verify_expressions.specs.Statements as numbers
use Rattle.rg_verify_expressions.specs.Found as found
use Rattle.rg_verify_expressions.specs.Found.{call_named, right_named, kind_named, else_named, block_named, IsEntryFound, IsGivingFound, IsKindFound}
use Rattle.rg_verify_expressions.specs.Found.{IsElseFound, IsBlockFound}
use Rattle.rg_numbered.specs.Numbered.{field_numbers, path_numbers, numbered, numbered_call, numbered_right, numbered_assign, numbered_swap}
use Rattle.rg_numbered.specs.Numbered.{bridge_class}
use Rattle.rg_numbered.specs.Numbered.{numbered_enter, giving_slot, numbered_kind, numbered_else, numbered_block}
use Rattle.rg_renamed.specs.Renamed.{renamed_classes, renamed_type}
use Rattle.rg_renamed.proofs.Classes.{AreFew, type-again, good-again}
use Rattle.rg_renamed.proofs.Environments.{ok-is}
use Rattle.rg_renamed.proofs.Follows.{Follows, ok-follows, same-follows, bind-follows, then-follows, test-follows, passes-follows, found-follows}
use Rattle.rg_renamed.proofs.Follows.{line-follows, fault-follows}
use Rattle.rg_renamed.proofs.Scopes.{scope_again, entry_again, env_again, Scoped, slot-is, slot-name, found-again, new-again, marked-again, more-at}
use Rattle.rg_renamed.proofs.Scopes.{more-again, long, scoped-stays, closed-again, joined-again, covers-again, slots-more, scope-more, scoped-behind}
use Rattle.rg_renamed.proofs.Scopes.{scoped-inside}
use Rattle.rg_renamed.proofs.Behind.{scope-long, behind-count, behind-room, bridge-slot, scoped-closed, behind-again, end-again}
use Rattle.rg_renamed.proofs.Paths.{names_again, name_again, split-numbers, class_of-again, array-follows, array-found, writable-follows, alone-found}
use Rattle.rg_renamed.proofs.Paths.{last-found, along-is}
use Rattle.rg_renamed.proofs.Expressions.{judged_again, called_again, expr-follows, expr-found, call-follows, call-found, right-follows, right-found}
use Rattle.rg_renamed.proofs.Expressions.{name-found}
use Rattle.rg_renamed.proofs.Statements.{declare-follows, assign-follows, element-follows, swap-follows, test-goes, print-goes, return-goes}
use Rattle.rg_renamed.proofs.Statements.{call-goes}
use Rattle.rg_renamed.proofs.Statements.{enter-variable, enter-field, enter-absent, giving-follows, left-again, last-again, fields-apart}

-- a statement of two kinds of parts: it has no fault again, and it is found
module _ (cs : List Class) (few : AreFew cs) (m : Truth) where
  abbrev again : List Class
  again = renamed_classes cs

  -- Windows

  module _ (env : Env) (ss : Scope) (s : Scoped m env ss) (x : Variable) (fs : List Name) (z : Name) (b : Block) (w : Option Name) where
    abbrev inside : Scope
    inside = scope_inside cs ss (record { base = x; fields = fs }) z

    abbrev end : Scope
    end = scope_at_end cs inside b

    abbrev inner : numbers.Block
    inner = numbered_block cs inside b

    -- what is said of the block
    record BlockGoes : Type 0 where
      follows : (front : Env) → Scoped m front inside → Follows (env_again m) (judge_block cs None front b)
          (judge_block again None (env_again m front) (block_named m (length inside) inner))
      scoped : (front out : Env) → Scoped m front inside → judge_block cs None front b ≡ Ok out → Scoped m out end

    window-follows : (last : Option Ty) (line : ℕ) (gs : List Name) → length ss + 1 < 2 ^ 64 → BlockGoes →
        Follows (env_again m) (judge_enter cs env x fs z)
        (judge_enter again (env_again m env) (variable_in m (slot_of ss x)) gs (variable_name (length ss))) →
        ((o : Env) → Scoped m o ss → left (variable_in m (slot_of ss x)) gs (env_again m o) ≡ env_again m (left x fs o)) →
        Follows (env_again m) (judge_kind cs last line env (tree.enter (record { base = x; fields = fs }) z b w))
        (judge_kind again last line (env_again m env) (tree.enter (record { base = variable_in m (slot_of ss x); fields = gs })
        (variable_name (length ss)) (block_named m (length ss + 1) inner) (option_map variable_name (giving_slot end w))))
    window-follows last line gs room goes first leave =
        bind-follows (env_again m) _ _ _ _ _ (line-follows _ line _ _ first) (λ f is.
        let entered = at_line-ok line (judge_enter cs env x fs z) f is in
        let i = scoped-inside m cs env ss s x fs z f room entered in
        bind-follows (env_again m) _ _ _ _ _
        (subst (λ (n : ℕ). Follows (env_again m) (judge_block cs None f b) (judge_block again None (env_again m f) (block_named m n inner)))
        (slots-more ss (record { name = Some z; ty = Ref Mut (class_of cs (type_along cs (type_in ss x) fs)) })) (goes.follows f i)) (λ out is'.
        let o = goes.scoped f out i is' in
        then-follows (λ (u : Unit {0}). u) _ _ _ _ _
        (line-follows _ line _ _ (giving-follows cs few m out end (length ss) z w o
        (bridge-slot m cs env ss (record { base = x; fields = fs }) z b s (enter-absent cs few m env ss s x fs z f entered))))
        (ok-follows _ _ _
        (ap (left (variable_in m (slot_of ss x)) gs) (closed-again m env out)
        ∙ leave (closed env out) (scoped-closed m cs env out ss inside
        (record { name = Some z; ty = Ref Mut (class_of cs (type_along cs (type_in ss x) fs)) }) b s refl o)))))

  enter-follows : (env : Env) (ss : Scope) (s : Scoped m env ss) (x : Variable) (fs : List Name) (z : Name) (b : Block) (w : Option Name)
      (last : Option Ty) (line : ℕ) → length ss + 1 < 2 ^ 64 → BlockGoes env ss s x fs z b w →
      Follows (env_again m) (judge_kind cs last line env (tree.enter (record { base = x; fields = fs }) z b w))
      (judge_kind again last line (env_again m env) (kind_named m (length ss)
      (numbered_enter cs ss x fs (inner env ss s x fs z b w) (giving_slot (end env ss s x fs z b w) w))))
  enter-follows env ss s x [] z b w last line room goes =
      window-follows env ss s x [] z b w last line [] room goes (enter-variable cs few m env ss s x z) (λ o g. left-again cs few m o ss x g)
  enter-follows env ss s x (f ∷ fs) z b w last line room goes =
      let P : List Name → Type 0 = λ gs.
      Follows (env_again m) (judge_kind cs last line env (tree.enter (record { base = x; fields = f ∷ fs }) z b w))
      (judge_kind again last line (env_again m env) (tree.enter (record { base = variable_in m (slot_of ss x); fields = gs })
      (variable_name (length ss)) (block_named m (length ss + 1) (inner env ss s x (f ∷ fs) z b w))
      (option_map variable_name (giving_slot (end env ss s x (f ∷ fs) z b w) w)))) in
      subst P (sym (fields-apart cs few m (type_in ss x) f fs))
      (window-follows env ss s x (f ∷ fs) z b w last line (names_again cs (type_in ss x) (f ∷ fs)) room goes
      (enter-field cs few m env ss s x f fs z) (λ o g. refl))

  -- Scopes at the end of blocks

  pub block-scoped : (result : Option Ty) (env out : Env) (ss : Scope) (b : Block) → Scoped m env ss → length ss + block_names b < 2 ^ 64 →
      judge_block cs result env b ≡ Ok out → Scoped m out (scope_at_end cs ss b)
  block-scoped result env out ss empty s r h = subst (λ (o : Env). Scoped m o ss) (ok-is h) s
  block-scoped result env out ss (next (stmt line k) b) s r h =
      let p = bind-ok (judge_kind cs (last_of result b) line env k) _ out h in
      let l = behind-room cs ss k in
      let mid = scoped-behind m cs env ss s (last_of result b) line k p.0 (omega (arith, l, r)) p.1 in
      block-scoped result p.0 out (scope_behind cs ss k) b mid (omega (arith, l, r)) p.2

  -- Statements

  pub test-scoped : (env front : Env) (ss : Scope) (line : ℕ) (e : Expr) → Scoped m env ss → at_line line (judge_test cs env e) ≡ Ok front →
      Scoped m front ss
  test-scoped env front ss line e s h =
      scoped-stays m env ss s front (judge_test-stays cs env front e s.distinct (at_line-ok line (judge_test cs env e) front h))

  mutual
    kind-follows : (last : Option Ty) (line : ℕ) (env : Env) (ss : Scope) (k : StmtKind) → Scoped m env ss → length ss + kind_names k < 2 ^ 64 →
        Follows (env_again m) (judge_kind cs last line env k)
        (judge_kind again last line (env_again m env) (kind_named m (length ss) (numbered_kind cs ss k)))
    kind-follows last line env ss (declare x t r) s h = line-follows _ line _ _ (declare-follows cs few m env ss s x t r)
    kind-follows last line env ss (assign p r) s h = assign-follows cs few m env ss s last line p.base p.fields r
    kind-follows last line env ss (assign_element q e r) s h = line-follows _ line _ _ (element-follows cs few m env ss s q.base q.fields e r)
    kind-follows last line env ss (call c) s h = line-follows _ line _ _ (call-goes cs few m env ss s c)
    kind-follows last line env ss (swap y p) s h = swap-follows cs few m env ss s last line y p.base p.fields
    kind-follows last line env ss (branch e b other) s h =
        bind-follows (env_again m) _ _ _ _ _ (line-follows _ line _ _ (test-goes cs few m env ss s e)) (λ front is.
        let mid = test-scoped env front ss line e s is in
        bind-follows (env_again m) _ _ _ _ _ (block-follows None front ss b mid (omega (arith, h))) (λ out is'.
        bind-follows (env_again m) _ _ _ _ _ (else-follows front ss other mid (omega (arith, h))) (λ out' is''.
        ok-follows _ _ _
        (ap (λ (o : Env). joined o (closed (env_again m front) (env_again m out'))) (closed-again m front out)
        ∙ ap (joined (env_again m (closed front out))) (closed-again m front out')
        ∙ joined-again m (closed front out) (closed front out')))))
    kind-follows last line env ss (while e b) s h =
        bind-follows (env_again m) _ _ _ _ _ (line-follows _ line _ _ (test-goes cs few m env ss s e)) (λ front is.
        bind-follows (env_again m) _ _ _ _ _ (block-follows None front ss b (test-scoped env front ss line e s is) h) (λ out is'.
        then-follows (λ (u : Unit {0}). u) _ (at_line line (test (covers env out) Loop))
        (at_line line (test (covers (env_again m env) (env_again m out)) Loop)) _ _
        (same-follows _ _ (ap (λ (c : Truth). at_line line (test c Loop)) (covers-again m env out))) (ok-follows _ _ _ refl)))
    kind-follows last line env ss (enter p z b w) s h =
        let more = slots-more ss (record { name = Some z; ty = Ref Mut (class_of cs (type_along cs (type_in ss p.base) p.fields)) }) in
        enter-follows env ss s p.base p.fields z b w last line (omega (arith, h)) (record {
          follows = λ front i. block-follows None front (scope_inside cs ss p z) b i (omega (arith, h, more));
          scoped = λ front out i g. block-scoped None front out (scope_inside cs ss p z) b i (omega (arith, h, more)) g;
        })
    kind-follows last line env ss (print e) s h = line-follows _ line _ _ (print-goes cs few m env ss s e)
    kind-follows last line env ss collect s h = ok-follows _ _ _ refl
    kind-follows last line env ss (return e) s h = line-follows _ line _ _ (return-goes cs few m env ss s last e)

    else-follows : (env : Env) (ss : Scope) (o : Else) → Scoped m env ss → length ss + else_names o < 2 ^ 64 →
        Follows (env_again m) (judge_else cs env o) (judge_else again (env_again m env) (else_named m (length ss) (numbered_else cs ss o)))
    else-follows env ss no_else s h = ok-follows _ _ _ refl
    else-follows env ss (otherwise b) s h = block-follows None env ss b s h

    pub block-follows : (result : Option Ty) (env : Env) (ss : Scope) (b : Block) → Scoped m env ss → length ss + block_names b < 2 ^ 64 →
        Follows (env_again m) (judge_block cs result env b)
        (judge_block again result (env_again m env) (block_named m (length ss) (numbered_block cs ss b)))
    block-follows result env ss empty s h = ok-follows _ _ _ refl
    block-follows result env ss (next (stmt line k) b) s h =
        let behind = scope_behind cs ss k in
        let inner = numbered_block cs behind b in
        let n = found.slots_behind (length ss) (numbered_kind cs ss k) in
        let l = behind-room cs ss k in
        bind-follows (env_again m) _ _ _ _ _
        (subst (λ (t : Option Ty). Follows (env_again m) (judge_kind cs (last_of result b) line env k)
        (judge_kind again t line (env_again m env) (kind_named m (length ss) (numbered_kind cs ss k)))) (sym (last-again cs behind m n result b))
        (kind-follows (last_of result b) line env ss k s (omega (arith, h)))) (λ mid is.
        subst (λ (j : ℕ). Follows (env_again m) (judge_block cs result mid b) (judge_block again result (env_again m mid) (block_named m j inner)))
        (sym (behind-count cs ss k))
        (block-follows result mid behind b (scoped-behind m cs env ss s (last_of result b) line k mid (omega (arith, l, h)) is)
        (omega (arith, l, h))))
