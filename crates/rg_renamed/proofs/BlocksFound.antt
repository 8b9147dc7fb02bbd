-- Blocks that have no fault are found by their numbers.
use Rattle.std.proofs.Common.{◌≡◌, refl, sym, ap, ◌∙◌, subst, ℕ, zero, suc, ◌+◌, ◌<◌, ◌≤◌, ◌^◌, Bool as Truth, true, false, ◌||◌, not as negated}
use Rattle.std.proofs.Common.{if◌then◌else◌, List, [], ◌∷◌, ◌++◌, length, map, Option, Some, None, option_map, ok_or, Ok, Err, arith}
use Rattle.std.proofs.lemmas.List.{length-map}
use Rattle.rg_base.specs.declared.words.Cap.TheVariants.{Mut}
use Rattle.rg_base.specs.declared.ty.Ty.{Ty}
use Rattle.rg_base.specs.declared.ty.Ty.TheVariants.{Int, Bool, Ref}
use Rattle.rg_base.specs.declared.fault.Code.TheVariants.{Unknown, Duplicate, Mismatch, Unavailable, Capability, OutsideWindow, Loop, IsoField}
use Rattle.rg_base.specs.declared.fault.Code.TheVariants.{Return, CallTarget}
use Rattle.rg_tree.specs.Tree as tree
use Rattle.rg_tree.specs.Tree.{Name, Variable, Ty as Written, Path, Expr, Call, Right, value, new, new_tmp, new_iso, freeze, merge, read, more}
use Rattle.rg_tree.specs.Tree.{result_of, stmt, StmtKind, declare, assign, assign_element, call, swap, branch, while, enter, print, collect, return}
use Rattle.rg_tree.specs.Tree.{Else, no_else, otherwise, Block, empty, then as next, Class}
use Rattle.rg_rules.specs.Answers.{◌>>=◌, ◌>>◌, test, Answer, Lined, at_line}
use Rattle.rg_rules.specs.Names.{kind_names, else_names, block_names}
use Rattle.rg_rules.specs.Capabilities.{is_iso, iso_class, same_type, stays_at_depth, may_write, printable}
use Rattle.rg_rules.specs.Types.{good_type, type_of}
use Rattle.rg_rules.specs.Environment.{Env, Entry, entry_of, visible, at_depth, seen_type, with_variable, marked, marked_entry, is_ready, is_lent}
use Rattle.rg_rules.specs.Environment.{ready, lent, deeper, closed, joined, covers}
use Rattle.rg_rules.specs.Paths.{Looked, walk_array, writable_field, all_but_last, last_field}
use Rattle.rg_rules.specs.Expressions.{Judged, judge_expr}
use Rattle.rg_rules.specs.Rights.{Called, judge_call, judge_right}
use Rattle.rg_rules.specs.Statements.{judge_declare, is_call, judge_assign, judge_assign_element, judge_call_alone, swapped_field, judge_swap}
use Rattle.rg_rules.specs.Statements.{judge_test, judge_enter, judge_giving, left, judge_print, judge_return, last_of, judge_kind, judge_else}
use Rattle.rg_rules.specs.Statements.{judge_block}
use Rattle.rg_rules.proofs.Answers.{bind-ok, then-ok, test-then, ok_or-ok, at_line-ok}
use Rattle.rg_sound.proofs.Frames.Entry.{Absent}
use Rattle.rg_sound.proofs.Frames.JudgeRight.{judge_expr-stays, judge_right-stays}
use Rattle.rg_sound.proofs.Frames.Judge.{judge_declare-parts, judge_assign-parts, judge_assign-field, judge_assign-element, judge_swap-parts}
use Rattle.rg_sound.proofs.Frames.Judge.{judge_test-stays, judge_enter-variable, judge_enter-field}
use Rattle.rg_code.specs.Lowering.{Scope, with_slot, slot_of, type_in, type_along, type_behind, class_of, field_number, held_number, scope_behind}
use Rattle.rg_code.specs.Lowering.{scope_inside, scope_at_end}
use Rattle.rg_verify_expressions.specs.Naming.{variable_name, variable_in, field_name, written}
use Rattle.rg_verify_expressions.specs.Raised.{path_named, named, IsFound}
use Rattle.rg_verify_expressions.specs.Statements as numbers
use Rattle.rg_verify_expressions.specs.Found as found
use Rattle.rg_verify_expressions.specs.Found.{call_named, right_named, kind_named, else_named, block_named, IsEntryFound, IsGivingFound, IsKindFound}
use Rattle.rg_verify_expressions.specs.Found.{IsElseFound, IsBlockFound}
use Rattle.rg_numbered.specs.Numbered.{field_numbers, path_numbers, numbered, numbered_call, numbered_right, numbered_assign, numbered_swap}
use Rattle.rg_numbered.specs.Numbered.{bridge_class}
use Rattle.rg_numbered.specs.Numbered.{numbered_enter, giving_slot, numbered_kind, numbered_else, numbered_block}
use Rattle.rg_renamed.specs.Renamed.{renamed_classes, renamed_type}
use Rattle.rg_renamed.proofs.Classes.{AreFew, type-again, good-again}
use Rattle.rg_renamed.proofs.Environments.{ok-is}
use Rattle.rg_renamed.proofs.Follows.{Follows, ok-follows, same-follows, bind-follows, then-follows, test-follows, passes-follows, found-follows}
use Rattle.rg_renamed.proofs.Follows.{line-follows, fault-follows}
use Rattle.rg_renamed.proofs.Scopes.{scope_again, entry_again, env_again, Scoped, slot-is, slot-name, found-again, new-again, marked-again, more-at}
use Rattle.rg_renamed.proofs.Scopes.{more-again, long, scoped-stays, closed-again, joined-again, covers-again, slots-more, scope-more, scoped-behind}
use Rattle.rg_renamed.proofs.Scopes.{scoped-inside, HasSelf, type-is}
use Rattle.rg_renamed.proofs.Behind.{scope-long, behind-count, behind-room, bridge-slot, scoped-closed, behind-again, end-again}
use Rattle.rg_renamed.proofs.Paths.{names_again, name_again, split-numbers, class_of-again, array-follows, array-found, writable-follows, alone-found}
use Rattle.rg_renamed.proofs.Paths.{last-found, along-is}
use Rattle.rg_renamed.proofs.Expressions.{judged_again, called_again, expr-follows, expr-found, call-follows, call-found, right-follows, right-found}
use Rattle.rg_renamed.proofs.Expressions.{name-found}
use Rattle.rg_renamed.proofs.Statements.{fields-apart}
use Rattle.rg_renamed.proofs.Blocks.{block-scoped, test-scoped}
use Rattle.rg_renamed.proofs.NumberedCode.{KindSwaps, ElseSwaps, BlockSwaps}

no-field : (cs : List Class) (env : Env) (x : Variable) (fs : List Name) (t : Ty) → swapped_field cs env x fs ≡ Ok t → fs ≡ [] → ⊥
no-field cs env x [] t h e = let q : Err Mismatch ≡ Ok t = h in grind arith
no-field cs env x (f ∷ fs) t h e = grind arith

-- In an accepted body each `swap` has a field

mutual
  kind-swaps : (cs : List Class) (last : Option Ty) (line : ℕ) (env out : Env) (k : StmtKind) → judge_kind cs last line env k ≡ Ok out → KindSwaps k
  kind-swaps cs last line env out (declare x t r) h = tt
  kind-swaps cs last line env out (assign p r) h = tt
  kind-swaps cs last line env out (assign_element q e r) h = tt
  kind-swaps cs last line env out (call c) h = tt
  kind-swaps cs last line env out (swap y p) h =
      let q = judge_swap-parts cs env out y p (at_line-ok line _ out h) in λ e. no-field cs env p.base p.fields q.ty q.field e
  kind-swaps cs last line env out (branch e b other) h =
      let f = bind-ok (at_line line (judge_test cs env e)) _ out h in
      let a = bind-ok (judge_block cs None f.0 b) _ out f.2 in
      let c = bind-ok (judge_else cs f.0 other) _ out a.2 in (block-swaps cs None f.0 a.0 b a.1, else-swaps cs f.0 c.0 other c.1)
  kind-swaps cs last line env out (while e b) h =
      let f = bind-ok (at_line line (judge_test cs env e)) _ out h in
      let a = bind-ok (judge_block cs None f.0 b) _ out f.2 in block-swaps cs None f.0 a.0 b a.1
  kind-swaps cs last line env out (enter p z b w) h =
      let f = bind-ok (at_line line (judge_enter cs env p.base p.fields z)) _ out h in
      let a = bind-ok (judge_block cs None f.0 b) _ out f.2 in block-swaps cs None f.0 a.0 b a.1
  kind-swaps cs last line env out (print e) h = tt
  kind-swaps cs last line env out collect h = tt
  kind-swaps cs last line env out (return e) h = tt

  else-swaps : (cs : List Class) (env out : Env) (o : Else) → judge_else cs env o ≡ Ok out → ElseSwaps o
  else-swaps cs env out no_else h = tt
  else-swaps cs env out (otherwise b) h = block-swaps cs None env out b h

  pub block-swaps : (cs : List Class) (result : Option Ty) (env out : Env) (b : Block) → judge_block cs result env b ≡ Ok out → BlockSwaps b
  block-swaps cs result env out empty h = tt
  block-swaps cs result env out (next (stmt line k) b) h =
      let p = bind-ok (judge_kind cs (last_of result b) line env k) _ out h in
      (kind-swaps cs (last_of result b) line env p.0 k p.1, block-swaps cs result p.0 out b p.2)

module _ (cs : List Class) (few : AreFew cs) (m : Truth) where
  abbrev again : List Class
  again = renamed_classes cs

  module _ (env : Env) (ss : Scope) (s : Scoped m env ss) where
    assign-found : (out : Env) (x : Variable) (fs : List Name) (r : Right) → judge_assign cs env x fs r ≡ Ok out →
        IsKindFound again (scope_again m ss) m (numbered_assign cs ss x fs (numbered_right cs ss r))
    assign-found out x [] r h =
        let p = judge_assign-parts cs env out x r h in
        (alone-found cs few m env ss s x, right-found cs few m env ss s p.entry.ty r p.judged p.typed)
    assign-found out x (f ∷ fs) r h =
        let p = judge_assign-field cs env out x f fs r h in
        ((last-found cs few m env ss s x f fs p.ty p.writable).path, right-found cs few m env ss s p.ty r p.judged p.typed)

    swap-found : (y : Name) (x : Variable) (fs : List Name) (t : Ty) → swapped_field cs env x fs ≡ Ok t →
        IsKindFound again (scope_again m ss) m (numbered_swap cs ss (slot_of ss (Some y)) x fs)
    swap-found y x [] t h = absurd (no-field cs env x [] t h refl)
    swap-found y x (f ∷ fs) t h = (name-found cs few m env ss s y, (last-found cs few m env ss s x f fs t h).path)

  -- the variable that gives a bridge
  giving-found : (out : Env) (end : Scope) (w : Option Name) → Scoped m out end → IsGivingFound (scope_again m end) (giving_slot end w)
  giving-found out end None s = tt
  giving-found out end (Some w) s = name-found cs few m out end s w

  module _ (env : Env) (ss : Scope) (s : Scoped m env ss) (x : Variable) (fs : List Name) (z : Name) (b : Block) (w : Option Name) where
    abbrev inside : Scope
    inside = scope_inside cs ss (record { base = x; fields = fs }) z

    abbrev end : Scope
    end = scope_at_end cs inside b

    abbrev inner : numbers.Block
    inner = numbered_block cs inside b

    -- what is entered by a path of these numbers
    record EnteredFound (ks : List ℕ) (I : Scope) : Type 0 where
      block : IsBlockFound again I m inner
      giving : IsGivingFound (scope_at_end again I (block_named m (length I) inner)) (giving_slot end w)

    entered-found : (out : Env) (ks : List ℕ) → Scoped m out end →
        type_along again (type_in (scope_again m ss) (variable_in m (slot_of ss x))) (map field_name ks) ≡ type_along cs (type_in ss x) fs →
        IsBlockFound again (scope_again m inside) m inner → HasSelf m inside →
        EnteredFound ks (scope_inside again (scope_again m ss) (path_named m (slot_of ss x) ks) (variable_name (length (scope_again m ss))))
    entered-found out ks o along h self =
        let ts = scope_again m ss in
        let t = type_along again (type_in ts (variable_in m (slot_of ss x))) (map field_name ks) in
        let u = type_along cs (type_in ss x) fs in
        let same : scope_inside again ts (path_named m (slot_of ss x) ks) (variable_name (length ts)) ≡ scope_again m inside =
        ap (λ (n : ℕ). with_slot ts (Some (variable_name n)) (Ref Mut (class_of again t))) (scope-long m ss)
        ∙ ap (λ (c : ℕ). with_slot ts (Some (variable_name (length ss))) (Ref Mut c)) (class_of-again cs t ∙ ap (class_of cs) along)
        ∙ scope-more m ss (Some z) (Ref Mut (class_of cs u)) s.self in
        let there : scope_at_end again (scope_again m inside) (block_named m (length (scope_again m inside)) inner) ≡ scope_again m end =
        ap (λ (n : ℕ). scope_at_end again (scope_again m inside) (block_named m n inner)) (scope-long m inside) ∙ end-again cs few m inside b self in
        subst (EnteredFound ks) (sym same) (record {
          block = h;
          giving = subst (λ (e : Scope). IsGivingFound e (giving_slot end w)) (sym there) (giving-found out end w o);
        })

  enter-found : (env front out : Env) (ss : Scope) (s : Scoped m env ss) (x : Variable) (fs : List Name) (z : Name) (b : Block) (w : Option Name) →
      judge_enter cs env x fs z ≡ Ok front → Scoped m out (end env ss s x fs z b w) →
      IsBlockFound again (scope_again m (inside env ss s x fs z b w)) m (inner env ss s x fs z b w) → HasSelf m (inside env ss s x fs z b w) →
      IsKindFound again (scope_again m ss) m (numbered_enter cs ss x fs (inner env ss s x fs z b w) (giving_slot (end env ss s x fs z b w) w))
  enter-found env front out ss s x [] z b w e o h self =
      let r = entered-found env ss s x [] z b w out [] o (type-is m env ss s x) h self in (
        record {
          path = alone-found cs few m env ss s x;
          class = class_of-again cs (type_in (scope_again m ss) (variable_in m (slot_of ss x)))
              ∙ ap (class_of cs) (type-is m env ss s x);
        },
        r.block,
        r.giving,
      )
  enter-found env front out ss s x (f ∷ fs) z b w e o h self =
      let p = judge_enter-field cs env front x f fs z e in
      let l = last-found cs few m env ss s x f fs p.ty p.writable in
      let ks = path_numbers cs ss x (all_but_last f fs) ++ held_number cs ss x f fs ∷ [] in
      let t = type_in (scope_again m ss) (variable_in m (slot_of ss x)) in
      let along : type_along again t (map field_name ks) ≡ type_along cs (type_in ss x) (f ∷ fs) =
      ap (λ (gs : List Name). type_along again t gs) (fields-apart cs few m (type_in ss x) f fs) ∙ l.along in
      let r = entered-found env ss s x (f ∷ fs) z b w out ks o along h self in (
        record { path = l.path; class = class_of-again cs (type_along again t (map field_name ks)) ∙ ap (class_of cs) along },
        r.block,
        r.giving,
      )

  mutual
    kind-found : (last : Option Ty) (line : ℕ) (env out : Env) (ss : Scope) (k : StmtKind) → Scoped m env ss → length ss + kind_names k < 2 ^ 64 →
        judge_kind cs last line env k ≡ Ok out → IsKindFound again (scope_again m ss) m (numbered_kind cs ss k)
    kind-found last line env out ss (declare x t r) s l h =
        let p = judge_declare-parts cs env out x t r (at_line-ok line _ out h) in
        (type-again cs few t, right-found cs few m env ss s p.declared r p.judged p.typed)
    kind-found last line env out ss (assign p r) s l h = assign-found env ss s out p.base p.fields r (at_line-ok line _ out h)
    kind-found last line env out ss (assign_element q e r) s l h =
        let p = judge_assign-element cs env out q.base q.fields e r (at_line-ok line _ out h) in
        let mid = scoped-stays m env ss s p.index.env (judge_expr-stays cs env (Some Int) e p.index s.distinct p.index_typed) in (
          array-found cs few m env ss s q.base q.fields p.array p.walked,
          expr-found cs few m env ss (Some Int) e p.index s p.index_typed,
          right-found cs few m p.index.env ss mid p.array.ty r p.judged p.typed,
        )
    kind-found last line env out ss (call c) s l h =
        let p = bind-ok (judge_call cs env c) _ out (at_line-ok line _ out h) in call-found cs few m env ss s c p.0 p.1
    kind-found last line env out ss (swap y p) s l h =
        let q = judge_swap-parts cs env out y p (at_line-ok line _ out h) in swap-found env ss s y p.base p.fields q.ty q.field
    kind-found last line env out ss (branch e b other) s l h =
        let f = bind-ok (at_line line (judge_test cs env e)) _ out h in
        let a = bind-ok (judge_block cs None f.0 b) _ out f.2 in
        let c = bind-ok (judge_else cs f.0 other) _ out a.2 in
        let j = bind-ok (judge_expr cs env (Some Bool) e) _ f.0 (at_line-ok line (judge_test cs env e) f.0 f.1) in
        let mid = test-scoped cs few m env f.0 ss line e s f.1 in (
          expr-found cs few m env ss (Some Bool) e j.0 s j.1,
          block-found None f.0 a.0 ss b mid (omega (arith, l)) a.1,
          else-found f.0 c.0 ss other mid (omega (arith, l)) c.1,
        )
    kind-found last line env out ss (while e b) s l h =
        let f = bind-ok (at_line line (judge_test cs env e)) _ out h in
        let a = bind-ok (judge_block cs None f.0 b) _ out f.2 in
        let j = bind-ok (judge_expr cs env (Some Bool) e) _ f.0 (at_line-ok line (judge_test cs env e) f.0 f.1) in
        (expr-found cs few m env ss (Some Bool) e j.0 s j.1, block-found None f.0 a.0 ss b (test-scoped cs few m env f.0 ss line e s f.1) l a.1)
    kind-found last line env out ss (enter p z b w) s l h =
        let f = bind-ok (at_line line (judge_enter cs env p.base p.fields z)) _ out h in
        let a = bind-ok (judge_block cs None f.0 b) _ out f.2 in
        let entered = at_line-ok line (judge_enter cs env p.base p.fields z) f.0 f.1 in
        let more = slots-more ss (record { name = Some z; ty = Ref Mut (class_of cs (type_along cs (type_in ss p.base) p.fields)) }) in
        let i = scoped-inside m cs env ss s p.base p.fields z f.0 (omega (arith, l)) entered in
        let I = scope_inside cs ss p z in
        enter-found env f.0 a.0 ss s p.base p.fields z b w entered (block-scoped cs few m None f.0 a.0 I b i (omega (arith, l, more)) a.1)
        (block-found None f.0 a.0 I b i (omega (arith, l, more)) a.1) i.self
    kind-found last line env out ss (print e) s l h =
        let j = bind-ok (judge_expr cs env None e) _ out (at_line-ok line _ out h) in expr-found cs few m env ss None e j.0 s j.1
    kind-found last line env out ss collect s l h = tt
    kind-found last line env out ss (return e) s l h =
        let t = bind-ok (ok_or last Return) _ out (at_line-ok line _ out h) in
        let j = bind-ok (judge_expr cs env (Some t.0) e) _ out t.2 in expr-found cs few m env ss (Some t.0) e j.0 s j.1

    else-found : (env out : Env) (ss : Scope) (o : Else) → Scoped m env ss → length ss + else_names o < 2 ^ 64 → judge_else cs env o ≡ Ok out →
        IsElseFound again (scope_again m ss) m (numbered_else cs ss o)
    else-found env out ss no_else s l h = tt
    else-found env out ss (otherwise b) s l h = block-found None env out ss b s l h

    pub block-found : (result : Option Ty) (env out : Env) (ss : Scope) (b : Block) → Scoped m env ss → length ss + block_names b < 2 ^ 64 →
        judge_block cs result env b ≡ Ok out → IsBlockFound again (scope_again m ss) m (numbered_block cs ss b)
    block-found result env out ss empty s l h = tt
    block-found result env out ss (next (stmt line k) b) s l h =
        let p = bind-ok (judge_kind cs (last_of result b) line env k) _ out h in
        let behind = scope_behind cs ss k in
        let r = behind-room cs ss k in
        let mid = scoped-behind m cs env ss s (last_of result b) line k p.0 (omega (arith, r, l)) p.1 in
        let there : scope_behind again (scope_again m ss) (kind_named m (length (scope_again m ss)) (numbered_kind cs ss k)) ≡ scope_again m behind =
        ap (λ (n : ℕ). scope_behind again (scope_again m ss) (kind_named m n (numbered_kind cs ss k))) (scope-long m ss)
        ∙ behind-again cs few m ss k s.self in (
          kind-found (last_of result b) line env p.0 ss k s (omega (arith, l)) p.1,
          subst (λ (ts : Scope). IsBlockFound again ts m (numbered_block cs behind b)) (sym there)
              (block-found result p.0 out behind b mid (omega (arith, r, l)) p.2),
        )
