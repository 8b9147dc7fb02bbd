-- Expressions, calls and right sides that have a type have it again with numbers for names, and are found then.
use Rattle.std.proofs.Common.{◌≡◌, refl, sym, ap, ◌∙◌, subst, ℕ, ◌+◌, ◌==◌, Bool as Truth, true, false, not as negated, if◌then◌else◌, List, [], ◌∷◌}
use Rattle.std.proofs.Common.{length}
use Rattle.std.proofs.Common.{map, Option, Some, None, option_map, ok_or, Ok, arith}
use Rattle.std.proofs.lemmas.Bool.Decides.{nat_tests}
use Rattle.std.proofs.lemmas.List.{length-map}
use Rattle.std.specs.List.{AllByRecursion}
use Rattle.rg_base.specs.declared.words.Cap.{Cap}
use Rattle.rg_base.specs.declared.words.Cap.TheVariants.{Mut, Tmp, Imm, Iso}
use Rattle.rg_base.specs.declared.ty.Ty.{Ty}
use Rattle.rg_base.specs.declared.ty.Ty.TheVariants.{Int, Bool, Ref}
use Rattle.rg_base.specs.declared.fault.Code.TheVariants.{Unknown, Mismatch, Unavailable, IsoField, Capability, Arity, BadType}
use Rattle.rg_tree.specs.Tree.{Name, Variable, Path, Expr, number, boolean, nil, path, is_nil, neg, not, binary, size, element, Call, Right, value}
use Rattle.rg_tree.specs.Tree.{new, new_tmp, new_iso, freeze, merge, read, more, result_of, Param, Method, Class, ref}
use Rattle.rg_rules.specs.Answers.{◌>>=◌, ◌>>◌, test, Answer}
use Rattle.rg_rules.specs.Capabilities.{below, is_iso, iso_class}
use Rattle.rg_rules.specs.Types.{good_type, names_array, class_number, type_of, methods_of, method_named, param_types, method_result}
use Rattle.rg_rules.specs.Environment.{Env, Entry, Readiness, gone, entry_of, marked, used, seen_type, available, is_ready}
use Rattle.rg_rules.specs.Paths.{Looked, Followed, walk, walk_array, follow, read_through}
use Rattle.rg_rules.specs.Expressions.{Judged, against, nil_type, judge_path, judge_is_nil, among, operand_type, agree, result_type, judge_expr}
use Rattle.rg_rules.specs.Rights.{Called, judge_args, judge_call, judge_size, judge_new, judge_consumed, judge_right}
use Rattle.rg_rules.proofs.Answers.{bind-ok, then-ok, test-then, ok_or-ok}
use Rattle.rg_rules.proofs.Path.{follow-ok}
use Rattle.rg_rules.proofs.Expression.{binary-ok, element-ok}
use Rattle.rg_sound.proofs.Frames.JudgeRight.{judge_expr-stays}
use Rattle.rg_code.specs.Lowering.{Scope, slot_of, method_place, number_called, target_class, call_result, type_in, type_along, class_of}
use Rattle.rg_verify_expressions.specs.Naming.{variable_name, variable_in, class_name, method_name}
use Rattle.rg_verify_expressions.specs.Raised as raised
use Rattle.rg_verify_expressions.specs.Raised.{named, IsFound}
use Rattle.rg_verify_expressions.specs.Found.{call_named, right_named, IsSlotFound, IsCallFound, IsCountFound, IsRightFound}
use Rattle.rg_numbered.specs.Numbered.{path_numbers, numbered, numbered_call, numbered_right}
use Rattle.rg_numbered.proofs.Scopes.{class_of-is}
use Rattle.rg_renamed.specs.Renamed.{renamed_classes, renamed_method, renamed_params, renamed_type}
use Rattle.rg_renamed.proofs.Names.{from-long}
use Rattle.rg_renamed.proofs.Numbered.{params-long}
use Rattle.rg_renamed.proofs.Classes.{AreFew, class-number, good-again, array-again, params-again, result-again, method-again, called-again}
use Rattle.rg_renamed.proofs.Environments.{class_is}
use Rattle.rg_renamed.proofs.Follows.{Follows, ok-follows, same-follows, bind-follows, then-follows, test-follows, found-follows}
use Rattle.rg_renamed.proofs.Scopes.{scope_again, entry_again, env_again, Scoped, slot-is, slot-name, found-again, marked-again, scoped-stays}
use Rattle.rg_renamed.proofs.Paths.{names_again, class_of-again, walk-follows, array-follows, walked-again, path-found, alone-found, array-found}
use Rattle.rg_renamed.proofs.Paths.{along-is}

abbrev pub judged_again : Truth → Judged → Judged
judged_again m j = record { ty = j.ty; env = env_again m j.env }

abbrev pub called_again : Truth → Called → Called
called_again m j = record { result = j.result; env = env_again m j.env }

against-follows : (m : Truth) (w : Option Ty) (t : Ty) (env : Env) → Follows (judged_again m) (against w t env) (against w t (env_again m env))
against-follows m None t env = ok-follows _ _ _ refl
against-follows m (Some w) t env = test-follows _ (below t w) (below t w) Mismatch _ _ refl (λ b. ok-follows _ _ _ refl)

module _ (cs : List Class) (few : AreFew cs) (m : Truth) where
  abbrev again : List Class
  again = renamed_classes cs

  module _ (env : Env) (ss : Scope) (s : Scoped m env ss) where
    used-again : (x : Variable) (e : Entry) →
        used (variable_in m (slot_of ss x)) (entry_again m (slot_of ss x) e) (env_again m env) ≡ env_again m (used x e env)
    used-again x e = by (is_iso e.ty)
      where
        by : (b : Truth) → (if b then marked (variable_in m (slot_of ss x)) gone (env_again m env) else env_again m env)
            ≡ env_again m (if b then marked x gone env else env)
        by true = marked-again m env ss s x gone
        by false = refl

    path-follows : (x : Variable) (fs : List Name) → Follows (judged_again m) (judge_path cs env x fs)
        (judge_path again (env_again m env) (variable_in m (slot_of ss x)) (names_again cs (type_in ss x) fs))
    path-follows x [] =
        found-follows (entry_again m (slot_of ss x)) _ _ _ _ _ _ (λ e h. found-again m env ss s x e h)
        (λ e h. test-follows _ (available e) (available e) Unavailable _ _ refl (λ b. ok-follows _ _ _
        (let make : Env → Judged = λ o. record { ty = seen_type env e; env = o } in ap make (used-again x e))))
    path-follows x (f ∷ fs) =
        bind-follows (λ (t : Ty). t) _ _ _ _ _ (walk-follows cs few m env ss s x (f ∷ fs))
        (λ t is. test-follows _ (negated (is_iso t)) (negated (is_iso t)) IsoField _ _ refl (λ b. ok-follows _ _ _ refl))

    nil-follows : (x : Variable) (fs : List Name) → Follows (λ (u : Unit {0}). u) (judge_is_nil cs env x fs)
        (judge_is_nil again (env_again m env) (variable_in m (slot_of ss x)) (names_again cs (type_in ss x) fs))
    nil-follows x [] =
        found-follows (entry_again m (slot_of ss x)) _ _ _ _ _ _ (λ e h. found-again m env ss s x e h)
        (λ e h. test-follows _ (available e) (available e) Unavailable _ _ refl (λ b. same-follows _ _ refl))
    nil-follows x (f ∷ fs) =
        bind-follows (λ (t : Ty). t) _ _ _ _ _ (walk-follows cs few m env ss s x (f ∷ fs)) (λ t is. same-follows _ _ refl)

    path-is-found : (x : Variable) (fs : List Name) (j : Judged) → judge_path cs env x fs ≡ Ok j →
        IsFound again (scope_again m ss) m (raised.path (slot_of ss x) (path_numbers cs ss x fs))
    path-is-found x [] j h = alone-found cs few m env ss s x
    path-is-found x (f ∷ fs) j h = let p = bind-ok (walk cs env x (f ∷ fs)) _ j h in path-found cs few m env ss s x (f ∷ fs) p.0 p.1

    nil-is-found : (x : Variable) (fs : List Name) (u : Unit {0}) → judge_is_nil cs env x fs ≡ Ok u →
        IsFound again (scope_again m ss) m (raised.is_nil (slot_of ss x) (path_numbers cs ss x fs))
    nil-is-found x [] u h = alone-found cs few m env ss s x
    nil-is-found x (f ∷ fs) u h = let p = bind-ok (walk cs env x (f ∷ fs)) _ u h in path-found cs few m env ss s x (f ∷ fs) p.0 p.1

  -- Expressions

  expr-stays : (env : Env) (ss : Scope) (w : Option Ty) (e : Expr) (j : Judged) → Scoped m env ss → judge_expr cs env w e ≡ Ok j → Scoped m j.env ss
  expr-stays env ss w e j s h = scoped-stays m env ss s j.env (judge_expr-stays cs env w e j s.distinct h)

  pub expr-follows : (env : Env) (ss : Scope) (w : Option Ty) (e : Expr) → Scoped m env ss →
      Follows (judged_again m) (judge_expr cs env w e) (judge_expr again (env_again m env) w (named m (numbered cs ss e)))
  expr-follows env ss w (number z) s = against-follows m w Int env
  expr-follows env ss w (boolean b) s = against-follows m w Bool env
  expr-follows env ss w nil s =
      bind-follows (λ (t : Ty). t) _ (nil_type w) (nil_type w) _ _ (same-follows (nil_type w) (nil_type w) refl) (λ t is. against-follows m w t env)
  expr-follows env ss w (path q) s =
      bind-follows (judged_again m) _ _ _ _ _ (path-follows env ss s q.base q.fields) (λ j is. against-follows m w j.ty j.env)
  expr-follows env ss w (is_nil q) s =
      then-follows (λ (u : Unit {0}). u) _ _ _ _ _ (nil-follows env ss s q.base q.fields) (against-follows m w Bool env)
  expr-follows env ss w (neg a) s =
      bind-follows (judged_again m) _ _ _ _ _ (expr-follows env ss (Some Int) a s) (λ j is. against-follows m w Int j.env)
  expr-follows env ss w (not a) s =
      bind-follows (judged_again m) _ _ _ _ _ (expr-follows env ss (Some Bool) a s) (λ j is. against-follows m w Bool j.env)
  expr-follows env ss w (binary o a b) s =
      let want = operand_type (among o) in
      bind-follows (judged_again m) _ _ _ _ _ (expr-follows env ss want a s) (λ l is.
      bind-follows (judged_again m) _ _ _ _ _ (expr-follows l.env ss want b (expr-stays env ss want a l s is)) (λ r is'.
      test-follows _ (agree (among o) l.ty r.ty) (agree (among o) l.ty r.ty) Mismatch _ _ refl
      (λ t. against-follows m w (result_type (among o)) r.env)))
  expr-follows env ss w (size q) s =
      then-follows (λ (a : Looked). a) _ _ _ _ _ (array-follows cs few m env ss s q.base q.fields) (against-follows m w Int env)
  expr-follows env ss w (element q e) s =
      bind-follows (λ (a : Looked). a) _ _ _ _ _ (array-follows cs few m env ss s q.base q.fields) (λ a is.
      bind-follows (λ (t : Ty). t) _ (read_through a.receiver a.ty) (read_through a.receiver a.ty) _ _ (same-follows _ _ refl) (λ t is'.
      bind-follows (judged_again m) _ _ _ _ _ (expr-follows env ss (Some Int) e s) (λ j is''. against-follows m w t j.env)))

  pub expr-found : (env : Env) (ss : Scope) (w : Option Ty) (e : Expr) (j : Judged) → Scoped m env ss → judge_expr cs env w e ≡ Ok j →
      IsFound again (scope_again m ss) m (numbered cs ss e)
  expr-found env ss w (number z) j s h = tt
  expr-found env ss w (boolean b) j s h = tt
  expr-found env ss w nil j s h = tt
  expr-found env ss w (path q) j s h =
      let p = bind-ok (judge_path cs env q.base q.fields) _ j h in path-is-found env ss s q.base q.fields p.0 p.1
  expr-found env ss w (is_nil q) j s h =
      let p = then-ok (judge_is_nil cs env q.base q.fields) _ j h in nil-is-found env ss s q.base q.fields p.0 p.1
  expr-found env ss w (neg a) j s h =
      let p = bind-ok (judge_expr cs env (Some Int) a) _ j h in expr-found env ss (Some Int) a p.0 s p.1
  expr-found env ss w (not a) j s h =
      let p = bind-ok (judge_expr cs env (Some Bool) a) _ j h in expr-found env ss (Some Bool) a p.0 s p.1
  expr-found env ss w (binary o a b) j s h =
      let p = binary-ok cs env w (among o) a b j h in
      let want = operand_type (among o) in (
        expr-found env ss want a p.l s p.operands.left,
        expr-found p.l.env ss want b p.r (expr-stays env ss want a p.l s p.operands.left) p.operands.right,
      )
  expr-found env ss w (size q) j s h =
      let p = then-ok (walk_array cs env q.base q.fields) _ j h in array-found cs few m env ss s q.base q.fields p.0 p.1
  expr-found env ss w (element q e) j s h =
      let p = element-ok cs env w q e j h in
      (array-found cs few m env ss s q.base q.fields p.array p.walked, expr-found env ss (Some Int) e p.index s p.judged)

  pub args-follow : (env : Env) (ss : Scope) (ts : List Ty) (es : List Expr) → Scoped m env ss →
      Follows (env_again m) (judge_args cs env ts es) (judge_args again (env_again m env) ts (map (named m) (map (numbered cs ss) es)))
  args-follow env ss (t ∷ ts) (e ∷ es) s =
      bind-follows (judged_again m) _ _ _ _ _ (expr-follows env ss (Some t) e s)
      (λ j is. args-follow j.env ss ts es (expr-stays env ss (Some t) e j s is))
  args-follow env ss (t ∷ ts) [] s = ok-follows _ _ _ refl
  args-follow env ss [] es s = ok-follows _ _ _ refl

  args-found : (env out : Env) (ss : Scope) (ts : List Ty) (es : List Expr) → Scoped m env ss → length es ≡ length ts →
      judge_args cs env ts es ≡ Ok out → AllByRecursion (IsFound again (scope_again m ss) m) (map (numbered cs ss) es)
  args-found env out ss ts [] s l h = tt
  args-found env out ss [] (e ∷ es) s l h = absurd (omega (arith, l))
  args-found env out ss (t ∷ ts) (e ∷ es) s l h =
      let p = bind-ok (judge_expr cs env (Some t) e) _ out h in (
        expr-found env ss (Some t) e p.0 s p.1,
        args-found p.0.env out ss ts es (expr-stays env ss (Some t) e p.0 s p.1) (omega (arith, l)) p.2,
      )

  -- Calls

  module _ (env : Env) (ss : Scope) (s : Scoped m env ss) where
    -- what a method that was found gives
    abbrev given_by : List Class → Option Method → Option Ty
    given_by classes o = elim o [ None ↦ None | Some q ↦ method_result classes q ]

    -- the class that a call is made on
    target-is : (c : Call) (t : Ty) (r : Followed) → walk cs env c.target.base c.target.fields ≡ Ok t → follow t ≡ Ok r →
        target_class cs ss c ≡ r.class
    target-is c t r h g =
        class_of-is cs (type_along cs (type_in ss c.target.base) c.target.fields) r.class
        ((walked-again cs few m env ss s c.target.base c.target.fields t h).class ∙ ap class_is (follow-ok t r g).reference)

    -- the place of its method
    abbrev place : Call → ℕ
    place c = method_place (methods_of cs (target_class cs ss c)) c.method

    called-is : (c : Call) (k : ℕ) (q : Method) → target_class cs ss c ≡ k → method_named cs k c.method ≡ Some q →
        method_named again k (method_name (place c)) ≡ Some (renamed_method cs k (place c) q)
    called-is c k q e h =
        subst (λ (n : ℕ). method_named again k (method_name n) ≡ Some (renamed_method cs k n q))
        (ap (λ (i : ℕ). method_place (methods_of cs i) c.method) (sym e)) (method-again cs few k c.method q h)

    args-long : (es : List Expr) → length (map (named m) (map (numbered cs ss) es)) ≡ length es
    args-long es = length-map (map (numbered cs ss) es) (named m) ∙ length-map es (numbered cs ss)

    pub call-follows : (c : Call) → Follows (called_again m) (judge_call cs env c)
        (judge_call again (env_again m env) (call_named m (numbered_call cs ss c)))
    call-follows c =
        bind-follows (λ (t : Ty). t) _ _ _ _ _ (walk-follows cs few m env ss s c.target.base c.target.fields) (λ t is.
        bind-follows (λ (r : Followed). r) _ (follow t) (follow t) _ _ (same-follows (follow t) (follow t) refl) (λ r is'.
        found-follows (renamed_method cs r.class (place c)) _ (method_named cs r.class c.method)
        (method_named again r.class (method_name (place c))) Unknown _ _ (λ q h. called-is c r.class q (target-is c t r is is') h) (λ q h.
        test-follows _ (below t (Ref q.receiver r.class)) (below t (Ref q.receiver r.class)) Capability _ _ refl (λ b.
        test-follows _ (length c.args == length q.params)
        (length (map (named m) (map (numbered cs ss) c.args)) == length (renamed_params cs 1 q.params)) Arity _ _
        (ap (λ (n : ℕ). n == length (renamed_params cs 1 q.params)) (args-long c.args)
        ∙ ap (λ (n : ℕ). length c.args == n) (params-long cs 1 q.params)) (λ b'.
        bind-follows (env_again m) _ _ _ _ _
        (subst (λ (ts : List Ty). Follows (env_again m) (judge_args cs env (param_types cs q) c.args)
        (judge_args again (env_again m env) ts (map (named m) (map (numbered cs ss) c.args)))) (sym (params-again cs few 1 q.params))
        (args-follow env ss (param_types cs q) c.args s))
        (λ out is''. ok-follows _ _ _
        (let make : Option Ty → Called = λ o. record { result = o; env = env_again m out } in ap make (result-again cs few q.result))))))))

    pub call-found : (c : Call) (j : Called) → judge_call cs env c ≡ Ok j → IsCallFound again (scope_again m ss) m (numbered_call cs ss c)
    call-found c j h =
        let x = c.target.base in
        let fs = c.target.fields in
        let t = bind-ok (walk cs env x fs) _ j h in
        let r = bind-ok (follow t.0) _ j t.2 in
        let d = bind-ok (ok_or (method_named cs r.0.class c.method) Unknown) _ j r.2 in
        let b = test-then (below t.0 (Ref d.0.receiver r.0.class)) _ _ j d.2 in
        let n = test-then (length c.args == length d.0.params) _ _ j b.1 in
        let a = bind-ok (judge_args cs env (param_types cs d.0) c.args) _ j n.1 in
        let many : length c.args ≡ length d.0.params = let q = n.0 in grind (arith, nat_tests) in
        let there = ok_or-ok (method_named cs r.0.class c.method) Unknown d.0 d.1 in
        let class = target-is c t.0 r.0 t.1 r.1 in
        let named-there : method_named cs (target_class cs ss c) c.method ≡ Some d.0 =
        ap (λ (k : ℕ). method_named cs k c.method) class ∙ there in
        let target : target_class again (scope_again m ss) (call_named m (numbered_call cs ss c)) ≡ target_class cs ss c =
        class_of-again cs (type_along again (type_in (scope_again m ss) (variable_in m (slot_of ss x))) (names_again cs (type_in ss x) fs))
        ∙ ap (class_of cs) (along-is cs few m env ss s x fs t.0 t.1) in
        let again-there : method_named again (target_class cs ss c) (method_name (place c))
        ≡ Some (renamed_method cs (target_class cs ss c) (place c) d.0) =
        method-again cs few (target_class cs ss c) c.method d.0 named-there in
        record {
          target = path-found cs few m env ss s x fs t.0 t.1;
          args = args-found env a.0 ss (param_types cs d.0) c.args s (many ∙ sym (length-map d.0.params (λ (p : Param). type_of cs p.ty))) a.1;
          number = ap (λ (k : ℕ). number_called again k (method_name (place c))) target
              ∙ called-again cs few (target_class cs ss c) c.method d.0 named-there;
          result = ap (λ (k : ℕ). given_by again (method_named again k (method_name (place c)))) target
              ∙ ap (given_by again) again-there
              ∙ result-again cs few d.0.result
              ∙ sym (ap (given_by cs) named-there);
        }

    -- Right sides

    size-follows : (x : Name) (n : Option Expr) → Follows (env_again m) (judge_size cs env x n)
        (judge_size again (env_again m env) (class_name (class_number cs x)) (option_map (named m) (option_map (numbered cs ss) n)))
    size-follows x None =
        test-follows _ (negated (names_array cs x)) (negated (names_array again (class_name (class_number cs x)))) BadType _ _
        (ap (λ (b : Truth). negated b) (array-again cs few x)) (λ b. ok-follows _ _ _ refl)
    size-follows x (Some e) =
        test-follows _ (names_array cs x) (names_array again (class_name (class_number cs x))) BadType _ _ (array-again cs few x) (λ b.
        bind-follows (judged_again m) _ _ _ _ _ (expr-follows env ss (Some Int) e s) (λ j is. ok-follows _ _ _ refl))

    new-follows : (w : Ty) (cap : Cap) (x : Name) (n : Option Expr) → Follows (judged_again m) (judge_new cs env w cap x n)
        (judge_new again (env_again m env) w cap (class_name (class_number cs x)) (option_map (named m) (option_map (numbered cs ss) n)))
    new-follows w cap x n =
        bind-follows (λ (t : Ty). t) _ (good_type cs (ref cap x)) (good_type again (ref cap (class_name (class_number cs x)))) _ _
        (same-follows _ _ (good-again cs few (ref cap x))) (λ t is.
        bind-follows (env_again m) _ _ _ _ _ (size-follows x n) (λ out is'. against-follows m (Some w) t out))

    consumed-follows : (w : Ty) (cap : Cap) (y : Name) → Follows (judged_again m) (judge_consumed env w cap y)
        (judge_consumed (env_again m env) w cap (variable_name (slot_of ss (Some y))))
    consumed-follows w cap y =
        let v = slot-name m ss y s.self in
        subst (λ (x : Variable). Follows (judged_again m) (judge_consumed env w cap y)
        (◌>>=◌ (ok_or (entry_of (env_again m env) x) Unknown) (λ (e : Entry).
        ◌>>=◌ (ok_or (iso_class e.ty) Mismatch) (λ (c : ℕ).
        ◌>>◌ (test (is_ready e.readiness) Unavailable)
        (against (Some w) (Ref cap c) (marked x gone (env_again m env))))))) v
        (found-follows (entry_again m (slot_of ss (Some y))) _ _ _ _ _ _ (λ e h. found-again m env ss s (Some y) e h) (λ e h.
        found-follows (λ (c : ℕ). c) _ (iso_class e.ty) (iso_class e.ty) Mismatch _ _ (λ c g. g) (λ c g.
        test-follows _ (is_ready e.readiness) (is_ready e.readiness) Unavailable _ _ refl (λ b.
        subst (λ (o : Env). Follows (judged_again m) (against (Some w) (Ref cap c) (marked (Some y) gone env)) (against (Some w) (Ref cap c) o))
        (sym (marked-again m env ss s (Some y) gone)) (against-follows m (Some w) (Ref cap c) (marked (Some y) gone env))))))

    pub right-follows : (w : Ty) (r : Right) → Follows (judged_again m) (judge_right cs env w r)
        (judge_right again (env_again m env) w (right_named m (numbered_right cs ss r)))
    right-follows w (value e) = expr-follows env ss (Some w) e s
    right-follows w (new x n) = new-follows w Mut x n
    right-follows w (new_tmp x n) = new-follows w Tmp x n
    right-follows w (new_iso x n manager) = new-follows w Iso x n
    right-follows w (freeze y) = consumed-follows w Imm y
    right-follows w (merge y) = consumed-follows w Mut y
    right-follows w read = against-follows m (Some w) Int env
    right-follows w more = against-follows m (Some w) Bool env
    right-follows w (result_of c) =
        bind-follows (called_again m) _ _ _ _ _ (call-follows c) (λ j is.
        found-follows (λ (t : Ty). t) _ j.result j.result Mismatch _ _ (λ t h. h) (λ t h. against-follows m (Some w) t j.env))

    count-found : (out : Env) (x : Name) (n : Option Expr) → judge_size cs env x n ≡ Ok out →
        IsCountFound again (scope_again m ss) m (option_map (numbered cs ss) n)
    count-found out x None h = tt
    count-found out x (Some e) h =
        let p = test-then (names_array cs x) _ _ out h in
        let j = bind-ok (judge_expr cs env (Some Int) e) _ out p.1 in expr-found env ss (Some Int) e j.0 s j.1

    new-found : (w : Ty) (cap : Cap) (x : Name) (n : Option Expr) (j : Judged) → judge_new cs env w cap x n ≡ Ok j →
        (class_number again (class_name (class_number cs x)) ≡ class_number cs x)
        × IsCountFound again (scope_again m ss) m (option_map (numbered cs ss) n)
    new-found w cap x n j h =
        let t = bind-ok (good_type cs (ref cap x)) _ j h in
        let o = bind-ok (judge_size cs env x n) _ j t.2 in (class-number cs few x, count-found o.0 x n o.1)

    -- a variable that goes by its name alone
    pub name-found : (y : Name) → IsSlotFound (scope_again m ss) (slot_of ss (Some y))
    name-found y =
        ap (slot_of (scope_again m ss)) (sym (slot-name m ss y s.self)) ∙ slot-is m env ss s (Some y)

    pub right-found : (w : Ty) (r : Right) (j : Judged) → judge_right cs env w r ≡ Ok j →
        IsRightFound again (scope_again m ss) m (numbered_right cs ss r)
    right-found w (value e) j h = expr-found env ss (Some w) e j s h
    right-found w (new x n) j h = new-found w Mut x n j h
    right-found w (new_tmp x n) j h = new-found w Tmp x n j h
    right-found w (new_iso x n manager) j h = new-found w Iso x n j h
    right-found w (freeze y) j h = name-found y
    right-found w (merge y) j h = name-found y
    right-found w read j h = tt
    right-found w more j h = tt
    right-found w (result_of c) j h = let p = bind-ok (judge_call cs env c) _ j h in call-found c p.0 p.1
