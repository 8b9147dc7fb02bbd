-- Expressions, calls and right sides that have a type are those with numbers, given their names again.
use Rattle.std.proofs.Common.{◌≡◌, refl, sym, ap, ◌∙◌, ℕ, ◌==◌, Bool as Truth, List, [], ◌∷◌, length, map, Option, Some, None}
use Rattle.std.proofs.Common.{option_map, ok_or, Ok, arith}
use Rattle.std.proofs.lemmas.Bool.Decides.{nat_tests}
use Rattle.std.proofs.lemmas.List.{length-map}
use Rattle.std.specs.List.{AllByRecursion}
use Rattle.rg_base.specs.declared.words.Cap.{Cap}
use Rattle.rg_base.specs.declared.words.Cap.TheVariants.{Mut, Tmp, Imm, Iso}
use Rattle.rg_base.specs.declared.ty.Ty.{Ty}
use Rattle.rg_base.specs.declared.ty.Ty.TheVariants.{Int, Bool, Ref}
use Rattle.rg_base.specs.declared.fault.Code.TheVariants.{Unknown}
use Rattle.rg_tree.specs.Tree as tree
use Rattle.rg_tree.specs.Tree.{Name, Variable, Path, Expr, number, boolean, nil, path, is_nil, neg, not, binary, size, element, Call, Right, value}
use Rattle.rg_tree.specs.Tree.{new, new_tmp, new_iso, freeze, merge, read, more, result_of, Param, Class, ref}
use Rattle.rg_rules.specs.Capabilities.{below}
use Rattle.rg_rules.specs.Types.{good_type, names_array, class_number, type_of, methods_of, method_named, param_types}
use Rattle.rg_rules.specs.Environment.{Env, entry_of}
use Rattle.rg_rules.specs.Paths.{Looked, walk, walk_array, follow}
use Rattle.rg_rules.specs.Expressions.{Judged, judge_path, judge_is_nil, among, operand_type, judge_expr}
use Rattle.rg_rules.specs.Rights.{Called, judge_args, judge_call, judge_size, judge_new, judge_consumed, judge_right}
use Rattle.rg_rules.proofs.Answers.{bind-ok, then-ok, test-then, ok_or-ok}
use Rattle.rg_rules.proofs.Path.{follow-ok}
use Rattle.rg_rules.proofs.Expression.{binary-ok, element-ok}
use Rattle.rg_sound.proofs.Frames.JudgeRight.{judge_expr-stays}
use Rattle.rg_code.specs.Lowering.{Scope, slot_of, method_place, number_called, target_class, call_result, type_in, type_along}
use Rattle.rg_verify_expressions.specs.Naming.{variable_name, variable_in, class_name, method_name}
use Rattle.rg_verify_expressions.specs.Raised.{path_named, named, IsFound}
use Rattle.rg_verify_expressions.specs.Found.{call_named, right_named, IsSlotFound, IsCallFound, IsCountFound, IsRightFound}
use Rattle.rg_numbered.specs.Numbered.{path_numbers, numbered, numbered_call, numbered_right}
use Rattle.rg_numbered.proofs.Classes.{ClassesNamed, class_is, good-class, method-named}
use Rattle.rg_numbered.proofs.Scopes.{class_of-is, IsScoped, scoped-variable, scoped-stays, slot-name, PathKnown, walked, path-again, path-found}

-- with names it is the expression again, and these are found
abbrev pub IsExprNumbered : List Class → Scope → Truth → Expr → Type 0
IsExprNumbered cs ss m e = (named m (numbered cs ss e) ≡ e) × IsFound cs ss m (numbered cs ss e)

abbrev pub AreExprsNumbered : List Class → Scope → Truth → List Expr → Type 0
AreExprsNumbered cs ss m es = (map (named m) (map (numbered cs ss) es) ≡ es) × AllByRecursion (IsFound cs ss m) (map (numbered cs ss) es)

abbrev pub IsCallNumbered : List Class → Scope → Truth → Call → Type 0
IsCallNumbered cs ss m c = (call_named m (numbered_call cs ss c) ≡ c) × IsCallFound cs ss m (numbered_call cs ss c)

abbrev pub IsRightNumbered : List Class → Scope → Truth → Right → Type 0
IsRightNumbered cs ss m r = (right_named m (numbered_right cs ss r) ≡ r) × IsRightFound cs ss m (numbered_right cs ss r)

-- a path that is the whole of something
pub again : (cs : List Class) (ss : Scope) (m : Truth) (q : Path) → PathKnown cs ss m q.base q.fields →
    path_named m (slot_of ss q.base) (path_numbers cs ss q.base q.fields) ≡ q
again cs ss m q h = path-again cs ss m q.base q.fields h

-- a variable that goes by its name alone
pub alone : (m : Truth) (ss : Scope) (y : Name) → variable_in m (slot_of ss (Some y)) ≡ Some y →
    (variable_name (slot_of ss (Some y)) ≡ y) × IsSlotFound ss (slot_of ss (Some y))
alone m ss y h =
    let e = slot-name m (slot_of ss (Some y)) y h in (e, ap (λ (x : Name). slot_of ss (Some x)) e)

module _ (cs : List Class) (names : ClassesNamed cs) (m : Truth) where
  module _ (env : Env) (ss : Scope) (s : IsScoped m env ss) where
    -- Paths

    path-judged : (x : Variable) (fs : List Name) (j : Judged) → judge_path cs env x fs ≡ Ok j → PathKnown cs ss m x fs
    path-judged x [] j h =
        let p = bind-ok (ok_or (entry_of env x) Unknown) _ j h in
        record { base = scoped-variable m env ss x p.0 s (ok_or-ok (entry_of env x) Unknown p.0 p.1); fields = tt }
    path-judged x (f ∷ fs) j h = let p = bind-ok (walk cs env x (f ∷ fs)) _ j h in (walked cs names m env ss s x (f ∷ fs) p.0 p.1).0

    nil-judged : (x : Variable) (fs : List Name) (u : Unit {0}) → judge_is_nil cs env x fs ≡ Ok u → PathKnown cs ss m x fs
    nil-judged x [] u h =
        let p = bind-ok (ok_or (entry_of env x) Unknown) _ u h in
        record { base = scoped-variable m env ss x p.0 s (ok_or-ok (entry_of env x) Unknown p.0 p.1); fields = tt }
    nil-judged x (f ∷ fs) u h = let p = bind-ok (walk cs env x (f ∷ fs)) _ u h in (walked cs names m env ss s x (f ∷ fs) p.0 p.1).0

    pub array-walked : (x : Variable) (fs : List Name) (a : Looked) → walk_array cs env x fs ≡ Ok a → PathKnown cs ss m x fs
    array-walked x fs a h = let p = bind-ok (walk cs env x fs) _ a h in (walked cs names m env ss s x fs p.0 p.1).0

    -- a variable that is used up
    consumed-numbered : (w : Ty) (cap : Cap) (y : Name) (j : Judged) → judge_consumed env w cap y ≡ Ok j →
        (variable_name (slot_of ss (Some y)) ≡ y) × IsSlotFound ss (slot_of ss (Some y))
    consumed-numbered w cap y j h =
        let e = bind-ok (ok_or (entry_of env (Some y)) Unknown) _ j h in
        alone m ss y (scoped-variable m env ss (Some y) e.0 s (ok_or-ok (entry_of env (Some y)) Unknown e.0 e.1))

  -- Expressions

  pub expr-numbered : (env : Env) (ss : Scope) (w : Option Ty) (e : Expr) (j : Judged) → IsScoped m env ss → judge_expr cs env w e ≡ Ok j →
      IsExprNumbered cs ss m e
  expr-numbered env ss w (number z) j s h = (refl, tt)
  expr-numbered env ss w (boolean b) j s h = (refl, tt)
  expr-numbered env ss w nil j s h = (refl, tt)
  expr-numbered env ss w (path q) j s h =
      let p = bind-ok (judge_path cs env q.base q.fields) _ j h in
      let k = path-judged env ss s q.base q.fields p.0 p.1 in (ap tree.path (again cs ss m q k), path-found cs ss m q.base q.fields k)
  expr-numbered env ss w (is_nil q) j s h =
      let p = then-ok (judge_is_nil cs env q.base q.fields) _ j h in
      let k = nil-judged env ss s q.base q.fields p.0 p.1 in (ap tree.is_nil (again cs ss m q k), path-found cs ss m q.base q.fields k)
  expr-numbered env ss w (neg a) j s h =
      let p = bind-ok (judge_expr cs env (Some Int) a) _ j h in
      let r = expr-numbered env ss (Some Int) a p.0 s p.1 in (ap tree.neg r.0, r.1)
  expr-numbered env ss w (not a) j s h =
      let p = bind-ok (judge_expr cs env (Some Bool) a) _ j h in
      let r = expr-numbered env ss (Some Bool) a p.0 s p.1 in (ap tree.not r.0, r.1)
  expr-numbered env ss w (binary o a b) j s h =
      let p = binary-ok cs env w (among o) a b j h in
      let l = expr-numbered env ss (operand_type (among o)) a p.l s p.operands.left in
      let t = scoped-stays m env p.l.env ss s (judge_expr-stays cs env (operand_type (among o)) a p.l s.distinct p.operands.left) in
      let r = expr-numbered p.l.env ss (operand_type (among o)) b p.r t p.operands.right in
      (ap (λ (x : Expr). tree.binary o x (named m (numbered cs ss b))) l.0 ∙ ap (tree.binary o a) r.0, (l.1, r.1))
  expr-numbered env ss w (size q) j s h =
      let p = then-ok (walk_array cs env q.base q.fields) _ j h in
      let k = array-walked env ss s q.base q.fields p.0 p.1 in (ap tree.size (again cs ss m q k), path-found cs ss m q.base q.fields k)
  expr-numbered env ss w (element q e) j s h =
      let p = element-ok cs env w q e j h in
      let k = array-walked env ss s q.base q.fields p.array p.walked in
      let r = expr-numbered env ss (Some Int) e p.index s p.judged in (
        ap (λ (x : Path). tree.element x (named m (numbered cs ss e))) (again cs ss m q k) ∙ ap (tree.element q) r.0,
        (path-found cs ss m q.base q.fields k, r.1),
      )

  args-numbered : (env out : Env) (ss : Scope) (ts : List Ty) (es : List Expr) → IsScoped m env ss → length es ≡ length ts →
      judge_args cs env ts es ≡ Ok out → AreExprsNumbered cs ss m es
  args-numbered env out ss ts [] s l h = (refl, tt)
  args-numbered env out ss [] (e ∷ es) s l h = absurd (omega (arith, l))
  args-numbered env out ss (t ∷ ts) (e ∷ es) s l h =
      let p = bind-ok (judge_expr cs env (Some t) e) _ out h in
      let first = expr-numbered env ss (Some t) e p.0 s p.1 in
      let mid = scoped-stays m env p.0.env ss s (judge_expr-stays cs env (Some t) e p.0 s.distinct p.1) in
      let rest = args-numbered p.0.env out ss ts es mid (omega (arith, l)) p.2 in
      (ap (λ (x : Expr). x ∷ map (named m) (map (numbered cs ss) es)) first.0 ∙ ap (λ (xs : List Expr). e ∷ xs) rest.0, (first.1, rest.1))

  -- Calls

  module _ (env : Env) (ss : Scope) (s : IsScoped m env ss) where
    pub call-numbered : (c : Call) (j : Called) → judge_call cs env c ≡ Ok j → IsCallNumbered cs ss m c
    call-numbered c j h =
        let x = c.target.base in
        let fs = c.target.fields in
        let t = bind-ok (walk cs env x fs) _ j h in
        let r = bind-ok (follow t.0) _ j t.2 in
        let d = bind-ok (ok_or (method_named cs r.0.class c.method) Unknown) _ j r.2 in
        let b = test-then (below t.0 (Ref d.0.receiver r.0.class)) _ _ j d.2 in
        let n = test-then (length c.args == length d.0.params) _ _ j b.1 in
        let a = bind-ok (judge_args cs env (param_types cs d.0) c.args) _ j n.1 in
        let many : length c.args ≡ length d.0.params = let q = n.0 in grind (arith, nat_tests) in
        let k = walked cs names m env ss s x fs t.0 t.1 in
        let class : target_class cs ss c ≡ r.0.class =
        class_of-is cs (type_along cs (type_in ss x) fs) r.0.class (k.1 ∙ ap class_is (follow-ok t.0 r.0 r.1).reference) in
        let place : method_name (method_place (methods_of cs (target_class cs ss c)) c.method) ≡ c.method =
        ap (λ (i : ℕ). method_name (method_place (methods_of cs i) c.method)) class
        ∙ method-named cs r.0.class c.method d.0 names (ok_or-ok (method_named cs r.0.class c.method) Unknown d.0 d.1) in
        let args = args-numbered env a.0 ss (param_types cs d.0) c.args s
        (many ∙ sym (length-map d.0.params (λ (p : Param). type_of cs p.ty))) a.1 in
        let make : Path → Name → List Expr → Call = λ q y es. record { target = q; method = y; args = es } in
        let numbers = numbered_call cs ss c in
        let back : call_named m numbers ≡ c =
        ap (λ (q : Path). make q (method_name numbers.callee.place) (map (named m) numbers.args)) (again cs ss m c.target k.0)
        ∙ ap (λ (y : Name). make c.target y (map (named m) numbers.args)) place
        ∙ ap (make c.target c.method) args.0 in (
          back,
          record {
            target = path-found cs ss m x fs k.0;
            args = args.1;
            number = ap (λ (q : Call). number_called cs (target_class cs ss q) q.method) back;
            result = ap (call_result cs ss) back;
          },
        )

    -- Right sides

    -- the number of elements
    many-numbered : (out : Env) (x : Name) (n : Option Expr) → judge_size cs env x n ≡ Ok out →
        (option_map (named m) (option_map (numbered cs ss) n) ≡ n) × IsCountFound cs ss m (option_map (numbered cs ss) n)
    many-numbered out x None h = (refl, tt)
    many-numbered out x (Some e) h =
        let p = test-then (names_array cs x) _ _ out h in
        let j = bind-ok (judge_expr cs env (Some Int) e) _ out p.1 in
        let r = expr-numbered env ss (Some Int) e j.0 s j.1 in (ap (λ (y : Expr). Some y) r.0, r.1)

    -- the class and the number of elements
    new-numbered : (make : Name → Option Expr → Right) (w : Ty) (cap : Cap) (x : Name) (n : Option Expr) (j : Judged) →
        judge_new cs env w cap x n ≡ Ok j →
        (make (class_name (class_number cs x)) (option_map (named m) (option_map (numbered cs ss) n)) ≡ make x n)
        × (class_number cs (class_name (class_number cs x)) ≡ class_number cs x) × IsCountFound cs ss m (option_map (numbered cs ss) n)
    new-numbered make w cap x n j h =
        let t = bind-ok (good_type cs (ref cap x)) _ j h in
        let o = bind-ok (judge_size cs env x n) _ j t.2 in
        let c = good-class cs cap x t.0 names t.1 in
        let r = many-numbered o.0 x n o.1 in
        (ap (λ (y : Name). make y (option_map (named m) (option_map (numbered cs ss) n))) c ∙ ap (make x) r.0, ap (class_number cs) c, r.1)

    pub right-numbered : (w : Ty) (r : Right) (j : Judged) → judge_right cs env w r ≡ Ok j → IsRightNumbered cs ss m r
    right-numbered w (value e) j h = let r = expr-numbered env ss (Some w) e j s h in (ap tree.value r.0, r.1)
    right-numbered w (new x n) j h = let r = new-numbered tree.new w Mut x n j h in (r.0, (r.1, r.2))
    right-numbered w (new_tmp x n) j h = let r = new-numbered tree.new_tmp w Tmp x n j h in (r.0, (r.1, r.2))
    right-numbered w (new_iso x n manager) j h =
        let r = new-numbered (λ y k. tree.new_iso y k manager) w Iso x n j h in (r.0, (r.1, r.2))
    right-numbered w (freeze y) j h = let r = consumed-numbered env ss s w Imm y j h in (ap tree.freeze r.0, r.1)
    right-numbered w (merge y) j h = let r = consumed-numbered env ss s w Mut y j h in (ap tree.merge r.0, r.1)
    right-numbered w read j h = (refl, tt)
    right-numbered w more j h = (refl, tt)
    right-numbered w (result_of c) j h =
        let p = bind-ok (judge_call cs env c) _ j h in
        let r = call-numbered c p.0 p.1 in (ap tree.result_of r.0, r.1)
