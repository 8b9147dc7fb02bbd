-- What the judgements and the invariant give of expressions, holders of fields, right sides and bodies.
use Rattle.std.proofs.Common.{◌≡◌, ℕ, true, false, true≢false, inl, inr, Bool as Truth, not as negated, if◌then◌else◌, List, [], ◌∷◌, Option, Some}
use Rattle.std.proofs.Common.{None, ok_or, Ok, refl, sym, ap, subst, ◌∙◌, unwrap_or}
use Rattle.std.proofs.lemmas.Option.{same_Some}
use Rattle.rg_base.specs.declared.words.Cap.{Cap}
use Rattle.rg_base.specs.declared.ty.Ty.{Ty}
use Rattle.rg_base.specs.declared.ty.Ty.TheVariants.{Int, Bool, Ref}
use Rattle.rg_base.specs.declared.value.Val.{Val}
use Rattle.rg_base.specs.declared.value.Val.TheVariants as val
use Rattle.rg_base.specs.declared.object.Seen.{Seen}
use Rattle.rg_base.specs.declared.fault.Code.TheVariants.{Unknown, Mismatch, Capability}
use Rattle.rg_tree.specs.declared.rows.BinOp.{BinOp}
use Rattle.rg_tree.specs.declared.rows.BinOp.TheVariants as op
use Rattle.rg_tree.specs.Tree.{Name, Variable, Expr, number, boolean, nil, path, is_nil, neg, not, binary, size, element, StmtKind, stmt}
use Rattle.rg_tree.specs.Tree.{return, Block, empty as none, then as more_of, Class}
use Rattle.rg_rules.specs.Answers.{◌>>=◌}
use Rattle.rg_rules.specs.Capabilities.{is_iso, below, pause, adapt}
use Rattle.rg_rules.specs.Types.{fields_of, field_place, field_type}
use Rattle.rg_rules.specs.Environment.{Env, Entry, entry_of, seen_type, at_depth, available}
use Rattle.rg_rules.specs.Paths.{Looked, follow, walk_array, look_up, read_through, walk_field, walk_fields, walk, all_but_last, last_field}
use Rattle.rg_rules.specs.Paths.{walk_receiver}
use Rattle.rg_rules.specs.Expressions.{Judged, judge_path, judge_is_nil, logic, among, operand_type, result_type, judge_expr}
use Rattle.rg_rules.specs.Statements.{judge_block, judge_kind, judge_stmt, last_of}
use Rattle.rg_rules.specs.Bodies.{is_return, ends_in_return}
use Rattle.rg_sound.specs.Values.{Meets}
use Rattle.rg_rules.specs.State.{Local, value_in, Window as Opened}
use Rattle.rg_rules.specs.Values.{as_bool, operate, decides, Computed}
use Rattle.rg_rules.specs.Evaluation.{object_at, field_value, follow_fields, path_value, value_of}
use Rattle.rg_rules.proofs.Answers.{bind-ok, then-ok, test-then, ok_or-ok}
use Rattle.rg_rules.proofs.Path.{follow-ok, look_up-ok}
use Rattle.rg_rules.proofs.Expression.{binary-ok, element-ok, number-not_iso, operands-not_iso, judge_expr-env, judge_expr-below}
use Rattle.rg_sound.proofs.Values.Value.{Sees, walk-meets, value-meets}
use Rattle.rg_code.specs.Lowering.{type_in, field_number, type_behind, type_along}
use Rattle.rg_code.specs.Places.{scope_of}
use Rattle.rg_stack.proofs.Basics.{ok-is, err-ok}
use Rattle.rg_stack.proofs.Walks.Walk.{FollowsPath, NotShut, IsTruth, Logic, Agrees}
use Rattle.rg_stack.proofs.Walks.Place.{GoesOn, AllGoOn}
use Rattle.rg_stack.proofs.Statements.Assign.{HolderOwes}
use Rattle.rg_stack.proofs.Statements.Call.{Gives}
use Rattle.rg_stack.proofs.Judgements.Follow.{Safe, class_is, HasClass, place_if_type, read-class, field_of_type, follows_of, HaveFields}
use Rattle.rg_stack.specs.Machine.{Window}

-- whether a type is that of truth values
abbrev pub is_bool : Ty → Truth
is_bool Int = false
is_bool Bool = true
is_bool (Ref cap c) = false

-- a value of a type: an object that it leads to has the type's class, and it is a truth value where the type says so
abbrev pub OfType : List Seen → Ty → Val → Type 0
OfType store t v = HasClass store t v × (is_bool t ≡ true → v ≡ val.Bool (as_bool v))

-- what the invariant gives at a point of a body
pub record Facts (classes : List Class) (env : Env) (store : List Seen) (windows : List Window) (locals : List Local) : Type 0 where
  -- a visible variable has its declared type in its slot, and a value of that type
  pub declared : (x : Variable) (e : Entry) → entry_of env x ≡ Some e → type_in (scope_of locals) x ≡ e.ty
  pub variables : (x : Variable) (e : Entry) → entry_of env x ≡ Some e → OfType store e.ty (value_in locals x)
  -- so has each field of an object
  pub fields : (v : Val) (o : Seen) (f : Name) (t : Ty) → object_at store v ≡ Ok o → field_type classes o.class f ≡ Some t
      → OfType store t (field_value classes o f)
  -- and each object has the fields of its class
  pub sizes : HaveFields classes store
  -- a visible variable meets the type as which it is seen, and what isn't `iso` leads into no closed region
  pub opened : List Opened
  pub safe : Safe classes store windows opened
  pub frame : ℕ
  pub sees : Sees store opened frame env locals
  pub meets : (x : Variable) (e : Entry) → entry_of env x ≡ Some e → Meets store opened (seen_type env e) (value_in locals x)

pause-class : (t : Ty) → class_is (pause t) ≡ class_is t
pause-class Int = refl
pause-class Bool = refl
pause-class (Ref cap c) = refl

pause-bool : (t : Ty) → is_bool (pause t) ≡ is_bool t
pause-bool Int = refl
pause-bool Bool = refl
pause-bool (Ref cap c) = refl

class_by : (b : Truth) (t : Ty) → class_is (if b then t else pause t) ≡ class_is t
class_by true t = refl
class_by false t = pause-class t

bool_by : (b : Truth) (t : Ty) → is_bool (if b then t else pause t) ≡ is_bool t
bool_by true t = refl
bool_by false t = pause-bool t

-- a type as it is seen
pub seen-class : (env : Env) (e : Entry) → class_is (seen_type env e) ≡ class_is e.ty
seen-class env e = class_by (at_depth env e) e.ty

pub seen-bool : (env : Env) (e : Entry) → is_bool (seen_type env e) ≡ is_bool e.ty
seen-bool env e = bool_by (at_depth env e) e.ty

read-bool : (cap : Cap) (declared x : Ty) → read_through cap declared ≡ Ok x → is_bool declared ≡ is_bool x
read-bool cap Int x h = ap is_bool (ok-is Int x h)
read-bool cap Bool x h = ap is_bool (ok-is Bool x h)
read-bool cap (Ref k c) x h = let p = bind-ok (ok_or (adapt cap k) Capability) _ x h in ap is_bool (ok-is (Ref p.0 c) x p.2)

-- where a walk comes to: the type so far and the declared type have one class, and the value is of the declared type
pub record Reached (classes : List Class) (store : List Seen) (r d : Ty) (w : Val) : Type 0 where
  pub class : class_is r ≡ class_is d
  pub bool : is_bool r ≡ is_bool d
  pub value : OfType store d w

pub reaches : (classes : List Class) (store : List Seen) (fs : List Name) (u t r : Ty) (v w : Val) → class_is u ≡ class_is t → is_bool u ≡ is_bool t
    → walk_fields classes u fs ≡ Ok r → OfType store t v
    → ((v : Val) (o : Seen) (f : Name) (t : Ty) → object_at store v ≡ Ok o → field_type classes o.class f ≡ Some t
    → OfType store t (field_value classes o f))
    → follow_fields classes store v fs ≡ Ok w → Reached classes store r (type_along classes t fs) w
reaches classes store [] u t r v w same also walked has fields got = record {
  class = ap class_is (sym (ok-is u r walked)) ∙ same;
  bool = ap is_bool (sym (ok-is u r walked)) ∙ also;
  value = subst (OfType store t) (ok-is v w got) has;
}
reaches classes store (f ∷ fs) u t r v w same also walked has fields got =
    let p = bind-ok (walk_field classes u f) _ r walked in
    let q = bind-ok (look_up classes u f) _ p.0 p.1 in
    let k = look_up-ok classes u f q.0 q.1 in
    let at = bind-ok (object_at store v) _ w got in
    let class_of_t : class_is t ≡ Some k.class = sym same ∙ ap class_is k.reference in
    let class_of_o : at.0.class ≡ k.class = same_Some at.0.class k.class (sym (has.0 at.0 at.1) ∙ class_of_t) in
    let behind : type_behind classes t f ≡ q.0.ty = (field_of_type classes t f k.class class_of_t).1 ∙ ap (λ d. unwrap_or d Int) k.declared in
    reaches classes store fs p.0 (type_behind classes t f) r (field_value classes at.0 f) w
    (sym (read-class q.0.receiver q.0.ty p.0 q.2) ∙ ap class_is (sym behind))
    (sym (read-bool q.0.receiver q.0.ty p.0 q.2) ∙ ap is_bool (sym behind))
    p.2 (subst (λ d. OfType store d (field_value classes at.0 f)) (sym behind)
    (fields v at.0 f q.0.ty at.1 (ap (λ c. field_type classes c f) class_of_o ∙ k.declared))) fields at.2

-- a value that was made as a truth value
truth_is : (b : Truth) (v : Val) → ◌≡◌ {A = Computed} (Ok (val.Bool b)) (Ok v) → v ≡ val.Bool (as_bool v)
truth_is b v e = subst (λ v. v ≡ val.Bool (as_bool v)) (ok-is (val.Bool b) v e) refl

below-bool : (t : Ty) → below t Bool ≡ true → is_bool t ≡ true
below-bool Int e = absurd (true≢false (sym e))
below-bool Bool e = refl
below-bool (Ref cap c) e = absurd (true≢false (sym e))

-- a value that meets the type of truth values is one
meets-truth : (store : List Seen) (ws : List Opened) (t : Ty) (v : Val) → is_bool t ≡ true → Meets store ws t v → v ≡ val.Bool (as_bool v)
meets-truth store ws Int v b m = absurd (true≢false (sym b))
meets-truth store ws (Ref cap c) v b m = absurd (true≢false (sym b))
meets-truth store ws Bool val.Nil b m = absurd m
meets-truth store ws Bool (val.Int z) b m = absurd m
meets-truth store ws Bool (val.Bool t) b m = refl
meets-truth store ws Bool (val.Obj a) b m = absurd m

operated : (o : BinOp) (x y v : Val) → below (result_type (among o)) Bool ≡ true → operate o x y ≡ Ok v → v ≡ val.Bool (as_bool v)
operated op.Or x y v b e = truth_is _ v e
operated op.And x y v b e = truth_is _ v e
operated op.Eq x y v b e = truth_is _ v e
operated op.Ne x y v b e = truth_is _ v e
operated op.Lt x y v b e = truth_is _ v e
operated op.Le x y v b e = truth_is _ v e
operated op.Gt x y v b e = truth_is _ v e
operated op.Ge x y v b e = truth_is _ v e
operated op.Add x y v b e = absurd (true≢false (sym b))
operated op.Sub x y v b e = absurd (true≢false (sym b))
operated op.Mul x y v b e = absurd (true≢false (sym b))
operated op.Div x y v b e = absurd (true≢false (sym b))
operated op.Rem x y v b e = absurd (true≢false (sym b))

right_by : (t : Truth) (o : BinOp) (x v : Val) (d : Computed) → below (result_type (among o)) Bool ≡ true
    → (if t then Ok (val.Bool (as_bool x)) else ◌>>=◌ d (λ y. operate o x y)) ≡ Ok v → v ≡ val.Bool (as_bool v)
right_by true o x v d b e = truth_is (as_bool x) v e
right_by false o x v d b e = let p = bind-ok d _ v e in operated o x p.0 v b p.2

logic_of : (o : BinOp) (P : Type 0) → (among o ≡ logic → P) → Logic o P
logic_of op.Or P h = h refl
logic_of op.And P h = h refl
logic_of op.Eq P h = tt
logic_of op.Ne P h = tt
logic_of op.Lt P h = tt
logic_of op.Le P h = tt
logic_of op.Gt P h = tt
logic_of op.Ge P h = tt
logic_of op.Add P h = tt
logic_of op.Sub P h = tt
logic_of op.Mul P h = tt
logic_of op.Div P h = tt
logic_of op.Rem P h = tt

-- the type behind fields, by all but the last
along-last : (classes : List Class) (t : Ty) (f : Name) (fs : List Name) → type_along classes t (f ∷ fs)
    ≡ type_behind classes (type_along classes t (all_but_last f fs)) (last_field f fs)
along-last classes t f [] = refl
along-last classes t f (g ∷ gs) = along-last classes (type_behind classes t f) g gs

module _ (classes : List Class) (env : Env) (store : List Seen) (windows : List Window) (locals : List Local)
    (facts : Facts classes env store windows locals) where
  -- a walk that is allowed follows fields that are there
  pub walk-follows : (x : Variable) (fs : List Name) (t : Ty) → walk classes env x fs ≡ Ok t
      → FollowsPath classes store windows locals (scope_of locals) (record { base = x; fields = fs })
  walk-follows x fs t h =
      let p = bind-ok (ok_or (entry_of env x) Unknown) _ t h in
      let e = p.0 in
      let there = ok_or-ok (entry_of env x) Unknown e p.1 in
      let is = facts.declared x e there in
      follows_of classes store windows facts.opened facts.safe fs (seen_type env e) (type_in (scope_of locals) x) t (value_in locals x)
      (facts.meets x e there) (seen-class env e ∙ ap class_is (sym is)) p.2
      (subst (λ d. HasClass store d (value_in locals x)) (sym is) ((facts.variables x e there).0))
      (λ v o f t a b. (facts.fields v o f t a b).0) facts.sizes

  -- and comes to a value of the declared type
  pub walk-reaches : (x : Variable) (fs : List Name) (t : Ty) (w : Val) → walk classes env x fs ≡ Ok t
      → path_value classes store locals (record { base = x; fields = fs }) ≡ Ok w
      → Reached classes store t (type_along classes (type_in (scope_of locals) x) fs) w
  walk-reaches x fs t w h got =
      let p = bind-ok (ok_or (entry_of env x) Unknown) _ t h in
      let e = p.0 in
      let there = ok_or-ok (entry_of env x) Unknown e p.1 in
      let is = facts.declared x e there in
      reaches classes store fs (seen_type env e) (type_in (scope_of locals) x) t (value_in locals x) w (seen-class env e ∙ ap class_is (sym is))
      (seen-bool env e ∙ ap is_bool (sym is)) p.2
      (subst (λ d. OfType store d (value_in locals x)) (sym is) (facts.variables x e there)) facts.fields got

  path-follows : (x : Variable) (fs : List Name) (j : Judged) → judge_path classes env x fs ≡ Ok j
      → FollowsPath classes store windows locals (scope_of locals) (record { base = x; fields = fs })
  path-follows x [] j h = tt
  path-follows x (f ∷ fs) j h = let p = bind-ok (walk classes env x (f ∷ fs)) _ j h in walk-follows x (f ∷ fs) p.0 p.1

  nil-follows : (x : Variable) (fs : List Name) (u : Unit {0}) → judge_is_nil classes env x fs ≡ Ok u
      → FollowsPath classes store windows locals (scope_of locals) (record { base = x; fields = fs })
  nil-follows x [] u h = tt
  nil-follows x (f ∷ fs) u h = let p = bind-ok (walk classes env x (f ∷ fs)) _ u h in walk-follows x (f ∷ fs) p.0 p.1

  path-truth : (x : Variable) (fs : List Name) (j : Judged) → judge_path classes env x fs ≡ Ok j → is_bool j.ty ≡ true
      → IsTruth (path_value classes store locals (record { base = x; fields = fs }))
  path-truth x [] j h b v got =
      let p = bind-ok (ok_or (entry_of env x) Unknown) _ j h in
      let q = test-then (available p.0) _ _ j p.2 in
      let is : seen_type env p.0 ≡ j.ty = ap (λ (j : Judged). j.ty) (ok-is _ j q.1) in
      subst (λ v. v ≡ val.Bool (as_bool v)) (ok-is (value_in locals x) v got)
      ((facts.variables x p.0 (ok_or-ok (entry_of env x) Unknown p.0 p.1)).1 (sym (seen-bool env p.0) ∙ ap is_bool is ∙ b))
  path-truth x (f ∷ fs) j h b v got =
      let p = bind-ok (walk classes env x (f ∷ fs)) _ j h in
      let q = test-then (negated (is_iso p.0)) _ _ j p.2 in
      let is : p.0 ≡ j.ty = ap (λ (j : Judged). j.ty) (ok-is _ j q.1) in
      let r = walk-reaches x (f ∷ fs) p.0 v p.1 got in
      r.value.1 (sym r.bool ∙ ap is_bool is ∙ b)

  -- an array to which the rules lead, and whose reference leads into no closed region
  pub array-agrees : (x : Variable) (fs : List Name) (a : Looked) → walk_array classes env x fs ≡ Ok a
      → FollowsPath classes store windows locals (scope_of locals) (record { base = x; fields = fs })
      × NotShut store windows (path_value classes store locals (record { base = x; fields = fs }))
  array-agrees x fs a h =
      let t = bind-ok (walk classes env x fs) _ a h in
      let r = bind-ok (follow t.0) _ a t.2 in (
        walk-follows x fs t.0 t.1,
        λ v got. facts.safe.shut t.0 v (walk-meets classes store facts.opened facts.frame env locals facts.safe.objects facts.sees x fs t.0 v t.1
            got) (follow-ok t.0 r.0 r.1).not_iso,
      )

  -- what an expression computes to
  pub expr-meets : (w : Option Ty) (e : Expr) (j : Judged) (v : Val) → judge_expr classes env w e ≡ Ok j → value_of classes store locals e ≡ Ok v
      → Meets store facts.opened j.ty v
  expr-meets w e j v h got = value-meets classes store facts.opened facts.frame env locals facts.safe.objects facts.sees w e j v h got

  -- a number leads into no closed region
  pub number-open : (e : Expr) (j : Judged) → judge_expr classes env (Some Int) e ≡ Ok j → NotShut store windows (value_of classes store locals e)
  number-open e j h v got = facts.safe.shut j.ty v (expr-meets (Some Int) e j v h got) (number-not_iso classes env e j h)

  -- an expression of which a truth value is expected computes to one
  pub expr-truth : (e : Expr) (j : Judged) → judge_expr classes env (Some Bool) e ≡ Ok j → IsTruth (value_of classes store locals e)
  expr-truth (number z) j h v got = absurd (err-ok Mismatch j h)
  expr-truth (boolean b) j h v got = truth_is b v got
  expr-truth nil j h v got = absurd (err-ok Mismatch j h)
  expr-truth (path q) j h v got =
      let p = bind-ok (judge_path classes env q.base q.fields) _ j h in
      let t = test-then (below p.0.ty Bool) _ _ j p.2 in
      path-truth q.base q.fields p.0 p.1 (below-bool p.0.ty t.0) v got
  expr-truth (is_nil q) j h v got = let p = bind-ok (path_value classes store locals q) _ v got in truth_is _ v p.2
  expr-truth (neg a) j h v got = let p = bind-ok (judge_expr classes env (Some Int) a) _ j h in absurd (err-ok Mismatch j p.2)
  expr-truth (not a) j h v got = let p = bind-ok (value_of classes store locals a) _ v got in truth_is _ v p.2
  expr-truth (size q) j h v got = let p = then-ok (walk_array classes env q.base q.fields) _ j h in absurd (err-ok Mismatch j p.2)
  expr-truth (element q e) j h v got =
      meets-truth store facts.opened j.ty v (below-bool j.ty (judge_expr-below classes env Bool (element q e) j h))
      (expr-meets (Some Bool) (element q e) j v h got)
  expr-truth (binary o a b) j h v got =
      let p = binary-ok classes env (Some Bool) (among o) a b j h in
      let t = test-then (below (result_type (among o)) Bool) _ _ j p.last in
      let q = bind-ok (value_of classes store locals a) _ v got in
      right_by (decides o q.0) o q.0 v (value_of classes store locals b) t.0 q.2

  same_env : (mid : Env) (w : Option Ty) (e : Expr) (j : Judged) → mid ≡ env → judge_expr classes mid w e ≡ Ok j → judge_expr classes env w e ≡ Ok j
  same_env mid w e j is h = subst (λ m. judge_expr classes m w e ≡ Ok j) is h

  -- the premise of the law of expressions
  pub expr-agrees : (w : Option Ty) (e : Expr) (j : Judged) → judge_expr classes env w e ≡ Ok j
      → Agrees classes store windows locals (scope_of locals) e
  expr-agrees w (path q) j h = let p = bind-ok (judge_path classes env q.base q.fields) _ j h in path-follows q.base q.fields p.0 p.1
  expr-agrees w (is_nil q) j h = let p = then-ok (judge_is_nil classes env q.base q.fields) _ j h in nil-follows q.base q.fields p.0 p.1
  expr-agrees w (neg a) j h = let p = bind-ok (judge_expr classes env (Some Int) a) _ j h in expr-agrees (Some Int) a p.0 p.1
  expr-agrees w (not a) j h = let p = bind-ok (judge_expr classes env (Some Bool) a) _ j h in expr-agrees (Some Bool) a p.0 p.1
  expr-agrees w (binary o a b) j h =
      let p = binary-ok classes env w (among o) a b j h in
      let i = operands-not_iso classes env (among o) a b p.l p.r p.operands in
      let same = judge_expr-env classes env (operand_type (among o)) a p.l p.operands.left i.0 in
      let right = same_env p.l.env (operand_type (among o)) b p.r same p.operands.right in (
        expr-agrees (operand_type (among o)) a p.l p.operands.left,
        expr-agrees (operand_type (among o)) b p.r right,
        logic_of o (IsTruth (value_of classes store locals a) × IsTruth (value_of classes store locals b)) (λ is. (
          expr-truth a p.l (subst (λ k. judge_expr classes env (operand_type k) a ≡ Ok p.l) is p.operands.left),
          expr-truth b p.r (subst (λ k. judge_expr classes env (operand_type k) b ≡ Ok p.r) is right),
        )),
      )
  expr-agrees w (size q) j h = let p = then-ok (walk_array classes env q.base q.fields) _ j h in array-agrees q.base q.fields p.0 p.1
  expr-agrees w (element q e) j h =
      let p = element-ok classes env w q e j h in
      let a = array-agrees q.base q.fields p.array p.walked in
      (a.0, expr-agrees (Some Int) e p.index p.judged, a.1, number-open e p.index p.judged)
  expr-agrees w _ j h = tt

  -- the premises on the object that has a field
  pub holder-follows : (x : Variable) (f : Name) (fs : List Name) (r : Looked) → walk_receiver classes env x f fs ≡ Ok r
      → FollowsPath classes store windows locals (scope_of locals) (record { base = x; fields = all_but_last f fs })
  holder-follows x f fs r h = let p = bind-ok (walk classes env x (all_but_last f fs)) _ r h in walk-follows x (all_but_last f fs) p.0 p.1

  -- the class of that object is the one in which the field was looked up
  holder-class : (x : Variable) (f : Name) (fs : List Name) (r : Looked) (u : Val) (o : Seen) → walk_receiver classes env x f fs ≡ Ok r
      → path_value classes store locals (record { base = x; fields = all_but_last f fs }) ≡ Ok u → object_at store u ≡ Ok o
      → (class : ℕ) × (o.class ≡ class) × (class_is (type_along classes (type_in (scope_of locals) x) (all_but_last f fs)) ≡ Some class)
      × (field_type classes class (last_field f fs) ≡ Some r.ty)
  holder-class x f fs r u o h got there =
      let p = bind-ok (walk classes env x (all_but_last f fs)) _ r h in
      let k = look_up-ok classes p.0 (last_field f fs) r p.2 in
      let at = walk-reaches x (all_but_last f fs) p.0 u p.1 got in
      let is = sym at.class ∙ ap class_is k.reference in
      (k.class, same_Some o.class k.class (sym (at.value.0 o there) ∙ is), is, k.declared)

  pub holder-owes : (x : Variable) (f : Name) (fs : List Name) (r : Looked) → walk_receiver classes env x f fs ≡ Ok r
      → HolderOwes classes store locals (scope_of locals) x f fs
  holder-owes x f fs r h u o got there =
      let g = last_field f fs in
      let k = holder-class x f fs r u o h got there in
      let d = type_along classes (type_in (scope_of locals) x) (all_but_last f fs) in
      let place = place_if_type classes (fields_of classes k.0) g r.ty k.3 in
      let number : field_number classes d g ≡ place.0 = (field_of_type classes d g k.0 k.2).0 ∙ ap (λ k. unwrap_or k 0) place.1 in
      ap (λ c. field_place (fields_of classes c) g) k.1 ∙ place.1 ∙ ap Some (sym number)

  -- and the declared type of that field
  pub holder-type : (x : Variable) (f : Name) (fs : List Name) (r : Looked) (u : Val) (o : Seen) → walk_receiver classes env x f fs ≡ Ok r
      → path_value classes store locals (record { base = x; fields = all_but_last f fs }) ≡ Ok u → object_at store u ≡ Ok o
      → (field_type classes o.class (last_field f fs) ≡ Some r.ty) × (type_along classes (type_in (scope_of locals) x) (f ∷ fs) ≡ r.ty)
  holder-type x f fs r u o h got there =
      let g = last_field f fs in
      let k = holder-class x f fs r u o h got there in
      let d = type_along classes (type_in (scope_of locals) x) (all_but_last f fs) in (
        ap (λ c. field_type classes c g) k.1 ∙ k.3,
        along-last classes (type_in (scope_of locals) x) f fs ∙ (field_of_type classes d g k.0 k.2).1 ∙ ap (λ d. unwrap_or d Int) k.3,
      )

-- Blocks

-- a statement that may give no result isn't a `return`
not_last : (classes : List Class) (line : ℕ) (env out : Env) (k : StmtKind) → judge_kind classes None line env k ≡ Ok out → GoesOn k
not_last classes line env out (return e) h = absurd (err-ok _ out h)
not_last classes line env out _ h = tt

last_none : (b : Block) → last_of None b ≡ None
last_none none = refl
last_none (more_of s b) = refl

-- a block without a result has no `return`
pub block-goes_on : (classes : List Class) (b : Block) (env out : Env) → judge_block classes None env b ≡ Ok out → AllGoOn b
block-goes_on classes none env out h = tt
block-goes_on classes (more_of (stmt line k) b) env out h =
    let p = bind-ok (judge_stmt classes (last_of None b) env (stmt line k)) _ out h in
    (not_last classes line env p.0 k (subst (λ l. judge_kind classes l line env k ≡ Ok p.0) (last_none b) p.1), block-goes_on classes b p.0 out p.2)

return_of : (k : StmtKind) → is_return k ≡ true → (e : Expr) × (k ≡ return e)
return_of (return e) h = (e, refl)
return_of _ h = absurd (true≢false (sym h))

-- a body with a result gives it by its last statement
pub block-gives : (classes : List Class) (result : Option Ty) (b : Block) (env out : Env) → judge_block classes result env b ≡ Ok out
    → ends_in_return b ≡ true → Gives b
block-gives classes result none env out h last = absurd (true≢false (sym last))
block-gives classes result (more_of (stmt line k) none) env out h last = let r = return_of k last in inl (r.0, r.1, refl)
block-gives classes result (more_of (stmt line k) (more_of (stmt here next) b)) env out h last =
    let p = bind-ok (judge_stmt classes None env (stmt line k)) _ out h in
    inr (not_last classes line env p.0 k p.1, block-gives classes result (more_of (stmt here next) b) p.0 out p.2 last)
