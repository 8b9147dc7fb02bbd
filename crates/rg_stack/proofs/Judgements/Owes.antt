-- The premises of calls, right sides and entries, from the judgements of a statement and the invariant.
use Rattle.std.proofs.Common.{◌≡◌, ℕ, zero, suc, ◌+◌, ◌≤◌, true, false, true≢false, Bool as Truth, ◌&&◌, ◌==◌, if◌then◌else◌, List, [], ◌∷◌, length}
use Rattle.std.proofs.Common.{map}
use Rattle.std.proofs.Common.{find, Option, Some, None, ok_or, Ok, refl, sym, ap, subst, ◌∙◌, arith, slice_get, unwrap_or}
use Rattle.std.specs.Prelude.{bytes_eq, not, nat_lt, max, filter_map, is_some}
use Rattle.std.proofs.lemmas.Option.{same_Some, none-some}
use Rattle.std.proofs.lemmas.List.{length-map}
use Rattle.std.proofs.lemmas.Bool.{eqb-true, not-true}
use Rattle.rg_base.specs.declared.words.Cap.{Cap}
use Rattle.rg_base.specs.declared.words.Cap.TheVariants.{Mut, Tmp, Paused, Imm, Iso}
use Rattle.rg_base.specs.declared.ty.Ty.{Ty}
use Rattle.rg_base.specs.declared.ty.Ty.TheVariants.{Int, Bool, Ref}
use Rattle.rg_base.specs.declared.value.Val.{Val}
use Rattle.rg_base.specs.declared.object.Seen.{Seen}
use Rattle.rg_base.specs.declared.fault.Code.TheVariants.{Unknown, Mismatch, BadType}
use Rattle.rg_tree.specs.Tree.{Name, Variable, Ty as Written, ref, Expr, number, boolean, nil, path, is_nil, neg, not as not_of, binary, size}
use Rattle.rg_tree.specs.Tree.{element, Call, Right, value, new}
use Rattle.rg_tree.specs.Tree.{new_tmp, new_iso, freeze, merge, read, more, result_of, Method, Class, Tree}
use Rattle.rg_rules.specs.Capabilities.{is_iso, iso_class, below}
use Rattle.rg_rules.specs.Types.{class_named, is_array, names_array, good_type, method_member, members_of, method_named, param_types, method_result}
use Rattle.rg_rules.specs.Environment.{Env, Entry, Readiness, entry_of, seen_type, available, used, marked, marked_entry, gone, same_variable}
use Rattle.rg_rules.specs.Items.{Item}
use Rattle.rg_rules.specs.Paths.{walk, walk_array, walk_field, walk_fields, look_up, follow}
use Rattle.rg_rules.specs.Expressions.{Judged, judge_path, judge_is_nil, among, operand_type, result_type, judge_expr, nil_type}
use Rattle.rg_rules.specs.Rights.{Called as CallJudged, judge_args, judge_call, judge_size, judge_new, judge_consumed, judge_right}
use Rattle.rg_rules.specs.Statements.{is_call}
use Rattle.rg_rules.specs.State.{Local, value_in, Window as Opened}
use Rattle.rg_stack.specs.Machine.{Window}
use Rattle.rg_rules.specs.Evaluation.{object_at, path_value}
use Rattle.rg_rules.proofs.Answers.{bind-ok, then-ok, test-then, ok_or-ok}
use Rattle.rg_rules.proofs.Path.{follow-ok, look_up-ok}
use Rattle.rg_rules.proofs.Expression.{against-ok, binary-ok, element-ok}
use Rattle.rg_sound.specs.Values.{Meets}
use Rattle.rg_sound.specs.Objects.{ObjectsFit}
use Rattle.rg_sound.proofs.Values.Value.{Sees}
use Rattle.rg_sound.specs.Frames.{Named}
use Rattle.rg_code.specs.declared.op.Op.{Op}
use Rattle.rg_code.specs.declared.code.Entry.{Entry as CodeEntry}
use Rattle.rg_code.specs.Lowering.{type_in, type_behind, type_along, class_of, above, slots_of, methods_among, method_place, method_number}
use Rattle.rg_code.specs.Lowering.{number_called, method_code, main_code, lowered, target_class}
use Rattle.rg_code.specs.Places.{Stands, roomy, scope_of}
use Rattle.rg_code.proofs.Method.{methods_among-is}
use Rattle.rg_stack.proofs.Walks.Walk.{FollowsPath, is_shut}
use Rattle.rg_stack.proofs.Walks.Argument.{AllAgree}
use Rattle.rg_stack.proofs.Statements.Right.{InRegion, NewOwes, RightOwes}
use Rattle.rg_stack.proofs.Statements.Call.{BodyFits, Called}
use Rattle.rg_stack.proofs.Walks.Entry.{entry_of as code_entry}
use Rattle.rg_stack.proofs.Judgements.Follow.{class_is, read-class, field_of_type}
use Rattle.rg_stack.proofs.Judgements.Judge.{seen-class, expr-agrees, number-open, walk-follows, walk-reaches}
use Rattle.rg_stack.proofs.Callers.Label.{by-labels}
use Rattle.rg_stack.proofs.Judgements.Fit.{facts_of, variable-in_region}

-- an environment's names and types behind an expression

marked_by : (b : Truth) (now : Readiness) (e : Entry) (l : Local) → (l.name ≡ e.name) × (l.ty ≡ e.ty)
    → (l.name ≡ (if b then record e { readiness = now } else e).name) × (l.ty ≡ (if b then record e { readiness = now } else e).ty)
marked_by true now e l h = h
marked_by false now e l h = h

named-marked : (x : Variable) (now : Readiness) (es : List Entry) (ls : List Local) → Named es ls → Named (map (marked_entry x now) es) ls
named-marked x now [] [] h = tt
named-marked x now [] (l ∷ ls) h = h
named-marked x now (e ∷ es) [] h = h
named-marked x now (e ∷ es) (l ∷ ls) h = let m = marked_by (same_variable e.name x) now e l (h.0, h.1) in (m.0, m.1, named-marked x now es ls h.2)

-- what holds of an environment, whichever variables are used up, holds behind a judged expression
path-keeps : (P : Env → Type 0) → ((x : Variable) (env : Env) → P env → P (marked x gone env)) → (classes : List Class) (env : Env) (x : Variable)
    (fs : List Name) (j : Judged) → judge_path classes env x fs ≡ Ok j → P env → P j.env
path-keeps P step classes env x [] j h holds =
    let p = bind-ok (ok_or (entry_of env x) Unknown) _ j h in
    let q = test-then (available p.0) _ _ j p.2 in
    let e : record { ty = seen_type env p.0; env = used x p.0 env } ≡ j = grind arith in
    subst (λ (j : Judged). P j.env) e (by (is_iso p.0.ty))
  where
    by : (b : Truth) → P (if b then marked x gone env else env)
    by true = step x env holds
    by false = holds
path-keeps P step classes env x (f ∷ fs) j h holds =
    let p = bind-ok (walk classes env x (f ∷ fs)) _ j h in
    let q = test-then (not (is_iso p.0)) _ _ j p.2 in
    let e : record { ty = p.0; env = env } ≡ j = grind arith in
    subst (λ (j : Judged). P j.env) e holds

still : (P : Env → Type 0) (a b : Env) → a ≡ b → P b → P a
still P a b e h = subst P (sym e) h

expr-keeps : (P : Env → Type 0) → ((x : Variable) (env : Env) → P env → P (marked x gone env)) → (classes : List Class) (env : Env) (w : Option Ty)
    (e : Expr) (j : Judged) → judge_expr classes env w e ≡ Ok j → P env → P j.env
expr-keeps P step classes env w (number z) j h holds = still P j.env env (against-ok w Int env j h).env_is holds
expr-keeps P step classes env w (boolean b) j h holds = still P j.env env (against-ok w Bool env j h).env_is holds
expr-keeps P step classes env w nil j h holds = let p = bind-ok (nil_type w) _ j h in still P j.env env (against-ok w p.0 env j p.2).env_is holds
expr-keeps P step classes env w (path q) j h holds =
    let p = bind-ok (judge_path classes env q.base q.fields) _ j h in
    still P j.env p.0.env (against-ok w p.0.ty p.0.env j p.2).env_is (path-keeps P step classes env q.base q.fields p.0 p.1 holds)
expr-keeps P step classes env w (is_nil q) j h holds =
    let p = then-ok (judge_is_nil classes env q.base q.fields) _ j h in still P j.env env (against-ok w Bool env j p.2).env_is holds
expr-keeps P step classes env w (neg a) j h holds =
    let p = bind-ok (judge_expr classes env (Some Int) a) _ j h in
    still P j.env p.0.env (against-ok w Int p.0.env j p.2).env_is (expr-keeps P step classes env (Some Int) a p.0 p.1 holds)
expr-keeps P step classes env w (not_of a) j h holds =
    let p = bind-ok (judge_expr classes env (Some Bool) a) _ j h in
    still P j.env p.0.env (against-ok w Bool p.0.env j p.2).env_is (expr-keeps P step classes env (Some Bool) a p.0 p.1 holds)
expr-keeps P step classes env w (binary o a b) j h holds =
    let p = binary-ok classes env w (among o) a b j h in
    still P j.env p.r.env (against-ok w (result_type (among o)) p.r.env j p.last).env_is
    (expr-keeps P step classes p.l.env (operand_type (among o)) b p.r p.operands.right
    (expr-keeps P step classes env (operand_type (among o)) a p.l p.operands.left holds))
expr-keeps P step classes env w (size q) j h holds =
    let p = then-ok (walk_array classes env q.base q.fields) _ j h in still P j.env env (against-ok w Int env j p.2).env_is holds
expr-keeps P step classes env w (element q e) j h holds =
    let p = element-ok classes env w q e j h in
    still P j.env p.index.env (against-ok w p.ty p.index.env j p.last).env_is (expr-keeps P step classes env (Some Int) e p.index p.judged holds)

pub expr-named : (classes : List Class) (env : Env) (ls : List Local) (w : Option Ty) (e : Expr) (j : Judged) → judge_expr classes env w e ≡ Ok j
    → Named env.entries ls → Named j.env.entries ls
expr-named classes env ls w e j h named =
    expr-keeps (λ env. Named env.entries ls) (λ x env h. named-marked x gone env.entries ls h) classes env w e j h named

-- an entry among marked ones was one at the same depth
marked-at : (x : Variable) (now : Readiness) (es : List Entry) (i : ℕ) (e : Entry) → slice_get (map (marked_entry x now) es) i ≡ Some e
    → (o : Entry) × (slice_get es i ≡ Some o) × (o.depth ≡ e.depth)
marked-at x now [] i e h = absurd (none-some e h)
marked-at x now (f ∷ fs) zero e h = (f, refl, by (same_variable f.name x) h)
  where
    by : (b : Truth) → Some (if b then record f { readiness = now } else f) ≡ Some e → f.depth ≡ e.depth
    by true h = ap (λ (e : Entry). e.depth) (same_Some (record f { readiness = now }) e h)
    by false h = ap (λ (e : Entry). e.depth) (same_Some f e h)
marked-at x now (f ∷ fs) (suc i) e h = marked-at x now fs i e h

-- what an environment sees it sees behind an expression
marked-sees : (store : List Seen) (opened : List Opened) (n : ℕ) (locals : List Local) (x : Variable) (env : Env)
    → Sees store opened n env locals → Sees store opened n (marked x gone env) locals
marked-sees store opened n locals x env h = record {
  named = named-marked x gone env.entries locals h.named;
  values = h.values;
  depth = λ i e there at. let o = marked-at x gone env.entries i e there in h.depth i o.0 o.1 (ap (λ d. d == env.depth) o.2 ∙ at);
}

expr-sees : (classes : List Class) (store : List Seen) (opened : List Opened) (n : ℕ) (locals : List Local) (env : Env) (w : Option Ty) (e : Expr)
    (j : Judged) → judge_expr classes env w e ≡ Ok j → Sees store opened n env locals → Sees store opened n j.env locals
expr-sees classes store opened n locals env w e j h sees =
    expr-keeps (λ env. Sees store opened n env locals) (marked-sees store opened n locals) classes env w e j h sees

-- slots are enough where the number says so

room_by : (n a s : ℕ) (t : Truth) → nat_lt n a ≡ t → max a s ≤ n → (not t ≡ true) × (s ≤ n)
room_by n a s true e h = absurd (lt_contra n a s e h)
  where
    lt_contra : (n a s : ℕ) → nat_lt n a ≡ true → max a s ≤ n → ⊥
    lt_contra n a s e h = grind (arith, nat_lt)
room_by n a s false e h = (refl, omega (arith, h))

pub roomy_of : (given n : ℕ) (ops : List Op) → slots_of given ops ≤ n → roomy n ops ≡ true
roomy_of given n [] h = refl
roomy_of given n (o ∷ os) h =
    let r = room_by n (above o) (slots_of given os) (nat_lt n (above o)) refl h in
    ap (λ t. t && roomy n os) r.0 ∙ roomy_of given n os r.1

-- the method of a name by its number

place_by : (t : Truth) (a m : Method) (rest : Option Method) (ms : List Method) (n : ℕ) → (rest ≡ Some m → slice_get ms n ≡ Some m)
    → (if t then Some a else rest) ≡ Some m → slice_get (a ∷ ms) (if t then 0 else suc n) ≡ Some m
place_by true a m rest ms n deeper h = h
place_by false a m rest ms n deeper h = deeper h

place_of_method : (ms : List Method) (x : Name) (m : Method) → find (λ (m : Method). bytes_eq m.name x) ms ≡ Some m
    → slice_get ms (method_place ms x) ≡ Some m
place_of_method [] x m h = absurd (none-some m h)
place_of_method (a ∷ ms) x m h = place_by (bytes_eq a.name x) a m (find (λ (m : Method). bytes_eq m.name x) ms) ms (method_place ms x)
    (place_of_method ms x m) h

class_of_method : (o : Option Class) (x : Name) (m : Method) → find (λ (m : Method). bytes_eq m.name x) (filter_map method_member (members_of o))
    ≡ Some m
    → (k : Class) × (o ≡ Some k) × (slice_get (methods_among k.members) (method_place (methods_among k.members) x) ≡ Some m)
class_of_method None x m h = absurd (none-some m h)
class_of_method (Some k) x m h = (
  k,
  refl,
  place_of_method (methods_among k.members) x m
      (ap (find (λ (m : Method). bytes_eq m.name x)) (methods_among-is k.members) ∙ h),
)

-- the entry of a method in the code of a program
pub callee_of : (t : Tree) (j : Item) (rest : List Item) (d : ℕ) (x : Name) (m : Method) → method_named t.classes d x ≡ Some m
    → BodyFits m.result m.body
    → (e : CodeEntry) × (slice_get (lowered t).entries (number_called t.classes d x) ≡ Some e) × Called t.classes (lowered t) j rest d m e
callee_of t j rest d x m named fits =
    let k = class_of_method (slice_get t.classes d) x m named in
    let main = main_code t in
    let h = code_entry t.classes t.classes (length main) 0 d main k.0 x m refl k.1 k.2 in
    let is : 0 + d ≡ d = omega arith in
    let number : number_called t.classes d x ≡ method_number t.classes d x = ap (λ o. elim o [ None ↦ 0 | Some m ↦ method_number t.classes d x ])
    named in (
      h.entry,
      ap (slice_get (lowered t).entries) number ∙ h.there,
      record {
        stands = subst (λ c. Stands (lowered t).ops h.entry.at (method_code t.classes h.entry.at c m)) is h.stands;
        given = h.given;
        room = λ n enough. subst (λ c. roomy n (method_code t.classes h.entry.at c m) ≡ true) is
            (roomy_of (suc (length m.params)) n (method_code t.classes h.entry.at (0 + d) m) (subst (λ s. s ≤ n) h.slots enough));
        fits = fits;
      },
    )

pub class_in : (classes : List Class) (d : Ty) (c : ℕ) → class_is d ≡ Some c → class_of classes d ≡ c
class_in classes Int c h = absurd (none-some c h)
class_in classes Bool c h = absurd (none-some c h)
class_in classes (Ref k b) c h = same_Some b c h

-- the class behind fields, by the types so far and by the declared ones
pub along : (classes : List Class) (fs : List Name) (u t r : Ty) → class_is u ≡ class_is t → walk_fields classes u fs ≡ Ok r → class_is r
    ≡ class_is (type_along classes t fs)
along classes [] u t r same h = let e : u ≡ r = grind arith in ap class_is (sym e) ∙ same
along classes (f ∷ fs) u t r same h =
    let p = bind-ok (walk_field classes u f) _ r h in
    let q = bind-ok (look_up classes u f) _ p.0 p.1 in
    let k = look_up-ok classes u f q.0 q.1 in
    let class_of_t : class_is t ≡ Some k.class = sym same ∙ ap class_is k.reference in
    let behind : type_behind classes t f ≡ q.0.ty = (field_of_type classes t f k.class class_of_t).1 ∙ ap (λ d. unwrap_or d Int) k.declared in
    along classes fs p.0 (type_behind classes t f) r (sym (read-class q.0.receiver q.0.ty p.0 q.2) ∙ ap class_is (sym behind)) p.2

pub iso_type : (t : Ty) (c : ℕ) → iso_class t ≡ Some c → (is_iso t ≡ true) × (class_is t ≡ Some c)
iso_type Int c h = absurd (none-some c h)
iso_type Bool c h = absurd (none-some c h)
iso_type (Ref Mut k) c h = absurd (none-some c h)
iso_type (Ref Tmp k) c h = absurd (none-some c h)
iso_type (Ref Paused k) c h = absurd (none-some c h)
iso_type (Ref Imm k) c h = absurd (none-some c h)
iso_type (Ref Iso k) c h = (refl, h)

pub named_class : (classes : List Class) (cap : Cap) (x : Name) (t : Ty) → good_type classes (ref cap x) ≡ Ok t → (k : Class)
    × (class_named classes x ≡ Some k)
named_class classes cap x t h = let p = bind-ok (ok_or (class_named classes x) Unknown) _ t h in
    (p.0, ok_or-ok (class_named classes x) Unknown p.0 p.1)

-- whether a class is one of arrays

none_is : (o : Option Written) → is_some o ≡ false → o ≡ None
none_is None h = refl
none_is (Some t) h = absurd (true≢false h)

some_is : (o : Option Written) → is_some o ≡ true → (t : Written) × (o ≡ Some t)
some_is None h = absurd (true≢false (sym h))
some_is (Some t) h = (t, refl)

module _ (classes : List Class) (store : List Seen) (windows : List Window) (opened : List Opened) (n : ℕ) (locals : List Local)
    (objects : ObjectsFit classes store opened)
    (shut : (t : Ty) (v : Val) → Meets store opened t v → is_iso t ≡ false → is_shut store windows v ≡ false) where
  -- arguments
  pub args-agree : (ts : List Ty) (es : List Expr) (env out : Env) → Sees store opened n env locals → judge_args classes env ts es ≡ Ok out → length es
      ≡ length ts → AllAgree classes store windows locals (scope_of locals) es
  args-agree ts [] env out sees h many = tt
  args-agree [] (e ∷ es) env out sees h many = absurd (omega (arith, many))
  args-agree (t ∷ ts) (e ∷ es) env out sees h many =
      let p = bind-ok (judge_expr classes env (Some t) e) _ out h in
      let less : length es ≡ length ts = omega (arith, many) in (
        expr-agrees classes env store windows locals (facts_of classes env store windows opened n locals objects shut sees)
            (Some t) e p.0 p.1,
        args-agree ts es p.0.env out (expr-sees classes store opened n locals env (Some t) e p.0 p.1 sees) p.2 less,
      )

  -- what a judged call gives: its method, by the class that the code names, and what its path and its arguments want
  pub record CallGives (env : Env) (c : Call) (j : CallJudged) : Type 0 where
    pub out : Env
    pub method : Method
    pub named : method_named classes (target_class classes (scope_of locals) c) c.method ≡ Some method
    pub arity : length c.args ≡ length method.params
    pub judged : judge_args classes env (param_types classes method) c.args ≡ Ok out
    pub many : length c.args ≡ length (param_types classes method)
    pub result : j.result ≡ method_result classes method
    pub follows : FollowsPath classes store windows locals (scope_of locals) c.target
    pub agrees : AllAgree classes store windows locals (scope_of locals) c.args
    pub class : (v : Val) (o : Seen) → path_value classes store locals c.target ≡ Ok v → object_at store v ≡ Ok o → o.class
        ≡ target_class classes (scope_of locals) c

  pub call-gives : (env : Env) (c : Call) (j : CallJudged) → Sees store opened n env locals → judge_call classes env c ≡ Ok j → CallGives env c j
  call-gives env c j sees h =
      let facts = facts_of classes env store windows opened n locals objects shut sees in
      let x = c.target.base in
      let fs = c.target.fields in
      let p = bind-ok (walk classes env x fs) _ j h in
      let q = bind-ok (follow p.0) _ j p.2 in
      let m = bind-ok (ok_or (method_named classes q.0.class c.method) Unknown) _ j q.2 in
      let b = test-then (below p.0 (Ref m.0.receiver q.0.class)) _ _ j m.2 in
      let a = test-then (length c.args == length m.0.params) _ _ j b.1 in
      let out = bind-ok (judge_args classes env (param_types classes m.0) c.args) _ j a.1 in
      let e = bind-ok (ok_or (entry_of env x) Unknown) _ p.0 p.1 in
      let there = ok_or-ok (entry_of env x) Unknown e.0 e.1 in
      let d = type_along classes (type_in (scope_of locals) x) fs in
      let reference : class_is p.0 ≡ Some q.0.class = ap class_is (follow-ok p.0 q.0 q.1).reference in
      let class_of_d : class_is d ≡ Some q.0.class =
      sym (along classes fs (seen_type env e.0) (type_in (scope_of locals) x) p.0
      (seen-class env e.0 ∙ ap class_is (sym (facts.declared x e.0 there))) e.2) ∙ reference in
      let target : target_class classes (scope_of locals) c ≡ q.0.class = class_in classes d q.0.class class_of_d in
      let whole : record { result = method_result classes m.0; env = out.0 } ≡ j = grind arith in
      let result : j.result ≡ method_result classes m.0 = ap (λ (j : CallJudged). j.result) (sym whole) in
      let many : length c.args ≡ length m.0.params = eqb-true (length c.args) (length m.0.params) a.0 in
      record {
        out = out.0;
        judged = out.1;
        many = many ∙ sym (length-map m.0.params _);
        method = m.0;
        named = ap (λ k. method_named classes k c.method) target ∙ ok_or-ok (method_named classes q.0.class c.method) Unknown m.0 m.1;
        arity = many;
        result = result;
        follows = walk-follows classes env store windows locals facts x fs p.0 p.1;
        agrees = args-agree (param_types classes m.0) c.args env out.0 sees out.1 (many ∙ sym (length-map m.0.params _));
        class = λ v o led is. same_Some o.class (target_class classes (scope_of locals) c)
            (sym ((walk-reaches classes env store windows locals facts x fs p.0 v p.1 led).value.0 o is) ∙ class_of_d ∙ ap Some (sym target));
      }

  consumed-owes : (env : Env) (wanted : Ty) (cap : Cap) (y : Name) (j : Judged) → Sees store opened n env locals
      → judge_consumed env wanted cap y ≡ Ok j → InRegion store (value_in locals (Some y))
  consumed-owes env wanted cap y j sees h =
      let p = bind-ok (ok_or (entry_of env (Some y)) Unknown) _ j h in
      let q = bind-ok (ok_or (iso_class p.0.ty) Mismatch) _ j p.2 in
      let iso = iso_type p.0.ty q.0 (ok_or-ok (iso_class p.0.ty) Mismatch q.0 q.1) in
      variable-in_region env store opened n locals (Some y) p.0 sees.named sees.values (ok_or-ok (entry_of env (Some y)) Unknown p.0 p.1) iso.0

  -- a class that is made, with its size
  new-owes : (env : Env) (wanted : Ty) (cap : Cap) (x : Name) (many : Option Expr) (j : Judged) → Sees store opened n env locals
      → judge_new classes env wanted cap x many ≡ Ok j → NewOwes classes store windows locals (scope_of locals) x many
  new-owes env wanted cap x many j sees h =
      let t = bind-ok (good_type classes (ref cap x)) _ j h in
      let out = bind-ok (judge_size classes env x many) _ j t.2 in
      let k = named_class classes cap x t.0 t.1 in
      by many out.0 out.1 k.0 k.1
    where
      array : (k : Class) → class_named classes x ≡ Some k → names_array classes x ≡ is_some k.element
      array k e = ap (λ (o : Option Class). elim o [ None ↦ false | Some c ↦ is_array c ]) e

      by : (many : Option Expr) (out : Env) → judge_size classes env x many ≡ Ok out → (k : Class) → class_named classes x ≡ Some k
          → NewOwes classes store windows locals (scope_of locals) x many
      by None out h k e =
          let s = test-then (not (names_array classes x)) BadType _ out h in
          (k, e, none_is k.element (sym (array k e) ∙ not-true (names_array classes x) s.0))
      by (Some e) out h k named =
          let s = test-then (names_array classes x) BadType _ out h in
          let p = bind-ok (judge_expr classes env (Some Int) e) _ out s.1 in
          let facts = facts_of classes env store windows opened n locals objects shut sees in
          let t = some_is k.element (sym (array k named) ∙ s.0) in (
            expr-agrees classes env store windows locals facts (Some Int) e p.0 p.1,
            number-open classes env store windows locals facts e p.0 p.1,
            k,
            named,
            t.0,
            t.1,
          )

  -- a right side that makes no call
  pub right-owes : (env : Env) (wanted : Ty) (right : Right) (j : Judged) → Sees store opened n env locals
      → judge_right classes env wanted right ≡ Ok j
      → is_call right ≡ false → RightOwes classes store windows locals (scope_of locals) right
  right-owes env wanted (value e) j sees h i = expr-agrees classes env store windows locals
      (facts_of classes env store windows opened n locals objects shut sees) (Some wanted) e j h
  right-owes env wanted (new x many) j sees h i = new-owes env wanted Mut x many j sees h
  right-owes env wanted (new_tmp x many) j sees h i = new-owes env wanted Tmp x many j sees h
  right-owes env wanted (new_iso x many m) j sees h i = new-owes env wanted Iso x many j sees h
  right-owes env wanted (freeze y) j sees h i = (consumed-owes env wanted Imm y j sees h, by-labels classes store opened objects)
  right-owes env wanted (merge y) j sees h i = consumed-owes env wanted Mut y j sees h
  right-owes env wanted read j sees h i = tt
  right-owes env wanted more j sees h i = tt
  right-owes env wanted (result_of c) j sees h i = absurd (true≢false i)
