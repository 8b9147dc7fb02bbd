-- An expression whose type isn't `iso` uses no variable up. For callers.
use Rattle.std.proofs.Common.{◌≡◌, refl, sym, ◌∙◌, false, List, [], ◌∷◌, Option, Some, ok_or, Ok, arith}
use Rattle.rg_base.specs.declared.ty.Ty.{Ty}
use Rattle.rg_base.specs.declared.ty.Ty.TheVariants.{Int, Bool}
use Rattle.rg_base.specs.declared.fault.Code.TheVariants.{Unknown}
use Rattle.rg_tree.specs.Tree.{Name, Variable, Expr, path, neg, not, binary, element, Class}
use Rattle.rg_rules.specs.Capabilities.{is_iso}
use Rattle.rg_rules.specs.Environment.{Env, Entry, entry_of, seen_type, available, used}
use Rattle.rg_rules.specs.Expressions.{Judged, judge_path, among, operand_type, judge_expr}
use Rattle.rg_rules.specs.State.{Local}
use Rattle.rg_rules.specs.Evaluation.{is_iso_local, uses_path, uses}
use Rattle.rg_rules.proofs.Answers.{bind-ok, test-then, ok_or-ok}
use Rattle.rg_rules.proofs.Expression.{against-ok, binary-ok, judge_expr-below, below-not_iso, operands-not_iso, judge_expr-env}
use Rattle.rg_rules.proofs.Expression.{seen_type-is_iso, element-ok, number-not_iso}

-- the variables of a frame are declared `iso` where the entries of an environment are
abbrev pub AgreeOnIso : Env → List Local → Type 0
AgreeOnIso env locals = (x : Variable) (e : Entry) → entry_of env x ≡ Some e → is_iso_local locals x ≡ is_iso e.ty

uses_path-none : (classes : List Class) (env : Env) (locals : List Local) → AgreeOnIso env locals → (x : Variable) (fs : List Name) (j : Judged) →
    judge_path classes env x fs ≡ Ok j → is_iso j.ty ≡ false → uses_path locals x fs ≡ []
uses_path-none classes env locals g x [] j h n =
    let p = bind-ok (ok_or (entry_of env x) Unknown) _ j h in
    let q = test-then (available p.0) _ _ j p.2 in
    let e : record { ty = seen_type env p.0; env = used x p.0 env } ≡ j = grind arith in
    let i : is_iso p.0.ty ≡ false = sym (seen_type-is_iso env p.0) ∙ (rw (← e) at n) in
    let k = g x p.0 (ok_or-ok (entry_of env x) Unknown p.0 p.1) ∙ i in rw k refl
uses_path-none classes env locals g x (f ∷ fs) j h n = refl

judge_expr-same : (classes : List Class) (env mid : Env) (w : Option Ty) (e : Expr) (j : Judged) →
    mid ≡ env → judge_expr classes mid w e ≡ Ok j → judge_expr classes env w e ≡ Ok j
judge_expr-same classes env mid w e j same h = rw (← same) h

-- an expression whose type isn't `iso` uses no variable up
pub judge_expr-uses : (classes : List Class) (env : Env) (locals : List Local) → AgreeOnIso env locals → (w : Option Ty) (e : Expr) (j : Judged) →
    judge_expr classes env w e ≡ Ok j → is_iso j.ty ≡ false → uses locals e ≡ []
judge_expr-uses classes env locals g w (path q) j h n =
    let p = bind-ok (judge_path classes env q.base q.fields) _ j h in
    let a = against-ok w p.0.ty p.0.env j p.2 in uses_path-none classes env locals g q.base q.fields p.0 p.1 (rw a.ty at n)
judge_expr-uses classes env locals g w (neg a) j h n =
    let p = bind-ok (judge_expr classes env (Some Int) a) _ j h in
    judge_expr-uses classes env locals g (Some Int) a p.0 p.1 (below-not_iso p.0.ty Int refl (judge_expr-below classes env Int a p.0 p.1))
judge_expr-uses classes env locals g w (not a) j h n =
    let p = bind-ok (judge_expr classes env (Some Bool) a) _ j h in
    judge_expr-uses classes env locals g (Some Bool) a p.0 p.1 (below-not_iso p.0.ty Bool refl (judge_expr-below classes env Bool a p.0 p.1))
judge_expr-uses classes env locals g w (binary op a b) j h n =
    let p = binary-ok classes env w (among op) a b j h in
    let i = operands-not_iso classes env (among op) a b p.l p.r p.operands in
    let same = judge_expr-env classes env (operand_type (among op)) a p.l p.operands.left i.0 in
    let first = judge_expr-uses classes env locals g (operand_type (among op)) a p.l p.operands.left i.0 in
    let right = judge_expr-same classes env p.l.env (operand_type (among op)) b p.r same p.operands.right in
    let second = judge_expr-uses classes env locals g (operand_type (among op)) b p.r right i.1 in rw (first, second) refl
judge_expr-uses classes env locals g w (element q e) j h n =
    let p = element-ok classes env w q e j h in
    judge_expr-uses classes env locals g (Some Int) e p.index p.judged (number-not_iso classes env e p.index p.judged)
judge_expr-uses classes env locals g w _ j h n = refl
