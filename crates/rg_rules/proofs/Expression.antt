-- What an expression that has a type says of its parts: its type is below the expected one, and where it isn't `iso`, the environment
-- is as it was. For callers.
use Rattle.std.proofs.Common.{◌≡◌, refl, sym, ◌∙◌, Bool as Truth, true, false, ◌&&◌, ◌==◌, not as negated, if◌then◌else◌, List, [], ◌∷◌, Option, Some}
use Rattle.std.proofs.Common.{None, ok_or, Ok, arith}
use Rattle.rg_base.specs.declared.words.Cap.TheVariants.{Mut, Tmp, Paused, Imm, Iso}
use Rattle.rg_base.specs.declared.ty.Ty.{Ty}
use Rattle.rg_base.specs.declared.ty.Ty.TheVariants.{Int, Bool, Ref}
use Rattle.rg_base.specs.declared.fault.Code.TheVariants.{Unknown, Mismatch}
use Rattle.rg_tree.specs.Tree.{Name, Variable, Path, Expr, number, boolean, nil, path, is_nil, neg, not, binary, size, element, Class}
use Rattle.rg_rules.specs.Answers.{◌>>=◌, ◌>>◌, test}
use Rattle.rg_rules.specs.Capabilities.{below, is_iso, pause, comparable}
use Rattle.rg_rules.specs.Environment.{Env, Entry, entry_of, at_depth, seen_type, available, used}
use Rattle.rg_rules.specs.Paths.{Looked, read_through, walk, walk_array}
use Rattle.rg_rules.specs.Expressions.{Judged, against, nil_type, judge_path, judge_is_nil, Operators, arithmetic, order, equality, logic, among}
use Rattle.rg_rules.specs.Expressions.{operand_type, agree, result_type, judge_expr}
use Rattle.rg_rules.proofs.Answers.{bind-ok, then-ok, test-then}

-- the last test of an expression changes neither the type nor the environment
pub record Unchanged (t : Ty) (env : Env) (j : Judged) : Type 0 where
  pub ty : j.ty ≡ t
  pub env_is : j.env ≡ env

pub against-ok : (w : Option Ty) (t : Ty) (env : Env) (j : Judged) → against w t env ≡ Ok j → Unchanged t env j
against-ok None t env j h = let e : record { ty = t; env = env } ≡ j = grind arith in rw (← e) (record { ty = refl; env_is = refl })
against-ok (Some w) t env j h =
    let p = test-then (below t w) _ _ j h in
    let e : record { ty = t; env = env } ≡ j = grind arith in rw (← e) (record { ty = refl; env_is = refl })

-- what passed the last test is below the expected type
pub against-below : (w t : Ty) (env : Env) (j : Judged) → against (Some w) t env ≡ Ok j → below j.ty w ≡ true
against-below w t env j h = rw ((against-ok (Some w) t env j h).ty) (test-then (below t w) _ _ j h).0

-- both operands of an operator have a type, and they may stand together
pub record Operands (classes : List Class) (env : Env) (o : Operators) (a b : Expr) (l r : Judged) : Type 0 where
  pub left : judge_expr classes env (operand_type o) a ≡ Ok l
  pub right : judge_expr classes l.env (operand_type o) b ≡ Ok r
  pub together : agree o l.ty r.ty ≡ true

-- an operator between two operands that has a type
pub record Binary (classes : List Class) (env : Env) (w : Option Ty) (o : Operators) (a b : Expr) (j : Judged) : Type 0 where
  pub l : Judged
  pub r : Judged
  pub operands : Operands classes env o a b l r
  pub last : against w (result_type o) r.env ≡ Ok j

pub binary-ok : (classes : List Class) (env : Env) (w : Option Ty) (o : Operators) (a b : Expr) (j : Judged) →
    (do
      l ← judge_expr classes env (operand_type o) a
      r ← judge_expr classes l.env (operand_type o) b
      test (agree o l.ty r.ty) Mismatch
      against w (result_type o) r.env) ≡ Ok j → Binary classes env w o a b j
binary-ok classes env w o a b j h =
    let l = bind-ok (judge_expr classes env (operand_type o) a) _ j h in
    let r = bind-ok (judge_expr classes l.0.env (operand_type o) b) _ j l.2 in
    let m = test-then (agree o l.0.ty r.0.ty) _ _ j r.2 in
    record { l = l.0; r = r.0; operands = record { left = l.1; right = r.1; together = m.0 }; last = m.1 }

-- an element that has a type: its array is walked to, and its index is a number
pub record Element (classes : List Class) (env : Env) (w : Option Ty) (q : Path) (e : Expr) (j : Judged) : Type 0 where
  pub array : Looked
  pub ty : Ty
  pub index : Judged
  pub walked : walk_array classes env q.base q.fields ≡ Ok array
  pub readable : read_through array.receiver array.ty ≡ Ok ty
  pub judged : judge_expr classes env (Some Int) e ≡ Ok index
  pub last : against w ty index.env ≡ Ok j

pub element-ok : (classes : List Class) (env : Env) (w : Option Ty) (q : Path) (e : Expr) (j : Judged) →
    judge_expr classes env w (element q e) ≡ Ok j → Element classes env w q e j
element-ok classes env w q e j h =
    let a = bind-ok (walk_array classes env q.base q.fields) _ j h in
    let t = bind-ok (read_through a.0.receiver a.0.ty) _ j a.2 in
    let i = bind-ok (judge_expr classes env (Some Int) e) _ j t.2 in
    record { array = a.0; ty = t.0; index = i.0; walked = a.1; readable = t.1; judged = i.1; last = i.2 }

-- an expression of which a type is expected has a type below it
pub judge_expr-below : (classes : List Class) (env : Env) (w : Ty) (e : Expr) (j : Judged) →
    judge_expr classes env (Some w) e ≡ Ok j → below j.ty w ≡ true
judge_expr-below classes env w (number z) j h = against-below w Int env j h
judge_expr-below classes env w (boolean b) j h = against-below w Bool env j h
judge_expr-below classes env w nil j h = let p = bind-ok (nil_type (Some w)) _ j h in against-below w p.0 env j p.2
judge_expr-below classes env w (path q) j h =
    let p = bind-ok (judge_path classes env q.base q.fields) _ j h in against-below w p.0.ty p.0.env j p.2
judge_expr-below classes env w (is_nil q) j h =
    let p = then-ok (judge_is_nil classes env q.base q.fields) _ j h in against-below w Bool env j p.2
judge_expr-below classes env w (neg a) j h =
    let p = bind-ok (judge_expr classes env (Some Int) a) _ j h in against-below w Int p.0.env j p.2
judge_expr-below classes env w (not a) j h =
    let p = bind-ok (judge_expr classes env (Some Bool) a) _ j h in against-below w Bool p.0.env j p.2
judge_expr-below classes env w (binary op a b) j h =
    let p = binary-ok classes env (Some w) (among op) a b j h in against-below w (result_type (among op)) p.r.env j p.last
judge_expr-below classes env w (size q) j h =
    let p = then-ok (walk_array classes env q.base q.fields) _ j h in against-below w Int env j p.2
judge_expr-below classes env w (element q e) j h =
    let p = element-ok classes env (Some w) q e j h in against-below w p.ty p.index.env j p.last

and_second : (a b : Truth) → a && b ≡ true → b ≡ true
and_second true b h = h
and_second false b h = grind arith

-- only an `iso` type has an `iso` type below it
pub below-not_iso : (t w : Ty) → is_iso w ≡ false → below t w ≡ true → is_iso t ≡ false
below-not_iso Int w i b = refl
below-not_iso Bool w i b = refl
below-not_iso (Ref Mut c) w i b = refl
below-not_iso (Ref Tmp c) w i b = refl
below-not_iso (Ref Paused c) w i b = refl
below-not_iso (Ref Imm c) w i b = refl
below-not_iso (Ref Iso c) Int i b = grind arith
below-not_iso (Ref Iso c) Bool i b = grind arith
below-not_iso (Ref Iso c) (Ref Mut d) i b = let e : false ≡ true = and_second (c == d) false b in cc
below-not_iso (Ref Iso c) (Ref Tmp d) i b = let e : false ≡ true = and_second (c == d) false b in cc
below-not_iso (Ref Iso c) (Ref Paused d) i b = let e : false ≡ true = and_second (c == d) false b in cc
below-not_iso (Ref Iso c) (Ref Imm d) i b = let e : false ≡ true = and_second (c == d) false b in cc
below-not_iso (Ref Iso c) (Ref Iso d) i b = grind arith

-- nor is an expression of which a number is expected
pub number-not_iso : (classes : List Class) (env : Env) (e : Expr) (j : Judged) → judge_expr classes env (Some Int) e ≡ Ok j → is_iso j.ty ≡ false
number-not_iso classes env e j h = below-not_iso j.ty Int refl (judge_expr-below classes env Int e j h)

-- two types that aren't `iso`
abbrev pub NotIso : Ty → Ty → Type 0
NotIso t u = (is_iso t ≡ false) × (is_iso u ≡ false)

comparable-not_iso : (t u : Ty) → comparable t u ≡ true → NotIso t u
comparable-not_iso Int Int h = (refl, refl)
comparable-not_iso Int Bool h = grind arith
comparable-not_iso Int (Ref k d) h = grind arith
comparable-not_iso Bool Int h = grind arith
comparable-not_iso Bool Bool h = (refl, refl)
comparable-not_iso Bool (Ref k d) h = grind arith
comparable-not_iso (Ref k c) Int h = grind arith
comparable-not_iso (Ref k c) Bool h = grind arith
comparable-not_iso (Ref k c) (Ref q d) h = grind (arith, ◌&&◌, negated)

-- operands of which a type is expected that isn't `iso`
expected-not_iso : (classes : List Class) (env : Env) (w : Ty) (a b : Expr) (l r : Judged) → is_iso w ≡ false →
    judge_expr classes env (Some w) a ≡ Ok l → judge_expr classes l.env (Some w) b ≡ Ok r → NotIso l.ty r.ty
expected-not_iso classes env w a b l r p h k =
    (below-not_iso l.ty w p (judge_expr-below classes env w a l h), below-not_iso r.ty w p (judge_expr-below classes l.env w b r k))

-- no operand is `iso`
pub operands-not_iso : (classes : List Class) (env : Env) (o : Operators) (a b : Expr) (l r : Judged) →
    Operands classes env o a b l r → NotIso l.ty r.ty
operands-not_iso classes env arithmetic a b l r h = expected-not_iso classes env Int a b l r refl h.left h.right
operands-not_iso classes env order a b l r h = expected-not_iso classes env Int a b l r refl h.left h.right
operands-not_iso classes env equality a b l r h = comparable-not_iso l.ty r.ty h.together
operands-not_iso classes env logic a b l r h = expected-not_iso classes env Bool a b l r refl h.left h.right

pause-is_iso : (t : Ty) → is_iso (pause t) ≡ is_iso t
pause-is_iso Int = refl
pause-is_iso Bool = refl
pause-is_iso (Ref Mut c) = refl
pause-is_iso (Ref Tmp c) = refl
pause-is_iso (Ref Paused c) = refl
pause-is_iso (Ref Imm c) = refl
pause-is_iso (Ref Iso c) = refl

-- a variable is seen as `iso` exactly where it is declared so
pub seen_type-is_iso : (env : Env) (e : Entry) → is_iso (seen_type env e) ≡ is_iso e.ty
seen_type-is_iso env e = by_depth (at_depth env e)
  where
    by_depth : (b : Truth) → is_iso (if b then e.ty else pause e.ty) ≡ is_iso e.ty
    by_depth true = refl
    by_depth false = pause-is_iso e.ty

judge_path-env : (classes : List Class) (env : Env) (x : Variable) (fs : List Name) (j : Judged) →
    judge_path classes env x fs ≡ Ok j → is_iso j.ty ≡ false → j.env ≡ env
judge_path-env classes env x [] j h n =
    let p = bind-ok (ok_or (entry_of env x) Unknown) _ j h in
    let q = test-then (available p.0) _ _ j p.2 in
    let e : record { ty = seen_type env p.0; env = used x p.0 env } ≡ j = grind arith in
    let i : is_iso p.0.ty ≡ false = sym (seen_type-is_iso env p.0) ∙ (rw (← e) at n) in rw (← e) (rw (used, i) refl)
judge_path-env classes env x (f ∷ fs) j h n =
    let p = bind-ok (walk classes env x (f ∷ fs)) _ j h in
    let q = test-then (negated (is_iso p.0)) _ _ j p.2 in
    let e : record { ty = p.0; env = env } ≡ j = grind arith in rw (← e) refl

-- an expression whose type isn't `iso` leaves the environment as it was
pub judge_expr-env : (classes : List Class) (env : Env) (w : Option Ty) (e : Expr) (j : Judged) →
    judge_expr classes env w e ≡ Ok j → is_iso j.ty ≡ false → j.env ≡ env
judge_expr-env classes env w (number z) j h n = (against-ok w Int env j h).env_is
judge_expr-env classes env w (boolean b) j h n = (against-ok w Bool env j h).env_is
judge_expr-env classes env w nil j h n = let p = bind-ok (nil_type w) _ j h in (against-ok w p.0 env j p.2).env_is
judge_expr-env classes env w (path q) j h n =
    let p = bind-ok (judge_path classes env q.base q.fields) _ j h in
    let a = against-ok w p.0.ty p.0.env j p.2 in a.env_is ∙ judge_path-env classes env q.base q.fields p.0 p.1 (rw a.ty at n)
judge_expr-env classes env w (is_nil q) j h n =
    let p = then-ok (judge_is_nil classes env q.base q.fields) _ j h in (against-ok w Bool env j p.2).env_is
judge_expr-env classes env w (neg a) j h n =
    let p = bind-ok (judge_expr classes env (Some Int) a) _ j h in
    let i = below-not_iso p.0.ty Int refl (judge_expr-below classes env Int a p.0 p.1) in
    (against-ok w Int p.0.env j p.2).env_is ∙ judge_expr-env classes env (Some Int) a p.0 p.1 i
judge_expr-env classes env w (not a) j h n =
    let p = bind-ok (judge_expr classes env (Some Bool) a) _ j h in
    let i = below-not_iso p.0.ty Bool refl (judge_expr-below classes env Bool a p.0 p.1) in
    (against-ok w Bool p.0.env j p.2).env_is ∙ judge_expr-env classes env (Some Bool) a p.0 p.1 i
judge_expr-env classes env w (binary op a b) j h n =
    let p = binary-ok classes env w (among op) a b j h in
    let i = operands-not_iso classes env (among op) a b p.l p.r p.operands in
    (against-ok w (result_type (among op)) p.r.env j p.last).env_is
    ∙ judge_expr-env classes p.l.env (operand_type (among op)) b p.r p.operands.right i.1
    ∙ judge_expr-env classes env (operand_type (among op)) a p.l p.operands.left i.0
judge_expr-env classes env w (size q) j h n =
    let p = then-ok (walk_array classes env q.base q.fields) _ j h in (against-ok w Int env j p.2).env_is
judge_expr-env classes env w (element q e) j h n =
    let p = element-ok classes env w q e j h in
    (against-ok w p.ty p.index.env j p.last).env_is
    ∙ judge_expr-env classes env (Some Int) e p.index p.judged (number-not_iso classes env e p.index p.judged)
