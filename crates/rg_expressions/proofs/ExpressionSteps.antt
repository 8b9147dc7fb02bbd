-- An expression, of which its own type is judged first and the last test comes behind.
use Rattle.std.proofs.Common.{◌≡◌, refl, ap, ◌∙◌, Bool as Truth, true, false, List, Option, Some, Result, Ok, Err}
use Rattle.rg_base.specs.declared.fault.Code.{Code}
use Rattle.rg_base.specs.declared.fault.Code.TheVariants.{Mismatch}
use Rattle.rg_base.specs.declared.ty.Ty.{Ty}
use Rattle.rg_base.specs.declared.ty.Ty.TheVariants.{Int, Bool}
use Rattle.rg_tree.specs.declared.rows.BinOp.{BinOp}
use Rattle.rg_tree.specs.Tree.{Expr, number, boolean, nil, path, is_nil, neg, not, binary, size, element, Class}
use Rattle.rg_rules.specs.Answers.{◌>>=◌, ◌>>◌, test, Answer}
use Rattle.rg_rules.specs.Environment.{Env}
use Rattle.rg_rules.specs.Paths.{Looked, read_through, walk_array}
use Rattle.rg_rules.specs.Expressions.{Judged, Operators, among, operand_type, agree, result_type, against, nil_type, judge_is_nil, judge_expr}
use Rattle.rg_expressions.specs.Judging.{TypedAs}
use Rattle.rg_expressions.specs.Inner.Operations.{operation_of, own_type_of}

-- what was answered before the last test
then_tested : {A : Type 0} (r : Answer A) (f : A → Judged) (go : Judged → Answer Judged) →
    ◌>>=◌ r (λ a. go (f a)) ≡ ◌>>=◌ (◌>>=◌ r (λ a. Ok (f a))) go
then_tested (Ok a) f go = refl
then_tested (Err code) f go = refl

passed_tested : {A : Type 0} (r : Answer A) (j : Judged) (go : Judged → Answer Judged) → ◌>>◌ r (go j) ≡ ◌>>=◌ (◌>>◌ r (Ok j)) go
passed_tested (Ok u) j go = refl
passed_tested (Err code) j go = refl

index_tested : (t : Answer Ty) (i : Answer Judged) (go : Judged → Answer Judged) →
    ◌>>=◌ t (λ ty. ◌>>=◌ i (λ j. go (record { ty = ty; env = j.env })))
    ≡ ◌>>=◌ (◌>>=◌ t (λ ty. ◌>>=◌ i (λ j. Ok (record { ty = ty; env = j.env })))) go
index_tested (Ok ty) i go = then_tested i (λ j. record { ty = ty; env = j.env }) go
index_tested (Err code) i go = refl

array_tested : (a : Answer Looked) (i : Answer Judged) (go : Judged → Answer Judged) →
    ◌>>=◌ a (λ l. ◌>>=◌ (read_through l.receiver l.ty) (λ ty. ◌>>=◌ i (λ j. go (record { ty = ty; env = j.env }))))
    ≡ ◌>>=◌ (◌>>=◌ a (λ l. ◌>>=◌ (read_through l.receiver l.ty) (λ ty. ◌>>=◌ i (λ j. Ok (record { ty = ty; env = j.env }))))) go
array_tested (Ok l) i go = index_tested (read_through l.receiver l.ty) i go
array_tested (Err code) i go = refl

test_tested : (b : Truth) (j : Judged) (go : Judged → Answer Judged) →
    ◌>>◌ (test b Mismatch) (go j) ≡ ◌>>=◌ (◌>>◌ (test b Mismatch) (Ok j)) go
test_tested true j go = refl
test_tested false j go = refl

right_tested : (r : Answer Judged) (holds : Judged → Truth) (f : Judged → Judged) (go : Judged → Answer Judged) →
    ◌>>=◌ r (λ j. ◌>>◌ (test (holds j) Mismatch) (go (f j))) ≡ ◌>>=◌ (◌>>=◌ r (λ j. ◌>>◌ (test (holds j) Mismatch) (Ok (f j)))) go
right_tested (Ok j) holds f go = test_tested (holds j) (f j) go
right_tested (Err code) holds f go = refl

left_tested : (l : Answer Judged) (r : Judged → Answer Judged) (holds : Judged → Judged → Truth) (f : Judged → Judged) (go : Judged → Answer Judged) →
    ◌>>=◌ l (λ i. ◌>>=◌ (r i) (λ j. ◌>>◌ (test (holds i j) Mismatch) (go (f j))))
    ≡ ◌>>=◌ (◌>>=◌ l (λ i. ◌>>=◌ (r i) (λ j. ◌>>◌ (test (holds i j) Mismatch) (Ok (f j))))) go
left_tested (Ok i) r holds f go = right_tested (r i) (holds i) f go
left_tested (Err code) r holds f go = refl

pub judge_expr-own : (classes : List Class) (env : Env) (wanted : Option Ty) (e : Expr) →
    judge_expr classes env wanted e ≡ ◌>>=◌ (own_type_of classes env wanted e) (λ j. against wanted j.ty j.env)
judge_expr-own classes env wanted nil = then_tested (nil_type wanted) (λ t. record { ty = t; env = env }) (λ j. against wanted j.ty j.env)
judge_expr-own classes env wanted (is_nil p) =
    passed_tested (judge_is_nil classes env p.base p.fields) (record { ty = Bool; env = env }) (λ j. against wanted j.ty j.env)
judge_expr-own classes env wanted (neg a) =
    then_tested (judge_expr classes env (Some Int) a) (λ j. record { ty = Int; env = j.env }) (λ j. against wanted j.ty j.env)
judge_expr-own classes env wanted (not a) =
    then_tested (judge_expr classes env (Some Bool) a) (λ j. record { ty = Bool; env = j.env }) (λ j. against wanted j.ty j.env)
judge_expr-own classes env wanted (binary op a b) =
    left_tested (judge_expr classes env (operand_type (among op)) a) (λ l. judge_expr classes l.env (operand_type (among op)) b)
    (λ l r. agree (among op) l.ty r.ty)
    (λ r. record { ty = result_type (among op); env = r.env }) (λ j. against wanted j.ty j.env)
judge_expr-own classes env wanted (size q) =
    passed_tested (walk_array classes env q.base q.fields) (record { ty = Int; env = env }) (λ j. against wanted j.ty j.env)
judge_expr-own classes env wanted (element q e) =
    array_tested (walk_array classes env q.base q.fields) (judge_expr classes env (Some Int) e) (λ j. against wanted j.ty j.env)
judge_expr-own classes env wanted _ = refl

-- it has no type of its own
pub own-fails : (classes : List Class) (env : Env) (wanted : Option Ty) (e : Expr) (code : Code) →
    own_type_of classes env wanted e ≡ Err code → judge_expr classes env wanted e ≡ Err code
own-fails classes env wanted e code h = judge_expr-own classes env wanted e ∙ ap (λ r. ◌>>=◌ r (λ j. against wanted j.ty j.env)) h

-- it has one, and the last test is left
pub own-passes : (classes : List Class) (env last : Env) (wanted : Option Ty) (e : Expr) (ty : Ty) (result : Result Ty Code) →
    own_type_of classes env wanted e ≡ Ok (record { ty = ty; env = last }) → TypedAs (against wanted ty last) last result →
    TypedAs (judge_expr classes env wanted e) last result
own-passes classes env last wanted e ty result h test = rw (judge_expr-own classes env wanted e, h) test

-- both operands have a type, and they may stand together
pub record Operands (classes : List Class) (env : Env) (o : Operators) (a b : Expr) (mid last : Env) (l r : Ty) : Type 0 where
  pub left : judge_expr classes env (operand_type o) a ≡ Ok (record { ty = l; env = mid })
  pub right : judge_expr classes mid (operand_type o) b ≡ Ok (record { ty = r; env = last })
  pub together : agree o l r ≡ true

pub operation-passes : (classes : List Class) (env mid last : Env) (op : BinOp) (a b : Expr) (l r : Ty) →
    Operands classes env (among op) a b mid last l r →
    operation_of classes env op a b ≡ Ok (record { ty = result_type (among op); env = last })
operation-passes classes env mid last op a b l r h = rw (h.left, h.right, h.together) refl
