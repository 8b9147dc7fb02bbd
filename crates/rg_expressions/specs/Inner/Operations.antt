-- The operators that have one rule, and an expression in front of its last test, as the rules say them (docs/language.md, "Judgements").
use Rattle.std.specs.Prelude.{List, Option, Some, Ok}
use Rattle.rg_base.specs.declared.ty.Ty.{Ty}
use Rattle.rg_base.specs.declared.ty.Ty.TheVariants.{Int, Bool}
use Rattle.rg_base.specs.declared.fault.Code.TheVariants.{Mismatch}
use Rattle.rg_tree.specs.declared.rows.BinOp.{BinOp}
use Rattle.rg_tree.specs.Tree.{Path, Expr, number, boolean, nil, path, is_nil, neg, not, binary, size, element, Class}
use Rattle.rg_rules.specs.Answers.{◌>>=◌, ◌>>◌, test, Answer}
use Rattle.rg_rules.specs.Environment.{Env}
use Rattle.rg_rules.specs.Paths.{read_through, walk_array}
use Rattle.rg_rules.specs.Expressions.{Judged, nil_type, judge_path, judge_is_nil, among, operand_type, agree, result_type, judge_expr}
use Rattle.rg_rules.specs.Expressions as rules
use Rattle.rg_expressions.specs.declared.operators.Operators.{Operators}
use Rattle.rg_expressions.specs.declared.operators.Operators.TheVariants.{Arithmetic, Order, Equality, Logic}

-- the operators of one rule
abbrev pub operators_of : Operators → rules.Operators
operators_of Arithmetic = rules.arithmetic
operators_of Order = rules.order
operators_of Equality = rules.equality
operators_of Logic = rules.logic

-- an operator between two operands, of which the left one is judged first
abbrev pub operation_of : List Class → Env → BinOp → (left right : Expr) → Answer Judged
operation_of classes env op a b = do
  l ← judge_expr classes env (operand_type (among op)) a
  r ← judge_expr classes l.env (operand_type (among op)) b
  test (agree (among op) l.ty r.ty) Mismatch
  Ok (record { ty = result_type (among op); env = r.env })

-- an element, whose array is found before the index is judged
abbrev pub element_of : List Class → Env → Path → (index : Expr) → Answer Judged
element_of classes env q e = do
  a ← walk_array classes env q.base q.fields
  t ← read_through a.receiver a.ty
  j ← judge_expr classes env (Some Int) e
  Ok (record { ty = t; env = j.env })

-- the type of an expression by itself, in front of the last test; `nil` has the expected one
abbrev pub own_type_of : List Class → Env → (wanted : Option Ty) → Expr → Answer Judged
own_type_of classes env wanted (number z) = Ok (record { ty = Int; env = env })
own_type_of classes env wanted (boolean b) = Ok (record { ty = Bool; env = env })
own_type_of classes env wanted nil = do
  t ← nil_type wanted
  Ok (record { ty = t; env = env })
own_type_of classes env wanted (path p) = judge_path classes env p.base p.fields
own_type_of classes env wanted (is_nil p) = do
  judge_is_nil classes env p.base p.fields
  Ok (record { ty = Bool; env = env })
own_type_of classes env wanted (neg a) = do
  j ← judge_expr classes env (Some Int) a
  Ok (record { ty = Int; env = j.env })
own_type_of classes env wanted (not a) = do
  j ← judge_expr classes env (Some Bool) a
  Ok (record { ty = Bool; env = j.env })
own_type_of classes env wanted (binary op a b) = operation_of classes env op a b
own_type_of classes env wanted (size q) = do
  walk_array classes env q.base q.fields
  Ok (record { ty = Int; env = env })
own_type_of classes env wanted (element q e) = element_of classes env q e
