-- Whether a program is accepted, and else its first fault (docs/language.md, "Acceptance").
use Rattle.std.specs.Prelude.{◌≡◌, Option, None, Ok}
use Rattle.std.specs.Result.{result_err}
use Rattle.rg_base.specs.declared.fault.Fault.{Fault}
use Rattle.rg_tree.specs.Tree.{Tree}
use Rattle.rg_rules.specs.Answers.{◌>>◌, Lined, Passed}
use Rattle.rg_rules.specs.Headers.{judge_headers}
use Rattle.rg_rules.specs.Bodies.{main_body, judge_body, judge_methods}

-- a program: its headers, then the bodies of its methods in source order, then main's body
abbrev pub judge_program : Tree → Lined Passed
judge_program t = do
  judge_headers t.classes
  judge_methods t.classes 0 t.classes
  judge_body t.classes (main_body t)
  Ok tt

-- the first fault of a program
abbrev pub first_fault : Tree → Option Fault
first_fault t = result_err (judge_program t)

-- a program is accepted that has no fault
abbrev pub Accepted : Tree → Type 0
Accepted t = first_fault t ≡ None
