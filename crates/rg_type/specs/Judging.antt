-- Answers against the rules (docs/language.md, "Judgements"). A statement that found no memory says nothing of them.
use Rattle.std.specs.Prelude.{◌≡◌, Result, Ok, Err}
use Rattle.rg_base.specs.declared.fault.Stop.{Stop}
use Rattle.rg_tree.specs.Rows.Tables.{Tables}
use Rattle.rg_rules.specs.Answers.{Lined}
use Rattle.rg_rules.specs.Environment.{Env}
use Rattle.rg_names.specs.Judged.{FailsAs}
use Rattle.rg_flow.specs.Scope.{Scope, env_of}

-- an environment comes only where the rule gives it
abbrev pub StmtJudgedAs : Tables → Lined Env → Result Scope Stop → Type 0
StmtJudgedAs t rule (Ok scope) = rule ≡ Ok (env_of t scope)
StmtJudgedAs t rule (Err stop) = FailsAs rule stop
