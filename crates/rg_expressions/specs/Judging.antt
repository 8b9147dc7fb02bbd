-- Answers against the rules (docs/language.md, "Judgements"). An expression takes no memory, so it is never refused for want of it.
use Rattle.std.specs.Prelude.{◌≡◌, ◌<◌, ℕ, Result, Ok, Err, length}
use Rattle.rg_base.specs.declared.fault.Code.{Code}
use Rattle.rg_base.specs.declared.fault.Stop.{Stop}
use Rattle.rg_base.specs.declared.fault.Stop.TheVariants.{Fault, Memory}
use Rattle.rg_base.specs.declared.ty.Ty.{Ty}
use Rattle.rg_tree.specs.declared.rows.Path.{Path}
use Rattle.rg_tree.specs.Rows.Tables.{Tables, numbers_in}
use Rattle.rg_rules.specs.Answers.{Answer}
use Rattle.rg_rules.specs.Environment.{Env}
use Rattle.rg_rules.specs.Expressions as rules
use Rattle.rg_flow.specs.Scope.{env_of}
use Rattle.rg_expressions.specs.declared.judged.Judged.{Judged}

-- a code of the rules comes with the line that was handed in; an expression takes no memory, so there is no want of it
abbrev pub FailsAt : {A : Type 0} → (line : ℕ) → Answer A → Stop → Type 0
FailsAt line rule (Fault f) = (rule ≡ Err f.code) × (f.line ≡ line)
FailsAt line rule Memory = ⊥

-- a type with the environment afterwards comes only where the rule gives them
abbrev pub ExprJudgedAs : Tables → (line : ℕ) → Answer rules.Judged → Result Judged Stop → Type 0
ExprJudgedAs t line rule (Ok j) = rule ≡ Ok (record { ty = j.ty; env = env_of t j.env })
ExprJudgedAs t line rule (Err stop) = FailsAt line rule stop

-- a type comes with the variables that the rule leaves, or its code is answered
abbrev pub TypedAs : Answer rules.Judged → (new : Env) → Result Ty Code → Type 0
TypedAs rule new (Ok ty) = rule ≡ Ok (record { ty = ty; env = new })
TypedAs rule new (Err code) = rule ≡ Err code

-- the path has a field
abbrev pub HasField : Tables → Path → Type 0
HasField t p = 0 < length (numbers_in t p.fields)
