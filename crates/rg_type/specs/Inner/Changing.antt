-- Answers of calls that change the variables in place (docs/language.md, "Judgements").
use Rattle.std.specs.Prelude.{◌≡◌, Result, Ok, Err, ℕ, true, Option, Some}
use Rattle.rg_base.specs.declared.fault.Code.{Code}
use Rattle.rg_base.specs.declared.fault.Stop.{Stop}
use Rattle.rg_base.specs.declared.ty.Ty.{Ty}
use Rattle.rg_base.specs.declared.words.Cap.TheVariants.{Mut}
use Rattle.rg_base.specs.declared.ty.Ty.TheVariants.{Ref}
use Rattle.rg_tree.specs.Tree.{Name}
use Rattle.rg_rules.specs.Answers.{Answer, Lined}
use Rattle.rg_rules.specs.Environment.{Env, with_variable, deeper}
use Rattle.rg_rules.specs.Rights.{Called}
use Rattle.rg_names.specs.Judged.{FailsAs}

-- the variables are those that the rule leaves, or its code is answered
abbrev pub DoneAs : Answer Env → (new : Env) → Result (Unit {0}) Code → Type 0
DoneAs rule new (Ok u) = rule ≡ Ok new
DoneAs rule new (Err code) = rule ≡ Err code

-- the result of a call comes with the variables that the rule leaves, or its code is answered
abbrev pub CalledAs : Answer Called → (new : Env) → Result (Option Ty) Code → Type 0
CalledAs rule new (Ok ty) = rule ≡ Ok (record { result = ty; env = new })
CalledAs rule new (Err code) = rule ≡ Err code

-- the type of a variable that is to be added comes with the variables in front of it
abbrev pub DeclaredAs : Answer Env → Name → (new : Env) → Result Ty Code → Type 0
DeclaredAs rule x new (Ok ty) = rule ≡ Ok (with_variable new (Some x) ty true)
DeclaredAs rule x new (Err code) = rule ≡ Err code

-- the class that is entered comes with the variables outside
abbrev pub EnteredAs : Answer Env → Name → (new : Env) → Result ℕ Code → Type 0
EnteredAs rule z new (Ok class) = rule ≡ Ok (with_variable (deeper new) (Some z) (Ref Mut class) true)
EnteredAs rule z new (Err code) = rule ≡ Err code

-- the same of a rule whose faults have a line
abbrev pub LeavesAs : Lined Env → (new : Env) → Result (Unit {0}) Stop → Type 0
LeavesAs rule new (Ok u) = rule ≡ Ok new
LeavesAs rule new (Err stop) = FailsAs rule stop
