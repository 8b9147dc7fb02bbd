-- The method that a call finds, by the rules and by the class table (docs/language.md, "Judgements").
use Rattle.std.specs.Prelude.{◌≡◌, ℕ, List, length, map, IfSome, ok_or, Result, Ok, Err}
use Rattle.rg_base.specs.declared.fault.Code.{Code}
use Rattle.rg_base.specs.declared.fault.Code.TheVariants.{Unknown, Capability}
use Rattle.rg_base.specs.declared.ty.Ty.{Ty}
use Rattle.rg_base.specs.declared.ty.Ty.TheVariants.{Ref}
use Rattle.rg_tree.specs.Tree.{Name, Method, Class}
use Rattle.rg_tree.specs.Rows.Tables.{Tables, numbers_in}
use Rattle.rg_tree.specs.Rows.RowTrees.{param_at, program_of}
use Rattle.rg_tree.specs.Rows.RowsExist.{IsSpanBelow}
use Rattle.rg_rules.specs.Answers.{◌>>=◌, ◌>>◌, test, Answer}
use Rattle.rg_rules.specs.Capabilities.{below}
use Rattle.rg_rules.specs.Types.{type_of, method_named, method_result}
use Rattle.rg_rules.specs.Paths.{Followed, follow}
use Rattle.rg_names.specs.declared.entry.Sig.{Sig}
use Rattle.rg_names.specs.TreeAnswers.{IsKnown, HasGoodParams}

-- the class that a receiver leads to, or the code why it can't be followed
abbrev pub LeadsAs : Answer Followed → Result ℕ Code → Type 0
LeadsAs rule (Ok class) = (f : Followed) × (rule ≡ Ok f) × (f.class ≡ class)
LeadsAs rule (Err code) = rule ≡ Err code

-- the method of a name behind a receiver, which permits to call it
abbrev pub method_behind : List Class → Ty → Name → Answer Method
method_behind classes t x = do
  r ← follow t
  m ← ok_or (method_named classes r.class x) Unknown
  test (below t (Ref m.receiver r.class)) Capability
  Ok m

-- the type of the parameter of a number
abbrev pub param_type : Tables → ℕ → Ty
param_type t k = type_of (program_of t).classes (param_at t k).ty

-- the parameters and the result are those of the method
pub record IsSigOf (t : Tables) (m : Method) (s : Sig) : Type 0 where
  pub span : IsSpanBelow t (length t.params) s.params
  pub each : HasGoodParams t s
  pub params : map (param_at t) (numbers_in t s.params) ≡ m.params
  pub result : method_result (program_of t).classes m ≡ s.result
  pub known : IfSome s.result (IsKnown (program_of t).classes)

-- the method that the rules find, or their code
abbrev pub SigAs : Tables → Answer Method → Result Sig Code → Type 0
SigAs t rule (Ok s) = (m : Method) × (rule ≡ Ok m) × IsSigOf t m s
SigAs t rule (Err code) = rule ≡ Err code
