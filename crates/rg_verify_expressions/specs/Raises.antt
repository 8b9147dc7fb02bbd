-- Expressions, and what code begins with beside them, raised from their code (docs/architecture.md, "Modules").
use Rattle.std.specs.Prelude.{◌≡◌, ℕ, ◌+◌, Bool as Truth, List, ◌++◌, map, length, Result, Ok, Err, Vec}
use Rattle.std.specs.List.{AllByRecursion}
use Rattle.std.specs.declared.alloc.Global.{Global}
use Rattle.rg_tree.specs.Tree.{Class}
use Rattle.rg_tree.specs.Rows.Tables.{Tables}
use Rattle.rg_tree.specs.Adds.{Extends}
use Rattle.rg_code.specs.Lowering.{Scope, exprs_code}
use Rattle.rg_code.specs.declared.op.Op.{Op}
use Rattle.rg_verify_expressions.specs.declared.refusal.Refusal.{Refusal}
use Rattle.rg_verify_expressions.specs.declared.refusal.Refusal.TheVariants as refusal
use Rattle.rg_verify_expressions.specs.declared.front.FrontRow.{FrontRow}
use Rattle.rg_verify_expressions.specs.Raised.{Raised, Front, all_ops, fronts_ops, named, IsFound}
use Rattle.rg_verify_expressions.specs.Parts.{Ends}
use Rattle.rg_verify_expressions.specs.Rows.{front_named, AreFronts}

-- the code of fronts stands there, up to an address, and behind it no instruction of an expression
pub record Stand (ops : List Op) (at : ℕ) (fs : List Front) (end : ℕ) : Type 0 where
  pub rest : List Op
  pub parts : ops ≡ fronts_ops at fs ++ rest
  pub place : end ≡ at + length (fronts_ops at fs)
  pub ends : Ends rest

-- what raising answers: rows of the fronts whose code stands there, and the address behind it; or none have that code
abbrev pub RaisesAll : (old new : Tables) → (in_method : Truth) → List Op → (at : ℕ) → Result (Vec FrontRow Global × ℕ) Refusal → Type 0
RaisesAll old new m ops at (Ok x) =
    (fs : List Front) × Stand ops at fs x.1 × Extends old new × AreFronts new x.0.items (map (front_named m) fs)
RaisesAll old new m ops at (Err refusal.NotRaised) = (fs : List Front) (end : ℕ) → Stand ops at fs end → ⊥
RaisesAll old new m ops at (Err refusal.Memory) = Unit {0}

-- instructions begin with the code of at most one list of fronts
abbrev pub StandOnce : Type 0
StandOnce = (ops : List Op) (at : ℕ) (fs gs : List Front) (m n : ℕ) → Stand ops at fs m → Stand ops at gs n → (fs ≡ gs) × (m ≡ n)

-- with names that are found, expressions have the code that they have with numbers
abbrev pub HaveTheirCode : Type 0
HaveTheirCode =
    (classes : List Class) (scope : Scope) (in_method : Truth) (at : ℕ) (rs : List Raised) → AllByRecursion (IsFound classes scope in_method) rs
    → exprs_code classes scope at (map (named in_method) rs) ≡ all_ops at rs
