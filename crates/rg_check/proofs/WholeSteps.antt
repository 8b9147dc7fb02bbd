-- A whole program, judged part by part.
use Rattle.std.proofs.Common.{◌≡◌, ℕ, List, None, Ok, refl, ap}
use Rattle.std.specs.Result.{result_err}
use Rattle.rg_base.specs.declared.fault.Stop.{Stop}
use Rattle.rg_tree.specs.declared.rows.Span.{Span}
use Rattle.rg_tree.specs.Tree.{Tree}
use Rattle.rg_tree.specs.Rows.Tables.{Tables, numbers_in}
use Rattle.rg_tree.specs.Rows.RowTrees.{classes_of, stmt_at, block_over, program_of}
use Rattle.rg_rules.specs.Environment.{Env}
use Rattle.rg_rules.specs.Headers.{judge_headers}
use Rattle.rg_rules.specs.Statements.{judge_block}
use Rattle.rg_rules.specs.Bodies.{main_body, judge_body, judge_methods}
use Rattle.rg_rules.specs.Acceptance.{judge_program, Accepted}
use Rattle.rg_names.specs.Judged.{FailsAs}
use Rattle.rg_flow.specs.Scope.{Scope, no_variables, env_of}
use Rattle.rg_names.proofs.Fails.{FailsAs-first, FailsAs-second}

-- main's body is the block of its statements
pub main-is : (t : Tables) (env : Scope) (body : Span) (main : List ℕ) → env ≡ no_variables → body ≡ t.body → main ≡ numbers_in t body →
    judge_body (classes_of t) (main_body (program_of t)) ≡ judge_block (classes_of t) None (env_of t env) (block_over (stmt_at t) main)
main-is t env body main e b m = rw (e, m, b) refl

module _ (p : Tree) where
  pub headers-fault : (s : Stop) → FailsAs (judge_headers p.classes) s → FailsAs (judge_program p) s
  headers-fault s f = FailsAs-first (judge_headers p.classes) _ s f

  module _ (headers : judge_headers p.classes ≡ Ok tt) where
    pub methods-fault : (s : Stop) → FailsAs (judge_methods p.classes 0 p.classes) s → FailsAs (judge_program p) s
    methods-fault s f = FailsAs-second (judge_headers p.classes) _ tt s headers (FailsAs-first (judge_methods p.classes 0 p.classes) _ s f)

    module _ (methods : judge_methods p.classes 0 p.classes ≡ Ok tt) where
      pub main-fault : (s : Stop) → FailsAs (judge_body p.classes (main_body p)) s → FailsAs (judge_program p) s
      main-fault s f =
          FailsAs-second (judge_headers p.classes) _ tt s headers
          (FailsAs-second (judge_methods p.classes 0 p.classes) _ tt s methods (FailsAs-first (judge_body p.classes (main_body p)) _ s f))

      pub passed : (out : Env) → judge_body p.classes (main_body p) ≡ Ok out → judge_program p ≡ Ok tt
      passed out main = rw (headers, methods, main) refl

      pub accepted : (out : Env) → judge_body p.classes (main_body p) ≡ Ok out → Accepted p
      accepted out main = ap result_err (passed out main)
