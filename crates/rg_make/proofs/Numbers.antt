-- Rows that were added last stand for their trees by their numbers.
use Rattle.std.proofs.Common.{◌≡◌, ℕ, [], ◌∷◌, ◌++◌, length, ap}
use Rattle.rg_base.proofs.Callers.Lists.{below}
use Rattle.rg_tree.specs.Tree.{Stmt, Param, Member}
use Rattle.rg_tree.specs.Rows.Tables.{Tables}
use Rattle.rg_tree.specs.Rows.RowTrees.{stmt_at, param_at, member_at, program_of}
use Rattle.rg_tree.specs.Keeps.{Keeps}
use Rattle.rg_tree.specs.declared.rows.StmtRow.{StmtRow}
use Rattle.rg_tree.specs.declared.rows.ParamRow.{ParamRow}
use Rattle.rg_tree.specs.declared.rows.MemberRow.{MemberRow}
use Rattle.rg_tree.specs.Rows.RowsExist.{IsStmtNumber, IsParamNumber, IsMemberNumber}
use Rattle.rg_tree.specs.Adds.{Adds}
use Rattle.rg_tree.proofs.Adding.{extends-by, stmt-means, param-means, member-means}

-- A row that is put last into its table.
module _ {u v : Tables} (n : ℕ) (k : Keeps u v) (p : program_of v ≡ program_of u) where
  pub stmt-put : (r : StmtRow) {a : Stmt} → n ≡ length u.stmts → stmt_at v n ≡ a → v ≡ record u { stmts = u.stmts ++ r ∷ [] }
      → Adds stmt_at IsStmtNumber u v n a
  stmt-put r {a} l e w =
      record { extends = extends-by k p; means = stmt-means n a e (below u.stmts v.stmts r n (ap (λ x. x.stmts) w) l) }

  pub param-put : (r : ParamRow) {a : Param} → n ≡ length u.params → param_at v n ≡ a → v ≡ record u { params = u.params ++ r ∷ [] }
      → Adds param_at IsParamNumber u v n a
  param-put r {a} l e w =
      record { extends = extends-by k p; means = param-means n a e (below u.params v.params r n (ap (λ x. x.params) w) l) }

  pub member-put : (r : MemberRow) {a : Member} → n ≡ length u.members → member_at v n ≡ a → v ≡ record u { members = u.members ++ r ∷ [] }
      → Adds member_at IsMemberNumber u v n a
  member-put r {a} l e w =
      record { extends = extends-by k p; means = member-means n a e (below u.members v.members r n (ap (λ x. x.members) w) l) }
