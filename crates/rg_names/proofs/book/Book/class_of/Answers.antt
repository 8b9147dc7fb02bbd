use Rattle.std.proofs.Common.{ℕ, ◌<◌, length, Option, Some, None, IfSome, ap, subst}
use Rattle.rg_tree.specs.Rows.RowTrees.{classes_of}
use Rattle.rg_tree.specs.Rows.Tables.{Tables}
use Rattle.rg_names.specs.Table.{Table, IsClass}
use Rattle.rg_names.specs.TableOf.{IsTableOf}
use Rattle.rg_names.proofs.TableFacts.{IsClass-table}
use Rattle.rg_names.proofs.book.Book.class_of.Goals as goal

within : (t : Tables) (table : Table) (o : Option ℕ) → IsTableOf t table → IfSome o (IsClass table) → IfSome o (λ c. c < length (classes_of t))
within t table None is h = tt
within t table (Some k) is h = IsClass-table t table is k h

pub returns-clause-within : goal.returns-clause-within
returns-clause-within c =
    let b = c.self.inside in
    subst (λ (t : Tables). IfSome c.class.result (λ k. k < length (classes_of t))) (ap (λ v. v.program) c.self.view_is)
    (within b.program.now b.classes.now c.class.result c.self.invariant c.class.ensures.within)
