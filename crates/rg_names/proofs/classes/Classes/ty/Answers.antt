use Rattle.std.proofs.Common.{◌∙◌, sym, ap}
use Rattle.rg_tree.specs.Rows.RowTrees.{classes_of, type_of}
use Rattle.rg_names.specs.Table.{Table}
use Rattle.rg_names.specs.TreeAnswers.{IsKnown}
use Rattle.rg_names.proofs.TypeFacts.{IsHeadsOf-table, judge_type-good_type, good_type-IsKnown, IfOk-by}
use Rattle.rg_names.proofs.classes.Classes.ty.Goals as goal

pub returns-clause-tree : goal.returns-clause-tree
returns-clause-tree c program is l =
    rw (c.type_named.ensures, ap (λ (v : Table). v.heads) c.self.view_is)
    (judge_type-good_type program c.args.self.now.heads (IsHeadsOf-table program c.args.self.now is) c.args.row l)

pub returns-clause-known : goal.returns-clause-known
returns-clause-known c program is l =
    IfOk-by (IsKnown (classes_of program)) c.type_named.result
    (λ ty e. good_type-IsKnown (classes_of program) (type_of program c.args.row) ty (sym (returns-clause-tree c program is l) ∙ e))
