use Rattle.std.proofs.Common.{codes, map}
use Rattle.std.proofs.lemmas.Result.{on_ok_weaker}
use Rattle.rg_tree.specs.Canonical.{arg_texts, joined, path_text}
use Rattle.rg_tree.specs.Rows.RowTrees.{expr_at, path_of}
use Rattle.rg_tree.specs.Rows.Tables.{name_at, numbers_in}
use Rattle.rg_print.proofs.Joined.{listed-behind}
use Rattle.rg_print.proofs.calls.write_call.Goals as goal

pub returns : goal.returns
returns c =
    let t = c.args.program.now in
    let r = c.args.call in
    on_ok_weaker _
    (listed-behind _ _ _ (codes "call ") (path_text (path_of t r.path)) (codes ".") (name_at t r.method) (codes "(")
    (joined (arg_texts (map (expr_at t) (numbers_in t r.args)))) (codes ")") c.in_ok-write_target.ensures)
    c.write_args.ensures
