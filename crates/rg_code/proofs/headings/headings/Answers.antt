use Rattle.std.proofs.Common.{ap, map, arith}
use Rattle.std.proofs.lemmas.List.{drop_all}
use Rattle.rg_tree.specs.Rows.RowTrees.{classes_of, class_of}
use Rattle.rg_code.specs.Listing.{method_names}
use Rattle.rg_code.specs.Inner.Headings.{shown}
use Rattle.rg_code.proofs.HeadingReads.{class-step, with_headings-end}
use Rattle.rg_code.proofs.headings.headings.Goals as goal

pub loop-i-preserved : goal.loop-i-preserved
loop-i-preserved c =
    class-step c.args.entries.now (classes_of c.args.program.now) (class_of c.args.program.now c.class.result) c.loop-i.i
    (map shown c.loop-i.all.items) _ _ c.class.ensures.tree c.in_ok-add_class.ensures c.loop-i.invariant

pub returns : goal.returns
returns c =
    with_headings-end c.args.entries.now _ _ _ (ap method_names (drop_all c.loop-i.i (classes_of c.args.program.now) (omega arith)))
    c.loop-i.invariant
