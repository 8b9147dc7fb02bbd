use Rattle.std.proofs.Common.{ℕ, List, ap, map}
use Rattle.std.proofs.lemmas.List.{drop_all}
use Rattle.rg_tree.specs.Rows.RowTrees.{member_at}
use Rattle.rg_tree.specs.Rows.Tables.{name_at}
use Rattle.rg_code.specs.Listing.{member_names}
use Rattle.rg_code.specs.Inner.Headings.{shown}
use Rattle.rg_code.proofs.HeadingReads.{member-step, with_headings-end}
use Rattle.rg_code.proofs.headings.add_class.Goals as goal

pub loop-member-preserved : goal.loop-member-preserved
loop-member-preserved c =
    member-step c.args.entries.now (name_at c.args.program.now c.args.class.name) (member_at c.args.program.now) c.members_of-member-items.result.now
    c.loop-member.member-index (map shown c.loop-member.all.items) _ _ c.loop-member-test.true c.in_ok-add_member.ensures c.loop-member.invariant

pub returns : goal.returns
returns c =
    let names = λ (ks : List ℕ). member_names (name_at c.args.program.now c.args.class.name) (map (member_at c.args.program.now) ks) in
    with_headings-end c.args.entries.now _ _ _
    (ap names (drop_all c.loop-member.member-index c.members_of-member-items.result.now c.loop-member-test.false)) c.loop-member.invariant
