use Rattle.std.proofs.Common.{◌≡◌, map, drop}
use Rattle.rg_tree.specs.Rows.RowTrees.{member_at, class_of}
use Rattle.rg_tree.specs.Rows.Tables.{name_at}
use Rattle.rg_code.specs.Listing.{member_names}
use Rattle.rg_code.specs.Inner.Headings.{shown, with_headings}
use Rattle.rg_code.proofs.headings.add_class.Given as goal

-- the headings so far with those of the members that are left are those of all members
abbrev pub invariant-loop-member : goal.invariant-loop-member
invariant-loop-member l =
    let t = l.program in
    let c = name_at t l.fn.class.name in
    with_headings l.entries (map shown l.all.items) (member_names c (map (member_at t) (drop l.member-index l.member-items)))
    ≡ with_headings l.fn.entries (map shown l.fn.all.items) (member_names c (class_of t l.fn.class).members)
