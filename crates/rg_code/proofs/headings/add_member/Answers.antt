use Rattle.std.proofs.Common.{sym, ◌∙◌, ap, map, [], ◌∷◌}
use Rattle.rg_tree.specs.Tree.{Member}
use Rattle.rg_tree.specs.Rows.Tables.{name_at}
use Rattle.rg_code.specs.Listing.{member_names}
use Rattle.rg_code.specs.Inner.Headings.{shown, with_headings}
use Rattle.rg_code.proofs.HeadingReads.{with_headings-nil}
use Rattle.rg_code.proofs.headings.add_member.Goals as goal

pub returns-in-Field : goal.returns-in-Field
returns-in-Field c =
    let es = c.args.entries.now in
    let done = map shown c.args.all.now.items in
    let names = λ (m : Member). member_names (name_at c.args.program.now c.args.class) (m ∷ []) in
    sym (ap (λ m. with_headings es done (names m)) c.in-Field.ensures.tree ∙ with_headings-nil es done)
