use Rattle.std.proofs.Common.{◌+◌, ◌++◌, ◌∷◌, [], ◌∙◌, ap}
use Rattle.rg_values.specs.declared.state.rows.ItemRow.TheVariants as row
use Rattle.rg_values.proofs.Item.{top_is, advanced, advanced-last, Rest-shorter, ItemsFit-push}
use Rattle.rg_values.proofs.state.items.advance.Goals as goal

pub returns-then-from-span-clause-rest : goal.returns-then-from-span-clause-rest
returns-then-from-span-clause-rest c =
    let top = top_is c.args.book.now.program c.args.items.now.items c.requires.at.below c.pop.new.self.items _ (row.Rest c.args.span)
    c.requires.at.top c.args.items.now.ok.0 c.pop.ensures.rest c.requires.at.fit in
    advanced c.args.book.now.program c.args.items.now.items c.requires.at.below c.push_reserved.new.self.items c.args.span c.args.number
    c.requires.at.top c.requires.at.first_is top.fits
    (c.push_reserved.ensures.items ∙ ap (λ rows. rows ++ row.Rest (record { from = c.args.span.from + 1; to = c.args.span.to }) ∷ []) top.new_is)

pub returns-then-from-span-clause-fit : goal.returns-then-from-span-clause-fit
returns-then-from-span-clause-fit c =
    let top = top_is c.args.book.now.program c.args.items.now.items c.requires.at.below c.pop.new.self.items _ (row.Rest c.args.span)
    c.requires.at.top c.args.items.now.ok.0 c.pop.ensures.rest c.requires.at.fit in
    rw c.push_reserved.ensures.items
    (ItemsFit-push c.args.book.now.program c.pop.new.self.items _ top.front (Rest-shorter c.args.book.now.program c.args.span top.fits
    c.if-from-span.true))

pub returns-else-from-span-clause-rest : goal.returns-else-from-span-clause-rest
returns-else-from-span-clause-rest c =
    let top = top_is c.args.book.now.program c.args.items.now.items c.requires.at.below c.pop.new.self.items _ (row.Rest c.args.span)
    c.requires.at.top c.args.items.now.ok.0 c.pop.ensures.rest c.requires.at.fit in
    advanced-last c.args.book.now.program c.args.items.now.items c.requires.at.below c.pop.new.self.items c.args.span c.args.number
    c.requires.at.top c.requires.at.first_is top.fits c.if-from-span.false top.new_is

pub returns-else-from-span-clause-fit : goal.returns-else-from-span-clause-fit
returns-else-from-span-clause-fit c =
    let top = top_is c.args.book.now.program c.args.items.now.items c.requires.at.below c.pop.new.self.items _ (row.Rest c.args.span)
    c.requires.at.top c.args.items.now.ok.0 c.pop.ensures.rest c.requires.at.fit in
    top.front
