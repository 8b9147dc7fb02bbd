use Rattle.std.proofs.Common.{ap, subst, Some}
use Rattle.rg_regions.specs.Table.{RegionTable}
use Rattle.rg_regions.specs.Inner.Layout.{IsIndexed}
use Rattle.rg_regions.proofs.Entries.{same-key}
use Rattle.rg_regions.proofs.regions.Regions.key.Goals as goal

pub returns-then-has_number-clause-only : goal.returns-then-has_number-clause-only
returns-then-has_number-clause-only c = λ k has.
    let entries = c.self.inside.keys.entries in
    let I : RegionTable → Type 0 = λ t. IsIndexed entries t in
    ap Some (same-key entries c.args.self.now c.in-Some.key k c.args.number (subst I c.self.view_is c.self.invariant)
    (c.has_number.ensures.yes c.if-has_number.true) has)
