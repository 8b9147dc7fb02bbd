use Rattle.std.proofs.Common.{length}
use Rattle.rg_store.specs.Shown.{store_of}
use Rattle.rg_statements.proofs.Rows.Fit.{RegionsFit-left}
use Rattle.rg_statements.proofs.leave.shut.Goals as goal

pub returns-clause-fit : goal.returns-clause-fit
returns-clause-fit c =
    let m = c.args.m.now in
    let fits = c.requires.fit in record {
      objects = fits.objects;
      named = c.keep.ensures.named;
      below = fits.below;
      targets = fits.targets;
      target = fits.target;
      items = c.pop_row.ensures.fit;
      regions =
          RegionsFit-left (length m.managers.items) (store_of m.store.items) m.window m.outer.items c.in-Some.window c.pop.new.self.items
          fits.regions c.in-Some.ensures.items;
    }
