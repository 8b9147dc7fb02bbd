use Rattle.std.proofs.Common.{length, IfSome}
use Rattle.rg_tree.specs.Rows.RowsExist.{IsNameIn}
use Rattle.rg_store.specs.Shown.{store_of}
use Rattle.rg_statements.proofs.Statements.Call.{All-under}
use Rattle.rg_statements.proofs.Rows.Fit.{RegionsFit-opened}
use Rattle.rg_statements.proofs.enter.open_window.Goals as goal

pub returns-clause-fit : goal.returns-clause-fit
returns-clause-fit c =
    let t = c.args.book.now.program in
    let m = c.args.m.now in
    let fits = c.requires.fit in record {
      objects = fits.objects;
      named =
          All-under (λ l. IfSome l.name (IsNameIn t)) m.frame.locals.items _ c.push_reserved-2.new.self.items c.push_reserved-2.ensures.items
          fits.named c.requires.name;
      below = fits.below;
      targets = fits.targets;
      target = fits.target;
      items = c.open_entered.ensures.fit;
      regions =
          RegionsFit-opened (length m.managers.items) (store_of m.store.items) m.window _ m.outer.items c.push_reserved.new.self.items fits.regions
          c.requires.region c.push_reserved.ensures.items;
    }
