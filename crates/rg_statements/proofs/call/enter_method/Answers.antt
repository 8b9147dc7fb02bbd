use Rattle.rg_values.specs.Fits.{TargetFits}
use Rattle.rg_values.specs.Shown.{AreNamed}
use Rattle.rg_statements.proofs.Statements.Call.{All-under}
use Rattle.rg_statements.proofs.call.enter_method.Goals as goal

pub returns-clause-fit : goal.returns-clause-fit
returns-clause-fit c =
    let t = c.args.book.now.program in
    let below = c.args.m.now.below.items in
    let caller = c.replace-caller.result in record {
      objects = c.requires.fit.objects;
      named = rw c.replace-caller.ensures.after c.requires.frame.0;
      below =
          All-under (λ f. AreNamed t f.locals.items) below caller c.push_reserved.new.self.items c.push_reserved.ensures.items
          c.requires.fit.below (rw c.replace-caller.ensures.value c.use_args.ensures.named);
      targets =
          All-under (λ f. TargetFits t f.target) below caller c.push_reserved.new.self.items c.push_reserved.ensures.items
          c.requires.fit.targets (rw c.replace-caller.ensures.value c.requires.fit.target);
      target = rw c.replace-caller.ensures.after c.requires.frame.1;
      items = c.open_body.ensures.fit;
      regions = c.requires.fit.regions;
    }
