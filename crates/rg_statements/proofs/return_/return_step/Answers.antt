use Rattle.rg_tree.specs.Rows.Tables.{Tables}
use Rattle.rg_values.specs.declared.state.parts.Parts.{Parts}
use Rattle.rg_values.specs.Fits.{PartsFit, FramesFit}
use Rattle.rg_statements.proofs.return_.return_step.Goals as goal

-- the frames below those of a machine that fits
below : (t : Tables) (m : Parts) → PartsFit t m → FramesFit t m.below.items
below t m fits = record { named = fits.below; targets = fits.targets }

pub returns-in_err-caller-clause-fit : goal.returns-in_err-caller-clause-fit
returns-in_err-caller-clause-fit c =
    let t = c.args.book.now.program in
    let fits = c.requires.stands.fit in
    let rest = c.in_err-caller.ensures.fit t (below t c.args.m.now fits) in record {
      objects = fits.objects;
      named = fits.named;
      below = rest.named;
      targets = rest.targets;
      target = fits.target;
      items = fits.items;
      regions = fits.regions;
    }

pub deliver-requires-clause-named : goal.deliver-requires-clause-named
deliver-requires-clause-named c =
    let t = c.args.book.now.program in
    let caller = c.in_ok-caller.ensures.taken.1 t (below t c.args.m.now c.requires.stands.fit) in
    rw c.replace-ended.ensures.after caller.named

pub returns-clause-fit : goal.returns-clause-fit
returns-clause-fit c =
    let t = c.args.book.now.program in
    let fits = c.requires.stands.fit in
    let frames = below t c.args.m.now fits in
    let rest = c.in_ok-caller.ensures.fit t frames in record {
      objects = fits.objects;
      named = c.deliver.ensures.named;
      below = rest.named;
      targets = rest.targets;
      target = rw c.replace-ended.ensures.after (c.in_ok-caller.ensures.taken.1 t frames).target;
      items = c.advance-2.ensures.fit;
      regions = fits.regions;
    }
