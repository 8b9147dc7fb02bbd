-- A collection where a step begins or has ended.
use Rattle.std.proofs.Common.{length, sym, subst}
use Rattle.rg_rules.specs.State.{State}
use Rattle.rg_tree.specs.Tree.{Tree}
use Rattle.rg_sound.specs.Fit.{Fit}
use Rattle.rg_sound.proofs.Owners.Data.{Data, fit-data}
use Rattle.rg_code.specs.Code.{Code}
use Rattle.rg_stack.specs.Machine.{Machine}
use Rattle.rg_stack.specs.Shows.{Shows, sizes_of}
use Rattle.rg_stack.proofs.Callers.Lead.{ShowsFit}
use Rattle.rg_stack.proofs.Callers.Once.{owned_once-fits}
use Rattle.rg_held.specs.Gather.{GathersFit}
use Rattle.rg_held.proofs.Gather.Frees.{part-gather}
use Rattle.rg_held.proofs.Gather.Roots.{roots-outside}
use Rattle.rg_held.proofs.Gather.Held.{keeps-other, gathered-other}

pub shows-fit : (t : Tree) (code : Code) (m : Machine) (s : State) → Fit t s → Shows t.classes code m s → ShowsFit t.classes m s.frames s.windows
shows-fit t code m s fit shows = record {
  regions = length s.managers;
  made = s.windows_made;
  sizes = sizes_of m.frames;
  fits = subst (λ q. Data t.classes q s.frames s.windows (length s.managers) s.windows_made) (sym shows.store) (fit-data t s fit);
  slots = shows.slots;
  windows = shows.windows;
}

pub gathers-fit : GathersFit
gathers-fit t code s held kept f after m accepted fit shows p k g =
    let keeps = keeps-other held kept f after m p k in
    let single = owned_once-fits t.classes m s.frames s.windows (shows-fit t code m s fit shows) in
    part-gather held kept f after m p (gathered-other held kept f after m p g) single keeps
    (roots-outside t code m s accepted fit shows held kept keeps)
