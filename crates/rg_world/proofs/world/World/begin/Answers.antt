use Rattle.std.proofs.Common.{◌<◌, All, length, map, replicate, subst, sym, ap, ◌∙◌}
use Rattle.rg_tree.specs.Rows.RowTrees.{classes_of, program_of}
use Rattle.rg_names.specs.Book.{Known}
use Rattle.rg_rules.specs.Acceptance.{Accepted}
use Rattle.rg_world.specs.Inner.Steps.{waiting}
use Rattle.rg_plan.specs.declared.cown.Cown.{Cown}
use Rattle.rg_sched_atomic.specs.Contents.{Held}
use Rattle.rg_sched_atomic.specs.Settings.{start_contents}
use Rattle.rg_world.proofs.First.{cowns-there, begins-behind}
use Rattle.rg_world.proofs.world.World.begin.Goals as goal

pub open-requires : goal.open-requires
open-requires c =
    subst (λ (z : Known). All (λ (w : Cown). w.class < length (classes_of z.program)) c.args.plan.now.cowns) (sym c.book.ensures.is)
    (cowns-there (program_of c.args.accepted.now.program) c.args.plan.now c.args.images.items c.requires c.plans_are_good.ensures)

pub returns : goal.returns
returns c = λ code lowers.
    begins-behind (program_of c.args.accepted.now.program) code c.args.plan.now c.args.images.items c.in_ok-progress.progress.items c.in_ok-slots.slots
    c.new.result.items (subst (λ z. Accepted (program_of z)) c.program.ensures.program c.program.ensures.accepted) lowers c.requires
    (c.in_ok-progress.ensures ∙ ap (λ n. replicate n waiting) c.behaviours.ensures)
    (c.in_ok-slots.ensures ∙ ap (λ (z : Known). map Held (start_contents (classes_of z.program) c.args.plan.now.cowns c.args.images.items)) c.book.ensures.is)
    c.new.ensures.items
