use Rattle.std.proofs.Common.{◌∙◌, ap, ◌++◌, arith}
use Rattle.rg_sched_atomic.specs.Settings.{setting_of}
use Rattle.rg_sched_atomic.specs.Events.{world_after}
use Rattle.rg_world_text.specs.Text.{behaviour_text}
use Rattle.rg_world_text.proofs.Told.{below, next, end}
use Rattle.rg_world_text.proofs.writing.world_text.Goals as goal

pub state-requires : goal.state-requires
state-requires c =
    let (t, code, images, schedule, h) = c.requires in
    below t code c.args.plan.now images schedule c.args.world.now c.loop-i.i h (omega (arith, c.loop-i-test.true, c.behaviours-i-end.ensures))

pub printed-requires : goal.printed-requires
printed-requires c =
    let (t, code, images, schedule, h) = c.requires in
    below t code c.args.plan.now images schedule c.args.world.now c.loop-i.i h (omega (arith, c.loop-i-test.true, c.behaviours-i-end.ensures))

pub loop-i-preserved : goal.loop-i-preserved
loop-i-preserved c = λ t code images schedule h.
    next t code c.args.world.now (world_after t.classes (setting_of t.classes c.args.plan.now images) schedule) c.args.plan.now.behaviours
    c.loop-i.i c.behaviour.result.now c.state.result c.printed.result.now c.loop-i.text c.add_behaviour.new.line _ h.shows c.behaviour.ensures
    c.state.ensures c.printed.ensures (c.loop-i.invariant t code images schedule h)
    (c.in_ok-add_behaviour.ensures
    ∙ ap (λ n. c.loop-i.text ++ behaviour_text c.loop-i.i n c.state.result c.printed.result.now) c.name-name.ensures)

pub returns : goal.returns
returns c = λ t code images schedule h.
    end (world_after t.classes (setting_of t.classes c.args.plan.now images) schedule) c.args.plan.now.behaviours c.loop-i.i c.loop-i.text _
    (omega (arith, c.loop-i-test.false, c.behaviours-i-end.ensures)) (c.loop-i.invariant t code images schedule h)
