use Rattle.std.proofs.Common.{◌≡◌, ap, ◌∙◌, map}
use Rattle.rg_tree.specs.Rows.RowTrees.{classes_of, program_of}
use Rattle.rg_rules.specs.Types.{fields_of}
use Rattle.rg_sched_atomic.specs.Contents.{contents_at, givens}
use Rattle.rg_slots.specs.Slots.{content_in}
use Rattle.rg_world.proofs.Opened.{begins-as, begins-same, may-start}
use Rattle.rg_world.proofs.begun.begun.Goals as goal
use Rattle.rg_world.proofs.begun.begun.Goals.{After-as_slice}

-- with what the fields begin
given-are : (c : After-as_slice) → c.as_slice.result.now
    ≡ givens (fields_of (classes_of c.args.book.now.program) c.args.turn.now.class) (contents_at c.args.slots.now c.args.turn.now.cowns)
given-are c =
    let classes = classes_of c.args.book.now.program in
    c.as_slice.ensures.value ∙ c.in_ok-given.ensures
    ∙ ap (λ k. givens (fields_of classes k) (map content_in c.in_ok-contents.contents.items)) c.class.ensures
    ∙ ap (givens (fields_of classes c.args.turn.now.class)) (c.in_ok-contents.ensures.taken ∙ ap (contents_at c.args.slots.now) c.cowns.ensures)

pub begin_behaviour-requires-clause-may : goal.begin_behaviour-requires-clause-may
begin_behaviour-requires-clause-may c =
    may-start (program_of c.args.book.now.program) c.args.code.now c.args.turn.now _ c.as_slice.result.now c.class-2.result c.method.result
    c.requires.accepted c.requires.lowers c.requires.ready c.class-2.ensures c.method.ensures (given-are c)

pub returns-clause-runs : goal.returns-clause-runs
returns-clause-runs c =
    begins-as (program_of c.args.book.now.program) c.args.code.now c.args.turn.now (contents_at c.args.slots.now c.args.turn.now.cowns) _
    c.begin_behaviour.new.self c.requires.accepted c.requires.lowers c.requires.ready
    (begins-same c.args.code.now c.args.turn.now _ c.as_slice.result.now c.class-2.result c.method.result _ c.begin_behaviour.new.self c.class-2.ensures
    c.method.ensures (given-are (goal.at.returns-clause-runs c).After-as_slice) c.in_ok-begin_behaviour.ensures.begun)
