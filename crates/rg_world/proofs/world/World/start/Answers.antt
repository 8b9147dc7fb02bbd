use Rattle.std.proofs.Common.{◌≡◌, ◌++◌, ◌∷◌, [], true, set, slice_get, arith, ◌<◌, All, length, subst, sym, ◌∙◌}
use Rattle.rg_tree.specs.Rows.RowTrees.{classes_of, program_of}
use Rattle.rg_names.specs.Book.{Known}
use Rattle.rg_rules.specs.Types.{fields_of}
use Rattle.rg_contents.specs.Rest.{IsReady}
use Rattle.rg_sched_atomic.specs.Contents.{contents_at, givens}
use Rattle.rg_world.specs.Worlds.{WorldIn, IsBehind}
use Rattle.std.proofs.lemmas.Option.{get_or_from_slice_get}
use Rattle.rg_sched_atomic.specs.Behaviours.{run_of}
use Rattle.rg_world.specs.declared.progress.Progress.{Progress}
use Rattle.rg_world.specs.declared.progress.Standing.TheVariants as stands
use Rattle.rg_world.specs.Standing.{RunsAs}
use Rattle.rg_plan.specs.Plans.{in_front_of}
use Rattle.rg_world.specs.Inner.Steps.{all_ended_in, is_waiting}
use Rattle.rg_world.proofs.First.{many-behind, there-is}
use Rattle.rg_world.proofs.Opened.{silent}
use Rattle.rg_world.proofs.Shown.{waiting-is}
use Rattle.rg_world.proofs.Behind.{class-below, cowns-below, own-cowns, progress-below, ready-now, waits-on, begun-now}
use Rattle.rg_world.proofs.world.World.start.Goals as goal

pub may_begin-requires-clause-many : goal.may_begin-requires-clause-many
may_begin-requires-clause-many c =
    let b = c.requires.behind in
    many-behind (program_of c.args.accepted.now.program) c.args.code.now c.args.plan.now b.0 b.1 c.args.self.now b.2

pub returns-then-not-may_begin : goal.returns-then-not-may_begin
returns-then-not-may_begin c = λ images schedule h.
    let q = waiting-is (slice_get c.args.self.now.progress c.args.i) c.requires.waits in
    let b = there-is c.args.plan.now.behaviours c.args.i c.requires.number in
    waits-on (program_of c.args.accepted.now.program) c.args.code.now c.args.plan.now images schedule c.args.self.now h c.args.i b.0 b.1
    c.fronts_are_enough.ensures c.plans_are_settings.ensures q.0 q.1 q.2 (sym (c.if-not-may_begin.ensures b.0 b.1))

pub begun-requires-clause-class : goal.begun-requires-clause-class
begun-requires-clause-class c =
    let b = c.requires.behind in
    subst (λ (z : Known). c.behaviour.result.now.class < length (classes_of z.program)) (sym c.book.ensures.is)
    (class-below (program_of c.args.accepted.now.program) c.args.code.now c.args.plan.now b.0 b.1 c.args.self.now b.2 c.args.i c.behaviour.result.now
    c.behaviour.ensures c.plans_are_good.ensures)

pub begun-requires-clause-below : goal.begun-requires-clause-below
begun-requires-clause-below c =
    let b = c.requires.behind in
    subst (λ (z : WorldIn). All (λ n. n < length z.contents) c.behaviour.result.now.cowns) (sym c.self.view_is)
    (cowns-below (program_of c.args.accepted.now.program) c.args.code.now c.args.plan.now b.0 b.1 c.args.self.now b.2 c.args.i c.behaviour.result.now
    c.behaviour.ensures c.plans_are_good.ensures)

pub begun-requires-clause-distinct : goal.begun-requires-clause-distinct
begun-requires-clause-distinct c =
    let b = c.requires.behind in
    own-cowns (program_of c.args.accepted.now.program) c.args.code.now c.args.plan.now b.0 b.1 c.args.self.now b.2 c.args.i c.behaviour.result.now
    c.behaviour.ensures c.plans_are_settings.ensures

pub begun-requires-clause-ready : goal.begun-requires-clause-ready
begun-requires-clause-ready c =
    let b = c.requires.behind in
    let t = program_of c.args.accepted.now.program in
    let here = ready-now t c.args.code.now c.args.plan.now b.0 b.1 c.args.self.now b.2 c.args.i c.behaviour.result.now c.behaviour.ensures
    c.beginning_is_allowed.ensures in
    let there = subst (λ (z : WorldIn). IsReady t c.behaviour.result.now
    (givens (fields_of t.classes c.behaviour.result.now.class) (contents_at z.contents c.behaviour.result.now.cowns))) (sym c.self.view_is) here in
    subst (λ (z : Known). IsReady (program_of z.program) c.behaviour.result.now
    (givens (fields_of (classes_of z.program) c.behaviour.result.now.class) (contents_at c.self.inside.slots c.behaviour.result.now.cowns))) (sym c.book.ensures.is) there

pub index_mut-requires : goal.index_mut-requires
index_mut-requires c =
    let b = c.requires.behind in
    let here = subst (λ (z : WorldIn). c.args.i < length z.progress) (sym c.self.view_is)
    (progress-below (program_of c.args.accepted.now.program) c.args.code.now c.args.plan.now b.0 b.1 c.args.self.now b.2 c.args.i c.behaviour.result.now
    c.behaviour.ensures) in
    omega (arith, here, c.self.inside.progress.ok.0)

pub returns : goal.returns
returns c = λ images schedule h.
    let t = program_of c.args.accepted.now.program in
    let code = c.args.code.now in
    let p = c.args.plan.now in
    let i = c.args.i in
    let b = c.behaviour.result.now in
    let m : WorldIn = record { progress = c.self.inside.progress.items; contents = c.self.inside.slots; began = c.self.inside.began.items } in
    let s = c.in_ok-stepper.stepper in
    let here = subst (λ (z : WorldIn). IsBehind t code p images schedule z) (sym c.self.view_is) h in
    let q = waiting-is (slice_get m.progress i) (subst (λ (z : WorldIn). is_waiting (slice_get z.progress i) ≡ true) (sym c.self.view_is) c.requires.waits) in
    let ended = subst (λ (z : WorldIn). all_ended_in z.progress (in_front_of p.behaviours i b) ≡ true) (sym c.self.view_is)
    (sym (c.if-not-may_begin.ensures b c.behaviour.ensures)) in
    let runs = subst (λ (z : Known). RunsAs (program_of z.program) code (run_of (program_of z.program).classes b (contents_at m.contents b.cowns) 0) s)
    c.book.ensures.is c.in_ok-stepper.ensures.runs in
    let same = c.index_mut.ensures.value ∙ get_or_from_slice_get m.progress i q.0 _ q.1 in
    let now = begun-now t code p images schedule m here i b c.behaviour.ensures c.fronts_are_enough.ensures c.plans_are_settings.ensures
    q.0 s c.begun.new.slots q.1 q.2 ended runs
    (silent t.classes b (contents_at m.contents b.cowns)) c.in_ok-stepper.ensures.slots in
    let with-began = subst (λ z. IsBehind t code p images (schedule ++ i ∷ [])
    (record { progress = set m.progress i (record q.0 { standing = stands.Running s }); contents = c.begun.new.slots; began = z })) (sym c.in-Ok.ensures.items) now in
    subst (λ (z : Progress). IsBehind t code p images (schedule ++ i ∷ [])
    (record { progress = set m.progress i (record z { standing = stands.Running s }); contents = c.begun.new.slots; began = c.push.new.self.items }))
    (sym same) with-began
