use Rattle.std.specs.Prelude.{Vec}
use Rattle.std.specs.declared.alloc.Global.{Global}
use Rattle.std.proofs.Common.{List, Option, option_map, map, ◌≡◌, ◌<◌, All, length, slice_get, true, arith, subst, sym, ap, ◌∙◌}
use Rattle.std.proofs.lemmas.Option.{get_or_from_slice_get}
use Rattle.rg_tree.specs.Rows.RowTrees.{classes_of, program_of}
use Rattle.rg_names.specs.Book.{Known}
use Rattle.rg_world.specs.Worlds.{WorldIn, IsBehind}
use Rattle.rg_sched_atomic.specs.Contents.{put}
use Rattle.rg_slots.specs.declared.slot.Slot.{Slot}
use Rattle.rg_slots.specs.Slots.{content_in}
use Rattle.rg_world.specs.Inner.Steps.{contents_with, is_running}
use Rattle.rg_world.proofs.Behind.{class-below, cowns-below, progress-below, advance-needs, stepped-by, steps-ask}
use Rattle.rg_world.proofs.Shown.{running-is}
use Rattle.rg_world.proofs.world.World.step.Goals as goal

pub index_mut-requires : goal.index_mut-requires
index_mut-requires g c =
    let b = c.requires.behind in
    let here = subst (λ (z : WorldIn). c.args.i < length z.progress) (sym c.self.view_is)
    (progress-below (program_of c.args.accepted.now.program) c.args.code.now c.args.plan.now b.0 b.1 c.args.self.now b.2 c.args.i
    c.behaviour-turn.result.now c.behaviour-turn.ensures) in
    omega (arith, here, c.self.inside.progress.ok.0)

pub advance-requires-clause-class : goal.advance-requires-clause-class
advance-requires-clause-class g c =
    let b = c.requires.behind in
    subst (λ (z : Known). c.class.result < length (classes_of z.program)) (sym c.book.ensures.is)
    (subst (λ k. k < length (classes_of c.args.accepted.now.program)) (sym c.class.ensures)
    (class-below (program_of c.args.accepted.now.program) c.args.code.now c.args.plan.now b.0 b.1 c.args.self.now b.2 c.args.i
    c.behaviour-turn.result.now c.behaviour-turn.ensures c.plans_are_good.ensures))

pub advance-requires-clause-runs : goal.advance-requires-clause-runs
advance-requires-clause-runs g c =
    let b = c.requires.behind in
    let t = program_of c.args.accepted.now.program in
    let here = subst (λ (z : WorldIn). IsBehind t c.args.code.now c.args.plan.now b.0 b.1 z) (sym c.self.view_is) b.2 in
    let m : WorldIn = record { progress = c.self.inside.progress.items; contents = c.self.inside.slots; began = c.self.inside.began.items } in
    let q = running-is (slice_get m.progress c.args.i)
    (subst (λ (z : WorldIn). is_running (slice_get z.progress c.args.i) ≡ true) (sym c.self.view_is) c.requires.runs) in
    advance-needs t c.args.code.now c.args.plan.now b.0 b.1 m here c.args.i c.behaviour-turn.result.now c.behaviour-turn.ensures
    c.runs_are_of_behaviours.ensures q.0 c.index_mut.result.now c.class.result (program_of c.book.result.program) q.1 q.2
    (c.index_mut.ensures.value ∙ get_or_from_slice_get m.progress c.args.i q.0 _ q.1) c.class.ensures
    (ap (λ (z : Known). program_of z.program) c.book.ensures.is)

pub put-requires : goal.put-requires
put-requires g c =
    let b = c.requires.behind in
    subst (λ ns. All (λ n. n < length c.self.inside.slots) ns) (sym c.cowns.ensures)
    (subst (λ (z : WorldIn). All (λ n. n < length z.contents) c.behaviour-turn.result.now.cowns) (sym c.self.view_is)
    (cowns-below (program_of c.args.accepted.now.program) c.args.code.now c.args.plan.now b.0 b.1 c.args.self.now b.2 c.args.i
    c.behaviour-turn.result.now c.behaviour-turn.ensures c.plans_are_good.ensures))

pub returns-in_default-clause-shows : goal.returns-in_default-clause-shows
returns-in_default-clause-shows g c = λ images schedule h.
    let t = program_of c.args.accepted.now.program in
    let b = c.behaviour-turn.result.now in
    let m : WorldIn = record { progress = c.self.inside.progress.items; contents = c.self.inside.slots; began = c.self.inside.began.items } in
    let here = subst (λ (z : WorldIn). IsBehind t c.args.code.now c.args.plan.now images schedule z) (sym c.self.view_is) h in
    let q = running-is (slice_get m.progress c.args.i)
    (subst (λ (z : WorldIn). is_running (slice_get z.progress c.args.i) ≡ true) (sym c.self.view_is) c.requires.runs) in
    let lists : Option (Vec Slot Global) → Option (List Slot) = λ o. option_map (λ (v : Vec Slot Global). v.items) o in
    stepped-by t c.args.code.now c.args.plan.now images schedule m here c.args.i b c.behaviour-turn.ensures
    c.contents_are_separate.ensures c.plans_are_settings.ensures c.plans_are_good.ensures c.runs_are_of_behaviours.ensures
    q.0 c.index_mut.result.now c.advance.new.progress c.class.result (program_of c.book.result.program) (lists c.in_ok-left.left) c.self.inside.slots q.1 q.2
    (c.index_mut.ensures.value ∙ get_or_from_slice_get m.progress c.args.i q.0 _ q.1) c.class.ensures
    (ap (λ (z : Known). program_of z.program) c.book.ensures.is) c.in_ok-left.ensures.goes
    (ap (λ o. contents_with b.cowns (lists o) m.contents) (sym c.in_default.is))

pub returns-clause-shows : goal.returns-clause-shows
returns-clause-shows g c = λ images schedule h.
    let t = program_of c.args.accepted.now.program in
    let b = c.behaviour-turn.result.now in
    let m : WorldIn = record { progress = c.self.inside.progress.items; contents = c.self.inside.slots; began = c.self.inside.began.items } in
    let here = subst (λ (z : WorldIn). IsBehind t c.args.code.now c.args.plan.now images schedule z) (sym c.self.view_is) h in
    let q = running-is (slice_get m.progress c.args.i)
    (subst (λ (z : WorldIn). is_running (slice_get z.progress c.args.i) ≡ true) (sym c.self.view_is) c.requires.runs) in
    let lists : Option (Vec Slot Global) → Option (List Slot) = λ o. option_map (λ (v : Vec Slot Global). v.items) o in
    stepped-by t c.args.code.now c.args.plan.now images schedule m here c.args.i b c.behaviour-turn.ensures
    c.contents_are_separate.ensures c.plans_are_settings.ensures c.plans_are_good.ensures c.runs_are_of_behaviours.ensures
    q.0 c.index_mut.result.now c.advance.new.progress c.class.result (program_of c.book.result.program) (lists c.in_ok-left.left) c.put.new.self q.1 q.2
    (c.index_mut.ensures.value ∙ get_or_from_slice_get m.progress c.args.i q.0 _ q.1) c.class.ensures
    (ap (λ (z : Known). program_of z.program) c.book.ensures.is) c.in_ok-left.ensures.goes
    (c.put.ensures ∙ ap (λ z. put z (map content_in c.in-Some.contents.items) m.contents) c.cowns.ensures
    ∙ ap (λ o. contents_with b.cowns (lists o) m.contents) (sym c.in-Some.is))

pub returns-in_default-clause-asks : goal.returns-in_default-clause-asks
returns-in_default-clause-asks g c = λ images schedule h.
    let t = program_of c.args.accepted.now.program in
    let m : WorldIn = record { progress = c.self.inside.progress.items; contents = c.self.inside.slots; began = c.self.inside.began.items } in
    let here = subst (λ (z : WorldIn). IsBehind t c.args.code.now c.args.plan.now images schedule z) (sym c.self.view_is) h in
    let q = running-is (slice_get m.progress c.args.i)
    (subst (λ (z : WorldIn). is_running (slice_get z.progress c.args.i) ≡ true) (sym c.self.view_is) c.requires.runs) in
    steps-ask t c.args.code.now c.args.plan.now images schedule m here c.args.i c.behaviour-turn.result.now c.behaviour-turn.ensures
    q.0 c.index_mut.result.now (program_of c.book.result.program) _ _ q.1 q.2
    (c.index_mut.ensures.value ∙ get_or_from_slice_get m.progress c.args.i q.0 _ q.1) (ap (λ (z : Known). program_of z.program) c.book.ensures.is)
    c.in_ok-left.ensures.asks

pub returns-clause-asks : goal.returns-clause-asks
returns-clause-asks g c = λ images schedule h.
    let t = program_of c.args.accepted.now.program in
    let m : WorldIn = record { progress = c.self.inside.progress.items; contents = c.self.inside.slots; began = c.self.inside.began.items } in
    let here = subst (λ (z : WorldIn). IsBehind t c.args.code.now c.args.plan.now images schedule z) (sym c.self.view_is) h in
    let q = running-is (slice_get m.progress c.args.i)
    (subst (λ (z : WorldIn). is_running (slice_get z.progress c.args.i) ≡ true) (sym c.self.view_is) c.requires.runs) in
    steps-ask t c.args.code.now c.args.plan.now images schedule m here c.args.i c.behaviour-turn.result.now c.behaviour-turn.ensures
    q.0 c.index_mut.result.now (program_of c.book.result.program) _ _ q.1 q.2
    (c.index_mut.ensures.value ∙ get_or_from_slice_get m.progress c.args.i q.0 _ q.1) (ap (λ (z : Known). program_of z.program) c.book.ensures.is)
    c.in_ok-left.ensures.asks
