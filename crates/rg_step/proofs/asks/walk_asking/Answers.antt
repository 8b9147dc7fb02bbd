use Rattle.std.proofs.Common.{◌≡◌, ◌∙◌, ◌+◌, ℤ, Ok, Err, refl, sym, subst, ap, to_z, of_z, w64, arith, inl, inr}
use Rattle.std.proofs.lemmas.Int.{to_z-of_z}
use Rattle.std.proofs.lemmas.Result.{err_from_is_err_and}
use Rattle.rg_base.specs.declared.value.Val.TheVariants.{Bool, Int}
use Rattle.rg_io.proofs.Content.{Rose-since}
use Rattle.rg_input.specs.Numbers.{Answers, AsksFor, Looks, is_fault, nothing_came}
use Rattle.rg_input.specs.declared.refusal.NumberRefusal.TheVariants as no
use Rattle.rg_input.proofs.Input.{OnInput-map, OnInput-both, OnInput-still}
use Rattle.rg_machine.specs.Core.{below_top, with_top}
use Rattle.rg_compute.specs.Walks.{walk_from}
use Rattle.rg_compute.proofs.Turn.{past-code}
use Rattle.rg_step.specs.declared.asks.Landing.TheVariants as landing
use Rattle.rg_step.specs.declared.stopped.Stopped.TheVariants as stopped
use Rattle.rg_step.specs.Inner.Refusals.{stopped_by}
use Rattle.rg_step.specs.Inner.Walks.{ComesTo, WalkEnds}
use Rattle.rg_step.proofs.Walking.Ask.{unstuck-there}
use Rattle.rg_step.proofs.Walking.Landings.{along-more, along-read, comes-back, comes-nowhere, comes-stop, comes-unread, comes-unseen}
use Rattle.rg_step.proofs.Walking.Landings.{lands-back, lands-nowhere, lands-stop, lands-unread, lands-unseen, never-looks, never-reads, reads-on, sees-on}
use Rattle.rg_step.proofs.Walking.OneAsk.{asked-more, asked-read, asked-so, asks-more, asks-read, other-stop, stopped-fault}
use Rattle.rg_step.proofs.Walking.Stops.{none-fault}
use Rattle.rg_step.proofs.Walking.Walks.{SoFar}
use Rattle.rg_machine.specs.Cores.{core_of}
use Rattle.rg_step.proofs.asks.walk_asking.Goals as goal

pub walk-requires : goal.walk-requires
walk-requires g c =
    let i = c.loop-at.invariant in
    unstuck-there _ _ _ _ (SoFar c.args.code.now c.args.from c.args.p.now c.loop-at.at c.loop-at.p)
    (walk_from c.args.code.now c.args.from (core_of c.args.p.now)) (walk_from c.args.code.now c.loop-at.at (core_of c.loop-at.p))
    c.requires.given i.follows i.so_far (λ before after h. h.0)

pub unreachable-requires : goal.unreachable-requires
unreachable-requires g c =
    let i = c.loop-at.invariant in
    let some = unstuck-there _ _ _ _ (SoFar c.args.code.now c.args.from c.args.p.now c.loop-at.at c.loop-at.p)
    (walk_from c.args.code.now c.args.from (core_of c.args.p.now)) (walk_from c.args.code.now c.loop-at.at (core_of c.loop-at.p))
    c.requires.given i.follows i.so_far (λ before after h. h.0) in
    some.1 (past-code c.args.code.now c.loop-at.at (core_of c.loop-at.p) some.0 (omega (arith, c.loop-at-test.false, c.len.ensures)))

-- it begins

pub loop-at-init : goal.loop-at-init
loop-at-init g c = record {
  so_far = OnInput-still _ _ _ _ (SoFar c.args.code.now c.args.from c.args.p.now c.args.from c.args.p.now) refl refl
      (λ bytes. (refl, λ start asks s. inr refl));
  along = record { stands = λ start asks s. s; backs = refl; high = λ start h. h };
  unasked = λ start s. (refl, refl);
  asked = λ start asks s. inl nothing_came;
  follows = c.requires.follows;
  no_fault = refl;
  never_falls = omega arith;
}

-- a number was read

pub loop-at-preserved-in-Read : goal.loop-at-preserved-in-Read
loop-at-preserved-in-Read g c =
    let code = c.args.code.now in
    let i = c.loop-at.invariant in
    let new = c.walk.new.p in
    let put = c.set_top.new.self in
    let at = c.in-Read.place in
    let z = c.in_ok-z-in-Read.z in
    let w = subst (λ x. WalkEnds code c.loop-at.at c.loop-at.p new (Ok x)) c.in-Read.is c.in_ok-pause.ensures in
    let z_is : to_z w64 (of_z w64 z) ≡ z = grind (arith, to_z-of_z) in
    let is = c.set_top.ensures.core ∙ ap (λ n. with_top (below_top (core_of new)) (Int n)) z_is in
    record {
      so_far = OnInput-both _ _ _ _ _ _ (SoFar code c.args.from c.args.p.now c.loop-at.at c.loop-at.p) (Answers (Ok z))
          (SoFar code c.args.from c.args.p.now (at + 1) put) i.so_far c.in_ok-z-in-Read.ensures.answers
          (reads-on code c.args.from c.args.p.now c.loop-at.at c.loop-at.p new i.along at put z w is);
      along = along-read code c.args.from c.args.p.now c.loop-at.at c.loop-at.p new i.along at put (Int z) is c.set_top.ensures.same.heap w;
      unasked = λ start s. absurd (never-reads code c.args.from c.args.p.now c.loop-at.at c.loop-at.p new i.along at w start s);
      asked = λ start asks s. asked-read code c.loop-at.at c.loop-at.p new c.args.input.now c.loop-at.input _ c.args.source.now c.loop-at.source _ start
          asks (i.along.stands start asks s) (i.asked start asks s) at w c.in_ok-z-in-Read.ensures.asks;
      follows = c.in_ok-z-in-Read.ensures.follows;
      no_fault = c.in_ok-z-in-Read.ensures.quiet (λ e. cc) ∙ i.no_fault;
      never_falls = omega (arith, i.never_falls, c.in_ok-z-in-Read.ensures.never_falls);
    }

pub loop-at-preserved : goal.loop-at-preserved
loop-at-preserved g c =
    let code = c.args.code.now in
    let i = c.loop-at.invariant in
    let new = c.walk.new.p in
    let put = c.set_top-in-More.new.self in
    let at = c.in-More.place in
    let b = c.in_ok-b-in-More.b in
    let w = subst (λ x. WalkEnds code c.loop-at.at c.loop-at.p new (Ok x)) c.in-More.is c.in_ok-pause.ensures in
    let is = c.set_top-in-More.ensures.core in
    record {
      so_far = OnInput-both _ _ _ _ _ _ (SoFar code c.args.from c.args.p.now c.loop-at.at c.loop-at.p) (Looks (Ok b))
          (SoFar code c.args.from c.args.p.now (at + 1) put) i.so_far c.in_ok-b-in-More.ensures.looks
          (sees-on code c.args.from c.args.p.now c.loop-at.at c.loop-at.p new i.along at put b w is);
      along = along-more code c.args.from c.args.p.now c.loop-at.at c.loop-at.p new i.along at put (Bool b) is c.set_top-in-More.ensures.same.heap w;
      unasked = λ start s. absurd (never-looks code c.args.from c.args.p.now c.loop-at.at c.loop-at.p new i.along at w start s);
      asked = λ start asks s. asked-more code c.loop-at.at c.loop-at.p new c.args.input.now c.loop-at.input _ c.args.source.now c.loop-at.source _ start
          asks (i.along.stands start asks s) (i.asked start asks s) at w c.in_ok-b-in-More.ensures.asks;
      follows = c.in_ok-b-in-More.ensures.follows;
      no_fault = c.in_ok-b-in-More.ensures.quiet ∙ i.no_fault;
      never_falls = omega (arith, i.never_falls, c.in_ok-b-in-More.ensures.never_falls);
    }

-- the walk stopped

pub returns-in_err-pause : goal.returns-in_err-pause
returns-in_err-pause g c =
    let code = c.args.code.now in
    let i = c.loop-at.invariant in
    let new = c.walk.new.p in
    let why = c.in_err-pause.field-0.0 in
    let w = c.in_err-pause.ensures in
    let p = err_from_is_err_and c.from_residual.result c.from_residual.ensures.1 in
    rw (p.1, p.2) (record {
      comes = OnInput-map _ _ _ _ (SoFar code c.args.from c.args.p.now c.loop-at.at c.loop-at.p)
          (ComesTo code c.args.from (core_of c.args.p.now) (core_of new) (Err why)) i.so_far
          (comes-nowhere code c.args.from c.args.p.now c.loop-at.at c.loop-at.p new why w);
      lands = lands-nowhere code c.args.from c.args.p.now c.loop-at.at c.loop-at.p new i.along why w;
      unasked = i.unasked;
      asks = λ start asks s.
          let asked = asked-so code.ops c.loop-at.at c.args.input.now c.loop-at.input c.args.source.now c.loop-at.source (i.asked start asks s) in
          (asked.0, subst (λ f. AsksFor g.S.Source.replies f c.args.input.now asked.0 c.args.source.now c.loop-at.source) (sym (other-stop why w.walk.0)) asked.1);
      follows = i.follows;
      fault = λ e. absurd (w.walk.0 cc);
      no_fault = λ other. i.no_fault;
      never_falls = i.never_falls;
    })

-- there is no number

pub returns-in_err-z-in-Read : goal.returns-in_err-z-in-Read
returns-in_err-z-in-Read g c =
    let code = c.args.code.now in
    let i = c.loop-at.invariant in
    let new = c.walk.new.p in
    let at = c.in-Read.place in
    let why = c.in_err-z-in-Read.field-0.0 in
    let w = subst (λ x. WalkEnds code c.loop-at.at c.loop-at.p new (Ok x)) c.in-Read.is c.in_ok-pause.ensures in
    let p = err_from_is_err_and c.from_residual-in_err-z-in-Read.result c.from_residual-in_err-z-in-Read.ensures.1 in
    rw (p.1, p.2) (record {
      comes = OnInput-both _ _ _ _ _ _ (SoFar code c.args.from c.args.p.now c.loop-at.at c.loop-at.p) (Answers (Err why))
          (ComesTo code c.args.from (core_of c.args.p.now) (core_of new) (Err (stopped_by why))) i.so_far c.in_err-z-in-Read.ensures.answers
          (comes-unread code c.args.from c.args.p.now c.loop-at.at c.loop-at.p new at why w);
      lands = lands-unread code c.args.from c.args.p.now c.loop-at.at c.loop-at.p new i.along at why w;
      unasked = λ start s. absurd (never-reads code c.args.from c.args.p.now c.loop-at.at c.loop-at.p new i.along at w start s);
      asks = λ start asks s.
          let asked = asks-read code c.loop-at.at c.loop-at.p new c.args.input.now c.loop-at.input c.loop-at.input c.args.source.now c.loop-at.source _
          start asks (i.along.stands start asks s) (i.asked start asks s) (is_fault {A = ℤ} (Err why)) at w c.in_err-z-in-Read.ensures.asks in
          (asked.0, subst (λ f. AsksFor g.S.Source.replies f c.args.input.now asked.0 c.args.source.now c.next.new.source) (stopped-fault why) asked.1);
      follows = c.in_err-z-in-Read.ensures.follows;
      fault = λ e. Rose-since _ _ _ i.never_falls (c.in_err-z-in-Read.ensures.fault (ap Err (none-fault why cc)));
      no_fault = λ other.
          c.in_err-z-in-Read.ensures.quiet (λ e. let same : why ≡ no.InputFault = cc (e) in other (ap (λ w. Err (stopped_by w)) same)) ∙ i.no_fault;
      never_falls = omega (arith, i.never_falls, c.in_err-z-in-Read.ensures.never_falls);
    })

pub returns-in_err-b-in-More : goal.returns-in_err-b-in-More
returns-in_err-b-in-More g c =
    let code = c.args.code.now in
    let i = c.loop-at.invariant in
    let new = c.walk.new.p in
    let at = c.in-More.place in
    let w = subst (λ x. WalkEnds code c.loop-at.at c.loop-at.p new (Ok x)) c.in-More.is c.in_ok-pause.ensures in
    let p = err_from_is_err_and c.from_residual-in_err-b-in-More.result c.from_residual-in_err-b-in-More.ensures.1 in
    rw (p.1, p.2) (record {
      comes = OnInput-both _ _ _ _ _ _ (SoFar code c.args.from c.args.p.now c.loop-at.at c.loop-at.p) (Looks (Err c.in_err-b-in-More.field-0.0))
          (ComesTo code c.args.from (core_of c.args.p.now) (core_of new) (Err stopped.InputFault)) i.so_far c.in_err-b-in-More.ensures.looks
          (comes-unseen code c.args.from c.args.p.now c.loop-at.at c.loop-at.p new at w);
      lands = lands-unseen code c.args.from c.args.p.now c.loop-at.at c.loop-at.p new i.along at w;
      unasked = λ start s. absurd (never-looks code c.args.from c.args.p.now c.loop-at.at c.loop-at.p new i.along at w start s);
      asks = λ start asks s. asks-more code c.loop-at.at c.loop-at.p new c.args.input.now c.loop-at.input _ c.args.source.now c.loop-at.source _ start
          asks (i.along.stands start asks s) (i.asked start asks s) at w c.in_err-b-in-More.ensures.asks;
      follows = c.in_err-b-in-More.ensures.follows;
      fault = λ e. Rose-since _ _ _ i.never_falls c.in_err-b-in-More.ensures.fault;
      no_fault = λ other. absurd (other refl);
      never_falls = omega (arith, i.never_falls, c.in_err-b-in-More.ensures.never_falls);
    })

-- it landed

pub returns-in-Stop : goal.returns-in-Stop
returns-in-Stop g c =
    let code = c.args.code.now in
    let i = c.loop-at.invariant in
    let new = c.walk.new.p in
    let t = c.in-Stop.to in
    let w = subst (λ x. WalkEnds code c.loop-at.at c.loop-at.p new (Ok x)) c.in-Stop.is c.in_ok-pause.ensures in
    record {
      comes = OnInput-map _ _ _ _ (SoFar code c.args.from c.args.p.now c.loop-at.at c.loop-at.p)
          (ComesTo code c.args.from (core_of c.args.p.now) (core_of new) (Ok (landing.Stop t))) i.so_far
          (comes-stop code c.args.from c.args.p.now c.loop-at.at c.loop-at.p new t w);
      lands = lands-stop code c.args.from c.args.p.now c.loop-at.at c.loop-at.p new i.along t w;
      unasked = i.unasked;
      asks = λ start asks s.
          asked-so code.ops c.loop-at.at c.args.input.now c.loop-at.input c.args.source.now c.loop-at.source (i.asked start asks s);
      follows = i.follows;
      fault = λ e. absurd cc;
      no_fault = λ other. i.no_fault;
      never_falls = i.never_falls;
    }

pub returns-in-Return : goal.returns-in-Return
returns-in-Return g c =
    let code = c.args.code.now in
    let i = c.loop-at.invariant in
    let new = c.walk.new.p in
    let t = c.in-Return.back in
    let w = subst (λ x. WalkEnds code c.loop-at.at c.loop-at.p new (Ok x)) c.in-Return.is c.in_ok-pause.ensures in
    record {
      comes = OnInput-map _ _ _ _ (SoFar code c.args.from c.args.p.now c.loop-at.at c.loop-at.p)
          (ComesTo code c.args.from (core_of c.args.p.now) (core_of new) (Ok (landing.Return t))) i.so_far
          (comes-back code c.args.from c.args.p.now c.loop-at.at c.loop-at.p new t w);
      lands = lands-back code c.args.from c.args.p.now c.loop-at.at c.loop-at.p new i.along t w;
      unasked = i.unasked;
      asks = λ start asks s.
          asked-so code.ops c.loop-at.at c.args.input.now c.loop-at.input c.args.source.now c.loop-at.source (i.asked start asks s);
      follows = i.follows;
      fault = λ e. absurd cc;
      no_fault = λ other. i.no_fault;
      never_falls = i.never_falls;
    }
