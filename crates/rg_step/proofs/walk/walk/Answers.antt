use Rattle.std.proofs.Common.{◌∙◌, ◌+◌, Ok, ap, length, subst, sym, arith}
use Rattle.std.proofs.lemmas.Result.{err_from_is_err_and}
use Rattle.rg_stack.specs.Refusals.{manner}
use Rattle.rg_machine.specs.Core.{Core}
use Rattle.rg_machine.specs.Keeps.{WantsRoom}
use Rattle.rg_compute.specs.Walks.{walk_from}
use Rattle.rg_compute.proofs.Turn.{given-here, past-code, turn-on, turn-to, turn-back, turn-ends, turn-read, turn-more, turn-room, turn-full}
use Rattle.rg_step.specs.Inner.Walks.{RoomIs}
use Rattle.rg_step.proofs.Walking.Stands.{stands-on, stands-to, stands-back, stands-left, stands-asking, stands-number, stands-free, stands-roomless}
use Rattle.rg_step.specs.Inner.High.{MayMake, OneAtMost}
use Rattle.rg_step.proofs.Walking.High.{high-asks, high-back, high-ends, high-free, high-none, high-on, high-to}
use Rattle.rg_step.proofs.Walking.Leaves.{on-backs, to-backs, asks-backs, room-backs}
use Rattle.rg_step.proofs.Walking.Stops.{full-asks, full-leaves, full-stops, stop-made}
use Rattle.rg_machine.specs.Parts.{machine_in}
use Rattle.rg_machine.specs.Cores.{core_of}
use Rattle.rg_machine.proofs.Callers.Return.{same-back}
use Rattle.rg_step.proofs.walk.walk.Goals as goal

pub act-requires-clause-given : goal.act-requires-clause-given
act-requires-clause-given c =
    let i = c.loop-at.invariant in
    given-here c.args.code.now c.loop-at.at c.get.result (core_of c.loop-at.p) _ c.requires i.walks c.get.ensures

pub make_room-requires : goal.make_room-requires
make_room-requires c lt =
    let i = c.loop-at.invariant in
    let some = c.requires in (
      some.0,
      λ stuck. some.1 (turn-room c.args.code.now c.loop-at.at c.get.result (core_of c.loop-at.p)
          (core_of c.act.new.p) _ some i.walks c.get.ensures
          c.in-Room.ensures.effect lt some.0 ∙ stuck),
    )

pub loop-at-preserved-in-On : goal.loop-at-preserved-in-On
loop-at-preserved-in-On c =
    let code = c.args.code.now in
    let i = c.loop-at.invariant in
    let old = (core_of c.loop-at.p) in
    let new = (core_of c.act.new.p) in
    let op = c.get.result in
    record {
      further = omega (arith, i.further);
      walks = turn-on code c.loop-at.at op old new _ c.requires i.walks c.get.ensures c.in-On.ensures.effect;
      stands = λ start asks h. stands-on code.ops start asks c.loop-at.at old.machine new.machine op c.get.ensures c.in-On.ensures.keeps
          (i.stands start asks h);
      backs = on-backs (manner op) old.machine new.machine c.in-On.ensures.keeps ∙ i.backs;
      high = λ start h. high-on c.args.code.now.ops start c.loop-at.at c.loop-at.p c.act.new.p op c.get.ensures
          c.in-On.ensures.keeps c.in-On.ensures.high (i.high start h);
    }

pub loop-at-preserved-then-to-at : goal.loop-at-preserved-then-to-at
loop-at-preserved-then-to-at c =
    let code = c.args.code.now in
    let i = c.loop-at.invariant in
    let old = (core_of c.loop-at.p) in
    let new = (core_of c.act.new.p) in
    let op = c.get.result in
    record {
      further = omega (arith, i.further, c.if-to-at.true);
      walks = turn-to code c.loop-at.at c.in-To.to op old new _ c.requires i.walks c.get.ensures (omega (arith, c.if-to-at.true))
          c.in-To.ensures.effect;
      stands = λ start asks h. stands-to code.ops start asks c.loop-at.at old.machine new.machine op c.get.ensures c.in-To.to
          (omega (arith, c.if-to-at.true))
          c.in-To.ensures.keeps (i.stands start asks h);
      backs = to-backs (manner op) c.in-To.to old.machine new.machine c.in-To.ensures.keeps ∙ i.backs;
      high = λ start h. high-to c.args.code.now.ops start c.loop-at.at c.loop-at.p c.act.new.p op c.get.ensures
          c.in-To.to (omega (arith, c.if-to-at.true)) c.in-To.ensures.keeps c.in-To.ensures.high (i.high start h);
    }

pub loop-at-preserved-else-to-at : goal.loop-at-preserved-else-to-at
loop-at-preserved-else-to-at c =
    let code = c.args.code.now in
    let i = c.loop-at.invariant in
    let old = (core_of c.loop-at.p) in
    let new = (core_of c.act.new.p) in
    let op = c.get.result in
    record {
      further = omega (arith, i.further);
      walks = turn-back code c.loop-at.at c.in-To.to op old new _ c.requires i.walks c.get.ensures (omega (arith, c.if-to-at.false))
          c.in-To.ensures.effect;
      stands = λ start asks h. stands-back code.ops start asks c.loop-at.at old.machine new.machine op c.get.ensures c.in-To.to
          c.in-To.ensures.keeps (i.stands start asks h);
      backs = to-backs (manner op) c.in-To.to old.machine new.machine c.in-To.ensures.keeps ∙ i.backs;
      high = λ start h. high-back c.args.code.now.ops start c.loop-at.at c.loop-at.p c.act.new.p op c.get.ensures
          c.in-To.to c.in-To.ensures.keeps c.in-To.ensures.high (i.high start h);
    }

pub loop-at-preserved : goal.loop-at-preserved
loop-at-preserved c =
    let code = c.args.code.now in
    let i = c.loop-at.invariant in
    let old = (core_of c.loop-at.p) in
    let new = (core_of c.make_room.new.p) in
    let op = c.get.result in
    let room = subst (λ x. RoomIs code (c.loop-at.at + 1) (core_of c.act.new.p) new (Ok x)) c.in-None.is c.in_ok-make_room-in-Room.ensures.room in
    let W : Core → Type 0 = λ n. WantsRoom (manner op) old.machine n.machine in
    let wants = subst W (sym room.0) c.in-Room.ensures.keeps in
    record {
      further = omega (arith, i.further);
      walks = λ input. turn-room code c.loop-at.at op old (core_of c.act.new.p) _ c.requires i.walks c.get.ensures c.in-Room.ensures.effect
          room.1 input
          ∙ sym (ap (λ n. walk_from code (c.loop-at.at + 1) n input) room.0);
      stands = λ start asks h. stands-free code.ops start asks c.loop-at.at old.machine new.machine op c.get.ensures wants room.2
          (i.stands start asks h);
      backs = room-backs (manner op) old.machine new.machine wants ∙ i.backs;
      high = λ start h. subst (MayMake code.ops start (c.loop-at.at + 1)) (sym c.make_room.ensures.heap)
          (high-free c.args.code.now.ops start c.loop-at.at c.loop-at.p c.act.new.p op c.get.ensures
          c.in-Room.ensures.keeps room.2 c.in-Room.ensures.high (i.high start h));
    }

pub returns-in-Some : goal.returns-in-Some
returns-in-Some c =
    let i = c.loop-at.invariant in
    let room = subst (λ x. RoomIs c.args.code.now (c.loop-at.at + 1) (core_of c.act.new.p) (core_of c.make_room.new.p) (Ok x)) c.in-Some.is
    c.in_ok-make_room-in-Room.ensures.room in
    record {
      walk = λ input. turn-room c.args.code.now c.loop-at.at c.get.result (core_of c.loop-at.p)
          (core_of c.act.new.p) _ c.requires i.walks c.get.ensures
          c.in-Room.ensures.effect
          room.0 input
          ∙ room.1 input;
      leaves = λ start asks h. tt;
      backs = tt;
      high = λ start h. subst (OneAtMost start) (sym c.make_room.ensures.heap)
          (high-ends c.args.code.now.ops start c.loop-at.at c.loop-at.p c.act.new.p c.get.result c.get.ensures
          c.in-Room.ensures.high (i.high start h));
    }

pub returns-in_err-make_room-in-Room : goal.returns-in_err-make_room-in-Room
returns-in_err-make_room-in-Room c =
    let code = c.args.code.now in
    let i = c.loop-at.invariant in
    let op = c.get.result in
    let act = core_of c.act.new.p in
    let why = c.in_err-make_room-in-Room.field-0.0 in
    let room = c.in_err-make_room-in-Room.ensures.room in
    let p = err_from_is_err_and c.from_residual.result c.from_residual.ensures.1 in
    rw (p.1, p.2) (record {
      walk = (
        full-asks why (length act.machine.frames) room.1,
        λ input. full-stops why (length act.machine.frames) (walk_from code c.args.from (core_of c.args.p.now) input) room.1
            (λ full. turn-full code c.loop-at.at op (core_of c.loop-at.p) act _ c.requires i.walks c.get.ensures c.in-Room.ensures.effect full input),
      );
      leaves = λ start asks h. full-leaves why (length act.machine.frames) start asks (machine_in c.make_room.new.p) room.1
          (ap (λ (n : Core). n.machine) room.0
          ∙ stands-roomless code.ops start asks c.loop-at.at (machine_in c.loop-at.p) (machine_in c.act.new.p) op c.get.ensures
          c.in-Room.ensures.keeps (i.stands start asks h));
      backs = tt;
      high = λ start h. stop-made why start c.make_room.new.p.heap
          (subst (OneAtMost start) (sym c.make_room.ensures.heap)
          (high-ends code.ops start c.loop-at.at c.loop-at.p c.act.new.p op c.get.ensures c.in-Room.ensures.high (i.high start h)));
    })

pub returns-in-Stop : goal.returns-in-Stop
returns-in-Stop c =
    let i = c.loop-at.invariant in
    record {
      walk = turn-ends c.args.code.now c.loop-at.at c.get.result (core_of c.loop-at.p) _ _ c.requires i.walks c.get.ensures
          c.in-Stop.ensures.effect;
      leaves = λ start asks h. tt;
      backs = tt;
      high = λ start h. high-ends c.args.code.now.ops start c.loop-at.at c.loop-at.p c.act.new.p c.get.result
          c.get.ensures c.in-Stop.ensures.high (i.high start h);
    }

pub returns-in-Return : goal.returns-in-Return
returns-in-Return c =
    let i = c.loop-at.invariant in
    record {
      walk = turn-ends c.args.code.now c.loop-at.at c.get.result (core_of c.loop-at.p) _ _ c.requires i.walks c.get.ensures
          c.in-Return.ensures.effect;
      leaves = λ start asks h. tt;
      backs = same-back (machine_in c.args.p.now).frames (machine_in c.loop-at.p).frames c.in-Return.back i.backs c.in-Return.ensures.keeps;
      high = λ start h. high-ends c.args.code.now.ops start c.loop-at.at c.loop-at.p c.act.new.p c.get.result
          c.get.ensures c.in-Return.ensures.high (i.high start h);
    }

pub returns-in-Trap : goal.returns-in-Trap
returns-in-Trap c =
    let i = c.loop-at.invariant in
    record {
      walk = (
        λ e. absurd cc,
        turn-ends c.args.code.now c.loop-at.at c.get.result (core_of c.loop-at.p) _ _ c.requires i.walks c.get.ensures c.in-Trap.ensures.effect,
      );
      leaves = λ start asks h. stands-left c.args.code.now.ops start asks c.loop-at.at (machine_in c.loop-at.p)
          (machine_in c.act.new.p) c.get.result c.get.ensures
          c.in-Trap.ensures.keeps (i.stands start asks h);
      backs = tt;
      high = λ start h. high-none c.args.code.now.ops start c.loop-at.at c.loop-at.p c.act.new.p
          c.in-Trap.ensures.high (i.high start h);
    }

pub returns-in-Memory : goal.returns-in-Memory
returns-in-Memory c =
    let i = c.loop-at.invariant in
    record {
      walk = (λ e. absurd cc, λ input. tt);
      leaves = λ start asks h. stands-left c.args.code.now.ops start asks c.loop-at.at (machine_in c.loop-at.p)
          (machine_in c.act.new.p) c.get.result c.get.ensures
          c.in-Memory.ensures.keeps (i.stands start asks h);
      backs = tt;
      high = λ start h. tt;
    }

pub unreachable-requires : goal.unreachable-requires
unreachable-requires c =
    let some = c.requires in
    some.1 (turn-ends c.args.code.now c.loop-at.at c.get.result (core_of c.loop-at.p) _ _ some c.loop-at.invariant.walks c.get.ensures
    c.in-Lost.ensures.effect some.0)

pub returns-in-Read : goal.returns-in-Read
returns-in-Read c =
    let i = c.loop-at.invariant in
    let op = c.get.result in
    let r = turn-read c.args.code.now c.loop-at.at op (core_of c.loop-at.p)
    (core_of c.act.new.p) _ c.requires i.walks c.get.ensures c.in-Read.ensures.effect in
    record {
      walk = (i.further, omega (arith, c.loop-at-test.true, c.len.ensures), r.0, r.1);
      leaves = λ start asks h. (
        stands-asking c.args.code.now.ops start asks c.loop-at.at (machine_in c.loop-at.p) (machine_in c.act.new.p) op c.get.ensures
            c.in-Read.ensures.keeps.0 c.in-Read.ensures.keeps.1 (i.stands start asks h),
        stands-number c.args.code.now.ops start asks c.loop-at.at (machine_in c.loop-at.p) (machine_in c.act.new.p) op c.get.ensures
            c.in-Read.ensures.keeps.2 c.in-Read.ensures.keeps.1 (i.stands start asks h),
      );
      backs = asks-backs (manner op) (machine_in c.loop-at.p) (machine_in c.act.new.p) c.in-Read.ensures.keeps.1 ∙ i.backs;
      high = λ start h. high-asks c.args.code.now.ops start c.loop-at.at c.loop-at.p c.act.new.p op c.get.ensures
          c.in-Read.ensures.keeps.1 c.in-Read.ensures.high (i.high start h);
    }

pub returns-in-More : goal.returns-in-More
returns-in-More c =
    let i = c.loop-at.invariant in
    let op = c.get.result in
    let r = turn-more c.args.code.now c.loop-at.at op (core_of c.loop-at.p)
    (core_of c.act.new.p) _ c.requires i.walks c.get.ensures c.in-More.ensures.effect in
    record {
      walk = (i.further, omega (arith, c.loop-at-test.true, c.len.ensures), r.0, r.1);
      leaves = λ start asks h. stands-asking c.args.code.now.ops start asks c.loop-at.at (machine_in c.loop-at.p)
          (machine_in c.act.new.p) op c.get.ensures
          c.in-More.ensures.keeps.0 c.in-More.ensures.keeps.1 (i.stands start asks h);
      backs = asks-backs (manner op) (machine_in c.loop-at.p) (machine_in c.act.new.p) c.in-More.ensures.keeps.1 ∙ i.backs;
      high = λ start h. high-asks c.args.code.now.ops start c.loop-at.at c.loop-at.p c.act.new.p op c.get.ensures
          c.in-More.ensures.keeps.1 c.in-More.ensures.high (i.high start h);
    }

pub unreachable-requires-2 : goal.unreachable-requires-2
unreachable-requires-2 c =
    let some = c.requires in
    some.1 (c.loop-at.invariant.walks some.0
    ∙ past-code c.args.code.now c.loop-at.at (core_of c.loop-at.p) some.0 (omega (arith, c.loop-at-test.false, c.len.ensures)))
