use Rattle.std.proofs.Common.{◌≡◌, ◌==◌, ◌+◌, ◌<◌, ◌^◌, true, false, length, arith}
use Rattle.std.proofs.lemmas.Bool.Decides.{nat_tests}
use Rattle.rg_spell.specs.declared.rows.Head.{Head}
use Rattle.rg_tree.proofs.Adding.{extends-trans}
use Rattle.rg_classes.specs.Rows.{IsBodyIn}
use Rattle.rg_classes.proofs.Adding.{all-at, body-next, methods-keep}
use Rattle.rg_classes.proofs.Turns.{methods-none, methods-more, methods-other, methods-all}
use Rattle.rg_classes.proofs.classes.add_methods.Goals as goal

pub loop-at-init : goal.loop-at-init
loop-at-init c =
    methods-none c.args.class c.args.next c.args.methods.now.heads.now c.args.methods.now.bodies.now c.args.program.now c.args.members.now.items

pub add_method-requires : goal.add_method-requires
add_method-requires c =
    let here = c.loop-at.invariant.grown.keeps in
    record {
      few = all-at (λ (h : Head). length h.params + 1 < 2 ^ 32) c.args.methods.now.heads.now c.loop-at.at c.head_at-head.result.now
          c.requires.params c.head_at-head.ensures;
      body = all-at (IsBodyIn c.loop-at.program) c.args.methods.now.bodies.now c.loop-at.at c.body_at-body.result
          (methods-keep c.requires here).bodies c.body_at-body.ensures;
    }

pub loop-at-preserved : goal.loop-at-preserved
loop-at-preserved c =
    let same : (c.head_at-head.result.now.class == c.args.class) ≡ true = let e = c.if-head-class.false in grind (arith, nat_tests) in
    methods-more c.args.class c.args.next c.args.methods.now.heads.now c.args.methods.now.bodies.now c.args.program.now c.args.members.now.items
    c.loop-at.program c.loop-at.members.items c.loop-at.at c.loop-at.k c.loop-at.invariant c.add_method.new.program c.push.new.self.items
    c.head_at-head.result.now c.in_ok-number.number c.head_at-head.ensures same
    (λ bs a.
    let (b, is, means) = body-next c.loop-at.at c.body_at-body.result c.requires a c.loop-at.invariant.grown.keeps c.body_at-body.ensures in
    (b, is, c.in_ok-number.ensures.adds b means))
    c.in_ok-number.ensures.grows c.in-Ok.ensures.items

pub returns-clause-adds : goal.returns-clause-adds
returns-clause-adds c bs ms a m =
    (methods-all c.args.class c.args.next c.args.methods.now.heads.now c.args.methods.now.bodies.now c.args.program.now c.args.members.now.items
    c.loop-at.program c.loop-at.members.items c.loop-at.at c.loop-at.k c.loop-at.invariant c.loop-at-test.false).1 bs ms a m

pub returns-clause-behind : goal.returns-clause-behind
returns-clause-behind c =
    (methods-all c.args.class c.args.next c.args.methods.now.heads.now c.args.methods.now.bodies.now c.args.program.now c.args.members.now.items
    c.loop-at.program c.loop-at.members.items c.loop-at.at c.loop-at.k c.loop-at.invariant c.loop-at-test.false).0

pub returns-clause-grows : goal.returns-clause-grows
returns-clause-grows c = c.loop-at.invariant.grown

pub returns-then-head-class-clause-adds : goal.returns-then-head-class-clause-adds
returns-then-head-class-clause-adds c bs ms a m =
    let other : (c.head_at-head.result.now.class == c.args.class) ≡ false = let e = c.if-head-class.true in grind (arith, nat_tests) in
    (methods-other c.args.class c.args.next c.args.methods.now.heads.now c.args.methods.now.bodies.now c.args.program.now c.args.members.now.items
    c.loop-at.program c.loop-at.members.items c.loop-at.at c.loop-at.k c.loop-at.invariant c.head_at-head.result.now c.head_at-head.ensures
    other).1 bs ms a m

pub returns-then-head-class-clause-behind : goal.returns-then-head-class-clause-behind
returns-then-head-class-clause-behind c =
    let other : (c.head_at-head.result.now.class == c.args.class) ≡ false = let e = c.if-head-class.true in grind (arith, nat_tests) in
    (methods-other c.args.class c.args.next c.args.methods.now.heads.now c.args.methods.now.bodies.now c.args.program.now c.args.members.now.items
    c.loop-at.program c.loop-at.members.items c.loop-at.at c.loop-at.k c.loop-at.invariant c.head_at-head.result.now c.head_at-head.ensures
    other).0

pub returns-in_default-clause-grows : goal.returns-in_default-clause-grows
returns-in_default-clause-grows c = extends-trans c.loop-at.invariant.grown c.in_ok-number.ensures.grows
