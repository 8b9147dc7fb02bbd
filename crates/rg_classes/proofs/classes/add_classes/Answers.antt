use Rattle.std.proofs.Common.{◌∷◌, ◌+◌, ◌<◌, ◌^◌, ◌∙◌, length, drop, sym, ap}
use Rattle.std.proofs.lemmas.List.{drop_more}
use Rattle.rg_spell.specs.declared.rows.Shape.{Shape}
use Rattle.rg_classes.proofs.Adding.{all-next, methods-keep}
use Rattle.rg_classes.proofs.Turns.{classes-none, classes-more, classes-all}
use Rattle.rg_classes.proofs.classes.add_classes.Goals as goal

pub loop-shape-init : goal.loop-shape-init
loop-shape-init c = classes-none c.args.shapes.now c.args.methods.now.heads.now c.args.methods.now.bodies.now c.args.program.now

pub add_class-requires : goal.add_class-requires
add_class-requires c =
    let shapes = c.args.shapes.now in
    let i = c.loop-shape.shape-index in
    let here = drop_more shapes i _ c.loop-shape-test.true ∙ ap (λ s. s ∷ drop (i + 1) shapes) (sym c.shape-item.is) in
    record {
      methods = methods-keep c.requires.methods c.loop-shape.invariant.keeps;
      fields = all-next (λ (s : Shape). length s.fields < 2 ^ 32) shapes i c.shape-item.result (drop (i + 1) shapes) c.requires.fields here;
    }

pub loop-shape-preserved : goal.loop-shape-preserved
loop-shape-preserved c =
    let shapes = c.args.shapes.now in
    let i = c.loop-shape.shape-index in
    let here = drop_more shapes i _ c.loop-shape-test.true ∙ ap (λ s. s ∷ drop (i + 1) shapes) (sym c.shape-item.is) in
    classes-more shapes c.args.methods.now.heads.now c.args.methods.now.bodies.now c.args.program.now c.loop-shape.program
    c.add_class.new.program i c.loop-shape.class c.loop-shape.next c.in_ok-next.next c.shape-item.result c.loop-shape.invariant here
    c.in_ok-next.ensures.adds c.in_ok-next.ensures.keeps c.in_ok-next.ensures.behind

pub returns : goal.returns
returns c bs a =
    classes-all c.args.shapes.now c.args.methods.now.heads.now c.args.methods.now.bodies.now c.args.program.now c.loop-shape.program
    c.loop-shape.shape-index c.loop-shape.class c.loop-shape.next c.loop-shape.invariant c.loop-shape-test.false bs a
