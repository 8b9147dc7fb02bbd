use Rattle.std.proofs.Common.{drop, map}
use Rattle.rg_tree.proofs.Callers.{Keeps-trans}
use Rattle.rg_tree.proofs.Adding.{extends-trans, extends-by}
use Rattle.rg_classes.specs.Written.{methods_written}
use Rattle.rg_classes.specs.Rows.{body_of}
use Rattle.rg_classes.proofs.Adding.{means-there, class-is, class-put, methods-keep, bodies-keep, bodies-there}
use Rattle.rg_classes.proofs.classes.add_class.Goals as goal

pub add_methods-requires : goal.add_methods-requires
add_methods-requires c =
    let g = extends-trans c.in_ok-name.ensures.grows (extends-trans c.in_ok-element.ensures.grows c.in_ok-add_fields.ensures.grows) in
    methods-keep c.requires.methods g.keeps

pub add_class-requires : goal.add_class-requires
add_class-requires c =
    let rows = c.args.methods.now.bodies.now in
    let bs = map (body_of c.args.program.now) rows in
    let g = extends-trans c.in_ok-name.ensures.grows (extends-trans c.in_ok-element.ensures.grows c.in_ok-add_fields.ensures.grows) in
    let here = bodies-keep (bodies-there c.args.program.now rows c.requires.methods.bodies) g.keeps in
    let e = c.in_ok-members.ensures in
    means-there (class-is c.args.class c.args.shape.now
    (methods_written c.args.class 0 (drop c.args.next c.args.methods.now.heads.now) (drop c.args.next bs)) c.items.result.now
    c.in_ok-name.ensures.adds c.in_ok-element.ensures.adds c.new-numbers.ensures.items c.items.ensures c.in_ok-add_fields.ensures.adds
    c.in_ok-add_fields.ensures.grows (λ ms m. c.in_ok-behind.ensures.adds bs ms here m) c.in_ok-behind.ensures.grows e.keeps e.program
    c.as_slice.ensures.value e.span)

pub returns-clause-adds : goal.returns-clause-adds
returns-clause-adds c bs a =
    let g = extends-trans c.in_ok-name.ensures.grows (extends-trans c.in_ok-element.ensures.grows c.in_ok-add_fields.ensures.grows) in
    let here = bodies-keep a g.keeps in
    let e = c.in_ok-members.ensures in
    let last = c.in_ok-_number.ensures in
    class-put (extends-trans g (extends-trans c.in_ok-behind.ensures.grows (extends-by e.keeps e.program)))
    (class-is c.args.class c.args.shape.now
    (methods_written c.args.class 0 (drop c.args.next c.args.methods.now.heads.now) (drop c.args.next bs)) c.items.result.now
    c.in_ok-name.ensures.adds c.in_ok-element.ensures.adds c.new-numbers.ensures.items c.items.ensures c.in_ok-add_fields.ensures.adds
    c.in_ok-add_fields.ensures.grows (λ ms m. c.in_ok-behind.ensures.adds bs ms here m) c.in_ok-behind.ensures.grows e.keeps e.program
    c.as_slice.ensures.value e.span)
    last.keeps last.program

pub returns-clause-keeps : goal.returns-clause-keeps
returns-clause-keeps c =
    let g = extends-trans c.in_ok-name.ensures.grows (extends-trans c.in_ok-element.ensures.grows c.in_ok-add_fields.ensures.grows) in
    Keeps-trans g.keeps (Keeps-trans c.in_ok-behind.ensures.grows.keeps (Keeps-trans c.in_ok-members.ensures.keeps c.in_ok-_number.ensures.keeps))
