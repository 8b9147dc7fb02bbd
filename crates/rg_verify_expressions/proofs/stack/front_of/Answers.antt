use Rattle.std.proofs.Common.{List, ℕ, subst}
use Rattle.rg_verify_expressions.specs.declared.held.Held.{Held}
use Rattle.rg_verify_expressions.specs.Inner.Stacks.{IsFor}
use Rattle.rg_tree.proofs.Adding.{extends-trans}
use Rattle.rg_verify_expressions.proofs.Path.{PathRow, path-there}
use Rattle.rg_verify_expressions.proofs.Fronts.{path-front, tree-front, checked-front, indexed-front, wait-front}
use Rattle.rg_verify_expressions.proofs.stack.front_of.Goals as goal

pub put_expr-requires : goal.put_expr-requires
put_expr-requires c =
    let t = c.args.program.now in
    let m = c.args.body.in_method in
    let (x, is) = c.requires in
    let made : PathRow t c.path_row.new.program m c.in-Path.slot c.in-Path.fields.items c.in-Ok.path =
    subst (λ (ns : List ℕ). PathRow t c.path_row.new.program m c.in-Path.slot ns c.in-Ok.path) c.as_slice.ensures.value c.in-Ok.ensures.adds in
    path-there t c.path_row.new.program m c.in-Path.slot c.in-Path.fields c.in-Ok.path made x
    (subst (λ (h : Held). IsFor t m h x) c.in-Path.is is)

pub returns-in-Ok-put_expr-clause-makes : goal.returns-in-Ok-put_expr-clause-makes
returns-in-Ok-put_expr-clause-makes c x is =
    let t = c.args.program.now in
    let m = c.args.body.in_method in
    let made : PathRow t c.path_row.new.program m c.in-Path.slot c.in-Path.fields.items c.in-Ok.path =
    subst (λ (ns : List ℕ). PathRow t c.path_row.new.program m c.in-Path.slot ns c.in-Ok.path) c.as_slice.ensures.value c.in-Ok.ensures.adds in
    path-front t c.path_row.new.program m c.in-Path.slot c.in-Path.fields c.in-Ok.path made x
    (subst (λ (h : Held). IsFor t m h x) c.in-Path.is is) c.in-Ok-put_expr.ensures.adds

pub returns-in-Tree-clause-makes : goal.returns-in-Tree-clause-makes
returns-in-Tree-clause-makes c x is =
    let t = c.args.program.now in
    let m = c.args.body.in_method in
    tree-front t m c.in-Tree.row x (subst (λ (h : Held). IsFor t m h x) c.in-Tree.is is)

pub returns-in-Checked-clause-makes : goal.returns-in-Checked-clause-makes
returns-in-Checked-clause-makes c x is =
    let t = c.args.program.now in
    let m = c.args.body.in_method in
    checked-front t m c.in-Checked.path x (subst (λ (h : Held). IsFor t m h x) c.in-Checked.is is)

pub returns-in-Indexed-clause-makes : goal.returns-in-Indexed-clause-makes
returns-in-Indexed-clause-makes c x is =
    let t = c.args.program.now in
    let m = c.args.body.in_method in
    indexed-front t m c.in-Indexed.path c.in-Indexed.index x (subst (λ (h : Held). IsFor t m h x) c.in-Indexed.is is)

pub returns-in-Waits-clause-makes : goal.returns-in-Waits-clause-makes
returns-in-Waits-clause-makes c x is =
    let t = c.args.program.now in
    let m = c.args.body.in_method in
    wait-front t m c.in-Waits.wait x (subst (λ (h : Held). IsFor t m h x) c.in-Waits.is is)

pub returns-in_default-put_expr-clause-grows : goal.returns-in_default-put_expr-clause-grows
returns-in_default-put_expr-clause-grows c = extends-trans c.in-Ok.ensures.grows c.in_default-put_expr.ensures.grows

pub returns-in-Ok-put_expr-clause-grows : goal.returns-in-Ok-put_expr-clause-grows
returns-in-Ok-put_expr-clause-grows c = extends-trans c.in-Ok.ensures.grows c.in-Ok-put_expr.ensures.grows
