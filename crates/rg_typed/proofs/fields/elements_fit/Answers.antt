use Rattle.std.proofs.Common.{sym, ap, ◌∙◌, ◌&&◌, Bool, length}
use Rattle.std.specs.Prelude.{not, nat_le}
use Rattle.rg_base.specs.declared.limits.TheConstants.{ARRAY_SIZE}
use Rattle.rg_tree.specs.Rows.RowTrees as rows
use Rattle.rg_rules.specs.Types.{type_of}
use Rattle.rg_rules.specs.Headers.{is_iso_written}
use Rattle.rg_typed.specs.Typed.{value_fits}
use Rattle.rg_typed.proofs.OneByOne.{all-next, all-stops, and_false}
use Rattle.rg_typed.proofs.fields.elements_fit.Goals as goal

pub returns-then-not-value_fits : goal.returns-then-not-value_fits
returns-then-not-value_fits c =
    let t = c.args.book.now.program in
    let values = c.args.values.now in
    let k = c.loop-k.k in
    let at = c.at-value.ensures in
    let ty = type_of (rows.classes_of t) (rows.type_of t c.args.element) in
    let stops = sym c.loop-k.invariant
    ∙ all-stops (value_fits c.args.cells.now c.args.own ty) values k c.at-value.result at (sym c.if-not-value_fits.ensures) in
    let shared = not (is_iso_written (rows.type_of t c.args.element)) in
    let few = nat_le (length values) ARRAY_SIZE in
    sym (ap (λ (z : Bool). shared && few && z) stops ∙ and_false shared few)

pub loop-k-preserved : goal.loop-k-preserved
loop-k-preserved c =
    let t = c.args.book.now.program in
    let values = c.args.values.now in
    let k = c.loop-k.k in
    let at = c.at-value.ensures in
    let ty = type_of (rows.classes_of t) (rows.type_of t c.args.element) in
    sym (all-next (value_fits c.args.cells.now c.args.own ty) values k c.at-value.result at (sym c.if-not-value_fits.ensures))
    ∙ c.loop-k.invariant
