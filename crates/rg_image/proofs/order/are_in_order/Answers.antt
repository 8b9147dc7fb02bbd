use Rattle.std.proofs.Common.{◌∙◌, ◌&&◌, Bool, suc, sym, ap, length, Some}
use Rattle.std.specs.Bool.{◌==◌}
use Rattle.std.proofs.lemmas.Option.{slice_get-get_or}
use Rattle.rg_image.specs.Inner.Order.{come_to}
use Rattle.rg_image.proofs.InOrder.{pass-next, pass-stops, none-left, all-are}
use Rattle.rg_image.proofs.order.are_in_order.Goals as goal

pub returns-in_default : goal.returns-in_default
returns-in_default c =
    let cells = c.args.cells.now in
    let regions = length c.args.managers.now in
    let last = c.loop-k.last in
    let at = slice_get-get_or cells c.loop-k.k c.index-cells-k.result c.loop-k-test.true ∙ ap Some (sym c.index-cells-k.is) in
    let none = sym c.loop-k.invariant
    ∙ pass-stops cells c.loop-k.k (suc last.object) (suc last.region) c.index-cells-k.result at (sym c.in_default.ensures) in
    sym (ap (come_to (length cells) regions) none) ∙ all-are cells regions c.requires

pub loop-k-preserved : goal.loop-k-preserved
loop-k-preserved c =
    let cells = c.args.cells.now in
    let last = c.loop-k.last in
    let next = c.in-Some.next in
    let at = slice_get-get_or cells c.loop-k.k c.index-cells-k.result c.loop-k-test.true ∙ ap Some (sym c.index-cells-k.is) in
    sym (pass-next cells c.loop-k.k (suc last.object) (suc last.region) (suc next.object) (suc next.region) c.index-cells-k.result at
    (sym c.in-Some.ensures)) ∙ c.loop-k.invariant

pub returns-then-not-is_last : goal.returns-then-not-is_last
returns-then-not-is_last c =
    let cells = c.args.cells.now in
    let regions = length c.args.managers.now in
    let last = c.loop-k.last in
    let all = sym c.loop-k.invariant ∙ none-left cells c.loop-k.k (suc last.object) (suc last.region) c.loop-k-test.false in
    sym (ap (come_to (length cells) regions) all ∙ ap (λ (b : Bool). b && suc last.region == regions) (sym c.if-not-is_last.ensures))
    ∙ all-are cells regions c.requires

pub returns : goal.returns
returns c =
    let cells = c.args.cells.now in
    let regions = length c.args.managers.now in
    let last = c.loop-k.last in
    let all = sym c.loop-k.invariant ∙ none-left cells c.loop-k.k (suc last.object) (suc last.region) c.loop-k-test.false in
    c.is_last-2.ensures
    ∙ sym (ap (come_to (length cells) regions) all ∙ ap (λ (b : Bool). b && suc last.region == regions) (sym c.if-not-is_last.ensures))
    ∙ all-are cells regions c.requires
