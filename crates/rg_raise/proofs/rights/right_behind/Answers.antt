use Rattle.std.proofs.Common.{◌≡◌, sym, ap, ◌∙◌, subst, List, [], ◌∷◌, length, arith}
use Rattle.std.proofs.lemmas.Bool.Decides.{nat_tests}
use Rattle.rg_verify_expressions.specs.Raised.{Front, expression}
use Rattle.rg_verify_expressions.specs.Blocks.{right_behind}
use Rattle.rg_raise.specs.Uses.{used_in}
use Rattle.rg_raise.specs.Telling.{given, MakesAs, IsRightSaid}
use Rattle.rg_raise.proofs.FrontRows.{none-left, some-left, taken-none, taken-expression, taken-object, taken-place}
use Rattle.rg_raise.proofs.RightSides.{right-many}
use Rattle.rg_raise.proofs.rights.right_behind.Goals as goal

pub returns-in-None-clause-told : goal.returns-in-None-clause-told
returns-in-None-clause-told c fs left =
    let t = c.args.program.now in
    let m = c.args.source.now.body.in_method in
    let g = given c.args.source.now in
    let types = c.args.types.now.items in
    let none = taken-none t m c.take_front.new.rows.items fs (c.in-None.ensures t m fs left.rows) in
    subst (λ (ys : List Front). MakesAs (IsRightSaid m) t c.made_behind.new.program (right_behind g types ys c.args.fronts.code.end)
    c.made_behind.result) (sym none) (c.made_behind.ensures.told types)

pub returns-then-len-ne0-clause-told : goal.returns-then-len-ne0-clause-told
returns-then-len-ne0-clause-told c fs left =
    let t = c.args.program.now in
    let m = c.args.source.now.body.in_method in
    let g = given c.args.source.now in
    let types = c.args.types.now.items in
    let end = c.args.fronts.code.end in
    let new = c.take_front.new.rows.items in
    let (e, xs, same, tree, rest) = taken-expression t m new fs c.in-Some-Expression.field-0 c.in-Some-Expression.row c.in-Some-Expression.field-0-is
    (c.in-Some-Expression.ensures t m fs left.rows) in
    ap (λ (ys : List Front). right_behind g types ys end) same
    ∙ right-many g types e xs end
    (some-left t m new xs rest (λ z. let other = c.if-len-ne0.true in let n = c.len.ensures in grind (arith, nat_tests)))

pub returns-in-Some-Expression-clause-told : goal.returns-in-Some-Expression-clause-told
returns-in-Some-Expression-clause-told c fs left =
    let t = c.args.program.now in
    let m = c.args.source.now.body.in_method in
    let g = given c.args.source.now in
    let types = c.args.types.now.items in
    let end = c.args.fronts.code.end in
    let new = c.take_front.new.rows.items in
    let (e, xs, same, tree, rest) = taken-expression t m new fs c.in-Some-Expression.field-0 c.in-Some-Expression.row c.in-Some-Expression.field-0-is
    (c.in-Some-Expression.ensures t m fs left.rows) in
    let zero : length new ≡ 0 = let is = c.if-len-ne0.false in let n = c.len.ensures in grind (arith, nat_tests) in
    let all : fs ≡ expression e ∷ [] = same ∙ ap (λ (ys : List Front). expression e ∷ ys) (none-left t m new xs rest zero) in
    subst (λ (ys : List Front). MakesAs (IsRightSaid m) t c.right_by.new.program (right_behind g types ys end) c.right_by.result) (sym all)
    (c.right_by.ensures.told e tree (λ ts. left.spans ts ∙ ap (used_in ts) all))

pub returns-in-Some-Object-clause-told : goal.returns-in-Some-Object-clause-told
returns-in-Some-Object-clause-told c fs left =
    let t = c.args.program.now in
    let m = c.args.source.now.body.in_method in
    let g = given c.args.source.now in
    let types = c.args.types.now.items in
    let end = c.args.fronts.code.end in
    let new = c.take_front.new.rows.items in
    let (s, ks, xs, same, path, rest) = taken-object t m new fs c.in-Some-Object.field-0 c.in-Some-Object.path c.in-Some-Object.field-0-is
    (c.in-Some-Object.ensures t m fs left.rows) in
    subst (λ (ys : List Front). MakesAs (IsRightSaid m) t c.result_by.new.program (right_behind g types ys end) c.result_by.result) (sym same)
    (c.result_by.ensures.told s ks xs path (record { rows = rest; spans = λ ts. left.spans ts ∙ ap (used_in ts) same }))

pub returns-clause-told : goal.returns-clause-told
returns-clause-told c fs left =
    let t = c.args.program.now in
    let m = c.args.source.now.body.in_method in
    let g = given c.args.source.now in
    let types = c.args.types.now.items in
    let end = c.args.fronts.code.end in
    let (s, ks, e, xs, same) =
    taken-place t m c.take_front.new.rows.items fs c.in-Some-Place.field-0 c.in-Some-Place.field-0-0 c.in-Some-Place.field-0-1
    c.in-Some-Place.field-0-is (c.in-Some-Place.ensures t m fs left.rows) in
    ap (λ (ys : List Front). right_behind g types ys end) same
