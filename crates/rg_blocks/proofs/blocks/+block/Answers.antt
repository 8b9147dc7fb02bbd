use Rattle.std.proofs.Common.{◌≡◌, ◌-◌, ◌+◌, ℕ, suc, List, [], ◌∷◌, take, length, refl, sym, ap, ◌∙◌, subst, Option, Some, Err, arith}
use Rattle.std.proofs.lemmas.Bool.Decides.{nat_tests}
use Rattle.std.proofs.lemmas.Result.{err_from_is_err_and}
use Rattle.rg_base.specs.declared.words.Cap.TheVariants as cap
use Rattle.rg_base.specs.declared.ty.Ty.{Ty}
use Rattle.rg_base.specs.declared.ty.Ty.TheVariants as ty
use Rattle.rg_tree.specs.declared.rows.Right.TheVariants as right_row
use Rattle.rg_tree.specs.Tree as tree
use Rattle.rg_tree.specs.Rows.RowTrees.{right_of}
use Rattle.rg_tree.specs.Rows.RowsExist.{IsRightIn}
use Rattle.rg_code.specs.Code.{Code}
use Rattle.rg_verify_expressions.specs.declared.signs.Close.{Close}
use Rattle.rg_verify_expressions.specs.declared.signs.Open.{Open}
use Rattle.rg_verify_expressions.specs.declared.signs.Walk.{Walk}
use Rattle.rg_verify_expressions.specs.Raised.{Front, expression}
use Rattle.rg_verify_expressions.specs.Statements.{Kind, value}
use Rattle.rg_verify_expressions.specs.Blocks.{Told, cleared, window, path_in, close_by, expr_by, open_by, kind_by, kind_told, block_told}
use Rattle.rg_raise.specs.Fronts.{Spans, TakesFirst, MakesFronts}
use Rattle.rg_raise.specs.Telling.{given, MakesAs, IsKindSaid}
use Rattle.rg_raise.proofs.Rows.{means-one, means-there, names-none}
use Rattle.rg_tree.proofs.Adding.{extends-trans, means-later}
use Rattle.rg_raise.proofs.Telling.{makes-some}
use Rattle.rg_blocks.specs.Blocks.{IsBlockSaid, IsWindowSaid}
use Rattle.rg_blocks.proofs.Put.{finds-path, finds-no-path}
use Rattle.rg_blocks.proofs.Going.{Looping, looping-begins}
use Rattle.rg_blocks.proofs.BlockParts.{jumped-astray, window-astray, window-untyped, window-classless, kind-many, block-none}
use Rattle.rg_blocks.proofs.Exprs.{astray, jumped-made, jumped-goes, close-print, close-return, close-test, expr-uncleared, expr-closed, expr-array}
use Rattle.rg_blocks.proofs.Exprs.{open-collect, kind-refused, kind-made}
use Rattle.rg_raise.proofs.FrontRows.{none-left, some-left}
use Rattle.rg_blocks.proofs.Firsts.{first-none, first-expression, first-object, first-place}
use Rattle.rg_blocks.proofs.BlockRows.{otherwise-made, tested-made, tested-goes, window-made, window-closed, open-made, open-closed, field-made}
use Rattle.rg_blocks.proofs.BlockRows.{field-closed}
use Rattle.rg_blocks.proofs.BlockRows.{field-unfound}
use Rattle.rg_blocks.proofs.Turns.{turn-refused, turn-same, turn-more, turn-last, turn-smaller, statements-end, block-refused, block-made, shortened}
use Rattle.rg_blocks.proofs.Turns.{under}
use Rattle.rg_blocks.proofs.blocks.+block.Goals as goal

-- an `if` and a loop

pub otherwise_told-returns-clause-told : goal.otherwise_told-returns-clause-told
otherwise_told-returns-clause-told b c e k is block =
    let m = c.args.source.now.body.in_method in
    let g = given c.args.source.now in
    let n : c.len-slots.result ≡ length c.args.types.now.items = omega (arith, c.len-slots.ensures) in
    let ends = rw (c.code.ensures, n) at c.in-Some.ensures in
    let same : c.args.to ≡ c.in-Some.end = let z = c.if-to-end.false in grind (arith, nat_tests) in
    otherwise-made m g (block_told g c.args.depth) c.args.types.now.items c.args.line c.args.program.now c.raise_inner.new.program c.args.test e
    c.args.yes c.in_ok-no.no k c.args.to c.args.at c.in_ok-no.behind c.in-Some.end is block c.in_ok-no.ensures.told (sym ends) same

pub tested-returns-then-fails-end-clause-told : goal.tested-returns-then-fails-end-clause-told
tested-returns-then-fails-end-clause-told b c e is =
    let m = c.args.source.now.body.in_method in
    let g = given c.args.source.now in
    let n : c.len-slots.result ≡ length c.args.types.now.items = omega (arith, c.len-slots.ensures) in
    let ends = rw (c.code.ensures, n) at c.in-Some.ensures in
    tested-made m g
    (block_told g c.args.depth) c.args.types.now.items c.args.line c.args.start c.args.program.now c.raise_inner.new.program c.args.test e
    c.in_ok-yes.yes c.args.fails c.args.at c.in_ok-yes.behind c.in-Some.end is c.in_ok-yes.ensures.told (sym ends) c.if-fails-end.true

pub tested-returns-clause-told : goal.tested-returns-clause-told
tested-returns-clause-told b c e is =
    let t = c.args.program.now in
    let m = c.args.source.now.body.in_method in
    let g = given c.args.source.now in
    let n : c.len-slots.result ≡ length c.args.types.now.items = omega (arith, c.len-slots.ensures) in
    let ends = rw (c.code.ensures, n) at c.in-Some.ensures in
    let goes = rw c.in_ok-yes.ensures.types at c.jumped.ensures.told in
    tested-goes m g (block_told g c.args.depth) c.args.types.now.items c.args.line c.args.start t c.raise_inner.new.program c.args.test e
    c.in_ok-yes.yes c.args.fails c.args.at c.in_ok-yes.behind c.in-Some.end is c.in_ok-yes.ensures.told
    (sym ends) c.jumped.new.program c.jumped.result
    (astray c.args.fails c.in-Some.end (λ z. let other = c.if-fails-end.false in grind (arith, nat_tests))) (goes e)

pub tested-returns-clause-types : goal.tested-returns-clause-types
tested-returns-clause-types b c = rw c.in_ok-yes.ensures.types at c.jumped.ensures.types

pub tested-returns-clause-grows : goal.tested-returns-clause-grows
tested-returns-clause-grows b c = extends-trans c.in_ok-yes.ensures.grows c.jumped.ensures.grows

pub jumped-returns-then-fails-behind-clause-told : goal.jumped-returns-then-fails-behind-clause-told
jumped-returns-then-fails-behind-clause-told b c e k is block =
    let g = given c.args.source.now in
    let jump = rw c.code.ensures at c.in-Some.ensures.told in
    jumped-astray g (block_told g c.args.depth) c.args.types.now.items c.args.line c.args.start e k c.args.fails c.args.at c.in-Some.to (sym jump)
    (astray c.args.fails (suc c.args.at) (λ z. let other = c.if-fails-behind.true in grind (arith, nat_tests)))

pub jumped-returns-then-to-start-clause-told : goal.jumped-returns-then-to-start-clause-told
jumped-returns-then-to-start-clause-told b c e k is block =
    let m = c.args.source.now.body.in_method in
    let g = given c.args.source.now in
    let jump = rw c.code.ensures at c.in-Some.ensures.told in
    let falls : c.args.fails ≡ c.args.at + 1 = let z = c.if-fails-behind.false in grind (arith, nat_tests) in
    let back : c.in-Some.to ≡ c.args.start = let z = c.if-to-start.true in grind (arith, nat_tests) in
    jumped-made m g (block_told g c.args.depth) c.args.types.now.items c.args.line c.args.start c.args.program.now c.args.test e c.args.yes k
    c.args.fails c.args.at c.in-Some.to (sym jump) falls is block back

pub jumped-returns-clause-told : goal.jumped-returns-clause-told
jumped-returns-clause-told b c e k is block =
    let m = c.args.source.now.body.in_method in
    let g = given c.args.source.now in
    let jump = rw c.code.ensures at c.in-Some.ensures.told in
    let falls : c.args.fails ≡ c.args.at + 1 = let z = c.if-fails-behind.false in grind (arith, nat_tests) in
    jumped-goes m g (block_told g c.args.depth) c.args.types.now.items c.args.line c.args.start c.args.program.now c.args.test e c.args.yes k
    c.args.fails c.args.at c.in-Some.to (sym jump) falls c.otherwise_told.new.program c.otherwise_told.result
    (λ z. let other = c.if-to-start.false in grind (arith, nat_tests)) (c.otherwise_told.ensures.told e k is block)

-- by what stands behind a whole expression

pub close_by-returns-in-None-clause-told : goal.close_by-returns-in-None-clause-told
close_by-returns-in-None-clause-told b c e is =
    let t = c.args.program.now in
    let m = c.args.source.now.body.in_method in
    let g = given c.args.source.now in
    let types = c.args.types.now.items in
    let told = rw c.code.ensures at c.in-None.ensures.told in
    subst (λ (w : Option Close). MakesAs (IsKindSaid m (length types)) t c.taken.new.program
    (close_by g (block_told g c.args.depth) types c.args.line c.args.start e c.args.at w) c.taken.result) told
    (c.taken.ensures.told (value e)
    (means-one {at = right_of} {exists = IsRightIn} right_row.Expr tree.value (λ w x. refl) (λ w x i. i) is, refl))

pub close_by-returns-in-Some-Print-clause-told : goal.close_by-returns-in-Some-Print-clause-told
close_by-returns-in-Some-Print-clause-told b c e is =
    let g = given c.args.source.now in
    let told = rw c.code.ensures at c.in-Some-Print.ensures.told in
    close-print c.args.source.now.body.in_method g (block_told g c.args.depth) c.args.types.now.items c.args.line c.args.start e c.args.at
    c.args.program.now c.args.test is (sym (ap Some (sym c.in-Some-Print.field-0-is) ∙ told))

pub close_by-returns-in-Some-Return-clause-told : goal.close_by-returns-in-Some-Return-clause-told
close_by-returns-in-Some-Return-clause-told b c e is =
    let g = given c.args.source.now in
    let told = rw c.code.ensures at c.in-Some-Return.ensures.told in
    close-return c.args.source.now.body.in_method g (block_told g c.args.depth) c.args.types.now.items c.args.line c.args.start e c.args.at
    c.args.program.now c.args.test is (sym (ap Some (sym c.in-Some-Return.field-0-is) ∙ told))

pub close_by-returns-in-Some-Test-clause-told : goal.close_by-returns-in-Some-Test-clause-told
close_by-returns-in-Some-Test-clause-told b c e is =
    let g = given c.args.source.now in
    let told = rw c.code.ensures at c.in-Some-Test.ensures.told in
    close-test c.args.source.now.body.in_method g (block_told g c.args.depth) c.args.types.now.items c.args.line c.args.start e c.args.at
    c.args.program.now c.in-Some-Test.to c.tested.new.program c.tested.result (sym (ap Some (sym c.in-Some-Test.field-0-is) ∙ told))
    (c.tested.ensures.told e is)

-- windows

pub window-returns-then-bridge-slots-clause-told : goal.window-returns-then-bridge-slots-clause-told
window-returns-then-bridge-slots-clause-told b c =
    let g = given c.args.source.now in
    window-astray g (block_told g c.args.depth) c.args.types.now.items c.args.line c.args.bridge c.args.at
    (astray c.args.bridge (length c.args.types.now.items)
    (λ z. let other = c.if-bridge-slots.true in let n = c.len-slots.ensures in grind (arith, nat_tests)))

pub window-returns-in_default-clause-told : goal.window-returns-in_default-clause-told
window-returns-in_default-clause-told b c =
    let g = given c.args.source.now in
    let next : c.args.bridge ≡ length c.args.types.now.items = let z = c.if-bridge-slots.false in let n = c.len-slots.ensures
    in grind (arith, nat_tests) in
    window-untyped g (block_told g c.args.depth) c.args.types.now.items c.args.line c.args.bridge c.args.at next (sym c.in_default.ensures)

pub window-returns-in_default-bridge_class-clause-told : goal.window-returns-in_default-bridge_class-clause-told
window-returns-in_default-bridge_class-clause-told b c =
    let g = given c.args.source.now in
    let next : c.args.bridge ≡ length c.args.types.now.items = let z = c.if-bridge-slots.false in let n = c.len-slots.ensures
    in grind (arith, nat_tests) in
    window-classless g (block_told g c.args.depth) c.args.types.now.items c.args.line c.args.bridge c.args.at next c.in-Some.ty
    (sym c.in-Some.ensures)
    (sym c.in_default-bridge_class.ensures)

pub window-returns-in_err-block-clause-told : goal.window-returns-in_err-block-clause-told
window-returns-in_err-block-clause-told b c =
    let p = err_from_is_err_and c.from_residual.result c.from_residual.ensures.1 in
    let g = given c.args.source.now in
    let next : c.args.bridge ≡ length c.args.types.now.items = let z = c.if-bridge-slots.false in let n = c.len-slots.ensures
    in grind (arith, nat_tests) in
    let made = subst (λ (ts : List Ty). MakesAs (IsBlockSaid c.args.source.now.body.in_method (length ts)) c.args.program.now
    c.raise_inner.new.program (block_told g c.args.depth ts c.args.at) (Err c.in_err-block.field-0.0)) c.in-Ok.ensures.items
    c.in_err-block.ensures.told in
    rw (p.1, p.2)
    (window-closed c.args.source.now.body.in_method g (block_told g c.args.depth) c.args.types.now.items c.args.line c.args.bridge c.args.at next
    c.in-Some.ty (sym c.in-Some.ensures) c.in-Some-bridge_class.class (sym c.in-Some-bridge_class.ensures) c.args.program.now
    c.raise_inner.new.program c.in_err-block.field-0.0 made)

pub window-returns-clause-told : goal.window-returns-clause-told
window-returns-clause-told b c =
    let g = given c.args.source.now in
    let n : c.len-slots.result ≡ length c.args.types.now.items = omega (arith, c.len-slots.ensures) in
    let ends = rw (c.code.ensures, n) at c.in-Some-behind_leave.ensures in
    let next : c.args.bridge ≡ length c.args.types.now.items = let z = c.if-bridge-slots.false in let n = c.len-slots.ensures
    in grind (arith, nat_tests) in
    let made = rw c.in-Ok.ensures.items at c.in_ok-block.ensures.told in
    window-made c.args.source.now.body.in_method g (block_told g c.args.depth) c.args.types.now.items c.args.line c.args.bridge c.args.at
    next c.in-Some.ty (sym c.in-Some.ensures) c.in-Some-bridge_class.class (sym c.in-Some-bridge_class.ensures)
    c.args.program.now c.raise_inner.new.program c.in_ok-block.block c.in_ok-block.behind c.in-Some-behind_leave.given c.in-Some-behind_leave.end
    made (sym ends)

pub window-returns-clause-types : goal.window-returns-clause-types
window-returns-clause-types b c =
    let n : c.len-slots.result ≡ length c.args.types.now.items = omega (arith, c.len-slots.ensures) in
    let old = c.args.types.now.items in
    let all = c.in_ok-block.ensures.types ∙ c.in-Ok.ensures.items in
    c.truncate.ensures.items ∙ ap (λ (k : ℕ). take k c.raise_inner.new.types.items) n
    ∙ shortened old (ty.Ref cap.Mut c.in-Some-bridge_class.class ∷ []) c.raise_inner.new.types.items all

-- the window of a field

pub field_entered-returns-in_default-clause-told : goal.field_entered-returns-in_default-clause-told
field_entered-returns-in_default-clause-told b c e is =
    let m = c.args.source.now.body.in_method in
    let g = given c.args.source.now in
    field-unfound m g (block_told g c.args.depth) c.args.types.now.items c.args.line c.args.start e c.args.index c.args.bridge c.args.at
    (finds-no-path c.args.program.now m (path_in e) (c.in_default.ensures e is))

pub field_entered-returns-in_err-inside-clause-told : goal.field_entered-returns-in_err-inside-clause-told
field_entered-returns-in_err-inside-clause-told b c e is =
    let p = err_from_is_err_and c.from_residual.result c.from_residual.ensures.1 in
    let t = c.args.program.now in
    let m = c.args.source.now.body.in_method in
    let g = given c.args.source.now in
    let (q, found, path) = finds-path t m (path_in e) c.in-Some.path (c.in-Some.ensures e is) in
    rw (p.1, p.2)
    (field-closed m g (block_told g c.args.depth) c.args.types.now.items c.args.line c.args.start e c.args.index c.args.bridge c.args.at q found
    t c.window.new.program c.in_err-inside.field-0.0 c.in_err-inside.ensures.told)

pub field_entered-longer_path-requires : goal.field_entered-longer_path-requires
field_entered-longer_path-requires b c =
    let t = c.args.program.now in
    let m = c.args.source.now.body.in_method in
    let g = given c.args.source.now in
    let types = c.args.types.now.items in
    let (e, is) = c.requires.tree in
    let (q, found, path) = finds-path t m (path_in e) c.in-Some.path (c.in-Some.ensures e is) in
    let (x, told, grown, said) = makes-some (IsWindowSaid m (length types)) t c.window.new.program
    (window g (block_told g c.args.depth) types c.args.line c.args.bridge (c.args.at + 1)) c.in_ok-inside.inside c.in_ok-inside.end
    c.in_ok-inside.ensures.told in
    (q.0, q.1, means-later path grown)

pub field_entered-returns-clause-told : goal.field_entered-returns-clause-told
field_entered-returns-clause-told b c e is =
    let t = c.args.program.now in
    let m = c.args.source.now.body.in_method in
    let g = given c.args.source.now in
    let types = c.args.types.now.items in
    let (q, found, path) = finds-path t m (path_in e) c.in-Some.path (c.in-Some.ensures e is) in
    let (x, told, grown, said) = makes-some (IsWindowSaid m (length types)) t c.window.new.program
    (window g (block_told g c.args.depth) types c.args.line c.args.bridge (c.args.at + 1)) c.in_ok-inside.inside c.in_ok-inside.end
    c.in_ok-inside.ensures.told in
    field-made m g (block_told g c.args.depth) types c.args.line c.args.start e c.args.index c.args.bridge c.args.at q found
    t c.window.new.program c.longer_path.new.program c.entered.new.program c.in_ok-inside.inside c.in_ok-inside.end c.in-Ok.path c.in-Ok-entered.kind
    c.in_ok-inside.ensures.told c.in_ok-inside.ensures.next (c.in-Ok.ensures.adds q.0 q.1 (means-later path grown)) c.in-Ok-entered.ensures.enters

-- the window of a variable

pub slot_entered-returns-in_err-inside-clause-told : goal.slot_entered-returns-in_err-inside-clause-told
slot_entered-returns-in_err-inside-clause-told b c =
    let p = err_from_is_err_and c.from_residual.result c.from_residual.ensures.1 in
    rw (p.1, p.2) (open-closed c.args.source.now.body.in_method (given c.args.source.now) (block_told (given c.args.source.now) c.args.depth)
    c.args.types.now.items c.args.line c.args.slot c.args.bridge c.args.at c.args.program.now c.window.new.program c.in_err-inside.field-0.0
    c.in_err-inside.ensures.told)

pub slot_entered-returns-clause-told : goal.slot_entered-returns-clause-told
slot_entered-returns-clause-told b c =
    open-made c.args.source.now.body.in_method (given c.args.source.now) (block_told (given c.args.source.now) c.args.depth)
    c.args.types.now.items c.args.line c.args.slot c.args.bridge c.args.at c.args.program.now c.window.new.program c.path_row.new.program
    c.entered.new.program c.in_ok-inside.inside c.in_ok-inside.end c.in-Ok.path c.in-Ok-entered.kind c.in_ok-inside.ensures.told
    c.in_ok-inside.ensures.next (c.in-Ok.ensures.adds [] (names-none c.window.new.program)) c.in-Ok-entered.ensures.enters

pub slot_entered-returns-in_default-clause-grows : goal.slot_entered-returns-in_default-clause-grows
slot_entered-returns-in_default-clause-grows b c = extends-trans c.in_ok-inside.ensures.grows c.in_default.ensures.grows

pub slot_entered-returns-in_default-entered-clause-grows : goal.slot_entered-returns-in_default-entered-clause-grows
slot_entered-returns-in_default-entered-clause-grows b c =
    extends-trans c.in_ok-inside.ensures.grows (extends-trans c.in-Ok.ensures.grows c.in_default-entered.ensures.grows)

pub slot_entered-returns-clause-grows : goal.slot_entered-returns-clause-grows
slot_entered-returns-clause-grows b c =
    extends-trans c.in_ok-inside.ensures.grows (extends-trans c.in-Ok.ensures.grows c.in-Ok-entered.ensures.grows)

pub field_entered-returns-in_default-longer_path-clause-grows : goal.field_entered-returns-in_default-longer_path-clause-grows
field_entered-returns-in_default-longer_path-clause-grows b c = extends-trans c.in_ok-inside.ensures.grows c.in_default-longer_path.ensures.grows

pub field_entered-returns-in_default-entered-clause-grows : goal.field_entered-returns-in_default-entered-clause-grows
field_entered-returns-in_default-entered-clause-grows b c =
    extends-trans c.in_ok-inside.ensures.grows (extends-trans c.in-Ok.ensures.grows c.in_default-entered.ensures.grows)

pub field_entered-returns-clause-grows : goal.field_entered-returns-clause-grows
field_entered-returns-clause-grows b c =
    extends-trans c.in_ok-inside.ensures.grows (extends-trans c.in-Ok.ensures.grows c.in-Ok-entered.ensures.grows)

-- what begins with an expression

pub whole-returns-in_default-clause-told : goal.whole-returns-in_default-clause-told
whole-returns-in_default-clause-told b c e is spans =
    let g = given c.args.source.now in
    let types = c.args.types.now.items in
    let end = c.args.code.end in
    let clears = rw c.code.ensures at c.in_default.ensures in
    let same = ap (λ (ss : List ℕ). cleared g.ops ss end) (spans types) in
    expr-uncleared c.args.source.now.body.in_method g (block_told g c.args.depth) types c.args.line c.args.start e end (sym (clears ∙ same))

pub whole-returns-clause-told : goal.whole-returns-clause-told
whole-returns-clause-told b c e is spans =
    let m = c.args.source.now.body.in_method in
    let g = given c.args.source.now in
    let types = c.args.types.now.items in
    let end = c.args.code.end in
    let clears = rw c.code.ensures at c.in-Some.ensures in
    let same = ap (λ (ss : List ℕ). cleared g.ops ss end) (spans types) in
    subst (λ (o : Told Kind). MakesAs (IsKindSaid m (length types)) c.args.program.now c.close_by.new.program o c.close_by.result)
    (sym (expr-closed m g (block_told g c.args.depth) types c.args.line c.args.start e end c.in-Some.behind (sym (clears ∙ same))))
    (c.close_by.ensures.told e is)

pub expr_by-returns-in_default-clause-told : goal.expr_by-returns-in_default-clause-told
expr_by-returns-in_default-clause-told b c e is spans =
    let m = c.args.source.now.body.in_method in
    let g = given c.args.source.now in
    let types = c.args.types.now.items in
    let told = rw c.code.ensures at c.in_default.ensures.told in
    subst (λ (w : Option Walk). MakesAs (IsKindSaid m (length types)) c.args.program.now c.whole.new.program
    (expr_by g (block_told g c.args.depth) types c.args.line c.args.start e c.args.code.end w) c.whole.result) told (c.whole.ensures.told e is spans)

pub expr_by-returns-in-Enter-clause-told : goal.expr_by-returns-in-Enter-clause-told
expr_by-returns-in-Enter-clause-told b c e is spans =
    let m = c.args.source.now.body.in_method in
    let g = given c.args.source.now in
    let types = c.args.types.now.items in
    let told = rw c.code.ensures at c.in-Some.ensures.told in
    subst (λ (w : Option Walk). MakesAs (IsKindSaid m (length types)) c.args.program.now c.field_entered.new.program
    (expr_by g (block_told g c.args.depth) types c.args.line c.args.start e c.args.code.end w) c.field_entered.result)
    (ap Some (sym c.in-Enter.is) ∙ told) (c.field_entered.ensures.told e is)

pub expr_by-returns-clause-told : goal.expr_by-returns-clause-told
expr_by-returns-clause-told b c e is spans =
    let m = c.args.source.now.body.in_method in
    let g = given c.args.source.now in
    let types = c.args.types.now.items in
    let told = rw c.code.ensures at c.in-Some.ensures.told in
    subst (λ (o : Told Kind). MakesAs (IsKindSaid m (length types)) c.args.program.now c.array_taken.new.program o c.array_taken.result)
    (sym (expr-array m g (block_told g c.args.depth) types c.args.line c.args.start e c.args.code.end c.in-Some.walk (sym told)
    c.in_default-walk.not-Enter)) (c.array_taken.ensures.told e is)

-- what begins with nothing

pub open_by-returns-in-None-clause-told : goal.open_by-returns-in-None-clause-told
open_by-returns-in-None-clause-told b c =
    let g = given c.args.source.now in
    let types = c.args.types.now.items in
    let told = rw c.code.ensures at c.in-None.ensures.told in
    subst (λ (o : Option Open). MakesAs (IsKindSaid c.args.source.now.body.in_method (length types)) c.args.program.now c.made_taken.new.program
    (open_by g (block_told g c.args.depth) types c.args.line c.args.at o) c.made_taken.result) told
    (c.made_taken.ensures.told (block_told g c.args.depth) c.args.line)

pub open_by-returns-in-Some-Collect-clause-told : goal.open_by-returns-in-Some-Collect-clause-told
open_by-returns-in-Some-Collect-clause-told b c =
    let g = given c.args.source.now in
    let told = rw c.code.ensures at c.in-Some-Collect.ensures.told in
    open-collect c.args.source.now.body.in_method g (block_told g c.args.depth) c.args.types.now.items c.args.line c.args.at c.args.program.now
    (sym (ap Some (sym c.in-Some-Collect.field-0-is) ∙ told))

pub open_by-returns-in-Some-Enter-clause-told : goal.open_by-returns-in-Some-Enter-clause-told
open_by-returns-in-Some-Enter-clause-told b c =
    let g = given c.args.source.now in
    let types = c.args.types.now.items in
    let told = rw c.code.ensures at c.in-Some-Enter.ensures.told in
    subst (λ (o : Option Open). MakesAs (IsKindSaid c.args.source.now.body.in_method (length types)) c.args.program.now c.slot_entered.new.program
    (open_by g (block_told g c.args.depth) types c.args.line c.args.at o) c.slot_entered.result) (ap Some (sym c.in-Some-Enter.field-0-is) ∙ told)
    c.slot_entered.ensures.told

-- by the first of what it begins with

pub kind_by-returns-in_default-clause-told : goal.kind_by-returns-in_default-clause-told
kind_by-returns-in_default-clause-told b c fs is =
    let t = c.args.program.now in
    let m = c.args.source.now.body.in_method in
    let g = given c.args.source.now in
    let types = c.args.types.now.items in
    let none = first-none t m g.ops c.args.fronts fs (subst (TakesFirst t m g.ops c.args.fronts fs) c.in_default.is is) in
    subst (λ (ys : List Front). MakesAs (IsKindSaid m (length types)) t c.open_by.new.program
    (kind_by g (block_told g c.args.depth) types c.args.line c.args.start ys c.args.fronts.code.end) c.open_by.result)
    (sym none) c.open_by.ensures.told

pub kind_by-returns-then-len-ne0-clause-told : goal.kind_by-returns-then-len-ne0-clause-told
kind_by-returns-then-len-ne0-clause-told b c fs is =
    let t = c.args.program.now in
    let m = c.args.source.now.body.in_method in
    let g = given c.args.source.now in
    let types = c.args.types.now.items in
    let end = c.args.fronts.code.end in
    let (e, rest, same, tree, rows, spans) = first-expression t m g.ops c.args.fronts fs c.in-Expression.row
    (subst (TakesFirst t m g.ops c.args.fronts fs) (c.in-Some.is ∙ ap Some c.in-Expression.is) is) in
    ap (λ (ys : List Front). kind_by g (block_told g c.args.depth) types c.args.line c.args.start ys end) same
    ∙ kind-many g (block_told g c.args.depth) types c.args.line c.args.start e rest end
    (some-left t m c.args.fronts.rows.items rest rows (λ z. let other = c.if-len-ne0.true in let n = c.len.ensures in grind (arith, nat_tests)))

pub kind_by-expr_by-requires : goal.kind_by-expr_by-requires
kind_by-expr_by-requires b c =
    let d = c.decreases in
    let t = c.args.program.now in
    let m = c.args.source.now.body.in_method in
    let ops = c.args.source.now.parts.now.code.ops in
    let (e, rest, same, tree, rows, spans) = first-expression t m ops c.args.fronts c.requires.0 c.in-Expression.row
    (subst (TakesFirst t m ops c.args.fronts c.requires.0) (c.in-Some.is ∙ ap Some c.in-Expression.is) c.requires.1) in
    (omega (arith, d), (e, tree))

pub kind_by-returns-else-len-ne0-clause-told : goal.kind_by-returns-else-len-ne0-clause-told
kind_by-returns-else-len-ne0-clause-told b c fs is =
    let t = c.args.program.now in
    let m = c.args.source.now.body.in_method in
    let g = given c.args.source.now in
    let types = c.args.types.now.items in
    let end = c.args.fronts.code.end in
    let (e, rest, same, tree, rows, spans) = first-expression t m g.ops c.args.fronts fs c.in-Expression.row
    (subst (TakesFirst t m g.ops c.args.fronts fs) (c.in-Some.is ∙ ap Some c.in-Expression.is) is) in
    let zero : length c.args.fronts.rows.items ≡ 0 = let z = c.if-len-ne0.false in let n = c.len.ensures in grind (arith, nat_tests) in
    let none : rest ≡ [] = none-left t m c.args.fronts.rows.items rest rows zero in
    let all : fs ≡ expression e ∷ [] = same ∙ ap (λ (ys : List Front). expression e ∷ ys) none in
    let only : Spans g.ops c.args.fronts.code (expression e ∷ []) =
    subst (λ (ys : List Front). Spans g.ops c.args.fronts.code (expression e ∷ ys)) none spans in
    subst (λ (ys : List Front). MakesAs (IsKindSaid m (length types)) t c.expr_by.new.program
    (kind_by g (block_told g c.args.depth) types c.args.line c.args.start ys end) c.expr_by.result) (sym all) (c.expr_by.ensures.told e tree only)

pub kind_by-object_by-requires-clause-path : goal.kind_by-object_by-requires-clause-path
kind_by-object_by-requires-clause-path b c =
    let t = c.args.program.now in
    let m = c.args.source.now.body.in_method in
    let ops = c.args.source.now.parts.now.code.ops in
    let (s, ks, rest, same, path, left) = first-object t m ops c.args.fronts c.requires.0 c.in-Object.path
    (subst (TakesFirst t m ops c.args.fronts c.requires.0) (c.in-Some.is ∙ ap Some c.in-Object.is) c.requires.1) in
    (s, ks, path)

pub kind_by-object_by-requires-clause-left : goal.kind_by-object_by-requires-clause-left
kind_by-object_by-requires-clause-left b c =
    let t = c.args.program.now in
    let m = c.args.source.now.body.in_method in
    let ops = c.args.source.now.parts.now.code.ops in
    let (s, ks, rest, same, path, left) = first-object t m ops c.args.fronts c.requires.0 c.in-Object.path
    (subst (TakesFirst t m ops c.args.fronts c.requires.0) (c.in-Some.is ∙ ap Some c.in-Object.is) c.requires.1) in
    (rest, left)

pub kind_by-returns-in-Object-clause-told : goal.kind_by-returns-in-Object-clause-told
kind_by-returns-in-Object-clause-told b c fs is =
    let t = c.args.program.now in
    let m = c.args.source.now.body.in_method in
    let g = given c.args.source.now in
    let types = c.args.types.now.items in
    let (s, ks, rest, same, path, left) = first-object t m g.ops c.args.fronts fs c.in-Object.path
    (subst (TakesFirst t m g.ops c.args.fronts fs) (c.in-Some.is ∙ ap Some c.in-Object.is) is) in
    subst (λ (ys : List Front). MakesAs (IsKindSaid m (length types)) t c.object_by.new.program
    (kind_by g (block_told g c.args.depth) types c.args.line c.args.start ys c.args.fronts.code.end) c.object_by.result) (sym same)
    (c.object_by.ensures.told s ks rest path left)

pub kind_by-returns-in-Place-clause-told : goal.kind_by-returns-in-Place-clause-told
kind_by-returns-in-Place-clause-told b c fs is =
    let t = c.args.program.now in
    let m = c.args.source.now.body.in_method in
    let g = given c.args.source.now in
    let types = c.args.types.now.items in
    let (s, ks, e, rest, same, path, tree, left) = first-place t m g.ops c.args.fronts fs c.in-Place.path c.in-Place.index
    (subst (TakesFirst t m g.ops c.args.fronts fs) (c.in-Some.is ∙ ap Some c.in-Place.is) is) in
    subst (λ (ys : List Front). MakesAs (IsKindSaid m (length types)) t c.element_written.new.program
    (kind_by g (block_told g c.args.depth) types c.args.line c.args.start ys c.args.fronts.code.end) c.element_written.result) (sym same)
    (c.element_written.ensures.told s ks e rest path tree left)

pub kind_told-kind_by-requires : goal.kind_told-kind_by-requires
kind_told-kind_by-requires b c =
    let d = c.decreases in
    let made = rw c.code.ensures at c.in_ok-fronts.ensures.told in
    let takes = rw c.code-2.ensures at c.take_first-first.ensures.takes in
    let (fs, from, grown, are) = made in
    (omega (arith, d), (fs, takes c.raise_fronts.new.program c.args.source.now.body.in_method fs are))

pub kind_told-returns-in_err-fronts-clause-told : goal.kind_told-returns-in_err-fronts-clause-told
kind_told-returns-in_err-fronts-clause-told b c =
    let p = err_from_is_err_and c.from_residual.result c.from_residual.ensures.1 in
    let g = given c.args.source.now in
    let made = subst (λ (x : Code). MakesFronts c.args.program.now c.raise_fronts.new.program c.args.source.now.body.in_method x.ops
    (c.args.at + 1) (Err c.in_err-fronts.field-0.0)) c.code.ensures c.in_err-fronts.ensures.told in
    rw (p.1, p.2) (kind-refused c.args.source.now.body.in_method g (block_told g c.args.depth) c.args.types.now.items c.args.line c.args.at
    c.args.program.now c.raise_fronts.new.program c.in_err-fronts.field-0.0 made)

pub kind_told-returns-clause-told : goal.kind_told-returns-clause-told
kind_told-returns-clause-told b c =
    let m = c.args.source.now.body.in_method in
    let g = given c.args.source.now in
    let u = c.raise_fronts.new.program in
    let made = rw c.code.ensures at c.in_ok-fronts.ensures.told in
    let takes = rw c.code-2.ensures at c.take_first-first.ensures.takes in
    kind-made m g (block_told g c.args.depth) c.args.types.now.items c.args.line c.args.at c.args.program.now u c.in_ok-fronts.fronts
    made c.kind_by.new.program c.kind_by.result
    (λ fs are. rw c.take_first-first.ensures.end at (c.kind_by.ensures.told fs (takes u m fs are)))

pub kind_told-returns-clause-grows : goal.kind_told-returns-clause-grows
kind_told-returns-clause-grows b c = extends-trans c.in_ok-fronts.ensures.grows c.kind_by.ensures.grows

-- the statements of a block

pub raise_statements-loop-line-init : goal.raise_statements-loop-line-init
raise_statements-loop-line-init b c =
    let t = c.args.program.now in
    let types = c.args.types.now.items in
    let g = given c.args.source.now in
    let inner = block_told g c.args.depth in
    subst (λ (ns : List ℕ). Looping c.args.source.now.body.in_method g inner t t types types ns c.args.at c.args.at) (sym c.new-numbers.ensures.items)
    (looping-begins c.args.source.now.body.in_method g inner t types c.args.at)

pub raise_statements-put_stmt-requires : goal.raise_statements-put_stmt-requires
raise_statements-put_stmt-requires b c =
    let m = c.args.source.now.body.in_method in
    let g = given c.args.source.now in
    let types = c.loop-line.types.items in
    let (k, told, grown, is) = makes-some (IsKindSaid m (length types)) c.loop-line.program c.kind_told.new.program
    (kind_told g (block_told g c.args.depth) types c.in-Some.line c.loop-line.end) c.in_ok-kind.kind c.in_ok-kind.behind
    c.in_ok-kind.ensures.told in
    means-there is.0

pub raise_statements-returns-in_err-kind-clause-told : goal.raise_statements-returns-in_err-kind-clause-told
raise_statements-returns-in_err-kind-clause-told b c =
    let p = err_from_is_err_and c.from_residual.result c.from_residual.ensures.1 in
    let g = given c.args.source.now in
    let begins = rw c.code.ensures at c.in-Some.ensures.told in
    rw (p.1, p.2) (turn-refused c.args.source.now.body.in_method g c.args.depth c.args.program.now c.loop-line.program c.args.types.now.items
    c.loop-line.types.items c.loop-line.numbers.items c.args.at c.loop-line.end c.in-Some.line c.loop-line.invariant (sym begins)
    c.kind_told.new.program c.in_err-kind.field-0.0 c.in_err-kind.ensures.told)

pub raise_statements-returns-in_err-kind-clause-grows : goal.raise_statements-returns-in_err-kind-clause-grows
raise_statements-returns-in_err-kind-clause-grows b c = extends-trans c.loop-line.invariant.grown c.in_err-kind.ensures.grows

pub raise_statements-returns-in_default-put_stmt-clause-grows : goal.raise_statements-returns-in_default-put_stmt-clause-grows
raise_statements-returns-in_default-put_stmt-clause-grows b c =
    extends-trans c.loop-line.invariant.grown (extends-trans c.in_ok-kind.ensures.grows c.in_default-put_stmt.ensures.grows)

pub raise_statements-returns-in_default-push-clause-grows : goal.raise_statements-returns-in_default-push-clause-grows
raise_statements-returns-in_default-push-clause-grows b c =
    extends-trans c.loop-line.invariant.grown (extends-trans c.in_ok-kind.ensures.grows c.in-Ok.ensures.grows)

pub raise_statements-loop-line-preserved-in-Same : goal.raise_statements-loop-line-preserved-in-Same
raise_statements-loop-line-preserved-in-Same b c =
    let g = given c.args.source.now in
    let begins = rw c.code.ensures at c.in-Some.ensures.told in
    rw (c.in-Ok-push.ensures.items, c.in_ok-kind.ensures.types) (turn-same c.args.source.now.body.in_method g c.args.depth c.args.program.now
    c.loop-line.program c.args.types.now.items c.loop-line.types.items c.loop-line.numbers.items c.args.at c.loop-line.end c.in-Some.line
    c.loop-line.invariant (sym begins) c.kind_told.new.program c.put_stmt.new.program c.in_ok-kind.kind c.in_ok-kind.behind c.in-Ok.number
    c.in_ok-kind.ensures.told c.in-Ok.ensures.adds c.in-Same.is)

pub raise_statements-loop-line-preserved : goal.raise_statements-loop-line-preserved
raise_statements-loop-line-preserved b c =
    let g = given c.args.source.now in
    let begins = rw c.code.ensures at c.in-Some.ensures.told in
    rw (c.in-Ok-push-2.ensures.items, c.in-Ok-push.ensures.items, c.in_ok-kind.ensures.types) (turn-more c.args.source.now.body.in_method g
    c.args.depth c.args.program.now c.loop-line.program c.args.types.now.items c.loop-line.types.items c.loop-line.numbers.items c.args.at
    c.loop-line.end c.in-Some.line c.loop-line.invariant (sym begins) c.kind_told.new.program c.put_stmt.new.program c.in_ok-kind.kind
    c.in_ok-kind.behind c.in-Ok.number c.in_ok-kind.ensures.told c.in-Ok.ensures.adds c.in-More.ty c.in-More.is)

pub raise_statements-loop-line-smaller-in-Same : goal.raise_statements-loop-line-smaller-in-Same
raise_statements-loop-line-smaller-in-Same b c =
    let g = given c.args.source.now in
    let begins = rw c.code.ensures at c.in-Some.ensures.told in
    let (later, within) = turn-smaller c.args.source.now.body.in_method g c.args.depth c.args.program.now c.loop-line.program c.args.types.now.items
    c.loop-line.types.items c.loop-line.numbers.items c.args.at c.loop-line.end c.in-Some.line c.loop-line.invariant (sym begins)
    c.kind_told.new.program c.put_stmt.new.program c.in_ok-kind.kind c.in_ok-kind.behind c.in-Ok.number c.in_ok-kind.ensures.told
    c.in-Ok.ensures.adds in
    omega (arith, later, within)

pub raise_statements-loop-line-smaller : goal.raise_statements-loop-line-smaller
raise_statements-loop-line-smaller b c =
    let g = given c.args.source.now in
    let begins = rw c.code.ensures at c.in-Some.ensures.told in
    let (later, within) = turn-smaller c.args.source.now.body.in_method g c.args.depth c.args.program.now c.loop-line.program c.args.types.now.items
    c.loop-line.types.items c.loop-line.numbers.items c.args.at c.loop-line.end c.in-Some.line c.loop-line.invariant (sym begins)
    c.kind_told.new.program c.put_stmt.new.program c.in_ok-kind.kind c.in_ok-kind.behind c.in-Ok.number c.in_ok-kind.ensures.told
    c.in-Ok.ensures.adds in
    omega (arith, later, within)

pub raise_statements-returns-in_default-push-2-clause-grows : goal.raise_statements-returns-in_default-push-2-clause-grows
raise_statements-returns-in_default-push-2-clause-grows b c =
    extends-trans c.loop-line.invariant.grown (extends-trans c.in_ok-kind.ensures.grows c.in-Ok.ensures.grows)

pub raise_statements-returns-in-Last-clause-grows : goal.raise_statements-returns-in-Last-clause-grows
raise_statements-returns-in-Last-clause-grows b c =
    extends-trans c.loop-line.invariant.grown (extends-trans c.in_ok-kind.ensures.grows c.in-Ok.ensures.grows)

pub raise_statements-returns-in-Last-clause-told : goal.raise_statements-returns-in-Last-clause-told
raise_statements-returns-in-Last-clause-told b c =
    let g = given c.args.source.now in
    let begins = rw c.code.ensures at c.in-Some.ensures.told in
    turn-last c.args.source.now.body.in_method g c.args.depth c.args.program.now c.loop-line.program c.args.types.now.items c.loop-line.types.items
    c.loop-line.numbers.items c.args.at c.loop-line.end c.in-Some.line c.loop-line.invariant (sym begins) c.kind_told.new.program
    c.put_stmt.new.program c.in_ok-kind.kind c.in_ok-kind.behind c.in-Ok.number c.in_ok-kind.ensures.told c.in-Ok.ensures.adds c.push.new.self
    c.in-Ok-push.ensures.items c.in-Last.is

pub raise_statements-returns-clause-told : goal.raise_statements-returns-clause-told
raise_statements-returns-clause-told b c =
    let g = given c.args.source.now in
    let none = rw c.code.ensures at c.in_default.ensures.told in
    statements-end c.args.source.now.body.in_method g c.args.depth c.args.program.now c.loop-line.program c.args.types.now.items
    c.loop-line.types.items c.loop-line.numbers c.args.at c.loop-line.end c.loop-line.invariant (sym none)

pub raise_statements-returns-clause-types : goal.raise_statements-returns-clause-types
raise_statements-returns-clause-types b c = (c.loop-line.invariant.more, c.loop-line.invariant.types_are)

-- blocks

pub raise_inner-returns-then-depth-eq0-clause-told : goal.raise_inner-returns-then-depth-eq0-clause-told
raise_inner-returns-then-depth-eq0-clause-told b c =
    block-none (given c.args.source.now) c.args.depth c.args.types.now.items c.args.at
    (let z = c.if-depth-eq0.true in grind (arith, nat_tests))

pub raise_inner-returns-in_err-numbers-clause-told : goal.raise_inner-returns-in_err-numbers-clause-told
raise_inner-returns-in_err-numbers-clause-told b c =
    let p = err_from_is_err_and c.from_residual.result c.from_residual.ensures.1 in
    let deep = under c.args.depth (λ z. let other = c.if-depth-eq0.false in grind (arith, nat_tests)) in
    rw (p.1, p.2) (block-refused c.args.source.now.body.in_method (given c.args.source.now) c.args.depth (c.args.depth - 1) c.args.types.now.items
    c.args.at deep c.args.program.now c.raise_statements.new.program c.in_err-numbers.field-0.0 c.in_err-numbers.ensures.told)

pub raise_inner-returns-clause-told : goal.raise_inner-returns-clause-told
raise_inner-returns-clause-told b c =
    let deep = under c.args.depth (λ z. let other = c.if-depth-eq0.false in grind (arith, nat_tests)) in
    block-made c.args.source.now.body.in_method (given c.args.source.now) c.args.depth (c.args.depth - 1) c.args.types.now.items c.args.at deep
    c.args.program.now c.raise_statements.new.program c.put_block.new.program c.in_ok-numbers.numbers c.in-Ok.span c.in_ok-numbers.end
    c.in_ok-numbers.ensures.told (rw c.as_slice.ensures.value at c.in-Ok.ensures.adds)

pub raise_inner-returns-clause-types : goal.raise_inner-returns-clause-types
raise_inner-returns-clause-types b c =
    let n : c.len-slots.result ≡ length c.args.types.now.items = omega (arith, c.len-slots.ensures) in
    let (more, all) = c.in_ok-numbers.ensures.types in
    c.truncate.ensures.items ∙ ap (λ (k : ℕ). take k c.raise_statements.new.types.items) n
    ∙ shortened c.args.types.now.items more c.raise_statements.new.types.items all

pub raise_inner-returns-in_default-clause-grows : goal.raise_inner-returns-in_default-clause-grows
raise_inner-returns-in_default-clause-grows b c = extends-trans c.in_ok-numbers.ensures.grows c.in_default.ensures.grows

pub raise_inner-returns-clause-grows : goal.raise_inner-returns-clause-grows
raise_inner-returns-clause-grows b c = extends-trans c.in_ok-numbers.ensures.grows c.in-Ok.ensures.grows
