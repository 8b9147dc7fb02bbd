use Rattle.std.proofs.Common.{[], slice_get, subst, sym, unwrap_or}
use Rattle.rg_machine.specs.Cores.{core_of}
use Rattle.rg_machine.specs.Inner.Arrays.{Sizes}
use Rattle.rg_machine.proofs.New.Array.{plain_array, plain-acts, words-plain}
use Rattle.rg_machine.proofs.instructions.new.new_array.Goals as goal

pub returns-in-Err : goal.returns-in-Err
returns-in-Err c at = c.in-Err.ensures.err (plain_array (unwrap_or (slice_get c.args.code.now.openings c.args.class) []) c.args.class) at

pub make-made-requires : goal.make-made-requires
make-made-requires c =
    rw c.deref.ensures.value
    (words-plain c.args.code.now c.args.class (core_of c.args.p.now) (core_of c.elements.new.p) c.in-Ok.words.items c.in-Ok.ensures.ok c.requires.given)

pub returns : goal.returns
returns c at =
    let opening = unwrap_or (slice_get c.args.code.now.openings c.args.class) [] in
    let sizes = subst (Sizes (core_of c.args.p.now) (core_of c.elements.new.p) opening) (sym c.deref.ensures.value) c.in-Ok.ensures.ok in
    rw (c.behind.ensures, c.keep_words.ensures)
    (plain-acts at c.args.p.now c.elements.new.p c.make-made.new.self opening
    c.deref.result.now sizes c.elements.ensures.same c.make-made.result c.make-made.ensures.err c.make-made.ensures.high c.args.class
    c.make-made.ensures.ok)
