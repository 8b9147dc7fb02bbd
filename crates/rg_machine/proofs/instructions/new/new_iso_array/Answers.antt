use Rattle.std.proofs.Common.{[], slice_get, subst, sym, unwrap_or}
use Rattle.rg_machine.specs.Cores.{core_of}
use Rattle.rg_machine.specs.Inner.Arrays.{Sizes}
use Rattle.rg_machine.proofs.New.Array.{iso_array, iso-acts, words-plain}
use Rattle.rg_machine.proofs.instructions.new.new_iso_array.Goals as goal

pub returns-in-Err : goal.returns-in-Err
returns-in-Err c at = c.in-Err.ensures.err (iso_array (unwrap_or (slice_get c.args.code.now.openings c.args.class) []) c.args.class c.args.manager) at

pub make_region-made-requires : goal.make_region-made-requires
make_region-made-requires c =
    rw c.deref.ensures.value
    (words-plain c.args.code.now c.args.class (core_of c.args.p.now) (core_of c.elements.new.p) c.in-Ok.words.items c.in-Ok.ensures.ok c.requires.given)

pub returns : goal.returns
returns c at =
    let opening = unwrap_or (slice_get c.args.code.now.openings c.args.class) [] in
    let sizes = subst (Sizes (core_of c.args.p.now) (core_of c.elements.new.p) opening) (sym c.deref.ensures.value) c.in-Ok.ensures.ok in
    rw (c.behind.ensures, c.keep_words.ensures)
    (iso-acts at c.args.p.now c.elements.new.p c.make_region-made.new.self opening
    c.deref.result.now sizes c.elements.ensures.same c.make_region-made.result c.make_region-made.ensures.err c.make_region-made.ensures.high c.args.class c.args.manager
    c.make_region-made.ensures.ok)
