use Rattle.std.proofs.Common.{sym, ◌∙◌, arith}
use Rattle.std.proofs.lemmas.Option.{slice_get_within}
use Rattle.rg_tree.specs.Rows.RowTrees.{classes_of}
use Rattle.rg_typed.proofs.OneByOne.{value-missing, value-unfit, value-fit, method-passed, all-passed}
use Rattle.rg_typed.proofs.fields.fields_fit.Goals.{in-Field+in-Some+else-not-value_fits, in-Method}
use Rattle.rg_typed.proofs.fields.fields_fit.Goals as goal

pub returns-in_default : goal.returns-in_default
returns-in_default c =
    let t = c.args.book.now.program in
    sym (value-missing t (classes_of t) c.args.cells.now c.args.own c.args.these.now c.loop-k.k-index _ c.loop-k-test.true c.args.values.now
    c.loop-k.at _ c.in-Field.ensures.tree (sym c.in_default.ensures)) ∙ c.loop-k.invariant.rest

pub returns-then-not-value_fits : goal.returns-then-not-value_fits
returns-then-not-value_fits c =
    let t = c.args.book.now.program in
    let fails = sym c.if-not-value_fits.ensures in
    sym (value-unfit t (classes_of t) c.args.cells.now c.args.own c.args.these.now c.loop-k.k-index _ c.loop-k-test.true c.args.values.now
    c.loop-k.at _ c.in-Some.value c.in-Field.ensures.tree (sym c.in-Some.ensures) fails) ∙ c.loop-k.invariant.rest

pub overflow_add-at : goal.overflow_add-at
overflow_add-at c =
    omega (arith, slice_get_within c.args.values.now c.loop-k.at c.in-Some.value (sym c.in-Some.ensures), c.count_of-count.ensures, c.count_of-count.type_inv)

pub loop-k-preserved : goal.loop-k-preserved
loop-k-preserved c =
    let t = c.args.book.now.program in
    let values = c.args.values.now in
    elim c.match-member.branch [
      | in-Field+in-Some+else-not-value_fits w ↦
          let holds = sym w.if-not-value_fits.ensures in
          record {
            rest = rw w.at-is
                (sym (value-fit t (classes_of t) c.args.cells.now c.args.own c.args.these.now c.loop-k.k-index _ c.loop-k-test.true values
                c.loop-k.at _ w.in-Some.value w.in-Field.ensures.tree (sym w.in-Some.ensures) holds) ∙ c.loop-k.invariant.rest);
            within = rw w.at-is (omega (arith, slice_get_within values c.loop-k.at w.in-Some.value (sym w.in-Some.ensures)));
          }
      | in-Method w ↦ record {
        rest = rw w.at-is
            (sym (method-passed t (classes_of t) c.args.cells.now c.args.own c.args.these.now c.loop-k.k-index _ c.loop-k-test.true values
            c.loop-k.at _ w.in-Method.ensures.tree) ∙ c.loop-k.invariant.rest);
        within = rw w.at-is c.loop-k.invariant.within;
      }
    ]

pub returns : goal.returns
returns c =
    let t = c.args.book.now.program in
    let all = all-passed t (classes_of t) c.args.cells.now c.args.own c.args.these.now c.loop-k.k-index c.args.values.now c.loop-k.at
    c.loop-k-test.false c.loop-k.invariant.within in
    rw c.count_of-count.ensures (sym all ∙ c.loop-k.invariant.rest)
