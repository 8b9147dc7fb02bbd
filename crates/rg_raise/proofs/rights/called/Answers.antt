use Rattle.std.proofs.Common.{sym, ap, ◌∙◌, List, ℕ, map, subst}
use Rattle.rg_verify_expressions.specs.Raised.{named}
use Rattle.rg_verify_expressions.specs.Blocks.{cleared}
use Rattle.rg_raise.specs.Fronts.{AreTrees}
use Rattle.rg_raise.specs.Telling.{given}
use Rattle.rg_raise.proofs.Telling.{called-uncleared, called-nothing, called-nobody, called-made}
use Rattle.rg_raise.proofs.rights.called.Goals as goal

pub returns-in_default-clause-told : goal.returns-in_default-clause-told
returns-in_default-clause-told c s ks rs path args =
    let clears = rw c.code.ensures at c.in_default.ensures in
    let types = c.args.types.now.items in
    let same = ap (λ (ss : List ℕ). cleared c.args.source.now.parts.now.code.ops ss c.args.at) (args.spans types) in
    called-uncleared (given c.args.source.now) types s ks rs c.args.at (sym (clears ∙ same))

pub returns-in_default-call_at-clause-told : goal.returns-in_default-call_at-clause-told
returns-in_default-call_at-clause-told c s ks rs path args =
    let clears = rw c.code.ensures at c.in-Some.ensures in
    let call = rw c.code-2.ensures at c.in_default-call_at.ensures.told in
    let types = c.args.types.now.items in
    let same = ap (λ (ss : List ℕ). cleared c.args.source.now.parts.now.code.ops ss c.args.at) (args.spans types) in
    called-nothing (given c.args.source.now) types s ks rs c.args.at c.in-Some.behind (sym (clears ∙ same)) (sym call)

pub returns-in_default-callee_of-clause-told : goal.returns-in_default-callee_of-clause-told
returns-in_default-callee_of-clause-told c s ks rs path args =
    let clears = rw c.code.ensures at c.in-Some.ensures in
    let call = rw c.code-2.ensures at c.in-Some-call_at.ensures.told in
    let types = c.args.types.now.items in
    let same = ap (λ (ss : List ℕ). cleared c.args.source.now.parts.now.code.ops ss c.args.at) (args.spans types) in
    called-nobody (given c.args.source.now) types s ks rs c.args.at c.in-Some.behind (sym (clears ∙ same))
    c.in-Some-call_at.method (sym call) (sym c.in_default-callee_of.ensures)

pub returns-clause-told : goal.returns-clause-told
returns-clause-told c s ks rs path args =
    let t = c.args.program.now in
    let m = c.args.source.now.body.in_method in
    let clears = rw c.code.ensures at c.in-Some.ensures in
    let call = rw c.code-2.ensures at c.in-Some-call_at.ensures.told in
    let types = c.args.types.now.items in
    let same = ap (λ (ss : List ℕ). cleared c.args.source.now.parts.now.code.ops ss c.args.at) (args.spans types) in
    let trees : AreTrees t c.as_slice.result.now (map (named m) rs) =
    subst (λ (ns : List ℕ). AreTrees t ns (map (named m) rs)) (sym c.as_slice.ensures.value) args.trees in
    called-made (given c.args.source.now) types s ks rs c.args.at c.in-Some.behind (sym (clears ∙ same))
    c.in-Some-call_at.method (sym call) t c.call_row.new.program m c.in-Some-callee_of.callee c.args.path c.as_slice.result.now c.in-Ok.row
    (sym c.in-Some-callee_of.ensures) path trees c.in-Ok.ensures.adds
