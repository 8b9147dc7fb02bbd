use Rattle.std.proofs.Common.{◌∙◌, arith, inl, inr}
use Rattle.std.proofs.lemmas.Result.{err_from_is_err_and}
use Rattle.rg_loaded.proofs.Shown.{content-is}
use Rattle.rg_loaded.proofs.carrying.loaded_and_unloaded.Goals as goal

pub unload-requires-clause-bridge : goal.unload-requires-clause-bridge
unload-requires-clause-bridge c =
    (c.args.regions.now.next, (λ z. let some = c.requires.later in omega (arith, z, some)), c.in_ok-bridge.ensures.bridge)

pub returns-clause-same : goal.returns-clause-same
returns-clause-same c =
    c.in_ok-cargo.ensures.cargo
    ∙ content-is c.args.cargo.now c.in_ok-bridge.bridge c.args.cells.now c.load.new.cells c.args.regions.now c.load.new.regions
    c.requires.sound c.in_ok-bridge.ensures.loaded c.in_ok-bridge.ensures.grove

pub returns-clause-came : goal.returns-clause-came
returns-clause-came c = (c.in_ok-bridge.bridge, c.in_ok-bridge.ensures.loaded)

pub returns-in_err-bridge-clause-refused : goal.returns-in_err-bridge-clause-refused
returns-in_err-bridge-clause-refused c =
    let p = err_from_is_err_and c.from_residual.result c.from_residual.ensures.1 in
    rw p.1 (inl (c.in_err-bridge.ensures.cells, c.in_err-bridge.ensures.regions))

pub returns-in_err-cargo-clause-refused : goal.returns-in_err-cargo-clause-refused
returns-in_err-cargo-clause-refused c =
    let p = err_from_is_err_and c.from_residual-in_err-cargo.result c.from_residual-in_err-cargo.ensures.1 in
    rw p.1 (inr (c.in_ok-bridge.bridge, c.in_ok-bridge.ensures.loaded))
