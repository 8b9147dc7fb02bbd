use Rattle.std.proofs.Common.{◌≡◌, ◌-◌, suc, Some, ap, sym, ◌∙◌, arith}
use Rattle.std.proofs.lemmas.Option.{slice_get-get_or}
use Rattle.rg_frames.proofs.Raising.{raising-init, raising-on, raising-done}
use Rattle.rg_frames.proofs.frames.raise.Goals as goal

pub raise-init : goal.raise-init
raise-init c = (raising-init _ _ _ _ (grind (arith, c.len-k.ensures)), grind arith)

pub raise-preserved : goal.raise-preserved
raise-preserved c =
    let h = c.raise.invariant.0 in
    let is : c.raise.k ≡ suc (c.raise.k - 1) = omega (arith, c.raise-test.true) in (
      raising-on _ _ _ _ _ _ _ _ _ h is
          (slice_get-get_or c.raise.rows.items (c.raise.k - 1) c.index-row.result.now (omega (arith, is, h.within)) ∙ ap Some (sym c.index-row.ensures))
          c.above.ensures.least c.above.ensures.within c.above.ensures.past,
      c.raise.invariant.1,
    )

pub returns-clause-nil : goal.returns-clause-nil
returns-clause-nil c = raising-done _ _ _ _ _ _ c.raise.invariant.0 (omega (arith, c.raise-test.false))
