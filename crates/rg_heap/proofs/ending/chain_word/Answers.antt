use Rattle.std.proofs.Common.{ℕ, inr, refl, subst, sym, ◌∙◌}
use Rattle.rg_base.proofs.Callers.Labels.{slot-same}
use Rattle.rg_regions.specs.Reach.{LiesIn}
use Rattle.rg_heap.proofs.OwnedChained.{not_closed}
use Rattle.rg_heap.proofs.ending.chain_word.Goals as goal

pub returns-then-is_open : goal.returns-then-is_open
returns-then-is_open c =
    let h = c.args.cells.now.heap in
    let t = c.args.regions.now in
    let a = c.in-Some.ensures.some in
    inr (record {
      none = λ q to e l i.
          let s = slot-same to c.in-Slot.to (sym e ∙ c.in-Slot.is) in
          let L : ℕ → Type 0 = λ z. LiesIn h q z in
          not_closed h t c.args.frames.now c.in-Some.key a.0 c.in-Slot.to q c.requires.keys a.1 a.2 (sym c.is_open.ensures ∙ c.if-is_open.true)
          (subst L s l) i;
      head_is = refl;
      same = refl;
    })
