use Rattle.std.proofs.Common.{◌≡◌, ◌∷◌, ℕ, ap, ◌∙◌, inl, inr, subst, arith}
use Rattle.rg_regions.specs.Table.{RegionTable}
use Rattle.rg_heap.specs.Inner.Chains.{ChainsFields}
use Rattle.rg_heap.proofs.OwnedChained.{chains_put, chains_none}
use Rattle.rg_heap.proofs.ending.chain_fields.Goals as goal

pub loop-k-preserved : goal.loop-k-preserved
loop-k-preserved c =
    let h = c.args.cells.now.heap in
    let v = c.args.frames.now in
    let now = c.loop-k.regions in
    let new = c.chain_word-head.new.regions in
    let k = c.loop-k.k in
    let w = c.field-w.result in
    record {
      records = elim c.chain_word-head.ensures [
        | inl p ↦ ap (λ (z : RegionTable). z.records) p.links ∙ c.loop-k.invariant.records
        | inr p ↦ ap (λ (z : RegionTable). z.records) p.same ∙ c.loop-k.invariant.records
      ];
      chains = λ t slots i keys once stands chains.
          let m = c.loop-k.invariant.chains t slots i keys once stands chains in
          elim c.chain_word-head.ensures [
            | inl p ↦ (
              p.key ∷ m.0,
              chains_put h t v slots i k c.args.slot now new c.loop-k.head c.chain_word-head.result m.0 w once stands
                  c.field-w.ensures m.1 p,
            )
            | inr p ↦ (
              m.0,
              chains_none h t v slots i k c.args.slot now new c.loop-k.head c.chain_word-head.result m.0 w stands c.field-w.ensures
                  m.1 p,
            )
          ];
    }

pub returns-clause-chains : goal.returns-clause-chains
returns-clause-chains c =
    let at_end = c.loop-k-test.false in
    let le = c.loop-k.auto.k-end in
    let e : c.loop-k.k ≡ c.field_count-k-end.result = omega (arith, at_end, le) in
    let P : ℕ → Type 0 = λ k. ChainsFields c.args.cells.now.heap c.args.frames.now c.args.slot k c.args.regions.now c.args.head c.loop-k.regions
    c.loop-k.head in
    subst P (e ∙ c.field_count-k-end.ensures) c.loop-k.invariant.chains
