use Rattle.std.proofs.Common.{◌≡◌, ap, ◌∙◌, subst, sym, ℕ, option_map}
use Rattle.rg_regions.specs.Table.{Record, RegionTable, HasNumber}
use Rattle.rg_regions.specs.Inner.Layout.{table_of}
use Rattle.rg_regions.proofs.Entries.{indexed-last}
use Rattle.rg_regions.proofs.regions.Regions.cancel.Goals as goal

pub invariant_of-self : goal.invariant_of-self
invariant_of-self c =
    let s = c.self.inside in
    let n = c.requires.0.number in
    let h : HasNumber c.args.self.now c.args.key n = ap (option_map (λ (r : Record). r.number)) c.requires.1 in
    let O : RegionTable → Type 0 = λ t. (k : ℕ) → HasNumber t k n → ⊥ in
    let only = subst O (sym c.self.view_is) (λ k g. c.remove.ensures.only k n h g) in
    let next : s.next ≡ c.args.self.now.next = ap (λ (t : RegionTable). t.next) (c.self.view_is ∙ c.remove.ensures.gone) in
    indexed-last s.keys.entries (table_of s.records.slots s.next) n (c.requires.2 ∙ sym next) only c.self.invariant
