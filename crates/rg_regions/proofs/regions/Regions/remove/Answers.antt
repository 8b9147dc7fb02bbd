use Rattle.std.proofs.Common.{◌≡◌, ap, ◌∙◌, subst, sym, OnSome, Option, Some, None, ℕ, option_map}
use Rattle.rg_regions.specs.declared.region.Region.{Region}
use Rattle.rg_regions.specs.Table.{Record, RegionTable, HasNumber, removed}
use Rattle.rg_regions.specs.Inner.Layout.{table_of, IsIndexed}
use Rattle.rg_regions.proofs.Written.{region_at}
use Rattle.rg_regions.proofs.Entries.{removed-is, indexed-removed, only-one}
use Rattle.rg_regions.proofs.regions.Regions.remove.Goals as goal

on-some : (o : Option Region) (r : Region) (P : Type 0) → o ≡ Some r → OnSome o P → P
on-some None r P e h = cc
on-some (Some x) r P e h = h

pub returns : goal.returns
returns c =
    let s = c.self.inside in
    let h = region_at s.records.slots s.next c.args.key c.args.self.now c.self.view_is c.requires in
    let slots = on-some c.try_remove.result h.0 _ (c.try_remove.ensures.value ∙ h.1) c.try_remove.ensures.slots in
    let is = ap (λ xs. table_of xs s.next) slots ∙ removed-is s.records.slots s.next c.args.key
    ∙ ap (λ (t : RegionTable). removed t c.args.key) c.self.view_is in
    let I : RegionTable → Type 0 = λ t. IsIndexed s.keys.entries t in
    let O : RegionTable → Type 0 = λ t. (k n : ℕ) → HasNumber c.args.self.now c.args.key n → HasNumber t k n → ⊥ in
    record {
      gone = is;
      only = subst O (sym is) (only-one s.keys.entries c.args.self.now c.args.key (subst I c.self.view_is c.self.invariant));
    }

pub invariant_of-self : goal.invariant_of-self
invariant_of-self c =
    let s = c.self.inside in
    let h = region_at s.records.slots s.next c.args.key c.args.self.now c.self.view_is c.requires in
    let slots = on-some c.try_remove.result h.0 _ (c.try_remove.ensures.value ∙ h.1) c.try_remove.ensures.slots in
    let is = ap (λ xs. table_of xs s.next) slots ∙ removed-is s.records.slots s.next c.args.key in
    let number = c.region.result.now.number in
    let I : RegionTable → Type 0 = λ t. IsIndexed c.swap_remove.new.self.entries t in
    let R : RegionTable → Type 0 = λ t. HasNumber t c.args.key number in
    let has = subst R (sym c.self.view_is) (ap (option_map (λ (r : Record). r.number)) c.region.ensures.is) in
    subst I (sym is)
    (indexed-removed s.keys.entries c.swap_remove.new.self.entries (table_of s.records.slots s.next) c.args.key number has
    c.swap_remove.ensures.updates.0 c.self.invariant)
