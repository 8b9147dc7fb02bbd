use Rattle.std.proofs.Common.{◌≡◌, ℕ, List, [], ◌∷◌, Option, Some, None, refl, ap, ◌∙◌, subst, get_or, inl}
use Rattle.std.proofs.lemmas.List.{get_or-set_same, get_or-set_other}
use Rattle.rg_base.proofs.Callers.Options.{none-is}
use Rattle.rg_regions.specs.Table.{Record, RegionTable, record_at, Chained}
use Rattle.rg_regions.proofs.Callers.Told.{record_there}
use Rattle.rg_regions.proofs.Callers.Chain.{chained_none, chained_some}
use Rattle.rg_move.specs.Inner.Freezes.{Freezing, IsReady}
use Rattle.rg_move.proofs.NextFrozen.{freezing_begin, ready_first, freezing_turn, cells_freeze, cells_stay}
use Rattle.rg_move.proofs.NextFrozen.{records_go, records_stay, grove_kept}
use Rattle.rg_move.proofs.freezing.freeze.Goals as goal
use Rattle.rg_move.proofs.freezing.freeze.Goals.{In-Some}

pub next-init : goal.next-init
next-init c =
    let old = c.args.regions.now in
    let key = c.args.key in
    let is = c.set_link.ensures.set in
    let own : get_or c.set_link.new.self.links key None ≡ None =
    ap (λ (z : RegionTable). get_or z.links key None) is
    ∙ get_or-set_same old.links key None None c.set_link.ensures.within in (
      key ∷ [],
      (refl, (λ n. n), own),
      freezing_begin c.args.cells.now old key c.set_link.new.self c.requires.closed (ap (λ
          (z : RegionTable). z.records) is)
          (ap (λ (z : RegionTable). z.next) is)
          (λ k d. ap (λ (z : RegionTable). get_or z.links k None) is ∙ get_or-set_other old.links key k None None d),
    )

-- the first key's record, the keys behind it, and what its freeze needs
first_ready : (c : In-Some) → (rec : Record) × (rest : List ℕ) × (record_at c.next.regions c.in-Some.first ≡ Some rec)
    × Freezing c.args.cells.now c.args.regions.now c.args.key c.next.cells c.next.regions (c.in-Some.first ∷ rest)
    × IsReady c.next.cells.heap c.next.regions c.in-Some.first rec rest
first_ready c =
    let i = c.next.invariant in
    let r = chained_some c.next.regions.links c.next.next c.in-Some.first i.0 c.in-Some.is i.1 in
    let C : Option ℕ → Type 0 = λ o. Chained c.next.regions.links o i.0 in
    let K : List ℕ → Type 0 = λ ks. Chained c.next.regions.links (Some c.in-Some.first) ks in
    let G : List ℕ → Type 0 = λ ks. Freezing c.args.cells.now c.args.regions.now c.args.key c.next.cells c.next.regions
    ks in
    let g = subst G r.1 i.2 in
    let v = g.left c.in-Some.first (inl refl) in
    let rec = record_there (record_at c.next.regions c.in-Some.first) v.0 v.1 in (
      rec.0,
      r.0,
      rec.1,
      g,
      ready_first c.args.cells.now c.args.regions.now c.args.key c.next.cells c.next.regions c.in-Some.first r.0
          c.requires.grove
          c.requires.closed g rec.0 rec.1 (subst K r.1 (subst C c.in-Some.is i.1)),
    )

pub freeze_first-next-requires : goal.freeze_first-next-requires
freeze_first-next-requires c =
    let f = first_ready (goal.at.freeze_first-next-requires c).In-Some in
    (f.0, f.1, f.4)

pub next-preserved : goal.next-preserved
next-preserved c =
    let f = first_ready (goal.at.next-preserved c).In-Some in
    let t = c.freeze_first-next.ensures.turned f.0 f.1 f.4 in
    let new = c.freeze_first-next.new in (
      t.1,
      t.2.chain,
      freezing_turn c.args.cells.now c.args.regions.now c.args.key c.next.cells c.next.regions c.in-Some.first f.1
          c.requires.grove
          c.requires.closed f.3 f.0 f.2 new.cells new.regions c.freeze_first-next.result t.1 t.0 t.2,
    )

-- no key is left
ended : (c : goal.In_default) → Freezing c.args.cells.now c.args.regions.now c.args.key c.next.cells c.next.regions []
ended c =
    let i = c.next.invariant in
    let none = chained_none c.next.regions.links c.next.next i.0 (none-is c.next.next c.in_default.not-Some) i.1 in
    let G : List ℕ → Type 0 = λ ks. Freezing c.args.cells.now c.args.regions.now c.args.key c.next.cells c.next.regions
    ks in
    subst G none i.2

pub returns-clause-frozen : goal.returns-clause-frozen
returns-clause-frozen c = cells_freeze c.args.cells.now c.args.regions.now c.args.key c.next.cells c.next.regions
    c.requires.grove (ended c)

pub returns-clause-removed : goal.returns-clause-removed
returns-clause-removed c = records_go c.args.cells.now c.args.regions.now c.args.key c.next.cells c.next.regions
    c.requires.grove (ended c)

pub returns-clause-cells : goal.returns-clause-cells
returns-clause-cells c = cells_stay c.args.cells.now c.args.regions.now c.args.key c.next.cells c.next.regions
    c.requires.grove (ended c)

pub returns-clause-regions : goal.returns-clause-regions
returns-clause-regions c = records_stay c.args.cells.now c.args.regions.now c.args.key c.next.cells c.next.regions
    c.requires.grove (ended c)

pub returns-clause-grove : goal.returns-clause-grove
returns-clause-grove c = grove_kept c.args.cells.now c.args.regions.now c.args.key c.next.cells c.next.regions
    c.requires.grove (ended c)
