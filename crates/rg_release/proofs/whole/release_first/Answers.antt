use Rattle.std.proofs.Common.{◌≡◌, ℕ, ◌+◌, List, length, Option, get_or, ap, sym, ◌∙◌, subst, arith, count_by, is_some}
use Rattle.rg_base.specs.declared.object.Label.TheVariants.{Region}
use Rattle.rg_regions.specs.Table.{Record, RegionTable, record_at, Chained}
use Rattle.rg_regions.specs.Chains.{OwnsOnce}
use Rattle.rg_regions.proofs.Callers.Told.{record_there, labelled_held, led_held, owns_once, members_read, same_record}
use Rattle.rg_regions.specs.Owned.{Every, ChainsOwned}
use Rattle.rg_regions.specs.Same.{AllHeld, AllDiffer}
use Rattle.rg_release.specs.Inner.Turns.{FreedFirst}
use Rattle.rg_regions.proofs.Callers.Removed.{count-removed}
use Rattle.rg_release.proofs.OneReleased.{owns_none, chain_made, turn_made}
use Rattle.rg_release.proofs.whole.release_first.Goals as goal

pub chain_owned-next-requires-clause-there : goal.chain_owned-next-requires-clause-there
chain_owned-next-requires-clause-there c =
    let a = record_there (record_at c.args.regions.now c.args.key) c.number-region.result c.number-region.ensures in
    let O : ℕ → Type 0 = λ n. OwnsOnce c.args.cells.now.heap n a.0.members in
    (a.0, a.1, subst O a.2 (owns_once c.args.cells.now c.args.regions.now c.args.key a.0 c.requires.grove a.1))

pub chain_owned-next-requires-clause-lead : goal.chain_owned-next-requires-clause-lead
chain_owned-next-requires-clause-lead c = λ p k s l f. led_held c.args.cells.now c.args.regions.now c.requires.grove c.number-region.result p k s
    l f

pub free_members-requires-clause-held : goal.free_members-requires-clause-held
free_members-requires-clause-held c =
    let h = c.args.cells.now.heap in
    let old = c.args.regions.now in
    let a = record_there (record_at old c.args.key) c.number-region.result c.number-region.ensures in
    let s = c.chain_owned-next.ensures a.0 a.1 in
    let mem = members_read old c.chain_owned-next.new.regions c.args.key a.0 c.members.result.now s.records a.1 c.members.ensures in
    let o = owns_once c.args.cells.now old c.args.key a.0 c.requires.grove a.1 in
    let H : List ℕ → Type 0 = λ z. AllHeld h z in
    subst H mem (λ j l. labelled_held h (get_or a.0.members j 0) (Region a.0.number) (o.lie j l))

pub free_members-requires-clause-once : goal.free_members-requires-clause-once
free_members-requires-clause-once c =
    let old = c.args.regions.now in
    let a = record_there (record_at old c.args.key) c.number-region.result c.number-region.ensures in
    let s = c.chain_owned-next.ensures a.0 a.1 in
    let mem = members_read old c.chain_owned-next.new.regions c.args.key a.0 c.members.result.now s.records a.1 c.members.ensures in
    let o = owns_once c.args.cells.now old c.args.key a.0 c.requires.grove a.1 in
    let H : List ℕ → Type 0 = λ z. AllDiffer z in
    subst H mem (λ i j l n q. let z : i ≡ j = o.once i j (omega arith) n q in omega (arith, z, l))

pub returns-clause-turned : goal.returns-clause-turned
returns-clause-turned c = λ rest chain unowned.
    let h = c.args.cells.now.heap in
    let old = c.args.regions.now in
    let mid = c.chain_owned-next.new.regions in
    let head = c.chain_owned-next.result in
    let cells = c.free_members.new.cells in
    let a = record_there (record_at old c.args.key) c.number-region.result c.number-region.ensures in
    let s = c.chain_owned-next.ensures a.0 a.1 in
    let mem = members_read old mid c.args.key a.0 c.members.result.now s.records a.1 c.members.ensures in
    let C : Option ℕ → Type 0 = λ o. Chained old.links o rest in
    let k = s.next rest (owns_none h old c.args.key c.number-region.result rest unowned) (subst C (sym c.link-rest.ensures) chain.2) in
    let O : ℕ → Type 0 = λ n. ChainsOwned h Every n a.0.members rest old (length a.0.members) 0 mid head in
    let own = subst O (sym a.2) k in
    let F : List ℕ → Type 0 = λ z. FreedFirst c.args.cells.now z (length z) cells in
    let freed = subst F (sym mem) c.free_members.ensures in
    let gone = c.remove.ensures.gone in (
      a.0,
      a.1,
      own.0,
      chain_made c.args.cells.now old c.args.key a.0 rest mid head cells c.remove.new.self own.0 c.requires.grove a.1 chain.1 own.1 freed gone,
      turn_made c.args.cells.now old c.args.key a.0 rest mid head cells c.remove.new.self own.0 c.requires.grove a.1 chain.1 own.1 freed gone,
    )

pub returns-clause-count : goal.returns-clause-count
returns-clause-count c =
    let old = c.args.regions.now in
    let mid = c.chain_owned-next.new.regions in
    let a = record_there (record_at old c.args.key) c.number-region.result c.number-region.ensures in
    let s = c.chain_owned-next.ensures a.0 a.1 in
    let at = same_record old mid c.args.key a.0 s.records a.1 in
    ap (λ (z : RegionTable). count_by is_some z.records + 1) c.remove.ensures.gone
    ∙ count-removed mid.records c.args.key a.0 at
    ∙ ap (λ (rs : List (Option Record)). count_by is_some rs) s.records
