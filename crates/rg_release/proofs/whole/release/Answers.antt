use Rattle.std.proofs.Common.{ℕ, List, Option, Some, subst, []}
use Rattle.rg_base.proofs.Callers.Options.{none-is}
use Rattle.rg_regions.specs.Table.{Chained}
use Rattle.rg_regions.proofs.Callers.Chain.{chained_one, chained_none, chained_some}
use Rattle.rg_release.specs.Released.{Unowned}
use Rattle.rg_release.specs.Inner.Turns.{Releasing}
use Rattle.rg_release.proofs.AllReleased.{releasing_turn, cells_go, records_go}
use Rattle.rg_release.proofs.whole.release.Goals as goal

pub release_first-next-requires-clause-unowned : goal.release_first-next-requires-clause-unowned
release_first-next-requires-clause-unowned c =
    let i = c.next.invariant c.requires.unowned.0 c.requires.unowned.1 c.requires.unowned.2 in
    let r = chained_some c.next.regions.links c.next.next c.in-Some.key i.0 c.in-Some.is i.1 in
    let C : Option ℕ → Type 0 = λ o. Chained c.next.regions.links o i.0 in
    let K : List ℕ → Type 0 = λ ks. Chained c.next.regions.links (Some c.in-Some.key) ks in
    let U : List ℕ → Type 0 = λ ks. Unowned c.next.cells.heap c.next.regions ks in
    (r.0, subst K r.1 (subst C c.in-Some.is i.1), subst U r.1 i.2.unowned)

pub next-preserved : goal.next-preserved
next-preserved c = λ tops chain unowned.
    let i = c.next.invariant tops chain unowned in
    let r = chained_some c.next.regions.links c.next.next c.in-Some.key i.0 c.in-Some.is i.1 in
    let C : Option ℕ → Type 0 = λ o. Chained c.next.regions.links o i.0 in
    let K : List ℕ → Type 0 = λ ks. Chained c.next.regions.links (Some c.in-Some.key) ks in
    let G : List ℕ → Type 0 = λ ks. Releasing c.args.cells.now c.args.regions.now tops c.next.cells c.next.regions ks in
    let g = subst G r.1 i.2 in
    let t = c.release_first-next.ensures.turned r.0 (subst K r.1 (subst C c.in-Some.is i.1)) g.unowned in
    let new = c.release_first-next.new in (
      t.2,
      t.3,
      releasing_turn c.args.cells.now c.args.regions.now tops c.next.cells c.next.regions c.in-Some.key t.0 r.0
          new.cells new.regions t.2 t.1 t.4 g c.release_first-next.ensures.count,
    )

-- no key is left
ended : (c : goal.After-count) (keys : List ℕ) → Chained c.args.regions.now.links (Some c.args.head) keys
    → Releasing c.args.cells.now c.args.regions.now keys c.next.cells c.next.regions []
ended c keys chain =
    let old = c.args.regions.now in
    let U : List ℕ → Type 0 = λ ks. Unowned c.args.cells.now.heap old ks in
    let same = chained_one old.links (Some c.args.head) c.requires.unowned.0 keys c.requires.unowned.1 chain in
    let i = c.next.invariant keys chain (subst U same c.requires.unowned.2) in
    let none = chained_none c.next.regions.links c.next.next i.0 (none-is c.next.next c.in_default.not-Some) i.1 in
    let G : List ℕ → Type 0 = λ ks. Releasing c.args.cells.now old keys c.next.cells c.next.regions ks in
    subst G none i.2

pub returns-clause-freed : goal.returns-clause-freed
returns-clause-freed c = λ keys chain. cells_go c.args.cells.now c.args.regions.now keys c.next.cells c.next.regions (ended c keys chain)

pub returns-clause-removed : goal.returns-clause-removed
returns-clause-removed c = λ keys chain. records_go c.args.cells.now c.args.regions.now keys c.next.cells c.next.regions (ended c keys chain)

pub returns-clause-cells : goal.returns-clause-cells
returns-clause-cells c = λ keys chain. (ended c keys chain).others

pub returns-clause-regions : goal.returns-clause-regions
returns-clause-regions c = λ keys chain. (ended c keys chain).stay
