use Rattle.std.proofs.Common.{ℕ, Option, subst}
use Rattle.rg_base.proofs.Callers.Options.{none-is}
use Rattle.rg_regions.specs.Table.{Chained}
use Rattle.rg_regions.proofs.Callers.Chain.{chained_none}
use Rattle.rg_heap.proofs.Ended.{gone_none}
use Rattle.rg_heap.proofs.ending.release_all.Goals as goal

pub returns-in_default-clause-gone : goal.returns-in_default-clause-gone
returns-in_default-clause-gone c = λ keys chain.
    let t = c.args.regions.now in
    gone_none c.args.cells.now t keys (chained_none t.links c.args.head keys (none-is c.args.head c.in_default.not-Some) chain)

pub returns-clause-gone : goal.returns-clause-gone
returns-clause-gone c = λ keys chain.
    let C : Option ℕ → Type 0 = λ o. Chained c.args.regions.now.links o keys in
    let x = subst C c.in-Some.is chain in
    let r = c.release.ensures in
    record {
      freed = r.freed keys x;
      removed = r.removed keys x;
      stay = r.cells keys x;
      records = λ k n. (r.regions keys x k n).0;
      serials = r.serials;
      high = r.high;
      numbers = r.numbers;
    }
