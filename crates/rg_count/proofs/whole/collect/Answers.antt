use Rattle.std.proofs.Common.{◌≡◌, ℕ, ◌+◌, ◌≤◌, sum_by, List, length, Option, Some, None, get_or, ap, sym, ◌∙◌, subst}
use Rattle.std.proofs.Common.{arith, refl}
use Rattle.std.proofs.lemmas.Option.{same_Some}
use Rattle.rg_cells.specs.Table.{body_at, width, mark_at}
use Rattle.rg_regions.specs.Table.{Record, record_at}
use Rattle.rg_regions.specs.Reach.{LiesIn, Roots}
use Rattle.rg_regions.specs.Grove.{Members, referrers}
use Rattle.rg_regions.specs.Chains.{LeadsOnce}
use Rattle.rg_regions.specs.Spent.{Spent}
use Rattle.rg_regions.specs.Collection.{ChainsOrphans, region_fields}
use Rattle.rg_regions.proofs.Callers.Told.{lies_held}
use Rattle.rg_regions.proofs.Callers.Told.{same_members, same_number, same_bridge}
use Rattle.rg_regions.proofs.Callers.Told.{owns_once, led_held}
use Rattle.rg_count.specs.Inner.Counting.{CountedDown}
use Rattle.rg_count.specs.Counted.{Counted}
use Rattle.rg_count.proofs.SpentInTurn.{done-fields}
use Rattle.rg_count.proofs.PartsJoined.{swept-begin, counted, orphaning}
use Rattle.rg_count.proofs.GroveKept.{grove-kept}
use Rattle.rg_count.proofs.whole.collect.Goals as goal

pub count_down-orphans-requires : goal.count_down-orphans-requires
count_down-orphans-requires g c =
    let rec = c.requires.count.0 in
    let e = c.requires.count.1 in
    let h = c.args.cells.now.heap in
    let num : rec.number ≡ c.number-region.result =
    same_number _ rec c.number-region.result e c.number-region.ensures in
    let bri : rec.bridge ≡ c.bridge-bridge.result =
    same_bridge _ rec c.bridge-bridge.result e c.bridge-bridge.ensures in
    let M : ℕ → Type 0 = λ n. Members h n rec.members in
    let C : ℕ → Type 0 = λ n. (s : ℕ) → LiesIn h n s → mark_at c.args.cells.now s ≡ referrers h n s in
    let O : ℕ → Type 0 = λ n. LeadsOnce h n in
    record {
      there = (rec, e, subst M num (c.requires.grove.members c.args.key rec e));
      counts = subst C num (λ s l. c.requires.grove.counts c.args.key s rec e c.requires.count.2 l);
      one = subst O num (owns_once c.args.cells.now c.args.regions.now c.args.key rec c.requires.grove e).one;
      lead = λ p k s l f. led_held c.args.cells.now c.args.regions.now c.requires.grove c.number-region.result p k s l
          f;
      labels = λ q s l. c.requires.grove.labels q s l;
      bridge = λ s q. lies_held h rec.number s (c.requires.grove.bridges c.args.key s rec e (bri ∙ q));
      slots = c.requires.slots;
      temps = c.requires.temps;
      temps_lead = c.requires.temps_lead;
    }

pub sweep-requires : goal.sweep-requires
sweep-requires g c =
    let rec = c.requires.count.0 in
    let e = c.requires.count.1 in
    let d = c.count_down-orphans.ensures in (
      rec,
      ap (λ (rs : List (Option Record)). get_or rs c.args.key None) d.owned.1.records ∙ e,
      swept-begin c.args.cells.now c.count_down-orphans.new.cells c.args.regions.now c.args.key rec c.requires.grove e
          d.counts.heap,
    )

pub left-requires : goal.left-requires
left-requires g c =
    let rec = c.requires.count.0 in
    let e = c.requires.count.1 in
    let d = c.count_down-orphans.ensures in
    let f : record_at c.count_down-orphans.new.regions c.args.key ≡ Some rec =
    ap (λ (rs : List (Option Record)). get_or rs c.args.key None) d.owned.1.records ∙ e in
    let w = c.sweep.ensures.left rec f in
    rw w.1 refl

pub returns : goal.returns
returns g c =
    let rec = c.requires.count.0 in
    let e = c.requires.count.1 in
    let old = c.args.cells.now in
    let h = old.heap in
    let num : rec.number ≡ c.number-region.result =
    same_number _ rec c.number-region.result e c.number-region.ensures in
    let bri : rec.bridge ≡ c.bridge-bridge.result =
    same_bridge _ rec c.bridge-bridge.result e c.bridge-bridge.ensures in
    let start : ℕ = c.args.steps.now + sum_by (λ t. width (body_at h t)) c.args.temps.now in
    let N : ℕ → Type 0 = λ n. CountedDown h n (record {
      bridge = c.bridge-bridge.result;
      slots = c.args.slots.now;
      temps = c.args.temps.now;
    }) old c.args.regions.now start c.count_down-orphans.new.cells
    c.count_down-orphans.new.regions c.count_down-orphans.result c.count_down-orphans.new.steps in
    let B : Option ℕ → Type 0 = λ b.
    CountedDown h rec.number (record { bridge = b; slots = c.args.slots.now; temps = c.args.temps.now }) old
    c.args.regions.now start c.count_down-orphans.new.cells c.count_down-orphans.new.regions
    c.count_down-orphans.result c.count_down-orphans.new.steps in
    let d = subst B (sym bri) (subst N (sym num) c.count_down-orphans.ensures) in
    let roots : Roots = record { bridge = rec.bridge; slots = c.args.slots.now; temps = c.args.temps.now } in
    let whole = counted old c.count_down-orphans.new.cells c.args.regions.now c.count_down-orphans.new.regions
    c.args.key rec roots old d.done c.sweep.new.cells c.sweep.new.regions refl e d.counts d.owned.1.records
    d.owned.1.next c.sweep.ensures in
    let o = orphaning old c.count_down-orphans.new.cells c.args.regions.now c.count_down-orphans.new.regions rec.number
    roots old d.done c.count_down-orphans.result d.counts d.owned in
    let K : List (Option ℕ) → Type 0 =
    λ ls. ChainsOrphans h c.args.regions.now rec.number (Spent h rec.number roots) ls c.count_down-orphans.result in
    let C : Record → Type 0 = λ r.
    Counted old c.args.regions.now c.args.key r
    (record { bridge = r.bridge; slots = c.args.slots.now; temps = c.args.temps.now }) c.sweep.new.cells
    c.sweep.new.regions in
    let O : Record → Type 0 = λ r.
    ChainsOrphans h c.args.regions.now r.number
    (Spent h r.number (record { bridge = r.bridge; slots = c.args.slots.now; temps = c.args.temps.now }))
    c.sweep.new.regions.links c.count_down-orphans.result in
    let Q : Record → Type 0 = λ r.
    c.count_down-orphans.new.steps ≤ c.args.steps.now + sum_by (λ t. width (body_at h t)) c.args.temps.now
    + region_fields h r.number in
    let most : Q rec = omega (arith, d.cost, done-fields h rec.number roots d.done d.counts.spends) in
    record {
      grove = grove-kept old c.args.regions.now c.args.key rec c.args.slots.now c.args.temps.now c.sweep.new.cells
          c.sweep.new.regions c.requires.grove e c.requires.count.2 whole;
      counted = λ r f. subst C (same_Some rec r (sym e ∙ f)) whole;
      orphans = λ r f. rw c.left.ensures.orphans (subst O (same_Some rec r (sym e ∙ f)) (subst K (sym c.sweep.ensures.links) o));
      cost = λ r f. subst Q (same_Some rec r (sym e ∙ f)) most;
      kept = c.left.ensures.kept;
    }
