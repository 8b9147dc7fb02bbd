use Rattle.std.proofs.Common.{◌≡◌, ◌≢◌, ℕ, ◌+◌, ◌≤◌, sum_by, List, length, Option, Some, None, get_or, ap, sym, ◌∙◌}
use Rattle.std.proofs.Common.{subst, arith, refl}
use Rattle.std.proofs.lemmas.Option.{same_Some}
use Rattle.rg_cells.specs.Table.{Heap, field_at, body_at, width, IsHeld, mark_at}
use Rattle.rg_base.specs.declared.value.Word.TheVariants.{Slot}
use Rattle.rg_regions.specs.Table.{Record, record_at, InTable}
use Rattle.rg_regions.specs.Reach.{LiesIn, Roots}
use Rattle.rg_trace.specs.Marking.{Marked, black_fields}
use Rattle.rg_trace.specs.Orphans.{FollowsWhite, if_white}
use Rattle.rg_regions.specs.Collection.{ChainsOrphans, region_fields}
use Rattle.rg_trace.specs.Collected.{Collected}
use Rattle.rg_regions.specs.Reach.{OutOfReach}
use Rattle.rg_trace.proofs.PartsJoined.{all-white, swept-begin, not-grey, collected, orphaning}
use Rattle.rg_trace.proofs.GroveKept.{grove-kept}
use Rattle.rg_trace.proofs.StepsBound.{ticks}
use Rattle.rg_trace.proofs.whole.collect.Given.{Over}
use Rattle.rg_trace.proofs.whole.collect.Goals as goal
use Rattle.rg_trace.proofs.whole.collect.Goals.{After-bridge-bridge}
use Rattle.rg_regions.proofs.Callers.Told.{same_members, same_told, led_held, owns_once}
use Rattle.rg_regions.proofs.Callers.Told.{lies_held}
use Rattle.rg_regions.specs.Chains.{OwnsOnce}

-- the number and the bridge that were read are the record's
told : (g : Over) (c : After-bridge-bridge g)
    → (c.requires.trace.0.number ≡ c.number-region.result) × (c.requires.trace.0.bridge ≡ c.bridge-bridge.result)
told g c = same_told _ c.requires.trace.0 c.number-region.result c.bridge-bridge.result c.requires.trace.1
    c.number-region.ensures c.bridge-bridge.ensures

pub mark_region-requires : goal.mark_region-requires
mark_region-requires g c =
    let rec = c.requires.trace.0 in
    let e = c.requires.trace.1 in
    let w = told g (goal.at.mark_region-requires g c).After-bridge-bridge in
    let W : ℕ → Type 0 = λ n. (s : ℕ) → LiesIn c.args.cells.now.heap n s → mark_at c.args.cells.now s ≡ 0 in
    record {
      white = subst W w.0 (all-white c.args.cells.now c.args.regions.now c.args.key rec c.requires.grove e
          c.requires.trace.2);
      lead = λ p k s l f. led_held c.args.cells.now c.args.regions.now c.requires.grove c.number-region.result p k s l
          f;
      bridge = λ s q. lies_held c.args.cells.now.heap rec.number s
          (c.requires.grove.bridges c.args.key s rec e (w.1 ∙ q));
      slots = c.requires.slots;
      temps = c.requires.temps;
      temps_lead = c.requires.temps_lead;
    }

pub chain_orphans-orphans-requires : goal.chain_orphans-orphans-requires
chain_orphans-orphans-requires g c =
    let rec = c.requires.trace.0 in
    let e = c.requires.trace.1 in
    let num = (told g (goal.at.chain_orphans-orphans-requires g c).After-bridge-bridge).0 in
    let h : c.mark_region.new.cells.heap ≡ c.args.cells.now.heap = c.mark_region.ensures.marked.heap in
    let O : ℕ → Type 0 = λ n. OwnsOnce c.args.cells.now.heap n rec.members in
    let P : Heap → Type 0 = λ z. OwnsOnce z c.number-region.result rec.members in
    let L : Heap → Type 0 = λ z. (p k s : ℕ) → LiesIn z c.number-region.result p → field_at z p k ≡ Some (Slot s)
    → IsHeld z s in
    let T : Heap → Type 0 = λ z. (q s : ℕ) → LiesIn z q s → InTable c.args.regions.now q in
    record {
      there = (
        rec,
        e,
        subst P (sym h)
            (subst O num (owns_once c.args.cells.now c.args.regions.now c.args.key rec c.requires.grove e)),
      );
      lead = subst L (sym h) (λ p k s l f.
          led_held c.args.cells.now c.args.regions.now c.requires.grove c.number-region.result p k s l f);
      labels = subst T (sym h) (λ q s l. c.requires.grove.labels q s l);
    }

pub sweep-requires : goal.sweep-requires
sweep-requires g c =
    let rec = c.requires.trace.0 in
    let e = c.requires.trace.1 in
    let num = (told g (goal.at.sweep-requires g c).After-bridge-bridge).0 in
    let h : c.mark_region.new.cells.heap ≡ c.args.cells.now.heap = c.mark_region.ensures.marked.heap in
    let s = c.chain_orphans-orphans.ensures.searched rec e in
    let M : ℕ → Type 0 = λ n. Marked c.args.cells.now.heap n
    (record { bridge = c.bridge-bridge.result; slots = c.args.slots.now; temps = c.args.temps.now }) c.args.cells.now
    c.mark_region.new.cells in
    let m = subst M (sym num) c.mark_region.ensures.marked in
    let L : Heap → Type 0 = λ z. (x : ℕ) → LiesIn z rec.number x → mark_at c.mark_region.new.cells x ≢ 1 in (
      rec,
      ap (λ (rs : List (Option Record)). get_or rs c.args.key None) s.records ∙ e,
      swept-begin c.args.cells.now c.mark_region.new.cells c.args.regions.now c.args.key rec c.requires.grove e h,
      subst L (sym h) (not-grey c.args.cells.now.heap rec.number _ c.args.cells.now c.mark_region.new.cells m),
    )

pub left-requires : goal.left-requires
left-requires g c =
    let rec = c.requires.trace.0 in
    let e = c.requires.trace.1 in
    let s = c.chain_orphans-orphans.ensures.searched rec e in
    let f : record_at c.chain_orphans-orphans.new.regions c.args.key
    ≡ Some rec = ap (λ (rs : List (Option Record)). get_or rs c.args.key None) s.records ∙ e in
    let w = c.sweep.ensures.left rec f in
    rw w.1 refl

pub returns : goal.returns
returns g c =
    let rec = c.requires.trace.0 in
    let e = c.requires.trace.1 in
    let w = told g (goal.at.returns g c).After-bridge-bridge in
    let s = c.chain_orphans-orphans.ensures.searched rec e in
    let M : ℕ → Type 0 = λ n. Marked c.args.cells.now.heap n
    (record { bridge = c.bridge-bridge.result; slots = c.args.slots.now; temps = c.args.temps.now }) c.args.cells.now
    c.mark_region.new.cells in
    let B : Option ℕ → Type 0 = λ b. Marked c.args.cells.now.heap rec.number
    (record { bridge = b; slots = c.args.slots.now; temps = c.args.temps.now }) c.args.cells.now
    c.mark_region.new.cells in
    let m = subst B (sym w.1) (subst M (sym w.0) c.mark_region.ensures.marked) in
    let S : ℕ → Type 0 = λ n. FollowsWhite c.mark_region.new.cells.heap c.mark_region.new.cells.marks n rec.members
    (length rec.members)
    c.args.regions.now c.chain_orphans-orphans.new.regions c.chain_orphans-orphans.result in
    let t = subst S (sym w.0) s in
    let roots : Roots = record { bridge = rec.bridge; slots = c.args.slots.now; temps = c.args.temps.now } in
    let C : Record → Type 0 = λ r. Collected c.args.cells.now c.args.regions.now c.args.key r
    (record { bridge = r.bridge; slots = c.args.slots.now; temps = c.args.temps.now }) c.sweep.new.cells
    c.sweep.new.regions in
    let F : Record → ℕ → Type 0 =
    λ r. OutOfReach c.args.cells.now.heap r.number
    (record { bridge = r.bridge; slots = c.args.slots.now; temps = c.args.temps.now }) in
    let O : Record → Type 0 = λ r. ChainsOrphans c.args.cells.now.heap c.args.regions.now r.number
    (F r) c.sweep.new.regions.links
    c.chain_orphans-orphans.result in
    let o = orphaning c.args.cells.now c.mark_region.new.cells c.args.regions.now c.chain_orphans-orphans.new.regions
    c.args.key rec roots
    c.chain_orphans-orphans.result c.requires.grove e m t in
    let K : List (Option ℕ) → Type 0 =
    λ ls. ChainsOrphans c.args.cells.now.heap c.args.regions.now rec.number (F rec) ls
    c.chain_orphans-orphans.result in
    let whole = collected c.args.cells.now c.mark_region.new.cells c.args.regions.now
    c.chain_orphans-orphans.new.regions c.args.key rec roots
    c.sweep.new.cells c.sweep.new.regions e m s.records t.orphans.1.next c.sweep.ensures in
    let ow = owns_once c.args.cells.now c.args.regions.now c.args.key rec c.requires.grove e in
    let h : c.mark_region.new.cells.heap ≡ c.args.cells.now.heap = c.mark_region.ensures.marked.heap in
    let T : Heap → ℕ → Type 0 = λ z n. black_fields c.args.cells.now.heap n c.mark_region.new.cells.marks + sum_by
    (if_white z c.mark_region.new.cells.marks) rec.members ≤ region_fields c.args.cells.now.heap rec.number in
    let on_number : ℕ → Type 0 = λ n. T c.args.cells.now.heap n in
    let on_heap : Heap → Type 0 = λ z. T z c.number-region.result in
    let bound = subst on_heap (sym h) (subst on_number w.0
    (ticks c.args.cells.now.heap rec.number c.mark_region.new.cells.marks rec.members ow.lie
    (λ i j l n q. let z : i ≡ j = ow.once i j (omega arith) n q in omega (arith, z)))) in
    let Q : Record → Type 0 = λ r. c.chain_orphans-orphans.new.steps ≤ c.args.steps.now + sum_by
    (λ t. width (body_at c.args.cells.now.heap t))
    c.args.temps.now + region_fields c.args.cells.now.heap r.number in
    let most : Q rec = omega (arith, bound, c.mark_region.ensures.cost, c.chain_orphans-orphans.ensures.cost rec e) in
    record {
      cost = λ r f. subst Q (same_Some rec r (sym e ∙ f)) most;
      grove = grove-kept c.args.cells.now c.args.regions.now c.args.key rec c.args.slots.now c.args.temps.now
          c.sweep.new.cells c.sweep.new.regions
          c.requires.grove e c.requires.trace.2 whole;
      collected = λ r f. subst C (same_Some rec r (sym e ∙ f)) whole;
      orphans = λ r f. rw c.left.ensures.orphans (subst O (same_Some rec r (sym e ∙ f)) (subst K (sym c.sweep.ensures.links) o));
      kept = c.left.ensures.kept;
    }
