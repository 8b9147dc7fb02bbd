use Rattle.std.proofs.Common.{◌≡◌, ℕ, ◌+◌, ◌*◌, ◌≤◌, sum_by, List, length, drop, Option, get_or, slice_get}
use Rattle.std.proofs.Common.{ap, sym, ◌∙◌, subst, arith}
use Rattle.std.proofs.lemmas.Option.{same_Some}
use Rattle.rg_base.specs.declared.value.Word.{Word}
use Rattle.rg_cells.specs.Table.{Heap, body_at, label_at, width, mark_at}
use Rattle.rg_regions.specs.Table.{Record}
use Rattle.rg_regions.specs.Ordered.{with_members}
use Rattle.rg_regions.specs.Reach.{LiesIn}
use Rattle.rg_regions.specs.Chains.{OwnsOnce, LeadsToHeld}
use Rattle.rg_regions.specs.Collection.{ChainsOrphans, region_fields, roots_of}
use Rattle.rg_regions.proofs.Callers.Told.{same_members, same_told, led_held, owns_once}
use Rattle.rg_regions.proofs.Callers.Told.{lies_held}
use Rattle.rg_regions.proofs.Callers.Ordered.{ordered_links}
use Rattle.rg_regions.specs.Reach.{OutOfReach}
use Rattle.rg_trace.specs.Marking.{Marked}
use Rattle.rg_trace.proofs.PartsJoined.{all-white, not-grey, swept-start}
use Rattle.rg_copy.specs.Slid.{Slid, top_slots, top_temps, top_roots}
use Rattle.rg_copy.specs.Inner.Moves.{TempsForwarded, MembersForwarded}
use Rattle.rg_copy.specs.Inner.Shifts.{Shifted, Shifts}
use Rattle.rg_copy.proofs.Turns.{plan-down}
use Rattle.rg_copy.proofs.Shown.{top_window, base-is}
use Rattle.rg_copy.proofs.Stages.{StagesAt}
use Rattle.rg_copy.proofs.Slides.{slides}
use Rattle.rg_copy.proofs.GroveSlides.{grove-slides}
use Rattle.rg_copy.proofs.Between.{InOrder, in-order, read-is, read-members, read-rises, members-labels, members-behind}
use Rattle.rg_copy.proofs.Between.{lies-behind, leads-kept, downward-on, orphans-told, marking-cost}
use Rattle.rg_copy.proofs.Between.{members-cost}
use Rattle.rg_copy.proofs.whole.collect.Given.{Over}
use Rattle.rg_copy.proofs.whole.collect.Goals as goal
use Rattle.rg_copy.proofs.whole.collect.Goals.{After-bridge-bridge, After-order_members, After-forward_members}

-- the number and the bridge that were read are the record's
told : (g : Over) (c : After-bridge-bridge g)
    → (c.requires.trace.0.number ≡ c.number-region.result) × (c.requires.trace.0.bridge ≡ c.bridge-bridge.result)
told g c = same_told _ c.requires.trace.0 c.number-region.result c.bridge-bridge.result c.requires.trace.1
    c.number-region.ensures c.bridge-bridge.ensures

-- the table behind the sorting of the members
ordered : (g : Over) (c : After-order_members g) → InOrder c.args.cells.now c.args.regions.now c.order_members.new.self
    c.args.key c.requires.trace.0 c.order_members.ensures.members
ordered g c =
    let s = c.chain_orphans-orphans.ensures.searched c.requires.trace.0 c.requires.trace.1 in
    in-order c.args.cells.now c.args.regions.now c.chain_orphans-orphans.new.regions c.order_members.new.self c.args.key
    c.requires.trace.0 c.order_members.ensures c.requires.grove c.requires.trace.1 s.records s.orphans.1.next

-- no pass before the cells move changes a label
labelled : (g : Over) (c : After-forward_members g) → (x : ℕ)
    → label_at c.forward_members.new.cells.heap x ≡ label_at c.args.cells.now.heap x
labelled g c x =
    c.forward_members.ensures.forwarded.alike.labels x ∙ c.forward_temps.ensures.forwarded.alike.labels x
    ∙ ap (λ (z : Heap). label_at z x) (c.plan.ensures.heap ∙ c.mark_region.ensures.marked.heap)

pub mark_region-requires-clause-white : goal.mark_region-requires-clause-white
mark_region-requires-clause-white g c =
    let rec = c.requires.trace.0 in
    let e = c.requires.trace.1 in
    let num = (told g (goal.at.mark_region-requires-clause-white g c).After-bridge-bridge).0 in
    let W : ℕ → Type 0 = λ n. (s : ℕ) → LiesIn c.args.cells.now.heap n s → mark_at c.args.cells.now s ≡ 0 in
    subst W num (all-white c.args.cells.now c.args.regions.now c.args.key rec c.requires.grove e c.requires.trace.2)

pub mark_region-requires-clause-lead : goal.mark_region-requires-clause-lead
mark_region-requires-clause-lead g c p k s l f =
    led_held c.args.cells.now c.args.regions.now c.requires.grove c.number-region.result p k s l f

pub mark_region-requires-clause-bridge : goal.mark_region-requires-clause-bridge
mark_region-requires-clause-bridge g c s q =
    let rec = c.requires.trace.0 in
    let e = c.requires.trace.1 in
    let said = told g (goal.at.mark_region-requires-clause-bridge g c).After-bridge-bridge in
    lies_held c.args.cells.now.heap rec.number s (c.requires.grove.bridges c.args.key s rec e (said.1 ∙ q))

pub mark_region-requires-clause-slots : goal.mark_region-requires-clause-slots
mark_region-requires-clause-slots g c k s q =
    let top = top_window c.args.frames.now c.requires.begun in
    let slots : c.slots.result.now ≡ top_slots c.args.frames.now = c.slots.ensures top.0 top.1
    ∙ ap (λ d. drop d c.args.frames.now.slots) (sym (base-is c.args.frames.now top.0 top.1)) in
    c.requires.slots k s (ap (λ (ws : List Word). slice_get ws k) (sym slots) ∙ q)

pub chain_orphans-orphans-requires-clause-there : goal.chain_orphans-orphans-requires-clause-there
chain_orphans-orphans-requires-clause-there g c =
    let rec = c.requires.trace.0 in
    let e = c.requires.trace.1 in
    let num = (told g (goal.at.chain_orphans-orphans-requires-clause-there g c).After-bridge-bridge).0 in
    let O : ℕ → Type 0 = λ n. OwnsOnce c.args.cells.now.heap n rec.members in
    let P : Heap → Type 0 = λ z. OwnsOnce z c.number-region.result rec.members in (
      rec,
      e,
      subst P (sym c.mark_region.ensures.marked.heap)
          (subst O num (owns_once c.args.cells.now c.args.regions.now c.args.key rec c.requires.grove e)),
    )

pub plan-requires-clause-members : goal.plan-requires-clause-members
plan-requires-clause-members g c =
    let num = (told g (goal.at.plan-requires-clause-members g c).After-bridge-bridge).0 in
    let w = ordered g (goal.at.plan-requires-clause-members g c).After-order_members in
    let labels : (x : ℕ) → label_at c.mark_region.new.cells.heap x ≡ label_at c.args.cells.now.heap x = λ x.
    ap (λ (z : Heap). label_at z x) c.mark_region.ensures.marked.heap in
    read-members c.mark_region.new.cells.heap c.number-region.result c.members.result.now w num c.members.ensures labels

pub plan-requires-clause-rise : goal.plan-requires-clause-rise
plan-requires-clause-rise g c =
    let w = ordered g (goal.at.plan-requires-clause-rise g c).After-order_members in
    read-rises c.members.result.now w c.members.ensures

pub forward_members-requires-clause-members : goal.forward_members-requires-clause-members
forward_members-requires-clause-members g c =
    let num = (told g (goal.at.forward_members-requires-clause-members g c).After-bridge-bridge).0 in
    let w = ordered g (goal.at.forward_members-requires-clause-members g c).After-order_members in
    let labels : (x : ℕ) → label_at c.forward_temps.new.cells.heap x ≡ label_at c.args.cells.now.heap x = λ x.
    c.forward_temps.ensures.forwarded.alike.labels x
    ∙ ap (λ (z : Heap). label_at z x) (c.plan.ensures.heap ∙ c.mark_region.ensures.marked.heap) in
    read-members c.forward_temps.new.cells.heap c.number-region.result c.members-2.result.now w num c.members-2.ensures
    labels

pub forward_members-requires-clause-lead : goal.forward_members-requires-clause-lead
forward_members-requires-clause-lead g c =
    let L : Heap → Type 0 = λ z. LeadsToHeld z c.number-region.result in
    leads-kept c.plan.new.cells c.forward_temps.new.cells c.number-region.result c.temps-2.result.now
    c.forward_temps.ensures.forwarded (subst L (sym (c.plan.ensures.heap ∙ c.mark_region.ensures.marked.heap))
    (λ p k s l f. led_held c.args.cells.now c.args.regions.now c.requires.grove c.number-region.result p k s l f))

pub shift-requires-clause-members : goal.shift-requires-clause-members
shift-requires-clause-members g c =
    let num = (told g (goal.at.shift-requires-clause-members g c).After-bridge-bridge).0 in
    let w = ordered g (goal.at.shift-requires-clause-members g c).After-order_members in
    let labels = labelled g (goal.at.shift-requires-clause-members g c).After-forward_members in
    read-members c.forward_members.new.cells.heap c.number-region.result c.members-3.result.now w num c.members-3.ensures
    labels

pub shift-requires-clause-rise : goal.shift-requires-clause-rise
shift-requires-clause-rise g c =
    let w = ordered g (goal.at.shift-requires-clause-rise g c).After-order_members in
    read-rises c.members-3.result.now w c.members-3.ensures

pub shift-requires-clause-plan : goal.shift-requires-clause-plan
shift-requires-clause-plan g c =
    let labels : (x : ℕ) → label_at c.forward_members.new.cells.heap x ≡ label_at c.mark_region.new.cells.heap x = λ x.
    c.forward_members.ensures.forwarded.alike.labels x ∙ c.forward_temps.ensures.forwarded.alike.labels x
    ∙ ap (λ (z : Heap). label_at z x) c.plan.ensures.heap in
    downward-on c.mark_region.new.cells.heap c.plan.new.cells c.forward_members.new.cells c.number-region.result labels
    (c.forward_members.ensures.forwarded.alike.links ∙ c.forward_temps.ensures.forwarded.alike.links)
    (plan-down c.mark_region.new.cells.heap c.number-region.result c.bridge-bridge.result c.plan.new.cells
    c.plan.ensures.plan)

pub sweep-requires : goal.sweep-requires
sweep-requires g c =
    let rec = c.requires.trace.0 in
    let num = (told g (goal.at.sweep-requires g c).After-bridge-bridge).0 in
    let w = ordered g (goal.at.sweep-requires g c).After-order_members in
    let labels = labelled g (goal.at.sweep-requires g c).After-forward_members in
    let from = c.shift.ensures.0 in
    let ms = read-is c.members-3.result.now w c.members-3.ensures in
    let SM : List ℕ → Type 0 = λ xs. Shifted c.forward_members.new.cells c.number-region.result xs (length xs)
    c.shift.new.cells c.shift.ensures.0 in
    let SN : ℕ → Type 0 = λ n. Shifted c.forward_members.new.cells n c.order_members.ensures.members
    (length c.order_members.ensures.members) c.shift.new.cells c.shift.ensures.0 in
    let moved = subst SN (sym num) (subst SM (sym ms) c.shift.ensures.1) in
    let M : ℕ → Type 0 = λ n. Marked c.args.cells.now.heap n
    (roots_of c.bridge-bridge.result c.slots.result.now c.temps.result.now) c.args.cells.now
    c.mark_region.new.cells in
    let marks : (x : ℕ) → mark_at c.forward_members.new.cells x ≡ mark_at c.mark_region.new.cells x = λ x.
    ap (λ (ks : List ℕ). get_or ks x 0) c.forward_members.ensures.forwarded.marks
    ∙ c.forward_temps.ensures.forwarded.marks x ∙ ap (λ (ks : List ℕ). get_or ks x 0) c.plan.ensures.marks in (
      with_members c.order_members.ensures.members rec,
      w.now,
      swept-start c.shift.new.cells rec.number c.order_members.ensures.members
          (members-behind c.forward_members.new.cells c.shift.new.cells rec.number _ c.order_members.ensures.members from
          moved (members-labels c.args.cells.now.heap c.forward_members.new.cells.heap rec.number
          c.order_members.ensures.members labels w.are)),
      λ x l z.
          let k = lies-behind c.forward_members.new.cells c.shift.new.cells rec.number _ _ from x moved l in
          not-grey c.args.cells.now.heap rec.number _ c.args.cells.now c.mark_region.new.cells
          (subst M (sym num) c.mark_region.ensures.marked) (from x) (sym (labels (from x)) ∙ k.0)
          (sym (marks (from x)) ∙ sym (moved.marks x) ∙ z),
    )

-- all passes together
pub returns : goal.returns
returns g c =
    let rec = c.requires.trace.0 in
    let e = c.requires.trace.1 in
    let said = told g (goal.at.returns g c).After-bridge-bridge in
    let searched = c.chain_orphans-orphans.ensures.searched rec e in
    let w = ordered g (goal.at.returns g c).After-order_members in
    let top = top_window c.args.frames.now c.requires.begun in
    let slots : c.slots.result.now ≡ top_slots c.args.frames.now = c.slots.ensures top.0 top.1
    ∙ ap (λ d. drop d c.args.frames.now.slots) (sym (base-is c.args.frames.now top.0 top.1)) in
    let temps : c.temps-2.result.now ≡ c.temps.result.now = c.temps-2.ensures ∙ sym c.temps.ensures in
    let TF : List ℕ → Type 0 = λ xs.
    TempsForwarded c.plan.new.cells c.number-region.result xs c.forward_temps.new.cells in
    let MF : List ℕ → Type 0 = λ xs.
    MembersForwarded c.forward_temps.new.cells c.number-region.result xs (length xs) c.forward_members.new.cells in
    let SF : List ℕ → Type 0 = λ xs.
    Shifts c.forward_members.new.cells c.number-region.result xs (length xs) c.shift.new.cells in
    let A : ℕ → Option ℕ → List Word → List ℕ → Type 0 =
    StagesAt c.args.cells.now c.mark_region.new.cells c.plan.new.cells c.forward_temps.new.cells
    c.forward_members.new.cells c.shift.new.cells c.sweep.new.cells c.args.regions.now c.order_members.new.self
    c.sweep.new.regions c.args.key rec c.args.frames.now c.forward_slots.new.frames c.order_members.ensures.members in
    let first : A c.number-region.result c.bridge-bridge.result c.slots.result.now c.temps.result.now = record {
      grove = c.requires.grove;
      there = e;
      traced = c.requires.trace.2;
      marked = c.mark_region.ensures.marked;
      plans = c.plan.ensures;
      forwards_temps = subst TF temps c.forward_temps.ensures.forwarded;
      forwarded = subst MF (sym (read-is c.members-2.result.now w c.members-2.ensures))
          c.forward_members.ensures.forwarded;
      shown = c.forward_slots.ensures;
      shifted = subst SF (sym (read-is c.members-3.result.now w c.members-3.ensures)) c.shift.ensures;
      members_are = w.are;
      swept = c.sweep.ensures;
      now = w.now;
      others = w.others;
      next = w.next;
    } in
    let AT : List ℕ → Type 0 = λ z. A rec.number rec.bridge (top_slots c.args.frames.now) z in
    let AS : List Word → Type 0 = λ z. A rec.number rec.bridge z c.temps.result.now in
    let AB : Option ℕ → Type 0 = λ z. A rec.number z c.slots.result.now c.temps.result.now in
    let AN : ℕ → Type 0 = λ z. A z c.bridge-bridge.result c.slots.result.now c.temps.result.now in
    let all = subst AT c.temps.ensures (subst AS slots (subst AB (sym said.1) (subst AN (sym said.0) first))) in
    let S : Record → Type 0 = λ r. Slid c.args.cells.now c.args.regions.now c.args.key r c.args.frames.now
    c.sweep.new.cells c.sweep.new.regions c.forward_slots.new.frames in
    let O : Record → Type 0 = λ r. ChainsOrphans c.args.cells.now.heap c.args.regions.now r.number
    (OutOfReach c.args.cells.now.heap r.number (top_roots r c.args.frames.now)) c.sweep.new.regions.links
    c.chain_orphans-orphans.result in
    let C : Record → Type 0 = λ r. c.forward_members.new.steps ≤ c.args.steps.now
    + 2 * (sum_by (λ t. width (body_at c.args.cells.now.heap t)) (top_temps c.args.frames.now)
    + region_fields c.args.cells.now.heap r.number) in
    let W : Heap → List ℕ → ℕ = λ z xs. sum_by (λ x. width (body_at z x)) xs in
    let first_temps : W c.args.cells.now.heap c.temps.result.now
    ≡ W c.args.cells.now.heap (top_temps c.args.frames.now) = ap (W c.args.cells.now.heap) c.temps.ensures in
    let later_temps : W c.plan.new.cells.heap c.temps-2.result.now
    ≡ W c.args.cells.now.heap (top_temps c.args.frames.now) =
    ap (λ z. W z c.temps-2.result.now) (c.plan.ensures.heap ∙ c.mark_region.ensures.marked.heap)
    ∙ ap (W c.args.cells.now.heap) c.temps-2.ensures in
    let later_members : W c.forward_temps.new.cells.heap c.order_members.ensures.members
    ≡ W c.forward_temps.new.cells.heap c.members-2.result.now =
    ap (W c.forward_temps.new.cells.heap) (read-is c.members-2.result.now w c.members-2.ensures) in
    let most : C rec = omega (
      arith,
      marking-cost all c.number-region.result said.0,
      members-cost all,
      first_temps,
      later_temps,
      later_members,
      c.mark_region.ensures.cost,
      c.chain_orphans-orphans.ensures.cost rec e,
      c.forward_temps.ensures.cost,
      c.forward_members.ensures.cost,
    ) in
    let links = c.sweep.ensures.links
    ∙ (ordered_links c.chain_orphans-orphans.new.regions c.order_members.new.self c.args.key c.order_members.ensures).0 in
    record {
      slid = λ r f. subst S (same_Some rec r (sym e ∙ f)) (slides all);
      orphans = λ r f. rw c.left.ensures.orphans (subst O (same_Some rec r (sym e ∙ f))
          (orphans-told all c.chain_orphans-orphans.new.regions c.number-region.result c.chain_orphans-orphans.result said.0
          searched links));
      kept = c.left.ensures.kept;
      cost = λ r f. subst C (same_Some rec r (sym e ∙ f)) most;
      grove = grove-slides all;
    }
