use Rattle.std.proofs.Common.{◌≡◌, ℕ, ◌+◌, ◌<◌, ◌≤◌, List, length, Option, Some, None, sym, arith, subst, sum_by}
use Rattle.rg_base.specs.declared.value.Word.TheVariants.{Slot}
use Rattle.rg_base.proofs.Callers.Options.{none-is}
use Rattle.rg_cells.specs.Table.{Heap, width, body_at, field_at, IsHeld, link_at}
use Rattle.rg_regions.specs.Table.{Record, InTable}
use Rattle.rg_regions.specs.Reach.{LiesIn, region_size}
use Rattle.rg_regions.specs.Grove.{Members}
use Rattle.rg_regions.specs.Owned.{Every, FollowsFields}
use Rattle.rg_regions.proofs.Callers.Told.{same_members}
use Rattle.rg_regions.proofs.Callers.Told.{lies_held}
use Rattle.rg_count.specs.Inner.Counting.{Down, Lowered, IsReady}
use Rattle.rg_count.proofs.CountsBegun.{down-begin}
use Rattle.rg_count.proofs.SpentInTurn.{down-more, down-left, down-lies, down-ready, down-ended, size-members}
use Rattle.rg_count.proofs.down.count_down.Given.{Over}
use Rattle.rg_count.proofs.down.count_down.Goals as goal
use Rattle.rg_count.proofs.down.count_down.Goals.{At-down}

-- what a turn keeps, of the head of the zero list
keeps : (g : Over) (c : At-down g) (o : Option ℕ) → c.down.zero ≡ o → Down c.args.cells.now.heap c.args.region
    (record { bridge = c.args.roots.now.bridge; slots = c.args.roots.now.slots.now; temps = c.args.roots.now.temps.now }) c.args.cells.now
    c.args.regions.now (length c.members-left.result.now)
    (c.args.steps.now + sum_by (λ t. width (body_at c.args.cells.now.heap t)) c.args.roots.now.temps.now) c.down.cells
    c.down.regions o c.down.orphans c.down.left c.down.steps
keeps g c o e =
    let h = c.args.cells.now.heap in
    let D : Option ℕ → Type 0 = λ o.
    Down h c.args.region (record { bridge = c.args.roots.now.bridge; slots = c.args.roots.now.slots.now; temps = c.args.roots.now.temps.now })
    c.args.cells.now c.args.regions.now (length c.members-left.result.now)
    (c.args.steps.now + sum_by (λ t. width (body_at h t)) c.args.roots.now.temps.now) c.down.cells c.down.regions o
    c.down.orphans c.down.left c.down.steps in
    subst D e c.down.invariant.0

-- while the list has a head, cells are left
more_left : (g : Over) (c : At-down g) (s : ℕ) → c.down.zero ≡ Some s → 0 < c.down.left
more_left g c s e = down-left _ _ _ _ _ _ _ _ _ _ _ _ _ c.down.invariant.1 (keeps g c (Some s) e)

pub down-init : goal.down-init
down-init g c =
    let h = c.args.cells.now.heap in
    let rec = c.requires.there.0 in
    let two : rec.members ≡ c.members-2.result.now =
    same_members _ rec c.members-2.result.now c.requires.there.1 c.members-2.ensures in
    let left : rec.members ≡ c.members-left.result.now =
    same_members _ rec c.members-left.result.now c.requires.there.1 c.members-left.ensures in
    let M : List ℕ → Type 0 = λ z. Members h c.args.region z in
    let S : List ℕ → Type 0 = λ z. region_size h c.args.region ≤ length z in (
      down-begin h c.args.region (record { bridge = c.args.roots.now.bridge; slots = c.args.roots.now.slots.now; temps = c.args.roots.now.temps.now })
          c.args.cells.now c.members-2.result.now c.args.regions.now c.flag_roots.new.cells c.first_zeros-zero.new.cells
          c.first_zeros-zero.result (length c.members-left.result.now) _ c.flag_roots.new.steps
          c.flag_roots.ensures.cost
          (subst M two c.requires.there.2) c.requires.counts c.flag_roots.ensures.heap c.flag_roots.ensures.marks
          c.flag_roots.ensures.links c.flag_roots.ensures.rooted c.first_zeros-zero.ensures,
      subst S left (size-members h c.args.region rec.members c.requires.there.2),
    )

pub overflow_sub-left : goal.overflow_sub-left
overflow_sub-left g c =
    let l = more_left g (goal.at.overflow_sub-left g c).At-down c.in-Some.slot c.in-Some.is in
    omega (arith, l)

pub link-zero-requires : goal.link-zero-requires
link-zero-requires g c =
    let d = keeps g (goal.at.link-zero-requires g c).At-down (Some c.in-Some.slot) c.in-Some.is in
    let lies = down-lies _ _ _ _ _ _ _ _ _ _ _ _ _ d in
    let H : Heap → Type 0 = λ z. IsHeld z c.in-Some.slot in
    subst H (sym d.counts.heap) (lies_held c.args.cells.now.heap c.args.region c.in-Some.slot lies)

pub lower_fields-heads-requires : goal.lower_fields-heads-requires
lower_fields-heads-requires g c =
    let h = c.args.cells.now.heap in
    let d = keeps g (goal.at.lower_fields-heads-requires g c).At-down (Some c.in-Some.slot) c.in-Some.is in
    let lies : LiesIn h c.args.region c.in-Some.slot = down-lies _ _ _ _ _ _ _ _ _ _ _ _ _ d in
    let back : h ≡ c.down.cells.heap = sym d.counts.heap in
    let H : Heap → Type 0 = λ z. IsHeld z c.in-Some.slot in
    let F : Heap → Type 0 = λ z. (k s : ℕ) → field_at z c.in-Some.slot k ≡ Some (Slot s) → IsHeld z s in
    let T : List (Option Record) → Type 0 = λ rs. (q s : ℕ) → LiesIn h q s
    → InTable (record c.down.regions { records = rs }) q in
    let L : Heap → Type 0 = λ z. (q s : ℕ) → LiesIn z q s → InTable c.down.regions q in
    let R : Heap → Type 0 = λ z. IsReady z c.args.region c.in-Some.slot c.down.cells
    (link_at c.down.cells c.in-Some.slot) in
    let N : Option ℕ → Type 0 = λ o. IsReady c.down.cells.heap c.args.region c.in-Some.slot c.down.cells o in
    record {
      held = subst H back (lies_held h c.args.region c.in-Some.slot lies);
      lead = subst F back (λ k s f. c.requires.lead c.in-Some.slot k s lies f);
      labels = subst L back (subst T (sym d.owned.1.records) c.requires.labels);
      ready = subst N (sym c.link-zero.ensures) (subst R back (down-ready _ _ _ _ _ _ _ _ _ _ _ _ _ d));
    }

pub down-smaller : goal.down-smaller
down-smaller g c =
    let l = more_left g (goal.at.down-smaller g c).At-down c.in-Some.slot c.in-Some.is in
    omega (arith, l)

pub down-preserved : goal.down-preserved
down-preserved g c =
    let h = c.args.cells.now.heap in
    let d = keeps g (goal.at.down-preserved g c).At-down (Some c.in-Some.slot) c.in-Some.is in
    let s = c.in-Some.slot in
    let l = more_left g (goal.at.down-preserved g c).At-down c.in-Some.slot c.in-Some.is in
    let same : c.down.cells.heap ≡ h = d.counts.heap in
    let L : Heap → Type 0 = λ z. Lowered z c.args.region s
    (width (body_at z s)) c.down.cells c.lower_fields-heads.new.cells c.link-zero.result
    c.lower_fields-heads.result.zero in
    let L2 : Option ℕ → Type 0 = λ o.
    Lowered h c.args.region s (width (body_at h s)) c.down.cells c.lower_fields-heads.new.cells o
    c.lower_fields-heads.result.zero in
    let F : Heap → Type 0 = λ z. FollowsFields z Every c.args.region s
    (width (body_at z s)) c.down.regions c.lower_fields-heads.new.regions c.down.orphans
    c.lower_fields-heads.result.orphans in
    let C : Heap → Type 0 = λ z. c.lower_fields-heads.new.steps ≡ c.down.steps + width (body_at z s) in (
      down-more h c.args.region _ c.args.cells.now c.args.regions.now
          (length c.members-left.result.now) _ c.down.cells c.lower_fields-heads.new.cells c.down.regions
          c.lower_fields-heads.new.regions s c.lower_fields-heads.result.zero c.down.orphans
          c.lower_fields-heads.result.orphans c.down.left c.down.steps c.lower_fields-heads.new.steps
          c.requires.one l (subst L2 c.link-zero.ensures (subst L same c.lower_fields-heads.ensures.lowered))
          (subst F same c.lower_fields-heads.ensures.fields) (subst C same c.lower_fields-heads.ensures.cost) d,
      c.down.invariant.1,
    )

pub returns : goal.returns
returns g c = down-ended _ _ _ _ _ _ _ _ _ _ _ _
    (keeps g (goal.at.returns g c).At-down None (none-is c.down.zero c.in_default.not-Some))
