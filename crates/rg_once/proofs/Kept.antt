-- What a collection of the active region keeps of it: what the state reaches, or what isn't spent.
use Rattle.std.proofs.Common.{◌≡◌, ◌⊎◌, inl, inr, ℕ, ◌-◌, Bool as Truth, true, false, drop, Option, Some, None, refl, sym, ap}
use Rattle.std.proofs.Common.{◌∙◌, subst, arith}
use Rattle.std.proofs.lemmas.Option.{none-some, same_Some}
use Rattle.rg_base.specs.declared.object.Label.TheVariants.{Region}
use Rattle.rg_base.specs.declared.words.Manager.{Manager}
use Rattle.rg_base.specs.declared.words.Manager.TheVariants.{Arena, Count, Trace}
use Rattle.rg_tree.specs.Tree.{Tree}
use Rattle.rg_rules.specs.Reach.{plain_reach, starts}
use Rattle.rg_rules.specs.Regions.{region_at}
use Rattle.rg_rules.specs.State.{State}
use Rattle.rg_sound.proofs.Stores.Member.{In}
use Rattle.rg_code.specs.Code.{Code}
use Rattle.rg_cells.specs.declared.cell.Body.{Body}
use Rattle.rg_cells.specs.Table.{Heap, body_at}
use Rattle.rg_regions.specs.Collection.{roots_of}
use Rattle.rg_regions.specs.Grove.{Grove}
use Rattle.rg_regions.specs.Reach.{LiesIn}
use Rattle.rg_regions.specs.Reach.{Stands as Root}
use Rattle.rg_regions.specs.Spent.{Spent}
use Rattle.rg_regions.specs.Table.{Record, record_at}
use Rattle.rg_frames.specs.declared.rows.Window.{Window as WindowRow}
use Rattle.rg_frames.specs.Stack.{Stack}
use Rattle.rg_stack.specs.Machine.{Machine}
use Rattle.rg_stack.specs.Needs.{owned_once}
use Rattle.rg_regions.specs.Reach.{OutOfReach}
use Rattle.rg_heap.specs.declared.answers.Collected.{Collected}
use Rattle.rg_heap.specs.Answers.{AllLead}
use Rattle.rg_heap.specs.Collects.{Collects, CollectsBy, Told}
use Rattle.rg_heap.specs.Ends.{top_temps}
use Rattle.rg_heap.specs.Parts.{Parts}
use Rattle.rg_heap.specs.Slides.{Slides, SlidesBy}
use Rattle.rg_view.specs.View.{machine_of}
use Rattle.rg_view.proofs.Callers.Link.{label-in}
use Rattle.rg_view.proofs.Callers.Shown.{held-body}
use Rattle.rg_machine.specs.Collects.{holds}
use Rattle.rg_machine.specs.Parts.{Parts as Whole}
use Rattle.rg_machine.proofs.Callers.Active.{on-each}
use Rattle.rg_machine.proofs.Callers.Collect.{Active, lead-behind, root-stays, roots_in, sole-window, was}
use Rattle.rg_machine.proofs.Callers.Gather.{holds-back, holds-there}
use Rattle.rg_machine.proofs.Callers.Part.{once-held}
use Rattle.rg_machine.proofs.Callers.ReachHeld.{body-was, reach-kept, start-kept}
use Rattle.rg_machine.proofs.Callers.Reach.{kept-in}
use Rattle.rg_machine.proofs.Callers.ReachRoot.{root-leads}
use Rattle.rg_machine.proofs.Callers.ReachShown.{Beside, TopShown, label-of, region-there, roots-are, top-shown}
use Rattle.rg_machine.proofs.Callers.Shift.{holds-shift}
use Rattle.rg_machine.proofs.Callers.Slid.{moves}
use Rattle.rg_machine.proofs.Callers.SlidReach.{collects, left, shifted}
use Rattle.rg_machine.proofs.Callers.Active.{trace-apart}
use Rattle.rg_stack.specs.Shows.{sizes_of}
use Rattle.rg_view.specs.View.{frames_of}
use Rattle.rg_step.specs.Collections.{CollectsTop}
use Rattle.rg_once.proofs.Cell.{Mates, Within, mate, mates-back, mates-lie}
use Rattle.rg_once.proofs.Spent.{spent-also}

-- what is kept of a region are the objects that a state reaches
pub record Traced (s : State) (h : Heap) (r : ℕ) (kept : ℕ → Truth) : Type 0 where
  pub back : (x : ℕ) (b : Body) → body_at h x ≡ Some b → LiesIn h r x → kept b.serial ≡ true → In b.serial (plain_reach s)
  pub on : (n : ℕ) → In n (plain_reach s) → kept n ≡ true

module _ (old new : Parts) (v : Stack) (at : ℕ) (t : Tree) (code : Code) (s : State) (m : Machine) (z : Beside old v at t code s m)
    (a : Active old v) where
  abbrev h : Heap
  h = old.cells.heap

  abbrev r : ℕ
  r = a.rec.number

  abbrev Unreached : ℕ → Type 0
  Unreached x = OutOfReach h r (roots_in old v a) x

  abbrev pub IsSpent : ℕ → Type 0
  IsSpent x = Spent h r (roots_in old v a) x

  pub once : owned_once (machine_of old v at) ≡ true
  once = once-held t code s (holds h) (machine_of old v at) m z.fit z.shows z.part

  still-traced : ((x : ℕ) → AllLead new.cells.heap x) → Collects old new a.window.region a.rec Unreached → Traced s h r (holds new.cells.heap)
  still-traced lead c = record { back = back; on = λ n i. (reach-kept old new v at t code s m z lead a Unreached c root n i).0 }
    where
      root : (x : ℕ) → LiesIn h r x → Root h (roots_in old v a) x → Unreached x → ⊥
      root x lies stands cell = cell (0, omega arith, (lies, stands))

      back : (x : ℕ) (b : Body) → body_at h x ≡ Some b → LiesIn h r x → holds new.cells.heap b.serial ≡ true → In b.serial (plain_reach s)
      back x b e lies kept =
          let y = holds-back new.cells.heap b.serial kept in
          let before = body-was old new v at t code s m z lead a Unreached c root y.0 y.1 y.2 in
          let slot : y.0 ≡ x = z.serials.differ y.0 x y.1 b before e y.3 in
          let label = label-of h y.0 y.1 (Region r) before (subst (λ k. LiesIn h r k) (sym slot) lies) in
          subst (λ k. In k (plain_reach s)) y.3
          (kept-in old new v at t code s m z lead a c y.0 y.1 y.2 (label-in new.cells.heap y.0 y.1 (Region r) y.2 label))

  -- how the active region was collected
  pub record Collecting (told : Collected) : Type 0 where
    pub facts : Told old new a.window.region a.rec told
    pub now : Record
    pub own : record_at new.regions a.window.region ≡ Some now
    pub number : now.number ≡ r
    pub way : ((a.rec.manager ≡ Trace) × Traced s h r (holds new.cells.heap))
        ⊎ ((a.rec.manager ≡ Count) × Collects old new a.window.region a.rec IsSpent)

traced-as : (s : State) (h : Heap) (r : ℕ) (kept also : ℕ → Truth) → ((n : ℕ) → also n ≡ kept n) → Traced s h r kept → Traced s h r also
traced-as s h r kept also same x = record {
  back = λ y b e lies k. x.back y b e lies (sym (same b.serial) ∙ k);
  on = λ n i. same n ∙ x.on n i;
}

module _ (t : Tree) (code : Code) (s : State) (mid new : Whole) (m : Machine) (z : Beside mid.heap mid.frames mid.at t code s m)
    (gn : Grove new.heap.cells new.heap.regions) (a : Active mid.heap mid.frames) (told : Collected) where
  abbrev Does : Type 0
  Does = Collecting mid.heap new.heap mid.frames mid.at t code s m z a told

  by-collects : (k : Manager) → a.rec.manager ≡ k
      → CollectsBy k mid.heap new.heap a.window.region a.rec (roots_of a.rec.bridge (drop a.window.base mid.frames.slots) (top_temps mid.frames))
      (Some told) → Does
  by-collects Arena e c = absurd (none-some told (sym c.0))
  by-collects Count e c = record {
    facts = subst (λ (u : Collected). Told mid.heap new.heap a.window.region a.rec u) (sym (same_Some told c.0 c.1)) c.2;
    now = c.3.own.0;
    own = c.3.own.1;
    number = c.3.own.2;
    way = inr (e, c.3);
  }
  by-collects Trace e c = record {
    facts = subst (λ (u : Collected). Told mid.heap new.heap a.window.region a.rec u) (sym (same_Some told c.0 c.1)) c.2;
    now = c.3.own.0;
    own = c.3.own.1;
    number = c.3.own.2;
    way = inl (
      e,
      still-traced mid.heap new.heap mid.frames mid.at t code s m z a
          (lead-behind mid.heap new.heap mid.frames mid.at z.serials z.grove z.stands
          (once mid.heap new.heap mid.frames mid.at t code s m z a) a
          (OutOfReach mid.heap.cells.heap a.rec.number (roots_in mid.heap mid.frames a)) c.3
          (λ x lies stands cell. cell (0, omega arith, (lies, stands))) gn) c.3,
    );
  }

  slid-traced : (sl : Slides mid.heap new.heap a.window.region a.rec mid.frames new.frames)
      → Traced s mid.heap.cells.heap a.rec.number (holds new.heap.cells.heap)
  slid-traced sl =
      let us = left mid.heap new.heap mid.frames new.frames mid.at t code s m z gn a sl in
      let f = moves mid.heap mid.frames z.serials z.grove z.stands a sl.mid new.frames sl.slid in
      let by = shifted mid.heap new.heap mid.frames new.frames mid.at t code s m z gn a sl in
      traced-as s mid.heap.cells.heap a.rec.number (holds us.cells.heap) (holds new.heap.cells.heap)
      (holds-shift f us.cells.heap new.heap.cells.heap by)
      (still-traced mid.heap us mid.frames mid.at t code s m z a by.leads
      (collects mid.heap new.heap mid.frames new.frames mid.at t code s m z gn a sl))

  by-slides : (k : Manager) → a.rec.manager ≡ k → SlidesBy k mid.heap new.heap a.window.region a.rec mid.frames new.frames (Some told) → Does
  by-slides Arena e c = absurd (none-some told (sym c.0))
  by-slides Count e c =
      by-collects Count e
      (subst (λ n. CollectsBy Count mid.heap new.heap a.window.region a.rec
      (roots_of a.rec.bridge (drop n mid.frames.slots) (top_temps mid.frames)) (Some told))
      (ap (λ (o : Option WindowRow). elim o [ None ↦ 0 | Some w ↦ w.base ]) a.is) c.0)
  by-slides Trace e c = record {
    facts = subst (λ (u : Collected). Told mid.heap new.heap a.window.region a.rec u) (sym (same_Some told c.0 c.1)) c.2;
    now = c.3.slid.own.0;
    own = c.3.own ∙ c.3.slid.own.1;
    number = c.3.slid.own.2;
    way = inl (e, slid-traced c.3);
  }

  -- a collection of the active region by its manager, which moves what it keeps or doesn't
  pub collecting : (slides : Truth) → CollectsTop slides mid new (Some told) → Does
  collecting false c = by-collects a.rec.manager refl (on-each mid _ c a.window a.is a.rec a.known)
  collecting true c = by-slides a.rec.manager refl (on-each mid _ c a.window a.is a.rec a.known)

-- Counting

module _ (old new : Parts) (v : Stack) (at : ℕ) (t : Tree) (code : Code) (s : State) (m : Machine) (z : Beside old v at t code s m)
    (gn : Grove new.cells new.regions) (a : Active old v)
    (c : Collects old new a.window.region a.rec (IsSpent old new v at t code s m z a)) where
  abbrev Going : ℕ → Type 0
  Going x = IsSpent old new v at t code s m z a x

  no-root : (x : ℕ) → LiesIn old.cells.heap a.rec.number x → Root old.cells.heap (roots_in old v a) x → Going x → ⊥
  no-root x lies stands spent = spent.1.no_root spent.2.0 x spent.2.1 stands

  before : (x : ℕ) (b : Body) → body_at new.cells.heap x ≡ Some b → body_at old.cells.heap x ≡ Some b
  before x b e = was old new v at z.serials z.grove z.stands (once old new v at t code s m z a) a Going c no-root x b e

  -- what is spent isn't kept
  pub spent-goes : (x : ℕ) (b : Body) → body_at old.cells.heap x ≡ Some b → LiesIn old.cells.heap a.rec.number x → Going x
      → holds new.cells.heap b.serial ≡ true → ⊥
  spent-goes x b e lies spent kept =
      let y = holds-back new.cells.heap b.serial kept in
      let slot : y.0 ≡ x = z.serials.differ y.0 x y.1 b (before y.0 y.1 y.2) e y.3 in
      none-some y.1 (sym (c.freed x lies spent) ∙ ap (body_at new.cells.heap) (sym slot) ∙ y.2)

  -- what isn't spent is kept
  pub unspent-stays : (x : ℕ) (b : Body) → body_at old.cells.heap x ≡ Some b → LiesIn old.cells.heap a.rec.number x → (Going x → ⊥)
      → holds new.cells.heap b.serial ≡ true
  unspent-stays x b e lies not =
      let d = held-body new.cells.heap x
      (root-stays old new v at z.serials z.grove z.stands (once old new v at t code s m z a) a Going c no-root x lies not) in
      let body : d.0 ≡ b = same_Some d.0 b (sym (before x d.0 d.1) ∙ e) in
      subst (λ (u : Body). holds new.cells.heap u.serial ≡ true) body (holds-there new.cells.heap x d.0 d.1)

  -- what a root leads to is kept
  pub root-kept : (n : ℕ) → In n (starts s.store s.frames s.windows) → (x : ℕ) (b : Body) → body_at old.cells.heap x ≡ Some b → b.serial ≡ n
      → LiesIn old.cells.heap a.rec.number x → holds new.cells.heap b.serial ≡ true
  root-kept n i x b e serial lies =
      let lead = lead-behind old new v at z.serials z.grove z.stands (once old new v at t code s m z a) a Going c no-root gn in
      subst (λ k. holds new.cells.heap k ≡ true) (sym serial)
      (start-kept old new v at t code s m z lead a Going c no-root n i
      (subst (λ k. region_at s.store k ≡ Some a.rec.number) serial (region-there old v at t code s m z a.rec.number x b e lies)))

-- the roots of the active region lead to addresses at which the state starts
module _ (old : Parts) (v : Stack) (at : ℕ) (t : Tree) (code : Code) (s : State) (m : Machine) (z : Beside old v at t code s m)
    (a : Active old v) where
  abbrev ws : TopShown (sizes_of (frames_of old.cells.heap v)) a.window a.rec.number s.windows
  ws = top-shown old v at t code s m z a

  pub root-starts : (x : ℕ) (b : Body) → Root old.cells.heap (roots_in old v a) x → body_at old.cells.heap x ≡ Some b
      → In b.serial (starts s.store s.frames s.windows)
  root-starts x b root e =
      subst (In b.serial) (sym (roots-are s ws.top ws.rest ws.is))
      (root-leads old v at t code s m z a (sole-window old v z.grove z.stands.opened a) (z.stands.bridges a.window.region a.rec a.known).1 x b root e)

-- Two collections of the same region

module _ (t : Tree) (code : Code) (s : State) (p n : Parts) (v : Stack) (at : ℕ) (m : Machine) (z : Beside p v at t code s m)
    (gn : Grove n.cells n.regions) (a : Active p v) (p₂ n₂ : Parts) (v₂ : Stack) (at₂ : ℕ) (m₂ : Machine) (z₂ : Beside p₂ v₂ at₂ t code s m₂)
    (gn₂ : Grove n₂.cells n₂.regions) (a₂ : Active p₂ v₂) (in-both : Within p.cells.heap p₂.cells.heap)
    (back : Within p₂.cells.heap p.cells.heap) (region : a.rec.number ≡ a₂.rec.number) (manager : a.rec.manager ≡ a₂.rec.manager) where
  abbrev near : Heap
  near = p.cells.heap

  abbrev far : Heap
  far = p₂.cells.heap

  counted : Collects p n a.window.region a.rec (IsSpent p n v at t code s m z a)
      → Collects p₂ n₂ a₂.window.region a₂.rec (IsSpent p₂ n₂ v₂ at₂ t code s m₂ z₂ a₂)
      → (x : ℕ) (b : Body) → body_at near x ≡ Some b → LiesIn near a.rec.number x → holds n.cells.heap b.serial ≡ true
      → holds n₂.cells.heap b.serial ≡ true
  counted c c₂ x b e lies kept =
      let y = mate near far a.rec.number x in-both lies in
      let mates = y.1 in
      let same : mates.here ≡ b = same_Some mates.here b (sym mates.held ∙ e) in
      let serial : mates.there.serial ≡ b.serial = sym mates.serial ∙ ap (λ (u : Body). u.serial) same in
      let lies₂ : LiesIn far a₂.rec.number y.0 =
      subst (λ k. LiesIn far k y.0) region (mates-lie near far a.rec.number x y.0 z₂.serials in-both mates lies) in
      subst (λ k. holds n₂.cells.heap k ≡ true) serial
      (unspent-stays p₂ n₂ v₂ at₂ t code s m₂ z₂ gn₂ a₂ c₂ y.0 mates.there mates.also lies₂ (λ spent.
      spent-goes p n v at t code s m z gn a c x b e lies
      (subst (λ k. Spent near k (roots_in p v a) x) (sym region)
      (spent-also far near z₂.serials z.serials back in-both a₂.rec.number (roots_in p₂ v₂ a₂) (roots_in p v a) never y.0 x
      (mates-back near far x y.0 mates) spent)) kept))
    where
      never : (i j : ℕ) → Spent far a₂.rec.number (roots_in p₂ v₂ a₂) i → Mates far near i j → Root near (roots_in p v a) j → ⊥
      never i j spent go root =
          let in-region = spent.1.lie spent.2.0 i spent.2.1 in
          spent-goes p₂ n₂ v₂ at₂ t code s m₂ z₂ gn₂ a₂ c₂ i go.here go.held in-region spent
          (root-kept p₂ n₂ v₂ at₂ t code s m₂ z₂ gn₂ a₂ c₂ go.there.serial (root-starts p v at t code s m z a j go.there root go.also) i go.here
          go.held go.serial in-region)

  -- what the one keeps of it the other keeps, too
  pub kept-also : (told told₂ : Collected) → Collecting p n v at t code s m z a told → Collecting p₂ n₂ v₂ at₂ t code s m₂ z₂ a₂ told₂
      → (x : ℕ) (b : Body) → body_at near x ≡ Some b → LiesIn near a.rec.number x → holds n.cells.heap b.serial ≡ true
      → holds n₂.cells.heap b.serial ≡ true
  kept-also told told₂ c c₂ x b e lies kept = by c.way c₂.way
    where
      by : ((a.rec.manager ≡ Trace) × Traced s near a.rec.number (holds n.cells.heap))
          ⊎ ((a.rec.manager ≡ Count) × Collects p n a.window.region a.rec (IsSpent p n v at t code s m z a))
          → ((a₂.rec.manager ≡ Trace) × Traced s far a₂.rec.number (holds n₂.cells.heap))
          ⊎ ((a₂.rec.manager ≡ Count) × Collects p₂ n₂ a₂.window.region a₂.rec (IsSpent p₂ n₂ v₂ at₂ t code s m₂ z₂ a₂))
          → holds n₂.cells.heap b.serial ≡ true
      by (inl (is, y)) (inl (is₂, y₂)) = y₂.on b.serial (y.back x b e lies kept)
      by (inl (is, y)) (inr (is₂, y₂)) = absurd (trace-apart (sym is ∙ manager ∙ is₂))
      by (inr (is, y)) (inl (is₂, y₂)) = absurd (trace-apart (sym is₂ ∙ sym manager ∙ is))
      by (inr (is, y)) (inr (is₂, y₂)) = counted y y₂ x b e lies kept
