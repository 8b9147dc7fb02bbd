-- What callers cite: a collection by mark and sweep keeps as many objects of the active region as the state of the machine that never frees
-- reaches in it from the topmost window's owner, its variables and its temporaries.
use Rattle.std.proofs.Common.{◌≡◌, ℕ, Bool as Truth, true, false, List, [], drop, length, map, Some, slice_get}
use Rattle.std.proofs.Common.{refl, sym, ap, ◌∙◌, subst, arith}
use Rattle.std.proofs.lemmas.List.{length-map}
use Rattle.std.proofs.lemmas.Option.{none-some, same_Some}
use Rattle.rg_base.specs.declared.object.Label.TheVariants.{Region}
use Rattle.rg_base.specs.declared.words.Manager.{Manager}
use Rattle.rg_base.specs.declared.words.Manager.TheVariants.{Arena, Count, Trace}
use Rattle.rg_tree.specs.Tree.{Tree}
use Rattle.rg_rules.specs.Reach.{plain_reach, starts}
use Rattle.rg_rules.specs.Regions.{among, region_at}
use Rattle.rg_rules.specs.State.{State, active as active_region}
use Rattle.rg_sound.specs.Fit.{Fit}
use Rattle.rg_sound.proofs.Stores.Member.{In, among-in, among-not}
use Rattle.rg_code.specs.Code.{Code}
use Rattle.rg_cells.specs.declared.cell.Body.{Body}
use Rattle.rg_cells.specs.Table.{Heap, Serials, body_at}
use Rattle.rg_regions.specs.Collection.{OfRegion, roots_of}
use Rattle.rg_regions.specs.Grove.{Grove, Members}
use Rattle.rg_regions.specs.Reach.{LiesIn}
use Rattle.rg_regions.specs.Reach.{Stands as Root}
use Rattle.rg_regions.specs.Table.{Record, record_at}
use Rattle.rg_regions.proofs.Callers.Told.{labelled_held}
use Rattle.rg_frames.specs.declared.rows.Window.{Window as WindowRow}
use Rattle.rg_frames.specs.Stack.{IsTop, Stack}
use Rattle.rg_stack.specs.Machine.{Machine}
use Rattle.rg_stack.specs.Shows.{Shows}
use Rattle.rg_regions.specs.Reach.{OutOfReach}
use Rattle.rg_heap.specs.declared.answers.Collected.{Collected}
use Rattle.rg_heap.specs.Answers.{AllLead}
use Rattle.rg_heap.specs.Collects.{Collects, CollectsBy}
use Rattle.rg_heap.specs.Ends.{top_temps}
use Rattle.rg_heap.specs.Parts.{OnTop, Parts}
use Rattle.rg_view.specs.View.{number_in}
use Rattle.rg_view.proofs.Callers.Shown.{held-body}
use Rattle.rg_view.proofs.Callers.Window.{active-region}
use Rattle.rg_held.specs.Part.{Part}
use Rattle.rg_view.proofs.Callers.Link.{label-in as label-there}
use Rattle.rg_machine.specs.Collects.{holds}
use Rattle.rg_machine.specs.Parts.{Parts as Whole, machine_in}
use Rattle.rg_machine.specs.Stands.{Stands}
use Rattle.rg_machine.proofs.Callers.Collect.{Active, active, lead-behind, roots_in, sole-window}
use Rattle.rg_machine.proofs.Callers.Gather.{holds-back}
use Rattle.rg_machine.proofs.Callers.Part.{once-held}
use Rattle.rg_machine.proofs.Callers.ReachCount.{distinct-map, mapped-back, mapped-in, serial_in}
use Rattle.rg_machine.proofs.Callers.ReachHeld.{body-was, reach-kept}
use Rattle.rg_machine.proofs.Callers.ReachPath.{distinct-reach, no-longer}
use Rattle.rg_machine.proofs.Callers.ReachRoot.{reach-in}
use Rattle.rg_machine.proofs.Callers.ReachShown.{Beside, label-of, lies-there}
use Rattle.rg_machine.proofs.Callers.Active.{trace-apart}

module _ (old new : Parts) (v : Stack) (at : ℕ) (t : Tree) (code : Code) (s : State) (m : Machine) (z : Beside old v at t code s m)
    (lead : (s : ℕ) → AllLead new.cells.heap s) (a : Active old v)
    (c : Collects old new a.window.region a.rec (OutOfReach old.cells.heap a.rec.number (roots_in old v a))) where
  abbrev h : Heap
  h = old.cells.heap

  abbrev h₂ : Heap
  h₂ = new.cells.heap

  abbrev r : ℕ
  r = a.rec.number

  abbrev Cell : ℕ → Type 0
  Cell x = OutOfReach h r (roots_in old v a) x

  no-root : (x : ℕ) → LiesIn h r x → Root h (roots_in old v a) x → Cell x → ⊥
  no-root x lies stands cell = cell (0, omega arith, (lies, stands))

  was : (x : ℕ) (b : Body) → body_at h₂ x ≡ Some b → body_at h x ≡ Some b
  was x b e = body-was old new v at t code s m z lead a Cell c no-root x b e

  -- a cell that is still held in the region has its serial among what is reached
  pub kept-in : (x : ℕ) (b : Body) → body_at h₂ x ≡ Some b → LiesIn h₂ r x → In b.serial (plain_reach s)
  kept-in x b e lies = by (among (plain_reach s) b.serial) refl
    where
      before : LiesIn h r x
      before = label-there h x b (Region r) (was x b e) (label-of h₂ x b (Region r) e lies)

      by : (y : Truth) → among (plain_reach s) b.serial ≡ y → In b.serial (plain_reach s)
      by true is = among-in (plain_reach s) b.serial is
      by false is = absurd (none-some b (sym (c.freed x before (λ reach. among-not (plain_reach s) b.serial is
          (reach-in old v at t code s m z a (sole-window old v z.grove z.stands.opened a) (z.stands.bridges a.window.region a.rec a.known).1 x b reach (was x b e)))) ∙ e))

  abbrev serial_at : ℕ → ℕ
  serial_at x = serial_in (body_at h₂ x)

  module _ (members : List ℕ) (all : Members h₂ r members) where
    -- a member with its body
    record Member (i x : ℕ) : Type 0 where
      pub lies : LiesIn h₂ r x
      pub body : Body
      pub held : body_at h₂ x ≡ Some body
      pub serial : serial_at x ≡ body.serial

    member : (i x : ℕ) → slice_get members i ≡ Some x → Member i x
    member i x e =
        let lies = all.lie i x e in
        let b = held-body h₂ x (labelled_held h₂ x (Region r) lies) in
        record { lies = lies; body = b.0; held = b.1; serial = ap serial_in b.1 }

    members-in : (n : ℕ) → In n (map serial_at members) → In n (plain_reach s)
    members-in n i =
        let x = mapped-back serial_at members n i in
        let y = member x.0 x.1 x.2 in
        subst (λ k. In k (plain_reach s)) (sym y.serial ∙ x.3) (kept-in x.1 y.body y.held y.lies)

    in-members : (n : ℕ) → In n (plain_reach s) → In n (map serial_at members)
    in-members n i =
        let k = reach-kept old new v at t code s m z lead a Cell c no-root n i in
        let x = holds-back h₂ n k.0 in
        let before = was x.0 x.1 x.2 in
        let lies : LiesIn h r x.0 = lies-there old v at t code s m z r x.0 x.1 before (ap (region_at s.store) x.3 ∙ k.1) in
        let now : LiesIn h₂ r x.0 = label-there h₂ x.0 x.1 (Region r) x.2 (label-of h x.0 x.1 (Region r) before lies) in
        let place = all.all x.0 now in
        subst (λ k. In k (map serial_at members)) (ap serial_in x.2 ∙ x.3) (mapped-in serial_at members place.0 x.0 place.1)

    pub as-many : length members ≡ length (plain_reach s)
    as-many =
        let one = no-longer (map serial_at members) (plain_reach s)
        (distinct-map serial_at members (λ i j x y e f same.
        let b = member i x e in
        let d = member j y f in
        let slot : x ≡ y = z.serials.differ x y b.body d.body (was x b.body b.held) (was y d.body d.held) (sym b.serial ∙ same ∙ d.serial) in
        all.once i j x e (f ∙ ap Some (sym slot)))) members-in in
        let two = no-longer (plain_reach s) (map serial_at members)
        (distinct-reach (active_region s.windows) s.store (starts s.store s.frames s.windows)) in-members in
        let count = length-map members serial_at in
        omega (arith, one, two, count)

  pub members-reached : Grove new.cells new.regions → (now : Record) → record_at new.regions a.window.region ≡ Some now
      → length now.members ≡ length (plain_reach s)
  members-reached gn now e =
      let same : c.own.0 ≡ now = same_Some c.own.0 now (sym c.own.1 ∙ e) in
      let number : now.number ≡ r = ap (λ (x : Record). x.number) (sym same) ∙ c.own.2 in
      as-many now.members (subst (λ n. Members h₂ n now.members) number (gn.members a.window.region now e))

-- A collection by mark and sweep tells how many objects of the active region the state reaches.
pub kept-reached : (t : Tree) (code : Code) (s : State) (mid new : Whole) (m : Machine) (w : WindowRow) (rec : Record) (told : Collected)
    → Fit t s → Shows t.classes code m s → Part (holds mid.heap.cells.heap) [] (machine_in mid) m []
    → Serials mid.heap.cells.heap → Grove mid.heap.cells mid.heap.regions → Grove new.heap.cells new.heap.regions
    → Stands mid.heap mid.frames → IsTop mid.frames w → record_at mid.heap.regions w.region ≡ Some rec
    → CollectsBy Trace mid.heap new.heap w.region rec (roots_of rec.bridge (drop w.base mid.frames.slots) (top_temps mid.frames)) (Some told)
    → told.kept ≡ length (plain_reach s)
kept-reached t code s mid new m w rec told fit shows part serials g gn st top known by =
    let a : Active mid.heap mid.frames = record {
      window = w;
      rec = rec;
      is = top;
      known = known;
      shown = active-region mid.heap.regions mid.frames w top ∙ ap number_in known;
    } in
    let z : Beside mid.heap mid.frames mid.at t code s m = record {
      serials = serials;
      grove = g;
      stands = st;
      fit = fit;
      shows = shows;
      part = part;
    } in
    let same : told ≡ by.0 = same_Some told by.0 by.1 in
    let now = by.3.own in
    let once = once-held t code s (holds mid.heap.cells.heap) (machine_in mid) m fit shows part in
    let Cell : ℕ → Type 0 = OutOfReach mid.heap.cells.heap rec.number (roots_in mid.heap mid.frames a) in
    let lead = lead-behind mid.heap new.heap mid.frames mid.at serials g st once a Cell by.3
    (λ x lies stands cell. cell (0, omega arith, (lies, stands))) gn in
    ap (λ (x : Collected). x.kept) same ∙ by.2.kept now.0 now.1
    ∙ members-reached mid.heap new.heap mid.frames mid.at t code s m z lead a by.3 gn now.0 now.1

-- the same of what is told of a collection by the region's own manager, where that is told to be mark and sweep
pub kept-traced : (t : Tree) (code : Code) (s : State) (mid new : Whole) (m : Machine) (told : Collected)
    → Fit t s → Shows t.classes code m s → Part (holds mid.heap.cells.heap) [] (machine_in mid) m []
    → Serials mid.heap.cells.heap → Grove mid.heap.cells mid.heap.regions → Grove new.heap.cells new.heap.regions
    → Stands mid.heap mid.frames → OnTop mid.frames (λ w. OfRegion mid.heap.regions w.region
    (λ rec. CollectsBy rec.manager mid.heap new.heap w.region rec
    (roots_of rec.bridge (drop w.base mid.frames.slots) (top_temps mid.frames)) (Some told)))
    → told.manager ≡ Trace → told.kept ≡ length (plain_reach s)
kept-traced t code s mid new m told fit shows part serials g gn st collects is =
    by a.rec.manager refl (collects a.window a.is a.rec a.known)
  where
    a : Active mid.heap mid.frames
    a = active mid.heap mid.frames st.opened

    by : (manager : Manager) → a.rec.manager ≡ manager
        → CollectsBy manager mid.heap new.heap a.window.region a.rec (roots_of a.rec.bridge (drop a.window.base mid.frames.slots)
        (top_temps mid.frames))
        (Some told)
        → told.kept ≡ length (plain_reach s)
    by Arena e x = absurd (none-some told (sym x.0))
    by Count e x =
        absurd (trace-apart (sym is ∙ ap (λ (x : Collected). x.manager) (same_Some told x.0 x.1) ∙ x.2.manager ∙ e))
    by Trace e x = kept-reached t code s mid new m a.window a.rec told fit shows part serials g gn st a.is a.known x
