-- What callers cite: a collection by mark and sweep that moves what it keeps keeps as many objects of the active region as the state of the
-- machine that never frees reaches in it.
use Rattle.std.proofs.Common.{◌≡◌, ℕ, [], true, drop, length, Some, refl, sym, ap, ◌∙◌, subst, arith}
use Rattle.std.proofs.lemmas.Option.{none-some, same_Some}
use Rattle.rg_base.specs.declared.words.Manager.{Manager}
use Rattle.rg_base.specs.declared.words.Manager.TheVariants.{Arena, Count, Trace}
use Rattle.rg_tree.specs.Tree.{Tree}
use Rattle.rg_rules.specs.Reach.{plain_reach}
use Rattle.rg_rules.specs.State.{State}
use Rattle.rg_sound.specs.Fit.{Fit}
use Rattle.rg_code.specs.Code.{Code}
use Rattle.rg_cells.specs.Table.{Serials}
use Rattle.rg_regions.specs.Collection.{OfRegion, roots_of}
use Rattle.rg_regions.specs.Grove.{Grove, Members}
use Rattle.rg_regions.specs.Reach.{LiesIn}
use Rattle.rg_regions.specs.Reach.{Stands as Root}
use Rattle.rg_regions.specs.Table.{record_at}
use Rattle.rg_frames.specs.Stack.{Stack}
use Rattle.rg_stack.specs.Machine.{Machine}
use Rattle.rg_stack.specs.Needs.{owned_once}
use Rattle.rg_stack.specs.Shows.{Shows}
use Rattle.rg_regions.specs.Reach.{OutOfReach}
use Rattle.rg_heap.specs.declared.answers.Collected.{Collected}
use Rattle.rg_heap.specs.Collects.{Collects}
use Rattle.rg_heap.specs.Ends.{top_temps}
use Rattle.rg_heap.specs.Parts.{OnTop, Parts}
use Rattle.rg_heap.specs.Slides.{Slides, SlidesBy}
use Rattle.rg_view.specs.View.{machine_of}
use Rattle.rg_held.specs.Part.{Part}
use Rattle.rg_machine.specs.Collects.{holds}
use Rattle.rg_machine.specs.Parts.{Parts as Whole, machine_in}
use Rattle.rg_machine.specs.Stands.{Stands}
use Rattle.rg_machine.proofs.Callers.Collect.{Active, active, roots_in, serials-behind, stands-behind}
use Rattle.rg_machine.proofs.Callers.Part.{once-held}
use Rattle.rg_machine.proofs.Callers.Reach.{as-many}
use Rattle.rg_machine.proofs.Callers.ReachShown.{Beside}
use Rattle.rg_machine.proofs.Callers.Shift.{Shifted, members-back}
use Rattle.rg_machine.proofs.Callers.Slid.{base-is, moves}
use Rattle.rg_machine.proofs.Collect.Unmoved.{stayed, unmoved-collects, unmoved-leads, unmoved-shifted}
use Rattle.rg_machine.proofs.Callers.Active.{trace-apart}

module _ (old new : Parts) (v frames : Stack) (at : ℕ) (t : Tree) (code : Code) (s : State) (m : Machine) (z : Beside old v at t code s m)
    (gn : Grove new.cells new.regions) (a : Active old v) (sl : Slides old new a.window.region a.rec v frames) where
  abbrev pub left : Parts
  left = stayed old new v frames z.serials z.grove z.stands a sl

  abbrev pub Cell : ℕ → Type 0
  Cell x = OutOfReach old.cells.heap a.rec.number (roots_in old v a) x

  pub collects : Collects old left a.window.region a.rec Cell
  collects =
      subst (λ n. Collects old left a.window.region a.rec
      (OutOfReach old.cells.heap a.rec.number (roots_of a.rec.bridge (drop n v.slots) (top_temps v))))
      (base-is old v z.serials z.grove z.stands a sl.mid frames sl.slid) (unmoved-collects old new v frames z.serials z.grove z.stands a sl)

  pub once : owned_once (machine_of old v at) ≡ true
  once = once-held t code s (holds old.cells.heap) (machine_of old v at) m z.fit z.shows z.part

  pub root : (x : ℕ) → LiesIn old.cells.heap a.rec.number x → Root old.cells.heap (roots_in old v a) x → Cell x → ⊥
  root x lies stands cell = cell (0, omega arith, (lies, stands))

  pub stays : Stands left v
  stays = stands-behind old left v at z.serials z.grove z.stands once a Cell collects root

  pub shifted : Shifted (moves old v z.serials z.grove z.stands a sl.mid frames sl.slid) left.cells.heap new.cells.heap
  shifted = unmoved-shifted old new v frames z.serials z.grove z.stands a sl gn stays

  own : record_at new.regions a.window.region ≡ Some sl.slid.own.0
  own = sl.own ∙ sl.slid.own.1

  pub slid-members : length sl.slid.own.0.members ≡ length (plain_reach s)
  slid-members =
      let now = sl.slid.own.0 in
      let all : Members new.cells.heap a.rec.number now.members =
      subst (λ n. Members new.cells.heap n now.members) sl.slid.own.2 (gn.members a.window.region now own) in
      let us = members-back (moves old v z.serials z.grove z.stands a sl.mid frames sl.slid) left.cells.heap new.cells.heap shifted
      (serials-behind old left v at z.serials z.grove z.stands once a Cell collects root) a.rec.number now.members all in
      sym us.2 ∙ as-many old left v at t code s m z (unmoved-leads old new v frames z.serials z.grove z.stands a sl gn stays) a collects us.0 us.1

-- what is told of a collection of a region of mark and sweep, where its cells move
pub slid-traced : (t : Tree) (code : Code) (s : State) (mid new : Whole) (m : Machine) (told : Collected)
    → Fit t s → Shows t.classes code m s → Part (holds mid.heap.cells.heap) [] (machine_in mid) m []
    → Serials mid.heap.cells.heap → Grove mid.heap.cells mid.heap.regions → Grove new.heap.cells new.heap.regions
    → Stands mid.heap mid.frames → OnTop mid.frames (λ w. OfRegion mid.heap.regions w.region
    (λ rec. SlidesBy rec.manager mid.heap new.heap w.region rec mid.frames new.frames (Some told)))
    → told.manager ≡ Trace → told.kept ≡ length (plain_reach s)
slid-traced t code s mid new m told fit shows part serials g gn st slides is =
    by a.rec.manager refl (slides a.window a.is a.rec a.known)
  where
    a : Active mid.heap mid.frames
    a = active mid.heap mid.frames st.opened

    z : Beside mid.heap mid.frames mid.at t code s m
    z = record { serials = serials; grove = g; stands = st; fit = fit; shows = shows; part = part }

    by : (manager : Manager) → a.rec.manager ≡ manager
        → SlidesBy manager mid.heap new.heap a.window.region a.rec mid.frames new.frames (Some told)
        → told.kept ≡ length (plain_reach s)
    by Arena e x = absurd (none-some told (sym x.0))
    by Count e x =
        absurd (trace-apart (sym is ∙ ap (λ (x : Collected). x.manager) (same_Some told x.0.0 x.0.1) ∙ x.0.2.manager ∙ e))
    by Trace e x =
        ap (λ (x : Collected). x.kept) (same_Some told x.0 x.1) ∙ x.2.kept x.3.slid.own.0 (x.3.own ∙ x.3.slid.own.1)
        ∙ slid-members mid.heap new.heap mid.frames new.frames mid.at t code s m z gn a x.3
