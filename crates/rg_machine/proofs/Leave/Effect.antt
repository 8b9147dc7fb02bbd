-- The machine behind a window that is left.
use Rattle.std.proofs.Common.{◌≡◌, ◌≤◌, ◌<◌, ℕ, ◌-◌, List, [], ◌∷◌, ◌++◌, length, map, reverse, take, drop, Option, Some, None, refl, sym, ap, ◌∙◌}
use Rattle.std.proofs.Common.{arith}
use Rattle.std.proofs.lemmas.List.{length-reverse, length-take-le}
use Rattle.rg_base.specs.declared.object.Seen.{Seen}
use Rattle.rg_rules.specs.Regions.{region_at}
use Rattle.rg_regions.specs.Table.{RegionTable}
use Rattle.rg_frames.specs.declared.rows.Window.{Window as WindowRow}
use Rattle.rg_frames.specs.Stack.{Stack, IsTop}
use Rattle.rg_stack.specs.Machine.{Machine, end_slots, top_slots}
use Rattle.rg_stack.specs.Effects.{beneath_by_labels, with_store}
use Rattle.rg_stack.specs.Tops.{Work, without_top}
use Rattle.rg_held.specs.Frees.{bury, closed_among, closed_by_temps, forgotten, freed, left_with, window_that_ends}
use Rattle.rg_view.specs.Links.{Reached, Spans}
use Rattle.rg_view.specs.View.{window_of, windows_of}
use Rattle.rg_view.proofs.Callers.Gone.After.{forget-bury}
use Rattle.rg_view.proofs.Callers.Gone.Beneath.{beneath-spans, bury-names}
use Rattle.rg_view.proofs.Callers.Frame.{last-reverse}
use Rattle.rg_view.proofs.Callers.Gone.Managers.{remembered}
use Rattle.rg_machine.specs.Core.{Core, work_of}
use Rattle.rg_machine.specs.Effects.{ending}
use Rattle.rg_machine.proofs.Leave.Lists.{by-temps, by-temp-stays, by-temp-was, spans-names, split-names}

-- where two windows are open, the topmost one ends
pub ends-window : (t : RegionTable) (v : Stack) (w : WindowRow) → 2 ≤ length v.windows → IsTop v w
    → window_that_ends (windows_of t v) ≡ Some w.number
ends-window t v w two top =
    let front = take (length v.windows - 1) v.windows in
    ap (λ ws. window_that_ends (map (window_of t) ws)) (last-reverse v.windows w top)
    ∙ some-left (reverse front) (omega (arith, two, length-reverse front, length-take-le (length v.windows - 1) v.windows (omega arith)))
  where
    some-left : (rest : List WindowRow) → 1 ≤ length rest → window_that_ends (map (window_of t) (w ∷ rest)) ≡ Some w.number
    some-left [] some = absurd (omega (arith, some))
    some-left (u ∷ us) some = refl

-- where one is alone, none does
pub ends-none : (t : RegionTable) (v : Stack) → length v.windows < 2 → window_that_ends (windows_of t v) ≡ None
ends-none t v few = alone (reverse v.windows) (omega (arith, few, length-reverse v.windows))
  where
    alone : (ws : List WindowRow) → length ws < 2 → window_that_ends (map (window_of t) ws) ≡ None
    alone [] few = refl
    alone (w ∷ []) few = refl
    alone (w ∷ u ∷ ws) few = absurd (omega (arith, few))

-- regions of objects are those that were made
abbrev pub Within : List Seen → ℕ → Type 0
Within store n = (a r : ℕ) → region_at store a ≡ Some r → r < n

-- the machine in front of the window's end, in which these go, with a window's temporaries
abbrev pub left_by : Machine → (regions : List ℕ) → Option ℕ → Machine
left_by m regions temps = record m {
  store = bury regions temps m.store;
  managers = remembered m.windows (bury regions temps m.store) m.managers;
  windows = without_top m.windows;
}

module _ (c : Core) (s n : ℕ) (bound : Within c.machine.store (length c.machine.managers)) (input : List ℕ) where
  abbrev w : Work
  w = work_of c input

  abbrev early : List ℕ
  early = closed_among c.machine (drop s (top_slots c.machine.frames))

  abbrev regions : List ℕ
  regions = beneath_by_labels c.machine.store (length c.machine.managers) early

  abbrev mid : Machine
  mid = (ending c s).machine

  -- what goes with the window in one step, and in two
  pub same-buried : (late : List ℕ) → Spans mid.store (closed_by_temps mid) late
      → bury (regions ++ late) (Some n) c.machine.store
      ≡ bury (beneath_by_labels c.machine.store (length c.machine.managers) (early ++ closed_by_temps c.machine)) (Some n) c.machine.store
  same-buried late spans =
      let all = early ++ closed_by_temps c.machine in
      let here = by-temps c.machine in
      let there = by-temps mid in
      bury-names (Reached c.machine.store all) (regions ++ late) (beneath_by_labels c.machine.store (length c.machine.managers) all)
      (split-names c.machine.store early (closed_by_temps c.machine) (closed_by_temps mid) regions late
      (beneath-spans c.machine.store (length c.machine.managers) bound early) spans
      (λ r i. here.all r (by-temp-was c.machine mid regions refl refl r (there.only r i)))
      (λ r i out. there.all r (by-temp-stays c.machine mid regions refl refl r (here.only r i) out)))
      (spans-names c.machine.store all (beneath_by_labels c.machine.store (length c.machine.managers) all)
      (beneath-spans c.machine.store (length c.machine.managers) bound all))
      (Some n) c.machine.store

  pub left-machine : (late : List ℕ) → Spans mid.store (closed_by_temps mid) late → window_that_ends c.machine.windows ≡ Some n
      → left_by mid late (Some n)
      ≡ (let x = (freed (Some (left_with c.machine s (window_that_ends c.machine.windows))) w).machine in
      record (end_slots x s) { windows = without_top x.windows })
  left-machine late spans ends =
      ap (λ (x : Work). record (end_slots x.machine s) { windows = without_top x.machine.windows })
      (forget-bury w regions late (Some n)
      ∙ ap (λ store. forgotten (with_store w store)) (same-buried late spans))
      ∙ sym (ap (λ e. (let x = (freed (Some (left_with c.machine s e)) w).machine in
      record (end_slots x s) { windows = without_top x.windows })) ends)
