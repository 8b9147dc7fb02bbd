-- What always holds says of the windows that their regions are in the table, and that the topmost one is there.
use Rattle.std.proofs.Common.{◌≡◌, ◌<◌, ◌==◌, ℕ, ◌-◌, Option, Some, length, slice_get, IsSome, refl, sym, ◌∙◌, subst, arith, true}
use Rattle.std.proofs.lemmas.Bool.{false≢true}
use Rattle.std.proofs.lemmas.Map.Keys.{any_passes_from_place as any-in}
use Rattle.rg_base.proofs.Callers.Lists.{there}
use Rattle.rg_regions.specs.Table.{Record, RegionTable, HasNumber, IsKey}
use Rattle.rg_frames.specs.declared.rows.Window.{Window}
use Rattle.rg_frames.specs.Stack.{Stack, IsTop, has_region}
use Rattle.rg_heap.specs.Parts.{Parts}
use Rattle.rg_heap.specs.Answers.{IsClosed}
use Rattle.rg_heap.specs.Opened.{IsWindow}
use Rattle.rg_view.specs.Numbers.{Numbers}
use Rattle.rg_machine.specs.Stands.{Stands}
use Rattle.rg_machine.proofs.New.Grow.{one-key}
use Rattle.rg_machine.proofs.Kept.{numbered}

-- the topmost window
pub top-window : (p : Parts) (v : Stack) → Stands p v → (w : Window) × IsTop v w
top-window p v st = let some = st.opened.some in there v.windows (length v.windows - 1) (omega (arith, some))

pub key-there : (t : RegionTable) (k n : ℕ) → HasNumber t k n → IsKey t k
key-there t k n h = let r = numbered t k n h in subst (λ (o : Option Record). IsSome o) (sym r.1) refl

-- windows are on regions of the table
pub windows-known : (p : Parts) (v : Stack) → Stands p v → (i : ℕ) (w : Window) → slice_get v.windows i ≡ Some w → IsKey p.regions w.region
windows-known p v st i w e = let k = st.opened.known i w e in key-there p.regions w.region k.0 k.1

-- a region was made, that of window 0
pub region-made : (p : Parts) (v : Stack) → Stands p v → 0 < p.regions.next
region-made p v st =
    let w = there v.windows 0 st.opened.some in
    let r = numbered p.regions w.0.region 0 (st.opened.first w.0 w.1) in
    let less = st.numbers.below w.0.region r.0 r.1 in
    omega (arith, less)

-- a window's region isn't closed
pub open-not : (t : RegionTable) (v : Stack) (i : ℕ) (w : Window) (n : ℕ) → Numbers t → IsWindow v i w → HasNumber t w.region n → IsClosed t v n → ⊥
open-not t v i w n q e has c =
    let same : w.region ≡ c.0 = one-key t w.region c.0 n q has c.1 in
    let test : (w.region == c.0) ≡ true = grind (arith, same) in
    false≢true (sym c.2 ∙ any-in (has_region c.0) v.windows i w e test)
