-- Windows as the machine sees them.
use Rattle.std.proofs.Common.{◌≡◌, ◌≤◌, ℕ, suc, ◌-◌, List, [], ◌∷◌, Some, length, take, map, reverse, slice_get, nat_le, refl, sym, ap}
use Rattle.std.proofs.Common.{◌∙◌, arith}
use Rattle.std.proofs.lemmas.List.{reverse-append, length-reverse, length-take-le}
use Rattle.rg_base.specs.declared.object.Place.{Place}
use Rattle.rg_regions.specs.Table.{RegionTable}
use Rattle.rg_frames.specs.declared.rows.Window.{Window as WindowRow}
use Rattle.rg_frames.specs.Stack.{Stack, IsTop}
use Rattle.rg_frames.specs.Changes.{opened, closed}
use Rattle.rg_stack.specs.Effects.{begins_by}
use Rattle.rg_stack.specs.Tops.{top_region, top_window, without_top}
use Rattle.rg_view.specs.View.{number_of, window_of, windows_of}
use Rattle.rg_view.proofs.Callers.Frame.{last-reverse}

-- windows show the same where their regions keep their numbers
pub windows-same : (old new : RegionTable) (ws : List WindowRow) → ((i : ℕ) (w : WindowRow) → slice_get ws i ≡ Some w
    → number_of new w.region ≡ number_of old w.region) → map (window_of new) ws ≡ map (window_of old) ws
windows-same old new [] h = refl
windows-same old new (w ∷ ws) h =
    ap (λ r. record { number = w.number; region = r; owner = w.owner; base = w.base } ∷ map (window_of new) ws) (h 0 w refl)
    ∙ ap (λ us. window_of old w ∷ us) (windows-same old new ws (λ i u e. h (suc i) u e))

module _ (t : RegionTable) where
  -- the topmost window
  pub top-window : (v : Stack) (w : WindowRow) → IsTop v w
      → windows_of t v ≡ window_of t w ∷ map (window_of t) (reverse (take (length v.windows - 1) v.windows))
  top-window v w e = ap (map (window_of t)) (last-reverse v.windows w e)

  -- its region, its number, and where it begins
  pub active-region : (v : Stack) (w : WindowRow) → IsTop v w → top_region (windows_of t v) ≡ number_of t w.region
  active-region v w e = ap top_region (top-window v w e)

  pub active-number : (v : Stack) (w : WindowRow) → IsTop v w → top_window (windows_of t v) ≡ w.number
  active-number v w e = ap top_window (top-window v w e)

  pub begins-top : (v : Stack) (w : WindowRow) (place : ℕ) → IsTop v w → begins_by (windows_of t v) place ≡ nat_le w.base place
  begins-top v w place e = ap (λ ws. begins_by ws place) (top-window v w e)

  -- a window comes
  pub opened-windows : (v : Stack) (r : ℕ) (owner : Place) (base : ℕ)
      → windows_of t (opened v r owner base) ≡ record { number = v.next; region = number_of t r; owner = Some owner; base = base } ∷ windows_of t v
  opened-windows v r owner base =
      ap (map (window_of t)) (reverse-append v.windows (record { number = v.next; region = r; owner = Some owner; base = base } ∷ []))

  -- a window goes, where it isn't the last one
  pub closed-windows : (v : Stack) (w : WindowRow) → 2 ≤ length v.windows → IsTop v w → windows_of t (closed v) ≡ without_top (windows_of t v)
  closed-windows v w two top =
      let front = take (length v.windows - 1) v.windows in
      two-left w (reverse front)
      (omega (arith, two, length-reverse front, length-take-le (length v.windows - 1) v.windows (omega arith)))
      ∙ sym (ap (λ xs. without_top (map (window_of t) xs)) (last-reverse v.windows w top))
    where
      two-left : (w : WindowRow) (rest : List WindowRow) → 1 ≤ length rest
          → map (window_of t) rest ≡ without_top (map (window_of t) (w ∷ rest))
      two-left w [] some = absurd (omega (arith, some))
      two-left w (u ∷ us) some = refl
