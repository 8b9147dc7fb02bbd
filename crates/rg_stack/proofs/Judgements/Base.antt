-- That a window is open, and where the topmost one begins, in a state that fits.
use Rattle.std.proofs.Common.{◌≡◌, ℕ, ◌+◌, ◌≤◌, true, false, Bool as Truth, if◌then◌else◌, List, [], ◌∷◌, ◌++◌, length, refl, sym, ap, subst, arith}
use Rattle.rg_tree.specs.Tree.{Tree}
use Rattle.rg_rules.specs.Acceptance.{Accepted}
use Rattle.rg_rules.specs.Items.{Item}
use Rattle.rg_rules.specs.Bodies.{Body}
use Rattle.rg_rules.specs.State.{Target, Frame, Window}
use Rattle.rg_sound.specs.Windows.{covers, windows_of, lowest}
use Rattle.rg_sound.specs.Frames.{Beneath, Running}
use Rattle.rg_sound.proofs.Base.{running-based, running-based-beneath}
use Rattle.rg_stack.specs.Machine.{Frame as Shown, Window as Opened, slots_below}
use Rattle.rg_stack.specs.Effects.{begins_by}
use Rattle.rg_stack.specs.Shows.{ShowsFrames, ShowsWindows, sizes_of}
use Rattle.rg_stack.proofs.Callers.Base.{based-bound, lower-within, covered-bound, begins-there}

-- a window, and those beneath it
pub record WindowThere (ws : List Window) : Type 0 where
  pub top : Window
  pub under : List Window
  pub are : ws ≡ top ∷ under

there-under : (own under : List Window) → WindowThere under → WindowThere (own ++ under)
there-under [] under h = h
there-under (w ∷ ws) under h = record { top = w; under = ws ++ under; are = refl }

pub beneath-window : (t : Tree) (fs : List Frame) (ws : List Window) (items : List Item) (b : Body) (target : Target)
    → Beneath t fs ws items b target → WindowThere ws
beneath-window t [] ws items b target h = record { top = lowest h.2.0 h.2.1; under = []; are = h.2.2 }
beneath-window t (f ∷ fs) ws items b target h = subst WindowThere (sym h.5) (there-under h.1 h.2 (beneath-window t fs h.2 h.4 h.0 f.target h.8))

pub running-window : (t : Tree) (f : Frame) (fs : List Frame) (ws : List Window) (items : List Item) → Running t f fs ws items → WindowThere ws
running-window t f fs ws items h = subst WindowThere (sym h.windows_are)
    (there-under h.own h.under (beneath-window t fs h.under h.rest h.body f.target h.beneath))

-- the topmost window begins at the first slot behind the running body's variables, or in front of it
pub top-begins : (t : Tree) → Accepted t → (mf : Shown) (mfs : List Shown) (mws : List Opened) (f : Frame) (fs : List Frame) (ws : List Window)
    (items : List Item) → ShowsFrames (mf ∷ mfs) (f ∷ fs) → ShowsWindows (sizes_of (mf ∷ mfs)) mws ws
    → Running t f fs ws items → begins_by mws (slots_below mfs + length f.locals) ≡ true
top-begins t accepted mf mfs mws f fs ws items shows windows h =
    let w = running-window t f fs ws items h in
    begins-there (sizes_of (mf ∷ mfs)) mws w.top w.under (slots_below mfs + length f.locals)
    (subst (ShowsWindows (sizes_of (mf ∷ mfs)) mws) w.are windows)
    (based-bound mf mfs f fs w.top shows (running-based t accepted f fs ws items h w.top w.under w.are))

-- a window that is the highest one not behind a variable
shorter : (n k : ℕ) (ws : List Window) → length (windows_of n k ws) ≤ length ws
shorter n k [] = omega arith
shorter n k (w ∷ ws) = by (covers n k w) (shorter n k ws)
  where
    by : (b : Truth) → length (windows_of n k ws) ≤ length ws → length (if b then w ∷ ws else windows_of n k ws) ≤ length (w ∷ ws)
    by true less = omega arith
    by false less = omega (arith, less)

covered : (n k : ℕ) (w : Window) (ws : List Window) → windows_of n k (w ∷ ws) ≡ w ∷ ws → covers n k w ≡ true
covered n k w ws e = by (covers n k w) e
  where
    by : (b : Truth) → (if b then w ∷ ws else windows_of n k ws) ≡ w ∷ ws → b ≡ true
    by true e = refl
    by false e = let less = shorter n k ws in absurd (omega (arith, less, ap length e))

-- at the slot of a variable that all windows see the topmost one begins, or in front of it
pub seen-begins : (t : Tree) → Accepted t → (mf : Shown) (mfs : List Shown) (mws : List Opened) (f : Frame) (fs : List Frame) (ws : List Window)
    (items : List Item) → ShowsFrames (mf ∷ mfs) (f ∷ fs) → ShowsWindows (sizes_of (mf ∷ mfs)) mws ws
    → Running t f fs ws items → (k : ℕ) → windows_of (length fs) k ws ≡ ws → begins_by mws (slots_below mfs + k) ≡ true
seen-begins t accepted mf mfs mws f fs ws items shows windows h k all =
    let w = running-window t f fs ws items h in
    begins-there (sizes_of (mf ∷ mfs)) mws w.top w.under (slots_below mfs + k) (subst (ShowsWindows (sizes_of (mf ∷ mfs)) mws) w.are windows)
    (covered-bound mf mfs f fs w.top k shows (running-based t accepted f fs ws items h w.top w.under w.are)
    (covered (length fs) k w.top w.under (subst (λ q. windows_of (length fs) k q ≡ q) w.are all)))

-- and where the running body has none open, at the first slot behind the frames beneath, or in front of it
pub beneath-begins : (t : Tree) → Accepted t → (mf mg : Shown) (mfs : List Shown) (mws : List Opened) (f g : Frame) (fs : List Frame)
    (ws : List Window) (items : List Item) → ShowsFrames (mf ∷ mg ∷ mfs) (f ∷ g ∷ fs)
    → ShowsWindows (sizes_of (mf ∷ mg ∷ mfs)) mws ws → (h : Running t f (g ∷ fs) ws items) → h.own ≡ [] → begins_by mws (slots_below (mg ∷ mfs))
    ≡ true
beneath-begins t accepted mf mg mfs mws f g fs ws items shows windows h none =
    let w = running-window t f (g ∷ fs) ws items h in
    let based = running-based-beneath t accepted f g fs ws items h none w.top w.under w.are in
    let first = subst (ShowsWindows (sizes_of (mf ∷ mg ∷ mfs)) mws) w.are windows in
    begins-there (sizes_of (mf ∷ mg ∷ mfs)) mws w.top w.under (slots_below (mg ∷ mfs)) first (lower-within mf mg mfs g fs w.top shows.1 based)
