-- Where windows begin: each in a frame that is there, and not behind the variables of that frame. For callers.
use Rattle.std.proofs.Common.{◌≡◌, refl, sym, ap, subst, ◌⊎◌, inl, inr, ℕ, ◌≤◌, List, [], ◌∷◌, ◌++◌, length, map, Some, ◌∙◌, arith}
use Rattle.std.specs.Prelude.{reverse}
use Rattle.rg_rules.specs.Acceptance.{Accepted}
use Rattle.rg_rules.specs.Bodies.{Body}
use Rattle.rg_rules.specs.Items.{Item}
use Rattle.rg_rules.specs.State.{Local, Target, Frame, Window}
use Rattle.rg_tree.specs.Tree.{Path, Tree}
use Rattle.rg_rules.specs.Points.{Spot, Point, spot_at}
use Rattle.rg_sound.specs.Windows.{LowestAlone, lowest}
use Rattle.rg_sound.specs.Frames.{leaves, Entered, Stands, Waits, WaitsEmpty, Beneath, Running}
use Rattle.rg_sound.proofs.Frames.Body.{body-right}
use Rattle.rg_sound.proofs.Frames.Method.{body-front}
use Rattle.rg_sound.proofs.Frames.Named.{Named-length}
use Rattle.rg_sound.proofs.Frames.Spot.{AllWithin, spot-right}

-- a window begins in one of these frames, which have the topmost first, not behind its variables
abbrev pub Based : List Frame → Window → Type 0
Based [] w = ⊥
Based (f ∷ fs) w = ((w.base_frame ≡ length fs) × (w.base_place ≤ length f.locals)) ⊎ Based fs w

pub entered_first : (n : ℕ) (ls : List Local) (ps : List Path) (w : Window) (own : List Window) → Entered n ls ps (w ∷ own) → w.base_frame ≡ n
entered_first n ls [] w own h = absurd h
entered_first n ls (p ∷ ps) w own h = h.0

-- a window that its frame has opened at a spot of its body
own_based : (t : Tree) → Accepted t → (f : Frame) (fs : List Frame) (under : List Window) (rest : List Item) (b : Body)
    → Beneath t fs under rest b f.target →
    (p : Point) (s : Spot) → spot_at t.classes b p ≡ Some s → (w : Window) (own : List Window) → Stands f (length fs) (w ∷ own) s →
    Based (f ∷ fs) w
own_based t a f fs under rest b h p s is w own stands =
    let right = body-right t a fs under rest b f.target h in
    let front = body-front t a fs under rest b f.target h in
    let bound : AllWithin (length b.front.entries) (leaves b.after) =
    let P : List ℕ → Type 0 = λ q. AllWithin (length b.front.entries) q in subst P (sym front.no_leave) tt in
    let spot = spot-right t.classes b.result b.front right.out b.block b.after [] p s front.distinct bound right.judged is in
    let T : ℕ → Type 0 = λ n. AllWithin n (leaves s.items) in
    let R : List ℕ → Type 0 = λ q. AllWithin (length f.locals) q in
    let bases : AllWithin (length f.locals) (map (λ (w : Window). w.base_place) (w ∷ own)) =
    subst R (sym stands.bases) (subst T (Named-length s.env.entries f.locals stands.named) spot.within) in
    inl (entered_first (length fs) f.locals (reverse s.enters) w own stands.entered, bases.0)

-- window 0 begins in front of the variables of main's frame
lowest_based : (f : Frame) (ws : List Window) (w : Window) (vs : List Window) → LowestAlone ws → ws ≡ w ∷ vs → Based (f ∷ []) w
lowest_based f ws w vs k is =
    let s : w ∷ vs ≡ lowest k.0 k.1 ∷ [] = sym is ∙ k.2 in
    let same : w ≡ lowest k.0 k.1 = grind arith in
    let P : Window → Type 0 = λ q. Based (f ∷ []) q in subst P (sym same) (inl (refl, omega arith))

-- the topmost window is one that the waiting frame has opened, or one beneath these
waits_based : (t : Tree) → Accepted t → (g : Frame) (gs : List Frame) (ws : List Window) (items : List Item) (b : Body) (target : Target) →
    (h : Beneath t (g ∷ gs) ws items b target) → (w : Window) (vs : List Window) → ws ≡ w ∷ vs → (h.2 ≡ w ∷ vs → Based (g ∷ gs) w) →
    Based (g ∷ gs) w
waits_based t a g gs ws items b target h w vs e go = by_own h.1 h.5 h.7
  where
    first : (x : Window) (xs : List Window) → ws ≡ x ∷ xs → x ≡ w
    first x xs is = let same : x ∷ xs ≡ w ∷ vs = sym is ∙ e in grind arith

    by_own : (own : List Window) → ws ≡ own ++ h.2 → Waits t.classes h.0 g (length gs) own h.3 b target ⊎ WaitsEmpty t h.0 g own h.3 b target →
        Based (g ∷ gs) w
    by_own [] is waits = go (sym is ∙ e)
    by_own (x ∷ own) is (inl q) = let P : Window → Type 0 = λ q. Based (g ∷ gs) q in
        subst P (first x (own ++ h.2) is) (own_based t a g gs h.2 h.4 h.0 h.8 q.point q.spot q.spot_is x own q.stands)
    by_own (x ∷ own) is (inr q) = let c : x ∷ own ≡ [] = q.no_window in grind arith

-- beneath a frame that was called
beneath_based : (t : Tree) → Accepted t → (g : Frame) (gs : List Frame) (ws : List Window) (items : List Item) (b : Body) (target : Target) →
    Beneath t (g ∷ gs) ws items b target → (w : Window) (vs : List Window) → ws ≡ w ∷ vs →
    Based (g ∷ gs) w
beneath_based t a g [] ws items b target h w vs e = waits_based t a g [] ws items b target h w vs e (λ is. lowest_based g h.2 w vs h.8.2 is)
beneath_based t a g (f ∷ fs) ws items b target h w vs e =
    waits_based t a g (f ∷ fs) ws items b target h w vs e (λ is. inr (beneath_based t a f fs h.2 h.4 h.0 g.target h.8 w vs is))

-- the topmost window of a running state
pub running-based : (t : Tree) → Accepted t → (f : Frame) (fs : List Frame) (ws : List Window) (items : List Item) → Running t f fs ws items →
    (w : Window) (vs : List Window) → ws ≡ w ∷ vs →
    Based (f ∷ fs) w
running-based t a f fs ws items r w vs e = by_own r.own r.windows_are r.stands
  where
    lower : (fs : List Frame) → Beneath t fs r.under r.rest r.body f.target → r.under ≡ w ∷ vs → Based (f ∷ fs) w
    lower [] k is = lowest_based f r.under w vs k.2 is
    lower (g ∷ gs) k is = inr (beneath_based t a g gs r.under r.rest r.body f.target k w vs is)

    by_own : (own : List Window) → ws ≡ own ++ r.under → Stands f (length fs) own r.spot → Based (f ∷ fs) w
    by_own [] is stands = lower fs r.beneath (sym is ∙ e)
    by_own (x ∷ own) is stands = let same : x ≡ w = let s : x ∷ (own ++ r.under) ≡ w ∷ vs = sym is ∙ e in grind arith in
        let P : Window → Type 0 = λ q. Based (f ∷ fs) q in
        subst P same (own_based t a f fs r.under r.rest r.body r.beneath r.point r.spot r.spot_is x own stands)

-- and where the running body has none open, that of the frames beneath
pub running-based-beneath : (t : Tree) → Accepted t → (f g : Frame) (gs : List Frame) (ws : List Window) (items : List Item) →
    (r : Running t f (g ∷ gs) ws items) →
    r.own ≡ [] → (w : Window) (vs : List Window) → ws ≡ w ∷ vs → Based (g ∷ gs) w
running-based-beneath t a f g gs ws items r none w vs e =
    beneath_based t a g gs r.under r.rest r.body f.target r.beneath w vs (ap (λ q. q ++ r.under) (sym none) ∙ sym r.windows_are ∙ e)
