-- What all that holds between two calls gives for each call (docs/architecture.md, "The heap").
use Rattle.std.proofs.Common.{◌≡◌, ℕ, zero, suc, ◌+◌, ◌-◌, ◌<◌, List, [], ◌∷◌, Some, refl, ap, sym, ◌∙◌}
use Rattle.std.proofs.Common.{inl, inr, Bool, true, false, ◌||◌, slice_get, drop, take, arith, length, get_or}
use Rattle.std.specs.List.{list_any}
use Rattle.std.proofs.lemmas.Bool.Decides.{eqb_tells}
use Rattle.std.proofs.Math.Seq.{take-length}
use Rattle.std.proofs.lemmas.Option.{same_Some}
use Rattle.rg_regions.specs.Table.{HasNumber}
use Rattle.rg_regions.specs.Grove.{Grove, Above, direct, further}
use Rattle.rg_frames.specs.declared.rows.Window.{Window}
use Rattle.rg_frames.specs.Stack.{Stack, has_region, mark}
use Rattle.rg_heap.specs.Parts.{Parts}
use Rattle.rg_heap.specs.Answers.{IsClosed}
use Rattle.rg_heap.specs.Ends.{top_temps}
use Rattle.rg_heap.specs.Opened.{Opened, IsWindow, IsTempOf}

-- a region that a window has is open
pub any_at : (ws : List Window) (i key : ℕ) (w : Window) → slice_get ws i ≡ Some w → w.region ≡ key → list_any (has_region key) ws ≡ true
any_at [] i key w e r = cc
any_at (x ∷ ws) zero key w e r =
    let q : x.region ≡ key = ap (λ (y : Window). y.region) (same_Some x w e) ∙ r in
    elim (eqb_tells x.region key) [ inl y ↦ rw y.0 refl | inr y ↦ absurd (y.1 q) ]
any_at (x ∷ ws) (suc i) key w e r = rw (any_at ws i key w e r) (or_true (has_region key x))
  where
    or_true : (b : Bool) → (b || true) ≡ true
    or_true true = refl
    or_true false = refl

-- a window's region isn't closed
pub open_not_closed : (p : Parts) (v : Stack) (i n : ℕ) (w : Window) → Grove p.cells p.regions → IsWindow v i w → HasNumber p.regions w.region n
    → IsClosed p.regions v n → ⊥
open_not_closed p v i n w g e has c =
    let k : w.region ≡ c.0 = g.numbers w.region c.0 n has c.1 in
    let z : true ≡ false = sym (any_at v.windows i c.0 w e k) ∙ c.2 in
    cc

-- what is above an open region is open
pub above_open : (p : Parts) (v : Stack) (q n : ℕ) → Opened p v → Above p.cells.heap q n → (i : ℕ) (w : Window) → IsWindow v i w
    → HasNumber p.regions w.region n → (j : ℕ) × (u : Window) × IsWindow v j u × HasNumber p.regions u.region q
above_open p v q n o (direct a) i w e has = let x = o.parents i w n q e has a in (x.0, x.1, x.3, x.4)
above_open p v q n o (further {q = m} a b) i w e has =
    let x = o.parents i w n m e has b in
    above_open p v q m o a x.0 x.1 x.3 x.4

-- an element of what is left of a list
got_drop : (n : ℕ) (xs : List ℕ) (i s : ℕ) → slice_get (drop n xs) i ≡ Some s → (j : ℕ) × (j ≡ n + i) × (slice_get xs j ≡ Some s)
got_drop zero xs i s e = (i, omega arith, e)
got_drop (suc n) [] i s e = cc
got_drop (suc n) (x ∷ xs) i s e = let r = got_drop n xs i s e in let q = r.1 in (suc r.0, omega (arith, q), r.2)

get_past : (xs : List ℕ) (n d : ℕ) → length xs ≡ n → get_or xs n d ≡ d
get_past [] n d e = refl
get_past (x ∷ xs) zero d e = absurd (omega (arith, e))
get_past (x ∷ xs) (suc n) d e = get_past xs n d (omega (arith, e))

-- the temporaries of the top window
top_temp : (v : Stack) (i s : ℕ) → length v.marks ≡ length v.windows → 0 < length v.windows → slice_get (top_temps v) i ≡ Some s
    → IsTempOf v (length v.windows - 1) s
top_temp v i s e l a =
    let n = length v.windows in
    let q : n - 1 + 1 ≡ n = omega (arith, l) in
    let b : get_or v.marks (n - 1 + 1) (length v.temps) ≡ length v.temps =
    ap (λ k. get_or v.marks k (length v.temps)) q ∙ get_past v.marks n (length v.temps) e in
    let t : take (get_or v.marks (n - 1 + 1) (length v.temps)) v.temps ≡ v.temps = ap (λ k. take k v.temps) b ∙ take-length v.temps in
    let m : mark v ≡ get_or v.marks (n - 1) 0 = ap (λ k. get_or v.marks (k - 1) 0) e in
    (i, ap (λ ts. slice_get (drop (get_or v.marks (n - 1) 0) ts) i) t ∙ ap (λ k. slice_get (drop k v.temps) i) (sym m) ∙ a)

window_at : (ws : List Window) (i : ℕ) → i < length ws → (w : Window) × (slice_get ws i ≡ Some w)
window_at [] i l = absurd (omega (arith, l))
window_at (w ∷ ws) zero l = (w, refl)
window_at (w ∷ ws) (suc i) l = window_at ws i (omega (arith, l))
