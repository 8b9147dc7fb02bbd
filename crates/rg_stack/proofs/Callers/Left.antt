-- What stands behind the first item, and beneath the topmost frame and window, in a state that fits.
use Rattle.std.proofs.Common.{◌≡◌, ℕ, true, false, true≢false, ◌⊎◌, inl, inr, List, [], ◌∷◌, ◌++◌, length, map, Option, Some, refl, sym, ap, subst}
use Rattle.std.proofs.Common.{◌∙◌, append_assoc, unwrap_or, slice_get, None, arith}
use Rattle.std.specs.Prelude.{Bool as Truth, drop, reverse}
use Rattle.std.specs.Result.{result_ok}
use Rattle.rg_base.specs.declared.ty.Ty.{Ty}
use Rattle.rg_tree.specs.Tree.{Name, Path, stmt, Stmt, Block, empty as none, then as more_of, Class, Tree}
use Rattle.rg_rules.specs.Acceptance.{Accepted}
use Rattle.rg_rules.specs.Environment.{Env}
use Rattle.rg_rules.specs.Items.{Item, Do, EndAt, LeaveAt, LeaveGiving, Back, leave_of, items_of}
use Rattle.rg_rules.specs.Statements.{judge_stmt, last_of}
use Rattle.rg_rules.specs.Bodies.{Body, main_body}
use Rattle.rg_rules.specs.Points.{Point, here, behind, inside, Spot, spot_in, spot_at, inner_block, block_end, entered_path}
use Rattle.rg_rules.specs.State.{Local, Target, Frame, Window}
use Rattle.rg_rules.proofs.Point.{and_then-some}
use Rattle.rg_sound.specs.Frames.{leaves, Entered, Waits, WaitsEmpty, Beneath, Running}
use Rattle.rg_sound.proofs.Base.{entered_first}
use Rattle.rg_sound.proofs.Frames.Spot.{leaves-leave_of}
use Rattle.rg_stack.specs.Left.{SomeLeft}
use Rattle.rg_stack.proofs.Judgements.Spot.{leaves_frame, inner_stays}
use Rattle.rg_stack.proofs.Judgements.Base.{WindowThere, beneath-window}
use Rattle.rg_stack.proofs.Judgements.Begin.{body-judged}

-- a spot's items end in what is done behind the body

items_end : (b : Block) (after : List Item) → (front : List Item) × (items_of b after ≡ front ++ after)
items_end none after = ([], refl)
items_end (more_of s b) after = let h = items_end b after in (Do s ∷ h.0, ap (λ l. Do s ∷ l) h.1)

pub spot-ends : (classes : List Class) (result : Option Ty) (env : Env) (b : Block) (after : List Item) (round : List Path) (p : Point) (s : Spot)
    → spot_in classes result env b after round p ≡ Some s
    → (front : List Item) × (s.items ≡ front ++ after)
spot-ends classes result env b after round here s is =
    let same : record { env = env; items = items_of b after; enters = round } ≡ s = grind arith in
    let h = items_end b after in (h.0, sym (ap (λ (s : Spot). s.items) same) ∙ h.1)
spot-ends classes result env none after round (behind p) s is = grind arith
spot-ends classes result env none after round (inside side p) s is = grind arith
spot-ends classes result env (more_of u b) after round (behind p) s is =
    let m = and_then-some (result_ok (judge_stmt classes (last_of result b) env u)) (λ mid. spot_in classes result mid b after round p) s is in
    spot-ends classes result m.0 b after round p s m.2
spot-ends classes result env (more_of (stmt line k) b) after round (inside side p) s is =
    let i = and_then-some (inner_block classes env k side) _ s is in
    let h = spot-ends classes None i.0.env i.0.block (block_end (length env.entries) line k ++ items_of b after) (round ++ entered_path k) p s i.2 in
    let g = items_end b after in (
      h.0 ++ (block_end (length env.entries) line k ++ g.0),
      h.1 ∙ ap (λ l. h.0 ++ (block_end (length env.entries) line k ++ l)) g.1 ∙ regroup h.0 (block_end (length env.entries) line k) g.0 after,
    )
  where
    regroup : (a b c d : List Item) → a ++ (b ++ (c ++ d)) ≡ (a ++ (b ++ c)) ++ d
    regroup a b c d = simp append_assoc

-- items are left

pub left-front : (xs ys : List Item) → SomeLeft xs → SomeLeft (xs ++ ys)
left-front [] ys h = absurd h
left-front (x ∷ xs) ys h = tt

pub left-back : (xs ys : List Item) → SomeLeft ys → SomeLeft (xs ++ ys)
left-back [] ys h = h
left-back (x ∷ xs) ys h = tt

-- behind the first of items that end in another
left-last : (first last : Item) (more front : List Item) → first ∷ more ≡ front ++ last ∷ [] → (first ≡ last → ⊥) → SomeLeft more
left-last first last more [] e other = absurd (other (ap (λ l. unwrap_or (slice_get l 0) first) e))
left-last first last more (x ∷ xs) e other = subst SomeLeft (sym (ap (drop 1) e)) (left-back xs (last ∷ []) tt)

-- behind an item of main's body that isn't its end
main-left : (t : Tree) (b : Body) (p : Point) (s : Spot) (first : Item) (more : List Item) → b ≡ main_body t → spot_at t.classes b p ≡ Some s
    → s.items ≡ first ∷ more → (first ≡ EndAt 0 → ⊥) → SomeLeft more
main-left t b p s first more is at begins other =
    let here : spot_at t.classes (main_body t) p ≡ Some s = subst (λ b. spot_at t.classes b p ≡ Some s) is at in
    let h = spot-ends t.classes (main_body t).result (main_body t).front (main_body t).block (main_body t).after [] p s here in
    left-last first (EndAt 0) more h.0 (sym begins ∙ h.1) other

-- whether an item is the end of a block
abbrev is_end : Item → Truth
is_end (EndAt k) = true
is_end _ = false

pub do-other : (s : Stmt) → Do s ≡ EndAt 0 → ⊥
do-other s e = true≢false (sym (ap is_end e))

pub leave-other : (k : ℕ) → LeaveAt k ≡ EndAt 0 → ⊥
leave-other k e = true≢false (sym (ap is_end e))

pub giving-other : (line k : ℕ) (w : Name) → LeaveGiving line k w ≡ EndAt 0 → ⊥
giving-other line k w e = true≢false (sym (ap is_end e))

pub back-other : Back ≡ EndAt 0 → ⊥
back-other e = true≢false (sym (ap is_end e))

-- beneath a frame that was called
pub beneath-left : (t : Tree) (f : Frame) (fs : List Frame) (ws : List Window) (items : List Item) (b : Body) (target : Target)
    → Beneath t (f ∷ fs) ws items b target → SomeLeft items
beneath-left t f [] ws items b target h = subst SomeLeft (sym h.6) (left-front h.3 h.4 (mine_left h.7))
  where
    mine_left : Waits t.classes h.0 f 0 h.1 h.3 b target ⊎ WaitsEmpty t h.0 f h.1 h.3 b target → SomeLeft h.3
    mine_left (inl w) = main-left t h.0 w.point w.spot (Do (stmt w.line w.kind)) h.3 h.8.0 w.spot_is w.begins (do-other (stmt w.line w.kind))
    mine_left (inr w) = subst SomeLeft (sym w.ends) tt
beneath-left t f (g ∷ gs) ws items b target h = subst SomeLeft (sym h.6) (left-back h.3 h.4 (beneath-left t g gs h.2 h.4 h.0 f.target h.8))

-- behind the first item of a running body that isn't main's end
pub running-left : (t : Tree) (top : Frame) (lower : List Frame) (ws : List Window) (first : Item) (rest : List Item)
    → Running t top lower ws (first ∷ rest) → (first ≡ EndAt 0 → ⊥) → SomeLeft rest
running-left t top [] ws first rest h other =
    let same : h.first ≡ first = ap (λ l. unwrap_or (slice_get l 0) h.first) (sym h.items_are) in
    subst SomeLeft (sym (ap (drop 1) h.items_are))
    (left-front h.more h.rest (main-left t h.body h.point h.spot h.first h.more h.beneath.0 h.spot_is h.begins (λ e. other (sym same ∙ e))))
running-left t top (f ∷ fs) ws first rest h other = subst SomeLeft (sym (ap (drop 1) h.items_are))
    (left-back h.more h.rest (beneath-left t f fs h.under h.rest h.body top.target h.beneath))

-- nothing in main's body ends its frame
pub main-stays : (t : Tree) → Accepted t → (top : Frame) (ws : List Window) (first : Item) (rest : List Item) → Running t top [] ws (first ∷ rest)
    → leaves_frame (first ∷ rest) ≡ true → ⊥
main-stays t accepted top ws first rest h leaves =
    let b = body-judged t accepted [] h.under h.rest (main_body t) top.target (refl, h.beneath.1, h.beneath.2, h.beneath.3) in
    let at : spot_at t.classes (main_body t) h.point ≡ Some h.spot = subst (λ b. spot_at t.classes b h.point ≡ Some h.spot) h.beneath.0 h.spot_is in
    let stays = inner_stays t.classes (main_body t).front b.out (main_body t).block (main_body t).after [] h.point h.spot b.right refl at in
    let same : h.first ≡ first = ap (λ l. unwrap_or (slice_get l 0) h.first) (sym h.items_are) in
    true≢false (sym leaves ∙ first_leaves first rest h.more ∙ ap (λ i. leaves_frame (i ∷ h.more)) (sym same) ∙ ap leaves_frame (sym h.begins) ∙ stays)
  where
    first_leaves : (i : Item) (xs ys : List Item) → leaves_frame (i ∷ xs) ≡ leaves_frame (i ∷ ys)
    first_leaves (Do (stmt line k)) xs ys = kind_leaves k
      where
        kind_leaves : (k : _) → leaves_frame (Do (stmt line k) ∷ xs) ≡ leaves_frame (Do (stmt line k) ∷ ys)
        kind_leaves k = grind arith
    first_leaves _ xs ys = refl

-- windows

-- where the block of an `enter` ends, two windows are open, and the topmost one begins where the block's variables do
pub record TwoWindows (ws : List Window) (n k : ℕ) : Type 0 where
  pub top : Window
  pub next : Window
  pub under : List Window
  pub are : ws ≡ top ∷ next ∷ under
  pub base_frame : top.base_frame ≡ n
  pub base_place : top.base_place ≡ k

two_of : (n : ℕ) (locals : List Local) (ps : List Path) (own under : List Window) (k : ℕ) (ks : List ℕ) → Entered n locals ps own
    → map (λ (w : Window). w.base_place) own ≡ k ∷ ks → WindowThere under → TwoWindows (own ++ under) n k
two_of n locals ps [] under k ks entered e b = absurd (true≢false (sym (ap (λ l. elim l [ [] ↦ false | n ∷ ns ↦ true ]) e)))
two_of n locals ps (w ∷ []) under k ks entered e b = record {
  top = w;
  next = b.top;
  under = b.under;
  are = ap (λ l. w ∷ l) b.are;
  base_frame = entered_first n locals ps w [] entered;
  base_place = ap (λ l. unwrap_or (slice_get l 0) k) e;
}
two_of n locals ps (w ∷ v ∷ ws) under k ks entered e b = record {
  top = w;
  next = v;
  under = ws ++ under;
  are = refl;
  base_frame = entered_first n locals ps w (v ∷ ws) entered;
  base_place = ap (λ l. unwrap_or (slice_get l 0) k) e;
}

pub leaving-windows : (t : Tree) (top : Frame) (lower : List Frame) (ws : List Window) (line k : ℕ) (giving : Option Name) (rest : List Item)
    → Running t top lower ws (leave_of line k giving ∷ rest) → TwoWindows ws (length lower) k
leaving-windows t top lower ws line k giving rest h =
    let first : h.first ≡ leave_of line k giving = ap (λ l. unwrap_or (slice_get l 0) (leave_of line k giving)) (sym h.items_are) in
    let at : leaves h.spot.items ≡ k ∷ leaves h.more =
    ap leaves (h.begins ∙ ap (λ i. i ∷ h.more) first) ∙ leaves-leave_of line k giving h.more in
    subst (λ q. TwoWindows q (length lower) k) (sym h.windows_are)
    (two_of (length lower) top.locals (reverse h.spot.enters) h.own h.under k (leaves h.more) h.stands.entered (h.stands.bases ∙ at)
    (beneath-window t lower h.under h.rest h.body top.target h.beneath))
