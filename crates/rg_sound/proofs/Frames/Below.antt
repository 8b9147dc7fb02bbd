-- At each spot of a body the ends of `enter`s keep fewer variables than are there: that of the bridge stands behind those that are kept.
use Rattle.std.proofs.Common.{◌≡◌, sym, subst, ℕ, ◌+◌, ◌<◌, ◌≤◌, List, [], ◌∷◌, ◌++◌, length, Option, Some, None, Ok, arith}
use Rattle.std.proofs.lemmas.Option.{slice_get_within}
use Rattle.rg_base.specs.declared.ty.Ty.{Ty}
use Rattle.rg_tree.specs.Tree.{Path, stmt, StmtKind, branch, while, enter, Block, empty as none, then as next, Class}
use Rattle.rg_rules.specs.Environment.{Env}
use Rattle.rg_rules.specs.Statements.{judge_stmt, judge_kind, judge_block, judge_enter, last_of}
use Rattle.rg_rules.specs.Items.{Item, items_of}
use Rattle.rg_rules.specs.Points.{Side, first, second, Point, here, behind, inside, Spot, spot_in, Opened, inner_block, block_end, entered_path}
use Rattle.rg_rules.proofs.Answers.{bind-ok}
use Rattle.rg_rules.proofs.Point.{and_then-some, inner_block-judged, opened-some, from_ok}
use Rattle.rg_sound.specs.Frames.{leaves}
use Rattle.rg_sound.proofs.Frames.Entry.{Distinct, length-Keeps}
use Rattle.rg_sound.proofs.Frames.Judge.{judge_enter-bridge, judge_stmt-goes}
use Rattle.rg_sound.proofs.Frames.Spot.{leaves-items_of, leaves-leave_of, inner-spot}

-- numbers are below that many
abbrev pub AllBelow : ℕ → List ℕ → Type 0
AllBelow n [] = Unit {0}
AllBelow n (k ∷ ks) = (k < n) × AllBelow n ks

AllBelow-more : (n m : ℕ) (ks : List ℕ) → n ≤ m → AllBelow n ks → AllBelow m ks
AllBelow-more n m [] l h = tt
AllBelow-more n m (k ∷ ks) l h = (omega (arith, h.0), AllBelow-more n m ks l h.1)

-- in front of the block of an `enter` there is one variable more
inner-more : (classes : List Class) (env : Env) (k : StmtKind) (side : Side) (i : Opened) → Distinct env.entries →
    inner_block classes env k side ≡ Some i → length env.entries + length (entered_path k) ≤ length i.env.entries
inner-more classes env (branch e b other) side i d h =
    let c = (inner-spot classes env (branch e b other) side i d h).count in omega (arith, c)
inner-more classes env (while e b) side i d h = let c = (inner-spot classes env (while e b) side i d h).count in omega (arith, c)
inner-more classes env (enter p z b giving) first i d h =
    let o = opened-some (judge_enter classes env p.base p.fields z) b i h in
    let n = judge_enter-bridge classes env i.env p.base p.fields z o.0 in
    let l = slice_get_within i.env.entries (length env.entries) n.entry n.there in omega (arith, l)
inner-more classes env (enter p z b giving) second i d h = grind arith
inner-more classes env _ side i d h = grind arith

block_end-below : (n m line : ℕ) (k : StmtKind) (more : List Item) → n + length (entered_path k) ≤ m → AllBelow m (leaves more) →
    AllBelow m (leaves (block_end n line k ++ more))
block_end-below n m line (enter p z b giving) more l h =
    let P : List ℕ → Type 0 = λ q. AllBelow m q in subst P (sym (leaves-leave_of line n giving more)) (omega (arith, l), h)
block_end-below n m line _ more l h = h

pub spot-below : (classes : List Class) (result : Option Ty) (env out : Env) (b : Block) (after : List Item) (round : List Path) (p : Point)
    (s : Spot) →
    Distinct env.entries → AllBelow (length env.entries) (leaves after) → judge_block classes result env b ≡ Ok out →
    spot_in classes result env b after round p ≡ Some s → AllBelow (length s.env.entries) (leaves s.items)
spot-below classes result env out b after round here s d w h e =
    let same : record { env = env; items = items_of b after; enters = round } ≡ s = grind arith in
    rw (← same) (rw (leaves-items_of b after) w)
spot-below classes result env out none after round (behind p) s d w h e = grind arith
spot-below classes result env out (next u b) after round (behind p) s d w h e =
    let m = bind-ok (judge_stmt classes (last_of result b) env u) _ out h in
    let g = judge_stmt-goes classes (last_of result b) env m.0 u d m.1 in
    let a = from_ok (judge_stmt classes (last_of result b) env u) m.0 (λ mid. spot_in classes result mid b after round p) s m.1 e in
    let more = AllBelow-more (length env.entries) (length m.0.entries) (leaves after) (length-Keeps env.entries m.0.entries g.keeps) w in
    spot-below classes result m.0 out b after round p s g.distinct more m.2 a
spot-below classes result env out none after round (inside side p) s d w h e = grind arith
spot-below classes result env out (next (stmt line k) b) after round (inside side p) s d w h e =
    let m = bind-ok (judge_kind classes (last_of result b) line env k) _ out h in
    let a = and_then-some (inner_block classes env k side) _ s e in
    let j = inner_block-judged classes (last_of result b) line env k side a.0 m.0 m.1 a.1 in
    let f = inner-spot classes env k side a.0 d a.1 in
    let l = inner-more classes env k side a.0 d a.1 in
    let older : AllBelow (length a.0.env.entries) (leaves (items_of b after)) =
    let P : List ℕ → Type 0 = λ q. AllBelow (length a.0.env.entries) q in
    subst P (sym (leaves-items_of b after)) (AllBelow-more (length env.entries) (length a.0.env.entries) (leaves after) f.count w) in
    spot-below classes None a.0.env j.0 a.0.block (block_end (length env.entries) line k ++ items_of b after) (round ++ entered_path k) p s f.distinct
    (block_end-below (length env.entries) (length a.0.env.entries) line k (items_of b after) l older) j.1 a.2
