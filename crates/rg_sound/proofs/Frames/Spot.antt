-- Spots of a body without a fault: what holds at each of them, and the spot in front of an inner block.
use Rattle.std.proofs.Common.{◌≡◌, refl, sym, ◌∙◌, ap, subst, ℕ, ◌+◌, ◌≤◌, List, [], ◌∷◌, ◌++◌, length, Option, Some, None, Ok}
use Rattle.std.proofs.Common.{arith}
use Rattle.std.proofs.lemmas.List.{append-nil, length-append, append_assoc}
use Rattle.std.specs.Result.{result_ok}
use Rattle.rg_base.specs.declared.ty.Ty.{Ty}
use Rattle.rg_tree.specs.Tree.{Name, Path, Expr, stmt, StmtKind, branch, while, enter, no_else}
use Rattle.rg_tree.specs.Tree.{otherwise, Block, empty as none, then as next, Class}
use Rattle.rg_rules.specs.Environment.{Env}
use Rattle.rg_rules.specs.Statements.{judge_stmt, judge_kind, judge_block, judge_test, judge_enter, last_of}
use Rattle.rg_rules.specs.Items.{Item, Do, leave_of, items_of}
use Rattle.rg_rules.specs.Points.{Side, first, second, Point, here, behind, inside, Spot, spot_in, Opened, opened, inner_block, block_end}
use Rattle.rg_rules.specs.Points.{entered_path}
use Rattle.rg_rules.proofs.Answers.{bind-ok}
use Rattle.rg_rules.proofs.Point.{BeginsFree, and_then-some, inner_block-judged, opened-some, block_end-free, from_ok}
use Rattle.rg_sound.specs.Frames.{leaves}
use Rattle.rg_sound.proofs.Frames.Entry.{Distinct, length-Keeps, Stays-distinct}
use Rattle.rg_sound.proofs.Frames.Judge.{judge_test-stays, lent_entries, length-lent, judge_enter-inner, judge_stmt-goes}

-- numbers are at most that many
abbrev pub AllWithin : ℕ → List ℕ → Type 0
AllWithin n [] = Unit {0}
AllWithin n (k ∷ ks) = (k ≤ n) × AllWithin n ks

pub AllWithin-more : (n m : ℕ) (ks : List ℕ) → n ≤ m → AllWithin n ks → AllWithin m ks
AllWithin-more n m [] l h = tt
AllWithin-more n m (k ∷ ks) l h = (omega (arith, h.0), AllWithin-more n m ks l h.1)

pub leaves-items_of : (b : Block) (rest : List Item) → leaves (items_of b rest) ≡ leaves rest
leaves-items_of none rest = refl
leaves-items_of (next s b) rest = leaves-items_of b rest

pub leaves-leave_of : (line k : ℕ) (giving : Option Name) (rest : List Item) → leaves (leave_of line k giving ∷ rest) ≡ k ∷ leaves rest
leaves-leave_of line k None rest = refl
leaves-leave_of line k (Some w) rest = refl

-- A block of a statement

-- in front of a block of a statement there are the variables that are in front of the statement, and maybe one more
pub record InnerSpot (env inner : Env) (k : StmtKind) : Type 0 where
  pub depth : inner.depth ≡ env.depth + length (entered_path k)
  pub count : length env.entries ≤ length inner.entries
  pub distinct : Distinct inner.entries

tested-inner : (classes : List Class) (env : Env) (e : Expr) (b : Block) (i : Opened) (k : StmtKind) → Distinct env.entries → entered_path k ≡ [] →
    opened (judge_test classes env e) b ≡ Some i → InnerSpot env i.env k
tested-inner classes env e b i k d no_path h =
    let o = opened-some (judge_test classes env e) b i h in
    let s = judge_test-stays classes env i.env e d o.0 in
    let l : length (entered_path k) ≡ 0 = ap length no_path in
    record { depth = omega (arith, s.depth, l); count = omega (arith, s.count); distinct = Stays-distinct env i.env d s }

entered-inner : (classes : List Class) (env : Env) (p : Path) (z : Name) (b : Block) (giving : Option Name) (i : Opened) → Distinct env.entries →
    opened (judge_enter classes env p.base p.fields z) b ≡ Some i → InnerSpot env i.env (enter p z b giving)
entered-inner classes env p z b giving i d h =
    let o = opened-some (judge_enter classes env p.base p.fields z) b i h in
    let n = judge_enter-inner classes env i.env p.base p.fields z d o.0 in
    let l = length-Keeps (lent_entries p.base p.fields env.entries) i.env.entries n.keeps in
    let same = length-lent p.base p.fields env.entries in
    record { depth = n.depth; count = omega (arith, l, same); distinct = n.distinct }

pub inner-spot : (classes : List Class) (env : Env) (k : StmtKind) (side : Side) (i : Opened) → Distinct env.entries →
    inner_block classes env k side ≡ Some i →
    InnerSpot env i.env k
inner-spot classes env (branch e b other) first i d h = tested-inner classes env e b i (branch e b other) d refl h
inner-spot classes env (branch e b no_else) second i d h = grind arith
inner-spot classes env (branch e b (otherwise c)) second i d h = tested-inner classes env e c i (branch e b (otherwise c)) d refl h
inner-spot classes env (while e b) first i d h = tested-inner classes env e b i (while e b) d refl h
inner-spot classes env (while e b) second i d h = grind arith
inner-spot classes env (enter p z b giving) first i d h = entered-inner classes env p z b giving i d h
inner-spot classes env (enter p z b giving) second i d h = grind arith
inner-spot classes env _ side i d h = grind arith

block_end-leaves : (n m line : ℕ) (k : StmtKind) (more : List Item) → n ≤ m → AllWithin m (leaves more) →
    AllWithin m (leaves (block_end n line k ++ more))
block_end-leaves n m line (enter p z b giving) more l h =
    let P : List ℕ → Type 0 = λ q. AllWithin m q in subst P (sym (leaves-leave_of line n giving more)) (l, h)
block_end-leaves n m line _ more l h = h

-- At each spot

-- the depth is the number of `enter`s round the spot, names differ, and the ends of `enter`s keep no variables that aren't there
pub record SpotRight (depth : ℕ) (round : List Path) (s : Spot) : Type 0 where
  pub inner : List Path
  pub enters : s.enters ≡ round ++ inner
  pub depth_is : s.env.depth ≡ depth + length inner
  pub distinct : Distinct s.env.entries
  pub within : AllWithin (length s.env.entries) (leaves s.items)

pub spot-right : (classes : List Class) (result : Option Ty) (env out : Env) (b : Block) (after : List Item) (round : List Path) (p : Point)
    (s : Spot) →
    Distinct env.entries → AllWithin (length env.entries) (leaves after) → judge_block classes result env b ≡ Ok out →
    spot_in classes result env b after round p ≡ Some s → SpotRight env.depth round s
spot-right classes result env out b after round here s d w h e =
    let same : record { env = env; items = items_of b after; enters = round } ≡ s = grind arith in
    rw (← same) (record {
      inner = [];
      enters = sym (append-nil round);
      depth_is = omega arith;
      distinct = d;
      within =
          rw (leaves-items_of b after) w;
    })
spot-right classes result env out none after round (behind p) s d w h e = grind arith
spot-right classes result env out (next u b) after round (behind p) s d w h e =
    let m = bind-ok (judge_stmt classes (last_of result b) env u) _ out h in
    let g = judge_stmt-goes classes (last_of result b) env m.0 u d m.1 in
    let a = from_ok (judge_stmt classes (last_of result b) env u) m.0 (λ mid. spot_in classes result mid b after round p) s m.1 e in
    let more = AllWithin-more (length env.entries) (length m.0.entries) (leaves after) (length-Keeps env.entries m.0.entries g.keeps) w in
    let r = spot-right classes result m.0 out b after round p s g.distinct more m.2 a in
    record {
      inner = r.inner;
      enters = r.enters;
      depth_is = r.depth_is ∙ ap (λ q. q + length r.inner) g.depth;
      distinct = r.distinct;
      within =
          r.within;
    }
spot-right classes result env out none after round (inside side p) s d w h e = grind arith
spot-right classes result env out (next (stmt line k) b) after round (inside side p) s d w h e =
    let m = bind-ok (judge_kind classes (last_of result b) line env k) _ out h in
    let a = and_then-some (inner_block classes env k side) _ s e in
    let j = inner_block-judged classes (last_of result b) line env k side a.0 m.0 m.1 a.1 in
    let n = inner-spot classes env k side a.0 d a.1 in
    let behind_it = block_end (length env.entries) line k ++ items_of b after in
    let more : AllWithin (length a.0.env.entries) (leaves (items_of b after)) =
    rw (leaves-items_of b after) (AllWithin-more (length env.entries) (length a.0.env.entries) (leaves after) n.count w) in
    let ends = block_end-leaves (length env.entries) (length a.0.env.entries) line k (items_of b after) n.count more in
    let r = spot-right classes None a.0.env j.0 a.0.block behind_it (round ++ entered_path k) p s n.distinct ends j.1 a.2 in
    record {
      inner = entered_path k ++ r.inner;
      enters = r.enters ∙ append_assoc round (entered_path k) r.inner;
      depth_is = omega (arith, r.depth_is, n.depth, length-append (entered_path k) r.inner);
      distinct = r.distinct;
      within = r.within;
    }

-- Into a block

-- the point in front of a block of the statement at a point
abbrev pub deepen : Side → Point → Point
deepen side here = inside side here
deepen side (behind p) = behind (deepen side p)
deepen side (inside other p) = inside other (deepen side p)

-- in front of a block of a statement
abbrev pub inner_of : Spot → (line : ℕ) → StmtKind → (mine : List Item) → Opened → Spot
inner_of s line k mine i = record {
  env = i.env;
  items = items_of i.block (block_end (length s.env.entries) line k ++ mine);
  enters =
      s.enters ++ entered_path k;
}

pub spot-inside : (classes : List Class) (result : Option Ty) (env : Env) (b : Block) (after : List Item) (round : List Path) (p : Point) (s : Spot)
    (line : ℕ) (k : StmtKind) (mine : List Item) (side : Side) (i : Opened) → BeginsFree after →
    spot_in classes result env b after round p ≡ Some s → s.items ≡ Do (stmt line k) ∷ mine → inner_block classes s.env k side ≡ Some i →
    spot_in classes result env b after round (deepen side p) ≡ Some (inner_of s line k mine i)
spot-inside classes result env none after round here s line k mine side i f e at o =
    let same : record { env = env; items = after; enters = round } ≡ s = grind arith in
    let all : after ≡ Do (stmt line k) ∷ mine = ap (λ x. x.items) same ∙ at in
    let P : List Item → Type 0 = λ q. BeginsFree q in absurd (subst P all f)
spot-inside classes result env (next (stmt l u) b) after round here s line k mine side i f e at o =
    let same : record { env = env; items = Do (stmt l u) ∷ items_of b after; enters = round } ≡ s = grind arith in
    let all : Do (stmt l u) ∷ items_of b after ≡ Do (stmt line k) ∷ mine = ap (λ x. x.items) same ∙ at in
    let one : (l ≡ line) × (u ≡ k) × (items_of b after ≡ mine) = grind arith in
    let in_front : inner_block classes env u side ≡ Some i = rw (one.1, ap (λ (q : Spot). q.env) same) o in
    rw (← same, ← one.0, ← one.1, ← one.2) (rw in_front refl)
spot-inside classes result env none after round (behind p) s line k mine side i f e at o = grind arith
spot-inside classes result env (next u b) after round (behind p) s line k mine side i f e at o =
    let m = and_then-some (result_ok (judge_stmt classes (last_of result b) env u)) _ s e in
    let r = spot-inside classes result m.0 b after round p s line k mine side i f m.2 at o in
    rw m.1 r
spot-inside classes result env none after round (inside other p) s line k mine side i f e at o = grind arith
spot-inside classes result env (next (stmt l u) b) after round (inside other p) s line k mine side i f e at o =
    let a = and_then-some (inner_block classes env u other) _ s e in
    let free = block_end-free classes env (length env.entries) l u other a.0 (items_of b after) a.1 in
    let r = spot-inside classes None a.0.env a.0.block (block_end (length env.entries) l u ++ items_of b after) (round ++ entered_path u)
    p s line k mine side i free a.2 at o in
    rw a.1 r
