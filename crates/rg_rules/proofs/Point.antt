-- Behind a statement of a body that has no fault stands the next point of the body. For callers.
use Rattle.std.proofs.Common.{◌≡◌, refl, sym, ◌∙◌, ap, ℕ, List, [], ◌∷◌, ◌++◌, length, Option, Some, None, option_and_then, Ok, Err, arith}
use Rattle.std.specs.Result.{result_ok}
use Rattle.rg_base.specs.declared.ty.Ty.{Ty}
use Rattle.rg_tree.specs.Tree.{no_else, otherwise, Path, Stmt, stmt, StmtKind, branch, while, enter}
use Rattle.rg_tree.specs.Tree.{Block, empty as none, then as next, Class}
use Rattle.rg_rules.specs.Answers.{◌>>=◌, Answer, Lined, at_line}
use Rattle.rg_rules.specs.Environment.{Env}
use Rattle.rg_rules.specs.Statements.{judge_stmt, judge_kind, judge_block, judge_test, judge_enter, last_of}
use Rattle.rg_rules.specs.Items.{Item, Do, items_of}
use Rattle.rg_rules.specs.Points.{Side, first, second, Point, here, behind, inside, Spot, spot_in, Opened, opened, inner_block, block_end}
use Rattle.rg_rules.specs.Points.{entered_path}
use Rattle.rg_rules.proofs.Answers.{bind-ok, at_line-ok}

-- the point behind the statement at a point
abbrev pub advance : Point → Point
advance here = behind here
advance (behind p) = behind (advance p)
advance (inside side p) = inside side (advance p)

-- what doesn't begin with a statement
abbrev pub BeginsFree : List Item → Type 0
BeginsFree (Do s ∷ after) = ⊥
BeginsFree _ = Unit {0}

free-not_do : {B : Type 0} (after : List Item) (t : Stmt) (mine : List Item) → BeginsFree after → after ≡ Do t ∷ mine → B
free-not_do (Do s ∷ after) t mine f e = absurd f
free-not_do _ t mine f e = grind arith

-- what a chain of options that gave a value says of its parts
pub and_then-some : {A B : Type 0} (o : Option A) (go : A → Option B) (b : B) →
    option_and_then go o ≡ Some b → (a : A) × (o ≡ Some a) × (go a ≡ Some b)
and_then-some None go b h = grind arith
and_then-some (Some a) go b h = (a, refl, h)

pub opened-some : (r : Answer Env) (b : Block) (i : Opened) → opened r b ≡ Some i → (r ≡ Ok i.env) × (i.block ≡ b)
opened-some (Ok env) b i h = let e : record { env = env; block = b } ≡ i = grind arith in rw (← e) (refl, refl)
opened-some (Err code) b i h = grind arith

same_block : (classes : List Class) (front front' out : Env) (b b' : Block) → ◌≡◌ {A = Answer Env} (Ok front') (Ok front) → b' ≡ b →
    judge_block classes None front b ≡ Ok out → judge_block classes None front' b' ≡ Ok out
same_block classes front front' out b b' e d h = let same : front' ≡ front = grind arith in rw (same, d) h

-- the block behind a test or an entry has no fault
behind_test : (classes : List Class) (line : ℕ) (r : Answer Env) (b : Block) (go : Env → Env → Lined Env) (i : Opened) (mid : Env) →
    ◌>>=◌ (at_line line r) (λ front. ◌>>=◌ (judge_block classes None front b) (go front)) ≡ Ok mid → opened r b ≡ Some i →
    (out : Env) × (judge_block classes None i.env i.block ≡ Ok out)
behind_test classes line r b go i mid h e =
    let p = bind-ok (at_line line r) _ mid h in
    let q = bind-ok (judge_block classes None p.0 b) _ mid p.2 in
    let a = opened-some r b i e in (q.0, same_block classes p.0 i.env q.0 b i.block (sym a.0 ∙ at_line-ok line r p.0 p.1) a.1 q.1)

-- a block of a statement that has no fault has none
pub inner_block-judged : (classes : List Class) (last : Option Ty) (line : ℕ) (env : Env) (k : StmtKind) (side : Side) (i : Opened) (mid : Env) →
    judge_kind classes last line env k ≡ Ok mid → inner_block classes env k side ≡ Some i →
    (out : Env) × (judge_block classes None i.env i.block ≡ Ok out)
inner_block-judged classes last line env (branch c b other) first i mid h e = behind_test classes line (judge_test classes env c) b _ i mid h e
inner_block-judged classes last line env (branch c b no_else) second i mid h e = grind arith
inner_block-judged classes last line env (branch c b (otherwise other)) second i mid h e =
    let p = bind-ok (at_line line (judge_test classes env c)) _ mid h in
    let q = bind-ok (judge_block classes None p.0 b) _ mid p.2 in
    let r = bind-ok (judge_block classes None p.0 other) _ mid q.2 in
    let a = opened-some (judge_test classes env c) other i e in
    (r.0, same_block classes p.0 i.env r.0 other i.block (sym a.0 ∙ at_line-ok line (judge_test classes env c) p.0 p.1) a.1 r.1)
inner_block-judged classes last line env (while c b) first i mid h e = behind_test classes line (judge_test classes env c) b _ i mid h e
inner_block-judged classes last line env (while c b) second i mid h e = grind arith
inner_block-judged classes last line env (enter p z b giving) first i mid h e =
    behind_test classes line (judge_enter classes env p.base p.fields z) b _ i mid h e
inner_block-judged classes last line env (enter p z b giving) second i mid h e = grind arith
inner_block-judged classes last line env _ side i mid h e = grind arith

pub block_end-free : (classes : List Class) (env : Env) (n line : ℕ) (k : StmtKind) (side : Side) (i : Opened) (more : List Item) →
    inner_block classes env k side ≡ Some i → BeginsFree (block_end n line k ++ more)
block_end-free classes env n line (branch c b other) side i more e = tt
block_end-free classes env n line (while c b) side i more e = tt
block_end-free classes env n line (enter p z b None) side i more e = tt
block_end-free classes env n line (enter p z b (Some w)) side i more e = tt
block_end-free classes env n line _ side i more e = grind arith

-- the statement at a point has no fault, and behind it stands the next point
pub record Advanced (classes : List Class) (result : Option Ty) (env : Env) (b : Block) (after : List Item) (round : List Path)
    (p : Point) (s : Spot) (t : Stmt) (mine : List Item) : Type 0 where
  pub last : Option Ty
  pub out : Env
  pub right : judge_stmt classes last s.env t ≡ Ok out
  pub spot_is : spot_in classes result env b after round (advance p) ≡ Some (record { env = out; items = mine; enters = s.enters })

pub from_ok : (r : Lined Env) (mid : Env) (go : Env → Option Spot) (s : Spot) → r ≡ Ok mid →
    option_and_then go (result_ok r) ≡ Some s → go mid ≡ Some s
from_ok (Ok x) mid go s e h = let same : x ≡ mid = grind arith in rw (← same) h
from_ok (Err f) mid go s e h = grind arith

pub to_ok : (r : Lined Env) (mid : Env) (go : Env → Option Spot) (s : Spot) → r ≡ Ok mid →
    go mid ≡ Some s → option_and_then go (result_ok r) ≡ Some s
to_ok r mid go s e h = rw (e, result_ok) h

to_some : (o : Option Opened) (a : Opened) (go : Opened → Option Spot) (s : Spot) → o ≡ Some a → go a ≡ Some s → option_and_then go o ≡ Some s
to_some o a go s e h = rw e h

stands_here : (classes : List Class) (result : Option Ty) (env : Env) (b : Block) (after : List Item) (round : List Path) (s : Spot)
    (u t : Stmt) (mine : List Item) (mid : Env) →
    record { env = env; items = Do u ∷ items_of b after; enters = round } ≡ s → u ≡ t → items_of b after ≡ mine →
    judge_stmt classes (last_of result b) env u ≡ Ok mid → Advanced classes result env (next u b) after round here s t mine
stands_here classes result env b after round s u t mine mid same one others h =
    rw (← same, ← one, ← others) (record { last = last_of result b; out = mid; right = h; spot_is = rw (h, result_ok) refl })

-- at a spot whose first item is a statement that statement has no fault, and what is behind it is the next spot
pub spot-advance : (classes : List Class) (result : Option Ty) (env out : Env) (b : Block) (after : List Item) (round : List Path)
    (p : Point) (s : Spot) (t : Stmt) (mine : List Item) →
    BeginsFree after → judge_block classes result env b ≡ Ok out →
    spot_in classes result env b after round p ≡ Some s → s.items ≡ Do t ∷ mine →
    Advanced classes result env b after round p s t mine
spot-advance classes result env out none after round here s t mine f h e i =
    let same : record { env = env; items = after; enters = round } ≡ s = grind arith in free-not_do after t mine f (ap (λ x. x.items) same ∙ i)
spot-advance classes result env out (next u b) after round here s t mine f h e i =
    let same : record { env = env; items = Do u ∷ items_of b after; enters = round } ≡ s = grind arith in
    let all : Do u ∷ items_of b after ≡ Do t ∷ mine = ap (λ x. x.items) same ∙ i in
    let m = bind-ok (judge_stmt classes (last_of result b) env u) _ out h in
    stands_here classes result env b after round s u t mine m.0 same (grind arith) (grind arith) m.1
spot-advance classes result env out none after round (behind p) s t mine f h e i = grind arith
spot-advance classes result env out (next u b) after round (behind p) s t mine f h e i =
    let m = bind-ok (judge_stmt classes (last_of result b) env u) _ out h in
    let go : Env → Option Spot = λ mid. spot_in classes result mid b after round p in
    let later : Env → Option Spot = λ mid. spot_in classes result mid b after round (advance p) in
    let a = from_ok (judge_stmt classes (last_of result b) env u) m.0 go s m.1 e in
    let n = spot-advance classes result m.0 out b after round p s t mine f m.2 a i in
    let there : Spot = record { env = n.out; items = mine; enters = s.enters } in
    let is = to_ok (judge_stmt classes (last_of result b) env u) m.0 later there m.1 n.spot_is in
    record { last = n.last; out = n.out; right = n.right; spot_is = is }
spot-advance classes result env out none after round (inside side p) s t mine f h e i = grind arith
spot-advance classes result env out (next (stmt line k) b) after round (inside side p) s t mine f h e i =
    let m = bind-ok (judge_kind classes (last_of result b) line env k) _ out h in
    let now : Opened → Option Spot = λ x.
    spot_in classes None x.env x.block (block_end (length env.entries) line k ++ items_of b after) (round ++ entered_path k) p in
    let a = and_then-some (inner_block classes env k side) now s e in
    let later : Opened → Option Spot = λ x.
    spot_in classes None x.env x.block (block_end (length env.entries) line k ++ items_of b after) (round ++ entered_path k) (advance p) in
    let j = inner_block-judged classes (last_of result b) line env k side a.0 m.0 m.1 a.1 in
    let behind_it = block_end (length env.entries) line k ++ items_of b after in
    let free = block_end-free classes env (length env.entries) line k side a.0 (items_of b after) a.1 in
    let n = spot-advance classes None a.0.env j.0 a.0.block behind_it (round ++ entered_path k) p s t mine free j.1 a.2 i in
    let there : Spot = record { env = n.out; items = mine; enters = s.enters } in
    record { last = n.last; out = n.out; right = n.right; spot_is = to_some (inner_block classes env k side) a.0 later there a.1 n.spot_is }
