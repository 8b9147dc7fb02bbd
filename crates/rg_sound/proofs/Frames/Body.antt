-- Bodies of an accepted program have no fault, and behind each statement but a `return` an item is left.
use Rattle.std.proofs.Common.{◌≡◌, refl, ◌∙◌, ap, subst, ◌⊎◌, inl, inr, ℕ, true, false, List, [], ◌∷◌, ◌++◌, length, Option, Some, None, Ok, arith}
use Rattle.std.specs.Result.{result_ok}
use Rattle.rg_base.specs.declared.ty.Ty.{Ty}
use Rattle.rg_tree.specs.Tree.{Path, Ty as Written, stmt, StmtKind, branch, while, enter, Block}
use Rattle.rg_tree.specs.Tree.{empty as none, then as next, Method, Class, Tree}
use Rattle.rg_rules.specs.Types.{method_named}
use Rattle.rg_rules.specs.Environment.{Env}
use Rattle.rg_rules.specs.Statements.{judge_stmt, judge_block, last_of}
use Rattle.rg_rules.specs.Items.{Item, Do, EndAt, Back, leave_of, items_of}
use Rattle.rg_rules.specs.Bodies.{Body, main_body, method_body, method_end, is_return, last_is_return, ends_in_return, gives_result}
use Rattle.rg_rules.specs.Points.{Side, Point, here, behind, inside, Spot, spot_in, Opened, inner_block, block_end, entered_path}
use Rattle.rg_rules.specs.Acceptance.{Accepted}
use Rattle.rg_rules.specs.State.{Frame, Window, Target}
use Rattle.rg_rules.proofs.Point.{BeginsFree, and_then-some, block_end-free}
use Rattle.rg_rules.proofs.Acceptance.{Accepted-parts, Accepted-method}
use Rattle.rg_sound.specs.Frames.{Beneath}

-- a list has a first item
pub record Begins (items : List Item) : Type 0 where
  pub first : Item
  pub more : List Item
  pub is : items ≡ first ∷ more

-- behind a block stands an item, or it ends in `return`
abbrev pub EndsWell : Block → List Item → Type 0
EndsWell b after = Begins after ⊎ (ends_in_return b ≡ true)

-- a body that has no fault, behind which no statement stands
pub record Right (classes : List Class) (b : Body) : Type 0 where
  pub out : Env
  pub judged : judge_block classes b.result b.front b.block ≡ Ok out
  pub free : BeginsFree b.after
  pub ends : EndsWell b.block b.after

pub main-right : (t : Tree) → Accepted t → Right t.classes (main_body t)
main-right t a = let p = Accepted-parts t a in record {
  out = p.out;
  judged = p.main;
  free = tt;
  ends = inl (record { first = EndAt 0; more = []; is = refl });
}

pub method_end-free : (result : Option Written) → BeginsFree (method_end result)
method_end-free None = tt
method_end-free (Some r) = tt

method_end-ends : (result : Option Written) (b : Block) → gives_result result b ≡ true → EndsWell b (method_end result)
method_end-ends None b h = inl (record { first = Back; more = []; is = refl })
method_end-ends (Some r) b h = inr h

pub method-right : (t : Tree) → Accepted t → (c : ℕ) (x : List ℕ) (m : Method) →
    method_named t.classes c x ≡ Some m → Right t.classes (method_body t.classes c m)
method-right t a c x m h = let p = Accepted-method t a c x m h in record {
  out = p.out;
  judged = p.body;
  free = method_end-free m.result;
  ends = method_end-ends m.result m.body p.gives;
}

right_is : (classes : List Class) (b c : Body) → b ≡ c → Right classes c → Right classes b
right_is classes b c e r = rw e r

-- the body that the topmost frame runs has no fault
pub body-right : (t : Tree) → Accepted t → (fs : List Frame) (ws : List Window) (items : List Item) (b : Body) (target : Target) →
    Beneath t fs ws items b target → Right t.classes b
body-right t a [] ws items b target h = right_is t.classes b (main_body t) h.0 (main-right t a)
body-right t a (f ∷ fs) ws items b target h = elim (h.7) [
  | inl w ↦ right_is t.classes b _ w.calls.callee_is (method-right t a w.calls.class w.calls.made.method w.calls.called w.calls.called_is)
  | inr w ↦ right_is t.classes b _ w.callee_is (method-right t a w.class w.name w.called w.called_is)
]

-- a block in front of something begins with an item
pub items_of-begins : (b : Block) (after : List Item) → Begins after → Begins (items_of b after)
items_of-begins none after h = h
items_of-begins (next s b) after h = record { first = Do s; more = items_of b after; is = refl }

pub block_end-begins : (classes : List Class) (env : Env) (n line : ℕ) (k : StmtKind) (side : Side) (i : Opened) (more : List Item) →
    inner_block classes env k side ≡ Some i → Begins (block_end n line k ++ more)
block_end-begins classes env n line (branch c b other) side i more e = record { first = EndAt n; more = more; is = refl }
block_end-begins classes env n line (while c b) side i more e = record { first = EndAt n; more = Do (stmt line (while c b)) ∷ more; is = refl }
block_end-begins classes env n line (enter p z b giving) side i more e = record { first = leave_of line n giving; more = more; is = refl }
block_end-begins classes env n line _ side i more e = grind arith

-- behind the first statement of a block an item is left, if it isn't a `return`
pub first-left : (k : StmtKind) (b : Block) (after : List Item) → is_return k ≡ false → Begins after ⊎ (last_is_return k b ≡ true) →
    Begins (items_of b after)
first-left k b after n (inl h) = items_of-begins b after h
first-left k none after n (inr h) = absurd (grind arith)
first-left k (next s b) after n (inr h) = record { first = Do s; more = items_of b after; is = refl }

-- behind the first statement the rest of a block ends as well, where anything of it is left
pub rest-ends : (k : StmtKind) (b : Block) (after : List Item) → Begins after ⊎ (last_is_return k b ≡ true) → EndsWell b after ⊎ (b ≡ none)
rest-ends k b after (inl h) = inl (inl h)
rest-ends k none after (inr h) = inr refl
rest-ends k (next (stmt line other) b) after (inr h) = inl (inr h)

-- without statements there is a point only in front
pub no_point : {B : Type 0} (classes : List Class) (result : Option Ty) (env : Env) (after : List Item) (round : List Path) (p : Point) (s : Spot)
    (i : Item) (mine : List Item) → spot_in classes result env none after round p ≡ Some s → s.items ≡ i ∷ mine → (Begins after → B) → B
no_point classes result env after round here s i mine e h go =
    let same : record { env = env; items = after; enters = round } ≡ s = grind arith in
    go (record { first = i; more = mine; is = ap (λ x. x.items) same ∙ h })
no_point classes result env after round (behind p) s i mine e h go = grind arith
no_point classes result env after round (inside side p) s i mine e h go = grind arith

-- at a point in front of a statement that isn't a `return`, an item is left behind that
pub spot-left : (classes : List Class) (result : Option Ty) (env : Env) (b : Block) (after : List Item) (round : List Path)
    (p : Point) (s : Spot) (line : ℕ) (k : StmtKind) (mine : List Item) → BeginsFree after → EndsWell b after →
    spot_in classes result env b after round p ≡ Some s → s.items ≡ Do (stmt line k) ∷ mine → is_return k ≡ false → Begins mine
spot-left classes result env none after round here s line k mine f w e i n =
    let same : record { env = env; items = after; enters = round } ≡ s = grind arith in
    let all : after ≡ Do (stmt line k) ∷ mine = ap (λ x. x.items) same ∙ i in let P : List Item → Type 0 = λ q. BeginsFree q in absurd (subst P all f)
spot-left classes result env (next (stmt at o) b) after round here s line k mine f w e i n =
    let same : record { env = env; items = Do (stmt at o) ∷ items_of b after; enters = round } ≡ s = grind arith in
    let all : Do (stmt at o) ∷ items_of b after ≡ Do (stmt line k) ∷ mine = ap (λ x. x.items) same ∙ i in
    let one : o ≡ k = grind arith in
    let others : items_of b after ≡ mine = grind arith in
    rw (← others) (first-left o b after (rw one n) w)
spot-left classes result env none after round (behind p) s line k mine f w e i n = grind arith
spot-left classes result env (next (stmt at o) b) after round (behind p) s line k mine f w e i n =
    let m = and_then-some (result_ok (judge_stmt classes (last_of result b) env (stmt at o))) _ s e in
    elim (rest-ends o b after w) [
      | inl ends ↦ spot-left classes result m.0 b after round p s line k mine f ends m.2 i n
      | inr nothing ↦
          let at_end : spot_in classes result m.0 none after round p ≡ Some s = rw (← nothing) m.2 in
          no_point classes result m.0 after round p s (Do (stmt line k)) mine at_end i
          (λ g. spot-left classes result m.0 none after round p s line k mine f (inl g) at_end i n)
    ]
spot-left classes result env none after round (inside side p) s line k mine f w e i n = grind arith
spot-left classes result env (next (stmt at o) b) after round (inside side p) s line k mine f w e i n =
    let m = and_then-some (inner_block classes env o side) _ s e in
    let free = block_end-free classes env (length env.entries) at o side m.0 (items_of b after) m.1 in
    spot-left classes None m.0.env m.0.block (block_end (length env.entries) at o ++ items_of b after) (round ++ entered_path o) p s line k mine
    free (inl (block_end-begins classes env (length env.entries) at o side m.0 (items_of b after) m.1)) m.2 i n
