-- The spot in front of a `return`.
use Rattle.std.proofs.Common.{◌≡◌, refl, sym, ◌∙◌, ap, subst, ℕ, List, ◌∷◌, ◌++◌, length, Option, Some, None, Ok, arith}
use Rattle.rg_base.specs.declared.ty.Ty.{Ty}
use Rattle.rg_tree.specs.Tree.{Path, Expr, stmt, StmtKind, return, Block, empty as none, then as next, Class}
use Rattle.rg_rules.specs.Environment.{Env}
use Rattle.rg_rules.specs.Statements.{judge_stmt, judge_kind, judge_block, judge_return, last_of}
use Rattle.rg_rules.specs.Items.{Item, Do, items_of}
use Rattle.rg_rules.specs.Points.{Point, here, behind, inside, Spot, spot_in, inner_block, block_end, entered_path}
use Rattle.rg_rules.proofs.Answers.{bind-ok, at_line-ok}
use Rattle.rg_rules.proofs.Point.{BeginsFree, and_then-some, inner_block-judged, block_end-free, from_ok}
use Rattle.rg_sound.proofs.Basics.{none-some}

-- In front of a `return`

-- a `return` stands last in the body itself
pub record Returns (classes : List Class) (result : Option Ty) (after : List Item) (round : List Path) (s : Spot) (line : ℕ) (e : Expr)
    (mine : List Item) : Type 0 where
  pub mine_is : mine ≡ after
  pub enters_are : s.enters ≡ round
  pub ty : Ty
  pub gives : result ≡ Some ty
  pub out : Env
  pub judged : judge_return classes (Some ty) s.env e ≡ Ok out

last_of-some : (result : Option Ty) (b : Block) (t : Ty) → last_of result b ≡ Some t → (b ≡ none) × (result ≡ Some t)
last_of-some result none t h = (refl, h)
last_of-some result (next s b) t h = grind arith

return-given : (classes : List Class) (last : Option Ty) (env out : Env) (x : Expr) → judge_return classes last env x ≡ Ok out →
    (t : Ty) × (last ≡ Some t) × (judge_return classes (Some t) env x ≡ Ok out)
return-given classes None env out x h = grind arith
return-given classes (Some t) env out x h = (t, refl, h)

pub spot-return : (classes : List Class) (result : Option Ty) (env out : Env) (b : Block) (after : List Item) (round : List Path) (p : Point)
    (s : Spot)
    (line : ℕ) (x : Expr) (mine : List Item) → BeginsFree after → judge_block classes result env b ≡ Ok out →
    spot_in classes result env b after round p ≡ Some s → s.items ≡ Do (stmt line (return x)) ∷ mine →
    Returns classes result after round s line x mine
spot-return classes result env out none after round here s line x mine f h e at =
    let same : record { env = env; items = after; enters = round } ≡ s = grind arith in
    let all : after ≡ Do (stmt line (return x)) ∷ mine = ap (λ (q : Spot). q.items) same ∙ at in
    let P : List Item → Type 0 = λ q. BeginsFree q in absurd (subst P all f)
spot-return classes result env out (next (stmt l u) b) after round here s line x mine f h e at =
    let same : record { env = env; items = Do (stmt l u) ∷ items_of b after; enters = round } ≡ s = grind arith in
    let all : Do (stmt l u) ∷ items_of b after ≡ Do (stmt line (return x)) ∷ mine = ap (λ (q : Spot). q.items) same ∙ at in
    let one : (u ≡ return x) × (items_of b after ≡ mine) = grind arith in
    let m = bind-ok (judge_kind classes (last_of result b) l env u) _ out h in
    let P : StmtKind → Type 0 = λ q. judge_kind classes (last_of result b) l env q ≡ Ok m.0 in
    let right : judge_kind classes (last_of result b) l env (return x) ≡ Ok m.0 = subst P one.0 m.1 in
    let r = at_line-ok l (judge_return classes (last_of result b) env x) m.0 right in
    let t = return-given classes (last_of result b) env m.0 x r in
    let last = last_of-some result b t.0 t.1 in
    let Q : Block → Type 0 = λ q. items_of q after ≡ mine in
    let at_end : items_of none after ≡ mine = subst Q last.0 one.1 in
    record {
      mine_is = sym at_end;
      enters_are = sym (ap (λ (q : Spot). q.enters) same);
      ty = t.0;
      gives = last.1;
      out = m.0;
      judged = let R : Env → Type 0 = λ q. judge_return classes (Some t.0) q x ≡ Ok m.0 in subst R (ap (λ (q : Spot). q.env) same) t.2;
    }
spot-return classes result env out none after round (behind p) s line x mine f h e at = grind arith
spot-return classes result env out (next u b) after round (behind p) s line x mine f h e at =
    let m = bind-ok (judge_stmt classes (last_of result b) env u) _ out h in
    let a = from_ok (judge_stmt classes (last_of result b) env u) m.0 (λ mid. spot_in classes result mid b after round p) s m.1 e in
    spot-return classes result m.0 out b after round p s line x mine f m.2 a at
spot-return classes result env out none after round (inside side p) s line x mine f h e at = grind arith
spot-return classes result env out (next (stmt l k) b) after round (inside side p) s line x mine f h e at =
    let m = bind-ok (judge_kind classes (last_of result b) l env k) _ out h in
    let a = and_then-some (inner_block classes env k side) _ s e in
    let j = inner_block-judged classes (last_of result b) l env k side a.0 m.0 m.1 a.1 in
    let free = block_end-free classes env (length env.entries) l k side a.0 (items_of b after) a.1 in
    let r = spot-return classes None a.0.env j.0 a.0.block (block_end (length env.entries) l k ++ items_of b after) (round ++ entered_path k)
    p s line x mine free j.1 a.2 at in
    none-some r.gives
