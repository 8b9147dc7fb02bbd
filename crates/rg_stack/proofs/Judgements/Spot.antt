-- No `enter` stands round a `return`, nor round the end of a method.
use Rattle.std.proofs.Common.{◌≡◌, ℕ, arith, true, false, true≢false, List, ◌∷◌, ◌++◌, length, Option, Some, None, Ok, refl, sym, ap, subst, ◌∙◌}
use Rattle.std.specs.Result.{result_ok}
use Rattle.std.specs.Prelude.{Bool as Truth, option_and_then}
use Rattle.rg_base.specs.declared.ty.Ty.{Ty}
use Rattle.rg_tree.specs.Tree.{Path, Stmt, stmt, StmtKind, branch, while, enter, return, Block}
use Rattle.rg_tree.specs.Tree.{empty as none, then as more_of, Class}
use Rattle.rg_rules.specs.Environment.{Env}
use Rattle.rg_rules.specs.Items.{Item, Do, Back, items_of}
use Rattle.rg_rules.specs.Statements.{judge_stmt, judge_block}
use Rattle.rg_rules.specs.Points.{Point, here, behind, inside, Spot, Opened, Side, spot_in, inner_block, block_end, entered_path}
use Rattle.rg_rules.proofs.Answers.{bind-ok}
use Rattle.rg_rules.proofs.Point.{and_then-some, inner_block-judged}
use Rattle.rg_stack.proofs.Walks.Place.{AllGoOn}
use Rattle.rg_stack.proofs.Judgements.Judge.{block-goes_on}

-- whether items begin with what ends a frame
abbrev pub leaves_frame : List Item → Truth
leaves_frame (Do (stmt line (return e)) ∷ rest) = true
leaves_frame (Back ∷ rest) = true
leaves_frame _ = false

goes_on_items : (b : Block) (after : List Item) → AllGoOn b → leaves_frame after ≡ false → leaves_frame (items_of b after) ≡ false
goes_on_items none after g h = h
goes_on_items (more_of (stmt line (return e)) b) after g h = absurd g.0
goes_on_items (more_of (stmt line _) b) after g h = refl

ends_block : (classes : List Class) (env : Env) (n line : ℕ) (k : StmtKind) (side : Side) (i : Opened) (more : List Item)
    → inner_block classes env k side ≡ Some i → leaves_frame (block_end n line k ++ more) ≡ false
ends_block classes env n line (branch c b other) side i more e = refl
ends_block classes env n line (while c b) side i more e = refl
ends_block classes env n line (enter p z b None) side i more e = refl
ends_block classes env n line (enter p z b (Some w)) side i more e = refl
ends_block classes env n line _ side i more e = grind arith

from_ok : (classes : List Class) (last : Option Ty) (env : Env) (u : Stmt) (mid : Env) (go : Env → Option Spot) (s : Spot)
    → judge_stmt classes last env u ≡ Ok mid → option_and_then go (result_ok (judge_stmt classes last env u)) ≡ Some s → go mid ≡ Some s
from_ok classes last env u mid go s e h = sym (ap (λ r. option_and_then go (result_ok r)) e) ∙ h

-- inside a block that gives no result nothing ends the frame
pub inner_stays : (classes : List Class) (env out : Env) (b : Block) (after : List Item) (round : List Path) (p : Point) (s : Spot)
    → judge_block classes None env b ≡ Ok out → leaves_frame after ≡ false
    → spot_in classes None env b after round p ≡ Some s → leaves_frame s.items ≡ false
inner_stays classes env out b after round here s judged ends is =
    let same : record { env = env; items = items_of b after; enters = round } ≡ s = grind arith in
    subst (λ (s : Spot). leaves_frame s.items ≡ false) same (goes_on_items b after (block-goes_on classes b env out judged) ends)
inner_stays classes env out none after round (behind p) s judged ends is = grind arith
inner_stays classes env out none after round (inside side p) s judged ends is = grind arith
inner_stays classes env out (more_of u b) after round (behind p) s judged ends is =
    let m = bind-ok (judge_stmt classes _ env u) _ out judged in
    inner_stays classes m.0 out b after round p s m.2 ends (from_ok classes _ env u m.0 (λ mid. spot_in classes None mid b after round p) s m.1 is)
inner_stays classes env out (more_of (stmt line k) b) after round (inside side p) s judged ends is =
    let m = bind-ok (judge_stmt classes _ env (stmt line k)) _ out judged in
    let i = and_then-some (inner_block classes env k side) _ s is in
    let j = inner_block-judged classes _ line env k side i.0 m.0 m.1 i.1 in
    inner_stays classes i.0.env j.0 i.0.block (block_end (length env.entries) line k ++ items_of b after) (round ++ entered_path k) p s j.1
    (ends_block classes env (length env.entries) line k side i.0 (items_of b after) i.1) i.2

-- round what ends the frame stand the same `enter`s as round the body
pub outer-enters : (classes : List Class) (result : Option Ty) (env out : Env) (b : Block) (after : List Item) (round : List Path) (p : Point)
    (s : Spot) → judge_block classes result env b ≡ Ok out
    → spot_in classes result env b after round p ≡ Some s → leaves_frame s.items ≡ true → s.enters ≡ round
outer-enters classes result env out b after round here s judged is leaves =
    let same : record { env = env; items = items_of b after; enters = round } ≡ s = grind arith in sym (ap (λ (s : Spot). s.enters) same)
outer-enters classes result env out none after round (behind p) s judged is leaves = grind arith
outer-enters classes result env out none after round (inside side p) s judged is leaves = grind arith
outer-enters classes result env out (more_of u b) after round (behind p) s judged is leaves =
    let m = bind-ok (judge_stmt classes _ env u) _ out judged in
    outer-enters classes result m.0 out b after round p s m.2
    (from_ok classes _ env u m.0 (λ mid. spot_in classes result mid b after round p) s m.1 is) leaves
outer-enters classes result env out (more_of (stmt line k) b) after round (inside side p) s judged is leaves =
    let m = bind-ok (judge_stmt classes _ env (stmt line k)) _ out judged in
    let i = and_then-some (inner_block classes env k side) _ s is in
    let j = inner_block-judged classes _ line env k side i.0 m.0 m.1 i.1 in
    absurd (true≢false (sym leaves ∙ inner_stays classes i.0.env j.0 i.0.block (block_end (length env.entries) line k ++ items_of b after)
    (round ++ entered_path k) p s j.1
    (ends_block classes env (length env.entries) line k side i.0 (items_of b after) i.1) i.2))
