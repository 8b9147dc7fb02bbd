-- The maps of a body are those of the environments at the points at which its marks stand.
use Rattle.std.proofs.Common.{◌≡◌, refl, sym, subst, ℕ, Bool as Truth, true, false, List, [], ◌∷◌, ◌++◌, length, map, Option}
use Rattle.std.proofs.Common.{Some, None, option_map, option_and_then, Ok}
use Rattle.std.specs.Result.{result_ok}
use Rattle.rg_base.specs.declared.ty.Ty.{Ty}
use Rattle.rg_base.specs.declared.ty.Ty.TheVariants.{Ref}
use Rattle.rg_tree.specs.Tree.{Path, stmt, StmtKind, declare, assign, assign_element, call, swap, branch, while, enter, print, collect}
use Rattle.rg_tree.specs.Tree.{return, no_else, otherwise, Block, empty as none, then as next, Param, Method, Class}
use Rattle.rg_rules.specs.Answers.{Answer, Lined, at_line}
use Rattle.rg_rules.specs.Types.{type_of, method_result}
use Rattle.rg_rules.specs.Environment.{Env, empty, with_variable}
use Rattle.rg_rules.specs.Items.{Item, EndAt, items_of}
use Rattle.rg_rules.specs.Statements.{judge_kind, judge_block, judge_test, judge_enter, last_of}
use Rattle.rg_rules.specs.Bodies.{method_end, method_env, with_params as env_params}
use Rattle.rg_rules.specs.Points.{Side, first, second, Point, behind, inside, Spot, Opened, opened, inner_block, block_end, entered_path, spot_in}
use Rattle.rg_rules.proofs.Answers.{bind-ok, at_line-ok}
use Rattle.rg_rules.proofs.Acceptance.{Accepted-parts, Accepted-method}
use Rattle.rg_sound.proofs.Frames.Entry.{Distinct, Stays-distinct}
use Rattle.rg_sound.proofs.Frames.Method.{method-front}
use Rattle.rg_sound.proofs.Frames.Judge.{judge_test-stays, judge_enter-inner, judge_kind-goes}
use Rattle.rg_code.specs.Lowering.{Scope, with_slot, scope_behind, scope_inside, with_params, method_scope}
use Rattle.rg_build.specs.Maps.{types_in, inner_maps, block_maps, is_end_marked}
use Rattle.rg_build.specs.Laws.{inner_points, block_points, IsMapAt, AreAt, MapsAreOfEnvironments}
use Rattle.rg_build.proofs.Environments.{Matches, matches-types, matches-more, matches-stays, inside-matches, behind-matches}

-- Lists of maps at points

at-then : (at : Point → Option Env) (ps qs : List Point) (ms ns : List (List Ty)) → AreAt at ps ms → AreAt at qs ns → AreAt at (ps ++ qs) (ms ++ ns)
at-then at [] qs [] ns h g = g
at-then at [] qs (m ∷ ms) ns h g = absurd h
at-then at (p ∷ ps) qs [] ns h g = absurd h
at-then at (p ∷ ps) qs (m ∷ ms) ns h g = (h.0, at-then at ps qs ms ns h.1 g)

at-mapped : (at inner : Point → Option Env) (f : Point → Point) (ps : List Point) (ms : List (List Ty)) → ((p : Point) → at (f p) ≡ inner p) →
    AreAt inner ps ms → AreAt at (map f ps) ms
at-mapped at inner f [] [] e h = h
at-mapped at inner f [] (m ∷ ms) e h = absurd h
at-mapped at inner f (p ∷ ps) [] e h = absurd h
at-mapped at inner f (p ∷ ps) (m ∷ ms) e h =
    (subst (λ (o : Option Env). IsMapAt o m) (sym (e p)) h.0, at-mapped at inner f ps ms e h.1)

-- the environment of a spot, if there is one
abbrev env_of : Option Spot → Option Env
env_of o = option_map (λ (s : Spot). s.env) o

-- that in a block
abbrev env_in : List Class → (result : Option Ty) → Env → Block → (after : List Item) → (round : List Path) → Point → Option Env
env_in cs result env b after round p = env_of (spot_in cs result env b after round p)

map-at : (env : Env) (ss : Scope) → Matches env.entries ss → IsMapAt (Some env) (types_in ss)
map-at env ss m = record { here_is = env; there = refl; types_are = matches-types env.entries ss m }

from-mid : (r : Lined Env) (mid : Env) (go : Env → Option Spot) → r ≡ Ok mid → env_of (option_and_then go (result_ok r)) ≡ env_of (go mid)
from-mid r mid go e = rw (e, result_ok) refl

from-block : (o : Option Opened) (i : Opened) (go : Opened → Option Spot) → o ≡ Some i → env_of (option_and_then go o) ≡ env_of (go i)
from-block o i go e = rw e refl

-- a block that was judged, in front of which the variables are those of a scope
abbrev Placed : List Class → (result : Option Ty) → Env → Block → (marked : Truth) → Scope → Type 0
Placed cs result env b marked ss = (after : List Item) (round : List Path) →
    AreAt (env_in cs result env b after round) (block_points marked b) (block_maps cs marked ss b)

-- the block of a statement
within : (cs : List Class) (result : Option Ty) (env : Env) (line : ℕ) (k : StmtKind) (rest : Block) (side : Side) (front : Env) (b : Block)
    (ss : Scope) (after : List Item) (round : List Path) → inner_block cs env k side ≡ Some (record { env = front; block = b }) →
    Placed cs None front b true ss →
    AreAt (env_in cs result env (next (stmt line k) rest) after round) (map (inside side) (block_points true b)) (block_maps cs true ss b)
within cs result env line k rest side front b ss after round e h =
    let i : Opened = record { env = front; block = b } in
    let go : Point → Opened → Option Spot = λ p o.
    spot_in cs None o.env o.block (block_end (length env.entries) line k ++ items_of rest after) (round ++ entered_path k) p in
    at-mapped (env_in cs result env (next (stmt line k) rest) after round)
    (env_in cs None front b (block_end (length env.entries) line k ++ items_of rest after) (round ++ entered_path k)) (inside side)
    (block_points true b) (block_maps cs true ss b) (λ p. from-block (inner_block cs env k side) i (go p) e)
    (h (block_end (length env.entries) line k ++ items_of rest after) (round ++ entered_path k))

-- the blocks of a statement
abbrev Inner : List Class → (result : Option Ty) → Env → (line : ℕ) → StmtKind → (rest : Block) → Scope → Type 0
Inner cs result env line k rest ss = (after : List Item) (round : List Path) →
    AreAt (env_in cs result env (next (stmt line k) rest) after round) (inner_points k) (inner_maps cs ss k)

opened-is : (cs : List Class) (env front : Env) (b : Block) (r : Answer Env) → r ≡ Ok front → opened r b ≡ Some (record { env = front; block = b })
opened-is cs env front b r e = rw e refl

mutual
  block-placed : (cs : List Class) (result : Option Ty) (env out : Env) (b : Block) (marked : Truth) (ss : Scope) → Distinct env.entries →
      Matches env.entries ss → judge_block cs result env b ≡ Ok out → Placed cs result env b marked ss
  block-placed cs result env out none true ss d m h after round = (map-at env ss m, tt)
  block-placed cs result env out none false ss d m h after round = tt
  block-placed cs result env out (next (stmt line k) b) marked ss d m h after round =
      let j = bind-ok (judge_kind cs (last_of result b) line env k) _ out h in
      let g = judge_kind-goes cs (last_of result b) line env j.0 k d j.1 in
      let rest = block-placed cs result j.0 out b marked (scope_behind cs ss k) g.distinct
      (behind-matches cs (last_of result b) line env j.0 ss k d m j.1) j.2 in
      let go : Point → Env → Option Spot = λ p mid. spot_in cs result mid b after round p in
      let others = at-mapped (env_in cs result env (next (stmt line k) b) after round) (env_in cs result j.0 b after round) behind
      (block_points marked b) (block_maps cs marked (scope_behind cs ss k) b)
      (λ p. from-mid (judge_kind cs (last_of result b) line env k) j.0 (go p) j.1) (rest after round) in (
        map-at env ss m,
        at-then (env_in cs result env (next (stmt line k) b) after round) (inner_points k) (map behind (block_points marked b))
            (inner_maps cs ss k) (block_maps cs marked (scope_behind cs ss k) b)
            (kind-inner cs result (last_of result b) env j.0 line k b ss d m j.1 after round) others,
      )

  kind-inner : (cs : List Class) (result last : Option Ty) (env out : Env) (line : ℕ) (k : StmtKind) (rest : Block) (ss : Scope) →
      Distinct env.entries → Matches env.entries ss → judge_kind cs last line env k ≡ Ok out → Inner cs result env line k rest ss
  kind-inner cs result last env out line (branch e b no_else) rest ss d m h after round =
      let f = bind-ok (at_line line (judge_test cs env e)) _ out h in
      let a = bind-ok (judge_block cs None f.0 b) _ out f.2 in
      let r = at_line-ok line (judge_test cs env e) f.0 f.1 in
      let t = judge_test-stays cs env f.0 e d r in
      let inner = block-placed cs None f.0 a.0 b true ss (Stays-distinct env f.0 d t) (matches-stays env f.0 ss t m) a.1 in
      at-then (env_in cs result env (next (stmt line (branch e b no_else)) rest) after round) (map (inside first) (block_points true b)) []
      (block_maps cs true ss b) []
      (within cs result env line (branch e b no_else) rest first f.0 b ss after round (opened-is cs env f.0 b (judge_test cs env e) r) inner) tt
  kind-inner cs result last env out line (branch e b (otherwise c)) rest ss d m h after round =
      let f = bind-ok (at_line line (judge_test cs env e)) _ out h in
      let a = bind-ok (judge_block cs None f.0 b) _ out f.2 in
      let q = bind-ok (judge_block cs None f.0 c) _ out a.2 in
      let r = at_line-ok line (judge_test cs env e) f.0 f.1 in
      let t = judge_test-stays cs env f.0 e d r in
      let inner = block-placed cs None f.0 a.0 b true ss (Stays-distinct env f.0 d t) (matches-stays env f.0 ss t m) a.1 in
      let other = block-placed cs None f.0 q.0 c true ss (Stays-distinct env f.0 d t) (matches-stays env f.0 ss t m) q.1 in
      let k = branch e b (otherwise c) in
      at-then (env_in cs result env (next (stmt line k) rest) after round) (map (inside first) (block_points true b))
      (map (inside second) (block_points true c)) (block_maps cs true ss b) (block_maps cs true ss c)
      (within cs result env line k rest first f.0 b ss after round (opened-is cs env f.0 b (judge_test cs env e) r) inner)
      (within cs result env line k rest second f.0 c ss after round (opened-is cs env f.0 c (judge_test cs env e) r) other)
  kind-inner cs result last env out line (while e b) rest ss d m h after round =
      let f = bind-ok (at_line line (judge_test cs env e)) _ out h in
      let a = bind-ok (judge_block cs None f.0 b) _ out f.2 in
      let r = at_line-ok line (judge_test cs env e) f.0 f.1 in
      let t = judge_test-stays cs env f.0 e d r in
      let inner = block-placed cs None f.0 a.0 b true ss (Stays-distinct env f.0 d t) (matches-stays env f.0 ss t m) a.1 in
      within cs result env line (while e b) rest first f.0 b ss after round (opened-is cs env f.0 b (judge_test cs env e) r) inner
  kind-inner cs result last env out line (enter p z b giving) rest ss d m h after round =
      let f = bind-ok (at_line line (judge_enter cs env p.base p.fields z)) _ out h in
      let a = bind-ok (judge_block cs None f.0 b) _ out f.2 in
      let r = at_line-ok line (judge_enter cs env p.base p.fields z) f.0 f.1 in
      let i = judge_enter-inner cs env f.0 p.base p.fields z d r in
      let inner = block-placed cs None f.0 a.0 b true (scope_inside cs ss p z) i.distinct (inside-matches cs env f.0 ss p.base p.fields z m r) a.1 in
      within cs result env line (enter p z b giving) rest first f.0 b (scope_inside cs ss p z) after round
      (opened-is cs env f.0 b (judge_enter cs env p.base p.fields z) r) inner
  kind-inner cs result last env out line (declare x t r) rest ss d m h after round = tt
  kind-inner cs result last env out line (assign p r) rest ss d m h after round = tt
  kind-inner cs result last env out line (assign_element q e r) rest ss d m h after round = tt
  kind-inner cs result last env out line (call c) rest ss d m h after round = tt
  kind-inner cs result last env out line (swap y p) rest ss d m h after round = tt
  kind-inner cs result last env out line (print e) rest ss d m h after round = tt
  kind-inner cs result last env out line collect rest ss d m h after round = tt
  kind-inner cs result last env out line (return e) rest ss d m h after round = tt

-- Bodies

params-match : (cs : List Class) (ps : List Param) (env : Env) (ss : Scope) → Matches env.entries ss →
    Matches (env_params cs ps env).entries (with_params cs ss ps)
params-match cs [] env ss m = m
params-match cs (p ∷ ps) env ss m =
    params-match cs ps (with_variable env (Some p.name) (type_of cs p.ty) true) (with_slot ss (Some p.name) (type_of cs p.ty))
    (matches-more env.entries ss _ _ m refl refl)

method-match : (cs : List Class) (c : ℕ) (m : Method) → Matches (method_env cs c m).entries (method_scope cs c m)
method-match cs c m =
    params-match cs m.params (with_variable empty None (Ref m.receiver c) false) (with_slot [] None (Ref m.receiver c)) (refl, refl, tt)

pub maps-are : MapsAreOfEnvironments
maps-are = record {
  main = λ t a.
      let p = Accepted-parts t a in block-placed t.classes None empty p.out t.body true [] tt tt p.main (EndAt 0 ∷ []) [];
  methods = λ t a c x m found.
      let p = Accepted-method t a c x m found in
      let f = method-front t a c x m found in
      block-placed t.classes (method_result t.classes m) (method_env t.classes c m) p.out m.body (is_end_marked m.result) (method_scope t.classes c m)
      f.distinct (method-match t.classes c m) p.body (method_end m.result) [];
}
