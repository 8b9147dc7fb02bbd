-- The topmost frame goes on to the point behind its statement.
use Rattle.std.proofs.Common.{◌≡◌, sym, ◌∙◌, ap, ℕ, false, List, [], ◌∷◌, ◌++◌, length, Option, Ok, arith}
use Rattle.rg_base.specs.declared.ty.Ty.{Ty}
use Rattle.rg_tree.specs.Tree.{Tree, stmt, StmtKind, Class}
use Rattle.rg_rules.specs.Environment.{Env}
use Rattle.rg_rules.specs.Statements.{judge_kind}
use Rattle.rg_rules.specs.Items.{Item, Do}
use Rattle.rg_rules.specs.Bodies.{is_return}
use Rattle.rg_rules.specs.Points.{Spot}
use Rattle.rg_rules.specs.State.{Frame, Window}
use Rattle.rg_rules.proofs.Point.{advance, spot-advance}
use Rattle.rg_sound.specs.Frames.{leaves, Running, Stands}
use Rattle.rg_sound.proofs.Frames.Body.{Right, spot-left}

-- the items of the topmost frame begin with the first one that is to do
pub running-first : (t : Tree) (top : Frame) (lower : List Frame) (windows : List Window) (i : Item) (later : List Item)
    (r : Running t top lower windows (i ∷ later)) → (r.spot.items ≡ i ∷ r.more) × (later ≡ r.more ++ r.rest)
running-first t top lower windows i later r =
    let one : r.first ≡ i = sym (grind arith) in
    let others : later ≡ r.more ++ r.rest = grind arith in
    (r.begins ∙ ap (λ x. x ∷ r.more) one, others)

-- a frame that stands behind the statement, wherever that has no fault
abbrev pub StandsBehind : List Class → StmtKind → Spot → Frame → (n : ℕ) → List Window → (mine : List Item) → Type 0
StandsBehind classes k spot f n own mine = (last : Option Ty) (line : ℕ) (out : Env) → judge_kind classes last line spot.env k ≡ Ok out →
    leaves spot.items ≡ leaves mine → Stands f n own (record { env = out; items = mine; enters = spot.enters })

-- the topmost frame, whose variables may be others, goes on behind a statement that isn't a `return`
pub running-advance : (t : Tree) (top next : Frame) (lower : List Frame) (windows : List Window) (line : ℕ) (k : StmtKind) (later : List Item)
    (r : Running t top lower windows (Do (stmt line k) ∷ later)) → Right t.classes r.body → is_return k ≡ false → next.target ≡ top.target →
    StandsBehind t.classes k r.spot next (length lower) r.own r.more → Running t next lower windows later
running-advance t top next lower windows line k later r a not_return same stands =
    let is = running-first t top lower windows (Do (stmt line k)) later r in
    let n = spot-advance t.classes r.body.result r.body.front a.out r.body.block r.body.after [] r.point r.spot (stmt line k)
    r.more a.free a.judged r.spot_is is.0 in
    let l = spot-left t.classes r.body.result r.body.front r.body.block r.body.after [] r.point r.spot line k r.more a.free a.ends r.spot_is is.0
    not_return in
    record {
      body = r.body;
      own = r.own;
      under = r.under;
      windows_are = r.windows_are;
      point = advance r.point;
      spot = record { env = n.out; items = r.more; enters = r.spot.enters };
      spot_is = n.spot_is;
      stands = stands n.last line n.out n.right (ap leaves is.0);
      first = l.first;
      more = l.more;
      begins = l.is;
      rest = r.rest;
      items_are = is.1 ∙ ap (λ x. x ++ r.rest) l.is;
      beneath = rw same r.beneath;
    }

-- a frame whose environment stays stands behind a statement
pub stands_on : (f : Frame) (n : ℕ) (own : List Window) (old : Spot) (env : Env) (items : List Item) → env ≡ old.env →
    leaves old.items ≡ leaves items →
    Stands f n own old → Stands f n own (record { env = env; items = items; enters = old.enters })
stands_on f n own old env items same ends h =
    rw same (record { named = h.named; entered = h.entered; bases = h.bases ∙ ends; depths = h.depths; lent_are = h.lent_are })
