-- Short schedules, computed: how each behaviour stands and what it printed, what each cown has, and the course of the schedule.
use Rattle.std.proofs.Common.{◌≡◌, refl, ℕ, pos, List, [], ◌∷◌, map, false, None, codes}
use Rattle.rg_base.specs.declared.object.Label.TheVariants.{Region}
use Rattle.rg_base.specs.declared.words.Cap.TheVariants as cap
use Rattle.rg_base.specs.declared.words.Manager.TheVariants as manager
use Rattle.rg_base.specs.declared.outcome.Trap.TheVariants as trap
use Rattle.rg_base.specs.declared.value.Val.{Val}
use Rattle.rg_base.specs.declared.value.Val.TheVariants as val
use Rattle.rg_tree.specs.declared.rows.BinOp.TheVariants as op
use Rattle.rg_tree.specs.Tree.{int, number, nil, path, binary, value, declare, assign, swap, enter, print, StmtKind, Class}
use Rattle.rg_rules.specs.Runs.{plain_from}
use Rattle.rg_rules.proofs.Sources.{self_dot, dot, to, block, field_named, method_named, class_named}
use Rattle.rg_cown.specs.Cargo.{CargoList}
use Rattle.rg_cown.specs.Contents.{read_on}
use Rattle.rg_plan.specs.declared.cown.Start.TheVariants.{New}
use Rattle.rg_plan.specs.Plans.{Turn as Behaviour}
use Rattle.rg_sched_atomic.specs.declared.phase.Phase.{Phase}
use Rattle.rg_sched_atomic.specs.declared.phase.Phase.TheVariants.{Waiting, Running, Done, Trap}
use Rattle.rg_sched_atomic.specs.Contents.{Content, Away, Empty, Held}
use Rattle.rg_sched_atomic.specs.Phases.{phase_of, printed_by}
use Rattle.rg_sched_atomic.specs.Settings.{Setting, setting_of}
use Rattle.rg_sched_atomic.specs.Atomic.{Told, atomic}
use Rattle.rg_sched_atomic.specs.Events.{world_after}

-- `enter self.n as z { .. }`
abbrev in_n : List StmtKind → List StmtKind
in_n body = enter (self_dot "n") (codes "z") (block body) None ∷ []

-- class N { v: int; }
-- class A { n: iso N; def mut add() { enter self.n as z { z.v = z.v + 1; print z.v; } } def mut fail() { enter self.n as z { z.v = 1 / 0; } } }
-- class P { a: iso N; b: iso N; def mut turn() { let t: iso N = nil; swap t, self.a; swap t, self.b; swap t, self.a; } }
abbrev classes : List Class
classes =
    class_named "N" false (field_named "v" int ∷ [])
    ∷ class_named "A" false (field_named "n" (to cap.Iso "N")
    ∷ method_named cap.Mut "add" [] None
    (in_n (assign (dot "z" "v") (value (binary op.Add (path (dot "z" "v")) (number (pos 1)))) ∷ print (path (dot "z" "v")) ∷ []))
    ∷ method_named cap.Mut "fail" [] None (in_n (assign (dot "z" "v") (value (binary op.Div (number (pos 1)) (number (pos 0)))) ∷ []))
    ∷ [])
    ∷ class_named "P" false (field_named "a" (to cap.Iso "N") ∷ field_named "b" (to cap.Iso "N")
    ∷ method_named cap.Mut "turn" [] None
    (declare (codes "t") (to cap.Iso "N") (value nil)
    ∷ swap (codes "t") (self_dot "a") ∷ swap (codes "t") (self_dot "b") ∷ swap (codes "t") (self_dot "a") ∷ [])
    ∷ [])
    ∷ []

-- an object of N alone, and its number
abbrev n_of : ℕ → CargoList
n_of v = record { cells = record { class = 0; label = Region 0; fields = val.Int (pos v) ∷ [] } ∷ []; managers = manager.Arena ∷ [] }

-- `when A.add` over a cown, `when A.fail 0` and `when P.turn 0 1`
abbrev add : (cown : ℕ) → Behaviour
add n = record { class = 1; method = 0; name = codes "A.add"; cowns = n ∷ [] }

abbrev fail : Behaviour
fail = record { class = 1; method = 1; name = codes "A.fail"; cowns = 0 ∷ [] }

abbrev turn : Behaviour
turn = record { class = 2; method = 2; name = codes "P.turn"; cowns = 0 ∷ 1 ∷ [] }

-- `cown N arena`, and twice `when A.add 0`
abbrev counter : Setting
counter = setting_of classes (record {
  cowns = record { class = 0; start = New manager.Arena; line = 1 } ∷ [];
  behaviours = add 0 ∷ add 0 ∷ [];
}) (n_of 0 ∷ [])

counter-begins : counter ≡ record { contents = n_of 0 ∷ []; behaviours = add 0 ∷ add 0 ∷ [] }
counter-begins = refl

record Shown : Type 0 where
  phases : List Phase
  printed : List (List Val)
  contents : List Content

abbrev shown : Told → Shown
shown t = record { phases = map phase_of t.runs; printed = map printed_by t.runs; contents = t.contents }

abbrev schedule : List ℕ
schedule = 0 ∷ 1 ∷ 0 ∷ 0 ∷ 0 ∷ 0 ∷ 0 ∷ 0 ∷ 1 ∷ 1 ∷ 1 ∷ 1 ∷ 1 ∷ 1 ∷ 1 ∷ []

both_done : shown (world_after classes counter schedule).told ≡ record {
  phases = Done ∷ Done ∷ [];
  printed = (val.Int (pos 1) ∷ []) ∷ (val.Int (pos 2) ∷ []) ∷ [];
  contents = Held (n_of 2) ∷ [];
}
unfolding plain_from read_on
both_done = refl

both_done-began : (world_after classes counter schedule).began ≡ 0 ∷ 1 ∷ []
unfolding plain_from read_on
both_done-began = refl

both_done-turns : (world_after classes counter schedule).turns ≡ 6 ∷ 6 ∷ []
unfolding plain_from read_on
both_done-turns = refl

both_done-one_by_one : (world_after classes counter schedule).told ≡ atomic classes counter (0 ∷ 1 ∷ []) (6 ∷ 6 ∷ [])
unfolding plain_from read_on
both_done-one_by_one = refl

one_waits : shown (world_after classes counter (0 ∷ 1 ∷ 0 ∷ [])).told ≡ record {
  phases = Running ∷ Waiting ∷ [];
  printed = [] ∷ [] ∷ [];
  contents = Away ∷ [];
}
unfolding plain_from read_on
one_waits = refl

-- Behaviours over different cowns

-- two numbers are counted on, exchanged, and the first cown's is counted on once more
abbrev pair : Setting
pair = record { contents = n_of 5 ∷ n_of 7 ∷ []; behaviours = add 0 ∷ add 1 ∷ turn ∷ add 0 ∷ [] }

abbrev seven : ℕ → List ℕ → List ℕ
seven i rest = i ∷ i ∷ i ∷ i ∷ i ∷ i ∷ i ∷ rest

abbrev pair_done : Shown
pair_done = record {
  phases = Done ∷ Done ∷ Done ∷ Done ∷ [];
  printed = (val.Int (pos 6) ∷ []) ∷ (val.Int (pos 8) ∷ []) ∷ [] ∷ (val.Int (pos 9) ∷ []) ∷ [];
  contents = Held (n_of 9) ∷ Held (n_of 6) ∷ [];
}

in_order : shown (world_after classes pair (seven 0 (seven 1 (seven 2 (seven 3 []))))).told ≡ pair_done
unfolding plain_from read_on
in_order = refl

-- the second begins first, the third and the fourth are tried too early, and there is no behaviour 4
abbrev in_turns : List ℕ
in_turns = 3 ∷ 1 ∷ 2 ∷ 0 ∷ 1 ∷ 4 ∷ 0 ∷ 1 ∷ 0 ∷ 1 ∷ 3 ∷ 0 ∷ 1 ∷ 0 ∷ 1 ∷ 0 ∷ 2 ∷ 1 ∷ 0 ∷ seven 2 (seven 3 [])

interleaved : shown (world_after classes pair in_turns).told ≡ pair_done
unfolding plain_from read_on
interleaved = refl

interleaved-began : (world_after classes pair in_turns).began ≡ 1 ∷ 0 ∷ 2 ∷ 3 ∷ []
unfolding plain_from read_on
interleaved-began = refl

-- A trap

-- the cown of a behaviour that traps is empty, so that the next one finds nil
abbrev failing : Setting
failing = record { contents = n_of 0 ∷ []; behaviours = fail ∷ add 0 ∷ [] }

traps : shown (world_after classes failing (0 ∷ 0 ∷ 0 ∷ 0 ∷ 1 ∷ 1 ∷ 1 ∷ [])).told ≡ record {
  phases = Trap trap.Zero 1 ∷ Trap trap.Nil 1 ∷ [];
  printed = [] ∷ [] ∷ [];
  contents = Empty ∷ [];
}
unfolding plain_from read_on
traps = refl

traps-turns : (world_after classes failing (0 ∷ 0 ∷ 0 ∷ 0 ∷ 1 ∷ 1 ∷ 1 ∷ [])).turns ≡ 2 ∷ 1 ∷ []
unfolding plain_from read_on
traps-turns = refl
