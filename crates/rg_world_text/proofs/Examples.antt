-- The texts of short schedules, computed.
use Rattle.std.specs.Fmt.{digits}
use Rattle.std.proofs.Common.{◌≡◌, refl, ℕ, pos, List, [], ◌∷◌, ◌++◌, false, None, codes}
use Rattle.rg_base.specs.declared.words.Cap.TheVariants as cap
use Rattle.rg_base.specs.declared.words.Manager.TheVariants as manager
use Rattle.rg_base.specs.declared.outcome.Trap.TheVariants as trap
use Rattle.rg_base.specs.declared.value.Val.TheVariants as val
use Rattle.rg_tree.specs.declared.rows.BinOp.TheVariants as op
use Rattle.rg_tree.specs.Tree.{int, number, path, binary, value, assign, enter, print, Class}
use Rattle.rg_rules.specs.Runs.{plain_from}
use Rattle.rg_rules.proofs.Sources.{self_dot, dot, to, block, field_named, method_named, class_named}
use Rattle.rg_cown.specs.Contents.{read_on}
use Rattle.rg_plan.specs.declared.cown.Start.TheVariants.{New}
use Rattle.rg_plan.specs.Plans.{Turn as Behaviour, PlanOf}
use Rattle.rg_sched_atomic.specs.declared.phase.Phase.TheVariants as phase
use Rattle.rg_sched_atomic.specs.Settings.{new_content, setting_of}
use Rattle.rg_sched_atomic.specs.Events.{world_after}
use Rattle.rg_world_text.specs.Text.{behaviour_text, world_text}

-- class N { v: int; }
-- class A { n: iso N; def mut add() { enter self.n as z { z.v = z.v + 1; print z.v; } } }
abbrev classes : List Class
classes =
    class_named "N" false (field_named "v" int ∷ [])
    ∷ class_named "A" false (field_named "n" (to cap.Iso "N")
    ∷ method_named cap.Mut "add" [] None
    (enter (self_dot "n") (codes "z")
    (block (assign (dot "z" "v") (value (binary op.Add (path (dot "z" "v")) (number (pos 1)))) ∷ print (path (dot "z" "v")) ∷ [])) None ∷ [])
    ∷ [])
    ∷ []

-- `cown N arena`, and twice `when A.add 0`
abbrev add : Behaviour
add = record { class = 1; method = 0; name = codes "A.add"; cowns = 0 ∷ [] }

abbrev plan : PlanOf
plan = record { cowns = record { class = 0; start = New manager.Arena; line = 1 } ∷ []; behaviours = add ∷ add ∷ [] }

-- the text behind a schedule
abbrev text_behind : List ℕ → List ℕ
text_behind schedule = world_text plan (world_after classes (setting_of classes plan (new_content classes 0 manager.Arena ∷ [])) schedule).told

both_done : text_behind (0 ∷ 1 ∷ 0 ∷ 0 ∷ 0 ∷ 0 ∷ 0 ∷ 0 ∷ 1 ∷ 1 ∷ 1 ∷ 1 ∷ 1 ∷ 1 ∷ 1 ∷ [])
    ≡ codes "behaviour 0 A.add done" ++ 10 ∷ codes "1" ++ 10 ∷ codes "behaviour 1 A.add done" ++ 10 ∷ codes "2" ++ 10 ∷ []
unfolding digits plain_from read_on
both_done = refl

one_waits : text_behind (0 ∷ 1 ∷ 0 ∷ []) ≡ codes "behaviour 0 A.add running" ++ 10 ∷ codes "behaviour 1 A.add waiting" ++ 10 ∷ []
unfolding digits plain_from read_on
one_waits = refl

-- what was printed before a trap stands, and a bool, too
traps : behaviour_text 10 (codes "A.m") (phase.Trap trap.Nil 1) (val.Int (pos 5) ∷ val.Bool false ∷ [])
    ≡ codes "behaviour 10 A.m trap nil at line 1" ++ 10 ∷ codes "5" ++ 10 ∷ codes "false" ++ 10 ∷ []
unfolding digits
traps = refl
