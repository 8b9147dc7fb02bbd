-- Runs of code and of the machine that never frees, computed and written out, and what is shown of a state.
use Rattle.std.proofs.Common.{◌≡◌, refl, pos, [], ◌∷◌, None}
use Rattle.rg_base.specs.declared.outcome.Trap.TheVariants as trap
use Rattle.rg_base.specs.declared.value.Val.TheVariants.{Nil, Int, Obj}
use Rattle.rg_rules.specs.Acceptance.{first_fault}
use Rattle.rg_rules.specs.Runs.{plain_from, plain}
use Rattle.rg_rules.specs.Runs as plain
use Rattle.rg_code.specs.Lowering.{lowered}
use Rattle.rg_stack.specs.Machine.{Machine}
use Rattle.rg_stack.specs.Runs.{Done, Stopped, Ran, coded_from, coded}
use Rattle.rg_stack.proofs.Mirrors.{Mirrors}
use Rattle.rg_stack.proofs.Examples.Programs.{all_kinds, two_lines}

-- Each kind of step, and a trap

accepted : first_fault all_kinds ≡ None
accepted = refl

abbrev run : Ran
run = coded all_kinds (lowered all_kinds) [] 100

-- i is 2 behind the loop; 0 + 5 is returned, stays in the field and is read from the frozen object; and 7 / 0 traps on line 9
printed : run.output ≡ Int (pos 2) ∷ Int (pos 5) ∷ Int (pos 5) ∷ []
unfolding coded_from
printed = refl

-- 1 for i, 7 for the loop, 3 for the choice, 1 for y, 1 to enter, 3 for `add`, 1 to print, 2 for `rest`, 1 to leave, 1 to freeze, 1 to print
counted : run.steps ≡ 22
unfolding coded_from
counted = refl

stopped : run.standing ≡ Stopped trap.Zero 9
unfolding coded_from
stopped = refl

-- and so does the machine that never frees

plain_printed : (plain all_kinds [] 100).state.output ≡ Int (pos 2) ∷ Int (pos 5) ∷ Int (pos 5) ∷ []
unfolding plain_from
plain_printed = refl

plain_stopped : (plain all_kinds [] 100).ending ≡ plain.Stopped trap.Zero 9
unfolding plain_from
plain_stopped = refl

-- in `add`, behind 14 steps: its frame has `self` and k, main's has i, y and z and a slot that is free, and goes on behind the call
in_method : (coded all_kinds (lowered all_kinds) [] 14).work.machine.frames
    ≡ record { slots = Obj 0 ∷ Int (pos 5) ∷ []; back = 43 } ∷ record { slots = Int (pos 2) ∷ Obj 0 ∷ Obj 0 ∷ Nil ∷ []; back = 0 } ∷ []
unfolding coded_from
in_method = refl

-- What is shown

-- the machine behind the first step, at the second statement's mark
abbrev behind_one : Machine
behind_one = (coded two_lines (lowered two_lines) [] 1).work.machine

frames_there : behind_one.frames ≡ record { slots = Int (pos 1) ∷ []; back = 0 } ∷ []
unfolding coded_from
frames_there = refl

at_second : behind_one.at ≡ 3
unfolding coded_from
at_second = refl

shown : Mirrors [] (lowered two_lines) behind_one (plain two_lines [] 1).state
unfolding coded_from plain_from
shown = record {
  slots = (refl, tt);
  windows = (record { number = refl; region = refl; owner = refl; base = refl }, tt);
  places = ((refl, refl), (refl, refl, refl));
  windows_made = refl;
  managers = refl;
  store = refl;
}

-- behind its last step the machine stands at `halt`, without variables
ends : (coded two_lines (lowered two_lines) [] 3).standing ≡ Done
unfolding coded_from
ends = refl

at_halt : (coded two_lines (lowered two_lines) [] 3).work.machine.at ≡ 8
unfolding coded_from
at_halt = refl

no_variable : (coded two_lines (lowered two_lines) [] 3).work.machine.frames ≡ record { slots = Nil ∷ []; back = 0 } ∷ []
unfolding coded_from
no_variable = refl
