-- What a step of a behaviour leaves (docs/architecture.md, "Worlds").
use Rattle.std.specs.Prelude.{◌≡◌, ℕ, Bool as Truth, true, false, List, [], ◌∷◌, ◌++◌, map, Option, Some, None, slice_get}
use Rattle.std.specs.List.{list_all}
use Rattle.rg_base.specs.declared.value.Val.{Val}
use Rattle.rg_base.specs.declared.outcome.Outcome.{Outcome}
use Rattle.rg_base.specs.declared.outcome.Outcome.TheVariants as outcome
use Rattle.rg_tree.specs.Tree.{Field, Tree}
use Rattle.rg_rules.specs.Runs.{Running, Done, Stopped, Ran}
use Rattle.rg_code.specs.Code.{Code}
use Rattle.rg_held.specs.Shown.{ShowsHeld}
use Rattle.rg_machine.specs.Parts.{machine_in}
use Rattle.rg_sched_atomic.specs.Contents.{Content, put, left_by}
use Rattle.rg_slots.specs.declared.slot.Slot.{Slot}
use Rattle.rg_slots.specs.declared.slot.Slot.TheVariants as slots
use Rattle.rg_cown.specs.Cargo.{CargoList}
use Rattle.rg_slots.specs.Slots.{content_in}
use Rattle.rg_step.specs.Behaviours.{HoldsFirst}
use Rattle.rg_step.specs.Stepping.{Stepping}
use Rattle.rg_world.specs.declared.progress.Progress.{Progress}
use Rattle.rg_world.specs.declared.progress.Standing.{Standing}
use Rattle.rg_world.specs.declared.progress.Standing.TheVariants as stands
use Rattle.rg_world.specs.declared.advance.Stepped.{Stepped}
use Rattle.rg_world.specs.declared.advance.Stepped.TheVariants as stepped
use Rattle.rg_world.specs.Standing.{RunsAs, StandsAs}

-- the machine of a behaviour whose run has ended shows its last state
pub record EndsAs (t : Tree) (code : Code) (r : Ran) (s : Stepping) : Type 0 where
  pub ending : r.ending ≡ Done
  pub shows : ShowsHeld t.classes code (machine_in s.parts) r.state
  pub first : HoldsFirst s.parts

-- what the answer of a step of the machine says of the run, which has printed these values before it
abbrev pub Tells : Tree → Code → (printed : List Val) → Ran → Stepping → Outcome → Type 0
Tells t code printed r s outcome.Running = RunsAs t code r s × (r.state.output ≡ printed)
Tells t code printed r s (outcome.Printed v) = RunsAs t code r s × (r.state.output ≡ printed ++ v ∷ [])
Tells t code printed r s outcome.Done = EndsAs t code r s × (r.state.output ≡ printed)
Tells t code printed r s (outcome.Trap kind line) = (r.ending ≡ Stopped kind line) × (r.state.output ≡ printed)
Tells t code printed r s outcome.InputFault = ⊥
Tells t code printed r s outcome.Memory = Unit {0}

-- contents are what the run of a behaviour leaves to its cowns, whichever these are
abbrev pub IsLeft : List Field → Ran → List Slot → Type 0
IsLeft fields r back = (ns : List ℕ) (cs : List Content) → put ns (map content_in back) cs ≡ put ns (left_by fields r.state r.ending ns) cs

-- what a step of a behaviour came to: it goes on, having printed or not, or it has ended and leaves contents to its cowns
abbrev pub CameTo : Tree → Code → (printed : List Val) → List Field → Ran → Standing → Stepped → Type 0
CameTo t code printed fields r s stepped.On = StandsAs t code (Some r) s × (r.ending ≡ Running) × (r.state.output ≡ printed)
CameTo t code printed fields r s (stepped.Printed v) = StandsAs t code (Some r) s × (r.ending ≡ Running) × (r.state.output ≡ printed ++ v ∷ [])
CameTo t code printed fields r s (stepped.Ended back) = StandsAs t code (Some r) s × IsLeft fields r back.items × (r.state.output ≡ printed)

-- what a run that goes on leaves, and one that has ended
abbrev pub Leaves : List Field → Ran → Option (List Slot) → Type 0
Leaves fields r None = r.ending ≡ Running
Leaves fields r (Some back) = IsLeft fields r back

-- what cowns have behind a step that leaves this
abbrev pub contents_with : (cowns : List ℕ) → Option (List Slot) → List Content → List Content
contents_with ns None cs = cs
contents_with ns (Some back) cs = put ns (map content_in back) cs

-- whether a behaviour that stands so has ended
abbrev pub is_ended : Standing → Truth
is_ended stands.Waiting = false
is_ended (stands.Running s) = false
is_ended stands.Done = true
is_ended (stands.Trap kind line) = true

abbrev pub ended_in : Option Progress → Truth
ended_in None = false
ended_in (Some p) = is_ended p.standing

-- whether all of some behaviours have ended
abbrev pub all_ended_in : List Progress → (numbers : List ℕ) → Truth
all_ended_in ps ks = list_all (λ k. ended_in (slice_get ps k)) ks

-- whether a behaviour is there and hasn't begun, and whether it is running
abbrev pub waits_so : Standing → Truth
waits_so stands.Waiting = true
waits_so (stands.Running s) = false
waits_so stands.Done = false
waits_so (stands.Trap kind line) = false

abbrev pub is_waiting : Option Progress → Truth
is_waiting None = false
is_waiting (Some p) = waits_so p.standing

abbrev pub runs_so : Standing → Truth
runs_so stands.Waiting = false
runs_so (stands.Running s) = true
runs_so stands.Done = false
runs_so (stands.Trap kind line) = false

abbrev pub is_running : Option Progress → Truth
is_running None = false
is_running (Some p) = runs_so p.standing

-- what goes back of what a field owns
abbrev pub slot_of : Option CargoList → Slot
slot_of None = slots.Empty
slot_of (Some c) = slots.Held c

-- a behaviour that hasn't begun
abbrev pub waiting : Progress
waiting = record { standing = stands.Waiting; printed = []; turns = 0 }
