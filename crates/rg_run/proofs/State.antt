-- The states of a run, one step after another.
use Rattle.std.proofs.Common.{◌≡◌, ℕ, ◌+◌, Bool, true, inl, inr, List, refl, sym, subst}
use Rattle.rg_base.specs.declared.outcome.Ended.{Ended}
use Rattle.rg_base.specs.declared.outcome.Outcome.{Outcome}
use Rattle.rg_base.specs.declared.words.Manager.{Manager}
use Rattle.rg_code.specs.Code.{Code}
use Rattle.rg_machine.specs.Parts.{Parts}
use Rattle.rg_step.specs.Pacers.{Asks}
use Rattle.rg_step.specs.States.{Chain, OneStep, Opens, Standing}
use Rattle.rg_step.specs.Steps.{is_made}
use Rattle.rg_step.specs.Stepping.{Stepping, fresh}
use Rattle.rg_step.proofs.Callers.Chain.{chain-none, chain-one, chain-then}
use Rattle.rg_run.specs.Inner.{IsUntold}
use Rattle.rg_run.specs.Machine.{Kept}
use Rattle.rg_run.specs.States.{LeavesAt, RunsThrough}

-- a stepper beside both pacers
abbrev pub standing : Stepping → Asks → Standing
standing st pacers = record { stepper = st; pacers = pacers }

-- the state in which a program opens
abbrev at_first : Parts → (slides : Bool) → Asks → Standing
at_first parts slides first = standing (record fresh { parts = parts; slides = slides }) first

-- what a machine keeps that stands so, behind so many whole steps
abbrev pub kept : Bool → Stepping → ℕ → Kept
kept started st steps = record { begun = started; stepper = st; steps = steps }

-- so many steps lead from an opening state to this one
pub record LeadsTo (code : Code) (manager : Manager) (k : ℕ) (first : Asks) (now : Standing) (before after : List ℕ) : Type 0 where
  pub parts : Parts
  pub opens : Opens code manager parts
  pub chain : Chain code k (at_first parts now.stepper.slides first) now before after

module _ {code : Code} {manager : Manager} {first : Asks} {k : ℕ} where
  -- no step was made yet
  pub opened : (parts : Parts) (slides : Bool) (st : Stepping) → Opens code manager parts →
      st ≡ record fresh { parts = parts; slides = slides } → k ≡ 0 → (bytes : List ℕ) → LeadsTo code manager k first (standing st first) bytes bytes
  opened parts slides st opens is none bytes =
      let at = at_first parts slides first in
      let P : Stepping → Type 0 = λ s. LeadsTo code manager k first (standing s first) bytes bytes in
      let Q : ℕ → Type 0 = λ n. Chain code n at at bytes bytes in
      subst P (sym is) (record { parts = parts; opens = opens; chain = subst Q (sym none) (chain-none code at bytes) })

  -- so many more were made
  pub led-on : (j : ℕ) (now new : Standing) (before between after : List ℕ) → LeadsTo code manager k first now before between →
      new.stepper.slides ≡ now.stepper.slides → Chain code j now new between after → LeadsTo code manager (k + j) first new before after
  led-on j now new before between after so_far same more = record {
    parts = so_far.parts;
    opens = so_far.opens;
    chain =
        let P : Bool → Type 0 = λ b. Chain code (k + j) (at_first so_far.parts b first) new before after in
        subst P (sym same)
        (chain-then code k j (at_first so_far.parts now.stepper.slides first) now new before between after so_far.chain more);
  }

  -- a run that made so many whole steps, and ended so behind the last of them
  pub runs-through : (started : Bool) (end now : Standing) (e : Ended) (before left after : List ℕ) → LeadsTo code manager k first end before left →
      now.stepper.slides ≡ end.stepper.slides → LeavesAt code e end now left after →
      RunsThrough code manager (kept started now.stepper k) e first now.pacers before after
  runs-through started end now e before left after so_far same leaves =
      let P : Bool → Type 0 = λ b. Chain code k (at_first so_far.parts b first) end before left in
      record { parts = so_far.parts; opens = so_far.opens; end = end; left = left; chain = subst P (sym same) so_far.chain; leaves = leaves }

-- behind a step

module _ {code : Code} {manager : Manager} {first : Asks} {k : ℕ} {now new : Standing} {r : Outcome} {x y z : List ℕ}
    (so_far : LeadsTo code manager k first now x y) (one : OneStep code now new r y z) where
  -- it was made
  pub stepped-on : is_made r ≡ true → LeadsTo code manager (k + 1) first new x z
  stepped-on made = led-on 1 now new x y z so_far one.slides (chain-one code now new r y z made one)

  -- it was made, and the run ended behind it
  pub ended-behind : {started : Bool} (e : Ended) → is_made r ≡ true → LeavesAt code e new new z z →
      RunsThrough code manager (kept started new.stepper (k + 1)) e first new.pacers x z
  ended-behind {started} e made leaves = runs-through started new new e x z z (stepped-on made) refl leaves

  -- it was refused, which ended the run
  pub refused-at : {started : Bool} (e : Ended) → LeavesAt code e now new y z →
      RunsThrough code manager (kept started new.stepper k) e first new.pacers x z
  refused-at {started} e leaves = runs-through started now new e x y z so_far one.slides leaves

-- a collection that wasn't told ends a run behind its last whole step
pub untold-leaves : (code : Code) (now : Standing) (e : Ended) → IsUntold e → (bytes : List ℕ) → LeavesAt code e now now bytes bytes
untold-leaves code now e (inl is) bytes =
    let P : Ended → Type 0 = λ q. LeavesAt code q now now bytes bytes in subst P (sym is) (inl (refl, refl))
untold-leaves code now e (inr is) bytes =
    let P : Ended → Type 0 = λ q. LeavesAt code q now now bytes bytes in subst P (sym is) (refl, refl)
