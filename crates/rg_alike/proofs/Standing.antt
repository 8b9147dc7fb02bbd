-- A machine that shows a run of a program shows that of each program which is the same but for the lines that no mark has.
use Rattle.std.proofs.Common.{◌≡◌, sym, ap, ◌∙◌, subst, ℕ, ◌+◌, ◌≤◌, List, length, arith}
use Rattle.rg_base.specs.declared.event.Event.{Event}
use Rattle.rg_tree.specs.Tree.{Class, Tree}
use Rattle.rg_tree.specs.Rows.Tables.{Tables}
use Rattle.rg_tree.specs.Rows.RowTrees.{program_of}
use Rattle.rg_rules.specs.Acceptance.{Accepted}
use Rattle.rg_rules.specs.State.{State, active}
use Rattle.rg_rules.specs.Reach.{plain_reach}
use Rattle.rg_rules.specs.Runs.{Ran, plain}
use Rattle.rg_rules.specs.Outside.Asks.{item_makes}
use Rattle.rg_code.specs.Code.{Code}
use Rattle.rg_code.specs.Lowering.{scope_behind, kind_code}
use Rattle.rg_lines.specs.Unlined.{classes_unlined, SameButLines}
use Rattle.rg_lines.proofs.Plain.{same-runs}
use Rattle.rg_lines.proofs.Asks.{item_makes-unlined}
use Rattle.rg_marks.proofs.Bodies.{scope_behind-unlined, kind_code-unlined, same-code}
use Rattle.rg_stack.specs.Machine.{Machine}
use Rattle.rg_stack.specs.Shows.{Shows}
use Rattle.rg_stack.specs.Dues.{first_due}
use Rattle.rg_held.specs.Shown.{ShowsHeld}
use Rattle.rg_machine.specs.Parts.{machine_in}
use Rattle.rg_run.specs.Collected.{IsManaged, Told, Tells}
use Rattle.rg_run.specs.Machine.{Kept}
use Rattle.rg_run.specs.Sound.{HoldsOf, Stands}
use Rattle.rg_run.proofs.Sound.{run-is-sound}
use Rattle.rg_sound.specs.Held.{NoneStale, LiveFit}
use Rattle.rg_alike.specs.Standing.{ShowsState, RunStands}
use Rattle.rg_alike.proofs.Dues.{MakeAlike, due-alike}
use Rattle.rg_alike.proofs.Places.{LowersAlike, lies-alike}
use Rattle.rg_alike.proofs.Regions.{live-alike, held-alike}

-- Classes

abbrev SameClasses : List Class → List Class → Type 0
SameClasses cs ds = classes_unlined cs ≡ classes_unlined ds

make-alike : (cs ds : List Class) → SameClasses cs ds → MakeAlike cs ds
make-alike cs ds e i = sym (item_makes-unlined cs i) ∙ (ap (λ ks. item_makes ks i) e ∙ item_makes-unlined ds i)

lowers-alike : (cs ds : List Class) → SameClasses cs ds → LowersAlike cs ds
lowers-alike cs ds e = record {
  kinds = λ sc at line k.
      sym (kind_code-unlined cs sc at line k) ∙ (ap (λ ks. kind_code ks sc at line k) e ∙ kind_code-unlined ds sc at line k);
  behind = λ sc k. sym (scope_behind-unlined cs sc k) ∙ (ap (λ ks. scope_behind ks sc k) e ∙ scope_behind-unlined ds sc k);
}

-- What is shown

shows-alike : (cs ds : List Class) → SameClasses cs ds → (code : Code) (m : Machine) (s : State) → NoneStale ds s → LiveFit ds s →
    Shows cs code m s → Shows ds code m s
shows-alike cs ds e code m s stale fit h = record {
  slots = h.slots;
  windows = h.windows;
  places = lies-alike cs ds (lowers-alike cs ds e) code.ops _ s.items m.at h.places;
  windows_made = h.windows_made;
  managers = h.managers;
  store = h.store;
  none_stale = stale;
  live_regions = fit;
}

shown-alike : (cs ds : List Class) → SameClasses cs ds → (code : Code) (m : Machine) (s : State) → NoneStale ds s → LiveFit ds s →
    ShowsHeld cs code m s → ShowsHeld ds code m s
shown-alike cs ds e code m s stale fit h = record {
  grown = h.grown;
  held = h.held;
  shows = shows-alike cs ds e code h.grown s stale fit h.shows;
  beside = h.beside;
}

holds-alike : (cs ds : List Class) → SameClasses cs ds → (m : Kept) (s : State) → HoldsOf cs m s → HoldsOf ds m s
holds-alike cs ds e m s h = record {
  holds = h.holds;
  made = h.made;
  held = λ a is. held-alike cs ds s (live-alike cs ds e s) a (h.held a is);
  same = h.same;
  others = h.others;
  locals = h.locals;
  fields = h.fields;
}

-- Collections

module _ (t u : Tree) (e : SameButLines t u) (input : List ℕ) where
  same-classes : SameClasses t.classes u.classes
  same-classes = ap (λ (v : Tree). v.classes) e

  same-state : (n : ℕ) → (plain t input n).state ≡ (plain u input n).state
  same-state n = ap (λ (r : Ran). r.state) (same-runs t u e input n)

  same-due : (n : ℕ) → first_due t.classes (plain t input n).state.items ≡ first_due u.classes (plain u input n).state.items
  same-due n =
      due-alike t.classes u.classes (make-alike t.classes u.classes same-classes) (plain t input n).state.items
      ∙ ap (λ (s : State). first_due u.classes s.items) (same-state n)

  told-alike : (v : Event) → Told t input v → Told u input v
  told-alike v h = record {
    before = h.before;
    step = h.step;
    due = sym (same-due h.before) ∙ h.due;
    region = h.region ∙ ap (λ (s : State). active s.windows) (same-state (h.before + 1));
    manager = subst (λ (s : State). IsManaged s v.manager) (same-state (h.before + 1)) h.manager;
    collects = h.collects;
    kept = λ traced. h.kept traced ∙ ap (λ (s : State). length (plain_reach s)) (same-state (h.before + 1));
  }

pub tell-alike : (t u : Tree) → SameButLines t u → (input : List ℕ) (steps : ℕ) (events : List Event) → Tells t input steps events →
    Tells u input steps events
tell-alike t u e input steps events h = record {
  each = λ i v there. told-alike t u e input v (h.each i v there);
  within = h.within;
  rise = h.rise;
  all = λ k m less due managed other.
      h.all k m less (same-due t u e input k ∙ due) (subst (λ (s : State). IsManaged s m) (sym (same-state t u e input (k + 1))) managed) other;
}

-- Runs

pub stand-alike : (t : Tables) (u : Tree) → SameButLines (program_of t) u → Accepted u → (input : List ℕ) (n : ℕ) (m : Kept) →
    Stands t input n m → RunStands u input n m
stand-alike t u e a input n m h =
    let cs = (program_of t).classes in
    let s = (plain (program_of t) input n).state in
    let same = same-state (program_of t) u e input n in
    let classes = same-classes (program_of t) u e input in
    let sound = run-is-sound u a input n in
    let last : n ≤ n = omega arith in
    let stale : NoneStale u.classes s = subst (NoneStale u.classes) (sym same) (sound.none_stale n last) in
    let fit : LiveFit u.classes s = subst (LiveFit u.classes) (sym same) (sound.forest n last) in
    let code = h.shows.code in
    let shown : ShowsState u m s = record {
      begun = h.shows.begun;
      code = code;
      lowers = h.shows.lowers ∙ same-code (program_of t) u e;
      state = shown-alike cs u.classes classes code (machine_in m.stepper.parts) s stale fit h.shows.state;
    } in
    record {
      shows = subst (ShowsState u m) same shown;
      held = subst (HoldsOf u.classes m) same (holds-alike cs u.classes classes m s h.held);
      steps = h.steps ∙ ap (λ (r : Ran). r.steps) (same-runs (program_of t) u e input n);
      told = tell-alike (program_of t) u e input m.steps m.stepper.events h.told;
      sound = sound;
    }

pub stand-in_tables : (u : Tables) (input : List ℕ) (n : ℕ) (m : Kept) → RunStands (program_of u) input n m → Stands u input n m
stand-in_tables u input n m h = record {
  shows = record { begun = h.shows.begun; code = h.shows.code; lowers = h.shows.lowers; state = h.shows.state };
  held = h.held;
  steps = h.steps;
  told = h.told;
  sound = h.sound;
}
