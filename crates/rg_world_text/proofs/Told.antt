-- What a world says of its behaviours is what is told of their runs, so its text grows by the text of a behaviour.
use Rattle.std.proofs.Common.{◌≡◌, ℕ, suc, ◌+◌, ◌<◌, ◌≤◌, List, [], ◌∷◌, ◌++◌, length, drop, append_assoc, Option, Some, None}
use Rattle.std.proofs.Common.{slice_get, option_map, unwrap_or, refl, sym, ap, ◌∙◌, subst, arith}
use Rattle.std.specs.Prelude.{slice_index_or}
use Rattle.rg_base.specs.declared.value.Val.{Val}
use Rattle.rg_tree.specs.Tree.{Tree}
use Rattle.rg_rules.specs.Runs.{Ran}
use Rattle.rg_cown.specs.Cargo.{CargoList}
use Rattle.rg_code.specs.Code.{Code}
use Rattle.rg_plan.specs.Plans.{Turn as Behaviour, PlanOf}
use Rattle.rg_sched_atomic.specs.declared.phase.Phase.{Phase}
use Rattle.rg_sched_atomic.specs.Phases.{phase_by, phase_of, printed_by}
use Rattle.rg_sched_atomic.specs.Settings.{setting_of}
use Rattle.rg_sched_atomic.specs.Atomic.{World}
use Rattle.rg_world.specs.declared.progress.Progress.{Progress}
use Rattle.rg_world.specs.declared.progress.Standing.{Standing}
use Rattle.rg_world.specs.declared.progress.Standing.TheVariants as stands
use Rattle.rg_world.specs.Standing.{StandsAs, phase_in}
use Rattle.rg_world.specs.Worlds.{WorldIn, Shows, IsBehind}
use Rattle.rg_world.proofs.Events.{runs-length}
use Rattle.rg_world_text.specs.Text.{behaviour_text, text_from}
use Rattle.rg_world_text.proofs.Lines.{drop-at, drop-past, right-nil}

-- there are as many behaviours as the plan has

pub below : (t : Tree) (code : Code) (p : PlanOf) (images : List CargoList) (schedule : List ℕ) (m : WorldIn) (i : ℕ)
    → IsBehind t code p images schedule m → i < length p.behaviours → i < length m.progress
below t code p images schedule m i h l =
    subst (λ n. i < n) (sym (h.shows.many ∙ runs-length t.classes (setting_of t.classes p images) schedule)) l

-- how a behaviour stands, and what it printed

some_is : {A : Type 0} → (a b : A) → Some a ≡ Some b → a ≡ b
some_is a b e = ap (λ o. unwrap_or o a) e

phase-stands : (t : Tree) (code : Code) (o : Option Ran) (s : Standing) → StandsAs t code o s → phase_in s ≡ phase_of o
phase-stands t code o stands.Waiting h = sym (ap phase_of h)
phase-stands t code o (stands.Running s) h = sym (ap phase_of h.1 ∙ ap phase_by h.2.ending)
phase-stands t code o stands.Done h = sym (ap phase_of h.1 ∙ ap phase_by h.2)
phase-stands t code o (stands.Trap kind line) h = sym (ap phase_of h.1 ∙ ap phase_by h.2)

phase-told : (t : Tree) (code : Code) (m : WorldIn) (w : World) (i : ℕ) (f : Phase) → Shows t code m w
    → option_map (λ (p : Progress). phase_in p.standing) (slice_get m.progress i) ≡ Some f → f ≡ phase_of (slice_index_or w.told.runs i None)
phase-told t code m w i f h e = by (slice_get m.progress i) refl e
  where
    by : (o : Option Progress) → slice_get m.progress i ≡ o → option_map (λ (p : Progress). phase_in p.standing) o ≡ Some f
        → f ≡ phase_of (slice_index_or w.told.runs i None)
    by None at e = absurd (cc)
    by (Some p) at e =
        sym (some_is (phase_in p.standing) f e) ∙ phase-stands t code (slice_index_or w.told.runs i None) p.standing (h.each i p at).standing

printed-told : (t : Tree) (code : Code) (m : WorldIn) (w : World) (i : ℕ) (vs : List Val) → Shows t code m w
    → option_map (λ (p : Progress). p.printed) (slice_get m.progress i) ≡ Some vs → vs ≡ printed_by (slice_index_or w.told.runs i None)
printed-told t code m w i vs h e = by (slice_get m.progress i) refl e
  where
    by : (o : Option Progress) → slice_get m.progress i ≡ o → option_map (λ (p : Progress). p.printed) o ≡ Some vs
        → vs ≡ printed_by (slice_index_or w.told.runs i None)
    by None at e = absurd (cc)
    by (Some p) at e = sym (some_is p.printed vs e) ∙ (h.each i p at).printed

-- the text of a behaviour more

pub next : (t : Tree) (code : Code) (m : WorldIn) (w : World) (bs : List Behaviour) (i : ℕ) (b : Behaviour) (f : Phase) (vs : List Val)
    (line new all : List ℕ) → Shows t code m w → slice_get bs i ≡ Some b
    → option_map (λ (p : Progress). phase_in p.standing) (slice_get m.progress i) ≡ Some f
    → option_map (λ (p : Progress). p.printed) (slice_get m.progress i) ≡ Some vs → line ++ text_from i (drop i bs) w.told.runs ≡ all
    → new ≡ line ++ behaviour_text i b.name f vs → new ++ text_from (i + 1) (drop (i + 1) bs) w.told.runs ≡ all
next t code m w bs i b f vs line new all h at stands printed so_far more =
    let rest : List ℕ = text_from (suc i) (drop (i + 1) bs) w.told.runs in
    let one : i + 1 ≡ suc i = omega arith in
    ap (λ n. new ++ text_from n (drop (i + 1) bs) w.told.runs) one
    ∙ ap (λ z. z ++ rest) (more ∙ ap (λ g. line ++ behaviour_text i b.name g vs) (phase-told t code m w i f h stands)
    ∙ ap (λ us. line ++ behaviour_text i b.name (phase_of (slice_index_or w.told.runs i None)) us) (printed-told t code m w i vs h printed))
    ∙ append_assoc line (behaviour_text i b.name (phase_of (slice_index_or w.told.runs i None)) (printed_by (slice_index_or w.told.runs i None))) rest
    ∙ ap (λ cs. line ++ text_from i cs w.told.runs) (sym (drop-at bs i b at)) ∙ so_far

pub end : (w : World) (bs : List Behaviour) (i : ℕ) (line all : List ℕ) → length bs ≤ i → line ++ text_from i (drop i bs) w.told.runs ≡ all
    → line ≡ all
end w bs i line all past h = sym (right-nil line) ∙ ap (λ cs. line ++ text_from i cs w.told.runs) (sym (drop-past bs i past)) ∙ h
