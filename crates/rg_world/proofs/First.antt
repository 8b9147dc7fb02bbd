-- The world before any event, and what holds of each world behind a schedule.
use Rattle.std.proofs.Common.{◌≡◌, ℕ, zero, suc, ◌<◌, All, List, [], ◌∷◌, length, map, replicate, get_or, Option, Some, None, slice_get, unwrap_or}
use Rattle.std.proofs.Common.{refl, sym, ap, ◌∙◌, subst, arith}
use Rattle.std.specs.Prelude.{slice_index}
use Rattle.std.proofs.lemmas.List.{length-replicate}
use Rattle.std.proofs.lemmas.Option.{slice_get_within}
use Rattle.rg_tree.specs.Tree.{Tree}
use Rattle.rg_rules.specs.Acceptance.{Accepted}
use Rattle.rg_rules.specs.Runs.{Ran}
use Rattle.rg_code.specs.Code.{Code}
use Rattle.rg_code.specs.Lowering.{Lowers}
use Rattle.rg_cown.specs.Cargo.{CargoList}
use Rattle.rg_plan.specs.declared.cown.Cown.{Cown}
use Rattle.rg_plan.specs.Laws.{PlansAreGood}
use Rattle.rg_plan.specs.Plans.{PlanOf}
use Rattle.rg_sched_atomic.specs.Contents.{Content, Held}
use Rattle.rg_sched_atomic.specs.Phases.{printed_by}
use Rattle.rg_sched_atomic.specs.Settings.{Setting, setting_of}
use Rattle.rg_sched_atomic.specs.Events.{first_world}
use Rattle.rg_world.specs.declared.progress.Progress.{Progress}
use Rattle.rg_world.specs.Standing.{IsProgress}
use Rattle.rg_contents.specs.Read.{IsReadFor}
use Rattle.rg_world.specs.Worlds.{WorldIn, Shows, IsBehind}
use Rattle.rg_world.specs.Inner.Steps.{waiting}
use Rattle.rg_world.proofs.Events.{runs-length}

pub there-is : {X : Type 0} → (xs : List X) (i : ℕ) → i < length xs → (x : X) × (slice_get xs i ≡ Some x)
there-is [] i l = absurd (omega (arith, l))
there-is (x ∷ xs) zero l = (x, refl)
there-is (x ∷ xs) (suc i) l = there-is xs i (omega (arith, l))

pub many-behind : (t : Tree) (code : Code) (p : PlanOf) (images : List CargoList) (schedule : List ℕ) (m : WorldIn)
    → IsBehind t code p images schedule m → length m.progress ≡ length p.behaviours
many-behind t code p images schedule m h = h.shows.many ∙ runs-length t.classes (setting_of t.classes p images) schedule

pub cowns-there : (t : Tree) (p : PlanOf) (images : List CargoList) → IsReadFor t p images → PlansAreGood
    → All (λ (c : Cown). c.class < length t.classes) p.cowns
cowns-there t p images h plans k d l =
    let good = (plans t h.bytes p h.read).cowns k d l in slice_get_within t.classes (get_or p.cowns k d).class good.class good.there

none-at : (n i : ℕ) → ◌≡◌ {A = Option Ran} (get_or (replicate n None) i None) None
none-at zero i = refl
none-at (suc n) zero = refl
none-at (suc n) (suc i) = none-at n i

zero-at : (n i : ℕ) → slice_index (replicate n 0) i ≡ 0
zero-at zero i = refl
zero-at (suc n) zero = refl
zero-at (suc n) (suc i) = zero-at n i

waiting-at : (n i : ℕ) (p : Progress) → slice_get (replicate n waiting) i ≡ Some p → waiting ≡ p
waiting-at zero i p e = absurd (cc)
waiting-at (suc n) zero p e = ap (λ o. unwrap_or o waiting) e
waiting-at (suc n) (suc i) p e = waiting-at n i p e

first-shows : (t : Tree) (code : Code) (s : Setting)
    → Shows t code (record { progress = replicate (length s.behaviours) waiting; contents = map Held s.contents; began = [] }) (first_world s)
first-shows t code s =
    let n = length s.behaviours in
    let none : Option Ran = None in
    record {
      many = length-replicate n waiting ∙ sym (length-replicate n none);
      turns = length-replicate n 0 ∙ sym (length-replicate n none);
      each = λ i p at. subst (λ q. IsProgress t code (get_or (replicate n None) i None) (slice_index (replicate n 0) i) q) (waiting-at n i p at) (record {
        standing = none-at n i;
        printed = sym (ap printed_by (none-at n i));
        turns_are = sym (zero-at n i);
      });
      contents = refl;
      began = refl;
    }

pub begins-behind : (t : Tree) (code : Code) (p : PlanOf) (images : List CargoList) (ps : List Progress) (cs : List Content) (began : List ℕ)
    → Accepted t → Lowers t code → IsReadFor t p images → ps ≡ replicate (length p.behaviours) waiting
    → cs ≡ map Held (setting_of t.classes p images).contents → began ≡ []
    → IsBehind t code p images [] (record { progress = ps; contents = cs; began = began })
begins-behind t code p images ps cs began accepted lowers plan ps-are cs-are none =
    let s = setting_of t.classes p images in
    let F : List Progress → List Content → List ℕ → Type 0 = λ a b c. Shows t code (record { progress = a; contents = b; began = c }) (first_world s) in
    record {
      accepted = accepted;
      lowers = lowers;
      plan = plan;
      shows = subst (λ z. F z cs began) (sym ps-are) (subst (λ z. F (replicate (length p.behaviours) waiting) z began) (sym cs-are)
          (subst (λ z. F (replicate (length p.behaviours) waiting) (map Held s.contents) z) (sym none) (first-shows t code s)));
    }
