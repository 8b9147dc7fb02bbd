-- What a world of a plan tells is what its behaviours come to one after another, and of each cown something is told.
use Rattle.std.proofs.Common.{◌≡◌, ◌<◌, ◌∙◌, ℕ, List, length, Option, Some, None, slice_get, sym, ap, subst}
use Rattle.std.specs.Prelude.{slice_index_or}
use Rattle.std.proofs.lemmas.Option.{get_or_from_slice_get}
use Rattle.rg_tree.specs.Tree.{Tree}
use Rattle.rg_code.specs.Code.{Code}
use Rattle.rg_cown.specs.Cargo.{CargoList}
use Rattle.rg_plan.specs.Plans.{PlanOf}
use Rattle.rg_sched_atomic.specs.Contents.{Content, Empty}
use Rattle.rg_sched_atomic.specs.Settings.{setting_of}
use Rattle.rg_sched_atomic.specs.Atomic.{Told}
use Rattle.rg_sched_atomic.specs.Events.{world_after}
use Rattle.rg_sched_atomic.specs.Laws.{OneByOne, PlansAreSettings}
use Rattle.rg_sched.specs.Running.{IsCounted}
use Rattle.rg_sched.specs.declared.running.Behind.{Behind}
use Rattle.rg_sched.specs.Running.{WorldIn, IsBehind}
use Rattle.rg_world.proofs.Events.{contents-length}
use Rattle.rg_world_text.specs.Text.{world_text}
use Rattle.rg_when.specs.Inner.Puts.{text_answer}
use Rattle.rg_when.specs.Scheduled.{told_behind, text_behind, kept_of, answer_behind}

pub told-alike : PlansAreSettings → OneByOne → (t : Tree) (code : Code) (p : PlanOf) (images : List CargoList) (numbers : List ℕ) (m : WorldIn) →
    IsBehind t code p images numbers m →
    (world_after t.classes (setting_of t.classes p images) numbers).told ≡ told_behind t p images numbers
told-alike settings one t code p images numbers m h =
    (one t.classes (setting_of t.classes p images) numbers (settings t h.plan.bytes p images h.plan.read)).told

pub text-alike : PlansAreSettings → OneByOne → (t : Tree) (code : Code) (p : PlanOf) (images : List CargoList) (numbers : List ℕ) (m : WorldIn) →
    IsBehind t code p images numbers m →
    world_text p (world_after t.classes (setting_of t.classes p images) numbers).told ≡ text_behind t p images numbers
text-alike settings one t code p images numbers m h = ap (world_text p) (told-alike settings one t code p images numbers m h)

-- and so is what a cown has
pub content-alike : PlansAreSettings → OneByOne → (t : Tree) (code : Code) (p : PlanOf) (images : List CargoList) (numbers : List ℕ) (m : WorldIn) →
    IsBehind t code p images numbers m → (k : ℕ) (content : Content) → slice_get m.contents k ≡ Some content →
    slice_index_or (told_behind t p images numbers).contents k Empty ≡ content
content-alike settings one t code p images numbers m h k content there =
    ap (λ (x : Told). slice_index_or x.contents k Empty) (sym (told-alike settings one t code p images numbers m h))
    ∙ ap (λ xs. slice_index_or xs k Empty) (sym h.shows.contents) ∙ get_or_from_slice_get m.contents k content Empty there

-- so the text of a world is what is answered behind the numbers, where nothing is kept
pub text-answers : PlansAreSettings → OneByOne → (t : Tree) (code : Code) (p : PlanOf) (images : List CargoList) (numbers : List ℕ) (b : Behind)
    (keep : Option ℕ) (text : List ℕ) → IsCounted t code p images numbers b → keep ≡ None
    → text ≡ world_text p (world_after t.classes (setting_of t.classes p images) numbers).told
    → text_answer (Some text) b.taken ≡ answer_behind t p images keep numbers
text-answers settings one t code p images numbers b keep text h none is =
    ap (λ (x : List ℕ). text_answer (Some x) b.taken) (is ∙ text-alike settings one t code p images numbers b.world h.1)
    ∙ ap (λ (o : Option ℕ). answer_behind t p images o numbers) (sym none)

-- and what a cown of it has is, where that is kept
pub kept-answers : PlansAreSettings → OneByOne → (t : Tree) (code : Code) (p : PlanOf) (images : List CargoList) (numbers : List ℕ) (b : Behind)
    (keep : Option ℕ) (k : ℕ) (content : Content) → IsCounted t code p images numbers b → keep ≡ Some k → slice_get b.world.contents k ≡ Some content
    → kept_of content b.taken ≡ answer_behind t p images keep numbers
kept-answers settings one t code p images numbers b keep k content h some there =
    ap (λ (x : Content). kept_of x b.taken) (sym (content-alike settings one t code p images numbers b.world h.1 k content there))
    ∙ ap (kept_of (slice_index_or (told_behind t p images numbers).contents k Empty)) h.0
    ∙ ap (λ (o : Option ℕ). answer_behind t p images o numbers) (sym some)

-- each cown of the plan has something
pub content-there : (t : Tree) (code : Code) (p : PlanOf) (images : List CargoList) (numbers : List ℕ) (m : WorldIn) →
    IsBehind t code p images numbers m → (k : ℕ) → k < length p.cowns → k < length m.contents
content-there t code p images numbers m h k within =
    let same = ap length h.shows.contents ∙ contents-length t.classes p images numbers h.plan.many in
    subst (λ (n : ℕ). k < n) (sym same) within
