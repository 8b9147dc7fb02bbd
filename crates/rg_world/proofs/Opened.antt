-- A behaviour that begins.
use Rattle.std.proofs.Common.{◌≡◌, ℕ, List, [], ◌∷◌, refl, sym, ap, ◌∙◌, subst}
use Rattle.std.proofs.lemmas.Option.{get_or_from_slice_get}
use Rattle.std.specs.Prelude.{slice_index_or}
use Rattle.rg_tree.specs.Tree.{Block, empty as none, then as next, Method, Class, Tree}
use Rattle.rg_rules.specs.Acceptance.{Accepted}
use Rattle.rg_rules.specs.Items.{EndAt, Back, items_of}
use Rattle.rg_rules.specs.Runs.{Running, Ran, ending_of, plain_from}
use Rattle.rg_rules.specs.Types.{fields_of}
use Rattle.rg_code.specs.Code.{Code}
use Rattle.rg_code.specs.Lowering.{Lowers}
use Rattle.rg_plain.specs.Outcomes.{EndsMain}
use Rattle.rg_opening.specs.declared.given.Given.{Given}
use Rattle.rg_opening.specs.Opening.{opening_of}
use Rattle.rg_begin.specs.Starts.{Starts}
use Rattle.rg_contents.specs.Rest.{IsReady}
use Rattle.rg_plan.specs.Plans.{Turn as Behaviour}
use Rattle.rg_sched_atomic.specs.Behaviours.{all_methods, idle, run_of}
use Rattle.rg_sched_atomic.specs.Contents.{Content, givens}
use Rattle.rg_step.specs.Begins.{Begins}
use Rattle.rg_step.specs.Stepping.{Stepping}
use Rattle.rg_world.specs.Standing.{RunsAs}

-- the run of a behaviour that begins with a method
abbrev Opened : Behaviour → Method → List Given → Ran
Opened b m gs = record { state = opening_of b.class m gs; steps = 0; ending = ending_of (items_of m.body (Back ∷ EndAt 0 ∷ [])) }

opened-is : (classes : List Class) (b : Behaviour) (cs : List Content)
    → run_of classes b cs 0 ≡ Opened b (slice_index_or (all_methods classes) b.method idle) (givens (fields_of classes b.class) cs)
unfolding plain_from
opened-is classes b cs = refl

runs-first : (body : Block) → ending_of (items_of body (Back ∷ EndAt 0 ∷ [])) ≡ Running
runs-first none = refl
runs-first (next s b) = refl

ends-first : (body : Block) → EndsMain (items_of body (Back ∷ EndAt 0 ∷ []))
ends-first none = refl
ends-first (next s none) = refl
ends-first (next s (next u b)) = ends-first (next u b)

pub starts : (t : Tree) (code : Code) (b : Behaviour) (gs : List Given) → Accepted t → Lowers t code → (ready : IsReady t b gs)
    → Starts t code b.class b.method ready.method gs
starts t code b gs accepted lowers ready = record { accepted = accepted; lowers = lowers; may = ready.may; number = ready.number }

pub begins-as : (t : Tree) (code : Code) (b : Behaviour) (cs : List Content) (old new : Stepping) → Accepted t → Lowers t code
    → IsReady t b (givens (fields_of t.classes b.class) cs) → Begins code b.class b.method (givens (fields_of t.classes b.class) cs) old new
    → RunsAs t code (run_of t.classes b cs 0) new
begins-as t code b cs old new accepted lowers ready h =
    let gs = givens (fields_of t.classes b.class) cs in
    let m = ready.method in
    let here : RunsAs t code (Opened b m gs) new = record {
      ending = runs-first m.body;
      runs = h.runs t m (starts t code b gs accepted lowers ready);
      sound = h.sound;
      first = h.first;
      input = refl;
      ends = ends-first m.body;
    } in
    let same : slice_index_or (all_methods t.classes) b.method idle ≡ m = get_or_from_slice_get (all_methods t.classes) b.method m idle ready.method_is in
    subst (λ (z : Ran). RunsAs t code z new) (sym (opened-is t.classes b cs ∙ ap (λ z. Opened b z gs) same)) here

-- nothing is printed yet
pub silent : (classes : List Class) (b : Behaviour) (cs : List Content) → (run_of classes b cs 0).state.output ≡ []
silent classes b cs = ap (λ (z : Ran). z.state.output) (opened-is classes b cs)

pub may-start : (t : Tree) (code : Code) (b : Behaviour) (gs given : List Given) (class method : ℕ) → Accepted t → Lowers t code → IsReady t b gs
    → class ≡ b.class → method ≡ b.method → given ≡ gs → (x : Tree) × (m : Method) × Starts x code class method m given
may-start t code b gs given class method accepted lowers ready k n g = (
  t,
  ready.method,
  subst (λ z. Starts t code class method ready.method z) (sym g) (subst (λ z. Starts t code class z ready.method gs) (sym n)
      (subst (λ z. Starts t code z b.method ready.method gs) (sym k) (starts t code b gs accepted lowers ready))),
)

pub begins-same : (code : Code) (b : Behaviour) (gs given : List Given) (class method : ℕ) (old new : Stepping) → class ≡ b.class → method ≡ b.method
    → given ≡ gs → Begins code class method given old new → Begins code b.class b.method gs old new
begins-same code b gs given class method old new k n g h =
    subst (λ z. Begins code b.class b.method z old new) g (subst (λ z. Begins code b.class z given old new) n
    (subst (λ z. Begins code z method given old new) k h))
