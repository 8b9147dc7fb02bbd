-- How a statement's walk ends against what its step gives, and the machine in the middle of a step.
use Rattle.std.proofs.Common.{◌≡◌, ℕ, ◌+◌, ◌-◌, List, [], ◌∷◌, ◌++◌, length, map, reverse, drop, Option, None, Some, true, true≢false, Result, Ok}
use Rattle.std.proofs.Common.{Err, refl, sym, ap, subst, ◌∙◌, arith, append_assoc, length-append, slice_get, slice_set, unwrap_or}
use Rattle.rg_base.specs.declared.value.Val.{Val}
use Rattle.rg_base.specs.declared.value.Val.TheVariants as val
use Rattle.rg_base.specs.declared.object.Seen.{Seen}
use Rattle.rg_base.specs.declared.words.Manager.{Manager}
use Rattle.rg_base.specs.declared.outcome.Trap.{Trap}
use Rattle.rg_tree.specs.Tree.{Variable, Expr, StmtKind, Class}
use Rattle.rg_rules.specs.Answers.{◌>>=◌}
use Rattle.rg_rules.specs.Items.{Item}
use Rattle.rg_rules.specs.State.{Local, Target, value_in, State, Frame as Body, Window as Opened}
use Rattle.rg_rules.specs.Values.{Computed}
use Rattle.rg_rules.specs.Evaluation.{value_of, uses, cleared}
use Rattle.rg_rules.specs.Steps.{Went, stepped, step_kind}
use Rattle.rg_code.specs.declared.op.Op.{Op}
use Rattle.rg_code.specs.declared.op.Op.TheVariants as i
use Rattle.rg_code.specs.Code.{Code}
use Rattle.rg_code.specs.Lowering.{Scope, slot_of, expr_code, used_slots, clears, whole_code}
use Rattle.rg_code.specs.Places.{is_mark, Stands, scope_of, Level, Lies}
use Rattle.rg_stack.specs.Machine.{Frame, Window}
use Rattle.rg_stack.specs.Effects.{Walked, Stops, Returns, Traps, Stuck, with_value}
use Rattle.rg_stack.specs.Tops.{Work}
use Rattle.rg_stack.specs.Runs.{come_to, landed, stopped}
use Rattle.rg_stack.specs.Needs.{needs, owned_once}
use Rattle.rg_stack.specs.Shows.{ShowsFrames, ShowsWindows, levels_of}
use Rattle.rg_stack.specs.Left.{NoneLeft, SomeLeft}
use Rattle.rg_stack.specs.Given.{given_finished as finished, given_step as step, given_step_from as step_from, given_walk as walk}
use Rattle.rg_stack.proofs.Mirrors.{MirrorsWork, SameMove, mirrors-work}
use Rattle.rg_stack.proofs.Walks.Walk.{Agrees, walk-expr}
use Rattle.rg_stack.proofs.Callers.Mark.{lies_at_mark, drop-stands, shown_slot, walk_to_items}
use Rattle.rg_stack.proofs.Callers.Frame.{work_of, state_of}
use Rattle.rg_stack.proofs.Callers.Need.{given, clear-given, once-cleared, AllOnStack, all-cleared}
use Rattle.rg_stack.proofs.Walks.Argument.{with_values, each_value}
use Rattle.rg_stack.proofs.Walks.Slot.{ShowsSlots, cleared_slots, cleared-length, shows_clears, scope_cleared, used-uses}

-- a walk stopped where the next step begins, in a machine that shows a state
abbrev pub Landed : List Class → Code → (before : List Val) → State → Walked → Type 0
Landed classes code before p (Stops at w) = MirrorsWork classes code before (stopped at w) p
Landed classes code before p (Returns back stack w) = ⊥
Landed classes code before p (Traps t) = ⊥
Landed classes code before p Stuck = ⊥

-- a walk ends as a step does
abbrev pub EndsAs : List Class → Code → (before : List Val) → Result State Trap → Walked → Type 0
EndsAs classes code before (Ok p) (Stops at w) = Landed classes code before p (Stops at w)
EndsAs classes code before (Ok p) (Returns back stack w) = Landed classes code before p (walk code (drop back code.ops) back 0 stack w)
EndsAs classes code before (Ok p) (Traps t) = ⊥
EndsAs classes code before (Ok p) Stuck = ⊥
EndsAs classes code before (Err t) (Stops at w) = ⊥
EndsAs classes code before (Err t) (Returns back stack w) = ⊥
EndsAs classes code before (Err t) (Traps u) = u ≡ t
EndsAs classes code before (Err t) Stuck = ⊥

-- a step that has come where items lie goes on or ends as they say
comes_by : (classes : List Class) (code : Code) (before : List Val) (at : ℕ) (w : Work) (p : State) (items : List Item) (ls : List Level) → p.items
    ≡ items → Lies classes code.ops ls items at
    → MirrorsWork classes code before w p → SameMove classes code before (Went p) (come_to (slice_get code.ops at) w)
comes_by classes code before at w p [] ls is lies h = subst (λ o. SameMove classes code before (Went p) (come_to o w)) (sym lies)
    (h, subst NoneLeft (sym is) tt)
comes_by classes code before at w p (j ∷ rest) ls is lies h = at_mark (slice_get code.ops at) (lies_at_mark classes code.ops ls j rest at lies)
  where
    at_mark : (o : Option Op) → is_mark o ≡ true → SameMove classes code before (Went p) (come_to o w)
    at_mark None e = absurd (true≢false (sym e))
    at_mark (Some (i.Mark line)) e = (h, subst SomeLeft (sym is) tt)
    at_mark (Some o) e = absurd (true≢false (sym e))

-- a walk that stopped where items lie
pub comes : (classes : List Class) (code : Code) (before : List Val) (at : ℕ) (w : Work) (p : State)
    → MirrorsWork classes code before (stopped at w) p
    → SameMove classes code before (Went p) (come_to (slice_get code.ops at) (stopped at w))
comes classes code before at w p h = comes_by classes code before at (stopped at w) p p.items (levels_of w.machine.frames p.frames) refl
    h.mirrors.places h

landed_same : (classes : List Class) (code : Code) (before : List Val) (p : State) (x : Walked) → Landed classes code before p x
    → SameMove classes code before (Went p) (landed code x)
landed_same classes code before p (Stops at w) h = comes classes code before at w p h
landed_same classes code before p (Returns back stack w) h = absurd h
landed_same classes code before p (Traps t) h = absurd h
landed_same classes code before p Stuck h = absurd h

pub ended : (classes : List Class) (code : Code) (before : List Val) (line : ℕ) (r : Result State Trap) (x : Walked)
    → EndsAs classes code before r x → SameMove classes code before (stepped line r) (finished code line x)
ended classes code before line (Ok p) (Stops at w) h = comes classes code before at w p h
ended classes code before line (Ok p) (Returns back stack w) h = landed_same classes code before p (walk code (drop back code.ops) back 0 stack w) h
ended classes code before line (Ok p) (Traps t) h = absurd h
ended classes code before line (Ok p) Stuck h = absurd h
ended classes code before line (Err t) (Stops at w) h = absurd h
ended classes code before line (Err t) (Returns back stack w) h = absurd h
ended classes code before line (Err t) (Traps u) h = (h, refl)
ended classes code before line (Err t) Stuck h = absurd h

-- one thing after another
pub value_ends : (classes : List Class) (code : Code) (before : List Val) (c : Computed) (k : Val → Result State Trap) (go : Val → Walked)
    → ((v : Val) → c ≡ Ok v → EndsAs classes code before (k v) (go v)) → EndsAs classes code before (◌>>=◌ c k) (with_value c go)
value_ends classes code before (Ok v) k go h = h v refl
value_ends classes code before (Err t) k go h = refl

pub object_ends : {A : Type 0} (classes : List Class) (code : Code) (before : List Val) (r : Result A Trap) (k : A → Result State Trap)
    (go : A → Walked) → ((o : A) → r ≡ Ok o → EndsAs classes code before (k o) (go o))
    → EndsAs classes code before (◌>>=◌ r k) (elim r [ Ok o ↦ go o | Err t ↦ Traps t ])
object_ends classes code before (Ok o) k go h = h o refl
object_ends classes code before (Err t) k go h = refl

pub values_ends : (classes : List Class) (code : Code) (before : List Val) (r : Result (List Val) Trap) (k : List Val → Result State Trap)
    (go : List Val → Walked) → ((vs : List Val) → r ≡ Ok vs → EndsAs classes code before (k vs) (go vs))
    → EndsAs classes code before (◌>>=◌ r k) (with_values r go)
values_ends classes code before (Ok vs) k go h = h vs refl
values_ends classes code before (Err t) k go h = refl

pub computed_ends : (classes : List Class) (code : Code) (before : List Val) (c : Computed) (s : State) (k : State × Val → Result State Trap)
    (go : Val → Walked) → ((v : Val) → c ≡ Ok v → EndsAs classes code before (k (s, v)) (go v))
    → EndsAs classes code before (◌>>=◌ (◌>>=◌ c (λ v. Ok (s, v))) k) (with_value c go)
computed_ends classes code before (Ok v) s k go h = h v refl
computed_ends classes code before (Err t) s k go h = refl

-- what no statement but a call or an `enter` changes beside the topmost frame's slots, the store, the managers and the input
pub record Round : Type 0 where
  pub back : ℕ
  pub frames : List Frame
  pub windows : List Window
  pub made : ℕ
  pub at : ℕ
  pub target : Target
  pub bodies : List Body
  pub opened : List Opened
  pub output : List Val

-- the stack machine in the middle of a step
abbrev pub work : Round → (store : List Seen) → (slots : List Val) → (managers : List Manager) → (input : List ℕ) → Work
work r store slots managers input = work_of store (record { slots = slots; back = r.back } ∷ r.frames) r.windows managers r.made r.at input

-- the plain state in the middle of a step
abbrev pub state : Round → (store : List Seen) → (locals : List Local) → (managers : List Manager) → (input : List ℕ) → List Item → State
state r store locals managers input items = state_of store (record { locals = locals; target = r.target } ∷ r.bodies) r.opened managers r.made input
    r.output items

-- the topmost frame as the code sees it
abbrev pub level : Round → Scope → (size : ℕ) → Level
level r scope n = record { scope = scope; slots = n; target = r.target; back = r.back }

-- what stays shows what stays
pub record RoundShows (r : Round) (size : ℕ) : Type 0 where
  pub frames : ShowsFrames r.frames r.bodies
  pub windows : ShowsWindows (reverse (size ∷ map (λ (f : Frame). length f.slots) r.frames)) r.windows r.opened

-- objects keep their classes, and have as many fields
abbrev pub Keeps : List Seen → List Seen → Type 0
Keeps old new = (a : ℕ) (o : Seen) → slice_get old a ≡ Some o
    → (q : Seen) × (slice_get new a ≡ Some q) × (q.class ≡ o.class) × (length q.fields ≡ length o.fields)

-- slots and variables in the middle of a step
pub record Middle (scope : Scope) (size : ℕ) (old new : List Seen) (slots : List Val) (locals : List Local) : Type 0 where
  pub shows : ShowsSlots slots locals
  pub size_is : length slots ≡ size
  pub scope_is : scope_of locals ≡ scope
  pub keeps : Keeps old new

pub keeps_same : (store : List Seen) → Keeps store store
keeps_same store a o e = (o, e, refl, refl)

-- a variable's slot holds its value
pub slots_hold : (scope : Scope) (slots : List Val) (locals : List Local) → ShowsSlots slots locals → scope_of locals ≡ scope → (x : Variable)
    → unwrap_or (slice_get slots (slot_of scope x)) val.Nil ≡ value_in locals x
slots_hold scope slots locals h e x =
    ap (λ s. unwrap_or (slice_get slots (slot_of s x)) val.Nil) (sym e)
    ∙ ap (λ l. unwrap_or (slice_get l (slot_of (scope_of locals) x)) val.Nil) h
    ∙ shown_slot locals (length slots - length locals) x

-- the step ends where items begin
pub finish : (classes : List Class) (code : Code) (r : Round) (store : List Seen) (slots : List Val) (locals : List Local) (managers : List Manager)
    (input : List ℕ) (items : List Item) (n end : ℕ)
    → ShowsSlots slots locals → length slots ≡ n → RoundShows r n
    → Lies classes code.ops (level r (scope_of locals) n ∷ levels_of r.frames r.bodies) items end
    → EndsAs classes code r.output (Ok (state r store locals managers input items)) (Stops end (work r store slots managers input))
finish classes code r store slots locals managers input items n end shows size round lies =
    mirrors-work classes code r.output (stopped end (work r store slots managers input)) (state r store locals managers input items)
    (shows, round.frames)
    (subst (λ k. ShowsWindows (reverse (k ∷ map (λ (f : Frame). length f.slots) r.frames)) r.windows r.opened) (sym size) round.windows)
    (subst (λ k. Lies classes code.ops (level r (scope_of locals) k ∷ levels_of r.frames r.bodies) items end) (sym size) lies)
    refl refl refl refl refl

-- the same at the end of the code of a statement
pub finish_at : (classes : List Class) (code : Code) (r : Round) (store : List Seen) (slots : List Val) (locals : List Local)
    (managers : List Manager) (input : List ℕ) (j : Item) (rest : List Item) (n end here : ℕ)
    → here ≡ end → ShowsSlots slots locals → length slots ≡ n → RoundShows r n
    → Lies classes code.ops (level r (scope_of locals) n ∷ levels_of r.frames r.bodies) (j ∷ rest) end
    → EndsAs classes code r.output (Ok (state r store locals managers input (j ∷ rest)))
    (walk code (drop end code.ops) here 0 [] (work r store slots managers input))
finish_at classes code r store slots locals managers input j rest n end here is shows size round lies =
    subst (λ x. EndsAs classes code r.output (Ok (state r store locals managers input (j ∷ rest))) x)
    (sym (ap (λ k. walk code (drop end code.ops) k 0 [] (work r store slots managers input)) is
    ∙ walk_to_items classes code (level r (scope_of locals) n ∷ levels_of r.frames r.bodies) j rest end (work r store slots managers input)
    lies))
    (finish classes code r store slots locals managers input (j ∷ rest) n end shows size round lies)

-- a statement's step from how its walk ends
pub statement_step : (classes : List Class) (code : Code) (r : Round) (store : List Seen) (slots : List Val) (locals : List Local)
    (managers : List Manager) (input : List ℕ) (line : ℕ) (k : StmtKind) (more : List Op) (rest : List Item)
    → Stands code.ops r.at (i.Mark line ∷ more)
    → EndsAs classes code r.output (step_kind classes (state r store locals managers input rest) line k)
    (walk code (more ++ drop (r.at + length (i.Mark line ∷ more)) code.ops) (r.at + 1) 0 [] (work r store slots managers input))
    → SameMove classes code r.output (stepped line (step_kind classes (state r store locals managers input rest) line k))
    (step code (work r store slots managers input))
statement_step classes code r store slots locals managers input line k more rest stands h =
    subst (λ t. SameMove classes code r.output (stepped line (step_kind classes (state r store locals managers input rest) line k)) t)
    (sym (ap (step_from code (work r store slots managers input)) (drop-stands code.ops r.at (i.Mark line ∷ more) stands)))
    (ended classes code r.output line (step_kind classes (state r store locals managers input rest) line k)
    (walk code (more ++ drop (r.at + length (i.Mark line ∷ more)) code.ops) (r.at + 1) 0 [] (work r store slots managers input)) h)

-- slots whose values are on the stack are cleared in order
pub walk-clears : (classes : List Class) (code : Code) (r : Round) (store : List Seen) (managers : List Manager) (input : List ℕ) (us : List ℕ)
    (slots : List Val) (rest : List Op) (here : ℕ) (stack : List Val)
    → owned_once (work r store slots managers input).machine ≡ true → AllOnStack us slots stack
    → walk code (clears us ++ rest) here 0 stack (work r store slots managers input)
    ≡ walk code rest (here + length (clears us)) 0 stack (work r store (cleared_slots us slots) managers input)
walk-clears classes code r store managers input [] slots rest here stack once h = let e : here
    ≡ here + 0 = omega arith in ap (λ n. walk code rest n 0 stack (work r store slots managers input)) e
walk-clears classes code r store managers input (u ∷ us) slots rest here stack once h =
    let e : here + 1 + length (clears us) ≡ here + length (clears (u ∷ us)) = omega arith in
    given (needs code (i.Clear u) stack (work r store slots managers input).machine) _
    (clear-given code (work r store slots managers input).machine u stack once h.0)
    ∙ walk-clears classes code r store managers input us (slice_set slots u val.Nil) rest (here + 1) stack
    (once-cleared (work r store slots managers input).machine (record { slots = slots; back = r.back }) r.frames u once)
    (all-cleared us u slots stack h.1)
    ∙ ap (λ n. walk code rest n 0 stack (work r store (cleared_slots (u ∷ us) slots) managers input)) e

-- what an expression uses up is on the stack once it is computed
abbrev pub UsesUp : List Class → List Seen → (slots : List Val) → List Local → Scope → Expr → (stack : List Val) → Type 0
UsesUp classes store slots locals scope e stack =
    (v : Val) → value_of classes store locals e ≡ Ok v → AllOnStack (used_slots scope e) slots (v ∷ stack)

-- a whole expression
pub walk-whole : (classes : List Class) (code : Code) (r : Round) (store : List Seen) (managers : List Manager) (input : List ℕ) (e : Expr)
    (scope : Scope) (slots : List Val) (locals : List Local) (rest : List Op) (here : ℕ) (stack : List Val)
    → ShowsSlots slots locals → scope_of locals ≡ scope → Agrees classes store r.windows locals scope e
    → owned_once (work r store slots managers input).machine ≡ true → UsesUp classes store slots locals scope e stack
    → walk code (whole_code classes scope here e ++ rest) here 0 stack (work r store slots managers input)
    ≡ with_value (value_of classes store locals e) (λ v. walk code rest (here + length (whole_code classes scope here e)) 0 (v ∷ stack)
    (work r store (cleared_slots (used_slots scope e) slots) managers input))
walk-whole classes code r store managers input e scope slots locals rest here stack shows is agrees once clear =
    let ops = expr_code classes scope here e in
    let us = used_slots scope e in
    let end : here + length ops + length (clears us) ≡ here + length (ops ++ clears us) = omega (arith, length-append ops (clears us)) in
    ap (λ l. walk code l here 0 stack (work r store slots managers input)) (append_assoc ops (clears us) rest)
    ∙ walk-expr classes code e locals scope here (clears us ++ rest) stack (work r store slots managers input)
    (slots_hold scope slots locals shows is) agrees
    ∙ each_value (value_of classes store locals e) _ _ (λ v got.
    walk-clears classes code r store managers input us slots rest (here + length ops) (v ∷ stack) once (clear v got)
    ∙ ap (λ n. walk code rest n 0 (v ∷ stack) (work r store (cleared_slots us slots) managers input)) end)

-- the middle of a step behind a whole expression
pub middle_whole : (scope : Scope) (n : ℕ) (old store : List Seen) (e : Expr) (slots : List Val) (locals : List Local)
    → Middle scope n old store slots locals
    → Middle scope n old store (cleared_slots (used_slots scope e) slots) (cleared (uses locals e) locals)
middle_whole scope n old store e slots locals m =
    let us : used_slots scope e ≡ map (slot_of scope) (uses locals e) = subst (λ s. used_slots s e ≡ map (slot_of s) (uses locals e)) m.scope_is
    (used-uses locals e) in
    record {
      shows = subst (λ l. ShowsSlots (cleared_slots l slots) (cleared (uses locals e) locals)) (sym us)
          (shows_clears (uses locals e) scope slots locals m.scope_is m.shows);
      size_is = cleared-length (used_slots scope e) slots ∙ m.size_is;
      scope_is = scope_cleared (uses locals e) locals ∙ m.scope_is;
      keeps = m.keeps;
    }
