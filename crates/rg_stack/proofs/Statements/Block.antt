-- `print`, `collect`, `if`, `while` and the end of a block, with the variables that a test or a value uses up.
use Rattle.std.proofs.Common.{◌≡◌, ℕ, zero, suc, ◌+◌, ◌-◌, true, false, true≢false, Bool as Truth, if◌then◌else◌, List, [], ◌∷◌, ◌++◌, length, take}
use Rattle.std.proofs.Common.{drop, replicate, Option, Some, None, Ok, refl, sym, ap, subst, ◌∙◌, arith, append_assoc, length-append, slice_get}
use Rattle.std.proofs.lemmas.List.{length-map, length-replicate, take-map}
use Rattle.std.proofs.lemmas.Bool.{not_from_false}
use Rattle.std.specs.Prelude.{not}
use Rattle.rg_base.specs.declared.value.Val.{Val}
use Rattle.rg_base.specs.declared.value.Val.TheVariants as val
use Rattle.rg_base.specs.declared.object.Seen.{Seen}
use Rattle.rg_base.specs.declared.words.Manager.{Manager}
use Rattle.rg_tree.specs.Tree.{Expr, stmt, branch, while, print, collect, no_else, otherwise, Block, Class}
use Rattle.rg_rules.specs.Answers.{◌>>=◌}
use Rattle.rg_rules.specs.Items.{Item, Do, EndAt, items_of}
use Rattle.rg_rules.specs.State.{Local, State}
use Rattle.rg_rules.specs.Values.{as_bool}
use Rattle.rg_rules.specs.Evaluation.{value_of, uses, cleared, computed}
use Rattle.rg_rules.specs.Steps.{Went, next, begin_block}
use Rattle.rg_code.specs.declared.op.Op.{Op}
use Rattle.rg_code.specs.declared.op.Op.TheVariants as i
use Rattle.rg_code.specs.Code.{Code}
use Rattle.rg_code.specs.Lowering.{scope_at_end, Scope, used_slots, whole_code, block_code}
use Rattle.rg_code.specs.Places.{StandsIn, is_mark, behind_end, scope_of, Level, Lies}
use Rattle.rg_stack.specs.Given.{given_step as step, given_step_from as step_from, given_walk as walk}
use Rattle.rg_stack.proofs.Basics.{is_halt}
use Rattle.rg_stack.specs.Machine.{ended_slots}
use Rattle.rg_stack.specs.Effects.{Walked, Stops, Stuck}
use Rattle.rg_stack.specs.Tops.{Work}
use Rattle.rg_stack.specs.Needs.{is_closed, owned_once}
use Rattle.rg_stack.proofs.Mirrors.{Mirrors}
use Rattle.rg_stack.specs.Shows.{levels_of}
use Rattle.rg_stack.proofs.Mirrors.{SameMove, mirrors-work}
use Rattle.rg_stack.proofs.Walks.Walk.{Agrees, IsTruth, walk-skip}
use Rattle.rg_stack.proofs.Callers.Mark.{drop-stands, first-drop, mark-there, lies_at_mark, walk_at_mark, walk_to_items}
use Rattle.rg_stack.proofs.Walks.Place.{front_in, back_in, get-stands, stands-front, stands-back, block_starts, AllGoOn, lies_block}
use Rattle.rg_stack.proofs.Walks.Place.{take-at_end}
use Rattle.rg_stack.proofs.Walks.Slot.{ShowsSlots, values_in, shows_at, cleared_slots}
use Rattle.rg_stack.proofs.Walks.End.{EndsAs, ended, computed_ends, Round, work, state, level, finish, finish_at, statement_step, walk-whole}
use Rattle.rg_stack.proofs.Walks.End.{middle_whole, UsesUp}
use Rattle.rg_stack.proofs.Callers.Base.{if_ends}
use Rattle.rg_stack.proofs.Statements.Assign.{round_of, middle_of}

-- two ways on both sides
pub ways_end : (classes : List Class) (code : Code) (before : List Val) (t : Truth) (a b : State) (x y : Walked)
    → EndsAs classes code before (Ok a) x → EndsAs classes code before (Ok b) y
    → EndsAs classes code before (Ok (if t then a else b)) (if t then x else y)
ways_end classes code before true a b x y h k = h
ways_end classes code before false a b x y h k = k

-- behind a mark the code goes on
behind_mark : (o : Option Op) (at : ℕ) → is_mark o ≡ true → behind_end o at ≡ at
behind_mark None at e = refl
behind_mark (Some (i.Mark line)) at e = refl
behind_mark (Some o) at e = absurd (true≢false (sym e))

-- where a block's end stands, and what is done behind it lies where the end leads
pub block_end : (classes : List Class) (code : List Op) (l : Level) (ls : List Level) (b : Block) (here line : ℕ) (more : List Op) (after : List Item)
    → StandsIn code l here (i.Mark line ∷ i.End (length l.scope) ∷ more)
    → Lies classes code (l ∷ ls) after (behind_end (slice_get code (here + 2)) (here + 2))
    → Lies classes code (record l { scope = scope_at_end classes l.scope b } ∷ ls) (EndAt (length l.scope) ∷ after) here
block_end classes code l ls b here line more after h lies = (
  ap is_mark (get-stands code here (i.Mark line) _ h.0),
  stands-front code (here + 1) (i.End (length l.scope) ∷ []) more (stands-back code here (i.Mark line ∷ []) (i.End (length l.scope) ∷ more) h.0),
  subst (λ s. Lies classes code (record l { scope = s } ∷ ls) after (behind_end (slice_get code (here + 2)) (here + 2)))
      (sym (take-at_end classes b l.scope)) lies,
)

-- slots behind the end of a block

nils_ended : (k m : ℕ) → take k (replicate m val.Nil) ++ replicate (m - k) val.Nil ≡ replicate m val.Nil
nils_ended zero m = let e : m - 0 ≡ m = omega arith in ap (λ n. replicate n val.Nil) e
nils_ended (suc k) zero = let e : 0 - suc k ≡ 0 = omega arith in ap (λ n. replicate n val.Nil) e
nils_ended (suc k) (suc m) = let e : suc m - suc k
    ≡ m - k = omega arith in ap (λ n. take (suc k) (replicate (suc m) val.Nil) ++ replicate n val.Nil) e ∙ ap (λ l. val.Nil ∷ l) (nils_ended k m)

ended_by : (k : ℕ) (locals : List Local) (m : ℕ) → (p : ℕ)
    × (ended_slots k (values_in locals ++ replicate m val.Nil) ≡ values_in (take k locals) ++ replicate p val.Nil)
ended_by zero locals m = (length (values_in locals ++ replicate m val.Nil) - 0, refl)
ended_by (suc k) [] m = (
  m,
  ap (λ n. take (suc k) (replicate m val.Nil) ++ replicate (n - suc k) val.Nil) (length-replicate m val.Nil)
      ∙ nils_ended (suc k) m,
)
ended_by (suc k) (l ∷ ls) m =
    let h = ended_by k ls m in
    let all = values_in ls ++ replicate m val.Nil in
    let e : length (l.value ∷ all) - suc k ≡ length all - k = omega arith in
    (h.0, ap (λ n. l.value ∷ (take k all ++ replicate n val.Nil)) e ∙ ap (λ s. l.value ∷ s) h.1)

pub shows_ended : (k : ℕ) (slots : List Val) (locals : List Local) → ShowsSlots slots locals → ShowsSlots (ended_slots k slots) (take k locals)
shows_ended k slots locals h = let e = ended_by k locals (length slots - length locals) in shows_at (ended_slots k slots) (take k locals) e.0
    (ap (ended_slots k) h ∙ e.1)

pub ended-length : (k : ℕ) (slots : List Val) → length (ended_slots k slots) ≡ length slots
ended-length zero slots = let e : length slots - 0 ≡ length slots = omega arith in length-replicate (length slots - 0) val.Nil ∙ e
ended-length (suc k) [] = let e : 0 - suc k ≡ 0 = omega arith in ap (λ n. length (replicate n val.Nil)) e
ended-length (suc k) (s ∷ ss) =
    let e : length (s ∷ ss) - suc k ≡ length ss - k = omega arith in
    ap (λ n. suc (length (take k ss ++ replicate n val.Nil))) e ∙ ap suc (ended-length k ss)

module _ (classes : List Class) (code : Code) (r : Round) (store : List Seen) (slots : List Val) (locals : List Local) (managers : List Manager)
    (input : List ℕ) (line : ℕ) where
  abbrev scope : Scope
  scope = scope_of locals

  abbrev levels : List Level
  levels = levels_of r.frames r.bodies

  abbrev top : Level
  top = level r (scope_of locals) (length slots)

  abbrev Showing : List Item → Type 0
  Showing items = Mirrors classes code (work r store slots managers input).machine (state r store locals managers input items)

  abbrev Simulated : List Item → Type 0
  Simulated items = SameMove classes code r.output (next classes (state r store locals managers input items))
      (step code (work r store slots managers input))

  -- the walk behind the end of a block comes to where its items lie
  last_end : (ops : List Op) (n : ℕ) (w : Work) (after : State) (j : Item) (rest : List Item) (ls : List Level) → slice_get code.ops n
      ≡ slice_get ops 0
      → Lies classes code.ops ls (j ∷ rest) (behind_end (slice_get ops 0) n)
      → ((end : ℕ) → Lies classes code.ops ls (j ∷ rest) end → EndsAs classes code r.output (Ok after) (Stops end w))
      → EndsAs classes code r.output (Ok after) (walk code ops n 0 [] w)
  last_end [] n w after j rest ls is lies go = absurd (true≢false (sym (ap is_mark (sym is) ∙ lies_at_mark classes code.ops ls j rest n lies)))
  last_end (i.Jump t ∷ ops) n w after j rest ls is lies go = go t lies
  last_end (i.Mark l ∷ ops) n w after j rest ls is lies go = go n lies
  last_end (o ∷ ops) n w after j rest ls is lies go = absurd (true≢false (sym (ap is_mark (sym is) ∙ lies_at_mark classes code.ops ls j rest n lies)))

  last_halt : (ops : List Op) (n : ℕ) (w : Work) (after : State) (ls : List Level) → slice_get code.ops n ≡ slice_get ops 0
      → Lies classes code.ops ls [] (behind_end (slice_get ops 0) n)
      → ((end : ℕ) → Lies classes code.ops ls [] end → EndsAs classes code r.output (Ok after) (Stops end w))
      → EndsAs classes code r.output (Ok after) (walk code ops n 0 [] w)
  last_halt [] n w after ls is lies go = absurd (true≢false (sym (ap is_halt (sym is ∙ lies))))
  last_halt (i.Jump t ∷ ops) n w after ls is lies go = go t lies
  last_halt (i.Halt ∷ ops) n w after ls is lies go = go n lies
  last_halt (o ∷ ops) n w after ls is lies go = absurd (true≢false (sym (ap is_halt (sym is ∙ lies))))

  -- the same for each list of items
  pub last_walk : (n : ℕ) (w : Work) (after : State) (items : List Item) (ls : List Level)
      → Lies classes code.ops ls items (behind_end (slice_get code.ops n) n)
      → ((end : ℕ) → Lies classes code.ops ls items end → EndsAs classes code r.output (Ok after) (Stops end w))
      → EndsAs classes code r.output (Ok after) (walk code (drop n code.ops) n 0 [] w)
  last_walk n w after [] ls lies go =
      last_halt (drop n code.ops) n w after ls (sym (first-drop code.ops n))
      (subst (λ o. Lies classes code.ops ls [] (behind_end o n)) (sym (first-drop code.ops n)) lies) go
  last_walk n w after (j ∷ rest) ls lies go =
      last_end (drop n code.ops) n w after j rest ls (sym (first-drop code.ops n))
      (subst (λ o. Lies classes code.ops ls (j ∷ rest) (behind_end o n)) (sym (first-drop code.ops n)) lies) go

  -- the end of a block, wherever it leads
  pub end-mirrors : (k : ℕ) (rest : List Item) → Showing (EndAt k ∷ rest) → owned_once (work r store slots managers input).machine ≡ true
      → Simulated (EndAt k ∷ rest)
  end-mirrors k rest h ends =
      let after = state r store (take k locals) managers input rest in
      let w = work r store (ended_slots k slots) managers input in
      let marked = mark-there code.ops r.at h.places.0 in
      let front : drop r.at code.ops ≡ i.Mark marked.0 ∷ (i.End k ∷ drop (r.at + 2) code.ops) = marked.1
      ∙ ap (λ l. i.Mark marked.0 ∷ l) (drop-stands code.ops (r.at + 1) (i.End k ∷ []) h.places.1
      ∙ ap (λ n. i.End k ∷ drop n code.ops) (omega arith)) in
      let names : take k scope ≡ scope_of (take k locals) = take-map (λ (l : Local). record { name = l.name; ty = l.ty }) k locals in
      let at_two : r.at + 1 + 1 ≡ r.at + 2 = omega arith in
      subst (λ t. SameMove classes code r.output (Went after) t) (sym (ap (step_from code (work r store slots managers input)) front))
      (ended classes code r.output marked.0 (Ok after) _
      (if_ends classes code r.output (Ok after) (owned_once (work r store slots managers input).machine)
      (walk code (drop (r.at + 2) code.ops) (r.at + 1 + 1) 0 [] w) Stuck ends
      (subst (λ n. EndsAs classes code r.output (Ok after) (walk code (drop (r.at + 2) code.ops) n 0 [] w)) (sym at_two)
      (last_walk (r.at + 2) w after rest (level r (take k scope) (length slots) ∷ levels) h.places.2
      (λ end lies. finish classes code r store (ended_slots k slots) (take k locals) managers input rest (length slots) end
      (shows_ended k slots locals h.slots.0) (ended-length k slots)
      (round_of classes code r store slots locals managers input (EndAt k ∷ rest) h)
      (subst (λ s. Lies classes code.ops (level r s (length slots) ∷ levels) rest end) names lies))))))

  -- `collect;` changes nothing
  pub collect-mirrors : (j : Item) (rest : List Item) → Showing (Do (stmt line collect) ∷ j ∷ rest) → Simulated (Do (stmt line collect) ∷ j ∷ rest)
  collect-mirrors j rest h =
      let end = r.at + 2 in
      let there : r.at + 1 + 1 ≡ end = omega arith in
      statement_step classes code r store slots locals managers input line collect (i.Collect ∷ []) (j ∷ rest) h.places.0.0
      (finish_at classes code r store slots locals managers input j rest (length slots) end (r.at + 1 + 1) there h.slots.0 refl
      (round_of classes code r store slots locals managers input (Do (stmt line collect) ∷ j ∷ rest) h) h.places.1)

  -- slots and variables behind a whole expression
  abbrev slots_after : Expr → List Val
  slots_after e = cleared_slots (used_slots (scope_of locals) e) slots

  abbrev locals_after : Expr → List Local
  locals_after e = cleared (uses locals e) locals

  -- a test in front of what stands behind it
  test_ends : (e : Expr) (jump : ℕ) (inner : List Op) (items : List Item) (into over : State → State) → ShowsSlots slots locals
      → Agrees classes store r.windows locals (scope_of locals) e → owned_once (work r store slots managers input).machine ≡ true
      → UsesUp classes store slots locals (scope_of locals) e [] → IsTruth (value_of classes store locals e) →
      let inside = r.at + 1 + length (whole_code classes (scope_of locals) (r.at + 1) e) + 1 in
      let s = state r store (locals_after e) managers input items in
      let w = work r store (slots_after e) managers input in
      EndsAs classes code r.output (Ok (into s)) (walk code inner inside 0 [] w)
      → EndsAs classes code r.output (Ok (over s)) (walk code inner inside (jump - inside) [] w)
      → EndsAs classes code r.output (◌>>=◌ (computed classes (state r store locals managers input items) e)
      (λ done. Ok (if as_bool done.1 then into done.0 else over done.0)))
      (walk code (whole_code classes (scope_of locals) (r.at + 1) e ++ (i.JumpFalse jump ∷ inner)) (r.at + 1) 0 []
      (work r store slots managers input))
  test_ends e jump inner items into over shows agrees once used truth one two =
      let s = state r store (locals_after e) managers input items in
      subst (λ x. EndsAs classes code r.output (◌>>=◌ (computed classes (state r store locals managers input items) e)
      (λ done. Ok (if as_bool done.1 then into done.0 else over done.0))) x)
      (sym (walk-whole classes code r store managers input e (scope_of locals) slots locals (i.JumpFalse jump ∷ inner) (r.at + 1) [] shows refl
      agrees once used))
      (computed_ends classes code r.output (value_of classes store locals e) s _ _
      (λ v is. if_ends classes code r.output (Ok (if as_bool v then into s else over s))
      (not (is_closed (work r store (slots_after e) managers input).machine v)) (if as_bool v then
      walk code inner (r.at + 1 + length (whole_code classes (scope_of locals) (r.at + 1) e) + 1) 0 [] (work r store (slots_after e) managers input)
      else walk code inner (r.at + 1 + length (whole_code classes (scope_of locals) (r.at + 1) e) + 1)
      (jump - (r.at + 1 + length (whole_code classes (scope_of locals) (r.at + 1) e) + 1)) [] (work r store (slots_after e) managers input)) Stuck
      (not_from_false _ (ap (is_closed (work r store (slots_after e) managers input).machine) (truth v is)))
      (ways_end classes code r.output (as_bool v) (into s) (over s) _ _ one two)))

  -- a step into a block: it begins where its items lie
  pub into_block : (e : Expr) (b : Block) (after : List Item) (n inside : ℕ) → Showing after → n ≡ length (scope_of locals)
      → (rest : List Item) → Lies classes code.ops (top ∷ levels) (items_of b (EndAt n ∷ rest)) inside
      → EndsAs classes code r.output (Ok (begin_block (state r store (locals_after e) managers input rest) b))
      (Stops inside (work r store (slots_after e) managers input))
  into_block e b after n inside h is rest lies =
      let m = middle_whole (scope_of locals) (length slots) store store e slots locals
      (middle_of classes code r store slots locals managers input after h) in
      let many : length (locals_after e) ≡ n = sym (length-map (locals_after e) (λ (l : Local). record { name = l.name; ty = l.ty }))
      ∙ ap length m.scope_is ∙ sym is in
      finish classes code r store (slots_after e) (locals_after e) managers input (items_of b (EndAt (length (locals_after e)) ∷ rest))
      (length slots) inside m.shows m.size_is (round_of classes code r store slots locals managers input after h)
      (subst (λ s. Lies classes code.ops (level r s (length slots) ∷ levels) (items_of b (EndAt (length (locals_after e)) ∷ rest)) inside)
      (sym m.scope_is)
      (subst (λ k. Lies classes code.ops (top ∷ levels) (items_of b (EndAt k ∷ rest)) inside) (sym many) lies))

  -- a step over a block, to what is done behind the statement
  pub over_block : (e : Expr) (after : List Item) (j : Item) (rest : List Item) (here end : ℕ) → Showing after → here ≡ end
      → Lies classes code.ops (top ∷ levels) (j ∷ rest) end
      → EndsAs classes code r.output (Ok (state r store (locals_after e) managers input (j ∷ rest)))
      (walk code (drop end code.ops) here 0 [] (work r store (slots_after e) managers input))
  over_block e after j rest here end h is lies =
      let m = middle_whole (scope_of locals) (length slots) store store e slots locals
      (middle_of classes code r store slots locals managers input after h) in
      finish_at classes code r store (slots_after e) (locals_after e) managers input j rest (length slots) end here is m.shows m.size_is
      (round_of classes code r store slots locals managers input after h)
      (subst (λ s. Lies classes code.ops (level r s (length slots) ∷ levels) (j ∷ rest) end) (sym m.scope_is) lies)

  -- where the parts of a test's code and of a block behind it stand
  record Blocked (test block closing : List Op) (jump : ℕ) : Type 0 where
    to_end : jump ≡ r.at + length (i.Mark line ∷ (test ++ (i.JumpFalse jump ∷ (block ++ closing))))
    skip : jump - (r.at + 1 + length test + 1) ≡ length (block ++ closing)
    behind : r.at + 1 + length test + 1 + length (block ++ closing)
        ≡ r.at + length (i.Mark line ∷ (test ++ (i.JumpFalse jump ∷ (block ++ closing))))
    in_block : StandsIn code.ops top (r.at + 1 + length test + 1) (block ++ closing)
    closed : StandsIn code.ops top (r.at + 1 + length test + 1 + length block) closing

  blocked : (test block closing : List Op) (jump : ℕ) → jump ≡ r.at + 1 + length test + 1 + length block + length closing
      → StandsIn code.ops top r.at (i.Mark line ∷ (test ++ (i.JumpFalse jump ∷ (block ++ closing)))) → Blocked test block closing jump
  blocked test block closing jump is stands =
      let inside = r.at + 1 + length test + 1 in
      let inner = block ++ closing in
      let end = r.at + length (i.Mark line ∷ (test ++ (i.JumpFalse jump ∷ inner))) in
      let front = i.Mark line ∷ (test ++ i.JumpFalse jump ∷ []) in
      let to_inside : r.at + length front ≡ inside = omega (arith, length-append test (i.JumpFalse jump ∷ [])) in
      let to_end : jump ≡ end = omega (arith, is, length-append test (i.JumpFalse jump ∷ inner), length-append block closing) in
      let skip : jump - inside ≡ length inner = omega (arith, is, length-append block closing) in
      let behind : inside + length inner ≡ end = omega (arith, is, length-append block closing, to_end) in
      let flat : i.Mark line ∷ (test ++ (i.JumpFalse jump ∷ inner)) ≡ front ++ inner =
      ap (λ l. i.Mark line ∷ l) (sym (append_assoc test (i.JumpFalse jump ∷ []) inner)) in
      let in_block = subst (λ n. StandsIn code.ops top n inner) to_inside
      (back_in code.ops top r.at front inner (subst (StandsIn code.ops top r.at) flat stands)) in
      record {
        to_end = to_end;
        skip = skip;
        behind = behind;
        in_block = in_block;
        closed = back_in code.ops top inside block closing in_block;
      }

  -- `if e { .. }`
  pub branch-mirrors : (e : Expr) (b : Block) (j : Item) (rest : List Item) → Showing (Do (stmt line (branch e b no_else)) ∷ j ∷ rest)
      → Agrees classes store r.windows locals (scope_of locals) e → owned_once (work r store slots managers input).machine ≡ true
      → UsesUp classes store slots locals (scope_of locals) e [] → IsTruth (value_of classes store locals e)
      → AllGoOn b
      → Simulated (Do (stmt line (branch e b no_else)) ∷ j ∷ rest)
  branch-mirrors e b j rest h agrees once used truth goes =
      let item = Do (stmt line (branch e b no_else)) in
      let test = whole_code classes scope (r.at + 1) e in
      let inside = r.at + 1 + length test + 1 in
      let block = block_code classes scope inside b in
      let jump = inside + length block + 2 in
      let closing = i.Mark line ∷ i.End (length scope) ∷ [] in
      let inner = block ++ closing in
      let more = test ++ (i.JumpFalse jump ∷ inner) in
      let end = r.at + length (i.Mark line ∷ more) in
      let tail = drop end code.ops in
      let stand = blocked test block closing jump refl h.places.0 in
      let two_on : inside + length block + 2 ≡ end = stand.to_end in
      let leads : behind_end (slice_get code.ops (inside + length block + 2)) (inside + length block + 2) ≡ end =
      ap (λ n. behind_end (slice_get code.ops n) n) two_on
      ∙ behind_mark (slice_get code.ops end) end (lies_at_mark classes code.ops (top ∷ levels) j rest end h.places.1) in
      let body = lies_block classes code.ops b top levels inside (EndAt (length scope) ∷ j ∷ rest)
      (front_in code.ops top inside block closing stand.in_block) goes
      (block_end classes code.ops top levels b (inside + length block) line [] (j ∷ rest) stand.closed
      (subst (Lies classes code.ops (top ∷ levels) (j ∷ rest)) (sym leads) h.places.1)) in
      let w = work r store (slots_after e) managers input in
      let begins : is_mark (slice_get (inner ++ tail) 0) ≡ true = ap (λ l. is_mark (slice_get l 0)) (append_assoc block closing tail)
      ∙ block_starts classes scope inside line b (i.End (length scope) ∷ tail) in
      statement_step classes code r store slots locals managers input line (branch e b no_else) more (j ∷ rest) h.places.0.0
      (subst (λ l. EndsAs classes code r.output (◌>>=◌ (computed classes (state r store locals managers input (j ∷ rest)) e)
      (λ done. Ok (if as_bool done.1 then begin_block done.0 b else done.0))) (walk code l (r.at + 1) 0 [] (work r store slots managers input)))
      (sym (append_assoc test (i.JumpFalse jump ∷ inner) tail))
      (test_ends e jump (inner ++ tail) (j ∷ rest) (λ s. begin_block s b) (λ s. s) h.slots.0 agrees once used truth
      (subst (λ x. EndsAs classes code r.output (Ok (begin_block (state r store (locals_after e) managers input (j ∷ rest)) b)) x)
      (sym (walk_at_mark classes code (inner ++ tail) inside w begins))
      (into_block e b (item ∷ j ∷ rest) (length scope) inside h refl (j ∷ rest) body))
      (subst (λ x. EndsAs classes code r.output (Ok (state r store (locals_after e) managers input (j ∷ rest))) x)
      (sym (ap (λ k. walk code (inner ++ tail) inside k [] w) stand.skip ∙ walk-skip classes code inner tail inside [] w))
      (over_block e (item ∷ j ∷ rest) j rest (inside + length inner) end h stand.behind h.places.1))))

  -- `if e { .. } else { .. }`
  pub branch-else-mirrors : (e : Expr) (b c : Block) (j : Item) (rest : List Item) → Showing (Do (stmt line (branch e b (otherwise c))) ∷ j ∷ rest)
      → Agrees classes store r.windows locals (scope_of locals) e → owned_once (work r store slots managers input).machine ≡ true
      → UsesUp classes store slots locals (scope_of locals) e [] → IsTruth (value_of classes store locals e)
      → AllGoOn b → AllGoOn c
      → Simulated (Do (stmt line (branch e b (otherwise c))) ∷ j ∷ rest)
  branch-else-mirrors e b c j rest h agrees once used truth goes also =
      let item = Do (stmt line (branch e b (otherwise c))) in
      let test = whole_code classes scope (r.at + 1) e in
      let inside = r.at + 1 + length test + 1 in
      let block = block_code classes scope inside b in
      let jump = inside + length block + 3 in
      let other_at = inside + length block + 2 + 1 in
      let other = block_code classes scope other_at c in
      let target = inside + length block + 2 + 1 + length other + 2 in
      let closing = i.Mark line ∷ i.End (length scope) ∷ [] in
      let second = other ++ closing in
      let ending = i.Mark line ∷ i.End (length scope) ∷ i.Jump target ∷ second in
      let inner = block ++ ending in
      let more = test ++ (i.JumpFalse jump ∷ inner) in
      let end = r.at + length (i.Mark line ∷ more) in
      let tail = drop end code.ops in
      let front = i.Mark line ∷ (test ++ i.JumpFalse jump ∷ []) in
      let to_inside : r.at + length front ≡ inside = omega (arith, length-append test (i.JumpFalse jump ∷ [])) in
      let to_end : target ≡ end = omega (
        arith,
        length-append test (i.JumpFalse jump ∷ inner),
        length-append block ending,
        length-append other
            closing,
      ) in
      let flat : i.Mark line ∷ more ≡ front ++ inner = ap (λ l. i.Mark line ∷ l) (sym (append_assoc test (i.JumpFalse jump ∷ []) inner)) in
      let in_block = subst (λ n. StandsIn code.ops top n inner) to_inside
      (back_in code.ops top r.at front inner (subst (StandsIn code.ops top r.at) flat h.places.0)) in
      let closed = back_in code.ops top inside block ending in_block in
      let first_part = block ++ i.Mark line ∷ i.End (length scope) ∷ i.Jump target ∷ [] in
      let split : inner ≡ first_part ++ second = sym (append_assoc block (i.Mark line ∷ i.End (length scope) ∷ i.Jump target ∷ []) second) in
      let to_other : inside + length first_part ≡ other_at = omega
      (arith, length-append block (i.Mark line ∷ i.End (length scope) ∷ i.Jump target ∷ [])) in
      let in_other = subst (λ n. StandsIn code.ops top n second) to_other
      (back_in code.ops top inside first_part second (subst (StandsIn code.ops top inside) split in_block)) in
      let other_closed = back_in code.ops top other_at other closing in_other in
      let jumps = get-stands code.ops (inside + length block + 2) (i.Jump target) second
      (stands-back code.ops (inside + length block) (i.Mark line ∷ i.End (length scope) ∷ []) (i.Jump target ∷ second) closed.0) in
      let first_leads : behind_end (slice_get code.ops (inside + length block + 2)) (inside + length block + 2)
      ≡ end = ap (λ o. behind_end o (inside + length block + 2)) jumps ∙ to_end in
      let body = lies_block classes code.ops b top levels inside (EndAt (length scope) ∷ j ∷ rest)
      (front_in code.ops top inside block ending in_block) goes
      (block_end classes code.ops top levels b (inside + length block) line (i.Jump target ∷ second) (j ∷ rest) closed
      (subst (Lies classes code.ops (top ∷ levels) (j ∷ rest)) (sym first_leads) h.places.1)) in
      let other_leads : behind_end (slice_get code.ops (other_at + length other + 2)) (other_at + length other + 2) ≡ end =
      ap (λ n. behind_end (slice_get code.ops n) n) to_end
      ∙ behind_mark (slice_get code.ops end) end (lies_at_mark classes code.ops (top ∷ levels) j rest end h.places.1) in
      let other_body = lies_block classes code.ops c top levels other_at (EndAt (length scope) ∷ j ∷ rest)
      (front_in code.ops top other_at other closing in_other) also
      (block_end classes code.ops top levels c (other_at + length other) line [] (j ∷ rest) other_closed
      (subst (Lies classes code.ops (top ∷ levels) (j ∷ rest)) (sym other_leads) h.places.1)) in
      let w = work r store (slots_after e) managers input in
      let begins : is_mark (slice_get (inner ++ tail) 0) ≡ true = ap (λ l. is_mark (slice_get l 0)) (append_assoc block ending tail)
      ∙ block_starts classes scope inside line b (i.End (length scope) ∷ i.Jump target ∷ (second ++ tail)) in
      let other_begins : is_mark (slice_get (second ++ tail) 0) ≡ true = ap (λ l. is_mark (slice_get l 0)) (append_assoc other closing tail)
      ∙ block_starts classes scope other_at line c (i.End (length scope) ∷ tail) in
      let apart : inner ++ tail ≡ first_part ++ (second ++ tail) = ap (λ l. l ++ tail) split ∙ append_assoc first_part second tail in
      let skip : jump - inside ≡ length first_part = omega (arith, length-append block (i.Mark line ∷ i.End (length scope) ∷ i.Jump target ∷ [])) in
      statement_step classes code r store slots locals managers input line (branch e b (otherwise c)) more (j ∷ rest) h.places.0.0
      (subst (λ l. EndsAs classes code r.output (◌>>=◌ (computed classes (state r store locals managers input (j ∷ rest)) e)
      (λ done. Ok (if as_bool done.1 then begin_block done.0 b else begin_block done.0 c)))
      (walk code l (r.at + 1) 0 [] (work r store slots managers input)))
      (sym (append_assoc test (i.JumpFalse jump ∷ inner) tail))
      (test_ends e jump (inner ++ tail) (j ∷ rest) (λ s. begin_block s b) (λ s. begin_block s c) h.slots.0 agrees once used truth
      (subst (λ x. EndsAs classes code r.output (Ok (begin_block (state r store (locals_after e) managers input (j ∷ rest)) b)) x)
      (sym (walk_at_mark classes code (inner ++ tail) inside w begins))
      (into_block e b (item ∷ j ∷ rest) (length scope) inside h refl (j ∷ rest) body))
      (subst (λ x. EndsAs classes code r.output (Ok (begin_block (state r store (locals_after e) managers input (j ∷ rest)) c)) x)
      (sym (ap (λ k. walk code (inner ++ tail) inside k [] w) skip ∙ ap (λ l. walk code l inside (length first_part) [] w) apart
      ∙ walk-skip classes code first_part (second ++ tail) inside [] w ∙ ap (λ n. walk code (second ++ tail) n 0 [] w) to_other
      ∙ walk_at_mark classes code (second ++ tail) other_at w other_begins))
      (into_block e c (item ∷ j ∷ rest) (length scope) other_at h refl (j ∷ rest) other_body))))

  -- `while e { .. }`
  pub while-mirrors : (e : Expr) (b : Block) (j : Item) (rest : List Item) → Showing (Do (stmt line (while e b)) ∷ j ∷ rest)
      → Agrees classes store r.windows locals (scope_of locals) e → owned_once (work r store slots managers input).machine ≡ true
      → UsesUp classes store slots locals (scope_of locals) e [] → IsTruth (value_of classes store locals e)
      → AllGoOn b
      → Simulated (Do (stmt line (while e b)) ∷ j ∷ rest)
  while-mirrors e b j rest h agrees once used truth goes =
      let item = Do (stmt line (while e b)) in
      let test = whole_code classes scope (r.at + 1) e in
      let inside = r.at + 1 + length test + 1 in
      let block = block_code classes scope inside b in
      let jump = inside + length block + 3 in
      let closing = i.Mark line ∷ i.End (length scope) ∷ i.Jump r.at ∷ [] in
      let inner = block ++ closing in
      let more = test ++ (i.JumpFalse jump ∷ inner) in
      let end = r.at + length (i.Mark line ∷ more) in
      let tail = drop end code.ops in
      let stand = blocked test block closing jump refl h.places.0 in
      let jumps = get-stands code.ops (inside + length block + 2) (i.Jump r.at) []
      (stands-back code.ops (inside + length block) (i.Mark line ∷ i.End (length scope) ∷ []) (i.Jump r.at ∷ []) stand.closed.0) in
      let leads : behind_end (slice_get code.ops (inside + length block + 2)) (inside + length block + 2)
      ≡ r.at = ap (λ o. behind_end o (inside + length block + 2)) jumps in
      let body = lies_block classes code.ops b top levels inside (EndAt (length scope) ∷ item ∷ j ∷ rest)
      (front_in code.ops top inside block closing stand.in_block) goes
      (block_end classes code.ops top levels b (inside + length block) line (i.Jump r.at ∷ []) (item ∷ j ∷ rest) stand.closed
      (subst (Lies classes code.ops (top ∷ levels) (item ∷ j ∷ rest)) (sym leads) h.places)) in
      let w = work r store (slots_after e) managers input in
      let begins : is_mark (slice_get (inner ++ tail) 0) ≡ true = ap (λ l. is_mark (slice_get l 0)) (append_assoc block closing tail)
      ∙ block_starts classes scope inside line b (i.End (length scope) ∷ i.Jump r.at ∷ tail) in
      statement_step classes code r store slots locals managers input line (while e b) more (j ∷ rest) h.places.0.0
      (subst (λ l. EndsAs classes code r.output (◌>>=◌ (computed classes (state r store locals managers input (j ∷ rest)) e)
      (λ done. Ok (if as_bool done.1 then begin_block (record done.0 { items = item ∷ j ∷ rest }) b else done.0)))
      (walk code l (r.at + 1) 0 [] (work r store slots managers input)))
      (sym (append_assoc test (i.JumpFalse jump ∷ inner) tail))
      (test_ends e jump (inner ++ tail) (j ∷ rest) (λ s. begin_block (record s { items = item ∷ j ∷ rest }) b) (λ s. s) h.slots.0 agrees once
      used truth
      (subst (λ x. EndsAs classes code r.output (Ok (begin_block (state r store (locals_after e) managers input (item ∷ j ∷ rest)) b)) x)
      (sym (walk_at_mark classes code (inner ++ tail) inside w begins))
      (into_block e b (item ∷ j ∷ rest) (length scope) inside h refl (item ∷ j ∷ rest) body))
      (subst (λ x. EndsAs classes code r.output (Ok (state r store (locals_after e) managers input (j ∷ rest))) x)
      (sym (ap (λ k. walk code (inner ++ tail) inside k [] w) stand.skip ∙ walk-skip classes code inner tail inside [] w))
      (over_block e (item ∷ j ∷ rest) j rest (inside + length inner) end h stand.behind h.places.1))))

  -- `print e;`
  pub print-mirrors : (e : Expr) (j : Item) (rest : List Item) → Showing (Do (stmt line (print e)) ∷ j ∷ rest)
      → Agrees classes store r.windows locals (scope_of locals) e → owned_once (work r store slots managers input).machine ≡ true
      → UsesUp classes store slots locals (scope_of locals) e []
      → ((v : Val) → value_of classes store locals e ≡ Ok v → is_closed (work r store (slots_after e) managers input).machine v ≡ false)
      → Simulated (Do (stmt line (print e)) ∷ j ∷ rest)
  print-mirrors e j rest h agrees once used plain =
      let item = Do (stmt line (print e)) in
      let whole = whole_code classes scope (r.at + 1) e in
      let more = whole ++ i.Print ∷ [] in
      let end = r.at + length (i.Mark line ∷ more) in
      let tail = drop end code.ops in
      let there : r.at + 1 + length whole + 1 ≡ end = omega (arith, length-append whole (i.Print ∷ [])) in
      let m = middle_whole scope (length slots) store store e slots locals
      (middle_of classes code r store slots locals managers input (item ∷ j ∷ rest) h) in
      let round = round_of classes code r store slots locals managers input (item ∷ j ∷ rest) h in
      statement_step classes code r store slots locals managers input line (print e) more (j ∷ rest) h.places.0.0
      (subst (λ x. EndsAs classes code r.output (◌>>=◌ (computed classes (state r store locals managers input (j ∷ rest)) e)
      (λ done. Ok (record done.0 { output = r.output ++ done.1 ∷ [] }))) x)
      (sym (ap (λ l. walk code l (r.at + 1) 0 [] (work r store slots managers input)) (append_assoc whole (i.Print ∷ []) tail)
      ∙ walk-whole classes code r store managers input e scope slots locals (i.Print ∷ tail) (r.at + 1) [] h.slots.0 refl agrees once used))
      (computed_ends classes code r.output (value_of classes store locals e) (state r store (locals_after e) managers input (j ∷ rest)) _ _ (λ v is.
      let after = state (record r { output = r.output ++ v ∷ [] }) store (locals_after e) managers input (j ∷ rest) in
      let w = record (work r store (slots_after e) managers input) { printed = Some v } in
      let lies = subst (λ s. Lies classes code.ops (level r s (length slots) ∷ levels) (j ∷ rest) end) (sym m.scope_is) h.places.1 in
      if_ends classes code r.output (Ok after) (not (is_closed (work r store (slots_after e) managers input).machine v))
      (walk code tail (r.at + 1 + length whole + 1) 0 [] w) Stuck (not_from_false _ (plain v is))
      (subst (λ x. EndsAs classes code r.output (Ok after) x)
      (sym (ap (λ k. walk code tail k 0 [] w) there ∙ walk_to_items classes code (level r (scope_of (locals_after e)) (length slots) ∷ levels) j
      rest end w lies))
      (let ended = finish classes code r store (slots_after e) (locals_after e) managers input (j ∷ rest) (length slots) end m.shows m.size_is round
      lies in
      mirrors-work classes code r.output _ _ ended.mirrors.slots ended.mirrors.windows ended.mirrors.places refl refl refl refl refl)))))
