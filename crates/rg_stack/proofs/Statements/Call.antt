-- Calls with each target: the call's step, whatever takes its result.
use Rattle.std.proofs.Common.{◌≡◌, ℕ, suc, ◌+◌, ◌-◌, ◌≤◌, true, false, ◌⊎◌, inl, inr, Bool as Truth, if◌then◌else◌, List, [], ◌∷◌, ◌++◌, length}
use Rattle.std.proofs.Common.{map, reverse, take, drop, replicate, Option, Some, None, Ok, refl, sym, ap, subst, ◌∙◌, arith, append_assoc}
use Rattle.std.proofs.Common.{length-append, slice_get}
use Rattle.std.proofs.lemmas.List.{reverse-append, length-replicate, length-reverse}
use Rattle.std.specs.Prelude.{nat_lt, flat_map, option_map}
use Rattle.rg_base.specs.declared.limits.TheConstants.{FRAMES}
use Rattle.rg_base.specs.declared.ty.Ty.TheVariants.{Ref}
use Rattle.rg_base.specs.declared.value.Val.{Val}
use Rattle.rg_base.specs.declared.value.Val.TheVariants as val
use Rattle.rg_base.specs.declared.object.Seen.{Seen}
use Rattle.rg_base.specs.declared.words.Manager.{Manager}
use Rattle.rg_base.specs.declared.outcome.Trap.TheVariants as trap
use Rattle.rg_tree.specs.Tree.{Name, Ty as Written, Variable, Expr, result_of, Call, stmt, StmtKind, declare, assign, call, return, Block}
use Rattle.rg_tree.specs.Tree.{empty as none, then as more_of, Method, Class}
use Rattle.rg_rules.specs.Answers.{◌>>◌, test}
use Rattle.rg_rules.specs.Capabilities.{is_iso}
use Rattle.rg_rules.specs.Types.{type_of, method_named, method_result}
use Rattle.rg_rules.specs.Items.{Item, Do, Back, items_of}
use Rattle.rg_rules.specs.Bodies.{method_end}
use Rattle.rg_rules.specs.State.{Local, Target, Declares, Assigns, Drops, State}
use Rattle.rg_rules.specs.Evaluation.{object_at, path_value, values_of, uses, cleared}
use Rattle.rg_rules.specs.RightSides.{called_frame, called as plain_called, step_call}
use Rattle.rg_rules.specs.Steps.{next}
use Rattle.rg_code.specs.declared.op.Op.{Op}
use Rattle.rg_code.specs.declared.op.Op.TheVariants as i
use Rattle.rg_code.specs.declared.code.Entry.{Entry}
use Rattle.rg_code.specs.Code.{Code}
use Rattle.rg_code.specs.Lowering.{with_slot, scope_behind, method_scope, method_end_code, method_code, block_code, path_code, exprs_code, clears}
use Rattle.rg_code.specs.Lowering.{dropped_code, call_result, call_code, assign_op, kind_code, used_by_all, number_called, target_class}
use Rattle.rg_code.specs.Places.{Stands, StandsIn, roomy, is_mark, is_drop, scope_of, Level, Lies, TakesResult}
use Rattle.rg_stack.specs.Machine.{Frame}
use Rattle.rg_stack.specs.Effects.{Walked, Stops, Traps, called}
use Rattle.rg_stack.specs.Needs.{needs, owned_once}
use Rattle.rg_stack.specs.Given.{given_step as step, given_walk as walk}
use Rattle.rg_stack.proofs.Mirrors.{Mirrors}
use Rattle.rg_stack.specs.Shows.{ShowsWindows, sizes_of, levels_of}
use Rattle.rg_stack.proofs.Mirrors.{SameMove, mirrors-work}
use Rattle.rg_stack.proofs.Walks.Walk.{FollowsPath, walk-path}
use Rattle.rg_stack.proofs.Walks.Place.{front_in, back_in, get-stands, stands-back, GoesOn, AllGoOn, lies_behind, lies_block}
use Rattle.rg_stack.proofs.Callers.Frame.{OpenedBelow}
use Rattle.rg_stack.proofs.Walks.Argument.{AllAgree, walk-exprs}
use Rattle.rg_stack.proofs.Statements.Called.{values-length, from_stack, bound-values, bound-scope, windows_above}
use Rattle.rg_stack.proofs.Walks.Slot.{ShowsSlots, shows_at, cleared_slots, cleared-length, shows_clears, scope_cleared, used-all}
use Rattle.rg_stack.proofs.Walks.End.{EndsAs, value_ends, object_ends, values_ends, Round, work, state, level, RoundShows, slots_hold}
use Rattle.rg_stack.proofs.Walks.End.{statement_step, walk-clears}
use Rattle.rg_stack.proofs.Callers.Need.{given, call-given, AllOnStack}
use Rattle.rg_stack.proofs.Statements.Assign.{round_of}
use Rattle.rg_stack.proofs.Callers.Base.{as_many}

-- Bodies that give a result

-- a block's last statement is a `return`, and no other is
abbrev pub Gives : Block → Type 0
Gives none = ⊥
Gives (more_of (stmt line k) b) = ((e : Expr) × (k ≡ return e) × (b ≡ none)) ⊎ (GoesOn k × Gives b)

-- a body fits its method's result
abbrev pub BodyFits : (result : Option Written) → Block → Type 0
BodyFits None b = AllGoOn b
BodyFits (Some t) b = Gives b

-- the items of a block that gives a result begin where its code stands, if what takes the result stands where the frame goes back
lies_gives : (classes : List Class) (code : List Op) (b : Block) (l : Level) (ls : List Level) (at : ℕ) (after : List Item)
    → StandsIn code l at (block_code classes l.scope at b)
    → Gives b
    → TakesResult code l.target l.back ls (λ levels here. Lies classes code levels after here)
    → Lies classes code (l ∷ ls) (items_of b after) at
lies_gives classes code none l ls at after h g takes = absurd g
lies_gives classes code (more_of (stmt line k) b) l ls at after h (inl g) takes =
    subst (λ b. StandsIn code l at (block_code classes l.scope at (more_of (stmt line k) b))
    → Lies classes code (l ∷ ls) (items_of (more_of (stmt line k) b) after) at) (sym g.2)
    (subst (λ k. StandsIn code l at (block_code classes l.scope at (more_of (stmt line k) none))
    → Lies classes code (l ∷ ls) (items_of (more_of (stmt line k) none) after) at) (sym g.1)
    (λ stands. (front_in code l at (kind_code classes l.scope at line (return g.0)) [] stands, takes))) h
lies_gives classes code (more_of (stmt line k) b) l ls at after h (inr g) takes =
    let first = kind_code classes l.scope at line k in
    let inner = scope_behind classes l.scope k in
    let others = block_code classes inner (at + length first) b in (
      front_in code l at first others h,
      lies_behind classes code l ls (at + length first) k (λ levels here. Lies classes code levels (items_of b after) here) g.0
          (lies_gives classes code b (record l { scope = inner }) ls (at + length first) after (back_in code l at first others h) g.1 takes),
    )

module _ (classes : List Class) (code : Code) (j : Item) (rest : List Item) where
  -- what lies behind a call: of a method without a result the items, else what takes the result and then the items
  abbrev pub Behind : (result : Option Written) → Target → (back : ℕ) → List Level → Type 0
  Behind None target back ls = (target ≡ Drops) × Lies classes code.ops ls (j ∷ rest) back
  Behind (Some t) target back ls = TakesResult code.ops target back ls (λ levels here. Lies classes code.ops levels (j ∷ rest) here)

  -- the items of a body begin where the method's code stands
  pub lies_method : (result : Option Written) (line : ℕ) (b : Block) (l : Level) (ls : List Level) (at : ℕ)
      → StandsIn code.ops l at (block_code classes l.scope at b ++ method_end_code line result)
      → BodyFits result b → Behind result l.target l.back ls
      → Lies classes code.ops (l ∷ ls) (items_of b (method_end result ++ j ∷ rest)) at
  lies_method None line b l ls at h fits behind =
      let block = block_code classes l.scope at b in
      let ending = i.Mark line ∷ i.RetVoid ∷ [] in
      let last = back_in code.ops l at block ending h in
      lies_block classes code.ops b l ls at (Back ∷ j ∷ rest) (front_in code.ops l at block ending h) fits (
        ap is_mark (get-stands code.ops (at + length block) (i.Mark line) _ last.0),
        stands-back code.ops (at + length block) (i.Mark line ∷ [])
            (i.RetVoid ∷ []) last.0,
        behind.0,
        behind.1,
      )
  lies_method (Some t) line b l ls at h fits behind =
      lies_gives classes code.ops b l ls at (j ∷ rest) (front_in code.ops l at (block_code classes l.scope at b) [] h) fits behind

  -- a method, its code and its entry
  pub record Called (d : ℕ) (m : Method) (e : Entry) : Type 0 where
    pub stands : Stands code.ops e.at (method_code classes e.at d m)
    pub given : e.given ≡ suc (length m.params)
    pub room : (n : ℕ) → e.slots ≤ n → roomy n (method_code classes e.at d m) ≡ true
    pub fits : BodyFits m.result m.body

  -- the new frame shows that of the plain machine
  new_frame : (d : ℕ) (m : Method) (e : Entry) (target : Target) (v : Val) (vs : List Val) → length vs ≡ length m.params → e.given
      ≡ suc (length m.params)
      → ShowsSlots (reverse (take e.given (reverse vs ++ v ∷ [])) ++ replicate (e.slots - e.given) val.Nil)
      ((called_frame classes target m d v vs).locals)
  new_frame d m e target v vs size given =
      let nils = replicate (e.slots - e.given) val.Nil in
      let shown = from_stack v vs e.given (omega (arith, size, given)) in
      let values = bound-values classes m.params vs size in
      shows_at _ ((called_frame classes target m d v vs).locals) (e.slots - e.given)
      (ap (λ l. l ++ nils) shown ∙ ap (λ l. (v ∷ l) ++ nils) (sym values))

  -- a call whose values are there
  frame_ends : (r : Round) (store : List Seen) (slots : List Val) (locals : List Local) (managers : List Manager) (input : List ℕ) (d : ℕ)
      (m : Method) (e : Entry) (target : Target) (v : Val) (vs : List Val) (back : ℕ)
      → ShowsSlots slots locals → RoundShows r (length slots) → Called d m e
      → OpenedBelow (length (sizes_of (record { slots = slots; back = r.back } ∷ r.frames))) r.opened
      → length vs ≡ length m.params → Behind m.result target back (level r (scope_of locals) (length slots) ∷ levels_of r.frames r.bodies)
      → EndsAs classes code r.output
      (Ok (record (state r store locals managers input []) {
        frames = called_frame classes target m d v vs ∷ record { locals = locals; target = r.target } ∷ r.bodies;
        items = items_of m.body
            (method_end m.result ++ j ∷ rest);
      }))
      (Stops e.at (record (work r store slots managers input) {
        machine = record (work r store slots managers input).machine {
          frames = record { slots = reverse (take e.given (reverse vs ++ v ∷ [])) ++ replicate (e.slots - e.given) val.Nil; back = back } ∷ record
              { slots = slots; back = r.back } ∷ r.frames;
        };
      }))
  frame_ends r store slots locals managers input d m e target v vs back shows round callee below size behind =
      let nils = replicate (e.slots - e.given) val.Nil in
      let whole = reverse (take e.given (reverse vs ++ v ∷ [])) ++ nils in
      let enough : e.slots ≤ length whole =
      omega (
        arith,
        size,
        callee.given,
        length-append (reverse (take e.given (reverse vs ++ v ∷ []))) nils,
        ap length
            (from_stack v vs e.given (omega (arith, size, callee.given))),
        length-replicate (e.slots - e.given) val.Nil,
      ) in
      let scope = method_scope classes d m in
      let names : scope ≡ scope_of (called_frame classes target m d v vs).locals = bound-scope classes m.params vs
      (with_slot [] None (Ref m.receiver d)) in
      let ls = level r (scope_of locals) (length slots) ∷ levels_of r.frames r.bodies in
      let l : Level = record { scope = scope; slots = length whole; target = target; back = back } in
      mirrors-work classes code r.output _ _ (new_frame d m e target v vs size callee.given, (shows, round.frames))
      (subst (λ k. ShowsWindows k r.windows r.opened)
      (sym (reverse-append (length whole ∷ []) (length slots ∷ map (λ (f : Frame). length f.slots) r.frames)))
      (windows_above (sizes_of (record { slots = slots; back = r.back } ∷ r.frames)) (length whole) r.windows r.opened below round.windows))
      (subst (λ s. Lies classes code.ops (record { scope = s; slots = length whole; target = target; back = back } ∷ ls)
      (items_of m.body (method_end m.result ++ j ∷ rest)) e.at) names
      (lies_method m.result m.line m.body l ls e.at (callee.stands, callee.room (length whole) enough) callee.fits behind))
      refl refl refl refl refl

  -- what the rules, the code and the invariant give of a call
  pub record CallOwes (r : Round) (store : List Seen) (slots : List Val) (locals : List Local) (c : Call) (d : ℕ) (m : Method) (e : Entry) : Type 0
    where
      pub follows : FollowsPath classes store r.windows locals (scope_of locals) c.target
      pub agrees : AllAgree classes store r.windows locals (scope_of locals) c.args
      pub uses : (v : Val) (vs : List Val) → values_of classes store locals c.args ≡ Ok vs
          → AllOnStack (used_by_all (scope_of locals) c.args) slots (reverse vs ++ v ∷ [])
      pub entry : slice_get code.entries (number_called classes (target_class classes (scope_of locals) c) c.method) ≡ Some e
      pub callee : Called d m e
      pub below : OpenedBelow (length (sizes_of (record { slots = slots; back = r.back } ∷ r.frames))) r.opened
      pub arity : length c.args ≡ length m.params
      pub named : method_named classes d c.method ≡ Some m
      pub class : (v : Val) (o : Seen) → path_value classes store locals c.target ≡ Ok v → object_at store v ≡ Ok o → o.class ≡ d

  flat : (p e u t : List Op) (a b c : Op) → ((p ++ a ∷ []) ++ (e ++ b ∷ (u ++ c ∷ []))) ++ t ≡ p ++ (a ∷ (e ++ (b ∷ (u ++ (c ∷ t)))))
  flat p e u t a b c = simp append_assoc

  room_ends : (t : Truth) (before : List Val) (p : State) (x : Walked) → EndsAs classes code before (Ok p) x
      → EndsAs classes code before (◌>>◌ (test t trap.Depth) (Ok p)) (if t then x else Traps trap.Depth)
  room_ends true before p x h = h
  room_ends false before p x h = refl

  pub call_ends : (r : Round) (store : List Seen) (slots : List Val) (locals : List Local) (managers : List Manager) (input : List ℕ) (c : Call)
      (d : ℕ) (m : Method) (e : Entry) (target : Target) (at : ℕ) (tail : List Op)
      → ShowsSlots slots locals → RoundShows r (length slots) → CallOwes r store slots locals c d m e
      → owned_once (work r store slots managers input).machine ≡ true
      → Behind m.result target (at + length (call_code classes (scope_of locals) at c))
      (level r (scope_of locals) (length slots) ∷ levels_of r.frames r.bodies)
      → EndsAs classes code r.output (step_call classes (state r store locals managers input (j ∷ rest)) target c)
      (walk code (call_code classes (scope_of locals) at c ++ tail) at 0 [] (work r store slots managers input))
  call_ends r store slots locals managers input c d m e target at tail shows round owes once behind =
      let scope = scope_of locals in
      let path = path_code classes scope c.target.base c.target.fields in
      let receiver = path ++ i.Check ∷ [] in
      let exprs = exprs_code classes scope (at + length receiver) c.args in
      let used = used_by_all scope c.args in
      let us = flat_map (uses locals) c.args in
      let n = number_called classes (target_class classes scope c) c.method in
      let s = state r store locals managers input (j ∷ rest) in
      let w = work r store slots managers input in
      let here : at + length path + 1 ≡ at + length receiver = omega (arith, length-append path (i.Check ∷ [])) in
      let there : at + length receiver + length exprs + 1 + length (clears used) + 1 ≡ at + length (call_code classes scope at c) =
      omega (
        arith,
        length-append receiver (exprs ++ i.Room ∷ (clears used ++ i.Call n ∷ [])),
        length-append exprs
            (i.Room ∷ (clears used ++ i.Call n ∷ [])),
        length-append (clears used) (i.Call n ∷ []),
      ) in
      let slots_after = cleared_slots used slots in
      let locals_after = cleared us locals in
      let names : scope_of locals_after ≡ scope = scope_cleared us locals in
      let shows_after : ShowsSlots slots_after locals_after = subst (λ l. ShowsSlots (cleared_slots l slots) locals_after)
      (sym (used-all locals c.args)) (shows_clears us scope slots locals refl shows) in
      let size_after : length slots_after ≡ length slots = cleared-length used slots in
      let round_after : RoundShows r (length slots_after) = subst (RoundShows r) (sym size_after) round in
      let below_after : OpenedBelow (length (sizes_of (record { slots = slots_after; back = r.back } ∷ r.frames))) r.opened =
      subst (λ k. OpenedBelow (length (reverse (k ∷ map (λ (f : Frame). length f.slots) r.frames))) r.opened) (sym size_after) owes.below in
      let on_stack : (v : Val) (vs : List Val) → values_of classes store locals c.args ≡ Ok vs → length (reverse vs ++ v ∷ []) ≡ e.given =
      λ v vs got. let size = values-length classes store locals c.args vs got in
      omega (arith, size, owes.arity, owes.callee.given, length-append (reverse vs) (v ∷ []), length-reverse vs) in
      let inner = exprs ++ (i.Room ∷ (clears used ++ (i.Call n ∷ tail))) in
      subst (λ x. EndsAs classes code r.output (step_call classes s target c) x)
      (sym (ap (λ l. walk code l at 0 [] w) (flat path exprs (clears used) tail i.Check i.Room (i.Call n))
      ∙ walk-path classes code c.target locals scope at (i.Check ∷ inner) [] w (slots_hold scope slots locals shows refl) owes.follows))
      (value_ends classes code r.output (path_value classes store locals c.target) _ _ (λ v led.
      object_ends classes code r.output (object_at store v) _ _ (λ o is.
      let done = walk code inner (at + length path + 1) 0 (v ∷ []) w in
      subst (λ k. EndsAs classes code r.output (plain_called classes s target c v k (method_named classes k c.method)) done)
      (sym (owes.class v o led is))
      (subst (λ k. EndsAs classes code r.output (plain_called classes s target c v d k) done) (sym owes.named)
      (subst (λ x. EndsAs classes code r.output (plain_called classes s target c v d (Some m)) x)
      (sym (ap (λ k. walk code inner k 0 (v ∷ []) w) here
      ∙ walk-exprs classes code c.args locals scope (at + length receiver) (i.Room ∷ (clears used ++ (i.Call n ∷ tail))) (v ∷ []) w
      (slots_hold scope slots locals shows refl) owes.agrees))
      (values_ends classes code r.output (values_of classes store locals c.args) _ _ (λ vs got.
      let after = record s {
        frames = called_frame classes target m d v vs ∷ record { locals = locals_after; target = r.target } ∷ r.bodies;
        items =
            items_of m.body (method_end m.result ++ j ∷ rest);
      } in
      let stack = reverse vs ++ v ∷ [] in
      let goes = walk code (clears used ++ (i.Call n ∷ tail)) (at + length receiver + length exprs + 1) 0 stack w in
      subst (λ k. EndsAs classes code r.output (◌>>◌ (test (nat_lt (suc (length r.bodies)) FRAMES) trap.Depth) (Ok after))
      (if nat_lt (suc k) FRAMES then goes else Traps trap.Depth)) (sym (as_many r.frames r.bodies round.frames))
      (room_ends (nat_lt (suc (length r.bodies)) FRAMES) r.output after goes
      (subst (λ x. EndsAs classes code r.output (Ok after) x)
      (sym (walk-clears classes code r store managers input used slots (i.Call n ∷ tail) (at + length receiver + length exprs + 1) stack
      once (owes.uses v vs got)
      ∙ given (needs code (i.Call n) stack (work r store slots_after managers input).machine) _
      (call-given code n e stack (work r store slots_after managers input).machine owes.entry (on_stack v vs got))
      ∙ ap (λ k. called (at + length receiver + length exprs + 1 + length (clears used)) k stack (work r store slots_after managers input))
      owes.entry))
      (frame_ends r store slots_after locals_after managers input d m e target v vs
      (at + length receiver + length exprs + 1 + length (clears used) + 1)
      shows_after round_after owes.callee below_after (values-length classes store locals c.args vs got ∙ owes.arity)
      (subst (λ k. Behind m.result target k (level r (scope_of locals_after) (length slots_after) ∷ levels_of r.frames r.bodies)) (sym there)
      (subst (λ l. Behind m.result target (at + length (call_code classes scope at c))
      (level r l (length slots_after) ∷ levels_of r.frames r.bodies)) (sym names)
      (subst (λ k. Behind m.result target (at + length (call_code classes scope at c)) (level r scope k ∷ levels_of r.frames r.bodies))
      (sym size_after) behind)))))))))))))

  drop_there : (t : Truth) (top : Level) (back : ℕ) → StandsIn code.ops top back (if t then i.Drop ∷ [] else i.Pop ∷ [])
      → (is_drop (slice_get code.ops back) ≡ true) × (length (if t then i.Drop ∷ [] else i.Pop ∷ []) ≡ 1)
  drop_there true top back h = (ap is_drop (get-stands code.ops back i.Drop [] h.0), refl)
  drop_there false top back h = (ap is_drop (get-stands code.ops back i.Pop [] h.0), refl)

  -- where one instruction stands behind the others of a statement
  one_behind : (top : Level) (at line : ℕ) (ops : List Op) (o : Op) → StandsIn code.ops top at (i.Mark line ∷ (ops ++ o ∷ []))
      → StandsIn code.ops top (at + 1 + length ops) (o ∷ []) × (at + length (i.Mark line ∷ (ops ++ o ∷ [])) ≡ at + 1 + length ops + 1)
  one_behind top at line ops o h =
      let back : at + length (i.Mark line ∷ ops) ≡ at + 1 + length ops = omega arith in
      let end : at + length (i.Mark line ∷ (ops ++ o ∷ [])) ≡ at + 1 + length ops + 1 = omega (arith, length-append ops (o ∷ [])) in
      (subst (λ n. StandsIn code.ops top n (o ∷ [])) back (back_in code.ops top at (i.Mark line ∷ ops) (o ∷ []) h), end)

  -- what lies behind a call as a statement
  behind_call : (result : Option Written) (top : Level) (levels : List Level) (back : ℕ)
      → StandsIn code.ops top back (dropped_code (option_map (type_of classes) result))
      → Lies classes code.ops (top ∷ levels) (j ∷ rest) (back + length (dropped_code (option_map (type_of classes) result)))
      → Behind result Drops back (top ∷ levels)
  behind_call None top levels back h lies = let e : back + 0
      ≡ back = omega arith in (refl, subst (Lies classes code.ops (top ∷ levels) (j ∷ rest)) e lies)
  behind_call (Some t) top levels back h lies =
      let d = drop_there (is_iso (type_of classes t)) top back h in
      (d.0, subst (λ n. Lies classes code.ops (top ∷ levels) (j ∷ rest) (back + n)) d.1 lies)

  module _ (r : Round) (store : List Seen) (slots : List Val) (locals : List Local) (managers : List Manager) (input : List ℕ) (line : ℕ) (c : Call)
      (m : Method) (e : Entry) where
    abbrev Showing : StmtKind → Type 0
    Showing k = Mirrors classes code (work r store slots managers input).machine (state r store locals managers input (Do (stmt line k) ∷ j ∷ rest))

    abbrev Simulated : StmtKind → Type 0
    Simulated k = SameMove classes code r.output (next classes (state r store locals managers input (Do (stmt line k) ∷ j ∷ rest)))
        (step code (work r store slots managers input))

    -- the class, the method and the entry of the call are those that the code names
    abbrev pub Owed : Type 0
    Owed = CallOwes r store slots locals c (target_class classes (scope_of locals) c) m e

    abbrev pub Once : Type 0
    Once = owned_once (work r store slots managers input).machine ≡ true

    -- `call q.m(a, b);`
    pub call-mirrors : Showing (call c) → Owed → Once → Simulated (call c)
    call-mirrors h owes once =
        let scope = scope_of locals in
        let top = level r scope (length slots) in
        let levels = levels_of r.frames r.bodies in
        let ops = call_code classes scope (r.at + 1) c in
        let d = target_class classes scope c in
        let dropped = dropped_code (call_result classes scope c) in
        let more = ops ++ dropped in
        let tail = drop (r.at + length (i.Mark line ∷ more)) code.ops in
        let result : call_result classes scope c ≡ option_map (type_of classes) m.result = ap
        (λ k. elim k [ None ↦ None | Some m ↦ method_result classes m ]) owes.named in
        let back = r.at + 1 + length ops in
        let last = back_in code.ops top r.at (i.Mark line ∷ ops) dropped h.places.0 in
        let at_back : r.at + length (i.Mark line ∷ ops) ≡ back = omega arith in
        let end : r.at + length (i.Mark line ∷ more) ≡ back + length dropped = omega (arith, length-append ops dropped) in
        let stands = subst (λ n. StandsIn code.ops top n dropped) at_back last in
        let lies = subst (Lies classes code.ops (top ∷ levels) (j ∷ rest)) end h.places.1 in
        let behind = behind_call m.result top levels back (subst (λ k. StandsIn code.ops top back (dropped_code k)) result stands)
        (subst (λ k. Lies classes code.ops (top ∷ levels) (j ∷ rest) (back + length (dropped_code k))) result lies) in
        statement_step classes code r store slots locals managers input line (call c) more (j ∷ rest) h.places.0.0
        (subst (λ l. EndsAs classes code r.output (step_call classes (state r store locals managers input (j ∷ rest)) Drops c)
        (walk code l (r.at + 1) 0 [] (work r store slots managers input))) (sym (append_assoc ops dropped tail))
        (call_ends r store slots locals managers input c d m e Drops (r.at + 1) (dropped ++ tail) h.slots.0
        (round_of classes code r store slots locals managers input (Do (stmt line (call c)) ∷ j ∷ rest) h) owes once behind))

    -- `let x: T = call q.m(a, b);`
    pub declare-call-mirrors : (x : Name) (t u : Written) → Showing (declare x t (result_of c)) → Owed → Once → m.result ≡ Some u
        → Simulated (declare x t (result_of c))
    declare-call-mirrors x t u h owes once gives =
        let scope = scope_of locals in
        let top = level r scope (length slots) in
        let levels = levels_of r.frames r.bodies in
        let ops = call_code classes scope (r.at + 1) c in
        let d = target_class classes scope c in
        let target = Declares x (type_of classes t) in
        let o = i.Store (length scope) in
        let more = ops ++ o ∷ [] in
        let tail = drop (r.at + length (i.Mark line ∷ more)) code.ops in
        let back = r.at + 1 + length ops in
        let last = one_behind top r.at line ops o h.places.0 in
        let lies = subst (Lies classes code.ops (record top { scope = with_slot scope (Some x) (type_of classes t) } ∷ levels) (j ∷ rest)) last.1
        h.places.1 in
        let behind : Behind (Some u) target back (top ∷ levels) = (last.0, lies) in
        statement_step classes code r store slots locals managers input line (declare x t (result_of c)) more (j ∷ rest) h.places.0.0
        (subst (λ l. EndsAs classes code r.output (step_call classes (state r store locals managers input (j ∷ rest)) target c)
        (walk code l (r.at + 1) 0 [] (work r store slots managers input))) (sym (append_assoc ops (o ∷ []) tail))
        (call_ends r store slots locals managers input c d m e target (r.at + 1) (o ∷ tail) h.slots.0
        (round_of classes code r store slots locals managers input (Do (stmt line (declare x t (result_of c))) ∷ j ∷ rest) h) owes once
        (subst (λ k. Behind k target back (top ∷ levels)) (sym gives) behind)))

    -- `x = call q.m(a, b);`
    pub assign-call-mirrors : (x : Variable) (u : Written) → Showing (assign (record { base = x; fields = [] }) (result_of c)) → Owed → Once
        → m.result ≡ Some u
        → Simulated (assign (record { base = x; fields = [] }) (result_of c))
    assign-call-mirrors x u h owes once gives =
        let scope = scope_of locals in
        let top = level r scope (length slots) in
        let levels = levels_of r.frames r.bodies in
        let ops = call_code classes scope (r.at + 1) c in
        let d = target_class classes scope c in
        let target = Assigns x in
        let o = assign_op scope x in
        let more = ops ++ o ∷ [] in
        let tail = drop (r.at + length (i.Mark line ∷ more)) code.ops in
        let back = r.at + 1 + length ops in
        let last = one_behind top r.at line ops o h.places.0 in
        let behind : Behind (Some u) target back (top ∷ levels) = (
          last.0,
          subst (Lies classes code.ops (top ∷ levels) (j ∷ rest)) last.1 h.places.1,
        ) in
        let k = assign (record { base = x; fields = [] }) (result_of c) in
        statement_step classes code r store slots locals managers input line k more (j ∷ rest) h.places.0.0
        (subst (λ l. EndsAs classes code r.output (step_call classes (state r store locals managers input (j ∷ rest)) target c)
        (walk code l (r.at + 1) 0 [] (work r store slots managers input))) (sym (append_assoc ops (o ∷ []) tail))
        (call_ends r store slots locals managers input c d m e target (r.at + 1) (o ∷ tail) h.slots.0
        (round_of classes code r store slots locals managers input (Do (stmt line k) ∷ j ∷ rest) h) owes once
        (subst (λ k. Behind k target back (top ∷ levels)) (sym gives) behind)))
