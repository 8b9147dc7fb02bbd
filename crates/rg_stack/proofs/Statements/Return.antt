-- `return e;`: the frame goes, and its target in the frame beneath takes the value.
use Rattle.std.proofs.Common.{◌≡◌, if◌then◌else◌, ℕ, ◌+◌, ◌<◌, true, true≢false, List, [], ◌∷◌, ◌++◌, length, map, drop, Some, Ok, refl, sym, ap}
use Rattle.std.proofs.Common.{subst, ◌∙◌, append_assoc, slice_get, slice_set, unwrap_or}
use Rattle.std.specs.Prelude.{not, nat_lt, nat_le, ◌&&◌}
use Rattle.std.proofs.lemmas.Bool.{lt-ltb, and_from, not_from_false}
use Rattle.std.proofs.Common.{arith}
use Rattle.std.proofs.lemmas.List.{length-map, map-append, length-set, reverse-append, drop-drop}
use Rattle.rg_base.specs.declared.value.Val.{Val}
use Rattle.rg_base.specs.declared.value.Val.TheVariants as val
use Rattle.rg_base.specs.declared.object.Seen.{Seen}
use Rattle.rg_base.specs.declared.words.Manager.{Manager}
use Rattle.rg_tree.specs.Tree.{Expr, stmt, return, Class}
use Rattle.rg_rules.specs.Answers.{◌>>=◌}
use Rattle.rg_rules.specs.Items.{Item, Do, Back}
use Rattle.rg_rules.specs.State.{Frame as Body, Window as Opened, Local, Target, Declares, Assigns, Drops, set_in, deliver}
use Rattle.rg_rules.specs.Evaluation.{value_of, uses, cleared, computed}
use Rattle.rg_rules.specs.Steps.{next}
use Rattle.rg_code.specs.declared.op.Op.{Op}
use Rattle.rg_code.specs.declared.op.Op.TheVariants as i
use Rattle.rg_code.specs.Code.{Code}
use Rattle.rg_code.specs.Lowering.{with_slot, slot_of, used_slots, whole_code, assign_op}
use Rattle.rg_code.specs.Places.{is_drop, scope_of, Lies, TakesResult}
use Rattle.rg_stack.specs.Machine.{Frame, Window, Machine, slots_below, place_of}
use Rattle.rg_stack.specs.Needs.{needs, is_closed, owned_once, loose, may_keep}
use Rattle.rg_stack.specs.Places.{top_base}
use Rattle.rg_stack.specs.Effects.{Returns, Stuck, begins_by}
use Rattle.rg_stack.specs.Tops.{Work}
use Rattle.rg_stack.specs.Runs.{landed}
use Rattle.rg_stack.specs.Given.{given_finished as finished, given_step as step, given_step_from as step_from, given_walk as walk}
use Rattle.rg_stack.proofs.Mirrors.{Mirrors}
use Rattle.rg_stack.specs.Shows.{ShowsWindows, sizes_of, levels_of}
use Rattle.rg_stack.proofs.Mirrors.{SameMove, mirrors-work}
use Rattle.rg_stack.proofs.Walks.Walk.{Agrees}
use Rattle.rg_stack.proofs.Callers.Mark.{mark-there, drop-stands, first-drop, walk_to_items}
use Rattle.rg_stack.proofs.Callers.Frame.{work_of, state_of, room_of, shows_next, OpenedBelow, windows_below}
use Rattle.rg_stack.proofs.Walks.Slot.{ShowsSlots, Has, cleared_slots, shows_put, slot_place, scope_set}
use Rattle.rg_stack.proofs.Callers.Need.{given, nil-open, free_slot}
use Rattle.rg_stack.proofs.Walks.End.{comes, Landed, EndsAs, computed_ends, Round, work, state, level, RoundShows, finish, statement_step}
use Rattle.rg_stack.proofs.Walks.End.{walk-whole, UsesUp}
use Rattle.rg_stack.proofs.Needs.Keep.{keep-here}
use Rattle.rg_stack.proofs.Callers.Base.{if_ends}
use Rattle.rg_stack.proofs.Statements.Assign.{walk-assign}
use Rattle.rg_stack.proofs.Basics.{and-left}

-- the walk behind a frame's end comes to where items begin
pub land_at : (classes : List Class) (code : Code) (r : Round) (store : List Seen) (slots : List Val) (locals : List Local)
    (managers : List Manager) (input : List ℕ) (j : Item) (rest : List Item) (n end : ℕ)
    → ShowsSlots slots locals → length slots ≡ n → RoundShows r n
    → Lies classes code.ops (level r (scope_of locals) n ∷ levels_of r.frames r.bodies) (j ∷ rest) end
    → Landed classes code r.output (state r store locals managers input (j ∷ rest))
    (walk code (drop end code.ops) end 0 [] (work r store slots managers input))
land_at classes code r store slots locals managers input j rest n end shows size round lies =
    subst (λ x. Landed classes code r.output (state r store locals managers input (j ∷ rest)) x)
    (sym (walk_to_items classes code (level r (scope_of locals) n ∷ levels_of r.frames r.bodies) j rest end (work r store slots managers input)
    lies))
    (finish classes code r store slots locals managers input (j ∷ rest) n end shows size round lies)

-- what a target assigns is there
abbrev pub TargetHas : Target → List Local → Type 0
TargetHas (Declares x t) locals = Unit {0}
TargetHas (Assigns x) locals = Has locals x
TargetHas Drops locals = Unit {0}

-- what taking a value into a target needs
abbrev pub TargetNeeds : Code → Target → List Local → Val → Machine → Type 0
TargetNeeds code (Declares x t) locals v m = nat_le (top_base m.windows) (place_of m.frames (length locals)) ≡ true
TargetNeeds code (Assigns x) locals v m = needs code (assign_op (scope_of locals) x) (v ∷ []) m ≡ true
TargetNeeds code Drops locals v m = (owned_once m && loose m v) ≡ true

-- an instruction that drops
dropped : (ops : List Op) (classes : List Class) (code : Code) (here : ℕ) (v : Val) (w : Work) → is_drop (slice_get ops 0) ≡ true
    → (owned_once w.machine && loose w.machine v) ≡ true
    → walk code ops here 0 (v ∷ []) w ≡ walk code (drop 1 ops) (here + 1) 0 [] w
dropped [] classes code here v w e need = absurd (true≢false (sym e))
dropped (i.Pop ∷ ops) classes code here v w e need = given (owned_once w.machine && loose w.machine v) _ need
dropped (i.Drop ∷ ops) classes code here v w e need = given (owned_once w.machine && loose w.machine v) _ need
dropped (o ∷ ops) classes code here v w e need = absurd (true≢false (sym e))

-- a target takes a value, and the code goes on
pub taken_lands : (classes : List Class) (code : Code) (r : Round) (store : List Seen) (slots : List Val) (locals : List Local)
    (managers : List Manager) (input : List ℕ) (j : Item) (rest : List Item) (target : Target) (back : ℕ) (v : Val)
    → ShowsSlots slots locals → RoundShows r (length slots) → TargetHas target locals
    → TargetNeeds code target locals v (work r store slots managers input).machine
    → TakesResult code.ops target back (level r (scope_of locals) (length slots) ∷ levels_of r.frames r.bodies)
    (λ levels here. Lies classes code.ops levels (j ∷ rest) here)
    → Landed classes code r.output (deliver target (state r store locals managers input (j ∷ rest)) v)
    (walk code (drop back code.ops) back 0 (v ∷ []) (work r store slots managers input))
taken_lands classes code r store slots locals managers input j rest (Declares x t) back v shows round has need takes =
    let l : Local = record { name = Some x; ty = t; value = v } in
    let scope = scope_of locals in
    let k = length scope in
    let size = length slots in
    let is : k ≡ length locals = length-map locals (λ (l : Local). record { name = l.name; ty = l.ty }) in
    let room : length locals < size = room_of size k (length locals) is (and-left _ _ takes.0.1) in
    let m = (work r store slots managers input).machine in
    let free : needs code (i.Store k) (v ∷ []) m ≡ true =
    and_from (nat_lt k (length slots) && not (is_closed m (unwrap_or (slice_get slots k) val.Nil))) (may_keep m k v)
    (and_from (nat_lt k (length slots)) (not (is_closed m (unwrap_or (slice_get slots k) val.Nil)))
    (lt-ltb k (length slots) (omega (arith, is, room))) (not_from_false _
    (nil-open m (unwrap_or (slice_get slots k) val.Nil) (ap (λ n. unwrap_or (slice_get slots n) val.Nil) is ∙ free_slot slots locals shows))))
    (keep-here m k v (subst (λ n. nat_le (top_base r.windows) (slots_below r.frames + n) ≡ true) (sym is) need)) in
    let names : with_slot scope (Some x) t ≡ scope_of (locals ++ l ∷ []) = sym
    (map-append (λ (l : Local). record { name = l.name; ty = l.ty }) locals (l ∷ [])) in
    subst (λ ops. Landed classes code r.output (state r store (locals ++ l ∷ []) managers input (j ∷ rest))
    (walk code ops back 0 (v ∷ []) (work r store slots managers input))) (sym (drop-stands code.ops back (i.Store k ∷ []) takes.0.0))
    (subst (λ b. Landed classes code r.output (state r store (locals ++ l ∷ []) managers input (j ∷ rest)) (if b then
    walk code (drop (back + 1) code.ops) (back + 1) 0 [] (work r store (slice_set slots k v) managers input) else Stuck)) (sym free)
    (land_at classes code r store (slice_set slots k v) (locals ++ l ∷ []) managers input j rest size (back + 1)
    (subst (λ n. ShowsSlots (slice_set slots n v) (locals ++ l ∷ [])) (sym is) (shows_next slots locals l shows room))
    (length-set slots k v) round
    (subst (λ s. Lies classes code.ops (level r s size ∷ levels_of r.frames r.bodies) (j ∷ rest) (back + 1)) names takes.1)))
taken_lands classes code r store slots locals managers input j rest (Assigns x) back v shows round has need takes =
    let scope = scope_of locals in
    let k = slot_of scope x in
    let size = length slots in
    let o = assign_op scope x in
    let tail = drop (back + 1) code.ops in
    subst (λ y. Landed classes code r.output (state r store (set_in x v locals) managers input (j ∷ rest)) y)
    (sym (ap (λ ops. walk code ops back 0 (v ∷ []) (work r store slots managers input)) (drop-stands code.ops back (o ∷ []) takes.0.0)
    ∙ walk-assign classes code scope x tail back v (work r store slots managers input) need))
    (land_at classes code r store (slice_set slots k v) (set_in x v locals) managers input j rest size (back + 1)
    (subst (λ n. ShowsSlots (slice_set slots n v) (set_in x v locals)) (sym (slot_place locals x)) (shows_put slots locals x v shows has))
    (length-set slots k v) round
    (subst (λ s. Lies classes code.ops (level r s size ∷ levels_of r.frames r.bodies) (j ∷ rest) (back + 1)) (sym (scope_set x v locals)) takes.1))
taken_lands classes code r store slots locals managers input j rest Drops back v shows round has need takes =
    subst (λ y. Landed classes code r.output (state r store locals managers input (j ∷ rest)) y)
    (sym (dropped (drop back code.ops) classes code back v (work r store slots managers input) (ap is_drop (first-drop code.ops back) ∙ takes.0) need
    ∙ ap (λ ops. walk code ops (back + 1) 0 [] (work r store slots managers input)) (drop-drop 1 back code.ops)))
    (land_at classes code r store slots locals managers input j rest (length slots) (back + 1) shows refl round takes.1)

-- the frames of a state in which a body was called
abbrev pub above : Round → (slots : List Val) → (locals : List Local) → (back : ℕ) → Target → Round
above r slots locals back target = record r {
  back = back;
  frames = record { slots = slots; back = r.back } ∷ r.frames;
  target = target;
  bodies =
      record { locals = locals; target = r.target } ∷ r.bodies;
}

-- `return e;`: r is what stands round the frame that called
pub return-mirrors : (classes : List Class) (code : Code) (r : Round) (slots under : List Val) (locals callers : List Local) (back : ℕ)
    (target : Target) (store : List Seen) (managers : List Manager) (input : List ℕ) (line : ℕ) (e : Expr) (j : Item) (rest : List Item)
    → Mirrors classes code (work (above r under callers back target) store slots managers input).machine
    (state (above r under callers back target) store locals managers input (Do (stmt line (return e)) ∷ j ∷ rest))
    → Agrees classes store r.windows locals (scope_of locals) e
    → OpenedBelow (length (sizes_of (record { slots = under; back = r.back } ∷ r.frames))) r.opened
    → begins_by r.windows (slots_below (record { slots = under; back = r.back } ∷ r.frames)) ≡ true
    → TargetHas target callers
    → owned_once (work (above r under callers back target) store slots managers input).machine ≡ true
    → UsesUp classes store slots locals (scope_of locals) e []
    → ((v : Val) → value_of classes store locals e ≡ Ok v
    → (needs code i.Ret (v ∷ [])
    (work (above r under callers back target) store (cleared_slots (used_slots (scope_of locals) e) slots) managers input).machine ≡ true)
    × TargetNeeds code target callers v (work r store under managers input).machine)
    → SameMove classes code r.output (next classes (state (above r under callers back target) store locals managers input
    (Do (stmt line (return e)) ∷ j ∷ rest))) (step code (work (above r under callers back target) store slots managers input))
return-mirrors classes code r slots under locals callers back target store managers input line e j rest h agrees below begins has once used need =
    let a = above r under callers back target in
    let scope = scope_of locals in
    let whole = whole_code classes scope (r.at + 1) e in
    let more = whole ++ i.Ret ∷ [] in
    let tail = drop (r.at + length (i.Mark line ∷ more)) code.ops in
    let size = length slots in
    let round : RoundShows r (length under) = record {
      frames = h.slots.1.1;
      windows = windows_below (sizes_of (record { slots = under; back = r.back } ∷ r.frames)) size r.windows r.opened below
          (subst (λ k. ShowsWindows k r.windows r.opened) (reverse-append (size ∷ []) (length under ∷ map (λ (f : Frame). length f.slots) r.frames))
          h.windows);
    } in
    statement_step classes code a store slots locals managers input line (return e) more (j ∷ rest) h.places.0.0
    (subst (λ x. EndsAs classes code r.output (◌>>=◌ (computed classes (state a store locals managers input (j ∷ rest)) e)
    (λ done. Ok (deliver target (state r store callers managers input (j ∷ rest)) done.1))) x)
    (sym (ap (λ l. walk code l (r.at + 1) 0 [] (work a store slots managers input)) (append_assoc whole (i.Ret ∷ []) tail)
    ∙ walk-whole classes code a store managers input e scope slots locals (i.Ret ∷ tail) (r.at + 1) [] h.slots.0 refl agrees once used))
    (computed_ends classes code r.output (value_of classes store locals e)
    (state a store (cleared (uses locals e) locals) managers input (j ∷ rest)) _ _ (λ v is.
    if_ends classes code r.output (Ok (deliver target (state r store callers managers input (j ∷ rest)) v))
    (needs code i.Ret (v ∷ []) (work a store (cleared_slots (used_slots scope e) slots) managers input).machine)
    (if begins_by r.windows (slots_below (record { slots = under; back = r.back } ∷ r.frames))
    then Returns back (v ∷ []) (work r store under managers input) else Stuck) Stuck (need v is).0
    (if_ends classes code r.output (Ok (deliver target (state r store callers managers input (j ∷ rest)) v))
    (begins_by r.windows (slots_below (record { slots = under; back = r.back } ∷ r.frames)))
    (Returns back (v ∷ []) (work r store under managers input)) Stuck begins
    (taken_lands classes code r store under callers managers input j rest target back v h.slots.1.0 round has (need v is).1 h.places.1)))))

-- the end of a method without a result
pub back-mirrors : (classes : List Class) (code : Code) (store : List Seen) (mf mg : Frame) (mfs : List Frame) (ws : List Window)
    (managers : List Manager) (made at : ℕ) (input : List ℕ) (f g : Body) (fs : List Body) (pws : List Opened) (output : List Val) (j : Item)
    (rest : List Item)
    → Mirrors classes code (work_of store (mf ∷ mg ∷ mfs) ws managers made at input).machine
    (state_of store (f ∷ g ∷ fs) pws managers made input output (Back ∷ j ∷ rest))
    → OpenedBelow (length (sizes_of (mg ∷ mfs))) pws
    → begins_by ws (slots_below (mg ∷ mfs)) ≡ true
    → owned_once (work_of store (mf ∷ mg ∷ mfs) ws managers made at input).machine ≡ true
    → SameMove classes code output (next classes (state_of store (f ∷ g ∷ fs) pws managers made input output (Back ∷ j ∷ rest)))
    (step code (work_of store (mf ∷ mg ∷ mfs) ws managers made at input))
back-mirrors classes code store mf mg mfs ws managers made at input f g fs pws output j rest h below begins ends =
    let w = work_of store (mf ∷ mg ∷ mfs) ws managers made at input in
    let x = work_of store (mg ∷ mfs) ws managers made at input in
    let levels = levels_of (mg ∷ mfs) (g ∷ fs) in
    let marked = mark-there code.ops at h.places.0 in
    let front : drop at code.ops ≡ i.Mark marked.0 ∷ (i.RetVoid ∷ drop (at + 1 + 1) code.ops) = marked.1
    ∙ ap (λ l. i.Mark marked.0 ∷ l) (drop-stands code.ops (at + 1) (i.RetVoid ∷ []) h.places.1) in
    let lands =
    ap (λ b. finished code marked.0 (if b then (if begins_by ws (slots_below (mg ∷ mfs)) then Returns mf.back [] x else Stuck) else Stuck))
    ends
    ∙ ap (λ b. finished code marked.0 (if b then Returns mf.back [] x else Stuck)) begins
    ∙ ap (landed code) (walk_to_items classes code levels j rest mf.back x h.places.3) in
    subst (λ t. SameMove classes code output (next classes (state_of store (f ∷ g ∷ fs) pws managers made input output (Back ∷ j ∷ rest))) t)
    (sym (ap (step_from code w) front ∙ lands))
    (comes classes code output mf.back x (state_of store (g ∷ fs) pws managers made input output (j ∷ rest)) (mirrors-work classes code output _ _ h.slots.1
    (windows_below (sizes_of (mg ∷ mfs)) (length mf.slots) ws pws below
    (subst (λ k. ShowsWindows k ws pws) (reverse-append (length mf.slots ∷ []) (map (λ (f : Frame). length f.slots) (mg ∷ mfs))) h.windows))
    h.places.3 refl refl refl refl refl))
