-- The statements `let x: T = r;`, `x = r;`, `q.f = r;` and `q[e] = r;` with a right side that makes no call.
use Rattle.std.proofs.Common.{◌≡◌, ℕ, ◌+◌, ◌<◌, true, false, Bool as Truth, if◌then◌else◌, List, [], ◌∷◌, ◌++◌, length, drop, Option, Some, None}
use Rattle.std.proofs.Common.{Result, Ok, Err, refl, sym, ap, subst, ◌∙◌, arith, append_assoc, length-append, slice_get, slice_set}
use Rattle.std.proofs.Common.{unwrap_or}
use Rattle.std.specs.Prelude.{not, nat_lt, nat_le, ok_or}
use Rattle.std.proofs.lemmas.Bool.{lt-ltb, and_from, not_from_false}
use Rattle.std.proofs.lemmas.List.{length-map, map-append, length-set}
use Rattle.rg_base.specs.declared.value.Val.{Val}
use Rattle.rg_base.specs.declared.value.Val.TheVariants as val
use Rattle.rg_base.specs.declared.object.Seen.{Seen}
use Rattle.rg_base.specs.declared.words.Manager.{Manager}
use Rattle.rg_base.specs.declared.outcome.Trap.{Trap}
use Rattle.rg_base.specs.declared.outcome.Trap.TheVariants as trap
use Rattle.rg_tree.specs.Tree.{Name, Ty as Written, Variable, Path, Expr, Right, stmt, StmtKind, declare, assign, assign_element, Class}
use Rattle.rg_rules.specs.Answers.{◌>>=◌, ◌>>◌}
use Rattle.rg_rules.specs.Capabilities.{is_iso}
use Rattle.rg_rules.specs.Types.{type_of, fields_of, field_place}
use Rattle.rg_rules.specs.Paths.{all_but_last, last_field}
use Rattle.rg_rules.specs.Items.{Item, Do}
use Rattle.rg_rules.specs.State.{Local, Target, Declares, Assigns, Drops, place_in, set_in, State, add_local, put_local}
use Rattle.rg_rules.specs.Values.{as_int}
use Rattle.rg_rules.specs.Evaluation.{object_at, place_among, element_place, with_element, with_field, path_value, value_of}
use Rattle.rg_rules.specs.RightSides.{with_right}
use Rattle.rg_rules.specs.Steps.{put_field, put_element as plain_put, next}
use Rattle.rg_rules.proofs.Step.{object_at-ok}
use Rattle.rg_code.specs.declared.op.Op.{Op}
use Rattle.rg_code.specs.declared.op.Op.TheVariants as i
use Rattle.rg_code.specs.Code.{Code}
use Rattle.rg_code.specs.Lowering.{Scope, with_slot, slot_of, type_in, path_code, expr_code, holder_code, held_number, right_code, pace_code}
use Rattle.rg_code.specs.Lowering.{assign_op}
use Rattle.rg_code.specs.Places.{scope_of, Level, Lies}
use Rattle.rg_stack.specs.Machine.{Machine, put_slot, slots_below}
use Rattle.rg_stack.specs.Effects.{Walked, Traps, Stuck, put_in, with_value_in, place_named, put_element}
use Rattle.rg_stack.specs.Tops.{Work}
use Rattle.rg_stack.specs.Needs.{needs, is_closed, may_keep}
use Rattle.rg_stack.specs.Places.{top_base}
use Rattle.rg_stack.specs.Given.{given_step as step, given_walk as walk}
use Rattle.rg_stack.proofs.Mirrors.{Mirrors}
use Rattle.rg_stack.specs.Shows.{levels_of}
use Rattle.rg_stack.proofs.Mirrors.{SameMove}
use Rattle.rg_stack.proofs.Walks.Walk.{FollowsPath, Agrees, walk-path, walk-expr, walk-bound}
use Rattle.rg_stack.proofs.Walks.Index.{named-place}
use Rattle.rg_stack.proofs.Walks.Place.{roomy-back}
use Rattle.rg_stack.proofs.Callers.Frame.{room_of, shows_next}
use Rattle.rg_stack.proofs.Walks.Slot.{ShowsSlots, Has, shows_put, slot_place, scope-length, scope_set}
use Rattle.rg_stack.proofs.Walks.End.{EndsAs, value_ends, object_ends, Round, work, state, level, RoundShows, Middle, Keeps, keeps_same, slots_hold}
use Rattle.rg_stack.proofs.Walks.End.{finish_at, statement_step}
use Rattle.rg_stack.proofs.Callers.Need.{given, nil-open, free_slot}
use Rattle.rg_stack.proofs.Needs.Keep.{keep-here}
use Rattle.rg_stack.proofs.Callers.Base.{if_ends}
use Rattle.rg_stack.proofs.Statements.Right.{Opens, RightOwes, RightNeeds, Gave, right_ends, walk-pace}
use Rattle.rg_stack.proofs.Basics.{and-left}

-- a state and a machine that shows it, in parts
pub round_of : (classes : List Class) (code : Code) (r : Round) (store : List Seen) (slots : List Val) (locals : List Local)
    (managers : List Manager) (input : List ℕ) (items : List Item)
    → Mirrors classes code (work r store slots managers input).machine (state r store locals managers input items) → RoundShows r (length slots)
round_of classes code r store slots locals managers input items h = record { frames = h.slots.1; windows = h.windows }

pub middle_of : (classes : List Class) (code : Code) (r : Round) (store : List Seen) (slots : List Val) (locals : List Local)
    (managers : List Manager) (input : List ℕ) (items : List Item)
    → Mirrors classes code (work r store slots managers input).machine (state r store locals managers input items)
    → Middle (scope_of locals) (length slots) store store slots locals
middle_of classes code r store slots locals managers input items h = record
    { shows = h.slots.0; size_is = refl; scope_is = refl; keeps = keeps_same store }

-- a value goes into a slot that is there, whether it owns or not
walk_assign_by : (t : Truth) (classes : List Class) (code : Code) (s : ℕ) (rest : List Op) (here : ℕ) (v : Val) (w : Work)
    → needs code (if t then i.Own s else i.Store s) (v ∷ []) w.machine ≡ true
    → walk code ((if t then i.Own s else i.Store s) ∷ rest) here 0 (v ∷ []) w
    ≡ walk code rest (here + 1) 0 [] (record w { machine = put_slot w.machine s v })
walk_assign_by true classes code s rest here v w need = given (needs code (i.Own s) (v ∷ []) w.machine) _ need
walk_assign_by false classes code s rest here v w need = given (needs code (i.Store s) (v ∷ []) w.machine) _ need

pub walk-assign : (classes : List Class) (code : Code) (scope : Scope) (x : Variable) (rest : List Op) (here : ℕ) (v : Val) (w : Work)
    → needs code (assign_op scope x) (v ∷ []) w.machine ≡ true
    → walk code (assign_op scope x ∷ rest) here 0 (v ∷ []) w
    ≡ walk code rest (here + 1) 0 [] (record w { machine = put_slot w.machine (slot_of scope x) v })
walk-assign classes code scope x rest here v w need = walk_assign_by (is_iso (type_in scope x)) classes code (slot_of scope x) rest here v w need

-- a variable is there in each middle of a step
pub has_still : (scope : Scope) (locals after : List Local) (x : Variable) → scope_of locals ≡ scope → scope_of after ≡ scope → Has locals x
    → Has after x
has_still scope locals after x a b h =
    let place : place_in after x ≡ place_in locals x = sym (slot_place after x) ∙ ap (λ s. slot_of s x) (b ∙ sym a) ∙ slot_place locals x in
    omega (arith, h, place, scope-length after locals (b ∙ sym a))

-- where a value leads to an object still, putting into its field is the same on both sides
put_in_object : (classes : List Class) (r : Round) (locals : List Local) (managers : List Manager) (input : List ℕ) (items : List Item)
    (store : List Seen) (a : ℕ) (q : Seen) (g : Name) (k : ℕ) (v : Val)
    → slice_get store a ≡ Some q → field_place (fields_of classes q.class) g ≡ Some k
    → put_field classes (val.Obj a) g (state r store locals managers input items) v
    ≡ state r (put_in store (val.Obj a) k v) locals managers input items
put_in_object classes r locals managers input items store a q g k v there place =
    ap (λ (o : Option Seen). elim o [
      | None ↦ state r store locals managers input items
      | Some o
          ↦ state r (slice_set store a (with_field classes g v o)) locals managers input items
    ]) there
    ∙ ap (λ (p : Option ℕ). state r (slice_set store a (elim p [ None ↦ q | Some n ↦ record q { fields = slice_set q.fields n v } ])) locals
    managers input items) place
    ∙ sym (ap (λ (o : Option Seen). state r (elim o [ None ↦ store | Some o ↦ slice_set store a (with_value_in o k v) ]) locals managers input
    items) there)

pub put_is : (classes : List Class) (r : Round) (locals : List Local) (managers : List Manager) (input : List ℕ) (items : List Item)
    (old store : List Seen) (u : Val) (o : Seen) (g : Name) (k : ℕ) (v : Val)
    → object_at old u ≡ Ok o → Keeps old store → field_place (fields_of classes o.class) g ≡ Some k
    → put_field classes u g (state r store locals managers input items) v ≡ state r (put_in store u k v) locals managers input items
put_is classes r locals managers input items old store val.Nil o g k v is keeps place = refl
put_is classes r locals managers input items old store (val.Int z) o g k v is keeps place = refl
put_is classes r locals managers input items old store (val.Bool b) o g k v is keeps place = refl
put_is classes r locals managers input items old store (val.Obj a) o g k v is keeps place =
    let leads = object_at-ok old (val.Obj a) o is in
    let same : leads.address ≡ a = ap (λ u. elim u [ val.Nil ↦ a | val.Int z ↦ a | val.Bool b ↦ a | val.Obj n ↦ n ]) (sym leads.value) in
    let q = keeps a o (ap (slice_get old) (sym same) ∙ leads.there) in
    put_in_object classes r locals managers input items store a q.0 g k v q.1 (ap (λ c. field_place (fields_of classes c) g) q.2 ∙ place)

-- a test of an object in front of the rest
pub tested_ends : (classes : List Class) (code : Code) (before : List Val) (r : Result Seen Trap) (k : Result State Trap) (go : Walked)
    → ((o : Seen) → r ≡ Ok o → EndsAs classes code before k go) → EndsAs classes code before (◌>>◌ r k) (elim r [ Ok o ↦ go | Err t ↦ Traps t ])
tested_ends classes code before (Ok o) k go h = h o refl
tested_ends classes code before (Err t) k go h = refl

-- what the invariant and the rules give of the object that has a field: its class has the field where the declared types say
abbrev pub HolderOwes : List Class → List Seen → List Local → Scope → Variable → (f : Name) (fs : List Name) → Type 0
HolderOwes classes store locals scope x f fs = (u : Val) (o : Seen)
    → path_value classes store locals (record { base = x; fields = all_but_last f fs }) ≡ Ok u → object_at store u ≡ Ok o
    → field_place (fields_of classes o.class) (last_field f fs) ≡ Some (held_number classes scope x f fs)

-- the same of an element: the array has as many still
element_in_object : (r : Round) (locals : List Local) (managers : List Manager) (input : List ℕ) (items : List Item)
    (store : List Seen) (a : ℕ) (o q : Seen) (x : Val) (k : ℕ) (v : Val)
    → slice_get store a ≡ Some q → length q.fields ≡ length o.fields → element_place o x ≡ Ok k
    → plain_put (val.Obj a) k (state r store locals managers input items) v ≡ state r (put_element store (val.Obj a) x v) locals managers input items
element_in_object r locals managers input items store a o q x k v there long place =
    let named : place_named q x ≡ k = ap (λ n. unwrap_or (place_among n (as_int x)) n) long ∙ named-place o x k place in
    ap (λ (o : Option Seen). elim o [
      | None ↦ state r store locals managers input items
      | Some o
          ↦ state r (slice_set store a (with_element k v o)) locals managers input items
    ]) there
    ∙ sym (ap (λ (o : Option Seen). state r (elim (ok_or o trap.Nil) [
      | Ok o ↦ put_in store (val.Obj a) (place_named o x) v
      | Err t ↦ store
    ]) locals managers input items) there
    ∙ ap (λ n. state r (put_in store (val.Obj a) n v) locals managers input items) named
    ∙ ap (λ (o : Option Seen). state r (elim o [ None ↦ store | Some o ↦ slice_set store a (with_value_in o k v) ]) locals managers input items)
    there)

pub put_element_is : (r : Round) (locals : List Local) (managers : List Manager) (input : List ℕ) (items : List Item)
    (old store : List Seen) (u x : Val) (o : Seen) (k : ℕ) (v : Val)
    → object_at old u ≡ Ok o → Keeps old store → element_place o x ≡ Ok k
    → plain_put u k (state r store locals managers input items) v ≡ state r (put_element store u x v) locals managers input items
put_element_is r locals managers input items old store val.Nil x o k v is keeps place = refl
put_element_is r locals managers input items old store (val.Int z) x o k v is keeps place = refl
put_element_is r locals managers input items old store (val.Bool b) x o k v is keeps place = refl
put_element_is r locals managers input items old store (val.Obj a) x o k v is keeps place =
    let leads = object_at-ok old (val.Obj a) o is in
    let same : leads.address ≡ a = ap (λ u. elim u [ val.Nil ↦ a | val.Int z ↦ a | val.Bool b ↦ a | val.Obj n ↦ n ]) (sym leads.value) in
    let q = keeps a o (ap (slice_get old) (sym same) ∙ leads.there) in
    element_in_object r locals managers input items store a o q.0 x k v q.1 q.3 place

flat_element : (p e o q t : List Op) (a b c : Op)
    → ((p ++ a ∷ []) ++ ((e ++ b ∷ []) ++ (o ++ c ∷ q))) ++ t ≡ p ++ (a ∷ (e ++ (b ∷ (o ++ (c ∷ (q ++ t))))))
flat_element p e o q t a b c = simp append_assoc

flat_put : (p e q t : List Op) (a b : Op) → ((p ++ a ∷ []) ++ (e ++ b ∷ q)) ++ t ≡ p ++ (a ∷ (e ++ (b ∷ (q ++ t))))
flat_put p e q t a b = simp append_assoc

module _ (classes : List Class) (code : Code) (r : Round) (store : List Seen) (slots : List Val) (locals : List Local) (managers : List Manager)
    (input : List ℕ) (line : ℕ) (j : Item) (rest : List Item) where
  abbrev scope : Scope
  scope = scope_of locals

  abbrev levels : List Level
  levels = levels_of r.frames r.bodies

  abbrev Showing : StmtKind → Type 0
  Showing k = Mirrors classes code (work r store slots managers input).machine (state r store locals managers input (Do (stmt line k) ∷ j ∷ rest))

  abbrev Simulated : StmtKind → Type 0
  Simulated k = SameMove classes code r.output (next classes (state r store locals managers input (Do (stmt line k) ∷ j ∷ rest)))
      (step code (work r store slots managers input))

  -- each value that a right side gives may be taken, in the middle of the step
  abbrev pub Takes : Target → Right → (Val → Machine → Type 0) → Type 0
  Takes target right may = (now : List Seen) (after_slots : List Val) (after : List Local) (made : List Manager) (left : List ℕ) (v : Val)
      → Middle (scope_of locals) (length slots) store now after_slots after
      → Gave classes r (j ∷ rest) store locals managers input target right now after made left v
      → may v (work r now after_slots made left).machine

  -- `let x: T = r;`
  pub declare-mirrors : (x : Name) (t : Written) (right : Right) → Showing (declare x t right) → Opens classes code
      → RightOwes classes store r.windows locals (scope_of locals) right
      → RightNeeds classes code r (scope_of locals) store slots locals managers input [] right
      → nat_le (top_base r.windows) (slots_below r.frames + length locals) ≡ true → Simulated (declare x t right)
  declare-mirrors x t right h opens owes need base =
      let ty = type_of classes t in
      let size = length slots in
      let ops = right_code classes scope (r.at + 1) right in
      let k = length scope in
      let pace = pace_code right in
      let more = ops ++ (i.Store k ∷ pace) in
      let end = r.at + length (i.Mark line ∷ more) in
      let tail = drop end code.ops in
      let round = round_of classes code r store slots locals managers input (Do (stmt line (declare x t right)) ∷ j ∷ rest) h in
      let middle = middle_of classes code r store slots locals managers input (Do (stmt line (declare x t right)) ∷ j ∷ rest) h in
      let is : k ≡ length locals = length-map locals (λ (l : Local). record { name = l.name; ty = l.ty }) in
      let named = and-left _ _ (roomy-back size (i.Mark line ∷ ops) (i.Store k ∷ pace) h.places.0.1) in
      let room : length locals < size = room_of size k (length locals) is named in
      let begins = subst (λ n. nat_le (top_base r.windows) (slots_below r.frames + n) ≡ true) (sym is) base in
      let there : r.at + 1 + length ops + 1 + length pace ≡ end = omega (arith, length-append ops (i.Store k ∷ pace)) in
      let ends = right_ends classes code r scope size store (j ∷ rest) (Declares x ty) (add_local (Some x) ty) right (i.Store k ∷ (pace ++ tail))
      (r.at + 1) [] store slots locals managers input round opens middle owes need
      (λ store slots locals managers input v m gave.
      let l : Local = record { name = Some x; ty = ty; value = v } in
      let many : k ≡ length locals = ap length (sym m.scope_is) ∙ length-map locals (λ (l : Local). record { name = l.name; ty = l.ty }) in
      let less : length locals < length slots = omega (arith, room, is, many, m.size_is) in
      let names : with_slot scope (Some x) ty ≡ scope_of (locals ++ l ∷ []) = ap (λ s. with_slot s (Some x) ty) (sym m.scope_is)
      ∙ sym (map-append (λ (l : Local). record { name = l.name; ty = l.ty }) locals (l ∷ [])) in
      let free = nil-open (work r store slots managers input).machine (unwrap_or (slice_get slots k) val.Nil)
      (ap (λ n. unwrap_or (slice_get slots n) val.Nil) many ∙ free_slot slots locals m.shows) in
      let room : k < length slots = omega (arith, many, less) in
      let keeps = keep-here (work r store slots managers input).machine k v begins in
      if_ends classes code r.output (Ok (state r store (locals ++ l ∷ []) managers input (j ∷ rest)))
      (needs code (i.Store k) (v ∷ []) (work r store slots managers input).machine)
      (walk code (pace ++ tail) (r.at + 1 + length ops + 1) 0 [] (work r store (slice_set slots k v) managers input)) Stuck
      (and_from _ (may_keep (work r store slots managers input).machine k v)
      (and_from (nat_lt k (length slots)) (not (is_closed (work r store slots managers input).machine (unwrap_or (slice_get slots k) val.Nil)))
      (lt-ltb k (length slots) room) (not_from_false _ free)) keeps)
      (subst (λ y. EndsAs classes code r.output (Ok (state r store (locals ++ l ∷ []) managers input (j ∷ rest))) y)
      (sym (walk-pace classes code right tail (r.at + 1 + length ops + 1) (work r store (slice_set slots k v) managers input)))
      (finish_at classes code r store (slice_set slots k v) (locals ++ l ∷ []) managers input j rest size end
      (r.at + 1 + length ops + 1 + length pace) there
      (subst (λ n. ShowsSlots (slice_set slots n v) (locals ++ l ∷ [])) (sym many) (shows_next slots locals l m.shows less))
      (length-set slots k v ∙ m.size_is) round
      (subst (λ s. Lies classes code.ops (level r s size ∷ levels) (j ∷ rest) end) names h.places.1)))) in
      statement_step classes code r store slots locals managers input line (declare x t right) more (j ∷ rest) h.places.0.0
      (subst (λ l. EndsAs classes code r.output (with_right classes (state r store locals managers input (j ∷ rest)) (Declares x ty)
      (add_local (Some x) ty) right) (walk code l (r.at + 1) 0 [] (work r store slots managers input)))
      (sym (append_assoc ops (i.Store k ∷ pace) tail)) ends)

  -- `x = r;`
  pub assign-mirrors : (x : Variable) (right : Right) → Showing (assign (record { base = x; fields = [] }) right) → Opens classes code
      → RightOwes classes store r.windows locals (scope_of locals) right → Has locals x
      → RightNeeds classes code r (scope_of locals) store slots locals managers input [] right
      → Takes (Assigns x) right (λ v m. needs code (assign_op (scope_of locals) x) (v ∷ []) m ≡ true)
      → Simulated (assign (record { base = x; fields = [] }) right)
  assign-mirrors x right h opens owes has need takes =
      let size = length slots in
      let ops = right_code classes scope (r.at + 1) right in
      let o = assign_op scope x in
      let k = slot_of scope x in
      let pace = pace_code right in
      let more = ops ++ (o ∷ pace) in
      let end = r.at + length (i.Mark line ∷ more) in
      let tail = drop end code.ops in
      let round = round_of classes code r store slots locals managers input
      (Do (stmt line (assign (record { base = x; fields = [] }) right)) ∷ j ∷ rest) h in
      let middle = middle_of classes code r store slots locals managers input
      (Do (stmt line (assign (record { base = x; fields = [] }) right)) ∷ j ∷ rest) h in
      let there : r.at + 1 + length ops + 1 + length pace ≡ end = omega (arith, length-append ops (o ∷ pace)) in
      let ends = right_ends classes code r scope size store (j ∷ rest) (Assigns x) (put_local x) right (o ∷ (pace ++ tail)) (r.at + 1) [] store
      slots locals managers input round opens middle owes need
      (λ now slots after made left v m gave.
      let place : k ≡ place_in after x = ap (λ s. slot_of s x) (sym m.scope_is) ∙ slot_place after x in
      let names : scope ≡ scope_of (set_in x v after) = sym (scope_set x v after ∙ m.scope_is) in
      subst (λ y. EndsAs classes code r.output (Ok (state r now (set_in x v after) made left (j ∷ rest))) y)
      (sym (walk-assign classes code scope x (pace ++ tail) (r.at + 1 + length ops) v (work r now slots made left)
      (takes now slots after made left v m gave)
      ∙ walk-pace classes code right tail (r.at + 1 + length ops + 1) (work r now (slice_set slots k v) made left)))
      (finish_at classes code r now (slice_set slots k v) (set_in x v after) made left j rest size end
      (r.at + 1 + length ops + 1 + length pace) there
      (subst (λ n. ShowsSlots (slice_set slots n v) (set_in x v after)) (sym place)
      (shows_put slots after x v m.shows (has_still scope locals after x refl m.scope_is has)))
      (length-set slots k v ∙ m.size_is) round
      (subst (λ s. Lies classes code.ops (level r s size ∷ levels) (j ∷ rest) end) names h.places.1))) in
      statement_step classes code r store slots locals managers input line (assign (record { base = x; fields = [] }) right) more (j ∷ rest)
      h.places.0.0
      (subst (λ l. EndsAs classes code r.output (with_right classes (state r store locals managers input (j ∷ rest)) (Assigns x) (put_local x)
      right) (walk code l (r.at + 1) 0 [] (work r store slots managers input))) (sym (append_assoc ops (o ∷ pace) tail)) ends)

  -- `q.f = r;`
  pub put-mirrors : (x : Variable) (f : Name) (fs : List Name) (right : Right) → Showing (assign (record { base = x; fields = f ∷ fs }) right)
      → Opens classes code → RightOwes classes store r.windows locals (scope_of locals) right
      → FollowsPath classes store r.windows locals (scope_of locals) (record { base = x; fields = all_but_last f fs })
      → HolderOwes classes store locals (scope_of locals) x f fs
      → ((u : Val) (o : Seen) → path_value classes store locals (record { base = x; fields = all_but_last f fs }) ≡ Ok u → object_at store u ≡ Ok o
      → RightNeeds classes code r (scope_of locals) store slots locals managers input (u ∷ []) right
      × Takes Drops right (λ v m. needs code (i.Put (held_number classes (scope_of locals) x f fs)) (v ∷ u ∷ []) m ≡ true))
      → Simulated (assign (record { base = x; fields = f ∷ fs }) right)
  put-mirrors x f fs right h opens owes follows holds need =
      let size = length slots in
      let q : Path = record { base = x; fields = all_but_last f fs } in
      let path = holder_code classes scope x f fs in
      let holder = path ++ i.Check ∷ [] in
      let here = r.at + 1 + length holder in
      let ops = right_code classes scope here right in
      let k = held_number classes scope x f fs in
      let g = last_field f fs in
      let pace = pace_code right in
      let behind = ops ++ (i.Put k ∷ pace) in
      let more = holder ++ behind in
      let end = r.at + length (i.Mark line ∷ more) in
      let tail = drop end code.ops in
      let item = Do (stmt line (assign (record { base = x; fields = f ∷ fs }) right)) in
      let round = round_of classes code r store slots locals managers input (item ∷ j ∷ rest) h in
      let middle = middle_of classes code r store slots locals managers input (item ∷ j ∷ rest) h in
      let there : here + length ops + 1 + length pace ≡ end = omega (arith, length-append holder behind, length-append ops (i.Put k ∷ pace)) in
      let begins : r.at + 1 + length path + 1 ≡ here = omega (arith, length-append path (i.Check ∷ [])) in
      let flat : more ++ tail ≡ path ++ (i.Check ∷ (ops ++ (i.Put k ∷ (pace ++ tail)))) = flat_put path ops pace tail i.Check (i.Put k) in
      let inner : (u : Val) (o : Seen) → path_value classes store locals q ≡ Ok u → object_at store u ≡ Ok o
      → EndsAs classes code r.output (with_right classes (state r store locals managers input (j ∷ rest)) Drops (put_field classes u g) right)
      (walk code (ops ++ (i.Put k ∷ (pace ++ tail))) (r.at + 1 + length path + 1) 0 (u ∷ []) (work r store slots managers input)) =
      λ u o led is.
      subst (λ n. EndsAs classes code r.output (with_right classes (state r store locals managers input (j ∷ rest)) Drops (put_field classes u g)
      right) (walk code (ops ++ (i.Put k ∷ (pace ++ tail))) n 0 (u ∷ []) (work r store slots managers input))) (sym begins)
      (right_ends classes code r scope size store (j ∷ rest) Drops (put_field classes u g) right (i.Put k ∷ (pace ++ tail)) here (u ∷ []) store
      slots locals managers input round opens middle owes (need u o led is).0
      (λ now slots after managers input v m gave.
      if_ends classes code r.output (Ok (put_field classes u g (state r now after managers input (j ∷ rest)) v))
      (needs code (i.Put k) (v ∷ u ∷ []) (work r now slots managers input).machine)
      (walk code (pace ++ tail) (here + length ops + 1) 0 [] (work r (put_in now u k v) slots managers input)) Stuck
      ((need u o led is).1 now slots after managers input v m gave)
      (subst (λ s. EndsAs classes code r.output (Ok s) (walk code (pace ++ tail) (here + length ops + 1) 0 []
      (work r (put_in now u k v) slots managers input)))
      (sym (put_is classes r after managers input (j ∷ rest) store now u o g k v is m.keeps (holds u o led is)))
      (subst (λ y. EndsAs classes code r.output (Ok (state r (put_in now u k v) after managers input (j ∷ rest))) y)
      (sym (walk-pace classes code right tail (here + length ops + 1) (work r (put_in now u k v) slots managers input)))
      (finish_at classes code r (put_in now u k v) slots after managers input j rest size end (here + length ops + 1 + length pace) there m.shows
      m.size_is round
      (subst (λ s. Lies classes code.ops (level r s size ∷ levels) (j ∷ rest) end) (sym m.scope_is) h.places.1)))))) in
      statement_step classes code r store slots locals managers input line (assign (record { base = x; fields = f ∷ fs }) right) more (j ∷ rest)
      h.places.0.0
      (subst (λ y. EndsAs classes code r.output (◌>>=◌ (path_value classes store locals q)
      (λ u. ◌>>◌ (object_at store u) (with_right classes (state r store locals managers input (j ∷ rest)) Drops (put_field classes u g) right)))
      y)
      (sym (ap (λ l. walk code l (r.at + 1) 0 [] (work r store slots managers input)) flat
      ∙ walk-path classes code q locals scope (r.at + 1) (i.Check ∷ (ops ++ (i.Put k ∷ (pace ++ tail)))) [] (work r store slots managers input)
      (slots_hold scope slots locals h.slots.0 refl) follows))
      (value_ends classes code r.output (path_value classes store locals q) _ _
      (λ u led. tested_ends classes code r.output (object_at store u) _ _ (λ o is. inner u o led is))))

  -- `q[e] = r;`
  pub element-mirrors : (q : Path) (e : Expr) (right : Right) → Showing (assign_element q e right) → Opens classes code
      → RightOwes classes store r.windows locals (scope_of locals) right → FollowsPath classes store r.windows locals (scope_of locals) q
      → Agrees classes store r.windows locals (scope_of locals) e
      → ((u x : Val) (o : Seen) (k : ℕ) → path_value classes store locals q ≡ Ok u → object_at store u ≡ Ok o
      → value_of classes store locals e ≡ Ok x → element_place o x ≡ Ok k
      → RightNeeds classes code r (scope_of locals) store slots locals managers input (x ∷ u ∷ []) right
      × Takes Drops right (λ v m. needs code i.PutElement (v ∷ x ∷ u ∷ []) m ≡ true))
      → Simulated (assign_element q e right)
  element-mirrors q e right h opens owes follows agrees need =
      let size = length slots in
      let path = path_code classes scope q.base q.fields in
      let array = path ++ i.Check ∷ [] in
      let inside = r.at + 1 + length array in
      let expr = expr_code classes scope inside e in
      let index = expr ++ i.Bound ∷ [] in
      let here = inside + length index in
      let ops = right_code classes scope here right in
      let pace = pace_code right in
      let behind = ops ++ (i.PutElement ∷ pace) in
      let more = array ++ (index ++ behind) in
      let end = r.at + length (i.Mark line ∷ more) in
      let tail = drop end code.ops in
      let last = ops ++ (i.PutElement ∷ (pace ++ tail)) in
      let item = Do (stmt line (assign_element q e right)) in
      let s = state r store locals managers input (j ∷ rest) in
      let w = work r store slots managers input in
      let round = round_of classes code r store slots locals managers input (item ∷ j ∷ rest) h in
      let middle = middle_of classes code r store slots locals managers input (item ∷ j ∷ rest) h in
      let there : here + length ops + 1 + length pace ≡ end =
      omega (arith, length-append array (index ++ behind), length-append index behind, length-append ops (i.PutElement ∷ pace)) in
      let begins : r.at + 1 + length path + 1 ≡ inside = omega (arith, length-append path (i.Check ∷ [])) in
      let tested : inside + length expr + 1 ≡ here = omega (arith, length-append expr (i.Bound ∷ [])) in
      let put = λ (u : Val) (k : ℕ). with_right classes s Drops (plain_put u k) right in
      let indexed = λ (u : Val) (o : Seen) (x : Val). ◌>>=◌ (element_place o x) (put u) in
      let held = λ (u : Val) (o : Seen). ◌>>=◌ (value_of classes store locals e) (indexed u o) in
      let led_to = λ (u : Val). ◌>>=◌ (object_at store u) (held u) in
      let inner : (u x : Val) (o : Seen) (k : ℕ) → path_value classes store locals q ≡ Ok u → object_at store u ≡ Ok o
      → value_of classes store locals e ≡ Ok x → element_place o x ≡ Ok k
      → EndsAs classes code r.output (put u k) (walk code last (inside + length expr + 1) 0 (x ∷ u ∷ []) w) =
      λ u x o k led is got place.
      subst (λ n. EndsAs classes code r.output (put u k) (walk code last n 0 (x ∷ u ∷ []) w)) (sym tested)
      (right_ends classes code r scope size store (j ∷ rest) Drops (plain_put u k) right (i.PutElement ∷ (pace ++ tail)) here (x ∷ u ∷ []) store
      slots locals managers input round opens middle owes (need u x o k led is got place).0
      (λ now slots after managers input v m gave.
      if_ends classes code r.output (Ok (plain_put u k (state r now after managers input (j ∷ rest)) v))
      (needs code i.PutElement (v ∷ x ∷ u ∷ []) (work r now slots managers input).machine)
      (walk code (pace ++ tail) (here + length ops + 1) 0 [] (work r (put_element now u x v) slots managers input)) Stuck
      ((need u x o k led is got place).1 now slots after managers input v m gave)
      (subst (λ s. EndsAs classes code r.output (Ok s) (walk code (pace ++ tail) (here + length ops + 1) 0 []
      (work r (put_element now u x v) slots managers input)))
      (sym (put_element_is r after managers input (j ∷ rest) store now u x o k v is m.keeps place))
      (subst (λ y. EndsAs classes code r.output (Ok (state r (put_element now u x v) after managers input (j ∷ rest))) y)
      (sym (walk-pace classes code right tail (here + length ops + 1) (work r (put_element now u x v) slots managers input)))
      (finish_at classes code r (put_element now u x v) slots after managers input j rest size end (here + length ops + 1 + length pace) there
      m.shows m.size_is round
      (subst (λ s. Lies classes code.ops (level r s size ∷ levels) (j ∷ rest) end) (sym m.scope_is) h.places.1)))))) in
      statement_step classes code r store slots locals managers input line (assign_element q e right) more (j ∷ rest) h.places.0.0
      (subst (λ y. EndsAs classes code r.output (◌>>=◌ (path_value classes store locals q) led_to) y)
      (sym (ap (λ l. walk code l (r.at + 1) 0 [] w) (flat_element path expr ops pace tail i.Check i.Bound i.PutElement)
      ∙ walk-path classes code q locals scope (r.at + 1) (i.Check ∷ (expr ++ (i.Bound ∷ last))) [] w
      (slots_hold scope slots locals h.slots.0 refl) follows))
      (value_ends classes code r.output (path_value classes store locals q) led_to
      (λ u. walk code (i.Check ∷ (expr ++ (i.Bound ∷ last))) (r.at + 1 + length path) 0 (u ∷ []) w) (λ u led.
      object_ends classes code r.output (object_at store u) (held u)
      (λ o. walk code (expr ++ (i.Bound ∷ last)) (r.at + 1 + length path + 1) 0 (u ∷ []) w) (λ o is.
      subst (λ n. EndsAs classes code r.output (held u o) (walk code (expr ++ (i.Bound ∷ last)) n 0 (u ∷ []) w)) (sym begins)
      (subst (λ y. EndsAs classes code r.output (held u o) y)
      (sym (walk-expr classes code e locals scope inside (i.Bound ∷ last) (u ∷ []) w (slots_hold scope slots locals h.slots.0 refl) agrees))
      (value_ends classes code r.output (value_of classes store locals e) (indexed u o)
      (λ x. walk code (i.Bound ∷ last) (inside + length expr) 0 (x ∷ u ∷ []) w) (λ x got.
      subst (λ y. EndsAs classes code r.output (indexed u o x) y)
      (sym (walk-bound classes code u x o (inside + length expr) last [] w is))
      (object_ends classes code r.output (element_place o x) (put u)
      (λ k. walk code last (inside + length expr + 1) 0 (x ∷ u ∷ []) w) (λ k place. inner u x o k led is got place)))))))))
