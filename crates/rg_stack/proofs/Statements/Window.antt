-- `swap y, q.f;`, `enter x as z { .. }`, `enter q.f as z { .. }` and the end of such a block.
use Rattle.std.proofs.Common.{◌≡◌, ℕ, ◌+◌, ◌<◌, true, false, true≢false, Bool as Truth, List, [], ◌∷◌, ◌++◌, length, take, drop, Option, Some, None}
use Rattle.std.proofs.Common.{Result}
use Rattle.std.proofs.Common.{if◌then◌else◌, Ok, Err, refl, sym, ap, subst, ◌∙◌, arith, append_assoc, length-append, slice_get, slice_set, unwrap_or}
use Rattle.std.proofs.lemmas.List.{length-map, map-append, length-set, take-map}
use Rattle.std.proofs.Math.Seq.{take-append_seam}
use Rattle.std.proofs.lemmas.Bool.{ltb-false}
use Rattle.std.specs.Prelude.{not, nat_lt, max}
use Rattle.rg_base.specs.declared.words.Cap.TheVariants.{Mut}
use Rattle.rg_base.specs.declared.ty.Ty.TheVariants.{Ref}
use Rattle.rg_base.specs.declared.value.Val.{Val}
use Rattle.rg_base.specs.declared.value.Val.TheVariants as val
use Rattle.rg_base.specs.declared.object.Seen.{Seen}
use Rattle.rg_base.specs.declared.object.Place.{Place}
use Rattle.rg_base.specs.declared.object.Place.TheVariants as place
use Rattle.rg_base.specs.declared.words.Manager.{Manager}
use Rattle.rg_base.specs.declared.outcome.Trap.{Trap}
use Rattle.rg_tree.specs.Tree.{Name, Variable, Path, stmt, StmtKind, swap, enter, Block, Class}
use Rattle.rg_rules.specs.Answers.{◌>>=◌, ◌>>◌}
use Rattle.rg_rules.specs.Types.{fields_of, field_place}
use Rattle.rg_rules.specs.Paths.{all_but_last, last_field}
use Rattle.rg_rules.specs.Items.{Item, Do, LeaveAt, LeaveGiving, leave_of, items_of}
use Rattle.rg_rules.specs.State.{Local, value_in, place_in, set_in, set_at, set_in_frame, Frame as Body, Window as Opened, put_local}
use Rattle.rg_rules.specs.Regions.{region_of, address}
use Rattle.rg_rules.specs.Evaluation.{object_at, with_element, field_value, path_value}
use Rattle.rg_rules.specs.Steps.{Went, stepped, next, put_field, put_at as plain_put_at, with_window, entered as plain_entered, field_at}
use Rattle.rg_code.specs.declared.op.Op.{Op}
use Rattle.rg_code.specs.declared.op.Op.TheVariants as i
use Rattle.rg_code.specs.Code.{Code}
use Rattle.rg_code.specs.Lowering.{scope_at_end, leave_op, Slot, Scope, slot_of, type_in, type_along, class_of, holder_code, held_number}
use Rattle.rg_code.specs.Lowering.{scope_inside, enter_code}
use Rattle.rg_code.specs.Lowering.{kind_code, block_code}
use Rattle.rg_code.specs.Places.{Stands, StandsIn, is_mark, roomy, scope_of, Level, Lies}
use Rattle.rg_stack.specs.Machine.{Frame, Window, put_in_frame, slots_below, ended_slots}
use Rattle.rg_stack.specs.Needs.{needs}
use Rattle.rg_stack.specs.Effects.{opens_at, begins_by, Walked, Stops, Traps, Stuck, put_in, with_value_in, put_at, address as slot_address}
use Rattle.rg_stack.specs.Tops.{entered}
use Rattle.rg_stack.specs.Given.{given_step as step, given_step_from as step_from, given_walk as walk}
use Rattle.rg_stack.proofs.Mirrors.{Mirrors}
use Rattle.rg_stack.specs.Shows.{levels_of}
use Rattle.rg_stack.proofs.Mirrors.{SameMove}
use Rattle.rg_stack.proofs.Walks.Walk.{FollowsPath, walk-path}
use Rattle.rg_stack.proofs.Callers.Mark.{drop-stands, mark-there, walk_at_mark}
use Rattle.rg_stack.proofs.Walks.Place.{roomy-back, front_in, back_in, get-stands, stands-back, block_starts, extends}
use Rattle.rg_stack.proofs.Walks.Place.{AllGoOn, lies_block}
use Rattle.rg_stack.proofs.Callers.Frame.{room_of, shows_next}
use Rattle.rg_stack.proofs.Walks.Slot.{ShowsSlots, Has, shows_put, shows_set, scope_set_at, slot_place, scope_set}
use Rattle.rg_stack.proofs.Walks.End.{EndsAs, ended, value_ends, object_ends, Round, work, state, level, RoundShows, keeps_same, slots_hold}
use Rattle.rg_stack.proofs.Walks.End.{finish, finish_at, statement_step}
use Rattle.rg_stack.proofs.Callers.Need.{given, same}
use Rattle.rg_stack.proofs.Callers.Base.{as_many, base_is, opens_ends, if_ends}
use Rattle.rg_stack.proofs.Statements.Assign.{round_of, put_is, tested_ends, HolderOwes}
use Rattle.rg_stack.proofs.Statements.Block.{shows_ended, ended-length}
use Rattle.rg_stack.proofs.Basics.{and-left}

-- an object that was there is there, where the instruction behind its test is given what it needs
abbrev on_result : Result Seen Trap → (Seen → Walked) → Walked
on_result r go = elim r [ Ok o ↦ go o | Err t ↦ Traps t ]

doubled : (r : Result Seen Trap) (t : Truth) (go : Seen → Walked) → t ≡ true
    → on_result r (λ o. if t then on_result r go else Stuck) ≡ on_result r go
doubled (Ok o) t go e = given t (go o) e
doubled (Err k) t go e = refl

flat_two : (p t : List Op) (a b : Op) → (p ++ (a ∷ b ∷ [])) ++ t ≡ p ++ (a ∷ b ∷ t)
flat_two p t a b = simp append_assoc

flat_one : (p t : List Op) (a : Op) → (p ++ (a ∷ [])) ++ t ≡ p ++ (a ∷ t)
flat_one p t a = simp append_assoc

flat_enter : (f b t : List Op) (a c : Op) → (f ++ (b ++ (a ∷ c ∷ []))) ++ t ≡ f ++ (b ++ (a ∷ c ∷ t))
flat_enter f b t a c = simp append_assoc

-- the second of the slots that `enter` names is there
room_most_by : (slots s n k : ℕ) → n ≡ k → (t : Truth) → nat_lt slots (max (s + 1) (n + 1)) ≡ t → not t ≡ true → k < slots
room_most_by slots s n k is true e h = absurd (true≢false (sym h))
room_most_by slots s n k is false e h = let most = ltb-false slots (max (s + 1) (n + 1)) e in omega (arith, is, most)

room_most : (slots s n k : ℕ) → n ≡ k → not (nat_lt slots (max (s + 1) (n + 1))) ≡ true → k < slots
room_most slots s n k is h = room_most_by slots s n k is (nat_lt slots (max (s + 1) (n + 1))) refl h

-- the address of what an object lies at
same_address : (u : Val) → unwrap_or (address u) 0 ≡ slot_address u
same_address val.Nil = refl
same_address (val.Int z) = refl
same_address (val.Bool b) = refl
same_address (val.Obj a) = refl

-- where the end of the block of an `enter` stands
leave_end : (classes : List Class) (code : List Op) (l : Level) (ls : List Level) (b : Block) (scope : Scope) (x : Slot) (here line : ℕ)
    (giving : Option Name) (after : List Item)
    → StandsIn code l here (i.Mark line ∷ leave_op (scope_at_end classes (scope ++ x ∷ []) b) (length scope) giving ∷ [])
    → Lies classes code (record l { scope = scope } ∷ ls) after (here + 2)
    → Lies classes code (record l { scope = scope_at_end classes (scope ++ x ∷ []) b } ∷ ls) (leave_of line (length scope) giving ∷ after) here
leave_end classes code l ls b scope x here line giving after h lies =
    let more = extends classes b (scope ++ x ∷ []) in
    let kept : take (length scope) (scope_at_end classes (scope ++ x ∷ []) b) ≡ scope =
    ap (take (length scope)) (more.1 ∙ append_assoc scope (x ∷ []) more.0) ∙ take-append_seam scope (x ∷ more.0) in
    by giving h.0 (subst (λ s. Lies classes code (record l { scope = s } ∷ ls) after (here + 2)) (sym kept) lies)
  where
    by : (giving : Option Name)
        → Stands code here (i.Mark line ∷ leave_op (scope_at_end classes (scope ++ x ∷ []) b) (length scope) giving ∷ [])
        → Lies classes code (record l { scope = take (length scope) (scope_at_end classes (scope ++ x ∷ []) b) } ∷ ls) after (here + 2)
        → Lies classes code (record l { scope = scope_at_end classes (scope ++ x ∷ []) b } ∷ ls) (leave_of line (length scope) giving ∷ after) here
    by None stands lies = (
      ap is_mark (get-stands code here (i.Mark line) _ stands),
      stands-back code here (i.Mark line ∷ []) (i.Leave (length scope) ∷ []) stands,
      lies,
    )
    by (Some w) stands lies = (stands, lies)

module _ (classes : List Class) (code : Code) (r : Round) (store : List Seen) (slots : List Val) (locals : List Local) (managers : List Manager)
    (input : List ℕ) (line : ℕ) (j : Item) (rest : List Item) where
  abbrev scope : Scope
  scope = scope_of locals

  abbrev levels : List Level
  levels = levels_of r.frames r.bodies

  abbrev top : Level
  top = level r (scope_of locals) (length slots)

  abbrev Showing : StmtKind → Type 0
  Showing k = Mirrors classes code (work r store slots managers input).machine (state r store locals managers input (Do (stmt line k) ∷ j ∷ rest))

  abbrev Simulated : StmtKind → Type 0
  Simulated k = SameMove classes code r.output (next classes (state r store locals managers input (Do (stmt line k) ∷ j ∷ rest)))
      (step code (work r store slots managers input))

  -- `swap y, q.f;`
  pub swap-mirrors : (y : Name) (x : Variable) (f : Name) (fs : List Name) → Showing (swap y (record { base = x; fields = f ∷ fs }))
      → Has locals (Some y)
      → FollowsPath classes store r.windows locals (scope_of locals) (record { base = x; fields = all_but_last f fs })
      → HolderOwes classes store locals (scope_of locals) x f fs
      → ((u : Val) → path_value classes store locals (record { base = x; fields = all_but_last f fs }) ≡ Ok u
      → needs code (i.Swap (slot_of (scope_of locals) (Some y)) (held_number classes (scope_of locals) x f fs)) (u ∷ [])
      (work r store slots managers input).machine ≡ true)
      → Simulated (swap y (record { base = x; fields = f ∷ fs }))
  swap-mirrors y x f fs h has follows holds need =
      let size = length slots in
      let q : Path = record { base = x; fields = all_but_last f fs } in
      let path = holder_code classes scope x f fs in
      let s = slot_of scope (Some y) in
      let k = held_number classes scope x f fs in
      let g = last_field f fs in
      let more = path ++ i.Check ∷ i.Swap s k ∷ [] in
      let end = r.at + length (i.Mark line ∷ more) in
      let tail = drop end code.ops in
      let item = Do (stmt line (swap y (record { base = x; fields = f ∷ fs }))) in
      let w = work r store slots managers input in
      let mine = value_in locals (Some y) in
      let there : r.at + 1 + length path + 1 + 1 ≡ end = omega (arith, length-append path (i.Check ∷ i.Swap s k ∷ [])) in
      let holding : unwrap_or (slice_get slots s) val.Nil ≡ mine = slots_hold scope slots locals h.slots.0 refl (Some y) in
      statement_step classes code r store slots locals managers input line (swap y (record { base = x; fields = f ∷ fs })) more (j ∷ rest)
      h.places.0.0
      (subst (λ z. EndsAs classes code r.output (◌>>=◌ (path_value classes store locals q)
      (λ u. ◌>>=◌ (object_at store u) (λ o. Ok (put_local (Some y) (put_field classes u g (state r store locals managers input (j ∷ rest)) mine)
      (field_value classes o g))))) z)
      (sym (ap (λ l. walk code l (r.at + 1) 0 [] w) (flat_two path tail i.Check (i.Swap s k))
      ∙ walk-path classes code q locals scope (r.at + 1) (i.Check ∷ i.Swap s k ∷ tail) [] w (slots_hold scope slots locals h.slots.0 refl) follows))
      (value_ends classes code r.output (path_value classes store locals q) _ _ (λ u led.
      subst (λ z. EndsAs classes code r.output (◌>>=◌ (object_at store u)
      (λ o. Ok (put_local (Some y) (put_field classes u g (state r store locals managers input (j ∷ rest)) mine) (field_value classes o g)))) z)
      (sym (doubled (object_at store u) (needs code (i.Swap s k) (u ∷ []) w.machine) (λ o. walk code tail (r.at + 1 + length path + 1 + 1) 0 []
      (work r (put_in store u k (unwrap_or (slice_get slots s) val.Nil)) (slice_set slots s (unwrap_or (slice_get o.fields k) val.Nil)) managers
      input)) (need u led)))
      (object_ends classes code r.output (object_at store u) _ _ (λ o is.
      let field : field_value classes o g ≡ unwrap_or (slice_get o.fields k) val.Nil = ap
      (λ p. elim p [ None ↦ val.Nil | Some n ↦ unwrap_or (slice_get o.fields n) val.Nil ]) (holds u o led is) in
      let theirs = unwrap_or (slice_get o.fields k) val.Nil in
      let goes = λ (v : Val). walk code tail (r.at + 1 + length path + 1 + 1) 0 []
      (work r (put_in store u k v) (slice_set slots s theirs) managers input) in
      subst (λ v. EndsAs classes code r.output (Ok (put_local (Some y) (put_field classes u g (state r store locals managers input (j ∷ rest)) mine)
      (field_value classes o g))) (goes v)) (sym holding)
      (subst (λ v. EndsAs classes code r.output (Ok (put_local (Some y)
      (put_field classes u g (state r store locals managers input (j ∷ rest)) mine) v)) (goes mine)) (sym field)
      (subst (λ z. EndsAs classes code r.output (Ok (put_local (Some y) z theirs)) (goes mine))
      (sym (put_is classes r locals managers input (j ∷ rest) store store u o g k mine is (keeps_same store) (holds u o led is)))
      (finish_at classes code r (put_in store u k mine) (slice_set slots s theirs) (set_in (Some y) theirs locals) managers input j rest size end
      (r.at + 1 + length path + 1 + 1) there
      (subst (λ n. ShowsSlots (slice_set slots n theirs) (set_in (Some y) theirs locals)) (sym (slot_place locals (Some y)))
      (shows_put slots locals (Some y) theirs h.slots.0 has))
      (length-set slots s theirs) (round_of classes code r store slots locals managers input (item ∷ j ∷ rest) h)
      (subst (λ n. Lies classes code.ops (level r n size ∷ levels) (j ∷ rest) end) (sym (scope_set (Some y) theirs locals)) h.places.1)))))))))

  -- how the block of an `enter` ends, in the meaning and in the code
  abbrev pub ends_as : Option Name → ℕ → Item
  ends_as giving kept = leave_of line kept giving

  abbrev leaves : Path → Name → Block → Option Name → Op
  leaves p z b giving = leave_op (scope_at_end classes (scope_inside classes (scope_of locals) p z) b) (length (scope_of locals)) giving

  -- a window opens, and the block begins
  opens : (p : Path) (z : Name) (b : Block) (giving : Option Name) (front : List Op) (mine shown : Place) (bridge : Val) (o : Seen) (g : ℕ)
      → Showing (enter p z b giving) → front ≡ enter_code classes (scope_of locals) p.base p.fields → shown ≡ mine → region_of o.label ≡ Some g
      → o.class ≡ class_of classes (type_along classes (type_in (scope_of locals) p.base) p.fields) → AllGoOn b → length locals < length slots
      → let inside = r.at + 1 + length front in
      EndsAs classes code r.output (Ok (with_window (state r store locals managers input (j ∷ rest)) mine z b (ends_as giving) bridge o.class (region_of o.label)))
      (walk code (block_code classes (scope_inside classes (scope_of locals) p z) inside b
      ++ (i.Mark line ∷ leaves p z b giving ∷ drop (r.at + length (kind_code classes (scope_of locals) r.at line (enter p z b giving)))
      code.ops)) inside 0 []
      (entered (work r store slots managers input) shown bridge (length (scope_of locals)) (region_of o.label)))
  opens p z b giving front mine shown bridge o g h fronts owner region class goes room =
      let inside = r.at + 1 + length front in
      let size = length slots in
      let k = length scope in
      let is : k ≡ length locals = length-map locals (λ (l : Local). record { name = l.name; ty = l.ty }) in
      let item = Do (stmt line (enter p z b giving)) in
      let round = round_of classes code r store slots locals managers input (item ∷ j ∷ rest) h in
      let within = scope_inside classes scope p z in
      let block = block_code classes within inside b in
      let closing = i.Mark line ∷ leaves p z b giving ∷ [] in
      let tail = drop (r.at + length (kind_code classes scope r.at line (enter p z b giving))) code.ops in
      let whole : kind_code classes scope r.at line (enter p z b giving) ≡ (i.Mark line ∷ front) ++ (block ++ closing) =
      ap (λ f. i.Mark line ∷ (f ++ (block_code classes within (r.at + 1 + length f) b ++ closing))) (sym fronts) in
      let inside_is : r.at + length (i.Mark line ∷ front) ≡ inside = omega arith in
      let outer : Level = record top { scope = within } in
      let stands = subst (λ n. StandsIn code.ops top n (block ++ closing)) inside_is
      (back_in code.ops top r.at (i.Mark line ∷ front) (block ++ closing) (subst (StandsIn code.ops top r.at) whole h.places.0)) in
      let ends : inside + length block + 2 ≡ r.at + length (kind_code classes scope r.at line (enter p z b giving)) = omega
      (arith, ap length whole, length-append (i.Mark line ∷ front) (block ++ closing), length-append block closing) in
      let behind = subst (Lies classes code.ops (top ∷ levels) (j ∷ rest)) (sym ends) h.places.1 in
      let l : Local = record { name = Some z; ty = Ref Mut o.class; value = bridge } in
      let bridge_slot : Slot = record { name = Some z; ty = Ref Mut (class_of classes (type_along classes (type_in scope p.base) p.fields)) } in
      let body = lies_block classes code.ops b outer levels inside (leave_of line k giving ∷ j ∷ rest) (front_in code.ops outer inside block closing stands) goes
      (leave_end classes code.ops outer levels b scope bridge_slot (inside + length block) line giving (j ∷ rest)
      (back_in code.ops outer inside block closing stands) behind) in
      let names : within ≡ scope_of (locals ++ l ∷ []) =
      ap (λ c. scope ++ record { name = Some z; ty = Ref Mut c } ∷ []) (sym class)
      ∙ sym (map-append (λ (l : Local). record { name = l.name; ty = l.ty }) locals (l ∷ [])) in
      let window : Window = record { number = r.made; region = g; owner = Some mine; base = slots_below r.frames + k } in
      let opened : Opened = record { number = r.made; region = g; owner = Some mine; base_frame = length r.bodies; base_place = length locals } in
      let inner : Round = record r { windows = window ∷ r.windows; made = r.made + 1; opened = opened ∷ r.opened } in
      let after = state inner store (locals ++ l ∷ []) managers input (items_of b (leave_of line (length locals) giving ∷ j ∷ rest)) in
      let w = work inner store (slice_set slots k bridge) managers input in
      let begins : is_mark (slice_get (block ++ (i.Mark line ∷ leaves p z b giving ∷ tail)) 0)
      ≡ true = block_starts classes within inside line b (leaves p z b giving ∷ tail) in
      let inner_shows : RoundShows inner size = record {
        frames = round.frames;
        windows = (
          record {
            number = refl;
            region = refl;
            owner = refl;
            base = base_is r.frames size (length r.bodies) k (length locals)
                (sym (as_many r.frames r.bodies round.frames)) is;
          },
          round.windows,
        );
      } in
      let last : EndsAs classes code r.output (Ok after) (Stops inside w) =
      finish classes code inner store (slice_set slots k bridge) (locals ++ l ∷ []) managers input (items_of b (leave_of line (length locals) giving ∷ j ∷ rest))
      size inside
      (subst (λ n. ShowsSlots (slice_set slots n bridge) (locals ++ l ∷ [])) (sym is) (shows_next slots locals l h.slots.0 room))
      (length-set slots k bridge) inner_shows
      (subst (λ s. Lies classes code.ops (level r s size ∷ levels) (items_of b (leave_of line (length locals) giving ∷ j ∷ rest)) inside) names
      (subst (λ n. Lies classes code.ops (outer ∷ levels) (items_of b (leave_of line n giving ∷ j ∷ rest)) inside) is body)) in
      subst (λ n. EndsAs classes code r.output (Ok (with_window (state r store locals managers input (j ∷ rest)) mine z b (ends_as giving) bridge o.class n))
      (walk code (block ++ (i.Mark line ∷ leaves p z b giving ∷ tail)) inside 0 [] (entered (work r store slots managers input) shown bridge k n)))
      (sym region)
      (subst (λ m. EndsAs classes code r.output (Ok after)
      (walk code (block ++ (i.Mark line ∷ leaves p z b giving ∷ tail)) inside 0 [] (entered (work r store slots managers input) m bridge k (Some g))))
      (sym owner)
      (subst (λ x. EndsAs classes code r.output (Ok after) x)
      (sym (walk_at_mark classes code (block ++ (i.Mark line ∷ leaves p z b giving ∷ tail)) inside w begins)) last))

  -- what the rules and the invariant give of the object that an owner leads to: it is in a region, and has the declared class
  abbrev pub BridgeOwes : Path → Val → Type 0
  BridgeOwes p bridge = (o : Seen) → object_at store bridge ≡ Ok o → ((g : ℕ) × (region_of o.label ≡ Some g))
      × (o.class ≡ class_of classes (type_along classes (type_in (scope_of locals) p.base) p.fields))

  -- `enter x as z { .. }`
  pub enter-mirrors : (x : Variable) (z : Name) (b : Block) (giving : Option Name) → Showing (enter (record { base = x; fields = [] }) z b giving) → AllGoOn b
      → begins_by r.windows (slots_below r.frames + length locals) ≡ true → BridgeOwes (record { base = x; fields = [] }) (value_in locals x)
      → needs code (i.Enter (slot_of (scope_of locals) x) (length (scope_of locals))) [] (work r store slots managers input).machine ≡ true
      → Simulated (enter (record { base = x; fields = [] }) z b giving)
  enter-mirrors x z b giving h goes begins owes need =
      let p : Path = record { base = x; fields = [] } in
      let s = slot_of scope x in
      let k = length scope in
      let w = work r store slots managers input in
      let front = i.Enter s k ∷ [] in
      let inside = r.at + 1 + length front in
      let block = block_code classes (scope_inside classes scope p z) inside b in
      let more = front ++ (block ++ (i.Mark line ∷ leaves p z b giving ∷ [])) in
      let tail = drop (r.at + length (i.Mark line ∷ more)) code.ops in
      let is : k ≡ length locals = length-map locals (λ (l : Local). record { name = l.name; ty = l.ty }) in
      let bridge = value_in locals x in
      let mine = place.Var (length r.bodies) (place_in locals x) in
      let shown = place.Var (length r.frames) s in
      let owner : shown ≡ mine = ap (λ n. place.Var n s) (as_many r.frames r.bodies h.slots.1)
      ∙ ap (λ n. place.Var (length r.bodies) n) (slot_place locals x) in
      let two = and-left _ _ (roomy-back (length slots) (i.Mark line ∷ []) (front ++ (block ++ (i.Mark line ∷ leaves p z b giving ∷ []))) h.places.0.1) in
      let room : length locals < length slots = room_most (length slots) s k (length locals) is two in
      let item = Do (stmt line (enter p z b giving)) in
      statement_step classes code r store slots locals managers input line (enter p z b giving) more (j ∷ rest) h.places.0.0
      (subst (λ l. EndsAs classes code r.output (plain_entered (state r store locals managers input (j ∷ rest)) mine z b (ends_as giving) bridge)
      (walk code l (r.at + 1) 0 [] w)) (sym (flat_enter front block tail (i.Mark line) (leaves p z b giving)))
      (if_ends classes code r.output (plain_entered (state r store locals managers input (j ∷ rest)) mine z b (ends_as giving) bridge)
      (needs code (i.Enter s k) [] w.machine)
      (opens_at w.machine k (elim (object_at store (unwrap_or (slice_get slots s) val.Nil)) [
        | Ok o ↦ walk code (block ++ (i.Mark line ∷ leaves p z b giving ∷ tail)) inside 0 []
            (entered w shown (unwrap_or (slice_get slots s) val.Nil) k (region_of o.label))
        | Err t ↦ Traps t
      ])) Stuck need
      (opens_ends classes code r.output _ w.machine k _ (let e = is in omega (arith, e, room))
      (ap (λ n. begins_by r.windows (slots_below r.frames + n)) is ∙ begins)
      (subst (λ u. EndsAs classes code r.output (plain_entered (state r store locals managers input (j ∷ rest)) mine z b (ends_as giving) bridge)
      (elim (object_at store u) [
        | Ok o ↦ walk code (block ++ (i.Mark line ∷ leaves p z b giving ∷ tail)) inside 0 [] (entered w shown u k (region_of o.label))
        | Err t ↦ Traps t
      ])) (sym (slots_hold scope slots locals h.slots.0 refl x))
      (object_ends classes code r.output (object_at store bridge) _ _ (λ o there. let owed = owes o there in
      opens p z b giving front mine shown bridge o owed.0.0 h refl owner owed.0.1 owed.1 goes room))))))

  -- `enter q.f as z { .. }`
  pub enter-field-mirrors : (x : Variable) (f : Name) (fs : List Name) (z : Name) (b : Block) (giving : Option Name)
      → Showing (enter (record { base = x; fields = f ∷ fs }) z b giving) → AllGoOn b → begins_by r.windows (slots_below r.frames + length locals) ≡ true
      → FollowsPath classes store r.windows locals (scope_of locals) (record { base = x; fields = all_but_last f fs })
      → HolderOwes classes store locals (scope_of locals) x f fs
      → ((u : Val) (o : Seen) → path_value classes store locals (record { base = x; fields = all_but_last f fs }) ≡ Ok u → object_at store u ≡ Ok o
      → BridgeOwes (record { base = x; fields = f ∷ fs }) (field_value classes o (last_field f fs)))
      → ((u : Val) → path_value classes store locals (record { base = x; fields = all_but_last f fs }) ≡ Ok u
      → needs code (i.EnterField (held_number classes (scope_of locals) x f fs) (length (scope_of locals))) (u ∷ [])
      (work r store slots managers input).machine ≡ true)
      → Simulated (enter (record { base = x; fields = f ∷ fs }) z b giving)
  enter-field-mirrors x f fs z b giving h goes begins follows holds owes need =
      let p : Path = record { base = x; fields = f ∷ fs } in
      let q : Path = record { base = x; fields = all_but_last f fs } in
      let path = holder_code classes scope x f fs in
      let n = held_number classes scope x f fs in
      let g = last_field f fs in
      let k = length scope in
      let w = work r store slots managers input in
      let front = path ++ i.EnterField n k ∷ [] in
      let inside = r.at + 1 + length front in
      let block = block_code classes (scope_inside classes scope p z) inside b in
      let closing = i.Mark line ∷ leaves p z b giving ∷ [] in
      let more = front ++ (block ++ closing) in
      let tail = drop (r.at + length (i.Mark line ∷ more)) code.ops in
      let is : k ≡ length locals = length-map locals (λ (l : Local). record { name = l.name; ty = l.ty }) in
      let flat : more ++ tail ≡ path ++ (i.EnterField n k ∷ (block ++ (i.Mark line ∷ leaves p z b giving ∷ tail))) =
      flat_enter front block tail (i.Mark line) (leaves p z b giving) ∙ flat_one path (block ++ (i.Mark line ∷ leaves p z b giving ∷ tail)) (i.EnterField n k) in
      let here : r.at + 1 + length path + 1 ≡ inside = omega (arith, length-append path (i.EnterField n k ∷ [])) in
      let named = and-left _ _ (roomy-back (length slots) (i.Mark line ∷ path) (i.EnterField n k ∷ (block ++ closing))
      (subst (λ l. roomy (length slots) l ≡ true) (ap (λ l. i.Mark line ∷ l) (flat_one path (block ++ closing) (i.EnterField n k)))
      h.places.0.1)) in
      let room : length locals < length slots = room_of (length slots) k (length locals) is named in
      statement_step classes code r store slots locals managers input line (enter p z b giving) more (j ∷ rest) h.places.0.0
      (subst (λ y. EndsAs classes code r.output (◌>>=◌ (path_value classes store locals q)
      (λ u. ◌>>=◌ (object_at store u) (λ o. plain_entered (state r store locals managers input (j ∷ rest)) (field_at classes u o g) z b
      (ends_as giving) (field_value classes o g)))) y)
      (sym (ap (λ l. walk code l (r.at + 1) 0 [] w) flat
      ∙ walk-path classes code q locals scope (r.at + 1) (i.EnterField n k ∷ (block ++ (i.Mark line ∷ leaves p z b giving ∷ tail))) [] w
      (slots_hold scope slots locals h.slots.0 refl) follows))
      (value_ends classes code r.output (path_value classes store locals q) _ _ (λ u led.
      if_ends classes code r.output (◌>>=◌ (object_at store u) (λ o. plain_entered (state r store locals managers input (j ∷ rest))
      (field_at classes u o g) z b (ends_as giving) (field_value classes o g)))
      (needs code (i.EnterField n k) (u ∷ []) w.machine)
      (opens_at w.machine k (elim (object_at store u) [
        | Ok o ↦ elim (object_at store (unwrap_or (slice_get o.fields n) val.Nil)) [
          | Ok c ↦ walk code (block ++ (i.Mark line ∷ leaves p z b giving ∷ tail)) (r.at + 1 + length path + 1) 0 []
              (entered w (place.Field (slot_address u) n) (unwrap_or (slice_get o.fields n) val.Nil) k (region_of c.label))
          | Err t ↦ Traps t
        ]
        | Err t ↦ Traps t
      ])) Stuck (need u led)
      (opens_ends classes code r.output _ w.machine k _ (let e = is in omega (arith, e, room))
      (ap (λ n. begins_by r.windows (slots_below r.frames + n)) is ∙ begins)
      (object_ends classes code r.output (object_at store u) _ _ (λ o there.
      let bridge = field_value classes o g in
      let field : bridge ≡ unwrap_or (slice_get o.fields n) val.Nil = ap
      (λ p. elim p [ None ↦ val.Nil | Some n ↦ unwrap_or (slice_get o.fields n) val.Nil ]) (holds u o led there) in
      let mine = field_at classes u o g in
      let shown = place.Field (slot_address u) n in
      let owner : shown ≡ mine = sym (ap (λ a. place.Field a (unwrap_or (field_place (fields_of classes o.class) g) 0)) (same_address u)
      ∙ ap (λ p. place.Field (slot_address u) (unwrap_or p 0)) (holds u o led there)) in
      subst (λ v. EndsAs classes code r.output (plain_entered (state r store locals managers input (j ∷ rest)) mine z b (ends_as giving) bridge)
      (elim (object_at store v) [
        | Ok c ↦ walk code (block ++ (i.Mark line ∷ leaves p z b giving ∷ tail)) (r.at + 1 + length path + 1) 0 []
            (entered w shown v k (region_of c.label))
        | Err t ↦ Traps t
      ])) field
      (subst (λ m. EndsAs classes code r.output (plain_entered (state r store locals managers input (j ∷ rest)) mine z b (ends_as giving) bridge)
      (elim (object_at store bridge) [
        | Ok c ↦ walk code (block ++ (i.Mark line ∷ leaves p z b giving ∷ tail)) m 0 []
            (entered w shown bridge k (region_of c.label))
        | Err t ↦ Traps t
      ])) (sym here)
      (object_ends classes code r.output (object_at store bridge) _ _ (λ c found. let owed = owes u o led there c found in
      opens p z b giving front mine shown bridge c owed.0.0 h refl owner owed.0.1 owed.1 goes room)))))))))

-- the end of the block of an `enter`; r is what stands round it, beneath its window
pub leave-mirrors : (classes : List Class) (code : Code) (r : Round) (store : List Seen) (slots : List Val) (locals : List Local)
    (managers : List Manager) (input : List ℕ) (v w : Window) (ws : List Window) (p q : Opened) (ps : List Opened) (k : ℕ) (j : Item)
    (rest : List Item)
    → Mirrors classes code (work (record r { windows = v ∷ w ∷ ws; opened = p ∷ q ∷ ps }) store slots managers input).machine
    (state (record r { windows = v ∷ w ∷ ws; opened = p ∷ q ∷ ps }) store locals managers input (LeaveAt k ∷ j ∷ rest))
    → needs code (i.Leave k) [] (work (record r { windows = v ∷ w ∷ ws; opened = p ∷ q ∷ ps }) store slots managers input).machine ≡ true
    → SameMove classes code r.output (next classes (state (record r { windows = v ∷ w ∷ ws; opened = p ∷ q ∷ ps }) store locals managers input
    (LeaveAt k ∷ j ∷ rest))) (step code (work (record r { windows = v ∷ w ∷ ws; opened = p ∷ q ∷ ps }) store slots managers input))
leave-mirrors classes code r store slots locals managers input v w ws p q ps k j rest h need =
    let before = record r { windows = v ∷ w ∷ ws; opened = p ∷ q ∷ ps } in
    let inner = record r { windows = w ∷ ws; opened = q ∷ ps } in
    let after = state inner store (take k locals) managers input (j ∷ rest) in
    let size = length slots in
    let marked = mark-there code.ops r.at h.places.0 in
    let front : drop r.at code.ops ≡ i.Mark marked.0 ∷ (i.Leave k ∷ drop (r.at + 2) code.ops) = marked.1
    ∙ ap (λ l. i.Mark marked.0 ∷ l) (drop-stands code.ops (r.at + 1) (i.Leave k ∷ []) h.places.1
    ∙ ap (λ n. i.Leave k ∷ drop n code.ops) (omega arith)) in
    let names : take k (scope_of locals) ≡ scope_of (take k locals) = take-map (λ (l : Local). record { name = l.name; ty = l.ty }) k locals in
    let at_two : r.at + 1 + 1 ≡ r.at + 2 = omega arith in
    subst (λ t. SameMove classes code r.output (Went after) t) (sym (ap (step_from code (work before store slots managers input)) front))
    (ended classes code r.output marked.0 (Ok after) _
    (if_ends classes code r.output (Ok after) (needs code (i.Leave k) [] (work before store slots managers input).machine)
    (walk code (drop (r.at + 2) code.ops) (r.at + 1 + 1) 0 [] (work inner store (ended_slots k slots) managers input)) Stuck need
    (finish_at classes code inner store (ended_slots k slots) (take k locals) managers input j rest size (r.at + 2) (r.at + 1 + 1) at_two
    (shows_ended k slots locals h.slots.0) (ended-length k slots) (record { frames = h.slots.1; windows = h.windows.1 })
    (subst (λ s. Lies classes code.ops (level r s size ∷ levels_of r.frames r.bodies) (j ∷ rest) (r.at + 2)) names h.places.2))))

-- the same with `giving x`: what owned the window's region then leads to the object of x

put_top : (s : ℕ) (v : Val) (f : Frame) (fs : List Frame) → put_in_frame (length fs) s v (f ∷ fs) ≡ record f { slots = slice_set f.slots s v } ∷ fs
put_top s v f fs = ap (λ b. if b then record f { slots = slice_set f.slots s v } ∷ fs else f ∷ put_in_frame (length fs) s v fs) (same (length fs))

set_top : (i : ℕ) (v : Val) (f : Body) (fs : List Body) → set_in_frame (length fs) i v (f ∷ fs) ≡ record f { locals = set_at i v f.locals } ∷ fs
set_top i v f fs = ap (λ b. if b then record f { locals = set_at i v f.locals } ∷ fs else f ∷ set_in_frame (length fs) i v fs) (same (length fs))

-- a variable that owns a window's region is one of those that are kept, of the topmost frame
abbrev pub OwnerHere : Option Place → (frame kept : ℕ) → Type 0
OwnerHere o n k = (m i : ℕ) → o ≡ Some (place.Var m i) → (m ≡ n) × (i < k)

module _ (classes : List Class) (code : Code) (r : Round) (store : List Seen) (slots : List Val) (locals : List Local) (managers : List Manager)
    (input : List ℕ) (j : Item) (rest : List Item) (at : ℕ) (round : RoundShows r (length slots)) (shows : ShowsSlots slots locals)
    (lies : Lies classes code.ops (level r (scope_of locals) (length slots) ∷ levels_of r.frames r.bodies) (j ∷ rest) at) where
  -- where the code goes on, behind a value at a place
  put_ends : (o : Option Place) (v : Val) → OwnerHere o (length r.bodies) (length locals)
      → EndsAs classes code r.output (Ok (plain_put_at o (state r store locals managers input (j ∷ rest)) v))
      (walk code (drop at code.ops) at 0 [] (record (work r store slots managers input) {
        machine = put_at o v (work r store slots managers input).machine;
      }))
  put_ends None v here = finish_at classes code r store slots locals managers input j rest (length slots) at at refl shows refl round lies
  put_ends (Some (place.Var m i)) v here =
      let h = here m i refl in
      let size = length slots in
      let frame : Frame = record { slots = slots; back = r.back } in
      let body : Body = record { locals = locals; target = r.target } in
      let shown : put_in_frame m i v (frame ∷ r.frames) ≡ record frame { slots = slice_set slots i v } ∷ r.frames =
      ap (λ n. put_in_frame n i v (frame ∷ r.frames)) (h.0 ∙ sym (as_many r.frames r.bodies round.frames)) ∙ put_top i v frame r.frames in
      let plain : set_in_frame m i v (body ∷ r.bodies) ≡ record body { locals = set_at i v locals } ∷ r.bodies =
      ap (λ n. set_in_frame n i v (body ∷ r.bodies)) h.0 ∙ set_top i v body r.bodies in
      let before = state r store locals managers input (j ∷ rest) in
      let w = work r store slots managers input in
      subst (λ fs. EndsAs classes code r.output (Ok (record before { frames = fs })) (walk code (drop at code.ops) at 0 [] (record w {
        machine = record w.machine { frames = put_in_frame m i v (frame ∷ r.frames) };
      }))) (sym plain)
      (subst (λ fs. EndsAs classes code r.output (Ok (state r store (set_at i v locals) managers input (j ∷ rest)))
      (walk code (drop at code.ops) at 0 [] (record w { machine = record w.machine { frames = fs } }))) (sym shown)
      (finish_at classes code r store (slice_set slots i v) (set_at i v locals) managers input j rest size at at refl
      (shows_set slots locals i v shows h.1) (length-set slots i v) round
      (subst (λ s. Lies classes code.ops (level r s size ∷ levels_of r.frames r.bodies) (j ∷ rest) at) (sym (scope_set_at locals i v)) lies)))
  put_ends (Some (place.Field a n)) v here = by (slice_get store a)
    where
      by : (o : Option Seen)
          → EndsAs classes code r.output (Ok (elim o [
            | None ↦ state r store locals managers input (j ∷ rest)
            | Some o
                ↦ state r (slice_set store a (with_element n v o)) locals managers input (j ∷ rest)
          ]))
          (walk code (drop at code.ops) at 0 []
          (work r (elim o [ None ↦ store | Some o ↦ slice_set store a (with_value_in o n v) ]) slots managers input))
      by None = finish_at classes code r store slots locals managers input j rest (length slots) at at refl shows refl round lies
      by (Some o) = finish_at classes code r (slice_set store a (with_value_in o n v)) slots locals managers input j rest (length slots) at at refl
          shows refl round lies

pub leave-giving-mirrors : (classes : List Class) (code : Code) (r : Round) (store : List Seen) (slots : List Val) (locals : List Local)
    (managers : List Manager) (input : List ℕ) (v w : Window) (ws : List Window) (p q : Opened) (ps : List Opened) (line k : ℕ) (x : Name) (j : Item)
    (rest : List Item)
    → Mirrors classes code (work (record r { windows = v ∷ w ∷ ws; opened = p ∷ q ∷ ps }) store slots managers input).machine
    (state (record r { windows = v ∷ w ∷ ws; opened = p ∷ q ∷ ps }) store locals managers input (LeaveGiving line k x ∷ j ∷ rest))
    → needs code (i.LeaveGiving (slot_of (scope_of locals) (Some x)) k) []
    (work (record r { windows = v ∷ w ∷ ws; opened = p ∷ q ∷ ps }) store slots managers input).machine ≡ true
    → OwnerHere p.owner (length r.bodies) (length (take k locals))
    → SameMove classes code r.output (next classes (state (record r { windows = v ∷ w ∷ ws; opened = p ∷ q ∷ ps }) store locals managers input
    (LeaveGiving line k x ∷ j ∷ rest))) (step code (work (record r { windows = v ∷ w ∷ ws; opened = p ∷ q ∷ ps }) store slots managers input))
leave-giving-mirrors classes code r store slots locals managers input v w ws p q ps line k x j rest h need here =
    let before = record r { windows = v ∷ w ∷ ws; opened = p ∷ q ∷ ps } in
    let inner = record r { windows = w ∷ ws; opened = q ∷ ps } in
    let after = state inner store (take k locals) managers input (j ∷ rest) in
    let size = length slots in
    let s = slot_of (scope_of locals) (Some x) in
    let held = value_in locals (Some x) in
    let slot = unwrap_or (slice_get slots s) val.Nil in
    let o = i.LeaveGiving s k in
    let at = r.at + 2 in
    let two : r.at + length (i.Mark line ∷ o ∷ []) ≡ at = omega arith in
    let front : drop r.at code.ops ≡ i.Mark line ∷ (o ∷ drop at code.ops) =
    drop-stands code.ops r.at (i.Mark line ∷ o ∷ []) h.places.0 ∙ ap (λ n. i.Mark line ∷ (o ∷ drop n code.ops)) two in
    let names : take k (scope_of locals) ≡ scope_of (take k locals) = take-map (λ (l : Local). record { name = l.name; ty = l.ty }) k locals in
    let at_two : r.at + 1 + 1 ≡ at = omega arith in
    let ended_now = ended_slots k slots in
    let behind = work inner store ended_now managers input in
    let many = ended-length k slots in
    let goes = λ (owner : Option Place) (u : Val) (n : ℕ).
    walk code (drop at code.ops) n 0 [] (record behind { machine = put_at owner u behind.machine }) in
    let plain = ◌>>◌ (object_at store held) (Ok (plain_put_at p.owner after held)) in
    let inner_shows : RoundShows inner (length ended_now) =
    subst (RoundShows inner) (sym many) (record { frames = h.slots.1; windows = h.windows.1 }) in
    let lies : Lies classes code.ops (level inner (scope_of (take k locals)) (length ended_now) ∷ levels_of r.frames r.bodies) (j ∷ rest) at =
    subst (λ n. Lies classes code.ops (level r (scope_of (take k locals)) n ∷ levels_of r.frames r.bodies) (j ∷ rest) at) (sym many)
    (subst (λ s. Lies classes code.ops (level r s size ∷ levels_of r.frames r.bodies) (j ∷ rest) at) names h.places.1) in
    subst (λ t. SameMove classes code r.output (stepped line plain) t) (sym (ap (step_from code (work before store slots managers input)) front))
    (ended classes code r.output line plain _
    (if_ends classes code r.output plain (needs code o [] (work before store slots managers input).machine)
    (elim (object_at store slot) [ Ok c ↦ goes v.owner slot (r.at + 1 + 1) | Err t ↦ Traps t ]) Stuck need
    (subst (λ u. EndsAs classes code r.output plain (elim (object_at store u) [ Ok c ↦ goes v.owner u (r.at + 1 + 1) | Err t ↦ Traps t ]))
    (sym (slots_hold (scope_of locals) slots locals h.slots.0 refl (Some x)))
    (tested_ends classes code r.output (object_at store held) (Ok (plain_put_at p.owner after held)) (goes v.owner held (r.at + 1 + 1)) (λ c there.
    subst (λ n. EndsAs classes code r.output (Ok (plain_put_at p.owner after held)) (goes v.owner held n)) (sym at_two)
    (subst (λ owner. EndsAs classes code r.output (Ok (plain_put_at p.owner after held)) (goes owner held at)) (sym h.windows.0.owner)
    (put_ends classes code inner store ended_now (take k locals) managers input j rest at inner_shows (shows_ended k slots locals h.slots.0) lies
    p.owner held here)))))))
