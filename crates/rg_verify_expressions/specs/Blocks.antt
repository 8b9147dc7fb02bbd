-- Blocks raised from their code (docs/architecture.md, "Modules"). Each function tells what stands at an address, and the address
-- behind it, or nothing where that isn't the code of it; there is no search.
use Rattle.std.specs.Prelude.{◌≡◌, ℕ, zero, suc, ◌+◌, ◌==◌, not, Bool as Truth, true, false, if◌then◌else◌, List, [], ◌∷◌, ◌++◌, length}
use Rattle.std.specs.Prelude.{drop, slice_get, Option, Some, None}
use Rattle.rg_base.specs.declared.words.Cap.TheVariants as cap
use Rattle.rg_base.specs.declared.ty.Ty.{Ty}
use Rattle.rg_base.specs.declared.ty.Ty.TheVariants as ty
use Rattle.rg_rules.specs.Capabilities.{is_iso}
use Rattle.rg_code.specs.declared.op.Op.{Op}
use Rattle.rg_verify_expressions.specs.declared.signs.Making.{Making}
use Rattle.rg_verify_expressions.specs.declared.signs.Making.TheVariants as making
use Rattle.rg_verify_expressions.specs.declared.signs.Target.{Target}
use Rattle.rg_verify_expressions.specs.declared.signs.Target.TheVariants as target
use Rattle.rg_verify_expressions.specs.declared.signs.Close.{Close}
use Rattle.rg_verify_expressions.specs.declared.signs.Close.TheVariants as close
use Rattle.rg_verify_expressions.specs.declared.signs.Open.{Open}
use Rattle.rg_verify_expressions.specs.declared.signs.Open.TheVariants as opens
use Rattle.rg_verify_expressions.specs.declared.signs.Walk.{Walk}
use Rattle.rg_verify_expressions.specs.declared.signs.Walk.TheVariants as walk
use Rattle.rg_verify_expressions.specs.declared.signs.Behind.{Behind}
use Rattle.rg_verify_expressions.specs.declared.signs.Behind.TheVariants as behind
use Rattle.rg_verify_expressions.specs.declared.signs.Leave.{Leave}
use Rattle.rg_verify_expressions.specs.Raised.{Raised, path, Front, expression, object, place}
use Rattle.rg_verify_expressions.specs.Raising.{raised}
use Rattle.rg_verify_expressions.specs.declared.callee.Callee.{Callee}
use Rattle.rg_verify_expressions.specs.Statements.{Call, Right, value, new, new_tmp, new_iso, freeze, merge, read, more, result_of, Kind, declare, assign}
use Rattle.rg_verify_expressions.specs.Statements.{write, write_element, call, swap, branch, while, enter, enter_field, print, collect, return, no_else}
use Rattle.rg_verify_expressions.specs.Statements.{otherwise, Block}
use Rattle.rg_verify_expressions.specs.Statements.{block_ops, empty, next, type_at, all_used, types_behind, types_inside}
use Rattle.rg_verify_expressions.specs.Signs.{making_of, target_of, close_of, open_of, walk_of, behind_of, mark_of, clear_of, call_of, put_of, jump_of, end_of}
use Rattle.rg_verify_expressions.specs.Signs.{put_element_of, leave_of, left_of, pace_of, closing_of}

-- goes on with what was told
abbrev pub ◌>>=◌ : {A B : Type 0} → Option A → (A → Option B) → Option B
◌>>=◌ (Some a) go = go a
◌>>=◌ None go = None

-- goes on where a test passed
abbrev pub ◌>>◌ : {A B : Type 0} → Option A → Option B → Option B
◌>>◌ (Some a) rest = rest
◌>>◌ None rest = None

-- nothing is told where the test fails
abbrev pub test : Truth → Option (Unit {0})
test true = Some tt
test false = None

-- what blocks are raised from: the code, for each instruction its map (at a `mark` the types of the variables there), and the methods
pub record Given : Type 0 where
  pub ops : List Op
  pub maps : List (List Ty)
  pub methods : List Callee

-- what stands at an address, and the address behind it
abbrev pub Told : Type 0 → Type 0
Told A = Option (A × ℕ)

-- what the instruction at an address is
abbrev pub sign : {A : Type 0} → (Op → Option A) → (ops : List Op) → (at : ℕ) → Option A
sign of ops at = ◌>>=◌ (slice_get ops at) of

-- the type of the variable in a slot, by the map of the mark at an address
abbrev pub slot_type : List Op → (maps : List (List Ty)) → (at : ℕ) → (slot : ℕ) → Option Ty
slot_type ops maps at s = do
  sign mark_of ops at
  types ← slice_get maps at
  slice_get types s

-- the class of a bridge
abbrev pub bridge_class : Ty → Option ℕ
bridge_class (ty.Ref cap.Mut c) = Some c
bridge_class t = None

-- what code begins with at an address, up to an instruction that no expression has
abbrev pub fronts_at : (ops : List Op) → (at : ℕ) → Told (List Front)
fronts_at ops at = raised (drop at ops) at

-- expressions alone
abbrev pub values_in : List Front → Option (List Raised)
values_in [] = Some []
values_in (expression e ∷ fs) = do
  es ← values_in fs
  Some (e ∷ es)
values_in (object s ks ∷ fs) = None
values_in (place s ks e ∷ fs) = None

-- an expression that is a path
abbrev pub path_in : Raised → Option (ℕ × List ℕ)
path_in (path s ks) = Some (s, ks)
path_in r = None

-- slots are cleared
abbrev pub cleared : (ops : List Op) → List ℕ → (at : ℕ) → Option ℕ
cleared ops [] at = Some at
cleared ops (s ∷ ss) at = do
  t ← sign clear_of ops at
  test (t == s)
  cleared ops ss (suc at)

-- Right sides

-- a call on an object, behind its arguments and `room`
abbrev pub called : Given → (types : List Ty) → (slot : ℕ) → (fields : List ℕ) → List Raised → (at : ℕ) → Told Call
called g types s ks args at = do
  behind ← cleared g.ops (all_used types args) at
  m ← sign call_of g.ops behind
  callee ← slice_get g.methods m
  Some (record { slot = s; fields = ks; callee = record callee { number = m }; args = args }, suc behind)

-- whether these are the arguments of a call
abbrev pub is_room : Behind → Truth
is_room behind.Room = true
is_room (behind.Swap s k) = false

-- a right side of one instruction
abbrev pub right_of : Making → Right
right_of (making.New c) = new c None
right_of (making.NewTmp c) = new_tmp c None
right_of (making.NewIso c m) = new_iso c None m
right_of (making.Freeze s) = freeze s
right_of (making.Merge s) = merge s
right_of making.Read = read
right_of making.More = more

-- a right side that begins with an expression alone, by what stands behind that: a new array of so many elements, or a value
abbrev pub right_by : Given → (types : List Ty) → Raised → (at : ℕ) → Option Walk → Told Right
right_by g types e at None = do
  behind ← cleared g.ops (all_used types (e ∷ [])) at
  Some (value e, behind)
right_by g types e at (Some (walk.New c)) = Some (new c (Some e), suc at)
right_by g types e at (Some (walk.NewTmp c)) = Some (new_tmp c (Some e), suc at)
right_by g types e at (Some (walk.NewIso c m)) = Some (new_iso c (Some e) m, suc at)
right_by g types e at (Some (walk.Enter k z)) = None

-- the result of a call on an object, behind the arguments, if these are expressions alone
abbrev pub result_by : Given → (types : List Ty) → (slot : ℕ) → (fields : List ℕ) → Option (List Raised) → (at : ℕ) → Told Right
result_by g types s ks None at = None
result_by g types s ks (Some args) at = do
  b ← sign behind_of g.ops at
  test (is_room b)
  c ← called g types s ks args (suc at)
  Some (result_of c.0, c.1)

-- a right side, behind what it begins with
abbrev pub right_behind : Given → (types : List Ty) → List Front → (at : ℕ) → Told Right
right_behind g types [] at = do
  m ← sign making_of g.ops at
  Some (right_of m, suc at)
right_behind g types (expression e ∷ []) at = right_by g types e at (sign walk_of g.ops at)
right_behind g types (expression e ∷ f ∷ fs) at = None
right_behind g types (object s ks ∷ fs) at = result_by g types s ks (values_in fs) at
right_behind g types (place s ks e ∷ fs) at = None

-- whether a pacer is asked last: where the right side is `new c0` or `new c0 [e]`
abbrev pub paces : Right → Truth
paces (value e) = false
paces (new c n) = true
paces (new_tmp c n) = false
paces (new_iso c n m) = false
paces (freeze s) = false
paces (merge s) = false
paces read = false
paces more = false
paces (result_of c) = false

-- it is asked
abbrev pub paced : (ops : List Op) → (paces : Truth) → (at : ℕ) → Option ℕ
paced ops false at = Some at
paced ops true at = do
  sign pace_of ops at
  Some (suc at)

-- Statements

-- a value goes into a slot, the next one in a `let`, whose type the map behind has; the statement ends there
abbrev pub stored : Given → (types : List Ty) → Right → (end : ℕ) → (slot : ℕ) → (is_next : Truth) → Option Kind
stored g types r end s true = do
  t ← slot_type g.ops g.maps end s
  Some (declare t r)
stored g types r end s false = do
  test (not (is_iso (type_at types s)))
  Some (assign s r)

abbrev pub taken_by : Given → (types : List Ty) → Right → (end : ℕ) → Target → Option Kind
taken_by g types r end (target.Store s) = stored g types r end s (s == length types)
taken_by g types r end (target.Own s) = do
  test (is_iso (type_at types s))
  Some (assign s r)

-- a value goes into a slot
abbrev pub taken : Given → (types : List Ty) → Right → (at : ℕ) → Told Kind
taken g types r at = do
  t ← sign target_of g.ops at
  end ← paced g.ops (paces r) (suc at)
  k ← taken_by g types r end t
  Some (k, end)

-- the result of a call, if there is one, is dropped
abbrev pub dropped : (ops : List Op) → Option Ty → (at : ℕ) → Option ℕ
dropped ops None at = Some at
dropped ops (Some t) at = do
  owns ← sign left_of ops at
  test (if is_iso t then owns else not owns)
  Some (suc at)

-- a call whose result goes into a slot, or is dropped
abbrev pub call_by : Given → (types : List Ty) → Call → (at : ℕ) → Option Target → Told Kind
call_by g types c at (Some t) = taken g types (result_of c) at
call_by g types c at None = do
  end ← dropped g.ops c.callee.result at
  Some (call c, end)

-- a field is written
abbrev pub written_to : Given → (types : List Ty) → (slot : ℕ) → (fields : List ℕ) → List Front → (at : ℕ) → Told Kind
written_to g types s ks fs at = do
  r ← right_behind g types fs at
  k ← sign put_of g.ops r.1
  end ← paced g.ops (paces r.0) (suc r.1)
  Some (write s ks k r.0, end)

-- an element is written
abbrev pub element_written : Given → (types : List Ty) → (slot : ℕ) → (fields : List ℕ) → (index : Raised) → List Front → (at : ℕ) → Told Kind
element_written g types s ks e fs at = do
  r ← right_behind g types fs at
  sign put_element_of g.ops r.1
  end ← paced g.ops (paces r.0) (suc r.1)
  Some (write_element s ks e r.0, end)

-- behind `room`: a call on an object with these arguments; or a field of it is written, where no expressions alone stand behind it
abbrev pub room_by : Given → (types : List Ty) → (slot : ℕ) → (fields : List ℕ) → List Front → Option (List Raised) → (at : ℕ) → Told Kind
room_by g types s ks fs None at = written_to g types s ks fs at
room_by g types s ks fs (Some args) at = do
  c ← called g types s ks args (suc at)
  call_by g types c.0 c.1 (sign target_of g.ops c.1)

-- an exchange, behind nothing but the object
abbrev pub swap_by : (slot : ℕ) → (fields : List ℕ) → List Front → (own field : ℕ) → (at : ℕ) → Told Kind
swap_by s ks [] y k at = Some (swap y s ks k, suc at)
swap_by s ks (f ∷ fs) y k at = None

-- a statement that begins with an object and then with more, by what stands behind that
abbrev pub object_by : Given → (types : List Ty) → (slot : ℕ) → (fields : List ℕ) → List Front → (at : ℕ) → Option Behind → Told Kind
object_by g types s ks fs at (Some behind.Room) = room_by g types s ks fs (values_in fs) at
object_by g types s ks fs at (Some (behind.Swap y k)) = swap_by s ks fs y k at
object_by g types s ks fs at None = written_to g types s ks fs at

-- the end of a block of a statement of a line
abbrev pub ended : (Op → Option ℕ) → (ops : List Op) → (line slots : ℕ) → (at : ℕ) → Option ℕ
ended of ops line n at = do
  l ← sign mark_of ops at
  test (l == line)
  s ← sign of ops (suc at)
  test (s == n)
  Some (suc (suc at))

-- a block within another one: its code stands at an address, behind variables of these types
abbrev pub Inner : Type 0
Inner = (types : List Ty) → (at : ℕ) → Told Block

-- the second block of an `if`, behind the jump over it
abbrev pub otherwise_told : Given → Inner → (types : List Ty) → (line : ℕ) → Raised → Block → (jump : ℕ) → (at : ℕ) → Told Kind
otherwise_told g inner types line e b to at = do
  c ← inner types at
  end ← ended end_of g.ops line (length types) c.1
  test (to == end)
  Some (branch e b (otherwise c.0), end)

-- a loop, or an `if` with two blocks, whose first block has ended in front of a jump
abbrev pub jumped : Given → Inner → (types : List Ty) → (line start : ℕ) → Raised → Block → (fails : ℕ) → (at : ℕ) → Told Kind
jumped g inner types line start e b fails at = do
  to ← sign jump_of g.ops at
  test (fails == suc at)
  if to == start then Some (while e b, suc at) else otherwise_told g inner types line e b to (suc at)

-- an `if` or a loop, behind the jump over its block
abbrev pub tested : Given → Inner → (types : List Ty) → (line start : ℕ) → Raised → (fails : ℕ) → (at : ℕ) → Told Kind
tested g inner types line start e fails at = do
  b ← inner types at
  end ← ended end_of g.ops line (length types) b.1
  if fails == end then Some (branch e b.0 no_else, end) else jumped g inner types line start e b.0 fails end

-- a statement that begins with a whole expression, by what stands behind that
abbrev pub close_by : Given → Inner → (types : List Ty) → (line start : ℕ) → Raised → (at : ℕ) → Option Close → Told Kind
close_by g inner types line start e at None = taken g types (value e) at
close_by g inner types line start e at (Some close.Print) = Some (print e, suc at)
close_by g inner types line start e at (Some close.Return) = Some (return e, suc at)
close_by g inner types line start e at (Some (close.Test to)) = tested g inner types line start e to (suc at)

-- the end of a window of a statement of a line, and the slot that gives its bridge
abbrev pub window_end : (ops : List Op) → (line slots : ℕ) → (at : ℕ) → Told (Option ℕ)
window_end ops line n at = do
  l ← sign mark_of ops at
  test (l == line)
  w ← sign leave_of ops (suc at)
  test (w.slot == n)
  Some (w.given, suc (suc at))

-- the block of an `enter`, with the class of its bridge, and the slot that gives the bridge behind it
abbrev pub window : Given → Inner → (types : List Ty) → (line : ℕ) → (bridge : ℕ) → (at : ℕ) → Told (ℕ × Block × Option ℕ)
window g inner types line z at = do
  test (z == length types)
  t ← slot_type g.ops g.maps at z
  c ← bridge_class t
  b ← inner (types_inside types c) at
  w ← window_end g.ops line (length types) b.1
  Some ((c, b.0, w.0), w.1)

-- a statement that begins with an expression, by what stands behind that
abbrev pub expr_by : Given → Inner → (types : List Ty) → (line start : ℕ) → Raised → (at : ℕ) → Option Walk → Told Kind
expr_by g inner types line start e at None = do
  behind ← cleared g.ops (all_used types (e ∷ [])) at
  close_by g inner types line start e behind (sign close_of g.ops behind)
expr_by g inner types line start e at (Some (walk.Enter k z)) = do
  p ← path_in e
  w ← window g inner types line z (suc at)
  Some (enter_field p.0 p.1 k w.0.0 w.0.1 w.0.2, w.1)
expr_by g inner types line start e at (Some w) = do
  r ← right_by g types e at (Some w)
  taken g types r.0 r.1

-- a statement with nothing in front, by its first instruction
abbrev pub open_by : Given → Inner → (types : List Ty) → (line : ℕ) → (at : ℕ) → Option Open → Told Kind
open_by g inner types line at None = do
  r ← right_behind g types [] at
  taken g types r.0 r.1
open_by g inner types line at (Some opens.Collect) = Some (collect, suc at)
open_by g inner types line at (Some (opens.Enter s z)) = do
  w ← window g inner types line z (suc at)
  Some (enter s w.0.0 w.0.1 w.0.2, w.1)

-- a statement, by what it begins with
abbrev pub kind_by : Given → Inner → (types : List Ty) → (line start : ℕ) → List Front → (at : ℕ) → Told Kind
kind_by g inner types line start [] at = open_by g inner types line at (sign open_of g.ops at)
kind_by g inner types line start (expression e ∷ []) at = expr_by g inner types line start e at (sign walk_of g.ops at)
kind_by g inner types line start (expression e ∷ f ∷ fs) at = None
kind_by g inner types line start (object s ks ∷ fs) at = object_by g types s ks fs at (sign behind_of g.ops at)
kind_by g inner types line start (place s ks e ∷ fs) at = element_written g types s ks e fs at

-- the statement of a line whose mark stands at an address
abbrev pub kind_told : Given → Inner → (types : List Ty) → (line : ℕ) → (at : ℕ) → Told Kind
kind_told g inner types line at = do
  fs ← fronts_at g.ops (suc at)
  kind_by g inner types line at fs.0 fs.1

-- Blocks

-- the line of the statement that begins at an address; none does where the block ends
abbrev pub starts_by : (line : ℕ) → Option (Unit {0}) → Option ℕ
starts_by line None = Some line
starts_by line (Some closes) = None

abbrev pub starts : (ops : List Op) → (at : ℕ) → Option ℕ
starts ops at = do
  line ← sign mark_of ops at
  starts_by line (sign closing_of ops (suc at))

-- whether a statement is the last one of its block wherever it stands
abbrev pub is_last : Kind → Truth
is_last (declare t r) = false
is_last (assign s r) = false
is_last (write s ks k r) = false
is_last (write_element s ks e r) = false
is_last (call c) = false
is_last (swap y s ks k) = false
is_last (branch e b other) = false
is_last (while e b) = false
is_last (enter s c b w) = false
is_last (enter_field s ks k c b w) = false
is_last (print e) = false
is_last collect = false
is_last (return e) = true

-- a statement, and then more of them, unless it is the last one
abbrev pub followed : (others : Inner) → (types : List Ty) → (line : ℕ) → Kind → (at : ℕ) → (last : Truth) → Told Block
followed others types line k at true = Some (next line k empty, at)
followed others types line k at false = do
  b ← others (types_behind types k) at
  Some (next line k b.0, b.1)

-- the statements of a block, by the line of the first one
abbrev pub block_by : Given → Inner → (others : Inner) → (types : List Ty) → (at : ℕ) → Option ℕ → Told Block
block_by g inner others types at None = Some (empty, at)
block_by g inner others types at (Some line) = do
  k ← kind_told g inner types line at
  followed others types line k.0 k.1 (is_last k.0)

-- the statements of a block, fewer than so many
abbrev pub statements : Given → Inner → (most : ℕ) → Inner
statements g inner zero types at = None
statements g inner (suc n) types at = block_by g inner (statements g inner n) types at (starts g.ops at)

-- a block in which blocks stand so deep at most
unfoldable pub block_told : Given → (depth : ℕ) → Inner
block_told g zero types at = None
block_told g (suc d) types at = statements g (block_told g d) (suc (length g.ops)) types at

-- at an address stands this code, up to another address
pub record Piece (ops : List Op) (at : ℕ) (body : List Op) (end : ℕ) : Type 0 where
  pub parts : drop at ops ≡ body ++ drop end ops
  pub place : end ≡ at + length body

-- the block that is raised at an address has the code that stands there
abbrev pub RaisedBlocksStand : Type 0
RaisedBlocksStand =
    (g : Given) (depth : ℕ) (types : List Ty) (at : ℕ) (b : Block) (end : ℕ) → block_told g depth types at ≡ Some (b, end)
    → Piece g.ops at (block_ops types at b) end
