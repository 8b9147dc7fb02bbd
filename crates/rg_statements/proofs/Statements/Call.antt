-- Frames put on top of others, and steps of calls over what was found.
use Rattle.std.proofs.Common.{◌≡◌, ℕ, ◌+◌, nat_lt, Bool, true, false, not, List, [], ◌∷◌, ◌++◌, All, length, map, reverse, Option, Some, Result, Ok}
use Rattle.std.proofs.Common.{Err, refl, sym, ◌∙◌, ap, subst, arith}
use Rattle.std.specs.Prelude.{flat_map}
use Rattle.std.proofs.Math.ListN.{length-map}
use Rattle.std.proofs.lemmas.List.{reverse-append, length-reverse}
use Rattle.std.proofs.lemmas.List.Elements.{All-push}
use Rattle.rg_base.specs.declared.limits.TheConstants.{FRAMES}
use Rattle.rg_base.specs.declared.object.Seen.{Seen}
use Rattle.rg_base.specs.declared.outcome.Trap.{Trap}
use Rattle.rg_base.specs.declared.value.Val.{Val}
use Rattle.rg_tree.specs.Tree.{Call, Class, Method}
use Rattle.rg_tree.specs.declared.rows.CallRow.{CallRow}
use Rattle.rg_tree.specs.Rows.Tables.{Tables, numbers_in}
use Rattle.rg_tree.specs.Rows.RowTrees.{classes_of, expr_at, stmt_at, call_of, method_of}
use Rattle.rg_tree.specs.declared.rows.MethodRow.{MethodRow}
use Rattle.rg_rules.specs.Answers.{◌>>=◌}
use Rattle.rg_rules.specs.Items.{Item, Do}
use Rattle.rg_rules.specs.Types.{method_named}
use Rattle.rg_rules.specs.Values.{Computed}
use Rattle.rg_rules.specs.State.{Frame, State, Target, top_locals}
use Rattle.rg_rules.specs.Evaluation.{object_at, path_value, values_of, uses, cleared}
use Rattle.rg_rules.specs.RightSides.{called, called_frame, step_call}
use Rattle.rg_values.specs.declared.values.paths.Receiver.{Receiver}
use Rattle.rg_values.specs.declared.state.rows.TargetRow.{TargetRow}
use Rattle.rg_statements.specs.Inner.Calls.{Enters}
use Rattle.rg_values.specs.Receivers.{receiver_of}
use Rattle.rg_values.specs.Kept.{Kept, FrameKept, frame_of, plain_of, shown, target_of}
use Rattle.rg_values.specs.Shown.{locals_of}

-- what holds of each element and of one more
pub All-under : {X : Type 0} (P : X → Type 0) (xs : List X) (x : X) (ys : List X) → ys ≡ xs ++ x ∷ [] → All P xs → P x → All P ys
All-under {X} P xs x ys ys_is all one = let Q : List X → Type 0 = λ zs. All P zs in subst Q (sym ys_is) (All-push P xs x all one)

-- a frame on top of the others
pub frames-pushed : (t : Tables) (below : List FrameKept) (f : FrameKept) →
    map (frame_of t) (reverse (below ++ f ∷ [])) ≡ frame_of t f ∷ map (frame_of t) (reverse below)
frames-pushed t below f = ap (map (frame_of t)) (reverse-append below (f ∷ []))

-- the number of frames
pub frames-count : (t : Tables) (below : List FrameKept) (f : Frame) → length (f ∷ map (frame_of t) (reverse below)) ≡ length below + 1
frames-count t below f = omega (arith, length-map (reverse below) (frame_of t), length-reverse below)

-- a method was entered
pub called-is : (t : Tables) (old new : Kept) (input : List ℕ) (rest : List Item) (number : ℕ) (to : TargetRow) (c : CallRow) (self : Receiver)
    (m : MethodRow) (args : List Val) →
    Ok args ≡ values_of (classes_of t) old.store (locals_of t old.frame.locals) (map (expr_at t) (numbers_in t c.args)) →
    nat_lt (length old.below + 1) FRAMES ≡ true →
    frame_of t new.frame ≡ called_frame (classes_of t) (target_of t to) (method_of t m) self.class self.value args →
    Enters t old new number (numbers_in t c.args) m → shown t old.items ≡ Do (stmt_at t number) ∷ rest →
    called (classes_of t) (record (plain_of t old input) { items = rest }) (target_of t to) (call_of t c) self.value self.class (Some (method_of t m))
    ≡ Ok (plain_of t new input)
called-is t old new input rest number to c self m args args_are few frame enters top =
    let caller : frame_of t enters.caller
    ≡ record {
      locals = cleared (flat_map (uses (locals_of t old.frame.locals)) (map (expr_at t) (numbers_in t c.args))) (locals_of t old.frame.locals);
      target = target_of t old.frame.target;
    } = rw (enters.locals, enters.target) refl in
    let count = frames-count t old.below (frame_of t old.frame) in
    let new_is : plain_of t new input ≡ record (plain_of t old input) {
      frames = frame_of t new.frame ∷ map (frame_of t) (reverse (old.below ++ enters.caller ∷ []));
      items = shown t new.items;
    } = ap (λ k. plain_of t k input) enters.new_is in
    rw (sym args_are, count, few, new_is, frame, frames-pushed t old.below enters.caller, caller, enters.items rest top) refl

-- one more frame may be made
pub may-enter : (n m : ℕ) (deep : Bool) → m ≡ n → deep ≡ not (nat_lt (n + 1) FRAMES) → deep ≡ false → nat_lt (m + 1) FRAMES ≡ true
may-enter n m deep same deep_is shallow = by (nat_lt (m + 1) FRAMES) (ap (λ k. not (nat_lt (k + 1) FRAMES)) same ∙ sym deep_is ∙ shallow)
  where
    by : (b : Bool) → not b ≡ false → b ≡ true
    by true e = refl
    by false e = sym e

-- a method is called, once its receiver is known
abbrev goes-on : List Class → State → Target → Call → Result Receiver Trap → Result State Trap
goes-on cs s to c found = do
  r ← found
  called cs s to c r.value r.class (method_named cs r.class c.method)

abbrev from-object : List Class → State → Target → Call → Val → Result Seen Trap → Result State Trap
from-object cs s to c a found = do
  o ← found
  called cs s to c a o.class (method_named cs o.class c.method)

abbrev from-value : List Class → State → Target → Call → Computed → Result State Trap
from-value cs s to c found = do
  a ← found
  from-object cs s to c a (object_at s.store a)

abbrev receiver-object : Val → Result Seen Trap → Result Receiver Trap
receiver-object a found = do
  o ← found
  Ok (record { value = a; class = o.class })

abbrev receiver-value : List Seen → Computed → Result Receiver Trap
receiver-value store found = do
  a ← found
  receiver-object a (object_at store a)

object-goes-on : (cs : List Class) (s : State) (to : Target) (c : Call) (a : Val) (o : Result Seen Trap) →
    from-object cs s to c a o ≡ goes-on cs s to c (receiver-object a o)
object-goes-on cs s to c a (Ok x) = refl
object-goes-on cs s to c a (Err kind) = refl

value-goes-on : (cs : List Class) (s : State) (to : Target) (c : Call) (v : Computed) →
    from-value cs s to c v ≡ goes-on cs s to c (receiver-value s.store v)
value-goes-on cs s to c (Ok a) = object-goes-on cs s to c a (object_at s.store a)
value-goes-on cs s to c (Err kind) = refl

pub step_call-found : (cs : List Class) (s : State) (to : Target) (c : Call) (self : Receiver) (m : Option Method) →
    Ok self ≡ receiver_of cs s.store (top_locals s.frames) c.target → method_named cs self.class c.method ≡ m →
    step_call cs s to c ≡ called cs s to c self.value self.class m
step_call-found cs s to c self m self_is m_is =
    value-goes-on cs s to c (path_value cs s.store (top_locals s.frames) c.target)
    ∙ ap (goes-on cs s to c) (sym self_is) ∙ ap (called cs s to c self.value self.class) m_is
