-- A step of a state without input leaves no input.
use Rattle.std.proofs.Common.{◌≡◌, ℕ, true, List, [], ◌∷◌, Option, Some, None, slice_get, slice_set, Result, Ok, refl, sym, ap, ◌∙◌}
use Rattle.rg_base.specs.declared.object.Seen.{Seen}
use Rattle.rg_base.specs.declared.outcome.Trap.{Trap}
use Rattle.rg_base.specs.declared.value.Val.{Val}
use Rattle.rg_base.specs.declared.value.Val.TheVariants.{Nil, Int, Bool as Truth, Obj}
use Rattle.rg_base.specs.Input.{NextNumber, found, malformed, at_end, next_number}
use Rattle.rg_tree.specs.Tree.{Name, Variable, Path, Expr, Right, value, new, new_tmp, new_iso, freeze, merge, read, more, result_of, stmt, StmtKind}
use Rattle.rg_tree.specs.Tree.{declare, assign, assign_element, call, swap, branch, while, enter, print, collect, return, Class}
use Rattle.rg_rules.specs.Types.{type_of}
use Rattle.rg_rules.specs.Paths.{all_but_last, last_field}
use Rattle.rg_rules.specs.Items.{Item, Do, EndAt, LeaveAt, LeaveGiving, Back}
use Rattle.rg_rules.specs.State.{Target, Declares, Assigns, Drops, State, locals_of, value_in, put_local, add_local}
use Rattle.rg_rules.specs.Evaluation.{object_at, path_value, value_of, with_field, element_place, with_element, follow_fields}
use Rattle.rg_rules.specs.RightSides.{Use, taken, is_left, with_right}
use Rattle.rg_rules.specs.Steps.{put_field, put_element, step_assign, step_assign_element, step_kind, step_first, Went}
use Rattle.rg_rules.specs.Steps.{next}
use Rattle.rg_rules.specs.Outside.Inputs.{asks, kind_asks, first_asks}
use Rattle.rg_rules.proofs.Answers.{bind-ok, then-ok}
use Rattle.rg_rules.proofs.Step.{stepped-went}

abbrev gave : State → Result State Trap
gave s = Ok s

ok-is : (a b : State) → gave a ≡ gave b → a ≡ b
ok-is a b h = cc

-- a use of a value that leaves the input
abbrev LeavesInput : Use → Type 0
LeavesInput put = (s : State) (v : Val) → (put s v).input ≡ s.input

put_field-input : (classes : List Class) (at : Val) (x : Name) → LeavesInput (put_field classes at x)
put_field-input classes Nil x s v = refl
put_field-input classes (Int z) x s v = refl
put_field-input classes (Truth b) x s v = refl
put_field-input classes (Obj a) x s v = by (slice_get s.store a)
  where
    by : (o : Option Seen) →
        (elim o as (λ p. State) [ None ↦ s | Some q ↦ record s { store = slice_set s.store a (with_field classes x v q) } ]).input ≡ s.input
    by None = refl
    by (Some q) = refl

put_element-input : (at : Val) (k : ℕ) → LeavesInput (put_element at k)
put_element-input Nil k s v = refl
put_element-input (Int z) k s v = refl
put_element-input (Truth b) k s v = refl
put_element-input (Obj a) k s v = by (slice_get s.store a)
  where
    by : (o : Option Seen) →
        (elim o as (λ p. State) [ None ↦ s | Some q ↦ record s { store = slice_set s.store a (with_element k v q) } ]).input ≡ s.input
    by None = refl
    by (Some q) = refl

-- what is asked of no input: there is no number, and nothing more
taken-empty : (s u : State) (put : Use) (n : NextNumber) → n ≡ at_end → taken s put n ≡ Ok u → ⊥
taken-empty s u put (found z rest) e h = cc
taken-empty s u put malformed e h = cc
taken-empty s u put at_end e h = cc

right-input : (classes : List Class) (s u : State) (to : Target) (put : Use) → LeavesInput put → (r : Right) → asks r ≡ true → s.input ≡ []
    → with_right classes s to put r ≡ Ok u → u.input ≡ []
right-input classes s u to put leaves (value e) a none h = cc
right-input classes s u to put leaves (new x size) a none h = cc
right-input classes s u to put leaves (new_tmp x size) a none h = cc
right-input classes s u to put leaves (new_iso x size m) a none h = cc
right-input classes s u to put leaves (freeze y) a none h = cc
right-input classes s u to put leaves (merge y) a none h = cc
right-input classes s u to put leaves read a none h = absurd (taken-empty s u put (next_number s.input) (ap next_number none) h)
right-input classes s u to put leaves more a none h =
    ap (λ q. q.input) (sym (ok-is (put s (Truth (is_left (next_number s.input)))) u h)) ∙ leaves s (Truth (is_left (next_number s.input))) ∙ none
right-input classes s u to put leaves (result_of c) a none h = cc

assign-input : (classes : List Class) (s u : State) (x : Variable) (fs : List Name) (r : Right) → asks r ≡ true → s.input ≡ []
    → step_assign classes s x fs r ≡ Ok u → u.input ≡ []
assign-input classes s u x [] r a none h = right-input classes s u (Assigns x) (put_local x) (λ t v. refl) r a none h
assign-input classes s u x (f ∷ fs) r a none h =
    let at = bind-ok (follow_fields classes s.store (value_in (locals_of s) x) (all_but_last f fs)) _ u h in
    let o = then-ok (object_at s.store at.0) _ u at.2 in
    right-input classes s u Drops (put_field classes at.0 (last_field f fs)) (put_field-input classes at.0 (last_field f fs)) r a none o.2

assign_element-input : (classes : List Class) (s u : State) (q : Path) (e : Expr) (r : Right) → asks r ≡ true → s.input ≡ []
    → step_assign_element classes s q e r ≡ Ok u → u.input ≡ []
assign_element-input classes s u q e r a none h =
    let at = bind-ok (path_value classes s.store (locals_of s) q) _ u h in
    let o = bind-ok (object_at s.store at.0) _ u at.2 in
    let i = bind-ok (value_of classes s.store (locals_of s) e) _ u o.2 in
    let k = bind-ok (element_place o.0 i.0) _ u i.2 in
    right-input classes s u Drops (put_element at.0 k.0) (put_element-input at.0 k.0) r a none k.2

kind-input : (classes : List Class) (s u : State) (line : ℕ) (k : StmtKind) → kind_asks k ≡ true → s.input ≡ [] → step_kind classes s line k ≡ Ok u
    → u.input ≡ []
kind-input classes s u line (declare x t r) a none h =
    right-input classes s u (Declares x (type_of classes t)) (add_local (Some x) (type_of classes t)) (λ q v. refl) r a none h
kind-input classes s u line (assign p r) a none h = assign-input classes s u p.base p.fields r a none h
kind-input classes s u line (assign_element q e r) a none h = assign_element-input classes s u q e r a none h
kind-input classes s u line (call c) a none h = cc
kind-input classes s u line (swap y p) a none h = cc
kind-input classes s u line (branch e first other) a none h = cc
kind-input classes s u line (while e body) a none h = cc
kind-input classes s u line (enter p z body giving) a none h = cc
kind-input classes s u line (print e) a none h = cc
kind-input classes s u line collect a none h = cc
kind-input classes s u line (return e) a none h = cc

first-input : (classes : List Class) (s u : State) (items : List Item) → first_asks items ≡ true → s.input ≡ [] → step_first classes s items ≡ Went u
    → u.input ≡ []
first-input classes s u [] a none h = cc
first-input classes s u (Do (stmt line k) ∷ rest) a none h =
    let q : State = record s { items = rest } in kind-input classes q u line k a none (stepped-went line (step_kind classes q line k) u h)
first-input classes s u (EndAt k ∷ rest) a none h = cc
first-input classes s u (LeaveAt k ∷ rest) a none h = cc
first-input classes s u (LeaveGiving line k w ∷ rest) a none h = cc
first-input classes s u (Back ∷ rest) a none h = cc

-- where the first thing to do asks for the input, and there is none, there is none behind the step
pub asking-input : (classes : List Class) (s u : State) → first_asks s.items ≡ true → s.input ≡ [] → next classes s ≡ Went u → u.input ≡ []
asking-input classes s u a none h = first-input classes s u s.items a none h
