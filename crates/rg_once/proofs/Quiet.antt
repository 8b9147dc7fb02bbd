-- Steps that make nothing and change no label, and right sides that make an object.
use Rattle.std.proofs.Common.{◌≡◌, ◌⊎◌, inl, inr, ℕ, false, List, [], ◌∷◌, ◌++◌, length, Option, Some, None}
use Rattle.std.proofs.Common.{slice_get, slice_set, Result, Ok, refl, sym, ap, ◌∙◌, subst}
use Rattle.std.proofs.lemmas.Bool.{cases_eq}
use Rattle.std.proofs.lemmas.List.{length-set}
use Rattle.std.proofs.lemmas.Option.{same_Some}
use Rattle.rg_base.specs.Input.{NextNumber, found, malformed, at_end, next_number}
use Rattle.rg_base.specs.declared.object.Label.{Label}
use Rattle.rg_base.specs.declared.object.Label.TheVariants.{Region, Temp}
use Rattle.rg_base.specs.declared.object.Seen.{Seen}
use Rattle.rg_base.specs.declared.words.Manager.{Manager}
use Rattle.rg_base.specs.declared.value.Val.{Val}
use Rattle.rg_base.specs.declared.value.Val.TheVariants as val
use Rattle.rg_tree.specs.Tree.{Block, Call, Class, Else, Expr, Method, Name, Right, Variable, freeze, merge, more, new, new_iso, new_tmp, no_else}
use Rattle.rg_tree.specs.Tree.{otherwise}
use Rattle.rg_tree.specs.Tree.{read, result_of, value}
use Rattle.rg_rules.specs.Answers.{◌>>=◌}
use Rattle.rg_rules.specs.Evaluation.{computed, follow_fields, object_at, path_value, value_of, values_of, with_element, with_field}
use Rattle.rg_rules.specs.Items.{Item}
use Rattle.rg_rules.specs.Regions.{region_of}
use Rattle.rg_rules.specs.RightSides.{Use, array_size, called, made_new, new_array, new_object, step_call, taken, with_region, with_right}
use Rattle.rg_rules.specs.State.{Assigns, Declares, Drops, Frame, State, Target, Window, active, deliver, locals_of, top_number, value_in}
use Rattle.rg_rules.specs.Steps.{begin_else, entered, put_at, put_element, put_field, step_enter, step_leave, step_leave_giving, step_return}
use Rattle.rg_rules.specs.Steps.{step_swap, with_window}
use Rattle.rg_rules.specs.Types.{class_named, field_place, fields_of, method_named}
use Rattle.rg_rules.specs.Paths.{all_but_last, last_field}
use Rattle.rg_rules.proofs.Answers.{bind-ok, then-ok}
use Rattle.rg_rules.proofs.Step.{computed-ok}
use Rattle.rg_sound.proofs.Owners.Owner.{get-set, get-set-other}
use Rattle.rg_base.specs.declared.object.Place.{Place}
use Rattle.rg_base.specs.declared.object.Place.TheVariants.{Var, Field}
use Rattle.rg_base.specs.declared.outcome.Trap.{Trap}
use Rattle.rg_once.proofs.Moves.{right_moves}

-- as many objects, with the same labels
pub record Same (xs ys : List Seen) : Type 0 where
  pub labels : (a : ℕ) (o v : Seen) → slice_get xs a ≡ Some o → slice_get ys a ≡ Some v → v.label ≡ o.label
  pub count : length ys ≡ length xs

pub still : (xs ys : List Seen) → ys ≡ xs → Same xs ys
still xs ys is = record {
  labels = λ a o v e g. ap (λ (x : Seen). x.label) (same_Some v o (sym g ∙ ap (λ l. slice_get l a) is ∙ e));
  count = ap length is;
}

pub ok-same : {E A : Type 0} (x y : A) → ◌≡◌ {A = Result A E} (Ok x) (Ok y) → x ≡ y
ok-same x y e = cc

-- a write into a field
field-label : (classes : List Class) (x : Name) (v : Val) (o : Seen) → (with_field classes x v o).label ≡ o.label
field-label classes x v o = by (field_place (fields_of classes o.class) x)
  where
    by : (k : Option ℕ) → (λ (x : Seen). x.label) (elim k [ None ↦ o | Some n ↦ record o { fields = slice_set o.fields n v } ]) ≡ o.label
    by None = refl
    by (Some k) = refl

set-same : (xs : List Seen) (a : ℕ) (o n : Seen) → slice_get xs a ≡ Some o → n.label ≡ o.label → Same xs (slice_set xs a n)
set-same xs a o n there label = record { labels = labels; count = length-set xs a n }
  where
    labels : (b : ℕ) (u v : Seen) → slice_get xs b ≡ Some u → slice_get (slice_set xs a n) b ≡ Some v → v.label ≡ u.label
    labels b u v e g = elim (cases_eq b a) [
      | inl same ↦
          ap (λ (x : Seen). x.label) (same_Some v n (sym g ∙ ap (slice_get (slice_set xs a n)) same ∙ get-set xs a n o there)) ∙ label
          ∙ ap (λ (x : Seen). x.label) (same_Some o u (sym there ∙ ap (slice_get xs) (sym same) ∙ e))
      | inr other ↦ ap (λ (x : Seen). x.label) (same_Some v u (sym g ∙ get-set-other xs a b n other ∙ e))
    ]

pub put-same : (classes : List Class) (at : Val) (x : Name) (s : State) (v : Val) → Same s.store (put_field classes at x s v).store
put-same classes val.Nil x s v = still s.store s.store refl
put-same classes (val.Int z) x s v = still s.store s.store refl
put-same classes (val.Bool b) x s v = still s.store s.store refl
put-same classes (val.Obj a) x s v = by (slice_get s.store a) refl
  where
    by : (o : Option Seen) → slice_get s.store a ≡ o
        → Same s.store
        ((λ (y : State). y.store) (elim o [ None ↦ s | Some o ↦ record s { store = slice_set s.store a (with_field classes x v o) } ]))
    by None e = still s.store s.store refl
    by (Some o) e = set-same s.store a o (with_field classes x v o) e (field-label classes x v o)

pub element-same : (at : Val) (k : ℕ) (s : State) (v : Val) → Same s.store (put_element at k s v).store
element-same val.Nil k s v = still s.store s.store refl
element-same (val.Int z) k s v = still s.store s.store refl
element-same (val.Bool b) k s v = still s.store s.store refl
element-same (val.Obj a) k s v = by (slice_get s.store a) refl
  where
    by : (o : Option Seen) → slice_get s.store a ≡ o
        → Same s.store
        ((λ (y : State). y.store) (elim o [ None ↦ s | Some o ↦ record s { store = slice_set s.store a (with_element k v o) } ]))
    by None e = still s.store s.store refl
    by (Some o) e = set-same s.store a o (with_element k v o) e refl

pub then-same : (xs ys zs : List Seen) → ys ≡ xs → Same ys zs → Same xs zs
then-same xs ys zs is same = subst (λ l. Same l zs) is same

-- Expressions and calls

pub computed-store : (classes : List Class) (s : State) (e : Expr) (d : State × Val) → computed classes s e ≡ Ok d → d.0.store ≡ s.store
computed-store classes s e d is = ap (λ (u : State). u.store) (computed-ok classes s e d is).state

called-store : (classes : List Class) (s u : State) (target : Target) (c : Call) (self : Val) (class : ℕ) (m : Option Method)
    → called classes s target c self class m ≡ Ok u → u.store ≡ s.store
called-store classes s u target c self class None e = ap (λ (x : State). x.store) (sym (ok-same s u e))
called-store classes s u target c self class (Some m) e =
    let args = bind-ok (values_of classes s.store (locals_of s) c.args) _ u e in
    let deep = then-ok _ _ u args.2 in
    ap (λ (x : State). x.store) (sym (ok-same _ u deep.2))

pub call-store : (classes : List Class) (s u : State) (target : Target) (c : Call) → step_call classes s target c ≡ Ok u → u.store ≡ s.store
call-store classes s u target c e =
    let self = bind-ok (path_value classes s.store (locals_of s) c.target) _ u e in
    let o = bind-ok (object_at s.store self.0) _ u self.2 in
    called-store classes s u target c self.0 o.0.class (method_named classes o.0.class c.method) o.2

-- Right sides

-- an object was made, and put where the value goes
pub record Makes (s u : State) (put : Use) : Type 0 where
  pub object : Seen
  pub with : State
  pub store : with.store ≡ s.store ++ object ∷ []
  pub frames : with.frames ≡ s.frames
  pub windows : with.windows ≡ s.windows
  pub is : u ≡ put with (val.Obj (length s.store))

module _ (classes : List Class) (s u : State) (put : Use) (keeps : (x : State) (v : Val) → Same x.store (put x v).store) where
  -- a new object, or a new array where a size stands; what is done with it may begin with more than the object
  makes-new : (puts : Use) (opens : State → State) → ((x : State) (v : Val) → puts x v ≡ put (opens x) v)
      → ((x : State) → (opens x).store ≡ x.store) → ((x : State) → (opens x).frames ≡ x.frames)
      → ((x : State) → (opens x).windows ≡ x.windows) → (x : Name) (size : Option Expr) (label : Label)
      → made_new classes s puts x size label ≡ Ok u → Same s.store u.store ⊎ Makes s u put
  makes-new puts opens is store frames windows x size label = by size
    where
      here : (n : Seen) → puts (record s { store = s.store ++ n ∷ [] }) (val.Obj (length s.store)) ≡ u → Same s.store u.store ⊎ Makes s u put
      here n e = inr (record {
        object = n;
        with = opens (record s { store = s.store ++ n ∷ [] });
        store = store (record s { store = s.store ++ n ∷ [] });
        frames = frames (record s { store = s.store ++ n ∷ [] });
        windows = windows (record s { store = s.store ++ n ∷ [] });
        is = sym e ∙ is (record s { store = s.store ++ n ∷ [] }) (val.Obj (length s.store));
      })

      none : s ≡ u → Same s.store u.store ⊎ Makes s u put
      none e = inl (still s.store u.store (ap (λ (x : State). x.store) (sym e)))

      object : (o : Option Class) → (elim o [
        | None ↦ s
        | Some c ↦ puts (record s { store = s.store ++ new_object classes x label ∷ [] }) (val.Obj (length s.store))
      ]) ≡ u → Same s.store u.store ⊎ Makes s u put
      object None e = none e
      object (Some c) e = here (new_object classes x label) e

      array : (n : Expr) (o : Option Class) → ◌≡◌ {A = Result State Trap} (elim o [
        | None ↦ Ok s
        | Some c ↦ do
          v ← value_of classes s.store (locals_of s) n
          k ← array_size v
          Ok (puts (record s { store = s.store ++ new_array classes x c k label ∷ [] }) (val.Obj (length s.store)))
      ]) (Ok u) → Same s.store u.store ⊎ Makes s u put
      array n None e = none (ok-same s u e)
      array n (Some c) e =
          let v = bind-ok (value_of classes s.store (locals_of s) n) _ u e in
          let k = bind-ok (array_size v.0) _ u v.2 in
          here (new_array classes x c k.0 label) (ok-same _ u k.2)

      by : (size : Option Expr) → made_new classes s puts x size label ≡ Ok u → Same s.store u.store ⊎ Makes s u put
      by None e = object (class_named classes x) (ok-same _ u e)
      by (Some n) e = array n (class_named classes x) e

  makes-here : (x : Name) (size : Option Expr) (label : Label) → made_new classes s put x size label ≡ Ok u → Same s.store u.store ⊎ Makes s u put
  makes-here = makes-new put (λ x. x) (λ x v. refl) (λ x. refl) (λ x. refl) (λ x. refl)

  makes-iso : (m : Manager) (x : Name) (size : Option Expr) (label : Label) → made_new classes s (with_region m put) x size label ≡ Ok u
      → Same s.store u.store ⊎ Makes s u put
  makes-iso m = makes-new (with_region m put) (λ x. record x { managers = x.managers ++ m ∷ [] }) (λ x v. refl) (λ x. refl) (λ x. refl) (λ x. refl)

  taken-same : (n : NextNumber) → taken s put n ≡ Ok u → Same s.store u.store
  taken-same (found z rest) e =
      subst (λ (x : State). Same s.store x.store) (ok-same _ u e) (keeps (record s { input = rest }) (val.Int z))
  taken-same malformed e = absurd cc
  taken-same at_end e = absurd cc

  pub right-does : (target : Target) (r : Right) → right_moves r ≡ false → with_right classes s target put r ≡ Ok u
      → Same s.store u.store ⊎ Makes s u put
  right-does target (value e) quiet h =
      let c = bind-ok (computed classes s e) _ u h in
      inl (subst (λ (x : State). Same s.store x.store) (ok-same _ u c.2)
      (then-same s.store c.0.0.store _ (computed-store classes s e c.0 c.1) (keeps c.0.0 c.0.1)))
  right-does target (new x size) quiet h = makes-here x size (Region (active s.windows)) h
  right-does target (new_tmp x size) quiet h = makes-here x size (Temp (top_number s.windows)) h
  right-does target (new_iso x size m) quiet h = makes-iso m x size (Region (length s.managers)) h
  right-does target (freeze y) quiet h = absurd cc
  right-does target (merge y) quiet h = absurd cc
  right-does target read quiet h = inl (taken-same (next_number s.input) h)
  right-does target more quiet h = inl (subst (λ (x : State). Same s.store x.store) (ok-same _ u h) (keeps s _))
  right-does target (result_of c) quiet h = inl (still s.store u.store (call-store classes s u target c h))

-- Other statements

module _ (classes : List Class) (s u : State) where
  pub swap-same : (y x : Variable) (fs : List Name) → step_swap classes s y x fs ≡ Ok u → Same s.store u.store
  swap-same y x [] h = still s.store u.store (ap (λ (x : State). x.store) (sym (ok-same s u h)))
  swap-same y x (f ∷ fs) h =
      let at = bind-ok (follow_fields classes s.store (value_in (locals_of s) x) (all_but_last f fs)) _ u h in
      let o = bind-ok (object_at s.store at.0) _ u at.2 in
      subst (λ (x : State). Same s.store x.store) (ok-same _ u o.2)
      (put-same classes at.0 (last_field f fs) s (value_in (locals_of s) y))

  entered-store : (owner : Place) (z : Name) (body : Block) (after : ℕ → Item) (bridge : Val) → entered s owner z body after bridge ≡ Ok u
      → u.store ≡ s.store
  entered-store owner z body after bridge h =
      let o = bind-ok (object_at s.store bridge) _ u h in
      sym (ap (λ (x : State). x.store) (ok-same _ u o.2)) ∙ by (region_of o.0.label) o.0.class
    where
      by : (r : Option ℕ) (class : ℕ) → (with_window s owner z body after bridge class r).store ≡ s.store
      by None class = refl
      by (Some r) class = refl

  pub enter-store : (x : Variable) (fs : List Name) (z : Name) (body : Block) (after : ℕ → Item) → step_enter classes s x fs z body after ≡ Ok u
      → u.store ≡ s.store
  enter-store x [] z body after h = entered-store _ z body after _ h
  enter-store x (f ∷ fs) z body after h =
      let at = bind-ok (follow_fields classes s.store (value_in (locals_of s) x) (all_but_last f fs)) _ u h in
      let o = bind-ok (object_at s.store at.0) _ u at.2 in
      entered-store _ z body after _ o.2

  deliver-store : (t : Target) (x : State) (v : Val) → (deliver t x v).store ≡ x.store
  deliver-store (Declares n t) x v = refl
  deliver-store (Assigns n) x v = refl
  deliver-store Drops x v = refl

  pub return-store : (e : Expr) (fs : List Frame) → step_return classes s e fs ≡ Ok u → u.store ≡ s.store
  return-store e [] h = ap (λ (x : State). x.store) (sym (ok-same s u h))
  return-store e (f ∷ []) h = ap (λ (x : State). x.store) (sym (ok-same s u h))
  return-store e (f ∷ g ∷ fs) h =
      let d = bind-ok (computed classes s e) _ u h in
      sym (ap (λ (x : State). x.store) (ok-same _ u d.2)) ∙ deliver-store f.target (record s { frames = g ∷ fs }) d.0.1

pub else-store : (s : State) (other : Else) → (begin_else s other).store ≡ s.store
else-store s no_else = refl
else-store s (otherwise b) = refl

pub leave-store : (k : ℕ) (s : State) (ws : List Window) → (step_leave k s ws).store ≡ s.store
leave-store k s [] = refl
leave-store k s (w ∷ []) = refl
leave-store k s (w ∷ v ∷ ws) = refl

-- a place takes a value
at-same : (place : Option Place) (s : State) (v : Val) → Same s.store (put_at place s v).store
at-same None s v = still s.store s.store refl
at-same (Some (Var n i)) s v = still s.store s.store refl
at-same (Some (Field a k)) s v = element-same (val.Obj a) k s v

pub giving-same : (k : ℕ) (w : Name) (s u : State) (ws : List Window) → step_leave_giving k w s ws ≡ Ok u → Same s.store u.store
giving-same k w s u [] e = still s.store u.store (ap (λ (x : State). x.store) (sym (ok-same s u e)))
giving-same k w s u (top ∷ []) e = still s.store u.store (ap (λ (x : State). x.store) (sym (ok-same s u e)))
giving-same k w s u (top ∷ v ∷ ws) e =
    let o = then-ok (object_at s.store (value_in (locals_of s) (Some w))) _ u e in
    subst (λ (x : State). Same s.store x.store) (ok-same _ u o.2)
    (at-same top.owner (step_leave k s (top ∷ v ∷ ws)) (value_in (locals_of s) (Some w)))
