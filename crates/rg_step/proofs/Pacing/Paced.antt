-- A plain step that makes an object by `new C` or `new C [e]` keeps the windows and the managers.
use Rattle.std.proofs.Common.{◌≡◌, ℕ, Bool as Truth, true, false, true≢false, List, [], ◌∷◌, ◌++◌, length, Option, Some, None, Result, Ok}
use Rattle.std.proofs.Common.{refl, sym, subst, slice_get, slice_set}
use Rattle.rg_base.specs.declared.event.Cause.{Cause}
use Rattle.rg_base.specs.declared.event.Cause.TheVariants.{Asked, Paced}
use Rattle.rg_base.specs.declared.object.Label.{Label}
use Rattle.rg_base.specs.declared.object.Seen.{Seen}
use Rattle.rg_base.specs.declared.outcome.Trap.{Trap}
use Rattle.rg_base.specs.declared.value.Val.{Val}
use Rattle.rg_base.specs.declared.value.Val.TheVariants.{Nil, Int, Bool, Obj}
use Rattle.rg_tree.specs.Tree.{Name, Variable, Path, Expr, Right, new, Class}
use Rattle.rg_tree.specs.Tree.{stmt, StmtKind, declare, assign, assign_element}
use Rattle.rg_rules.specs.Answers.{◌>>=◌}
use Rattle.rg_rules.specs.Outside.Asks.{kind_makes, right_makes}
use Rattle.rg_rules.specs.Evaluation.{element_place, follow_fields, object_at, path_value, value_of, with_element, with_field}
use Rattle.rg_rules.specs.Items.{Item, Do}
use Rattle.rg_rules.specs.Paths.{all_but_last, last_field}
use Rattle.rg_rules.specs.RightSides.{Use, array_size, made, made_array, made_new, new_array, new_object, with_right}
use Rattle.rg_rules.specs.State.{Assigns, Declares, Drops, State, Target, add_local, locals_of, put_local, value_in}
use Rattle.rg_rules.specs.Steps.{Went, next, put_element, put_field, step_assign, step_assign_element, step_first, step_kind}
use Rattle.rg_rules.specs.Types.{class_named, type_of}
use Rattle.rg_rules.proofs.Answers.{bind-ok, then-ok}
use Rattle.rg_rules.proofs.Step.{stepped-went as stepped-ok}
use Rattle.rg_stack.specs.Dues.{first_due, kind_due, paced}
use Rattle.rg_step.specs.Asking.{first_makes}

-- A step is due for the pacer exactly where it makes an object

abbrev pub is_pace : Option Cause → Truth
is_pace None = false
is_pace (Some Asked) = false
is_pace (Some Paced) = true

paced-back : (b : Truth) → b ≡ is_pace (paced b)
paced-back true = refl
paced-back false = refl

kind-paced : (classes : List Class) (k : StmtKind) → kind_makes classes k ≡ is_pace (kind_due classes k)
kind-paced classes (declare x t r) = paced-back (right_makes classes r)
kind-paced classes (assign p r) = paced-back (right_makes classes r)
kind-paced classes (assign_element q e r) = paced-back (right_makes classes r)
kind-paced classes _ = refl

pub first-paced : (classes : List Class) (items : List Item) → first_makes classes items ≡ is_pace (first_due classes items)
first-paced classes (Do (stmt line k) ∷ rest) = kind-paced classes k
first-paced classes _ = refl

-- What such a step keeps

pub record Stays (s q : State) : Type 0 where
  pub windows : q.windows ≡ s.windows
  pub managers : q.managers ≡ s.managers

ok-is : (a b : State) → ◌≡◌ {A = Result State Trap} (Ok a) (Ok b) → a ≡ b
ok-is a b e = cc

put_field-stays : (classes : List Class) (at : Val) (x : Name) (u : State) (v : Val) → Stays u (put_field classes at x u v)
put_field-stays classes Nil x u v = record { windows = refl; managers = refl }
put_field-stays classes (Int z) x u v = record { windows = refl; managers = refl }
put_field-stays classes (Bool b) x u v = record { windows = refl; managers = refl }
put_field-stays classes (Obj a) x u v = by (slice_get u.store a)
  where
    by : (o : Option Seen) → Stays u
        (elim o as (λ p. State) [ None ↦ u | Some q ↦ record u { store = slice_set u.store a (with_field classes x v q) } ])
    by None = record { windows = refl; managers = refl }
    by (Some q) = record { windows = refl; managers = refl }

put_element-stays : (at : Val) (k : ℕ) (u : State) (v : Val) → Stays u (put_element at k u v)
put_element-stays Nil k u v = record { windows = refl; managers = refl }
put_element-stays (Int z) k u v = record { windows = refl; managers = refl }
put_element-stays (Bool b) k u v = record { windows = refl; managers = refl }
put_element-stays (Obj a) k u v = by (slice_get u.store a)
  where
    by : (o : Option Seen) → Stays u
        (elim o as (λ p. State) [ None ↦ u | Some q ↦ record u { store = slice_set u.store a (with_element k v q) } ])
    by None = record { windows = refl; managers = refl }
    by (Some q) = record { windows = refl; managers = refl }

made-stays : (classes : List Class) (s : State) (put : Use) (x : Name) (label : Label) → ((u : State) (v : Val) → Stays u (put u v))
    → Stays s (made classes s put x label)
made-stays classes s put x label keeps = by (class_named classes x)
  where
    by : (o : Option Class) → Stays s
        (elim o as (λ p. State) [ None ↦ s | Some c ↦ put (record s { store = s.store ++ new_object classes x label ∷ [] }) (Obj (length s.store)) ])
    by None = record { windows = refl; managers = refl }
    by (Some c) =
        let k = keeps (record s { store = s.store ++ new_object classes x label ∷ [] }) (Obj (length s.store)) in
        record { windows = k.windows; managers = k.managers }

array-stays : (classes : List Class) (s : State) (put : Use) (x : Name) (e : Expr) (label : Label) → ((u : State) (v : Val) → Stays u (put u v))
    → (q : State) → made_array classes s put x e label ≡ Ok q → Stays s q
array-stays classes s put x e label keeps q = by (class_named classes x)
  where
    by : (o : Option Class) → (elim o as (λ p. Result State Trap) [
      | None ↦ Ok s
      | Some c ↦ do
        v ← value_of classes s.store (locals_of s) e
        n ← array_size v
        Ok (put (record s { store = s.store ++ new_array classes x c n label ∷ [] }) (Obj (length s.store)))
    ]) ≡ Ok q → Stays s q
    by None is = subst (Stays s) (ok-is s q is) (record { windows = refl; managers = refl })
    by (Some c) is =
        let v = bind-ok (value_of classes s.store (locals_of s) e) _ q is in
        let n = bind-ok (array_size v.0) _ q v.2 in
        let k = keeps (record s { store = s.store ++ new_array classes x c n.0 label ∷ [] }) (Obj (length s.store)) in
        subst (Stays s) (ok-is _ q n.2) (record { windows = k.windows; managers = k.managers })

new-stays : (classes : List Class) (s : State) (put : Use) (x : Name) (size : Option Expr) (label : Label)
    → ((u : State) (v : Val) → Stays u (put u v)) → (q : State) → made_new classes s put x size label ≡ Ok q → Stays s q
new-stays classes s put x None label keeps q is = subst (Stays s) (ok-is _ q is) (made-stays classes s put x label keeps)
new-stays classes s put x (Some e) label keeps q is = array-stays classes s put x e label keeps q is

right-stays : (classes : List Class) (s : State) (to : Target) (put : Use) → ((u : State) (v : Val) → Stays u (put u v)) → (r : Right)
    → right_makes classes r ≡ true → (q : State) → with_right classes s to put r ≡ Ok q → Stays s q
right-stays classes s to put keeps (new x size) makes q is = new-stays classes s put x size _ keeps q is
right-stays classes s to put keeps _ makes q is = absurd (true≢false (sym makes))

assign-stays : (classes : List Class) (s : State) (x : Variable) (fields : List Name) (r : Right) → right_makes classes r ≡ true → (q : State)
    → step_assign classes s x fields r ≡ Ok q → Stays s q
assign-stays classes s x [] r makes q is =
    right-stays classes s (Assigns x) (put_local x) (λ u v. record { windows = refl; managers = refl }) r makes q is
assign-stays classes s x (f ∷ fs) r makes q is =
    let at = bind-ok (follow_fields classes s.store (value_in (locals_of s) x) (all_but_last f fs)) _ q is in
    let o = then-ok (object_at s.store at.0) _ q at.2 in
    right-stays classes s Drops (put_field classes at.0 (last_field f fs)) (put_field-stays classes at.0 (last_field f fs)) r makes q o.2

element-stays : (classes : List Class) (s : State) (p : Path) (e : Expr) (r : Right) → right_makes classes r ≡ true → (q : State)
    → step_assign_element classes s p e r ≡ Ok q → Stays s q
element-stays classes s p e r makes q is =
    let at = bind-ok (path_value classes s.store (locals_of s) p) _ q is in
    let o = bind-ok (object_at s.store at.0) _ q at.2 in
    let i = bind-ok (value_of classes s.store (locals_of s) e) _ q o.2 in
    let k = bind-ok (element_place o.0 i.0) _ q i.2 in
    right-stays classes s Drops (put_element at.0 k.0) (put_element-stays at.0 k.0) r makes q k.2

kind-stays : (classes : List Class) (s : State) (line : ℕ) (k : StmtKind) → kind_makes classes k ≡ true → (q : State)
    → step_kind classes s line k ≡ Ok q → Stays s q
kind-stays classes s line (declare x t r) makes q is =
    right-stays classes s (Declares x (type_of classes t)) (add_local (Some x) (type_of classes t))
    (λ u v. record { windows = refl; managers = refl }) r makes q is
kind-stays classes s line (assign p r) makes q is = assign-stays classes s p.base p.fields r makes q is
kind-stays classes s line (assign_element p e r) makes q is = element-stays classes s p e r makes q is
kind-stays classes s line _ makes q is = absurd (true≢false (sym makes))

first-stays : (classes : List Class) (s : State) (items : List Item) → first_makes classes items ≡ true → (q : State)
    → step_first classes s items ≡ Went q → Stays s q
first-stays classes s (Do (stmt line k) ∷ rest) makes q is =
    let u = record s { items = rest } in
    let h = kind-stays classes u line k makes q (stepped-ok line (step_kind classes u line k) q is) in
    record { windows = h.windows; managers = h.managers }
first-stays classes s _ makes q is = absurd (true≢false (sym makes))

pub next-stays : (classes : List Class) (s q : State) → first_makes classes s.items ≡ true → next classes s ≡ Went q → Stays s q
next-stays classes s q makes is = first-stays classes s s.items makes q is
