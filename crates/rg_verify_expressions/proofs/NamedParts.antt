-- What stands in statements, with names, has the code that it has with numbers: paths up to a last field, whole expressions, calls, right sides.
use Rattle.std.proofs.Common.{◌≡◌, ℕ, suc, ◌+◌, if◌then◌else◌, Bool as Truth, false, true, List, [], ◌∷◌, ◌++◌, map, length}
use Rattle.std.proofs.Common.{Option, Some, None, refl, sym, ap, ◌∙◌, option_map}
use Rattle.std.specs.List.{AllByRecursion}
use Rattle.rg_base.specs.declared.ty.Ty.{Ty}
use Rattle.rg_tree.specs.Tree.{Name, Variable, Class}
use Rattle.rg_rules.specs.Capabilities.{is_iso}
use Rattle.rg_rules.specs.Environment.{same_variable}
use Rattle.rg_rules.specs.Paths.{all_but_last, last_field}
use Rattle.rg_code.specs.declared.op.Op.{Op}
use Rattle.rg_code.specs.declared.op.Op.TheVariants as i
use Rattle.rg_code.specs.Lowering.{Scope, slot_of, type_in, field_number, type_behind, type_along, path_code, holder_code, held_number}
use Rattle.rg_code.specs.Lowering.{number_called, target_class, exprs_code, used_slots, used_by_all, clears, whole_code, call_code}
use Rattle.rg_code.specs.Lowering.{new_code, right_code, pace_code, assign_op as assigned}
use Rattle.rg_verify_expressions.specs.Naming.{variable_in, field_name, method_name}
use Rattle.rg_verify_expressions.specs.Raised.{Raised, number, boolean, nil, path, is_nil, size, element, neg, not, binary, path_ops, holder_ops, ops_of, all_ops}
use Rattle.rg_verify_expressions.specs.Raised.{named, AreFound, IsPathFound, IsFound}
use Rattle.rg_verify_expressions.specs.Statements.{Call, Right, value, new, new_tmp, new_iso, freeze, merge, read, more, result_of, type_at, used, all_used}
use Rattle.rg_verify_expressions.specs.Statements.{whole_ops, call_ops, new_ops, right_ops, pace_ops, assign_op}
use Rattle.rg_verify_expressions.specs.Found.{types_of, call_named, right_named, IsCallFound, IsCountFound, IsRightFound}
use Rattle.rg_verify_expressions.proofs.Named.{path-named, code-named, all-named}

-- the type in the slot of a variable
slot-type : (scope : Scope) (x : Variable) → type_at (types_of scope) (slot_of scope x) ≡ type_in scope x
slot-type [] x = refl
slot-type (s ∷ ss) x = by (same_variable s.name x) (slot-type ss x)
  where
    by : (b : Truth) → type_at (types_of ss) (slot_of ss x) ≡ type_in ss x
        → type_at (s.ty ∷ types_of ss) (if b then 0 else suc (slot_of ss x)) ≡ (if b then s.ty else type_in ss x)
    by true h = refl
    by false h = h

-- A last field

-- fields of which one is the last
pub record Ending (ks : List ℕ) (k : ℕ) : Type 0 where
  pub first : Name
  pub more : List Name
  pub same : map field_name (ks ++ k ∷ []) ≡ first ∷ more
  pub front : all_but_last first more ≡ map field_name ks
  pub last : last_field first more ≡ field_name k

pub ending : (ks : List ℕ) (k : ℕ) → Ending ks k
ending [] k = record { first = field_name k; more = []; same = refl; front = refl; last = refl }
ending (j ∷ ks) k =
    let e = ending ks k in
    record {
      first = field_name j;
      more = e.first ∷ e.more;
      same = ap (λ (fs : List Name). field_name j ∷ fs) e.same;
      front = ap (λ (fs : List Name). field_name j ∷ fs) e.front;
      last = e.last;
    }

front-found : (classes : List Class) (t : Ty) (ks : List ℕ) (k : ℕ) → AreFound classes t (ks ++ k ∷ []) → AreFound classes t ks
front-found classes t [] k h = tt
front-found classes t (j ∷ ks) k (e, h) = (e, front-found classes (type_behind classes t (field_name j)) ks k h)

last-found : (classes : List Class) (t : Ty) (ks : List ℕ) (k : ℕ) → AreFound classes t (ks ++ k ∷ [])
    → field_number classes (type_along classes t (map field_name ks)) (field_name k) ≡ k
last-found classes t [] k (e, h) = e
last-found classes t (j ∷ ks) k (e, h) = last-found classes (type_behind classes t (field_name j)) ks k h

module _ (classes : List Class) (scope : Scope) (m : Truth) where
  module _ (s : ℕ) (ks : List ℕ) (k : ℕ) (h : IsPathFound classes scope m s (ks ++ k ∷ [])) where
    -- the walk to the object of the last field
    pub holder-named : holder_code classes scope (variable_in m s) (ending ks k).first (ending ks k).more ≡ path_ops s ks
    holder-named =
        ap (λ (fs : List Name). path_code classes scope (variable_in m s) fs) (ending ks k).front
        ∙ path-named classes scope m s ks (h.0, front-found classes (type_in scope (variable_in m s)) ks k h.1)

    -- the number of the last field
    pub held-named : held_number classes scope (variable_in m s) (ending ks k).first (ending ks k).more ≡ k
    held-named =
        let t = type_in scope (variable_in m s) in
        let e = ending ks k in
        ap (λ (fs : List Name). field_number classes (type_along classes t fs) (last_field e.first e.more)) e.front
        ∙ ap (λ (f : Name). field_number classes (type_along classes t (map field_name ks)) f) e.last ∙ last-found classes t ks k h.1

  -- What is used up

  pub used-named : (r : Raised) → IsFound classes scope m r → used_slots scope (named m r) ≡ used (types_of scope) r
  used-named (path s []) (e, h) =
      let x = variable_in m s in
      let is : type_in scope x ≡ type_at (types_of scope) s = sym (slot-type scope x) ∙ ap (λ (n : ℕ). type_at (types_of scope) n) e in
      ap (λ (n : ℕ). if is_iso (type_in scope x) then n ∷ [] else []) e ∙ ap (λ (t : Ty). if is_iso t then s ∷ [] else []) is
  used-named (path s (k ∷ ks)) h = refl
  used-named (element s ks a) (f, g) = used-named a g
  used-named (neg a) h = used-named a h
  used-named (not a) h = used-named a h
  used-named (binary o a b) (f, g) =
      ap (λ (ss : List ℕ). ss ++ used_slots scope (named m b)) (used-named a f) ∙ ap (λ (ss : List ℕ). used (types_of scope) a ++ ss) (used-named b g)
  used-named _ h = refl

  pub all_used-named : (rs : List Raised) → AllByRecursion (IsFound classes scope m) rs
      → used_by_all scope (map (named m) rs) ≡ all_used (types_of scope) rs
  all_used-named [] h = refl
  all_used-named (r ∷ rs) (f, g) =
      ap (λ (ss : List ℕ). ss ++ used_by_all scope (map (named m) rs)) (used-named r f)
      ∙ ap (λ (ss : List ℕ). used (types_of scope) r ++ ss) (all_used-named rs g)

  pub whole-named : (r : Raised) (at : ℕ) → IsFound classes scope m r → whole_code classes scope at (named m r) ≡ whole_ops (types_of scope) at r
  whole-named r at h =
      ap (λ (os : List Op). os ++ clears (used_slots scope (named m r))) (code-named classes scope m r at h)
      ∙ ap (λ (ss : List ℕ). ops_of at r ++ clears ss) (used-named r h)

  -- a value goes into a slot
  pub assign-named : (s : ℕ) → slot_of scope (variable_in m s) ≡ s → assigned scope (variable_in m s) ≡ assign_op (types_of scope) s
  assign-named s e =
      let x = variable_in m s in
      let is : type_in scope x ≡ type_at (types_of scope) s = sym (slot-type scope x) ∙ ap (λ (n : ℕ). type_at (types_of scope) n) e in
      ap (λ (n : ℕ). if is_iso (type_in scope x) then i.Own n else i.Store n) e ∙ ap (λ (t : Ty). if is_iso t then i.Own s else i.Store s) is

  -- Calls and right sides

  pub call-named : (c : Call) (at : ℕ) → IsCallFound classes scope m c
      → call_code classes scope at (call_named m c) ≡ call_ops (types_of scope) at c
  call-named c at h =
      let args = map (named m) c.args in
      let behind : List Op → ℕ → List Op =
      λ os n. os ++ i.Room ∷ (clears (used_by_all scope args) ++ i.Call n ∷ []) in
      let called = number_called classes (target_class classes scope (call_named m c)) (method_name c.callee.place) in
      let whole : List Op → List Op =
      λ q. (q ++ i.Check ∷ []) ++ behind (exprs_code classes scope (at + length (q ++ i.Check ∷ [])) args) called in
      let receiver = holder_ops c.slot c.fields in
      ap whole (path-named classes scope m c.slot c.fields h.target)
      ∙ ap (λ (os : List Op). receiver ++ behind os called) (all-named classes scope m c.args (at + length receiver) h.args)
      ∙ ap (λ (n : ℕ). receiver ++ behind (all_ops (at + length receiver) c.args) n) h.number
      ∙ ap (λ (ss : List ℕ). receiver ++ (all_ops (at + length receiver) c.args ++ i.Room ∷ (clears ss ++ i.Call c.callee.number ∷ [])))
      (all_used-named c.args h.args)

  -- a new object or array
  new-named : (n : Option Raised) (object array : Op) (at : ℕ) → IsCountFound classes scope m n
      → new_code classes scope at object array (option_map (named m) n) ≡ new_ops at object array n
  new-named None object array at h = refl
  new-named (Some e) object array at h = ap (λ (os : List Op). os ++ array ∷ []) (code-named classes scope m e at h)

  pub right-named : (r : Right) (at : ℕ) → IsRightFound classes scope m r
      → right_code classes scope at (right_named m r) ≡ right_ops (types_of scope) at r
  right-named (value e) at h = whole-named e at h
  right-named (new c n) at (h, g) =
      ap (λ (k : ℕ). new_code classes scope at (i.New k) (i.NewArray k) (option_map (named m) n)) h ∙ new-named n (i.New c) (i.NewArray c) at g
  right-named (new_tmp c n) at (h, g) =
      ap (λ (k : ℕ). new_code classes scope at (i.NewTmp k) (i.NewTmpArray k) (option_map (named m) n)) h
      ∙ new-named n (i.NewTmp c) (i.NewTmpArray c) at g
  right-named (new_iso c n manager) at (h, g) =
      ap (λ (k : ℕ). new_code classes scope at (i.NewIso k manager) (i.NewIsoArray k manager) (option_map (named m) n)) h
      ∙ new-named n (i.NewIso c manager) (i.NewIsoArray c manager) at g
  right-named (freeze s) at h = ap (λ (n : ℕ). i.Freeze n ∷ []) h
  right-named (merge s) at h = ap (λ (n : ℕ). i.Merge n ∷ []) h
  right-named read at h = refl
  right-named more at h = refl
  right-named (result_of c) at h = call-named c at h

  pub pace-named : (r : Right) → pace_code (right_named m r) ≡ pace_ops r
  pace-named (value e) = refl
  pace-named _ = refl
