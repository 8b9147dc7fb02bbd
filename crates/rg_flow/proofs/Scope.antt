-- Scopes against the environments that they stand for.
use Rattle.std.proofs.Common.{◌≡◌, ◌≢◌, ℕ, ◌<◌, Bool, true, false, inl, inr, List, [], ◌∷◌, length, map, find, Option, None}
use Rattle.std.proofs.Common.{Some, option_map, nat_eq, bytes_eq, if◌then◌else◌, refl, sym, ap, subst, ◌∙◌}
use Rattle.std.specs.Prelude.{ok_or, Result, Ok, Err, IfSome}
use Rattle.std.specs.List.{AllByRecursion}
use Rattle.std.proofs.lemmas.Bool.Decides.{eqb_tells}
use Rattle.std.proofs.lemmas.List.Elements.{recursion_from_All, All-from_recursion}
use Rattle.std.proofs.lemmas.Slice.Eq.{bytes_eq-Decides}
use Rattle.rg_base.specs.declared.fault.Code.{Code}
use Rattle.rg_base.specs.declared.fault.Code.TheVariants.{Unknown}
use Rattle.rg_tree.specs.Tree.{Name}
use Rattle.rg_tree.specs.Rows.Tables.{Tables, name_at, AreDistinct}
use Rattle.rg_tree.specs.Rows.RowTrees.{program_of, variable_of}
use Rattle.rg_tree.specs.Rows.RowsExist.{IsNameIn}
use Rattle.rg_tree.proofs.Callers.{name_at-injective}
use Rattle.rg_rules.specs.Environment as rules
use Rattle.rg_names.specs.TreeAnswers.{IsKnown}
use Rattle.rg_flow.specs.Scope.{Slot, Scope, same_name, marked_slot, marked, entry_of, env_of, IsSlotIn}
use Rattle.rg_flow.specs.Scope.{IsScopeIn}
use Rattle.rg_flow.specs.States.{readiness_of, slot_of, FoundAs, FoundInTree, IsReadable}
use Rattle.rg_flow.specs.declared.env.found.Found.{Found}
use Rattle.rg_flow.proofs.NameTests.{same-eq}

module _ (t : Tables) (d : AreDistinct t.names) where
  bytes-of : (i j : ℕ) → i < length t.names → j < length t.names → bytes_eq (name_at t i) (name_at t j) ≡ nat_eq i j
  bytes-of i j li lj = elim (eqb_tells i j) [
    | inl same ↦ (bytes_eq-Decides (name_at t i) (name_at t j)).1 (ap (name_at t) same.1) ∙ sym same.0
    | inr apart ↦ apart-bytes (name_at t i) (name_at t j) (λ e. apart.1 (name_at-injective t d i j li lj e)) ∙ sym apart.0
  ]
    where
      apart-bytes : (x y : Name) → x ≢ y → bytes_eq x y ≡ false
      apart-bytes x y n = by (bytes_eq x y) refl
        where
          by : (b : Bool) → bytes_eq x y ≡ b → bytes_eq x y ≡ false
          by true e = absurd (n ((bytes_eq-Decides x y).0 e))
          by false e = e

  -- two variables are one where the numbers of their names are
  pub same-tree : (n m : Option ℕ) → IfSome n (IsNameIn t) → IfSome m (IsNameIn t) →
      rules.same_variable (variable_of t n) (variable_of t m) ≡ same_name n m
  same-tree None None l k = refl
  same-tree None (Some m) l k = refl
  same-tree (Some n) None l k = refl
  same-tree (Some n) (Some m) l k = bytes-of n m l k

  -- the entry of a variable is that of its first slot
  pub find-tree : (name : Option ℕ) → IfSome name (IsNameIn t) → (slots : List Slot) → AllByRecursion (IsSlotIn t) slots →
      find (λ e. rules.same_variable e.name (variable_of t name)) (map (entry_of t) slots) ≡ option_map (entry_of t) (slot_of name slots)
  find-tree name l [] h = refl
  find-tree name l (s ∷ ss) h = rw (same-tree s.name name h.0.name l) (by (same_name s.name name) (find-tree name l ss h.1))
    where
      by : (b : Bool) → find (λ e. rules.same_variable e.name (variable_of t name)) (map (entry_of t) ss)
          ≡ option_map (entry_of t) (slot_of name ss) →
          (if b then Some (entry_of t s) else find (λ e. rules.same_variable e.name (variable_of t name)) (map (entry_of t) ss))
          ≡ option_map (entry_of t) (if b then Some s else slot_of name ss)
      by true e = refl
      by false e = e

  -- the variables of a name are in another state
  pub marked-slots : (name : Option ℕ) → IfSome name (IsNameIn t) → (now : rules.Readiness) (slots : List Slot) → AllByRecursion (IsSlotIn t) slots →
      map (entry_of t) (map (marked_slot name now) slots) ≡ map (rules.marked_entry (variable_of t name) now) (map (entry_of t) slots)
  marked-slots name l now [] h = refl
  marked-slots name l now (s ∷ ss) h = rw (same-tree s.name name h.0.name l) (by (same_name s.name name) (marked-slots name l now ss h.1))
    where
      by : (b : Bool) → map (entry_of t) (map (marked_slot name now) ss) ≡ map (rules.marked_entry (variable_of t name) now) (map (entry_of t) ss) →
          entry_of t (if b then record s { readiness = now } else s) ∷ map (entry_of t) (map (marked_slot name now) ss)
          ≡ (if b then record (entry_of t s) { readiness = now } else entry_of t s) ∷ map (rules.marked_entry (variable_of t name) now)
          (map (entry_of t) ss)
      by true e = ap (λ es. record (entry_of t s) { readiness = now } ∷ es) e
      by false e = ap (λ es. entry_of t s ∷ es) e

  pub marked-tree : (name : Option ℕ) → IfSome name (IsNameIn t) → (now : rules.Readiness) (scope : Scope) → IsScopeIn t scope →
      env_of t (marked name now scope) ≡ rules.marked (variable_of t name) now (env_of t scope)
  marked-tree name l now scope h =
      ap (λ (es : List rules.Entry). record { depth = scope.depth; entries = es })
      (marked-slots name l now scope.slots (recursion_from_All (IsSlotIn t) scope.slots h))

-- the first variable of a name has that name
slot_of-name : (name : Option ℕ) (slots : List Slot) (s : Slot) → slot_of name slots ≡ Some s → s.name ≡ name
slot_of-name name [] s h = cc
slot_of-name name (u ∷ us) s h = by (same_name u.name name) refl h (slot_of-name name us s)
  where
    by : (b : Bool) → same_name u.name name ≡ b → (if b then Some u else slot_of name us) ≡ Some s → (slot_of name us ≡ Some s → s.name ≡ name) →
        s.name ≡ name
    by true e h rest = let same : u ≡ s = cc in subst (λ (x : Slot). x.name ≡ name) same (same-eq u.name name e)
    by false e h rest = rest h

slot_of-in : (P : Slot → Type 0) (name : Option ℕ) (slots : List Slot) (s : Slot) → AllByRecursion P slots → slot_of name slots ≡ Some s → P s
slot_of-in P name [] s a h = cc
slot_of-in P name (u ∷ us) s a h = by (same_name u.name name) h (slot_of-in P name us s a.1)
  where
    by : (b : Bool) → (if b then Some u else slot_of name us) ≡ Some s → (slot_of name us ≡ Some s → P s) → P s
    by true h rest = let same : u ≡ s = cc in subst P same a.0
    by false h rest = rest h

known-each : (t : Tables) (slots : List Slot) → AllByRecursion (IsSlotIn t) slots →
    AllByRecursion (λ (u : Slot). IsKnown (program_of t).classes u.ty) slots
known-each t [] a = tt
known-each t (u ∷ us) a = (a.0.ty, known-each t us a.1)

-- what is found of a variable is what the rules see of it
pub found-tree : (t : Tables) → AreDistinct t.names → (name : Option ℕ) → IfSome name (IsNameIn t) → (scope : Scope) → IsScopeIn t scope →
    (answer : Result Found Code) →
    FoundAs (slot_of name scope.slots) answer → FoundInTree t name scope answer
found-tree t d name l scope h answer = by (slot_of name scope.slots) refl answer
  where
    each : AllByRecursion (IsSlotIn t) scope.slots
    each = recursion_from_All (IsSlotIn t) scope.slots h

    by : (o : Option Slot) → slot_of name scope.slots ≡ o → (answer : Result Found Code) → FoundAs o answer → FoundInTree t name scope answer
    by None e (Ok f) found = absurd found
    by None e (Err code) found = record {
      entry = ap (λ (o : Option rules.Entry). ok_or o Unknown) (find-tree t d name l scope.slots each ∙ ap (option_map (entry_of t)) e)
          ∙ ap Err (sym found);
      known = tt;
    }
    by (Some s) e (Ok f) found = record {
      entry =
          ap (λ (o : Option rules.Entry). ok_or o Unknown) (find-tree t d name l scope.slots each ∙ ap (option_map (entry_of t)) e)
          ∙ ap (λ (u : Slot). Ok (entry_of t u)) (sym found)
          ∙ ap (λ (n : Option ℕ). Ok (record {
            name = variable_of t n;
            ty = f.ty;
            depth = f.depth;
            readiness = readiness_of f.state;
            assignable =
                f.assignable;
          }))
          (slot_of-name name scope.slots s e);
      known =
          subst (IsKnown (program_of t).classes) (sym (ap (λ (u : Slot). u.ty) found))
          (slot_of-in (λ u. IsKnown (program_of t).classes u.ty) name scope.slots s
          (known-each t scope.slots each) e);
    }
    by (Some s) e (Err code) found = absurd found

marked-each : (t : Tables) (name : Option ℕ) (now : rules.Readiness) (slots : List Slot) → AllByRecursion (IsSlotIn t) slots →
    AllByRecursion (IsSlotIn t) (map (marked_slot name now) slots)
marked-each t name now [] a = tt
marked-each t name now (s ∷ ss) a = (by (same_name s.name name), marked-each t name now ss a.1)
  where
    by : (b : Bool) → IsSlotIn t (if b then record s { readiness = now } else s)
    by true = record { name = a.0.name; ty = a.0.ty }
    by false = a.0

-- with the variables of a name in another state
pub marked-in : (t : Tables) (name : Option ℕ) (now : rules.Readiness) (scope : Scope) → IsReadable t scope → IsReadable t (marked name now scope)
marked-in t name now scope h = record {
  names = h.names;
  slots = All-from_recursion (IsSlotIn t) (map (marked_slot name now) scope.slots)
      (marked-each t name now scope.slots (recursion_from_All (IsSlotIn t) scope.slots h.slots));
}
