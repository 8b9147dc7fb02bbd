-- Paths by their last field.
use Rattle.std.proofs.Common.{◌≡◌, ℕ, zero, suc, ◌-◌, ◌<◌, ◌≤◌, List, [], ◌∷◌, length, map, take, get_or, All, Ok, Err, option_map, refl, sym, ◌∙◌}
use Rattle.std.proofs.Common.{ap, arith}
use Rattle.rg_base.specs.declared.object.Seen.{Seen}
use Rattle.rg_base.specs.declared.value.Val.{Val}
use Rattle.rg_base.specs.declared.value.Val.TheVariants.{Obj}
use Rattle.rg_base.specs.declared.outcome.Trap.{Trap}
use Rattle.rg_tree.specs.declared.rows.Path as row_path
use Rattle.rg_tree.specs.Tree.{Name}
use Rattle.rg_tree.specs.Rows.Tables.{Tables, name_at, numbers_in}
use Rattle.rg_tree.specs.Rows.RowTrees.{classes_of, path_of}
use Rattle.rg_tree.specs.Rows.RowsExist.{IsNameIn}
use Rattle.rg_rules.specs.Paths.{all_but_last, last_field}
use Rattle.rg_rules.specs.State.{Local, value_in}
use Rattle.rg_rules.specs.Evaluation.{follow_fields}
use Rattle.rg_values.specs.Spots.{IsField, IsCut, receiver_of}

all_but_last-numbers : (t : Tables) (k n : ℕ) (ms : List ℕ) → length ms ≡ k →
    all_but_last (name_at t n) (map (name_at t) ms) ≡ map (name_at t) (take k (n ∷ ms))
all_but_last-numbers t zero n [] len = refl
all_but_last-numbers t zero n (m ∷ ms) len = absurd (omega arith)
all_but_last-numbers t (suc k) n [] len = absurd (omega arith)
all_but_last-numbers t (suc k) n (m ∷ ms) len = ap (λ xs. name_at t n ∷ xs) (all_but_last-numbers t k m ms (omega arith))

last_field-numbers : (t : Tables) (k n : ℕ) (ms : List ℕ) → length ms ≡ k →
    last_field (name_at t n) (map (name_at t) ms) ≡ name_at t (get_or (n ∷ ms) k 0)
last_field-numbers t zero n [] len = refl
last_field-numbers t zero n (m ∷ ms) len = absurd (omega arith)
last_field-numbers t (suc k) n [] len = absurd (omega arith)
last_field-numbers t (suc k) n (m ∷ ms) len = last_field-numbers t k m ms (omega arith)

-- the fields of a path that has some
record Parts (t : Tables) (ns : List ℕ) : Type 0 where
  pub first : Name
  pub others : List Name
  pub are : map (name_at t) ns ≡ first ∷ others
  pub front : all_but_last first others ≡ map (name_at t) (take (length ns - 1) ns)
  pub last : last_field first others ≡ name_at t (get_or ns (length ns - 1) 0)

parts : (t : Tables) (ns : List ℕ) → 1 ≤ length ns → Parts t ns
parts t [] some = absurd (omega arith)
parts t (n ∷ ms) some = record {
  first = name_at t n;
  others = map (name_at t) ms;
  are = refl;
  front = all_but_last-numbers t (length (n ∷ ms) - 1) n ms (omega arith);
  last = last_field-numbers t (length (n ∷ ms) - 1) n ms (omega arith);
}

-- fields that lead to no object
pub is_cut : (t : Tables) (store : List Seen) (locals : List Local) (p : row_path.Path) (ns : List ℕ) (v : Val) (kind : Trap) →
    ns ≡ numbers_in t p.fields → 1 ≤ length ns → v ≡ value_in locals (option_map (name_at t) p.base) →
    receiver_of (classes_of t) store v (map (name_at t) (take (length ns - 1) ns)) ≡ Err kind → IsCut t store locals (path_of t p) kind
is_cut t store locals p ns v kind ns_is some v_is cut =
    let q = parts t ns some in
    record {
      first = q.first;
      others = q.others;
      fields_are = ap (map (name_at t)) (sym ns_is) ∙ q.are;
      cut = rw (q.front, ← v_is) cut;
    }

-- fields that lead to the object at a place
pub is_field : (t : Tables) (store : List Seen) (locals : List Local) (p : row_path.Path) (ns : List ℕ) (v : Val) (a : ℕ) →
    ns ≡ numbers_in t p.fields → 1 ≤ length ns → v ≡ value_in locals (option_map (name_at t) p.base) → All (IsNameIn t) ns →
    follow_fields (classes_of t) store v (map (name_at t) (take (length ns - 1) ns)) ≡ Ok (Obj a) → a < length store →
    IsField t store locals (path_of t p) a (get_or ns (length ns - 1) 0)
is_field t store locals p ns v a ns_is some v_is names followed there =
    let q = parts t ns some in
    record {
      first = q.first;
      others = q.others;
      fields_are = ap (map (name_at t)) (sym ns_is) ∙ q.are;
      followed = rw (q.front, ← v_is) followed;
      there = there;
      last = q.last;
      known = names (length ns - 1) 0 (omega arith);
    }
