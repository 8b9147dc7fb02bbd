-- Variables at their places.
use Rattle.std.proofs.Common.{◌≡◌, ℕ, suc, Bool, true, false, if◌then◌else◌, List, [], ◌∷◌, option_map, Option, Some, None}
use Rattle.std.proofs.Common.{slice_get, slice_set, refl, sym, ◌∙◌, ap}
use Rattle.std.proofs.lemmas.List.{map-set}
use Rattle.std.proofs.lemmas.Option.{slice_get-map}
use Rattle.rg_base.specs.declared.value.Val.{Val}
use Rattle.rg_base.specs.declared.value.Val.TheVariants.{Nil}
use Rattle.rg_tree.specs.Tree.{Variable}
use Rattle.rg_tree.specs.Rows.Tables.{Tables}
use Rattle.rg_rules.specs.Environment.{same_variable}
use Rattle.rg_rules.specs.State.{Local, value_in, place_in, set_at, set_in}
use Rattle.rg_rules.specs.Capabilities.{is_iso}
use Rattle.rg_rules.specs.Evaluation.{is_iso_local}
use Rattle.rg_values.specs.declared.state.rows.LocalRow.{LocalRow}
use Rattle.rg_values.specs.Shown.{local_of, locals_of}

-- what a variable holds, by its place
abbrev pub held_at : Option Local → Val
held_at None = Nil
held_at (Some l) = l.value

pub value_in-place : (ls : List Local) (x : Variable) → value_in ls x ≡ held_at (slice_get ls (place_in ls x))
value_in-place [] x = refl
value_in-place (l ∷ ls) x = by (same_variable l.name x) (value_in-place ls x)
  where
    by : (b : Bool) → value_in ls x ≡ held_at (slice_get ls (place_in ls x)) →
        (if b then l.value else value_in ls x) ≡ held_at (slice_get (l ∷ ls) (if b then 0 else suc (place_in ls x)))
    by true rest = refl
    by false rest = rest

abbrev pub iso_at : Option Local → Bool
iso_at None = false
iso_at (Some l) = is_iso l.ty

pub is_iso_local-place : (ls : List Local) (x : Variable) → is_iso_local ls x ≡ iso_at (slice_get ls (place_in ls x))
is_iso_local-place [] x = refl
is_iso_local-place (l ∷ ls) x = by (same_variable l.name x) (is_iso_local-place ls x)
  where
    by : (b : Bool) → is_iso_local ls x ≡ iso_at (slice_get ls (place_in ls x)) →
        (if b then is_iso l.ty else is_iso_local ls x) ≡ iso_at (slice_get (l ∷ ls) (if b then 0 else suc (place_in ls x)))
    by true rest = refl
    by false rest = rest

-- what a row holds
abbrev pub row_value : Option LocalRow → Val
row_value None = Nil
row_value (Some l) = l.value

abbrev pub row_iso : Option LocalRow → Bool
row_iso None = false
row_iso (Some l) = is_iso l.ty

held-row : (t : Tables) (o : Option LocalRow) → held_at (option_map (local_of t) o) ≡ row_value o
held-row t None = refl
held-row t (Some l) = refl

iso-row : (t : Tables) (o : Option LocalRow) → iso_at (option_map (local_of t) o) ≡ row_iso o
iso-row t None = refl
iso-row t (Some l) = refl

-- the variable at a place, as it is shown
get-locals_of : (t : Tables) (ls : List LocalRow) (x : Variable) (k : ℕ) (o : Option LocalRow) → k ≡ place_in (locals_of t ls) x →
    o ≡ slice_get ls k → slice_get (locals_of t ls) (place_in (locals_of t ls) x) ≡ option_map (local_of t) o
get-locals_of t ls x k o k_is there =
    ap (slice_get (locals_of t ls)) (sym k_is) ∙ slice_get-map (local_of t) ls k ∙ ap (option_map (local_of t)) (sym there)

pub value_in-found : (t : Tables) (ls : List LocalRow) (x : Variable) (k : ℕ) (o : Option LocalRow) → k ≡ place_in (locals_of t ls) x →
    o ≡ slice_get ls k → row_value o ≡ value_in (locals_of t ls) x
value_in-found t ls x k o k_is there =
    sym (value_in-place (locals_of t ls) x ∙ ap held_at (get-locals_of t ls x k o k_is there) ∙ held-row t o)

pub is_iso_local-found : (t : Tables) (ls : List LocalRow) (x : Variable) (k : ℕ) (o : Option LocalRow) → k ≡ place_in (locals_of t ls) x →
    o ≡ slice_get ls k → row_iso o ≡ is_iso_local (locals_of t ls) x
is_iso_local-found t ls x k o k_is there =
    sym (is_iso_local-place (locals_of t ls) x ∙ ap iso_at (get-locals_of t ls x k o k_is there) ∙ iso-row t o)

-- a write to the variable of a place
set_at-there : (ls : List Local) (k : ℕ) (v : Val) (l : Local) → slice_get ls k ≡ Some l → set_at k v ls ≡ slice_set ls k (record l { value = v })
set_at-there ls k v l there = rw (set_at, there) refl

pub set_at-row : (t : Tables) (ls : List LocalRow) (k : ℕ) (v : Val) (l : LocalRow) → slice_get ls k ≡ Some l →
    locals_of t (slice_set ls k (record l { value = v })) ≡ set_at k v (locals_of t ls)
set_at-row t ls k v l there =
    map-set (local_of t) ls k (record l { value = v })
    ∙ sym (set_at-there (locals_of t ls) k v (local_of t l) (slice_get-map (local_of t) ls k ∙ ap (option_map (local_of t)) there))

set_at-next : (l : Local) (ls : List Local) (k : ℕ) (v : Val) → set_at (suc k) v (l ∷ ls) ≡ l ∷ set_at k v ls
set_at-next l ls k v = by (slice_get ls k)
  where
    by : (o : Option Local) →
        ◌≡◌ {A = List Local} (elim o [ None ↦ l ∷ ls | Some m ↦ slice_set (l ∷ ls) (suc k) (record m { value = v }) ])
        (l ∷ (elim o [ None ↦ ls | Some m ↦ slice_set ls k (record m { value = v }) ]))
    by None = refl
    by (Some m) = refl

-- a write to the first variable of a name is one to that of its place
pub set_at-place : (ls : List Local) (x : Variable) (v : Val) → set_at (place_in ls x) v ls ≡ set_in x v ls
set_at-place [] x v = refl
set_at-place (l ∷ ls) x v = by (same_variable l.name x) (set_at-place ls x v)
  where
    by : (b : Bool) → set_at (place_in ls x) v ls ≡ set_in x v ls →
        set_at (if b then 0 else suc (place_in ls x)) v (l ∷ ls) ≡ (if b then record l { value = v } ∷ ls else l ∷ set_in x v ls)
    by true rest = refl
    by false rest = set_at-next l ls (place_in ls x) v ∙ ap (λ q. l ∷ q) rest
