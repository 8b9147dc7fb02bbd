-- The type that a row stands for: what the table answers is what the rules answer for the tree.
use Rattle.std.proofs.Common.{◌≡◌, ℕ, suc, ◌+◌, ◌<◌, Bool as Truth, true, false, cond, not, List, [], ◌∷◌, map, length, Option, None, Some}
use Rattle.std.proofs.Common.{option_map, ok_or, Result, Ok, Err, IfOk, nat_eq, if◌then◌else◌, refl, sym, ap, ◌∙◌, arith}
use Rattle.std.specs.List.{position_or_len}
use Rattle.std.specs.Map.{lookup, keys_of}
use Rattle.rg_base.specs.declared.words.Cap.{Cap}
use Rattle.rg_base.specs.declared.ty.Ty.{Ty}
use Rattle.rg_base.specs.declared.ty.Ty.TheVariants.{Int, Bool, Ref}
use Rattle.rg_base.specs.declared.fault.Code.TheVariants.{Unknown, BadType}
use Rattle.rg_tree.specs.declared.rows.ClassRow.{ClassRow}
use Rattle.rg_tree.specs.declared.rows.TypeRow.{TypeRow}
use Rattle.rg_tree.specs.declared.rows.TypeRow.TheVariants as row
use Rattle.rg_tree.specs.Tree.{Ty as Written, int, bool, ref, Class}
use Rattle.rg_tree.specs.Rows.Tables.{Tables, name_at, AreDistinct}
use Rattle.rg_tree.specs.Rows.RowTrees.{class_of, classes_of, type_of as written}
use Rattle.rg_tree.specs.Rows.RowsExist.{EachRow, IsClassIn, IsTypeIn}
use Rattle.rg_rules.specs.Answers.{◌>>=◌, ◌>>◌, test}
use Rattle.rg_rules.specs.Types.{suits_class, class_named, class_number, good_type}
use Rattle.rg_rules.proofs.Header.{good_type-type_of, good_type-known}
use Rattle.rg_names.specs.Table.{Table, judge_type}
use Rattle.rg_names.specs.TableOf.{ty_of, IsTableOf}
use Rattle.rg_names.specs.Inner.Headings.{IsHeadsOf, AreNamed}
use Rattle.rg_names.specs.TreeAnswers.{IsKnown}
use Rattle.rg_names.proofs.Naming.{name-eq-back}

-- a class as the table has it
abbrev pub head_of : ClassRow → ℕ × Truth
head_of c = (c.name, c.is_tmp)

-- the names of classes exist
pub heads-named : (t : Tables) (cs : List ClassRow) → EachRow (λ k r. IsClassIn t r) cs → AreNamed t (map head_of cs)
heads-named t [] h = tt
heads-named t (c ∷ cs) h = ((h 0 c refl).name, heads-named t cs (λ k r e. h (suc k) r e))

module _ (t : Tables) (d : AreDistinct t.names) (n : ℕ) (l : n < length t.names) where
  -- the class of a name
  lookup-head : (cs : List ClassRow) → AreNamed t (map head_of cs) →
      lookup (nat_eq n) (map head_of cs) ≡ option_map (λ c. c.is_tmp) (class_named (map (class_of t) cs) (name_at t n))
  lookup-head [] h = refl
  lookup-head (c ∷ cs) h = rw (name-eq-back t d n c.name l h.0) (by (nat_eq n c.name) (lookup-head cs h.1))
    where
      by : (b : Truth) → lookup (nat_eq n) (map head_of cs) ≡ option_map (λ c. c.is_tmp) (class_named (map (class_of t) cs) (name_at t n)) →
          cond b (Some c.is_tmp) (lookup (nat_eq n) (map head_of cs))
          ≡ option_map (λ c. c.is_tmp) (cond b (Some (class_of t c)) (class_named (map (class_of t) cs) (name_at t n)))
      by true e = refl
      by false e = e

  -- its number
  position-head : (cs : List ClassRow) → AreNamed t (map head_of cs) →
      position_or_len (nat_eq n) (keys_of (map head_of cs)) ≡ class_number (map (class_of t) cs) (name_at t n)
  position-head [] h = refl
  position-head (c ∷ cs) h = rw (name-eq-back t d n c.name l h.0) (by (nat_eq n c.name) _ _ (position-head cs h.1))
    where
      by : (b : Truth) (i j : ℕ) → i ≡ j → cond (not b) (1 + i) 0 ≡ (if b then 0 else suc j)
      by true i j e = refl
      by false i j e = omega arith

pub lookup-heads_of : (t : Tables) (heads : List (ℕ × Truth)) → IsHeadsOf t heads → (n : ℕ) → n < length t.names →
    lookup (nat_eq n) heads ≡ option_map (λ c. c.is_tmp) (class_named (classes_of t) (name_at t n))
unfolding classes_of
lookup-heads_of t heads h n l = rw h.heads_are (lookup-head t h.rows.names n l t.classes (heads-named t t.classes h.rows.classes))

pub position-heads_of : (t : Tables) (heads : List (ℕ × Truth)) → IsHeadsOf t heads → (n : ℕ) → n < length t.names →
    position_or_len (nat_eq n) (keys_of heads) ≡ class_number (classes_of t) (name_at t n)
unfolding classes_of
position-heads_of t heads h n l = rw h.heads_are (position-head t h.rows.names n l t.classes (heads-named t t.classes h.rows.classes))

same_answer : (cap : Cap) (k : ℕ) (o : Option Class) →
    ◌>>=◌ (ok_or (option_map (λ c. c.is_tmp) o) Unknown) (λ b. ◌>>◌ (test (suits_class cap b) BadType) (Ok (Ref cap k)))
    ≡ ◌>>=◌ (ok_or o Unknown) (λ c. ◌>>◌ (test (suits_class cap c.is_tmp) BadType) (Ok (Ref cap k)))
same_answer cap k None = refl
same_answer cap k (Some c) = refl

-- the table answers as the rules do
pub judge_type-good_type : (t : Tables) (heads : List (ℕ × Truth)) → IsHeadsOf t heads → (y : TypeRow) → IsTypeIn t y →
    judge_type heads y ≡ good_type (classes_of t) (written t y)
judge_type-good_type t heads h row.Int l = refl
judge_type-good_type t heads h row.Bool l = refl
judge_type-good_type t heads h (row.Ref cap n) l =
    rw (lookup-heads_of t heads h n l, position-heads_of t heads h n l) (same_answer cap _ (class_named (classes_of t) (name_at t n)))

-- the classes of the table of a program
pub IsHeadsOf-table : (t : Tables) (table : Table) → IsTableOf t table → IsHeadsOf t table.heads
IsHeadsOf-table t table h = record { rows = h.rows; heads_are = ap (λ (v : Table). v.heads) h.table_is }

-- a good type is that of the row
pub judge_type-ty_of : (t : Tables) (heads : List (ℕ × Truth)) → IsHeadsOf t heads → (y : TypeRow) → IsTypeIn t y → (ty : Ty) →
    judge_type heads y ≡ Ok ty → ty ≡ ty_of t y
judge_type-ty_of t heads h y l ty e = good_type-type_of (classes_of t) (written t y) ty (sym (judge_type-good_type t heads h y l) ∙ e)

-- the class of a good type is there
pub good_type-IsKnown : (classes : List Class) (w : Written) (ty : Ty) → good_type classes w ≡ Ok ty → IsKnown classes ty
good_type-IsKnown classes int ty h = let e : Int ≡ ty = grind arith in rw (← e) tt
good_type-IsKnown classes bool ty h = let e : Bool ≡ ty = grind arith in rw (← e) tt
good_type-IsKnown classes (ref cap x) ty h = rw (good_type-type_of classes (ref cap x) ty h) (good_type-known classes cap x ty h)

pub IfOk-by : {A E : Type 0} (P : A → Type 0) (r : Result A E) → ((a : A) → r ≡ Ok a → P a) → IfOk r P
IfOk-by P (Ok a) h = h a refl
IfOk-by P (Err e) h = tt
