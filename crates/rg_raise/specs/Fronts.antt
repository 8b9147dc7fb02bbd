-- Fronts that are raised at an address, as rows.
use Rattle.std.specs.Prelude.{◌≡◌, ℕ, ◌-◌, Bool as Truth, List, [], ◌∷◌, ◌++◌, All, map, Option, Some, None, Result, Ok, Err, Vec}
use Rattle.std.specs.declared.alloc.Global.{Global}
use Rattle.rg_base.specs.declared.ty.Ty.{Ty}
use Rattle.rg_tree.specs.Tree.{Expr}
use Rattle.rg_tree.specs.Rows.Tables.{Tables}
use Rattle.rg_tree.specs.Rows.RowTrees.{expr_at}
use Rattle.rg_tree.specs.Rows.RowsExist.{IsExprNumber}
use Rattle.rg_tree.specs.Adds.{Extends, Means}
use Rattle.rg_code.specs.declared.op.Op.{Op}
use Rattle.rg_verify_expressions.specs.declared.refusal.Refusal.{Refusal}
use Rattle.rg_verify_expressions.specs.declared.refusal.Refusal.TheVariants as refusal
use Rattle.rg_verify_expressions.specs.declared.front.FrontRow.{FrontRow}
use Rattle.rg_verify_expressions.specs.declared.front.FrontRow.TheVariants as front
use Rattle.rg_verify_expressions.specs.Raised.{Raised, named, Front, expression, object, place}
use Rattle.rg_verify_expressions.specs.Rows.{front_named, front_at, IsFrontIn, AreFronts}
use Rattle.rg_verify_expressions.specs.Statements.{all_used}
use Rattle.rg_verify_expressions.specs.Blocks.{fronts_at, values_in}
use Rattle.rg_raise.specs.declared.said.Stretch.{Stretch}
use Rattle.rg_raise.specs.declared.said.Fronts.{Fronts}
use Rattle.rg_raise.specs.declared.said.Exprs.{Exprs}
use Rattle.rg_raise.specs.Uses.{uses, behind_place, used_in}

-- a front, by its row
abbrev pub IsFront : Tables → (in_method : Truth) → FrontRow → Front → Type 0
IsFront t m r f = Means front_at IsFrontIn t r (front_named m f)

-- fronts in order, by their rows
abbrev pub AreFrontRows : Tables → (in_method : Truth) → List FrontRow → List Front → Type 0
AreFrontRows t m rows fs = AreFronts t rows (map (front_named m) fs)

-- expressions in order, by their rows
abbrev pub AreTrees : Tables → List ℕ → List Expr → Type 0
AreTrees t ns xs = Means (λ u. map (expr_at u)) (λ u. All (IsExprNumber u)) t ns xs

-- the instructions of a stretch of code use up what these fronts do
abbrev pub Spans : (ops : List Op) → Stretch → List Front → Type 0
Spans ops x fs = (types : List Ty) → uses types ops (x.end - x.from) x.from ≡ used_in types fs

-- the fronts that stand at the beginning of a stretch of code, up to its end
pub record AreFrontsAt (t : Tables) (m : Truth) (ops : List Op) (x : Fronts) (fs : List Front) : Type 0 where
  pub told : fronts_at ops x.code.from ≡ Some (fs, x.code.end)
  pub rows : AreFrontRows t m x.rows.items fs

-- fronts that are left, and a stretch of code that uses up what they do
pub record AreLeft (t : Tables) (m : Truth) (ops : List Op) (x : Fronts) (fs : List Front) : Type 0 where
  pub rows : AreFrontRows t m x.rows.items fs
  pub spans : Spans ops x.code fs

-- the fronts that stand at an address, as rows, or that there are none
abbrev pub MakesFronts : (old new : Tables) → (in_method : Truth) → (ops : List Op) → (from : ℕ) → Result Fronts Refusal → Type 0
MakesFronts old new m ops from (Ok x) = (fs : List Front) × (x.code.from ≡ from) × Extends old new × AreFrontsAt new m ops x fs
MakesFronts old new m ops from (Err refusal.NotRaised) = fronts_at ops from ≡ None
MakesFronts old new m ops from (Err refusal.Memory) = Unit {0}

-- the first front is taken
abbrev pub TakesFront : Tables → (in_method : Truth) → (new : List FrontRow) → List Front → Option FrontRow → Type 0
TakesFront t m new (f ∷ fs) (Some r) = IsFront t m r f × AreFrontRows t m new fs
TakesFront t m new [] (Some r) = ⊥
TakesFront t m new (f ∷ fs) None = ⊥
TakesFront t m new [] None = Unit {0}

-- where the code begins that is left behind the first front: behind it, if it is a place
abbrev pub start_by : List Op → Option FrontRow → Stretch → ℕ
start_by ops (Some (front.Place p n)) x = behind_place ops (x.end - x.from) x.from
start_by ops r x = x.from

-- the fronts whose stretch of code is left where the first one is taken: with an expression its own
abbrev pub spanned : Front → List Front → List Front
spanned (expression e) fs = expression e ∷ fs
spanned (object s ks) fs = fs
spanned (place s ks e) fs = fs

-- the first of the fronts at an address is taken
pub record Begins (t : Tables) (m : Truth) (ops : List Op) (x : Fronts) (r : FrontRow) (f : Front) (fs : List Front) : Type 0 where
  pub first : IsFront t m r f
  pub rows : AreFrontRows t m x.rows.items fs
  pub spans : Spans ops x.code (spanned f fs)

abbrev pub TakesFirst : Tables → (in_method : Truth) → List Op → (new : Fronts) → List Front → Option FrontRow → Type 0
TakesFirst t m ops new (f ∷ fs) (Some r) = Begins t m ops new r f fs
TakesFirst t m ops new [] (Some r) = ⊥
TakesFirst t m ops new (f ∷ fs) None = ⊥
TakesFirst t m ops new [] None = Unit {0}

-- the rows of expressions alone, behind those that are done
abbrev pub rows_alone : (done : List ℕ) → List FrontRow → Option (List ℕ)
rows_alone done [] = Some done
rows_alone done (front.Expression n ∷ rs) = rows_alone (done ++ n ∷ []) rs
rows_alone done (front.Object p ∷ rs) = None
rows_alone done (front.Place p n ∷ rs) = None

-- so as an answer
abbrev pub FindsAlone : List FrontRow → Result (Vec ℕ Global) Refusal → Type 0
FindsAlone rows (Ok ns) = rows_alone [] rows ≡ Some ns.items
FindsAlone rows (Err refusal.NotRaised) = rows_alone [] rows ≡ None
FindsAlone rows (Err refusal.Memory) = Unit {0}

-- expressions in order, and a stretch of code that uses up what they do
pub record AreExprs (t : Tables) (m : Truth) (ops : List Op) (x : Exprs) (rs : List Raised) : Type 0 where
  pub trees : AreTrees t x.rows.items (map (named m) rs)
  pub spans : (types : List Ty) → uses types ops (x.code.end - x.code.from) x.code.from ≡ all_used types rs

-- fronts as expressions, or that they are others
abbrev pub FindsExprs : Tables → (in_method : Truth) → List Op → Fronts → List Front → Result Exprs Refusal → Type 0
FindsExprs t m ops x fs (Ok y) = (rs : List Raised) × (values_in fs ≡ Some rs) × (y.code ≡ x.code) × AreExprs t m ops y rs
FindsExprs t m ops x fs (Err refusal.NotRaised) = values_in fs ≡ None
FindsExprs t m ops x fs (Err refusal.Memory) = Unit {0}
