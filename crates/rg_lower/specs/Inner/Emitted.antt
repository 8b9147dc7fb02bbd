-- Code with more instructions behind it, and the code of parts of expressions, calls and paths (docs/language.md, "Instructions and
-- lowering").
use Rattle.std.specs.Prelude.{◌≡◌, ℕ, ◌+◌, ◌<◌, ◌^◌, List, [], ◌∷◌, ◌++◌, All, length, Option, None, Some}
use Rattle.rg_tree.specs.declared.rows.BinOp.{BinOp}
use Rattle.rg_tree.specs.Tree.{Name, Variable, Path, Expr, Class}
use Rattle.rg_rules.specs.Types.{method_named, method_result}
use Rattle.rg_names.specs.declared.entry.Sig.{Sig}
use Rattle.rg_names.specs.declared.entry.FieldAt.{FieldAt}
use Rattle.rg_code.specs.declared.op.Op.{Op}
use Rattle.rg_code.specs.declared.op.Op.TheVariants as i
use Rattle.rg_code.specs.Code.{Code}
use Rattle.rg_code.specs.Lowering.{Scope, above, path_code, expr_code, gap, operator_code, number_called, holder_code, held_number}
use Rattle.rg_code.specs.Lowering.{type_along, type_in}

-- the code with these instructions behind it
abbrev pub with_ops : Code → List Op → Code
with_ops c ops = record c { ops = c.ops ++ ops }

-- above each slot that is named stands a number of 32 bits
abbrev pub AreLow : List Op → Type 0
AreLow ops = All (λ o. above o < 2 ^ 32) ops

-- what stands behind the left operand of an operator
abbrev pub behind_code : List Class → Scope → (at : ℕ) → BinOp → Expr → List Op
behind_code classes scope at o b =
    let middle = at + gap o in
    let right = expr_code classes scope middle b in
    operator_code o (middle + length right) right

-- the array of `q[e]` and its index, both tested
abbrev pub index_code : List Class → Scope → (at : ℕ) → Path → (index : Expr) → List Op
index_code classes scope at q e =
    let array = path_code classes scope q.base q.fields ++ i.Check ∷ [] in
    array ++ (expr_code classes scope (at + length array) e ++ i.Bound ∷ [])

-- the method of a name that is called in the class of a number
abbrev pub CalleeIs : List Class → (c : ℕ) → Name → Option Sig → Type 0
CalleeIs classes c x None = method_named classes c x ≡ None
CalleeIs classes c x (Some s) =
    (number_called classes c x ≡ s.number)
    × (elim (method_named classes c x) [ None ↦ None | Some m ↦ method_result classes m ] ≡ s.result)

-- the walk to the object that has the last field of `x.f.g`, with that field's number and declared type; where there is no field, nothing
abbrev pub HolderIs : List Class → Scope → Variable → List Name → (old new : Code) → Option FieldAt → Type 0
HolderIs classes scope x [] old new None = new ≡ old
HolderIs classes scope x (f ∷ fs) old new None = ⊥
HolderIs classes scope x [] old new (Some found) = ⊥
HolderIs classes scope x (f ∷ fs) old new (Some found) =
    (new ≡ with_ops old (holder_code classes scope x f fs)) × (found.index ≡ held_number classes scope x f fs)
    × (found.ty ≡ type_along classes (type_in scope x) (f ∷ fs))
