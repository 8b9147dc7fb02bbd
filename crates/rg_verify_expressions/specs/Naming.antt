-- The names of a raised program (docs/architecture.md, "Modules").
use Rattle.std.specs.Prelude.{ℕ, zero, suc, Bool as Truth, false, true, ◌++◌, codes, decimal, Some, None}
use Rattle.rg_base.specs.declared.ty.Ty.{Ty}
use Rattle.rg_base.specs.declared.ty.Ty.TheVariants as ty
use Rattle.rg_tree.specs.Tree.{Name, Variable, Ty as Written, int, bool, ref}

-- `v7`
abbrev pub variable_name : ℕ → Name
variable_name s = codes "v" ++ decimal s

-- `f7`
abbrev pub field_name : ℕ → Name
field_name k = codes "f" ++ decimal k

-- `c7`
abbrev pub class_name : ℕ → Name
class_name c = codes "c" ++ decimal c

-- `m7`, from the number that a method has in its class
abbrev pub method_name : ℕ → Name
method_name k = codes "m" ++ decimal k

-- a type as it is written
abbrev pub written : Ty → Written
written ty.Int = int
written ty.Bool = bool
written (ty.Ref cap c) = ref cap (class_name c)

-- the variable in a slot; the first one of a method is `self`
abbrev pub variable_in : (in_method : Truth) → (slot : ℕ) → Variable
variable_in false s = Some (variable_name s)
variable_in true zero = None
variable_in true (suc s) = Some (variable_name (suc s))
