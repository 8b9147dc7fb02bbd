-- What a swap does (docs/language.md, "Steps").
use Rattle.std.specs.Prelude.{ℕ, Some}
use Rattle.rg_base.specs.declared.object.Seen.{Seen}
use Rattle.rg_base.specs.declared.value.Val.TheVariants.{Obj}
use Rattle.rg_tree.specs.Tree.{Name}
use Rattle.rg_tree.specs.Rows.Tables.{Tables}
use Rattle.rg_tree.specs.Rows.RowTrees.{classes_of}
use Rattle.rg_rules.specs.State.{State, locals_of, value_in, put_local}
use Rattle.rg_rules.specs.Evaluation.{field_value}
use Rattle.rg_rules.specs.Steps.{put_field}

-- the variable of a name and a field of the object `o` at a place exchange their values
abbrev pub exchanged : Tables → State → (y : Name) → (place : ℕ) → Seen → (field : Name) → State
exchanged t s y a o f =
    put_local (Some y) (put_field (classes_of t) (Obj a) f s (value_in (locals_of s) (Some y))) (field_value (classes_of t) o f)
