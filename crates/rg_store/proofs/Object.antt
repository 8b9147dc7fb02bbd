-- Fields by their places.
use Rattle.std.proofs.Common.{◌≡◌, ℕ, Some, unwrap_or, slice_get, List, refl}
use Rattle.rg_base.specs.declared.object.Seen.{Seen}
use Rattle.rg_base.specs.declared.value.Val.TheVariants.{Nil}
use Rattle.rg_tree.specs.Tree.{Name, Class}
use Rattle.rg_rules.specs.Types.{fields_of, field_place}
use Rattle.rg_rules.specs.Evaluation.{field_value}

-- the value in the field at a place
pub field_value-place : (classes : List Class) (o : Seen) (x : Name) (k : ℕ) → field_place (fields_of classes o.class) x ≡ Some k →
    field_value classes o x ≡ unwrap_or (slice_get o.fields k) Nil
field_value-place classes o x k there = rw (there, field_value) refl
