-- The fields of an ordinary class.
use Rattle.std.proofs.Common.{◌≡◌, ℕ, ◌<◌, Bool as Truth, false, sym, ap, ◌∙◌, List, length, map, filter_map, Option, Some, None, slice_get, option_map}
use Rattle.std.specs.Prelude.{All, ◌&&◌, not}
use Rattle.rg_tree.specs.Tree.{Ty as Written, Class}
use Rattle.rg_tree.specs.Rows.Tables.{Tables}
use Rattle.rg_tree.specs.Rows.RowTrees.{classes_of, class_of, type_of, member_at}
use Rattle.rg_tree.specs.declared.rows.ClassRow.{ClassRow}
use Rattle.rg_tree.specs.declared.rows.TypeRow.{TypeRow}
use Rattle.rg_rules.specs.Types.{field_member}
use Rattle.rg_cown.specs.declared.cargo.CargoCell.{CargoCell}
use Rattle.rg_typed.specs.Typed.{object_of_class, values_fit, fields_fit}
use Rattle.rg_typed.specs.Known.{AreFieldsOf}

-- an ordinary class that isn't an array class
plain : (classes : List Class) (cells : List CargoCell) (c : CargoCell) (k : Class) → k.is_tmp ≡ false → k.element ≡ None
    → object_of_class classes cells (Some k) c ≡ fields_fit classes cells c.label (filter_map field_member k.members) c.fields
plain classes cells c k ordinary none =
    ap (λ (b : Truth). not b && values_fit classes cells c.label k k.element c.fields) ordinary
    ∙ ap (λ (e : Option Written). values_fit classes cells c.label k e c.fields) none

pub fields-known : (t : Tables) (class : ℕ) (row : ClassRow) (these : List ℕ) → slice_get (classes_of t) class ≡ Some (class_of t row)
    → row.is_tmp ≡ false → row.element ≡ None → map (member_at t) these ≡ (class_of t row).members → All (λ k. k < length t.members) these
    → AreFieldsOf t class these
fields-known t class row these at ordinary none members below = record {
  fits = λ cells c own there.
      ap (λ (b : Truth). not b && object_of_class (classes_of t) cells (slice_get (classes_of t) c.class) c) there
      ∙ ap (λ (n : ℕ). object_of_class (classes_of t) cells (slice_get (classes_of t) n) c) own
      ∙ ap (λ (o : Option Class). object_of_class (classes_of t) cells o c) at
      ∙ plain (classes_of t) cells c (class_of t row) ordinary (element row none)
      ∙ ap (λ ms. fields_fit (classes_of t) cells c.label (filter_map field_member ms) c.fields) (sym members);
  below = below;
}
  where
    element : (r : ClassRow) → r.element ≡ None → (class_of t r).element ≡ None
    element r e = ap (λ (o : Option TypeRow). option_map (type_of t) o) e
