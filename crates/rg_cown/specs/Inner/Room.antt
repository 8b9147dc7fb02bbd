-- The values of an object, wherever they stand (docs/architecture.md, "Cargo").
use Rattle.std.specs.Prelude.{ℕ, zero, suc, ◌==◌, ◌≤◌, not, List, [], ◌∷◌}
use Rattle.std.specs.Int.{cast_signed, w64}
use Rattle.rg_base.specs.declared.value.Val.{Val}
use Rattle.rg_base.specs.declared.value.Val.TheVariants as val
use Rattle.rg_cown.specs.declared.fields.Room.{Room}
use Rattle.rg_cown.specs.declared.fields.Room.TheVariants.{Here, Beside}
use Rattle.rg_cown.specs.declared.fields.Kind.{Kind}
use Rattle.rg_cown.specs.declared.fields.Kind.TheVariants as kind

-- the value of that kind and number
abbrev pub value_of : Kind → ℕ → Val
value_of kind.Nil n = val.Nil
value_of kind.Int n = val.Int (cast_signed w64 n)
value_of kind.Bool n = val.Bool (not (n == 0))
value_of kind.Obj n = val.Obj n

-- the kind of a value
abbrev pub kind_in : Val → Kind
kind_in val.Nil = kind.Nil
kind_in (val.Int z) = kind.Int
kind_in (val.Bool b) = kind.Bool
kind_in (val.Obj a) = kind.Obj

-- the first so many values of these kinds and numbers, with nil where there are fewer
abbrev pub values_of : ℕ → List Kind → List ℕ → List Val
values_of zero ks ns = []
values_of (suc c) [] ns = val.Nil ∷ values_of c [] ns
values_of (suc c) (k ∷ ks) [] = val.Nil ∷ values_of c ks []
values_of (suc c) (k ∷ ks) (n ∷ ns) = value_of k n ∷ values_of c ks ns

-- the values that stand in the object itself, or else in a list beside it
abbrev pub values_in : Room → List Val
values_in (Here count kinds numbers) = values_of count kinds numbers
values_in (Beside values) = values.items

-- no more stand in the object itself than there are places
abbrev pub AreFew : Room → Type 0
AreFew (Here count kinds numbers) = count ≤ 3
AreFew (Beside values) = Unit {0}
