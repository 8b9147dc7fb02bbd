-- With which methods and fields a behaviour may begin (docs/architecture.md, "How a behaviour begins").
use Rattle.std.specs.Prelude.{◌≡◌, ℕ, List, [], ◌∷◌, Option, Some, None, option_map, slice_get}
use Rattle.rg_base.specs.declared.words.Cap.TheVariants.{Mut, Iso}
use Rattle.rg_base.specs.declared.ty.Ty.{Ty}
use Rattle.rg_base.specs.declared.ty.Ty.TheVariants.{Ref}
use Rattle.rg_tree.specs.Tree.{Name, Field, Method, empty as none, Tree}
use Rattle.rg_rules.specs.Types.{type_of, fields_of, method_named}
use Rattle.rg_rules.specs.RightSides.{opening_value}
use Rattle.rg_cown.specs.declared.cargo.CargoCell.{CargoCell}
use Rattle.rg_cown.specs.Cargo.{CargoList, SoundCargo}
use Rattle.rg_typed.specs.Typed.{TypedCargo}
use Rattle.rg_opening.specs.declared.given.Given.{Given}
use Rattle.rg_opening.specs.declared.given.Given.TheVariants.{Start, Held}

-- the class of a content's bridge, which is its first object
abbrev pub bridge_class : CargoList → Option ℕ
bridge_class c = option_map (λ (o : CargoCell). o.class) (slice_get c.cells 0)

-- a field of a type may own a content: it is `iso`, and the content is that of a closed region which fits the program, with a bridge of the
-- field's class
pub record MayOwn (t : Tree) (ty : Ty) (c : CargoList) : Type 0 where
  pub class : ℕ
  pub owns : ty ≡ Ref Iso class
  pub bridge : bridge_class c ≡ Some class
  pub sound : SoundCargo c
  pub typed : TypedCargo t c

-- a field may begin so: with the value that it has in a new object, or with a content
abbrev pub FieldBegins : Tree → Field → Given → Type 0
FieldBegins t f (Start v) = v ≡ opening_value f.ty
FieldBegins t f (Held c) = MayOwn t (type_of t.classes f.ty) c

-- so for each field, in order
abbrev pub FieldsBegin : Tree → List Field → List Given → Type 0
FieldsBegin t [] [] = Unit {0}
FieldsBegin t [] (g ∷ gs) = ⊥
FieldsBegin t (f ∷ fs) [] = ⊥
FieldsBegin t (f ∷ fs) (g ∷ gs) = FieldBegins t f g × FieldsBegin t fs gs

-- a behaviour may begin: main has nothing to do, and a method `def mut m() { .. }` of the class runs on an object whose fields may begin so
pub record MayBegin (t : Tree) (class : ℕ) (m : Method) (given : List Given) : Type 0 where
  pub no_statement : t.body ≡ none
  pub name : Name
  pub method_is : method_named t.classes class name ≡ Some m
  pub receiver : m.receiver ≡ Mut
  pub no_parameter : m.params ≡ []
  pub no_result : m.result ≡ None
  pub fields : FieldsBegin t (fields_of t.classes class) given
