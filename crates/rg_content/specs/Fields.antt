-- What an `iso` field of an object owns, as a cargo (docs/architecture.md, "How a behaviour begins").
use Rattle.std.specs.Prelude.{◌≡◌, ℕ, List, Option, Some, None, slice_get}
use Rattle.rg_base.specs.declared.words.Cap.TheVariants.{Iso}
use Rattle.rg_base.specs.declared.ty.Ty.TheVariants.{Ref}
use Rattle.rg_base.specs.declared.object.Label.TheVariants.{Region}
use Rattle.rg_base.specs.declared.object.Seen.{Seen}
use Rattle.rg_base.specs.declared.value.Val.{Val}
use Rattle.rg_base.specs.declared.value.Val.TheVariants.{Nil, Obj}
use Rattle.rg_tree.specs.Tree.{Class, Field}
use Rattle.rg_rules.specs.Types.{type_of, fields_of}
use Rattle.rg_rules.specs.State.{State}
use Rattle.rg_cown.specs.Cargo.{CargoList}
use Rattle.rg_cown.specs.Contents.{cargo_of}

-- the field of a number is an `iso` one of an object of a region
pub record IsOwnField (classes : List Class) (store : List Seen) (address number : ℕ) : Type 0 where
  pub object : Seen
  pub there : slice_get store address ≡ Some object
  pub region : ℕ
  pub lies : object.label ≡ Region region
  pub field : Field
  pub declared : slice_get (fields_of classes object.class) number ≡ Some field
  pub class : ℕ
  pub iso : type_of classes field.ty ≡ Ref Iso class

-- a field of the object at an address holds a value
abbrev pub Holds : List Seen → (address field : ℕ) → Val → Type 0
Holds store a k v = (o : Seen) × (slice_get store a ≡ Some o) × (slice_get o.fields k ≡ Some v)

-- what an `iso` field owns: at nil there is nothing, and else what the region holds to whose bridge the field leads
abbrev pub IsContent : State → (address field : ℕ) → Option CargoList → Type 0
IsContent s a k None = Holds s.store a k Nil
IsContent s a k (Some c) = (b : ℕ) × Holds s.store a k (Obj b) × (c ≡ cargo_of s.store s.managers b)
