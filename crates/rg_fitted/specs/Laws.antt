-- The blocks with numbers of an accepted program fit where their code and their maps stand (docs/architecture.md, "Modules").
use Rattle.std.specs.Prelude.{◌≡◌, ℕ, Bool as Truth, true, false, List, [], ◌∷◌, ◌++◌, ◌+◌, length, drop, slice_get, Some}
use Rattle.rg_base.specs.declared.ty.Ty.{Ty}
use Rattle.rg_tree.specs.Tree.{Name, Block, Method, Class, Tree}
use Rattle.rg_rules.specs.Types.{method_named, methods_of, method_result}
use Rattle.rg_rules.specs.Acceptance.{Accepted}
use Rattle.rg_code.specs.declared.op.Op.{Op}
use Rattle.rg_code.specs.declared.op.Op.TheVariants as i
use Rattle.rg_code.specs.declared.code.Entry.{Entry}
use Rattle.rg_code.specs.Lowering.{Scope, method_scope, method_place, number_called, lowered}
use Rattle.rg_build.specs.Maps.{block_maps, is_end_marked, maps_of}
use Rattle.rg_build.specs.ModuleOf.{laid}
use Rattle.rg_verify_expressions.specs.declared.callee.Callee.{Callee}
use Rattle.rg_verify_expressions.specs.Statements.{block_ops}
use Rattle.rg_verify_expressions.specs.Found.{types_of}
use Rattle.rg_verify_expressions.specs.Blocks.{Given}
use Rattle.rg_verify_expressions.specs.Standing.{IsBlockFit, BlockStand}
use Rattle.rg_numbered.specs.Numbered.{numbered_block}
use Rattle.rg_numbered.specs.ModuleNames.{HasModuleNames}
use Rattle.rg_fitted.specs.Callees.{callees}

-- methods as calls need them: each one that a class has stands at its number, with its place in the class and its result
abbrev pub AreMethodsOf : List Class → List Callee → Type 0
AreMethodsOf classes methods = (c : ℕ) (x : Name) (m : Method) → method_named classes c x ≡ Some m →
    slice_get methods (number_called classes c x) ≡ Some (record {
      number = number_called classes c x;
      place = method_place (methods_of classes c) x;
      result = method_result classes m;
    })

-- the mark at the end of a body, if one stands there
abbrev pub end_mark : (marked : Truth) → (line : ℕ) → List Op
end_mark false line = []
end_mark true line = i.Mark line ∷ []

-- from an address on, the maps are those of a body, with what stands behind it
pub record MapsStand (classes : List Class) (scope : Scope) (marked : Truth) (b : Block) (maps : List (List Ty)) (at : ℕ) : Type 0 where
  pub line : ℕ
  pub rest : List Op
  pub others : List (List Ty)
  pub laid_are : drop at maps
      ≡ laid (block_ops (types_of scope) at (numbered_block classes scope b) ++ (end_mark marked line ++ rest))
      (block_maps classes marked scope b ++ others)

-- a body fits wherever its maps stand, with the methods of the program
abbrev pub FitsThere : List Class → Scope → (marked : Truth) → Block → Type 0
FitsThere classes scope marked b = (g : Given) (at : ℕ) → AreMethodsOf classes g.methods → MapsStand classes scope marked b g.maps at →
    IsBlockFit g (types_of scope) at (numbered_block classes scope b)

-- main and each method of an accepted program whose names are those of a module
pub record AcceptedAreFit : Type 0 where
  pub main : (t : Tree) → Accepted t → HasModuleNames t → FitsThere t.classes [] true t.body
  pub methods : (t : Tree) → Accepted t → HasModuleNames t → (c : ℕ) (x : Name) (m : Method) → method_named t.classes c x ≡ Some m →
      FitsThere t.classes (method_scope t.classes c m) (is_end_marked m.result) m.body

-- the methods of a program are such
abbrev pub CalleesAreMethods : Type 0
CalleesAreMethods = (classes : List Class) → AreMethodsOf classes (callees classes)

-- the code of a program, the maps that are laid for it, and its methods
abbrev pub given_of : Tree → Given
given_of t = record { ops = (lowered t).ops; maps = laid (lowered t).ops (maps_of t); methods = callees t.classes }

-- the code of the block with numbers that a body is
abbrev pub body_code : List Class → Scope → (at : ℕ) → Block → List Op
body_code classes scope at b = block_ops (types_of scope) at (numbered_block classes scope b)

-- at an address of a program's code, a body's block with numbers stands
abbrev pub StandsThere : (t : Tree) → Scope → (at : ℕ) → Block → Type 0
StandsThere t scope at b =
    BlockStand (given_of t) (types_of scope) at (numbered_block t.classes scope b) (at + length (body_code t.classes scope at b))

-- that of a method stands where its entry says that it begins
pub record StandsByEntry (t : Tree) (c : ℕ) (x : Name) (m : Method) : Type 0 where
  pub entry : Entry
  pub there : slice_get (lowered t).entries (number_called t.classes c x) ≡ Some entry
  pub body : StandsThere t (method_scope t.classes c m) entry.at m.body

-- so all bodies of an accepted program whose names are those of a module stand in its module
pub record ModulesFit : Type 0 where
  pub main : (t : Tree) → Accepted t → HasModuleNames t → StandsThere t [] 0 t.body
  pub methods : (t : Tree) → Accepted t → HasModuleNames t → (c : ℕ) (x : Name) (m : Method) → method_named t.classes c x ≡ Some m →
      StandsByEntry t c x m
