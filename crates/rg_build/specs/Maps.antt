-- The maps of the marks of a program, in the order in which the marks stand in its code (docs/architecture.md, "Modules"). A mark stands in
-- front of each statement, and at the end of each block but that of a method with a result. Its map has the declared types of the variables
-- there, in order of their slots. At the end of a block those are still there that the block declared.
use Rattle.std.specs.Prelude.{ℕ, suc, Bool as Truth, true, false, List, [], ◌∷◌, ◌++◌, map, Option, Some, None}
use Rattle.rg_base.specs.declared.ty.Ty.{Ty}
use Rattle.rg_tree.specs.Tree.{Ty as Written, stmt, StmtKind, declare, assign, assign_element, call, swap, branch, while, enter, print, collect}
use Rattle.rg_tree.specs.Tree.{return, Else, no_else, otherwise, Block, empty as none, then as next, Method, Member, field, method, Class, Tree}
use Rattle.rg_code.specs.Lowering.{Slot, Scope, scope_behind, scope_inside, method_scope}

-- the declared types of variables, in order
abbrev pub types_in : Scope → List Ty
types_in scope = map (λ (s : Slot). s.ty) scope

-- the map of a mark at the end of a block, if one stands there
abbrev pub end_maps : (marked : Truth) → Scope → List (List Ty)
end_maps false scope = []
end_maps true scope = types_in scope ∷ []

abbrev mutual
  -- the maps of the blocks of a statement
  pub inner_maps : List Class → Scope → StmtKind → List (List Ty)
  inner_maps classes scope (declare x t r) = []
  inner_maps classes scope (assign p r) = []
  inner_maps classes scope (assign_element q e r) = []
  inner_maps classes scope (call c) = []
  inner_maps classes scope (swap y p) = []
  inner_maps classes scope (branch e b other) = block_maps classes true scope b ++ else_maps classes scope other
  inner_maps classes scope (while e b) = block_maps classes true scope b
  inner_maps classes scope (enter p z b giving) = block_maps classes true (scope_inside classes scope p z) b
  inner_maps classes scope (print e) = []
  inner_maps classes scope collect = []
  inner_maps classes scope (return e) = []

  -- the maps of what stands behind the first block of an `if`
  pub else_maps : List Class → Scope → Else → List (List Ty)
  else_maps classes scope no_else = []
  else_maps classes scope (otherwise b) = block_maps classes true scope b

  -- the maps of a block, at whose end a mark stands or not
  pub block_maps : List Class → (marked : Truth) → Scope → Block → List (List Ty)
  block_maps classes marked scope none = end_maps marked scope
  block_maps classes marked scope (next (stmt line k) b) =
      types_in scope ∷ (inner_maps classes scope k ++ block_maps classes marked (scope_behind classes scope k) b)

-- whether a mark stands at the end of a method: one with a result gives it by its last statement
abbrev pub is_end_marked : (result : Option Written) → Truth
is_end_marked None = true
is_end_marked (Some t) = false

-- the maps of a method of the class of a number
abbrev pub method_maps : List Class → ℕ → Method → List (List Ty)
method_maps classes c m = block_maps classes (is_end_marked m.result) (method_scope classes c m) m.body

-- the maps of the methods among the members of the class of a number
abbrev pub members_maps : List Class → ℕ → List Member → List (List Ty)
members_maps classes c [] = []
members_maps classes c (field f ∷ ms) = members_maps classes c ms
members_maps classes c (method m ∷ ms) = method_maps classes c m ++ members_maps classes c ms

-- the maps of the methods of classes in order, the first of which has the number
abbrev pub methods_maps : List Class → ℕ → List Class → List (List Ty)
methods_maps classes c [] = []
methods_maps classes c (k ∷ ks) = members_maps classes c k.members ++ methods_maps classes (suc c) ks

-- the maps of a program: main's, then those of the methods
abbrev pub maps_of : Tree → List (List Ty)
maps_of t = block_maps t.classes true [] t.body ++ methods_maps t.classes 0 t.classes
