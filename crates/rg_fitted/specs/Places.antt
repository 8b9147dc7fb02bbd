-- The marks of a module by their places: at the address of each one stands the map of the point at which the mark is (docs/architecture.md,
-- "Modules").
use Rattle.std.specs.Prelude.{◌≡◌, ℕ, ◌+◌, Bool as Truth, true, false, List, [], ◌∷◌, ◌++◌, length, Option, Some, slice_get}
use Rattle.rg_base.specs.declared.ty.Ty.{Ty}
use Rattle.rg_tree.specs.Tree.{Name, stmt, StmtKind, branch, while, enter, Else, no_else, otherwise, Block, empty as none, then as next}
use Rattle.rg_tree.specs.Tree.{Method, Class, Tree}
use Rattle.rg_rules.specs.Types.{method_named}
use Rattle.rg_rules.specs.Environment.{Env}
use Rattle.rg_rules.specs.Bodies.{main_body, method_body}
use Rattle.rg_rules.specs.Points.{Point, env_at}
use Rattle.rg_rules.specs.Acceptance.{Accepted}
use Rattle.rg_code.specs.declared.code.Entry.{Entry}
use Rattle.rg_code.specs.Places.{is_mark}
use Rattle.rg_code.specs.Lowering.{Scope, scope_behind, scope_inside, method_scope, number_called, whole_code, enter_code, kind_code, block_code}
use Rattle.rg_build.specs.Maps.{is_end_marked}
use Rattle.rg_build.specs.Laws.{block_points, IsMapAt}
use Rattle.rg_build.specs.ModuleOf.{module_of}

-- the address behind the statements of a block, if a mark stands there
abbrev pub end_places : (marked : Truth) → (at : ℕ) → List ℕ
end_places false at = []
end_places true at = at ∷ []

-- The code of a statement and of a block begins at an address.

abbrev mutual
  -- the addresses of the marks in the blocks of a statement, in the order of `inner_points`
  pub inner_places : List Class → Scope → (at : ℕ) → StmtKind → List ℕ
  inner_places classes scope at (branch e b other) =
      let inside = at + 1 + length (whole_code classes scope (at + 1) e) + 1 in
      block_places classes true scope inside b
      ++ else_places classes scope (inside + length (block_code classes scope inside b) + 2) other
  inner_places classes scope at (while e b) =
      block_places classes true scope (at + 1 + length (whole_code classes scope (at + 1) e) + 1) b
  inner_places classes scope at (enter p z b giving) =
      block_places classes true (scope_inside classes scope p z) (at + 1 + length (enter_code classes scope p.base p.fields)) b
  inner_places classes scope at k = []

  -- those of what stands behind the first block of an `if`, which begins with the jump over it
  pub else_places : List Class → Scope → (at : ℕ) → Else → List ℕ
  else_places classes scope at no_else = []
  else_places classes scope at (otherwise b) = block_places classes true scope (at + 1) b

  -- those of a block, in the order of `block_points`
  pub block_places : List Class → (marked : Truth) → Scope → (at : ℕ) → Block → List ℕ
  block_places classes marked scope at none = end_places marked at
  block_places classes marked scope at (next (stmt line k) b) =
      at ∷ (inner_places classes scope at k
      ++ block_places classes marked (scope_behind classes scope k) (at + length (kind_code classes scope at line k)) b)

-- at an address of the module of a program a mark stands, and its map is that of an environment
pub record IsMarkOf (t : Tree) (env : Option Env) (at : ℕ) : Type 0 where
  pub types : List Ty
  pub mark : is_mark (slice_get (module_of t).code.ops at) ≡ true
  pub there : slice_get (module_of t).maps at ≡ Some types
  pub types_are : IsMapAt env types

-- so it is at each of these addresses, with the environment at the point that is as far on
abbrev pub AreMarksOf : (t : Tree) → (Point → Option Env) → List Point → (places : List ℕ) → Type 0
AreMarksOf t env [] [] = Unit {0}
AreMarksOf t env [] (a ∷ more) = ⊥
AreMarksOf t env (p ∷ ps) [] = ⊥
AreMarksOf t env (p ∷ ps) (a ∷ more) = IsMarkOf t (env p) a × AreMarksOf t env ps more

-- the marks of a method, whose code begins where its entry says
pub record MethodMarksStand (t : Tree) (c : ℕ) (x : Name) (m : Method) : Type 0 where
  pub entry : Entry
  pub there : slice_get (module_of t).code.entries (number_called t.classes c x) ≡ Some entry
  pub marks :
      AreMarksOf t (env_at t.classes (method_body t.classes c m)) (block_points (is_end_marked m.result) m.body)
      (block_places t.classes (is_end_marked m.result) (method_scope t.classes c m) entry.at m.body)

-- the marks of an accepted program: main's code begins at 0
pub record MarksStand : Type 0 where
  pub main : (t : Tree) → Accepted t →
      AreMarksOf t (env_at t.classes (main_body t)) (block_points true t.body) (block_places t.classes true [] 0 t.body)
  pub methods : (t : Tree) → Accepted t → (c : ℕ) (x : Name) (m : Method) → method_named t.classes c x ≡ Some m → MethodMarksStand t c x m
