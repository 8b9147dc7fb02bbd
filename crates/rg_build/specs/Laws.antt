-- Laws of the module of a program (docs/architecture.md, "Modules"): each mark has a map, it is that of the environment in front of its point,
-- and the rest of the code follows.
use Rattle.std.specs.Prelude.{◌≡◌, ℕ, suc, Bool as Truth, true, false, if◌then◌else◌, List, [], ◌∷◌, ◌++◌, map, length, Option, Some}
use Rattle.rg_base.specs.declared.ty.Ty.{Ty}
use Rattle.rg_tree.specs.Tree.{stmt, StmtKind, declare, assign, assign_element, call, swap, branch, while, enter, print, collect, return}
use Rattle.rg_tree.specs.Tree.{Name, Else, no_else, otherwise, Block, empty as none, then as next, Method, Tree}
use Rattle.rg_rules.specs.Types.{method_named}
use Rattle.rg_rules.specs.Environment.{Env, Entry}
use Rattle.rg_rules.specs.Bodies.{main_body, method_body}
use Rattle.rg_rules.specs.Points.{first, second, Point, here, behind, inside, env_at}
use Rattle.rg_rules.specs.Acceptance.{Accepted}
use Rattle.rg_code.specs.declared.op.Op.{Op}
use Rattle.rg_code.specs.Places.{is_mark}
use Rattle.rg_code.specs.Lowering.{lowered}
use Rattle.rg_module.specs.Follows.{code_for}
use Rattle.rg_build.specs.Maps.{block_maps, is_end_marked, method_maps, maps_of}
use Rattle.rg_build.specs.ModuleOf.{module_of}

-- how many of these instructions are marks
abbrev pub marks : List Op → ℕ
marks [] = 0
marks (o ∷ os) = if is_mark (Some o) then suc (marks os) else marks os

-- the code of a program has as many marks as the program has maps
abbrev pub EachMarkHasAMap : Type 0
EachMarkHasAMap = (t : Tree) → marks (lowered t).ops ≡ length (maps_of t)

-- the end of a block, if a mark stands there
abbrev pub end_points : (marked : Truth) → List Point
end_points false = []
end_points true = here ∷ []

abbrev mutual
  -- the points of the blocks of a statement at which marks stand, in the order of the code
  pub inner_points : StmtKind → List Point
  inner_points (declare x t r) = []
  inner_points (assign p r) = []
  inner_points (assign_element q e r) = []
  inner_points (call c) = []
  inner_points (swap y p) = []
  inner_points (branch e b other) = map (inside first) (block_points true b) ++ else_points other
  inner_points (while e b) = map (inside first) (block_points true b)
  inner_points (enter p z b giving) = map (inside first) (block_points true b)
  inner_points (print e) = []
  inner_points collect = []
  inner_points (return e) = []

  -- those of what stands behind the first block of an `if`
  pub else_points : Else → List Point
  else_points no_else = []
  else_points (otherwise b) = map (inside second) (block_points true b)

  -- those of a block
  pub block_points : (marked : Truth) → Block → List Point
  block_points marked none = end_points marked
  block_points marked (next (stmt line k) b) = here ∷ (inner_points k ++ map behind (block_points marked b))

-- the declared types of the variables of an environment
abbrev pub types_at : Env → List Ty
types_at env = map (λ (e : Entry). e.ty) env.entries

-- a map is that of the environment at a point
pub record IsMapAt (env : Option Env) (types : List Ty) : Type 0 where
  pub here_is : Env
  pub there : env ≡ Some here_is
  pub types_are : types ≡ types_at here_is

-- these maps are those of the environments at these points, in order
abbrev pub AreAt : (Point → Option Env) → List Point → List (List Ty) → Type 0
AreAt at [] [] = Unit {0}
AreAt at [] (m ∷ ms) = ⊥
AreAt at (p ∷ ps) [] = ⊥
AreAt at (p ∷ ps) (m ∷ ms) = IsMapAt (at p) m × AreAt at ps ms

-- the maps of an accepted program are those of the environments at the points at which its marks stand
pub record MapsAreOfEnvironments : Type 0 where
  pub main : (t : Tree) → Accepted t →
      AreAt (env_at t.classes (main_body t)) (block_points true t.body) (block_maps t.classes true [] t.body)
  pub methods : (t : Tree) → Accepted t → (c : ℕ) (x : Name) (m : Method) → method_named t.classes c x ≡ Some m →
      AreAt (env_at t.classes (method_body t.classes c m)) (block_points (is_end_marked m.result) m.body) (method_maps t.classes c m)

-- of an accepted program the rest of the code follows from classes, heads and instructions, as a reader of the module has it
abbrev pub CodeFollows : Type 0
CodeFollows = (t : Tree) → Accepted t → lowered t ≡ code_for (module_of t).classes (module_of t).methods (module_of t).code.ops
