-- Walks of paths, one field after another.
use Rattle.std.proofs.Common.{◌≡◌, refl, ℕ, Bool as Truth, true, false, if◌then◌else◌, List, [], ◌∷◌, ◌++◌, map, Ok}
use Rattle.rg_base.specs.declared.ty.Ty.{Ty}
use Rattle.rg_base.specs.declared.ty.Ty.TheVariants.{Int, Bool, Ref}
use Rattle.rg_base.specs.declared.fault.Code.TheVariants.{Capability}
use Rattle.rg_tree.specs.Tree.{Name, Variable, Class}
use Rattle.rg_tree.specs.Rows.Tables.{Tables, name_at}
use Rattle.rg_tree.specs.Rows.RowTrees.{program_of}
use Rattle.rg_rules.specs.Answers.{◌>>=◌, ◌>>◌, test, Answer}
use Rattle.rg_rules.specs.Capabilities.{may_write, pause}
use Rattle.rg_rules.specs.Environment.{Env}
use Rattle.rg_rules.specs.Paths.{walk_fields, walk, look_up}
use Rattle.rg_rules.specs.Statements.{swapped_field}
use Rattle.rg_rules.proofs.Path.{all_but_last-append, last_field-append}
use Rattle.rg_names.specs.TreeAnswers.{IsKnown}

-- from a type some fields have led to another, and others are left
pub record WalkedTo (t : Tables) (from : Ty) (fields : List ℕ) (here : Ty) (rest : List ℕ) : Type 0 where
  pub known : IsKnown (program_of t).classes here
  pub same : walk_fields (program_of t).classes from (map (name_at t) fields) ≡ walk_fields (program_of t).classes here (map (name_at t) rest)

-- the field at the end of a path, by what stands in front of it
abbrev pub field_behind : List Class → Env → Variable → List Name → Name → Answer Ty
field_behind classes env x front l = do
  r ← (do
    t ← walk classes env x front
    look_up classes t l)
  test (may_write r.receiver) Capability
  Ok r.ty

pub swapped_field-append : (classes : List Class) (env : Env) (x : Variable) (front : List Name) (l : Name) →
    swapped_field classes env x (front ++ l ∷ []) ≡ field_behind classes env x front l
swapped_field-append classes env x [] l = refl
swapped_field-append classes env x (f ∷ fs) l = rw (all_but_last-append f fs l, last_field-append f fs l) refl

-- the class of a variable's type is there, however the variable is seen
pub IsKnown-seen : (classes : List Class) (here : Truth) (t : Ty) → IsKnown classes t → IsKnown classes (if here then t else pause t)
IsKnown-seen classes true t h = h
IsKnown-seen classes false Int h = h
IsKnown-seen classes false Bool h = h
IsKnown-seen classes false (Ref cap c) h = h
