-- What holds of each plan that is read (docs/architecture.md, "Plans").
use Rattle.std.specs.Prelude.{◌≡◌, ◌≢◌, ℕ, ◌<◌, true, false, List, length, All, AllPairs, Some, Ok, slice_get}
use Rattle.rg_tree.specs.Tree.{Name, Method, Class, Tree}
use Rattle.rg_rules.specs.Types.{is_array, method_named}
use Rattle.rg_names.specs.MethodNumbers.{method_number}
use Rattle.rg_plan.specs.declared.cown.Start.{Start}
use Rattle.rg_plan.specs.declared.cown.Start.TheVariants.{New, Image}
use Rattle.rg_plan.specs.declared.cown.Cown.{Cown}
use Rattle.rg_plan.specs.Plans.{Turn, PlanOf}
use Rattle.rg_plan.specs.Lines.{is_file_name, is_plain, owned_classes, cown_classes}
use Rattle.rg_plan.specs.Rules.{has_bare_main, plan_of}

-- what a cown of a class may begin with
abbrev pub IsGoodStart : Class → Start → Type 0
IsGoodStart class (New manager) = is_array class ≡ false
IsGoodStart class (Image name) = is_file_name name ≡ true

-- a cown: its class is ordinary, and may begin so
pub record IsGoodCown (classes : List Class) (c : Cown) : Type 0 where
  pub class : Class
  pub there : slice_get classes c.class ≡ Some class
  pub ordinary : class.is_tmp ≡ false
  pub start : IsGoodStart class c.start

-- a behaviour over cowns: its method is `def mut m() { .. }` of an ordinary class, the `iso` fields of the class and the cowns have the same
-- classes in the same order, and no cown stands twice
pub record IsGoodTurn (classes : List Class) (cowns : List Cown) (b : Turn) : Type 0 where
  pub class : Class
  pub there : slice_get classes b.class ≡ Some class
  pub ordinary : class.is_tmp ≡ false
  pub name : Name
  pub method : Method
  pub named : method_named classes b.class name ≡ Some method
  pub number : method_number classes b.class name ≡ Some b.method
  pub plain : is_plain method ≡ true
  pub below : All (λ n. n < length cowns) b.cowns
  pub distinct : AllPairs (λ m n. m ≢ n) b.cowns
  pub owned : owned_classes classes b.class ≡ cown_classes cowns b.cowns

-- a plan: main is `main arena { }`, each part is good, and there are no more than may be
pub record IsGoodPlan (t : Tree) (p : PlanOf) : Type 0 where
  pub main : has_bare_main t ≡ true
  pub cowns : All (IsGoodCown t.classes) p.cowns
  pub behaviours : All (IsGoodTurn t.classes p.cowns) p.behaviours

-- each plan that is read is good
abbrev pub PlansAreGood : Type 0
PlansAreGood = (t : Tree) (bytes : List ℕ) (p : PlanOf) → plan_of t bytes ≡ Ok p → IsGoodPlan t p
