-- With what the cowns of a plan begin (docs/architecture.md, "Schedules").
use Rattle.std.specs.Prelude.{ℕ, List, [], ◌∷◌, map}
use Rattle.rg_base.specs.declared.object.Label.TheVariants.{Region}
use Rattle.rg_base.specs.declared.words.Manager.{Manager}
use Rattle.rg_tree.specs.Tree.{Field, Class}
use Rattle.rg_rules.specs.Types.{fields_of}
use Rattle.rg_rules.specs.RightSides.{opening_value}
use Rattle.rg_cown.specs.Cargo.{CargoList}
use Rattle.rg_plan.specs.declared.cown.Cown.{Cown}
use Rattle.rg_plan.specs.declared.cown.Start.{Start}
use Rattle.rg_plan.specs.declared.cown.Start.TheVariants.{New, Image}
use Rattle.rg_plan.specs.Plans.{Turn as Behaviour, PlanOf}

-- the contents with which the cowns begin, and the behaviours over them
pub record Setting : Type 0 where
  pub contents : List CargoList
  pub behaviours : List Behaviour

-- a new object of a class, alone in a closed region with a manager
abbrev pub new_content : List Class → (class : ℕ) → Manager → CargoList
new_content classes c manager = record {
  cells = record { class = c; label = Region 0; fields = map (λ (f : Field). opening_value f.ty) (fields_of classes c) } ∷ [];
  managers = manager ∷ [];
}

-- the content with which a cown begins: a new object, or the content of the image that its line names, which is given
abbrev pub start_of : List Class → (class : ℕ) → (image : CargoList) → Start → CargoList
start_of classes c image (New manager) = new_content classes c manager
start_of classes c image (Image name) = image

-- the same of cowns in order; `images` has a content for each of them, of which only those count whose line names an image
abbrev pub start_contents : List Class → List Cown → (images : List CargoList) → List CargoList
start_contents classes [] images = []
start_contents classes (c ∷ cs) [] = []
start_contents classes (c ∷ cs) (image ∷ images) = start_of classes c.class image c.start ∷ start_contents classes cs images

-- a plan whose images were read
abbrev pub setting_of : List Class → PlanOf → (images : List CargoList) → Setting
setting_of classes plan images = record { contents = start_contents classes plan.cowns images; behaviours = plan.behaviours }
