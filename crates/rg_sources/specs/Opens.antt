-- Which files a call opens (docs/promises.md, "The headline").
use Rattle.std.specs.Prelude.{◌≡◌, ℕ, ◌⊎◌, List, [], ◌∷◌, Option}
use Rattle.rg_io.specs.Files.{Told, HasFile}
use Rattle.rg_tree.specs.Tree.{Tree}
use Rattle.rg_plan.specs.Plans.{PlanOf}
use Rattle.rg_loading.specs.Files.{OpensFor}
use Rattle.rg_words.specs.Commands.{Origin, in_file, generated, in_module, with_plan}
use Rattle.rg_sources.specs.Sources.{Sources, HasProgram, MayLoad}

-- behind the file of a plan: those of its images, where it has no fault and has the cown that is to be kept, as far as they are needed
abbrev pub OpensImages : Option Told → (plan : List ℕ) → (keep : Option ℕ) → (source : Sources) → Tree → (names : List (List ℕ)) → Type 0
OpensImages told plan keep source t names =
    (names ≡ []) ⊎ (HasFile told plan source.plan × ((p : PlanOf) × MayLoad keep source t p × OpensFor told t p.cowns names))

-- behind the file of a program: that of the plan, where the program is accepted
abbrev pub OpensPlan : Option Told → (file plan : List ℕ) → (keep : Option ℕ) → (names : List (List ℕ)) → Type 0
OpensPlan told file plan keep names =
    (names ≡ []) ⊎ ((source : Sources) × (t : Tree) × (images : List (List ℕ)) × HasFile told file source.file × HasProgram source.file t
    × OpensImages told plan keep source t images × (names ≡ plan ∷ images))

-- The names of the files that a call opens for its program, in order: once for each word and each line that names one, and none that isn't needed.
abbrev pub Opens : Option Told → Origin → (names : List (List ℕ)) → Type 0
Opens told (in_file file) names = names ≡ file ∷ []
Opens told (generated size) names = names ≡ []
Opens told (in_module file) names = names ≡ file ∷ []
Opens told (with_plan file plan keep) names = (behind : List (List ℕ)) × OpensPlan told file plan keep behind × (names ≡ file ∷ behind)
