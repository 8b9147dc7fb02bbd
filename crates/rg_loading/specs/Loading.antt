-- What the `load` lines of a plan come to, by the bytes of their files (docs/architecture.md, "Images").
use Rattle.std.specs.Prelude.{◌≡◌, ◌<◌, ◌≤◌, ℕ, List, [], ◌∷◌, ◌++◌, length, Some, Result, Ok, Err}
use Rattle.rg_tree.specs.Tree.{Tree}
use Rattle.rg_cown.specs.Cargo.{CargoList}
use Rattle.rg_opening.specs.Beginning.{bridge_class}
use Rattle.rg_image.specs.Images.{IsImage}
use Rattle.rg_plan.specs.declared.cown.Start.{Start}
use Rattle.rg_plan.specs.declared.cown.Start.TheVariants.{New, Image}
use Rattle.rg_plan.specs.declared.cown.Cown.{Cown}
use Rattle.rg_loading.specs.declared.limits.TheConstants.{IMAGE_BYTES}

-- why there are no contents: a file has more bytes than one may have, or that of the line of a number is no image of what its cown may have
pub data Failing : Type 0 where
  too_long : Failing
  no_image : (line : ℕ) → Failing

-- bytes are the image of a content of a program, with a bridge of a class
abbrev pub IsImageOf : Tree → (class : ℕ) → (bytes : List ℕ) → CargoList → Type 0
IsImageOf t class bytes x = IsImage t bytes (Some x) × (bridge_class x ≡ Some class)

-- what a file comes to that the `load` line of a cown names: its content, or why there is none
abbrev pub FileComes : Tree → Cown → (bytes : List ℕ) → Result CargoList Failing → Type 0
FileComes t c bytes (Ok x) = (length bytes ≤ IMAGE_BYTES) × IsImageOf t c.class bytes x
FileComes t c bytes (Err too_long) = IMAGE_BYTES < length bytes
FileComes t c bytes (Err (no_image line)) =
    (length bytes ≤ IMAGE_BYTES) × ((x : CargoList) → IsImageOf t c.class bytes x → ⊥) × (line ≡ c.line)

-- contents in front of others, if there are any
abbrev pub in_front : List CargoList → Result (List CargoList) Failing → Result (List CargoList) Failing
in_front xs (Ok ys) = Ok (xs ++ ys)
in_front xs (Err why) = Err why

-- what a cown comes to and those behind it, of which `Rest` says what they come to: where the first has no content, no other file is read
abbrev pub OneComes : Result CargoList Failing → (Rest : List (List ℕ) → Result (List CargoList) Failing → Type 0) → (files : List (List ℕ))
    → Result (List CargoList) Failing → Type 0
OneComes (Ok x) Rest files r = (rest : Result (List CargoList) Failing) × Rest files rest × (r ≡ in_front (x ∷ []) rest)
OneComes (Err why) Rest files r = (files ≡ []) × (r ≡ Err why)

-- nothing, which stands for a content where a cown begins with a new object
abbrev pub no_content : CargoList
no_content = record { cells = []; managers = [] }

-- the same, by what the first one begins with: a `cown` line names no file, and the file of a `load` line is the first of those that are read
abbrev pub FirstComes : Tree → Cown → Start → (Rest : List (List ℕ) → Result (List CargoList) Failing → Type 0) → (files : List (List ℕ))
    → Result (List CargoList) Failing → Type 0
FirstComes t c (New manager) Rest files r = OneComes (Ok no_content) Rest files r
FirstComes t c (Image name) Rest [] r = ⊥
FirstComes t c (Image name) Rest (bytes ∷ files) r =
    (one : Result CargoList Failing) × FileComes t c bytes one × OneComes one Rest files r

-- What cowns come to, in order, with the bytes of the files that are read: a content for each of them; or why the last of these files brings none.
abbrev pub LoadsCome : Tree → List Cown → (files : List (List ℕ)) → Result (List CargoList) Failing → Type 0
LoadsCome t [] files r = (files ≡ []) × (r ≡ Ok [])
LoadsCome t (c ∷ cs) files r = FirstComes t c c.start (λ fs q. LoadsCome t cs fs q) files r

-- a name in front of others, where a cown begins with a file
abbrev pub with_name : Start → List (List ℕ) → List (List ℕ)
with_name (New manager) names = names
with_name (Image name) names = name ∷ names

-- the names of the files that cowns begin with, in order
abbrev pub file_names : List Cown → List (List ℕ)
file_names [] = []
file_names (c ∷ cs) = with_name c.start (file_names cs)
