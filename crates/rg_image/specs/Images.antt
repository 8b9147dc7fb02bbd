-- Which bytes are the image of a content of a program, and what reading an image answers (docs/architecture.md, "Images").
use Rattle.std.specs.Prelude.{◌≡◌, ⊤, ℕ, List, Option, None, Some, Result, Ok, Err}
use Rattle.rg_base.specs.declared.fault.Code.TheVariants.{Image}
use Rattle.rg_base.specs.declared.fault.Fault.{Fault}
use Rattle.rg_base.specs.declared.fault.Stop.{Stop}
use Rattle.rg_base.specs.declared.fault.Stop.TheVariants as stop
use Rattle.rg_tree.specs.Tree.{Tree}
use Rattle.rg_cown.specs.Cargo.{CargoList, SoundCargo}
use Rattle.rg_typed.specs.Typed.{TypedCargo}
use Rattle.rg_image.specs.ImageText.{image_text, FitsContent}

-- what a cown of a program may hold: nothing, or the content of a closed region that fits the program
abbrev pub IsContent : Tree → Option CargoList → Type 0
IsContent t None = ⊤
IsContent t (Some c) = SoundCargo c × TypedCargo t c

-- bytes are the image of a content of a program
pub record IsImage (t : Tree) (bytes : List ℕ) (content : Option CargoList) : Type 0 where
  pub text : bytes ≡ image_text content
  pub numbers : FitsContent content
  pub fits : IsContent t content

-- bytes that are no image are `E95`, at no line of theirs
abbrev pub not_image : Fault
not_image = record { code = Image; line = 0 }

-- why there is no content: the bytes are no image of one, or there is no memory
abbrev pub Refuses : Tree → (bytes : List ℕ) → Stop → Type 0
Refuses t bytes (stop.Fault f) = (f ≡ not_image) × ((content : Option CargoList) → IsImage t bytes content → ⊥)
Refuses t bytes stop.Memory = Unit {0}

-- what is read is the content whose image the bytes are
abbrev pub Decodes : Tree → (bytes : List ℕ) → Result (Option CargoList) Stop → Type 0
Decodes t bytes (Ok content) = IsImage t bytes content
Decodes t bytes (Err e) = Refuses t bytes e

-- the answer is this content, unless there is no memory
abbrev pub Answers : Result (Option CargoList) Stop → Option CargoList → Type 0
Answers (Ok found) content = found ≡ content
Answers (Err (stop.Fault f)) content = ⊥
Answers (Err stop.Memory) content = Unit {0}

-- bytes are the image of at most one content
abbrev pub OneContent : Type 0
OneContent = (t : Tree) (bytes : List ℕ) (a b : Option CargoList) → IsImage t bytes a → IsImage t bytes b → a ≡ b
