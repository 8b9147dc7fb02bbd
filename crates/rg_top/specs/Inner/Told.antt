-- What the notes have taken of a text that tells a status (docs/promises.md).
use Rattle.std.specs.Prelude.{◌≡◌, ◌≢◌, ◌≤◌, ◌+◌, ℕ, ◌⊎◌, ⊤, Bool, true, false, List, [], ◌++◌, take, length, Option, Some, Result, Ok, Err}
use Rattle.rg_io.specs.Content.{Appends, IsPrefix}
use Rattle.rg_words.specs.declared.status.Status.{Status}
use Rattle.rg_words.specs.declared.status.Status.TheVariants as status
use Rattle.rg_words.specs.Statuses.{status_text}

-- a part of a text, and then a part of the text of an output fault
pub record CutText (whole : List ℕ) (old new : Option (List ℕ)) : Type 0 where
  pub first : List ℕ
  pub second : List ℕ
  pub first_of : IsPrefix first whole
  pub second_of : IsPrefix second (status_text 0 status.OutputFault)
  pub took : Appends old new (first ++ second)

-- what the notes have taken of a text that tells a status: the whole of it, or after a fault of the notes a part
abbrev pub Gave : (whole : List ℕ) → (given answer : Status) → (old new : Option (List ℕ)) → Type 0
Gave whole given answer old new = ((answer ≡ given) × Appends old new whole) ⊎ ((answer ≡ status.OutputFault) × CutText whole old new)

-- what is told is the status that was given, or that the rest couldn't be told
abbrev pub Becomes : (given answer : Status) → Type 0
Becomes given answer = (answer ≡ given) ⊎ ((answer ≡ status.OutputFault) ⊎ (answer ≡ status.Memory))
