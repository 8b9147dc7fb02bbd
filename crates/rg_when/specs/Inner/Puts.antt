-- How an answer was given to an output (docs/promises.md, "The headline").
use Rattle.std.specs.Prelude.{◌≡◌, ℕ, true, List, [], Option, None, Some, ◌⊎◌}
use Rattle.rg_io.specs.Content.{Appends, AppendsPart}
use Rattle.rg_words.specs.declared.status.Status.{Status}
use Rattle.rg_words.specs.declared.status.Status.TheVariants as status
use Rattle.rg_words.specs.Statuses.{is_cut_off}
use Rattle.rg_words.specs.Answers.{Answer}

-- what is answered behind so many numbers where this text is told, or none while a running behaviour has what is kept
abbrev pub text_answer : Option (List ℕ) → (taken : ℕ) → Answer
text_answer None n = record { status = status.Away n; text = [] }
text_answer (Some text) n = record { status = status.Done; text = text }

-- an answer was given, its status and its whole text; or it was cut off behind a part of the text
abbrev pub PutsAnswer : Status → Answer → (old new : Option (List ℕ)) → Type 0
PutsAnswer s a old new = ((s ≡ a.status) × Appends old new a.text) ⊎ ((is_cut_off s ≡ true) × AppendsPart old new a.text)
