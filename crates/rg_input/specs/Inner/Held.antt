-- The bytes that are held, and what they say (docs/language.md, "Input numbers").
use Rattle.std.specs.Prelude.{◌≡◌, ℕ, ◌⊎◌, true, false, Bool, List, [], ◌++◌, Option}
use Rattle.std.specs.Option.{option_to_list}
use Rattle.rg_base.specs.Input.{NextNumber, found, malformed, at_end, next_number}
use Rattle.rg_io.specs.Content.{Gives}
use Rattle.rg_input.specs.declared.held.Held.{Held}
use Rattle.rg_input.specs.declared.held.Verdict.{Verdict}
use Rattle.rg_input.specs.declared.held.Verdict.TheVariants as says
use Rattle.rg_input.specs.declared.refusal.NumberRefusal.{NumberRefusal}
use Rattle.rg_input.specs.declared.refusal.NumberRefusal.TheVariants as no
use Rattle.rg_input.specs.Numbers.{Pending, Refuses}
use Rattle.rg_input.specs.Read.{read_bytes, is_enough}

-- the bytes that were looked at
abbrev pub looked_at : Held → List ℕ
looked_at h = read_bytes h.blanks h.token h.behind

-- what callers see of it: the bytes that were looked at, and behind them those that came ahead
abbrev pub pending : Held → Pending → Pending
pending h ahead = record { held = looked_at h ++ ahead.held; ended = ahead.ended }

-- bytes came from a source, and were kept behind those that were held; none came where it had ended
pub record Reads (old_left new_left : Option (List ℕ)) (old new : Pending) : Type 0 where
  pub read : List ℕ
  pub given : Gives old_left new_left read
  pub kept : new.held ≡ old.held ++ read
  pub ended : old.ended ≡ true → (read ≡ []) × (new.ended ≡ true)

-- whether what was looked at says what the next number is, whatever comes
abbrev pub has_enough : Held → Bool
has_enough h = is_enough h.blanks h.token h.behind

-- no more has to be looked at, or no more comes
abbrev pub IsWhole : Held → Pending → Type 0
IsWhole h ahead = (has_enough h ≡ true) ⊎ ((ahead.ended ≡ true) × (ahead.held ≡ []))

-- a verdict, with what stands behind the token
abbrev pub with_rest : Verdict → List ℕ → NextNumber
with_rest (says.Number z) rest = found z rest
with_rest says.Malformed rest = malformed
with_rest says.End rest = at_end

-- the verdict holds whatever comes, where there is enough, and else where nothing comes
abbrev pub Says : Held → Verdict → Type 0
Says h v = (more : List ℕ) → (has_enough h ≡ true) ⊎ (more ≡ []) →
    next_number (looked_at h ++ more) ≡ with_rest v (option_to_list h.behind ++ more)

-- whether a verdict says that more comes
abbrev pub says_more : Verdict → Bool
says_more (says.Number z) = true
says_more says.Malformed = true
says_more says.End = false

-- what was said stays: a refusal stays a refusal
abbrev pub Settled : Verdict → Pending → Type 0
Settled (says.Number z) n = Unit {0}
Settled says.Malformed n = Refuses n no.Input
Settled says.End n = Refuses n no.End

-- the verdict of a refusal
abbrev pub verdict_of : NumberRefusal → Verdict
verdict_of no.End = says.End
verdict_of no.Input = says.Malformed
verdict_of no.InputFault = says.Malformed
