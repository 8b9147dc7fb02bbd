-- The numbers of an input: the bytes that are left, and what a call answers of them (docs/language.md, "Input numbers").
use Rattle.std.specs.Prelude.{◌≡◌, ◌⊎◌, ℕ, ℤ, Bool, true, false, List, [], ◌∷◌, ◌++◌, Option, IfSome, Result, Ok, Err}
use Rattle.rg_base.specs.declared.outcome.Outcome.{Outcome}
use Rattle.rg_base.specs.declared.outcome.Outcome.TheVariants as outcome
use Rattle.rg_base.specs.Input.{NextNumber, found, malformed, at_end, next_number}
use Rattle.rg_io.specs.Content.{Gives, Reply, gave, failed}
use Rattle.rg_input.specs.declared.refusal.InputFault.{InputFault}
use Rattle.rg_input.specs.declared.refusal.NumberRefusal.{NumberRefusal}
use Rattle.rg_input.specs.declared.refusal.NumberRefusal.TheVariants as no
use Rattle.rg_input.specs.Read.{is_whole}

-- the bytes that were read and not taken, and whether the source has ended
pub record Pending : Type 0 where
  pub held : List ℕ
  pub ended : Bool

-- a source that has ended has nothing left, where it tells that
abbrev pub Follows : Pending → Option (List ℕ) → Type 0
Follows n left = n.ended ≡ true → IfSome left (λ bytes. bytes ≡ [])

-- whether a number, or what is none, comes next
abbrev pub is_more : NextNumber → Bool
is_more (found z rest) = true
is_more malformed = true
is_more at_end = false

-- what was read says what the next number is, whatever comes
abbrev pub IsSure : Pending → Type 0
IsSure n = (is_whole n.held ≡ true) ⊎ (n.ended ≡ true)

-- a piece came from a source; one without bytes is its end
abbrev pub with_piece : Pending → List ℕ → Pending
with_piece n [] = record n { ended = true }
with_piece n (b ∷ bytes) = record n { held = n.held ++ b ∷ bytes }

-- Pieces came from a source, one after another, each where what had come before it didn't say what the next number is.
pub data PiecesCame {T : Type 0} (replies : T → Reply → T → Type 0) (old : Pending) (source : T) : Pending → T → Type 0 where
  nothing_came : PiecesCame replies old source old source
  piece_came : {n : Pending} {s t : T} → PiecesCame replies old source n s → (IsSure n → ⊥) → (bytes : List ℕ) → replies s (gave bytes) t
      → PiecesCame replies old source (with_piece n bytes) t

-- So they came, and no fault; or one behind them, where one more was needed: it is the last reply.
abbrev pub AsksFor : {T : Type 0} → (T → Reply → T → Type 0) → Bool → (old new : Pending) → (old_source new_source : T) → Type 0
AsksFor replies false old new s t = PiecesCame replies old s new t
AsksFor {T} replies true old new s t = (u : T) × PiecesCame replies old s new u × (IsSure new → ⊥) × replies u failed t

-- these bytes can still come from a source: those that it tells, where it tells them, and none where it has ended
pub record CanCome (n : Pending) (left : Option (List ℕ)) (more : List ℕ) : Type 0 where
  pub told : IfSome left (λ bytes. bytes ≡ more)
  pub ended : n.ended ≡ true → more ≡ []

-- A fact on the bytes left before a call and after it: those that are held, those that the call read, and those that can still
-- come. A source that tells its bytes settles them; of one that doesn't, the fact holds whatever comes.
abbrev pub OnInput : (old new : Pending) → (old_left new_left : Option (List ℕ)) → (List ℕ → List ℕ → Type 0) → Type 0
OnInput old new old_left new_left P =
    (read : List ℕ) × Gives old_left new_left read
    × ((more : List ℕ) → CanCome new new_left more → CanCome old old_left (read ++ more) × P (old.held ++ (read ++ more)) (new.held ++ more))

-- what `more` answers, of the bytes left before and after it
abbrev pub Looks : Result Bool InputFault → (before after : List ℕ) → Type 0
Looks (Ok b) before after = (b ≡ is_more (next_number before)) × (after ≡ before)
Looks (Err f) before after = after ≡ before

-- what `next` answers, of the bytes left before and after it
abbrev pub Answers : Result ℤ NumberRefusal → (before after : List ℕ) → Type 0
Answers (Ok z) before after = next_number before ≡ found z after
Answers (Err no.End) before after = (next_number before ≡ at_end) × (after ≡ before)
Answers (Err no.Input) before after = (next_number before ≡ malformed) × (after ≡ before)
Answers (Err no.InputFault) before after = after ≡ before

-- whether the answer is a fault
abbrev pub is_fault : {A : Type 0} → Result A NumberRefusal → Bool
is_fault (Ok x) = false
is_fault (Err no.End) = false
is_fault (Err no.Input) = false
is_fault (Err no.InputFault) = true

-- whether a step ends with a fault of the input
abbrev pub is_input_fault : Outcome → Bool
is_input_fault outcome.Running = false
is_input_fault (outcome.Printed v) = false
is_input_fault outcome.Done = false
is_input_fault (outcome.Trap kind line) = false
is_input_fault outcome.InputFault = true
is_input_fault outcome.Memory = false

-- what was read gives this refusal, whatever comes
abbrev pub Refuses : Pending → NumberRefusal → Type 0
Refuses n no.End = (n.ended ≡ true) × (next_number n.held ≡ at_end)
Refuses n no.Input = ((n.ended ≡ true) ⊎ (is_whole n.held ≡ true)) × (next_number n.held ≡ malformed)
Refuses n no.InputFault = ⊥

-- a refusal other than a fault stays
abbrev pub Stays : Pending → NumberRefusal → Type 0
Stays n no.End = Refuses n no.End
Stays n no.Input = Refuses n no.Input
Stays n no.InputFault = Unit {0}

-- what `more` answers where a refusal stays
abbrev pub is_input : NumberRefusal → Bool
is_input no.End = false
is_input no.Input = true
is_input no.InputFault = true
