-- What an input says as a schedule (docs/architecture.md, "Worlds").
use Rattle.std.specs.Prelude.{ℕ, zero, suc, ℤ, pos, negsuc, nat_lt, if◌then◌else◌, List, [], ◌∷◌, ◌++◌, length, Option, Some, None}
use Rattle.rg_base.specs.Input.{NextNumber, found, malformed, at_end, next_number}
use Rattle.rg_input.specs.Numbers.{is_more}
use Rattle.rg_sched.specs.declared.limits.TheConstants.{SCHEDULE}

-- what an input says as a schedule
pub data Schedule : Type 0 where
  -- these numbers of behaviours, to its end
  Whole : (numbers : List ℕ) → Schedule
  -- the item behind these is no number, or no behaviour's number
  BadBehind : (numbers : List ℕ) → Schedule
  -- more numbers than these, which are as many as a schedule may have
  TooLong : (numbers : List ℕ) → Schedule

-- the numbers of it that are taken
abbrev pub taken_of : Schedule → List ℕ
taken_of (Whole numbers) = numbers
taken_of (BadBehind numbers) = numbers
taken_of (TooLong numbers) = numbers

-- the place of the item behind so many numbers, counted from 1
abbrev pub item_behind : (numbers : List ℕ) → ℕ
item_behind numbers = suc (length numbers)

-- the behaviour that a number names among so many
abbrev pub behaviour_of : (behaviours : ℕ) → ℤ → Option ℕ
behaviour_of n (pos k) = if nat_lt k n then Some k else None
behaviour_of n (negsuc k) = None

-- goes on behind the number of a behaviour, if there is one
abbrev pub behind_number : (so_far : List ℕ) → Option ℕ → (ℕ → Schedule) → Schedule
behind_number so_far None go = BadBehind so_far
behind_number so_far (Some k) go = go k

-- goes on behind the next number
abbrev pub behind_next : (behaviours : ℕ) → (so_far : List ℕ) → NextNumber → (ℕ → List ℕ → Schedule) → Schedule
behind_next n so_far (found z rest) go = behind_number so_far (behaviour_of n z) (λ k. go k rest)
behind_next n so_far malformed go = BadBehind so_far
behind_next n so_far at_end go = Whole so_far

-- what bytes say behind these numbers, where so many more may come
unfoldable pub schedule_from : (behaviours left : ℕ) → (so_far bytes : List ℕ) → Schedule
schedule_from n zero so_far bytes = if is_more (next_number bytes) then TooLong so_far else Whole so_far
schedule_from n (suc left) so_far bytes = behind_next n so_far (next_number bytes) (λ k. schedule_from n left (so_far ++ k ∷ []))

-- what an input says as a schedule of so many behaviours
abbrev pub schedule_of : (behaviours : ℕ) → (bytes : List ℕ) → Schedule
schedule_of n bytes = schedule_from n SCHEDULE [] bytes
