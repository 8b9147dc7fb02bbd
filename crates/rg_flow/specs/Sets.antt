-- Sets of numbers as words of 64 bits (docs/language.md, "Judgements").
use Rattle.std.specs.Prelude.{◌≡◌, ℕ, ◌/◌, ◌%◌, Bool, nat_eq, if◌then◌else◌, IsTrue, List, get_or}
use Rattle.std.specs.Int.{bit_at}

-- whether v is in a set
abbrev pub has : List ℕ → ℕ → Bool
has words v = nat_eq (bit_at (get_or words (v / 64) 0) (v % 64)) 1

-- only of v it is new whether it is in the set
abbrev pub SetsBit : (old new : List ℕ) → ℕ → Bool → Type 0
SetsBit old new v bit = (w : ℕ) → has new w ≡ (if nat_eq w v then bit else has old w)

-- a set lies in another
abbrev pub IsWithin : List ℕ → List ℕ → Type 0
IsWithin a b = (v : ℕ) → IsTrue (has a v) → IsTrue (has b v)
