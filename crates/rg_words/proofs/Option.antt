-- Options that are read one after another.
use Rattle.std.proofs.Common.{◌≡◌, ℕ, ◌-◌, ◌≤◌, true, false, List, [], ◌∷◌, length, take, drop, get_or, Some, bytes_eq, codes, refl, arith}
use Rattle.std.proofs.Math.Seq.{take-length}
use Rattle.std.specs.Borrow.{Bor}
use Rattle.rg_words.specs.declared.words.Options.{Options}
use Rattle.rg_words.specs.Commands.{texts, with_report, with_number, options_in}

-- the words behind the first one
behind-first : (w : Bor (List ℕ)) (ws : List (Bor (List ℕ))) → take (length (w ∷ ws) - 1) (drop 1 (w ∷ ws)) ≡ ws
behind-first w ws = let e : length (w ∷ ws) - 1 ≡ length ws = omega arith in rw e (take-length ws)

-- `--report`, and then others
report-first : (option : List ℕ) (words : List (List ℕ)) (o next : Options) → bytes_eq option (codes "--report") ≡ true
    → with_report o ≡ Some next → options_in words next ≡ options_in (option ∷ words) o
report-first option [] o next is given = rw (is, given) refl
report-first option (word ∷ words) o next is given = rw (is, given) refl

-- an option with its number, and then others
number-first : (option word : List ℕ) (words : List (List ℕ)) (o next : Options) → bytes_eq option (codes "--report") ≡ false
    → with_number o option word ≡ Some next → options_in words next ≡ options_in (option ∷ word ∷ words) o
number-first option word words o next is given = rw (is, given) refl

-- the same of a slice of words
pub report-and-others : (d : Bor (List ℕ)) (ws : List (Bor (List ℕ))) (o next : Options) → 1 ≤ length ws
    → bytes_eq (get_or ws 0 d).now (codes "--report") ≡ true → with_report o ≡ Some next
    → options_in (texts (take (length ws - 1) (drop 1 ws))) next ≡ options_in (texts ws) o
report-and-others d [] o next l is given = absurd (omega arith)
report-and-others d (w ∷ ws) o next l is given = rw (behind-first w ws) (report-first w.now (texts ws) o next is given)

number-behind : (d w : Bor (List ℕ)) (ws : List (Bor (List ℕ))) (o next : Options) → 1 ≤ length ws
    → bytes_eq w.now (codes "--report") ≡ false → with_number o w.now (get_or ws 0 d).now ≡ Some next
    → options_in (texts (take (length ws - 1) (drop 1 ws))) next ≡ options_in (texts (w ∷ ws)) o
number-behind d w [] o next l is given = absurd (omega arith)
number-behind d w (v ∷ ws) o next l is given = rw (behind-first v ws) (number-first w.now v.now (texts ws) o next is given)

-- of two slices, the second one behind the first word
pub number-and-others : (d e : Bor (List ℕ)) (ws behind : List (Bor (List ℕ))) (o next : Options) → 1 ≤ length ws
    → behind ≡ take (length ws - 1) (drop 1 ws) → 1 ≤ length behind
    → bytes_eq (get_or ws 0 d).now (codes "--report") ≡ false → with_number o (get_or ws 0 d).now (get_or behind 0 e).now ≡ Some next
    → options_in (texts (take (length behind - 1) (drop 1 behind))) next ≡ options_in (texts ws) o
number-and-others d e [] behind o next l b more is given = absurd (omega arith)
number-and-others d e (w ∷ ws) behind o next l b more is given =
    let same : behind ≡ ws = rw (behind-first w ws) at b in
    rw same (number-behind e w ws o next (rw same at more) is (rw same at given))
