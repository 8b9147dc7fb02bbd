-- How a text is cut at its first mark.
use Rattle.std.proofs.Common.{◌≡◌, ◌∙◌, refl, ap, ℕ, zero, suc, ◌+◌, ◌<◌, ◌≤◌, ◌==◌, Bool, true, false, not, if◌then◌else◌, List, [], ◌∷◌, length}
use Rattle.std.proofs.Common.{take, drop}
use Rattle.std.proofs.Common.{Option, Some, None, arith, one-add}
use Rattle.std.specs.List.{prefix_len}
use Rattle.rg_plan.specs.Pieces.{in_front, pieces}
use Rattle.rg_plan.specs.Inner.Words.{left, behind, is_done}

-- the bytes in front of the first mark
abbrev pub run_to : (mark : ℕ) → List ℕ → ℕ
run_to mark bs = prefix_len (λ b. not (b == mark)) bs

step : (t : Bool) (mark b m : ℕ) (bs : List ℕ) → pieces mark bs ≡ take m bs ∷ left mark (behind m bs) →
    in_front t b (pieces mark bs) ≡ take (if not t then 1 + m else 0) (b ∷ bs) ∷ left mark (behind (if not t then 1 + m else 0) (b ∷ bs))
step true mark b m bs h = refl
step false mark b m bs h = rw one-add (rw h refl)

-- the first piece, and those behind it
pub pieces-next : (mark : ℕ) (bs : List ℕ) → pieces mark bs ≡ take (run_to mark bs) bs ∷ left mark (behind (run_to mark bs) bs)
pieces-next mark [] = refl
pieces-next mark (b ∷ bs) = step (b == mark) mark b (run_to mark bs) bs (pieces-next mark bs)

-- the same at a length, with what stands behind it
pub pieces-cut : (mark n : ℕ) (bs first : List ℕ) (rest : Option (List ℕ)) → n ≡ run_to mark bs → first ≡ take n bs → rest ≡ behind n bs →
    pieces mark bs ≡ first ∷ left mark rest
pieces-cut mark n bs first rest e f g = rw (f, g, e) (pieces-next mark bs)

-- a text has a piece
pub pieces-some : (mark : ℕ) (bs : List ℕ) → is_done (pieces mark bs) ≡ false
pieces-some mark bs = rw (pieces-next mark bs) refl

behind-get : (n : ℕ) (bs : List ℕ) → n < length bs → behind n bs ≡ Some (drop (suc n) bs)
behind-get n [] l = absurd (omega arith)
behind-get zero (b ∷ bs) l = refl
behind-get (suc n) (b ∷ bs) l = behind-get n bs (omega arith)

pub behind-some : (n : ℕ) (bs : List ℕ) → n < length bs → behind n bs ≡ Some (drop (n + 1) bs)
behind-some n bs l = let one : suc n ≡ n + 1 = omega arith in behind-get n bs l ∙ ap (λ k. Some (drop k bs)) one

pub behind-none : (n : ℕ) (bs : List ℕ) → length bs ≤ n → behind n bs ≡ None
behind-none n [] l = refl
behind-none zero (b ∷ bs) l = absurd (omega arith)
behind-none (suc n) (b ∷ bs) l = behind-none n bs (omega arith)

-- there are at most so many pieces
onto-length : (b : ℕ) (ps : List (List ℕ)) (n : ℕ) → length ps ≤ suc n → length (in_front false b ps) ≤ suc (suc n)
onto-length b [] n l = omega arith
onto-length b (p ∷ ps) n l = omega arith

front-length : (t : Bool) (b : ℕ) (ps : List (List ℕ)) (n : ℕ) → length ps ≤ suc n → length (in_front t b ps) ≤ suc (suc n)
front-length true b ps n l = omega arith
front-length false b ps n l = onto-length b ps n l

pub pieces-length : (mark : ℕ) (bs : List ℕ) → length (pieces mark bs) ≤ suc (length bs)
pieces-length mark [] = omega arith
pieces-length mark (b ∷ bs) = front-length (b == mark) b (pieces mark bs) (length bs) (pieces-length mark bs)
