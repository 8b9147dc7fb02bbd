-- What is held of an input where bytes came.
use Rattle.std.proofs.Common.{◌≡◌, ℕ, zero, suc, ◌==◌, ◌+◌, ◌-◌, ◌≤◌, inl, inr, true, false, List, [], ◌∷◌, ◌++◌, length, take, drop, Bool, Option, refl, sym, ◌∙◌, ap}
use Rattle.std.proofs.Common.{subst, append-nil, append_assoc, arith}
use Rattle.std.proofs.lemmas.List.{length-take, drop-take, drop-drop}
use Rattle.std.proofs.lemmas.Bool.{false≢true}
use Rattle.std.proofs.lemmas.Bool.Decides.{nat_tests}
use Rattle.rg_io.specs.Content.{Reply}
use Rattle.rg_io.proofs.Content.{Gives-more}
use Rattle.rg_input.specs.Inner.Ahead.{Came, Refills}
use Rattle.rg_input.specs.Inner.Held.{Reads}
use Rattle.rg_input.specs.Numbers.{Pending, IsSure, with_piece, PiecesCame, piece_came, AsksFor}
use Rattle.rg_input.specs.Read.{is_whole}

-- all that is held: the bytes that were looked at, and those ahead
abbrev pub beside : List ℕ → Pending → Pending
beside looked ahead = record { held = looked ++ ahead.held; ended = ahead.ended }

-- what came stands behind all that was held
behind-all : (b c : Option (List ℕ)) (ahead next : Pending) (looked : List ℕ) (came : Came b c ahead next) →
    looked ++ next.held ≡ (looked ++ ahead.held) ++ came.read
behind-all b c ahead next looked came = ap (λ q. looked ++ q) came.kept ∙ sym (append_assoc looked ahead.held came.read)

-- more bytes came
pub Reads-came : (a b c : Option (List ℕ)) (old ahead next : Pending) (looked : List ℕ) → Reads a b old (beside looked ahead) →
    Came b c ahead next → Reads a c old (beside looked next)
Reads-came a b c old ahead next looked r came = record {
  read = r.read ++ came.read;
  given = Gives-more a b c r.read came.read r.given came.given;
  kept = behind-all b c ahead next looked came ∙ ap (λ q. q ++ came.read) r.kept ∙ append_assoc old.held r.read came.read;
  ended = λ over.
      let before = r.ended over in
      let now = came.ended before.1 in (ap (λ q. q ++ came.read) before.0 ∙ now.0, now.1);
}

-- where too little was looked at, and nothing lies ahead, more has to be read
pub not-sure : (old ahead : Pending) (looked : List ℕ) → is_whole looked ≡ false → ahead ≡ record { held = []; ended = false } →
    beside looked ahead ≡ old → IsSure old → ⊥
not-sure old ahead looked short none same sure =
    let bytes : looked ++ ahead.held ≡ looked = ap (λ a. looked ++ a.held) none ∙ append-nil looked in
    let still : IsSure (beside looked ahead) = subst IsSure (sym same) sure in
    elim still [
      | inl whole ↦ false≢true (sym short ∙ sym (ap is_whole bytes) ∙ whole)
      | inr ended ↦ false≢true (sym (ap (λ a. a.ended) none) ∙ ended)
    ]

-- with the same bytes behind the same ones, all that is held is the same
same-beside : (looked : List ℕ) (ahead : Pending) (held : List ℕ) (ended : Bool) → held ≡ looked ++ ahead.held → ended ≡ ahead.ended →
    record { held = held; ended = ended } ≡ beside looked ahead
same-beside looked ahead held ended bytes end = rw (bytes, end) refl

-- where no more has to be read nothing was asked for, and what is held stays
pub still-held : (b c : Option (List ℕ)) (old ahead next : Pending) (looked : List ℕ) → is_whole looked ≡ false → Came b c ahead next →
    (IsSure old → beside looked ahead ≡ old) → IsSure old → beside looked next ≡ old
still-held b c old ahead next looked short came same sure = elim came.asked [
  | inl none ↦
      let bytes : looked ++ next.held ≡ looked ++ ahead.held =
      behind-all b c ahead next looked came ∙ ap (λ q. (looked ++ ahead.held) ++ q) none.0 ∙ append-nil (looked ++ ahead.held) in
      same-beside looked ahead (looked ++ next.held) next.ended bytes none.1 ∙ same sure
  | inr asked ↦ absurd (not-sure old ahead looked short asked (same sure) sure)
]

-- a piece behind the bytes that lie ahead stands behind all that is held
beside-piece : (looked : List ℕ) (ahead : Pending) (bytes : List ℕ) →
    with_piece (beside looked ahead) bytes ≡ beside looked (with_piece ahead bytes)
beside-piece looked ahead [] = refl
beside-piece looked ahead (b ∷ bytes) =
    let bytes_of : List ℕ → Pending = λ q. record { held = q; ended = ahead.ended } in ap bytes_of (append_assoc looked ahead.held (b ∷ bytes))

-- where too little was looked at, the next piece is needed
pub PiecesCame-refilled : {T : Type 0} (replies : T → Reply → T → Type 0) (old ahead next : Pending) (looked : List ℕ) (source s t : T) →
    is_whole looked ≡ false → PiecesCame replies old source (beside looked ahead) s → Refills replies false ahead next s t →
    PiecesCame replies old source (beside looked next) t
PiecesCame-refilled replies old ahead next looked source s t short asked (inl same) =
    subst (λ u. PiecesCame replies old source (beside looked next) u) (sym same.1)
    (subst (λ n. PiecesCame replies old source (beside looked n) s) (sym same.0) asked)
PiecesCame-refilled replies old ahead next looked source s t short asked (inr came) =
    let is : with_piece (beside looked ahead) came.0 ≡ beside looked next =
    beside-piece looked ahead came.0 ∙ ap (λ n. beside looked n) (sym came.2) in
    subst (λ n. PiecesCame replies old source n t) is
    (piece_came asked (not-sure (beside looked ahead) ahead looked short came.1 refl) came.0 came.3)

-- the same where it failed
pub AsksFor-failed : {T : Type 0} (replies : T → Reply → T → Type 0) (old ahead next : Pending) (looked : List ℕ) (source s t : T) →
    is_whole looked ≡ false → PiecesCame replies old source (beside looked ahead) s → Refills replies true ahead next s t →
    AsksFor replies true old (beside looked next) source t
AsksFor-failed replies old ahead next looked source s t short asked failed =
    subst (λ (n : Pending). AsksFor replies true old (beside looked n) source t) (sym failed.1)
    (s, asked, not-sure (beside looked ahead) ahead looked short failed.0 refl, failed.2)

-- nothing lies ahead
pub nothing-ahead : (piece : List ℕ) (from left : ℕ) (ended : Bool) → left ≤ 0 → ended ≡ false →
    ◌≡◌ {A = Pending} (record { held = take left (drop from piece); ended = ended }) (record { held = []; ended = false })
nothing-ahead piece from zero ended none goes = rw goes refl
nothing-ahead piece from (suc n) ended none goes = absurd (omega (arith, none))

-- the first piece
pub first-piece : (n : ℕ) (piece : List ℕ) → n ≤ length piece →
    record { held = take n piece; ended = n == 0 } ≡ with_piece (record { held = []; ended = false }) (take n piece)
first-piece zero piece within = refl
first-piece (suc n) [] within = absurd (omega arith)
first-piece (suc n) (b ∷ bytes) within = let some : (suc n == 0) ≡ false = grind (arith, nat_tests) in rw some refl

-- what is left behind the first bytes
pub skipped : (piece : List ℕ) (from left n : ℕ) → n ≤ length (take left (drop from piece)) →
    take (left - n) (drop (from + n) piece) ≡ drop n (take left (drop from piece))
skipped piece from left n within =
    let fits : n ≤ left = omega (arith, within, length-take left (drop from piece)) in
    let whole : n + (left - n) ≡ left = omega (arith, fits) in
    sym (ap (λ k. drop n (take k (drop from piece))) (sym whole) ∙ drop-take n (left - n) (drop from piece)
    ∙ ap (λ q. take (left - n) q) (drop-drop n from piece))
