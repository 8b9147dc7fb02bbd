-- Lists of words that are made nil, one, two or three of them by hand.
use Rattle.std.proofs.Common.{◌≡◌, ◌<◌, ◌≤◌, ◌+◌, ◌-◌, ◌++◌, ◌∙◌, ℕ, zero, suc, [], ◌∷◌, List, length, take, drop, replicate, slice_set}
use Rattle.std.proofs.Common.{refl, sym, ap, subst, arith, length-append, Some, slice_get, inl, inr}
use Rattle.std.proofs.Math.Seq.{take-append_seam}
use Rattle.std.proofs.lemmas.Bool.{cases_lt}
use Rattle.std.proofs.lemmas.List.{drop_all, length-drop, length-replicate, length-set, length-take-le}
use Rattle.rg_base.specs.declared.value.Word.{Word}
use Rattle.rg_base.specs.declared.value.Word.TheVariants.{Nil}
use Rattle.rg_frames.specs.Inner.Layout.{NilFrom}
use Rattle.rg_frames.proofs.Taken.{nils-from}
use Rattle.rg_frames.proofs.Unwriting.{cleared}

pub one-nil : (xs : List Word) → 0 < length xs → length xs < 2 → slice_set xs 0 Nil ≡ replicate (length xs) Nil
one-nil [] some few = absurd (omega (arith, some))
one-nil (x ∷ []) some few = refl
one-nil (x ∷ y ∷ xs) some few = absurd (omega (arith, few))

pub two-nil : (xs : List Word) → 2 ≤ length xs → length xs < 3 → slice_set (slice_set xs 0 Nil) 1 Nil ≡ replicate (length xs) Nil
two-nil [] some few = absurd (omega (arith, some))
two-nil (x ∷ []) some few = absurd (omega (arith, some))
two-nil (x ∷ y ∷ []) some few = refl
two-nil (x ∷ y ∷ z ∷ xs) some few = absurd (omega (arith, few))

pub three-nil : (xs : List Word) → 3 ≤ length xs → length xs ≤ 3
    → slice_set (slice_set (slice_set xs 0 Nil) 1 Nil) 2 Nil ≡ replicate (length xs) Nil
three-nil [] some few = absurd (omega (arith, some))
three-nil (x ∷ []) some few = absurd (omega (arith, some))
three-nil (x ∷ y ∷ []) some few = absurd (omega (arith, some))
three-nil (x ∷ y ∷ z ∷ []) some few = refl
three-nil (x ∷ y ∷ z ∷ w ∷ xs) some few = absurd (omega (arith, few))

-- however many, from the last one on
pub all-nil : (xs new : List Word) (at : ℕ) → at ≤ 0 → length new ≡ length xs → NilFrom new at (length new) → new ≡ replicate (length xs) Nil
all-nil xs new at le many h =
    let n : length xs - 0 ≡ length xs = omega arith in cleared xs new 0 at le refl many h ∙ ap (λ k. replicate k Nil) n

-- Lists of words whose front is made nil, one word after the other

-- so many words as another list has, and the first so many of them are nil
pub record Fronted (xs new : List Word) (n : ℕ) : Type 0 where
  pub many : length new ≡ length xs
  pub nil : (i : ℕ) (w : Word) → i < n → slice_get new i ≡ Some w → w ≡ Nil

set-front : (xs : List Word) (k : ℕ) → ((i : ℕ) (w : Word) → i < k → slice_get xs i ≡ Some w → w ≡ Nil) → (i : ℕ) (w : Word) → i < k + 1
    → slice_get (slice_set xs k Nil) i ≡ Some w → w ≡ Nil
set-front [] k h i w p e = absurd cc
set-front (x ∷ xs) zero h zero w p e = cc
set-front (x ∷ xs) zero h (suc i) w p e = absurd (omega (arith, p))
set-front (x ∷ xs) (suc k) h zero w p e = h zero w (omega arith) e
set-front (x ∷ xs) (suc k) h (suc i) w p e = set-front xs k (λ j y q r. h (suc j) y (omega (arith, q)) r) i w (omega (arith, p)) e

set-any : (xs : List Word) (k i : ℕ) (w : Word) → (slice_get xs i ≡ Some w → w ≡ Nil) → slice_get (slice_set xs k Nil) i ≡ Some w → w ≡ Nil
set-any [] k i w h e = absurd cc
set-any (x ∷ xs) zero zero w h e = cc
set-any (x ∷ xs) zero (suc i) w h e = h e
set-any (x ∷ xs) (suc k) zero w h e = h e
set-any (x ∷ xs) (suc k) (suc i) w h e = set-any xs k i w h e

-- none of them yet, and the next one
front-none : (xs : List Word) → Fronted xs xs 0
front-none xs = record { many = refl; nil = λ i w p e. absurd (omega (arith, p)) }

pub front-on : (xs new : List Word) (n : ℕ) → Fronted xs new n → Fronted xs (slice_set new n Nil) (n + 1)
front-on xs new n f = record { many = length-set new n Nil ∙ f.many; nil = set-front new n f.nil }

pub front-four : (xs : List Word) → Fronted xs (slice_set (slice_set (slice_set (slice_set xs 0 Nil) 1 Nil) 2 Nil) 3 Nil) 4
front-four xs =
    let one : List Word = slice_set xs 0 Nil in
    let two : List Word = slice_set one 1 Nil in
    front-on xs (slice_set two 2 Nil) 3 (front-on xs two 2 (front-on xs one 1 (front-on xs xs 0 (front-none xs))))

-- what is written as nil behind them leaves them so
pub front-kept : (xs new : List Word) (n k : ℕ) → Fronted xs new n → Fronted xs (slice_set new k Nil) n
front-kept xs new n k f = record { many = length-set new k Nil ∙ f.many; nil = λ i w p e. set-any new k i w (f.nil i w p) e }

-- and with all behind them they are all words
pub front-all : (xs new : List Word) (n at : ℕ) → at ≤ n → Fronted xs new n → NilFrom new at (length new) → new ≡ replicate (length xs) Nil
front-all xs new n at le f h =
    all-nil xs new 0 (omega arith) f.many (record {
      order = omega arith;
      nil = λ i w p q e. elim (cases_lt i n) [
        | inl before ↦ f.nil i w before e
        | inr behind ↦ h.nil i w (omega (arith, le, behind)) q e
      ];
    })

-- where there is nothing behind them
pub nil-past : (xs : List Word) (at : ℕ) → length xs ≤ at → at ≤ length xs → NilFrom xs at (length xs)
nil-past xs at le ge = record { order = ge; nil = λ i w p q e. absurd (omega (arith, p, q, le)) }

pub front-whole : (xs new : List Word) (n : ℕ) → length xs ≤ n → Fronted xs new n → new ≡ replicate (length xs) Nil
front-whole xs new n le f =
    let many = f.many in front-all xs new n (length new) (omega (arith, le, many)) f (nil-past new (length new) (omega arith) (omega arith))

-- A part of a list that is made nil, behind which all is nil

drop-twice : (a b : ℕ) (xs : List Word) → drop b (drop a xs) ≡ drop (a + b) xs
drop-twice zero b xs = let e : b ≡ 0 + b = omega arith in ap (λ k. drop k xs) e
drop-twice (suc a) b [] = drop_all b [] (omega arith) ∙ sym (drop_all (suc a + b) [] (omega arith))
drop-twice (suc a) b (x ∷ xs) = let e : suc (a + b) ≡ suc a + b = omega arith in drop-twice a b xs ∙ ap (λ k. drop k (x ∷ xs)) e

join-nils : (a b : ℕ) → replicate a Nil ++ replicate b Nil ≡ replicate (a + b) Nil
join-nils zero b = let e : b ≡ 0 + b = omega arith in ap (λ k. replicate k Nil) e
join-nils (suc a) b =
    let e : suc (a + b) ≡ suc a + b = omega arith in ap (λ ws. Nil ∷ ws) (join-nils a b) ∙ ap (λ k. replicate k Nil) e

-- the list that stands in a vector behind a part of it that was lent
abbrev written : (xs ys part : List Word) → (from many n : ℕ) → List Word
written xs ys part from many n =
    let front : List Word = take from ys ++ (part ++ drop many (drop from ys)) in take n (front ++ drop (length front) xs)

nil-part : (xs part : List Word) (from to n : ℕ) → from < to → n ≡ length xs → NilFrom xs to (length xs)
    → part ≡ replicate (length (take (to - from) (drop from xs))) Nil
    → written xs xs part from (to - from) n ≡ take from xs ++ replicate (length xs - from) Nil
nil-part xs part from to n lt many h is =
    let m : ℕ = to - from in
    let within = h.order in
    let some : length (take m (drop from xs)) ≡ m = length-take-le m (drop from xs) (omega (arith, length-drop from xs, within)) in
    let at : from + m ≡ to = omega (arith, lt) in
    let rest : drop m (drop from xs) ≡ replicate (length xs - to) Nil =
    drop-twice from m xs ∙ ap (λ k. drop k xs) at ∙ nils-from xs to to (omega arith) within h in
    let count : m + (length xs - to) ≡ length xs - from = omega (arith, lt, within) in
    let Z : List Word = take from xs ++ replicate (length xs - from) Nil in
    let all : take from xs ++ (part ++ drop m (drop from xs)) ≡ Z =
    ap (λ ys. take from xs ++ (ys ++ drop m (drop from xs))) (is ∙ ap (λ k. replicate k Nil) some)
    ∙ ap (λ ys. take from xs ++ (replicate m Nil ++ ys)) rest
    ∙ ap (λ ys. take from xs ++ ys) (join-nils m (length xs - to) ∙ ap (λ k. replicate k Nil) count) in
    let long : n ≡ length Z =
    omega (
      arith,
      many,
      lt,
      within,
      length-append (take from xs) (replicate (length xs - from) Nil),
      length-take-le from xs (omega (arith, lt, within)),
      length-replicate (length xs - from) Nil,
    ) in
    ap (λ ys. take n (ys ++ drop (length ys) xs)) all ∙ ap (λ k. take k (Z ++ drop (length Z) xs)) long ∙ take-append_seam Z (drop (length Z) xs)

pub nil-between : (xs ys part : List Word) (from to n : ℕ) → ys ≡ xs → from < to → n ≡ length xs → NilFrom xs to (length xs)
    → part ≡ replicate (length (take (to - from) (drop from ys))) Nil
    → written xs ys part from (to - from) n ≡ take from xs ++ replicate (length xs - from) Nil
nil-between xs ys part from to n same lt many h is =
    let P : List Word → Type 0 = λ zs. part ≡ replicate (length (take (to - from) (drop from zs))) Nil
    → written xs zs part from (to - from) n ≡ take from xs ++ replicate (length xs - from) Nil in
    subst P (sym same) (nil-part xs part from to n lt many h) is
