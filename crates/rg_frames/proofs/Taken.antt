-- The slots up to where the top frame ends, of all that there is room for, and the rows that stand for frames.
use Rattle.std.proofs.Common.{◌≡◌, ◌≤◌, ◌<◌, ◌+◌, ◌-◌, ◌++◌, ◌∷◌, ℕ, zero, suc, [], Some, List, length, take, drop, replicate}
use Rattle.std.proofs.Common.{slice_get, slice_index_or, slice_set, get_or, unwrap_or, None, inl, inr}
use Rattle.std.proofs.Common.{refl, sym, ap, subst, ◌∙◌, arith, length-append}
use Rattle.std.proofs.Math.Seq.{take-append-add, take-append_seam, take-set-lt}
use Rattle.std.proofs.lemmas.Bool.{cases_lt}
use Rattle.std.proofs.lemmas.List.{length-drop, length-take-le, length-replicate, length-set, length-map}
use Rattle.std.proofs.lemmas.List.{map-append, take-append-drop, take-append-le}
use Rattle.std.proofs.lemmas.Option.{slice_get-get_or}
use Rattle.rg_base.specs.declared.value.Word.{Word}
use Rattle.rg_base.specs.declared.value.Word.TheVariants.{Nil}
use Rattle.rg_frames.specs.declared.rows.Row.{Row}
use Rattle.rg_frames.specs.Inner.Layout.{NilFrom, GoesOn, frames_of, lives_of}
use Rattle.rg_frames.proofs.Unwriting.{got-behind, got-front, nil-of, nils}
use Rattle.rg_frames.proofs.Raised.{narrow, nil-past}

pub take-take : {X : Type 0} → (n m : ℕ) (xs : List X) → n ≤ m → take n (take m xs) ≡ take n xs
take-take zero m xs le = refl
take-take (suc n) zero xs le = absurd (omega (arith, le))
take-take (suc n) (suc m) [] le = refl
take-take (suc n) (suc m) (x ∷ xs) le = ap (λ ys. x ∷ ys) (take-take n m xs (omega (arith, le)))

take-nils : (n m : ℕ) → n ≤ m → take n (replicate m Nil) ≡ replicate n Nil
take-nils zero m le = refl
take-nils (suc n) zero le = absurd (omega (arith, le))
take-nils (suc n) (suc m) le = ap (λ ws. Nil ∷ ws) (take-nils n m (omega (arith, le)))

-- Words over the slots from a place on, and nothing but nil behind them

pub over : (front words : List Word) (m n top : ℕ) → top ≡ length front → n ≤ m
    → take (top + length words + n) (front ++ (words ++ replicate m Nil)) ≡ front ++ (words ++ replicate n Nil)
over front words m n top e le =
    let rest : List Word = words ++ replicate m Nil in
    let far : top + length words + n ≡ length front + (length words + n) = omega (arith, e) in
    ap (λ k. take k (front ++ rest)) far
    ∙ take-append-add front rest (length words + n)
    ∙ ap (λ ws. front ++ ws) (take-append-add words (replicate m Nil) n)
    ∙ ap (λ ws. front ++ (words ++ ws)) (take-nils n m le)

pub nil-over : (front words : List Word) (m n top : ℕ) → top ≡ length front → n ≤ m
    → NilFrom (front ++ (words ++ replicate m Nil)) (top + length words + n) (length (front ++ (words ++ replicate m Nil)))
nil-over front words m n top e le =
    let rest : List Word = words ++ replicate m Nil in
    record {
      order = omega (arith, e, le, length-append front rest, length-append words (replicate m Nil), length-replicate m Nil);
      nil = λ i w p q g. nil-of m (i - top - length words) w
          (got-behind words (replicate m Nil) (i - top) (i - top - length words) w (omega (arith, p))
          (got-behind front rest i (i - top) w (omega (arith, p, e)) g));
    }

-- slots behind a place that nothing but nil follows, as they are found
pub nils-from : (slots : List Word) (top at : ℕ) → top ≤ at → at ≤ length slots → NilFrom slots top (length slots)
    → drop at slots ≡ replicate (length slots - at) Nil
nils-from slots top at le within h = nils slots at (length slots - at) (omega (arith, within)) (narrow slots top at (length slots) le within h)

-- words over the first of them, for so many that there is room
pub record Over (slots new words : List Word) (top n : ℕ) : Type 0 where
  pub view : take (top + length words + n) new ≡ take top slots ++ (words ++ replicate n Nil)
  pub nil : NilFrom new (top + length words + n) (length new)
  pub many : length new ≡ length slots

pub written : (slots new words : List Word) (top n : ℕ) → NilFrom slots top (length slots) → top + length words + n ≤ length slots
    → new ≡ take top slots ++ (words ++ drop (top + length words) slots) → Over slots new words top n
written slots new words top n h room e =
    let m : ℕ = length slots - (top + length words) in
    let le : n ≤ m = omega (arith, room) in
    let long : top ≡ length (take top slots) = sym (length-take-le top slots h.order) in
    let is : new ≡ take top slots ++ (words ++ replicate m Nil) =
    e ∙ ap (λ ws. take top slots ++ (words ++ ws)) (nils-from slots top (top + length words) (omega arith) (omega (arith, room)) h) in
    record {
      view = ap (take (top + length words + n)) is ∙ over (take top slots) words m n top long le;
      nil = rw is (nil-over (take top slots) words m n top long le);
      many = ap length is
          ∙ omega (arith, long, room, length-append (take top slots) (words ++ replicate m Nil), length-append words (replicate m Nil), length-replicate m Nil);
    }

-- so many slots more, and no word
pub unwritten : (slots : List Word) (top n : ℕ) → NilFrom slots top (length slots) → top + n ≤ length slots
    → (take (top + n) slots ≡ take top slots ++ replicate n Nil) × NilFrom slots (top + n) (length slots)
unwritten slots top n h room =
    let none : top + 0 + n ≡ top + n = omega arith in
    let here : top + 0 ≡ top = omega arith in
    let o = written slots slots [] top n h (omega (arith, room))
    (sym (take-append-drop top slots) ∙ ap (λ k. take top slots ++ drop k slots) (sym here)) in
    rw (← none) (o.view, o.nil)

-- Slots that are made nil

pub record Cleared (slots new : List Word) (top from : ℕ) : Type 0 where
  pub view : take top new ≡ take from (take top slots) ++ replicate (length (take top slots) - from) Nil
  pub nil : NilFrom new top (length new)
  pub gone : take from new ≡ take from (take top slots)
  pub behind : NilFrom new from (length new)
  pub many : length new ≡ length slots

pub made-nil : (slots new : List Word) (top from : ℕ) → from ≤ top → top ≤ length slots
    → new ≡ take from slots ++ replicate (length slots - from) Nil → Cleared slots new top from
made-nil slots new top from le within e =
    let m : ℕ = length slots - from in
    let n : ℕ = top - from in
    let long : from ≡ length (take from slots) = sym (length-take-le from slots (omega (arith, le, within))) in
    let end : from + 0 + n ≡ top = omega (arith, le) in
    let start : from + 0 + 0 ≡ from = omega arith in
    let front : take from (take top slots) ≡ take from slots = take-take from top slots le in
    let some : length (take top slots) ≡ top = length-take-le top slots within in
    let N : ℕ → Type 0 = λ k. NilFrom (take from slots ++ replicate m Nil) k (length (take from slots ++ replicate m Nil)) in
    record {
      view = ap (take top) e ∙ ap (λ k. take k (take from slots ++ replicate m Nil)) (sym end)
          ∙ over (take from slots) [] m n from long (omega (arith, within))
          ∙ ap (λ ws. ws ++ replicate n Nil) (sym front)
          ∙ ap (λ k. take from (take top slots) ++ replicate (k - from) Nil) (sym some);
      nil = rw e (subst N end (nil-over (take from slots) [] m n from long (omega (arith, within))));
      gone = ap (take from) e ∙ ap (λ k. take k (take from slots ++ replicate m Nil)) long ∙ take-append_seam (take from slots) (replicate m Nil)
          ∙ sym front;
      behind = rw e (subst N start (nil-over (take from slots) [] m 0 from long (omega arith)));
      many = ap length e ∙ omega (arith, long, le, within, length-append (take from slots) (replicate m Nil), length-replicate m Nil);
    }

pub got-taken : (xs : List Word) (n k : ℕ) (w : Word) → k < n → slice_get xs k ≡ Some w → slice_get (take n xs) k ≡ Some w
got-taken [] n k w lt e = absurd cc
got-taken (x ∷ xs) zero k w lt e = absurd (omega (arith, lt))
got-taken (x ∷ xs) (suc n) zero w lt e = e
got-taken (x ∷ xs) (suc n) (suc k) w lt e = got-taken xs n k w (omega (arith, lt)) e

-- what is nil up to where the top frame ends is nil up to the end
pub nil-on : (slots : List Word) (top live : ℕ) → NilFrom (take top slots) live (length (take top slots)) → NilFrom slots top (length slots)
    → NilFrom slots live (length slots)
nil-on slots top live h b =
    let some : length (take top slots) ≡ top = length-take-le top slots b.order in
    record {
      order = omega (arith, some, h.order, b.order);
      nil = λ i w p q e. elim (cases_lt i top) [
        | inl lt ↦ h.nil i w p (omega (arith, some, lt)) (got-taken slots top i w lt e)
        | inr ge ↦ b.nil i w ge q e
      ];
    }

-- Words that are written over slots, one after another

set-behind : (front rest : List Word) (i k : ℕ) (w : Word) → i ≡ length front + k → slice_set (front ++ rest) i w ≡ front ++ slice_set rest k w
set-behind [] rest i k w e = let same : i ≡ k = omega (arith, e) in ap (λ j. slice_set rest j w) same
set-behind (x ∷ front) rest zero k w e = absurd (omega (arith, e))
set-behind (x ∷ front) rest (suc i) k w e = ap (λ ys. x ∷ ys) (set-behind front rest i k w (omega (arith, e)))

drop-none : (i : ℕ) → drop {A = Word} i [] ≡ []
drop-none zero = refl
drop-none (suc i) = refl

drop-drop : (n m i : ℕ) (xs : List Word) → i ≡ n + m → drop i xs ≡ drop m (drop n xs)
drop-drop zero m i xs e = let same : i ≡ m = omega (arith, e) in ap (λ j. drop j xs) same
drop-drop (suc n) m i [] e = drop-none i ∙ sym (drop-none m)
drop-drop (suc n) m zero (x ∷ xs) e = absurd (omega (arith, e))
drop-drop (suc n) m (suc i) (x ∷ xs) e = drop-drop n m i xs (omega (arith, e))

copy-one : (old words : List Word) (k : ℕ) → length words ≤ length old → k < length words
    → slice_set (take k words ++ drop k old) k (slice_index_or words k Nil) ≡ take (suc k) words ++ drop (suc k) old
copy-one old [] k a b = absurd (omega (arith, b))
copy-one [] (w ∷ ws) k a b = absurd (omega (arith, a))
copy-one (x ∷ old) (w ∷ ws) zero a b = refl
copy-one (x ∷ old) (w ∷ ws) (suc k) a b = ap (λ ys. w ∷ ys) (copy-one old ws k (omega (arith, a)) (omega (arith, b)))

pub copied : (old words : List Word) (at k : ℕ) → at + length words ≤ length old → k < length words
    → slice_set (take at old ++ (take k words ++ drop (at + k) old)) (at + k) (slice_index_or words k Nil)
    ≡ take at old ++ (take (k + 1) words ++ drop (at + (k + 1)) old)
copied old words at k a b =
    let rest : List Word = drop at old in
    let w : Word = slice_index_or words k Nil in
    let long : length (take at old) ≡ at = length-take-le at old (omega (arith, a)) in
    let some : length rest ≡ length old - at = length-drop at old in
    let next : suc k ≡ k + 1 = omega arith in
    ap (λ ys. slice_set (take at old ++ (take k words ++ ys)) (at + k) w) (drop-drop at k (at + k) old refl)
    ∙ set-behind (take at old) (take k words ++ drop k rest) (at + k) k w (omega (arith, long))
    ∙ ap (λ ys. take at old ++ ys) (copy-one rest words k (omega (arith, a, some)) b)
    ∙ ap (λ n. take at old ++ (take n words ++ drop n rest)) next
    ∙ sym (ap (λ ys. take at old ++ (take (k + 1) words ++ ys)) (drop-drop at (k + 1) (at + (k + 1)) old refl))

-- One slot

nil-beside : (slots : List Word) (place top : ℕ) (w : Word) → place < top → NilFrom slots top (length slots)
    → NilFrom (slice_set slots place w) top (length (slice_set slots place w))
nil-beside slots place top w lt h = rw (length-set slots place w) (nil-past slots place top (length slots) w (inl lt) h)

pub record Set (slots : List Word) (place top : ℕ) (w : Word) : Type 0 where
  pub view : take top (slice_set slots place w) ≡ slice_set (take top slots) place w
  pub nil : NilFrom (slice_set slots place w) top (length (slice_set slots place w))
  pub many : length (slice_set slots place w) ≡ length slots

pub set-taken : (slots : List Word) (place top : ℕ) (w : Word) → place < top → NilFrom slots top (length slots) → Set slots place top w
set-taken slots place top w lt h = record {
  view = take-set-lt top slots place w lt;
  nil = nil-beside slots place top w lt h;
  many = length-set slots place w;
}

-- a slot of a frame, as it is read
pub shown-at : (slots : List Word) (top place : ℕ) (w : Word) → NilFrom slots top (length slots) → place < length (take top slots)
    → w ≡ get_or slots place w → slice_get (take top slots) place ≡ Some w
shown-at slots top place w h lt e =
    let some : length (take top slots) ≡ top = length-take-le top slots h.order in
    got-taken slots top place w (omega (arith, lt, some))
    (slice_get-get_or slots place w (omega (arith, lt, some, h.order)) ∙ ap Some (sym e))

-- Slots more

pub nil-longer : (slots : List Word) (n top : ℕ) → NilFrom slots top (length slots)
    → NilFrom (slots ++ replicate n Nil) top (length (slots ++ replicate n Nil))
nil-longer slots n top h = record {
  order = omega (arith, h.order, length-append slots (replicate n Nil));
  nil = λ i w p q e. elim (cases_lt i (length slots)) [
    | inl lt ↦ h.nil i w p lt (got-front slots (replicate n Nil) i w lt e)
    | inr ge ↦ nil-of n (i - length slots) w (got-behind slots (replicate n Nil) i (i - length slots) w (omega (arith, ge)) e)
  ];
}

pub taken-longer : (slots : List Word) (n top : ℕ) → NilFrom slots top (length slots) → take top (slots ++ replicate n Nil) ≡ take top slots
taken-longer slots n top h = take-append-le top slots (replicate n Nil) h.order

-- Rows

pub frames-more : (rows more : List Row) (r : Row) → more ≡ rows ++ r ∷ [] → frames_of more ≡ frames_of rows ++ r.frame ∷ []
frames-more rows more r e = ap frames_of e ∙ map-append (λ (r : Row). r.frame) rows (r ∷ [])

pub lives-more : (rows more : List Row) (r : Row) → more ≡ rows ++ r ∷ [] → lives_of more ≡ lives_of rows ++ r.live ∷ []
lives-more rows more r e = ap lives_of e ∙ map-append (λ (r : Row). r.live) rows (r ∷ [])

-- a row is written, of the same frame
pub frames-set : (rows : List Row) (k : ℕ) (r was : Row) → slice_get rows k ≡ Some was → r.frame ≡ was.frame
    → frames_of (slice_set rows k r) ≡ frames_of rows
frames-set [] k r was e f = refl
frames-set (x ∷ rows) zero r was e f =
    let is : x ≡ was = cc (e) in
    ap (λ g. g ∷ frames_of rows) (f ∙ sym (ap (λ (y : Row). y.frame) is))
frames-set (x ∷ rows) (suc k) r was e f = ap (λ gs. x.frame ∷ gs) (frames-set rows k r was e f)

pub lives-set : (rows : List Row) (k : ℕ) (r : Row) → lives_of (slice_set rows k r) ≡ slice_set (lives_of rows) k r.live
lives-set [] k r = refl
lives-set (x ∷ rows) zero r = refl
lives-set (x ∷ rows) (suc k) r = ap (λ ls. x.live ∷ ls) (lives-set rows k r)

-- the room for further rows
pub room-less : (rows more : List Row) (r : Row) (c d : ℕ) → more ≡ rows ++ r ∷ [] → d ≡ c → d - length more ≡ (c - length rows) - 1
room-less rows more r c d e f =
    let n : length more ≡ length rows + 1 = ap length e ∙ length-append rows (r ∷ []) in
    omega (arith, n, f)

pub room-back : (rows more : List Row) (r : Row) (c d : ℕ) → more ≡ rows ++ r ∷ [] → d ≡ c → length more ≤ c
    → d - length rows ≡ (c - length more) + 1
room-back rows more r c d e f le =
    let n : length more ≡ length rows + 1 = ap length e ∙ length-append rows (r ∷ []) in
    omega (arith, n, f, le)

-- Slots that go on behind the top frame

pub pushed-on : (c d held top n many : ℕ) → 1 ≤ c - held → n ≤ many - (top + 256) → GoesOn c top many → GoesOn d (top + n) many
pushed-on c d held top n many a b g = λ full. let on = g (omega (arith, a)) in omega (arith, on, b)

pub over-on : (c d held top n more many : ℕ) → 1 ≤ c - held → n + more ≤ many - (top + 256) → GoesOn c top many
    → GoesOn d (top + n + more) many
over-on c d held top n more many a b g = λ full. let on = g (omega (arith, a)) in omega (arith, on, b)

pub popped-on : (d top first many : ℕ) → first ≤ top → top + 256 ≤ many → GoesOn d first many
popped-on d top first many le on = λ full. omega (arith, le, on)

-- a row that is there has its room
pub held-room : (rows more : List Row) (r : Row) (c : ℕ) → more ≡ rows ++ r ∷ [] → length more ≤ c → 0 < c
held-room rows more r c e le =
    let n : length more ≡ length rows + 1 = ap length e ∙ length-append rows (r ∷ []) in
    omega (arith, n, le)

got-none : (xs : List Word) (k : ℕ) → length xs ≤ k → slice_get xs k ≡ None
got-none [] k le = refl
got-none (x ∷ xs) zero le = absurd (omega (arith, le))
got-none (x ∷ xs) (suc k) le = got-none xs k (omega (arith, le))

-- a slot of the top frame as it is read without a test
pub near-shown : (slots : List Word) (top place : ℕ) (w : Word) → NilFrom slots top (length slots) → place < length slots
    → w ≡ get_or slots place w → w ≡ unwrap_or (slice_get (take top slots) place) Nil
near-shown slots top place w h lt e =
    let got : slice_get slots place ≡ Some w = slice_get-get_or slots place w lt ∙ ap Some (sym e) in
    elim (cases_lt place top) [
      | inl less ↦ rw (got-taken slots top place w less got) refl
      | inr ge ↦
          let some : length (take top slots) ≡ top = length-take-le top slots h.order in
          rw (got-none (take top slots) place (omega (arith, some, ge))) (h.nil place w ge lt got)
    ]

-- such a slot's place is there
pub near-there : (rows : List Row) (slots : List Word) (capacity top first s : ℕ) → 0 < length (frames_of rows) → length rows ≤ capacity
    → first ≤ length (take top slots) → top ≤ length slots → s < 256 → GoesOn capacity top (length slots) → first + s < length slots
near-there rows slots capacity top first s some held within order near g =
    let on = g (omega (arith, some, held, length-map rows (λ (r : Row). r.frame))) in
    omega (arith, on, within, near, length-take-le top slots order)

-- more slots, or the room that was asked for
pub longer-on : (slots new : List Word) (n capacity top : ℕ) → new ≡ slots ++ replicate n Nil → GoesOn capacity top (length slots)
    → GoesOn capacity top (length new)
longer-on slots new n capacity top e g = λ full.
    let on = g full in
    let grown : length new ≡ length slots + length (replicate n Nil) = ap length e ∙ length-append slots (replicate n Nil) in
    let many : length new ≡ length slots + n = grown ∙ ap (λ k. length slots + k) (length-replicate n Nil) in
    omega (arith, on, many)

pub more-slots : (slots new : List Word) (n top : ℕ) → NilFrom slots top (length slots) → new ≡ slots ++ replicate n Nil
    → (take top new ≡ take top slots) × NilFrom new top (length new)
more-slots slots new n top h e =
    let N : List Word → Type 0 = λ xs. NilFrom xs top (length xs) in
    (ap (take top) e ∙ taken-longer slots n top h, subst N (sym e) (nil-longer slots n top h))
