-- Windows that open and end: their numbers differ and were given, and none that has ended comes again.
use Rattle.std.proofs.Common.{◌≡◌, ℕ, ◌+◌, ◌<◌, ◌==◌, inl, inr, true, false, true≢false, Bool as Truth, List, [], ◌∷◌, Option, Some, None}
use Rattle.std.proofs.Common.{refl, sym, ap, subst, ◌∙◌, arith}
use Rattle.std.proofs.lemmas.Option.{same_Some}
use Rattle.std.proofs.lemmas.Bool.{eq-eqb, cases_Bool, ne_eqb}
use Rattle.std.specs.Prelude.{◌||◌}
use Rattle.rg_stack.specs.Machine.{Window, Machine}
use Rattle.rg_stack.specs.Tops.{without_top}
use Rattle.rg_stack.specs.Labels.{has_window, is_open}
use Rattle.rg_stack.proofs.Basics.{none-some}
use Rattle.rg_held.specs.Frees.{window_that_ends, left_with}
use Rattle.rg_held.specs.Part.{SomeWindow, Differ}
use Rattle.rg_held.proofs.Places.{or-right}
use Rattle.rg_held.proofs.Lists.{off}

-- windows differ in their numbers, which were given
abbrev pub Numbered : List Window → (made : ℕ) → Type 0
Numbered [] made = Unit {0}
Numbered (w ∷ ws) made = (w.number < made) × (has_window ws w.number ≡ false) × Numbered ws made

pub numbered : (ws : List Window) (made : ℕ) → Differ ws → ((n : ℕ) → has_window ws n ≡ true → n < made) → Numbered ws made
numbered [] made differ less = tt
numbered (w ∷ ws) made differ less = (
  less w.number (first (w.number == w.number) (eq-eqb w.number w.number refl)),
  differ.1,
  numbered ws made differ.2 (λ n h. less n (behind (w.number == n) (has_window ws n) h)),
)
  where
    first : (a : Truth) → a ≡ true → (a || has_window ws w.number) ≡ true
    first true e = refl
    first false e = off e

    behind : (a b : Truth) → b ≡ true → (a || b) ≡ true
    behind true b h = refl
    behind false b h = h

number-old : (ws : List Window) (made number : ℕ) → Numbered ws made → has_window ws number ≡ true → number < made
number-old [] made number h e = absurd (true≢false (sym e))
number-old (w ∷ ws) made number h e = elim (cases_Bool (w.number == number)) [
  | inl same ↦ (let less = h.0 in grind arith)
  | inr other ↦ number-old ws made number h.2 (ap (λ b. b || has_window ws number) (sym other) ∙ e)
]

pub numbered-more : (ws : List Window) (made : ℕ) → Numbered ws made → Numbered ws (made + 1)
numbered-more [] made h = tt
numbered-more (w ∷ ws) made h = (let less = h.0 in omega (arith, less), h.1, numbered-more ws made h.2)

-- no window has the number that comes next
pub number-new : (ws : List Window) (made : ℕ) → Numbered ws made → has_window ws made ≡ false
number-new ws made h = elim (cases_Bool (has_window ws made)) [
  | inl e ↦ absurd (let less = number-old ws made made h e in omega (arith, less))
  | inr e ↦ e
]

-- windows that have ended don't come again
abbrev pub EndedOn : (ws later : List Window) → (made number : ℕ) → Type 0
EndedOn ws later made number = (n : ℕ) → has_window ws n ≡ false → n < made → (has_window later n ≡ false) × (n < number)

pub opened-on : (ws : List Window) (made : ℕ) (w : Window) → w.number ≡ made → EndedOn ws (w ∷ ws) made (made + 1)
opened-on ws made w new n ended less =
    let other = ne_eqb w.number n (λ e. omega (arith, e, new, less)) in
    (ap (λ b. b || has_window ws n) other ∙ ended, omega (arith, less))

pub without-on : (ws : List Window) (made : ℕ) → EndedOn ws (without_top ws) made made
without-on [] made n ended less = (ended, less)
without-on (w ∷ []) made n ended less = (ended, less)
without-on (w ∷ v ∷ ws) made n ended less = (or-right (w.number == n) (has_window (v ∷ ws) n) ended, less)

pub without-shut : (ws : List Window) (r : ℕ) → is_open ws r ≡ false → is_open (without_top ws) r ≡ false
without-shut [] r e = e
without-shut (w ∷ []) r e = e
without-shut (w ∷ v ∷ ws) r e = or-right (w.region == r) (is_open (v ∷ ws) r) e

pub without-some : (ws : List Window) → SomeWindow ws → SomeWindow (without_top ws)
without-some [] h = h
without-some (w ∷ []) h = tt
without-some (w ∷ v ∷ ws) h = tt

pub without-numbered : (ws : List Window) (made : ℕ) → Numbered ws made → Numbered (without_top ws) made
without-numbered [] made h = h
without-numbered (w ∷ []) made h = h
without-numbered (w ∷ v ∷ ws) made h = h.2

-- the window that ends has ended behind it
pub that-ends : (ws : List Window) (made : ℕ) → Numbered ws made → (n : ℕ) → window_that_ends ws ≡ Some n
    → (has_window (without_top ws) n ≡ false) × (n < made)
that-ends [] made h n e = none-some n e
that-ends (w ∷ []) made h n e = none-some n e
that-ends (w ∷ v ∷ ws) made h n e =
    let is = same_Some w.number n e in (subst (λ k. has_window (v ∷ ws) k ≡ false) is h.1, subst (λ k. k < made) is h.0)

pub left-temps : (m : Machine) (s : ℕ) (ended : Option ℕ) → (left_with m s ended).temps ≡ ended
left-temps m s None = refl
left-temps m s (Some n) = refl
