-- Facts on the bytes left of an input, one call after another. For callers.
use Rattle.std.proofs.Common.{◌≡◌, ◌≢◌, ℕ, Bool, true, false, List, [], ◌++◌, Option, Some, None, append_assoc, refl, sym, subst}
use Rattle.rg_base.specs.declared.outcome.Outcome.{Outcome}
use Rattle.rg_base.specs.declared.outcome.Outcome.TheVariants as outcome
use Rattle.rg_io.specs.Content.{Reply}
use Rattle.rg_io.proofs.Content.{Gives-none, Gives-more}
use Rattle.rg_input.specs.Numbers.{Pending, Follows, CanCome, OnInput, PiecesCame, nothing_came, piece_came, AsksFor, is_input_fault}

-- nothing was read
pub OnInput-still : (old new : Pending) (old_left new_left : Option (List ℕ)) (P : List ℕ → List ℕ → Type 0) →
    new ≡ old → new_left ≡ old_left → ((bytes : List ℕ) → P bytes bytes) → OnInput old new old_left new_left P
OnInput-still old new old_left new_left P same same_left holds =
    let here : OnInput old old old_left old_left P = ([], Gives-none old_left, λ more can. (can, holds (old.held ++ more))) in
    let there : OnInput old old old_left new_left P = subst (λ left. OnInput old old old_left left P) (sym same_left) here in
    subst (λ n. OnInput old n old_left new_left P) (sym same) there

-- a fact that follows from another
pub OnInput-map : (old new : Pending) (old_left new_left : Option (List ℕ)) (P Q : List ℕ → List ℕ → Type 0) →
    OnInput old new old_left new_left P → ((before after : List ℕ) → P before after → Q before after) → OnInput old new old_left new_left Q
OnInput-map old new old_left new_left P Q fact follows = (
  fact.0,
  fact.1,
  λ more can.
      let both = fact.2 more can in (both.0, follows (old.held ++ (fact.0 ++ more)) (new.held ++ more) both.1),
)

-- one call, and then another
pub OnInput-then : (a b c : Pending) (la lb lc : Option (List ℕ)) (P Q : List ℕ → List ℕ → Type 0) →
    OnInput a b la lb P → OnInput b c lb lc Q → OnInput a c la lc (λ before after. (between : List ℕ) × P before between × Q between after)
OnInput-then a b c la lb lc P Q first second = (
  first.0 ++ second.0,
  Gives-more la lb lc first.0 second.0 first.1 second.1,
  λ more can.
      let later = second.2 more can in
      let sooner = first.2 (second.0 ++ more) later.0 in
      rw (append_assoc first.0 second.0 more) (sooner.0, (b.held ++ (second.0 ++ more), sooner.1, later.1)),
)

-- one call, and then another, and what follows of both
pub OnInput-both : (a b c : Pending) (la lb lc : Option (List ℕ)) (P Q R : List ℕ → List ℕ → Type 0) →
    OnInput a b la lb P → OnInput b c lb lc Q → ((before between after : List ℕ) → P before between → Q between after → R before after) →
    OnInput a c la lc R
OnInput-both a b c la lb lc P Q R first second follows =
    OnInput-map a c la lc (λ before after. (between : List ℕ) × P before between × Q between after) R
    (OnInput-then a b c la lb lc P Q first second) (λ before after both. follows before both.0 after both.1 both.2)

-- some bytes can still come
pub some-comes : (n : Pending) (left : Option (List ℕ)) → Follows n left → (more : List ℕ) × CanCome n left more
some-comes n None follows = ([], record { told = tt; ended = λ e. refl })
some-comes n (Some bytes) follows = (bytes, record { told = refl; ended = follows })

-- some bytes can still come, and the fact holds of them
pub OnInput-some : (old new : Pending) (old_left new_left : Option (List ℕ)) (P : List ℕ → List ℕ → Type 0) → Follows new new_left →
    OnInput old new old_left new_left P → (before : List ℕ) × (after : List ℕ) × P before after
OnInput-some old new old_left None P follows fact = (_, _, (fact.2 [] (record { told = tt; ended = λ e. refl })).1)
OnInput-some old new old_left (Some bytes) P follows fact = (_, _, (fact.2 bytes (record { told = refl; ended = follows })).1)

-- a step that ends otherwise has no fault of the input
pub no-input-fault : (r : Outcome) → r ≢ outcome.InputFault → is_input_fault r ≡ false
no-input-fault outcome.Running other = refl
no-input-fault (outcome.Printed v) other = refl
no-input-fault outcome.Done other = refl
no-input-fault (outcome.Trap kind line) other = refl
no-input-fault outcome.InputFault other = absurd (other refl)
no-input-fault outcome.Memory other = refl

-- nothing was asked for in it
pub asks-nothing : {T : Type 0} (replies : T → Reply → T → Type 0) (n : Pending) (source : T) (r : Outcome) → r ≢ outcome.InputFault →
    AsksFor replies (is_input_fault r) n n source source
asks-nothing replies n source r other = rw (no-input-fault r other) nothing_came

-- pieces came, and then more
pub PiecesCame-then : {T : Type 0} {replies : T → Reply → T → Type 0} {a b : Pending} {s t : T} {c : Pending} {u : T} →
    PiecesCame replies a s b t → PiecesCame replies b t c u → PiecesCame replies a s c u
PiecesCame-then first nothing_came = first
PiecesCame-then first (piece_came second short bytes came) = piece_came (PiecesCame-then first second) short bytes came

-- pieces came, and then what a call asks for
pub AsksFor-then : {T : Type 0} {replies : T → Reply → T → Type 0} {a b : Pending} {s t : T} (fault : Bool) (c : Pending) (u : T) →
    PiecesCame replies a s b t → AsksFor replies fault b c t u → AsksFor replies fault a c s u
AsksFor-then false c u first second = PiecesCame-then first second
AsksFor-then true c u first second = (second.0, PiecesCame-then first second.1, second.2, second.3)
