-- What was told of the input to a call on fresh numbers.
use Rattle.std.proofs.Common.{◌≡◌, ℕ, false, List, [], ◌++◌, Option, subst}
use Rattle.rg_input.specs.Numbers.{Pending, Follows, OnInput}
use Rattle.rg_input.proofs.Input.{some-comes}
use Rattle.rg_words.specs.Answers.{ForInput}

-- it holds of bytes that the source has
pub on-input : (n new : Pending) (left behind : Option (List ℕ)) (P : List ℕ → List ℕ → Type 0) → n ≡ record { held = []; ended = false } →
    Follows new behind → OnInput n new left behind P → ForInput left (λ input. (rest : List ℕ) × P input rest)
on-input n new left behind P is follows h =
    let Q : Pending → Type 0 = λ q. OnInput q new left behind P in
    let told : OnInput (record { held = []; ended = false }) new left behind P = subst Q is h in
    let c = some-comes new behind follows in
    let here = told.2 c.0 c.1 in
    (told.0 ++ c.0, here.0.told, (new.held ++ c.0, here.1))
