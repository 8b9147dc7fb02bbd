-- Two `do` blocks whose parts are the same. For callers.
use Rattle.std.proofs.Common.{◌≡◌, refl, ap, ◌∙◌, Option, Some, None, option_map, ok_or, Result, Ok, Err}
use Rattle.rg_rules.specs.Answers.{◌>>=◌, ◌>>◌}

-- the rest alone is to be the same
pub bind-rest : {A B E : Type 0} (r : Result A E) (go to : A → Result B E) → ((a : A) → go a ≡ to a) → ◌>>=◌ r go ≡ ◌>>=◌ r to
bind-rest (Ok a) go to h = h a
bind-rest (Err d) go to h = refl

pub then-rest : {A B E : Type 0} (r : Result A E) (rest more : Result B E) → rest ≡ more → ◌>>◌ r rest ≡ ◌>>◌ r more
then-rest r rest more h = ap (λ y. ◌>>◌ r y) h

-- both parts
pub bind-same : {A B E : Type 0} (r s : Result A E) (go to : A → Result B E) → r ≡ s → ((a : A) → go a ≡ to a) → ◌>>=◌ r go ≡ ◌>>=◌ s to
bind-same r s go to e h = ap (λ x. ◌>>=◌ x go) e ∙ bind-rest s go to h

pub then-same : {A B E : Type 0} (r s : Result A E) (rest more : Result B E) → r ≡ s → rest ≡ more → ◌>>◌ r rest ≡ ◌>>◌ s more
then-same r s rest more e h = ap (λ x. ◌>>◌ x rest) e ∙ ap (λ y. ◌>>◌ s y) h

found_by : {A C B E : Type 0} (f : A → C) (p : Option A) (e : E) (go : C → Result B E) (to : A → Result B E) → ((a : A) → go (f a) ≡ to a) →
    ◌>>=◌ (ok_or (option_map f p) e) go ≡ ◌>>=◌ (ok_or p e) to
found_by f None e go to same = refl
found_by f (Some a) e go to same = same a

-- what is found and changed, and what is done with it
pub found-same : {A C B E : Type 0} (f : A → C) (o : Option C) (p : Option A) (e : E) (go : C → Result B E) (to : A → Result B E) →
    o ≡ option_map f p → ((a : A) → go (f a) ≡ to a) → ◌>>=◌ (ok_or o e) go ≡ ◌>>=◌ (ok_or p e) to
found-same f o p e go to h same = ap (λ x. ◌>>=◌ (ok_or x e) go) h ∙ found_by f p e go to same
