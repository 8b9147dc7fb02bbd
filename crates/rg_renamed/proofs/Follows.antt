-- One answer follows another one: where the one is a value, the other is what that value becomes.
use Rattle.std.proofs.Common.{◌≡◌, refl, ap, ◌∙◌, ℕ, Bool as Truth, true, false, Option, Some, None, ok_or, Result, Ok, Err, arith}
use Rattle.rg_rules.specs.Answers.{◌>>=◌, ◌>>◌, test, Answer, Lined, at_line}
use Rattle.rg_rules.proofs.Answers.{bind-ok, then-ok, at_line-ok}

pub record Follows {A B E : Type 0} (f : A → B) (r : Result A E) (s : Result B E) : Type 0 where
  pub ok : (a : A) → r ≡ Ok a → s ≡ Ok (f a)

pub ok-is : {A E : Type 0} {a b : A} → ◌≡◌ {A = Result A E} (Ok a) (Ok b) → a ≡ b
ok-is h = grind arith

pub ok-follows : {A B E : Type 0} (f : A → B) (a : A) (b : B) → b ≡ f a → Follows {E = E} f (Ok a) (Ok b)
ok-follows f a b e = record { ok = λ c h. ap Ok (e ∙ ap f (ok-is h)) }

-- equal answers
pub same-follows : {A E : Type 0} (r s : Result A E) → s ≡ r → Follows (λ (a : A). a) r s
same-follows r s e = record { ok = λ a h. e ∙ h }

bind_by : {A B C D E : Type 0} (f : A → B) (g : C → D) (r : Result A E) (s : Result B E) (go : A → Result C E) (to : B → Result D E) →
    Follows f r s → ((a : A) → r ≡ Ok a → Follows g (go a) (to (f a))) → (c : C) → ◌>>=◌ r go ≡ Ok c → ◌>>=◌ s to ≡ Ok (g c)
bind_by f g r s go to first rest c h =
    let p = bind-ok r go c h in ap (λ q. ◌>>=◌ q to) (first.ok p.0 p.1) ∙ (rest p.0 p.1).ok c p.2

pub bind-follows : {A B C D E : Type 0} (f : A → B) (g : C → D) (r : Result A E) (s : Result B E) (go : A → Result C E) (to : B → Result D E) →
    Follows f r s → ((a : A) → r ≡ Ok a → Follows g (go a) (to (f a))) → Follows g (◌>>=◌ r go) (◌>>=◌ s to)
bind-follows f g r s go to first rest = record { ok = bind_by f g r s go to first rest }

then_by : {A B C D E : Type 0} (f : A → B) (g : C → D) (r : Result A E) (s : Result B E) (go : Result C E) (to : Result D E) →
    Follows f r s → Follows g go to → (c : C) → ◌>>◌ r go ≡ Ok c → ◌>>◌ s to ≡ Ok (g c)
then_by f g r s go to first rest c h = let p = then-ok r go c h in ap (λ q. ◌>>◌ q to) (first.ok p.0 p.1) ∙ rest.ok c p.2

pub then-follows : {A B C D E : Type 0} (f : A → B) (g : C → D) (r : Result A E) (s : Result B E) (go : Result C E) (to : Result D E) →
    Follows f r s → Follows g go to → Follows g (◌>>◌ r go) (◌>>◌ s to)
then-follows f g r s go to first rest = record { ok = then_by f g r s go to first rest }

-- a test that passes again, and the rest
test_by : {C D E : Type 0} (g : C → D) (b d : Truth) (e : E) (go : Result C E) (to : Result D E) → d ≡ b → (b ≡ true → Follows g go to) →
    (c : C) → ◌>>◌ (test b e) go ≡ Ok c → ◌>>◌ (test d e) to ≡ Ok (g c)
test_by g true d e go to same rest c h = ap (λ q. ◌>>◌ (test q e) to) same ∙ (rest refl).ok c h
test_by g false d e go to same rest c h = grind arith

pub test-follows : {C D E : Type 0} (g : C → D) (b d : Truth) (e : E) (go : Result C E) (to : Result D E) → d ≡ b →
    (b ≡ true → Follows g go to) → Follows g (◌>>◌ (test b e) go) (◌>>◌ (test d e) to)
test-follows g b d e go to same rest = record { ok = test_by g b d e go to same rest }

-- what is found, and what is done with it
found_by : {A B C D E : Type 0} (f : A → B) (g : C → D) (o : Option A) (e : E) (go : A → Result C E) (to : B → Result D E) →
    ((a : A) → o ≡ Some a → Follows g (go a) (to (f a))) → (p : Option A) → o ≡ p → (c : C) → ◌>>=◌ (ok_or p e) go ≡ Ok c → (q : Option B) →
    ((a : A) → p ≡ Some a → q ≡ Some (f a)) → ◌>>=◌ (ok_or q e) to ≡ Ok (g c)
found_by f g o e go to rest None is c h q same = grind arith
found_by f g o e go to rest (Some a) is c h q same = ap (λ z. ◌>>=◌ (ok_or z e) to) (same a refl) ∙ (rest a is).ok c h

pub found-follows : {A B C D E : Type 0} (f : A → B) (g : C → D) (o : Option A) (q : Option B) (e : E) (go : A → Result C E) (to : B → Result D E) →
    ((a : A) → o ≡ Some a → q ≡ Some (f a)) → ((a : A) → o ≡ Some a → Follows g (go a) (to (f a))) →
    Follows g (◌>>=◌ (ok_or o e) go) (◌>>=◌ (ok_or q e) to)
found-follows f g o q e go to same rest = record { ok = λ c h. found_by f g o e go to rest o refl c h q same }

line_by : {A B : Type 0} (f : A → B) (line : ℕ) (r : Answer A) (s : Answer B) → Follows f r s → (a : A) → at_line line r ≡ Ok a →
    at_line line s ≡ Ok (f a)
line_by f line r s first a h = ap (at_line line) (first.ok a (at_line-ok line r a h))

pub line-follows : {A B : Type 0} (f : A → B) (line : ℕ) (r : Answer A) (s : Answer B) → Follows f r s → Follows f (at_line line r) (at_line line s)
line-follows f line r s first = record { ok = line_by f line r s first }

-- a test that passes whatever the other one does
passes_by : {C D E : Type 0} (g : C → D) (b d : Truth) (e : E) (go : Result C E) (to : Result D E) → d ≡ true → Follows g go to →
    (c : C) → ◌>>◌ (test b e) go ≡ Ok c → ◌>>◌ (test d e) to ≡ Ok (g c)
passes_by g true d e go to same rest c h = ap (λ q. ◌>>◌ (test q e) to) same ∙ rest.ok c h
passes_by g false d e go to same rest c h = grind arith

pub passes-follows : {C D E : Type 0} (g : C → D) (b d : Truth) (e : E) (go : Result C E) (to : Result D E) → d ≡ true → Follows g go to →
    Follows g (◌>>◌ (test b e) go) (◌>>◌ (test d e) to)
passes-follows g b d e go to same rest = record { ok = passes_by g b d e go to same rest }

-- no value follows a fault
pub fault-follows : {A B E : Type 0} (f : A → B) (e : E) (s : Result B E) → Follows f (Err e) s
fault-follows f e s = record { ok = λ a h. grind arith }
