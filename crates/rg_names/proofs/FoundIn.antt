-- The first of a list that passes a test, with its place.
use Rattle.std.proofs.Common.{◌≡◌, ℕ, suc, ◌+◌, Bool, true, false, List, [], ◌∷◌, find, Option, None, Some, refl, arith}
use Rattle.rg_names.specs.MethodNumbers.{first_place}

-- an answer that matches the first that passes, whose place is behind f others
pub record Found {A B : Type 0} (Matches : A → B → Type 0) (number : B → ℕ) (test : A → Bool) (items : List A) (f : ℕ) (b : B) : Type 0 where
  pub place : ℕ
  pub placed : first_place test items ≡ Some place
  pub counted : number b ≡ f + place
  pub item : A
  pub found : find test items ≡ Some item
  pub matches : Matches item b

-- nothing passes
pub record Absent {A : Type 0} (test : A → Bool) (items : List A) : Type 0 where
  pub nowhere : first_place test items ≡ None
  pub not_found : find test items ≡ None

-- an answer for the first that passes
abbrev pub FoundIn : {A B : Type 0} → (A → B → Type 0) → (B → ℕ) → (A → Bool) → List A → ℕ → Option B → Type 0
FoundIn Matches number test items f None = Absent test items
FoundIn Matches number test items f (Some b) = Found Matches number test items f b

pub Absent-nil : {A : Type 0} (test : A → Bool) → Absent test []
Absent-nil test = record { nowhere = refl; not_found = refl }

pub Absent-cons : {A : Type 0} (test : A → Bool) (a : A) (items : List A) → test a ≡ false → Absent test items → Absent test (a ∷ items)
Absent-cons test a items e h = record { nowhere = rw (e, h.nowhere) refl; not_found = rw e h.not_found }

module _ {A B : Type 0} (Matches : A → B → Type 0) (number : B → ℕ) (test : A → Bool) (a : A) (items : List A) (f : ℕ) where
  -- the first passes
  pub found-here : test a ≡ true → (b : B) → number b ≡ f → Matches a b → FoundIn Matches number test (a ∷ items) f (Some b)
  found-here e b n m = record { place = 0; placed = rw e refl; counted = omega arith; item = a; found = rw e refl; matches = m }

  -- the first doesn't
  pub found-behind : test a ≡ false → (o : Option B) → FoundIn Matches number test items (suc f) o → FoundIn Matches number test (a ∷ items) f o
  found-behind e None h = Absent-cons test a items e h
  found-behind e (Some b) h = record {
    place = suc h.place;
    placed = rw (e, h.placed) refl;
    counted = omega (arith, h.counted);
    item = h.item;
    found = rw e h.found;
    matches = h.matches;
  }
