-- Names by their numbers: what is looked for by a number is found where its bytes are.
use Rattle.std.proofs.Common.{◌≡◌, ◌≢◌, ℕ, ◌<◌, Bool, true, false, cond, ◌||◌, not, List, [], ◌∷◌, ◌++◌, map, reverse, length, Option, None, Some}
use Rattle.std.proofs.Common.{is_some, find, nat_eq, bytes_eq, inl, inr, refl, sym, ap, ◌∙◌, arith}
use Rattle.std.specs.List.{list_any}
use Rattle.std.specs.Map.{lookup, keys_of}
use Rattle.std.proofs.lemmas.Bool.Decides.{eqb_tells}
use Rattle.std.proofs.lemmas.List.{map-append, reverse-append}
use Rattle.std.proofs.lemmas.List.Sorted.{IsPermutation-reverse, list_any-IsPermutation}
use Rattle.std.proofs.lemmas.Map.Made.{is_some-lookup}
use Rattle.std.proofs.lemmas.Slice.Eq.{bytes_eq-Decides}
use Rattle.rg_tree.specs.Tree.{Name}
use Rattle.rg_tree.specs.Rows.Tables.{Tables, name_at, AreDistinct}
use Rattle.rg_tree.proofs.Callers.{name_at-injective}
use Rattle.rg_rules.specs.Headers.{among}
use Rattle.rg_names.specs.Inner.Headings.{AreNamed, names_behind}

bytes-same : (x y : Name) → x ≡ y → bytes_eq x y ≡ true
bytes-same x y e = (bytes_eq-Decides x y).1 e

bytes-apart : (x y : Name) → x ≢ y → bytes_eq x y ≡ false
bytes-apart x y n = by (bytes_eq x y) refl
  where
    by : (b : Bool) → bytes_eq x y ≡ b → bytes_eq x y ≡ false
    by true e = absurd (n ((bytes_eq-Decides x y).0 e))
    by false e = e

-- two numbers are equal where their names are
pub name-eq : (t : Tables) → AreDistinct t.names → (i j : ℕ) → i < length t.names → j < length t.names →
    bytes_eq (name_at t i) (name_at t j) ≡ nat_eq i j
name-eq t d i j li lj = elim (eqb_tells i j) [
  | inl same ↦ bytes-same (name_at t i) (name_at t j) (ap (name_at t) same.1) ∙ sym same.0
  | inr apart ↦ bytes-apart (name_at t i) (name_at t j) (λ e. apart.1 (name_at-injective t d i j li lj e)) ∙ sym apart.0
]

-- the other way round
pub name-eq-back : (t : Tables) → AreDistinct t.names → (i j : ℕ) → i < length t.names → j < length t.names →
    bytes_eq (name_at t j) (name_at t i) ≡ nat_eq i j
name-eq-back t d i j li lj = elim (eqb_tells i j) [
  | inl same ↦ bytes-same (name_at t j) (name_at t i) (ap (name_at t) (sym same.1)) ∙ sym same.0
  | inr apart ↦ bytes-apart (name_at t j) (name_at t i) (λ e. apart.1 (name_at-injective t d i j li lj (sym e))) ∙ sym apart.0
]

is_some-find : {X : Type 0} (p : X → Bool) (xs : List X) → is_some (find p xs) ≡ list_any p xs
is_some-find p [] = refl
is_some-find p (x ∷ xs) = by (p x) (is_some-find p xs)
  where
    by : (b : Bool) → is_some (find p xs) ≡ list_any p xs → is_some (cond b (Some x) (find p xs)) ≡ (b || list_any p xs)
    by true e = refl
    by false e = e

module _ {V : Type 0} (t : Tables) where
  any-names : AreDistinct t.names → (n : ℕ) → n < length t.names → (es : List (ℕ × V)) → AreNamed t es →
      list_any (bytes_eq (name_at t n)) (map (λ e. name_at t e.0) es) ≡ list_any (nat_eq n) (keys_of es)
  any-names d n l [] h = refl
  any-names d n l (e ∷ es) h = rw (name-eq t d n e.0 l h.0, any-names d n l es h.1) refl

  -- a name is among earlier ones where its number is
  pub among-behind : AreDistinct t.names → (n : ℕ) → n < length t.names → (es : List (ℕ × V)) → AreNamed t es →
      among (name_at t n) (names_behind t es) ≡ is_some (lookup (nat_eq n) es)
  among-behind d n l es h =
      let p = bytes_eq (name_at t n) in
      let names = map (λ (e : ℕ × V). name_at t e.0) es in
      is_some-find p (reverse names) ∙ sym (list_any-IsPermutation p names (reverse names) (IsPermutation-reverse names))
      ∙ any-names d n l es h ∙ sym (is_some-lookup (nat_eq n) es)

  -- one more entry, whose name comes first
  pub names_behind-push : (es : List (ℕ × V)) (n : ℕ) (v : V) → names_behind t (es ++ (n, v) ∷ []) ≡ name_at t n ∷ names_behind t es
  names_behind-push es n v =
      rw (map-append (λ (e : ℕ × V). name_at t e.0) es ((n, v) ∷ []), reverse-append (map (λ (e : ℕ × V). name_at t e.0) es) (name_at t n ∷ [])) refl

  pub AreNamed-push : (es : List (ℕ × V)) (n : ℕ) (v : V) → AreNamed t es → n < length t.names → AreNamed t (es ++ (n, v) ∷ [])
  AreNamed-push [] n v h l = (l, tt)
  AreNamed-push (e ∷ es) n v h l = (h.0, AreNamed-push es n v h.1 l)

-- a name that is nowhere
pub none-from_new : {V : Type 0} (o : Option V) → not (is_some o) ≡ true → o ≡ None
none-from_new None h = refl
none-from_new (Some v) h = grind arith
