-- Lists that are read item by item: what stands for the items so far, and what is left to read.
use Rattle.std.proofs.Common.{ℕ, ◌<◌, List, [], ◌∷◌, ◌++◌, All, map, refl, sym, ◌∙◌, ap, subst}
use Rattle.std.proofs.lemmas.List.{map-append}
use Rattle.std.proofs.lemmas.List.Elements.{All-nil, All-push}
use Rattle.rg_base.specs.declared.token.Token.{Token}
use Rattle.rg_tree.specs.declared.counts.Counts.{Counts}
use Rattle.rg_tree.specs.declared.rows.Span.{Span}
use Rattle.rg_tree.specs.Phrases.{Phrase, the}
use Rattle.rg_tree.specs.Rows.Tables.{Tables, numbers_in}
use Rattle.rg_tree.specs.Rows.RowsExist.{IsSpanBelow}
use Rattle.rg_tree.specs.Adds.{Means}
use Rattle.rg_reader.specs.declared.reader.halt.Halt.{Halt}
use Rattle.rg_reader.specs.Lists.{numbers_of, IsListed}
use Rattle.rg_reader.specs.Steps.{State, Extends, Halts}

-- a state by its parts
abbrev pub st : List ℕ → List Token → Counts → Tables → State
st source ts c u = record { source = source; rest = ts; counts = c; tables = u }

-- what rows of these numbers stand for
abbrev pub MeansAll : {A : Type 0} → (Tables → ℕ → A) → (Tables → ℕ → Type 0) → Tables → List ℕ → List A → Type 0
MeansAll tree exists t ks xs = Means (λ u. map (tree u)) (λ u. All (exists u)) t ks xs

-- The items so far are read, and have these numbers. A reading of the rest gives one of the whole, and one of the whole stops where
-- one of the rest does.
pub data Along {A B C : Type 0} (whole : List ℕ → Counts → List Token → B → Counts → List Token → Type 0)
    (rest : List ℕ → Counts → List Token → C → Counts → List Token → Type 0) (with : List A → C → B) (x y : Phrase)
    (tree : Tables → ℕ → A) (exists : Tables → ℕ → Type 0) : State → List ℕ → State → Type 0 where
  along : {source : List ℕ} {ts us : List Token} {c d : Counts} {u v : Tables} {ks : List ℕ} (done : List A)
      → MeansAll tree exists v ks done → Extends u v
      → ((r : C) (e : Counts) (vs : List Token) → rest source d us r e vs → whole source c ts (with done r) e vs)
      → ((e : Halt) (b : State) → Halts (the y ∷ []) (st source us d v) e b → Halts (the x ∷ []) (st source ts c u) e b)
      → Along whole rest with x y tree exists (st source ts c u) ks (st source us d v)

-- none, and one more
pub means-nil : {A : Type 0} (tree : Tables → ℕ → A) (exists : Tables → ℕ → Type 0) (t : Tables) → MeansAll tree exists t [] []
means-nil tree exists t = record { is = λ u k. refl; there = λ u k. All-nil (exists u) }

pub means-push : {A : Type 0} {tree : Tables → ℕ → A} {exists : Tables → ℕ → Type 0} {t : Tables} {ks : List ℕ} {xs : List A} {n : ℕ} {x : A}
    → MeansAll tree exists t ks xs → Means tree exists t n x → MeansAll tree exists t (ks ++ n ∷ []) (xs ++ x ∷ [])
means-push {tree = tree} {exists = exists} {ks = ks} {n = n} m i = record {
  is = λ u k. let e = m.is u k in let f = i.is u k in map-append (tree u) ks (n ∷ []) ∙ cc;
  there = λ u k. All-push (exists u) ks n (m.there u k) (i.there u k);
}

-- a span of those numbers
pub means-span : {A : Type 0} {tree : Tables → ℕ → A} (size : Tables → ℕ) {t : Tables} {s : Span} {ks : List ℕ} {xs : List A}
    → MeansAll tree (λ u k. k < size u) t ks xs → Means numbers_of IsListed t s ks
    → Means (λ u s. map (tree u) (numbers_in u s)) (λ u. IsSpanBelow u (size u)) t s xs
means-span {tree = tree} size {s = s} m o = record {
  is = λ u k. ap (map (tree u)) (o.is u k) ∙ m.is u k;
  there = λ u k. record { within = o.there u k; each = subst (All (λ k. k < size u)) (sym (o.is u k)) (m.there u k) };
}

-- one of the whole stops where one of the rest does
pub along-stops : {A B C : Type 0} {whole : List ℕ → Counts → List Token → B → Counts → List Token → Type 0}
    {rest : List ℕ → Counts → List Token → C → Counts → List Token → Type 0} {with : List A → C → B} {x y : Phrase}
    {tree : Tables → ℕ → A} {exists : Tables → ℕ → Type 0} {a m b : State} {ks : List ℕ} (e : Halt)
    → Along whole rest with x y tree exists a ks m → Halts (the y ∷ []) m e b → Halts (the x ∷ []) a e b
along-stops {b = b} e (along done m g reads halts) h = halts e b h
