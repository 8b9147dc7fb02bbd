-- Bytes of which a part came, one part behind the other (docs/architecture.md, "Modules").
use Rattle.std.proofs.Common.{◌≡◌, ℕ, ◌+◌, List, ◌∷◌, ◌++◌, take, drop, Result, Ok, Err, OnErr, sym, ap, ◌∙◌, subst, append_assoc}
use Rattle.std.specs.List.{flat_map}
use Rattle.std.proofs.lemmas.List.{take-append-drop}
use Rattle.std.proofs.lemmas.List.Concat.{flat_map-cons}
use Rattle.std.proofs.lemmas.Grind.{flat_map-append}
use Rattle.rg_spell.specs.Spelling.{AppendsPart}

-- what holds anyway
pub on_err : {T E P : Type 0} (r : Result T E) → P → OnErr r P
on_err (Ok x) p = tt
on_err (Err e) p = p

-- a part of what stands in front
pub in_front : (old new first second : List ℕ) → AppendsPart old new first → AppendsPart old new (first ++ second)
in_front old new first second p = record {
  part = p.part;
  rest = p.rest ++ second;
  bytes_are = ap (λ xs. xs ++ second) p.bytes_are ∙ append_assoc p.part p.rest second;
  new_is = p.new_is;
}

-- what stands in front, and a part of what stands behind it
pub behind : (old mid new first second : List ℕ) → mid ≡ old ++ first → AppendsPart mid new second → AppendsPart old new (first ++ second)
behind old mid new first second came p = record {
  part = first ++ p.part;
  rest = p.rest;
  bytes_are = ap (λ xs. first ++ xs) p.bytes_are ∙ sym (append_assoc first p.part p.rest);
  new_is = p.new_is ∙ ap (λ xs. xs ++ p.part) came ∙ append_assoc old first p.part;
}

-- a first part and some of a list's parts, and a part of the next one
pub in_turn : {A : Type 0} (part : A → List ℕ) (xs : List A) (i : ℕ) (x : A) (first old mid new : List ℕ)
    → drop i xs ≡ x ∷ drop (i + 1) xs → mid ≡ old ++ (first ++ flat_map part (take i xs)) → AppendsPart mid new (part x)
    → AppendsPart old new (first ++ flat_map part xs)
in_turn part xs i x first old mid new next came p =
    let before : List ℕ = flat_map part (take i xs) in
    let after : List ℕ = flat_map part (drop (i + 1) xs) in
    let rest_is : flat_map part (drop i xs) ≡ part x ++ after = ap (flat_map part) next ∙ flat_map-cons part x (drop (i + 1) xs) in
    let all_is : flat_map part xs ≡ before ++ (part x ++ after) =
    ap (flat_map part) (sym (take-append-drop i xs)) ∙ flat_map-append part (take i xs) (drop i xs) ∙ ap (λ ys. before ++ ys) rest_is in
    let whole_is : first ++ flat_map part xs ≡ (first ++ before) ++ (part x ++ after) =
    ap (λ ys. first ++ ys) all_is ∙ sym (append_assoc first before (part x ++ after)) in
    let P : List ℕ → Type 0 = λ ys. AppendsPart old new ys in
    subst P (sym whole_is) (behind old mid new (first ++ before) (part x ++ after) came (in_front mid new (part x) after p))
