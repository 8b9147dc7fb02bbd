-- A field of a held cell is written: what cells show behind it (docs/architecture.md, "The heap").
use Rattle.std.proofs.Common.{◌≡◌, ◌≢◌, ℕ, zero, suc, List, [], ◌∷◌, Option, Some, None, refl, ap, sym, ◌∙◌, subst, ◌⊎◌, inl, inr}
use Rattle.std.proofs.Common.{option_map, option_and_then, slice_get, get_or, set}
use Rattle.std.proofs.lemmas.Bool.{cases_eq}
use Rattle.std.proofs.lemmas.List.{get_or-set_other}
use Rattle.std.proofs.lemmas.Option.{same_Some}
use Rattle.rg_base.specs.declared.value.Word.{Word}
use Rattle.rg_cells.specs.declared.cell.Body.{Body}
use Rattle.rg_cells.specs.Table.{Heap, body_at, body_in, field_at, label_at, with_body, with_field}

-- lists of words with one written
set_got : (ws : List Word) (k : ℕ) (w old : Word) (j : ℕ) (x : Word) → slice_get ws k ≡ Some old → slice_get (set ws k w) j ≡ Some x
    → ((j ≡ k) × (w ≡ x)) ⊎ (slice_get ws j ≡ Some x)
set_got [] k w old j x e f = cc
set_got (y ∷ ws) zero w old zero x e f = inl (refl, same_Some w x f)
set_got (y ∷ ws) zero w old (suc j) x e f = inr f
set_got (y ∷ ws) (suc k) w old zero x e f = inr f
set_got (y ∷ ws) (suc k) w old (suc j) x e f = elim (set_got ws k w old j x e f) [ inl a ↦ inl (ap suc a.0, a.1) | inr a ↦ inr a ]

set_now : (ws : List Word) (k : ℕ) (w old : Word) → slice_get ws k ≡ Some old → slice_get (set ws k w) k ≡ Some w
set_now [] k w old e = cc
set_now (y ∷ ws) zero w old e = refl
set_now (y ∷ ws) (suc k) w old e = set_now ws k w old e

-- what is written twice was written once
set_twice : {A : Type 0} (xs : List A) (k : ℕ) (a b : A) → set (set xs k a) k b ≡ set xs k b
set_twice [] k a b = refl
set_twice (x ∷ xs) zero a b = refl
set_twice (x ∷ xs) (suc k) a b = ap (λ ys. x ∷ ys) (set_twice xs k a b)

pub there-set : (xs : List (Option (Option Body))) (slot : ℕ) (b d : Body) → body_in (get_or xs slot None) ≡ Some b
    → body_in (get_or (set xs slot (Some (Some d))) slot None) ≡ Some d
there-set [] slot b d e = cc
there-set (x ∷ xs) zero b d e = refl
there-set (x ∷ xs) (suc slot) b d e = there-set xs slot b d e

module _ (h : Heap) (slot k : ℕ) (b : Body) (old w : Word) (is : body_at h slot ≡ Some b) (was : slice_get b.fields k ≡ Some old) where
  abbrev pub written : Body
  written = record b { fields = set b.fields k w }

  pub with_is : with_field h slot k w ≡ with_body h slot written
  with_is = by_body (body_at h slot) refl
    where
      by_body : (o : Option Body) → body_at h slot ≡ o → with_field h slot k w ≡ with_body h slot written
      by_body o e = rw (with_field, is) refl

  pub body_now : body_at (with_field h slot k w) slot ≡ Some written
  body_now = ap (λ g. body_at g slot) with_is ∙ there-set h.slots slot b written is

  pub body_other : (s : ℕ) → s ≢ slot → body_at (with_field h slot k w) s ≡ body_at h s
  body_other s d = ap (λ g. body_at g s) with_is ∙ ap body_in (get_or-set_other h.slots slot s (Some (Some written)) None d)

  pub label_same : (s : ℕ) → label_at (with_field h slot k w) s ≡ label_at h s
  label_same s = elim (cases_eq s slot) [
    | inl e ↦
        let P : ℕ → Type 0 = λ z. label_at (with_field h slot k w) z ≡ label_at h z in
        subst P (sym e) (ap (option_map (λ (b : Body). b.label)) body_now ∙ sym (ap (option_map (λ (b : Body). b.label)) is))
    | inr d ↦ ap (option_map (λ (b : Body). b.label)) (body_other s d)
  ]

  pub field_now : field_at (with_field h slot k w) slot k ≡ Some w
  field_now = ap (option_and_then (λ (b : Body). slice_get b.fields k)) body_now ∙ set_now b.fields k w old was

  -- a field holds what is written, or what it held
  pub field_was : (s j : ℕ) (x : Word) → field_at (with_field h slot k w) s j ≡ Some x
      → ((s ≡ slot) × (j ≡ k) × (w ≡ x)) ⊎ (field_at h s j ≡ Some x)
  field_was s j x f = elim (cases_eq s slot) [
    | inl e ↦
        let P : ℕ → Type 0 = λ z. field_at (with_field h slot k w) z j ≡ Some x in
        let y = sym (ap (option_and_then (λ (b : Body). slice_get b.fields j)) body_now) ∙ subst P e f in
        elim (set_got b.fields k w old j x was y) [
          | inl q ↦ inl (e, q.0, q.1)
          | inr q ↦ inr (
              let P : ℕ → Type 0 = λ z. field_at h z j ≡ Some x in
              subst P (sym e) (ap (option_and_then (λ (b : Body). slice_get b.fields j)) is ∙ q))
        ]
    | inr d ↦ inr (sym (ap (option_and_then (λ (b : Body). slice_get b.fields j)) (body_other s d)) ∙ f)
  ]

-- a field that is written twice
pub with_twice : (h : Heap) (slot k : ℕ) (b : Body) (old u w : Word) → body_at h slot ≡ Some b → slice_get b.fields k ≡ Some old
    → with_field (with_field h slot k u) slot k w ≡ with_field h slot k w
with_twice h slot k b old u w is was =
    let mid : Body = record b { fields = set b.fields k u } in
    let i = body_now h slot k b old u is was in
    let z = set_now b.fields k u old was in
    with_is (with_field h slot k u) slot k mid u w i z
    ∙ ap (λ (g : Heap). with_body g slot (record mid { fields = set mid.fields k w })) (with_is h slot k b old u is was)
    ∙ ap (λ ws. with_body (with_body h slot mid) slot (record b { fields = ws })) (set_twice b.fields k u w)
    ∙ ap (λ xs. record h { slots = xs }) (set_twice h.slots slot (Some (Some mid)) (Some (Some (record b { fields = set b.fields k w }))))
    ∙ sym (with_is h slot k b old w is was)
