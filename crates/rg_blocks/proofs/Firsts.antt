-- The first of what a statement begins with, by its row.
use Rattle.std.proofs.Common.{◌≡◌, ℕ, Bool as Truth, List, [], ◌∷◌, Some, None}
use Rattle.std.proofs.Common.{refl, ap, subst}
use Rattle.rg_tree.specs.declared.rows.Path as rows
use Rattle.rg_tree.specs.Rows.Tables.{Tables}
use Rattle.rg_code.specs.declared.op.Op.{Op}
use Rattle.rg_verify_expressions.specs.declared.front.FrontRow.TheVariants as front
use Rattle.rg_verify_expressions.specs.Raised.{Raised, Front, expression, object, place, named}
use Rattle.rg_verify_expressions.specs.Rows.{IsTree}
use Rattle.rg_raise.specs.declared.said.Fronts.{Fronts}
use Rattle.rg_raise.specs.Fronts.{AreFrontRows, AreLeft, Spans, spanned, TakesFirst}
use Rattle.rg_raise.specs.Telling.{IsPathTo}
use Rattle.rg_raise.proofs.FrontRows.{is-expression, is-object, is-place}

module _ (t : Tables) (m : Truth) (ops : List Op) (new : Fronts) where
  pub first-none : (fs : List Front) → TakesFirst t m ops new fs None → fs ≡ []
  first-none [] h = refl
  first-none (f ∷ fs) h = absurd h

  pub first-expression : (fs : List Front) (n : ℕ) → TakesFirst t m ops new fs (Some (front.Expression n))
      → (e : Raised) × (rest : List Front) × (fs ≡ expression e ∷ rest) × IsTree t n (named m e) × AreFrontRows t m new.rows.items rest
      × Spans ops new.code (expression e ∷ rest)
  first-expression [] n h = absurd h
  first-expression (f ∷ fs) n h =
      let (e, same, tree) = is-expression t m n f h.first in
      (e, fs, ap (λ (x : Front). x ∷ fs) same, tree, h.rows, subst (λ (x : Front). Spans ops new.code (spanned x fs)) same h.spans)

  pub first-object : (fs : List Front) (p : rows.Path) → TakesFirst t m ops new fs (Some (front.Object p))
      → (s : ℕ) × (ks : List ℕ) × (rest : List Front) × (fs ≡ object s ks ∷ rest) × IsPathTo t m p s ks × AreLeft t m ops new rest
  first-object [] p h = absurd h
  first-object (f ∷ fs) p h =
      let (s, ks, same, path) = is-object t m p f h.first in
      let left : AreLeft t m ops new fs = record {
        rows = h.rows;
        spans = subst (λ (x : Front). Spans ops new.code (spanned x fs)) same h.spans;
      } in
      (s, ks, fs, ap (λ (x : Front). x ∷ fs) same, path, left)

  pub first-place : (fs : List Front) (p : rows.Path) (n : ℕ) → TakesFirst t m ops new fs (Some (front.Place p n))
      → (s : ℕ) × (ks : List ℕ) × (e : Raised) × (rest : List Front) × (fs ≡ place s ks e ∷ rest) × IsPathTo t m p s ks × IsTree t n (named m e)
      × AreLeft t m ops new rest
  first-place [] p n h = absurd h
  first-place (f ∷ fs) p n h =
      let (s, ks, e, same, path, tree) = is-place t m p n f h.first in
      let left : AreLeft t m ops new fs = record {
        rows = h.rows;
        spans = subst (λ (x : Front). Spans ops new.code (spanned x fs)) same h.spans;
      } in
      (s, ks, e, fs, ap (λ (x : Front). x ∷ fs) same, path, tree, left)
