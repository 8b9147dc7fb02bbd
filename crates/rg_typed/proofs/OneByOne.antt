-- Fields and elements, one behind the other.
use Rattle.std.proofs.Common.{◌≡◌, ℕ, zero, suc, ◌+◌, ◌<◌, ◌≤◌, Bool as Truth, true, false, ◌&&◌, List, [], ◌∷◌, length, map, filter_map, drop, get_or}
use Rattle.std.proofs.Common.{slice_get, Some, None, inl, inr, refl, sym, ap, ◌∙◌, arith}
use Rattle.std.specs.Prelude.{nat_eq}
use Rattle.std.specs.List.{list_all}
use Rattle.std.proofs.lemmas.Bool.Decides.{eqb_tells}
use Rattle.std.proofs.lemmas.List.{drop_all, drop_more}
use Rattle.rg_base.proofs.Callers.Lists.{drop-here, there}
use Rattle.rg_base.specs.declared.object.Label.{Label}
use Rattle.rg_base.specs.declared.value.Val.{Val}
use Rattle.rg_tree.specs.Tree.{Field, Method, field, method, Class}
use Rattle.rg_tree.specs.Rows.Tables.{Tables}
use Rattle.rg_tree.specs.Rows.RowTrees.{member_at}
use Rattle.rg_rules.specs.Types.{type_of, field_member}
use Rattle.rg_cown.specs.declared.cargo.CargoCell.{CargoCell}
use Rattle.rg_typed.specs.Typed.{value_fits, fields_fit}

-- behind the last value nothing is left
drop-none : {X : Type 0} (xs : List X) (i : ℕ) → slice_get xs i ≡ None → drop i xs ≡ []
drop-none [] zero e = refl
drop-none [] (suc i) e = refl
drop-none (x ∷ xs) zero e = absurd cc
drop-none (x ∷ xs) (suc i) e = drop-none xs i e

-- the fields among members of these numbers
abbrev pub fields_among : Tables → List ℕ → List Field
fields_among t ks = filter_map field_member (map (member_at t) ks)

-- a member more that is a field
field-next : (t : Tables) (ks : List ℕ) (i d : ℕ) (f : Field) → i < length ks → member_at t (get_or ks i d) ≡ field f
    → fields_among t (drop i ks) ≡ f ∷ fields_among t (drop (i + 1) ks)
field-next t ks i d f lt e =
    ap (fields_among t) (drop_more ks i d lt) ∙ ap (λ m. filter_map field_member (m ∷ map (member_at t) (drop (i + 1) ks))) e

-- one that is a method
method-next : (t : Tables) (ks : List ℕ) (i d : ℕ) (m : Method) → i < length ks → member_at t (get_or ks i d) ≡ method m
    → fields_among t (drop i ks) ≡ fields_among t (drop (i + 1) ks)
method-next t ks i d m lt e =
    ap (fields_among t) (drop_more ks i d lt) ∙ ap (λ n. filter_map field_member (n ∷ map (member_at t) (drop (i + 1) ks))) e

module _ (t : Tables) (classes : List Class) (cells : List CargoCell) (own : Label) (ks : List ℕ) (i d : ℕ) (lt : i < length ks) (values : List Val)
    (at : ℕ) where
  -- there is no value for a field
  pub value-missing : (f : Field) → member_at t (get_or ks i d) ≡ field f → slice_get values at ≡ None
      → fields_fit classes cells own (fields_among t (drop i ks)) (drop at values) ≡ false
  value-missing f e none =
      ap (λ fs. fields_fit classes cells own fs (drop at values)) (field-next t ks i d f lt e)
      ∙ ap (fields_fit classes cells own (f ∷ fields_among t (drop (i + 1) ks))) (drop-none values at none)

  behind-value : (f : Field) (v : Val) → member_at t (get_or ks i d) ≡ field f → slice_get values at ≡ Some v
      → fields_fit classes cells own (fields_among t (drop i ks)) (drop at values)
      ≡ (value_fits cells own (type_of classes f.ty) v && fields_fit classes cells own (fields_among t (drop (i + 1) ks)) (drop (at + 1) values))
  behind-value f v e there =
      ap (λ fs. fields_fit classes cells own fs (drop at values)) (field-next t ks i d f lt e)
      ∙ ap (fields_fit classes cells own (f ∷ fields_among t (drop (i + 1) ks))) (drop-here values at v there)

  -- a value that doesn't fit
  pub value-unfit : (f : Field) (v : Val) → member_at t (get_or ks i d) ≡ field f → slice_get values at ≡ Some v
      → value_fits cells own (type_of classes f.ty) v ≡ false
      → fields_fit classes cells own (fields_among t (drop i ks)) (drop at values) ≡ false
  value-unfit f v e there fails =
      behind-value f v e there
      ∙ ap (λ b. b && fields_fit classes cells own (fields_among t (drop (i + 1) ks)) (drop (at + 1) values)) fails

  -- one that does
  pub value-fit : (f : Field) (v : Val) → member_at t (get_or ks i d) ≡ field f → slice_get values at ≡ Some v
      → value_fits cells own (type_of classes f.ty) v ≡ true
      → fields_fit classes cells own (fields_among t (drop i ks)) (drop at values)
      ≡ fields_fit classes cells own (fields_among t (drop (i + 1) ks)) (drop (at + 1) values)
  value-fit f v e there holds =
      behind-value f v e there
      ∙ ap (λ b. b && fields_fit classes cells own (fields_among t (drop (i + 1) ks)) (drop (at + 1) values)) holds

  -- a method has no value
  pub method-passed : (m : Method) → member_at t (get_or ks i d) ≡ method m
      → fields_fit classes cells own (fields_among t (drop i ks)) (drop at values)
      ≡ fields_fit classes cells own (fields_among t (drop (i + 1) ks)) (drop at values)
  method-passed m e = ap (λ fs. fields_fit classes cells own fs (drop at values)) (method-next t ks i d m lt e)

-- behind all fields no value is left
none-left : (classes : List Class) (cells : List CargoCell) (own : Label) (values : List Val) (at : ℕ) → at ≤ length values
    → fields_fit classes cells own [] (drop at values) ≡ nat_eq at (length values)
none-left classes cells own values at le =
    elim (eqb_tells at (length values)) [
      | inl t ↦ ap (fields_fit classes cells own []) (drop_all at values (omega (arith, t.1))) ∙ sym t.0
      | inr t ↦
          let next = there values at (omega (arith, le, t.1)) in
          ap (fields_fit classes cells own []) (drop-here values at next.0 next.1) ∙ sym t.0
    ]

pub all-passed : (t : Tables) (classes : List Class) (cells : List CargoCell) (own : Label) (ks : List ℕ) (i : ℕ) (values : List Val) (at : ℕ)
    → length ks ≤ i → at ≤ length values
    → fields_fit classes cells own (fields_among t (drop i ks)) (drop at values) ≡ nat_eq at (length values)
all-passed t classes cells own ks i values at past le =
    ap (λ js. fields_fit classes cells own (fields_among t js) (drop at values)) (drop_all i ks past) ∙ none-left classes cells own values at le

-- Tests of all values

pub all-next : {X : Type 0} (p : X → Truth) (xs : List X) (i : ℕ) (x : X) → slice_get xs i ≡ Some x → p x ≡ true
    → list_all p (drop i xs) ≡ list_all p (drop (i + 1) xs)
all-next p xs i x there holds = ap (list_all p) (drop-here xs i x there) ∙ ap (λ b. b && list_all p (drop (i + 1) xs)) holds

pub all-stops : {X : Type 0} (p : X → Truth) (xs : List X) (i : ℕ) (x : X) → slice_get xs i ≡ Some x → p x ≡ false
    → list_all p (drop i xs) ≡ false
all-stops p xs i x there fails = ap (list_all p) (drop-here xs i x there) ∙ ap (λ b. b && list_all p (drop (i + 1) xs)) fails

pub and_false : (a b : Truth) → a && b && false ≡ false
and_false true true = refl
and_false true false = refl
and_false false true = refl
and_false false false = refl
