-- The items of rows, as rows are put on top and taken away.
use Rattle.std.proofs.Common.{◌≡◌, ℕ, suc, ◌+◌, ◌-◌, ◌<◌, ◌≤◌, List, [], ◌∷◌, ◌++◌, length, take, drop, get_or, All, refl, sym, ◌∙◌, ap, subst, arith}
use Rattle.std.proofs.Common.{length-append}
use Rattle.std.proofs.Math.Seq.{take-append_seam}
use Rattle.std.proofs.lemmas.List.{drop_more}
use Rattle.std.proofs.lemmas.List.Elements.{All-nil, All-cons, All-head, All-tail}
use Rattle.rg_tree.specs.declared.rows.Span.{Span}
use Rattle.rg_tree.specs.Rows.Tables.{Tables, numbers_in}
use Rattle.rg_tree.specs.Rows.RowTrees.{stmt_at, block_over}
use Rattle.rg_rules.specs.Items.{Item, Do, items_of}
use Rattle.rg_values.specs.declared.state.rows.ItemRow.{ItemRow}
use Rattle.rg_values.specs.declared.state.rows.ItemRow.TheVariants as row
use Rattle.rg_values.specs.Kept.{items_from, shown, put_row, ItemFits, ItemsFit}
use Rattle.rg_values.specs.Steps.{IsAt}

-- a row on top
items_from-push : (t : Tables) (below : List Item) (rows : List ItemRow) (r : ItemRow) →
    items_from t below (rows ++ r ∷ []) ≡ put_row t r (items_from t below rows)
unfolding items_from
items_from-push t below [] r = refl
items_from-push t below (q ∷ rows) r = items_from-push t (put_row t q below) rows r

pub shown-push : (t : Tables) (rows : List ItemRow) (r : ItemRow) → shown t (rows ++ r ∷ []) ≡ put_row t r (shown t rows)
shown-push t rows r = items_from-push t [] rows r

-- rows that fit, and one more
pub ItemsFit-push : (t : Tables) (rows : List ItemRow) (r : ItemRow) → ItemsFit t rows → ItemFits t r → ItemsFit t (rows ++ r ∷ [])
ItemsFit-push t [] r fit one = All-cons (ItemFits t) r [] one (All-nil (ItemFits t))
ItemsFit-push t (q ∷ rows) r fit one =
    All-cons (ItemFits t) q (rows ++ r ∷ []) (All-head (ItemFits t) q rows fit) (ItemsFit-push t rows r (All-tail (ItemFits t) q rows fit) one)

ItemsFit-front : (t : Tables) (rows : List ItemRow) (r : ItemRow) → ItemsFit t (rows ++ r ∷ []) → ItemsFit t rows
ItemsFit-front t [] r fit = All-nil (ItemFits t)
ItemsFit-front t (q ∷ rows) r fit =
    All-cons (ItemFits t) q rows (All-head (ItemFits t) q (rows ++ r ∷ []) fit)
    (ItemsFit-front t rows r (All-tail (ItemFits t) q (rows ++ r ∷ []) fit))

ItemsFit-last : (t : Tables) (rows : List ItemRow) (r : ItemRow) → ItemsFit t (rows ++ r ∷ []) → ItemFits t r
ItemsFit-last t [] r fit = All-head (ItemFits t) r [] fit
ItemsFit-last t (q ∷ rows) r fit = ItemsFit-last t rows r (All-tail (ItemFits t) q (rows ++ r ∷ []) fit)

-- the rows below the topmost one
popped : (old below new : List ItemRow) (n : ℕ) (r : ItemRow) → old ≡ below ++ r ∷ [] → n ≡ length old → new ≡ take (n - 1) old → new ≡ below
popped old below new n r top len rest =
    let short : n - 1 ≡ length below = omega (arith, ap length top, length-append below (r ∷ [])) in
    rest ∙ rw (short, top) (take-append_seam below (r ∷ []))

-- what is known where the topmost of the rows is this one, and was taken away
pub record TopIs (t : Tables) (new below : List ItemRow) (r : ItemRow) : Type 0 where
  pub new_is : new ≡ below
  pub front : ItemsFit t new
  pub fits : ItemFits t r

pub top_is : (t : Tables) (old below new : List ItemRow) (n : ℕ) (r : ItemRow) → old ≡ below ++ r ∷ [] → n ≡ length old →
    new ≡ take (n - 1) old → ItemsFit t old → TopIs t new below r
top_is t old below new n r top len rest fit =
    let is : new ≡ below = popped old below new n r top len rest in
    let P : List ItemRow → Type 0 = λ rows. ItemsFit t rows in
    let all : ItemsFit t (below ++ r ∷ []) = subst P top fit in
    record { new_is = is; front = subst P (sym is) (ItemsFit-front t below r all); fits = ItemsFit-last t below r all }

pub top_fits : (t : Tables) (rows below : List ItemRow) (r : ItemRow) → rows ≡ below ++ r ∷ [] → ItemsFit t rows → ItemFits t r
top_fits t rows below r top fit = let P : List ItemRow → Type 0 = λ q. ItemsFit t q in ItemsFit-last t below r (subst P top fit)

-- the numbers of a span
pub numbers_in-first : (t : Tables) (s : Span) → s.from < s.to → s.to ≤ length t.numbers →
    numbers_in t s ≡ get_or t.numbers s.from 0 ∷ numbers_in t (record { from = s.from + 1; to = s.to })
numbers_in-first t s some within =
    let count : s.to - s.from ≡ suc (s.to - (s.from + 1)) = omega arith in
    ap (λ n. take n (drop s.from t.numbers)) count
    ∙ ap (take (suc (s.to - (s.from + 1)))) (drop_more t.numbers s.from 0 (omega arith))

pub numbers_in-none : (t : Tables) (s : Span) → s.to ≤ s.from → numbers_in t s ≡ []
numbers_in-none t s none = let count : s.to - s.from ≡ 0 = omega arith in rw count refl

-- a row of statements, by its first one

pub put_row-first : (t : Tables) (s : Span) (below : List Item) → ItemFits t (row.Rest s) →
    put_row t (row.Rest s) below ≡ Do (stmt_at t (get_or (numbers_in t s) 0 0)) ∷ put_row t (row.Rest (record { from = s.from + 1; to = s.to })) below
put_row-first t s below fits =
    let first = numbers_in-first t s fits.0 fits.1.within.ends in
    let number : get_or t.numbers s.from 0 ≡ get_or (numbers_in t s) 0 0 = ap (λ ns. get_or ns 0 0) (sym first) in
    let rest = put_row t (row.Rest (record { from = s.from + 1; to = s.to })) below in
    ap (λ ns. items_of (block_over (stmt_at t) ns) below) first ∙ ap (λ k. Do (stmt_at t k) ∷ rest) number

-- the topmost row is at its first statement
pub is_at : (t : Tables) (rows below : List ItemRow) (s : Span) (ns : List ℕ) → rows ≡ below ++ row.Rest s ∷ [] → ItemsFit t rows →
    ns ≡ numbers_in t s → IsAt t rows s (get_or ns 0 0)
is_at t rows below s ns top fit ns_is = record {
  below = below;
  top = top;
  first_is = ap (λ ms. get_or ms 0 0) ns_is;
  rest = put_row t (row.Rest (record { from = s.from + 1; to = s.to })) (shown t below);
  items =
      ap (shown t) top ∙ shown-push t below (row.Rest s) ∙ put_row-first t s (shown t below) (top_fits t rows below (row.Rest s) top fit)
      ∙ ap (λ ms. Do (stmt_at t (get_or ms 0 0)) ∷ put_row t (row.Rest (record { from = s.from + 1; to = s.to })) (shown t below)) (sym ns_is);
  fit = fit;
}

-- the first number of a span is that of a statement
pub first_within : (t : Tables) (s : Span) (ns : List ℕ) → ItemFits t (row.Rest s) → ns ≡ numbers_in t s → get_or ns 0 0 < length t.stmts
first_within t s ns fits ns_is =
    let first = numbers_in-first t s fits.0 fits.1.within.ends in
    let some : 0 < length ns = omega (arith, ap length (ns_is ∙ first)) in
    let P : List ℕ → Type 0 = λ ms. All (λ k. k < length t.stmts) ms in
    subst P (sym ns_is) fits.1.each 0 0 some

-- the first statement was taken away
pub advanced : (t : Tables) (old below new : List ItemRow) (s : Span) (number : ℕ) → old ≡ below ++ row.Rest s ∷ [] →
    number ≡ get_or (numbers_in t s) 0 0 → ItemFits t (row.Rest s) → new ≡ below ++ row.Rest (record { from = s.from + 1; to = s.to }) ∷ [] →
    shown t old ≡ Do (stmt_at t number) ∷ shown t new
advanced t old below new s number top first fits new_is =
    rw (top, new_is, shown-push t below (row.Rest s), shown-push t below (row.Rest (record { from = s.from + 1; to = s.to })), first)
    (put_row-first t s (shown t below) fits)

pub advanced-last : (t : Tables) (old below new : List ItemRow) (s : Span) (number : ℕ) → old ≡ below ++ row.Rest s ∷ [] →
    number ≡ get_or (numbers_in t s) 0 0 → ItemFits t (row.Rest s) → s.to ≤ s.from + 1 → new ≡ below →
    shown t old ≡ Do (stmt_at t number) ∷ shown t new
advanced-last t old below new s number top first fits last new_is =
    let none : numbers_in t (record { from = s.from + 1; to = s.to }) ≡ [] = numbers_in-none t (record { from = s.from + 1; to = s.to }) last in
    let Q : List ℕ → List Item = λ ns. Do (stmt_at t (get_or (numbers_in t s) 0 0)) ∷ items_of (block_over (stmt_at t) ns) (shown t below) in
    rw (top, new_is, shown-push t below (row.Rest s), first) (put_row-first t s (shown t below) fits ∙ ap Q none)

-- the numbers behind the first are as good
pub Rest-shorter : (t : Tables) (s : Span) → ItemFits t (row.Rest s) → s.from + 1 < s.to →
    ItemFits t (row.Rest (record { from = s.from + 1; to = s.to }))
Rest-shorter t s fits more =
    let first = numbers_in-first t s fits.0 fits.1.within.ends in
    let P : List ℕ → Type 0 = λ ms. All (λ k. k < length t.stmts) ms in
    let all = subst P first fits.1.each in (
      more,
      record {
        within = record { ordered = omega arith; ends = fits.1.within.ends };
        each = All-tail (λ k. k < length t.stmts) (get_or t.numbers s.from 0) (numbers_in t (record { from = s.from + 1; to = s.to })) all;
      },
    )

-- a block on top, which may be empty
pub put_none : (t : Tables) (s : Span) (below : List Item) → s.to ≤ s.from → below ≡ put_row t (row.Rest s) below
put_none t s below none = sym (ap (λ ns. items_of (block_over (stmt_at t) ns) below) (numbers_in-none t s none))

-- the rows below the one that was taken away
pub shown-popped : (t : Tables) (old below new : List ItemRow) (r : ItemRow) → old ≡ below ++ r ∷ [] → new ≡ below →
    shown t old ≡ put_row t r (shown t new)
shown-popped t old below new r top new_is = ap (shown t) top ∙ shown-push t below r ∙ ap (λ rows. put_row t r (shown t rows)) (sym new_is)

-- no row shows no item
pub shown-none : (t : Tables) (rows : List ItemRow) → length rows ≡ 0 → shown t rows ≡ []
unfolding items_from
shown-none t [] none = refl
shown-none t (r ∷ rows) none = absurd (omega arith)
