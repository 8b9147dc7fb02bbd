-- What rows show of a step: whether things to do are left, and whether the first one prints.
use Rattle.std.proofs.Common.{◌≡◌, ◌≢◌, ◌⊎◌, inl, inr, ℕ, Bool, true, false, List, [], ◌∷◌, length, refl, sym, ap, ◌∙◌, subst}
use Rattle.std.proofs.lemmas.List.Elements.{All-head}
use Rattle.rg_base.specs.declared.outcome.Outcome.{Outcome}
use Rattle.rg_base.specs.declared.outcome.Outcome.TheVariants as outcome
use Rattle.rg_tree.specs.Rows.Tables.{Tables, name_at}
use Rattle.rg_tree.specs.Rows.RowTrees.{classes_of, block_of}
use Rattle.rg_tree.specs.Tree.{Block, empty as no_more, then as followed_by}
use Rattle.rg_rules.specs.Items.{Item, Do, EndAt, LeaveAt, LeaveGiving, Back, items_of}
use Rattle.rg_values.specs.declared.state.rows.ItemRow.{ItemRow}
use Rattle.rg_values.specs.declared.state.rows.ItemRow.TheVariants as row
use Rattle.rg_values.specs.Kept.{Kept, items_from, put_row, shown, plain_of, ItemFits, ItemsFit}
use Rattle.rg_input.specs.Numbers.{is_input_fault}
use Rattle.rg_plain.specs.Inner.Inputs.{StepOn, SettlesOn}
use Rattle.rg_plain.specs.Outcomes.{EndsMain, QuietOrPrints, LeavesRows, settled_outcome}
use Rattle.rg_values.specs.Printing.{PrintsOrStays, item_prints, first_prints}
use Rattle.rg_values.proofs.Item.{shown-none, put_row-first}
use Rattle.rg_plain.proofs.Behind.{MadeOf, settles, ends_main}

-- things to do are there
pub record Some_are (items : List Item) : Type 0 where
  pub first : Item
  pub rest : List Item
  pub are : items ≡ first ∷ rest

some-items_of : (b : Block) (items : List Item) → Some_are items → Some_are (items_of b items)
some-items_of no_more items some = some
some-items_of (followed_by s b) items some = record { first = Do s; rest = items_of b items; are = refl }

some-put : (t : Tables) (r : ItemRow) (items : List Item) → Some_are items → Some_are (put_row t r items)
some-put t (row.Rest s) items some = some-items_of (block_of t s) items some
some-put t (row.EndAt k) items some = record { first = EndAt k; rest = items; are = refl }
some-put t (row.LeaveAt k) items some = record { first = LeaveAt k; rest = items; are = refl }
some-put t (row.LeaveGiving line k w) items some = record { first = LeaveGiving line k (name_at t w); rest = items; are = refl }
some-put t row.Back items some = record { first = Back; rest = items; are = refl }

some-first : (t : Tables) (r : ItemRow) → ItemFits t r → Some_are (put_row t r [])
some-first t (row.Rest s) fits = record { first = _; rest = _; are = put_row-first t s [] fits }
some-first t (row.EndAt k) fits = record { first = EndAt k; rest = []; are = refl }
some-first t (row.LeaveAt k) fits = record { first = LeaveAt k; rest = []; are = refl }
some-first t (row.LeaveGiving line k w) fits = record { first = LeaveGiving line k (name_at t w); rest = []; are = refl }
some-first t row.Back fits = record { first = Back; rest = []; are = refl }

some-items_from : (t : Tables) (items : List Item) (rows : List ItemRow) → Some_are items → Some_are (items_from t items rows)
unfolding items_from
some-items_from t items [] some = some
some-items_from t items (r ∷ rows) some = some-items_from t (put_row t r items) rows (some-put t r items some)

-- rows that are some show things to do
pub some-shown : (t : Tables) (rows : List ItemRow) → rows ≢ [] → ItemsFit t rows → Some_are (shown t rows)
unfolding items_from
some-shown t [] left fit = absurd (left refl)
some-shown t (r ∷ rows) left fit = some-items_from t (put_row t r []) rows (some-first t r (All-head (ItemFits t) r rows fit))

pub left-shown : (t : Tables) (rows : List ItemRow) → rows ≢ [] → ItemsFit t rows → shown t rows ≢ []
left-shown t rows left fit e = let some = some-shown t rows left fit in let no : some.first ∷ some.rest ≡ [] = sym some.are ∙ e in cc

quiet-first : (items : List Item) (some : Some_are items) (r : Outcome) → QuietOrPrints items r → (item_prints some.first ≡ false) ⊎ PrintsOrStays r
quiet-first items some r (inl q) = inl (sym (ap first_prints some.are) ∙ q)
quiet-first items some r (inr q) = inr q

length-none : (rows : List ItemRow) → length rows ≢ 0 → rows ≢ []
length-none rows some e = some (ap length e)

-- a step that was made, as its rows show it
made : (t : Tables) (old new : Kept) (r : Outcome) (is_last : Bool) (before after : List ℕ) → old.items ≢ [] → ItemsFit t old.items →
    ItemsFit t new.items → EndsMain (shown t old.items) → QuietOrPrints (shown t old.items) r → (is_last ≡ true → length new.items ≡ 0) →
    (is_last ≡ false → length new.items ≢ 0) → StepOn t old new r before after →
    MadeOf (classes_of t) (plain_of t old before) (plain_of t new after) r is_last
made t old new r is_last before after left fit fit' ends quiet last more step =
    let some = some-shown t old.items left fit in
    record {
      first = some.first;
      rest = some.rest;
      items = some.are;
      ends = ends;
      step = step;
      quiet = quiet-first (shown t old.items) some r quiet;
      gone = λ e. shown-none t new.items (last e);
      left = λ e. left-shown t new.items (length-none new.items (more e)) fit';
    }

-- what it answers once it is settled, and what is left to do
pub settled_on : (t : Tables) (old new : Kept) (r as_settled : Outcome) (is_last : Bool) → old.items ≢ [] → ItemsFit t old.items →
    ItemsFit t new.items → EndsMain (shown t old.items) → QuietOrPrints (shown t old.items) r → (is_last ≡ true → length new.items ≡ 0) →
    (is_last ≡ false → length new.items ≢ 0) → as_settled ≡ settled_outcome r is_last →
    (before after : List ℕ) → StepOn t old new r before after → SettlesOn t old new as_settled before after × EndsMain (shown t new.items)
settled_on t old new r as_settled is_last left fit fit' ends quiet last more is before after step =
    let m = made t old new r is_last before after left fit fit' ends quiet last more step in
    let P : Outcome → Type 0 = λ q. SettlesOn t old new q before after in (
      subst P (sym is) (settles (classes_of t) (plain_of t old before) (plain_of t new after) r is_last m),
      ends_main (classes_of t) (plain_of t old before) (plain_of t new after) r is_last m,
    )

rows-none : (t : Tables) (rows : List ItemRow) → ItemsFit t rows → shown t rows ≡ [] → rows ≡ []
rows-none t [] fit e = refl
rows-none t (r ∷ rows) fit e =
    let left : r ∷ rows ≢ [] = λ q. cc in
    absurd (left-shown t (r ∷ rows) left fit e)

rows-some : (t : Tables) (rows : List ItemRow) → shown t rows ≢ [] → rows ≢ []
rows-some t rows some e = some (shown-none t rows (ap length e))

-- what a whole step leaves to do, by its rows
pub leaves_rows : (t : Tables) (old new : Kept) (before after : List ℕ) (r : Outcome) → ItemsFit t new.items →
    SettlesOn t old new r before after → LeavesRows new.items r
leaves_rows t old new before after outcome.Running fit h = rows-some t new.items h.1
leaves_rows t old new before after (outcome.Printed v) fit h = rows-some t new.items h.1
leaves_rows t old new before after outcome.Done fit h = rows-none t new.items fit h.1
leaves_rows t old new before after (outcome.Trap kind line) fit h = tt
leaves_rows t old new before after outcome.InputFault fit h = tt
leaves_rows t old new before after outcome.Memory fit h = tt

-- a step that is the last one ends with a fault of the input where it did before
pub settled-input : (r : Outcome) (is_last : Bool) → is_input_fault r ≡ is_input_fault (settled_outcome r is_last)
settled-input outcome.Running true = refl
settled-input outcome.Running false = refl
settled-input (outcome.Printed v) is_last = refl
settled-input outcome.Done is_last = refl
settled-input (outcome.Trap kind line) is_last = refl
settled-input outcome.InputFault is_last = refl
settled-input outcome.Memory is_last = refl

-- a fault of the input stays one
pub settled-fault : (r : Outcome) (is_last : Bool) → settled_outcome r is_last ≡ outcome.InputFault → r ≡ outcome.InputFault
settled-fault outcome.Running true e = absurd (cc)
settled-fault outcome.Running false e = absurd (cc)
settled-fault (outcome.Printed v) is_last e = absurd (cc)
settled-fault outcome.Done is_last e = absurd (cc)
settled-fault (outcome.Trap kind line) is_last e = absurd (cc)
settled-fault outcome.InputFault is_last e = refl
settled-fault outcome.Memory is_last e = absurd (cc)
