-- The cell with a serial, by its place and as the table shows it.
use Rattle.std.proofs.Common.{◌≡◌, ℕ, List, Option, Some, None, IsSome, IfSome, IfNone, false, refl, ap, sym, ◌∙◌, subst}
use Rattle.std.specs.Prelude.{slice_get}
use Rattle.std.proofs.lemmas.Option.{same_Some}
use Rattle.rg_cells.specs.declared.cell.Beside.{Beside}
use Rattle.rg_cells.specs.declared.cell.Body.{Body}
use Rattle.rg_cells.specs.declared.cell.Cell.{Cell}
use Rattle.rg_cells.specs.Table.{Table, body_at, IsHeld, HasSerial, LacksSerial}
use Rattle.rg_cells.specs.Inner.Layout.{is_free}
use Rattle.rg_cells.specs.Inner.Places.{body_of, table_of, ServesSerial, ServesNone}
use Rattle.rg_cells.proofs.Shown.{held_in, body-held}

-- what a place with a held cell shows, as the table is seen
body-in : (cells : List Cell) (bs : List Beside) (next slot : ℕ) (t : Table) (c : Cell) → table_of cells bs next ≡ t → slice_get cells slot ≡ Some c
    → is_free c.state ≡ false → body_at t.heap slot ≡ Some (body_of bs c)
body-in cells bs next slot t c same e f =
    let P : Table → Type 0 = λ z. body_at z.heap slot ≡ Some (body_of bs c) in subst P same (body-held cells bs next slot c e f)

pub find-some : (cells : List Cell) (bs : List Beside) (next serial : ℕ) (t : Table) (r : Option ℕ) → table_of cells bs next ≡ t
    → IfSome r (λ slot. ServesSerial cells slot serial) → IfSome r (λ slot. HasSerial t.heap slot serial)
find-some cells bs next serial t None same h = h
find-some cells bs next serial t (Some slot) same h = (body_of bs h.0, body-in cells bs next slot t h.0 same h.1 h.2, h.3)

pub find-none : (cells : List Cell) (bs : List Beside) (next serial : ℕ) (t : Table) (r : Option ℕ) → table_of cells bs next ≡ t
    → IfNone r (ServesNone cells serial) → IfNone r (LacksSerial t.heap serial)
find-none cells bs next serial t (Some slot) same h = h
find-none cells bs next serial t None same h = λ slot b e q.
    let P : Option Body → Type 0 = λ o. IsSome o in
    let held : IsHeld t.heap slot = subst P (sym e) refl in
    let c = held_in cells bs next slot t same held in
    let is : body_of bs c.0 ≡ b = same_Some (body_of bs c.0) b (sym (body-in cells bs next slot t c.0 same c.1 c.2) ∙ e) in
    h slot c.0 c.1 c.2 (ap (λ (x : Body). x.serial) is ∙ q)
