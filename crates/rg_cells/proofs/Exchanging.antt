-- What the table shows after the cells at two slots change places.
use Rattle.std.proofs.Common.{◌≡◌, ◌≢◌, ℕ, List, Some, get_or, set, false, ap, sym, ◌∙◌, subst, arith}
use Rattle.std.specs.Prelude.{slice_get}
use Rattle.std.proofs.lemmas.List.{length-map}
use Rattle.rg_cells.specs.declared.cell.Beside.{Beside}
use Rattle.rg_cells.specs.declared.cell.Cell.{Cell}
use Rattle.rg_cells.specs.Table.{Table, IsHeld, IsListed, exchanged}
use Rattle.rg_cells.specs.Inner.Layout.{is_free, index_in}
use Rattle.rg_cells.specs.Inner.Places.{table_of, mark_of, link_of, owned, FreeList, Owned}
use Rattle.rg_cells.proofs.Lists.{get-other, within}
use Rattle.rg_cells.proofs.Shown.{exchanged-is, held_in, held_read}
use Rattle.rg_cells.proofs.Free.{free-written}
use Rattle.rg_cells.proofs.Owners.{owned-exchanged, owned-list}

-- a slot with a place has a mark and a link
pub listed-at : (cells : List Cell) (bs : List Beside) (next slot : ℕ) (c : Cell) → slice_get cells slot ≡ Some c
    → IsListed (table_of cells bs next) slot
listed-at cells bs next slot c e =
    let l = within cells slot c e in
    (omega (arith, l, length-map cells mark_of), omega (arith, l, length-map cells link_of))

-- the places are kept, and show the cells exchanged
pub record Swapped (cells new : List Cell) (bs ds : List Beside) (a b : ℕ) : Type 0 where
  pub free : (f v : ℕ) → FreeList cells f v → FreeList new f v
  pub owned : Owned cells bs → Owned new ds
  pub shown : (n : ℕ) → table_of new ds n ≡ exchanged (table_of cells bs n) a b

pub swapped : (cells : List Cell) (bs one two : List Beside) (a b : ℕ) (c d : Cell) → a ≢ b → slice_get cells a ≡ Some c
    → slice_get cells b ≡ Some d → is_free c.state ≡ false → is_free d.state ≡ false → one ≡ owned bs (index_in c.kinds c.words) b
    → two ≡ owned one (index_in d.kinds d.words) a → Swapped cells (set (set cells a d) b c) bs two a b
swapped cells bs one two a b c d apart e f x y p q =
    let new : List Cell = set (set cells a d) b c in
    let same : two ≡ owned (owned bs (index_in c.kinds c.words) b) (index_in d.kinds d.words) a =
    q ∙ ap (λ xs. owned xs (index_in d.kinds d.words) a) p in
    let there : slice_get (set cells a d) b ≡ Some d = get-other cells a b d (λ r. apart (sym r)) ∙ f in
    let P : List Beside → Type 0 = λ xs. Swapped cells new bs xs a b in
    subst P (sym same) (record {
      free = λ g v k. free-written (set cells a d) g v b d c there y x (free-written cells g v a c d e x y k);
      owned = λ k. owned-exchanged cells bs a b c d apart e f x y k;
      shown = λ n. exchanged-is cells bs (owned (owned bs (index_in c.kinds c.words) b) (index_in d.kinds d.words) a) n a b c d e f (λ j.
          owned-list (owned bs (index_in c.kinds c.words) b) (index_in d.kinds d.words) a j
          ∙ owned-list bs (index_in c.kinds c.words) b j);
    })

-- the same of places that were read, as the table is seen
pub swapped-read : (cells : List Cell) (bs one two : List Beside) (next a b : ℕ) (t : Table) (c d : Cell) → table_of cells bs next ≡ t
    → IsHeld t.heap a → IsHeld t.heap b → a ≢ b → c ≡ get_or cells a c → d ≡ get_or cells b d → one ≡ owned bs (index_in c.kinds c.words) b
    → two ≡ owned one (index_in d.kinds d.words) a → Swapped cells (set (set cells a d) b c) bs two a b
swapped-read cells bs one two next a b t c d same p q apart x y e f =
    let u = held_read cells bs next a t same p c x in
    let v = held_read cells bs next b t same q d y in
    swapped cells bs one two a b c d apart u.0 v.0 u.1 v.1 e f

-- held slots have a mark and a link each
pub listed-held : (cells : List Cell) (bs : List Beside) (next a b : ℕ) (t : Table) → table_of cells bs next ≡ t → IsHeld t.heap a → IsHeld t.heap b
    → IsListed t a × IsListed t b
listed-held cells bs next a b t same p q =
    let u = held_in cells bs next a t same p in
    let v = held_in cells bs next b t same q in
    let P : Table → Type 0 = λ z. IsListed z a × IsListed z b in
    subst P same (listed-at cells bs next a u.0 u.1, listed-at cells bs next b v.0 v.1)
