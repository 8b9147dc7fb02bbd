-- A cell is given up, and its list beside the cells is taken away.
use Rattle.std.proofs.Common.{◌≡◌, ℕ, ◌+◌, ◌<◌, ◌≤◌, List, [], ◌∷◌, ◌++◌, length, Some, None, false, get_or, set}
use Rattle.std.proofs.Common.{ap, sym, ◌∙◌, subst, arith}
use Rattle.std.specs.Prelude.{slice_get}
use Rattle.std.proofs.lemmas.List.{length-set}
use Rattle.std.proofs.lemmas.Option.{same_Some}
use Rattle.rg_cells.specs.declared.cell.Beside.{Beside}
use Rattle.rg_cells.specs.declared.cell.Cell.{Cell}
use Rattle.rg_cells.specs.Table.{Table, IsHeld, freed_from}
use Rattle.rg_cells.specs.Inner.Layout.{is_free, index_in}
use Rattle.rg_cells.specs.Inner.Places.{table_of, Owned, OwnedBut, FreeList, Clears}
use Rattle.rg_cells.proofs.Lists.{got, within}
use Rattle.rg_cells.proofs.Shown.{held_read, held-is, cleared}
use Rattle.rg_cells.proofs.Free.{free-written, free-given}
use Rattle.rg_cells.proofs.Owners.{mover, owned-moved, shown-moved, dropped-last, shown-last, owned-given, owned-but, at-within, index-held}

-- what holds once the list is gone
pub record Dropped (cells new : List Cell) (bs ds : List Beside) : Type 0 where
  pub owned : Owned new ds
  pub shown : (n : ℕ) → table_of new ds n ≡ table_of cells bs n
  pub free : (f v : ℕ) → FreeList cells f v → FreeList new f v

-- the cell of the last list, as it was read
pub mover-read : (cells : List Cell) (bs rest : List Beside) (last : Beside) (at : ℕ) → bs ≡ rest ++ last ∷ [] → at < length rest
    → OwnedBut cells bs at → (r : Cell) → r ≡ get_or cells last.owner r
    → (slice_get cells last.owner ≡ Some r) × (is_free r.state ≡ false) × (index_in r.kinds r.words ≡ Some (length rest))
mover-read cells bs rest last at is l h r read =
    let m = mover cells bs rest last at is l h in
    let e = got cells last.owner r (within cells last.owner m.0 m.1) read in
    let same : r ≡ m.0 = same_Some r m.0 (sym e ∙ m.1) in (
      e,
      ap (λ (z : Cell). is_free z.state) same ∙ m.3,
      ap (λ (z : Cell). index_in z.kinds z.words) same ∙ m.4,
    )

pub dropped-moved : (cells : List Cell) (bs rest : List Beside) (last : Beside) (at : ℕ) → bs ≡ rest ++ last ∷ [] → at < length rest
    → OwnedBut cells bs at → (r d : Cell) → r ≡ get_or cells last.owner r → d ≡ record r { words = set r.words 0 at }
    → index_in d.kinds d.words ≡ Some at → Dropped cells (set cells last.owner d) bs (set rest at last)
dropped-moved cells bs rest last at is l h r d read words index =
    let m = mover-read cells bs rest last at is l h r read in
    let ws : List ℕ = set r.words 0 at in
    let now : index_in r.kinds ws ≡ Some at = sym (ap (λ (z : Cell). index_in z.kinds z.words) words) ∙ index in
    let P : Cell → Type 0 = λ z. Dropped cells (set cells last.owner z) bs (set rest at last) in
    subst P (sym words) (record {
      owned = owned-moved cells bs rest last at r ws is l h m.0 m.1 m.2 now;
      shown = shown-moved cells bs rest last at r ws is l h m.0 m.2 now;
      free = λ f v k. free-written cells f v last.owner r (record r { words = ws }) m.0 m.1 m.1 k;
    })

pub dropped-same : (cells : List Cell) (bs rest : List Beside) (last : Beside) (at : ℕ) → bs ≡ rest ++ last ∷ [] → at ≡ length rest
    → OwnedBut cells bs at → Dropped cells cells bs rest
dropped-same cells bs rest last at is e h =
    let P : ℕ → Type 0 = λ n. OwnedBut cells bs n in
    let k = subst P e h in record {
      owned = dropped-last cells bs rest last is k;
      shown = shown-last cells bs rest last is k;
      free = λ f v x. x;
    }

-- what holds once a place is free, with its list still beside
pub record GivenUp (cells new : List Cell) (bs : List Beside) (t : Table) (next slot vacant : ℕ) : Type 0 where
  pub free : FreeList new slot (vacant + 1)
  pub fits : vacant + 1 ≤ length cells
  pub shown : table_of new bs next ≡ freed_from t slot

pub given-up : (cells : List Cell) (bs : List Beside) (next slot free vacant : ℕ) (t : Table) (c d : Cell) → table_of cells bs next ≡ t
    → IsHeld t.heap slot → c ≡ get_or cells slot c → Clears d free → FreeList cells free vacant → GivenUp cells (set cells slot d) bs t next slot vacant
given-up cells bs next slot free vacant t c d same h read clears list =
    let e = held_read cells bs next slot t same h c read in
    let new : List Cell = set cells slot d in
    let f = free-given cells free vacant slot c d e.0 e.1 clears.free clears.names list in
    let n = held-is new bs next in
    record {
      free = f;
      fits = let l : length new ≡ length cells = length-set cells slot d in omega (arith, f.all, n, l);
      shown = cleared cells bs next slot free d clears ∙ ap (λ (z : Table). freed_from z slot) same;
    }

-- the cell had no list beside
pub given-none : (cells : List Cell) (bs : List Beside) (next slot free : ℕ) (t : Table) (c d : Cell) → table_of cells bs next ≡ t
    → IsHeld t.heap slot → c ≡ get_or cells slot c → Clears d free → None ≡ index_in c.kinds c.words → Owned cells bs
    → Owned (set cells slot d) bs
given-none cells bs next slot free t c d same h read clears near owned =
    let e = held_read cells bs next slot t same h c read in
    owned-given cells bs slot c d e.0 (index-held c e.1 ∙ sym near) clears.free owned

-- or it had one, which belongs to no cell then
pub given-but : (cells : List Cell) (bs : List Beside) (next slot free at : ℕ) (t : Table) (c d : Cell) → table_of cells bs next ≡ t
    → IsHeld t.heap slot → c ≡ get_or cells slot c → Clears d free → Some at ≡ index_in c.kinds c.words → Owned cells bs
    → OwnedBut (set cells slot d) bs at × (at < length bs)
given-but cells bs next slot free at t c d same h read clears far owned =
    let e = held_read cells bs next slot t same h c read in
    let has = index-held c e.1 ∙ sym far in
    (owned-but cells bs slot at c d e.0 has clears.free owned, at-within cells bs slot at c e.0 has owned)
