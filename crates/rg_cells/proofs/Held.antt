-- The fields of a held slot whose place was read, and what is kept once one of them is written.
use Rattle.std.proofs.Common.{◌≡◌, ℕ, ◌<◌, Bool, true, false, List, length, Option, Some, None, IsSome, get_or, set, refl, ap, sym, ◌∙◌, subst, arith}
use Rattle.std.specs.Prelude.{slice_get, option_and_then}
use Rattle.std.proofs.lemmas.Option.{same_Some}
use Rattle.rg_base.specs.declared.value.Word.{Word}
use Rattle.rg_cells.specs.declared.cell.Body.{Body}
use Rattle.rg_cells.specs.declared.cell.Cell.{Cell}
use Rattle.rg_cells.specs.declared.cell.Beside.{Beside}
use Rattle.rg_cells.specs.Table.{Table, body_at, field_at, IsHeld, width, with_field}
use Rattle.rg_cells.specs.Replacing.{ReplacesIn, ReplacesPlain}
use Rattle.rg_cells.specs.Inner.Layout.{few_of, is_free, index_in}
use Rattle.rg_cells.specs.Inner.Places.{index_of, fields_of, body_of, mark_of, link_of, table_of, told, FreeList, Owned, Puts}
use Rattle.rg_cells.proofs.Lists.{got, set-as_was}
use Rattle.rg_cells.proofs.Shown.{held_read, body-held, fielded}
use Rattle.rg_cells.proofs.Free.{free-written}
use Rattle.rg_cells.proofs.Owners.{at-within, index-held, told-at, owned-written, owned-listed, shown-others}
use Rattle.rg_cells.proofs.FieldsKept.{fields-few, fields-beside, index-put, put-few, put-beside}

-- a slot that has a field is held
pub held-wide : (t : Table) (slot k : ℕ) → k < width (body_at t.heap slot) → IsHeld t.heap slot
held-wide t slot k l = by_body (body_at t.heap slot) l
  where
    by_body : (o : Option Body) → k < width o → IsSome o
    by_body None l = absurd (omega (arith, l))
    by_body (Some b) l = refl

-- what the table has of the fields of a slot
pub record HasFields (t : Table) (slot : ℕ) (fs : List Word) : Type 0 where
  pub many : width (body_at t.heap slot) ≡ length fs
  pub at : (k : ℕ) → field_at t.heap slot k ≡ slice_get fs k

has-fields : (cells : List Cell) (bs : List Beside) (next slot : ℕ) (t : Table) (c : Cell) → table_of cells bs next ≡ t → IsHeld t.heap slot
    → c ≡ get_or cells slot c → HasFields t slot (fields_of bs c)
has-fields cells bs next slot t c same h read =
    let e = held_read cells bs next slot t same h c read in
    let b : body_at (table_of cells bs next).heap slot ≡ Some (body_of bs c) = body-held cells bs next slot c e.0 e.1 in
    let P : Table → Type 0 = λ z. HasFields z slot (fields_of bs c) in
    subst P same (record { many = ap width b; at = λ k. ap (option_and_then (λ (x : Body). slice_get x.fields k)) b })

-- a place that is read twice
pub same-read : (cells : List Cell) (bs : List Beside) (next slot : ℕ) (t : Table) (c d : Cell) → table_of cells bs next ≡ t → IsHeld t.heap slot
    → c ≡ get_or cells slot c → d ≡ get_or cells slot d → c ≡ d
same-read cells bs next slot t c d same h x y =
    same_Some c d (sym (held_read cells bs next slot t same h c x).0 ∙ (held_read cells bs next slot t same h d y).0)

-- they stand in the cell itself
pub has-few : (cells : List Cell) (bs : List Beside) (next slot : ℕ) (t : Table) (c : Cell) → table_of cells bs next ≡ t → IsHeld t.heap slot
    → c ≡ get_or cells slot c → None ≡ index_in c.kinds c.words → HasFields t slot (few_of c.kinds c.words)
has-few cells bs next slot t c same h read near =
    let P : List Word → Type 0 = λ fs. HasFields t slot fs in
    subst P (fields-few bs c (sym near)) (has-fields cells bs next slot t c same h read)

-- or in a list beside
pub list-within : (cells : List Cell) (bs : List Beside) (next slot : ℕ) (t : Table) (c : Cell) (j : ℕ) → table_of cells bs next ≡ t
    → IsHeld t.heap slot → c ≡ get_or cells slot c → Owned cells bs → Some j ≡ index_in c.kinds c.words → j < length bs
list-within cells bs next slot t c j same h read owned far =
    let e = held_read cells bs next slot t same h c read in
    at-within cells bs slot j c e.0 (index-held c e.1 ∙ sym far) owned

pub has-beside : (cells : List Cell) (bs : List Beside) (next slot : ℕ) (t : Table) (c : Cell) (j : ℕ) → table_of cells bs next ≡ t
    → IsHeld t.heap slot → c ≡ get_or cells slot c → Owned cells bs → Some j ≡ index_in c.kinds c.words → (b : Beside) → b ≡ get_or bs j b
    → HasFields t slot b.fields
has-beside cells bs next slot t c j same h read owned far b is =
    let l = list-within cells bs next slot t c j same h read owned far in
    let P : List Word → Type 0 = λ fs. HasFields t slot fs in
    subst P (fields-beside bs c j b (sym far) (got bs j b l is)) (has-fields cells bs next slot t c same h read)

-- a field is written, and the places are kept
pub record WritesField (cells new : List Cell) (bs ds : List Beside) (t : Table) (next slot k : ℕ) (w : Word) : Type 0 where
  pub free : (f v : ℕ) → FreeList cells f v → FreeList new f v
  pub owned : Owned new ds
  pub shown : table_of new ds next ≡ record t { heap = with_field t.heap slot k w }

pub fielded-few : (cells : List Cell) (bs : List Beside) (next slot : ℕ) (t : Table) (c d : Cell) (k : ℕ) (w : Word) → table_of cells bs next ≡ t
    → IsHeld t.heap slot → c ≡ get_or cells slot c → Owned cells bs → None ≡ index_in c.kinds c.words → k < length (few_of c.kinds c.words)
    → Puts c d k w → WritesField cells (set cells slot d) bs bs t next slot k w
fielded-few cells bs next slot t c d k w same h read owned near l puts =
    let e = held_read cells bs next slot t same h c read in
    let n : ℕ = puts.0 in
    let still : is_free d.state ≡ false = ap (λ (z : Cell). is_free z.state) puts.2 ∙ e.1 in
    let none : index_in d.kinds d.words ≡ None =
    ap (λ (z : Cell). index_in z.kinds z.words) puts.2 ∙ index-put c.kinds c.words k w n (sym near) in
    record {
      free = λ f v x. free-written cells f v slot c d e.0 e.1 still x;
      owned = owned-written cells bs slot c d e.0 (index-held d still ∙ none ∙ near ∙ sym (index-held c e.1)) owned;
      shown =
          fielded cells (set cells slot d) bs bs next slot k w c d e.0 e.1 refl (ap mark_of puts.2) (ap link_of puts.2)
          (put-few bs c d k w e.1 (sym near) l puts) (λ i x m q. refl)
          ∙ ap (λ (z : Table). record z { heap = with_field z.heap slot k w }) same;
    }

pub fielded-beside : (cells : List Cell) (bs : List Beside) (next slot : ℕ) (t : Table) (c : Cell) (j k : ℕ) (w : Word) (b : Beside)
    → table_of cells bs next ≡ t → IsHeld t.heap slot → c ≡ get_or cells slot c → Owned cells bs → Some j ≡ index_in c.kinds c.words
    → b ≡ get_or bs j b → WritesField cells cells bs (set bs j (record b { fields = set b.fields k w })) t next slot k w
fielded-beside cells bs next slot t c j k w b same h read owned far is =
    let e = held_read cells bs next slot t same h c read in
    let l = list-within cells bs next slot t c j same h read owned far in
    let g : slice_get bs j ≡ Some b = got bs j b l is in
    let d : Beside = record b { fields = set b.fields k w } in
    let here : told index_of cells slot ≡ Some j = told-at index_of cells slot c e.0 ∙ index-held c e.1 ∙ sym far in
    record {
      free = λ f v x. x;
      owned = owned-listed cells bs j b d g refl owned;
      shown =
          fielded cells cells bs (set bs j d) next slot k w c c e.0 e.1 (sym (set-as_was cells slot c e.0)) refl refl
          (put-beside bs c j k w b e.1 (sym far) g) (shown-others cells bs slot j d here owned)
          ∙ ap (λ (z : Table). record z { heap = with_field z.heap slot k w }) same;
    }

-- the same of fields that are those with one written
pub fielded-set : (cells : List Cell) (bs : List Beside) (next slot : ℕ) (t : Table) (c : Cell) (j k : ℕ) (w : Word) (b : Beside) (fs : List Word)
    → table_of cells bs next ≡ t → IsHeld t.heap slot → c ≡ get_or cells slot c → Owned cells bs → Some j ≡ index_in c.kinds c.words
    → b ≡ get_or bs j b → fs ≡ set b.fields k w → WritesField cells cells bs (set bs j (record b { fields = fs })) t next slot k w
fielded-set cells bs next slot t c j k w b fs same h read owned far is p =
    let P : List Word → Type 0 = λ xs. WritesField cells cells bs (set bs j (record b { fields = xs })) t next slot k w in
    subst P (sym p) (fielded-beside cells bs next slot t c j k w b same h read owned far is)

-- what is kept where a word that led nowhere was replaced in a list beside, or nothing was
pub record Replaced (r : Bool) (cells : List Cell) (ds : List Beside) (t : Table) (next slot k : ℕ) (w : Word) : Type 0 where
  pub owned : Owned cells ds
  pub shown : ReplacesPlain r t (table_of cells ds next) slot k w

pub replaced-beside : (r : Bool) (cells : List Cell) (bs : List Beside) (next slot : ℕ) (t : Table) (c : Cell) (j k : ℕ) (w : Word) (b : Beside)
    (fs : List Word) → table_of cells bs next ≡ t → IsHeld t.heap slot → c ≡ get_or cells slot c → Owned cells bs
    → Some j ≡ index_in c.kinds c.words → b ≡ get_or bs j b → ReplacesIn r b.fields fs k w
    → Replaced r cells (set bs j (record b { fields = fs })) t next slot k w
replaced-beside true cells bs next slot t c j k w b fs same h read owned far is p =
    let f = fielded-beside cells bs next slot t c j k w b same h read owned far is in
    let e = has-beside cells bs next slot t c j same h read owned far b is in
    let P : List Word → Type 0 = λ xs. Replaced true cells (set bs j (record b { fields = xs })) t next slot k w in
    subst P (sym p.3) (record { owned = f.owned; shown = (p.0, e.at k ∙ p.1, p.2, f.shown) })
replaced-beside false cells bs next slot t c j k w b fs same h read owned far is p =
    let g = got bs j b (list-within cells bs next slot t c j same h read owned far) is in
    let P : List Word → Type 0 = λ xs. Replaced false cells (set bs j (record b { fields = xs })) t next slot k w in
    let Q : List Beside → Type 0 = λ ds. Replaced false cells ds t next slot k w in
    subst P (sym p) (subst Q (sym (set-as_was bs j b g)) (record { owned = owned; shown = same }))
