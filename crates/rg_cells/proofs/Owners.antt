-- The lists beside the cells and the cells that have their fields there, after a change.
use Rattle.std.proofs.Common.{◌≡◌, ◌≢◌, ℕ, ◌<◌, Bool, true, false, List, [], ◌∷◌, ◌++◌, length, map, Option, Some, None, get_or, set}
use Rattle.std.proofs.Common.{refl, ap, sym, ◌∙◌, subst, arith, if◌then◌else◌, inl, inr, ◌⊎◌}
use Rattle.std.specs.Prelude.{slice_get, option_map, option_and_then}
use Rattle.std.proofs.lemmas.Bool.{cases_eq}
use Rattle.std.proofs.lemmas.Option.{same_Some, slice_get-get_or}
use Rattle.rg_base.specs.declared.value.Word.{Word}
use Rattle.rg_base.specs.declared.object.Label.{Label}
use Rattle.rg_cells.specs.declared.cell.Beside.{Beside}
use Rattle.rg_cells.specs.declared.cell.Cell.{Cell}
use Rattle.rg_cells.specs.Inner.Layout.{few_of, is_free, index_in, label_in}
use Rattle.rg_cells.specs.Inner.Places.{index_of, list_at, fields_of, shown, mark_of, link_of, table_of, told, owner_at, Owned, OwnedBut, owned, Taken, Links, Labels}
use Rattle.rg_cells.proofs.Lists.{get-same, get-other, get-end, get-before, map-kept, set-as_was, get-map, within}
use Rattle.rg_cells.proofs.Shown.{map-put, map-agree, shown-agree}
use Rattle.rg_cells.proofs.Free.{free_place}

-- the cell of a slot that says where its fields stand beside
pub indexed : (cells : List Cell) (slot j : ℕ) → told index_of cells slot ≡ Some j
    → (c : Cell) × (slice_get cells slot ≡ Some c) × (index_of c ≡ Some j) × (is_free c.state ≡ false) × (index_in c.kinds c.words ≡ Some j)
indexed cells slot j e = by_place (slice_get cells slot) e
  where
    by_state : (b : Bool) (o : Option ℕ) → (if b then None else o) ≡ Some j → (b ≡ false) × (o ≡ Some j)
    by_state true o e = let no : None ≡ Some j = e in cc
    by_state false o e = (refl, e)

    by_place : (o : Option Cell) → option_and_then index_of o ≡ Some j
        → (c : Cell) × (o ≡ Some c) × (index_of c ≡ Some j) × (is_free c.state ≡ false) × (index_in c.kinds c.words ≡ Some j)
    by_place None e = let no : None ≡ Some j = e in cc
    by_place (Some c) e = let p = by_state (is_free c.state) (index_in c.kinds c.words) e in (c, refl, e, p.0, p.1)

-- of a held cell, the fields are where its kinds and numbers say
pub index-held : (c : Cell) → is_free c.state ≡ false → index_of c ≡ index_in c.kinds c.words
index-held c f = ap (λ b. if b then None else index_in c.kinds c.words) f

pub index-free : (c : Cell) → is_free c.state ≡ true → index_of c ≡ None
index-free c f = ap (λ b. if b then None else index_in c.kinds c.words) f

pub told-at : (f : Cell → Option ℕ) (cells : List Cell) (slot : ℕ) (c : Cell) → slice_get cells slot ≡ Some c → told f cells slot ≡ f c
told-at f cells slot c e = ap (option_and_then f) e

told-same : (f : Cell → Option ℕ) (cells new : List Cell) (slot : ℕ) → slice_get new slot ≡ slice_get cells slot → told f new slot ≡ told f cells slot
told-same f cells new slot e = ap (option_and_then f) e

-- a list beside the cells, by its owner
listed : (bs : List Beside) (j slot : ℕ) → owner_at bs j ≡ Some slot → (b : Beside) × (slice_get bs j ≡ Some b) × (b.owner ≡ slot)
listed bs j slot e = by_list (slice_get bs j) e
  where
    by_list : (o : Option Beside) → option_map (λ (b : Beside). b.owner) o ≡ Some slot → (b : Beside) × (o ≡ Some b) × (b.owner ≡ slot)
    by_list None e = let no : None ≡ Some slot = e in cc
    by_list (Some b) e = (b, refl, same_Some b.owner slot e)

pub listed-within : (bs : List Beside) (j slot : ℕ) → owner_at bs j ≡ Some slot → j < length bs
listed-within bs j slot e = let b = listed bs j slot e in within bs j b.0 b.1

owner-of : (bs : List Beside) (j : ℕ) (b : Beside) → slice_get bs j ≡ Some b → owner_at bs j ≡ Some b.owner
owner-of bs j b e = ap (option_map (λ (x : Beside). x.owner)) e

owner-same : (bs ds : List Beside) (j : ℕ) → slice_get ds j ≡ slice_get bs j → owner_at ds j ≡ owner_at bs j
owner-same bs ds j e = ap (option_map (λ (x : Beside). x.owner)) e

abbrev fields-at : Option Beside → List Word
fields-at o = elim o [ None ↦ [] | Some b ↦ b.fields ]

list-same : (bs ds : List Beside) (j : ℕ) → slice_get ds j ≡ slice_get bs j → list_at ds j ≡ list_at bs j
list-same bs ds j e = ap fields-at e

pub list-of : (bs : List Beside) (j : ℕ) (b : Beside) → slice_get bs j ≡ Some b → list_at bs j ≡ b.fields
list-of bs j b e = ap fields-at e

-- one slot has one list
once : (cells : List Cell) (slot j k : ℕ) → told index_of cells slot ≡ Some j → told index_of cells slot ≡ Some k → j ≡ k
once cells slot j k e f = same_Some j k (sym e ∙ f)

-- a cell is written that says the same
pub owned-written : (cells : List Cell) (bs : List Beside) (slot : ℕ) (c d : Cell) → slice_get cells slot ≡ Some c → index_of d ≡ index_of c
    → Owned cells bs → Owned (set cells slot d) bs
owned-written cells bs slot c d e same h = record {
  owner = λ i j q. h.owner i j (sym (all i) ∙ q);
  index = λ j i q. all i ∙ h.index j i q;
}
  where
    all : (i : ℕ) → told index_of (set cells slot d) i ≡ told index_of cells i
    all i = elim (cases_eq i slot) [
      | inl is ↦
          let P : ℕ → Type 0 = λ z. told index_of (set cells slot d) z ≡ told index_of cells z in
          subst P (sym is) (told-at index_of (set cells slot d) slot d (get-same cells slot c d e) ∙ same ∙ sym (told-at index_of cells slot c e))
      | inr n ↦ told-same index_of cells (set cells slot d) i (get-other cells slot i d n)
    ]

-- a list is written, and has the same owner
pub owned-listed : (cells : List Cell) (bs : List Beside) (j : ℕ) (b d : Beside) → slice_get bs j ≡ Some b → d.owner ≡ b.owner
    → Owned cells bs → Owned cells (set bs j d)
owned-listed cells bs j b d e same h = record {
  owner = λ i k q. all k ∙ h.owner i k q;
  index = λ k i q. h.index k i (sym (all k) ∙ q);
}
  where
    all : (k : ℕ) → owner_at (set bs j d) k ≡ owner_at bs k
    all k = elim (cases_eq k j) [
      | inl is ↦
          let P : ℕ → Type 0 = λ z. owner_at (set bs j d) z ≡ owner_at bs z in
          subst P (sym is) (owner-of (set bs j d) j d (get-same bs j b d e) ∙ ap Some same ∙ sym (owner-of bs j b e))
      | inr n ↦ owner-same bs (set bs j d) k (get-other bs j k d n)
    ]

-- a slot that was taken had no list
vacant-none : (cells new : List Cell) (vacant slot : ℕ) (c : Cell) → Taken cells new vacant slot c → told index_of cells slot ≡ None
vacant-none cells new vacant slot c t = elim t.place [
  | inl p ↦ ap (option_and_then index_of) p.1
  | inr p ↦ let q = free_place cells slot p.1.0 p.1.1 in told-at index_of cells slot q.0 q.1 ∙ index-free q.0 q.2
]

not-there : (cells : List Cell) (slot i j : ℕ) → told index_of cells slot ≡ None → told index_of cells i ≡ Some j → i ≢ slot
not-there cells slot i j e f is = let no : None ≡ Some j = sym e ∙ sym (ap (told index_of cells) is) ∙ f in cc

-- a cell is made with its fields in itself
pub owned-few : (cells new : List Cell) (bs : List Beside) (vacant slot : ℕ) (c : Cell) → Taken cells new vacant slot c → index_of c ≡ None
    → Owned cells bs → Owned new bs
owned-few cells new bs vacant slot c t near h =
    let none = vacant-none cells new vacant slot c t in record {
      owner = λ i j q. elim (cases_eq i slot) [
        | inl is ↦
            let no : None ≡ Some j = sym (told-at index_of new slot c t.at ∙ near) ∙ sym (ap (told index_of new) is) ∙ q in cc
        | inr n ↦ h.owner i j (sym (told-same index_of cells new i (t.others i n)) ∙ q)
      ];
      index = λ j i q.
          let old = h.index j i q in
          told-same index_of cells new i (t.others i (not-there cells slot i j none old)) ∙ old;
    }

-- a cell is made with its fields beside
pub owned-many : (cells new : List Cell) (bs : List Beside) (vacant slot : ℕ) (c : Cell) (b : Beside) → Taken cells new vacant slot c
    → index_of c ≡ Some (length bs) → b.owner ≡ slot → Owned cells bs → Owned new (bs ++ b ∷ [])
owned-many cells new bs vacant slot c b t far owner h =
    let none = vacant-none cells new vacant slot c t in
    let here = told-at index_of new slot c t.at ∙ far in record {
      owner = λ i j q. elim (cases_eq i slot) [
        | inl is ↦
            let k : length bs ≡ j = same_Some (length bs) j (sym here ∙ sym (ap (told index_of new) is) ∙ q) in
            ap (owner_at (bs ++ b ∷ [])) (sym k) ∙ owner-of (bs ++ b ∷ []) (length bs) b (get-end bs b) ∙ ap Some (owner ∙ sym is)
        | inr n ↦
            let old = h.owner i j (sym (told-same index_of cells new i (t.others i n)) ∙ q) in
            let l = listed-within bs j i old in
            owner-same bs (bs ++ b ∷ []) j (get-before bs b j (λ r. let z : j ≡ length bs = r in absurd (omega (arith, l, z)))) ∙ old
      ];
      index = λ j i q. elim (cases_eq j (length bs)) [
        | inl is ↦
            let o : owner_at (bs ++ b ∷ []) j ≡ Some slot =
            ap (owner_at (bs ++ b ∷ [])) is ∙ owner-of (bs ++ b ∷ []) (length bs) b (get-end bs b) ∙ ap Some owner in
            let k : slot ≡ i = same_Some slot i (sym o ∙ q) in
            sym (ap (told index_of new) k) ∙ here ∙ ap Some (sym is)
        | inr n ↦
            let old = h.index j i (sym (owner-same bs (bs ++ b ∷ []) j (get-before bs b j n)) ∙ q) in
            told-same index_of cells new i (t.others i (not-there cells slot i j none old)) ∙ old
      ];
    }

-- what cells show stays where a list comes
pub shown-more : (cells : List Cell) (bs : List Beside) (b : Beside) → Owned cells bs → (i : ℕ) (x : Cell) → slice_get cells i ≡ Some x
    → shown (bs ++ b ∷ []) x ≡ shown bs x
shown-more cells bs b h i x e = shown-agree bs (bs ++ b ∷ []) x (λ j q.
    let l = listed-within bs j i (h.owner i j (told-at index_of cells i x e ∙ q)) in
    list-same bs (bs ++ b ∷ []) j (get-before bs b j (λ r. let z : j ≡ length bs = r in absurd (omega (arith, l, z)))))

-- and where the list of another one is written
pub shown-others : (cells : List Cell) (bs : List Beside) (slot j : ℕ) (d : Beside) → told index_of cells slot ≡ Some j → Owned cells bs
    → (i : ℕ) (x : Cell) → i ≢ slot → slice_get cells i ≡ Some x → shown (set bs j d) x ≡ shown bs x
shown-others cells bs slot j d here h i x n e = shown-agree bs (set bs j d) x (λ k q.
    let old = h.owner i k (told-at index_of cells i x e ∙ q) in
    let mine = h.owner slot j here in
    list-same bs (set bs j d) k (get-other bs j k d (λ r. n (same_Some i slot (sym old ∙ ap (owner_at bs) r ∙ mine)))))

-- a cell is given up that had no list
pub owned-given : (cells : List Cell) (bs : List Beside) (slot : ℕ) (c d : Cell) → slice_get cells slot ≡ Some c → index_of c ≡ None
    → is_free d.state ≡ true → Owned cells bs → Owned (set cells slot d) bs
owned-given cells bs slot c d e none f h = owned-written cells bs slot c d e (index-free d f ∙ sym none) h

-- and one that had one
pub owned-but : (cells : List Cell) (bs : List Beside) (slot at : ℕ) (c d : Cell) → slice_get cells slot ≡ Some c → index_of c ≡ Some at
    → is_free d.state ≡ true → Owned cells bs → OwnedBut (set cells slot d) bs at
owned-but cells bs slot at c d e has f h =
    let new = told-at index_of (set cells slot d) slot d (get-same cells slot c d e) ∙ index-free d f in
    let was = told-at index_of cells slot c e ∙ has in record {
      owner = λ i j q.
          let n = not-there (set cells slot d) slot i j new q in
          let old = h.owner i j (sym (told-same index_of cells (set cells slot d) i (get-other cells slot i d n)) ∙ q) in
          (old, λ r. n (same_Some i slot (sym old ∙ ap (owner_at bs) r ∙ h.owner slot at was)));
      index = λ j i n q.
          let old = h.index j i q in
          let apart : i ≢ slot = λ r. n (once cells slot j at (sym (ap (told index_of cells) r) ∙ old) was) in
          told-same index_of cells (set cells slot d) i (get-other cells slot i d apart) ∙ old;
    }

pub at-within : (cells : List Cell) (bs : List Beside) (slot at : ℕ) (c : Cell) → slice_get cells slot ≡ Some c → index_of c ≡ Some at
    → Owned cells bs → at < length bs
at-within cells bs slot at c e has h = listed-within bs at slot (h.owner slot at (told-at index_of cells slot c e ∙ has))

-- The list that belongs to none is taken away. It is the last one:
pub dropped-last : (cells : List Cell) (bs rest : List Beside) (last : Beside) → bs ≡ rest ++ last ∷ [] → OwnedBut cells bs (length rest) → Owned cells rest
dropped-last cells bs rest last is h =
    let P : List Beside → Type 0 = λ xs. OwnedBut cells xs (length rest) in
    let k = subst P is h in record {
      owner = λ i j q. let o = k.owner i j q in sym (owner-same rest (rest ++ last ∷ []) j (get-before rest last j o.1)) ∙ o.0;
      index = λ j i q.
          let l = listed-within rest j i q in
          let n : j ≢ length rest = λ r. let z : j ≡ length rest = r in absurd (omega (arith, l, z)) in
          k.index j i n (owner-same rest (rest ++ last ∷ []) j (get-before rest last j n) ∙ q);
    }

pub shown-last : (cells : List Cell) (bs rest : List Beside) (last : Beside) → bs ≡ rest ++ last ∷ [] → OwnedBut cells bs (length rest)
    → (next : ℕ) → table_of cells rest next ≡ table_of cells bs next
shown-last cells bs rest last is h next =
    let x : map (shown rest) cells ≡ map (shown bs) cells = map-agree (shown bs) (shown rest) cells (λ i c e. shown-agree bs rest c (λ j q.
    let o = h.owner i j (told-at index_of cells i c e ∙ q) in
    sym (list-same rest (rest ++ last ∷ []) j (get-before rest last j o.1)) ∙ ap (λ xs. list_at xs j) (sym is))) in
    rw x refl

last-at : (bs rest : List Beside) (last : Beside) → bs ≡ rest ++ last ∷ [] → slice_get bs (length rest) ≡ Some last
last-at bs rest last is = ap (λ xs. slice_get xs (length rest)) is ∙ get-end rest last

-- the list of another number, in front of the last one
before : (bs rest : List Beside) (last : Beside) → bs ≡ rest ++ last ∷ [] → (j : ℕ) → j ≢ length rest → slice_get rest j ≡ slice_get bs j
before bs rest last is j n = sym (get-before rest last j n) ∙ ap (λ xs. slice_get xs j) (sym is)

moved-at : (rest : List Beside) (last : Beside) (at : ℕ) → at < length rest → slice_get (set rest at last) at ≡ Some last
moved-at rest last at l = get-same rest at (get_or rest at last) last (slice_get-get_or rest at last l)

-- the list of a cell that stays isn't the last one
not-last : (bs rest : List Beside) (last : Beside) → bs ≡ rest ++ last ∷ [] → (i j : ℕ) → i ≢ last.owner → owner_at bs j ≡ Some i → j ≢ length rest
not-last bs rest last is i j n o r =
    n (same_Some i last.owner (sym o ∙ ap (owner_at bs) r ∙ owner-of bs (length rest) last (last-at bs rest last is)))

-- or the last one takes its place, and the cell of that says so:
pub mover : (cells : List Cell) (bs rest : List Beside) (last : Beside) (at : ℕ) → bs ≡ rest ++ last ∷ [] → at < length rest → OwnedBut cells bs at
    → (c : Cell) × (slice_get cells last.owner ≡ Some c) × (index_of c ≡ Some (length rest)) × (is_free c.state ≡ false)
    × (index_in c.kinds c.words ≡ Some (length rest))
mover cells bs rest last at is l h =
    let n : length rest ≢ at = λ r. let z : length rest ≡ at = r in absurd (omega (arith, l, z)) in
    indexed cells last.owner (length rest)
    (h.index (length rest) last.owner n (owner-of bs (length rest) last (last-at bs rest last is)))

pub owned-moved : (cells : List Cell) (bs rest : List Beside) (last : Beside) (at : ℕ) (c : Cell) (ws : List ℕ) → bs ≡ rest ++ last ∷ []
    → at < length rest → OwnedBut cells bs at → slice_get cells last.owner ≡ Some c → is_free c.state ≡ false
    → index_in c.kinds c.words ≡ Some (length rest) → index_in c.kinds ws ≡ Some at
    → Owned (set cells last.owner (record c { words = ws })) (set rest at last)
owned-moved cells bs rest last at c ws is l h e held was now =
    let d : Cell = record c { words = ws } in
    let here : told index_of (set cells last.owner d) last.owner ≡ Some at =
    told-at index_of (set cells last.owner d) last.owner d (get-same cells last.owner c d e) ∙ index-held d held ∙ now in
    let there : told index_of cells last.owner ≡ Some (length rest) = told-at index_of cells last.owner c e ∙ index-held c held ∙ was in record {
      owner = λ i j q. elim (cases_eq i last.owner) [
        | inl s ↦
            let k : at ≡ j = same_Some at j (sym here ∙ sym (ap (told index_of (set cells last.owner d)) s) ∙ q) in
            ap (owner_at (set rest at last)) (sym k) ∙ owner-of (set rest at last) at last (moved-at rest last at l) ∙ ap Some (sym s)
        | inr n ↦
            let o = h.owner i j (sym (told-same index_of cells (set cells last.owner d) i (get-other cells last.owner i d n)) ∙ q) in
            owner-same bs (set rest at last) j
            (get-other rest at j last o.1 ∙ before bs rest last is j (not-last bs rest last is i j n o.0)) ∙ o.0
      ];
      index = λ j i q. elim (cases_eq j at) [
        | inl s ↦
            let o : owner_at (set rest at last) j ≡ Some last.owner =
            ap (owner_at (set rest at last)) s ∙ owner-of (set rest at last) at last (moved-at rest last at l) in
            let k : last.owner ≡ i = same_Some last.owner i (sym o ∙ q) in
            sym (ap (told index_of (set cells last.owner d)) k) ∙ here ∙ ap Some (sym s)
        | inr n ↦
            let o : owner_at rest j ≡ Some i = sym (owner-same rest (set rest at last) j (get-other rest at j last n)) ∙ q in
            let m = listed-within rest j i o in
            let p : j ≢ length rest = λ r. let z : j ≡ length rest = r in absurd (omega (arith, m, z)) in
            let old = h.index j i n (sym (owner-same bs rest j (before bs rest last is j p)) ∙ o) in
            let far : i ≢ last.owner = λ r. p (once cells last.owner j (length rest) (sym (ap (told index_of cells) r) ∙ old) there) in
            told-same index_of cells (set cells last.owner d) i (get-other cells last.owner i d far) ∙ old
      ];
    }

pub shown-moved : (cells : List Cell) (bs rest : List Beside) (last : Beside) (at : ℕ) (c : Cell) (ws : List ℕ) → bs ≡ rest ++ last ∷ []
    → at < length rest → OwnedBut cells bs at → slice_get cells last.owner ≡ Some c
    → index_in c.kinds c.words ≡ Some (length rest) → index_in c.kinds ws ≡ Some at
    → (next : ℕ) → table_of (set cells last.owner (record c { words = ws })) (set rest at last) next ≡ table_of cells bs next
shown-moved cells bs rest last at c ws is l h e was now next =
    let d : Cell = record c { words = ws } in
    let ds : List Beside = set rest at last in
    let o : ℕ = last.owner in
    let f : fields_of ds d ≡ list_at ds at = ap (λ k. elim k [ None ↦ few_of c.kinds ws | Some j ↦ list_at ds j ]) now in
    let g : fields_of bs c ≡ list_at bs (length rest) = ap (λ k. elim k [ None ↦ few_of c.kinds c.words | Some j ↦ list_at bs j ]) was in
    let same : fields_of ds d ≡ fields_of bs c =
    f ∙ list-of ds at last (moved-at rest last at l) ∙ sym (list-of bs (length rest) last (last-at bs rest last is)) ∙ sym g in
    let s : shown ds d ≡ shown bs c = ap (λ fs. Some (if is_free c.state then None else Some (record {
      class = c.class;
      label = label_in c.state c.number;
      serial = c.serial;
      fields = fs;
    }))) same in
    let others : (i : ℕ) (x : Cell) → i ≢ o → slice_get cells i ≡ Some x → shown ds x ≡ shown bs x = λ i x n q. shown-agree bs ds x (λ j r.
    let p = h.owner i j (told-at index_of cells i x q ∙ r) in
    list-same bs ds j (get-other rest at j last p.1 ∙ before bs rest last is j (not-last bs rest last is i j n p.0))) in
    let x : map (shown ds) (set cells o d) ≡ map (shown bs) cells =
    map-put (shown bs) (shown ds) cells o c d (shown bs c) e s others
    ∙ set-as_was (map (shown bs) cells) o (shown bs c) (get-map (shown bs) cells o ∙ ap (option_map (shown bs)) e) in
    let y : map mark_of (set cells o d) ≡ map mark_of cells = map-kept mark_of cells o c d e refl in
    let z : map link_of (set cells o d) ≡ map link_of cells = map-kept link_of cells o c d e refl in
    rw (x, y, z) refl

owned-at : (bs : List Beside) (j slot : ℕ) (b : Beside) → slice_get bs j ≡ Some b → owner_at (owned bs (Some j) slot) j ≡ Some slot
owned-at bs j slot b e =
    let is : owned bs (Some j) slot ≡ set bs j (record b { owner = slot }) =
    ap (λ o. elim o [ None ↦ bs | Some x ↦ set bs j (record x { owner = slot }) ]) e in
    ap (λ xs. owner_at xs j) is ∙ owner-of (set bs j (record b { owner = slot })) j (record b { owner = slot })
    (get-same bs j b (record b { owner = slot }) e)

owned-other : (bs : List Beside) (o : Option ℕ) (slot k : ℕ) → o ≢ Some k → slice_get (owned bs o slot) k ≡ slice_get bs k
owned-other bs None slot k n = refl
owned-other bs (Some j) slot k n = by_list (slice_get bs j)
  where
    by_list : (o : Option Beside) → slice_get (elim o [ None ↦ bs | Some x ↦ set bs j (record x { owner = slot }) ]) k ≡ slice_get bs k
    by_list None = refl
    by_list (Some b) = get-other bs j k (record b { owner = slot }) (λ r. n (ap Some (sym r)))

-- the fields stay
pub owned-list : (bs : List Beside) (o : Option ℕ) (slot k : ℕ) → list_at (owned bs o slot) k ≡ list_at bs k
owned-list bs None slot k = refl
owned-list bs (Some j) slot k = by_list (slice_get bs j) refl
  where
    by_list : (o : Option Beside) → slice_get bs j ≡ o
        → list_at (elim o [ None ↦ bs | Some x ↦ set bs j (record x { owner = slot }) ]) k ≡ list_at bs k
    by_list None e = refl
    by_list (Some b) e = elim (cases_eq k j) [
      | inl is ↦
          let d : Beside = record b { owner = slot } in
          ap (list_at (set bs j d)) is ∙ list-of (set bs j d) j d (get-same bs j b d e) ∙ sym (list-of bs j b e) ∙ ap (list_at bs) (sym is)
      | inr n ↦ list-same bs (set bs j (record b { owner = slot })) k (get-other bs j k (record b { owner = slot }) n)
    ]

same_or : (o : Option ℕ) (j : ℕ) → (o ≡ Some j) ⊎ (o ≢ Some j)
same_or None j = inr (λ e. let no : None ≡ Some j = e in cc)
same_or (Some k) j = elim (cases_eq k j) [ inl e ↦ inl (ap Some e) | inr n ↦ inr (λ e. n (same_Some k j e)) ]

-- the cells at two slots change places, and their lists get their new owners
pub owned-exchanged : (cells : List Cell) (bs : List Beside) (a b : ℕ) (c d : Cell) → a ≢ b → slice_get cells a ≡ Some c → slice_get cells b ≡ Some d
    → is_free c.state ≡ false → is_free d.state ≡ false → Owned cells bs
    → Owned (set (set cells a d) b c) (owned (owned bs (index_in c.kinds c.words) b) (index_in d.kinds d.words) a)
owned-exchanged cells bs a b c d apart e f x y h =
    let p : Option ℕ = index_in c.kinds c.words in
    let q : Option ℕ = index_in d.kinds d.words in
    let new : List Cell = set (set cells a d) b c in
    let one : List Beside = owned bs p b in
    let two : List Beside = owned one q a in
    let first : told index_of cells a ≡ p = told-at index_of cells a c e ∙ index-held c x in
    let second : told index_of cells b ≡ q = told-at index_of cells b d f ∙ index-held d y in
    let differ : b ≢ a = λ r. apart (sym r) in
    let at_b : told index_of new b ≡ p =
    told-at index_of new b c (get-same (set cells a d) b d c (get-other cells a b d differ ∙ f)) ∙ index-held c x in
    let at_a : told index_of new a ≡ q =
    told-at index_of new a d (get-other (set cells a d) b a c apart ∙ get-same cells a c d e) ∙ index-held d y in
    let other : (i : ℕ) → i ≢ a → i ≢ b → told index_of new i ≡ told index_of cells i = λ i m n.
    told-same index_of cells new i (get-other (set cells a d) b i c n ∙ get-other cells a i d m) in
    let not_p : (i j : ℕ) → i ≢ a → owner_at bs j ≡ Some i → p ≢ Some j = λ i j n o r. n (same_Some i a (sym o ∙ h.owner a j (first ∙ r))) in
    let not_q : (i j : ℕ) → i ≢ b → owner_at bs j ≡ Some i → q ≢ Some j = λ i j n o r. n (same_Some i b (sym o ∙ h.owner b j (second ∙ r))) in
    let at_p : (j : ℕ) → p ≡ Some j → owner_at one j ≡ Some b = λ j r.
    let o = listed bs j a (h.owner a j (first ∙ r)) in
    ap (λ k. owner_at (owned bs k b) j) r ∙ owned-at bs j b o.0 o.1 in
    let at_q : (j : ℕ) → q ≡ Some j → owner_at two j ≡ Some a = λ j r.
    let w = h.owner b j (second ∙ r) in
    let o = listed bs j b w in
    ap (λ k. owner_at (owned one k a) j) r ∙ owned-at one j a o.0 (owned-other bs p b j (not_p b j differ w) ∙ o.1) in
    let keeps_two : (j : ℕ) → q ≢ Some j → owner_at two j ≡ owner_at one j = λ j n. owner-same one two j (owned-other one q a j n) in
    let keeps_one : (j : ℕ) → p ≢ Some j → owner_at one j ≡ owner_at bs j = λ j n. owner-same bs one j (owned-other bs p b j n) in record {
      owner = λ i j r. elim (cases_eq i b) [
        | inl s ↦
            let k : p ≡ Some j = sym at_b ∙ sym (ap (told index_of new) s) ∙ r in
            keeps_two j (not_q a j apart (h.owner a j (first ∙ k))) ∙ at_p j k ∙ ap Some (sym s)
        | inr n ↦ elim (cases_eq i a) [
          | inl s ↦ let k : q ≡ Some j = sym at_a ∙ sym (ap (told index_of new) s) ∙ r in at_q j k ∙ ap Some (sym s)
          | inr m ↦
              let o = h.owner i j (sym (other i m n) ∙ r) in
              keeps_two j (not_q i j n o) ∙ keeps_one j (not_p i j m o) ∙ o
        ]
      ];
      index = λ j i r. elim (same_or q j) [
        | inl k ↦
            let s : a ≡ i = same_Some a i (sym (at_q j k) ∙ r) in sym (ap (told index_of new) s) ∙ at_a ∙ k
        | inr n ↦ elim (same_or p j) [
          | inl k ↦
              let s : b ≡ i = same_Some b i (sym (at_p j k) ∙ sym (keeps_two j n) ∙ r) in sym (ap (told index_of new) s) ∙ at_b ∙ k
          | inr m ↦
              let old = h.index j i (sym (keeps_one j m) ∙ sym (keeps_two j n) ∙ r) in
              let u : i ≢ a = λ s. m (sym first ∙ sym (ap (told index_of cells) s) ∙ old) in
              let v : i ≢ b = λ s. n (sym second ∙ sym (ap (told index_of cells) s) ∙ old) in
              other i u v ∙ old
        ]
      ];
    }

-- a link or a label is written: the cell is held as before, and its fields stand where they stood
pub links-keep : (c d : Cell) (l : Option ℕ) → Links c d l → is_free c.state ≡ false → (is_free d.state ≡ false) × (index_of d ≡ index_of c)
links-keep c d l h f = (
  ap (λ (z : Cell). is_free z.state) h.2 ∙ h.3 ∙ f,
  ap index_of h.2 ∙ ap (λ b. if b then None else index_in c.kinds c.words) h.3,
)

pub labels-keep : (c d : Cell) (l : Label) → Labels c d l → is_free c.state ≡ false → (is_free d.state ≡ false) × (index_of d ≡ index_of c)
labels-keep c d l h f = (
  ap (λ (z : Cell). is_free z.state) h.2 ∙ h.3,
  ap index_of h.2 ∙ ap (λ b. if b then None else index_in c.kinds c.words) (h.3 ∙ sym f),
)
