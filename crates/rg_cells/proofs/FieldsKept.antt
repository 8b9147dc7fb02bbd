-- Fields in a cell itself, and beside, as they are read and written.
use Rattle.std.proofs.Common.{◌≡◌, ℕ, ◌+◌, ◌<◌, ◌≤◌, Bool, true, false, zero, suc, List, [], ◌∷◌, length, Some, None, get_or, set}
use Rattle.std.proofs.Common.{refl, ap, sym, ◌∙◌, arith, if◌then◌else◌}
use Rattle.std.specs.Prelude.{slice_get}
use Rattle.rg_base.specs.declared.value.Word.{Word}
use Rattle.rg_base.specs.declared.value.Word.TheVariants as word
use Rattle.rg_cells.specs.declared.cell.Cell.{Cell}
use Rattle.rg_cells.specs.declared.cell.Beside.{Beside}
use Rattle.rg_cells.specs.declared.cell.Kind.{Kind}
use Rattle.rg_cells.specs.Inner.Layout.{word_of, kind_in, is_there, is_beside, few_of, index_in, many_of, is_free, label_in}
use Rattle.rg_cells.specs.Inner.Places.{list_at, fields_of, body_of, shown, Puts}
use Rattle.rg_cells.proofs.Lists.{get-same}
use Rattle.rg_cells.proofs.Owners.{list-of}

there-kind : (w : Word) → is_there (kind_in w) ≡ true
there-kind word.Nil = refl
there-kind (word.Int z) = refl
there-kind (word.Bool b) = refl
there-kind (word.Slot s) = refl

near-kind : (w : Word) → is_beside (kind_in w) ≡ false
near-kind word.Nil = refl
near-kind (word.Int z) = refl
near-kind (word.Bool b) = refl
near-kind (word.Slot s) = refl

-- a field is read
pub few-get : (ks : List Kind) (ns : List ℕ) (k : ℕ) (d : Kind) (e : ℕ) → k < length (few_of ks ns)
    → slice_get (few_of ks ns) k ≡ Some (word_of (get_or ks k d) (get_or ns k e))
few-get [] ns k d e l = absurd (omega (arith, l))
few-get (x ∷ ks) [] k d e l = absurd (omega (arith, l))
few-get (x ∷ ks) (n ∷ ns) zero d e l = first (is_there x) l
  where
    first : (b : Bool) → 0 < length (if b then word_of x n ∷ few_of ks ns else [])
        → slice_get (if b then word_of x n ∷ few_of ks ns else []) 0 ≡ Some (word_of x n)
    first true l = refl
    first false l = absurd (omega (arith, l))
few-get (x ∷ ks) (n ∷ ns) (suc k) d e l = rest (is_there x) (λ m. few-get ks ns k d e m) l
  where
    rest : (b : Bool) → (k < length (few_of ks ns) → slice_get (few_of ks ns) k ≡ Some (word_of (get_or ks k d) (get_or ns k e)))
        → suc k < length (if b then word_of x n ∷ few_of ks ns else [])
        → slice_get (if b then word_of x n ∷ few_of ks ns else []) (suc k) ≡ Some (word_of (get_or ks k d) (get_or ns k e))
    rest true h l = h (omega (arith, l))
    rest false h l = absurd (omega (arith, l))

-- and written
few-set : (ks : List Kind) (ns : List ℕ) (k : ℕ) (w : Word) (m : ℕ) → word_of (kind_in w) m ≡ w → k < length (few_of ks ns)
    → few_of (set ks k (kind_in w)) (set ns k m) ≡ set (few_of ks ns) k w
few-set [] ns k w m e l = absurd (omega (arith, l))
few-set (x ∷ ks) [] k w m e l = absurd (omega (arith, l))
few-set (x ∷ ks) (n ∷ ns) zero w m e l =
    ap (λ b. if b then word_of (kind_in w) m ∷ few_of ks ns else []) (there-kind w) ∙ ap (λ v. v ∷ few_of ks ns) e ∙ first (is_there x) l
  where
    first : (b : Bool) → 0 < length (if b then word_of x n ∷ few_of ks ns else [])
        → w ∷ few_of ks ns ≡ set (if b then word_of x n ∷ few_of ks ns else []) 0 w
    first true l = refl
    first false l = absurd (omega (arith, l))
few-set (x ∷ ks) (n ∷ ns) (suc k) w m e l = rest (is_there x) (λ p. few-set ks ns k w m e p) l
  where
    rest : (b : Bool) → (k < length (few_of ks ns) → few_of (set ks k (kind_in w)) (set ns k m) ≡ set (few_of ks ns) k w)
        → suc k < length (if b then word_of x n ∷ few_of ks ns else [])
        → (if b then word_of x n ∷ few_of (set ks k (kind_in w)) (set ns k m) else [])
        ≡ set (if b then word_of x n ∷ few_of ks ns else []) (suc k) w
    rest true h l = ap (λ zs. word_of x n ∷ zs) (h (omega (arith, l)))
    rest false h l = absurd (omega (arith, l))

-- no more than there are kinds and numbers
pub few-le : (ks : List Kind) (ns : List ℕ) → (length (few_of ks ns) ≤ length ks) × (length (few_of ks ns) ≤ length ns)
few-le [] ns = (omega arith, omega arith)
few-le (x ∷ ks) [] = (omega arith, omega arith)
few-le (x ∷ ks) (n ∷ ns) = let ih = few-le ks ns in
    let p = by_kind (is_there x) (length ks) (word_of x n) (few_of ks ns) ih.0 in
    let q = by_kind (is_there x) (length ns) (word_of x n) (few_of ks ns) ih.1 in
    (omega (arith, p), omega (arith, q))
  where
    by_kind : (b : Bool) (m : ℕ) (w : Word) (ws : List Word) → length ws ≤ m → length (if b then w ∷ ws else []) ≤ m + 1
    by_kind true m w ws h = omega (arith, h)
    by_kind false m w ws h = omega arith

abbrev counted : (p q r : Bool) → ℕ
counted p q r = if p then (if q then (if r then 3 else 2) else 1) else 0

-- as many as there are kinds
pub few-count : (ks : List Kind) (ns : List ℕ) (d e f : Kind) → length ks ≡ 3 → length ns ≡ 3
    → length (few_of ks ns) ≡ many_of (get_or ks 0 d) (get_or ks 1 e) (get_or ks 2 f)
few-count (x ∷ y ∷ z ∷ []) (n ∷ m ∷ o ∷ []) d e f p q = by_kinds (is_there x) (is_there y) (is_there z) (word_of x n) (word_of y m) (word_of z o)
  where
    by_kinds : (p q r : Bool) (u v w : Word) → length (if p then u ∷ (if q then v ∷ (if r then w ∷ [] else []) else []) else [])
        ≡ counted p q r
    by_kinds true true true u v w = refl
    by_kinds true true false u v w = refl
    by_kinds true false r u v w = refl
    by_kinds false q r u v w = refl
few-count [] ns d e f p q = absurd (omega (arith, p))
few-count (x ∷ []) ns d e f p q = absurd (omega (arith, p))
few-count (x ∷ y ∷ []) ns d e f p q = absurd (omega (arith, p))
few-count (x ∷ y ∷ z ∷ u ∷ ks) ns d e f p q = absurd (omega (arith, p))
few-count (x ∷ y ∷ z ∷ []) [] d e f p q = absurd (omega (arith, q))
few-count (x ∷ y ∷ z ∷ []) (n ∷ []) d e f p q = absurd (omega (arith, q))
few-count (x ∷ y ∷ z ∷ []) (n ∷ m ∷ []) d e f p q = absurd (omega (arith, q))
few-count (x ∷ y ∷ z ∷ []) (n ∷ m ∷ o ∷ u ∷ ns) d e f p q = absurd (omega (arith, q))

-- the fields still stand in the cell itself
pub index-put : (ks : List Kind) (ns : List ℕ) (k : ℕ) (w : Word) (m : ℕ) → index_in ks ns ≡ None → index_in (set ks k (kind_in w)) (set ns k m) ≡ None
index-put [] ns k w m e = refl
index-put (x ∷ ks) ns zero w m e = ap (λ b. if b then Some (get_or (set ns 0 m) 0 0) else None) (near-kind w)
index-put (x ∷ ks) ns (suc k) w m e = by_kind (is_beside x) (get_or ns 0 0) (get_or (set ns (suc k) m) 0 0) e
  where
    by_kind : (b : Bool) (p q : ℕ) → (if b then Some p else None) ≡ None → (if b then Some q else None) ≡ None
    by_kind true p q e = let no : Some p ≡ None = e in cc
    by_kind false p q e = refl

-- where the fields of a cell stand
pub fields-few : (bs : List Beside) (c : Cell) → index_in c.kinds c.words ≡ None → fields_of bs c ≡ few_of c.kinds c.words
fields-few bs c e = ap (λ k. elim k [ None ↦ few_of c.kinds c.words | Some j ↦ list_at bs j ]) e

pub fields-beside : (bs : List Beside) (c : Cell) (j : ℕ) (b : Beside) → index_in c.kinds c.words ≡ Some j → slice_get bs j ≡ Some b
    → fields_of bs c ≡ b.fields
fields-beside bs c j b e f = ap (λ k. elim k [ None ↦ few_of c.kinds c.words | Some i ↦ list_at bs i ]) e ∙ list-of bs j b f

-- a field of a cell is written in the cell itself
pub put-few : (bs : List Beside) (c d : Cell) (k : ℕ) (w : Word) → is_free c.state ≡ false → index_in c.kinds c.words ≡ None
    → k < length (few_of c.kinds c.words) → Puts c d k w
    → shown bs d ≡ Some (Some (record (body_of bs c) { fields = set (fields_of bs c) k w }))
put-few bs c d k w f e l h =
    let n : ℕ = h.0 in
    let x : Cell = record c { kinds = set c.kinds k (kind_in w); words = set c.words k n } in
    let new : fields_of bs x ≡ set (fields_of bs c) k w =
    fields-few bs x (index-put c.kinds c.words k w n e) ∙ few-set c.kinds c.words k w n h.1 l ∙ ap (λ fs. set fs k w) (sym (fields-few bs c e)) in
    ap (shown bs) h.2
    ∙ ap (λ b. Some (if b then None else Some (body_of bs x))) f
    ∙ ap (λ fs. Some (Some (record { class = c.class; label = label_in c.state c.number; serial = c.serial; fields = fs }))) new

-- and in the list beside
pub put-beside : (bs : List Beside) (c : Cell) (j k : ℕ) (w : Word) (b : Beside) → is_free c.state ≡ false → index_in c.kinds c.words ≡ Some j
    → slice_get bs j ≡ Some b
    → shown (set bs j (record b { fields = set b.fields k w })) c ≡ Some (Some (record (body_of bs c) { fields = set (fields_of bs c) k w }))
put-beside bs c j k w b f e g =
    let d : Beside = record b { fields = set b.fields k w } in
    let new : fields_of (set bs j d) c ≡ set (fields_of bs c) k w =
    fields-beside (set bs j d) c j d e (get-same bs j b d g) ∙ ap (λ fs. set fs k w) (sym (fields-beside bs c j b e g)) in
    ap (λ x. Some (if x then None else Some (body_of (set bs j d) c))) f
    ∙ ap (λ fs. Some (Some (record { class = c.class; label = label_in c.state c.number; serial = c.serial; fields = fs }))) new
