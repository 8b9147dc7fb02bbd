-- The trees of a table's rows, each made over those of the rows before it.
use Rattle.std.proofs.Common.{◌≡◌, ℕ, zero, suc, ◌+◌, ◌<◌, ◌≤◌, List, [], ◌∷◌, ◌++◌, map, length, get_or, Some, slice_get, refl, sym, ap, ◌∙◌, arith}
use Rattle.std.proofs.Common.{append_assoc, append-nil, length-append}
use Rattle.std.proofs.lemmas.List.{get_or_append_left, get_or_at, map-append}
use Rattle.std.proofs.lemmas.Option.{same_Some, get_or_from_slice_get, slice_get-map, none-some}
use Rattle.rg_tree.specs.Rows.RowTrees.{trees_from}
use Rattle.rg_tree.specs.Rows.RowsExist.{EachRow}
use Rattle.rg_tree.specs.Keeps.{Begins}

-- Lists that begin with another.

pub Begins-same : {A : Type 0} (xs : List A) → Begins xs xs
Begins-same xs = record { more = []; is = sym (append-nil xs) }

pub Begins-more : {A : Type 0} (xs more : List A) → Begins xs (xs ++ more)
Begins-more xs more = record { more = more; is = refl }

pub Begins-trans : {A : Type 0} {xs ys zs : List A} → Begins xs ys → Begins ys zs → Begins xs zs
Begins-trans {A} {xs} {ys} {zs} a b = record { more = a.more ++ b.more; is = b.is ∙ ap (λ w. w ++ b.more) a.is ∙ append_assoc xs a.more b.more }

pub Begins-from_same : {A : Type 0} {xs ys zs : List A} → xs ≡ ys → Begins xs zs → Begins ys zs
Begins-from_same e b = record { more = b.more; is = b.is ∙ ap (λ w. w ++ b.more) e }

pub length-Begins : {A : Type 0} {xs ys : List A} → Begins xs ys → length xs ≤ length ys
length-Begins {A} {xs} {ys} b = omega (arith, ap length b.is, length-append xs b.more)

pub get_or-Begins : {A : Type 0} {xs ys : List A} → Begins xs ys → (d : A) (k : ℕ) → k < length xs → get_or ys k d ≡ get_or xs k d
get_or-Begins {A} {xs} {ys} b d k l = rw b.is (get_or_append_left xs b.more d k l)

-- a list that begins with another of its length is that one
pub Begins-whole : {A : Type 0} {xs ys : List A} → Begins xs ys → length xs ≡ length ys → ys ≡ xs
Begins-whole {A} {xs} {ys} b l =
    let none : length b.more ≡ 0 = omega (arith, ap length b.is, length-append xs b.more) in
    b.is ∙ ap (λ w. xs ++ w) (nothing b.more none) ∙ append-nil xs
  where
    nothing : (ws : List A) → length ws ≡ 0 → ws ≡ []
    nothing [] e = refl
    nothing (w ∷ ws) e = absurd (omega arith)

-- Rows by number.

-- P of each row and its number, counted from n
abbrev pub EachFrom : {R : Type 0} → (ℕ → R → Type 0) → ℕ → List R → Type 0
EachFrom {R} P n rows = (k : ℕ) (r : R) → slice_get rows k ≡ Some r → P (n + k) r

module _ {R : Type 0} (P : ℕ → R → Type 0) where
  pub EachFrom-EachRow : (rows : List R) → EachRow P rows → EachFrom P 0 rows
  EachFrom-EachRow rows h k r e = let z : 0 + k ≡ k = omega arith in rw z (h k r e)

  pub EachFrom-head : (n : ℕ) (r : R) (rows : List R) → EachFrom P n (r ∷ rows) → P n r
  EachFrom-head n r rows h = let z : n + 0 ≡ n = omega arith in rw z at (h 0 r refl)

  pub EachFrom-tail : (n : ℕ) (r : R) (rows : List R) → EachFrom P n (r ∷ rows) → EachFrom P (suc n) rows
  EachFrom-tail n r rows h k q e = let z : n + suc k ≡ suc n + k = omega arith in rw z at (h (suc k) q e)

  pushed : (n : ℕ) (rows : List R) (r : R) → EachFrom P n rows → P (n + length rows) r → EachFrom P n (rows ++ r ∷ [])
  pushed n [] r h p zero q e = let s = same_Some r q e in rw s at p
  pushed n [] r h p (suc k) q e = absurd (none-some q e)
  pushed n (x ∷ rows) r h p zero q e = h 0 q e
  pushed n (x ∷ rows) r h p (suc k) q e =
      let z : suc n + k ≡ n + suc k = omega arith in
      let y : n + suc (length rows) ≡ suc n + length rows = omega arith in
      rw z at (pushed (suc n) rows r (EachFrom-tail n x rows h) (rw y at p) k q e)

  -- one row more
  pub EachRow-push : (rows : List R) (r : R) → EachRow P rows → P (length rows) r → EachRow P (rows ++ r ∷ [])
  EachRow-push rows r h p k q e =
      let z : 0 + length rows ≡ length rows = omega arith in
      let y : 0 + k ≡ k = omega arith in
      rw y at (pushed 0 rows r (EachFrom-EachRow rows h) (rw z p) k q e)

-- a row behind all
pub slice_get-push : {R : Type 0} (rows : List R) (r : R) → slice_get (rows ++ r ∷ []) (length rows) ≡ Some r
slice_get-push [] r = refl
slice_get-push (x ∷ rows) r = slice_get-push rows r

-- the trees of rows that read no other row
pub map-EachRow : {R T : Type 0} (f g : R → T) (rows : List R) → EachRow (λ k r. f r ≡ g r) rows → map f rows ≡ map g rows
map-EachRow {R} f g rows h = go 0 rows (EachFrom-EachRow (λ k r. f r ≡ g r) rows h)
  where
    go : (n : ℕ) (rows : List R) → EachFrom (λ k r. f r ≡ g r) n rows → map f rows ≡ map g rows
    go n [] h = refl
    go n (r ∷ rows) h = let a = h 0 r refl in let b = go (suc n) rows (EachFrom-tail (λ k r. f r ≡ g r) n r rows h) in cc

-- and of more rows
pub map-Begins : {R T : Type 0} (f g : R → T) {rows all : List R} → Begins rows all → EachRow (λ k r. f r ≡ g r) rows
    → Begins (map f rows) (map g all)
map-Begins f g {rows} {all} b h =
    record { more = map g b.more; is = rw b.is (map-append g rows b.more ∙ ap (λ w. w ++ map g b.more) (sym (map-EachRow f g rows h))) }

-- the tree of one of them
pub get_or-map : {R T : Type 0} (f : R → T) (rows : List R) (k : ℕ) (r : R) (d : T) → slice_get rows k ≡ Some r → get_or (map f rows) k d ≡ f r
get_or-map f rows k r d e = get_or_from_slice_get (map f rows) k (f r) d (slice_get-map f rows k ∙ rw e refl)

module _ {R T : Type 0} (none : T) (tree : (ℕ → T) → R → T) where
  pub trees_from-append : (done : List T) (rows more : List R)
      → trees_from none tree done (rows ++ more) ≡ trees_from none tree (trees_from none tree done rows) more
  trees_from-append done [] more = refl
  trees_from-append done (r ∷ rows) more = trees_from-append (done ++ tree (λ k. get_or done k none) r ∷ []) rows more

  -- the trees that are done stay
  pub trees_from-Begins : (done : List T) (rows : List R) → Begins done (trees_from none tree done rows)
  trees_from-Begins done [] = Begins-same done
  trees_from-Begins done (r ∷ rows) =
      let t = tree (λ k. get_or done k none) r in
      Begins-trans (Begins-more done (t ∷ [])) (trees_from-Begins (done ++ t ∷ []) rows)

  pub length-trees_from : (done : List T) (rows : List R) → length (trees_from none tree done rows) ≡ length done + length rows
  length-trees_from done [] = omega arith
  length-trees_from done (r ∷ rows) =
      let t = tree (λ k. get_or done k none) r in
      omega (arith, length-trees_from (done ++ t ∷ []) rows, length-append done (t ∷ []))

  -- where a row reads only rows before it, its tree is made over the trees of all
  pub trees_from-at : (P : ℕ → R → Type 0)
      → ((n : ℕ) (r : R) (f g : ℕ → T) → P n r → ((k : ℕ) → k < n → f k ≡ g k) → tree f r ≡ tree g r)
      → (done : List T) (n : ℕ) (rows : List R) → length done ≡ n → EachFrom P n rows → (k : ℕ) (r : R) → slice_get rows k ≡ Some r
      → get_or (trees_from none tree done rows) (n + k) none ≡ tree (λ j. get_or (trees_from none tree done rows) j none) r
  trees_from-at P local done n [] l h k r e = absurd (none-some r e)
  trees_from-at P local done n (q ∷ rows) l h zero r e =
      let t = tree (λ k. get_or done k none) q in
      let all = trees_from none tree (done ++ t ∷ []) rows in
      let b = trees_from-Begins (done ++ t ∷ []) rows in
      let m : n < length (done ++ t ∷ []) = omega (arith, length-append done (t ∷ [])) in
      let z : n + 0 ≡ n = omega arith in
      let here : get_or all n none ≡ t = get_or-Begins b none n m ∙ get_or_at done t [] none n l in
      let same : t ≡ tree (λ j. get_or all j none) q =
      local n q (λ j. get_or done j none) (λ j. get_or all j none) (EachFrom-head P n q rows h)
      (λ j lj.
      let inn : j < length (done ++ t ∷ []) = omega (arith, length-append done (t ∷ [])) in
      let ind : j < length done = omega arith in
      sym (get_or-Begins b none j inn ∙ get_or_append_left done (t ∷ []) none j ind)) in
      rw (z, ← same_Some q r e) (here ∙ same)
  trees_from-at P local done n (q ∷ rows) l h (suc k) r e =
      let t = tree (λ k. get_or done k none) q in
      let z : n + suc k ≡ suc n + k = omega arith in
      let m : length (done ++ t ∷ []) ≡ suc n = omega (arith, length-append done (t ∷ [])) in
      rw z (trees_from-at P local (done ++ t ∷ []) (suc n) rows m (EachFrom-tail P n q rows h) k r e)

  -- two ways to make trees that agree on the rows
  pub trees_from-same : (other : (ℕ → T) → R → T) (P : ℕ → R → Type 0) → ((n : ℕ) (r : R) (f : ℕ → T) → P n r → other f r ≡ tree f r)
      → (done : List T) (n : ℕ) (rows : List R) → EachFrom P n rows → trees_from none other done rows ≡ trees_from none tree done rows
  trees_from-same other P agree done n [] h = refl
  trees_from-same other P agree done n (r ∷ rows) h =
      let t = tree (λ k. get_or done k none) r in
      ap (λ w. trees_from none other (done ++ w ∷ []) rows) (agree n r (λ k. get_or done k none) (EachFrom-head P n r rows h))
      ∙ trees_from-same other P agree (done ++ t ∷ []) (suc n) rows (EachFrom-tail P n r rows h)

module _ {R T : Type 0} (none : T) (tree other : (ℕ → T) → R → T) where
  -- the trees of more rows, made in a way that agrees on the rows that were there
  pub trees_from-grows : (P : ℕ → R → Type 0) → ((n : ℕ) (r : R) (f : ℕ → T) → P n r → other f r ≡ tree f r)
      → {rows all : List R} → Begins rows all → EachRow P rows → Begins (trees_from none tree [] rows) (trees_from none other [] all)
  trees_from-grows P agree {rows} {all} b h =
      let same = trees_from-same none tree other P agree [] 0 rows (EachFrom-EachRow P rows h) in
      let m = trees_from-Begins none other (trees_from none other [] rows) b.more in
      record {
        more = m.more;
        is = ap (trees_from none other []) b.is ∙ trees_from-append none other [] rows b.more ∙ m.is ∙ ap (λ w. w ++ m.more) same;
      }
