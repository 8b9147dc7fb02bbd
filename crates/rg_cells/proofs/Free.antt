-- The list of free places after a place is taken from it, added to it, or written.
use Rattle.std.proofs.Common.{◌≡◌, ◌≢◌, ℕ, ◌+◌, ◌-◌, ◌<◌, Bool, true, false, zero, suc, List, [], ◌∷◌, ◌++◌, length, Option, Some, None, set}
use Rattle.std.proofs.Common.{refl, ap, sym, ◌∙◌, subst, arith, if◌then◌else◌, inl, inr, Result, Ok, Err, IfOk, OnErr}
use Rattle.std.specs.Prelude.{slice_get, option_and_then}
use Rattle.std.proofs.lemmas.Option.{same_Some}
use Rattle.std.proofs.lemmas.List.{length-set}
use Rattle.std.proofs.Common.{length-append}
use Rattle.rg_cells.specs.declared.cell.Cell.{Cell}
use Rattle.rg_cells.specs.Inner.Layout.{is_free}
use Rattle.rg_cells.specs.Inner.Places.{next_of, told, Lacks, Leads, free_one, frees, FreeList, Taken}
use Rattle.rg_cells.proofs.Lists.{get-same, get-other, get-end, get-before, get-past}

-- of a cell that names the next free place
pub names : (c : Cell) (n : ℕ) → next_of c ≡ Some n → (is_free c.state ≡ true) × (c.number ≡ n)
names c n e = by_state (is_free c.state) c.number n e
  where
    by_state : (b : Bool) (m n : ℕ) → (if b then Some m else None) ≡ Some n → (b ≡ true) × (m ≡ n)
    by_state true m n e = (refl, same_Some m n e)
    by_state false m n e = let no : None ≡ Some n = e in cc

-- a place that names the next free one
pub free_place : (cells : List Cell) (slot n : ℕ) → told next_of cells slot ≡ Some n
    → (c : Cell) × (slice_get cells slot ≡ Some c) × (is_free c.state ≡ true) × (c.number ≡ n)
free_place cells slot n e = by_place (slice_get cells slot) e
  where
    by_place : (o : Option Cell) → option_and_then next_of o ≡ Some n → (c : Cell) × (o ≡ Some c) × (is_free c.state ≡ true) × (c.number ≡ n)
    by_place None e = let no : None ≡ Some n = e in cc
    by_place (Some c) e = let p = names c n e in (c, refl, p.0, p.1)

-- a held cell names none
pub names_none : (cells : List Cell) (slot : ℕ) (c : Cell) → slice_get cells slot ≡ Some c → is_free c.state ≡ false → told next_of cells slot ≡ None
names_none cells slot c e f =
    let s : next_of c ≡ None = ap (λ b. if b then Some c.number else None) f in ap (option_and_then next_of) e ∙ s

lacks-held : (cells : List Cell) (first : ℕ) (list : List ℕ) (slot : ℕ) → told next_of cells slot ≡ None → Leads cells first list → Lacks list slot
lacks-held cells first [] slot e k = tt
lacks-held cells first (x ∷ xs) slot e k =
    let differs : x ≢ slot = λ q. let no : None ≡ Some k.2.0 = sym e ∙ sym (ap (told next_of cells) q) ∙ k.2.1 in cc in
    (differs, lacks-held cells k.2.0 xs slot e k.2.2)

leads-kept : (cells new : List Cell) (first : ℕ) (list : List ℕ) (slot : ℕ) → Lacks list slot
    → ((i : ℕ) → i ≢ slot → slice_get new i ≡ slice_get cells i) → Leads cells first list → Leads new first list
leads-kept cells new first [] slot l h k = tt
leads-kept cells new first (x ∷ xs) slot l h k =
    (k.0, k.1, (k.2.0, ap (option_and_then next_of) (h x l.0) ∙ k.2.1, leads-kept cells new k.2.0 xs slot l.1 h k.2.2))

-- how many are free, after one place is written
frees-set : (cells : List Cell) (slot : ℕ) (c d : Cell) → slice_get cells slot ≡ Some c
    → frees (set cells slot d) + free_one c ≡ frees cells + free_one d
frees-set [] slot c d e = let no : None ≡ Some c = e in cc
frees-set (x ∷ cells) zero c d e =
    let s : free_one x ≡ free_one c = ap free_one (same_Some x c e) in
    omega (arith, s)
frees-set (x ∷ cells) (suc slot) c d e = omega (arith, frees-set cells slot c d e)

frees-end : (cells : List Cell) (c : Cell) → frees (cells ++ c ∷ []) ≡ frees cells + free_one c
frees-end [] c = omega arith
frees-end (x ∷ cells) c = omega (arith, frees-end cells c)

held-one : (c : Cell) → is_free c.state ≡ false → free_one c ≡ 0
held-one c e = let f : Bool → ℕ = λ b. if b then 1 else 0 in ap f e

free-one : (c : Cell) → is_free c.state ≡ true → free_one c ≡ 1
free-one c e = let f : Bool → ℕ = λ b. if b then 1 else 0 in ap f e

-- a held cell is written, and is held
pub free-written : (cells : List Cell) (free vacant slot : ℕ) (c d : Cell) → slice_get cells slot ≡ Some c → is_free c.state ≡ false
    → is_free d.state ≡ false → FreeList cells free vacant → FreeList (set cells slot d) free vacant
free-written cells free vacant slot c d e f g h =
    let lacks = lacks-held cells free h.list slot (names_none cells slot c e f) h.leads in
    let n = frees-set cells slot c d e in
    let p : free_one c ≡ 0 = held-one c f in
    let q : free_one d ≡ 0 = held-one d g in
    record {
      list = h.list;
      leads = leads-kept cells (set cells slot d) free h.list slot lacks (λ i m. get-other cells slot i d m) h.leads;
      many = h.many;
      all = omega (arith, h.all, n, p, q);
    }

-- a held cell is given up
pub free-given : (cells : List Cell) (free vacant slot : ℕ) (c d : Cell) → slice_get cells slot ≡ Some c → is_free c.state ≡ false
    → is_free d.state ≡ true → d.number ≡ free → FreeList cells free vacant → FreeList (set cells slot d) slot (vacant + 1)
free-given cells free vacant slot c d e f g m h =
    let lacks = lacks-held cells free h.list slot (names_none cells slot c e f) h.leads in
    let n = frees-set cells slot c d e in
    let p : free_one c ≡ 0 = held-one c f in
    let q : free_one d ≡ 1 = free-one d g in
    let s : next_of d ≡ Some free = ap (λ b. if b then Some d.number else None) g ∙ ap Some m in
    record {
      list = slot ∷ h.list;
      leads = (
        refl,
        lacks,
        (
          free,
          ap (option_and_then next_of) (get-same cells slot c d e) ∙ s,
          leads-kept cells (set cells slot d) free h.list slot lacks (λ i m. get-other cells slot i d m) h.leads,
        ),
      );
      many = omega (arith, h.many);
      all = omega (arith, h.all, n, p, q);
    }

-- the place that is taken next is free
pub free-first : (cells : List Cell) (free vacant : ℕ) → 0 < vacant → FreeList cells free vacant
    → (c : Cell) × (slice_get cells free ≡ Some c) × (is_free c.state ≡ true)
free-first cells free vacant l h = by_list h.list h.many h.leads
  where
    by_list : (list : List ℕ) → length list ≡ vacant → Leads cells free list → (c : Cell) × (slice_get cells free ≡ Some c) × (is_free c.state ≡ true)
    by_list [] e k = absurd (omega (arith, l, e))
    by_list (x ∷ xs) e k =
        let p = free_place cells x k.2.0 k.2.1 in (p.0, ap (slice_get cells) k.0 ∙ p.1, p.2)

-- it is taken for a held cell, and the one that it named is next
pub free-popped : (cells : List Cell) (free vacant : ℕ) (c d : Cell) → 0 < vacant → slice_get cells free ≡ Some c → is_free d.state ≡ false
    → FreeList cells free vacant → FreeList (set cells free d) c.number (vacant - 1)
free-popped cells free vacant c d l e g h = by_list h.list h.many h.leads
  where
    by_list : (list : List ℕ) → length list ≡ vacant → Leads cells free list → FreeList (set cells free d) c.number (vacant - 1)
    by_list [] m k = absurd (omega (arith, l, m))
    by_list (x ∷ xs) m k =
        let P : ℕ → Type 0 = λ z. Lacks xs z in
        let lacks : Lacks xs free = subst P (sym k.0) k.1 in
        let p = free_place cells x k.2.0 k.2.1 in
        let same : c ≡ p.0 = same_Some c p.0 (sym e ∙ ap (slice_get cells) k.0 ∙ p.1) in
        let number : c.number ≡ k.2.0 = ap (λ (z : Cell). z.number) same ∙ p.3 in
        let f : is_free c.state ≡ true = ap (λ (z : Cell). is_free z.state) same ∙ p.2 in
        let n = frees-set cells free c d e in
        let u : free_one c ≡ 1 = free-one c f in
        let v : free_one d ≡ 0 = held-one d g in
        let Q : ℕ → Type 0 = λ z. Leads (set cells free d) z xs in
        record {
          list = xs;
          leads = subst Q (sym number) (leads-kept cells (set cells free d) k.2.0 xs free lacks (λ i q. get-other cells free i d q) k.2.2);
          many = omega (arith, m);
          all = omega (arith, h.all, n, u, v);
        }

-- a new place is made where none is free
pub free-added : (cells : List Cell) (free : ℕ) (d : Cell) → is_free d.state ≡ false → FreeList cells free 0 → FreeList (cells ++ d ∷ []) free 0
free-added cells free d g h =
    let n = frees-end cells d in
    let v : free_one d ≡ 0 = held-one d g in
    record { list = []; leads = tt; many = refl; all = omega (arith, h.all, n, v) }

-- what was done when a place was taken
pub taken-free : (cells : List Cell) (free vacant : ℕ) (c d : Cell) → 0 < vacant → slice_get cells free ≡ Some c → FreeList cells free vacant
    → Taken cells (set cells free d) vacant free d
taken-free cells free vacant c d l e h =
    let p = free-first cells free vacant l h in
    let s : next_of p.0 ≡ Some p.0.number = ap (λ b. if b then Some p.0.number else None) p.2 in
    record {
      at = get-same cells free c d e;
      others = λ i q. get-other cells free i d q;
      place = inr (l, (p.0.number, ap (option_and_then next_of) p.1 ∙ s), length-set cells free d);
    }

pub taken-new : (cells : List Cell) (d : Cell) → Taken cells (cells ++ d ∷ []) 0 (length cells) d
taken-new cells d = record {
  at = get-end cells d;
  others = λ i q. get-before cells d i q;
  place = inl (refl, get-past cells, length-append cells (d ∷ []));
}

-- the same of what adding a place answers
pub added-list : {E : Type 0} (cells new : List Cell) (free vacant : ℕ) (d : Cell) (r : Result ℕ E) → vacant ≡ 0 → is_free d.state ≡ false
    → IfOk r (λ slot. (slot ≡ length cells) × (new ≡ cells ++ d ∷ [])) → OnErr r (new ≡ cells) → FreeList cells free vacant
    → FreeList new free vacant
added-list cells new free vacant d (Ok slot) z f ok err h =
    let P : ℕ → Type 0 = λ v. FreeList cells free v in
    let Q : ℕ → Type 0 = λ v. FreeList new free v in
    let R : List Cell → Type 0 = λ xs. FreeList xs free 0 in
    subst Q (sym z) (subst R (sym ok.1) (free-added cells free d f (subst P z h)))
added-list cells new free vacant d (Err e) z f ok err h = let R : List Cell → Type 0 = λ xs. FreeList xs free vacant in subst R (sym err) h

pub added-ok : {E : Type 0} (cells new : List Cell) (vacant : ℕ) (d : Cell) (r : Result ℕ E) → vacant ≡ 0
    → IfOk r (λ slot. (slot ≡ length cells) × (new ≡ cells ++ d ∷ [])) → IfOk r (λ slot. Taken cells new vacant slot d)
added-ok cells new vacant d (Ok slot) z ok =
    let R : List Cell → Type 0 = λ xs. Taken cells xs 0 slot d in
    let S : ℕ → Type 0 = λ s. Taken cells (cells ++ d ∷ []) 0 s d in
    let V : ℕ → Type 0 = λ v. Taken cells new v slot d in
    subst V (sym z) (subst R (sym ok.1) (subst S (sym ok.0) (taken-new cells d)))
added-ok cells new vacant d (Err e) z ok = ok
