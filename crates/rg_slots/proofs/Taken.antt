-- Contents that are taken from cowns, and put there, one after another.
use Rattle.std.proofs.Common.{◌≡◌, ℕ, zero, suc, ◌+◌, ◌<◌, inl, inr, List, [], ◌∷◌, ◌++◌, length, get_or, set, map, drop, append_assoc, Option, Some}
use Rattle.std.proofs.Common.{None, unwrap_or, All, refl, sym, ap, ◌∙◌, subst, arith}
use Rattle.std.specs.declared.vec.IntoIter.{IntoIter}
use Rattle.std.specs.Vec.Iter.{into_iter_items, into_iter_len, into_iter_steps}
use Rattle.std.proofs.lemmas.List.{drop_more, get_or-set_other, length-set, map-set, map-append}
use Rattle.rg_sched_atomic.specs.Numbers.{In, Distinct}
use Rattle.rg_sched_atomic.specs.Contents.{Content, Away, Empty, contents_at, put}
use Rattle.rg_slots.specs.declared.slot.Slot.{Slot}
use Rattle.rg_slots.specs.declared.slot.Slot.TheVariants as slot
use Rattle.rg_slots.specs.Slots.{content_in}

at-map : (slots : List Slot) (n : ℕ) (d : Slot) → n < length slots → get_or (map content_in slots) n Empty ≡ content_in (get_or slots n d)
at-map [] n d l = absurd (omega (arith, l))
at-map (s ∷ slots) zero d l = refl
at-map (s ∷ slots) (suc n) d l = at-map slots n d (omega (arith, l))

-- a cown that isn't among some has what it has, whatever these get
at-other : (ns : List ℕ) (cs : List Content) (n : ℕ) (c : Content) → (In ns n → ⊥) → contents_at (set cs n c) ns ≡ contents_at cs ns
at-other [] cs n c out = refl
at-other (m ∷ ns) cs n c out =
    ap (λ z. z ∷ contents_at (set cs n c) ns) (get_or-set_other cs n m c Empty (λ e. out (inl (sym e))))
    ∙ ap (λ z. get_or cs m Empty ∷ z) (at-other ns cs n c (λ a. out (inr a)))

-- so far the contents of some cowns were taken, and those of the rest are still there
pub record Taken (cowns : List ℕ) (all : List Content) (rest : List ℕ) (taken slots : List Slot) : Type 0 where
  pub taken_are : map content_in taken ++ contents_at (map content_in slots) rest ≡ contents_at all cowns
  pub put_is : put rest (map (λ n. Away) rest) (map content_in slots) ≡ put cowns (map (λ n. Away) cowns) all
  pub distinct : Distinct rest
  pub many : length slots ≡ length all

pub take-next : (cowns : List ℕ) (all : List Content) (n : ℕ) (ns : List ℕ) (taken slots : List Slot) (d : Slot) → n < length slots
    → Taken cowns all (n ∷ ns) taken slots → Taken cowns all ns (taken ++ get_or slots n d ∷ []) (set slots n slot.Away)
take-next cowns all n ns taken slots d l h = record {
  taken_are =
      ap (λ z. map content_in (taken ++ x ∷ []) ++ z) (ap (λ cs. contents_at cs ns) written ∙ at-other ns (map content_in slots) n Away h.distinct.0)
      ∙ ap (λ z. z ++ contents_at (map content_in slots) ns) (map-append content_in taken (x ∷ []))
      ∙ append_assoc (map content_in taken) (content_in x ∷ []) (contents_at (map content_in slots) ns)
      ∙ ap (λ z. map content_in taken ++ z ∷ contents_at (map content_in slots) ns) (sym (at-map slots n d l))
      ∙ h.taken_are;
  put_is = ap (put ns (map (λ n. Away) ns)) written ∙ h.put_is;
  distinct = h.distinct.1;
  many = length-set slots n slot.Away ∙ h.many;
}
  where
    x : Slot
    x = get_or slots n d

    written : map content_in (set slots n slot.Away) ≡ set (map content_in slots) n Away
    written = map-set content_in slots n slot.Away

-- so far contents were put at some cowns
pub record Put (cowns : List ℕ) (all : List Slot) (old : List Content) (rest : List ℕ) (left slots : List Slot) : Type 0 where
  pub put_is : put rest (map content_in left) (map content_in slots) ≡ put cowns (map content_in all) old
  pub many : length slots ≡ length old

pub put-next : (cowns : List ℕ) (all : List Slot) (old : List Content) (n : ℕ) (ns : List ℕ) (x : Slot) (left slots : List Slot)
    → Put cowns all old (n ∷ ns) (x ∷ left) slots → Put cowns all old ns left (set slots n x)
put-next cowns all old n ns x left slots h = record {
  put_is = ap (put ns (map content_in left)) (map-set content_in slots n x) ∙ h.put_is;
  many = length-set slots n x ∙ h.many;
}

pub put-none : (cowns : List ℕ) (all : List Slot) (old : List Content) (n : ℕ) (ns : List ℕ) (slots : List Slot)
    → Put cowns all old (n ∷ ns) [] slots → Put cowns all old ns [] (set slots n slot.Empty)
put-none cowns all old n ns slots h = record {
  put_is = ap (put ns []) (map-set content_in slots n slot.Empty) ∙ h.put_is;
  many = length-set slots n slot.Empty ∙ h.many;
}

-- one step of the loops

pub take-step : (cowns : List ℕ) (all : List Content) (k : ℕ) (taken slots new : List Slot) (x d y : Slot) → k < length cowns
    → Taken cowns all (drop k cowns) taken slots → All (λ n. n < length all) cowns → new ≡ taken ++ x ∷ []
    → x ≡ get_or slots (get_or cowns k 0) d → y ≡ slot.Away → Taken cowns all (drop (k + 1) cowns) new (set slots (get_or cowns k 0) y)
take-step cowns all k taken slots new x d y l h below more is away =
    let n = get_or cowns k 0 in
    let first = subst (λ z. Taken cowns all z taken slots) (drop_more cowns k 0 l) h in
    let within : n < length slots = subst (λ z. n < z) (sym h.many) (below k 0 l) in
    let one = take-next cowns all n (drop (k + 1) cowns) taken slots d within first in
    let two = subst (λ z. Taken cowns all (drop (k + 1) cowns) (taken ++ z ∷ []) (set slots n slot.Away)) (sym is) one in
    let three = subst (λ z. Taken cowns all (drop (k + 1) cowns) z (set slots n slot.Away)) (sym more) two in
    subst (λ z. Taken cowns all (drop (k + 1) cowns) new (set slots n z)) (sym away) three

-- what is next, and what is left behind it
abbrev pub Next : {X : Type 0} → (left : List X) → Option X → (new : List X) → Type 0
Next left None new = (left ≡ []) × (new ≡ [])
Next left (Some x) new = left ≡ x ∷ new

empty-is : {X : Type 0} → (xs : List X) → length xs ≡ 0 → xs ≡ []
empty-is [] e = refl
empty-is (x ∷ xs) e = absurd (omega (arith, e))

pub next-is : {X Z : Type 0} → (s t : IntoIter X Z) (o : Option X) → into_iter_len s ≡ length (into_iter_items s)
    → into_iter_len t ≡ length (into_iter_items t) → into_iter_steps s o t → Next (into_iter_items s) o (into_iter_items t)
next-is s t None p q h = (empty-is (into_iter_items s) (sym p ∙ h.0), empty-is (into_iter_items t) (sym q ∙ h.1))
next-is s t (Some x) p q h = h.0

pub put-step : (cowns : List ℕ) (all : List Slot) (old : List Content) (k : ℕ) (left new slots : List Slot) (o : Option Slot) (y : Slot) →
    k < length cowns
    → Put cowns all old (drop k cowns) left slots → Next left o new → y ≡ unwrap_or o slot.Empty
    → Put cowns all old (drop (k + 1) cowns) new (set slots (get_or cowns k 0) y)
put-step cowns all old k left new slots None y l h next is =
    let n = get_or cowns k 0 in
    let first = subst (λ z. Put cowns all old z left slots) (drop_more cowns k 0 l) h in
    let none = subst (λ z. Put cowns all old (n ∷ drop (k + 1) cowns) z slots) next.0 first in
    let one = subst (λ z. Put cowns all old (drop (k + 1) cowns) z (set slots n slot.Empty)) (sym next.1)
    (put-none cowns all old n (drop (k + 1) cowns) slots none) in
    subst (λ z. Put cowns all old (drop (k + 1) cowns) new (set slots n z)) (sym is) one
put-step cowns all old k left new slots (Some x) y l h next is =
    let n = get_or cowns k 0 in
    let first = subst (λ z. Put cowns all old z left slots) (drop_more cowns k 0 l) h in
    let some = subst (λ z. Put cowns all old (n ∷ drop (k + 1) cowns) z slots) next first in
    subst (λ z. Put cowns all old (drop (k + 1) cowns) new (set slots n z)) (sym is) (put-next cowns all old n (drop (k + 1) cowns) x new slots some)
