-- What the table shows after two cells change places, for crates that move cells (docs/architecture.md, "Cells").
use Rattle.std.proofs.Common.{◌≡◌, ◌≢◌, ℕ, ◌+◌, ◌<◌, ◌==◌, zero, suc, List, [], ◌∷◌, length, Option, Some, None, IsSome, get_or, set, refl}
use Rattle.std.proofs.Common.{ap, sym, ◌∙◌, subst, arith, cond, if◌then◌else◌, inl, inr, is_some, true, count_by}
use Rattle.std.proofs.lemmas.List.{get_or-set_same, get_or-set_other, length-set}
use Rattle.std.proofs.lemmas.List.Sums.{sum_by-cons}
use Rattle.std.proofs.lemmas.Bool.{cases_eq}
use Rattle.std.proofs.lemmas.Bool.Decides.{eqb_tells}
use Rattle.rg_cells.specs.declared.cell.Body.{Body}
use Rattle.rg_cells.specs.Table.{Heap, Table, body_in, body_at, IsHeld, mark_at, link_at, total}
use Rattle.rg_cells.specs.Table.{high_of, Serials, traded, exchanged}
use Rattle.rg_cells.proofs.Totals.{total-set}

-- the slot whose cell a slot has after the cells at two slots change places
abbrev pub partner : (a b slot : ℕ) → ℕ
partner a b s = if s == a then b else if s == b then a else s

pub partner_first : (a b : ℕ) → partner a b a ≡ b
partner_first a b = elim (eqb_tells a a) [ inl e ↦ rw e.0 refl | inr e ↦ absurd (e.1 refl) ]

pub partner_second : (a b : ℕ) → partner a b b ≡ a
partner_second a b = elim (eqb_tells b a) [
  | inl e ↦ rw e.0 e.1
  | inr e ↦ elim (eqb_tells b b) [ inl f ↦ rw (e.0, f.0) refl | inr f ↦ absurd (f.1 refl) ]
]

pub partner_other : (a b s : ℕ) → s ≢ a → s ≢ b → partner a b s ≡ s
partner_other a b s d e = elim (eqb_tells s a) [
  | inl p ↦ absurd (d p.1)
  | inr p ↦ elim (eqb_tells s b) [ inl q ↦ absurd (e q.1) | inr q ↦ rw (p.0, q.0) refl ]
]

-- where a property holds of both slots and of a third one, it holds of each one's partner
pub by_partner : (P : ℕ → ℕ → Type 0) (a b : ℕ) → P a b → P b a → ((s : ℕ) → s ≢ a → s ≢ b → P s s) → (s : ℕ) → P s (partner a b s)
by_partner P a b first second other s = elim (cases_eq s a) [
  | inl e ↦
      let Q : ℕ → Type 0 = λ z. P z (partner a b z) in
      let R : ℕ → Type 0 = λ z. P a z in
      subst Q (sym e) (subst R (sym (partner_first a b)) first)
  | inr d ↦ elim (cases_eq s b) [
    | inl e ↦
        let Q : ℕ → Type 0 = λ z. P z (partner a b z) in
        let R : ℕ → Type 0 = λ z. P b z in
        subst Q (sym e) (subst R (sym (partner_second a b)) second)
    | inr e ↦ let R : ℕ → Type 0 = λ z. P s z in subst R (sym (partner_other a b s d e)) (other s d e)
  ]
]

pub partner_back : (a b s : ℕ) → partner a b (partner a b s) ≡ s
partner_back a b s =
    by_partner (λ x y. partner a b y ≡ x) a b (partner_second a b) (partner_first a b) (λ z d e. partner_other a b z d e) s

-- different slots have different partners
pub partner_once : (a b s z : ℕ) → partner a b s ≡ partner a b z → s ≡ z
partner_once a b s z e = sym (partner_back a b s) ∙ ap (partner a b) e ∙ partner_back a b z

module _ {X : Type 0} (d : X) (xs : List X) (a b : ℕ) where
  pub traded_length : length (traded d xs a b) ≡ length xs
  traded_length = length-set (set xs a (get_or xs b d)) b (get_or xs a d) ∙ length-set xs a (get_or xs b d)

  pub traded_other : (k : ℕ) → k ≢ a → k ≢ b → get_or (traded d xs a b) k d ≡ get_or xs k d
  traded_other k p q = get_or-set_other (set xs a (get_or xs b d)) b k (get_or xs a d) d q ∙ get_or-set_other xs a k (get_or xs b d) d p

  pub traded_second : b < length xs → get_or (traded d xs a b) b d ≡ get_or xs a d
  traded_second m = get_or-set_same (set xs a (get_or xs b d)) b (get_or xs a d) d (omega (arith, m, length-set xs a (get_or xs b d)))

  pub traded_first : a < length xs → b < length xs → get_or (traded d xs a b) a d ≡ get_or xs b d
  traded_first l m = elim (cases_eq a b) [
    | inl e ↦
        let P : ℕ → Type 0 = λ z. get_or (traded d xs a b) z d ≡ get_or xs a d in
        subst P (sym e) (traded_second m) ∙ ap (λ z. get_or xs z d) e
    | inr p ↦ get_or-set_other (set xs a (get_or xs b d)) b a (get_or xs a d) d p ∙ get_or-set_same xs a (get_or xs b d) d l
  ]

  -- each place has what stood at its partner
  pub traded_at : a < length xs → b < length xs → (k : ℕ) → get_or (traded d xs a b) k d ≡ get_or xs (partner a b k) d
  traded_at l m k = by_partner (λ x y. get_or (traded d xs a b) x d ≡ get_or xs y d) a b (traded_first l m) (traded_second m) traded_other k

-- a held slot is one of those that are shown
pub held_within : (h : Heap) (slot : ℕ) → IsHeld h slot → slot < length h.slots
held_within h slot s = by_list h.slots slot s
  where
    by_list : (xs : List (Option (Option Body))) (k : ℕ) → IsSome (body_in (get_or xs k None)) → k < length xs
    by_list [] k e = cc
    by_list (x ∷ xs) zero e = omega arith
    by_list (x ∷ xs) (suc k) e = omega (arith, by_list xs k e)

-- weights of the slots together stay
pub total_traded : (f : Option Body → ℕ) (xs : List (Option (Option Body))) (a b : ℕ) → a < length xs → b < length xs
    → total f (traded None xs a b) ≡ total f xs
total_traded f xs a b l m =
    let ys : List (Option (Option Body)) = set xs a (get_or xs b None) in
    let same : get_or ys b None ≡ get_or xs b None = elim (cases_eq b a) [
      | inl e ↦ ap (λ z. get_or ys z None) e ∙ get_or-set_same xs a (get_or xs b None) None l
      | inr d ↦ get_or-set_other xs a b (get_or xs b None) None d
    ] in
    let p : total f ys + f (body_in (get_or xs a None)) ≡ total f xs + f (body_in (get_or xs b None)) =
    total-set f xs a (get_or xs b None) (get_or xs a None) l refl in
    let q : total f (traded None xs a b) + f (body_in (get_or xs b None)) ≡ total f ys + f (body_in (get_or xs a None)) =
    total-set f ys b (get_or xs a None) (get_or xs b None) (omega (arith, m, length-set xs a (get_or xs b None))) same in
    omega (arith, p, q)

-- how many places there are stays where a place is written
count-set : (xs : List (Option (Option Body))) (k : ℕ) (v old : Option (Option Body)) → get_or xs k None ≡ old → is_some v ≡ is_some old
    → count_by is_some (set xs k v) ≡ count_by is_some xs
count-set [] k v old e s = refl
count-set (x ∷ xs) zero v old e s =
    let t : is_some v ≡ is_some x = s ∙ ap is_some (sym e) in
    sum_by-cons (λ o. cond (is_some o) 1 0) v xs ∙ ap (λ b. cond b 1 0 + count_by is_some xs) t
    ∙ sym (sum_by-cons (λ o. cond (is_some o) 1 0) x xs)
count-set (x ∷ xs) (suc k) v old e s =
    let ih : count_by is_some (set xs k v) ≡ count_by is_some xs = count-set xs k v old e s in
    sum_by-cons (λ o. cond (is_some o) 1 0) x (set xs k v) ∙ ap (λ n. cond (is_some x) 1 0 + n) ih
    ∙ sym (sum_by-cons (λ o. cond (is_some o) 1 0) x xs)

there : (o : Option (Option Body)) → IsSome (body_in o) → is_some o ≡ true
there None h = cc
there (Some x) h = refl

-- The cells at two held slots change places.
module _ (t : Table) (a b : ℕ) (p : IsHeld t.heap a) (q : IsHeld t.heap b) where
  first_in : a < length t.heap.slots
  first_in = held_within t.heap a p

  second_in : b < length t.heap.slots
  second_in = held_within t.heap b q

  -- what each slot shows is what its partner showed
  pub slot_exchanged : (s : ℕ) → get_or (exchanged t a b).heap.slots s None ≡ get_or t.heap.slots (partner a b s) None
  slot_exchanged s = traded_at None t.heap.slots a b first_in second_in s

  pub body_exchanged : (s : ℕ) → body_at (exchanged t a b).heap s ≡ body_at t.heap (partner a b s)
  body_exchanged s = ap body_in (slot_exchanged s)

  pub mark_exchanged : a < length t.marks → b < length t.marks → (s : ℕ) → mark_at (exchanged t a b) s ≡ mark_at t (partner a b s)
  mark_exchanged l m s = traded_at 0 t.marks a b l m s

  pub link_exchanged : a < length t.links → b < length t.links → (s : ℕ) → link_at (exchanged t a b) s ≡ link_at t (partner a b s)
  link_exchanged l m s = traded_at None t.links a b l m s

  -- and so at the two slots, and at each other one
  pub body_first : body_at (exchanged t a b).heap a ≡ body_at t.heap b
  body_first = ap body_in (traded_first None t.heap.slots a b first_in second_in)

  pub body_second : body_at (exchanged t a b).heap b ≡ body_at t.heap a
  body_second = ap body_in (traded_second None t.heap.slots a b second_in)

  pub body_other : (s : ℕ) → s ≢ a → s ≢ b → body_at (exchanged t a b).heap s ≡ body_at t.heap s
  body_other s d e = ap body_in (traded_other None t.heap.slots a b s d e)

  pub held_first : IsHeld (exchanged t a b).heap a
  held_first = let P : Option Body → Type 0 = λ o. IsSome o in subst P (sym body_first) q

  pub held_second : IsHeld (exchanged t a b).heap b
  held_second = let P : Option Body → Type 0 = λ o. IsSome o in subst P (sym body_second) p

  -- counts stay
  pub total_exchanged : (f : Option Body → ℕ) → total f (exchanged t a b).heap.slots ≡ total f t.heap.slots
  total_exchanged f = total_traded f t.heap.slots a b first_in second_in

  pub high_exchanged : high_of (exchanged t a b).heap ≡ high_of t.heap
  high_exchanged =
      let xs = t.heap.slots in
      let ys : List (Option (Option Body)) = set xs a (get_or xs b None) in
      let x : is_some (get_or xs a None) ≡ true = there (get_or xs a None) p in
      let y : is_some (get_or xs b None) ≡ true = there (get_or xs b None) q in
      let same : get_or ys b None ≡ get_or xs b None = elim (cases_eq b a) [
        | inl e ↦ ap (λ z. get_or ys z None) e ∙ get_or-set_same xs a (get_or xs b None) None first_in
        | inr d ↦ get_or-set_other xs a b (get_or xs b None) None d
      ] in
      count-set ys b (get_or xs a None) (get_or xs b None) same (x ∙ sym y)
      ∙ count-set xs a (get_or xs b None) (get_or xs a None) refl (y ∙ sym x)

  -- serials stay below the next one, and differ
  pub serials_exchanged : Serials t.heap → Serials (exchanged t a b).heap
  serials_exchanged h = record {
    below = λ s x e. h.below (partner a b s) x (sym (body_exchanged s) ∙ e);
    differ = λ s z x y e f g.
        partner_once a b s z (h.differ (partner a b s) (partner a b z) x y (sym (body_exchanged s) ∙ e) (sym (body_exchanged z) ∙ f) g);
  }
