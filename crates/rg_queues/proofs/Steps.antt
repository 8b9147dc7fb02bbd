-- What is written at cowns, and one behaviour more.
use Rattle.std.proofs.Common.{◌≡◌, ℕ, zero, suc, ◌+◌, ◌<◌, ◌≤◌, ◌⊎◌, inl, inr, Bool, true, false, ◌||◌, ◌==◌, List, [], ◌∷◌, ◌++◌, length}
use Rattle.std.proofs.Common.{take, drop, map, filter_map, Option, Some, None, unwrap_or, slice_get, get_or, set, All, refl, sym, ap, ◌∙◌, subst}
use Rattle.std.proofs.Common.{arith}
use Rattle.std.specs.Prelude.{if◌then◌else◌}
use Rattle.std.specs.List.{cons_option}
use Rattle.std.proofs.lemmas.Bool.Decides.{nat_tests}
use Rattle.std.proofs.lemmas.Grind.{get_or_default_zero}
use Rattle.std.proofs.lemmas.List.{length-set, get_or-set_same, get_or-set_other, drop_more}
use Rattle.rg_queues.specs.Queues.{names, last_over, right_in_front, QueuesIn, AreQueues}
use Rattle.rg_queues.specs.Inner.Written.{written}
use Rattle.rg_queues.proofs.LastOnes.{last-push}

-- Lists

-- a place that holds nothing, behind all others
pub get-none : (xs : List (Option ℕ)) (n : ℕ) → get_or (xs ++ None ∷ []) n None ≡ get_or xs n None
get-none [] zero = refl
get-none [] (suc n) = refl
get-none (x ∷ xs) zero = refl
get-none (x ∷ xs) (suc n) = get-none xs n

get-set : (xs : List (Option ℕ)) (m n : ℕ) (x : Option ℕ) → m < length xs → get_or (set xs m x) n None ≡ (if m == n then x else get_or xs n None)
get-set xs m n x l = by (m == n) refl
  where
    here : (m == n) ≡ true → m ≡ n
    here e = grind (arith, nat_tests)

    there : (m == n) ≡ false → n ≡ m → ⊥
    there e q = grind (arith, nat_tests)

    by : (b : Bool) → (m == n) ≡ b → get_or (set xs m x) n None ≡ (if b then x else get_or xs n None)
    by true e = ap (λ k. get_or (set xs m x) k None) (sym (here e)) ∙ get_or-set_same xs m x None l
    by false e = get_or-set_other xs m n x None (there e)

pub take-front : {X : Type 0} → (xs ys : List X) (i : ℕ) → i ≤ length xs → take i (xs ++ ys) ≡ take i xs
take-front [] ys zero l = refl
take-front [] ys (suc i) l = absurd (omega (arith, l))
take-front (x ∷ xs) ys zero l = refl
take-front (x ∷ xs) ys (suc i) l = ap (λ z. x ∷ z) (take-front xs ys i (omega (arith, l)))

take-all : {X : Type 0} → (xs : List X) → take (length xs) xs ≡ xs
take-all [] = refl
take-all (x ∷ xs) = ap (λ z. x ∷ z) (take-all xs)

at-front : {X : Type 0} → (xs ys : List X) (i : ℕ) (x : X) → slice_get xs i ≡ Some x → slice_get (xs ++ ys) i ≡ Some x
at-front [] ys i x e = absurd (cc)
at-front (y ∷ xs) ys zero x e = e
at-front (y ∷ xs) ys (suc i) x e = at-front xs ys i x e

at-end : {X : Type 0} → (xs : List X) (x : X) → slice_get (xs ++ x ∷ []) (length xs) ≡ Some x
at-end [] x = refl
at-end (y ∷ xs) x = at-end xs x

some_is : {A : Type 0} → (a b : A) → Some a ≡ Some b → a ≡ b
some_is a b e = ap (λ o. unwrap_or o a) e

-- a place of a list that has one more is one in front, or the last
pushed-at : {X : Type 0} → (xs : List X) (x y : X) (i : ℕ) → slice_get (xs ++ x ∷ []) i ≡ Some y
    → ((i < length xs) × (slice_get xs i ≡ Some y)) ⊎ ((i ≡ length xs) × (x ≡ y))
pushed-at [] x y zero e = inr (refl, some_is x y e)
pushed-at [] x y (suc i) e = absurd (cc)
pushed-at (z ∷ xs) x y zero e = inl (omega arith, e)
pushed-at (z ∷ xs) x y (suc i) e = up (pushed-at xs x y i e)
  where
    up : ((i < length xs) × (slice_get xs i ≡ Some y)) ⊎ ((i ≡ length xs) × (x ≡ y))
        → ((suc i < length (z ∷ xs)) × (slice_get xs i ≡ Some y)) ⊎ ((suc i ≡ length (z ∷ xs)) × (x ≡ y))
    up (inl h) = inl (omega (arith, h.0), h.1)
    up (inr h) = inr (ap suc h.0, h.1)

length-push : {X : Type 0} → (xs : List X) (x : X) → length (xs ++ x ∷ []) ≡ suc (length xs)
length-push [] x = refl
length-push (y ∷ xs) x = ap suc (length-push xs x)

pub map-push : {X Y : Type 0} → (f : X → Y) (xs : List X) (x : X) → map f (xs ++ x ∷ []) ≡ map f xs ++ f x ∷ []
map-push f [] x = refl
map-push f (y ∷ xs) x = ap (λ z. f y ∷ z) (map-push f xs x)

filter-alike : (f g : ℕ → Option ℕ) (ns : List ℕ) → ((n : ℕ) → f n ≡ g n) → filter_map f ns ≡ filter_map g ns
filter-alike f g [] same = refl
filter-alike f g (n ∷ ns) same = ap (λ o. cons_option o (filter_map f ns)) (same n) ∙ ap (cons_option (g n)) (filter-alike f g ns same)

-- Room for what is written at cowns

pub room-next : (cowns : List ℕ) (i a b : ℕ) → a ≤ b → get_or cowns i 0 < b → ((k : ℕ) → k < i → get_or cowns k 0 < a) → (k : ℕ) → k < i + 1
    → get_or cowns k 0 < b
room-next cowns i a b m g h k l = by (k == i) refl
  where
    here : (k == i) ≡ true → k ≡ i
    here e = grind (arith, nat_tests)

    there : (k == i) ≡ false → k < i
    there e = grind (arith, nat_tests)

    by : (z : Bool) → (k == i) ≡ z → get_or cowns k 0 < b
    by true e = subst (λ j. get_or cowns j 0 < b) (sym (here e)) g
    by false e = let r = h k (there e) in omega (arith, r, m)

pub room-end : (cowns : List ℕ) (i a : ℕ) → length cowns ≤ i → ((k : ℕ) → k < i → get_or cowns k 0 < a) → All (λ n. n < a) cowns
room-end cowns i a l h k d within =
    subst (λ n. n < a) (sym (get_or_default_zero cowns k d within)) (h k (omega (arith, within, l)))

-- What is found at cowns, one after another

-- so far this was found
pub found-some : (last : List (Option ℕ)) (cowns : List ℕ) (i k : ℕ) (found new : List ℕ) → i < length cowns
    → get_or last (get_or cowns i 0) None ≡ Some k → new ≡ found ++ k ∷ []
    → found ++ filter_map (λ n. get_or last n None) (drop i cowns) ≡ filter_map (λ n. get_or last n None) cowns
    → new ++ filter_map (λ n. get_or last n None) (drop (i + 1) cowns) ≡ filter_map (λ n. get_or last n None) cowns
found-some last cowns i k found new l at grown h =
    let f : ℕ → Option ℕ = λ n. get_or last n None in
    ap (λ z. z ++ filter_map f (drop (i + 1) cowns)) grown ∙ regroup found k (filter_map f (drop (i + 1) cowns))
    ∙ ap (λ z. found ++ z) (sym (ap (filter_map f) (drop_more cowns i 0 l) ∙ ap (λ o. cons_option o (filter_map f (drop (i + 1) cowns))) at)) ∙ h
  where
    regroup : (xs : List ℕ) (x : ℕ) (ys : List ℕ) → (xs ++ x ∷ []) ++ ys ≡ xs ++ x ∷ ys
    regroup [] x ys = refl
    regroup (z ∷ xs) x ys = ap (λ w. z ∷ w) (regroup xs x ys)

drop-past : {X : Type 0} → (xs : List X) (k : ℕ) → length xs ≤ k → drop k xs ≡ []
drop-past [] zero l = refl
drop-past [] (suc k) l = refl
drop-past (x ∷ xs) zero l = absurd (omega (arith, l))
drop-past (x ∷ xs) (suc k) l = drop-past xs k (omega (arith, l))

right-nil : {X : Type 0} → (xs : List X) → xs ++ [] ≡ xs
right-nil [] = refl
right-nil (x ∷ xs) = ap (λ z. x ∷ z) (right-nil xs)

pub found-end : (last : List (Option ℕ)) (cowns : List ℕ) (i : ℕ) (found : List ℕ) → length cowns ≤ i
    → found ++ filter_map (λ n. get_or last n None) (drop i cowns) ≡ filter_map (λ n. get_or last n None) cowns
    → found ≡ filter_map (λ n. get_or last n None) cowns
found-end last cowns i found l h =
    sym (right-nil found) ∙ ap (λ z. found ++ filter_map (λ n. get_or last n None) z) (sym (drop-past cowns i l)) ∙ h

-- What is written at cowns, one after another

pub written-next : (cowns : List ℕ) (i k : ℕ) (xs old : List (Option ℕ)) → i < length cowns
    → written (drop i cowns) k xs ≡ written cowns k old
    → written (drop (i + 1) cowns) k (set xs (get_or cowns i 0) (Some k)) ≡ written cowns k old
written-next cowns i k xs old l h = ap (λ z. written z k xs) (sym (drop_more cowns i 0 l)) ∙ h

pub written-end : (cowns : List ℕ) (i k : ℕ) (xs old : List (Option ℕ)) → length cowns ≤ i → written (drop i cowns) k xs ≡ written cowns k old
    → xs ≡ written cowns k old
written-end cowns i k xs old l h = ap (λ z. written z k xs) (sym (drop-past cowns i l)) ∙ h

pub written-at : (ns : List ℕ) (k : ℕ) (xs : List (Option ℕ)) (n : ℕ) → All (λ m. m < length xs) ns
    → get_or (written ns k xs) n None ≡ (if names ns n then Some k else get_or xs n None)
written-at [] k xs n all = refl
written-at (m ∷ ns) k xs n all =
    let same = length-set xs m (Some k) in
    written-at ns k (set xs m (Some k)) n (λ p d l. subst (λ z. get_or ns p d < z) (sym same) (all (suc p) d (omega (arith, l))))
    ∙ ap (λ z. if names ns n then Some k else z) (get-set xs m n (Some k) (all 0 m (omega arith)))
    ∙ by (m == n) (names ns n)
  where
    by : (a b : Bool) → (if b then Some k else (if a then Some k else get_or xs n None)) ≡ (if a || b then Some k else get_or xs n None)
    by true true = refl
    by true false = refl
    by false true = refl
    by false false = refl

-- One behaviour more

pub added : (all : List (List ℕ)) (ns : List ℕ) (old new : QueuesIn) (room : List (Option ℕ)) (front : List ℕ) → AreQueues all old
    → ((n : ℕ) → get_or room n None ≡ get_or old.last n None) → All (λ n. n < length room) ns
    → front ≡ filter_map (λ n. get_or room n None) ns → new.in_front ≡ old.in_front ++ front ∷ []
    → new.last ≡ written ns (length old.in_front) room → AreQueues (all ++ ns ∷ []) new
added all ns old new room front h same within front-is grown written-is = record {
  many = ap length grown ∙ length-push old.in_front front ∙ ap suc h.many ∙ sym (length-push all ns);
  in_front = λ i ms at. by i ms (pushed-at all ns ms i at);
  last = λ n. ap (λ z. get_or z n None) written-is ∙ written-at ns (length old.in_front) room n within
      ∙ ap (λ k. if names ns n then Some k else get_or room n None) h.many
      ∙ ap (λ z. if names ns n then Some (length all) else z) (same n ∙ h.last n) ∙ sym (last-push all ns n);
}
  where
    front-all : front ≡ right_in_front all ns
    front-all = front-is ∙ filter-alike (λ n. get_or room n None) (last_over all) ns (λ n. same n ∙ h.last n)

    end-is : slice_get (old.in_front ++ front ∷ []) (length all) ≡ Some front
    end-is = ap (slice_get (old.in_front ++ front ∷ [])) (sym h.many) ∙ at-end old.in_front front

    by : (i : ℕ) (ms : List ℕ) → ((i < length all) × (slice_get all i ≡ Some ms)) ⊎ ((i ≡ length all) × (ns ≡ ms))
        → slice_get new.in_front i ≡ Some (right_in_front (take i (all ++ ns ∷ [])) ms)
    by i ms (inl e) =
        let before : i ≤ length all = omega (arith, e.0) in
        ap (λ z. slice_get z i) grown ∙ at-front old.in_front (front ∷ []) i _ (h.in_front i ms e.1)
        ∙ ap (λ z. Some (right_in_front z ms)) (sym (take-front all (ns ∷ []) i before))
    by i ms (inr e) =
        let most : length all ≤ length all = omega arith in
        ap (λ z. slice_get z i) grown ∙ ap (slice_get (old.in_front ++ front ∷ [])) e.0 ∙ end-is ∙ ap Some front-all
        ∙ ap (λ z. Some (right_in_front z ns)) (sym (take-front all (ns ∷ []) (length all) most ∙ take-all all))
        ∙ ap (λ k. Some (right_in_front (take k (all ++ ns ∷ [])) ns)) (sym e.0)
        ∙ ap (λ z. Some (right_in_front (take i (all ++ ns ∷ [])) z)) e.1
