-- Numbers in lists, and lists that are written at some places.
use Rattle.std.proofs.Common.{◌≡◌, ◌≢◌, ℕ, zero, suc, ◌<◌, ◌⊎◌, inl, inr, List, [], ◌∷◌, ◌++◌, length, get_or, set, refl, sym, ap, ◌∙◌, subst, arith}
use Rattle.std.proofs.lemmas.List.{get_or-set_other, set-set}
use Rattle.rg_sched_atomic.specs.Numbers.{In, Distinct}
use Rattle.rg_sched_atomic.specs.Contents.{Content, Empty, first_of, rest_of, put, contents_at}

-- no number stands in both lists
abbrev pub Apart : List ℕ → List ℕ → Type 0
Apart ns ms = (n : ℕ) → In ns n → In ms n → ⊥

pub apart_sym : (ns ms : List ℕ) → Apart ns ms → Apart ms ns
apart_sym ns ms a n x y = a n y x

-- Lists that are joined

pub in_front : (xs ys : List ℕ) (n : ℕ) → In xs n → In (xs ++ ys) n
in_front [] ys n h = absurd h
in_front (x ∷ xs) ys n (inl e) = inl e
in_front (x ∷ xs) ys n (inr h) = inr (in_front xs ys n h)

pub in_back : (xs ys : List ℕ) (n : ℕ) → In ys n → In (xs ++ ys) n
in_back [] ys n h = h
in_back (x ∷ xs) ys n h = inr (in_back xs ys n h)

pub in_either : (xs ys : List ℕ) (n : ℕ) → In (xs ++ ys) n → In xs n ⊎ In ys n
in_either [] ys n h = inr h
in_either (x ∷ xs) ys n (inl e) = inl (inl e)
in_either (x ∷ xs) ys n (inr h) = by (in_either xs ys n h)
  where
    by : In xs n ⊎ In ys n → In (x ∷ xs) n ⊎ In ys n
    by (inl a) = inl (inr a)
    by (inr b) = inr b

-- what stands in front of a number in a list, and behind it
pub record Around (xs : List ℕ) (n : ℕ) : Type 0 where
  pub front : List ℕ
  pub back : List ℕ
  pub is : xs ≡ front ++ n ∷ back

pub around : (xs : List ℕ) (n : ℕ) → In xs n → Around xs n
around [] n h = absurd h
around (x ∷ xs) n (inl e) = record { front = []; back = xs; is = ap (λ y. y ∷ xs) (sym e) }
around (x ∷ xs) n (inr h) = let a = around xs n h in record { front = x ∷ a.front; back = a.back; is = ap (λ ys. x ∷ ys) a.is }

pub not_in_front : (front back : List ℕ) (n : ℕ) → Distinct (front ++ n ∷ back) → In front n → ⊥
not_in_front [] back n d h = h
not_in_front (x ∷ front) back n d (inl e) = d.0 (subst (In (front ++ n ∷ back)) e (in_back front (n ∷ back) n (inl refl)))
not_in_front (x ∷ front) back n d (inr h) = not_in_front front back n d.1 h

pub not_in_back : (front back : List ℕ) (n : ℕ) → Distinct (front ++ n ∷ back) → In back n → ⊥
not_in_back [] back n d h = d.0 h
not_in_back (x ∷ front) back n d h = not_in_back front back n d.1 h

-- no number stands in front of another one and behind it
pub not_both : (front back : List ℕ) (n m : ℕ) → Distinct (front ++ n ∷ back) → In front m → In back m → ⊥
not_both [] back n m d g h = g
not_both (x ∷ front) back n m d (inl e) h = d.0 (in_back front (n ∷ back) x (inr (subst (In back) e h)))
not_both (x ∷ front) back n m d (inr g) h = not_both front back n m d.1 g h

pub distinct_push : (xs : List ℕ) (n : ℕ) → Distinct xs → (In xs n → ⊥) → Distinct (xs ++ n ∷ [])
distinct_push [] n d out = (λ (h : In [] n). h, tt)
distinct_push (x ∷ xs) n d out = (λ h. by (in_either xs (n ∷ []) x h), distinct_push xs n d.1 (λ h. out (inr h)))
  where
    by : In xs x ⊎ In (n ∷ []) x → ⊥
    by (inl a) = d.0 a
    by (inr (inl e)) = out (inl (sym e))
    by (inr (inr h)) = absurd h

-- Lists that are written at places

pub set_apart : {X : Type 0} → (xs : List X) (a b : ℕ) (x y : X) → a ≢ b → set (set xs a x) b y ≡ set (set xs b y) a x
set_apart [] a b x y d = refl
set_apart (c ∷ cs) zero zero x y d = absurd (d refl)
set_apart (c ∷ cs) zero (suc b) x y d = refl
set_apart (c ∷ cs) (suc a) zero x y d = refl
set_apart (c ∷ cs) (suc a) (suc b) x y d = ap (λ z. c ∷ z) (set_apart cs a b x y (λ e. d (ap suc e)))

pub get_set : {X : Type 0} → (xs : List X) (i : ℕ) (x d : X) → i < length xs → get_or (set xs i x) i d ≡ x
get_set [] i x d l = absurd (omega (arith, l))
get_set (y ∷ ys) zero x d l = refl
get_set (y ∷ ys) (suc i) x d l = get_set ys i x d (omega (arith, l))

put_set : (ns : List ℕ) (xs cs : List Content) (a : ℕ) (y : Content) → (In ns a → ⊥) → put ns xs (set cs a y) ≡ set (put ns xs cs) a y
put_set [] xs cs a y out = refl
put_set (n ∷ ns) xs cs a y out =
    ap (put ns (rest_of xs)) (set_apart cs a n y (first_of xs) (λ e. out (inl e)))
    ∙ put_set ns (rest_of xs) (set cs n (first_of xs)) a y (λ m. out (inr m))

-- contents of different cowns may be put in either order
pub put_put : (ns ms : List ℕ) (xs ys cs : List Content) → Apart ns ms → put ns xs (put ms ys cs) ≡ put ms ys (put ns xs cs)
put_put ns [] xs ys cs apart = refl
put_put ns (m ∷ ms) xs ys cs apart =
    put_put ns ms xs (rest_of ys) (set cs m (first_of ys)) (λ n a b. apart n a (inr b))
    ∙ ap (put ms (rest_of ys)) (put_set ns xs cs m (first_of ys) (λ a. apart m a (inl refl)))

-- contents that are put where others were
pub put_again : (ns : List ℕ) (xs ys cs : List Content) → Distinct ns → put ns ys (put ns xs cs) ≡ put ns ys cs
put_again [] xs ys cs d = refl
put_again (n ∷ ns) xs ys cs d =
    ap (put ns (rest_of ys)) (sym (put_set ns (rest_of xs) (set cs n (first_of xs)) n (first_of ys) d.0)
    ∙ ap (put ns (rest_of xs)) (set-set cs n (first_of xs) (first_of ys)))
    ∙ put_again ns (rest_of xs) (rest_of ys) (set cs n (first_of ys)) d.1

pub get_put : (ns : List ℕ) (xs cs : List Content) (m : ℕ) → (In ns m → ⊥) → get_or (put ns xs cs) m Empty ≡ get_or cs m Empty
get_put [] xs cs m out = refl
get_put (n ∷ ns) xs cs m out =
    get_put ns (rest_of xs) (set cs n (first_of xs)) m (λ a. out (inr a)) ∙ get_or-set_other cs n m (first_of xs) Empty (λ e. out (inl e))

-- what other cowns have stays
pub contents_stay : (ms ns : List ℕ) (xs cs : List Content) → Apart ns ms → contents_at (put ns xs cs) ms ≡ contents_at cs ms
contents_stay [] ns xs cs apart = refl
contents_stay (m ∷ ms) ns xs cs apart =
    ap (λ z. z ∷ contents_at (put ns xs cs) ms) (get_put ns xs cs m (λ a. apart m a (inl refl)))
    ∙ ap (λ z. get_or cs m Empty ∷ z) (contents_stay ms ns xs cs (λ n a b. apart n a (inr b)))
