-- Which numbers are among others, and among the regions to which owner references lead.
use Rattle.std.proofs.Common.{◌≡◌, ℕ, zero, suc, ◌<◌, ◌==◌, Bool, true, false, ◌||◌, cond, if◌then◌else◌, List, [], ◌∷◌, ◌++◌, length, get_or, Option}
use Rattle.std.proofs.Common.{Some, None, is_some, find, flat_map, filter_map, All, refl, sym, ◌∙◌, ap, arith, append_assoc}
use Rattle.std.proofs.lemmas.Bool.{eqb-true, eq-eqb, true≢false}
use Rattle.std.proofs.lemmas.List.Elements.{All-nil, All-cons, All-head, All-tail, All-append}
use Rattle.std.proofs.Math.Bool.{or-true}
use Rattle.rg_base.specs.declared.object.Seen.{Seen}
use Rattle.rg_base.specs.declared.object.Label.{Label}
use Rattle.rg_base.specs.declared.object.Label.TheVariants.{Region, Temp, Frozen}
use Rattle.rg_tree.specs.Tree.{Class}
use Rattle.rg_rules.specs.Regions.{region_at, owned_by, among, in_regions, led_from, joined_with}
use Rattle.rg_store.proofs.Callers.Label.{some-below}
use Rattle.rg_store.specs.Regions.{is_marked, AreMarked, LabelFits, LabelsFit}

pub or-false : (a : Bool) → a || false ≡ a
or-false true = refl
or-false false = refl

pub or-assoc : (a b c : Bool) → (a || b) || c ≡ a || (b || c)
or-assoc true b c = refl
or-assoc false b c = refl

-- a number in front
pub among-cons : (m : ℕ) (ms : List ℕ) (n : ℕ) → among (m ∷ ms) n ≡ (m == n) || among ms n
among-cons m ms n = by (m == n)
  where
    by : (b : Bool) → is_some (cond b (Some m) (find (λ k. k == n) ms)) ≡ b || among ms n
    by true = refl
    by false = refl

-- one number
pub among-one : (m n : ℕ) → among (m ∷ []) n ≡ (m == n)
among-one m n = among-cons m [] n ∙ or-false (m == n)

pub among-append : (ms os : List ℕ) (n : ℕ) → among (ms ++ os) n ≡ among ms n || among os n
among-append [] os n = refl
among-append (m ∷ ms) os n =
    among-cons m (ms ++ os) n ∙ ap (λ q. (m == n) || q) (among-append ms os n) ∙ sym (or-assoc (m == n) (among ms n) (among os n))
    ∙ ap (λ q. q || among os n) (sym (among-cons m ms n))

-- a number that is there
pub among-there : (ns : List ℕ) (k d : ℕ) → k < length ns → among ns (get_or ns k d) ≡ true
among-there [] k d within = absurd (omega arith)
among-there (n ∷ ns) zero d within = among-cons n ns n ∙ ap (λ q. q || among ns n) (eq-eqb n n refl)
among-there (n ∷ ns) (suc k) d within =
    among-cons n ns (get_or ns k d) ∙ ap (λ q. (n == get_or ns k d) || q) (among-there ns k d (omega arith)) ∙ or-true (n == get_or ns k d)

-- a number that is there already
pub among-again : (m n : ℕ) (of : ℕ → Bool) → of m ≡ true → of n ≡ of n || (m == n)
among-again m n of there = by (m == n) refl
  where
    by : (b : Bool) → (m == n) ≡ b → of n ≡ of n || b
    by true same = ap of (sym (eqb-true m n same)) ∙ there ∙ sym (or-true (of n))
    by false other = sym (or-false (of n))

among-added : (ns : List ℕ) (m n : ℕ) → among (if among ns m then ns else ns ++ m ∷ []) n ≡ among ns n || (m == n)
among-added ns m n = by (among ns m) refl
  where
    by : (b : Bool) → among ns m ≡ b → among (if b then ns else ns ++ m ∷ []) n ≡ among ns n || (m == n)
    by true there = among-again m n (among ns) there
    by false not_there = among-append ns (m ∷ []) n ∙ ap (λ q. among ns n || q) (among-one m n)

-- numbers, and others that are joined to them
pub among-joined : (ns ms : List ℕ) (n : ℕ) → among (joined_with ns ms) n ≡ among ns n || among ms n
among-joined ns [] n = sym (or-false (among ns n))
among-joined ns (m ∷ ms) n =
    among-joined (if among ns m then ns else ns ++ m ∷ []) ms n ∙ ap (λ q. q || among ms n) (among-added ns m n)
    ∙ or-assoc (among ns n) (m == n) (among ms n) ∙ ap (λ q. among ns n || q) (sym (among-cons m ms n))

-- regions found from objects of which a test or another holds
led-either : (cs : List Class) (st : List Seen) (f g : Label → Bool) (os : List Seen) (n : ℕ) →
    among (led_from cs st (λ l. f l || g l) os) n ≡ among (led_from cs st f os) n || among (led_from cs st g os) n
led-either cs st f g [] n = refl
led-either cs st f g (o ∷ os) n =
    by (f o.label) (g o.label) (filter_map (region_at st) (owned_by cs o)) (led_from cs st (λ l. f l || g l) os) (led_from cs st f os)
    (led_from cs st g os) (led-either cs st f g os n)
  where
    bools : (x a b : Bool) → x || (a || b) ≡ (x || a) || (x || b)
    bools true a b = refl
    bools false a b = refl

    left : (x a b : Bool) → x || (a || b) ≡ (x || a) || b
    left true a b = refl
    left false a b = refl

    right : (x a b : Bool) → x || (a || b) ≡ a || (x || b)
    right true true b = refl
    right true false b = refl
    right false a b = refl

    by : (a b : Bool) (xs more fs gs : List ℕ) → among more n ≡ among fs n || among gs n →
        among (if a || b then xs ++ more else more) n ≡ among (if a then xs ++ fs else fs) n || among (if b then xs ++ gs else gs) n
    by true true xs more fs gs is =
        rw (among-append xs more n, is, among-append xs fs n, among-append xs gs n) (bools (among xs n) (among fs n) (among gs n))
    by true false xs more fs gs is = rw (among-append xs more n, is, among-append xs fs n) (left (among xs n) (among fs n) (among gs n))
    by false true xs more fs gs is = rw (among-append xs more n, is, among-append xs gs n) (right (among xs n) (among fs n) (among gs n))
    by false false xs more fs gs is = is

-- the same test
led-same : (cs : List Class) (st : List Seen) (f g : Label → Bool) (os : List Seen) → ((l : Label) → f l ≡ g l) →
    led_from cs st f os ≡ led_from cs st g os
led-same cs st f g [] same = refl
led-same cs st f g (o ∷ os) same = rw (same o.label, led-same cs st f g os same) refl

led-none_by : (l : Label) (xs rest : List ℕ) → rest ≡ [] → (if in_regions [] l then xs ++ rest else rest) ≡ []
led-none_by (Region r) xs rest none = none
led-none_by (Temp n) xs rest none = none
led-none_by Frozen xs rest none = none

led-none : (cs : List Class) (st os : List Seen) → led_from cs st (in_regions []) os ≡ []
led-none cs st [] = refl
led-none cs st (o ∷ os) =
    led-none_by o.label (filter_map (region_at st) (owned_by cs o)) (led_from cs st (in_regions []) os) (led-none cs st os)

-- the links of objects, and of others behind them
led-append_by : (b : Bool) (xs ys zs : List ℕ) → (if b then xs ++ (ys ++ zs) else ys ++ zs) ≡ (if b then xs ++ ys else ys) ++ zs
led-append_by true xs ys zs = sym (append_assoc xs ys zs)
led-append_by false xs ys zs = refl

-- one more object
pub led-append : (cs : List Class) (st : List Seen) (f : Label → Bool) (xs ys : List Seen) →
    led_from cs st f (xs ++ ys) ≡ led_from cs st f xs ++ led_from cs st f ys
led-append cs st f [] ys = refl
led-append cs st f (o ∷ os) ys =
    rw (led-append cs st f os ys)
    (led-append_by (f o.label) (filter_map (region_at st) (owned_by cs o)) (led_from cs st f os) (led_from cs st f ys))

in_regions-cons : (r : ℕ) (rs : List ℕ) (l : Label) → in_regions (r ∷ rs) l ≡ in_regions (r ∷ []) l || in_regions rs l
in_regions-cons r rs (Region q) = among-cons r rs q ∙ ap (λ b. b || among rs q) (sym (among-one r q))
in_regions-cons r rs (Temp n) = refl
in_regions-cons r rs Frozen = refl

-- those to which owner references lead from regions are those in the lists of these regions
pub led-lists : (cs : List Class) (st : List Seen) (lists : ℕ → List ℕ) →
    ((r : ℕ) → lists r ≡ led_from cs st (in_regions (r ∷ [])) st) → (rs : List ℕ) (n : ℕ) →
    among (led_from cs st (in_regions rs) st) n ≡ among (flat_map lists rs) n
led-lists cs st lists are [] n = ap (λ q. among q n) (led-none cs st st)
led-lists cs st lists are (r ∷ rs) n =
    ap (λ q. among q n) (led-same cs st (in_regions (r ∷ rs)) (λ l. in_regions (r ∷ []) l || in_regions rs l) st (in_regions-cons r rs))
    ∙ led-either cs st (in_regions (r ∷ [])) (in_regions rs) st n
    ∙ ap (λ q. among q n || among (led_from cs st (in_regions rs) st) n) (sym (are r))
    ∙ ap (λ q. among (lists r) n || q) (led-lists cs st lists are rs n)
    ∙ sym (among-append (lists r) (flat_map lists rs) n)

-- a number with a mark is below the number of marks
pub marked-below : (marks : List Bool) (r : ℕ) → is_marked marks r ≡ true → r < length marks
marked-below [] r is = absurd (true≢false (sym is))
marked-below (m ∷ marks) zero is = omega arith
marked-below (m ∷ marks) (suc r) is = let below : r < length marks = marked-below marks r is in omega arith

pub AreMarked-below : (marks : List Bool) (rs : List ℕ) → AreMarked marks rs → All (λ r. r < length marks) rs
AreMarked-below marks rs are k d within = marked-below marks (get_or rs k d) (are (get_or rs k d) ∙ among-there rs k d within)

-- what holds of each answer
All-answers_by : {A : Type 0} (P : ℕ → Type 0) (h : A → Option ℕ) (x : A) (xs : List A) (o : Option ℕ) → h x ≡ o → ((y : ℕ) → h x ≡ Some y → P y) →
    All P (filter_map h xs) → All P (filter_map h (x ∷ xs))
All-answers_by P h x xs None e here rest = rw e rest
All-answers_by P h x xs (Some y) e here rest = rw e (All-cons P y (filter_map h xs) (here y e) rest)

All-answers : {A : Type 0} (P : ℕ → Type 0) (h : A → Option ℕ) (xs : List A) → ((x : A) (y : ℕ) → h x ≡ Some y → P y) → All P (filter_map h xs)
All-answers P h [] each = All-nil P
All-answers P h (x ∷ xs) each = All-answers_by P h x xs (h x) refl (each x) (All-answers P h xs each)

region-fits : (count : ℕ) (st : List Seen) → LabelsFit count st → (a r : ℕ) → region_at st a ≡ Some r → r < count
region-fits count [] fits a r is = cc
region-fits count (o ∷ os) fits zero r is =
    some-below count o.label r (All-head (λ (q : Seen). LabelFits count q.label) o os fits) is
region-fits count (o ∷ os) fits (suc a) r is = region-fits count os (All-tail (λ (q : Seen). LabelFits count q.label) o os fits) a r is

led-fits_by : (count : ℕ) (b : Bool) (xs rest : List ℕ) → All (λ r. r < count) xs → All (λ r. r < count) rest →
    All (λ r. r < count) (if b then xs ++ rest else rest)
led-fits_by count true xs rest here behind = All-append (λ r. r < count) xs rest here behind
led-fits_by count false xs rest here behind = behind

pub led-fits : (count : ℕ) (cs : List Class) (st : List Seen) (f : Label → Bool) (os : List Seen) → LabelsFit count st →
    All (λ r. r < count) (led_from cs st f os)
led-fits count cs st f [] fits = All-nil (λ r. r < count)
led-fits count cs st f (o ∷ os) fits =
    led-fits_by count (f o.label) (filter_map (region_at st) (owned_by cs o)) (led_from cs st f os)
    (All-answers (λ r. r < count) (region_at st) (owned_by cs o) (λ a r is. region-fits count st fits a r is)) (led-fits count cs st f os fits)
