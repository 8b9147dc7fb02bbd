-- How many brackets are open in a text, and how many it leaves open, where some are open in front of it.
use Rattle.std.proofs.Common.{◌≡◌, refl, ap, subst, ℕ, zero, suc, ◌+◌, ◌-◌, ◌*◌, ◌==◌, ◌<◌, ◌≤◌, ◌||◌, max, Bool as Truth, true, false}
use Rattle.std.proofs.Common.{List, [], ◌∷◌, ◌++◌, replicate, append_assoc, codes, decimal, ℤ, pos, negsuc, unsigned_abs, arith}
use Rattle.std.specs.List.{list_any}
use Rattle.std.specs.Str.Parse.{AllDigits}
use Rattle.std.specs.Char.{digit_value}
use Rattle.std.specs.Fmt.{signed_decimal}
use Rattle.std.proofs.lemmas.Fmt.{decimal_is_IsNumeral}
use Rattle.std.proofs.lemmas.Bool.Decides.{nat_tests}
use Rattle.rg_base.specs.declared.limits.TheConstants.{GREATEST_NUMBER}
use Rattle.rg_tree.specs.Canonical.{line_of, in_parens}
use Rattle.rg_limits.specs.Brackets.{opens, closes, open_behind, most_open_from}
use Rattle.rg_limits.specs.Bare.{is_bracket}

-- In front of the text i more than some are open, behind it j more, and in it p more at most, those in front counted.
abbrev pub Goes : (i j p : ℕ) → List ℕ → Type 0
Goes i j p s = (m : ℕ) (rest : List ℕ) → most_open_from (i + m) (s ++ rest) ≡ max (p + m) (most_open_from (j + m) rest)

-- a text that leaves as many open
abbrev pub Stays : (p : ℕ) → List ℕ → Type 0
Stays p s = Goes 0 0 p s

starts-so : (n : ℕ) (s : List ℕ) → n ≤ most_open_from n s
starts-so n [] = omega arith
starts-so n (b ∷ s) = omega arith

pub goes : (i j k p q : ℕ) (a b : List ℕ) → Goes i j p a → Goes j k q b → Goes i k (max p q) (a ++ b)
goes i j k p q a b x y m rest =
    let e : most_open_from (i + m) ((a ++ b) ++ rest) ≡ most_open_from (i + m) (a ++ (b ++ rest)) =
    ap (λ (s : List ℕ). most_open_from (i + m) s) (append_assoc a b rest) in
    let f = x m (b ++ rest) in
    let g = y m rest in
    omega (arith, e, f, g)

pub both : (p q : ℕ) (a b : List ℕ) → Stays p a → Stays q b → Stays (max p q) (a ++ b)
both p q a b x y = goes 0 0 0 p q a b x y

pub nothing : Stays 0 []
nothing m rest = let s = starts-so (0 + m) rest in omega (arith, s)

-- the same number, said otherwise
pub as-many : (i j p q : ℕ) (s : List ℕ) → p ≡ q → Goes i j p s → Goes i j q s
as-many i j p q s e x = subst (λ (k : ℕ). Goes i j k s) e x

-- behind a bracket
pub inside : (p : ℕ) (s : List ℕ) → Stays p s → Goes 1 1 (suc p) s
inside p s x m rest =
    let e : 0 + (1 + m) ≡ 1 + m = omega arith in
    let f = x (1 + m) rest in
    let g : most_open_from (0 + (1 + m)) (s ++ rest) ≡ most_open_from (1 + m) (s ++ rest) = ap (λ (k : ℕ). most_open_from k (s ++ rest)) e in
    let h : most_open_from (0 + (1 + m)) rest ≡ most_open_from (1 + m) rest = ap (λ (k : ℕ). most_open_from k rest) e in
    omega (arith, f, g, h)

-- A text without brackets

or-parts : (x y : Truth) → (x || y) ≡ false → (x ≡ false) × (y ≡ false)
or-parts true y h = cc
or-parts false y h = (refl, h)

bare-from : (s : List ℕ) → list_any is_bracket s ≡ false → (n : ℕ) (rest : List ℕ) → most_open_from n (s ++ rest) ≡ most_open_from n rest
bare-from [] h n rest = refl
bare-from (b ∷ s) h n rest =
    let p = or-parts (is_bracket b) (list_any is_bracket s) h in
    let q = or-parts (opens b) (closes b) p.0 in
    let e : open_behind b n ≡ n = rw (q.0, q.1) refl in
    let r = bare-from s p.1 n rest in
    let k = starts-so n rest in
    let g : most_open_from (open_behind b n) (s ++ rest) ≡ most_open_from n (s ++ rest) = ap (λ (i : ℕ). most_open_from i (s ++ rest)) e in
    omega (arith, r, k, g)

pub bare : (i : ℕ) (s : List ℕ) → list_any is_bracket s ≡ false → Goes i i i s
bare i s h m rest = let e = bare-from s h (i + m) rest in let k = starts-so (i + m) rest in omega (arith, e, k)

-- Brackets

pub opening : (o : ℕ) → opens o ≡ true → Goes 0 1 1 (o ∷ [])
opening o x m rest =
    let q : 0 + m + 1 ≡ 1 + m = omega arith in
    let d : open_behind o (0 + m) ≡ 1 + m = rw x q in
    let g : most_open_from (open_behind o (0 + m)) rest ≡ most_open_from (1 + m) rest = ap (λ (k : ℕ). most_open_from k rest) d in
    let s = starts-so (1 + m) rest in
    omega (arith, g, s)

pub closing : (c : ℕ) → opens c ≡ false → closes c ≡ true → Goes 1 0 1 (c ∷ [])
closing c y z m rest =
    let q : 1 + m - 1 ≡ 0 + m = omega arith in
    let d : open_behind c (1 + m) ≡ 0 + m = rw (y, z) q in
    let g : most_open_from (open_behind c (1 + m)) rest ≡ most_open_from (0 + m) rest = ap (λ (k : ℕ). most_open_from k rest) d in
    omega (arith, g)

-- brackets round a text, behind another one
pub around : (o c p : ℕ) (f s : List ℕ) → opens o ≡ true → opens c ≡ false → closes c ≡ true → Stays 0 f → Stays p s
    → Stays (suc p) (((f ++ o ∷ []) ++ s) ++ c ∷ [])
around o c p f s x y z h i =
    let e : max (max (max 0 1) (suc p)) 1 ≡ suc p = omega arith in
    as-many 0 0 _ (suc p) (((f ++ o ∷ []) ++ s) ++ c ∷ []) e
    (goes 0 1 0 _ 1 ((f ++ o ∷ []) ++ s) (c ∷ [])
    (goes 0 1 1 _ (suc p) (f ++ o ∷ []) s (goes 0 0 1 0 1 f (o ∷ []) h (opening o x)) (inside p s i)) (closing c y z))

pub enclosed : (p : ℕ) (s : List ℕ) → Stays p s → Stays (suc p) (in_parens true s)
enclosed p s h = around 40 41 p [] s refl refl refl nothing h

-- Lines

blanks-bare : (k : ℕ) → list_any is_bracket (replicate k 32) ≡ false
blanks-bare zero = refl
blanks-bare (suc k) = blanks-bare k

pub line-goes : (i j p d : ℕ) (s : List ℕ) → i ≤ p → j ≤ p → Goes i j p s → Goes i j p (line_of d s)
line-goes i j p d s k l h =
    let e : max (max i p) j ≡ p = omega (arith, k, l) in
    as-many i j _ p (line_of d s) e
    (goes i j j _ j (replicate (2 * d) 32 ++ s) (10 ∷ [])
    (goes i i j i p (replicate (2 * d) 32) s (bare i (replicate (2 * d) 32) (blanks-bare (2 * d))) h) (bare j (10 ∷ []) refl))

pub line-stays : (p d : ℕ) (s : List ℕ) → Stays p s → Stays p (line_of d s)
line-stays p d s h = line-goes 0 0 p d s (omega arith) (omega arith) h

pub opening-line : (p d : ℕ) (front : List ℕ) → Stays p front → Goes 0 1 (max p 1) (line_of d (front ++ codes " {"))
opening-line p d front h =
    let e : max p (max 0 1) ≡ max p 1 = omega arith in
    line-goes 0 1 (max p 1) d (front ++ codes " {") (omega arith) (omega arith)
    (as-many 0 1 _ (max p 1) (front ++ codes " {") e
    (goes 0 0 1 p _ front (codes " {") h (goes 0 0 1 0 1 (32 ∷ []) (123 ∷ []) (bare 0 (32 ∷ []) refl) (opening 123 refl))))

pub closing-line : (d : ℕ) (s : List ℕ) → Stays 0 s → Goes 1 0 1 (line_of d (codes "}" ++ s))
closing-line d s h =
    let e : max 1 0 ≡ 1 = omega arith in
    line-goes 1 0 1 d (codes "}" ++ s) (omega arith) (omega arith)
    (as-many 1 0 _ 1 (codes "}" ++ s) e (goes 1 0 0 1 0 (125 ∷ []) s (closing 125 refl refl) h))

pub last-line : (d : ℕ) → Goes 1 0 1 (line_of d (codes "}"))
last-line d = line-goes 1 0 1 d (codes "}") (omega arith) (omega arith) (closing 125 refl refl)

pub between : (d : ℕ) → Goes 1 1 1 (line_of d (codes "} else {"))
between d =
    let e : max 1 (max 0 1) ≡ 1 = omega arith in
    line-goes 1 1 1 d (codes "} else {") (omega arith) (omega arith)
    (as-many 1 1 _ 1 (codes "} else {") e
    (goes 1 0 1 1 _ (125 ∷ []) (codes " else {") (closing 125 refl refl)
    (goes 0 0 1 0 1 (codes " else ") (123 ∷ []) (bare 0 (codes " else ") refl) (opening 123 refl))))

-- a block between two such lines
pub framed : (i j u b v : ℕ) (up block down : List ℕ) → Goes i 1 u up → Stays b block → Goes 1 j v down
    → Goes i j (max (max u (suc b)) v) ((up ++ block) ++ down)
framed i j u b v up block down x y z =
    goes i 1 j (max u (suc b)) v (up ++ block) down (goes i 1 1 u (suc b) up block x (inside b block y)) z

-- Numbers

is-that : (c k : ℕ) → (c == k) ≡ true → c ≡ k
is-that c k h = grind (arith, nat_tests)

digit-bare : (c : ℕ) → digit_value c < 10 → is_bracket c ≡ false
digit-bare c h = by (c == 123) (c == 40) (c == 91) (c == 125) (c == 41) (c == 93) refl refl refl refl refl refl
  where
    at : (k : ℕ) → c ≡ k → digit_value k < 10
    at k e = subst (λ (x : ℕ). digit_value x < 10) e h

    by : (u v w x y z : Truth) → (c == 123) ≡ u → (c == 40) ≡ v → (c == 91) ≡ w → (c == 125) ≡ x → (c == 41) ≡ y → (c == 93) ≡ z
        → ((u || v || w) || (x || y || z)) ≡ false
    by true v w x y z a b d e f g = absurd (omega (arith, at 123 (is-that c 123 a)))
    by false true w x y z a b d e f g = absurd (omega (arith, at 40 (is-that c 40 b)))
    by false false true x y z a b d e f g = absurd (omega (arith, at 91 (is-that c 91 d)))
    by false false false true y z a b d e f g = absurd (omega (arith, at 125 (is-that c 125 e)))
    by false false false false true z a b d e f g = absurd (omega (arith, at 41 (is-that c 41 f)))
    by false false false false false true a b d e f g = absurd (omega (arith, at 93 (is-that c 93 g)))
    by false false false false false false a b d e f g = refl

digits-bare : (ds : List ℕ) → AllDigits 10 ds → list_any is_bracket ds ≡ false
digits-bare [] h = refl
digits-bare (c ∷ ds) h = let r = digit-bare c h.0 in rw r (digits-bare ds h.1)

decimal-bare : (n : ℕ) → n ≤ GREATEST_NUMBER → list_any is_bracket (decimal n) ≡ false
decimal-bare n l = digits-bare (decimal n) (decimal_is_IsNumeral n (omega arith)).0.1

pub number-bare : (z : ℤ) → unsigned_abs z ≤ GREATEST_NUMBER → list_any is_bracket (signed_decimal z) ≡ false
number-bare (pos n) l = decimal-bare n l
number-bare (negsuc n) l = decimal-bare (suc n) l
