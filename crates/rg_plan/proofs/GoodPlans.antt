-- What holds of each plan that is read: line by line.
use Rattle.std.proofs.Common.{◌≡◌, ◌≢◌, ◌∙◌, refl, sym, ap, subst, ℕ, zero, suc, ◌+◌, ◌<◌, ◌==◌, ◌||◌, Bool, true, false, not, if◌then◌else◌}
use Rattle.std.proofs.Common.{bytes_eq, nat_lt}
use Rattle.std.proofs.Common.{List, [], ◌∷◌, ◌++◌, length, All, AllPairs, Option, Some, None, slice_get, filter_map, map, Ok, Err, codes, arith}
use Rattle.std.specs.List.{cons_option}
use Rattle.std.proofs.lemmas.Bool.Decides.{nat_tests}
use Rattle.std.proofs.lemmas.List.{length_push}
use Rattle.std.proofs.lemmas.List.Elements.{All-nil, All-head, All-tail, All-push, All-weaker}
use Rattle.std.proofs.lemmas.List.Kept.{AllPairs-cons}
use Rattle.std.proofs.lemmas.Slice.Eq.{bytes_eq-Decides}
use Rattle.rg_base.specs.Pieces.{is_empty}
use Rattle.rg_base.specs.Words.{beside}
use Rattle.rg_tree.specs.Tree.{Name, Class, Tree}
use Rattle.rg_rules.specs.Types.{class_named, class_number, is_array, method_named}
use Rattle.rg_names.specs.MethodNumbers.{method_number}
use Rattle.rg_rules.proofs.Answers.{bind-ok}
use Rattle.rg_plan.specs.declared.limits.TheConstants.{COWNS, BEHAVIOURS}
use Rattle.rg_plan.specs.declared.cown.Cown.{Cown}
use Rattle.rg_plan.specs.declared.targets.Target.{Target}
use Rattle.rg_plan.specs.Pieces.{pieces}
use Rattle.rg_plan.specs.Plans.{Turn, PlanOf, no_plan, among, Read}
use Rattle.rg_plan.specs.Lines as lines
use Rattle.rg_plan.specs.Rules.{has_bare_main, with_cown, with_turn, with_line, plan_from, plan_of}
use Rattle.rg_plan.specs.Laws.{IsGoodCown, IsGoodTurn, IsGoodPlan}

-- what a `do` block over what may be there says of its parts
there-ok : {A B : Type 0} (o : Option A) (go : A → Option B) (b : B) → lines.◌>>=◌ o go ≡ Some b → (a : A) × (o ≡ Some a) × (go a ≡ Some b)
there-ok None go b h = grind arith
there-ok (Some a) go b h = (a, refl, h)

test-ok : {B : Type 0} (t : Bool) (rest : Option B) (b : B) → lines.◌>>◌ t rest ≡ Some b → (t ≡ true) × (rest ≡ Some b)
test-ok false rest b h = grind arith
test-ok true rest b h = (refl, h)

same-some : {A : Type 0} (a b : A) → Some a ≡ Some b → a ≡ b
same-some a b h = grind arith

not-true : (b : Bool) → not b ≡ true → b ≡ false
not-true true h = grind arith
not-true false h = refl

-- the first class of a name stands at its number
at_cons : (b : Bool) (k c : Class) (ks : List Class) (n : ℕ) (o : Option Class) → (o ≡ Some c → slice_get ks n ≡ Some c) →
    (if b then Some k else o) ≡ Some c → slice_get (k ∷ ks) (if b then 0 else suc n) ≡ Some c
at_cons true k c ks n o rest h = h
at_cons false k c ks n o rest h = rest h

class-at : (classes : List Class) (x : Name) (c : Class) → class_named classes x ≡ Some c → slice_get classes (class_number classes x) ≡ Some c
class-at [] x c h = grind arith
class-at (k ∷ ks) x c h = at_cons (bytes_eq k.name x) k c ks (class_number ks x) (class_named ks x) (class-at ks x c) h

record IsOrdinary (classes : List Class) (x : Name) (c : Class) : Type 0 where
  there : slice_get classes (class_number classes x) ≡ Some c
  ordinary : c.is_tmp ≡ false

ordinary-is : (classes : List Class) (x : Name) (c : Class) → lines.ordinary_class classes x ≡ Some c → IsOrdinary classes x c
ordinary-is classes x c h =
    let k = there-ok (class_named classes x) _ c h in
    let t = test-ok (not k.0.is_tmp) _ c k.2 in
    let e = same-some k.0 c t.1 in
    subst (IsOrdinary classes x) e (record { there = class-at classes x k.0 k.1; ordinary = not-true k.0.is_tmp t.0 })

cown-good : (classes : List Class) (line : ℕ) (words : List (List ℕ)) (c : Cown) → lines.cown_line classes line words ≡ Some c →
    IsGoodCown classes c
cown-good classes line words c h =
    let w = there-ok (lines.pair_of words) _ c h in
    let k = there-ok (lines.ordinary_class classes w.0.0) _ c w.2 in
    let t = test-ok (not (is_array k.0)) _ c k.2 in
    let m = there-ok (beside lines.managers w.0.1) _ c t.1 in
    let o = ordinary-is classes w.0.0 k.0 k.1 in
    subst (IsGoodCown classes) (same-some _ c m.2)
    (record { class = k.0; there = o.there; ordinary = o.ordinary; start = not-true (is_array k.0) t.0 })

load-good : (classes : List Class) (line : ℕ) (words : List (List ℕ)) (c : Cown) → lines.load_line classes line words ≡ Some c →
    IsGoodCown classes c
load-good classes line words c h =
    let w = there-ok (lines.pair_of words) _ c h in
    let k = there-ok (lines.ordinary_class classes w.0.0) _ c w.2 in
    let t = test-ok (lines.is_file_name w.0.1) _ c k.2 in
    let o = ordinary-is classes w.0.0 k.0 k.1 in
    subst (IsGoodCown classes) (same-some _ c t.1) (record { class = k.0; there = o.there; ordinary = o.ordinary; start = t.0 })

-- numbers of cowns are below their count and differ
record AreNumbers (cowns : ℕ) (ns : List ℕ) : Type 0 where
  below : All (λ n. n < cowns) ns
  distinct : AllPairs (λ m n. m ≢ n) ns

among-first : (m n : ℕ) (rest : Bool) → ((m == n) || rest) ≡ false → (m ≢ n) × (rest ≡ false)
among-first m n true h = grind (arith, nat_tests)
among-first m n false h = (grind (arith, nat_tests), refl)

distinct-push : (ns : List ℕ) (n : ℕ) → AllPairs (λ m n. m ≢ n) ns → among ns n ≡ false → AllPairs (λ m n. m ≢ n) (ns ++ n ∷ [])
distinct-push [] n h e = AllPairs-cons (λ m n. m ≢ n) n [] (All-nil (λ m. n ≢ m)) (λ i j d l k. absurd (omega arith))
distinct-push (m ∷ ns) n h e =
    let p = among-first m n (among ns n) e in
    AllPairs-cons (λ m n. m ≢ n) m (ns ++ n ∷ [])
    (All-push (λ k. m ≢ k) ns n (λ i d l. h 0 (suc i) d (omega arith) (omega arith)) p.0)
    (distinct-push ns n (λ i j d l k. h (suc i) (suc j) d (omega arith) (omega arith)) p.1)

numbers-good : (cowns : ℕ) (earlier : List ℕ) (words : List (List ℕ)) (ns : List ℕ) → lines.cown_numbers cowns earlier words ≡ Some ns →
    AreNumbers cowns earlier → AreNumbers cowns ns
numbers-good cowns earlier [] ns h good = subst (AreNumbers cowns) (same-some earlier ns h) good
numbers-good cowns earlier (w ∷ words) ns h good =
    let k = there-ok (lines.cown_number cowns earlier w) _ ns h in
    let m = there-ok (lines.number w) _ k.0 k.1 in
    let b = test-ok (nat_lt m.0 cowns) _ k.0 m.2 in
    let d = test-ok (not (among earlier m.0)) _ k.0 b.1 in
    let e = same-some m.0 k.0 d.1 in
    let below : m.0 < cowns = less m.0 cowns b.0 in
    numbers-good cowns (earlier ++ k.0 ∷ []) words ns k.2
    (subst (λ n. AreNumbers cowns (earlier ++ n ∷ [])) e (record {
      below = All-push (λ n. n < cowns) earlier m.0 good.below below;
      distinct = distinct-push earlier m.0 good.distinct (not-true (among earlier m.0) d.0);
    }))
  where
    less : (a b : ℕ) → nat_lt a b ≡ true → a < b
    less a b h = grind (arith, nat_tests)

turn-good : (classes : List Class) (cowns : List Cown) (words : List (List ℕ)) (b : Turn) → lines.when_line classes cowns words ≡ Some b →
    IsGoodTurn classes cowns b
turn-good classes cowns [] b h = grind arith
turn-good classes cowns (text ∷ words) b h =
    let aim = there-ok (lines.target classes text) _ b h in
    let ns = there-ok (lines.cown_numbers (length cowns) [] words) _ b aim.2 in
    let some = test-ok (not (is_empty ns.0)) _ b ns.2 in
    let own = test-ok (bytes_eq (lines.owned_classes classes aim.0.class) (lines.cown_classes cowns ns.0)) _ b some.1 in
    let w = there-ok (lines.pair_of (pieces 46 text)) _ aim.0 aim.1 in
    let k = there-ok (lines.ordinary_class classes w.0.0) _ aim.0 w.2 in
    let m = there-ok (method_named classes (class_number classes w.0.0) w.0.1) _ aim.0 k.2 in
    let plain = test-ok (lines.is_plain m.0) _ aim.0 m.2 in
    let place = there-ok (method_number classes (class_number classes w.0.0) w.0.1) _ aim.0 plain.1 in
    let is = same-some _ aim.0 place.2 in
    let o = ordinary-is classes w.0.0 k.0 k.1 in
    let none : AreNumbers (length cowns) [] =
    record { below = All-nil (λ n. n < length cowns); distinct = λ i j d l k. absurd (omega arith) } in
    let good = numbers-good (length cowns) [] words ns.0 ns.1 none in
    subst (IsGoodTurn classes cowns) (same-some _ b own.1) (record {
      class = k.0;
      there = subst (λ n. slice_get classes n ≡ Some k.0) (ap (λ (a : Target). a.class) is) o.there;
      ordinary = o.ordinary;
      name = w.0.1;
      method = m.0;
      named = subst (λ n. method_named classes n w.0.1 ≡ Some m.0) (ap (λ (a : Target). a.class) is) m.1;
      number = subst (λ (a : Target). method_number classes a.class w.0.1 ≡ Some a.method) is place.1;
      plain = plain.0;
      below = good.below;
      distinct = good.distinct;
      owned = (bytes_eq-Decides (lines.owned_classes classes aim.0.class) (lines.cown_classes cowns ns.0)).0 own.0;
    })

-- one cown more changes nothing for behaviours that are there
get-push : {A : Type 0} (xs : List A) (x : A) (n : ℕ) → n < length xs → slice_get (xs ++ x ∷ []) n ≡ slice_get xs n
get-push [] x n l = absurd (omega arith)
get-push (y ∷ ys) x zero l = refl
get-push (y ∷ ys) x (suc n) l = get-push ys x n (omega arith)

classes-push : (cowns : List Cown) (c : Cown) (ns : List ℕ) → All (λ n. n < length cowns) ns →
    lines.cown_classes (cowns ++ c ∷ []) ns ≡ lines.cown_classes cowns ns
classes-push cowns c [] all = refl
classes-push cowns c (n ∷ ns) all =
    let one = get-push cowns c n (All-head (λ n. n < length cowns) n ns all) in
    let rest = classes-push cowns c ns (All-tail (λ n. n < length cowns) n ns all) in
    rw one (cons_same (slice_get cowns n) (filter_map (slice_get (cowns ++ c ∷ [])) ns) (filter_map (slice_get cowns) ns) rest)
  where
    cons_same : (o : Option Cown) (xs ys : List Cown) → map (λ (k : Cown). k.class) xs ≡ map (λ (k : Cown). k.class) ys →
        map (λ (k : Cown). k.class) (cons_option o xs) ≡ map (λ (k : Cown). k.class) (cons_option o ys)
    cons_same None xs ys h = h
    cons_same (Some k) xs ys h = ap (λ ks. k.class ∷ ks) h

turn-push : (classes : List Class) (cowns : List Cown) (c : Cown) (b : Turn) → IsGoodTurn classes cowns b → IsGoodTurn classes (cowns ++ c ∷ []) b
turn-push classes cowns c b g = record {
  class = g.class;
  there = g.there;
  ordinary = g.ordinary;
  name = g.name;
  method = g.method;
  named = g.named;
  number = g.number;
  plain = g.plain;
  below = All-weaker (λ n. n < length cowns) (λ n. n < length (cowns ++ c ∷ [])) (λ n l. omega (arith, l, length_push cowns c)) b.cowns g.below;
  distinct = g.distinct;
  owned = g.owned ∙ sym (classes-push cowns c b.cowns g.below);
}

-- the parts of a plan
record AreGood (classes : List Class) (p : PlanOf) : Type 0 where
  cowns : All (IsGoodCown classes) p.cowns
  behaviours : All (IsGoodTurn classes p.cowns) p.behaviours

ok-then : {A E : Type 0} (t : Bool) (a b : A) (e : E) → (if t then Ok a else Err e) ≡ Ok b → a ≡ b
ok-then true a b e h = grind arith
ok-then false a b e h = grind arith

cown-step : (classes : List Class) (line : ℕ) (p q : PlanOf) (o : Option Cown) → ((c : Cown) → o ≡ Some c → IsGoodCown classes c) →
    with_cown line p o ≡ Ok q → AreGood classes p → AreGood classes q
cown-step classes line p q None good h g = grind arith
cown-step classes line p q (Some c) good h g =
    subst (AreGood classes) (ok-then (nat_lt (length p.cowns) COWNS) (record p { cowns = p.cowns ++ c ∷ [] }) q line h) (record {
      cowns = All-push (IsGoodCown classes) p.cowns c g.cowns (good c refl);
      behaviours = All-weaker (IsGoodTurn classes p.cowns) (IsGoodTurn classes (p.cowns ++ c ∷ [])) (turn-push classes p.cowns c) p.behaviours
          g.behaviours;
    })

turn-step : (classes : List Class) (line : ℕ) (p q : PlanOf) (o : Option Turn) → ((b : Turn) → o ≡ Some b → IsGoodTurn classes p.cowns b) →
    with_turn line p o ≡ Ok q → AreGood classes p → AreGood classes q
turn-step classes line p q None good h g = grind arith
turn-step classes line p q (Some b) good h g =
    subst (AreGood classes) (ok-then (nat_lt (length p.behaviours) BEHAVIOURS) (record p { behaviours = p.behaviours ++ b ∷ [] }) q line h) (record {
      cowns = g.cowns;
      behaviours = All-push (IsGoodTurn classes p.cowns) p.behaviours b g.behaviours (good b refl);
    })

kinds : (a b c : Bool) (A B C : Read PlanOf) (line : ℕ) (q : PlanOf) (P : Type 0) → (A ≡ Ok q → P) → (B ≡ Ok q → P) → (C ≡ Ok q → P) →
    (if a then A else if b then B else if c then C else Err line) ≡ Ok q → P
kinds true b c A B C line q P f g k h = f h
kinds false true c A B C line q P f g k h = g h
kinds false false true A B C line q P f g k h = k h
kinds false false false A B C line q P f g k h = grind arith

line-step : (classes : List Class) (line : ℕ) (p q : PlanOf) (words : List (List ℕ)) → with_line classes line p words ≡ Ok q →
    AreGood classes p → AreGood classes q
line-step classes line p q [] h g = grind arith
line-step classes line p q (w ∷ words) h g =
    kinds (bytes_eq (codes "cown") w) (bytes_eq (codes "load") w) (bytes_eq (codes "when") w)
    (with_cown line p (lines.cown_line classes line words)) (with_cown line p (lines.load_line classes line words))
    (with_turn line p (lines.when_line classes p.cowns words)) line q (AreGood classes q)
    (λ e. cown-step classes line p q (lines.cown_line classes line words) (cown-good classes line words) e g)
    (λ e. cown-step classes line p q (lines.load_line classes line words) (load-good classes line words) e g)
    (λ e. turn-step classes line p q (lines.when_line classes p.cowns words) (turn-good classes p.cowns words) e g) h

lines-good : (classes : List Class) (line : ℕ) (p q : PlanOf) (texts : List (List ℕ)) → plan_from classes line p texts ≡ Ok q →
    AreGood classes p → AreGood classes q
lines-good classes line p q [] h g = subst (AreGood classes) (same-ok p q (Ok p) refl h) g
  where
    same-ok : (a b : PlanOf) (r : Read PlanOf) → r ≡ Ok a → r ≡ Ok b → a ≡ b
    same-ok a b r e f = grind arith
lines-good classes line p q (text ∷ []) h g = subst (AreGood classes) (ok-then (is_empty text) p q line h) g
lines-good classes line p q (text ∷ other ∷ texts) h g =
    let k = bind-ok (with_line classes line p (pieces 32 text)) _ q h in
    lines-good classes (line + 1) k.0 q (other ∷ texts) k.2 (line-step classes line p k.0 (pieces 32 text) k.1 g)

main-then : (t : Bool) (r : Read PlanOf) (q : PlanOf) → (if t then r else Err 0) ≡ Ok q → (t ≡ true) × (r ≡ Ok q)
main-then true r q h = (refl, h)
main-then false r q h = grind arith

pub plan-good : (t : Tree) (bytes : List ℕ) (p : PlanOf) → plan_of t bytes ≡ Ok p → IsGoodPlan t p
plan-good t bytes p h =
    let m = main-then (has_bare_main t) (plan_from t.classes 1 no_plan (pieces 10 bytes)) p h in
    let none : AreGood t.classes no_plan =
    record { cowns = All-nil (IsGoodCown t.classes); behaviours = All-nil (IsGoodTurn t.classes []) } in
    let g = lines-good t.classes 1 no_plan p (pieces 10 bytes) m.1 none in
    record { main = m.0; cowns = g.cowns; behaviours = g.behaviours }
