-- Each method of a program whose headers have no fault is found by its name, so what is said of methods by their names holds of each.
use Rattle.std.proofs.Common.{◌≡◌, refl, sym, ap, ◌∙◌, ℕ, suc, ◌+◌, Bool as Truth, true, false, if◌then◌else◌, bytes_eq, List, [], ◌∷◌}
use Rattle.std.proofs.Common.{find, filter_map, slice_get, Option, Some, is_some, Ok, arith}
use Rattle.std.proofs.lemmas.Slice.Eq.{bytes_eq-Decides}
use Rattle.rg_tree.specs.Tree.{Name, Method, Member, field, method, Class}
use Rattle.rg_rules.specs.Types.{method_member, members_of, method_named}
use Rattle.rg_rules.specs.Headers.{among, member_headers, rest_header, class_names, class_members, judge_headers}
use Rattle.rg_rules.proofs.Answers.{then-ok}
use Rattle.rg_rules.proofs.Header.{member_headers-parts, rest_header-members}
use Rattle.rg_code.specs.Lowering.{method_scope}
use Rattle.rg_numbered.specs.Laws.{IsNumbered}
use Rattle.rg_verify.proofs.BodyCode.{AreNumbered, AreAllNumbered}

-- Names

pub same-name : (x : Name) → bytes_eq x x ≡ true
same-name x = (bytes_eq-Decides x x).1 refl

pub other-name : (x y : Name) → bytes_eq x y ≡ false → bytes_eq y x ≡ false
other-name x y h = by (bytes_eq y x) refl
  where
    by : (b : Truth) → bytes_eq y x ≡ b → b ≡ false
    by false e = refl
    by true e = let same = (bytes_eq-Decides y x).0 e in absurd (differ (sym (same-name x) ∙ (ap (bytes_eq x) (sym same) ∙ h)))
      where
        differ : true ≡ false → ⊥
        differ g = grind arith

pub not-among : (x y : Name) (names : List Name) → among x (y ∷ names) ≡ false → (bytes_eq x y ≡ false) × (among x names ≡ false)
not-among x y names h = by (bytes_eq x y) h
  where
    by : (b : Truth) → is_some (if b then Some y else find (bytes_eq x) names) ≡ false → (b ≡ false) × (among x names ≡ false)
    by false g = (refl, g)
    by true g = grind arith

-- the method of a name
abbrev pub by_name : Name → List Member → Option Method
by_name x ms = find (λ (m : Method). bytes_eq m.name x) (filter_map method_member ms)

-- what comes first is found behind none of its name
pub found-later : (x : Name) (m : Method) (ms : List Member) → bytes_eq x m.name ≡ false → by_name x (method m ∷ ms) ≡ by_name x ms
found-later x m ms h = ap (λ (b : Truth). if b then Some m else by_name x ms) (other-name x m.name h)

pub found-first : (m : Method) (ms : List Member) → by_name m.name (method m ∷ ms) ≡ Some m
found-first m ms = ap (λ (b : Truth). if b then Some m else by_name m.name ms) (same-name m.name)

-- Methods by their names

module _ (cs : List Class) (law : (c : ℕ) (x : Name) (m : Method) → method_named cs c x ≡ Some m → IsNumbered cs (method_scope cs c m) true m.body)
  where
    -- the methods of a class, from some member on, behind members of these names
    members-numbered : (k : Class) (c : ℕ) (earlier : List Name) (ms : List Member) → member_headers cs k earlier ms ≡ Ok tt →
        ((x : Name) → among x earlier ≡ false → method_named cs c x ≡ by_name x ms) → AreNumbered cs c ms
    members-numbered k c earlier [] h found = tt
    members-numbered k c earlier (field f ∷ ms) h found =
        let p = member_headers-parts cs k earlier (field f) ms h in
        members-numbered k c (f.name ∷ earlier) ms p.others (λ x a. found x (not-among x f.name earlier a).1)
    members-numbered k c earlier (method m ∷ ms) h found =
        let p = member_headers-parts cs k earlier (method m) ms h in (
          law c m.name m (found m.name p.is_new ∙ found-first m ms),
          members-numbered k c (m.name ∷ earlier) ms p.others (λ x a.
              let q = not-among x m.name earlier a in
              found x q.1 ∙ found-later x m ms q.0),
        )

    -- the classes from some number on
    classes-numbered : (c : ℕ) (ks : List Class) → class_members cs ks ≡ Ok tt → ((n : ℕ) → slice_get cs (c + n) ≡ slice_get ks n) →
        AreAllNumbered cs c ks
    classes-numbered c [] h there = tt
    classes-numbered c (k ∷ ks) h there =
        let p = then-ok (rest_header cs k k.element) _ tt h in
        let none : c + 0 ≡ c = omega arith in
        let at : slice_get cs c ≡ Some k = ap (slice_get cs) (sym none) ∙ there 0 in
        let own : (x : Name) → method_named cs c x ≡ by_name x k.members = λ x. ap (λ (o : Option Class). by_name x (members_of o)) at in (
          members-numbered k c [] k.members (rest_header-members cs k k.element p.1) (λ x a. own x),
          classes-numbered (suc c) ks p.2 (λ n. let next : suc c + n ≡ c + suc n = omega arith in ap (slice_get cs) next ∙ there (suc n)),
        )

    pub all-numbered : judge_headers cs ≡ Ok tt → AreAllNumbered cs 0 cs
    all-numbered h =
        let p = then-ok (class_names [] cs) _ tt h in
        classes-numbered 0 cs p.2 (λ n. let none : 0 + n ≡ n = omega arith in ap (slice_get cs) none)
