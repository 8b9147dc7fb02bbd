-- What acceptance says of the parts of a program: its headers, each method's body and main's body have no fault. For callers.
use Rattle.std.proofs.Common.{◌≡◌, refl, ℕ, zero, suc, ◌+◌, Bool, true, false, if◌then◌else◌, ◌⊎◌, inl, inr, bytes_eq, List, [], ◌∷◌, find}
use Rattle.std.proofs.Common.{filter_map, Option, Some, None, slice_get, Ok, Err, arith}
use Rattle.std.specs.Result.{result_err}
use Rattle.rg_base.specs.declared.fault.Code.TheVariants.{Return}
use Rattle.rg_tree.specs.Tree.{Name, Method, Member, field, method, Class, Tree}
use Rattle.rg_rules.specs.Answers.{test, Lined, Passed}
use Rattle.rg_rules.specs.Environment.{Env}
use Rattle.rg_rules.specs.Types.{method_member, members_of, method_named}
use Rattle.rg_rules.specs.Headers.{judge_headers}
use Rattle.rg_rules.specs.Bodies.{main_body, method_body, judge_body, gives_result, judge_method, judge_members, judge_methods}
use Rattle.rg_rules.specs.Acceptance.{judge_program, Accepted}
use Rattle.rg_rules.proofs.Answers.{then-ok, test-ok, at_line-ok}

-- the three parts of an accepted program
pub record Parts (t : Tree) : Type 0 where
  pub headers : judge_headers t.classes ≡ Ok tt
  pub methods : judge_methods t.classes 0 t.classes ≡ Ok tt
  pub out : Env
  pub main : judge_body t.classes (main_body t) ≡ Ok out

result_err-none : (r : Lined Passed) → result_err r ≡ None → r ≡ Ok tt
result_err-none (Ok passed) h = refl
result_err-none (Err f) h = grind arith

pub Accepted-parts : (t : Tree) → Accepted t → Parts t
Accepted-parts t h =
    let all = result_err-none (judge_program t) h in
    let p = then-ok (judge_headers t.classes) _ tt all in
    let q = then-ok (judge_methods t.classes 0 t.classes) _ tt p.2 in
    let r = then-ok (judge_body t.classes (main_body t)) _ tt q.2 in
    record { headers = p.1; methods = q.1; out = r.0; main = r.1 }

-- the members of a class that is there have no fault
judge_methods-at : (classes : List Class) (c : ℕ) (cs : List Class) (n k : ℕ) (d : Class) → k ≡ c + n →
    judge_methods classes c cs ≡ Ok tt → slice_get cs n ≡ Some d → judge_members classes k d.members ≡ Ok tt
judge_methods-at classes c [] n k d e h g = grind arith
judge_methods-at classes c (x ∷ xs) zero k d e h g =
    let p = then-ok (judge_members classes c x.members) _ tt h in
    let same : x ≡ d = grind arith in
    let number : k ≡ c = omega arith in rw (number, ← same) p.1
judge_methods-at classes c (x ∷ xs) (suc n) k d e h g =
    let p = then-ok (judge_members classes c x.members) _ tt h in judge_methods-at classes (suc c) xs n k d (omega arith) p.2 g

found_first : (b : Bool) (o m : Method) (others : Option Method) → (if b then Some o else others) ≡ Some m → (o ≡ m) ⊎ (others ≡ Some m)
found_first true o m others g = inl (grind arith)
found_first false o m others g = inr g

-- a method that is found among members has no fault
judge_members-found : (classes : List Class) (c : ℕ) (p : Method → Bool) (ms : List Member) (m : Method) →
    judge_members classes c ms ≡ Ok tt → find p (filter_map method_member ms) ≡ Some m → judge_method classes c m ≡ Ok tt
judge_members-found classes c p [] m h g = grind arith
judge_members-found classes c p (field f ∷ ms) m h g = judge_members-found classes c p ms m h g
judge_members-found classes c p (method o ∷ ms) m h g =
    let q = then-ok (judge_method classes c o) _ tt h in
    elim (found_first (p o) o m (find p (filter_map method_member ms)) g) [
      | inl same ↦ rw (← same) q.1
      | inr later ↦ judge_members-found classes c p ms m q.2 later
    ]

members-found : (classes : List Class) (c : ℕ) (p : Method → Bool) (o : Option Class) (m : Method) →
    ((d : Class) → o ≡ Some d → judge_members classes c d.members ≡ Ok tt) → find p (filter_map method_member (members_of o)) ≡ Some m →
    judge_method classes c m ≡ Ok tt
members-found classes c p None m right g = grind arith
members-found classes c p (Some d) m right g = judge_members-found classes c p d.members m (right d refl) g

-- a method that a class of an accepted program has
pub record MethodParts (classes : List Class) (c : ℕ) (m : Method) : Type 0 where
  pub out : Env
  pub body : judge_body classes (method_body classes c m) ≡ Ok out
  pub gives : gives_result m.result m.body ≡ true

pub Accepted-method : (t : Tree) → Accepted t → (c : ℕ) (x : Name) (m : Method) → method_named t.classes c x ≡ Some m → MethodParts t.classes c m
Accepted-method t h c x m g =
    let all = (Accepted-parts t h).methods in
    let right : (d : Class) → slice_get t.classes c ≡ Some d → judge_members t.classes c d.members ≡ Ok tt =
    λ d e. judge_methods-at t.classes 0 t.classes c c d (omega arith) all e in
    let one = members-found t.classes c (λ o. bytes_eq o.name x) (slice_get t.classes c) m right g in
    let p = then-ok (judge_body t.classes (method_body t.classes c m)) _ tt one in
    let ends = test-ok (gives_result m.result m.body) Return tt (at_line-ok m.line (test (gives_result m.result m.body) Return) tt p.2) in
    record { out = p.0; body = p.1; gives = ends }
