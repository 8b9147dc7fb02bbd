-- What headers without a fault say of classes, fields and methods. For callers.
use Rattle.std.proofs.Common.{◌≡◌, refl, ℕ, zero, suc, ◌<◌, length, Bool, true, false, if◌then◌else◌, bytes_eq, ◌∙◌, sym, List, [], ◌∷◌, Option, Some}
use Rattle.std.proofs.Common.{None, slice_get, ok_or, not, find, filter_map, ◌⊎◌, inl, inr, Result, Ok, Err, arith}
use Rattle.std.proofs.lemmas.Bool.{not-true}
use Rattle.rg_base.specs.declared.words.Cap.{Cap}
use Rattle.rg_base.specs.declared.ty.Ty.{Ty}
use Rattle.rg_base.specs.declared.fault.Code.TheVariants.{Unknown, Duplicate, BadType}
use Rattle.rg_tree.specs.Tree.{Name, Ty as Written, int, bool, ref, Param, Field, Method, Member, field, method, Class}
use Rattle.rg_rules.specs.Answers.{◌>>◌, test, Answer, Passed, at_line}
use Rattle.rg_rules.specs.Types.{class_number, class_named, type_of, suits_class, good_type, field_member, method_member, members_of, fields_of}
use Rattle.rg_rules.specs.Types.{method_named}
use Rattle.rg_rules.specs.Headers.{suits_receiver, among, field_header, param_headers, result_header, method_header, member_headers, class_names}
use Rattle.rg_rules.specs.Headers.{element_header, no_members, rest_header, class_members, judge_headers}
use Rattle.rg_rules.proofs.Answers.{bind-ok, then-ok, test-ok, test-then, ok_or-ok, at_line-ok}

-- the number of a class that is there is below the number of classes
pub class_number-named : (classes : List Class) (x : Name) (c : Class) → class_named classes x ≡ Some c → class_number classes x < length classes
class_number-named [] x c h = grind arith
class_number-named (d ∷ ds) x c h = by (bytes_eq d.name x) h (class_number-named ds x c)
  where
    by : (b : Bool) → (if b then Some d else class_named ds x) ≡ Some c → (class_named ds x ≡ Some c → class_number ds x < length ds) →
        (if b then 0 else suc (class_number ds x)) < suc (length ds)
    by true e rest = omega arith
    by false e rest = let l : class_number ds x < length ds = rest e in omega arith

-- and the class of that number is it
pub class_number-at : (classes : List Class) (x : Name) (c : Class) → class_named classes x ≡ Some c →
    slice_get classes (class_number classes x) ≡ Some c
class_number-at [] x c h = grind arith
class_number-at (d ∷ ds) x c h = by (bytes_eq d.name x) h (class_number-at ds x c)
  where
    by : (b : Bool) → (if b then Some d else class_named ds x) ≡ Some c → (class_named ds x ≡ Some c → slice_get ds (class_number ds x) ≡ Some c) →
        slice_get (d ∷ ds) (if b then 0 else suc (class_number ds x)) ≡ Some c
    by true e rest = e
    by false e rest = rest e

-- a good type is the type that is written so
pub good_type-type_of : (classes : List Class) (w : Written) (ty : Ty) → good_type classes w ≡ Ok ty → ty ≡ type_of classes w
good_type-type_of classes int ty h = grind arith
good_type-type_of classes bool ty h = grind arith
good_type-type_of classes (ref cap x) ty h =
    let p = bind-ok (ok_or (class_named classes x) Unknown) _ ty h in
    let q = test-then (suits_class cap p.0.is_tmp) BadType _ ty p.2 in
    grind arith

-- and its class is there
pub good_type-known : (classes : List Class) (cap : Cap) (x : Name) (ty : Ty) → good_type classes (ref cap x) ≡ Ok ty →
    class_number classes x < length classes
good_type-known classes cap x ty h =
    let p = bind-ok (ok_or (class_named classes x) Unknown) _ ty h in
    class_number-named classes x p.0 (ok_or-ok (class_named classes x) Unknown p.0 p.1)

-- the name of a member
abbrev pub member_name : Member → Name
member_name (field f) = f.name
member_name (method m) = m.name

assoc : {A B D E : Type 0} (a : Result A E) (b : Result B E) (d : Result D E) → ◌>>◌ a (◌>>◌ b d) ≡ ◌>>◌ (◌>>◌ a (◌>>◌ {B = Passed} b (Ok tt))) d
assoc (Ok x) (Ok y) d = refl
assoc (Ok x) (Err e) d = refl
assoc (Err e) b d = refl

-- the header of one member, and then those of the others
pub member_headers-cons : (classes : List Class) (c : Class) (earlier : List Name) (m : Member) (ms : List Member) →
    member_headers classes c earlier (m ∷ ms) ≡ ◌>>◌ (member_headers classes c earlier (m ∷ []))
    (member_headers classes c (member_name m ∷ earlier) ms)
member_headers-cons classes c earlier (field f) ms = assoc (at_line f.line (test (not (among f.name earlier)) Duplicate)) _ _
member_headers-cons classes c earlier (method m) ms = assoc (at_line m.line (test (not (among m.name earlier)) Duplicate)) _ _

-- what headers without a fault say of their first member
pub record HeadersParts (classes : List Class) (c : Class) (earlier : List Name) (m : Member) (ms : List Member) : Type 0 where
  pub is_new : among (member_name m) earlier ≡ false
  pub first : member_headers classes c earlier (m ∷ []) ≡ Ok tt
  pub others : member_headers classes c (member_name m ∷ earlier) ms ≡ Ok tt

first-new : (classes : List Class) (c : Class) (earlier : List Name) (m : Member) →
    member_headers classes c earlier (m ∷ []) ≡ Ok tt → among (member_name m) earlier ≡ false
first-new classes c earlier (field f) h =
    let p = then-ok (at_line f.line (test (not (among f.name earlier)) Duplicate)) _ tt h in
    not-true (among f.name earlier) (test-ok (not (among f.name earlier)) Duplicate tt (at_line-ok f.line _ tt p.1))
first-new classes c earlier (method m) h =
    let p = then-ok (at_line m.line (test (not (among m.name earlier)) Duplicate)) _ tt h in
    not-true (among m.name earlier) (test-ok (not (among m.name earlier)) Duplicate tt (at_line-ok m.line _ tt p.1))

pub member_headers-parts : (classes : List Class) (c : Class) (earlier : List Name) (m : Member) (ms : List Member) →
    member_headers classes c earlier (m ∷ ms) ≡ Ok tt → HeadersParts classes c earlier m ms
member_headers-parts classes c earlier m ms h =
    let p = then-ok (member_headers classes c earlier (m ∷ [])) _ tt (sym (member_headers-cons classes c earlier m ms) ∙ h) in
    record { is_new = first-new classes c earlier m p.1; first = p.1; others = p.2 }

-- the type of a field is good
pub field-good : (classes : List Class) (c : Class) (earlier : List Name) (f : Field) → member_headers classes c earlier (field f ∷ []) ≡ Ok tt →
    (ty : Ty) × (good_type classes f.ty ≡ Ok ty)
field-good classes c earlier f h =
    let p = then-ok (at_line f.line (test (not (among f.name earlier)) Duplicate)) _ tt h in
    let q = then-ok (at_line f.line (field_header classes c f)) _ tt p.2 in
    let r = then-ok (good_type classes f.ty) _ tt (at_line-ok f.line (field_header classes c f) tt q.1) in
    (r.0, r.1)

-- the type of each parameter is good
pub param-good : (classes : List Class) (earlier : List Name) (ps : List Param) (i : ℕ) (p : Param) → param_headers classes earlier ps ≡ Ok tt →
    slice_get ps i ≡ Some p → (ty : Ty) × (good_type classes p.ty ≡ Ok ty)
param-good classes earlier [] i p h g = grind arith
param-good classes earlier (q ∷ qs) zero p h g =
    let same : q ≡ p = grind arith in
    let r = test-then (not (among q.name earlier)) Duplicate _ tt h in
    let s = then-ok (good_type classes q.ty) _ tt r.1 in
    rw (← same) (s.0, s.1)
param-good classes earlier (q ∷ qs) (suc i) p h g =
    let r = test-then (not (among q.name earlier)) Duplicate _ tt h in
    let s = then-ok (good_type classes q.ty) _ tt r.1 in
    param-good classes (q.name ∷ earlier) qs i p s.2 g

-- the parts of a method's header
pub record MethodHeader (classes : List Class) (c : Class) (m : Method) : Type 0 where
  pub receiver : suits_receiver m.receiver c.is_tmp ≡ true
  pub params : (i : ℕ) (p : Param) → slice_get m.params i ≡ Some p → (ty : Ty) × (good_type classes p.ty ≡ Ok ty)
  pub result : (w : Written) → m.result ≡ Some w → (ty : Ty) × (good_type classes w ≡ Ok ty)

pub method_header-parts : (classes : List Class) (c : Class) (m : Method) → method_header classes c m ≡ Ok tt → MethodHeader classes c m
method_header-parts classes c m h =
    let r = test-then (suits_receiver m.receiver c.is_tmp) BadType _ tt h in
    let s = then-ok (param_headers classes [] m.params) _ tt r.1 in
    record {
      receiver = r.0;
      params = λ i p g. param-good classes [] m.params i p s.1 g;
      result = λ w e. let given : result_header classes (Some w) ≡ Ok tt = rw e at s.2 in let g = then-ok (good_type classes w) _ tt given
          in (g.0, g.1);
    }

-- and so is that of a result
pub result-good : (classes : List Class) (c : Class) (earlier : List Name) (m : Method) → member_headers classes c earlier (method m ∷ []) ≡ Ok tt →
    (w : Written) → m.result ≡ Some w → (ty : Ty) × (good_type classes w ≡ Ok ty)
result-good classes c earlier m h w e =
    let p = then-ok (at_line m.line (test (not (among m.name earlier)) Duplicate)) _ tt h in
    let q = then-ok (at_line m.line (method_header classes c m)) _ tt p.2 in
    (method_header-parts classes c m (at_line-ok m.line (method_header classes c m) tt q.1)).result w e

-- what stands behind the name of a class that is there
pub class_members-at : (classes cs : List Class) (n : ℕ) (d : Class) → class_members classes cs ≡ Ok tt → slice_get cs n ≡ Some d →
    rest_header classes d d.element ≡ Ok tt
class_members-at classes [] n d h g = grind arith
class_members-at classes (x ∷ xs) zero d h g =
    let p = then-ok (rest_header classes x x.element) _ tt h in
    let same : x ≡ d = grind arith in rw (← same) p.1
class_members-at classes (x ∷ xs) (suc n) d h g =
    let p = then-ok (rest_header classes x x.element) _ tt h in class_members-at classes xs n d p.2 g

-- an array class has no members
pub no_members-none : (ms : List Member) → no_members ms ≡ true → ms ≡ []
no_members-none [] h = refl
no_members-none (m ∷ ms) h = grind arith

pub rest_header-members : (classes : List Class) (d : Class) (o : Option Written) → rest_header classes d o ≡ Ok tt →
    member_headers classes d [] d.members ≡ Ok tt
rest_header-members classes d None h = h
rest_header-members classes d (Some t) h =
    let p = then-ok (at_line d.line (element_header classes d t)) _ tt h in
    let n = test-ok (no_members d.members) BadType tt (at_line-ok d.line (test (no_members d.members) BadType) tt p.2) in
    rw (no_members-none d.members n) refl

-- the headers of a class of a program whose headers have no fault
pub judge_headers-members : (classes : List Class) (n : ℕ) (d : Class) → judge_headers classes ≡ Ok tt → slice_get classes n ≡ Some d →
    member_headers classes d [] d.members ≡ Ok tt
judge_headers-members classes n d h g =
    let p = then-ok (class_names [] classes) _ tt h in rest_header-members classes d d.element (class_members-at classes classes n d p.2 g)

found_either : {A : Type 0} (b : Bool) (a x : A) (others : Option A) → (if b then Some a else others) ≡ Some x → (a ≡ x) ⊎ (others ≡ Some x)
found_either true a x others g = inl (grind arith)
found_either false a x others g = inr g

-- a field that is found among members has no fault
found-field : (classes : List Class) (c : Class) (earlier : List Name) (test' : Field → Bool) (ms : List Member) (f : Field) →
    member_headers classes c earlier ms ≡ Ok tt → find test' (filter_map field_member ms) ≡ Some f → field_header classes c f ≡ Ok tt
found-field classes c earlier test' [] f h g = grind arith
found-field classes c earlier test' (method m ∷ ms) f h g =
    let p = member_headers-parts classes c earlier (method m) ms h in found-field classes c (m.name ∷ earlier) test' ms f p.others g
found-field classes c earlier test' (field e ∷ ms) f h g =
    let p = member_headers-parts classes c earlier (field e) ms h in
    let q = then-ok (at_line e.line (test (not (among e.name earlier)) Duplicate)) _ tt p.first in
    let r = then-ok (at_line e.line (field_header classes c e)) _ tt q.2 in
    elim (found_either (test' e) e f (find test' (filter_map field_member ms)) g) [
      | inl same ↦ rw (← same) (at_line-ok e.line (field_header classes c e) tt r.1)
      | inr later ↦ found-field classes c (e.name ∷ earlier) test' ms f p.others later
    ]

-- and so does a method
found-method : (classes : List Class) (c : Class) (earlier : List Name) (test' : Method → Bool) (ms : List Member) (m : Method) →
    member_headers classes c earlier ms ≡ Ok tt → find test' (filter_map method_member ms) ≡ Some m → method_header classes c m ≡ Ok tt
found-method classes c earlier test' [] m h g = grind arith
found-method classes c earlier test' (field f ∷ ms) m h g =
    let p = member_headers-parts classes c earlier (field f) ms h in found-method classes c (f.name ∷ earlier) test' ms m p.others g
found-method classes c earlier test' (method o ∷ ms) m h g =
    let p = member_headers-parts classes c earlier (method o) ms h in
    let q = then-ok (at_line o.line (test (not (among o.name earlier)) Duplicate)) _ tt p.first in
    let r = then-ok (at_line o.line (method_header classes c o)) _ tt q.2 in
    elim (found_either (test' o) o m (find test' (filter_map method_member ms)) g) [
      | inl same ↦ rw (← same) (at_line-ok o.line (method_header classes c o) tt r.1)
      | inr later ↦ found-method classes c (o.name ∷ earlier) test' ms m p.others later
    ]

-- a class of a program, and a member of it that has no fault
pub record Judged (classes : List Class) (n : ℕ) (header : Class → Answer Passed) : Type 0 where
  pub class : Class
  pub at : slice_get classes n ≡ Some class
  pub passed : header class ≡ Ok tt

judged-field : (classes : List Class) (n : ℕ) (x : Name) (f : Field) (o : Option Class) → slice_get classes n ≡ o → judge_headers classes ≡ Ok tt →
    find (λ e. bytes_eq e.name x) (filter_map field_member (members_of o)) ≡ Some f → Judged classes n (λ d. field_header classes d f)
judged-field classes n x f None e h g = grind arith
judged-field classes n x f (Some d) e h g =
    record { class = d; at = e; passed = found-field classes d [] (λ e. bytes_eq e.name x) d.members f (judge_headers-members classes n d h e) g }

judged-method : (classes : List Class) (n : ℕ) (x : Name) (m : Method) (o : Option Class) → slice_get classes n ≡ o → judge_headers classes ≡ Ok tt →
    find (λ e. bytes_eq e.name x) (filter_map method_member (members_of o)) ≡ Some m → Judged classes n (λ d. method_header classes d m)
judged-method classes n x m None e h g = grind arith
judged-method classes n x m (Some d) e h g =
    record { class = d; at = e; passed = found-method classes d [] (λ e. bytes_eq e.name x) d.members m (judge_headers-members classes n d h e) g }

-- the header of a field that a class has
pub judge_headers-field : (classes : List Class) (n : ℕ) (x : Name) (f : Field) → judge_headers classes ≡ Ok tt →
    find (λ e. bytes_eq e.name x) (fields_of classes n) ≡ Some f → Judged classes n (λ d. field_header classes d f)
judge_headers-field classes n x f h g = judged-field classes n x f (slice_get classes n) refl h g

-- the header of a method that a class has
pub judge_headers-method : (classes : List Class) (n : ℕ) (x : Name) (m : Method) → judge_headers classes ≡ Ok tt →
    method_named classes n x ≡ Some m → Judged classes n (λ d. method_header classes d m)
judge_headers-method classes n x m h g = judged-method classes n x m (slice_get classes n) refl h g
