-- Headers have no fault exactly where they are good. For callers.
use Rattle.std.proofs.Common.{◌≡◌, not, List, [], ◌∷◌, All, map, IfSome, Option, None, Some, ok_or, Ok, refl}
use Rattle.std.proofs.lemmas.List.Elements.{All-nil, All-cons, All-head, All-tail}
use Rattle.std.proofs.lemmas.Bool.{not-true}
use Rattle.rg_base.specs.declared.ty.Ty.{Ty}
use Rattle.rg_base.specs.declared.fault.Code.TheVariants.{Unknown, Duplicate, BadType}
use Rattle.rg_tree.specs.Tree.{Name, Ty as Written, int, bool, ref, Param, Field, Method, Member, field, method, Class}
use Rattle.rg_rules.specs.Answers.{test, at_line}
use Rattle.rg_rules.specs.Types.{class_named, suits_class, good_type, type_of}
use Rattle.rg_rules.specs.Headers.{among, suits_field_type, suits_receiver, field_header, param_headers, result_header, method_header, member_headers}
use Rattle.rg_rules.specs.Headers.{is_iso_written, element_header, no_members, rest_header, class_names, class_members, judge_headers}
use Rattle.rg_rules.proofs.Answers.{bind-ok, then-ok, test-ok, test-then, ok_or-ok, at_line-ok}
use Rattle.rg_rules.proofs.Header.{member_headers-parts, no_members-none, rest_header-members}
use Rattle.rg_names.specs.Laws.{IsGoodType, IsGoodField, IsGoodMethod, IsGoodMember, IsGoodElement, IsGoodClass, GoodHeaders, member_name}
use Rattle.rg_names.proofs.NewNames.{AreNew, AreNew-AreDistinct, AreDistinct-AreNew}

-- a type that passes is good
pub good_type-IsGoodType : (classes : List Class) (w : Written) (ty : Ty) → good_type classes w ≡ Ok ty → IsGoodType classes w
good_type-IsGoodType classes int ty h = tt
good_type-IsGoodType classes bool ty h = tt
good_type-IsGoodType classes (ref cap x) ty h =
    let p = bind-ok (ok_or (class_named classes x) Unknown) _ ty h in
    let q = test-then (suits_class cap p.0.is_tmp) BadType _ ty p.2 in
    record { class = p.0; named = ok_or-ok (class_named classes x) Unknown p.0 p.1; suits = q.0 }

-- and a good one passes, as the type that is written so
pub IsGoodType-good_type : (classes : List Class) (w : Written) → IsGoodType classes w → good_type classes w ≡ Ok (type_of classes w)
IsGoodType-good_type classes int g = refl
IsGoodType-good_type classes bool g = refl
IsGoodType-good_type classes (ref cap x) g = rw (g.named, g.suits) refl

field-IsGood : (classes : List Class) (c : Class) (f : Field) → field_header classes c f ≡ Ok tt → IsGoodField classes c f
field-IsGood classes c f h =
    let p = then-ok (good_type classes f.ty) _ tt h in
    record { ty = good_type-IsGoodType classes f.ty p.0 p.1; suits = test-ok (suits_field_type f.ty c.is_tmp) BadType tt p.2 }

field-passes : (classes : List Class) (c : Class) (f : Field) → IsGoodField classes c f → field_header classes c f ≡ Ok tt
field-passes classes c f g = rw (IsGoodType-good_type classes f.ty g.ty, g.suits) refl

-- parameters that pass have new names and good types
params-are-good : (classes : List Class) (earlier : List Name) (ps : List Param) → param_headers classes earlier ps ≡ Ok tt →
    AreNew earlier (map (λ p. p.name) ps) × All (λ (p : Param). IsGoodType classes p.ty) ps
params-are-good classes earlier [] h = (tt, All-nil (λ (p : Param). IsGoodType classes p.ty))
params-are-good classes earlier (q ∷ qs) h =
    let r = test-then (not (among q.name earlier)) Duplicate _ tt h in
    let s = then-ok (good_type classes q.ty) _ tt r.1 in
    let rest = params-are-good classes (q.name ∷ earlier) qs s.2 in (
      (not-true (among q.name earlier) r.0, rest.0),
      All-cons (λ (p : Param). IsGoodType classes p.ty) q qs (good_type-IsGoodType classes q.ty s.0 s.1) rest.1,
    )

params-pass : (classes : List Class) (earlier : List Name) (ps : List Param) → AreNew earlier (map (λ p. p.name) ps) →
    All (λ (p : Param). IsGoodType classes p.ty) ps → param_headers classes earlier ps ≡ Ok tt
params-pass classes earlier [] n a = refl
params-pass classes earlier (q ∷ qs) n a =
    rw (n.0, IsGoodType-good_type classes q.ty (All-head (λ (p : Param). IsGoodType classes p.ty) q qs a))
    (params-pass classes (q.name ∷ earlier) qs n.1 (All-tail (λ (p : Param). IsGoodType classes p.ty) q qs a))

result-IsGood : (classes : List Class) (result : Option Written) → result_header classes result ≡ Ok tt → IfSome result (IsGoodType classes)
result-IsGood classes None h = tt
result-IsGood classes (Some w) h = let p = then-ok (good_type classes w) _ tt h in good_type-IsGoodType classes w p.0 p.1

result-passes : (classes : List Class) (result : Option Written) → IfSome result (IsGoodType classes) → result_header classes result ≡ Ok tt
result-passes classes None g = refl
result-passes classes (Some w) g = rw (IsGoodType-good_type classes w g) refl

method-IsGood : (classes : List Class) (c : Class) (m : Method) → method_header classes c m ≡ Ok tt → IsGoodMethod classes c m
method-IsGood classes c m h =
    let r = test-then (suits_receiver m.receiver c.is_tmp) BadType _ tt h in
    let s = then-ok (param_headers classes [] m.params) _ tt r.1 in
    let p = params-are-good classes [] m.params s.1 in
    record {
      receiver = r.0;
      names = AreNew-AreDistinct [] (map (λ p. p.name) m.params) p.0;
      params = p.1;
      result = result-IsGood classes m.result s.2;
    }

method-passes : (classes : List Class) (c : Class) (m : Method) → IsGoodMethod classes c m → method_header classes c m ≡ Ok tt
method-passes classes c m g =
    rw (g.receiver, params-pass classes [] m.params (AreDistinct-AreNew (map (λ p. p.name) m.params) g.names) g.params)
    (result-passes classes m.result g.result)

member-IsGood : (classes : List Class) (c : Class) (earlier : List Name) (m : Member) → member_headers classes c earlier (m ∷ []) ≡ Ok tt →
    IsGoodMember classes c m
member-IsGood classes c earlier (field f) h =
    let p = then-ok (at_line f.line (test (not (among f.name earlier)) Duplicate)) _ tt h in
    let q = then-ok (at_line f.line (field_header classes c f)) _ tt p.2 in
    field-IsGood classes c f (at_line-ok f.line (field_header classes c f) tt q.1)
member-IsGood classes c earlier (method m) h =
    let p = then-ok (at_line m.line (test (not (among m.name earlier)) Duplicate)) _ tt h in
    let q = then-ok (at_line m.line (method_header classes c m)) _ tt p.2 in
    method-IsGood classes c m (at_line-ok m.line (method_header classes c m) tt q.1)

members-new : (classes : List Class) (c : Class) (earlier : List Name) (ms : List Member) → member_headers classes c earlier ms ≡ Ok tt →
    AreNew earlier (map member_name ms)
members-new classes c earlier [] h = tt
members-new classes c earlier (field f ∷ ms) h =
    let p = member_headers-parts classes c earlier (field f) ms h in (p.is_new, members-new classes c (f.name ∷ earlier) ms p.others)
members-new classes c earlier (method m ∷ ms) h =
    let p = member_headers-parts classes c earlier (method m) ms h in (p.is_new, members-new classes c (m.name ∷ earlier) ms p.others)

members-are-good : (classes : List Class) (c : Class) (earlier : List Name) (ms : List Member) → member_headers classes c earlier ms ≡ Ok tt →
    All (IsGoodMember classes c) ms
members-are-good classes c earlier [] h = All-nil (IsGoodMember classes c)
members-are-good classes c earlier (field f ∷ ms) h =
    let p = member_headers-parts classes c earlier (field f) ms h in
    All-cons (IsGoodMember classes c) (field f) ms (member-IsGood classes c earlier (field f) p.first)
    (members-are-good classes c (f.name ∷ earlier) ms p.others)
members-are-good classes c earlier (method m ∷ ms) h =
    let p = member_headers-parts classes c earlier (method m) ms h in
    All-cons (IsGoodMember classes c) (method m) ms (member-IsGood classes c earlier (method m) p.first)
    (members-are-good classes c (m.name ∷ earlier) ms p.others)

members-pass : (classes : List Class) (c : Class) (earlier : List Name) (ms : List Member) → AreNew earlier (map member_name ms) →
    All (IsGoodMember classes c) ms → member_headers classes c earlier ms ≡ Ok tt
members-pass classes c earlier [] n a = refl
members-pass classes c earlier (field f ∷ ms) n a =
    rw (n.0, field-passes classes c f (All-head (IsGoodMember classes c) (field f) ms a))
    (members-pass classes c (f.name ∷ earlier) ms n.1 (All-tail (IsGoodMember classes c) (field f) ms a))
members-pass classes c earlier (method m ∷ ms) n a =
    rw (n.0, method-passes classes c m (All-head (IsGoodMember classes c) (method m) ms a))
    (members-pass classes c (m.name ∷ earlier) ms n.1 (All-tail (IsGoodMember classes c) (method m) ms a))

element-IsGood : (classes : List Class) (c : Class) (o : Option Written) → rest_header classes c o ≡ Ok tt → IfSome o (IsGoodElement classes c)
element-IsGood classes c None h = tt
element-IsGood classes c (Some t) h =
    let p = then-ok (at_line c.line (element_header classes c t)) _ tt h in
    let q = then-ok (good_type classes t) _ tt (at_line-ok c.line (element_header classes c t) tt p.1) in
    let r = test-then (suits_field_type t c.is_tmp) BadType _ tt q.2 in
    let n = test-ok (no_members c.members) BadType tt (at_line-ok c.line (test (no_members c.members) BadType) tt p.2) in
    record {
      ty = good_type-IsGoodType classes t q.0 q.1;
      suits = r.0;
      shared = test-ok (not (is_iso_written t)) BadType tt r.1;
      alone = no_members-none c.members n;
    }

element-passes : (classes : List Class) (c : Class) (o : Option Written) → IfSome o (IsGoodElement classes c) →
    member_headers classes c [] c.members ≡ Ok tt → rest_header classes c o ≡ Ok tt
element-passes classes c None g h = h
element-passes classes c (Some t) g h = rw (IsGoodType-good_type classes t g.ty, g.suits, g.shared, g.alone) refl

class-IsGood : (classes : List Class) (c : Class) → rest_header classes c c.element ≡ Ok tt → IsGoodClass classes c
class-IsGood classes c h =
    let m = rest_header-members classes c c.element h in
    record {
      names = AreNew-AreDistinct [] (map member_name c.members) (members-new classes c [] c.members m);
      members = members-are-good classes c [] c.members m;
      element = element-IsGood classes c c.element h;
    }

class-passes : (classes : List Class) (c : Class) → IsGoodClass classes c → rest_header classes c c.element ≡ Ok tt
class-passes classes c g =
    element-passes classes c c.element g.element
    (members-pass classes c [] c.members (AreDistinct-AreNew (map member_name c.members) g.names) g.members)

classes-are-good : (classes cs : List Class) → class_members classes cs ≡ Ok tt → All (IsGoodClass classes) cs
classes-are-good classes [] h = All-nil (IsGoodClass classes)
classes-are-good classes (c ∷ cs) h =
    let p = then-ok (rest_header classes c c.element) _ tt h in
    All-cons (IsGoodClass classes) c cs (class-IsGood classes c p.1) (classes-are-good classes cs p.2)

classes-pass : (classes cs : List Class) → All (IsGoodClass classes) cs → class_members classes cs ≡ Ok tt
classes-pass classes [] a = refl
classes-pass classes (c ∷ cs) a =
    rw (class-passes classes c (All-head (IsGoodClass classes) c cs a)) (classes-pass classes cs (All-tail (IsGoodClass classes) c cs a))

names-new : (earlier : List Name) (cs : List Class) → class_names earlier cs ≡ Ok tt → AreNew earlier (map (λ c. c.name) cs)
names-new earlier [] h = tt
names-new earlier (c ∷ cs) h =
    let p = then-ok (at_line c.line (test (not (among c.name earlier)) Duplicate)) _ tt h in
    let t = test-ok (not (among c.name earlier)) Duplicate tt (at_line-ok c.line _ tt p.1) in
    (not-true (among c.name earlier) t, names-new (c.name ∷ earlier) cs p.2)

names-pass : (earlier : List Name) (cs : List Class) → AreNew earlier (map (λ c. c.name) cs) → class_names earlier cs ≡ Ok tt
names-pass earlier [] n = refl
names-pass earlier (c ∷ cs) n = rw n.0 (names-pass (c.name ∷ earlier) cs n.1)

-- headers without a fault are good
pub judge_headers-good : (classes : List Class) → judge_headers classes ≡ Ok tt → GoodHeaders classes
judge_headers-good classes h =
    let p = then-ok (class_names [] classes) _ tt h in
    record { names = AreNew-AreDistinct [] (map (λ c. c.name) classes) (names-new [] classes p.1); each = classes-are-good classes classes p.2 }

-- and good ones have no fault
pub good-judge_headers : (classes : List Class) → GoodHeaders classes → judge_headers classes ≡ Ok tt
good-judge_headers classes g =
    rw (names-pass [] classes (AreDistinct-AreNew (map (λ c. c.name) classes) g.names)) (classes-pass classes classes g.each)
