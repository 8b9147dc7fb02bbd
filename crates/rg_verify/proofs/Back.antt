-- Types of a program whose headers have no fault are written back, each as it stands there.
use Rattle.std.proofs.Common.{◌≡◌, not, List, [], ◌∷◌, Option, Some, None, Ok}
use Rattle.rg_base.specs.declared.ty.Ty.{Ty}
use Rattle.rg_base.specs.declared.fault.Code.TheVariants.{Duplicate, BadType}
use Rattle.rg_tree.specs.Tree.{Name, Ty as Written, Param, Method, Member, field, method, Class}
use Rattle.rg_rules.specs.Types.{type_of, good_type}
use Rattle.rg_rules.specs.Answers.{test, at_line}
use Rattle.rg_rules.specs.Headers.{suits_receiver, among, element_header, param_headers, result_header, method_header, member_headers}
use Rattle.rg_rules.specs.Headers.{rest_header, class_names, class_members, judge_headers}
use Rattle.rg_rules.proofs.Answers.{then-ok, test-then, at_line-ok}
use Rattle.rg_rules.proofs.Header.{member_headers-parts, field-good, rest_header-members}
use Rattle.rg_verify_expressions.specs.Naming.{written}

-- Types that are written back: a class that is named is there

abbrev pub IsBack : List Class → Written → Type 0
IsBack cs t = written (type_of cs t) ≡ t

abbrev pub IsBackIfAny : List Class → Option Written → Type 0
IsBackIfAny cs None = Unit {0}
IsBackIfAny cs (Some t) = IsBack cs t

abbrev pub AreParamsBack : List Class → List Param → Type 0
AreParamsBack cs [] = Unit {0}
AreParamsBack cs (p ∷ ps) = IsBack cs p.ty × AreParamsBack cs ps

abbrev pub AreMembersBack : List Class → List Member → Type 0
AreMembersBack cs [] = Unit {0}
AreMembersBack cs (field f ∷ ms) = IsBack cs f.ty × AreMembersBack cs ms
AreMembersBack cs (method m ∷ ms) = AreParamsBack cs m.params × IsBackIfAny cs m.result × AreMembersBack cs ms

abbrev pub AreClassesBack : List Class → List Class → Type 0
AreClassesBack cs [] = Unit {0}
AreClassesBack cs (k ∷ ks) = IsBackIfAny cs k.element × AreMembersBack cs k.members × AreClassesBack cs ks

-- what is good is written back
abbrev pub GoodIsBack : List Class → Type 0
GoodIsBack cs = (t : Written) (ty : Ty) → good_type cs t ≡ Ok ty → IsBack cs t

module _ (cs : List Class) (back : GoodIsBack cs) where
  params-are-back : (earlier : List Name) (ps : List Param) → param_headers cs earlier ps ≡ Ok tt → AreParamsBack cs ps
  params-are-back earlier [] h = tt
  params-are-back earlier (p ∷ ps) h =
      let r = test-then (not (among p.name earlier)) Duplicate _ tt h in
      let s = then-ok (good_type cs p.ty) _ tt r.1 in
      (back p.ty s.0 s.1, params-are-back (p.name ∷ earlier) ps s.2)

  result-is-back : (o : Option Written) → result_header cs o ≡ Ok tt → IsBackIfAny cs o
  result-is-back None h = tt
  result-is-back (Some t) h = let s = then-ok (good_type cs t) _ tt h in back t s.0 s.1

  method-is-back : (c : Class) (earlier : List Name) (m : Method) → member_headers cs c earlier (method m ∷ []) ≡ Ok tt →
      AreParamsBack cs m.params × IsBackIfAny cs m.result
  method-is-back c earlier m h =
      let p = then-ok (at_line m.line (test (not (among m.name earlier)) Duplicate)) _ tt h in
      let q = then-ok (at_line m.line (method_header cs c m)) _ tt p.2 in
      let r = test-then (suits_receiver m.receiver c.is_tmp) BadType _ tt (at_line-ok m.line (method_header cs c m) tt q.1) in
      let s = then-ok (param_headers cs [] m.params) _ tt r.1 in
      (params-are-back [] m.params s.1, result-is-back m.result s.2)

  members-are-back : (c : Class) (earlier : List Name) (ms : List Member) → member_headers cs c earlier ms ≡ Ok tt → AreMembersBack cs ms
  members-are-back c earlier [] h = tt
  members-are-back c earlier (field f ∷ ms) h =
      let p = member_headers-parts cs c earlier (field f) ms h in
      let g = field-good cs c earlier f p.first in
      (back f.ty g.0 g.1, members-are-back c (f.name ∷ earlier) ms p.others)
  members-are-back c earlier (method m ∷ ms) h =
      let p = member_headers-parts cs c earlier (method m) ms h in
      let g = method-is-back c earlier m p.first in
      (g.0, g.1, members-are-back c (m.name ∷ earlier) ms p.others)

  element-is-back : (c : Class) (o : Option Written) → rest_header cs c o ≡ Ok tt → IsBackIfAny cs o
  element-is-back c None h = tt
  element-is-back c (Some t) h =
      let p = then-ok (at_line c.line (element_header cs c t)) _ tt h in
      let s = then-ok (good_type cs t) _ tt (at_line-ok c.line (element_header cs c t) tt p.1) in
      back t s.0 s.1

  classes-are-back : (ks : List Class) → class_members cs ks ≡ Ok tt → AreClassesBack cs ks
  classes-are-back [] h = tt
  classes-are-back (k ∷ ks) h =
      let p = then-ok (rest_header cs k k.element) _ tt h in
      (element-is-back k k.element p.1, members-are-back k [] k.members (rest_header-members cs k k.element p.1), classes-are-back ks p.2)

  pub headers-are-back : judge_headers cs ≡ Ok tt → AreClassesBack cs cs
  headers-are-back h = let p = then-ok (class_names [] cs) _ tt h in classes-are-back cs p.2
