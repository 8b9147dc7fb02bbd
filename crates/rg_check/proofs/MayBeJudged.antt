-- What headers without a fault, and few names, say of the methods of a class.
use Rattle.std.proofs.Common.{◌≡◌, ℕ, List, [], ◌∷◌, slice_get, Some, Ok, All, not, ap, ◌∙◌}
use Rattle.std.proofs.lemmas.List.Elements.{All-nil, All-cons, All-head, All-tail}
use Rattle.std.proofs.lemmas.Option.{slice_get-get_or}
use Rattle.rg_base.specs.declared.ty.Ty.{Ty}
use Rattle.rg_base.specs.declared.fault.Code.TheVariants.{Duplicate}
use Rattle.rg_tree.specs.Tree.{Name, Ty as Written, Method, Member, field, method, Class}
use Rattle.rg_rules.specs.Answers.{test, at_line}
use Rattle.rg_rules.specs.Types.{good_type}
use Rattle.rg_rules.specs.Headers.{among, method_header, member_headers, judge_headers}
use Rattle.rg_rules.specs.Names.{HasFewNames}
use Rattle.rg_rules.proofs.Answers.{then-ok, at_line-ok}
use Rattle.rg_rules.proofs.Header.{good_type-type_of, method_header-parts, member_headers-parts, judge_headers-members}
use Rattle.rg_check.specs.Inner.Methods.{IsGood, MayBeJudged, MemberMayBeJudged}
use Rattle.rg_check.proofs.Outcomes.{IfSome-by}

-- a type that passed
good : (classes : List Class) (w : Written) → (ty : Ty) × (good_type classes w ≡ Ok ty) → IsGood classes w
good classes w (ty, e) = e ∙ ap Ok (good_type-type_of classes w ty e)

-- a method whose header passed
method-may : (classes : List Class) (c : Class) (m : Method) → method_header classes c m ≡ Ok tt → HasFewNames (method m) → MayBeJudged classes m
method-may classes c m h few =
    let p = method_header-parts classes c m h in record {
      params = λ k d l. good classes _ (p.params k _ (slice_get-get_or m.params k d l));
      result = IfSome-by (IsGood classes) m.result (λ w e. good classes w (p.result w e));
      names = few;
    }

member-may : (classes : List Class) (c : Class) (earlier : List Name) (m : Member) → member_headers classes c earlier (m ∷ []) ≡ Ok tt →
    HasFewNames m → MemberMayBeJudged classes m
member-may classes c earlier (field f) h few = tt
member-may classes c earlier (method m) h few =
    let p = then-ok (at_line m.line (test (not (among m.name earlier)) Duplicate)) _ tt h in
    let q = then-ok (at_line m.line (method_header classes c m)) _ tt p.2 in
    method-may classes c m (at_line-ok m.line (method_header classes c m) tt q.1) few

members-may : (classes : List Class) (c : Class) (earlier : List Name) (ms : List Member) → member_headers classes c earlier ms ≡ Ok tt →
    All HasFewNames ms → All (MemberMayBeJudged classes) ms
members-may classes c earlier [] h few = All-nil (MemberMayBeJudged classes)
members-may classes c earlier (m ∷ ms) h few =
    let p = member_headers-parts classes c earlier m ms h in
    All-cons (MemberMayBeJudged classes) m ms (member-may classes c earlier m p.first (All-head HasFewNames m ms few))
    (members-may classes c _ ms p.others (All-tail HasFewNames m ms few))

-- the members of a class of a program whose headers have no fault
pub class-may : (classes : List Class) (n : ℕ) (d : Class) → judge_headers classes ≡ Ok tt → slice_get classes n ≡ Some d →
    All HasFewNames d.members → All (MemberMayBeJudged classes) d.members
class-may classes n d h e few = members-may classes d [] d.members (judge_headers-members classes n d h e) few
