-- What is known of a method whose header has no fault, in front of its body; and methods as the private layers of this crate hand them on
-- (docs/language.md, "Acceptance").
use Rattle.std.specs.Prelude.{◌≡◌, ℕ, ◌≤◌, ⊤, List, All, Ok, IfSome}
use Rattle.rg_base.specs.declared.limits.TheConstants.{BODY_NAMES}
use Rattle.rg_tree.specs.Tree.{Ty as Written, Method, Member, field, method, Class}
use Rattle.rg_rules.specs.Answers.{Lined, Passed}
use Rattle.rg_rules.specs.Types.{type_of, good_type}
use Rattle.rg_rules.specs.Names.{method_names}
use Rattle.rg_rules.specs.Bodies.{judge_method}

-- a type's class is known, and its capability goes with that class
abbrev pub IsGood : List Class → Written → Type 0
IsGood classes w = good_type classes w ≡ Ok (type_of classes w)

-- the types of a method are good, and its body has few names
pub record MayBeJudged (classes : List Class) (m : Method) : Type 0 where
  pub params : All (λ p. IsGood classes p.ty) m.params
  pub result : IfSome m.result (IsGood classes)
  pub names : method_names m ≤ BODY_NAMES

-- of a field nothing has to be known
abbrev pub MemberMayBeJudged : List Class → Member → Type 0
MemberMayBeJudged classes (field f) = ⊤
MemberMayBeJudged classes (method m) = MayBeJudged classes m

-- a member of the class of a number: only a method has a body
abbrev pub judge_member : List Class → ℕ → Member → Lined Passed
judge_member classes c (field f) = Ok tt
judge_member classes c (method m) = judge_method classes c m
