-- Classes and members looked for by name, one after another.
use Rattle.std.proofs.Common.{◌≡◌, ◌∙◌, refl, sym, ap, ℕ, suc, ◌+◌, Bool, true, false, if◌then◌else◌, bytes_eq, List, [], ◌∷◌, length, map}
use Rattle.std.proofs.Common.{drop, option_map, Option, Some, None, slice_get, arith}
use Rattle.rg_base.proofs.Callers.Lists.{drop-here}
use Rattle.rg_tree.specs.declared.rows.MemberRow.{MemberRow}
use Rattle.rg_tree.specs.declared.rows.MemberRow.TheVariants.{Field, Method}
use Rattle.rg_tree.specs.Tree.{Name, Class, Member}
use Rattle.rg_tree.specs.Rows.Tables.{Tables, name_at, numbers_in}
use Rattle.rg_tree.specs.Rows.RowTrees.{classes_of, member_of, param_at}
use Rattle.rg_tree.specs.Rows.RowsExist.{IsMemberIn, IsNameIn}
use Rattle.rg_rules.specs.Types.{class_named, class_number, type_of}
use Rattle.rg_names.specs.declared.entry.Sig.{Sig}
use Rattle.rg_names.specs.TreeAnswers.{class_place, MethodIs}
use Rattle.rg_plan.specs.Lines.{is_plain, no_params, no_result}
use Rattle.rg_plan.specs.Inner.Found.{IsBehind, name_of, method_among, no_numbers, is_plain_sig}

-- what is found at the first of some classes
abbrev pub IsFirst : List Class → Name → ℕ → Class → Type 0
IsFirst classes x i c = (class_named classes x ≡ Some c) × (class_number classes x ≡ i)

at_first : (c : Class) (cs all : List Class) (x : Name) (i : ℕ) → bytes_eq c.name x ≡ true → class_named (c ∷ cs) x ≡ class_named all x →
    i + class_number (c ∷ cs) x ≡ class_number all x → IsFirst all x i c
at_first c cs all x i e h g = (sym h ∙ rw e refl, sym g ∙ rw e (omega arith))

-- the class of that number is the first of the name
pub class-here : (all : List Class) (x : Name) (i : ℕ) (c : Class) → slice_get all i ≡ Some c → bytes_eq c.name x ≡ true → IsBehind all x i →
    IsFirst all x i c
class-here all x i c there e b =
    let d = drop-here all i c there in
    at_first c (drop (i + 1) all) all x i e (rw d at b.named) (rw d at b.number)

past_first : (c : Class) (cs all : List Class) (x : Name) (i : ℕ) → bytes_eq c.name x ≡ false → class_named (c ∷ cs) x ≡ class_named all x →
    i + class_number (c ∷ cs) x ≡ class_number all x →
    (class_named cs x ≡ class_named all x) × ((i + 1) + class_number cs x ≡ class_number all x)
past_first c cs all x i e h g = (rw e at h, let n : i + suc (class_number cs x) ≡ class_number all x = rw e at g in omega (arith, n))

-- the class of that number has another name
pub class-past : (all : List Class) (x : Name) (i : ℕ) (c : Class) → slice_get all i ≡ Some c → bytes_eq c.name x ≡ false → IsBehind all x i →
    IsBehind all x (i + 1)
class-past all x i c there e b =
    let d = drop-here all i c there in
    let p = past_first c (drop (i + 1) all) all x i e (rw d at b.named) (rw d at b.number) in
    record { named = p.0; number = p.1 }

-- a test of a name, made on the name that a program tells
pub name-same : (t u : Tables) (n : ℕ) (told x : Name) (b : Bool) → u ≡ t → told ≡ name_at u n → b ≡ bytes_eq told x →
    bytes_eq (name_at t n) x ≡ b
name-same t u n told x b e f g = rw (← e, ← f) (sym g)

-- the name of a member that is there
pub name-in : (t : Tables) (m : MemberRow) → IsMemberIn t m → IsNameIn t (name_of m)
name-in t (Field name y line) h = h.0
name-in t (Method cap name params y body line) h = h.0

-- a member of another name isn't the method
pub member-past : (t : Tables) (m : MemberRow) (x : Name) (rest : List Member) → bytes_eq (name_at t (name_of m)) x ≡ false →
    method_among (member_of t m ∷ rest) x ≡ method_among rest x
member-past t (Field name y line) x rest e = refl
member-past t (Method cap name params y body line) x rest e = rw e refl

-- a method by its tree and by what the class table says of it
no_numbers-map : (t : Tables) (ns : List ℕ) → no_params (map (param_at t) ns) ≡ no_numbers ns
no_numbers-map t [] = refl
no_numbers-map t (n ∷ ns) = refl

no_result-map : {A B : Type 0} (f : A → B) (o : Option A) → no_result (option_map f o) ≡ no_result o
no_result-map f None = refl
no_result-map f (Some a) = refl

pub plain-same : (t : Tables) (class name : ℕ) (s : Sig) (is : MethodIs t class name s) → is_plain is.method ≡ is_plain_sig t s
plain-same t class name s is =
    let params : no_params is.method.params ≡ no_numbers (numbers_in t s.params) = rw (← is.params) (no_numbers-map t (numbers_in t s.params)) in
    let result : no_result is.method.result ≡ no_result s.result =
    sym (rw (← is.result) (no_result-map (type_of (classes_of t)) is.method.result)) in
    rw (is.cap, params, result) refl

-- the number of a class by the answer of a table
pub place-there : (classes : List Class) (x : Name) (k : ℕ) → class_place classes x ≡ Some k → class_number classes x ≡ k
place-there classes x k h = some_place (class_named classes x) (class_number classes x) k h
  where
    some_place : (o : Option Class) (n k : ℕ) → option_map (λ c. n) o ≡ Some k → n ≡ k
    some_place None n k h = grind arith
    some_place (Some c) n k h = grind arith

none_place : (o : Option Class) (n : ℕ) → option_map (λ c. n) o ≡ None → o ≡ None
none_place None n h = refl
none_place (Some c) n h = grind arith

number_past : (b : Bool) (c : Class) (n : ℕ) (o : Option Class) → (if b then Some c else o) ≡ None → (b ≡ false) × (o ≡ None)
number_past true c n o h = grind arith
number_past false c n o h = (refl, h)

number_none : (classes : List Class) (x : Name) → class_named classes x ≡ None → class_number classes x ≡ length classes
number_none [] x h = refl
number_none (c ∷ cs) x h =
    let p = number_past (bytes_eq c.name x) c 0 (class_named cs x) h in
    rw p.0 (ap suc (number_none cs x p.1))

pub place-none : (classes : List Class) (x : Name) → class_place classes x ≡ None → class_number classes x ≡ length classes
place-none classes x h = number_none classes x (none_place (class_named classes x) (class_number classes x) h)
