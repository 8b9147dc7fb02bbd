-- Short plans for one program, computed: the plan, or the number of the first line that breaks a rule.
use Rattle.std.proofs.Common.{◌≡◌, refl, ℕ, List, [], ◌∷◌, ◌++◌, true, false, Some, None, Ok, Err, codes}
use Prim.Native.String.{String}
use Rattle.rg_base.specs.declared.words.Cap.TheVariants as cap
use Rattle.rg_base.specs.declared.words.Manager.TheVariants as manager
use Rattle.rg_tree.specs.Tree.{int, collect, Class}
use Rattle.rg_rules.proofs.Sources.{to, field_named, param, method_named, class_named, array_class, program}
use Rattle.rg_plan.specs.declared.cown.Start.TheVariants.{New, Image}
use Rattle.rg_plan.specs.Plans.{PlanOf, Read}
use Rattle.rg_plan.specs.Rules.{plan_of}

-- lines, each with its end
abbrev lines : List String → List ℕ
lines [] = []
lines (s ∷ ss) = codes s ++ 10 ∷ lines ss

-- `class N { v: int; }`, classes that own one and two of it, an array class, one that owns it, and a tmp class
abbrev classes : List Class
classes =
    class_named "N" false (field_named "v" int ∷ [])
    ∷ class_named "A" false (field_named "n" (to cap.Iso "N")
    ∷ method_named cap.Mut "add" [] None []
    ∷ method_named cap.Paused "look" [] None []
    ∷ method_named cap.Mut "take" (param "k" int ∷ []) None []
    ∷ method_named cap.Mut "give" [] (Some int) [] ∷ [])
    ∷ class_named "B" false (method_named cap.Mut "move" [] None []
    ∷ field_named "a" (to cap.Iso "N") ∷ field_named "c" (to cap.Mut "N") ∷ field_named "b" (to cap.Iso "N") ∷ [])
    ∷ array_class "Row" false (to cap.Mut "N")
    ∷ class_named "R" false (field_named "r" (to cap.Iso "Row") ∷ method_named cap.Mut "add" [] None [] ∷ [])
    ∷ class_named "T" true []
    ∷ []

-- what a plan for these classes with `main arena { }` says
abbrev read : List String → Read PlanOf
read ss = plan_of (program classes manager.Arena []) (lines ss)

two_behaviours : read ("cown N arena" ∷ "when A.add 0" ∷ "when A.add 0" ∷ []) ≡ Ok (record {
  cowns = record { class = 0; start = New manager.Arena; line = 1 } ∷ [];
  behaviours = record { class = 1; method = 0; name = codes "A.add"; cowns = 0 ∷ [] }
      ∷ record { class = 1; method = 0; name = codes "A.add"; cowns = 0 ∷ [] } ∷ [];
})
two_behaviours = refl

two_cowns : read ("cown N trace" ∷ "load N n.image" ∷ "when B.move 1 0000" ∷ []) ≡ Ok (record {
  cowns = record { class = 0; start = New manager.Trace; line = 1 } ∷ record { class = 0; start = Image (codes "n.image"); line = 2 } ∷ [];
  behaviours = record { class = 2; method = 4; name = codes "B.move"; cowns = 1 ∷ 0 ∷ [] } ∷ [];
})
two_cowns = refl

an_array : read ("load Row !~" ∷ "when R.add 0" ∷ []) ≡ Ok (record {
  cowns = record { class = 3; start = Image (codes "!~"); line = 1 } ∷ [];
  behaviours = record { class = 4; method = 5; name = codes "R.add"; cowns = 0 ∷ [] } ∷ [];
})
an_array = refl

no_lines : read [] ≡ Ok (record { cowns = []; behaviours = [] })
no_lines = refl

-- a main with another manager, and one with a statement
other_manager : plan_of (program classes manager.Trace []) (lines ("what" ∷ [])) ≡ Err 0
other_manager = refl

statement_in_main : plan_of (program classes manager.Arena (collect ∷ [])) (lines ("what" ∷ [])) ≡ Err 0
statement_in_main = refl

-- a behaviour in front of its cown
cown_behind : read ("when A.add 0" ∷ []) ≡ Err 1
cown_behind = refl

-- the first of two bad lines
second_line : read ("cown N count" ∷ "when A.add 1" ∷ "cown X arena" ∷ []) ≡ Err 2
second_line = refl

no_class : read ("cown X arena" ∷ []) ≡ Err 1
no_class = refl

tmp_class : read ("cown T arena" ∷ []) ≡ Err 1
tmp_class = refl

tmp_image : read ("load T a" ∷ []) ≡ Err 1
tmp_image = refl

array_cown : read ("cown Row arena" ∷ []) ≡ Err 1
array_cown = refl

no_manager : read ("cown N slide" ∷ []) ≡ Err 1
no_manager = refl

no_words : read ("" ∷ []) ≡ Err 1
no_words = refl

no_such_line : read ("Cown N arena" ∷ []) ≡ Err 1
no_such_line = refl

two_blanks : read ("cown  N arena" ∷ []) ≡ Err 1
two_blanks = refl

blank_at_the_end : read ("cown N arena " ∷ []) ≡ Err 1
blank_at_the_end = refl

three_words : read ("cown N arena arena" ∷ []) ≡ Err 1
three_words = refl

no_name : read ("load N " ∷ []) ≡ Err 1
no_name = refl

no_end_of_line : plan_of (program classes manager.Arena []) (lines ("cown N arena" ∷ []) ++ codes "cown N arena") ≡ Err 2
no_end_of_line = refl

return_at_the_end : plan_of (program classes manager.Arena []) (codes "cown N arena" ++ 13 ∷ 10 ∷ []) ≡ Err 1
return_at_the_end = refl

-- methods that aren't `def mut` without parameters and result
paused_method : read ("cown N arena" ∷ "when A.look 0" ∷ []) ≡ Err 2
paused_method = refl

method_with_parameter : read ("cown N arena" ∷ "when A.take 0" ∷ []) ≡ Err 2
method_with_parameter = refl

method_with_result : read ("cown N arena" ∷ "when A.give 0" ∷ []) ≡ Err 2
method_with_result = refl

no_method : read ("cown N arena" ∷ "when A.n 0" ∷ []) ≡ Err 2
no_method = refl

no_point : read ("cown N arena" ∷ "when A 0" ∷ []) ≡ Err 2
no_point = refl

two_points : read ("cown N arena" ∷ "when A.add. 0" ∷ []) ≡ Err 2
two_points = refl

-- cowns that the `iso` fields aren't of
too_few : read ("cown N arena" ∷ "when B.move 0" ∷ []) ≡ Err 2
too_few = refl

too_many : read ("cown N arena" ∷ "cown N arena" ∷ "when A.add 0 1" ∷ []) ≡ Err 3
too_many = refl

other_class : read ("cown A arena" ∷ "when A.add 0" ∷ []) ≡ Err 2
other_class = refl

no_cowns : read ("when A.add" ∷ []) ≡ Err 1
no_cowns = refl

one_cown_twice : read ("cown N arena" ∷ "when B.move 0 0" ∷ []) ≡ Err 2
one_cown_twice = refl

five_digits : read ("cown N arena" ∷ "when A.add 00000" ∷ []) ≡ Err 2
five_digits = refl

signed : read ("cown N arena" ∷ "when A.add +0" ∷ []) ≡ Err 2
signed = refl
