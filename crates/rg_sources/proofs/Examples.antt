-- Short plans for one program, with what is kept: which of their faults is told.
use Rattle.std.proofs.Common.{◌≡◌, ◌<◌, refl, subst, ℕ, inl, inr, true, false, List, [], ◌∷◌, ◌++◌, length, Some, None, Ok, Err, codes, arith}
use Prim.Native.String.{String}
use Rattle.rg_base.specs.declared.fault.Code.TheVariants.{Plan, Image as image_code}
use Rattle.rg_base.specs.declared.fault.Fault.{Fault}
use Rattle.rg_base.specs.declared.words.Cap.TheVariants as cap
use Rattle.rg_base.specs.declared.words.Manager.TheVariants as manager
use Rattle.rg_tree.specs.Tree.{int, Tree}
use Rattle.rg_rules.proofs.Sources.{to, field_named, method_named, class_named, program}
use Rattle.rg_cown.specs.Cargo.{CargoList}
use Rattle.rg_plan.specs.declared.cown.Start.TheVariants.{New, Image}
use Rattle.rg_plan.specs.Plans.{PlanOf}
use Rattle.rg_loading.specs.declared.limits.TheConstants.{IMAGE_BYTES}
use Rattle.rg_loading.specs.Loading.{no_image, IsImageOf, no_content}
use Rattle.rg_loading.specs.Loading.{too_long as image_too_long}
use Rattle.rg_words.specs.Commands.{with_plan}
use Rattle.rg_sources.specs.Sources.{Sources, too_long, faulty, planned, Means, HasProgram, HasPlan, at_no_line}
use Rattle.rg_sources.specs.Sources.{has_kept, MayLoad, MeansPlan, HasSource}
use Rattle.rg_sources.proofs.Meaning.{plan-ones}

-- lines, each with its end
abbrev lines : List String → List ℕ
lines [] = []
lines (s ∷ ss) = codes s ++ 10 ∷ lines ss

-- `class N { v: int; } class A { n: iso N; def mut add() { } } main arena { }`
abbrev counted : Tree
counted =
    program (class_named "N" false (field_named "v" int ∷ [])
    ∷ class_named "A" false (field_named "n" (to cap.Iso "N") ∷ method_named cap.Mut "add" [] None [] ∷ []) ∷ []) manager.Arena []

-- a plan of those lines, behind a program of that source
abbrev behind : (file : List ℕ) → List String → (images : List (List ℕ)) → Sources
behind file ss images = record { file = file; plan = lines ss; images = images }

-- a new cown, and one of an image
abbrev two_cowns : List String
two_cowns = "cown N arena" ∷ "load N i" ∷ "when A.add 1" ∷ []

abbrev plan_of_two : PlanOf
plan_of_two = record {
  cowns = record { class = 0; start = New manager.Arena; line = 1 } ∷ record { class = 0; start = Image (codes "i"); line = 2 } ∷ [];
  behaviours = record { class = 1; method = 0; name = codes "A.add"; cowns = 1 ∷ [] } ∷ [];
}

-- The fault of the source is told first
the_source_comes_first : (file : List ℕ) (f : Fault) → Means file (faulty f) → MeansPlan (Some 7) (behind file ("what" ∷ []) []) (faulty f)
the_source_comes_first file f h = inl (inl h)

-- then that of a line, though another one names an image and there is no cown 7
a_line_comes_next : (file : List ℕ) → HasProgram file counted →
    MeansPlan (Some 7) (behind file ("load N i" ∷ "what" ∷ []) []) (faulty (record { code = Plan; line = 2 }))
a_line_comes_next file h = inr (inl (inl (counted, (h, omega arith, refl), refl)))

-- The cowns of a plan are numbered from 0
the_last_cown : has_kept (Some 1) plan_of_two ≡ true
the_last_cown = refl

no_cown_behind_it : has_kept (Some 2) plan_of_two ≡ false
no_cown_behind_it = refl

none_is_kept : has_kept None (record { cowns = []; behaviours = [] }) ≡ true
none_is_kept = refl

-- then that there is no cown that is kept
of_two : (file : List ℕ) (images : List (List ℕ)) → HasProgram file counted → HasPlan (behind file two_cowns images) counted (Ok plan_of_two)
of_two file images h = (h, omega arith, refl)

no_such_cown : (file : List ℕ) → HasProgram file counted → MeansPlan (Some 2) (behind file two_cowns []) (faulty (at_no_line Plan))
no_such_cown file h = inr (inl (inr (counted, plan_of_two, of_two file [] h, refl, refl)))

-- and no file of an image counts for that
unread : (file : List ℕ) → HasProgram file counted → (t : Tree) (p : PlanOf) → MayLoad (Some 2) (behind file two_cowns []) t p → ⊥
unread file h t p may =
    let P : PlanOf → Type 0 = λ x. has_kept (Some 2) x ≡ true in
    let kept : false ≡ true = subst P (plan-ones (behind file two_cowns []) t counted p plan_of_two may.0 (of_two file [] h)) may.1 in
    cc

no_image_is_there : (file : List ℕ) → HasProgram file counted →
    HasSource (Some (record { files = (codes "a", file) ∷ (codes "p", lines two_cowns) ∷ []; rest = [] }))
    (with_plan (codes "a") (codes "p") (Some 2)) (behind file two_cowns [])
no_image_is_there file h = (refl, λ t k. refl, λ t p k. absurd (unread file h t p k))

-- then a file of an image: one that is too long, and one that is none
an_image_too_long : (file bytes : List ℕ) → HasProgram file counted → IMAGE_BYTES < length bytes →
    MeansPlan (Some 1) (behind file two_cowns (bytes ∷ [])) too_long
an_image_too_long file bytes h long = inr (inr (
  counted,
  plan_of_two,
  ((of_two file (bytes ∷ []) h, refl), (Err image_too_long, (Err image_too_long, long, (refl, refl)), refl)),
))

no_bytes : (x : CargoList) → IsImageOf counted 0 [] x → ⊥
no_bytes x h = let text = h.0.text in cc

no_image_comes_last : (file : List ℕ) → HasProgram file counted →
    MeansPlan (Some 1) (behind file two_cowns ([] ∷ [])) (faulty (record { code = image_code; line = 2 }))
no_image_comes_last file h = inr (inr (
  counted,
  plan_of_two,
  ((of_two file ([] ∷ []) h, refl), (Err (no_image 2), (Err (no_image 2), (omega arith, no_bytes, refl), (refl, refl)), refl)),
  refl,
))

-- a plan without images has for each cown nothing
nothing_is_loaded : (file : List ℕ) → HasProgram file counted → MeansPlan (Some 0) (behind file ("cown N arena" ∷ []) [])
    (planned counted (record { cowns = record { class = 0; start = New manager.Arena; line = 1 } ∷ []; behaviours = [] }) (no_content ∷ []))
nothing_is_loaded file h = (((h, omega arith, refl), refl), (Ok [], (refl, refl), refl))
