-- The rules of a plan (docs/architecture.md, "Plans"): the plan that bytes say, or the number of the first line that breaks one.
use Rattle.std.specs.Prelude.{ℕ, ◌+◌, ◌&&◌, Bool as Truth, true, false, bytes_eq, if◌then◌else◌, nat_lt, codes, List, [], ◌∷◌, ◌++◌, length, Option}
use Rattle.std.specs.Prelude.{Some, None, Ok, Err}
use Rattle.rg_base.specs.declared.words.Manager.{Manager}
use Rattle.rg_base.specs.declared.words.Manager.TheVariants.{Arena, Count, Trace}
use Rattle.rg_base.specs.Pieces.{is_empty}
use Rattle.rg_tree.specs.Tree.{Class, Block, empty as none, then as next, Tree}
use Rattle.rg_rules.specs.Answers.{◌>>=◌}
use Rattle.rg_plan.specs.declared.limits.TheConstants.{COWNS, BEHAVIOURS}
use Rattle.rg_plan.specs.declared.cown.Cown.{Cown}
use Rattle.rg_plan.specs.Pieces.{pieces}
use Rattle.rg_plan.specs.Plans.{Turn, PlanOf, no_plan, Read}
use Rattle.rg_plan.specs.Lines.{cown_line, load_line, when_line}

-- `arena`
abbrev pub is_arena : Manager → Truth
is_arena Arena = true
is_arena Count = false
is_arena Trace = false

-- `{ }`
abbrev pub is_bare : Block → Truth
is_bare none = true
is_bare (next s b) = false

-- `main arena { }`
abbrev pub has_bare_main : Tree → Truth
has_bare_main t = is_arena t.manager && is_bare t.body

-- the plan with one cown more, if a line says one
abbrev pub with_cown : (line : ℕ) → PlanOf → Option Cown → Read PlanOf
with_cown line p None = Err line
with_cown line p (Some c) = if nat_lt (length p.cowns) COWNS then Ok (record p { cowns = p.cowns ++ c ∷ [] }) else Err line

-- the plan with one behaviour more, if a line says one
abbrev pub with_turn : (line : ℕ) → PlanOf → Option Turn → Read PlanOf
with_turn line p None = Err line
with_turn line p (Some b) = if nat_lt (length p.behaviours) BEHAVIOURS then Ok (record p { behaviours = p.behaviours ++ b ∷ [] }) else Err line

-- the plan with what the words of a line say
abbrev pub with_line : List Class → (line : ℕ) → PlanOf → (words : List (List ℕ)) → Read PlanOf
with_line classes line p [] = Err line
with_line classes line p (w ∷ words) =
    if bytes_eq (codes "cown") w then with_cown line p (cown_line classes line words) else
    if bytes_eq (codes "load") w then with_cown line p (load_line classes line words) else
    if bytes_eq (codes "when") w then with_turn line p (when_line classes p.cowns words) else Err line

-- the plan with what lines say, from the line of a number on: nothing stands behind the last end of a line
abbrev pub plan_from : List Class → (line : ℕ) → PlanOf → (lines : List (List ℕ)) → Read PlanOf
plan_from classes line p [] = Ok p
plan_from classes line p (text ∷ []) = if is_empty text then Ok p else Err line
plan_from classes line p (text ∷ other ∷ lines) = do
  more ← with_line classes line p (pieces 32 text)
  plan_from classes (line + 1) more (other ∷ lines)

-- the plan that bytes say: line 0 is bad where the program has another main
abbrev pub plan_of : Tree → (bytes : List ℕ) → Read PlanOf
plan_of t bytes = if has_bare_main t then plan_from t.classes 1 no_plan (pieces 10 bytes) else Err 0
