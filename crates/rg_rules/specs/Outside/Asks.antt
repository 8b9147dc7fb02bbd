-- The steps at which a pacer is asked: those that make an object by `new C` or `new C [e]` while the active region has its manager
-- (docs/language.md, "Steps").
use Rattle.std.specs.Prelude.{ℕ, zero, suc, ◌+◌, Bool as Truth, true, false, ◌&&◌, List, [], ◌∷◌, Option, Some, None, is_some, unwrap_or}
use Rattle.std.specs.Prelude.{option_map, option_and_then, slice_get}
use Rattle.rg_base.specs.declared.words.Manager.{Manager}
use Rattle.rg_base.specs.declared.words.Manager.TheVariants.{Arena, Count, Trace}
use Rattle.rg_tree.specs.Tree.{Right, stmt, StmtKind, Class, Tree}
use Rattle.rg_rules.specs.Types.{class_named}
use Rattle.rg_rules.specs.Items.{Item, Do, EndAt, LeaveAt, LeaveGiving, Back}
use Rattle.rg_rules.specs.Rights.{right_of, right_made}
use Rattle.rg_rules.specs.State.{State, active}
use Rattle.rg_rules.specs.Steps.{Stepped, Went, Trapped, step_item}
use Rattle.rg_rules.specs.Runs.{opening}

-- whether a right side is `new C` or `new C [e]` of a class that is there
abbrev pub right_makes : List Class → Right → Truth
right_makes classes r = is_some (option_and_then (class_named classes) (right_made r))

-- whether a statement has such a right side
abbrev pub kind_makes : List Class → StmtKind → Truth
kind_makes classes k = unwrap_or (option_map (right_makes classes) (right_of k)) false

-- whether an item makes an object by `new C` or `new C [e]`
abbrev pub item_makes : List Class → Item → Truth
item_makes classes (Do (stmt line k)) = kind_makes classes k
item_makes classes (EndAt k) = false
item_makes classes (LeaveAt k) = false
item_makes classes (LeaveGiving line k w) = false
item_makes classes Back = false

-- whether one manager is the other, and has a pacer; an arena has none
abbrev pub paced_as : Manager → Manager → Truth
paced_as Arena Arena = false
paced_as Arena Count = false
paced_as Arena Trace = false
paced_as Count Arena = false
paced_as Count Count = true
paced_as Count Trace = false
paced_as Trace Arena = false
paced_as Trace Count = false
paced_as Trace Trace = true

-- whether a region has that manager, which has a pacer
abbrev pub managed_by : Manager → Option Manager → Truth
managed_by m None = false
managed_by m (Some k) = paced_as m k

-- whether the active region has that manager
abbrev pub is_managed : Manager → State → Truth
is_managed m s = managed_by m (slice_get s.managers (active s.windows))

-- the number of a step that asks, in front of the later ones
abbrev pub asks_then : (asking : Truth) → (step : ℕ) → List ℕ → List ℕ
asks_then true step later = step ∷ later
asks_then false step later = later

-- goes on from what a step did; one that trapped made nothing
abbrev pub asks_after : (asking : Truth) → (step : ℕ) → Stepped → (State → List ℕ) → List ℕ
asks_after asking step (Went t) go = asks_then asking step (go t)
asks_after asking step (Trapped kind line) go = []

-- makes the step of the first of these items and goes on
abbrev pub asks_on : List Class → Manager → (step : ℕ) → State → List Item → (State → List ℕ) → List ℕ
asks_on classes m step s [] go = []
asks_on classes m step s (i ∷ rest) go = asks_after (item_makes classes i && is_managed m s) step (step_item classes (record s { items = rest }) i) go

-- the numbers of those among the next steps, so many, at which that manager's pacer is asked; the first of them has that number
unfoldable pub asks_from : List Class → Manager → (left step : ℕ) → State → List ℕ
asks_from classes m zero step s = []
asks_from classes m (suc k) step s = asks_on classes m step s s.items (asks_from classes m k (step + 1))

-- the numbers of those among the first k steps of a program, which count from 1
abbrev pub asks : Tree → (input : List ℕ) → (k : ℕ) → Manager → List ℕ
asks t input k m = asks_from t.classes m k 1 (opening t input)
