-- The lines of a report (docs/language.md, "Report").
use Rattle.std.specs.Prelude.{ℕ, List, [], ◌∷◌, ◌++◌, codes, decimal}
use Rattle.rg_base.specs.declared.words.Manager.{Manager}
use Rattle.rg_base.specs.declared.words.Manager.TheVariants as manager
use Rattle.rg_base.specs.declared.event.Cause.{Cause}
use Rattle.rg_base.specs.declared.event.Cause.TheVariants as cause
use Rattle.rg_base.specs.declared.event.Event.{Event}
use Rattle.rg_base.specs.declared.outcome.EndNumbers.{EndNumbers}

-- the first word of an event's line
abbrev pub cause_text : Cause → List ℕ
cause_text cause.Asked = codes "collect"
cause_text cause.Paced = codes "paced"

-- a manager's word
abbrev pub manager_text : Manager → List ℕ
manager_text manager.Arena = codes "arena"
manager_text manager.Count = codes "count"
manager_text manager.Trace = codes "trace"

-- an event: `collect step 7 region 0 trace held 2 kept 0 released 0`
abbrev pub event_line : Event → List ℕ
event_line e =
    cause_text e.cause ++ codes " step " ++ decimal e.step ++ codes " region " ++ decimal e.region
    ++ codes " " ++ manager_text e.manager ++ codes " held " ++ decimal e.held ++ codes " kept " ++ decimal e.kept
    ++ codes " released " ++ decimal e.released ++ 10 ∷ []

-- the end of a run: `end steps 9 made 2 held 0 frozen 0 regions 1 collections 1`
abbrev pub end_line : EndNumbers → List ℕ
end_line n =
    codes "end steps " ++ decimal n.steps ++ codes " made " ++ decimal n.made ++ codes " held " ++ decimal n.held
    ++ codes " frozen " ++ decimal n.frozen ++ codes " regions " ++ decimal n.regions
    ++ codes " collections " ++ decimal n.collections ++ 10 ∷ []

-- the end of `bulk`: `bulk 1000 steps 33532 made 2001 high 1501 collections 1`
abbrev pub bulk_line : (size : ℕ) → EndNumbers → List ℕ
bulk_line size n =
    codes "bulk " ++ decimal size ++ codes " steps " ++ decimal n.steps ++ codes " made " ++ decimal n.made
    ++ codes " high " ++ decimal n.high ++ codes " collections " ++ decimal n.collections ++ 10 ∷ []
