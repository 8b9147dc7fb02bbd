-- How often pacers were asked, and which collections were theirs (docs/architecture.md, "The stepper").
use Rattle.std.specs.Prelude.{ℕ, zero, suc, Bool as Truth, true, false, ◌&&◌}
use Rattle.rg_base.specs.declared.words.Manager.{Manager}
use Rattle.rg_base.specs.declared.event.Cause.{Cause}
use Rattle.rg_base.specs.declared.event.Cause.TheVariants.{Asked, Paced}
use Rattle.rg_base.specs.declared.event.Event.{Event}
use Rattle.rg_rules.specs.Outside.Asks.{paced_as}
use Rattle.rg_pace.specs.Asked.{one_more}

-- one more so often; the greatest u64 stays
abbrev pub raised : (times : ℕ) → ℕ → ℕ
raised zero n = n
raised (suc k) n = one_more (raised k n)

-- whether a collection was a pacer's of a manager
abbrev pub is_paced : Cause → Truth
is_paced Asked = false
is_paced Paced = true

abbrev pub paced_by : Manager → Event → Truth
paced_by m e = is_paced e.cause && paced_as m e.manager
