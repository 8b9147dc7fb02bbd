-- What is said of the active region: its window and its record are there (docs/architecture.md, "The machine").
use Rattle.std.specs.Prelude.{◌≡◌, Some, length}
use Rattle.rg_regions.specs.Table.{Record, record_at}
use Rattle.rg_frames.specs.declared.rows.Window.{Window}
use Rattle.rg_frames.specs.Stack.{IsTop}
use Rattle.rg_heap.specs.declared.answers.Active.{Active}
use Rattle.rg_machine.specs.Parts.{Parts}

-- there is a topmost window, its region is in the table, and of the two this holds
abbrev pub OnActive : Parts → (Window → Record → Type 0) → Type 0
OnActive p P = (w : Window) × (r : Record) × IsTop p.frames w × (record_at p.heap.regions w.region ≡ Some r) × P w r

-- the number of the active region, its manager and how many cells it has
abbrev pub IsActive : Parts → Active → Type 0
IsActive p a = OnActive p (λ w r. (a.region ≡ r.number) × (a.manager ≡ r.manager) × (a.held ≡ length r.members))
