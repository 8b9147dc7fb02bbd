use Rattle.std.proofs.Common.{◌≡◌, vec_capacity}
use Rattle.rg_frames.proofs.Raising.{Raising}
use Rattle.rg_frames.proofs.frames.raise.Given as goal

abbrev pub invariant-raise : goal.invariant-raise
invariant-raise l = Raising l.fn.rows.items l.rows.items l.first l.place l.k l.end × (vec_capacity l.rows ≡ vec_capacity l.fn.rows)

abbrev pub decreases-raise : goal.decreases-raise
decreases-raise l = l.k
