use Rattle.std.proofs.Common.{◌≡◌, ◌-◌, ◌≤◌, length}
use Rattle.rg_input.specs.Numbers.{Follows, IsSure, PiecesCame}
use Rattle.rg_input.specs.Inner.Held.{looked_at, pending, Reads}
use Rattle.rg_input.proofs.held.Held.fill.Given as goal

abbrev pub invariant-loop-ahead : goal.invariant-loop-ahead
invariant-loop-ahead g l = record {
  follows : Follows l.ahead (g.S.Source.left l.source);
  reads : Reads (g.S.Source.left l.fn.source) (g.S.Source.left l.source) (pending l.fn.self l.fn.ahead) (pending l.self l.ahead);
  idle : IsSure (pending l.fn.self l.fn.ahead) → pending l.self l.ahead ≡ pending l.fn.self l.fn.ahead;
  unasked : IsSure (pending l.fn.self l.fn.ahead) → l.source ≡ l.fn.source;
  asked : PiecesCame g.S.Source.replies (pending l.fn.self l.fn.ahead) l.fn.source (pending l.self l.ahead) l.source;
  quiet : g.S.Source.faults l.source ≡ g.S.Source.faults l.fn.source;
  never_falls : g.S.Source.faults l.fn.source ≤ g.S.Source.faults l.source;
}

abbrev pub decreases-loop-ahead : goal.decreases-loop-ahead
decreases-loop-ahead g l = 4119 - length (looked_at l.self)
