use Rattle.std.proofs.Common.{arith}
use Rattle.rg_reader.proofs.Firsts.{list-first, first-is, no-next, other-next}
use Rattle.rg_reader.proofs.reader.Reader.first.Goals as goal

pub slice_bounds-rest-count : goal.slice_bounds-rest-count
slice_bounds-rest-count c = omega (arith, c.in-len1-up.len_at_least)

pub bounds-token-0 : goal.bounds-token-0
bounds-token-0 c = omega (arith, c.in-len1-up.len_at_least)

pub slice_bounds-rest-start : goal.slice_bounds-rest-start
slice_bounds-rest-start c = omega (arith, c.in-len1-up.len_at_least)

pub slice_bounds-rest-end : goal.slice_bounds-rest-end
slice_bounds-rest-end c = omega (arith, c.in-len1-up.len_at_least)

pub returns-in-empty : goal.returns-in-empty
returns-in-empty c = rw (← c.self.view_is) (no-next _ _ c.in-empty.len_below)

pub returns-then-is_same : goal.returns-then-is_same
returns-then-is_same c =
    rw (← c.self.view_is) (first-is c.self.invariant.0 (list-first _ c.self.inside.rest.now c.in-len1-up.len_at_least) c.if-is_same.ensures)

pub returns-else-is_same : goal.returns-else-is_same
returns-else-is_same c = rw (← c.self.view_is) (other-next _ _ _ c.in-len1-up.len_at_least c.if-is_same.ensures)
