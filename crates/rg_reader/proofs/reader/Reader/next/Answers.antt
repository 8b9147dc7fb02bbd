use Rattle.std.proofs.Common.{sym, arith}
use Rattle.rg_reader.proofs.Firsts.{next-some, next-empty}
use Rattle.rg_reader.proofs.reader.Reader.next.Goals as goal

pub bounds-token-0 : goal.bounds-token-0
bounds-token-0 c = omega (arith, c.in-len1-up.len_at_least)

pub returns-in-len1-up : goal.returns-in-len1-up
returns-in-len1-up c = rw (← c.self.view_is) (next-some _ _ c.in-len1-up.len_at_least)

pub returns-in-empty : goal.returns-in-empty
returns-in-empty c = rw (← c.self.view_is) (sym (next-empty _ c.in-empty.len_below))
