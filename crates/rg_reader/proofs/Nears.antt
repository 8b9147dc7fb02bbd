-- The counts stay near their limits behind each token.
use Rattle.std.proofs.Common.{◌≡◌, ◌+◌, nat_lt, Bool, true, false, Ok, arith}
use Rattle.rg_base.specs.declared.words.Keyword.TheVariants as w
use Rattle.rg_base.specs.declared.words.Sign.TheVariants as s
use Rattle.rg_base.specs.declared.token.Kind.{Kind}
use Rattle.rg_base.specs.declared.token.Kind.TheVariants as k
use Rattle.rg_base.specs.declared.fault.Code.TheVariants as code
use Rattle.rg_base.specs.declared.limits.TheConstants.{BRACKETS}
use Rattle.rg_tree.specs.declared.counts.Counts.{Counts}
use Rattle.rg_tree.specs.Counts.{within, opened, closed, method_begins, main_begins, behind}
use Rattle.rg_reader.specs.Near.{IsNear}

near-opened : (c d : Counts) → IsNear c → opened c ≡ Ok d → IsNear d
near-opened c d n e = go (nat_lt c.brackets BRACKETS) e
  where
    go : (v : Bool) → within v code.Nesting (record c { brackets = c.brackets + 1 }) ≡ Ok d → IsNear d
    go true e = let h : record c { brackets = c.brackets + 1 } ≡ d = cc in rw (← h) (record { params = n.params; names = n.names })
    go false e = cc

near-closed : (c d : Counts) → IsNear c → behind (k.Mark s.CloseBrace) c ≡ Ok d → IsNear d
near-closed c d n e = let h : closed c ≡ d = cc in rw (← h) (record { params = n.params; names = n.names })

pub near-behind : (x : Kind) (c d : Counts) → IsNear c → behind x c ≡ Ok d → IsNear d
near-behind (k.Mark s.OpenBrace) c d n e = near-opened c d n e
near-behind (k.Mark s.OpenParen) c d n e = near-opened c d n e
near-behind (k.Mark s.OpenBracket) c d n e = near-opened c d n e
near-behind (k.Mark s.CloseBrace) c d n e = near-closed c d n e
near-behind (k.Mark s.CloseParen) c d n e = near-closed c d n e
near-behind (k.Mark s.CloseBracket) c d n e = near-closed c d n e
near-behind (k.Word w.Def) c d n e = let h : method_begins c ≡ d = cc in rw (← h) (record { params = omega arith; names = omega arith })
near-behind (k.Word w.Main) c d n e = let h : main_begins c ≡ d = cc in rw (← h) (record { params = n.params; names = omega arith })
near-behind x c d n e = let h : c ≡ d = cc in rw (← h) n
