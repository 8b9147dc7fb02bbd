use Rattle.std.proofs.Common.{◌≡◌, ◌+◌, drop, refl, sym, ap, ◌∙◌, arith}
use Rattle.rg_io.proofs.Piece.{drop-moved}
use Rattle.rg_io.proofs.mem_source.MemSourceSource.read.Goals as goal

pub returns-clause-gave : goal.returns-clause-gave
returns-clause-gave c =
    let n = c.min-n.result in
    let at = c.self.inside.given in
    let bytes = c.self.inside.bytes.items in
    let left_is : c.bytes_from-left.result.now ≡ drop at bytes = c.bytes_from-left.ensures ∙ ap (drop at) c.deref.ensures.value in (
      drop (at + n) bytes,
      drop-moved _ _ _ bytes _ at n (sym (ap (λ s. s.left) c.self.view_is)) left_is (omega arith) c.copy_first.ensures,
      refl,
    )

pub returns-clause-replied : goal.returns-clause-replied
returns-clause-replied c = (returns-clause-gave c, rw (← c.self.view_is, c.in_ok-count.ensures.passed) refl)
