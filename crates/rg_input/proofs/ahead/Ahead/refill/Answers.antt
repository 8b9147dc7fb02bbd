use Rattle.std.proofs.Common.{◌≡◌, ◌∙◌, inr, false, [], take, ap, sym}
use Rattle.rg_input.specs.Numbers.{with_piece}
use Rattle.rg_input.proofs.LookingAhead.{first-piece, nothing-ahead}
use Rattle.rg_input.proofs.ahead.Ahead.refill.Goals as goal

pub returns-in-Ok-clause-asks : goal.returns-in-Ok-clause-asks
returns-in-Ok-clause-asks g c =
    let s = c.self.inside in
    let old : c.args.self.now ≡ record { held = []; ended = false } =
    sym c.self.view_is ∙ nothing-ahead s.piece s.from s.left s.ended c.if-self-gt0.false c.if-self.false in
    let bytes = take c.in-Ok.n c.read.new.buf in
    inr (
      bytes,
      old,
      first-piece c.in-Ok.n c.read.new.buf c.in-Ok.ensures.within ∙ ap (λ n. with_piece n bytes) (sym old),
      c.in-Ok.ensures.replied,
    )
