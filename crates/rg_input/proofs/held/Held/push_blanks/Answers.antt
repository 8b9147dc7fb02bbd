use Rattle.rg_input.proofs.Run.{IsRead-blanks}
use Rattle.rg_input.proofs.held.Held.push_blanks.Goals as goal

pub invariant_of-self : goal.invariant_of-self
invariant_of-self c = record {
  read = IsRead-blanks _ _ _ _ _ _ c.args.self.now.read c.blank_run-n.ensures.run c.append.ensures;
}
