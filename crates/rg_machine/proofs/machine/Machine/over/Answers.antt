use Rattle.std.proofs.Common.{subst, sym}
use Rattle.std.proofs.lemmas.Option.{none-some}
use Rattle.rg_machine.specs.Stands.{AllLead}
use Rattle.rg_machine.proofs.machine.Machine.over.Goals as goal

pub invariant_of-result : goal.invariant_of-result
invariant_of-result c = (c.requires, subst (AllLead c.args.heap c.args.frames) (sym c.new.ensures.items) (λ k w e. absurd (none-some w e)))
