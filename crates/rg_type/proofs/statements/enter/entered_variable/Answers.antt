use Rattle.std.proofs.lemmas.List.{length-map}
use Rattle.rg_rules.specs.Environment.{lent}
use Rattle.rg_flow.specs.Scope.{marked_slot}
use Rattle.rg_type.proofs.statements.enter.entered_variable.Goals as goal

pub returns-clause-scope : goal.returns-clause-scope
returns-clause-scope c = c.mark.ensures.within c.args.book.now.program c.requires.scope

pub returns-clause-room : goal.returns-clause-room
returns-clause-room c = rw c.mark.ensures.marked (length-map c.args.env.now.slots (marked_slot c.args.entered lent))
