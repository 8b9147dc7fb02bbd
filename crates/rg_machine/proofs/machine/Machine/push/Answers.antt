use Rattle.std.proofs.Common.{sym, subst}
use Rattle.rg_machine.specs.Parts.{Parts}
use Rattle.rg_machine.specs.Stands.{Leads}
use Rattle.rg_machine.proofs.Callers.Word.{leads-pushed}
use Rattle.rg_machine.proofs.machine.Machine.push.Goals as goal

pub invariant_of-self : goal.invariant_of-self
invariant_of-self c =
    let m = c.self.inside in
    let P : Parts → Type 0 = λ n. Leads n.heap n.frames c.args.w in (
      c.self.invariant.0,
      leads-pushed m.heap m.frames m.stack.items c.push.new.self.items c.args.w _ c.push.ensures.items c.self.invariant.1
          (subst P (sym c.self.view_is) c.requires),
    )
