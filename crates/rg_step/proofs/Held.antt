-- What is seen of a stepper, with a machine or none.
use Rattle.std.proofs.Common.{◌≡◌, Option, Some, None, sym, ap, ◌∙◌, subst}
use Rattle.rg_machine.specs.Parts.{Parts}
use Rattle.rg_step.specs.declared.kept.Kept.{Kept}
use Rattle.rg_step.specs.Inner.Held.{parts_of, stepping}
use Rattle.rg_step.specs.Steps.{IsResting}
use Rattle.rg_step.specs.Stepping.{Stepping, nothing}

pub shows-some : (o : Option Parts) (p : Parts) (k : Kept) (s : Stepping) → o ≡ Some p → stepping (parts_of o) k ≡ s → stepping p k ≡ s
shows-some o p k s e is = ap (λ q. stepping (parts_of q) k) (sym e) ∙ is

pub shows-none : (o : Option Parts) (k : Kept) (s : Stepping) → o ≡ None → stepping (parts_of o) k ≡ s → stepping nothing k ≡ s
shows-none o k s e is = ap (λ q. stepping (parts_of q) k) (sym e) ∙ is

pub rests-some : (o : Option Parts) (p : Parts) → o ≡ Some p → IsResting (parts_of o) → IsResting p
rests-some o p e r = subst (λ q. IsResting (parts_of q)) e r
