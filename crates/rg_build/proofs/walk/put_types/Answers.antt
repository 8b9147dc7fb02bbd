use Rattle.std.proofs.Common.{◌∙◌, subst, List, [], ◌∷◌}
use Rattle.rg_base.specs.declared.ty.Ty.{Ty}
use Rattle.rg_build.specs.Inner.Laid.{Lays}
use Rattle.rg_build.proofs.Walking.{types-of}
use Rattle.rg_build.proofs.walk.put_types.Goals as goal

pub returns : goal.returns
returns c t =
    subst (λ (ts : List Ty). Lays c.args.laying.now c.put.new.self (ts ∷ [])) (c.in_ok-types.ensures ∙ types-of t c.args.slots.now)
    c.in_ok-put.ensures
