-- What stands on top of the stack, and beneath.
use Rattle.std.proofs.Common.{◌≡◌, ◌∷◌, sym, ap, ◌∙◌}
use Rattle.rg_base.specs.declared.value.Val.{Val}
use Rattle.rg_machine.specs.Core.{Core, below_top, with_top}

-- the topmost value of a stack
pub stack-top : (c : Core) (v : Val) → c ≡ with_top (below_top c) v → (x : Val) × (c.stack ≡ x ∷ (below_top c).stack)
stack-top c v e = (v, ap (λ (d : Core). d.stack) e)

-- beneath the topmost of two values stands the other one
pub behind-pop : (old mid under : Core) (x y w : Val) → old ≡ with_top (with_top under x) y → old ≡ with_top mid w → mid ≡ with_top under x
behind-pop old mid under x y w two one = sym (ap below_top one) ∙ ap below_top two

pub beneath-pop : (old mid under : Core) (x y w : Val) → old ≡ with_top (with_top under x) y → old ≡ with_top mid w
    → (v : Val) × (mid.stack ≡ v ∷ (below_top mid).stack)
beneath-pop old mid under x y w two one =
    let e = behind-pop old mid under x y w two one in
    (x, ap (λ (d : Core). d.stack) e ∙ sym (ap (λ (d : Core). x ∷ (below_top d).stack) e))
