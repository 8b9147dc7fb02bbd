-- A step's code asks for the input exactly where the first item does. For callers.
use Rattle.std.proofs.Common.{◌≡◌, ℕ, zero, suc, true, false, true≢false, List, [], ◌∷◌, drop, refl, sym, ap}
use Rattle.rg_code.specs.declared.op.Op.{Op}
use Rattle.rg_code.specs.declared.op.Op.TheVariants as i
use Rattle.rg_stack.specs.Reads.{reads}
use Rattle.rg_stack.specs.Refusals.{manner, computes, all_compute}
use Rattle.rg_stack.specs.Laws.{StepsAsk}
use Rattle.rg_stack.proofs.Basics.{and-left, and-right}
use Rattle.rg_stack.proofs.Refusals.Item.{all-tells}

pub steps-ask : StepsAsk
steps-ask t code m p fit shows left =
    ap (λ q. q.0) (all-tells t code.ops m.at m.frames p.frames p.windows p.items left fit.frames shows.slots shows.places)

-- instructions that work on the stack alone are passed over
pub reads-skip : (n : ℕ) (os : List Op) → all_compute n os ≡ true → reads os ≡ false → reads (drop n os) ≡ false
reads-skip zero os a h = h
reads-skip (suc n) [] a h = refl
reads-skip (suc n) (o ∷ os) a h = reads-skip n os (and-right _ _ a) (by o (and-left _ _ a) h)
  where
    by : (o : Op) → computes (manner o) ≡ true → reads (o ∷ os) ≡ false → reads os ≡ false
    by (i.Mark line) c h = absurd (true≢false (sym c))
    by (i.Jump t) c h = absurd (true≢false (sym c))
    by (i.Call m) c h = absurd (true≢false (sym c))
    by i.Ret c h = absurd (true≢false (sym c))
    by i.RetVoid c h = absurd (true≢false (sym c))
    by i.Halt c h = absurd (true≢false (sym c))
    by i.Read c h = absurd (true≢false (sym c))
    by i.More c h = absurd (true≢false h)
    by o c h = h
