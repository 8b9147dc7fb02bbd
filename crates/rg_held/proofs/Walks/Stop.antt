-- Where a walk stops, the two machines match at the next step's mark, or at the program's end.
use Rattle.std.proofs.Common.{◌≡◌, ℕ, inl, inr, Bool, List, [], Option, Some, None, arith, refl}
use Rattle.rg_base.specs.declared.value.Val.{Val}
use Rattle.rg_code.specs.declared.op.Op.{Op}
use Rattle.rg_code.specs.declared.op.Op.TheVariants as i
use Rattle.rg_stack.specs.Machine.{Machine}
use Rattle.rg_stack.specs.Tops.{Work}
use Rattle.rg_stack.specs.Runs.{Lost, come_to, stopped}
use Rattle.rg_held.specs.Part.{Part}
use Rattle.rg_held.specs.Ends.{Match, SameStep}
use Rattle.rg_held.proofs.Parts.Part.{part-beside, slot-over}

-- both stand at another address
part-at : (held : ℕ → Bool) (owners : List Val) (f m : Machine) (stack : List Val) (at : ℕ) → Part held owners f m stack
    → Part held owners (record f { at = at }) (record m { at = at }) stack
part-at held owners f m stack at p =
    part-beside held owners f m stack p f.frames m.frames f.managers m.managers at at owners stack p.frames refl p.managers_made (omega arith)
    p.open_managers p.held_managers p.slots p.on_stack (λ r c s. inl (slot-over m (record m { at = at }) r s s.holder_there s.into))
    (λ r c any. inr any)

stopped-match : (at : ℕ) (u w : Work) → Match [] u w [] → Match [] (stopped at u) (stopped at w) []
stopped-match at u w m = (
  m.0,
  record { machine = part-at m.0 [] u.machine w.machine [] at m.1.machine; input = m.1.input; printed = m.1.printed },
)

-- where the code leads on
pub come-same : (o : Option Op) (at : ℕ) (u w : Work) → (come_to o (stopped at w) ≡ Lost → ⊥) → Match [] u w []
    → SameStep (come_to o (stopped at u)) (come_to o (stopped at w))
come-same None at u w h m = absurd (h refl)
come-same (Some (i.Mark line)) at u w h m = stopped-match at u w m
come-same (Some i.Halt) at u w h m = stopped-match at u w m
come-same (Some o) at u w h m = absurd (h refl)
