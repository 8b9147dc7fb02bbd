-- A step's code may collect exactly where the first item may. For callers.
use Rattle.std.proofs.Common.{◌≡◌, inl, inr, List, [], ◌∷◌, refl, sym, ap, subst, ◌∙◌}
use Rattle.rg_tree.specs.Tree.{stmt, Tree}
use Rattle.rg_rules.specs.Acceptance.{Accepted}
use Rattle.rg_rules.specs.Items.{Item, Do}
use Rattle.rg_rules.specs.State.{Frame as Body, Window as Opened}
use Rattle.rg_sound.specs.Frames.{FramesFit}
use Rattle.rg_stack.specs.Dues.{first_due}
use Rattle.rg_stack.specs.Laws.{StepsDue}
use Rattle.rg_stack.specs.Left.{SomeLeft}
use Rattle.rg_stack.proofs.Judgements.Begin.{here-judged}
use Rattle.rg_stack.proofs.Judgements.Make.{kind-written}
use Rattle.rg_stack.proofs.Refusals.Item.{first_written, all-tells}

-- the first item of a state that fits may where its form says so
first-written : (t : Tree) → Accepted t → (fs : List Body) (ws : List Opened) (items : List Item) → SomeLeft items → FramesFit t fs ws items
    → first_due t.classes items ≡ first_written items
first-written t accepted fs ws [] left frames = refl
first-written t accepted [] ws (j ∷ rest) left frames = absurd frames
first-written t accepted (f ∷ fs) ws (Do (stmt line k) ∷ rest) left (inl h) =
    let judged = here-judged t accepted f fs ws line k rest h in
    kind-written t.classes judged.last line h.spot.env judged.out k judged.right
first-written t accepted (f ∷ fs) ws (j ∷ rest) left (inr h) = absurd (subst SomeLeft h.no_item left)
first-written t accepted (f ∷ fs) ws (j ∷ rest) left (inl h) = refl

pub steps-due : StepsDue
steps-due t code m p accepted fit shows left =
    ap (λ q. q.1) (all-tells t code.ops m.at m.frames p.frames p.windows p.items left fit.frames shows.slots shows.places)
    ∙ sym (first-written t accepted p.frames p.windows p.items left fit.frames)
