-- An object whose field may be written isn't frozen. For callers.
use Rattle.std.proofs.Common.{◌≡◌, ap, sym, ◌∙◌, inl, inr, Bool as Truth, true, false, true≢false, List, [], ◌∷◌, length, Ok}
use Rattle.rg_base.specs.declared.ty.Ty.{Ty}
use Rattle.rg_base.specs.declared.object.Label.{Label}
use Rattle.rg_base.specs.declared.object.Label.TheVariants.{Region, Temp, Frozen}
use Rattle.rg_base.specs.declared.object.Seen.{Seen}
use Rattle.rg_base.specs.declared.value.Val.{Val}
use Rattle.rg_tree.specs.Tree.{Name, Variable, Tree}
use Rattle.rg_rules.specs.Acceptance.{Accepted}
use Rattle.rg_rules.specs.Paths.{all_but_last, writable_field}
use Rattle.rg_rules.specs.Items.{Item}
use Rattle.rg_rules.specs.State.{Frame, Window, value_in}
use Rattle.rg_rules.specs.Evaluation.{object_at, follow_fields}
use Rattle.rg_sound.specs.Frames.{Running}
use Rattle.rg_sound.specs.Values.{ValuesFit}
use Rattle.rg_sound.specs.Objects.{ObjectsFit}
use Rattle.rg_sound.specs.OpenRegions.{OpenFit}
use Rattle.rg_sound.proofs.Frames.Top.{running-top, top-sees}
use Rattle.rg_sound.proofs.Owners.Receiver.{IsTop, receiver-at}

abbrev is_frozen : Label → Truth
is_frozen (Region r) = false
is_frozen (Temp n) = false
is_frozen Frozen = true

pub top-live : (ws : List Window) (l : Label) → IsTop ws l → l ≡ Frozen → ⊥
top-live [] l h e = absurd h
top-live (w ∷ ws) l (inl h) e = absurd (true≢false (sym (ap is_frozen e) ∙ ap is_frozen h))
top-live (w ∷ ws) l (inr h) e = absurd (true≢false (sym (ap is_frozen e) ∙ ap is_frozen h))

-- it has the label of the topmost window's objects or temporaries
pub writable-live : (t : Tree) → Accepted t → (store : List Seen) (f : Frame) (fs : List Frame) (ws : List Window) (items : List Item)
    (r : Running t f fs ws items) →
    ValuesFit store ws (f ∷ fs) → ObjectsFit t.classes store ws → OpenFit t.classes store (f ∷ fs) ws →
    (x : Variable) (g : Name) (gs : List Name) (ty : Ty) (u : Val) (o : Seen) →
    writable_field t.classes r.spot.env x g gs ≡ Ok ty → follow_fields t.classes store (value_in f.locals x) (all_but_last g gs) ≡ Ok u →
    object_at store u ≡ Ok o → o.label ≡ Frozen → ⊥
writable-live t a store f fs ws items r values objects opened x g gs ty u o writable led there =
    let sees = top-sees t store f fs ws items r (running-top t a store f fs ws items r opened.owned) values in
    top-live ws o.label (receiver-at t.classes store ws (length fs) r.spot.env f.locals objects sees x g gs ty u o writable led there).top
