-- Steps of a run written out, and that what each leaves fits; the edits of must-fail/ write them wrongly, and the part that is meant refuses.
use Rattle.std.proofs.Common.{◌≡◌, refl, ℕ, suc, pos, true, List, [], ◌∷◌, length, Some, None, codes}
use Rattle.rg_base.specs.declared.ty.Ty.TheVariants.{Ref}
use Rattle.rg_base.specs.declared.words.Cap.TheVariants as cap
use Rattle.rg_base.specs.declared.object.Label.TheVariants as label
use Rattle.rg_base.specs.declared.object.Place.TheVariants as place
use Rattle.rg_base.specs.declared.value.Val.TheVariants as val
use Rattle.rg_tree.specs.Tree.{Class}
use Rattle.rg_rules.specs.Acceptance.{first_fault}
use Rattle.rg_rules.specs.State.{Window, State, locals_of, value_in, add_local, put_local, active, top_number}
use Rattle.rg_rules.specs.Regions.{beneath, relabelled}
use Rattle.rg_rules.specs.RightSides.{made, consumed}
use Rattle.rg_rules.specs.Steps.{put_field}
use Rattle.rg_rules.specs.Runs.{plain_from, plain, opening}
use Rattle.rg_sound.proofs.Examples.Programs.{inner}
use Rattle.rg_sound.proofs.Examples.Twin.{looked_at, fails, writes_within}

accepted : first_fault inner ≡ None
accepted = refl

-- all 21 states of the run fit
each : looked_at inner 20 (opening inner []) ≡ (21, 0)
each = refl

abbrev classes : List Class
classes = inner.classes

-- the state after so many steps
abbrev at : ℕ → State
at k = (plain inner [] k).state

-- the same, where the next statement is taken away
abbrev behind : ℕ → State
behind k = record (at k) { items = (at (suc k)).items }

-- `k = 1` in the body of `enter y`: a variable that isn't entered
abbrev assigned : State
assigned = put_local (Some (codes "k")) (behind 4) (val.Int (pos 1))

assigned-fits : fails inner assigned ≡ []
unfolding plain_from
assigned-fits = refl

-- `z.v = 3`: an object of the active region
abbrev written : State
written = put_field classes (val.Obj 1) (codes "v") (behind 5) (val.Int (pos 3))

written-allowed : writes_within (at 5) written ≡ true
unfolding plain_from
written-allowed = refl

-- `let t: tmp T = new tmp T`: a temporary of the topmost window
abbrev temporary : State
temporary = made classes (behind 6) (add_local (Some (codes "t")) (Ref cap.Tmp 1)) (codes "T") (label.Temp (top_number (at 6).windows))

temporary-fits : fails inner temporary ≡ []
unfolding plain_from
temporary-fits = refl

-- `let b: mut D = merge n`: the objects of region 2 go to the active one
abbrev merges : State → State
merges s = record s { store = relabelled (2 ∷ []) (label.Region (active s.windows)) s.store }

merge-fits : fails inner (consumed (behind 8) (add_local (Some (codes "b")) (Ref cap.Mut 0)) (Some (codes "n")) (Some (merges (behind 8)))) ≡ []
unfolding plain_from
merge-fits = refl

-- `swap d, self.down`: the field takes the variable's value, and the variable the field's
abbrev exchanged : State → State
exchanged s = put_local (Some (codes "d")) (put_field classes (val.Obj 1) (codes "down") s (value_in (locals_of s) (Some (codes "d")))) val.Nil

swap-fits : fails inner (exchanged (behind 12)) ≡ []
unfolding plain_from
swap-fits = refl

-- `enter self.down as u` in a method: the window names the field, and its base is in the method's frame
abbrev opened : Window
opened = record { number = 2; region = 3; owner = Some (place.Field 1 2); base_frame = 1; base_place = 2 }

enter-fits : fails inner (record (at 14) { windows = opened ∷ (at 13).windows }) ≡ []
unfolding plain_from
enter-fits = refl

-- `let i: imm D = freeze y`: the region and all beneath it are frozen
abbrev freezes : State → State
freezes s = record s { store = relabelled (beneath classes s.store (length s.managers) (1 ∷ [])) label.Frozen s.store }

freeze-fits : fails inner (consumed (behind 18) (add_local (Some (codes "i")) (Ref cap.Imm 0)) (Some (codes "y")) (Some (freezes (behind 18)))) ≡ []
unfolding plain_from
freeze-fits = refl
