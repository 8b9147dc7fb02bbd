-- Each part of the invariant refuses a state by its own words: six false states. Of those of a run `Runs` says that the other parts hold.
use Rattle.std.proofs.Common.{◌≡◌, refl, sym, ◌∙◌, ap, subst, inl, inr, ℕ, ◌<◌, List, [], ◌∷◌, ◌++◌, length, Option, Some, None, option_map}
use Rattle.std.proofs.Common.{option_and_then, slice_get, arith}
use Rattle.std.proofs.lemmas.Option.{same_Some}
use Rattle.rg_base.specs.declared.words.Manager.TheVariants as manager
use Rattle.rg_base.specs.declared.ty.Ty.{Ty}
use Rattle.rg_base.specs.declared.ty.Ty.TheVariants as ty
use Rattle.rg_base.specs.declared.object.Label.{Label}
use Rattle.rg_base.specs.declared.object.Label.TheVariants as label
use Rattle.rg_base.specs.declared.object.Place.{Place}
use Rattle.rg_base.specs.declared.object.Place.TheVariants as place
use Rattle.rg_base.specs.declared.object.Seen.{Seen}
use Rattle.rg_base.specs.declared.value.Val.TheVariants as val
use Rattle.rg_tree.specs.Tree.{empty, Class, Tree}
use Rattle.rg_rules.specs.Types.{type_of}
use Rattle.rg_rules.specs.Items.{Item, EndAt}
use Rattle.rg_rules.specs.Bodies.{Body, main_body}
use Rattle.rg_rules.specs.Points.{Point, here, behind, inside, Spot, spot_at}
use Rattle.rg_rules.specs.State.{Frame, Window, State}
use Rattle.rg_rules.specs.Regions.{region_of, region_at}
use Rattle.rg_rules.specs.Owners.{Forest, leads_into}
use Rattle.rg_rules.specs.Runs.{plain_from, opening}
use Rattle.rg_sound.specs.Frames.{FramesFit}
use Rattle.rg_sound.specs.Values.{Leads, MeetsBy, ValuesFit}
use Rattle.rg_sound.specs.Objects.{FieldFits, FieldsMeet, fields_in, ObjectsFit}
use Rattle.rg_sound.specs.OpenRegions.{IsOwned, OpenFit}
use Rattle.rg_sound.specs.Bridges.{BridgesFit}
use Rattle.rg_sound.specs.Numbers.{NumbersFit}
use Rattle.rg_sound.proofs.Basics.{none-some}
use Rattle.rg_sound.proofs.Opening.{opening-fits}
use Rattle.rg_sound.proofs.Owners.Data.{Data, fit-data}
use Rattle.rg_sound.proofs.Held.{slot-meets}
use Rattle.rg_sound.proofs.Law.{run-fits}
use Rattle.rg_sound.proofs.Examples.Programs.{all_kinds}
use Rattle.rg_sound.proofs.Examples.Runs.{accepted, at, with_value, label_at}

-- What can't be

leads-label : (store : List Seen) (a class : ℕ) (F : Label → Type 0) (o : Seen) → slice_get store a ≡ Some o → Leads store a class F → F o.label
leads-label store a class F o there h =
    let P : Seen → Type 0 = λ q. F q.label in subst P (sym (same_Some o h.object (sym there ∙ h.there))) h.label_fits

not_first : label.Region 1 ≡ label.Region 0 → ⊥
not_first e = let n : ◌≡◌ {A = ℕ} 1 0 = grind arith in absurd (omega (arith, n))

-- the field of a frozen object that leads into a region
leads-frozen : (classes : List Class) (store : List Seen) (ws : List Window) → ObjectsFit classes store ws → (a k b r : ℕ) →
    option_map (λ (o : Seen). o.label) (slice_get store a) ≡ Some label.Frozen →
    option_and_then (λ (o : Seen). slice_get o.fields k) (slice_get store a) ≡ Some (val.Obj b) → region_at store b ≡ Some r → ⊥
leads-frozen classes store ws fits a k b r frozen leads lies = by (slice_get store a) refl frozen leads
  where
    apart : (l : Label) → region_of l ≡ Some r → l ≡ label.Frozen → ⊥
    apart l e f = none-some (ap region_of (sym f) ∙ e)

    of_type : (t : Ty) → MeetsBy store (λ cap l. l ≡ label.Frozen) t (val.Obj b) → ⊥
    of_type ty.Int m = m
    of_type ty.Bool m = m
    of_type (ty.Ref cap c) m =
        apart m.object.label (ap (option_and_then (λ (q : Seen). region_of q.label)) (sym m.there) ∙ lies) m.label_fits

    by : (o : Option Seen) → slice_get store a ≡ o → option_map (λ (q : Seen). q.label) o ≡ Some label.Frozen →
        option_and_then (λ (q : Seen). slice_get q.fields k) o ≡ Some (val.Obj b) → ⊥
    by None there f e = none-some f
    by (Some o) there f e =
        let P : Label → Type 0 = λ q. FieldsMeet classes store (FieldFits ws q) (fields_in classes (fits a o there).class o) o.fields in
        let m = slot-meets classes store (λ cap l. l ≡ label.Frozen) (fields_in classes (fits a o there).class o) o.fields k (val.Obj b)
        (subst P (same_Some o.label label.Frozen f) (fits a o there).fields) e in
        of_type (type_of classes m.field.ty) m.meets

no_field : place.Var 0 2 ≡ place.Field 0 2 → ⊥
no_field e = grind arith

not_below : 1 < 1 → ⊥
not_below l = absurd (omega (arith, l))

unowned : (classes : List Class) (store : List Seen) (frames : List Frame) (w beneath : Window) (p : Place) → w.owner ≡ Some p →
    leads_into classes store frames p ≡ None → ¬ IsOwned classes store frames w beneath
unowned classes store frames w beneath p owner nothing h =
    let at : h.place ≡ p = same_Some h.place p (sym h.named ∙ owner) in
    let P : Place → Type 0 = λ q. leads_into classes store frames q ≡ Some w.region in
    none-some (sym nothing ∙ subst P at ((h.exact h.place).1 refl))

-- Frames

-- main arena { }
abbrev quiet : Tree
quiet = record { classes = []; manager = manager.Arena; body = empty; line = 1 }

-- its block ends with a variable that isn't there
abbrev ends_wrong : State
ends_wrong = record (opening quiet []) { items = EndAt 1 ∷ [] }

not_end : (first : Item) (more rest : List Item) → EndAt 0 ∷ [] ≡ first ∷ more → EndAt 1 ∷ [] ≡ first ∷ more ++ rest → ⊥
not_end first more rest a b =
    let zeroth : first ≡ EndAt 0 = grind arith in
    let one : first ≡ EndAt 1 = grind arith in
    let same : EndAt 0 ≡ EndAt 1 = sym zeroth ∙ one in
    let n : ◌≡◌ {A = ℕ} 0 1 = grind arith in
    absurd (omega (arith, n))

no_spot : (p : Point) (spot : Spot) (first : Item) (more rest : List Item) → spot_at [] (main_body quiet) p ≡ Some spot →
    spot.items ≡ first ∷ more → EndAt 1 ∷ [] ≡ first ∷ more ++ rest → ⊥
no_spot here spot first more rest is begins items =
    not_end first more rest (ap (λ (q : Spot). q.items) (same_Some _ spot is) ∙ begins) items
no_spot (behind p) spot first more rest is begins items = none-some is
no_spot (inside side p) spot first more rest is begins items = none-some is

frames-refused : ¬ FramesFit quiet ends_wrong.frames ends_wrong.windows ends_wrong.items
frames-refused (inl r) =
    let P : Body → Type 0 = λ b. spot_at [] b r.point ≡ Some r.spot in
    no_spot r.point r.spot r.first r.more r.rest (subst P r.beneath.0 r.spot_is) r.begins r.items_are
frames-refused (inr e) = let no_items : EndAt 1 ∷ [] ≡ [] = e.no_item in grind arith

-- the other six parts hold
frames-alone : Data [] ends_wrong.store ends_wrong.frames ends_wrong.windows (length ends_wrong.managers) ends_wrong.windows_made
frames-alone = fit-data quiet (opening quiet []) (opening-fits quiet [])

-- Values

-- a `mut` variable leads into another region
abbrev leads_wrong : State
leads_wrong = record (at 4) { frames = with_value 0 (val.Obj 1) (at 4).frames }

values-refused : ¬ ValuesFit leads_wrong.store leads_wrong.windows leads_wrong.frames
unfolding plain_from
values-refused h = not_first (leads-label _ 1 0 _ _ refl (h.0 0 _ refl))

-- Objects

-- a frozen object leads to one of a region
abbrev frozen_wrong : List Seen
frozen_wrong = label_at 4 (label.Region 3) (at 35).store

objects-refused : ¬ ObjectsFit all_kinds.classes frozen_wrong (at 35).windows
unfolding plain_from
objects-refused h =
    leads-frozen all_kinds.classes frozen_wrong (at 35).windows h 1 2 4 3 refl refl refl

-- Open regions

-- an entered variable was assigned
abbrev lent_wrong : State
lent_wrong = record (at 9) { frames = with_value 1 val.Nil (at 9).frames }

opened-refused : ¬ OpenFit all_kinds.classes lent_wrong.store lent_wrong.frames lent_wrong.windows
unfolding plain_from
opened-refused h =
    unowned all_kinds.classes lent_wrong.store lent_wrong.frames _ _ (place.Var 0 1) refl refl h.owned.0

-- Forest

-- a variable and a field own one region
abbrev owned_wrong : State
owned_wrong = record (at 4) { frames = with_value 2 (val.Obj 2) (at 4).frames }

forest-refused : ¬ Forest all_kinds.classes owned_wrong.store owned_wrong.frames
unfolding plain_from
forest-refused h = no_field (h.one_owner (place.Var 0 2) (place.Field 0 2) 2 refl refl)

-- Numbers

-- the number of the topmost window wasn't given
abbrev given_wrong : State
given_wrong = record (at 9) { windows_made = 1 }

numbers-refused : ¬ NumbersFit given_wrong.store given_wrong.windows (length given_wrong.managers) given_wrong.windows_made
unfolding plain_from
numbers-refused h = not_below (h.given 0 _ refl).number

-- the other six parts hold
pub record AllButNumbers (t : Tree) (s : State) : Type 0 where
  pub frames : FramesFit t s.frames s.windows s.items
  pub values : ValuesFit s.store s.windows s.frames
  pub objects : ObjectsFit t.classes s.store s.windows
  pub opened : OpenFit t.classes s.store s.frames s.windows
  pub bridges : BridgesFit t.classes s.store s.frames s.windows
  pub forest : Forest t.classes s.store s.frames

numbers-alone : AllButNumbers all_kinds given_wrong
numbers-alone =
    let f = run-fits all_kinds accepted [] 9 in
    record { frames = f.frames; values = f.values; objects = f.objects; opened = f.opened; bridges = f.bridges; forest = f.forest }
