-- `freeze y` as a right side.
use Rattle.std.proofs.Common.{◌≡◌, ◌≢◌, refl, sym, ◌∙◌, ap, subst, inl, inr, ℕ, List, [], ◌∷◌, length, Some, option_map, option_and_then, slice_get}
use Rattle.std.proofs.Common.{Ok, arith}
use Rattle.rg_base.specs.declared.words.Cap.TheVariants.{Imm, Iso}
use Rattle.rg_base.specs.declared.ty.Ty.{Ty}
use Rattle.rg_base.specs.declared.ty.Ty.TheVariants as ty
use Rattle.rg_base.specs.declared.object.Label.TheVariants.{Frozen}
use Rattle.rg_base.specs.declared.object.Place.{Place}
use Rattle.rg_base.specs.declared.object.Place.TheVariants.{Field}
use Rattle.rg_base.specs.declared.object.Seen.{Seen}
use Rattle.rg_base.specs.declared.value.Val.{Val}
use Rattle.rg_base.specs.declared.value.Val.TheVariants as val
use Rattle.rg_tree.specs.Tree.{Name, freeze, Class}
use Rattle.rg_rules.specs.Capabilities.{is_iso}
use Rattle.rg_rules.specs.State.{Frame, Window, State, locals_of, top_locals, with_top, value_in, place_in, set_in, put_local}
use Rattle.rg_rules.specs.Regions.{region_of, region_at, address, beneath, relabelled, relabelled_object}
use Rattle.rg_rules.specs.RightSides.{frozen, consumed}
use Rattle.rg_rules.specs.Evaluation.{object_at}
use Rattle.rg_rules.specs.Owners.{leads_into}
use Rattle.rg_rules.proofs.Answers.{bind-ok}
use Rattle.rg_rules.proofs.Region.{slice_get-relabelled, class-relabelled_object}
use Rattle.rg_sound.specs.Values.{LabelFits, Meets}
use Rattle.rg_sound.proofs.Frames.Named.{Named-set_in, first-at}
use Rattle.rg_sound.proofs.Values.Value.{seen-meets}
use Rattle.rg_sound.proofs.Owners.Data.{Data}
use Rattle.rg_sound.proofs.Frames.Top.{top-sees, top-not_owner}
use Rattle.rg_sound.proofs.Values.Right.{Gives, not_iso-fresh, take-variable, ready-not_lent}
use Rattle.rg_sound.proofs.Values.Assign.{RightGives}
use Rattle.rg_sound.proofs.Owners.Enter.{iso-type, seen-iso, owned-object}
use Rattle.rg_sound.proofs.Owners.Open.{IsOpenIn, above-open, open-owned}
use Rattle.rg_sound.proofs.Stores.Consume.{judge_consumed-parts, allowed-relabelled, keeps-relabelled}
use Rattle.rg_sound.proofs.Stores.Member.{In, not-among}
use Rattle.rg_sound.proofs.Stores.Beneath.{region-given, beneath-closed, beneath-start, beneath-from, beneath-above}
use Rattle.rg_sound.proofs.Stores.FrozenLabel.{frozen_label, frozen-in, frozen-object}
use Rattle.rg_sound.proofs.Stores.Frozen.{LiesIn, frozen-data}
use Rattle.rg_sound.proofs.Owners.Bridge.{classes-relabelled}

-- What hangs beneath a region that nothing owns
module _ (classes : List Class) (store : List Seen) (frames : List Frame) (ws : List Window) (regions made g : ℕ)
    (d : Data classes store frames ws regions made)
    (unowned : (q : Place) → ¬ (leads_into classes store frames q ≡ Some g)) (above_first : g ≢ 0) where
  alone : (r : ℕ) → In r (g ∷ []) → g ≡ r
  alone r (inl e) = e
  alone r (inr h) = absurd h

  not_open : IsOpenIn ws g → ⊥
  not_open h = elim (open-owned classes store frames ws d.opened.owned g h) [ inl e ↦ above_first e | inr o ↦ unowned o.0 o.1 ]

  -- none of it is open
  pub beneath-shut : (r : ℕ) → IsOpenIn ws r → In r (beneath classes store regions (g ∷ [])) → ⊥
  beneath-shut r h i =
      let P : ℕ → Type 0 = λ q. IsOpenIn ws q in
      elim (beneath-above classes store regions (g ∷ []) r i) [
        | inl start ↦ not_open (subst P (sym (alone r start)) h)
        | inr q ↦ not_open (subst P (sym (alone q.0 q.1)) (above-open classes store frames ws d.opened.owned d.forest.none_into_first q.0 r q.2 h))
      ]

  -- it is owned only from each other
  pub beneath-owners : (p : Place) (r : ℕ) → In r (beneath classes store regions (g ∷ [])) → leads_into classes store frames p ≡ Some r →
      LiesIn store (beneath classes store regions (g ∷ [])) p
  beneath-owners p r i h = elim (beneath-from classes store regions (g ∷ []) r i) [
    | inl start ↦ absurd (unowned p (h ∙ ap Some (sym (alone r start))))
    | inr q ↦
        (let P : Place → Type 0 = λ z. LiesIn store (beneath classes store regions (g ∷ [])) z in
        subst P (sym (d.forest.one_owner p (Field q.2.object q.2.field) r h q.2.leads)) (q.0, q.2.lies, q.1))
  ]

  pub freeze-data : Data classes (relabelled (beneath classes store regions (g ∷ [])) Frozen store) frames ws regions made
  freeze-data = frozen-data (beneath classes store regions (g ∷ [])) classes store frames ws regions made d
      (beneath-closed classes store regions (λ b r e. region-given classes store frames ws regions made d b r e) (g ∷ [])) beneath-shut beneath-owners

pub freeze-righted : (y : Name) → RightGives (freeze y)
freeze-righted y t s f fs later run top at d target put wanted j typed u h =
    let p = judge_consumed-parts run.spot.env wanted Imm y j typed in
    let o = bind-ok (object_at s.store (value_in (locals_of s) (Some y))) _ u h in
    let locals : locals_of s ≡ f.locals = ap top_locals at in
    let v = value_in f.locals (Some y) in
    let there : object_at s.store v ≡ Ok o.0 = ap (λ q. object_at s.store (value_in q (Some y))) (sym locals) ∙ o.1 in
    let iso_ty = iso-type p.entry.ty p.class p.iso in
    let sees = top-sees t s.store f fs s.windows later run top d.values in
    let P : Ty → Type 0 = λ q. Meets s.store s.windows q v in
    let m = subst P (seen-iso run.spot.env p.entry p.class iso_ty)
    (seen-meets s.store s.windows (length fs) run.spot.env f.locals sees (Some y) p.entry p.there) in
    let w = owned-object s.store (LabelFits s.windows Iso) p.class v o.0 (λ l q. q) m there in
    let e = first-at run.spot.env.entries f.locals (Some y) p.entry run.stands.named p.there in
    let k = take-variable t s.store f fs s.windows (length s.managers) s.windows_made (Some y) p.entry run.spot.env d run.stands.named p.there
    (ap is_iso iso_ty)
    (top-not_owner t f fs s.windows later run top (place_in f.locals (Some y)) p.entry e.entry_at (ready-not_lent p.entry.readiness p.ready)) in
    let led : option_and_then (region_at s.store) (address v) ≡ Some w.region =
    ap (λ q. option_and_then (region_at s.store) (address q)) w.value ∙ ap (option_and_then (λ (q : Seen). region_of q.label)) w.there
    ∙ ap region_of w.label_is in
    let free = k.unowned w.region led in
    let f1 : Frame = record f { locals = set_in (Some y) val.Nil f.locals } in
    let rs = beneath t.classes s.store (length s.managers) (w.region ∷ []) in
    let fits = freeze-data t.classes s.store (f1 ∷ fs) s.windows (length s.managers) s.windows_made w.region k.fits free.1 free.0 in
    let n = relabelled_object rs Frozen o.0 in
    let n_there : slice_get (relabelled rs Frozen s.store) w.address ≡ Some n =
    slice_get-relabelled rs Frozen s.store w.address ∙ ap (option_map (relabelled_object rs Frozen)) w.there in
    let n_label : n.label ≡ Frozen = frozen-object rs o.0 ∙ ap (frozen_label rs) w.label_is
    ∙ frozen-in rs w.region (beneath-start t.classes s.store (length s.managers) (w.region ∷ []) w.region (inl refl)) in
    let Q : Val → Type 0 = λ q. Meets (relabelled rs Frozen s.store) s.windows (ty.Ref Imm p.class) q in
    let meets = subst Q (sym w.value) (record {
      object = n;
      there = n_there;
      class_is = class-relabelled_object rs Frozen o.0 ∙ w.class_is;
      label_fits = n_label;
    }) in
    let after : State = put_local (Some y) (frozen t.classes s w.region) val.Nil in
    let frames : after.frames ≡ f1 ∷ fs = ap (λ (q : List Frame). with_top (set_in (Some y) val.Nil (top_locals q)) q) at in
    let g : Gives t s f fs run.spot.env after (ty.Ref Imm p.class) v = record {
      locals = set_in (Some y) val.Nil f.locals;
      frames = frames;
      named =
          Named-set_in (Some y) val.Nil run.spot.env.entries f.locals run.stands.named;
      windows = refl;
      made = refl;
      items = refl;
      fits = fits;
      meets = meets;
      fresh = not_iso-fresh t.classes (relabelled rs Frozen s.store) (f1 ∷ fs) (ty.Ref Imm p.class) v refl;
      allowed = allowed-relabelled s after rs Frozen refl;
      classes = classes-relabelled rs Frozen s.store;
      keeps = keeps-relabelled rs Frozen s.store s.windows (λ q shown. not-among rs q
          (beneath-shut t.classes s.store (f1 ∷ fs) s.windows (length s.managers) s.windows_made w.region k.fits free.1 free.0 q shown));
    } in
    let is : consumed s put (Some y) (option_map (frozen t.classes s) (region_of o.0.label)) ≡ u = let q = o.2 in grind arith in
    let now : consumed s put (Some y) (option_map (frozen t.classes s) (region_of o.0.label)) ≡ put after (value_in (locals_of s) (Some y)) =
    ap (λ q. consumed s put (Some y) (option_map (frozen t.classes s) (region_of q))) w.label_is in
    let T : Ty → Type 0 = λ q. Gives t s f fs run.spot.env after q v in
    record { after = after; v = v; state = sym is ∙ now ∙ ap (λ q. put after (value_in q (Some y))) locals; gives = subst T (sym p.type_is) g }
