-- `merge y` as a right side.
use Rattle.std.proofs.Common.{◌≡◌, refl, sym, ◌∙◌, ap, subst, inl, inr, ℕ, ◌==◌, Bool as Truth, true, false, if◌then◌else◌, List, [], ◌∷◌, length}
use Rattle.std.proofs.Common.{Some, None, is_some, ok_or, option_map, option_and_then, slice_get, Ok, arith}
use Rattle.rg_base.specs.declared.words.Cap.{Cap}
use Rattle.rg_base.specs.declared.words.Cap.TheVariants.{Mut, Iso}
use Rattle.rg_base.specs.declared.ty.Ty.{Ty}
use Rattle.rg_base.specs.declared.ty.Ty.TheVariants as ty
use Rattle.rg_base.specs.declared.fault.Code.TheVariants.{Unknown, Mismatch, Unavailable}
use Rattle.rg_base.specs.declared.object.Label.{Label}
use Rattle.rg_base.specs.declared.object.Label.TheVariants.{Region}
use Rattle.rg_base.specs.declared.object.Seen.{Seen}
use Rattle.rg_base.specs.declared.value.Val.{Val}
use Rattle.rg_base.specs.declared.value.Val.TheVariants as val
use Rattle.rg_tree.specs.Tree.{Name, merge}
use Rattle.rg_rules.specs.Capabilities.{is_iso, iso_class}
use Rattle.rg_rules.specs.Environment.{Env, Entry, entry_of, is_ready, marked, gone}
use Rattle.rg_rules.specs.Expressions.{Judged}
use Rattle.rg_rules.specs.Rights.{judge_consumed}
use Rattle.rg_rules.specs.State.{Frame, Window, State, locals_of, top_locals, with_top, value_in, place_in, set_in, put_local, active}
use Rattle.rg_rules.specs.Regions.{region_of, region_at, address, among, in_regions, relabelled, relabelled_object}
use Rattle.rg_rules.specs.RightSides.{merged, consumed}
use Rattle.rg_rules.specs.Evaluation.{object_at}
use Rattle.rg_rules.proofs.Answers.{bind-ok, test-then, ok_or-ok}
use Rattle.rg_rules.proofs.Expression.{against-ok}
use Rattle.rg_rules.proofs.Region.{slice_get-relabelled, class-relabelled_object, fields-relabelled_object}
use Rattle.rg_sound.specs.Values.{LabelFits, Meets}
use Rattle.rg_sound.specs.Writes.{WritesActive}
use Rattle.rg_sound.proofs.Frames.Named.{Named-set_in, first-at}
use Rattle.rg_sound.proofs.Values.Value.{seen-meets}
use Rattle.rg_sound.proofs.Frames.Top.{top-sees, top-not_owner}
use Rattle.rg_sound.proofs.Owners.Receiver.{IsTop}
use Rattle.rg_sound.proofs.Values.Right.{KeepsTop, Gives, not_iso-fresh, take-variable, ready-not_lent}
use Rattle.rg_sound.proofs.Values.Assign.{RightGives}
use Rattle.rg_sound.proofs.Owners.Enter.{iso-type, seen-iso, owned-object}
use Rattle.rg_sound.proofs.Owners.Open.{IsOpenIn, open-owned}
use Rattle.rg_sound.proofs.Stores.Make.{top-region}
use Rattle.rg_sound.proofs.Stores.MergeLabel.{merged_label}
use Rattle.rg_sound.proofs.Stores.Merge.{relabelled-label, merge-data}
use Rattle.rg_sound.proofs.Owners.Bridge.{classes-relabelled}

-- the parts of `freeze y` and `merge y`
pub record Consumes (env : Env) (cap : Cap) (y : Name) (j : Judged) : Type 0 where
  pub entry : Entry
  pub there : entry_of env (Some y) ≡ Some entry
  pub class : ℕ
  pub iso : iso_class entry.ty ≡ Some class
  pub ready : is_ready entry.readiness ≡ true
  pub type_is : j.ty ≡ ty.Ref cap class

pub judge_consumed-parts : (env : Env) (wanted : Ty) (cap : Cap) (y : Name) (j : Judged) → judge_consumed env wanted cap y ≡ Ok j →
    Consumes env cap y j
judge_consumed-parts env wanted cap y j h =
    let e = bind-ok (ok_or (entry_of env (Some y)) Unknown) _ j h in
    let c = bind-ok (ok_or (iso_class e.0.ty) Mismatch) _ j e.2 in
    let t = test-then (is_ready e.0.readiness) Unavailable _ j c.2 in
    record {
      entry = e.0;
      there = ok_or-ok (entry_of env (Some y)) Unknown e.0 e.1;
      class = c.0;
      iso = ok_or-ok (iso_class e.0.ty) Mismatch c.0 c.1;
      ready = t.0;
      type_is = (against-ok (Some wanted) (ty.Ref cap c.0) (marked (Some y) gone env) j t.1).ty;
    }

-- other labels aren't writes
pub allowed-relabelled : (s u : State) (regions : List ℕ) (label : Label) → u.store ≡ relabelled regions label s.store → WritesActive s u
allowed-relabelled s u regions label is a w =
    let after : slice_get u.store a ≡ Some (relabelled_object regions label w.object) = ap (λ q. slice_get q a) is
    ∙ slice_get-relabelled regions label s.store a ∙ ap (option_map (relabelled_object regions label)) w.there in
    absurd (w.differ (ap (option_map (λ (q : Seen). q.fields)) after ∙ ap Some (fields-relabelled_object regions label w.object)))

-- the objects of the topmost window keep their labels, where no open region is among those that change
pub keeps-relabelled : (regions : List ℕ) (label : Label) (store : List Seen) (ws : List Window) →
    ((r : ℕ) → IsOpenIn ws r → among regions r ≡ false) →
    KeepsTop ws store (relabelled regions label store)
keeps-relabelled regions label store ws closed b o e top =
    slice_get-relabelled regions label store b ∙ ap (option_map (relabelled_object regions label)) e
    ∙ ap Some (untouched (in_regions regions o.label) (top-kept ws o.label top closed))
  where
    untouched : (c : Truth) → c ≡ false → (if c then record o { label = label } else o) ≡ o
    untouched true h = grind arith
    untouched false h = refl

    top-kept : (us : List Window) (l : Label) → IsTop us l → ((r : ℕ) → IsOpenIn us r → among regions r ≡ false) → in_regions regions l ≡ false
    top-kept [] l h c = absurd h
    top-kept (u ∷ us) l (inl h) c = ap (in_regions regions) h ∙ c u.region (inl refl)
    top-kept (u ∷ us) l (inr h) c = ap (in_regions regions) h

not_open : (g q : ℕ) → (g ≡ q → ⊥) → among (g ∷ []) q ≡ false
not_open g q h = by (g == q) refl
  where
    by : (b : Truth) → (g == q) ≡ b → is_some (if b then Some g else None) ≡ false
    by true e = let same : g ≡ q = grind arith in absurd (h same)
    by false e = refl

pub merge-righted : (y : Name) → RightGives (merge y)
merge-righted y t s f fs later run top at d target put wanted j typed u h =
    let p = judge_consumed-parts run.spot.env wanted Mut y j typed in
    let o = bind-ok (object_at s.store (value_in (locals_of s) (Some y))) _ u h in
    let locals : locals_of s ≡ f.locals = ap top_locals at in
    let v = value_in f.locals (Some y) in
    let there : object_at s.store v ≡ Ok o.0 = ap (λ q. object_at s.store (value_in q (Some y))) (sym locals) ∙ o.1 in
    let iso_ty = iso-type p.entry.ty p.class p.iso in
    let sees = top-sees t s.store f fs s.windows later run top d.values in
    let P : Ty → Type 0 = λ q. Meets s.store s.windows q v in
    let m = subst P (seen-iso run.spot.env p.entry p.class iso_ty)
    (seen-meets s.store s.windows (length fs) run.spot.env f.locals sees (Some y) p.entry p.there) in
    let w = owned-object s.store (LabelFits s.windows Iso) p.class v o.0 (λ l q. q) m there in
    let e = first-at run.spot.env.entries f.locals (Some y) p.entry run.stands.named p.there in
    let k = take-variable t s.store f fs s.windows (length s.managers) s.windows_made (Some y) p.entry run.spot.env d run.stands.named p.there
    (ap is_iso iso_ty)
    (top-not_owner t f fs s.windows later run top (place_in f.locals (Some y)) p.entry e.entry_at (ready-not_lent p.entry.readiness p.ready)) in
    let led : option_and_then (region_at s.store) (address v) ≡ Some w.region =
    ap (λ q. option_and_then (region_at s.store) (address q)) w.value ∙ ap (option_and_then (λ (q : Seen). region_of q.label)) w.there
    ∙ ap region_of w.label_is in
    let free = k.unowned w.region led in
    let a = active s.windows in
    let top_is = top-region t.classes s.store (f ∷ fs) s.windows (length s.managers) s.windows_made d in
    let f1 : Frame = record f { locals = set_in (Some y) val.Nil f.locals } in
    let fits = merge-data t.classes s.store (f1 ∷ fs) s.windows (length s.managers) s.windows_made w.region a k.fits free.1 free.0
    (active-open s.windows top_is.0) top_is.2 in
    let n = relabelled_object (w.region ∷ []) (Region a) o.0 in
    let n_there : slice_get (relabelled (w.region ∷ []) (Region a) s.store) w.address ≡ Some n =
    slice_get-relabelled (w.region ∷ []) (Region a) s.store w.address ∙ ap (option_map (relabelled_object (w.region ∷ []) (Region a))) w.there in
    let n_label : n.label ≡ Region a = relabelled-label w.region a o.0 ∙ ap (merged_label w.region a) w.label_is ∙ itself w.region a in
    let Q : Val → Type 0 = λ q. Meets (relabelled (w.region ∷ []) (Region a) s.store) s.windows (ty.Ref Mut p.class) q in
    let R : Label → Type 0 = λ q. LabelFits s.windows Mut q in
    let meets = subst Q (sym w.value) (record {
      object = n;
      there = n_there;
      class_is = class-relabelled_object (w.region ∷ []) (Region a) o.0
          ∙ w.class_is;
      label_fits = subst R (sym n_label) top_is.0;
    }) in
    let after : State = put_local (Some y) (merged s w.region) val.Nil in
    let frames : after.frames ≡ f1 ∷ fs = ap (λ (q : List Frame). with_top (set_in (Some y) val.Nil (top_locals q)) q) at in
    let g : Gives t s f fs run.spot.env after (ty.Ref Mut p.class) v = record {
      locals = set_in (Some y) val.Nil f.locals;
      frames = frames;
      named =
          Named-set_in (Some y) val.Nil run.spot.env.entries f.locals run.stands.named;
      windows = refl;
      made = refl;
      items = refl;
      fits = fits;
      meets = meets;
      fresh = not_iso-fresh t.classes (relabelled (w.region ∷ []) (Region a) s.store) (f1 ∷ fs) (ty.Ref Mut p.class) v refl;
      allowed = allowed-relabelled s after (w.region ∷ []) (Region a) refl;
      classes = classes-relabelled (w.region ∷ []) (Region a) s.store;
      keeps = keeps-relabelled (w.region ∷ []) (Region a) s.store s.windows (λ q shown. not_open w.region q (λ same.
          let P : ℕ → Type 0 = λ z. IsOpenIn s.windows z in
          elim (open-owned t.classes s.store (f1 ∷ fs) s.windows k.fits.opened.owned w.region (subst P (sym same) shown))
          [ inl e ↦ free.0 e | inr o ↦ free.1 o.0 o.1 ]));
    } in
    let is : consumed s put (Some y) (option_map (merged s) (region_of o.0.label)) ≡ u = let q = o.2 in grind arith in
    let now : consumed s put (Some y) (option_map (merged s) (region_of o.0.label)) ≡ put after (value_in (locals_of s) (Some y)) =
    ap (λ q. consumed s put (Some y) (option_map (merged s) (region_of q))) w.label_is in
    let T : Ty → Type 0 = λ q. Gives t s f fs run.spot.env after q v in
    record { after = after; v = v; state = sym is ∙ now ∙ ap (λ q. put after (value_in q (Some y))) locals; gives = subst T (sym p.type_is) g }
  where
    active-open : (ws : List Window) → LabelFits ws Mut (Region (active ws)) → IsOpenIn ws (active ws)
    active-open [] h = absurd h
    active-open (w ∷ ws) h = inl refl

    itself : (r a : ℕ) → (if r == r then Region a else Region r) ≡ Region a
    itself r a = let e : (r == r) ≡ true = grind arith in rw e refl
