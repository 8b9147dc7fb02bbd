-- What an `iso` field of an object of a region has, in a state that fits: nil, or a reference to another region, which isn't region 0.
use Rattle.std.proofs.Common.{◌≡◌, ◌≢◌, refl, sym, ◌∙◌, ap, subst, ℕ, zero, suc, List, [], ◌∷◌, length, Option, Some, None, option_and_then}
use Rattle.std.proofs.Common.{slice_get}
use Rattle.std.proofs.lemmas.Option.{same_Some}
use Rattle.rg_base.specs.declared.words.Cap.{Cap}
use Rattle.rg_base.specs.declared.words.Cap.TheVariants.{Iso}
use Rattle.rg_base.specs.declared.ty.Ty.{Ty}
use Rattle.rg_base.specs.declared.object.Label.{Label}
use Rattle.rg_base.specs.declared.object.Label.TheVariants.{Region, Temp, Frozen}
use Rattle.rg_base.specs.declared.object.Place.TheVariants.{Field}
use Rattle.rg_base.specs.declared.object.Seen.{Seen}
use Rattle.rg_base.specs.declared.value.Val.{Val}
use Rattle.rg_base.specs.declared.value.Val.TheVariants.{Obj}
use Rattle.rg_tree.specs.Tree.{Ty as Written, Field as FieldOfClass, Class, Tree}
use Rattle.rg_rules.specs.Types.{type_of, fields_of}
use Rattle.rg_rules.specs.State.{State}
use Rattle.rg_rules.specs.Regions.{region_of, region_at, owned, owned_as}
use Rattle.rg_rules.specs.Owners.{owned_by_slot, owned_by_field, leads_into, direct}
use Rattle.rg_sound.specs.Fit.{Fit}
use Rattle.rg_sound.specs.Values.{IsRegion, MeetsBy, MeetsRef}
use Rattle.rg_sound.specs.Objects.{ArrayFits, FieldFits, FieldsMeet, fields_declared, fields_in}
use Rattle.rg_sound.proofs.Basics.{none-some}
use Rattle.rg_sound.proofs.Values.Declared.{no-fields}
use Rattle.rg_content.specs.Fields.{IsOwnField}

-- a field that is declared has a value, which meets its type
meets-there : (classes : List Class) (store : List Seen) (F : Cap → Label → Type 0) (fs : List FieldOfClass) (vs : List Val) (k : ℕ)
    (f : FieldOfClass) → FieldsMeet classes store F fs vs → slice_get fs k ≡ Some f
    → (v : Val) × (slice_get vs k ≡ Some v) × MeetsBy store F (type_of classes f.ty) v
meets-there classes store F [] vs k f h at = none-some at
meets-there classes store F (g ∷ fs) [] k f h at = absurd h
meets-there classes store F (g ∷ fs) (v ∷ vs) zero f h at =
    let P : FieldOfClass → Type 0 = λ q. MeetsBy store F (type_of classes q.ty) v in (v, refl, subst P (same_Some g f at) h.0)
meets-there classes store F (g ∷ fs) (v ∷ vs) (suc k) f h at = meets-there classes store F fs vs k f h.1 at

-- only a class without elements has fields
declared-is : (classes : List Class) (o : Seen) (c : Class) (k n : ℕ) (f : FieldOfClass) (e : Option Written) → slice_get classes o.class ≡ Some c
    → ArrayFits c e n → slice_get (fields_of classes o.class) k ≡ Some f → fields_declared classes o.class e n ≡ fields_of classes o.class
declared-is classes o c k n f None at array there = refl
declared-is classes o c k n f (Some w) at array there =
    none-some (sym (ap (λ (fs : List FieldOfClass). slice_get fs k) (no-fields classes o.class c at array.0)) ∙ there)

module _ (t : Tree) (s : State) (fit : Fit t s) (a k : ℕ) (x : IsOwnField t.classes s.store a k) where
  -- its value is nil, or leads to an object of the field's class, in some region
  pub value-there : (v : Val) × (slice_get x.object.fields k ≡ Some v) × MeetsRef s.store x.class IsRegion v
  value-there =
      let o = x.object in
      let f = fit.objects a o x.there in
      let all = declared-is t.classes o f.class k (length o.fields) x.field f.class.element f.class_is f.array x.declared in
      let at : slice_get (fields_in t.classes f.class o) k ≡ Some x.field =
      ap (λ (fs : List FieldOfClass). slice_get fs k) all ∙ x.declared in
      let m = meets-there t.classes s.store (FieldFits s.windows o.label) (fields_in t.classes f.class o) o.fields k x.field f.fields at in
      let T : Ty → Type 0 = λ z. MeetsBy s.store (FieldFits s.windows o.label) z m.0 in
      let L : Label → Type 0 = λ z. MeetsRef s.store x.class (FieldFits s.windows z Iso) m.0 in
      (m.0, m.1, subst L x.lies (subst T x.iso m.2))

  leads : (b q : ℕ) (led : Seen) → slice_get x.object.fields k ≡ Some (Obj b) → slice_get s.store b ≡ Some led → led.label ≡ Region q
      → leads_into t.classes s.store s.frames (Field a k) ≡ Some q
  leads b q led value there lies =
      let o = x.object in
      let slot : owned_by_slot t.classes o k ≡ Some b =
      ap (option_and_then (λ (f : FieldOfClass). option_and_then (owned_as t.classes f) (slice_get o.fields k))) x.declared
      ∙ ap (option_and_then (owned_as t.classes x.field)) value ∙ ap (λ (q : Ty). owned q (Obj b)) x.iso in
      let field : owned_by_field t.classes o k ≡ Some b =
      ap (λ (l : Label). elim l [ Region z ↦ owned_by_slot t.classes o k | Temp z ↦ owned_by_slot t.classes o k | Frozen ↦ None ]) x.lies ∙ slot in
      ap (λ z. option_and_then (region_at s.store) (option_and_then (λ (x : Seen). owned_by_field t.classes x k) z)) x.there
      ∙ ap (option_and_then (region_at s.store)) field ∙ ap (option_and_then (λ (x : Seen). region_of x.label)) there ∙ ap region_of lies

  -- that region isn't region 0, nor the object's own
  pub elsewhere : (b q : ℕ) (led : Seen) → slice_get x.object.fields k ≡ Some (Obj b) → slice_get s.store b ≡ Some led → led.label ≡ Region q
      → (q ≢ 0) × (q ≢ x.region)
  elsewhere b q led value there lies =
      let into = leads b q led value there lies in (
        λ e. fit.forest.none_into_first (Field a k) (into ∙ ap Some e),
        λ e. fit.forest.no_cycle x.region (direct (record {
          object = a;
          field = k;
          lies = ap (option_and_then (λ (o : Seen). region_of o.label)) x.there ∙ ap region_of x.lies;
          leads = into ∙ ap Some e;
        })),
      )
