-- What an `iso` field of an object of a region leads to is a content that the field may own.
use Rattle.std.proofs.Common.{◌≡◌, refl, sym, ◌∙◌, ap, subst, ℕ, List, length, Option, Some, None, slice_get}
use Rattle.std.proofs.lemmas.Option.{same_Some}
use Rattle.rg_base.specs.declared.words.Cap.TheVariants.{Iso}
use Rattle.rg_base.specs.declared.ty.Ty.{Ty}
use Rattle.rg_base.specs.declared.ty.Ty.TheVariants.{Ref}
use Rattle.rg_base.specs.declared.object.Label.{Label}
use Rattle.rg_base.specs.declared.object.Label.TheVariants.{Region}
use Rattle.rg_base.specs.declared.object.Seen.{Seen}
use Rattle.rg_base.specs.declared.value.Val.TheVariants.{Obj}
use Rattle.rg_tree.specs.Tree.{Ty as Written, Field, Class}
use Rattle.rg_rules.specs.Types.{type_of, fields_of}
use Rattle.rg_rules.specs.State.{Window}
use Rattle.rg_sound.specs.Values.{IsRegion, Leads, MeetsBy}
use Rattle.rg_sound.specs.Objects.{FieldFits, fields_declared, fields_in, ArrayFits, ObjectFits}
use Rattle.rg_sound.proofs.Basics.{none-some}
use Rattle.rg_sound.proofs.Values.Declared.{no-fields}
use Rattle.rg_opening.specs.Laws.{ContentGoesBack}
use Rattle.rg_opening.proofs.Reached.{meet-at, reached-sound}
use Rattle.rg_opening.proofs.Returned.{returned-typed, returned-bridge}

-- only a class without elements has fields
declared-is : (classes : List Class) (o : Seen) (c : Class) (k n : ℕ) (f : Field) (e : Option Written) → slice_get classes o.class ≡ Some c
    → ArrayFits c e n → slice_get (fields_of classes o.class) k ≡ Some f → fields_declared classes o.class e n ≡ fields_of classes o.class
declared-is classes o c k n f None at array there = refl
declared-is classes o c k n f (Some w) at array there =
    none-some (sym (ap (λ (fs : List Field). slice_get fs k) (no-fields classes o.class c at array.0)) ∙ there)

-- the object to which an owner reference leads
owned-object : (classes : List Class) (store : List Seen) (ws : List Window) (o : Seen) (k b class r : ℕ) (f : Field) → ObjectFits classes store ws o
    → o.label ≡ Region r → slice_get (fields_of classes o.class) k ≡ Some f → type_of classes f.ty ≡ Ref Iso class
    → slice_get o.fields k ≡ Some (Obj b) → Leads store b class IsRegion
owned-object classes store ws o k b class r f fit own at is value =
    let m = meet-at classes store (FieldFits ws o.label) (fields_in classes fit.class o) o.fields k (Obj b) fit.fields value in
    let all = declared-is classes o fit.class k (length o.fields) f fit.class.element fit.class_is fit.array at in
    let same : m.0 ≡ f = same_Some m.0 f (sym m.1 ∙ ap (λ (fs : List Field). slice_get fs k) all ∙ at) in
    let T : Ty → Type 0 = λ z. MeetsBy store (FieldFits ws o.label) z (Obj b) in
    let h = subst T (ap (λ (z : Field). type_of classes z.ty) same ∙ is) m.2 in
    record {
      object = h.object;
      there = h.there;
      class_is = h.class_is;
      label_fits = (let P : Label → Type 0 = λ z. FieldFits ws z Iso h.object.label in subst P own h.label_fits);
    }

pub goes-back : ContentGoesBack
goes-back t s a k b class r o f fit there own at is value =
    let l = owned-object t.classes s.store s.windows o k b class r f (fit.objects a o there) own at is value in
    let region = l.label_fits in
    record {
      class = class;
      owns = is;
      bridge = returned-bridge t.classes s.store s.frames s.windows fit.objects fit.forest region.0 s.managers b l.object l.there region.1
          ∙ ap Some l.class_is;
      sound = reached-sound t.classes s.store s.frames s.windows fit.objects fit.forest region.0 s.managers b l.object l.there region.1;
      typed = returned-typed t.classes s.store s.frames s.windows fit.objects fit.forest region.0 s.managers b l.object l.there region.1;
    }
