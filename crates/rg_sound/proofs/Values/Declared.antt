-- The fields that are declared for an object: those of its class, or as many as it has elements.
use Rattle.std.proofs.Common.{◌≡◌, refl, sym, ◌∙◌, ap, subst, ℕ, zero, suc, ◌<◌, Bool as Truth, true, false, not, bytes_eq, if◌then◌else◌, List, []}
use Rattle.std.proofs.Common.{◌∷◌}
use Rattle.std.proofs.Common.{length, find, replicate, Option, Some, None, option_and_then, option_map, unwrap_or, slice_get, Ok, arith}
use Rattle.std.proofs.lemmas.Option.{same_Some}
use Rattle.rg_base.specs.declared.words.Cap.{Cap}
use Rattle.rg_base.specs.declared.ty.Ty.{Ty}
use Rattle.rg_base.specs.declared.object.Label.{Label}
use Rattle.rg_base.specs.declared.object.Seen.{Seen}
use Rattle.rg_base.specs.declared.value.Val.{Val}
use Rattle.rg_base.specs.declared.value.Val.TheVariants.{Nil}
use Rattle.rg_tree.specs.Tree.{Name, Ty as Written, int, bool, ref, Field as FieldOfClass, Class, Tree}
use Rattle.rg_rules.specs.Capabilities.{is_iso}
use Rattle.rg_rules.specs.Types.{type_of, good_type, fields_of, field_type, element_type}
use Rattle.rg_rules.specs.Answers.{test, at_line}
use Rattle.rg_rules.specs.Acceptance.{Accepted}
use Rattle.rg_rules.specs.Headers.{suits_field_type, is_iso_written, element_header, no_members, rest_header, class_names}
use Rattle.rg_base.specs.declared.fault.Code.TheVariants.{BadType}
use Rattle.std.proofs.lemmas.Bool.{not-true}
use Rattle.rg_rules.proofs.Answers.{then-ok, test-ok, test-then, at_line-ok}
use Rattle.rg_rules.proofs.Acceptance.{Accepted-parts}
use Rattle.rg_rules.proofs.Header.{class_members-at, no_members-none}
use Rattle.rg_rules.specs.State.{Window}
use Rattle.rg_rules.specs.Regions.{address, owned_as}
use Rattle.rg_sound.specs.Values.{MeetsBy}
use Rattle.rg_sound.specs.Objects.{FieldFits, FieldsMeet, element_field, fields_declared, fields_in, ArrayFits, ObjectFits}
use Rattle.rg_sound.proofs.Basics.{none-some}

-- the owner reference at a place of values with declared fields
abbrev pub owned_slot : List Class → List FieldOfClass → List Val → ℕ → Option ℕ
owned_slot classes fs vs k = option_and_then (λ (f : FieldOfClass). option_and_then (owned_as classes f) (slice_get vs k)) (slice_get fs k)

-- a class of an array has no fields
pub no-fields : (classes : List Class) (c : ℕ) (d : Class) → slice_get classes c ≡ Some d → d.members ≡ [] → fields_of classes c ≡ []
no-fields classes c d at none = rw (at, none) refl

get-replicate : (n k : ℕ) (f g : FieldOfClass) → slice_get (replicate n f) k ≡ Some g → f ≡ g
get-replicate zero k f g h = none-some h
get-replicate (suc n) zero f g h = same_Some f g h
get-replicate (suc n) (suc k) f g h = get-replicate n k f g h

pub get-element : (n k : ℕ) (f : FieldOfClass) → k < n → slice_get (replicate n f) k ≡ Some f
get-element zero k f l = absurd (omega (arith, l))
get-element (suc n) zero f l = refl
get-element (suc n) (suc k) f l = get-element n k f (omega (arith, l))

written-iso : (classes : List Class) (t : Written) → is_iso (type_of classes t) ≡ is_iso_written t
written-iso classes int = refl
written-iso classes bool = refl
written-iso classes (ref cap x) = refl

-- elements own nothing
elements-own : (classes : List Class) (t : Written) (n : ℕ) (vs : List Val) (k : ℕ) → is_iso_written t ≡ false →
    owned_slot classes (replicate n (element_field t)) vs k ≡ None
elements-own classes t n vs k not_iso = by (slice_get (replicate n (element_field t)) k) refl
  where
    nothing : (b : Truth) (v : Val) → b ≡ false → ◌≡◌ {A = Option ℕ} (if b then address v else None) None
    nothing true v e = grind arith
    nothing false v e = refl

    value : (v : Option Val) → option_and_then (owned_as classes (element_field t)) v ≡ None
    value None = refl
    value (Some v) = nothing (is_iso (type_of classes t)) v (written-iso classes t ∙ not_iso)

    by : (f : Option FieldOfClass) → slice_get (replicate n (element_field t)) k ≡ f →
        option_and_then (λ (f : FieldOfClass). option_and_then (owned_as classes f) (slice_get vs k)) f ≡ None
    by None e = refl
    by (Some f) e =
        let same = get-replicate n k (element_field t) f e in
        let P : FieldOfClass → Type 0 = λ q. option_and_then (owned_as classes q) (slice_get vs k) ≡ None in subst P same (value (slice_get vs k))

module _ (classes : List Class) (store : List Seen) (ws : List Window) (o : Seen) (fit : ObjectFits classes store ws o) where
  -- where a class has fields, they are the declared ones
  declared-by : (e : Option Written) → ArrayFits fit.class e (length o.fields) → (k : ℕ) (f : FieldOfClass) →
      slice_get (fields_of classes o.class) k ≡ Some f → fields_declared classes o.class e (length o.fields) ≡ fields_of classes o.class
  declared-by None a k f h = refl
  declared-by (Some t) a k f h =
      none-some (sym (ap (λ q. slice_get q k) (no-fields classes o.class fit.class fit.class_is a.0)) ∙ h)

  pub declared-fields : (k : ℕ) (f : FieldOfClass) → slice_get (fields_of classes o.class) k ≡ Some f →
      fields_in classes fit.class o ≡ fields_of classes o.class
  declared-fields k f h = declared-by fit.class.element fit.array k f h

  -- and so where one is found by its name
  pub named-fields : (x : Name) (t : Ty) → field_type classes o.class x ≡ Some t →
      FieldsMeet classes store (FieldFits ws o.label) (fields_of classes o.class) o.fields
  named-fields x t h = by (fields_of classes o.class) refl h
    where
      by : (fs : List FieldOfClass) → fields_of classes o.class ≡ fs →
          option_map (λ (f : FieldOfClass). type_of classes f.ty) (find (λ (f : FieldOfClass). bytes_eq f.name x) fs) ≡ Some t →
          FieldsMeet classes store (FieldFits ws o.label) (fields_of classes o.class) o.fields
      by [] e g = none-some g
      by (f ∷ fs) e g =
          let P : List FieldOfClass → Type 0 = λ q. FieldsMeet classes store (FieldFits ws o.label) q o.fields in
          subst P (declared-fields 0 f (ap (λ q. slice_get q 0) e)) fit.fields

  -- what is owned by the declared fields is owned by those of the class
  owned-by : (e : Option Written) → ArrayFits fit.class e (length o.fields) → (k a : ℕ) →
      owned_slot classes (fields_declared classes o.class e (length o.fields)) o.fields k ≡ Some a →
      owned_slot classes (fields_of classes o.class) o.fields k ≡ Some a
  owned-by None h k a e = e
  owned-by (Some t) h k a e = none-some (sym (elements-own classes t (length o.fields) o.fields k h.1) ∙ e)

  pub owned-declared : (k a : ℕ) → owned_slot classes (fields_in classes fit.class o) o.fields k ≡ Some a →
      owned_slot classes (fields_of classes o.class) o.fields k ≡ Some a
  owned-declared k a h = owned-by fit.class.element fit.array k a h

  -- the type of an array's elements
  elements-by : (e : Option Written) → fit.class.element ≡ e → (t : Ty) → option_map (type_of classes) e ≡ Some t →
      (w : Written) × (fit.class.element ≡ Some w) × (type_of classes w ≡ t)
  elements-by None at t h = none-some h
  elements-by (Some w) at t h = (w, at, same_Some (type_of classes w) t h)

  pub element-is : (t : Ty) → element_type classes o.class ≡ Some t → (w : Written) × (fit.class.element ≡ Some w) × (type_of classes w ≡ t)
  element-is t h = elements-by fit.class.element refl t
      (sym (ap (λ (q : Option Class). option_map (type_of classes) (option_and_then (λ (k : Class). k.element) q)) fit.class_is) ∙ h)

  pub declared-elements : (w : Written) → fit.class.element ≡ Some w → fields_in classes fit.class o ≡ replicate (length o.fields) (element_field w)
  declared-elements w h = ap (λ q. fields_declared classes o.class q (length o.fields)) h

meets-at : (classes : List Class) (store : List Seen) (F : Cap → Label → Type 0) (fs : List FieldOfClass) (vs : List Val) (k : ℕ) (f : FieldOfClass) →
    FieldsMeet classes store F fs vs → slice_get fs k ≡ Some f → MeetsBy store F (type_of classes f.ty) (unwrap_or (slice_get vs k) Nil)
meets-at classes store F [] vs k f m h = none-some h
meets-at classes store F (g ∷ fs) [] k f m h = absurd m
meets-at classes store F (g ∷ fs) (v ∷ vs) zero f m h =
    let P : FieldOfClass → Type 0 = λ q. MeetsBy store F (type_of classes q.ty) v in subst P (same_Some g f h) m.0
meets-at classes store F (g ∷ fs) (v ∷ vs) (suc k) f m h = meets-at classes store F fs vs k f m.1 h

-- what an array's elements meet
pub record Elements (classes : List Class) (store : List Seen) (F : Cap → Label → Type 0) (o : Seen) (t : Ty) : Type 0 where
  pub meets : (k : ℕ) → k < length o.fields → MeetsBy store F t (unwrap_or (slice_get o.fields k) Nil)
  pub not_iso : is_iso t ≡ false

pub elements-meet : (classes : List Class) (store : List Seen) (ws : List Window) (o : Seen) → ObjectFits classes store ws o → (t : Ty) →
    element_type classes o.class ≡ Some t → Elements classes store (FieldFits ws o.label) o t
elements-meet classes store ws o fit t h =
    let e = element-is classes store ws o fit t h in
    let P : List FieldOfClass → Type 0 = λ q. FieldsMeet classes store (FieldFits ws o.label) q o.fields in
    let m = subst P (declared-elements classes store ws o fit e.0 e.1) fit.fields in
    let Q : Ty → Type 0 = λ q. (k : ℕ) → k < length o.fields → MeetsBy store (FieldFits ws o.label) q (unwrap_or (slice_get o.fields k) Nil) in
    let A : Option Written → Type 0 = λ q. ArrayFits fit.class q (length o.fields) in
    let a : ArrayFits fit.class (Some e.0) (length o.fields) = subst A e.1 fit.array in
    record {
      meets = subst Q e.2 (λ k l. meets-at classes store (FieldFits ws o.label) (replicate (length o.fields) (element_field e.0)) o.fields k
          (element_field e.0) m (get-element (length o.fields) k (element_field e.0) l));
      not_iso = ap is_iso (sym e.2) ∙ written-iso classes e.0 ∙ a.1;
    }

-- another object of the same class with as many values has the same declared fields
pub declared-same : (classes : List Class) (c : Class) (o n : Seen) → n.class ≡ o.class → length n.fields ≡ length o.fields →
    fields_in classes c n ≡ fields_in classes c o
declared-same classes c o n class long = rw (class, long) refl

-- an array class without a fault
pub record ArrayClass (c : Class) (w : Written) : Type 0 where
  pub members : c.members ≡ []
  pub not_iso : is_iso_written w ≡ false
  pub suits : suits_field_type w c.is_tmp ≡ true

pub array-class : (t : Tree) → Accepted t → (n : ℕ) (c : Class) → slice_get t.classes n ≡ Some c → (w : Written) → c.element ≡ Some w → ArrayClass c w
array-class t a n c at w is =
    let h = then-ok (class_names [] t.classes) _ tt (Accepted-parts t a).headers in
    let P : Option Written → Type 0 = λ q. rest_header t.classes c q ≡ Ok tt in
    let r : rest_header t.classes c (Some w) ≡ Ok tt = subst P is (class_members-at t.classes t.classes n c h.2 at) in
    let p = then-ok (at_line c.line (element_header t.classes c w)) _ tt r in
    let e = at_line-ok c.line (element_header t.classes c w) tt p.1 in
    let g = then-ok (good_type t.classes w) _ tt e in
    let s = test-then (suits_field_type w c.is_tmp) BadType _ tt g.2 in
    let i = test-ok (not (is_iso_written w)) BadType tt s.1 in
    let m = test-ok (no_members c.members) BadType tt (at_line-ok c.line (test (no_members c.members) BadType) tt p.2) in
    record { members = no_members-none c.members m; not_iso = not-true (is_iso_written w) i; suits = s.0 }
