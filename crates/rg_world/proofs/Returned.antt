-- What a behaviour that is done gives back, field by field.
use Rattle.std.proofs.Common.{◌≡◌, ℕ, zero, suc, ◌+◌, true, false, List, [], ◌∷◌, ◌++◌, map, drop, get_or, Option, Some, None, slice_get}
use Rattle.std.proofs.Common.{append_assoc, refl, sym, ap, ◌∙◌, subst, arith}
use Rattle.std.proofs.lemmas.List.{map-append}
use Rattle.std.proofs.lemmas.Option.{get_or_from_slice_get}
use Rattle.rg_base.specs.declared.object.Seen.{Seen}
use Rattle.rg_base.specs.declared.ty.Ty.TheVariants.{Ref}
use Rattle.rg_base.specs.declared.words.Cap.{Cap}
use Rattle.rg_base.specs.declared.words.Cap.TheVariants.{Mut, Tmp, Paused, Imm, Iso}
use Rattle.rg_base.specs.declared.value.Val.{Val}
use Rattle.rg_base.specs.declared.value.Val.TheVariants.{Nil, Obj}
use Rattle.rg_tree.specs.Tree.{int, bool, ref, Ty as Written, Field, Class, Tree}
use Rattle.rg_rules.specs.Headers.{is_iso_written}
use Rattle.rg_rules.specs.State.{State}
use Rattle.rg_rules.specs.Types.{type_of, fields_of, class_number}
use Rattle.rg_cown.specs.Cargo.{CargoList}
use Rattle.rg_cown.specs.Contents.{no_object}
use Rattle.rg_content.specs.Fields.{IsContent, IsOwnField}
use Rattle.rg_first.specs.First.{IsOfBehaviour}
use Rattle.rg_sched_atomic.specs.Contents.{Held, content_of, goes_back, iso_values, onto_if}
use Rattle.rg_slots.specs.declared.slot.Slot.{Slot}
use Rattle.rg_slots.specs.Slots.{content_in}
use Rattle.rg_world.specs.Inner.Steps.{slot_of}

-- Fields and their values

values-none : (fs : List Field) → iso_values fs [] ≡ []
values-none [] = refl
values-none (f ∷ fs) = refl

skip-one : (f : Field) (fs : List Field) (vs : List Val) → is_iso_written f.ty ≡ false → iso_values (f ∷ fs) vs ≡ iso_values fs (drop 1 vs)
skip-one f fs [] other = sym (values-none fs)
skip-one f fs (v ∷ vs) other = ap (λ b. onto_if b v (iso_values fs vs)) other

drop-suc : {X : Type 0} → (xs : List X) (n : ℕ) → drop 1 (drop n xs) ≡ drop (suc n) xs
drop-suc [] zero = refl
drop-suc [] (suc n) = refl
drop-suc (x ∷ xs) zero = refl
drop-suc (x ∷ xs) (suc n) = drop-suc xs n

drop-value : (vs : List Val) (n : ℕ) (v : Val) → slice_get vs n ≡ Some v → drop n vs ≡ v ∷ drop (suc n) vs
drop-value [] n v e = cc
drop-value (x ∷ vs) zero v e = ap (λ (o : Option Val). elim o [ None ↦ x | Some y ↦ y ] ∷ vs) e
drop-value (x ∷ vs) (suc n) v e = drop-value vs n v e

take-one : (f : Field) (fs : List Field) (vs : List Val) (n : ℕ) (v : Val) → is_iso_written f.ty ≡ true → slice_get vs n ≡ Some v
    → iso_values (f ∷ fs) (drop n vs) ≡ v ∷ iso_values fs (drop (suc n) vs)
take-one f fs vs n v iso there =
    ap (iso_values (f ∷ fs)) (drop-value vs n v there) ∙ ap (λ b. onto_if b v (iso_values fs (drop (suc n) vs))) iso

front-field : (fs : List Field) (n : ℕ) (f : Field) (rest : List Field) → drop n fs ≡ f ∷ rest → slice_get fs n ≡ Some f
front-field [] zero f rest e = cc
front-field [] (suc n) f rest e = cc
front-field (g ∷ fs) zero f rest e = ap (λ (l : List Field). slice_get l 0) e
front-field (g ∷ fs) (suc n) f rest e = front-field fs n f rest e

rest-fields : (fs : List Field) (n : ℕ) (f : Field) (rest : List Field) → drop n fs ≡ f ∷ rest → drop (suc n) fs ≡ rest
rest-fields fs n f rest e = sym (drop-suc fs n) ∙ ap (drop 1) e

-- the class of a type that is written `iso`
iso-class : (classes : List Class) (ty : Written) → is_iso_written ty ≡ true → (class : ℕ) × (type_of classes ty ≡ Ref Iso class)
iso-class classes int e = absurd (cc)
iso-class classes bool e = absurd (cc)
iso-class classes (ref cap x) e = by cap e
  where
    by : (c : Cap) → is_iso_written (ref c x) ≡ true → (class : ℕ) × (type_of classes (ref c x) ≡ Ref Iso class)
    by Mut e = absurd (cc)
    by Tmp e = absurd (cc)
    by Paused e = absurd (cc)
    by Imm e = absurd (cc)
    by Iso e = (class_number classes x, refl)

-- The values of the behaviour's object

abbrev values_of : State → List Val
values_of s = (get_or s.store 0 no_object).fields

-- so far this goes back, and behind it what the fields from a number on own
pub record GoesBack (t : Tree) (class : ℕ) (rest : List Field) (number : ℕ) (back : List Slot) (s : State) : Type 0 where
  pub is : map content_in back ++ map (content_of s) (iso_values rest (drop number (values_of s))) ≡ goes_back (fields_of t.classes class) s

pub own-field : (t : Tree) (class : ℕ) (s : State) (n : ℕ) (f : Field) (rest : List Field) → IsOfBehaviour t class s
    → drop n (fields_of t.classes class) ≡ f ∷ rest → is_iso_written f.ty ≡ true → IsOwnField t.classes s.store 0 n
own-field t class s n f rest h front iso =
    let ty = iso-class t.classes f.ty iso in
    record {
      object = h.first.object;
      there = h.first.there;
      region = 0;
      lies = h.first.label_is;
      field = f;
      declared = subst (λ c. slice_get (fields_of t.classes c) n ≡ Some f) (sym h.first.class_is) (front-field (fields_of t.classes class) n f rest front);
      class = ty.0;
      iso = ty.1;
    }

content-is : (s : State) (n : ℕ) (o : Option CargoList) → IsContent s 0 n o
    → (v : Val) × (slice_get (values_of s) n ≡ Some v) × (content_of s v ≡ content_in (slot_of o))
content-is s n None h =
    (Nil, subst (λ (x : Seen). slice_get x.fields n ≡ Some Nil) (sym (get_or_from_slice_get s.store 0 h.0 no_object h.1)) h.2, refl)
content-is s n (Some c) h = (
  Obj h.0,
  subst (λ (x : Seen). slice_get x.fields n ≡ Some (Obj h.0)) (sym (get_or_from_slice_get s.store 0 h.1.0 no_object h.1.1)) h.1.2,
  ap Held (sym h.2),
)

pub back-iso : (t : Tree) (class : ℕ) (s : State) (n : ℕ) (f : Field) (before rest : List Field) (back new : List Slot) (o : Option CargoList) (x : Slot)
    → before ≡ f ∷ rest → is_iso_written f.ty ≡ true → IsContent s 0 n o → x ≡ slot_of o → new ≡ back ++ x ∷ []
    → GoesBack t class before n back s → GoesBack t class rest (n + 1) new s
back-iso t class s n f before rest back new o x first iso holds is grown h =
    let v = content-is s n o holds in
    let one : n + 1 ≡ suc n = omega arith in
    let behind = map (content_of s) (iso_values rest (drop (suc n) (values_of s))) in
    record {
      is = ap (λ k. map content_in new ++ map (content_of s) (iso_values rest (drop k (values_of s)))) one
          ∙ ap (λ z. map content_in z ++ behind) (grown ∙ ap (λ z. back ++ z ∷ []) is)
          ∙ ap (λ z. z ++ behind) (map-append content_in back (slot_of o ∷ []))
          ∙ append_assoc (map content_in back) (content_in (slot_of o) ∷ []) behind
          ∙ ap (λ z. map content_in back ++ z ∷ behind) (sym v.2)
          ∙ ap (λ z. map content_in back ++ map (content_of s) z) (sym (take-one f rest (values_of s) n v.0 iso v.1))
          ∙ ap (λ z. map content_in back ++ map (content_of s) (iso_values z (drop n (values_of s)))) (sym first)
          ∙ h.is;
    }

pub back-other : (t : Tree) (class : ℕ) (s : State) (n : ℕ) (f : Field) (before rest : List Field) (back : List Slot)
    → before ≡ f ∷ rest → is_iso_written f.ty ≡ false → GoesBack t class before n back s → GoesBack t class rest (n + 1) back s
back-other t class s n f before rest back first other h =
    let one : n + 1 ≡ suc n = omega arith in
    record {
      is = ap (λ k. map content_in back ++ map (content_of s) (iso_values rest (drop k (values_of s)))) one
          ∙ ap (λ z. map content_in back ++ map (content_of s) (iso_values rest z)) (sym (drop-suc (values_of s) n))
          ∙ ap (λ z. map content_in back ++ map (content_of s) z) (sym (skip-one f rest (drop n (values_of s)) other))
          ∙ ap (λ z. map content_in back ++ map (content_of s) (iso_values z (drop n (values_of s)))) (sym first)
          ∙ h.is;
    }

pub next-place : (fs : List Field) (n : ℕ) (f : Field) (before rest : List Field) → before ≡ f ∷ rest → drop n fs ≡ before → drop (n + 1) fs ≡ rest
next-place fs n f before rest first place =
    let one : n + 1 ≡ suc n = omega arith in ap (λ k. drop k fs) one ∙ rest-fields fs n f rest (place ∙ first)

right-nil : {X : Type 0} → (xs : List X) → xs ++ [] ≡ xs
right-nil [] = refl
right-nil (x ∷ xs) = ap (λ z. x ∷ z) (right-nil xs)

pub back-end : (t : Tree) (class : ℕ) (s : State) (n : ℕ) (rest : List Field) (back : List Slot) → rest ≡ [] → GoesBack t class rest n back s
    → map content_in back ≡ goes_back (fields_of t.classes class) s
back-end t class s n rest back none h =
    sym (right-nil (map content_in back)) ∙ ap (λ z. map content_in back ++ map (content_of s) (iso_values z (drop n (values_of s)))) (sym none) ∙ h.is
