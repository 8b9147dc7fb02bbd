-- A field is written: what is said of store, frames and windows stays.
use Rattle.std.proofs.Common.{◌≡◌, ◌≢◌, refl, sym, ◌∙◌, ap, subst, inl, inr, ℕ, zero, suc, ◌==◌, Bool as Truth, true, if◌then◌else◌}
use Rattle.std.proofs.Common.{List, [], ◌∷◌, length, Option, Some, None, option_and_then, slice_get, slice_set, arith}
use Rattle.std.proofs.lemmas.Option.{same_Some}
use Rattle.std.proofs.lemmas.Bool.{cases_eq}
use Rattle.rg_base.specs.declared.words.Cap.{Cap}
use Rattle.rg_base.specs.declared.words.Cap.TheVariants.{Mut, Tmp, Paused, Imm, Iso}
use Rattle.rg_base.specs.declared.object.Label.{Label}
use Rattle.rg_base.specs.declared.object.Label.TheVariants.{Region, Temp, Frozen}
use Rattle.rg_base.specs.declared.object.Place.{Place}
use Rattle.rg_base.specs.declared.object.Place.TheVariants.{Var, Field}
use Rattle.rg_base.specs.declared.object.Seen.{Seen}
use Rattle.rg_base.specs.declared.value.Val.{Val}
use Rattle.rg_tree.specs.Tree.{Field as FieldOfClass, Class}
use Rattle.rg_rules.specs.Types.{type_of}
use Rattle.rg_rules.specs.State.{Frame, Window}
use Rattle.rg_rules.specs.Regions.{region_at}
use Rattle.rg_rules.specs.Owners.{owned_by_slot, owned_by_field, owned_in_field, owned_in_frame, leads_into, Parent, Above, direct, further}
use Rattle.rg_sound.specs.Windows.{windows_from}
use Rattle.rg_sound.specs.Values.{LabelFits, MeetsBy}
use Rattle.rg_sound.specs.Objects.{RegionFieldFits, TempFieldFits, FieldFits, FieldsMeet, fields_in}
use Rattle.rg_sound.proofs.Basics.{none-some}
use Rattle.rg_sound.proofs.Owners.Owner.{get-set, get-set-other, OwnersCome, AllOwners, forest-come, open-come}
use Rattle.rg_sound.proofs.Owners.Data.{Data, Nothing}
use Rattle.rg_sound.proofs.Owners.Receiver.{IsTop}
use Rattle.rg_sound.proofs.Stores.Replace.{values-kept, replaced-keeps, replaced-region, replaced-near, replaced-labels}
use Rattle.rg_sound.proofs.Stores.Replace.{replaced-objects}

-- another value in a field that may hold it
pub FieldsMeet-set : (classes : List Class) (store : List Seen) (F : Cap → Label → Type 0) (fs : List FieldOfClass) (vs : List Val) (k : ℕ)
    (f : FieldOfClass) (v : Val) → FieldsMeet classes store F fs vs →
    slice_get fs k ≡ Some f → MeetsBy store F (type_of classes f.ty) v → FieldsMeet classes store F fs (slice_set vs k v)
FieldsMeet-set classes store F [] [] k f v m g b = none-some g
FieldsMeet-set classes store F [] (w ∷ vs) k f v m g b = absurd m
FieldsMeet-set classes store F (e ∷ fs) [] k f v m g b = absurd m
FieldsMeet-set classes store F (e ∷ fs) (w ∷ vs) zero f v m g b =
    let same : f ≡ e = sym (same_Some e f g) in
    let P : FieldOfClass → Type 0 = λ q. MeetsBy store F (type_of classes q.ty) v in (subst P same b, m.1)
FieldsMeet-set classes store F (e ∷ fs) (w ∷ vs) (suc k) f v m g b = (m.0, FieldsMeet-set classes store F fs vs k f v m.1 g b)

-- a value that meets a type at the topmost window may go into a field of that type of an object there
pub may-hold : (ws : List Window) (own : Label) (cap : Cap) (l : Label) → IsTop ws own → ((r : ℕ) → own ≡ Region r → (cap ≢ Tmp) × (cap ≢ Paused)) →
    LabelFits ws cap l → FieldFits ws own cap l
may-hold [] own cap l top suits h = absurd top
may-hold (w ∷ ws) own cap l (inl e) suits h =
    let P : Label → Type 0 = λ q. FieldFits (w ∷ ws) q cap l in subst P (sym e) (in_region cap (suits w.region e) h)
  where
    in_region : (cap : Cap) → (cap ≢ Tmp) × (cap ≢ Paused) → LabelFits (w ∷ ws) cap l → RegionFieldFits w.region cap l
    in_region Mut s h = h
    in_region Tmp s h = s.0 refl
    in_region Paused s h = s.1 refl
    in_region Imm s h = h
    in_region Iso s h = h
may-hold (w ∷ ws) own cap l (inr e) suits h =
    let same : (w.number == w.number) ≡ true = grind arith in
    let P : Label → Type 0 = λ q. FieldFits (w ∷ ws) q cap l in
    let Q : Truth → Type 0 = λ b. TempFieldFits (if b then w ∷ ws else windows_from w.number ws) cap l in subst P (sym e) (subst Q (sym same) h)

-- Owner references where labels and `iso` fields stay

-- two stores have the same regions, and owner references that lead into the same ones
pub record SameOwners (classes : List Class) (old new : List Seen) : Type 0 where
  pub regions : (a : ℕ) → region_at new a ≡ region_at old a
  pub fields : (a j : ℕ) → option_and_then (region_at old) (owned_in_field classes new a j)
      ≡ option_and_then (region_at old) (owned_in_field classes old a j)

leads-same : (classes : List Class) (old new : List Seen) (frames : List Frame) → SameOwners classes old new → (p : Place) →
    leads_into classes new frames p ≡ leads_into classes old frames p
leads-same classes old new frames s (Var n i) = through (owned_in_frame frames n i)
  where
    through : (o : Option ℕ) → option_and_then (region_at new) o ≡ option_and_then (region_at old) o
    through None = refl
    through (Some a) = s.regions a
leads-same classes old new frames s (Field a j) = through (owned_in_field classes new a j) ∙ s.fields a j
  where
    through : (o : Option ℕ) → option_and_then (region_at new) o ≡ option_and_then (region_at old) o
    through None = refl
    through (Some b) = s.regions b

above-same : (classes : List Class) (old new : List Seen) → SameOwners classes old new → (p r : ℕ) → Above classes new p r → Above classes old p r
above-same classes old new s p r (direct h) = direct (parent-same h)
  where
    parent-same : Parent classes new p r → Parent classes old p r
    parent-same h = record {
      object = h.object;
      field = h.field;
      lies = sym (s.regions h.object) ∙ h.lies;
      leads =
          sym (leads-same classes old new [] s (Field h.object h.field)) ∙ h.leads;
    }
above-same classes old new s p r (further {q = q} a h) =
    further (above-same classes old new s p q a)
    (record {
      object = h.object;
      field = h.field;
      lies = sym (s.regions h.object) ∙ h.lies;
      leads =
          sym (leads-same classes old new [] s (Field h.object h.field)) ∙ h.leads;
    })

-- the store with another object at an address, whose fields own as they did
pub store-set : (classes : List Class) (store : List Seen) (frames : List Frame) (ws : List Window) (regions made : ℕ) (a : ℕ) (o n : Seen)
    (d : Data classes store frames ws regions made) (there : slice_get store a ≡ Some o) → n.class ≡ o.class → n.label ≡ o.label → ((j : ℕ) →
    option_and_then (region_at store) (owned_by_slot classes n j)
    ≡ option_and_then (region_at store) (owned_by_slot classes o j)) →
    length n.fields ≡ length o.fields → FieldsMeet classes store (FieldFits ws o.label) (fields_in classes (d.objects a o there).class o) n.fields →
    Data classes (slice_set store a n) frames ws regions made
store-set classes store frames ws regions made a o n d there class label owns long meets = record {
  values = values-kept store (slice_set store a n) ws frames (replaced-keeps store a o n there class label) d.values;
  objects = replaced-objects store a o n there class label classes ws d.objects long meets;
  opened = open-come classes store (slice_set store a n) frames frames Nothing come ws d.opened (all ws)
      (replaced-near store a o n there class label);
  forest = forest-come classes store (slice_set store a n) frames frames Nothing d.forest come
      (λ r h. d.forest.no_cycle r (above-same classes store (slice_set store a n) same r r h));
  numbers = record {
    labels = replaced-labels store a o n there class label regions made d.numbers.labels;
    given = d.numbers.given;
    rising = d.numbers.rising;
  };
}
  where
    R : Option ℕ → Option ℕ
    R x = option_and_then (region_at store) x

    led-label : (l m : Label) (x y : Option ℕ) → l ≡ m → R x ≡ R y →
        R (elim l [ Region r ↦ x | Temp t ↦ x | Frozen ↦ None ]) ≡ R (elim m [ Region r ↦ y | Temp t ↦ y | Frozen ↦ None ])
    led-label l m x y e h =
        let P : Label → Type 0 = λ q. R (elim l [ Region r ↦ x | Temp t ↦ x | Frozen ↦ None ]) ≡ R (elim q [
          | Region r ↦ y
          | Temp t ↦ y
          | Frozen ↦ None
        ]) in subst P e (by l)
      where
        by : (l : Label) → R (elim l [ Region r ↦ x | Temp t ↦ x | Frozen ↦ None ]) ≡ R (elim l [ Region r ↦ y | Temp t ↦ y | Frozen ↦ None ])
        by (Region r) = h
        by (Temp t) = h
        by Frozen = refl

    fields-both : (b j : ℕ) → R (owned_in_field classes (slice_set store a n) b j) ≡ R (owned_in_field classes store b j)
    fields-both b j = elim (cases_eq b a) [
      | inl at ↦ ap (λ q. R (owned_in_field classes (slice_set store a n) q j)) at
          ∙ ap (λ (o : Option Seen). R (option_and_then (λ (q : Seen). owned_by_field classes q j) o)) (get-set store a n o there)
          ∙ led-label n.label o.label (owned_by_slot classes n j) (owned_by_slot classes o j) label (owns j)
          ∙ ap (λ (o : Option Seen). R (option_and_then (λ (q : Seen). owned_by_field classes q j) o)) (sym there)
          ∙ ap (λ q. R (owned_in_field classes store q j)) (sym at)
      | inr away ↦ ap (λ (o : Option Seen). R (option_and_then (λ (q : Seen). owned_by_field classes q j) o)) (get-set-other store a b n away)
    ]

    same : SameOwners classes store (slice_set store a n)
    same = record { regions = replaced-region store a o n there class label; fields = fields-both }

    come : OwnersCome classes store (slice_set store a n) frames frames Nothing
    come = record {
      from = λ q r h. inl (sym (leads-same classes store (slice_set store a n) frames same q) ∙ h);
      one = λ p q r x y. absurd x;
      unowned = λ p q r x h. x;
      above = λ p r x. absurd x;
    }

    all : (us : List Window) → AllOwners us (λ p. leads_into classes (slice_set store a n) frames p ≡ leads_into classes store frames p)
    all [] = tt
    all (u ∷ us) = (λ p e. leads-same classes store (slice_set store a n) frames same p, all us)
