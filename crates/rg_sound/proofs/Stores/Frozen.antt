-- The store once regions are frozen from which owner references lead to no other, of which none is open, and which are owned only
-- from each other.
use Rattle.std.proofs.Common.{◌≡◌, refl, sym, ◌∙◌, ap, subst, ◌⊎◌, inl, inr, ◌↔◌, ℕ, suc, Bool as Truth, true, false, if◌then◌else◌, List, [], ◌∷◌}
use Rattle.std.proofs.Common.{length, Option, Some, None, option_map, option_and_then, slice_get, arith, IsTrue}
use Rattle.std.proofs.lemmas.Option.{same_Some}
use Rattle.rg_base.specs.declared.words.Cap.{Cap}
use Rattle.rg_base.specs.declared.words.Cap.TheVariants.{Iso}
use Rattle.rg_base.specs.declared.ty.Ty.{Ty}
use Rattle.rg_base.specs.declared.ty.Ty.TheVariants as ty
use Rattle.rg_base.specs.declared.object.Label.{Label}
use Rattle.rg_base.specs.declared.object.Label.TheVariants.{Region, Temp, Frozen}
use Rattle.rg_base.specs.declared.object.Place.{Place}
use Rattle.rg_base.specs.declared.object.Place.TheVariants.{Var, Field}
use Rattle.rg_base.specs.declared.object.Seen.{Seen}
use Rattle.rg_base.specs.declared.value.Val.{Val}
use Rattle.rg_base.specs.declared.value.Val.TheVariants as val
use Rattle.rg_tree.specs.Tree.{Field as FieldOfClass, Class}
use Rattle.rg_rules.specs.Types.{type_of}
use Rattle.rg_rules.specs.State.{Local, Frame, Window}
use Rattle.rg_rules.specs.Regions.{region_of, region_at, owned, among, in_regions, relabelled, relabelled_object}
use Rattle.rg_rules.specs.Owners.{owned_by_local, owned_by_slot, owned_by_field, owned_in_field, owned_in_frame, leads_into, Parent, Above, direct}
use Rattle.rg_rules.specs.Owners.{further}
use Rattle.rg_rules.proofs.Region.{slice_get-relabelled, class-relabelled_object, fields-relabelled_object}
use Rattle.rg_sound.specs.Windows.{windows_of, windows_from}
use Rattle.rg_sound.specs.Values.{IsRegion, LabelFits, MeetsBy, ValuesFit}
use Rattle.rg_sound.specs.Objects.{IsTemp, FieldFits, FieldsMeet, fields_in, ArrayFits, ObjectFits, ObjectsFit}
use Rattle.rg_sound.specs.OpenRegions.{IsNear, AllOwned}
use Rattle.rg_sound.specs.Numbers.{LabelGiven}
use Rattle.rg_sound.proofs.Basics.{none-some}
use Rattle.rg_sound.proofs.Owners.Owner.{leads-top}
use Rattle.rg_sound.proofs.Owners.Data.{Data}
use Rattle.rg_sound.proofs.Values.Label.{windows_of-open, windows_from-open}
use Rattle.rg_sound.proofs.Owners.Open.{IsOpenIn}
use Rattle.rg_sound.proofs.Values.Deliver.{pop-leads}
use Rattle.rg_sound.proofs.Stores.Member.{In, not-among}
use Rattle.rg_sound.proofs.Values.Declared.{owned_slot, owned-declared, declared-same}
use Rattle.rg_sound.proofs.Stores.Beneath.{Closed}
use Rattle.rg_sound.proofs.Stores.FrozenLabel.{frozen_label, frozen-in, frozen-out, in-or-out, frozen-object, label-fits, temp-fits}
use Rattle.rg_sound.proofs.Stores.FrozenLabel.{region-fits}
use Rattle.rg_sound.proofs.Stores.FrozenLabel.{frozen-fits}

-- a place is a field of an object in one of these regions
abbrev pub LiesIn : List Seen → List ℕ → Place → Type 0
LiesIn store rs (Var n i) = ⊥
LiesIn store rs (Field a k) = (q : ℕ) × (region_at store a ≡ Some q) × In q rs

module _ (rs : List ℕ) where
  module _ (classes : List Class) (store : List Seen) where
    forth : (b : ℕ) (o : Seen) → slice_get store b ≡ Some o → slice_get (relabelled rs Frozen store) b ≡ Some (relabelled_object rs Frozen o)
    forth b o e = slice_get-relabelled rs Frozen store b ∙ ap (option_map (relabelled_object rs Frozen)) e

    back : (b : ℕ) (n : Seen) → slice_get (relabelled rs Frozen store) b ≡ Some n →
        (o : Seen) × (slice_get store b ≡ Some o) × (n ≡ relabelled_object rs Frozen o)
    back b n e = by (slice_get store b) refl (sym (slice_get-relabelled rs Frozen store b) ∙ e)
      where
        by : (o : Option Seen) → slice_get store b ≡ o → option_map (relabelled_object rs Frozen) o ≡ Some n →
            (o : Seen) × (slice_get store b ≡ Some o) × (n ≡ relabelled_object rs Frozen o)
        by None x h = none-some h
        by (Some o) x h = (o, x, sym (same_Some (relabelled_object rs Frozen o) n h))

    -- a value keeps meeting its type, where what is known of its owner reference is enough for its label
    meets-frozen : (F G : Cap → Label → Type 0) (Ok : ℕ → Type 0) (t : Ty) (v : Val) →
        ((r : ℕ) → option_and_then (region_at store) (owned t v) ≡ Some r → Ok r) →
        ((k : Cap) (l : Label) → ((r : ℕ) → k ≡ Iso → l ≡ Region r → Ok r) → F k l → G k (frozen_label rs l)) → MeetsBy store F t v →
        MeetsBy (relabelled rs Frozen store) G t v
    meets-frozen F G Ok ty.Int v leads f m = m
    meets-frozen F G Ok ty.Bool v leads f m = m
    meets-frozen F G Ok (ty.Ref k c) val.Nil leads f m = tt
    meets-frozen F G Ok (ty.Ref k c) (val.Int z) leads f m = absurd m
    meets-frozen F G Ok (ty.Ref k c) (val.Bool z) leads f m = absurd m
    meets-frozen F G Ok (ty.Ref k c) (val.Obj b) leads f m =
        let P : Label → Type 0 = λ q. G k q in
        record {
          object = relabelled_object rs Frozen m.object;
          there = forth b m.object m.there;
          class_is =
              class-relabelled_object rs Frozen m.object ∙ m.class_is;
          label_fits = subst P (sym (frozen-object rs m.object)) (f k m.object.label (λ r e l. leads r (owns r e l)) m.label_fits);
        }
      where
        owns : (r : ℕ) → k ≡ Iso → m.object.label ≡ Region r → option_and_then (region_at store) (owned (ty.Ref k c) (val.Obj b)) ≡ Some r
        owns r e l =
            let P : Cap → Type 0 = λ q. option_and_then (region_at store) (owned (ty.Ref q c) (val.Obj b)) ≡ Some r in
            subst P (sym e) (ap (option_and_then (λ (q : Seen). region_of q.label)) m.there ∙ ap region_of l)

    fields-frozen : (F G : Cap → Label → Type 0) (Ok : ℕ → Type 0) (fs : List FieldOfClass) (vs : List Val) →
        ((k r : ℕ) → option_and_then (region_at store) (owned_slot classes fs vs k) ≡ Some r → Ok r) →
        ((k : Cap) (l : Label) → ((r : ℕ) → k ≡ Iso → l ≡ Region r → Ok r) → F k l → G k (frozen_label rs l)) → FieldsMeet classes store F fs vs →
        FieldsMeet classes (relabelled rs Frozen store) G fs vs
    fields-frozen F G Ok [] [] leads f m = tt
    fields-frozen F G Ok [] (v ∷ vs) leads f m = m
    fields-frozen F G Ok (x ∷ fs) [] leads f m = m
    fields-frozen F G Ok (x ∷ fs) (v ∷ vs) leads f m =
        (meets-frozen F G Ok (type_of classes x.ty) v (λ r e. leads 0 r e) f m.0, fields-frozen F G Ok fs vs (λ k r e. leads (suc k) r e) f m.1)

    values-frozen : (ws : List Window) → ((r : ℕ) → IsOpenIn ws r → In r rs → ⊥) → (fs : List Frame) →
        ((p : Place) (r : ℕ) → In r rs → leads_into classes store fs p ≡ Some r → LiesIn store rs p) →
        ValuesFit store ws fs → ValuesFit (relabelled rs Frozen store) ws fs
    values-frozen ws shut [] owners h = tt
    values-frozen ws shut (f ∷ fs) owners h = (
      λ i l e. meets-frozen (LabelFits (windows_of (length fs) i ws)) (LabelFits (windows_of (length fs) i ws)) (λ r. In r rs → ⊥) l.ty l.value
          (λ r g inside. owners (Var (length fs) i) r inside (leads-top classes store f fs i
          ∙ ap (λ (q : Option Local). option_and_then (region_at store) (option_and_then owned_by_local q)) e ∙ g))
          (λ k q out z. label-fits rs ws shut (windows_of (length fs) i ws) (λ y. windows_of-open (length fs) i ws y) k q out z) (h.0 i l e),
      values-frozen ws shut fs (λ p r i g. owners p r i (pop-leads classes store f fs p r g)) h.1,
    )

    -- Owner references only go

    region-old : (b r : ℕ) → region_at (relabelled rs Frozen store) b ≡ Some r → region_at store b ≡ Some r
    region-old b r h = by (slice_get store b) refl (ap (option_and_then (λ (q : Seen). region_of q.label))
        (sym (slice_get-relabelled rs Frozen store b)) ∙ h)
      where
        test : (l : Label) (c : Truth) → region_of (if c then Frozen else l) ≡ Some r → region_of l ≡ Some r
        test l true e = none-some e
        test l false e = e

        by : (o : Option Seen) → slice_get store b ≡ o → option_and_then (λ (q : Seen). region_of q.label)
            (option_map (relabelled_object rs Frozen) o) ≡ Some r → region_at store b ≡ Some r
        by None e g = none-some g
        by (Some o) e g = ap (option_and_then (λ (q : Seen). region_of q.label)) e
            ∙ test o.label (in_regions rs o.label) (ap region_of (sym (frozen-object rs o)) ∙ g)

    region-kept : (b r : ℕ) → (In r rs → ⊥) → region_at store b ≡ Some r → region_at (relabelled rs Frozen store) b ≡ Some r
    region-kept b r out h = by (slice_get store b) refl h
      where
        label : (l : Label) → region_of l ≡ Some r → region_of (frozen_label rs l) ≡ Some r
        label (Region q) e =
            let same : q ≡ r = same_Some q r e in let P : ℕ → Type 0 = λ z. In z rs → ⊥ in
            ap region_of (frozen-out rs q (subst P (sym same) out)) ∙ e
        label (Temp n) e = none-some e
        label Frozen e = none-some e

        by : (o : Option Seen) → slice_get store b ≡ o → option_and_then (λ (q : Seen). region_of q.label) o ≡ Some r →
            region_at (relabelled rs Frozen store) b ≡ Some r
        by None e g = none-some g
        by (Some o) e g = ap (option_and_then (λ (q : Seen). region_of q.label)) (forth b o e) ∙ ap region_of (frozen-object rs o) ∙ label o.label g

    -- an object that is frozen owns nothing, another one what it did
    owner-old : (o : Seen) (j a : ℕ) → owned_by_field classes (relabelled_object rs Frozen o) j ≡ Some a → owned_by_field classes o j ≡ Some a
    owner-old o j a h = by (in_regions rs o.label) h
      where
        by : (c : Truth) → owned_by_field classes (if c then record o { label = Frozen } else o) j ≡ Some a → owned_by_field classes o j ≡ Some a
        by true e = none-some e
        by false e = e

    field-old : (b j a : ℕ) → owned_in_field classes (relabelled rs Frozen store) b j ≡ Some a → owned_in_field classes store b j ≡ Some a
    field-old b j a h = by (slice_get store b) refl (ap (option_and_then (λ (q : Seen). owned_by_field classes q j))
        (sym (slice_get-relabelled rs Frozen store b)) ∙ h)
      where
        by : (o : Option Seen) → slice_get store b ≡ o → option_and_then (λ (q : Seen). owned_by_field classes q j)
            (option_map (relabelled_object rs Frozen) o) ≡ Some a → owned_in_field classes store b j ≡ Some a
        by None e g = none-some g
        by (Some o) e g = ap (option_and_then (λ (q : Seen). owned_by_field classes q j)) e ∙ owner-old o j a g

    leads-old : (frames : List Frame) (p : Place) (r : ℕ) → leads_into classes (relabelled rs Frozen store) frames p ≡ Some r →
        leads_into classes store frames p ≡ Some r
    leads-old frames (Var n i) r h = through (owned_in_frame frames n i) h
      where
        through : (x : Option ℕ) → option_and_then (region_at (relabelled rs Frozen store)) x ≡ Some r → option_and_then (region_at store) x ≡ Some r
        through None e = none-some e
        through (Some b) e = region-old b r e
    leads-old frames (Field b j) r h = by (owned_in_field classes (relabelled rs Frozen store) b j) refl h
      where
        by : (x : Option ℕ) → owned_in_field classes (relabelled rs Frozen store) b j ≡ x →
            option_and_then (region_at (relabelled rs Frozen store)) x ≡ Some r →
            option_and_then (region_at store) (owned_in_field classes store b j) ≡ Some r
        by None e g = none-some g
        by (Some a) e g = ap (option_and_then (region_at store)) (field-old b j a e) ∙ region-old a r g

    parent-old : (p r : ℕ) → Parent classes (relabelled rs Frozen store) p r → Parent classes store p r
    parent-old p r h = record {
      object = h.object;
      field = h.field;
      lies = region-old h.object p h.lies;
      leads =
          leads-old [] (Field h.object h.field) r h.leads;
    }

    above-old : (p r : ℕ) → Above classes (relabelled rs Frozen store) p r → Above classes store p r
    above-old p r (direct h) = direct (parent-old p r h)
    above-old p r (further {q = q} a h) = further (above-old p q a) (parent-old q r h)

    -- an owner reference into another region stays, if it stands in no object that is frozen
    leads-kept : (frames : List Frame) (w v : Window) (p : Place) (r : ℕ) → (In r rs → ⊥) → (In v.region rs → ⊥) → IsNear store w v p →
        leads_into classes store frames p ≡ Some r →
        IsNear (relabelled rs Frozen store) w v p × (leads_into classes (relabelled rs Frozen store) frames p ≡ Some r)
    leads-kept frames w v (Var n i) r out other near h = (near, through (owned_in_frame frames n i) h)
      where
        through : (x : Option ℕ) → option_and_then (region_at store) x ≡ Some r → option_and_then (region_at (relabelled rs Frozen store)) x ≡ Some r
        through None e = none-some e
        through (Some b) e = region-kept b r out e
    leads-kept frames w v (Field b j) r out other near h =
        let same : relabelled_object rs Frozen near.0 ≡ near.0 = untouched near.0 near.2 in
        let there : slice_get (relabelled rs Frozen store) b ≡ Some near.0 = forth b near.0 near.1 ∙ ap Some same in (
          (near.0, there, near.2),
          through (owned_by_field classes near.0 j) (ap (option_and_then (λ (q : Seen). owned_by_field classes q j)) there)
              (sym (ap (λ (q : Option Seen). option_and_then (region_at store) (option_and_then (λ (z : Seen). owned_by_field classes z j) q)) near.1)
              ∙ h),
        )
      where
        test : (o : Seen) (c : Truth) → c ≡ false → (if c then record o { label = Frozen } else o) ≡ o
        test o true e = grind arith
        test o false e = refl

        untouched : (o : Seen) → (o.label ≡ Region v.region) ⊎ (o.label ≡ Temp v.number) → relabelled_object rs Frozen o ≡ o
        untouched o (inl e) = test o (in_regions rs o.label) (ap (in_regions rs) e ∙ not-among rs v.region other)
        untouched o (inr e) = test o (in_regions rs o.label) (ap (in_regions rs) e)

        through : (x : Option ℕ) → owned_in_field classes (relabelled rs Frozen store) b j ≡ x → option_and_then (region_at store) x ≡ Some r →
            option_and_then (region_at (relabelled rs Frozen store)) (owned_in_field classes (relabelled rs Frozen store) b j) ≡ Some r
        through None e g = none-some g
        through (Some a) e g = ap (option_and_then (region_at (relabelled rs Frozen store))) e ∙ region-kept a r out g

    owned-frozen : (frames : List Frame) (us : List Window) → ((r : ℕ) → IsOpenIn us r → In r rs → ⊥) → AllOwned classes store frames us →
        AllOwned classes (relabelled rs Frozen store) frames us
    owned-frozen frames [] shut h = h
    owned-frozen frames (w ∷ []) shut h = h
    owned-frozen frames (w ∷ v ∷ us) shut h =
        let was = (h.0.exact h.0.place).1 refl in
        let k = leads-kept frames w v h.0.place w.region (shut w.region (inl refl)) (shut v.region (inr (inl refl))) h.0.near was in (
          record {
            place = h.0.place;
            named = h.0.named;
            near = k.0;
            exact = λ p. (
              λ e. (h.0.exact p).0 (leads-old frames p w.region e),
              λ e. let P : Place → Type 0 = λ q. leads_into classes (relabelled rs Frozen store) frames q ≡ Some w.region in subst P (sym e) k.1,
            );
          },
          owned-frozen frames (v ∷ us) (λ r z. shut r (inr z)) h.1,
        )

    module _ (frames : List Frame) (ws : List Window) (regions made : ℕ) (d : Data classes store frames ws regions made)
        (closed : Closed classes store rs)
        (shut : (r : ℕ) → IsOpenIn ws r → In r rs → ⊥) (owners : (p : Place) (r : ℕ) → In r rs → leads_into classes store frames p ≡ Some r →
        LiesIn store rs p) where
      label-given : (l : Label) (c : Truth) → LabelGiven regions made l → LabelGiven regions made (if c then Frozen else l)
      label-given l true h = tt
      label-given l false h = h

      temp-back : (l : Label) (b : Truth) → (IsTemp l ↔ IsTrue b) → IsTemp (frozen_label rs l) ↔ IsTrue b
      temp-back (Region r) b h = by (among rs r)
        where
          by : (c : Truth) → IsTemp (if c then Frozen else Region r) ↔ IsTrue b
          by true = h
          by false = h
      temp-back (Temp n) b h = h
      temp-back Frozen b h = h

      -- the fields of an object that was at an address
      fields-fit : (b : ℕ) (o : Seen) → slice_get store b ≡ Some o → (f : ObjectFits classes store ws o) →
          FieldsMeet classes (relabelled rs Frozen store) (FieldFits ws (frozen_label rs o.label)) (fields_in classes f.class o) o.fields
      fields-fit b o e f = by_label o.label refl f.fields
        where
          slot : (l : Label) → o.label ≡ l → (IsTemp l ⊎ IsRegion l) → (k r : ℕ) →
              option_and_then (region_at store) (owned_slot classes (fields_in classes f.class o) o.fields k) ≡ Some r →
              leads_into classes store frames (Field b k) ≡ Some r
          slot l g h k r z = ap (λ (q : Option Seen). option_and_then (region_at store)
              (option_and_then (λ (y : Seen). owned_by_field classes y k) q)) e ∙ ap (option_and_then (region_at store)) (owns l g h) ∙ of_class
              (owned_slot classes (fields_in classes f.class o) o.fields k) refl z
            where
              of_class : (x : Option ℕ) → owned_slot classes (fields_in classes f.class o) o.fields k ≡ x →
                  option_and_then (region_at store) x ≡ Some r →
                  option_and_then (region_at store) (owned_by_slot classes o k) ≡ Some r
              of_class None e y = none-some y
              of_class (Some a) e y = ap (option_and_then (region_at store)) (owned-declared classes store ws o f k a e) ∙ y

              owns : (l : Label) → o.label ≡ l → (IsTemp l ⊎ IsRegion l) → owned_by_field classes o k ≡ owned_by_slot classes o k
              owns (Region q) g h = let P : Label → Type 0 = λ y. ◌≡◌ {A = Option ℕ}
                  (elim y [ Region r ↦ owned_by_slot classes o k | Temp t ↦ owned_by_slot classes o k | Frozen ↦ None ]) (owned_by_slot classes o k)
                  in
                  subst P (sym g) refl
              owns (Temp q) g h = let P : Label → Type 0 = λ y. ◌≡◌ {A = Option ℕ}
                  (elim y [ Region r ↦ owned_by_slot classes o k | Temp t ↦ owned_by_slot classes o k | Frozen ↦ None ]) (owned_by_slot classes o k)
                  in
                  subst P (sym g) refl
              owns Frozen g (inl h) = absurd h
              owns Frozen g (inr h) = let x = h.1 in grind arith

          -- where the object isn't frozen, what it owns isn't either
          outside : (l : Label) → o.label ≡ l → (IsTemp l ⊎ IsRegion l) → ((q : ℕ) → region_of l ≡ Some q → In q rs → ⊥) →
              (k r : ℕ) → option_and_then (region_at store) (owned_slot classes (fields_in classes f.class o) o.fields k) ≡ Some r → In r rs → ⊥
          outside l g h out k r z i =
              let lies = owners (Field b k) r i (slot l g h k r z) in
              out lies.0 (sym (ap (option_and_then (λ (q : Seen). region_of q.label)) e ∙ ap region_of g) ∙ lies.1) lies.2

          by_label : (l : Label) → o.label ≡ l → FieldsMeet classes store (FieldFits ws l) (fields_in classes f.class o) o.fields →
              FieldsMeet classes (relabelled rs Frozen store) (FieldFits ws (frozen_label rs l)) (fields_in classes f.class o) o.fields
          by_label (Region r) g m = elim (in-or-out rs r) [
            | inl inside ↦
                (let P : Label → Type 0 = λ q. FieldsMeet classes (relabelled rs Frozen store) (FieldFits ws q) (fields_in classes f.class o)
                o.fields in
                subst P (sym (frozen-in rs r inside)) (fields-frozen (FieldFits ws (Region r)) (FieldFits ws Frozen) (λ q. In q rs)
                (fields_in classes f.class o) o.fields
                (λ k q z. closed r q inside (record {
                  object = b;
                  field = k;
                  lies = ap (option_and_then (λ (q : Seen). region_of q.label)) e
                      ∙ ap region_of g;
                  leads = slot (Region r) g (inr (r, refl)) k q z;
                }))
                (λ k q down h. frozen-fits rs r inside k q down h) m))
            | inr out ↦
                (let P : Label → Type 0 = λ q. FieldsMeet classes (relabelled rs Frozen store) (FieldFits ws q) (fields_in classes f.class o)
                o.fields in
                subst P (sym (frozen-out rs r out)) (fields-frozen (FieldFits ws (Region r)) (FieldFits ws (Region r)) (λ q. In q rs → ⊥)
                (fields_in classes f.class o) o.fields
                (λ k q z. outside (Region r) g (inr (r, refl)) (λ y x i. let Q : ℕ → Type 0 = λ z. In z rs in
                out (subst Q (sym (same_Some r y x)) i)) k q z)
                (λ k q away h. region-fits rs ws shut r out k q away h) m))
          ]
          by_label (Temp n) g m = fields-frozen (FieldFits ws (Temp n)) (FieldFits ws (Temp n)) (λ q. In q rs → ⊥) (fields_in classes f.class o)
              o.fields
              (λ k q z. outside (Temp n) g (inl tt) (λ y x i. none-some x) k q z)
              (λ k q away h. temp-fits rs ws shut (windows_from n ws) (λ y. windows_from-open n ws y) k q away h) m
          by_label Frozen g m = fields-frozen (FieldFits ws Frozen) (FieldFits ws Frozen) (λ q. Unit {0}) (fields_in classes f.class o) o.fields
              (λ k q z. tt) (λ k q y h. ap (frozen_label rs) h) m

      pub frozen-data : Data classes (relabelled rs Frozen store) frames ws regions made
      frozen-data = record {
        values = values-frozen ws shut frames owners d.values;
        objects = objects;
        opened = record { owned = owned-frozen frames ws shut d.opened.owned; one_each = d.opened.one_each };
        forest = record {
          one_owner = λ p q r h k. d.forest.one_owner p q r (leads-old frames p r h) (leads-old frames q r k);
          none_into_first = λ p h. d.forest.none_into_first p (leads-old frames p 0 h);
          no_cycle = λ r h. d.forest.no_cycle r (above-old r r h);
        };
        numbers = record {
          labels = λ b n e.
              let o = back b n e in
              let P : Label → Type 0 = λ q. LabelGiven regions made q in
              let is : n.label ≡ frozen_label rs o.0.label = ap (λ (q : Seen). q.label) o.2 ∙ frozen-object rs o.0 in
              subst P (sym is) (label-given o.0.label (in_regions rs o.0.label) (d.numbers.labels b o.0 o.1));
          given = d.numbers.given;
          rising = d.numbers.rising;
        };
      }
        where
          objects : ObjectsFit classes (relabelled rs Frozen store) ws
          objects b n e =
              let o = back b n e in
              let f = d.objects b o.0 o.1 in
              let class : n.class ≡ o.0.class = ap (λ (q : Seen). q.class) o.2 ∙ class-relabelled_object rs Frozen o.0 in
              let fields_are : n.fields ≡ o.0.fields = ap (λ (q : Seen). q.fields) o.2 ∙ fields-relabelled_object rs Frozen o.0 in
              let label : n.label ≡ frozen_label rs o.0.label = ap (λ (q : Seen). q.label) o.2 ∙ frozen-object rs o.0 in
              let m = fields-fit b o.0 o.1 f in
              let P : Label → Type 0 = λ q. FieldsMeet classes (relabelled rs Frozen store) (FieldFits ws q) (fields_in classes f.class n) n.fields in
              let Q : List FieldOfClass → Type 0 = λ q. FieldsMeet classes (relabelled rs Frozen store) (FieldFits ws (frozen_label rs o.0.label))
              q n.fields in
              let R : List Val → Type 0 = λ q. FieldsMeet classes (relabelled rs Frozen store) (FieldFits ws (frozen_label rs o.0.label))
              (fields_in classes f.class o.0) q in
              let A : List Val → Type 0 = λ q. ArrayFits f.class f.class.element (length q) in
              let T : Label → Type 0 = λ q. IsTemp q ↔ IsTrue f.class.is_tmp in
              record {
                class = f.class;
                class_is = ap (slice_get classes) class ∙ f.class_is;
                label_is = subst T (sym label) (temp-back o.0.label f.class.is_tmp f.label_is);
                fields = subst P (sym label)
                    (subst Q (sym (declared-same classes f.class o.0 n class (ap (λ q. length q) fields_are))) (subst R (sym fields_are) m));
                array = subst A (sym fields_are) f.array;
              }
