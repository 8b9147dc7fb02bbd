-- `merge y`: the objects of a region that nothing owns any more go to the active one.
use Rattle.std.proofs.Common.{◌≡◌, ◌≢◌, refl, sym, ◌∙◌, ap, subst, ◌⊎◌, inl, inr, ◌↔◌, ℕ, ◌==◌, ◌<◌, Bool as Truth, true, false, if◌then◌else◌, List}
use Rattle.std.proofs.Common.{[], ◌∷◌, length, Option, Some, None, is_some, option_map, option_and_then, slice_get, arith, IsTrue}
use Rattle.std.proofs.lemmas.Option.{same_Some}
use Rattle.rg_base.specs.declared.words.Cap.{Cap}
use Rattle.rg_base.specs.declared.ty.Ty.{Ty}
use Rattle.rg_base.specs.declared.ty.Ty.TheVariants as ty
use Rattle.rg_base.specs.declared.object.Label.{Label}
use Rattle.rg_base.specs.declared.object.Label.TheVariants.{Region, Temp, Frozen}
use Rattle.rg_base.specs.declared.object.Place.{Place}
use Rattle.rg_base.specs.declared.object.Place.TheVariants.{Var, Field}
use Rattle.rg_base.specs.declared.object.Seen.{Seen}
use Rattle.rg_base.specs.declared.value.Val.{Val}
use Rattle.rg_base.specs.declared.value.Val.TheVariants as val
use Rattle.rg_tree.specs.Tree.{Field as FieldOfClass, Class}
use Rattle.rg_rules.specs.Types.{type_of}
use Rattle.rg_rules.specs.State.{Frame, Window}
use Rattle.rg_rules.specs.Regions.{region_of, region_at, in_regions, relabelled, relabelled_object}
use Rattle.rg_rules.specs.Owners.{owned_by_slot, owned_by_field, owned_in_field, owned_in_frame, leads_into, Parent, Above, direct, further}
use Rattle.rg_rules.proofs.Region.{slice_get-relabelled, class-relabelled_object, fields-relabelled_object}
use Rattle.rg_sound.specs.Windows.{windows_of}
use Rattle.rg_sound.specs.Values.{LabelFits, MeetsBy, ValuesFit}
use Rattle.rg_sound.specs.Objects.{IsTemp, FieldFits, FieldsMeet, fields_in, ArrayFits, ObjectsFit}
use Rattle.rg_sound.specs.OpenRegions.{IsNear, AllOwned}
use Rattle.rg_sound.specs.Numbers.{LabelGiven}
use Rattle.rg_sound.proofs.Basics.{none-some}
use Rattle.rg_sound.proofs.Owners.Data.{Data}
use Rattle.rg_sound.proofs.Values.Label.{windows_of-open}
use Rattle.rg_sound.proofs.Owners.Open.{IsOpenIn, above-open, open-owned, above-trans}
use Rattle.rg_sound.proofs.Stores.MergeLabel.{merged_label, kept_by, label-fits, field-fits}
use Rattle.rg_sound.proofs.Values.Declared.{declared-same}

-- objects with the labels behind the merge
abbrev pub Relabels : (gone into : ℕ) → List Seen → List Seen → Type 0
Relabels g a old new = (b : ℕ) (o : Seen) → slice_get old b ≡ Some o →
    (n : Seen) × (slice_get new b ≡ Some n) × (n.class ≡ o.class) × (n.fields ≡ o.fields) × (n.label ≡ merged_label g a o.label)

meets-merged : (old new : List Seen) (g a : ℕ) (F G : Cap → Label → Type 0) (t : Ty) (v : Val) → Relabels g a old new →
    ((k : Cap) (l : Label) → F k l → G k (merged_label g a l)) → MeetsBy old F t v → MeetsBy new G t v
meets-merged old new g a F G ty.Int v r f m = m
meets-merged old new g a F G ty.Bool v r f m = m
meets-merged old new g a F G (ty.Ref k c) val.Nil r f m = tt
meets-merged old new g a F G (ty.Ref k c) (val.Int z) r f m = absurd m
meets-merged old new g a F G (ty.Ref k c) (val.Bool z) r f m = absurd m
meets-merged old new g a F G (ty.Ref k c) (val.Obj b) r f m =
    let n = r b m.object m.there in
    let P : Label → Type 0 = λ q. G k q in
    record { object = n.0; there = n.1; class_is = n.2 ∙ m.class_is; label_fits = subst P (sym n.4) (f k m.object.label m.label_fits) }

fields-merged : (classes : List Class) (old new : List Seen) (g a : ℕ) (F G : Cap → Label → Type 0) (fs : List FieldOfClass) (vs : List Val) →
    Relabels g a old new →
    ((k : Cap) (l : Label) → F k l → G k (merged_label g a l)) → FieldsMeet classes old F fs vs → FieldsMeet classes new G fs vs
fields-merged classes old new g a F G [] [] r f m = tt
fields-merged classes old new g a F G [] (v ∷ vs) r f m = m
fields-merged classes old new g a F G (x ∷ fs) [] r f m = m
fields-merged classes old new g a F G (x ∷ fs) (v ∷ vs) r f m =
    (meets-merged old new g a F G (type_of classes x.ty) v r f m.0, fields-merged classes old new g a F G fs vs r f m.1)

values-merged : (old new : List Seen) (g a : ℕ) (ws : List Window) (fs : List Frame) → (IsOpenIn ws g → ⊥) → Relabels g a old new →
    ValuesFit old ws fs → ValuesFit new ws fs
values-merged old new g a ws [] c r h = tt
values-merged old new g a ws (f ∷ fs) c r h = (
  λ i l e. meets-merged old new g a (LabelFits (windows_of (length fs) i ws)) (LabelFits (windows_of (length fs) i ws)) l.ty l.value r
      (λ k q z. label-fits g a ws c (windows_of (length fs) i ws) (λ y. windows_of-open (length fs) i ws y) k q z) (h.0 i l e),
  values-merged old new g a ws fs c r h.1,
)

-- The store behind the merge

pub relabelled-label : (g a : ℕ) (o : Seen) → (relabelled_object (g ∷ []) (Region a) o).label ≡ merged_label g a o.label
relabelled-label g a o = by_label o.label refl
  where
    by_test : (b : Truth) (r : ℕ) → o.label ≡ Region r → (g == r) ≡ b →
        (if is_some (if b then Some g else None) then record o { label = Region a } else o).label ≡ (if b then Region a else Region r)
    by_test true r e h = refl
    by_test false r e h = e

    by_label : (l : Label) → o.label ≡ l → (if in_regions (g ∷ []) l then record o { label = Region a } else o).label ≡ merged_label g a l
    by_label (Region r) e = by_test (g == r) r e refl
    by_label (Temp n) e = e
    by_label Frozen e = e

module _ (classes : List Class) (store : List Seen) (frames : List Frame) (ws : List Window) (regions made g a : ℕ)
    (d : Data classes store frames ws regions made)
    (unowned : (q : Place) → ¬ (leads_into classes store frames q ≡ Some g)) (above_first : g ≢ 0) (into_open : IsOpenIn ws a)
    (into_given : a < regions) where
  closed : IsOpenIn ws g → ⊥
  closed h = elim (open-owned classes store frames ws d.opened.owned g h) [ inl e ↦ above_first e | inr o ↦ unowned o.0 o.1 ]

  forth : Relabels g a store (relabelled (g ∷ []) (Region a) store)
  forth b o e = (
    relabelled_object (g ∷ []) (Region a) o,
    slice_get-relabelled (g ∷ []) (Region a) store b
        ∙ ap (option_map (relabelled_object (g ∷ []) (Region a))) e,
    class-relabelled_object (g ∷ []) (Region a) o,
    fields-relabelled_object (g ∷ []) (Region a) o,
    relabelled-label g a o,
  )

  back : (b : ℕ) (n : Seen) → slice_get (relabelled (g ∷ []) (Region a) store) b ≡ Some n →
      (o : Seen) × (slice_get store b ≡ Some o) × (n ≡ relabelled_object (g ∷ []) (Region a) o)
  back b n e = by (slice_get store b) refl (sym (slice_get-relabelled (g ∷ []) (Region a) store b) ∙ e)
    where
      by : (o : Option Seen) → slice_get store b ≡ o → option_map (relabelled_object (g ∷ []) (Region a)) o ≡ Some n →
          (o : Seen) × (slice_get store b ≡ Some o) × (n ≡ relabelled_object (g ∷ []) (Region a) o)
      by None x h = none-some h
      by (Some o) x h = (o, x, sym (same_Some (relabelled_object (g ∷ []) (Region a) o) n h))

  region-label : (l : Label) → (region_of l ≡ Some g → ⊥) → region_of (merged_label g a l) ≡ region_of l
  region-label (Region r) h = by (g == r) refl
    where
      by : (b : Truth) → (g == r) ≡ b → region_of (if b then Region a else Region r) ≡ Some r
      by true e = let same : g ≡ r = grind arith in absurd (h (ap Some (sym same)))
      by false e = refl
  region-label (Temp n) h = refl
  region-label Frozen h = refl

  region-same : (b : ℕ) → (region_at store b ≡ Some g → ⊥) → region_at (relabelled (g ∷ []) (Region a) store) b ≡ region_at store b
  region-same b h = by (slice_get store b) refl
    where
      by : (o : Option Seen) → slice_get store b ≡ o → region_at (relabelled (g ∷ []) (Region a) store) b ≡ region_at store b
      by None e = ap (option_and_then (λ (q : Seen). region_of q.label))
          (slice_get-relabelled (g ∷ []) (Region a) store b ∙ ap (option_map (relabelled_object (g ∷ []) (Region a))) e ∙ sym e)
      by (Some o) e =
          let n = forth b o e in
          ap (option_and_then (λ (q : Seen). region_of q.label)) n.1 ∙ ap region_of n.4
          ∙ region-label o.label (λ k. h (ap (option_and_then (λ (q : Seen). region_of q.label)) e ∙ k))
          ∙ ap (option_and_then (λ (q : Seen). region_of q.label)) (sym e)

  same_owner : (l : Label) (x y : Option ℕ) → x ≡ y → ◌≡◌ {A = Option ℕ} (elim (merged_label g a l) [ Region r ↦ x | Temp t ↦ x | Frozen ↦ None ])
      (elim l [ Region r ↦ y | Temp t ↦ y | Frozen ↦ None ])
  same_owner (Region r) x y e = by (g == r)
    where
      by : (b : Truth) → ◌≡◌ {A = Option ℕ} (elim (if b then Region a else Region r) [ Region r ↦ x | Temp t ↦ x | Frozen ↦ None ]) y
      by true = e
      by false = e
  same_owner (Temp n) x y e = e
  same_owner Frozen x y e = refl

  owner-object : (o n : Seen) (j : ℕ) → n.class ≡ o.class → n.fields ≡ o.fields → n.label ≡ merged_label g a o.label →
      owned_by_field classes n j ≡ owned_by_field classes o j
  owner-object o n j c f l =
      let P : Label → Type 0 = λ q. ◌≡◌ {A = Option ℕ} (elim q [
        | Region r ↦ owned_by_slot classes n j
        | Temp t ↦
            owned_by_slot classes n j
        | Frozen ↦ None
      ]) (owned_by_field classes o j) in
      subst P (sym l) (same_owner o.label (owned_by_slot classes n j) (owned_by_slot classes o j) (rw (owned_by_slot, c, f) refl))

  field-same : (b j : ℕ) → owned_in_field classes (relabelled (g ∷ []) (Region a) store) b j ≡ owned_in_field classes store b j
  field-same b j = by (slice_get store b) refl
    where
      by : (o : Option Seen) → slice_get store b ≡ o → owned_in_field classes (relabelled (g ∷ []) (Region a) store)
          b j ≡ owned_in_field classes store b j
      by None e = ap (option_and_then (λ (q : Seen). owned_by_field classes q j))
          (slice_get-relabelled (g ∷ []) (Region a) store b ∙ ap (option_map (relabelled_object (g ∷ []) (Region a))) e ∙ sym e)
      by (Some o) e =
          let n = forth b o e in
          ap (option_and_then (λ (q : Seen). owned_by_field classes q j)) n.1 ∙ owner-object o n.0 j n.2 n.3 n.4
          ∙ ap (option_and_then (λ (q : Seen). owned_by_field classes q j)) (sym e)

  through : (x : Option ℕ) → (option_and_then (region_at store) x ≡ Some g → ⊥) →
      option_and_then (region_at (relabelled (g ∷ []) (Region a) store)) x ≡ option_and_then (region_at store) x
  through None h = refl
  through (Some b) h = region-same b h

  leads-same : (p : Place) → leads_into classes (relabelled (g ∷ []) (Region a) store) frames p ≡ leads_into classes store frames p
  leads-same (Var n i) = through (owned_in_frame frames n i) (unowned (Var n i))
  leads-same (Field b j) = ap (option_and_then (region_at (relabelled (g ∷ []) (Region a) store))) (field-same b j)
      ∙ through (owned_in_field classes store b j) (unowned (Field b j))

  -- a parent in the new store is one in the old, or the active region in the place of the one that went
  parent-old : (p r : ℕ) → Parent classes (relabelled (g ∷ []) (Region a) store) p r → Parent classes store p r ⊎ ((p ≡ a) × Parent classes store g r)
  parent-old p r h = by (region_at store h.object) refl
    where
      leads : option_and_then (region_at store) (owned_in_field classes store h.object h.field) ≡ Some r
      leads = sym (leads-same (Field h.object h.field)) ∙ h.leads

      gone : (o : Option Seen) → slice_get store h.object ≡ o → region_at store h.object ≡ Some g → p ≡ a
      gone None e k = none-some (sym (ap (option_and_then (λ (q : Seen). region_of q.label)) e) ∙ k)
      gone (Some o) e k =
          let n = forth h.object o e in
          let was : region_of o.label ≡ Some g = sym (ap (option_and_then (λ (q : Seen). region_of q.label)) e) ∙ k in
          let now : region_of (merged_label g a o.label) ≡ Some p = sym (ap (option_and_then (λ (q : Seen). region_of q.label)) n.1
          ∙ ap region_of n.4) ∙ h.lies in
          label o.label was now
        where
          label : (l : Label) → region_of l ≡ Some g → region_of (merged_label g a l) ≡ Some p → p ≡ a
          label (Region q) w z = test (g == q) refl (same_Some q g w) z
            where
              test : (b : Truth) → (g == q) ≡ b → q ≡ g → region_of (if b then Region a else Region q) ≡ Some p → p ≡ a
              test true e s z = sym (same_Some a p z)
              test false e s z = let yes_it : (g == q) ≡ true = grind arith in let c : true ≡ false = sym yes_it ∙ e in grind arith
          label (Temp q) w z = none-some w
          label Frozen w z = none-some w

      by : (o : Option ℕ) → region_at store h.object ≡ o → Parent classes store p r ⊎ ((p ≡ a) × Parent classes store g r)
      by None e = none-some (sym (region-same h.object (λ k. none-some (sym e ∙ k)) ∙ e) ∙ h.lies)
      by (Some q) e = test (g == q) refl
        where
          test : (b : Truth) → (g == q) ≡ b → Parent classes store p r ⊎ ((p ≡ a) × Parent classes store g r)
          test true x =
              let same : q ≡ g = let s : g ≡ q = grind arith in sym s in
              let here : region_at store h.object ≡ Some g = e ∙ ap Some same in
              inr (gone (slice_get store h.object) refl here, record { object = h.object; field = h.field; lies = here; leads = leads })
          test false x =
              let other : region_at store h.object ≡ Some g → ⊥ = λ k. let s : q ≡ g = same_Some q g (sym e ∙ k) in
              let yes_it : (g == q) ≡ true = grind arith in let c : true ≡ false = sym yes_it ∙ x in grind arith in
              inl (record { object = h.object; field = h.field; lies = sym (region-same h.object other) ∙ h.lies; leads = leads })

  chain-old : (p r : ℕ) → Above classes (relabelled (g ∷ []) (Region a) store) p r →
      Above classes store p r ⊎ (((p ≡ a) ⊎ Above classes store p a) × Above classes store g r)
  chain-old p r (direct h) = elim (parent-old p r h) [ inl was ↦ inl (direct was) | inr glued ↦ inr (inl glued.0, direct glued.1) ]
  chain-old p r (further {q = q} b h) = elim (chain-old p q b) [
    | inl chain ↦ elim (parent-old q r h) [
      | inl was ↦ inl (further chain was)
      | inr glued ↦ let P : ℕ → Type 0 = λ z. Above classes store p z in inr (inr (subst P glued.0 chain), direct glued.1)
    ]
    | inr t ↦ elim (parent-old q r h) [
      | inl was ↦ inr (t.0, further t.1 was)
      | inr glued ↦ inr (t.0, direct glued.1)
    ]
  ]

  no_cycle : (r : ℕ) → ¬ Above classes (relabelled (g ∷ []) (Region a) store) r r
  no_cycle r h = elim (chain-old r r h) [
    | inl chain ↦ d.forest.no_cycle r chain
    | inr t ↦
        let up : Above classes store g a = elim (t.0) [
          | inl e ↦ (let P : ℕ → Type 0 = λ z. Above classes store g z in subst P e t.1)
          | inr above ↦ above-trans classes store g r a t.1 above
        ] in
        closed (above-open classes store frames ws d.opened.owned d.forest.none_into_first g a up into_open)
  ]

  owned-merged : (us : List Window) → ((r : ℕ) → IsOpenIn us r → IsOpenIn ws r) → AllOwned classes store frames us →
      AllOwned classes (relabelled (g ∷ []) (Region a) store) frames us
  owned-merged [] up h = h
  owned-merged (w ∷ []) up h = h
  owned-merged (w ∷ v ∷ us) up h = (
    record {
      place = h.0.place;
      named = h.0.named;
      near = near h.0.place h.0.near;
      exact = λ p. (λ e. (h.0.exact p).0 (sym (leads-same p) ∙ e), λ e. leads-same p ∙ (h.0.exact p).1 e);
    },
    owned-merged (v ∷ us) (λ r z. up r (inr z)) h.1,
  )
    where
      near : (p : Place) → IsNear store w v p → IsNear (relabelled (g ∷ []) (Region a) store) w v p
      near (Var m i) h = h
      near (Field b k) h =
          let n = forth b h.0 h.1 in (
            n.0,
            n.1,
            elim (h.2) [
              | inl e ↦ inl (n.4 ∙ ap (merged_label g a) e ∙ kept_by (g == v.region) g a v.region refl (λ z. z)
                  (λ s. closed (let P : ℕ → Type 0 = λ q. IsOpenIn ws q in subst P (sym s) (up v.region (inr (inl refl))))))
              | inr e ↦ inr (n.4 ∙ ap (merged_label g a) e)
            ],
          )

  label-given : (l : Label) → LabelGiven regions made l → LabelGiven regions made (merged_label g a l)
  label-given (Region r) h = by (g == r)
    where
      by : (b : Truth) → LabelGiven regions made (if b then Region a else Region r)
      by true = into_given
      by false = h
  label-given (Temp n) h = h
  label-given Frozen h = tt

  temp-back : (l : Label) (b : Truth) → (IsTemp l ↔ IsTrue b) → IsTemp (merged_label g a l) ↔ IsTrue b
  temp-back (Region r) b h = by (g == r)
    where
      by : (c : Truth) → IsTemp (if c then Region a else Region r) ↔ IsTrue b
      by true = h
      by false = h
  temp-back (Temp n) b h = h
  temp-back Frozen b h = h

  pub merge-data : Data classes (relabelled (g ∷ []) (Region a) store) frames ws regions made
  merge-data = record {
    values = values-merged store (relabelled (g ∷ []) (Region a) store) g a ws frames closed forth d.values;
    objects = objects;
    opened = record { owned = owned-merged ws (λ r z. z) d.opened.owned; one_each = d.opened.one_each };
    forest = record {
      one_owner = λ p q r h k. d.forest.one_owner p q r (sym (leads-same p) ∙ h) (sym (leads-same q) ∙ k);
      none_into_first = λ p h. d.forest.none_into_first p (sym (leads-same p) ∙ h);
      no_cycle = no_cycle;
    };
    numbers = record {
      labels = λ b n e.
          let o = back b n e in
          let P : Label → Type 0 = λ q. LabelGiven regions made q in
          let is : n.label ≡ merged_label g a o.0.label = ap (λ (q : Seen). q.label) o.2 ∙ relabelled-label g a o.0 in
          subst P (sym is) (label-given o.0.label (d.numbers.labels b o.0 o.1));
      given = d.numbers.given;
      rising = d.numbers.rising;
    };
  }
    where
      objects : ObjectsFit classes (relabelled (g ∷ []) (Region a) store) ws
      objects b n e =
          let o = back b n e in
          let f = d.objects b o.0 o.1 in
          let class : n.class ≡ o.0.class = ap (λ (q : Seen). q.class) o.2 ∙ class-relabelled_object (g ∷ []) (Region a) o.0 in
          let fields_are : n.fields ≡ o.0.fields = ap (λ (q : Seen). q.fields) o.2 ∙ fields-relabelled_object (g ∷ []) (Region a) o.0 in
          let label : n.label ≡ merged_label g a o.0.label = ap (λ (q : Seen). q.label) o.2 ∙ relabelled-label g a o.0 in
          let m = fields-merged classes store (relabelled (g ∷ []) (Region a) store) g a (FieldFits ws o.0.label)
          (FieldFits ws (merged_label g a o.0.label)) (fields_in classes f.class o.0) o.0.fields forth
          (λ k l h. field-fits g a ws closed o.0.label k l h) f.fields in
          let P : Label → Type 0 = λ q. FieldsMeet classes (relabelled (g ∷ []) (Region a) store) (FieldFits ws q) (fields_in classes f.class n)
          n.fields in
          let Q : List FieldOfClass → Type 0 = λ q. FieldsMeet classes (relabelled (g ∷ []) (Region a) store)
          (FieldFits ws (merged_label g a o.0.label)) q n.fields in
          let R : List Val → Type 0 = λ q. FieldsMeet classes (relabelled (g ∷ []) (Region a) store) (FieldFits ws (merged_label g a o.0.label))
          (fields_in classes f.class o.0) q in
          let A : List Val → Type 0 = λ q. ArrayFits f.class f.class.element (length q) in
          let T : Label → Type 0 = λ q. IsTemp q ↔ IsTrue f.class.is_tmp in
          record {
            class = f.class;
            class_is = ap (slice_get classes) class ∙ f.class_is;
            label_is = subst T (sym label) (temp-back o.0.label f.class.is_tmp f.label_is);
            fields = subst P (sym label)
                (subst Q (sym (declared-same classes f.class o.0 n class (ap (λ q. length q) fields_are))) (subst R (sym fields_are) m));
            array = subst A (sym fields_are) f.array;
          }
