-- Regions above open ones are open; a region that hangs beneath an open one may get another owner there.
use Rattle.std.proofs.Common.{◌≡◌, ◌≢◌, refl, sym, ◌∙◌, ap, subst, ◌⊎◌, inl, inr, ℕ, List, [], ◌∷◌, length, Option}
use Rattle.std.proofs.Common.{Some, None, option_and_then, slice_get, slice_set, arith}
use Rattle.std.proofs.lemmas.Option.{same_Some}
use Rattle.std.proofs.lemmas.Bool.{cases_eq}
use Rattle.rg_base.specs.declared.object.Label.{Label}
use Rattle.rg_base.specs.declared.object.Label.TheVariants.{Region, Temp, Frozen}
use Rattle.rg_base.specs.declared.object.Place.{Place}
use Rattle.rg_base.specs.declared.object.Place.TheVariants.{Var, Field}
use Rattle.rg_base.specs.declared.object.Seen.{Seen}
use Rattle.rg_tree.specs.Tree.{Class}
use Rattle.rg_rules.specs.State.{Frame, Window}
use Rattle.rg_rules.specs.Regions.{region_of, region_at}
use Rattle.rg_rules.specs.Owners.{owned_by_slot, owned_by_field, owned_in_field, owned_in_frame, leads_into, Parent, Above, direct, further}
use Rattle.rg_sound.specs.Objects.{FieldFits, FieldsMeet, fields_in}
use Rattle.rg_sound.specs.OpenRegions.{IsNear, AllOwned}
use Rattle.rg_sound.proofs.Basics.{none-some}
use Rattle.rg_sound.proofs.Owners.Owner.{get-set, get-set-other, OwnersCome, AllOwners, AllOwners-map, forest-come, open-come}
use Rattle.rg_sound.proofs.Owners.Data.{Data}
use Rattle.rg_sound.proofs.Owners.Receiver.{IsTop}
use Rattle.rg_sound.proofs.Stores.Replace.{values-kept, owned-label, replaced-keeps, replaced-region, replaced-leads}
use Rattle.rg_sound.proofs.Stores.Replace.{replaced-near, replaced-labels, replaced-objects}

-- a region is open
abbrev pub IsOpenIn : List Window → ℕ → Type 0
IsOpenIn [] r = ⊥
IsOpenIn (w ∷ ws) r = (w.region ≡ r) ⊎ IsOpenIn ws r

label-parent : (o : Seen) (v : Window) (p : ℕ) → (o.label ≡ Region v.region) ⊎ (o.label ≡ Temp v.number) → region_of o.label ≡ Some p → v.region ≡ p
label-parent o v p (inl a) e = let q : ◌≡◌ {A = Option ℕ} (Some v.region) (Some p) = ap region_of (sym a) ∙ e in grind arith
label-parent o v p (inr a) e = none-some (ap region_of (sym a) ∙ e)

-- the parent of an open region is open
parent-open : (classes : List Class) (store : List Seen) (frames : List Frame) (ws : List Window) → AllOwned classes store frames ws →
    ((q : Place) → ¬ (leads_into classes store frames q ≡ Some 0)) →
    (p r : ℕ) → Parent classes store p r → IsOpenIn ws r → IsOpenIn ws p
parent-open classes store frames [] h z p r a o = absurd h
parent-open classes store frames (w ∷ []) h z p r a (inl e) =
    absurd (z (Field a.object a.field) (a.leads ∙ ap Some (sym e) ∙ ap Some h.0))
parent-open classes store frames (w ∷ []) h z p r a (inr o) = absurd o
parent-open classes store frames (w ∷ v ∷ ws) h z p r a (inl e) =
    let at : Field a.object a.field ≡ h.0.place = (h.0.exact (Field a.object a.field)).0 (a.leads ∙ ap Some (sym e)) in
    let P : Place → Type 0 = λ q. IsNear store w v q in
    let near : IsNear store w v (Field a.object a.field) = subst P (sym at) h.0.near in
    let lies : region_of near.0.label ≡ Some p = ap (option_and_then (λ (o : Seen). region_of o.label)) (sym near.1) ∙ a.lies in
    inr (inl (label-parent near.0 v p near.2 lies))
parent-open classes store frames (w ∷ v ∷ ws) h z p r a (inr o) = inr (parent-open classes store frames (v ∷ ws) h.1 z p r a o)

-- and so is each region above it
pub above-open : (classes : List Class) (store : List Seen) (frames : List Frame) (ws : List Window) → AllOwned classes store frames ws →
    ((q : Place) → ¬ (leads_into classes store frames q ≡ Some 0)) →
    (p r : ℕ) → Above classes store p r → IsOpenIn ws r → IsOpenIn ws p
above-open classes store frames ws h z p r (direct a) o = parent-open classes store frames ws h z p r a o
above-open classes store frames ws h z p r (further {q = q} b a) o =
    above-open classes store frames ws h z p q b (parent-open classes store frames ws h z q r a o)

-- an open region but the first one has an owner
pub open-owned : (classes : List Class) (store : List Seen) (frames : List Frame) (ws : List Window) → AllOwned classes store frames ws → (r : ℕ) →
    IsOpenIn ws r →
    (r ≡ 0) ⊎ ((p : Place) × (leads_into classes store frames p ≡ Some r))
open-owned classes store frames [] h r o = absurd h
open-owned classes store frames (w ∷ []) h r (inl e) = inl (sym e ∙ h.0)
open-owned classes store frames (w ∷ []) h r (inr o) = absurd o
open-owned classes store frames (w ∷ v ∷ ws) h r (inl e) = inr (h.0.place, (h.0.exact h.0.place).1 refl ∙ ap Some e)
open-owned classes store frames (w ∷ v ∷ ws) h r (inr o) = open-owned classes store frames (v ∷ ws) h.1 r o

pub above-trans : (classes : List Class) (store : List Seen) (p q r : ℕ) → Above classes store p q → Above classes store q r → Above classes store p r
above-trans classes store p q r a (direct h) = further a h
above-trans classes store p q r a (further {q = m} b h) = further (above-trans classes store p q m a b) h

-- above, or the same
abbrev AboveOr : List Class → List Seen → ℕ → ℕ → Type 0
AboveOr classes store p r = (p ≡ r) ⊎ Above classes store p r

abover-trans : (classes : List Class) (store : List Seen) (p q r : ℕ) → AboveOr classes store p q → AboveOr classes store q r →
    AboveOr classes store p r
abover-trans classes store p q r (inl e) b = let P : ℕ → Type 0 = λ z. AboveOr classes store z r in subst P (sym e) b
abover-trans classes store p q r (inr a) (inl e) = let P : ℕ → Type 0 = λ z. AboveOr classes store p z in subst P e (inr a)
abover-trans classes store p q r (inr a) (inr b) = inr (above-trans classes store p q r a b)

abover-parent : (classes : List Class) (store : List Seen) (p q r : ℕ) → AboveOr classes store p q → Parent classes store q r →
    Above classes store p r
abover-parent classes store p q r (inl e) h = let P : ℕ → Type 0 = λ z. Above classes store z r in subst P (sym e) (direct h)
abover-parent classes store p q r (inr a) h = further a h

-- one edge that comes, from the region of an object to that of a value
record Edge (store : List Seen) (a : ℕ) (leads : Option ℕ) (p r : ℕ) : Type 0 where
  pub from : region_at store a ≡ Some p
  pub to : leads ≡ Some r

-- a chain in the new store is one of the old store, or goes through the edge
record Through (classes : List Class) (store : List Seen) (a : ℕ) (leads : Option ℕ) (p r : ℕ) : Type 0 where
  pub source : ℕ
  pub target : ℕ
  pub edge : Edge store a leads source target
  pub front : AboveOr classes store p source
  pub rest : AboveOr classes store target r

split : (classes : List Class) (old new : List Seen) (a : ℕ) (leads : Option ℕ) →
    ((p r : ℕ) → Parent classes new p r → Parent classes old p r ⊎ Edge old a leads p r) → (p r : ℕ) → Above classes new p r →
    Above classes old p r ⊎ Through classes old a leads p r
split classes old new a leads each p r (direct h) = elim (each p r h) [
  | inl was ↦ inl (direct was)
  | inr edge ↦ inr (record { source = p; target = r; edge = edge; front = inl refl; rest = inl refl })
]
split classes old new a leads each p r (further {q = q} b h) = elim (split classes old new a leads each p q b) [
  | inl chain ↦ elim (each q r h) [
    | inl was ↦ inl (further chain was)
    | inr edge ↦ inr (record { source = q; target = r; edge = edge; front = inr chain; rest = inl refl })
  ]
  | inr t ↦ elim (each q r h) [
    | inl was ↦ inr (record {
      source = t.source;
      target = t.target;
      edge = t.edge;
      front = t.front;
      rest =
          inr (abover-parent classes old t.target q r t.rest was);
    })
    | inr edge ↦
        let same : t.source ≡ q = same_Some t.source q (sym t.edge.from ∙ edge.from) in
        let P : ℕ → Type 0 = λ z. AboveOr classes old p z in
        inr (record { source = q; target = r; edge = edge; front = subst P same t.front; rest = inl refl })
  ]
]

-- the owner reference that came
abbrev pub Came : List Seen → (object field : ℕ) → Option ℕ → Place → ℕ → Type 0
Came store a j owner q r = (q ≡ Field a j) × (option_and_then (region_at store) owner ≡ Some r)

-- the store with another object of the topmost window at an address, one field of which owns a region that nothing owned
pub store-put : (classes : List Class) (store : List Seen) (frames : List Frame) (ws : List Window) (regions made : ℕ) (a : ℕ) (o n : Seen) (j : ℕ)
    (owner : Option ℕ) (d : Data classes store frames ws regions made) (there : slice_get store a ≡ Some o) → n.class ≡ o.class → n.label ≡ o.label →
    IsTop ws o.label →
    ((i : ℕ) → i ≢ j → owned_by_slot classes n i ≡ owned_by_slot classes o i) → owned_by_slot classes n j ≡ owner →
    ((r : ℕ) → option_and_then (region_at store) owner ≡ Some r → (r ≢ 0) × ((q : Place) → ¬ (leads_into classes store frames q ≡ Some r))) →
    AllOwners ws (λ p. p ≢ Field a j) → length n.fields ≡ length o.fields →
    FieldsMeet classes store (FieldFits ws o.label) (fields_in classes (d.objects a o there).class o) n.fields →
    Data classes (slice_set store a n) frames ws regions made
store-put classes store frames ws regions made a o n j owner d there class label top owns new_owner fresh not_owner long meets = record {
  values = values-kept store (slice_set store a n) ws frames (replaced-keeps store a o n there class label) d.values;
  objects = replaced-objects store a o n there class label classes ws d.objects long meets;
  opened = open-come classes store (slice_set store a n) frames frames (Came store a j owner) come ws d.opened
      (AllOwners-map ws (λ p. p ≢ Field a j) _ kept not_owner)
      (replaced-near store a o n there class label);
  forest = forest-come classes store (slice_set store a n) frames frames (Came store a j owner) d.forest come no_cycle;
  numbers = record {
    labels = replaced-labels store a o n there class label regions made d.numbers.labels;
    given = d.numbers.given;
    rising = d.numbers.rising;
  };
}
  where
    fields-here : (i : ℕ) (was : Option ℕ) → owned_by_slot classes n i ≡ was →
        owned_in_field classes (slice_set store a n) a i ≡ (elim (o.label) [ Region r ↦ was | Temp t ↦ was | Frozen ↦ None ])
    fields-here i was e = ap (option_and_then (λ (q : Seen). owned_by_field classes q i)) (get-set store a n o there)
        ∙ owned-label n.label o.label (owned_by_slot classes n i) was label e

    fields-both : (b i : ℕ) → ((b ≡ a) → (i ≡ j) → ⊥) → owned_in_field classes (slice_set store a n) b i ≡ owned_in_field classes store b i
    fields-both b i other = elim (cases_eq b a) [
      | inl at ↦ ap (λ q. owned_in_field classes (slice_set store a n) q i) at ∙ fields-here i (owned_by_slot classes o i) (owns i (λ e. other at e))
          ∙ ap (option_and_then (λ (q : Seen). owned_by_field classes q i)) (sym there) ∙ ap (λ q. owned_in_field classes store q i) (sym at)
      | inr away ↦ ap (option_and_then (λ (q : Seen). owned_by_field classes q i)) (get-set-other store a b n away)
    ]

    kept : (p : Place) → p ≢ Field a j → leads_into classes (slice_set store a n) frames p ≡ leads_into classes store frames p
    kept (Var m i) h = replaced-leads store a o n there class label (owned_in_frame frames m i)
    kept (Field b i) h = ap (option_and_then (region_at (slice_set store a n)))
        (fields-both b i (λ x y. h (ap (λ z. Field z i) x ∙ ap (Field a) y)))
        ∙ replaced-leads store a o n there class label (owned_in_field classes store b i)

    by_top : (ws : List Window) (l : Label) → IsTop ws l → ◌≡◌ {A = Option ℕ} (elim l [ Region r ↦ owner | Temp t ↦ owner | Frozen ↦ None ]) owner
    by_top [] l h = absurd h
    by_top (w ∷ ws) l (inl e) = let P : Label → Type 0 = λ q. ◌≡◌ {A = Option ℕ} (elim q [ Region r ↦ owner | Temp t ↦ owner | Frozen ↦ None ])
        owner in subst P (sym e) refl
    by_top (w ∷ ws) l (inr e) = let P : Label → Type 0 = λ q. ◌≡◌ {A = Option ℕ} (elim q [ Region r ↦ owner | Temp t ↦ owner | Frozen ↦ None ])
        owner in subst P (sym e) refl

    put : leads_into classes (slice_set store a n) frames (Field a j) ≡ option_and_then (region_at store) owner
    put = ap (option_and_then (region_at (slice_set store a n))) (fields-here j owner new_owner ∙ by_top ws o.label top)
        ∙ replaced-leads store a o n there class label owner

    either : (p : Place) → (p ≡ Field a j) ⊎ (p ≢ Field a j)
    either (Var m i) = inr (λ e. grind arith)
    either (Field b i) = elim (cases_eq b a) [
      | inl at ↦ elim (cases_eq i j) [
        | inl same ↦ inl (ap (λ z. Field z i) at ∙ ap (Field a) same)
        | inr other ↦
            inr (λ e. let q : i ≡ j = grind arith in other q)
      ]
      | inr away ↦ inr (λ e. let q : b ≡ a = grind arith in away q)
    ]

    come : OwnersCome classes store (slice_set store a n) frames frames (Came store a j owner)
    come = record {
      from = λ q r h. elim (either q) [
        | inl at ↦ let P : Place → Type 0 = λ z. leads_into classes (slice_set store a n) frames z ≡ Some r in inr (at, sym put ∙ subst P at h)
        | inr other ↦ inl (sym (kept q other) ∙ h)
      ];
      one = λ p q r x y. x.0 ∙ sym y.0;
      unowned = λ p q r x h. (fresh r x.1).1 q h;
      above = λ p r x. (fresh r x.1).0;
    }

    each : (p r : ℕ) → Parent classes (slice_set store a n) p r →
        Parent classes store p r ⊎ Edge store a (option_and_then (region_at store) owner) p r
    each p r h = elim (either (Field h.object h.field)) [
      | inl at ↦
          let one : h.object ≡ a = grind arith in
          let P : Place → Type 0 = λ z. leads_into classes (slice_set store a n) frames z ≡ Some r in
          inr (record {
            from = sym (replaced-region store a o n there class label a) ∙ ap (region_at (slice_set store a n)) (sym one) ∙ h.lies;
            to = sym put ∙ subst P at h.leads;
          })
      | inr other ↦ inl (record {
        object = h.object;
        field = h.field;
        lies = sym (replaced-region store a o n there class label h.object) ∙ h.lies;
        leads =
            sym (kept (Field h.object h.field) other) ∙ h.leads;
      })
    ]

    top-open : (ws : List Window) (r : ℕ) → IsTop ws o.label → region_at store a ≡ Some r → IsOpenIn ws r
    top-open [] r h e = absurd h
    top-open (w ∷ ws) r h e = inl (label-parent o w r h (ap (option_and_then (λ (q : Seen). region_of q.label)) (sym there) ∙ e))

    no_cycle : (r : ℕ) → ¬ Above classes (slice_set store a n) r r
    no_cycle r h = elim (split classes store (slice_set store a n) a (option_and_then (region_at store) owner) each r r h) [
      | inl chain ↦ d.forest.no_cycle r chain
      | inr t ↦
          let source_open = top-open ws t.source top t.edge.from in
          let opens : IsOpenIn ws t.target = elim (abover-trans classes store t.target r t.source t.rest t.front) [
            | inl same ↦ (let P : ℕ → Type 0 = λ z. IsOpenIn ws z in subst P (sym same) source_open)
            | inr above ↦ above-open classes store frames ws d.opened.owned d.forest.none_into_first t.target t.source above source_open
          ] in
          let f = fresh t.target t.edge.to in
          elim (open-owned classes store frames ws d.opened.owned t.target opens) [
            | inl zeroth ↦ f.0 zeroth
            | inr owned ↦ f.1 owned.0 owned.1
          ]
    ]
