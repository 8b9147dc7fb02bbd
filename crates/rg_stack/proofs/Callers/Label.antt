-- The regions beneath one, found by labels and by owner references, are the same where objects fit.
use Rattle.std.proofs.Common.{◌≡◌, ℕ, zero, suc, true, false, true≢false, ◌⊎◌, inl, inr, Bool as Truth, if◌then◌else◌, List, [], ◌∷◌, ◌++◌, Option}
use Rattle.std.proofs.Common.{Some, None, option_and_then, refl, sym, ap, subst, ◌∙◌, slice_get}
use Rattle.std.proofs.lemmas.Option.{same_Some}
use Rattle.std.specs.Prelude.{filter_map, flat_map}
use Rattle.rg_base.specs.declared.words.Cap.TheVariants.{Mut, Tmp, Paused, Imm, Iso}
use Rattle.rg_base.specs.declared.ty.Ty.{Ty}
use Rattle.rg_base.specs.declared.ty.Ty.TheVariants.{Int, Bool, Ref}
use Rattle.rg_base.specs.declared.value.Val.{Val}
use Rattle.rg_base.specs.declared.value.Val.TheVariants as val
use Rattle.rg_base.specs.declared.object.Seen.{Seen}
use Rattle.rg_base.specs.declared.object.Label.{Label}
use Rattle.rg_base.specs.declared.object.Label.TheVariants.{Region, Temp, Frozen}
use Rattle.rg_tree.specs.Tree.{Field, Class}
use Rattle.rg_rules.specs.Capabilities.{is_iso}
use Rattle.rg_rules.specs.Types.{type_of, fields_of}
use Rattle.rg_rules.specs.State.{Window}
use Rattle.rg_rules.specs.Regions.{region_of, region_at, address, owned, owned_as, among, in_regions, led_from, joined_with, beneath}
use Rattle.rg_rules.specs.Regions.{relabelled_object, relabelled}
use Rattle.rg_rules.specs.Owners.{owned_by_slot, owned_by_field}
use Rattle.rg_sound.specs.Values.{MeetsBy}
use Rattle.rg_sound.specs.Objects.{FieldFits, ObjectsFit, ObjectFits, fields_in as declared_in}
use Rattle.rg_sound.proofs.Held.{slot-meets}
use Rattle.rg_sound.proofs.Stores.Member.{In, among-in, in-among, not-among, among-not, in-left, in-right, in-split, filter-in, filter-back}
use Rattle.rg_sound.proofs.Stores.Member.{joined-old, joined-new, joined-back}
use Rattle.rg_sound.proofs.Stores.Beneath.{Led, led-in, led-back}
use Rattle.rg_stack.specs.Effects.{led_by_labels, beneath_by_labels}
use Rattle.rg_stack.proofs.Basics.{none-some}
use Rattle.rg_sound.proofs.Values.Declared.{owned-declared}

-- two lists have the same numbers
pub record Same (ns ms : List ℕ) : Type 0 where
  pub to : (n : ℕ) → In n ns → In n ms
  pub back : (n : ℕ) → In n ms → In n ns

among_same : (ns ms : List ℕ) (n : ℕ) → Same ns ms → among ns n ≡ among ms n
among_same ns ms n s = by (among ns n) refl
  where
    by : (b : Truth) → among ns n ≡ b → among ns n ≡ among ms n
    by true e = e ∙ sym (in-among ms n (s.to n (among-in ns n e)))
    by false e = e ∙ sym (not-among ms n (λ i. among-not ns n e (s.back n i)))

pub relabelled-same : (ns ms : List ℕ) (label : Label) (store : List Seen) → Same ns ms → relabelled ns label store ≡ relabelled ms label store
relabelled-same ns ms label [] s = refl
relabelled-same ns ms label (o ∷ os) s =
    ap (λ b. (if b then record o { label = label } else o) ∷ relabelled ns label os) (in_same o.label)
    ∙ ap (λ l. relabelled_object ms label o ∷ l) (relabelled-same ns ms label os s)
  where
    in_same : (l : Label) → in_regions ns l ≡ in_regions ms l
    in_same (Region r) = among_same ns ms r s
    in_same (Temp n) = refl
    in_same Frozen = refl

-- a field of an object of a region that leads to an object of another
pub record LeadsTo (store : List Seen) (os : List Seen) (r n : ℕ) : Type 0 where
  pub object : ℕ
  pub holder : Seen
  pub there : slice_get os object ≡ Some holder
  pub lies : holder.label ≡ Region r
  pub field : ℕ
  pub address : ℕ
  pub value : slice_get holder.fields field ≡ Some (val.Obj address)
  pub leads : region_at store address ≡ Some n

-- the region of a label that is among one
of_one : (r : ℕ) (l : Label) → in_regions (r ∷ []) l ≡ true → l ≡ Region r
of_one r (Region q) e = elim (among-in (r ∷ []) q e) [ inl same ↦ ap Region (sym same) | inr none ↦ absurd none ]
of_one r (Temp n) e = absurd (true≢false (sym e))
of_one r Frozen e = absurd (true≢false (sym e))

one_of : (r : ℕ) (l : Label) → l ≡ Region r → in_regions (r ∷ []) l ≡ true
one_of r l e = ap (in_regions (r ∷ [])) e ∙ in-among (r ∷ []) r (inl refl)

-- numbers that references in fields lead to
pub record FieldLeads (store : List Seen) (vs : List Val) (n : ℕ) : Type 0 where
  pub field : ℕ
  pub address : ℕ
  pub value : slice_get vs field ≡ Some (val.Obj address)
  pub leads : region_at store address ≡ Some n

-- the addresses of values
address_back : (vs : List Val) (a : ℕ) → In a (filter_map address vs) → (k : ℕ) × (slice_get vs k ≡ Some (val.Obj a))
address_back [] a i = absurd i
address_back (val.Nil ∷ vs) a i = let h = address_back vs a i in (suc h.0, h.1)
address_back (val.Int z ∷ vs) a i = let h = address_back vs a i in (suc h.0, h.1)
address_back (val.Bool b ∷ vs) a i = let h = address_back vs a i in (suc h.0, h.1)
address_back (val.Obj b ∷ vs) a (inl same) = (0, ap (λ n. Some (val.Obj n)) same)
address_back (val.Obj b ∷ vs) a (inr i) = let h = address_back vs a i in (suc h.0, h.1)

address_in : (vs : List Val) (k a : ℕ) → slice_get vs k ≡ Some (val.Obj a) → In a (filter_map address vs)
address_in [] k a is = none-some (val.Obj a) is
address_in (v ∷ vs) zero a is = subst (λ v. In a (filter_map address (v ∷ vs))) (sym (same_Some v (val.Obj a) is)) (inl refl)
address_in (val.Nil ∷ vs) (suc k) a is = address_in vs k a is
address_in (val.Int z ∷ vs) (suc k) a is = address_in vs k a is
address_in (val.Bool b ∷ vs) (suc k) a is = address_in vs k a is
address_in (val.Obj b ∷ vs) (suc k) a is = inr (address_in vs k a is)

fields_back : (store : List Seen) (vs : List Val) (n : ℕ) → In n (filter_map (region_at store) (filter_map address vs)) → FieldLeads store vs n
fields_back store vs n i =
    let a = filter-back (region_at store) (filter_map address vs) n i in
    let k = address_back vs a.0 a.1 in record { field = k.0; address = a.0; value = k.1; leads = a.2 }

pub fields_in : (store : List Seen) (vs : List Val) (n k a : ℕ) → slice_get vs k ≡ Some (val.Obj a) → region_at store a ≡ Some n
    → In n (filter_map (region_at store) (filter_map address vs))
fields_in store vs n k a is leads = filter-in (region_at store) (filter_map address vs) a n (address_in vs k a is) leads

-- numbers that a region's objects lead to
pub labels_back : (store os : List Seen) (r n : ℕ) → In n (led_by_labels store os r) → LeadsTo store os r n
labels_back store [] r n i = absurd i
labels_back store (o ∷ os) r n i = by (in_regions (r ∷ []) o.label) refl i (λ i. labels_back store os r n i)
  where
    later : LeadsTo store os r n → LeadsTo store (o ∷ os) r n
    later h = record {
      object = suc h.object;
      holder = h.holder;
      there = h.there;
      lies = h.lies;
      field = h.field;
      address = h.address;
      value =
          h.value;
      leads = h.leads;
    }

    first : in_regions (r ∷ []) o.label ≡ true → FieldLeads store o.fields n → LeadsTo store (o ∷ os) r n
    first e h = record {
      object = 0;
      holder = o;
      there = refl;
      lies = of_one r o.label e;
      field = h.field;
      address = h.address;
      value = h.value;
      leads = h.leads;
    }

    by : (b : Truth) → in_regions (r ∷ []) o.label ≡ b
        → In n (if b then filter_map (region_at store) (filter_map address o.fields) ++ led_by_labels store os r else led_by_labels store os r)
        → (In n (led_by_labels store os r) → LeadsTo store os r n) → LeadsTo store (o ∷ os) r n
    by false e i rest = later (rest i)
    by true e i rest = elim (in-split (filter_map (region_at store) (filter_map address o.fields)) (led_by_labels store os r) n i) [
      | inl here ↦ first e (fields_back store o.fields n here)
      | inr there ↦ later (rest there)
    ]

pub labels_in : (store os : List Seen) (r n k : ℕ) (o : Seen) → slice_get os k ≡ Some o → o.label ≡ Region r
    → In n (filter_map (region_at store) (filter_map address o.fields)) → In n (led_by_labels store os r)
labels_in store [] r n k o there lies i = none-some o there
labels_in store (p ∷ os) r n zero o there lies i =
    let same : p ≡ o = same_Some p o there in
    subst (λ b. In n (if b then filter_map (region_at store) (filter_map address p.fields) ++ led_by_labels store os r
    else led_by_labels store os r)) (sym (one_of r p.label (ap (λ (q : Seen). q.label) same ∙ lies)))
    (in-left (filter_map (region_at store) (filter_map address p.fields)) (led_by_labels store os r) n
    (subst (λ (q : Seen). In n (filter_map (region_at store) (filter_map address q.fields))) (sym same) i))
labels_in store (p ∷ os) r n (suc k) o there lies i = by (in_regions (r ∷ []) p.label) (labels_in store os r n k o there lies i)
  where
    by : (b : Truth) → In n (led_by_labels store os r)
        → In n (if b then filter_map (region_at store) (filter_map address p.fields) ++ led_by_labels store os r else led_by_labels store os r)
    by false i = i
    by true i = in-right (filter_map (region_at store) (filter_map address p.fields)) (led_by_labels store os r) n i

pub flat_back : (f : ℕ → List ℕ) (rs : List ℕ) (n : ℕ) → In n (flat_map f rs) → (r : ℕ) × In r rs × In n (f r)
flat_back f [] n i = absurd i
flat_back f (r ∷ rs) n i = elim (in-split (f r) (flat_map f rs) n i) [
  | inl here ↦ (r, inl refl, here)
  | inr there ↦ (let h = flat_back f rs n there in (h.0, inr h.1, h.2))
]

pub flat_in : (f : ℕ → List ℕ) (rs : List ℕ) (r n : ℕ) → In r rs → In n (f r) → In n (flat_map f rs)
flat_in f [] r n a b = absurd a
flat_in f (q ∷ rs) r n (inl same) b = in-left (f q) (flat_map f rs) n (subst (λ r. In n (f r)) (sym same) b)
flat_in f (q ∷ rs) r n (inr a) b = in-right (f q) (flat_map f rs) n (flat_in f rs r n a b)

module _ (classes : List Class) (store : List Seen) (windows : List Window) (objects : ObjectsFit classes store windows) where
  -- a reference in a field of a region's object stays in the region, or owns another
  owned_value : (t : Ty) (a : ℕ) → is_iso t ≡ true → owned t (val.Obj a) ≡ Some a
  owned_value t a e = ap (λ b. if b then Some a else None) e

  by_type : (r n a : ℕ) (t : Ty) → MeetsBy store (FieldFits windows (Region r)) t (val.Obj a) → region_at store a ≡ Some n → (r ≡ n)
      ⊎ (is_iso t ≡ true)
  by_type r n a Int m leads = absurd m
  by_type r n a Bool m leads = absurd m
  by_type r n a (Ref Mut c) m leads = inl (same_Some r n
      (sym (ap (option_and_then (λ (o : Seen). region_of o.label)) m.there ∙ ap region_of m.label_fits) ∙ leads))
  by_type r n a (Ref Tmp c) m leads = absurd m.label_fits
  by_type r n a (Ref Paused c) m leads = absurd m.label_fits
  by_type r n a (Ref Imm c) m leads = none-some n (sym (ap (option_and_then (λ (o : Seen). region_of o.label)) m.there ∙ ap region_of m.label_fits)
      ∙ leads)
  by_type r n a (Ref Iso c) m leads = inr refl

  to_owner : (qs : List ℕ) (r n : ℕ) → In r qs → LeadsTo store store r n → In n qs ⊎ In n (led_from classes store (in_regions qs) store)
  to_owner qs r n i h =
      let fit = objects h.object h.holder h.there in
      let slot = slot-meets classes store (FieldFits windows h.holder.label) (declared_in classes fit.class h.holder) h.holder.fields h.field
      (val.Obj h.address) fit.fields h.value in
      let meets = subst (λ l. MeetsBy store (FieldFits windows l) (type_of classes slot.field.ty) (val.Obj h.address)) h.lies slot.meets in
      elim (by_type r n h.address (type_of classes slot.field.ty) meets h.leads) [
        | inl same ↦ inl (subst (λ n. In n qs) same i)
        | inr iso ↦ inr (led-in classes store (in_regions qs) store n (record {
          object = h.object;
          field = h.field;
          holder = h.holder;
          there = h.there;
          passes = ap (in_regions qs) h.lies ∙ in-among qs r i;
          leads = ap (option_and_then (region_at store)) (owns slot.field slot.field_is iso) ∙ h.leads;
        }))
      ]
    where
      fit : ObjectFits classes store windows h.holder
      fit = objects h.object h.holder h.there

      owns : (f : Field) → slice_get (declared_in classes fit.class h.holder) h.field ≡ Some f → is_iso (type_of classes f.ty) ≡ true
          → owned_by_field classes h.holder h.field ≡ Some h.address
      owns f is iso =
          ap (λ l. elim l [ Region r ↦ owned_by_slot classes h.holder h.field | Temp n ↦ owned_by_slot classes h.holder h.field | Frozen ↦ None ])
          h.lies
          ∙ owned-declared classes store windows h.holder fit h.field h.address
          (ap (option_and_then (λ (f : Field). option_and_then (owned_as classes f) (slice_get h.holder.fields h.field))) is
          ∙ ap (option_and_then (owned_as classes f)) h.value
          ∙ owned_value (type_of classes f.ty) h.address iso)

  owned_obj : (b : Truth) (v : Val) (a : ℕ) → (if b then address v else None) ≡ Some a → v ≡ val.Obj a
  owned_obj false v a e = none-some a e
  owned_obj true val.Nil a e = none-some a e
  owned_obj true (val.Int z) a e = none-some a e
  owned_obj true (val.Bool b) a e = none-some a e
  owned_obj true (val.Obj b) a e = ap val.Obj (same_Some b a e)

  owner_value : (f : Field) (v : Option Val) (a : ℕ) → option_and_then (owned_as classes f) v ≡ Some a → v ≡ Some (val.Obj a)
  owner_value f None a e = none-some a e
  owner_value f (Some v) a e = ap Some (owned_obj (is_iso (type_of classes f.ty)) v a e)

  slot_value : (o : Seen) (k a : ℕ) (f : Option Field)
      → option_and_then (λ (f : Field). option_and_then (owned_as classes f) (slice_get o.fields k)) f ≡ Some a → slice_get o.fields k
      ≡ Some (val.Obj a)
  slot_value o k a None e = none-some a e
  slot_value o k a (Some f) e = owner_value f (slice_get o.fields k) a e

  field_value_is : (o : Seen) (k a : ℕ) (l : Label) → elim l
      [ Region r ↦ owned_by_slot classes o k | Temp n ↦ owned_by_slot classes o k | Frozen ↦ None ] ≡ Some a → slice_get o.fields k ≡ Some (val.Obj a)
  field_value_is o k a (Region r) e = slot_value o k a (slice_get (fields_of classes o.class) k) e
  field_value_is o k a (Temp n) e = slot_value o k a (slice_get (fields_of classes o.class) k) e
  field_value_is o k a Frozen e = none-some a e

  from_owner : (rs qs : List ℕ) (n : ℕ) → Same rs qs → Led classes store (in_regions qs) store n → In n (flat_map (led_by_labels store store) rs)
  from_owner rs qs n same h = by_label h.holder.label refl h.passes
    where
      by_address : (r : ℕ) → h.holder.label ≡ Region r → (a : Option ℕ) → owned_by_field classes h.holder h.field ≡ a
          → option_and_then (region_at store) a ≡ Some n → In n (led_by_labels store store r)
      by_address r lies None owns e = none-some n e
      by_address r lies (Some a) owns e =
          labels_in store store r n h.object h.holder h.there lies
          (fields_in store h.holder.fields n h.field a (field_value_is h.holder h.field a h.holder.label owns) e)

      by_label : (l : Label) → h.holder.label ≡ l → in_regions qs l ≡ true → In n (flat_map (led_by_labels store store) rs)
      by_label (Region r) lies e =
          flat_in (led_by_labels store store) rs r n (same.back r (among-in qs r e))
          (by_address r lies (owned_by_field classes h.holder h.field) refl h.leads)
      by_label (Temp m) lies e = absurd (true≢false (sym e))
      by_label Frozen lies e = absurd (true≢false (sym e))

  one_more : (rs qs : List ℕ) → Same rs qs → Same (joined_with rs (flat_map (led_by_labels store store) rs))
      (joined_with qs (led_from classes store (in_regions qs) store))
  one_more rs qs same = record {
    to = λ n i. elim (joined-back rs (flat_map (led_by_labels store store) rs) n i) [
      | inl old ↦ joined-old qs (led_from classes store (in_regions qs) store) n (same.to n old)
      | inr new ↦ (let h = flat_back (led_by_labels store store) rs n new in
          elim (to_owner qs h.0 n (same.to h.0 h.1) (labels_back store store h.0 n h.2)) [
            | inl old ↦ joined-old qs (led_from classes store (in_regions qs) store) n old
            | inr led ↦ joined-new qs (led_from classes store (in_regions qs) store) n led
          ])
    ];
    back = λ n i. elim (joined-back qs (led_from classes store (in_regions qs) store) n i) [
      | inl old ↦ joined-old rs (flat_map (led_by_labels store store) rs) n (same.back n old)
      | inr new ↦ joined-new rs (flat_map (led_by_labels store store) rs) n
          (from_owner rs qs n same (led-back classes store (in_regions qs) store n new))
    ];
  }

  beneath_same : (k : ℕ) (rs qs : List ℕ) → Same rs qs → Same (beneath_by_labels store k rs) (beneath classes store k qs)
  beneath_same zero rs qs same = same
  beneath_same (suc k) rs qs same = beneath_same k (joined_with rs (flat_map (led_by_labels store store) rs))
      (joined_with qs (led_from classes store (in_regions qs) store)) (one_more rs qs same)

  -- so the same objects get a label
  pub by-labels : (k r : ℕ) (label : Label) → relabelled (beneath_by_labels store k (r ∷ [])) label store
      ≡ relabelled (beneath classes store k (r ∷ [])) label store
  by-labels k r label =
      relabelled-same (beneath_by_labels store k (r ∷ [])) (beneath classes store k (r ∷ [])) label store
      (beneath_same k (r ∷ []) (r ∷ []) (record { to = λ n i. i; back = λ n i. i }))
