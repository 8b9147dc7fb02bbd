-- What references in objects that fit lead to, and that what an object of a region reaches is sound as a content.
use Rattle.std.proofs.Common.{◌≡◌, refl, sym, ◌∙◌, ap, subst, ◌⊎◌, inl, inr, ℕ, zero, suc, ◌≤◌, true, false, List, [], ◌∷◌, length, replicate}
use Rattle.std.proofs.Common.{Option, Some, None, option_and_then, slice_get}
use Rattle.std.specs.Prelude.{nat_eq, eqb, slice_index_or}
use Rattle.std.specs.List.{list_any, IsDistinct}
use Rattle.std.proofs.lemmas.Option.{same_Some, slice_get_within, get_or_from_slice_get}
use Rattle.std.proofs.lemmas.Map.Steps.{length-le_from_distinct_below}
use Rattle.rg_base.specs.declared.words.Cap.{Cap}
use Rattle.rg_base.specs.declared.words.Cap.TheVariants.{Mut, Tmp, Paused, Imm, Iso}
use Rattle.rg_base.specs.declared.words.Manager.{Manager}
use Rattle.rg_base.specs.declared.words.Manager.TheVariants.{Arena}
use Rattle.rg_base.specs.declared.ty.Ty.{Ty}
use Rattle.rg_base.specs.declared.ty.Ty.TheVariants.{Int, Bool, Ref}
use Rattle.rg_base.specs.declared.object.Label.{Label}
use Rattle.rg_base.specs.declared.object.Label.TheVariants.{Region, Temp, Frozen}
use Rattle.rg_base.specs.declared.object.Place.TheVariants.{Field}
use Rattle.rg_base.specs.declared.object.Seen.{Seen}
use Rattle.rg_base.specs.declared.value.Val.{Val}
use Rattle.rg_base.specs.declared.value.Val.TheVariants.{Obj}
use Rattle.rg_base.proofs.Callers.Labels.{region-number}
use Rattle.rg_tree.specs.Tree.{Ty as Written, int, bool, ref, Field as FieldOfClass, Class}
use Rattle.rg_rules.specs.Headers.{is_iso_written}
use Rattle.rg_rules.specs.Types.{type_of, fields_of}
use Rattle.rg_rules.specs.State.{Frame, Window}
use Rattle.rg_rules.specs.Regions.{region_of, region_at, owned, owned_as}
use Rattle.rg_rules.specs.Owners.{owned_by_slot, owned_by_field, leads_into, Parent, Above, direct, further, Forest}
use Rattle.rg_sound.specs.Values.{IsRegion, MeetsBy}
use Rattle.rg_sound.specs.Objects.{RegionFieldFits, FieldFits, FieldsMeet, element_field, fields_declared, fields_in, ArrayFits, ObjectFits}
use Rattle.rg_sound.specs.Objects.{ObjectsFit}
use Rattle.rg_sound.proofs.Basics.{none-some}
use Rattle.rg_cown.specs.Cargo.{SoundCargo}
use Rattle.rg_cown.specs.Contents.{no_object, cargo_of}
use Rattle.rg_cown.proofs.SoundMade.{sound_from}
use Rattle.rg_cown.proofs.SoundRead as read
use Rattle.rg_cown.proofs.SoundRead.{Closed, read_holds}

-- References of one object

-- where a reference in a field of an object with a label leads: in one of a region it stays there, or leads to a frozen object, or owns
abbrev pub LedTo : List Class → Seen → (field address : ℕ) → (own led : Label) → Type 0
LedTo classes o k b (Region p) l = (l ≡ Region p) ⊎ ((l ≡ Frozen) ⊎ (IsRegion l × (owned_by_slot classes o k ≡ Some b)))
LedTo classes o k b (Temp n) l = Unit {0}
LedTo classes o k b Frozen l = l ≡ Frozen

-- a reference leads to an object that is there
pub record Reaches (classes : List Class) (store : List Seen) (o : Seen) (k b : ℕ) : Type 0 where
  pub object : Seen
  pub there : slice_get store b ≡ Some object
  pub led : LedTo classes o k b o.label object.label

-- the field of a value, which meets its type
pub meet-at : (classes : List Class) (store : List Seen) (F : Cap → Label → Type 0) (fs : List FieldOfClass) (vs : List Val) (k : ℕ) (v : Val)
    → FieldsMeet classes store F fs vs → slice_get vs k ≡ Some v
    → (f : FieldOfClass) × (slice_get fs k ≡ Some f) × MeetsBy store F (type_of classes f.ty) v
meet-at classes store F [] [] k v h at = none-some at
meet-at classes store F [] (w ∷ vs) k v h at = absurd h
meet-at classes store F (f ∷ fs) [] k v h at = none-some at
meet-at classes store F (f ∷ fs) (w ∷ vs) zero v h at =
    let P : Val → Type 0 = λ q. MeetsBy store F (type_of classes f.ty) q in (f, refl, subst P (same_Some w v at) h.0)
meet-at classes store F (f ∷ fs) (w ∷ vs) (suc k) v h at = meet-at classes store F fs vs k v h.1 at

get-same : {A : Type 0} (n k : ℕ) (x y : A) → slice_get (replicate n x) k ≡ Some y → x ≡ y
get-same zero k x y e = none-some e
get-same (suc n) zero x y e = same_Some x y e
get-same (suc n) (suc k) x y e = get-same n k x y e

iso-written : (classes : List Class) (w : Written) (class : ℕ) → type_of classes w ≡ Ref Iso class → is_iso_written w ≡ true
iso-written classes int class e = absurd cc
iso-written classes bool class e = absurd cc
iso-written classes (ref Mut x) class e = absurd cc
iso-written classes (ref Tmp x) class e = absurd cc
iso-written classes (ref Paused x) class e = absurd cc
iso-written classes (ref Imm x) class e = absurd cc
iso-written classes (ref Iso x) class e = refl

-- an `iso` field is one of the class: elements of arrays are never `iso`
pub field-of : (classes : List Class) (c : Class) (o : Seen) (k class : ℕ) (f : FieldOfClass) (e : Option Written)
    → slice_get (fields_declared classes o.class e (length o.fields)) k ≡ Some f → ArrayFits c e (length o.fields)
    → type_of classes f.ty ≡ Ref Iso class → slice_get (fields_of classes o.class) k ≡ Some f
field-of classes c o k class f None at array is = at
field-of classes c o k class f (Some w) at array is =
    let same : element_field w ≡ f = get-same (length o.fields) k (element_field w) f at in
    let iso = iso-written classes w class (ap (λ (q : FieldOfClass). type_of classes q.ty) same ∙ is) in
    let no : false ≡ true = sym array.1 ∙ iso in absurd cc

pub owns : (classes : List Class) (o : Seen) (k b class : ℕ) (f : FieldOfClass) → slice_get (fields_of classes o.class) k ≡ Some f
    → slice_get o.fields k ≡ Some (Obj b) → type_of classes f.ty ≡ Ref Iso class → owned_by_slot classes o k ≡ Some b
owns classes o k b class f at value is =
    ap (option_and_then (λ (q : FieldOfClass). option_and_then (owned_as classes q) (slice_get o.fields k))) at
    ∙ ap (option_and_then (owned_as classes f)) value ∙ ap (λ (q : Ty). owned q (Obj b)) is

pub reaches : (classes : List Class) (store : List Seen) (ws : List Window) (o : Seen) → ObjectFits classes store ws o → (k b : ℕ)
    → slice_get o.fields k ≡ Some (Obj b) → Reaches classes store o k b
reaches classes store ws o fit k b value =
    let m = meet-at classes store (FieldFits ws o.label) (fields_in classes fit.class o) o.fields k (Obj b) fit.fields value in
    by_type m.0 m.1 (type_of classes m.0.ty) refl m.2
  where
    by_cap : (f : FieldOfClass) → slice_get (fields_in classes fit.class o) k ≡ Some f → (p class : ℕ) (cap : Cap)
        → type_of classes f.ty ≡ Ref cap class → (l : Label) → RegionFieldFits p cap l → LedTo classes o k b (Region p) l
    by_cap f at p class Mut is l h = inl h
    by_cap f at p class Tmp is l h = absurd h
    by_cap f at p class Paused is l h = absurd h
    by_cap f at p class Imm is l h = inr (inl h)
    by_cap f at p class Iso is l h =
        inr (inr (h, owns classes o k b class f (field-of classes fit.class o k class f fit.class.element at fit.array is) value is))

    by_own : (f : FieldOfClass) → slice_get (fields_in classes fit.class o) k ≡ Some f → (class : ℕ) (cap : Cap)
        → type_of classes f.ty ≡ Ref cap class → (own l : Label) → FieldFits ws own cap l → LedTo classes o k b own l
    by_own f at class cap is (Region p) l h = by_cap f at p class cap is l h
    by_own f at class cap is (Temp n) l h = tt
    by_own f at class cap is Frozen l h = h

    by_type : (f : FieldOfClass) → slice_get (fields_in classes fit.class o) k ≡ Some f → (ty : Ty) → type_of classes f.ty ≡ ty
        → MeetsBy store (FieldFits ws o.label) ty (Obj b) → Reaches classes store o k b
    by_type f at Int is h = absurd h
    by_type f at Bool is h = absurd h
    by_type f at (Ref cap class) is h =
        record { object = h.object; there = h.there; led = by_own f at class cap is o.label h.object.label h.label_fits }

-- The objects that one of a region reaches

module _ (classes : List Class) (store : List Seen) (frames : List Frame) (ws : List Window) (objects : ObjectsFit classes store ws)
    (forest : Forest classes store frames) (q : ℕ) where
  abbrev pub at : ℕ → Seen
  at k = slice_index_or store k no_object

  -- a label is frozen, or that of the region or of one beneath it
  abbrev pub Lies : Label → Type 0
  Lies l = (l ≡ Frozen) ⊎ ((p : ℕ) × (l ≡ Region p) × ((p ≡ q) ⊎ Above classes store q p))

  -- an object is there with such a label
  abbrev pub Lasts : ℕ → Type 0
  Lasts a = (o : Seen) × (slice_get store a ≡ Some o) × Lies o.label

  pub at-is : (a : ℕ) (o : Seen) → slice_get store a ≡ Some o → at a ≡ o
  at-is a o e = get_or_from_slice_get store a o no_object e

  pub owner-leads : (a k b p r : ℕ) (o led : Seen) → slice_get store a ≡ Some o → o.label ≡ Region p → owned_by_slot classes o k ≡ Some b
      → slice_get store b ≡ Some led → led.label ≡ Region r → leads_into classes store frames (Field a k) ≡ Some r
  owner-leads a k b p r o led there own is to lies =
      let owned : owned_by_field classes o k ≡ Some b =
      ap (λ (l : Label). elim l [ Region z ↦ owned_by_slot classes o k | Temp z ↦ owned_by_slot classes o k | Frozen ↦ None ]) own ∙ is in
      ap (λ z. option_and_then (region_at store) (option_and_then (λ (x : Seen). owned_by_field classes x k) z)) there
      ∙ ap (option_and_then (region_at store)) owned ∙ ap (option_and_then (λ (x : Seen). region_of x.label)) to ∙ ap region_of lies

  pub region-lies : (a p : ℕ) (o : Seen) → slice_get store a ≡ Some o → o.label ≡ Region p → region_at store a ≡ Some p
  region-lies a p o there own = ap (option_and_then (λ (x : Seen). region_of x.label)) there ∙ ap region_of own

  pub reached : (a k b : ℕ) (o : Seen) → slice_get store a ≡ Some o → slice_get (at a).fields k ≡ Some (Obj b) → Reaches classes store o k b
  reached a k b o there value =
      let P : Seen → Type 0 = λ x. slice_get x.fields k ≡ Some (Obj b) in
      reaches classes store ws o (objects a o there) k b (subst P (at-is a o there) value)

  pub on : (a k b : ℕ) → Lasts a → slice_get (at a).fields k ≡ Some (Obj b) → Lasts b
  on a k b l value = by l.2
    where
      r : Reaches classes store l.0 k b
      r = reached a k b l.0 l.1 value

      by_led : (p : ℕ) → l.0.label ≡ Region p → (p ≡ q) ⊎ Above classes store q p → LedTo classes l.0 k b (Region p) r.object.label
          → Lies r.object.label
      by_led p own up (inl same) = inr (p, same, up)
      by_led p own up (inr (inl frozen)) = inl frozen
      by_led p own up (inr (inr owner)) =
          let parent : Parent classes store p owner.0.0 = record {
            object = a;
            field = k;
            lies = region-lies a p l.0 l.1 own;
            leads = owner-leads a k b p owner.0.0 l.0 r.object l.1 own owner.1 r.there owner.0.1;
          } in
          let P : ℕ → Type 0 = λ x. Above classes store x owner.0.0 in
          inr (owner.0.0, owner.0.1, inr (elim up [ inl e ↦ subst P e (direct parent) | inr x ↦ further x parent ]))

      by : Lies l.0.label → Lasts b
      by (inl frozen) =
          let P : Label → Type 0 = λ x. LedTo classes l.0 k b x r.object.label in
          (r.object, r.there, inl (subst P frozen r.led))
      by (inr z) =
          let P : Label → Type 0 = λ x. LedTo classes l.0 k b x r.object.label in
          (r.object, r.there, by_led z.0 z.1 z.2 (subst P z.1 r.led))

  label-at : (a : ℕ) (o : Seen) (l : Label) → slice_get store a ≡ Some o → (at a).label ≡ l → o.label ≡ l
  label-at a o l there e = ap (λ (x : Seen). x.label) (sym (at-is a o there)) ∙ e

  -- a field from one region into another owns
  crosses : (p r a j b : ℕ) → Lasts a → read.Leads at p r a j b → leads_into classes store frames (Field a j) ≡ Some r
  crosses p r a j b l w = by (subst L own m.led)
    where
      own : l.0.label ≡ Region p
      own = label-at a l.0 (Region p) l.1 w.from

      m : Reaches classes store l.0 j b
      m = reached a j b l.0 l.1 w.field

      L : Label → Type 0
      L x = LedTo classes l.0 j b x m.object.label

      to : m.object.label ≡ Region r
      to = label-at b m.object (Region r) m.there w.to

      by : LedTo classes l.0 j b (Region p) m.object.label → leads_into classes store frames (Field a j) ≡ Some r
      by (inl same) = absurd (w.other (region-number p r (sym same ∙ to)))
      by (inr (inl frozen)) = absurd (never (sym frozen ∙ to))
        where
          never : Frozen ≡ Region r → ⊥
          never e = cc
      by (inr (inr owner)) = owner-leads a j b p r l.0 m.object l.1 own owner.1 m.there to

  never-back : (p a j b : ℕ) → Lasts a → read.Leads at p q a j b → ⊥
  never-back p a j b l w = by l.2
    where
      own : l.0.label ≡ Region p
      own = label-at a l.0 (Region p) l.1 w.from

      parent : Parent classes store p q
      parent = record { object = a; field = j; lies = region-lies a p l.0 l.1 own; leads = crosses p q a j b l w }

      by : Lies l.0.label → ⊥
      by (inl frozen) = never (sym frozen ∙ own)
        where
          never : Frozen ≡ Region p → ⊥
          never e = cc
      by (inr z) =
          let same : z.0 ≡ p = region-number z.0 p (sym z.1 ∙ own) in
          let P : ℕ → Type 0 = λ x. Above classes store q x in
          elim z.2 [ inl e ↦ w.other (sym same ∙ e) | inr x ↦ forest.no_cycle q (further (subst P same x) parent) ]

  pub closed : (a : ℕ) (o : Seen) → slice_get store a ≡ Some o → o.label ≡ Region q → Closed at Lasts a q
  closed a o there is = record {
    here = (o, there, inr (q, is, inl refl));
    lies = ap (λ (x : Seen). x.label) (at-is a o there) ∙ is;
    spreads = record { not_temp = λ c n l e. temp-never c n l e; on = λ c k b l e. on c k b l e };
    frozen = λ c j b l e f.
        let m = reached c j b l.0 l.1 f in
        let P : Label → Type 0 = λ x. LedTo classes l.0 j b x m.object.label in
        ap (λ (x : Seen). x.label) (at-is b m.object m.there) ∙ subst P (label-at c l.0 Frozen l.1 e) m.led;
    once = λ p r c j b p₂ c₂ j₂ b₂ l m v w. place-same c j c₂ j₂
        (forest.one_owner (Field c j) (Field c₂ j₂) r (crosses p r c j b l v) (crosses p₂ r c₂ j₂ b₂ m w));
    none_back = λ p c j b l w. never-back p c j b l w;
  }
    where
      place-same : (c j c₂ j₂ : ℕ) → Field c j ≡ Field c₂ j₂ → (c ≡ c₂) × (j ≡ j₂)
      place-same c j c₂ j₂ e = (cc, cc)

      temp-never : (c n : ℕ) → Lasts c → (at c).label ≡ Temp n → ⊥
      temp-never c n l e = by l.2 (label-at c l.0 (Temp n) l.1 e)
        where
          frozen-temp : Frozen ≡ Temp n → ⊥
          frozen-temp x = cc

          region-temp : (p : ℕ) → Region p ≡ Temp n → ⊥
          region-temp p x = cc

          by : Lies l.0.label → l.0.label ≡ Temp n → ⊥
          by (inl frozen) is = frozen-temp (sym frozen ∙ is)
          by (inr z) is = region-temp z.0 (sym z.1 ∙ is)

  pub few : (xs : List ℕ) → IsDistinct eqb xs → ((x : ℕ) → list_any (nat_eq x) xs ≡ true → Lasts x) → length xs ≤ length store
  few xs d all = length-le_from_distinct_below xs (length store) d (λ x m. let l = all x m in slice_get_within store x l.0 l.1)

  -- what an object of the region reaches
  pub reached-sound : (managers : List Manager) (a : ℕ) (o : Seen) → slice_get store a ≡ Some o → o.label ≡ Region q
      → SoundCargo (cargo_of store managers a)
  reached-sound managers a o there is =
      sound_from (cargo_of store managers a)
      (read_holds at Lasts (λ r. slice_index_or managers r Arena) (length store) a q (closed a o there is) few)
