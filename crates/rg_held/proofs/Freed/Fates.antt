-- What has become of the objects that had a label when a step began: they have it still, all have another one, or all are gone.
use Rattle.std.proofs.Common.{◌≡◌, ◌≢◌, ℕ, ◌<◌, ◌⊎◌, inl, inr, true, false, Bool as Truth, List, [], ◌∷◌, ◌++◌}
use Rattle.std.proofs.Common.{Option, Some, None, refl, sym, subst, slice_get, slice_set}
use Rattle.std.proofs.lemmas.Bool.{or_cases}
use Rattle.rg_base.specs.declared.object.Label.{Label}
use Rattle.rg_base.specs.declared.object.Label.TheVariants.{Region, Temp, Frozen}
use Rattle.rg_base.specs.declared.object.Seen.{Seen}
use Rattle.rg_base.specs.declared.value.Val.{Val}
use Rattle.rg_base.specs.declared.value.Val.TheVariants as val
use Rattle.rg_rules.specs.Regions.{in_regions, relabelled}
use Rattle.rg_sound.proofs.Stores.Member.{In, among-in}
use Rattle.rg_stack.specs.Machine.{Window}
use Rattle.rg_stack.specs.Effects.{put_in, with_value_in}
use Rattle.rg_stack.specs.Labels.{has_window, is_open}
use Rattle.rg_held.specs.Frees.{is_temp, bury}
use Rattle.rg_held.specs.Gone.{gone}
use Rattle.rg_held.specs.Part.{SomeWindow}
use Rattle.rg_held.proofs.Lists.{off, push-old}
use Rattle.rg_held.proofs.Parts.Burial.{temp-label}
use Rattle.rg_held.proofs.Freed.Changes.{Stands, NoneLies, NoneLeft, MayTake, region-not, frozen-not}
use Rattle.rg_held.proofs.Freed.Changes.{written-stands, written-gone, written-none, made-none}
use Rattle.rg_held.proofs.Freed.Windows.{Numbered, EndedOn}
use Rattle.rg_held.proofs.Freed.Changes.{moved, moved-may, moved-stands, moved-gone, moved-none, goes, bury-there, bury-gone, bury-none}

-- the number of a region was given
abbrev pub IsGiven : (regions : ℕ) → Label → Type 0
IsGiven regions (Region r) = r < regions
IsGiven regions (Temp n) = Unit {0}
IsGiven regions Frozen = Unit {0}

-- nothing is left under a label, where a closed region stays so and empty, and a window that has ended doesn't come again
left-on : (now next : List Seen) (ws later : List Window) (made number : ℕ) (was : Label)
    → ((r : ℕ) → was ≡ Region r → is_open ws r ≡ false → NoneLies now r → (is_open later r ≡ false) × NoneLies next r)
    → EndedOn ws later made number → NoneLeft now ws made was → NoneLeft next later number was
left-on now next ws later made number (Region r) region temp left = region r refl left.0 left.1
left-on now next ws later made number (Temp n) region temp left = temp n left.0 left.1
left-on now next ws later made number Frozen region temp left = absurd left

module _ (old : List Seen) (was : Label) where
  -- what had the label has it still
  abbrev pub Stay : List Seen → Type 0
  Stay now = (a : ℕ) → Stands old a was → Stands now a was

  -- all of it has one other label, that of a region or a frozen object's
  abbrev pub Move : List Seen → Type 0
  Move now = (l : Label) × MayTake l × ((a : ℕ) → Stands old a was → Stands now a l)

  -- all of it is gone
  abbrev pub Go : List Seen → Type 0
  Go now = (a : ℕ) → Stands old a was → slice_get now a ≡ Some gone

  -- how a store, windows and the number of regions stand to the store of the step's beginning
  pub record Since (now : List Seen) (ws : List Window) (made regions : ℕ) : Type 0 where
    pub fate : Stay now ⊎ (NoneLeft now ws made was × (Move now ⊎ Go now))
    pub some_window : SomeWindow ws
    pub numbers : Numbered ws made
    pub given : IsGiven regions was

  -- objects stay where they are, under their labels, and none comes into a region that is closed and empty
  since-stored : (now next : List Seen) (ws : List Window) (made regions more : ℕ)
      → ((a : ℕ) (l : Label) → Stands now a l → Stands next a l)
      → ((a : ℕ) → slice_get now a ≡ Some gone → slice_get next a ≡ Some gone)
      → ((r : ℕ) → was ≡ Region r → is_open ws r ≡ false → NoneLies now r → NoneLies next r) → IsGiven more was
      → Since now ws made regions → Since next ws made more
  since-stored now next ws made regions more stand stay none given since = record {
    fate = elim since.fate [
      | inl h ↦ inl (λ a s. stand a was (h a s))
      | inr h ↦ inr (
        left-on now next ws ws made made was (λ r e shut empty. (shut, none r e shut empty)) (λ n ended less. (ended, less)) h.0,
        elim h.1 [ inl m ↦ inl (m.0, m.1, λ a s. stand a m.0 (m.2 a s)) | inr g ↦ inr (λ a s. stay a (g a s)) ],
      )
    ];
    some_window = since.some_window;
    numbers = since.numbers;
    given = given;
  }

  pub since-put : (now : List Seen) (ws : List Window) (made regions : ℕ) (r : Val) (k : ℕ) (v : Val) → Since now ws made regions
      → Since (put_in now r k v) ws made regions
  since-put now ws made regions val.Nil k v since = since
  since-put now ws made regions (val.Int z) k v since = since
  since-put now ws made regions (val.Bool b) k v since = since
  since-put now ws made regions (val.Obj a) k v since = by (slice_get now a) refl
    where
      by : (o : Option Seen) → slice_get now a ≡ o
          → Since (elim o [ None ↦ now | Some o ↦ slice_set now a (with_value_in o k v) ]) ws made regions
      by None here = since
      by (Some o) here = since-stored now (slice_set now a (with_value_in o k v)) ws made regions regions (written-stands now a k v o here)
          (written-gone now a k v o here) (λ r e shut none. written-none now a k v o here r none) since.given since

  pub since-made : (now : List Seen) (ws : List Window) (made regions more : ℕ) (o : Seen)
      → ((r : ℕ) → was ≡ Region r → is_open ws r ≡ false → o.label ≢ Region r) → IsGiven more was → Since now ws made regions
      → Since (now ++ o ∷ []) ws made more
  since-made now ws made regions more o apart given since = since-stored now (now ++ o ∷ []) ws made regions more
      (λ a l s. (s.0, push-old now o s.0 a s.1, s.2, s.3)) (λ a e. push-old now o gone a e)
      (λ r e shut none. made-none now o r (apart r e shut) none) given since

  -- closed regions move to an open one, or are frozen
  pub since-moved : (rs : List ℕ) (label : Label) (now : List Seen) (ws : List Window) (made regions : ℕ) → MayTake label
      → ((r : ℕ) → is_open ws r ≡ false → label ≢ Region r) → ((r : ℕ) → In r rs → is_open ws r ≡ false) → Since now ws made regions
      → Since (relabelled rs label now) ws made regions
  since-moved rs label now ws made regions may apart shut since = record {
    fate = elim since.fate [
      | inl h ↦ first (in_regions rs was) refl h
      | inr h ↦ inr (
        left-on now next ws ws made made was (λ r e c none. (c, moved-none rs label now r (apart r c) (inr none)))
            (λ n ended less. (ended, less)) h.0,
        elim h.1 [
          | inl m ↦ inl (
            moved rs label m.0,
            moved-may rs label may m.0 m.1,
            λ a s. moved-stands rs label may now a m.0 (in_regions rs m.0) refl (m.2 a s),
          )
          | inr g ↦ inr (λ a s. moved-gone rs label now a (g a s))
        ],
      )
    ];
    some_window = since.some_window;
    numbers = since.numbers;
    given = since.given;
  }
    where
      next : List Seen
      next = relabelled rs label now

      left : (l : Label) → in_regions rs l ≡ true → NoneLeft next ws made l
      left (Region r) e = (shut r (among-in rs r e), moved-none rs label now r (apart r (shut r (among-in rs r e))) (inl e))
      left (Temp n) e = off e
      left Frozen e = off e

      first : (b : Truth) → in_regions rs was ≡ b → Stay now → Stay next ⊎ (NoneLeft next ws made was × (Move next ⊎ Go next))
      first true e h = inr (left was e, inl (label, may, λ a s. moved-stands rs label may now a was true e (h a s)))
      first false e h = inl (λ a s. moved-stands rs label may now a was false e (h a s))

  -- windows open and end; a region that is opened has an object
  pub since-windows : (now : List Seen) (ws later : List Window) (made number regions : ℕ)
      → ((r : ℕ) → is_open ws r ≡ false → NoneLies now r → is_open later r ≡ false)
      → EndedOn ws later made number
      → SomeWindow later → Numbered later number → Since now ws made regions → Since now later number regions
  since-windows now ws later made number regions shut ended some numbers since = record {
    fate = elim since.fate [
      | inl h ↦ inl h
      | inr h ↦ inr (left-on now now ws later made number was (λ r e c none. (shut r c none, none)) ended h.0, h.1)
    ];
    some_window = some;
    numbers = numbers;
    given = since.given;
  }

  -- closed regions are buried, and the temporaries of a window that ends with it
  pub since-buried : (rs : List ℕ) (temps : Option ℕ) (now : List Seen) (ws later : List Window) (made regions : ℕ)
      → ((r : ℕ) → is_open ws r ≡ false → is_open later r ≡ false)
      → EndedOn ws later made made
      → SomeWindow later → Numbered later made → ((r : ℕ) → In r rs → is_open ws r ≡ false)
      → ((n : ℕ) → temps ≡ Some n → (has_window later n ≡ false) × (n < made)) → Since now ws made regions
      → Since (bury rs temps now) later made regions
  since-buried rs temps now ws later made regions stays ended some numbers shut ends since = record {
    fate = elim since.fate [
      | inl h ↦ first (goes rs temps was) refl h
      | inr h ↦ inr (
        left-on now next ws later made made was (λ r e c none. (stays r c, bury-none rs temps now r (inr none))) ended h.0,
        elim h.1 [ inl m ↦ further m (goes rs temps m.0) refl | inr g ↦ inr (λ a s. bury-gone rs temps now a (g a s)) ],
      )
    ];
    some_window = some;
    numbers = numbers;
    given = since.given;
  }
    where
      next : List Seen
      next = bury rs temps now

      -- a region's label is no temporary's
      lies-given : (r : ℕ) → goes rs temps (Region r) ≡ true → in_regions rs (Region r) ≡ true
      lies-given r e = elim (or_cases (in_regions rs (Region r)) (is_temp temps (Region r)) e) [
        | inl t ↦ t
        | inr t ↦ (let h = temp-label temps (Region r) t in absurd (region-not r h.0 h.2))
      ]

      left : (l : Label) → goes rs temps l ≡ true → NoneLeft next later made l
      left (Region r) e =
          let into = lies-given r e in (stays r (shut r (among-in rs r into)), bury-none rs temps now r (inl into))
      left (Temp n) e = let t = temp-label temps (Temp n) e in
          subst (λ l. NoneLeft next later made l) (sym t.2) (ends t.0 t.1)
      left Frozen e = let t = temp-label temps Frozen e in absurd (frozen-not t.0 t.2)

      first : (b : Truth) → goes rs temps was ≡ b → Stay now → Stay next ⊎ (NoneLeft next later made was × (Move next ⊎ Go next))
      first true e h = inr (left was e, inr (λ a s. bury-there rs temps now a was true e (h a s)))
      first false e h = inl (λ a s. (let k = h a s in (k.0, bury-there rs temps now a was false e k, k.2, k.3)))

      further : (m : Move now) (b : Truth) → goes rs temps m.0 ≡ b → Move next ⊎ Go next
      further m true e = inr (λ a s. bury-there rs temps now a m.0 true e (m.2 a s))
      further m false e = inl (m.0, m.1, λ a s. (let k = m.2 a s in (k.0, bury-there rs temps now a m.0 false e k, k.2, k.3)))
