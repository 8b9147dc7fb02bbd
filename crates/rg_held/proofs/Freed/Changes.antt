-- Where objects stand behind each change of the store, and that none comes into a region that is closed and empty.
use Rattle.std.proofs.Common.{◌≡◌, ◌≢◌, ℕ, zero, suc, ◌<◌, ◌⊎◌, inl, inr, true, false, true≢false, Bool as Truth, List, [], ◌∷◌, ◌++◌}
use Rattle.std.proofs.Common.{length, map, Option, Some, option_map, refl, sym, ap, subst, ◌∙◌, arith, slice_get, slice_set}
use Rattle.std.specs.Prelude.{◌||◌, ◌-◌, ◌^◌, if◌then◌else◌}
use Rattle.std.proofs.lemmas.Option.{slice_get-map, same_Some}
use Rattle.rg_base.specs.declared.object.Label.{Label}
use Rattle.rg_base.specs.declared.object.Label.TheVariants.{Region, Temp, Frozen}
use Rattle.rg_base.specs.declared.object.Seen.{Seen}
use Rattle.rg_base.specs.declared.value.Val.{Val}
use Rattle.rg_rules.specs.Regions.{in_regions, relabelled_object, relabelled}
use Rattle.rg_sound.proofs.Owners.Owner.{get-set}
use Rattle.rg_stack.specs.Machine.{Window}
use Rattle.rg_stack.specs.Effects.{with_value_in}
use Rattle.rg_stack.specs.Labels.{has_window, is_open}
use Rattle.rg_stack.proofs.Basics.{none-some, or-left}
use Rattle.rg_held.specs.Frees.{is_temp, buried, bury}
use Rattle.rg_held.specs.Gone.{gone}
use Rattle.rg_held.proofs.Lists.{set-old, set-back, push-back}

-- an object that isn't gone stands at an address, with a label
abbrev pub Stands : List Seen → (address : ℕ) → Label → Type 0
Stands store a l = (o : Seen) × (slice_get store a ≡ Some o) × (o.label ≡ l) × (o ≢ gone)

-- no object lies in a region
abbrev pub NoneLies : List Seen → (region : ℕ) → Type 0
NoneLies store r = (b : ℕ) (u : Seen) → slice_get store b ≡ Some u → u.label ≢ Region r

-- nothing is left under a label: its region is closed and empty, or its window was opened and has ended
abbrev pub NoneLeft : List Seen → List Window → (made : ℕ) → Label → Type 0
NoneLeft now ws made (Region r) = (is_open ws r ≡ false) × NoneLies now r
NoneLeft now ws made (Temp n) = (has_window ws n ≡ false) × (n < made)
NoneLeft now ws made Frozen = ⊥

-- a label that objects may get
abbrev pub MayTake : Label → Type 0
MayTake (Region r) = Unit {0}
MayTake (Temp n) = ⊥
MayTake Frozen = Unit {0}

pub region-not : (r n : ℕ) → Region r ≢ Temp n
region-not r n e = true≢false (ap (λ (l : Label). elim l [ Region q ↦ true | Temp k ↦ false | Frozen ↦ false ]) e)

pub frozen-not : (n : ℕ) → Frozen ≢ Temp n
frozen-not n e = true≢false (ap (λ (l : Label). elim l [ Region q ↦ false | Temp k ↦ false | Frozen ↦ true ]) e)

map-back : {A B : Type 0} (f : A → B) (xs : List A) (j : ℕ) (u : B) → slice_get (map f xs) j ≡ Some u
    → (x : A) × (slice_get xs j ≡ Some x) × (u ≡ f x)
map-back f [] j u e = none-some u e
map-back f (x ∷ xs) zero u e = (x, refl, same_Some u (f x) (sym e))
map-back f (x ∷ xs) (suc j) u e = map-back f xs j u e

-- a field of an object is written

with-gone : (o : Seen) (k : ℕ) (v : Val) → with_value_in o k v ≡ gone → o ≡ gone
with-gone o k v e = by o.fields k refl e
  where
    by : (fields : List Val) (k : ℕ) → o.fields ≡ fields → record o { fields = slice_set fields k v } ≡ gone → o ≡ gone
    by [] k here e = ap (λ (fs : List Val). record o { fields = fs }) here ∙ e
    by (f ∷ fs) zero here e = absurd (let n = ap (λ (u : Seen). length u.fields) e in omega (arith, n))
    by (f ∷ fs) (suc k) here e = absurd (let n = ap (λ (u : Seen). length u.fields) e in omega (arith, n))

module _ (store : List Seen) (b k : ℕ) (v : Val) (o : Seen) (here : slice_get store b ≡ Some o) where
  abbrev pub written : List Seen
  written = slice_set store b (with_value_in o k v)

  written-at : (a : ℕ) → b ≡ a → slice_get written a ≡ Some (with_value_in o k v)
  written-at a same =
      subst (λ j. slice_get written j ≡ Some (with_value_in o k v)) same (get-set store b (with_value_in o k v) o here)

  written-is : (a : ℕ) (u : Seen) → b ≡ a → slice_get store a ≡ Some u → o ≡ u
  written-is a u same there = same_Some o u (sym here ∙ ap (slice_get store) same ∙ there)

  pub written-stands : (a : ℕ) (l : Label) → Stands store a l → Stands written a l
  written-stands a l s = elim (set-old store b a (with_value_in o k v) s.0 s.1) [
    | inr there ↦ (s.0, there, s.2, s.3)
    | inl same ↦ (
        let is = written-is a s.0 same s.1 in
        (with_value_in o k v, written-at a same, ap (λ (u : Seen). u.label) is ∙ s.2, λ e. s.3 (sym is ∙ with-gone o k v e))
        )
  ]

  pub written-gone : (a : ℕ) → slice_get store a ≡ Some gone → slice_get written a ≡ Some gone
  written-gone a e = elim (set-old store b a (with_value_in o k v) gone e) [
    | inr there ↦ there
    | inl same ↦ written-at a same ∙ ap (λ (u : Seen). Some (with_value_in u k v)) (written-is a gone same e)
  ]

  pub written-none : (r : ℕ) → NoneLies store r → NoneLies written r
  written-none r none a u at lies = elim (set-back store b a (with_value_in o k v) u at) [
    | inl new ↦ none b o here (sym (ap (λ (x : Seen). x.label) new.1) ∙ lies)
    | inr there ↦ none a u there lies
  ]

pub made-none : (store : List Seen) (o : Seen) (r : ℕ) → o.label ≢ Region r → NoneLies store r → NoneLies (store ++ o ∷ []) r
made-none store o r apart none a u at lies = elim (push-back store o u a at) [
  | inl new ↦ apart (sym (ap (λ (x : Seen). x.label) new.1) ∙ lies)
  | inr there ↦ none a u there lies
]

-- objects of some regions get a label

module _ (regions : List ℕ) (label : Label) where
  abbrev pub moved : Label → Label
  moved l = if in_regions regions l then label else l

  pub moved-may : MayTake label → (l : Label) → MayTake l → MayTake (moved l)
  moved-may may l h = by (in_regions regions l)
    where
      by : (b : Truth) → MayTake (if b then label else l)
      by true = may
      by false = h

  moved-not : MayTake label → (o : Seen) → record o { label = label } ≢ gone
  moved-not may o e = by label may (ap (λ (u : Seen). u.label) e)
    where
      by : (l : Label) → MayTake l → l ≢ gone.label
      by (Region r) may e = region-not r (2 ^ 64 - 1) e
      by (Temp n) may e = may
      by Frozen may e = frozen-not (2 ^ 64 - 1) e

  pub moved-stands : MayTake label → (now : List Seen) (a : ℕ) (l : Label) (b : Truth) → in_regions regions l ≡ b → Stands now a l
      → Stands (relabelled regions label now) a (if b then label else l)
  moved-stands may now a l b e s = by b (ap (in_regions regions) s.2 ∙ e)
    where
      there : slice_get (relabelled regions label now) a ≡ Some (relabelled_object regions label s.0)
      there = slice_get-map (relabelled_object regions label) now a ∙ ap (option_map (relabelled_object regions label)) s.1

      by : (b : Truth) → in_regions regions s.0.label ≡ b → Stands (relabelled regions label now) a (if b then label else l)
      by true e = (
        record s.0 { label = label },
        there ∙ ap (λ t. Some (if t then record s.0 { label = label } else s.0)) e,
        refl,
        moved-not may s.0,
      )
      by false e = (s.0, there ∙ ap (λ t. Some (if t then record s.0 { label = label } else s.0)) e, s.2, s.3)

  pub moved-gone : (now : List Seen) (a : ℕ) → slice_get now a ≡ Some gone → slice_get (relabelled regions label now) a ≡ Some gone
  moved-gone now a e = slice_get-map (relabelled_object regions label) now a ∙ ap (option_map (relabelled_object regions label)) e

  -- no object that is moved comes into another region, and each leaves its own
  pub moved-none : (now : List Seen) (r : ℕ) → label ≢ Region r → in_regions regions (Region r) ≡ true ⊎ NoneLies now r
      → NoneLies (relabelled regions label now) r
  moved-none now r apart why a u at lies =
      let x = map-back (relabelled_object regions label) now a u at in
      of x.0 x.1 (in_regions regions x.0.label) refl (sym (ap (λ (y : Seen). y.label) x.2) ∙ lies)
    where
      out : (y : Seen) → slice_get now a ≡ Some y → in_regions regions y.label ≡ false → y.label ≡ Region r
          → in_regions regions (Region r) ≡ true ⊎ NoneLies now r → ⊥
      out y at e lies (inl t) = true≢false (sym t ∙ sym (ap (in_regions regions) lies) ∙ e)
      out y at e lies (inr none) = none a y at lies

      of : (y : Seen) → slice_get now a ≡ Some y → (b : Truth) → in_regions regions y.label ≡ b
          → (if b then record y { label = label } else y).label ≡ Region r → ⊥
      of y at true e lies = apart lies
      of y at false e lies = out y at e lies why

-- objects of some regions, and a window's temporaries, are gone

module _ (regions : List ℕ) (temps : Option ℕ) where
  abbrev pub goes : Label → Truth
  goes l = in_regions regions l || is_temp temps l

  pub bury-there : (now : List Seen) (a : ℕ) (l : Label) (b : Truth) → goes l ≡ b → (s : Stands now a l)
      → slice_get (bury regions temps now) a ≡ Some (if b then gone else s.0)
  bury-there now a l b e s = slice_get-map (buried regions temps) now a ∙ ap (option_map (buried regions temps)) s.1
      ∙ ap (λ t. Some (if t then gone else s.0)) (ap goes s.2 ∙ e)

  pub bury-gone : (now : List Seen) (a : ℕ) → slice_get now a ≡ Some gone → slice_get (bury regions temps now) a ≡ Some gone
  bury-gone now a e = slice_get-map (buried regions temps) now a ∙ ap (option_map (buried regions temps)) e ∙ by (goes gone.label)
    where
      by : (b : Truth) → Some (if b then gone else gone) ≡ Some gone
      by true = refl
      by false = refl

  pub bury-none : (now : List Seen) (r : ℕ) → in_regions regions (Region r) ≡ true ⊎ NoneLies now r → NoneLies (bury regions temps now) r
  bury-none now r why a u at lies =
      let x = map-back (buried regions temps) now a u at in
      of x.0 x.1 (goes x.0.label) refl (sym (ap (λ (y : Seen). y.label) x.2) ∙ lies)
    where
      out : (y : Seen) → slice_get now a ≡ Some y → goes y.label ≡ false → y.label ≡ Region r
          → in_regions regions (Region r) ≡ true ⊎ NoneLies now r → ⊥
      out y at e lies (inl t) =
          true≢false (sym t ∙ sym (ap (in_regions regions) lies) ∙ or-left (in_regions regions y.label) (is_temp temps y.label) e)
      out y at e lies (inr none) = none a y at lies

      of : (y : Seen) → slice_get now a ≡ Some y → (b : Truth) → goes y.label ≡ b → (if b then gone else y).label ≡ Region r → ⊥
      of y at true e lies = region-not r (2 ^ 64 - 1) (sym lies)
      of y at false e lies = out y at e lies why
