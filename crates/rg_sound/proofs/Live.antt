-- The live regions: the open ones, and those into which owner references in variables and in held objects lead.
use Rattle.std.proofs.Common.{◌≡◌, ◌≢◌, refl, sym, ◌∙◌, ap, subst, ◌⊎◌, inl, inr, ℕ, zero, suc, ◌==◌, Bool as Truth, true, false, List, [], ◌∷◌, ◌++◌}
use Rattle.std.proofs.Common.{length, map, filter_map, Option, Some, None, option_and_then, slice_get, arith}
use Rattle.std.proofs.lemmas.Option.{same_Some}
use Rattle.std.proofs.lemmas.Bool.{eqb-false}
use Rattle.rg_base.specs.declared.object.Label.{Label}
use Rattle.rg_base.specs.declared.object.Label.TheVariants.{Region, Temp, Frozen}
use Rattle.rg_base.specs.declared.object.Place.{Place}
use Rattle.rg_base.specs.declared.object.Place.TheVariants.{Var, Field}
use Rattle.rg_base.specs.declared.object.Seen.{Seen}
use Rattle.rg_tree.specs.Tree.{Class, Tree}
use Rattle.rg_rules.specs.State.{Local, Frame, Window, State}
use Rattle.rg_rules.specs.Regions.{region_of, region_at, led_from, joined_with}
use Rattle.rg_rules.specs.Owners.{owned_by_local, owned_by_field, leads_into, Parent, led_from_locals, led_from_frames, is_temp_of, first_live, live}
use Rattle.rg_sound.specs.Fit.{Fit}
use Rattle.rg_sound.specs.Windows.{IsOpen}
use Rattle.rg_sound.specs.Held.{IsLive, HoldsLabel, IsHeld, InHeld}
use Rattle.rg_sound.proofs.Basics.{none-some}
use Rattle.rg_sound.proofs.Owners.Owner.{leads-top, leads-lower, leads-past}
use Rattle.rg_sound.proofs.Owners.Data.{fit-data}
use Rattle.rg_sound.proofs.Owners.Open.{IsOpenIn}
use Rattle.rg_sound.proofs.Stores.MergeLabel.{open-in}
use Rattle.rg_sound.proofs.Values.Deliver.{pop-leads}
use Rattle.rg_sound.proofs.Stores.Member.{In, among-in, in-among, in-left, in-right, in-split, joined-new, joined-back, filter-none}
use Rattle.rg_sound.proofs.Stores.Member.{filter-some}
use Rattle.rg_sound.proofs.Stores.Member.{filter-in, filter-back}
use Rattle.rg_sound.proofs.Stores.Beneath.{Led, led-in, led-back, Closed, region-given, beneath-closed, beneath-start, beneath-from}

-- Variables

local-in : (ls : List Local) (i : ℕ) (l : Local) (a : ℕ) → slice_get ls i ≡ Some l → owned_by_local l ≡ Some a → In a (filter_map owned_by_local ls)
local-in [] i l a e o = none-some e
local-in (k ∷ ls) zero l a e o =
    let P : List ℕ → Type 0 = λ q. In a q in
    subst P (sym (filter-some owned_by_local k a ls (ap owned_by_local (same_Some k l e) ∙ o))) (inl refl)
local-in (k ∷ ls) (suc i) l a e o = by (owned_by_local k) refl (local-in ls i l a e o)
  where
    by : (q : Option ℕ) → owned_by_local k ≡ q → In a (filter_map owned_by_local ls) → In a (filter_map owned_by_local (k ∷ ls))
    by None g x = let P : List ℕ → Type 0 = λ q. In a q in subst P (sym (filter-none owned_by_local k ls g)) x
    by (Some q) g x = let P : List ℕ → Type 0 = λ z. In a z in subst P (sym (filter-some owned_by_local k q ls g)) (inr x)

local-back : (ls : List Local) (a : ℕ) → In a (filter_map owned_by_local ls) → (i : ℕ) × (option_and_then owned_by_local (slice_get ls i) ≡ Some a)
local-back [] a i = absurd i
local-back (k ∷ ls) a i = by (owned_by_local k) refl (local-back ls a)
  where
    one : (q : ℕ) → owned_by_local k ≡ Some q → In a (q ∷ filter_map owned_by_local ls) →
        (In a (filter_map owned_by_local ls) → (i : ℕ) × (option_and_then owned_by_local (slice_get ls i) ≡ Some a)) →
        (i : ℕ) × (option_and_then owned_by_local (slice_get (k ∷ ls) i) ≡ Some a)
    one q e (inl same) rest = (0, e ∙ ap Some same)
    one q e (inr x) rest = let y = rest x in (suc y.0, y.1)

    by : (q : Option ℕ) → owned_by_local k ≡ q → (In a (filter_map owned_by_local ls) →
        (i : ℕ) × (option_and_then owned_by_local (slice_get ls i) ≡ Some a)) →
        (i : ℕ) × (option_and_then owned_by_local (slice_get (k ∷ ls) i) ≡ Some a)
    by None e rest = let P : List ℕ → Type 0 = λ q. In a q in let y = rest (subst P (filter-none owned_by_local k ls e) i) in (suc y.0, y.1)
    by (Some q) e rest = let P : List ℕ → Type 0 = λ z. In a z in one q e (subst P (filter-some owned_by_local k q ls e) i) rest

locals-in : (store : List Seen) (ls : List Local) (i r : ℕ) →
    option_and_then (region_at store) (option_and_then owned_by_local (slice_get ls i)) ≡ Some r → In r (led_from_locals store ls)
locals-in store ls i r h = by (slice_get ls i) refl h
  where
    owner : (l : Local) (a : Option ℕ) → slice_get ls i ≡ Some l → owned_by_local l ≡ a → option_and_then (region_at store) a ≡ Some r →
        In r (led_from_locals store ls)
    owner l None e o g = none-some g
    owner l (Some a) e o g = filter-in (region_at store) (filter_map owned_by_local ls) a r (local-in ls i l a e o) g

    by : (l : Option Local) → slice_get ls i ≡ l → option_and_then (region_at store) (option_and_then owned_by_local l) ≡ Some r →
        In r (led_from_locals store ls)
    by None e g = none-some g
    by (Some l) e g = owner l (owned_by_local l) e refl g

pub frames-in : (classes : List Class) (store : List Seen) (fs : List Frame) (n i r : ℕ) → leads_into classes store fs (Var n i) ≡ Some r →
    In r (led_from_frames store fs)
frames-in classes store [] n i r h = none-some (sym (leads-past classes store [] n i (omega arith)) ∙ h)
frames-in classes store (f ∷ fs) n i r h = by (n == length fs) refl (frames-in classes store fs n i r)
  where
    by : (b : Truth) → (n == length fs) ≡ b → (leads_into classes store fs (Var n i) ≡ Some r → In r (led_from_frames store fs)) →
        In r (led_from_frames store (f ∷ fs))
    by true e rest =
        let here : n ≡ length fs = grind arith in
        in-left (led_from_locals store f.locals) (led_from_frames store fs) r (locals-in store f.locals i r
        (sym (leads-top classes store f fs i) ∙ ap (λ m. leads_into classes store (f ∷ fs) (Var m i)) (sym here) ∙ h))
    by false e rest =
        let other : n ≢ length fs = eqb-false n (length fs) e in
        in-right (led_from_locals store f.locals) (led_from_frames store fs) r (rest (sym (leads-lower classes store f fs n i other) ∙ h))

pub frames-back : (classes : List Class) (store : List Seen) (fs : List Frame) (r : ℕ) → In r (led_from_frames store fs) →
    (n : ℕ) × (i : ℕ) × (leads_into classes store fs (Var n i) ≡ Some r)
frames-back classes store [] r h = absurd h
frames-back classes store (f ∷ fs) r h = elim (in-split (led_from_locals store f.locals) (led_from_frames store fs) r h) [
  | inl here ↦
      (let a = filter-back (region_at store) (filter_map owned_by_local f.locals) r here in
      let l = local-back f.locals a.0 a.1 in
      (length fs, l.0, leads-top classes store f fs l.0 ∙ ap (option_and_then (region_at store)) l.1 ∙ a.2))
  | inr below ↦ (let q = frames-back classes store fs r below in (q.0, q.1, pop-leads classes store f fs (Var q.0 q.1) r q.2))
]

-- Windows

region-in : (ws : List Window) (r : ℕ) → IsOpenIn ws r → In r (map (λ (w : Window). w.region) ws)
region-in [] r h = absurd h
region-in (w ∷ ws) r (inl e) = inl e
region-in (w ∷ ws) r (inr h) = inr (region-in ws r h)

region-back : (ws : List Window) (r : ℕ) → In r (map (λ (w : Window). w.region) ws) → IsOpenIn ws r
region-back [] r h = absurd h
region-back (w ∷ ws) r (inl e) = inl e
region-back (w ∷ ws) r (inr h) = inr (region-back ws r h)

temp-in : (ws : List Window) (n : ℕ) → IsOpen ws (Temp n) → In n (map (λ (w : Window). w.number) ws)
temp-in [] n h = absurd h
temp-in (w ∷ ws) n (inl e) = grind arith
temp-in (w ∷ ws) n (inr (inl e)) = inl (let q : n ≡ w.number = grind arith in sym q)
temp-in (w ∷ ws) n (inr (inr h)) = inr (temp-in ws n h)

-- Live regions of a state that fits

module _ (t : Tree) (s : State) (fit : Fit t s) where
  abbrev opened : List ℕ
  opened = map (λ (w : Window). w.region) s.windows

  abbrev in_frames : List ℕ
  in_frames = led_from_frames s.store s.frames

  abbrev in_temps : List ℕ
  in_temps = led_from t.classes s.store (is_temp_of s.windows) s.store

  first_in : (r : ℕ) → In r (first_live t.classes s) → IsLive t.classes s r
  first_in r i = in-among (live t.classes s) r (beneath-start t.classes s.store (length s.managers) (joined_with [] (first_live t.classes s)) r
      (joined-new [] (first_live t.classes s) r i))

  live-closed : Closed t.classes s.store (live t.classes s)
  live-closed = beneath-closed t.classes s.store (length s.managers)
      (λ b r e. region-given t.classes s.store s.frames s.windows (length s.managers) s.windows_made (fit-data t s fit) b r e)
      (joined_with [] (first_live t.classes s))

  pub live-open : (r : ℕ) → IsOpenIn s.windows r → IsLive t.classes s r
  live-open r h = first_in r (in-left (opened ++ in_frames) in_temps r (in-left opened in_frames r (region-in s.windows r h)))

  pub live-local : (n i r : ℕ) → leads_into t.classes s.store s.frames (Var n i) ≡ Some r → IsLive t.classes s r
  live-local n i r h = first_in r (in-left (opened ++ in_frames) in_temps r
      (in-right opened in_frames r (frames-in t.classes s.store s.frames n i r h)))

  pub live-field : (a k r : ℕ) → IsHeld t.classes s a → leads_into t.classes s.store s.frames (Field a k) ≡ Some r → IsLive t.classes s r
  live-field a k r h l = by h.object.label refl h.held
    where
      leads : option_and_then (region_at s.store) (owned_by_field t.classes h.object k) ≡ Some r
      leads = sym (ap (λ (q : Option Seen). option_and_then (region_at s.store) (option_and_then (λ (z : Seen). owned_by_field t.classes z k) q))
          h.there) ∙ l

      frozen_owns : h.object.label ≡ Frozen → owned_by_field t.classes h.object k ≡ None
      frozen_owns e = rw (owned_by_field, e) refl

      by : (q : Label) → h.object.label ≡ q → HoldsLabel t.classes s q → IsLive t.classes s r
      by (Region p) e y = in-among (live t.classes s) r (live-closed p r (among-in (live t.classes s) p y)
          (record { object = a; field = k; lies = ap (option_and_then (λ (q : Seen). region_of q.label)) h.there ∙ ap region_of e; leads = l }))
      by (Temp n) e y = first_in r (in-right (opened ++ in_frames) in_temps r
          (led-in t.classes s.store (is_temp_of s.windows) s.store r (record {
            object = a;
            field = k;
            holder = h.object;
            there = h.there;
            passes =
                ap (is_temp_of s.windows) e ∙ y;
            leads = leads;
          })))
      by Frozen e y = none-some (sym (ap (option_and_then (region_at s.store)) (frozen_owns e)) ∙ leads)

  -- a live region is open, or an owner reference in a variable or in a held object leads into it
  pub live-from : (r : ℕ) → IsLive t.classes s r →
      IsOpenIn s.windows r ⊎ ((p : Place) × InHeld t.classes s p × (leads_into t.classes s.store s.frames p ≡ Some r))
  live-from r h = elim (beneath-from t.classes s.store (length s.managers) (joined_with [] (first_live t.classes s)) r
      (among-in (live t.classes s) r h)) [
        | inl start ↦ start_of (joined-back [] (first_live t.classes s) r start)
        | inr q ↦ inr (Field q.2.object q.2.field, parent_held q.0 q.1 q.2, q.2.leads)
      ]
    where
      parent_held : (p : ℕ) → In p (live t.classes s) → (h : Parent t.classes s.store p r) → IsHeld t.classes s h.object
      parent_held p i h = by (slice_get s.store h.object) refl h.lies
        where
          label : (l : Label) → region_of l ≡ Some p → HoldsLabel t.classes s l
          label (Region q) e = let P : ℕ → Type 0 = λ z. IsLive t.classes s z in subst P (sym (same_Some q p e)) (in-among (live t.classes s) p i)
          label (Temp n) e = none-some e
          label Frozen e = none-some e

          by : (o : Option Seen) → slice_get s.store h.object ≡ o → option_and_then (λ (q : Seen). region_of q.label) o ≡ Some p →
              IsHeld t.classes s h.object
          by None e g = none-some g
          by (Some o) e g = record { object = o; there = e; held = label o.label g }

      temp_led : Led t.classes s.store (is_temp_of s.windows) s.store r →
          (p : Place) × InHeld t.classes s p × (leads_into t.classes s.store s.frames p ≡ Some r)
      temp_led l = (
        Field l.object l.field,
        record { object = l.holder; there = l.there; held = label l.holder.label l.passes },
        ap (λ (q : Option Seen). option_and_then (region_at s.store) (option_and_then (λ (z : Seen). owned_by_field t.classes z l.field) q))
            l.there ∙ l.leads,
      )
        where
          label : (q : Label) → is_temp_of s.windows q ≡ true → HoldsLabel t.classes s q
          label (Region p) e = grind arith
          label (Temp n) e = e
          label Frozen e = tt

      start_of : In r [] ⊎ In r (first_live t.classes s) →
          IsOpenIn s.windows r ⊎ ((p : Place) × InHeld t.classes s p × (leads_into t.classes s.store s.frames p ≡ Some r))
      start_of (inl x) = absurd x
      start_of (inr i) = elim (in-split (opened ++ in_frames) in_temps r i) [
        | inl front ↦ elim (in-split opened in_frames r front) [
          | inl shown ↦ inl (region-back s.windows r shown)
          | inr local ↦ (let q = frames-back t.classes s.store s.frames r local in inr (Var q.0 q.1, tt, q.2))
        ]
        | inr temp ↦ inr (temp_led (led-back t.classes s.store (is_temp_of s.windows) s.store r temp))
      ]

  -- an open label is held
  pub open-held : (l : Label) → IsOpen s.windows l → HoldsLabel t.classes s l
  open-held (Region r) h = live-open r (open-in s.windows r h)
  open-held (Temp n) h = in-among (map (λ (w : Window). w.number) s.windows) n (temp-in s.windows n h)
  open-held Frozen h = tt
