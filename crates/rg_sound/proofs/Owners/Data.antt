-- What is said of store, frames and windows, whatever is to do; and how it stays where variables change.
use Rattle.std.proofs.Common.{◌≡◌, ◌≢◌, refl, sym, ◌∙◌, ap, subst, ◌⊎◌, inl, inr, ℕ, ◌<◌, List, [], ◌∷◌, ◌++◌}
use Rattle.std.proofs.Common.{length, Option, Some, None, option_and_then, slice_get, slice_set, arith}
use Rattle.std.proofs.lemmas.Option.{slice_get_within, same_Some}
use Rattle.std.proofs.lemmas.Bool.{cases_eq}
use Rattle.rg_base.specs.declared.ty.Ty.{Ty}
use Rattle.rg_base.specs.declared.ty.Ty.TheVariants.{Int, Bool, Ref}
use Rattle.rg_base.specs.declared.words.Cap.{Cap}
use Rattle.rg_base.specs.declared.object.Label.{Label}
use Rattle.rg_base.specs.declared.object.Place.{Place}
use Rattle.rg_base.specs.declared.object.Place.TheVariants.{Var, Field}
use Rattle.rg_base.specs.declared.object.Seen.{Seen}
use Rattle.rg_base.specs.declared.value.Val.{Val}
use Rattle.rg_base.specs.declared.value.Val.TheVariants.{Nil, Int as IntVal, Bool as BoolVal, Obj}
use Rattle.rg_tree.specs.Tree.{Class, Tree}
use Rattle.rg_tree.proofs.TreesFrom.{slice_get-push}
use Rattle.rg_rules.specs.State.{Local, Target, Frame, Window, State}
use Rattle.rg_rules.specs.Regions.{region_at}
use Rattle.rg_rules.specs.Owners.{owned_by_local, leads_into, Forest}
use Rattle.rg_sound.specs.Windows.{windows_of}
use Rattle.rg_sound.specs.Values.{MeetsBy, Meets, FrameMeets, ValuesFit}
use Rattle.rg_sound.specs.Objects.{ObjectsFit}
use Rattle.rg_sound.specs.OpenRegions.{OpenFit}
use Rattle.rg_sound.specs.Bridges.{BridgesFit}
use Rattle.rg_sound.specs.Numbers.{NumbersFit}
use Rattle.rg_sound.specs.Frames.{FramesFit}
use Rattle.rg_sound.specs.Fit.{Fit}
use Rattle.rg_sound.proofs.Basics.{none-some}
use Rattle.rg_sound.proofs.Owners.Owner.{get-snoc-other, get-set, get-set-other, led_by, leads-top, leads-lower, leads-past}
use Rattle.rg_sound.proofs.Owners.Owner.{OwnersCome, forest-come, AllOwners, AllOwners-map, open-come}

-- five of the seven parts: all but that on frames and items, and that on bridges
pub record Data (classes : List Class) (store : List Seen) (frames : List Frame) (windows : List Window) (regions made : ℕ) : Type 0 where
  pub values : ValuesFit store windows frames
  pub objects : ObjectsFit classes store windows
  pub opened : OpenFit classes store frames windows
  pub forest : Forest classes store frames
  pub numbers : NumbersFit store windows regions made

pub fit-data : (t : Tree) (s : State) → Fit t s → Data t.classes s.store s.frames s.windows (length s.managers) s.windows_made
fit-data t s f = record { values = f.values; objects = f.objects; opened = f.opened; forest = f.forest; numbers = f.numbers }

pub data-fit : (t : Tree) (s : State) → FramesFit t s.frames s.windows s.items →
    Data t.classes s.store s.frames s.windows (length s.managers) s.windows_made → BridgesFit t.classes s.store s.frames s.windows → Fit t s
data-fit t s h d b = record {
  frames = h;
  values = d.values;
  objects = d.objects;
  opened = d.opened;
  bridges = b;
  forest = d.forest;
  numbers = d.numbers;
}

-- a reference lies in a store of a length
abbrev pub Within : (length : ℕ) → Val → Type 0
Within length Nil = Unit {0}
Within length (IntVal z) = Unit {0}
Within length (BoolVal b) = Unit {0}
Within length (Obj a) = a < length

-- a value that meets a type lies in the store
pub meets-within : (store : List Seen) (F : Cap → Label → Type 0) (t : Ty) (v : Val) → MeetsBy store F t v → Within (length store) v
meets-within store F Int Nil m = tt
meets-within store F Int (IntVal z) m = tt
meets-within store F Int (BoolVal b) m = tt
meets-within store F Int (Obj a) m = absurd m
meets-within store F Bool Nil m = tt
meets-within store F Bool (IntVal z) m = tt
meets-within store F Bool (BoolVal b) m = tt
meets-within store F Bool (Obj a) m = absurd m
meets-within store F (Ref cap c) Nil m = tt
meets-within store F (Ref cap c) (IntVal z) m = tt
meets-within store F (Ref cap c) (BoolVal b) m = tt
meets-within store F (Ref cap c) (Obj a) m = slice_get_within store a m.object m.there

-- other frames, over the same store and windows
frames-change : (classes : List Class) (store : List Seen) (before after : List Frame) (ws : List Window) (regions made : ℕ) (Fresh : Place → ℕ →
    Type 0) →
    Data classes store before ws regions made → OwnersCome classes store store before after Fresh → ValuesFit store ws after →
    AllOwners ws (λ p. leads_into classes store after p ≡ leads_into classes store before p) → Data classes store after ws regions made
frames-change classes store before after ws regions made Fresh d c v k = record {
  values = v;
  objects = d.objects;
  opened = open-come classes store store before after Fresh c ws d.opened k (λ w u p n. n);
  forest = forest-come classes store store before after Fresh d.forest c d.forest.no_cycle;
  numbers = d.numbers;
}

-- A value goes into a variable

-- the variables, with another one at a place
pub record Puts (old new : List Local) (k : ℕ) (l : Local) : Type 0 where
  pub at : slice_get new k ≡ Some l
  pub others : (i : ℕ) → i ≢ k → slice_get new i ≡ slice_get old i

pub puts-snoc : (ls : List Local) (l : Local) → Puts ls (ls ++ l ∷ []) (length ls) l
puts-snoc ls l = record { at = slice_get-push ls l; others = λ i n. get-snoc-other ls l i n }

pub puts-set : (ls : List Local) (k : ℕ) (l m : Local) → slice_get ls k ≡ Some m → Puts ls (slice_set ls k l) k l
puts-set ls k l m h = record { at = get-set ls k l m h; others = λ i n. get-set-other ls k i l n }

-- a variable owns no region, or one that is owned nowhere else
abbrev pub OwnsFresh : List Class → List Seen → List Frame → Local → Type 0
OwnsFresh classes store frames l = (r : ℕ) → led_by store l ≡ Some r → (r ≢ 0) × ((q : Place) → ¬ (leads_into classes store frames q ≡ Some r))

-- where each variable of a frame leads, after one was put
pub leads-put : (classes : List Class) (store : List Seen) (f : Frame) (fs : List Frame) (new : List Local) (k : ℕ) (l : Local) →
    Puts f.locals new k l → (n i : ℕ) →
    ((n ≡ length fs) × (i ≡ k) × (leads_into classes store (record f { locals = new } ∷ fs) (Var n i) ≡ led_by store l))
    ⊎ (leads_into classes store (record f { locals = new } ∷ fs) (Var n i) ≡ leads_into classes store (f ∷ fs) (Var n i))
leads-put classes store f fs new k l p n i = elim (cases_eq n (length fs)) [
  | inr other ↦ inr (leads-lower classes store (record f { locals = new }) fs n i other ∙ sym (leads-lower classes store f fs n i other))
  | inl here ↦ elim (cases_eq i k) [
    | inl at ↦ inl (
      here,
      at,
      ap (λ m. leads_into classes store (record f { locals = new } ∷ fs) (Var m i)) here ∙ leads-top classes store (record f { locals = new }) fs i
          ∙ ap (λ (q : Option Local). option_and_then (region_at store) (option_and_then owned_by_local q)) (ap (slice_get new) at ∙ p.at),
    )
    | inr away ↦ inr (
        ap (λ m. leads_into classes store (record f { locals = new } ∷ fs) (Var m i)) here ∙ leads-top classes store (record f { locals = new }) fs i
        ∙ ap (λ (q : Option Local). option_and_then (region_at store) (option_and_then owned_by_local q)) (p.others i away)
        ∙ sym (leads-top classes store f fs i) ∙ ap (λ m. leads_into classes store (f ∷ fs) (Var m i)) (sym here))
  ]
]

-- no window names a variable as its owner
abbrev pub NotOwner : List Window → (frame place : ℕ) → Type 0
NotOwner ws n i = AllOwners ws (λ p. p ≢ Var n i)

-- the owner reference that was put
abbrev pub Put : List Seen → (frame place : ℕ) → Local → Place → ℕ → Type 0
Put store n k l q r = (q ≡ Var n k) × (led_by store l ≡ Some r)

pub put-local : (classes : List Class) (store : List Seen) (f : Frame) (fs : List Frame) (ws : List Window) (regions made : ℕ) (new : List Local)
    (k : ℕ) (l : Local) →
    Data classes store (f ∷ fs) ws regions made → Puts f.locals new k l → Meets store (windows_of (length fs) k ws) l.ty l.value →
    OwnsFresh classes store (f ∷ fs) l → NotOwner ws (length fs) k → Data classes store (record f { locals = new } ∷ fs) ws regions made
put-local classes store f fs ws regions made new k l d p m fresh not_owner =
    frames-change classes store (f ∷ fs) (record f { locals = new } ∷ fs) ws regions made (Put store (length fs) k l) d come (values, d.values.1)
    (AllOwners-map ws (λ q. q ≢ Var (length fs) k) _ kept not_owner)
  where
    from : (q : Place) (r : ℕ) → leads_into classes store (record f { locals = new } ∷ fs) q ≡ Some r →
        (leads_into classes store (f ∷ fs) q ≡ Some r) ⊎ Put store (length fs) k l q r
    from (Var n i) r h = elim (leads-put classes store f fs new k l p n i) [
      | inl at ↦ inr (ap (λ x. Var x i) at.0 ∙ ap (Var (length fs)) at.1, sym at.2 ∙ h)
      | inr same ↦ inl (sym same ∙ h)
    ]
    from (Field a j) r h = inl h

    kept : (q : Place) → q ≢ Var (length fs) k → leads_into classes store (record f { locals = new } ∷ fs) q ≡ leads_into classes store (f ∷ fs) q
    kept (Var n i) h = elim (leads-put classes store f fs new k l p n i) [
      | inl at ↦ absurd (h (ap (λ x. Var x i) at.0 ∙ ap (Var (length fs)) at.1))
      | inr same ↦ same
    ]
    kept (Field a j) h = refl

    come : OwnersCome classes store store (f ∷ fs) (record f { locals = new } ∷ fs) (Put store (length fs) k l)
    come = record {
      from = from;
      one = λ a b r x y. x.0 ∙ sym y.0;
      unowned = λ a b r x h. (fresh r x.1).1 b h;
      above = λ a r x. (fresh r x.1).0;
    }

    values : FrameMeets store ws (length fs) new
    values i g e = elim (cases_eq i k) [
      | inl at ↦
          let same : l ≡ g = same_Some l g (sym p.at ∙ ap (slice_get new) (sym at) ∙ e) in
          let P : Local → Type 0 = λ q. Meets store (windows_of (length fs) k ws) q.ty q.value in
          let Q : ℕ → Type 0 = λ j. Meets store (windows_of (length fs) j ws) g.ty g.value in subst Q (sym at) (subst P same m)
      | inr away ↦ d.values.0 i g (sym (p.others i away) ∙ e)
    ]

-- Variables go

-- the variables that are left were there, each at its place
abbrev pub Shrinks : (old new : List Local) → Type 0
Shrinks old new = (i : ℕ) (l : Local) → slice_get new i ≡ Some l → slice_get old i ≡ Some l

led_some : (store : List Seen) (o : Option Local) (r : ℕ) → option_and_then (region_at store) (option_and_then owned_by_local o) ≡ Some r →
    (l : Local) × (o ≡ Some l)
led_some store None r h = none-some h
led_some store (Some l) r h = (l, refl)

shrink-from : (classes : List Class) (store : List Seen) (f : Frame) (fs : List Frame) (new : List Local) → Shrinks f.locals new → (n i r : ℕ) →
    leads_into classes store (record f { locals = new } ∷ fs) (Var n i) ≡ Some r → leads_into classes store (f ∷ fs) (Var n i) ≡ Some r
shrink-from classes store f fs new s n i r h = elim (cases_eq n (length fs)) [
  | inr other ↦ leads-lower classes store f fs n i other ∙ sym (leads-lower classes store (record f { locals = new }) fs n i other) ∙ h
  | inl here ↦
      let now = sym (leads-top classes store (record f { locals = new }) fs i)
      ∙ ap (λ m. leads_into classes store (record f { locals = new } ∷ fs) (Var m i)) (sym here) ∙ h in
      let l = led_some store (slice_get new i) r now in
      let same : slice_get f.locals i ≡ slice_get new i = s i l.0 l.1 ∙ sym l.1 in
      ap (λ m. leads_into classes store (f ∷ fs) (Var m i)) here ∙ leads-top classes store f fs i
      ∙ ap (λ (q : Option Local). option_and_then (region_at store) (option_and_then owned_by_local q)) same ∙ now
]

-- nothing is fresh
abbrev pub Nothing : Place → ℕ → Type 0
Nothing p r = ⊥

pub shrink-locals : (classes : List Class) (store : List Seen) (f : Frame) (fs : List Frame) (ws : List Window) (regions made : ℕ)
    (new : List Local) →
    Data classes store (f ∷ fs) ws regions made → Shrinks f.locals new →
    AllOwners ws (λ p. leads_into classes store (record f { locals = new } ∷ fs) p ≡ leads_into classes store (f ∷ fs) p) →
    Data classes store (record f { locals = new } ∷ fs) ws regions made
shrink-locals classes store f fs ws regions made new d s k =
    frames-change classes store (f ∷ fs) (record f { locals = new } ∷ fs) ws regions made Nothing d come
    (λ i l e. d.values.0 i l (s i l e), d.values.1) k
  where
    from : (q : Place) (r : ℕ) → leads_into classes store (record f { locals = new } ∷ fs) q ≡ Some r → leads_into classes store (f ∷ fs) q ≡ Some r
    from (Var n i) r h = shrink-from classes store f fs new s n i r h
    from (Field a j) r h = h

    come : OwnersCome classes store store (f ∷ fs) (record f { locals = new } ∷ fs) Nothing
    come = record { from = λ q r h. inl (from q r h); one = λ p q r x y. absurd x; unowned = λ p q r x h. x; above = λ p r x. absurd x }

-- Frames come and go

-- an empty frame
pub push-frame : (classes : List Class) (store : List Seen) (fs : List Frame) (target : Target) (ws : List Window) (regions made : ℕ) →
    Data classes store fs ws regions made → Data classes store (record { locals = []; target = target } ∷ fs) ws regions made
push-frame classes store fs target ws regions made d =
    frames-change classes store fs (record { locals = []; target = target } ∷ fs) ws regions made Nothing d come (λ i l e. none-some e, d.values)
    (all ws)
  where
    same : (q : Place) → leads_into classes store (record { locals = []; target = target } ∷ fs) q ≡ leads_into classes store fs q
    same (Var n i) = elim (cases_eq n (length fs)) [
      | inr other ↦ leads-lower classes store (record { locals = []; target = target }) fs n i other
      | inl here ↦ ap (λ m. leads_into classes store (record { locals = []; target = target } ∷ fs) (Var m i)) here
          ∙ leads-top classes store (record { locals = []; target = target }) fs i ∙ sym (leads-past classes store fs n i (omega (arith, here)))
    ]
    same (Field a j) = refl

    all : (us : List Window) → AllOwners us (λ p. leads_into classes store (record { locals = []; target = target } ∷ fs)
        p ≡ leads_into classes store fs p)
    all [] = tt
    all (u ∷ us) = (λ p e. same p, all us)

    come : OwnersCome classes store store fs (record { locals = []; target = target } ∷ fs) Nothing
    come = record { from = λ q r h. inl (sym (same q) ∙ h); one = λ p q r x y. absurd x; unowned = λ p q r x h. x; above = λ p r x. absurd x }

-- the topmost frame goes, where no window's owner stands in it
pub pop-frame : (classes : List Class) (store : List Seen) (f : Frame) (fs : List Frame) (ws : List Window) (regions made : ℕ) →
    Data classes store (f ∷ fs) ws regions made → AllOwners ws (λ p. leads_into classes store fs p ≡ leads_into classes store (f ∷ fs) p) →
    Data classes store fs ws regions made
pop-frame classes store f fs ws regions made d k =
    frames-change classes store (f ∷ fs) fs ws regions made Nothing d come (d.values.1) k
  where
    from : (q : Place) (r : ℕ) → leads_into classes store fs q ≡ Some r → leads_into classes store (f ∷ fs) q ≡ Some r
    from (Var n i) r h = elim (cases_eq n (length fs)) [
      | inr other ↦ leads-lower classes store f fs n i other ∙ h
      | inl here ↦ none-some (sym (leads-past classes store fs n i (omega (arith, here))) ∙ h)
    ]
    from (Field a j) r h = h

    come : OwnersCome classes store store (f ∷ fs) fs Nothing
    come = record { from = λ q r h. inl (from q r h); one = λ p q r x y. absurd x; unowned = λ p q r x h. x; above = λ p r x. absurd x }

-- a variable gets another value that leads into the same region
pub put-same : (classes : List Class) (store : List Seen) (f : Frame) (fs : List Frame) (ws : List Window) (regions made : ℕ) (new : List Local)
    (k : ℕ) (l m : Local) → Data classes store (f ∷ fs) ws regions made → Puts f.locals new k l → slice_get f.locals k ≡ Some m →
    led_by store l ≡ led_by store m → Meets store (windows_of (length fs) k ws) l.ty l.value →
    Data classes store (record f { locals = new } ∷ fs) ws regions made
put-same classes store f fs ws regions made new k l m d p there led meets =
    frames-change classes store (f ∷ fs) (record f { locals = new } ∷ fs) ws regions made Nothing d come (values, d.values.1) (all ws)
  where
    was : (n i : ℕ) → n ≡ length fs → i ≡ k → leads_into classes store (f ∷ fs) (Var n i) ≡ led_by store m
    was n i here at = ap (λ q. leads_into classes store (f ∷ fs) (Var q i)) here ∙ leads-top classes store f fs i
        ∙ ap (λ (q : Option Local). option_and_then (region_at store) (option_and_then owned_by_local q)) (ap (slice_get f.locals) at ∙ there)

    same : (q : Place) → leads_into classes store (record f { locals = new } ∷ fs) q ≡ leads_into classes store (f ∷ fs) q
    same (Var n i) = elim (leads-put classes store f fs new k l p n i) [
      | inl at ↦ at.2 ∙ led ∙ sym (was n i at.0 at.1)
      | inr e ↦ e
    ]
    same (Field a j) = refl

    come : OwnersCome classes store store (f ∷ fs) (record f { locals = new } ∷ fs) Nothing
    come = record { from = λ q r h. inl (sym (same q) ∙ h); one = λ p q r x y. absurd x; unowned = λ p q r x h. x; above = λ p r x. absurd x }

    all : (us : List Window) → AllOwners us (λ p. leads_into classes store (record f { locals = new } ∷ fs) p
        ≡ leads_into classes store (f ∷ fs) p)
    all [] = tt
    all (u ∷ us) = (λ p e. same p, all us)

    values : FrameMeets store ws (length fs) new
    values i g e = elim (cases_eq i k) [
      | inl at ↦
          let one : l ≡ g = same_Some l g (sym p.at ∙ ap (slice_get new) (sym at) ∙ e) in
          let P : Local → Type 0 = λ q. Meets store (windows_of (length fs) k ws) q.ty q.value in
          let Q : ℕ → Type 0 = λ j. Meets store (windows_of (length fs) j ws) g.ty g.value in subst Q (sym at) (subst P one meets)
      | inr away ↦ d.values.0 i g (sym (p.others i away) ∙ e)
    ]
