-- Where the topmost window closes, its temporaries may go: nothing that stays leads to one.
use Rattle.std.proofs.Common.{◌≡◌, ◌≢◌, inl, inr, ℕ, suc, ◌<◌, ◌==◌, Bool as Truth, true, false, true≢false, ◌&&◌, ◌||◌, not, List, [], ◌∷◌}
use Rattle.std.proofs.Common.{if◌then◌else◌, Option, Some, None, option_and_then, length, map, slice_get, refl, sym, ap, subst, ◌∙◌, arith}
use Rattle.std.proofs.lemmas.Bool.{and_from, eqb-true, eqb-false}
use Rattle.std.proofs.lemmas.Option.{same_Some}
use Rattle.std.specs.List.{list_any}
use Rattle.rg_base.specs.declared.words.Cap.{Cap}
use Rattle.rg_base.specs.declared.words.Cap.TheVariants.{Mut, Tmp, Paused, Imm, Iso}
use Rattle.rg_base.specs.declared.ty.Ty.{Ty}
use Rattle.rg_base.specs.declared.ty.Ty.TheVariants as ty
use Rattle.rg_base.specs.declared.object.Label.{Label}
use Rattle.rg_base.specs.declared.object.Label.TheVariants.{Region, Temp, Frozen}
use Rattle.rg_base.specs.declared.object.Seen.{Seen}
use Rattle.rg_base.specs.declared.value.Val.{Val}
use Rattle.rg_base.specs.declared.value.Val.TheVariants as val
use Rattle.rg_tree.specs.Tree.{Class}
use Rattle.rg_rules.specs.Types.{type_of}
use Rattle.rg_rules.specs.State.{Local, Frame as Body, Window as Opened}
use Rattle.rg_rules.specs.Regions.{region_of}
use Rattle.rg_sound.specs.Windows.{windows_of, windows_from, IsOpen}
use Rattle.rg_sound.specs.Values.{LabelFits, MeetsBy, Meets, ValuesFit}
use Rattle.rg_sound.specs.Objects.{RegionFieldFits, TempFieldFits, FieldFits}
use Rattle.rg_sound.specs.Numbers.{Rising}
use Rattle.rg_sound.proofs.Basics.{none-some}
use Rattle.rg_sound.proofs.Held.{from-open}
use Rattle.rg_sound.proofs.LocalRoots.{field-meets, temp-label}
use Rattle.rg_sound.proofs.Owners.Window.{covers-not, FramesInFront, rising-below}
use Rattle.rg_sound.proofs.Stores.Member.{In}
use Rattle.rg_sound.proofs.Values.Label.{windows_of-open, windows_from-open}
use Rattle.rg_stack.specs.Machine.{Frame, Window, Machine}
use Rattle.rg_stack.specs.Tops.{top_window}
use Rattle.rg_stack.specs.Shows.{ShowsFrames, ShowsWindows}
use Rattle.rg_stack.specs.Needs.{is_top_temp, is_to_temp, outlives, temps_may_go}
use Rattle.rg_stack.specs.Labels.{has_window}
use Rattle.rg_stack.proofs.Callers.List.{none-passes, refused, slot-local}
use Rattle.rg_stack.proofs.Callers.Lead.{ShowsFit, shown-number}

-- Where temporaries are led to from

-- a value leads to a temporary of the window of a number
record ToTemp (store : List Seen) (n : ℕ) (v : Val) : Type 0 where
  pub address : ℕ
  pub value : v ≡ val.Obj address
  pub object : Seen
  pub there : slice_get store address ≡ Some object
  pub label : object.label ≡ Temp n

top-temp : (m : Machine) (l : Label) → is_top_temp m l ≡ true → l ≡ Temp (top_window m.windows)
top-temp m (Region r) e = absurd (true≢false (sym e))
top-temp m (Temp n) e = let same : n ≡ top_window m.windows = grind arith in ap Temp same
top-temp m Frozen e = absurd (true≢false (sym e))

to-temp : (m : Machine) (v : Val) → is_to_temp m v ≡ true → ToTemp m.store (top_window m.windows) v
to-temp m val.Nil e = absurd (true≢false (sym e))
to-temp m (val.Int z) e = absurd (true≢false (sym e))
to-temp m (val.Bool b) e = absurd (true≢false (sym e))
to-temp m (val.Obj a) e = by (slice_get m.store a) refl e
  where
    by : (q : Option Seen) → slice_get m.store a ≡ q →
        elim (option_and_then (λ (o : Seen). Some o.label) q) [ None ↦ false | Some l ↦ is_top_temp m l ] ≡ true →
        ToTemp m.store (top_window m.windows) (val.Obj a)
    by None at e = absurd (true≢false (sym e))
    by (Some o) at e = record { address = a; value = refl; object = o; there = at; label = top-temp m o.label e }

-- a label that fits a type at windows, and is that of temporaries, is open there
temp-open : (us : List Opened) (cap : Cap) (l : Label) (n : ℕ) → l ≡ Temp n → LabelFits us cap l → IsOpen us l
temp-open [] Mut l n e h = h
temp-open (u ∷ us) Mut l n e h = inl h
temp-open [] Tmp l n e h = h
temp-open (u ∷ us) Tmp l n e h = inr (inl h)
temp-open us Paused l n e (inl h) = let no_frozen : Temp n ≡ Frozen = sym e ∙ h in grind arith
temp-open us Paused l n e (inr h) = h
temp-open us Imm l n e h = let no_frozen : Temp n ≡ Frozen = sym e ∙ h in grind arith
temp-open us Iso l n e h = none-some (ap region_of (sym e ∙ h.1))

-- one that meets a type leads to a label that fits
meets-label : (store : List Seen) (F : Cap → Label → Type 0) (t : Ty) (v : Val) (n : ℕ) → MeetsBy store F t v → ToTemp store n v →
    (cap : Cap) × (l : Label) × (l ≡ Temp n) × F cap l
meets-label store F t v n meets to = by t (let P : Val → Type 0 = λ q. MeetsBy store F t q in subst P to.value meets)
  where
    by : (t : Ty) → MeetsBy store F t (val.Obj to.address) → (cap : Cap) × (l : Label) × (l ≡ Temp n) × F cap l
    by ty.Int m = absurd m
    by ty.Bool m = absurd m
    by (ty.Ref cap c) m =
        let one : m.object ≡ to.object = same_Some m.object to.object (sym m.there ∙ to.there) in
        (cap, m.object.label, ap (λ (o : Seen). o.label) one ∙ to.label, m.label_fits)

-- the windows beneath have lower numbers
below-number : (n : ℕ) (ws : List Opened) → ((i : ℕ) (u : Opened) → slice_get ws i ≡ Some u → u.number < n) → IsOpen ws (Temp n) → ⊥
below-number n [] h o = o
below-number n (u ∷ ws) h (inl e) = grind arith
below-number n (u ∷ ws) h (inr (inl e)) =
    let l = h 0 u refl in let same : n ≡ u.number = grind arith in omega (arith, l, same)
below-number n (u ∷ ws) h (inr (inr o)) = below-number n ws (λ i v g. h (suc i) v g) o

beneath-number : (w : Opened) (ws : List Opened) → Rising (w ∷ ws) → (l : Label) → l ≡ Temp w.number → IsOpen ws l → ⊥
beneath-number w ws r l e o =
    let P : Label → Type 0 = λ q. IsOpen ws q in below-number w.number ws (λ i u g. rising-below w ws r i u g) (subst P e o)

-- no variable in front of the window's base leads to one

slots-none : (store : List Seen) (w : Opened) (ws : List Opened) (test : Val → Truth) → Rising (w ∷ ws) →
    ((v : Val) → test v ≡ true → ToTemp store w.number v) → (fs : List Frame) (bs : List Body) → ShowsFrames fs bs → ValuesFit store (w ∷ ws) bs →
    FramesInFront w bs → list_any (λ (f : Frame). list_any test f.slots) fs ≡ false
slots-none store w ws test rising to [] bs h v front = refl
slots-none store w ws test rising to (f ∷ fs) [] h v front = absurd h
slots-none store w ws test rising to (f ∷ fs) (b ∷ bs) h v front =
    ap (λ t. t || list_any (λ (f : Frame). list_any test f.slots) fs)
    (none-passes test f.slots (λ i x at. refused test x (λ e. away i x at (to x e))))
    ∙ slots-none store w ws test rising to fs bs h.1 v.1 front.1
  where
    in_front : (i : ℕ) (l : Local) → slice_get b.locals i ≡ Some l → Meets store (windows_of (length bs) i ws) l.ty l.value
    in_front i l e =
        let P : Truth → Type 0 = λ c. Meets store (if c then w ∷ ws else windows_of (length bs) i ws) l.ty l.value in
        subst P (covers-not (length bs) i w (front.0 i l e)) (v.0 i l e)

    away : (i : ℕ) (x : Val) → slice_get f.slots i ≡ Some x → ToTemp store w.number x → ⊥
    away i x at t = elim (slot-local b.locals _ i x (ap (λ s. slice_get s i) (sym h.0) ∙ at)) [
      | inl n ↦ let no_obj : val.Nil ≡ val.Obj t.address = sym n ∙ t.value in grind arith
      | inr l ↦
          let P : Val → Type 0 = λ q. ToTemp store w.number q in
          let us = windows_of (length bs) i ws in
          let g = meets-label store (LabelFits us) l.local.ty l.local.value w.number (in_front i l.local l.there) (subst P (sym l.value) t) in
          beneath-number w ws rising g.1 g.2 (windows_of-open (length bs) i ws g.1 (temp-open us g.0 g.1 w.number g.2 g.3))
    ]

-- no field of what stays does

region-none : (r : ℕ) (cap : Cap) (l : Label) (n : ℕ) → l ≡ Temp n → RegionFieldFits r cap l → ⊥
region-none r Mut l n e h = let no_temp : Temp n ≡ Region r = sym e ∙ h in grind arith
region-none r Tmp l n e h = h
region-none r Paused l n e h = h
region-none r Imm l n e h = let no_temp : Temp n ≡ Frozen = sym e ∙ h in grind arith
region-none r Iso l n e h = none-some (ap region_of (sym e ∙ h.1))

field-none : (w : Opened) (ws : List Opened) → Rising (w ∷ ws) → (own : Label) →
    ((n : ℕ) → own ≡ Temp n → (n ≢ w.number) × In n (map (λ (u : Opened). u.number) (w ∷ ws))) → (cap : Cap) (l : Label) → l ≡ Temp w.number →
    FieldFits (w ∷ ws) own cap l → ⊥
field-none w ws rising (Region r) stays cap l e h = region-none r cap l w.number e h
field-none w ws rising Frozen stays cap l e h = let no_temp : Temp w.number ≡ Frozen = sym e ∙ h in grind arith
field-none w ws rising (Temp n) stays cap l e h =
    let other = stays n refl in
    let apart : (w.number == n) ≡ false = refused (λ k. k == n) w.number (λ x. other.0 (sym (eqb-true w.number n x))) in
    let P : Truth → Type 0 = λ b. TempFieldFits (if b then w ∷ ws else windows_from n ws) cap l in
    let Q : Truth → Type 0 = λ b. (if b then w ∷ ws else windows_from n ws) ≡ [] → ⊥ in
    let us = windows_from n ws in
    let some : us ≡ [] → ⊥ = subst Q apart (from-open (w ∷ ws) n other.1) in
    let fits : LabelFits us cap l = temp-label us some cap l (subst P apart h) in
    beneath-number w ws rising l e (windows_from-open n ws l (temp-open us cap l w.number e fits))

pub temps_may_go-fits : (classes : List Class) (m : Machine) (bodies : List Body) (w : Opened) (ws : List Opened) →
    ShowsFit classes m bodies (w ∷ ws) → FramesInFront w bodies → temps_may_go m ≡ true
temps_may_go-fits classes m bodies w ws d front = and_from _ _ (ap not slots) (ap not fields)
  where
    number-is : (vs : List Window) → ShowsWindows d.sizes vs (w ∷ ws) → top_window vs ≡ w.number
    number-is [] h = absurd h
    number-is (v ∷ vs) h = h.0.number

    top : top_window m.windows ≡ w.number
    top = number-is m.windows d.windows

    to : (v : Val) → is_to_temp m v ≡ true → ToTemp m.store w.number v
    to v e = let P : ℕ → Type 0 = λ n. ToTemp m.store n v in subst P top (to-temp m v e)

    slots : list_any (λ (f : Frame). list_any (is_to_temp m) f.slots) m.frames ≡ false
    slots = slots-none m.store w ws (is_to_temp m) d.fits.numbers.rising to m.frames bodies d.slots d.fits.values front

    stays : (l : Label) → outlives m l ≡ true → (n : ℕ) → l ≡ Temp n → (n ≢ w.number) × In n (map (λ (u : Opened). u.number) (w ∷ ws))
    stays (Region r) h n e = grind arith
    stays Frozen h n e = grind arith
    stays (Temp k) h n e = by (has_window m.windows k) (k == top_window m.windows) refl refl h
      where
        by : (a b : Truth) → has_window m.windows k ≡ a → (k == top_window m.windows) ≡ b → (a && not b) ≡ true →
            (n ≢ w.number) × In n (map (λ (u : Opened). u.number) (w ∷ ws))
        by false b x y h = absurd (true≢false (sym h))
        by true true x y h = absurd (true≢false (sym h))
        by true false x y h =
            let same : k ≡ n = grind arith in
            let P : ℕ → Type 0 = λ q. (q ≢ w.number) × In q (map (λ (u : Opened). u.number) (w ∷ ws)) in
            subst P same (
              λ z. eqb-false k (top_window m.windows) y (z ∙ sym top),
              shown-number d.sizes m.windows (w ∷ ws) k d.windows x,
            )

    held : (a : ℕ) (o : Seen) → slice_get m.store a ≡ Some o → (b : Truth) → outlives m o.label ≡ b → (b && list_any (is_to_temp m) o.fields) ≡ false
    held a o there false e = refl
    held a o there true e = none-passes (is_to_temp m) o.fields (λ k v at. refused (is_to_temp m) v (λ x.
        let s = field-meets classes m.store bodies (w ∷ ws) d.fits.values d.fits.objects a k o v there at in
        let g = meets-label m.store (FieldFits (w ∷ ws) o.label) (type_of classes s.field.ty) v w.number s.meets (to v x) in
        field-none w ws d.fits.numbers.rising o.label (stays o.label e) g.0 g.1 g.2 g.3))

    fields : list_any (λ (o : Seen). outlives m o.label && list_any (is_to_temp m) o.fields) m.store ≡ false
    fields = none-passes (λ (o : Seen). outlives m o.label && list_any (is_to_temp m) o.fields) m.store
        (λ a o there. held a o there (outlives m o.label) refl)
