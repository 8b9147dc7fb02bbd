-- Windows come and go over the same store and frames.
use Rattle.std.proofs.Common.{◌≡◌, ◌≢◌, refl, sym, ◌∙◌, ap, subst, ◌⊎◌, inl, inr, ℕ, zero, suc, ◌==◌, nat_lt, nat_le, ◌+◌, ◌<◌, ◌≤◌, Bool as Truth}
use Rattle.std.proofs.Common.{true, false, ◌||◌, ◌&&◌, if◌then◌else◌, List, [], ◌∷◌, length, Some, slice_get, arith}
use Rattle.std.proofs.lemmas.Option.{same_Some}
use Rattle.rg_base.specs.declared.words.Cap.{Cap}
use Rattle.rg_base.specs.declared.words.Cap.TheVariants.{Mut, Tmp, Paused, Imm, Iso}
use Rattle.rg_base.specs.declared.object.Label.{Label}
use Rattle.rg_base.specs.declared.object.Label.TheVariants.{Region, Temp, Frozen}
use Rattle.rg_base.specs.declared.object.Place.{Place}
use Rattle.rg_base.specs.declared.object.Seen.{Seen}
use Rattle.rg_base.specs.declared.value.Val.{Val}
use Rattle.rg_tree.specs.Tree.{Field as FieldOfClass, Class}
use Rattle.rg_rules.specs.Types.{type_of}
use Rattle.rg_rules.specs.State.{Local, Frame, Window}
use Rattle.rg_rules.specs.Owners.{leads_into}
use Rattle.rg_sound.specs.Windows.{covers, windows_of, windows_from}
use Rattle.rg_sound.specs.Values.{LabelFits, Meets, ValuesFit}
use Rattle.rg_sound.specs.Objects.{EndedFieldFits, TempFieldFits, FieldFits, FieldsMeet}
use Rattle.rg_sound.specs.OpenRegions.{IsNear, OneWindowEach}
use Rattle.rg_sound.specs.Numbers.{LabelGiven, WindowGiven, Rising}
use Rattle.rg_sound.proofs.Basics.{none-some}
use Rattle.rg_sound.proofs.Values.Value.{MeetsBy-map}
use Rattle.rg_sound.proofs.Owners.Data.{Data}

-- a window sees no variable in front of its base
pub covers-not : (n i : ℕ) (w : Window) → (n < w.base_frame) ⊎ ((n ≡ w.base_frame) × (i < w.base_place)) → covers n i w ≡ false
covers-not n i w (inl l) = both (nat_lt w.base_frame n) (w.base_frame == n) (nat_le w.base_place i) (grind arith) (inl (grind arith))
  where
    both : (a b c : Truth) → a ≡ false → (b ≡ false) ⊎ (c ≡ false) → (a || (b && c)) ≡ false
    both true b c e h = grind arith
    both false true true e (inl h) = grind arith
    both false true true e (inr h) = grind arith
    both false true false e h = refl
    both false false c e h = refl
covers-not n i w (inr l) = both (nat_lt w.base_frame n) (w.base_frame == n) (nat_le w.base_place i) (let e = l.0 in grind arith)
    (inr (let e = l.1 in grind arith))
  where
    both : (a b c : Truth) → a ≡ false → (b ≡ false) ⊎ (c ≡ false) → (a || (b && c)) ≡ false
    both true b c e h = grind arith
    both false true true e (inl h) = grind arith
    both false true true e (inr h) = grind arith
    both false true false e h = refl
    both false false c e h = refl

-- the variables of frames stand in front of a window's base
abbrev pub FramesInFront : Window → List Frame → Type 0
FramesInFront w [] = Unit {0}
FramesInFront w (f ∷ fs) = ((i : ℕ) (l : Local) → slice_get f.locals i ≡ Some l →
    (length fs < w.base_frame) ⊎ ((length fs ≡ w.base_frame) × (i < w.base_place))) × FramesInFront w fs

pub lower-in_front : (w : Window) (fs : List Frame) → length fs ≤ w.base_frame → FramesInFront w fs
lower-in_front w [] l = tt
lower-in_front w (f ∷ fs) l = (λ i g e. inl (omega (arith, l)), lower-in_front w fs (omega (arith, l)))

-- their values meet their types with the window and without it
values-push : (store : List Seen) (w : Window) (ws : List Window) (fs : List Frame) → FramesInFront w fs → ValuesFit store ws fs →
    ValuesFit store (w ∷ ws) fs
values-push store w ws [] h v = tt
values-push store w ws (f ∷ fs) h v =
    (λ i l e. let c = covers-not (length fs) i w (h.0 i l e) in rw c (v.0 i l e), values-push store w ws fs h.1 v.1)

values-pop : (store : List Seen) (w : Window) (ws : List Window) (fs : List Frame) → FramesInFront w fs → ValuesFit store (w ∷ ws) fs →
    ValuesFit store ws fs
values-pop store w ws [] h v = tt
values-pop store w ws (f ∷ fs) h v = (
  λ i l e.
      let P : Truth → Type 0 = λ b. Meets store (if b then w ∷ ws else windows_of (length fs) i ws) l.ty l.value in
      subst P (covers-not (length fs) i w (h.0 i l e)) (v.0 i l e),
  values-pop store w ws fs h.1 v.1,
)

pub FieldsMeet-map : (classes : List Class) (store : List Seen) (F G : Cap → Label → Type 0) (fs : List FieldOfClass) (vs : List Val) →
    ((k : Cap) (l : Label) → F k l → G k l) →
    FieldsMeet classes store F fs vs → FieldsMeet classes store G fs vs
FieldsMeet-map classes store F G [] [] g h = tt
FieldsMeet-map classes store F G [] (v ∷ vs) g h = h
FieldsMeet-map classes store F G (f ∷ fs) [] g h = h
FieldsMeet-map classes store F G (f ∷ fs) (v ∷ vs) g h = (
  MeetsBy-map store F G (type_of classes f.ty) v g h.0,
  FieldsMeet-map classes store F G fs vs g h.1,
)

-- A window goes

ended-fits : (w : Window) (ws : List Window) (k : Cap) (l : Label) → LabelFits (w ∷ ws) k l → EndedFieldFits k l
ended-fits w ws Mut l h = tt
ended-fits w ws Tmp l h = tt
ended-fits w ws Paused l h = tt
ended-fits w ws Imm l h = tt
ended-fits w ws Iso l h = h

-- below a window no other has its number
rising-from : (n : ℕ) (ws : List Window) → ((i : ℕ) (u : Window) → slice_get ws i ≡ Some u → u.number < n) → windows_from n ws ≡ []
rising-from n [] h = refl
rising-from n (u ∷ ws) h =
    let l = h 0 u refl in
    let e : (u.number == n) ≡ false = grind arith in rw e (rising-from n ws (λ i v g. h (suc i) v g))

pub rising-below : (w : Window) (ws : List Window) → Rising (w ∷ ws) → (i : ℕ) (u : Window) → slice_get ws i ≡ Some u → u.number < w.number
rising-below w [] h i u g = none-some g
rising-below w (v ∷ ws) h zero u g = let same : v ≡ u = same_Some v u g in rw (← same) h.0
rising-below w (v ∷ ws) h (suc i) u g = let l = rising-below v ws h.1 i u g in omega (arith, l, h.0)

rising-tail : (w : Window) (ws : List Window) → Rising (w ∷ ws) → Rising ws
rising-tail w [] h = tt
rising-tail w (v ∷ ws) h = h.1

field-pop : (w : Window) (ws : List Window) → Rising (w ∷ ws) → (own : Label) (k : Cap) (l : Label) → FieldFits (w ∷ ws) own k l →
    FieldFits ws own k l
field-pop w ws r (Region q) k l h = h
field-pop w ws r (Temp n) k l h = by (w.number == n) refl h
  where
    by : (b : Truth) → (w.number == n) ≡ b → TempFieldFits (if b then w ∷ ws else windows_from n ws) k l → TempFieldFits (windows_from n ws) k l
    by true e g =
        let same : w.number ≡ n = grind arith in
        let none : windows_from n ws ≡ [] = rising-from n ws (λ i u q. let s = rising-below w ws r i u q in omega (arith, same, s)) in
        let P : List Window → Type 0 = λ q. TempFieldFits q k l in subst P (sym none) (ended-fits w ws k l g)
    by false e g = g
field-pop w ws r Frozen k l h = h

pub pop-window : (classes : List Class) (store : List Seen) (frames : List Frame) (w v : Window) (ws : List Window) (regions made : ℕ) →
    Data classes store frames (w ∷ v ∷ ws) regions made → FramesInFront w frames → Data classes store frames (v ∷ ws) regions made
pop-window classes store frames w v ws regions made d front = record {
  values = values-pop store w (v ∷ ws) frames front d.values;
  objects = λ a o e. let f = d.objects a o e in record {
    class = f.class;
    class_is = f.class_is;
    label_is = f.label_is;
    fields = FieldsMeet-map classes store (FieldFits (w ∷ v ∷ ws) o.label) (FieldFits (v ∷ ws) o.label) _ o.fields
        (field-pop w (v ∷ ws) d.numbers.rising o.label) f.fields;
    array = f.array;
  };
  opened = record {
    owned = d.opened.owned.1;
    one_each = λ i j u x a b c. suc-same i j (d.opened.one_each (suc i) (suc j) u x a b c);
  };
  forest = d.forest;
  numbers = record {
    labels = d.numbers.labels;
    given = λ i u e. d.numbers.given (suc i) u e;
    rising = rising-tail w (v ∷ ws) d.numbers.rising;
  };
}
  where
    suc-same : (i j : ℕ) → suc i ≡ suc j → i ≡ j
    suc-same i j e = omega (arith, e)

-- A window comes

-- a new window: its number is the next one, its region isn't open, and its owner is where it says
pub record IsNew (classes : List Class) (store : List Seen) (frames : List Frame) (w v : Window) (ws : List Window) (made : ℕ) : Type 0 where
  pub number : w.number ≡ made
  pub place : Place
  pub named : w.owner ≡ Some place
  pub near : IsNear store w v place
  pub leads : leads_into classes store frames place ≡ Some w.region
  pub not_open : (i : ℕ) (u : Window) → slice_get (v ∷ ws) i ≡ Some u → u.region ≢ w.region

field-push : (w : Window) (ws : List Window) (own : Label) (regions made : ℕ) → w.number ≡ made → LabelGiven regions made own →
    (k : Cap) (l : Label) → FieldFits ws own k l →
    FieldFits (w ∷ ws) own k l
field-push w ws (Region r) regions made n g k l h = h
field-push w ws (Temp m) regions made n g k l h = let e : (w.number == m) ≡ false = grind arith in rw e h
field-push w ws Frozen regions made n g k l h = h

pub push-window : (classes : List Class) (store : List Seen) (frames : List Frame) (w v : Window) (ws : List Window) (regions made : ℕ) →
    Data classes store frames (v ∷ ws) regions made → FramesInFront w frames → w.region < regions → IsNew classes store frames w v ws made →
    Data classes store frames (w ∷ v ∷ ws) regions (made + 1)
push-window classes store frames w v ws regions made d front below is = record {
  values = values-push store w (v ∷ ws) frames front d.values;
  objects = λ a o e. let f = d.objects a o e in record {
    class = f.class;
    class_is = f.class_is;
    label_is = f.label_is;
    fields = FieldsMeet-map classes store (FieldFits (v ∷ ws) o.label) (FieldFits (w ∷ v ∷ ws) o.label) _ o.fields
        (field-push w (v ∷ ws) o.label regions made is.number (d.numbers.labels a o e)) f.fields;
    array = f.array;
  };
  opened = record {
    owned = (
      record {
        place = is.place;
        named = is.named;
        near = is.near;
        exact = λ p. (
          λ h. d.forest.one_owner p is.place w.region h is.leads,
          λ h. let P : Place →
              Type 0 = λ q. leads_into classes store frames q ≡ Some w.region in subst P (sym h) is.leads,
        );
      },
      d.opened.owned,
    );
    one_each = each;
  };
  forest = d.forest;
  numbers = record {
    labels = λ a o e. more-given o.label (d.numbers.labels a o e);
    given = given;
    rising = (let g = (d.numbers.given 0 v refl).number in rw is.number g, d.numbers.rising);
  };
}
  where
    more-given : (l : Label) → LabelGiven regions made l → LabelGiven regions (made + 1) l
    more-given (Region r) h = h
    more-given (Temp n) h = omega (arith, h)
    more-given Frozen h = tt

    given : (i : ℕ) (u : Window) → slice_get (w ∷ v ∷ ws) i ≡ Some u → WindowGiven regions (made + 1) u
    given zero u e = let same : w ≡ u = same_Some w u e in rw (← same) (record { region = below; number = let n = is.number in omega (arith, n) })
    given (suc i) u e = let g = d.numbers.given i u e in record { region = g.region; number = let n = g.number in omega (arith, n) }

    each : OneWindowEach (w ∷ v ∷ ws)
    each zero zero u x a b c = refl
    each zero (suc j) u x a b c = let same : w ≡ u = same_Some w u a in absurd (is.not_open j x b (sym c ∙ ap (λ (q : Window). q.region) (sym same)))
    each (suc i) zero u x a b c = let same : w ≡ x = same_Some w x b in absurd (is.not_open i u a (c ∙ ap (λ (q : Window). q.region) (sym same)))
    each (suc i) (suc j) u x a b c = ap suc (d.opened.one_each i j u x a b c)
