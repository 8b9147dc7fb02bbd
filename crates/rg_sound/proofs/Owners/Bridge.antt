-- The variables of bridges, and the types of what owns their regions, stay where variables keep their types and objects their classes.
use Rattle.std.proofs.Common.{◌≡◌, ◌≢◌, refl, sym, ◌∙◌, ap, subst, ◌⊎◌, inl, inr, ℕ, zero, suc, ◌<◌, ◌≤◌, take, map, List, [], ◌∷◌, ◌++◌, length}
use Rattle.std.proofs.Common.{Option, Some, None, option_map}
use Rattle.std.proofs.Common.{option_and_then, slice_get, slice_set, arith}
use Rattle.std.proofs.lemmas.Option.{slice_get_within, same_Some}
use Rattle.std.proofs.lemmas.Bool.{cases_eq}
use Rattle.rg_base.specs.declared.words.Cap.TheVariants.{Mut, Iso}
use Rattle.rg_base.specs.declared.ty.Ty.{Ty}
use Rattle.rg_base.specs.declared.ty.Ty.TheVariants.{Ref}
use Rattle.rg_base.specs.declared.object.Label.{Label}
use Rattle.rg_base.specs.declared.object.Place.{Place}
use Rattle.rg_base.specs.declared.object.Place.TheVariants.{Var, Field}
use Rattle.rg_base.specs.declared.object.Seen.{Seen}
use Rattle.rg_tree.specs.Tree.{Path, Field as FieldOfClass, Class, Tree}
use Rattle.rg_tree.proofs.TreesFrom.{slice_get-push}
use Rattle.rg_rules.specs.Types.{type_of, fields_of}
use Rattle.rg_rules.specs.Environment.{Entry}
use Rattle.rg_rules.specs.Regions.{relabelled, relabelled_object}
use Rattle.rg_rules.specs.State.{Local, Target, Frame, Window}
use Rattle.rg_rules.specs.Items.{Item}
use Rattle.rg_rules.specs.Bodies.{Body}
use Rattle.rg_rules.proofs.Region.{slice_get-relabelled, class-relabelled_object}
use Rattle.rg_sound.specs.Frames.{Named, Entered, Beneath}
use Rattle.rg_sound.specs.Bridges.{local_type, type_at, IsBridged, BridgesFit}
use Rattle.rg_sound.proofs.Basics.{none-some}
use Rattle.rg_sound.proofs.Owners.Owner.{get-set, get-set-other, get-snoc-other, frame_at-top, frame_at-lower, frame_at-past}
use Rattle.rg_sound.proofs.Owners.Owner.{AllOwners, get-take-within}
use Rattle.rg_sound.proofs.Frames.Below.{AllBelow}
use Rattle.rg_sound.proofs.Frames.Stands.{Grounded, grounded-under, IsBefore, IsElsewhere}

-- each object is still there, with its class
abbrev pub KeepsClasses : List Seen → List Seen → Type 0
KeepsClasses old new = (a : ℕ) (o : Seen) → slice_get old a ≡ Some o → (n : Seen) × (slice_get new a ≡ Some n) × (n.class ≡ o.class)

pub classes-same : (store : List Seen) → KeepsClasses store store
classes-same store a o e = (o, e, refl)

pub classes-then : (a b c : List Seen) → KeepsClasses a b → KeepsClasses b c → KeepsClasses a c
classes-then a b c k h i o e = let n = k i o e in let m = h i n.0 n.1 in (m.0, m.1, m.2 ∙ n.2)

pub classes-set : (store : List Seen) (a : ℕ) (o n : Seen) → slice_get store a ≡ Some o → n.class ≡ o.class → KeepsClasses store (slice_set store a n)
classes-set store a o n there class b p e = elim (cases_eq b a) [
  | inl at ↦
      let one : o ≡ p = same_Some o p (sym there ∙ ap (slice_get store) (sym at) ∙ e) in
      (n, ap (slice_get (slice_set store a n)) at ∙ get-set store a n o there, class ∙ ap (λ (q : Seen). q.class) one)
  | inr away ↦ (p, get-set-other store a b n away ∙ e, refl)
]

pub classes-more : (store : List Seen) (n : Seen) → KeepsClasses store (store ++ n ∷ [])
classes-more store n a o e =
    (o, get-snoc-other store n a (λ at. let l = slice_get_within store a o e in absurd (omega (arith, l, at))) ∙ e, refl)

pub classes-relabelled : (regions : List ℕ) (label : Label) (store : List Seen) → KeepsClasses store (relabelled regions label store)
classes-relabelled regions label store a o e = (
  relabelled_object regions label o,
  slice_get-relabelled regions label store a ∙ ap (option_map (relabelled_object regions label)) e,
  class-relabelled_object regions label o,
)

-- the variables of a frame are there with their types
abbrev pub KeepsTypes : List Local → List Local → Type 0
KeepsTypes old new = (i : ℕ) (l : Local) → slice_get old i ≡ Some l → (m : Local) × (slice_get new i ≡ Some m) × (m.ty ≡ l.ty)

pub types-same : (ls : List Local) → KeepsTypes ls ls
types-same ls i l e = (l, e, refl)

pub types-snoc : (old new : List Local) (l : Local) → KeepsTypes old new → KeepsTypes old (new ++ l ∷ [])
types-snoc old new l k i m e =
    let n = k i m e in
    (n.0, get-snoc-other new l i (λ at. let w = slice_get_within new i n.0 n.1 in absurd (omega (arith, w, at))) ∙ n.1, n.2)

-- variables of the same entries have the same types
pub named-types : (es : List Entry) (ls ms : List Local) → Named es ls → Named es ms → KeepsTypes ls ms
named-types [] [] ms h k i l e = none-some e
named-types [] (x ∷ ls) ms h k i l e = absurd h
named-types (o ∷ es) [] ms h k i l e = none-some e
named-types (o ∷ es) (x ∷ ls) [] h k i l e = absurd k
named-types (o ∷ es) (x ∷ ls) (y ∷ ms) h k zero l e = (y, refl, k.1 ∙ sym h.1 ∙ ap (λ (q : Local). q.ty) (same_Some x l e))
named-types (o ∷ es) (x ∷ ls) (y ∷ ms) h k (suc i) l e = named-types es ls ms h.2 k.2 i l e

-- the variable of an entry
pub named-local : (es : List Entry) (ls : List Local) (i : ℕ) (e : Entry) → Named es ls → slice_get es i ≡ Some e →
    (l : Local) × (slice_get ls i ≡ Some l) × (l.ty ≡ e.ty)
named-local [] ls i e h g = none-some g
named-local (o ∷ es) [] i e h g = absurd h
named-local (o ∷ es) (x ∷ ls) zero e h g = (x, refl, h.1 ∙ ap (λ (q : Entry). q.ty) (same_Some o e g))
named-local (o ∷ es) (x ∷ ls) (suc i) e h g = named-local es ls i e h.2 g

-- the variables of frames are there with their types
abbrev pub FramesKeep : List Frame → List Frame → Type 0
FramesKeep before after = (n i : ℕ) (t : Ty) → local_type before n i ≡ Some t → local_type after n i ≡ Some t

pub local_type-top : (f : Frame) (fs : List Frame) (i : ℕ) →
    local_type (f ∷ fs) (length fs) i ≡ option_map (λ (l : Local). l.ty) (slice_get f.locals i)
local_type-top f fs i =
    ap (λ (q : Option Frame). option_map (λ (l : Local). l.ty) (option_and_then (λ (g : Frame). slice_get g.locals i) q)) (frame_at-top f fs)

pub local_type-lower : (f : Frame) (fs : List Frame) (n i : ℕ) → n ≢ length fs → local_type (f ∷ fs) n i ≡ local_type fs n i
local_type-lower f fs n i away =
    ap (λ (q : Option Frame). option_map (λ (l : Local). l.ty) (option_and_then (λ (g : Frame). slice_get g.locals i) q)) (frame_at-lower f fs n away)

pub some-local : (o : Option Local) (t : Ty) → option_map (λ (l : Local). l.ty) o ≡ Some t → (l : Local) × (o ≡ Some l) × (l.ty ≡ t)
some-local None t h = none-some h
some-local (Some l) t h = (l, refl, same_Some l.ty t h)

pub top-keeps : (f g : Frame) (fs : List Frame) → KeepsTypes f.locals g.locals → FramesKeep (f ∷ fs) (g ∷ fs)
top-keeps f g fs k n i t h = elim (cases_eq n (length fs)) [
  | inl here ↦
      let l = some-local (slice_get f.locals i) t (sym (local_type-top f fs i) ∙ ap (λ q. local_type (f ∷ fs) q i) (sym here) ∙ h) in
      let m = k i l.0 l.1 in
      ap (λ q. local_type (g ∷ fs) q i) here ∙ local_type-top g fs i ∙ ap (option_map (λ (l : Local). l.ty)) m.1 ∙ ap Some (m.2 ∙ l.2)
  | inr away ↦ local_type-lower g fs n i away ∙ sym (local_type-lower f fs n i away) ∙ h
]

pub type-kept : (classes : List Class) (old new : List Seen) (before after : List Frame) → KeepsClasses old new → FramesKeep before after →
    (p : Place) (t : Ty) → type_at classes old before p ≡ Some t → type_at classes new after p ≡ Some t
type-kept classes old new before after k f (Var n i) t h = f n i t h
type-kept classes old new before after k f (Field a j) t h = by (slice_get old a) refl h
  where
    by : (o : Option Seen) → slice_get old a ≡ o → option_map (λ (f : FieldOfClass). type_of classes f.ty)
        (option_and_then (λ (q : Seen). slice_get (fields_of classes q.class) j) o) ≡ Some t → type_at classes new after (Field a j) ≡ Some t
    by None e g = none-some g
    by (Some o) e g =
        let n = k a o e in
        ap (λ (q : Option Seen). option_map (λ (f : FieldOfClass). type_of classes f.ty)
        (option_and_then (λ (q : Seen). slice_get (fields_of classes q.class) j) q)) n.1
        ∙ ap (λ q. option_map (λ (f : FieldOfClass). type_of classes f.ty) (slice_get (fields_of classes q) j)) n.2 ∙ g

pub bridges-come : (classes : List Class) (old new : List Seen) (before after : List Frame) (ws : List Window) → KeepsClasses old new →
    FramesKeep before after → BridgesFit classes old before ws → BridgesFit classes new after ws
bridges-come classes old new before after ws k f b i w p at named =
    let q = b i w p at named in
    record {
      class = q.class;
      owner_is = type-kept classes old new before after k f p (Ref Iso q.class) q.owner_is;
      bridge_is = f w.base_frame w.base_place (Ref Mut q.class) q.bridge_is;
    }

-- where only the topmost frame's variables change
pub bridges-top : (classes : List Class) (old new : List Seen) (f g : Frame) (fs : List Frame) (ws : List Window) → KeepsClasses old new →
    KeepsTypes f.locals g.locals → BridgesFit classes old (f ∷ fs) ws → BridgesFit classes new (g ∷ fs) ws
bridges-top classes old new f g fs ws k t b = bridges-come classes old new (f ∷ fs) (g ∷ fs) ws k (top-keeps f g fs t) b

-- Ends

-- the variables of windows' bridges, and their owners', are there with their types
abbrev pub WindowsKeep : List Window → List Frame → List Frame → Type 0
WindowsKeep [] before after = Unit {0}
WindowsKeep (w ∷ ws) before after =
    ((p : Place) → w.owner ≡ Some p → ((t : Ty) → local_type before w.base_frame w.base_place ≡ Some t →
    local_type after w.base_frame w.base_place ≡ Some t)
    × ((n i : ℕ) (t : Ty) → p ≡ Var n i → local_type before n i ≡ Some t → local_type after n i ≡ Some t))
    × WindowsKeep ws before after

windows-keep-at : (ws : List Window) (before after : List Frame) → WindowsKeep ws before after → (i : ℕ) (w : Window) → slice_get ws i ≡ Some w →
    (p : Place) → w.owner ≡ Some p → ((t : Ty) → local_type before w.base_frame w.base_place ≡ Some t →
    local_type after w.base_frame w.base_place ≡ Some t)
    × ((n i : ℕ) (t : Ty) → p ≡ Var n i → local_type before n i ≡ Some t → local_type after n i ≡ Some t)
windows-keep-at [] before after h i w at p named = none-some at
windows-keep-at (x ∷ ws) before after h zero w at p named =
    let same : x ≡ w = same_Some x w at in
    let P : Window → Type 0 = λ q. (p : Place) → q.owner ≡ Some p → ((t : Ty) → local_type before q.base_frame q.base_place ≡ Some t →
    local_type after q.base_frame q.base_place ≡ Some t) × ((n i : ℕ) (t : Ty) → p ≡ Var n i → local_type before n i ≡ Some t →
    local_type after n i ≡ Some t) in
    subst P same h.0 p named
windows-keep-at (x ∷ ws) before after h (suc i) w at p named = windows-keep-at ws before after h.1 i w at p named

-- where variables go that no window needs
pub bridges-end : (classes : List Class) (store : List Seen) (before after : List Frame) (ws : List Window) → WindowsKeep ws before after →
    BridgesFit classes store before ws → BridgesFit classes store after ws
bridges-end classes store before after ws k b i w p at named =
    let q = b i w p at named in
    let h = windows-keep-at ws before after k i w at p named in
    record { class = q.class; owner_is = owner p q.class h.1 q.owner_is; bridge_is = h.0 (Ref Mut q.class) q.bridge_is }
  where
    owner : (p : Place) (c : ℕ) → ((n i : ℕ) (t : Ty) → p ≡ Var n i → local_type before n i ≡ Some t → local_type after n i ≡ Some t) →
        type_at classes store before p ≡ Some (Ref Iso c) → type_at classes store after p ≡ Some (Ref Iso c)
    owner (Var n i) c h e = h n i (Ref Iso c) refl e
    owner (Field a j) c h e = e

-- a window goes
pub bridges-pop : (classes : List Class) (store : List Seen) (frames : List Frame) (w : Window) (ws : List Window) →
    BridgesFit classes store frames (w ∷ ws) → BridgesFit classes store frames ws
bridges-pop classes store frames w ws b i u p at named = b (suc i) u p at named

-- a frame comes
pub bridges-push : (classes : List Class) (store : List Seen) (f : Frame) (fs : List Frame) (ws : List Window) →
    BridgesFit classes store fs ws → BridgesFit classes store (f ∷ fs) ws
bridges-push classes store f fs ws b = bridges-come classes store store fs (f ∷ fs) ws (classes-same store) keep b
  where
    keep : FramesKeep fs (f ∷ fs)
    keep n i t h = elim (cases_eq n (length fs)) [
      | inl here ↦ none-some (sym (ap (λ (q : Option Frame). option_map (λ (l : Local). l.ty) (option_and_then (λ (g : Frame). slice_get g.locals i)
          q))
          (frame_at-past fs n (omega (arith, here)))) ∙ h)
      | inr away ↦ local_type-lower f fs n i away ∙ h
    ]

-- a window begins in another frame, or in front of a place
abbrev pub AllCut : (frame place : ℕ) → List Window → Type 0
AllCut n k [] = Unit {0}
AllCut n k (w ∷ ws) = ((p : Place) → w.owner ≡ Some p → (w.base_frame ≢ n) ⊎ (w.base_place < k)) × AllCut n k ws

pub AllCut-append : (n k : ℕ) (own under : List Window) → AllCut n k own → AllCut n k under → AllCut n k (own ++ under)
AllCut-append n k [] under h u = u
AllCut-append n k (w ∷ own) under h u = (h.0, AllCut-append n k own under h.1 u)

pub own-cut : (n k : ℕ) (own : List Window) → AllBelow k (map (λ (w : Window). w.base_place) own) → AllCut n k own
own-cut n k [] h = tt
own-cut n k (w ∷ own) h = (λ p e. inr h.0, own-cut n k own h.1)

entered-cut : (n k m : ℕ) (ls : List Local) (ps : List Path) (own : List Window) → Entered m ls ps own → n ≢ m → AllCut n k own
entered-cut n k m ls [] [] h away = tt
entered-cut n k m ls [] (w ∷ own) h away = absurd h
entered-cut n k m ls (p ∷ ps) [] h away = tt
entered-cut n k m ls (p ∷ ps) (w ∷ own) h away = (λ q e. inl (λ same. away (sym same ∙ h.0)), entered-cut n k m ls ps own h.2 away)

-- windows that were opened beneath a frame begin in other frames
pub beneath-cut : (t : Tree) (fs : List Frame) (ws : List Window) (items : List Item) (b : Body) (target : Target) →
    Beneath t fs ws items b target → Grounded ws → (n k : ℕ) → length fs ≤ n → AllCut n k ws
beneath-cut t [] ws items b target h ground n k l =
    let P : List Window → Type 0 = λ q. Grounded q in
    let Q : List Window → Type 0 = λ q. AllCut n k q in
    subst Q (sym h.2.2) (λ p e. none-some (sym (subst P h.2.2 ground) ∙ e), tt)
beneath-cut t (f ∷ fs) ws items b target h ground n k l =
    let P : List Window → Type 0 = λ q. Grounded q in
    let Q : List Window → Type 0 = λ q. AllCut n k q in
    let other : n ≢ length fs = λ e. absurd (omega (arith, e, l)) in
    let under = beneath-cut t fs h.2 h.4 h.0 f.target h.8 (grounded-under h.1 h.2 (subst P h.5 ground)) n k (omega (arith, l)) in
    let own : AllCut n k h.1 = elim (h.7) [
      | inl w ↦ entered-cut n k (length fs) f.locals _ h.1 w.stands.entered other
      | inr w ↦ subst Q (sym w.no_window) tt
    ] in subst Q (sym h.5) (AllCut-append n k h.1 h.2 own under)

-- the last variables of the topmost frame go
local-cut : (f g : Frame) (fs : List Frame) (k : ℕ) → g.locals ≡ take k f.locals → (n i : ℕ) (t : Ty) → (n ≢ length fs) ⊎ (i < k) →
    local_type (f ∷ fs) n i ≡ Some t → local_type (g ∷ fs) n i ≡ Some t
local-cut f g fs k is n i t away h = elim (cases_eq n (length fs)) [
  | inr other ↦ local_type-lower g fs n i other ∙ sym (local_type-lower f fs n i other) ∙ h
  | inl here ↦ elim away [
    | inl other ↦ absurd (other here)
    | inr within ↦
        ap (λ q. local_type (g ∷ fs) q i) here ∙ local_type-top g fs i
        ∙ ap (λ (q : List Local). option_map (λ (l : Local). l.ty) (slice_get q i)) is
        ∙ ap (option_map (λ (l : Local). l.ty)) (get-take-within k f.locals i within)
        ∙ sym (local_type-top f fs i) ∙ ap (λ q. local_type (f ∷ fs) q i) (sym here) ∙ h
  ]
]

pub cut-keeps : (f g : Frame) (fs : List Frame) (k : ℕ) (ws : List Window) → g.locals ≡ take k f.locals → AllCut (length fs) k ws →
    AllOwners ws (IsBefore (length fs) k) → WindowsKeep ws (f ∷ fs) (g ∷ fs)
cut-keeps f g fs k [] is c b = tt
cut-keeps f g fs k (w ∷ ws) is c b = (
  λ p e. (
    λ t h. local-cut f g fs k is w.base_frame w.base_place t (c.0 p e) h,
    λ n i t same h. let P : Place → Type 0 = λ q. IsBefore (length fs) k q in local-cut f g fs k is n i t (subst P same (b.0 p e)) h,
  ),
  cut-keeps f g fs k ws is c.1 b.1,
)

-- the topmost frame goes
pub pop-keeps : (f : Frame) (fs : List Frame) (ws : List Window) → AllCut (length fs) 0 ws → AllOwners ws (IsElsewhere (length fs)) →
    WindowsKeep ws (f ∷ fs) fs
pop-keeps f fs [] c b = tt
pop-keeps f fs (w ∷ ws) c b = (
  λ p e. (
    λ t h. elim (c.0 p e) [
      | inl away ↦ sym (local_type-lower f fs w.base_frame w.base_place away) ∙ h
      | inr none ↦ absurd (omega (arith, none))
    ],
    λ n i t same h. let P : Place → Type 0 = λ q. IsElsewhere (length fs) q in
        sym (local_type-lower f fs n i (subst P same (b.0 p e))) ∙ h,
  ),
  pop-keeps f fs ws c.1 b.1,
)

-- a window comes, with the variable of its bridge
pub bridges-enter : (classes : List Class) (store : List Seen) (f : Frame) (fs : List Frame) (w : Window) (ws : List Window) (place : Place) (c : ℕ)
    (l : Local) → l.ty ≡ Ref Mut c → w.owner ≡ Some place → w.base_frame ≡ length fs → w.base_place ≡ length f.locals →
    type_at classes store (f ∷ fs) place ≡ Some (Ref Iso c) → BridgesFit classes store (f ∷ fs) ws →
    BridgesFit classes store (record f { locals = f.locals ++ l ∷ [] } ∷ fs) (w ∷ ws)
bridges-enter classes store f fs w ws place c l ty owner base_frame base_place owner_ty b = fits
  where
    g : Frame
    g = record f { locals = f.locals ++ l ∷ [] }

    keep : KeepsTypes f.locals g.locals
    keep = types-snoc f.locals f.locals l (types-same f.locals)

    first : IsBridged classes store (g ∷ fs) w place
    first = record {
      class = c;
      owner_is = type-kept classes store store (f ∷ fs) (g ∷ fs) (classes-same store) (top-keeps f g fs keep) place (Ref Iso c) owner_ty;
      bridge_is = ap (λ q. local_type (g ∷ fs) q w.base_place) base_frame ∙ ap (local_type (g ∷ fs) (length fs)) base_place
          ∙ local_type-top g fs (length f.locals) ∙ ap (option_map (λ (q : Local). q.ty)) (slice_get-push f.locals l) ∙ ap Some ty;
    }

    fits : BridgesFit classes store (g ∷ fs) (w ∷ ws)
    fits zero u p at named =
        let same : w ≡ u = same_Some w u at in
        let one : place ≡ p = same_Some place p (sym owner ∙ ap (λ (q : Window). q.owner) same ∙ named) in
        let P : Window → Type 0 = λ q. IsBridged classes store (g ∷ fs) q p in
        let Q : Place → Type 0 = λ q. IsBridged classes store (g ∷ fs) w q in subst P same (subst Q one first)
    fits (suc i) u p at named = bridges-top classes store store f g fs ws (classes-same store) keep b i u p at named
