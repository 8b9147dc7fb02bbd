-- A frame that stands at a spot: its windows, their owners, and the same frame at the next spot.
use Rattle.std.proofs.Common.{◌≡◌, ◌≢◌, refl, sym, ◌∙◌, ap, subst, ◌⊎◌, inl, inr, ◌↔◌, ℕ, zero, suc, ◌==◌, nat_lt, nat_le, ◌<◌, ◌≤◌, Bool as Truth}
use Rattle.std.proofs.Common.{true, false, ◌||◌, ◌&&◌, if◌then◌else◌, List, [], ◌∷◌, ◌++◌, length, take, map, reverse, Option, Some, None, slice_get}
use Rattle.std.proofs.Common.{arith}
use Rattle.std.proofs.lemmas.Option.{slice_get_within, same_Some}
use Rattle.rg_base.specs.declared.ty.Ty.{Ty}
use Rattle.rg_base.specs.declared.object.Place.{Place}
use Rattle.rg_base.specs.declared.object.Place.TheVariants.{Var, Field}
use Rattle.rg_base.specs.declared.object.Seen.{Seen}
use Rattle.rg_tree.specs.Tree.{Name, Variable, Path, Class, Tree}
use Rattle.rg_rules.specs.Environment.{Env, Entry, Readiness, ready, gone, lent, with_variable}
use Rattle.rg_rules.specs.Items.{Item}
use Rattle.rg_rules.specs.Bodies.{Body}
use Rattle.rg_rules.specs.Points.{Spot}
use Rattle.rg_rules.specs.State.{Local, Frame, Window, Target}
use Rattle.rg_sound.specs.Windows.{covers, covering, windows_of, lowest}
use Rattle.rg_sound.specs.OpenRegions.{IsNear, AllOwned}
use Rattle.rg_sound.specs.Frames.{Named, IsNamed, Enters, Entered, leaves, Lends, Stands, Beneath}
use Rattle.rg_sound.proofs.Basics.{none-some}
use Rattle.rg_sound.proofs.Frames.Entry.{settled_readiness, Keeps, Keeps-at, Keeps-flip, Stays}
use Rattle.rg_sound.proofs.Frames.Named.{Named-length, Named-snoc, Named-at, Named-entry}
use Rattle.rg_sound.proofs.Frames.Spot.{AllWithin}
use Rattle.rg_sound.proofs.Owners.Owner.{get-snoc-other, get-take-within, AllOwners, AllOwners-map}

-- Windows over one another

-- a place is a variable in front of a window's base, or a field
abbrev pub InFront : Window → Place → Type 0
InFront w (Var n i) = (n < w.base_frame) ⊎ ((n ≡ w.base_frame) × (i < w.base_place))
InFront w (Field a k) = Unit {0}

abbrev pub AllInFront : List Window → Type 0
AllInFront [] = Unit {0}
AllInFront (w ∷ ws) = ((p : Place) → w.owner ≡ Some p → InFront w p) × AllInFront ws

near-front : (store : List Seen) (w v : Window) (p : Place) → IsNear store w v p → InFront w p
near-front store w v (Var n i) h = h
near-front store w v (Field a k) h = tt

pub owned-front : (classes : List Class) (store : List Seen) (frames : List Frame) (ws : List Window) → AllOwned classes store frames ws →
    AllInFront ws
owned-front classes store frames [] h = tt
owned-front classes store frames (w ∷ []) h = (λ p e. none-some (sym h.1 ∙ e), tt)
owned-front classes store frames (w ∷ v ∷ ws) h =
    let o = h.0 in (
      λ p e. let same : o.place ≡ p = same_Some o.place p (sym o.named ∙ e) in let P : Place → Type 0 = λ q. InFront w q in
          subst P same (near-front store w v o.place o.near),
      owned-front classes store frames (v ∷ ws) h.1,
    )

pub front-own : (own under : List Window) → AllInFront (own ++ under) → AllInFront own
front-own [] under h = tt
front-own (w ∷ own) under h = (h.0, front-own own under h.1)

-- a place is a field, a variable of another frame, or one in front of a place
abbrev pub IsBefore : (frame place : ℕ) → Place → Type 0
IsBefore n k (Var m i) = (m ≢ n) ⊎ (i < k)
IsBefore n k (Field a j) = Unit {0}

-- a place isn't a variable of a frame
abbrev pub IsElsewhere : (frame : ℕ) → Place → Type 0
IsElsewhere n (Var m i) = m ≢ n
IsElsewhere n (Field a j) = Unit {0}

elsewhere-before : (n k : ℕ) (p : Place) → IsElsewhere n p → IsBefore n k p
elsewhere-before n k (Var m i) h = inl h
elsewhere-before n k (Field a j) h = tt

enters-frame : (n : ℕ) (ls : List Local) (x : Variable) (fs : List Name) (p : Place) → Enters n ls x fs (Some p) → (m : ℕ) → m ≢ n → IsElsewhere m p
enters-frame n ls x [] (Var q i) h m d = λ e. d (sym e ∙ h.0)
enters-frame n ls x [] (Field a k) h m d = tt
enters-frame n ls x (f ∷ fs) (Var q i) h m d = absurd h
enters-frame n ls x (f ∷ fs) (Field a k) h m d = tt

entered-elsewhere : (n : ℕ) (ls : List Local) (ps : List Path) (own : List Window) → Entered n ls ps own → (m : ℕ) → m ≢ n →
    AllOwners own (IsElsewhere m)
entered-elsewhere n ls [] [] h m d = tt
entered-elsewhere n ls [] (w ∷ own) h m d = absurd h
entered-elsewhere n ls (p ∷ ps) [] h m d = absurd h
entered-elsewhere n ls (p ∷ ps) (w ∷ own) h m d = (
  λ q e. let P : Option Place → Type 0 = λ o. Enters n ls p.base p.fields o in enters-frame n ls p.base p.fields q (subst P e h.1) m d,
  entered-elsewhere n ls ps own h.2 m d,
)

pub AllOwners-append : (own under : List Window) (P : Place → Type 0) → AllOwners own P → AllOwners under P → AllOwners (own ++ under) P
AllOwners-append [] under P h k = k
AllOwners-append (w ∷ own) under P h k = (h.0, AllOwners-append own under P h.1 k)

AllOwners-is : (ws vs : List Window) (P : Place → Type 0) → ws ≡ vs → AllOwners vs P → AllOwners ws P
AllOwners-is ws vs P e h = let Q : List Window → Type 0 = λ q. AllOwners q P in subst Q (sym e) h

-- the lowest of windows names no owner
abbrev pub Grounded : List Window → Type 0
Grounded [] = Unit {0}
Grounded (w ∷ []) = w.owner ≡ None
Grounded (w ∷ v ∷ ws) = Grounded (v ∷ ws)

pub owned-grounded : (classes : List Class) (store : List Seen) (frames : List Frame) (ws : List Window) → AllOwned classes store frames ws →
    Grounded ws
owned-grounded classes store frames [] h = tt
owned-grounded classes store frames (w ∷ []) h = h.1
owned-grounded classes store frames (w ∷ v ∷ ws) h = owned-grounded classes store frames (v ∷ ws) h.1

pub grounded-under : (own under : List Window) → Grounded (own ++ under) → Grounded under
grounded-under [] under h = h
grounded-under (w ∷ own) under h = grounded-under own under (tail (own ++ under) h)
  where
    tail : (us : List Window) → Grounded (w ∷ us) → Grounded us
    tail [] h = tt
    tail (v ∷ us) h = h

-- windows that were opened beneath a frame name none of its variables
pub beneath-elsewhere : (t : Tree) (fs : List Frame) (ws : List Window) (items : List Item) (b : Body) (target : Target) →
    Beneath t fs ws items b target → Grounded ws →
    (n : ℕ) → length fs ≤ n → AllOwners ws (IsElsewhere n)
beneath-elsewhere t [] ws items b target h ground n l =
    let P : List Window → Type 0 = λ q. Grounded q in
    AllOwners-is ws (lowest h.2.0 h.2.1 ∷ []) (IsElsewhere n) h.2.2 (λ p e. none-some (sym (subst P h.2.2 ground) ∙ e), tt)
beneath-elsewhere t (f ∷ fs) ws items b target h ground n l =
    let P : List Window → Type 0 = λ q. Grounded q in
    let less : length fs ≤ n = omega (arith, l) in
    let other : n ≢ length fs = λ e. absurd (omega (arith, e, l)) in
    let under = beneath-elsewhere t fs h.2 h.4 h.0 f.target h.8 (grounded-under h.1 h.2 (subst P h.5 ground)) n less in
    let own : AllOwners h.1 (IsElsewhere n) = elim (h.7) [
      | inl w ↦ entered-elsewhere (length fs) f.locals _ h.1 w.stands.entered n other
      | inr w ↦ AllOwners-is h.1 [] (IsElsewhere n) w.no_window tt
    ] in AllOwners-is ws (h.1 ++ h.2) (IsElsewhere n) h.5 (AllOwners-append h.1 h.2 (IsElsewhere n) own under)

pub own-before : (n : ℕ) (ls : List Local) (ps : List Path) (own : List Window) (k : ℕ) → Entered n ls ps own → AllInFront own →
    AllWithin k (map (λ (w : Window). w.base_place) own) → AllOwners own (IsBefore n k)
own-before n ls [] [] k h f w = tt
own-before n ls [] (u ∷ own) k h f w = absurd h
own-before n ls (p ∷ ps) [] k h f w = absurd h
own-before n ls (p ∷ ps) (u ∷ own) k h f w = (first, own-before n ls ps own k h.2 f.1 w.1)
  where
    one : (q : Place) → InFront u q → IsBefore n k q
    one (Var m i) (inl a) = inl (λ e. absurd (omega (arith, e, a, h.0)))
    one (Var m i) (inr a) = inr (omega (arith, a.1, w.0))
    one (Field a j) x = tt

    first : (q : Place) → u.owner ≡ Some q → IsBefore n k q
    first q e = one q (f.0 q e)

-- the owners of all windows stand in front of a place, behind which no window of the frame has its base
pub all-before : (n : ℕ) (ls : List Local) (ps : List Path) (own under : List Window) (k : ℕ) → Entered n ls ps own → AllInFront (own ++ under) →
    AllWithin k (map (λ (w : Window). w.base_place) own) → AllOwners under (IsElsewhere n) → AllOwners (own ++ under) (IsBefore n k)
all-before n ls ps own under k h f w u =
    AllOwners-append own under (IsBefore n k) (own-before n ls ps own k h (front-own own under f) w)
    (AllOwners-map under (IsElsewhere n) (IsBefore n k) (elsewhere-before n k) u)

-- Which window a variable has

pub Entered-length : (n : ℕ) (ls : List Local) (ps : List Path) (own : List Window) → Entered n ls ps own → length ps ≡ length own
Entered-length n ls [] [] h = refl
Entered-length n ls [] (w ∷ own) h = absurd h
Entered-length n ls (p ∷ ps) [] h = absurd h
Entered-length n ls (p ∷ ps) (w ∷ own) h = ap suc (Entered-length n ls ps own h.2)

count-most_by : (b : Truth) (c n : ℕ) → c ≤ n → (if b then suc c else c) ≤ suc n
count-most_by true c n l = omega (arith, l)
count-most_by false c n l = omega (arith, l)

covering-most : (n i : ℕ) (ws : List Window) → covering n i ws ≤ length ws
covering-most n i [] = omega arith
covering-most n i (w ∷ ws) = count-most_by (covers n i w) (covering n i ws) (length ws) (covering-most n i ws)

covering-first_by : (b : Truth) (c n : ℕ) → c ≤ n → (if b then suc c else c) ≡ suc n → b ≡ true
covering-first_by true c n l e = refl
covering-first_by false c n l e = absurd (omega (arith, l, e))

covering-first : (n i : ℕ) (w : Window) (ws : List Window) → covering n i (w ∷ ws) ≡ length (w ∷ ws) → covers n i w ≡ true
covering-first n i w ws h = covering-first_by (covers n i w) (covering n i ws) (length ws) (covering-most n i ws) h

covers-lower : (n i : ℕ) (w : Window) → w.base_frame < n → covers n i w ≡ true
covers-lower n i w l = let e : nat_lt w.base_frame n ≡ true = grind arith in rw e refl

-- below a frame, the highest window is that of each of its variables
pub beneath-all : (t : Tree) (fs : List Frame) (ws : List Window) (items : List Item) (b : Body) (target : Target) → Beneath t fs ws items b target →
    (n i : ℕ) → length fs ≤ n → windows_of n i ws ≡ ws
beneath-all t [] ws items b target h n i l = rw h.2.2 (at_lowest n)
  where
    at_lowest : (m : ℕ) → windows_of m i (lowest h.2.0 h.2.1 ∷ []) ≡ lowest h.2.0 h.2.1 ∷ []
    at_lowest zero = let e : nat_le 0 i ≡ true = grind arith in rw e refl
    at_lowest (suc m) = let e : nat_lt 0 (suc m) ≡ true = grind arith in rw e refl
beneath-all t (f ∷ fs) ws items b target h n i l =
    let less : length fs < n = omega (arith, l) in
    let under = beneath-all t fs h.2 h.4 h.0 f.target h.8 n i (omega (arith, l)) in
    let own = elim (h.7) as (λ q. windows_of n i (h.1 ++ h.2) ≡ h.1 ++ h.2) [
      | inl w ↦ by_own f fs n i less h.1 h.2 _ w.stands.entered under
      | inr w ↦ let P : List Window → Type 0 = λ o. windows_of n i (o ++ h.2) ≡ o ++ h.2 in subst P (sym w.no_window) under
    ] in let P : List Window → Type 0 = λ q. windows_of n i q ≡ q in subst P (sym h.5) own
  where
    by_own : (f : Frame) (fs : List Frame) (n i : ℕ) → length fs < n → (own under : List Window) (ps : List Path) →
        Entered (length fs) f.locals ps own →
        windows_of n i under ≡ under → windows_of n i (own ++ under) ≡ own ++ under
    by_own f fs n i less [] under ps h u = u
    by_own f fs n i less (w ∷ own) under [] h u = absurd h
    by_own f fs n i less (w ∷ own) under (p ∷ ps) h u =
        let c = covers-lower n i w (omega (arith, h.0, less)) in rw c refl

-- a variable of the current depth has the highest window
pub own-all : (n i : ℕ) (own under : List Window) → covering n i own ≡ length own → windows_of n i under ≡ under →
    windows_of n i (own ++ under) ≡ own ++ under
own-all n i [] under h u = u
own-all n i (w ∷ own) under h u = let c = covering-first n i w own h in rw c refl

-- The same frame at the next spot

pub settled-lent : (r s : Readiness) → settled_readiness r ≡ settled_readiness s → r ≡ lent → s ≡ lent
settled-lent ready s h e = grind arith
settled-lent gone s h e = grind arith
settled-lent lent ready h e = grind arith
settled-lent lent gone h e = grind arith
settled-lent lent lent h e = refl

-- names stay at their places
abbrev pub KeepsNames : (old new : List Local) → Type 0
KeepsNames old new = (i : ℕ) (x : Variable) → IsNamed old i x → IsNamed new i x

enters-kept : (n : ℕ) (ls ms : List Local) (x : Variable) (fs : List Name) (o : Option Place) → KeepsNames ls ms → Enters n ls x fs o →
    Enters n ms x fs o
enters-kept n ls ms x fs None k h = absurd h
enters-kept n ls ms x [] (Some (Var m i)) k h = (h.0, k i x h.1)
enters-kept n ls ms x [] (Some (Field a j)) k h = h
enters-kept n ls ms x (f ∷ fs) (Some (Var m i)) k h = h
enters-kept n ls ms x (f ∷ fs) (Some (Field a j)) k h = h

pub entered-kept : (n : ℕ) (ls ms : List Local) (ps : List Path) (own : List Window) → KeepsNames ls ms → Entered n ls ps own → Entered n ms ps own
entered-kept n ls ms [] [] k h = h
entered-kept n ls ms [] (w ∷ own) k h = h
entered-kept n ls ms (p ∷ ps) [] k h = h
entered-kept n ls ms (p ∷ ps) (w ∷ own) k h = (h.0, enters-kept n ls ms p.base p.fields w.owner k h.1, entered-kept n ls ms ps own k h.2)

-- variables that are named by entries keep their names where these stay
pub named-keeps : (es os : List Entry) (ls ms : List Local) → Named es ls → Named os ms → Keeps es os → KeepsNames ls ms
named-keeps es os ls ms h k s i x n =
    let e = Named-entry es ls i n.local h n.there in
    let p = Named-at es ls i e.0 n.local h e.1 n.there in
    let o = Keeps-at es os i e.0 s e.1 in
    let m = entry-local os ms i o.0 k o.1 in
    let q = Named-at os ms i o.0 m.0 k o.1 m.1 in
    record { local = m.0; there = m.1; name_is = q.name ∙ ap (λ (z : Entry). z.name) o.2 ∙ sym p.name ∙ n.name_is }
  where
    entry-local : (os : List Entry) (ms : List Local) (i : ℕ) (o : Entry) → Named os ms → slice_get os i ≡ Some o →
        (m : Local) × (slice_get ms i ≡ Some m)
    entry-local [] ms i o k g = none-some g
    entry-local (o ∷ os) [] i q k g = absurd k
    entry-local (o ∷ os) (m ∷ ms) zero q k g = (m, refl)
    entry-local (o ∷ os) (m ∷ ms) (suc i) q k g = entry-local os ms i q k.2 g

-- what is said of entries by place, of the second environment by the first
pub entries-back : (n : ℕ) (own : List Window) (es os : List Entry) → Keeps os es →
    ((i : ℕ) (e : Entry) → slice_get es i ≡ Some e → e.depth ≡ covering n i own) → (i : ℕ) (o : Entry) → slice_get os i ≡ Some o →
    o.depth ≡ covering n i own
entries-back n own es os k h i o g =
    let e = Keeps-at os es i o k g in ap (λ (q : Entry). q.depth) (sym e.2) ∙ h i e.0 e.1

pub lent-back : (n : ℕ) (own : List Window) (es os : List Entry) → Keeps os es →
    ((i : ℕ) (e : Entry) → slice_get es i ≡ Some e → (e.readiness ≡ lent) ↔ Lends own n i) → (i : ℕ) (o : Entry) → slice_get os i ≡ Some o →
    (o.readiness ≡ lent) ↔ Lends own n i
lent-back n own es os k h i o g =
    let e = Keeps-at os es i o k g in
    let same = ap (λ (q : Entry). q.readiness) e.2 in
    (λ l. (h i e.0 e.1).0 (settled-lent o.readiness e.0.readiness (sym same) l), λ l. settled-lent e.0.readiness o.readiness same ((h i e.0 e.1).1 l))

-- a frame with the same variables, some of them with other values, where the environment stays
pub stands-stays : (f g : Frame) (n : ℕ) (own : List Window) (old : Spot) (out : Env) (mine : List Item) → Stands f n own old → Stays old.env out →
    leaves old.items ≡ leaves mine → Named old.env.entries g.locals → Stands g n own (record { env = out; items = mine; enters = old.enters })
stands-stays f g n own old out mine h s l names =
    let back = Keeps-flip old.env.entries out.entries s.keeps s.count in
    let now = named-over old.env.entries out.entries g.locals s.keeps s.count names in
    record {
      named = now;
      entered = entered-kept n f.locals g.locals (reverse old.enters) own
          (named-keeps old.env.entries out.entries f.locals g.locals h.named now s.keeps) h.entered;
      bases = h.bases ∙ l;
      depths = entries-back n own old.env.entries out.entries back h.depths;
      lent_are = lent-back n own old.env.entries out.entries back h.lent_are;
    }
  where
    named-over : (es os : List Entry) (ls : List Local) → Keeps es os → length os ≡ length es → Named es ls → Named os ls
    named-over [] [] ls k c h = h
    named-over [] (o ∷ os) ls k c h = absurd (omega (arith, c))
    named-over (e ∷ es) [] ls k c h = absurd k
    named-over (e ∷ es) (o ∷ os) [] k c h = absurd h
    named-over (e ∷ es) (o ∷ os) (l ∷ ls) k c h =
        (h.0 ∙ ap (λ (q : Entry). q.name) (sym k.0), h.1 ∙ ap (λ (q : Entry). q.ty) (sym k.0), named-over es os ls k.1 (omega (arith, c)) h.2)

-- Variables and entries that come

or_and : (c a b : Truth) → a ≡ true → b ≡ true → (c || (a && b)) ≡ true
or_and true a b x y = refl
or_and false true true x y = refl
or_and false true false x y = grind arith
or_and false false b x y = grind arith

-- all windows that were opened in a frame have their bases in front of a new variable
pub count-all : (n k : ℕ) (ls : List Local) (ps : List Path) (own : List Window) → Entered n ls ps own →
    AllWithin k (map (λ (w : Window). w.base_place) own) →
    covering n k own ≡ length own
count-all n k ls [] [] h w = refl
count-all n k ls [] (u ∷ own) h w = absurd h
count-all n k ls (p ∷ ps) [] h w = absurd h
count-all n k ls (p ∷ ps) (u ∷ own) h w =
    let rest = count-all n k ls ps own h.2 w.1 in
    let c : covers n k u ≡ true = covers-here n k u h.0 w.0 in rw c (ap suc rest)
  where
    covers-here : (n k : ℕ) (u : Window) → u.base_frame ≡ n → u.base_place ≤ k → covers n k u ≡ true
    covers-here n k u e l =
        let a : (u.base_frame == n) ≡ true = grind arith in
        let b : nat_le u.base_place k ≡ true = grind arith in or_and (nat_lt u.base_frame n) (u.base_frame == n) (nat_le u.base_place k) a b

-- what is named in front is named with one more behind
pub names-snoc : (ls : List Local) (l : Local) → KeepsNames ls (ls ++ l ∷ [])
names-snoc ls l i x n =
    let within = slice_get_within ls i n.local n.there in
    record { local = n.local; there = get-snoc-other ls l i (λ e. absurd (omega (arith, within, e))) ∙ n.there; name_is = n.name_is }

-- no window names a variable that isn't there yet
pub lends-not : (n k : ℕ) (ls : List Local) (ps : List Path) (own : List Window) → Entered n ls ps own → length ls ≤ k → Lends own n k → ⊥
lends-not n k ls [] [] h l d = d
lends-not n k ls [] (w ∷ own) h l d = absurd h
lends-not n k ls (p ∷ ps) [] h l d = absurd h
lends-not n k ls (p ∷ ps) (w ∷ own) h l (inl e) =
    let P : Option Place → Type 0 = λ o. Enters n ls p.base p.fields o in named_past p.base p.fields (subst P e h.1)
  where
    named_past : (x : Variable) (fs : List Name) → Enters n ls x fs (Some (Var n k)) → ⊥
    named_past x [] q = let within = slice_get_within ls k q.1.local q.1.there in absurd (omega (arith, within, l))
    named_past x (f ∷ fs) q = q
lends-not n k ls (p ∷ ps) (w ∷ own) h l (inr d) = lends-not n k ls ps own h.2 l d

-- the last of a list, or one before
pub snoc-cases : {A : Type 0} (xs : List A) (x y : A) (i : ℕ) → slice_get (xs ++ x ∷ []) i ≡ Some y →
    (slice_get xs i ≡ Some y) ⊎ ((i ≡ length xs) × (x ≡ y))
snoc-cases [] x y zero e = inr (refl, same_Some x y e)
snoc-cases [] x y (suc i) e = none-some e
snoc-cases (z ∷ xs) x y zero e = inl e
snoc-cases (z ∷ xs) x y (suc i) e = elim (snoc-cases xs x y i e) [ inl h ↦ inl h | inr h ↦ inr (ap suc h.0, h.1) ]

-- a frame with one more variable, in an environment with one more entry
pub stands-more : (f : Frame) (g : Frame) (n : ℕ) (own : List Window) (spot : Spot) (l : Local) (x : Variable) (t : Ty) →
    Stands f n own spot → g.locals ≡ f.locals ++ l ∷ [] → l.name ≡ x → l.ty ≡ t → spot.env.depth ≡ length own →
    AllWithin (length spot.env.entries) (leaves spot.items) →
    Stands g n own (record { env = with_variable spot.env x t true; items = spot.items; enters = spot.enters })
stands-more f g n own spot l x t h is name ty depth within =
    let new : Entry = record { name = x; ty = t; depth = spot.env.depth; readiness = ready; assignable = true } in
    let count = Named-length spot.env.entries f.locals h.named in
    let bases = let P : List ℕ → Type 0 = λ q. AllWithin (length spot.env.entries) q in subst P (sym h.bases) within in
    let P : List Local → Type 0 = λ q. Named (spot.env.entries ++ new ∷ []) q in
    let Q : List Local → Type 0 = λ q. Entered n q (reverse spot.enters) own in
    record {
      named = subst P (sym is) (Named-snoc spot.env.entries f.locals new l h.named name ty);
      entered = subst Q (sym is) (entered-kept n f.locals (f.locals ++ l ∷ []) (reverse spot.enters) own (names-snoc f.locals l) h.entered);
      bases = h.bases;
      depths = λ i e g. elim (snoc-cases spot.env.entries new e i g) [
        | inl old ↦ h.depths i e old
        | inr at ↦ ap (λ (q : Entry). q.depth) (sym at.1) ∙ depth
            ∙ sym (count-all n (length spot.env.entries) f.locals (reverse spot.enters) own h.entered bases)
            ∙ ap (λ j. covering n j own) (sym at.0)
      ];
      lent_are = λ i e g. elim (snoc-cases spot.env.entries new e i g) [
        | inl old ↦ h.lent_are i e old
        | inr at ↦ (
          λ r. absurd (ready-not_lent (ap (λ (q : Entry). q.readiness) at.1 ∙ r)),
          λ d. absurd (lends-not n i f.locals (reverse spot.enters) own h.entered (omega (arith, count, at.0)) d),
        )
      ];
    }
  where
    ready-not_lent : ready ≡ lent → ⊥
    ready-not_lent e = grind arith

-- Variables and entries that go

pub named-front : (es os : List Entry) (ls : List Local) → Keeps es os → Named os ls → Named es (take (length es) ls)
named-front [] os ls k h = tt
named-front (e ∷ es) [] ls k h = absurd k
named-front (e ∷ es) (o ∷ os) [] k h = absurd h
named-front (e ∷ es) (o ∷ os) (l ∷ ls) k h = (h.0 ∙ ap (λ (q : Entry). q.name) k.0, h.1 ∙ ap (λ (q : Entry). q.ty) k.0, named-front es os ls k.1 h.2)

enters-taken : (n k : ℕ) (ls : List Local) (x : Variable) (fs : List Name) (p : Place) → IsBefore n k p → Enters n ls x fs (Some p) →
    Enters n (take k ls) x fs (Some p)
enters-taken n k ls x [] (Var m i) (inl a) h = absurd (a h.0)
enters-taken n k ls x [] (Var m i) (inr a) h =
    (h.0, record { local = h.1.local; there = get-take-within k ls i a ∙ h.1.there; name_is = h.1.name_is })
enters-taken n k ls x [] (Field a j) b h = h
enters-taken n k ls x (f ∷ fs) (Var m i) b h = h
enters-taken n k ls x (f ∷ fs) (Field a j) b h = h

enters-taken-option : (n k : ℕ) (ls : List Local) (x : Variable) (fs : List Name) (o : Option Place) → ((p : Place) → o ≡ Some p → IsBefore n k p) →
    Enters n ls x fs o →
    Enters n (take k ls) x fs o
enters-taken-option n k ls x fs None b h = absurd h
enters-taken-option n k ls x fs (Some p) b h = enters-taken n k ls x fs p (b p refl) h

pub entered-taken : (n k : ℕ) (ls : List Local) (ps : List Path) (own : List Window) → AllOwners own (IsBefore n k) → Entered n ls ps own →
    Entered n (take k ls) ps own
entered-taken n k ls [] [] b h = h
entered-taken n k ls [] (w ∷ own) b h = h
entered-taken n k ls (p ∷ ps) [] b h = h
entered-taken n k ls (p ∷ ps) (w ∷ own) b h = (h.0, enters-taken-option n k ls p.base p.fields w.owner b.0 h.1, entered-taken n k ls ps own b.1 h.2)

-- a frame whose last variables go, at the end of a block
pub stands-less : (f g : Frame) (n : ℕ) (own : List Window) (old : Spot) (env : Env) (mine : List Item) → Stands f n own old →
    Keeps env.entries old.env.entries →
    leaves old.items ≡ leaves mine → g.locals ≡ take (length env.entries) f.locals → AllOwners own (IsBefore n (length env.entries)) →
    Stands g n own (record { env = env; items = mine; enters = old.enters })
stands-less f g n own old env mine h k l is b =
    let P : List Local → Type 0 = λ q. Named env.entries q in
    let Q : List Local → Type 0 = λ q. Entered n q (reverse old.enters) own in
    record {
      named = subst P (sym is) (named-front env.entries old.env.entries f.locals k h.named);
      entered = subst Q (sym is) (entered-taken n (length env.entries) f.locals (reverse old.enters) own b h.entered);
      bases = h.bases ∙ l;
      depths = entries-back n own old.env.entries env.entries k h.depths;
      lent_are = lent-back n own old.env.entries env.entries k h.lent_are;
    }
