-- What arguments own, once all is used up.
use Rattle.std.proofs.Common.{◌≡◌, ◌≢◌, refl, sym, ◌∙◌, ap, subst, ◌⊎◌, inl, inr, ℕ, zero, suc, Bool as Truth, true, false, if◌then◌else◌, List, []}
use Rattle.std.proofs.Common.{◌∷◌, ◌++◌, length, flat_map, Option, Some, None, option_and_then, slice_get, arith}
use Rattle.std.proofs.lemmas.List.Concat.{flat_map-cons}
use Rattle.std.proofs.lemmas.Option.{same_Some}
use Rattle.rg_base.specs.declared.ty.Ty.{Ty}
use Rattle.rg_base.specs.declared.object.Place.{Place}
use Rattle.rg_base.specs.declared.object.Place.TheVariants.{Var}
use Rattle.rg_base.specs.declared.object.Seen.{Seen}
use Rattle.rg_base.specs.declared.value.Val.{Val}
use Rattle.rg_base.specs.declared.value.Val.TheVariants.{Nil}
use Rattle.rg_tree.specs.Tree.{Variable, Expr, Class, Tree}
use Rattle.rg_rules.specs.Capabilities.{is_iso}
use Rattle.rg_rules.specs.Environment.{Env, Entry, same_variable}
use Rattle.rg_rules.specs.State.{Local, Frame, Window, place_in, set_in}
use Rattle.rg_rules.specs.Evaluation.{uses, cleared}
use Rattle.rg_rules.specs.Regions.{region_at, address, owned}
use Rattle.rg_rules.specs.Owners.{owned_by_local, leads_into}
use Rattle.rg_rules.proofs.Local.{place_in-set_in}
use Rattle.rg_sound.specs.Frames.{Named}
use Rattle.rg_sound.proofs.Basics.{none-some}
use Rattle.rg_sound.proofs.Frames.Named.{first-at}
use Rattle.rg_sound.proofs.Frames.Entry.{same_variable-true}
use Rattle.rg_sound.proofs.Owners.Owner.{leads-top}
use Rattle.rg_sound.proofs.Owners.Data.{Data}
use Rattle.rg_sound.proofs.Values.Right.{OwnsFreshAs}
use Rattle.rg_sound.proofs.Values.Call.{IsReady, AllReady, NotAmong, NoTwice, ArgsOwn}

-- What the values own, once all is used up

-- the variable at a place is nil
abbrev pub NilAt : List Local → ℕ → Type 0
NilAt ls k = (l : Local) → slice_get ls k ≡ Some l → l.value ≡ Nil

NilAt-set : (y : Variable) (ls : List Local) (k : ℕ) → NilAt ls k → NilAt (set_in y Nil ls) k
NilAt-set y [] k h = h
NilAt-set y (m ∷ ls) k h = by (same_variable m.name y) k h (λ j g. NilAt-set y ls j g)
  where
    by : (b : Truth) (k : ℕ) → NilAt (m ∷ ls) k → ((j : ℕ) → NilAt ls j → NilAt (set_in y Nil ls) j) →
        NilAt (if b then record m { value = Nil } ∷ ls else m ∷ set_in y Nil ls) k
    by true zero h rest l e = ap (λ (q : Local). q.value) (sym (same_Some (record m { value = Nil }) l e))
    by true (suc k) h rest l e = h l e
    by false zero h rest l e = h l e
    by false (suc k) h rest l e = rest k (λ n g. h n g) l e

NilAt-here : (x : Variable) (ls : List Local) → NilAt (set_in x Nil ls) (place_in ls x)
NilAt-here x [] l e = none-some e
NilAt-here x (m ∷ ls) l e = by (same_variable m.name x) l e (NilAt-here x ls)
  where
    by : (b : Truth) (l : Local) → slice_get (if b then record m { value = Nil } ∷ ls else m ∷ set_in x Nil ls)
        (if b then 0 else suc (place_in ls x)) ≡ Some l → NilAt (set_in x Nil ls) (place_in ls x) →
        l.value ≡ Nil
    by true l e rest = ap (λ (q : Local). q.value) (sym (same_Some (record m { value = Nil }) l e))
    by false l e rest = rest l e

NilAt-cleared : (xs : List Variable) (ls : List Local) (k : ℕ) → NilAt ls k → NilAt (cleared xs ls) k
NilAt-cleared [] ls k h = h
NilAt-cleared (x ∷ xs) ls k h = NilAt-cleared xs (set_in x Nil ls) k (NilAt-set x ls k h)

-- a variable is among others
abbrev pub In : Variable → List Variable → Type 0
In x [] = ⊥
In x (y ∷ ys) = (x ≡ y) ⊎ In x ys

In-append : (x : Variable) (ys zs : List Variable) → In x zs → In x (ys ++ zs)
In-append x [] zs h = h
In-append x (y ∷ ys) zs h = inr (In-append x ys zs h)

NilAt-in : (x : Variable) (xs : List Variable) (ls : List Local) → In x xs → NilAt (cleared xs ls) (place_in ls x)
NilAt-in x [] ls h = absurd h
NilAt-in x (y ∷ xs) ls (inl e) =
    let P : Variable → Type 0 = λ q. NilAt (cleared xs (set_in q Nil ls)) (place_in ls x) in
    subst P e (NilAt-cleared xs (set_in x Nil ls) (place_in ls x) (NilAt-here x ls))
NilAt-in x (y ∷ xs) ls (inr h) =
    let P : ℕ → Type 0 = λ k. NilAt (cleared xs (set_in y Nil ls)) k in subst P (place_in-set_in y Nil ls x) (NilAt-in x xs (set_in y Nil ls) h)

-- what is used up leads nowhere
cleared-leads : (classes : List Class) (store : List Seen) (f : Frame) (fs : List Frame) (xs : List Variable) (x : Variable) → In x xs →
    leads_into classes store (record f { locals = cleared xs f.locals } ∷ fs) (Var (length fs) (place_in f.locals x)) ≡ None
cleared-leads classes store f fs xs x h =
    leads-top classes store (record f { locals = cleared xs f.locals }) fs (place_in f.locals x)
    ∙ by (slice_get (cleared xs f.locals) (place_in f.locals x)) refl
  where
    nil-led : (b : Truth) (v : Val) → v ≡ Nil → ◌≡◌ {A = Option ℕ} (option_and_then (region_at store) (if b then address v else None)) None
    nil-led true v e = rw e refl
    nil-led false v e = refl

    by : (o : Option Local) → slice_get (cleared xs f.locals) (place_in f.locals x) ≡ o →
        option_and_then (region_at store) (option_and_then owned_by_local o) ≡ None
    by None e = refl
    by (Some l) e = nil-led (is_iso l.ty) l.value (NilAt-in x xs f.locals h l e)

abbrev pub Apart : List Seen → Ty → Val → List Ty → List Val → Type 0
Apart store t v [] vs = Unit {0}
Apart store t v (u ∷ us) [] = Unit {0}
Apart store t v (u ∷ us) (w ∷ ws) =
    ((r : ℕ) → option_and_then (region_at store) (owned t v) ≡ Some r → option_and_then (region_at store) (owned u w) ≡ Some r →
    ⊥) × Apart store t v us ws

-- values that own regions which are owned nowhere, each another one
abbrev pub Loose : List Class → List Seen → List Frame → List Ty → List Val → Type 0
Loose classes store frames [] vs = Unit {0}
Loose classes store frames (t ∷ ts) [] = Unit {0}
Loose classes store frames (t ∷ ts) (v ∷ vs) = OwnsFreshAs classes store frames t v × Apart store t v ts vs × Loose classes store frames ts vs

-- two variables at one place are one
same-place : (env : Env) (ls : List Local) (x y : Variable) → Named env.entries ls → IsReady env x → IsReady env y → place_in ls x ≡ place_in ls y →
    x ≡ y
same-place env ls x y n a b e =
    let p = first-at env.entries ls x a.entry n a.there in
    let q = first-at env.entries ls y b.entry n b.there in
    let one : a.entry ≡ b.entry = same_Some a.entry b.entry (sym p.entry_at ∙ ap (slice_get env.entries) e ∙ q.entry_at) in
    sym (same_variable-true a.entry.name x p.is_name) ∙ ap (λ (z : Entry). z.name) one ∙ same_variable-true b.entry.name y q.is_name

ready-in : (env : Env) (xs : List Variable) (x : Variable) → AllReady env xs → In x xs → IsReady env x
ready-in env [] x a h = absurd h
ready-in env (y ∷ ys) x a (inl e) = let P : Variable → Type 0 = λ q. IsReady env q in subst P (sym e) a.0
ready-in env (y ∷ ys) x a (inr h) = ready-in env ys x a.1 h

not-among : (x y : Variable) (ys : List Variable) → NotAmong x ys → In y ys → y ≢ x
not-among x y [] n h = absurd h
not-among x y (z ∷ zs) n (inl e) = λ s. n.0 (sym e ∙ s)
not-among x y (z ∷ zs) n (inr h) = not-among x y zs n.1 h

module _ (t : Tree) (store : List Seen) (f : Frame) (fs : List Frame) (ws : List Window) (regions made : ℕ) (env : Env)
    (d : Data t.classes store (f ∷ fs) ws regions made) (named : Named env.entries f.locals)
    (xs : List Variable) (ready_all : AllReady env xs)
    (less : (q : Place) (r : ℕ) → leads_into t.classes store (record f { locals = cleared xs f.locals } ∷ fs) q ≡ Some r →
    leads_into t.classes store (f ∷ fs) q ≡ Some r) where
  apart-later : (ty : Ty) (v : Val) (x : Variable) → In x xs →
      ((r : ℕ) → option_and_then (region_at store) (owned ty v) ≡ Some r →
      leads_into t.classes store (f ∷ fs) (Var (length fs) (place_in f.locals x)) ≡ Some r) →
      (ts : List Ty) (as_ : List Expr) (vs : List Val) → ArgsOwn t.classes store f fs ts as_ vs → NotAmong x (flat_map (uses f.locals) as_) →
      ((y : Variable) → In y (flat_map (uses f.locals) as_) → In y xs) →
      length as_ ≡ length ts → Apart store ty v ts vs
  apart-later ty v x here from [] as_ vs o n sub l = tt
  apart-later ty v x here from (u ∷ us) as_ [] o n sub l = tt
  apart-later ty v x here from (u ∷ us) [] (w ∷ vs) o n sub l = absurd (omega (arith, l))
  apart-later ty v x here from (u ∷ us) (a ∷ as_) (w ∷ vs) o n sub l =
      let P : List Variable → Type 0 = λ q. NotAmong x q in
      let Q : List Variable → Type 0 = λ q. (y : Variable) → In y q → In y xs in
      let n' = subst P (flat_map-cons (uses f.locals) a as_) n in
      let sub' = subst Q (flat_map-cons (uses f.locals) a as_) sub in (
        λ r h k.
            let y = o.0 r k in
            let same : Var (length fs) (place_in f.locals x) ≡ Var (length fs) (place_in f.locals y.0) =
            d.forest.one_owner (Var (length fs) (place_in f.locals x)) (Var (length fs) (place_in f.locals y.0)) r (from r h) y.2 in
            let place : place_in f.locals x ≡ place_in f.locals y.0 = grind arith in
            let R : List Variable → Type 0 = λ q. NotAmong x (q ++ flat_map (uses f.locals) as_) in
            let S : List Variable → Type 0 = λ q. (z : Variable) → In z (q ++ flat_map (uses f.locals) as_) → In z xs in
            let away = (subst R y.1 n').0 in
            let there = subst S y.1 sub' y.0 (inl refl) in
            away (sym (same-place env f.locals x y.0 named (ready-in env xs x ready_all here) (ready-in env xs y.0 ready_all there) place)),
        apart-later ty v x here from us as_ vs o.1 (among-rest x (uses f.locals a) (flat_map (uses f.locals) as_) n')
            (λ y h. sub' y (In-append y (uses f.locals a) (flat_map (uses f.locals) as_) h)) (omega (arith, l)),
      )
    where
      among-rest : (x : Variable) (ys zs : List Variable) → NotAmong x (ys ++ zs) → NotAmong x zs
      among-rest x [] zs h = h
      among-rest x (y ∷ ys) zs h = among-rest x ys zs h.1

  pub loose-args : (ts : List Ty) (as_ : List Expr) (vs : List Val) → ArgsOwn t.classes store f fs ts as_ vs →
      NoTwice (flat_map (uses f.locals) as_) →
      ((y : Variable) → In y (flat_map (uses f.locals) as_) → In y xs) → length as_ ≡ length ts →
      Loose t.classes store (record f { locals = cleared xs f.locals } ∷ fs) ts vs
  loose-args [] as_ vs o n sub l = tt
  loose-args (u ∷ us) as_ [] o n sub l = tt
  loose-args (u ∷ us) [] (w ∷ vs) o n sub l = absurd (omega (arith, l))
  loose-args (u ∷ us) (a ∷ as_) (w ∷ vs) o n sub l =
      let P : List Variable → Type 0 = λ q. NoTwice q in
      let Q : List Variable → Type 0 = λ q. (y : Variable) → In y q → In y xs in
      let n' = subst P (flat_map-cons (uses f.locals) a as_) n in
      let sub' = subst Q (flat_map-cons (uses f.locals) a as_) sub in (
        λ r h.
            let x = o.0 r h in
            let S : List Variable → Type 0 = λ q. (z : Variable) → In z (q ++ flat_map (uses f.locals) as_) → In z xs in
            let here = subst S x.1 sub' x.0 (inl refl) in (
              λ z. d.forest.none_into_first (Var (length fs) (place_in f.locals x.0)) (x.2 ∙ ap Some z),
              λ q g.
                  let at : q ≡ Var (length fs) (place_in f.locals x.0) = d.forest.one_owner q (Var (length fs) (place_in f.locals x.0)) r
                  (less q r g) x.2 in
                  let R : Place → Type 0 = λ p. leads_into t.classes store (record f { locals = cleared xs f.locals } ∷ fs) p ≡ Some r in
                  none-some (sym (cleared-leads t.classes store f fs xs x.0 here) ∙ subst R at g),
            ),
        apart u w us as_ vs o n' sub' (omega (arith, l)),
        loose-args us as_ vs o.1 (twice-rest (uses f.locals a) (flat_map (uses f.locals) as_) n')
            (λ y h. sub' y (In-append y (uses f.locals a) (flat_map (uses f.locals) as_) h)) (omega (arith, l)),
      )
    where
      twice-rest : (ys zs : List Variable) → NoTwice (ys ++ zs) → NoTwice zs
      twice-rest [] zs h = h
      twice-rest (y ∷ ys) zs h = twice-rest ys zs h.1

      apart : (u : Ty) (w : Val) (us : List Ty) (as_ : List Expr) (vs : List Val) → ArgsOwn t.classes store f fs (u ∷ us) (a ∷ as_) (w ∷ vs) →
          NoTwice (uses f.locals a ++ flat_map (uses f.locals) as_) →
          ((y : Variable) → In y (uses f.locals a ++ flat_map (uses f.locals) as_) → In y xs) → length as_ ≡ length us → Apart store u w us vs
      apart u w us as_ vs o n sub l = by (option_and_then (region_at store) (owned u w)) refl
        where
          by : (q : Option ℕ) → option_and_then (region_at store) (owned u w) ≡ q → Apart store u w us vs
          by None e = never us vs
            where
              never : (us : List Ty) (vs : List Val) → Apart store u w us vs
              never [] vs = tt
              never (y ∷ us) [] = tt
              never (y ∷ us) (z ∷ vs) = (λ r h k. none-some (sym e ∙ h), never us vs)
          by (Some r) e =
              let x = o.0 r e in
              let P : List Variable → Type 0 = λ q. NoTwice (q ++ flat_map (uses f.locals) as_) in
              let Q : List Variable → Type 0 = λ q. (z : Variable) → In z (q ++ flat_map (uses f.locals) as_) → In z xs in
              apart-later u w x.0 (subst Q x.1 sub x.0 (inl refl)) (λ m h. x.2 ∙ sym e ∙ h) us as_ vs o.1 (subst P x.1 n).0
              (λ y h. sub y (In-append y (uses f.locals a) (flat_map (uses f.locals) as_) h)) l
