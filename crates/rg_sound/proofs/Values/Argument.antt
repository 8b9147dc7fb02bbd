-- The arguments of a call: the variables that they use up, and what their values own, which is owned nowhere else then.
use Rattle.std.proofs.Common.{◌≡◌, refl, sym, ◌∙◌, ap, subst, inl, inr, ℕ, ◌==◌, Bool as Truth, true, false, if◌then◌else◌, List, [], ◌∷◌, ◌++◌}
use Rattle.std.proofs.Common.{length, Option, Some, None, option_and_then, slice_get, arith}
use Rattle.rg_base.specs.declared.ty.Ty.{Ty}
use Rattle.rg_base.specs.declared.object.Place.{Place}
use Rattle.rg_base.specs.declared.object.Place.TheVariants.{Var, Field}
use Rattle.rg_base.specs.declared.object.Seen.{Seen}
use Rattle.rg_base.specs.declared.value.Val.{Val}
use Rattle.rg_base.specs.declared.value.Val.TheVariants.{Nil}
use Rattle.rg_tree.specs.Tree.{Variable, Expr, Tree}
use Rattle.rg_rules.specs.Capabilities.{is_iso}
use Rattle.rg_rules.specs.Environment.{Env, Entry, Readiness, ready, gone, lent, entry_of, is_lent}
use Rattle.rg_rules.specs.State.{Local, Frame, Window, value_in, place_in, set_in}
use Rattle.rg_rules.specs.Evaluation.{uses, cleared}
use Rattle.rg_rules.specs.Regions.{region_at, address, owned}
use Rattle.rg_rules.specs.Owners.{owned_by_local, leads_into}
use Rattle.rg_sound.specs.Values.{Meets, FrameMeets}
use Rattle.rg_sound.specs.Frames.{Named}
use Rattle.rg_sound.proofs.Basics.{none-some}
use Rattle.rg_sound.proofs.Frames.Named.{Named-cleared, first-at}
use Rattle.rg_sound.proofs.Frames.Entry.{settled_readiness, Keeps, Keeps-at, Keeps-flip, Keeps-find, Stays}
use Rattle.rg_sound.proofs.Values.Value.{Sees}
use Rattle.rg_sound.proofs.Owners.Owner.{leads-top}
use Rattle.rg_sound.proofs.Owners.Data.{Data, NotOwner, leads-put, Puts, puts-set}
use Rattle.rg_sound.proofs.Values.Right.{OwnsFreshAs, take-variable}
use Rattle.rg_rules.proofs.Local.{set_in-at}

-- what is known of the variables of the topmost frame in an environment
pub record View (store : List Seen) (f : Frame) (fs : List Frame) (ws : List Window) (env : Env) : Type 0 where
  pub sees : Sees store ws (length fs) env f.locals
  pub free : (k : ℕ) (e : Entry) → slice_get env.entries k ≡ Some e → is_lent e.readiness ≡ false → NotOwner ws (length fs) k

-- what an expression leaves whose value is taken
pub record Took (t : Tree) (store : List Seen) (f : Frame) (fs : List Frame) (ws : List Window) (regions made : ℕ) (env : Env) (e : Expr) (ty : Ty)
    (v : Val) : Type 0 where
  pub fits : Data t.classes store (record f { locals = cleared (uses f.locals e) f.locals } ∷ fs) ws regions made
  pub named : Named env.entries (cleared (uses f.locals e) f.locals)
  pub meets : Meets store ws ty v
  pub fresh : OwnsFreshAs t.classes store (record f { locals = cleared (uses f.locals e) f.locals } ∷ fs) ty v
  pub less : (q : Place) (r : ℕ) → leads_into t.classes store (record f { locals = cleared (uses f.locals e) f.locals } ∷ fs) q ≡ Some r →
      leads_into t.classes store (f ∷ fs) q ≡ Some r
  pub was : (r : ℕ) → option_and_then (region_at store) (owned ty v) ≡ Some r → (q : Place) × (leads_into t.classes store (f ∷ fs) q ≡ Some r)

-- a variable that is taken: nothing new is owned, and what it led into it led into before
pub take-less : (t : Tree) (store : List Seen) (f : Frame) (fs : List Frame) (x : Variable) (e : Entry) (env : Env) → Named env.entries f.locals →
    entry_of env x ≡ Some e →
    (q : Place) (r : ℕ) → leads_into t.classes store (record f { locals = set_in x Nil f.locals } ∷ fs) q ≡ Some r →
    leads_into t.classes store (f ∷ fs) q ≡ Some r
take-less t store f fs x e env names there q r h =
    let a = first-at env.entries f.locals x e names there in
    let l : Local = record a.local { value = Nil } in
    let P : List Local → Type 0 = λ z. Puts f.locals z (place_in f.locals x) l in
    let puts = subst P (sym (set_in-at x Nil f.locals a.local a.local_at)) (puts-set f.locals (place_in f.locals x) l a.local a.local_at) in
    back a.local puts q h
  where
    nothing : (b : Truth) → option_and_then (region_at store) (if b then address Nil else None) ≡ None
    nothing true = refl
    nothing false = refl

    back : (l : Local) → Puts f.locals (set_in x Nil f.locals) (place_in f.locals x) (record l { value = Nil }) → (q : Place) →
        leads_into t.classes store (record f { locals = set_in x Nil f.locals } ∷ fs) q ≡ Some r → leads_into t.classes store (f ∷ fs) q ≡ Some r
    back l p (Var n i) h = elim (leads-put t.classes store f fs (set_in x Nil f.locals) (place_in f.locals x) (record l { value = Nil }) p n i) [
      | inl at ↦ none-some (sym (nothing (is_iso l.ty)) ∙ sym at.2 ∙ h)
      | inr same ↦ sym same ∙ h
    ]
    back l p (Field a j) h = h

pub take-was : (t : Tree) (store : List Seen) (f : Frame) (fs : List Frame) (x : Variable) (e : Entry) (env : Env) → Named env.entries f.locals →
    entry_of env x ≡ Some e → is_iso e.ty ≡ true →
    (r : ℕ) → option_and_then (region_at store) (address (value_in f.locals x)) ≡ Some r →
    leads_into t.classes store (f ∷ fs) (Var (length fs) (place_in f.locals x)) ≡ Some r
take-was t store f fs x e env names there iso r h =
    let a = first-at env.entries f.locals x e names there in
    let local_iso : is_iso a.local.ty ≡ true = ap is_iso a.pair.ty ∙ iso in
    leads-top t.classes store f fs (place_in f.locals x)
    ∙ ap (λ (q : Option Local). option_and_then (region_at store) (option_and_then owned_by_local q)) a.local_at
    ∙ ap (λ (b : Truth). option_and_then (region_at store) (if b then address a.local.value else None)) local_iso
    ∙ ap (λ v. option_and_then (region_at store) (address v)) (sym a.value) ∙ h

-- The next argument

named-over : (es os : List Entry) (ls : List Local) → Keeps es os → length os ≡ length es → Named es ls → Named os ls
named-over [] [] ls k c h = h
named-over [] (o ∷ os) ls k c h = absurd (omega (arith, c))
named-over (e ∷ es) [] ls k c h = absurd k
named-over (e ∷ es) (o ∷ os) [] k c h = absurd h
named-over (e ∷ es) (o ∷ os) (l ∷ ls) k c h =
    (h.0 ∙ ap (λ (q : Entry). q.name) (sym k.0), h.1 ∙ ap (λ (q : Entry). q.ty) (sym k.0), named-over es os ls k.1 (omega (arith, c)) h.2)

settled-lent : (a b : Readiness) → settled_readiness a ≡ settled_readiness b → is_lent a ≡ is_lent b
settled-lent ready ready h = refl
settled-lent ready gone h = refl
settled-lent ready lent h = grind arith
settled-lent gone ready h = refl
settled-lent gone gone h = refl
settled-lent gone lent h = grind arith
settled-lent lent ready h = grind arith
settled-lent lent gone h = grind arith
settled-lent lent lent h = refl

pub view-next : (store : List Seen) (f g : Frame) (fs : List Frame) (ws : List Window) (env out : Env) → View store f fs ws env → Stays env out →
    Named env.entries g.locals →
    FrameMeets store ws (length fs) g.locals → View store g fs ws out
view-next store f g fs ws env out v s named values =
    let back = Keeps-flip env.entries out.entries s.keeps s.count in
    record {
      sees = record {
        named = named-over env.entries out.entries g.locals s.keeps s.count named;
        values = values;
        depth = λ i o k h.
            let e = Keeps-at out.entries env.entries i o back k in
            let same : (o.depth == out.depth) ≡ (e.0.depth == env.depth) =
            ap (λ q. q == out.depth) (ap (λ (q : Entry). q.depth) (sym e.2)) ∙ ap (λ q. e.0.depth == q) s.depth in
            v.sees.depth i e.0 e.1 (sym same ∙ h);
      };
      free = λ k o g l.
          let e = Keeps-at out.entries env.entries k o back g in
          v.free k e.0 e.1 (settled-lent e.0.readiness o.readiness (ap (λ (q : Entry). q.readiness) e.2) ∙ l);
    }

-- The variables that arguments use up

-- a variable that may be used up: it is `iso`, and not lent
pub record IsSource (env : Env) (x : Variable) : Type 0 where
  pub entry : Entry
  pub there : entry_of env x ≡ Some entry
  pub iso : is_iso entry.ty ≡ true
  pub free : is_lent entry.readiness ≡ false

abbrev pub AllSources : Env → List Variable → Type 0
AllSources env [] = Unit {0}
AllSources env (x ∷ xs) = IsSource env x × AllSources env xs

source-back : (env out : Env) → Stays env out → (x : Variable) → IsSource out x → IsSource env x
source-back env out s x h =
    let e = Keeps-find x out.entries env.entries h.entry (Keeps-flip env.entries out.entries s.keeps s.count) h.there in
    record {
      entry = e.0;
      there = e.1;
      iso = ap (λ (q : Entry). is_iso q.ty) e.2 ∙ h.iso;
      free = settled-lent e.0.readiness h.entry.readiness (ap (λ (q : Entry). q.readiness) e.2) ∙ h.free;
    }

pub cleared-append : (xs ys : List Variable) (ls : List Local) → cleared (xs ++ ys) ls ≡ cleared ys (cleared xs ls)
cleared-append [] ys ls = refl
cleared-append (x ∷ xs) ys ls = cleared-append xs ys (set_in x Nil ls)

-- variables that are used up one after another
pub record Cleared (t : Tree) (store : List Seen) (f : Frame) (fs : List Frame) (ws : List Window) (regions made : ℕ) (env : Env)
    (xs : List Variable) : Type 0 where
  pub fits : Data t.classes store (record f { locals = cleared xs f.locals } ∷ fs) ws regions made
  pub named : Named env.entries (cleared xs f.locals)
  pub less : (q : Place) (r : ℕ) → leads_into t.classes store (record f { locals = cleared xs f.locals } ∷ fs) q ≡ Some r →
      leads_into t.classes store (f ∷ fs) q ≡ Some r

pub clear-all : (t : Tree) (store : List Seen) (f : Frame) (fs : List Frame) (ws : List Window) (regions made : ℕ) (env : Env)
    (xs : List Variable) → Data t.classes store (f ∷ fs) ws regions made →
    Named env.entries f.locals → ((k : ℕ) (e : Entry) → slice_get env.entries k ≡ Some e → is_lent e.readiness ≡ false →
    NotOwner ws (length fs) k) → AllSources env xs →
    Cleared t store f fs ws regions made env xs
clear-all t store f fs ws regions made env [] d named free h = record { fits = d; named = named; less = λ q r k. k }
clear-all t store f fs ws regions made env (x ∷ xs) d named free h =
    let a = first-at env.entries f.locals x h.0.entry named h.0.there in
    let k = take-variable t store f fs ws regions made x h.0.entry env d named h.0.there h.0.iso
    (free (place_in f.locals x) h.0.entry a.entry_at h.0.free) in
    let g : Frame = record f { locals = set_in x Nil f.locals } in
    let rest = clear-all t store g fs ws regions made env xs k.fits (Named-cleared (x ∷ []) env.entries f.locals named) free h.1 in
    record { fits = rest.fits; named = rest.named; less = λ q r y. take-less t store f fs x h.0.entry env named h.0.there q r (rest.less q r y) }
