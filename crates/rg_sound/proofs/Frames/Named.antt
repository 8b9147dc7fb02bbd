-- The variables of a frame by the names of an environment's entries.
use Rattle.std.proofs.Common.{◌≡◌, refl, ap, ℕ, zero, suc, Bool, true, false, if◌then◌else◌, List, [], ◌∷◌, ◌++◌, length, find, Some, slice_get}
use Rattle.std.proofs.Common.{arith}
use Rattle.rg_base.specs.declared.value.Val.{Val}
use Rattle.rg_base.specs.declared.value.Val.TheVariants.{Nil}
use Rattle.rg_tree.specs.Tree.{Variable}
use Rattle.rg_rules.specs.Capabilities.{is_iso}
use Rattle.rg_rules.specs.Environment.{Env, Entry, same_variable}
use Rattle.rg_rules.specs.State.{Local, value_in, place_in, set_in}
use Rattle.rg_rules.specs.Evaluation.{is_iso_local, cleared}
use Rattle.rg_rules.proofs.Uses.{AgreeOnIso}
use Rattle.rg_sound.specs.Frames.{Named}

pub Named-length : (es : List Entry) (ls : List Local) → Named es ls → length es ≡ length ls
Named-length [] [] h = refl
Named-length [] (l ∷ ls) h = absurd h
Named-length (e ∷ es) [] h = absurd h
Named-length (e ∷ es) (l ∷ ls) h = ap suc (Named-length es ls h.2)

pub Named-snoc : (es : List Entry) (ls : List Local) (e : Entry) (l : Local) → Named es ls → l.name ≡ e.name → l.ty ≡ e.ty →
    Named (es ++ e ∷ []) (ls ++ l ∷ [])
Named-snoc [] [] e l h a b = (a, b, tt)
Named-snoc [] (m ∷ ls) e l h a b = absurd h
Named-snoc (f ∷ es) [] e l h a b = absurd h
Named-snoc (f ∷ es) (m ∷ ls) e l h a b = (h.0, h.1, Named-snoc es ls e l h.2 a b)

-- a variable and the entry at its place
pub record Pair (e : Entry) (l : Local) : Type 0 where
  pub name : l.name ≡ e.name
  pub ty : l.ty ≡ e.ty

pub Named-at : (es : List Entry) (ls : List Local) (i : ℕ) (e : Entry) (l : Local) → Named es ls → slice_get es i ≡ Some e →
    slice_get ls i ≡ Some l → Pair e l
Named-at [] ls i e l h g k = grind arith
Named-at (f ∷ es) [] i e l h g k = absurd h
Named-at (f ∷ es) (m ∷ ls) zero e l h g k =
    let a : f ≡ e = grind arith in
    let b : m ≡ l = grind arith in rw (← a, ← b) (record { name = h.0; ty = h.1 })
Named-at (f ∷ es) (m ∷ ls) (suc i) e l h g k = Named-at es ls i e l h.2 g k

-- the entry at the place of a variable
pub Named-entry : (es : List Entry) (ls : List Local) (i : ℕ) (l : Local) → Named es ls → slice_get ls i ≡ Some l →
    (e : Entry) × (slice_get es i ≡ Some e)
Named-entry [] [] i l h k = grind arith
Named-entry [] (m ∷ ls) i l h k = absurd h
Named-entry (f ∷ es) [] i l h k = absurd h
Named-entry (f ∷ es) (m ∷ ls) zero l h k = (f, refl)
Named-entry (f ∷ es) (m ∷ ls) (suc i) l h k = Named-entry es ls i l h.2 k

-- other values leave names and types
named-set_by : (b : Bool) (x : Variable) (v : Val) (f : Entry) (es : List Entry) (m : Local) (ls others : List Local) →
    (m.name ≡ f.name) → (m.ty ≡ f.ty) → Named es ls → Named es others → Named (f ∷ es) (if b then record m { value = v } ∷ ls else m ∷ others)
named-set_by true x v f es m ls others p q h k = (p, q, h)
named-set_by false x v f es m ls others p q h k = (p, q, k)

pub Named-set_in : (x : Variable) (v : Val) (es : List Entry) (ls : List Local) → Named es ls → Named es (set_in x v ls)
Named-set_in x v [] [] h = tt
Named-set_in x v [] (m ∷ ls) h = absurd h
Named-set_in x v (f ∷ es) [] h = absurd h
Named-set_in x v (f ∷ es) (m ∷ ls) h =
    named-set_by (same_variable m.name x) x v f es m ls (set_in x v ls) h.0 h.1 h.2 (Named-set_in x v es ls h.2)

pub Named-cleared : (xs : List Variable) (es : List Entry) (ls : List Local) → Named es ls → Named es (cleared xs ls)
Named-cleared [] es ls h = h
Named-cleared (x ∷ xs) es ls h = Named-cleared xs es (set_in x Nil ls) (Named-set_in x Nil es ls h)

-- the first entry of a name stands at the place of the first variable of that name
pub record FirstAt (es : List Entry) (ls : List Local) (x : Variable) (e : Entry) : Type 0 where
  pub local : Local
  pub entry_at : slice_get es (place_in ls x) ≡ Some e
  pub local_at : slice_get ls (place_in ls x) ≡ Some local
  pub pair : Pair e local
  pub value : value_in ls x ≡ local.value
  pub iso : is_iso_local ls x ≡ is_iso e.ty
  pub is_name : same_variable e.name x ≡ true

first_by : (b : Bool) (f : Entry) (es : List Entry) (m : Local) (ls : List Local) (x : Variable) (e : Entry) → same_variable m.name x ≡ b →
    m.name ≡ f.name → m.ty ≡ f.ty → (find (λ (o : Entry). same_variable o.name x) es ≡ Some e → FirstAt es ls x e) →
    (if b then Some f else find (λ (o : Entry). same_variable o.name x) es) ≡ Some e → FirstAt (f ∷ es) (m ∷ ls) x e
first_by true f es m ls x e at p q rest h = let same : f ≡ e = grind arith in
    let named : same_variable f.name x ≡ true = rw (← p) at in rw (← same) (record {
      local = m;
      entry_at = rw at refl;
      local_at = rw at refl;
      pair = record { name = p; ty = q };
      value = rw at refl;
      iso = rw (at, q) refl;
      is_name =
          named;
    })
first_by false f es m ls x e at p q rest h = let r = rest h in record {
  local = r.local;
  entry_at = rw at r.entry_at;
  local_at = rw at r.local_at;
  pair = r.pair;
  value = rw at r.value;
  iso = rw at r.iso;
  is_name =
      r.is_name;
}

pub first-at : (es : List Entry) (ls : List Local) (x : Variable) (e : Entry) → Named es ls →
    find (λ (o : Entry). same_variable o.name x) es ≡ Some e → FirstAt es ls x e
first-at [] ls x e h g = grind arith
first-at (f ∷ es) [] x e h g = absurd h
first-at (f ∷ es) (m ∷ ls) x e h g =
    first_by (same_variable m.name x) f es m ls x e refl h.0 h.1 (first-at es ls x e h.2) (rw h.0 g)

-- a frame's variables are declared `iso` where the entries are
pub Named-iso : (env : Env) (ls : List Local) → Named env.entries ls → AgreeOnIso env ls
Named-iso env ls h x e g = (first-at env.entries ls x e h g).iso
