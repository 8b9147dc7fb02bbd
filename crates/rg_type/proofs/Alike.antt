-- Variables that stay what they are but for their states, with others behind them.
use Rattle.std.proofs.Common.{◌≡◌, refl, ◌∙◌, ℕ, ◌+◌, ◌≤◌, Bool, true, false, if◌then◌else◌, List, [], ◌∷◌, ◌++◌, length, take, map, arith}
use Rattle.std.proofs.lemmas.List.{length-map, length-append}
use Rattle.rg_base.specs.declared.ty.Ty.{Ty}
use Rattle.rg_tree.specs.Tree.{Variable}
use Rattle.rg_rules.specs.Environment.{Readiness, ready, Entry, Env, same_variable, with_variable, marked_entry, marked, closed, joined_entries}
use Rattle.rg_rules.specs.Environment.{joined}

-- a variable, whatever its state
abbrev pub as_ready : Entry → Entry
as_ready e = record e { readiness = ready }

-- the old variables come first, in whatever states
abbrev pub Begin : (old new : List Entry) → Type 0
Begin [] new = Unit {0}
Begin (e ∷ es) [] = ⊥
Begin (e ∷ es) (o ∷ os) = (as_ready o ≡ as_ready e) × Begin es os

pub Begin-same : (es : List Entry) → Begin es es
Begin-same [] = tt
Begin-same (e ∷ es) = (refl, Begin-same es)

pub Begin-trans : (a b c : List Entry) → Begin a b → Begin b c → Begin a c
Begin-trans [] b c h k = tt
Begin-trans (x ∷ a) [] c h k = absurd h
Begin-trans (x ∷ a) (y ∷ b) [] h k = absurd k
Begin-trans (x ∷ a) (y ∷ b) (z ∷ c) h k = (k.0 ∙ h.0, Begin-trans a b c h.1 k.1)

pub Begin-append : (es more : List Entry) → Begin es (es ++ more)
Begin-append [] more = tt
Begin-append (e ∷ es) more = (refl, Begin-append es more)

marked_entry-alike : (x : Variable) (r : Readiness) (e : Entry) → as_ready (marked_entry x r e) ≡ as_ready e
marked_entry-alike x r e = by_test (same_variable e.name x)
  where
    by_test : (b : Bool) → as_ready (if b then record e { readiness = r } else e) ≡ as_ready e
    by_test true = refl
    by_test false = refl

pub Begin-marked : (x : Variable) (r : Readiness) (es : List Entry) → Begin es (map (marked_entry x r) es)
Begin-marked x r [] = tt
Begin-marked x r (e ∷ es) = (marked_entry-alike x r e, Begin-marked x r es)

pub Begin-take : (a b : List Entry) → Begin a b → Begin a (take (length a) b)
Begin-take [] b h = tt
Begin-take (x ∷ a) [] h = absurd h
Begin-take (x ∷ a) (y ∷ b) h = (h.0, Begin-take a b h.1)

pub length-Begin : (a b : List Entry) → Begin a b → length a ≤ length b
length-Begin [] b h = omega arith
length-Begin (x ∷ a) [] h = absurd h
length-Begin (x ∷ a) (y ∷ b) h = let l = length-Begin a b h.1 in omega arith

pub length-take-Begin : (a b : List Entry) → Begin a b → length (take (length a) b) ≡ length a
length-take-Begin [] b h = refl
length-take-Begin (x ∷ a) [] h = absurd h
length-take-Begin (x ∷ a) (y ∷ b) h = let l = length-take-Begin a b h.1 in omega arith

pub Begin-joined : (a b c : List Entry) → Begin a b → Begin a c → Begin a (joined_entries b c)
Begin-joined [] b c h k = tt
Begin-joined (x ∷ a) [] c h k = absurd h
Begin-joined (x ∷ a) (y ∷ b) [] h k = absurd k
Begin-joined (x ∷ a) (y ∷ b) (z ∷ c) h k = (h.0, Begin-joined a b c h.1 k.1)

pub length-joined_entries : (b c : List Entry) → length b ≤ length c → length (joined_entries b c) ≡ length b
length-joined_entries [] c l = refl
length-joined_entries (y ∷ b) [] l = absurd (omega arith)
length-joined_entries (y ∷ b) (z ∷ c) l = let e = length-joined_entries b c (omega arith) in omega arith

-- at the same depth there are the old variables, and behind them at most n more
pub record Grows (n : ℕ) (old new : Env) : Type 0 where
  pub depth : new.depth ≡ old.depth
  pub begins : Begin old.entries new.entries
  pub most : length new.entries ≤ length old.entries + n

pub Grows-same : (env : Env) → Grows 0 env env
Grows-same env = record { depth = refl; begins = Begin-same env.entries; most = omega arith }

pub Grows-more : (n m : ℕ) (old new : Env) → n ≤ m → Grows n old new → Grows m old new
Grows-more n m old new l g = record { depth = g.depth; begins = g.begins; most = omega (arith, g.most) }

pub Grows-trans : (n m : ℕ) (a b c : Env) → Grows n a b → Grows m b c → Grows (n + m) a c
Grows-trans n m a b c g h = record {
  depth = h.depth ∙ g.depth;
  begins = Begin-trans a.entries b.entries c.entries g.begins h.begins;
  most = omega (arith, g.most, h.most);
}

pub Grows-marked : (x : Variable) (r : Readiness) (env : Env) → Grows 0 env (marked x r env)
Grows-marked x r env = record {
  depth = refl;
  begins = Begin-marked x r env.entries;
  most = omega (arith, length-map env.entries (marked_entry x r));
}

pub Grows-with_variable : (env : Env) (x : Variable) (t : Ty) (a : Bool) → Grows 1 env (with_variable env x t a)
Grows-with_variable env x t a =
    let more : List Entry = record { name = x; ty = t; depth = env.depth; readiness = ready; assignable = a } ∷ [] in
    let e = length-append env.entries more in
    record { depth = refl; begins = Begin-append env.entries more; most = omega arith }

-- a block's own variables go
pub Grows-closed : (n : ℕ) (front mid out : Env) → Begin front.entries mid.entries → Grows n mid out → Grows 0 front (closed front out)
Grows-closed n front mid out b g =
    let c = Begin-trans front.entries mid.entries out.entries b g.begins in
    record { depth = refl; begins = Begin-take front.entries out.entries c; most = omega (arith, length-take-Begin front.entries out.entries c) }

pub Grows-joined : (front a b : Env) → Grows 0 front a → Grows 0 front b → Grows 0 front (joined a b)
Grows-joined front a b g h =
    let l = length-Begin front.entries a.entries g.begins in
    let m = length-Begin front.entries b.entries h.begins in
    let e = length-joined_entries a.entries b.entries (omega (arith, g.most)) in
    record { depth = g.depth; begins = Begin-joined front.entries a.entries b.entries g.begins h.begins; most = omega (arith, g.most) }
