-- Variables by the names of their slots: what is found by a name in a scope or an environment is found by that of its slot there.
use Rattle.std.proofs.Common.{◌≡◌, refl, sym, ap, ◌∙◌, subst, ℕ, zero, suc, ◌+◌, ◌<◌, ◌≤◌, ◌^◌, Bool as Truth, true, false, ◌&&◌, ◌||◌, not}
use Rattle.std.proofs.Common.{if◌then◌else◌}
use Rattle.std.proofs.Common.{List, [], ◌∷◌, ◌++◌, length, map, take, find, Option, Some, None, is_some, option_map, arith}
use Rattle.std.proofs.lemmas.List.{length-append}
use Rattle.rg_base.specs.declared.ty.Ty.{Ty}
use Rattle.rg_base.specs.declared.ty.Ty.TheVariants.{Int}
use Rattle.rg_tree.specs.Tree.{Name, Variable, Path, StmtKind, declare, assign, assign_element, call, swap, branch, while, enter, print, collect}
use Rattle.rg_tree.specs.Tree.{return}
use Rattle.rg_tree.specs.Tree.{Class}
use Rattle.rg_rules.specs.Environment.{Readiness, ready, Entry, Env, same_variable, entry_of, visible, with_variable, marked_entry, marked, closed}
use Rattle.rg_rules.specs.Environment.{joined_readiness, joined_entries, joined, covers_entries, covers, is_ready}
use Rattle.rg_rules.specs.Statements.{judge_enter, judge_kind}
use Rattle.std.proofs.Common.{Ok}
use Rattle.rg_sound.proofs.Frames.Entry.{Absent, Distinct, Stays, Stays-distinct, same_variable-true}
use Rattle.rg_sound.proofs.Frames.Judge.{judge_enter-inner, judge_kind-goes}
use Rattle.rg_code.specs.Lowering.{Slot, Scope, with_slot, slot_of, type_in, scope_behind, scope_inside}
use Rattle.rg_verify_expressions.specs.Naming.{variable_name, variable_in}
use Rattle.rg_renamed.specs.Renamed.{renamed_from}
use Rattle.rg_renamed.proofs.Names.{same-slot, other-slot, from-long}
use Rattle.rg_renamed.proofs.Environments.{Matches, matches-stays, inside-matches, behind-matches}

-- with the names of their slots, the first of which is this
abbrev pub slot_again : (in_method : Truth) → ℕ → Slot → Slot
slot_again m k s = record { name = variable_in m k; ty = s.ty }

abbrev pub scope_again : (in_method : Truth) → Scope → Scope
scope_again m ss = renamed_from (slot_again m) 0 ss

abbrev pub entry_again : (in_method : Truth) → ℕ → Entry → Entry
entry_again m k e = record e { name = variable_in m k }

abbrev pub env_again : (in_method : Truth) → Env → Env
env_again m env = record { depth = env.depth; entries = renamed_from (entry_again m) 0 env.entries }

-- Scopes

slot-bound : (ss : Scope) (x : Variable) → slot_of ss x ≤ length ss
slot-bound [] x = omega arith
slot-bound (s ∷ ss) x = by (same_variable s.name x) (slot-bound ss x)
  where
    by : (b : Truth) → slot_of ss x ≤ length ss → (if b then 0 else suc (slot_of ss x)) ≤ suc (length ss)
    by true h = omega arith
    by false h = omega (arith, h)

slots-again : (m : Truth) (ss : Scope) (k n : ℕ) (x : Variable) → n ≡ k + slot_of ss x → k + length ss < 2 ^ 64 →
    (slot_of (renamed_from (slot_again m) k ss) (variable_in m n) ≡ slot_of ss x)
    × (type_in (renamed_from (slot_again m) k ss) (variable_in m n) ≡ type_in ss x)
slots-again m [] k n x e r = (refl, refl)
slots-again m (s ∷ ss) k n x e r = by (same_variable s.name x) e (slots-again m ss (suc k) n x)
  where
    by : (b : Truth) → n ≡ k + (if b then 0 else suc (slot_of ss x)) → (n ≡ suc k + slot_of ss x → suc k + length ss < 2 ^ 64 →
        (slot_of (renamed_from (slot_again m) (suc k) ss) (variable_in m n) ≡ slot_of ss x)
        × (type_in (renamed_from (slot_again m) (suc k) ss) (variable_in m n) ≡ type_in ss x)) →
        ((if same_variable (variable_in m k) (variable_in m n) then 0 else suc (slot_of (renamed_from (slot_again m) (suc k) ss) (variable_in m n)))
        ≡ (if b then 0 else suc (slot_of ss x)))
        × ((if same_variable (variable_in m k) (variable_in m n) then s.ty else type_in (renamed_from (slot_again m) (suc k) ss) (variable_in m n))
        ≡ (if b then s.ty else type_in ss x))
    by true e h =
        let q = same-slot m k n (omega (arith, e)) in (
          ap (λ (b : Truth). if b then 0 else suc (slot_of (renamed_from (slot_again m) (suc k) ss) (variable_in m n))) q,
          ap (λ (b : Truth). if b then s.ty else type_in (renamed_from (slot_again m) (suc k) ss) (variable_in m n)) q,
        )
    by false e h =
        let l = slot-bound ss x in
        let q = other-slot m k n (λ z. omega (arith, e, z)) (omega (arith, r)) (omega (arith, e, r, l)) in
        let p = h (omega (arith, e)) (omega (arith, r)) in (
          ap (λ (b : Truth). if b then 0 else suc (slot_of (renamed_from (slot_again m) (suc k) ss) (variable_in m n))) q ∙ ap (λ (j : ℕ). suc j) p.0,
          ap (λ (b : Truth). if b then s.ty else type_in (renamed_from (slot_again m) (suc k) ss) (variable_in m n)) q ∙ p.1,
        )

-- Entries

entries-again : (m : Truth) (es : List Entry) (ss : Scope) (k n : ℕ) (x : Variable) → Matches es ss → n ≡ k + slot_of ss x →
    k + length ss < 2 ^ 64 → find (λ (e : Entry). same_variable e.name (variable_in m n)) (renamed_from (entry_again m) k es)
    ≡ option_map (entry_again m n) (find (λ (e : Entry). same_variable e.name x) es)
entries-again m [] ss k n x h e r = refl
entries-again m (o ∷ es) [] k n x h e r = absurd h
entries-again m (o ∷ es) (s ∷ ss) k n x h e r =
    by (same_variable o.name x)
    (e ∙ ap (λ (v : Variable). k + (if same_variable v x then 0 else suc (slot_of ss x))) h.0) (entries-again m es ss (suc k) n x h.2)
  where
    by : (b : Truth) → n ≡ k + (if b then 0 else suc (slot_of ss x)) → (n ≡ suc k + slot_of ss x → suc k + length ss < 2 ^ 64 →
        (find (λ (q : Entry). same_variable q.name (variable_in m n)) (renamed_from (entry_again m) (suc k) es))
        ≡ option_map (entry_again m n) (find (λ (q : Entry). same_variable q.name x) es)) →
        (if same_variable (variable_in m k) (variable_in m n) then Some (entry_again m k o)
        else (find (λ (q : Entry). same_variable q.name (variable_in m n)) (renamed_from (entry_again m) (suc k) es)))
        ≡ option_map (entry_again m n) (if b then Some o else find (λ (q : Entry). same_variable q.name x) es)
    by true e g =
        let same : k ≡ n = omega (arith, e) in
        ap (λ (b : Truth). if b then Some (entry_again m k o)
        else (find (λ (q : Entry). same_variable q.name (variable_in m n)) (renamed_from (entry_again m) (suc k) es))) (same-slot m k n same)
        ∙ ap (λ (j : ℕ). Some (entry_again m j o)) same
    by false e g =
        let l = slot-bound ss x in
        ap (λ (b : Truth). if b then Some (entry_again m k o)
        else (find (λ (q : Entry). same_variable q.name (variable_in m n)) (renamed_from (entry_again m) (suc k) es)))
        (other-slot m k n (λ z. omega (arith, e, z)) (omega (arith, r)) (omega (arith, e, r, l)))
        ∙ g (omega (arith, e)) (omega (arith, r))

-- no variable has the name of a slot behind it
none-later : (m : Truth) (es : List Entry) (k n : ℕ) → k + length es ≤ n → n < 2 ^ 64 →
    find (λ (e : Entry). same_variable e.name (variable_in m n)) (renamed_from (entry_again m) k es) ≡ None
none-later m [] k n l r = refl
none-later m (o ∷ es) k n l r =
    ap (λ (b : Truth). if b then Some (entry_again m k o)
    else find (λ (q : Entry). same_variable q.name (variable_in m n)) (renamed_from (entry_again m) (suc k) es))
    (other-slot m k n (λ z. omega (arith, l, z)) (omega (arith, l, r)) r)
    ∙ none-later m es (suc k) n (omega (arith, l)) r

-- States

-- the name of an earlier slot marks nothing
unmarked-again : (m : Truth) (now : Readiness) (es : List Entry) (k n : ℕ) → n < k → k + length es < 2 ^ 64 →
    map (marked_entry (variable_in m n) now) (renamed_from (entry_again m) k es) ≡ renamed_from (entry_again m) k es
unmarked-again m now [] k n l r = refl
unmarked-again m now (o ∷ es) k n l r =
    let e = entry_again m k o in
    ap (λ (b : Truth). (if b then record e { readiness = now } else e) ∷ map (marked_entry (variable_in m n) now)
    (renamed_from (entry_again m) (suc k) es))
    (other-slot m k n (λ z. omega (arith, l, z)) (omega (arith, r)) (omega (arith, l, r)))
    ∙ ap (λ (os : List Entry). e ∷ os) (unmarked-again m now es (suc k) n (omega (arith, l)) (omega (arith, r)))

-- nor does one that isn't there
unmarked : (x : Variable) (now : Readiness) (es : List Entry) → Absent x es → map (marked_entry x now) es ≡ es
unmarked x now [] h = refl
unmarked x now (e ∷ es) h =
    ap (λ (b : Truth). (if b then record e { readiness = now } else e) ∷ map (marked_entry x now) es) h.0
    ∙ ap (λ (os : List Entry). e ∷ os) (unmarked x now es h.1)

marks-again : (m : Truth) (now : Readiness) (es : List Entry) (ss : Scope) (k n : ℕ) (x : Variable) → Distinct es → Matches es ss →
    length es ≡ length ss → n ≡ k + slot_of ss x → k + length ss < 2 ^ 64 →
    map (marked_entry (variable_in m n) now) (renamed_from (entry_again m) k es) ≡ renamed_from (entry_again m) k (map (marked_entry x now) es)
marks-again m now [] ss k n x d h c e r = refl
marks-again m now (o ∷ es) [] k n x d h c e r = absurd h
marks-again m now (o ∷ es) (s ∷ ss) k n x d h c e r =
    by (same_variable o.name x) refl
    (e ∙ ap (λ (v : Variable). k + (if same_variable v x then 0 else suc (slot_of ss x))) h.0) (marks-again m now es ss (suc k) n x d.1 h.2)
  where
    by : (b : Truth) → same_variable o.name x ≡ b → n ≡ k + (if b then 0 else suc (slot_of ss x)) →
        (length es ≡ length ss → n ≡ suc k + slot_of ss x →
        suc k + length ss < 2 ^ 64 →
        map (marked_entry (variable_in m n) now) (renamed_from (entry_again m) (suc k) es)
        ≡ renamed_from (entry_again m) (suc k) (map (marked_entry x now) es)) →
        (if same_variable (variable_in m k) (variable_in m n) then record (entry_again m k o) { readiness = now } else (entry_again m k o))
        ∷ map (marked_entry (variable_in m n) now) (renamed_from (entry_again m) (suc k) es)
        ≡ entry_again m k (if b then record o { readiness = now } else o) ∷ renamed_from (entry_again m) (suc k) (map (marked_entry x now) es)
    by true is e g =
        let same : k ≡ n = omega (arith, e) in
        let absent : Absent x es = subst (λ (v : Variable). Absent v es) (same_variable-true o.name x is) d.0 in
        ap (λ (b : Truth). (if b then record (entry_again m k o) { readiness = now } else (entry_again m k o)) ∷ map
        (marked_entry (variable_in m n) now) (renamed_from (entry_again m) (suc k) es)) (same-slot m k n same)
        ∙ ap (λ (os : List Entry). record (entry_again m k o) { readiness = now } ∷ os)
        (unmarked-again m now es (suc k) n (omega (arith, e)) (omega (arith, r, c))
        ∙ sym (ap (renamed_from (entry_again m) (suc k)) (unmarked x now es absent)))
    by false is e g =
        let l = slot-bound ss x in
        ap (λ (b : Truth). (if b then record (entry_again m k o) { readiness = now } else (entry_again m k o)) ∷ map
        (marked_entry (variable_in m n) now) (renamed_from (entry_again m) (suc k) es))
        (other-slot m k n (λ z. omega (arith, e, z)) (omega (arith, r)) (omega (arith, e, r, l)))
        ∙ ap (λ (os : List Entry). (entry_again m k o) ∷ os) (g (omega (arith, c)) (omega (arith, e)) (omega (arith, r)))

-- Lists that are made in order

pub from-more : {A B : Type 0} (each : ℕ → A → B) (k n : ℕ) (xs : List A) (x : A) → n ≡ k + length xs →
    renamed_from each k (xs ++ x ∷ []) ≡ renamed_from each k xs ++ each n x ∷ []
from-more each k n [] x e = let same : k ≡ n = omega (arith, e) in ap (λ (j : ℕ). each j x ∷ []) same
from-more each k n (y ∷ xs) x e = ap (λ (ys : List _). each k y ∷ ys) (from-more each (suc k) n xs x (omega (arith, e)))

from-take : {A B : Type 0} (each : ℕ → A → B) (k n : ℕ) (xs : List A) → take n (renamed_from each k xs) ≡ renamed_from each k (take n xs)
from-take each k zero xs = refl
from-take each k (suc n) [] = refl
from-take each k (suc n) (x ∷ xs) = ap (λ (ys : List _). each k x ∷ ys) (from-take each (suc k) n xs)

joined-from : (m : Truth) (k : ℕ) (xs bs : List Entry) →
    joined_entries (renamed_from (entry_again m) k xs) (renamed_from (entry_again m) k bs) ≡ renamed_from (entry_again m) k (joined_entries xs bs)
joined-from m k [] bs = refl
joined-from m k (a ∷ xs) [] = refl
joined-from m k (a ∷ xs) (b ∷ bs) =
    ap (λ (es : List Entry). entry_again m k (record a { readiness = joined_readiness a.readiness b.readiness }) ∷ es) (joined-from m (suc k) xs bs)

covers-from : (m : Truth) (k : ℕ) (xs bs : List Entry) →
    covers_entries (renamed_from (entry_again m) k xs) (renamed_from (entry_again m) k bs) ≡ covers_entries xs bs
covers-from m k [] bs = refl
covers-from m k (a ∷ xs) [] = ap (λ (b : Truth). not (is_ready a.readiness) && b) (covers-from m (suc k) xs [])
covers-from m k (a ∷ xs) (b ∷ bs) = ap (λ (c : Truth). (not (is_ready a.readiness) || is_ready b.readiness) && c) (covers-from m (suc k) xs bs)

-- An environment with its scope

-- a method has `self` first
abbrev pub HasSelf : (in_method : Truth) → Scope → Type 0
HasSelf false ss = Unit {0}
HasSelf true [] = ⊥
HasSelf true (s ∷ ss) = s.name ≡ None

pub record Scoped (m : Truth) (env : Env) (ss : Scope) : Type 0 where
  pub distinct : Distinct env.entries
  pub matches : Matches env.entries ss
  pub self : HasSelf m ss
  pub room : length ss < 2 ^ 64

pub matches-long : (es : List Entry) (ss : Scope) → Matches es ss → length es ≡ length ss
matches-long [] [] h = refl
matches-long [] (s ∷ ss) h = absurd h
matches-long (e ∷ es) [] h = absurd h
matches-long (e ∷ es) (s ∷ ss) h = ap (λ (n : ℕ). suc n) (matches-long es ss h.2)

-- the variable of the next slot has a name
pub next-name : (m : Truth) (ss : Scope) → HasSelf m ss → variable_in m (length ss) ≡ Some (variable_name (length ss))
next-name false ss h = refl
next-name true [] h = absurd h
next-name true (s ∷ ss) h = refl

-- and so has one that has a name
pub slot-name : (m : Truth) (ss : Scope) (y : Name) → HasSelf m ss →
    variable_in m (slot_of ss (Some y)) ≡ Some (variable_name (slot_of ss (Some y)))
slot-name false ss y h = refl
slot-name true [] y h = absurd h
slot-name true (s ∷ ss) y h =
    let P : Variable → Type 0 = λ v. variable_in true (if same_variable v (Some y) then 0 else suc (slot_of ss (Some y)))
    ≡ Some (variable_name (if same_variable v (Some y) then 0 else suc (slot_of ss (Some y)))) in subst P (sym h) refl

pub self-more : (m : Truth) (ss : Scope) (s : Slot) → HasSelf m ss → HasSelf m (ss ++ s ∷ [])
self-more false ss s h = tt
self-more true [] s h = absurd h
self-more true (x ∷ ss) s h = h

no-more : (n k : ℕ) → k < 2 ^ 64 → n ≡ k → 0 + n < 2 ^ 64
no-more n k l e = omega (arith, l, e)

-- one variable more
pub more-in : (m : Truth) (ss : Scope) (front : Env) (x : Variable) (t : Ty) (a : Truth) → HasSelf m ss → length front.entries ≡ length ss →
    with_variable (env_again m front) (Some (variable_name (length ss))) t a ≡ env_again m (with_variable front x t a)
more-in m ss front x t a h l =
    let make : List Entry → Env = λ es. record { depth = front.depth; entries = es } in
    let e : Variable → Entry = λ v. record { name = v; ty = t; depth = front.depth; readiness = ready; assignable = a } in
    ap make (ap (λ (v : Variable). renamed_from (entry_again m) 0 front.entries ++ e v ∷ []) (sym (next-name m ss h))
    ∙ sym (from-more (entry_again m) 0 (length ss) front.entries (e x) (omega (arith, l))))

module _ (m : Truth) (env : Env) (ss : Scope) (s : Scoped m env ss) where
  pub long : length env.entries ≡ length ss
  long = matches-long env.entries ss s.matches

  pub slot-is : (x : Variable) → slot_of (scope_again m ss) (variable_in m (slot_of ss x)) ≡ slot_of ss x
  slot-is x = (slots-again m ss 0 (slot_of ss x) x (omega arith) (no-more (length ss) (length ss) s.room refl)).0

  pub type-is : (x : Variable) → type_in (scope_again m ss) (variable_in m (slot_of ss x)) ≡ type_in ss x
  type-is x = (slots-again m ss 0 (slot_of ss x) x (omega arith) (no-more (length ss) (length ss) s.room refl)).1

  pub entry-is : (x : Variable) →
      entry_of (env_again m env) (variable_in m (slot_of ss x)) ≡ option_map (entry_again m (slot_of ss x)) (entry_of env x)
  entry-is x = entries-again m env.entries ss 0 (slot_of ss x) x s.matches (omega arith) (no-more (length ss) (length ss) s.room refl)

  pub found-again : (x : Variable) (e : Entry) → entry_of env x ≡ Some e →
      entry_of (env_again m env) (variable_in m (slot_of ss x)) ≡ Some (entry_again m (slot_of ss x) e)
  found-again x e h = entry-is x ∙ ap (option_map (entry_again m (slot_of ss x))) h

  pub new-again : visible (env_again m env) (Some (variable_name (length ss))) ≡ false
  new-again =
      let l = long in
      ap (λ (v : Variable). visible (env_again m env) v) (sym (next-name m ss s.self))
      ∙ ap (λ (o : Option Entry). is_some o) (none-later m env.entries 0 (length ss) (omega (arith, l)) s.room)

  pub marked-again : (x : Variable) (now : Readiness) →
      marked (variable_in m (slot_of ss x)) now (env_again m env) ≡ env_again m (marked x now env)
  marked-again x now =
      let make : List Entry → Env = λ es. record { depth = env.depth; entries = es } in
      ap make (marks-again m now env.entries ss 0 (slot_of ss x) x s.distinct s.matches long (omega arith)
      (no-more (length ss) (length ss) s.room refl))

  -- one variable more, behind as many
  pub more-at : (front : Env) (x : Variable) (t : Ty) (a : Truth) → length front.entries ≡ length ss →
      with_variable (env_again m front) (Some (variable_name (length ss))) t a ≡ env_again m (with_variable front x t a)
  more-at front x t a l = more-in m ss front x t a s.self l

  pub more-again : (x : Variable) (t : Ty) (a : Truth) →
      with_variable (env_again m env) (Some (variable_name (length ss))) t a ≡ env_again m (with_variable env x t a)
  more-again x t a = more-at env x t a long

  pub scoped-stays : (out : Env) → Stays env out → Scoped m out ss
  scoped-stays out g = record {
    distinct = Stays-distinct env out s.distinct g;
    matches = matches-stays env out ss g s.matches;
    self = s.self;
    room = s.room;
  }

pub closed-again : (m : Truth) (front out : Env) → closed (env_again m front) (env_again m out) ≡ env_again m (closed front out)
closed-again m front out =
    let make : List Entry → Env = λ es. record { depth = front.depth; entries = es } in
    let outs = renamed_from (entry_again m) 0 out.entries in
    ap make (ap (λ (n : ℕ). take n outs) (from-long (entry_again m) 0 front.entries) ∙ from-take (entry_again m) 0 (length front.entries) out.entries)

pub joined-again : (m : Truth) (a b : Env) → joined (env_again m a) (env_again m b) ≡ env_again m (joined a b)
joined-again m a b =
    let make : List Entry → Env = λ es. record { depth = a.depth; entries = es } in ap make (joined-from m 0 a.entries b.entries)

pub covers-again : (m : Truth) (a b : Env) → covers (env_again m a) (env_again m b) ≡ covers a b
covers-again m a b = covers-from m 0 a.entries b.entries

-- Scopes behind and inside

pub slots-more : (ss : Scope) (s : Slot) → length (ss ++ s ∷ []) ≡ length ss + 1
slots-more ss s = length-append ss (s ∷ [])

pub scope-more : (m : Truth) (ss : Scope) (x : Variable) (t : Ty) → HasSelf m ss →
    with_slot (scope_again m ss) (Some (variable_name (length ss))) t ≡ scope_again m (with_slot ss x t)
scope-more m ss x t h =
    let s : Variable → Slot = λ v. record { name = v; ty = t } in
    ap (λ (v : Variable). scope_again m ss ++ s v ∷ []) (sym (next-name m ss h))
    ∙ sym (from-more (slot_again m) 0 (length ss) ss (s x) (omega arith))

pub self-behind : (m : Truth) (cs : List Class) (ss : Scope) (k : StmtKind) → HasSelf m ss → HasSelf m (scope_behind cs ss k)
self-behind m cs ss (declare x t r) h = self-more m ss _ h
self-behind m cs ss (assign p r) h = h
self-behind m cs ss (assign_element q e r) h = h
self-behind m cs ss (call c) h = h
self-behind m cs ss (swap y p) h = h
self-behind m cs ss (branch e b other) h = h
self-behind m cs ss (while e b) h = h
self-behind m cs ss (enter p z b giving) h = h
self-behind m cs ss (print e) h = h
self-behind m cs ss collect h = h
self-behind m cs ss (return e) h = h

module _ (m : Truth) (cs : List Class) (env : Env) (ss : Scope) (s : Scoped m env ss) where
  pub scoped-behind : (last : Option Ty) (line : ℕ) (k : StmtKind) (out : Env) → length (scope_behind cs ss k) < 2 ^ 64 →
      judge_kind cs last line env k ≡ Ok out → Scoped m out (scope_behind cs ss k)
  scoped-behind last line k out r h = record {
    distinct = (judge_kind-goes cs last line env out k s.distinct h).distinct;
    matches = behind-matches cs last line env out ss k s.distinct s.matches h;
    self = self-behind m cs ss k s.self;
    room = r;
  }

  pub scoped-inside : (x : Variable) (fs : List Name) (z : Name) (out : Env) → length ss + 1 < 2 ^ 64 → judge_enter cs env x fs z ≡ Ok out →
      Scoped m out (scope_inside cs ss (record { base = x; fields = fs }) z)
  scoped-inside x fs z out r h =
      let more = slots-more ss _ in
      record {
        distinct = (judge_enter-inner cs env out x fs z s.distinct h).distinct;
        matches = inside-matches cs env out ss x fs z s.matches h;
        self = self-more m ss _ s.self;
        room = subst (λ (n : ℕ). n < 2 ^ 64) (sym more) r;
      }
