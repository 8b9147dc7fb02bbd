-- The scope of a body has the names and the declared types of its environment, and each name is that of the slot.
use Rattle.std.proofs.Common.{◌≡◌, refl, sym, ap, ◌∙◌, subst, ℕ, zero, suc, ◌+◌, Bool as Truth, true, false, List, [], ◌∷◌, ◌++◌, length, map, find}
use Rattle.std.proofs.Common.{if◌then◌else◌, Option, Some, ok_or, unwrap_or, Result, Ok, arith}
use Rattle.rg_base.specs.declared.words.Cap.{Cap}
use Rattle.rg_base.specs.declared.words.Cap.TheVariants.{Mut, Tmp, Paused, Imm, Iso}
use Rattle.rg_base.specs.declared.ty.Ty.{Ty}
use Rattle.rg_base.specs.declared.ty.Ty.TheVariants.{Int, Bool, Ref}
use Rattle.rg_base.specs.declared.fault.Code.TheVariants.{Unknown, Capability}
use Rattle.rg_tree.specs.Tree.{Name, Variable, Path}
use Rattle.rg_tree.specs.Tree.{Class}
use Rattle.rg_rules.specs.Capabilities.{adapt, pause, iso_class, may_write}
use Rattle.rg_rules.specs.Types.{field_type}
use Rattle.rg_rules.specs.Environment.{Env, Entry, same_variable, entry_of, at_depth, seen_type, lent}
use Rattle.rg_rules.specs.Environment.{marked_entry}
use Rattle.rg_rules.specs.Paths.{read_through, look_up, walk_field, walk_fields, walk, all_but_last, last_field, walk_receiver, writable_field}
use Rattle.rg_rules.proofs.Answers.{bind-ok, test-then, ok_or-ok}
use Rattle.rg_rules.proofs.Path.{look_up-ok}
use Rattle.rg_sound.proofs.Frames.Entry.{Distinct, Keeps, Stays, Stays-distinct, same_variable-true}
use Rattle.rg_code.specs.Lowering.{Slot, Scope, with_slot, slot_of, type_in, type_behind, type_along, class_of}
use Rattle.rg_verify_expressions.specs.Naming.{variable_name, variable_in, field_name}
use Rattle.rg_verify_expressions.specs.Raised.{path_named, IsPathFound, AreFound}
use Rattle.rg_numbered.specs.Numbered.{path_numbers}
use Rattle.rg_numbered.proofs.Classes.{none-behind, some-is, none-some, class_is, ClassesNamed, field-named, Known, known-named, known-found}

pub ok-is : {A E : Type 0} {a b : A} → ◌≡◌ {A = Result A E} (Ok a) (Ok b) → a ≡ b
ok-is h = grind arith

-- Classes of types

pause-class : (t : Ty) → class_is (pause t) ≡ class_is t
pause-class Int = refl
pause-class Bool = refl
pause-class (Ref cap c) = refl

seen-by : (b : Truth) (t : Ty) → class_is (if b then t else pause t) ≡ class_is t
seen-by true t = refl
seen-by false t = pause-class t

seen-class : (env : Env) (e : Entry) → class_is (seen_type env e) ≡ class_is e.ty
seen-class env e = seen-by (at_depth env e) e.ty

read-class : (receiver : Cap) (declared x : Ty) → read_through receiver declared ≡ Ok x → class_is x ≡ class_is declared
read-class receiver Int x h = ap class_is (sym (ok-is h))
read-class receiver Bool x h = ap class_is (sym (ok-is h))
read-class receiver (Ref cap c) x h = let p = bind-ok (ok_or (adapt receiver cap) Capability) _ x h in ap class_is (sym (ok-is p.2))

behind-type : (cs : List Class) (t : Ty) (f : Name) (c : ℕ) (d : Ty) → class_is t ≡ Some c → field_type cs c f ≡ Some d → type_behind cs t f ≡ d
behind-type cs Int f c d h g = absurd (none-some h)
behind-type cs Bool f c d h g = absurd (none-some h)
behind-type cs (Ref cap k) f c d h g =
    ap (λ (n : ℕ). unwrap_or (field_type cs n f) Int) (some-is h) ∙ ap (λ (o : Option Ty). unwrap_or o Int) g

along-last : (cs : List Class) (t : Ty) (f : Name) (fs : List Name) →
    type_along cs t (f ∷ fs) ≡ type_behind cs (type_along cs t (all_but_last f fs)) (last_field f fs)
along-last cs t f [] = refl
along-last cs t f (g ∷ gs) = along-last cs (type_behind cs t f) g gs

pub iso-of : (cs : List Class) (t : Ty) (c : ℕ) → iso_class t ≡ Some c → class_of cs t ≡ c
iso-of cs Int c h = absurd (none-some h)
iso-of cs Bool c h = absurd (none-some h)
iso-of cs (Ref Mut d) c h = absurd (none-some h)
iso-of cs (Ref Tmp d) c h = absurd (none-some h)
iso-of cs (Ref Paused d) c h = absurd (none-some h)
iso-of cs (Ref Imm d) c h = absurd (none-some h)
iso-of cs (Ref Iso d) c h = some-is h

pub class_of-is : (cs : List Class) (t : Ty) (c : ℕ) → class_is t ≡ Some c → class_of cs t ≡ c
class_of-is cs Int c h = absurd (none-some h)
class_of-is cs Bool c h = absurd (none-some h)
class_of-is cs (Ref cap d) c h = some-is h

-- Names and types of variables

-- the variables of a scope have the names and types of entries, in order
abbrev pub Matches : List Entry → Scope → Type 0
Matches [] [] = Unit {0}
Matches [] (s ∷ ss) = ⊥
Matches (e ∷ es) [] = ⊥
Matches (e ∷ es) (s ∷ ss) = (s.name ≡ e.name) × (s.ty ≡ e.ty) × Matches es ss

pub matches-more : (es : List Entry) (ss : Scope) (e : Entry) (s : Slot) → Matches es ss → s.name ≡ e.name → s.ty ≡ e.ty →
    Matches (es ++ e ∷ []) (ss ++ s ∷ [])
matches-more [] [] e s h n y = (n, y, tt)
matches-more [] (x ∷ ss) e s h n y = absurd h
matches-more (x ∷ es) [] e s h n y = absurd h
matches-more (x ∷ es) (z ∷ ss) e s h n y = (h.0, h.1, matches-more es ss e s h.2 n y)

matches-keeps : (a b : List Entry) (ss : Scope) → Keeps a b → length b ≡ length a → Matches a ss → Matches b ss
matches-keeps [] [] ss k l h = h
matches-keeps [] (y ∷ b) ss k l h = absurd (omega (arith, l))
matches-keeps (x ∷ a) [] ss k l h = absurd k
matches-keeps (x ∷ a) (y ∷ b) [] k l h = absurd h
matches-keeps (x ∷ a) (y ∷ b) (s ∷ ss) k l h = (
  h.0 ∙ sym (ap (λ (o : Entry). o.name) k.0),
  h.1 ∙ sym (ap (λ (o : Entry). o.ty) k.0),
  matches-keeps a b ss k.1 (omega (arith, l)) h.2,
)

pub matches-stays : (a b : Env) (ss : Scope) → Stays a b → Matches a.entries ss → Matches b.entries ss
matches-stays a b ss g h = matches-keeps a.entries b.entries ss g.keeps g.count h

type-by : (b : Truth) (s : Slot) (e o : Entry) (ss : Scope) (x : Variable) (rest : Option Entry) → s.ty ≡ e.ty →
    (rest ≡ Some o → type_in ss x ≡ o.ty) → (if b then Some e else rest) ≡ Some o → (if b then s.ty else type_in ss x) ≡ o.ty
type-by true s e o ss x rest y h g = y ∙ ap (λ (q : Entry). q.ty) (some-is g)
type-by false s e o ss x rest y h g = h g

-- the declared type of a variable that is there
pub type-found : (es : List Entry) (ss : Scope) (x : Variable) (o : Entry) → Matches es ss →
    find (λ (e : Entry). same_variable e.name x) es ≡ Some o → type_in ss x ≡ o.ty
type-found [] ss x o h g = absurd (none-some g)
type-found (e ∷ es) [] x o h g = absurd h
type-found (e ∷ es) (s ∷ ss) x o h g =
    subst (λ (n : Variable). (if same_variable n x then s.ty else type_in ss x) ≡ o.ty) (sym h.0)
    (type-by (same_variable e.name x) s e o ss x (find (λ (q : Entry). same_variable q.name x) es) h.1 (λ r. type-found es ss x o h.2 r) g)

pub marked-matches : (x : Variable) (es : List Entry) (ss : Scope) → Matches es ss → Matches (map (marked_entry x lent) es) ss
marked-matches x [] ss h = h
marked-matches x (e ∷ es) [] h = absurd h
marked-matches x (e ∷ es) (s ∷ ss) h = by_mark (same_variable e.name x) (marked-matches x es ss h.2)
  where
    by_mark : (b : Truth) → Matches (map (marked_entry x lent) es) ss →
        Matches ((if b then record e { readiness = lent } else e) ∷ map (marked_entry x lent) es) (s ∷ ss)
    by_mark true r = (h.0, h.1, r)
    by_mark false r = (h.0, h.1, r)

-- Variables in their slots

-- the variables of a scope have the names of their slots, of which the first one is this
abbrev pub AreSlots : (in_method : Truth) → (slot : ℕ) → Scope → Type 0
AreSlots m k [] = Unit {0}
AreSlots m k (s ∷ ss) = (s.name ≡ variable_in m k) × AreSlots m (suc k) ss

-- a method has `self`
abbrev pub HasSelf : (in_method : Truth) → Scope → Type 0
HasSelf false ss = Unit {0}
HasSelf true [] = ⊥
HasSelf true (s ∷ ss) = Unit {0}

pub slots-more : (m : Truth) (k : ℕ) (ss : Scope) (s : Slot) → AreSlots m k ss → s.name ≡ variable_in m (k + length ss) → AreSlots m k (ss ++ s ∷ [])
slots-more m k [] s h e = let n : k + 0 ≡ k = omega arith in (e ∙ ap (variable_in m) n, tt)
slots-more m k (x ∷ ss) s h e =
    let n : k + suc (length ss) ≡ suc k + length ss = omega arith in (h.0, slots-more m (suc k) ss s h.1 (e ∙ ap (variable_in m) n))

pub self-more : (m : Truth) (ss : Scope) (s : Slot) → HasSelf m (ss ++ s ∷ [])
self-more false ss s = tt
self-more true [] s = tt
self-more true (x ∷ ss) s = tt

-- the variable of the next slot has a name
pub next-variable : (m : Truth) (ss : Scope) → HasSelf m ss → variable_in m (length ss) ≡ Some (variable_name (length ss))
next-variable false ss h = refl
next-variable true [] h = absurd h
next-variable true (s ∷ ss) h = refl

-- a name is that of the slot
pub slot-name : (m : Truth) (s : ℕ) (y : Name) → variable_in m s ≡ Some y → variable_name s ≡ y
slot-name false s y h = some-is h
slot-name true zero y h = absurd (none-some h)
slot-name true (suc s) y h = some-is h

slot-by : (b : Truth) (m : Truth) (k : ℕ) (e o : Entry) (ss : Scope) (x : Variable) (rest : Option Entry) → same_variable e.name x ≡ b →
    e.name ≡ variable_in m k → (rest ≡ Some o → variable_in m (suc k + slot_of ss x) ≡ x) → (if b then Some e else rest) ≡ Some o →
    variable_in m (k + (if b then 0 else suc (slot_of ss x))) ≡ x
slot-by true m k e o ss x rest s n h g =
    let z : k + 0 ≡ k = omega arith in ap (variable_in m) z ∙ sym n ∙ same_variable-true e.name x s
slot-by false m k e o ss x rest s n h g =
    let z : k + suc (slot_of ss x) ≡ suc k + slot_of ss x = omega arith in ap (variable_in m) z ∙ h g

-- a variable that is there is that of its slot
slot-found : (m : Truth) (k : ℕ) (es : List Entry) (ss : Scope) (x : Variable) (o : Entry) → Matches es ss → AreSlots m k ss →
    find (λ (e : Entry). same_variable e.name x) es ≡ Some o → variable_in m (k + slot_of ss x) ≡ x
slot-found m k [] ss x o h a g = absurd (none-some g)
slot-found m k (e ∷ es) [] x o h a g = absurd h
slot-found m k (e ∷ es) (s ∷ ss) x o h a g =
    subst (λ (n : Variable). variable_in m (k + (if same_variable n x then 0 else suc (slot_of ss x))) ≡ x) (sym h.0)
    (slot-by (same_variable e.name x) m k e o ss x (find (λ (q : Entry). same_variable q.name x) es) refl (sym h.0 ∙ a.0)
    (λ r. slot-found m (suc k) es ss x o h.2 a.1 r) g)

-- An environment with its scope

pub record IsScoped (m : Truth) (env : Env) (ss : Scope) : Type 0 where
  pub distinct : Distinct env.entries
  pub matches : Matches env.entries ss
  pub slots : AreSlots m 0 ss
  pub self : HasSelf m ss

pub scoped-variable : (m : Truth) (env : Env) (ss : Scope) (x : Variable) (o : Entry) → IsScoped m env ss → entry_of env x ≡ Some o →
    variable_in m (slot_of ss x) ≡ x
scoped-variable m env ss x o h g =
    ap (variable_in m) (none-behind (slot_of ss x)) ∙ slot-found m 0 env.entries ss x o h.matches h.slots g

pub scoped-stays : (m : Truth) (env out : Env) (ss : Scope) → IsScoped m env ss → Stays env out → IsScoped m out ss
scoped-stays m env out ss h g = record {
  distinct = Stays-distinct env out h.distinct g;
  matches = matches-stays env out ss g h.matches;
  slots = h.slots;
  self = h.self;
}

-- a variable with its name in the next slot
pub scoped-more : (m : Truth) (ss : Scope) (x : Name) (t : Ty) (out : Env) → Distinct out.entries → Matches out.entries (with_slot ss (Some x) t) →
    AreSlots m 0 ss → HasSelf m ss → x ≡ variable_name (length ss) → IsScoped m out (with_slot ss (Some x) t)
scoped-more m ss x t out d h a s e = record {
  distinct = d;
  matches = h;
  slots =
      slots-more m 0 ss (record { name = Some x; ty = t }) a (ap Some e ∙ sym (next-variable m ss s) ∙ ap (variable_in m) (none-behind (length ss)));
  self = self-more m ss (record { name = Some x; ty = t });
}

-- Paths

-- a path of which each name is that of its number; and the class behind it, where its type was judged
pub record PathKnown (cs : List Class) (ss : Scope) (m : Truth) (x : Variable) (fs : List Name) : Type 0 where
  pub base : variable_in m (slot_of ss x) ≡ x
  pub fields : Known cs (type_in ss x) fs

module _ (cs : List Class) (named : ClassesNamed cs) where
  fields-class : (fs : List Name) (t u r : Ty) → class_is u ≡ class_is t → walk_fields cs u fs ≡ Ok r →
      Known cs t fs × (class_is (type_along cs t fs) ≡ class_is r)
  fields-class [] t u r e h = (tt, sym e ∙ ap class_is (ok-is h))
  fields-class (f ∷ fs) t u r e h =
      let p = bind-ok (walk_field cs u f) _ r h in
      let q = bind-ok (look_up cs u f) _ p.0 p.1 in
      let k = look_up-ok cs u f q.0 q.1 in
      let c : class_is t ≡ Some k.class = sym e ∙ ap class_is k.reference in
      let behind : type_behind cs t f ≡ q.0.ty = behind-type cs t f k.class q.0.ty c k.declared in
      let rest = fields-class fs (type_behind cs t f) p.0 r (read-class q.0.receiver q.0.ty p.0 q.2 ∙ ap class_is (sym behind)) p.2 in
      ((field-named cs t f k.class q.0.ty named c k.declared, rest.0), rest.1)

  known-last : (t : Ty) (f : Name) (fs : List Name) → Known cs t (all_but_last f fs) →
      Known cs (type_along cs t (all_but_last f fs)) (last_field f fs ∷ []) → Known cs t (f ∷ fs)
  known-last t f [] h e = e
  known-last t f (g ∷ gs) h e = (h.0, known-last (type_behind cs t f) g gs h.1 e)

  module _ (m : Truth) (env : Env) (ss : Scope) (scoped : IsScoped m env ss) where
    -- a path that was walked
    pub walked : (x : Variable) (fs : List Name) (r : Ty) → walk cs env x fs ≡ Ok r →
        PathKnown cs ss m x fs × (class_is (type_along cs (type_in ss x) fs) ≡ class_is r)
    walked x fs r h =
        let e = bind-ok (ok_or (entry_of env x) Unknown) _ r h in
        let there = ok_or-ok (entry_of env x) Unknown e.0 e.1 in
        let found : type_in ss x ≡ e.0.ty = type-found env.entries ss x e.0 scoped.matches there in
        let p = fields-class fs (type_in ss x) (seen_type env e.0) r (seen-class env e.0 ∙ ap class_is (sym found)) e.2 in
        (record { base = scoped-variable m env ss x e.0 scoped there; fields = p.0 }, p.1)

    -- a path up to its last field, which was looked up
    pub received : (x : Variable) (f : Name) (fs : List Name) (r : _) → walk_receiver cs env x f fs ≡ Ok r →
        PathKnown cs ss m x (f ∷ fs) × (type_along cs (type_in ss x) (f ∷ fs) ≡ r.ty)
    received x f fs r h =
        let q = bind-ok (walk cs env x (all_but_last f fs)) _ r h in
        let w = walked x (all_but_last f fs) q.0 q.1 in
        let k = look_up-ok cs q.0 (last_field f fs) r q.2 in
        let t = type_along cs (type_in ss x) (all_but_last f fs) in
        let c : class_is t ≡ Some k.class = w.1 ∙ ap class_is k.reference in
        let last = field-named cs t (last_field f fs) k.class r.ty named c k.declared in (
          record { base = w.0.base; fields = known-last (type_in ss x) f fs w.0.fields (last, tt) },
          along-last cs (type_in ss x) f fs ∙ behind-type cs t (last_field f fs) k.class r.ty c k.declared,
        )

    pub writable : (x : Variable) (f : Name) (fs : List Name) (t : Ty) → writable_field cs env x f fs ≡ Ok t →
        PathKnown cs ss m x (f ∷ fs) × (type_along cs (type_in ss x) (f ∷ fs) ≡ t)
    writable x f fs t h =
        let r = bind-ok (walk_receiver cs env x f fs) _ t h in
        let w = test-then (may_write r.0.receiver) _ _ t r.2 in
        let p = received x f fs r.0 r.1 in (p.0, p.1 ∙ ok-is w.1)

-- with names a known path is itself again
pub path-again : (cs : List Class) (ss : Scope) (m : Truth) (x : Variable) (fs : List Name) → PathKnown cs ss m x fs →
    path_named m (slot_of ss x) (path_numbers cs ss x fs) ≡ record { base = x; fields = fs }
path-again cs ss m x fs h =
    let make : Variable → List Name → Path = λ y gs. record { base = y; fields = gs } in
    ap (λ (y : Variable). make y (map field_name (path_numbers cs ss x fs))) h.base ∙ ap (make x) (known-named cs (type_in ss x) fs h.fields)

-- and it is found
pub path-found : (cs : List Class) (ss : Scope) (m : Truth) (x : Variable) (fs : List Name) → PathKnown cs ss m x fs →
    IsPathFound cs ss m (slot_of ss x) (path_numbers cs ss x fs)
path-found cs ss m x fs h = (
  ap (slot_of ss) h.base,
  subst (λ (y : Variable). AreFound cs (type_in ss y) (path_numbers cs ss x fs)) (sym h.base) (known-found cs (type_in ss x) fs h.fields),
)
