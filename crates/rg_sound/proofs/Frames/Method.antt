-- The environment in front of a method's body: its names differ, nothing is lent, and a called frame has its variables.
use Rattle.std.proofs.Common.{◌≡◌, refl, sym, ◌∙◌, subst, inl, inr, ℕ, zero, suc, Bool, true, false, not, if◌then◌else◌, bytes_eq, List, [], ◌∷◌}
use Rattle.std.proofs.Common.{◌++◌, find, Option, Some, None, is_some, slice_get, Ok, arith}
use Rattle.std.proofs.lemmas.List.{append-nil, append_assoc}
use Rattle.std.proofs.lemmas.Slice.Eq.{bytes_eq-Decides}
use Rattle.std.proofs.lemmas.Bool.{not-true}
use Rattle.rg_base.specs.declared.ty.Ty.{Ty}
use Rattle.rg_base.specs.declared.ty.Ty.TheVariants.{Ref}
use Rattle.rg_base.specs.declared.fault.Code.TheVariants.{Duplicate, BadType}
use Rattle.rg_base.specs.declared.value.Val.{Val}
use Rattle.rg_base.specs.declared.value.Val.TheVariants.{Nil}
use Rattle.rg_tree.specs.Tree.{Name, Variable, Ty as Written, Param, Method, Class, Tree}
use Rattle.rg_rules.specs.Types.{type_of, good_type, method_named, method_result}
use Rattle.rg_rules.specs.Headers.{among, param_headers, suits_receiver}
use Rattle.rg_rules.specs.Environment.{Env, Entry, same_variable, ready, is_lent, empty, with_variable}
use Rattle.rg_rules.specs.Items.{Item}
use Rattle.rg_rules.specs.Bodies.{Body, main_body, method_body, method_end, with_params, method_env}
use Rattle.rg_rules.specs.State.{Local, Frame, Window, Target}
use Rattle.rg_rules.specs.RightSides.{bound}
use Rattle.rg_rules.specs.Acceptance.{Accepted}
use Rattle.rg_rules.proofs.Answers.{test-then, then-ok}
use Rattle.rg_rules.proofs.Acceptance.{Accepted-parts}
use Rattle.rg_rules.proofs.Header.{judge_headers-method}
use Rattle.rg_sound.specs.Frames.{leaves, Named, Beneath}
use Rattle.rg_sound.proofs.Basics.{none-some}
use Rattle.rg_sound.proofs.Frames.Entry.{Absent, Distinct, Distinct-snoc}
use Rattle.rg_sound.proofs.Frames.Named.{Named-snoc}

-- a name is `self`, or among others
abbrev IsEarlier : List Name → Variable → Type 0
IsEarlier earlier None = Unit {0}
IsEarlier earlier (Some y) = among y earlier ≡ true

-- each entry is one of the names
abbrev Earlier : List Name → List Entry → Type 0
Earlier earlier [] = Unit {0}
Earlier earlier (e ∷ es) = IsEarlier earlier e.name × Earlier earlier es

among-more_by : (b : Bool) (x : Name) (rest : Option Name) → is_some rest ≡ true → is_some (if b then Some x else rest) ≡ true
among-more_by true x rest h = refl
among-more_by false x rest h = h

among-same : (x : Name) (names : List Name) → among x (x ∷ names) ≡ true
among-same x names = by (bytes_eq x x) ((bytes_eq-Decides x x).1 refl)
  where
    by : (b : Bool) → b ≡ true → is_some (if b then Some x else find (bytes_eq x) names) ≡ true
    by true e = refl
    by false e = grind arith

IsEarlier-more : (x : Name) (earlier : List Name) (y : Variable) → IsEarlier earlier y → IsEarlier (x ∷ earlier) y
IsEarlier-more x earlier None h = tt
IsEarlier-more x earlier (Some y) h = among-more_by (bytes_eq y x) x (find (bytes_eq y) earlier) h

Earlier-snoc : (x : Name) (earlier : List Name) (es : List Entry) (n : Entry) → n.name ≡ Some x → Earlier earlier es →
    Earlier (x ∷ earlier) (es ++ n ∷ [])
Earlier-snoc x earlier [] n e h = (let P : Variable → Type 0 = λ q. IsEarlier (x ∷ earlier) q in subst P (sym e) (among-same x earlier), tt)
Earlier-snoc x earlier (f ∷ es) n e h = (IsEarlier-more x earlier f.name h.0, Earlier-snoc x earlier es n e h.1)

apart : (y x : Name) (earlier : List Name) (b : Bool) → bytes_eq y x ≡ b → among y earlier ≡ true → among x earlier ≡ false → b ≡ false
apart y x earlier false e h k = refl
apart y x earlier true e h k = let same : y ≡ x = (bytes_eq-Decides y x).0 e in let no : true ≡ false = sym h ∙ rw same k in grind arith

other-name : (x : Name) (earlier : List Name) (y : Variable) → IsEarlier earlier y → among x earlier ≡ false → same_variable y (Some x) ≡ false
other-name x earlier None h k = refl
other-name x earlier (Some y) h k = apart y x earlier (bytes_eq y x) refl h k

earlier-absent : (x : Name) (earlier : List Name) (es : List Entry) → Earlier earlier es → among x earlier ≡ false → Absent (Some x) es
earlier-absent x earlier [] h k = tt
earlier-absent x earlier (e ∷ es) h k = (other-name x earlier e.name h.0 k, earlier-absent x earlier es h.1 k)

-- parameters without a fault have names that differ
with_params-distinct : (classes : List Class) (earlier : List Name) (ps : List Param) (env : Env) → Distinct env.entries →
    Earlier earlier env.entries →
    param_headers classes earlier ps ≡ Ok tt → Distinct (with_params classes ps env).entries
with_params-distinct classes earlier [] env d e h = d
with_params-distinct classes earlier (p ∷ ps) env d e h =
    let q = test-then (not (among p.name earlier)) Duplicate _ tt h in
    let r = then-ok (good_type classes p.ty) _ tt q.1 in
    let new : Entry = record { name = Some p.name; ty = type_of classes p.ty; depth = env.depth; readiness = ready; assignable = true } in
    let gone = earlier-absent p.name earlier env.entries e (not-true (among p.name earlier) q.0) in
    with_params-distinct classes (p.name ∷ earlier) ps (with_variable env (Some p.name) (type_of classes p.ty) true)
    (Distinct-snoc env.entries new d gone) (Earlier-snoc p.name earlier env.entries new refl e) r.2

-- entries of depth 0, none of them lent
abbrev pub Plain : List Entry → Type 0
Plain [] = Unit {0}
Plain (e ∷ es) = (e.depth ≡ 0) × (is_lent e.readiness ≡ false) × Plain es

Plain-snoc : (es : List Entry) (n : Entry) → n.depth ≡ 0 → is_lent n.readiness ≡ false → Plain es → Plain (es ++ n ∷ [])
Plain-snoc [] n d l h = (d, l, tt)
Plain-snoc (e ∷ es) n d l h = (h.0, h.1, Plain-snoc es n d l h.2)

pub Plain-at : (es : List Entry) (i : ℕ) (e : Entry) → Plain es → slice_get es i ≡ Some e → (e.depth ≡ 0) × (is_lent e.readiness ≡ false)
Plain-at [] i e h g = none-some g
Plain-at (f ∷ es) zero e h g = let same : f ≡ e = grind arith in rw (← same) (h.0, h.1)
Plain-at (f ∷ es) (suc i) e h g = Plain-at es i e h.2 g

with_params-plain : (classes : List Class) (ps : List Param) (env : Env) → env.depth ≡ 0 → Plain env.entries →
    (Plain (with_params classes ps env).entries) × ((with_params classes ps env).depth ≡ 0)
with_params-plain classes [] env d h = (h, d)
with_params-plain classes (p ∷ ps) env d h =
    let new : Entry = record { name = Some p.name; ty = type_of classes p.ty; depth = env.depth; readiness = ready; assignable = true } in
    with_params-plain classes ps (with_variable env (Some p.name) (type_of classes p.ty) true) d (Plain-snoc env.entries new d refl h)

pub method_env-plain : (classes : List Class) (c : ℕ) (m : Method) → (Plain (method_env classes c m).entries) × ((method_env classes c m).depth ≡ 0)
method_env-plain classes c m = with_params-plain classes m.params (with_variable empty None (Ref m.receiver c) false) refl (refl, refl, tt)

-- the variables of a called frame are those of the environment in front of the method
with_params-named : (classes : List Class) (ps : List Param) (vs : List Val) (env : Env) (ls : List Local) → Named env.entries ls →
    Named (with_params classes ps env).entries (ls ++ bound classes ps vs)
with_params-named classes [] vs env ls h = let P : List Local → Type 0 = λ q. Named env.entries q in subst P (sym (append-nil ls)) h
with_params-named classes (p ∷ ps) [] env ls h =
    let new : Entry = record { name = Some p.name; ty = type_of classes p.ty; depth = env.depth; readiness = ready; assignable = true } in
    let l : Local = record { name = Some p.name; ty = type_of classes p.ty; value = Nil } in
    let next = with_variable env (Some p.name) (type_of classes p.ty) true in
    let P : List Local → Type 0 = λ q. Named (with_params classes ps next).entries q in
    subst P (append_assoc ls (l ∷ []) (bound classes ps [])) (with_params-named classes ps [] next (ls ++ l ∷ [])
    (Named-snoc env.entries ls new l h refl refl))
with_params-named classes (p ∷ ps) (v ∷ vs) env ls h =
    let new : Entry = record { name = Some p.name; ty = type_of classes p.ty; depth = env.depth; readiness = ready; assignable = true } in
    let l : Local = record { name = Some p.name; ty = type_of classes p.ty; value = v } in
    let next = with_variable env (Some p.name) (type_of classes p.ty) true in
    let P : List Local → Type 0 = λ q. Named (with_params classes ps next).entries q in
    subst P (append_assoc ls (l ∷ []) (bound classes ps vs)) (with_params-named classes ps vs next (ls ++ l ∷ [])
    (Named-snoc env.entries ls new l h refl refl))

pub method_env-named : (classes : List Class) (c : ℕ) (m : Method) (self : Val) (vs : List Val) →
    Named (method_env classes c m).entries (record { name = None; ty = Ref m.receiver c; value = self } ∷ bound classes m.params vs)
method_env-named classes c m self vs =
    with_params-named classes m.params vs (with_variable empty None (Ref m.receiver c) false)
    (record { name = None; ty = Ref m.receiver c; value = self } ∷ []) (refl, refl, tt)

-- what holds in front of a body
pub record Front (b : Body) : Type 0 where
  pub distinct : Distinct b.front.entries
  pub depth : b.front.depth ≡ 0
  pub no_leave : leaves b.after ≡ []
  pub given : (ty : Ty) → b.result ≡ Some ty → b.after ≡ []

main-front : (t : Tree) → Front (main_body t)
main-front t = record { distinct = tt; depth = refl; no_leave = refl; given = λ ty e. none-some e }

pub end-leaves : (result : Option Written) → leaves (method_end result) ≡ []
end-leaves None = refl
end-leaves (Some r) = refl

end-given : (classes : List Class) (m : Method) (r : Option Written) → m.result ≡ r → (ty : Ty) → method_result classes m ≡ Some ty →
    method_end r ≡ []
end-given classes m None e ty h = let no : None ≡ Some ty = rw e at h in none-some no
end-given classes m (Some r) e ty h = refl

pub method-front : (t : Tree) → Accepted t → (c : ℕ) (x : Name) (m : Method) → method_named t.classes c x ≡ Some m → Front (method_body t.classes c m)
method-front t a c x m h =
    let j = judge_headers-method t.classes c x m (Accepted-parts t a).headers h in
    let r = test-then (suits_receiver m.receiver j.class.is_tmp) BadType _ tt j.passed in
    let s = then-ok (param_headers t.classes [] m.params) _ tt r.1 in
    record {
      distinct = with_params-distinct t.classes [] m.params (with_variable empty None (Ref m.receiver c) false) (tt, tt) (tt, tt) s.1;
      depth = (method_env-plain t.classes c m).1;
      no_leave = end-leaves m.result;
      given = λ ty e. end-given t.classes m m.result refl ty e;
    }

front_is : (b c : Body) → b ≡ c → Front c → Front b
front_is b c e r = rw e r

pub body-front : (t : Tree) → Accepted t → (fs : List Frame) (ws : List Window) (items : List Item) (b : Body) (target : Target) →
    Beneath t fs ws items b target → Front b
body-front t a [] ws items b target h = front_is b (main_body t) h.0 (main-front t)
body-front t a (f ∷ fs) ws items b target h = elim (h.7) [
  | inl w ↦ front_is b _ w.calls.callee_is (method-front t a w.calls.class w.calls.made.method w.calls.called w.calls.called_is)
  | inr w ↦ front_is b _ w.callee_is (method-front t a w.class w.name w.called w.called_is)
]
