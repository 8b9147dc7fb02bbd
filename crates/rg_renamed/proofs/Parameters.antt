-- Parameters with the names of their slots; and that those of an accepted method have names that differ.
use Rattle.std.proofs.Common.{◌≡◌, refl, sym, ap, ◌∙◌, subst, ℕ, suc, ◌+◌, ◌<◌, ◌^◌, Bool as Truth, true, false, not, if◌then◌else◌, bytes_eq, List}
use Rattle.std.proofs.Common.{[], ◌∷◌}
use Rattle.std.proofs.Common.{◌++◌, length, find, Option, Some, None, is_some, Ok, arith}
use Rattle.std.proofs.lemmas.Bool.{not-true}
use Rattle.std.proofs.lemmas.Slice.Eq.{bytes_eq-Decides}
use Rattle.std.proofs.lemmas.List.{length-append}
use Rattle.rg_base.specs.declared.ty.Ty.{Ty}
use Rattle.rg_base.specs.declared.ty.Ty.TheVariants.{Ref}
use Rattle.rg_base.specs.declared.fault.Code.TheVariants.{Duplicate}
use Rattle.rg_tree.specs.Tree.{Name, Variable, Param, Method, Class}
use Rattle.rg_rules.specs.Types.{type_of, good_type}
use Rattle.rg_rules.specs.Headers.{among, param_headers}
use Rattle.rg_rules.specs.Environment.{Env, Entry, ready, same_variable, empty, with_variable}
use Rattle.rg_rules.specs.Bodies.{method_env, with_params as env_params}
use Rattle.rg_rules.proofs.Answers.{then-ok, test-then}
use Rattle.rg_sound.proofs.Frames.Entry.{Absent, Distinct, Distinct-snoc}
use Rattle.rg_code.specs.Lowering.{Slot, Scope, with_slot, with_params, method_scope}
use Rattle.rg_verify_expressions.specs.Naming.{variable_name}
use Rattle.rg_renamed.specs.Renamed.{renamed_classes, renamed_type, renamed_params, renamed_method}
use Rattle.rg_renamed.proofs.Numbered.{method-slots}
use Rattle.rg_renamed.proofs.Classes.{AreFew, type-again}
use Rattle.rg_renamed.proofs.Environments.{Matches, matches-more}
use Rattle.rg_renamed.proofs.Scopes.{scope_again, env_again, HasSelf, Scoped, matches-long, self-more, more-in, slots-more, scope-more}

-- a name is `self`, or among others
abbrev IsEarlier : List Name → Variable → Type 0
IsEarlier earlier None = Unit {0}
IsEarlier earlier (Some y) = among y earlier ≡ true

-- each entry is one of the names
abbrev Earlier : List Name → List Entry → Type 0
Earlier earlier [] = Unit {0}
Earlier earlier (e ∷ es) = IsEarlier earlier e.name × Earlier earlier es

among-more_by : (b : Truth) (x : Name) (rest : Option Name) → is_some rest ≡ true → is_some (if b then Some x else rest) ≡ true
among-more_by true x rest h = refl
among-more_by false x rest h = h

among-same : (x : Name) (names : List Name) → among x (x ∷ names) ≡ true
among-same x names = by (bytes_eq x x) ((bytes_eq-Decides x x).1 refl)
  where
    by : (b : Truth) → b ≡ true → is_some (if b then Some x else find (bytes_eq x) names) ≡ true
    by true e = refl
    by false e = grind arith

IsEarlier-more : (x : Name) (earlier : List Name) (y : Variable) → IsEarlier earlier y → IsEarlier (x ∷ earlier) y
IsEarlier-more x earlier None h = tt
IsEarlier-more x earlier (Some y) h = among-more_by (bytes_eq y x) x (find (bytes_eq y) earlier) h

Earlier-snoc : (x : Name) (earlier : List Name) (es : List Entry) (n : Entry) → n.name ≡ Some x → Earlier earlier es →
    Earlier (x ∷ earlier) (es ++ n ∷ [])
Earlier-snoc x earlier [] n e h = (let P : Variable → Type 0 = λ q. IsEarlier (x ∷ earlier) q in subst P (sym e) (among-same x earlier), tt)
Earlier-snoc x earlier (f ∷ es) n e h = (IsEarlier-more x earlier f.name h.0, Earlier-snoc x earlier es n e h.1)

apart : (y x : Name) (earlier : List Name) (b : Truth) → bytes_eq y x ≡ b → among y earlier ≡ true → among x earlier ≡ false → b ≡ false
apart y x earlier false e h k = refl
apart y x earlier true e h k = let same : y ≡ x = (bytes_eq-Decides y x).0 e in let no : true ≡ false = sym h ∙ rw same k in grind arith

other-name : (x : Name) (earlier : List Name) (y : Variable) → IsEarlier earlier y → among x earlier ≡ false → same_variable y (Some x) ≡ false
other-name x earlier None h k = refl
other-name x earlier (Some y) h k = apart y x earlier (bytes_eq y x) refl h k

earlier-absent : (x : Name) (earlier : List Name) (es : List Entry) → Earlier earlier es → among x earlier ≡ false → Absent (Some x) es
earlier-absent x earlier [] h k = tt
earlier-absent x earlier (e ∷ es) h k = (other-name x earlier e.name h.0 k, earlier-absent x earlier es h.1 k)

-- parameters without a fault have names that differ
with_params-distinct : (classes : List Class) (earlier : List Name) (ps : List Param) (env : Env) → Distinct env.entries →
    Earlier earlier env.entries →
    param_headers classes earlier ps ≡ Ok tt → Distinct (env_params classes ps env).entries
with_params-distinct classes earlier [] env d e h = d
with_params-distinct classes earlier (p ∷ ps) env d e h =
    let q = test-then (not (among p.name earlier)) Duplicate _ tt h in
    let r = then-ok (good_type classes p.ty) _ tt q.1 in
    let new : Entry = record { name = Some p.name; ty = type_of classes p.ty; depth = env.depth; readiness = ready; assignable = true } in
    let gone = earlier-absent p.name earlier env.entries e (not-true (among p.name earlier) q.0) in
    with_params-distinct classes (p.name ∷ earlier) ps (with_variable env (Some p.name) (type_of classes p.ty) true)
    (Distinct-snoc env.entries new d gone) (Earlier-snoc p.name earlier env.entries new refl e) r.2

-- Their variables

params-match : (cs : List Class) (ps : List Param) (env : Env) (ss : Scope) → Matches env.entries ss →
    Matches (env_params cs ps env).entries (with_params cs ss ps)
params-match cs [] env ss m = m
params-match cs (p ∷ ps) env ss m =
    params-match cs ps (with_variable env (Some p.name) (type_of cs p.ty) true) (with_slot ss (Some p.name) (type_of cs p.ty))
    (matches-more env.entries ss _ _ m refl refl)

params-self : (cs : List Class) (ps : List Param) (ss : Scope) → HasSelf true ss → HasSelf true (with_params cs ss ps)
params-self cs [] ss h = h
params-self cs (p ∷ ps) ss h = params-self cs ps (with_slot ss (Some p.name) (type_of cs p.ty)) (self-more true ss _ h)

-- in front of an accepted method
pub method-scoped : (cs : List Class) (c : ℕ) (m : Method) → param_headers cs [] m.params ≡ Ok tt → suc (length m.params) < 2 ^ 64 →
    Scoped true (method_env cs c m) (method_scope cs c m)
method-scoped cs c m h l =
    let front = with_variable empty None (Ref m.receiver c) false in
    let start = with_slot [] None (Ref m.receiver c) in
    record {
      distinct = with_params-distinct cs [] m.params front (tt, tt) (tt, tt) h;
      matches = params-match cs m.params front start (refl, refl, tt);
      self = params-self cs m.params start refl;
      room = subst (λ (n : ℕ). n < 2 ^ 64) (sym (method-slots cs c m)) l;
    }

-- Again

module _ (cs : List Class) (few : AreFew cs) where
  abbrev again : List Class
  again = renamed_classes cs

  params-scope : (ps : List Param) (ss : Scope) (k : ℕ) → k ≡ length ss → HasSelf true ss →
      with_params again (scope_again true ss) (renamed_params cs k ps) ≡ scope_again true (with_params cs ss ps)
  params-scope [] ss k e h = refl
  params-scope (p ∷ ps) ss k e h =
      let next = with_slot ss (Some p.name) (type_of cs p.ty) in
      let long = slots-more ss (record { name = Some p.name; ty = type_of cs p.ty }) in
      let first : with_slot (scope_again true ss) (Some (variable_name k)) (type_of again (renamed_type cs p.ty)) ≡ scope_again true next =
      ap (with_slot (scope_again true ss) (Some (variable_name k))) (type-again cs few p.ty)
      ∙ ap (λ (n : ℕ). with_slot (scope_again true ss) (Some (variable_name n)) (type_of cs p.ty)) e
      ∙ scope-more true ss (Some p.name) (type_of cs p.ty) h in
      ap (λ (ts : Scope). with_params again ts (renamed_params cs (suc k) ps)) first
      ∙ params-scope ps next (suc k) (omega (arith, e, long)) (self-more true ss _ h)

  params-env : (ps : List Param) (env : Env) (ss : Scope) (k : ℕ) → k ≡ length ss → Matches env.entries ss → HasSelf true ss →
      env_params again (renamed_params cs k ps) (env_again true env) ≡ env_again true (env_params cs ps env)
  params-env [] env ss k e m h = refl
  params-env (p ∷ ps) env ss k e m h =
      let next = with_slot ss (Some p.name) (type_of cs p.ty) in
      let front = with_variable env (Some p.name) (type_of cs p.ty) true in
      let long = slots-more ss (record { name = Some p.name; ty = type_of cs p.ty }) in
      let first : with_variable (env_again true env) (Some (variable_name k)) (type_of again (renamed_type cs p.ty)) true ≡ env_again true front =
      ap (λ (t : Ty). with_variable (env_again true env) (Some (variable_name k)) t true) (type-again cs few p.ty)
      ∙ ap (λ (n : ℕ). with_variable (env_again true env) (Some (variable_name n)) (type_of cs p.ty) true) e
      ∙ more-in true ss env (Some p.name) (type_of cs p.ty) true h (matches-long env.entries ss m) in
      ap (env_params again (renamed_params cs (suc k) ps)) first
      ∙ params-env ps front next (suc k) (omega (arith, e, long)) (matches-more env.entries ss _ _ m refl refl) (self-more true ss _ h)

  pub method-scope-again : (c k : ℕ) (m : Method) → method_scope again c (renamed_method cs c k m) ≡ scope_again true (method_scope cs c m)
  method-scope-again c k m = params-scope m.params (with_slot [] None (Ref m.receiver c)) 1 refl refl

  pub method-env-again : (c k : ℕ) (m : Method) → method_env again c (renamed_method cs c k m) ≡ env_again true (method_env cs c m)
  method-env-again c k m =
      params-env m.params (with_variable empty None (Ref m.receiver c) false) (with_slot [] None (Ref m.receiver c)) 1 refl (refl, refl, tt) refl
