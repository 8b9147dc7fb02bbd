-- The bodies of an accepted program with the names of a module are those with numbers, given their names again.
use Rattle.std.proofs.Common.{◌≡◌, refl, sym, ap, ◌∙◌, subst, ℕ, suc, ◌+◌, true, false, List, [], ◌∷◌, ◌++◌, length, Some, None, arith}
use Rattle.std.proofs.lemmas.List.{length-append}
use Rattle.rg_base.specs.declared.ty.Ty.TheVariants.{Ref}
use Rattle.rg_tree.specs.Tree.{Name, Param, Method, Class, Tree}
use Rattle.rg_rules.specs.Types.{type_of, method_named, method_result}
use Rattle.rg_rules.specs.Environment.{Env, empty, with_variable}
use Rattle.rg_rules.specs.Bodies.{method_env, with_params as env_params}
use Rattle.rg_rules.specs.Acceptance.{Accepted}
use Rattle.rg_rules.proofs.Acceptance.{Accepted-parts, Accepted-method}
use Rattle.rg_sound.proofs.Frames.Method.{method-front}
use Rattle.rg_code.specs.Lowering.{Slot, Scope, with_slot, with_params, method_scope}
use Rattle.rg_verify_expressions.specs.Naming.{variable_name, variable_in}
use Rattle.rg_numbered.specs.ModuleNames.{AreNamed, HaveSlotNames, HasModuleNames}
use Rattle.rg_numbered.specs.Laws.{AcceptedAreNumbered}
use Rattle.rg_numbered.proofs.Classes.{ClassesNamed, none-behind, body-named}
use Rattle.rg_numbered.proofs.Scopes.{IsScoped, Matches, matches-more, AreSlots, HasSelf, slots-more, self-more, next-variable}
use Rattle.rg_numbered.proofs.Statements.{block-numbered}

params-match : (cs : List Class) (ps : List Param) (env : Env) (ss : Scope) → Matches env.entries ss →
    Matches (env_params cs ps env).entries (with_params cs ss ps)
params-match cs [] env ss m = m
params-match cs (p ∷ ps) env ss m =
    params-match cs ps (with_variable env (Some p.name) (type_of cs p.ty) true) (with_slot ss (Some p.name) (type_of cs p.ty))
    (matches-more env.entries ss _ _ m refl refl)

more-slots : (ss : Scope) (s : Slot) → length (ss ++ s ∷ []) ≡ suc (length ss)
more-slots ss s = let n = length-append ss (s ∷ []) in omega (arith, n)

params-slots : (cs : List Class) (ps : List Param) (ss : Scope) → AreSlots true 0 ss → HasSelf true ss →
    AreNamed (λ (p : Param). p.name) variable_name (length ss) ps → AreSlots true 0 (with_params cs ss ps) × HasSelf true (with_params cs ss ps)
params-slots cs [] ss a s n = (a, s)
params-slots cs (p ∷ ps) ss a s n =
    let x : Slot = record { name = Some p.name; ty = type_of cs p.ty } in
    params-slots cs ps (ss ++ x ∷ [])
    (slots-more true 0 ss x a (ap Some n.0 ∙ sym (next-variable true ss s) ∙ ap (variable_in true) (none-behind (length ss))))
    (self-more true ss x) (subst (λ (k : ℕ). AreNamed (λ (q : Param). q.name) variable_name k ps) (sym (more-slots ss x)) n.1)

params-count : (cs : List Class) (ps : List Param) (ss : Scope) → length (with_params cs ss ps) ≡ length ss + length ps
params-count cs [] ss = omega arith
params-count cs (p ∷ ps) ss =
    let x : Slot = record { name = Some p.name; ty = type_of cs p.ty } in
    let rest = params-count cs ps (ss ++ x ∷ []) in
    let one = more-slots ss x in omega (arith, rest, one)

pub names-of : (t : Tree) → HasModuleNames t → ClassesNamed t.classes
names-of t n = record { names = n.classes; members = n.members }

-- in front of main, and of a method
pub main-scoped : IsScoped false empty []
main-scoped = record { distinct = tt; matches = tt; slots = tt; self = tt }

pub method-scoped : (t : Tree) → Accepted t → HasModuleNames t → (c : ℕ) (x : Name) (m : Method) → method_named t.classes c x ≡ Some m →
    IsScoped true (method_env t.classes c m) (method_scope t.classes c m) × HaveSlotNames (length (method_scope t.classes c m)) m.body
method-scoped t a n c x m h =
    let f = method-front t a c x m h in
    let own = body-named t.classes c x m (names-of t n) h in
    let start = with_slot [] None (Ref m.receiver c) in
    let slots = params-slots t.classes m.params start (refl, tt) tt own.params in
    let count = params-count t.classes m.params start in
    let same : suc (length m.params) ≡ length (method_scope t.classes c m) = omega (arith, count) in (
      record {
        distinct = f.distinct;
        matches = params-match t.classes m.params (with_variable empty None (Ref m.receiver c) false) start (refl, refl, tt);
        slots = slots.0;
        self = slots.1;
      },
      subst (λ (k : ℕ). HaveSlotNames k m.body) same own.body,
    )

pub accepted-numbered : AcceptedAreNumbered
accepted-numbered = record {
  main = λ t a n.
      let p = Accepted-parts t a in
      let b = block-numbered t.classes (names-of t n) false None empty p.out [] t.body main-scoped n.main p.main in
      record { named = b.named; found = b.found };
  methods = λ t a n c x m h.
      let p = Accepted-method t a c x m h in
      let s = method-scoped t a n c x m h in
      let b =
      block-numbered t.classes (names-of t n) true (method_result t.classes m) (method_env t.classes c m) p.out
      (method_scope t.classes c m) m.body s.0 s.1 p.body in
      record { named = b.named; found = b.found };
}
