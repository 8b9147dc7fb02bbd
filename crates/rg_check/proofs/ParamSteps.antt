-- The parameters of a method, added one after another.
use Rattle.std.proofs.Common.{◌≡◌, ℕ, suc, ◌+◌, ◌<◌, true, false, List, [], ◌∷◌, drop, get_or, length, map, None, Some, Result, Ok, IfOk, All, sym}
use Rattle.std.proofs.Common.{ap, subst, ◌∙◌, arith, add-one, drop-cons, length-append}
use Rattle.std.proofs.lemmas.List.{get_or-map, length-map}
use Rattle.std.proofs.lemmas.List.Elements.{All-get_or, All-push}
use Rattle.std.proofs.lemmas.Result.{IfOk-weaker}
use Rattle.rg_base.specs.declared.fault.Memory.{Memory}
use Rattle.rg_base.specs.declared.ty.Ty.{Ty}
use Rattle.rg_base.specs.declared.ty.Ty.TheVariants.{Ref}
use Rattle.rg_tree.specs.declared.rows.ParamRow.{ParamRow}
use Rattle.rg_tree.specs.Tree.{Param}
use Rattle.rg_tree.specs.Rows.Tables.{Tables, name_at, numbers_in}
use Rattle.rg_tree.specs.Rows.RowTrees.{param_at, param_of, classes_of, type_of as written, method_of}
use Rattle.rg_tree.specs.Rows.RowsExist.{IsParamIn}
use Rattle.rg_tree.specs.declared.rows.MethodRow.{MethodRow}
use Rattle.rg_rules.specs.Types.{type_of, good_type}
use Rattle.rg_rules.specs.Environment.{empty, with_variable, ready}
use Rattle.rg_rules.specs.Bodies.{with_params, method_env}
use Rattle.rg_rules.proofs.Header.{good_type-type_of}
use Rattle.rg_names.specs.TreeAnswers.{IsKnown}
use Rattle.rg_flow.specs.Scope.{Scope, Slot, no_variables, pushed, env_of, IsSlotIn, IsScopeIn}
use Rattle.rg_check.specs.Inner.Methods.{IsGood}

-- the first i parameters were added
pub record ParamsUpTo (t : Tables) (front : Scope) (ks : List ℕ) (i : ℕ) (env : Scope) : Type 0 where
  pub scope : IsScopeIn t env
  pub names : length env.slots ≡ length front.slots + i
  pub added : with_params (classes_of t) (map (param_at t) (drop i ks)) (env_of t env)
      ≡ with_params (classes_of t) (map (param_at t) ks) (env_of t front)

-- the type of the next parameter is good
pub param-good : (t : Tables) (ks : List ℕ) (i : ℕ) (row : ParamRow) → i < length ks → param_at t (get_or ks i 0) ≡ param_of t row →
    All (λ p. IsGood (classes_of t) p.ty) (map (param_at t) ks) → IsGood (classes_of t) (written t row.ty)
param-good t ks i row l tree all =
    let e : get_or (map (param_at t) ks) i (param_of t row) ≡ param_of t row = get_or-map (param_at t) ks i 0 (param_of t row) l ∙ tree in
    let P : Param → Type 0 = λ p. IsGood (classes_of t) p.ty in
    subst P e (All-get_or P (map (param_at t) ks) i (param_of t row) (rw length-map l) all)

-- one more parameter was added
pub params-step : (t : Tables) (front : Scope) (ks : List ℕ) (i : ℕ) (env : Scope) (row : ParamRow) → i < length ks →
    param_at t (get_or ks i 0) ≡ param_of t row → ParamsUpTo t front ks i env → IsParamIn t row → (ty : Ty) →
    good_type (classes_of t) (written t row.ty) ≡ Ok ty → IsKnown (classes_of t) ty → (out : Scope) → out ≡ pushed env (Some row.name) ty true →
    env_of t out ≡ with_variable (env_of t env) (Some (name_at t row.name)) ty true → ParamsUpTo t front ks (i + 1) out
params-step t front ks i env row l tree h in' ty good known out e is =
    let slot : Slot = record { name = Some row.name; ty = ty; depth = env.depth; readiness = ready; assignable = true } in
    let x = Some (name_at t row.name) in
    let rest = ap (map (param_at t)) (drop-cons ks i 0 l) ∙ ap (λ p. p ∷ map (param_at t) (drop (suc i) ks)) tree in
    let here : env_of t out ≡ with_variable (env_of t env) x (type_of (classes_of t) (written t row.ty)) true =
    is ∙ ap (λ y. with_variable (env_of t env) x y true) (good_type-type_of (classes_of t) (written t row.ty) ty good) in
    let scope : IsScopeIn t (pushed env (Some row.name) ty true) =
    All-push (IsSlotIn t) env.slots slot h.scope (record { name = in'.name; ty = known }) in
    let names : length (pushed env (Some row.name) ty true).slots ≡ length front.slots + suc i =
    omega (arith, h.names, length-append env.slots (slot ∷ [])) in
    rw add-one (record {
      scope = subst (IsScopeIn t) (sym e) scope;
      names = ap (λ (s : Scope). length s.slots) e ∙ names;
      added = ap (with_params (classes_of t) (map (param_at t) (drop (suc i) ks))) here
          ∙ sym (ap (λ ps. with_params (classes_of t) ps (env_of t env)) rest) ∙ h.added;
    })

-- the variables in front of a method are `self` and its parameters
pub front-is : (t : Tables) (class : ℕ) (m : MethodRow) (new env : Scope) (these : List ℕ) (r : Result Scope Memory) → new ≡ no_variables →
    env_of t env ≡ with_variable (env_of t new) None (Ref m.cap class) false → these ≡ numbers_in t m.params →
    IfOk r (λ out. env_of t out ≡ with_params (classes_of t) (map (param_at t) these) (env_of t env)) →
    IfOk r (λ out. env_of t out ≡ method_env (classes_of t) class (method_of t m))
front-is t class m new env these r e f g h =
    let self_only = with_variable empty None (Ref m.cap class) false in
    let front : env_of t env ≡ self_only = f ∙ ap (λ (s : Scope). with_variable (env_of t s) None (Ref m.cap class) false) e in
    let same : with_params (classes_of t) (map (param_at t) these) (env_of t env) ≡ method_env (classes_of t) class (method_of t m) =
    ap (with_params (classes_of t) (map (param_at t) these)) front ∙ ap (λ ks. with_params (classes_of t) (map (param_at t) ks) self_only) g in
    IfOk-weaker r _ _ (λ out k. k ∙ same) h
