-- Paths that were walked are walked again by their numbers, and are found by them.
use Rattle.std.proofs.Common.{◌≡◌, refl, sym, ap, ◌∙◌, subst, ℕ, zero, suc, ◌+◌, Bool as Truth, true, false, if◌then◌else◌, List, [], ◌∷◌, ◌++◌}
use Rattle.std.proofs.Common.{length}
use Rattle.std.proofs.Common.{map, Option, Some, None, ok_or, unwrap_or, Ok, arith}
use Rattle.rg_base.specs.declared.words.Cap.{Cap}
use Rattle.rg_base.specs.declared.ty.Ty.{Ty}
use Rattle.rg_base.specs.declared.ty.Ty.TheVariants.{Int, Bool, Ref}
use Rattle.rg_base.specs.declared.fault.Code.TheVariants.{Unknown, Mismatch, Capability}
use Rattle.rg_tree.specs.Tree.{Name, Variable, Class}
use Rattle.rg_rules.specs.Answers.{◌>>=◌}
use Rattle.rg_rules.specs.Capabilities.{may_write}
use Rattle.rg_rules.specs.Types.{fields_of, field_place, field_type, element_type}
use Rattle.rg_rules.specs.Environment.{Env, Entry, entry_of, seen_type}
use Rattle.rg_rules.specs.Paths.{Followed, Looked, follow, look_up, read_through, walk_field, walk_fields, walk, walk_array, all_but_last, last_field}
use Rattle.rg_rules.specs.Paths.{walk_receiver, writable_field}
use Rattle.rg_rules.proofs.Answers.{bind-ok, test-then, ok_or-ok}
use Rattle.rg_rules.proofs.Path.{follow-ok, look_up-ok}
use Rattle.rg_code.specs.Lowering.{Scope, slot_of, type_in, field_number, type_behind, type_along, held_number, class_of}
use Rattle.rg_verify_expressions.specs.Naming.{variable_in, field_name}
use Rattle.rg_verify_expressions.specs.Raised.{AreFound, IsPathFound}
use Rattle.rg_numbered.specs.Numbered.{field_numbers, path_numbers}
use Rattle.rg_renamed.specs.Renamed.{renamed_classes}
use Rattle.rg_renamed.proofs.Classes.{AreFew, FieldAgain, field-again, element-again, classes-long}
use Rattle.rg_renamed.proofs.Environments.{class_is, seen-class, read-class, fields-class, along-last, behind-type, type-found, some-is, none-some}
use Rattle.rg_renamed.proofs.Environments.{ok-is}
use Rattle.rg_renamed.proofs.Follows.{Follows, ok-follows, same-follows, bind-follows, test-follows, found-follows}
use Rattle.rg_renamed.proofs.Scopes.{scope_again, entry_again, env_again, Scoped, slot-is, type-is, found-again}

-- the names of the numbers of fields behind a type
abbrev pub names_again : List Class → Ty → List Name → List Name
names_again cs t fs = map field_name (field_numbers cs t fs)

-- the name of the number of one
abbrev pub name_again : List Class → Ty → Name → Name
name_again cs t f = field_name (field_number cs t f)

-- a last field is the last again
pub split-numbers : (cs : List Class) (t : Ty) (f : Name) (fs : List Name) →
    field_numbers cs t (all_but_last f fs) ++ field_number cs (type_along cs t (all_but_last f fs)) (last_field f fs) ∷ []
    ≡ field_numbers cs t (f ∷ fs)
split-numbers cs t f [] = refl
split-numbers cs t f (g ∷ gs) = ap (λ (ks : List ℕ). field_number cs t f ∷ ks) (split-numbers cs (type_behind cs t f) g gs)

front-again : (cs : List Class) (t : Ty) (f : Name) (fs : List Name) →
    all_but_last (name_again cs t f) (names_again cs (type_behind cs t f) fs) ≡ names_again cs t (all_but_last f fs)
front-again cs t f [] = refl
front-again cs t f (g ∷ gs) = ap (λ (ks : List Name). name_again cs t f ∷ ks) (front-again cs (type_behind cs t f) g gs)

last-again : (cs : List Class) (t : Ty) (f : Name) (fs : List Name) →
    last_field (name_again cs t f) (names_again cs (type_behind cs t f) fs)
    ≡ name_again cs (type_along cs t (all_but_last f fs)) (last_field f fs)
last-again cs t f [] = refl
last-again cs t f (g ∷ gs) = last-again cs (type_behind cs t f) g gs

pub class_of-again : (cs : List Class) (t : Ty) → class_of (renamed_classes cs) t ≡ class_of cs t
class_of-again cs Int = classes-long cs
class_of-again cs Bool = classes-long cs
class_of-again cs (Ref cap c) = refl

found-more : (cs : List Class) (t : Ty) (ks : List ℕ) (k : ℕ) → AreFound cs t ks →
    field_number cs (type_along cs t (map field_name ks)) (field_name k) ≡ k → AreFound cs t (ks ++ k ∷ [])
found-more cs t [] k h e = (e, tt)
found-more cs t (j ∷ ks) k h e = (h.0, found-more cs (type_behind cs t (field_name j)) ks k h.1 e)

module _ (cs : List Class) (few : AreFew cs) where
  abbrev again : List Class
  again = renamed_classes cs

  -- a field behind a type, by its number
  record FieldStep (t : Ty) (f : Name) (c : ℕ) (d : Ty) : Type 0 where
    declared : field_type again c (name_again cs t f) ≡ Some d
    number : field_number again t (name_again cs t f) ≡ field_number cs t f
    behind : type_behind cs t f ≡ d
    behind_again : type_behind again t (name_again cs t f) ≡ d

  field-step : (t : Ty) (f : Name) (c : ℕ) (d : Ty) → class_is t ≡ Some c → field_type cs c f ≡ Some d → FieldStep t f c d
  field-step Int f c d h g = absurd (none-some h)
  field-step Bool f c d h g = absurd (none-some h)
  field-step (Ref cap k) f c d h g =
      let own : field_type cs k f ≡ Some d = subst (λ (q : ℕ). field_type cs q f ≡ Some d) (sym (some-is h)) g in
      let a = field-again cs few k f d own in
      let n : field_number cs (Ref cap k) f ≡ a.place = ap (λ (o : Option ℕ). unwrap_or o 0) a.there in
      let declared : field_type again k (name_again cs (Ref cap k) f) ≡ Some d =
      ap (λ (j : ℕ). field_type again k (field_name j)) n ∙ a.declared in
      record {
        declared = subst (λ (q : ℕ). field_type again q (name_again cs (Ref cap k) f) ≡ Some d) (some-is h) declared;
        number = ap (λ (j : ℕ). field_number again (Ref cap k) (field_name j)) n ∙ ap (λ (o : Option ℕ). unwrap_or o 0) a.again_there ∙ sym n;
        behind = ap (λ (o : Option Ty). unwrap_or o Int) own;
        behind_again = ap (λ (o : Option Ty). unwrap_or o Int) declared;
      }

  look-follows : (t u : Ty) (f : Name) → class_is u ≡ class_is t → Follows (λ (q : Looked). q) (look_up cs u f) (look_up again u (name_again cs t f))
  look-follows t u f e =
      bind-follows (λ (r : Followed). r) _ _ _ _ _ (same-follows _ _ refl) (λ r is.
      found-follows (λ (d : Ty). d) _ _ _ _ _ _
      (λ d h. (field-step t f r.class d (sym e ∙ ap class_is (follow-ok u r is).reference) h).declared)
      (λ d h. ok-follows _ _ _ refl))

  -- the type behind a field that was walked has its class
  walked-class : (t u v : Ty) (f : Name) → class_is u ≡ class_is t → walk_field cs u f ≡ Ok v → (c : ℕ) × (d : Ty) × FieldStep t f c d
      × (class_is v ≡ class_is (type_behind cs t f))
  walked-class t u v f e h =
      let q = bind-ok (look_up cs u f) _ v h in
      let k = look_up-ok cs u f q.0 q.1 in
      let s = field-step t f k.class q.0.ty (sym e ∙ ap class_is k.reference) k.declared in
      (k.class, q.0.ty, s, read-class q.0.receiver q.0.ty v q.2 ∙ ap class_is (sym s.behind))

  field-follows : (t u : Ty) (f : Name) → class_is u ≡ class_is t →
      Follows (λ (v : Ty). v) (walk_field cs u f) (walk_field again u (name_again cs t f))
  field-follows t u f e = bind-follows (λ (q : Looked). q) _ _ _ _ _ (look-follows t u f e) (λ r is. same-follows _ _ refl)

  fields-follow : (fs : List Name) (t u : Ty) → class_is u ≡ class_is t →
      Follows (λ (v : Ty). v) (walk_fields cs u fs) (walk_fields again u (names_again cs t fs))
  fields-follow [] t u e = ok-follows _ _ _ refl
  fields-follow (f ∷ fs) t u e =
      bind-follows (λ (v : Ty). v) _ _ _ _ _ (field-follows t u f e)
      (λ v is. let w = walked-class t u v f e is in fields-follow fs (type_behind cs t f) v w.3)

  -- fields that were walked are found, and the type behind them is the same
  fields-found : (fs : List Name) (t u r : Ty) → class_is u ≡ class_is t → walk_fields cs u fs ≡ Ok r →
      AreFound again t (field_numbers cs t fs) × (type_along again t (names_again cs t fs) ≡ type_along cs t fs)
  fields-found [] t u r e h = (tt, refl)
  fields-found (f ∷ fs) t u r e h =
      let p = bind-ok (walk_field cs u f) _ r h in
      let w = walked-class t u p.0 f e p.1 in
      let same : type_behind again t (name_again cs t f) ≡ type_behind cs t f = w.2.behind_again ∙ sym w.2.behind in
      let rest = fields-found fs (type_behind cs t f) p.0 r w.3 p.2 in (
        (w.2.number, subst (λ (b : Ty). AreFound again b (field_numbers cs (type_behind cs t f) fs)) (sym same) rest.0),
        ap (λ (b : Ty). type_along again b (names_again cs (type_behind cs t f) fs)) same ∙ rest.1,
      )

  module _ (m : Truth) (env : Env) (ss : Scope) (s : Scoped m env ss) where
    abbrev env' : Env
    env' = env_again m env

    abbrev ss' : Scope
    ss' = scope_again m ss

    -- the name of the slot of a variable
    abbrev base : Variable → Variable
    base x = variable_in m (slot_of ss x)

    seen : (x : Variable) (e : Entry) → entry_of env x ≡ Some e → class_is (seen_type env e) ≡ class_is (type_in ss x)
    seen x e h = seen-class env e ∙ ap class_is (sym (type-found env.entries ss x e s.matches h))

    pub walk-follows : (x : Variable) (fs : List Name) →
        Follows (λ (t : Ty). t) (walk cs env x fs) (walk again env' (base x) (names_again cs (type_in ss x) fs))
    walk-follows x fs =
        found-follows (entry_again m (slot_of ss x)) _ _ _ _ _ _ (λ e h. found-again m env ss s x e h)
        (λ e h. fields-follow fs (type_in ss x) (seen_type env e) (seen x e h))

    pub array-follows : (x : Variable) (fs : List Name) →
        Follows (λ (a : Looked). a) (walk_array cs env x fs) (walk_array again env' (base x) (names_again cs (type_in ss x) fs))
    array-follows x fs =
        bind-follows (λ (t : Ty). t) _ _ _ _ _ (walk-follows x fs) (λ t is.
        bind-follows (λ (r : Followed). r) _ (follow t) (follow t) _ _ (same-follows (follow t) (follow t) refl) (λ r is'.
        found-follows (λ (d : Ty). d) _ (element_type cs r.class) (element_type again r.class) Mismatch _ _ (λ d h. element-again cs few r.class ∙ h)
        (λ d h. ok-follows _ _ _ refl)))

    -- a path that was walked
    pub record WalkedAgain (x : Variable) (fs : List Name) (r : Ty) : Type 0 where
      pub fields : AreFound again (type_in ss x) (field_numbers cs (type_in ss x) fs)
      pub along : type_along again (type_in ss x) (names_again cs (type_in ss x) fs) ≡ type_along cs (type_in ss x) fs
      pub class : class_is (type_along cs (type_in ss x) fs) ≡ class_is r

    pub walked-again : (x : Variable) (fs : List Name) (r : Ty) → walk cs env x fs ≡ Ok r → WalkedAgain x fs r
    walked-again x fs r h =
        let e = bind-ok (ok_or (entry_of env x) Unknown) _ r h in
        let there = ok_or-ok (entry_of env x) Unknown e.0 e.1 in
        let t = type_in ss x in
        let f = fields-found fs t (seen_type env e.0) r (seen x e.0 there) e.2 in
        record { fields = f.0; along = f.1; class = fields-class cs fs t (seen_type env e.0) r (seen x e.0 there) e.2 }

    found_by : (x : Variable) (ks : List ℕ) → AreFound again (type_in ss x) ks → IsPathFound again ss' m (slot_of ss x) ks
    found_by x ks h = (slot-is m env ss s x, subst (λ (t : Ty). AreFound again t ks) (sym (type-is m env ss s x)) h)

    pub path-found : (x : Variable) (fs : List Name) (r : Ty) → walk cs env x fs ≡ Ok r →
        IsPathFound again ss' m (slot_of ss x) (path_numbers cs ss x fs)
    path-found x fs r h = found_by x (path_numbers cs ss x fs) (walked-again x fs r h).fields

    pub alone-found : (x : Variable) → IsPathFound again ss' m (slot_of ss x) []
    alone-found x = (slot-is m env ss s x, tt)

    pub array-found : (x : Variable) (fs : List Name) (a : Looked) → walk_array cs env x fs ≡ Ok a →
        IsPathFound again ss' m (slot_of ss x) (path_numbers cs ss x fs)
    array-found x fs a h = let p = bind-ok (walk cs env x fs) _ a h in path-found x fs p.0 p.1

    -- the type behind a path
    pub along-is : (x : Variable) (fs : List Name) (r : Ty) → walk cs env x fs ≡ Ok r →
        type_along again (type_in ss' (base x)) (names_again cs (type_in ss x) fs) ≡ type_along cs (type_in ss x) fs
    along-is x fs r h = ap (λ (t : Ty). type_along again t (names_again cs (type_in ss x) fs)) (type-is m env ss s x) ∙ (walked-again x fs r h).along

    -- Paths up to a last field

    pub receiver-follows : (x : Variable) (f : Name) (fs : List Name) →
        Follows (λ (q : Looked). q) (walk_receiver cs env x f fs)
        (walk_receiver again env' (base x) (name_again cs (type_in ss x) f) (names_again cs (type_behind cs (type_in ss x) f) fs))
    receiver-follows x f fs =
        let t = type_in ss x in
        let gs = all_but_last f fs in
        subst (λ (l : Name). Follows (λ (q : Looked). q) (walk_receiver cs env x f fs)
        (◌>>=◌ (walk again env' (base x) (all_but_last (name_again cs t f) (names_again cs (type_behind cs t f) fs)))
        (λ (u : Ty). look_up again u l))) (sym (last-again cs t f fs))
        (bind-follows (λ (u : Ty). u) _ _ _ _ _
        (subst (λ (hs : List Name). Follows (λ (u : Ty). u) (walk cs env x gs) (walk again env' (base x) hs)) (sym (front-again cs t f fs))
        (walk-follows x gs))
        (λ u is. look-follows (type_along cs t gs) u (last_field f fs) (sym (walked-again x gs u is).class)))

    pub writable-follows : (x : Variable) (f : Name) (fs : List Name) →
        Follows (λ (t : Ty). t) (writable_field cs env x f fs)
        (writable_field again env' (base x) (name_again cs (type_in ss x) f) (names_again cs (type_behind cs (type_in ss x) f) fs))
    writable-follows x f fs =
        bind-follows (λ (q : Looked). q) _ _ _ _ _ (receiver-follows x f fs)
        (λ r is. test-follows _ (may_write r.receiver) (may_write r.receiver) Capability _ _ refl (λ may. ok-follows _ _ _ refl))

    -- a path with a last field that was looked up
    pub record LastFound (x : Variable) (f : Name) (fs : List Name) (t : Ty) : Type 0 where
      pub path : IsPathFound again ss' m (slot_of ss x) (path_numbers cs ss x (all_but_last f fs) ++ held_number cs ss x f fs ∷ [])
      pub along : type_along again (type_in ss' (base x)) (names_again cs (type_in ss x) (f ∷ fs)) ≡ type_along cs (type_in ss x) (f ∷ fs)
      pub is : type_along cs (type_in ss x) (f ∷ fs) ≡ t

    pub last-found : (x : Variable) (f : Name) (fs : List Name) (t : Ty) → writable_field cs env x f fs ≡ Ok t → LastFound x f fs t
    last-found x f fs t h =
        let b = type_in ss x in
        let gs = all_but_last f fs in
        let l = last_field f fs in
        let r = bind-ok (walk_receiver cs env x f fs) _ t h in
        let w = test-then (may_write r.0.receiver) _ _ t r.2 in
        let q = bind-ok (walk cs env x gs) _ r.0 r.1 in
        let k = look_up-ok cs q.0 l r.0 q.2 in
        let a = walked-again x gs q.0 q.1 in
        let u = type_along cs b gs in
        let s' = field-step u l k.class r.0.ty (a.class ∙ ap class_is k.reference) k.declared in
        let number : field_number again (type_along again b (names_again cs b gs)) (name_again cs u l) ≡ field_number cs u l =
        ap (λ (v : Ty). field_number again v (name_again cs u l)) a.along ∙ s'.number in
        let behind : type_along cs b (f ∷ fs) ≡ r.0.ty = along-last cs b f fs ∙ s'.behind in
        let there : type_along again b (names_again cs b (f ∷ fs)) ≡ r.0.ty =
        along-last again b (name_again cs b f) (names_again cs (type_behind cs b f) fs)
        ∙ ap (λ (hs : List Name). type_behind again (type_along again b hs) (last_field (name_again cs b f) (names_again cs (type_behind cs b f) fs)))
        (front-again cs b f fs)
        ∙ ap (λ (n : Name). type_behind again (type_along again b (names_again cs b gs)) n) (last-again cs b f fs)
        ∙ ap (λ (v : Ty). type_behind again v (name_again cs u l)) a.along ∙ s'.behind_again in
        record {
          path = found_by x (path_numbers cs ss x gs ++ held_number cs ss x f fs ∷ [])
              (found-more again b (field_numbers cs b gs) (field_number cs u l) a.fields number);
          along = ap (λ (v : Ty). type_along again v (names_again cs b (f ∷ fs))) (type-is m env ss s x) ∙ there ∙ sym behind;
          is = behind ∙ ok-is w.1;
        }
