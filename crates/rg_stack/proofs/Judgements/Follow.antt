-- What the judgements and the invariant give of paths: each object on the way has the class of the declared type.
use Rattle.std.proofs.Common.{◌≡◌, ℕ, suc, true, false, Bool as Truth, if◌then◌else◌, List, [], ◌∷◌, find, Option, Some, None, option_map, ok_or}
use Rattle.std.proofs.Common.{Ok, Err, refl, sym, ap, subst, ◌∙◌, arith, slice_get, unwrap_or}
use Rattle.std.specs.Prelude.{bytes_eq, nat_lt, length, not}
use Rattle.std.proofs.lemmas.Option.{none-some, same_Some}
use Rattle.std.proofs.lemmas.Bool.{and_from, not_from_false}
use Rattle.rg_base.specs.declared.ty.Ty.{Ty}
use Rattle.rg_base.specs.declared.ty.Ty.TheVariants.{Int, Bool, Ref}
use Rattle.rg_base.specs.declared.value.Val.{Val}
use Rattle.rg_base.specs.declared.value.Val.TheVariants as val
use Rattle.rg_base.specs.declared.object.Seen.{Seen}
use Rattle.rg_base.specs.declared.words.Cap.{Cap}
use Rattle.rg_base.specs.declared.fault.Code.TheVariants.{Capability}
use Rattle.rg_tree.specs.Tree.{Name, Field, Class}
use Rattle.rg_rules.specs.Types.{type_of, fields_of, field_place, field_type}
use Rattle.rg_rules.specs.Paths.{look_up, read_through, walk_field, walk_fields}
use Rattle.rg_rules.specs.Capabilities.{adapt, is_iso}
use Rattle.rg_rules.specs.State.{Window as Opened}
use Rattle.rg_rules.specs.Evaluation.{object_at, field_value}
use Rattle.rg_rules.proofs.Answers.{bind-ok}
use Rattle.rg_rules.proofs.Path.{look_up-ok}
use Rattle.rg_code.specs.Lowering.{field_number, type_behind}
use Rattle.rg_sound.specs.Values.{Meets}
use Rattle.rg_sound.specs.Objects.{ObjectsFit}
use Rattle.rg_sound.proofs.Values.Value.{walk_field-meets}
use Rattle.rg_stack.specs.Machine.{Window}
use Rattle.rg_stack.proofs.Walks.Walk.{Follows, is_shut}

-- the class of a type of references
abbrev pub class_is : Ty → Option ℕ
class_is Int = None
class_is Bool = None
class_is (Ref cap c) = Some c

-- an object to which a value of a type leads has the type's class
abbrev pub HasClass : List Seen → Ty → Val → Type 0
HasClass store t v = (o : Seen) → object_at store v ≡ Ok o → class_is t ≡ Some o.class

-- the fields of objects lead as they are declared
abbrev pub FieldsHaveClasses : List Class → List Seen → Type 0
FieldsHaveClasses classes store = (v : Val) (o : Seen) (f : Name) (t : Ty) → object_at store v ≡ Ok o → field_type classes o.class f ≡ Some t
    → HasClass store t (field_value classes o f)

-- objects have the fields of their classes
abbrev pub HaveFields : List Class → List Seen → Type 0
HaveFields classes store = (v : Val) (o : Seen) (f : Name) (k : ℕ) → object_at store v ≡ Ok o → field_place (fields_of classes o.class) f ≡ Some k
    → nat_lt k (length o.fields) ≡ true

-- a field has a place where it has a type
place_of_type : (t : Truth) (ty : Option Ty) (place : Option ℕ) (first : Ty) (d : Ty) → ((d : Ty) → ty ≡ Some d → (k : ℕ) × (place ≡ Some k))
    → (if t then Some first else ty) ≡ Some d → (k : ℕ) × ((if t then Some 0 else option_map suc place) ≡ Some k)
place_of_type true ty place first d more h = (0, refl)
place_of_type false ty place first d more h = let p = more d h in (suc p.0, ap (option_map suc) p.1)

find_by : (classes : List Class) (t : Truth) (f : Field) (found : Option Field)
    → option_map (λ f. type_of classes f.ty) (if t then Some f else found)
    ≡ (if t then Some (type_of classes f.ty) else option_map (λ f. type_of classes f.ty) found)
find_by classes true f found = refl
find_by classes false f found = refl

pub place_if_type : (classes : List Class) (fs : List Field) (x : Name) (d : Ty)
    → option_map (λ f. type_of classes f.ty) (find (λ f. bytes_eq f.name x) fs) ≡ Some d → (k : ℕ) × (field_place fs x ≡ Some k)
place_if_type classes [] x d h = absurd (none-some d h)
place_if_type classes (f ∷ fs) x d h =
    place_of_type (bytes_eq f.name x) (option_map (λ f. type_of classes f.ty) (find (λ f. bytes_eq f.name x) fs)) (field_place fs x)
    (type_of classes f.ty) d (λ e g. place_if_type classes fs x e g)
    (sym (find_by classes (bytes_eq f.name x) f (find (λ f. bytes_eq f.name x) fs)) ∙ h)

-- a field as it is read has the declared class
pub read-class : (cap : Cap) (declared x : Ty) → read_through cap declared ≡ Ok x → class_is declared ≡ class_is x
read-class cap Int x h = grind arith
read-class cap Bool x h = grind arith
read-class cap (Ref k c) x h = let p = bind-ok (ok_or (adapt cap k) Capability) _ x h in ap (λ r. elim r [ Ok y ↦ class_is y | Err e ↦ None ]) p.2

-- the field of a type by the type's class
pub field_of_type : (classes : List Class) (t : Ty) (f : Name) (c : ℕ) → class_is t ≡ Some c
    → (field_number classes t f ≡ unwrap_or (field_place (fields_of classes c) f) 0)
    × (type_behind classes t f ≡ unwrap_or (field_type classes c f) Int)
field_of_type classes Int f c e = absurd (none-some c e)
field_of_type classes Bool f c e = absurd (none-some c e)
field_of_type classes (Ref k b) f c e =
    let is = same_Some b c e in
    (ap (λ c. unwrap_or (field_place (fields_of classes c) f) 0) is, ap (λ c. unwrap_or (field_type classes c f) Int) is)

-- what is known of values that meet types: those that aren't `iso` lead into no closed region
pub record Safe (classes : List Class) (store : List Seen) (windows : List Window) (opened : List Opened) : Type 0 where
  pub objects : ObjectsFit classes store opened
  pub shut : (t : Ty) (v : Val) → Meets store opened t v → is_iso t ≡ false → is_shut store windows v ≡ false

-- a walk that the rules allow follows fields that are there
pub follows_of : (classes : List Class) (store : List Seen) (windows : List Window) (opened : List Opened) → Safe classes store windows opened
    → (fs : List Name) (u t r : Ty) (v : Val) → Meets store opened u v → class_is u ≡ class_is t
    → walk_fields classes u fs ≡ Ok r → HasClass store t v → FieldsHaveClasses classes store → HaveFields classes store
    → Follows classes store windows t v fs
follows_of classes store windows opened safe [] u t r v meets same walked has fields sizes = tt
follows_of classes store windows opened safe (f ∷ fs) u t r v meets same walked has fields sizes = λ o there.
    let p = bind-ok (walk_field classes u f) _ r walked in
    let q = bind-ok (look_up classes u f) _ p.0 p.1 in
    let w = look_up-ok classes u f q.0 q.1 in
    let class_of_t : class_is t ≡ Some w.class = sym same ∙ ap class_is w.reference in
    let class_of_o : o.class ≡ w.class = same_Some o.class w.class (sym (has o there) ∙ class_of_t) in
    let at = field_of_type classes t f w.class class_of_t in
    let place = place_if_type classes (fields_of classes w.class) f q.0.ty w.declared in
    let behind : type_behind classes t f ≡ q.0.ty = at.1 ∙ ap (λ d. unwrap_or d Int) w.declared in
    let number : field_number classes t f ≡ place.0 = at.0 ∙ ap (λ k. unwrap_or k 0) place.1 in (
      ap (λ k. elim k [ None ↦ val.Nil | Some n ↦ unwrap_or (slice_get o.fields n) val.Nil ])
          (ap (λ c. field_place (fields_of classes c) f) class_of_o ∙ place.1)
          ∙ ap (λ n. unwrap_or (slice_get o.fields n) val.Nil) (sym number),
      and_from (nat_lt (field_number classes t f) (length o.fields)) (not (is_shut store windows v))
          (ap (λ n. nat_lt n (length o.fields)) number
          ∙ sizes v o f place.0 there (ap (λ c. field_place (fields_of classes c) f) class_of_o ∙ place.1))
          (not_from_false (is_shut store windows v) (safe.shut u v meets w.not_iso)),
      follows_of classes store windows opened safe fs p.0 (type_behind classes t f) r (field_value classes o f)
          (walk_field-meets classes store opened safe.objects u p.0 f v o meets p.1 there)
          (sym (read-class q.0.receiver q.0.ty p.0 q.2) ∙ ap class_is (sym behind)) p.2
          (subst (λ d. HasClass store d (field_value classes o f)) (sym behind)
          (fields v o f q.0.ty there (ap (λ c. field_type classes c f) class_of_o ∙ w.declared)))
          fields sizes,
    )
