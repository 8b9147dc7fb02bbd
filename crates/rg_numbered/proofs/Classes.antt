-- What is found in classes by a name has the number of that name.
use Rattle.std.proofs.Common.{◌≡◌, refl, sym, ap, ◌∙◌, subst, ℕ, zero, suc, ◌+◌, Bool as Truth, true, false, if◌then◌else◌, bytes_eq, List, [], ◌∷◌}
use Rattle.std.proofs.Common.{map, find, filter_map, slice_get, Option, Some, None, option_map, unwrap_or, ok_or, Ok, arith}
use Rattle.std.proofs.lemmas.Slice.Eq.{bytes_eq-Decides}
use Rattle.std.specs.List.{AllByRecursion}
use Rattle.rg_base.specs.declared.words.Cap.{Cap}
use Rattle.rg_base.specs.declared.ty.Ty.{Ty}
use Rattle.rg_base.specs.declared.ty.Ty.TheVariants.{Int, Bool, Ref}
use Rattle.rg_base.specs.declared.fault.Code.TheVariants.{Unknown}
use Rattle.rg_tree.specs.Tree.{Name, Ty as Written, int, bool, ref, Field, Method, Class}
use Rattle.rg_rules.specs.Types.{class_number, class_named, type_of, good_type, members_of, fields_of}
use Rattle.rg_rules.specs.Types.{methods_of, field_place, field_type, method_named}
use Rattle.rg_rules.specs.Types.{field_member, method_member}
use Rattle.rg_rules.proofs.Answers.{bind-ok, ok_or-ok}
use Rattle.rg_code.specs.Lowering.{field_number, type_behind, method_place}
use Rattle.rg_verify_expressions.specs.Naming.{field_name, class_name, method_name, written}
use Rattle.rg_verify_expressions.specs.Raised.{AreFound}
use Rattle.rg_numbered.specs.Numbered.{field_numbers}
use Rattle.rg_numbered.specs.ModuleNames.{AreNamed, HasVariableNames, HasMemberNames}

pub some-is : {A : Type 0} {a b : A} → Some a ≡ Some b → a ≡ b
some-is h = grind arith

pub none-some : {A : Type 0} {a : A} → None ≡ Some a → ⊥
none-some h = grind arith

mapped-some : {A B : Type 0} (h : A → B) (o : Option A) (b : B) → option_map h o ≡ Some b → (a : A) × (o ≡ Some a)
mapped-some h None b e = absurd (none-some e)
mapped-some h (Some a) b e = (a, refl)

same-bytes : (x y : Name) → bytes_eq x y ≡ true → x ≡ y
same-bytes x y h = (bytes_eq-Decides x y).0 h

-- a number behind none
pub none-behind : (n : ℕ) → n ≡ 0 + n
none-behind n = omega arith

-- Things in order that are named in order

named-class : (cs : List Class) (x : Name) (k : ℕ) (c : Class) → AreNamed (λ (d : Class). d.name) class_name k cs → class_named cs x ≡ Some c →
    class_name (k + class_number cs x) ≡ x
named-class [] x k c h g = absurd (none-some g)
named-class (d ∷ ds) x k c h g = by (bytes_eq d.name x) refl (named-class ds x (suc k) c h.1) g
  where
    by : (b : Truth) → bytes_eq d.name x ≡ b → (class_named ds x ≡ Some c → class_name (suc k + class_number ds x) ≡ x) →
        (if b then Some d else class_named ds x) ≡ Some c → class_name (k + (if b then 0 else suc (class_number ds x))) ≡ x
    by true e rest g =
        let n : k + 0 ≡ k = omega arith in ap class_name n ∙ sym h.0 ∙ same-bytes d.name x e
    by false e rest g =
        let n : k + suc (class_number ds x) ≡ suc k + class_number ds x = omega arith in ap class_name n ∙ rest g

-- a field that is found has a place
abbrev Placed : List Field → Name → (k : ℕ) → Type 0
Placed fs x k = (p : ℕ) × (field_place fs x ≡ Some p) × (field_name (k + p) ≡ x)

placed-field : (fs : List Field) (x : Name) (k : ℕ) (f : Field) → AreNamed (λ (q : Field). q.name) field_name k fs →
    find (λ (q : Field). bytes_eq q.name x) fs ≡ Some f → Placed fs x k
placed-field [] x k f h g = absurd (none-some g)
placed-field (q ∷ qs) x k f h g = by (bytes_eq q.name x) refl (placed-field qs x (suc k) f h.1) g
  where
    by : (b : Truth) → bytes_eq q.name x ≡ b → (find (λ (o : Field). bytes_eq o.name x) qs ≡ Some f → Placed qs x (suc k)) →
        (if b then Some q else find (λ (o : Field). bytes_eq o.name x) qs) ≡ Some f →
        (p : ℕ) × ((if b then Some 0 else option_map suc (field_place qs x)) ≡ Some p) × (field_name (k + p) ≡ x)
    by true e rest g = let n : k + 0 ≡ k = omega arith in (0, refl, ap field_name n ∙ sym h.0 ∙ same-bytes q.name x e)
    by false e rest g =
        let r = rest g in
        let n : k + suc r.0 ≡ suc k + r.0 = omega arith in (suc r.0, ap (option_map suc) r.1, ap field_name n ∙ r.2)

placed-method : (ms : List Method) (x : Name) (k : ℕ) (m : Method) → AreNamed (λ (q : Method). q.name) method_name k ms →
    find (λ (q : Method). bytes_eq q.name x) ms ≡ Some m → method_name (k + method_place ms x) ≡ x
placed-method [] x k m h g = absurd (none-some g)
placed-method (q ∷ qs) x k m h g = by (bytes_eq q.name x) refl (placed-method qs x (suc k) m h.1) g
  where
    by : (b : Truth) → bytes_eq q.name x ≡ b →
        (find (λ (o : Method). bytes_eq o.name x) qs ≡ Some m → method_name (suc k + method_place qs x) ≡ x) →
        (if b then Some q else find (λ (o : Method). bytes_eq o.name x) qs) ≡ Some m →
        method_name (k + (if b then 0 else suc (method_place qs x))) ≡ x
    by true e rest g = let n : k + 0 ≡ k = omega arith in ap method_name n ∙ sym h.0 ∙ same-bytes q.name x e
    by false e rest g =
        let n : k + suc (method_place qs x) ≡ suc k + method_place qs x = omega arith in ap method_name n ∙ rest g

-- Members of classes

-- what is found among things of which all are so is so
found_by : {A : Type 0} (P : A → Type 0) (b : Truth) (x y : A) (rest : Option A) → P x → (rest ≡ Some y → P y) →
    (if b then Some x else rest) ≡ Some y → P y
found_by P true x y rest h g e = subst P (some-is e) h
found_by P false x y rest h g e = g e

all-found : {A : Type 0} (P : A → Type 0) (p : A → Truth) (xs : List A) (y : A) → AllByRecursion P xs → find p xs ≡ Some y → P y
all-found P p [] y h g = absurd (none-some g)
all-found P p (x ∷ xs) y h g = found_by P (p x) x y (find p xs) h.0 (all-found P p xs y h.1) g

all-at : {A : Type 0} (P : A → Type 0) (xs : List A) (i : ℕ) (y : A) → AllByRecursion P xs → slice_get xs i ≡ Some y → P y
all-at P [] i y h g = absurd (none-some g)
all-at P (x ∷ xs) zero y h g = subst P (some-is g) h.0
all-at P (x ∷ xs) (suc i) y h g = all-at P xs i y h.1 g

-- the members of the class of a number, if it is there
pub record MembersNamed (classes : List Class) (c : ℕ) : Type 0 where
  pub fields : AreNamed (λ (f : Field). f.name) field_name 0 (fields_of classes c)
  pub methods : AreNamed (λ (m : Method). m.name) method_name 0 (methods_of classes c)
  pub bodies : AllByRecursion HasVariableNames (methods_of classes c)

members-named_by : (o : Option Class) → ((d : Class) → o ≡ Some d → HasMemberNames d) →
    AreNamed (λ (f : Field). f.name) field_name 0 (filter_map field_member (members_of o))
    × AreNamed (λ (m : Method). m.name) method_name 0 (filter_map method_member (members_of o))
    × AllByRecursion HasVariableNames (filter_map method_member (members_of o))
members-named_by None h = (tt, tt, tt)
members-named_by (Some d) h = let n = h d refl in (n.fields, n.methods, n.bodies)

pub members-named : (classes : List Class) (c : ℕ) → AllByRecursion HasMemberNames classes → MembersNamed classes c
members-named classes c h =
    let p = members-named_by (slice_get classes c) (λ d e. all-at HasMemberNames classes c d h e) in
    record { fields = p.0; methods = p.1; bodies = p.2 }

-- The names of classes, and those of members

pub record ClassesNamed (classes : List Class) : Type 0 where
  pub names : AreNamed (λ (c : Class). c.name) class_name 0 classes
  pub members : AllByRecursion HasMemberNames classes

pub class-named : (classes : List Class) (x : Name) (c : Class) → ClassesNamed classes → class_named classes x ≡ Some c →
    class_name (class_number classes x) ≡ x
class-named classes x c n h = ap class_name (none-behind (class_number classes x)) ∙ named-class classes x 0 c n.names h

-- a type that is good is written so again
pub good-written : (classes : List Class) (t : Written) (ty : Ty) → ClassesNamed classes → good_type classes t ≡ Ok ty →
    written (type_of classes t) ≡ t
good-written classes int ty n h = refl
good-written classes bool ty n h = refl
good-written classes (ref cap x) ty n h =
    let p = bind-ok (ok_or (class_named classes x) Unknown) _ ty h in
    ap (λ (y : Name). ref cap y) (class-named classes x p.0 n (ok_or-ok (class_named classes x) Unknown p.0 p.1))

pub good-class : (classes : List Class) (cap : Cap) (x : Name) (ty : Ty) → ClassesNamed classes → good_type classes (ref cap x) ≡ Ok ty →
    class_name (class_number classes x) ≡ x
good-class classes cap x ty n h =
    let p = bind-ok (ok_or (class_named classes x) Unknown) _ ty h in
    class-named classes x p.0 n (ok_or-ok (class_named classes x) Unknown p.0 p.1)

pub method-named : (classes : List Class) (c : ℕ) (x : Name) (m : Method) → ClassesNamed classes → method_named classes c x ≡ Some m →
    method_name (method_place (methods_of classes c) x) ≡ x
method-named classes c x m n h =
    ap method_name (none-behind (method_place (methods_of classes c) x))
    ∙ placed-method (methods_of classes c) x 0 m (members-named classes c n.members).methods h

pub body-named : (classes : List Class) (c : ℕ) (x : Name) (m : Method) → ClassesNamed classes → method_named classes c x ≡ Some m →
    HasVariableNames m
body-named classes c x m n h =
    all-found HasVariableNames (λ (q : Method). bytes_eq q.name x) (methods_of classes c) m (members-named classes c n.members).bodies h

-- Fields behind types

-- the class of a reference
abbrev pub class_is : Ty → Option ℕ
class_is Int = None
class_is Bool = None
class_is (Ref cap c) = Some c

pub field-named : (classes : List Class) (t : Ty) (f : Name) (c : ℕ) (d : Ty) → ClassesNamed classes → class_is t ≡ Some c →
    field_type classes c f ≡ Some d → field_name (field_number classes t f) ≡ f
field-named classes Int f c d n h g = absurd (none-some h)
field-named classes Bool f c d n h g = absurd (none-some h)
field-named classes (Ref cap k) f c d n h g =
    let e = subst (λ (q : ℕ). field_type classes q f ≡ Some d) (sym (some-is h)) g in
    let q = mapped-some (λ (o : Field). type_of classes o.ty) (find (λ (o : Field). bytes_eq o.name f) (fields_of classes k)) d e in
    let p = placed-field (fields_of classes k) f 0 q.0 (members-named classes k n.members).fields q.1 in
    ap (λ (o : Option ℕ). field_name (unwrap_or o 0)) p.1 ∙ ap field_name (none-behind p.0) ∙ p.2

-- behind a type, each of these fields has the name of its number
abbrev pub Known : List Class → Ty → List Name → Type 0
Known classes t [] = Unit {0}
Known classes t (f ∷ fs) = (field_name (field_number classes t f) ≡ f) × Known classes (type_behind classes t f) fs

pub known-named : (classes : List Class) (t : Ty) (fs : List Name) → Known classes t fs → map field_name (field_numbers classes t fs) ≡ fs
known-named classes t [] h = refl
known-named classes t (f ∷ fs) (e, h) =
    ap (λ (g : Name). g ∷ map field_name (field_numbers classes (type_behind classes t f) fs)) e
    ∙ ap (λ (gs : List Name). f ∷ gs) (known-named classes (type_behind classes t f) fs h)

pub known-found : (classes : List Class) (t : Ty) (fs : List Name) → Known classes t fs → AreFound classes t (field_numbers classes t fs)
known-found classes t [] h = tt
known-found classes t (f ∷ fs) (e, h) = (
  ap (field_number classes t) e,
  subst (λ (g : Name). AreFound classes (type_behind classes t g) (field_numbers classes (type_behind classes t f) fs)) (sym e)
      (known-found classes (type_behind classes t f) fs h),
)
