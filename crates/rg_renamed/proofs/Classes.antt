-- What is found by a name in classes is found by its number in those with numbers for names.
use Rattle.std.proofs.Common.{◌≡◌, refl, sym, ap, ◌∙◌, subst, ℕ, zero, suc, ◌+◌, ◌<◌, ◌≤◌, ◌^◌, Bool as Truth, true, false, if◌then◌else◌, bytes_eq}
use Rattle.std.proofs.Common.{List, [], ◌∷◌, ◌++◌, length, map, find, filter_map, slice_get, Option, Some, None, is_some, option_map, option_and_then}
use Rattle.std.proofs.Common.{unwrap_or, ok_or, Ok, arith}
use Rattle.std.proofs.lemmas.Option.{slice_get_within}
use Rattle.rg_base.specs.declared.words.Cap.{Cap}
use Rattle.rg_base.specs.declared.ty.Ty.{Ty}
use Rattle.rg_base.specs.declared.ty.Ty.TheVariants.{Int, Bool, Ref}
use Rattle.rg_base.specs.declared.fault.Code.TheVariants.{Unknown, BadType}
use Rattle.rg_tree.specs.Tree.{Name, Ty as Written, int, bool, ref, Param, Field, Method, Member, field, method, Class}
use Rattle.rg_rules.specs.Answers.{◌>>=◌, ◌>>◌, test, Answer}
use Rattle.rg_rules.specs.Types.{class_number, class_named, type_of, suits_class, good_type, is_array, names_array, element_type, field_member}
use Rattle.rg_rules.specs.Types.{method_member, members_of, fields_of, methods_of, field_place, field_type, method_named, param_types, method_result}
use Rattle.rg_code.specs.Lowering.{field_number, method_place, methods_among, method_number, number_called}
use Rattle.rg_verify_expressions.specs.Naming.{field_name, class_name, method_name}
use Rattle.rg_numbered.proofs.Classes.{some-is, none-some, none-behind}
use Rattle.rg_renamed.specs.Renamed.{renamed_type, renamed_params, renamed_method, renamed_field, renamed_from, renamed_members, renamed_class}
use Rattle.rg_renamed.specs.Renamed.{renamed_classes}
use Rattle.rg_renamed.proofs.Names.{AreApart, fields-apart, classes-apart, methods-apart, find-named, number-named, field-named, method-named}
use Rattle.rg_renamed.proofs.Names.{from-long, from-at, from-named}

-- Few enough classes and members that no two numbers have one name
pub record AreFew (cs : List Class) : Type 0 where
  pub classes : length cs < 2 ^ 64
  pub fields : (c : ℕ) → length (fields_of cs c) < 2 ^ 64
  pub methods : (c : ℕ) → length (methods_of cs c) < 2 ^ 64

-- Numbers and what they lead to

pub number-bound : (cs : List Class) (x : Name) → class_number cs x ≤ length cs
number-bound [] x = omega arith
number-bound (c ∷ cs) x = by (bytes_eq c.name x) (number-bound cs x)
  where
    by : (b : Truth) → class_number cs x ≤ length cs → (if b then 0 else suc (class_number cs x)) ≤ suc (length cs)
    by true h = omega arith
    by false h = omega (arith, h)

pub named-at : (cs : List Class) (x : Name) → class_named cs x ≡ slice_get cs (class_number cs x)
named-at [] x = refl
named-at (c ∷ cs) x = by (bytes_eq c.name x) (named-at cs x)
  where
    by : (b : Truth) → class_named cs x ≡ slice_get cs (class_number cs x) →
        (if b then Some c else class_named cs x) ≡ slice_get (c ∷ cs) (if b then 0 else suc (class_number cs x))
    by true h = refl
    by false h = h

mapped-some : {A B : Type 0} (h : A → B) (o : Option A) (b : B) → option_map h o ≡ Some b → (a : A) × (o ≡ Some a) × (h a ≡ b)
mapped-some h None b e = absurd (none-some e)
mapped-some h (Some a) b e = (a, refl, some-is e)

-- a field that is found, and its place
abbrev Placed : List Field → Name → Field → Type 0
Placed fs x f = (p : ℕ) × (field_place fs x ≡ Some p) × (slice_get fs p ≡ Some f)

placed-field : (fs : List Field) (x : Name) (f : Field) → find (λ (q : Field). bytes_eq q.name x) fs ≡ Some f → Placed fs x f
placed-field [] x f g = absurd (none-some g)
placed-field (q ∷ qs) x f g = by (bytes_eq q.name x) (placed-field qs x f) g
  where
    by : (b : Truth) → (find (λ (o : Field). bytes_eq o.name x) qs ≡ Some f → Placed qs x f) →
        (if b then Some q else find (λ (o : Field). bytes_eq o.name x) qs) ≡ Some f →
        (p : ℕ) × ((if b then Some 0 else option_map suc (field_place qs x)) ≡ Some p) × (slice_get (q ∷ qs) p ≡ Some f)
    by true rest g = (0, refl, g)
    by false rest g = let r = rest g in (suc r.0, ap (option_map suc) r.1, r.2)

placed-method : (ms : List Method) (x : Name) (m : Method) → find (λ (q : Method). bytes_eq q.name x) ms ≡ Some m →
    slice_get ms (method_place ms x) ≡ Some m
placed-method [] x m g = absurd (none-some g)
placed-method (q ∷ qs) x m g = by (bytes_eq q.name x) (placed-method qs x m) g
  where
    by : (b : Truth) → (find (λ (o : Method). bytes_eq o.name x) qs ≡ Some m → slice_get qs (method_place qs x) ≡ Some m) →
        (if b then Some q else find (λ (o : Method). bytes_eq o.name x) qs) ≡ Some m →
        slice_get (q ∷ qs) (if b then 0 else suc (method_place qs x)) ≡ Some m
    by true rest g = g
    by false rest g = rest g

-- Members with numbers for names

fields-only : (cs : List Class) (k : ℕ) (fs : List Field) (rest : List Member) → filter_map field_member rest ≡ [] →
    filter_map field_member (renamed_from (λ j f. field (renamed_field cs j f)) k fs ++ rest) ≡ renamed_from (renamed_field cs) k fs
fields-only cs k [] rest h = h
fields-only cs k (f ∷ fs) rest h = ap (λ (gs : List Field). renamed_field cs k f ∷ gs) (fields-only cs (suc k) fs rest h)

no-fields : (cs : List Class) (c k : ℕ) (ms : List Method) →
    filter_map field_member (renamed_from (λ j m. method (renamed_method cs c j m)) k ms) ≡ []
no-fields cs c k [] = refl
no-fields cs c k (m ∷ ms) = no-fields cs c (suc k) ms

behind-fields : (cs : List Class) (k : ℕ) (fs : List Field) (rest : List Member) →
    filter_map method_member (renamed_from (λ j f. field (renamed_field cs j f)) k fs ++ rest) ≡ filter_map method_member rest
behind-fields cs k [] rest = refl
behind-fields cs k (f ∷ fs) rest = behind-fields cs (suc k) fs rest

methods-only : (cs : List Class) (c k : ℕ) (ms : List Method) →
    filter_map method_member (renamed_from (λ j m. method (renamed_method cs c j m)) k ms) ≡ renamed_from (renamed_method cs c) k ms
methods-only cs c k [] = refl
methods-only cs c k (m ∷ ms) = ap (λ (qs : List Method). renamed_method cs c k m ∷ qs) (methods-only cs c (suc k) ms)

pub member-fields : (cs : List Class) (c : ℕ) (ms : List Member) →
    filter_map field_member (renamed_members cs c ms) ≡ renamed_from (renamed_field cs) 0 (filter_map field_member ms)
member-fields cs c ms =
    fields-only cs 0 (filter_map field_member ms) (renamed_from (λ j m. method (renamed_method cs c j m)) 0 (filter_map method_member ms))
    (no-fields cs c 0 (filter_map method_member ms))

pub member-methods : (cs : List Class) (c : ℕ) (ms : List Member) →
    filter_map method_member (renamed_members cs c ms) ≡ renamed_from (renamed_method cs c) 0 (filter_map method_member ms)
member-methods cs c ms = behind-fields cs 0 (filter_map field_member ms) _ ∙ methods-only cs c 0 (filter_map method_member ms)

pub class-at : (cs : List Class) (c : ℕ) → slice_get (renamed_classes cs) c ≡ option_map (renamed_class cs c) (slice_get cs c)
class-at cs c = from-at (renamed_class cs) cs 0 c c (none-behind c)

fields_by : (cs : List Class) (c : ℕ) (o : Option Class) →
    filter_map field_member (members_of (option_map (renamed_class cs c) o))
    ≡ renamed_from (renamed_field cs) 0 (filter_map field_member (members_of o))
fields_by cs c None = refl
fields_by cs c (Some d) = member-fields cs c d.members

pub fields-again : (cs : List Class) (c : ℕ) → fields_of (renamed_classes cs) c ≡ renamed_from (renamed_field cs) 0 (fields_of cs c)
fields-again cs c = ap (λ (o : Option Class). filter_map field_member (members_of o)) (class-at cs c) ∙ fields_by cs c (slice_get cs c)

methods_by : (cs : List Class) (c : ℕ) (o : Option Class) →
    filter_map method_member (members_of (option_map (renamed_class cs c) o))
    ≡ renamed_from (renamed_method cs c) 0 (filter_map method_member (members_of o))
methods_by cs c None = refl
methods_by cs c (Some d) = member-methods cs c d.members

pub methods-again : (cs : List Class) (c : ℕ) → methods_of (renamed_classes cs) c ≡ renamed_from (renamed_method cs c) 0 (methods_of cs c)
methods-again cs c = ap (λ (o : Option Class). filter_map method_member (members_of o)) (class-at cs c) ∙ methods_by cs c (slice_get cs c)

-- Classes, types and elements

pub classes-long : (cs : List Class) → length (renamed_classes cs) ≡ length cs
classes-long cs = from-long (renamed_class cs) 0 cs

-- Numbers through a program

pub among-is : (ms : List Member) → methods_among ms ≡ filter_map method_member ms
among-is [] = refl
among-is (field f ∷ ms) = among-is ms
among-is (method m ∷ ms) = ap (λ (qs : List Method). m ∷ qs) (among-is ms)

pub among-long : (cs : List Class) (c : ℕ) (ms : List Member) → length (methods_among (renamed_members cs c ms)) ≡ length (methods_among ms)
among-long cs c ms =
    ap (λ (qs : List Method). length qs) (among-is (renamed_members cs c ms) ∙ member-methods cs c ms)
    ∙ from-long (renamed_method cs c) 0 (filter_map method_member ms)
    ∙ sym (ap (λ (qs : List Method). length qs) (among-is ms))

-- the number of a method that was found
abbrev called_number : ℕ → Option Method → ℕ
called_number n o = elim o [ None ↦ 0 | Some m ↦ n ]

numbers-from : (cs ds : List Class) (j c k : ℕ) (x : Name) (p : ℕ) → k ≡ j + c →
    ((d : Class) → slice_get ds c ≡ Some d →
    method_place (methods_among (renamed_members cs k d.members)) (method_name p) ≡ method_place (methods_among d.members) x) →
    method_number (renamed_from (renamed_class cs) j ds) c (method_name p) ≡ method_number ds c x
numbers-from cs [] j c k x p e h = refl
numbers-from cs (d ∷ ds) j zero k x p e h =
    let same : j ≡ k = omega (arith, e) in
    ap (λ (i : ℕ). method_place (methods_among (renamed_members cs i d.members)) (method_name p)) same ∙ h d refl
numbers-from cs (d ∷ ds) j (suc c) k x p e h =
    ap (λ (n : ℕ). n + method_number (renamed_from (renamed_class cs) (suc j) ds) c (method_name p)) (among-long cs j d.members)
    ∙ ap (λ (n : ℕ). length (methods_among d.members) + n) (numbers-from cs ds (suc j) c k x p (omega (arith, e)) h)

below-more : (n m : ℕ) → m ≡ n → n < 2 ^ 64 → 0 + m < 2 ^ 64
below-more n m e h = omega (arith, e, h)

-- whether a class that was found is an array class
abbrev found_array : Option Class → Truth
found_array o = elim o [ None ↦ false | Some c ↦ is_array c ]

is_some-map : {A B : Type 0} (h : A → B) (o : Option A) → is_some (option_map h o) ≡ is_some o
is_some-map h None = refl
is_some-map h (Some a) = refl

module _ (cs : List Class) (few : AreFew cs) where
  abbrev again : List Class
  again = renamed_classes cs

  pub number-again : (n : ℕ) → n ≤ length cs → class_number again (class_name n) ≡ n
  number-again n l =
      number-named again 0 n n (from-named (renamed_class cs) (λ (c : Class). c.name) class_name (λ k c. refl) 0 cs) (none-behind n)
      (subst (λ (m : ℕ). n ≤ m) (sym (classes-long cs)) l) (below-more (length cs) (length again) (classes-long cs) few.classes)

  pub class-number : (x : Name) → class_number again (class_name (class_number cs x)) ≡ class_number cs x
  class-number x = number-again (class_number cs x) (number-bound cs x)

  -- a type is the same one
  pub type-again : (w : Written) → type_of again (renamed_type cs w) ≡ type_of cs w
  type-again int = refl
  type-again bool = refl
  type-again (ref cap x) = ap (Ref cap) (class-number x)

  pub class-again : (x : Name) →
      class_named again (class_name (class_number cs x)) ≡ option_map (renamed_class cs (class_number cs x)) (class_named cs x)
  class-again x =
      let n = class_number cs x in
      find-named (λ (c : Class). c.name) class_name classes-apart again 0 n n
      (from-named (renamed_class cs) (λ (c : Class). c.name) class_name (λ k c. refl) 0 cs) (none-behind n)
      (subst (λ (m : ℕ). n ≤ m) (sym (classes-long cs)) (number-bound cs x))
      (below-more (length cs) (length again) (classes-long cs) few.classes)
      ∙ class-at cs n ∙ ap (option_map (renamed_class cs n)) (sym (named-at cs x))

  -- it is as good as it was
  pub good-again : (w : Written) → good_type again (renamed_type cs w) ≡ good_type cs w
  good-again int = refl
  good-again bool = refl
  good-again (ref cap x) =
      let n = class_number cs x in
      let rest : Class → ℕ → Answer Ty = λ c k. ◌>>◌ (test (suits_class cap c.is_tmp) BadType) (Ok (Ref cap k)) in
      ap (λ (o : Option Class). ◌>>=◌ (ok_or o Unknown) (λ (c : Class). rest c (class_number again (class_name n)))) (class-again x)
      ∙ ap (λ (k : ℕ). ◌>>=◌ (ok_or (option_map (renamed_class cs n) (class_named cs x)) Unknown) (λ (c : Class). rest c k)) (class-number x)
      ∙ by (class_named cs x)
    where
      by : (o : Option Class) →
          ◌>>=◌ (ok_or (option_map (renamed_class cs (class_number cs x)) o) Unknown)
          (λ (c : Class). ◌>>◌ (test (suits_class cap c.is_tmp) BadType) (Ok (Ref cap (class_number cs x))))
          ≡ ◌>>=◌ (ok_or o Unknown) (λ (c : Class). ◌>>◌ (test (suits_class cap c.is_tmp) BadType) (Ok (Ref cap (class_number cs x))))
      by None = refl
      by (Some c) = refl

  pub array-again : (x : Name) → names_array again (class_name (class_number cs x)) ≡ names_array cs x
  array-again x =
      ap found_array (class-again x) ∙ by (class_named cs x)
    where
      by : (o : Option Class) → found_array (option_map (renamed_class cs (class_number cs x)) o) ≡ found_array o
      by None = refl
      by (Some c) = is_some-map (renamed_type cs) c.element

  pub element-again : (c : ℕ) → element_type again c ≡ element_type cs c
  element-again c =
      ap (λ (o : Option Class). option_map (type_of again) (option_and_then (λ (k : Class). k.element) o)) (class-at cs c) ∙ by (slice_get cs c)
    where
      by-element : (e : Option Written) → option_map (type_of again) (option_map (renamed_type cs) e) ≡ option_map (type_of cs) e
      by-element None = refl
      by-element (Some w) = ap Some (type-again w)

      by : (o : Option Class) → option_map (type_of again) (option_and_then (λ (k : Class). k.element) (option_map (renamed_class cs c) o))
          ≡ option_map (type_of cs) (option_and_then (λ (k : Class). k.element) o)
      by None = refl
      by (Some d) = by-element d.element

  -- Fields

  -- a field that a class has
  pub record FieldAgain (c : ℕ) (f : Name) (d : Ty) : Type 0 where
    pub place : ℕ
    pub there : field_place (fields_of cs c) f ≡ Some place
    pub declared : field_type again c (field_name place) ≡ Some d
    pub again_there : field_place (fields_of again c) (field_name place) ≡ Some place

  pub field-again : (c : ℕ) (f : Name) (d : Ty) → field_type cs c f ≡ Some d → FieldAgain c f d
  field-again c f d h =
      let fs = fields_of cs c in
      let fs' = renamed_from (renamed_field cs) 0 fs in
      let q = mapped-some (λ (g : Field). type_of cs g.ty) (find (λ (g : Field). bytes_eq g.name f) fs) d h in
      let p = placed-field fs f q.0 q.1 in
      let within : p.0 < length fs = slice_get_within fs p.0 q.0 p.2 in
      let names = from-named (renamed_field cs) (λ (g : Field). g.name) field_name (λ k g. refl) 0 fs in
      let long : length fs' ≡ length fs = from-long (renamed_field cs) 0 fs in
      let few' : 0 + length fs' < 2 ^ 64 = below-more (length fs) (length fs') long (few.fields c) in
      let in' : p.0 < length fs' = subst (λ (m : ℕ). p.0 < m) (sym long) within in
      let found : find (λ (g : Field). bytes_eq g.name (field_name p.0)) fs' ≡ Some (renamed_field cs p.0 q.0) =
      find-named (λ (g : Field). g.name) field_name fields-apart fs' 0 p.0 p.0 names (none-behind p.0) (omega (arith, in')) few'
      ∙ from-at (renamed_field cs) fs 0 p.0 p.0 (none-behind p.0) ∙ ap (option_map (renamed_field cs p.0)) p.2 in
      record {
        place = p.0;
        there = p.1;
        declared =
            ap (λ (gs : List Field). option_map (λ (g : Field). type_of again g.ty) (find (λ (g : Field). bytes_eq g.name (field_name p.0)) gs))
            (fields-again cs c)
            ∙ ap (option_map (λ (g : Field). type_of again g.ty)) found
            ∙ ap Some (type-again q.0.ty ∙ q.2);
        again_there = ap (λ (gs : List Field). field_place gs (field_name p.0)) (fields-again cs c)
            ∙ field-named fs' 0 p.0 p.0 names (none-behind p.0) in' few';
      }

  -- Methods

  pub params-again : (s : ℕ) (ps : List Param) →
      map (λ (p : Param). type_of again p.ty) (renamed_params cs s ps) ≡ map (λ (p : Param). type_of cs p.ty) ps
  params-again s [] = refl
  params-again s (p ∷ ps) =
      ap (λ (t : Ty). t ∷ map (λ (q : Param). type_of again q.ty) (renamed_params cs (suc s) ps)) (type-again p.ty)
      ∙ ap (λ (ts : List Ty). type_of cs p.ty ∷ ts) (params-again (suc s) ps)

  pub result-again : (r : Option Written) → option_map (type_of again) (option_map (renamed_type cs) r) ≡ option_map (type_of cs) r
  result-again None = refl
  result-again (Some w) = ap Some (type-again w)

  pub method-again : (c : ℕ) (x : Name) (m : Method) → method_named cs c x ≡ Some m →
      method_named again c (method_name (method_place (methods_of cs c) x)) ≡ Some (renamed_method cs c (method_place (methods_of cs c) x) m)
  method-again c x m h =
      let ms = methods_of cs c in
      let p = method_place ms x in
      let ms' = renamed_from (renamed_method cs c) 0 ms in
      let there : slice_get ms p ≡ Some m = placed-method ms x m h in
      let within : p < length ms = slice_get_within ms p m there in
      let names = from-named (renamed_method cs c) (λ (q : Method). q.name) method_name (λ k q. refl) 0 ms in
      let long : length ms' ≡ length ms = from-long (renamed_method cs c) 0 ms in
      let few' : 0 + length ms' < 2 ^ 64 = below-more (length ms) (length ms') long (few.methods c) in
      let in' : p < length ms' = subst (λ (n : ℕ). p < n) (sym long) within in
      ap (λ (qs : List Method). find (λ (q : Method). bytes_eq q.name (method_name p)) qs) (methods-again cs c)
      ∙ find-named (λ (q : Method). q.name) method_name methods-apart ms' 0 p p names (none-behind p) (omega (arith, in')) few'
      ∙ from-at (renamed_method cs c) ms 0 p p (none-behind p) ∙ ap (option_map (renamed_method cs c p)) there

  -- The number of a method through the program

  pub called-again : (c : ℕ) (x : Name) (m : Method) → method_named cs c x ≡ Some m →
      number_called again c (method_name (method_place (methods_of cs c) x)) ≡ number_called cs c x
  called-again c x m h =
      let p = method_place (methods_of cs c) x in
      ap (called_number (method_number again c (method_name p))) (method-again c x m h)
      ∙ numbers-from cs cs 0 c c x p (none-behind c) (λ d e. by d e)
      ∙ sym (ap (called_number (method_number cs c x)) h)
    where
      by : (d : Class) → slice_get cs c ≡ Some d →
          method_place (methods_among (renamed_members cs c d.members)) (method_name (method_place (methods_of cs c) x))
          ≡ method_place (methods_among d.members) x
      by d e =
          let ms = methods_of cs c in
          let p = method_place ms x in
          let own : ms ≡ filter_map method_member d.members = ap (λ (o : Option Class). filter_map method_member (members_of o)) e in
          let ms' = renamed_from (renamed_method cs c) 0 ms in
          let within : p < length ms = slice_get_within ms p m (placed-method ms x m h) in
          let long : length ms' ≡ length ms = from-long (renamed_method cs c) 0 ms in
          ap (λ (qs : List Method). method_place qs (method_name p)) (among-is (renamed_members cs c d.members))
          ∙ ap (λ (qs : List Method). method_place qs (method_name p)) (member-methods cs c d.members)
          ∙ ap (λ (qs : List Method). method_place (renamed_from (renamed_method cs c) 0 qs) (method_name p)) (sym own)
          ∙ method-named ms' 0 p p (from-named (renamed_method cs c) (λ (q : Method). q.name) method_name (λ k q. refl) 0 ms) (none-behind p)
          (omega (arith, within, long)) (below-more (length ms) (length ms') long (few.methods c))
          ∙ ap (λ (qs : List Method). method_place qs x) (own ∙ sym (among-is d.members))
