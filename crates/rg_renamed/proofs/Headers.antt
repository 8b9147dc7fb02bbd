-- Headers that have no fault have none again with numbers for names.
use Rattle.std.proofs.Common.{◌≡◌, refl, sym, ap, ◌∙◌, subst, ℕ, suc, ◌+◌, ◌<◌, ◌≤◌, ◌^◌, Bool as Truth, true, false, not, if◌then◌else◌, bytes_eq}
use Rattle.std.proofs.Common.{List, [], ◌∷◌, ◌++◌, length, find, filter_map, Option, Some, None, is_some, option_map, Ok, arith}
use Rattle.std.specs.List.{AllByRecursion}
use Rattle.rg_base.specs.declared.fault.Code.TheVariants.{Duplicate, BadType}
use Rattle.rg_tree.specs.Tree.{Name, Ty as Written, int, bool, ref, Param, Field, Method, Member, field, method, Class}
use Rattle.rg_rules.specs.Answers.{◌>>◌, test, at_line}
use Rattle.rg_rules.specs.Names.{HasFewNames}
use Rattle.rg_rules.specs.Types.{good_type, field_member, method_member}
use Rattle.rg_rules.specs.Headers.{suits_field_type, is_iso_written, suits_receiver, among, field_header, element_header, param_headers}
use Rattle.rg_rules.specs.Headers.{result_header}
use Rattle.rg_rules.specs.Headers.{method_header, member_headers, no_members, rest_header, class_names, class_members, judge_headers}
use Rattle.rg_rules.specs.Bodies.{method_body, judge_body, gives_result, judge_method, judge_members}
use Rattle.rg_base.specs.declared.fault.Code.TheVariants.{Return}
use Rattle.rg_base.specs.declared.limits.TheConstants.{BODY_NAMES}
use Rattle.rg_rules.proofs.Answers.{then-ok, test-ok, test-then, at_line-ok}
use Rattle.rg_rules.proofs.Header.{member_headers-parts, no_members-none, rest_header-members}
use Rattle.rg_verify_expressions.specs.Naming.{variable_name, field_name, class_name, method_name}
use Rattle.rg_renamed.specs.Renamed.{renamed_classes, renamed_type, renamed_params, renamed_method, renamed_field, renamed_from, renamed_members}
use Rattle.rg_renamed.specs.Renamed.{renamed_class}
use Rattle.rg_renamed.proofs.Names.{AreApart, variables-apart, fields-apart, classes-apart, methods-apart, other-bytes}
use Rattle.rg_renamed.proofs.Classes.{AreFew, good-again}
use Rattle.rg_renamed.proofs.Methods.{MethodFine}

-- Names of numbers that aren't among others

-- those of this number and of all behind it
abbrev Free : (ℕ → Name) → ℕ → List Name → Type 0
Free name k ns = (j : ℕ) → k ≤ j → j < 2 ^ 64 → among (name j) ns ≡ false

free-none : (name : ℕ → Name) (k : ℕ) → Free name k []
free-none name k j l r = refl

free-more : (name : ℕ → Name) → AreApart name → (k : ℕ) (ns : List Name) → Free name k ns → Free name (suc k) (name k ∷ ns)
free-more name apart k ns h j l r =
    let e : bytes_eq (name j) (name k) ≡ false =
    other-bytes (name j) (name k) (λ q. let same : j ≡ k = apart j k r (omega (arith, l, r)) q in omega (arith, l, same)) in
    ap (λ (b : Truth). is_some (if b then Some (name k) else find (bytes_eq (name j)) ns)) e ∙ h j (omega (arith, l)) r

free-other : (name : ℕ → Name) (x : Name) → ((j : ℕ) → bytes_eq (name j) x ≡ false) → (k : ℕ) (ns : List Name) → Free name k ns →
    Free name k (x ∷ ns)
free-other name x other k ns h j l r = ap (λ (b : Truth). is_some (if b then Some x else find (bytes_eq (name j)) ns)) (other j) ∙ h j l r

-- no method has the name of a field
method-not-field : (i j : ℕ) → bytes_eq (method_name j) (field_name i) ≡ false
method-not-field i j = refl

-- What headers ask of a type

suits-again : (cs : List Class) (t : Written) (b : Truth) → suits_field_type (renamed_type cs t) b ≡ suits_field_type t b
suits-again cs int b = refl
suits-again cs bool b = refl
suits-again cs (ref cap x) b = refl

iso-again : (cs : List Class) (t : Written) → is_iso_written (renamed_type cs t) ≡ is_iso_written t
iso-again cs int = refl
iso-again cs bool = refl
iso-again cs (ref cap x) = refl

-- Members without a fault

pub record MemberFine (cs : List Class) (d : Class) (c : ℕ) (m : Method) : Type 0 where
  pub header : method_header cs d m ≡ Ok tt
  pub fine : MethodFine cs c m

few-names : (n : ℕ) → n ≤ BODY_NAMES → n < 2 ^ 64
few-names n h = omega (arith, h)

abbrev pub FieldsFine : List Class → Class → List Member → Type 0
FieldsFine cs d ms = AllByRecursion (λ (f : Field). field_header cs d f ≡ Ok tt) (filter_map field_member ms)

abbrev pub MethodsFine : List Class → Class → ℕ → List Member → Type 0
MethodsFine cs d c ms = AllByRecursion (MemberFine cs d c) (filter_map method_member ms)

pub members-fine : (cs : List Class) (d : Class) (c : ℕ) (earlier : List Name) (ms : List Member) → member_headers cs d earlier ms ≡ Ok tt →
    judge_members cs c ms ≡ Ok tt → AllByRecursion HasFewNames ms → FieldsFine cs d ms × MethodsFine cs d c ms
members-fine cs d c earlier [] h j n = (tt, tt)
members-fine cs d c earlier (field f ∷ ms) h j n =
    let p = member_headers-parts cs d earlier (field f) ms h in
    let q = then-ok (at_line f.line (test (not (among f.name earlier)) Duplicate)) _ tt p.first in
    let r = then-ok (at_line f.line (field_header cs d f)) _ tt q.2 in
    let rest = members-fine cs d c (f.name ∷ earlier) ms p.others j n.1 in
    ((at_line-ok f.line (field_header cs d f) tt r.1, rest.0), rest.1)
members-fine cs d c earlier (method m ∷ ms) h j n =
    let p = member_headers-parts cs d earlier (method m) ms h in
    let q = then-ok (at_line m.line (test (not (among m.name earlier)) Duplicate)) _ tt p.first in
    let r = then-ok (at_line m.line (method_header cs d m)) _ tt q.2 in
    let header : method_header cs d m ≡ Ok tt = at_line-ok m.line (method_header cs d m) tt r.1 in
    let own = then-ok (judge_method cs c m) _ tt j in
    let body = then-ok (judge_body cs (method_body cs c m)) _ tt own.1 in
    let gives = test-ok (gives_result m.result m.body) Return tt (at_line-ok m.line (test (gives_result m.result m.body) Return) tt body.2) in
    let suits = test-then (suits_receiver m.receiver d.is_tmp) BadType _ tt header in
    let params = then-ok (param_headers cs [] m.params) _ tt suits.1 in
    let rest = members-fine cs d c (m.name ∷ earlier) ms p.others own.2 n.1 in (
      rest.0,
      (
        record {
          header = header;
          fine = record { params = params.1; out = body.0; body = body.1; gives = gives; room = few-names _ n.0 };
        },
        rest.1,
      ),
    )

module _ (cs : List Class) (few : AreFew cs) where
  abbrev again : List Class
  again = renamed_classes cs

  -- Fields, parameters, methods

  field-header : (c k : ℕ) (d : Class) (f : Field) → field_header cs d f ≡ Ok tt →
      field_header again (renamed_class cs c d) (renamed_field cs k f) ≡ Ok tt
  field-header c k d f h =
      ap (λ q. ◌>>◌ q (test (suits_field_type (renamed_type cs f.ty) d.is_tmp) BadType)) (good-again cs few f.ty)
      ∙ ap (λ (b : Truth). ◌>>◌ (good_type cs f.ty) (test b BadType)) (suits-again cs f.ty d.is_tmp) ∙ h

  params-header : (ps : List Param) (k : ℕ) (old new : List Name) → param_headers cs old ps ≡ Ok tt → Free variable_name k new →
      k + length ps < 2 ^ 64 → param_headers again new (renamed_params cs k ps) ≡ Ok tt
  params-header [] k old new h f l = refl
  params-header (p ∷ ps) k old new h f l =
      let q = test-then (not (among p.name old)) Duplicate _ tt h in
      let r = then-ok (good_type cs p.ty) _ tt q.1 in
      let rest = param_headers again (variable_name k ∷ new) (renamed_params cs (suc k) ps) in
      ap (λ (b : Truth). ◌>>◌ (test (not b) Duplicate) (◌>>◌ (good_type again (renamed_type cs p.ty)) rest)) (f k (omega arith) (omega (arith, l)))
      ∙ ap (λ z. ◌>>◌ z rest) (good-again cs few p.ty ∙ r.1)
      ∙ params-header ps (suc k) (p.name ∷ old) (variable_name k ∷ new) r.2 (free-more variable_name variables-apart k new f) (omega (arith, l))

  result-header : (r : Option Written) → result_header again (option_map (renamed_type cs) r) ≡ result_header cs r
  result-header None = refl
  result-header (Some t) = ap (λ z. ◌>>◌ z (Ok tt)) (good-again cs few t)

  method-header : (c k : ℕ) (d : Class) (m : Method) → MemberFine cs d c m →
      method_header again (renamed_class cs c d) (renamed_method cs c k m) ≡ Ok tt
  method-header c k d m f =
      let suits = test-then (suits_receiver m.receiver d.is_tmp) BadType _ tt f.header in
      let params = then-ok (param_headers cs [] m.params) _ tt suits.1 in
      let r = f.fine.room in
      let result = result_header again (option_map (renamed_type cs) m.result) in
      ap (λ (b : Truth). ◌>>◌ (test b BadType) (◌>>◌ (param_headers again [] (renamed_params cs 1 m.params)) result)) suits.0
      ∙ ap (λ z. ◌>>◌ z result) (params-header m.params 1 [] [] f.fine.params (free-none variable_name 1) (omega (arith, r)))
      ∙ result-header m.result ∙ params.2

  -- Members

  methods-header : (c k : ℕ) (d : Class) (new : List Name) (ms : List Method) → AllByRecursion (MemberFine cs d c) ms → Free method_name k new →
      k + length ms < 2 ^ 64 →
      member_headers again (renamed_class cs c d) new (renamed_from (λ j m. method (renamed_method cs c j m)) k ms) ≡ Ok tt
  methods-header c k d new [] h f l = refl
  methods-header c k d new (m ∷ ms) h f l =
      let e = renamed_class cs c d in
      let own = at_line m.line (method_header again e (renamed_method cs c k m)) in
      let rest = member_headers again e (method_name k ∷ new) (renamed_from (λ j q. method (renamed_method cs c j q)) (suc k) ms) in
      ap (λ (b : Truth). ◌>>◌ (at_line m.line (test (not b) Duplicate)) (◌>>◌ own rest)) (f k (omega arith) (omega (arith, l)))
      ∙ ap (λ z. ◌>>◌ (at_line m.line z) rest) (method-header c k d m h.0)
      ∙ methods-header c (suc k) d (method_name k ∷ new) ms h.1 (free-more method_name methods-apart k new f) (omega (arith, l))

  fields-header : (c k : ℕ) (d : Class) (new : List Name) (fs : List Field) (rest : List Member) →
      AllByRecursion (λ (f : Field). field_header cs d f ≡ Ok tt) fs → Free field_name k new → Free method_name 0 new → k + length fs < 2 ^ 64 →
      ((ns : List Name) → Free method_name 0 ns → member_headers again (renamed_class cs c d) ns rest ≡ Ok tt) →
      member_headers again (renamed_class cs c d) new (renamed_from (λ j f. field (renamed_field cs j f)) k fs ++ rest) ≡ Ok tt
  fields-header c k d new [] rest h f g l behind = behind new g
  fields-header c k d new (x ∷ fs) rest h f g l behind =
      let e = renamed_class cs c d in
      let own = at_line x.line (field_header again e (renamed_field cs k x)) in
      let others = member_headers again e (field_name k ∷ new) (renamed_from (λ j q. field (renamed_field cs j q)) (suc k) fs ++ rest) in
      ap (λ (b : Truth). ◌>>◌ (at_line x.line (test (not b) Duplicate)) (◌>>◌ own others)) (f k (omega arith) (omega (arith, l)))
      ∙ ap (λ z. ◌>>◌ (at_line x.line z) others) (field-header c k d x h.0)
      ∙ fields-header c (suc k) d (field_name k ∷ new) fs rest h.1 (free-more field_name fields-apart k new f)
      (free-other method_name (field_name k) (method-not-field k) 0 new g) (omega (arith, l)) behind

  -- Classes

  -- a class without a fault, with room for the numbers of its members
  pub record ClassFine (c : ℕ) (d : Class) : Type 0 where
    pub rest : rest_header cs d d.element ≡ Ok tt
    pub fields : FieldsFine cs d d.members
    pub methods : MethodsFine cs d c d.members
    pub few_fields : length (filter_map field_member d.members) < 2 ^ 64
    pub few_methods : length (filter_map method_member d.members) < 2 ^ 64

  members-header : (c : ℕ) (d : Class) → ClassFine c d → member_headers again (renamed_class cs c d) [] (renamed_members cs c d.members) ≡ Ok tt
  members-header c d f =
      let a = f.few_fields in
      let b = f.few_methods in
      fields-header c 0 d [] (filter_map field_member d.members) _ f.fields (free-none field_name 0) (free-none method_name 0) (omega (arith, a))
      (λ ns g. methods-header c 0 d ns (filter_map method_member d.members) f.methods g (omega (arith, b)))

  element-header : (c : ℕ) (d : Class) (t : Written) → element_header cs d t ≡ Ok tt →
      element_header again (renamed_class cs c d) (renamed_type cs t) ≡ Ok tt
  element-header c d t h =
      ap (λ q. ◌>>◌ q (◌>>◌ (test (suits_field_type (renamed_type cs t) d.is_tmp) BadType) (test (not (is_iso_written (renamed_type cs t))) BadType)))
      (good-again cs few t)
      ∙ ap (λ (b : Truth). ◌>>◌ (good_type cs t) (◌>>◌ (test b BadType) (test (not (is_iso_written (renamed_type cs t))) BadType)))
      (suits-again cs t d.is_tmp)
      ∙ ap (λ (b : Truth). ◌>>◌ (good_type cs t) (◌>>◌ (test (suits_field_type t d.is_tmp) BadType) (test (not b) BadType))) (iso-again cs t) ∙ h

  rest-header : (c : ℕ) (d : Class) (e : Option Written) → rest_header cs d e ≡ Ok tt → ClassFine c d →
      rest_header again (renamed_class cs c d) (option_map (renamed_type cs) e) ≡ Ok tt
  rest-header c d None h f = members-header c d f
  rest-header c d (Some t) h f =
      let p = then-ok (at_line d.line (element_header cs d t)) _ tt h in
      let n = test-ok (no_members d.members) BadType tt (at_line-ok d.line (test (no_members d.members) BadType) tt p.2) in
      ap (λ z. ◌>>◌ (at_line d.line z) (at_line d.line (test (no_members (renamed_members cs c d.members)) BadType)))
      (element-header c d t (at_line-ok d.line (element_header cs d t) tt p.1))
      ∙ ap (λ (ms : List Member). at_line d.line (test (no_members (renamed_members cs c ms)) BadType)) (no_members-none d.members n)

  -- classes from a number on
  abbrev pub ClassesFine : (c : ℕ) → List Class → Type 0
  ClassesFine c [] = Unit {0}
  ClassesFine c (d ∷ ds) = ClassFine c d × ClassesFine (suc c) ds

  names-header : (k : ℕ) (new : List Name) (ds : List Class) → Free class_name k new → k + length ds < 2 ^ 64 →
      class_names new (renamed_from (renamed_class cs) k ds) ≡ Ok tt
  names-header k new [] f l = refl
  names-header k new (d ∷ ds) f l =
      let rest = class_names (class_name k ∷ new) (renamed_from (renamed_class cs) (suc k) ds) in
      ap (λ (b : Truth). ◌>>◌ (at_line d.line (test (not b) Duplicate)) rest) (f k (omega arith) (omega (arith, l)))
      ∙ names-header (suc k) (class_name k ∷ new) ds (free-more class_name classes-apart k new f) (omega (arith, l))

  classes-header : (c : ℕ) (ds : List Class) → ClassesFine c ds → class_members again (renamed_from (renamed_class cs) c ds) ≡ Ok tt
  classes-header c [] h = refl
  classes-header c (d ∷ ds) h =
      ap (λ z. ◌>>◌ z (class_members again (renamed_from (renamed_class cs) (suc c) ds))) (rest-header c d d.element h.0.rest h.0)
      ∙ classes-header (suc c) ds h.1

  pub headers-again : ClassesFine 0 cs → judge_headers again ≡ Ok tt
  headers-again h =
      let l = few.classes in
      ap (λ z. ◌>>◌ z (class_members again again)) (names-header 0 [] cs (free-none class_name 0) (omega (arith, l))) ∙ classes-header 0 cs h
