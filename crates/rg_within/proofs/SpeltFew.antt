-- A program that tokens spell has no more of each part than it may.
use Rattle.std.proofs.Common.{◌≡◌, refl, ap, ◌∙◌, ℕ, ◌+◌, ◌≤◌, List, filter_map, length, arith}
use Rattle.std.specs.List.{AllByRecursion}
use Rattle.rg_base.specs.declared.token.Token.{Token}
use Rattle.rg_base.specs.declared.limits.TheConstants.{CLASSES, CLASS_FIELDS, CLASS_METHODS, PARAMETERS}
use Rattle.rg_tree.specs.Tree.{Method, Member, Class, Tree}
use Rattle.rg_tree.specs.declared.counts.Counts.{Counts}
use Rattle.rg_tree.specs.Counts.{closed}
use Rattle.rg_tree.specs.Forms as form
use Rattle.rg_tree.specs.Forms.{Given}
use Rattle.rg_tree.specs.Grammar.{Reads, Spells, program_class, program_main, class_row, tmp_class_row, members_row, element_row}
use Rattle.rg_tree.specs.Grammar.{field_row, method_row}
use Rattle.rg_tree.specs.Grammar.{no_members, cap_row, plain_type, ref_type, first_param, no_params, next_param, no_more_params}
use Rattle.rg_rules.specs.Types.{field_member, method_member}
use Rattle.rg_limits.specs.Parts.{HasFewMembers, HasFewParts}
use Rattle.rg_within.proofs.Kept.{Keeps, keeps-then, keeps, opened-more, class-more, field-more, method-more, param-more}

-- a method has few parameters
abbrev HasFewParams : Method → Type 0
HasFewParams m = length m.params ≤ PARAMETERS

-- what members are, behind some fields and methods
record FewBehind (c d : Counts) (ms : List Member) : Type 0 where
  pub fields : c.fields + length (filter_map field_member ms) ≤ CLASS_FIELDS
  pub methods : c.methods + length (filter_map method_member ms) ≤ CLASS_METHODS
  pub params : AllByRecursion HasFewParams (filter_map method_member ms)
  pub classes : d.classes ≡ c.classes

-- what stands behind the name of a class
record FewInside (c d : Counts) (ms : List Member) : Type 0 where
  pub fields : length (filter_map field_member ms) ≤ CLASS_FIELDS
  pub methods : length (filter_map method_member ms) ≤ CLASS_METHODS
  pub params : AllByRecursion HasFewParams (filter_map method_member ms)
  pub classes : d.classes ≡ c.classes

-- one class more
record FewAlso (c d : Counts) (k : Class) : Type 0 where
  pub members : HasFewMembers k
  pub less : c.classes + 1 ≤ CLASSES
  pub classes : d.classes ≡ c.classes + 1

module _ {source : List ℕ} where
  -- Types and capabilities count nothing

  cap-same : {c d : Counts} {ts us : List Token} {a : Given form.Cap} → Reads source form.Cap c ts a d us → d ≡ c
  cap-same (cap_row e) = refl

  type-same : {c d : Counts} {ts us : List Token} {a : Given form.Type'} → Reads source form.Type' c ts a d us → d ≡ c
  type-same (plain_type e) = refl
  type-same (ref_type x e) = cap-same x

  -- Parameters

  more-params : {c d : Counts} {ts us : List Token} {ps : Given form.MoreParams} → Reads source form.MoreParams c ts ps d us
      → c.params ≤ PARAMETERS → c.params + length ps ≤ PARAMETERS
  more-params (next_param {c = c} {d = d} {e = e} {ps = ps} k n m l y z) few =
      let one = param-more c d m in
      let same : e.params ≡ c.params + 1 = ap (λ (x : Counts). x.params) (type-same y ∙ one.is) in
      let rest : e.params + length ps ≤ PARAMETERS = more-params z (omega (arith, same, one.less)) in
      omega (arith, same, rest)
  more-params (no_more_params e) few = omega (arith, few)

  all-params : {c d : Counts} {ts us : List Token} {ps : Given form.Params} → Reads source form.Params c ts ps d us
      → c.params ≤ PARAMETERS → c.params + length ps ≤ PARAMETERS
  all-params (first_param {c = c} {d = d} {e = e} {ps = ps} n m l y z) few =
      let one = param-more c d m in
      let same : e.params ≡ c.params + 1 = ap (λ (x : Counts). x.params) (type-same y ∙ one.is) in
      let rest : e.params + length ps ≤ PARAMETERS = more-params z (omega (arith, same, one.less)) in
      omega (arith, same, rest)
  all-params (no_params e) few = omega (arith, few)

  -- Members

  members-few : {c d : Counts} {ts us : List Token} {ms : Given form.Members} → Reads source form.Members c ts ms d us
      → c.fields ≤ CLASS_FIELDS → c.methods ≤ CLASS_METHODS → FewBehind c d ms
  members-few (field_row {c = c} {d = d} {e = e} k m l y n z) fields methods =
      let one = field-more m in
      let same = type-same y ∙ one.is in
      let f : e.fields ≡ c.fields + 1 = ap (λ (x : Counts). x.fields) same in
      let o : e.methods ≡ c.methods = ap (λ (x : Counts). x.methods) same in
      let k : e.classes ≡ c.classes = ap (λ (x : Counts). x.classes) same in
      let rest = members-few z (omega (arith, f, one.less)) (omega (arith, o, methods)) in
      record {
        fields = omega (arith, f, rest.fields);
        methods = omega (arith, o, rest.methods);
        params = rest.params;
        classes = rest.classes ∙ k;
      }
  members-few (method_row {c = c} {d = d} {e = e} {f = f} {g = g} {h = h} {i = i} {ps = ps} k a n m l b y q r x z) fields methods =
      let one = method-more m in
      let begun = cap-same a in
      let open-e = (opened-more b).is in
      let none : f.params ≡ 0 = ap (λ (x : Counts). x.params) (open-e) ∙ ap (λ (x : Counts). x.params) one.is ∙ ap (λ (x : Counts). x.params) begun in
      let few : f.params + length ps ≤ PARAMETERS = all-params y (omega (arith, none)) in
      let inside = keeps y refl in
      let behind : Keeps (closed g) i = keeps-then (keeps r refl) (keeps x refl) in
      let at-fields : f.fields ≡ c.fields = ap (λ (x : Counts). x.fields) open-e ∙ ap (λ (x : Counts). x.fields) one.is
      ∙ ap (λ (x : Counts). x.fields) begun in
      let at-methods : f.methods ≡ d.methods + 1 = ap (λ (x : Counts). x.methods) open-e ∙ ap (λ (x : Counts). x.methods) one.is in
      let at-start' : d.methods ≡ c.methods = ap (λ (x : Counts). x.methods) begun in
      let at-classes : f.classes ≡ c.classes = ap (λ (x : Counts). x.classes) open-e ∙ ap (λ (x : Counts). x.classes) one.is
      ∙ ap (λ (x : Counts). x.classes) begun in
      let f-end : i.fields ≡ c.fields = behind.fields ∙ inside.fields ∙ at-fields in
      let m-end : i.methods ≡ c.methods + 1 = behind.methods ∙ inside.methods ∙ at-methods ∙ ap (λ (n : ℕ). n + 1) at-start' in
      let less : c.methods + 1 ≤ CLASS_METHODS = omega (arith, one.less, at-start') in
      let rest = members-few z (omega (arith, f-end, fields)) (omega (arith, m-end, less)) in
      record {
        fields = omega (arith, f-end, rest.fields);
        methods = omega (arith, m-end, rest.methods);
        params = (omega (arith, few, none), rest.params);
        classes = rest.classes ∙ behind.classes ∙ inside.classes ∙ at-classes;
      }
  members-few (no_members e) fields methods =
      record { fields = omega (arith, fields); methods = omega (arith, methods); params = tt; classes = refl }

  -- Classes

  rest-few : {c d : Counts} {ts us : List Token} {r : Given form.ClassRest} → Reads source form.ClassRest c ts r d us
      → c.fields ≡ 0 → c.methods ≡ 0 → FewInside c d r.1
  rest-few (members_row {c = c} {d = d} k b x n) fields methods =
      let one = (opened-more b).is in
      let f : d.fields ≡ 0 = ap (λ (x : Counts). x.fields) one ∙ fields in
      let m : d.methods ≡ 0 = ap (λ (x : Counts). x.methods) one ∙ methods in
      let all = members-few x (omega (arith, f)) (omega (arith, m)) in
      record {
        fields = omega (arith, f, all.fields);
        methods = omega (arith, m, all.methods);
        params = all.params;
        classes = all.classes ∙ ap (λ (x : Counts). x.classes) one;
      }
  rest-few (element_row k b y n l) fields methods =
      record {
        fields = omega arith;
        methods = omega arith;
        params = tt;
        classes = ap (λ (x : Counts). x.classes) (type-same y ∙ (opened-more b).is);
      }

  class-few : {c d : Counts} {ts us : List Token} {k : Given form.Class} → Reads source form.Class c ts k d us → FewAlso c d k
  class-few (class_row {c = c} {d = d} k n m x) =
      let one = class-more c d m in
      let all = rest-few x (ap (λ (x : Counts). x.fields) one.is) (ap (λ (x : Counts). x.methods) one.is) in
      record {
        members = record { fields = all.fields; methods = all.methods; params = all.params };
        less = omega (arith, one.less);
        classes = all.classes ∙ ap (λ (x : Counts). x.classes) one.is;
      }
  class-few (tmp_class_row {c = c} {d = d} k l n m x) =
      let one = class-more c d m in
      let all = rest-few x (ap (λ (x : Counts). x.fields) one.is) (ap (λ (x : Counts). x.methods) one.is) in
      record {
        members = record { fields = all.fields; methods = all.methods; params = all.params };
        less = omega (arith, one.less);
        classes = all.classes ∙ ap (λ (x : Counts). x.classes) one.is;
      }

  program-few : {c e : Counts} {ts us : List Token} {r : Given form.Program} → Reads source form.Program c ts r e us → c.classes ≤ CLASSES
      → (c.classes + length r.classes ≤ CLASSES) × AllByRecursion HasFewMembers r.classes
  program-few (program_class {c = c} {d = d} {r = r} x y) few =
      let one = class-few x in
      let at : d.classes ≡ c.classes + 1 = one.classes in
      let rest = program-few y (omega (arith, at, one.less)) in
      let most : d.classes + length r.classes ≤ CLASSES = rest.0 in
      (omega (arith, at, most), (one.members, rest.1))
  program-few (program_main e x y) few = (omega (arith, few), tt)

pub spelt-few : (source : List ℕ) (t : Tree) (tokens : List Token) → Spells source t tokens → HasFewParts t
spelt-few source t tokens s =
    let all = program-few s.1 (omega arith) in
    let few : 0 + length t.classes ≤ CLASSES = all.0 in
    record { classes = omega (arith, few); members = all.1 }
