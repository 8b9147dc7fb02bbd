-- A look-up among the entries of a class finds what the tree has.
use Rattle.std.proofs.Common.{◌≡◌, ℕ, suc, ◌<◌, Bool as Truth, true, false, cond, is_some, List, [], ◌∷◌, map, filter_map, find, length, Option, None}
use Rattle.std.proofs.Common.{Some, option_map, option_and_then, IfSome, Ok, nat_eq, bytes_eq, refl, sym, ap, ◌∙◌, true≢false}
use Rattle.std.specs.Map.{lookup}
use Rattle.std.proofs.lemmas.Slice.Eq.{bytes_eq-Decides}
use Rattle.rg_base.specs.declared.ty.Ty.{Ty}
use Rattle.rg_base.specs.declared.words.Cap.{Cap}
use Rattle.rg_tree.specs.declared.rows.Span.{Span}
use Rattle.rg_tree.specs.declared.rows.MemberRow.{MemberRow}
use Rattle.rg_tree.specs.declared.rows.MemberRow.TheVariants as row
use Rattle.rg_tree.specs.declared.rows.TypeRow.{TypeRow}
use Rattle.rg_tree.specs.Tree.{Name, Ty as Written, Field as TreeField, Method as TreeMethod, Member, field, method, Class}
use Rattle.rg_tree.specs.Rows.Tables.{Tables, name_at, numbers_in, AreDistinct}
use Rattle.rg_tree.specs.Rows.RowTrees.{param_at, block_of, member_of, classes_of, type_of as written}
use Rattle.rg_tree.specs.Rows.RowsExist.{IsMemberIn, IsSpanBelow}
use Rattle.rg_rules.specs.Types.{type_of, good_type, field_member, method_member}
use Rattle.rg_rules.specs.Headers.{among, member_headers}
use Rattle.rg_rules.proofs.Header.{good_type-type_of, field-good, result-good, HeadersParts, member_headers-parts}
use Rattle.rg_names.specs.declared.entry.FieldAt.{FieldAt}
use Rattle.rg_names.specs.declared.entry.Sig.{Sig}
use Rattle.rg_names.specs.declared.entry.Entry.{Entry}
use Rattle.rg_names.specs.declared.entry.Entry.TheVariants.{Field, Method}
use Rattle.rg_names.specs.Table.{as_field, as_method}
use Rattle.rg_names.specs.TableOf.{ty_of, entries_of}
use Rattle.rg_names.specs.TreeAnswers.{IsKnown}
use Rattle.rg_names.proofs.Naming.{name-eq, name-eq-back}
use Rattle.rg_names.proofs.TypeFacts.{good_type-IsKnown}
use Rattle.rg_names.proofs.FoundIn.{Absent, Absent-nil, Absent-cons, FoundIn, found-here, found-behind}

-- the rows name what exists
abbrev pub RowsIn : Tables → List MemberRow → Type 0
RowsIn t [] = Unit {0}
RowsIn t (m ∷ ms) = IsMemberIn t m × RowsIn t ms

-- a name among earlier ones is none that is new
apart : (x y : Name) (earlier : List Name) → among x earlier ≡ true → among y earlier ≡ false → bytes_eq y x ≡ false
apart x y earlier a b = by (bytes_eq y x) refl
  where
    by : (r : Truth) → bytes_eq y x ≡ r → bytes_eq y x ≡ false
    by true e = absurd (true≢false (sym a ∙ ap (λ z. among z earlier) (sym ((bytes_eq-Decides y x).0 e)) ∙ b))
    by false e = e

pub among-later : (x y : Name) (earlier : List Name) → among x earlier ≡ true → among x (y ∷ earlier) ≡ true
among-later x y earlier a = by (bytes_eq x y)
  where
    by : (b : Truth) → is_some (cond b (Some y) (find (bytes_eq x) earlier)) ≡ true
    by true = refl
    by false = a

pub among-here : (x y : Name) (earlier : List Name) → bytes_eq x y ≡ true → among x (y ∷ earlier) ≡ true
among-here x y earlier e = rw e refl

module _ (classes : List Class) (c : Class) (x : Name) where
  -- no later field has an earlier name
  fresh-fields : (earlier : List Name) (ms : List Member) → member_headers classes c earlier ms ≡ Ok tt → among x earlier ≡ true →
      Absent (λ f. bytes_eq f.name x) (filter_map field_member ms)
  fresh-fields earlier [] h a = Absent-nil (λ f. bytes_eq f.name x)
  fresh-fields earlier (field f ∷ ms) h a =
      let p = member_headers-parts classes c earlier (field f) ms h in
      Absent-cons (λ f. bytes_eq f.name x) f (filter_map field_member ms) (apart x f.name earlier a p.is_new)
      (fresh-fields (f.name ∷ earlier) ms p.others (among-later x f.name earlier a))
  fresh-fields earlier (method m ∷ ms) h a =
      let p = member_headers-parts classes c earlier (method m) ms h in
      fresh-fields (m.name ∷ earlier) ms p.others (among-later x m.name earlier a)

  -- and no later method
  fresh-methods : (earlier : List Name) (ms : List Member) → member_headers classes c earlier ms ≡ Ok tt → among x earlier ≡ true →
      Absent (λ m. bytes_eq m.name x) (filter_map method_member ms)
  fresh-methods earlier [] h a = Absent-nil (λ m. bytes_eq m.name x)
  fresh-methods earlier (field f ∷ ms) h a =
      let p = member_headers-parts classes c earlier (field f) ms h in
      fresh-methods (f.name ∷ earlier) ms p.others (among-later x f.name earlier a)
  fresh-methods earlier (method m ∷ ms) h a =
      let p = member_headers-parts classes c earlier (method m) ms h in
      Absent-cons (λ m. bytes_eq m.name x) m (filter_map method_member ms) (apart x m.name earlier a p.is_new)
      (fresh-methods (m.name ∷ earlier) ms p.others (among-later x m.name earlier a))

-- a field of the table is that of the tree
pub record FieldMatches (t : Tables) (f : TreeField) (a : FieldAt) : Type 0 where
  pub ty : a.ty ≡ type_of (classes_of t) f.ty
  pub known : IsKnown (classes_of t) a.ty

-- a method of the table is that of the tree
pub record MethodMatches (t : Tables) (m : TreeMethod) (s : Sig) : Type 0 where
  pub cap : m.receiver ≡ s.cap
  pub rows : IsSpanBelow t (length t.params) s.params
  pub params : map (param_at t) (numbers_in t s.params) ≡ m.params
  pub result : option_map (type_of (classes_of t)) m.result ≡ s.result
  pub known : IfSome s.result (IsKnown (classes_of t))

good-known : (t : Tables) (y : TypeRow) (ty : Ty) → good_type (classes_of t) (written t y) ≡ Ok ty → IsKnown (classes_of t) (ty_of t y)
good-known t y ty g =
    good_type-IsKnown (classes_of t) (written t y) (ty_of t y) (g ∙ ap Ok (good_type-type_of (classes_of t) (written t y) ty g))

result-same : (t : Tables) (y : Option TypeRow) → option_map (type_of (classes_of t)) (option_map (written t) y) ≡ option_map (ty_of t) y
result-same t None = refl
result-same t (Some y) = refl

result-known : (t : Tables) (y : Option TypeRow) →
    ((w : Written) → option_map (written t) y ≡ Some w → (ty : Ty) × (good_type (classes_of t) w ≡ Ok ty))
    → IfSome (option_map (ty_of t) y) (IsKnown (classes_of t))
result-known t None h = tt
result-known t (Some y) h = let g = h (written t y) refl in good-known t y g.0 g.1

-- a field and a method of rows, as the tree has them
abbrev field_at : Tables → ℕ → TypeRow → ℕ → TreeField
field_at t k y line = record { name = name_at t k; ty = written t y; line = line }

abbrev method_at : Tables → Cap → ℕ → Span → Option TypeRow → Span → ℕ → TreeMethod
method_at t cap k ps y body line = record {
  receiver = cap;
  name = name_at t k;
  params = map (param_at t) (numbers_in t ps);
  result = option_map (written t) y;
  body = block_of t body;
  line = line;
}

module _ (t : Tables) (d : AreDistinct t.names) (n : ℕ) (l : n < length t.names) (c : Class) where
  -- an answer for the field of that name among members, behind so many fields
  abbrev pub FieldIn : List Member → ℕ → Option FieldAt → Type 0
  FieldIn ms fields o = FoundIn (FieldMatches t) (λ a. a.index) (λ f. bytes_eq f.name (name_at t n)) (filter_map field_member ms) fields o

  -- an answer for the method of that name among members, behind so many methods
  abbrev pub MethodIn : List Member → ℕ → Option Sig → Type 0
  MethodIn ms methods o = FoundIn (MethodMatches t) (λ s. s.number) (λ m. bytes_eq m.name (name_at t n)) (filter_map method_member ms) methods o

  field-or : (k : ℕ) (y : TypeRow) (line : ℕ) (ms : List Member) (fields : ℕ) (earlier : List Name) (rest : Option Entry) → k < length t.names →
      HeadersParts (classes_of t) c earlier (field (field_at t k y line)) ms → FieldIn ms (suc fields) (option_and_then as_field rest) →
      (b : Truth) → nat_eq n k ≡ b →
      FieldIn (field (field_at t k y line) ∷ ms) fields (option_and_then as_field
      (cond b (Some (Field (record { index = fields; ty = ty_of t y }))) rest))
  field-or k y line ms fields earlier rest lk p r true e =
      let g = field-good (classes_of t) c earlier (field_at t k y line) p.first in
      found-here (FieldMatches t) (λ a. a.index) (λ f. bytes_eq f.name (name_at t n)) (field_at t k y line) (filter_map field_member ms) fields
      (name-eq-back t d n k l lk ∙ e) (record { index = fields; ty = ty_of t y }) refl (record { ty = refl; known = good-known t y g.0 g.1 })
  field-or k y line ms fields earlier rest lk p r false e =
      found-behind (FieldMatches t) (λ a. a.index) (λ f. bytes_eq f.name (name_at t n)) (field_at t k y line) (filter_map field_member ms) fields
      (name-eq-back t d n k l lk ∙ e) (option_and_then as_field rest) r

  method-or : (cap : Cap) (k : ℕ) (ps : Span) (y : Option TypeRow) (body : Span) (line : ℕ) (ms : List Member) (methods : ℕ) (earlier : List Name)
      (rest : Option Entry) → k < length t.names → IsSpanBelow t (length t.params) ps →
      HeadersParts (classes_of t) c earlier (method (method_at t cap k ps y body line)) ms
      → MethodIn ms (suc methods) (option_and_then as_method rest) →
      (b : Truth) → nat_eq n k ≡ b →
      MethodIn (method (method_at t cap k ps y body line) ∷ ms) methods
      (option_and_then as_method (cond b (Some (Method (record { number = methods; cap = cap; params = ps; result = option_map (ty_of t) y }))) rest))
  method-or cap k ps y body line ms methods earlier rest lk lp p r true e =
      found-here (MethodMatches t) (λ s. s.number) (λ m. bytes_eq m.name (name_at t n)) (method_at t cap k ps y body line)
      (filter_map method_member ms) methods
      (name-eq-back t d n k l lk ∙ e) (record { number = methods; cap = cap; params = ps; result = option_map (ty_of t) y }) refl
      (record {
        cap = refl;
        rows = lp;
        params = refl;
        result = result-same t y;
        known = result-known t y (result-good (classes_of t) c earlier (method_at t cap k ps y body line) p.first);
      })
  method-or cap k ps y body line ms methods earlier rest lk lp p r false e =
      found-behind (MethodMatches t) (λ s. s.number) (λ m. bytes_eq m.name (name_at t n)) (method_at t cap k ps y body line)
      (filter_map method_member ms) methods
      (name-eq-back t d n k l lk ∙ e) (option_and_then as_method rest) r

  -- a method has that name: no field has it
  no-field : (k : ℕ) (s : Sig) (ms : List Member) (fields : ℕ) (earlier : List Name) (rest : Option Entry) → k < length t.names →
      member_headers (classes_of t) c (name_at t k ∷ earlier) ms ≡ Ok tt → FieldIn ms fields (option_and_then as_field rest) →
      (b : Truth) → nat_eq n k ≡ b → FieldIn ms fields (option_and_then as_field (cond b (Some (Method s)) rest))
  no-field k s ms fields earlier rest lk h r true e =
      fresh-fields (classes_of t) c (name_at t n) (name_at t k ∷ earlier) ms h
      (among-here (name_at t n) (name_at t k) earlier (name-eq t d n k l lk ∙ e))
  no-field k s ms fields earlier rest lk h r false e = r

  -- a field has that name: no method has it
  no-method : (k : ℕ) (a : FieldAt) (ms : List Member) (methods : ℕ) (earlier : List Name) (rest : Option Entry) → k < length t.names →
      member_headers (classes_of t) c (name_at t k ∷ earlier) ms ≡ Ok tt → MethodIn ms methods (option_and_then as_method rest) →
      (b : Truth) → nat_eq n k ≡ b → MethodIn ms methods (option_and_then as_method (cond b (Some (Field a)) rest))
  no-method k a ms methods earlier rest lk h r true e =
      fresh-methods (classes_of t) c (name_at t n) (name_at t k ∷ earlier) ms h
      (among-here (name_at t n) (name_at t k) earlier (name-eq t d n k l lk ∙ e))
  no-method k a ms methods earlier rest lk h r false e = r

  -- the field of a name
  pub find-field : (rows : List MemberRow) (fields methods : ℕ) (earlier : List Name) → RowsIn t rows →
      member_headers (classes_of t) c earlier (map (member_of t) rows) ≡ Ok tt →
      FieldIn (map (member_of t) rows) fields (option_and_then as_field (lookup (nat_eq n) (entries_of t fields methods rows)))
  find-field [] fields methods earlier i h = Absent-nil (λ f. bytes_eq f.name (name_at t n))
  find-field (row.Field k y line ∷ rs) fields methods earlier i h =
      let p = member_headers-parts (classes_of t) c earlier (field (field_at t k y line)) (map (member_of t) rs) h in
      field-or k y line (map (member_of t) rs) fields earlier (lookup (nat_eq n) (entries_of t (suc fields) methods rs)) i.0.0 p
      (find-field rs (suc fields) methods (name_at t k ∷ earlier) i.1 p.others) (nat_eq n k) refl
  find-field (row.Method cap k ps y body line ∷ rs) fields methods earlier i h =
      let p = member_headers-parts (classes_of t) c earlier (method (method_at t cap k ps y body line)) (map (member_of t) rs) h in
      no-field k (record { number = methods; cap = cap; params = ps; result = option_map (ty_of t) y }) (map (member_of t) rs) fields earlier
      (lookup (nat_eq n) (entries_of t fields (suc methods) rs)) i.0.0 p.others
      (find-field rs fields (suc methods) (name_at t k ∷ earlier) i.1 p.others) (nat_eq n k) refl

  -- the method of a name
  pub find-method : (rows : List MemberRow) (fields methods : ℕ) (earlier : List Name) → RowsIn t rows →
      member_headers (classes_of t) c earlier (map (member_of t) rows) ≡ Ok tt →
      MethodIn (map (member_of t) rows) methods (option_and_then as_method (lookup (nat_eq n) (entries_of t fields methods rows)))
  find-method [] fields methods earlier i h = Absent-nil (λ m. bytes_eq m.name (name_at t n))
  find-method (row.Field k y line ∷ rs) fields methods earlier i h =
      let p = member_headers-parts (classes_of t) c earlier (field (field_at t k y line)) (map (member_of t) rs) h in
      no-method k (record { index = fields; ty = ty_of t y }) (map (member_of t) rs) methods earlier
      (lookup (nat_eq n) (entries_of t (suc fields) methods rs)) i.0.0 p.others
      (find-method rs (suc fields) methods (name_at t k ∷ earlier) i.1 p.others) (nat_eq n k) refl
  find-method (row.Method cap k ps y body line ∷ rs) fields methods earlier i h =
      let p = member_headers-parts (classes_of t) c earlier (method (method_at t cap k ps y body line)) (map (member_of t) rs) h in
      method-or cap k ps y body line (map (member_of t) rs) methods earlier (lookup (nat_eq n) (entries_of t fields (suc methods) rs)) i.0.0 i.0.1 p
      (find-method rs fields (suc methods) (name_at t k ∷ earlier) i.1 p.others) (nat_eq n k) refl
