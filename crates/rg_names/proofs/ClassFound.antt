-- Fields and methods of the table of a program are those of its tree. For callers.
use Rattle.std.proofs.Common.{◌≡◌, ℕ, zero, suc, ◌+◌, ◌<◌, Bool, List, [], ◌∷◌, All, map, filter_map, find, length, Option, None, Some, option_map}
use Rattle.std.proofs.Common.{slice_get, Ok, bytes_eq, if◌then◌else◌, refl, sym, ap, ◌∙◌, add-zero, zero-add, add_assoc, arith}
use Rattle.std.proofs.lemmas.List.{length-map}
use Rattle.std.proofs.lemmas.List.Elements.{All-head, All-tail}
use Rattle.rg_base.proofs.Callers.Lists.{there}
use Rattle.rg_tree.specs.declared.rows.Span.{Span}
use Rattle.rg_tree.specs.declared.rows.TypeRow.{TypeRow}
use Rattle.rg_tree.specs.declared.rows.ClassRow.{ClassRow}
use Rattle.rg_tree.specs.declared.rows.MemberRow.{MemberRow}
use Rattle.rg_tree.specs.declared.rows.MemberRow.TheVariants as row
use Rattle.rg_tree.specs.Tree.{Name, Field, Method, Member, Class}
use Rattle.rg_tree.specs.Rows.Tables.{Tables, name_at, numbers_in}
use Rattle.rg_tree.specs.Rows.RowTrees.{member_at, member_of, members_under, class_of, classes_of}
use Rattle.rg_tree.specs.Rows.RowsExist.{IsSpanBelow, EachRow, AreRows, IsClassIn}
use Rattle.rg_tree.proofs.Programs.{member_at-row, classes_of-row}
use Rattle.rg_rules.specs.Types.{field_member, method_member, members_of as tree_members, fields_of, methods_of, field_place, type_of}
use Rattle.rg_rules.specs.Headers.{member_headers}
use Rattle.rg_rules.proofs.Header.{judge_headers-members}
use Rattle.rg_names.specs.declared.entry.FieldAt.{FieldAt}
use Rattle.rg_names.specs.declared.entry.Sig.{Sig}
use Rattle.rg_names.specs.Table.{Table, IsClass, field_in, method_in}
use Rattle.rg_names.specs.TableOf.{rows_of, rows_under, rows_in, entries_of, methods_with_all, members_of, IsTableOf}
use Rattle.rg_names.specs.TreeAnswers.{FieldAnswer, MethodAnswer}
use Rattle.rg_names.specs.MethodNumbers.{first_place, methods_before}
use Rattle.rg_names.proofs.TypeFacts.{head_of}
use Rattle.rg_names.proofs.MembersFound.{RowsIn, FieldIn, MethodIn, find-field, find-method}

module _ (t : Tables) (rows : AreRows t) where
  -- the members of these numbers are the trees of their rows
  members-rows : (ks : List ℕ) → All (λ k. k < length t.members) ks → map (member_at t) ks ≡ map (member_of t) (rows_of t ks)
  members-rows [] a = refl
  members-rows (k ∷ ks) a =
      let m = there t.members k (All-head (λ i. i < length t.members) k ks a) in
      rw (m.1, member_at-row t k m.0 m.1, members-rows ks (All-tail (λ i. i < length t.members) k ks a)) refl

  rows-in : (ks : List ℕ) → All (λ k. k < length t.members) ks → RowsIn t (rows_of t ks)
  rows-in [] a = tt
  rows-in (k ∷ ks) a =
      let m = there t.members k (All-head (λ i. i < length t.members) k ks a) in
      rw m.1 (rows.members k m.0 m.1, rows-in ks (All-tail (λ i. i < length t.members) k ks a))

  -- the same of the members of a class
  members_under-rows : (o : Option TypeRow) (s : Span) → IsSpanBelow t (length t.members) s →
      members_under t o s ≡ map (member_of t) (rows_under t o s)
  members_under-rows None s h = members-rows (numbers_in t s) h.each
  members_under-rows (Some y) s h = refl

  rows_under-in : (o : Option TypeRow) (s : Span) → IsSpanBelow t (length t.members) s → RowsIn t (rows_under t o s)
  rows_under-in None s h = rows-in (numbers_in t s) h.each
  rows_under-in (Some y) s h = tt

  class-members : (c : ClassRow) → IsClassIn t c → (class_of t c).members ≡ map (member_of t) (rows_in t c)
  class-members c i = members_under-rows c.element c.members i.members

  methods-counted : (ms : List MemberRow) (n : ℕ) → methods_with_all n ms ≡ n + length (filter_map method_member (map (member_of t) ms))
  methods-counted [] n = sym (add-zero n)
  methods-counted (row.Field x y line ∷ ms) n = methods-counted ms n
  methods-counted (row.Method cap x ps y body line ∷ ms) n = let h = methods-counted ms (suc n) in omega arith

  -- the entries of the class of a number, behind the methods of the classes before it
  members_of-at : (cs : List ClassRow) (k n : ℕ) (c : ClassRow) → EachRow (λ i r. IsClassIn t r) cs → slice_get cs k ≡ Some c →
      slice_get (members_of t n cs) k ≡ Some (entries_of t 0 (n + methods_before (map (class_of t) cs) k) (rows_in t c))
  members_of-at [] k n c e g = grind arith
  members_of-at (x ∷ cs) zero n c e g = let same : x ≡ c = grind arith in rw (add-zero, same) refl
  members_of-at (x ∷ cs) (suc k) n c e g =
      let first = methods-counted (rows_in t x) n ∙ ap (λ ms. n + length (filter_map method_member ms)) (sym (class-members x (e 0 x refl))) in
      members_of-at cs k (methods_with_all n (rows_in t x)) c (λ i r h. e (suc i) r h) g
      ∙ ap (λ m. Some (entries_of t 0 (m + methods_before (map (class_of t) cs) k) (rows_in t c))) first
      ∙ ap (λ m. Some (entries_of t 0 m (rows_in t c))) (add_assoc n (length (filter_map method_member (class_of t x).members))
      (methods_before (map (class_of t) cs) k))

-- the class of a number in the table and in the tree
pub record ClassAt (t : Tables) (table : Table) (class : ℕ) : Type 0 where
  pub row : ClassRow
  pub in_tree : slice_get (classes_of t) class ≡ Some (class_of t row)
  pub members : (class_of t row).members ≡ map (member_of t) (rows_in t row)
  pub in_rows : RowsIn t (rows_in t row)
  pub headers : member_headers (classes_of t) (class_of t row) [] (map (member_of t) (rows_in t row)) ≡ Ok tt
  pub in_table : slice_get table.members class ≡ Some (entries_of t 0 (methods_before (classes_of t) class) (rows_in t row))

pub class_at : (t : Tables) (table : Table) → IsTableOf t table → (class : ℕ) → IsClass table class → ClassAt t table class
unfolding classes_of
class_at t table is class l =
    let same : length table.heads ≡ length t.classes = ap (λ (v : Table). length v.heads) is.table_is ∙ length-map t.classes head_of in
    let c = there t.classes class (omega arith) in
    let i : IsClassIn t c.0 = is.rows.classes class c.0 c.1 in
    let tree = classes_of-row t class c.0 c.1 in
    let members = class-members t is.rows c.0 i in
    record {
      row = c.0;
      in_tree = tree;
      members = members;
      in_rows = rows_under-in t is.rows c.0.element c.0.members i.members;
      headers = rw members at (judge_headers-members (classes_of t) class (class_of t c.0) is.headers tree);
      in_table = ap (λ (v : Table). slice_get v.members class) is.table_is ∙ members_of-at t is.rows t.classes class 0 c.0 is.rows.classes c.1
          ∙ ap (λ m. Some (entries_of t 0 m (rows_in t c.0))) (zero-add (methods_before (map (class_of t) t.classes) class));
    }

field_place-first : (fs : List Field) (x : Name) → field_place fs x ≡ first_place (λ f. bytes_eq f.name x) fs
field_place-first [] x = refl
field_place-first (f ∷ fs) x = ap (λ o. if bytes_eq f.name x then Some 0 else option_map suc o) (field_place-first fs x)

module _ (t : Tables) (d : AreRows t) (class n : ℕ) (l : n < length t.names) (c : Class) (ms : List Member) where
  field-answered : fields_of (classes_of t) class ≡ filter_map field_member ms → (o : Option FieldAt) → FieldIn t d.names n l c ms 0 o →
      FieldAnswer t class n o
  field-answered e None h =
      let test : Field → Bool = λ f. bytes_eq f.name (name_at t n) in
      record {
        place = field_place-first (fields_of (classes_of t) class) (name_at t n) ∙ ap (first_place test) e ∙ h.nowhere;
        ty = ap (λ fs. option_map (λ (f : Field). type_of (classes_of t) f.ty) (find test fs)) e
            ∙ ap (option_map (λ (f : Field). type_of (classes_of t) f.ty)) h.not_found;
      }
  field-answered e (Some a) h =
      let test : Field → Bool = λ f. bytes_eq f.name (name_at t n) in
      record {
        place = field_place-first (fields_of (classes_of t) class) (name_at t n) ∙ ap (first_place test) e ∙ h.placed
            ∙ ap Some (sym (h.counted ∙ zero-add h.place));
        ty = ap (λ fs. option_map (λ (f : Field). type_of (classes_of t) f.ty) (find test fs)) e
            ∙ ap (option_map (λ (f : Field). type_of (classes_of t) f.ty)) h.found ∙ ap Some (sym h.matches.ty);
        known = h.matches.known;
      }

  method-answered : methods_of (classes_of t) class ≡ filter_map method_member ms → (o : Option Sig) →
      MethodIn t d.names n l c ms (methods_before (classes_of t) class) o → MethodAnswer t class n o
  method-answered e None h =
      let test : Method → Bool = λ m. bytes_eq m.name (name_at t n) in
      let number : ℕ → ℕ = λ place. methods_before (classes_of t) class + place in
      record {
        named = ap (find test) e ∙ h.not_found;
        number = ap (λ these. option_map number (first_place test these)) e ∙ ap (option_map number) h.nowhere;
      }
  method-answered e (Some s) h =
      let test : Method → Bool = λ m. bytes_eq m.name (name_at t n) in
      let number : ℕ → ℕ = λ place. methods_before (classes_of t) class + place in
      record {
        method = h.item;
        named = ap (find test) e ∙ h.found;
        number = ap (λ these. option_map number (first_place test these)) e ∙ ap (option_map number) h.placed ∙ ap Some (sym h.counted);
        cap = h.matches.cap;
        rows = h.matches.rows;
        params = h.matches.params;
        result = h.matches.result;
        known = h.matches.known;
      }

-- the answer for a field is that of the tree
pub field_in-tree : (t : Tables) (table : Table) → IsTableOf t table → (class n : ℕ) → IsClass table class → n < length t.names →
    FieldAnswer t class n (field_in table class n)
field_in-tree t table is class n lc l =
    let c = class_at t table is class lc in
    let ms = map (member_of t) (rows_in t c.row) in
    let fields : fields_of (classes_of t) class ≡ filter_map field_member ms =
    ap (λ o. filter_map field_member (tree_members o)) c.in_tree ∙ ap (filter_map field_member) c.members in
    let found = find-field t is.rows.names n l (class_of t c.row) (rows_in t c.row) 0 (methods_before (classes_of t) class) []
    c.in_rows c.headers in
    rw c.in_table (field-answered t is.rows class n l (class_of t c.row) ms fields _ found)

-- the answer for a method is that of the tree
pub method_in-tree : (t : Tables) (table : Table) → IsTableOf t table → (class n : ℕ) → IsClass table class → n < length t.names →
    MethodAnswer t class n (method_in table class n)
method_in-tree t table is class n lc l =
    let c = class_at t table is class lc in
    let ms = map (member_of t) (rows_in t c.row) in
    let methods : methods_of (classes_of t) class ≡ filter_map method_member ms =
    ap (λ o. filter_map method_member (tree_members o)) c.in_tree ∙ ap (filter_map method_member) c.members in
    let found = find-method t is.rows.names n l (class_of t c.row) (rows_in t c.row) 0 (methods_before (classes_of t) class) []
    c.in_rows c.headers in
    rw c.in_table (method-answered t is.rows class n l (class_of t c.row) ms methods _ found)
