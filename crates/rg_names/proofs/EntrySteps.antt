-- The members of one class, judged one after another.
use Rattle.std.proofs.Common.{◌≡◌, ℕ, suc, ◌+◌, ◌<◌, ◌≤◌, List, [], ◌∷◌, ◌++◌, map, drop, length, get_or, slice_get, Some, Ok, refl, sym, ap, ◌∙◌}
use Rattle.std.proofs.Common.{add-one, drop-cons, length-append, arith}
use Rattle.rg_base.specs.declared.fault.Stop.{Stop}
use Rattle.rg_tree.specs.declared.rows.ClassRow.{ClassRow}
use Rattle.rg_tree.specs.declared.rows.MemberRow.{MemberRow}
use Rattle.rg_tree.specs.declared.rows.MemberRow.TheVariants as row
use Rattle.rg_tree.specs.Rows.Tables.{Tables, name_at}
use Rattle.rg_tree.specs.Rows.RowTrees.{member_at, member_of, class_of, classes_of}
use Rattle.rg_tree.specs.Rows.RowsExist.{IsMemberIn}
use Rattle.rg_tree.proofs.Programs.{member_at-row}
use Rattle.rg_rules.specs.Answers.{◌>>◌, Lined, Passed}
use Rattle.rg_rules.specs.Headers.{member_headers}
use Rattle.rg_rules.proofs.Header.{member_name, member_headers-cons}
use Rattle.rg_names.specs.declared.entry.Entry.{Entry}
use Rattle.rg_names.specs.TableOf.{entry_of, fields_with, methods_with, entries_of, methods_with_all, rows_of}
use Rattle.rg_names.specs.Judged.{FailsAs}
use Rattle.rg_names.specs.Inner.Headings.{AreNamed, names_behind}
use Rattle.rg_names.proofs.Naming.{names_behind-push, AreNamed-push}
use Rattle.rg_names.proofs.Fails.{FailsAs-first, FailsAs-same}
use Rattle.rg_base.proofs.Callers.Lists.{push-rest}

-- the first i members have no fault, and these are their entries, with the number of fields among them and of all methods so far
pub record EntriesUpTo (t : Tables) (class : ClassRow) (ks : List ℕ) (first i : ℕ) (entries : List (ℕ × Entry)) (fields methods : ℕ) : Type 0 where
  pub named : AreNamed t entries
  pub fewer : fields ≤ length entries
  pub entries_are : entries ++ entries_of t fields methods (rows_of t (drop i ks)) ≡ entries_of t 0 first (rows_of t ks)
  pub counted : methods_with_all methods (rows_of t (drop i ks)) ≡ methods_with_all first (rows_of t ks)
  pub judged : member_headers (classes_of t) (class_of t class) (names_behind t entries) (map (member_at t) (drop i ks))
      ≡ member_headers (classes_of t) (class_of t class) [] (map (member_at t) ks)

pub entries-none : (t : Tables) (class : ClassRow) (ks : List ℕ) (first : ℕ) → EntriesUpTo t class ks first 0 [] 0 first
entries-none t class ks first = record { named = tt; fewer = omega arith; entries_are = refl; counted = refl; judged = refl }

entry-named : (t : Tables) (fields methods : ℕ) (m : MemberRow) → IsMemberIn t m → (entry_of t fields methods m).0 < length t.names
entry-named t fields methods (row.Field n y line) l = l.0
entry-named t fields methods (row.Method cap n ps y body line) l = l.0

entry-name : (t : Tables) (fields methods : ℕ) (m : MemberRow) → member_name (member_of t m) ≡ name_at t (entry_of t fields methods m).0
entry-name t fields methods (row.Field n y line) = refl
entry-name t fields methods (row.Method cap n ps y body line) = refl

fields-fewer : (fields n : ℕ) (m : MemberRow) → fields ≤ n → fields_with fields m ≤ n + 1
fields-fewer fields n (row.Field x y line) l = omega arith
fields-fewer fields n (row.Method cap x ps y body line) l = omega arith

module _ (t : Tables) (class : ClassRow) (ks : List ℕ) (first i : ℕ) (entries : List (ℕ × Entry)) (fields methods : ℕ) (m : MemberRow)
    (h : EntriesUpTo t class ks first i entries fields methods) (l : i < length ks) (at : slice_get t.members (get_or ks i 0) ≡ Some m)
    (in' : IsMemberIn t m) where
  -- the header of the next member
  abbrev pub header : Lined Passed
  header = member_headers (classes_of t) (class_of t class) (names_behind t entries) (member_of t m ∷ [])

  -- what is judged behind it
  abbrev behind : Lined Passed
  behind = member_headers (classes_of t) (class_of t class) (member_name (member_of t m) ∷ names_behind t entries)
      (map (member_at t) (drop (suc i) ks))

  entries-next : member_headers (classes_of t) (class_of t class) [] (map (member_at t) ks) ≡ ◌>>◌ header behind
  entries-next =
      let rest = ap (map (member_at t)) (drop-cons ks i 0 l) ∙ ap (λ o. o ∷ map (member_at t) (drop (suc i) ks))
      (member_at-row t (get_or ks i 0) m at) in
      sym h.judged ∙ ap (member_headers (classes_of t) (class_of t class) (names_behind t entries)) rest
      ∙ member_headers-cons (classes_of t) (class_of t class) (names_behind t entries) (member_of t m) (map (member_at t) (drop (suc i) ks))

  pub entries-fault : (s : Stop) → FailsAs header s → FailsAs (member_headers (classes_of t) (class_of t class) [] (map (member_at t) ks)) s
  entries-fault s f = FailsAs-same _ _ s entries-next (FailsAs-first header behind s f)

  rows-next : rows_of t (drop i ks) ≡ m ∷ rows_of t (drop (suc i) ks)
  rows-next = rw (drop-cons ks i 0 l, at) refl

  pub entries-step : header ≡ Ok tt → EntriesUpTo t class ks first (i + 1) (entries ++ entry_of t fields methods m ∷ []) (fields_with fields m)
      (methods_with methods m)
  entries-step p =
      let e = entry_of t fields methods m in
      let longer : length (entries ++ e ∷ []) ≡ length entries + 1 = length-append entries (e ∷ []) in
      rw add-one (record {
        named = AreNamed-push t entries e.0 e.1 h.named (entry-named t fields methods m in');
        fewer = rw longer (fields-fewer fields (length entries) m h.fewer);
        entries_are = push-rest entries _ _ e (ap (λ rs. entries ++ entries_of t fields methods rs) (sym rows-next) ∙ h.entries_are);
        counted = ap (methods_with_all methods) (sym rows-next) ∙ h.counted;
        judged = ap (λ earlier. member_headers (classes_of t) (class_of t class) earlier (map (member_at t) (drop (suc i) ks)))
            (names_behind-push t entries e.0 e.1 ∙ ap (λ x. x ∷ names_behind t entries) (sym (entry-name t fields methods m)))
            ∙ sym (entries-next ∙ ap (λ r. ◌>>◌ r behind) p);
      })
