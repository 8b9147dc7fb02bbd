-- What stands behind the name of one class, by whether it is an array class.
use Rattle.std.proofs.Common.{◌≡◌, ◌∙◌, ℕ, List, [], map, None, Some, Ok, Err, refl, sym, ap}
use Rattle.rg_base.specs.declared.ty.Ty.{Ty}
use Rattle.rg_base.specs.declared.fault.Stop.{Stop}
use Rattle.rg_tree.specs.declared.rows.ClassRow.{ClassRow}
use Rattle.rg_tree.specs.declared.rows.TypeRow.{TypeRow}
use Rattle.rg_tree.specs.Rows.Tables.{Tables, numbers_in}
use Rattle.rg_tree.specs.Rows.RowTrees.{member_at, class_of, classes_of}
use Rattle.rg_rules.specs.Answers.{◌>>◌, Lined, Passed, at_line}
use Rattle.rg_rules.specs.Headers.{member_headers, rest_header}
use Rattle.rg_names.specs.declared.entry.Entry.{Entry}
use Rattle.rg_names.specs.TableOf.{ty_of, entries_of, methods_with_all, rows_of, rows_in, element_of}
use Rattle.rg_names.specs.Judged.{FailsAs}
use Rattle.rg_names.proofs.Fails.{FailsAs-same}
use Rattle.rg_names.proofs.TypeSteps.{element_types}

-- nothing behind it changes nothing
then-nothing : (r : Lined Passed) → ◌>>◌ {B = Passed} r (Ok tt) ≡ r
then-nothing (Ok u) = refl
then-nothing (Err f) = refl

module _ (t : Tables) (class : ClassRow) where
  -- its header
  abbrev pub rest : Lined Passed
  rest = rest_header (classes_of t) (class_of t class) (class_of t class).element

  -- those of its members, where it isn't an array class
  abbrev pub members_judged : Lined Passed
  members_judged = member_headers (classes_of t) (class_of t class) [] (map (member_at t) (numbers_in t class.members))

  rest-members : class.element ≡ None → rest ≡ members_judged
  rest-members e = rw e refl

  pub members-pass : class.element ≡ None → members_judged ≡ Ok tt → rest ≡ Ok tt
  members-pass e h = rest-members e ∙ h

  pub members-fault : class.element ≡ None → (s : Stop) → FailsAs members_judged s → FailsAs rest s
  members-fault e s h = FailsAs-same rest members_judged s (rest-members e) h

  rows-members : class.element ≡ None → rows_in t class ≡ rows_of t (numbers_in t class.members)
  rows-members e = rw e refl

  pub members-entries : class.element ≡ None → (methods : ℕ) (entries : List (ℕ × Entry)) →
      entries ≡ entries_of t 0 methods (rows_of t (numbers_in t class.members)) → entries ≡ entries_of t 0 methods (rows_in t class)
  members-entries e methods entries h = h ∙ ap (entries_of t 0 methods) (sym (rows-members e))

  pub members-methods : class.element ≡ None → (methods n : ℕ) →
      n ≡ methods_with_all methods (rows_of t (numbers_in t class.members)) → n ≡ methods_with_all methods (rows_in t class)
  members-methods e methods n h = h ∙ ap (methods_with_all methods) (sym (rows-members e))

  pub members-element : class.element ≡ None → None ≡ element_of t class
  members-element e = rw e refl

  module _ (y : TypeRow) (e : class.element ≡ Some y) where
    rest-element : rest ≡ at_line class.line (element_types t y class.is_tmp)
    rest-element = rw e (then-nothing (at_line class.line (element_types t y class.is_tmp)))

    pub element-pass : at_line class.line (element_types t y class.is_tmp) ≡ Ok tt → rest ≡ Ok tt
    element-pass h = rest-element ∙ h

    pub element-fault : (s : Stop) → FailsAs (at_line class.line (element_types t y class.is_tmp)) s → FailsAs rest s
    element-fault s h = FailsAs-same rest (at_line class.line (element_types t y class.is_tmp)) s rest-element h

    rows-element : rows_in t class ≡ []
    rows-element = rw e refl

    pub element-entries : (methods : ℕ) (entries : List (ℕ × Entry)) → entries ≡ [] → entries ≡ entries_of t 0 methods (rows_in t class)
    element-entries methods entries h = h ∙ ap (entries_of t 0 methods) (sym rows-element)

    pub element-methods : (methods : ℕ) → methods ≡ methods_with_all methods (rows_in t class)
    element-methods methods = ap (methods_with_all methods) (sym rows-element)

    pub element-element : (ty : Ty) → ty ≡ ty_of t y → Some ty ≡ element_of t class
    element-element ty h = rw (e, h) refl
