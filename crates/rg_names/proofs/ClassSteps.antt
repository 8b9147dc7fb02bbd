-- The members of the classes, judged one class after another.
use Rattle.std.proofs.Common.{◌≡◌, ℕ, suc, ◌+◌, List, [], ◌∷◌, ◌++◌, map, drop, length, slice_get, Option, Some, Ok, refl, sym, ap, ◌∙◌, add-one}
use Rattle.rg_base.specs.declared.ty.Ty.{Ty}
use Rattle.rg_base.specs.declared.fault.Stop.{Stop}
use Rattle.rg_tree.specs.declared.rows.ClassRow.{ClassRow}
use Rattle.rg_tree.specs.Rows.Tables.{Tables}
use Rattle.rg_tree.specs.Rows.RowTrees.{class_of, classes_of}
use Rattle.rg_tree.proofs.Programs.{classes_of-row}
use Rattle.rg_rules.specs.Answers.{◌>>◌, Lined, Passed}
use Rattle.rg_rules.specs.Headers.{rest_header, class_members}
use Rattle.rg_names.specs.declared.entry.Entry.{Entry}
use Rattle.rg_names.specs.TableOf.{entries_of, methods_with_all, rows_in, members_of, element_of}
use Rattle.rg_names.specs.Judged.{FailsAs}
use Rattle.rg_names.proofs.Fails.{FailsAs-first, FailsAs-same}
use Rattle.rg_base.proofs.Callers.Lists.{drop-get, push-rest}

-- what stands behind the names of the first i classes has no fault, and these are their members and types of elements, with the number of
-- methods so far
pub record ClassesUpTo (t : Tables) (i : ℕ) (members : List (List (ℕ × Entry))) (elements : List (Option Ty)) (methods : ℕ) : Type 0 where
  pub members_are : members ++ members_of t methods (drop i t.classes) ≡ members_of t 0 t.classes
  pub elements_are : elements ++ map (element_of t) (drop i t.classes) ≡ map (element_of t) t.classes
  pub judged : class_members (classes_of t) (drop i (classes_of t)) ≡ class_members (classes_of t) (classes_of t)

pub classes-none : (t : Tables) → ClassesUpTo t 0 [] [] 0
classes-none t = record { members_are = refl; elements_are = refl; judged = refl }

module _ (t : Tables) (i : ℕ) (members : List (List (ℕ × Entry))) (elements : List (Option Ty)) (methods : ℕ) (class : ClassRow)
    (h : ClassesUpTo t i members elements methods) (at : slice_get t.classes i ≡ Some class) where
  -- the headers of the next class
  abbrev pub header : Lined Passed
  header = rest_header (classes_of t) (class_of t class) (class_of t class).element

  classes-next : class_members (classes_of t) (classes_of t) ≡ ◌>>◌ header (class_members (classes_of t) (drop (suc i) (classes_of t)))
  classes-next =
      sym h.judged ∙ ap (class_members (classes_of t)) (drop-get (classes_of t) i (class_of t class) (classes_of-row t i class at))

  pub classes-fault : (s : Stop) → FailsAs header s → FailsAs (class_members (classes_of t) (classes_of t)) s
  classes-fault s f = FailsAs-same _ _ s classes-next (FailsAs-first header _ s f)

  pub classes-step : header ≡ Ok tt →
      ClassesUpTo t (i + 1) (members ++ entries_of t 0 methods (rows_in t class) ∷ []) (elements ++ element_of t class ∷ [])
      (methods_with_all methods (rows_in t class))
  classes-step p = rw add-one (record {
    members_are = push-rest members _ _ (entries_of t 0 methods (rows_in t class))
        (ap (λ cs. members ++ members_of t methods cs) (sym (drop-get t.classes i class at)) ∙ h.members_are);
    elements_are = push-rest elements _ _ (element_of t class)
        (ap (λ cs. elements ++ map (element_of t) cs) (sym (drop-get t.classes i class at)) ∙ h.elements_are);
    judged = sym (classes-next ∙ ap (λ r. ◌>>◌ r (class_members (classes_of t) (drop (suc i) (classes_of t)))) p);
  })

-- as many as classes
pub length-members_of : (t : Tables) (cs : List ClassRow) (methods : ℕ) → length (members_of t methods cs) ≡ length cs
length-members_of t [] methods = refl
length-members_of t (c ∷ cs) methods = ap suc (length-members_of t cs (methods_with_all methods (rows_in t c)))
