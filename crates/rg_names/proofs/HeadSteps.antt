-- The names of classes, judged one after another.
use Rattle.std.proofs.Common.{◌≡◌, ℕ, suc, ◌+◌, ◌<◌, Bool, not, List, [], ◌∷◌, ◌++◌, map, drop, length, slice_get, None, Some, is_some, Ok, nat_eq}
use Rattle.std.proofs.Common.{refl, sym, ap, ◌∙◌, add-one}
use Rattle.std.specs.Map.{lookup}
use Rattle.rg_base.specs.declared.fault.Code.TheVariants.{Duplicate}
use Rattle.rg_base.specs.declared.fault.Stop.{Stop}
use Rattle.rg_tree.specs.declared.rows.ClassRow.{ClassRow}
use Rattle.rg_tree.specs.Rows.Tables.{Tables, name_at}
use Rattle.rg_tree.specs.Rows.RowTrees.{class_of, classes_of}
use Rattle.rg_tree.specs.Rows.RowsExist.{AreRows}
use Rattle.rg_tree.proofs.Programs.{classes_of-row}
use Rattle.rg_rules.specs.Answers.{◌>>◌, test, Lined, Passed, at_line}
use Rattle.rg_rules.specs.Headers.{class_names}
use Rattle.rg_names.specs.TableOf.{heads_of}
use Rattle.rg_names.specs.Judged.{FailsAs}
use Rattle.rg_names.specs.Inner.Headings.{AreNamed, names_behind}
use Rattle.rg_names.proofs.Naming.{among-behind, names_behind-push, AreNamed-push, none-from_new}
use Rattle.rg_names.proofs.Outcomes.{test-new}
use Rattle.rg_names.proofs.Fails.{FailsAs-first, FailsAs-same}
use Rattle.rg_base.proofs.Callers.Lists.{drop-get, push-rest}

-- the names of the first i classes differ, and these are their classes
pub record HeadsUpTo (t : Tables) (i : ℕ) (heads : List (ℕ × Bool)) : Type 0 where
  pub rows : AreRows t
  pub named : AreNamed t heads
  pub heads_are : heads ++ map (λ c. (c.name, c.is_tmp)) (drop i t.classes) ≡ heads_of t
  pub judged : class_names (names_behind t heads) (drop i (classes_of t)) ≡ class_names [] (classes_of t)

pub heads-none : (t : Tables) → AreRows t → HeadsUpTo t 0 []
heads-none t rows = record { rows = rows; named = tt; heads_are = refl; judged = refl }

-- the test of the next class
abbrev pub is_new : ClassRow → List (ℕ × Bool) → Lined Passed
is_new row heads = at_line row.line (test (not (is_some (lookup (nat_eq row.name) heads))) Duplicate)

module _ (t : Tables) (i : ℕ) (heads : List (ℕ × Bool)) (row : ClassRow) (h : HeadsUpTo t i heads) (at : slice_get t.classes i ≡ Some row) where
  heads-next : class_names [] (classes_of t)
      ≡ ◌>>◌ (is_new row heads) (class_names (name_at t row.name ∷ names_behind t heads) (drop (suc i) (classes_of t)))
  heads-next =
      let named : row.name < length t.names = (h.rows.classes i row at).name in
      sym h.judged ∙ ap (class_names (names_behind t heads)) (drop-get (classes_of t) i (class_of t row) (classes_of-row t i row at))
      ∙ ap (λ b. ◌>>◌ (at_line row.line (test (not b) Duplicate)) (class_names (name_at t row.name ∷ names_behind t heads)
      (drop (suc i) (classes_of t))))
      (among-behind t h.rows.names row.name named heads h.named)

  pub heads-fault : (s : Stop) → FailsAs (is_new row heads) s → FailsAs (class_names [] (classes_of t)) s
  heads-fault s f = FailsAs-same _ _ s heads-next (FailsAs-first (is_new row heads) _ s f)

  pub heads-absent : is_new row heads ≡ Ok tt → lookup (nat_eq row.name) heads ≡ None
  heads-absent p = none-from_new (lookup (nat_eq row.name) heads) (test-new row.line _ Duplicate p)

  pub heads-step : is_new row heads ≡ Ok tt → HeadsUpTo t (i + 1) (heads ++ (row.name, row.is_tmp) ∷ [])
  heads-step p = rw add-one (record {
    rows = h.rows;
    named = AreNamed-push t heads row.name row.is_tmp h.named (h.rows.classes i row at).name;
    heads_are = push-rest heads _ _ (row.name, row.is_tmp) (ap (λ cs. heads ++ map (λ (c : ClassRow). (c.name, c.is_tmp)) cs)
        (sym (drop-get t.classes i row at)) ∙ h.heads_are);
    judged = rw (names_behind-push t heads row.name row.is_tmp) (sym (heads-next
        ∙ ap (λ r. ◌>>◌ r (class_names (name_at t row.name ∷ names_behind t heads) (drop (suc i) (classes_of t)))) p));
  })
