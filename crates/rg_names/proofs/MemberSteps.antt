-- The header of one member, judged in order: its name, then its types.
use Rattle.std.proofs.Common.{◌≡◌, ℕ, ◌<◌, Bool as Truth, not, is_some, List, [], ◌∷◌, map, length, None, Ok, option_map, nat_eq, refl, ap, ◌∙◌}
use Rattle.std.specs.Map.{lookup}
use Rattle.rg_base.specs.declared.fault.Code.TheVariants.{Duplicate}
use Rattle.rg_base.specs.declared.fault.Stop.{Stop}
use Rattle.rg_tree.specs.declared.rows.ClassRow.{ClassRow}
use Rattle.rg_tree.specs.declared.rows.MemberRow.{MemberRow}
use Rattle.rg_tree.specs.declared.rows.MemberRow.TheVariants as row
use Rattle.rg_tree.specs.Rows.Tables.{Tables, numbers_in, AreDistinct}
use Rattle.rg_tree.specs.Rows.RowTrees.{param_at, member_of, class_of, classes_of, type_of as written}
use Rattle.rg_rules.specs.Answers.{◌>>◌, test, Answer, Lined, Passed, at_line}
use Rattle.rg_rules.specs.Headers.{member_headers}
use Rattle.rg_names.specs.declared.entry.Entry.{Entry}
use Rattle.rg_names.specs.Judged.{FailsAs}
use Rattle.rg_names.specs.Inner.Headings.{AreNamed, names_behind, signature_header}
use Rattle.rg_names.proofs.Naming.{among-behind, none-from_new}
use Rattle.rg_names.proofs.Outcomes.{test-new}
use Rattle.rg_names.proofs.Fails.{FailsAs-first, FailsAs-second, FailsAs-same}
use Rattle.rg_names.proofs.TypeSteps.{field_types}

-- the test of a member's name
abbrev pub is_new : ℕ → ℕ → List (ℕ × Entry) → Lined Passed
is_new line name entries = at_line line (test (not (is_some (lookup (nat_eq name) entries))) Duplicate)

-- a name that passed is nowhere
pub absent : (line name : ℕ) (entries : List (ℕ × Entry)) → is_new line name entries ≡ Ok tt → lookup (nat_eq name) entries ≡ None
absent line name entries p = none-from_new (lookup (nat_eq name) entries) (test-new line _ Duplicate p)

module _ (a b : Lined Passed) where
  name-fails : (s : Stop) → FailsAs a s → FailsAs (◌>>◌ a (◌>>◌ {B = Passed} b (Ok tt))) s
  name-fails s f = FailsAs-first a _ s f

  types-fail : (s : Stop) → a ≡ Ok tt → FailsAs b s → FailsAs (◌>>◌ a (◌>>◌ {B = Passed} b (Ok tt))) s
  types-fail s p f = FailsAs-second a _ tt s p (FailsAs-first b _ s f)

  both-pass : a ≡ Ok tt → b ≡ Ok tt → ◌>>◌ a (◌>>◌ {B = Passed} b (Ok tt)) ≡ Ok tt
  both-pass p q = rw (p, q) refl

-- what stands with a member behind its name
abbrev pub types_of : Tables → (is_tmp : Truth) → MemberRow → Answer Passed
types_of t is_tmp (row.Field n y line) = field_types t y is_tmp
types_of t is_tmp (row.Method cap n ps y body line) =
    signature_header (classes_of t) is_tmp cap (map (param_at t) (numbers_in t ps)) (option_map (written t) y)

-- the line of a member
abbrev pub line_of : MemberRow → ℕ
line_of (row.Field n y line) = line
line_of (row.Method cap n ps y body line) = line

-- the name of a member
abbrev pub name_of : MemberRow → ℕ
name_of (row.Field n y line) = n
name_of (row.Method cap n ps y body line) = n

module _ (t : Tables) (d : AreDistinct t.names) (class : ClassRow) (entries : List (ℕ × Entry)) (named : AreNamed t entries) where
  -- the header of one member
  abbrev pub header : MemberRow → Lined Passed
  header m = member_headers (classes_of t) (class_of t class) (names_behind t entries) (member_of t m ∷ [])

  header-parts : (m : MemberRow) → name_of m < length t.names →
      header m ≡ ◌>>◌ (is_new (line_of m) (name_of m) entries) (◌>>◌ {B = Passed} (at_line (line_of m) (types_of t class.is_tmp m)) (Ok tt))
  header-parts (row.Field n y line) l =
      ap (λ b. ◌>>◌ (at_line line (test (not b) Duplicate)) (◌>>◌ {B = Passed} (at_line line (types_of t class.is_tmp (row.Field n y line))) (Ok tt)))
      (among-behind t d n l entries named)
  header-parts (row.Method cap n ps y body line) l =
      ap (λ b. ◌>>◌ (at_line line (test (not b) Duplicate)) (◌>>◌ {B = Passed}
      (at_line line (types_of t class.is_tmp (row.Method cap n ps y body line))) (Ok tt)))
      (among-behind t d n l entries named)

  module _ (m : MemberRow) (l : name_of m < length t.names) where
    pub header-repeated : (s : Stop) → FailsAs (is_new (line_of m) (name_of m) entries) s → FailsAs (header m) s
    header-repeated s f = FailsAs-same _ _ s (header-parts m l) (name-fails _ _ s f)

    pub header-mistyped : (s : Stop) → is_new (line_of m) (name_of m) entries ≡ Ok tt →
        FailsAs (at_line (line_of m) (types_of t class.is_tmp m)) s → FailsAs (header m) s
    header-mistyped s p f = FailsAs-same _ _ s (header-parts m l) (types-fail _ _ s p f)

    pub header-passed : is_new (line_of m) (name_of m) entries ≡ Ok tt → at_line (line_of m) (types_of t class.is_tmp m) ≡ Ok tt → header m ≡ Ok tt
    header-passed p q = header-parts m l ∙ both-pass _ _ p q
