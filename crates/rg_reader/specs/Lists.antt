-- Rows and lists of numbers that exist (docs/language.md, "The tree").
use Rattle.std.specs.Prelude.{ℕ, List}
use Rattle.rg_tree.specs.declared.rows.Span.{Span}
use Rattle.rg_tree.specs.Rows.Tables.{Tables, numbers_in}
use Rattle.rg_tree.specs.Rows.RowsExist.{IsWithin}

-- the numbers of a span
abbrev pub numbers_of : Tables → Span → List ℕ
numbers_of t s = numbers_in t s

-- the span lies in the table of numbers
abbrev pub IsListed : Tables → Span → Type 0
IsListed t s = IsWithin t s
