-- The reserved words by their length (docs/language.md, "Tokens").
use Rattle.std.specs.Prelude.{ℕ, ◌==◌, List, length, filter}
use Rattle.rg_base.specs.declared.words.Keyword.{Keyword}
use Rattle.rg_base.specs.Words.{keywords}

-- those of so many bytes
abbrev pub keywords_of_length : ℕ → List (List ℕ × Keyword)
keywords_of_length n = filter (λ x. length x.0 == n) keywords
