-- What contracts see of the tokens of a source (docs/language.md, "Tokens").
use Rattle.std.specs.Prelude.{ℕ, List}
use Rattle.rg_base.specs.declared.token.Token.{Token}

-- the tokens in the order of the source, and the line of its end
pub record TokenList : Type 0 where
  pub tokens : List Token
  pub end_line : ℕ
