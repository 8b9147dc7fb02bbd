-- What the parser answers (docs/language.md, "Grammar" and "Limits").
use Rattle.std.specs.Prelude.{◌≡◌, List}
use Rattle.rg_base.specs.declared.token.Token.{Token}
use Rattle.rg_base.specs.declared.fault.Fault.{Fault}
use Rattle.rg_lex.specs.TokenList.{TokenList}
use Rattle.rg_tree.specs.Stuck.{Stuck, fault_at}

-- the tokens are stuck somewhere, with the code of the fault, at its line
abbrev pub IsStuckWith : TokenList → Fault → Type 0
IsStuckWith t f = (at : List Token) × Stuck t.tokens f.code at × (f ≡ fault_at f.code t.end_line at)
