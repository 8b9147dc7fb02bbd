-- What the lexer answers, by what the source is cut into (docs/language.md, "Tokens").
use Rattle.std.specs.Prelude.{◌≡◌, List, Result, Ok, Err}
use Rattle.rg_base.specs.declared.token.Token.{Token}
use Rattle.rg_base.specs.declared.fault.Fault.{Fault}
use Rattle.rg_base.specs.declared.fault.Stop.{Stop}
use Rattle.rg_base.specs.declared.fault.Stop.TheVariants as stop
use Rattle.rg_lex.specs.TokenList.{TokenList}

-- a call that stopped: at the fault of the source, or at want of memory
abbrev pub Fails : Stop → Result (List Token) Fault → Type 0
Fails (stop.Fault f) meant = meant ≡ Err f
Fails stop.Memory meant = Unit {0}

-- the answer is the one that is meant: these tokens, or this fault
abbrev pub Gives : Result TokenList Stop → Result (List Token) Fault → Type 0
Gives (Ok t) meant = meant ≡ Ok t.tokens
Gives (Err e) meant = Fails e meant
