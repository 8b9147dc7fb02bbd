-- What is followed and looked up on the way along a path, as the rules say it (docs/language.md, "Judgements").
use Rattle.std.specs.Prelude.{Result, Ok, Err}
use Rattle.rg_base.specs.declared.fault.Code.{Code}
use Rattle.rg_rules.specs.Answers.{Answer}
use Rattle.rg_rules.specs.Paths as rules
use Rattle.rg_expressions.specs.declared.paths.Followed.{Followed}
use Rattle.rg_expressions.specs.declared.paths.Looked.{Looked}

-- a reference that is followed
abbrev pub followed_of : Result Followed Code → Answer rules.Followed
followed_of (Ok f) = Ok (record { cap = f.cap; class = f.class })
followed_of (Err code) = Err code

-- a field that is looked up, or an array that is found
abbrev pub looked_of : Result Looked Code → Answer rules.Looked
looked_of (Ok l) = Ok (record { receiver = l.receiver; ty = l.ty })
looked_of (Err code) = Err code
