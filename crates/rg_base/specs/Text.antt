-- What a program writes (docs/language.md, "Values and their text").
use Rattle.std.specs.Prelude.{ℕ, Bool, true, false, List, [], ◌∷◌, ◌++◌, codes, flat_map}
use Rattle.std.specs.Fmt.{signed_decimal}
use Rattle.rg_base.specs.declared.value.Val.{Val}
use Rattle.rg_base.specs.declared.value.Val.TheVariants as val

-- a truth value
abbrev pub bool_text : Bool → List ℕ
bool_text true = codes "true"
bool_text false = codes "false"

-- a printed value; only numbers and truth values are printed, and a reference has no text
abbrev pub value_text : Val → List ℕ
value_text val.Nil = []
value_text (val.Int z) = signed_decimal z
value_text (val.Bool b) = bool_text b
value_text (val.Obj serial) = []

-- a printed value on a line of its own
abbrev pub line_text : Val → List ℕ
line_text v = value_text v ++ 10 ∷ []

-- the text of an output: each value on a line of its own
abbrev pub text : List Val → List ℕ
text vs = flat_map line_text vs
