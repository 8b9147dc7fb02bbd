-- The text of outputs, one behind another.
use Rattle.std.proofs.Common.{◌≡◌, List, ◌++◌}
use Rattle.std.proofs.lemmas.Grind.{flat_map-append}
use Rattle.rg_base.specs.declared.value.Val.{Val}
use Rattle.rg_base.specs.Text.{line_text, text}

-- the text of values behind others
pub text-append : (xs ys : List Val) → text (xs ++ ys) ≡ text xs ++ text ys
text-append xs ys = flat_map-append line_text xs ys
