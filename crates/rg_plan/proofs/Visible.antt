-- Bytes that may stand in the name of a file are a text.
use Rattle.std.proofs.Common.{◌≡◌, ℕ, zero, suc, ◌<◌, true, List, [], ◌∷◌, arith}
use Rattle.std.proofs.lemmas.Bool.Decides.{nat_tests}
use Rattle.std.specs.List.{list_all}
use Rattle.std.specs.Str.{IsAscii, IsUtf8}
use Rattle.std.proofs.lemmas.Bool.{and_parts}
use Rattle.std.proofs.lemmas.Str.{IsUtf8-from_ascii}
use Rattle.rg_plan.specs.Lines.{is_visible, is_file_name}

visible-below : (b : ℕ) → is_visible b ≡ true → b < 128
visible-below b h = grind (arith, nat_tests)

visible-ascii : (bs : List ℕ) → list_all is_visible bs ≡ true → IsAscii bs
visible-ascii [] h i = omega arith
visible-ascii (b ∷ bs) h zero = visible-below b (and_parts (is_visible b) (list_all is_visible bs) h).0
visible-ascii (b ∷ bs) h (suc i) = visible-ascii bs (and_parts (is_visible b) (list_all is_visible bs) h).1 i

pub file_name-text : (bs : List ℕ) → is_file_name bs ≡ true → IsUtf8 bs
file_name-text [] h = grind arith
file_name-text (b ∷ bs) h = IsUtf8-from_ascii (b ∷ bs) (visible-ascii (b ∷ bs) h)
