-- The next numbers of inputs, computed.
use Rattle.std.proofs.Common.{◌≡◌, ℕ, pos, negsuc, List, [], ◌∷◌, ◌++◌, Some, None, codes, replicate, refl}
use Rattle.rg_base.specs.Input.{found, malformed, at_end, next_number}

number_in_front_of_a_blank : next_number (codes "12 -5 x") ≡ found (pos 12) (codes " -5 x")
number_in_front_of_a_blank = refl

number_below_0 : next_number (codes " -5 x") ≡ found (negsuc 4) (codes " x")
number_below_0 = refl

letter_is_no_number : next_number (codes " x") ≡ malformed
letter_is_no_number = refl

number_at_the_end : next_number (codes "7") ≡ found (pos 7) []
number_at_the_end = refl

no_input : next_number [] ≡ at_end
no_input = refl

blanks_alone : next_number (32 ∷ 9 ∷ 13 ∷ 10 ∷ []) ≡ at_end
blanks_alone = refl

nul_is_no_blank : next_number (0 ∷ 32 ∷ []) ≡ malformed
nul_is_no_blank = refl

minus_alone : next_number (codes "- 1") ≡ malformed
minus_alone = refl

minus_twice : next_number (codes "--1") ≡ malformed
minus_twice = refl

minus_behind : next_number (codes "1-") ≡ malformed
minus_behind = refl

plus_in_front : next_number (codes "+1") ≡ malformed
plus_in_front = refl

minus_zero : next_number (codes "-0") ≡ found (pos 0) []
minus_zero = refl

greatest_number : next_number (codes "9223372036854775807") ≡ found (pos 9223372036854775807) []
greatest_number = refl

past_the_greatest_number : next_number (codes "9223372036854775808") ≡ malformed
past_the_greatest_number = refl

least_number : next_number (codes "-9223372036854775808") ≡ found (negsuc 9223372036854775807) []
least_number = refl

past_the_least_number : next_number (codes "-9223372036854775809") ≡ malformed
past_the_least_number = refl

token_of_20_bytes : next_number (codes "00000000000000000001") ≡ found (pos 1) []
token_of_20_bytes = refl

token_of_21_bytes : next_number (codes "000000000000000000001") ≡ malformed
token_of_21_bytes = refl

blanks_up_to_the_limit : next_number (replicate 4096 32 ++ codes "3") ≡ found (pos 3) []
blanks_up_to_the_limit = refl

blanks_up_to_the_limit_and_no_more : next_number (replicate 4096 10) ≡ at_end
blanks_up_to_the_limit_and_no_more = refl

one_blank_past_the_limit : next_number (replicate 4097 32 ++ codes "3") ≡ malformed
one_blank_past_the_limit = refl

blanks_past_the_limit_and_no_more : next_number (replicate 4097 32) ≡ malformed
blanks_past_the_limit_and_no_more = refl
