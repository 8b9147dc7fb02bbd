use Rattle.std.proofs.Common.{◌≡◌, ℕ, ℤ, List, Option, refl, ◌++◌, ◌∙◌, sym, ap, to_z, of_z, w64, arith}
use Rattle.std.specs.Option.{option_to_list}
use Rattle.std.proofs.lemmas.Int.{to_z-of_z}
use Rattle.rg_base.specs.Input.{found_or_malformed, token_number}
use Rattle.rg_input.proofs.Read.{enough-empty, says_past, says_end, says_token}
use Rattle.rg_input.proofs.held.Held.verdict.Goals as goal

-- what was answered of the token
token_is : (result : Option ℤ) (bytes token : List ℕ) (answer : Option ℤ) → result ≡ token_number bytes → bytes ≡ token → result ≡ answer →
    token_number token ≡ answer
token_is result bytes token answer given same is = sym (ap token_number same) ∙ sym given ∙ is

pub returns-then-len-gt-INPUT_BLANKS-clause-says : goal.returns-then-len-gt-INPUT_BLANKS-clause-says
returns-then-len-gt-INPUT_BLANKS-clause-says c more end = says_past _ _ _ more c.args.self.now.read (omega arith)

pub returns-then-is_empty-clause-says : goal.returns-then-is_empty-clause-says
returns-then-is_empty-clause-says c more end = says_end _ _ _ more c.args.self.now.read (omega arith) (grind arith) end

pub returns-then-is_empty-clause-end : goal.returns-then-is_empty-clause-end
returns-then-is_empty-clause-end c e = enough-empty _ _ _ c.args.self.now.read (omega arith) (grind arith)

pub returns-in-Some-clause-says : goal.returns-in-Some-clause-says
returns-in-Some-clause-says c more end = says_token _ _ _ more c.args.self.now.read (omega arith) (grind arith) end
    ∙ ap (found_or_malformed (option_to_list c.args.self.now.behind ++ more))
    (token_is c.token_number.result c.as_slice.result.now _ _ c.token_number.ensures c.as_slice.ensures c.in-Some.is)
    ∙ (let z_is : to_z w64 (of_z w64 c.in-Some.z) ≡ c.in-Some.z = grind (arith, to_z-of_z) in rw z_is refl)

pub returns-in-None-clause-says : goal.returns-in-None-clause-says
returns-in-None-clause-says c more end = says_token _ _ _ more c.args.self.now.read (omega arith) (grind arith) end
    ∙ ap (found_or_malformed (option_to_list c.args.self.now.behind ++ more))
    (token_is c.token_number.result c.as_slice.result.now _ _ c.token_number.ensures c.as_slice.ensures c.in-None.is)
