use Rattle.std.proofs.Common.{◌∙◌, refl, arith}
use Rattle.rg_base.specs.Input.{token_number}
use Rattle.rg_input.specs.declared.held.Verdict.TheVariants as says
use Rattle.rg_input.proofs.Read.{says_past, says_end, says_token}
use Rattle.rg_input.proofs.Holding.{verdict_on, with-token, more-token}
use Rattle.rg_input.proofs.held.Held.has_more.Goals as goal

pub returns-then-len-gt-INPUT_BLANKS : goal.returns-then-len-gt-INPUT_BLANKS
returns-then-len-gt-INPUT_BLANKS c = (says.Malformed, λ more end. says_past _ _ _ more c.args.self.now.read (omega arith), refl)

pub returns-then-is_empty : goal.returns-then-is_empty
returns-then-is_empty c = (says.End, λ more end. says_end _ _ _ more c.args.self.now.read (omega arith) (grind arith) end, refl)

pub returns : goal.returns
returns c =
    let token = token_number c.args.self.now.token in (
      verdict_on token,
      λ more end. says_token _ _ _ more c.args.self.now.read (omega arith) (grind arith) end ∙ with-token token _,
      more-token token,
    )
