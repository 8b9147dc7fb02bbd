use Rattle.std.proofs.Common.{sym, ◌∙◌, arith}
use Rattle.rg_lex.proofs.ByLength.{keyword_of-length, keyword_of-other}
use Rattle.rg_lex.proofs.keyword.keyword.Goals as goal

pub returns-in-2 : goal.returns-in-2
returns-in-2 c = c.two_letters.ensures ∙ sym (keyword_of-length 2 c.args.text.now c.in-2.is)

pub returns-in-3 : goal.returns-in-3
returns-in-3 c = c.three_letters.ensures ∙ sym (keyword_of-length 3 c.args.text.now c.in-3.is)

pub returns-in-4 : goal.returns-in-4
returns-in-4 c = c.four_letters.ensures ∙ sym (keyword_of-length 4 c.args.text.now c.in-4.is)

pub returns-in-5 : goal.returns-in-5
returns-in-5 c = c.five_letters.ensures ∙ sym (keyword_of-length 5 c.args.text.now c.in-5.is)

pub returns-in-6 : goal.returns-in-6
returns-in-6 c = c.six_letters.ensures ∙ sym (keyword_of-length 6 c.args.text.now c.in-6.is)

pub returns-in-7 : goal.returns-in-7
returns-in-7 c = c.seven_letters.ensures ∙ sym (keyword_of-length 7 c.args.text.now c.in-7.is)

pub returns-in_default : goal.returns-in_default
returns-in_default c = sym (keyword_of-other c.args.text.now (λ least most. omega arith))
