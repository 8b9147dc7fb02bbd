use Rattle.std.proofs.Common.{◌≡◌, [], ◌∷◌, ◌++◌, length, ap, ◌∙◌, arith}
use Rattle.rg_verify_expressions.specs.declared.held.Held.{Held}
use Rattle.rg_verify_expressions.specs.declared.held.Held.TheVariants as held
use Rattle.rg_verify_expressions.proofs.Places.{takes-no-checked, takes-checked, takes-other-checked}
use Rattle.rg_verify_expressions.proofs.stack.take_checked.Goals as goal

pub returns-in_default : goal.returns-in_default
returns-in_default c t m items p =
    let none : length c.args.stack.now.items ≡ 0 = grind (arith, c.in_default.ensures.cases) in
    takes-no-checked t m c.pop.new.self.items items c.args.stack.now.items none p

pub returns-in_default-held : goal.returns-in_default-held
returns-in_default-held c t m items p =
    takes-other-checked t m c.pop.new.self.items items c.args.stack.now.items c.in-Some.held c.in-Some.ensures.items c.in_default-held.not-Checked p

pub returns : goal.returns
returns c t m items p =
    let news = c.pop.new.self.items in
    let is : c.args.stack.now.items ≡ news ++ held.Checked c.in-Checked.path ∷ [] =
    c.in-Some.ensures.items ∙ ap (λ (h : Held). news ++ h ∷ []) c.in-Checked.is in
    takes-checked t m news items c.args.stack.now.items c.in-Checked.path is p
