use Rattle.std.proofs.Common.{◌≡◌, [], ◌∷◌, ◌++◌, length, ap, ◌∙◌, arith}
use Rattle.rg_verify_expressions.specs.declared.held.Held.{Held}
use Rattle.rg_verify_expressions.specs.declared.held.Held.TheVariants as held
use Rattle.rg_verify_expressions.proofs.Path.{takes-no-path, takes-path, takes-other}
use Rattle.rg_verify_expressions.proofs.stack.take_path.Goals as goal

pub returns-in_default : goal.returns-in_default
returns-in_default c t m items p =
    let none : length c.args.stack.now.items ≡ 0 = grind (arith, c.in_default.ensures.cases) in
    takes-no-path t m c.pop.new.self.items items c.args.stack.now.items none p

pub returns-in_default-held : goal.returns-in_default-held
returns-in_default-held c t m items p =
    takes-other t m c.pop.new.self.items items c.args.stack.now.items c.in-Some.held c.in-Some.ensures.items c.in_default-held.not-Path p

pub returns : goal.returns
returns c t m items p =
    let news = c.pop.new.self.items in
    let is : c.args.stack.now.items ≡ news ++ held.Path c.in-Path.slot c.in-Path.fields ∷ [] =
    c.in-Some.ensures.items ∙ ap (λ (h : Held). news ++ h ∷ []) c.in-Path.is in
    takes-path t m news items c.args.stack.now.items c.in-Path.slot c.in-Path.fields is p
