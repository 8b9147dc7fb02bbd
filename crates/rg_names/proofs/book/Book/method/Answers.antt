use Rattle.std.proofs.Common.{IfSome, subst}
use Rattle.rg_names.specs.Book.{Known}
use Rattle.rg_names.specs.TreeAnswers.{HasGoodParams}
use Rattle.rg_names.proofs.TableFacts.{IsClass-tree, MethodAnswer-params}
use Rattle.rg_names.proofs.book.Book.method.Goals as goal

pub method-requires : goal.method-requires
method-requires c =
    let b = c.self.inside in
    IsClass-tree b.program.now b.classes.now c.self.invariant c.args.class (rw (← c.self.view_is) at c.requires.class)

pub returns-clause-params : goal.returns-clause-params
returns-clause-params c =
    let b = c.self.inside in
    let n = rw (← c.self.view_is) at c.requires.name in
    subst (λ (k : Known). IfSome c.method.result (HasGoodParams k.program)) c.self.view_is
    (MethodAnswer-params b.program.now b.classes.now c.self.invariant c.args.class c.args.name c.method.result
    (c.method.ensures.tree b.program.now c.self.invariant n))
