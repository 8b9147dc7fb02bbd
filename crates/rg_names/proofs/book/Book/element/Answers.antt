use Rattle.rg_names.proofs.TableFacts.{IsClass-tree}
use Rattle.rg_names.proofs.book.Book.element.Goals as goal

pub element-requires : goal.element-requires
element-requires c =
    let b = c.self.inside in
    IsClass-tree b.program.now b.classes.now c.self.invariant c.args.class (rw (← c.self.view_is) at c.requires)
