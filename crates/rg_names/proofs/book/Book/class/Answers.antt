use Rattle.rg_tree.proofs.Programs.{length-classes_of}
use Rattle.rg_names.proofs.book.Book.class.Goals as goal

pub class-requires : goal.class-requires
class-requires c =
    let l = rw (← c.self.view_is) at c.requires in
    rw (length-classes_of c.self.inside.program.now) at l
