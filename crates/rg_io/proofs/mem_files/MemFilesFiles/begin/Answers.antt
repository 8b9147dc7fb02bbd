use Rattle.std.proofs.Common.{refl, ap}
use Rattle.rg_io.proofs.Told.{Begins-known}
use Rattle.rg_io.proofs.mem_files.MemFilesFiles.begin.Goals as goal

pub returns-clause-begun : goal.returns-clause-begun
returns-clause-begun c =
    let there = c.if-not-begin.ensures in
    Begins-known _ _ _ _ (ap (λ s. s.told) c.self.view_is) (there.known.0 refl) there.begun
