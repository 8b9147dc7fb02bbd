use Rattle.std.proofs.Common.{ap, arith}
use Rattle.rg_io.proofs.Told.{Reads-moved}
use Rattle.rg_io.proofs.mem_files.MemFilesFiles.read.Goals as goal

pub returns-clause-read : goal.returns-clause-read
returns-clause-read c =
    Reads-moved _ _ _ _ _ c.read.result (ap (λ s. s.told) c.self.view_is) (omega arith) c.read.ensures.moved c.read.ensures.read
