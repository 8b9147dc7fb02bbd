use Rattle.std.proofs.Common.{◌∙◌, sym, ap, subst, Err}
use Rattle.rg_io.specs.Files.{HasFile}
use Rattle.rg_tree.specs.Rows.RowTrees.{program_of}
use Rattle.rg_sources.proofs.Read.{long-refuses, file-faulty, file-found}
use Rattle.rg_sources.proofs.source.program_in.Goals as goal

pub returns-in-Err-Long-clause-brings : goal.returns-in-Err-Long-clause-brings
returns-in-Err-Long-clause-brings g c =
    long-refuses (g.F.Files.told c.args.files.now) c.args.name.now (c.take_all.ensures.long (c.in-Err-Long.is ∙ ap Err c.in-Err-Long.field-0-is))

pub returns-in-Err-Fault-clause-brings : goal.returns-in-Err-Fault-clause-brings
returns-in-Err-Fault-clause-brings g c =
    let told = g.F.Files.told c.args.files.now in
    let has = subst (HasFile told c.args.name.now) (sym c.bytes.ensures) c.in-Ok.ensures.ok in
    let why = c.read.ensures.fault c.in-Err-Fault.fault (c.in-Err-Fault.is ∙ ap Err c.in-Err-Fault.field-0-is) in
    file-faulty told c.args.name.now c.bytes.result.now c.in-Err-Fault.fault has (rw c.bytes.ensures c.in-Ok.ensures.within, why)

pub returns-clause-brings : goal.returns-clause-brings
returns-clause-brings g c =
    let told = g.F.Files.told c.args.files.now in
    let has = subst (HasFile told c.args.name.now) (sym c.bytes.ensures) c.in-Ok.ensures.ok in
    let read = c.in-Ok-read in
    file-found told c.args.name.now c.bytes.result.now (program_of read.program) has (rw c.bytes.ensures c.in-Ok.ensures.within, read.ensures.ok)
    read.ensures.names
