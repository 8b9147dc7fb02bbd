use Rattle.rg_sources.proofs.asked.program_from.Goals as goal

pub returns-in-Bulk-clause-brings : goal.returns-in-Bulk-clause-brings
returns-in-Bulk-clause-brings g c = rw c.in-Bulk.is (c.program_of_size.ensures.brings (g.F.Files.told c.args.files.now))
