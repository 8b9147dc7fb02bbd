use Rattle.std.proofs.Common.{◌∙◌, inl, inr, refl, ap, Err}
use Rattle.rg_loading.specs.declared.limits.TheConstants.{IMAGE_BYTES}
use Rattle.rg_loading.specs.Loading.{too_long}
use Rattle.rg_loading.specs.Files.{source_fault, memory}
use Rattle.rg_loading.proofs.Brought.{long-file}
use Rattle.rg_loading.proofs.content.image_in.Goals as goal

pub returns-in-Err-SourceFault-clause-brings : goal.returns-in-Err-SourceFault-clause-brings
returns-in-Err-SourceFault-clause-brings g c = inr source_fault

pub returns-in-Err-Long-clause-brings : goal.returns-in-Err-Long-clause-brings
returns-in-Err-Long-clause-brings g c =
    let long = c.take_all.ensures.long (c.in-Err-Long.is ∙ ap Err c.in-Err-Long.field-0-is) in
    inl (too_long, long-file (g.F.Files.told c.args.files.now) c.args.name.now IMAGE_BYTES long, refl)

pub returns-in-Err-Memory-clause-brings : goal.returns-in-Err-Memory-clause-brings
returns-in-Err-Memory-clause-brings g c = inr memory
