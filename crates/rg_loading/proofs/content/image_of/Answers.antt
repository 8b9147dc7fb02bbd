use Rattle.std.proofs.Common.{inr, subst}
use Rattle.rg_tree.specs.Rows.RowTrees.{program_of}
use Rattle.rg_loading.specs.Files.{memory}
use Rattle.rg_loading.proofs.Brought.{FileBrings, none-refused, none-empty, none-bridged, none-comes}
use Rattle.rg_loading.proofs.content.image_of.Goals as goal

pub returns-in-Err-Memory-clause-brings : goal.returns-in-Err-Memory-clause-brings
returns-in-Err-Memory-clause-brings c = inr memory

pub returns-in-Err-Fault-clause-brings : goal.returns-in-Err-Fault-clause-brings
returns-in-Err-Fault-clause-brings c =
    let t = program_of c.program.result.now in
    let cown = c.args.cown.now in
    let why = c.in-Err-Fault in
    let none = none-refused t cown.class c.args.bytes.now why.field-0 why.field-0-0 why.ensures.image why.field-0-is in
    let comes = none-comes c.program.result.now cown c.args.bytes.now c.no_image.result c.requires none c.no_image.ensures in
    subst (FileBrings cown c.args.bytes.now c.no_image.result) c.program.ensures.program comes

pub returns-in-Ok-None-clause-brings : goal.returns-in-Ok-None-clause-brings
returns-in-Ok-None-clause-brings c =
    let t = program_of c.program.result.now in
    let cown = c.args.cown.now in
    let found = c.in-Ok-None in
    let none = none-empty t cown.class c.args.bytes.now found.field-0 found.field-0-is found.ensures.again in
    let refused = c.no_image-in-Ok-None in
    let comes = none-comes c.program.result.now cown c.args.bytes.now refused.result c.requires none refused.ensures in
    subst (FileBrings cown c.args.bytes.now refused.result) c.program.ensures.program comes

pub returns-else-has_bridge-clause-brings : goal.returns-else-has_bridge-clause-brings
returns-else-has_bridge-clause-brings c =
    let t = program_of c.program.result.now in
    let cown = c.args.cown.now in
    let found = c.in-Ok-Some in
    let other = c.if-has_bridge.ensures.no in
    let none = none-bridged t cown.class c.args.bytes.now found.field-0 found.content found.field-0-is found.ensures.again other in
    let refused = c.no_image-else-has_bridge in
    let comes = none-comes c.program.result.now cown c.args.bytes.now refused.result c.requires none refused.ensures in
    subst (FileBrings cown c.args.bytes.now refused.result) c.program.ensures.program comes
