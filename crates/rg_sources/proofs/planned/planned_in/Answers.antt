use Rattle.rg_tree.specs.Rows.RowTrees.{program_of}
use Rattle.rg_sources.proofs.Read.{program-refuses, keeping-refuses, images-refuse, planned-there, same-after}
use Rattle.rg_sources.proofs.Opened.{program-opened, plan-opened, images-opened}
use Rattle.rg_sources.proofs.planned.planned_in.Goals as goal

pub returns-in-Err-clause-brings : goal.returns-in-Err-clause-brings
returns-in-Err-clause-brings g c =
    program-refuses (g.F.Files.told c.args.files.now) c.args.file.now c.args.plan.now c.args.keep c.in-Err.status c.in-Err.ensures.brings

pub returns-in-Err-keeping_plan_in-clause-brings : goal.returns-in-Err-keeping_plan_in-clause-brings
returns-in-Err-keeping_plan_in-clause-brings g c =
    keeping-refuses (g.F.Files.told c.args.files.now) (g.F.Files.told c.accepted_in.new.files) c.args.file.now c.args.plan.now c.args.keep
    (program_of c.in-Ok.accepted.program) c.in-Err-keeping_plan_in.status c.in-Ok.ensures.same_files c.in-Ok.ensures.brings
    c.in-Err-keeping_plan_in.ensures.brings

pub returns-in-Err-images_in-clause-brings : goal.returns-in-Err-images_in-clause-brings
returns-in-Err-images_in-clause-brings g c =
    let told = g.F.Files.told c.args.files.now in
    let mid = g.F.Files.told c.accepted_in.new.files in
    let last = g.F.Files.told c.keeping_plan_in.new.files in
    let found = c.in-Ok-keeping_plan_in.ensures in
    images-refuse told mid last c.args.file.now c.args.plan.now c.args.keep (program_of c.in-Ok.accepted.program) c.in-Ok-keeping_plan_in.plan
    c.in-Ok.ensures.same_files (same-after told mid last c.in-Ok.ensures.same_files found.same_files) c.in-Ok.ensures.brings found.brings.0
    found.brings.1 c.in-Err-images_in.status c.in-Err-images_in.ensures.brings

pub returns-in-Ok-images_in-clause-brings : goal.returns-in-Ok-images_in-clause-brings
returns-in-Ok-images_in-clause-brings g c =
    let told = g.F.Files.told c.args.files.now in
    let mid = g.F.Files.told c.accepted_in.new.files in
    let last = g.F.Files.told c.keeping_plan_in.new.files in
    let found = c.in-Ok-keeping_plan_in.ensures in
    planned-there told mid last c.args.file.now c.args.plan.now c.args.keep (program_of c.in-Ok.accepted.program) c.in-Ok-keeping_plan_in.plan
    c.in-Ok.ensures.same_files (same-after told mid last c.in-Ok.ensures.same_files found.same_files) c.in-Ok.ensures.brings found.brings.0
    found.brings.1 c.in-Ok-images_in.images.items c.in-Ok-images_in.ensures.brings

pub returns-in-Ok-images_in-clause-ready : goal.returns-in-Ok-images_in-clause-ready
returns-in-Ok-images_in-clause-ready g c =
    let there = c.in-Ok-keeping_plan_in.ensures.brings.0 in c.in-Ok-images_in.ensures.read there.bytes there.read

pub returns-in-Err-clause-opened : goal.returns-in-Err-clause-opened
returns-in-Err-clause-opened g c = program-opened _ c.args.file.now c.args.plan.now c.args.keep _ _ c.accepted_in.ensures.begun

pub returns-in-Err-keeping_plan_in-clause-opened : goal.returns-in-Err-keeping_plan_in-clause-opened
returns-in-Err-keeping_plan_in-clause-opened g c =
    plan-opened (g.F.Files.told c.args.files.now) c.args.file.now c.args.plan.now c.args.keep (program_of c.in-Ok.accepted.program) _ _ _
    c.in-Ok.ensures.brings c.accepted_in.ensures.begun c.keeping_plan_in.ensures.begun

pub returns-in-Err-images_in-clause-opened : goal.returns-in-Err-images_in-clause-opened
returns-in-Err-images_in-clause-opened g c =
    let told = g.F.Files.told c.args.files.now in
    let mid = g.F.Files.told c.accepted_in.new.files in
    let last = g.F.Files.told c.keeping_plan_in.new.files in
    let found = c.in-Ok-keeping_plan_in.ensures in
    images-opened told mid last c.args.file.now c.args.plan.now c.args.keep (program_of c.in-Ok.accepted.program) c.in-Ok-keeping_plan_in.plan _ _ _ _
    c.in-Ok.ensures.same_files (same-after told mid last c.in-Ok.ensures.same_files found.same_files) c.in-Ok.ensures.brings found.brings.0
    found.brings.1 c.accepted_in.ensures.begun c.keeping_plan_in.ensures.begun c.images_in.ensures.begun

pub returns-in-Ok-images_in-clause-opened : goal.returns-in-Ok-images_in-clause-opened
returns-in-Ok-images_in-clause-opened g c =
    let told = g.F.Files.told c.args.files.now in
    let mid = g.F.Files.told c.accepted_in.new.files in
    let last = g.F.Files.told c.keeping_plan_in.new.files in
    let found = c.in-Ok-keeping_plan_in.ensures in
    images-opened told mid last c.args.file.now c.args.plan.now c.args.keep (program_of c.in-Ok.accepted.program) c.in-Ok-keeping_plan_in.plan _ _ _ _
    c.in-Ok.ensures.same_files (same-after told mid last c.in-Ok.ensures.same_files found.same_files) c.in-Ok.ensures.brings found.brings.0
    found.brings.1 c.accepted_in.ensures.begun c.keeping_plan_in.ensures.begun c.images_in.ensures.begun
