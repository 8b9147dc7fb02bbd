use Rattle.std.proofs.Common.{◌≤◌, inr, length, Ok, arith}
use Rattle.rg_tree.specs.Rows.RowTrees.{program_of}
use Rattle.rg_loading.specs.Files.{CownsCome, memory}
use Rattle.rg_loading.proofs.Coming.{status-ends, same-after, start-before, one-leads, all-lead, opened-next, opened-for, opened-all}
use Rattle.rg_loading.proofs.Read.{is-read}
use Rattle.rg_loading.proofs.images.images_in.Given.{Over}
use Rattle.rg_loading.proofs.images.images_in.Goals.{After-loop-i}
use Rattle.rg_loading.proofs.images.images_in.Goals as goal

pub returns-in-Err-clause-brings : goal.returns-in-Err-clause-brings
returns-in-Err-clause-brings g c =
    let now = c.loop-i in
    status-ends (g.F.Files.told c.args.files.now) (g.F.Files.told now.files) (program_of c.args.accepted.now.program) c.args.plan.now.cowns now.i
    now.images.items c.cown.result.now c.in-Err.status now.invariant.same c.cown.ensures now.invariant.lead c.in-Err.ensures.brings

pub returns-in_default-clause-brings : goal.returns-in_default-clause-brings
returns-in_default-clause-brings g c = inr memory

pub loop-i-preserved : goal.loop-i-preserved
loop-i-preserved g c =
    let told = g.F.Files.told c.args.files.now in
    let now = c.loop-i in
    let mid = g.F.Files.told now.files in
    let t = program_of c.args.accepted.now.program in
    let cowns = c.args.plan.now.cowns in
    let cown = c.cown.result.now in
    let has = start-before told mid t cown cown.start (Ok c.in-Ok.content) now.invariant.same c.in-Ok.ensures.brings in
    record {
      same = same-after told mid (g.F.Files.told c.content_in.new.files) now.invariant.same c.content_in.ensures.same_files;
      begun = opened-next cowns now.i cown _ _ _ c.cown.ensures now.invariant.begun c.content_in.ensures.begun;
      rising = omega (arith, now.invariant.rising, c.content_in.ensures.never_fall);
      lead = one-leads told t cowns now.i now.images.items c.push.new.self.items cown c.in-Ok.content c.cown.ensures has c.in-Ok-push.ensures.items
          now.invariant.lead;
    }

-- what the cowns come to behind the last one
come : (g : Over) (c : After-loop-i g) →
    CownsCome (g.F.Files.told c.args.files.now) (program_of c.args.accepted.now.program) c.args.plan.now.cowns (Ok c.loop-i.images.items)
come g c =
    let now = c.loop-i in
    let all : length c.args.plan.now.cowns ≤ now.i = omega (arith, c.loop-i-test.false, c.cowns-i-end.ensures) in
    all-lead (g.F.Files.told c.args.files.now) (program_of c.args.accepted.now.program) c.args.plan.now.cowns now.i now.images.items all
    now.invariant.lead

pub returns-clause-brings : goal.returns-clause-brings
returns-clause-brings g c = come g c

pub returns-in-Err-clause-begun : goal.returns-in-Err-clause-begun
returns-in-Err-clause-begun g c =
    let now = c.loop-i in
    opened-for _ _ c.args.plan.now.cowns now.i now.images.items c.cown.result.now _ _ _ c.cown.ensures now.invariant.lead now.invariant.begun
    c.content_in.ensures.begun

pub returns-in_default-clause-begun : goal.returns-in_default-clause-begun
returns-in_default-clause-begun g c =
    let now = c.loop-i in
    opened-for _ _ c.args.plan.now.cowns now.i now.images.items c.cown.result.now _ _ _ c.cown.ensures now.invariant.lead now.invariant.begun
    c.content_in.ensures.begun

pub returns-clause-begun : goal.returns-clause-begun
returns-clause-begun g c =
    let now = c.loop-i in
    let all : length c.args.plan.now.cowns ≤ now.i = omega (arith, c.loop-i-test.false, c.cowns-i-end.ensures) in
    opened-all _ _ c.args.plan.now.cowns now.i now.images.items _ _ all now.invariant.lead now.invariant.begun

pub returns-clause-read : goal.returns-clause-read
returns-clause-read g c bytes read =
    is-read (g.F.Files.told c.args.files.now) (program_of c.args.accepted.now.program) bytes c.args.plan.now c.loop-i.images.items read (come g c)
