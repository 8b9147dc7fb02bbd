use Rattle.std.proofs.Common.{◌≡◌, ◌≤◌, ◌++◌, take}
use Rattle.rg_io.specs.Files.{SameFiles}
use Rattle.rg_tree.specs.Rows.RowTrees.{program_of}
use Rattle.rg_loading.specs.Loading.{file_names}
use Rattle.rg_loading.proofs.Coming.{Lead}
use Rattle.rg_loading.proofs.images.images_in.Given as goal

abbrev pub invariant-loop-i : goal.invariant-loop-i
invariant-loop-i g l = record {
  same : SameFiles (g.F.Files.told l.fn.files) (g.F.Files.told l.files);
  begun : g.F.Files.begun l.files ≡ g.F.Files.begun l.fn.files ++ file_names (take l.i l.plan.cowns);
  rising : g.F.Files.faults l.fn.files ≤ g.F.Files.faults l.files;
  lead : Lead (g.F.Files.told l.fn.files) (program_of l.accepted.program) l.plan.cowns l.i l.images.items;
}
