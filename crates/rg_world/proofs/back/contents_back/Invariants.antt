use Rattle.std.proofs.Common.{◌≡◌, drop, filter_map, map}
use Rattle.rg_tree.specs.Rows.RowTrees.{member_at, program_of}
use Rattle.rg_rules.specs.State.{State}
use Rattle.rg_rules.specs.Types.{fields_of, field_member}
use Rattle.rg_code.specs.Code.{Code}
use Rattle.rg_held.specs.Shown.{ShowsHeld}
use Rattle.rg_machine.specs.Parts.{machine_in}
use Rattle.rg_first.specs.First.{IsOfBehaviour}
use Rattle.rg_world.proofs.Returned.{GoesBack}
use Rattle.rg_world.proofs.back.contents_back.Given as goal

abbrev pub invariant-loop-k : goal.invariant-loop-k
invariant-loop-k l = let t = program_of l.book.program in record {
  place : drop l.field (fields_of t.classes l.class) ≡ filter_map field_member (map (member_at l.book.program) (drop l.k-index l.members));
  so_far : (code : Code) (s : State) → IsOfBehaviour t l.class s → ShowsHeld t.classes code (machine_in l.stepper.parts) s
      → GoesBack t l.class (filter_map field_member (map (member_at l.book.program) (drop l.k-index l.members))) l.field l.back.items s;
}
