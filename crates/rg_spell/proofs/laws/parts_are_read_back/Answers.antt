use Rattle.rg_spell.proofs.Readers.{reads_four, reads_counted}
use Rattle.rg_spell.proofs.TypeReaders.{reads_manager, reads_shape, reads_head}
use Rattle.rg_spell.proofs.OpReaders.{of_parts-same, reads_row}
use Rattle.rg_spell.proofs.laws.parts_are_read_back.Goals as goal

pub returns : goal.returns
returns c = record {
  counts = reads_four;
  managers = reads_manager;
  classes = reads_counted reads_shape;
  heads = reads_counted reads_head;
  rows = reads_counted reads_row;
  parts = of_parts-same;
}
