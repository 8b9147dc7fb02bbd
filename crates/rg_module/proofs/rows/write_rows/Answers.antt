use Rattle.std.proofs.Common.{◌++◌, length, arith}
use Rattle.rg_spell.specs.Spelling.{four}
use Rattle.rg_module.specs.Spelling.{rows_of}
use Rattle.rg_module.proofs.SideBySide.{rows-length, row-fits, row-written, rows-start, rows-end}
use Rattle.rg_module.proofs.rows.write_rows.Goals as goal

pub overflow_cast-count : goal.overflow_cast-count
overflow_cast-count c = omega (arith, c.requires.rows.0, rows-length c.args.«module».now c.requires.maps, c.op_count-count.ensures.ops)

pub write_row-requires : goal.write_row-requires
write_row-requires c = row-fits c.args.«module».now c.loop-at.at _ _ c.requires c.op_at.ensures c.map_at.ensures

pub loop-at-init : goal.loop-at-init
loop-at-init c = rows-start c.args.«module».now c.args.out.now _ _ c.requires.maps c.op_count-count.ensures.ops c.in_ok-write_u32.ensures.ok

pub loop-at-preserved : goal.loop-at-preserved
loop-at-preserved c =
    let m = c.args.«module».now in
    row-written m (c.args.out.now ++ four (length (rows_of m))) c.loop-at.out _ c.loop-at.at _ _ c.op_at.ensures c.map_at.ensures c.loop-at.invariant
    c.in_ok-write_row.ensures.ok

pub returns : goal.returns
returns c = rows-end c.args.«module».now c.args.out.now c.loop-at.out c.loop-at.at c.requires.maps (omega arith) c.loop-at.invariant
