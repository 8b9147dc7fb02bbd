use Rattle.std.proofs.Common.{◌≡◌, length}
use Rattle.rg_store.specs.Links.{listed}
use Rattle.rg_store.proofs.Subregions.{Reaches}
use Rattle.rg_store.proofs.marks.linked.Given as goal

abbrev pub invariant-loop-link : goal.invariant-loop-link
invariant-loop-link l = record {
  count : length l.found.marks.items ≡ length l.led;
  reaches : Reaches (listed l.led) l.region l._link l.done l.found;
}
