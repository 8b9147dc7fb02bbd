use Rattle.std.proofs.Common.{◌≡◌, ◌-◌, true, false, sym, arith}
use Rattle.std.specs.Prelude.{bytes_eq}
use Rattle.rg_io.proofs.Shelves.{file_bytes-found, file_bytes-other, get_or-seen}
use Rattle.rg_io.proofs.shelf.Shelf.newest.Goals as goal

pub returns-then-eq-clause-found : goal.returns-then-eq-clause-found
returns-then-eq-clause-found c =
    let file = c.index.result.now in
    let is_named : bytes_eq file.name.items c.args.name.now ≡ true =
    rw (← c.as_slice.ensures.value, ← c.as_bytes.ensures.value) (sym c.if-eq.ensures) in
    file_bytes-found _ _ c.loop-i.i (file.name.items, file.bytes.items) (omega arith) c.loop-i.invariant.within
    (get_or-seen (λ f. (f.name.items, f.bytes.items)) _ _ (c.loop-i.i - 1) file c.self.view_is c.index.ensures)
    c.loop-i.invariant.sought is_named

pub loop-i-preserved : goal.loop-i-preserved
loop-i-preserved c =
    let file = c.index.result.now in
    let is_other : bytes_eq file.name.items c.args.name.now ≡ false =
    rw (← c.as_slice.ensures.value, ← c.as_bytes.ensures.value) (sym c.if-eq.ensures) in
    record {
      within = omega arith;
      sought = file_bytes-other _ _ c.loop-i.i (file.name.items, file.bytes.items) (omega arith) c.loop-i.invariant.within
          (get_or-seen (λ f. (f.name.items, f.bytes.items)) _ _ (c.loop-i.i - 1) file c.self.view_is c.index.ensures)
          c.loop-i.invariant.sought is_other;
    }
