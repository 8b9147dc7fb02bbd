use Rattle.std.proofs.Common.{◌≡◌, suc, drop}
use Rattle.rg_cown.specs.Cargo.{named_in}
use Rattle.rg_image.proofs.numbered.named_from_fourth.Given as goal

abbrev pub invariant-loop-k : goal.invariant-loop-k
invariant-loop-k l = named_in (suc l.last) (drop l.k l.fields) ≡ named_in (suc l.given) (drop 3 l.fields)
