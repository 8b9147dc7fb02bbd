use Rattle.std.proofs.Common.{arith}
use Rattle.rg_reader.proofs.Tokens.{exit}
use Rattle.rg_reader.proofs.Growing.{found-there}
use Rattle.rg_reader.proofs.Loops.{along-stops}
use Rattle.rg_parse.proofs.ClassRows.{members-start, members-step, members-end}
use Rattle.rg_parse.proofs.rules.classes.members.Goals as goal

pub loop-reader-init : goal.loop-reader-init
loop-reader-init c = record { read = rw c.new-numbers.ensures.items (members-start _); shorter = omega arith }

pub returns-in_err-member-clause-fault : goal.returns-in_err-member-clause-fault
returns-in_err-member-clause-fault c = exit _ c.from_residual.ensures.1 (along-stops _ c.loop-reader.invariant.read c.in_err-member.ensures.fault)

pub add_member-requires : goal.add_member-requires
add_member-requires c = found-there c.in_ok-member.ensures.ok

pub loop-reader-preserved : goal.loop-reader-preserved
loop-reader-preserved c = record {
  read = rw c.in_ok-keep.ensures.ok
      (members-step c.loop-reader.invariant.read c.in_ok-member.ensures.ok c.in_ok-number.ensures.kept c.in_ok-number.ensures.means);
  shorter = omega
      (arith, c.in_ok-member.ensures.shorter, c.in_ok-number.ensures.shorter);
}

pub returns-clause-ok : goal.returns-clause-ok
returns-clause-ok c = members-end c.loop-reader.invariant.read c.loop-reader-test.ensures c.in_ok-span.ensures.kept
    (rw c.deref.ensures.value at c.in_ok-span.ensures.means)
