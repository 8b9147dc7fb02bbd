use Rattle.std.proofs.Common.{sym, arith}
use Rattle.rg_lex.proofs.FrontCases.{front_of-long_name, front_of-name}
use Rattle.rg_lex.proofs.piece.read_name.Goals as goal

pub returns-then-len-gt-NAME_BYTES : goal.returns-then-len-gt-NAME_BYTES
returns-then-len-gt-NAME_BYTES c = sym (front_of-long_name c.args.bytes.now c.requires (rw (← c.name_run-len.ensures.run) (omega arith)))

pub returns : goal.returns
returns c =
    rw (c.name_kind.ensures, c.name_run-len.ensures.run)
    (sym (front_of-name c.args.bytes.now c.requires (rw (← c.name_run-len.ensures.run) (omega arith))))
