use Rattle.std.proofs.Common.{sym, ◌∙◌}
use Rattle.rg_lex.proofs.FrontCases.{front_of-blank}
use Rattle.rg_lex.proofs.piece.read_front.Goals as goal

pub returns-then-is_blank_byte : goal.returns-then-is_blank_byte
returns-then-is_blank_byte c = sym (front_of-blank c.args.bytes.now c.requires (sym c.is_blank_byte.ensures ∙ c.if-is_blank_byte.true))
