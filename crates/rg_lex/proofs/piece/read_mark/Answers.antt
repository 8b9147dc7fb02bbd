use Rattle.std.proofs.Common.{◌∙◌, get_or, sym, arith}
use Rattle.rg_base.proofs.Fronts.{IsOther}
use Rattle.rg_lex.proofs.FrontCases.{front_of-comment, front_of-pair, front_of-single, front_of-alone}
use Rattle.rg_lex.proofs.piece.read_mark.Goals as goal

pub returns-then-bytes-lt2 : goal.returns-then-bytes-lt2
returns-then-bytes-lt2 c =
    let other : IsOther (get_or c.args.bytes.now 0 0) = record { blank = c.requires.blank; letter = c.requires.letter; digit = c.requires.digit } in
    c.read_single.ensures ∙ sym (front_of-alone c.args.bytes.now other (omega (arith, c.requires.some)))

pub returns-then-begins_comment : goal.returns-then-begins_comment
returns-then-begins_comment c =
    rw c.comment_run-len.ensures.run
    (sym (front_of-comment c.args.bytes.now c.if-bytes-lt2.false (sym c.begins_comment.ensures ∙ c.if-begins_comment.true)))

pub returns-in-Some : goal.returns-in-Some
returns-in-Some c =
    let other : IsOther (get_or c.args.bytes.now 0 0) = record { blank = c.requires.blank; letter = c.requires.letter; digit = c.requires.digit } in
    rw c.mark.ensures
    (sym (front_of-pair c.args.bytes.now c.in-Some.sign other c.if-bytes-lt2.false (sym c.begins_comment.ensures ∙ c.if-begins_comment.false)
    (sym c.pair.ensures ∙ c.in-Some.is)))

pub returns-in-None : goal.returns-in-None
returns-in-None c =
    let other : IsOther (get_or c.args.bytes.now 0 0) = record { blank = c.requires.blank; letter = c.requires.letter; digit = c.requires.digit } in
    c.read_single-in-None.ensures
    ∙ sym (front_of-single c.args.bytes.now other c.if-bytes-lt2.false (sym c.begins_comment.ensures ∙ c.if-begins_comment.false)
    (sym c.pair.ensures ∙ c.in-None.is))
