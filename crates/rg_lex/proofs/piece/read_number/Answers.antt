use Rattle.std.proofs.Common.{◌≡◌, pos, to_z, w64, sym, ◌∙◌, ap, arith}
use Rattle.std.proofs.lemmas.List.{take_rest}
use Rattle.std.proofs.lemmas.Int.{to_z_pos}
use Rattle.rg_base.specs.Pieces.{is_digit}
use Rattle.rg_base.specs.Tokens.{begins_name}
use Rattle.rg_base.proofs.Fronts.{list_all-run}
use Rattle.rg_lex.proofs.FrontCases.{front_of-number_letter, front_of-number_past, front_of-number}
use Rattle.rg_lex.proofs.piece.read_number.Goals as goal

pub returns-then-begins_with_letter : goal.returns-then-begins_with_letter
returns-then-begins_with_letter c =
    let letter = ap begins_name (take_rest c.args.bytes.now c.digit_run-len.result) in
    sym (front_of-number_letter c.args.bytes.now c.requires
    (rw (← c.digit_run-len.ensures.run) (sym letter ∙ sym c.begins_with_letter.ensures ∙ c.if-begins_with_letter.true)))

pub value-requires : goal.value-requires
value-requires c = rw c.digit_run-len.ensures.run (list_all-run is_digit c.args.bytes.now)

pub returns-in-Some : goal.returns-in-Some
returns-in-Some c =
    let letter = ap begins_name (take_rest c.args.bytes.now c.digit_run-len.result) in
    let apart = sym letter ∙ sym c.begins_with_letter.ensures ∙ c.if-begins_with_letter.false in
    let positive : to_z w64 c.in-Some.number ≡ pos c.in-Some.number = to_z_pos w64 c.in-Some.number (omega (arith, c.in-Some.ensures.within)) in
    rw (positive, c.in-Some.ensures.value, c.digit_run-len.ensures.run)
    (sym (front_of-number c.args.bytes.now c.requires
    (rw (← c.digit_run-len.ensures.run) (omega (arith, c.in-Some.ensures.value, c.in-Some.ensures.within)))
    (rw (← c.digit_run-len.ensures.run) apart)))

pub returns-in-None : goal.returns-in-None
returns-in-None c = sym (front_of-number_past c.args.bytes.now c.requires (rw (← c.digit_run-len.ensures.run) c.in-None.ensures.past))
