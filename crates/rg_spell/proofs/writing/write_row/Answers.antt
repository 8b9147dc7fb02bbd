use Rattle.std.proofs.Common.{◌≡◌, ℕ, List, [], ◌∷◌, ◌++◌, Bool, Some, subst}
use Rattle.std.specs.List.{flat_map}
use Rattle.rg_code.specs.declared.operands.Operand.{Operand}
use Rattle.rg_code.specs.Operands.{number_of, operands_of}
use Rattle.rg_code.specs.Places.{is_mark}
use Rattle.rg_spell.specs.Spelling.{operand_bytes, map_bytes, AppendsPart}
use Rattle.rg_spell.proofs.Writers.{on_err, behind}
use Rattle.rg_spell.proofs.writing.write_row.Goals as goal

pub returns-in_err-write_map-clause-part : goal.returns-in_err-write_map-clause-part
returns-in_err-write_map-clause-part c =
    let first = number_of c.args.op ∷ [] in
    let second = flat_map operand_bytes (operands_of c.args.op) in
    let third = map_bytes (is_mark (Some c.args.op)) c.args.map.now in
    let pushed = subst (λ (n : ℕ). c.push.new.self ≡ c.args.out.now ++ n ∷ []) c.number_of.ensures c.in_ok-push.ensures.ok in
    let operands = subst (λ (ps : List Operand). c.write_operands.new.out ≡ c.push.new.self ++ flat_map operand_bytes ps)
    c.operands_of.ensures c.in_ok-write_operands.ensures.ok in
    let last = subst (λ (mark : Bool). AppendsPart c.write_operands.new.out c.write_map.new.out (map_bytes mark c.args.map.now))
    c.is_mark.ensures c.in_err-write_map.ensures.part in
    on_err _ (behind _ _ _ first (second ++ third) pushed (behind _ _ _ second third operands last))
