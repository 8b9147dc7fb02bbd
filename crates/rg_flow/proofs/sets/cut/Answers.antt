use Rattle.std.proofs.Common.{rules, ap, nat_eq, false, get_or, bit_and, ◌/◌, ◌%◌, ◌*◌, ◌^◌, ◌-◌, arith, w64}
use Rattle.std.proofs.lemmas.Nat.Bits.{bit_at_clear_same, bit_at_clear_other}
use Rattle.rg_flow.proofs.Set.{set_one}
use Rattle.rg_flow.proofs.sets.cut.Goals as goal

pub returns : goal.returns
returns c =
    let word = get_or c.args.words.now (c.args.v / 64) 0 in
    set_one c.args.words.now c.args.v (bit_and word (18446744073709551615 - 1 * 2 ^ (c.args.v % 64) % 18446744073709551616)) false (search rules)
    (ap (λ n. nat_eq n 1) (bit_at_clear_same w64 word (c.args.v % 64) (omega arith)))
    (λ i l n. bit_at_clear_other w64 word (c.args.v % 64) (omega arith) i l n)
