use Rattle.std.proofs.Common.{ℕ, ◌∙◌, ap, of_z, subst, sym, w64}
use Rattle.std.proofs.lemmas.Int.{to_z-of_z}
use Rattle.rg_machine.specs.Among.{NamesPlace}
use Rattle.rg_machine.proofs.Placed.{place-of}
use Rattle.rg_machine.proofs.scalars.place_of.Goals as goal

pub returns : goal.returns
returns c =
    let z = c.args.number in
    let P : ℕ → Type 0 = λ n. NamesPlace z n in
    subst P (sym (c.cast_unsigned.ensures ∙ ap (of_z w64) (to_z-of_z w64 z c.ranges.number))) (place-of z c.ranges.number)
