use Rattle.std.proofs.Common.{◌∙◌, sym}
use Rattle.std.proofs.lemmas.List.{length-map}
use Rattle.rg_names.specs.TableOf.{element_of}
use Rattle.rg_names.proofs.TypeFacts.{head_of}
use Rattle.rg_names.proofs.ClassSteps.{length-members_of}
use Rattle.rg_names.proofs.classes.Classes.of.Goals as goal

pub invariant_of-result : goal.invariant_of-result
invariant_of-result c =
    let t = c.args.program.now in
    rw (c.in_ok-rests.ensures.members, c.in_ok-rests.ensures.elements, c.in_ok-heads.ensures.heads.heads_are) (
      length-members_of t t.classes 0 ∙ sym (length-map t.classes head_of),
      length-map t.classes (element_of t) ∙ sym (length-map t.classes head_of),
    )
