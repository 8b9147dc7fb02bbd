use Rattle.std.proofs.Common.{◌≡◌, ◌∙◌, sym, ap, subst, refl, true, false, Ok, Err, to_z, of_z, w64, arith}
use Rattle.std.proofs.lemmas.Int.{to_z-of_z}
use Rattle.rg_input.specs.declared.refusal.NumberRefusal.TheVariants as no
use Rattle.rg_input.specs.Numbers.{Pending, AsksFor, Refuses, OnInput, Answers}
use Rattle.rg_input.specs.Inner.Held.{looked_at, pending, verdict_of}
use Rattle.rg_input.proofs.Holding.{OnInput-read, found-said, malformed-said, refusal-end}
use Rattle.rg_input.proofs.numbers.Numbers.next.Goals as goal

pub returns-in-Ok-Number-clause-answers : goal.returns-in-Ok-Number-clause-answers
returns-in-Ok-Number-clause-answers g c =
    let z = c.in-Ok-Number.z in
    let z_is : to_z w64 (of_z w64 z) ≡ z = grind (arith, to_z-of_z) in
    let old_left = g.S.Source.left c.args.source.now in
    let left = g.S.Source.left c.look.new.source in
    let h = c.look.new.self in
    let ahead = c.look.new.ahead in
    let between = pending h ahead in
    let new = pending c.take_token.new.self ahead in
    rw z_is
    (subst (λ n. OnInput n new old_left left (Answers (Ok z))) c.self.view_is
    (OnInput-read (pending c.self.inside.held c.self.inside.ahead) between new old_left left (Answers (Ok z)) c.look.ensures.reads refl
    (found-said h ahead left c.in-Ok-Number.field-0 z (looked_at c.take_token.new.self) c.in-Ok-Number.ensures.says c.in-Ok-Number.ensures.whole
    c.in-Ok-Number.field-0-is c.take_token.ensures)))

pub returns-in-Ok-Malformed-clause-answers : goal.returns-in-Ok-Malformed-clause-answers
returns-in-Ok-Malformed-clause-answers g c =
    let old_left = g.S.Source.left c.args.source.now in
    let left = g.S.Source.left c.look.new.source in
    let h = c.look.new.self in
    let ahead = c.look.new.ahead in
    let new = pending h ahead in
    subst (λ n. OnInput n new old_left left (Answers (Err no.Input))) c.self.view_is
    (OnInput-read (pending c.self.inside.held c.self.inside.ahead) new new old_left left (Answers (Err no.Input)) c.look.ensures.reads refl
    (malformed-said h ahead left c.in-Ok-Malformed.field-0 c.in-Ok-Malformed.ensures.says c.in-Ok-Malformed.ensures.whole
    c.in-Ok-Malformed.field-0-is))

pub returns-in-Ok-End-clause-refused : goal.returns-in-Ok-End-clause-refused
returns-in-Ok-End-clause-refused g c why refused =
    let P : Pending → Type 0 = λ n. Refuses n why in
    let kept = c.in-Ok-End.ensures.refused why (subst P (sym c.self.view_is) refused) in
    let same : c.in-Ok-End.field-0 ≡ verdict_of why = cc (kept.0) in
    (ap Err (sym (refusal-end why (sym c.in-Ok-End.field-0-is ∙ same))), kept.1 ∙ c.self.view_is)

pub returns-in-Ok-Number-clause-asks : goal.returns-in-Ok-Number-clause-asks
returns-in-Ok-Number-clause-asks g c =
    let n = pending c.look.new.self c.look.new.ahead in
    (n, subst (λ old. AsksFor g.S.Source.replies false old n c.args.source.now c.look.new.source) c.self.view_is c.in-Ok-Number.ensures.asks)

pub returns-in-Ok-Malformed-clause-asks : goal.returns-in-Ok-Malformed-clause-asks
returns-in-Ok-Malformed-clause-asks g c =
    let n = pending c.look.new.self c.look.new.ahead in
    (n, subst (λ old. AsksFor g.S.Source.replies false old n c.args.source.now c.look.new.source) c.self.view_is c.in-Ok-Malformed.ensures.asks)

pub returns-in-Ok-End-clause-asks : goal.returns-in-Ok-End-clause-asks
returns-in-Ok-End-clause-asks g c =
    let n = pending c.look.new.self c.look.new.ahead in
    (n, subst (λ old. AsksFor g.S.Source.replies false old n c.args.source.now c.look.new.source) c.self.view_is c.in-Ok-End.ensures.asks)

pub returns-in-Err-clause-asks : goal.returns-in-Err-clause-asks
returns-in-Err-clause-asks g c =
    let n = pending c.look.new.self c.look.new.ahead in
    (n, subst (λ old. AsksFor g.S.Source.replies true old n c.args.source.now c.look.new.source) c.self.view_is c.in-Err.ensures.asks)

pub returns-in-Ok-Number-clause-quiet : goal.returns-in-Ok-Number-clause-quiet
returns-in-Ok-Number-clause-quiet g c other = c.in-Ok-Number.ensures.quiet

pub returns-in-Ok-Malformed-clause-quiet : goal.returns-in-Ok-Malformed-clause-quiet
returns-in-Ok-Malformed-clause-quiet g c other = c.in-Ok-Malformed.ensures.quiet

pub returns-in-Ok-End-clause-quiet : goal.returns-in-Ok-End-clause-quiet
returns-in-Ok-End-clause-quiet g c other = c.in-Ok-End.ensures.quiet

pub returns-in-Err-clause-quiet : goal.returns-in-Err-clause-quiet
returns-in-Err-clause-quiet g c other = absurd (other refl)
