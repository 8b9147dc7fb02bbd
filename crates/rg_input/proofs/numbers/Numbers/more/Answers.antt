use Rattle.std.proofs.Common.{refl, subst}
use Rattle.std.specs.Result.{is_err}
use Rattle.rg_input.specs.Numbers.{AsksFor, OnInput, Looks}
use Rattle.rg_input.specs.Inner.Held.{pending}
use Rattle.rg_input.proofs.Holding.{looks-answered, OnInput-read}
use Rattle.rg_input.proofs.numbers.Numbers.more.Goals as goal

pub returns-clause-looks : goal.returns-clause-looks
returns-clause-looks g c =
    let old_left = g.S.Source.left c.args.source.now in
    let left = g.S.Source.left c.look_more.new.source in
    let h = c.look_more.new.self in
    let ahead = c.look_more.new.ahead in
    let new = pending h ahead in
    subst (λ n. OnInput n new old_left left (Looks c.look_more.result)) c.self.view_is
    (OnInput-read (pending c.self.inside.held c.self.inside.ahead) new new old_left left (Looks c.look_more.result) c.look_more.ensures.reads refl
    (looks-answered h ahead left c.look_more.result c.look_more.ensures.says c.look_more.ensures.whole))

pub returns-clause-asks : goal.returns-clause-asks
returns-clause-asks g c =
    let new = pending c.look_more.new.self c.look_more.new.ahead in
    subst (λ n. AsksFor g.S.Source.replies (is_err c.look_more.result) n new c.args.source.now c.look_more.new.source) c.self.view_is
    c.look_more.ensures.asks
