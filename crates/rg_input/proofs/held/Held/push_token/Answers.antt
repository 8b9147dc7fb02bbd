use Rattle.std.proofs.Common.{arith, length, ◌≤◌, ◌<◌, ◌-◌}
use Rattle.rg_base.specs.declared.limits.TheConstants.{INPUT_TOKEN}
use Rattle.rg_input.proofs.Run.{IsRead-token, IsRead-behind, token-some, short-token}
use Rattle.rg_input.proofs.held.Held.push_token.Goals as goal

pub invariant_of-self : goal.invariant_of-self
invariant_of-self c = record {
  read = IsRead-token _ _ _ _ _ _ c.args.self.now.read c.token_run-n.ensures.run c.append.ensures;
}

pub invariant_of-self-2 : goal.invariant_of-self-2
invariant_of-self-2 c =
    let h = c.args.self.now in
    let token = c.append.new.self in
    let front = c.first-front.result.now in
    let fits : length h.token ≤ INPUT_TOKEN = short-token h.blanks h.token h.behind c.requires.short in
    let some : 0 < length token = token-some h.token token c.args.bytes.now front (21 - c.len.result) c.token_run-n.result
    (omega (arith, fits, c.len.ensures.value)) c.requires.some c.requires.inside c.first-front.ensures.first c.token_run-n.ensures.run
    c.append.ensures in record {
      read = IsRead-behind _ _ _ _ _ (IsRead-token _ _ _ _ _ _ h.read c.token_run-n.ensures.run c.append.ensures) some
          c.token_run-n.ensures.run (grind (arith, c.token_run-n.ensures.within, c.if-n-front.false));
    }
