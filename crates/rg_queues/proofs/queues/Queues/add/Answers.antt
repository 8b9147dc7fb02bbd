use Rattle.std.specs.Prelude.{Vec}
use Rattle.std.specs.declared.alloc.Global.{Global}
use Rattle.std.proofs.Common.{◌≡◌, ℕ, List, None, filter_map, get_or, length, map, sym, ap, ◌∙◌, subst, arith}
use Rattle.std.proofs.lemmas.List.{length-map}
use Rattle.rg_queues.specs.Queues.{QueuesIn, AreQueues}
use Rattle.rg_queues.specs.Inner.Written.{written}
use Rattle.rg_queues.proofs.Steps.{map-push, added}
use Rattle.rg_queues.proofs.queues.Queues.add.Goals as goal

pub returns-clause-added : goal.returns-clause-added
returns-clause-added c = λ all h.
    let items : Vec ℕ Global → List ℕ = λ v. v.items in
    let fronts = c.self.inside.in_front.items in
    let old : QueuesIn = record { in_front = map items fronts; last = c.self.inside.last.items } in
    let room = c.make_room.new.last.items in
    let many = length-map fronts items in
    let number : c.len-number.result ≡ length (map items fronts) = omega (arith, c.len-number.ensures, c.self.inside.in_front.ok.0, many) in
    added all c.args.cowns.now old _ room c.in_ok-front.front.items (subst (λ (z : QueuesIn). AreQueues all z) (sym c.self.view_is) h)
    c.in_ok-make_room.ensures.same c.in_ok-make_room.ensures.within
    (c.in_ok-front.ensures ∙ ap (λ z. filter_map (λ n. get_or z n None) c.args.cowns.now) c.as_slice.ensures.value)
    (ap (map items) c.in-Ok.ensures.items ∙ map-push items fronts c.in_ok-front.front)
    (c.write_last.ensures ∙ ap (λ k. written c.args.cowns.now k room) number)
