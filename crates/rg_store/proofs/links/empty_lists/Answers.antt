use Rattle.std.proofs.Common.{◌∙◌, ◌+◌, ap, length-append, length}
use Rattle.rg_store.specs.Links.{listed}
use Rattle.rg_store.proofs.List.{listed-empty}
use Rattle.rg_store.proofs.links.empty_lists.Goals as goal

pub loop-list-preserved : goal.loop-list-preserved
loop-list-preserved c =
    let inv = c.loop-list.invariant in
    let lists_are = c.in-Ok.ensures.items in
    record {
      count = ap length lists_are ∙ length-append _ _ ∙ ap (λ n. n + 1) inv.count;
      empty = λ r. ap (λ ls. listed ls r) lists_are ∙ listed-empty c.loop-list.lists.items c.new.result c.new.ensures.items inv.empty r;
    }
