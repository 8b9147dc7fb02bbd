use Rattle.std.proofs.Common.{◌≤◌, ◌∙◌, ◌++◌, ℕ, length, drop, sym, ap, subst, arith}
use Rattle.rg_code.specs.Code.{Code}
use Rattle.rg_module.specs.Follows.{entries}
use Rattle.rg_module.proofs.Bodies.{completed, end-within}
use Rattle.rg_module.proofs.follows.complete.Goals as goal

pub add_entries-requires : goal.add_entries-requires
add_entries-requires c =
    let ops = c.args.code.now.ops in
    let slots = c.in_ok-slots.slots in
    let before = c.set_main_slots.ensures ∙ ap (λ (d : Code). record d { main_slots = slots }) c.in_ok-add_openings.ensures in
    let within = subst (λ (n : ℕ). n ≤ length ops) (sym c.body_at-end.ensures.end) (end-within ops 0 (omega arith)) in
    subst (λ (d : Code). c.body_at-end.result.0 ≤ length d.ops) (sym before) within

pub returns : goal.returns
returns c =
    let slots = c.in_ok-slots.slots in
    let end = c.body_at-end.result.0 in
    let heads = c.args.heads.now in
    let before = c.set_main_slots.ensures ∙ ap (λ (d : Code). record d { main_slots = slots }) c.in_ok-add_openings.ensures in
    c.in_ok-add_entries.ensures
    ∙ ap (λ (d : Code). record d { entries = d.entries ++ entries end heads (drop end d.ops) }) before
    ∙ completed c.args.code.now c.args.shapes.now heads end slots c.requires c.body_at-end.ensures.end
    (c.in_ok-slots.ensures ∙ c.body_at-end.ensures.slots)
