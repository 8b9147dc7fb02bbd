use Rattle.std.proofs.Common.{[], ◌∷◌, ◌++◌, append-nil, sym, ◌∙◌, ap}
use Rattle.rg_tree.specs.Rows.RowTrees.{member_at, member_of}
use Rattle.rg_store.proofs.Opening.{opened-turn}
use Rattle.rg_store.proofs.made.opening_fields.Goals.{in-Field+in-Ok, in-Method}
use Rattle.rg_store.proofs.made.opening_fields.Goals as goal

pub loop-member-preserved : goal.loop-member-preserved
loop-member-preserved c =
    let t = c.args.book.now.program in
    let old = c.loop-member.fields.items in
    elim c.match-member.branch [
      | in-Field+in-Ok w ↦
          opened-turn (member_at t) c.members_of-numbers.result.now c.loop-member.member-index _ _ _ _ c.loop-member-test.true
          (c.member.ensures.tree ∙ ap (member_of t) w.in-Field.is)
          (ap (λ v. v.items) w.fields-is ∙ w.in-Ok.ensures.items ∙ ap (λ v. old ++ v ∷ []) (w.opening_value.ensures t)) c.loop-member.invariant
      | in-Method w ↦
          opened-turn (member_at t) c.members_of-numbers.result.now c.loop-member.member-index _ _ _ _ c.loop-member-test.true
          (c.member.ensures.tree ∙ ap (member_of t) w.in-Method.is) (ap (λ v. v.items) w.fields-is ∙ sym (append-nil old)) c.loop-member.invariant
    ]
