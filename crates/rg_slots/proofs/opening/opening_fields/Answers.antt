use Rattle.std.proofs.Common.{◌∙◌, ◌+◌, ◌++◌, ◌∷◌, [], ap, sym, map, drop, filter_map}
use Rattle.rg_tree.specs.Tree.{Field}
use Rattle.rg_tree.specs.Rows.RowTrees.{member_at}
use Rattle.rg_rules.specs.RightSides.{opening_value}
use Rattle.rg_rules.specs.Types.{field_member}
use Rattle.rg_slots.proofs.ByFields.{members-field, members-method, value-more}
use Rattle.rg_slots.proofs.opening.opening_fields.Goals.{in-Field+in_ok-push-in-Field, in-Method}
use Rattle.rg_slots.proofs.opening.opening_fields.Goals as goal

pub loop-k-preserved : goal.loop-k-preserved
loop-k-preserved c =
    let t = c.args.book.now.program in
    let ms = c.members_of-members.result.now in
    let k = c.loop-k.k-index in
    let behind = filter_map field_member (map (member_at t) (drop (k + 1) ms)) in
    elim c.match-member.branch [
      | in-Field+in_ok-push-in-Field w ↦ rw w.values-is (value-more _ behind _ c.loop-k.values _ _
          (members-field t ms k _ c.loop-k-test.true (ap field_member w.in-Field.ensures.tree)) c.loop-k.invariant
          (w.in_ok-push-in-Field.ensures.ok ∙ ap (λ v. c.loop-k.values ++ v ∷ []) (w.opening_value.ensures t)))
      | in-Method w ↦ rw w.values-is
          (ap (λ z. c.loop-k.values ++ map (λ (f : Field). opening_value f.ty) z)
          (sym (members-method t ms k c.loop-k-test.true (ap field_member w.in-Method.ensures.tree)))
          ∙ c.loop-k.invariant)
    ]
