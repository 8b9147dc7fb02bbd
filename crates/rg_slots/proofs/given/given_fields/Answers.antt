use Rattle.std.proofs.Common.{◌∙◌, ◌+◌, ◌++◌, ap, sym, map, drop, filter_map}
use Rattle.std.specs.Vec.Iter.{into_iter_items}
use Rattle.rg_tree.specs.Rows.RowTrees.{member_at}
use Rattle.rg_rules.specs.Types.{field_member}
use Rattle.rg_opening.specs.declared.given.Given.TheVariants.{Start}
use Rattle.rg_sched_atomic.specs.Contents.{givens}
use Rattle.rg_slots.specs.Slots.{content_in}
use Rattle.rg_slots.proofs.Taken.{next-is}
use Rattle.rg_slots.proofs.ByFields.{members-field, members-method, given-iso, given-other}
use Rattle.rg_slots.proofs.given.given_fields.Goals.{in-Field+in-Ok, then-is_iso, else-is_iso, in-Method}
use Rattle.rg_slots.proofs.given.given_fields.Goals as goal

pub loop-k-preserved : goal.loop-k-preserved
loop-k-preserved c =
    let t = c.args.book.now.program in
    let ms = c.members_of-members.result.now in
    let k = c.loop-k.k-index in
    let behind = filter_map field_member (map (member_at t) (drop (k + 1) ms)) in
    elim c.match-member.branch [
      | in-Field+in-Ok w ↦
          let first = members-field t ms k _ c.loop-k-test.true (ap field_member w.in-Field.ensures.tree) in
          elim w.if-is_iso.branch [
            | then-is_iso v ↦ rw (w.rest-is, w.given-is, v.rest-is)
                (given-iso _ behind _ c.loop-k.given.items _ w.push.new.self.items (into_iter_items c.loop-k.rest) (into_iter_items v.next.new.self)
                v.next.result w.if-is_iso.begins first c.loop-k.invariant (sym (v.if-is_iso.ensures t))
                (next-is c.loop-k.rest v.next.new.self v.next.result c.loop-k.rest.rest.ok.0 v.next.new.self.rest.ok.0 v.next.ensures.cases)
                (v.begins-is ∙ v.given_of-begins.ensures) w.in-Ok.ensures.items)
            | else-is_iso v ↦ rw (w.rest-is, w.given-is, v.rest-is)
                (given-other _ behind _ c.loop-k.given.items _ w.push.new.self.items (into_iter_items c.loop-k.rest)
                w.if-is_iso.begins first c.loop-k.invariant (sym (v.if-is_iso.ensures t)) (v.begins-is ∙ ap Start (v.opening_value.ensures t))
                w.in-Ok.ensures.items)
          ]
      | in-Method w ↦ rw (w.rest-is, w.given-is)
          (ap (λ z. c.loop-k.given.items ++ givens z (map content_in (into_iter_items c.loop-k.rest)))
          (sym (members-method t ms k c.loop-k-test.true (ap field_member w.in-Method.ensures.tree)))
          ∙ c.loop-k.invariant)
    ]
