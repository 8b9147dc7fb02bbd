use Rattle.std.proofs.Common.{◌∙◌, ◌+◌, ap, sym, subst, map, drop, filter_map}
use Rattle.rg_tree.specs.Rows.RowTrees.{member_at, program_of}
use Rattle.rg_rules.specs.Types.{fields_of, field_member}
use Rattle.rg_world.proofs.Members.{members-field, members-method, members-end}
use Rattle.rg_world.proofs.Returned.{GoesBack, own-field, back-iso, back-other, back-end, next-place}
use Rattle.rg_world.proofs.back.contents_back.Goals.{in-Field+else-field, then-is_iso+in_ok-content-in-Field+in-Ok, else-is_iso, in-Method}
use Rattle.rg_world.proofs.back.contents_back.Goals as goal

pub content-requires-clause-owns : goal.content-requires-clause-owns
content-requires-clause-owns c =
    let tables = c.args.book.now.program in
    let t = program_of tables in
    let r = c.requires.shows in
    let first = members-field tables c.members_of-members.result.now c.loop-k.k-index _ c.loop-k-test.true (ap field_member c.in-Field.ensures.tree) in
    (t, r.0, r.1, r.2.fit, r.3, own-field t c.args.class r.1 c.loop-k.field _ _ r.2 (c.loop-k.invariant.place ∙ first) (sym (c.if-is_iso.ensures tables)))

pub loop-k-preserved : goal.loop-k-preserved
loop-k-preserved c =
    let tables = c.args.book.now.program in
    let t = program_of tables in
    let ms = c.members_of-members.result.now in
    let k = c.loop-k.k-index in
    let n = c.loop-k.field in
    let before = filter_map field_member (map (member_at tables) (drop k ms)) in
    let rest = filter_map field_member (map (member_at tables) (drop (k + 1) ms)) in
    elim c.match-member.branch [
      | in-Field+else-field w ↦
          let first = members-field tables ms k _ c.loop-k-test.true (ap field_member w.in-Field.ensures.tree) in
          record {
            place = rw w.field-is (next-place (fields_of t.classes c.args.class) n _ before rest first c.loop-k.invariant.place);
            so_far = λ code s of shows. rw (w.field-is, w.back-is) (elim w.if-is_iso.branch [
              | then-is_iso+in_ok-content-in-Field+in-Ok v ↦ rw v.back-is
                  (back-iso t c.args.class s n _ before rest c.loop-k.back.items v.push.new.self.items _ v.slot_of-slot.result
                  first (sym (v.if-is_iso.ensures tables))
                  (v.in_ok-content-in-Field.ensures t code s of.fit shows
                  (own-field t c.args.class s n _ rest of (c.loop-k.invariant.place ∙ first) (sym (v.if-is_iso.ensures tables))))
                  v.slot_of-slot.ensures v.in-Ok.ensures.items (c.loop-k.invariant.so_far code s of shows))
              | else-is_iso v ↦ rw v.back-is
                  (back-other t c.args.class s n _ before rest c.loop-k.back.items first (sym (v.if-is_iso.ensures tables))
                  (c.loop-k.invariant.so_far code s of shows))
            ]);
          }
      | in-Method w ↦
          let same = members-method tables ms k c.loop-k-test.true (ap field_member w.in-Method.ensures.tree) in
          record {
            place = rw w.field-is (c.loop-k.invariant.place ∙ same);
            so_far = λ code s of shows. rw (w.field-is, w.back-is)
                (subst (λ z. GoesBack t c.args.class z n c.loop-k.back.items s) same (c.loop-k.invariant.so_far code s of shows));
          }
    ]

pub returns : goal.returns
returns c = λ code s of shows.
    back-end (program_of c.args.book.now.program) c.args.class s c.loop-k.field _ c.loop-k.back.items
    (members-end c.args.book.now.program c.members_of-members.result.now c.loop-k.k-index c.loop-k-test.false)
    (c.loop-k.invariant.so_far code s of shows)
