use Rattle.std.proofs.Common.{◌∙◌, None, ap, sym, subst, ◌<◌, length}
use Rattle.std.specs.Vec.Iter.{into_iter_items}
use Rattle.std.proofs.lemmas.Option.{slice_get_within, get_or_from_slice_get}
use Rattle.rg_tree.specs.Rows.RowTrees.{classes_of}
use Rattle.rg_plan.specs.declared.cown.Cown.{Cown}
use Rattle.rg_sched_atomic.specs.Settings.{start_of}
use Rattle.rg_slots.proofs.Taken.{next-is}
use Rattle.rg_slots.proofs.ByFields.{opens-next, opens-short}
use Rattle.rg_slots.proofs.slots.Slots.open.Goals.{in-New+in_ok-content-in-New, in-Image}
use Rattle.rg_slots.proofs.slots.Slots.open.Goals as goal

pub loop-n-preserved : goal.loop-n-preserved
loop-n-preserved c =
    let classes = classes_of c.args.book.now.program in
    let cown = c.cown-cown.result.now in
    opens-next classes c.args.plan.now.cowns c.loop-n.n cown (into_iter_items c.loop-n.rest) (into_iter_items c.next.new.self) c.in-Some.image
    c.match-cown.content c.loop-n.slots.items c.push.new.self.items _ c.cown-cown.ensures c.in-Some.ensures.items c.loop-n.invariant
    (elim c.match-cown.branch [
      | in-New+in_ok-content-in-New w ↦ w.content-is ∙ w.in_ok-content-in-New.ensures
          ∙ ap (start_of classes cown.class c.in-Some.image) (sym w.in-New.is)
      | in-Image w ↦ w.content-is ∙ ap (start_of classes cown.class c.in-Some.image) (sym w.in-Image.is)
    ])
    c.in-Ok.ensures.items

pub returns-in_default : goal.returns-in_default
returns-in_default c =
    c.new.ensures ∙ opens-short (classes_of c.args.book.now.program) c.args.plan.now.cowns c.loop-n.n c.cown-cown.result.now
    (into_iter_items c.loop-n.rest) c.loop-n.slots.items _ c.cown-cown.ensures
    (next-is c.loop-n.rest c.next.new.self None c.loop-n.rest.rest.ok.0 c.next.new.self.rest.ok.0 c.in_default.ensures.cases).0 c.loop-n.invariant

pub new_content-requires : goal.new_content-requires
new_content-requires c =
    let cowns = c.args.plan.now.cowns in
    let cown = c.cown-cown.result.now in
    subst (λ (z : Cown). z.class < length (classes_of c.args.book.now.program)) (get_or_from_slice_get cowns c.loop-n.n cown cown c.cown-cown.ensures)
    (c.requires c.loop-n.n cown (slice_get_within cowns c.loop-n.n cown c.cown-cown.ensures))
