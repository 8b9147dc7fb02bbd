use Rattle.std.proofs.Common.{◌≡◌, ℕ, refl, ap, subst, sym}
use Rattle.rg_base.specs.declared.object.Label.TheVariants.{Region}
use Rattle.rg_cells.specs.Table.{Table}
use Rattle.rg_regions.specs.Grove.{Grove}
use Rattle.rg_regions.specs.Table.{RegionTable, record_at, fresh}
use Rattle.rg_heap.specs.Changes.{Makes, OpensOne}
use Rattle.rg_heap.proofs.Comes.{same_cancelled, opens, grove_opens, grove_same, same_cells, newest_fresh, room_bridged, rewritten_room, number_next}
use Rattle.rg_heap.proofs.making.make_bridge.Goals as goal

pub cancel-requires : goal.cancel-requires
cancel-requires c = newest_fresh c.args.regions.now c.add.new.self c.reserve.new.self c.in_ok-key.key c.args.manager c.in_ok-key.ensures.added
    c.in_default.ensures.err

pub returns-in_default-clause-grove : goal.returns-in_default-clause-grove
returns-in_default-clause-grove c =
    let t = c.args.regions.now in
    let mid = c.add.new.self in
    let new = c.reserve.new.self in
    let key = c.in_ok-key.key in
    let e = c.in_default.ensures.err in
    let s = same_cancelled t mid new c.cancel.new.self key c.args.manager c.in_ok-key.ensures.added
    (λ k d. ap (λ (z : RegionTable). record_at z k) e) (ap (λ (z : RegionTable). z.next) e) c.cancel.ensures in
    grove_same c.args.cells.now t c.args.cells.now c.cancel.new.self c.requires.grove (same_cells c.args.cells.now c.args.cells.now refl) s

pub returns-in_default-make-clause-grove : goal.returns-in_default-make-clause-grove
returns-in_default-make-clause-grove c =
    let t = c.args.regions.now in
    let old = c.args.cells.now in
    let mid = c.add.new.self in
    let new = c.reserve.new.self in
    let key = c.in_ok-key.key in
    let w = rewritten_room mid new key 1 c.in-Ok.ensures.ok in
    let regions = c.cancel-in_default-make.new.self in
    let s = same_cancelled t mid new regions key c.args.manager c.in_ok-key.ensures.added w.others w.next c.cancel-in_default-make.ensures in
    let e = c.in_default-make.ensures.err in
    let P : Table → Type 0 = λ (z : Table). Grove z regions in
    subst P (sym e) (grove_same old t old regions c.requires.grove (same_cells old old refl) s)

pub push_member-requires : goal.push_member-requires
push_member-requires c =
    let a = c.in_ok-key.ensures.added in
    room_bridged c.add.new.self c.reserve.new.self c.set_bridge.new.self c.in_ok-key.key 0 c.in-Ok-make.slot
    (fresh c.args.regions.now c.args.manager) a.is c.in-Ok.ensures.ok c.set_bridge.ensures

opened : (c : goal.After-push_member) → OpensOne c.args.regions.now c.push_member.new.self c.in-Ok-make.slot c.args.manager
opened c = (
  c.in_ok-key.key,
  opens c.args.regions.now c.add.new.self c.reserve.new.self c.set_bridge.new.self c.push_member.new.self c.in_ok-key.key 1 c.in-Ok-make.slot
      c.args.manager c.in_ok-key.ensures.added c.in-Ok.ensures.ok c.set_bridge.ensures c.push_member.ensures,
)

number : (c : goal.After-push_member) → c.number-number.result ≡ c.args.regions.now.next
number c = number_next c.args.regions.now c.add.new.self c.reserve.new.self c.in_ok-key.key 1 c.number-number.result c.args.manager
    c.in_ok-key.ensures.added c.in-Ok.ensures.ok c.number-number.ensures

made : (c : goal.After-push_member) → Makes c.args.cells.now c.make.new.self c.in-Ok-make.slot c.args.class (Region c.args.regions.now.next)
    c.args.fields.now
made c =
    let x = c.in-Ok-make.ensures in
    let P : ℕ → Type 0 = λ n. Makes c.args.cells.now c.make.new.self c.in-Ok-make.slot c.args.class (Region n) c.args.fields.now in
    subst P (number c) (record { takes = x.takes; made = x.made; next = x.next; high = x.high })

pub returns-clause-region : goal.returns-clause-region
returns-clause-region c = opened c

pub returns-clause-grove : goal.returns-clause-grove
returns-clause-grove c =
    grove_opens c.args.cells.now c.args.regions.now c.make.new.self c.push_member.new.self c.in-Ok-make.slot c.args.class c.args.manager
    c.args.fields.now c.requires.grove c.in_ok-key.ensures.fresh c.requires.plain (made c) (opened c)
