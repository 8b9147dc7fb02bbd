use Rattle.std.proofs.Common.{◌≡◌, ap, ◌∙◌, subst, sym, OnOk, OnErr, Result, Ok, Err}
use Rattle.slab.specs.Slab.{Slab}
use Rattle.rg_regions.specs.declared.region.Region.{Region}
use Rattle.rg_regions.specs.Table.{Record, RegionTable, changed, with_room}
use Rattle.rg_regions.specs.Inner.Layout.{record_of, table_of, IsIndexed}
use Rattle.rg_regions.proofs.Written.{region_at, rewritten, indexed-written, same-shown}
use Rattle.rg_regions.proofs.regions.Regions.reserve.Goals as goal

on-ok : {T E : Type 0} (o : Result T E) (P Q : Type 0) → (P → Q) → OnOk o P → OnOk o Q
on-ok (Ok x) P Q f h = f h
on-ok (Err e) P Q f h = h

on-err : {T E : Type 0} (o : Result T E) (P Q : Type 0) → (P → Q) → OnErr o P → OnErr o Q
on-err (Ok x) P Q f h = h
on-err (Err e) P Q f h = f h

pub put_room-requires : goal.put_room-requires
put_room-requires c = let s = c.self.inside in region_at s.records.slots s.next c.args.key c.args.self.now c.self.view_is c.requires

pub invariant_of-self : goal.invariant_of-self
invariant_of-self c =
    let s = c.self.inside in
    let h = region_at s.records.slots s.next c.args.key c.args.self.now c.self.view_is c.requires in
    let n = c.put_room.ensures h.0 h.1 in
    let P : Slab Region → Type 0 = λ p. IsIndexed s.keys.entries (table_of p.slots s.next) in
    let number = ap (λ (z : Record). z.number) n.3 in
    subst P (sym n.1) (indexed-written s.keys.entries s.records.slots s.next c.args.key h.0 n.0 h.1 number c.self.invariant)

pub returns-clause-ok : goal.returns-clause-ok
returns-clause-ok c =
    let s = c.self.inside in
    let h = region_at s.records.slots s.next c.args.key c.args.self.now c.self.view_is c.requires in
    let n = c.put_room.ensures h.0 h.1 in
    let f : Record → Record = with_room (record_of n.0).room in
    let is : table_of c.put_room.new.records.slots s.next ≡ changed c.args.self.now c.args.key f =
    ap (λ (p : Slab Region). table_of p.slots s.next) n.1
    ∙ rewritten s.records.slots s.next c.args.key h.0 n.0 f h.1 n.2 n.3
    ∙ ap (λ (t : RegionTable). changed t c.args.key f) c.self.view_is in
    on-ok c.put_room.result _ _ (λ l. ((record_of n.0).room, l, is)) n.4

pub returns-clause-err : goal.returns-clause-err
returns-clause-err c =
    let s = c.self.inside in
    let h = region_at s.records.slots s.next c.args.key c.args.self.now c.self.view_is c.requires in
    let n = c.put_room.ensures h.0 h.1 in
    let same = ap (λ (p : Slab Region). table_of p.slots s.next) n.1 in
    on-err c.put_room.result _ _
    (λ e. same ∙ same-shown s.records.slots s.next c.args.key h.0 n.0 h.1 n.2 e ∙ c.self.view_is) n.5
