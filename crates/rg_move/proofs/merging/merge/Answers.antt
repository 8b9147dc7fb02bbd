use Rattle.std.proofs.Common.{◌≡◌, ◌<◌, ℕ, List, length, Option, Some, option_map, ap, sym, ◌∙◌, subst, refl, get_or}
use Rattle.rg_base.specs.declared.object.Label.TheVariants.{Region}
use Rattle.rg_base.specs.declared.words.Manager.{Manager}
use Rattle.rg_cells.specs.Table.{Table}
use Rattle.rg_regions.specs.Table.{Record, record_at}
use Rattle.rg_regions.specs.Reach.{LiesIn}
use Rattle.rg_regions.specs.Chains.{LeadsToHeld}
use Rattle.rg_regions.specs.Same.{AllHeld, AllDiffer}
use Rattle.rg_regions.proofs.Callers.Told.{same_members, owns_once, same_manager}
use Rattle.rg_move.specs.Inner.Labels.{LabelledFirst}
use Rattle.rg_move.specs.Counted.{HasRoomFor, led_by, Counts}
use Rattle.rg_move.specs.Inner.Joins.{Merges}
use Rattle.rg_move.proofs.MembersLabelled.{members_held, members_differ}
use Rattle.rg_move.proofs.CellsJoined.{lie_now, leads_now, room_now, relabels, marks, links_kept}
use Rattle.rg_move.proofs.RecordsJoined.{Both, both, has_room, records_merge, numbers_kept}
use Rattle.rg_move.proofs.MergeTold.{cells_move, others_stay, grove_merged}
use Rattle.rg_move.proofs.merging.merge.Goals as goal
use Rattle.rg_move.proofs.merging.merge.Goals.{In_ok-reserve}

-- the cells are labelled and counted, by the record's own number, members and manager
labelled_by : (o : Option Record) (r : Record) (n m : ℕ) (ys : List ℕ) (c mid : Table) → o ≡ Some r → n ≡ m
    → option_map (λ (z : Record). z.members) o ≡ Some ys → LabelledFirst (Region m) c ys (length ys) mid
    → LabelledFirst (Region n) c r.members (length r.members) mid
labelled_by o r n m ys c mid is e f l =
    let P : ℕ → Type 0 = λ z. LabelledFirst (Region z) c ys (length ys) mid in
    let Q : List ℕ → Type 0 = λ z. LabelledFirst (Region n) c z (length z) mid in
    subst Q (sym (same_members o r ys is f)) (subst P (sym e) l)

counted_by : (o : Option Record) (r : Record) (k l : Manager) (n m : ℕ) (ys : List ℕ) (mid done : Table) → o ≡ Some r → k ≡ l
    → n ≡ m → option_map (λ (z : Record). z.members) o ≡ Some ys → Counts l m mid ys done → Counts k n mid r.members done
counted_by o r k l n m ys mid done is d e f w =
    let P : Manager → Type 0 = λ z. Counts z m mid ys done in
    let Q : ℕ → Type 0 = λ z. Counts k z mid ys done in
    let R : List ℕ → Type 0 = λ z. Counts k n mid z done in
    subst R (sym (same_members o r ys is f)) (subst Q (sym e) (subst P (sym d) w))

-- the two records, before room was made and behind it
two : (c : In_ok-reserve) → Both c.args.regions.now c.reserve.new.self c.args.from c.args.into
    (length c.members.result.now) c.number-number.result
two c = both c.args.regions.now c.reserve.new.self c.args.from c.args.into _ _ _ c.requires.into.differ
    c.requires.closed.has c.number-number.ensures c.in_ok-reserve.ensures.ok

pub label_members-requires : goal.label_members-requires
label_members-requires c =
    let old = c.args.regions.now in
    let cells = c.args.cells.now in
    let from = c.args.from in
    let into = c.args.into in
    let w = two (goal.at.label_members-requires c).In_ok-reserve in
    let own = owns_once cells old from w.one c.requires.grove w.at in
    let mem = same_members (record_at c.reserve.new.self from) w.one c.members-2.result.now w.left c.members-2.ensures in
    let H : List ℕ → Type 0 = λ z. AllHeld cells.heap z in
    let D : List ℕ → Type 0 = λ z. AllDiffer z in
    record {
      held = subst H mem (members_held cells.heap w.one.number w.one.members own);
      once = subst D mem (members_differ cells.heap w.one.number w.one.members own);
    }

pub count_members-requires : goal.count_members-requires
count_members-requires c =
    let old = c.args.regions.now in
    let cells = c.args.cells.now in
    let from = c.args.from in
    let into = c.args.into in
    let w = two (goal.at.count_members-requires c).In_ok-reserve in
    let mid = c.label_members.new.cells in
    let l = labelled_by _ w.one w.other.number c.number-number.result c.members-2.result.now cells mid w.left w.number
    c.members-2.ensures c.label_members.ensures in
    let now = same_members (record_at c.reserve.new.self from) w.one c.members-3.result.now w.left c.members-3.ensures in
    let n = c.number-number.result in
    let L : ℕ → Type 0 = λ z. (j : ℕ) → j < length w.one.members → LiesIn mid.heap z (get_or w.one.members j 0) in
    let M : List ℕ → Type 0 = λ z. (j : ℕ) → j < length z → LiesIn mid.heap n (get_or z j 0) in
    let H : ℕ → Type 0 = λ z. LeadsToHeld mid.heap z in
    record {
      lie = subst M now (subst L w.number
          (lie_now cells old from into w.one w.other c.requires.grove w.at w.to c.requires.closed c.requires.into mid l));
      lead = subst H w.number (leads_now cells old from into w.one w.other c.requires.grove w.at w.to c.requires.closed
          c.requires.into mid l);
      room = λ m.
          let R : ℕ → Type 0 = λ z. HasRoomFor z mid (led_by mid.heap w.one.members) in
          let T : List ℕ → Type 0 = λ z. HasRoomFor n mid (led_by mid.heap z) in
          subst T now (subst R w.number
          (room_now cells old from into w.one w.other c.requires.grove w.at w.to c.requires.closed c.requires.into mid l
          c.fields.ensures.few));
    }

pub move_members-requires : goal.move_members-requires
move_members-requires c =
    let old = c.args.regions.now in
    let from = c.args.from in
    let into = c.args.into in
    let w = two (goal.at.move_members-requires c).In_ok-reserve in
    let two = same_members (record_at old from) w.one c.members.result.now w.at c.members.ensures in
    has_room old c.reserve.new.self from into (length c.members.result.now) w.one w.other c.requires.into.differ w.at w.to w.room (ap (length {A = ℕ}) (sym two))

pub remove-requires : goal.remove-requires
remove-requires c =
    let old = c.args.regions.now in
    let from = c.args.from in
    let into = c.args.into in
    let w = two (goal.at.remove-requires c).In_ok-reserve in
    let p = c.move_members.ensures w.one _ w.left w.wide in
    rw (p.others from c.requires.into.differ ∙ w.left) refl

-- all that was done
done : (c : goal.After-remove)
    → Merges c.args.cells.now c.args.regions.now c.args.from c.args.into c.count_members.new.cells c.remove.new.self
done c =
    let old = c.args.regions.now in
    let cells = c.args.cells.now in
    let from = c.args.from in
    let into = c.args.into in
    let w = both old c.reserve.new.self from into (length c.members.result.now) _ _ c.requires.into.differ c.requires.closed.has
    c.number-number.ensures c.in_ok-reserve.ensures.ok in
    let p = c.move_members.ensures w.one _ w.left w.wide in
    let mid = c.label_members.new.cells in
    let l = labelled_by _ w.one w.other.number c.number-number.result c.members-2.result.now cells mid w.left w.number
    c.members-2.ensures c.label_members.ensures in
    let read = same_manager (record_at old into) w.other c.manager-manager.result w.to c.manager-manager.ensures in
    let new = c.count_members.new.cells in
    let sums = counted_by _ w.one w.other.manager c.manager-manager.result w.other.number c.number-number.result
    c.members-3.result.now mid new w.left read w.number c.members-3.ensures c.count_members.ensures in
    record {
      one = w.one;
      other = w.other;
      at = w.at;
      to = w.to;
      relabels = relabels cells old from into w.one w.other c.requires.grove w.at w.to c.requires.closed c.requires.into mid l
          new sums;
      marks = marks cells old from into w.one w.other c.requires.grove w.at w.to c.requires.closed c.requires.into mid l new sums;
      links = links_kept cells old from into w.one w.other c.requires.grove w.at w.to c.requires.closed c.requires.into mid l
          new sums;
      records = records_merge old c.reserve.new.self from into _ w.one w.other c.requires.into.differ w.at w.to w.room
          c.move_members.new.regions c.remove.new.self p c.remove.ensures.gone;
    }

pub returns-clause-moved : goal.returns-clause-moved
returns-clause-moved c =
    cells_move c.args.cells.now c.args.regions.now c.args.from c.args.into c.count_members.new.cells c.remove.new.self
    (done c)

pub returns-clause-merged : goal.returns-clause-merged
returns-clause-merged c = (done c).records

pub returns-clause-cells : goal.returns-clause-cells
returns-clause-cells c =
    others_stay c.args.cells.now c.args.regions.now c.args.from c.args.into c.count_members.new.cells c.remove.new.self
    (done c)

pub returns-clause-numbers : goal.returns-clause-numbers
returns-clause-numbers c =
    let old = c.args.regions.now in
    let from = c.args.from in
    let into = c.args.into in
    let w = two (goal.at.returns-clause-numbers c).In_ok-reserve in
    let p = c.move_members.ensures w.one _ w.left w.wide in
    numbers_kept old c.reserve.new.self from into _ w.one w.other c.requires.into.differ w.at w.to w.room c.move_members.new.regions
    c.remove.new.self p c.remove.ensures.gone

pub returns-clause-grove : goal.returns-clause-grove
returns-clause-grove c =
    grove_merged c.args.cells.now c.args.regions.now c.args.from c.args.into c.count_members.new.cells
    c.remove.new.self (done c)
    c.requires.grove c.requires.closed c.requires.into
