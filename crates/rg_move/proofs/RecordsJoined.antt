-- The records of a region that goes into another one (docs/architecture.md, "Freeze and merge").
use Rattle.std.proofs.Common.{◌≡◌, ◌≢◌, ℕ, ◌-◌, ◌≤◌, List, ◌++◌, length, Option, Some, None, get_or, ap, sym, ◌∙◌}
use Rattle.std.proofs.Common.{subst, arith}
use Rattle.std.proofs.lemmas.List.{get_or-set_other, take_all}
use Rattle.std.proofs.lemmas.Option.{same_Some}
use Rattle.rg_regions.specs.Table.{Record, RegionTable, record_at, link_at, with_room, Roomier, HasNumber, removed}
use Rattle.rg_regions.proofs.Callers.Changed.{changed_at, changed_other, changed_links}
use Rattle.rg_regions.proofs.Callers.Removed.{none_there}
use Rattle.rg_regions.proofs.Callers.Told.{record_there}
use Rattle.rg_move.specs.Merged.{RecordsMerge}
use Rattle.rg_move.specs.Inner.Moves.{PushedFirst, HasRoomToMove}

module _ (t roomy : RegionTable) (from into more : ℕ) (a b : Record) (d : from ≢ into) (at : record_at t from ≡ Some a)
    (to : record_at t into ≡ Some b) (r : Roomier t roomy into more) where
  pub from_roomy : record_at roomy from ≡ Some a
  from_roomy = ap (λ z. record_at z from) r.2 ∙ changed_other t into (with_room r.0) from d ∙ at

  pub into_roomy : record_at roomy into ≡ Some (with_room r.0 b)
  into_roomy = ap (λ z. record_at z into) r.2 ∙ changed_at t into b (with_room r.0) to

  pub has_room : more ≡ length a.members → HasRoomToMove roomy from into
  has_room e = record {
    one = a;
    other = with_room r.0 b;
    at = from_roomy;
    to = into_roomy;
    differ = d;
    room = let P : ℕ → Type 0 = λ n. n ≤ r.0 in subst P e r.1;
  }

  module _ (full new : RegionTable) (p : PushedFirst roomy from into a (with_room r.0 b) (length a.members) full)
      (is : new ≡ removed full from) where
    pub numbers_kept : new.next ≡ t.next
    numbers_kept =
        ap (λ (z : RegionTable). z.next) is ∙ p.next ∙ ap (λ (z : RegionTable). z.next) r.2
        ∙ (changed_links t into (with_room r.0)).1

    record_on : (k : ℕ) → k ≢ from → record_at new k ≡ record_at full k
    record_on k e = ap (λ z. record_at z k) is ∙ get_or-set_other full.records from k None None e

    link_on : (k : ℕ) → k ≢ from → link_at new k ≡ link_at t k
    link_on k e =
        ap (λ (z : RegionTable). get_or z.links k None) is ∙ get_or-set_other full.links from k None None e
        ∙ ap (λ (ls : List (Option ℕ)). get_or ls k None)
        (p.links ∙ ap (λ (z : RegionTable). z.links) r.2 ∙ (changed_links t into (with_room r.0)).0)

    pub records_merge : RecordsMerge t new from into
    records_merge = record {
      gone = ap (λ z. record_at z from) is ∙ none_there full.records from;
      members = λ x y e f.
          let one : a ≡ x = same_Some a x (sym at ∙ e) in
          let two : b ≡ y = same_Some b y (sym to ∙ f) in
          let P : Record → Record → Type 0 = λ u v.
          (room : ℕ) × (record_at new into ≡ Some (record v { members = v.members ++ u.members; room = room })) in
          let Q : Record → Type 0 = λ u. P u y in
          let R : Record → Type 0 = λ v. P a v in
          subst Q one (subst R two (
            r.0 - length a.members,
            record_on into (λ q. d (sym q)) ∙ p.pushed
                ∙ ap (λ ms. Some (record b { members = b.members ++ ms; room = r.0 - length a.members }))
                (take_all (length a.members) a.members (omega arith)),
          ));
      link = link_on into (λ q. d (sym q));
      others = λ k e f. (
        record_on k e ∙ p.others k f ∙ ap (λ z. record_at z k) r.2 ∙ changed_other t into (with_room r.0) k f,
        link_on k e,
      );
    }

-- the record of the region that goes and that of the region that takes its cells, before room was made and behind it
pub record Both (t roomy : RegionTable) (from into more m : ℕ) : Type 0 where
  pub one : Record
  pub other : Record
  pub at : record_at t from ≡ Some one
  pub to : record_at t into ≡ Some other
  pub number : other.number ≡ m
  pub room : Roomier t roomy into more
  pub left : record_at roomy from ≡ Some one
  pub wide : record_at roomy into ≡ Some (with_room room.0 other)

pub both : (t roomy : RegionTable) (from into more n m : ℕ) → from ≢ into → HasNumber t from n → HasNumber t into m
    → Roomier t roomy into more → Both t roomy from into more m
both t roomy from into more n m d x y r =
    let a = record_there (record_at t from) n x in
    let b = record_there (record_at t into) m y in
    record {
      one = a.0;
      other = b.0;
      at = a.1;
      to = b.1;
      number = b.2;
      room = r;
      left = from_roomy t roomy from into more a.0 b.0 d a.1 b.1 r;
      wide = into_roomy t roomy from into more a.0 b.0 d a.1 b.1 r;
    }
