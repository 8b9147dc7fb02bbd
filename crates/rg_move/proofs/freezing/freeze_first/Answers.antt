use Rattle.std.proofs.Common.{◌≡◌, ℕ, ◌+◌, List, length, Option, None, Some, get_or, ap, sym, ◌∙◌, refl, subst}
use Rattle.std.proofs.Common.{count_by, is_some}
use Rattle.rg_base.specs.declared.object.Label.TheVariants.{Frozen}
use Rattle.rg_regions.specs.Table.{Record, RegionTable, HasNumber, Chained}
use Rattle.rg_regions.specs.Chains.{LeadsToHeld, OwnsOnce}
use Rattle.rg_regions.specs.Owned.{Every, OwnsNone, ChainsOwned}
use Rattle.rg_regions.specs.Same.{AllHeld, AllDiffer}
use Rattle.rg_regions.proofs.Callers.Told.{number_of, one_number, members_read, same_record}
use Rattle.rg_regions.proofs.Callers.HandedOver.{handed_over}
use Rattle.rg_regions.proofs.Callers.Removed.{count-removed}
use Rattle.rg_move.specs.Inner.Labels.{LabelledFirst}
use Rattle.rg_move.proofs.MembersLabelled.{members_held, members_differ, members_labelled, others_kept}
use Rattle.rg_move.proofs.freezing.freeze_first.Goals as goal

-- the number that is read
number_read : (t : RegionTable) (key n : ℕ) (rec : Record) → get_or t.records key None ≡ Some rec → HasNumber t key n
    → rec.number ≡ n
number_read t key n rec at has = one_number t key rec.number n (number_of t key rec.number rec at refl) has

pub chain_owned-next-requires : goal.chain_owned-next-requires
chain_owned-next-requires c =
    let h = c.args.cells.now.heap in
    let rec = c.requires.0 in
    let w = c.requires.2 in
    let same = number_read c.args.regions.now c.args.key c.number-region.result rec w.at c.number-region.ensures in
    let O : ℕ → Type 0 = λ n. OwnsOnce h n rec.members in
    let L : ℕ → Type 0 = λ n. LeadsToHeld h n in
    record { there = (rec, w.at, subst O same w.owns); lead = subst L same w.lead; labels = w.labels }

-- the members that are read
members_now : (c : goal.After-members) → c.requires.0.members ≡ c.members.result.now
members_now c =
    let old = c.args.regions.now in
    let rec = c.requires.0 in
    let s = c.chain_owned-next.ensures rec c.requires.2.at in
    members_read old c.chain_owned-next.new.regions c.args.key rec c.members.result.now s.records c.requires.2.at
    c.members.ensures

pub label_members-requires-clause-held : goal.label_members-requires-clause-held
label_members-requires-clause-held c =
    let rec = c.requires.0 in
    let H : List ℕ → Type 0 = λ z. AllHeld c.args.cells.now.heap z in
    subst H (members_now c) (members_held c.args.cells.now.heap rec.number rec.members c.requires.2.owns)

pub label_members-requires-clause-once : goal.label_members-requires-clause-once
label_members-requires-clause-once c =
    let rec = c.requires.0 in
    let H : List ℕ → Type 0 = λ z. AllDiffer z in
    subst H (members_now c) (members_differ c.args.cells.now.heap rec.number rec.members c.requires.2.owns)

pub returns-clause-turned : goal.returns-clause-turned
returns-clause-turned c = λ rec rest w.
    let h = c.args.cells.now.heap in
    let old = c.args.regions.now in
    let mid = c.chain_owned-next.new.regions in
    let head = c.chain_owned-next.result in
    let cells = c.label_members.new.cells in
    let s = c.chain_owned-next.ensures rec w.at in
    let same = number_read old c.args.key c.number-region.result rec w.at c.number-region.ensures in
    let mem = members_read old mid c.args.key rec c.members.result.now s.records w.at c.members.ensures in
    let C : Option ℕ → Type 0 = λ o. Chained old.links o rest in
    let N : ℕ → Type 0 = λ n. OwnsNone h n old rest in
    let k = s.next rest (subst N same w.free) (subst C (sym c.link-rest.ensures) w.chain.2) in
    let O : ℕ → Type 0 = λ n. ChainsOwned h Every n rec.members rest old (length rec.members) 0 mid head in
    let own = subst O (sym same) k in
    let F : List ℕ → Type 0 = λ z. LabelledFirst Frozen c.args.cells.now z (length z) cells in
    let done = subst F (sym mem) c.label_members.ensures in (
      record {
        froze = members_labelled Frozen c.args.cells.now rec.number rec.members cells w.members done;
        others = others_kept Frozen c.args.cells.now rec.number rec.members cells w.owns done;
        serials = done.serials;
        high = done.high;
      },
      own.0,
      handed_over h old c.args.key rec.number rec.members rest mid head c.remove.new.self own.0 w.members w.owns
          (number_of old c.args.key rec.number rec w.at refl) w.chain.1 own.1 c.remove.ensures.gone,
    )

pub returns-clause-count : goal.returns-clause-count
returns-clause-count c =
    let mid = c.chain_owned-next.new.regions in
    let rec = c.requires.0 in
    let s = c.chain_owned-next.ensures rec c.requires.2.at in
    let at = same_record c.args.regions.now mid c.args.key rec s.records c.requires.2.at in
    ap (λ (z : RegionTable). count_by is_some z.records + 1) c.remove.ensures.gone
    ∙ count-removed mid.records c.args.key rec at
    ∙ ap (λ (rs : List (Option Record)). count_by is_some rs) s.records
