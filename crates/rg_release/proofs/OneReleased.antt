-- The parts of one region's release together (docs/architecture.md, "Release").
use Rattle.std.proofs.Common.{◌≡◌, ℕ, List, ◌∷◌, length, Option, Some}
use Rattle.std.proofs.Common.{refl, sym, subst, inr}
use Rattle.rg_cells.specs.Table.{Heap, Table}
use Rattle.rg_regions.specs.Table.{Record, RegionTable, record_at, Has, Chained, removed}
use Rattle.rg_regions.specs.Reach.{LiesIn}
use Rattle.rg_regions.specs.Grove.{Grove}
use Rattle.rg_regions.specs.Chains.{OwnsOnce}
use Rattle.rg_regions.proofs.Callers.Told.{number_of, owns_once}
use Rattle.rg_release.specs.Released.{Unowned}
use Rattle.rg_regions.specs.Owned.{Every, OwnedInFront, OwnsNone, HandsOver}
use Rattle.rg_regions.proofs.Callers.HandedOver.{member_place, handed_over}
use Rattle.rg_release.specs.Inner.Turns.{FreedFirst, IsClear, Emptied, Turned}

-- no field of the first of unowned regions leads into one of the others
pub owns_none : (h : Heap) (t : RegionTable) (key r : ℕ) (rest : List ℕ) → Unowned h t (key ∷ rest) → OwnsNone h r t rest
owns_none h t key r rest l = λ k q s f to m n d i x y. l.alone k q r s f to (inr m) n (λ z. d (sym z)) i x y

module _ (c : Table) (t : RegionTable) (key : ℕ) (rec : Record) (rest : List ℕ) (mid : RegionTable) (head : Option ℕ) (cells : Table)
    (regions : RegionTable) (keys : List ℕ) (g : Grove c t) (e : record_at t key ≡ Some rec) (fresh : Has rest key → ⊥)
    (o : OwnedInFront c.heap Every rec.number rec.members rest t (length rec.members) 0 mid head keys)
    (f : FreedFirst c rec.members (length rec.members) cells) (is : regions ≡ removed mid key) where
  own : OwnsOnce c.heap rec.number rec.members
  own = owns_once c t key rec g e

  hand : HandsOver c.heap t key rec.number rest regions head keys
  hand =
      handed_over c.heap t key rec.number rec.members rest mid head regions keys (g.members key rec e) own
      (number_of t key rec.number rec e refl) fresh o is

  -- the chain stands without the region that goes
  pub chain_made : Chained regions.links head keys
  chain_made = hand.chain

  emptied_made : Emptied c t key rec cells regions
  emptied_made = record {
    gone = λ s l. let p = member_place c.heap rec.number rec.members (g.members key rec e) s l in let P : ℕ → Type 0 = λ v. IsClear cells v in
        subst P p.2 (f.gone p.0 p.1);
    others = λ s n. f.others s (λ j l q. let P : ℕ → Type 0 = λ v. LiesIn c.heap rec.number v in n (subst P q (own.lie j l)));
    removed = hand.gone;
    stay = hand.stay;
    serials = f.serials;
    high = f.high;
    numbers = hand.numbers;
  }

  -- the parts of one region's release together
  pub turn_made : Turned c t key rec rest cells regions keys
  turn_made = record {
    emptied = emptied_made;
    old = hand.old;
    each = hand.each;
    all = hand.all;
    apart = hand.apart;
    unkeyed = hand.unkeyed;
  }
