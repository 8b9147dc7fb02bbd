-- One region's record changes, and nothing else does (docs/architecture.md, "Regions").
use Rattle.std.proofs.Common.{◌≡◌, ◌≢◌, ℕ, zero, suc, List, [], ◌∷◌, Option, Some, None, get_or, set, refl}
use Rattle.std.proofs.lemmas.List.{get_or-set_other}
use Rattle.rg_regions.specs.Table.{Record, RegionTable, record_at, changed}

set_there : (xs : List (Option Record)) (key : ℕ) (r : Record) (y : Option Record) → get_or xs key None ≡ Some r → get_or (set xs key y) key None ≡ y
set_there [] key r y e = cc
set_there (x ∷ xs) zero r y e = refl
set_there (x ∷ xs) (suc key) r y e = set_there xs key r y e

pub changed_at : (t : RegionTable) (key : ℕ) (r : Record) (f : Record → Record) → record_at t key ≡ Some r
    → record_at (changed t key f) key ≡ Some (f r)
changed_at t key r f e = rw (changed, e) (set_there t.records key r (Some (f r)) e)

pub changed_other : (t : RegionTable) (key : ℕ) (f : Record → Record) (other : ℕ) → other ≢ key
    → record_at (changed t key f) other ≡ record_at t other
changed_other t key f other d = by_record (record_at t key) refl
  where
    by_record : (o : Option Record) → record_at t key ≡ o → record_at (changed t key f) other ≡ record_at t other
    by_record None e = rw (changed, e) refl
    by_record (Some r) e = rw (changed, e) (get_or-set_other t.records key other (Some (f r)) None d)

pub changed_links : (t : RegionTable) (key : ℕ) (f : Record → Record) → ((changed t key f).links ≡ t.links) × ((changed t key f).next ≡ t.next)
changed_links t key f = by_record (record_at t key) refl
  where
    by_record : (o : Option Record) → record_at t key ≡ o → ((changed t key f).links ≡ t.links) × ((changed t key f).next ≡ t.next)
    by_record None e = rw (changed, e) (refl, refl)
    by_record (Some r) e = rw (changed, e) (refl, refl)
