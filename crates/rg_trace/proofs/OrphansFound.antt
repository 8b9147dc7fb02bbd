-- Each turn of the search for regions that lose their owner (docs/architecture.md, "Mark and sweep").
use Rattle.std.proofs.Common.{◌≡◌, ◌≢◌, ℕ, ◌+◌, ◌<◌, List, [], length, Option, None, get_or, refl, ap, sym, ◌∙◌, arith}
use Rattle.std.proofs.Common.{inl, inr}
use Rattle.std.proofs.lemmas.Bool.Decides.{eqb_tells}
use Rattle.rg_cells.specs.Table.{Heap, body_at, width}
use Rattle.rg_regions.specs.Table.{RegionTable}
use Rattle.rg_regions.specs.Chains.{OwnsOnce}
use Rattle.rg_regions.specs.Owned.{FollowsFields}
use Rattle.rg_regions.proofs.Callers.OwnedFound.{owned_begin, owned_next, owned_stays}
use Rattle.rg_trace.specs.Orphans.{IsWhite, FollowsWhite, if_white}

-- a white member's fields were looked at
pub searched-white : (h : Heap) (marks : List ℕ) (r : ℕ) (members : List ℕ) (i slot : ℕ) (old mid new : RegionTable)
    (middle result : Option ℕ)
    → OwnsOnce h r members → i < length members → get_or members i 0 ≡ slot → get_or marks slot 0 ≡ 0
    → FollowsFields h (IsWhite marks) r slot (width (body_at h slot)) mid new middle result
    → FollowsWhite h marks r members i old mid middle
    → FollowsWhite h marks r members (i + 1) old new result
searched-white h marks r members i slot old mid new middle result o l is white f s = record {
  records = f.records ∙ s.records;
  orphans = owned_next h (IsWhite marks) r members [] old i (width (body_at h slot)) new result
      (omega (arith, ap (λ z. width (body_at h z)) is))
      (f.chained members [] old i o (λ key q s k to m. absurd m) l is white s.orphans);
}

pub searched-black : (h : Heap) (marks : List ℕ) (r : ℕ) (members : List ℕ) (i slot : ℕ) (old mid : RegionTable)
    (middle : Option ℕ)
    → get_or members i 0 ≡ slot → get_or marks slot 0 ≢ 0 → FollowsWhite h marks r members i old mid middle
    → FollowsWhite h marks r members (i + 1) old mid middle
searched-black h marks r members i slot old mid middle is black s = record {
  records = s.records;
  orphans = owned_stays h (IsWhite marks) r members [] old i mid middle
      (λ q. black (ap (λ z. get_or marks z 0) (sym is) ∙ q)) s.orphans;
}

pub searched-none : (h : Heap) (marks : List ℕ) (r : ℕ) (members : List ℕ) (t : RegionTable)
    → FollowsWhite h marks r members 0 t t None
searched-none h marks r members t =
    record { records = refl; orphans = owned_begin h (IsWhite marks) r members [] t None refl }

pub white-width : (h : Heap) (marks : List ℕ) (s : ℕ) → get_or marks s 0 ≡ 0 → if_white h marks s ≡ width (body_at h s)
white-width h marks s e = rw e refl

pub black-width : (h : Heap) (marks : List ℕ) (s : ℕ) → get_or marks s 0 ≢ 0 → if_white h marks s ≡ 0
black-width h marks s d = elim (eqb_tells (get_or marks s 0) 0) [ inl e ↦ absurd (d e.1) | inr e ↦ rw e.0 refl ]
