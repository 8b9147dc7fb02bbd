-- What holds of a region whose members were put in order (docs/architecture.md, "Regions").
use Rattle.std.proofs.Common.{◌≡◌, ◌≢◌, ℕ, ◌<◌, ◌≤◌, List, length, Some, slice_get, get_or, ap, sym, ◌∙◌}
use Rattle.std.proofs.Common.{arith}
use Rattle.std.specs.List.{swap}
use Rattle.std.proofs.lemmas.Option.{slice_get_within, slice_get-get_or, same_Some}
use Rattle.std.proofs.lemmas.List.Edits.{swap_is}
use Rattle.std.proofs.lemmas.List.Sorted.{IsPermutation-keeps}
use Rattle.rg_cells.specs.Table.{Heap}
use Rattle.rg_cells.proofs.Exchanged.{partner, by_partner, partner_back, partner_once, traded_at, traded_length}
use Rattle.rg_regions.specs.Table.{Record, RegionTable, record_at}
use Rattle.rg_regions.specs.Ordered.{with_members, Orders}
use Rattle.rg_regions.specs.Grove.{Members}
use Rattle.rg_regions.proofs.Callers.Changed.{changed_at, changed_other, changed_links}

-- Two elements of a list change places.
module _ (xs : List ℕ) (a b : ℕ) (l : a < length xs) (m : b < length xs) where
  within : (k : ℕ) → k < length xs → partner a b k < length xs
  within k n = by_partner (λ x y. x < length xs → y < length xs) a b (λ q. m) (λ q. l) (λ s d e q. q) k n

  swapped_length : length (swap xs a b) ≡ length xs
  swapped_length = ap length (sym (swap_is xs a b 0 l m)) ∙ traded_length 0 xs a b

  -- what stands at a place stood at its partner
  pub got_swapped : (k s : ℕ) → slice_get (swap xs a b) k ≡ Some s → slice_get xs (partner a b k) ≡ Some s
  got_swapped k s e =
      let n : k < length (swap xs a b) = slice_get_within (swap xs a b) k s e in
      let here : get_or (swap xs a b) k s ≡ s = same_Some _ _ (sym (slice_get-get_or (swap xs a b) k s n) ∙ e) in
      let there : get_or xs (partner a b k) s ≡ s =
      sym (traded_at s xs a b l m k) ∙ ap (λ (ys : List ℕ). get_or ys k s) (swap_is xs a b s l m) ∙ here in
      slice_get-get_or xs (partner a b k) s (within k (omega (arith, n, swapped_length))) ∙ ap Some there

  pub got_partner : (k s : ℕ) → slice_get xs k ≡ Some s → slice_get (swap xs a b) (partner a b k) ≡ Some s
  got_partner k s e =
      let n : k < length xs = slice_get_within xs k s e in
      let here : get_or xs k s ≡ s = same_Some _ _ (sym (slice_get-get_or xs k s n) ∙ e) in
      let there : get_or (swap xs a b) (partner a b k) s ≡ s =
      ap (λ (ys : List ℕ). get_or ys (partner a b k) s) (sym (swap_is xs a b s l m)) ∙ traded_at s xs a b l m (partner a b k)
      ∙ ap (λ z. get_or xs z s) (partner_back a b k) ∙ here in
      slice_get-get_or (swap xs a b) (partner a b k) s (omega (arith, within k n, swapped_length)) ∙ ap Some there

  pub members_swapped : (h : Heap) (r : ℕ) → Members h r xs → Members h r (swap xs a b)
  members_swapped h r w = record {
    lie = λ i s e. w.lie (partner a b i) s (got_swapped i s e);
    all = λ s e. let f = w.all s e in (partner a b f.0, got_partner f.0 s f.1);
    once = λ i j s e f.
        partner_once a b i j (w.once (partner a b i) (partner a b j) s (got_swapped i s e) (got_swapped j s f));
  }

module _ (old new : RegionTable) (key : ℕ) (o : Orders old new key) where
  -- other regions, links and numbers stay
  pub ordered_other : (other : ℕ) → other ≢ key → record_at new other ≡ record_at old other
  ordered_other other d = ap (λ t. record_at t other) o.changed ∙ changed_other old key (with_members o.members) other d

  pub ordered_links : (new.links ≡ old.links) × (new.next ≡ old.next)
  ordered_links =
      let s = changed_links old key (with_members o.members) in
      (ap (λ (t : RegionTable). t.links) o.changed ∙ s.0, ap (λ (t : RegionTable). t.next) o.changed ∙ s.1)

  -- a member in front is no greater
  pub ordered_rise : (i j a b : ℕ) → i ≤ j → slice_get o.members i ≡ Some a → slice_get o.members j ≡ Some b → a ≤ b
  ordered_rise i j a b p e f =
      let m : i < length o.members = slice_get_within o.members i a e in
      let n : j < length o.members = slice_get_within o.members j b f in
      let x : get_or o.members i 0 ≡ a = same_Some _ _ (sym (slice_get-get_or o.members i 0 m) ∙ e) in
      let y : get_or o.members j 0 ≡ b = same_Some _ _ (sym (slice_get-get_or o.members j 0 n) ∙ f) in
      omega (arith, x, y, o.rise i j 0 p n)

  module _ (r : Record) (e : record_at old key ≡ Some r) where
    -- the region has the same members, in order
    pub ordered_at : record_at new key ≡ Some (with_members o.members r)
    ordered_at = ap (λ t. record_at t key) o.changed ∙ changed_at old key r (with_members o.members) e

    pub ordered_members : (h : Heap) (n : ℕ) → Members h n r.members → Members h n o.members
    ordered_members h n w =
        IsPermutation-keeps r.members (Members h n) w (λ xs i j l m q. members_swapped xs i j l m h n q) o.members (o.same r e)
