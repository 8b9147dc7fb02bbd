-- Each turn of a loop that drops members of one region (docs/architecture.md, "Regions").
use Rattle.std.proofs.Common.{◌≡◌, ℕ, List, Some, swap_remove, refl, ap, sym, ◌∙◌, subst}
use Rattle.std.proofs.lemmas.Option.{same_Some}
use Rattle.rg_regions.specs.Table.{Record, RegionTable, record_at, changed, without_member}
use Rattle.rg_regions.specs.Dropped.{MembersLeft}
use Rattle.rg_regions.proofs.Callers.Changed.{changed_at, changed_other, changed_links}

module _ (t : RegionTable) (key : ℕ) (rec : Record) (e : record_at t key ≡ Some rec) where
  -- before the first turn
  pub left_begin : (P : ℕ → List ℕ → Type 0) → P rec.number rec.members → MembersLeft t key P t
  left_begin P p = record {
    links = refl;
    next = refl;
    others = λ k d. refl;
    left = λ r q.
        let S : Record → Type 0 = λ z. P z.number z.members in
        (r, q, refl, refl, refl, subst S (same_Some rec r (sym e ∙ q)) p);
  }

  module _ (P Q : ℕ → List ℕ → Type 0) (regions : RegionTable) (w : MembersLeft t key P regions) where
    -- the record of a turn
    pub left_now : (now : Record) × (record_at regions key ≡ Some now) × P rec.number now.members
    left_now = let s = w.left rec e in (s.0, s.1, s.5)

    module _ (now : Record) (f : record_at regions key ≡ Some now) where
      is_now : (z : Record) → record_at regions key ≡ Some z → z ≡ now
      is_now z g = same_Some z now (sym g ∙ f)

      of_now : (r : Record) (z : Record) → record_at t key ≡ Some r → record_at regions key ≡ Some z
          → P r.number z.members
          → P rec.number now.members
      of_now r z q g p =
          let R : Record → Type 0 = λ y. P y.number now.members in
          let S : Record → Type 0 = λ y. P r.number y.members in
          subst R (sym (same_Some rec r (sym e ∙ q))) (subst S (is_now z g) p)

      -- the record is another one, which says all that it said but for its members
      goes_on : (next : RegionTable) (new : Record) → record_at next key ≡ Some new → new.number ≡ now.number
          → new.manager ≡ now.manager → new.bridge ≡ now.bridge
          → (P rec.number now.members → Q rec.number new.members) → (r : Record) → record_at t key ≡ Some r
          → (z : Record) × (record_at next key ≡ Some z) × (z.number ≡ r.number) × (z.manager ≡ r.manager)
          × (z.bridge ≡ r.bridge) × Q r.number z.members
      goes_on next new at number manager bridge turn r q =
          let s = w.left r q in
          let same = is_now s.0 s.1 in
          let S : Record → Type 0 = λ y. Q y.number new.members in (
            new,
            at,
            number ∙ sym (ap (λ (z : Record). z.number) same) ∙ s.2,
            manager ∙ sym (ap (λ (z : Record). z.manager) same) ∙ s.3,
            bridge ∙ sym (ap (λ (z : Record). z.bridge) same) ∙ s.4,
            subst S (same_Some rec r (sym e ∙ q)) (turn (of_now r s.0 q s.1 s.5)),
          )

      -- a member is kept
      pub left_keep : (P rec.number now.members → Q rec.number now.members) → MembersLeft t key Q regions
      left_keep turn = record {
        links = w.links;
        next = w.next;
        others = w.others;
        left = goes_on regions now f refl refl refl turn;
      }

      -- a member is dropped
      pub left_drop : (place : ℕ) (next : RegionTable) → next ≡ changed regions key (without_member place)
          → (P rec.number now.members → Q rec.number (swap_remove now.members place 0)) → MembersLeft t key Q next
      left_drop place next n turn =
          let l = changed_links regions key (without_member place) in
          record {
            links = ap (λ (z : RegionTable). z.links) n ∙ l.0 ∙ w.links;
            next = ap (λ (z : RegionTable). z.next) n ∙ l.1 ∙ w.next;
            others = λ k d. ap (λ (z : RegionTable). record_at z k) n
                ∙ changed_other regions key (without_member place) k d ∙ w.others k d;
            left = goes_on next (without_member place now)
                (ap (λ (z : RegionTable). record_at z key) n ∙ changed_at regions key now (without_member place) f)
                refl refl refl turn;
          }
