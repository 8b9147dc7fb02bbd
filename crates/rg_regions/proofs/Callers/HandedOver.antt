-- A region's record goes, and those that it owned are in the chain (docs/architecture.md, "Regions").
use Rattle.std.proofs.Common.{◌≡◌, ◌≢◌, ℕ, ◌<◌, List, length, Option, Some, None, get_or, ap, sym, ◌∙◌, subst, inl, inr}
use Rattle.std.proofs.lemmas.List.{get_or-set_other}
use Rattle.std.proofs.lemmas.Option.{slice_get_within, slice_get-get_or, same_Some}
use Rattle.rg_base.specs.declared.value.Word.TheVariants.{Slot}
use Rattle.rg_cells.specs.Table.{Heap, field_at}
use Rattle.rg_regions.specs.Table.{RegionTable, record_at, link_at, HasNumber, Has, removed}
use Rattle.rg_regions.specs.Reach.{LiesIn}
use Rattle.rg_regions.specs.Grove.{Members}
use Rattle.rg_regions.specs.Chains.{OwnsOnce}
use Rattle.rg_regions.specs.Owned.{Every, OwnedInFront, HandsOver}
use Rattle.rg_regions.proofs.Callers.Told.{one_number}
use Rattle.rg_regions.proofs.Callers.Chain.{chained_agree}
use Rattle.rg_regions.proofs.Callers.Removed.{none_there}

-- the place of a cell among the members
pub member_place : (h : Heap) (r : ℕ) (members : List ℕ) → Members h r members → (s : ℕ) → LiesIn h r s
    → (j : ℕ) × (j < length members) × (get_or members j 0 ≡ s)
member_place h r members m s l =
    let a = m.all s l in
    let w = slice_get_within members a.0 s a.1 in
    (a.0, w, same_Some (get_or members a.0 0) s (sym (slice_get-get_or members a.0 0 w) ∙ a.1))

module _ (h : Heap) (t : RegionTable) (key r : ℕ) (members rest : List ℕ) (mid : RegionTable) (head : Option ℕ)
    (new : RegionTable) (keys : List ℕ) (m : Members h r members) (own : OwnsOnce h r members)
    (number : HasNumber t key r) (fresh : Has rest key → ⊥)
    (o : OwnedInFront h Every r members rest t (length members) 0 mid head keys) (is : new ≡ removed mid key) where
  without : Has keys key → ⊥
  without a = elim (o.each key a) [ inl b ↦ fresh b | inr b ↦ b.2.other (one_number t key b.0 r b.1 number) ]

  link : (k : ℕ) → k ≢ key → link_at new k ≡ link_at mid k
  link k d = ap (λ (z : RegionTable). get_or z.links k None) is ∙ get_or-set_other mid.links key k None None d

  pub handed_over : HandsOver h t key r rest new head keys
  handed_over = record {
    gone = ap (λ (z : RegionTable). record_at z key) is ∙ none_there mid.records key;
    stay = λ k d. ap (λ (z : RegionTable). record_at z k) is ∙ get_or-set_other mid.records key k None None d
        ∙ ap (λ rs. get_or rs k None) o.records;
    numbers = ap (λ (z : RegionTable). z.next) is ∙ o.next;
    chain =
        let P : ℕ → Type 0 = λ v. Has keys v in
        chained_agree mid.links new.links head keys (λ k a. link k (λ z. without (subst P z a))) o.chain;
    old = o.old;
    each = λ k a. elim (o.each k a) [
      | inl b ↦ inl b
      | inr b ↦
          let w = b.2 in
          inr (
            b.0,
            b.1,
            record {
              differ = λ z. w.other (sym z);
              from = get_or members w.place 0;
              field = w.field;
              to = w.to;
              lies = own.lie w.place w.within;
              leads = w.leads;
              child_has = w.lies;
            },
          )
    ];
    all = λ k q a n.
        let p = member_place h r members m a.from a.lies in
        let P : ℕ → Type 0 = λ v. field_at h v a.field ≡ Some (Slot a.to) in
        o.all q k (record {
          place = p.0;
          field = a.field;
          to = a.to;
          early = inl p.1;
          within = p.1;
          gone = tt;
          leads = subst P (sym p.2) a.leads;
          lies = a.child_has;
          other = λ z. a.differ (sym z);
        }) n;
    apart = λ k d a. link k d ∙ o.apart k a;
    unkeyed = without;
  }
