-- Two collections that keep the same of the active region keep the same.
use Rattle.std.proofs.Common.{◌≡◌, inl, inr, ℕ, Bool as Truth, true, false, true≢false, List, Some, option_map, slice_get, refl, sym, ap, ◌∙◌}
use Rattle.std.proofs.lemmas.Bool.{cases_eq}
use Rattle.rg_base.specs.declared.object.Label.{Label}
use Rattle.rg_base.specs.declared.object.Label.TheVariants.{Region, Temp, Frozen}
use Rattle.rg_base.specs.declared.object.Seen.{Seen}
use Rattle.rg_rules.specs.Regions.{region_at}
use Rattle.rg_stack.specs.Tops.{top_region}
use Rattle.rg_stack.specs.Machine.{Machine}
use Rattle.rg_held.specs.Gather.{Gathered, LinkOut, Loses, first, further}
use Rattle.rg_held.specs.Gone.{gone}
use Rattle.rg_machine.proofs.Callers.Slid.{same-lists}

-- truth values each of which follows from the other
pub both-ways : (x y : Truth) → (x ≡ true → y ≡ true) → (y ≡ true → x ≡ true) → x ≡ y
both-ways true true on back = refl
both-ways true false on back = sym (on refl)
both-ways false true on back = back refl
both-ways false false on back = refl

module _ (held kept held₂ kept₂ : ℕ → Truth) (f f₂ : Machine) (stores : f.store ≡ f₂.store)
    (top : top_region f.windows ≡ top_region f₂.windows) (same-held : (a : ℕ) → held a ≡ held₂ a)
    (same-kept : (a : ℕ) (o : Seen) → held a ≡ true → slice_get f.store a ≡ Some o → o.label ≡ Region (top_region f.windows) → kept a ≡ kept₂ a) where
  link-back : (p p₂ q : ℕ) → p ≡ p₂ → LinkOut held₂ f₂ p₂ q → LinkOut held f p q
  link-back p p₂ q same l = record {
    object = l.object;
    holder = l.holder;
    field = l.field;
    address = l.address;
    differ = λ e. l.differ (sym same ∙ e);
    here = same-held l.object ∙ l.here;
    there = ap (λ (s : List Seen). slice_get s l.object) stores ∙ l.there;
    lies = l.lies ∙ ap Region (sym same);
    value = l.value;
    leads = ap (λ (s : List Seen). region_at s l.address) stores ∙ l.leads;
  }

  -- what loses its owner with the one does so with the other
  loses-back : {q : ℕ} → Loses held₂ kept₂ f₂ q → Loses held kept f q
  unfolding link-back
  loses-back {q} (first l out) =
      let b = link-back (top_region f.windows) (top_region f₂.windows) q top l in
      first b (same-kept b.object b.holder b.here b.there b.lies ∙ out)
  loses-back {q} (further {p} before l) = further (loses-back before) (link-back p p q refl l)

  module _ (after after₂ : Machine) (g : Gathered held kept f after f) (g₂ : Gathered held₂ kept₂ f₂ after₂ f₂)
      (there : (a : ℕ) → held a ≡ true → (o : Seen) × (slice_get f.store a ≡ Some o)) where
    pub keeps-also : (a : ℕ) → kept a ≡ true → kept₂ a ≡ true
    keeps-also a e = by o.0.label refl
      where
        here : held a ≡ true
        here = g.fewer a e

        o : (o : Seen) × (slice_get f.store a ≡ Some o)
        o = there a here

        stays : (o.0.label ≡ Region (top_region f₂.windows) → ⊥) → kept₂ a ≡ true
        stays other =
            g₂.stays a o.0 (sym (same-held a) ∙ here) (ap (λ (s : List Seen). slice_get s a) (sym stores) ∙ o.1) other
            (λ q lies loses. true≢false (sym e ∙ g.lost a q o.0 here o.1 lies (loses-back loses)))

        region : Label → ℕ → ℕ
        region (Region r) d = r
        region (Temp n) d = d
        region Frozen d = d

        by : (l : Label) → o.0.label ≡ l → kept₂ a ≡ true
        by (Region r) is = elim (cases_eq r (top_region f.windows)) [
          | inl same ↦ sym (same-kept a o.0 here o.1 (is ∙ ap Region same)) ∙ e
          | inr other ↦ stays (λ l. other (ap (λ x. region x 0) (sym is ∙ l) ∙ sym top))
        ]
        by (Temp n) is = stays (λ l. let x : Temp n ≡ Region (top_region f₂.windows) = sym is ∙ l in absurd cc)
        by Frozen is = stays (λ l. let x : Frozen ≡ Region (top_region f₂.windows) = sym is ∙ l in absurd cc)

    -- where the same is kept, the same is held behind
    pub behind-same : ((a : ℕ) → kept a ≡ kept₂ a) → after.store ≡ after₂.store
    behind-same same = same-lists after.store after₂.store (λ a. by a (kept a) refl)
      where
        by : (a : ℕ) (t : Truth) → kept a ≡ t → slice_get after.store a ≡ slice_get after₂.store a
        by a true e =
            g.same a e ∙ ap (λ (s : List Seen). slice_get s a) stores ∙ sym (g₂.same a (sym (same a) ∙ e))
        by a false e =
            g.others a e ∙ ap (λ (s : List Seen). option_map (λ (o : Seen). gone) (slice_get s a)) stores
            ∙ sym (g₂.others a (sym (same a) ∙ e))
