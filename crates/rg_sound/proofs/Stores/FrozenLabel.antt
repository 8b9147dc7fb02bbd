-- Labels behind a freeze: what fitted fits, and what a frozen object leads to is frozen.
use Rattle.std.proofs.Common.{◌≡◌, refl, sym, ◌∙◌, ap, subst, ◌⊎◌, inl, inr, ℕ, Bool as Truth, true, false, if◌then◌else◌, List, [], ◌∷◌}
use Rattle.rg_base.specs.declared.words.Cap.{Cap}
use Rattle.rg_base.specs.declared.words.Cap.TheVariants.{Mut, Tmp, Paused, Imm, Iso}
use Rattle.rg_base.specs.declared.object.Label.{Label}
use Rattle.rg_base.specs.declared.object.Label.TheVariants.{Region, Temp, Frozen}
use Rattle.rg_base.specs.declared.object.Seen.{Seen}
use Rattle.rg_rules.specs.State.{Window}
use Rattle.rg_rules.specs.Regions.{among, in_regions, relabelled_object}
use Rattle.rg_sound.specs.Windows.{IsOpen}
use Rattle.rg_sound.specs.Values.{IsRegion, LabelFits}
use Rattle.rg_sound.specs.Objects.{RegionFieldFits, TempFieldFits}
use Rattle.rg_sound.proofs.Owners.Open.{IsOpenIn}
use Rattle.rg_sound.proofs.Stores.MergeLabel.{open-in}
use Rattle.rg_sound.proofs.Stores.Member.{In, among-in, in-among, not-among, among-not}

-- a label behind the freeze
abbrev pub frozen_label : List ℕ → Label → Label
frozen_label rs l = if in_regions rs l then Frozen else l

pub frozen-in : (rs : List ℕ) (r : ℕ) → In r rs → frozen_label rs (Region r) ≡ Frozen
frozen-in rs r i = ap (λ (b : Truth). if b then Frozen else Region r) (in-among rs r i)

pub frozen-out : (rs : List ℕ) (r : ℕ) → (In r rs → ⊥) → frozen_label rs (Region r) ≡ Region r
frozen-out rs r i = ap (λ (b : Truth). if b then Frozen else Region r) (not-among rs r i)

pub in-or-out : (rs : List ℕ) (r : ℕ) → In r rs ⊎ (In r rs → ⊥)
in-or-out rs r = by (among rs r) refl
  where
    by : (b : Truth) → among rs r ≡ b → In r rs ⊎ (In r rs → ⊥)
    by true e = inl (among-in rs r e)
    by false e = inr (λ i. among-not rs r e i)

pub frozen-object : (rs : List ℕ) (o : Seen) → (relabelled_object rs Frozen o).label ≡ frozen_label rs o.label
frozen-object rs o = by (in_regions rs o.label)
  where
    by : (b : Truth) → (if b then record o { label = Frozen } else o).label ≡ (if b then Frozen else o.label)
    by true = refl
    by false = refl

module _ (rs : List ℕ) where
  -- what fits at windows beneath fits behind the freeze
  module _ (ws : List Window) (shut : (r : ℕ) → IsOpenIn ws r → In r rs → ⊥) where
    stays : (l : Label) → IsOpen ws l → frozen_label rs l ≡ l
    stays (Region r) h = frozen-out rs r (shut r (open-in ws r h))
    stays (Temp n) h = refl
    stays Frozen h = refl

    region-stays : (l : Label) → ((r : ℕ) → l ≡ Region r → In r rs → ⊥) → IsRegion l → IsRegion (frozen_label rs l)
    region-stays l out h = (h.0, ap (frozen_label rs) h.1 ∙ frozen-out rs h.0 (out h.0 h.1))

    pub label-fits : (us : List Window) → ((l : Label) → IsOpen us l → IsOpen ws l) → (cap : Cap) (l : Label) →
        ((r : ℕ) → cap ≡ Iso → l ≡ Region r → In r rs → ⊥) →
        LabelFits us cap l → LabelFits us cap (frozen_label rs l)
    label-fits [] up Mut l out h = absurd h
    label-fits (u ∷ us) up Mut l out h = stays l (up l (inl h)) ∙ h
    label-fits [] up Tmp l out h = absurd h
    label-fits (u ∷ us) up Tmp l out h = stays l (up l (inr (inl h))) ∙ h
    label-fits us up Paused l out (inl h) = inl (ap (frozen_label rs) h)
    label-fits us up Paused l out (inr h) = let P : Label → Type 0 = λ q. IsOpen us q in inr (subst P (sym (stays l (up l h))) h)
    label-fits us up Imm l out h = ap (frozen_label rs) h
    label-fits us up Iso l out h = region-stays l (λ r e. out r refl e) h

    pub temp-fits : (us : List Window) → ((l : Label) → IsOpen us l → IsOpen ws l) → (cap : Cap) (l : Label) →
        ((r : ℕ) → cap ≡ Iso → l ≡ Region r → In r rs → ⊥) →
        TempFieldFits us cap l → TempFieldFits us cap (frozen_label rs l)
    temp-fits [] up Mut l out h = tt
    temp-fits [] up Tmp l out h = tt
    temp-fits [] up Paused l out h = tt
    temp-fits [] up Imm l out h = tt
    temp-fits [] up Iso l out h = region-stays l (λ r e. out r refl e) h
    temp-fits (u ∷ us) up cap l out h = label-fits (u ∷ us) up cap l out h

    -- in an object of another region
    pub region-fits : (r : ℕ) → (In r rs → ⊥) → (cap : Cap) (l : Label) → ((q : ℕ) → cap ≡ Iso → l ≡ Region q → In q rs → ⊥) →
        RegionFieldFits r cap l →
        RegionFieldFits r cap (frozen_label rs l)
    region-fits r other Mut l out h = ap (frozen_label rs) h ∙ frozen-out rs r other
    region-fits r other Tmp l out h = h
    region-fits r other Paused l out h = h
    region-fits r other Imm l out h = ap (frozen_label rs) h
    region-fits r other Iso l out h = region-stays l (λ q e. out q refl e) h

  -- in an object that is frozen
  pub frozen-fits : (r : ℕ) → In r rs → (cap : Cap) (l : Label) → ((q : ℕ) → cap ≡ Iso → l ≡ Region q → In q rs) → RegionFieldFits r cap l →
      frozen_label rs l ≡ Frozen
  frozen-fits r i Mut l down h = ap (frozen_label rs) h ∙ frozen-in rs r i
  frozen-fits r i Tmp l down h = absurd h
  frozen-fits r i Paused l down h = absurd h
  frozen-fits r i Imm l down h = ap (frozen_label rs) h
  frozen-fits r i Iso l down h = ap (frozen_label rs) h.1 ∙ frozen-in rs h.0 (down h.0 refl h.1)
