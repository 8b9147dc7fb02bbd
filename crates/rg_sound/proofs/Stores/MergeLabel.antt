-- Labels behind a merge: what fitted fits.
use Rattle.std.proofs.Common.{◌≡◌, refl, sym, ◌∙◌, ap, subst, inl, inr, ℕ, ◌==◌, Bool as Truth, true, false, if◌then◌else◌, List, [], ◌∷◌, arith}
use Rattle.rg_base.specs.declared.words.Cap.{Cap}
use Rattle.rg_base.specs.declared.words.Cap.TheVariants.{Mut, Tmp, Paused, Imm, Iso}
use Rattle.rg_base.specs.declared.object.Label.{Label}
use Rattle.rg_base.specs.declared.object.Label.TheVariants.{Region, Temp, Frozen}
use Rattle.rg_rules.specs.State.{Window}
use Rattle.rg_sound.specs.Windows.{windows_from, IsOpen}
use Rattle.rg_sound.specs.Values.{IsRegion, LabelFits}
use Rattle.rg_sound.specs.Objects.{RegionFieldFits, TempFieldFits, FieldFits}
use Rattle.rg_sound.proofs.Values.Label.{windows_from-open}
use Rattle.rg_sound.proofs.Owners.Open.{IsOpenIn}

-- a label behind the merge
abbrev pub merged_label : (gone into : ℕ) → Label → Label
merged_label g a (Region r) = if g == r then Region a else Region r
merged_label g a (Temp n) = Temp n
merged_label g a Frozen = Frozen

pub open-in : (ws : List Window) (r : ℕ) → IsOpen ws (Region r) → IsOpenIn ws r
open-in [] r h = absurd h
open-in (w ∷ ws) r (inl e) = inl (let q : r ≡ w.region = grind arith in sym q)
open-in (w ∷ ws) r (inr (inl e)) = grind arith
open-in (w ∷ ws) r (inr (inr h)) = inr (open-in ws r h)

-- a label that is open stays, if the region that goes isn't open
pub kept_by : (b : Truth) (g a r : ℕ) → (g == r) ≡ b → (IsOpenIn [] r → ⊥) → (g ≡ r → ⊥) → (if b then Region a else Region r) ≡ Region r
kept_by true g a r e x h = let same : g ≡ r = grind arith in absurd (h same)
kept_by false g a r e x h = refl

module _ (g a : ℕ) (ws : List Window) (closed : IsOpenIn ws g → ⊥) where
  stays : (l : Label) → IsOpen ws l → merged_label g a l ≡ l
  stays (Region r) h = kept_by (g == r) g a r refl (λ z. z) (λ e. let P : ℕ → Type 0 = λ q. IsOpenIn ws q in
      closed (subst P (sym e) (open-in ws r h)))
  stays (Temp n) h = refl
  stays Frozen h = refl

  region-stays : (l : Label) → IsRegion l → IsRegion (merged_label g a l)
  region-stays (Region r) h = by (g == r)
    where
      by : (b : Truth) → IsRegion (if b then Region a else Region r)
      by true = (a, refl)
      by false = (r, refl)
  region-stays (Temp n) h = grind arith
  region-stays Frozen h = grind arith

  -- what fits at windows beneath fits behind the merge
  pub label-fits : (us : List Window) → ((l : Label) → IsOpen us l → IsOpen ws l) → (cap : Cap) (l : Label) → LabelFits us cap l →
      LabelFits us cap (merged_label g a l)
  label-fits [] up Mut l h = absurd h
  label-fits (u ∷ us) up Mut l h = stays l (up l (inl h)) ∙ h
  label-fits [] up Tmp l h = absurd h
  label-fits (u ∷ us) up Tmp l h = stays l (up l (inr (inl h))) ∙ h
  label-fits us up Paused l (inl h) = inl (ap (merged_label g a) h)
  label-fits us up Paused l (inr h) = let P : Label → Type 0 = λ q. IsOpen us q in inr (subst P (sym (stays l (up l h))) h)
  label-fits us up Imm l h = ap (merged_label g a) h
  label-fits us up Iso l h = region-stays l h

  temp-fits : (us : List Window) → ((l : Label) → IsOpen us l → IsOpen ws l) → (cap : Cap) (l : Label) → TempFieldFits us cap l →
      TempFieldFits us cap (merged_label g a l)
  temp-fits [] up Mut l h = tt
  temp-fits [] up Tmp l h = tt
  temp-fits [] up Paused l h = tt
  temp-fits [] up Imm l h = tt
  temp-fits [] up Iso l h = region-stays l h
  temp-fits (u ∷ us) up cap l h = label-fits (u ∷ us) up cap l h

  region-fits : (r : ℕ) (cap : Cap) (l : Label) → RegionFieldFits r cap l → FieldFits ws (merged_label g a (Region r)) cap (merged_label g a l)
  region-fits r cap l h = by (g == r) refl cap h
    where
      by : (b : Truth) → (g == r) ≡ b → (cap : Cap) → RegionFieldFits r cap l →
          FieldFits ws (if b then Region a else Region r) cap (merged_label g a l)
      by true e Mut h = ap (merged_label g a) h ∙ ap (λ (b : Truth). if b then Region a else Region r) e
      by true e Tmp h = h
      by true e Paused h = h
      by true e Imm h = ap (merged_label g a) h
      by true e Iso h = region-stays l h
      by false e Mut h = ap (merged_label g a) h ∙ ap (λ (b : Truth). if b then Region a else Region r) e
      by false e Tmp h = h
      by false e Paused h = h
      by false e Imm h = ap (merged_label g a) h
      by false e Iso h = region-stays l h

  pub field-fits : (own : Label) (cap : Cap) (l : Label) → FieldFits ws own cap l → FieldFits ws (merged_label g a own) cap (merged_label g a l)
  field-fits (Region r) cap l h = region-fits r cap l h
  field-fits (Temp n) cap l h = temp-fits (windows_from n ws) (λ q. windows_from-open n ws q) cap l h
  field-fits Frozen cap l h = ap (merged_label g a) h
