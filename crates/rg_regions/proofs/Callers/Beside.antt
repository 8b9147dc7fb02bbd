-- A cell was made at a slot that wasn't held, and all other cells stay: what labels and fields tell of that (docs/architecture.md,
-- "Regions").
use Rattle.std.proofs.Common.{◌≡◌, ◌≢◌, ℕ, ◌⊎◌, Some, None, ap, sym, ◌∙◌, subst, inl, inr, option_map, option_and_then, slice_get}
use Rattle.rg_base.specs.declared.object.Label.{Label}
use Rattle.rg_base.specs.declared.object.Label.TheVariants.{Region, Frozen}
use Rattle.rg_base.specs.declared.value.Word.{Word}
use Rattle.rg_base.specs.declared.value.Word.TheVariants.{Slot}
use Rattle.rg_cells.specs.declared.cell.Body.{Body}
use Rattle.rg_cells.specs.Table.{Table, Made, body_at, body_in, field_at, label_at}
use Rattle.rg_regions.specs.Table.{RegionTable, IsBridge}
use Rattle.rg_regions.specs.Reach.{LiesIn}
use Rattle.rg_regions.specs.Grove.{Grove}

pub record Beside (c cells : Table) (slot : ℕ) : Type 0 where
  pub same : (s : ℕ) → s ≢ slot → body_at cells.heap s ≡ body_at c.heap s
  pub apart : (s : ℕ) (l : Label) → label_at c.heap s ≡ Some l → s ≢ slot
  pub label_on : (s : ℕ) (l : Label) → label_at c.heap s ≡ Some l → label_at cells.heap s ≡ Some l
  pub label_back : (s : ℕ) (l : Label) → s ≢ slot → label_at cells.heap s ≡ Some l → label_at c.heap s ≡ Some l
  pub field_back : (s k : ℕ) (v : Word) → s ≢ slot → field_at cells.heap s k ≡ Some v → field_at c.heap s k ≡ Some v

pub beside : (c cells : Table) (slot : ℕ) (b : Body) → Made c cells slot b → body_at c.heap slot ≡ None → Beside c cells slot
beside c cells slot b w vacant = record {
  same = same;
  apart = apart;
  label_on = λ s l e. ap (option_map (λ (b : Body). b.label)) (same s (apart s l e)) ∙ e;
  label_back = λ s l d e. sym (ap (option_map (λ (b : Body). b.label)) (same s d)) ∙ e;
  field_back = λ s k v d f. sym (ap (option_and_then (λ (b : Body). slice_get b.fields k)) (same s d)) ∙ f;
}
  where
    same : (s : ℕ) → s ≢ slot → body_at cells.heap s ≡ body_at c.heap s
    same s d = ap body_in (w.others s d)

    apart : (s : ℕ) (l : Label) → label_at c.heap s ≡ Some l → s ≢ slot
    apart s l e q =
        let P : ℕ → Type 0 = λ z. label_at c.heap z ≡ Some l in
        let z : None ≡ Some l = sym (ap (option_map (λ (b : Body). b.label)) vacant) ∙ subst P q e in
        cc

-- no field of a region's cell leads to the new cell
pub not_to : (c cells : Table) (t : RegionTable) (slot : ℕ) → Grove c t → Beside c cells slot → (q s k to : ℕ) → LiesIn c.heap q s
    → field_at c.heap s k ≡ Some (Slot to) → to ≢ slot
not_to c cells t slot g n q s k to l f = elim (g.fields q s k to l f) [
  | inl a ↦ n.apart to Frozen a
  | inr x ↦ elim x [ inl y ↦ n.apart to (Region q) y | inr y ↦ n.apart to (Region y.0) y.2 ]
]

-- where a field leads to is kept, where labels and bridges are
pub leads_on : (c cells : Table) (t regions : RegionTable)
    → ((s : ℕ) (l : Label) → label_at c.heap s ≡ Some l → label_at cells.heap s ≡ Some l)
    → ((q s : ℕ) → IsBridge t q s → IsBridge regions q s) → (p to : ℕ)
    → (label_at c.heap to ≡ Some Frozen) ⊎ LiesIn c.heap p to
    ⊎ ((q : ℕ) × (q ≢ p) × LiesIn c.heap q to × IsBridge t q to)
    → (label_at cells.heap to ≡ Some Frozen) ⊎ LiesIn cells.heap p to
    ⊎ ((q : ℕ) × (q ≢ p) × LiesIn cells.heap q to × IsBridge regions q to)
leads_on c cells t regions label bridge p to w = elim w [
  | inl a ↦ inl (label to Frozen a)
  | inr y ↦ elim y [
    | inl a ↦ inr (inl (label to (Region p) a))
    | inr a ↦ inr (inr (a.0, a.1, label to (Region a.0) a.2, bridge a.0 to a.3))
  ]
]
