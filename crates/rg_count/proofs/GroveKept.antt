-- A collection keeps the forest (docs/architecture.md, "Counting").
use Rattle.std.proofs.Common.{◌≡◌, ℕ, List, Some, None, ap, sym, ◌∙◌, inl, inr, option_map}
use Rattle.rg_base.specs.declared.object.Label.TheVariants.{Region}
use Rattle.rg_base.specs.declared.words.Manager.TheVariants.{Count}
use Rattle.rg_base.specs.declared.value.Word.{Word}
use Rattle.rg_base.specs.declared.value.Word.TheVariants.{Slot}
use Rattle.rg_cells.specs.declared.cell.Body.{Body}
use Rattle.rg_cells.specs.Table.{Heap, Table, field_at}
use Rattle.rg_regions.specs.Table.{Record, RegionTable, record_at}
use Rattle.rg_regions.specs.Reach.{LiesIn, Roots, Stands, is_bridge}
use Rattle.rg_regions.specs.Spent.{Spent}
use Rattle.rg_regions.specs.Grove.{Grove}
use Rattle.rg_regions.specs.Collection.{roots_of}
use Rattle.rg_regions.proofs.Callers.Fewer.{label_before}
use Rattle.rg_regions.proofs.Callers.OneShrinks.{grove_shrinks}
use Rattle.rg_count.specs.Counted.{Counted}

-- what leads to a spent cell is spent
pub spent-back : (h : Heap) (r : ℕ) (roots : Roots) (s k to : ℕ) → LiesIn h r s → field_at h s k ≡ Some (Slot to)
    → Spent h r roots to
    → Spent h r roots s
spent-back h r roots s k to l f w = let z = w.1.earlier w.2.0 to s k w.2.1 l f in (w.0, w.1, (z.0, z.2))

-- a root isn't spent
pub spent-root : (h : Heap) (r : ℕ) (roots : Roots) (s : ℕ) → Stands h roots s → Spent h r roots s → ⊥
spent-root h r roots s n w = w.1.no_root w.2.0 s w.2.1 n

-- the bridge is a root, and what isn't spent leads to nothing that is spent
pub grove-kept : (c : Table) (t : RegionTable) (key : ℕ) (rec : Record) (slots : List Word) (temps : List ℕ)
    (cells : Table)
    (regions : RegionTable) → Grove c t → record_at t key ≡ Some rec → rec.manager ≡ Count
    → Counted c t key rec (roots_of rec.bridge slots temps) cells regions → Grove cells regions
grove-kept c t key rec slots temps cells regions g e counting w =
    let r = rec.number in
    let roots : Roots = roots_of rec.bridge slots temps in
    let live : (s : ℕ) → (Spent c.heap r roots s → ⊥) → LiesIn c.heap r s → LiesIn cells.heap r s =
    λ s n l. ap (option_map (λ (b : Body). b.label)) (w.kept s l n) ∙ l in
    let within : (s : ℕ) → LiesIn cells.heap r s → Spent c.heap r roots s → ⊥ = λ s l z.
    let q : None ≡ Some (Region r) = sym (ap (option_map (λ (b : Body). b.label)) (w.gone s z)) ∙ l in cc in
    grove_shrinks c t key rec cells regions g e w.shrinks
    (λ s b l. live s (spent-root c.heap r roots s (is_bridge b)) l)
    (λ s k to l f z.
    let was : LiesIn c.heap r s = label_before c.heap cells.heap s (Region r) (w.shrinks.fewer s) l in
    live to (λ y. within s l (spent-back c.heap r roots s k to was f y)) z)
    (λ m s l. w.counts s l)
    (λ s l n. elim (w.shrinks.fewer s) [
      | inl q ↦ absurd (n counting (ap (option_map (λ (b : Body). b.label)) q ∙ l))
      | inr q ↦ w.unmarked s (w.freed s l q)
    ])
