-- A collection keeps the forest (docs/architecture.md, "Mark and sweep").
use Rattle.std.proofs.Common.{◌≡◌, ℕ, List, Some, ap, sym, ◌∙◌, arith, option_map}
use Rattle.rg_base.specs.declared.words.Manager.TheVariants.{Count, Trace}
use Rattle.rg_base.specs.declared.value.Word.{Word}
use Rattle.rg_cells.specs.declared.cell.Body.{Body}
use Rattle.rg_cells.specs.Table.{Table}
use Rattle.rg_regions.specs.Table.{Record, RegionTable, record_at}
use Rattle.rg_regions.specs.Reach.{LiesIn, Reach, is_bridge}
use Rattle.rg_regions.specs.Grove.{Grove}
use Rattle.rg_regions.specs.Collection.{roots_of}
use Rattle.rg_regions.proofs.Callers.OneShrinks.{grove_shrinks}
use Rattle.rg_trace.specs.Collected.{Collected}

-- the bridge is a root, and what is in reach leads to what is in reach
pub grove-kept : (c : Table) (t : RegionTable) (key : ℕ) (rec : Record) (slots : List Word) (temps : List ℕ)
    (cells : Table)
    (regions : RegionTable) → Grove c t → record_at t key ≡ Some rec → rec.manager ≡ Trace
    → Collected c t key rec (roots_of rec.bridge slots temps) cells regions → Grove cells regions
grove-kept c t key rec slots temps cells regions g e traced w =
    let live : (s : ℕ) → Reach c.heap rec.number (roots_of rec.bridge slots temps) s → LiesIn c.heap rec.number s
    → LiesIn cells.heap rec.number s = λ s n l. ap (option_map (λ (b : Body). b.label)) (w.kept s n) ∙ l in
    grove_shrinks c t key rec cells regions g e w.shrinks
    (λ s b l. live s (0, omega arith, (l, is_bridge b)) l)
    (λ s k to l f z. live to (w.closed s k to (w.within s l) f z) z)
    (λ m s l. let v : Trace ≡ Count = sym traced ∙ m in cc)
    (λ s l n. w.unmarked s l)
