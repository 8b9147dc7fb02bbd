-- The members of a region get another label (docs/architecture.md, "Freeze and merge").
use Rattle.std.proofs.Common.{◌≡◌, ℕ, List, length, get_or, subst, arith}
use Rattle.rg_base.specs.declared.object.Label.{Label}
use Rattle.rg_base.specs.declared.object.Label.TheVariants.{Region}
use Rattle.rg_cells.specs.Table.{Heap, Table}
use Rattle.rg_regions.specs.Reach.{LiesIn}
use Rattle.rg_regions.specs.Grove.{Members}
use Rattle.rg_regions.specs.Chains.{OwnsOnce}
use Rattle.rg_regions.specs.Same.{IsSameCell, AllHeld, AllDiffer}
use Rattle.rg_regions.proofs.Callers.Told.{labelled_held}
use Rattle.rg_regions.proofs.Callers.HandedOver.{member_place}
use Rattle.rg_move.specs.Frozen.{IsLabelled}
use Rattle.rg_move.specs.Inner.Labels.{LabelledFirst}

-- the members of a region are held, and they differ
pub members_held : (h : Heap) (r : ℕ) (members : List ℕ) → OwnsOnce h r members → AllHeld h members
members_held h r members o = λ j l. labelled_held h (get_or members j 0) (Region r) (o.lie j l)

pub members_differ : (h : Heap) (r : ℕ) (members : List ℕ) → OwnsOnce h r members → AllDiffer members
members_differ h r members o = λ i j l n q. let z : i ≡ j = o.once i j (omega arith) n q in omega (arith, z, l)

-- the cells of a region are its members
pub members_labelled : (l : Label) (c : Table) (r : ℕ) (members : List ℕ) (cells : Table) → Members c.heap r members
    → LabelledFirst l c members (length members) cells → (s : ℕ) → LiesIn c.heap r s → IsLabelled l c cells s
members_labelled l c r members cells m f s i =
    let p = member_place c.heap r members m s i in
    let P : ℕ → Type 0 = λ v. IsLabelled l c cells v in
    subst P p.2 (f.done p.0 p.1)

pub others_kept : (l : Label) (c : Table) (r : ℕ) (members : List ℕ) (cells : Table) → OwnsOnce c.heap r members
    → LabelledFirst l c members (length members) cells → (s : ℕ) → (LiesIn c.heap r s → ⊥) → IsSameCell c cells s
others_kept l c r members cells o f s n = f.others s (λ j m q. let P : ℕ
    → Type 0 = λ v. LiesIn c.heap r v in n (subst P q (o.lie j m)))
