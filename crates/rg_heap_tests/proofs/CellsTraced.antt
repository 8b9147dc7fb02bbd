-- Cells that come into a region of mark and sweep, as a test builds them (docs/architecture.md, "Tests").
use Rattle.std.proofs.Common.{◌≡◌, ℕ, ◌<◌, ◌≤◌, zero, suc, List, [], ◌∷◌, ◌++◌, Some, None, refl, ap, sym}
use Rattle.std.proofs.Common.{◌∙◌}
use Rattle.std.proofs.Common.{subst, arith, inl, inr, slice_get}
use Rattle.std.proofs.lemmas.Option.{same_Some}
use Rattle.rg_base.specs.declared.object.Label.TheVariants.{Region}
use Rattle.rg_base.specs.declared.words.Manager.TheVariants.{Count, Trace}
use Rattle.rg_base.specs.declared.value.Word.{Word}
use Rattle.rg_base.specs.declared.value.Word.TheVariants.{Slot}
use Rattle.rg_cells.specs.declared.cell.Body.{Body}
use Rattle.rg_cells.specs.Table.{Table, Made, body_at}
use Rattle.rg_regions.specs.Table.{Record, RegionTable, record_at, HasNumber, changed, with_room, with_member}
use Rattle.rg_regions.specs.Reach.{LiesIn}
use Rattle.rg_regions.specs.Grove.{Grove}
use Rattle.rg_regions.proofs.Callers.Told.{one_number, number_of}
use Rattle.rg_regions.proofs.Callers.Changed.{changed_at, changed_other}
use Rattle.rg_regions.proofs.Callers.CellComes.{CellComes, grove_cell, comes_in, near, one_more}
use Rattle.rg_heap_tests.specs.Traced.{InTraced, AllTraced}

pub only_word : (w v : Word) (k : ℕ) → slice_get (w ∷ []) k ≡ Some v → w ≡ v
only_word w v zero e = same_Some w v e
only_word w v (suc k) e = cc

-- the steps by which a cell comes
module _ (c c2 : Table) (t t1 t2 : RegionTable) (key slot number room : ℕ) (w : Word) (rec : Record)
    (at : record_at t key ≡ Some rec)
    (traced : rec.manager ≡ Trace) (n : HasNumber t key number) (e1 : t1 ≡ changed t key (with_room room)) where
  at_room : record_at t1 key ≡ Some (with_room room rec)
  at_room = ap (λ z. record_at z key) e1 ∙ changed_at t key rec (with_room room) at

  pub cell_room : 1 ≤ room → (r : Record) × (record_at t1 key ≡ Some r) × (0 < r.room)
  cell_room l = (with_room room rec, at_room, omega (arith, l))

  module _ (b : Body) (e2 : t2 ≡ changed t1 key (with_member slot)) (vacant : body_at c.heap slot ≡ None)
      (made : Made c c2 slot b)
      (label : b.label ≡ Region number) (fields : b.fields ≡ w ∷ [])
      (leads : (s : ℕ) → w ≡ Slot s → InTraced c t key s) (g : Grove c t) where
    comes : CellComes c t c2 t2 key slot rec (with_member slot (with_room room rec)) b
    comes = record {
      vacant = vacant;
      made = made;
      there = at;
      is = ap (λ z. record_at z key) e2 ∙ changed_at t1 key (with_room room rec) (with_member slot) at_room;
      number = refl;
      manager = refl;
      bridge = refl;
      members = refl;
      others = λ k d.
          ap (λ z. record_at z k) e2 ∙ changed_other t1 key (with_member slot) k d
          ∙ ap (λ z. record_at z k) e1 ∙ changed_other t key (with_room room) k d;
      uncounted = λ q. let z : Trace ≡ Count = sym traced ∙ q in cc;
      label = label ∙ ap Region (one_number t key number rec.number n (number_of t key rec.number rec at refl));
      leads = λ k to f.
          let l = leads to (only_word w (Slot to) k (sym (ap (λ ws. slice_get ws k) fields) ∙ f)) in
          let R : Record → Type 0 = λ z. LiesIn c.heap z.number to in
          subst R (same_Some l.0 rec (sym l.1 ∙ at)) l.3;
    }

    pub cell_grove : Grove c2 t2
    cell_grove = grove_cell c t c2 t2 key slot rec (with_member slot (with_room room rec)) b g comes

    pub cell_in : InTraced c2 t2 key slot
    cell_in = (
      with_member slot (with_room room rec),
      comes.is,
      traced,
      comes_in c t c2 t2 key slot rec (with_member slot (with_room room rec)) b g comes,
    )

    pub cells_stay : (s : ℕ) → InTraced c t key s → InTraced c2 t2 key s
    cells_stay s l =
        let R : Record → Type 0 = λ z. LiesIn c.heap z.number s in
        let i : LiesIn c.heap rec.number s = subst R (same_Some l.0 rec (sym l.1 ∙ at)) l.3 in (
          with_member slot (with_room room rec),
          comes.is,
          traced,
          (near c t c2 t2 key slot rec (with_member slot (with_room room rec)) b g comes).label_on s (Region rec.number) i,
        )

-- a cell more lies in the region
pub all_more : (c c2 : Table) (t t2 : RegionTable) (key : ℕ) (slots now : List ℕ) (slot : ℕ) → AllTraced c t key slots
    → ((s : ℕ) → InTraced c t key s → InTraced c2 t2 key s) → InTraced c2 t2 key slot → now ≡ slots ++ slot ∷ []
    → AllTraced c2 t2 key now
all_more c c2 t t2 key slots now slot all stay new is = λ i s e.
    let G : List ℕ → Type 0 = λ z. slice_get z i ≡ Some s in
    elim (one_more slots slot i s (subst G is e)) [
      | inl a ↦ stay s (all i s a)
      | inr a ↦ let P : ℕ → Type 0 = λ z. InTraced c2 t2 key z in subst P (sym a.1) new
    ]
