-- An object is found by its serial among the cells of a region and the temporaries of a window (docs/architecture.md, "The heap").
use Rattle.std.proofs.Common.{◌≡◌, ℕ, List, Some, sym, subst, inl, inr, option_map, slice_get}
use Rattle.rg_cells.specs.Table.{HasSerial, Table}
use Rattle.rg_regions.specs.Table.{Record, RegionTable, HasNumber, IsKey, record_at}
use Rattle.rg_regions.specs.Reach.{LiesIn}
use Rattle.rg_regions.specs.Grove.{Grove}
use Rattle.rg_regions.specs.Collection.{AllHeld}
use Rattle.rg_regions.proofs.Callers.Told.{lies_held, record_of_key, same_members, same_number}
use Rattle.rg_frames.specs.declared.rows.Window.{Window}
use Rattle.rg_frames.specs.Stack.{Stack, IsTop}
use Rattle.rg_heap.specs.Ends.{top_temps}
use Rattle.rg_heap.specs.Gives.{IsNear}
use Rattle.rg_heap.proofs.Readers.{one_top}

-- the members that were read are cells
pub members_held : (c : Table) (t : RegionTable) (key : ℕ) (members : List ℕ) → Grove c t → IsKey t key
    → option_map (λ (r : Record). r.members) (record_at t key) ≡ Some members → AllHeld c.heap members
members_held c t key members g k e i s x =
    let r = record_of_key t key k in
    let same = same_members (record_at t key) r.0 members r.1 e in
    let P : List ℕ → Type 0 = λ ms. slice_get ms i ≡ Some s in
    lies_held c.heap r.0.number s ((g.members key r.0 r.1).lie i s (subst P (sym same) x))

-- no cell among some
abbrev pub HasNone : Table → List ℕ → (serial : ℕ) → Type 0
HasNone c slots serial = (i s : ℕ) → slice_get slots i ≡ Some s → HasSerial c.heap s serial → ⊥

-- what is neither among the members nor among the temporaries isn't near
pub not_near : (c : Table) (t : RegionTable) (v : Stack) (top : Window) (members temps : List ℕ) (serial : ℕ) → Grove c t → IsTop v top
    → IsKey t top.region → option_map (λ (r : Record). r.members) (record_at t top.region) ≡ Some members → temps ≡ top_temps v
    → HasNone c members serial → HasNone c temps serial
    → (s : ℕ) → HasSerial c.heap s serial → IsNear (record { cells = c; regions = t }) v s → ⊥
not_near c t v top members temps serial g is k e same none none_temp s has near = elim near [
  | inl a ↦
      let r = record_of_key t top.region k in
      let W : Window → Type 0 = λ w. HasNumber t w.region a.1 in
      let number = same_number (record_at t top.region) r.0 a.1 r.1 (subst W (one_top v a.0 top a.2 is) a.3) in
      let P : ℕ → Type 0 = λ n. LiesIn c.heap n s in
      let x = (g.members top.region r.0 r.1).all s (subst P (sym number) a.4) in
      let M : List ℕ → Type 0 = λ ms. slice_get ms x.0 ≡ Some s in
      none x.0 s (subst M (same_members (record_at t top.region) r.0 members r.1 e) x.1) has
  | inr u ↦
      let M : List ℕ → Type 0 = λ ms. slice_get ms u.0 ≡ Some s in
      none_temp u.0 s (subst M (sym same) u.1) has
]
