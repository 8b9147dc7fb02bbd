-- What the readers of the heap answer (docs/architecture.md, "The heap").
use Rattle.std.proofs.Common.{◌≡◌, ℕ, zero, suc, ◌+◌, ◌-◌, ◌≤◌, List, [], ◌∷◌, ◌++◌, Option, Some, None, IsSome, refl, ap, sym, ◌∙◌, subst, arith}
use Rattle.std.proofs.Common.{length, option_map, ◌<◌, ◌≢◌, inl, inr}
use Rattle.std.proofs.lemmas.Bool.{cases_eq}
use Rattle.std.proofs.Common.{option_and_then, slice_get, take, map, add-one}
use Rattle.std.proofs.lemmas.Option.{same_Some}
use Rattle.rg_base.specs.declared.words.Manager.{Manager}
use Rattle.rg_base.specs.declared.object.Label.{Label}
use Rattle.rg_base.specs.declared.object.Label.TheVariants.{Region, Temp, Frozen}
use Rattle.rg_cells.specs.declared.cell.Body.{Body}
use Rattle.rg_base.specs.declared.value.Val.{Val}
use Rattle.rg_base.specs.declared.value.Word.{Word}
use Rattle.rg_base.specs.declared.value.Word.TheVariants.{Slot}
use Rattle.rg_base.proofs.Callers.Labels.{slot-same}
use Rattle.rg_regions.specs.Grove.{Grove}
use Rattle.rg_regions.specs.Reach.{LiesIn}
use Rattle.rg_regions.proofs.Callers.Told.{led_held, labelled_held, one_region}
use Rattle.rg_cells.specs.Table.{Heap, Table, IsHeld, HasSerial, body_at, label_at, total, one, one_frozen, one_frozen_by, body_in, held_count}
use Rattle.rg_cells.specs.Table.{frozen_count}
use Rattle.rg_regions.specs.Table.{Record, RegionTable, record_at, HasNumber}
use Rattle.rg_frames.specs.declared.rows.Window.{Window}
use Rattle.rg_frames.specs.Stack.{Stack, IsTop}
use Rattle.rg_heap.specs.Parts.{Parts}
use Rattle.rg_heap.specs.Answers.{AllLead, IsClosed}
use Rattle.rg_heap.specs.Reads.{Tells, LeadsIntoClosed, fields_of}
use Rattle.rg_heap.proofs.Callers.Opens.{open_not_closed}

-- one window is on top
pub one_top : (v : Stack) (a b : Window) → IsTop v a → IsTop v b → a ≡ b
one_top v a b p q = same_Some a b (sym p ∙ q)

-- a word into the top window's region leads into no closed one
pub active_not_closed : (p : Parts) (v : Stack) (at : Word) (slot n : ℕ) (w : Window) → Grove p.cells p.regions → at ≡ Slot slot
    → LiesIn p.cells.heap n slot → IsTop v w → HasNumber p.regions w.region n → LeadsIntoClosed p v at → ⊥
active_not_closed p v at slot n w g is lies top has closed =
    let same : closed.1 ≡ slot = slot-same closed.1 slot (sym closed.2 ∙ is) in
    let here : LiesIn p.cells.heap n closed.1 = subst (λ s. LiesIn p.cells.heap n s) (sym same) lies in
    let number : closed.0 ≡ n = one_region p.cells.heap closed.1 closed.0 n closed.3 here in
    open_not_closed p v (length v.windows - 1) n w g top has (subst (λ q. IsClosed p.regions v q) number closed.4)

-- what is read of a region's record
pub tells : (t : RegionTable) (key n : ℕ) (m : Manager) (members : List ℕ) → HasNumber t key n
    → option_map (λ (r : Record). r.manager) (record_at t key) ≡ Some m
    → option_map (λ (r : Record). r.members) (record_at t key) ≡ Some members
    → Tells t key (record { region = n; manager = m; held = length members })
tells t key n m members a b d r e = (
  same_Some n r.number (sym a ∙ ap (option_map (λ (r : Record). r.number)) e),
  same_Some m r.manager (sym b ∙ ap (option_map (λ (r : Record). r.manager)) e),
  ap length (same_Some members r.members (sym d ∙ ap (option_map (λ (r : Record). r.members)) e)),
)

-- no more cells are frozen than are held
pub frozen_held : (h : Heap) → frozen_count h ≤ held_count h
frozen_held h = by_slots h.slots
  where
    by_label : (l : Label) → one_frozen_by l ≤ 1
    by_label (Region r) = omega arith
    by_label (Temp n) = omega arith
    by_label Frozen = omega arith

    by_body : (b : Option Body) → one_frozen b ≤ one b
    by_body None = omega arith
    by_body (Some b) = by_label b.label

    by_slots : (xs : List (Option (Option Body))) → total one_frozen xs ≤ total one xs
    by_slots [] = omega arith
    by_slots (x ∷ xs) = omega (arith, by_body (body_in x), by_slots xs)

-- one value more is shown
pub shown_more : (f : Word → Val) (ws : List Word) (k : ℕ) (w : Word) → slice_get ws k ≡ Some w
    → map f (take k ws) ++ f w ∷ [] ≡ map f (take (k + 1) ws)
shown_more f ws k w e = rw (add-one k) (by_place ws k e)
  where
    by_place : (ws : List Word) (k : ℕ) → slice_get ws k ≡ Some w → map f (take k ws) ++ f w ∷ [] ≡ map f (take (suc k) ws)
    by_place [] k e = cc
    by_place (x ∷ ws) zero e = ap (λ y. f y ∷ []) (sym (same_Some x w e))
    by_place (x ∷ ws) (suc k) e = ap (λ ys. f x ∷ ys) (by_place ws k e)

pub field_read : (b : Option Body) (k : ℕ) (w : Word) → option_and_then (λ (b : Body). slice_get b.fields k) b ≡ Some w
    → slice_get (fields_of b) k ≡ Some w
field_read None k w e = cc
field_read (Some b) k w e = e

pub serial_held : (h : Heap) (s serial : ℕ) → HasSerial h s serial → IsHeld h s
serial_held h s serial a = let P : Option Body → Type 0 = λ o. IsSome o in subst P (sym a.1) refl

-- the serial that was read is that of the cell
pub serial_read : (h : Heap) (s n m : ℕ) → option_map (λ (b : Body). b.serial) (body_at h s) ≡ Some n → HasSerial h s m → n ≡ m
serial_read h s n m e a = same_Some n a.0.serial (sym e ∙ ap (option_map (λ (b : Body). b.serial)) a.1) ∙ a.2

pub serial_has : (h : Heap) (s n : ℕ) → option_map (λ (b : Body). b.serial) (body_at h s) ≡ Some n → HasSerial h s n
serial_has h s n e = by_body (body_at h s) refl e
  where
    by_body : (b : Option Body) → body_at h s ≡ b → option_map (λ (b : Body). b.serial) b ≡ Some n → HasSerial h s n
    by_body None i e = cc
    by_body (Some b) i e = (b, i, same_Some b.serial n e)

-- one cell more has another serial
pub none_more : (h : Heap) (slots : List ℕ) (i serial n x : ℕ) → slice_get slots i ≡ Some x
    → option_map (λ (b : Body). b.serial) (body_at h x) ≡ Some n → n ≢ serial
    → ((j s : ℕ) → j < i → slice_get slots j ≡ Some s → HasSerial h s serial → ⊥)
    → (j s : ℕ) → j < i + 1 → slice_get slots j ≡ Some s → HasSerial h s serial → ⊥
none_more h slots i serial n x is read other before j s l e a = elim (cases_eq j i) [
  | inl q ↦
      let P : ℕ → Type 0 = λ k. slice_get slots k ≡ Some s in
      let same : s ≡ x = same_Some s x (sym (subst P q e) ∙ is) in
      let H : ℕ → Type 0 = λ z. HasSerial h z serial in
      other (serial_read h x n serial read (subst H same a))
  | inr d ↦ before j s (omega (arith, l, d)) e a
]

-- what held cells lead to is held, if it is so of temporaries
pub all_lead : (c : Table) (t : RegionTable) → Grove c t → ((s n : ℕ) → label_at c.heap s ≡ Some (Temp n) → AllLead c.heap s)
    → (s : ℕ) → IsHeld c.heap s → AllLead c.heap s
all_lead c t g temps s held = by_body (body_at c.heap s) refl held
  where
    by_label : (l : Label) → label_at c.heap s ≡ Some l → AllLead c.heap s
    by_label (Region r) e = λ k to f. led_held c t g r s k to e f
    by_label (Temp n) e = temps s n e
    by_label Frozen e = λ k to f. labelled_held c.heap to Frozen (g.frozen s k to e f)

    by_body : (b : Option Body) → body_at c.heap s ≡ b → IsSome b → AllLead c.heap s
    by_body None e h = cc
    by_body (Some b) e h = by_label b.label (ap (option_map (λ (b : Body). b.label)) e)
