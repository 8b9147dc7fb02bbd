-- The numbers kept beside the table and the serials, after each change of the table.
use Rattle.std.proofs.Common.{◌≡◌, ℕ, ◌+◌, ◌-◌, ◌^◌, ◌<◌, ◌≤◌, Bool, true, false, length, Option, Some, None, set, refl, ap, subst, sym, ◌∙◌, arith}
use Rattle.std.specs.Prelude.{option_map}
use Rattle.std.proofs.lemmas.List.{length-set}
use Rattle.std.proofs.lemmas.Option.{same_Some}
use Rattle.rg_base.specs.declared.object.Label.{Label}
use Rattle.rg_base.specs.declared.value.Word.{Word}
use Rattle.rg_cells.specs.declared.cell.Body.{Body}
use Rattle.rg_cells.specs.Table.{Heap, Table, body_at, label_at, IsHeld, with_body, with_field, with_label, freed, one_frozen, one_frozen_by, width}
use Rattle.rg_cells.specs.Table.{Serials, IsNewest, Made, Takes, exchanged, held_count}
use Rattle.rg_cells.specs.Replacing.{ReplacesPlain}
use Rattle.rg_cells.specs.Inner.Counts.{Counts}
use Rattle.rg_cells.proofs.Counted.{counts-put, counts-freed, counts-made, icy-le, wide-le, frozen-le}
use Rattle.rg_cells.proofs.SerialsKept.{serials-put, serials-freed, serials-made, serials-cancelled}
use Rattle.rg_cells.proofs.Exchanged.{total_exchanged, serials_exchanged}

-- what always holds beside the table
abbrev pub Kept : Heap → ℕ → ℕ → Type 0
Kept h frozen words = Counts h frozen words × Serials h

-- a field is written
pub kept-field : (h : Heap) (slot k frozen words : ℕ) (w : Word) → Kept h frozen words → Kept (with_field h slot k w) frozen words
kept-field h slot k frozen words w q = by_body (body_at h slot) refl
  where
    by_body : (o : Option Body) → body_at h slot ≡ o
        → Kept (elim o [ None ↦ h | Some b ↦ with_body h slot (record b { fields = set b.fields k w }) ]) frozen words
    by_body None e = q
    by_body (Some b) e =
        let d : Body = record b { fields = set b.fields k w } in
        (counts-put h slot frozen words frozen b d e (length-set b.fields k w) refl q.0, serials-put h slot b d e refl q.1)

-- or nothing is
pub kept-replaced : (r : Bool) (t u : Table) (slot k frozen words : ℕ) (w : Word) → ReplacesPlain r t u slot k w → Kept t.heap frozen words
    → Kept u.heap frozen words
kept-replaced true t u slot k frozen words w p q =
    let P : Table → Type 0 = λ z. Kept z.heap frozen words in subst P (sym p.3) (kept-field t.heap slot k frozen words w q)
kept-replaced false t u slot k frozen words w p q = let P : Table → Type 0 = λ z. Kept z.heap frozen words in subst P (sym p) q

-- the body of a slot with that label
pub labelled-body : (h : Heap) (slot : ℕ) (l : Label) → label_at h slot ≡ Some l → (b : Body) × (body_at h slot ≡ Some b) × (b.label ≡ l)
labelled-body h slot l e = by_body (body_at h slot) e
  where
    by_body : (o : Option Body) → option_map (λ (b : Body). b.label) o ≡ Some l → (b : Body) × (o ≡ Some b) × (b.label ≡ l)
    by_body None e = let no : None ≡ Some l = e in cc
    by_body (Some b) e = (b, refl, same_Some b.label l e)

-- what its cell counts among all
pub counted-label : (h : Heap) (slot frozen words : ℕ) (l : Label) → label_at h slot ≡ Some l → Counts h frozen words → one_frozen_by l ≤ frozen
counted-label h slot frozen words l e c =
    let b = labelled-body h slot l e in
    let le = icy-le h slot b.0 b.1 in
    let same : one_frozen_by b.0.label ≡ one_frozen_by l = ap one_frozen_by b.2 in
    omega (arith, le, same, c.frozen_is)

pub counted-width : (h : Heap) (slot frozen words : ℕ) (l : Label) → label_at h slot ≡ Some l → Counts h frozen words
    → width (body_at h slot) ≤ words
counted-width h slot frozen words l e c =
    let b = labelled-body h slot l e in
    let le = wide-le h slot b.0 b.1 in
    let same : width (body_at h slot) ≡ length b.0.fields = ap width b.1 in
    omega (arith, le, same, c.words_is)

-- a label is written
pub kept-label : (h : Heap) (slot frozen words : ℕ) (l old : Label) → label_at h slot ≡ Some old → Kept h frozen words
    → Kept (with_label h slot l) (frozen - one_frozen_by old + one_frozen_by l) words
kept-label h slot frozen words l old e q =
    let b = labelled-body h slot old e in
    let d : Body = record b.0 { label = l } in
    let icy : ℕ = frozen - one_frozen_by old + one_frozen_by l in
    let le = counted-label h slot frozen words old e q.0 in
    let same : one_frozen_by b.0.label ≡ one_frozen_by old = ap one_frozen_by b.2 in
    let is : with_label h slot l ≡ with_body h slot d =
    ap (λ (o : Option Body). elim o [ None ↦ h | Some x ↦ with_body h slot (record x { label = l }) ]) b.1 in
    let P : Heap → Type 0 = λ g. Kept g icy words in
    subst P (sym is) (
      counts-put h slot frozen words icy b.0 d b.1 refl (omega (arith, le, same)) q.0,
      serials-put h slot b.0 d b.1 refl q.1,
    )

-- a cell is freed
pub kept-freed : (h : Heap) (slot frozen words : ℕ) (l : Label) → label_at h slot ≡ Some l → Kept h frozen words
    → Kept (freed h slot) (frozen - one_frozen_by l) (words - width (body_at h slot))
kept-freed h slot frozen words l e q =
    let b = labelled-body h slot l e in
    let icy : one_frozen_by b.0.label ≡ one_frozen_by l = ap one_frozen_by b.2 in
    let wide : length b.0.fields ≡ width (body_at h slot) = sym (ap width b.1) in
    let P : ℕ → ℕ → Type 0 = λ x y. Counts (freed h slot) (frozen - x) (words - y) in (
      subst (P (one_frozen_by l)) wide
          (subst (λ (x : ℕ). P x (length b.0.fields)) icy (counts-freed h slot frozen words b.0 b.1 q.0)),
      serials-freed h slot q.1,
    )

-- a cell is made
pub kept-made : (t u : Table) (slot frozen words : ℕ) (b : Body) → Takes t.heap slot → Made t u slot b → b.serial ≡ t.heap.next
    → u.heap.next ≡ t.heap.next + 1 → words + length b.fields < 2 ^ 64 - 1 → Kept t.heap frozen words
    → Kept u.heap (frozen + one_frozen_by b.label) (words + length b.fields)
kept-made t u slot frozen words b takes made serial next few q = (
  counts-made t.heap u.heap slot frozen words b takes.vacant made.body made.others few q.0,
  serials-made t.heap u.heap slot b serial next made.body made.others q.1,
)

-- the frozen cells are among those held
pub frozen-held : (h : Heap) (frozen words : ℕ) → Counts h frozen words → frozen ≤ held_count h
frozen-held h frozen words c = let le = frozen-le h.slots in omega (arith, le, c.frozen_is)

-- two cells change places
pub kept-exchanged : (t : Table) (a b frozen words : ℕ) → IsHeld t.heap a → IsHeld t.heap b → Kept t.heap frozen words
    → Kept (exchanged t a b).heap frozen words
kept-exchanged t a b frozen words p q k =
    let x = total_exchanged t a b p q one_frozen in
    let y = total_exchanged t a b p q width in (
      record { frozen_is = k.0.frozen_is ∙ sym x; words_is = k.0.words_is ∙ sym y; few = k.0.few },
      serials_exchanged t a b p q k.1,
    )

-- the newest cell is freed, and its serial is the next one again
pub newest-next : (h : Heap) (slot : ℕ) → IsNewest h slot → 0 < h.next
newest-next h slot n = let e = n.2 in omega (arith, e)

pub kept-cancelled : (h g : Heap) (slot frozen words : ℕ) → IsNewest h slot → g ≡ freed h slot → Serials h → Counts g frozen words
    → Kept (record g { next = g.next - 1 }) frozen words
kept-cancelled h g slot frozen words newest same q c =
    let P : Heap → Type 0 = λ z. Serials (record z { next = z.next - 1 }) in
    (record { frozen_is = c.frozen_is; words_is = c.words_is; few = c.few }, subst P (sym same) (serials-cancelled h slot newest q))
