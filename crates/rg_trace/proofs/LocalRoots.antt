-- Why the roots of the top window suffice: behind a collection every reference still leads to a held cell
-- (docs/architecture.md, "Mark and sweep"). A law for readers: of it rg_copy cites only where references may lead.
use Rattle.std.proofs.Common.{◌≡◌, ℕ, List, Option, Some, None, IsSome, refl, ap, sym, ◌∙◌, subst, arith, ◌⊎◌}
use Rattle.std.proofs.Common.{inl, inr, option_map}
use Rattle.std.proofs.Common.{slice_get}
use Rattle.std.proofs.lemmas.Bool.{cases_eq}
use Rattle.std.proofs.lemmas.Option.{same_Some}
use Rattle.rg_base.specs.declared.object.Label.{Label}
use Rattle.rg_base.specs.declared.object.Label.TheVariants.{Region, Temp, Frozen}
use Rattle.rg_cells.specs.declared.cell.Body.{Body}
use Rattle.rg_base.specs.declared.value.Word.{Word}
use Rattle.rg_base.specs.declared.value.Word.TheVariants.{Slot}
use Rattle.rg_base.proofs.Callers.Labels.{region-same}
use Rattle.rg_cells.specs.Table.{Heap, Table, IsHeld, body_at, label_at, field_at}
use Rattle.rg_regions.specs.Table.{Record, RegionTable, record_at, HasNumber}
use Rattle.rg_regions.specs.Reach.{LiesIn, Roots, Reach, is_bridge, in_slots, in_temps}
use Rattle.rg_regions.specs.Grove.{Grove}
use Rattle.rg_trace.specs.Collected.{Collected}
use Rattle.rg_regions.proofs.Callers.Told.{lies_or_not}
use Rattle.rg_regions.proofs.Callers.Fewer.{field_before}

-- What type preservation gives of the frames: outside the top window, what leads into its region leads to the bridge.
pub record Local (h : Heap) (r : ℕ) (bridge : Option ℕ) (lower : List Word) (temps : List ℕ) : Type 0 where
  pub slots : (k x : ℕ) → slice_get lower k ≡ Some (Slot x) → LiesIn h r x → bridge ≡ Some x
  pub fields : (s n k x : ℕ) → label_at h s ≡ Some (Temp n) → field_at h s k ≡ Some (Slot x) → LiesIn h r x →
      ((i : ℕ) × (slice_get temps i ≡ Some s)) ⊎ (bridge ≡ Some x)

-- a held cell that is in reach, where it lies in the region, is still held
survives : (c : Table) (t : RegionTable) (key : ℕ) (rec : Record) (roots : Roots) (cells : Table)
    (regions : RegionTable)
    → Collected c t key rec roots cells regions → (x : ℕ) → IsHeld c.heap x
    → (LiesIn c.heap rec.number x → Reach c.heap rec.number roots x)
    → IsHeld cells.heap x
survives c t key rec roots cells regions w x h near =
    let P : Option Body → Type 0 = λ o. IsSome o in
    elim (lies_or_not c.heap rec.number x) [
      | inl out ↦ subst P (sym (w.shrinks.others x out).0) h
      | inr l ↦ subst P (sym (w.kept x (near l))) h
    ]

-- the cells to which fields and slots lead are held behind the collection, where they were before
pub local-roots : (c : Table) (t : RegionTable) (key : ℕ) (rec : Record) (slots lower : List Word) (temps : List ℕ)
    (cells : Table)
    (regions : RegionTable) → Grove c t → record_at t key ≡ Some rec → Local c.heap rec.number rec.bridge lower temps →
    ((s k x : ℕ) → field_at c.heap s k ≡ Some (Slot x) → IsHeld c.heap x) →
    Collected c t key rec (record { bridge = rec.bridge; slots = slots; temps = temps }) cells regions →
    ((s k x : ℕ) → field_at cells.heap s k ≡ Some (Slot x) → IsHeld cells.heap x)
    × ((k x : ℕ) → slice_get slots k ≡ Some (Slot x) → IsHeld c.heap x → IsHeld cells.heap x)
    × ((k x : ℕ) → slice_get lower k ≡ Some (Slot x) → IsHeld c.heap x → IsHeld cells.heap x)
local-roots c t key rec slots lower temps cells regions g e local held w =
    let roots : Roots = record { bridge = rec.bridge; slots = slots; temps = temps } in
    let r = rec.number in
    let safe = survives c t key rec roots cells regions w in
    let by_bridge : (x : ℕ) → LiesIn c.heap r x → rec.bridge ≡ Some x
    → Reach c.heap r roots x = λ x l b. (0, omega arith, (l, is_bridge b)) in
    let near : (s k x : ℕ) (l : Option Label) → label_at c.heap s ≡ l → label_at cells.heap s ≡ l
    → field_at c.heap s k ≡ Some (Slot x)
    → LiesIn c.heap r x → Reach c.heap r roots x = λ s k x l. elim l as
    (λ l. label_at c.heap s ≡ l → label_at cells.heap s ≡ l → field_at c.heap s k ≡ Some (Slot x) → LiesIn c.heap r x
    → Reach c.heap r roots x) [
      | None ↦ λ a b f i. absurd (none_has c.heap s k (Slot x) a f)
      | Some m ↦ elim m as (λ m. label_at c.heap s ≡ Some m → label_at cells.heap s ≡ Some m
          → field_at c.heap s k ≡ Some (Slot x)
          → LiesIn c.heap r x → Reach c.heap r roots x) [
            | Region q ↦ λ a b f i. elim (cases_eq q r) [
              | inl p ↦ let L : ℕ → Type 0 = λ n. LiesIn cells.heap n s in w.closed s k x (w.within s (subst L p b)) f i
              | inr d ↦ elim (g.fields q s k x a f) [
                | inl z ↦ let v : Some Frozen ≡ Some (Region r) = sym z ∙ i in cc
                | inr y ↦ elim y [
                  | inl z ↦ absurd (d (region-same q r (sym z ∙ i)))
                  | inr z ↦
                      let p : z.0 ≡ r = region-same z.0 r (sym z.2 ∙ i) in
                      let v = z.3 in
                      let a2 : HasNumber t v.0 r = ap (option_map (λ (y : Record). y.number)) v.2 ∙ ap Some (v.3 ∙ p) in
                      let a3 : HasNumber t key r = ap (option_map (λ (y : Record). y.number)) e in
                      let k2 : v.0 ≡ key = g.numbers v.0 key r a2 a3 in
                      let same : v.1 ≡ rec = same_Some v.1 rec (sym v.2 ∙ ap (record_at t) k2 ∙ e) in
                      by_bridge x i (sym (ap (λ (y : Record). y.bridge) same) ∙ v.4)
                ]
              ]
            ]
            | Temp n ↦ λ a b f i. elim (local.fields s n k x a f i) [
              | inl z ↦ (0, omega arith, (i, in_temps z.0 k s z.1 f))
              | inr z ↦ by_bridge x i z
            ]
            | Frozen ↦ λ a b f i. let v : Some Frozen ≡ Some (Region r) = sym (g.frozen s k x a f) ∙ i in cc
          ]
    ] in (
      (λ s k x f.
          let f0 = field_before c.heap cells.heap s k (Slot x) (w.shrinks.fewer s) f in
          let same : label_at cells.heap s ≡ label_at c.heap s = elim (w.shrinks.fewer s) [
            | inl q ↦ ap (option_map (λ (b : Body). b.label)) q
            | inr q ↦ absurd (none_has cells.heap s k (Slot x) (ap (option_map (λ (b : Body). b.label)) q) f)
          ] in
          safe x (held s k x f0) (λ i. near s k x (label_at c.heap s) refl same f0 i)),
      (λ k x f h. safe x h (λ i. (0, omega arith, (i, in_slots k f)))),
      (λ k x f h. safe x h (λ i. by_bridge x i (local.slots k x f i))),
    )
  where
    none_has : (h : Heap) (s k : ℕ) (v : Word) → label_at h s ≡ None → field_at h s k ≡ Some v → ⊥
    none_has h s k v a f = by_body (body_at h s) a f
      where
        by_body : (b : Option Body) → option_map (λ (b : Body). b.label) b ≡ None
            → Rattle.std.proofs.Common.option_and_then (λ (b : Body). slice_get b.fields k) b ≡ Some v → ⊥
        by_body None a f = cc
        by_body (Some b) a f = cc
