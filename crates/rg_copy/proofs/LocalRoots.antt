-- Why the words of the top window suffice: behind a collection that moves cells every reference still leads to a held
-- cell (docs/architecture.md, "A manager that moves its cells"). A law for readers: no proof cites it.
use Rattle.std.proofs.Common.{◌≡◌, ℕ, ◌<◌, List, length, Option, Some, None, IsSome, refl, ap, sym, ◌∙◌, subst, arith}
use Rattle.std.proofs.Common.{inl, inr, option_map, option_and_then, slice_get, drop, get_or}
use Rattle.std.proofs.lemmas.Option.{slice_get_within, slice_get-get_or, same_Some}
use Rattle.rg_base.specs.declared.object.Label.{Label}
use Rattle.rg_base.specs.declared.object.Label.TheVariants.{Region, Temp, Frozen}
use Rattle.rg_base.specs.declared.value.Word.{Word}
use Rattle.rg_base.specs.declared.value.Word.TheVariants.{Nil, Int, Bool as Truth, Slot}
use Rattle.rg_base.proofs.Callers.Options.{some-there}
use Rattle.rg_base.proofs.Callers.Labels.{slot-same}
use Rattle.rg_cells.specs.declared.cell.Body.{Body}
use Rattle.rg_cells.specs.Table.{Table, IsHeld, body_at, label_at, field_at}
use Rattle.rg_frames.specs.Stack.{Stack}
use Rattle.rg_regions.specs.Table.{Record, RegionTable, record_at, Has, IsBridge}
use Rattle.rg_regions.specs.Reach.{LiesIn, Reach, is_bridge, in_slots, in_temps}
use Rattle.rg_regions.specs.Grove.{Grove}
use Rattle.rg_regions.specs.Collection.{AllHeld}
use Rattle.rg_regions.proofs.Callers.Told.{one_region, lies_or_not, number_of, reach_lies}
use Rattle.rg_regions.proofs.Callers.Shares.{has-cases, has_place, place_has}
use Rattle.rg_trace.proofs.LocalRoots.{Local}
use Rattle.rg_copy.specs.Slid.{Slid, top_roots, top_slots, top_temps, base_of, Becomes, CellBecomes}

held_by : (o : Option Body) (b : Body) → o ≡ Some b → IsSome o
held_by o b e = let P : Option Body → Type 0 = λ x. IsSome x in subst P (sym e) refl

module _ {c : Table} {t : RegionTable} {key : ℕ} {rec : Record} {v : Stack} {cells : Table} {regions : RegionTable}
    {frames : Stack} (g : Grove c t) (e : record_at t key ≡ Some rec)
    (w : Slid c t key rec v cells regions frames) where
  abbrev IsReached : ℕ → Type 0
  IsReached x = Reach c.heap rec.number (top_roots rec v) x

  -- a cell in reach is held where it stands now, and a cell outside of the region where it stood
  pub held-reached : (x : ℕ) → IsReached x → IsHeld cells.heap (w.place x)
  held-reached x n =
      let l = reach_lies c.heap rec.number (top_roots rec v) x n in
      let b = labelled (body_at c.heap x) l in
      let d = w.stands x b.0 n b.1 in
      held_by (body_at cells.heap (w.place x)) d.0 d.1
    where
      labelled : (o : Option Body) → option_map (λ (b : Body). b.label) o ≡ Some (Region rec.number)
          → (b : Body) × (o ≡ Some b)
      labelled None q = cc
      labelled (Some b) q = (b, refl)

  pub held-off : (x : ℕ) → (LiesIn c.heap rec.number x → ⊥) → IsHeld c.heap x → IsHeld cells.heap x
  held-off x off h =
      let b = some-there (body_at c.heap x) h in
      elim (has-cases (top_temps v) x) [
        | inl n ↦ let d = w.temps x b.0 n off b.1 in held_by (body_at cells.heap x) d.0 d.1
        | inr n ↦ held_by (body_at cells.heap x) b.0 (w.others x n off ∙ b.1)
      ]

  pub bridge-in-reach : (x : ℕ) → rec.bridge ≡ Some x → IsReached x
  bridge-in-reach x q = (0, omega arith, (g.bridges key x rec e q, is_bridge q))

  -- a word that leads to a held cell, which is in reach where it lies in the region, leads to a held cell now
  pub becomes-held : (old : Word) (x : ℕ)
      → Becomes c.heap rec.number (top_roots rec v) w.place old (Slot x)
      → ((z : ℕ) → old ≡ Slot z → IsHeld c.heap z) → ((z : ℕ) → old ≡ Slot z → LiesIn c.heap rec.number z → IsReached z)
      → IsHeld cells.heap x
  becomes-held Nil x b held near = let q : Slot x ≡ Nil = b.stays (λ y r n. cc) in cc
  becomes-held (Int i) x b held near = let q : Slot x ≡ Int i = b.stays (λ y r n. cc) in cc
  becomes-held (Truth i) x b held near = let q : Slot x ≡ Truth i = b.stays (λ y r n. cc) in cc
  becomes-held (Slot z) x b held near = elim (lies_or_not c.heap rec.number z) [
    | inl off ↦
        let q : x ≡ z = slot-same x z (b.stays (λ y r n.
        let L : ℕ → Type 0 = λ i. LiesIn c.heap rec.number i in
        off (subst L (sym (slot-same z y r)) (reach_lies c.heap rec.number (top_roots rec v) y n)))) in
        let H : ℕ → Type 0 = λ i. IsHeld cells.heap i in
        subst H (sym q) (held-off z off (held z refl))
    | inr l ↦
        let n = near z refl l in
        let q : x ≡ w.place z = slot-same x (w.place z) (b.moved z refl n) in
        let H : ℕ → Type 0 = λ i. IsHeld cells.heap i in
        subst H (sym q) (held-reached z n)
  ]

  -- a word in front of the window's base, which leads into the region by the bridge alone
  pub lower-held : (x : ℕ) → (LiesIn c.heap rec.number x → rec.bridge ≡ Some x) → IsHeld c.heap x → IsHeld cells.heap x
  lower-held x own h = elim (lies_or_not c.heap rec.number x) [
    | inl off ↦ held-off x off h
    | inr l ↦
        let H : ℕ → Type 0 = λ i. IsHeld cells.heap i in
        subst H (w.bridge x (own l)) (held-reached x (bridge-in-reach x (own l)))
  ]

  -- the top window's slots
  pub slots-held : ((k x : ℕ) → slice_get (top_slots v) k ≡ Some (Slot x) → IsHeld c.heap x)
      → (k x : ℕ) → slice_get (drop (base_of v) frames.slots) k ≡ Some (Slot x) → IsHeld cells.heap x
  slots-held held k x q =
      let l = slice_get_within (drop (base_of v) frames.slots) k (Slot x) q in
      let n : k < length (top_slots v) = omega (arith, l, w.slots.as_many) in
      let old : Word = get_or (top_slots v) k Nil in
      let at : slice_get (top_slots v) k ≡ Some old = slice_get-get_or (top_slots v) k Nil n in
      becomes-held old x (w.slots.each k old (Slot x) at q) (λ z r. held k z (at ∙ ap Some r))
      (λ z r i. (0, omega arith, (i, in_slots k (at ∙ ap Some r))))

  -- fields of a cell that has become another one
  fields-held : (b d : Body) (k x : ℕ) → CellBecomes c.heap rec.number (top_roots rec v) w.place b d
      → slice_get d.fields k ≡ Some (Slot x)
      → ((z : ℕ) → slice_get b.fields k ≡ Some (Slot z) → IsHeld c.heap z)
      → ((z : ℕ) → slice_get b.fields k ≡ Some (Slot z) → LiesIn c.heap rec.number z → IsReached z)
      → IsHeld cells.heap x
  fields-held b d k x a q held near =
      let l = slice_get_within d.fields k (Slot x) q in
      let n : k < length b.fields = omega (arith, l, a.fields.as_many) in
      let old : Word = get_or b.fields k Nil in
      let at : slice_get b.fields k ≡ Some old = slice_get-get_or b.fields k Nil n in
      becomes-held old x (a.fields.each k old (Slot x) at q) (λ z r. held z (at ∙ ap Some r))
      (λ z r i. near z (at ∙ ap Some r) i)

  temps-near : (s k z : ℕ) → Has (top_temps v) s → field_at c.heap s k ≡ Some (Slot z) → LiesIn c.heap rec.number z
      → IsReached z
  temps-near s k z n q i =
      let a = has_place (top_temps v) s n in (0, omega arith, (i, in_temps a.0 k s a.1 q))

  -- a cell that is neither of the region nor one of the temporaries leads into the region by the bridge alone
  leads-to-bridge : (lower : List Word) → Local c.heap rec.number rec.bridge lower (top_temps v) → (s k x : ℕ)
      → (LiesIn c.heap rec.number s → ⊥) → (Has (top_temps v) s → ⊥) → field_at c.heap s k ≡ Some (Slot x)
      → LiesIn c.heap rec.number x → rec.bridge ≡ Some x
  leads-to-bridge lower local s k x off none q l = by_label (label_at c.heap s) refl
    where
      by_bridge : IsBridge t rec.number x → rec.bridge ≡ Some x
      by_bridge b =
          let y : b.0 ≡ key = g.numbers b.0 key rec.number (number_of t b.0 rec.number b.1 b.2 b.3)
          (number_of t key rec.number rec e refl) in
          let z : b.1 ≡ rec = same_Some b.1 rec (sym b.2 ∙ ap (record_at t) y ∙ e) in
          sym (ap (λ (r : Record). r.bridge) z) ∙ b.4

      no_field : (b : Option Body) → option_map (λ (b : Body). b.label) b ≡ None
          → option_and_then (λ (b : Body). slice_get b.fields k) b ≡ None
      no_field None a = refl
      no_field (Some b) a = cc

      by_label : (o : Option Label) → label_at c.heap s ≡ o → rec.bridge ≡ Some x
      by_label None a = let z : None ≡ Some (Slot x) = sym (no_field (body_at c.heap s) a) ∙ q in cc
      by_label (Some (Region r)) a = elim (g.fields r s k x a q) [
        | inl b ↦ let z : Some Frozen ≡ Some (Region rec.number) = sym b ∙ l in cc
        | inr b ↦ elim b [
          | inl b ↦
              let n : r ≡ rec.number = one_region c.heap x r rec.number b l in
              absurd (off (a ∙ ap (λ i. Some (Region i)) n))
          | inr b ↦
              let n : b.0 ≡ rec.number = one_region c.heap x b.0 rec.number b.2 l in
              let B : ℕ → Type 0 = λ i. IsBridge t i x in
              by_bridge (subst B n b.3)
        ]
      ]
      by_label (Some (Temp n)) a = elim (local.fields s n k x a q l) [
        | inl i ↦ absurd (none (place_has (top_temps v) s i.0 i.1))
        | inr b ↦ b
      ]
      by_label (Some Frozen) a =
          let z : Some Frozen ≡ Some (Region rec.number) = sym (g.frozen s k x a q) ∙ l in cc

  -- all fields lead to held cells behind the collection, where they did before
  pub fields-lead : (lower : List Word) → Local c.heap rec.number rec.bridge lower (top_temps v)
      → AllHeld c.heap (top_temps v) → ((s k x : ℕ) → field_at c.heap s k ≡ Some (Slot x) → IsHeld c.heap x)
      → (s k x : ℕ) → field_at cells.heap s k ≡ Some (Slot x) → IsHeld cells.heap x
  fields-lead lower local temps held s k x q = elim (lies_or_not c.heap rec.number s) [
    | inr i ↦ elim (lies_or_not cells.heap rec.number s) [
      | inl n ↦
          let z : field_at cells.heap s k ≡ None =
          ap (option_and_then (λ (b : Body). slice_get b.fields k)) (w.gone s i n) in
          let y : None ≡ Some (Slot x) = sym z ∙ q in
          cc
      | inr l ↦
          let a = w.only s l in
          let b = labelled (body_at c.heap a.0) (reach_lies c.heap rec.number (top_roots rec v) a.0 a.1) in
          let d = w.stands a.0 b.0 a.1 b.1 in
          let was : (z : ℕ) → slice_get b.0.fields k ≡ Some (Slot z) → field_at c.heap a.0 k ≡ Some (Slot z) = λ z r.
          ap (option_and_then (λ (b : Body). slice_get b.fields k)) b.1 ∙ r in
          fields-held b.0 d.0 k x d.2
          (sym (ap (option_and_then (λ (b : Body). slice_get b.fields k)) (ap (body_at cells.heap) (sym a.2) ∙ d.1)) ∙ q)
          (λ z r. held a.0 k z (was z r)) (λ z r i. w.closed a.0 k z a.1 (was z r) i)
    ]
    | inl off ↦ elim (has-cases (top_temps v) s) [
      | inl n ↦
          let p = has_place (top_temps v) s n in
          let b = some-there (body_at c.heap s) (temps p.0 s p.1) in
          let d = w.temps s b.0 n off b.1 in
          let was : (z : ℕ) → slice_get b.0.fields k ≡ Some (Slot z) → field_at c.heap s k ≡ Some (Slot z) = λ z r.
          ap (option_and_then (λ (b : Body). slice_get b.fields k)) b.1 ∙ r in
          fields-held b.0 d.0 k x d.2
          (sym (ap (option_and_then (λ (b : Body). slice_get b.fields k)) d.1) ∙ q)
          (λ z r. held s k z (was z r)) (λ z r i. temps-near s k z n (was z r) i)
      | inr n ↦
          let f : field_at c.heap s k ≡ Some (Slot x) =
          sym (ap (option_and_then (λ (b : Body). slice_get b.fields k)) (w.others s n off)) ∙ q in
          lower-held x (λ l. leads-to-bridge lower local s k x off n f l) (held s k x f)
    ]
  ]
    where
      labelled : (o : Option Body) → option_map (λ (b : Body). b.label) o ≡ Some (Region rec.number)
          → (b : Body) × (o ≡ Some b)
      labelled None q = cc
      labelled (Some b) q = (b, refl)
