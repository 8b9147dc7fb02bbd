-- What is read of a heap is what is read of a store in which each held cell stands at its serial.
use Rattle.std.proofs.Common.{◌≡◌, inl, inr, ℕ, zero, suc, false, List, [], ◌∷◌, map, length, Option, Some, None, option_map, option_and_then}
use Rattle.std.proofs.Common.{slice_get, slice_index_or, refl, sym, ap, ◌∙◌, subst, arith}
use Rattle.std.specs.Prelude.{nat_eq}
use Rattle.std.proofs.lemmas.Bool.{false≢true}
use Rattle.std.proofs.lemmas.Bool.Decides.{eqb_tells}
use Rattle.std.proofs.lemmas.Option.{same_Some, slice_get_within, get_or_from_slice_get}
use Rattle.rg_base.specs.declared.object.Label.{Label}
use Rattle.rg_base.specs.declared.object.Label.TheVariants.{Region, Temp, Frozen}
use Rattle.rg_base.specs.declared.object.Seen.{Seen}
use Rattle.rg_base.specs.declared.words.Manager.{Manager}
use Rattle.rg_base.specs.declared.words.Manager.TheVariants.{Arena}
use Rattle.rg_base.specs.declared.value.Val.{Val}
use Rattle.rg_base.specs.declared.value.Val.TheVariants.{Obj}
use Rattle.rg_base.specs.declared.value.Word.{Word}
use Rattle.rg_base.specs.declared.value.Word.TheVariants as word
use Rattle.rg_cells.specs.declared.cell.Body.{Body}
use Rattle.rg_cells.specs.Table.{Table, body_at, field_at, label_at, Serials, IsHeld, high_of}
use Rattle.rg_regions.specs.Table.{RegionTable, IsBridge}
use Rattle.rg_regions.specs.Reach.{LiesIn}
use Rattle.rg_regions.specs.Grove.{Grove}
use Rattle.rg_regions.proofs.Callers.Told.{labelled_held}
use Rattle.rg_cown.specs.Cargo.{named_from}
use Rattle.rg_cown.specs.Contents.{read_on, from_object, by_slot, seen_in, manager_in, no_object, cargo_at, cargo_of}
use Rattle.rg_cown.specs.Inner.Reads.{Lasts}
use Rattle.rg_cown.proofs.Numbered.{Spreads, or_cases, read_numbered}
use Rattle.rg_cown.proofs.Renamed.{Renames, other_value, other_object}
use Rattle.rg_cown.proofs.SoundParts.{count_is, parts_of}
use Rattle.rg_cown.proofs.SoundRead.{cargo_sound}
use Rattle.rg_heap.specs.Answers.{val_of, obj_of}
use Rattle.rg_view.specs.View.{object_of}
use Rattle.rg_view.proofs.Callers.Shown.{held-body}
use Rattle.rg_content.proofs.SameCargo.{same-cargo}

-- the serial of a cell
abbrev pub serial_in : Option Body → ℕ
serial_in None = 0
serial_in (Some b) = b.serial

reference-in : (ws : List Word) (k b : ℕ) → slice_get (map by_slot ws) k ≡ Some (Obj b) → slice_get ws k ≡ Some (word.Slot b)
reference-in [] k b e = cc
reference-in (word.Nil ∷ ws) zero b e = cc
reference-in (word.Int i ∷ ws) zero b e = cc
reference-in (word.Bool t ∷ ws) zero b e = cc
reference-in (word.Slot s ∷ ws) zero b e = ap (λ n. Some (word.Slot n)) (slot-is s b e)
  where
    slot-is : (s b : ℕ) → Some (Obj s) ≡ Some (Obj b) → s ≡ b
    slot-is s b e = cc
reference-in (w ∷ ws) (suc k) b e = reference-in ws k b e

field-led : (o : Option Body) (k b : ℕ) → slice_get (seen_in o).fields k ≡ Some (Obj b)
    → option_and_then (λ (b : Body). slice_get b.fields k) o ≡ Some (word.Slot b)
field-led None k b e = cc
field-led (Some c) k b e = reference-in c.fields k b e

module _ (c : Table) (t : RegionTable) (store : List Seen) (managers : List Manager) (ser : Serials c.heap) (g : Grove c t)
    (lead : (s k to : ℕ) → field_at c.heap s k ≡ Some (word.Slot to) → IsHeld c.heap to)
    (shown : (s : ℕ) (b : Body) → body_at c.heap s ≡ Some b → slice_get store b.serial ≡ Some (object_of c.heap (Some b)))
    (agree : (s r : ℕ) → LiesIn c.heap r s → manager_in t.records r ≡ slice_index_or managers r Arena) where
  abbrev at : ℕ → Seen
  at s = seen_in (body_at c.heap s)

  abbrev other : ℕ → Seen
  other k = slice_index_or store k no_object

  abbrev serial : ℕ → ℕ
  serial s = serial_in (body_at c.heap s)

  body-of : (s : ℕ) → Lasts c.heap s → (b : Body) × (body_at c.heap s ≡ Some b)
  body-of s l = held-body c.heap s (elim l [
    | inl f ↦ labelled_held c.heap s Frozen f
    | inr x ↦ labelled_held c.heap s (Region x.0) x.1
  ])

  label-of : (s : ℕ) (b : Body) → body_at c.heap s ≡ Some b → (l : Label) → (at s).label ≡ l → label_at c.heap s ≡ Some l
  label-of s b e l is =
      ap (option_map (λ (b : Body). b.label)) e ∙ ap Some (sym (ap (λ o. (seen_in o).label) e) ∙ is)

  on : (s k to : ℕ) → Lasts c.heap s → field_at c.heap s k ≡ Some (word.Slot to) → Lasts c.heap to
  on s k to l e = elim l [
    | inl f ↦ inl (g.frozen s k to f e)
    | inr x ↦ elim (g.fields x.0 s k to x.1 e) [
      | inl f ↦ inl f
      | inr y ↦ elim y [ inl own ↦ inr (x.0, own) | inr z ↦ inr (z.0, z.2) ]
    ]
  ]

  words-shown : (ws : List Word) → ((k to : ℕ) → slice_get ws k ≡ Some (word.Slot to) → IsHeld c.heap to)
      → map (val_of c.heap) ws ≡ map (other_value serial) (map by_slot ws)
  words-shown [] h = refl
  words-shown (word.Nil ∷ ws) h = ap (λ vs. val_of c.heap word.Nil ∷ vs) (words-shown ws (λ k. h (suc k)))
  words-shown (word.Int i ∷ ws) h = ap (λ vs. val_of c.heap (word.Int i) ∷ vs) (words-shown ws (λ k. h (suc k)))
  words-shown (word.Bool b ∷ ws) h = ap (λ vs. val_of c.heap (word.Bool b) ∷ vs) (words-shown ws (λ k. h (suc k)))
  words-shown (word.Slot s ∷ ws) h =
      let b = held-body c.heap s (h 0 s refl) in
      ap (λ v. v ∷ map (val_of c.heap) ws) (ap obj_of b.1 ∙ sym (ap (λ o. Obj (serial_in o)) b.1))
      ∙ ap (λ vs. Obj (serial s) ∷ vs) (words-shown ws (λ k. h (suc k)))

  same : (s : ℕ) → Lasts c.heap s → other (serial s) ≡ other_object serial (at s)
  same s l =
      let b = body-of s l in
      let F : List Val → Seen = λ vs. record { class = b.0.class; fields = vs; label = b.0.label } in
      ap other (ap serial_in b.1)
      ∙ get_or_from_slice_get store b.0.serial (object_of c.heap (Some b.0)) no_object (shown s b.0 b.1)
      ∙ ap F (words-shown b.0.fields (λ k to e. lead s k to (ap (option_and_then (λ (b : Body). slice_get b.fields k)) b.1 ∙ e)))
      ∙ sym (ap (λ o. other_object serial (seen_in o)) b.1)

  renames : Renames serial (Lasts c.heap) at other
  renames = record {
    differ = λ x y p q e.
        let b = body-of x p in
        let d = body-of y q in
        ser.differ x y b.0 d.0 b.1 d.1 (sym (ap serial_in b.1) ∙ e ∙ ap serial_in d.1);
    same = same;
    on = λ x k b p e. on x k b p (field-led (body_at c.heap x) k b e);
  }

  spreads : Spreads at (Lasts c.heap)
  spreads = record {
    not_temp = λ a n l e.
        let b = body-of a l in
        let is = label-of a b.0 b.1 (Temp n) e in
        elim l [ inl f ↦ frozen-temp n (sym f ∙ is) | inr x ↦ region-temp x.0 n (sym x.1 ∙ is) ];
    on = λ a k b l e. on a k b l (field-led (body_at c.heap a) k b e);
  }
    where
      frozen-temp : (n : ℕ) → Some Frozen ≡ Some (Temp n) → ⊥
      frozen-temp n e = cc

      region-temp : (r n : ℕ) → Some (Region r) ≡ Some (Temp n) → ⊥
      region-temp r n e = cc

  -- all that the bridge of a region reaches is read
  many : (bridge r : ℕ) → IsBridge t r bridge → Lasts c.heap bridge
      → length (read_on at (high_of c.heap) (from_object bridge)).order ≡ length (read_on at (high_of c.heap) (from_object bridge)).cells
  many bridge r b here =
      let s = read_on at (high_of c.heap) (from_object bridge) in
      let parts = parts_of (cargo_at c.heap t bridge) (cargo_sound c t r g bridge b) in
      let told : named_from 0 1 s.cells ≡ Some (length s.cells) = count_is (length s.cells) (named_from 0 1 s.cells) parts.objects in
      let n = read_numbered at (Lasts c.heap) (high_of c.heap) (from_object bridge) spreads (λ x m. elim (or_cases (nat_eq x bridge) false m) [
        | inl e ↦ elim (eqb_tells x bridge) [ inl q ↦ subst (Lasts c.heap) (sym q.1) here | inr q ↦ absurd (false≢true (sym q.0 ∙ e)) ]
        | inr e ↦ absurd (false≢true e)
      ]) (record { objects = refl; regions = refl; more = omega arith }) in
      same_Some (length s.order) (length s.cells) (sym n.0.objects ∙ told)

  pub read-same : (bridge r : ℕ) → IsBridge t r bridge → cargo_at c.heap t bridge ≡ cargo_of store managers (serial bridge)
  read-same bridge r b =
      let Q : ℕ → Type 0 = λ n. LiesIn c.heap n bridge in
      let here : Lasts c.heap bridge = inr (r, subst Q b.3 (g.bridges b.0 bridge b.1 b.2 b.4)) in
      same-cargo serial (Lasts c.heap) at other renames (manager_in t.records) (λ r. slice_index_or managers r Arena) (high_of c.heap)
      (length store) bridge here (many bridge r b here)
      (λ x l.
      let d = body-of x l in
      let lt = slice_get_within store d.0.serial (object_of c.heap (Some d.0)) (shown x d.0 d.1) in
      let is = ap serial_in d.1 in
      omega (arith, lt, is))
      (λ x r l e. let d = body-of x l in agree x r (label-of x d.0 d.1 (Region r) e))
