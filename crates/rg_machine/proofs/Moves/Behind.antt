-- What always holds behind a freeze and a merge, where the slot that owned the region is made nil.
use Rattle.std.proofs.Common.{◌≡◌, ◌≢◌, ◌⊎◌, inl, inr, ℕ, zero, suc, ◌+◌, Bool as Truth, true, false, List, [], ◌∷◌, reverse, length}
use Rattle.std.proofs.Common.{Option, Some, None, option_map, option_and_then, slice_get, slice_set, refl, sym, ap, ◌∙◌, subst}
use Rattle.std.proofs.lemmas.Bool.{false≢true}
use Rattle.std.proofs.lemmas.Option.{none-some, same_Some}
use Rattle.rg_base.specs.declared.object.Label.{Label}
use Rattle.rg_base.specs.declared.object.Label.TheVariants.{Region, Temp, Frozen}
use Rattle.rg_base.specs.declared.value.Word.{Word}
use Rattle.rg_base.specs.declared.value.Word.TheVariants as word
use Rattle.rg_base.proofs.Callers.Labels.{region-same, frozen-region, temp-region}
use Rattle.rg_rules.specs.Regions.{among}
use Rattle.rg_cells.specs.declared.cell.Body.{Body}
use Rattle.rg_cells.specs.Table.{Heap, body_at, field_at, label_at, IsHeld}
use Rattle.rg_regions.specs.Table.{Record, RegionTable, record_at, HasNumber, IsBridge}
use Rattle.rg_regions.specs.Reach.{LiesIn}
use Rattle.rg_regions.specs.Grove.{Parent, Grove}
use Rattle.rg_move.specs.Frozen.{labelled}
use Rattle.rg_frames.specs.declared.rows.Window.{Window as WindowRow}
use Rattle.rg_frames.specs.Stack.{Stack}
use Rattle.rg_frames.specs.Changes.{with_slot}
use Rattle.rg_stack.specs.Labels.{is_open}
use Rattle.rg_heap.specs.Parts.{Parts}
use Rattle.rg_heap.specs.Answers.{IsClosed}
use Rattle.rg_heap.specs.Opened.{Opened, IsWindow, IsTempOf}
use Rattle.rg_view.specs.View.{windows_of}
use Rattle.rg_view.specs.Lain.{Nested}
use Rattle.rg_view.proofs.Callers.Shown.{held-body, body-held}
use Rattle.rg_view.proofs.Callers.Label.{Labels}
use Rattle.rg_view.proofs.Callers.Table.{FewerNumbers, fewer-numbers}
use Rattle.rg_view.proofs.Callers.Open.{Keyed, window-open}
use Rattle.rg_machine.specs.Stands.{Leads, Stands}
use Rattle.rg_machine.proofs.Kept.{bridged-as, numbered as number-record}

-- Numbers of records

pub record-number : (t : RegionTable) (key : ℕ) (r : Record) → record_at t key ≡ Some r → HasNumber t key r.number
record-number t key r e = ap (option_map (λ (r : Record). r.number)) e

-- Slots

-- a reference that stands in the slots behind a write of nil stood there before, elsewhere
pub set-back : (ws : List Word) (k j s : ℕ) → slice_get (slice_set ws k word.Nil) j ≡ Some (word.Slot s)
    → (slice_get ws j ≡ Some (word.Slot s)) × (j ≢ k)
set-back [] k j s e = (e, absurd (none-some (word.Slot s) e))
set-back (w ∷ ws) zero zero s e = absurd (nil-slot s e)
  where
    nil-slot : (s : ℕ) → Some word.Nil ≡ Some (word.Slot s) → ⊥
    nil-slot s e = cc
set-back (w ∷ ws) zero (suc j) s e = (e, λ is. absurd cc)
set-back (w ∷ ws) (suc k) zero s e = (e, λ is. absurd cc)
set-back (w ∷ ws) (suc k) (suc j) s e =
    let r = set-back ws k j s e in (r.0, λ is. r.1 (same is))
  where
    same : suc j ≡ suc k → j ≡ k
    same is = cc

pub set-length : (ws : List Word) (k : ℕ) (w : Word) → length (slice_set ws k w) ≡ length ws
set-length [] k w = refl
set-length (x ∷ ws) zero w = refl
set-length (x ∷ ws) (suc k) w = ap suc (set-length ws k w)

-- Cells that get a label

module _ (old new : Heap) (regions : List ℕ) (label : Label) (l : Labels old new regions label) where
  -- a cell of one of the regions
  pub record Gets (s : ℕ) : Type 0 where
    pub region : ℕ
    pub named : among regions region ≡ true
    pub lies : LiesIn old region s
    pub is : body_at new s ≡ labelled label (body_at old s)

  -- any other slot
  pub record Keeps (s : ℕ) : Type 0 where
    pub out : (q : ℕ) → among regions q ≡ true → LiesIn old q s → ⊥
    pub is : body_at new s ≡ body_at old s

  pub fate : (s : ℕ) → Gets s ⊎ Keeps s
  fate s = by (label_at old s) refl
    where
      keeps : ((q : ℕ) → among regions q ≡ true → LiesIn old q s → ⊥) → Gets s ⊎ Keeps s
      keeps out = inr (record { out = out; is = l.stay s out })

      test : (r : ℕ) → label_at old s ≡ Some (Region r) → (t : Truth) → among regions r ≡ t → Gets s ⊎ Keeps s
      test r e true a = inl (record { region = r; named = a; lies = e; is = l.moved r s a e })
      test r e false a = keeps (λ q named lies.
          false≢true (sym a ∙ ap (among regions) (region-same r q (sym e ∙ lies)) ∙ named))

      by : (o : Option Label) → label_at old s ≡ o → Gets s ⊎ Keeps s
      by None e = keeps (λ q named lies. none-some (Region q) (sym e ∙ lies))
      by (Some (Region r)) e = test r e (among regions r) refl
      by (Some (Temp n)) e = keeps (λ q named lies. temp-region n q (sym e ∙ lies))
      by (Some Frozen) e = keeps (λ q named lies. frozen-region q (sym e ∙ lies))

  fields-labelled : (k : ℕ) (o : Option Body) → option_and_then (λ (b : Body). slice_get b.fields k) (labelled label o)
      ≡ option_and_then (λ (b : Body). slice_get b.fields k) o
  fields-labelled k None = refl
  fields-labelled k (Some b) = refl

  label-labelled : (o : Option Body) (x : Label) → option_map (λ (b : Body). b.label) o ≡ Some x
      → option_map (λ (b : Body). b.label) (labelled label o) ≡ Some label
  label-labelled None x e = absurd (none-some x e)
  label-labelled (Some b) x e = refl

  -- fields stay, and what was held is
  pub field-same : (s k : ℕ) → field_at new s k ≡ field_at old s k
  field-same s k = elim (fate s) [
    | inl g ↦ ap (option_and_then (λ (b : Body). slice_get b.fields k)) g.is ∙ fields-labelled k (body_at old s)
    | inr g ↦ ap (option_and_then (λ (b : Body). slice_get b.fields k)) g.is
  ]

  pub held-same : (s : ℕ) → IsHeld old s → IsHeld new s
  held-same s held =
      let b = held-body old s held in
      elim (fate s) [
        | inl g ↦ body-held new s (record b.0 { label = label }) (g.is ∙ ap (labelled label) b.1)
        | inr g ↦ body-held new s b.0 (g.is ∙ b.1)
      ]

  -- a label behind it is the new one, of a cell of one of the regions, or was there before
  pub label-back : (s : ℕ) (x : Label) → label_at new s ≡ Some x
      → ((x ≡ label) × (q : ℕ) × (among regions q ≡ true) × LiesIn old q s)
      ⊎ ((label_at old s ≡ Some x) × ((q : ℕ) → among regions q ≡ true → LiesIn old q s → ⊥))
  label-back s x e = elim (fate s) [
    | inl g ↦
        let now : label_at new s ≡ Some label =
        ap (option_map (λ (b : Body). b.label)) g.is ∙ label-labelled (body_at old s) (Region g.region) g.lies in
        inl (same_Some x label (sym e ∙ now), g.region, g.named, g.lies)
    | inr g ↦ inr (sym (ap (option_map (λ (b : Body). b.label)) g.is) ∙ e, g.out)
  ]

  -- that of a temporary stays
  pub temp-kept : (s n : ℕ) → label_at old s ≡ Some (Temp n) → label_at new s ≡ Some (Temp n)
  temp-kept s n e = elim (fate s) [
    | inl g ↦ absurd (temp-region n g.region (sym e ∙ g.lies))
    | inr g ↦ ap (option_map (λ (b : Body). b.label)) g.is ∙ e
  ]

-- What a freeze and a merge have in common: closed regions get a label, which may be that of the active region; into these but one slot leads.
pub record Moves (p new : Parts) (v : Stack) (place : ℕ) (regions : List ℕ) (label : Label) : Type 0 where
  pub labels : Labels p.cells.heap new.cells.heap regions label
  pub no_temp : (n : ℕ) → Temp n ≡ label → ⊥
  -- the regions were closed
  pub closed : (q : ℕ) → among regions q ≡ true → is_open (windows_of p.regions v) q ≡ false
  -- of the others numbers, managers and bridges stay
  pub numbers : FewerNumbers p.regions new.regions
  pub kept : (key : ℕ) (r : Record) → record_at p.regions key ≡ Some r → among regions r.number ≡ false
      → (x : Record) × (record_at new.regions key ≡ Some x) × (x.number ≡ r.number) × (x.bridge ≡ r.bridge)
  pub were : (key : ℕ) (r : Record) → record_at new.regions key ≡ Some r
      → (u : Record) × (record_at p.regions key ≡ Some u) × (u.number ≡ r.number) × (u.bridge ≡ r.bridge)
  -- nothing comes above an open region
  pub parents : (i : ℕ) (w : WindowRow) (n q : ℕ) → IsWindow v i w → HasNumber p.regions w.region n → Parent new.cells.heap q n
      → Parent p.cells.heap q n
  -- where the label is that of a region, one slot leads into the regions, and no temporary, and the region is open
  pub one_slot : (r q j s : ℕ) → Region r ≡ label → among regions q ≡ true → slice_get v.slots j ≡ Some (word.Slot s)
      → LiesIn p.cells.heap q s → j ≡ place
  pub no_field : (r q i s k to : ℕ) (w : WindowRow) → Region r ≡ label → among regions q ≡ true → IsWindow v i w → IsTempOf v i s
      → field_at p.cells.heap s k ≡ Some (word.Slot to) → LiesIn p.cells.heap q to → ⊥
  pub into_open : (r : ℕ) → Region r ≡ label → IsClosed new.regions v r → ⊥

module _ (p new : Parts) (v : Stack) (i : ℕ) (regions : List ℕ) (label : Label) (g : Grove p.cells p.regions)
    (st : Stands p v) (m : Moves p new v (v.first + i) regions label) where
  keyed : Keyed p.regions v
  keyed = record { known = st.opened.known; numbers = g.numbers }

  -- windows keep their regions
  window-kept : (i : ℕ) (w : WindowRow) (n : ℕ) → IsWindow v i w → HasNumber p.regions w.region n → HasNumber new.regions w.region n
  window-kept i w n is has =
      let r = number-record p.regions w.region n has in
      test r.0 r.1 r.2 (among regions n) refl
    where
      test : (r : Record) → record_at p.regions w.region ≡ Some r → r.number ≡ n → (t : Truth) → among regions n ≡ t
          → HasNumber new.regions w.region n
      test r e same true a = absurd (false≢true (sym (m.closed n a) ∙ window-open p.regions v keyed n i w is has))
      test r e same false a =
          let x = m.kept w.region r e (ap (among regions) same ∙ a) in
          record-number new.regions w.region x.0 x.1 ∙ ap Some (x.2 ∙ same)

  number-was : (key n : ℕ) → HasNumber new.regions key n → HasNumber p.regions key n
  number-was key n has =
      let r = number-record new.regions key n has in
      let u = m.were key r.0 r.1 in
      record-number p.regions key u.0 u.1 ∙ ap Some (u.2 ∙ r.2)

  -- so do regions that aren't among these keep their bridges
  bridge-kept : (r s : ℕ) → (among regions r ≡ true → ⊥) → IsBridge p.regions r s → IsBridge new.regions r s
  bridge-kept r s out b = test (among regions r) refl
    where
      test : (t : Truth) → among regions r ≡ t → IsBridge new.regions r s
      test true a = absurd (out a)
      test false a = let x = m.kept b.0 b.1 b.2 (ap (among regions) b.3 ∙ a) in (b.0, x.0, x.1, x.2 ∙ b.3, x.3 ∙ b.4)

  -- a cell of a region behind it is one of the regions', where their label is that of the region, or lay there before
  lies-back : (r s : ℕ) → LiesIn new.cells.heap r s
      → ((Region r ≡ label) × (q : ℕ) × (among regions q ≡ true) × LiesIn p.cells.heap q s)
      ⊎ (LiesIn p.cells.heap r s × (among regions r ≡ true → ⊥))
  lies-back r s lies = elim (label-back p.cells.heap new.cells.heap regions label m.labels s (Region r) lies) [
    | inl x ↦ inl x
    | inr x ↦ inr (x.0, λ a. x.1 r a x.0)
  ]

  held : (s : ℕ) → IsHeld p.cells.heap s → IsHeld new.cells.heap s
  held s h = held-same p.cells.heap new.cells.heap regions label m.labels s h

  temp-was : (s n : ℕ) → label_at new.cells.heap s ≡ Some (Temp n) → label_at p.cells.heap s ≡ Some (Temp n)
  temp-was s n e = elim (label-back p.cells.heap new.cells.heap regions label m.labels s (Temp n) e) [
    | inl x ↦ absurd (m.no_temp n x.0)
    | inr x ↦ x.0
  ]

  -- the windows are known as before, over whatever slots lead to held cells
  opened-over : (words : List Word) → ((j s : ℕ) → slice_get words j ≡ Some (word.Slot s) → IsHeld p.cells.heap s)
      → Opened new (record v { slots = words })
  opened-over words slots = record {
    as_many = st.opened.as_many;
    first = λ w is. window-kept 0 w 0 is (st.opened.first w is);
    some = st.opened.some;
    known = λ i w is. let n = st.opened.known i w is in (n.0, window-kept i w n.0 is n.1);
    differ = st.opened.differ;
    temps = λ i s w is t. temp-kept p.cells.heap new.cells.heap regions label m.labels s w.number (st.opened.temps i s w is t);
    all_temps = λ i s w is e. st.opened.all_temps i s w is (temp-was s w.number e);
    once = st.opened.once;
    slots = λ j s e. held s (slots j s e);
    lead = λ j s e k to f. held to (st.opened.lead j s e k to
        (sym (field-same p.cells.heap new.cells.heap regions label m.labels s k) ∙ f));
    parents = λ i w n q is has a.
        let old = number-was w.region n has in
        let x = st.opened.parents i w n q is old (m.parents i w n q is old a) in
        (x.0, x.1, x.2, x.3, window-kept x.0 x.1 q x.3 x.4);
  }

  pub opened-moved : Opened new v
  opened-moved = opened-over v.slots st.opened.slots

  -- a region is closed as before
  closed-was : (r : ℕ) → IsClosed new.regions v r → IsClosed p.regions v r
  closed-was r c = (c.0, number-was c.0 r c.1, c.2)

  pub leads-moved : (w : Word) → Leads p v w → Leads new (with_slot v i word.Nil) w
  leads-moved w l = record {
    held = λ s e. held s (l.held s e);
    bridge = λ s r e lies c. elim (lies-back r s lies) [
      | inl x ↦ absurd (m.into_open r x.0 c)
      | inr x ↦ bridge-kept r s x.1 (l.bridge s r e x.0 (closed-was r c))
    ];
  }

  pub stands-moved : Stands new (with_slot v i word.Nil)
  stands-moved = record {
    opened = opened-over (slice_set v.slots (v.first + i) word.Nil)
        (λ j s e. st.opened.slots j s (set-back v.slots (v.first + i) j s e).0);
    lain = subst (λ n. Nested v.first n (reverse v.frames)) (sym (set-length v.slots (v.first + i) word.Nil)) st.lain;
    some = st.some;
    numbers = fewer-numbers p.regions new.regions m.numbers st.numbers;
    bridges = λ key r e. let u = m.were key r e in bridged-as u.0 r u.2 u.3 (st.bridges key u.0 u.1);
    window_numbers = st.window_numbers;
    windows_next = st.windows_next;
    first_mark = st.first_mark;
    temps = λ s n e. st.temps s n (temp-was s n e);
    slots = λ j s r e lies behind.
        let was = set-back v.slots (v.first + i) j s e in
        elim (lies-back r s lies) [
          | inl x ↦ absurd (was.1 (m.one_slot r x.1 j s x.0 x.2 was.0 x.3))
          | inr x ↦ bridge-kept r s x.1 (st.slots j s r was.0 x.0 (λ k w is has. behind k w is (window-kept k w r is has)))
        ];
    fields = λ k s f to r w is t e lies later.
        let was = sym (field-same p.cells.heap new.cells.heap regions label m.labels s f) ∙ e in
        elim (lies-back r to lies) [
          | inl x ↦ absurd (m.no_field r x.1 k s f to w x.0 x.2 is t was x.3)
          | inr x ↦ bridge-kept r to x.1 (st.fields k s f to r w is t was x.0 (λ j u js has. later j u js (window-kept j u r js has)))
        ];
  }
