-- What the machine holds stands where cells and regions come, and nothing that was there changes.
use Rattle.std.proofs.Common.{◌≡◌, ◌⊎◌, inl, inr, ℕ, zero, suc, List, [], ◌∷◌, ◌++◌, Option, Some, None, slice_get}
use Rattle.std.proofs.Common.{option_map, option_and_then, refl, sym, ap, ◌∙◌, subst}
use Rattle.std.proofs.lemmas.Option.{none-some, same_Some}
use Rattle.rg_base.specs.declared.object.Label.{Label}
use Rattle.rg_base.specs.declared.object.Label.TheVariants.{Region, Temp}
use Rattle.rg_base.specs.declared.value.Word.{Word}
use Rattle.rg_base.specs.declared.value.Word.TheVariants.{Slot}
use Rattle.rg_cells.specs.declared.cell.Body.{Body}
use Rattle.rg_cells.specs.Table.{Heap, body_at, field_at, label_at, IsHeld}
use Rattle.rg_regions.specs.Table.{Record, RegionTable, record_at, HasNumber, IsBridge}
use Rattle.rg_regions.specs.Reach.{LiesIn}
use Rattle.rg_regions.specs.Grove.{Grove, Parent}
use Rattle.rg_frames.specs.declared.rows.Window.{Window}
use Rattle.rg_frames.specs.Stack.{Stack}
use Rattle.rg_heap.specs.Parts.{Parts}
use Rattle.rg_heap.specs.Answers.{AllLead as FieldsLead, IsClosed}
use Rattle.rg_heap.specs.Opened.{Opened, IsWindow, IsTempOf}
use Rattle.rg_view.specs.Numbers.{HasBridges, Numbers}
use Rattle.rg_view.proofs.Callers.Shown.{body-held}
use Rattle.rg_view.proofs.Callers.Held.{all-lead}
use Rattle.rg_machine.specs.Stands.{AllLead, Leads, Stands}

-- other temporaries, and all else as it was
abbrev pub with_temps : Stack → List ℕ → Stack
with_temps v ts = record v { temps = ts }

-- Cells that were held keep their labels, no new one leads anywhere, and regions keep their numbers and bridges. The temporaries of
-- windows are the held cells with their labels.
pub record Grown (old new : Parts) (v : Stack) (ts : List ℕ) : Type 0 where
  pub held : (s : ℕ) → IsHeld old.cells.heap s → IsHeld new.cells.heap s
  pub label : (s : ℕ) (l : Label) → label_at old.cells.heap s ≡ Some l → label_at new.cells.heap s ≡ Some l
  pub label_back : (s : ℕ) (l : Label) → IsHeld old.cells.heap s → label_at new.cells.heap s ≡ Some l → label_at old.cells.heap s ≡ Some l
  pub field_back : (s k to : ℕ) → field_at new.cells.heap s k ≡ Some (Slot to) → field_at old.cells.heap s k ≡ Some (Slot to)
  pub number : (k n : ℕ) → HasNumber old.regions k n → HasNumber new.regions k n
  pub bridge : (r s : ℕ) → IsBridge old.regions r s → IsBridge new.regions r s
  pub numbers : Numbers new.regions
  pub bridges : HasBridges new.regions
  pub temps : (i s : ℕ) (w : Window) → IsWindow v i w → IsTempOf (with_temps v ts) i s → label_at new.cells.heap s ≡ Some (Temp w.number)
  pub all_temps : (i s : ℕ) (w : Window) → IsWindow v i w → label_at new.cells.heap s ≡ Some (Temp w.number) → IsTempOf (with_temps v ts) i s
  pub once : (j k s : ℕ) → slice_get ts j ≡ Some s → slice_get ts k ≡ Some s → j ≡ k
  pub windows : (s n : ℕ) → label_at new.cells.heap s ≡ Some (Temp n) → (i : ℕ) × (w : Window) × IsWindow v i w × (w.number ≡ n)

-- a cell of which a field is known is held
pub field-held : (h : Heap) (s k : ℕ) (w : Word) → field_at h s k ≡ Some w → IsHeld h s
field-held h s k w e = by (body_at h s) refl
  where
    by : (o : Option Body) → body_at h s ≡ o → IsHeld h s
    by None f = absurd (none-some w (sym (ap (option_and_then (λ (b : Body). slice_get b.fields k)) f) ∙ e))
    by (Some b) f = body-held h s b f

-- one number, one key
pub one-key : (t : RegionTable) (k o n : ℕ) → Numbers t → HasNumber t k n → HasNumber t o n → k ≡ o
one-key t k o n q a b = by (record_at t k) refl (record_at t o) refl
  where
    is : (key : ℕ) (r : Record) → record_at t key ≡ Some r → HasNumber t key n → r.number ≡ n
    is key r e h = same_Some r.number n (sym (ap (option_map (λ (x : Record). x.number)) e) ∙ h)

    none : (key : ℕ) → record_at t key ≡ None → HasNumber t key n → ⊥
    none key e h = none-some n (sym (ap (option_map (λ (x : Record). x.number)) e) ∙ h)

    by : (x : Option Record) → record_at t k ≡ x → (y : Option Record) → record_at t o ≡ y → k ≡ o
    by None e y f = absurd (none k e a)
    by (Some r) e None f = absurd (none o f b)
    by (Some r) e (Some u) f = q.differ k o r u e f (is k r e a ∙ sym (is o u f b))

-- the last one of a list, or one in front of it
pub last-or : {A : Type 0} → (xs : List A) (y x : A) (k : ℕ) → slice_get (xs ++ y ∷ []) k ≡ Some x → (slice_get xs k ≡ Some x) ⊎ (y ≡ x)
last-or [] y x zero e = inr (same_Some y x e)
last-or [] y x (suc k) e = absurd (none-some x e)
last-or (z ∷ xs) y x zero e = inl e
last-or (z ∷ xs) y x (suc k) e = last-or xs y x k e

module _ (old new : Parts) (v : Stack) (ts : List ℕ) (g : Grove old.cells old.regions) (st : Stands old v) (gr : Grown old new v ts) where
  lead : (s : ℕ) → FieldsLead old.cells.heap s
  lead = all-lead old v g st.opened st.temps

  -- where a field leads, a cell was held
  led : (s k to : ℕ) → field_at new.cells.heap s k ≡ Some (Slot to) → IsHeld old.cells.heap to
  led s k to e = lead s k to (gr.field_back s k to e)

  number-back : (i n : ℕ) (w : Window) → IsWindow v i w → HasNumber new.regions w.region n → HasNumber old.regions w.region n
  number-back i n w e h =
      let k = st.opened.known i w e in
      let is : n ≡ k.0 = same_Some n k.0 (sym h ∙ gr.number w.region k.0 k.1) in
      subst (HasNumber old.regions w.region) (sym is) k.1

  parent-back : (q n : ℕ) → Parent new.cells.heap q n → Parent old.cells.heap q n
  parent-back q n a =
      let f = gr.field_back a.from a.field a.to a.leads in
      record {
        differ = a.differ;
        from = a.from;
        field = a.field;
        to = a.to;
        lies = gr.label_back a.from (Region q) (field-held old.cells.heap a.from a.field (Slot a.to) f) a.lies;
        leads = f;
        child_has = gr.label_back a.to (Region n) (lead a.from a.field a.to f) a.child_has;
      }

  -- all that holds of the machine between two instructions holds again
  pub grown-opened : Opened new (with_temps v ts)
  grown-opened =
      let o = st.opened in
      record {
        as_many = o.as_many;
        first = λ w e. gr.number w.region 0 (o.first w e);
        some = o.some;
        known = λ i w e. let k = o.known i w e in (k.0, gr.number w.region k.0 k.1);
        differ = o.differ;
        temps = gr.temps;
        all_temps = gr.all_temps;
        once = gr.once;
        slots = λ j s e. gr.held s (o.slots j s e);
        lead = λ j s e k to f. gr.held to (led s k to f);
        parents = λ i w n q e h a.
            let u = o.parents i w n q e (number-back i n w e h) (parent-back q n a) in
            (u.0, u.1, u.2, u.3, gr.number u.1.region q u.4);
      }

  pub grown-stands : Stands new (with_temps v ts)
  grown-stands = record {
    opened = grown-opened;
    lain = st.lain;
    some = st.some;
    numbers = gr.numbers;
    bridges = gr.bridges;
    window_numbers = st.window_numbers;
    windows_next = st.windows_next;
    temps = gr.windows;
    slots = λ j s r e l b.
        gr.bridge r s (st.slots j s r e (gr.label_back s (Region r) (st.opened.slots j s e) l)
        (λ i w f h. b i w f (gr.number w.region r h)));
    fields = λ i s k to r w e t f l b.
        let was = gr.field_back s k to f in
        let lbl = gr.label_back s (Temp w.number) (field-held old.cells.heap s k (Slot to) was) (gr.temps i s w e t) in
        gr.bridge r to (st.fields i s k to r w e (st.opened.all_temps i s w e lbl) was (gr.label_back to (Region r) (lead s k to was) l)
        (λ j u x h. b j u x (gr.number u.region r h)));
    first_mark = st.first_mark;
  }

  -- a region that is closed now and lay there was closed before
  closed-back : (r s : ℕ) → LiesIn old.cells.heap r s → IsClosed new.regions (with_temps v ts) r → IsClosed old.regions v r
  closed-back r s l c =
      let k = g.labels r s l in
      let is : k.0 ≡ c.0 = one-key new.regions k.0 c.0 r gr.numbers (gr.number k.0 r k.1) c.1 in
      (c.0, subst (λ x. HasNumber old.regions x r) is k.1, c.2)

  -- a word that led where one may leads there still
  pub grown-leads : (w : Word) → Leads old v w → Leads new (with_temps v ts) w
  grown-leads w l = record {
    held = λ s e. gr.held s (l.held s e);
    bridge = λ s r e i c.
        let was = gr.label_back s (Region r) (l.held s e) i in
        gr.bridge r s (l.bridge s r e was (closed-back r s was c));
  }

  pub grown-all-lead : (words : List Word) → AllLead old v words → AllLead new (with_temps v ts) words
  grown-all-lead words l k w e = grown-leads w (l k w e)

  -- and so do they with one more
  pub grown-more-lead : (words : List Word) (x : Word) → AllLead old v words → Leads new (with_temps v ts) x
      → AllLead new (with_temps v ts) (words ++ x ∷ [])
  grown-more-lead words x l m k w e = elim (last-or words x w k e) [
    | inl was ↦ grown-leads w (l k w was)
    | inr is ↦ subst (Leads new (with_temps v ts)) is m
  ]
