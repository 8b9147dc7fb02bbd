-- A collection of the active region as the machine shows it: what is kept and what goes.
use Rattle.std.proofs.Common.{◌≡◌, ◌≢◌, ◌==◌, ◌⊎◌, inl, inr, ℕ, zero, suc, ◌+◌, Bool as Truth, true, false, if◌then◌else◌, List, [], ◌∷◌, ◌++◌}
use Rattle.std.proofs.Common.{map, take, drop, reverse, Option, Some, None, option_map, slice_get, slice_index_or, unwrap_or, is_some}
use Rattle.std.proofs.Common.{refl, sym, ap, ◌∙◌, subst, arith}
use Rattle.std.specs.List.{range_with_len}
use Rattle.std.proofs.lemmas.Bool.{cases_eq, false≢true, false_from_ne_true as never, eq-eqb as eq-is, eqb-true as eq-true, cases_lt as order}
use Rattle.std.proofs.lemmas.Option.{none-some, same_Some, slice_get-map, slice_get_past}
use Rattle.rg_base.specs.declared.object.Label.{Label}
use Rattle.rg_base.specs.declared.object.Label.TheVariants.{Region, Temp, Frozen}
use Rattle.rg_base.specs.declared.object.Place.{Place}
use Rattle.rg_base.specs.declared.object.Place.TheVariants as place
use Rattle.rg_base.specs.declared.object.Seen.{Seen}
use Rattle.rg_base.specs.declared.value.Val.{Val}
use Rattle.rg_base.specs.declared.value.Val.TheVariants as val
use Rattle.rg_base.specs.declared.value.Word.{Word}
use Rattle.rg_base.specs.declared.value.Word.TheVariants as word
use Rattle.rg_base.proofs.Callers.Labels.{region-same, frozen-region}
use Rattle.rg_cells.specs.declared.cell.Body.{Body}
use Rattle.rg_cells.specs.Table.{Heap, body_in, body_at, label_at, field_at, Serials, IsHeld, LacksSerial}
use Rattle.rg_regions.specs.Collection.{Lost}
use Rattle.rg_regions.specs.Grove.{Grove, Parent, Above, direct, further}
use Rattle.rg_regions.specs.Reach.{LiesIn}
use Rattle.rg_regions.specs.Reach.{Stands as Root}
use Rattle.rg_regions.specs.Table.{Record, RegionTable, record_at, IsBridge}
use Rattle.rg_regions.proofs.Callers.Told.{labelled_held}
use Rattle.rg_frames.specs.declared.rows.Frame.{Frame as FrameRow}
use Rattle.rg_frames.specs.Stack.{Stack}
use Rattle.rg_stack.specs.Machine.{Frame, Machine}
use Rattle.rg_stack.specs.Tops.{top_region, top_window}
use Rattle.rg_stack.specs.Needs.{owned_once}
use Rattle.rg_stack.specs.Places.{field_of, value_at}
use Rattle.rg_heap.specs.Answers.{val_of, AllLead, obj_of}
use Rattle.rg_heap.specs.Collects.{Collects, LostBelow}
use Rattle.rg_heap.specs.Opened.{Opened}
use Rattle.rg_heap.specs.Parts.{Parts}
use Rattle.rg_view.specs.View.{body_with, has_serial, machine_of, manager_with, managers_of, number_in, number_of, object_of}
use Rattle.rg_view.specs.View.{store_of}
use Rattle.rg_view.proofs.Callers.Gone.Managers.{fewer-windows}
use Rattle.rg_view.proofs.Callers.Frame.{frames_from}
use Rattle.rg_view.proofs.Callers.Link.{region-back, region-there, store-back, val-back, word-back}
use Rattle.rg_view.proofs.Callers.Look.{store-at, store-gone, store-held, store-length, val-held}
use Rattle.rg_view.proofs.Callers.Manager.{look-number, manager-of, managers-length}
use Rattle.rg_view.proofs.Callers.Shown.{field-in, frames-same, get-drop, get-take, held-body, object-same}
use Rattle.rg_view.proofs.Callers.Table.{FewerNumbers, fewer-numbers, kept-windows}
use Rattle.rg_view.proofs.Callers.Window.{top-window}
use Rattle.rg_held.specs.Gone.{gone}
use Rattle.rg_held.specs.Gather.{Gathered, Keeps, KeepsOf, LinkOut, Loses, bridge_value, first}
use Rattle.rg_held.specs.Gather.{further as later}
use Rattle.rg_held.proofs.Lists.{reverse-back as reverse-get}
use Rattle.rg_machine.specs.Collects.{OwnerOutside, holds}
use Rattle.rg_machine.specs.Stands.{Stands}
use Rattle.rg_machine.proofs.Callers.Collect.{Active, roots_in}
use Rattle.rg_machine.proofs.Callers.Collect.{bridge-root, fewer, lost-parent, opened-behind}
use Rattle.rg_machine.proofs.Callers.Collect.{root-stays, same-now, serials-behind, slot-root, slot-stays, temp-root, was}

-- Lists

push-back : {A : Type 0} (xs : List A) (y x : A) (n : ℕ) → slice_get (xs ++ y ∷ []) n ≡ Some x → ((k : ℕ) × (slice_get xs k ≡ Some x)) ⊎ (y ≡ x)
push-back [] y x zero e = inr (same_Some y x e)
push-back [] y x (suc n) e = absurd (none-some x e)
push-back (z ∷ xs) y x zero e = inl (0, e)
push-back (z ∷ xs) y x (suc n) e = elim (push-back xs y x n e) [ inl k ↦ inl (suc k.0, k.1) | inr is ↦ inr is ]

-- Serials that are held

holds-in : (a : ℕ) (xs : List (Option (Option Body))) (s : ℕ) (b : Body) → body_in (slice_index_or xs s None) ≡ Some b → b.serial ≡ a
    → is_some (body_with a xs) ≡ true
holds-in a [] s b e is = absurd (none-some b e)
holds-in a (x ∷ xs) zero b e is =
    ap (λ o. is_some (if has_serial a o then o else body_with a xs)) e
    ∙ ap (λ t. is_some (if t then Some b else body_with a xs)) (eq-is b.serial a is)
holds-in a (x ∷ xs) (suc s) b e is = by (body_in x) (holds-in a xs s b e is)
  where
    test : (c : Body) (t : Truth) → is_some (body_with a xs) ≡ true → is_some (if t then Some c else body_with a xs) ≡ true
    test c true e = refl
    test c false e = e

    by : (o : Option Body) → is_some (body_with a xs) ≡ true → is_some (if has_serial a o then o else body_with a xs) ≡ true
    by None e = e
    by (Some c) e = test c (c.serial == a) e

-- a held body with a serial
record Found (a : ℕ) (xs : List (Option (Option Body))) : Type 0 where
  pub slot : ℕ
  pub body : Body
  pub held : body_in (slice_index_or xs slot None) ≡ Some body
  pub serial : body.serial ≡ a

in-holds : (a : ℕ) (xs : List (Option (Option Body))) → is_some (body_with a xs) ≡ true → Found a xs
in-holds a [] e = absurd (false≢true e)
in-holds a (x ∷ xs) e = by (body_in x) refl e (λ f. in-holds a xs f)
  where
    behind : Found a xs → Found a (x ∷ xs)
    behind y = record { slot = suc y.slot; body = y.body; held = y.held; serial = y.serial }

    test : (c : Body) → body_in x ≡ Some c → (t : Truth) → (c.serial == a) ≡ t → is_some (if t then Some c else body_with a xs) ≡ true
        → (is_some (body_with a xs) ≡ true → Found a xs) → Found a (x ∷ xs)
    test c f true is e rest = record { slot = 0; body = c; held = f; serial = eq-true c.serial a is }
    test c f false is e rest = behind (rest e)

    by : (o : Option Body) → body_in x ≡ o → is_some (if has_serial a o then o else body_with a xs) ≡ true
        → (is_some (body_with a xs) ≡ true → Found a xs) → Found a (x ∷ xs)
    by None f e rest = behind (rest e)
    by (Some c) f e rest = test c f (c.serial == a) refl e rest

pub holds-there : (h : Heap) (s : ℕ) (b : Body) → body_at h s ≡ Some b → holds h b.serial ≡ true
holds-there h s b e = holds-in b.serial h.slots s b e refl

pub holds-back : (h : Heap) (a : ℕ) → holds h a ≡ true → (s : ℕ) × (b : Body) × (body_at h s ≡ Some b) × (b.serial ≡ a)
holds-back h a e = let y = in-holds a h.slots e in (y.slot, y.body, y.held, y.serial)

pub lacks-not : (h : Heap) (a : ℕ) → holds h a ≡ false → LacksSerial h a
lacks-not h a e s b is same =
    false≢true (sym e ∙ subst (λ n. holds h n ≡ true) same (holds-there h s b is))

-- What a machine shows

-- a value in a slot of a frame is that of a word among all slots
pub frame-slot : (h : Heap) (slots : List Word) (at : ℕ) (fs : List FrameRow) (n : ℕ) (f : Frame) (s : ℕ) (x : Val)
    → slice_get (frames_from h slots at fs) n ≡ Some f → slice_get f.slots s ≡ Some x
    → (j : ℕ) × (w : Word) × (slice_get slots j ≡ Some w) × (val_of h w ≡ x)
frame-slot h slots at [] n f s x e is = absurd (none-some f e)
frame-slot h slots at (r ∷ fs) zero f s x e is =
    let here = same_Some (record { slots = map (val_of h) (drop at slots); back = r.back }) f e in
    let w = word-back h (drop at slots) s x (ap (λ (f : Frame). slice_get f.slots s) here ∙ is) in
    (at + s, w.0, sym (get-drop at s slots) ∙ w.1, w.2)
frame-slot h slots at (r ∷ fs) (suc n) f s x e is =
    let y = frame-slot h (take at slots) r.below fs n f s x e is in
    (y.0, y.1, get-take at y.0 slots y.1 y.2, y.3)

-- a value in a field of an object is that of a word in a field of a held cell
pub record FieldOf (h : Heap) (a k : ℕ) (o : Seen) (x : Val) : Type 0 where
  pub slot : ℕ
  pub body : Body
  pub held : body_at h slot ≡ Some body
  pub serial : body.serial ≡ a
  pub label : label_at h slot ≡ Some o.label
  pub word : Word
  pub leads : field_at h slot k ≡ Some word
  pub shown : val_of h word ≡ x

pub field-there : (h : Heap) (a k : ℕ) (o : Seen) (x : Val) → slice_get (store_of h) a ≡ Some o → slice_get o.fields k ≡ Some x → FieldOf h a k o x
field-there h a k o x e is = elim (store-back h a o e) [
  | inl y ↦
      (let w = word-back h y.body.fields k x (sym (ap (λ (o : Seen). slice_get o.fields k) y.shown) ∙ is) in
      record {
        slot = y.slot;
        body = y.body;
        held = y.held;
        serial = y.serial;
        label = ap (option_map (λ (b : Body). b.label)) y.held ∙ ap Some (sym (ap (λ (o : Seen). o.label) y.shown));
        word = w.0;
        leads = field-in h y.slot k y.body y.held ∙ w.1;
        shown = w.2;
      })
  | inr y ↦ absurd (none-some x (sym (ap (λ (o : Seen). slice_get o.fields k) y) ∙ is))
]

-- nil leads nowhere
nil-keeps : (kept : ℕ → Truth) (m : Machine) → KeepsOf kept m val.Nil
nil-keeps kept m a e lies = absurd cc

unwrap-keeps : (kept : ℕ → Truth) (m : Machine) (o : Option Val) → ((x : Val) → o ≡ Some x → KeepsOf kept m x) → KeepsOf kept m (unwrap_or o val.Nil)
unwrap-keeps kept m None h = nil-keeps kept m
unwrap-keeps kept m (Some x) h = h x refl

-- Managers

range-at : (a k i j : ℕ) → slice_get (range_with_len a k) i ≡ Some j → j ≡ a + i
range-at a zero i j e = absurd (none-some j e)
range-at a (suc k) zero j e = let same : a ≡ j = same_Some a j e in omega (arith, same)
range-at a (suc k) (suc i) j e = let on = range-at (a + 1) k i j e in omega (arith, on)

-- as many regions with the same manager at a number show the same there
managers-same : (t u : RegionTable) (n : ℕ) → u.next ≡ t.next → manager_with n u.records ≡ manager_with n t.records
    → slice_get (managers_of u) n ≡ slice_get (managers_of t) n
managers-same t u n next same =
    slice_get-map (λ k. manager_with k u.records) (range_with_len 0 u.next) n
    ∙ ap (λ y. option_map (λ k. manager_with k u.records) (slice_get (range_with_len 0 y) n)) next
    ∙ by (slice_get (range_with_len 0 t.next) n) refl
    ∙ sym (slice_get-map (λ k. manager_with k t.records) (range_with_len 0 t.next) n)
  where
    by : (o : Option ℕ) → slice_get (range_with_len 0 t.next) n ≡ o
        → option_map (λ k. manager_with k u.records) (slice_get (range_with_len 0 t.next) n)
        ≡ option_map (λ k. manager_with k t.records) (slice_get (range_with_len 0 t.next) n)
    by None e = ap (option_map (λ k. manager_with k u.records)) e ∙ sym (ap (option_map (λ k. manager_with k t.records)) e)
    by (Some j) e =
        let is : j ≡ n = (let x = range-at 0 t.next n j e in omega (arith, x)) in
        ap (option_map (λ k. manager_with k u.records)) e
        ∙ ap Some (ap (λ k. manager_with k u.records) is ∙ same ∙ sym (ap (λ k. manager_with k t.records) is))
        ∙ sym (ap (option_map (λ k. manager_with k t.records)) e)

module _ (old new : Parts) (v : Stack) (at : ℕ) (q : Serials old.cells.heap) (g : Grove old.cells old.regions)
    (lead : (s : ℕ) → AllLead new.cells.heap s) (st : Stands old v) (once : owned_once (machine_of old v at) ≡ true) (a : Active old v)
    (Cell : ℕ → Type 0) (c : Collects old new a.window.region a.rec Cell)
    (root : (s : ℕ) → LiesIn old.cells.heap a.rec.number s → Root old.cells.heap (roots_in old v a) s → Cell s → ⊥) where
  abbrev h : Heap
  h = old.cells.heap

  abbrev h₂ : Heap
  h₂ = new.cells.heap

  abbrev m : Machine
  m = machine_of old v at

  abbrev r : ℕ
  r = a.rec.number

  abbrev Gone : ℕ → Type 0
  Gone n = LostBelow old r Cell n

  same-body : (s : ℕ) (b : Body) → body_at h₂ s ≡ Some b → body_at h s ≡ Some b
  same-body s b e = was old new v at q g st once a Cell c root s b e

  -- a cell whose serial is still held is held
  kept-held : (s : ℕ) (b : Body) → body_at h s ≡ Some b → holds h₂ b.serial ≡ true → body_at h₂ s ≡ Some b
  kept-held s b e k =
      let x = holds-back h₂ b.serial k in
      let before = same-body x.0 x.1 x.2 in
      let same : x.0 ≡ s = q.differ x.0 s x.1 b before e x.3 in
      ap (body_at h₂) (sym same) ∙ x.2 ∙ ap Some (same_Some x.1 b (sym before ∙ ap (body_at h) same ∙ e))

  held-kept : (s : ℕ) (b : Body) → body_at h s ≡ Some b → IsHeld h₂ s → holds h₂ b.serial ≡ true
  held-kept s b e held =
      let y = held-body h₂ s held in
      let same : y.0 ≡ b = same_Some y.0 b (sym (same-body s y.0 y.1) ∙ e) in
      subst (λ (b : Body). holds h₂ b.serial ≡ true) same (holds-there h₂ s y.0 y.1)

  abbrev opened : Opened new v
  opened = opened-behind old new v at q g st once a Cell c root

  stays : (s : ℕ) → LiesIn h r s → (Cell s → ⊥) → IsHeld h₂ s
  stays s lies out = root-stays old new v at q g st once a Cell c root s lies out

  -- What is kept

  abbrev K : Val → Type 0
  K x = KeepsOf (holds h₂) m x

  word-keeps : (w : Word) → ((s : ℕ) → w ≡ word.Slot s → LiesIn h r s → IsHeld h₂ s) → K (val_of h w)
  word-keeps w stay b e lies =
      let x = val-back h w b e in
      let y = region-back h b r q (lies ∙ ap Some a.shown) in
      let same : y.0 ≡ x.slot = q.differ y.0 x.slot y.1 x.body y.2 x.held (y.3 ∙ sym x.serial) in
      subst (λ n. holds h₂ n ≡ true) x.serial (held-kept x.slot x.body x.held (stay x.slot x.is (subst (LiesIn h r) same y.4)))

  slot-keeps : (j : ℕ) (w : Word) → slice_get v.slots j ≡ Some w → K (val_of h w)
  slot-keeps j w e = word-keeps w (λ s is lies.
      stays s lies (slot-root old new v at q g st once a Cell c root j s (e ∙ ap Some is) lies))

  frame-keeps : (n : ℕ) (f : Frame) (s : ℕ) (x : Val) → slice_get m.frames n ≡ Some f → slice_get f.slots s ≡ Some x → K x
  frame-keeps n f s x e is =
      let y = frame-slot h v.slots v.first (reverse v.frames) n f s x e is in subst K y.3 (slot-keeps y.0 y.1 y.2)

  temp-keeps : (b k n : ℕ) (o : Seen) (x : Val) → FieldOf h b k o x → o.label ≡ Temp n → K x
  temp-keeps b k n o x f is =
      let label : label_at h f.slot ≡ Some (Temp n) = f.label ∙ ap Some is in
      let w = st.temps f.slot n label in
      let t = st.opened.all_temps w.0 f.slot w.1 w.2 (label ∙ ap (λ n. Some (Temp n)) (sym w.3)) in
      subst K f.shown (word-keeps f.word (λ s e lies.
      stays s lies (temp-root old new v at q g st once a Cell c root w.0 f.slot k s w.1 w.2 t (f.leads ∙ ap Some e) lies)))

  field-keeps : (b k : ℕ) (o : Seen) (x : Val) → FieldOf h b k o x → holds h₂ b ≡ true → K x
  field-keeps b k o x f kept = subst K f.shown (word-keeps f.word (λ s e lies.
      let now = kept-held f.slot f.body f.held (subst (λ n. holds h₂ n ≡ true) (sym f.serial) kept) in
      lead f.slot k s (field-in h₂ f.slot k f.body now ∙ sym (field-in h f.slot k f.body f.held) ∙ f.leads ∙ ap Some e)))

  -- a field of another region's cell leads to the bridge
  other-keeps : (b k n : ℕ) (o : Seen) (x : Val) → FieldOf h b k o x → o.label ≡ Region n → n ≢ r → K x
  other-keeps b k n o x f is d = subst K f.shown (word-keeps f.word (λ s e lies.
      stays s lies (bridge-root old new v at q g st once a Cell c root s lies (bridge s e lies))))
    where
      bridge : (s : ℕ) → f.word ≡ word.Slot s → LiesIn h r s → IsBridge old.regions r s
      bridge s e lies = elim (g.fields n f.slot k s (f.label ∙ ap Some is) (f.leads ∙ ap Some e)) [
        | inl frozen ↦ absurd (frozen-region r (sym frozen ∙ lies))
        | inr more ↦ elim more [
          | inl own ↦ absurd (d (region-same n r (sym own ∙ lies)))
          | inr y ↦ subst (λ n. IsBridge old.regions n s) (region-same y.0 r (sym y.2 ∙ lies)) y.3
        ]
      ]

  frozen-keeps : (b k : ℕ) (o : Seen) (x : Val) → FieldOf h b k o x → o.label ≡ Frozen → K x
  frozen-keeps b k o x f is = subst K f.shown (word-keeps f.word (λ s e lies. absurd (frozen-region r
      (sym (g.frozen f.slot k s (f.label ∙ ap Some is) (f.leads ∙ ap Some e)) ∙ lies))))

  -- an owner of the active region, which isn't in the region itself
  object-keeps : (b k : ℕ) (o : Seen) (x : Val) → FieldOf h b k o x → (o.label ≡ Region r → ⊥) → K x
  object-keeps b k o x f out = by o.label refl
    where
      by : (l : Label) → o.label ≡ l → K x
      by (Region n) is = elim (cases_eq n r) [
        | inl same ↦ absurd (out (is ∙ ap Region same))
        | inr d ↦ other-keeps b k n o x f is d
      ]
      by (Temp n) is = temp-keeps b k n o x f is
      by Frozen is = frozen-keeps b k o x f is

  place-keeps : (p : Place) → ((b k : ℕ) (o : Seen) → p ≡ place.Field b k → slice_get m.store b ≡ Some o → o.label ≡ Region r → ⊥)
      → K (value_at m p)
  place-keeps (place.Var n s) out = by (slice_get (reverse m.frames) n) refl
    where
      by : (o : Option Frame) → slice_get (reverse m.frames) n ≡ o
          → K (elim o [ None ↦ val.Nil | Some f ↦ unwrap_or (slice_get f.slots s) val.Nil ])
      by None e = nil-keeps (holds h₂) m
      by (Some f) e =
          let k = reverse-get m.frames n f e in
          unwrap-keeps (holds h₂) m (slice_get f.slots s) (λ x is. frame-keeps k.0 f s x k.1 is)
  place-keeps (place.Field b k) out = by (slice_get m.store b) refl
    where
      by : (o : Option Seen) → slice_get m.store b ≡ o → K (elim o [ None ↦ val.Nil | Some o ↦ field_of o k ])
      by None e = nil-keeps (holds h₂) m
      by (Some o) e =
          unwrap-keeps (holds h₂) m (slice_get o.fields k) (λ x is.
          object-keeps b k o x (field-there h b k o x e is) (out b k o refl e))

  owner-keeps : (o : Option Place)
      → ((b k : ℕ) (x : Seen) → o ≡ Some (place.Field b k) → slice_get m.store b ≡ Some x → x.label ≡ Region r → ⊥)
      → K (elim o [ None ↦ val.Nil | Some p ↦ value_at m p ])
  owner-keeps None out = nil-keeps (holds h₂) m
  owner-keeps (Some p) out = place-keeps p (λ b k x is. out b k x (ap Some is))

  bridge-keeps : OwnerOutside m m.windows → K (bridge_value m m.windows)
  bridge-keeps =
      subst (λ ws. OwnerOutside m ws → K (bridge_value m ws)) (sym (top-window old.regions v a.window a.is))
      (λ out. owner-keeps a.window.owner (λ b k x is there label. out b k x is there (label ∙ ap Region number)))
    where
      number : r ≡ number_of old.regions a.window.region
      number = sym (ap number_in a.known)

  pub collection-keeps : OwnerOutside m m.windows → Keeps (holds h) (holds h₂) m
  collection-keeps out = record {
    bridge = bridge-keeps out;
    slots = λ n s f x e is le. frame-keeps n f s x e is;
    temps = λ b k o x held e label is. temp-keeps b k (top_window m.windows) o x (field-there h b k o x e is) label;
    fields = λ b k o x held kept e label is. field-keeps b k o x (field-there h b k o x e is) kept;
  }

  -- What goes

  -- a cell of the active region that isn't held any more is one that goes
  cell-goes : (s : ℕ) (b : Body) → body_at h s ≡ Some b → LiesIn h r s → holds h₂ b.serial ≡ false → (Cell s → ⊥) → ⊥
  cell-goes s b e lies lacks out = false≢true (sym lacks ∙ held-kept s b e (stays s lies out))

  -- links between regions of the store are those of the heap
  record Linked (p n : ℕ) (object : ℕ) : Type 0 where
    pub parent : Parent h p n
    pub body : Body
    pub held : body_at h parent.from ≡ Some body
    pub serial : body.serial ≡ object

  linked : (p n : ℕ) (l : LinkOut (holds h) m p n) → Linked p n l.object
  linked p n l =
      let f = field-there h l.object l.field l.holder (val.Obj l.address) l.there l.value in
      let to = val-back h f.word l.address f.shown in
      let y = region-back h l.address n q l.leads in
      let same : y.0 ≡ to.slot = q.differ y.0 to.slot y.1 to.body y.2 to.held (y.3 ∙ sym to.serial) in
      record {
        parent = record {
          differ = l.differ;
          from = f.slot;
          field = l.field;
          to = to.slot;
          lies = f.label ∙ ap Some l.lies;
          leads = f.leads ∙ ap Some to.is;
          child_has = subst (LiesIn h n) same y.4;
        };
        body = f.body;
        held = f.held;
        serial = f.serial;
      }

  label-of : (s : ℕ) (b : Body) (l : Label) → body_at h s ≡ Some b → label_at h s ≡ Some l → b.label ≡ l
  label-of s b l e is = same_Some b.label l (sym (ap (option_map (λ (b : Body). b.label)) e) ∙ is)

  record LinkAs (p n s : ℕ) : Type 0 where
    pub link : LinkOut (holds h) m p n
    pub body : Body
    pub held : body_at h s ≡ Some body
    pub object : link.object ≡ body.serial

  link-out : (p n : ℕ) (x : Parent h p n) → LinkAs p n x.from
  link-out p n x =
      let b = held-body h x.from (labelled_held h x.from (Region p) x.lies) in
      let d = held-body h x.to (labelled_held h x.to (Region n) x.child_has) in
      record {
        link = record {
          object = b.0.serial;
          holder = object_of h (Some b.0);
          field = x.field;
          address = d.0.serial;
          differ = x.differ;
          here = holds-there h x.from b.0 b.1;
          there = store-held h x.from b.0 q b.1;
          lies = label-of x.from b.0 (Region p) b.1 x.lies;
          value =
              slice_get-map (val_of h) b.0.fields x.field
              ∙ ap (option_map (val_of h)) (sym (field-in h x.from x.field b.0 b.1) ∙ x.leads)
              ∙ ap Some (val-held h x.to d.0 d.1);
          leads = region-there h x.to n d.0 q d.1 x.child_has;
        };
        body = b.0;
        held = b.1;
        object = refl;
      }

  abbrev L : ℕ → Type 0
  L n = Loses (holds h) (holds h₂) m n

  first-goes : (n p : ℕ) → p ≡ r → (l : LinkOut (holds h) m p n) → holds h₂ l.object ≡ false → (Gone n → ⊥) → ⊥
  first-goes n p is l lacks out =
      let x = linked p n l in
      let lies : LiesIn h r x.parent.from = x.parent.lies ∙ ap (λ n. Some (Region n)) is in
      cell-goes x.parent.from x.body x.held lies (ap (holds h₂) x.serial ∙ lacks) (λ cell. out (
        n,
        record {
          slot = x.parent.from;
          field = x.parent.field;
          to = x.parent.to;
          from = lies;
          gone = cell;
          leads = x.parent.leads;
          lies = x.parent.child_has;
          other = λ e. l.differ (is ∙ sym e);
        },
        inl refl,
      ))

  below-goes : (p n : ℕ) → Gone p → Parent h p n → Gone n
  below-goes p n b x = (
    b.0,
    b.1,
    inr (
      g.labels n x.to x.child_has,
      elim b.2 [
        | inl is ↦ subst (λ y. Above h y n) is (direct x)
        | inr y ↦ further y.1 x
      ],
    ),
  )

  -- a region that is lost goes
  loses-goes : {n : ℕ} → L n → (Gone n → ⊥) → ⊥
  loses-goes (first {q = n} l lacks) out = first-goes n (top_region m.windows) a.shown l lacks out
  loses-goes (later {p = p} {q = n} x l) out = loses-goes x (λ goes. out (below-goes p n goes (linked p n l).parent))

  freed-not : (s : ℕ) (b : Body) → body_at h s ≡ Some b → body_at h₂ s ≡ None → holds h₂ b.serial ≡ false
  freed-not s b e none = never (holds h₂ b.serial) (λ k. none-some b (sym none ∙ kept-held s b e k))

  lost-loses : (n : ℕ) → Lost h r Cell n → L n
  lost-loses n l =
      let x = link-out r n (lost-parent h r Cell n l) in
      loses r (sym a.shown) x.link
      (ap (holds h₂) x.object ∙ freed-not l.slot x.body x.held (c.freed l.slot l.from l.gone))
    where
      loses : (p : ℕ) → p ≡ top_region m.windows → (l : LinkOut (holds h) m p n) → holds h₂ l.object ≡ false → L n
      loses p is =
          subst (λ p. (l : LinkOut (holds h) m p n) → holds h₂ l.object ≡ false → L n) (sym is) (λ l lacks. first l lacks)

  above-loses : {t n : ℕ} → Above h t n → L t → L n
  above-loses (direct {p = p} {r = n} x) y = later y (link-out p n x).link
  above-loses (further {p = p} {q = o} {r = n} z x) y = later (above-loses z y) (link-out o n x).link

  -- and a region that goes is lost
  goes-loses : (n : ℕ) → Gone n → L n
  goes-loses n b = elim b.2 [
    | inl is ↦ subst L (sym is) (lost-loses b.0 b.1)
    | inr x ↦ above-loses x.1 (lost-loses b.0 b.1)
  ]

  -- Managers

  record-now : (key : ℕ) (u : Record) → record_at old.regions key ≡ Some u → (Gone u.number → ⊥)
      → (x : Record) × (record_at new.regions key ≡ Some x) × (x.number ≡ u.number) × (x.manager ≡ u.manager)
  record-now key u e out = elim (cases_eq key a.window.region) [
    | inl is ↦
        let same : a.rec ≡ u = same_Some a.rec u (sym a.known ∙ ap (record_at old.regions) (sym is) ∙ e) in (
          c.own.0,
          ap (record_at new.regions) is ∙ c.own.1,
          c.own.2 ∙ ap (λ (x : Record). x.number) same,
          c.own.3 ∙ ap (λ (x : Record). x.manager) same,
        )
    | inr d ↦ (
      u,
      c.records key d (λ n goes has.
          let number : u.number ≡ n = same_Some u.number n (sym (ap (option_map (λ (r : Record). r.number)) e) ∙ has) in
          out (subst Gone (sym number) goes)) ∙ e,
      refl,
      refl,
    )
  ]

  fewer-now : FewerNumbers old.regions new.regions
  fewer-now = fewer old new v at q g st once a Cell c root

  manager-kept : (n : ℕ) → (L n → ⊥) → manager_with n new.regions.records ≡ manager_with n old.regions.records
  manager-kept n stays = elim (look-number old.regions n) [
    | inl k ↦
        let x = record-now k.key k.rec k.there (λ goes. stays (goes-loses n (subst Gone k.number goes))) in
        ap (λ n. manager_with n new.regions.records) (sym (x.2 ∙ k.number))
        ∙ manager-of new.regions k.key x.0 (fewer-numbers old.regions new.regions fewer-now st.numbers) x.1
        ∙ x.3 ∙ sym k.shown
    | inr u ↦ elim (look-number new.regions n) [
      | inl k ↦ (let y = fewer-now.there k.key k.rec k.there in absurd (u.none k.key y.0 y.1 (y.2 ∙ k.number)))
      | inr w ↦ w.shown ∙ sym u.shown
    ]
  ]

  -- The store

  object-kept : (b : ℕ) → holds h₂ b ≡ true → slice_get (store_of h₂) b ≡ slice_get (store_of h) b
  object-kept b k =
      let x = holds-back h₂ b k in
      let same : object_of h₂ (Some x.1) ≡ object_of h (Some x.1) = object-same h h₂ x.1 (λ k s f.
      ap obj_of (same-now old new v at q g st once a Cell c root s (lead x.0 k s (field-in h₂ x.0 k x.1 x.2 ∙ f)))) in
      subst (λ n. slice_get (store_of h₂) n ≡ slice_get (store_of h) n) x.3
      (store-held h₂ x.0 x.1 (serials-behind old new v at q g st once a Cell c root) x.2 ∙ ap Some same
      ∙ sym (store-held h x.0 x.1 q (same-body x.0 x.1 x.2)))

  object-gone : (b : ℕ) → holds h₂ b ≡ false → slice_get (store_of h₂) b ≡ option_map (λ (o : Seen). gone) (slice_get (store_of h) b)
  object-gone b k = elim (order b h.next) [
    | inl lt ↦
        let next = c.serials in
        store-gone h₂ b (omega (arith, lt, next)) (lacks-not h₂ b k) ∙ sym (ap (option_map (λ (o : Seen). gone)) (store-at h b lt))
    | inr le ↦
        let next = c.serials in
        slice_get_past (store_of h₂) b (omega (arith, le, next, store-length h₂))
        ∙ sym (ap (option_map (λ (o : Seen). gone)) (slice_get_past (store_of h) b (omega (arith, le, store-length h))))
  ]

  shown-label : (b s : ℕ) (d : Body) (o : Seen) → body_at h s ≡ Some d → d.serial ≡ b → slice_get (store_of h) b ≡ Some o → d.label ≡ o.label
  shown-label b s d o e is there =
      ap (λ (o : Seen). o.label) (same_Some (object_of h (Some d)) o
      (sym (store-held h s d q e) ∙ ap (slice_get (store_of h)) is ∙ there))

  pub collection-gathered : Gathered (holds h) (holds h₂) m (machine_of new v at) m
  collection-gathered = record {
    frames = frames-same h h₂ v (λ k s e. ap obj_of (slot-stays old new v at q g st once a Cell c root k s e));
    windows =
        kept-windows old.regions new.regions v (fewer-windows old.regions new.regions v fewer-now opened.known);
    windows_made = refl;
    at = refl;
    managers_made = managers-length new.regions ∙ c.numbers ∙ sym (managers-length old.regions);
    managers = λ n out. managers-same old.regions new.regions n c.numbers (manager-kept n out);
    objects_made = store-length h₂ ∙ c.serials ∙ sym (store-length h);
    fewer = λ b k.
        let x = holds-back h₂ b k in subst (λ n. holds h n ≡ true) x.3 (holds-there h x.0 x.1 (same-body x.0 x.1 x.2));
    same = object-kept;
    others = object-gone;
    lost = λ b n o held e label loses. never (holds h₂ b) (λ k.
        let x = holds-back h₂ b k in
        let before = same-body x.0 x.1 x.2 in
        let lies : LiesIn h n x.0 =
        ap (option_map (λ (b : Body). b.label)) before ∙ ap Some (shown-label b x.0 x.1 o before x.3 e ∙ label) in
        loses-goes loses (λ goes. none-some x.1 (sym (c.lost n x.0 goes lies) ∙ x.2)));
    stays = λ b o held e out none.
        let x = holds-back h b held in
        let label = shown-label b x.0 x.1 o x.2 x.3 e in
        let lies : (n : ℕ) → LiesIn h n x.0 → o.label ≡ Region n = λ n l. sym label ∙ label-of x.0 x.1 (Region n) x.2 l in
        let same = c.cells x.0 (λ l cell. out (lies r l ∙ ap Region (sym a.shown))) (λ n goes l. none n (lies n l) (goes-loses n goes)) in
        subst (λ n. holds h₂ n ≡ true) x.3 (holds-there h₂ x.0 x.1 (same ∙ x.2));
  }
