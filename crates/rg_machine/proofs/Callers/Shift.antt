-- Cells that change places, and all words that lead to them with them: they show the same machine, and what stands of the one heap stands of
-- the other.
use Rattle.std.proofs.Common.{◌≡◌, ℕ, suc, ◌+◌, true, false, Bool as Truth, List, [], ◌∷◌, map, take, drop, reverse, length, Option, Some, None}
use Rattle.std.proofs.Common.{inl, inr, option_map, slice_get, refl, sym, ap, ◌∙◌, subst}
use Rattle.std.specs.List.{range_with_len}
use Rattle.std.proofs.lemmas.Bool.{false≢true}
use Rattle.std.proofs.lemmas.List.{length-map, take-map, drop-map}
use Rattle.std.proofs.lemmas.Option.{none-some, same_Some, slice_get-map}
use Rattle.rg_base.specs.declared.object.Label.{Label}
use Rattle.rg_base.specs.declared.object.Label.TheVariants.{Region, Temp}
use Rattle.rg_base.specs.declared.value.Word.{Word}
use Rattle.rg_base.specs.declared.value.Word.TheVariants as word
use Rattle.rg_base.proofs.Callers.Labels.{slot-same}
use Rattle.rg_cells.specs.declared.cell.Body.{Body}
use Rattle.rg_cells.specs.Table.{Heap, Table, body_at, label_at, field_at, Serials, IsHeld}
use Rattle.rg_regions.specs.Grove.{Members, Parent}
use Rattle.rg_regions.specs.Reach.{LiesIn}
use Rattle.rg_regions.specs.Table.{RegionTable, IsBridge}
use Rattle.rg_regions.proofs.Callers.Told.{labelled_held}
use Rattle.rg_frames.specs.declared.rows.Frame.{Frame as FrameRow}
use Rattle.rg_frames.specs.Layers.{layers_from}
use Rattle.rg_frames.specs.Stack.{Stack}
use Rattle.rg_heap.specs.Answers.{val_of, obj_of, AllLead}
use Rattle.rg_heap.specs.Opened.{Opened}
use Rattle.rg_heap.specs.Parts.{Parts}
use Rattle.rg_view.specs.Lain.{Nested}
use Rattle.rg_view.specs.View.{frame_of, frames_of, machine_of, object_of, seen_of, store_of}
use Rattle.rg_view.proofs.Callers.Look.{look, seen-gone, seen-held}
use Rattle.rg_view.proofs.Callers.Shown.{body-held, field-in, framed, get-drop, get-take, held-body, object}
use Rattle.rg_machine.specs.Collects.{holds}
use Rattle.rg_machine.specs.Stands.{Stands}
use Rattle.rg_machine.proofs.Callers.Gather.{holds-back, holds-there}
use Rattle.rg_machine.proofs.New.Grow.{field-held}

-- where a word leads when cells have moved, each to its new place
abbrev pub shift : (ℕ → ℕ) → Word → Word
shift f word.Nil = word.Nil
shift f (word.Int z) = word.Int z
shift f (word.Bool b) = word.Bool b
shift f (word.Slot s) = word.Slot (f s)

-- a body whose words lead to the new places
abbrev pub led_on : (ℕ → ℕ) → Body → Body
led_on f b = record b { fields = map (shift f) b.fields }

-- Each held cell stands at its new place, with its words led on; there are no others, and no word leads to a cell that isn't held.
pub record Shifted (f : ℕ → ℕ) (old new : Heap) : Type 0 where
  pub next : new.next ≡ old.next
  pub on : (s : ℕ) (b : Body) → body_at old s ≡ Some b → body_at new (f s) ≡ Some (led_on f b)
  pub back : (s : ℕ) (d : Body) → body_at new s ≡ Some d → (x : ℕ) × (b : Body) × (body_at old x ≡ Some b) × (f x ≡ s)
  pub leads : (s : ℕ) → AllLead old s

map-each : {A B : Type 0} (g k : A → B) → ((x : A) → g x ≡ k x) → (xs : List A) → map g xs ≡ map k xs
map-each g k h [] = refl
map-each g k h (x ∷ xs) = ap (λ y. y ∷ map g xs) (h x) ∙ ap (λ ys. k x ∷ ys) (map-each g k h xs)

-- a word that leads to a cell led to it before
pub shift-slot : (f : ℕ → ℕ) (w : Word) (s : ℕ) → shift f w ≡ word.Slot s → (x : ℕ) × (w ≡ word.Slot x) × (f x ≡ s)
shift-slot f word.Nil s e = absurd cc
shift-slot f (word.Int z) s e = absurd cc
shift-slot f (word.Bool b) s e = absurd cc
shift-slot f (word.Slot x) s e = (x, refl, slot-same (f x) s e)

-- so it is in a list of words
pub shifted-slot : (f : ℕ → ℕ) (ws : List Word) (k s : ℕ) → slice_get (map (shift f) ws) k ≡ Some (word.Slot s)
    → (x : ℕ) × (slice_get ws k ≡ Some (word.Slot x)) × (f x ≡ s)
shifted-slot f ws k s e = by (slice_get ws k) refl
  where
    by : (o : Option Word) → slice_get ws k ≡ o → (x : ℕ) × (slice_get ws k ≡ Some (word.Slot x)) × (f x ≡ s)
    by None g = absurd (none-some (word.Slot s) (sym (slice_get-map (shift f) ws k ∙ ap (option_map (shift f)) g) ∙ e))
    by (Some w) g =
        let x = shift-slot f w s (same_Some (shift f w) (word.Slot s) (sym (slice_get-map (shift f) ws k ∙ ap (option_map (shift f)) g) ∙ e)) in
        (x.0, g ∙ ap Some x.1, x.2)

-- words that lead to held cells
abbrev AllHeld : Heap → List Word → Type 0
AllHeld h ws = (k s : ℕ) → slice_get ws k ≡ Some (word.Slot s) → IsHeld h s

module _ (f : ℕ → ℕ) (old new : Heap) (m : Shifted f old new) where
  -- What is shown

  val-shift : (w : Word) → ((s : ℕ) → w ≡ word.Slot s → IsHeld old s) → val_of new (shift f w) ≡ val_of old w
  val-shift word.Nil h = refl
  val-shift (word.Int z) h = refl
  val-shift (word.Bool b) h = refl
  val-shift (word.Slot s) h =
      let b = held-body old s (h s refl) in
      ap obj_of (m.on s b.0 b.1) ∙ sym (ap obj_of b.1)

  vals-shift : (ws : List Word) → AllHeld old ws → map (val_of new) (map (shift f) ws) ≡ map (val_of old) ws
  vals-shift [] h = refl
  vals-shift (w ∷ ws) h =
      ap (λ v. v ∷ map (val_of new) (map (shift f) ws)) (val-shift w (λ s e. h 0 s (ap Some e)))
      ∙ ap (λ vs. val_of old w ∷ vs) (vals-shift ws (λ k s e. h (suc k) s e))

  object-shift : (s : ℕ) (b : Body) → body_at old s ≡ Some b → object_of new (Some (led_on f b)) ≡ object_of old (Some b)
  object-shift s b e =
      ap (object b.class b.label) (vals-shift b.fields (λ k to g. m.leads s k to (field-in old s k b e ∙ g)))

  -- the cell that has moved to a slot
  pub was-at : (s : ℕ) (d : Body) → body_at new s ≡ Some d → (x : ℕ) × (b : Body) × (body_at old x ≡ Some b) × (f x ≡ s) × (d ≡ led_on f b)
  was-at s d e =
      let x = m.back s d e in
      (x.0, x.1, x.2, x.3, same_Some d (led_on f x.1) (sym e ∙ ap (body_at new) (sym x.3) ∙ m.on x.0 x.1 x.2))

  seen-shift : Serials new → (a : ℕ) → seen_of new a ≡ seen_of old a
  seen-shift q a = elim (look old a) [
    | inl here ↦
        ap (seen_of new) (sym here.serial)
        ∙ seen-held new (f here.slot) (led_on f here.body) q (m.on here.slot here.body here.held)
        ∙ object-shift here.slot here.body here.held
        ∙ sym here.shown
    | inr missing ↦
        seen-gone new a (λ s d e is.
        let x = was-at s d e in missing.lacks x.0 x.1 x.2 (ap (λ (b : Body). b.serial) (sym x.4) ∙ is))
        ∙ sym missing.shown
  ]

  store-shift : Serials new → store_of new ≡ store_of old
  store-shift q =
      ap (λ n. map (seen_of new) (range_with_len 0 n)) m.next
      ∙ map-each (seen_of new) (seen_of old) (seen-shift q) (range_with_len 0 old.next)

  -- the same serials are held
  holds-on : (a : ℕ) → holds old a ≡ true → holds new a ≡ true
  holds-on a e =
      let x = holds-back old a e in
      subst (λ n. holds new n ≡ true) x.3 (holds-there new (f x.0) (led_on f x.1) (m.on x.0 x.1 x.2))

  holds-off : (a : ℕ) → holds new a ≡ true → holds old a ≡ true
  holds-off a e =
      let y = holds-back new a e in
      let x = was-at y.0 y.1 y.2 in
      subst (λ n. holds old n ≡ true) (ap (λ (b : Body). b.serial) (sym x.4) ∙ y.3) (holds-there old x.0 x.1 x.2)

  pub holds-shift : (a : ℕ) → holds new a ≡ holds old a
  holds-shift a = by (holds old a) refl (holds new a) refl
    where
      by : (t : Truth) → holds old a ≡ t → (u : Truth) → holds new a ≡ u → holds new a ≡ holds old a
      by true e u g = holds-on a e ∙ sym e
      by false e true g = absurd (false≢true (sym e ∙ holds-off a g))
      by false e false g = g ∙ sym e

  layers-shift : (ws : List Word) (first : ℕ) (fs : List FrameRow) → AllHeld old ws
      → map (frame_of new) (layers_from (map (shift f) ws) first fs) ≡ map (frame_of old) (layers_from ws first fs)
  layers-shift ws first [] h = refl
  layers-shift ws first (r ∷ fs) h =
      ap (framed r.back (map (frame_of new) (layers_from (take first (map (shift f) ws)) r.below fs)))
      (ap (map (val_of new)) (drop-map (shift f) first ws)
      ∙ vals-shift (drop first ws) (λ k s e. h (first + k) s (sym (get-drop first k ws) ∙ e)))
      ∙ ap (λ us. framed r.back (map (frame_of new) (layers_from us r.below fs)) (map (val_of old) (drop first ws))) (take-map (shift f) first ws)
      ∙ ap (λ gs. frame_of old (record { slots = drop first ws; back = r.back }) ∷ gs)
      (layers-shift (take first ws) r.below fs (λ k s e. h k s (get-take first k ws (word.Slot s) e)))

  pub frames-shift : (v : Stack) → AllHeld old v.slots → frames_of new (record v { slots = map (shift f) v.slots }) ≡ frames_of old v
  frames-shift v h = layers-shift v.slots v.first (reverse v.frames) h

  -- What stands

  pub held-on : (s : ℕ) → IsHeld old s → IsHeld new (f s)
  held-on s h = let b = held-body old s h in body-held new (f s) (led_on f b.0) (m.on s b.0 b.1)

  label-same : (s : ℕ) → IsHeld old s → label_at new (f s) ≡ label_at old s
  label-same s h =
      let b = held-body old s h in
      ap (option_map (λ (b : Body). b.label)) (m.on s b.0 b.1) ∙ sym (ap (option_map (λ (b : Body). b.label)) b.1)

  label-back : (s : ℕ) (l : Label) → label_at new s ≡ Some l → (x : ℕ) × (label_at old x ≡ Some l) × (f x ≡ s)
  label-back s l e =
      let d = held-body new s (labelled_held new s l e) in
      let x = m.back s d.0 d.1 in
      (x.0, sym (label-same x.0 (body-held old x.0 x.1 x.2)) ∙ ap (label_at new) x.3 ∙ e, x.3)

  -- a field that leads to a cell did so where its own cell stood before
  record Led (s k to : ℕ) : Type 0 where
    pub from : ℕ
    pub end : ℕ
    pub held : IsHeld old from
    pub field : field_at old from k ≡ Some (word.Slot end)
    pub end_held : IsHeld old end
    pub from_is : f from ≡ s
    pub end_is : f end ≡ to

  led-back : (s k to : ℕ) → field_at new s k ≡ Some (word.Slot to) → Led s k to
  led-back s k to e =
      let d = held-body new s (field-held new s k (word.Slot to) e) in
      let x = was-at s d.0 d.1 in
      let field : slice_get (map (shift f) x.1.fields) k ≡ Some (word.Slot to) =
      ap (λ (b : Body). slice_get b.fields k) (sym x.4) ∙ sym (field-in new s k d.0 d.1) ∙ e in
      let y = shifted-slot f x.1.fields k to field in
      let leads : field_at old x.0 k ≡ Some (word.Slot y.0) = field-in old x.0 k x.1 x.2 ∙ y.1 in
      record {
        from = x.0;
        end = y.0;
        held = body-held old x.0 x.1 x.2;
        field = leads;
        end_held = m.leads x.0 k y.0 leads;
        from_is = x.3;
        end_is = y.2;
      }

  parent-back : (p r : ℕ) → Parent new p r → Parent old p r
  parent-back p r a =
      let b = led-back a.from a.field a.to a.leads in
      record {
        differ = a.differ;
        from = b.from;
        field = a.field;
        to = b.end;
        lies = sym (label-same b.from b.held) ∙ ap (label_at new) b.from_is ∙ a.lies;
        leads = b.field;
        child_has = sym (label-same b.end b.end_held) ∙ ap (label_at new) b.end_is ∙ a.child_has;
      }

  -- Members

  abbrev home : (s : ℕ) (o : Option Body) → body_at new s ≡ o → ℕ
  home s None e = s
  home s (Some d) e = (m.back s d e).0

  -- where the cell at a slot stood before
  abbrev from : ℕ → ℕ
  from s = home s (body_at new s) refl

  from-is : (s : ℕ) (d : Body) → body_at new s ≡ Some d → IsHeld old (from s) × (f (from s) ≡ s)
  from-is s d e = by (body_at new s) refl e
    where
      by : (o : Option Body) (g : body_at new s ≡ o) → o ≡ Some d → IsHeld old (home s o g) × (f (home s o g) ≡ s)
      by None g is = absurd (none-some d is)
      by (Some c) g is = let x = m.back s c g in (body-held old x.0 x.1 x.2, x.3)

  from-lies : (r s : ℕ) → LiesIn new r s → LiesIn old r (from s) × (f (from s) ≡ s)
  from-lies r s l =
      let d = held-body new s (labelled_held new s (Region r) l) in
      let x = from-is s d.0 d.1 in
      (sym (label-same (from s) x.0) ∙ ap (label_at new) x.1 ∙ l, x.1)

  -- a place stands for one cell
  one-place : Serials old → (x y : ℕ) → IsHeld old x → IsHeld old y → f x ≡ f y → x ≡ y
  one-place q x y here there is =
      let b = held-body old x here in
      let d = held-body old y there in
      let same : led_on f b.0 ≡ led_on f d.0 =
      same_Some (led_on f b.0) (led_on f d.0) (sym (m.on x b.0 b.1) ∙ ap (body_at new) is ∙ m.on y d.0 d.1) in
      q.differ x y b.0 d.0 b.1 d.1 (ap (λ (b : Body). b.serial) same)

  -- the members of a region, where they stood before
  pub members-back : Serials old → (r : ℕ) (ms : List ℕ) → Members new r ms
      → (us : List ℕ) × Members old r us × (length us ≡ length ms)
  members-back q r ms all = (
    map from ms,
    record {
      lie = λ i x e. let y = at i x e in subst (LiesIn old r) y.2 (from-lies r y.0 (all.lie i y.0 y.1)).0;
      all = λ x l.
          let held = labelled_held old x (Region r) l in
          let now : LiesIn new r (f x) = label-same x held ∙ l in
          let i = all.all (f x) now in
          let y = from-lies r (f x) now in
          let same : from (f x) ≡ x = one-place q (from (f x)) x (labelled_held old (from (f x)) (Region r) y.0) held y.1 in
          (i.0, slice_get-map from ms i.0 ∙ ap (option_map from) i.1 ∙ ap Some same);
      once = λ i j x e g.
          let y = at i x e in
          let z = at j x g in
          let same : y.0 ≡ z.0 =
          sym (from-lies r y.0 (all.lie i y.0 y.1)).1 ∙ ap f (y.2 ∙ sym z.2) ∙ (from-lies r z.0 (all.lie j z.0 z.1)).1 in
          all.once i j y.0 y.1 (z.1 ∙ ap Some (sym same));
    },
    length-map ms from,
  )
    where
      at : (i x : ℕ) → slice_get (map from ms) i ≡ Some x → (s : ℕ) × (slice_get ms i ≡ Some s) × (from s ≡ x)
      at i x e = by (slice_get ms i) refl
        where
          by : (o : Option ℕ) → slice_get ms i ≡ o → (s : ℕ) × (slice_get ms i ≡ Some s) × (from s ≡ x)
          by None g = absurd (none-some x (sym (slice_get-map from ms i ∙ ap (option_map from) g) ∙ e))
          by (Some s) g = (s, g, same_Some (from s) x (sym (slice_get-map from ms i ∙ ap (option_map from) g) ∙ e))

module _ (f : ℕ → ℕ) (c n : Table) (t : RegionTable) (v : Stack) (m : Shifted f c.heap n.heap)
    (temps : (s k : ℕ) → label_at c.heap s ≡ Some (Temp k) → f s ≡ s)
    (bridges : (s r : ℕ) → LiesIn c.heap r s → IsBridge t r s → f s ≡ s)
    (st : Stands (record { cells = c; regions = t }) v) where
  abbrev before : Parts
  before = record { cells = c; regions = t }

  abbrev behind : Parts
  behind = record { cells = n; regions = t }

  abbrev led : Stack
  led = record v { slots = map (shift f) v.slots }

  -- the machine that is shown
  pub shifted-machine : Serials n.heap → (at : ℕ) → machine_of behind led at ≡ machine_of before v at
  shifted-machine q at =
      rw (store-shift f c.heap n.heap m q, frames-shift f c.heap n.heap m v (λ j s e. st.opened.slots j s e)) refl

  temp-back : (s k : ℕ) → label_at n.heap s ≡ Some (Temp k) → label_at c.heap s ≡ Some (Temp k)
  temp-back s k e =
      let x = label-back f c.heap n.heap m s (Temp k) e in
      subst (λ y. label_at c.heap y ≡ Some (Temp k)) (sym (temps x.0 k x.1) ∙ x.2) x.1

  shifted-opened : Opened behind led
  shifted-opened =
      let o = st.opened in
      record {
        as_many = o.as_many;
        first = o.first;
        some = o.some;
        known = o.known;
        differ = o.differ;
        temps = λ i s w e u.
            let l = o.temps i s w e u in
            ap (label_at n.heap) (sym (temps s w.number l))
            ∙ label-same f c.heap n.heap m s (labelled_held c.heap s (Temp w.number) l) ∙ l;
        all_temps = λ i s w e l. o.all_temps i s w e (temp-back s w.number l);
        once = o.once;
        slots = λ j s e.
            let x = shifted-slot f v.slots j s e in
            subst (IsHeld n.heap) x.2 (held-on f c.heap n.heap m x.0 (o.slots j x.0 x.1));
        lead = λ j s e k to g.
            let b = led-back f c.heap n.heap m s k to g in
            subst (IsHeld n.heap) b.end_is (held-on f c.heap n.heap m b.end b.end_held);
        parents = λ i w r p e h x. o.parents i w r p e h (parent-back f c.heap n.heap m p r x);
      }

  lies-back : (r x s : ℕ) → IsHeld c.heap x → f x ≡ s → LiesIn n.heap r s → LiesIn c.heap r x
  lies-back r x s h is l = sym (label-same f c.heap n.heap m x h) ∙ ap (label_at n.heap) is ∙ l

  -- a bridge stands where it stood
  bridge-on : (r x s : ℕ) → f x ≡ s → LiesIn c.heap r x → IsBridge t r x → IsBridge t r s
  bridge-on r x s is l b = subst (λ y. IsBridge t r y) (sym (bridges x r l b) ∙ is) b

  pub shifted-stands : Stands behind led
  shifted-stands = record {
    opened = shifted-opened;
    lain = subst (λ k. Nested v.first k (reverse v.frames)) (sym (length-map v.slots (shift f))) st.lain;
    some = st.some;
    numbers = st.numbers;
    bridges = st.bridges;
    window_numbers = st.window_numbers;
    windows_next = st.windows_next;
    temps = λ s k e. st.temps s k (temp-back s k e);
    slots = λ j s r e l b.
        let x = shifted-slot f v.slots j s e in
        let lies = lies-back r x.0 s (st.opened.slots j x.0 x.1) x.2 l in
        bridge-on r x.0 s x.2 lies (st.slots j x.0 r x.1 lies b);
    fields = λ i s k to r w e u g l b.
        let x = led-back f c.heap n.heap m s k to g in
        let label = shifted-opened.temps i s w e u in
        let was : label_at c.heap x.from ≡ Some (Temp w.number) =
        sym (label-same f c.heap n.heap m x.from x.held) ∙ ap (label_at n.heap) x.from_is ∙ label in
        let same : x.from ≡ s = sym (temps x.from w.number was) ∙ x.from_is in
        let lies = lies-back r x.end to x.end_held x.end_is l in
        bridge-on r x.end to x.end_is lies
        (st.fields i s k x.end r w e u (ap (λ y. field_at c.heap y k) (sym same) ∙ x.field) lies b);
    first_mark = st.first_mark;
  }
