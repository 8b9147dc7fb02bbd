-- A field is written: what holds behind it, and the machine that is shown.
use Rattle.std.proofs.Common.{◌≡◌, ◌⊎◌, inl, inr, ◌≤◌, ◌<◌, ◌+◌, ◌-◌, ℕ, Bool as Truth, true, false, not, ◌&&◌, nat_lt}
use Rattle.std.proofs.Common.{List, [], ◌∷◌, Option, Some, IsSome, length, option_map, option_and_then, slice_get}
use Rattle.std.proofs.Common.{Result, Ok, Err, refl, sym, ap, subst, ◌∙◌, arith}
use Rattle.std.proofs.lemmas.Bool.{false≢true, cases_eq, eqb-true}
use Rattle.std.proofs.lemmas.Option.{same_Some, slice_get_within}
use Rattle.rg_base.specs.declared.object.Label.TheVariants.{Region, Temp, Frozen}
use Rattle.rg_base.specs.declared.object.Seen.{Seen}
use Rattle.rg_base.specs.declared.outcome.Trap.{Trap}
use Rattle.rg_base.specs.declared.value.Word.{Word}
use Rattle.rg_base.specs.declared.value.Word.TheVariants as word
use Rattle.rg_base.proofs.Callers.Lists.{there}
use Rattle.rg_cells.specs.declared.cell.Body.{Body}
use Rattle.rg_cells.specs.Table.{Heap, body_at, field_at, label_at, with_field, Serials, IsHeld}
use Rattle.rg_regions.specs.Table.{HasNumber, IsBridge}
use Rattle.rg_regions.specs.Reach.{LiesIn}
use Rattle.rg_regions.specs.Grove.{Grove, Parent}
use Rattle.rg_frames.specs.declared.rows.Window.{Window as WindowRow}
use Rattle.rg_frames.specs.Stack.{Stack}
use Rattle.rg_code.specs.declared.op.Op.TheVariants as i
use Rattle.rg_rules.specs.Evaluation.{object_at}
use Rattle.rg_stack.specs.Effects.{put_in}
use Rattle.rg_stack.specs.Tops.{top_window}
use Rattle.rg_stack.specs.Needs.{is_closed, may_stand}
use Rattle.rg_stack.specs.Places.{field_of, is_field, is_writable}
use Rattle.rg_stack.specs.Labels.{is_open}
use Rattle.rg_stack.proofs.Basics.{and-left, and-right}
use Rattle.rg_heap.specs.Parts.{Parts}
use Rattle.rg_heap.specs.Answers.{IsClosed}
use Rattle.rg_heap.specs.Opened.{IsWindow, IsTempOf}
use Rattle.rg_view.specs.Numbers.{HasBridges, Numbers}
use Rattle.rg_view.specs.View.{windows_of, machine_of, object_of, values_of}
use Rattle.rg_view.proofs.Callers.Window.{active-number}
use Rattle.rg_view.proofs.Callers.Open.{closed-not-open, open-back, window-open, not-open-closed}
use Rattle.rg_view.proofs.Callers.Need.{keyed, stays}
use Rattle.rg_view.proofs.Callers.Machine.{written-machine}
use Rattle.rg_view.proofs.Callers.Read.{object-there}
use Rattle.rg_view.proofs.Callers.Shown.{body-held, held-body, field-in, values-same}
use Rattle.rg_view.proofs.Callers.Write.{written-there, written-beside, written-same}
use Rattle.rg_machine.specs.Core.{Has, with_machine}
use Rattle.rg_machine.specs.Parts.{Parts as Whole, machine_in, val_in}
use Rattle.rg_machine.specs.Cores.{core_of}
use Rattle.rg_machine.specs.Stands.{AllLead, BeginsBehind, Leads, OpensLater, Stands}
use Rattle.rg_machine.proofs.Write.Slot.{set-get}

-- a field of a cell is written with a word: cells keep their labels, and a field leads where it did, or is the one that is written
pub record Written (old new : Heap) (slot : ℕ) (w : Word) : Type 0 where
  pub labels : (s : ℕ) → label_at new s ≡ label_at old s
  pub held : (s : ℕ) → IsHeld old s → IsHeld new s
  pub fields : (s i : ℕ) (u : Word) → field_at new s i ≡ Some u → ((s ≡ slot) × (u ≡ w)) ⊎ (field_at old s i ≡ Some u)

written-by : (h : Heap) (slot k : ℕ) (w : Word) (b : Body) → body_at h slot ≡ Some b → Written h (with_field h slot k w) slot w
written-by h slot k w b e = let after = with_field h slot k w in record {
  labels = λ s. elim (cases_eq s slot) [
    | inl is ↦
        ap (label_at after) is ∙ ap (option_map (λ (b : Body). b.label)) (written-there h slot k w b e)
        ∙ sym (ap (option_map (λ (b : Body). b.label)) e) ∙ sym (ap (label_at h) is)
    | inr d ↦ ap (option_map (λ (b : Body). b.label)) (written-beside h slot k w b e s d)
  ];
  held = λ s held. elim (cases_eq s slot) [
    | inl is ↦ body-held after s _ (ap (body_at after) is ∙ written-there h slot k w b e)
    | inr d ↦ subst (λ (o : Option Body). IsSome o) (sym (written-beside h slot k w b e s d)) held
  ];
  fields = λ s i u f. elim (cases_eq s slot) [
    | inl is ↦
        elim (set-get b.fields k i w u
        (sym (field-in after slot i _ (written-there h slot k w b e)) ∙ ap (λ s. field_at after s i) (sym is) ∙ f)) [
          | inl at ↦ inl (is, at.1)
          | inr was ↦ inr (ap (λ s. field_at h s i) is ∙ field-in h slot i b e ∙ was)
        ]
    | inr d ↦ inr (sym (ap (option_and_then (λ (b : Body). slice_get b.fields i)) (written-beside h slot k w b e s d)) ∙ f)
  ];
}

pub written : (h after : Heap) (slot k : ℕ) (w : Word) (b : Body) → body_at h slot ≡ Some b → after ≡ with_field h slot k w → Written h after slot w
written h after slot k w b e is = subst (λ g. Written h g slot w) (sym is) (written-by h slot k w b e)

module _ (p new : Parts) (v : Stack) (slot : ℕ) (w : Word) (x : Written p.cells.heap new.cells.heap slot w) (t : new.regions ≡ p.regions) where
  -- cells lie where they did
  lies-back : (r s : ℕ) → LiesIn new.cells.heap r s → LiesIn p.cells.heap r s
  lies-back r s l = sym (x.labels s) ∙ l

  -- words lead where they did
  pub leads-written : (u : Word) → Leads p v u → Leads new v u
  leads-written u l = record {
    held = λ s e. x.held s (l.held s e);
    bridge = λ s r e lies c.
        subst (λ t. IsBridge t r s) (sym t) (l.bridge s r e (lies-back r s lies) (subst (λ t. IsClosed t v r) t c));
  }

  pub lead-written : (words : List Word) → AllLead p v words → AllLead new v words
  lead-written words l k u e = leads-written u (l k u e)

  -- Behind the write all stands: the word leads from a cell of a region into the region itself, or into a closed one, and the cell is a
  -- temporary of the topmost window if it is one.
  pub stands-written : Serials p.cells.heap → Grove p.cells p.regions → Stands p v → Leads p v w
      → ((r n to : ℕ) → LiesIn p.cells.heap r slot → w ≡ word.Slot to → LiesIn p.cells.heap n to → (r ≡ n) ⊎ IsClosed p.regions v n)
      → ((i j : ℕ) (o u : WindowRow) → IsWindow v i o → IsTempOf v i slot → IsWindow v j u → j ≤ i)
      → Stands new v
  stands-written q g h l region temp = record {
    opened = record {
      as_many = h.opened.as_many;
      first = λ u e. subst (λ t. HasNumber t u.region 0) (sym t) (h.opened.first u e);
      some = h.opened.some;
      known = λ i u e. let n = h.opened.known i u e in (n.0, subst (λ t. HasNumber t u.region n.0) (sym t) n.1);
      differ = h.opened.differ;
      temps = λ i s u e of. x.labels s ∙ h.opened.temps i s u e of;
      all_temps = λ i s u e f. h.opened.all_temps i s u e (sym (x.labels s) ∙ f);
      once = h.opened.once;
      slots = λ j s e. x.held s (h.opened.slots j s e);
      lead = λ j s e k to f. elim (x.fields s k (word.Slot to) f) [
        | inl here ↦ x.held to (l.held to (sym here.1))
        | inr was ↦ x.held to (h.opened.lead j s e k to was)
      ];
      parents = λ i u n r e has parent. parents i u n r e (subst (λ t. HasNumber t u.region n) t has) parent;
    };
    lain = h.lain;
    some = h.some;
    numbers = subst Numbers (sym t) h.numbers;
    bridges = subst HasBridges (sym t) h.bridges;
    window_numbers = h.window_numbers;
    windows_next = h.windows_next;
    temps = λ s n e. h.temps s n (sym (x.labels s) ∙ e);
    slots = λ j s r e lies behind.
        subst (λ t. IsBridge t r s) (sym t) (h.slots j s r e (lies-back r s lies) (subst (λ t. BeginsBehind t v j r) t behind));
    fields = λ i s k to r u e of f lies later.
        subst (λ t. IsBridge t r to) (sym t) (fields i s k to r u e of f (lies-back r to lies) (subst (λ t. OpensLater t v i r) t later));
    first_mark = h.first_mark;
  }
    where
      parents : (i : ℕ) (u : WindowRow) (n r : ℕ) → IsWindow v i u → HasNumber p.regions u.region n → Parent new.cells.heap r n
          → (j : ℕ) × (o : WindowRow) × (i ≡ j + 1) × IsWindow v j o × HasNumber new.regions o.region r
      parents i u n r e has a = elim (x.fields a.from a.field (word.Slot a.to) a.leads) [
        | inl here ↦
            absurd (new-parent (region r n a.to (subst (LiesIn p.cells.heap r) here.0 (lies-back r a.from a.lies)) (sym here.1)
            (lies-back n a.to a.child_has)))
        | inr was ↦
            let y = h.opened.parents i u n r e has (record {
              differ = a.differ;
              from = a.from;
              field = a.field;
              to = a.to;
              lies = lies-back r a.from a.lies;
              leads = was;
              child_has = lies-back n a.to a.child_has;
            }) in
            (y.0, y.1, y.2, y.3, subst (λ t. HasNumber t y.1.region r) (sym t) y.4)
      ]
        where
          new-parent : (r ≡ n) ⊎ IsClosed p.regions v n → ⊥
          new-parent (inl same) = a.differ same
          new-parent (inr c) =
              let k = keyed p v 0 q g h.opened in
              false≢true (sym (closed-not-open p.regions v k n c) ∙ window-open p.regions v k n i u e has)

      fields : (i s k to r : ℕ) (u : WindowRow) → IsWindow v i u → IsTempOf v i s → field_at new.cells.heap s k ≡ Some (word.Slot to)
          → LiesIn p.cells.heap r to → OpensLater p.regions v i r → IsBridge p.regions r to
      fields i s k to r u e of f lies later = elim (x.fields s k (word.Slot to) f) [
        | inl here ↦ here-in (is_open (windows_of p.regions v) r) refl here.0 (sym here.1)
        | inr was ↦ h.fields i s k to r u e of was lies later
      ]
        where
          here-in : (b : Truth) → is_open (windows_of p.regions v) r ≡ b → s ≡ slot → w ≡ word.Slot to → IsBridge p.regions r to
          here-in false c at is =
              l.bridge to r is lies (not-open-closed p.regions v (keyed p v 0 q g h.opened) r (g.labels r to lies) c)
          here-in true o at is =
              let a = open-back p.regions v (keyed p v 0 q g h.opened) r o in
              let lt : i < a.0 = later a.0 a.1 a.2 a.3 in
              let le : a.0 ≤ i = temp i a.0 u a.1 e (subst (IsTempOf v i) at of) a.2 in
              absurd (omega (arith, lt, le))

-- a temporary that may be written is one of the topmost window
pub topmost : (p : Parts) (v : Stack) (at slot : ℕ) (b : Body) → Stands p v → body_at p.cells.heap slot ≡ Some b
    → is_writable (machine_of p v at) b.label ≡ true
    → (i j : ℕ) (o u : WindowRow) → IsWindow v i o → IsTempOf v i slot → IsWindow v j u → j ≤ i
topmost p v at slot b h e may i j o u at_i of is =
    let some = h.opened.some in
    let top = there v.windows (length v.windows - 1) (omega (arith, some)) in
    let within = slice_get_within v.windows j u is in
    let label : b.label ≡ Temp o.number =
    same_Some b.label (Temp o.number) (sym (ap (option_map (λ (b : Body). b.label)) e) ∙ h.opened.temps i slot o at_i of) in
    let number : o.number ≡ top.0.number =
    eqb-true o.number (top_window (windows_of p.regions v)) (sym (ap (is_writable (machine_of p v at)) label) ∙ may)
    ∙ active-number p.regions v top.0 top.1 in
    let place : i ≡ length v.windows - 1 = h.window_numbers i (length v.windows - 1) o top.0 at_i top.1 number in
    omega (arith, within, place)

-- The cell that `put` writes: it may be written, has the field, and the word may stand there.
pub record Puts (x : Whole) (slot k : ℕ) (w : Word) : Type 0 where
  pub body : Body
  pub there : body_at x.heap.cells.heap slot ≡ Some body
  pub writable : is_writable (machine_in x) body.label ≡ true
  pub within : nat_lt k (length (object_of x.heap.cells.heap (Some body)).fields) ≡ true
  pub stand : may_stand (machine_in x) body.label (val_in x w) ≡ true

-- it is the one to which a word leads, where the instruction is given what it needs
puts-by : (x : Whole) (slot k : ℕ) (r w : Word) → Serials x.heap.cells.heap → r ≡ word.Slot slot → Leads x.heap x.frames r
    → Has (i.Put k) (record (core_of x) { stack = val_in x w ∷ val_in x r ∷ [] }) → Puts x slot k w
puts-by x slot k r w q is l given =
    let m = machine_in x in
    let b = held-body x.heap.cells.heap slot (l.held slot is) in
    let o = object_of x.heap.cells.heap (Some b.0) in
    let object : object_at m.store (val_in x r) ≡ Ok o =
    ap (λ r. object_at m.store (val_in x r)) is ∙ object-there x.heap.cells.heap slot b.0 q b.1 in
    let all : (is_field m k o && not (is_closed m (field_of o k)) && may_stand m b.0.label (val_in x w)) ≡ true =
    sym (ap (λ (r : Result Seen Trap). elim r [
      | Ok o ↦ is_field m k o && not (is_closed m (field_of o k)) && may_stand m o.label (val_in x w)
      | Err t ↦ false
    ]) object) ∙ given in
    let field = and-left _ _ (and-left _ _ all) in
    record {
      body = b.0;
      there = b.1;
      writable = and-left _ _ field;
      within = and-right _ _ field;
      stand = and-right _ _ all;
    }

pub puts : (x y : Whole) → x ≡ y → (slot k : ℕ) (r w : Word) → Serials x.heap.cells.heap → r ≡ word.Slot slot → Leads y.heap y.frames r
    → Has (i.Put k) (record (core_of y) { stack = val_in y w ∷ val_in y r ∷ [] }) → Puts x slot k w
puts x y e slot k r w q is l given =
    puts-by x slot k r w q is
    (subst (λ (z : Whole). Leads z.heap z.frames r) (sym e) l)
    (subst (λ (z : Whole). Has (i.Put k) (record (core_of z) { stack = val_in z w ∷ val_in z r ∷ [] })) (sym e) given)

-- a word that may stand in a field of a region's cell leads into no other region
pub put-region : (x : Whole) (slot k : ℕ) (w : Word) → Serials x.heap.cells.heap → Grove x.heap.cells x.heap.regions → Stands x.heap x.frames
    → Leads x.heap x.frames w → Puts x slot k w
    → (r n to : ℕ) → LiesIn x.heap.cells.heap r slot → w ≡ word.Slot to → LiesIn x.heap.cells.heap n to
    → (r ≡ n) ⊎ IsClosed x.heap.regions x.frames n
put-region x slot k w q g h l a r n to at is into =
    let label : a.body.label ≡ Region r =
    same_Some a.body.label (Region r) (sym (ap (option_map (λ (b : Body). b.label)) a.there) ∙ at) in
    by (stays x.heap x.frames x.at q g h.opened r w l.held
    (sym (ap (λ l. may_stand (machine_in x) l (val_in x w)) label) ∙ a.stand) to is)
  where
    by : (label_at x.heap.cells.heap to ≡ Some Frozen) ⊎ LiesIn x.heap.cells.heap r to → (r ≡ n) ⊎ IsClosed x.heap.regions x.frames n
    by (inl frozen) = absurd (frozen-region (sym frozen ∙ into))
      where
        frozen-region : Some Frozen ≡ Some (Region n) → ⊥
        frozen-region e = cc
    by (inr lies) = inl (same r n (sym lies ∙ into))
      where
        same : (a b : ℕ) → Some (Region a) ≡ Some (Region b) → a ≡ b
        same a b e = cc

-- what the machine holds, with a field that is written
pub core-written : (x : Whole) (new : Parts) (slot k : ℕ) (w : Word) (b : Body) → body_at x.heap.cells.heap slot ≡ Some b
    → new.cells.heap ≡ with_field x.heap.cells.heap slot k w → new.regions ≡ x.heap.regions → Serials x.heap.cells.heap
    → core_of (record x { heap = new }) ≡ with_machine (core_of x) (record (machine_in x) {
      store = put_in (machine_in x).store (val_in x (word.Slot slot)) k (val_in x w);
    })
core-written x new slot k w b e heap regions q =
    ap (λ m. record { machine = m; stack = values_of new.cells.heap x.words; printed = x.printed })
    (written-machine x.frames x.at x.heap new slot k w b e heap regions q)
    ∙ ap (λ vs. record {
      machine = record (machine_in x) { store = put_in (machine_in x).store (val_in x (word.Slot slot)) k (val_in x w) };
      stack = vs;
      printed = x.printed;
    })
    (ap (λ h. values_of h x.words) heap
    ∙ values-same x.heap.cells.heap (with_field x.heap.cells.heap slot k w) x.words (λ i s f. written-same x.heap.cells.heap slot k w b e s))
