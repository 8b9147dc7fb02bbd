-- What is shown behind a load: the objects of the content stand behind those that were there, and the managers of its regions behind theirs.
use Rattle.std.proofs.Common.{◌≡◌, ◌<◌, ◌≤◌, ◌+◌, ◌⊎◌, inl, inr, ℕ, suc, List, [], ◌∷◌, ◌++◌, length, map, Option, Some, None, slice_get}
use Rattle.std.proofs.Common.{option_map, IsSome, refl, sym, ap, ◌∙◌, subst, arith}
use Rattle.std.proofs.lemmas.List.{length-map}
use Rattle.std.proofs.lemmas.Option.{none-some, same_Some, slice_get-map, slice_get_within, get_or_from_slice_get}
use Rattle.rg_base.specs.declared.object.Label.{Label}
use Rattle.rg_base.specs.declared.object.Label.TheVariants.{Region, Temp, Frozen}
use Rattle.rg_base.specs.declared.object.Seen.{Seen}
use Rattle.rg_base.specs.declared.words.Manager.{Manager}
use Rattle.rg_base.specs.declared.value.Val.{Val}
use Rattle.rg_base.specs.declared.value.Val.TheVariants.{Nil, Int, Bool, Obj}
use Rattle.rg_base.specs.declared.value.Word.TheVariants as word
use Rattle.rg_cells.specs.declared.cell.Body.{Body}
use Rattle.rg_cells.specs.Table.{Table, body_at, Serials, IsHeld}
use Rattle.rg_regions.specs.Table.{Record, RegionTable, record_at}
use Rattle.rg_regions.proofs.Callers.Shares.{has-cases, has_place}
use Rattle.rg_cown.specs.declared.cargo.CargoCell.{CargoCell}
use Rattle.rg_cown.specs.Cargo.{CargoList, label_of, regions_named, region_named, SoundCargo}
use Rattle.rg_cown.specs.Loads.{word_in, IsFirst, Loaded}
use Rattle.rg_cown.specs.Cargo.{label_from}
use Rattle.rg_cown.proofs.GroveLoaded.{there_is, first_there}
use Rattle.rg_cown.proofs.SoundParts.{parts_of, count_is, between, less_or_not, named_new, in_range}
use Rattle.rg_heap.specs.Answers.{val_of, obj_of, AllLead}
use Rattle.rg_opening.specs.Opening.{value_from, object_from}
use Rattle.rg_view.specs.View.{seen_of, store_of, manager_with, managers_of}
use Rattle.rg_view.specs.Numbers.{Numbers, HasBridges}
use Rattle.rg_held.proofs.Callers.Forget.{made-at}
use Rattle.rg_view.proofs.Callers.Look.{look, seen-held, seen-gone, store-length, store-at}
use Rattle.rg_view.proofs.Callers.Manager.{look-number, manager-of, managers-length}
use Rattle.rg_view.proofs.Callers.Shown.{IsSameObject, object-same, held-body, field-in}
use Rattle.rg_begin.proofs.Lists.{append-by}

-- a region that is numbered has an object
region-there : (cs : List CargoCell) (n m q : ℕ) → regions_named n cs ≡ Some m → n ≤ q → q < m → (k : ℕ) × (label_of cs k ≡ Some (Region q))
region-there [] n m q e l u = let s = same_Some n m e in absurd (omega (arith, s, l, u))
region-there (c ∷ cs) n m q e l u =
    let b = between (region_named n c.label) (λ x. regions_named x cs) m e in
    elim (less_or_not q b.0) [
      | inl t ↦ (0, ap Some (new-label c.label b.0 b.1 t.1))
      | inr t ↦ let r = region-there cs b.0 m q b.2 t.1 u in (suc r.0, r.1)
    ]
  where
    new-label : (x : Label) (y : ℕ) → region_named n x ≡ Some y → q < y → x ≡ Region q
    new-label (Region r) y g t = ap Region (object-is r q (named_new n (Obj r) y q g l t))
      where
        object-is : (a b : ℕ) → Obj a ≡ Obj b → a ≡ b
        object-is a b z = cc
    new-label (Temp x) y g t = cc
    new-label Frozen y g t = let s = same_Some n y g in absurd (omega (arith, s, l, t))

module _ (c : CargoList) (bridge : ℕ) (old new : Table) (t u : RegionTable) (s : SoundCargo c) (w : Loaded c bridge old t new u) where
  -- the slot of an object, and the object of a slot
  pub slot-of : (k : ℕ) → k < length c.cells → (x : ℕ) × (slice_get w.slots k ≡ Some x)
  slot-of k l = let m = w.cells_are.many in there_is w.slots k (omega (arith, l, m))

  cell-of : (k x : ℕ) → slice_get w.slots k ≡ Some x → (o : CargoCell) × (slice_get c.cells k ≡ Some o)
  cell-of k x e =
      let l = slice_get_within w.slots k x e in
      let m = w.cells_are.many in
      there_is c.cells k (omega (arith, l, m))

  -- the body of a new cell
  abbrev pub body-of : ℕ → CargoCell → Body
  body-of k o = record {
    class = o.class;
    label = label_from t.next o.label;
    serial = old.heap.next + k;
    fields = map (word_in w.slots) o.fields;
  }

  -- a cell that was held is as it was
  pub held-on : (x : ℕ) (b : Body) → body_at old.heap x ≡ Some b → body_at new.heap x ≡ Some b
  held-on x b e =
      w.cells_are.others x (λ h. let p = has_place w.slots x h in none-some b (sym (w.cells_are.vacant p.0 x p.1) ∙ e)) ∙ e

  -- a cell is that of an object, or was held
  pub record New (x : ℕ) (b : Body) : Type 0 where
    pub place : ℕ
    pub cell : CargoCell
    pub slot : slice_get w.slots place ≡ Some x
    pub there : slice_get c.cells place ≡ Some cell
    pub body : b ≡ body-of place cell

  pub back : (x : ℕ) (b : Body) → body_at new.heap x ≡ Some b → New x b ⊎ (body_at old.heap x ≡ Some b)
  back x b e = elim (has-cases w.slots x) [
    | inl h ↦
        let p = has_place w.slots x h in
        let o = cell-of p.0 x p.1 in
        inl (record {
          place = p.0;
          cell = o.0;
          slot = p.1;
          there = o.1;
          body = same_Some b (body-of p.0 o.0) (sym e ∙ w.cells_are.bodies p.0 x o.0 p.1 o.1);
        })
    | inr d ↦ inr (sym (w.cells_are.others x d) ∙ e)
  ]

  same-object : (x : ℕ) → IsHeld old.heap x → IsSameObject old.heap new.heap x
  same-object x held = let b = held-body old.heap x held in ap obj_of (held-on x b.0 b.1 ∙ sym b.1)

  -- what was shown of an object is shown
  seen-old : Serials old.heap → ((x : ℕ) → AllLead old.heap x) → (a : ℕ) → a < old.heap.next → seen_of new.heap a ≡ seen_of old.heap a
  seen-old q lead a lt = elim (look new.heap a) [
    | inl here ↦ elim (back here.slot here.body here.held) [
      | inl n ↦
          let is : here.body.serial ≡ old.heap.next + n.place = ap (λ (b : Body). b.serial) n.body in
          let at = here.serial in
          absurd (omega (arith, is, at, lt))
      | inr was ↦
          here.shown
          ∙ object-same old.heap new.heap here.body
          (λ k x e. same-object x (lead here.slot k x (field-in old.heap here.slot k here.body was ∙ e)))
          ∙ sym (seen-held old.heap here.slot here.body q was)
          ∙ ap (seen_of old.heap) here.serial
    ]
    | inr missing ↦ missing.shown ∙ sym (seen-gone old.heap a (λ x b e. missing.lacks x b (held-on x b e)))
  ]

  -- the values of the content, moved
  value-new : (v : Val) → ((a : ℕ) → v ≡ Obj a → a < length c.cells) → val_of new.heap (word_in w.slots v) ≡ value_from old.heap.next v
  value-new Nil l = refl
  value-new (Int z) l = refl
  value-new (Bool b) l = refl
  value-new (Obj a) l =
      let x = slot-of a (l a refl) in
      let o = cell-of a x.0 x.1 in
      ap (λ y. val_of new.heap (word.Slot y)) (get_or_from_slice_get w.slots a x.0 0 x.1)
      ∙ ap obj_of (w.cells_are.bodies a x.0 o.0 x.1 o.1)

  values-new : (vs : List Val) → ((j a : ℕ) → slice_get vs j ≡ Some (Obj a) → a < length c.cells)
      → map (val_of new.heap) (map (word_in w.slots) vs) ≡ map (value_from old.heap.next) vs
  values-new [] l = refl
  values-new (v ∷ vs) l =
      ap (λ x. x ∷ map (val_of new.heap) (map (word_in w.slots) vs)) (value-new v (λ a e. l 0 a (ap Some e)))
      ∙ ap (λ xs. value_from old.heap.next v ∷ xs) (values-new vs (λ j. l (suc j)))

  seen-new : Serials new.heap → (k : ℕ) (o : CargoCell) → slice_get c.cells k ≡ Some o
      → seen_of new.heap (old.heap.next + k) ≡ object_from old.heap.next t.next o
  seen-new r k o at =
      let x = slot-of k (slice_get_within c.cells k o at) in
      let shown : List Val → Seen = λ vs. record { class = o.class; fields = vs; label = label_from t.next o.label } in
      seen-held new.heap x.0 (body-of k o) r (w.cells_are.bodies k x.0 o x.1 at)
      ∙ ap shown (values-new o.fields (λ j a e. in_range c k j a s (record { cell = o; there = at; value = e })))

  -- the store is the one before with the objects of the content, moved, behind it
  pub loaded-store : Serials old.heap → Serials new.heap → ((x : ℕ) → AllLead old.heap x)
      → store_of new.heap ≡ store_of old.heap ++ map (object_from old.heap.next t.next) c.cells
  loaded-store q r lead =
      let f = object_from old.heap.next t.next in
      let more = w.cells_are.next in
      let many = store-length new.heap in
      let were = store-length old.heap in
      append-by (store_of new.heap) (store_of old.heap) (map f c.cells) (omega (arith, more, many, were, length-map c.cells f))
      (λ i l.
      let lt : i < old.heap.next = omega (arith, l, were) in
      store-at new.heap i (omega (arith, lt, more)) ∙ ap Some (seen-old q lead i lt) ∙ sym (store-at old.heap i lt))
      (λ i l.
      let o = there_is c.cells i (omega (arith, l, length-map c.cells f)) in
      let at : length (store_of old.heap) + i ≡ old.heap.next + i = omega (arith, were) in
      ap (slice_get (store_of new.heap)) at
      ∙ store-at new.heap (old.heap.next + i) (omega (arith, l, more, length-map c.cells f))
      ∙ ap Some (seen-new r i o.0 o.1)
      ∙ sym (slice_get-map f c.cells i ∙ ap (option_map f) o.1))

  -- Regions

  -- a region that was there is as it was
  pub region-on : (key : ℕ) (r : Record) → record_at t key ≡ Some r → record_at u key ≡ Some r
  region-on key r e =
      w.regions_are.others key (λ h. let p = has_place w.keys key h in none-some r (sym (w.regions_are.vacant p.0 key p.1) ∙ e)) ∙ e

  -- a region is one of the content, or was there
  pub record NewRegion (key : ℕ) (r : Record) : Type 0 where
    pub place : ℕ
    pub manager : Manager
    pub slot : slice_get w.keys place ≡ Some key
    pub there : slice_get c.managers place ≡ Some manager
    pub number : r.number ≡ t.next + place
    pub managed : r.manager ≡ manager

  pub region-back : (key : ℕ) (r : Record) → record_at u key ≡ Some r → NewRegion key r ⊎ (record_at t key ≡ Some r)
  region-back key r e = elim (has-cases w.keys key) [
    | inl h ↦
        let p = has_place w.keys key h in
        let l = slice_get_within w.keys p.0 key p.1 in
        let n = w.regions_are.many in
        let m = there_is c.managers p.0 (omega (arith, l, n)) in
        let x = w.regions_are.records p.0 key m.0 p.1 m.1 in
        let same : x.0 ≡ r = same_Some x.0 r (sym x.1 ∙ e) in
        inl (record {
          place = p.0;
          manager = m.0;
          slot = p.1;
          there = m.1;
          number = ap (λ (y : Record). y.number) (sym same) ∙ x.2;
          managed = ap (λ (y : Record). y.manager) (sym same) ∙ x.3;
        })
    | inr d ↦ inr (sym (w.regions_are.others key d) ∙ e)
  ]

  -- the numbers of regions are below the next one, and differ
  pub loaded-numbers : Numbers t → Numbers u
  loaded-numbers q = record {
    below = λ key r e. let more = w.regions_are.next in elim (region-back key r e) [
      | inl n ↦
          let l = slice_get_within c.managers n.place n.manager n.there in
          let is = n.number in
          omega (arith, l, is, more)
      | inr was ↦ let l = q.below key r was in omega (arith, l, more)
    ];
    differ = λ key other r v e f same. elim (region-back key r e) [
      | inl n ↦ elim (region-back other v f) [
        | inl m ↦
            let a = n.number in
            let b = m.number in
            let place : n.place ≡ m.place = omega (arith, a, b, same) in
            same_Some key other (sym n.slot ∙ ap (slice_get w.keys) place ∙ m.slot)
        | inr was ↦ let l = q.below other v was in let a = n.number in absurd (omega (arith, l, a, same))
      ]
      | inr was ↦ elim (region-back other v f) [
        | inl m ↦ let l = q.below key r was in let b = m.number in absurd (omega (arith, l, b, same))
        | inr is ↦ q.differ key other r v was is same
      ]
    ];
  }

  manager-kept : Numbers t → (n : ℕ) → n < t.next → manager_with n u.records ≡ manager_with n t.records
  manager-kept q n lt = elim (look-number t n) [
    | inl k ↦
        ap (λ a. manager_with a u.records) (sym k.number)
        ∙ manager-of u k.key k.rec (loaded-numbers q) (region-on k.key k.rec k.there)
        ∙ sym k.shown
    | inr o ↦ elim (look-number u n) [
      | inl k ↦ elim (region-back k.key k.rec k.there) [
        | inl x ↦ let a = x.number in let b = k.number in absurd (omega (arith, a, b, lt))
        | inr was ↦ absurd (o.none k.key k.rec was k.number)
      ]
      | inr x ↦ x.shown ∙ sym o.shown
    ]
  ]

  manager-new : Numbers t → (i : ℕ) (m : Manager) → slice_get c.managers i ≡ Some m → manager_with (t.next + i) u.records ≡ m
  manager-new q i m at =
      let l = slice_get_within c.managers i m at in
      let n = w.regions_are.many in
      let key = there_is w.keys i (omega (arith, l, n)) in
      let x = w.regions_are.records i key.0 m key.1 at in
      ap (λ a. manager_with a u.records) (sym x.2) ∙ manager-of u key.0 x.0 (loaded-numbers q) x.1 ∙ x.3

  -- the managers of the content stand behind those that were there
  pub loaded-managers : Numbers t → managers_of u ≡ managers_of t ++ c.managers
  loaded-managers q =
      let f : ℕ → Manager = λ n. manager_with n u.records in
      let g : ℕ → Manager = λ n. manager_with n t.records in
      let more = w.regions_are.next in
      let many = managers-length u in
      let were = managers-length t in
      append-by (managers_of u) (managers_of t) c.managers (omega (arith, more, many, were))
      (λ i l.
      let lt : i < t.next = omega (arith, l, were) in
      made-at f u.next i (omega (arith, lt, more)) ∙ ap Some (manager-kept q i lt) ∙ sym (made-at g t.next i lt))
      (λ i l.
      let m = there_is c.managers i l in
      let at : length (managers_of t) + i ≡ t.next + i = omega (arith, were) in
      ap (slice_get (managers_of u)) at
      ∙ made-at f u.next (t.next + i) (omega (arith, l, more))
      ∙ ap Some (manager-new q i m.0 m.1)
      ∙ sym m.1)

  -- all regions but region 0 have a bridge
  pub loaded-bridges : 0 < t.next → HasBridges t → HasBridges u
  loaded-bridges some q key r e = elim (region-back key r e) [
    | inl n ↦
        let l = slice_get_within c.managers n.place n.manager n.there in
        let zero : 0 ≤ n.place = omega arith in
        let a = region-there c.cells 0 (length c.managers) n.place (count_is (length c.managers) (regions_named 0 c.cells) (parts_of c s).regions)
        zero l in
        let first = first_there c.cells a.0 n.place a.1 in
        let x = slot-of first.0 (first-within first.0 n.place first.1) in
        let b = w.regions_are.bridges n.place key first.0 x.0 n.slot first.1 x.1 in
        let same : b.0 ≡ r = same_Some b.0 r (sym b.1 ∙ e) in
        let is : r.bridge ≡ Some x.0 = ap (λ (y : Record). y.bridge) (sym same) ∙ b.2 in
        let number = n.number in
        (λ d. subst (λ (o : Option ℕ). IsSome o) (sym is) refl, λ z. absurd (omega (arith, z, number, some)))
    | inr was ↦ q key r was
  ]
    where
      first-within : (k r : ℕ) → IsFirst c.cells r k → k < length c.cells
      first-within k r f = by (slice_get c.cells k) refl f.lies
        where
          by : (o : Option CargoCell) → slice_get c.cells k ≡ o → option_map (λ (x : CargoCell). x.label) o ≡ Some (Region r) → k < length c.cells
          by None at e = absurd (none-some (Region r) e)
          by (Some x) at e = slice_get_within c.cells k x at
