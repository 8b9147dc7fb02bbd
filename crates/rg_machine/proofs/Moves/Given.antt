-- What a freeze and a merge are given of the slot that owns the region, and what they move.
use Rattle.std.proofs.Common.{◌≡◌, ◌≢◌, ◌⊎◌, inl, inr, ℕ, ◌+◌, ◌-◌, Bool as Truth, true, false, List, [], ◌∷◌, ◌++◌, reverse, length}
use Rattle.std.proofs.Common.{Option, Some, None, Err, option_map, slice_get, unwrap_or, drop, refl, sym, ap, ◌∙◌, subst}
use Rattle.std.specs.List.{list_any}
use Rattle.std.proofs.lemmas.Bool.{cases_eq, false≢true, eq-eqb as eq-is}
use Rattle.std.proofs.lemmas.Option.{none-some, same_Some, slice_get-map}
use Rattle.std.proofs.lemmas.Map.Keys.{any_passes_from_place as any-in}
use Rattle.rg_base.specs.declared.object.Label.TheVariants.{Region, Temp, Frozen}
use Rattle.rg_base.specs.declared.object.Seen.{Seen}
use Rattle.rg_base.specs.declared.outcome.Trap.TheVariants as trap
use Rattle.rg_base.specs.declared.value.Val.TheVariants as val
use Rattle.rg_base.specs.declared.value.Word.{Word}
use Rattle.rg_base.specs.declared.value.Word.TheVariants as word
use Rattle.rg_base.proofs.Callers.Labels.{temp-region}
use Rattle.rg_rules.specs.Evaluation.{object_at}
use Rattle.rg_rules.specs.Regions.{among}
use Rattle.rg_cells.specs.Table.{field_at, Serials, IsHeld}
use Rattle.rg_regions.specs.Table.{Record, record_at, HasNumber}
use Rattle.rg_regions.specs.Reach.{LiesIn}
use Rattle.rg_regions.specs.Grove.{Parent, Grove}
use Rattle.rg_move.specs.Closed.{BelowKey}
use Rattle.rg_frames.specs.declared.rows.Window.{Window as WindowRow}
use Rattle.rg_frames.specs.Stack.{Stack, IsTop, has_region}
use Rattle.rg_stack.specs.Machine.{slot_at}
use Rattle.rg_stack.specs.Effects.{beneath_by_labels}
use Rattle.rg_stack.specs.Needs.{owned_once, owns_or_nil}
use Rattle.rg_stack.specs.Labels.{is_open}
use Rattle.rg_heap.specs.Parts.{Parts}
use Rattle.rg_heap.specs.Answers.{val_of, IsClosed}
use Rattle.rg_heap.specs.Moves.{CanMove, Freezes, Merges, NotBeneath}
use Rattle.rg_heap.specs.Opened.{IsWindow}
use Rattle.rg_view.specs.View.{machine_of, managers_of, store_of, windows_of}
use Rattle.rg_view.specs.Names.{Names}
use Rattle.rg_view.specs.Links.{BelowSome}
use Rattle.rg_view.proofs.Callers.Shown.{get-drop}
use Rattle.rg_view.proofs.Callers.Frame.{top-slots}
use Rattle.rg_view.proofs.Callers.Label.{Labels, freeze-labels, merge-labels, one-is, one-there}
use Rattle.rg_view.proofs.Callers.Gone.Records.{freeze-numbers, merge-numbers}
use Rattle.rg_view.proofs.Callers.Gone.Beneath.{beneath-names}
use Rattle.rg_view.proofs.Callers.Gone.Managers.{below-closed}
use Rattle.rg_view.proofs.Callers.Open.{closed-not-open, window-open}
use Rattle.rg_view.proofs.Callers.Need.{Top, keyed, top}
use Rattle.rg_view.proofs.Callers.Instructions.{can-merge, can-move, slot-ownerless}
use Rattle.rg_machine.specs.Stands.{BeginsBehind, Leads, Stands}
use Rattle.rg_machine.proofs.Moves.Sole.{sole-slot, sole-temp}
use Rattle.rg_machine.proofs.Moves.Behind.{Moves, field-same, label-back, record-number}
use Rattle.rg_machine.proofs.Kept.{numbered as number-record}

region-frozen : (r : ℕ) → Region r ≡ Frozen → ⊥
region-frozen r e = cc

temp-frozen : (n : ℕ) → Temp n ≡ Frozen → ⊥
temp-frozen n e = cc

region-same : (a b : ℕ) → Region a ≡ Region b → a ≡ b
region-same a b e = cc

-- a slot shows its word, and nil past the last one
module _ (p : Parts) (v : Stack) (at : ℕ) (st : Stands p v) where
  pub slot-shown : (k : ℕ) → slot_at (machine_of p v at) k ≡ val_of p.cells.heap (unwrap_or (slice_get v.slots (v.first + k)) word.Nil)
  slot-shown k =
      ap (λ vs. unwrap_or (slice_get vs k) val.Nil) (top-slots p.cells.heap v.slots v.first (reverse v.frames) st.lain)
      ∙ ap (λ o. unwrap_or o val.Nil) (slice_get-map (val_of p.cells.heap) (drop v.first v.slots) k
      ∙ ap (option_map (val_of p.cells.heap)) (get-drop v.first k v.slots))
      ∙ turn (slice_get v.slots (v.first + k))
    where
      turn : (o : Option Word) → unwrap_or (option_map (val_of p.cells.heap) o) val.Nil ≡ val_of p.cells.heap (unwrap_or o word.Nil)
      turn None = refl
      turn (Some w) = refl

-- a word that isn't a reference leads to no object
abbrev pub NoSlot : Word → Type 0
NoSlot word.Nil = Unit {0}
NoSlot (word.Int z) = Unit {0}
NoSlot (word.Bool b) = Unit {0}
NoSlot (word.Slot s) = ⊥

pub no-object : (p : Parts) (store : List Seen) (w : Word) → NoSlot w → object_at store (val_of p.cells.heap w) ≡ Err trap.Nil
no-object p store word.Nil n = refl
no-object p store (word.Int z) n = refl
no-object p store (word.Bool b) n = refl
no-object p store (word.Slot s) n = absurd n

-- the slot of an instruction owns the region into which it leads
pub record Owns (p : Parts) (v : Stack) (at : ℕ) (k slot : ℕ) : Type 0 where
  pub stands : slice_get v.slots (v.first + k) ≡ Some (word.Slot slot)
  pub once : owned_once (machine_of p v at) ≡ true
  pub owner : owns_or_nil (machine_of p v at) (slot_at (machine_of p v at) k) ≡ true

-- the closed region into which it leads, which has no owner in the heap
pub record Owned (p : Parts) (v : Stack) (slot : ℕ) : Type 0 where
  pub region : ℕ
  pub lies : LiesIn p.cells.heap region slot
  pub alone : (a s f to : ℕ) → a ≢ region → LiesIn p.cells.heap a s → field_at p.cells.heap s f ≡ Some (word.Slot to)
      → LiesIn p.cells.heap region to → ⊥
  pub key : ℕ
  pub has : HasNumber p.regions key region
  pub away : list_any (has_region key) v.windows ≡ false

module _ (p : Parts) (v : Stack) (at : ℕ) (q : Serials p.cells.heap) (g : Grove p.cells p.regions) (st : Stands p v)
    (k slot : ℕ) (o : Owns p v at k slot) where
  closed-begins : (j r : ℕ) → IsClosed p.regions v r → BeginsBehind p.regions v j r
  closed-begins j r c x w is has =
      let same : w.region ≡ c.0 = g.numbers w.region c.0 r has c.1 in
      absurd (false≢true (sym c.2 ∙ any-in (has_region c.0) v.windows x w is (eq-is w.region c.0 same)))

  pub slot-leads : Leads p v (word.Slot slot)
  slot-leads = record {
    held = λ s e. st.opened.slots (v.first + k) s (o.stands ∙ ap Some e);
    bridge = λ s r e lies c. st.slots (v.first + k) s r (o.stands ∙ ap Some e) lies (closed-begins (v.first + k) r c);
  }

  pub held : IsHeld p.cells.heap slot
  held = slot-leads.held slot refl

  pub shown : slot_at (machine_of p v at) k ≡ val_of p.cells.heap (word.Slot slot)
  shown = slot-shown p v at st k ∙ ap (λ x. val_of p.cells.heap (unwrap_or x word.Nil)) o.stands

  owner : owns_or_nil (machine_of p v at) (val_of p.cells.heap (word.Slot slot)) ≡ true
  owner = sym (ap (owns_or_nil (machine_of p v at)) shown) ∙ o.owner

  -- what the heap's calls ask for
  pub may-move : CanMove p.cells.heap p.regions (word.Slot slot)
  may-move = can-move p v at q g st.opened slot k st.numbers held slot-leads.bridge shown o.once owner

  abbrev topmost : Top p v at q g st.opened
  topmost = top p v at q g st.opened

  top-same : (w : WindowRow) → IsTop v w → topmost.window ≡ w
  top-same w is = same_Some topmost.window w (sym topmost.is ∙ is)

  pub may-merge : (w : WindowRow) → IsTop v w → NotBeneath p slot w.region
  may-merge w is = subst (λ (x : WindowRow). NotBeneath p slot x.region) (top-same w is) (can-merge p v at q g st.opened slot held owner)

  pub owned : Owned p v slot
  owned =
      let x = slot-ownerless p v at q g st.opened slot k st.numbers held slot-leads.bridge shown o.once owner in
      record { region = x.0; lies = x.1.lies; alone = x.1.alone; key = x.2.0; has = x.2.1; away = x.2.2 }

module _ (p : Parts) (v : Stack) (at : ℕ) (q : Serials p.cells.heap) (g : Grove p.cells p.regions) (st : Stands p v)
    (k slot : ℕ) (o : Owns p v at k slot) (x : Owned p v slot) where
  closed : IsClosed p.regions v x.region
  closed = (x.key, x.has, x.away)

  -- Behind a freeze

  -- it takes the region and all beneath it
  abbrev pub frozen : List ℕ
  frozen = beneath_by_labels (store_of p.cells.heap) (length (managers_of p.regions)) (x.region ∷ [])

  below : Names frozen (BelowSome p.cells.heap p.regions (x.region ∷ []))
  below = beneath-names p q g st.numbers (x.region ∷ [])

  below-key : Names frozen (BelowKey p.cells.heap p.regions x.key)
  below-key = record {
    all = λ r b. below.all r (b.0, one-there x.region b.0 (same_Some x.region b.0 (sym x.has ∙ b.1)), b.2);
    only = λ r a. let b = below.only r a in (b.0, x.has ∙ ap Some (one-is x.region b.0 b.1), b.2);
  }

  frozen-closed : (r : ℕ) → among frozen r ≡ true → is_open (windows_of p.regions v) r ≡ false
  frozen-closed r a =
      below-closed p v at q g st.opened (x.region ∷ []) (λ t e. subst (IsClosed p.regions v) (one-is x.region t e) closed) r (below.only r a)

  module _ (new : Parts) (f : Freezes p new x.key) where
    frozen-labels : Labels p.cells.heap new.cells.heap frozen Frozen
    frozen-labels = freeze-labels p new x.key frozen f below-key

    -- the record of another region stays
    frozen-kept : (other : ℕ) (r : Record) → record_at p.regions other ≡ Some r → among frozen r.number ≡ false
        → record_at new.regions other ≡ record_at p.regions other
    frozen-kept other r e out =
        (f.records other (λ n b h.
        let same : r.number ≡ n = same_Some r.number n (sym (record-number p.regions other r e) ∙ h) in
        false≢true (sym out ∙ ap (among frozen) same ∙ below-key.all n b))).0

    frozen-was : (other : ℕ) (r : Record) → record_at new.regions other ≡ Some r → record_at p.regions other ≡ Some r
    frozen-was other r e =
        let u = (freeze-numbers p new x.key frozen f below-key).there other r e in
        test u.0 u.1 (among frozen u.0.number) refl
      where
        test : (u : Record) → record_at p.regions other ≡ Some u → (t : Truth) → among frozen u.number ≡ t
            → record_at p.regions other ≡ Some r
        test u is true a =
            absurd (none-some r (sym (f.removed other u.number (below-key.only u.number a) (record-number p.regions other u is)) ∙ e))
        test u is false a = sym (frozen-kept other u is a) ∙ e

    frozen-lies : (r s : ℕ) → LiesIn new.cells.heap r s → LiesIn p.cells.heap r s
    frozen-lies r s l = elim (label-back p.cells.heap new.cells.heap frozen Frozen frozen-labels s (Region r) l) [
      | inl y ↦ absurd (region-frozen r y.0)
      | inr y ↦ y.0
    ]

    frozen-parent : (a b : ℕ) → Parent new.cells.heap a b → Parent p.cells.heap a b
    frozen-parent a b y = record {
      differ = y.differ;
      from = y.from;
      field = y.field;
      to = y.to;
      lies = frozen-lies a y.from y.lies;
      leads = sym (field-same p.cells.heap new.cells.heap frozen Frozen frozen-labels y.from y.field) ∙ y.leads;
      child_has = frozen-lies b y.to y.child_has;
    }

    pub freeze-moves : Moves p new v (v.first + k) frozen Frozen
    freeze-moves = record {
      labels = frozen-labels;
      no_temp = temp-frozen;
      closed = frozen-closed;
      numbers = freeze-numbers p new x.key frozen f below-key;
      kept = λ other r e out. (r, frozen-kept other r e out ∙ e, refl, refl);
      were = λ other r e. (r, frozen-was other r e, refl, refl);
      parents = λ j w n a is h y. frozen-parent a n y;
      one_slot = λ r n j s is a e l. absurd (region-frozen r is);
      no_field = λ r n j s f to w is a ws t e l. region-frozen r is;
      into_open = λ r is c. region-frozen r is;
    }

  -- Behind a merge

  abbrev pub active : Top p v at q g st.opened
  active = top p v at q g st.opened

  module _ (new : Parts) (m : Merges p new x.key active.window.region) where
    merged-labels : Labels p.cells.heap new.cells.heap (x.region ∷ []) (Region active.number)
    merged-labels = merge-labels p new x.key active.window.region x.region active.number m x.has active.has

    -- the records of both
    from : (r : Record) × (record_at p.regions x.key ≡ Some r) × (r.number ≡ x.region)
    from = number-record p.regions x.key x.region x.has

    into : (r : Record) × (record_at p.regions active.window.region ≡ Some r) × (r.number ≡ active.number)
    into = number-record p.regions active.window.region active.number active.has

    merged-kept : (other : ℕ) (r : Record) → record_at p.regions other ≡ Some r → among (x.region ∷ []) r.number ≡ false
        → (y : Record) × (record_at new.regions other ≡ Some y) × (y.number ≡ r.number) × (y.bridge ≡ r.bridge)
    merged-kept other r e out = elim (cases_eq other x.key) [
      | inl is ↦
          let same : x.region ≡ r.number = same_Some x.region r.number
          (sym x.has ∙ ap (λ n. option_map (λ (r : Record). r.number) (record_at p.regions n)) (sym is) ∙ record-number p.regions other r e) in
          absurd (false≢true (sym out ∙ one-there x.region r.number same))
      | inr d ↦ elim (cases_eq other active.window.region) [
        | inl is ↦
            let now = m.records.members from.0 r from.1 (ap (record_at p.regions) (sym is) ∙ e) in
            (record r { members = r.members ++ from.0.members; room = now.0 }, ap (record_at new.regions) is ∙ now.1, refl, refl)
        | inr d₂ ↦ (r, (m.records.others other d d₂).0 ∙ e, refl, refl)
      ]
    ]

    merged-were : (other : ℕ) (r : Record) → record_at new.regions other ≡ Some r
        → (u : Record) × (record_at p.regions other ≡ Some u) × (u.number ≡ r.number) × (u.bridge ≡ r.bridge)
    merged-were other r e = elim (cases_eq other x.key) [
      | inl is ↦ absurd (none-some r (sym (ap (record_at new.regions) is ∙ m.records.gone) ∙ e))
      | inr d ↦ elim (cases_eq other active.window.region) [
        | inl is ↦
            let now = m.records.members from.0 into.0 from.1 into.1 in
            let same = same_Some _ r (sym now.1 ∙ ap (record_at new.regions) (sym is) ∙ e) in (
              into.0,
              ap (record_at p.regions) is ∙ into.1,
              ap (λ (y : Record). y.number) same,
              ap (λ (y : Record). y.bridge) same,
            )
        | inr d₂ ↦ (r, sym (m.records.others other d d₂).0 ∙ e, refl, refl)
      ]
    ]

    merged-lies : (r s : ℕ) → LiesIn new.cells.heap r s
        → ((r ≡ active.number) × LiesIn p.cells.heap x.region s) ⊎ (LiesIn p.cells.heap r s × (r ≢ x.region))
    merged-lies r s l = elim (label-back p.cells.heap new.cells.heap (x.region ∷ []) (Region active.number) merged-labels s (Region r) l) [
      | inl y ↦ inl (region-same r active.number y.0, subst (λ n. LiesIn p.cells.heap n s) (sym (one-is x.region y.1 y.2)) y.3)
      | inr y ↦ inr (y.0, λ is. y.1 r (one-there x.region r (sym is)) y.0)
    ]

    -- the owned region isn't open
    not-open : is_open (windows_of p.regions v) x.region ≡ false
    not-open = closed-not-open p.regions v (keyed p v at q g st.opened) x.region closed

    -- so nothing comes above an open one
    merged-parents : (j : ℕ) (w : WindowRow) (n a : ℕ) → IsWindow v j w → HasNumber p.regions w.region n → Parent new.cells.heap a n
        → Parent p.cells.heap a n
    merged-parents j w n a is h y =
        let leads = sym (field-same p.cells.heap new.cells.heap (x.region ∷ []) (Region active.number) merged-labels y.from y.field) ∙ y.leads in
        elim (merged-lies a y.from y.lies) [
          | inl up ↦ elim (merged-lies n y.to y.child_has) [
            | inl down ↦ absurd (y.differ (up.0 ∙ sym down.0))
            | inr down ↦
                let u = st.opened.parents j w n x.region is h (record {
                  differ = λ e. down.1 (sym e);
                  from = y.from;
                  field = y.field;
                  to = y.to;
                  lies = up.1;
                  leads = leads;
                  child_has = down.0;
                }) in
                absurd (false≢true (sym not-open ∙ window-open p.regions v (keyed p v at q g st.opened) x.region u.0 u.1 u.3 u.4))
          ]
          | inr up ↦ elim (merged-lies n y.to y.child_has) [
            | inl down ↦ absurd (x.alone a y.from y.field y.to up.1 up.0 leads down.1)
            | inr down ↦ record {
              differ = y.differ;
              from = y.from;
              field = y.field;
              to = y.to;
              lies = up.0;
              leads = leads;
              child_has = down.0;
            }
          ]
        ]

    -- the active region isn't closed
    merged-open : (r : ℕ) → Region r ≡ Region active.number → IsClosed new.regions v r → ⊥
    merged-open r is c =
        let y = number-record new.regions c.0 r c.1 in
        let u = merged-were c.0 y.0 y.1 in
        let has : HasNumber p.regions c.0 active.number =
        record-number p.regions c.0 u.0 u.1 ∙ ap Some (u.2 ∙ y.2 ∙ region-same r active.number is) in
        let same : active.window.region ≡ c.0 = g.numbers active.window.region c.0 active.number active.has has in
        false≢true (sym c.2 ∙ any-in (has_region c.0) v.windows (length v.windows - 1) active.window active.is
        (eq-is active.window.region c.0 same))

    pub merge-moves : Moves p new v (v.first + k) (x.region ∷ []) (Region active.number)
    merge-moves = record {
      labels = merged-labels;
      no_temp = λ n e. temp-region n active.number (ap Some e);
      closed = λ n a. ap (is_open (windows_of p.regions v)) (sym (one-is x.region n a)) ∙ not-open;
      numbers = merge-numbers p new x.key active.window.region from.0 into.0 m from.1 into.1;
      kept = merged-kept;
      were = merged-were;
      parents = merged-parents;
      one_slot = λ r n j s is a e l. sole-slot p v at q g st.opened x.region j (v.first + k) s slot st.lain st.numbers closed o.once e
          (subst (λ z. LiesIn p.cells.heap z s) (sym (one-is x.region n a)) l) o.stands x.lies;
      no_field = λ r n j s f to w is a ws t e l. sole-temp p v at q g st.opened x.region (v.first + k) slot j s f to w st.lain st.numbers closed
          o.once o.stands x.lies ws (st.opened.temps j s w ws t) e (subst (λ z. LiesIn p.cells.heap z to) (sym (one-is x.region n a)) l);
      into_open = merged-open;
    }
