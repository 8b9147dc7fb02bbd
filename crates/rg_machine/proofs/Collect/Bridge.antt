-- The bridge of the active region is what the topmost window's owner leads to in the state of the machine that never frees.
use Rattle.std.proofs.Common.{◌≡◌, ◌≢◌, ◌<◌, ◌⊎◌, inl, inr, ℕ, ◌-◌, true, List, [], ◌∷◌}
use Rattle.std.proofs.Common.{length, reverse, Option, Some, None, option_map, option_and_then, option_to_list, slice_get, refl, sym, ap, ◌∙◌, subst}
use Rattle.std.proofs.Common.{arith}
use Rattle.std.proofs.lemmas.Bool.{cases_eq}
use Rattle.std.proofs.lemmas.Option.{none-some, same_Some, slice_get_within}
use Rattle.rg_base.specs.declared.object.Label.{Label}
use Rattle.rg_base.specs.declared.object.Label.TheVariants.{Region, Temp, Frozen}
use Rattle.rg_base.specs.declared.object.Place.{Place}
use Rattle.rg_base.specs.declared.object.Place.TheVariants as place
use Rattle.rg_base.specs.declared.object.Seen.{Seen}
use Rattle.rg_base.specs.declared.value.Val.{Val}
use Rattle.rg_base.specs.declared.value.Val.TheVariants as val
use Rattle.rg_base.specs.declared.value.Word.{Word}
use Rattle.rg_base.specs.declared.value.Word.TheVariants as word
use Rattle.rg_base.proofs.Callers.Labels.{region-same}
use Rattle.rg_tree.specs.Tree.{Class, Field, Tree}
use Rattle.rg_rules.specs.Owners.{owned_at, owned_by_field, owned_by_local, owned_by_slot, owned_in_field, owned_in_frame}
use Rattle.rg_rules.specs.Reach.{value_at}
use Rattle.rg_rules.specs.Regions.{address, owned, owned_as, region_at}
use Rattle.rg_rules.specs.State.{Frame as BodyRow, Local, State, Window as OpenedRow, frame_at}
use Rattle.rg_rules.specs.Types.{fields_of, type_of}
use Rattle.rg_sound.specs.Numbers.{Rising}
use Rattle.rg_sound.specs.OpenRegions.{AllOwned, IsNear}
use Rattle.rg_sound.proofs.Stores.Member.{In}
use Rattle.rg_code.specs.Code.{Code}
use Rattle.rg_cells.specs.declared.cell.Body.{Body}
use Rattle.rg_cells.specs.Table.{Heap, body_at, field_at, label_at}
use Rattle.rg_regions.specs.Reach.{LiesIn}
use Rattle.rg_regions.specs.Table.{IsBridge, Record, record_at, HasNumber}
use Rattle.rg_frames.specs.declared.rows.Window.{Window as WindowRow}
use Rattle.rg_frames.specs.Stack.{Stack}
use Rattle.rg_stack.specs.Machine.{Machine}
use Rattle.rg_stack.specs.Shows.{sizes_of}
use Rattle.rg_held.proofs.Gather.Roots.{owned-value}
use Rattle.rg_heap.specs.Opened.{IsWindow}
use Rattle.rg_heap.specs.Parts.{Parts}
use Rattle.rg_view.specs.View.{frames_of, object_of}
use Rattle.rg_view.proofs.Callers.Link.{val-back, word-back, label-in as label-there}
use Rattle.rg_view.proofs.Callers.Shown.{field-in}
use Rattle.rg_machine.specs.Collects.{holds}
use Rattle.rg_machine.specs.Stands.{BeginsBehind, OpensLater}
use Rattle.rg_machine.proofs.Callers.Collect.{Active}
use Rattle.rg_machine.proofs.Callers.ReachShown.{Beside, TopShown}
use Rattle.rg_machine.proofs.Callers.ReachShown.{cell, held-owner, lies-there, shown-slots, there, top-shown}
use Rattle.rg_machine.proofs.Callers.ReachShown.{by-owner, owner_leads, roots_lead}
use Rattle.rg_machine.proofs.Collect.Slots.{in-front, variable-at}

-- An owner reference is what stands at its place

-- a variable that holds a reference
pub record VariableOf (frames : List BodyRow) (n i a : ℕ) : Type 0 where
  pub body : BodyRow
  pub local : Local
  pub body_there : frame_at frames n ≡ Some body
  pub local_there : slice_get body.locals i ≡ Some local
  pub value : local.value ≡ val.Obj a

owned-variable : (frames : List BodyRow) (n i a : ℕ) → owned_in_frame frames n i ≡ Some a → VariableOf frames n i a
owned-variable frames n i a e = by (frame_at frames n) refl e
  where
    local : (b : BodyRow) → frame_at frames n ≡ Some b → (o : Option Local) → slice_get b.locals i ≡ o → option_and_then owned_by_local o ≡ Some a
        → VariableOf frames n i a
    local b f None g e = absurd (none-some a e)
    local b f (Some l) g e =
        record { body = b; local = l; body_there = f; local_there = g; value = owned-value l.ty l.value a e }

    by : (o : Option BodyRow) → frame_at frames n ≡ o
        → option_and_then owned_by_local (option_and_then (λ (f : BodyRow). slice_get f.locals i) o) ≡ Some a → VariableOf frames n i a
    by None f e = absurd (none-some a e)
    by (Some b) f e = local b f (slice_get b.locals i) refl e

-- a field of an object that holds one
pub record FieldOf (store : List Seen) (b k a : ℕ) : Type 0 where
  pub holder : Seen
  pub there : slice_get store b ≡ Some holder
  pub value : slice_get holder.fields k ≡ Some (val.Obj a)

owned-field : (classes : List Class) (store : List Seen) (b k a : ℕ) → owned_in_field classes store b k ≡ Some a → FieldOf store b k a
owned-field classes store b k a e = by (slice_get store b) refl e
  where
    slot-value : (o : Seen) (f : Field) (x : Option Val) → slice_get o.fields k ≡ x → option_and_then (owned_as classes f) x ≡ Some a
        → slice_get o.fields k ≡ Some (val.Obj a)
    slot-value o f None g e = absurd (none-some a e)
    slot-value o f (Some y) g e = g ∙ ap Some (owned-value (type_of classes f.ty) y a e)

    slot : (o : Seen) (x : Option Field) → option_and_then (λ (f : Field). option_and_then (owned_as classes f) (slice_get o.fields k)) x ≡ Some a
        → slice_get o.fields k ≡ Some (val.Obj a)
    slot o None e = absurd (none-some a e)
    slot o (Some f) e = slot-value o f (slice_get o.fields k) refl e

    of_label : (o : Seen) (l : Label) →
        elim l [ Region q ↦ owned_by_slot classes o k | Temp n ↦ owned_by_slot classes o k | Frozen ↦ None ] ≡ Some a
        → slice_get o.fields k ≡ Some (val.Obj a)
    of_label o (Region q) e = slot o (slice_get (fields_of classes o.class) k) e
    of_label o (Temp n) e = slot o (slice_get (fields_of classes o.class) k) e
    of_label o Frozen e = absurd (none-some a e)

    by : (o : Option Seen) → slice_get store b ≡ o → option_and_then (λ (o : Seen). owned_by_field classes o k) o ≡ Some a → FieldOf store b k a
    by None f e = absurd (none-some a e)
    by (Some o) f e = record { holder = o; there = f; value = of_label o o.label e }

variable-value : (store : List Seen) (frames : List BodyRow) (n i a : ℕ) → VariableOf frames n i a
    → value_at store frames (place.Var n i) ≡ Some (val.Obj a)
variable-value store frames n i a x =
    ap (λ o. option_map (λ (l : Local). l.value) (option_and_then (λ (f : BodyRow). slice_get f.locals i) o)) x.body_there
    ∙ ap (option_map (λ (l : Local). l.value)) x.local_there ∙ ap Some x.value

field-value : (store : List Seen) (frames : List BodyRow) (b k a : ℕ) → FieldOf store b k a
    → value_at store frames (place.Field b k) ≡ Some (val.Obj a)
field-value store frames b k a x = ap (option_and_then (λ (o : Seen). slice_get o.fields k)) x.there ∙ x.value

-- a field of a cell that holds a reference
field-leads : (h : Heap) (x k y : ℕ) (b : Body) (w : Word) → body_at h x ≡ Some b → slice_get b.fields k ≡ Some w → w ≡ word.Slot y
    → field_at h x k ≡ Some (word.Slot y)
field-leads h x k y b w e at is = field-in h x k b e ∙ at ∙ ap Some is

-- Numbers of windows rise

first-rises : (w u : OpenedRow) (ws rest : List OpenedRow) → ws ≡ w ∷ u ∷ rest → Rising ws → u.number < w.number
first-rises w u ws rest e r = (subst Rising e r).0

module _ (p : Parts) (v : Stack) (at : ℕ) (t : Tree) (code : Code) (s : State) (m : Machine) (z : Beside p v at t code s m) (a : Active p v)
    (sole : (i : ℕ) (w : WindowRow) → IsWindow v i w → HasNumber p.regions w.region a.rec.number → i ≡ length v.windows - 1)
    (first : a.rec.number ≡ 0 → a.rec.bridge ≡ None) where
  abbrev h : Heap
  h = p.cells.heap

  abbrev r : ℕ
  r = a.rec.number

  abbrev ws : TopShown (sizes_of (frames_of h v)) a.window r s.windows
  ws = top-shown p v at t code s m z a

  -- The bridge

  -- only one cell is it
  one-bridge : (x y : ℕ) → a.rec.bridge ≡ Some x → IsBridge p.regions r y → x ≡ y
  one-bridge x y e b =
      let number : HasNumber p.regions b.0 r = ap (option_map (λ (r : Record). r.number)) b.2 ∙ ap Some b.3 in
      let has : HasNumber p.regions a.window.region r = ap (option_map (λ (r : Record). r.number)) a.known in
      let key : b.0 ≡ a.window.region = z.grove.numbers b.0 a.window.region r number has in
      let rec : b.1 ≡ a.rec = same_Some b.1 a.rec (sym b.2 ∙ ap (record_at p.regions) key ∙ a.known) in
      same_Some x y (sym e ∙ ap (λ (r : Record). r.bridge) (sym rec) ∙ b.4)

  -- a slot in front of the window leads into its region by the bridge
  slot-bridge : (j y : ℕ) → slice_get v.slots j ≡ Some (word.Slot y) → LiesIn h r y → j < a.window.base → IsBridge p.regions r y
  slot-bridge j y e lies lt = z.stands.slots j y r e lies behind
    where
      behind : BeginsBehind p.regions v j r
      behind i w is has =
          let same : w ≡ a.window = same_Some w a.window (sym is ∙ ap (slice_get v.windows) (sole i w is has) ∙ a.is) in
          subst (λ (x : WindowRow). j < x.base) (sym same) lt

  -- so does a temporary of another window
  temp-bridge : (x k y n : ℕ) → label_at h x ≡ Some (Temp n) → n ≢ a.window.number → field_at h x k ≡ Some (word.Slot y) → LiesIn h r y
      → IsBridge p.regions r y
  temp-bridge x k y n label other leads lies =
      let w = z.stands.temps x n label in
      let temp = z.stands.opened.all_temps w.0 x w.1 w.2 (label ∙ ap (λ n. Some (Temp n)) (sym w.3)) in
      z.stands.fields w.0 x k y r w.1 w.2 temp leads lies (later w.0 w.1 w.2 w.3)
    where
      later : (i : ℕ) (w : WindowRow) → IsWindow v i w → w.number ≡ n → OpensLater p.regions v i r
      later i w is number j u there has =
          let last = sole j u there has in
          let within = slice_get_within v.windows i w is in
          elim (cases_eq i (length v.windows - 1)) [
            | inl same ↦
                (let window : w ≡ a.window = same_Some w a.window (sym is ∙ ap (slice_get v.windows) same ∙ a.is) in
                absurd (other (sym number ∙ ap (λ (x : WindowRow). x.number) window)))
            | inr d ↦ omega (arith, last, within, d)
          ]

  -- and a field of a cell of another region
  field-bridge : (x k y n : ℕ) → LiesIn h n x → n ≢ r → field_at h x k ≡ Some (word.Slot y) → LiesIn h r y → IsBridge p.regions r y
  field-bridge x k y n from other leads lies = elim (z.grove.fields n x k y from leads) [
    | inl frozen ↦ absurd (frozen-region (sym frozen ∙ lies))
    | inr more ↦ elim more [
      | inl own ↦ absurd (other (region-same n r (sym own ∙ lies)))
      | inr q ↦ subst (λ n. IsBridge p.regions n y) (region-same q.0 r (sym q.2 ∙ lies)) q.3
    ]
  ]
    where
      frozen-region : Some Frozen ≡ Some (Region r) → ⊥
      frozen-region e = cc

  -- where a word shows a serial of the region, its cell lies there
  word-lies : (x y : ℕ) (b : Body) → body_at h y ≡ Some b → b.serial ≡ x → region_at s.store x ≡ Some r → LiesIn h r y
  word-lies x y b e serial is = lies-there p v at t code s m z r y b e (ap (region_at s.store) serial ∙ is)

  -- the owner's value leads to the bridge
  pub record Bridged (o : Place) : Type 0 where
    pub address : ℕ
    pub value : value_at s.store s.frames o ≡ Some (val.Obj address)
    pub slot : ℕ
    pub body : Body
    pub held : body_at h slot ≡ Some body
    pub serial : body.serial ≡ address
    pub bridge : IsBridge p.regions r slot

  variable-bridged : (n i x : ℕ) → VariableOf s.frames n i x → region_at s.store x ≡ Some r
      → (n < ws.top.base_frame) ⊎ ((n ≡ ws.top.base_frame) × (i < ws.top.base_place)) → Bridged (place.Var n i)
  variable-bridged n i x var is near =
      let y = variable-at h v.slots v.first (reverse v.frames) z.stands.lain s.frames (shown-slots p v at t code s m z) n i var.body var.local
      var.body_there var.local_there in
      let to = val-back h y.word x (y.shown ∙ var.value) in
      let lies = word-lies x to.slot to.body to.held to.serial is in
      let lt = in-front (sizes_of (frames_of h v)) n ws.top.base_frame i ws.top.base_place y.size y.sized y.within near in
      let place = y.is in
      let base = ws.base in
      record {
        address = x;
        value = variable-value s.store s.frames n i x var;
        slot = to.slot;
        body = to.body;
        held = to.held;
        serial = to.serial;
        bridge = slot-bridge y.place to.slot (y.there ∙ ap Some to.is) lies (omega (arith, lt, place, base));
      }

  field-bridged : (b k x : ℕ) → FieldOf s.store b k x → region_at s.store x ≡ Some r → holds h b ≡ true
      → ((o : Seen) → slice_get s.store b ≡ Some o → ((n : ℕ) × (o.label ≡ Region n) × (n ≢ r))
      ⊎ ((n : ℕ) × (o.label ≡ Temp n) × (n ≢ a.window.number)))
      → Bridged (place.Field b k)
  field-bridged b k x f is held label =
      let c = cell p v at t code s m z b held in
      let same : f.holder ≡ object_of h (Some c.body) =
      same_Some f.holder (object_of h (Some c.body))
      (sym f.there ∙ ap (slice_get s.store) (sym c.serial) ∙ there p v at t code s m z c.slot c.body c.held) in
      let w = word-back h c.body.fields k (val.Obj x) (sym (ap (λ (o : Seen). slice_get o.fields k) same) ∙ f.value) in
      let to = val-back h w.0 x w.2 in
      let lies = word-lies x to.slot to.body to.held to.serial is in
      let leads : field_at h c.slot k ≡ Some (word.Slot to.slot) = field-leads h c.slot k to.slot c.body w.0 c.held w.1 to.is in
      let of : c.body.label ≡ f.holder.label = sym (ap (λ (o : Seen). o.label) same) in
      record {
        address = x;
        value = field-value s.store s.frames b k x f;
        slot = to.slot;
        body = to.body;
        held = to.held;
        serial = to.serial;
        bridge = elim (label f.holder f.there) [
          | inl n ↦ field-bridge c.slot k to.slot n.0 (label-there h c.slot c.body (Region n.0) c.held (of ∙ n.1)) n.2 leads lies
          | inr n ↦ temp-bridge c.slot k to.slot n.0 (label-there h c.slot c.body (Temp n.0) c.held (of ∙ n.1)) n.2 leads lies
        ];
      }

  place-bridged : (u : OpenedRow) (us : List OpenedRow) → s.windows ≡ ws.top ∷ u ∷ us → (o : Place) (x : ℕ) → IsNear s.store ws.top u o
      → owned_at t.classes s.store s.frames o ≡ Some x → region_at s.store x ≡ Some r → ws.top.owner ≡ Some o → Bridged o
  place-bridged u us e (place.Var n i) x near owned is named = variable-bridged n i x (owned-variable s.frames n i x owned) is near
  place-bridged u us e (place.Field b k) x near owned is named =
      field-bridged b k x (owned-field t.classes s.store b k x owned) is (held-owner p v at t code s m z a b k (ws.owner ∙ named)) label
    where
      other-region : u.region ≢ r
      other-region same =
          let no : 0 ≡ 1 = z.fit.opened.one_each 0 1 ws.top u (ap (λ l. slice_get l 0) e) (ap (λ l. slice_get l 1) e)
          (sym ws.region_is ∙ sym same) in absurd (omega (arith, no))

      other-number : u.number ≢ a.window.number
      other-number same =
          let less = first-rises ws.top u s.windows us e z.fit.numbers.rising in
          let number = ws.number in absurd (omega (arith, less, same, number))

      label : (o : Seen) → slice_get s.store b ≡ Some o
          → ((n : ℕ) × (o.label ≡ Region n) × (n ≢ r)) ⊎ ((n : ℕ) × (o.label ≡ Temp n) × (n ≢ a.window.number))
      label o at =
          let same : near.0 ≡ o = same_Some near.0 o (sym near.1 ∙ at) in
          let labels : o.label ≡ near.0.label = ap (λ (o : Seen). o.label) (sym same) in
          elim near.2 [
            | inl region ↦ inl (u.region, labels ∙ region, other-region)
            | inr temp ↦ inr (u.number, labels ∙ temp, other-number)
          ]

  -- where the active region has a bridge, it is what the owner leads to
  pub record OwnerBridged : Type 0 where
    pub place : Place
    pub named : ws.top.owner ≡ Some place
    pub bridged : Bridged place

  pub owner-bridged : (x : ℕ) → a.rec.bridge ≡ Some x → OwnerBridged
  owner-bridged x bridge = by ws.rest ws.is (subst (AllOwned t.classes s.store s.frames) ws.is z.fit.opened.owned)
    where
      by : (rest : List OpenedRow) → s.windows ≡ ws.top ∷ rest → AllOwned t.classes s.store s.frames (ws.top ∷ rest) → OwnerBridged
      by [] e own = absurd (none-some x (sym (first (ws.region_is ∙ own.0)) ∙ bridge))
      by (u ∷ us) e own = leads (owned_at t.classes s.store s.frames own.0.place) refl ((own.0.exact own.0.place).1 refl)
        where
          leads : (o : Option ℕ) → owned_at t.classes s.store s.frames own.0.place ≡ o
              → option_and_then (region_at s.store) (owned_at t.classes s.store s.frames own.0.place) ≡ Some ws.top.region → OwnerBridged
          leads None f is = absurd (none-some ws.top.region (sym (ap (option_and_then (region_at s.store)) f) ∙ is))
          leads (Some y) f is = record {
            place = own.0.place;
            named = own.0.named;
            bridged = place-bridged u us e own.0.place y own.0.near f
                (sym (ap (option_and_then (region_at s.store)) f) ∙ is ∙ ap Some (sym ws.region_is)) own.0.named;
          }

  -- so its serial is among the addresses to which roots lead
  pub bridge-leads : (x : ℕ) (b : Body) → a.rec.bridge ≡ Some x → body_at h x ≡ Some b → In b.serial (roots_lead s ws.top)
  bridge-leads x b bridge e =
      let o = owner-bridged x bridge in
      let y = o.bridged in
      let same : x ≡ y.slot = one-bridge x y.slot bridge y.bridge in
      let body : b ≡ y.body = same_Some b y.body (sym e ∙ ap (body_at h) same ∙ y.held) in
      let leads : owner_leads s ws.top.owner ≡ y.address ∷ [] =
      ap (owner_leads s) o.named ∙ ap (λ x. option_to_list (option_and_then address x)) y.value in
      by-owner s ws.top b.serial (subst (In b.serial) (sym leads) (inl (sym y.serial ∙ ap (λ (b : Body). b.serial) (sym body))))
