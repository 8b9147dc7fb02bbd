-- Two answers to a step that changes no label: the instructions leave the same of what was there held.
use Rattle.std.proofs.Common.{◌≡◌, ◌≢◌, ◌⊎◌, ◌≤◌, ◌<◌, ◌-◌, inl, inr, ℕ, zero, suc, ◌==◌, ◌||◌, not, Bool as Truth, true, false, true≢false, List}
use Rattle.std.proofs.Common.{[], ◌∷◌, ◌++◌}
use Rattle.std.proofs.Common.{map, length, replicate, Some, option_map, option_and_then, slice_get, refl, sym, ap, ◌∙◌, subst}
use Rattle.std.specs.List.{list_any}
use Rattle.std.proofs.lemmas.Bool.{cases_lt as order, eq-eqb, false_from_ne_true as never}
use Rattle.std.proofs.lemmas.Option.{none-some, same_Some}
use Rattle.rg_base.specs.declared.object.Label.TheVariants.{Region, Temp}
use Rattle.rg_base.specs.declared.object.Seen.{Seen}
use Rattle.rg_base.specs.declared.value.Val.{Val}
use Rattle.rg_base.specs.declared.value.Val.TheVariants as val
use Rattle.rg_base.proofs.Callers.Lists.{there as below-get}
use Rattle.rg_tree.specs.Tree.{Tree}
use Rattle.rg_rules.specs.Regions.{region_at, region_of}
use Rattle.rg_rules.specs.State.{Frame as Body, Local, State, Window as Opened}
use Rattle.rg_code.specs.Code.{Code}
use Rattle.rg_regions.specs.Grove.{Parent}
use Rattle.rg_regions.specs.Table.{InTable}
use Rattle.rg_stack.specs.Labels.{has_window, is_open, is_outside}
use Rattle.rg_stack.specs.Machine.{Frame, Machine, Window}
use Rattle.rg_stack.specs.Shows.{ShowsFrames, ShowsWindows}
use Rattle.rg_view.specs.Links.{Link}
use Rattle.rg_view.specs.View.{store_of}
use Rattle.rg_view.proofs.Callers.Link.{link-parent}
use Rattle.rg_view.proofs.Callers.Need.{keyed}
use Rattle.rg_view.proofs.Callers.Open.{open-back}
use Rattle.rg_held.specs.Temps.{EndedTemp}
use Rattle.rg_held.specs.Gone.{gone}
use Rattle.rg_held.specs.Part.{FieldInto, Part, SlotInto}
use Rattle.rg_held.specs.Shown.{ShowsHeld}
use Rattle.rg_held.proofs.Places.{RefTo, into-back}
use Rattle.rg_machine.specs.Collects.{holds}
use Rattle.rg_machine.specs.Parts.{Parts, machine_in}
use Rattle.rg_machine.proofs.Callers.Gather.{holds-back}
use Rattle.rg_machine.proofs.Callers.Part.{gone-shown, held-shown}
use Rattle.rg_machine.proofs.Callers.ReachShown.{lies-there}
use Rattle.rg_machine.proofs.Callers.Slid.{same-lists}
use Rattle.rg_step.specs.Frees.{LeftTable}
use Rattle.rg_step.specs.States.{Standing}
use Rattle.rg_once.specs.Once.{HoldTheSame}
use Rattle.rg_once.proofs.Answer.{Answer, beside, mid, shown}
use Rattle.rg_once.proofs.Climb.{no-climb}
use Rattle.rg_once.proofs.Gone.{both-ways}

-- Two machines that show the windows and the variables of one state

pub numbers-shown : (sizes : List ℕ) (ws : List Window) (ps : List Opened) (n : ℕ) → ShowsWindows sizes ws ps
    → has_window ws n ≡ list_any (λ (o : Opened). o.number == n) ps
numbers-shown sizes [] [] n h = refl
numbers-shown sizes [] (p ∷ ps) n h = absurd h
numbers-shown sizes (w ∷ ws) [] n h = absurd h
numbers-shown sizes (w ∷ ws) (p ∷ ps) n h =
    ap (λ k. (k == n) || has_window ws n) h.0.number ∙ ap (λ b. (p.number == n) || b) (numbers-shown sizes ws ps n h.1)

pub regions-shown : (sizes : List ℕ) (ws : List Window) (ps : List Opened) (r : ℕ) → ShowsWindows sizes ws ps
    → is_open ws r ≡ list_any (λ (o : Opened). o.region == r) ps
regions-shown sizes [] [] r h = refl
regions-shown sizes [] (p ∷ ps) r h = absurd h
regions-shown sizes (w ∷ ws) [] r h = absurd h
regions-shown sizes (w ∷ ws) (p ∷ ps) r h =
    ap (λ k. (k == r) || is_open ws r) h.0.region ∙ ap (λ b. (p.region == r) || b) (regions-shown sizes ws ps r h.1)

nil-not : (k i a : ℕ) → slice_get (replicate k val.Nil) i ≡ Some (val.Obj a) → ⊥
nil-not zero i a e = none-some (val.Obj a) e
nil-not (suc k) zero a e = absurd cc
nil-not (suc k) (suc i) a e = nil-not k i a e

front-get : (xs : List Val) (k i a : ℕ) → slice_get (xs ++ replicate k val.Nil) i ≡ Some (val.Obj a) → slice_get xs i ≡ Some (val.Obj a)
front-get [] k i a e = absurd (nil-not k i a e)
front-get (x ∷ xs) k zero a e = e
front-get (x ∷ xs) k (suc i) a e = front-get xs k i a e

pub longer-get : (xs ys : List Val) (i : ℕ) (v : Val) → slice_get xs i ≡ Some v → slice_get (xs ++ ys) i ≡ Some v
longer-get [] ys i v e = absurd (none-some v e)
longer-get (x ∷ xs) ys zero v e = e
longer-get (x ∷ xs) ys (suc i) v e = longer-get xs ys i v e

-- a reference in a slot of the one stands in a slot of the other
slot-also : (fs gs : List Frame) (bs : List Body) → ShowsFrames fs bs → ShowsFrames gs bs → (d i a : ℕ) (f : Frame) → slice_get fs d ≡ Some f
    → slice_get f.slots i ≡ Some (val.Obj a) → (g : Frame) × (slice_get gs d ≡ Some g) × (slice_get g.slots i ≡ Some (val.Obj a))
slot-also [] gs bs x y d i a f e at = absurd (none-some f e)
slot-also (h ∷ fs) gs [] x y d i a f e at = absurd x
slot-also (h ∷ fs) [] (b ∷ bs) x y d i a f e at = absurd y
slot-also (h ∷ fs) (g ∷ gs) (b ∷ bs) x y zero i a f e at =
    let here : slice_get h.slots i ≡ Some (val.Obj a) = ap (λ (f : Frame). slice_get f.slots i) (same_Some h f e) ∙ at in
    let local = front-get (map (λ (l : Local). l.value) b.locals) (length h.slots - length b.locals) i a
    (ap (λ vs. slice_get vs i) (sym x.0) ∙ here) in
    (g, refl, ap (λ vs. slice_get vs i) y.0 ∙ longer-get (map (λ (l : Local). l.value) b.locals) _ i (val.Obj a) local)
slot-also (h ∷ fs) (g ∷ gs) (b ∷ bs) x y (suc d) i a f e at = slot-also fs gs bs x.1 y.1 d i a f e at

outside-differs : (ws : List Window) (r k : ℕ) → is_outside ws r (Region k) ≡ true → k ≢ r
outside-differs ws r k e same = true≢false (sym e ∙ ap not (eq-eqb k r same))

-- a region that isn't in the table isn't open
pub shut-out : {t : Tree} {code : Code} {old : Standing} {p q : State} {new : Standing} (u : Answer t code old p q new) (r : ℕ)
    → (InTable (mid u).heap.regions r → ⊥) → is_open (shown u).grown.windows r ≡ false
shut-out u r out = never (is_open (shown u).grown.windows r) (λ e.
    let y = open-back (mid u).heap.regions (mid u).frames
    (keyed (mid u).heap (mid u).frames (mid u).at (beside u).serials (beside u).grove (beside u).stands.opened) r
    (ap (λ ws. is_open ws r) (beside u).part.windows ∙ e) in
    out (y.1.region, y.3))

-- an object that was held has the label that it had, or was of a region that hasn't left the table
abbrev pub Labelled : (old : Standing) → (p q : State) → Parts → Type 0
Labelled old p q mid =
    (a : ℕ) (o v : Seen) → slice_get p.store a ≡ Some o → slice_get q.store a ≡ Some v → slice_get (machine_in old.stepper.parts).store a ≡ Some o
    → o ≢ gone → (v.label ≡ o.label) ⊎ ((r : ℕ) × (o.label ≡ Region r) × (LeftTable old.stepper.parts mid r → ⊥))

module _ {t : Tree} {code : Code} {old beside_old : Standing} {p q : State} {new other : Standing} (w : Answer t code old p q new)
    (u : Answer t code beside_old p q other) (alike : HoldTheSame old.stepper.parts beside_old.stepper.parts)
    (labels : Labelled beside_old p q (mid u))
    (fresh : (a : ℕ) → length p.store ≤ a → a < length q.store → holds (mid u).heap.cells.heap a ≡ true) where
  abbrev held : ℕ → Truth
  held a = holds (mid w).heap.cells.heap a

  abbrev also : ℕ → Truth
  also a = holds (mid u).heap.cells.heap a

  abbrev was : Machine
  was = machine_in old.stepper.parts

  abbrev one : Machine
  one = (shown w).grown

  abbrev two : Machine
  two = (shown u).grown

  abbrev part : Part held [] (machine_in (mid w)) one []
  part = (beside w).part

  abbrev part₂ : Part also [] (machine_in (mid u)) two []
  part₂ = (beside u).part

  abbrev store : one.store ≡ q.store
  store = (shown w).shows.store

  abbrev store₂ : two.store ≡ q.store
  store₂ = (shown u).shows.store

  same-open : (r : ℕ) → is_open one.windows r ≡ is_open two.windows r
  same-open r =
      regions-shown _ one.windows q.windows r (shown w).shows.windows ∙ sym (regions-shown _ two.windows q.windows r (shown u).shows.windows)

  same-number : (n : ℕ) → has_window one.windows n ≡ has_window two.windows n
  same-number n =
      numbers-shown _ one.windows q.windows n (shown w).shows.windows ∙ sym (numbers-shown _ two.windows q.windows n (shown u).shows.windows)

  -- nothing of a region is held that isn't in the table
  not-held : (b r : ℕ) → (InTable (mid u).heap.regions r → ⊥) → also b ≡ true → region_at q.store b ≡ Some r → ⊥
  not-held b r out e is =
      let x = holds-back (mid u).heap.cells.heap b e in
      let lies = lies-there (mid u).heap (mid u).frames (mid u).at t code q two (beside u) r x.0 x.1 x.2 (ap (region_at q.store) x.3 ∙ is) in
      out ((beside u).grove.labels r x.0 lies)

  -- and it isn't open
  not-open : (r : ℕ) → (InTable (mid u).heap.regions r → ⊥) → is_open one.windows r ≡ false
  not-open r out = same-open r ∙ shut-out u r out

  -- what was there, and is held behind the instructions
  record Old (a : ℕ) : Type 0 where
    pub object : Seen
    pub stood : slice_get was.store a ≡ Some object
    pub plain : slice_get p.store a ≡ Some object
    pub some : object ≢ gone

  not-gone : (a : ℕ) → held a ≡ true → slice_get (machine_in (mid w)).store a ≡ Some gone → ⊥
  not-gone a h e =
      let x = held-shown (mid w).heap (mid w).frames (beside w).serials (beside w).stands w.step.serves.sound.windows a h in
      x.2 (same_Some x.0 gone (sym x.1 ∙ e))

  abbrev before : ShowsHeld t.classes code was p
  before = w.runs.shows

  stood-there : (a : ℕ) → held a ≡ true → a < length p.store → Old a
  stood-there a h less = by (before.held a) refl
    where
      o : (o : Seen) × (slice_get p.store a ≡ Some o)
      o = below-get p.store a less

      by : (b : Truth) → before.held a ≡ b → Old a
      by true e =
          let at : slice_get was.store a ≡ Some o.0 = before.beside.same a e ∙ ap (λ (s : List Seen). slice_get s a) before.shows.store ∙ o.1 in
          record { object = o.0; stood = at; plain = o.1; some = λ is. not-gone a h (w.step.serves.stays_gone a (at ∙ ap Some is)) }
      by false e =
          absurd (not-gone a h (w.step.serves.stays_gone a
          (before.beside.others a e ∙ ap (λ (s : List Seen). option_map (λ (x : Seen). gone) (slice_get s a)) before.shows.store
          ∙ ap (option_map (λ (x : Seen). gone)) o.1)))

  -- an object that the one holds, of a region that the other has no more
  record Missing (a r : ℕ) : Type 0 where
    pub here : held a ≡ true
    pub object : Seen
    pub there : slice_get q.store a ≡ Some object
    pub lies : object.label ≡ Region r
    pub left : InTable (mid u).heap.regions r → ⊥

  missing : (a : ℕ) → held a ≡ true → also a ≡ false → a < length p.store → (r : ℕ) × Missing a r
  missing a h e less = elim (labels a o.object v.0 o.plain v.1 also_stood o.some) [
    | inl label ↦ elim went [
      | inl ended ↦
          absurd (true≢false (sym (part.temps a v.0 ended.0 h (ap (λ (s : List Seen). slice_get s a) store ∙ v.1) (label ∙ ended.1))
          ∙ same-number ended.0 ∙ ap (λ (ws : List Window). has_window ws ended.0) (sym part₂.windows) ∙ ended.3))
      | inr gone_region ↦ (
        gone_region.0,
        record { here = h; object = v.0; there = v.1; lies = label ∙ gone_region.1; left = gone_region.2.left },
      )
    ]
    | inr moved ↦ elim went [
      | inl ended ↦ (let e : Region moved.0 ≡ Temp ended.0 = sym moved.1 ∙ ended.1 in absurd cc)
      | inr gone_region ↦
          (let e : gone_region.0 ≡ moved.0 = region-is (sym gone_region.1 ∙ moved.1) in
          absurd (moved.2 (subst (LeftTable beside_old.stepper.parts (mid u)) e gone_region.2)))
    ]
  ]
    where
      region-is : {r k : ℕ} → Region r ≡ Region k → r ≡ k
      region-is f = cc

      o : Old a
      o = stood-there a h less

      v : (v : Seen) × (slice_get q.store a ≡ Some v)
      v = below-get q.store a (subst (λ (s : List Seen). a < length s) store (part.there a h))

      also_stood : slice_get (machine_in beside_old.stepper.parts).store a ≡ Some o.object
      also_stood = ap (λ (s : List Seen). slice_get s a) (sym alike) ∙ o.stood

      went : EndedTemp (machine_in beside_old.stepper.parts) (machine_in (mid u)) o.object.label
          ⊎ ((r : ℕ) × (o.object.label ≡ Region r) × LeftTable beside_old.stepper.parts (mid u) r)
      went = u.step.serves.frees a o.object also_stood o.some
          (λ x at. gone-shown (mid u).heap (mid u).frames (beside u).serials (beside u).stands a x e at)

  -- it has an owner, of which the same holds
  abbrev Misses : ℕ → Type 0
  Misses r = (a : ℕ) × Missing a r

  by-slot : (r : ℕ) → (InTable (mid u).heap.regions r → ⊥) → SlotInto one r → ⊥
  by-slot r out s =
      let to = into-back one.store r s.value s.into in
      let g = slot-also one.frames two.frames q.frames (shown w).shows.slots (shown u).shows.slots s.frame s.slot to.address s.holder s.holder_there
      (s.value_there ∙ ap Some to.is) in
      not-held to.address r out (part₂.slots s.frame g.0 s.slot (val.Obj to.address) g.1 g.2)
      (ap (λ (s : List Seen). region_at s to.address) (sym store) ∙ ap (option_and_then (λ (o : Seen). region_of o.label)) to.there
      ∙ ap region_of to.label)

  by-field : (r : ℕ) → (InTable (mid u).heap.regions r → ⊥) → (f : FieldInto one r) → held f.object ≡ true
      → (k : ℕ) × Misses k × Parent (mid w).heap.cells.heap k r
  by-field r out f h = by (also f.object) refl
    where
      to : RefTo one.store f.value (Region r)
      to = into-back one.store r f.value f.into

      value : slice_get f.holder.fields f.field ≡ Some (val.Obj to.address)
      value = f.value_there ∙ ap Some to.is

      there : slice_get q.store f.object ≡ Some f.holder
      there = ap (λ (s : List Seen). slice_get s f.object) (sym store) ∙ f.holder_there

      region : region_at one.store to.address ≡ Some r
      region = ap (option_and_then (λ (o : Seen). region_of o.label)) to.there ∙ ap region_of to.label

      by-missing : (k : ℕ) → Missing f.object k → (k : ℕ) × Misses k × Parent (mid w).heap.cells.heap k r
      by-missing k m =
          let same : m.object ≡ f.holder = same_Some m.object f.holder (sym m.there ∙ there) in
          let lies : f.holder.label ≡ Region k = ap (λ (o : Seen). o.label) (sym same) ∙ m.lies in
          let to_held : held to.address ≡ true = part.fields f.object f.holder f.field (val.Obj to.address) h f.holder_there value in
          let link : Link (store_of (mid w).heap.cells.heap) k r = record {
            object = f.object;
            holder = f.holder;
            there = part.same f.object h ∙ f.holder_there;
            lies = lies;
            field = f.field;
            address = to.address;
            value = value;
            leads = ap (option_and_then (λ (o : Seen). region_of o.label)) (part.same to.address to_held) ∙ region;
          } in (
            k,
            (f.object, m),
            link-parent (mid w).heap.cells.heap k r (beside w).serials
                (outside-differs one.windows r k (ap (is_outside one.windows r) (sym lies) ∙ f.outside)) link,
          )

      by : (b : Truth) → also f.object ≡ b → (k : ℕ) × Misses k × Parent (mid w).heap.cells.heap k r
      by true e =
          absurd (not-held to.address r out
          (part₂.fields f.object f.holder f.field (val.Obj to.address) e (ap (λ (s : List Seen). slice_get s f.object) store₂ ∙ there) value)
          (ap (λ (s : List Seen). region_at s to.address) (sym store) ∙ region))
      by false e = elim (order f.object (length p.store)) [
        | inl lt ↦ (let m = missing f.object h e lt in by-missing m.0 m.1)
        | inr le ↦
            absurd (true≢false (sym (fresh f.object le (subst (λ (s : List Seen). f.object < length s) store (part.there f.object h))) ∙ e))
      ]

  climb : (r : ℕ) → Misses r → (k : ℕ) × Misses k × Parent (mid w).heap.cells.heap k r
  climb r (a, m) =
      elim (part.owned a m.object r m.here (ap (λ (s : List Seen). slice_get s a) store ∙ m.there) m.lies (not-open r m.left)) [
        | inl placed ↦ elim placed [
          | inl s ↦ absurd (by-slot r m.left s)
          | inr f ↦ by-field r m.left f.0 f.1
        ]
        | inr none ↦ absurd (true≢false (sym none))
      ]

  none-missing : (r : ℕ) → Misses r → ⊥
  none-missing =
      no-climb (mid w).heap.cells.heap Misses (length one.managers)
      (λ r m. part.tidy.labels m.0 m.1.object r (ap (λ (s : List Seen). slice_get s m.0) store ∙ m.1.there) m.1.lies) climb
      (beside w).grove.no_cycle

  -- so what the one holds the other holds
  pub held-other : (a : ℕ) → held a ≡ true → also a ≡ true
  held-other a h = by (also a) refl
    where
      by : (b : Truth) → also a ≡ b → also a ≡ true
      by true e = e
      by false e = elim (order a (length p.store)) [
        | inl lt ↦ (let m = missing a h e lt in absurd (none-missing m.0 (a, m.1)))
        | inr le ↦ fresh a le (subst (λ (s : List Seen). a < length s) store (part.there a h))
      ]

module _ {t : Tree} {code : Code} {old beside_old : Standing} {p q : State} {new other : Standing} (w : Answer t code old p q new)
    (u : Answer t code beside_old p q other) (alike : HoldTheSame old.stepper.parts beside_old.stepper.parts)
    (labels : Labelled old p q (mid w)) (labels₂ : Labelled beside_old p q (mid u))
    (fresh : (a : ℕ) → length p.store ≤ a → a < length q.store → holds (mid w).heap.cells.heap a ≡ true)
    (fresh₂ : (a : ℕ) → length p.store ≤ a → a < length q.store → holds (mid u).heap.cells.heap a ≡ true) where
  same : (a : ℕ) → holds (mid w).heap.cells.heap a ≡ holds (mid u).heap.cells.heap a
  same a =
      both-ways (holds (mid w).heap.cells.heap a) (holds (mid u).heap.cells.heap a) (held-other w u alike labels₂ fresh₂ a)
      (held-other u w (sym alike) labels fresh a)

  -- the instructions left the same held
  pub mid-same : HoldTheSame (mid w) (mid u)
  mid-same = same-lists (machine_in (mid w)).store (machine_in (mid u)).store (λ a. by a (holds (mid w).heap.cells.heap a) refl)
    where
      stores : (shown w).grown.store ≡ (shown u).grown.store
      stores = (shown w).shows.store ∙ sym (shown u).shows.store

      by : (a : ℕ) (b : Truth) → holds (mid w).heap.cells.heap a ≡ b
          → slice_get (machine_in (mid w)).store a ≡ slice_get (machine_in (mid u)).store a
      by a true e =
          (beside w).part.same a e ∙ ap (λ (s : List Seen). slice_get s a) stores ∙ sym ((beside u).part.same a (sym (same a) ∙ e))
      by a false e =
          (beside w).part.others a e ∙ ap (λ (s : List Seen). option_map (λ (x : Seen). gone) (slice_get s a)) stores
          ∙ sym ((beside u).part.others a (sym (same a) ∙ e))
