-- A window is left with another bridge: what stays, and the forest behind it (docs/architecture.md, "The heap").
use Rattle.std.proofs.Common.{◌≡◌, ◌≢◌, ℕ, zero, suc, ◌+◌, ◌-◌, ◌<◌, ◌≤◌, List, [], ◌∷◌, Option, Some, None, IsSome, length, refl, ap, sym, ◌∙◌}
use Rattle.std.proofs.Common.{subst, inl, inr, option_map, option_and_then, slice_get, get_or, drop, take, arith}
use Rattle.std.proofs.lemmas.List.{get_or-take, length-take-le}
use Rattle.std.proofs.lemmas.Option.{get_or_from_slice_get}
use Rattle.rg_base.specs.declared.object.Place.{Place}
use Rattle.rg_base.specs.declared.object.Place.TheVariants.{Var, Field}
use Rattle.rg_base.specs.declared.value.Word.{Word}
use Rattle.rg_base.specs.declared.value.Word.TheVariants.{Slot}
use Rattle.rg_base.proofs.Callers.Lists.{there}
use Rattle.rg_base.proofs.Callers.Options.{some-there}
use Rattle.rg_cells.specs.declared.cell.Body.{Body}
use Rattle.rg_cells.specs.Table.{Table, HasSerial, IsHeld, Serials, body_at, field_at, width, with_field}
use Rattle.rg_regions.specs.Table.{Record, HasNumber, IsKey, changed, record_at, with_bridge}
use Rattle.rg_regions.specs.Reach.{LiesIn}
use Rattle.rg_regions.specs.Grove.{Grove}
use Rattle.rg_regions.specs.Collection.{AllHeld}
use Rattle.rg_regions.proofs.Callers.Told.{field_within, lies_held, one_number, one_region, record_there}
use Rattle.rg_frames.specs.declared.rows.Window.{Window}
use Rattle.rg_frames.specs.Stack.{Stack, IsTop, mark}
use Rattle.rg_heap.specs.Parts.{Parts}
use Rattle.rg_heap.specs.Answers.{IsClosed}
use Rattle.rg_heap.specs.Ends.{IsTemp}
use Rattle.rg_heap.specs.Ends.{CanLeave, GoesAlong, IsTopTemp, Released, top_temps}
use Rattle.rg_heap.specs.Opened.{IsTempOf, IsWindow, Opened}
use Rattle.rg_heap.specs.Gives.{CanBecome, CanGive, IsNear, IsOwner, IsPlace, OwnerAlone, Puts, beneath}
use Rattle.rg_heap.specs.Inner.Places.{CanPut}
use Rattle.rg_heap.proofs.Bridged.{grove_bridged, grove_rebridged}
use Rattle.rg_heap.proofs.Callers.Opens.{above_open, open_not_closed}
use Rattle.rg_heap.proofs.Left.{temp_apart, temp_held}
use Rattle.rg_heap.proofs.Readers.{one_top}

-- elements of what is left of a list, and of its front
got_drop : (n : ℕ) (xs : List ℕ) (i s : ℕ) → slice_get (drop n xs) i ≡ Some s → (j : ℕ) × (j ≡ n + i) × (slice_get xs j ≡ Some s)
got_drop zero xs i s e = (i, omega arith, e)
got_drop (suc n) [] i s e = cc
got_drop (suc n) (x ∷ xs) i s e = let r = got_drop n xs i s e in let q = r.1 in (suc r.0, omega (arith, q), r.2)

got_take : {A : Type 0} (n : ℕ) (xs : List A) (i : ℕ) (x : A) → slice_get (take n xs) i ≡ Some x → (i < n) × (slice_get xs i ≡ Some x)
got_take zero xs i x e = cc
got_take (suc n) [] i x e = cc
got_take (suc n) (y ∷ xs) zero x e = (omega arith, e)
got_take (suc n) (y ∷ xs) (suc i) x e = let r = got_take n xs i x e in let q = r.0 in (omega (arith, q), r.1)

-- the window beneath, and its temporaries
module _ (old : Parts) (v : Stack) (o : Opened old v) (two : 2 ≤ length v.windows) where
  abbrev pub under : ℕ
  under = length v.windows - 2

  pub under_window : (w : Window) → IsTop (beneath v) w → IsWindow v under w
  under_window w e =
      let n : length (take (length v.windows - 1) v.windows) ≡ length v.windows - 1 =
      length-take-le (length v.windows - 1) v.windows (omega arith) in
      let i : length (take (length v.windows - 1) v.windows) - 1 ≡ under = omega (arith, n, two) in
      (got_take (length v.windows - 1) v.windows under w (ap (slice_get (take (length v.windows - 1) v.windows)) (sym i) ∙ e)).1

  under_temp : (s : ℕ) → IsTopTemp (beneath v) s → IsTempOf v under s
  under_temp s t =
      let many = o.as_many in
      let last = there v.marks (length v.marks - 1) (omega (arith, many, two)) in
      let n : length (take (length v.marks - 1) v.marks) ≡ length v.marks - 1 = length-take-le (length v.marks - 1) v.marks (omega arith) in
      let i : length (take (length v.marks - 1) v.marks) - 1 ≡ under = omega (arith, n, many, two) in
      let begin : mark (beneath v) ≡ get_or v.marks under 0 =
      ap (λ k. get_or (take (length v.marks - 1) v.marks) k 0) i ∙ get_or-take (length v.marks - 1) v.marks under 0 (omega (arith, many, two)) in
      let place : length v.marks - 1 ≡ under + 1 = omega (arith, many, two) in
      let end : mark v ≡ get_or v.marks (under + 1) (length v.temps) =
      get_or_from_slice_get v.marks (length v.marks - 1) last.0 0 last.1
      ∙ sym (get_or_from_slice_get v.marks (under + 1) last.0 (length v.temps) (ap (slice_get v.marks) (sym place) ∙ last.1)) in (
        t.0,
        ap (λ k. slice_get (drop (get_or v.marks under 0) (take k v.temps)) t.0) (sym end)
            ∙ ap (λ k. slice_get (drop k (take (mark v) v.temps)) t.0) (sym begin) ∙ t.1,
      )

  pub under_is_temp : (s : ℕ) → IsTopTemp (beneath v) s → IsTemp old.cells.heap s
  under_is_temp s t =
      let w = there v.windows under (omega (arith, two)) in
      (w.0.number, o.temps under s w.0 w.1 (under_temp s t))

  pub under_apart : (s : ℕ) → IsTopTemp (beneath v) s → IsTopTemp v s → ⊥
  under_apart s t u =
      let a = got_drop (mark (beneath v)) (take (mark v) v.temps) t.0 s t.1 in
      let b = got_take (mark v) v.temps a.0 s a.2 in
      let d = got_drop (mark v) v.temps u.0 s u.1 in
      let same = o.once a.0 d.0 s b.1 d.2 in
      let low = b.0 in
      let high = d.1 in
      absurd (omega (arith, same, low, high))

-- the top window was left
pub record Left (old mid : Parts) (v : Stack) : Type 0 where
  pub grove : Grove old.cells old.regions
  pub serials : Serials old.cells.heap
  pub can : CanLeave old v
  pub opened : Opened old v
  pub two : 2 ≤ length v.windows
  pub released : Released old mid (GoesAlong old v) (IsTopTemp v)

-- what that leaves of open regions and of other temporaries
module _ (old mid : Parts) (v : Stack) (left : Left old mid v) where
  abbrev g : Grove old.cells old.regions
  g = left.grove

  abbrev q : Serials old.cells.heap
  q = left.serials

  abbrev can : CanLeave old v
  can = left.can

  abbrev o : Opened old v
  o = left.opened

  abbrev two : 2 ≤ length v.windows
  two = left.two

  abbrev rel : Released old mid (GoesAlong old v) (IsTopTemp v)
  rel = left.released

  stays_open : (i n : ℕ) (w : Window) → IsWindow v i w → HasNumber old.regions w.region n → GoesAlong old v n → ⊥
  stays_open i n w e has a = elim a.2 [
    | inl s ↦
        let P : ℕ → Type 0 = λ z. IsClosed old.regions v z in
        open_not_closed old v i n w g e has (subst P (sym s) a.1.closed)
    | inr b ↦ let u = above_open old v a.0 n o b.1 i w e has in open_not_closed old v u.0 a.0 u.1 g u.2 u.3 a.1.closed
  ]

  record_stays : (i : ℕ) (w : Window) → IsWindow v i w → record_at mid.regions w.region ≡ record_at old.regions w.region
  record_stays i w e = rel.records w.region (λ n a has. stays_open i n w e has a)

  pub number_stays : (i n : ℕ) (w : Window) → IsWindow v i w → HasNumber old.regions w.region n → HasNumber mid.regions w.region n
  number_stays i n w e has = ap (option_map (λ (r : Record). r.number)) (record_stays i w e) ∙ has

  body_stays : (i n s : ℕ) (w : Window) → IsWindow v i w → HasNumber old.regions w.region n → LiesIn old.cells.heap n s
      → body_at mid.cells.heap s ≡ body_at old.cells.heap s
  body_stays i n s w e has l = rel.cells s
      (λ m a x. let P : ℕ → Type 0 = λ z. GoesAlong old v z in stays_open i n w e has (subst P (one_region old.cells.heap s m n x l) a))
      (λ t. temp_apart old.cells.heap s n (can.temps t.0 s t.1) l)

  temp_stays : (s : ℕ) → IsTopTemp (beneath v) s → body_at mid.cells.heap s ≡ body_at old.cells.heap s
  temp_stays s t = rel.cells s (λ m a x. temp_apart old.cells.heap s m (under_is_temp old v o two s t) x) (under_apart old v o two s t)

  -- what is held was held
  kept : (s : ℕ) → IsHeld mid.cells.heap s → body_at mid.cells.heap s ≡ body_at old.cells.heap s
  kept s h = rel.cells s (λ m a x. none (rel.freed m s a x)) (λ t. none (rel.ended s t))
    where
      none : body_at mid.cells.heap s ≡ None → ⊥
      none e =
          let x = some-there (body_at mid.cells.heap s) h in
          let z : None ≡ Some x.0 = sym e ∙ x.1 in
          cc

  lay : (n s : ℕ) → LiesIn mid.cells.heap n s → LiesIn old.cells.heap n s
  lay n s l = sym (ap (option_map (λ (b : Body). b.label)) (kept s (lies_held mid.cells.heap n s l))) ∙ l

  led : (n s k : ℕ) (x : Word) → LiesIn mid.cells.heap n s → field_at mid.cells.heap s k ≡ Some x → field_at old.cells.heap s k ≡ Some x
  led n s k x l f = sym (ap (option_and_then (λ (b : Body). slice_get b.fields k)) (kept s (lies_held mid.cells.heap n s l))) ∙ f

  serial_was : (s n : ℕ) → HasSerial mid.cells.heap s n → HasSerial old.cells.heap s n
  serial_was s n a =
      let P : Option Body → Type 0 = λ b. IsSome b in
      (a.0, sym (kept s (subst P (sym a.1) refl)) ∙ a.1, a.2)

  -- one cell has a serial
  one_holder : (s h n : ℕ) → HasSerial mid.cells.heap s n → HasSerial old.cells.heap h n → s ≡ h
  one_holder s h n a b = let x = serial_was s n a in q.differ s h x.0 b.0 x.1 b.1 (x.2 ∙ sym b.2)

  near_stays : (s : ℕ) → IsNear old (beneath v) s → body_at mid.cells.heap s ≡ body_at old.cells.heap s
  near_stays s near = elim near [
    | inl a ↦ body_stays (length v.windows - 2) a.1 s a.0 (under_window old v o two a.0 a.2) a.3 a.4
    | inr t ↦ temp_stays s t
  ]

  near_on : (s : ℕ) → IsNear old (beneath v) s → IsNear mid (beneath v) s
  near_on s near = elim near [
    | inl a ↦ inl (
      a.0,
      a.1,
      a.2,
      number_stays (length v.windows - 2) a.1 a.0 (under_window old v o two a.0 a.2) a.3,
      ap (option_map (λ (b : Body). b.label)) (near_stays s (inl a)) ∙ a.4,
      tt,
    )
    | inr t ↦ inr t
  ]

  key_stays : (i : ℕ) (w : Window) → IsWindow v i w → IsKey mid.regions w.region
  key_stays i w e =
      let k = o.known i w e in
      let x = record_there (record_at mid.regions w.region) k.0 (number_stays i k.0 w e k.1) in
      let P : Option Record → Type 0 = λ z. IsSome z in
      subst P (sym x.1) refl

  pub key_beneath : (w : Window) → IsTop (beneath v) w → IsKey mid.regions w.region
  key_beneath w e =
      let i = under_window old v o two w e in
      key_stays (length v.windows - 2) w i

  pub temps_beneath : AllHeld mid.cells.heap (top_temps (beneath v))
  temps_beneath i s e =
      let P : Option Body → Type 0 = λ b. IsSome b in
      subst P (sym (temp_stays s (i, e))) (temp_held old.cells.heap s (under_is_temp old v o two s (i, e)))

  pub key_top : (w : Window) → IsTop v w → IsKey mid.regions w.region
  key_top w e = key_stays (length v.windows - 1) w e

  -- a word can be written at the owner's place
  pub can_put : (w : Window) (owner : Option Place) → IsOwner old v w.region owner → CanPut mid (beneath v) owner
  can_put w None i = absurd i
  can_put w (Some (Var frame s)) i = i.1
  can_put w (Some (Field serial k)) i =
      let same = near_stays i.holder i.near in
      record {
        holder = i.holder;
        has = (i.has.0, same ∙ i.has.1, i.has.2);
        near = near_on i.holder i.near;
        wide = λ s a.
            let e = one_holder s i.holder serial a i.has in
            let P : ℕ → Type 0 = λ z. k < width (body_at mid.cells.heap z) in
            subst P (sym e) (field_within mid.cells.heap i.holder k (Slot i.to)
            (ap (option_and_then (λ (b : Body). slice_get b.fields k)) same ∙ i.leads));
      }

  module _ (at : Word) (slot : ℕ) (give : CanGive old v at) (is : at ≡ Slot slot) (w : Window) (top : IsTop v w) where
    abbrev pub r : ℕ
    r = (o.known (length v.windows - 1) w top).0

    abbrev pub has : HasNumber old.regions w.region r
    has = (o.known (length v.windows - 1) w top).1

    slot_lies : LiesIn old.cells.heap r slot
    slot_lies =
        let B : Word → Type 0 = λ x. CanBecome old v x in
        let a = subst B is give.becomes in
        let W : Window → Type 0 = λ x. HasNumber old.regions x.region a.1 in
        let same = one_number old.regions w.region a.1 r (subst W (one_top v a.0 w a.2 top) a.3) has in
        let P : ℕ → Type 0 = λ n. LiesIn old.cells.heap n slot in
        subst P same a.4

    lies_now : (s : ℕ) → LiesIn old.cells.heap r s → LiesIn mid.cells.heap r s
    lies_now s l = ap (option_map (λ (b : Body). b.label)) (body_stays (length v.windows - 1) r s w top has l) ∙ l

    -- the owner's object isn't a cell of the region that it owns
    apart : (s : ℕ) → IsNear old (beneath v) s → LiesIn old.cells.heap r s → ⊥
    apart s near l = elim near [
      | inl a ↦
          let P : ℕ → Type 0 = λ n. HasNumber old.regions a.0.region n in
          let key = g.numbers a.0.region w.region r (subst P (one_region old.cells.heap s a.1 r a.4 l) a.3) has in
          let same = o.differ (length v.windows - 2) (length v.windows - 1) a.0 w (under_window old v o two a.0 a.2) top key in
          absurd (omega (arith, same, two))
      | inr t ↦ temp_apart old.cells.heap s r (under_is_temp old v o two s t) l
    ]

    -- what leads into the region from a cell of another one stands at the place of its owner
    at_owner : (owner : Option Place) → OwnerAlone old.cells.heap v r owner → (n x k to : ℕ) → n ≢ r → LiesIn mid.cells.heap n x
        → field_at mid.cells.heap x k ≡ Some (Slot to) → LiesIn mid.cells.heap r to → IsPlace old.cells.heap owner x k
    at_owner owner alone n x k to d l f e =
        let was = lay n x l in
        alone x k to (λ i. d (one_region old.cells.heap x n r was i)) (λ t. temp_apart old.cells.heap x n (can.temps t.0 x t.1) was)
        (led n x k (Slot to) l f) (lay r to e)

    module _ (m : Grove mid.cells mid.regions) (cells : Table) (after : Stack) (marks : cells ≡ record mid.cells { heap = cells.heap }) where
      by_owner : (owner : Option Place) → IsOwner old v w.region owner → OwnerAlone old.cells.heap v r owner
          → Puts owner (Slot slot) mid.cells.heap cells.heap (beneath v) after → Grove cells (changed mid.regions w.region (with_bridge slot))
      by_owner None i alone u = absurd i
      by_owner (Some (Var frame s)) i alone u =
          let same : mid.cells ≡ cells = ap (λ h. record mid.cells { heap = h }) (sym u.0) ∙ sym marks in
          let G : Table → Type 0 = λ z. Grove z (changed mid.regions w.region (with_bridge slot)) in
          subst G same (
          grove_bridged mid.cells mid.regions w.region r slot m (number_stays (length v.windows - 1) r w top has) (lies_now slot slot_lies)
          (at_owner (Some (Var frame s)) alone))
      by_owner (Some (Field serial k)) i alone u =
          let h = i.holder in
          let same = near_stays h i.near in
          let into : LiesIn old.cells.heap r i.to =
          let b = i.bridge in
          let P : ℕ → Type 0 = λ n. LiesIn old.cells.heap n i.to in
          subst P (b.3 ∙ one_number old.regions w.region i.region r i.number has) (g.bridges b.0 i.to b.1 b.2 b.4) in
          let found = u.1 in
          let F : ℕ → Type 0 = λ z. cells.heap ≡ with_field mid.cells.heap z k (Slot slot) in
          let written = subst F (one_holder found.0 h serial found.1 i.has) found.2 in
          grove_rebridged mid.cells mid.regions (beneath v) w.region r slot h k i.to m
          (number_stays (length v.windows - 1) r w top has) (lies_now slot slot_lies)
          (ap (option_and_then (λ (b : Body). slice_get b.fields k)) same ∙ i.leads) (lies_now i.to into)
          (λ l. apart h i.near (lay r h l))
          (elim (near_on h i.near) [
            | inl a ↦ inl a
            | inr t ↦ inr (
                let x = under_is_temp old v o two h t in
                (x.0, ap (option_map (λ (b : Body). b.label)) same ∙ x.1))
          ])
          (λ n x j to d l f e.
          let p = at_owner (Some (Field serial k)) alone n x j to d l f e in
          (q.differ x h p.0.0 i.has.0 p.0.1 i.has.1 (p.0.2 ∙ sym i.has.2), p.1))
          cells (marks ∙ ap (λ z. record mid.cells { heap = z }) written)

      pub grove_given : Puts w.owner (Slot slot) mid.cells.heap cells.heap (beneath v) after
          → Grove cells (changed mid.regions w.region (with_bridge slot))
      grove_given u = by_owner w.owner (give.owner w top) (give.alone w top r has) u
