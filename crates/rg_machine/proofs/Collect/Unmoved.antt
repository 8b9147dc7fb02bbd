-- Of a collection that moved what it keeps, one that didn't: what it freed goes, and all else stays where it was.
use Rattle.std.proofs.Common.{◌≡◌, ◌≢◌, ℕ, zero, suc, ◌+◌, Bool as Truth, true, false, if◌then◌else◌, cond, List, [], ◌∷◌, map, length}
use Rattle.std.proofs.Common.{Option, Some, None, is_some, option_map, slice_get, slice_index_or, take, count_by, refl, sym, ap, ◌∙◌, subst}
use Rattle.std.proofs.Common.{inl, inr}
use Rattle.std.proofs.lemmas.Bool.{false≢true}
use Rattle.std.proofs.lemmas.List.Sums.{sum_by-cons}
use Rattle.std.proofs.lemmas.Option.{none-some, same_Some, slice_get-map}
use Rattle.rg_base.specs.declared.object.Label.TheVariants.{Region, Temp, Frozen}
use Rattle.rg_base.specs.declared.object.Label.{Label}
use Rattle.rg_base.specs.declared.value.Word.TheVariants as word
use Rattle.rg_base.proofs.Callers.Labels.{temp-region}
use Rattle.rg_cells.specs.declared.cell.Body.{Body}
use Rattle.rg_cells.specs.Table.{Heap, Table, body_in, body_at, label_at, field_at, high_of, IsHeld, Serials}
use Rattle.rg_regions.specs.Grove.{Grove}
use Rattle.rg_regions.specs.Reach.{LiesIn}
use Rattle.rg_regions.specs.Table.{Record, record_at, HasNumber, IsBridge}
use Rattle.rg_regions.proofs.Callers.Told.{labelled_held, lies_or_not}
use Rattle.rg_frames.specs.Stack.{Stack}
use Rattle.rg_regions.specs.Reach.{OutOfReach}
use Rattle.rg_copy.specs.Slid.{top_roots}
use Rattle.rg_heap.specs.Answers.{AllLead}
use Rattle.rg_heap.specs.Collects.{Collects, LostBelow}
use Rattle.rg_heap.specs.Parts.{Parts}
use Rattle.rg_heap.specs.Slides.{Slides}
use Rattle.rg_view.proofs.Callers.Held.{all-lead}
use Rattle.rg_view.proofs.Callers.Shown.{body-held, field-in, get-drop, get-take, held-body}
use Rattle.rg_machine.specs.Collects.{holds}
use Rattle.rg_machine.specs.Stands.{Stands}
use Rattle.rg_machine.proofs.Callers.Collect.{Active}
use Rattle.rg_machine.proofs.Callers.Gather.{holds-back, holds-there}
use Rattle.rg_machine.proofs.New.Grow.{field-held}
use Rattle.rg_machine.proofs.Callers.Shift.{Shifted, led_on, shift}
use Rattle.rg_machine.proofs.Callers.Slid.{Near, moves, moves-back, moves-bridge, moves-off, moves-on, near-field}

-- a slot whose cell has a serial that no cell of the other heap has is freed
abbrev pub left : Heap → Option (Option Body) → Option (Option Body)
left n None = None
left n (Some None) = Some None
left n (Some (Some b)) = if holds n b.serial then Some (Some b) else Some None

-- the table without the cells whose serials no cell of the other heap has
abbrev pub unmoved : Table → Heap → Table
unmoved c n = record c { heap = record { slots = map (left n) c.heap.slots; next = n.next } }

-- Slots

left-at : (n : Heap) (xs : List (Option (Option Body))) (s : ℕ) → slice_index_or (map (left n) xs) s None ≡ left n (slice_index_or xs s None)
left-at n [] s = refl
left-at n (x ∷ xs) zero = refl
left-at n (x ∷ xs) (suc s) = left-at n xs s

left-some : (n : Heap) (b : Body) (o : Option (Option Body)) → body_in o ≡ Some b
    → body_in (left n o) ≡ (if holds n b.serial then Some b else None)
left-some n b None e = absurd (none-some b e)
left-some n b (Some None) e = absurd (none-some b e)
left-some n b (Some (Some d)) e =
    by (holds n d.serial) ∙ ap (λ (x : Body). if holds n x.serial then Some x else None) (same_Some d b e)
  where
    by : (t : Truth) → body_in (if t then Some (Some d) else Some None) ≡ (if t then Some d else None)
    by true = refl
    by false = refl

left-none : (n : Heap) (o : Option (Option Body)) → body_in o ≡ None → body_in (left n o) ≡ None
left-none n None e = refl
left-none n (Some None) e = refl
left-none n (Some (Some d)) e = absurd (none-some d (sym e))

module _ (c : Table) (n : Heap) where
  here : (s : ℕ) → body_at (unmoved c n).heap s ≡ body_in (left n (slice_index_or c.heap.slots s None))
  here s = ap body_in (left-at n c.heap.slots s)

  pub unmoved-held : (s : ℕ) (b : Body) → body_at c.heap s ≡ Some b → holds n b.serial ≡ true → body_at (unmoved c n).heap s ≡ Some b
  unmoved-held s b e k =
      here s ∙ left-some n b (slice_index_or c.heap.slots s None) e ∙ ap (λ t. if t then Some b else None) k

  pub unmoved-freed : (s : ℕ) (b : Body) → body_at c.heap s ≡ Some b → holds n b.serial ≡ false → body_at (unmoved c n).heap s ≡ None
  unmoved-freed s b e k =
      here s ∙ left-some n b (slice_index_or c.heap.slots s None) e ∙ ap (λ t. if t then Some b else None) k

  pub unmoved-none : (s : ℕ) → body_at c.heap s ≡ None → body_at (unmoved c n).heap s ≡ None
  unmoved-none s e = here s ∙ left-none n (slice_index_or c.heap.slots s None) e

  -- what is left was there, with its serial in the other heap
  pub unmoved-was : (s : ℕ) (b : Body) → body_at (unmoved c n).heap s ≡ Some b → (body_at c.heap s ≡ Some b) × (holds n b.serial ≡ true)
  unmoved-was s b e = by (body_at c.heap s) refl
    where
      test : (d : Body) → body_at c.heap s ≡ Some d → (t : Truth) → holds n d.serial ≡ t → (body_at c.heap s ≡ Some b) × (holds n b.serial ≡ true)
      test d f true k =
          let same : d ≡ b = same_Some d b (sym (unmoved-held s d f k) ∙ e) in
          (f ∙ ap Some same, subst (λ (x : Body). holds n x.serial ≡ true) same k)
      test d f false k = absurd (none-some b (sym (unmoved-freed s d f k) ∙ e))

      by : (o : Option Body) → body_at c.heap s ≡ o → (body_at c.heap s ≡ Some b) × (holds n b.serial ≡ true)
      by None f = absurd (none-some b (sym (unmoved-none s f) ∙ e))
      by (Some d) f = test d f (holds n d.serial) refl

  pub unmoved-high : high_of (unmoved c n).heap ≡ high_of c.heap
  unmoved-high = by c.heap.slots
    where
      more : (x : Option (Option Body)) (xs : List (Option (Option Body)))
          → count_by is_some (x ∷ xs) ≡ cond {A = ℕ} (is_some x) 1 0 + count_by is_some xs
      more x xs = sum_by-cons (λ y. cond (is_some y) 1 0) x xs

      test : (t : Truth) (b : Body) → is_some (if t then Some (Some b) else Some None) ≡ true
      test true b = refl
      test false b = refl

      some : (x : Option (Option Body)) → is_some (left n x) ≡ is_some x
      some None = refl
      some (Some None) = refl
      some (Some (Some b)) = test (holds n b.serial) b

      by : (xs : List (Option (Option Body))) → count_by is_some (map (left n) xs) ≡ count_by is_some xs
      by [] = refl
      by (x ∷ xs) =
          more (left n x) (map (left n) xs)
          ∙ ap (λ t. cond {A = ℕ} t 1 0 + count_by is_some (map (left n) xs)) (some x)
          ∙ ap (λ k. cond {A = ℕ} (is_some x) 1 0 + k) (by xs)
          ∙ sym (more x xs)

module _ (old new : Parts) (v frames : Stack) (q : Serials old.cells.heap) (g : Grove old.cells old.regions) (st : Stands old v) (a : Active old v)
    (sl : Slides old new a.window.region a.rec v frames) where
  abbrev h : Heap
  h = old.cells.heap

  abbrev h₂ : Heap
  h₂ = new.cells.heap

  abbrev mid : Parts
  mid = sl.mid

  abbrev r : ℕ
  r = a.rec.number

  abbrev Cell : ℕ → Type 0
  Cell s = OutOfReach h r (top_roots a.rec v) s

  abbrev Goes : ℕ → Type 0
  Goes n = LostBelow old r Cell n

  abbrev pub stayed : Parts
  stayed = record { cells = unmoved old.cells new.cells.heap; regions = new.regions }

  abbrev f : ℕ → ℕ
  f = moves old v q g st a sl.mid frames sl.slid

  abbrev N : ℕ → Type 0
  N x = Near old v q g st a sl.mid frames sl.slid x

  on : (s : ℕ) (b : Body) → body_at h s ≡ Some b → N s → body_at sl.mid.cells.heap (f s) ≡ Some (led_on f b)
  on = moves-on old v q g st a sl.mid frames sl.slid

  label-is : (m : Heap) (s : ℕ) (b : Body) (l : Label) → body_at m s ≡ Some b → label_at m s ≡ Some l → b.label ≡ l
  label-is m s b l e is = same_Some b.label l (sym (ap (option_map (λ (b : Body). b.label)) e) ∙ is)

  label-in : (m : Heap) (s : ℕ) (b : Body) (l : Label) → body_at m s ≡ Some b → b.label ≡ l → label_at m s ≡ Some l
  label-in m s b l e is = ap (option_map (λ (b : Body). b.label)) e ∙ ap Some is

  -- what the release left stood in the heap between, in a region that doesn't go
  between : (s : ℕ) (d : Body) → body_at h₂ s ≡ Some d
      → (body_at sl.mid.cells.heap s ≡ Some d) × ((n : ℕ) → Goes n → LiesIn sl.mid.cells.heap n s → ⊥)
  between s d e =
      let out : (n : ℕ) → Goes n → LiesIn sl.mid.cells.heap n s → ⊥ = λ n x l. none-some d (sym (sl.released.freed n s x l) ∙ e) in
      (sym (sl.released.cells s out (λ x. x)) ∙ e, out)

  -- and a cell in no such region stays
  stays : (s : ℕ) (b : Body) → body_at h s ≡ Some b → N s → ((n : ℕ) → Goes n → LiesIn h n s → ⊥) → body_at h₂ (f s) ≡ Some (led_on f b)
  stays s b e near out =
      sl.released.cells (f s)
      (λ n x l. out n x (label-in h s b (Region n) e (label-is sl.mid.cells.heap (f s) (led_on f b) (Region n) (on s b e near) l)))
      (λ x. x)
      ∙ on s b e near

  -- a cell behind the collection, and where it stood
  record Was (s : ℕ) (d : Body) : Type 0 where
    pub from : ℕ
    pub body : Body
    pub held : body_at h from ≡ Some body
    pub near : N from
    pub is : f from ≡ s
    pub same : d ≡ led_on f body
    pub stayed : (n : ℕ) → Goes n → LiesIn h n from → ⊥

  was : (s : ℕ) (d : Body) → body_at h₂ s ≡ Some d → Was s d
  was s d e =
      let m = between s d e in
      let x = moves-back old v q g st a sl.mid frames sl.slid s d m.0 in
      let same : d ≡ led_on f x.1 =
      same_Some d (led_on f x.1) (sym m.0 ∙ ap (body_at sl.mid.cells.heap) (sym x.4) ∙ on x.0 x.1 x.2 x.3) in
      record {
        from = x.0;
        body = x.1;
        held = x.2;
        near = x.3;
        is = x.4;
        same = same;
        stayed = λ n y l. m.1 n y (label-in sl.mid.cells.heap s d (Region n) m.0
            (ap (λ (b : Body). b.label) same ∙ label-is h x.0 x.1 (Region n) x.2 l));
      }

  -- a cell whose serial is still held
  kept : (s : ℕ) (b : Body) → body_at h s ≡ Some b → holds h₂ b.serial ≡ true
      → N s × ((n : ℕ) → Goes n → LiesIn h n s → ⊥) × (body_at h₂ (f s) ≡ Some (led_on f b))
  kept s b e k =
      let y = holds-back h₂ b.serial k in
      let x = was y.0 y.1 y.2 in
      let same : x.from ≡ s = q.differ x.from s x.body b x.held e (ap (λ (b : Body). b.serial) (sym x.same) ∙ y.3) in
      let body : x.body ≡ b = same_Some x.body b (sym x.held ∙ ap (body_at h) same ∙ e) in (
        subst N same x.near,
        subst (λ s. (n : ℕ) → Goes n → LiesIn h n s → ⊥) same x.stayed,
        ap (λ s. body_at h₂ (f s)) (sym same) ∙ ap (body_at h₂) x.is ∙ y.2 ∙ ap Some (x.same ∙ ap (led_on f) body),
      )

  keeps : (s : ℕ) (b : Body) → body_at h s ≡ Some b → N s → ((n : ℕ) → Goes n → LiesIn h n s → ⊥) → holds h₂ b.serial ≡ true
  keeps s b e near out = holds-there h₂ (f s) (led_on f b) (stays s b e near out)

  -- The collection that moved nothing

  -- a cell stays that isn't one of those that go
  cell-stays : (s : ℕ) → (LiesIn h r s → Cell s → ⊥) → ((n : ℕ) → Goes n → LiesIn h n s → ⊥) → body_at stayed.cells.heap s ≡ body_at h s
  cell-stays s cell out = by (body_at h s) refl
    where
      test : (b : Body) → body_at h s ≡ Some b → (t : Truth) → holds h₂ b.serial ≡ t → body_at stayed.cells.heap s ≡ body_at h s
      test b e true k = unmoved-held old.cells h₂ s b e k ∙ sym e
      test b e false k = elim (lies_or_not h r s) [
        | inl off ↦ absurd (false≢true (sym k ∙ keeps s b e (λ l. absurd (off l)) out))
        | inr i ↦ absurd (cell i (λ n. false≢true (sym k ∙ keeps s b e (λ l. n) out)))
      ]

      by : (o : Option Body) → body_at h s ≡ o → body_at stayed.cells.heap s ≡ body_at h s
      by None e = unmoved-none old.cells h₂ s e ∙ sym e
      by (Some b) e = test b e (holds h₂ b.serial) refl

  -- a cell goes whose serial can't be held any more
  cell-goes : (s : ℕ) → (N s × ((n : ℕ) → Goes n → LiesIn h n s → ⊥) → ⊥) → body_at stayed.cells.heap s ≡ None
  cell-goes s out = by (body_at h s) refl
    where
      test : (b : Body) → body_at h s ≡ Some b → (t : Truth) → holds h₂ b.serial ≡ t → body_at stayed.cells.heap s ≡ None
      test b e true k = let x = kept s b e k in absurd (out (x.0, x.1))
      test b e false k = unmoved-freed old.cells h₂ s b e k

      by : (o : Option Body) → body_at h s ≡ o → body_at stayed.cells.heap s ≡ None
      by None e = unmoved-none old.cells h₂ s e
      by (Some b) e = test b e (holds h₂ b.serial) refl

  -- regions that go are other ones, and have the keys that they had
  apart-key : (k n : ℕ) → Goes n → HasNumber old.regions k n → k ≢ a.window.region
  apart-key k n x has is =
      let number : HasNumber old.regions k r = ap (λ k. option_map (λ (r : Record). r.number) (record_at old.regions k)) is
      ∙ ap (option_map (λ (r : Record). r.number)) a.known in
      sl.apart (subst Goes (same_Some n r (sym has ∙ number)) x)

  number-same : (k : ℕ) → k ≢ a.window.region → record_at sl.mid.regions k ≡ record_at old.regions k
  number-same k d = sl.slid.records k d

  pub unmoved-collects : Collects old stayed a.window.region a.rec Cell
  unmoved-collects = record {
    freed = λ s l cell. cell-goes s (λ x. cell (x.0 l));
    lost = λ n s x l. cell-goes s (λ y. y.1 n x l);
    cells = cell-stays;
    removed = λ k n x has.
        let d = apart-key k n x has in
        sl.released.removed k n x (ap (option_map (λ (r : Record). r.number)) (number-same k d) ∙ has);
    records = λ k d out.
        sl.released.records k (λ n x has. out n x (ap (option_map (λ (r : Record). r.number)) (sym (number-same k d)) ∙ has))
        ∙ number-same k d;
    own = (
      sl.slid.own.0,
      sl.own ∙ sl.slid.own.1,
      sl.slid.own.2,
      sl.slid.own.3,
      sl.slid.own.4,
    );
    serials = sl.released.serials ∙ sl.slid.serials;
    high = unmoved-high old.cells h₂;
    numbers = sl.released.numbers ∙ sl.slid.numbers;
  }

  -- What it leads to

  -- a word of a cell that is left leads to a cell that is left, where it does behind the collection
  leads-left : (s k y : ℕ) → field_at stayed.cells.heap s k ≡ Some (word.Slot y) → IsHeld h y → IsHeld h₂ (f y) → IsHeld stayed.cells.heap y
  leads-left s k y e there held =
      let b = held-body stayed.cells.heap s (field-held stayed.cells.heap s k (word.Slot y) e) in
      let before = unmoved-was old.cells h₂ s b.0 b.1 in
      let near : N y =
      near-field old v q g st a sl.mid frames sl.slid s k y (kept s b.0 before.0 before.1).0
      (field-in h s k b.0 before.0 ∙ sym (field-in stayed.cells.heap s k b.0 b.1) ∙ e) in
      let d = held-body h₂ (f y) held in
      let x = held-body h y there in
      let same : d.0 ≡ led_on f x.0 =
      same_Some d.0 (led_on f x.0) (sym (between (f y) d.0 d.1).0 ∙ on y x.0 x.1 near) in
      let serial : holds h₂ x.0.serial ≡ true =
      subst (λ (b : Body). holds h₂ b.serial ≡ true) same (holds-there h₂ (f y) d.0 d.1) in
      body-held stayed.cells.heap y x.0 (unmoved-held old.cells h₂ y x.0 x.1 serial)

  module _ (gn : Grove new.cells new.regions) (ss : Stands stayed v) where
    -- so all words of cells that are left do
    pub unmoved-leads : (s : ℕ) → AllLead stayed.cells.heap s
    unmoved-leads s k y e =
        let b = held-body stayed.cells.heap s (field-held stayed.cells.heap s k (word.Slot y) e) in
        let before = unmoved-was old.cells h₂ s b.0 b.1 in
        let now = kept s b.0 before.0 before.1 in
        let field : slice_get b.0.fields k ≡ Some (word.Slot y) = sym (field-in stayed.cells.heap s k b.0 b.1) ∙ e in
        let there : IsHeld h y = all-lead old v g st.opened st.temps s k y (field-in h s k b.0 before.0 ∙ field) in
        let led : field_at h₂ (f s) k ≡ Some (word.Slot (f y)) =
        field-in h₂ (f s) k (led_on f b.0) now.2 ∙ slice_get-map (shift f) b.0.fields k ∙ ap (option_map (shift f)) field in
        by b.0.label there (ap (option_map (λ (b : Body). b.label)) b.1) (ap (option_map (λ (b : Body). b.label)) now.2) led
      where
        by : (l : Label) → IsHeld h y → label_at stayed.cells.heap s ≡ Some l → label_at h₂ (f s) ≡ Some l
            → field_at h₂ (f s) k ≡ Some (word.Slot (f y)) → IsHeld stayed.cells.heap y
        by (Region p) there is now led = elim (gn.fields p (f s) k (f y) now led) [
          | inl frozen ↦ leads-left s k y e there (labelled_held h₂ (f y) Frozen frozen)
          | inr more ↦ elim more [
            | inl own ↦ leads-left s k y e there (labelled_held h₂ (f y) (Region p) own)
            | inr z ↦ leads-left s k y e there (labelled_held h₂ (f y) (Region z.0) z.2)
          ]
        ]
        by (Temp n) there is now led =
            let w = ss.temps s n is in
            let t = ss.opened.all_temps w.0 s w.1 w.2 (is ∙ ap (λ m. Some (Temp m)) (sym w.3)) in
            let begin = slice_index_or v.marks w.0 0 in
            let end = slice_index_or v.marks (w.0 + 1) (length v.temps) in
            ss.opened.lead (begin + t.0) s (get-take end (begin + t.0) v.temps s (sym (get-drop begin t.0 (take end v.temps)) ∙ t.1)) k y e
        by Frozen there is now led = leads-left s k y e there (labelled_held h₂ (f y) Frozen (gn.frozen (f s) k (f y) now led))

    -- the heap behind the collection is this one with its cells moved
    pub unmoved-shifted : Shifted f stayed.cells.heap h₂
    unmoved-shifted = record {
      next = refl;
      on = λ s b e. let x = unmoved-was old.cells h₂ s b e in (kept s b x.0 x.1).2;
      back = λ s d e.
          let x = was s d e in (
            x.from,
            x.body,
            unmoved-held old.cells h₂ x.from x.body x.held (subst (λ (b : Body). holds h₂ b.serial ≡ true) x.same (holds-there h₂ s d e)),
            x.is,
          );
      leads = unmoved-leads;
    }

  -- What stays where it was

  label-before : (s : ℕ) (l : Label) → label_at stayed.cells.heap s ≡ Some l → label_at h s ≡ Some l
  label-before s l e =
      let b = held-body stayed.cells.heap s (labelled_held stayed.cells.heap s l e) in
      label-in h s b.0 l (unmoved-was old.cells h₂ s b.0 b.1).0 (label-is stayed.cells.heap s b.0 l b.1 e)

  pub temp-still : (s k : ℕ) → label_at stayed.cells.heap s ≡ Some (Temp k) → f s ≡ s
  temp-still s k e =
      moves-off old v q g st a sl.mid frames sl.slid s (λ l. temp-region k r (sym (label-before s (Temp k) e) ∙ l))

  pub bridge-still : (s n : ℕ) → LiesIn stayed.cells.heap n s → IsBridge old.regions n s → f s ≡ s
  bridge-still s n l b = moves-bridge old v q g st a sl.mid frames sl.slid s n (label-before s (Region n) l) b
