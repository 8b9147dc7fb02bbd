-- Which regions the machine sees as open or closed, and where values lead.
use Rattle.std.proofs.Common.{◌≡◌, ◌==◌, ◌||◌, ℕ, suc, Bool as Truth, true, false, if◌then◌else◌, List, [], ◌∷◌, map, reverse}
use Rattle.std.proofs.Common.{Option, Some, None, option_map, option_and_then, is_some, slice_get, refl, sym, ap, ◌∙◌, subst}
use Rattle.std.specs.List.{list_any}
use Rattle.std.proofs.lemmas.Bool.{false≢true, eq-eqb, eqb-true, false_from_ne_true}
use Rattle.std.proofs.lemmas.List.{reverse-append}
use Rattle.std.proofs.lemmas.Option.{none-some, same_Some}
use Rattle.std.proofs.lemmas.List.Folds.{list_any-append}
use Rattle.std.proofs.lemmas.Map.Keys.{any_passes_from_place}
use Rattle.rg_base.specs.declared.object.Label.{Label}
use Rattle.rg_base.specs.declared.object.Label.TheVariants.{Region, Temp, Frozen}
use Rattle.rg_base.specs.declared.object.Seen.{Seen}
use Rattle.rg_base.specs.declared.value.Word.{Word}
use Rattle.rg_base.specs.declared.value.Word.TheVariants as word
use Rattle.rg_cells.specs.declared.cell.Body.{Body}
use Rattle.rg_cells.specs.Table.{Heap, body_at, label_at, Serials, IsHeld}
use Rattle.rg_regions.specs.Table.{Record, RegionTable, record_at, HasNumber, InTable}
use Rattle.rg_regions.specs.Reach.{LiesIn}
use Rattle.rg_frames.specs.declared.rows.Window.{Window as WindowRow}
use Rattle.rg_frames.specs.Stack.{Stack, has_region}
use Rattle.rg_stack.specs.Machine.{Window}
use Rattle.rg_stack.specs.Needs.{closed_of, closed_into, is_closed, owns_or_nil}
use Rattle.rg_stack.specs.Labels.{is_open, label_of, lies_in, is_into}
use Rattle.rg_heap.specs.Parts.{Parts}
use Rattle.rg_heap.specs.Answers.{val_of, obj_of, IsClosed}
use Rattle.rg_heap.specs.Reads.{LeadsIntoClosed}
use Rattle.rg_view.specs.View.{store_of, number_of, number_in, window_of, windows_of, machine_of}
use Rattle.rg_view.proofs.Callers.Look.{store-held, val-held}

-- Tests over lists

pub any-reverse : {A : Type 0} → (test : A → Truth) (xs : List A) → list_any test (reverse xs) ≡ list_any test xs
any-reverse test [] = refl
any-reverse test (x ∷ xs) =
    ap (list_any test) (reverse-append (x ∷ []) xs)
    ∙ list_any-append test (reverse xs) (x ∷ [])
    ∙ ap (λ b. b || (test x || false)) (any-reverse test xs)
    ∙ turn (list_any test xs) (test x)
  where
    turn : (a b : Truth) → (a || (b || false)) ≡ (b || a)
    turn true true = refl
    turn true false = refl
    turn false true = refl
    turn false false = refl

pub any-map : {A B : Type 0} → (f : A → B) (test : B → Truth) (xs : List A) → list_any test (map f xs) ≡ list_any (λ x. test (f x)) xs
any-map f test [] = refl
any-map f test (x ∷ xs) = ap (λ b. test (f x) || b) (any-map f test xs)

any-back-by : {A : Type 0} (test : A → Truth) (x : A) (xs : List A) (b : Truth) → test x ≡ b → (b || list_any test xs) ≡ true
    → (list_any test xs ≡ true → (i : ℕ) × (y : A) × (slice_get xs i ≡ Some y) × (test y ≡ true))
    → (i : ℕ) × (y : A) × (slice_get (x ∷ xs) i ≡ Some y) × (test y ≡ true)
any-back-by test x xs true is e rest = (0, x, refl, is)
any-back-by test x xs false is e rest = let r = rest e in (suc r.0, r.1, r.2, r.3)

-- where some element passes, this is one
pub any-back : {A : Type 0} (test : A → Truth) (xs : List A) → list_any test xs ≡ true
    → (i : ℕ) × (x : A) × (slice_get xs i ≡ Some x) × (test x ≡ true)
any-back test [] e = absurd (false≢true e)
any-back test (x ∷ xs) e = any-back-by test x xs (test x) refl e (λ f. any-back test xs f)

pub number-is : (t : RegionTable) (key n : ℕ) → HasNumber t key n → number_of t key ≡ n
number-is t key n h = by (record_at t key) refl
  where
    by : (o : Option Record) → record_at t key ≡ o → number_of t key ≡ n
    by None e = absurd (none-some n (sym (ap (option_map (λ (r : Record). r.number)) e) ∙ h))
    by (Some r) e = ap number_in e ∙ same_Some r.number n (sym (ap (option_map (λ (r : Record). r.number)) e) ∙ h)

-- the windows' regions are in the table, and a number has one key
pub record Keyed (t : RegionTable) (v : Stack) : Type 0 where
  pub known : (i : ℕ) (w : WindowRow) → slice_get v.windows i ≡ Some w → (n : ℕ) × HasNumber t w.region n
  pub numbers : (key other n : ℕ) → HasNumber t key n → HasNumber t other n → key ≡ other

module _ (t : RegionTable) (v : Stack) (k : Keyed t v) where
  open-is : (r : ℕ) → is_open (windows_of t v) r ≡ list_any (λ (w : WindowRow). number_of t w.region == r) v.windows
  open-is r =
      any-map (window_of t) (λ (w : Window). w.region == r) (reverse v.windows)
      ∙ any-reverse (λ (w : WindowRow). number_of t w.region == r) v.windows

  -- an open region is that of a window
  pub open-back : (r : ℕ) → is_open (windows_of t v) r ≡ true → (i : ℕ) × (w : WindowRow) × (slice_get v.windows i ≡ Some w) × HasNumber t w.region r
  open-back r e =
      let a = any-back (λ (w : WindowRow). number_of t w.region == r) v.windows (sym (open-is r) ∙ e) in
      let n = k.known a.0 a.1 a.2 in
      let same : n.0 ≡ r = sym (number-is t a.1.region n.0 n.1) ∙ eqb-true (number_of t a.1.region) r a.3 in
      (a.0, a.1, a.2, subst (HasNumber t a.1.region) same n.1)

  pub window-open : (r i : ℕ) (w : WindowRow) → slice_get v.windows i ≡ Some w → HasNumber t w.region r → is_open (windows_of t v) r ≡ true
  window-open r i w e n =
      open-is r
      ∙ any_passes_from_place (λ (w : WindowRow). number_of t w.region == r) v.windows i w e
      (eq-eqb (number_of t w.region) r (number-is t w.region r n))

  -- a closed region isn't open
  pub closed-not-open : (r : ℕ) → IsClosed t v r → is_open (windows_of t v) r ≡ false
  closed-not-open r c = false_from_ne_true (is_open (windows_of t v) r) (λ e.
      let a = open-back r e in
      let same : a.1.region ≡ c.0 = k.numbers a.1.region c.0 r a.3 c.1 in
      false≢true (sym c.2 ∙ any_passes_from_place (has_region c.0) v.windows a.0 a.1 a.2 (eq-eqb a.1.region c.0 same)))

  -- a region of the table that isn't open is closed
  pub not-open-closed : (r : ℕ) → InTable t r → is_open (windows_of t v) r ≡ false → IsClosed t v r
  not-open-closed r known e = (
    known.0,
    known.1,
    false_from_ne_true (list_any (has_region known.0) v.windows) (λ f.
        let a = any-back (has_region known.0) v.windows f in
        let same : known.0 ≡ a.1.region = sym (eqb-true a.1.region known.0 a.3) in
        false≢true (sym e ∙ window-open r a.0 a.1 a.2 (subst (λ key. HasNumber t key r) same known.1))),
  )

-- Values

-- the label of what a word leads to
pub label-shown : (h : Heap) (s : ℕ) (b : Body) → Serials h → body_at h s ≡ Some b
    → label_of (store_of h) (val_of h (word.Slot s)) ≡ Some b.label
label-shown h s b q e =
    ap (label_of (store_of h)) (val-held h s b e)
    ∙ ap (option_and_then (λ (o : Seen). Some o.label)) (store-held h s b q e)

pub label-lies : (h : Heap) (s : ℕ) (l : Label) → Serials h → label_at h s ≡ Some l
    → label_of (store_of h) (val_of h (word.Slot s)) ≡ Some l
label-lies h s l q e = by (body_at h s) refl
  where
    by : (o : Option Body) → body_at h s ≡ o → label_of (store_of h) (val_of h (word.Slot s)) ≡ Some l
    by None f = absurd (none-some l (sym (ap (option_map (λ (b : Body). b.label)) f) ∙ e))
    by (Some b) f = label-shown h s b q f ∙ sym (ap (option_map (λ (b : Body). b.label)) f) ∙ e

-- where a value leads to a label, it is a reference to a cell with it
pub label-back : (h : Heap) (w : Word) (l : Label) → Serials h → label_of (store_of h) (val_of h w) ≡ Some l
    → (s : ℕ) × (w ≡ word.Slot s) × (label_at h s ≡ Some l)
label-back h word.Nil l q e = absurd (none-some l e)
label-back h (word.Int z) l q e = absurd (none-some l e)
label-back h (word.Bool b) l q e = absurd (none-some l e)
label-back h (word.Slot s) l q e = by (body_at h s) refl
  where
    by : (o : Option Body) → body_at h s ≡ o → (x : ℕ) × (word.Slot s ≡ word.Slot x) × (label_at h x ≡ Some l)
    by None f = absurd (none-some l (sym (ap (λ o. label_of (store_of h) (obj_of o)) f) ∙ e))
    by (Some b) f = (s, refl, ap (option_map (λ (b : Body). b.label)) f ∙ sym (label-shown h s b q f) ∙ e)

-- a value leads into a region
pub into-there : (h : Heap) (r s : ℕ) → Serials h → LiesIn h r s → is_into (store_of h) r (val_of h (word.Slot s)) ≡ true
into-there h r s q e =
    ap (λ (o : Option Label). elim o [ None ↦ false | Some l ↦ lies_in r l ]) (label-lies h s (Region r) q e) ∙ eq-eqb r r refl

module _ (p : Parts) (v : Stack) (at : ℕ) (q : Serials p.cells.heap) (k : Keyed p.regions v)
    (labels : (r s : ℕ) → LiesIn p.cells.heap r s → InTable p.regions r) where
  -- the closed region into which a word leads
  pub into-closed : (w : Word) (r : ℕ) → closed_into (machine_of p v at) (val_of p.cells.heap w) ≡ Some r
      → (s : ℕ) × (w ≡ word.Slot s) × LiesIn p.cells.heap r s × IsClosed p.regions v r
  into-closed w r e = by (label_of (store_of p.cells.heap) (val_of p.cells.heap w)) refl
    where
      label : (l : Label) → closed_of (windows_of p.regions v) l ≡ Some r → (l ≡ Region r) × (is_open (windows_of p.regions v) r ≡ false)
      label (Region n) c = test (is_open (windows_of p.regions v) n) refl c
        where
          test : (b : Truth) → is_open (windows_of p.regions v) n ≡ b → (if b then None else Some n) ≡ Some r
              → (Region n ≡ Region r) × (is_open (windows_of p.regions v) r ≡ false)
          test true o c = absurd (none-some r c)
          test false o c = let same : n ≡ r = same_Some n r c in (ap Region same, ap (is_open (windows_of p.regions v)) (sym same) ∙ o)
      label (Temp n) c = absurd (none-some r c)
      label Frozen c = absurd (none-some r c)

      by : (o : Option Label) → label_of (store_of p.cells.heap) (val_of p.cells.heap w) ≡ o
          → (s : ℕ) × (w ≡ word.Slot s) × LiesIn p.cells.heap r s × IsClosed p.regions v r
      by None f = absurd (none-some r (sym (ap (option_and_then (closed_of (windows_of p.regions v))) f) ∙ e))
      by (Some l) f =
          let c = label l (sym (ap (option_and_then (closed_of (windows_of p.regions v))) f) ∙ e) in
          let b = label-back p.cells.heap w l q f in
          let lies : LiesIn p.cells.heap r b.0 = b.2 ∙ ap Some c.0 in
          (b.0, b.1, lies, not-open-closed p.regions v k r (labels r b.0 lies) c.1)

  pub closed-there : (s r : ℕ) → LiesIn p.cells.heap r s → IsClosed p.regions v r
      → closed_into (machine_of p v at) (val_of p.cells.heap (word.Slot s)) ≡ Some r
  closed-there s r lies c =
      ap (option_and_then (closed_of (windows_of p.regions v))) (label-lies p.cells.heap s (Region r) q lies)
      ∙ ap (λ b. if b then None else Some r) (closed-not-open p.regions v k r c)

  -- the machine sees that a word leads into a closed region where it does
  pub closed-leads : (w : Word) → is_closed (machine_of p v at) (val_of p.cells.heap w) ≡ true → LeadsIntoClosed p v w
  closed-leads w e = by (closed_into (machine_of p v at) (val_of p.cells.heap w)) refl
    where
      by : (o : Option ℕ) → closed_into (machine_of p v at) (val_of p.cells.heap w) ≡ o → LeadsIntoClosed p v w
      by None f = absurd (false≢true (sym (ap is_some f) ∙ e))
      by (Some r) f = let c = into-closed w r f in (r, c.0, c.1, c.2, c.3)

  pub leads-closed : (w : Word) → LeadsIntoClosed p v w → is_closed (machine_of p v at) (val_of p.cells.heap w) ≡ true
  leads-closed w l =
      ap (λ w. is_closed (machine_of p v at) (val_of p.cells.heap w)) l.2 ∙ ap is_some (closed-there l.1 l.0 l.3 l.4)

  -- a word that owns or is nil, and leads to a held cell, leads into a closed region
  pub owner-leads : (s : ℕ) → IsHeld p.cells.heap s → owns_or_nil (machine_of p v at) (val_of p.cells.heap (word.Slot s)) ≡ true
      → LeadsIntoClosed p v (word.Slot s)
  owner-leads s held e = by (body_at p.cells.heap s) refl
    where
      by : (o : Option Body) → body_at p.cells.heap s ≡ o → LeadsIntoClosed p v (word.Slot s)
      by None f = let c = subst (λ (o : Option Body). is_some o ≡ true) f held in absurd (false≢true c)
      by (Some b) f =
          closed-leads (word.Slot s)
          (ap (is_closed (machine_of p v at)) (val-held p.cells.heap s b f)
          ∙ (sym (ap (owns_or_nil (machine_of p v at)) (val-held p.cells.heap s b f)) ∙ e))
