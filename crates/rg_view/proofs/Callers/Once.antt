-- Where each closed region is owned once, at most one field from outside leads into it.
use Rattle.std.proofs.Common.{◌≡◌, ◌≢◌, ◌≤◌, ◌==◌, ◌+◌, inl, inr, ℕ, zero, suc, Bool as Truth, true, cond, not, List, [], ◌∷◌}
use Rattle.std.proofs.Common.{map, reverse, Option, Some, None, option_map, option_and_then, slice_get, count_by}
use Rattle.std.proofs.Common.{refl, sym, ap, ◌∙◌, subst, arith}
use Rattle.std.specs.List.{sum_by}
use Rattle.std.proofs.lemmas.Bool.{cases_eq, eq-eqb, ne_eqb}
use Rattle.std.proofs.lemmas.Option.{none-some, same_Some, slice_get-map}
use Rattle.std.proofs.lemmas.List.Sums.{sum_by-cons}
use Rattle.std.proofs.lemmas.Map.Keys.{any_passes_from_place}
use Rattle.rg_base.specs.declared.object.Label.{Label}
use Rattle.rg_base.specs.declared.object.Label.TheVariants.{Region, Temp, Frozen}
use Rattle.rg_base.specs.declared.object.Seen.{Seen}
use Rattle.rg_base.specs.declared.value.Val.{Val}
use Rattle.rg_base.specs.declared.value.Word.TheVariants as word
use Rattle.rg_cells.specs.declared.cell.Body.{Body}
use Rattle.rg_cells.specs.Table.{Heap, body_at, label_at, field_at, Serials}
use Rattle.rg_regions.specs.Reach.{LiesIn}
use Rattle.rg_regions.specs.Grove.{Grove}
use Rattle.rg_frames.specs.declared.rows.Window.{Window as WindowRow}
use Rattle.rg_frames.specs.Stack.{Stack}
use Rattle.rg_stack.specs.Machine.{Window}
use Rattle.rg_stack.specs.Needs.{fields_into, owned_once}
use Rattle.rg_stack.specs.Labels.{is_into, is_outside, has_window}
use Rattle.rg_heap.specs.Parts.{Parts}
use Rattle.rg_heap.specs.Answers.{val_of, IsClosed}
use Rattle.rg_heap.specs.Ends.{OneOutside}
use Rattle.rg_heap.specs.Opened.{Opened}
use Rattle.rg_held.proofs.Lists.{sum-one}
use Rattle.rg_view.specs.View.{object_of, store_of, window_of, windows_of, machine_of}
use Rattle.rg_view.specs.Numbers.{Numbers}
use Rattle.rg_view.proofs.Callers.Look.{store-held}
use Rattle.rg_view.proofs.Callers.Shown.{field-in}
use Rattle.rg_view.proofs.Callers.Open.{any-map, any-reverse, into-there}
use Rattle.rg_view.proofs.Callers.Need.{places-most, weight}
use Rattle.rg_view.proofs.Callers.Held.{TempsOfWindows}

-- two elements together
pub sum-two : {A : Type 0} (f : A → ℕ) (xs : List A) (i j : ℕ) (x y : A) → slice_get xs i ≡ Some x → slice_get xs j ≡ Some y → i ≢ j
    → f x + f y ≤ sum_by f xs
sum-two f [] i j x y e g d = absurd (none-some x e)
sum-two f (z ∷ xs) zero zero x y e g d = absurd (d refl)
sum-two f (z ∷ xs) zero (suc j) x y e g d =
    let c = sum_by-cons f z xs in
    let same : f z ≡ f x = ap f (same_Some z x e) in
    let h = sum-one f xs j y g in
    omega (arith, c, same, h)
sum-two f (z ∷ xs) (suc i) zero x y e g d =
    let c = sum_by-cons f z xs in
    let same : f z ≡ f y = ap f (same_Some z y g) in
    let h = sum-one f xs i x e in
    omega (arith, c, same, h)
sum-two f (z ∷ xs) (suc i) (suc j) x y e g d =
    let c = sum_by-cons f z xs in
    let h = sum-two f xs i j x y e g (λ is. d (ap suc is)) in
    omega (arith, c, h)

pub count-two : {A : Type 0} (test : A → Truth) (xs : List A) (i j : ℕ) (x y : A) → slice_get xs i ≡ Some x → slice_get xs j ≡ Some y
    → test x ≡ true → test y ≡ true → i ≢ j → 2 ≤ count_by test xs
count-two test xs i j x y e g a b d =
    let h : weight (test x) + weight (test y) ≤ count_by test xs = sum-two (λ x. weight (test x)) xs i j x y e g d in
    let one : weight (test x) ≡ weight true = ap weight a in
    let two : weight (test y) ≡ weight true = ap weight b in
    omega (arith, h, one, two)

module _ (h : Heap) (ws : List Window) (q : Serials h) where
  -- a field of a cell that doesn't lie in a region is seen from outside
  pub record Outside (r s k : ℕ) : Type 0 where
    pub body : Body
    pub held : body_at h s ≡ Some body
    pub outside : is_outside ws r body.label ≡ true
    pub value : Val
    pub stands : slice_get (map (val_of h) body.fields) k ≡ Some value
    pub into : is_into (store_of h) r value ≡ true

  pub outside-by : (r s k to : ℕ) → ((l : Label) → label_at h s ≡ Some l → is_outside ws r l ≡ true) → field_at h s k ≡ Some (word.Slot to)
      → LiesIn h r to → Outside r s k
  outside-by r s k to label leads into = by (body_at h s) refl
    where
      by : (c : Option Body) → body_at h s ≡ c → Outside r s k
      by None e = absurd (none-some (word.Slot to) (sym (ap (option_and_then (λ (b : Body). slice_get b.fields k)) e) ∙ leads))
      by (Some b) e = record {
        body = b;
        held = e;
        outside = label b.label (ap (option_map (λ (b : Body). b.label)) e);
        value = val_of h (word.Slot to);
        stands =
            slice_get-map (val_of h) b.fields k
            ∙ ap (option_map (val_of h)) (sym (field-in h s k b e) ∙ leads);
        into = into-there h r to q into;
      }

  -- what an object counts
  abbrev weighs : (r : ℕ) → Seen → ℕ
  weighs r x = cond (is_outside ws r x.label) (count_by (is_into (store_of h) r) x.fields) 0

  weighs-is : (r s k : ℕ) → (x : Outside r s k) → weighs r (object_of h (Some x.body))
      ≡ count_by (is_into (store_of h) r) (map (val_of h) x.body.fields)
  weighs-is r s k x = ap (λ t. cond t (count_by (is_into (store_of h) r) (map (val_of h) x.body.fields)) 0) x.outside

  weighs-one : (r s k : ℕ) → (x : Outside r s k) → 1 ≤ weighs r (object_of h (Some x.body))
  weighs-one r s k x =
      let is = weighs-is r s k x in
      let hit : weight (is_into (store_of h) r x.value) ≤ count_by (is_into (store_of h) r) (map (val_of h) x.body.fields) =
      sum-one (λ x. weight (is_into (store_of h) r x)) (map (val_of h) x.body.fields) k x.value x.stands in
      let one : weight (is_into (store_of h) r x.value) ≡ weight true = ap weight x.into in
      omega (arith, is, hit, one)

  -- it is counted
  pub outside-one : (r s k : ℕ) → (x : Outside r s k) → 1 ≤ fields_into (store_of h) ws r (store_of h)
  outside-one r s k x =
      let one = weighs-one r s k x in
      let hit : weighs r (object_of h (Some x.body)) ≤ fields_into (store_of h) ws r (store_of h) =
      sum-one (weighs r) (store_of h) x.body.serial (object_of h (Some x.body)) (store-held h s x.body q x.held) in
      omega (arith, one, hit)

  -- two fields of one cell would count two
  one-field : (r s k k₂ : ℕ) → (x : Outside r s k) (y : Outside r s k₂) → fields_into (store_of h) ws r (store_of h) ≤ 1 → k ≡ k₂
  one-field r s k k₂ x y most = elim (cases_eq k k₂) [
    | inl is ↦ is
    | inr d ↦
        let body : y.body ≡ x.body = same_Some y.body x.body (sym y.held ∙ x.held) in
        let two = count-two (is_into (store_of h) r) (map (val_of h) x.body.fields) k k₂ x.value y.value x.stands
        (ap (λ (b : Body). slice_get (map (val_of h) b.fields) k₂) (sym body) ∙ y.stands) x.into y.into d in
        let is = weighs-is r s k x in
        let hit : weighs r (object_of h (Some x.body)) ≤ fields_into (store_of h) ws r (store_of h) =
        sum-one (weighs r) (store_of h) x.body.serial (object_of h (Some x.body)) (store-held h s x.body q x.held) in
        absurd (omega (arith, two, is, hit, most))
  ]

  -- and so would fields of two cells
  one-cell : (r s k s₂ k₂ : ℕ) → (x : Outside r s k) (y : Outside r s₂ k₂) → fields_into (store_of h) ws r (store_of h) ≤ 1 → s ≡ s₂
  one-cell r s k s₂ k₂ x y most = elim (cases_eq s s₂) [
    | inl is ↦ is
    | inr d ↦
        let two : weighs r (object_of h (Some x.body)) + weighs r (object_of h (Some y.body)) ≤ fields_into (store_of h) ws r (store_of h) =
        sum-two (weighs r) (store_of h) x.body.serial y.body.serial (object_of h (Some x.body)) (object_of h (Some y.body))
        (store-held h s x.body q x.held) (store-held h s₂ y.body q y.held)
        (λ same. d (q.differ s s₂ x.body y.body x.held y.held same)) in
        let a = weighs-one r s k x in
        let b = weighs-one r s₂ k₂ y in
        absurd (omega (arith, two, a, b, most))
  ]

  -- where at most one is counted, two are the same
  pub outside-same : (r s k s₂ k₂ : ℕ) → (x : Outside r s k) (y : Outside r s₂ k₂) → fields_into (store_of h) ws r (store_of h) ≤ 1
      → (s ≡ s₂) × (k ≡ k₂)
  outside-same r s k s₂ k₂ x y most =
      let same : s ≡ s₂ = one-cell r s k s₂ k₂ x y most in
      (same, one-field r s k k₂ x (subst (λ z. Outside r z k₂) (sym same) y) most)

module _ (p : Parts) (v : Stack) (at : ℕ) (q : Serials p.cells.heap) (g : Grove p.cells p.regions) (o : Opened p v)
    (temps : TempsOfWindows p.cells.heap v) where
  -- a window has the number of each temporary
  pub temp-outside : (s n : ℕ) → label_at p.cells.heap s ≡ Some (Temp n) → has_window (windows_of p.regions v) n ≡ true
  temp-outside s n e =
      let t = temps s n e in
      any-map (window_of p.regions) (λ (w : Window). w.number == n) (reverse v.windows)
      ∙ any-reverse (λ (w : WindowRow). w.number == n) v.windows
      ∙ any_passes_from_place (λ (w : WindowRow). w.number == n) v.windows t.0 t.1 t.2 (eq-eqb t.1.number n t.3)

  -- a cell that doesn't lie in a region is outside of it
  label-outside : (r s : ℕ) → (LiesIn p.cells.heap r s → ⊥) → (l : Label) → label_at p.cells.heap s ≡ Some l
      → is_outside (windows_of p.regions v) r l ≡ true
  label-outside r s away (Region x) e = ap not (ne_eqb x r (λ same. away (e ∙ ap (λ n. Some (Region n)) same)))
  label-outside r s away (Temp n) e = temp-outside s n e
  label-outside r s away Frozen e = refl

  outside-field : (r s k to : ℕ) → (LiesIn p.cells.heap r s → ⊥) → field_at p.cells.heap s k ≡ Some (word.Slot to) → LiesIn p.cells.heap r to
      → Outside p.cells.heap (windows_of p.regions v) q r s k
  outside-field r s k to away leads into =
      outside-by p.cells.heap (windows_of p.regions v) q r s k to (label-outside r s away) leads into

  -- the fields from outside that lead into a closed region
  fields-most : (r : ℕ) → Numbers p.regions → IsClosed p.regions v r → owned_once (machine_of p v at) ≡ true
      → fields_into (store_of p.cells.heap) (windows_of p.regions v) r (store_of p.cells.heap) ≤ 1
  fields-most r n c once = let le = places-most p v at q g o r n c once in omega (arith, le)

  -- into a closed region at most one field of the cells outside it leads
  pub outside-once : Numbers p.regions → owned_once (machine_of p v at) ≡ true → OneOutside p v
  outside-once n once r s k to s₂ k₂ to₂ c away leads into away₂ leads₂ into₂ =
      outside-same p.cells.heap (windows_of p.regions v) q r s k s₂ k₂ (outside-field r s k to away leads into)
      (outside-field r s₂ k₂ to₂ away₂ leads₂ into₂) (fields-most r n c once)

  -- a field from outside that leads into a region is counted
  pub outside-counts : (r s k to : ℕ) → (LiesIn p.cells.heap r s → ⊥) → field_at p.cells.heap s k ≡ Some (word.Slot to) → LiesIn p.cells.heap r to
      → 1 ≤ fields_into (store_of p.cells.heap) (windows_of p.regions v) r (store_of p.cells.heap)
  outside-counts r s k to away leads into =
      outside-one p.cells.heap (windows_of p.regions v) q r s k (outside-field r s k to away leads into)
