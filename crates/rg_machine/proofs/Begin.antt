-- The machine with which a program opens.
use Rattle.std.proofs.Common.{◌≡◌, ◌+◌, inl, inr, ℕ, zero, suc, List, [], ◌∷◌, Option, Some, None, take, length, map, replicate, slice_get}
use Rattle.std.proofs.Common.{slice_index_or, option_map, refl, sym, ap, ◌∙◌, subst, arith}
use Rattle.std.specs.List.{range_with_len}
use Rattle.std.proofs.lemmas.Bool.{cases_eq}
use Rattle.std.proofs.lemmas.Option.{none-some, same_Some}
use Rattle.rg_base.specs.declared.object.Label.{Label}
use Rattle.rg_base.specs.declared.object.Label.TheVariants.{Region, Temp}
use Rattle.rg_base.specs.declared.value.Val.{Val}
use Rattle.rg_base.specs.declared.value.Val.TheVariants as val
use Rattle.rg_base.specs.declared.value.Word.TheVariants.{Nil, Slot}
use Rattle.rg_base.specs.declared.words.Manager.{Manager}
use Rattle.rg_cells.specs.declared.cell.Body.{Body}
use Rattle.rg_cells.specs.Table.{Heap, body_in, label_at}
use Rattle.rg_regions.specs.Table.{Record, RegionTable, Added, fresh, record_at, HasNumber}
use Rattle.rg_frames.specs.declared.rows.Window.{Window}
use Rattle.rg_frames.specs.Stack.{Stack}
use Rattle.rg_frames.specs.Changes.{begun, roomed}
use Rattle.rg_stack.specs.Machine.{Frame, Window as WindowOf}
use Rattle.rg_heap.specs.Parts.{Parts}
use Rattle.rg_heap.specs.Answers.{val_of}
use Rattle.rg_heap.specs.Opened.{Opened, IsTempOf}
use Rattle.rg_view.specs.Numbers.{Numbers}
use Rattle.rg_view.specs.View.{machine_of, managers_of, manager_with, number_in, number_of, seen_of}
use Rattle.rg_view.proofs.Callers.Frame.{map-nil}
use Rattle.rg_view.proofs.Callers.Manager.{manager-of}
use Rattle.rg_view.proofs.Callers.Shown.{get-drop, get-take}
use Rattle.rg_machine.specs.Parts.{opening}
use Rattle.rg_machine.specs.Stands.{Stands}
use Rattle.rg_machine.proofs.New.Refused.{machine}

-- the one element of a list
the-one : {A : Type 0} → (x y : A) (i : ℕ) → slice_get (x ∷ []) i ≡ Some y → (i ≡ 0) × (x ≡ y)
the-one x y zero e = (refl, same_Some x y e)
the-one x y (suc i) e = absurd (none-some y e)

repeated : {A : Type 0} → (n : ℕ) (x y : A) (i : ℕ) → slice_get (replicate n x) i ≡ Some y → x ≡ y
repeated zero x y i e = absurd (none-some y e)
repeated (suc n) x y zero e = same_Some x y e
repeated (suc n) x y (suc i) e = repeated n x y i e

-- no cell is held
no-label : (h : Heap) (s : ℕ) (l : Label) → h.slots ≡ [] → label_at h s ≡ Some l → ⊥
no-label h s l none e =
    none-some l (sym (ap (λ (xs : List (Option (Option Body))). option_map (λ (b : Body). b.label) (body_in (slice_index_or xs s None))) none) ∙ e)

-- main's frame and window 0
abbrev pub first-stack : (key slots frame_room slot_room : ℕ) → Stack
first-stack key n a b = roomed (begun key n) a b

abbrev first-window : (key : ℕ) → Window
first-window key = record { number = 0; region = key; owner = None; base = 0 }

no-temp : (key n a b i s : ℕ) → IsTempOf (first-stack key n a b) i s → ⊥
no-temp key n a b i s t =
    let v = first-stack key n a b in
    let begin = slice_index_or v.marks i 0 in
    let end = slice_index_or v.marks (i + 1) (length v.temps) in
    none-some s (get-take end (begin + t.0) [] s (sym (get-drop begin t.0 (take end [])) ∙ t.1))

module _ (p : Parts) (old : RegionTable) (key n a b : ℕ) (manager : Manager) (cells : p.cells.heap.slots ≡ []) (serials : p.cells.heap.next ≡ 0)
    (records : old.records ≡ []) (next : old.next ≡ 0) (added : Added old p.regions key (fresh old manager)) where
  only : (k : ℕ) (r : Record) → record_at p.regions k ≡ Some r → (k ≡ key) × (fresh old manager ≡ r)
  only k r e = elim (cases_eq k key) [
    | inl is ↦ (is, same_Some (fresh old manager) r (sym added.is ∙ ap (record_at p.regions) (sym is) ∙ e))
    | inr d ↦
        absurd (none-some r (sym (ap (λ (rs : List (Option Record)). slice_index_or rs k None) records) ∙ sym (added.others k d) ∙ e))
  ]

  first-number : HasNumber p.regions key 0
  first-number = ap (option_map (λ (r : Record). r.number)) added.is ∙ ap Some next

  pub begin-numbers : Numbers p.regions
  begin-numbers = record {
    below = λ k r e.
        let o = only k r e in
        let is : old.next ≡ r.number = ap (λ (x : Record). x.number) o.1 in
        let more = added.next in
        omega (arith, is, more);
    differ = λ k m r u e f same. (only k r e).0 ∙ sym (only m u f).0;
  }

  begin-opened : Opened p (first-stack key n a b)
  begin-opened = record {
    as_many = refl;
    first = λ w e. subst (λ (x : Window). HasNumber p.regions x.region 0) (the-one (first-window key) w 0 e).1 first-number;
    some = omega arith;
    known = λ i w e. (0, subst (λ (x : Window). HasNumber p.regions x.region 0) (the-one (first-window key) w i e).1 first-number);
    differ = λ i j w u e f same. (the-one (first-window key) w i e).0 ∙ sym (the-one (first-window key) u j f).0;
    temps = λ i s w e t. absurd (no-temp key n a b i s t);
    all_temps = λ i s w e l. absurd (no-label p.cells.heap s (Temp w.number) cells l);
    once = λ j k s e f. absurd (none-some s e);
    slots = λ j s e. let f : Nil ≡ Slot s = repeated n Nil (Slot s) j e in absurd cc;
    lead = λ j s e. absurd (none-some s e);
    parents = λ i w m q e h l. absurd (no-label p.cells.heap l.from (Region q) cells l.lies);
  }

  pub begin-stands : Stands p (first-stack key n a b)
  begin-stands = record {
    opened = begin-opened;
    lain = (omega arith, refl);
    some = omega arith;
    numbers = begin-numbers;
    bridges = λ k r e.
        let is : old.next ≡ r.number = ap (λ (x : Record). x.number) (only k r e).1 in
        (λ d. absurd (d (sym is ∙ next)), λ zero. sym (ap (λ (x : Record). x.bridge) (only k r e).1));
    window_numbers = λ i j w u e f same. (the-one (first-window key) w i e).0 ∙ sym (the-one (first-window key) u j f).0;
    windows_next = λ i w e.
        let is : 0 ≡ w.number = ap (λ (x : Window). x.number) (the-one (first-window key) w i e).1 in
        omega (arith, is);
    temps = λ s m l. absurd (no-label p.cells.heap s (Temp m) cells l);
    slots = λ j s r e l. absurd (no-label p.cells.heap s (Region r) cells l);
    fields = λ i s k to r w e t. absurd (no-temp key n a b i s t);
    first_mark = λ m e. sym (same_Some 0 m e);
  }

  begin-managers : managers_of p.regions ≡ manager ∷ []
  begin-managers =
      let more = added.next in
      let one : p.regions.next ≡ 1 = omega (arith, more, next) in
      ap (λ m. map (λ i. manager_with i p.regions.records) (range_with_len 0 m)) one
      ∙ ap (λ i. manager_with i p.regions.records ∷ []) (sym next)
      ∙ ap (λ x. x ∷ []) (manager-of p.regions key (fresh old manager) begin-numbers added.is)

  pub begin-machine : machine_of p (first-stack key n a b) 0 ≡ opening n manager
  begin-machine =
      let v = first-stack key n a b in
      ap (λ m. machine v 0 (map (seen_of p.cells.heap) (range_with_len 0 m)) (frames (map-of n)) (windows (number_of p.regions key))
      (managers_of p.regions)) serials
      ∙ ap (λ vs. machine v 0 [] (frames vs) (windows (number_of p.regions key)) (managers_of p.regions)) (map-nil p.cells.heap n)
      ∙ ap (λ r. machine v 0 [] (frames (replicate n val.Nil)) (windows r) (managers_of p.regions)) (ap number_in added.is ∙ next)
      ∙ ap (machine v 0 [] (frames (replicate n val.Nil)) (windows 0)) begin-managers
    where
      frames : List Val → List Frame
      frames vs = record { slots = vs; back = 0 } ∷ []

      windows : ℕ → List WindowOf
      windows r = record { number = 0; region = r; owner = None; base = 0 } ∷ []

      map-of : ℕ → List Val
      map-of k = map (val_of p.cells.heap) (replicate k Nil)
