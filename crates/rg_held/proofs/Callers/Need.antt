-- What an instruction needs over the growing store it has over the store in which some objects are gone: what it looks at is held, and of what
-- is gone no field leads anywhere.
use Rattle.std.proofs.Common.{◌≡◌, ℕ, suc, ◌==◌, ◌≤◌, inl, inr, true, false, not, Bool as Truth, List, [], ◌∷◌, length, reverse}
use Rattle.std.proofs.Common.{Option, Some, None, Result, Ok, Err, option_and_then, option_map, unwrap_or, refl, sym, ap, subst, ◌∙◌, arith}
use Rattle.std.proofs.Common.{slice_get}
use Rattle.std.specs.Prelude.{sum_by, count_by, cond, nat_le, nat_lt, is_some, ok_or, ◌&&◌, ◌||◌}
use Rattle.std.specs.List.{list_any}
use Rattle.std.proofs.lemmas.List.Sums.{sum_by-cons}
use Rattle.std.proofs.lemmas.Option.{same_Some}
use Rattle.std.proofs.lemmas.Bool.{eq-eqb, eqb-true, cases_Bool}
use Rattle.std.proofs.lemmas.Map.Keys.{any_passes_from_place}
use Rattle.rg_base.specs.declared.object.Label.{Label}
use Rattle.rg_base.specs.declared.object.Label.TheVariants.{Region, Temp, Frozen}
use Rattle.rg_base.specs.declared.object.Place.{Place}
use Rattle.rg_base.specs.declared.object.Place.TheVariants as place
use Rattle.rg_base.specs.declared.object.Seen.{Seen}
use Rattle.rg_base.specs.declared.outcome.Trap.{Trap}
use Rattle.rg_base.specs.declared.outcome.Trap.TheVariants as trap
use Rattle.rg_base.specs.declared.value.Val.{Val}
use Rattle.rg_base.specs.declared.value.Val.TheVariants as val
use Rattle.rg_base.specs.declared.words.Manager.{Manager}
use Rattle.rg_rules.specs.Values.{is_nil_value}
use Rattle.rg_rules.specs.Evaluation.{object_at}
use Rattle.rg_rules.specs.Regions.{address}
use Rattle.rg_code.specs.declared.op.Op.{Op}
use Rattle.rg_code.specs.declared.op.Op.TheVariants as i
use Rattle.rg_code.specs.Code.{Code}
use Rattle.rg_stack.specs.Machine.{Frame, Window, Machine, top_slots, slot_at, end_slots, place_of}
use Rattle.rg_stack.specs.Needs.{closed_of, closed_into, is_closed, slots_into, fields_into}
use Rattle.rg_stack.specs.Labels.{is_open, label_of, lies_in, is_into, is_outside}
use Rattle.rg_stack.specs.Needs.{places_into, all_below, owned_once, loose, owns_or_nil, is_top_temp, is_to_temp, outlives, temps_may_go}
use Rattle.rg_stack.specs.Places.{is_writable}
use Rattle.rg_stack.specs.Needs.{is_open_label, may_keep}
use Rattle.rg_stack.specs.Places.{top_base}
use Rattle.rg_stack.specs.Needs.{may_stand, of_object, owner_leads, is_empty, of_top, may_leave}
use Rattle.rg_stack.specs.Places.{field_of, is_field, value_at}
use Rattle.rg_stack.specs.Needs.{owned_alone, owner_near, seen_by_owner, needs}
use Rattle.rg_stack.specs.Places.{is_near}
use Rattle.rg_stack.specs.Effects.{left, place_named}
use Rattle.rg_stack.specs.Tops.{without_top, top_region, top_owner}
use Rattle.rg_stack.proofs.Basics.{none-some, and-left, and-right}
use Rattle.rg_stack.proofs.Callers.Need.{below_by}
use Rattle.rg_held.specs.Gone.{gone}
use Rattle.rg_held.specs.Part.{leads_to, AllLead, Part, OwnerHeld, OwnersHeld}
use Rattle.rg_held.specs.Laws.{NeedsSame}
use Rattle.rg_held.proofs.Lists.{off, any-at, reverse-back, ended-back}
use Rattle.rg_held.proofs.Parts.Part.{top-leads, top-slot, slots-back}

fewer : (k n c : ℕ) → k ≤ n → nat_le n c ≡ true → nat_le k c ≡ true
fewer k n c h e = grind (arith, h, e)

-- tests of which the one follows from the other

and-more : (a b c d : Truth) → (a && b) ≡ true → (a ≡ true → c ≡ true) → (b ≡ true → d ≡ true) → (c && d) ≡ true
and-more a b c d e f g = ap (λ t. t && d) (f (and-left a b e)) ∙ g (and-right a b e)

or-more : (a b c : Truth) → (b ≡ true → c ≡ true) → (a || b) ≡ true → (a || c) ≡ true
or-more true b c f e = refl
or-more false b c f e = f e

not-more : (a b : Truth) → (b ≡ true → a ≡ true) → not a ≡ true → not b ≡ true
not-more true b f e = off e
not-more false true f e = off (f refl)
not-more false false f e = refl

-- sums of which each part is at most that of the other
sum-less : {A : Type 0} (f g : A → ℕ) (xs ys : List A) → length xs ≡ length ys
    → ((i : ℕ) (x y : A) → slice_get xs i ≡ Some x → slice_get ys i ≡ Some y → f x ≤ g y) → sum_by f xs ≤ sum_by g ys
sum-less f g [] [] e h = omega arith
sum-less f g [] (y ∷ ys) e h = absurd (omega (arith, e))
sum-less f g (x ∷ xs) [] e h = absurd (omega (arith, e))
sum-less f g (x ∷ xs) (y ∷ ys) e h =
    let same : length xs ≡ length ys = omega (arith, e) in
    let a = sum_by-cons f x xs in let c = sum_by-cons g y ys in let d = h 0 x y refl refl in
    let r = sum-less f g xs ys same (λ i. h (suc i)) in omega (arith, a, c, d, r)

-- a store in which some objects are gone, beside the one of a machine
record Beside (held : ℕ → Truth) (store : List Seen) (managers : List Manager) (m : Machine) : Type 0 where
  pub made : length managers ≡ length m.managers
  pub objects : length store ≡ length m.store
  pub same : (a : ℕ) → held a ≡ true → slice_get store a ≡ slice_get m.store a
  pub others : (a : ℕ) → held a ≡ false → slice_get store a ≡ option_map (λ (o : Seen). gone) (slice_get m.store a)
  pub slots : (n : ℕ) (h : Frame) (s : ℕ) (v : Val) → slice_get m.frames n ≡ Some h → slice_get h.slots s ≡ Some v → leads_to held v ≡ true
  pub fields : (a : ℕ) (o : Seen) (k : ℕ) (v : Val) → held a ≡ true → slice_get m.store a ≡ Some o → slice_get o.fields k ≡ Some v
      → leads_to held v ≡ true
  pub owners : OwnersHeld held m.store m.windows

abbrev over : List Seen → List Manager → Machine → Machine
over store managers m = record m { store = store; managers = managers }

module _ (held : ℕ → Truth) (store : List Seen) (managers : List Manager) (m : Machine) (b : Beside held store managers m) where
  abbrev g : Machine
  g = over store managers m

  label-over : (v : Val) → leads_to held v ≡ true → label_of store v ≡ label_of m.store v
  label-over val.Nil h = refl
  label-over (val.Int z) h = refl
  label-over (val.Bool t) h = refl
  label-over (val.Obj a) h = ap (option_and_then (λ (o : Seen). Some o.label)) (b.same a h)

  object-over : (v : Val) → leads_to held v ≡ true → object_at store v ≡ object_at m.store v
  object-over val.Nil h = refl
  object-over (val.Int z) h = refl
  object-over (val.Bool t) h = refl
  object-over (val.Obj a) h = ap (λ o. ok_or o trap.Nil) (b.same a h)

  into-over : (r : ℕ) (v : Val) → leads_to held v ≡ true → is_into store r v ≡ is_into m.store r v
  into-over r v h = ap (λ (o : Option Label). elim o [ None ↦ false | Some l ↦ lies_in r l ]) (label-over v h)

  closed-over : (v : Val) → leads_to held v ≡ true → closed_into g v ≡ closed_into m v
  closed-over v h = ap (option_and_then (closed_of m.windows)) (label-over v h)

  is-closed-over : (v : Val) → leads_to held v ≡ true → is_closed g v ≡ is_closed m v
  is-closed-over v h = ap (λ (o : Option ℕ). is_some o) (closed-over v h)

  owns-over : (v : Val) → leads_to held v ≡ true → owns_or_nil g v ≡ owns_or_nil m v
  owns-over v h = ap (λ t. is_nil_value v || t) (is-closed-over v h)

  not-closed-over : (v : Val) → leads_to held v ≡ true → not (is_closed g v) ≡ not (is_closed m v)
  not-closed-over v h = ap not (is-closed-over v h)

  top-temp-over : (l : Label) → is_top_temp g l ≡ is_top_temp m l
  top-temp-over (Region r) = refl
  top-temp-over (Temp n) = refl
  top-temp-over Frozen = refl

  outlives-over : (l : Label) → outlives g l ≡ outlives m l
  outlives-over (Region r) = refl
  outlives-over (Temp n) = refl
  outlives-over Frozen = refl

  writable-over : (l : Label) → is_writable g l ≡ is_writable m l
  writable-over (Region r) = refl
  writable-over (Temp n) = refl
  writable-over Frozen = refl

  is-field-over : (k : ℕ) (o : Seen) → is_field g k o ≡ is_field m k o
  is-field-over k o = ap (λ t. t && nat_lt k (length o.fields)) (writable-over o.label)

  temp-over : (v : Val) → leads_to held v ≡ true → is_to_temp g v ≡ is_to_temp m v
  temp-over v h = by (label_of store v) (label_of m.store v) (label-over v h)
    where
      by : (o q : Option Label) → o ≡ q
          → ◌≡◌ {A = Truth} (elim o [ None ↦ false | Some l ↦ is_top_temp g l ]) (elim q [ None ↦ false | Some l ↦ is_top_temp m l ])
      by o None e = ap (λ (o : Option Label). elim o [ None ↦ false | Some l ↦ is_top_temp g l ]) e
      by o (Some l) e = ap (λ (o : Option Label). elim o [ None ↦ false | Some l ↦ is_top_temp g l ]) e ∙ top-temp-over l

  stand-over : (l : Label) (v : Val) → leads_to held v ≡ true → may_stand g l v ≡ may_stand m l v
  stand-over (Region r) v h = ap (λ (o : Option Label). elim (address v) [
    | None ↦ true
    | Some a ↦ elim o [
      | None ↦ false
      | Some (Region q) ↦ q == r
      | Some (Temp n) ↦ false
      | Some Frozen ↦ true
    ]
  ]) (label-over v h)
  stand-over (Temp n) v h = not-closed-over v h
  stand-over Frozen v h = refl

  any-over : (t s : Val → Truth) (vs : List Val) → ((v : Val) → leads_to held v ≡ true → t v ≡ s v) → AllLead held vs
      → list_any t vs ≡ list_any s vs
  any-over t s [] f a = refl
  any-over t s (v ∷ vs) f a = ap (λ x. x || list_any t vs) (f v a.0) ∙ ap (λ x. s v || x) (any-over t s vs f a.1)

  -- what slots and fields of held objects hold leads to what is held

  slot-leads : (s : ℕ) → leads_to held (slot_at m s) ≡ true
  slot-leads s = top-leads held m s b.slots

  field-leads : (a : ℕ) (o : Seen) (k : ℕ) → held a ≡ true → slice_get m.store a ≡ Some o → leads_to held (field_of o k) ≡ true
  field-leads a o k h there = by (slice_get o.fields k) refl
    where
      by : (f : Option Val) → slice_get o.fields k ≡ f → leads_to held (unwrap_or f val.Nil) ≡ true
      by None e = refl
      by (Some v) e = b.fields a o k v h there e

  keep-over : (s : ℕ) (v : Val) → leads_to held v ≡ true → may_keep g s v ≡ may_keep m s v
  keep-over s v h = ap (λ (o : Option Label). nat_le (top_base m.windows) (place_of m.frames s)
      || not (elim o [ None ↦ false | Some l ↦ is_open_label m.windows l ])) (label-over v h)

  object-leads : (v : Val) (o : Seen) (k : ℕ) → leads_to held v ≡ true → object_at m.store v ≡ Ok o → leads_to held (field_of o k) ≡ true
  object-leads val.Nil o k h e = absurd (grind arith)
  object-leads (val.Int z) o k h e = absurd (grind arith)
  object-leads (val.Bool t) o k h e = absurd (grind arith)
  object-leads (val.Obj a) o k h e = by (slice_get m.store a) refl e
    where
      by : (s : Option Seen) → slice_get m.store a ≡ s → ok_or s trap.Nil ≡ Ok o → leads_to held (field_of o k) ≡ true
      by None at e = absurd (grind arith)
      by (Some q) at e = field-leads a o k h (at ∙ ap Some (grind arith))

  -- no more places lead into a region

  count-less : (r : ℕ) (vs : List Val) → ((j : ℕ) (v : Val) → slice_get vs j ≡ Some v → leads_to held v ≡ true)
      → count_by (is_into store r) vs ≤ count_by (is_into m.store r) vs
  count-less r vs lead = sum-less (λ v. cond (is_into store r v) 1 0) (λ v. cond (is_into m.store r v) 1 0) vs vs refl
      (λ j x y at there. one x y (same_Some x y (sym at ∙ there)) (lead j x at))
    where
      one : (x y : Val) → x ≡ y → leads_to held x ≡ true → ◌≤◌ (cond (is_into store r x) 1 0) (cond (is_into m.store r y) 1 0)
      one x y e h =
          let s : ◌≡◌ {A = ℕ} (cond (is_into store r x) 1 0) (cond (is_into m.store r y) 1 0)
          = ap (λ t. cond t 1 0) (into-over r x h ∙ ap (is_into m.store r) e) in omega (arith, s)

  slots-less : (r : ℕ) → slots_into store r m.frames ≤ slots_into m.store r m.frames
  slots-less r = sum-less (λ (f : Frame). count_by (is_into store r) f.slots) (λ (f : Frame). count_by (is_into m.store r) f.slots)
      m.frames m.frames refl (λ n x y at there. subst (λ (y : Frame). count_by (is_into store r) x.slots ≤ count_by (is_into m.store r) y.slots)
      (same_Some x y (sym at ∙ there)) (count-less r x.slots (λ j v. b.slots n x j v at)))

  fields-less : (ws : List Window) (r : ℕ) → fields_into store ws r store ≤ fields_into m.store ws r m.store
  fields-less ws r = sum-less (λ (o : Seen). cond (is_outside ws r o.label) (count_by (is_into store r) o.fields) 0)
      (λ (o : Seen). cond (is_outside ws r o.label) (count_by (is_into m.store r) o.fields) 0) store m.store b.objects one
    where
      none : (t : Truth) (n : ℕ) → ◌≤◌ (cond t 0 0) n
      none true n = omega arith
      none false n = omega arith

      some : (t : Truth) (k n : ℕ) → k ≤ n → cond t k 0 ≤ cond t n 0
      some true k n h = h
      some false k n h = omega arith

      one : (a : ℕ) (x y : Seen) → slice_get store a ≡ Some x → slice_get m.store a ≡ Some y
          → cond (is_outside ws r x.label) (count_by (is_into store r) x.fields) 0
          ≤ cond (is_outside ws r y.label) (count_by (is_into m.store r) y.fields) 0
      one a x y at there = elim (cases_Bool (held a)) [
        | inl h ↦ subst (λ (x : Seen). cond (is_outside ws r x.label) (count_by (is_into store r) x.fields) 0
            ≤ cond (is_outside ws r y.label) (count_by (is_into m.store r) y.fields) 0)
            (same_Some y x (sym there ∙ sym (b.same a h) ∙ at))
            (some (is_outside ws r y.label) (count_by (is_into store r) y.fields) (count_by (is_into m.store r) y.fields)
            (count-less r y.fields (λ k v. b.fields a y k v h there)))
        | inr n ↦ subst (λ (x : Seen). cond (is_outside ws r x.label) (count_by (is_into store r) x.fields) 0
            ≤ cond (is_outside ws r y.label) (count_by (is_into m.store r) y.fields) 0)
            (same_Some gone x (sym (b.others a n ∙ ap (option_map (λ (o : Seen). gone)) there) ∙ at))
            (none (is_outside ws r gone.label) (cond (is_outside ws r y.label) (count_by (is_into m.store r) y.fields) 0))
      ]

  places-less : (r : ℕ) → places_into g r ≤ places_into m r
  places-less r = let a = slots-less r in let c = fields-less m.windows r in omega (arith, a, c)

  once-over : owned_once m ≡ true → owned_once g ≡ true
  once-over e = subst (λ n. all_below n (λ r. is_open m.windows r || nat_le (places_into g r) 1) ≡ true) (sym b.made)
      (below_by (length m.managers) (λ r. is_open m.windows r || nat_le (places_into m r) 1)
      (λ r. is_open m.windows r || nat_le (places_into g r) 1)
      (λ r. or-more (is_open m.windows r) (nat_le (places_into m r) 1) (nat_le (places_into g r) 1) (less (places_into g r) (places_into m r)
      (places-less r))) e)
    where
      less : (k n : ℕ) → k ≤ n → nat_le n 1 ≡ true → nat_le k 1 ≡ true
      less k n h e = fewer k n 1 h e

  -- its owner's place may be written as well
  near-over : owner_near m ≡ true → owner_near g ≡ true
  near-over e = by m.windows b.owners e
    where
      writable : (ws : List Window) (l : Label) → is_writable (record g { windows = ws }) l ≡ is_writable (record m { windows = ws }) l
      writable ws (Region r) = refl
      writable ws (Temp n) = refl
      writable ws Frozen = refl

      field-near : (k : ℕ) (q : Option Seen)
          → elim q [ None ↦ false | Some o ↦ is_field (record m { windows = without_top m.windows }) k o ] ≡ true
          → elim q [ None ↦ false | Some o ↦ is_field (record g { windows = without_top m.windows }) k o ] ≡ true
      field-near k None e = e
      field-near k (Some o) e = ap (λ t. t && nat_lt k (length o.fields)) (writable (without_top m.windows) o.label) ∙ e

      of : (us : List Window) (o : Option Place) → OwnerHeld held m.store us o → elim o [ None ↦ true | Some p ↦ is_near m p ] ≡ true
          → elim o [ None ↦ true | Some p ↦ is_near g p ] ≡ true
      of us None h e = refl
      of us (Some (place.Var n s)) h e = e
      of us (Some (place.Field a k)) h e = field-near k (slice_get store a)
          (ap (λ (q : Option Seen). elim q [ None ↦ false | Some o ↦ is_field (record m { windows = without_top m.windows }) k o ])
          (b.same a h.0) ∙ e)

      by : (ws : List Window) → OwnersHeld held m.store ws → elim (top_owner ws) [ None ↦ true | Some p ↦ is_near m p ] ≡ true
          → elim (top_owner ws) [ None ↦ true | Some p ↦ is_near g p ] ≡ true
      by [] o e = refl
      by (w ∷ []) o e = refl
      by (w ∷ v ∷ ws) o e = of (v ∷ ws) w.owner o.0 e

  loose-over : (v : Val) → leads_to held v ≡ true → loose m v ≡ true → loose g v ≡ true
  loose-over v h e = ap (λ (o : Option ℕ). elim o [ None ↦ true | Some r ↦ places_into g r == 0 ]) (closed-over v h) ∙ by (closed_into m v) e
    where
      none : (k n : ℕ) → k ≤ n → (n == 0) ≡ true → (k == 0) ≡ true
      none k n h e = let z = eqb-true n 0 e in eq-eqb k 0 (omega (arith, h, z))

      by : (o : Option ℕ) → elim o [ None ↦ true | Some r ↦ places_into m r == 0 ] ≡ true
          → elim o [ None ↦ true | Some r ↦ places_into g r == 0 ] ≡ true
      by None e = refl
      by (Some r) e = none (places_into g r) (places_into m r) (places-less r) e

  -- where the topmost window may go

  fields-temp : (a : ℕ) (x : Seen) → slice_get store a ≡ Some x → (outlives g x.label && list_any (is_to_temp g) x.fields) ≡ true
      → list_any (λ (o : Seen). outlives m o.label && list_any (is_to_temp m) o.fields) m.store ≡ true
  fields-temp a x at e = elim (cases_Bool (held a)) [
    | inl h ↦ (let there : slice_get m.store a ≡ Some x = sym (b.same a h) ∙ at in
        any_passes_from_place (λ (o : Seen). outlives m o.label && list_any (is_to_temp m) o.fields) m.store a x there
        (and-more (outlives g x.label) (list_any (is_to_temp g) x.fields) (outlives m x.label) (list_any (is_to_temp m) x.fields) e
        (λ t. sym (outlives-over x.label) ∙ t)
        (λ t. (let n = any-at (is_to_temp g) x.fields t in
        any_passes_from_place (is_to_temp m) x.fields n.0 n.1.0 n.1.1 (sym (temp-over n.1.0 (b.fields a x n.0 n.1.0 h there n.1.1)) ∙ n.1.2)))))
    | inr n ↦ (let is = gone-is (slice_get m.store a) (sym (b.others a n) ∙ at) in
        off (sym (ap (λ (o : Seen). list_any (is_to_temp g) o.fields) is) ∙ and-right (outlives g x.label) (list_any (is_to_temp g) x.fields) e))
  ]
    where
      gone-is : (s : Option Seen) → option_map (λ (q : Seen). gone) s ≡ Some x → x ≡ gone
      gone-is None e = none-some x e
      gone-is (Some q) e = sym (same_Some gone x e)

  slots-temp : list_any (λ (f : Frame). list_any (is_to_temp g) f.slots) m.frames ≡ true
      → list_any (λ (f : Frame). list_any (is_to_temp m) f.slots) m.frames ≡ true
  slots-temp e =
      let n = any-at (λ (f : Frame). list_any (is_to_temp g) f.slots) m.frames e in
      let k = any-at (is_to_temp g) n.1.0.slots n.1.2 in
      any_passes_from_place (λ (f : Frame). list_any (is_to_temp m) f.slots) m.frames n.0 n.1.0 n.1.1
      (any_passes_from_place (is_to_temp m) n.1.0.slots k.0 k.1.0 k.1.1 (sym (temp-over k.1.0 (b.slots n.0 n.1.0 k.0 k.1.0 n.1.1 k.1.1)) ∙ k.1.2))

  temps-over : temps_may_go m ≡ true → temps_may_go g ≡ true
  temps-over e = and-more (not (list_any (λ (f : Frame). list_any (is_to_temp m) f.slots) m.frames))
      (not (list_any (λ (o : Seen). outlives m o.label && list_any (is_to_temp m) o.fields) m.store))
      (not (list_any (λ (f : Frame). list_any (is_to_temp g) f.slots) m.frames))
      (not (list_any (λ (o : Seen). outlives g o.label && list_any (is_to_temp g) o.fields) store)) e
      (not-more (list_any (λ (f : Frame). list_any (is_to_temp m) f.slots) m.frames)
      (list_any (λ (f : Frame). list_any (is_to_temp g) f.slots) m.frames) slots-temp)
      (not-more (list_any (λ (o : Seen). outlives m o.label && list_any (is_to_temp m) o.fields) m.store)
      (list_any (λ (o : Seen). outlives g o.label && list_any (is_to_temp g) o.fields) store)
      (λ t. (let n = any-at (λ (o : Seen). outlives g o.label && list_any (is_to_temp g) o.fields) store t in
      fields-temp n.0 n.1.0 n.1.1 n.1.2)))

  -- the owner of a window's region

  value-leads : (n s : ℕ) → leads_to held (value_at m (place.Var n s)) ≡ true
  value-leads n s = by (slice_get (reverse m.frames) n) refl
    where
      of : (f : Frame) (j : ℕ) → slice_get m.frames j ≡ Some f → (o : Option Val) → slice_get f.slots s ≡ o
          → leads_to held (unwrap_or o val.Nil) ≡ true
      of f j at None e = refl
      of f j at (Some v) e = b.slots j f s v at e

      by : (o : Option Frame) → slice_get (reverse m.frames) n ≡ o
          → leads_to held (elim o [ None ↦ val.Nil | Some f ↦ unwrap_or (slice_get f.slots s) val.Nil ]) ≡ true
      by None e = refl
      by (Some f) e = let h = reverse-back m.frames n f e in of f h.0 h.1 (slice_get f.slots s) refl

  place-over : (ws : List Window) (r : ℕ) (o : Option Place) → OwnerHeld held m.store ws o
      → elim o [ None ↦ false | Some p ↦ is_into m.store r (value_at m p) ] ≡ true
      → elim o [ None ↦ false | Some p ↦ is_into store r (value_at g p) ] ≡ true
  place-over ws r None h e = off e
  place-over ws r (Some (place.Var n s)) h e = into-over r (value_at m (place.Var n s)) (value-leads n s) ∙ e
  place-over ws r (Some (place.Field a k)) h e =
      let is : value_at m (place.Field a k) ≡ field_of h.1.0 k
      = ap (λ (o : Option Seen). elim o [ None ↦ val.Nil | Some o ↦ field_of o k ]) h.1.1 in
      let also : value_at g (place.Field a k) ≡ field_of h.1.0 k
      = ap (λ (o : Option Seen). elim o [ None ↦ val.Nil | Some o ↦ field_of o k ]) (b.same a h.0 ∙ h.1.1) in
      ap (is_into store r) also ∙ into-over r (field_of h.1.0 k) (field-leads a h.1.0 k h.0 h.1.1)
      ∙ ap (is_into m.store r) (sym is) ∙ e

  leads-over : owner_leads m ≡ true → owner_leads g ≡ true
  leads-over e = by m.windows b.owners e
    where
      at : (ws us : List Window) (r : ℕ) (o : Option Place) → OwnerHeld held m.store us o
          → elim o [ None ↦ false | Some p ↦ is_into m.store r (value_at (record m { windows = ws }) p) ] ≡ true
          → elim o [ None ↦ false | Some p ↦ is_into store r (value_at (record g { windows = ws }) p) ] ≡ true
      at ws us r None h e = off e
      at ws us r (Some (place.Var n s)) h e = place-over us r (Some (place.Var n s)) h e
      at ws us r (Some (place.Field a k)) h e = place-over us r (Some (place.Field a k)) h e

      by : (ws : List Window) → OwnersHeld held m.store ws → owner_leads (record m { windows = ws }) ≡ true
          → owner_leads (record g { windows = ws }) ≡ true
      by [] o e = refl
      by (w ∷ []) o e = refl
      by (w ∷ v ∷ ws) o e = at (w ∷ v ∷ ws) (v ∷ ws) w.region w.owner o.0 e

-- the topmost frame's slots may end
beside-end : (held : ℕ → Truth) (store : List Seen) (managers : List Manager) (m : Machine) (s : ℕ) → Beside held store managers m
    → Beside held store managers (end_slots m s)
beside-end held store managers m s b = record {
  made = b.made;
  objects = b.objects;
  same = b.same;
  others = b.others;
  slots = λ n h j v there at. elim (slots-back m.frames _ n h j v there at) [
    | inl top ↦ elim (ended-back (top_slots m.frames) s _ j val.Nil v top.1) [
      | inl nil ↦ ap (leads_to held) nil
      | inr old ↦ (let q = top-slot m.frames j v old.0 in b.slots 0 q.0 j v q.1 q.2)
    ]
    | inr old ↦ b.slots n old.0 j v old.1 old.2
  ];
  fields = b.fields;
  owners = b.owners;
}

module _ (held : ℕ → Truth) (store : List Seen) (managers : List Manager) (m : Machine) (b : Beside held store managers m) where
  abbrev f : Machine
  f = over store managers m

  -- a test of the topmost value, and one of the object to which a value leads

  top-more : (stack : List Val) (t s : Val → List Val → Truth) → AllLead held stack → of_top stack t ≡ true
      → ((v : Val) (rest : List Val) → leads_to held v ≡ true → AllLead held rest → t v rest ≡ true → s v rest ≡ true) → of_top stack s ≡ true
  top-more [] t s a e h = refl
  top-more (v ∷ rest) t s a e h = h v rest a.0 a.1 e

  object-more : (v : Val) (t s : Seen → Truth) → leads_to held v ≡ true → of_object m v t ≡ true
      → ((o : Seen) → ((k : ℕ) → leads_to held (field_of o k) ≡ true) → t o ≡ true → s o ≡ true) → of_object f v s ≡ true
  object-more v t s l e h =
      ap (λ (r : Result Seen Trap). elim r [ Ok o ↦ s o | Err k ↦ true ]) (object-over held store managers m b v l)
      ∙ by (object_at m.store v) refl e
    where
      by : (r : Result Seen Trap) → object_at m.store v ≡ r → elim r [ Ok o ↦ t o | Err k ↦ true ] ≡ true
          → elim r [ Ok o ↦ s o | Err k ↦ true ] ≡ true
      by (Ok o) at e = h o (λ k. object-leads held store managers m b v o k l at) e
      by (Err k) at e = refl

  once : owned_once m ≡ true → owned_once f ≡ true
  once = once-over held store managers m b

  -- once the topmost window is gone, no more places lead into its region, and its owner's may be written as well
  seen-more : (s : ℕ) → seen_by_owner m s ≡ true → seen_by_owner f s ≡ true
  seen-more s e = and-more (owned_alone m s) (owner_near m) (owned_alone f s) (owner_near f) e
      (fewer (places_into (left f s) (top_region m.windows)) (places_into (left m s) (top_region m.windows)) 1 places)
      (near-over held store managers m b)
    where
      places : places_into (left f s) (top_region m.windows) ≤ places_into (left m s) (top_region m.windows)
      places =
          let end = beside-end held store managers m s b in
          let slots = slots-less held store managers (end_slots m s) end (top_region m.windows) in
          let fields = fields-less held store managers (end_slots m s) end (without_top m.windows) (top_region m.windows) in
          omega (arith, slots, fields)

  owns : (v : Val) → leads_to held v ≡ true → owns_or_nil m v ≡ true → owns_or_nil f v ≡ true
  owns v l e = owns-over held store managers m b v l ∙ e

  slot-owns : (s : ℕ) → owns_or_nil m (slot_at m s) ≡ true → owns_or_nil f (slot_at m s) ≡ true
  slot-owns s = owns (slot_at m s) (slot-leads held store managers m b s)

  shut : (v : Val) → leads_to held v ≡ true → not (is_closed m v) ≡ true → not (is_closed f v) ≡ true
  shut v l e = not-closed-over held store managers m b v l ∙ e

  slot-shut : (s : ℕ) → not (is_closed m (slot_at m s)) ≡ true → not (is_closed f (slot_at m s)) ≡ true
  slot-shut s = shut (slot_at m s) (slot-leads held store managers m b s)

  field-may : (k : ℕ) (o : Seen) → is_field m k o ≡ true → is_field f k o ≡ true
  field-may k o e = is-field-over held store managers m b k o ∙ e

  let-go : (v : Val) → leads_to held v ≡ true → loose m v ≡ true → loose f v ≡ true
  let-go = loose-over held store managers m b

  may-keep : (s : ℕ) (v : Val) → leads_to held v ≡ true → may_keep m s v ≡ true → may_keep f s v ≡ true
  may-keep s v l e = keep-over held store managers m b s v l ∙ e

  -- what a slot owns is on the stack
  clear-more : (s : ℕ) (stack : List Val) → AllLead held stack
      → elim (closed_into m (slot_at m s)) [ None ↦ true | Some r ↦ list_any (is_into m.store r) stack ] ≡ true
      → elim (closed_into f (slot_at m s)) [ None ↦ true | Some r ↦ list_any (is_into store r) stack ] ≡ true
  clear-more s stack a e = ap (λ (o : Option ℕ). elim o [ None ↦ true | Some r ↦ list_any (is_into store r) stack ])
      (closed-over held store managers m b (slot_at m s) (slot-leads held store managers m b s)) ∙ by (closed_into m (slot_at m s)) e
    where
      by : (o : Option ℕ) → elim o [ None ↦ true | Some r ↦ list_any (is_into m.store r) stack ] ≡ true
          → elim o [ None ↦ true | Some r ↦ list_any (is_into store r) stack ] ≡ true
      by None e = refl
      by (Some r) e = any-over held store managers m b (is_into store r) (is_into m.store r) stack (into-over held store managers m b r) a ∙ e

  -- none on the stack leads into a closed region
  stack-shut : (stack : List Val) → AllLead held stack → not (list_any (is_closed m) stack) ≡ true → not (list_any (is_closed f) stack) ≡ true
  stack-shut stack a e =
      ap not (any-over held store managers m b (is_closed f) (is_closed m) stack (is-closed-over held store managers m b) a) ∙ e

  -- a value may be written into the object to which another leads
  put-more : (at : Seen → ℕ) (v r : Val) → leads_to held v ≡ true → leads_to held r ≡ true
      → elim (object_at m.store r) [
        | Ok o ↦ is_field m (at o) o && not (is_closed m (field_of o (at o))) && may_stand m o.label v
        | Err t ↦ false
      ] ≡ true
      → elim (object_at store r) [
        | Ok o ↦ is_field f (at o) o && not (is_closed f (field_of o (at o))) && may_stand f o.label v
        | Err t ↦ false
      ] ≡ true
  put-more at v r l h e = ap (λ (q : Result Seen Trap). elim q [
    | Ok o ↦ is_field f (at o) o && not (is_closed f (field_of o (at o))) && may_stand f o.label v
    | Err t ↦ false
  ]) (object-over held store managers m b r h) ∙ by (object_at m.store r) refl e
    where
      by : (q : Result Seen Trap) → object_at m.store r ≡ q
          → elim q [ Ok o ↦ is_field m (at o) o && not (is_closed m (field_of o (at o))) && may_stand m o.label v | Err t ↦ false ] ≡ true
          → elim q [ Ok o ↦ is_field f (at o) o && not (is_closed f (field_of o (at o))) && may_stand f o.label v | Err t ↦ false ] ≡ true
      by (Ok o) there e = and-more _ _ _ _ e (λ e. and-more _ _ _ _ e (field-may (at o) o)
          (shut (field_of o (at o)) (object-leads held store managers m b r o (at o) h there))) (λ e. stand-over held store managers m b o.label v l ∙ e)
      by (Err t) there e = off e

  -- the result of a frame, or one that nobody takes
  gone-more : (stack : List Val) → AllLead held stack → of_top stack (λ v rest. is_empty rest && owned_once m && loose m v) ≡ true
      → of_top stack (λ v rest. is_empty rest && owned_once f && loose f v) ≡ true
  gone-more stack a e = top-more stack (λ v rest. is_empty rest && owned_once m && loose m v)
      (λ v rest. is_empty rest && owned_once f && loose f v) a e
      (λ v rest l a e. and-more _ _ _ _ e (λ e. and-more _ _ _ _ e (λ e. e) once) (let-go v l))

  -- a region that is given up whole
  whole-more : (s : ℕ) (stack : List Val) → AllLead held stack
      → (not (list_any (is_closed m) stack) && owned_once m && owns_or_nil m (slot_at m s)) ≡ true
      → (not (list_any (is_closed f) stack) && owned_once f && owns_or_nil f (slot_at m s)) ≡ true
  whole-more s stack a e = and-more _ _ _ _ e (λ e. and-more _ _ _ _ e (stack-shut stack a) once) (slot-owns s)

  -- the topmost window may end
  leave-more : (s : ℕ) (stack : List Val) → may_leave stack m s ≡ true → may_leave stack f s ≡ true
  leave-more s stack e =
      let below = nat_le (place_of m.frames s) (top_base m.windows) in
      and-more (is_empty stack && owned_once m && temps_may_go (end_slots m s) && owner_leads (end_slots m s)) below
      (is_empty stack && owned_once f && temps_may_go (end_slots f s) && owner_leads (end_slots f s)) below e
      (λ e. and-more _ _ _ _ e (λ e. and-more _ _ _ _ e (λ e. and-more _ _ _ _ e (λ e. e) once)
      (temps-over held store managers (end_slots m s) (beside-end held store managers m s b)))
      (leads-over held store managers (end_slots m s) (beside-end held store managers m s b))) (λ e. e)

  -- what is given lies where it lay
  into-more : (s : ℕ) → (is_nil_value (slot_at m s) || is_into m.store (top_region m.windows) (slot_at m s)) ≡ true
      → (is_nil_value (slot_at m s) || is_into store (top_region m.windows) (slot_at m s)) ≡ true
  into-more s e = ap (λ t. is_nil_value (slot_at m s) || t)
      (into-over held store managers m b (top_region m.windows) (slot_at m s) (slot-leads held store managers m b s)) ∙ e

  needs-over : (code : Code) (o : Op) (stack : List Val) → AllLead held stack → needs code o stack m ≡ true → needs code o stack f ≡ true
  needs-over code (i.Clear s) stack a e = and-more _ _ _ _ e once (clear-more s stack a)
  needs-over code (i.Store s) stack a e = top-more stack _ _ a e (λ v rest l a e. and-more _ _ _ _ e
      (λ e. and-more _ _ _ _ e (λ e. e) (slot-shut s)) (may-keep s v l))
  needs-over code (i.Own s) stack a e = top-more stack _ _ a e (λ v rest l a e. and-more _ _ _ _ e (λ e. and-more _ _ _ _ e
      (λ e. and-more _ _ _ _ e (λ e. and-more _ _ _ _ e (λ e. e) once) (slot-owns s)) (let-go v l)) (may-keep s v l))
  needs-over code (i.Field k) stack a e =
      top-more stack _ _ a e (λ v rest l a e. object-more v _ _ l e (λ o h e. and-more _ _ _ _ e (λ e. e) (shut v l)))
  needs-over code (i.JumpFalse t) stack a e = top-more stack _ _ a e (λ v rest l a e. shut v l e)
  needs-over code (i.Put k) stack a e = top-more stack _ _ a e (λ v rest l a e. top-more rest _ _ a e
      (λ r under h a e. and-more _ _ _ _ e (λ e. e) (put-more (λ o. k) v r l h)))
  needs-over code (i.Swap s k) stack a e = top-more stack _ _ a e (λ r rest l a e. and-more _ _ _ _ e (λ e. e)
      (λ e. object-more r _ _ l e (λ o h e. and-more _ _ _ _ e (λ e. and-more _ _ _ _ e
      (λ e. and-more _ _ _ _ e once (field-may k o)) (owns (field_of o k) (h k))) (slot-owns s))))
  needs-over code (i.Freeze s) stack a e = whole-more s stack a e
  needs-over code (i.Merge s) stack a e = whole-more s stack a e
  needs-over code i.Ret stack a e = gone-more stack a e
  needs-over code i.RetVoid stack a e = and-more _ _ _ _ e (λ e. e) once
  needs-over code (i.Enter s z) stack a e = and-more _ _ _ _ e (λ e. and-more _ _ _ _ e
      (λ e. and-more _ _ _ _ e (λ e. e) once) (slot-owns s)) (slot-shut z)
  needs-over code (i.EnterField k z) stack a e = top-more stack _ _ a e (λ r rest l a e. and-more _ _ _ _ e (λ e. e)
      (λ e. object-more r _ _ l e (λ o h e. and-more _ _ _ _ e (λ e. and-more _ _ _ _ e
      (λ e. and-more _ _ _ _ e once (field-may k o)) (owns (field_of o k) (h k))) (slot-shut z))))
  needs-over code (i.Leave s) stack a e = leave-more s stack e
  needs-over code (i.End s) stack a e = and-more _ _ _ _ e (λ e. e) once
  needs-over code i.Print stack a e = top-more stack _ _ a e (λ v rest l a e. and-more _ _ _ _ e (λ e. e) (shut v l))
  needs-over code i.Pop stack a e = gone-more stack a e
  needs-over code i.Drop stack a e = gone-more stack a e
  needs-over code (i.NewArray c) stack a e = top-more stack _ _ a e (λ v rest l a e. and-more _ _ _ _ e (λ e. e) (shut v l))
  needs-over code (i.NewTmpArray c) stack a e = top-more stack _ _ a e (λ v rest l a e. and-more _ _ _ _ e (λ e. e) (shut v l))
  needs-over code (i.NewIsoArray c g) stack a e = top-more stack _ _ a e (λ v rest l a e. and-more _ _ _ _ e (λ e. e) (shut v l))
  needs-over code i.Size stack a e = top-more stack _ _ a e (λ v rest l a e. shut v l e)
  needs-over code i.Element stack a e = top-more stack _ _ a e (λ v rest l a e. top-more rest _ _ a e
      (λ r under h a e. and-more _ _ _ _ e (λ e. and-more _ _ _ _ e (shut v l) (shut r h)) (λ e. object-more r _ _ h e (λ o k e. e))))
  needs-over code i.PutElement stack a e = top-more stack _ _ a e (λ v rest l a e. top-more rest _ _ a e
      (λ x below k a e. top-more below _ _ a e (λ r under h a e. and-more _ _ _ _ e
      (λ e. and-more _ _ _ _ e (λ e. e) (shut x k)) (put-more (λ o. place_named o x) v r l h))))
  needs-over code (i.LeaveGiving v s) stack a e = and-more _ _ _ _ e (λ e. and-more _ _ _ _ e (leave-more s stack) (into-more v))
      (seen-more s)
  needs-over code _ stack a e = e

-- what the two share
beside : (held : ℕ → Truth) (owners : List Val) (f m : Machine) (stack : List Val) → Part held owners f m stack
    → Beside held f.store f.managers m
beside held owners f m stack p = record {
  made = p.managers_made;
  objects = p.objects_made;
  same = p.same;
  others = p.others;
  slots = p.slots;
  fields = p.fields;
  owners = p.window_owners;
}

pub needs-same : NeedsSame
needs-same code o owners stack u w match e =
    let p = match.1.machine in
    let f = u.machine in
    let m = w.machine in
    subst (λ n. needs code o stack (record f { windows_made = n }) ≡ true) (sym p.windows_made)
    (subst (λ n. needs code o stack (record f { windows_made = m.windows_made; at = n }) ≡ true) (sym p.at)
    (subst (λ ws. needs code o stack (record f { windows = ws; windows_made = m.windows_made; at = m.at }) ≡ true) (sym p.windows)
    (subst (λ fs. needs code o stack (record f { frames = fs; windows = m.windows; windows_made = m.windows_made; at = m.at }) ≡ true) (sym p.frames)
    (needs-over match.0 f.store f.managers m (beside match.0 owners f m stack p) code o stack p.on_stack e))))
