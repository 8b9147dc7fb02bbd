-- Regions whose objects get another label.
use Rattle.std.proofs.Common.{◌≡◌, ℕ, ◌⊎◌, inl, inr, true, false, true≢false, not, Bool as Truth, List}
use Rattle.std.proofs.Common.{Option, Some, None, option_and_then, option_map, refl, sym, ap, ◌∙◌, arith, slice_get}
use Rattle.std.specs.Prelude.{nat_lt, if◌then◌else◌}
use Rattle.std.proofs.lemmas.List.{length-map}
use Rattle.std.proofs.lemmas.Option.{slice_get-map, same_Some}
use Rattle.std.proofs.lemmas.Bool.{cases_Bool, ne_eqb}
use Rattle.std.proofs.lemmas.Map.Keys.{any_passes_from_place}
use Rattle.rg_base.specs.declared.object.Label.{Label}
use Rattle.rg_base.specs.declared.object.Label.TheVariants.{Region, Temp, Frozen}
use Rattle.rg_base.specs.declared.object.Seen.{Seen}
use Rattle.rg_base.specs.declared.value.Val.{Val}
use Rattle.rg_base.specs.declared.value.Val.TheVariants as val
use Rattle.rg_rules.specs.Regions.{in_regions, relabelled_object, relabelled}
use Rattle.rg_sound.proofs.Stores.Member.{In, among-in}
use Rattle.rg_stack.specs.Machine.{Window, Machine}
use Rattle.rg_stack.specs.Labels.{is_open, label_of, is_into, is_outside}
use Rattle.rg_stack.proofs.Basics.{none-some}
use Rattle.rg_held.specs.Gone.{gone}
use Rattle.rg_held.specs.Part.{leads_to, Placed, Tidy, Part, is_of, OwnersHeld, may_lead}
use Rattle.rg_held.proofs.Parts.Half.{around-objects, tidy-objects, whole}
use Rattle.rg_held.proofs.Parts.Part.{owners-over, slot-over}
use Rattle.rg_held.proofs.Lists.{off, any-at}
use Rattle.rg_held.proofs.Places.{clash, into-label, label-into}

-- a label behind it
abbrev pub other_label : List ℕ → Label → Label → Label
other_label rs new l = if in_regions rs l then new else l

-- a label of an object that is not in a closed region any more
abbrev pub Leaves : Machine → Label → Type 0
Leaves m (Region t) = is_open m.windows t ≡ true
Leaves m (Temp n) = ⊥
Leaves m Frozen = Unit {0}

module _ (held : ℕ → Truth) (owners : List Val) (f m : Machine) (stack : List Val) (p : Part held owners f m stack) (rf rs : List ℕ) (new : Label)
    (leaves : Leaves m new) (shut : (q : ℕ) → In q rs → is_open m.windows q ≡ false)
    (agree : (a : ℕ) (o : Seen) → held a ≡ true → slice_get m.store a ≡ Some o → in_regions rf o.label ≡ in_regions rs o.label) where
  abbrev store : List Seen
  store = relabelled rs new m.store

  abbrev next : Machine
  next = record m { store = store }

  at-map : (a : ℕ) → slice_get store a ≡ option_map (relabelled_object rs new) (slice_get m.store a)
  at-map a = slice_get-map (relabelled_object rs new) m.store a

  label-is : (b : Truth) (o : Seen) → (if b then record o { label = new } else o).label ≡ (if b then new else o.label)
  label-is true o = refl
  label-is false o = refl

  fields-are : (b : Truth) (o : Seen) → (if b then record o { label = new } else o).fields ≡ o.fields
  fields-are true o = refl
  fields-are false o = refl

  -- an object as it was before
  pub record Was (a : ℕ) (h : Seen) : Type 0 where
    pub before : Seen
    pub found : slice_get m.store a ≡ Some before
    pub label : h.label ≡ other_label rs new before.label
    pub fields : h.fields ≡ before.fields

  pub was : (a : ℕ) (h : Seen) → slice_get store a ≡ Some h → Was a h
  was a h e = by (slice_get m.store a) refl (sym (at-map a) ∙ e)
    where
      by : (s : Option Seen) → slice_get m.store a ≡ s → option_map (relabelled_object rs new) s ≡ Some h → Was a h
      by None at e = none-some h e
      by (Some o) at e = let same = same_Some (relabelled_object rs new o) h e in record {
        before = o;
        found = at;
        label = ap (λ (q : Seen). q.label) (sym same) ∙ label-is (in_regions rs o.label) o;
        fields = ap (λ (q : Seen). q.fields) (sym same) ∙ fields-are (in_regions rs o.label) o;
      }

  pub label-map : (v : Val) → label_of store v ≡ option_map (other_label rs new) (label_of m.store v)
  label-map val.Nil = refl
  label-map (val.Int z) = refl
  label-map (val.Bool b) = refl
  label-map (val.Obj a) = ap (option_and_then (λ (o : Seen). Some o.label)) (at-map a) ∙ by (slice_get m.store a)
    where
      by : (s : Option Seen) → option_and_then (λ (o : Seen). Some o.label) (option_map (relabelled_object rs new) s)
          ≡ option_map (other_label rs new) (option_and_then (λ (o : Seen). Some o.label) s)
      by None = refl
      by (Some o) = ap Some (label-is (in_regions rs o.label) o)

  -- a region that is closed behind it was before, and none of those that are named
  back : (l : Label) (r : ℕ) → other_label rs new l ≡ Region r → is_open m.windows r ≡ false → (l ≡ Region r) × (in_regions rs l ≡ false)
  back l r e c = by (in_regions rs l) refl e
    where
      no : (k : Label) → Leaves m k → k ≡ Region r → ⊥
      no (Region t) h e = clash (is_open m.windows r)
          (ap (λ (l : Label). elim l [ Region q ↦ is_open m.windows q | Temp n ↦ true | Frozen ↦ true ]) (sym e) ∙ h) c
      no (Temp n) h e = h
      no Frozen h e = true≢false (ap (λ (l : Label). elim l [ Region q ↦ false | Temp n ↦ true | Frozen ↦ true ]) e)

      by : (b : Truth) → in_regions rs l ≡ b → (if b then new else l) ≡ Region r → (l ≡ Region r) × (in_regions rs l ≡ false)
      by true h e = absurd (no new leaves e)
      by false h e = (e, h)

  -- a value that leads into a closed region that isn't named still does
  into-stays : (r : ℕ) (v : Val) → in_regions rs (Region r) ≡ false → is_into m.store r v ≡ true → is_into store r v ≡ true
  into-stays r v other into = label-into store r v (label-map v ∙ ap (option_map (other_label rs new)) (into-label m.store r v into)
      ∙ ap (λ b. Some (if b then new else Region r)) other)

  outside-stays : (r : ℕ) (l : Label) → is_open m.windows r ≡ false → is_outside m.windows r l ≡ true
      → is_outside m.windows r (other_label rs new l) ≡ true
  outside-stays r l c o = by (in_regions rs l)
    where
      of : (k : Label) → Leaves m k → is_outside m.windows r k ≡ true
      of (Region t) h = ap not (ne_eqb t r (λ e. clash (is_open m.windows r) (ap (is_open m.windows) (sym e) ∙ h) c))
      of (Temp n) h = absurd h
      of Frozen h = refl

      by : (b : Truth) → is_outside m.windows r (if b then new else l) ≡ true
      by true = of new leaves
      by false = o

  there-still : (a : ℕ) (o : Seen) → slice_get m.store a ≡ Some o → slice_get store a ≡ Some (relabelled_object rs new o)
  there-still a o e = at-map a ∙ ap (option_map (relabelled_object rs new)) e

  pub relabel-stays : (r : ℕ) → is_open m.windows r ≡ false → in_regions rs (Region r) ≡ false → Placed held m r → Placed held next r
  relabel-stays r c other (inl s) = inl (slot-over m next r s s.holder_there (into-stays r s.value other s.into))
  relabel-stays r c other (inr l) = inr (
    record {
      object = l.0.object;
      field = l.0.field;
      holder = relabelled_object rs new l.0.holder;
      value = l.0.value;
      holder_there = there-still l.0.object l.0.holder l.0.holder_there;
      value_there = ap (λ vs. slice_get vs l.0.field) (fields-are (in_regions rs l.0.holder.label) l.0.holder) ∙ l.0.value_there;
      outside = ap (is_outside m.windows r) (label-is (in_regions rs l.0.holder.label) l.0.holder)
          ∙ outside-stays r l.0.holder.label c l.0.outside;
      into = into-stays r l.0.value other l.0.into;
    },
    l.1,
  )

  window-owners : (ws : List Window) → ((r : ℕ) → is_open ws r ≡ true → is_open m.windows r ≡ true) → OwnersHeld held m.store ws
      → OwnersHeld held store ws
  window-owners ws opened h = owners-over held held m.store store ws (λ vs a o up here at is. (
    here,
    (
      relabelled_object rs new o,
      there-still a o at,
      ap (is_of vs) (label-is (in_regions rs o.label) o ∙ ap (λ b. if b then new else o.label) (stays vs (λ r e. opened r (up r e)) o.label is)) ∙ is,
    ),
  )) h
    where
      stays : (vs : List Window) → ((r : ℕ) → is_open vs r ≡ true → is_open m.windows r ≡ true) → (l : Label) → is_of vs l ≡ true
          → in_regions rs l ≡ false
      stays vs up (Region r) h = elim (cases_Bool (in_regions rs (Region r))) [
        | inl i ↦ clash (is_open m.windows r) (up r h) (shut r (among-in rs r i))
        | inr n ↦ n
      ]
      stays vs up (Temp n) h = refl
      stays vs up Frozen h = off h

  same : (a : ℕ) → held a ≡ true → slice_get (relabelled rf new f.store) a ≡ slice_get store a
  same a h = slice_get-map (relabelled_object rf new) f.store a ∙ ap (option_map (relabelled_object rf new)) (p.same a h)
      ∙ by (slice_get m.store a) refl ∙ sym (at-map a)
    where
      by : (s : Option Seen) → slice_get m.store a ≡ s
          → option_map (relabelled_object rf new) s ≡ option_map (relabelled_object rs new) s
      by None e = refl
      by (Some o) e = ap (λ b. Some (if b then record o { label = new } else o)) (agree a o h e)

  others : (a : ℕ) → held a ≡ false → slice_get (relabelled rf new f.store) a ≡ option_map (λ (q : Seen). gone) (slice_get store a)
  others a h = slice_get-map (relabelled_object rf new) f.store a ∙ ap (option_map (relabelled_object rf new)) (p.others a h)
      ∙ by (slice_get m.store a) ∙ ap (option_map (λ (q : Seen). gone)) (sym (at-map a))
    where
      by : (s : Option Seen) → option_map (relabelled_object rf new) (option_map (λ (q : Seen). gone) s)
          ≡ option_map (λ (q : Seen). gone) (option_map (relabelled_object rs new) s)
      by None = refl
      by (Some o) = refl

  temp-back : (l : Label) (n : ℕ) → other_label rs new l ≡ Temp n → l ≡ Temp n
  temp-back l n e = by (in_regions rs l) e
    where
      no : (k : Label) → Leaves m k → k ≡ Temp n → ⊥
      no (Region t) h e = true≢false (ap (λ (l : Label). elim l [ Region q ↦ true | Temp n ↦ false | Frozen ↦ true ]) e)
      no (Temp k) h e = h
      no Frozen h e = true≢false (ap (λ (l : Label). elim l [ Region q ↦ true | Temp n ↦ false | Frozen ↦ true ]) e)

      by : (b : Truth) → (if b then new else l) ≡ Temp n → l ≡ Temp n
      by true e = absurd (no new leaves e)
      by false e = e

  -- a region's number behind it
  given : (l : Label) (r : ℕ) → other_label rs new l ≡ Region r → (l ≡ Region r) ⊎ (is_open m.windows r ≡ true)
  given l r e = by (in_regions rs l) e
    where
      of : (k : Label) → Leaves m k → k ≡ Region r → is_open m.windows r ≡ true
      of (Region t) h e = ap (λ (l : Label). elim l [ Region q ↦ is_open m.windows q | Temp n ↦ true | Frozen ↦ true ]) (sym e) ∙ h
      of (Temp k) h e = absurd h
      of Frozen h e = absurd (true≢false (ap (λ (l : Label). elim l [ Region q ↦ false | Temp n ↦ true | Frozen ↦ true ]) e))

      by : (b : Truth) → (if b then new else l) ≡ Region r → (l ≡ Region r) ⊎ (is_open m.windows r ≡ true)
      by true e = inr (of new leaves e)
      by false e = inl e

  pub part-relabel : Tidy next → Part held owners (record f { store = relabelled rf new f.store }) next stack
  part-relabel tidy = whole held owners (record f { store = relabelled rf new f.store }) next stack (record {
    around = around-objects held owners f m stack p (relabelled rf new f.store) store;
    held_managers = λ a h r e at lies. (let w = was a h at in elim (given w.before.label r (sym w.label ∙ lies)) [
      | inl old ↦ p.held_managers a w.before r e w.found old
      | inr opened ↦ p.open_managers r opened
    ]);
    objects_made = length-map f.store (relabelled_object rf new) ∙ p.objects_made ∙ sym (length-map m.store (relabelled_object rs new));
    there = λ a e. (let l = p.there a e in let s = length-map m.store (relabelled_object rs new) in omega (arith, l, s));
    same = same;
    others = others;
    temps = λ a h n e at lies. (let w = was a h at in p.temps a w.before n e w.found (temp-back w.before.label n (sym w.label ∙ lies)));
    slots = p.slots;
    on_stack = p.on_stack;
    fields = λ a h k v e at field. (let w = was a h at in
        p.fields a w.before k v e w.found (ap (λ vs. slice_get vs k) (sym w.fields) ∙ field));
    owned = λ a h r e at lies c. (let w = was a h at in let b = back w.before.label r (sym w.label ∙ lies) c in
        let other = sym (ap (in_regions rs) b.0) ∙ b.1 in elim (p.owned a w.before r e w.found b.0 c) [
          | inl placed ↦ inl (relabel-stays r c other placed)
          | inr any ↦
              (let k = any-at (is_into m.store r) owners any in
              inr (any_passes_from_place (is_into store r) owners k.0 k.1.0 k.1.1 (into-stays r k.1.0 other k.1.2)))
        ]);
    window_owners = window-owners m.windows (λ r e. e) p.window_owners;
    tidy = tidy;
  }) (λ a h n e at lies. (let w = was a h at in
      p.lost_temps a w.before n e w.found (temp-back w.before.label n (sym w.label ∙ lies))))

  -- what always holds, where links lead as they may
  pub relabel-tidy : ((a : ℕ) (o : Seen) (k : ℕ) (v : Val) (l : Label) (q : ℕ) → slice_get m.store a ≡ Some o → slice_get o.fields k ≡ Some v
      → label_of m.store v ≡ Some l → other_label rs new o.label ≡ Region q → may_lead m.windows q (other_label rs new l) ≡ true) → Tidy next
  relabel-tidy may = tidy-objects m store p.tidy
      (λ a h r at lies. (let w = was a h at in elim (given w.before.label r (sym w.label ∙ lies)) [
        | inl old ↦ p.tidy.labels a w.before r w.found old
        | inr opened ↦ p.tidy.regions r opened
      ]))
      (λ a h k v at field. (let w = was a h at in ap (λ n. leads_to (λ b. nat_lt b n) v) (length-map m.store (relabelled_object rs new))
      ∙ p.tidy.fields a w.before k v w.found (ap (λ vs. slice_get vs k) (sym w.fields) ∙ field)))
      (λ a h q k v l at lies field is. (let w = was a h at in
      by q v l (label_of m.store v) refl (sym (label-map v) ∙ is) (λ j e. may a w.before k v j q w.found
      (ap (λ vs. slice_get vs k) (sym w.fields) ∙ field) e
      (sym w.label ∙ lies))))
    where
      by : (q : ℕ) (v : Val) (l : Label) (o : Option Label) → label_of m.store v ≡ o → option_map (other_label rs new) o ≡ Some l
          → ((j : Label) → label_of m.store v ≡ Some j → may_lead m.windows q (other_label rs new j) ≡ true) → may_lead m.windows q l ≡ true
      by q v l None e is h = none-some l is
      by q v l (Some j) e is h = ap (may_lead m.windows q) (sym (same_Some (other_label rs new j) l is)) ∙ h j e
