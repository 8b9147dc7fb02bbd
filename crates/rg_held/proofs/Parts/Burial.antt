-- What is freed: the regions beneath those that nothing owns any more, and the temporaries of a window.
use Rattle.std.proofs.Common.{◌≡◌, ℕ, suc, ◌==◌, ◌<◌, ◌⊎◌, inl, inr, true, false, not, Bool as Truth, List, [], ◌∷◌}
use Rattle.std.proofs.Common.{length, Option, Some, None, option_and_then, option_map, refl, sym, ap, subst, ◌∙◌, arith, slice_get}
use Rattle.std.specs.Prelude.{◌||◌, ◌&&◌, if◌then◌else◌}
use Rattle.std.specs.List.{list_any}
use Rattle.std.proofs.lemmas.Option.{slice_get-map, same_Some}
use Rattle.std.proofs.lemmas.List.{length-map}
use Rattle.std.proofs.lemmas.Bool.{not-true, eq-eqb, eqb-true, or_cases, cases_Bool, ne_eqb}
use Rattle.std.proofs.lemmas.Map.Keys.{any_passes_from_place}
use Rattle.rg_base.specs.declared.object.Label.{Label}
use Rattle.rg_base.specs.declared.object.Label.TheVariants.{Region, Temp, Frozen}
use Rattle.rg_base.specs.declared.object.Place.{Place}
use Rattle.rg_base.specs.declared.object.Place.TheVariants as place
use Rattle.rg_base.specs.declared.object.Seen.{Seen}
use Rattle.rg_base.specs.declared.value.Val.{Val}
use Rattle.rg_base.specs.declared.value.Val.TheVariants as val
use Rattle.rg_base.proofs.Callers.Lists.{there as below-get}
use Rattle.rg_rules.specs.Regions.{region_of, region_at, in_regions}
use Rattle.rg_sound.proofs.Stores.Member.{In, among-in, in-among}
use Rattle.rg_stack.specs.Machine.{Frame, Window, Machine}
use Rattle.rg_stack.specs.Effects.{beneath_by_labels}
use Rattle.rg_stack.specs.Labels.{is_open, has_window, label_of, lies_in, is_into, is_outside}
use Rattle.rg_stack.proofs.Basics.{none-some, and-left, and-right, or-left}
use Rattle.rg_stack.proofs.Callers.Lead.{region-label}
use Rattle.rg_held.specs.Frees.{is_temp, buried, bury}
use Rattle.rg_held.specs.Gone.{gone}
use Rattle.rg_held.specs.Part.{leads_to, AllLead, SlotInto, FieldInto, Placed, Part, is_of, OwnerHeld, OwnersHeld}
use Rattle.rg_held.proofs.Lists.{off}
use Rattle.rg_held.proofs.Places.{or-right, clash, field-into, open-more, slot-into}
use Rattle.rg_held.proofs.Places.{label-there, into-back, region-into}
use Rattle.rg_held.proofs.Callers.Beneath.{Link, AllLinks, beneath-links, beneath-first, beneath-all, beneath-from}
use Rattle.rg_held.proofs.Parts.Part.{shut-above, open-region}
use Rattle.rg_held.proofs.Parts.Half.{Half, around-objects, whole}

-- whether an object is freed
abbrev pub is_buried : (regions : List ℕ) → (temps : Option ℕ) → Seen → Truth
is_buried regions temps o = in_regions regions o.label || is_temp temps o.label

-- what is held behind a burial
abbrev pub left_held : (ℕ → Truth) → List Seen → (regions : List ℕ) → (temps : Option ℕ) → ℕ → Truth
left_held held store regions temps a = held a && elim (slice_get store a) [ None ↦ false | Some o ↦ not (is_buried regions temps o) ]

in-label : (rs : List ℕ) (l : Label) → in_regions rs l ≡ true → (r : ℕ) × (l ≡ Region r) × In r rs
in-label rs (Region r) e = (r, refl, among-in rs r e)
in-label rs (Temp n) e = off e
in-label rs Frozen e = off e

pub temp-label : (t : Option ℕ) (l : Label) → is_temp t l ≡ true → (n : ℕ) × (t ≡ Some n) × (l ≡ Temp n)
temp-label None l e = off e
temp-label (Some n) (Region r) e = off e
temp-label (Some n) (Temp k) e = (n, refl, ap Temp (eqb-true k n e))
temp-label (Some n) Frozen e = off e

gone-buried : (rs : List ℕ) (t : Option ℕ) → buried rs t gone ≡ gone
gone-buried rs t = by (is_buried rs t gone)
  where
    by : (b : Truth) → (if b then gone else gone) ≡ gone
    by true = refl
    by false = refl

pub same-region : (q r : ℕ) → Region q ≡ Region r → q ≡ r
same-region q r e = ap (λ (l : Label). elim l [ Region q ↦ q | Temp k ↦ q | Frozen ↦ q ]) e

-- of two places, one of which is a field
pub record Alone (m : Machine) (q : ℕ) : Type 0 where
  pub slot_field : SlotInto m q → FieldInto m q → ⊥
  pub field_field : (a b : FieldInto m q) → a.object ≡ b.object

module _ (held : ℕ → Truth) (owners : List Val) (f m : Machine) (stack : List Val) (p : Part held owners f m stack) where
  -- a link of the machine that frees is one of the other machine, from an object that is held
  abbrev pub link-held : (q r : ℕ) → Link f.store q r → (l : Link m.store q r) × (held l.object ≡ true)
  link-held q r l =
      let here = open-region held owners f m stack p l.object l.holder q l.there l.lies in
      let there = sym (p.same l.object here) ∙ l.there in
      let to = p.fields l.object l.holder l.field (val.Obj l.address) here there l.value in (
        record {
          object = l.object;
          holder = l.holder;
          there = there;
          lies = l.lies;
          field = l.field;
          address = l.address;
          value = l.value;
          leads = ap (option_and_then (λ (o : Seen). region_of o.label)) (sym (p.same l.address to)) ∙ l.leads;
        },
        here,
      )

  -- the other way round, where the object is held
  pub held-link : (q r : ℕ) (l : Link m.store q r) → held l.object ≡ true → Link f.store q r
  held-link q r l here =
      let to = p.fields l.object l.holder l.field (val.Obj l.address) here l.there l.value in
      record {
        object = l.object;
        holder = l.holder;
        there = p.same l.object here ∙ l.there;
        lies = l.lies;
        field = l.field;
        address = l.address;
        value = l.value;
        leads = ap (option_and_then (λ (o : Seen). region_of o.label)) (p.same l.address to) ∙ l.leads;
      }

  -- a link from a closed region leads to a closed one
  pub closed-link : (q r : ℕ) → is_open m.windows q ≡ false → Link m.store q r → is_open m.windows r ≡ false
  closed-link q r c l = elim (or_cases (r == q) _ (p.tidy.inside l.object l.holder q l.field (val.Obj l.address) (Region r) l.there l.lies l.value
      (region-label m.store l.address r l.leads))) [
        | inl same ↦ ap (is_open m.windows) (eqb-true r q same) ∙ c
        | inr shut ↦ shut-above m.windows r q shut c
      ]

  -- regions that the machine that frees has objects of are given
  pub region-given : (b r : ℕ) → region_at f.store b ≡ Some r → r < length f.managers
  region-given b r e = by (slice_get f.store b) refl e
    where
      of : (o : Seen) (l : Label) → o.label ≡ l → slice_get f.store b ≡ Some o → region_of l ≡ Some r → r < length f.managers
      of o (Region q) lies there e =
          let here = open-region held owners f m stack p b o q there lies in
          let less = p.tidy.labels b o q (sym (p.same b here) ∙ there) lies in
          let is = same_Some q r e in
          let made = p.managers_made in omega (arith, less, is, made)
      of o (Temp n) lies there e = none-some r e
      of o Frozen lies there e = none-some r e

      by : (o : Option Seen) → slice_get f.store b ≡ o → option_and_then (λ (o : Seen). region_of o.label) o ≡ Some r → r < length f.managers
      by None h e = none-some r e
      by (Some o) h e = of o o.label refl h e

  -- a link from another region is a field from outside
  abbrev pub link-field : (q r : ℕ) → (q ≡ r → ⊥) → Link m.store q r → FieldInto m r
  link-field q r other l =
      field-into l.object l.field l.holder (val.Obj l.address) l.there l.value
      (ap (is_outside m.windows r) l.lies ∙ ap not (ne_eqb q r other))
      (ap (λ (o : Option Label). elim o [ None ↦ false | Some l ↦ lies_in r l ]) (region-label m.store l.address r l.leads) ∙ eq-eqb r r refl)

  module _ (regions : List ℕ) (temps : Option ℕ) where
    -- all that is freed
    abbrev pub freed : List ℕ
    freed = beneath_by_labels f.store (length f.managers) regions

    pub freed-links : AllLinks f.store freed
    freed-links = beneath-links f.store (length f.managers) region-given regions

    pub freed-closed : ((q : ℕ) → In q regions → is_open m.windows q ≡ false) → (q : ℕ) → In q freed → is_open m.windows q ≡ false
    freed-closed closed q i = beneath-all f.store (λ q. is_open m.windows q ≡ false) regions closed
        (λ a b c l. closed-link a b c (link-held a b l).0) (length f.managers) q i

    -- what is freed was given up, or a field from outside, of an object that is freed too, leads into it
    pub freed-from : (q : ℕ) → In q freed
        → In q regions ⊎ ((r : ℕ) × In r freed × ((l : FieldInto m q) × (l.holder.label ≡ Region r)))
    freed-from q i = elim (beneath-from f.store (length f.managers) regions q i) [
      | inl given ↦ inl given
      | inr h ↦ (let l = (link-held h.0 q h.2).0 in inr (h.0, h.1, (link-field h.0 q h.3 l, l.lies)))
    ]

-- the lower windows haven't the number
abbrev pub NotBelow : List Window → ℕ → Type 0
NotBelow [] n = Unit {0}
NotBelow (w ∷ ws) n = has_window ws n ≡ false

not-below : (ws : List Window) (n : ℕ) → has_window ws n ≡ false → NotBelow ws n
not-below [] n e = tt
not-below (w ∷ ws) n e = or-right (w.number == n) (has_window ws n) e

-- what may be freed: nothing that stays leads there
pub record Burial (held : ℕ → Truth) (owners : List Val) (m : Machine) (stack : List Val) (regions : List ℕ) (temps : Option ℕ) (kept : List Val) :
    Type 0 where
  pub closed : (q : ℕ) → In q regions → is_open m.windows q ≡ false
  pub alone : (q : ℕ) → is_open m.windows q ≡ false → Alone m q
  pub no_slot : (q : ℕ) → In q regions → SlotInto m q → ⊥
  pub no_field : (q : ℕ) → In q regions → (l : FieldInto m q) → is_temp temps l.holder.label ≡ false → ⊥
  pub stack_free : (q : ℕ) → is_open m.windows q ≡ false → list_any (is_into m.store q) stack ≡ true → (In q regions → ⊥) × (FieldInto m q → ⊥)
  pub temps_owned : (q : ℕ) → is_open m.windows q ≡ false → (l : FieldInto m q) → held l.object ≡ true → is_temp temps l.holder.label ≡ true
      → In q regions
  pub slots_stay : (n : ℕ) (h : Frame) (s : ℕ) (v : Val) (k : ℕ) → slice_get m.frames n ≡ Some h → slice_get h.slots s ≡ Some v → temps ≡ Some k
      → label_of m.store v ≡ Some (Temp k) → ⊥
  pub fields_stay : (a : ℕ) (o : Seen) (i : ℕ) (v : Val) (k : ℕ) → held a ≡ true → slice_get m.store a ≡ Some o
      → is_temp temps o.label ≡ false → slice_get o.fields i ≡ Some v → temps ≡ Some k → label_of m.store v ≡ Some (Temp k) → ⊥
  pub stack_stays : (i : ℕ) (v : Val) (k : ℕ) → slice_get stack i ≡ Some v → temps ≡ Some k → label_of m.store v ≡ Some (Temp k) → ⊥
  pub windows_stay : (k : ℕ) → temps ≡ Some k → NotBelow m.windows k
  pub owners_given : (q : ℕ) → is_open m.windows q ≡ false → list_any (is_into m.store q) owners ≡ true
      → In q regions ⊎ (Placed held m q ⊎ (list_any (is_into m.store q) kept ≡ true))

module _ (held : ℕ → Truth) (owners : List Val) (f m : Machine) (stack : List Val) (p : Part held owners f m stack) (regions : List ℕ)
    (temps : Option ℕ) (kept : List Val) (b : Burial held owners m stack regions temps kept) where
  abbrev pub all : List ℕ
  all = beneath_by_labels f.store (length f.managers) regions

  abbrev pub left : ℕ → Truth
  left = left_held held m.store all temps

  from : (q : ℕ) → In q all → In q regions ⊎ ((r : ℕ) × In r all × ((l : FieldInto m q) × (l.holder.label ≡ Region r)))
  from = freed-from held owners f m stack p regions temps

  shut : (q : ℕ) → In q all → is_open m.windows q ≡ false
  shut = freed-closed held owners f m stack p regions temps b.closed

  was-held : (a : ℕ) → left a ≡ true → held a ≡ true
  was-held a e = and-left (held a) _ e

  stays : (a : ℕ) (o : Seen) → left a ≡ true → slice_get m.store a ≡ Some o → is_buried all temps o ≡ false
  stays a o e there = not-true (is_buried all temps o)
      (sym (ap (λ (s : Option Seen). elim s [ None ↦ false | Some o ↦ not (is_buried all temps o) ]) there) ∙ and-right (held a) _ e)

  still : (a : ℕ) (o : Seen) → held a ≡ true → slice_get m.store a ≡ Some o → is_buried all temps o ≡ false → left a ≡ true
  still a o h there n = ap (λ t. t && elim (slice_get m.store a) [ None ↦ false | Some o ↦ not (is_buried all temps o) ]) h
      ∙ ap (λ (s : Option Seen). elim s [ None ↦ false | Some o ↦ not (is_buried all temps o) ]) there ∙ ap not n

  -- what leads neither to a freed region nor to a freed temporary still leads to what is held
  leads : (v : Val) → leads_to held v ≡ true → ((q : ℕ) → In q all → is_into m.store q v ≡ true → ⊥)
      → ((k : ℕ) → temps ≡ Some k → label_of m.store v ≡ Some (Temp k) → ⊥) → leads_to left v ≡ true
  leads val.Nil h no_region no_temp = refl
  leads (val.Int z) h no_region no_temp = refl
  leads (val.Bool t) h no_region no_temp = refl
  leads (val.Obj a) h no_region no_temp =
      let o = below-get m.store a (p.there a h) in still a o.0 h o.1 (by (is_buried all temps o.0) o.0 o.1 refl)
    where
      by : (t : Truth) (o : Seen) → slice_get m.store a ≡ Some o → is_buried all temps o ≡ t → t ≡ false
      by false o there e = refl
      by true o there e = elim (or_cases (in_regions all o.label) (is_temp temps o.label) e) [
        | inl r ↦ (let h = in-label all o.label r in absurd (no_region h.0 h.2 (region-into m.store h.0 a o there h.1)))
        | inr t ↦ (let h = temp-label temps o.label t in absurd (no_temp h.0 h.1 (label-there m.store a o there ∙ ap Some h.2)))
      ]

  object-same : (a : ℕ) → left a ≡ true → slice_get (bury all temps f.store) a ≡ slice_get m.store a
  object-same a e =
      let h = was-held a e in
      let o = below-get m.store a (p.there a h) in
      slice_get-map (buried all temps) f.store a ∙ ap (option_map (buried all temps)) (p.same a h ∙ o.1)
      ∙ ap (λ t. Some (if t then gone else o.0)) (stays a o.0 e o.1) ∙ sym o.1

  object-gone : (a : ℕ) → left a ≡ false → slice_get (bury all temps f.store) a ≡ option_map (λ (o : Seen). gone) (slice_get m.store a)
  object-gone a e = slice_get-map (buried all temps) f.store a ∙ by (held a) refl
    where
      twice : (s : Option Seen) → option_map (buried all temps) (option_map (λ (o : Seen). gone) s) ≡ option_map (λ (o : Seen). gone) s
      twice None = refl
      twice (Some o) = ap Some (gone-buried all temps)

      now : (s : Option Seen) → slice_get m.store a ≡ s → held a ≡ true → option_map (buried all temps) s ≡ option_map (λ (o : Seen). gone) s
      now None there h = refl
      now (Some o) there h = elim (cases_Bool (is_buried all temps o)) [
        | inl t ↦ ap (λ t. Some (if t then gone else o)) t
        | inr n ↦ clash (left a) (still a o h there n) e
      ]

      by : (t : Truth) → held a ≡ t → option_map (buried all temps) (slice_get f.store a) ≡ option_map (λ (o : Seen). gone) (slice_get m.store a)
      by false h = ap (option_map (buried all temps)) (p.others a h) ∙ twice (slice_get m.store a)
      by true h = ap (option_map (buried all temps)) (p.same a h) ∙ now (slice_get m.store a) refl h

  -- a slot leads to no freed region
  slot-free : (q : ℕ) → In q all → SlotInto m q → ⊥
  slot-free q i s = elim (from q i) [
    | inl given ↦ b.no_slot q given s
    | inr h ↦ (b.alone q (shut q i)).slot_field s h.2.0
  ]

  stack-free : (q i : ℕ) (v : Val) → In q all → slice_get stack i ≡ Some v → is_into m.store q v ≡ true → ⊥
  stack-free q i v j there into =
      let no = b.stack_free q (shut q j) (any_passes_from_place (is_into m.store q) stack i v there into) in elim (from q j) [
        | inl given ↦ no.0 given
        | inr h ↦ no.1 h.2.0
      ]

  -- what is left is outside of a freed region
  outside : (a : ℕ) (o : Seen) (q : ℕ) → left a ≡ true → slice_get m.store a ≡ Some o → In q all → is_outside m.windows q o.label ≡ true
  outside a o q e there i = by o.label refl
    where
      by : (l : Label) → o.label ≡ l → is_outside m.windows q l ≡ true
      by (Region r) lies = elim (cases_Bool (r == q)) [
        | inl same ↦ clash (in_regions all o.label)
            (ap (in_regions all) lies ∙ in-among all r (subst (λ n. In n all) (sym (eqb-true r q same)) i))
            (or-left (in_regions all o.label) (is_temp temps o.label) (stays a o e there))
        | inr other ↦ ap not other
      ]
      by (Temp n) lies = p.temps a o n (was-held a e) there lies
      by Frozen lies = refl

  field-free : (a : ℕ) (o : Seen) (k : ℕ) (v : Val) (q : ℕ) → left a ≡ true → slice_get m.store a ≡ Some o → slice_get o.fields k ≡ Some v
      → In q all → is_into m.store q v ≡ true → ⊥
  field-free a o k v q e there at i into =
      let mine : FieldInto m q = field-into a k o v there at (outside a o q e there i) into in
      let stay = stays a o e there in elim (from q i) [
        | inl given ↦ b.no_field q given mine (or-right (in_regions all o.label) (is_temp temps o.label) stay)
        | inr h ↦
            (let same = (b.alone q (shut q i)).field_field mine h.2.0 in
            let holder : o ≡ h.2.0.holder = same_Some o h.2.0.holder (sym there ∙ ap (slice_get m.store) same ∙ h.2.0.holder_there) in
            clash (in_regions all o.label)
            (ap (in_regions all) (ap (λ (o : Seen). o.label) holder ∙ h.2.1) ∙ in-among all h.0 h.1)
            (or-left (in_regions all o.label) (is_temp temps o.label) stay))
      ]

  -- the owner reference of a region that stays, stays
  owner-stays : (r a : ℕ) (o : Seen) → left a ≡ true → slice_get m.store a ≡ Some o → o.label ≡ Region r → is_open m.windows r ≡ false
      → Placed held m r → Placed left m r
  owner-stays r a o e there lies c (inl s) = inl s
  owner-stays r a o e there lies c (inr l) = inr (l.0, still l.0.object l.0.holder l.1 l.0.holder_there (by (is_buried all temps l.0.holder) refl))
    where
      not-freed : In r all → ⊥
      not-freed i = clash (in_regions all o.label) (ap (in_regions all) lies ∙ in-among all r i)
          (or-left (in_regions all o.label) (is_temp temps o.label) (stays a o e there))

      by : (t : Truth) → is_buried all temps l.0.holder ≡ t → t ≡ false
      by false e = refl
      by true e = elim (or_cases (in_regions all l.0.holder.label) (is_temp temps l.0.holder.label) e) [
        | inl i ↦
            (let h = in-label all l.0.holder.label i in
            let to = into-back m.store r l.0.value l.0.into in
            absurd (not-freed (freed-links held owners f m stack p regions temps h.0 r h.2 (held-link held owners f m stack p h.0 r (record {
              object = l.0.object;
              holder = l.0.holder;
              there = l.0.holder_there;
              lies = h.1;
              field = l.0.field;
              address = to.address;
              value = l.0.value_there ∙ ap Some to.is;
              leads = ap (option_and_then (λ (o : Seen). region_of o.label)) to.there ∙ ap region_of to.label;
            }) l.1))))
        | inr t ↦
            absurd (not-freed (beneath-first f.store (length f.managers) regions r (b.temps_owned r c l.0 l.1 t)))
      ]

  window-owners : (ws : List Window) → ((r : ℕ) → is_open ws r ≡ true → is_open m.windows r ≡ true)
      → ((k : ℕ) → temps ≡ Some k → NotBelow ws k) → OwnersHeld held m.store ws → OwnersHeld left m.store ws
  window-owners [] opened below h = tt
  window-owners (w ∷ ws) opened below h = (
    of w.owner h.0,
    window-owners ws (λ r e. opened r (open-more w ws r e)) (λ k e. not-below ws k (below k e)) h.1,
  )
    where
      no-temp : (l : Label) → is_of ws l ≡ true → is_temp temps l ≡ true → ⊥
      no-temp l e t = let h = temp-label temps l t in clash (has_window ws h.0) (ap (is_of ws) (sym h.2) ∙ e) (below h.0 h.1)

      no-region : (l : Label) → is_of ws l ≡ true → in_regions all l ≡ true → ⊥
      no-region l e t = let h = in-label all l t in
          clash (is_open m.windows h.0) (opened h.0 (open-more w ws h.0 (ap (is_of ws) (sym h.1) ∙ e))) (shut h.0 h.2)

      buried-not : (o : Seen) → is_of ws o.label ≡ true → (t : Truth) → is_buried all temps o ≡ t → t ≡ false
      buried-not o e false h = refl
      buried-not o e true h = elim (or_cases (in_regions all o.label) (is_temp temps o.label) h) [
        | inl i ↦ absurd (no-region o.label e i)
        | inr t ↦ absurd (no-temp o.label e t)
      ]

      of : (at : Option Place) → OwnerHeld held m.store ws at → OwnerHeld left m.store ws at
      of None h = tt
      of (Some (place.Var n s)) h = tt
      of (Some (place.Field a k)) h =
          (still a h.1.0 h.0 h.1.1 (buried-not h.1.0 h.1.2 (is_buried all temps h.1.0) refl), h.1)

  -- a temporary of no window that ends is held as before
  pub unburied : (a : ℕ) (o : Seen) (n : ℕ) → left a ≡ false → slice_get m.store a ≡ Some o → o.label ≡ Temp n → is_temp temps (Temp n) ≡ false
      → held a ≡ false
  unburied a o n e there lies other = elim (cases_Bool (held a)) [
    | inl here ↦ clash (left a) (still a o here there (ap (λ l. in_regions all l || is_temp temps l) lies ∙ other)) e
    | inr away ↦ away
  ]

  pub half-bury : Half left kept (record f { store = bury all temps f.store }) m stack
  half-bury = record {
    around = around-objects held owners f m stack p (bury all temps f.store) m.store;
    held_managers = λ a o r e. p.held_managers a o r (was-held a e);
    objects_made = length-map f.store (buried all temps) ∙ p.objects_made;
    there = λ a e. p.there a (was-held a e);
    same = object-same;
    others = object-gone;
    temps = λ a o n e. p.temps a o n (was-held a e);
    slots = λ n h s v there at. leads v (p.slots n h s v there at)
        (λ q i into. slot-free q i (slot-into n s h v there at into)) (λ k t l. b.slots_stay n h s v k there at t l);
    on_stack = on-stack stack (λ i v e. (i, e)) p.on_stack;
    fields = λ a o k v e there at. leads v (p.fields a o k v (was-held a e) there at) (λ q i into. field-free a o k v q e there at i into)
        (λ n t l. b.fields_stay a o k v n (was-held a e) there
        (or-right (in_regions all o.label) (is_temp temps o.label) (stays a o e there)) at t l);
    owned = λ a o r e there lies c. elim (p.owned a o r (was-held a e) there lies c) [
      | inl placed ↦ inl (owner-stays r a o e there lies c placed)
      | inr any ↦ elim (b.owners_given r c any) [
        | inl given ↦ clash (in_regions all o.label)
            (ap (in_regions all) lies ∙ in-among all r (beneath-first f.store (length f.managers) regions r given))
            (or-left (in_regions all o.label) (is_temp temps o.label) (stays a o e there))
        | inr h ↦ elim h [ inl placed ↦ inl (owner-stays r a o e there lies c placed) | inr k ↦ inr k ]
      ]
    ];
    window_owners = window-owners m.windows (λ r e. e) b.windows_stay p.window_owners;
    tidy = p.tidy;
  }
    where
      on-stack : (vs : List Val) → ((i : ℕ) (v : Val) → slice_get vs i ≡ Some v → (j : ℕ) × (slice_get stack j ≡ Some v)) → AllLead held vs
          → AllLead left vs
      on-stack [] at h = tt
      on-stack (v ∷ vs) at h = (
        (let j = at 0 v refl in leads v h.0 (λ q i into. stack-free q j.0 v i j.1 into) (λ k t l. b.stack_stays j.0 v k j.1 t l)),
        on-stack vs (λ i u e. at (suc i) u e) h.1,
      )

-- behind it the two are as before, but where temporaries of a window go, which still has to end
abbrev pub BuriedAs : (temps : Option ℕ) → (ℕ → Truth) → List Val → (f m : Machine) → List Val → Type 0
BuriedAs None held kept f m stack = Part held kept f m stack
BuriedAs (Some n) held kept f m stack = Half held kept f m stack

pub part-bury : (held : ℕ → Truth) (owners : List Val) (f m : Machine) (stack : List Val) (p : Part held owners f m stack) (regions : List ℕ)
    (temps : Option ℕ) (kept : List Val) → Burial held owners m stack regions temps kept
    → let all : List ℕ = beneath_by_labels f.store (length f.managers) regions in
    BuriedAs temps (left_held held m.store all temps) kept (record f { store = bury all temps f.store }) m stack
part-bury held owners f m stack p regions None kept b =
    let all : List ℕ = beneath_by_labels f.store (length f.managers) regions in
    whole (left_held held m.store all None) kept (record f { store = bury all None f.store }) m stack
    (half-bury held owners f m stack p regions None kept b)
    (λ a o n away there lies. p.lost_temps a o n (unburied held owners f m stack p regions None kept b a o n away there lies refl) there lies)
part-bury held owners f m stack p regions (Some n) kept b = half-bury held owners f m stack p regions (Some n) kept b
