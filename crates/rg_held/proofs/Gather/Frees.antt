-- What a collection frees is led into from nothing that stays, where what leads into the active region from outside leads to what is kept.
use Rattle.std.proofs.Common.{◌≡◌, ℕ, ◌==◌, ◌⊎◌, inl, inr, true, false, not, Bool as Truth, List, [], ◌∷◌}
use Rattle.std.proofs.Common.{Option, Some, None, option_and_then, option_map, refl, sym, ap, ◌∙◌, slice_get}
use Rattle.std.proofs.lemmas.Bool.{not-true, eq-eqb, eqb-true, or_cases, cases_Bool, ne_eqb}
use Rattle.std.specs.Prelude.{◌||◌, if◌then◌else◌}
use Rattle.rg_base.specs.declared.object.Label.{Label}
use Rattle.rg_base.specs.declared.object.Label.TheVariants.{Region, Temp, Frozen}
use Rattle.rg_base.specs.declared.object.Place.{Place}
use Rattle.rg_base.specs.declared.object.Place.TheVariants as place
use Rattle.rg_base.specs.declared.object.Seen.{Seen}
use Rattle.rg_base.specs.declared.value.Val.{Val}
use Rattle.rg_base.specs.declared.value.Val.TheVariants as val
use Rattle.rg_base.proofs.Callers.Lists.{there as below-get}
use Rattle.rg_base.proofs.Callers.Labels.{temp-region}
use Rattle.rg_rules.specs.Regions.{region_of, region_at}
use Rattle.rg_stack.specs.Machine.{Frame, Window, Machine}
use Rattle.rg_stack.specs.Tops.{top_region}
use Rattle.rg_stack.specs.Needs.{owned_once}
use Rattle.rg_stack.specs.Labels.{is_open, has_window, lies_in, is_into, is_outside}
use Rattle.rg_stack.proofs.Basics.{none-some}
use Rattle.rg_stack.proofs.Callers.Lead.{region-label}
use Rattle.rg_held.specs.Gone.{gone}
use Rattle.rg_held.specs.Part.{leads_to, SlotInto, FieldInto, Placed, Part, is_of, OwnerHeld, OwnersHeld, is_shut_or_above, may_lead, Differ}
use Rattle.rg_held.specs.Gather.{KeepsOf, Keeps, LinkOut, Loses, first, further, Gathered}
use Rattle.rg_held.proofs.Lists.{off}
use Rattle.rg_held.proofs.Places.{or-right, clash, field-into, into-back, slot-into}
use Rattle.rg_held.proofs.Places.{slot-field, field-field}
use Rattle.rg_held.proofs.Parts.Part.{shut-above}
use Rattle.rg_held.proofs.Parts.Burial.{same-region}
use Rattle.rg_held.proofs.Acts.Release.{most}

-- what leads into the active region from outside leads to what is kept
pub record Outside (held kept : ℕ → Truth) (m : Machine) : Type 0 where
  pub slots : (n s : ℕ) (h : Frame) (v : Val) → slice_get m.frames n ≡ Some h → slice_get h.slots s ≡ Some v → KeepsOf kept m v
  pub fields : (a k : ℕ) (o : Seen) (v : Val) → held a ≡ true → slice_get m.store a ≡ Some o → (o.label ≡ Region (top_region m.windows) → ⊥)
      → ((n : ℕ) → o.label ≡ Temp n → has_window m.windows n ≡ true) → slice_get o.fields k ≡ Some v → KeepsOf kept m v

-- where the topmost window's objects may lead, but to their own region, is closed
top-closed : (ws : List Window) (q : ℕ) → Differ ws → (top_region ws ≡ q → ⊥) → may_lead ws (top_region ws) (Region q) ≡ true
    → is_open ws q ≡ false
top-closed [] q d other e = refl
top-closed (w ∷ ws) q d other e = elim (or_cases (q == w.region) (is_shut_or_above (w ∷ ws) q w.region) e) [
  | inl same ↦ absurd (other (sym (eqb-true q w.region same)))
  | inr shut ↦
      (let no : (w.region == q) ≡ false = ne_eqb w.region q other in
      let rest : is_shut_or_above ws q w.region ≡ true =
      ap (λ b. if b then is_open ws w.region else is_shut_or_above ws q w.region) (sym no) ∙ shut in
      ap (λ b. b || is_open ws q) no ∙ shut-above ws q w.region rest d.0)
]

module _ (held kept : ℕ → Truth) (f after m : Machine) (p : Part held [] f m []) (g : Gathered held kept f after m) where
  abbrev top : ℕ
  top = top_region m.windows

  -- a link is a field from outside
  abbrev link-field : (a q : ℕ) → LinkOut held m a q → FieldInto m q
  link-field a q l =
      field-into l.object l.field l.holder (val.Obj l.address) l.there l.value
      (ap (is_outside m.windows q) l.lies ∙ ap not (ne_eqb a q l.differ))
      (ap (λ (o : Option Label). elim o [ None ↦ false | Some l ↦ lies_in q l ]) (region-label m.store l.address q l.leads) ∙ eq-eqb q q refl)

  link-leads : (a q : ℕ) (l : LinkOut held m a q) → may_lead m.windows a (Region q) ≡ true
  link-leads a q l = p.tidy.inside l.object l.holder a l.field (val.Obj l.address) (Region q) l.there l.lies l.value
      (region-label m.store l.address q l.leads)

  -- a region that is lost is closed, and its owner reference stands in an object that goes
  record LostPlace (q : ℕ) : Type 0 where
    pub place : FieldInto m q
    pub here : held place.object ≡ true
    pub goes : kept place.object ≡ false
    pub closed : is_open m.windows q ≡ false

  lost-place : (q : ℕ) → Loses held kept m q → LostPlace q
  lost-place q (first l goes) = record {
    place = link-field top q l;
    here = l.here;
    goes = goes;
    closed = top-closed m.windows q p.tidy.differ l.differ (link-leads top q l);
  }
  lost-place q (further {p = a} up l) = record {
    place = link-field a q l;
    here = l.here;
    goes = g.lost l.object a l.holder l.here l.there l.lies up;
    closed = elim (or_cases (q == a) (is_shut_or_above m.windows q a) (link-leads a q l)) [
      | inl same ↦ absurd (l.differ (sym (eqb-true q a same)))
      | inr shut ↦ shut-above m.windows q a shut (lost-place a up).closed
    ];
  }

  open-stays : {B : Type 0} (q : ℕ) → is_open m.windows q ≡ true → Loses held kept m q → B
  open-stays q o l = clash (is_open m.windows q) o (lost-place q l).closed

  module _ (single : owned_once m ≡ true) where
    no-slot : (q : ℕ) → Loses held kept m q → SlotInto m q → ⊥
    no-slot q l s = let at = lost-place q l in slot-field m q (most m p.tidy single q s.value at.closed s.into) s at.place

    no-field : (q : ℕ) → Loses held kept m q → (x : FieldInto m q) → kept x.object ≡ true → ⊥
    no-field q l x stays =
        let at = lost-place q l in
        let same = field-field m q (most m p.tidy single q x.value at.closed x.into) x at.place in
        clash (kept x.object) stays (ap kept same.0 ∙ at.goes)

    -- a value that leads to what is held, and into no lost region, leads to what is kept
    reach : (v : Val) → leads_to held v ≡ true → KeepsOf kept m v → ((q : ℕ) → Loses held kept m q → is_into m.store q v ≡ true → ⊥)
        → leads_to kept v ≡ true
    reach val.Nil e k none = refl
    reach (val.Int z) e k none = refl
    reach (val.Bool b) e k none = refl
    reach (val.Obj a) e k none = let h = below-get m.store a (p.there a e) in by h.0 h.1 h.0.label refl
      where
        lies : (o : Seen) (q : ℕ) → slice_get m.store a ≡ Some o → o.label ≡ Region q → region_at m.store a ≡ Some q
        lies o q there l = ap (option_and_then (λ (o : Seen). region_of o.label)) there ∙ ap region_of l

        into : (o : Seen) (q : ℕ) → slice_get m.store a ≡ Some o → o.label ≡ Region q → is_into m.store q (val.Obj a) ≡ true
        into o q there l = ap (λ (o : Option Label). elim o [ None ↦ false | Some l ↦ lies_in q l ])
            (region-label m.store a q (lies o q there l)) ∙ eq-eqb q q refl

        by : (o : Seen) → slice_get m.store a ≡ Some o → (l : Label) → o.label ≡ l → kept a ≡ true
        by o there (Region q) l = elim (cases_Bool (q == top)) [
          | inl same ↦ k a refl (lies o q there l ∙ ap Some (eqb-true q top same))
          | inr other ↦ g.stays a o e there
              (λ t. clash (q == top) (eq-eqb q top (same-region q top (sym l ∙ t))) other)
              (λ r t lost. none r lost (into o r there t))
        ]
        by o there (Temp n) l = g.stays a o e there (λ t. none-region (sym l ∙ t)) (λ r t lost. none-region (sym l ∙ t))
          where
            none-region : {B : Type 0} {r : ℕ} → Temp n ≡ Region r → B
            none-region t = absurd (none-some _ (ap region_of t))
        by o there Frozen l = g.stays a o e there (λ t. none-region (sym l ∙ t)) (λ r t lost. none-region (sym l ∙ t))
          where
            none-region : {B : Type 0} {r : ℕ} → Frozen ≡ Region r → B
            none-region t = absurd (none-some _ (ap region_of t))

    module _ (keeps : Keeps held kept m) (out : Outside held kept m) where
      kept-slots : (n : ℕ) (h : Frame) (s : ℕ) (v : Val) → slice_get m.frames n ≡ Some h → slice_get h.slots s ≡ Some v → leads_to kept v ≡ true
      kept-slots n h s v there at = reach v (p.slots n h s v there at) (out.slots n s h v there at) (λ q lost into. no-slot q lost (slot-into n s h v there at into))

      kept-fields : (a : ℕ) (o : Seen) (k : ℕ) (v : Val) → kept a ≡ true → slice_get m.store a ≡ Some o → slice_get o.fields k ≡ Some v
          → leads_to kept v ≡ true
      kept-fields a o k v stays there at = reach v (p.fields a o k v here there at) (active o.label refl)
          (λ q lost into. no-field q lost (field-into a k o v there at (outside q lost o.label refl) into) stays)
        where
          here : held a ≡ true
          here = g.fewer a stays

          open-temp : (n : ℕ) → o.label ≡ Temp n → has_window m.windows n ≡ true
          open-temp n l = p.temps a o n here there l

          active : (l : Label) → o.label ≡ l → KeepsOf kept m v
          active (Region q) l = elim (cases_Bool (q == top)) [
            | inl same ↦ keeps.fields a k o v here stays there (l ∙ ap Region (eqb-true q top same)) at
            | inr other ↦ out.fields a k o v here there
                (λ t. clash (q == top) (eq-eqb q top (same-region q top (sym l ∙ t))) other) open-temp at
          ]
          active (Temp n) l = out.fields a k o v here there (λ t. none-some _ (ap region_of (sym l ∙ t))) open-temp at
          active Frozen l = out.fields a k o v here there (λ t. none-some _ (ap region_of (sym l ∙ t))) open-temp at

          outside : (q : ℕ) → Loses held kept m q → (l : Label) → o.label ≡ l → is_outside m.windows q o.label ≡ true
          outside q lost (Region r) l = elim (cases_Bool (r == q)) [
            | inl same ↦ clash (kept a) stays (g.lost a q o here there (l ∙ ap Region (eqb-true r q same)) lost)
            | inr other ↦ ap (is_outside m.windows q) l ∙ ap not other
          ]
          outside q lost (Temp n) l = ap (is_outside m.windows q) l ∙ open-temp n l
          outside q lost Frozen l = ap (is_outside m.windows q) l

      -- the place of a closed region of which something stays
      kept-placed : (a : ℕ) (o : Seen) (r : ℕ) → kept a ≡ true → slice_get m.store a ≡ Some o → o.label ≡ Region r → Placed held m r
          → Placed kept m r
      kept-placed a o r stays there lies (inl s) = inl s
      kept-placed a o r stays there lies (inr (x, here)) = inr (x, by (kept x.object) refl)
        where
          lose : (q : ℕ) → x.holder.label ≡ Region q → LinkOut held m q r
          lose q l = let to = into-back m.store r x.value x.into in record {
            object = x.object;
            holder = x.holder;
            field = x.field;
            address = to.address;
            differ = λ same. clash (q == r) (eq-eqb q r same)
                (not-true (q == r) (sym (ap (is_outside m.windows r) l) ∙ x.outside));
            here = here;
            there = x.holder_there;
            lies = l;
            value = x.value_there ∙ ap Some to.is;
            leads = ap (option_and_then (λ (o : Seen). region_of o.label)) to.there ∙ ap region_of to.label;
          }

          never : Loses held kept m r → ⊥
          never lost = clash (kept a) stays (g.lost a r o (g.fewer a stays) there lies lost)

          by : (b : Truth) → kept x.object ≡ b → b ≡ true
          by true e = refl
          by false e = clash (kept x.object) (g.stays x.object x.holder here x.holder_there
              (λ t. never (first (lose top t) e))
              (λ q t lost. never (further lost (lose q t)))) e

      -- owners of windows stay
      kept-owners : (ws : List Window) → ((r : ℕ) → is_open ws r ≡ true → (is_open m.windows r ≡ true) × (r ≡ top → ⊥))
          → (o : Option Place) → OwnerHeld held m.store ws o → OwnerHeld kept m.store ws o
      kept-owners ws under None h = tt
      kept-owners ws under (Some (place.Var n s)) h = tt
      kept-owners ws under (Some (place.Field a k)) h = (
        g.stays a h.1.0 h.0 h.1.1
            (λ t. let u = under top (ap (is_of ws) (sym t) ∙ h.1.2) in u.1 refl)
            (λ q t lost. let u = under q (ap (is_of ws) (sym t) ∙ h.1.2) in open-stays q u.0 lost),
        h.1,
      )

      all-owners : (ws : List Window) → Differ ws → ((r : ℕ) → is_open ws r ≡ true → is_open m.windows r ≡ true)
          → (top_region ws ≡ top) ⊎ (is_open ws top ≡ false) → OwnersHeld held m.store ws → OwnersHeld kept m.store ws
      all-owners [] d up side h = tt
      all-owners (w ∷ ws) d up side h = (
        kept-owners ws (λ r o. (up r (beneath r o), λ same. clash (is_open ws r) o (ap (is_open ws) same ∙ none))) w.owner h.0,
        all-owners ws d.2 (λ r o. up r (beneath r o)) (inr none) h.1,
      )
        where
          beneath : (r : ℕ) → is_open ws r ≡ true → is_open (w ∷ ws) r ≡ true
          beneath r o = either-true (w.region == r) (is_open ws r) o
            where
              either-true : (a b : Truth) → b ≡ true → (a || b) ≡ true
              either-true true b e = refl
              either-true false b e = e

          none : is_open ws top ≡ false
          none = elim side [
            | inl same ↦ ap (is_open ws) (sym same) ∙ d.0
            | inr e ↦ or-right (w.region == top) (is_open ws top) e
          ]

      not-lost : (a r : ℕ) (o : Seen) → kept a ≡ true → slice_get m.store a ≡ Some o → o.label ≡ Region r → Loses held kept m r → ⊥
      not-lost a r o stays there lies lost = clash (kept a) stays (g.lost a r o (g.fewer a stays) there lies lost)

      twice : (o : Option Seen) → option_map (λ (o : Seen). gone) (option_map (λ (o : Seen). gone) o) ≡ option_map (λ (o : Seen). gone) o
      twice None = refl
      twice (Some o) = refl

      gone-there : (a : ℕ) → kept a ≡ false → slice_get after.store a ≡ option_map (λ (o : Seen). gone) (slice_get m.store a)
      gone-there a e = g.others a e ∙ elim (cases_Bool (held a)) [
        | inl here ↦ ap (option_map (λ (o : Seen). gone)) (p.same a here)
        | inr away ↦ ap (option_map (λ (o : Seen). gone)) (p.others a away) ∙ twice (slice_get m.store a)
      ]

      -- a collection leaves the machine that frees beside the other one
      pub part-gather : Part kept [] after m []
      part-gather = record {
        frames = g.frames ∙ p.frames;
        windows = g.windows ∙ p.windows;
        windows_made = g.windows_made ∙ p.windows_made;
        at = g.at ∙ p.at;
        managers_made = g.managers_made ∙ p.managers_made;
        open_managers = λ r o. g.managers r (λ lost. open-stays r o lost) ∙ p.open_managers r o;
        held_managers = λ a o r stays there lies. g.managers r (not-lost a r o stays there lies)
            ∙ p.held_managers a o r (g.fewer a stays) there lies;
        objects_made = g.objects_made ∙ p.objects_made;
        there = λ a stays. p.there a (g.fewer a stays);
        same = λ a stays. g.same a stays ∙ p.same a (g.fewer a stays);
        others = gone-there;
        temps = λ a o n stays there l. p.temps a o n (g.fewer a stays) there l;
        lost_temps = λ a o n away there l. p.lost_temps a o n (elim (cases_Bool (held a)) [
          | inl here ↦ clash (kept a) (g.stays a o here there (λ x. temp-region n (top_region m.windows) (ap Some (sym l ∙ x)))
              (λ q x lost. temp-region n q (ap Some (sym l ∙ x)))) away
          | inr no_more ↦ no_more
        ]) there l;
        slots = kept-slots;
        on_stack = tt;
        fields = kept-fields;
        owned = λ a o r stays there lies shut. elim (p.owned a o r (g.fewer a stays) there lies shut) [
          | inl x ↦ inl (kept-placed a o r stays there lies x)
          | inr e ↦ off e
        ];
        window_owners = all-owners m.windows p.tidy.differ (λ r o. o) (inl refl) p.window_owners;
        tidy = p.tidy;
      }
