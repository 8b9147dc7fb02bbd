-- What a collection keeps and frees is read off the machine that frees as off the other one.
use Rattle.std.proofs.Common.{◌≡◌, ℕ, true, Bool as Truth, List, [], ◌∷◌, drop, reverse, Option, Some, None, option_and_then, unwrap_or}
use Rattle.std.proofs.Common.{refl, sym, ap, ◌∙◌, arith, slice_get}
use Rattle.rg_base.specs.declared.object.Label.TheVariants.{Region, Temp}
use Rattle.rg_base.specs.declared.object.Place.{Place}
use Rattle.rg_base.specs.declared.object.Place.TheVariants as place
use Rattle.rg_base.specs.declared.object.Seen.{Seen}
use Rattle.rg_base.specs.declared.value.Val.{Val}
use Rattle.rg_base.specs.declared.value.Val.TheVariants as val
use Rattle.rg_rules.specs.Regions.{region_of}
use Rattle.rg_stack.specs.Machine.{Frame, Window, Machine, place_of}
use Rattle.rg_stack.specs.Tops.{top_region, top_window}
use Rattle.rg_stack.specs.Places.{value_at, field_of, top_base}
use Rattle.rg_held.specs.Part.{leads_to, Part, OwnerHeld, OwnersHeld}
use Rattle.rg_held.specs.Gather.{bridge_value, KeepsOf, Keeps, LinkOut, Loses, first, further, Gathered}
use Rattle.rg_held.proofs.Lists.{reverse-back}

module _ (held kept : ℕ → Truth) (x y : Machine) (windows : x.windows ≡ y.windows)
    (same : (a : ℕ) → held a ≡ true → slice_get x.store a ≡ slice_get y.store a)
    (leads : (a : ℕ) (o : Seen) (k : ℕ) (v : Val) → held a ≡ true → slice_get x.store a ≡ Some o → slice_get o.fields k ≡ Some v
    → leads_to held v ≡ true) where
  -- a link of the one machine is one of the other
  abbrev link-over : (r p q : ℕ) → r ≡ p → LinkOut held x r q → LinkOut held y p q
  link-over r p q e l =
      let to = leads l.object l.holder l.field (val.Obj l.address) l.here l.there l.value in
      record {
        object = l.object;
        holder = l.holder;
        field = l.field;
        address = l.address;
        differ = λ s. l.differ (e ∙ s);
        here = l.here;
        there = sym (same l.object l.here) ∙ l.there;
        lies = l.lies ∙ ap Region e;
        value = l.value;
        leads = ap (option_and_then (λ (o : Seen). region_of o.label)) (sym (same l.address to)) ∙ l.leads;
      }

  -- and both lose the same regions
  pub loses-over : (q : ℕ) → Loses held kept x q → Loses held kept y q
  loses-over q (first l goes) = first (link-over (top_region x.windows) (top_region y.windows) q (ap top_region windows) l) goes
  loses-over q (further {p = p} up l) = further (loses-over p up) (link-over p p q refl l)

module _ (held kept : ℕ → Truth) (f after m : Machine) (p : Part held [] f m []) where
  fields-here : (a : ℕ) (o : Seen) (k : ℕ) (v : Val) → held a ≡ true → slice_get f.store a ≡ Some o → slice_get o.fields k ≡ Some v
      → leads_to held v ≡ true
  fields-here a o k v here there at = p.fields a o k v here (sym (p.same a here) ∙ there) at

  loses-other : (q : ℕ) → Loses held kept f q → Loses held kept m q
  loses-other q l = loses-over held kept f m p.windows p.same fields-here q l

  loses-here : (q : ℕ) → Loses held kept m q → Loses held kept f q
  loses-here q l = loses-over held kept m f (sym p.windows) (λ a here. sym (p.same a here)) p.fields q l

  keeps-of : (v : Val) → leads_to held v ≡ true → KeepsOf kept f v → KeepsOf kept m v
  keeps-of v lead k a is lies =
      let here : held a ≡ true = sym (ap (leads_to held) is) ∙ lead in
      k a is (ap (option_and_then (λ (o : Seen). region_of o.label)) (p.same a here) ∙ lies ∙ ap (λ ws. Some (top_region ws)) (sym p.windows))

  -- the bridge
  var-leads : (n s : ℕ) → leads_to held (value_at m (place.Var n s)) ≡ true
  var-leads n s = by (slice_get (reverse m.frames) n) refl
    where
      slot : (h : Frame) (q : Option Val) → slice_get (reverse m.frames) n ≡ Some h → slice_get h.slots s ≡ q
          → leads_to held (unwrap_or q val.Nil) ≡ true
      slot h None e at = refl
      slot h (Some v) e at = let j = reverse-back m.frames n h e in p.slots j.0 h s v j.1 at

      by : (q : Option Frame) → slice_get (reverse m.frames) n ≡ q
          → leads_to held (elim q [ None ↦ val.Nil | Some h ↦ unwrap_or (slice_get h.slots s) val.Nil ]) ≡ true
      by None e = refl
      by (Some h) e = slot h (slice_get h.slots s) e refl

  field-leads : (a k : ℕ) → held a ≡ true → leads_to held (value_at m (place.Field a k)) ≡ true
  field-leads a k here = by (slice_get m.store a) refl
    where
      field : (o : Seen) (q : Option Val) → slice_get m.store a ≡ Some o → slice_get o.fields k ≡ q
          → leads_to held (unwrap_or q val.Nil) ≡ true
      field o None e at = refl
      field o (Some v) e at = p.fields a o k v here e at

      by : (q : Option Seen) → slice_get m.store a ≡ q → leads_to held (elim q [ None ↦ val.Nil | Some o ↦ field_of o k ]) ≡ true
      by None e = refl
      by (Some o) e = field o (slice_get o.fields k) e refl

  abbrev value_of : Machine → Option Place → Val
  value_of x o = elim o [ None ↦ val.Nil | Some q ↦ value_at x q ]

  owner-same : (ws : List Window) (o : Option Place) → OwnerHeld held m.store ws o
      → (value_of f o ≡ value_of m o) × (leads_to held (value_of m o) ≡ true)
  owner-same ws None h = (refl, refl)
  owner-same ws (Some (place.Var n s)) h = (
    ap (λ l. elim (slice_get (reverse l) n) [ None ↦ val.Nil | Some h ↦ unwrap_or (slice_get h.slots s) val.Nil ]) p.frames,
    var-leads n s,
  )
  owner-same ws (Some (place.Field a k)) h =
      (ap (λ q. elim q [ None ↦ val.Nil | Some o ↦ field_of o k ]) (p.same a h.0), field-leads a k h.0)

  bridge-same : (ws : List Window) → OwnersHeld held m.store ws
      → (bridge_value f ws ≡ bridge_value m ws) × (leads_to held (bridge_value m ws) ≡ true)
  bridge-same [] h = (refl, refl)
  bridge-same (w ∷ ws) h = owner-same ws w.owner h.0

  pub keeps-other : Keeps held kept f → Keeps held kept m
  keeps-other k = record {
    bridge =
        let b = bridge-same m.windows p.window_owners in
        keeps-of (bridge_value m m.windows) b.1
        (λ a is lies. k.bridge a (ap (bridge_value f) p.windows ∙ b.0 ∙ is) lies);
    slots = λ n s h v there at le.
        let base : top_base f.windows ≡ top_base m.windows = ap top_base p.windows in
        let place : place_of (drop n f.frames) s ≡ place_of (drop n m.frames) s = ap (λ l. place_of (drop n l) s) p.frames in
        keeps-of v (p.slots n h s v there at)
        (k.slots n s h v (ap (λ l. slice_get l n) p.frames ∙ there) at (omega (arith, base, place, le)));
    temps = λ a i o v here there l at.
        keeps-of v (p.fields a o i v here there at)
        (k.temps a i o v here (p.same a here ∙ there) (l ∙ ap (λ ws. Temp (top_window ws)) (sym p.windows)) at);
    fields = λ a i o v here stays there l at.
        keeps-of v (p.fields a o i v here there at)
        (k.fields a i o v here stays (p.same a here ∙ there) (l ∙ ap (λ ws. Region (top_region ws)) (sym p.windows)) at);
  }

  pub gathered-other : Gathered held kept f after f → Gathered held kept f after m
  gathered-other g = record {
    frames = g.frames;
    windows = g.windows;
    windows_made = g.windows_made;
    at = g.at;
    managers_made = g.managers_made;
    managers = λ r no. g.managers r (λ l. no (loses-other r l));
    objects_made = g.objects_made;
    fewer = g.fewer;
    same = g.same;
    others = g.others;
    lost = λ a q o here there lies l. g.lost a q o here (p.same a here ∙ there) lies (loses-here q l);
    stays = λ a o here there away no. g.stays a o here (p.same a here ∙ there)
        (λ t. away (t ∙ ap (λ ws. Region (top_region ws)) p.windows)) (λ q t l. no q t (loses-other q l));
  }
