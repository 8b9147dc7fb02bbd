-- `freeze` and `merge` beside those over the growing store.
use Rattle.std.proofs.Common.{◌≡◌, ℕ, ◌==◌, ◌<◌, ◌⊎◌, inl, inr, true, false, true≢false, not, Bool as Truth, List, [], ◌∷◌}
use Rattle.std.proofs.Common.{length, Option, Some, None, Ok, Err, option_and_then, refl, sym, ap, subst, ◌∙◌, arith, slice_get}
use Rattle.std.proofs.lemmas.Option.{same_Some}
use Rattle.std.proofs.lemmas.Bool.{not-true, eq-eqb, eqb-true, or_cases, cases_Bool, ne_eqb}
use Rattle.std.proofs.lemmas.Map.Keys.{any_passes_from_place}
use Rattle.std.specs.Prelude.{◌||◌, ◌&&◌, ok_or, if◌then◌else◌, is_some}
use Rattle.std.specs.List.{list_any}
use Rattle.rg_base.specs.declared.object.Label.{Label}
use Rattle.rg_base.specs.declared.object.Label.TheVariants.{Region, Temp, Frozen}
use Rattle.rg_base.specs.declared.object.Seen.{Seen}
use Rattle.rg_base.specs.declared.outcome.Trap.TheVariants as trap
use Rattle.rg_base.specs.declared.value.Val.{Val}
use Rattle.rg_base.specs.declared.value.Val.TheVariants as val
use Rattle.rg_rules.specs.Regions.{region_of, region_at, among, in_regions, relabelled}
use Rattle.rg_sound.proofs.Stores.Member.{In, among-in, in-among, not-among, among-not}
use Rattle.rg_code.specs.declared.op.Op.TheVariants as i
use Rattle.rg_code.specs.Code.{Code}
use Rattle.rg_stack.specs.Machine.{Machine, slot_at, put_slot}
use Rattle.rg_stack.specs.Effects.{Go, Traps, act, beneath_by_labels, relabel, with_store, stored, on_object}
use Rattle.rg_stack.specs.Tops.{Work, top_region}
use Rattle.rg_stack.specs.Needs.{is_closed, closed_of, owns_or_nil, owned_once, needs}
use Rattle.rg_stack.specs.Labels.{is_open, label_of, is_into, is_outside}
use Rattle.rg_stack.proofs.Basics.{none-some, and-left, and-right}
use Rattle.rg_held.specs.Frees.{forgotten, free_act}
use Rattle.rg_held.specs.Part.{leads_to, Placed, Tidy, Part, may_lead, is_shut_or_above}
use Rattle.rg_held.specs.Ends.{Match, SameEnd}
use Rattle.rg_held.specs.Laws.{owners_of, GoesOn}
use Rattle.rg_held.proofs.Lists.{off, any-at}
use Rattle.rg_held.proofs.Places.{clash, field-into, top-open}
use Rattle.rg_held.proofs.Places.{label-there, region-into, closed-there, label-into}
use Rattle.rg_held.proofs.Callers.Beneath.{Link, beneath-links, beneath-first, beneath-all}
use Rattle.rg_held.proofs.Parts.Part.{shut-above, closed-above, part-owners}
use Rattle.rg_held.proofs.Parts.Burial.{link-held, held-link, closed-link, link-field, region-given, same-region}
use Rattle.rg_held.proofs.Callers.Forget.{match-forgets}
use Rattle.rg_held.proofs.Acts.Stack.{match-more, slot-leads, slot-same}
use Rattle.rg_held.proofs.Parts.Slot.{part-put}
use Rattle.rg_held.proofs.Acts.Release.{slot-at-into, slot-and-field, two-fields}
use Rattle.rg_held.proofs.Acts.Label.{other_label, part-relabel, relabel-tidy}

-- a reference that is closed leads into a closed region
pub closed-region : (m : Machine) (a : ℕ) (o : Seen) → slice_get m.store a ≡ Some o → owns_or_nil m (val.Obj a) ≡ true
    → (r : ℕ) × (o.label ≡ Region r) × (is_open m.windows r ≡ false)
closed-region m a o e h = by o.label refl
    (sym (ap (λ (k : Option Label). is_some (option_and_then (closed_of m.windows) k)) (label-there m.store a o e)) ∙ h)
  where
    of : (r : ℕ) → o.label ≡ Region r → (b : Truth) → is_open m.windows r ≡ b → is_some (if b then None else Some r) ≡ true
        → (r : ℕ) × (o.label ≡ Region r) × (is_open m.windows r ≡ false)
    of r lies true c h = off h
    of r lies false c h = (r, lies, c)

    by : (l : Label) → o.label ≡ l → is_some (closed_of m.windows l) ≡ true → (r : ℕ) × (o.label ≡ Region r) × (is_open m.windows r ≡ false)
    by (Region r) lies h = of r lies (is_open m.windows r) refl h
    by (Temp n) lies h = off h
    by Frozen lies h = off h

-- where no value on the stack leads into a closed region, none is an owner
pub none-own : (held : ℕ → Truth) (f m : Machine) (stack : List Val) → list_any (is_closed m) stack ≡ false → Part held stack f m stack
    → Part held [] f m stack
none-own held f m stack none p = part-owners held stack f m stack p [] (λ r c any. (let h = any-at (is_into m.store r) stack any in
    clash (list_any (is_closed m) stack) (any_passes_from_place (is_closed m) stack h.0 h.1.0 h.1.1
    (ap (λ (o : Option ℕ). is_some o) (closed-there m h.1.0 r h.1.2 c))) none))

module _ (held : ℕ → Truth) (f m : Machine) (stack : List Val) (p : Part held [] f m stack) (once : owned_once m ≡ true) (s r : ℕ)
    (c : is_open m.windows r ≡ false) (into : is_into m.store r (slot_at m s) ≡ true) where
  -- the regions beneath, as each of the machines finds them
  abbrev rf : List ℕ
  rf = beneath_by_labels f.store (length f.managers) (r ∷ [])

  abbrev rs : List ℕ
  rs = beneath_by_labels m.store (length m.managers) (r ∷ [])

  given : (b q : ℕ) → region_at m.store b ≡ Some q → q < length m.managers
  given b q e = by (slice_get m.store b) refl e
    where
      of : (o : Seen) (l : Label) → o.label ≡ l → slice_get m.store b ≡ Some o → region_of l ≡ Some q → q < length m.managers
      of o (Region z) lies at e = let h = p.tidy.labels b o z at lies in let is = same_Some z q e in omega (arith, h, is)
      of o (Temp n) lies at e = none-some q e
      of o Frozen lies at e = none-some q e

      by : (o : Option Seen) → slice_get m.store b ≡ o → option_and_then (λ (o : Seen). region_of o.label) o ≡ Some q → q < length m.managers
      by None at e = none-some q e
      by (Some o) at e = of o o.label refl at e

  to-all : (q : ℕ) → In q rf → In q rs
  to-all q j = beneath-all f.store (λ z. In z rs) (r ∷ []) (λ z k. beneath-first m.store (length m.managers) (r ∷ []) z k)
      (λ a b k l. beneath-links m.store (length m.managers) given (r ∷ []) a b k (link-held held [] f m stack p a b l).0)
      (length f.managers) q j

  -- a region beneath is closed, and found in both where an object of it is held
  record Beneath (q : ℕ) : Type 0 where
    closed : is_open m.windows q ≡ false
    found : (b : ℕ) (h : Seen) → held b ≡ true → slice_get m.store b ≡ Some h → h.label ≡ Region q → In q rf

  further : (a b : ℕ) → Beneath a → Link m.store a b → Beneath b
  further a b k l = record {
    closed = shut;
    found = λ x h here there lies. elim (cases_Bool (a == b)) [
      | inl same ↦
          (let e = eqb-true a b same in subst (λ z. In z rf) e (k.found x h here there (lies ∙ ap Region (sym e))))
      | inr other ↦ by (λ e. clash (a == b) (eq-eqb a b e) other) (p.owned x h b here there lies shut)
    ];
  }
    where
      shut : is_open m.windows b ≡ false
      shut = closed-link held [] f m stack p a b k.closed l

      by : (a ≡ b → ⊥) → Placed held m b ⊎ (false ≡ true) → In b rf
      by other (inr none) = off none
      by other (inl (inl slot)) = slot-and-field m p.tidy once b shut slot (link-field held [] f m stack p a b other l)
      by other (inl (inr field)) =
          let same : field.0.object ≡ l.object = two-fields m p.tidy once b shut field.0 (link-field held [] f m stack p a b other l) in
          let here : held l.object ≡ true = ap held (sym same) ∙ field.1 in
          beneath-links f.store (length f.managers) (region-given held [] f m stack p) (r ∷ []) a b
          (k.found l.object l.holder here l.there l.lies) (held-link held [] f m stack p a b l here)

  beneath : (q : ℕ) → In q rs → Beneath q
  beneath q j = beneath-all m.store Beneath (r ∷ []) first further (length m.managers) q j
    where
      first : (q : ℕ) → In q (r ∷ []) → Beneath q
      first q (inl same) = record {
        closed = ap (is_open m.windows) (sym same) ∙ c;
        found = λ b h here there lies. beneath-first f.store (length f.managers) (r ∷ []) q (inl same);
      }
      first q (inr none) = absurd none

  agree : (a : ℕ) (o : Seen) → held a ≡ true → slice_get m.store a ≡ Some o → in_regions rf o.label ≡ in_regions rs o.label
  agree a o here there = by o.label refl
    where
      by : (l : Label) → o.label ≡ l → in_regions rf l ≡ in_regions rs l
      by (Temp n) lies = refl
      by Frozen lies = refl
      by (Region q) lies = elim (cases_Bool (among rs q)) [
        | inl yes_in ↦ in-among rf q ((beneath q (among-in rs q yes_in)).found a o here there lies) ∙ sym yes_in
        | inr not_in ↦ not-among rf q (λ j. among-not rs q not_in (to-all q j)) ∙ sym not_in
      ]

  shut-all : (q : ℕ) → In q rs → is_open m.windows q ≡ false
  shut-all q j = (beneath q j).closed

  freeze-tidy : Tidy (record m { store = relabelled rs Frozen m.store })
  freeze-tidy = relabel-tidy held [] f m stack p rf rs Frozen tt shut-all agree
      (λ a o k v l q there at is lies. by o.label l q (in_regions rs o.label) (in_regions rs l) lies (λ e. p.tidy.inside a o q k v l there e at is))
    where
      by : (o l : Label) (q : ℕ) (b d : Truth) → (if b then Frozen else o) ≡ Region q → (o ≡ Region q → may_lead m.windows q l ≡ true)
          → may_lead m.windows q (if d then Frozen else l) ≡ true
      by o l q true d e h = absurd (true≢false (ap (λ (l : Label). elim l [ Region q ↦ false | Temp n ↦ true | Frozen ↦ true ]) e))
      by o l q false true e h = refl
      by o l q false false e h = h e

  pub part-freeze : Part held (slot_at m s ∷ stack) (put_slot (record f { store = relabelled rf Frozen f.store }) s val.Nil)
      (put_slot (record m { store = relabelled rs Frozen m.store }) s val.Nil) (slot_at m s ∷ stack)
  part-freeze = part-put held [] (record f { store = relabelled rf Frozen f.store }) (record m { store = relabelled rs Frozen m.store }) stack
      (part-relabel held [] f m stack p rf rs Frozen tt shut-all agree freeze-tidy) s val.Nil (slot_at m s ∷ stack) (slot_at m s ∷ stack) refl
      (slot-leads held [] f m stack p s, p.on_stack)
      (λ q d at. inr (ap (λ b. b || list_any (is_into (relabelled rs Frozen m.store) q) stack) at)) (λ q d none. off none)

  -- `merge`
  abbrev t : ℕ
  t = top_region m.windows

  one : (q : ℕ) → In q (r ∷ []) → is_open m.windows q ≡ false
  one q (inl same) = ap (is_open m.windows) (sym same) ∙ c
  one q (inr none) = absurd none

  top : is_open m.windows t ≡ true
  top = top-open m.windows p.tidy.some_window

  in-one : (l : Label) → in_regions (r ∷ []) l ≡ true → l ≡ Region r
  in-one (Region q) e = elim (among-in (r ∷ []) q e) [ inl same ↦ ap Region (sym same) | inr none ↦ absurd none ]
  in-one (Temp n) e = off e
  in-one Frozen e = off e

  merge-tidy : Tidy (record m { store = relabelled (r ∷ []) (Region t) m.store })
  merge-tidy = relabel-tidy held [] f m stack p (r ∷ []) (r ∷ []) (Region t) top one (λ a o h e. refl) may
    where
      same-top : (x : ℕ) → t ≡ x → may_lead m.windows x (Region t) ≡ true
      same-top x e = ap (λ b. b || is_shut_or_above m.windows t x) (eq-eqb t x e)

      closed-may : (z x : ℕ) → is_open m.windows z ≡ false → may_lead m.windows x (Region z) ≡ true
      closed-may z x h = by (z == x)
        where
          by : (b : Truth) → (b || is_shut_or_above m.windows z x) ≡ true
          by true = refl
          by false = closed-above m.windows z x h

      -- from the region itself
      own : (x : ℕ) (l : Label) → may_lead m.windows r l ≡ true → in_regions (r ∷ []) l ≡ false → may_lead m.windows x l ≡ true
      own x (Temp n) h other = off h
      own x Frozen h other = refl
      own x (Region z) h other = elim (or_cases (z == r) (is_shut_or_above m.windows z r) h) [
        | inl same ↦ clash (in_regions (r ∷ []) (Region z)) (in-among (r ∷ []) z (inl (sym (eqb-true z r same)))) other
        | inr shut ↦ closed-may z x (shut-above m.windows z r shut c)
      ]

      may : (a : ℕ) (o : Seen) (k : ℕ) (v : Val) (l : Label) (q : ℕ) → slice_get m.store a ≡ Some o → slice_get o.fields k ≡ Some v
          → label_of m.store v ≡ Some l → other_label (r ∷ []) (Region t) o.label ≡ Region q
          → may_lead m.windows q (other_label (r ∷ []) (Region t) l) ≡ true
      may a o k v l q there at is lies = by (in_regions (r ∷ []) o.label) refl (in_regions (r ∷ []) l) refl lies
        where
          by : (b : Truth) → in_regions (r ∷ []) o.label ≡ b → (d : Truth) → in_regions (r ∷ []) l ≡ d
              → (if b then Region t else o.label) ≡ Region q → may_lead m.windows q (if d then Region t else l) ≡ true
          by true from true to e = same-top q (same-region t q e)
          by true from false to e = own q l (p.tidy.inside a o r k v l there (in-one o.label from) at is) to
          by false from false to e = p.tidy.inside a o q k v l there e at is
          by false from true to e = slot-and-field m p.tidy once r c (slot-at-into m s r into).0 (field-into a k o v there at
              (ap (is_outside m.windows r) e ∙ ap not (ne_eqb q r
              (λ same. clash (in_regions (r ∷ []) o.label) (ap (in_regions (r ∷ [])) e ∙ in-among (r ∷ []) q (inl (sym same))) from)))
              (label-into m.store r v (is ∙ ap Some (in-one l to))))

  pub part-merge : Part held (slot_at m s ∷ stack) (put_slot (record f { store = relabelled (r ∷ []) (Region t) f.store }) s val.Nil)
      (put_slot (record m { store = relabelled (r ∷ []) (Region t) m.store }) s val.Nil) (slot_at m s ∷ stack)
  part-merge = part-put held [] (record f { store = relabelled (r ∷ []) (Region t) f.store })
      (record m { store = relabelled (r ∷ []) (Region t) m.store }) stack
      (part-relabel held [] f m stack p (r ∷ []) (r ∷ []) (Region t) top one (λ a o h e. refl) merge-tidy) s val.Nil (slot_at m s ∷ stack)
      (slot_at m s ∷ stack) refl (slot-leads held [] f m stack p s, p.on_stack)
      (λ q d at. inr (ap (λ b. b || list_any (is_into (relabelled (r ∷ []) (Region t) m.store) q) stack) at)) (λ q d none. off none)

-- both take the bridge from its slot
module _ (also go : Go) (u w : Work) (s : ℕ) (stack : List Val) (xu xw : Option ℕ → List Seen) where
  pub take-same : owns_or_nil w.machine (slot_at w.machine s) ≡ true → Match stack u w stack → GoesOn true also go
      → ((r : ℕ) → is_open w.machine.windows r ≡ false → is_into w.machine.store r (slot_at w.machine s) ≡ true
      → Match (slot_at w.machine s ∷ stack) (stored (with_store u (xu (Some r))) s val.Nil) (stored (with_store w (xw (Some r))) s val.Nil)
      (slot_at w.machine s ∷ stack))
      → SameEnd
      (on_object u.machine.store (slot_at u.machine s)
      (λ o. also 0 (slot_at u.machine s ∷ stack) (stored (with_store u (xu (region_of o.label))) s val.Nil)))
      (on_object w.machine.store (slot_at w.machine s)
      (λ o. go 0 (slot_at w.machine s ∷ stack) (stored (with_store w (xw (region_of o.label))) s val.Nil)))
  take-same owns m next after =
      subst (λ v. SameEnd (on_object u.machine.store v (λ o. also 0 (v ∷ stack) (stored (with_store u (xu (region_of o.label))) s val.Nil)))
      (on_object w.machine.store (slot_at w.machine s)
      (λ o. go 0 (slot_at w.machine s ∷ stack) (stored (with_store w (xw (region_of o.label))) s val.Nil))))
      (sym (slot-same m.0 stack u.machine w.machine stack m.1.machine s))
      (by (slot_at w.machine s) refl owns (slot-leads m.0 stack u.machine w.machine stack m.1.machine s))
    where
      of : (a : ℕ) → slot_at w.machine s ≡ val.Obj a → owns_or_nil w.machine (val.Obj a) ≡ true → (x : Option Seen)
          → slice_get w.machine.store a ≡ x → SameEnd
          (elim (ok_or {T = Seen} x trap.Nil) [
            | Ok o ↦ also 0 (val.Obj a ∷ stack) (stored (with_store u (xu (region_of o.label))) s val.Nil)
            | Err t ↦ Traps t
          ])
          (elim (ok_or {T = Seen} x trap.Nil) [
            | Ok o ↦ go 0 (val.Obj a ∷ stack) (stored (with_store w (xw (region_of o.label))) s val.Nil)
            | Err t ↦ Traps t
          ])
      of a is owns None e = refl
      of a is owns (Some o) e =
          let c = closed-region w.machine a o e owns in
          let P : Option ℕ → Type 0 = λ q. SameEnd (also 0 (val.Obj a ∷ stack) (stored (with_store u (xu q)) s val.Nil))
          (go 0 (val.Obj a ∷ stack) (stored (with_store w (xw q)) s val.Nil)) in
          subst P (sym (ap region_of c.1))
          (subst (λ v. SameEnd (also 0 (v ∷ stack) (stored (with_store u (xu (Some c.0))) s val.Nil))
          (go 0 (v ∷ stack) (stored (with_store w (xw (Some c.0))) s val.Nil))) is
          (next (slot_at w.machine s ∷ stack) (stored (with_store u (xu (Some c.0))) s val.Nil)
          (stored (with_store w (xw (Some c.0))) s val.Nil)
          (after c.0 c.2 (ap (is_into w.machine.store c.0) is ∙ region-into w.machine.store c.0 a o e c.1))))

      by : (v : Val) → slot_at w.machine s ≡ v → owns_or_nil w.machine v ≡ true → leads_to m.0 v ≡ true → SameEnd
          (on_object u.machine.store v (λ o. also 0 (v ∷ stack) (stored (with_store u (xu (region_of o.label))) s val.Nil)))
          (on_object w.machine.store v (λ o. go 0 (v ∷ stack) (stored (with_store w (xw (region_of o.label))) s val.Nil)))
      by val.Nil is owns lead = refl
      by (val.Int z) is owns lead = refl
      by (val.Bool b) is owns lead = refl
      by (val.Obj a) is owns lead =
          subst (λ x. SameEnd (elim (ok_or {T = Seen} x trap.Nil) [
            | Ok o ↦ also 0 (val.Obj a ∷ stack) (stored (with_store u (xu (region_of o.label))) s val.Nil)
            | Err t ↦ Traps t
          ]) (on_object w.machine.store (val.Obj a)
          (λ o. go 0 (val.Obj a ∷ stack) (stored (with_store w (xw (region_of o.label))) s val.Nil))))
          (sym (m.1.machine.same a lead)) (of a is owns (slice_get w.machine.store a) refl)

module _ (code : Code) (at : ℕ) (also go : Go) (u w : Work) (taken : Truth) where
  -- behind the instruction, managers of regions that don't live any more are forgotten
  abbrev forgets : Go
  forgets = λ skip stack x. also skip stack (forgotten x)

  forgets-on : GoesOn true also go → GoesOn true forgets go
  forgets-on next stack x y m = next stack (forgotten x) y (match-forgets stack x y stack m)

  -- no value on the stack owns, each closed region is owned once, and the slot owns one or is nil
  lone : (s : ℕ) (stack : List Val) (m : Match stack u w stack)
      → (not (list_any (is_closed w.machine) stack) && owned_once w.machine && owns_or_nil w.machine (slot_at w.machine s)) ≡ true
      → Part m.0 [] u.machine w.machine stack × (owned_once w.machine ≡ true) × (owns_or_nil w.machine (slot_at w.machine s) ≡ true)
  lone s stack m n =
      let none = not (list_any (is_closed w.machine) stack) in
      let first = and-left (none && owned_once w.machine) (owns_or_nil w.machine (slot_at w.machine s)) n in (
        none-own m.0 u.machine w.machine stack
            (not-true (list_any (is_closed w.machine) stack) (and-left none (owned_once w.machine) first)) m.1.machine,
        and-right none (owned_once w.machine) first,
        and-right (none && owned_once w.machine) (owns_or_nil w.machine (slot_at w.machine s)) n,
      )

  pub freeze-same : (s : ℕ) (stack : List Val) → needs code (i.Freeze s) stack w.machine ≡ true → Match (owners_of taken stack) u w stack
      → GoesOn true also go → SameEnd (free_act code at (i.Freeze s) also stack u) (act code at (i.Freeze s) go stack w)
  freeze-same s stack n m next =
      let now = match-more taken u w stack m in
      let x = lone s stack now n in
      take-same forgets go u w s stack (relabel true Frozen u) (relabel true Frozen w) x.2 now (forgets-on next) (λ r c into. (
        now.0,
        record {
          machine = part-freeze now.0 u.machine w.machine stack x.0 x.1 s r c into;
          input = now.1.input;
          printed = now.1.printed;
        },
      ))

  pub merge-same : (s : ℕ) (stack : List Val) → needs code (i.Merge s) stack w.machine ≡ true → Match (owners_of taken stack) u w stack
      → GoesOn true also go → SameEnd (free_act code at (i.Merge s) also stack u) (act code at (i.Merge s) go stack w)
  merge-same s stack n m next =
      let now = match-more taken u w stack m in
      let x = lone s stack now n in
      subst (λ z. SameEnd (on_object u.machine.store (slot_at u.machine s)
      (λ o. forgets 0 (slot_at u.machine s ∷ stack) (stored (with_store u (relabel false (Region z) u (region_of o.label))) s val.Nil)))
      (act code at (i.Merge s) go stack w)) (sym (ap top_region now.1.machine.windows))
      (take-same forgets go u w s stack (relabel false (Region (top_region w.machine.windows)) u)
      (relabel false (Region (top_region w.machine.windows)) w) x.2 now (forgets-on next) (λ r c into. (
        now.0,
        record {
          machine = part-merge now.0 u.machine w.machine stack x.0 x.1 s r c into;
          input = now.1.input;
          printed = now.1.printed;
        },
      )))
