-- What a machine holds of a state that fits is held there, and no reference that it holds is stale.
use Rattle.std.proofs.Common.{◌≡◌, ℕ, zero, suc, ◌+◌, ◌<◌, ◌≤◌, ◌⊎◌, inl, inr, Bool as Truth, true, false, List, [], ◌∷◌, ◌++◌, map, length}
use Rattle.std.proofs.Common.{Option, Some, None, option_map, option_and_then, slice_get, refl, sym, ap, subst, ◌∙◌, arith, true≢false}
use Rattle.std.proofs.lemmas.Option.{same_Some}
use Rattle.std.proofs.lemmas.Bool.{cases_eq}
use Rattle.rg_base.specs.declared.object.Label.{Label}
use Rattle.rg_base.specs.declared.object.Label.TheVariants.{Region, Temp, Frozen}
use Rattle.rg_base.specs.declared.object.Place.{Place}
use Rattle.rg_base.specs.declared.object.Place.TheVariants.{Var, Field}
use Rattle.rg_base.specs.declared.object.Seen.{Seen}
use Rattle.rg_base.specs.declared.value.Val.{Val}
use Rattle.rg_base.specs.declared.value.Val.TheVariants.{Obj}
use Rattle.rg_base.proofs.Callers.Lists.{there as get-below}
use Rattle.rg_tree.specs.Tree.{Class, Tree}
use Rattle.rg_rules.specs.State.{Local, State, Frame as Body, Window as Opened, frame_at}
use Rattle.rg_rules.specs.Regions.{region_of}
use Rattle.rg_rules.specs.Owners.{leads_into, Parent, Above, direct}
use Rattle.rg_sound.specs.Windows.{IsOpen}
use Rattle.rg_sound.specs.Values.{ValuesFit}
use Rattle.rg_sound.specs.OpenRegions.{IsNear, AllOwned}
use Rattle.rg_sound.specs.Numbers.{LabelGiven}
use Rattle.rg_sound.specs.Fit.{Fit}
use Rattle.rg_sound.specs.Held.{IsLive, HoldsLabel, IsHeld, LiveFit}
use Rattle.rg_sound.proofs.Basics.{none-some}
use Rattle.rg_sound.proofs.Held.{fit-holds}
use Rattle.rg_sound.proofs.Owners.Data.{Data, fit-data}
use Rattle.rg_sound.proofs.Owners.Open.{IsOpenIn, above-trans}
use Rattle.rg_sound.proofs.Owners.Owner.{frame_at-top, frame_at-lower}
use Rattle.rg_sound.proofs.Stores.Member.{In, in-among, not-among, counted, counted-most, counted-rises}
use Rattle.rg_code.specs.Code.{Code}
use Rattle.rg_stack.specs.Machine.{Frame, Machine}
use Rattle.rg_stack.specs.Labels.{is_open}
use Rattle.rg_stack.specs.Shows.{Shows, ShowsFrame, ShowsFrames, sizes_of}
use Rattle.rg_stack.proofs.Callers.Lead.{ShowsFit, LeadsInto, into-leads, shown-closed, open-shown, shown-number}
use Rattle.rg_stack.proofs.Callers.Lead.{frame-leads, leads-more, field-leads}
use Rattle.rg_held.specs.Gone.{gone}
use Rattle.rg_held.specs.Part.{leads_to, SlotInto, FieldInto, Placed, Part}
use Rattle.rg_held.specs.Shown.{ShowsHeld}
use Rattle.rg_machine.specs.Parts.{machine_in}
use Rattle.rg_run.specs.Machine.{Kept}
use Rattle.rg_run.specs.Sound.{HoldsOf}

-- Variables

front-shows : (locals : List Local) (rest : List Val) (i : ℕ) (l : Local) → slice_get locals i ≡ Some l →
    slice_get (map (λ (l : Local). l.value) locals ++ rest) i ≡ Some l.value
front-shows [] rest i l e = none-some e
front-shows (x ∷ xs) rest zero l e = ap (option_map (λ (l : Local). l.value)) e
front-shows (x ∷ xs) rest (suc i) l e = front-shows xs rest i l e

-- where slots lead to what passes a test, variables do
locals-lead : (test : ℕ → Truth) (fs : List Frame) (bs : List Body) → ShowsFrames fs bs →
    ((n : ℕ) (h : Frame) (s : ℕ) (v : Val) → slice_get fs n ≡ Some h → slice_get h.slots s ≡ Some v → leads_to test v ≡ true) →
    (n i : ℕ) (b : Body) (l : Local) → frame_at bs n ≡ Some b → slice_get b.locals i ≡ Some l → leads_to test l.value ≡ true
locals-lead test [] [] h lead n i b l at there = none-some at
locals-lead test [] (c ∷ bs) h lead n i b l at there = absurd h
locals-lead test (f ∷ fs) [] h lead n i b l at there = absurd h
locals-lead test (f ∷ fs) (c ∷ bs) h lead n i b l at there = elim (cases_eq n (length bs)) [
  | inl here ↦
      let same : c ≡ b = same_Some c b (sym (frame_at-top c bs) ∙ ap (frame_at (c ∷ bs)) (sym here) ∙ at) in
      let shows : ShowsFrame f b = (let P : Body → Type 0 = λ q. ShowsFrame f q in subst P same h.0) in
      lead 0 f i l.value refl (ap (λ q. slice_get q i) shows ∙ front-shows b.locals _ i l there)
  | inr other ↦ locals-lead test fs bs h.1 (λ k. lead (suc k)) n i b l (sym (frame_at-lower c bs n other) ∙ at) there
]

-- a slot that leads into a closed region is an owner's
slot-owns : (classes : List Class) (store : List Seen) (ps : List Opened) (r : ℕ) → (IsOpen ps (Region r) → ⊥) → (fs : List Frame) (bs : List Body) →
    ShowsFrames fs bs → ValuesFit store ps bs → (n s : ℕ) (h : Frame) (v : Val) → slice_get fs n ≡ Some h → slice_get h.slots s ≡ Some v →
    LeadsInto store r v → (k : ℕ) × (i : ℕ) × (leads_into classes store bs (Var k i) ≡ Some r)
slot-owns classes store ps r away [] bs shows values n s h v there at d = none-some there
slot-owns classes store ps r away (f ∷ fs) [] shows values n s h v there at d = absurd shows
slot-owns classes store ps r away (f ∷ fs) (b ∷ bs) shows values zero s h v there at d = (
  length bs,
  s,
  frame-leads classes store ps f b bs s v r shows.0 values.0 away (ap (λ (q : Frame). slice_get q.slots s) (same_Some f h there) ∙ at) d,
)
slot-owns classes store ps r away (f ∷ fs) (b ∷ bs) shows values (suc n) s h v there at d =
    let y = slot-owns classes store ps r away fs bs shows.1 values.1 n s h v there at d in
    (y.0, y.1, (leads-more classes store b bs y.0 y.1 r y.2).1)

-- Open regions are live

open-lives : (classes : List Class) (s : State) → LiveFit classes s → (ws : List Opened) → AllOwned classes s.store s.frames ws →
    ((n : ℕ) → In n (map (λ (w : Opened). w.number) ws) → In n (map (λ (w : Opened). w.number) s.windows)) → (r : ℕ) → IsOpenIn ws r →
    IsLive classes s r
open-lives classes s lives [] owned all r o = absurd o
open-lives classes s lives (w ∷ []) owned all r (inl e) =
    let P : ℕ → Type 0 = λ q. IsLive classes s q in subst P (sym owned.0 ∙ e) lives.first
open-lives classes s lives (w ∷ []) owned all r (inr o) = absurd o
open-lives classes s lives (w ∷ v ∷ ws) owned all r (inr o) = open-lives classes s lives (v ∷ ws) owned.1 (λ n i. all n (inr i)) r o
open-lives classes s lives (w ∷ v ∷ ws) owned all r (inl e) =
    by owned.0.place refl (open-lives classes s lives (v ∷ ws) owned.1 (λ n i. all n (inr i)) v.region (inl refl))
  where
    leads : leads_into classes s.store s.frames owned.0.place ≡ Some r
    leads = (owned.0.exact owned.0.place).1 refl ∙ ap Some e

    label : (l : Label) → IsLive classes s v.region → (l ≡ Region v.region) ⊎ (l ≡ Temp v.number) → HoldsLabel classes s l
    label l lower (inl is) = let P : Label → Type 0 = λ q. HoldsLabel classes s q in subst P (sym is) lower
    label l lower (inr is) =
        let P : Label → Type 0 = λ q. HoldsLabel classes s q in
        subst P (sym is) (in-among (map (λ (w : Opened). w.number) s.windows) v.number (all v.number (inr (inl refl))))

    by : (p : Place) → owned.0.place ≡ p → IsLive classes s v.region → IsLive classes s r
    by (Var n i) is lower = lives.led (Var n i) r tt (ap (leads_into classes s.store s.frames) (sym is) ∙ leads)
    by (Field a k) is lower =
        let P : Place → Type 0 = λ q. IsNear s.store w v q in
        let near = subst P is owned.0.near in
        lives.led (Field a k) r (record { object = near.0; there = near.1; held = label near.0.label lower near.2 })
        (ap (leads_into classes s.store s.frames) (sym is) ∙ leads)

-- What the machine that frees holds beside the one that only grows, which shows a state that fits

module _ (t : Tree) (code : Code) (f m : Machine) (s : State) (held : ℕ → Truth) (fit : Fit t s) (shows : Shows t.classes code m s)
    (p : Part held [] f m []) where
  abbrev data-fits : ShowsFit t.classes m s.frames s.windows
  data-fits = record {
    regions = length s.managers;
    made = s.windows_made;
    sizes = sizes_of m.frames;
    fits = subst (λ q. Data t.classes q s.frames s.windows (length s.managers) s.windows_made) (sym shows.store) (fit-data t s fit);
    slots = shows.slots;
    windows = shows.windows;
  }

  lives : LiveFit t.classes s
  lives = (fit-holds t s fit).live_regions

  opens : (r : ℕ) → is_open m.windows r ≡ true → IsLive t.classes s r
  opens r o =
      open-lives t.classes s lives s.windows fit.opened.owned (λ n i. i) r (open-shown (sizes_of m.frames) m.windows s.windows r shows.windows o)

  at-state : (a : ℕ) (q : Option Seen) → slice_get m.store a ≡ q → slice_get s.store a ≡ q
  at-state a q e = ap (λ l. slice_get l a) (sym shows.store) ∙ e

  leads-state : (q : Place) (r : ℕ) → leads_into t.classes m.store s.frames q ≡ Some r → leads_into t.classes s.store s.frames q ≡ Some r
  leads-state q r e = ap (λ l. leads_into t.classes l s.frames q) (sym shows.store) ∙ e

  -- an object of the region is held
  record HasObject (r : ℕ) : Type 0 where
    pub address : ℕ
    pub object : Seen
    pub here : held address ≡ true
    pub there : slice_get m.store address ≡ Some object
    pub lies : object.label ≡ Region r

  given : (r : ℕ) → HasObject r → r < length s.managers
  given r x =
      let P : Label → Type 0 = λ q. LabelGiven (length s.managers) s.windows_made q in
      subst P x.lies (fit.numbers.labels x.address x.object (at-state x.address (Some x.object) x.there))

  -- a closed region of which an object is held is live, where the one is that has its owner reference
  by-owner : (r : ℕ) → HasObject r → is_open m.windows r ≡ false →
      ((q : ℕ) → HasObject q → Parent t.classes s.store q r → IsLive t.classes s q) → IsLive t.classes s r
  by-owner r x shut upper = by (p.owned x.address x.object r x.here x.there x.lies shut)
    where
      field : (g : FieldInto m r) → held g.object ≡ true → IsLive t.classes s r
      field g here = lives.led (Field g.object g.field) r (record { object = g.holder; there = there; held = label g.holder.label refl }) leads
        where
          there : slice_get s.store g.object ≡ Some g.holder
          there = at-state g.object (Some g.holder) g.holder_there

          leads : leads_into t.classes s.store s.frames (Field g.object g.field) ≡ Some r
          leads = leads-state (Field g.object g.field) r
              (field-leads t.classes m s.frames s.windows data-fits g.object g.field r g.holder g.value g.holder_there g.outside g.value_there
              (record { leads = into-leads m.store r g.value g.into; closed = shut }))

          label : (l : Label) → g.holder.label ≡ l → HoldsLabel t.classes s l
          label (Region q) is = upper q
              (record { address = g.object; object = g.holder; here = here; there = g.holder_there; lies = is })
              (record {
                object = g.object;
                field = g.field;
                lies = ap (option_and_then (λ (o : Seen). region_of o.label)) there ∙ ap region_of is;
                leads = leads;
              })
          label (Temp n) is = in-among (map (λ (w : Opened). w.number) s.windows) n
              (shown-number (sizes_of m.frames) m.windows s.windows n shows.windows (p.temps g.object g.holder n here g.holder_there is))
          label Frozen is = tt

      slot : SlotInto m r → IsLive t.classes s r
      slot g =
          let away = shown-closed (sizes_of m.frames) m.windows s.windows r shows.windows shut in
          let y = slot-owns t.classes m.store s.windows r away m.frames s.frames shows.slots data-fits.fits.values g.frame g.slot g.holder g.value
          g.holder_there g.value_there (into-leads m.store r g.value g.into) in
          lives.led (Var y.0 y.1) r tt (leads-state (Var y.0 y.1) r y.2)

      by : Placed held m r ⊎ (false ≡ true) → IsLive t.classes s r
      by (inl (inl g)) = slot g
      by (inl (inr g)) = field g.0 g.1
      by (inr e) = absurd (true≢false (sym e))

  -- regions that hang beneath it aren't it
  rises : (below : List ℕ) (r : ℕ) → HasObject r → ((q : ℕ) → In q below → Above t.classes s.store r q) →
      counted (length s.managers) below < counted (length s.managers) (r ∷ below)
  rises below r x above =
      counted-rises (length s.managers) below (r ∷ below) (λ k i. inr i) r (given r x)
      (not-among below r (λ i. fit.forest.no_cycle r (above r i))) (inl refl)

  -- up the chain of owners, which ends
  climb : (left : ℕ) (below : List ℕ) → length s.managers ≤ left + counted (length s.managers) below → (r : ℕ) → HasObject r →
      ((q : ℕ) → In q below → Above t.classes s.store r q) → IsLive t.classes s r
  climb zero below enough r x above =
      let less = rises below r x above in
      let most = counted-most (length s.managers) (r ∷ below) in absurd (omega (arith, enough, less, most))
  climb (suc left) below enough r x above =
      by (is_open m.windows r) refl (λ q y parent. climb left (r ∷ below) more q y (beneath q parent))
    where
      more : length s.managers ≤ left + counted (length s.managers) (r ∷ below)
      more = let less = rises below r x above in omega (arith, enough, less)

      beneath : (q : ℕ) → Parent t.classes s.store q r → (k : ℕ) → In k (r ∷ below) → Above t.classes s.store q k
      beneath q parent k (inl e) = let P : ℕ → Type 0 = λ z. Above t.classes s.store q z in subst P e (direct parent)
      beneath q parent k (inr i) = above-trans t.classes s.store q r k (direct parent) (above k i)

      by : (b : Truth) → is_open m.windows r ≡ b → ((q : ℕ) → HasObject q → Parent t.classes s.store q r → IsLive t.classes s q) →
          IsLive t.classes s r
      by true has upper = opens r has
      by false shut upper = by-owner r x shut upper

  -- what the machine that frees holds is held in the state
  label-held : (a : ℕ) (o : Seen) → held a ≡ true → slice_get m.store a ≡ Some o → (l : Label) → o.label ≡ l → HoldsLabel t.classes s l
  label-held a o here there (Region r) is =
      climb (length s.managers) [] (omega arith) r (record { address = a; object = o; here = here; there = there; lies = is }) (λ q i. absurd i)
  label-held a o here there (Temp n) is = in-among (map (λ (w : Opened). w.number) s.windows) n
      (shown-number (sizes_of m.frames) m.windows s.windows n shows.windows (p.temps a o n here there is))
  label-held a o here there Frozen is = tt

  is-held : (a : ℕ) → held a ≡ true → IsHeld t.classes s a
  is-held a here =
      let o = get-below m.store a (p.there a here) in
      record { object = o.0; there = at-state a (Some o.0) o.1; held = label-held a o.0 here o.1 o.0.label refl }

  gone-there : (q : Option Seen) (o : Seen) → option_map (λ (o : Seen). gone) q ≡ Some o → o ≡ gone
  gone-there None o e = none-some e
  gone-there (Some x) o e = sym (same_Some gone o e)

  pub holds-by : (k : Kept) → (machine_in k.stepper.parts) ≡ f → HoldsOf t.classes k s
  holds-by k is =
      let stored : (machine_in k.stepper.parts).store ≡ f.store = ap (λ (x : Machine). x.store) is in
      record {
        holds = held;
        made = ap length stored ∙ p.objects_made ∙ ap length shows.store;
        held = is-held;
        same = λ a o here there. ap (λ l. slice_get l a) stored ∙ p.same a here ∙ ap (λ l. slice_get l a) shows.store ∙ there;
        others = λ a o away there. gone-there (slice_get m.store a) o (sym (p.others a away) ∙ ap (λ l. slice_get l a) (sym stored) ∙ there);
        locals = λ n i b l a at there value.
            ap (leads_to held) (sym value) ∙ locals-lead held m.frames s.frames shows.slots p.slots n i b l at there;
        fields = λ a j o b here there at. p.fields a o j (Obj b) here (sym (p.same a here) ∙ ap (λ l. slice_get l a) (sym stored) ∙ there) at;
      }

-- a machine that shows a state that fits, as far as it holds it
pub holds-of : (t : Tree) (code : Code) (k : Kept) (s : State) → Fit t s → ShowsHeld t.classes code (machine_in k.stepper.parts) s
    → HoldsOf t.classes k s
holds-of t code k s fit h = holds-by t code (machine_in k.stepper.parts) h.grown s h.held fit h.shows h.beside k refl
