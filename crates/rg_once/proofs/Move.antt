-- A step that freezes or merges a region gives objects of it, and of those beneath it, another label, and a reference into it is seen.
use Rattle.std.proofs.Common.{◌≡◌, ◌≢◌, ◌⊎◌, inl, inr, ℕ, Bool as Truth, true, false, if◌then◌else◌, List, [], ◌∷◌, ◌++◌, length, Some}
use Rattle.std.proofs.Common.{option_map, option_and_then, slice_get, slice_set, Ok, refl, sym, ap, ◌∙◌, subst}
use Rattle.std.specs.Prelude.{find}
use Rattle.std.proofs.lemmas.Bool.{cases_eq}
use Rattle.std.proofs.lemmas.List.{length-map, length-set}
use Rattle.std.proofs.lemmas.Option.{same_Some}
use Rattle.rg_base.specs.declared.object.Label.{Label}
use Rattle.rg_base.specs.declared.object.Label.TheVariants.{Region, Temp, Frozen}
use Rattle.rg_base.specs.declared.object.Place.{Place}
use Rattle.rg_base.specs.declared.object.Seen.{Seen}
use Rattle.rg_base.specs.declared.ty.Ty.{Ty}
use Rattle.rg_base.specs.declared.value.Val.{Val}
use Rattle.rg_base.specs.declared.value.Val.TheVariants as val
use Rattle.rg_base.specs.declared.words.Cap.{Cap}
use Rattle.rg_base.specs.declared.words.Cap.TheVariants.{Iso}
use Rattle.rg_tree.specs.Tree.{Name, Tree, Variable}
use Rattle.rg_tree.proofs.TreesFrom.{slice_get-push}
use Rattle.rg_rules.specs.Capabilities.{is_iso}
use Rattle.rg_rules.specs.Environment.{Entry, same_variable}
use Rattle.rg_rules.specs.Evaluation.{object_at}
use Rattle.rg_rules.specs.Expressions.{Judged}
use Rattle.rg_rules.specs.Items.{Item}
use Rattle.rg_rules.specs.Owners.{Above, leads_into}
use Rattle.rg_rules.specs.Regions.{address, beneath, in_regions, region_at, region_of, relabelled, relabelled_object}
use Rattle.rg_rules.specs.Rights.{judge_consumed}
use Rattle.rg_rules.specs.State.{Frame, Local, State, Window, add_local, place_in, put_local, set_in, top_locals, value_in}
use Rattle.rg_rules.specs.State.{with_top}
use Rattle.rg_rules.specs.Steps.{put_element, put_field}
use Rattle.rg_rules.specs.Types.{field_place, fields_of}
use Rattle.rg_rules.proofs.Local.{set_in-at}
use Rattle.rg_rules.proofs.Region.{fields-relabelled_object, slice_get-relabelled}
use Rattle.rg_sound.specs.Frames.{Named, Running}
use Rattle.rg_sound.specs.Values.{LabelFits, Meets}
use Rattle.rg_sound.proofs.Frames.Named.{Named-set_in, first-at}
use Rattle.rg_sound.proofs.Frames.Top.{Top, top-not_owner, top-sees}
use Rattle.rg_sound.proofs.Owners.Data.{Data}
use Rattle.rg_sound.proofs.Owners.Enter.{iso-type, owned-object, seen-iso}
use Rattle.rg_sound.proofs.Owners.Open.{IsOpenIn, above-open}
use Rattle.rg_sound.proofs.Owners.Owner.{get-set, get-set-other}
use Rattle.rg_sound.proofs.Owners.Receiver.{IsTop}
use Rattle.rg_sound.proofs.Stores.Beneath.{beneath-above, beneath-start}
use Rattle.rg_sound.proofs.Stores.Consume.{judge_consumed-parts, keeps-relabelled}
use Rattle.rg_sound.proofs.Stores.Element.{put_element-is}
use Rattle.rg_sound.proofs.Stores.Field.{put-field-is, with-field-is}
use Rattle.rg_sound.proofs.Stores.Freeze.{beneath-shut}
use Rattle.rg_sound.proofs.Stores.Member.{In, among-in, not-among}
use Rattle.rg_sound.proofs.Values.Right.{ready-not_lent, take-variable}
use Rattle.rg_sound.proofs.Values.Value.{seen-meets}
use Rattle.rg_once.proofs.Hang.{Hangs, Shifts}
use Rattle.rg_once.proofs.Made.{receiver-led}
use Rattle.rg_once.proofs.Seen.{IsSeen, Led}

-- a variable was taken whose region, with some beneath it, gets another label
pub record Taken (t : Tree) (p : State) (f : Frame) (fs : List Frame) (entries : List Entry) : Type 0 where
  pub after : State
  pub address : ℕ
  pub object : Seen
  pub there : slice_get p.store address ≡ Some object
  pub region : ℕ
  pub lies : object.label ≡ Region region
  pub regions : List ℕ
  pub label : Label
  pub store : after.store ≡ relabelled regions label p.store
  pub hang : (r : ℕ) → In r regions → Hangs t.classes p.store region r
  pub shut : (r : ℕ) → Hangs t.classes p.store region r → IsOpenIn p.windows r → ⊥
  pub locals : List Local
  pub frames : after.frames ≡ record f { locals = locals } ∷ fs
  pub named : Named entries locals
  pub windows : after.windows ≡ p.windows
  pub led : Led p address

-- another label of some regions
relabelled-label : (regions : List ℕ) (label : Label) (o : Seen) → ((relabelled_object regions label o).label ≡ o.label)
    ⊎ ((r : ℕ) × (o.label ≡ Region r) × In r regions)
relabelled-label regions label o = by (in_regions regions o.label) refl
  where
    lies : (l : Label) → in_regions regions l ≡ true → (r : ℕ) × (l ≡ Region r) × In r regions
    lies (Region r) e = (r, refl, among-in regions r e)
    lies (Temp n) e = absurd cc
    lies Frozen e = absurd cc

    by : (b : Truth) → in_regions regions o.label ≡ b
        → ((λ (x : Seen). x.label) (if b then record o { label = label } else o) ≡ o.label) ⊎ ((r : ℕ) × (o.label ≡ Region r) × In r regions)
    by true e = inr (lies o.label e)
    by false e = inl refl

module _ (t : Tree) (p : State) (f : Frame) (fs : List Frame) (rest later : List Item) (run : Running t f fs p.windows later)
    (top : Top t f fs p.windows later run) (here : p.frames ≡ f ∷ fs)
    (d : Data t.classes p.store (f ∷ fs) p.windows (length p.managers) p.windows_made) (cap : Cap) (y : Name) (wanted : Ty) (j : Judged)
    (typed : judge_consumed run.spot.env wanted cap y ≡ Ok j) (object : Seen)
    (at : object_at p.store (value_in f.locals (Some y)) ≡ Ok object) where
  abbrev emptied : List Local
  emptied = set_in (Some y) val.Nil f.locals

  abbrev f1 : Frame
  f1 = record f { locals = emptied }

  -- what is known of the variable that is taken
  pub record Gone : Type 0 where
    pub address : ℕ
    pub value : value_in f.locals (Some y) ≡ val.Obj address
    pub there : slice_get p.store address ≡ Some object
    pub region : ℕ
    pub lies : object.label ≡ Region region
    pub fits : Data t.classes p.store (f1 ∷ fs) p.windows (length p.managers) p.windows_made
    pub nonzero : region ≢ 0
    pub unowned : (q : Place) → leads_into t.classes p.store (f1 ∷ fs) q ≡ Some region → ⊥

  pub goes : Gone
  goes =
      let c = judge_consumed-parts run.spot.env wanted cap y j typed in
      let v = value_in f.locals (Some y) in
      let iso_ty = iso-type c.entry.ty c.class c.iso in
      let sees = top-sees t p.store f fs p.windows later run top d.values in
      let P : Ty → Type 0 = λ q. Meets p.store p.windows q v in
      let m = subst P (seen-iso run.spot.env c.entry c.class iso_ty)
      (seen-meets p.store p.windows (length fs) run.spot.env f.locals sees (Some y) c.entry c.there) in
      let w = owned-object p.store (LabelFits p.windows Iso) c.class v object (λ l q. q) m at in
      let e = first-at run.spot.env.entries f.locals (Some y) c.entry run.stands.named c.there in
      let k = take-variable t p.store f fs p.windows (length p.managers) p.windows_made (Some y) c.entry run.spot.env d run.stands.named c.there
      (ap is_iso iso_ty)
      (top-not_owner t f fs p.windows later run top (place_in f.locals (Some y)) c.entry e.entry_at (ready-not_lent c.entry.readiness c.ready)) in
      let led : option_and_then (region_at p.store) (address v) ≡ Some w.region =
      ap (λ q. option_and_then (region_at p.store) (address q)) w.value ∙ ap (option_and_then (λ (q : Seen). region_of q.label)) w.there
      ∙ ap region_of w.label_is in
      let free = k.unowned w.region led in
      record {
        address = w.address;
        value = w.value;
        there = w.there;
        region = w.region;
        lies = w.label_is;
        fits = k.fits;
        nonzero = free.0;
        unowned = free.1;
      }

  first-shut : IsOpenIn p.windows goes.region → ⊥
  first-shut open_in =
      beneath-shut t.classes p.store (f1 ∷ fs) p.windows (length p.managers) p.windows_made goes.region goes.fits goes.unowned goes.nonzero
      goes.region open_in (beneath-start t.classes p.store (length p.managers) (goes.region ∷ []) goes.region (inl refl))

  hanging-shut : (r : ℕ) → Hangs t.classes p.store goes.region r → IsOpenIn p.windows r → ⊥
  hanging-shut r (inl e) open_in = first-shut (subst (IsOpenIn p.windows) e open_in)
  hanging-shut r (inr above) open_in =
      first-shut (above-open t.classes p.store (f1 ∷ fs) p.windows goes.fits.opened.owned goes.fits.forest.none_into_first goes.region r above
      open_in)

  -- some regions that hang there get another label
  pub taken-with : (regions : List ℕ) (label : Label) → ((r : ℕ) → In r regions → Hangs t.classes p.store goes.region r)
      → (k : Taken t p f fs run.spot.env.entries)
      × (k.after ≡ put_local (Some y) (record (record p { items = rest }) { store = relabelled regions label p.store }) val.Nil)
      × (k.address ≡ goes.address)
  taken-with regions label hang = (taken, refl, refl)
    where
      taken : Taken t p f fs run.spot.env.entries
      taken = record {
        after = put_local (Some y) (record (record p { items = rest }) { store = relabelled regions label p.store }) val.Nil;
        address = goes.address;
        object = object;
        there = goes.there;
        region = goes.region;
        lies = goes.lies;
        regions = regions;
        label = label;
        store = refl;
        hang = hang;
        shut = hanging-shut;
        locals = emptied;
        frames = ap (λ (q : List Frame). with_top (set_in (Some y) val.Nil (top_locals q)) q) here;
        named = Named-set_in (Some y) val.Nil run.spot.env.entries f.locals run.stands.named;
        windows = refl;
        led = receiver-led t p (Some y) [] (value_in f.locals (Some y)) goes.address f fs here refl goes.value;
      }

  pub beneath-hangs : (r : ℕ) → In r (beneath t.classes p.store (length p.managers) (goes.region ∷ [])) → Hangs t.classes p.store goes.region r
  beneath-hangs r i = elim (beneath-above t.classes p.store (length p.managers) (goes.region ∷ []) r i) [
    | inl start ↦ inl (alone r start)
    | inr q ↦ inr (subst (λ n. Above t.classes p.store n r) (alone q.0 q.1) q.2)
  ]
    where
      alone : (r : ℕ) → In r (goes.region ∷ []) → r ≡ goes.region
      alone r (inl e) = sym e
      alone r (inr h) = absurd h

  pub alone-hangs : (r : ℕ) → In r (goes.region ∷ []) → Hangs t.classes p.store goes.region r
  alone-hangs r (inl e) = inl (sym e)
  alone-hangs r (inr h) = absurd h

-- Where the reference goes

module _ (t : Tree) (p : State) (f : Frame) (fs : List Frame) (entries : List Entry) (k : Taken t p f fs entries) where
  at-after : (a : ℕ) (o : Seen) → slice_get p.store a ≡ Some o → slice_get k.after.store a ≡ Some (relabelled_object k.regions k.label o)
  at-after a o e =
      ap (λ l. slice_get l a) k.store ∙ slice_get-relabelled k.regions k.label p.store a ∙ ap (option_map (relabelled_object k.regions k.label)) e

  after-labels : (a : ℕ) (o v : Seen) → slice_get p.store a ≡ Some o → slice_get k.after.store a ≡ Some v
      → (v.label ≡ o.label) ⊎ ((r : ℕ) × (o.label ≡ Region r) × Hangs t.classes p.store k.region r)
  after-labels a o v e g =
      let same : v ≡ relabelled_object k.regions k.label o = same_Some v (relabelled_object k.regions k.label o) (sym g ∙ at-after a o e) in
      elim (relabelled-label k.regions k.label o) [
        | inl label ↦ inl (ap (λ (x : Seen). x.label) same ∙ label)
        | inr x ↦ inr (x.0, x.1, k.hang x.0 x.2)
      ]

  after-fields : (a : ℕ) (o : Seen) → slice_get p.store a ≡ Some o → (v : Seen) × (slice_get k.after.store a ≡ Some v) × (v.fields ≡ o.fields)
  after-fields a o e = (relabelled_object k.regions k.label o, at-after a o e, fields-relabelled_object k.regions k.label o)

  after-count : length k.after.store ≡ length p.store
  after-count = ap length k.store ∙ length-map p.store (relabelled_object k.regions k.label)

  -- from what is seen of the reference behind it
  shifts-by : (q : State) → q.windows ≡ p.windows → IsSeen p q k.address → length q.store ≡ length p.store
      → ((a : ℕ) (o v : Seen) → slice_get p.store a ≡ Some o → slice_get q.store a ≡ Some v
      → (v.label ≡ o.label) ⊎ ((r : ℕ) × (o.label ≡ Region r) × Hangs t.classes p.store k.region r))
      → ((a : ℕ) (o : Seen) (r : ℕ) → slice_get p.store a ≡ Some o → o.label ≡ Region r → Hangs t.classes p.store k.region r
      → (v : Seen) × (slice_get q.store a ≡ Some v) × (v.fields ≡ o.fields)) → Shifts t.classes p q
  shifts-by q windows seen count labels fields = record {
    first = k.region;
    root = k.address;
    object = k.object;
    there = k.there;
    lies = k.lies;
    led = k.led;
    seen = seen;
    windows = windows;
    count = count;
    labels = labels;
    fields = fields;
  }

  -- and where the store is that behind the move
  shifts-after : (q : State) → q.windows ≡ p.windows → q.store ≡ k.after.store → IsSeen p q k.address → Shifts t.classes p q
  shifts-after q windows store seen =
      shifts-by q windows seen (ap length store ∙ after-count)
      (λ a o v e g. after-labels a o v e (ap (λ l. slice_get l a) (sym store) ∙ g))
      (λ a o r e label hangs. (let v = after-fields a o e in (v.0, ap (λ l. slice_get l a) store ∙ v.1, v.2)))

  -- in a new variable
  pub declare-shifts : (x : Variable) (ty : Ty) → Shifts t.classes p (add_local x ty k.after (val.Obj k.address))
  declare-shifts x ty = shifts-after (add_local x ty k.after (val.Obj k.address)) k.windows refl (inl (record {
    top = record f { locals = k.locals ++ record { name = x; ty = ty; value = val.Obj k.address } ∷ [] };
    rest = fs;
    frames = ap (λ gs. with_top (top_locals gs ++ record { name = x; ty = ty; value = val.Obj k.address } ∷ []) gs) k.frames;
    place = length k.locals;
    local = record { name = x; ty = ty; value = val.Obj k.address };
    there = slice_get-push k.locals (record { name = x; ty = ty; value = val.Obj k.address });
    leads = refl;
  }))

  -- in a variable that is there
  pub assign-shifts : (x : Variable) (e : Entry) → find (λ (o : Entry). same_variable o.name x) entries ≡ Some e
      → Shifts t.classes p (put_local x k.after (val.Obj k.address))
  assign-shifts x e found =
      let m = first-at entries k.locals x e k.named found in
      shifts-after (put_local x k.after (val.Obj k.address)) k.windows refl (inl (record {
        top = record f { locals = set_in x (val.Obj k.address) k.locals };
        rest = fs;
        frames = ap (λ gs. with_top (set_in x (val.Obj k.address) (top_locals gs)) gs) k.frames;
        place = place_in k.locals x;
        local = record m.local { value = val.Obj k.address };
        there = ap (λ ls. slice_get ls (place_in k.locals x)) (set_in-at x (val.Obj k.address) k.locals m.local m.local_at)
            ∙ get-set k.locals (place_in k.locals x) (record m.local { value = val.Obj k.address }) m.local m.local_at;
        leads = refl;
      }))

  -- at a place of an object of the topmost window
  module _ (host : Seen) (b n : ℕ) (x : Val) (stood : slice_get p.store b ≡ Some host) (top : IsTop p.windows host.label)
      (value : slice_get host.fields n ≡ Some x) (led : Led p b) where
    abbrev now : Seen
    now = record host { fields = slice_set host.fields n (val.Obj k.address) }

    abbrev q : State
    q = record k.after { store = slice_set k.after.store b now }

    was : slice_get k.after.store b ≡ Some host
    was =
        ap (λ l. slice_get l b) k.store
        ∙ keeps-relabelled k.regions k.label p.store p.windows
        (λ r open_in. not-among k.regions r (λ i. k.shut r (k.hang r i) open_in)) b host stood top

    host-not : (r : ℕ) → host.label ≡ Region r → Hangs t.classes p.store k.region r → ⊥
    host-not r label hangs = k.shut r hangs (by p.windows top)
      where
        region-is : {i j : ℕ} → Region i ≡ Region j → i ≡ j
        region-is e = cc

        by : (ws : List Window) → IsTop ws host.label → IsOpenIn ws r
        by [] h = absurd h
        by (w ∷ ws) (inl h) = inl (region-is (sym h ∙ label))
        by (w ∷ ws) (inr h) = (let e : Temp w.number ≡ Region r = sym h ∙ label in absurd cc)

    q-labels : (a : ℕ) (o v : Seen) → slice_get p.store a ≡ Some o → slice_get q.store a ≡ Some v
        → (v.label ≡ o.label) ⊎ ((r : ℕ) × (o.label ≡ Region r) × Hangs t.classes p.store k.region r)
    q-labels a o v e g = elim (cases_eq a b) [
      | inl same ↦
          inl (ap (λ (x : Seen). x.label) (same_Some v now (sym g ∙ ap (slice_get q.store) same ∙ get-set k.after.store b now host was))
          ∙ ap (λ (x : Seen). x.label) (same_Some host o (sym stood ∙ ap (slice_get p.store) (sym same) ∙ e)))
      | inr other ↦ after-labels a o v e (sym (get-set-other k.after.store b a now other) ∙ g)
    ]

    q-fields : (a : ℕ) (o : Seen) (r : ℕ) → slice_get p.store a ≡ Some o → o.label ≡ Region r → Hangs t.classes p.store k.region r
        → (v : Seen) × (slice_get q.store a ≡ Some v) × (v.fields ≡ o.fields)
    q-fields a o r e label hangs = elim (cases_eq a b) [
      | inl same ↦
          absurd (host-not r (ap (λ (x : Seen). x.label) (same_Some host o (sym stood ∙ ap (slice_get p.store) (sym same) ∙ e)) ∙ label) hangs)
      | inr other ↦
          (let v = after-fields a o e in (v.0, get-set-other k.after.store b a now other ∙ v.1, v.2))
    ]

    place-shifts : Shifts t.classes p q
    place-shifts = shifts-by q k.windows (inr (record {
      object = b;
      host = host;
      stood = stood;
      top = top;
      windows = k.windows;
      now = now;
      there = get-set k.after.store b now host was;
      label = refl;
      field = n;
      leads = get-set host.fields n (val.Obj k.address) x value;
      led = led;
    })) (length-set k.after.store b now ∙ after-count) q-labels q-fields

    -- in a field
    pub field-shifts : (at : Val) (name : Name) → at ≡ val.Obj b → field_place (fields_of t.classes host.class) name ≡ Some n
        → Shifts t.classes p (put_field t.classes at name k.after (val.Obj k.address))
    field-shifts at name is place =
        subst (Shifts t.classes p) (sym (put-field-is t.classes at name k.after (val.Obj k.address) b host is was
        ∙ ap (λ v. record k.after { store = slice_set k.after.store b v }) (with-field-is t.classes name (val.Obj k.address) host n place)))
        place-shifts

    -- in an element
    pub element-shifts : (at : Val) → at ≡ val.Obj b → Shifts t.classes p (put_element at n k.after (val.Obj k.address))
    element-shifts at is = subst (Shifts t.classes p) (sym (put_element-is at n k.after (val.Obj k.address) b host is was)) place-shifts
