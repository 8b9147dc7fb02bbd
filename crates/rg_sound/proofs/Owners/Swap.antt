-- `swap y, q.f` keeps the invariant.
use Rattle.std.proofs.Common.{◌≡◌, ◌≢◌, refl, sym, ◌∙◌, ap, subst, ◌⊎◌, inl, inr, ℕ, ◌==◌, Bool as Truth, true, false, if◌then◌else◌, List, []}
use Rattle.std.proofs.Common.{◌∷◌, length, Option, Some, None, option_and_then, slice_get, slice_set, Ok, arith}
use Rattle.std.proofs.lemmas.Bool.{and_parts, eqb-false}
use Rattle.rg_base.specs.declared.words.Cap.TheVariants.{Mut, Tmp, Paused, Imm, Iso}
use Rattle.rg_base.specs.declared.ty.Ty.{Ty}
use Rattle.rg_base.specs.declared.ty.Ty.TheVariants.{Int, Bool, Ref}
use Rattle.rg_base.specs.declared.object.Label.{Label}
use Rattle.rg_base.specs.declared.object.Label.TheVariants.{Region, Temp, Frozen}
use Rattle.rg_base.specs.declared.object.Place.{Place}
use Rattle.rg_base.specs.declared.object.Place.TheVariants.{Var, Field}
use Rattle.rg_base.specs.declared.object.Seen.{Seen}
use Rattle.rg_base.specs.declared.value.Val.{Val}
use Rattle.rg_base.specs.declared.value.Val.TheVariants.{Nil}
use Rattle.rg_tree.specs.Tree.{Name, Variable, Path, Field as FieldOfClass, StmtKind, swap, stmt, Class, Tree}
use Rattle.rg_rules.specs.Acceptance.{Accepted}
use Rattle.rg_rules.specs.Capabilities.{below, is_iso}
use Rattle.rg_rules.specs.Types.{type_of, fields_of}
use Rattle.rg_rules.specs.Environment.{Env, Entry, entry_of, same_variable}
use Rattle.rg_rules.specs.Paths.{all_but_last, last_field}
use Rattle.rg_rules.specs.Statements.{judge_swap}
use Rattle.rg_rules.specs.Items.{Item, Do}
use Rattle.rg_rules.specs.State.{Local, Frame, Window, State, locals_of, top_locals, value_in, place_in, set_in, put_local, with_top}
use Rattle.rg_rules.specs.Evaluation.{object_at, field_value, follow_fields}
use Rattle.rg_rules.specs.Regions.{region_at, address, owned, owned_as}
use Rattle.rg_rules.specs.Owners.{owned_by_slot, owned_by_field, owned_in_field, owned_in_frame, leads_into}
use Rattle.rg_rules.specs.Steps.{step_kind, put_field}
use Rattle.rg_rules.proofs.Answers.{bind-ok, at_line-ok}
use Rattle.rg_rules.proofs.Step.{stepped-went}
use Rattle.rg_rules.proofs.Local.{set_in-at, place_in-set_in}
use Rattle.rg_sound.specs.Windows.{windows_of, windows_from}
use Rattle.rg_sound.specs.Values.{IsRegion, MeetsBy, Meets}
use Rattle.rg_sound.specs.Objects.{TempFieldFits, FieldFits}
use Rattle.rg_sound.specs.Frames.{Named, Running}
use Rattle.rg_sound.specs.Laws.{StaysFit, SwapKeeps}
use Rattle.rg_sound.proofs.Basics.{none-some}
use Rattle.rg_sound.proofs.Frames.Advance.{running-advance}
use Rattle.rg_sound.proofs.Frames.Named.{Named-set_in, first-at}
use Rattle.rg_sound.proofs.Frames.Entry.{Stays, Stays-same}
use Rattle.rg_sound.proofs.Frames.Judge.{Swapped, judge_swap-parts}
use Rattle.rg_sound.proofs.Values.Value.{MeetsRef-map, seen-meets}
use Rattle.rg_sound.proofs.Owners.Owner.{get-set, get-set-other}
use Rattle.rg_sound.proofs.Owners.Data.{Data, data-fit, Puts, puts-set, put-local}
use Rattle.rg_sound.proofs.Frames.Stands.{stands-stays}
use Rattle.rg_sound.proofs.Frames.Top.{top-sees, top-not_owner}
use Rattle.rg_sound.proofs.Values.Right.{take-variable, ready-not_lent}
use Rattle.rg_sound.proofs.Values.Assign.{Doing, doing, doing-judges}
use Rattle.rg_sound.proofs.Owners.Receiver.{IsTop, receiver-at, receiver-value, field-leads, top-not_owner_field}
use Rattle.rg_sound.proofs.Owners.Enter.{seen-iso}
use Rattle.rg_sound.proofs.Values.Argument.{take-less, take-was}
use Rattle.rg_sound.proofs.Stores.Replace.{MeetsRef-kept, owned-label, replaced-keeps, replaced-region}
use Rattle.rg_sound.proofs.Stores.Field.{field-set, field-holds, allowed-set, with-field-is, put-field-is}
use Rattle.rg_sound.proofs.Owners.Open.{store-put}
use Rattle.rg_sound.proofs.Owners.Owner.{length-slice_set}
use Rattle.rg_sound.proofs.Frames.Quiet.{active-allowed}
use Rattle.rg_sound.proofs.Owners.Bridge.{classes-set, named-types, bridges-top}

set-twice : (x : Variable) (v w : Val) (ls : List Local) → set_in x w (set_in x v ls) ≡ set_in x w ls
set-twice x v w [] = refl
set-twice x v w (m ∷ ls) = by (same_variable m.name x) refl (set-twice x v w ls)
  where
    by : (b : Truth) → same_variable m.name x ≡ b → set_in x w (set_in x v ls) ≡ set_in x w ls →
        set_in x w (if b then record m { value = v } ∷ ls else m ∷ set_in x v ls) ≡ (if b then record m { value = w } ∷ ls else m ∷ set_in x w ls)
    by true at rest = rw at refl
    by false at rest = rw at (ap (λ q. m ∷ q) rest)

iso-ref : (t : Ty) → is_iso t ≡ true → (c : ℕ) × (t ≡ Ref Iso c)
iso-ref Int h = grind arith
iso-ref Bool h = grind arith
iso-ref (Ref Mut c) h = grind arith
iso-ref (Ref Tmp c) h = grind arith
iso-ref (Ref Paused c) h = grind arith
iso-ref (Ref Imm c) h = grind arith
iso-ref (Ref Iso c) h = (c, refl)

below-iso_same : (c : ℕ) (t : Ty) → below t (Ref Iso c) ≡ true → t ≡ Ref Iso c
below-iso_same c Int h = grind arith
below-iso_same c Bool h = grind arith
below-iso_same c (Ref Mut d) h = let p = and_parts (d == c) false h in grind arith
below-iso_same c (Ref Tmp d) h = let p = and_parts (d == c) false h in grind arith
below-iso_same c (Ref Paused d) h = let p = and_parts (d == c) false h in grind arith
below-iso_same c (Ref Imm d) h = let p = and_parts (d == c) false h in grind arith
below-iso_same c (Ref Iso d) h = let p = and_parts (d == c) true h in let same : d ≡ c = let q = p.0 in grind arith in ap (Ref Iso) same

field-iso : (ws : List Window) (own : Label) → IsTop ws own → (l : Label) → FieldFits ws own Iso l → IsRegion l
field-iso ws (Region r) top l h = h
field-iso ws (Temp n) top l h = by (windows_from n ws) h
  where
    by : (vs : List Window) → TempFieldFits vs Iso l → IsRegion l
    by [] g = g
    by (v ∷ vs) g = g
field-iso [] Frozen top l h = absurd top
field-iso (w ∷ ws) Frozen (inl top) l h = grind arith
field-iso (w ∷ ws) Frozen (inr top) l h = grind arith

slot-owner : (classes : List Class) (o n : Seen) (k : ℕ) (f : FieldOfClass) (v : Val) → slice_get (fields_of classes o.class) k ≡ Some f →
    slice_get (slice_set o.fields k v) k ≡ Some v →
    is_iso (type_of classes f.ty) ≡ true → owned_by_slot classes (record o { fields = slice_set o.fields k v }) k ≡ address v
slot-owner classes o n k f v at now iso =
    let a : owned_by_slot classes (record o { fields = slice_set o.fields k v }) k ≡ owned_as classes f v = rw (at, now) refl in
    a ∙ ap (λ (b : Truth). if b then address v else None) iso

-- regions stay where objects keep their labels
region-back : (old new : List Seen) → ((b : ℕ) → region_at new b ≡ region_at old b) → (w : Val) (r : ℕ) →
    option_and_then (region_at new) (address w) ≡ Some r → option_and_then (region_at old) (address w) ≡ Some r
region-back old new same w r h = by (address w) h
  where
    by : (o : Option ℕ) → option_and_then (region_at new) o ≡ Some r → option_and_then (region_at old) o ≡ Some r
    by None e = none-some e
    by (Some b) e = sym (same b) ∙ e

-- an owner reference behind the write is an old one of another place, or that which was written
store-from : (t : Tree) (s : State) (f : Frame) (fs : List Frame) (y : Name) (e : Entry) (env : Env) → Named env.entries f.locals →
    entry_of env (Some y) ≡ Some e → (a j : ℕ) (o n : Seen) (v : Val) →
    slice_get s.store a ≡ Some o → n.class ≡ o.class → n.label ≡ o.label →
    ((i : ℕ) → i ≢ j → owned_by_slot t.classes n i ≡ owned_by_slot t.classes o i) →
    owned_by_slot t.classes n j ≡ address v → (z : Place) (r : ℕ) →
    leads_into t.classes (slice_set s.store a n) (record f { locals = set_in (Some y) Nil f.locals } ∷ fs) z ≡ Some r →
    ((leads_into t.classes s.store (f ∷ fs) z ≡ Some r) × (z ≢ Field a j)) ⊎ (option_and_then (region_at s.store) (address v) ≡ Some r)
store-from t s f fs y e env named there a j o n v at class label owns owner (Var m i) r h =
    let now : leads_into t.classes s.store (record f { locals = set_in (Some y) Nil f.locals } ∷ fs) (Var m i) ≡ Some r =
    through (owned_in_frame (record f { locals = set_in (Some y) Nil f.locals } ∷ fs) m i) h in
    inl (take-less t s.store f fs (Some y) e env named there (Var m i) r now, λ q. grind arith)
  where
    through : (x : Option ℕ) → option_and_then (region_at (slice_set s.store a n)) x ≡ Some r → option_and_then (region_at s.store) x ≡ Some r
    through None k = none-some k
    through (Some b) k = sym (replaced-region s.store a o n at class label b) ∙ k
store-from t s f fs y e env named there a j o n v at class label owns owner (Field b i) r h = by (b == a) (i == j) refl refl
  where
    through : (x : Option ℕ) → option_and_then (region_at (slice_set s.store a n)) x ≡ Some r → option_and_then (region_at s.store) x ≡ Some r
    through None k = none-some k
    through (Some c) k = sym (replaced-region s.store a o n at class label c) ∙ k

    led-label : (l : Label) (x : Option ℕ) → option_and_then (region_at s.store) (elim l [ Region q ↦ x | Temp q ↦ x | Frozen ↦ None ]) ≡ Some r →
        option_and_then (region_at s.store) x ≡ Some r
    led-label (Region q) x k = k
    led-label (Temp q) x k = k
    led-label Frozen x k = none-some k

    by : (c k : Truth) → (b == a) ≡ c → (i == j) ≡ k →
        ((leads_into t.classes s.store (f ∷ fs) (Field b i) ≡ Some r) × (Field b i ≢ Field a j)) ⊎ (option_and_then (region_at s.store)
        (address v) ≡ Some r)
    by true true p q =
        let one : b ≡ a = grind arith in
        let same : i ≡ j = grind arith in
        let slot : owned_in_field t.classes (slice_set s.store a n) b
        i ≡ (elim (n.label) [ Region q ↦ address v | Temp q ↦ address v | Frozen ↦ None ]) =
        ap (λ z. owned_in_field t.classes (slice_set s.store a n) z i) one
        ∙ ap (option_and_then (λ (z : Seen). owned_by_field t.classes z i)) (get-set s.store a n o at)
        ∙ owned-label n.label n.label (owned_by_slot t.classes n i) (address v) refl (ap (owned_by_slot t.classes n) same ∙ owner) in
        inr (led-label n.label (address v) (through (elim (n.label) [ Region q ↦ address v | Temp q ↦ address v | Frozen ↦ None ])
        (ap (option_and_then (region_at (slice_set s.store a n))) (sym slot) ∙ h)))
    by true false p q =
        let one : b ≡ a = grind arith in
        let other : i ≢ j = eqb-false i j q in
        let slot : owned_in_field t.classes (slice_set s.store a n) b i ≡ owned_in_field t.classes s.store b i =
        ap (λ z. owned_in_field t.classes (slice_set s.store a n) z i) one
        ∙ ap (option_and_then (λ (z : Seen). owned_by_field t.classes z i)) (get-set s.store a n o at)
        ∙ owned-label n.label o.label (owned_by_slot t.classes n i) (owned_by_slot t.classes o i) label (owns i other)
        ∙ ap (option_and_then (λ (z : Seen). owned_by_field t.classes z i)) (sym at) ∙ ap (λ z. owned_in_field t.classes s.store z i) (sym one) in
        inl (
          through (owned_in_field t.classes s.store b i) (ap (option_and_then (region_at (slice_set s.store a n))) (sym slot) ∙ h),
          λ z. let k : i ≡ j = grind arith in other k,
        )
    by false k p q =
        let away : b ≢ a = eqb-false b a p in
        let slot : owned_in_field t.classes (slice_set s.store a n) b i ≡ owned_in_field t.classes s.store b i =
        ap (option_and_then (λ (z : Seen). owned_by_field t.classes z i)) (get-set-other s.store a b n away) in
        inl (
          through (owned_in_field t.classes s.store b i) (ap (option_and_then (region_at (slice_set s.store a n))) (sym slot) ∙ h),
          λ z. let k : b ≡ a = grind arith in away k,
        )

swap-kept : (t : Tree) → Accepted t → (s : State) (line : ℕ) (y : Name) (x : Variable) (f : Name) (fs : List Name) (rest : List Item)
    (d : Doing t s line (swap y (record { base = x; fields = f ∷ fs })) rest) → (out : Env) →
    (p : Swapped t.classes d.r.spot.env out y (record { base = x; fields = f ∷ fs })) → (at : Val) (host : Seen) →
    follow_fields t.classes s.store (value_in d.f.locals x) (all_but_last f fs) ≡ Ok at → object_at s.store at ≡ Ok host →
    StaysFit t s (put_local (Some y) (put_field t.classes at (last_field f fs) (record s { items = rest }) (value_in d.f.locals (Some y)))
    (field_value t.classes host (last_field f fs)))
swap-kept t a s line y x f fs rest d out p at host follows there =
    let k : StmtKind = swap y (record { base = x; fields = f ∷ fs }) in
    let name = last_field f fs in
    let s0 : State = record s { items = rest } in
    let env = d.r.spot.env in
    let sees = top-sees t s.store d.f d.fs s.windows (Do (stmt line k) ∷ rest) d.r d.top d.fits.values in
    let q = receiver-at t.classes s.store s.windows (length d.fs) env d.f.locals d.fits.objects sees x f fs p.ty at host p.field follows there in
    let v = value_in d.f.locals (Some y) in
    let w = field_value t.classes host name in
    let w_is : w ≡ q.field.value = receiver-value t.classes s.store s.windows at host name p.ty q in
    let c = iso-ref p.entry.ty p.iso in
    let both = and_parts (below p.ty p.entry.ty) (below p.entry.ty p.ty) p.same in
    let P : Ty → Type 0 = λ z. below p.ty z ≡ true in
    let field_ty : p.ty ≡ Ref Iso c.0 = below-iso_same c.0 p.ty (subst P c.1 both.0) in
    let declared : type_of t.classes q.field.field.ty ≡ Ref Iso c.0 = q.field.type_is ∙ field_ty in
    let e = first-at env.entries d.f.locals (Some y) p.entry d.r.stands.named p.there in
    let place = place_in d.f.locals (Some y) in
    let free = top-not_owner t d.f d.fs s.windows (Do (stmt line k) ∷ rest) d.r d.top place p.entry e.entry_at
    (ready-not_lent p.entry.readiness p.ready) in
    let taken = take-variable t s.store d.f d.fs s.windows (length s.managers) s.windows_made (Some y)
    p.entry env d.fits d.r.stands.named p.there p.iso free in
    let f1 : Frame = record d.f { locals = set_in (Some y) Nil d.f.locals } in
    let n : Seen = record host { fields = slice_set host.fields q.field.place v } in
    let Q : Ty → Type 0 = λ z. Meets s.store s.windows z v in
    let v_meets : Meets s.store s.windows p.ty v = subst Q (seen-iso env p.entry c.0 c.1 ∙ sym field_ty)
    (seen-meets s.store s.windows (length d.fs) env d.f.locals sees (Some y) p.entry p.there) in
    let object = taken.fits.objects q.address host q.there in
    let holds = field-holds t a s.store s.store s.windows host name p.ty v object q.top q.field v_meets in
    let R : Ty → Type 0 = λ z. MeetsBy s.store (FieldFits s.windows host.label) z v in
    let owner_new : owned_by_slot t.classes n q.field.place ≡ address v =
    slot-owner t.classes host n q.field.place q.field.field v q.field.field_is
    (get-set host.fields q.field.place v q.field.value q.field.value_is) (ap is_iso declared) in
    let put = store-put t.classes s.store (f1 ∷ d.fs) s.windows (length s.managers) s.windows_made q.address host n q.field.place (address v)
    taken.fits q.there refl refl q.top
    (λ i other. ap (λ (z : Option Val). option_and_then (λ (g : FieldOfClass). option_and_then (owned_as t.classes g) z)
    (slice_get (fields_of t.classes host.class) i)) (get-set-other host.fields q.field.place i v other))
    owner_new taken.unowned
    (top-not_owner_field t.classes s.store (f1 ∷ d.fs) s.windows taken.fits.opened.owned taken.fits.opened.one_each taken.fits.numbers.rising
    q.address q.field.place host q.there q.top)
    (length-slice_set host.fields q.field.place v)
    (field-set t.classes s.store s.windows host object q.field.place q.field.field v q.field.field_is (subst R (sym q.field.type_is) holds)) in
    let store : List Seen = slice_set s.store q.address n in
    let T : Ty → Type 0 = λ z. MeetsBy s.store (FieldFits s.windows host.label) z w in
    let U : Val → Type 0 = λ z. MeetsBy s.store (FieldFits s.windows host.label) p.ty z in
    let w_field = subst T field_ty (subst U (sym w_is) q.field.meets) in
    let keeps = replaced-keeps s.store q.address host n q.there refl refl in
    let w_meets : Meets store (windows_of (length d.fs) place s.windows) (Ref Iso c.0) w =
    MeetsRef-kept s.store store c.0 (λ l. IsRegion l) w keeps (MeetsRef-map s.store c.0 (FieldFits s.windows host.label Iso) (λ l. IsRegion l) w
    (field-iso s.windows host.label q.top) w_field) in
    let l : Local = record e.local { value = w } in
    let l_ty : e.local.ty ≡ Ref Iso c.0 = e.pair.ty ∙ c.1 in
    let V : Ty → Type 0 = λ z. Meets store (windows_of (length d.fs) place s.windows) z w in
    let cleared_local : Local = record e.local { value = Nil } in
    let at_place : slice_get (set_in (Some y) Nil d.f.locals) place ≡ Some cleared_local =
    ap (λ z. slice_get z place) (set_in-at (Some y) Nil d.f.locals e.local e.local_at)
    ∙ get-set d.f.locals place cleared_local e.local e.local_at in
    let place_same : place_in (set_in (Some y) Nil d.f.locals) (Some y) ≡ place = place_in-set_in (Some y) Nil d.f.locals (Some y) in
    let W : List Local → Type 0 = λ z. Puts (set_in (Some y) Nil d.f.locals) z place l in
    let set_is : set_in (Some y) w (set_in (Some y) Nil d.f.locals) ≡ slice_set (set_in (Some y) Nil d.f.locals) place l =
    set_in-at (Some y) w (set_in (Some y) Nil d.f.locals) cleared_local (ap (slice_get (set_in (Some y) Nil d.f.locals)) place_same ∙ at_place)
    ∙ ap (λ z. slice_set (set_in (Some y) Nil d.f.locals) z l) place_same in
    let puts = subst W (sym set_is) (puts-set (set_in (Some y) Nil d.f.locals) place l cleared_local at_place) in
    let leads_field : (r : ℕ) → option_and_then (region_at s.store) (address w) ≡ Some r →
    leads_into t.classes s.store (d.f ∷ d.fs) (Field q.address q.field.place) ≡ Some r = λ r h.
    field-leads t.classes s.store (d.f ∷ d.fs) s.windows q.address q.field.place host q.field.field q.field.value q.there q.top q.field.field_is
    q.field.value_is
    ∙ ap (λ z. option_and_then (region_at s.store) (owned z q.field.value)) declared
    ∙ ap (λ z. option_and_then (region_at s.store) (address z)) (sym w_is) ∙ h in
    let leads_var : (r : ℕ) → option_and_then (region_at s.store) (address v) ≡ Some r →
    leads_into t.classes s.store (d.f ∷ d.fs) (Var (length d.fs) place) ≡ Some r = λ r h.
    take-was t s.store d.f d.fs (Some y) p.entry env d.r.stands.named p.there p.iso r h in
    let finish = put-local t.classes store f1 d.fs s.windows (length s.managers) s.windows_made (set_in (Some y) w (set_in (Some y) Nil d.f.locals))
    place l put puts (subst V (sym l_ty) w_meets)
    (λ r h.
    let region_w : option_and_then (region_at s.store) (address w) ≡ Some r =
    region-back s.store store (replaced-region s.store q.address host n q.there refl refl) w r
    (ap (λ (b : Truth). option_and_then (region_at store) (if b then address w else None)) (sym (ap is_iso l_ty)) ∙ h) in
    let was = leads_field r region_w in (
      λ z. d.fits.forest.none_into_first (Field q.address q.field.place) (was ∙ ap Some z),
      λ z g. elim (store-from t s d.f d.fs y p.entry env (d.r.stands.named) p.there q.address q.field.place host n v q.there refl refl
          (λ i other. ap (λ (o : Option Val). option_and_then (λ (c : FieldOfClass). option_and_then (owned_as t.classes c) o)
          (slice_get (fields_of t.classes host.class) i)) (get-set-other host.fields q.field.place i v other))
          owner_new z r g) [
            | inl old ↦ old.1 (d.fits.forest.one_owner z (Field q.address q.field.place) r old.0 was)
            | inr new ↦
                let both_lead : Var (length d.fs) place ≡ Field q.address q.field.place =
                d.fits.forest.one_owner (Var (length d.fs) place) (Field q.address q.field.place) r (leads_var r new) was in
                grind arith
          ],
    )) free in
    let final : List Local = set_in (Some y) w d.f.locals in
    let X : List Local → Type 0 = λ z. Data t.classes store (record d.f { locals = z } ∷ d.fs) s.windows (length s.managers) s.windows_made in
    let fits = subst X (set-twice (Some y) Nil w d.f.locals) finish in
    let g : Frame = record d.f { locals = final } in
    let u : State = record s { store = store; frames = g ∷ d.fs; items = rest } in
    let stored : put_field t.classes at name s0 v ≡ record s0 { store = store } =
    put-field-is t.classes at name s0 v q.address host q.value q.there
    ∙ ap (λ z. record s0 { store = slice_set s.store q.address z }) (with-field-is t.classes name v host q.field.place q.field.place_is) in
    let is : put_local (Some y) (put_field t.classes at name s0 v) w ≡ u =
    ap (λ (z : State). put_local (Some y) z w) stored
    ∙ ap (λ (z : List Frame). record s { store = store; frames = with_top (set_in (Some y) w (top_locals z)) z; items = rest }) d.frames in
    let run : Running t g d.fs s.windows rest = running-advance t d.f g d.fs s.windows line k rest d.r d.top.right refl refl (λ last ln o judged ends.
    let b = judge_swap-parts t.classes env o y (record { base = x; fields = f ∷ fs })
    (at_line-ok ln (judge_swap t.classes env y (record { base = x; fields = f ∷ fs })) o judged) in
    let Y : Env → Type 0 = λ z. Stays env z in
    stands-stays d.f g (length d.fs) d.r.own d.r.spot o d.r.more d.r.stands (subst Y (sym b.out_is) (Stays-same env)) ends
    (Named-set_in (Some y) w env.entries d.f.locals d.r.stands.named)) in
    let bridged = bridges-top t.classes s.store store d.f g d.fs s.windows (classes-set s.store q.address host n q.there refl)
    (named-types env.entries d.f.locals final d.r.stands.named (Named-set_in (Some y) w env.entries d.f.locals d.r.stands.named)) d.bridged in
    rw is (record {
      fit = data-fit t u (inl run) fits bridged;
      allowed = active-allowed s u (stmt line k) rest d.items_are (allowed-set s u q.address host n q.there refl q.top);
    })

pub swap-keeps : SwapKeeps
swap-keeps y p line t s u rest a f is went =
    let d = doing t a s line (swap y p) rest is f in
    let h = stepped-went line (step_kind t.classes (record s { items = rest }) line (swap y p)) u (rw is at went) in
    let j = doing-judges t s line (swap y p) rest d in
    by_path p d j.out (judge_swap-parts t.classes d.r.spot.env j.out y p (at_line-ok line (judge_swap t.classes d.r.spot.env y p) j.out j.judged)) h
  where
    by_fields : (x : Variable) (fs : List Name) (d : Doing t s line (swap y (record { base = x; fields = fs })) rest) (out : Env) →
        Swapped t.classes d.r.spot.env out y (record { base = x; fields = fs }) →
        step_kind t.classes (record s { items = rest }) line (swap y (record { base = x; fields = fs })) ≡ Ok u → StaysFit t s u
    by_fields x [] d out b h = let no_field = b.field in grind arith
    by_fields x (g ∷ fs) d out b h =
        let s0 : State = record s { items = rest } in
        let at = bind-ok (follow_fields t.classes s.store (value_in (locals_of s0) x) (all_but_last g fs)) _ u h in
        let host = bind-ok (object_at s.store at.0) _ u at.2 in
        let same : put_local (Some y) (put_field t.classes at.0 (last_field g fs) s0 (value_in (locals_of s0) (Some y)))
        (field_value t.classes host.0 (last_field g fs)) ≡ u = let k = host.2 in grind arith in
        let locals : locals_of s0 ≡ d.f.locals = ap top_locals d.frames in
        let P : List Local → Type 0 = λ q. follow_fields t.classes s.store (value_in q x) (all_but_last g fs) ≡ Ok at.0 in
        let kept = swap-kept t a s line y x g fs rest d out b at.0 host.0 (subst P locals at.1) host.1 in
        let Q : List Local → Type 0 = λ q. StaysFit t s (put_local (Some y) (put_field t.classes at.0 (last_field g fs) s0 (value_in q (Some y)))
        (field_value t.classes host.0 (last_field g fs))) in
        let R : State → Type 0 = λ q. StaysFit t s q in subst R same (subst Q (sym locals) kept)

    by_path : (p : Path) (d : Doing t s line (swap y p) rest) (out : Env) → Swapped t.classes d.r.spot.env out y p →
        step_kind t.classes (record s { items = rest }) line (swap y p) ≡ Ok u → StaysFit t s u
    by_path p d out b h = by_fields p.base p.fields d out b h
