-- New objects: `new C`, `new tmp C` and `new iso C in M`.
use Rattle.std.proofs.Common.{◌≡◌, refl, sym, ◌∙◌, ap, subst, ◌↔◌, ℕ, suc, ◌<◌, ◌≤◌, ℤ, pos, negsuc, nat_lt, Bool as Truth, true, false}
use Rattle.std.proofs.Common.{not as negated, if◌then◌else◌, List, []}
use Rattle.std.proofs.Common.{◌∷◌, ◌++◌, length, Option, Some, None, ok_or, option_and_then, slice_get, Result, Ok, Err, arith, IsTrue, option_map}
use Rattle.std.proofs.Common.{is_some}
use Rattle.std.proofs.lemmas.List.{length-append}
use Rattle.std.proofs.lemmas.Option.{slice_get_within, same_Some}
use Rattle.rg_base.specs.declared.words.Cap.{Cap}
use Rattle.rg_base.specs.declared.words.Cap.TheVariants.{Mut, Tmp, Iso}
use Rattle.rg_base.specs.declared.words.Manager.{Manager}
use Rattle.rg_base.specs.declared.ty.Ty.{Ty}
use Rattle.rg_base.specs.declared.ty.Ty.TheVariants as ty
use Rattle.rg_base.specs.declared.fault.Code.TheVariants.{Unknown, BadType}
use Rattle.rg_base.specs.declared.object.Label.{Label}
use Rattle.rg_base.specs.declared.object.Label.TheVariants.{Region, Temp}
use Rattle.rg_base.specs.declared.object.Place.{Place}
use Rattle.rg_base.specs.declared.object.Place.TheVariants.{Var, Field}
use Rattle.rg_base.specs.declared.object.Seen.{Seen}
use Rattle.rg_base.specs.declared.value.Val.TheVariants as val
use Rattle.rg_tree.specs.Tree.{Name, Ty as Written, ref, Expr, new, new_tmp, new_iso, Class, Tree}
use Rattle.rg_tree.proofs.TreesFrom.{slice_get-push}
use Rattle.rg_rules.specs.Types.{class_named, class_number, suits_class, good_type, is_array, names_array}
use Rattle.rg_rules.specs.Environment.{Env}
use Rattle.rg_rules.specs.Items.{Item}
use Rattle.rg_rules.specs.Expressions.{Judged}
use Rattle.rg_rules.specs.Rights.{judge_size, judge_new}
use Rattle.rg_rules.specs.State.{Frame, Window, State, locals_of, active, top_number}
use Rattle.rg_rules.specs.Regions.{region_of, region_at}
use Rattle.rg_rules.specs.RightSides.{Use, new_object, made, size_within, array_size, new_array, made_array, made_new, with_region}
use Rattle.rg_rules.specs.Owners.{owned_in_field, owned_in_frame, leads_into}
use Rattle.rg_rules.specs.Acceptance.{Accepted}
use Rattle.rg_rules.specs.Answers.{◌>>=◌}
use Rattle.rg_rules.specs.Values.{as_int}
use Rattle.rg_rules.specs.Evaluation.{value_of}
use Rattle.rg_base.specs.declared.limits.TheConstants.{ARRAY_SIZE}
use Rattle.rg_base.specs.declared.outcome.Trap.{Trap}
use Rattle.rg_base.specs.declared.outcome.Trap.TheVariants.{Size}
use Rattle.std.proofs.lemmas.Bool.{not-true}
use Rattle.rg_rules.proofs.Header.{class_number-at}
use Rattle.rg_sound.proofs.Values.Declared.{array-class}
use Rattle.rg_sound.proofs.Owners.Bridge.{classes-more}
use Rattle.rg_rules.proofs.Answers.{bind-ok, test-then, ok_or-ok}
use Rattle.rg_rules.proofs.Expression.{against-ok}
use Rattle.rg_sound.specs.Values.{LabelFits}
use Rattle.rg_sound.specs.Objects.{IsTemp}
use Rattle.rg_sound.specs.Numbers.{LabelGiven}
use Rattle.rg_sound.specs.Frames.{Running}
use Rattle.rg_sound.specs.Writes.{WritesActive}
use Rattle.rg_sound.proofs.Basics.{none-some}
use Rattle.rg_sound.proofs.Owners.Owner.{get-snoc-other}
use Rattle.rg_sound.proofs.Owners.Data.{Data}
use Rattle.rg_sound.proofs.Values.Right.{OwnsFreshAs, Gives, not_iso-fresh}
use Rattle.rg_sound.proofs.Values.Assign.{RightGives}
use Rattle.rg_sound.proofs.Stores.Beneath.{region-given}
use Rattle.rg_sound.proofs.Stores.New.{IsMade, object-made, array-made, leads-more, store-more}

-- The right sides

-- a class that may be made with a capability, and what stands behind its name
record Makes (classes : List Class) (cap : Cap) (x : Name) (many : Option Expr) (j : Judged) : Type 0 where
  pub class : Class
  pub named : class_named classes x ≡ Some class
  pub suits : suits_class cap class.is_tmp ≡ true
  pub sized : is_array class ≡ is_some many
  pub type_is : j.ty ≡ ty.Ref cap (class_number classes x)

judge_new-parts : (classes : List Class) (env : Env) (wanted : Ty) (cap : Cap) (x : Name) (many : Option Expr) (j : Judged) →
    judge_new classes env wanted cap x many ≡ Ok j → Makes classes cap x many j
judge_new-parts classes env wanted cap x many j h =
    let t = bind-ok (good_type classes (ref cap x)) _ j h in
    let out = bind-ok (judge_size classes env x many) _ j t.2 in
    let c = bind-ok (ok_or (class_named classes x) Unknown) _ t.0 t.1 in
    let s = test-then (suits_class cap c.0.is_tmp) BadType _ t.0 c.2 in
    let same : ty.Ref cap (class_number classes x) ≡ t.0 = let q = s.1 in grind arith in
    let named = ok_or-ok (class_named classes x) Unknown c.0 c.1 in
    record {
      class = c.0;
      named = named;
      suits = s.0;
      sized = sym (ap (λ (q : Option Class). elim q [ None ↦ false | Some c ↦ is_array c ]) named) ∙ by_size many out.0 out.1;
      type_is =
          (against-ok (Some wanted) t.0 out.0 j out.2).ty ∙ sym same;
    }
  where
    by_size : (many : Option Expr) (out : Env) → judge_size classes env x many ≡ Ok out → names_array classes x ≡ is_some many
    by_size None out h = not-true (names_array classes x) (test-then (negated (names_array classes x)) BadType _ out h).0
    by_size (Some e) out h = (test-then (names_array classes x) BadType _ out h).0

-- what is made, where the class is there
made-is : (classes : List Class) (s : State) (put : Use) (x : Name) (label : Label) (c : Class) → class_named classes x ≡ Some c →
    made classes s put x label ≡ put (record s { store = s.store ++ new_object classes x label ∷ [] }) (val.Obj (length s.store))
made-is classes s put x label c h = rw (made, h) refl

-- what is made
record News (t : Tree) (s : State) (put : Use) (x : Name) (c : Class) (label : Label) (u : State) : Type 0 where
  pub object : Seen
  pub made : IsMade t.classes c (class_number t.classes x) label object
  pub state : u ≡ put (record s { store = s.store ++ object ∷ [] }) (val.Obj (length s.store))

news : (t : Tree) → Accepted t → (s : State) (put : Use) (x : Name) (many : Option Expr) (label : Label) (c : Class) →
    class_named t.classes x ≡ Some c →
    is_array c ≡ is_some many → (u : State) → made_new t.classes s put x many label ≡ Ok u → News t s put x c label u
news t a s put x None label c named sized u h =
    let is : made t.classes s put x label ≡ u = grind arith in
    record {
      object = new_object t.classes x label;
      made = object-made t.classes x c label (no-element c.element sized);
      state = sym is ∙ made-is t.classes s put x label c named;
    }
  where
    no-element : (o : Option Written) → is_some o ≡ false → o ≡ None
    no-element None e = refl
    no-element (Some w) e = grind arith
news t a s put x (Some e) label c named sized u h =
    let run : (do
      v ← value_of t.classes s.store (locals_of s) e
      n ← array_size v
      Ok (put (record s { store = s.store ++ new_array t.classes x c n label ∷ [] }) (val.Obj (length s.store)))) ≡ Ok u =
    sym (made_array-is c named) ∙ h in
    let v = bind-ok (value_of t.classes s.store (locals_of s) e) _ u run in
    let n = bind-ok (array_size v.0) _ u v.2 in
    let is : put (record s { store = s.store ++ new_array t.classes x c n.0 label ∷ [] }) (val.Obj (length s.store)) ≡ u = let q = n.2 in grind arith
    in
    let w = some-element c.element refl sized in
    let at = class_number-at t.classes x c named in
    record {
      object = new_array t.classes x c n.0 label;
      made = array-made t.classes x c n.0 label w.0 at w.1 (array-class t a (class_number t.classes x) c at w.0 w.1) (few (as_int v.0) n.0 n.1);
      state = sym is;
    }
  where
    made_array-is : (c : Class) → class_named t.classes x ≡ Some c → made_array t.classes s put x e label ≡ (do
      v ← value_of t.classes s.store (locals_of s) e
      n ← array_size v
      Ok (put (record s { store = s.store ++ new_array t.classes x c n label ∷ [] }) (val.Obj (length s.store))))
    made_array-is c h = rw (made_array, h) refl

    some-element : (o : Option Written) → c.element ≡ o → is_some o ≡ true → (w : Written) × (c.element ≡ Some w)
    some-element None e h = grind arith
    some-element (Some w) e h = (w, e)

    by_less : (b : Truth) (m k most : ℕ) → nat_lt m (suc most) ≡ b → ◌≡◌ {A = Result ℕ Trap} (if b then Ok m else Err Size) (Ok k) → k ≤ most
    by_less true m k most e g = let same : m ≡ k = grind arith in let l : m < suc most = grind arith in omega (arith, same, l)
    by_less false m k most e g = grind arith

    few : (z : ℤ) (n : ℕ) → size_within z ≡ Ok n → n ≤ ARRAY_SIZE
    few (pos m) n g = by_less (nat_lt m (suc ARRAY_SIZE)) m n ARRAY_SIZE refl g
    few (negsuc m) n g = grind arith

-- old objects keep their fields
allowed-more : (s u : State) (o : Seen) → u.store ≡ s.store ++ o ∷ [] → WritesActive s u
allowed-more s u o is a w =
    let within = slice_get_within s.store a w.object w.there in
    let after : slice_get u.store a ≡ Some w.object = ap (λ q. slice_get q a) is
    ∙ get-snoc-other s.store o a (λ at. absurd (omega (arith, within, at))) ∙ w.there in
    absurd (w.differ (ap (option_map (λ (q : Seen). q.fields)) after))

-- what a new object gives
make-gives : (t : Tree) (s : State) (f : Frame) (fs : List Frame) (later : List Item) (run : Running t f fs s.windows later) → s.frames ≡ f ∷ fs →
    Data t.classes s.store (f ∷ fs) s.windows (length s.managers) s.windows_made → (cap : Cap) (x : Name) (label : Label) (c : Class) →
    class_named t.classes x ≡ Some c → (o : Seen) → IsMade t.classes c (class_number t.classes x) label o →
    (IsTemp label ↔ IsTrue c.is_tmp) → (managers : List Manager) → length s.managers ≤ length managers →
    LabelGiven (length managers) s.windows_made label → LabelFits s.windows cap label →
    OwnsFreshAs t.classes (s.store ++ o ∷ []) (f ∷ fs) (ty.Ref cap (class_number t.classes x)) (val.Obj (length s.store)) →
    Gives t s f fs run.spot.env (record s { store = s.store ++ o ∷ []; managers = managers })
    (ty.Ref cap (class_number t.classes x)) (val.Obj (length s.store))
make-gives t s f fs later run at d cap x label c named o m is_temp managers bound given fits fresh =
    let given_label : LabelGiven (length managers) s.windows_made o.label =
    let P : Label → Type 0 = λ q. LabelGiven (length managers) s.windows_made q in subst P (sym m.label_is) given in
    let temp : IsTemp o.label ↔ IsTrue c.is_tmp = let P : Label → Type 0 = λ q. IsTemp q ↔ IsTrue c.is_tmp in subst P (sym m.label_is) is_temp in
    let label_fits : LabelFits s.windows cap o.label = let P : Label → Type 0 = λ q. LabelFits s.windows cap q in subst P (sym m.label_is) fits in
    let class_at = ap (slice_get t.classes) m.class_is ∙ class_number-at t.classes x c named in
    let more = store-more t.classes s.store (f ∷ fs) s.windows (length s.managers) (length managers) s.windows_made o d bound given_label
    m.owns c class_at temp (λ S. m.fields S s.windows) m.array in
    record {
      locals = f.locals;
      frames = at;
      named = run.stands.named;
      windows = refl;
      made = refl;
      items = refl;
      fits = more;
      meets = record { object = o; there = slice_get-push s.store o; class_is = m.class_is; label_fits = label_fits };
      fresh = fresh;
      allowed = allowed-more s (record s { store = s.store ++ o ∷ []; managers = managers }) o refl;
      classes = classes-more s.store o;
      keeps = λ b p e top. get-snoc-other s.store o b (λ at_end. let l = slice_get_within s.store b p e in absurd (omega (arith, l, at_end))) ∙ e;
    }

ordinary : (b : Truth) → b ≡ false → (IsTrue b → ⊥)
ordinary true e h = grind arith
ordinary false e h = grind arith

pub top-region : (classes : List Class) (store : List Seen) (frames : List Frame) (ws : List Window) (regions made : ℕ) →
    Data classes store frames ws regions made →
    LabelFits ws Mut (Region (active ws)) × LabelFits ws Tmp (Temp (top_number ws)) × (active ws < regions) × (top_number ws < made)
top-region classes store frames [] regions made d = absurd d.opened.owned
top-region classes store frames (w ∷ ws) regions made d = let g = d.numbers.given 0 w refl in (refl, refl, g.region, g.number)

pub new-righted : (x : Name) (many : Option Expr) → RightGives (new x many)
new-righted x many t s f fs later run top at d target put wanted j typed u h =
    let m = judge_new-parts t.classes run.spot.env wanted Mut x many j typed in
    let label : Label = Region (active s.windows) in
    let w = top-region t.classes s.store (f ∷ fs) s.windows (length s.managers) s.windows_made d in
    let plain_class : m.class.is_tmp ≡ false = by_tmp m.class.is_tmp m.suits in
    let n = news t top.accepted s put x many label m.class m.named m.sized u h in
    let o = n.object in
    let g = make-gives t s f fs later run at d Mut x label m.class m.named o n.made (λ z. absurd z, λ z. ordinary m.class.is_tmp plain_class z)
    s.managers
    (omega arith) w.2 w.0
    (not_iso-fresh t.classes (s.store ++ o ∷ []) (f ∷ fs) (ty.Ref Mut (class_number t.classes x))
    (val.Obj (length s.store)) refl) in
    let P : Ty → Type 0 = λ q. Gives t s f fs run.spot.env (record s { store = s.store ++ o ∷ [] }) q
    (val.Obj (length s.store)) in
    record {
      after = record s { store = s.store ++ o ∷ [] };
      v = val.Obj (length s.store);
      state = n.state;
      gives = subst P (sym m.type_is) g;
    }
  where
    by_tmp : (b : Truth) → suits_class Mut b ≡ true → b ≡ false
    by_tmp true e = grind arith
    by_tmp false e = refl

pub new_tmp-righted : (x : Name) (many : Option Expr) → RightGives (new_tmp x many)
new_tmp-righted x many t s f fs later run top at d target put wanted j typed u h =
    let m = judge_new-parts t.classes run.spot.env wanted Tmp x many j typed in
    let label : Label = Temp (top_number s.windows) in
    let w = top-region t.classes s.store (f ∷ fs) s.windows (length s.managers) s.windows_made d in
    let tmp_class : m.class.is_tmp ≡ true = by_tmp m.class.is_tmp m.suits in
    let n = news t top.accepted s put x many label m.class m.named m.sized u h in
    let o = n.object in
    let g = make-gives t s f fs later run at d Tmp x label m.class m.named o n.made (λ z. tmp_class, λ z. tt) s.managers (omega arith) w.3 w.1
    (not_iso-fresh t.classes (s.store ++ o ∷ []) (f ∷ fs) (ty.Ref Tmp (class_number t.classes x))
    (val.Obj (length s.store)) refl) in
    let P : Ty → Type 0 = λ q. Gives t s f fs run.spot.env (record s { store = s.store ++ o ∷ [] }) q
    (val.Obj (length s.store)) in
    record {
      after = record s { store = s.store ++ o ∷ [] };
      v = val.Obj (length s.store);
      state = n.state;
      gives = subst P (sym m.type_is) g;
    }
  where
    by_tmp : (b : Truth) → suits_class Tmp b ≡ true → b ≡ true
    by_tmp true e = refl
    by_tmp false e = grind arith

pub new_iso-righted : (x : Name) (many : Option Expr) (m : Manager) → RightGives (new_iso x many m)
new_iso-righted x many m t s f fs later run top at d target put wanted j typed u h =
    let q = judge_new-parts t.classes run.spot.env wanted Iso x many j typed in
    let label : Label = Region (length s.managers) in
    let w = top-region t.classes s.store (f ∷ fs) s.windows (length s.managers) s.windows_made d in
    let plain_class : q.class.is_tmp ≡ false = by_tmp q.class.is_tmp q.suits in
    let n = news t top.accepted s (with_region m put) x many label q.class q.named q.sized u h in
    let o = n.object in
    let long : length (s.managers ++ m ∷ []) ≡ suc (length s.managers) = let e = length-append s.managers (m ∷ []) in omega (arith, e) in
    let region : region_at (s.store ++ o ∷ []) (length s.store) ≡ Some (length s.managers) =
    ap (option_and_then (λ (y : Seen). region_of y.label)) (slice_get-push s.store o) ∙ ap region_of n.made.label_is in
    let g = make-gives t s f fs later run at d Iso x label q.class q.named o n.made (λ z. absurd z, λ z. ordinary q.class.is_tmp plain_class z)
    (s.managers ++ m ∷ []) (omega (arith, long)) (omega (arith, long))
    (length s.managers, refl)
    (λ r e.
    let same : length s.managers ≡ r = same_Some (length s.managers) r (sym region ∙ e) in (
      λ zeroth. let l = w.2 in absurd (omega (arith, l, same, zeroth)),
      λ p g. not-led p r same (sym (leads-more t.classes s.store (f ∷ fs) s.windows (length s.managers) s.windows_made o d
          n.made.owns p) ∙ g),
    )) in
    let P : Ty → Type 0 = λ z. Gives t s f fs run.spot.env (record s { store = s.store ++ o ∷ []; managers = s.managers ++ m ∷ [] }) z
    (val.Obj (length s.store)) in
    record {
      after = record s { store = s.store ++ o ∷ []; managers = s.managers ++ m ∷ [] };
      v = val.Obj (length s.store);
      state = n.state;
      gives = subst P (sym q.type_is) g;
    }
  where
    by_tmp : (b : Truth) → suits_class Iso b ≡ true → b ≡ false
    by_tmp true e = grind arith
    by_tmp false e = refl

    -- no reference leads into a region whose number wasn't given
    led-given : (x : Option ℕ) (r : ℕ) → option_and_then (region_at s.store) x ≡ Some r → r < length s.managers
    led-given None r e = none-some e
    led-given (Some b) r e = region-given t.classes s.store (f ∷ fs) s.windows (length s.managers) s.windows_made d b r e

    not-led : (p : Place) (r : ℕ) → length s.managers ≡ r → leads_into t.classes s.store (f ∷ fs) p ≡ Some r → ⊥
    not-led (Var n i) r e k = let l = led-given (owned_in_frame (f ∷ fs) n i) r k in absurd (omega (arith, l, e))
    not-led (Field a i) r e k = let l = led-given (owned_in_field t.classes s.store a i) r k in absurd (omega (arith, l, e))
