-- A window that is opened, and the frame in front of the block of an `enter`.
use Rattle.std.proofs.Common.{◌≡◌, ◌≢◌, refl, sym, ◌∙◌, ap, subst, ◌⊎◌, inl, inr, ◌↔◌, ℕ, zero, suc, ◌==◌, nat_lt, nat_le, ◌+◌, ◌<◌, Bool as Truth}
use Rattle.std.proofs.Common.{true, false, ◌||◌, ◌&&◌, if◌then◌else◌, List, [], ◌∷◌, ◌++◌, length, map, reverse, find, Option, Some, slice_get, Ok}
use Rattle.std.proofs.Common.{arith}
use Rattle.std.proofs.lemmas.List.{reverse-append}
use Rattle.std.proofs.lemmas.Option.{slice_get_within, same_Some}
use Rattle.rg_base.specs.declared.words.Cap.TheVariants.{Mut, Iso}
use Rattle.rg_base.specs.declared.ty.Ty.TheVariants.{Ref}
use Rattle.rg_base.specs.declared.object.Label.{Label}
use Rattle.rg_base.specs.declared.object.Label.TheVariants.{Region}
use Rattle.rg_base.specs.declared.object.Place.{Place}
use Rattle.rg_base.specs.declared.object.Place.TheVariants.{Var, Field}
use Rattle.rg_base.specs.declared.object.Seen.{Seen}
use Rattle.rg_base.specs.declared.value.Val.{Val}
use Rattle.rg_base.specs.declared.value.Val.TheVariants.{Obj}
use Rattle.rg_tree.specs.Tree.{Name, Variable, Path, Tree, Class, Block, empty as none, then as next, stmt, enter}
use Rattle.rg_rules.specs.Environment.{Env, Entry, lent, same_variable, marked_entry, with_variable}
use Rattle.rg_rules.specs.Statements.{judge_enter}
use Rattle.rg_rules.specs.Items.{Item, Do, leave_of, items_of}
use Rattle.rg_rules.specs.Points.{Spot, first, inner_block}
use Rattle.rg_rules.specs.State.{Local, Frame, Window, State, place_in}
use Rattle.rg_rules.specs.Evaluation.{object_at}
use Rattle.rg_rules.specs.Regions.{region_of}
use Rattle.rg_rules.specs.Owners.{leads_into}
use Rattle.rg_rules.specs.Steps.{with_window}
use Rattle.rg_rules.proofs.Step.{object_at-ok}
use Rattle.rg_sound.specs.Windows.{covers, covering, windows_of}
use Rattle.rg_sound.specs.Values.{Meets}
use Rattle.rg_sound.specs.OpenRegions.{AllOwned, IsNear}
use Rattle.rg_sound.specs.Numbers.{LabelGiven}
use Rattle.rg_sound.specs.Frames.{leaves, Running, Stands, Named, Enters, Entered}
use Rattle.rg_sound.specs.Laws.{StaysFit}
use Rattle.rg_sound.proofs.Basics.{none-some}
use Rattle.rg_sound.proofs.Frames.Advance.{running-first}
use Rattle.rg_sound.proofs.Frames.Quiet.{allowed-same}
use Rattle.rg_sound.proofs.Frames.Body.{items_of-begins}
use Rattle.rg_sound.proofs.Frames.Entry.{Distinct, same_variable-same, same_variable-true}
use Rattle.rg_sound.proofs.Frames.Judge.{lent_entries, length-lent}
use Rattle.rg_sound.proofs.Frames.Named.{Named-length, first-at}
use Rattle.rg_sound.proofs.Frames.Spot.{AllWithin, leaves-items_of, leaves-leave_of, deepen, spot-inside}
use Rattle.rg_sound.proofs.Owners.Owner.{AllOwners}
use Rattle.rg_sound.proofs.Owners.Data.{Data, data-fit, puts-snoc, put-local, NotOwner}
use Rattle.rg_sound.proofs.Frames.Stands.{stands-more}
use Rattle.rg_sound.proofs.Frames.Top.{top-new_owner}
use Rattle.rg_sound.proofs.Values.Right.{not_iso-fresh}
use Rattle.rg_sound.proofs.Values.Assign.{Doing}
use Rattle.rg_sound.proofs.Owners.Window.{covers-not, lower-in_front, FramesInFront, push-window}
use Rattle.rg_sound.proofs.Owners.LeaveFrame.{distinct-place, beneath-window}
use Rattle.rg_sound.specs.Bridges.{type_at}
use Rattle.rg_sound.proofs.Owners.Bridge.{bridges-enter}

-- a window whose region a reference at a place leads into is owned there, or is the first one
pub open-owner : (classes : List Class) (store : List Seen) (frames : List Frame) (ws : List Window) → AllOwned classes store frames ws →
    (i : ℕ) (u : Window) (p : Place) →
    slice_get ws i ≡ Some u → leads_into classes store frames p ≡ Some u.region → (u.region ≡ 0) ⊎ (u.owner ≡ Some p)
open-owner classes store frames [] h i u p g l = absurd h
open-owner classes store frames (w ∷ []) h zero u p g l = let same : w ≡ u = same_Some w u g in
    inl (ap (λ (q : Window). q.region) (sym same) ∙ h.0)
open-owner classes store frames (w ∷ []) h (suc i) u p g l = none-some g
open-owner classes store frames (w ∷ v ∷ ws) h zero u p g l =
    let same : w ≡ u = same_Some w u g in
    let at : p ≡ h.0.place = (h.0.exact p).0 (l ∙ ap (λ (q : Window). Some q.region) (sym same)) in
    inr (ap (λ (q : Window). q.owner) (sym same) ∙ h.0.named ∙ ap Some (sym at))
open-owner classes store frames (w ∷ v ∷ ws) h (suc i) u p g l = open-owner classes store frames (v ∷ ws) h.1 i u p g l

pub owners-at : (ws : List Window) (P : Place → Type 0) → AllOwners ws P → (i : ℕ) (u : Window) (p : Place) → slice_get ws i ≡ Some u →
    u.owner ≡ Some p → P p
owners-at [] P h i u p g e = none-some g
owners-at (w ∷ ws) P h zero u p g e = h.0 p (ap (λ (q : Window). q.owner) (same_Some w u g) ∙ e)
owners-at (w ∷ ws) P h (suc i) u p g e = owners-at ws P h.1 i u p g e

-- what is entered: an object of a region, which is owned at a place that no window names
pub record Entrance (t : Tree) (store : List Seen) (f : Frame) (fs : List Frame) (ws : List Window) (place : Place) (bridge : Val)
    (class region : ℕ) : Type 0 where
  pub at : ℕ
  pub bridge_is : bridge ≡ Obj at
  pub object : Seen
  pub there : slice_get store at ≡ Some object
  pub label_is : object.label ≡ Region region
  pub class_is : object.class ≡ class
  pub leads : leads_into t.classes store (f ∷ fs) place ≡ Some region
  pub free : AllOwners ws (λ p. p ≢ place)
  pub near : (w v : Window) (us : List Window) → ws ≡ v ∷ us → w.base_frame ≡ length fs → w.base_place ≡ length f.locals → IsNear store w v place
  pub not_new : place ≢ Var (length fs) (length f.locals)

-- store, frames and windows behind the `enter`
enter-data : (t : Tree) (store : List Seen) (f : Frame) (fs : List Frame) (v : Window) (us : List Window) (regions made : ℕ) (place : Place)
    (bridge : Val) (class region : ℕ) (z : Name) →
    Data t.classes store (f ∷ fs) (v ∷ us) regions made → Entrance t store f fs (v ∷ us) place bridge class region → (w : Window) →
    w ≡ record { number = made; region = region; owner = Some place; base_frame = length fs; base_place = length f.locals } →
    NotOwner (v ∷ us) (length fs) (length f.locals) →
    Data t.classes store (record f { locals = f.locals ++ record { name = Some z; ty = Ref Mut class; value = bridge } ∷ [] } ∷ fs) (w ∷ v ∷ us)
    regions (made + 1)
enter-data t store f fs v us regions made place bridge class region z d e w is new_owner =
    let base_frame : w.base_frame ≡ length fs = ap (λ (q : Window). q.base_frame) is in
    let base_place : w.base_place ≡ length f.locals = ap (λ (q : Window). q.base_place) is in
    let w_region : w.region ≡ region = ap (λ (q : Window). q.region) is in
    let w_owner : w.owner ≡ Some place = ap (λ (q : Window). q.owner) is in
    let front : FramesInFront w (f ∷ fs) = (
      λ i l h. inr (sym base_frame, let b = slice_get_within f.locals i l h in omega (arith, b, base_place)),
      lower-in_front w fs (omega (arith, base_frame)),
    ) in
    let given : region < regions = let g = d.numbers.labels e.at e.object e.there in let P : Label → Type 0 = λ q. LabelGiven regions made q in
    subst P e.label_is g in
    let pushed = push-window t.classes store (f ∷ fs) w v us regions made d front (omega (arith, given, w_region)) (record {
      number = ap (λ (q : Window). q.number) is;
      place = place;
      named = w_owner;
      near = e.near w v us refl base_frame base_place;
      leads = e.leads
          ∙ ap Some (sym w_region);
      not_open = λ i u g same. elim (open-owner t.classes store (f ∷ fs) (v ∷ us) d.opened.owned i u place g
          (e.leads ∙ ap Some (sym w_region) ∙ ap Some (sym same))) [
            | inl lowest_is ↦ d.forest.none_into_first place (e.leads ∙ ap Some (sym w_region) ∙ ap Some (sym same) ∙ ap Some lowest_is)
            | inr owner ↦ owners-at (v ∷ us) (λ p. p ≢ place) e.free i u place g owner refl
          ];
    }) in
    let l : Local = record { name = Some z; ty = Ref Mut class; value = bridge } in
    let seen : covers (length fs) (length f.locals) w ≡ true = covers-base (length fs) (length f.locals) w base_frame base_place in
    let P : Truth → Type 0 = λ b. Meets store (if b then w ∷ v ∷ us else windows_of (length fs) (length f.locals) (v ∷ us)) (Ref Mut class) bridge in
    let Q : Val → Type 0 = λ q. Meets store (w ∷ v ∷ us) (Ref Mut class) q in
    let meets : Meets store (w ∷ v ∷ us) (Ref Mut class) bridge =
    subst Q (sym e.bridge_is) (record {
      object = e.object;
      there = e.there;
      class_is = e.class_is;
      label_fits = e.label_is
          ∙ ap Region (sym w_region);
    }) in
    put-local t.classes store f fs (w ∷ v ∷ us) regions (made + 1) (f.locals ++ l ∷ []) (length f.locals) l pushed (puts-snoc f.locals l)
    (subst P (sym seen) meets)
    (not_iso-fresh t.classes store (f ∷ fs) (Ref Mut class) bridge refl)
    (λ p o here. e.not_new (same_Some place p (sym w_owner ∙ o) ∙ here), new_owner)
  where
    covers-base : (n k : ℕ) (w : Window) → w.base_frame ≡ n → w.base_place ≡ k → covers n k w ≡ true
    covers-base n k w a b =
        let x : (w.base_frame == n) ≡ true = grind arith in
        let y : nat_le w.base_place k ≡ true = grind arith in both (nat_lt w.base_frame n) (w.base_frame == n) (nat_le w.base_place k) x y
      where
        both : (c a b : Truth) → a ≡ true → b ≡ true → (c || (a && b)) ≡ true
        both true a b x y = refl
        both false true true x y = refl
        both false true false x y = grind arith
        both false false b x y = grind arith

-- The frame in front of the block

named-lent : (x : Variable) (fs : List Name) (es : List Entry) (ls : List Local) → Named es ls → Named (lent_entries x fs es) ls
named-lent x [] es ls h = walk es ls h
  where
    name_by : (b : Truth) (e : Entry) → (if b then record e { readiness = lent } else e).name ≡ e.name
    name_by true e = refl
    name_by false e = refl

    ty_by : (b : Truth) (e : Entry) → (if b then record e { readiness = lent } else e).ty ≡ e.ty
    ty_by true e = refl
    ty_by false e = refl

    walk : (es : List Entry) (ls : List Local) → Named es ls → Named (map (marked_entry x lent) es) ls
    walk [] [] h = tt
    walk [] (l ∷ ls) h = absurd h
    walk (e ∷ es) [] h = absurd h
    walk (e ∷ es) (l ∷ ls) h = (h.0 ∙ sym (name_by (same_variable e.name x) e), h.1 ∙ sym (ty_by (same_variable e.name x) e), walk es ls h.2)
named-lent x (f ∷ fs) es ls h = h

-- an entry in front of the block, and the one that it was
record Marked (x : Variable) (fs : List Name) (e o : Entry) : Type 0 where
  pub depth : o.depth ≡ e.depth
  pub name : o.name ≡ e.name
  pub lent_is : (o.readiness ≡ lent) ↔ ((e.readiness ≡ lent) ⊎ ((fs ≡ []) × (e.name ≡ x)))

marked-back : (x : Variable) (es : List Entry) (i : ℕ) (o : Entry) → slice_get (map (marked_entry x lent) es) i ≡ Some o →
    (e : Entry) × (slice_get es i ≡ Some e) × (o ≡ marked_entry x lent e)
marked-back x [] i o g = none-some g
marked-back x (f ∷ es) zero o g = (f, refl, sym (same_Some (marked_entry x lent f) o g))
marked-back x (f ∷ es) (suc i) o g = marked-back x es i o g

lent-at : (x : Variable) (fs : List Name) (es : List Entry) (i : ℕ) (o : Entry) → slice_get (lent_entries x fs es) i ≡ Some o →
    (e : Entry) × (slice_get es i ≡ Some e) × Marked x fs e o
lent-at x [] es i o g =
    let b = marked-back x es i o g in
    let P : Entry → Type 0 = λ q. Marked x [] b.0 q in
    (b.0, b.1, subst P (sym b.2) (by (same_variable b.0.name x) refl))
  where
    by : {e : Entry} (b : Truth) → same_variable e.name x ≡ b → Marked x [] e (if b then record e { readiness = lent } else e)
    by {e = e} true at = record { depth = refl; name = refl; lent_is = (λ l. inr (refl, same_variable-true e.name x at), λ l. refl) }
    by {e = e} false at = record {
      depth = refl;
      name = refl;
      lent_is = (
        λ l. inl l,
        λ l. elim l [
          | inl was ↦ was
          | inr named ↦ let P : Variable → Type 0 = λ q. same_variable q x ≡ false in
              let c : true ≡ false = sym (same_variable-same x) ∙ subst P named.1 at in grind arith
        ],
      );
    }
lent-at x (f ∷ fs) es i o g = (
  o,
  g,
  record {
    depth = refl;
    name = refl;
    lent_is =
        (λ l. inl l, λ l. elim l [ inl was ↦ was | inr named ↦ grind arith ]);
  },
)

-- the place that is entered
abbrev pub EntersPlace : (frame : ℕ) → List Entry → List Local → Variable → List Name → Place → Type 0
EntersPlace n es ls x [] p = (p ≡ Var n (place_in ls x)) × ((e : Entry) × (find (λ (o : Entry). same_variable o.name x) es ≡ Some e))
EntersPlace n es ls x (f ∷ fs) p = (a : ℕ) × (j : ℕ) × (p ≡ Field a j)

-- the frame stands there, before the bridge comes
enter-stands : (f : Frame) (n : ℕ) (w : Window) (own : List Window) (old : Spot) (env : Env) (x : Variable) (fs : List Name) (place : Place)
    (items : List Item) →
    Stands f n own old → env.entries ≡ lent_entries x fs old.env.entries → Distinct old.env.entries → w.owner ≡ Some place → w.base_frame ≡ n →
    w.base_place ≡ length f.locals →
    EntersPlace n old.env.entries f.locals x fs place → leaves items ≡ length f.locals ∷ leaves old.items →
    Stands f n (w ∷ own) (record { env = env; items = items; enters = old.enters ++ record { base = x; fields = fs } ∷ [] })
enter-stands f n w own old env x fs place items h entries distinct owner base_frame base_place at ends =
    let back : reverse (old.enters ++ record { base = x; fields = fs } ∷ []) ≡ record { base = x; fields = fs } ∷ reverse old.enters =
    reverse-append old.enters (record { base = x; fields = fs } ∷ []) in
    let P : List Path → Type 0 = λ q. Entered n f.locals q (w ∷ own) in
    let Q : List Entry → Type 0 = λ q. Named q f.locals in
    let R : Option Place → Type 0 = λ q. Enters n f.locals x fs q in
    record {
      named = subst Q (sym entries) (named-lent x fs old.env.entries f.locals h.named);
      entered = subst P (sym back) (base_frame, subst R (sym owner) (enters_it x fs place at), h.entered);
      bases = ap (λ q. q ∷ map (λ (u : Window). u.base_place) own) base_place ∙ ap (λ q. length f.locals ∷ q) h.bases ∙ sym ends;
      depths = λ i o g.
          let e = lent-at x fs old.env.entries i o (ap (λ q. slice_get q i) (sym entries) ∙ g) in
          let count = Named-length old.env.entries f.locals h.named in
          let within = slice_get_within old.env.entries i e.0 e.1 in
          let not_seen : covers n i w ≡ false = covers-not n i w (inr (sym base_frame, omega (arith, within, count, base_place))) in
          e.2.depth ∙ h.depths i e.0 e.1 ∙ ap (λ (b : Truth). if b then suc (covering n i own) else covering n i own) (sym not_seen);
      lent_are = λ i o g.
          let e = lent-at x fs old.env.entries i o (ap (λ q. slice_get q i) (sym entries) ∙ g) in
          let l = h.lent_are i e.0 e.1 in (
            λ r. elim (e.2.lent_is.0 r) [
              | inl was ↦ inr (l.0 was)
              | inr named ↦ inl (owner ∙ ap Some (here x fs place at i e.0 e.1 named.0 named.1))
            ],
            λ d. elim d [
              | inl o ↦ e.2.lent_is.1 (inr (there x fs place at i e.0 e.1 (same_Some place (Var n i) (sym owner ∙ o))))
              | inr other ↦ e.2.lent_is.1 (inl (l.1 other))
            ],
          );
    }
  where
    enters_it : (x : Variable) (fs : List Name) (place : Place) → EntersPlace n old.env.entries f.locals x fs place →
        Enters n f.locals x fs (Some place)
    enters_it x [] place q =
        let a = first-at old.env.entries f.locals x q.1.0 h.named q.1.1 in
        let P : Place → Type 0 = λ z. Enters n f.locals x [] (Some z) in
        subst P (sym q.0) (refl, record { local = a.local; there = a.local_at; name_is = a.pair.name ∙ same_variable-true q.1.0.name x a.is_name })
    enters_it x (g ∷ fs) place q = let P : Place → Type 0 = λ z. Enters n f.locals x (g ∷ fs) (Some z) in subst P (sym q.2) tt

    here : (x : Variable) (fs : List Name) (place : Place) → EntersPlace n old.env.entries f.locals x fs place → (i : ℕ) (e : Entry) →
        slice_get old.env.entries i ≡ Some e → fs ≡ [] → e.name ≡ x →
        place ≡ Var n i
    here x [] place q i e g no_field name =
        let a = first-at old.env.entries f.locals x q.1.0 h.named q.1.1 in
        let same = distinct-place old.env.entries (place_in f.locals x) i q.1.0 e distinct a.entry_at g
        (same_variable-true q.1.0.name x a.is_name ∙ sym name) in
        q.0 ∙ ap (Var n) same
    here x (g ∷ fs) place q i e k no_field name = grind arith

    there : (x : Variable) (fs : List Name) (place : Place) → EntersPlace n old.env.entries f.locals x fs place → (i : ℕ) (e : Entry) →
        slice_get old.env.entries i ≡ Some e → place ≡ Var n i →
        (fs ≡ []) × (e.name ≡ x)
    there x [] place q i e g same =
        let a = first-at old.env.entries f.locals x q.1.0 h.named q.1.1 in
        let both : Var n (place_in f.locals x) ≡ Var n i = sym q.0 ∙ same in
        let one : place_in f.locals x ≡ i = grind arith in
        let is : q.1.0 ≡ e = same_Some q.1.0 e (sym a.entry_at ∙ ap (slice_get old.env.entries) one ∙ g) in
        (refl, ap (λ (z : Entry). z.name) (sym is) ∙ same_variable-true q.1.0.name x a.is_name)
    there x (g ∷ fs) place q i e k same = let no : Field q.0 q.1 ≡ Var n i = sym q.2 ∙ same in grind arith

-- the environment in front of the block, before the bridge comes
pub record Fronts (env front : Env) (x : Variable) (fs : List Name) (z : Name) : Type 0 where
  pub before : Env
  pub entries : before.entries ≡ lent_entries x fs env.entries
  pub depth : before.depth ≡ env.depth + 1
  pub class : ℕ
  pub front_is : front ≡ with_variable before (Some z) (Ref Mut class) true

pub items_of-append : (b : Block) (xs ys : List Item) → items_of b (xs ++ ys) ≡ items_of b xs ++ ys
items_of-append none xs ys = refl
items_of-append (next s b) xs ys = ap (λ q. Do s ∷ q) (items_of-append b xs ys)

-- the topmost frame goes into the block
enter-runs : (t : Tree) (s : State) (line : ℕ) (p : Path) (z : Name) (body : Block) (giving : Option Name) (rest : List Item)
    (d : Doing t s line (enter p z body giving) rest)
    (front : Env) →
    judge_enter t.classes d.r.spot.env p.base p.fields z ≡ Ok front → (b : Fronts d.r.spot.env front p.base p.fields z) →
    (w : Window) (place : Place) (bridge : Val) →
    w.owner ≡ Some place → w.base_frame ≡ length d.fs → w.base_place ≡ length d.f.locals →
    EntersPlace (length d.fs) d.r.spot.env.entries d.f.locals p.base p.fields place →
    Running t (record d.f { locals = d.f.locals ++ record { name = Some z; ty = Ref Mut b.class; value = bridge } ∷ [] }) d.fs (w ∷ s.windows)
    (items_of body (leave_of line (length d.f.locals) giving ∷ rest))
enter-runs t s line p z body giving rest d front judged b w place bridge owner base_frame base_place at =
    let r = d.r in
    let is = running-first t d.f d.fs s.windows (Do (stmt line (enter p z body giving))) rest r in
    let opens : inner_block t.classes r.spot.env (enter p z body giving) first ≡ Some (record { env = front; block = body }) = rw judged refl in
    let inside = spot-inside t.classes r.body.result r.body.front r.body.block r.body.after [] r.point r.spot line (enter p z body giving) r.more
    first
    (record { env = front; block = body })
    d.top.right.free r.spot_is is.0 opens in
    let count = Named-length r.spot.env.entries d.f.locals r.stands.named in
    let mine : List Item = items_of body (leave_of line (length r.spot.env.entries) giving ∷ r.more) in
    let old_leaves : leaves r.spot.items ≡ leaves r.more = ap leaves is.0 in
    let ends : leaves mine ≡ length d.f.locals ∷ leaves r.spot.items =
    leaves-items_of body (leave_of line (length r.spot.env.entries) giving ∷ r.more)
    ∙ leaves-leave_of line (length r.spot.env.entries) giving r.more ∙ ap (λ q. q ∷ leaves r.more) count
    ∙ ap (λ q. length d.f.locals ∷ q) (sym old_leaves) in
    let mid = enter-stands d.f (length d.fs) w r.own r.spot b.before p.base p.fields place mine r.stands b.entries d.top.spot.distinct owner
    base_frame base_place at ends in
    let lent_count : length b.before.entries ≡ length r.spot.env.entries = ap length b.entries ∙ length-lent p.base p.fields r.spot.env.entries in
    let P : List ℕ → Type 0 = λ q. AllWithin (length b.before.entries) q in
    let Q : ℕ → Type 0 = λ q. AllWithin q (leaves r.spot.items) in
    let within : AllWithin (length b.before.entries) (leaves mine) =
    subst P (sym ends) (omega (arith, lent_count, count), subst Q (sym lent_count) d.top.spot.within) in
    let l : Local = record { name = Some z; ty = Ref Mut b.class; value = bridge } in
    let g : Frame = record d.f { locals = d.f.locals ++ l ∷ [] } in
    let depth : b.before.depth ≡ length (w ∷ r.own) = let e = d.top.depth in let h = b.depth in omega (arith, e, h) in
    let stands = stands-more d.f g (length d.fs) (w ∷ r.own) (record { env = b.before; items = mine; enters = r.spot.enters ++ p ∷ [] }) l (Some z)
    (Ref Mut b.class) mid refl refl refl depth within in
    let R : Env → Type 0 = λ q. Stands g (length d.fs) (w ∷ r.own) (record { env = q; items = mine; enters = r.spot.enters ++ p ∷ [] }) in
    let n = items_of-begins body (leave_of line (length r.spot.env.entries) giving ∷ r.more)
    (record { first = leave_of line (length r.spot.env.entries) giving; more = r.more; is = refl }) in
    record {
      body = r.body;
      own = w ∷ r.own;
      under = r.under;
      windows_are = ap (λ q. w ∷ q) r.windows_are;
      point = deepen first r.point;
      spot = record { env = front; items = mine; enters = r.spot.enters ++ p ∷ [] };
      spot_is = inside;
      stands = subst R (sym b.front_is) stands;
      first = n.first;
      more = n.more;
      begins = n.is;
      rest = r.rest;
      items_are = ap (λ q. items_of body (leave_of line (length d.f.locals) giving ∷ q)) is.1
          ∙ ap (λ q. items_of body (leave_of line q giving ∷ (r.more ++ r.rest))) (sym count)
          ∙ items_of-append body (leave_of line (length r.spot.env.entries) giving ∷ r.more) r.rest ∙ ap (λ q. q ++ r.rest) n.is;
      beneath = r.beneath;
    }

-- the state behind the `enter`
pub enter-kept : (t : Tree) (s : State) (line : ℕ) (p : Path) (z : Name) (body : Block) (giving : Option Name) (rest : List Item)
    (d : Doing t s line (enter p z body giving) rest)
    (front : Env) →
    judge_enter t.classes d.r.spot.env p.base p.fields z ≡ Ok front → (b : Fronts d.r.spot.env front p.base p.fields z) →
    (place : Place) (bridge : Val) (o : Seen) (region : ℕ) →
    Entrance t s.store d.f d.fs s.windows place bridge b.class region → object_at s.store bridge ≡ Ok o →
    EntersPlace (length d.fs) d.r.spot.env.entries d.f.locals p.base p.fields place →
    type_at t.classes s.store (d.f ∷ d.fs) place ≡ Some (Ref Iso b.class) →
    StaysFit t s (with_window (record s { items = rest }) place z body (λ kept. leave_of line kept giving) bridge o.class (region_of o.label))
enter-kept t s line p z body giving rest d front judged b place bridge o region e there at owner_ty =
    let a = object_at-ok s.store bridge o there in
    let address_is : Obj e.at ≡ Obj a.address = sym e.bridge_is ∙ a.value in
    let same_address : e.at ≡ a.address = grind arith in
    let one : e.object ≡ o = same_Some e.object o (sym e.there ∙ ap (slice_get s.store) same_address ∙ a.there) in
    let label_is : o.label ≡ Region region = ap (λ (q : Seen). q.label) (sym one) ∙ e.label_is in
    let class_is : o.class ≡ b.class = ap (λ (q : Seen). q.class) (sym one) ∙ e.class_is in
    let s0 : State = record s { items = rest } in
    let w : Window = record {
      number = s.windows_made;
      region = region;
      owner = Some place;
      base_frame = length d.fs;
      base_place =
          length d.f.locals;
    } in
    let l : Local = record { name = Some z; ty = Ref Mut b.class; value = bridge } in
    let g : Frame = record d.f { locals = d.f.locals ++ l ∷ [] } in
    let u : State = record s {
      frames = g ∷ d.fs;
      windows = w ∷ s.windows;
      windows_made = s.windows_made + 1;
      items =
          items_of body (leave_of line (length d.f.locals) giving ∷ rest);
    } in
    let is : with_window s0 place z body (λ kept. leave_of line kept giving) bridge o.class (region_of o.label) ≡ u = rw (
      label_is,
      class_is,
      d.frames,
    ) refl in
    let v = under_window t s d in
    let P : List Window → Type 0 = λ q. Data t.classes s.store (d.f ∷ d.fs) q (length s.managers) s.windows_made in
    let Q : List Window → Type 0 = λ q. Entrance t s.store d.f d.fs q place bridge b.class region in
    let R : List Window → Type 0 = λ q. NotOwner q (length d.fs) (length d.f.locals) in
    let T : List Window → Type 0 = λ q. Data t.classes s.store (g ∷ d.fs) (w ∷ q) (length s.managers) (s.windows_made + 1) in
    let fits = enter-data t s.store d.f d.fs v.0 v.1 (length s.managers) s.windows_made place bridge b.class region z (subst P v.2 d.fits)
    (subst Q v.2 e) w refl
    (subst R v.2 (top-new_owner t d.f d.fs s.windows (Do (stmt line (enter p z body giving)) ∷ rest) d.r d.top)) in
    let run = enter-runs t s line p z body giving rest d front judged b w place bridge refl refl refl at in
    let bridged = bridges-enter t.classes s.store d.f d.fs w s.windows place b.class l refl refl refl refl owner_ty d.bridged in
    rw is (record { fit = data-fit t u (inl run) (subst T (sym v.2) fits) bridged; allowed = allowed-same s u refl })
  where
    under_window : (t : Tree) (s : State) (d : Doing t s line (enter p z body giving) rest) → (v : Window) × (us : List Window) × (s.windows ≡ v ∷ us)
    under_window t s d =
        let u = beneath-window t d.fs d.r.under d.r.rest d.r.body d.f.target d.r.beneath in go d.r.own d.r.under s.windows d.r.windows_are u
      where
        go : (own under ws : List Window) → ws ≡ own ++ under → ((v : Window) × (us : List Window) × (under ≡ v ∷ us)) →
            (v : Window) × (us : List Window) × (ws ≡ v ∷ us)
        go [] under ws e r = (r.0, r.1, e ∙ r.2)
        go (x ∷ own) under ws e r = (x, own ++ under, e)
