-- The frame behind the block of an `enter`.
use Rattle.std.proofs.Common.{◌≡◌, refl, sym, ◌∙◌, ap, subst, ◌⊎◌, inl, inr, ◌↔◌, ℕ, zero, suc, Bool as Truth, true, false, if◌then◌else◌, List, []}
use Rattle.std.proofs.Common.{◌∷◌, ◌++◌, length, take, map, reverse, Option, Some, None, slice_get, arith}
use Rattle.std.proofs.lemmas.Option.{slice_get_within, same_Some}
use Rattle.rg_base.specs.declared.object.Place.{Place}
use Rattle.rg_base.specs.declared.object.Place.TheVariants.{Var, Field}
use Rattle.rg_base.specs.declared.object.Seen.{Seen}
use Rattle.rg_tree.specs.Tree.{Name, Variable, Path, Ty as Written, Tree, Class}
use Rattle.rg_rules.specs.Environment.{Env, Entry, Readiness, lent, is_lent, same_variable, marked_entry}
use Rattle.rg_rules.specs.Items.{Item, EndAt, leave_of}
use Rattle.rg_rules.specs.Bodies.{Body, method_end}
use Rattle.rg_rules.specs.Points.{Spot}
use Rattle.rg_rules.specs.State.{Target, Local, Frame, Window}
use Rattle.rg_rules.specs.Owners.{leads_into}
use Rattle.rg_sound.specs.Windows.{covers, covering, lowest}
use Rattle.rg_sound.specs.OpenRegions.{AllOwned, OneWindowEach}
use Rattle.rg_sound.specs.Frames.{leaves, Stands, Beneath, Named, IsNamed, Enters, Entered, Lends}
use Rattle.rg_sound.proofs.Basics.{none-some}
use Rattle.rg_sound.proofs.Frames.Entry.{Absent, Distinct, distinct-find, Keeps, Keeps-at, settled_readiness, same_variable-same, same_variable-true}
use Rattle.rg_sound.proofs.Frames.Judge.{lent_entries, length-lent}
use Rattle.rg_sound.proofs.Frames.Named.{Named-at, Named-entry}
use Rattle.rg_sound.proofs.Frames.SpotEnd.{IsFreed}
use Rattle.rg_sound.proofs.Owners.Owner.{AllOwners}
use Rattle.rg_sound.proofs.Frames.Stands.{IsBefore, named-front, settled-lent, entered-taken}
use Rattle.rg_sound.proofs.Owners.Window.{covers-not}
use Rattle.rg_sound.proofs.Frames.Spot.{leaves-leave_of}

-- the body of a method or of main doesn't end so
pub no-leave : {B : Type 0} (t : Tree) (fs : List Frame) (ws : List Window) (items : List Item) (b : Body) (target : Target) (line k : ℕ)
    (giving : Option Name) (mine : List Item) →
    Beneath t fs ws items b target → b.after ≡ leave_of line k giving ∷ mine → B
no-leave t [] ws items b target line k giving mine h e = not_end giving (sym (ap (λ (q : Body). q.after) h.0) ∙ e)
  where
    not_end : {B : Type 0} (giving : Option Name) → EndAt 0 ∷ [] ≡ leave_of line k giving ∷ mine → B
    not_end None e = grind arith
    not_end (Some w) e = grind arith
no-leave t (f ∷ fs) ws items b target line k giving mine h e = elim (h.7) [
  | inl w ↦ not_so giving _ (sym (ap (λ (q : Body). q.after) w.calls.callee_is) ∙ e)
  | inr w ↦ not_so giving _ (sym (ap (λ (q : Body). q.after) w.callee_is) ∙ e)
]
  where
    not_so : {B : Type 0} (giving : Option Name) (r : Option Written) → method_end r ≡ leave_of line k giving ∷ mine → B
    not_so None None e = grind arith
    not_so None (Some r) e = grind arith
    not_so (Some w) None e = grind arith
    not_so (Some w) (Some r) e = grind arith

-- beneath a frame there is a window
pub beneath-window : (t : Tree) (fs : List Frame) (ws : List Window) (items : List Item) (b : Body) (target : Target) →
    Beneath t fs ws items b target →
    (v : Window) × (us : List Window) × (ws ≡ v ∷ us)
beneath-window t [] ws items b target h = (lowest h.2.0 h.2.1, [], h.2.2)
beneath-window t (f ∷ fs) ws items b target h =
    let r = beneath-window t fs h.2 h.4 h.0 f.target h.8 in front h.1 h.2 ws h.5 r
  where
    front : (own under ws : List Window) → ws ≡ own ++ under → ((v : Window) × (us : List Window) × (under ≡ v ∷ us)) →
        (v : Window) × (us : List Window) × (ws ≡ v ∷ us)
    front [] under ws e r = (r.0, r.1, e ∙ r.2)
    front (w ∷ own) under ws e r = (w, own ++ under, e)

-- Names

-- and stands at one place
pub distinct-place : (es : List Entry) (i j : ℕ) (e o : Entry) → Distinct es → slice_get es i ≡ Some e → slice_get es j ≡ Some o → e.name ≡ o.name →
    i ≡ j
distinct-place [] i j e o d g h n = none-some g
distinct-place (f ∷ es) zero zero e o d g h n = refl
distinct-place (f ∷ es) zero (suc j) e o d g h n = absurd (later es j o d.0 h (ap (λ (q : Entry). q.name) (same_Some f e g) ∙ n))
  where
    later : (es : List Entry) (j : ℕ) (o : Entry) → Absent f.name es → slice_get es j ≡ Some o → f.name ≡ o.name → ⊥
    later [] j o a h m = none-some h
    later (p ∷ es) zero o a h m =
        let yes : same_variable p.name f.name ≡ true = rw (ap (λ (q : Entry). q.name) (same_Some p o h), m) (same_variable-same o.name) in
        let c : false ≡ true = sym a.0 ∙ yes in grind arith
    later (p ∷ es) (suc j) o a h m = later es j o a.1 h m
distinct-place (f ∷ es) (suc i) zero e o d g h n = absurd (later es i e d.0 g (ap (λ (q : Entry). q.name) (same_Some f o h) ∙ sym n))
  where
    later : (es : List Entry) (j : ℕ) (o : Entry) → Absent f.name es → slice_get es j ≡ Some o → f.name ≡ o.name → ⊥
    later [] j o a h m = none-some h
    later (p ∷ es) zero o a h m =
        let yes : same_variable p.name f.name ≡ true = rw (ap (λ (q : Entry). q.name) (same_Some p o h), m) (same_variable-same o.name) in
        let c : false ≡ true = sym a.0 ∙ yes in grind arith
    later (p ∷ es) (suc j) o a h m = later es j o a.1 h m
distinct-place (f ∷ es) (suc i) (suc j) e o d g h n = ap suc (distinct-place es i j e o d.1 g h n)

-- Two windows have two owners

-- each window but the lowest has an owner that leads into its region
owner-leads : (classes : List Class) (store : List Seen) (frames : List Frame) (ws : List Window) → AllOwned classes store frames ws →
    (i : ℕ) (u : Window) (p : Place) →
    slice_get ws i ≡ Some u → u.owner ≡ Some p → leads_into classes store frames p ≡ Some u.region
owner-leads classes store frames [] h i u p g e = absurd h
owner-leads classes store frames (w ∷ []) h zero u p g e = let same : w ≡ u = same_Some w u g in
    none-some (sym h.1 ∙ ap (λ (q : Window). q.owner) same ∙ e)
owner-leads classes store frames (w ∷ []) h (suc i) u p g e = none-some g
owner-leads classes store frames (w ∷ v ∷ ws) h zero u p g e =
    let same : w ≡ u = same_Some w u g in
    let one : h.0.place ≡ p = same_Some h.0.place p (sym h.0.named ∙ ap (λ (q : Window). q.owner) same ∙ e) in
    let P : Place → Type 0 = λ q. leads_into classes store frames q ≡ Some w.region in
    subst P one ((h.0.exact h.0.place).1 refl) ∙ ap (λ (q : Window). Some q.region) same
owner-leads classes store frames (w ∷ v ∷ ws) h (suc i) u p g e = owner-leads classes store frames (v ∷ ws) h.1 i u p g e

lends-at : (ws : List Window) (n i : ℕ) → Lends ws n i → (j : ℕ) × (u : Window) × (slice_get ws j ≡ Some u) × (u.owner ≡ Some (Var n i))
lends-at [] n i h = absurd h
lends-at (w ∷ ws) n i (inl e) = (0, w, refl, e)
lends-at (w ∷ ws) n i (inr h) = let r = lends-at ws n i h in (suc r.0, r.1, r.2, r.3)

get-front : (own under : List Window) (i : ℕ) (u : Window) → slice_get own i ≡ Some u → slice_get (own ++ under) i ≡ Some u
get-front [] under i u g = none-some g
get-front (w ∷ own) under zero u g = g
get-front (w ∷ own) under (suc i) u g = get-front own under i u g

-- the topmost window's owner is no other's
pub owner-once : (classes : List Class) (store : List Seen) (frames : List Frame) (w : Window) (own under : List Window) →
    AllOwned classes store frames (w ∷ own ++ under) →
    OneWindowEach (w ∷ own ++ under) → (n i : ℕ) → w.owner ≡ Some (Var n i) → Lends own n i → ⊥
owner-once classes store frames w own under h o n i e l =
    let r = lends-at own n i l in
    let at = get-front own under r.0 r.1 r.2 in
    let a = owner-leads classes store frames (w ∷ own ++ under) h 0 w (Var n i) refl e in
    let b = owner-leads classes store frames (w ∷ own ++ under) h (suc r.0) r.1 (Var n i) at r.3 in
    let same : w.region ≡ r.1.region = same_Some w.region r.1.region (sym a ∙ b) in
    let no : 0 ≡ suc r.0 = o 0 (suc r.0) w r.1 refl at same in absurd (omega (arith, no))

-- The frame behind an `enter`

unlent-name : (b : Truth) (e : Entry) → (if b then record e { readiness = lent } else e).name ≡ e.name
unlent-name true e = refl
unlent-name false e = refl

unlent-ty : (b : Truth) (e : Entry) → (if b then record e { readiness = lent } else e).ty ≡ e.ty
unlent-ty true e = refl
unlent-ty false e = refl

unlent-depth : (b : Truth) (e : Entry) → (if b then record e { readiness = lent } else e).depth ≡ e.depth
unlent-depth true e = refl
unlent-depth false e = refl

pub named-unlent : (x : Variable) (fs : List Name) (es : List Entry) (ls : List Local) → Named (lent_entries x fs es) ls → Named es ls
named-unlent x [] es ls h = walk es ls h
  where
    walk : (es : List Entry) (ls : List Local) → Named (map (marked_entry x lent) es) ls → Named es ls
    walk [] [] h = tt
    walk [] (l ∷ ls) h = absurd h
    walk (e ∷ es) [] h = absurd h
    walk (e ∷ es) (l ∷ ls) h = (h.0 ∙ unlent-name (same_variable e.name x) e, h.1 ∙ unlent-ty (same_variable e.name x) e, walk es ls h.2)
named-unlent x (f ∷ fs) es ls h = h

-- an entry of the environment behind, and the one at the end of the block
pub record Behind (x : Variable) (fs : List Name) (e o : Entry) : Type 0 where
  pub name : o.name ≡ e.name
  pub depth : o.depth ≡ e.depth
  pub lent_is : (o.readiness ≡ lent) ↔ ((e.readiness ≡ lent) ⊎ ((fs ≡ []) × (e.name ≡ x)))

pub marked-at : (x : Variable) (es : List Entry) (i : ℕ) (e : Entry) → slice_get es i ≡ Some e →
    slice_get (map (marked_entry x lent) es) i ≡ Some (marked_entry x lent e)
marked-at x [] i e g = none-some g
marked-at x (f ∷ es) zero e g = ap (λ q. Some (marked_entry x lent q)) (same_Some f e g)
marked-at x (f ∷ es) (suc i) e g = marked-at x es i e g

behind-at : (x : Variable) (fs : List Name) (es os : List Entry) (i : ℕ) (e : Entry) → Keeps (lent_entries x fs es) os → slice_get es i ≡ Some e →
    (o : Entry) × (slice_get os i ≡ Some o) × Behind x fs e o
behind-at x [] es os i e k g =
    let o = Keeps-at (map (marked_entry x lent) es) os i (marked_entry x lent e) k (marked-at x es i e g) in (
      o.0,
      o.1,
      record {
        name = ap (λ (q : Entry). q.name) o.2 ∙ unlent-name (same_variable e.name x) e;
        depth = ap (λ (q : Entry). q.depth) o.2 ∙ unlent-depth (same_variable e.name x) e;
        lent_is = by (same_variable e.name x) refl o.0.readiness (ap (λ (q : Entry). q.readiness) o.2);
      },
    )
  where
    by : (b : Truth) → same_variable e.name x ≡ b → (r : Readiness) →
        settled_readiness r ≡ settled_readiness ((if b then record e { readiness = lent } else e).readiness) →
        (r ≡ lent) ↔ ((e.readiness ≡ lent) ⊎ (◌≡◌ {A = List Name} [] [] × (e.name ≡ x)))
    by true at r h = (λ l. inr (refl, same_variable-true e.name x at), λ l. settled-lent lent r (sym h) refl)
    by false at r h = (
      λ l. inl (settled-lent r e.readiness h l),
      λ l. elim l [
        | inl was ↦ settled-lent e.readiness r (sym h) was
        | inr named ↦ let c : true ≡ false = sym (same_variable-same x)
            ∙ (let P : Variable → Type 0 = λ q. same_variable q x ≡ false in subst P named.1 at) in grind arith
      ],
    )
behind-at x (f ∷ fs) es os i e k g =
    let o = Keeps-at es os i e k g in
    let r = ap (λ (q : Entry). q.readiness) o.2 in (
      o.0,
      o.1,
      record {
        name = ap (λ (q : Entry). q.name) o.2;
        depth = ap (λ (q : Entry). q.depth) o.2;
        lent_is = (
          λ l. inl (settled-lent o.0.readiness e.readiness r l),
          λ l. elim l [
            | inl was ↦ settled-lent e.readiness o.0.readiness (sym r) was
            | inr named ↦ grind arith
          ],
        );
      },
    )

-- what the window that goes names as its owner
enters-name : (n : ℕ) (ls : List Local) (x : Variable) (fs : List Name) (i : ℕ) → Enters n ls x fs (Some (Var n i)) → (fs ≡ []) × IsNamed ls i x
enters-name n ls x [] i h = (refl, h.1)
enters-name n ls x (f ∷ fs) i h = absurd h

enters-variable : (n : ℕ) (ls : List Local) (x : Variable) (o : Option Place) → Enters n ls x [] o → (i : ℕ) × (o ≡ Some (Var n i)) × IsNamed ls i x
enters-variable n ls x None h = absurd h
enters-variable n ls x (Some (Var m i)) h = (i, ap (λ q. Some (Var q i)) h.0, h.1)
enters-variable n ls x (Some (Field a j)) h = absurd h

-- the frame behind the `enter`
pub leave-stands : (f g : Frame) (n : ℕ) (w : Window) (own : List Window) (old : Spot) (env : Env) (path : Path) (enters : List Path)
    (line : ℕ) (giving : Option Name) (mine : List Item) →
    Stands f n (w ∷ own) old → Keeps (lent_entries path.base path.fields env.entries) old.env.entries → reverse old.enters ≡ path ∷ reverse enters →
    old.items ≡ leave_of line (length env.entries) giving ∷ mine → g.locals ≡ take (length env.entries) f.locals → Distinct old.env.entries →
    Distinct env.entries → IsFreed path.base path.fields env →
    AllOwners own (IsBefore n (length env.entries)) → ((i : ℕ) → w.owner ≡ Some (Var n i) → Lends own n i → ⊥) →
    Stands g n own (record { env = env; items = mine; enters = enters })
leave-stands f g n w own old env p enters line giving mine h k back items is distinct d free before once =
    let P : List Local → Type 0 = λ q. Named env.entries q in
    let Q : List Local → Type 0 = λ q. Entered n q (reverse enters) own in
    let R : List Path → Type 0 = λ q. Entered n f.locals q (w ∷ own) in
    let e = subst R back h.entered in
    let bases : w.base_place ∷ map (λ (u : Window). u.base_place) own ≡ length env.entries ∷ leaves mine =
    h.bases ∙ ap leaves items ∙ leaves-leave_of line (length env.entries) giving mine in
    let base : w.base_place ≡ length env.entries = grind arith in
    let others : map (λ (u : Window). u.base_place) own ≡ leaves mine = grind arith in
    let T : ℕ → Type 0 = λ z. Named (lent_entries p.base p.fields env.entries) (take z f.locals) in
    let front = subst T (length-lent p.base p.fields env.entries)
    (named-front (lent_entries p.base p.fields env.entries) old.env.entries f.locals k h.named) in
    record {
      named = subst P (sym is) (named-unlent p.base p.fields env.entries (take (length env.entries) f.locals) front);
      entered = subst Q (sym is) (entered-taken n (length env.entries) f.locals (reverse enters) own before e.2);
      bases = others;
      depths = λ i o a.
          let q = behind-at p.base p.fields env.entries old.env.entries i o k a in
          let within = slice_get_within env.entries i o a in
          let not_seen : covers n i w ≡ false = covers-not n i w (inr (sym e.0, omega (arith, within, base))) in
          sym q.2.depth ∙ h.depths i q.0 q.1 ∙ ap (λ (b : Truth). if b then suc (covering n i own) else covering n i own) not_seen;
      lent_are = λ i o a.
          let q = behind-at p.base p.fields env.entries old.env.entries i o k a in
          let l = h.lent_are i q.0 q.1 in (
            λ r. elim (l.0 (q.2.lent_is.1 (inl r))) [
              | inl owner ↦ absurd (named_free i o a r owner e.1)
              | inr other ↦ other
            ],
            λ other. elim (q.2.lent_is.0 (l.1 (inr other))) [
              | inl r ↦ r
              | inr named ↦ absurd (named_owner i o a q named.0 named.1 e.1 other)
            ],
          );
    }
  where
    -- a lent variable that isn't the entered one isn't named by the window
    named_free : (i : ℕ) (o : Entry) → slice_get env.entries i ≡ Some o → o.readiness ≡ lent → w.owner ≡ Some (Var n i) →
        Enters n f.locals p.base p.fields w.owner → ⊥
    named_free i o a r owner e =
        let P : Option Place → Type 0 = λ z. Enters n f.locals p.base p.fields z in
        let x = enters-name n f.locals p.base p.fields i (subst P owner e) in
        let q = behind-at p.base p.fields env.entries old.env.entries i o k a in
        let pair = Named-at old.env.entries f.locals i q.0 x.1.local h.named q.1 x.1.there in
        let name : o.name ≡ p.base = sym q.2.name ∙ sym pair.name ∙ x.1.name_is in
        let first = distinct-find p.base env.entries i o d a name in
        let Q : List Name → Type 0 = λ z. IsFreed p.base z env in
        let freed : IsFreed p.base [] env = subst Q x.0 free in
        let no = freed o first in is_lent_not o.readiness r no
      where
        is_lent_not : (r : Readiness) → r ≡ lent → is_lent r ≡ false → ⊥
        is_lent_not r e l = let P : Readiness → Type 0 = λ z. is_lent z ≡ false in let c : true ≡ false = subst P e l in grind arith

    -- the entered variable is named by no other window
    named_owner : (i : ℕ) (o : Entry) → slice_get env.entries i ≡ Some o →
        ((z : Entry) × (slice_get old.env.entries i ≡ Some z) × Behind p.base p.fields o z) → p.fields ≡ [] →
        o.name ≡ p.base → Enters n f.locals p.base p.fields w.owner → Lends own n i → ⊥
    named_owner i o a q none name e other =
        let P : List Name → Type 0 = λ z. Enters n f.locals p.base z w.owner in
        let x = enters-variable n f.locals p.base w.owner (subst P none e) in
        let there = Named-entry old.env.entries f.locals x.0 x.2.local h.named x.2.there in
        let pair = Named-at old.env.entries f.locals x.0 there.0 x.2.local h.named there.1 x.2.there in
        let same : x.0 ≡ i = distinct-place old.env.entries x.0 i there.0 q.0 distinct there.1 q.1
        (sym pair.name ∙ x.2.name_is ∙ sym name ∙ sym q.2.name) in
        once i (x.1 ∙ ap (λ z. Some (Var n z)) same) other
