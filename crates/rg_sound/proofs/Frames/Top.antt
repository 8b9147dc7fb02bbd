-- What is known of the topmost frame while it runs.
use Rattle.std.proofs.Common.{◌≡◌, ◌≢◌, refl, sym, ◌∙◌, ap, subst, inl, inr, ℕ, ◌==◌, Bool as Truth, true, false, List, [], ◌∷◌, ◌++◌, length, take}
use Rattle.std.proofs.Common.{map, reverse, Option, Some, option_and_then, slice_get, arith}
use Rattle.std.proofs.lemmas.List.{length-reverse}
use Rattle.std.proofs.lemmas.Bool.{eqb-false}
use Rattle.rg_base.specs.declared.object.Place.{Place}
use Rattle.rg_base.specs.declared.object.Place.TheVariants.{Var, Field}
use Rattle.rg_base.specs.declared.object.Seen.{Seen}
use Rattle.rg_tree.specs.Tree.{Tree, Class}
use Rattle.rg_rules.specs.Acceptance.{Accepted}
use Rattle.rg_rules.specs.Environment.{Entry, Readiness, ready, gone, lent, is_lent, at_depth}
use Rattle.rg_rules.specs.Items.{Item}
use Rattle.rg_rules.specs.State.{Local, Frame, Window}
use Rattle.rg_rules.specs.Regions.{region_at}
use Rattle.rg_rules.specs.Owners.{owned_by_local, leads_into}
use Rattle.rg_sound.specs.Windows.{covering, windows_of}
use Rattle.rg_sound.specs.Values.{ValuesFit}
use Rattle.rg_sound.specs.OpenRegions.{AllOwned}
use Rattle.rg_sound.specs.Frames.{leaves, Lends, Running}
use Rattle.rg_sound.proofs.Frames.Body.{Right, body-right}
use Rattle.rg_sound.proofs.Frames.Method.{Front, body-front}
use Rattle.rg_sound.proofs.Frames.Named.{Named-length}
use Rattle.rg_sound.proofs.Frames.Spot.{AllWithin, SpotRight, spot-right}
use Rattle.rg_sound.proofs.Values.Value.{Sees}
use Rattle.rg_sound.proofs.Owners.Owner.{AllOwners, AllOwners-map, get-take-within, leads-top, leads-lower}
use Rattle.rg_sound.proofs.Owners.Data.{NotOwner}
use Rattle.rg_sound.proofs.Frames.Stands.{AllInFront, owned-front, IsBefore, IsElsewhere, beneath-elsewhere, AllOwners-append, Entered-length}
use Rattle.rg_sound.proofs.Frames.Stands.{beneath-all, own-all, count-all, lends-not, owned-grounded, grounded-under, Grounded}

-- what is known of a running frame
pub record Top (t : Tree) (f : Frame) (fs : List Frame) (ws : List Window) (items : List Item) (r : Running t f fs ws items) : Type 0 where
  pub accepted : Accepted t
  pub right : Right t.classes r.body
  pub front : Front r.body
  pub spot : SpotRight 0 [] r.spot
  pub depth : r.spot.env.depth ≡ length r.own
  pub in_front : AllInFront (r.own ++ r.under)
  pub elsewhere : AllOwners r.under (IsElsewhere (length fs))
  pub here : (i : ℕ) (e : Entry) → slice_get r.spot.env.entries i ≡ Some e → at_depth r.spot.env e ≡ true → windows_of (length fs) i ws ≡ ws
  pub next : windows_of (length fs) (length f.locals) ws ≡ ws

pub running-top : (t : Tree) → Accepted t → (store : List Seen) (f : Frame) (fs : List Frame) (ws : List Window) (items : List Item)
    (r : Running t f fs ws items) →
    AllOwned t.classes store (f ∷ fs) ws → Top t f fs ws items r
running-top t a store f fs ws items r owned =
    let right = body-right t a fs r.under r.rest r.body f.target r.beneath in
    let front = body-front t a fs r.under r.rest r.body f.target r.beneath in
    let bound : AllWithin (length r.body.front.entries) (leaves r.body.after) =
    let P : List ℕ → Type 0 = λ q. AllWithin (length r.body.front.entries) q in subst P (sym front.no_leave) tt in
    let s = spot-right t.classes r.body.result r.body.front right.out r.body.block r.body.after [] r.point r.spot front.distinct bound right.judged
    r.spot_is in
    let spot : SpotRight 0 [] r.spot = let P : ℕ → Type 0 = λ d. SpotRight d [] r.spot in subst P front.depth s in
    let count : length r.spot.enters ≡ length r.own = sym (length-reverse r.spot.enters)
    ∙ Entered-length (length fs) f.locals (reverse r.spot.enters) r.own r.stands.entered in
    let enters : length r.spot.enters ≡ length spot.inner = ap length spot.enters in
    let depth : r.spot.env.depth ≡ length r.own = omega (arith, spot.depth_is, count, enters) in
    let P : List Window → Type 0 = λ q. AllInFront q in
    let G : List Window → Type 0 = λ q. Grounded q in
    let Q : List Window → Type 0 = λ q. (i : ℕ) → windows_of (length fs) i r.under ≡ r.under → covering (length fs) i r.own ≡ length r.own →
    windows_of (length fs) i q ≡ q in
    let all : (i : ℕ) → windows_of (length fs) i r.under ≡ r.under → covering (length fs) i r.own ≡ length r.own → windows_of (length fs) i ws ≡ ws =
    subst Q (sym r.windows_are) (λ i u c. own-all (length fs) i r.own r.under c u) in
    let under : (i : ℕ) → windows_of (length fs) i r.under ≡ r.under =
    λ i. beneath-all t fs r.under r.rest r.body f.target r.beneath (length fs) i (omega arith) in
    let entries = Named-length r.spot.env.entries f.locals r.stands.named in
    let bases : AllWithin (length f.locals) (map (λ (w : Window). w.base_place) r.own) =
    let R : List ℕ → Type 0 = λ q. AllWithin (length f.locals) q in
    let T : ℕ → Type 0 = λ n. AllWithin n (leaves r.spot.items) in subst R (sym r.stands.bases) (subst T entries spot.within) in
    record {
      accepted = a;
      right = right;
      front = front;
      spot = spot;
      depth = depth;
      in_front = subst P r.windows_are (owned-front t.classes store (f ∷ fs) ws owned);
      elsewhere = beneath-elsewhere t fs r.under r.rest r.body f.target r.beneath
          (grounded-under r.own r.under (subst G r.windows_are (owned-grounded t.classes store (f ∷ fs) ws owned))) (length fs) (omega arith);
      here = λ i e g h. all i (under i) (sym (r.stands.depths i e g) ∙ at_same e.depth r.spot.env.depth h ∙ depth);
      next = all (length f.locals) (under (length f.locals)) (count-all (length fs) (length f.locals) f.locals (reverse r.spot.enters)
          r.own r.stands.entered bases);
    }
  where
    at_same : (a b : ℕ) → (a == b) ≡ true → a ≡ b
    at_same a b h = grind arith

-- the values of its variables
pub top-sees : (t : Tree) (store : List Seen) (f : Frame) (fs : List Frame) (ws : List Window) (items : List Item) (r : Running t f fs ws items) →
    Top t f fs ws items r → ValuesFit store ws (f ∷ fs) → Sees store ws (length fs) r.spot.env f.locals
top-sees t store f fs ws items r top v = record { named = r.stands.named; values = v.0; depth = top.here }

-- A variable that isn't lent is no owner of an open region

lends-none : (ws : List Window) (n k : ℕ) → (Lends ws n k → ⊥) → NotOwner ws n k
lends-none [] n k h = tt
lends-none (w ∷ ws) n k h = (λ p e d. h (inl (e ∙ ap Some d)), lends-none ws n k (λ l. h (inr l)))

pub elsewhere-not : (n k : ℕ) (p : Place) → IsElsewhere n p → p ≢ Var n k
elsewhere-not n k (Var m i) h e = h (grind arith)
elsewhere-not n k (Field a j) h e = grind arith

not_lent : (r : Readiness) → is_lent r ≡ false → r ≡ lent → ⊥
not_lent ready h e = grind arith
not_lent gone h e = grind arith
not_lent lent h e = grind arith

pub top-not_owner : (t : Tree) (f : Frame) (fs : List Frame) (ws : List Window) (items : List Item) (r : Running t f fs ws items) →
    Top t f fs ws items r → (k : ℕ) (e : Entry) → slice_get r.spot.env.entries k ≡ Some e → is_lent e.readiness ≡ false → NotOwner ws (length fs) k
top-not_owner t f fs ws items r top k e g h =
    let own = lends-none r.own (length fs) k (λ l. not_lent e.readiness h ((r.stands.lent_are k e g).1 l)) in
    let under = AllOwners-map r.under (IsElsewhere (length fs)) (λ p. p ≢ Var (length fs) k) (elsewhere-not (length fs) k) top.elsewhere in
    let P : List Window → Type 0 = λ q. NotOwner q (length fs) k in
    subst P (sym r.windows_are) (AllOwners-append r.own r.under (λ p. p ≢ Var (length fs) k) own under)

-- and neither is one that isn't there yet
pub top-new_owner : (t : Tree) (f : Frame) (fs : List Frame) (ws : List Window) (items : List Item) (r : Running t f fs ws items) →
    Top t f fs ws items r → NotOwner ws (length fs) (length f.locals)
top-new_owner t f fs ws items r top =
    let own = lends-none r.own (length fs) (length f.locals) (lends-not (length fs) (length f.locals) f.locals (reverse r.spot.enters)
    r.own r.stands.entered (omega arith)) in
    let under = AllOwners-map r.under (IsElsewhere (length fs)) (λ p. p ≢ Var (length fs) (length f.locals))
    (elsewhere-not (length fs) (length f.locals)) top.elsewhere in
    let P : List Window → Type 0 = λ q. NotOwner q (length fs) (length f.locals) in
    subst P (sym r.windows_are) (AllOwners-append r.own r.under (λ p. p ≢ Var (length fs) (length f.locals)) own under)

-- where the last variables go, what leads from in front of them stays
pub leads-taken : (classes : List Class) (store : List Seen) (f : Frame) (fs : List Frame) (k : ℕ) (p : Place) → IsBefore (length fs) k p →
    leads_into classes store (record f { locals = take k f.locals } ∷ fs) p ≡ leads_into classes store (f ∷ fs) p
leads-taken classes store f fs k (Var n i) (inl other) = leads-lower classes store (record f { locals = take k f.locals }) fs n i other
    ∙ sym (leads-lower classes store f fs n i other)
leads-taken classes store f fs k (Var n i) (inr l) = by_frame (n == length fs) refl
  where
    by_frame : (b : Truth) → (n == length fs) ≡ b → leads_into classes store (record f { locals = take k f.locals } ∷ fs)
        (Var n i) ≡ leads_into classes store (f ∷ fs) (Var n i)
    by_frame true e =
        let here : n ≡ length fs = grind arith in
        ap (λ m. leads_into classes store (record f { locals = take k f.locals } ∷ fs) (Var m i)) here
        ∙ leads-top classes store (record f { locals = take k f.locals }) fs i
        ∙ ap (λ (q : Option Local). option_and_then (region_at store) (option_and_then owned_by_local q)) (get-take-within k f.locals i l)
        ∙ sym (leads-top classes store f fs i) ∙ ap (λ m. leads_into classes store (f ∷ fs) (Var m i)) (sym here)
    by_frame false e =
        let other : n ≢ length fs = eqb-false n (length fs) e in
        leads-lower classes store (record f { locals = take k f.locals }) fs n i other ∙ sym (leads-lower classes store f fs n i other)
leads-taken classes store f fs k (Field a j) b = refl
