-- The end of the block of an `enter` keeps the invariant.
use Rattle.std.proofs.Common.{◌≡◌, refl, sym, ◌∙◌, ap, subst, inl, inr, ℕ, zero, suc, ◌<◌, List, [], ◌∷◌, ◌++◌, length, take, map, reverse, Option}
use Rattle.std.proofs.Common.{Some, None}
use Rattle.std.proofs.Common.{slice_get, arith}
use Rattle.std.proofs.lemmas.List.{reverse-append}
use Rattle.rg_base.specs.declared.object.Place.TheVariants.{Var}
use Rattle.rg_base.specs.declared.object.Seen.{Seen}
use Rattle.rg_tree.specs.Tree.{Name, Path, Tree}
use Rattle.rg_rules.specs.Environment.{Env}
use Rattle.rg_rules.specs.Points.{Spot}
use Rattle.rg_rules.specs.Acceptance.{Accepted}
use Rattle.rg_rules.specs.Items.{Item, leave_of}
use Rattle.rg_rules.specs.State.{Local, Frame, Window, State, keep_locals}
use Rattle.rg_rules.specs.Steps.{Went, step_leave}
use Rattle.rg_sound.specs.OpenRegions.{AllOwned, OneWindowEach}
use Rattle.rg_sound.specs.Frames.{leaves, FramesFit, Running, Stands, Entered, Lends}
use Rattle.rg_sound.specs.Fit.{Fit}
use Rattle.rg_sound.specs.Laws.{LeaveKeeps}
use Rattle.rg_sound.proofs.Basics.{none-some}
use Rattle.rg_sound.proofs.Frames.Advance.{running-first}
use Rattle.rg_sound.proofs.Frames.Quiet.{allowed-same, went_is}
use Rattle.rg_sound.proofs.Frames.Spot.{AllWithin, leaves-leave_of, spot-right}
use Rattle.rg_sound.proofs.Frames.SpotEnd.{IsEnd, LeavesAt, Closes, EndsInner, spot-end}
use Rattle.rg_sound.proofs.Owners.Owner.{AllOwners, AllOwners-map, get-take}
use Rattle.rg_sound.proofs.Owners.Data.{Data, fit-data, data-fit, shrink-locals}
use Rattle.rg_sound.proofs.Frames.Stands.{AllInFront, IsBefore, all-before, own-before, front-own, owned-grounded, grounded-under, Grounded}
use Rattle.rg_sound.proofs.Frames.Top.{Top, running-top, leads-taken}
use Rattle.rg_sound.proofs.Owners.Window.{FramesInFront, lower-in_front, pop-window}
use Rattle.rg_sound.proofs.Frames.End.{running-item}
use Rattle.rg_sound.proofs.Owners.LeaveFrame.{no-leave, beneath-window, owner-once, leave-stands}
use Rattle.rg_sound.specs.Bridges.{BridgesFit}
use Rattle.rg_sound.proofs.Frames.Below.{AllBelow, spot-below}
use Rattle.rg_sound.proofs.Owners.Bridge.{AllCut, AllCut-append, own-cut, beneath-cut, cut-keeps, bridges-end, bridges-pop}
use Rattle.rg_base.specs.declared.object.Place.{Place}
use Rattle.rg_base.specs.declared.words.Cap.TheVariants.{Mut}
use Rattle.rg_base.specs.declared.ty.Ty.{Ty}
use Rattle.rg_base.specs.declared.ty.Ty.TheVariants.{Ref}
use Rattle.rg_tree.specs.Tree.{Variable}
use Rattle.rg_rules.specs.State.{value_in}
use Rattle.rg_sound.specs.Values.{Meets, ValuesFit}
use Rattle.rg_sound.specs.Frames.{Enters}
use Rattle.rg_sound.specs.Bridges.{local_type}
use Rattle.rg_sound.proofs.Frames.Top.{top-sees}
use Rattle.rg_sound.proofs.Values.Value.{seen-meets}
use Rattle.rg_sound.proofs.Owners.Bridge.{local_type-top, named-local}
use Rattle.std.proofs.Common.{option_map}

-- what is given: a value of the type of the bridge's variable
pub record GivenValue (store : List Seen) (ws : List Window) (f : Frame) (fs : List Frame) (k : ℕ) (w : Name) : Type 0 where
  pub class : ℕ
  pub bridge : local_type (f ∷ fs) (length fs) k ≡ Some (Ref Mut class)
  pub meets : Meets store ws (Ref Mut class) (value_in f.locals (Some w))

-- where something is given
abbrev pub Given : List Seen → List Window → Frame → List Frame → ℕ → Option Name → Type 0
Given store ws f fs k None = Unit {0}
Given store ws f fs k (Some w) = GivenValue store ws f fs k w

-- the topmost window goes, and what remains of the frame is behind the `enter`
pub record Left (t : Tree) (store : List Seen) (f : Frame) (fs : List Frame) (ws : List Window) (k : ℕ) (giving : Option Name)
    (later : List Item) : Type 0 where
  pub w : Window
  pub v : Window
  pub us : List Window
  pub windows : ws ≡ w ∷ v ∷ us
  pub fit : FramesFit t (record f { locals = take k f.locals } ∷ fs) (v ∷ us) later
  pub before : AllOwners ws (IsBefore (length fs) k)
  pub base_frame : w.base_frame ≡ length fs
  pub base_place : w.base_place ≡ k
  pub cut : AllCut (length fs) k (v ∷ us)
  pub here : (n i : ℕ) → w.owner ≡ Some (Var n i) → n ≡ length fs
  pub given : Given store ws f fs k giving

leave-ends : (line k : ℕ) (giving : Option Name) → IsEnd (leave_of line k giving)
leave-ends line k None = tt
leave-ends line k (Some w) = tt

leaves-at : (line k : ℕ) (giving : Option Name) (env : Env) (enters : List Path) (s : Spot) → Closes (leave_of line k giving) env enters s →
    LeavesAt k env enters s
leaves-at line k None env enters s h = h
leaves-at line k (Some w) env enters s h = h.0

leave-inner : (t : Tree) (store : List Seen) (f : Frame) (fs : List Frame) (ws : List Window) (line k : ℕ) (giving : Option Name)
    (later : List Item) (r : Running t f fs ws (leave_of line k giving ∷ later)) →
    (top : Top t f fs ws (leave_of line k giving ∷ later) r) → AllOwned t.classes store (f ∷ fs) ws → ValuesFit store ws (f ∷ fs) →
    OneWindowEach ws → later ≡ r.more ++ r.rest →
    r.spot.items ≡ leave_of line k giving ∷ r.more →
    EndsInner t.classes r.body.result r.body.front r.body.block r.body.after [] r.spot (leave_of line k giving) r.more →
    (w : Window) (own : List Window) →
    r.own ≡ w ∷ own → Left t store f fs ws k giving later
leave-inner t store f fs ws line k giving later r top owned values each others items o w own own_is =
    let c : LeavesAt k o.to o.enters r.spot = leaves-at line k giving o.to o.enters r.spot o.closes in
    let bound : AllWithin (length r.body.front.entries) (leaves r.body.after) =
    let P : List ℕ → Type 0 = λ q. AllWithin (length r.body.front.entries) q in subst P (sym top.front.no_leave) tt in
    let s = spot-right t.classes r.body.result r.body.front top.right.out r.body.block r.body.after [] o.point _ top.front.distinct bound
    top.right.judged o.spot_is in
    let windows : ws ≡ w ∷ (own ++ r.under) = r.windows_are ∙ ap (λ q. q ++ r.under) own_is in
    let u = beneath-window t fs r.under r.rest r.body f.target r.beneath in
    let rest = second own r.under u in
    let back : reverse r.spot.enters ≡ c.path ∷ reverse o.enters = ap reverse c.enters_are ∙ reverse-append o.enters (c.path ∷ []) in
    let P : List Window → Type 0 = λ q. Stands f (length fs) q r.spot in
    let stands = subst P own_is r.stands in
    let here : r.spot.items ≡ leave_of line (length o.to.entries) giving ∷ r.more = items ∙ ap (λ q. leave_of line q giving ∷ r.more) c.kept in
    let bases : w.base_place ∷ map (λ (u : Window). u.base_place) own ≡ length o.to.entries ∷ leaves r.more =
    stands.bases ∙ ap leaves here ∙ leaves-leave_of line (length o.to.entries) giving r.more in
    let base : w.base_place ≡ length o.to.entries = grind arith in
    let tail : map (λ (u : Window). u.base_place) own ≡ leaves r.more = grind arith in
    let R : List Path → Type 0 = λ q. Entered (length fs) f.locals q (w ∷ own) in
    let e = subst R back stands.entered in
    let Q : List Window → Type 0 = λ q. AllInFront q in
    let in_front : AllInFront (w ∷ (own ++ r.under)) = subst Q (sym r.windows_are ∙ windows) top.in_front in
    let T : List ℕ → Type 0 = λ q. AllWithin (length o.to.entries) q in
    let inner : AllWithin (length o.to.entries) (map (λ (u : Window). u.base_place) own) = subst T (sym tail) s.within in
    let all_bases : AllWithin (length o.to.entries) (map (λ (u : Window). u.base_place) (w ∷ own)) = (omega (arith, base), inner) in
    let before = all-before (length fs) f.locals (c.path ∷ reverse o.enters) (w ∷ own) r.under (length o.to.entries)
    e in_front all_bases top.elsewhere in
    let own_before = own-before (length fs) f.locals (reverse o.enters) own (length o.to.entries) e.2 (front-own own r.under in_front.1) inner in
    let A : List Window → Type 0 = λ q. AllOwned t.classes store (f ∷ fs) q in
    let B : List Window → Type 0 = λ q. OneWindowEach q in
    let once : (i : ℕ) → w.owner ≡ Some (Var (length fs) i) → Lends own (length fs) i → ⊥ = λ i x y.
    owner-once t.classes store (f ∷ fs) w own r.under (subst A windows owned) (subst B windows each) (length fs) i x y in
    let none_yet : AllBelow (length r.body.front.entries) (leaves r.body.after) =
    let P : List ℕ → Type 0 = λ q. AllBelow (length r.body.front.entries) q in subst P (sym top.front.no_leave) tt in
    let below = spot-below t.classes r.body.result r.body.front top.right.out r.body.block r.body.after [] o.point _ top.front.distinct none_yet
    top.right.judged o.spot_is in
    let bases_below : AllBelow (length o.to.entries) (map (λ (u : Window). u.base_place) own) =
    let P : List ℕ → Type 0 = λ q. AllBelow (length o.to.entries) q in subst P (sym tail) below in
    let G : List Window → Type 0 = λ q. Grounded q in
    let ground = grounded-under (w ∷ own) r.under (subst G windows (owned-grounded t.classes store (f ∷ fs) ws owned)) in
    let cut = AllCut-append (length fs) (length o.to.entries) own r.under (own-cut (length fs) (length o.to.entries) own bases_below)
    (beneath-cut t fs r.under r.rest r.body f.target r.beneath ground (length fs) (length o.to.entries) (omega arith)) in
    let U : ℕ → Type 0 = λ q. AllCut (length fs) q (own ++ r.under) in
    let V : List Window → Type 0 = λ q. AllCut (length fs) k q in
    let g : Frame = record f { locals = take k f.locals } in
    let n = o.left in
    let C : ℕ → Type 0 = λ q. AllOwners ws (IsBefore (length fs) q) in
    let D : List Window → Type 0 = λ q. AllOwners q (IsBefore (length fs) (length o.to.entries)) in
    let run : Running t g fs (own ++ r.under) later = record {
      body = r.body;
      own = own;
      under = r.under;
      windows_are = refl;
      point = o.point;
      spot = record { env = o.to; items = r.more; enters = o.enters };
      spot_is = o.spot_is;
      stands = leave-stands f g (length fs) w own r.spot o.to c.path o.enters line giving r.more stands c.keeps back here (ap (λ q. take q f.locals)
          c.kept)
          top.spot.distinct s.distinct c.free own_before once;
      first = n.first;
      more = n.more;
      begins = n.is;
      rest = r.rest;
      items_are = others ∙ ap (λ q. q ++ r.rest) n.is;
      beneath = r.beneath;
    } in
    let E : List Window → Type 0 = λ q. FramesFit t (g ∷ fs) q later in
    record {
      w = w;
      v = rest.0;
      us = rest.1;
      windows = windows ∙ ap (λ q. w ∷ q) rest.2;
      fit = subst E rest.2 (inl run);
      before = subst C (sym c.kept) (subst D (sym windows) before);
      base_frame = e.0;
      base_place = base ∙ sym c.kept;
      cut = subst V rest.2 (subst U (sym c.kept) cut);
      here = λ n i is. let X : Option Place → Type 0 = λ q. Enters (length fs) f.locals c.path.base c.path.fields q in
          enters-here (length fs) f.locals c.path.base c.path.fields n i (subst X is e.1);
      given = given giving o.to o.enters o.closes;
    }
  where
    enters-here : (m : ℕ) (ls : List Local) (x : Variable) (xs : List Name) (n i : ℕ) → Enters m ls x xs (Some (Var n i)) → n ≡ m
    enters-here m ls x [] n i h = h.0
    enters-here m ls x (y ∷ xs) n i h = absurd h

    given : (giving : Option Name) (to : Env) (enters : List Path) → Closes (leave_of line k giving) to enters r.spot → Given store ws f fs k giving
    given None to enters h = tt
    given (Some x) to enters h =
        let sees = top-sees t store f fs ws _ r top values in
        let m = seen-meets store ws (length fs) r.spot.env f.locals sees (Some x) h.1.entry h.1.there in
        let P : Ty → Type 0 = λ q. Meets store ws q (value_in f.locals (Some x)) in
        let l = named-local r.spot.env.entries f.locals k h.1.bridge r.stands.named h.1.bridge_at in
        record {
          class = h.1.class;
          bridge = local_type-top f fs k ∙ ap (option_map (λ (l : Local). l.ty)) l.1 ∙ ap Some (l.2 ∙ h.1.bridge_is);
          meets = subst P h.1.type_is m;
        }

    second : (own under : List Window) → ((v : Window) × (us : List Window) × (under ≡ v ∷ us)) →
        (v : Window) × (us : List Window) × (own ++ under ≡ v ∷ us)
    second [] under r = r
    second (w ∷ own) under r = (w, own ++ under, refl)

leave_runs : (t : Tree) → Accepted t → (s : State) (line k : ℕ) (giving : Option Name) (later : List Item) → Fit t s →
    (f : Frame) (fs : List Frame) → s.frames ≡ f ∷ fs →
    s.items ≡ leave_of line k giving ∷ later →
    Left t s.store f fs s.windows k giving later
leave_runs t a s line k giving later fit f fs at is =
    let P : List Frame → Type 0 = λ q. FramesFit t q s.windows s.items in
    let Q : List Item → Type 0 = λ q. FramesFit t (f ∷ fs) s.windows q in
    let r = running-item t f fs s.windows (leave_of line k giving) later (subst Q is (subst P at fit.frames)) in
    let R : List Frame → Type 0 = λ q. AllOwned t.classes s.store q s.windows in
    let owned = subst R at fit.opened.owned in
    let V : List Frame → Type 0 = λ q. ValuesFit s.store s.windows q in
    let top = running-top t a s.store f fs s.windows (leave_of line k giving ∷ later) r owned in
    let first = running-first t f fs s.windows (leave_of line k giving) later r in
    let e = spot-end t.classes r.body.result r.body.front top.right.out r.body.block r.body.after [] r.point r.spot (leave_of line k giving)
    r.more top.front.distinct top.right.ends (leave-ends line k giving)
    top.right.judged r.spot_is first.0 in
    elim e [
      | inl o ↦ no-leave t fs r.under r.rest r.body f.target line k giving r.more r.beneath o.after_is
      | inr o ↦
          let c : LeavesAt k o.to o.enters r.spot = leaves-at line k giving o.to o.enters r.spot o.closes in
          let back : reverse r.spot.enters ≡ c.path ∷ reverse o.enters = ap reverse c.enters_are ∙ reverse-append o.enters (c.path ∷ []) in
          let S : List Path → Type 0 = λ q. Entered (length fs) f.locals q r.own in
          let w = own-first (length fs) f.locals c.path (reverse o.enters) r.own (subst S back r.stands.entered) in
          leave-inner t s.store f fs s.windows line k giving later r top owned (subst V at fit.values) fit.opened.one_each first.1 first.0 o w.0 w.1
          w.2
    ]
  where
    own-first : (n : ℕ) (ls : List Local) (p : Path) (ps : List Path) (own : List Window) → Entered n ls (p ∷ ps) own →
        (w : Window) × (us : List Window) × (own ≡ w ∷ us)
    own-first n ls p ps [] h = absurd h
    own-first n ls p ps (w ∷ us) h = (w, us, refl)

-- where the topmost window closes: its variables are gone, and those that are left stand in front of its base
pub record Leaving (t : Tree) (s : State) (f : Frame) (fs : List Frame) (k : ℕ) (giving : Option Name) (later : List Item) : Type 0 where
  pub w : Window
  pub v : Window
  pub us : List Window
  pub windows : s.windows ≡ w ∷ v ∷ us
  pub frames_fit : FramesFit t (record f { locals = take k f.locals } ∷ fs) (v ∷ us) later
  pub fits : Data t.classes s.store (record f { locals = take k f.locals } ∷ fs) (w ∷ v ∷ us) (length s.managers) s.windows_made
  pub front : FramesInFront w (record f { locals = take k f.locals } ∷ fs)
  pub bridged : BridgesFit t.classes s.store (record f { locals = take k f.locals } ∷ fs) (v ∷ us)
  pub left : Left t s.store f fs s.windows k giving later
  pub left_is : left.w ≡ w

pub leaving : (t : Tree) → Accepted t → (s : State) (line k : ℕ) (giving : Option Name) (later : List Item) → Fit t s →
    (f : Frame) (fs : List Frame) → s.frames ≡ f ∷ fs →
    s.items ≡ leave_of line k giving ∷ later →
    Leaving t s f fs k giving later
leaving t a s line k giving later fit f fs at is =
    let e = leave_runs t a s line k giving later fit f fs at is in
    let P : List Frame → Type 0 = λ q. Data t.classes s.store q s.windows (length s.managers) s.windows_made in
    let d = subst P at (fit-data t s fit) in
    let now = shrink-locals t.classes s.store f fs s.windows (length s.managers) s.windows_made (take k f.locals) d
    (λ i l h. get-take k f.locals i l h)
    (AllOwners-map s.windows (IsBefore (length fs) k) _ (leads-taken t.classes s.store f fs k) e.before) in
    let Q : List Window → Type 0 = λ q. Data t.classes s.store (record f { locals = take k f.locals } ∷ fs) q (length s.managers) s.windows_made in
    let R : List Window → Type 0 = λ q. AllOwners q (IsBefore (length fs) k) in
    let S : List Frame → Type 0 = λ q. BridgesFit t.classes s.store q s.windows in
    let T : List Window → Type 0 = λ q. BridgesFit t.classes s.store (f ∷ fs) q in
    record {
      w = e.w;
      v = e.v;
      us = e.us;
      windows = e.windows;
      frames_fit = e.fit;
      fits = subst Q e.windows now;
      front = (
        λ i l h. inr (sym e.base_frame, let b = taken-within k f.locals i l h in let c = e.base_place in omega (arith, b, c)),
        lower-in_front e.w fs (let c = e.base_frame in omega (arith, c)),
      );
      bridged = bridges-end t.classes s.store (f ∷ fs) (record f { locals = take k f.locals } ∷ fs) (e.v ∷ e.us)
          (cut-keeps f (record f { locals = take k f.locals }) fs k (e.v ∷ e.us) refl e.cut (subst R e.windows e.before).1)
          (bridges-pop t.classes s.store (f ∷ fs) e.w (e.v ∷ e.us) (subst T e.windows (subst S at fit.bridges)));
      left = e;
      left_is = refl;
    }
  where
    taken-within : (k : ℕ) (ls : List Local) (i : ℕ) (l : Local) → slice_get (take k ls) i ≡ Some l → i < k
    taken-within zero ls i l h = none-some h
    taken-within (suc k) [] i l h = none-some h
    taken-within (suc k) (m ∷ ls) zero l h = omega arith
    taken-within (suc k) (m ∷ ls) (suc i) l h = let r = taken-within k ls i l h in omega (arith, r)

leave_fits : (t : Tree) → Accepted t → (s : State) (line k : ℕ) (giving : Option Name) (later : List Item) →
    s.items ≡ leave_of line k giving ∷ later → Fit t s → (fs : List Frame) →
    s.frames ≡ fs →
    Fit t (step_leave k (record s { items = later }) s.windows)
leave_fits t a s line k giving later is fit [] at = let P : List Frame →
    Type 0 = λ q. FramesFit t q s.windows s.items in absurd (subst P at fit.frames)
leave_fits t a s line k giving later is fit (f ∷ fs) at =
    let e = leaving t a s line k giving later fit f fs at is in
    let g : Frame = record f { locals = take k f.locals } in
    let popped = pop-window t.classes s.store (g ∷ fs) e.w e.v e.us (length s.managers) s.windows_made e.fits e.front in
    let T : List Window → Type 0 = λ q. Fit t (step_leave k (record s { items = later }) q) in
    let u : State = record (keep_locals k (record s { items = later })) { windows = e.v ∷ e.us } in
    let frames : u.frames ≡ g ∷ fs = rw at refl in
    subst T (sym e.windows) (data-fit t u
    (let R : List Frame → Type 0 = λ q. FramesFit t q (e.v ∷ e.us) later in subst R (sym frames) e.frames_fit)
    (let R : List Frame → Type 0 = λ q. Data t.classes s.store q (e.v ∷ e.us) (length s.managers) s.windows_made in subst R (sym frames) popped)
    (let R : List Frame → Type 0 = λ q. BridgesFit t.classes s.store q (e.v ∷ e.us) in subst R (sym frames) e.bridged))

leave-store : (k : ℕ) (s : State) (ws : List Window) → (step_leave k s ws).store ≡ s.store
leave-store k s [] = refl
leave-store k s (w ∷ []) = refl
leave-store k s (w ∷ v ∷ ws) = refl

pub leave-keeps : LeaveKeeps
leave-keeps k t s u rest a f e went =
    let now : Went (step_leave k (record s { items = rest }) s.windows) ≡ Went u = rw e at went in
    let is = went_is (step_leave k (record s { items = rest }) s.windows) u now in
    rw (← is) (record {
      fit = leave_fits t a s 0 k None rest e f s.frames refl;
      allowed = allowed-same s (step_leave k (record s { items = rest }) s.windows) (leave-store k (record s { items = rest }) s.windows);
    })
