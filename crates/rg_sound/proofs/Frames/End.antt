-- The end of a block keeps the invariant.
use Rattle.std.proofs.Common.{◌≡◌, refl, sym, ◌∙◌, ap, subst, inl, inr, ℕ, List, [], ◌∷◌, ◌++◌, length, take, map, reverse, Option, Some, None, arith}
use Rattle.rg_tree.specs.Tree.{Ty as Written, Tree}
use Rattle.rg_rules.specs.Acceptance.{Accepted}
use Rattle.rg_rules.specs.Environment.{Env}
use Rattle.rg_rules.specs.Items.{Item, EndAt}
use Rattle.rg_rules.specs.Bodies.{Body, method_end}
use Rattle.rg_rules.specs.State.{Drops, Target, Frame, Window, State, keep_locals}
use Rattle.rg_rules.specs.Steps.{Went}
use Rattle.rg_sound.specs.Windows.{lowest, LowestAlone}
use Rattle.rg_sound.specs.Frames.{leaves, FramesFit, Running, Beneath}
use Rattle.rg_sound.specs.OpenRegions.{AllOwned}
use Rattle.rg_sound.specs.Fit.{Fit}
use Rattle.rg_sound.specs.Laws.{EndKeeps}
use Rattle.rg_sound.proofs.Basics.{none-some}
use Rattle.rg_sound.proofs.Frames.Advance.{running-first}
use Rattle.rg_sound.proofs.Frames.Quiet.{allowed-same, went_is}
use Rattle.rg_sound.proofs.Frames.Spot.{AllWithin, spot-right}
use Rattle.rg_sound.proofs.Frames.SpotEnd.{EndsAt, EndsOuter, EndsInner, spot-end}
use Rattle.rg_sound.proofs.Owners.Owner.{AllOwners, AllOwners-map, get-take}
use Rattle.rg_sound.proofs.Owners.Data.{Data, fit-data, data-fit, shrink-locals}
use Rattle.rg_sound.proofs.Frames.Stands.{IsBefore, all-before, stands-less, Entered-length, front-own, own-before, owned-grounded, grounded-under}
use Rattle.rg_sound.proofs.Frames.Stands.{Grounded}
use Rattle.rg_sound.proofs.Frames.Top.{Top, running-top, leads-taken}
use Rattle.rg_sound.specs.Bridges.{BridgesFit}
use Rattle.rg_sound.proofs.Frames.Below.{AllBelow, spot-below}
use Rattle.rg_sound.proofs.Owners.Bridge.{AllCut, AllCut-append, own-cut, beneath-cut, cut-keeps, bridges-end}

-- what ends runs
pub running-item : (t : Tree) (f : Frame) (fs : List Frame) (ws : List Window) (i : Item) (later : List Item) → FramesFit t (f ∷ fs) ws (i ∷ later) →
    Running t f fs ws (i ∷ later)
running-item t f fs ws i later (inl r) = r
running-item t f fs ws i later (inr e) = let no : i ∷ later ≡ [] = e.no_item in grind arith

-- a body without a result ends in its own way
pub after-main : (t : Tree) (fs : List Frame) (ws : List Window) (items : List Item) (b : Body) (target : Target) (k : ℕ) (mine : List Item) →
    Beneath t fs ws items b target → b.after ≡ EndAt k ∷ mine →
    (fs ≡ []) × (k ≡ 0) × (mine ≡ []) × LowestAlone ws × (items ≡ []) × (target ≡ Drops)
after-main t [] ws items b target k mine h e =
    let all : EndAt 0 ∷ [] ≡ EndAt k ∷ mine = sym (ap (λ (q : Body). q.after) h.0) ∙ e in
    let parts : (k ≡ 0) × (mine ≡ []) = (grind arith, grind arith) in
    (refl, parts.0, parts.1, h.2, h.3, h.1)
after-main t (f ∷ fs) ws items b target k mine h e = elim (h.7) [
  | inl w ↦ no_end _ (sym (ap (λ (q : Body). q.after) w.calls.callee_is) ∙ e)
  | inr w ↦ no_end _ (sym (ap (λ (q : Body). q.after) w.callee_is) ∙ e)
]
  where
    no_end : {B : Type 0} (r : Option Written) → method_end r ≡ EndAt k ∷ mine → B
    no_end None e = grind arith
    no_end (Some r) e = grind arith

-- the block's variables go, and what remains of the frame is behind its end
record Ends (t : Tree) (f : Frame) (fs : List Frame) (ws : List Window) (k : ℕ) (later : List Item) : Type 0 where
  pub fit : FramesFit t (record f { locals = take k f.locals } ∷ fs) ws later
  pub before : AllOwners ws (IsBefore (length fs) k)
  pub cut : AllCut (length fs) k ws

end-outer : (t : Tree) (f : Frame) (fs : List Frame) (ws : List Window) (k : ℕ) (later : List Item) (r : Running t f fs ws (EndAt k ∷ later)) →
    Grounded ws → (out : Env) → later ≡ r.more ++ r.rest → EndsOuter out r.body.after [] r.spot (EndAt k) r.more → Ends t f fs ws k later
end-outer t f fs ws k later r ground out others o =
    let m = after-main t fs r.under r.rest r.body f.target k r.more r.beneath o.after_is in
    let count : 0 ≡ length r.own = let e = Entered-length (length fs) f.locals (reverse r.spot.enters) r.own r.stands.entered in
    sym (ap (λ q. length (reverse q)) o.enters_are) ∙ e in
    let own : r.own ≡ [] = no_length r.own count in
    let windows : ws ≡ lowest m.3.0 m.3.1 ∷ [] = r.windows_are ∙ ap (λ q. q ++ r.under) own ∙ m.3.2 in
    let nothing : later ≡ [] = others ∙ ap (λ q. q ++ r.rest) m.2 ∙ m.4 in
    record {
      fit = inr (record { no_variable = rw (m.1, m.5) refl; one_frame = m.0; one_window = (m.3.0, m.3.1, windows); no_item = nothing });
      before = let P : List Window → Type 0 = λ q. AllOwners q (IsBefore (length fs) k) in subst P (sym windows)
          (let Q : List Window → Type 0 = λ q. Grounded q in λ p e. none-some (sym (subst Q windows ground) ∙ e), tt);
      cut = (let P : List Window → Type 0 = λ q. AllCut (length fs) k q in
          let Q : List Window → Type 0 = λ q. Grounded q in subst P (sym windows) (λ p e. none-some (sym (subst Q windows ground) ∙ e), tt));
    }
  where
    no_length : (us : List Window) → 0 ≡ length us → us ≡ []
    no_length [] e = refl
    no_length (u ∷ us) e = absurd (omega (arith, e))

end-inner : (t : Tree) (f : Frame) (fs : List Frame) (ws : List Window) (k : ℕ) (later : List Item) (r : Running t f fs ws (EndAt k ∷ later)) →
    (top : Top t f fs ws (EndAt k ∷ later) r) → Grounded ws → later ≡ r.more ++ r.rest → r.spot.items ≡ EndAt k ∷ r.more →
    EndsInner t.classes r.body.result r.body.front r.body.block r.body.after [] r.spot (EndAt k) r.more → Ends t f fs ws k later
end-inner t f fs ws k later r top ground others items o =
    let c : EndsAt k o.to o.enters r.spot = o.closes in
    let bound : AllWithin (length r.body.front.entries) (leaves r.body.after) =
    let P : List ℕ → Type 0 = λ q. AllWithin (length r.body.front.entries) q in subst P (sym top.front.no_leave) tt in
    let s = spot-right t.classes r.body.result r.body.front top.right.out r.body.block r.body.after [] o.point _ top.front.distinct bound
    top.right.judged o.spot_is in
    let ends : leaves r.spot.items ≡ leaves r.more = ap leaves items in
    let bases : AllWithin (length o.to.entries) (map (λ (w : Window). w.base_place) r.own) =
    let P : List ℕ → Type 0 = λ q. AllWithin (length o.to.entries) q in subst P (sym (r.stands.bases ∙ ends)) s.within in
    let own = own-before (length fs) f.locals (reverse r.spot.enters) r.own (length o.to.entries) r.stands.entered
    (front-own r.own r.under top.in_front) bases in
    let all = all-before (length fs) f.locals (reverse r.spot.enters) r.own r.under (length o.to.entries)
    r.stands.entered top.in_front bases top.elsewhere in
    let P : ℕ → Type 0 = λ n. AllOwners ws (IsBefore (length fs) n) in
    let Q : List Window → Type 0 = λ q. AllOwners q (IsBefore (length fs) (length o.to.entries)) in
    let none_yet : AllBelow (length r.body.front.entries) (leaves r.body.after) =
    let P : List ℕ → Type 0 = λ q. AllBelow (length r.body.front.entries) q in subst P (sym top.front.no_leave) tt in
    let below = spot-below t.classes r.body.result r.body.front top.right.out r.body.block r.body.after [] o.point _ top.front.distinct none_yet
    top.right.judged o.spot_is in
    let bases_below : AllBelow (length o.to.entries) (map (λ (w : Window). w.base_place) r.own) =
    let P : List ℕ → Type 0 = λ q. AllBelow (length o.to.entries) q in subst P (sym (r.stands.bases ∙ ends)) below in
    let G : List Window → Type 0 = λ q. Grounded q in
    let cut = AllCut-append (length fs) (length o.to.entries) r.own r.under (own-cut (length fs) (length o.to.entries) r.own bases_below)
    (beneath-cut t fs r.under r.rest r.body f.target r.beneath (grounded-under r.own r.under (subst G r.windows_are ground)) (length fs)
    (length o.to.entries) (omega arith)) in
    let n = o.left in
    record {
      fit = inl (record {
        body = r.body;
        own = r.own;
        under = r.under;
        windows_are = r.windows_are;
        point = o.point;
        spot = record { env = o.to; items = r.more; enters = r.spot.enters };
        spot_is = o.spot_is ∙ ap (λ q. Some (record { env = o.to; items = r.more; enters = q })) (sym c.enters_are);
        stands = stands-less f (record f { locals = take k f.locals }) (length fs) r.own r.spot o.to r.more r.stands c.keeps ends
            (ap (λ q. take q f.locals) c.kept) own;
        first = n.first;
        more = n.more;
        begins = n.is;
        rest = r.rest;
        items_are = others ∙ ap (λ q. q ++ r.rest) n.is;
        beneath = r.beneath;
      });
      before = subst P (sym c.kept) (subst Q (sym r.windows_are) all);
      cut = (let R : ℕ → Type 0 = λ n. AllCut (length fs) n ws in
          let S : List Window → Type 0 = λ q. AllCut (length fs) (length o.to.entries) q in subst R (sym c.kept) (subst S (sym r.windows_are) cut));
    }

end_runs : (t : Tree) → Accepted t → (s : State) (k : ℕ) (later : List Item) → Fit t s → (f : Frame) (fs : List Frame) → s.frames ≡ f ∷ fs →
    s.items ≡ EndAt k ∷ later →
    Ends t f fs s.windows k later
end_runs t a s k later fit f fs at is =
    let P : List Frame → Type 0 = λ q. FramesFit t q s.windows s.items in
    let Q : List Item → Type 0 = λ q. FramesFit t (f ∷ fs) s.windows q in
    let r = running-item t f fs s.windows (EndAt k) later (subst Q is (subst P at fit.frames)) in
    let R : List Frame → Type 0 = λ q. AllOwned t.classes s.store q s.windows in
    let top = running-top t a s.store f fs s.windows (EndAt k ∷ later) r (subst R at fit.opened.owned) in
    let first = running-first t f fs s.windows (EndAt k) later r in
    let e = spot-end t.classes r.body.result r.body.front top.right.out r.body.block r.body.after [] r.point r.spot (EndAt k)
    r.more top.front.distinct top.right.ends tt
    top.right.judged r.spot_is first.0 in
    elim e [
      | inl o ↦ end-outer t f fs s.windows k later r
          (owned-grounded t.classes s.store (f ∷ fs) s.windows (subst R at fit.opened.owned)) top.right.out first.1 o
      | inr o ↦ end-inner t f fs s.windows k later r top (owned-grounded t.classes s.store (f ∷ fs) s.windows (subst R at fit.opened.owned))
          first.1 first.0 o
    ]

end_fits : (t : Tree) → Accepted t → (s : State) (k : ℕ) (later : List Item) → s.items ≡ EndAt k ∷ later → Fit t s → (fs : List Frame) →
    s.frames ≡ fs →
    Fit t (keep_locals k (record s { items = later }))
end_fits t a s k later is fit [] at = let P : List Frame → Type 0 = λ q. FramesFit t q s.windows s.items in absurd (subst P at fit.frames)
end_fits t a s k later is fit (f ∷ fs) at =
    let e = end_runs t a s k later fit f fs at is in
    let P : List Frame → Type 0 = λ q. Data t.classes s.store q s.windows (length s.managers) s.windows_made in
    let d = subst P at (fit-data t s fit) in
    let now = shrink-locals t.classes s.store f fs s.windows (length s.managers) s.windows_made (take k f.locals) d
    (λ i l h. get-take k f.locals i l h)
    (AllOwners-map s.windows (IsBefore (length fs) k) _ (leads-taken t.classes s.store f fs k) e.before) in
    let frames : (keep_locals k (record s { items = later })).frames ≡ record f { locals = take k f.locals } ∷ fs = rw at refl in
    data-fit t (keep_locals k (record s { items = later }))
    (let Q : List Frame → Type 0 = λ q. FramesFit t q s.windows later in subst Q (sym frames) e.fit)
    (let Q : List Frame → Type 0 = λ q. Data t.classes s.store q s.windows (length s.managers) s.windows_made in subst Q (sym frames) now)
    (let Q : List Frame → Type 0 = λ q. BridgesFit t.classes s.store q s.windows in
    let B = subst Q at fit.bridges in
    subst Q (sym frames) (bridges-end t.classes s.store (f ∷ fs) (record f { locals = take k f.locals } ∷ fs) s.windows
    (cut-keeps f (record f { locals = take k f.locals }) fs k s.windows refl e.cut e.before) B))

pub end-keeps : EndKeeps
end-keeps k t s u rest a f e went =
    let now : Went (keep_locals k (record s { items = rest })) ≡ Went u = rw e at went in
    let is = went_is (keep_locals k (record s { items = rest })) u now in
    rw (← is) (record { fit = end_fits t a s k rest e f s.frames refl; allowed = allowed-same s (keep_locals k (record s { items = rest })) refl })
