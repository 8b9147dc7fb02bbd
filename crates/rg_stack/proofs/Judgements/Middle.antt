-- What is known in the middle of a step, once a right side or an expression is computed, and what the instructions behind it need.
use Rattle.std.proofs.Common.{◌≡◌, ◌≤◌, ℕ, true, false, Bool as Truth, ◌&&◌, if◌then◌else◌, List, [], ◌∷◌, length, Option, Some, None, ok_or, Ok}
use Rattle.std.proofs.Common.{Result, Err}
use Rattle.std.proofs.Common.{true≢false, refl, sym, ap, subst, ◌∙◌, arith, slice_get, unwrap_or}
use Rattle.std.specs.Prelude.{not, nat_lt, nat_le, ◌+◌, is_some, option_and_then, ◌||◌, ◌==◌}
use Rattle.std.specs.List.{list_any}
use Rattle.std.proofs.lemmas.Bool.{lt-ltb, and_from, not-true, not_from_false}
use Rattle.std.proofs.lemmas.List.{length-map}
use Rattle.std.proofs.lemmas.Option.{slice_get_within, same_Some}
use Rattle.std.proofs.Common.{◌<◌, ◌-◌, map, replicate, length-append, inl, inr}
use Rattle.rg_base.specs.declared.object.Label.{Label}
use Rattle.rg_base.specs.declared.words.Cap.{Cap}
use Rattle.rg_base.specs.declared.words.Cap.TheVariants.{Mut, Tmp, Imm, Iso}
use Rattle.rg_base.specs.declared.words.Manager.{Manager}
use Rattle.rg_base.specs.declared.ty.Ty.{Ty}
use Rattle.rg_base.specs.declared.ty.Ty.TheVariants.{Int, Bool, Ref}
use Rattle.rg_base.specs.declared.fault.Code.TheVariants.{Unknown, Mismatch}
use Rattle.rg_base.specs.declared.object.Seen.{Seen}
use Rattle.rg_base.specs.declared.outcome.Trap.{Trap}
use Rattle.rg_base.specs.declared.outcome.Trap.TheVariants as trap
use Rattle.rg_base.specs.declared.value.Val.{Val}
use Rattle.rg_base.specs.declared.value.Val.TheVariants as val
use Rattle.rg_tree.specs.Tree.{Name, Variable, ref, Expr, Right, value, new, new_tmp, new_iso, freeze, merge, read, more, result_of, Class, Tree}
use Rattle.rg_rules.specs.Acceptance.{Accepted}
use Rattle.rg_rules.specs.Answers.{◌>>=◌}
use Rattle.rg_rules.specs.Capabilities.{is_iso, iso_class, may_write, below, printable, stays_at_depth}
use Rattle.rg_rules.specs.Types.{good_type, fields_of, field_place, element_type}
use Rattle.rg_rules.specs.Environment.{Env, Entry, entry_of, at_depth, gone, marked, is_ready, is_lent}
use Rattle.rg_rules.specs.Expressions.{Judged, judge_expr}
use Rattle.rg_rules.specs.Rights.{judge_size, judge_new, judge_consumed, judge_right}
use Rattle.rg_rules.specs.Statements.{is_call}
use Rattle.rg_rules.specs.Items.{Item}
use Rattle.rg_rules.specs.State.{Local, Target, Frame as Body, Window as Opened, State, place_in, top_locals}
use Rattle.rg_rules.specs.Paths.{Looked, all_but_last, last_field, writable_field}
use Rattle.rg_rules.specs.Evaluation.{object_at, element_place, path_value, value_of, uses, cleared}
use Rattle.rg_rules.proofs.Answers.{bind-ok, test-then, ok_or-ok}
use Rattle.rg_rules.proofs.Expression.{against-below}
use Rattle.rg_sound.specs.Windows.{windows_of}
use Rattle.rg_sound.specs.Values.{MeetsBy, Meets}
use Rattle.rg_sound.specs.Objects.{FieldFits}
use Rattle.rg_sound.specs.Frames.{Named, Running}
use Rattle.rg_sound.proofs.Frames.Named.{first-at}
use Rattle.rg_sound.proofs.Frames.Top.{Top, running-top, top-sees, top-not_owner}
use Rattle.rg_sound.proofs.Owners.Data.{Data, NotOwner}
use Rattle.rg_sound.proofs.Stores.Consume.{merge-righted}
use Rattle.rg_sound.proofs.Stores.Freeze.{freeze-righted}
use Rattle.rg_sound.proofs.Stores.Make.{new-righted, new_tmp-righted, new_iso-righted}
use Rattle.rg_sound.proofs.Values.Assign.{RightGives, RightBelow, value-righted, more-righted, read-righted, value-below, read-below}
use Rattle.rg_sound.proofs.Values.Assign.{more-below}
use Rattle.rg_sound.proofs.Values.Value.{Sees, ArrayAt, below-meets}
use Rattle.rg_sound.proofs.Stores.Field.{field-holds}
use Rattle.rg_sound.proofs.Stores.Element.{element-holds}
use Rattle.rg_sound.proofs.Owners.Receiver.{IsTop, writes-top, Receiver, receiver-at}
use Rattle.rg_sound.proofs.Values.Right.{OwnsFreshAs, KeepsTop, Gives, expression-gives, ready-not_lent, below-iso}
use Rattle.rg_code.specs.declared.op.Op.TheVariants as i
use Rattle.rg_code.specs.Code.{Code}
use Rattle.rg_code.specs.Lowering.{slot_of, type_in, assign_op}
use Rattle.rg_code.specs.Places.{scope_of}
use Rattle.rg_stack.specs.Machine.{Window, Machine, slot_at, slots_below}
use Rattle.rg_stack.specs.Shows.{ShowsFrames, ShowsWindows, sizes_of}
use Rattle.rg_stack.specs.Needs.{needs, closed_of, is_closed, owned_once, owns_or_nil, loose, may_stand}
use Rattle.rg_stack.specs.Places.{is_writable, size_of, field_of, is_field}
use Rattle.rg_stack.specs.Labels.{is_open}
use Rattle.rg_stack.specs.Needs.{may_keep}
use Rattle.rg_stack.specs.Places.{top_base}
use Rattle.rg_stack.proofs.Callers.Lead.{ShowsFit}
use Rattle.rg_stack.proofs.Callers.Once.{owned_once-fits, loose-fits}
use Rattle.rg_stack.proofs.Needs.Closed.{slot-closed, behind-closed, slot-owns, field-owns}
use Rattle.rg_stack.proofs.Needs.Keep.{base-by, keep-here, keep-away, fresh-open, plain-open}
use Rattle.rg_stack.proofs.Needs.Holder.{top-writable, top-field, field-closed, array-fields, element-closed, may_stand-fits}
use Rattle.rg_stack.specs.Effects.{place_named}
use Rattle.rg_stack.proofs.Walks.Index.{named-there}
use Rattle.rg_stack.proofs.Callers.Need.{same}
use Rattle.rg_stack.proofs.Walks.Slot.{ShowsSlots, slot_place}
use Rattle.rg_stack.proofs.Walks.End.{Round, work, state}
use Rattle.rg_stack.proofs.Statements.Right.{Gave, RightNeeds, kept}
use Rattle.rg_stack.proofs.Judgements.Base.{seen-begins}
use Rattle.rg_stack.proofs.Judgements.Owes.{iso_type}
use Rattle.rg_stack.proofs.Judgements.Use.{uses-up}

-- a right side that makes no call
righted : (right : Right) → is_call right ≡ false → RightGives right
righted (value e) h = value-righted e
righted (new x many) h = new-righted x many
righted (new_tmp x many) h = new_tmp-righted x many
righted (new_iso x many m) h = new_iso-righted x many m
righted (freeze y) h = freeze-righted y
righted (merge y) h = merge-righted y
righted read h = read-righted
righted more h = more-righted
righted (result_of c) h = absurd (true≢false h)

-- the type of `freeze` and `merge` is below the expected one
consumed_below : (env : Env) (wanted : Ty) (cap : Cap) (y : Name) (j : Judged) → judge_consumed env wanted cap y ≡ Ok j → below j.ty wanted ≡ true
consumed_below env wanted cap y j judged =
    let e = bind-ok (ok_or (entry_of env (Some y)) Unknown) _ j judged in
    let c = bind-ok (ok_or (iso_class e.0.ty) Mismatch) _ j e.2 in
    let a = test-then (is_ready e.0.readiness) _ _ j c.2 in
    against-below wanted (Ref cap c.0) (marked (Some y) gone env) j a.1

-- and so is that of what is made
made_below : (classes : List Class) (env : Env) (wanted : Ty) (cap : Cap) (x : Name) (many : Option Expr) (j : Judged)
    → judge_new classes env wanted cap x many ≡ Ok j → below j.ty wanted ≡ true
made_below classes env wanted cap x many j judged =
    let p = bind-ok (good_type classes (ref cap x)) _ j judged in
    let out = bind-ok (judge_size classes env x many) _ j p.2 in
    against-below wanted p.0 out.0 j out.2

-- and so is that of each right side that makes no call
pub right-below : (right : Right) → is_call right ≡ false → RightBelow right
right-below (value e) h = value-below e
right-below (new x many) h = λ classes env wanted j judged. made_below classes env wanted Mut x many j judged
right-below (new_tmp x many) h = λ classes env wanted j judged. made_below classes env wanted Tmp x many j judged
right-below (new_iso x many m) h = λ classes env wanted j judged. made_below classes env wanted Iso x many j judged
right-below (freeze y) h = λ classes env wanted j judged. consumed_below env wanted Imm y j judged
right-below (merge y) h = λ classes env wanted j judged. consumed_below env wanted Mut y j judged
right-below read h = read-below
right-below more h = more-below
right-below (result_of c) h = absurd (true≢false h)

-- the region of the topmost window is open
top-open : (sizes : List ℕ) (mws : List Window) (ws : List Opened) (l : Label) → ShowsWindows sizes mws ws → IsTop ws l → closed_of mws l ≡ None
top-open sizes [] [] l h top = absurd top
top-open sizes [] (w ∷ ws) l h top = absurd h
top-open sizes (mw ∷ mws) [] l h top = absurd top
top-open sizes (mw ∷ mws) (w ∷ ws) l h (inl is) =
    let shut : (mw.region == w.region) ≡ true = ap (λ n. n == w.region) h.0.region ∙ same w.region in
    ap (closed_of (mw ∷ mws)) is ∙ ap (λ b. if b || is_open mws w.region then None else Some w.region) shut
top-open sizes (mw ∷ mws) (w ∷ ws) l h (inr is) = ap (closed_of (mw ∷ mws)) is

-- the frame that runs, with these variables
abbrev pub running : Round → List Local → Body
running r locals = record { locals = locals; target = r.target }

-- what the invariant gives where a frame begins an item, with a machine that shows it
pub record Begun (t : Tree) (r : Round) (store : List Seen) (slots : List Val) (locals : List Local) (managers : List Manager) (env : Env) : Type 0
  where
    pub items : List Item
    pub run : Running t (running r locals) r.bodies r.opened items
    pub is : run.spot.env ≡ env
    pub top : Top t (running r locals) r.bodies r.opened items run
    pub fits : Data t.classes store (running r locals ∷ r.bodies) r.opened (length managers) r.made
    pub frames : ShowsFrames r.frames r.bodies
    pub sizes : List ℕ
    pub windows : ShowsWindows sizes r.windows r.opened
    pub shows : ShowsSlots slots locals
    -- the slot of a variable that all windows see is one of the topmost window's
    pub seen : (k : ℕ) → windows_of (length r.bodies) k r.opened ≡ r.opened → nat_le (top_base r.windows) (slots_below r.frames + k) ≡ true

-- what a computed value finds, and that it may go where its type is
pub record Comes (t : Tree) (r : Round) (env : Env) (ty : Ty) (store now : List Seen) (after : List Local) (made : List Manager) (v : Val) : Type 0
  where
    pub named : Named env.entries after
    pub fits : Data t.classes now (running r after ∷ r.bodies) r.opened (length made) r.made
    pub meets : Meets now r.opened ty v
    pub fresh : OwnsFreshAs t.classes now (running r after ∷ r.bodies) ty v
    pub keeps : KeepsTop r.opened store now

pub begun_of : (t : Tree) → Accepted t → (r : Round) (store : List Seen) (slots : List Val) (locals : List Local) (managers : List Manager)
    (env : Env)
    → ShowsFrames (record { slots = slots; back = r.back } ∷ r.frames) (running r locals ∷ r.bodies)
    → ShowsWindows (sizes_of (record { slots = slots; back = r.back } ∷ r.frames)) r.windows r.opened
    → (items : List Item) (h : Running t (running r locals) r.bodies r.opened items) → h.spot.env ≡ env
    → Data t.classes store (running r locals ∷ r.bodies) r.opened (length managers) r.made → Begun t r store slots locals managers env
begun_of t accepted r store slots locals managers env shows windows items h is fits = record {
  items = items;
  run = h;
  is = is;
  top = running-top t accepted store (running r locals) r.bodies r.opened items h fits.opened.owned;
  fits = fits;
  frames = shows.1;
  sizes = sizes_of (record { slots = slots; back = r.back } ∷ r.frames);
  windows = windows;
  shows = shows.0;
  seen = λ k all. base-by r.windows (slots_below r.frames + k)
      (seen-begins t accepted (record { slots = slots; back = r.back }) r.frames r.windows (running r locals) r.bodies r.opened items shows windows h
      k all);
}

carried : (P : List Seen → List Local → List Manager → Val → Type 0) (a b : List Seen) (c d : List Local) (e f : List Manager) (g h : Val)
    → a ≡ b → c ≡ d → e ≡ f → g ≡ h → P a c e g → P b d f h
carried P a b c d e f g h x y z w p =
    subst (λ q. P b d f q) w (subst (λ q. P b d q g) z (subst (λ q. P b q e g) y (subst (λ q. P q c e g) x p)))

module _ (t : Tree) (r : Round) (store : List Seen) (slots : List Val) (locals : List Local) (managers : List Manager) (input : List ℕ) (env : Env)
    (begun : Begun t r store slots locals managers env) where
  -- the machine over what is there
  pub shows_fit : (now : List Seen) (after_slots : List Val) (after : List Local) (made : List Manager) (left : List ℕ)
      → Data t.classes now (running r after ∷ r.bodies) r.opened (length made) r.made → ShowsSlots after_slots after
      → ShowsFit t.classes (work r now after_slots made left).machine (running r after ∷ r.bodies) r.opened
  shows_fit now after_slots after made left fits shows = record {
    regions = length made;
    made = r.made;
    sizes = begun.sizes;
    fits = fits;
    slots = (shows, begun.frames);
    windows = begun.windows;
  }

  -- at the beginning
  pub fit_here : ShowsFit t.classes (work r store slots managers input).machine (running r locals ∷ r.bodies) r.opened
  fit_here = shows_fit store slots locals managers input begun.fits begun.shows

  pub here-named : Named env.entries locals
  here-named = subst (λ (e : Env). Named e.entries locals) begun.is begun.run.stands.named

  comes_of : (s w : State) (e : Env) (ty : Ty) (u v : Val) (now : List Seen) (after : List Local) (made : List Manager)
      → s.store ≡ store → s.windows ≡ r.opened → s.windows_made ≡ r.made → e ≡ env
      → Gives t s (running r locals) r.bodies e w ty u → w.store ≡ now → w.frames ≡ running r after ∷ r.bodies → w.managers ≡ made → u ≡ v
      → Comes t r env ty store now after made v
  comes_of s w e ty u v now after made same opened numbers is g stores frames regions values =
      let locals_are : g.locals ≡ after = ap top_locals (sym g.frames ∙ frames) in
      record {
        named = subst (λ q. Named env.entries q) locals_are (subst (λ (q : Env). Named q.entries g.locals) is g.named);
        fits = carried (λ a b c d. Data t.classes a (running r b ∷ r.bodies) r.opened (length c) r.made) w.store now g.locals after
            w.managers made u v
            stores locals_are regions values
            (subst (λ n. Data t.classes w.store (running r g.locals ∷ r.bodies) r.opened (length w.managers) n) numbers
            (subst (λ q. Data t.classes w.store (running r g.locals ∷ r.bodies) q (length w.managers) s.windows_made) opened g.fits));
        meets = carried (λ a b c d. Meets a r.opened ty d) w.store now g.locals after w.managers made u v stores locals_are regions values
            (subst (λ q. Meets w.store q ty u) opened g.meets);
        fresh = carried (λ a b c d. OwnsFreshAs t.classes a (running r b ∷ r.bodies) ty d) w.store now g.locals after w.managers made u v stores
            locals_are regions values g.fresh;
        keeps = subst (λ q. KeepsTop r.opened store q) stores (subst (λ q. KeepsTop r.opened q w.store) same
            (subst (λ q. KeepsTop q s.store w.store) opened g.keeps));
      }

  -- once a right side is computed
  pub right-comes : (target : Target) (right : Right) (wanted : Ty) (j : Judged) (items : List Item) → judge_right t.classes env wanted right ≡ Ok j
      → is_call right ≡ false
      → (now : List Seen) (after : List Local) (made : List Manager) (left : List ℕ) (v : Val)
      → Gave t.classes r items store locals managers input target right now after made left v → Comes t r env j.ty store now after made v
  right-comes target right wanted j items judged plain now after made left v gave =
      let s = state r store locals managers input items in
      let typed = subst (λ e. judge_right t.classes e wanted right ≡ Ok j) (sym begun.is) judged in
      let g = righted right plain t s (running r locals) r.bodies begun.items begun.run begun.top refl begun.fits target kept wanted j typed
      (kept (state r now after made left items) v) gave in
      let is : kept g.after g.v ≡ kept (state r now after made left items) v = sym g.state in
      comes_of s g.after begun.run.spot.env j.ty g.v v now after made refl refl refl begun.is g.gives (ap (λ (q : State). q.store) is)
      (ap (λ (q : State). q.frames) is)
      (ap (λ (q : State). q.managers) is) (ap (λ (q : State). unwrap_or (slice_get q.output 0) v) is)

  -- once an expression is computed
  pub value-comes : (w : Option Ty) (e : Expr) (j : Judged) (v : Val) → judge_expr t.classes env w e ≡ Ok j
      → value_of t.classes store locals e ≡ Ok v
      → Comes t r env j.ty store store (cleared (uses locals e) locals) managers v
  value-comes w e j v judged got =
      let s = state r store locals managers input [] in
      let after = state r store (cleared (uses locals e) locals) managers input [] in
      let typed = subst (λ q. judge_expr t.classes q w e ≡ Ok j) (sym begun.is) judged in
      let computed : ◌>>=◌ (value_of t.classes store locals e) (λ u. Ok (after, u)) ≡ Ok (after, v) = ap (λ c. ◌>>=◌ c (λ u. Ok (after, u))) got in
      let g = expression-gives t s (running r locals) r.bodies begun.items begun.run begun.top refl begun.fits w e j typed (after, v) computed in
      comes_of s after begun.run.spot.env j.ty v v store (cleared (uses locals e) locals) managers refl refl refl begun.is g refl refl refl refl

  -- no window names as its owner what isn't lent
  pub free : (after : List Local) (x : Variable) (e : Entry) → Named env.entries after → entry_of env x ≡ Some e → is_lent e.readiness ≡ false
      → NotOwner r.opened (length r.bodies) (place_in after x)
  free after x e named there not_lent =
      let a = first-at env.entries after x e named there in
      top-not_owner t (running r locals) r.bodies r.opened begun.items begun.run begun.top (place_in after x) e
      (subst (λ (q : Env). slice_get q.entries (place_in after x) ≡ Some e) (sym begun.is) a.entry_at) not_lent

  once_here : owned_once (work r store slots managers input).machine ≡ true
  once_here = owned_once-fits t.classes (work r store slots managers input).machine (running r locals ∷ r.bodies) r.opened fit_here

  -- an owner variable that isn't lent is nil or owns
  pub owner-needs : (x : Variable) (e : Entry) → entry_of env x ≡ Some e → is_iso e.ty ≡ true → is_lent e.readiness ≡ false
      → let m = (work r store slots managers input).machine in owns_or_nil m (slot_at m (slot_of (scope_of locals) x)) ≡ true
  owner-needs x e there iso not_lent =
      let m = (work r store slots managers input).machine in
      let a = first-at env.entries locals x e here-named there in
      subst (λ k. owns_or_nil m (slot_at m k) ≡ true) (sym (slot_place locals x))
      (slot-owns t.classes m (running r locals) r.bodies r.opened fit_here (place_in locals x) a.local a.local_at (ap is_iso a.pair.ty ∙ iso)
      (free locals x e here-named there not_lent))

  consumed-needs : (wanted : Ty) (cap : Cap) (y : Name) (j : Judged) (stack : List Val)
      → list_any (is_closed (work r store slots managers input).machine) stack ≡ false → judge_consumed env wanted cap y ≡ Ok j
      → let m = (work r store slots managers input).machine in
      (not (list_any (is_closed m) stack) && owned_once m && owns_or_nil m (slot_at m (slot_of (scope_of locals) (Some y)))) ≡ true
  consumed-needs wanted cap y j stack shut judged =
      let m = (work r store slots managers input).machine in
      let e = bind-ok (ok_or (entry_of env (Some y)) Unknown) _ j judged in
      let c = bind-ok (ok_or (iso_class e.0.ty) Mismatch) _ j e.2 in
      let a = test-then (is_ready e.0.readiness) _ _ j c.2 in
      and_from (not (list_any (is_closed m) stack) && owned_once m) (owns_or_nil m (slot_at m (slot_of (scope_of locals) (Some y))))
      (and_from (not (list_any (is_closed m) stack)) (owned_once m) (not_from_false _ shut) once_here)
      (owner-needs (Some y) e.0 (ok_or-ok (entry_of env (Some y)) Unknown e.0 e.1)
      (iso_type e.0.ty c.0 (ok_or-ok (iso_class e.0.ty) Mismatch c.0 c.1)).0 (ready-not_lent e.0.readiness a.0))

  -- what the instructions of a right side need, over a stack that owns nothing
  pub right-needs : (code : Code) (wanted : Ty) (right : Right) (j : Judged) (stack : List Val)
      → list_any (is_closed (work r store slots managers input).machine) stack ≡ false → judge_right t.classes env wanted right ≡ Ok j
      → RightNeeds t.classes code r (scope_of locals) store slots locals managers input stack right
  right-needs code wanted (value e) j stack shut judged =
      (once_here, uses-up t.classes store slots locals begun.shows env (Some wanted) e j stack here-named judged)
  right-needs code wanted (freeze y) j stack shut judged = consumed-needs wanted Imm y j stack shut judged
  right-needs code wanted (merge y) j stack shut judged = consumed-needs wanted Mut y j stack shut judged
  right-needs code wanted _ j stack shut judged = tt

  pub sees_here : Sees store r.opened (length r.bodies) env locals
  sees_here = subst (λ (e : Env). Sees store r.opened (length r.bodies) e locals) begun.is
      (top-sees t store (running r locals) r.bodies r.opened begun.items begun.run begun.top begun.fits.values)

  -- the object whose field a statement names
  pub receives : (x : Variable) (g : Name) (gs : List Name) (ty : Ty) (u : Val) (o : Seen) → writable_field t.classes env x g gs ≡ Ok ty
      → path_value t.classes store locals (record { base = x; fields = all_but_last g gs }) ≡ Ok u → object_at store u ≡ Ok o
      → Receiver t.classes store r.opened u o (last_field g gs) ty
  receives x g gs ty u o writable led there =
      receiver-at t.classes store r.opened (length r.bodies) env locals begun.fits.objects sees_here x g gs ty u o writable led there

  -- it owns nothing
  pub receiver-open : (x : Name) (ty : Ty) (u : Val) (o : Seen) → Receiver t.classes store r.opened u o x ty
      → list_any (is_closed (work r store slots managers input).machine) (u ∷ []) ≡ false
  receiver-open x ty u o h =
      let m = (work r store slots managers input).machine in
      let shut = top-open begun.sizes r.windows r.opened o.label begun.windows h.top in
      ap (λ (b : Truth). b || false) (ap (is_closed m) h.value
      ∙ ap (λ (q : Option Seen). is_some (option_and_then (closed_of r.windows) (option_and_then (λ (o : Seen). Some o.label) q))) h.there
      ∙ ap is_some shut)

-- slots for variables
pub shown-room : (slots : List Val) (locals : List Local) (k : ℕ) → ShowsSlots slots locals → k < length locals → nat_lt k (length slots) ≡ true
shown-room slots locals k h less =
    let vals = map (λ (l : Local). l.value) locals in
    lt-ltb k (length slots) (omega (
      arith,
      less,
      ap length h,
      length-append vals (replicate (length slots - length locals) val.Nil),
      length-map locals (λ (l : Local). l.value),
    ))

-- what taking a value into a variable needs
pub assign-needs : (classes : List Class) (code : Code) (m : Machine) (f : Body) (fs : List Body) (opened : List Opened)
    → ShowsFit classes m (f ∷ fs) opened → (k : ℕ) (l : Local) → slice_get f.locals k ≡ Some l → nat_lt k (size_of m) ≡ true
    → NotOwner opened (length fs) k
    → (ty : Ty) (v : Val) → Meets m.store opened ty v → OwnsFreshAs classes m.store (f ∷ fs) ty v → may_keep m k v ≡ true
    → (b : Truth) → is_iso l.ty ≡ b
    → needs code (if b then i.Own k else i.Store k) (v ∷ []) m ≡ true
assign-needs classes code m f fs opened d k l there room apart_from ty v meets fresh keeps true iso =
    and_from (nat_lt k (size_of m) && owned_once m && owns_or_nil m (slot_at m k) && loose m v) (may_keep m k v)
    (and_from (nat_lt k (size_of m) && owned_once m && owns_or_nil m (slot_at m k)) (loose m v)
    (and_from (nat_lt k (size_of m) && owned_once m) (owns_or_nil m (slot_at m k))
    (and_from (nat_lt k (size_of m)) (owned_once m) room (owned_once-fits classes m (f ∷ fs) opened d))
    (slot-owns classes m f fs opened d k l there iso apart_from))
    (loose-fits classes m (f ∷ fs) opened opened d (λ l o. o) ty v meets fresh)) keeps
assign-needs classes code m f fs opened d k l there room apart_from ty v meets fresh keeps false iso =
    and_from (nat_lt k (size_of m) && not (is_closed m (slot_at m k))) (may_keep m k v)
    (and_from (nat_lt k (size_of m)) (not (is_closed m (slot_at m k))) room
    (not_from_false (is_closed m (slot_at m k)) (slot-closed classes m f fs opened d k l there iso))) keeps

-- The holder of a field

-- what an object asks, where a value leads to it
of_object-given : (r : Result Seen Trap) (test : Seen → Truth) → ((o : Seen) → r ≡ Ok o → test o ≡ true)
    → elim r [ Ok o ↦ test o | Err k ↦ true ] ≡ true
of_object-given (Ok o) test h = h o refl
of_object-given (Err k) test h = refl

-- a value that is printed owns nothing
pub printed-open : (m : Machine) (store : List Seen) (ws : List Opened) (ty : Ty) (v : Val) → printable ty ≡ true → Meets store ws ty v
    → is_closed m v ≡ false
printed-open m store ws Int val.Nil h meets = absurd meets
printed-open m store ws Int (val.Int z) h meets = refl
printed-open m store ws Int (val.Bool b) h meets = absurd meets
printed-open m store ws Int (val.Obj a) h meets = absurd meets
printed-open m store ws Bool val.Nil h meets = absurd meets
printed-open m store ws Bool (val.Int z) h meets = absurd meets
printed-open m store ws Bool (val.Bool b) h meets = refl
printed-open m store ws Bool (val.Obj a) h meets = absurd meets
printed-open m store ws (Ref cap c) v h meets = absurd (true≢false (sym h))

module _ (classes : List Class) (code : Code) (m : Machine) (f : Body) (fs : List Body) (opened : List Opened)
    (d : ShowsFit classes m (f ∷ fs) opened) where
  -- a value goes into a field of an object of the topmost window, over one that owns nothing
  put_by : (a k : ℕ) (u v : Val) (o : Seen) (ty : Ty) → u ≡ val.Obj a → slice_get m.store a ≡ Some o → IsTop opened o.label
      → is_field m k o ≡ true → is_closed m (field_of o k) ≡ false → is_iso ty ≡ false
      → Meets m.store opened ty v → MeetsBy m.store (FieldFits opened o.label) ty v
      → elim (object_at m.store u) [
        | Ok o ↦ is_field m k o && not (is_closed m (field_of o k)) && may_stand m o.label v
        | Err t ↦ false
      ] ≡ true
  put_by a k u v o ty leads there top field old iso meets fits =
      let same : object_at m.store u ≡ Ok o = ap (object_at m.store) leads ∙ ap (λ q. ok_or q trap.Nil) there in
      ap (λ (r : Result Seen Trap). elim r [
        | Ok o ↦ is_field m k o && not (is_closed m (field_of o k)) && may_stand m o.label v
        | Err t ↦ false
      ]) same
      ∙ and_from (is_field m k o && not (is_closed m (field_of o k))) (may_stand m o.label v)
      (and_from (is_field m k o) (not (is_closed m (field_of o k))) field (not_from_false _ old))
      (may_stand-fits classes m (f ∷ fs) opened d o.label ty v top meets fits iso)

  -- a value goes into an element
  pub element-put : (a k : ℕ) (u x v : Val) (o : Seen) (ty : Ty) → u ≡ val.Obj a → slice_get m.store a ≡ Some o → IsTop opened o.label
      → element_place o x ≡ Ok k → is_closed m x ≡ false → element_type classes o.class ≡ Some ty → is_iso ty ≡ false
      → Meets m.store opened ty v → MeetsBy m.store (FieldFits opened o.label) ty v
      → needs code i.PutElement (v ∷ x ∷ u ∷ []) m ≡ true
  element-put a k u x v o ty leads there top place index declared iso meets fits =
      let n = place_named o x in
      let field = and_from (is_writable m o.label) (nat_lt n (length o.fields)) (top-writable classes m (f ∷ fs) opened d o.label top)
      (named-there o x k place) in
      let same : object_at m.store u ≡ Ok o = ap (object_at m.store) leads ∙ ap (λ q. ok_or q trap.Nil) there in
      let test : Seen → ℕ → Truth = λ o k. is_field m k o && not (is_closed m (field_of o k)) && may_stand m o.label v in
      and_from (not (is_closed m x)) (elim (object_at m.store u) [ Ok o ↦ test o (place_named o x) | Err t ↦ false ])
      (not_from_false (is_closed m x) index)
      (ap (λ (r : Result Seen Trap). elim r [ Ok o ↦ test o (place_named o x) | Err t ↦ false ]) same
      ∙ sym (ap (λ (r : Result Seen Trap). elim r [ Ok o ↦ test o n | Err t ↦ false ]) same)
      ∙ put_by a n u v o ty leads there top field
      (element-closed classes m (f ∷ fs) opened d a n o there top (array-fields classes m.store opened o (d.fits.objects a o there) ty declared)) iso
      meets fits)

  -- a value goes into a field
  pub put-needs : (k : ℕ) (u v : Val) (o : Seen) (x : Name) (old : List Seen) (ty : Ty) (h : Receiver classes old opened u o x ty)
      → h.field.place ≡ k → slice_get m.store h.address ≡ Some o → is_iso ty ≡ false
      → Meets m.store opened ty v → MeetsBy m.store (FieldFits opened o.label) ty v
      → needs code (i.Put k) (v ∷ u ∷ []) m ≡ true
  put-needs k u v o x old ty h place there iso meets fits =
      let at = subst (λ n. slice_get o.fields n ≡ Some h.field.value) place h.field.value_is in
      let field = subst (λ n. slice_get (fields_of classes o.class) n ≡ Some h.field.field) place h.field.field_is in
      put_by h.address k u v o ty h.value there h.top (top-field classes m (f ∷ fs) opened d k o h.field.value h.top at)
      (field-closed classes m (f ∷ fs) opened d h.address k o h.field.field h.field.value there h.top field at (ap is_iso h.field.type_is ∙ iso)) iso
      meets fits

  -- an owner reference in a field
  pub holder-field : (k : ℕ) (u : Val) (o : Seen) (x : Name) (ty : Ty) (h : Receiver classes m.store opened u o x ty) → h.field.place ≡ k
      → is_field m k o ≡ true
  holder-field k u o x ty h place = top-field classes m (f ∷ fs) opened d k o h.field.value h.top
      (subst (λ n. slice_get o.fields n ≡ Some h.field.value) place h.field.value_is)

  pub holder-owns : (k : ℕ) (u : Val) (o : Seen) (x : Name) (ty : Ty) (h : Receiver classes m.store opened u o x ty) → h.field.place ≡ k
      → is_iso ty ≡ true → owns_or_nil m (field_of o k) ≡ true
  holder-owns k u o x ty h place iso = field-owns classes m (f ∷ fs) opened d h.address k o h.field.field h.field.value h.there h.top
      (subst (λ n. slice_get (fields_of classes o.class) n ≡ Some h.field.field) place h.field.field_is)
      (subst (λ n. slice_get o.fields n ≡ Some h.field.value) place h.field.value_is) (ap is_iso h.field.type_is ∙ iso)

  pub swap-needs : (s k : ℕ) (u : Val) (x : Name) (ty : Ty) → is_iso ty ≡ true → nat_lt s (size_of m) ≡ true
      → ((o : Seen) → object_at m.store u ≡ Ok o → (h : Receiver classes m.store opened u o x ty) × (h.field.place ≡ k))
      → owns_or_nil m (slot_at m s) ≡ true
      → needs code (i.Swap s k) (u ∷ []) m ≡ true
  swap-needs s k u x ty iso room holds slot =
      let test : Seen → Truth = λ o. owned_once m && is_field m k o && owns_or_nil m (field_of o k) && owns_or_nil m (slot_at m s) in
      and_from (nat_lt s (size_of m)) (elim (object_at m.store u) [ Ok o ↦ test o | Err t ↦ true ]) room
      (of_object-given (object_at m.store u) test
      (λ o is. let h = holds o is in
      and_from (owned_once m && is_field m k o && owns_or_nil m (field_of o k)) (owns_or_nil m (slot_at m s))
      (and_from (owned_once m && is_field m k o) (owns_or_nil m (field_of o k))
      (and_from (owned_once m) (is_field m k o) (owned_once-fits classes m (f ∷ fs) opened d) (holder-field k u o x ty h.0 h.1))
      (holder-owns k u o x ty h.0 h.1 iso)) slot))

  pub enter_field-needs : (k z : ℕ) (u : Val) (x : Name) (ty : Ty) → is_iso ty ≡ true → length f.locals ≤ z
      → ((o : Seen) → object_at m.store u ≡ Ok o → (h : Receiver classes m.store opened u o x ty) × (h.field.place ≡ k))
      → needs code (i.EnterField k z) (u ∷ []) m ≡ true
  enter_field-needs k z u x ty iso behind holds = of_object-given (object_at m.store u)
      (λ o. owned_once m && is_field m k o && owns_or_nil m (field_of o k) && not (is_closed m (slot_at m z)))
      (λ o is. let h = holds o is in
      and_from (owned_once m && is_field m k o && owns_or_nil m (field_of o k)) (not (is_closed m (slot_at m z)))
      (and_from (owned_once m && is_field m k o) (owns_or_nil m (field_of o k))
      (and_from (owned_once m) (is_field m k o) (owned_once-fits classes m (f ∷ fs) opened d) (holder-field k u o x ty h.0 h.1))
      (holder-owns k u o x ty h.0 h.1 iso))
      (not_from_false _ (behind-closed classes m f fs opened d z behind)))

module _ (t : Tree) (r : Round) (store : List Seen) (slots : List Val) (locals : List Local) (managers : List Manager) (input : List ℕ) (env : Env)
    (begun : Begun t r store slots locals managers env) where
  -- what may be assigned may stand in the variable's slot
  variable-keeps : (e : Entry) (k : ℕ) → slice_get env.entries k ≡ Some e → (at_depth env e || not (stays_at_depth e.ty)) ≡ true
      → (ty : Ty) → below ty e.ty ≡ true
      → (now : List Seen) (after_slots : List Val) (after : List Local) (made : List Manager) (left : List ℕ) (v : Val)
      → ShowsSlots after_slots after → Comes t r env ty store now after made v → may_keep (work r now after_slots made left).machine k v ≡ true
  variable-keeps e k there may ty less now after_slots after made left v shows c = by (at_depth env e) refl (is_iso e.ty) refl may
    where
      by : (b : Truth) → at_depth env e ≡ b → (i : Truth) → is_iso e.ty ≡ i → (b || not (stays_at_depth e.ty)) ≡ true
          → may_keep (work r now after_slots made left).machine k v ≡ true
      by true here i iso h = keep-here (work r now after_slots made left).machine k v (begun.seen k (begun.top.here k e
          (subst (λ (q : Env). slice_get q.entries k ≡ Some e) (sym begun.is) there)
          (subst (λ (q : Env). at_depth q e ≡ true) (sym begun.is) here)))
      by false away true iso h = keep-away (work r now after_slots made left).machine k v (fresh-open t.classes
          (work r now after_slots made left).machine (running r after ∷ r.bodies) r.opened
          (shows_fit t r store slots locals managers input env begun now after_slots after made left c.fits shows) ty v
          (below-iso ty e.ty less ∙ iso) c.fresh)
      by false away false iso h = keep-away (work r now after_slots made left).machine k v (plain-open (work r now after_slots made left).machine
          r.opened e.ty v (below-meets now r.opened ty e.ty v less c.meets) iso (not-true (stays_at_depth e.ty) h))

  -- a variable takes what a right side gave
  pub variable-needs : (code : Code) (x : Variable) (e : Entry) → entry_of env x ≡ Some e → is_lent e.readiness ≡ false
      → type_in (scope_of locals) x ≡ e.ty → (at_depth env e || not (stays_at_depth e.ty)) ≡ true
      → (ty : Ty) → below ty e.ty ≡ true
      → (now : List Seen) (after_slots : List Val) (after : List Local) (made : List Manager) (left : List ℕ) (v : Val)
      → ShowsSlots after_slots after → scope_of after ≡ scope_of locals → Comes t r env ty store now after made v
      → needs code (assign_op (scope_of locals) x) (v ∷ []) (work r now after_slots made left).machine ≡ true
  variable-needs code x e there not_lent declared may ty less now after_slots after made left v shows scope c =
      let m = (work r now after_slots made left).machine in
      let a = first-at env.entries after x e c.named there in
      let place : place_in after x ≡ slot_of (scope_of locals) x = sym (slot_place after x) ∙ ap (λ s. slot_of s x) scope in
      subst (λ k. needs code (if is_iso (type_in (scope_of locals) x) then i.Own k else i.Store k) (v ∷ []) m ≡ true) place
      (assign-needs t.classes code m (running r after) r.bodies r.opened
      (shows_fit t r store slots locals managers input env begun now after_slots after made left c.fits shows)
      (place_in after x) a.local a.local_at
      (shown-room after_slots after (place_in after x) shows (slice_get_within after (place_in after x) a.local a.local_at))
      (free t r store slots locals managers input env begun after x e c.named there not_lent) ty v c.meets c.fresh
      (variable-keeps e (place_in after x) a.entry_at may ty less now after_slots after made left v shows c)
      (is_iso (type_in (scope_of locals) x)) (ap is_iso (a.pair.ty ∙ sym declared)))

  -- and so does a field
  pub field-needs : Accepted t → (code : Code) (x : Variable) (g : Name) (gs : List Name) (wanted ty : Ty) → is_iso wanted ≡ false
      → below ty wanted ≡ true
      → (k : ℕ) (u : Val) (o : Seen) (h : Receiver t.classes store r.opened u o (last_field g gs) wanted)
      → field_place (fields_of t.classes o.class) (last_field g gs) ≡ Some k
      → (now : List Seen) (after_slots : List Val) (after : List Local) (made : List Manager) (left : List ℕ) (v : Val)
      → ShowsSlots after_slots after → Comes t r env ty store now after made v
      → needs code (i.Put k) (v ∷ u ∷ []) (work r now after_slots made left).machine ≡ true
  field-needs accepted code x g gs wanted ty iso b k u o h place now after_slots after made left v shows c =
      let m = (work r now after_slots made left).machine in
      let there = c.keeps h.address o h.there h.top in
      let meets = below-meets now r.opened ty wanted v b c.meets in
      put-needs t.classes code m (running r after) r.bodies r.opened
      (shows_fit t r store slots locals managers input env begun now after_slots after made left c.fits shows) k u v o (last_field g gs)
      store wanted h
      (same_Some h.field.place k (sym h.field.place_is ∙ place)) there iso meets
      (field-holds t accepted store now r.opened o (last_field g gs) wanted v (c.fits.objects h.address o there) h.top h.field meets)

  -- and so does an element
  pub element-needs : Accepted t → (code : Code) (a : Looked) (ty : Ty) → below ty a.ty ≡ true → (u x : Val) (o : Seen) (k : ℕ)
      → ArrayAt t.classes store r.opened u o a → may_write a.receiver ≡ true → element_place o x ≡ Ok k → Meets store r.opened Int x
      → (now : List Seen) (after_slots : List Val) (after : List Local) (made : List Manager) (left : List ℕ) (v : Val)
      → ShowsSlots after_slots after → Comes t r env ty store now after made v
      → needs code i.PutElement (v ∷ x ∷ u ∷ []) (work r now after_slots made left).machine ≡ true
  element-needs accepted code a ty b u x o k h writes place number now after_slots after made left v shows c =
      let m = (work r now after_slots made left).machine in
      let top = writes-top r.opened a.receiver o.label writes h.fits in
      let there = c.keeps h.address o h.there top in
      let meets = below-meets now r.opened ty a.ty v b c.meets in
      let object = c.fits.objects h.address o there in
      element-put t.classes code m (running r after) r.bodies r.opened
      (shows_fit t r store slots locals managers input env begun now after_slots after made left c.fits shows) h.address k u x v o a.ty h.value there
      top place (printed-open m store r.opened Int x refl number) h.declared h.elements.not_iso meets
      (element-holds t accepted now r.opened o object a.ty v h.declared top meets)
