-- `let` and the assignment of a variable keep the invariant, once the right side is computed.
use Rattle.std.proofs.Common.{◌≡◌, refl, sym, ◌∙◌, ap, subst, ℕ, Bool as Truth, true, false, ◌||◌, not as negated, if◌then◌else◌, List, [], ◌∷◌, ◌++◌}
use Rattle.std.proofs.Common.{length, Some, None, option_and_then, arith}
use Rattle.rg_base.specs.declared.words.Cap.TheVariants.{Mut, Tmp, Paused, Imm, Iso}
use Rattle.rg_base.specs.declared.ty.Ty.{Ty}
use Rattle.rg_base.specs.declared.ty.Ty.TheVariants.{Int, Bool, Ref}
use Rattle.rg_base.specs.declared.object.Seen.{Seen}
use Rattle.rg_base.specs.declared.value.Val.{Val}
use Rattle.rg_tree.specs.Tree.{Variable, Class, Tree}
use Rattle.rg_rules.specs.Capabilities.{below, is_iso, stays_at_depth}
use Rattle.rg_rules.specs.Environment.{Env, Entry, entry_of, at_depth, with_variable, is_lent}
use Rattle.rg_rules.specs.Items.{Item}
use Rattle.rg_rules.specs.State.{Local, Frame, Window, State, place_in, set_in}
use Rattle.rg_rules.specs.Regions.{region_at, address}
use Rattle.rg_rules.proofs.Local.{set_in-at}
use Rattle.rg_sound.specs.Windows.{windows_of}
use Rattle.rg_sound.specs.Values.{Meets}
use Rattle.rg_sound.specs.Frames.{leaves, Named, Stands, Running}
use Rattle.rg_sound.proofs.Frames.Named.{first-at, Named-length}
use Rattle.rg_sound.proofs.Frames.Entry.{Stays}
use Rattle.rg_sound.proofs.Values.Value.{below-meets}
use Rattle.rg_sound.proofs.Frames.Spot.{AllWithin}
use Rattle.rg_sound.proofs.Owners.Data.{Data, NotOwner, Puts, puts-snoc, puts-set, put-local}
use Rattle.rg_sound.proofs.Frames.Stands.{stands-stays, stands-more}
use Rattle.rg_sound.proofs.Frames.Top.{Top, top-not_owner, top-new_owner}
use Rattle.rg_sound.proofs.Values.Right.{OwnsFreshAs, Gives, below-iso}

-- the same variables as before, one of which goes behind all
place-new : (t : Tree) (s : State) (f : Frame) (fs : List Frame) (env : Env) (after : State) (ty : Ty) (v : Val) →
    (g : Gives t s f fs env after ty v) → Named env.entries f.locals →
    length g.locals ≡ length f.locals
place-new t s f fs env after ty v g h = sym (Named-length env.entries g.locals g.named) ∙ Named-length env.entries f.locals h

-- owners are told by whether a type is `iso`
pub fresh-as : (classes : List Class) (store : List Seen) (frames : List Frame) (t u : Ty) (v : Val) → is_iso t ≡ is_iso u →
    OwnsFreshAs classes store frames t v →
    OwnsFreshAs classes store frames u v
fresh-as classes store frames t u v e h r k =
    let P : Truth → Type 0 = λ b. option_and_then (region_at store) (if b then address v else None) ≡ Some r in
    h r (subst P (sym e) k)

-- the frame of a new variable
pub declare-data : (t : Tree) (s : State) (f : Frame) (fs : List Frame) (later : List Item) (r : Running t f fs s.windows later) →
    Top t f fs s.windows later r →
    (after : State) (ty : Ty) (v : Val) (g : Gives t s f fs r.spot.env after ty v) → (x : Variable) (declared : Ty) → below ty declared ≡ true →
    Data t.classes after.store (record f { locals = g.locals ++ record { name = x; ty = declared; value = v } ∷ [] } ∷ fs) s.windows
    (length after.managers) s.windows_made
declare-data t s f fs later r top after ty v g x declared b =
    let l : Local = record { name = x; ty = declared; value = v } in
    let count = place-new t s f fs r.spot.env after ty v g r.stands.named in
    let P : ℕ → Type 0 = λ n. windows_of (length fs) n s.windows ≡ s.windows in
    let Q : ℕ → Type 0 = λ n. NotOwner s.windows (length fs) n in
    let all = subst P (sym count) top.next in
    let meets = below-meets after.store s.windows ty declared v b g.meets in
    let R : List Window → Type 0 = λ q. Meets after.store q declared v in
    put-local t.classes after.store (record f { locals = g.locals }) fs s.windows (length after.managers) s.windows_made (g.locals ++ l ∷ [])
    (length g.locals) l g.fits
    (puts-snoc g.locals l) (subst R (sym all) meets)
    (fresh-as t.classes after.store (record f { locals = g.locals } ∷ fs) ty declared v (below-iso ty declared b) g.fresh)
    (subst Q (sym count) (top-new_owner t f fs s.windows later r top))

-- and it stands behind the `let`
pub declare-stands : (t : Tree) (s : State) (f : Frame) (fs : List Frame) (later : List Item) (r : Running t f fs s.windows later) →
    Top t f fs s.windows later r →
    (locals : List Local) → Named r.spot.env.entries locals → (j : Env) → Stays r.spot.env j →
    (x : Variable) (declared : Ty) (v : Val) (mine : List Item) →
    leaves r.spot.items ≡ leaves mine →
    Stands (record f { locals = locals ++ record { name = x; ty = declared; value = v } ∷ [] }) (length fs) r.own
    (record { env = with_variable j x declared true; items = mine; enters = r.spot.enters })
declare-stands t s f fs later r top locals named j stays x declared v mine ends =
    let l : Local = record { name = x; ty = declared; value = v } in
    let mid = stands-stays f (record f { locals = locals }) (length fs) r.own r.spot j mine r.stands stays ends named in
    let P : List ℕ → Type 0 = λ q. AllWithin (length j.entries) q in
    let Q : ℕ → Type 0 = λ n. AllWithin n (leaves r.spot.items) in
    let within = subst P ends (subst Q (sym stays.count) top.spot.within) in
    stands-more (record f { locals = locals }) (record f { locals = locals ++ l ∷ [] }) (length fs) r.own
    (record { env = j; items = mine; enters = r.spot.enters }) l x declared mid refl refl refl
    (stays.depth ∙ top.depth) within

-- a type whose variables may be assigned at any depth means the same at each window
anywhere-meets : (store : List Seen) (under ws : List Window) (t : Ty) (v : Val) → stays_at_depth t ≡ false → Meets store ws t v →
    Meets store under t v
anywhere-meets store under ws Int v e m = m
anywhere-meets store under ws Bool v e m = m
anywhere-meets store under ws (Ref Mut c) v e m = grind arith
anywhere-meets store under ws (Ref Tmp c) v e m = grind arith
anywhere-meets store under ws (Ref Paused c) v e m = grind arith
anywhere-meets store under ws (Ref Imm c) v e m = m
anywhere-meets store under ws (Ref Iso c) v e m = m

assigned-meets : (b c : Truth) (store : List Seen) (under ws : List Window) (t : Ty) (v : Val) → (b || negated c) ≡ true → (b ≡ true → under ≡ ws) →
    (stays_at_depth t ≡ c) → Meets store ws t v → Meets store under t v
assigned-meets true c store under ws t v h same e m = let P : List Window → Type 0 = λ q. Meets store q t v in subst P (sym (same refl)) m
assigned-meets false true store under ws t v h same e m = grind arith
assigned-meets false false store under ws t v h same e m = anywhere-meets store under ws t v e m

-- the frame with another value in a variable
pub assign-data : (t : Tree) (s : State) (f : Frame) (fs : List Frame) (later : List Item) (r : Running t f fs s.windows later) →
    Top t f fs s.windows later r →
    (after : State) (ty : Ty) (v : Val) (g : Gives t s f fs r.spot.env after ty v) → (x : Variable) (e : Entry) → entry_of r.spot.env x ≡ Some e →
    (at_depth r.spot.env e || negated (stays_at_depth e.ty)) ≡ true → is_lent e.readiness ≡ false → below ty e.ty ≡ true →
    Data t.classes after.store (record f { locals = set_in x v g.locals } ∷ fs) s.windows (length after.managers) s.windows_made
assign-data t s f fs later r top after ty v g x e there depth not_lent b =
    let a = first-at r.spot.env.entries g.locals x e g.named there in
    let k = place_in g.locals x in
    let l : Local = record a.local { value = v } in
    let P : List Local → Type 0 = λ q. Puts g.locals q k l in
    let puts = subst P (sym (set_in-at x v g.locals a.local a.local_at)) (puts-set g.locals k l a.local a.local_at) in
    let meets = below-meets after.store s.windows ty e.ty v b g.meets in
    let here = assigned-meets (at_depth r.spot.env e) (stays_at_depth e.ty) after.store (windows_of (length fs) k s.windows) s.windows e.ty v depth
    (top.here k e a.entry_at) refl meets in
    let Q : Ty → Type 0 = λ q. Meets after.store (windows_of (length fs) k s.windows) q v in
    put-local t.classes after.store (record f { locals = g.locals }) fs s.windows (length after.managers) s.windows_made (set_in x v g.locals)
    k l g.fits puts
    (subst Q (sym a.pair.ty) here)
    (fresh-as t.classes after.store (record f { locals = g.locals } ∷ fs) ty a.local.ty v (below-iso ty e.ty b ∙ ap is_iso (sym a.pair.ty)) g.fresh)
    (top-not_owner t f fs s.windows later r top k e a.entry_at not_lent)
