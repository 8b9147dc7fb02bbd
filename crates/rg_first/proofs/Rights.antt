-- What a right side leaves: objects of region 0 are still there, where what it uses up is of another region.
use Rattle.std.proofs.Common.{◌≡◌, ◌≢◌, refl, sym, ◌∙◌, ap, subst, inl, inr, ℕ, nat_lt, List, [], ◌∷◌, ◌++◌, length}
use Rattle.std.proofs.Common.{Option, Some, None, option_map, option_and_then, Result, Ok, arith}
use Rattle.std.proofs.lemmas.Option.{same_Some}
use Rattle.rg_base.specs.declared.limits.TheConstants.{FRAMES}
use Rattle.rg_base.specs.declared.words.Cap.{Cap}
use Rattle.rg_base.specs.declared.words.Cap.TheVariants.{Mut, Imm, Iso}
use Rattle.rg_base.specs.declared.words.Manager.{Manager}
use Rattle.rg_base.specs.declared.ty.Ty.{Ty}
use Rattle.rg_base.specs.declared.object.Label.{Label}
use Rattle.rg_base.specs.declared.object.Label.TheVariants.{Frozen}
use Rattle.rg_base.specs.declared.object.Place.TheVariants.{Field}
use Rattle.rg_base.specs.declared.object.Seen.{Seen}
use Rattle.rg_base.specs.declared.value.Val.{Val}
use Rattle.rg_base.specs.declared.value.Val.TheVariants as val
use Rattle.rg_base.specs.declared.outcome.Trap.{Trap}
use Rattle.rg_base.specs.Input.{NextNumber, found, malformed, at_end, next_number}
use Rattle.rg_tree.specs.Tree.{Name, Expr, Call, Right, value, new, new_tmp, new_iso, freeze, merge, read, more, result_of, StmtKind, stmt, Method}
use Rattle.rg_tree.specs.Tree.{Class, Tree}
use Rattle.rg_rules.specs.Answers.{◌>>=◌}
use Rattle.rg_rules.specs.Capabilities.{is_iso}
use Rattle.rg_rules.specs.Types.{class_named, method_named}
use Rattle.rg_rules.specs.Expressions.{Judged}
use Rattle.rg_rules.specs.Rights.{judge_consumed, judge_right}
use Rattle.rg_rules.specs.Items.{Item, Do}
use Rattle.rg_rules.specs.State.{Target, State, locals_of, top_locals, value_in, place_in}
use Rattle.rg_rules.specs.Regions.{region_of, region_at, address, beneath}
use Rattle.rg_rules.specs.Owners.{Forest}
use Rattle.rg_rules.specs.Evaluation.{object_at, path_value, value_of, values_of, computed}
use Rattle.rg_rules.specs.RightSides.{Use, new_object, new_array, array_size, made_new, with_region, frozen, merged, consumed, taken, called}
use Rattle.rg_rules.specs.RightSides.{step_call, with_right}
use Rattle.rg_rules.proofs.Answers.{bind-ok, test-then}
use Rattle.rg_rules.proofs.Step.{computed-ok}
use Rattle.rg_sound.specs.Values.{LabelFits, Meets}
use Rattle.rg_sound.proofs.Basics.{none-some}
use Rattle.rg_sound.proofs.Frames.Named.{first-at}
use Rattle.rg_sound.proofs.Frames.Top.{top-sees, top-not_owner}
use Rattle.rg_sound.proofs.Values.Value.{seen-meets}
use Rattle.rg_sound.proofs.Values.Right.{take-variable, ready-not_lent}
use Rattle.rg_sound.proofs.Values.Assign.{Doing}
use Rattle.rg_sound.proofs.Owners.Enter.{iso-type, seen-iso, owned-object}
use Rattle.rg_sound.proofs.Stores.Consume.{judge_consumed-parts}
use Rattle.rg_sound.proofs.Stores.Member.{In, not-among}
use Rattle.rg_sound.proofs.Stores.Beneath.{beneath-from}
use Rattle.rg_first.proofs.Stores.{Keeps, keeps-is, keeps-then, keeps-push, keeps-relabelled, UseKeeps}

pub ok-is : {A E : Type 0} (a b : A) → ◌≡◌ {A = Result A E} (Ok a) (Ok b) → a ≡ b
ok-is a b h = grind arith

-- What is used up

-- what a variable leads to isn't of region 0
abbrev pub LeadsElsewhere : State → Name → Type 0
LeadsElsewhere s y = (o : Seen) (g : ℕ) → object_at s.store (value_in (locals_of s) (Some y)) ≡ Ok o → region_of o.label ≡ Some g → g ≢ 0

-- what a right side freezes or merges isn't of region 0
abbrev pub SparesFirst : State → Right → Type 0
SparesFirst s (value e) = Unit {0}
SparesFirst s (new x size) = Unit {0}
SparesFirst s (new_tmp x size) = Unit {0}
SparesFirst s (new_iso x size m) = Unit {0}
SparesFirst s (freeze y) = LeadsElsewhere s y
SparesFirst s (merge y) = LeadsElsewhere s y
SparesFirst s read = Unit {0}
SparesFirst s more = Unit {0}
SparesFirst s (result_of c) = Unit {0}

-- an `iso` variable that is ready owns a region, and none owns region 0
consumes-elsewhere : (t : Tree) (s : State) (line : ℕ) (k : StmtKind) (later : List Item) (d : Doing t s line k later) (wanted : Ty) (cap : Cap)
    (y : Name) (j : Judged) → judge_consumed d.r.spot.env wanted cap y ≡ Ok j → LeadsElsewhere s y
consumes-elsewhere t s line k later d wanted cap y j typed o g at of =
    let p = judge_consumed-parts d.r.spot.env wanted cap y j typed in
    let items = Do (stmt line k) ∷ later in
    let locals : locals_of s ≡ d.f.locals = ap top_locals d.frames in
    let v = value_in d.f.locals (Some y) in
    let there : object_at s.store v ≡ Ok o = ap (λ q. object_at s.store (value_in q (Some y))) (sym locals) ∙ at in
    let iso_ty = iso-type p.entry.ty p.class p.iso in
    let sees = top-sees t s.store d.f d.fs s.windows items d.r d.top d.fits.values in
    let P : Ty → Type 0 = λ q. Meets s.store s.windows q v in
    let m = subst P (seen-iso d.r.spot.env p.entry p.class iso_ty)
    (seen-meets s.store s.windows (length d.fs) d.r.spot.env d.f.locals sees (Some y) p.entry p.there) in
    let w = owned-object s.store (LabelFits s.windows Iso) p.class v o (λ l q. q) m there in
    let e = first-at d.r.spot.env.entries d.f.locals (Some y) p.entry d.r.stands.named p.there in
    let taken = take-variable t s.store d.f d.fs s.windows (length s.managers) s.windows_made (Some y) p.entry d.r.spot.env d.fits d.r.stands.named
    p.there (ap is_iso iso_ty)
    (top-not_owner t d.f d.fs s.windows items d.r d.top (place_in d.f.locals (Some y)) p.entry e.entry_at (ready-not_lent p.entry.readiness p.ready))
    in
    let led : option_and_then (region_at s.store) (address v) ≡ Some w.region =
    ap (λ q. option_and_then (region_at s.store) (address q)) w.value ∙ ap (option_and_then (λ (q : Seen). region_of q.label)) w.there
    ∙ ap region_of w.label_is in
    let same : g ≡ w.region = same_Some g w.region (sym of ∙ ap region_of w.label_is) in
    λ zero_is. (taken.unowned w.region led).0 (sym same ∙ zero_is)

pub right-spares : (t : Tree) (s : State) (line : ℕ) (k : StmtKind) (later : List Item) (d : Doing t s line k later) (wanted : Ty) (r : Right)
    (j : Judged) → judge_right t.classes d.r.spot.env wanted r ≡ Ok j → SparesFirst s r
right-spares t s line k later d wanted (value e) j h = tt
right-spares t s line k later d wanted (new x size) j h = tt
right-spares t s line k later d wanted (new_tmp x size) j h = tt
right-spares t s line k later d wanted (new_iso x size m) j h = tt
right-spares t s line k later d wanted (freeze y) j h = consumes-elsewhere t s line k later d wanted Imm y j h
right-spares t s line k later d wanted (merge y) j h = consumes-elsewhere t s line k later d wanted Mut y j h
right-spares t s line k later d wanted read j h = tt
right-spares t s line k later d wanted more j h = tt
right-spares t s line k later d wanted (result_of c) j h = tt

-- region 0 isn't beneath another one
not-beneath : (classes : List Class) (s : State) → Forest classes s.store s.frames → (links g : ℕ) → g ≢ 0
    → In 0 (beneath classes s.store links (g ∷ [])) → ⊥
not-beneath classes s forest links g other i = elim (beneath-from classes s.store links (g ∷ []) 0 i) [
  | inl start ↦ elim start [ inl e ↦ other e | inr h ↦ absurd h ]
  | inr q ↦ forest.none_into_first (Field q.2.object q.2.field) q.2.leads
]

not-itself : (g : ℕ) → g ≢ 0 → In 0 (g ∷ []) → ⊥
not-itself g other (inl e) = other e
not-itself g other (inr h) = h

-- What a right side leaves

region-keeps : (put : Use) → UseKeeps put → (m : Manager) → UseKeeps (with_region m put)
region-keeps put keeps m s v = keeps (record s { managers = s.managers ++ m ∷ [] }) v

new-keeps : (classes : List Class) (s u : State) (put : Use) → UseKeeps put → (x : Name) (size : Option Expr) (label : Label)
    → made_new classes s put x size label ≡ Ok u → Keeps s.store u.store
new-keeps classes s u put keeps x None label h = by (class_named classes x) h
  where
    by : (c : Option Class) → ◌≡◌ {A = Result State Trap} (Ok (elim c [
      | None ↦ s
      | Some c ↦ put (record s { store = s.store ++ new_object classes x label ∷ [] }) (val.Obj (length s.store))
    ])) (Ok u) → Keeps s.store u.store
    by None e = keeps-is s.store u.store (ap (λ (q : State). q.store) (sym (ok-is s u e)))
    by (Some c) e =
        let w : State = record s { store = s.store ++ new_object classes x label ∷ [] } in
        let is = ok-is (put w (val.Obj (length s.store))) u e in
        subst (λ (q : State). Keeps s.store q.store) is
        (keeps-then s.store w.store _ (keeps-push s.store (new_object classes x label)) (keeps w (val.Obj (length s.store))))
new-keeps classes s u put keeps x (Some e) label h = by (class_named classes x) h
  where
    by : (c : Option Class) → ◌≡◌ {A = Result State Trap} (elim c [
      | None ↦ Ok s
      | Some c ↦ ◌>>=◌ (value_of classes s.store (locals_of s) e) (λ v. ◌>>=◌ (array_size v) (λ n.
          Ok (put (record s { store = s.store ++ new_array classes x c n label ∷ [] }) (val.Obj (length s.store)))))
    ]) (Ok u) → Keeps s.store u.store
    by None k = keeps-is s.store u.store (ap (λ (q : State). q.store) (sym (ok-is s u k)))
    by (Some c) k =
        let v = bind-ok (value_of classes s.store (locals_of s) e) _ u k in
        let n = bind-ok (array_size v.0) _ u v.2 in
        let w : State = record s { store = s.store ++ new_array classes x c n.0 label ∷ [] } in
        let is = ok-is (put w (val.Obj (length s.store))) u n.2 in
        subst (λ (q : State). Keeps s.store q.store) is
        (keeps-then s.store w.store _ (keeps-push s.store (new_array classes x c n.0 label)) (keeps w (val.Obj (length s.store))))

taken-keeps : (s u : State) (put : Use) → UseKeeps put → (n : NextNumber) → taken s put n ≡ Ok u → Keeps s.store u.store
taken-keeps s u put keeps (found z rest) h =
    let is = ok-is (put (record s { input = rest }) (val.Int z)) u h in
    subst (λ (q : State). Keeps s.store q.store) is (keeps (record s { input = rest }) (val.Int z))
taken-keeps s u put keeps malformed h = grind arith
taken-keeps s u put keeps at_end h = grind arith

consumed-keeps : (s u : State) (put : Use) → UseKeeps put → (y : Name) (after : Option State)
    → ((w : State) → after ≡ Some w → Keeps s.store w.store) → consumed s put (Some y) after ≡ u → Keeps s.store u.store
consumed-keeps s u put keeps y None behind is = keeps-is s.store u.store (ap (λ (q : State). q.store) (sym is))
consumed-keeps s u put keeps y (Some w) behind is =
    subst (λ (q : State). Keeps s.store q.store) is (keeps-then s.store w.store _ (behind w refl) (keeps _ (value_in (locals_of s) (Some y))))

-- where an object of a region leads to a change of the store, that change is of its region
of-region : (s : State) (l : Option ℕ) (f : ℕ → State) → ((g : ℕ) → l ≡ Some g → Keeps s.store (f g).store) → (w : State) → option_map f l ≡ Some w
    → Keeps s.store w.store
of-region s None f each w e = none-some e
of-region s (Some g) f each w e = subst (λ (q : State). Keeps s.store q.store) (same_Some (f g) w e) (each g refl)

pub call-keeps : (classes : List Class) (s u : State) (target : Target) (c : Call) → step_call classes s target c ≡ Ok u → Keeps s.store u.store
call-keeps classes s u target c h =
    let self = bind-ok (path_value classes s.store (locals_of s) c.target) _ u h in
    let o = bind-ok (object_at s.store self.0) _ u self.2 in
    by self.0 o.0.class (method_named classes o.0.class c.method) o.2
  where
    by : (self : Val) (class : ℕ) (m : Option Method) → called classes s target c self class m ≡ Ok u → Keeps s.store u.store
    by self class None e = keeps-is s.store u.store (ap (λ (q : State). q.store) (sym (ok-is s u e)))
    by self class (Some m) e =
        let args = bind-ok (values_of classes s.store (locals_of s) c.args) _ u e in
        let room = test-then (nat_lt (length s.frames) FRAMES) _ _ u args.2 in
        keeps-is s.store u.store (ap (λ (q : State). q.store) (sym (ok-is _ u room.1)))

pub right-keeps : (classes : List Class) (s u : State) → Forest classes s.store s.frames → (target : Target) (put : Use) → UseKeeps put → (r : Right)
    → SparesFirst s r → with_right classes s target put r ≡ Ok u → Keeps s.store u.store
right-keeps classes s u forest target put keeps (value e) spares h =
    let c = bind-ok (computed classes s e) _ u h in
    let behind = computed-ok classes s e c.0 c.1 in
    subst (λ (q : State). Keeps s.store q.store) (ok-is (put c.0.0 c.0.1) u c.2)
    (keeps-then s.store c.0.0.store _ (keeps-is s.store c.0.0.store (ap (λ (q : State). q.store) behind.state)) (keeps c.0.0 c.0.1))
right-keeps classes s u forest target put keeps (new x size) spares h = new-keeps classes s u put keeps x size _ h
right-keeps classes s u forest target put keeps (new_tmp x size) spares h = new-keeps classes s u put keeps x size _ h
right-keeps classes s u forest target put keeps (new_iso x size m) spares h =
    new-keeps classes s u (with_region m put) (region-keeps put keeps m) x size _ h
right-keeps classes s u forest target put keeps (freeze y) spares h =
    let o = bind-ok (object_at s.store (value_in (locals_of s) (Some y))) _ u h in
    consumed-keeps s u put keeps y (option_map (frozen classes s) (region_of o.0.label))
    (of-region s (region_of o.0.label) (frozen classes s) (λ g e.
    keeps-relabelled (beneath classes s.store (length s.managers) (g ∷ [])) Frozen s.store
    (not-among _ 0 (not-beneath classes s forest (length s.managers) g (spares o.0 g o.1 e))))) (ok-is _ u o.2)
right-keeps classes s u forest target put keeps (merge y) spares h =
    let o = bind-ok (object_at s.store (value_in (locals_of s) (Some y))) _ u h in
    consumed-keeps s u put keeps y (option_map (merged s) (region_of o.0.label))
    (of-region s (region_of o.0.label) (merged s) (λ g e. keeps-relabelled (g ∷ []) _ s.store
    (not-among (g ∷ []) 0 (not-itself g (spares o.0 g o.1 e))))) (ok-is _ u o.2)
right-keeps classes s u forest target put keeps read spares h = taken-keeps s u put keeps (next_number s.input) h
right-keeps classes s u forest target put keeps more spares h = subst (λ (q : State). Keeps s.store q.store) (ok-is _ u h) (keeps s _)
right-keeps classes s u forest target put keeps (result_of c) spares h = call-keeps classes s u target c h
