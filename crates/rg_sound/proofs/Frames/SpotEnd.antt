-- The spot behind the end of a block.
use Rattle.std.proofs.Common.{◌≡◌, refl, sym, ◌∙◌, ap, subst, ◌⊎◌, inl, inr, ℕ, ◌+◌, ◌==◌, true, false, List, [], ◌∷◌, ◌++◌, length, Option, Some}
use Rattle.std.proofs.Common.{None}
use Rattle.std.proofs.Common.{ok_or, slice_get, Ok, arith}
use Rattle.std.proofs.lemmas.Bool.{and_parts}
use Rattle.std.proofs.lemmas.Option.{same_Some}
use Rattle.std.proofs.lemmas.List.{append-nil}
use Rattle.rg_base.specs.declared.ty.Ty.{Ty}
use Rattle.rg_base.specs.declared.ty.Ty.TheVariants.{Int, Bool, Ref}
use Rattle.rg_base.specs.declared.words.Cap.{Cap}
use Rattle.rg_base.specs.declared.words.Cap.TheVariants.{Mut, Tmp, Paused, Imm, Iso}
use Rattle.rg_base.specs.declared.fault.Code.TheVariants.{Unknown, Mismatch}
use Rattle.rg_tree.specs.Tree.{Name, Variable, Path, Expr, Stmt, stmt, StmtKind, branch, while, enter}
use Rattle.rg_tree.specs.Tree.{Else, no_else, otherwise, Block, empty as none, then as next, Class}
use Rattle.rg_rules.specs.Answers.{Answer, Lined, at_line}
use Rattle.rg_rules.specs.Capabilities.{below, below_cap, same_type}
use Rattle.rg_rules.specs.Environment.{Env, Entry, Readiness, ready, gone, is_ready, is_lent, entry_of, seen_type, lent, closed, joined}
use Rattle.rg_rules.specs.Statements.{judge_stmt, judge_kind, judge_else, judge_block, judge_test, judge_enter, judge_giving}
use Rattle.rg_rules.specs.Statements.{left, last_of}
use Rattle.rg_rules.specs.Items.{Item, Do, EndAt, LeaveAt, LeaveGiving, Back, leave_of, items_of}
use Rattle.rg_rules.specs.Points.{Side, first, second, Point, here, behind, inside, Spot, spot_in, Opened, inner_block, block_end, entered_path}
use Rattle.rg_rules.proofs.Answers.{bind-ok, then-ok, test-ok, ok_or-ok, at_line-ok}
use Rattle.rg_rules.proofs.Point.{and_then-some, inner_block-judged, opened-some, from_ok, to_ok}
use Rattle.rg_sound.proofs.Frames.Entry.{settled_readiness, distinct-find, Keeps-find, Keeps-at, Distinct, Keeps, Keeps-same, Keeps-trans}
use Rattle.rg_sound.proofs.Frames.Entry.{Keeps-flip, Keeps-both_marked}
use Rattle.rg_sound.proofs.Frames.Entry.{Stays}
use Rattle.rg_sound.proofs.Frames.Entry.{Goes, Stays-same, Stays-trans, Stays-distinct, Stays-closed, Stays-joined}
use Rattle.rg_sound.proofs.Frames.Judge.{judge_test-stays, lent_entries, Inner, judge_enter-inner, judge_enter-variable, judge_enter-bridge}
use Rattle.rg_sound.proofs.Frames.Judge.{left-stays}
use Rattle.rg_sound.proofs.Frames.Judge.{judge_stmt-goes}
use Rattle.rg_sound.proofs.Frames.Judge.{judge_else-goes, judge_block-goes}
use Rattle.rg_sound.proofs.Frames.Body.{Begins, EndsWell, block_end-begins, first-left, rest-ends, no_point}
use Rattle.rg_sound.proofs.Frames.Spot.{inner-spot}

-- Out of a block

-- a statement isn't the end of anything
abbrev pub IsEnd : Item → Type 0
IsEnd (Do s) = ⊥
IsEnd _ = Unit {0}

-- at the end of a block of an `if` or a `while` there are the variables behind it, and maybe more
pub record EndsAt (k : ℕ) (env : Env) (enters : List Path) (s : Spot) : Type 0 where
  pub kept : k ≡ length env.entries
  pub depth : env.depth ≡ s.env.depth
  pub keeps : Keeps env.entries s.env.entries
  pub enters_are : s.enters ≡ enters

-- an entered variable isn't lent
abbrev pub IsFreed : Variable → List Name → Env → Type 0
IsFreed x [] env = (e : Entry) → entry_of env x ≡ Some e → is_lent e.readiness ≡ false
IsFreed x (f ∷ fs) env = Unit {0}

-- at the end of the block of an `enter` there are the variables behind it, the entered one lent, and maybe more
pub record LeavesAt (k : ℕ) (env : Env) (enters : List Path) (s : Spot) : Type 0 where
  pub path : Path
  pub kept : k ≡ length env.entries
  pub depth : s.env.depth ≡ env.depth + 1
  pub keeps : Keeps (lent_entries path.base path.fields env.entries) s.env.entries
  pub enters_are : s.enters ≡ enters ++ path ∷ []
  pub free : IsFreed path.base path.fields env

-- what is given at the end of the block of an `enter` is seen as the variable of the bridge is declared
pub record GivesAt (k : ℕ) (w : Name) (env : Env) : Type 0 where
  pub entry : Entry
  pub there : entry_of env (Some w) ≡ Some entry
  pub bridge : Entry
  pub bridge_at : slice_get env.entries k ≡ Some bridge
  pub class : ℕ
  pub bridge_is : bridge.ty ≡ Ref Mut class
  pub type_is : seen_type env entry ≡ Ref Mut class

-- how the end of a block leads behind it
abbrev pub Closes : Item → Env → (enters : List Path) → Spot → Type 0
Closes (EndAt k) env enters s = EndsAt k env enters s
Closes (LeaveAt k) env enters s = LeavesAt k env enters s
Closes (LeaveGiving line k w) env enters s = LeavesAt k env enters s × GivesAt k w s.env
Closes _ env enters s = ⊥

-- the end of an inner block, with the spot behind it
pub record EndsInner (classes : List Class) (result : Option Ty) (env : Env) (b : Block) (after : List Item) (round : List Path) (s : Spot) (i : Item)
    (mine : List Item) : Type 0 where
  pub point : Point
  pub to : Env
  pub enters : List Path
  pub spot_is : spot_in classes result env b after round point ≡ Some (record { env = to; items = mine; enters = enters })
  pub closes : Closes i to enters s
  pub left : Begins mine

-- the end of the block itself
pub record EndsOuter (out : Env) (after : List Item) (round : List Path) (s : Spot) (i : Item) (mine : List Item) : Type 0 where
  pub after_is : after ≡ i ∷ mine
  pub env_is : s.env ≡ out
  pub enters_are : s.enters ≡ round

-- behind an `if`
branch-closes : (classes : List Class) (env front out : Env) (to : Env) (round : List Path) (s : Spot) (k : ℕ) → k ≡ length env.entries →
    Stays env front →
    Goes front out → Stays env to → s.env ≡ out → s.enters ≡ round ++ [] → EndsAt k to round s
branch-closes classes env front out to round s k kept f g t e r = record {
  kept = kept ∙ sym t.count;
  depth = t.depth ∙ sym f.depth ∙ sym g.depth ∙ ap (λ (q : Env). q.depth) (sym e);
  keeps = rw e (Keeps-trans to.entries env.entries out.entries (Keeps-flip env.entries to.entries t.keeps t.count)
      (Keeps-trans env.entries front.entries out.entries f.keeps g.keeps));
  enters_are = r ∙ append-nil round;
}

-- behind an `enter`
leave-closes : (classes : List Class) (env front out : Env) (p : Path) (to : Env) (round : List Path) (s : Spot) (k : ℕ) → k ≡ length env.entries →
    Inner env front p.base p.fields → Goes front out → Stays env to → s.env ≡ out → s.enters ≡ round ++ p ∷ [] → IsFreed p.base p.fields env →
    LeavesAt k to round s
leave-closes classes env front out p to round s k kept f g t e r free = record {
  path = p;
  kept = kept ∙ sym t.count;
  depth = ap (λ (q : Env). q.depth) e ∙ g.depth ∙ f.depth ∙ ap (λ q. q + 1) (sym t.depth);
  keeps = rw e (Keeps-trans (lent_entries p.base p.fields to.entries) (lent_entries p.base p.fields env.entries) out.entries
      (lent-flip p.base p.fields) (Keeps-trans (lent_entries p.base p.fields env.entries) front.entries out.entries f.keeps g.keeps));
  enters_are = r;
  free = free-kept p.base p.fields free;
}
  where
    settled_is : (a b : Readiness) → settled_readiness a ≡ settled_readiness b → is_lent b ≡ false → is_lent a ≡ false
    settled_is ready b h l = refl
    settled_is gone b h l = refl
    settled_is lent ready h l = grind arith
    settled_is lent gone h l = grind arith
    settled_is lent lent h l = l

    free-kept : (x : Variable) (fs : List Name) → IsFreed x fs env → IsFreed x fs to
    free-kept x [] h = λ o g.
        let n = Keeps-find x to.entries env.entries o (Keeps-flip env.entries to.entries t.keeps t.count) g in
        settled_is o.readiness n.0.readiness (ap (λ (q : Entry). q.readiness) (sym n.2)) (h n.0 n.1)
    free-kept x (f ∷ fs) h = tt

    lent-flip : (x : Variable) (fs : List Name) → Keeps (lent_entries x fs to.entries) (lent_entries x fs env.entries)
    lent-flip x [] = Keeps-both_marked x lent to.entries env.entries (Keeps-flip env.entries to.entries t.keeps t.count)
    lent-flip x (f ∷ fs) = Keeps-flip env.entries to.entries t.keeps t.count

-- the parts of an `if` that has no fault
pub record Branches (classes : List Class) (line : ℕ) (env out : Env) (e : Expr) (b : Block) (other : Else) : Type 0 where
  pub front : Env
  pub tested : judge_test classes env e ≡ Ok front
  pub one : Env
  pub first_is : judge_block classes None front b ≡ Ok one
  pub two : Env
  pub second_is : judge_else classes front other ≡ Ok two
  pub out_is : out ≡ joined (closed front one) (closed front two)

pub branch-parts : (classes : List Class) (last : Option Ty) (line : ℕ) (env out : Env) (e : Expr) (b : Block) (other : Else) →
    judge_kind classes last line env (branch e b other) ≡ Ok out → Branches classes line env out e b other
branch-parts classes last line env out e b other h =
    let f = bind-ok (at_line line (judge_test classes env e)) _ out h in
    let a = bind-ok (judge_block classes None f.0 b) _ out f.2 in
    let c = bind-ok (judge_else classes f.0 other) _ out a.2 in
    let o : joined (closed f.0 a.0) (closed f.0 c.0) ≡ out = grind arith in
    record {
      front = f.0;
      tested = at_line-ok line (judge_test classes env e) f.0 f.1;
      one = a.0;
      first_is = a.1;
      two = c.0;
      second_is = c.1;
      out_is = sym o;
    }

pub branch-stays : (classes : List Class) (line : ℕ) (env out : Env) (e : Expr) (b : Block) (other : Else) → Distinct env.entries →
    Branches classes line env out e b other → Stays env out
branch-stays classes line env out e b other d p =
    let t = judge_test-stays classes env p.front e d p.tested in
    let q = Stays-distinct env p.front d t in
    let g = judge_block-goes classes None p.front p.one b q p.first_is in
    let h = judge_else-goes classes p.front p.two other q p.second_is in
    rw p.out_is (Stays-trans env p.front _ t (Stays-joined p.front (closed p.front p.one) (closed p.front p.two)
    (Stays-closed p.front p.front p.one (Keeps-same p.front.entries) g.keeps)
    (Stays-closed p.front p.front p.two (Keeps-same p.front.entries) h.keeps)))

-- the end of a block of a statement, behind which the statement's own end stands
record OuterHere (out : Env) (kept line : ℕ) (k : StmtKind) (others : List Item) (s : Spot) (round : List Path) (i : Item)
    (mine : List Item) : Type 0 where
  pub items_are : block_end kept line k ++ others ≡ i ∷ mine
  pub env_is : s.env ≡ out
  pub enters_are : s.enters ≡ round ++ entered_path k

-- what a statement's end leads to: the spot behind the statement, or that in front of it again
record Behind (classes : List Class) (result : Option Ty) (env mid : Env) (line : ℕ) (k : StmtKind) (b : Block) (after : List Item)
    (round : List Path)
    (s : Spot) (i : Item) (mine : List Item) : Type 0 where
  pub point : Point
  pub to : Env
  pub spot_is : spot_in classes result env (next (stmt line k) b) after round point ≡ Some (record { env = to; items = mine; enters = round })
  pub closes : Closes i to round s
  pub left : Begins mine

behind-branch : (classes : List Class) (result : Option Ty) (env mid front out : Env) (line : ℕ) (e : Expr) (c : Block) (other : Else) (b : Block)
    (after : List Item) (round : List Path) (s : Spot) (i : Item) (mine : List Item) → Distinct env.entries →
    EndsWell (next (stmt line (branch e c other)) b) after →
    judge_kind classes (last_of result b) line env (branch e c other) ≡ Ok mid → Stays env front → Goes front out →
    OuterHere out (length env.entries) line (branch e c other) (items_of b after) s round i mine →
    Behind classes result env mid line (branch e c other) b after round s i mine
behind-branch classes result env mid front out line e c other b after round s i mine d w h f g o =
    let p = branch-parts classes (last_of result b) line env mid e c other h in
    let t = branch-stays classes line env mid e c other d p in
    let is : (EndAt (length env.entries) ≡ i) × (items_of b after ≡ mine) = let q = o.items_are in (grind arith, grind arith) in
    let there : spot_in classes result mid b after round here ≡ Some (record { env = mid; items = mine; enters = round }) = rw (← is.1) refl in
    rw (← is.0) (record {
      point = behind here;
      to = mid;
      spot_is = to_ok (judge_kind classes (last_of result b) line env (branch e c other)) mid (λ m. spot_in classes result m b after round here)
          _ h there;
      closes = branch-closes classes env front out mid round s (length env.entries) refl f g t o.env_is o.enters_are;
      left = let P : List Item → Type 0 = λ q. Begins q in subst P is.1 (first-left (branch e c other) b after refl w);
    })

behind-while : (classes : List Class) (result : Option Ty) (env mid front out : Env) (line : ℕ) (e : Expr) (c : Block) (b : Block)
    (after : List Item) (round : List Path) (s : Spot) (i : Item) (mine : List Item) → Stays env front → Goes front out →
    OuterHere out (length env.entries) line (while e c) (items_of b after) s round i mine →
    Behind classes result env mid line (while e c) b after round s i mine
behind-while classes result env mid front out line e c b after round s i mine f g o =
    let is : (EndAt (length env.entries) ≡ i) × (Do (stmt line (while e c)) ∷ items_of b after ≡ mine) = let q = o.items_are in
    (grind arith, grind arith) in
    rw (← is.0, ← is.1) (record {
      point = here;
      to = env;
      spot_is = refl;
      closes = branch-closes classes env front out env round s (length env.entries) refl f g (Stays-same env) o.env_is o.enters_are;
      left = record { first = Do (stmt line (while e c)); more = items_of b after; is = refl };
    })

-- only the same type is below a `mut` one
below-mut : (c : ℕ) (t : Ty) → below t (Ref Mut c) ≡ true → t ≡ Ref Mut c
below-mut c Int h = grind arith
below-mut c Bool h = grind arith
below-mut c (Ref cap d) h = by cap (and_parts (d == c) (below_cap cap Mut) h)
  where
    by : (cap : Cap) → ((d == c) ≡ true) × (below_cap cap Mut ≡ true) → Ref cap d ≡ Ref Mut c
    by Mut e = let q : d ≡ c = let x = e.0 in grind arith in ap (Ref Mut) q
    by Tmp e = let x = e.1 in grind arith
    by Paused e = let x = e.1 in grind arith
    by Imm e = let x = e.1 in grind arith
    by Iso e = let x = e.1 in grind arith

-- what is given at the end of a block
gives-at : (classes : List Class) (env front out : Env) (x : Variable) (fs : List Name) (z w : Name) → Distinct env.entries →
    judge_enter classes env x fs z ≡ Ok front → Goes front out → judge_giving out z (Some w) ≡ Ok tt → GivesAt (length env.entries) w out
gives-at classes env front out x fs z w d n g h =
    let e = bind-ok (ok_or (entry_of out (Some w)) Unknown) _ tt h in
    let b = bind-ok (ok_or (entry_of out (Some z)) Unknown) _ tt e.2 in
    let s = test-ok (same_type (seen_type out e.0) b.0.ty) Mismatch tt b.2 in
    let i = judge_enter-bridge classes env front x fs z n in
    let at = Keeps-at front.entries out.entries (length env.entries) i.entry g.keeps i.there in
    let name : at.0.name ≡ Some z = ap (λ (q : Entry). q.name) at.2 ∙ i.name in
    let found = distinct-find (Some z) out.entries (length env.entries) at.0 g.distinct at.1 name in
    let one : b.0 ≡ at.0 = same_Some b.0 at.0 (sym (ok_or-ok (entry_of out (Some z)) Unknown b.0 b.1) ∙ found) in
    let bridge : at.0.ty ≡ Ref Mut i.class = ap (λ (q : Entry). q.ty) at.2 ∙ i.type_is in
    let P : Ty → Type 0 = λ q. below (seen_type out e.0) q ≡ true in
    let both = and_parts (below (seen_type out e.0) b.0.ty) (below b.0.ty (seen_type out e.0)) s in
    record {
      entry = e.0;
      there = ok_or-ok (entry_of out (Some w)) Unknown e.0 e.1;
      bridge = at.0;
      bridge_at = at.1;
      class = i.class;
      bridge_is = bridge;
      type_is = below-mut i.class (seen_type out e.0) (subst P (ap (λ (q : Entry). q.ty) one ∙ bridge) both.0);
    }

behind-enter : (classes : List Class) (result : Option Ty) (env mid front out : Env) (line : ℕ) (p : Path) (z : Name) (c : Block)
    (giving : Option Name) (b : Block)
    (after : List Item) (round : List Path) (s : Spot) (i : Item) (mine : List Item) → Distinct env.entries →
    EndsWell (next (stmt line (enter p z c giving)) b) after →
    judge_kind classes (last_of result b) line env (enter p z c giving) ≡ Ok mid → judge_enter classes env p.base p.fields z ≡ Ok front →
    Goes front out →
    judge_block classes None front c ≡ Ok out →
    OuterHere out (length env.entries) line (enter p z c giving) (items_of b after) s round i mine →
    Behind classes result env mid line (enter p z c giving) b after round s i mine
behind-enter classes result env mid front out line p z c giving b after round s i mine d w h n g j o =
    let f = bind-ok (at_line line (judge_enter classes env p.base p.fields z)) _ mid h in
    let a = bind-ok (judge_block classes None f.0 c) _ mid f.2 in
    let v = then-ok (at_line line (judge_giving a.0 z giving)) _ mid a.2 in
    let is_mid : left p.base p.fields (closed env a.0) ≡ mid = let q = v.2 in grind arith in
    let m = at_line-ok line (judge_enter classes env p.base p.fields z) f.0 f.1 in
    let inner = judge_enter-inner classes env f.0 p.base p.fields z d m in
    let k = judge_block-goes classes None f.0 a.0 c inner.distinct a.1 in
    let t : Stays env mid = rw (← is_mid) (left-stays classes env f.0 a.0 p.base p.fields z d m k.keeps) in
    let same_front : f.0 ≡ front = let q : ◌≡◌ {A = Answer Env} (Ok f.0) (Ok front) = sym m ∙ n in grind arith in
    let J : Env → Type 0 = λ q. judge_block classes None q c ≡ Ok a.0 in
    let same_out : a.0 ≡ out = let q : ◌≡◌ {A = Lined Env} (Ok a.0) (Ok out) = sym (subst J same_front a.1) ∙ j in grind arith in
    let K : Env → Type 0 = λ q. judge_giving q z giving ≡ Ok tt in
    let given = subst K same_out (at_line-ok line (judge_giving a.0 z giving) tt v.1) in
    let is : (leave_of line (length env.entries) giving ≡ i) × (items_of b after ≡ mine) = let q = o.items_are in (grind arith, grind arith) in
    let there : spot_in classes result mid b after round here ≡ Some (record { env = mid; items = mine; enters = round }) = rw (← is.1) refl in
    rw (← is.0) (record {
      point = behind here;
      to = mid;
      spot_is = to_ok (judge_kind classes (last_of result b) line env (enter p z c giving)) mid (λ q. spot_in classes result q b after round here)
          _ h there;
      closes = closes giving given
          (leave-closes classes env front out p mid round s (length env.entries) refl
          (judge_enter-inner classes env front p.base p.fields z d n) g t o.env_is o.enters_are (free-before p.base p.fields n)) o.env_is g;
      left = let P : List Item → Type 0 = λ q. Begins q in subst P is.1 (first-left (enter p z c giving) b after refl w);
    })
  where
    closes : (giving : Option Name) → judge_giving out z giving ≡ Ok tt → LeavesAt (length env.entries) mid round s → s.env ≡ out → Goes front out →
        Closes (leave_of line (length env.entries) giving) mid round s
    closes None q l e g = l
    closes (Some w) q l e g =
        let P : Env → Type 0 = λ y. GivesAt (length env.entries) w y in
        (l, subst P (sym e) (gives-at classes env front out p.base p.fields z w d n g q))

    ready_is : (q : Readiness) → is_ready q ≡ true → is_lent q ≡ false
    ready_is ready e = refl
    ready_is gone e = refl
    ready_is lent e = grind arith

    free-before : (x : Variable) (fs : List Name) → judge_enter classes env x fs z ≡ Ok front → IsFreed x fs env
    free-before x [] n = λ e at.
        let q = judge_enter-variable classes env front x z n in
        let same : ◌≡◌ {A = Option Entry} (Some q.entry) (Some e) = sym q.there ∙ at in
        let one : q.entry ≡ e = grind arith in
        let P : Entry → Type 0 = λ o. is_lent o.readiness ≡ false in subst P one (ready_is q.entry.readiness q.ready)
    free-before x (f ∷ fs) n = tt

outer-behind : (classes : List Class) (result : Option Ty) (env mid : Env) (line : ℕ) (k : StmtKind) (b : Block) (after : List Item)
    (round : List Path)
    (s : Spot) (i : Item) (mine : List Item) (side : Side) (q : Opened) (out : Env) → Distinct env.entries → EndsWell (next (stmt line k) b) after →
    judge_kind classes (last_of result b) line env k ≡ Ok mid → inner_block classes env k side ≡ Some q →
    judge_block classes None q.env q.block ≡ Ok out →
    OuterHere out (length env.entries) line k (items_of b after) s round i mine → Behind classes result env mid line k b after round s i mine
outer-behind classes result env mid line (branch t c other) b after round s i mine first q out d w h e j o =
    let p = opened-some (judge_test classes env t) c q e in
    let f = judge_test-stays classes env q.env t d p.0 in
    behind-branch classes result env mid q.env out line t c other b after round s i mine d w h f
    (judge_block-goes classes None q.env out q.block (Stays-distinct env q.env d f) j) o
outer-behind classes result env mid line (branch t c no_else) b after round s i mine second q out d w h e j o = grind arith
outer-behind classes result env mid line (branch t c (otherwise x)) b after round s i mine second q out d w h e j o =
    let p = opened-some (judge_test classes env t) x q e in
    let f = judge_test-stays classes env q.env t d p.0 in
    behind-branch classes result env mid q.env out line t c (otherwise x) b after round s i mine d w h f
    (judge_block-goes classes None q.env out q.block (Stays-distinct env q.env d f) j) o
outer-behind classes result env mid line (while t c) b after round s i mine first q out d w h e j o =
    let p = opened-some (judge_test classes env t) c q e in
    let f = judge_test-stays classes env q.env t d p.0 in
    behind-while classes result env mid q.env out line t c b after round s i mine f
    (judge_block-goes classes None q.env out q.block (Stays-distinct env q.env d f) j) o
outer-behind classes result env mid line (while t c) b after round s i mine second q out d w h e j o = grind arith
outer-behind classes result env mid line (enter p z c giving) b after round s i mine first q out d w h e j o =
    let n = opened-some (judge_enter classes env p.base p.fields z) c q e in
    let f = judge_enter-inner classes env q.env p.base p.fields z d n.0 in
    let block : judge_block classes None q.env c ≡ Ok out = rw (← n.1) j in
    behind-enter classes result env mid q.env out line p z c giving b after round s i mine d w h n.0
    (judge_block-goes classes None q.env out q.block f.distinct j) block o
outer-behind classes result env mid line (enter p z c giving) b after round s i mine second q out d w h e j o = grind arith
outer-behind classes result env mid line _ b after round s i mine side q out d w h e j o = grind arith

do-not_end : {B : Type 0} (t : Stmt) (rest : List Item) (i : Item) (mine : List Item) → Do t ∷ rest ≡ i ∷ mine → IsEnd i → B
do-not_end t rest i mine e h = let one : Do t ≡ i = grind arith in let P : Item → Type 0 = λ q. IsEnd q in absurd (subst P (sym one) h)

-- at a spot whose first item ends a block: it is the end of this block, or of an inner one, behind which there is a spot
pub spot-end : (classes : List Class) (result : Option Ty) (env out : Env) (b : Block) (after : List Item) (round : List Path) (p : Point) (s : Spot)
    (i : Item) (mine : List Item) → Distinct env.entries → EndsWell b after → IsEnd i → judge_block classes result env b ≡ Ok out →
    spot_in classes result env b after round p ≡ Some s → s.items ≡ i ∷ mine →
    EndsOuter out after round s i mine ⊎ EndsInner classes result env b after round s i mine
spot-end classes result env out none after round here s i mine d w n h e at =
    let same : record { env = env; items = after; enters = round } ≡ s = grind arith in
    let o : env ≡ out = grind arith in
    inl (record {
      after_is = ap (λ (x : Spot). x.items) same ∙ at;
      env_is = sym (ap (λ (x : Spot). x.env) same) ∙ o;
      enters_are =
          sym (ap (λ (x : Spot). x.enters) same);
    })
spot-end classes result env out (next u b) after round here s i mine d w n h e at =
    let same : record { env = env; items = Do u ∷ items_of b after; enters = round } ≡ s = grind arith in
    do-not_end u (items_of b after) i mine (ap (λ (x : Spot). x.items) same ∙ at) n
spot-end classes result env out none after round (behind p) s i mine d w n h e at = grind arith
spot-end classes result env out (next u b) after round (behind p) s i mine d w n h e at =
    let m = bind-ok (judge_stmt classes (last_of result b) env u) _ out h in
    let g = judge_stmt-goes classes (last_of result b) env m.0 u d m.1 in
    let a = from_ok (judge_stmt classes (last_of result b) env u) m.0 (λ mid. spot_in classes result mid b after round p) s m.1 e in
    elim (spot-end classes result m.0 out b after round p s i mine g.distinct (rest-well u b w m.0 a) n m.2 a at) [
      | inl o ↦ inl o
      | inr r ↦ inr (record {
        point = behind r.point;
        to = r.to;
        enters = r.enters;
        spot_is = to_ok (judge_stmt classes (last_of result b) env u) m.0 (λ mid. spot_in classes result mid b after round r.point) _ m.1 r.spot_is;
        closes = r.closes;
        left = r.left;
      })
    ]
  where
    rest-well : (u : Stmt) (b : Block) → EndsWell (next u b) after → (mid : Env) → spot_in classes result mid b after round p ≡ Some s →
        EndsWell b after
    rest-well (stmt line k) b w mid a = elim (rest-ends k b after w) [
      | inl well ↦ well
      | inr nothing ↦
          let at_end : spot_in classes result mid none after round p ≡ Some s = rw (← nothing) a in
          no_point classes result mid after round p s i mine at_end at (λ g. inl g)
    ]
spot-end classes result env out none after round (inside side p) s i mine d w n h e at = grind arith
spot-end classes result env out (next (stmt line k) b) after round (inside side p) s i mine d w n h e at =
    let m = bind-ok (judge_kind classes (last_of result b) line env k) _ out h in
    let a = and_then-some (inner_block classes env k side) _ s e in
    let j = inner_block-judged classes (last_of result b) line env k side a.0 m.0 m.1 a.1 in
    let f = inner-spot classes env k side a.0 d a.1 in
    elim (spot-end classes None a.0.env j.0 a.0.block (block_end (length env.entries) line k ++ items_of b after) (round ++ entered_path k)
    p s i mine f.distinct (inl (block_end-begins classes env (length env.entries) line k side a.0 (items_of b after) a.1)) n j.1 a.2 at) [
      | inl o ↦
          let r = outer-behind classes result env m.0 line k b after round s i mine side a.0 j.0 d w m.1 a.1 j.1
          (record { items_are = o.after_is; env_is = o.env_is; enters_are = o.enters_are }) in
          inr (record { point = r.point; to = r.to; enters = round; spot_is = r.spot_is; closes = r.closes; left = r.left })
      | inr r ↦
          let later : Opened → Option Spot = λ x. spot_in classes None x.env x.block (block_end (length env.entries) line k ++ items_of b after)
          (round ++ entered_path k) r.point in
          inr (record { point = inside side r.point; to = r.to; enters = r.enters; spot_is = rw a.1 r.spot_is; closes = r.closes; left = r.left })
    ]
