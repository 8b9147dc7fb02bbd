-- Behind the end of a frame the code is calm.
use Rattle.std.proofs.Common.{◌≡◌, false, ℕ, ◌+◌, true, true≢false, ◌⊎◌, inl, inr, List, [], ◌∷◌, ◌++◌, length, drop, take, Option, Some, None}
use Rattle.std.proofs.Common.{refl, sym}
use Rattle.std.proofs.Common.{ap, subst, ◌∙◌, arith, slice_get}
use Rattle.std.proofs.lemmas.List.{drop-drop}
use Rattle.std.specs.Result.{result_ok}
use Rattle.rg_base.specs.declared.ty.Ty.{Ty}
use Rattle.rg_tree.specs.Tree.{Path, Ty as Written, stmt, Stmt, StmtKind, declare, return}
use Rattle.rg_tree.specs.Tree.{Block, empty as none, then as more_of, Method, Class, Tree}
use Rattle.rg_rules.specs.Acceptance.{Accepted}
use Rattle.rg_rules.specs.Types.{type_of, method_named}
use Rattle.rg_rules.specs.Environment.{Env}
use Rattle.rg_rules.specs.Items.{Item, Do, EndAt, LeaveAt, LeaveGiving, Back, items_of}
use Rattle.rg_rules.specs.Statements.{judge_stmt, last_of}
use Rattle.rg_rules.specs.Bodies.{is_return, last_is_return, ends_in_return, gives_result, method_body, method_end}
use Rattle.rg_rules.specs.Points.{Point, here, behind, inside, Spot, Opened, Side, spot_in, spot_at, inner_block, block_end, entered_path}
use Rattle.rg_rules.specs.State.{Target, Declares, Assigns, Drops, Frame, Window}
use Rattle.rg_rules.proofs.Acceptance.{Accepted-method}
use Rattle.rg_rules.proofs.Point.{and_then-some}
use Rattle.rg_sound.specs.Frames.{Waits, WaitsEmpty, Running}
use Rattle.rg_code.specs.declared.op.Op.{Op}
use Rattle.rg_code.specs.declared.op.Op.TheVariants as i
use Rattle.rg_code.specs.Lowering.{with_slot, scope_behind, assign_op}
use Rattle.rg_code.specs.Places.{is_drop, Level, TakesResult, Lies}
use Rattle.rg_stack.specs.Left.{SomeLeft}
use Rattle.rg_stack.specs.Refusals.{calm}
use Rattle.rg_stack.proofs.Callers.Mark.{drop-stands, first-drop}
use Rattle.rg_stack.proofs.Callers.Left.{spot-ends, left-back, beneath-left}
use Rattle.rg_stack.proofs.Refusals.Order.{calm-assign}
use Rattle.rg_stack.proofs.Refusals.Kind.{calm-lies}

-- a statement in front of others, where one of them leaves the frame
abbrev ByKind : StmtKind → (last rest : Type 0) → Type 0
ByKind (return e) last rest = last
ByKind _ last rest = rest

-- one of these items leaves the frame
abbrev pub Leaves : List Item → Type 0
Leaves [] = ⊥
Leaves (Do (stmt line k) ∷ rest) = ByKind k (Unit {0}) (Leaves rest)
Leaves (Back ∷ rest) = Unit {0}
Leaves (_ ∷ rest) = Leaves rest

-- and others stand behind it
abbrev pub LeavesOn : List Item → Type 0
LeavesOn [] = ⊥
LeavesOn (Do (stmt line k) ∷ rest) = ByKind k (SomeLeft rest) (LeavesOn rest)
LeavesOn (Back ∷ rest) = SomeLeft rest
LeavesOn (_ ∷ rest) = LeavesOn rest

by_kind : (k : StmtKind) (A B C D : Type 0) → (A → C) → (B → D) → ByKind k A B → ByKind k C D
by_kind (return e) A B C D f g h = f h
by_kind _ A B C D f g h = g h

leaves-on : (xs rest : List Item) → Leaves xs → SomeLeft rest → LeavesOn (xs ++ rest)
leaves-on [] rest h s = absurd h
leaves-on (Do (stmt line k) ∷ xs) rest h s = by_kind k (Unit {0}) (Leaves xs) (SomeLeft (xs ++ rest)) (LeavesOn (xs ++ rest))
    (λ u. left-back xs rest s) (λ l. leaves-on xs rest l s) h
leaves-on (Back ∷ xs) rest h s = left-back xs rest s
leaves-on (_ ∷ xs) rest h s = leaves-on xs rest h s

kind_leaves : (k : StmtKind) (A : Type 0) → A → ByKind k (Unit {0}) A
kind_leaves k A a = by_kind k A A (Unit {0}) A (λ x. tt) (λ x. x) (same k)
  where
    same : (k : StmtKind) → ByKind k A A
    same (return e) = a
    same _ = a

leaves-back : (xs ys : List Item) → Leaves ys → Leaves (xs ++ ys)
leaves-back [] ys h = h
leaves-back (Do (stmt line k) ∷ xs) ys h = kind_leaves k (Leaves (xs ++ ys)) (leaves-back xs ys h)
leaves-back (Back ∷ xs) ys h = tt
leaves-back (_ ∷ xs) ys h = leaves-back xs ys h

-- a body that ends in `return`

return_leaves : (k : StmtKind) (A : Type 0) → is_return k ≡ true → ByKind k (Unit {0}) A
return_leaves (return c) A e = tt
return_leaves _ A e = absurd (true≢false (sym e))

items_leave : (line : ℕ) (k : StmtKind) (b : Block) → last_is_return k b ≡ true → Leaves (Do (stmt line k) ∷ items_of b [])
items_leave line k none e = return_leaves k (Leaves []) e
items_leave line k (more_of (stmt later other) b) e = kind_leaves k (Leaves (items_of (more_of (stmt later other) b) []))
    (items_leave later other b e)

block_leaves : (b : Block) → ends_in_return b ≡ true → Leaves (items_of b [])
block_leaves none e = absurd (true≢false (sym e))
block_leaves (more_of (stmt line k) b) e = items_leave line k b e

-- a statement with a block isn't a `return`, so others stand behind it
behind_inner : (classes : List Class) (env : Env) (k : StmtKind) (side : Side) (o : Opened) (b : Block) → inner_block classes env k side ≡ Some o
    → last_is_return k b ≡ true → ends_in_return b ≡ true
behind_inner classes env k side o (more_of (stmt line other) b) is e = e
behind_inner classes env (return c) side o none is e = grind arith
behind_inner classes env _ side o none is e = absurd (true≢false (sym e))

spot-leaves : (classes : List Class) (result : Option Ty) (env : Env) (b : Block) (round : List Path) (p : Point) (s : Spot) → ends_in_return b
    ≡ true → spot_in classes result env b [] round p ≡ Some s → SomeLeft s.items → Leaves s.items
spot-leaves classes result env b round here s e is left =
    let same : record { env = env; items = items_of b []; enters = round } ≡ s = grind arith in
    subst (λ (s : Spot). Leaves s.items) same (block_leaves b e)
spot-leaves classes result env none round (behind p) s e is left = grind arith
spot-leaves classes result env none round (inside side p) s e is left = grind arith
spot-leaves classes result env (more_of (stmt line k) none) round (behind p) s e is left =
    let m = and_then-some (result_ok (judge_stmt classes (last_of result none) env (stmt line k)))
    (λ mid. spot_in classes result mid none [] round p) s is in
    nothing p m.0 m.2
  where
    nothing : (p : Point) (mid : Env) → spot_in classes result mid none [] round p ≡ Some s → Leaves s.items
    nothing here mid is =
        let same : record { env = mid; items = []; enters = round } ≡ s = grind arith in
        absurd (subst (λ (s : Spot). SomeLeft s.items) (sym same) left)
    nothing (behind p) mid is = grind arith
    nothing (inside side p) mid is = grind arith
spot-leaves classes result env (more_of (stmt line k) (more_of u b)) round (behind p) s e is left =
    let m = and_then-some (result_ok (judge_stmt classes (last_of result (more_of u b)) env (stmt line k)))
    (λ mid. spot_in classes result mid (more_of u b) [] round p) s is in
    spot-leaves classes result m.0 (more_of u b) round p s (later u b e) m.2 left
  where
    later : (u : Stmt) (b : Block) → last_is_return k (more_of u b) ≡ true → ends_in_return (more_of u b) ≡ true
    later (stmt other_line other) b e = e
spot-leaves classes result env (more_of (stmt line k) b) round (inside side p) s e is left =
    let o = and_then-some (inner_block classes env k side) _ s is in
    let after = block_end (length env.entries) line k ++ items_of b [] in
    let h = spot-ends classes None o.0.env o.0.block after (round ++ entered_path k) p s o.2 in
    subst Leaves (sym h.1) (leaves-back h.0 after (leaves-back (block_end (length env.entries) line k) (items_of b [])
    (block_leaves b (behind_inner classes env k side o.0 b o.1 e))))

-- the items of a method that is left to run leave its frame
method_leaves : (t : Tree) (c : ℕ) (m : Method) (r : Option Written) → r ≡ m.result → gives_result r m.body ≡ true → (p : Point) (s : Spot)
    → spot_in t.classes (elim r [ None ↦ None | Some w ↦ Some (type_of t.classes w) ]) (method_body t.classes c m).front m.body (method_end r) [] p
    ≡ Some s → SomeLeft s.items → Leaves s.items
method_leaves t c m None same gives p s is left =
    let h = spot-ends t.classes None (method_body t.classes c m).front m.body (Back ∷ []) [] p s is in
    subst Leaves (sym h.1) (leaves-back h.0 (Back ∷ []) tt)
method_leaves t c m (Some w) same gives p s is left = spot-leaves t.classes (Some (type_of t.classes w)) (method_body t.classes c m).front m.body []
    p s gives is left

-- what lies behind a call is calm

drop_calm : (code os rest : List Op) → is_drop (slice_get os 0) ≡ true → drop 1 os ≡ rest → calm code false rest ≡ true → calm code false os ≡ true
drop_calm code [] rest e is h = refl
drop_calm code (i.Pop ∷ os) rest e is h = ap (calm code false) is ∙ h
drop_calm code (i.Drop ∷ os) rest e is h = ap (calm code false) is ∙ h
drop_calm code (o ∷ os) rest e is h = absurd (true≢false (sym e))

taken_calm : (classes : List Class) (code : List Op) (target : Target) (back : ℕ) (ls : List Level) (j : Item) (rest : List Item)
    → TakesResult code target back ls (λ levels here. Lies classes code levels (j ∷ rest) here) → calm code false (drop back code) ≡ true
taken_calm classes code target back [] j rest h = absurd h
taken_calm classes code (Declares x t) back (l ∷ ls) j rest h = ap (calm code false) (drop-stands code back (i.Store (length l.scope) ∷ []) h.0.0)
    ∙ calm-lies classes code (record l { scope = with_slot l.scope (Some x) t } ∷ ls) j rest (back + 1) h.1
taken_calm classes code (Assigns x) back (l ∷ ls) j rest h =
    ap (calm code false) (drop-stands code back (assign_op l.scope x ∷ []) h.0.0)
    ∙ calm-assign code l.scope x (drop (back + 1) code) (calm-lies classes code (l ∷ ls) j rest (back + 1) h.1)
taken_calm classes code Drops back (l ∷ ls) j rest h =
    drop_calm code (drop back code) (drop (back + 1) code) (ap is_drop (first-drop code back) ∙ h.0) (drop-drop 1 back code)
    (calm-lies classes code (l ∷ ls) j rest (back + 1) h.1)

pub calm-back : (classes : List Class) (code : List Op) (items : List Item) (l : Level) (ls : List Level) (at : ℕ) → LeavesOn items
    → Lies classes code (l ∷ ls) items at → calm code false (drop l.back code) ≡ true
calm-back classes code [] l ls at leaves h = absurd leaves
calm-back classes code (Do (stmt line (declare x t r)) ∷ rest) l ls at leaves h = calm-back classes code rest
    (record l { scope = scope_behind classes l.scope (declare x t r) }) ls _ leaves h.1
calm-back classes code (Do (stmt line (return e)) ∷ []) l ls at leaves h = absurd leaves
calm-back classes code (Do (stmt line (return e)) ∷ j ∷ rest) l ls at leaves h = taken_calm classes code l.target l.back ls j rest h.1
calm-back classes code (Do (stmt line _) ∷ rest) l ls at leaves h = calm-back classes code rest l ls _ leaves h.1
calm-back classes code (EndAt k ∷ rest) l ls at leaves h = calm-back classes code rest (record l { scope = take k l.scope }) ls _ leaves h.2
calm-back classes code (LeaveAt k ∷ rest) l ls at leaves h = calm-back classes code rest (record l { scope = take k l.scope }) ls _ leaves h.2
calm-back classes code (LeaveGiving line k w ∷ rest) l ls at leaves h =
    calm-back classes code rest (record l { scope = take k l.scope }) ls _ leaves h.1
calm-back classes code (Back ∷ []) l ls at leaves h = absurd leaves
calm-back classes code (Back ∷ j ∷ rest) l ls at leaves h = calm-lies classes code ls j rest l.back h.3

-- the items of a running body above another leave its frame

pub running-leaves : (t : Tree) → Accepted t → (top f : Frame) (fs : List Frame) (ws : List Window) (items : List Item)
    → Running t top (f ∷ fs) ws items → LeavesOn items
running-leaves t accepted top f fs ws items h =
    subst LeavesOn (sym (h.items_are ∙ ap (λ l. l ++ h.rest) (sym h.begins)))
    (leaves-on h.spot.items h.rest (by_call h.beneath.7) (beneath-left t f fs h.under h.rest h.body top.target h.beneath))
  where
    called : (c : ℕ) (x : List ℕ) (m : Method) → method_named t.classes c x ≡ Some m → h.body ≡ method_body t.classes c m → Leaves h.spot.items
    called c x m named is =
        method_leaves t c m m.result refl (Accepted-method t accepted c x m named).gives h.point h.spot
        (subst (λ b. spot_at t.classes b h.point ≡ Some h.spot) is h.spot_is) (subst SomeLeft (sym h.begins) tt)

    by_call : Waits t.classes h.beneath.0 f (length fs) h.beneath.1 h.beneath.3 h.body top.target
        ⊎ WaitsEmpty t h.beneath.0 f h.beneath.1 h.beneath.3 h.body top.target → Leaves h.spot.items
    by_call (inl w) = called w.calls.class w.calls.made.method w.calls.called w.calls.called_is w.calls.callee_is
    by_call (inr w) = called w.class w.name w.called w.called_is w.callee_is
