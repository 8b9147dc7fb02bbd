-- One statement of a block more, its end, and the window of which a block is the body.
use Rattle.std.proofs.Common.{◌≡◌, refl, sym, ap, ◌∙◌, ℕ, ◌+◌, ◌≤◌, List, [], ◌∷◌, ◌++◌, length, take, drop, get_or, Option, Some}
use Rattle.std.proofs.Common.{◌<◌, append_assoc, length-append, arith}
use Rattle.std.proofs.lemmas.List.{take-take, map-append, drop_more, drop_all}
use Rattle.rg_tree.specs.Tree.{Name, Path, Stmt, stmt, Block, then as next, Class}
use Rattle.rg_tree.specs.Rows.Tables.{Tables, name_at}
use Rattle.rg_tree.specs.Rows.RowTrees.{classes_of, path_of, stmt_at, block_over}
use Rattle.rg_base.specs.declared.ty.Ty.{Ty}
use Rattle.rg_base.specs.declared.ty.Ty.TheVariants as ty
use Rattle.rg_base.specs.declared.words.Cap.TheVariants as cap
use Rattle.rg_tree.specs.declared.rows.Path.{Path as PathRow}
use Rattle.rg_code.specs.declared.op.Op.{Op}
use Rattle.rg_code.specs.declared.op.Op.TheVariants as i
use Rattle.rg_code.specs.Code.{Code, with_op}
use Rattle.rg_code.specs.Lowering.{Scope, class_of, type_along, type_in, enter_code, scope_inside, scope_at_end, leave_op, block_code}
use Rattle.rg_lower.specs.declared.slots.Held.{Held}
use Rattle.rg_lower.specs.Inner.Slots.{slot_of_row, scope_of}
use Rattle.rg_lower.specs.Inner.Emitted.{with_ops}
use Rattle.rg_lower.specs.Inner.Statements.{stmt_code, scope_after, window_code, IsAtEnd, IsBehind}
use Rattle.rg_lower.proofs.Codes.{with_ops-none, with_ops-then, emitted-then}
use Rattle.rg_lower.proofs.BlockSteps.{BlockUpTo, kept-count, kept-outside}

block_code-next : (cs : List Class) (sc : Scope) (at : ℕ) (s : Stmt) (b : Block) → block_code cs sc at (next s b)
    ≡ stmt_code cs sc at s ++ block_code cs (scope_after cs sc s) (at + length (stmt_code cs sc at s)) b
block_code-next cs sc at (stmt line k) b = refl

scope_at_end-next : (cs : List Class) (sc : Scope) (s : Stmt) (b : Block) →
    scope_at_end cs sc (next s b) ≡ scope_at_end cs (scope_after cs sc s) b
scope_at_end-next cs sc (stmt line k) b = refl

-- one statement more
block-next : (t : Tables) (front : List Held) (old : Code) (these : List ℕ) (held after : List Held) (code new : Code) (n : ℕ) (rest : List ℕ) →
    BlockUpTo t front old these held code (n ∷ rest) → IsBehind t held after (stmt_at t n) →
    new ≡ with_ops code (stmt_code (classes_of t) (scope_of t held) (length code.ops) (stmt_at t n)) → BlockUpTo t front old these after new rest
block-next t front old these held after code new n rest u b w =
    let first : List Op = stmt_code (classes_of t) (scope_of t held) (length code.ops) (stmt_at t n) in
    let others : Block = block_over (stmt_at t) rest in
    let longer : length new.ops ≡ length code.ops + length first = rw w (length-append code.ops first) in
    let within : length front ≤ length held = kept-count front held u.kept in
    record {
      code_is = rw (b.scope, longer, w) (with_ops-then code first _
          ∙ ap (with_ops code) (sym (block_code-next (classes_of t) (scope_of t held) (length code.ops) (stmt_at t n) others)) ∙ u.code_is);
      scope_is = rw b.scope (sym (scope_at_end-next (classes_of t) (scope_of t held) (stmt_at t n) others) ∙ u.scope_is);
      kept = sym (take-take (length front) (length held) after within) ∙ ap (take (length front)) b.kept ∙ u.kept;
      held_in = b.held;
      room = omega (arith, b.few, u.room);
    }

pub block-turn : (t : Tables) (front : List Held) (old : Code) (these : List ℕ) (held after : List Held) (code new : Code) (i : ℕ) →
    i < length these → BlockUpTo t front old these held code (drop i these) → IsBehind t held after (stmt_at t (get_or these i 0)) →
    new ≡ with_ops code (stmt_code (classes_of t) (scope_of t held) (length code.ops) (stmt_at t (get_or these i 0))) →
    BlockUpTo t front old these after new (drop (i + 1) these)
block-turn t front old these held after code new i l u b w =
    block-next t front old these held after code new (get_or these i 0) (drop (i + 1) these) (rw (drop_more these i 0 l) at u) b w

-- none is left
pub block-all : (t : Tables) (front : List Held) (old : Code) (these ns : List ℕ) (held : List Held) (code : Code) (i : ℕ) →
    length these ≤ i → these ≡ ns → BlockUpTo t front old these held code (drop i these) →
    code ≡ with_ops old (block_code (classes_of t) (scope_of t front) (length old.ops) (block_over (stmt_at t) ns))
block-all t front old these ns held code i l e u =
    let v = rw (drop_all i these l) at u in
    let w = sym (with_ops-none code) ∙ v.code_is in rw (← e) w

pub block-at-end : (t : Tables) (front : List Held) (old : Code) (these ns : List ℕ) (held : List Held) (code : Code) (i : ℕ) →
    length these ≤ i → these ≡ ns → BlockUpTo t front old these held code (drop i these) → IsAtEnd t front held (block_over (stmt_at t) ns)
block-at-end t front old these ns held code i l e u =
    let v = rw (drop_all i these l) at u in rw (← e) (record { scope = v.scope_is; kept = v.kept; held = v.held_in })

-- behind the body of a window: the variables in front of the bridge are the same
pub kept-behind : (front inside held : List Held) (x : Held) → inside ≡ front ++ x ∷ [] → take (length inside) held ≡ inside →
    take (length front) held ≡ front
kept-behind front inside held x e k = kept-outside front held x (rw e at k)

-- the variables in front of the body of a window
pub inside-is : (t : Tables) (held inside : List Held) (p : PathRow) (z : ℕ) (y : Ty) → inside ≡ held ++ record { name = Some z; ty = y } ∷ [] →
    y ≡ ty.Ref cap.Mut (class_of (classes_of t) (type_along (classes_of t) (type_in (scope_of t held) (path_of t p).base) (path_of t p).fields)) →
    scope_of t inside ≡ scope_inside (classes_of t) (scope_of t held) (path_of t p) (name_at t z)
inside-is t held inside p z y h e = rw (h, e) (map-append (slot_of_row t) held _)

-- a window with its body and its end
pub over-window : (cs : List Class) (sc inside last : Scope) (old entered within marked new : Code) (line first : ℕ) (p : Path) (z : Name)
    (b : Block) (giving : Option Name) → entered ≡ with_ops old (enter_code cs sc p.base p.fields) → inside ≡ scope_inside cs sc p z →
    within ≡ with_ops entered (block_code cs inside (length entered.ops) b) → last ≡ scope_at_end cs inside b → first ≡ length sc →
    marked ≡ with_op within (i.Mark line) → new ≡ with_op marked (leave_op last first giving) →
    new ≡ with_ops old (window_code cs sc (length old.ops) line p z b giving)
over-window cs sc inside last old entered within marked new line first p z b giving e s d l f m n =
    let front : List Op = enter_code cs sc p.base p.fields in
    let here : Scope = scope_inside cs sc p z in
    let d' : within ≡ with_ops old (front ++ block_code cs here (length old.ops + length front) b) =
    emitted-then old entered within front (λ at. block_code cs here at b) e (rw s at d) in
    rw (n, m, d', l, s, f) (ap (λ (ops : List Op). record old { ops = ops })
    (parts old.ops front (block_code cs here (length old.ops + length front) b) (i.Mark line) (leave_op (scope_at_end cs here b) (length sc) giving)))
  where
    parts : (o a b : List Op) (x y : Op) → ((o ++ (a ++ b)) ++ x ∷ []) ++ y ∷ [] ≡ o ++ (a ++ (b ++ x ∷ y ∷ []))
    parts o a b x y = simp append_assoc refl
