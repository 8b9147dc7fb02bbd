-- The walk along the statements of a body, and along the methods of a program.
use Rattle.std.proofs.Common.{◌≡◌, refl, sym, ap, ◌∙◌, subst, ℕ, suc, ◌+◌, ◌<◌, ◌≤◌, Bool as Truth, true, List, [], ◌∷◌, ◌++◌, length, map, take}
use Rattle.std.proofs.Common.{drop, get_or, min, Some, None, option_map, slice_get, length-append, arith}
use Rattle.std.proofs.lemmas.List.{append-nil, map-append, drop_more, drop_all, take-take, take-append-le, length-take}
use Rattle.std.proofs.Math.Seq.{take-length}
use Rattle.rg_base.proofs.Callers.Lists.{drop-here}
use Rattle.rg_base.specs.declared.ty.Ty.{Ty}
use Rattle.rg_base.specs.declared.ty.Ty.TheVariants as ty
use Rattle.rg_base.specs.declared.words.Cap.TheVariants as cap
use Rattle.rg_tree.specs.Tree.{Stmt, stmt, Block, then as next, Method, Member, field, method, Class}
use Rattle.rg_tree.specs.declared.rows.Path.{Path as PathRow}
use Rattle.rg_tree.specs.Rows.Tables.{Tables, name_at, numbers_in}
use Rattle.rg_tree.specs.declared.rows.MethodRow.{MethodRow}
use Rattle.rg_tree.specs.declared.rows.Span.{Span}
use Rattle.rg_tree.specs.Rows.RowTrees.{type_of, classes_of, path_of, stmt_at, block_over, block_of, param_at, method_of, member_at, program_of}
use Rattle.rg_code.specs.Lowering.{Scope, class_of, type_along, type_in, scope_inside, with_params, method_scope}
use Rattle.rg_build.specs.Maps.{block_maps, end_maps, is_end_marked, method_maps, members_maps, methods_maps, maps_of, types_in}
use Rattle.rg_build.specs.declared.slots.Held.{Held}
use Rattle.rg_build.specs.declared.laying.Laying.{Laying}
use Rattle.rg_build.specs.Inner.Slots.{slot_of_row, scope_of, types_held, AreHeldIn, scope_after, IsBehind}
use Rattle.rg_build.specs.Inner.Laid.{IsOpen, LaysOf, Lays, stmt_maps}
use Rattle.rg_build.proofs.LayingSteps.{lays-still, lays-more, lays-then, lays-last}

-- the types of variables are those of their slots
pub types-of : (t : Tables) (vs : List Held) → types_held vs ≡ types_in (scope_of t vs)
types-of t [] = refl
types-of t (v ∷ vs) = ap (λ (ts : List Ty). v.ty ∷ ts) (types-of t vs)

-- the marks of the statements in front of these have their maps
pub record WalkedTo (t : Tables) (marked : Truth) (front : List Held) (old : Laying) (these : List ℕ) (held : List Held) (now : Laying)
    (rest : List ℕ) : Type 0 where
  pub lays : LaysOf old now (block_maps (classes_of t) marked (scope_of t front) (block_over (stmt_at t) these))
      (block_maps (classes_of t) marked (scope_of t held) (block_over (stmt_at t) rest))
  pub kept : take (length front) held ≡ front
  pub held_in : AreHeldIn t held

pub walked-start : (t : Tables) (marked : Truth) (front : List Held) (old : Laying) (these : List ℕ) → IsOpen old → AreHeldIn t front →
    WalkedTo t marked front old these front old these
walked-start t marked front old these o h = record { lays = lays-still old _ o; kept = take-length front; held_in = h }

kept-count : (front held : List Held) → take (length front) held ≡ front → length front ≤ length held
kept-count front held k =
    let e : min (length front) (length held) ≡ length front = sym (length-take (length front) held) ∙ ap length k in omega (arith, e)

block_maps-next : (cs : List Class) (marked : Truth) (sc : Scope) (s : Stmt) (b : Block) →
    block_maps cs marked sc (next s b) ≡ stmt_maps cs sc s ++ block_maps cs marked (scope_after cs sc s) b
block_maps-next cs marked sc (stmt line k) b = refl

walked-next : (t : Tables) (marked : Truth) (front : List Held) (old : Laying) (these : List ℕ) (held after : List Held) (now new : Laying)
    (n : ℕ) (rest : List ℕ) → WalkedTo t marked front old these held now (n ∷ rest) → IsBehind t held after (stmt_at t n) →
    Lays now new (stmt_maps (classes_of t) (scope_of t held) (stmt_at t n)) → WalkedTo t marked front old these after new rest
walked-next t marked front old these held after now new n rest u b w =
    let cs = classes_of t in
    let others = block_over (stmt_at t) rest in
    let split : block_maps cs marked (scope_of t held) (next (stmt_at t n) others)
    ≡ stmt_maps cs (scope_of t held) (stmt_at t n) ++ block_maps cs marked (scope_of t after) others =
    block_maps-next cs marked (scope_of t held) (stmt_at t n) others
    ∙ ap (λ (sc : Scope). stmt_maps cs (scope_of t held) (stmt_at t n) ++ block_maps cs marked sc others) (sym b.scope) in
    record {
      lays = lays-more old now new _ (stmt_maps cs (scope_of t held) (stmt_at t n)) (block_maps cs marked (scope_of t after) others)
          (subst (LaysOf old now (block_maps cs marked (scope_of t front) (block_over (stmt_at t) these))) split u.lays) w;
      kept = sym (take-take (length front) (length held) after (kept-count front held u.kept)) ∙ ap (take (length front)) b.kept ∙ u.kept;
      held_in = b.held;
    }

-- one statement more
pub walked-turn : (t : Tables) (marked : Truth) (front : List Held) (old : Laying) (these : List ℕ) (held after : List Held) (now new : Laying)
    (i : ℕ) → i < length these → WalkedTo t marked front old these held now (drop i these) →
    IsBehind t held after (stmt_at t (get_or these i 0)) →
    Lays now new (stmt_maps (classes_of t) (scope_of t held) (stmt_at t (get_or these i 0))) →
    WalkedTo t marked front old these after new (drop (i + 1) these)
walked-turn t marked front old these held after now new i l u b w =
    walked-next t marked front old these held after now new (get_or these i 0) (drop (i + 1) these)
    (subst (WalkedTo t marked front old these held now) (drop_more these i 0 l) u) b w

-- no statement is left, and the end has its map
pub walked-all : (t : Tables) (marked : Truth) (front : List Held) (old : Laying) (these ns : List ℕ) (held : List Held) (now new : Laying)
    (i : ℕ) → length these ≤ i → these ≡ ns → WalkedTo t marked front old these held now (drop i these) →
    Lays now new (end_maps marked (scope_of t held)) →
    Lays old new (block_maps (classes_of t) marked (scope_of t front) (block_over (stmt_at t) ns))
walked-all t marked front old these ns held now new i l e u w =
    let v = subst (WalkedTo t marked front old these held now) (drop_all i these l) u in
    subst (λ (ks : List ℕ). Lays old new (block_maps (classes_of t) marked (scope_of t front) (block_over (stmt_at t) ks))) e
    (lays-last old now new _ _ v.lays w)

-- the variables in front of a block are those that are kept
pub walked-kept : (front held new : List Held) (n : ℕ) → n ≡ length front → take (length front) held ≡ front → new ≡ take n held → new ≡ front
walked-kept front held new n e k h = h ∙ ap (λ (m : ℕ). take m held) e ∙ k

pub walked-enough : (front held : List Held) (n : ℕ) → n ≡ length front → take (length front) held ≡ front → n ≤ length held
walked-enough front held n e k = let le = kept-count front held k in omega (arith, e, le)

-- the variables in front of the block of a window
pub inside-is : (t : Tables) (held inside : List Held) (p : PathRow) (z : ℕ) (y : Ty) → inside ≡ held ++ record { name = Some z; ty = y } ∷ [] →
    y ≡ ty.Ref cap.Mut (class_of (classes_of t) (type_along (classes_of t) (type_in (scope_of t held) (path_of t p).base) (path_of t p).fields)) →
    scope_of t inside ≡ scope_inside (classes_of t) (scope_of t held) (path_of t p) (name_at t z)
inside-is t held inside p z y h e = rw (h, e) (map-append (slot_of_row t) held _)

-- the type of its bridge, from the type of its variable and the fields behind that
pub bridge-is : (t : Tables) (held : List Held) (p : PathRow) (found owner y : Ty) (fields : List ℕ) →
    found ≡ type_in (scope_of t held) (path_of t p).base → owner ≡ type_along (classes_of t) found (map (name_at t) fields) →
    y ≡ ty.Ref cap.Mut (class_of (classes_of t) owner) → fields ≡ numbers_in t p.fields →
    y ≡ ty.Ref cap.Mut (class_of (classes_of t) (type_along (classes_of t) (type_in (scope_of t held) (path_of t p).base) (path_of t p).fields))
bridge-is t held p found owner y fields f o b n =
    let cs = classes_of t in
    b ∙ ap (λ (z : Ty). ty.Ref cap.Mut (class_of cs z)) (o ∙ ap (λ (z : Ty). type_along cs z (map (name_at t) fields)) f
    ∙ ap (λ (ks : List ℕ). type_along cs (type_in (scope_of t held) (path_of t p).base) (map (name_at t) ks)) n)

pub kept-outside : (front inside : List Held) (x : Held) (n : ℕ) → inside ≡ front ++ x ∷ [] → n ≡ length front → take n inside ≡ front
kept-outside front inside x n h e =
    rw (h, e) (take-append-le (length front) front (x ∷ []) (omega arith) ∙ take-length front)

pub inside-enough : (front inside : List Held) (x : Held) (n : ℕ) → inside ≡ front ++ x ∷ [] → n ≡ length front → n ≤ length inside
inside-enough front inside x n h e = let l = ap length h ∙ length-append front (x ∷ []) in omega (arith, e, l)

-- Methods

members_maps-cons : (cs : List Class) (c : ℕ) (m : Member) (ms : List Member) →
    members_maps cs c (m ∷ ms) ≡ members_maps cs c (m ∷ []) ++ members_maps cs c ms
members_maps-cons cs c (field f) ms = refl
members_maps-cons cs c (method m) ms = ap (λ (front : List (List Ty)). front ++ members_maps cs c ms) (sym (append-nil _))

-- one member more
pub members-turn : (t : Tables) (c : ℕ) (old now new : Laying) (these : List ℕ) (whole : List (List Ty)) (i : ℕ) (m : Member) → i < length these →
    LaysOf old now whole (members_maps (classes_of t) c (map (member_at t) (drop i these))) →
    m ≡ member_at t (get_or these i 0) → Lays now new (members_maps (classes_of t) c (m ∷ [])) →
    LaysOf old new whole (members_maps (classes_of t) c (map (member_at t) (drop (i + 1) these)))
members-turn t c old now new these whole i m l u e w =
    let rest = map (member_at t) (drop (i + 1) these) in
    let split : members_maps (classes_of t) c (map (member_at t) (drop i these))
    ≡ members_maps (classes_of t) c (m ∷ []) ++ members_maps (classes_of t) c rest =
    ap (λ (ks : List ℕ). members_maps (classes_of t) c (map (member_at t) ks)) (drop_more these i 0 l)
    ∙ members_maps-cons (classes_of t) c (member_at t (get_or these i 0)) rest
    ∙ ap (λ (k : Member). members_maps (classes_of t) c (k ∷ []) ++ members_maps (classes_of t) c rest) (sym e) in
    lays-more old now new whole _ _ (subst (LaysOf old now whole) split u) w

-- one class more
pub classes-turn : (cs : List Class) (old now new : Laying) (whole : List (List Ty)) (c : ℕ) (d : Class) (members : List Member) →
    slice_get cs c ≡ Some d → LaysOf old now whole (methods_maps cs c (drop c cs)) → members ≡ d.members →
    Lays now new (members_maps cs c members) → LaysOf old new whole (methods_maps cs (c + 1) (drop (c + 1) cs))
classes-turn cs old now new whole c d members g u e w =
    let one : c + 1 ≡ suc c = omega arith in
    let split : methods_maps cs c (drop c cs) ≡ members_maps cs c members ++ methods_maps cs (c + 1) (drop (c + 1) cs) =
    ap (methods_maps cs c) (drop-here cs c d g)
    ∙ ap (λ (ms : List Member). members_maps cs c ms ++ methods_maps cs (suc c) (drop (c + 1) cs)) (sym e)
    ∙ ap (λ (k : ℕ). members_maps cs c members ++ methods_maps cs k (drop (c + 1) cs)) (sym one) in
    lays-more old now new whole _ _ (subst (LaysOf old now whole) split u) w

-- a member: a field has no marks
pub method-alone : (cs : List Class) (c : ℕ) (m : Method) (old new : Laying) → Lays old new (method_maps cs c m) →
    Lays old new (members_maps cs c (method m ∷ []))
method-alone cs c m old new h = subst (Lays old new) (sym (append-nil (method_maps cs c m))) h

-- the marks of a method's body are the method's
pub method-is : (t : Tables) (c : ℕ) (m : MethodRow) (first start after : List Held) (these : List ℕ) (marked : Truth) (old new : Laying) →
    first ≡ [] → start ≡ first ++ record { name = None; ty = ty.Ref m.cap c } ∷ [] → these ≡ numbers_in t m.params →
    scope_of t after ≡ with_params (classes_of t) (scope_of t start) (map (param_at t) these) →
    marked ≡ is_end_marked (option_map (type_of t) m.result) →
    Lays old new (block_maps (classes_of t) marked (scope_of t after) (block_of t m.body)) →
    Lays old new (method_maps (classes_of t) c (method_of t m))
method-is t c m first start after these marked old new z s k p e h =
    let cs = classes_of t in
    let scope : scope_of t after ≡ method_scope cs c (method_of t m) =
    p ∙ ap (λ (vs : List Held). with_params cs (scope_of t vs) (map (param_at t) these)) s
    ∙ ap (λ (vs : List Held). with_params cs (scope_of t (vs ++ record { name = None; ty = ty.Ref m.cap c } ∷ [])) (map (param_at t) these)) z
    ∙ ap (λ (ks : List ℕ). with_params cs (scope_of t (record { name = None; ty = ty.Ref m.cap c } ∷ [])) (map (param_at t) ks)) k in
    let marks : Lays old new (block_maps cs (is_end_marked (option_map (type_of t) m.result)) (scope_of t after) (block_of t m.body)) =
    subst (λ (b : Truth). Lays old new (block_maps cs b (scope_of t after) (block_of t m.body))) e h in
    subst (λ (sc : Scope). Lays old new (block_maps cs (is_end_marked (option_map (type_of t) m.result)) sc (block_of t m.body))) scope marks

-- the marks of a program
pub program-lays : (t : Tables) (vs : List Held) (body : Span) (old mid new : Laying) → vs ≡ [] → body ≡ t.body →
    Lays old mid (block_maps (classes_of t) true (scope_of t vs) (block_of t body)) → Lays mid new (methods_maps (classes_of t) 0 (classes_of t)) →
    Lays old new (maps_of (program_of t))
program-lays t vs body old mid new z e h g =
    let cs = classes_of t in
    let main : Lays old mid (block_maps cs true [] (block_of t t.body)) =
    subst (λ (s : Span). Lays old mid (block_maps cs true [] (block_of t s))) e
    (subst (λ (ws : List Held). Lays old mid (block_maps cs true (scope_of t ws) (block_of t body))) z h) in
    lays-then old mid new (block_maps cs true [] (block_of t t.body)) (methods_maps cs 0 cs) main g
