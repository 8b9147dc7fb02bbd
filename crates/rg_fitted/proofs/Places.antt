-- The marks of a program stand at the addresses that its statements give them, each with the map of the environment at its point.
use Rattle.std.proofs.Common.{◌≡◌, refl, sym, ap, ◌∙◌, subst, ℕ, suc, ◌+◌, Bool as Truth, true, false, if◌then◌else◌, List, [], ◌∷◌, drop, ◌++◌, length}
use Rattle.std.proofs.Common.{Option, Some, None, slice_get, append_assoc, length-append, arith}
use Rattle.std.proofs.lemmas.Bool.{false≢true}
use Rattle.std.proofs.lemmas.List.{drop-drop}
use Rattle.rg_base.specs.declared.ty.Ty.{Ty}
use Rattle.rg_tree.specs.Tree.{Ty as Written, Expr, stmt, StmtKind, declare, assign, assign_element, call, swap, branch, while, enter, print}
use Rattle.rg_tree.specs.Tree.{collect, return, Else, no_else, otherwise, Block, empty as none, then as next, Method, Class, Tree}
use Rattle.rg_rules.specs.Environment.{Env}
use Rattle.rg_rules.specs.Bodies.{main_body, method_body}
use Rattle.rg_rules.specs.Points.{Point, env_at}
use Rattle.rg_code.specs.declared.op.Op.{Op}
use Rattle.rg_code.specs.declared.op.Op.TheVariants as i
use Rattle.rg_code.specs.Places.{is_mark}
use Rattle.rg_code.specs.Lowering.{Scope, whole_code, enter_code, leave_op, kind_code, else_code, block_code, scope_behind, scope_inside, scope_at_end}
use Rattle.rg_code.specs.Lowering.{else_gap, method_scope, method_end_code, method_code, main_code, methods_code, lowered}
use Rattle.rg_build.specs.Maps.{inner_maps, block_maps, is_end_marked, method_maps, methods_maps}
use Rattle.rg_build.specs.ModuleOf.{map_here, maps_behind, laid, module_of}
use Rattle.rg_build.specs.Laws.{marks, block_points, AreAt, MapsAreOfEnvironments}
use Rattle.rg_build.proofs.Marks.{marks-then, block-marks, method-marks}
use Rattle.rg_fitted.specs.Places.{end_places, inner_places, else_places, block_places, AreMarksOf, MarksStand}
use Rattle.rg_fitted.proofs.Laid.{Laid, drop-is}
use Rattle.rg_fitted.proofs.Entries.{maps_laid, main-marks, method-entered}

-- the addresses of the marks of instructions, the first of which stands at one
abbrev mark_places : (at : ℕ) → List Op → List ℕ
mark_places at [] = []
mark_places at (o ∷ os) = if is_mark (Some o) then at ∷ mark_places (at + 1) os else mark_places (at + 1) os

places-then : (at : ℕ) (a b : List Op) → mark_places at (a ++ b) ≡ mark_places at a ++ mark_places (at + length a) b
places-then at [] b = let e : at ≡ at + 0 = omega arith in ap (λ (n : ℕ). mark_places n b) e
places-then at (o ∷ os) b =
    let e : at + 1 + length os ≡ at + suc (length os) = omega arith in
    by (is_mark (Some o)) (places-then (at + 1) os b ∙ ap (λ (n : ℕ). mark_places (at + 1) os ++ mark_places n b) e)
  where
    by : (t : Truth) → mark_places (at + 1) (os ++ b) ≡ mark_places (at + 1) os ++ mark_places (at + suc (length os)) b →
        (if t then at ∷ mark_places (at + 1) (os ++ b) else mark_places (at + 1) (os ++ b))
        ≡ (if t then at ∷ mark_places (at + 1) os else mark_places (at + 1) os) ++ mark_places (at + suc (length os)) b
    by true rest = ap (λ (ns : List ℕ). at ∷ ns) rest
    by false rest = rest

no-places : (at : ℕ) (ops : List Op) → marks ops ≡ 0 → mark_places at ops ≡ []
no-places at [] h = refl
no-places at (o ∷ os) h = by (is_mark (Some o)) h (no-places (at + 1) os)
  where
    by : (t : Truth) → (if t then suc (marks os) else marks os) ≡ 0 → (marks os ≡ 0 → mark_places (at + 1) os ≡ []) →
        (if t then at ∷ mark_places (at + 1) os else mark_places (at + 1) os) ≡ []
    by true e r = absurd (omega (arith, e))
    by false e r = r e

-- behind instructions without marks
places-behind : (at : ℕ) (a b : List Op) → marks a ≡ 0 → mark_places at (a ++ b) ≡ mark_places (at + length a) b
places-behind at a b h = places-then at a b ∙ ap (λ (ns : List ℕ). ns ++ mark_places (at + length a) b) (no-places at a h)

-- Statements. How many marks each one has is known of blocks.

own-marks : (cs : List Class) (sc : Scope) (at line : ℕ) (k : StmtKind) → marks (kind_code cs sc at line k) ≡ suc (length (inner_maps cs sc k))
own-marks cs sc at line k =
    let h = block-marks cs sc at false (next (stmt line k) none) in
    let a = marks-then (kind_code cs sc at line k) [] in
    let b = length-append (inner_maps cs sc k) [] in omega (arith, h, a, b)

whole-markless : (cs : List Class) (sc : Scope) (at : ℕ) (e : Expr) → marks (whole_code cs sc (at + 1) e) ≡ 0
whole-markless cs sc at e =
    let h = own-marks cs sc at 0 (print e) in
    let a = marks-then (whole_code cs sc (at + 1) e) (i.Print ∷ []) in omega (arith, h, a)

-- one mark, in front
one-place : (at : ℕ) (ops : List Op) → is_mark (slice_get ops 0) ≡ true → marks ops ≡ 1 → mark_places at ops ≡ at ∷ []
one-place at [] e h = absurd (omega (arith, h))
one-place at (o ∷ os) e h = by (is_mark (Some o)) e h
  where
    by : (t : Truth) → t ≡ true → (if t then suc (marks os) else marks os) ≡ 1 →
        (if t then at ∷ mark_places (at + 1) os else mark_places (at + 1) os) ≡ at ∷ []
    by true e h = ap (λ (ns : List ℕ). at ∷ ns) (no-places (at + 1) os (omega (arith, h)))
    by false e h = absurd (false≢true e)

-- a statement without blocks
alone : (cs : List Class) (sc : Scope) (at line : ℕ) (k : StmtKind) → is_mark (slice_get (kind_code cs sc at line k) 0) ≡ true →
    length (inner_maps cs sc k) ≡ 0 → mark_places at (kind_code cs sc at line k) ≡ at ∷ []
alone cs sc at line k e h = one-place at (kind_code cs sc at line k) e (own-marks cs sc at line k ∙ ap suc h)

mutual
  kind-places : (cs : List Class) (sc : Scope) (at line : ℕ) (k : StmtKind) → mark_places at (kind_code cs sc at line k) ≡ at ∷ inner_places cs sc at k
  kind-places cs sc at line (declare x t r) = alone cs sc at line (declare x t r) refl refl
  kind-places cs sc at line (assign p r) = alone cs sc at line (assign p r) refl refl
  kind-places cs sc at line (assign_element q e r) = alone cs sc at line (assign_element q e r) refl refl
  kind-places cs sc at line (call c) = alone cs sc at line (call c) refl refl
  kind-places cs sc at line (swap y p) = alone cs sc at line (swap y p) refl refl
  kind-places cs sc at line (branch e b other) =
      let test = whole_code cs sc (at + 1) e in
      let inside = at + 1 + length test + 1 in
      let block = block_code cs sc inside b in
      let end = inside + length block in
      let others = else_code cs sc (end + 2) line other in
      let tail = i.Mark line ∷ i.End (length sc) ∷ others in
      let two : end + 1 + 1 ≡ end + 2 = omega arith in
      ap (λ (ns : List ℕ). at ∷ ns)
      (places-behind (at + 1) test (i.JumpFalse (end + else_gap other) ∷ (block ++ tail)) (whole-markless cs sc at e)
      ∙ places-then inside block tail
      ∙ ap (λ (n : ℕ). mark_places inside block ++ end ∷ mark_places n others) two
      ∙ ap (λ (ns : List ℕ). mark_places inside block ++ end ∷ ns) (else-places cs sc (end + 2) line other)
      ∙ sym (append_assoc (mark_places inside block) (end ∷ []) (else_places cs sc (end + 2) other))
      ∙ ap (λ (ns : List ℕ). ns ++ else_places cs sc (end + 2) other) (block-places cs sc inside true b))
  kind-places cs sc at line (while e b) =
      let test = whole_code cs sc (at + 1) e in
      let inside = at + 1 + length test + 1 in
      let block = block_code cs sc inside b in
      let tail = i.Mark line ∷ i.End (length sc) ∷ i.Jump at ∷ [] in
      ap (λ (ns : List ℕ). at ∷ ns)
      (places-behind (at + 1) test (i.JumpFalse (inside + length block + 3) ∷ (block ++ tail)) (whole-markless cs sc at e)
      ∙ places-then inside block tail ∙ block-places cs sc inside true b)
  kind-places cs sc at line (enter p z b giving) =
      let front = enter_code cs sc p.base p.fields in
      let sci = scope_inside cs sc p z in
      let inside = at + 1 + length front in
      let block = block_code cs sci inside b in
      let last = leave_op (scope_at_end cs sci b) (length sc) giving ∷ [] in
      let own : suc (marks (front ++ (block ++ i.Mark line ∷ last))) ≡ suc (length (block_maps cs true sci b)) =
      own-marks cs sc at line (enter p z b giving) in
      let here = block-marks cs sci inside true b in
      let all = marks-then front (block ++ i.Mark line ∷ last) in
      let parts = marks-then block (i.Mark line ∷ last) in
      let first : marks front ≡ 0 = omega (arith, own, here, all, parts) in
      let none : marks last ≡ 0 = omega (arith, own, here, all, parts) in
      ap (λ (ns : List ℕ). at ∷ ns)
      (places-behind (at + 1) front (block ++ i.Mark line ∷ last) first
      ∙ places-then inside block (i.Mark line ∷ last)
      ∙ ap (λ (ns : List ℕ). mark_places inside block ++ (inside + length block) ∷ ns) (no-places (inside + length block + 1) last none)
      ∙ block-places cs sci inside true b)
  kind-places cs sc at line (print e) = alone cs sc at line (print e) refl refl
  kind-places cs sc at line collect = refl
  kind-places cs sc at line (return e) = alone cs sc at line (return e) refl refl

  else-places : (cs : List Class) (sc : Scope) (at line : ℕ) (other : Else) → mark_places at (else_code cs sc at line other) ≡ else_places cs sc at other
  else-places cs sc at line no_else = refl
  else-places cs sc at line (otherwise b) =
      places-then (at + 1) (block_code cs sc (at + 1) b) (i.Mark line ∷ i.End (length sc) ∷ []) ∙ block-places cs sc (at + 1) true b

  block-places : (cs : List Class) (sc : Scope) (at : ℕ) (marked : Truth) (b : Block) →
      mark_places at (block_code cs sc at b) ++ end_places marked (at + length (block_code cs sc at b)) ≡ block_places cs marked sc at b
  block-places cs sc at marked none = let e : at + 0 ≡ at = omega arith in ap (end_places marked) e
  block-places cs sc at marked (next (stmt line k) b) =
      let first = kind_code cs sc at line k in
      let to = at + length first in
      let rest = block_code cs (scope_behind cs sc k) to b in
      let long = length-append first rest in
      let e : at + length (first ++ rest) ≡ to + length rest = omega (arith, long) in
      ap (λ (n : ℕ). mark_places at (first ++ rest) ++ end_places marked n) e
      ∙ ap (λ (ns : List ℕ). ns ++ end_places marked (to + length rest)) (places-then at first rest)
      ∙ append_assoc (mark_places at first) (mark_places to rest) (end_places marked (to + length rest))
      ∙ ap (λ (ns : List ℕ). mark_places at first ++ ns) (block-places cs (scope_behind cs sc k) to marked b)
      ∙ ap (λ (ns : List ℕ). ns ++ block_places cs marked (scope_behind cs sc k) to b) (kind-places cs sc at line k)

main-places : (t : Tree) → mark_places 0 (main_code t) ≡ block_places t.classes true [] 0 t.body
main-places t =
    places-then 0 (block_code t.classes [] 0 t.body) (i.Mark t.line ∷ i.End 0 ∷ i.Halt ∷ []) ∙ block-places t.classes [] 0 true t.body

ending-places : (at line : ℕ) (result : Option Written) → mark_places at (method_end_code line result) ≡ end_places (is_end_marked result) at
ending-places at line None = refl
ending-places at line (Some t) = refl

method-places : (cs : List Class) (at c : ℕ) (m : Method) →
    mark_places at (method_code cs at c m) ≡ block_places cs (is_end_marked m.result) (method_scope cs c m) at m.body
method-places cs at c m =
    let block = block_code cs (method_scope cs c m) at m.body in
    places-then at block (method_end_code m.line m.result)
    ∙ ap (λ (ns : List ℕ). mark_places at block ++ ns) (ending-places (at + length block) m.line m.result)
    ∙ block-places cs (method_scope cs c m) at (is_end_marked m.result) m.body

-- Maps

-- what stands one place on
one-on : {A : Type 0} (xs : List A) (n : ℕ) (x : A) (ys : List A) → drop n xs ≡ x ∷ ys → drop (n + 1) xs ≡ ys
one-on xs n x ys h = sym (drop-drop 1 n xs) ∙ ap (drop 1) h

-- at these addresses marks stand that have these maps, in order
abbrev HaveMaps : (ops : List Op) (maps : List (List Ty)) → (places : List ℕ) → List (List Ty) → Type 0
HaveMaps ops maps [] [] = Unit {0}
HaveMaps ops maps [] (m ∷ ms) = ⊥
HaveMaps ops maps (a ∷ more) [] = ⊥
HaveMaps ops maps (a ∷ more) (m ∷ ms) = ((is_mark (slice_get ops a) ≡ true) × (slice_get maps a ≡ Some m)) × HaveMaps ops maps more ms

module _ (ops : List Op) (maps : List (List Ty)) where
  -- the marks of instructions that stand in the code, where the maps are theirs
  have-maps : (at : ℕ) (a b : List Op) (ms ns : List (List Ty)) → drop at ops ≡ a ++ b → Laid maps at (a ++ b) (ms ++ ns) → marks a ≡ length ms →
      HaveMaps ops maps (mark_places at a) ms
  have-maps at [] b [] ns c l h = tt
  have-maps at [] b (m ∷ ms) ns c l h = absurd (omega (arith, h))
  have-maps at (o ∷ os) b ms ns c l h =
      by (is_mark (Some o)) ms (ap is_mark (drop-is ops at o (os ++ b) c)) l h
      (λ qs e g. have-maps (at + 1) os b qs ns (one-on ops at o (os ++ b) c) e g)
    where
      by : (t : Truth) (qs : List (List Ty)) → is_mark (slice_get ops at) ≡ t →
          drop at maps ≡ map_here t (qs ++ ns) ∷ laid (os ++ b) (maps_behind t (qs ++ ns)) →
          (if t then suc (marks os) else marks os) ≡ length qs →
          ((rs : List (List Ty)) → Laid maps (at + 1) (os ++ b) (rs ++ ns) → marks os ≡ length rs → HaveMaps ops maps (mark_places (at + 1) os) rs) →
          HaveMaps ops maps (if t then at ∷ mark_places (at + 1) os else mark_places (at + 1) os) qs
      by true [] e d g r = absurd (omega (arith, g))
      by true (q ∷ qs) e d g r =
          let rest = laid (os ++ b) (qs ++ ns) in
          ((e, drop-is maps at q rest d), r qs (one-on maps at q rest d) (omega (arith, g)))
      by false qs e d g r = r qs (one-on maps at [] (laid (os ++ b) (qs ++ ns)) d) g

-- the marks with these maps are those of the environments at these points
marks-of : (t : Tree) (env : Point → Option Env) (ps : List Point) (places : List ℕ) (ms : List (List Ty)) → AreAt env ps ms →
    HaveMaps (module_of t).code.ops (module_of t).maps places ms → AreMarksOf t env ps places
marks-of t env [] [] [] h g = tt
marks-of t env [] (a ∷ more) [] h g = absurd g
marks-of t env [] places (m ∷ ms) h g = absurd h
marks-of t env (p ∷ ps) places [] h g = absurd h
marks-of t env (p ∷ ps) [] (m ∷ ms) h g = absurd g
marks-of t env (p ∷ ps) (a ∷ more) (m ∷ ms) h g =
    (record { types = m; mark = g.0.0; there = g.0.1; types_are = h.0 }, marks-of t env ps more ms h.1 g.1)

pub marks-stand : MapsAreOfEnvironments → MarksStand
marks-stand law = record {
  main = λ t a.
      let cs = t.classes in
      let own = block_maps cs true [] t.body in
      let others = methods_code cs (length (main_code t)) 0 cs in
      marks-of t (env_at cs (main_body t)) (block_points true t.body) (block_places cs true [] 0 t.body) own (law.main t a)
      (subst (λ (ns : List ℕ). HaveMaps (lowered t).ops (maps_laid t) ns own) (main-places t)
      (have-maps (lowered t).ops (maps_laid t) 0 (main_code t) others.ops own (methods_maps cs 0 cs) refl refl (main-marks t)));
  methods = λ t a c x m h.
      let cs = t.classes in
      let own = method_maps cs c m in
      let e = method-entered t c x m h in
      let at = e.entry.at in
      record {
        entry = e.entry;
        there = e.there;
        marks = marks-of t (env_at cs (method_body cs c m)) (block_points (is_end_marked m.result) m.body)
            (block_places cs (is_end_marked m.result) (method_scope cs c m) at m.body) own (law.methods t a c x m h)
            (subst (λ (ns : List ℕ). HaveMaps (lowered t).ops (maps_laid t) ns own) (method-places cs at c m)
            (have-maps (lowered t).ops (maps_laid t) at (method_code cs at c m) e.stands.rest own e.stands.others e.stands.code
            e.stands.laid_are (method-marks cs at c m)));
      };
}
