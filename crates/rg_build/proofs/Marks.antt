-- The code of a program has as many marks as the program has maps.
use Rattle.std.proofs.Common.{◌≡◌, refl, sym, ap, ◌∙◌, ℕ, suc, ◌+◌, Bool, true, false, if◌then◌else◌, List, [], ◌∷◌, ◌++◌, length, Option, Some, None}
use Rattle.std.proofs.Common.{length-append, arith}
use Rattle.rg_tree.specs.Tree.{Name, Ty as Written, Expr, stmt, StmtKind, declare, assign, assign_element, call, swap, branch, while, enter, print}
use Rattle.rg_tree.specs.Tree.{collect, return, Else, no_else, otherwise, Block, empty as none, then as next, Method, Member, field, method, Class}
use Rattle.rg_code.specs.declared.op.Op.{Op}
use Rattle.rg_code.specs.declared.op.Op.TheVariants as i
use Rattle.rg_code.specs.Places.{is_mark}
use Rattle.rg_code.specs.Lowering.{Scope, whole_code, call_code, call_result, right_code, pace_code, dropped_code, assign_code, assign_element_code}
use Rattle.rg_code.specs.Lowering.{swap_code, enter_code, leave_op, kind_code, else_code, block_code, scope_behind, scope_inside, scope_at_end}
use Rattle.rg_code.specs.Lowering.{else_gap}
use Rattle.rg_code.specs.Lowering.{method_scope, method_end_code, method_code, main_code, Methods, members_code, methods_code}
use Rattle.rg_build.specs.Maps.{inner_maps, else_maps, block_maps, is_end_marked, method_maps, members_maps, methods_maps}
use Rattle.rg_build.specs.Laws.{marks, EachMarkHasAMap}
use Rattle.rg_build.proofs.Quiet.{quiet-then, behind_right, whole-quiet, call-quiet, assign-quiet, assign_element-quiet, swap-quiet, enter-quiet}
use Rattle.rg_build.proofs.Quiet.{dropped-quiet, markless}

marks_by : (b : Bool) (a c : ℕ) → (if b then suc a else a) + c ≡ (if b then suc (a + c) else a + c)
marks_by true a c = omega arith
marks_by false a c = refl

pub marks-then : (a b : List Op) → marks (a ++ b) ≡ marks a + marks b
marks-then [] b = omega arith
marks-then (o ∷ os) b = rw (marks-then os b) (sym (marks_by (is_mark (Some o)) (marks os) (marks b)))

-- what stands behind instructions of which none is a mark
skips : (a b : List Op) (n : ℕ) → marks a ≡ 0 → marks b ≡ n → marks (a ++ b) ≡ n
skips a b n h g = omega (arith, marks-then a b, h, g)

-- the mark at the end of a block, if one stands there
abbrev one : Bool → ℕ
one false = 0
one true = 1

skips-whole : (cs : List Class) (sc : Scope) (at : ℕ) (e : Expr) (rest : List Op) → marks (whole_code cs sc at e ++ rest) ≡ marks rest
skips-whole cs sc at e rest = skips (whole_code cs sc at e) rest (marks rest) (markless (whole_code cs sc at e) (whole-quiet cs sc at e)) refl

leave-mark : (sc : Scope) (s : ℕ) (w : Option Name) → marks (leave_op sc s w ∷ []) ≡ 0
leave-mark sc s None = refl
leave-mark sc s (Some w) = refl

mutual
  -- a statement has its own mark and those of its blocks
  kind-marks : (cs : List Class) (sc : Scope) (at line : ℕ) (k : StmtKind) → marks (kind_code cs sc at line k) ≡ suc (length (inner_maps cs sc k))
  kind-marks cs sc at line (declare x t r) =
      ap suc (markless (right_code cs sc (at + 1) r ++ i.Store (length sc) ∷ pace_code r) (behind_right cs sc (at + 1) r (i.Store (length sc)) refl))
  kind-marks cs sc at line (assign p r) =
      ap suc (markless (assign_code cs sc (at + 1) p.base p.fields r) (assign-quiet cs sc (at + 1) p.base p.fields r))
  kind-marks cs sc at line (assign_element q e r) =
      ap suc (markless (assign_element_code cs sc (at + 1) q e r) (assign_element-quiet cs sc (at + 1) q e r))
  kind-marks cs sc at line (call c) =
      ap suc (markless (call_code cs sc (at + 1) c ++ dropped_code (call_result cs sc c))
      (quiet-then (call_code cs sc (at + 1) c) (dropped_code (call_result cs sc c)) (call-quiet cs sc (at + 1) c) (dropped-quiet
      (call_result cs sc c))))
  kind-marks cs sc at line (swap y p) = ap suc (markless (swap_code cs sc y p.base p.fields) (swap-quiet cs sc y p.base p.fields))
  kind-marks cs sc at line (branch e b other) =
      let inside = at + 1 + length (whole_code cs sc (at + 1) e) + 1 in
      let block = block_code cs sc inside b in
      let others = else_code cs sc (inside + length block + 2) line other in
      let front = skips-whole cs sc (at + 1) e (i.JumpFalse (inside + length block + else_gap other) ∷ (block ++ i.Mark line ∷ i.End
      (length sc) ∷ others)) in
      let all = marks-then block (i.Mark line ∷ i.End (length sc) ∷ others) in
      let here = block-marks cs sc inside true b in
      let there = else-marks cs sc (inside + length block + 2) line other in
      let sum = length-append (block_maps cs true sc b) (else_maps cs sc other) in
      omega (arith, front, all, here, there, sum)
  kind-marks cs sc at line (while e b) =
      let inside = at + 1 + length (whole_code cs sc (at + 1) e) + 1 in
      let block = block_code cs sc inside b in
      let front = skips-whole cs sc (at + 1) e (i.JumpFalse (inside + length block + 3) ∷ (block ++ i.Mark line ∷ i.End
      (length sc) ∷ i.Jump at ∷ [])) in
      let all = marks-then block (i.Mark line ∷ i.End (length sc) ∷ i.Jump at ∷ []) in
      let here = block-marks cs sc inside true b in
      omega (arith, front, all, here)
  kind-marks cs sc at line (enter p z b giving) =
      let front = enter_code cs sc p.base p.fields in
      let inside = scope_inside cs sc p z in
      let block = block_code cs inside (at + 1 + length front) b in
      let leaving = leave_op (scope_at_end cs inside b) (length sc) giving in
      let skip = marks-then front (block ++ i.Mark line ∷ leaving ∷ []) in
      let none = markless front (enter-quiet cs sc p.base p.fields) in
      let all = marks-then block (i.Mark line ∷ leaving ∷ []) in
      let last = leave-mark (scope_at_end cs inside b) (length sc) giving in
      let here = block-marks cs inside (at + 1 + length front) true b in
      omega (arith, skip, none, all, last, here)
  kind-marks cs sc at line (print e) = ap suc (skips-whole cs sc (at + 1) e (i.Print ∷ []))
  kind-marks cs sc at line collect = refl
  kind-marks cs sc at line (return e) = ap suc (skips-whole cs sc (at + 1) e (i.Ret ∷ []))

  else-marks : (cs : List Class) (sc : Scope) (at line : ℕ) (other : Else) → marks (else_code cs sc at line other) ≡ length (else_maps cs sc other)
  else-marks cs sc at line no_else = refl
  else-marks cs sc at line (otherwise b) =
      let block = block_code cs sc (at + 1) b in
      let all = marks-then block (i.Mark line ∷ i.End (length sc) ∷ []) in
      let here = block-marks cs sc (at + 1) true b in omega (arith, all, here)

  -- a block has those of its statements, and maybe one at its end
  pub block-marks : (cs : List Class) (sc : Scope) (at : ℕ) (marked : Bool) (b : Block) →
      marks (block_code cs sc at b) + one marked ≡ length (block_maps cs marked sc b)
  block-marks cs sc at true none = refl
  block-marks cs sc at false none = refl
  block-marks cs sc at marked (next (stmt line k) b) =
      let first = kind_code cs sc at line k in
      let behind = scope_behind cs sc k in
      let all = marks-then first (block_code cs behind (at + length first) b) in
      let own = kind-marks cs sc at line k in
      let rest = block-marks cs behind (at + length first) marked b in
      let sum = length-append (inner_maps cs sc k) (block_maps cs marked behind b) in
      omega (arith, all, own, rest, sum)

end-marks : (line : ℕ) (result : Option Written) → marks (method_end_code line result) ≡ one (is_end_marked result)
end-marks line None = refl
end-marks line (Some t) = refl

pub method-marks : (cs : List Class) (at c : ℕ) (m : Method) → marks (method_code cs at c m) ≡ length (method_maps cs c m)
method-marks cs at c m =
    let block = block_code cs (method_scope cs c m) at m.body in
    marks-then block (method_end_code m.line m.result) ∙ ap (λ (n : ℕ). marks block + n) (end-marks m.line m.result)
    ∙ block-marks cs (method_scope cs c m) at (is_end_marked m.result) m.body

members-marks : (cs : List Class) (at c n : ℕ) (ms : List Member) (go : ℕ → Methods) → ((behind : ℕ) → marks (go behind).ops ≡ n) →
    marks (members_code cs at c ms go).ops ≡ length (members_maps cs c ms) + n
members-marks cs at c n [] go h = omega (arith, h at)
members-marks cs at c n (field f ∷ ms) go h = members-marks cs at c n ms go h
members-marks cs at c n (method m ∷ ms) go h =
    let own = method_code cs at c m in
    let all = marks-then own (members_code cs (at + length own) c ms go).ops in
    let rest = members-marks cs (at + length own) c n ms go h in
    let sum = length-append (method_maps cs c m) (members_maps cs c ms) in
    let here = method-marks cs at c m in omega (arith, all, rest, sum, here)

methods-marks : (cs : List Class) (at c : ℕ) (ks : List Class) → marks (methods_code cs at c ks).ops ≡ length (methods_maps cs c ks)
methods-marks cs at c [] = refl
methods-marks cs at c (k ∷ ks) =
    members-marks cs at c (length (methods_maps cs (suc c) ks)) k.members (λ behind. methods_code cs behind (suc c) ks)
    (λ behind. methods-marks cs behind (suc c) ks)
    ∙ sym (length-append (members_maps cs c k.members) (methods_maps cs (suc c) ks))

pub each-mark : EachMarkHasAMap
each-mark t =
    let cs = t.classes in
    let block = block_code cs [] 0 t.body in
    let main = main_code t in
    let others = methods_code cs (length main) 0 cs in
    let all = marks-then main others.ops in
    let own = marks-then block (i.Mark t.line ∷ i.End 0 ∷ i.Halt ∷ []) in
    let here = block-marks cs [] 0 true t.body in
    let rest = methods-marks cs (length main) 0 cs in
    let sum = length-append (block_maps cs true [] t.body) (methods_maps cs 0 cs) in omega (arith, all, own, here, rest, sum)
