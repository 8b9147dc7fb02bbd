-- Where items lie the code is orderly.
use Rattle.std.proofs.Common.{◌≡◌, ℕ, ◌+◌, true, false, true≢false, Bool as Truth, if◌then◌else◌, List, [], ◌∷◌, ◌++◌, length, drop, take, Option}
use Rattle.std.proofs.Common.{Some, None, refl, sym, ap, subst, ◌∙◌, arith, append_assoc, length-append, slice_get}
use Rattle.std.proofs.lemmas.Bool.{and_from}
use Rattle.std.proofs.lemmas.List.{drop-drop}
use Rattle.rg_base.specs.declared.ty.Ty.{Ty}
use Rattle.rg_tree.specs.Tree.{Name, Variable, Path, Expr, Right, stmt, StmtKind, declare, assign, assign_element, call, swap, branch, while, enter}
use Rattle.rg_tree.specs.Tree.{print, collect}
use Rattle.rg_tree.specs.Tree.{return, Else, no_else, otherwise, Block, Class}
use Rattle.rg_rules.specs.Capabilities.{is_iso}
use Rattle.rg_rules.specs.Paths.{all_but_last}
use Rattle.rg_rules.specs.Items.{Item, Do, EndAt, LeaveAt, LeaveGiving, Back}
use Rattle.rg_code.specs.declared.op.Op.{Op}
use Rattle.rg_code.specs.declared.op.Op.TheVariants as i
use Rattle.rg_code.specs.Lowering.{path_code, expr_code, assign_element_code, scope_at_end, leave_op}
use Rattle.rg_code.specs.Lowering.{Scope, slot_of, holder_code, held_number, right_code, pace_code, dropped_code, whole_code, call_code}
use Rattle.rg_code.specs.Lowering.{call_result, assign_code, assign_op, swap_code, enter_code, scope_behind, scope_inside, block_code, kind_code}
use Rattle.rg_code.specs.Places.{Stands, StandsIn, is_mark, behind_end, Level, Lies}
use Rattle.rg_stack.proofs.Basics.{is_halt}
use Rattle.rg_stack.specs.Refusals.{calm, orderly}
use Rattle.rg_stack.proofs.Callers.Mark.{drop-stands, first-drop, lies_at_mark}
use Rattle.rg_stack.proofs.Walks.Place.{back_in, block_starts, GoesOn}
use Rattle.rg_stack.proofs.Callers.Order.{calm-mark, calm-orderly}
use Rattle.rg_stack.proofs.Refusals.Order.{before-path, before-check, before-index, Quiet, quiet-append, quiet-whole, quiet-call}
use Rattle.rg_stack.proofs.Refusals.Order.{quiet-right, calm-pace}
use Rattle.rg_stack.proofs.Refusals.Order.{calm-assign}

-- what lies somewhere is calm
pub calm-lies : (classes : List Class) (code : List Op) (ls : List Level) (j : Item) (rest : List Item) (at : ℕ)
    → Lies classes code ls (j ∷ rest) at → calm code false (drop at code) ≡ true
calm-lies classes code ls j rest at h = calm-mark code false (drop at code)
    (ap is_mark (first-drop code at) ∙ lies_at_mark classes code ls j rest at h)

-- behind the first instruction of what stands
pub behind_first : (code : List Op) (at : ℕ) (o : Op) (ops : List Op) → Stands code at (o ∷ ops) → drop (at + 1) code ≡ ops
    ++ drop (at + length (o ∷ ops)) code
behind_first code at o ops h = sym (drop-drop 1 at code) ∙ ap (drop 1) (drop-stands code at (o ∷ ops) h)

module _ (classes : List Class) (code : List Op) where
  -- statements without blocks
  quiet-declare : (scope : Scope) (at slot : ℕ) (r : Right) → Quiet code at (right_code classes scope at r ++ i.Store slot ∷ pace_code r)
  quiet-declare scope at slot r rest h =
      let ops = right_code classes scope at r in
      ap (orderly code at false) (append_assoc ops (i.Store slot ∷ pace_code r) rest)
      ∙ quiet-right code classes scope at r (i.Store slot ∷ (pace_code r ++ rest)) (calm-pace code r rest h)

  quiet-assign : (scope : Scope) (at : ℕ) (x : Variable) (fs : List Name) (r : Right) → Quiet code at (assign_code classes scope at x fs r)
  quiet-assign scope at x [] r rest h =
      let ops = right_code classes scope at r in
      ap (orderly code at false) (append_assoc ops (assign_op scope x ∷ pace_code r) rest)
      ∙ quiet-right code classes scope at r (assign_op scope x ∷ (pace_code r ++ rest))
      (calm-assign code scope x (pace_code r ++ rest) (calm-pace code r rest h))
  quiet-assign scope at x (f ∷ fs) r rest h =
      let holder = holder_code classes scope x f fs ++ i.Check ∷ [] in
      let here = at + length holder in
      let ops = right_code classes scope here r in
      let last = i.Put (held_number classes scope x f fs) ∷ pace_code r in
      quiet-append code holder (ops ++ last) at (before-check code classes scope x (all_but_last f fs) at)
      (λ more e. ap (orderly code here false) (append_assoc ops last more)
      ∙ quiet-right code classes scope here r (last ++ more) (calm-pace code r more e)) rest h

  quiet-element : (scope : Scope) (at : ℕ) (q : Path) (e : Expr) (r : Right) → Quiet code at (assign_element_code classes scope at q e r)
  quiet-element scope at q e r =
      let array = path_code classes scope q.base q.fields ++ i.Check ∷ [] in
      let middle = at + length array in
      let index = expr_code classes scope middle e ++ i.Bound ∷ [] in
      let here = middle + length index in
      let ops = right_code classes scope here r in
      let last = i.PutElement ∷ pace_code r in
      quiet-append code array (index ++ (ops ++ last)) at (before-check code classes scope q.base q.fields at)
      (quiet-append code index (ops ++ last) middle (before-index code classes scope middle e)
      (λ rest h. ap (orderly code here false) (append_assoc ops last rest)
      ∙ quiet-right code classes scope here r (last ++ rest) (calm-pace code r rest h)))

  calm-dropped : (t : Option Ty) (rest : List Op) → calm code false rest ≡ true → calm code false (dropped_code t ++ rest) ≡ true
  calm-dropped None rest h = h
  calm-dropped (Some t) rest h = by (is_iso t)
    where
      by : (b : Truth) → calm code false ((if b then i.Drop ∷ [] else i.Pop ∷ []) ++ rest) ≡ true
      by true = h
      by false = h

  quiet-swap : (scope : Scope) (at : ℕ) (y : Name) (x : Variable) (fs : List Name) → Quiet code at (swap_code classes scope y x fs)
  quiet-swap scope at y x [] rest h = calm-orderly code at false rest h
  quiet-swap scope at y x (f ∷ fs) rest h =
      let path = holder_code classes scope x f fs in
      let s = i.Swap (slot_of scope (Some y)) (held_number classes scope x f fs) in
      ap (orderly code at false) (append_assoc path (i.Check ∷ s ∷ []) rest)
      ∙ before-path code classes scope x (all_but_last f fs) at (i.Check ∷ s ∷ rest) h

  quiet-enter : (scope : Scope) (at : ℕ) (x : Variable) (fs : List Name) → Quiet code at (enter_code classes scope x fs)
  quiet-enter scope at x [] rest h = h
  quiet-enter scope at x (f ∷ fs) rest h =
      let path = holder_code classes scope x f fs in
      let e = i.EnterField (held_number classes scope x f fs) (length scope) in
      ap (orderly code at false) (append_assoc path (e ∷ []) rest) ∙ before-path code classes scope x (all_but_last f fs) at (e ∷ rest) h

  -- a test, and a choice that leads to a mark
  quiet-test : (scope : Scope) (at to : ℕ) (e : Expr) (more : List Op) → is_mark (slice_get code to) ≡ true → calm code false more ≡ true
      → orderly code at false (whole_code classes scope at e ++ (i.JumpFalse to ∷ more)) ≡ true
  quiet-test scope at to e more marked h = quiet-whole code classes scope at e (i.JumpFalse to ∷ more) (and_from _ _ marked h)

  marked_at : (at : ℕ) (ops : List Op) → Stands code at ops → is_mark (slice_get (ops ++ drop (at + length ops) code) 0) ≡ true
      → is_mark (slice_get code at) ≡ true
  marked_at at ops h e = ap is_mark (sym (first-drop code at) ∙ ap (λ l. slice_get l 0) (drop-stands code at ops h)) ∙ e

  -- `if e { .. }`, and `else { .. }`
  branch-orderly : (l : Level) (at line : ℕ) (e : Expr) (b : Block) (other : Else)
      → StandsIn code l at (kind_code classes l.scope at line (branch e b other))
      → is_mark (slice_get code (at + length (kind_code classes l.scope at line (branch e b other)))) ≡ true
      → orderly code (at + 1) false (drop (at + 1) code) ≡ true
  branch-orderly l at line e b no_else h ends =
      let scope = l.scope in
      let test = whole_code classes scope (at + 1) e in
      let inside = at + 1 + length test + 1 in
      let block = block_code classes scope inside b in
      let jump = inside + length block + 2 in
      let inner = block ++ i.Mark line ∷ i.End (length scope) ∷ [] in
      let more = test ++ (i.JumpFalse jump ∷ inner) in
      let end = at + length (i.Mark line ∷ more) in
      let tail = drop end code in
      let to_end : end ≡ jump = omega (
        arith,
        length-append test (i.JumpFalse jump ∷ inner),
        length-append block
            (i.Mark line ∷ i.End (length scope) ∷ []),
      ) in
      let begins : is_mark (slice_get (inner ++ tail) 0)
      ≡ true = ap (λ l. is_mark (slice_get l 0)) (append_assoc block (i.Mark line ∷ i.End (length scope) ∷ []) tail)
      ∙ block_starts classes scope inside line b (i.End (length scope) ∷ tail) in
      ap (orderly code (at + 1) false) (behind_first code at (i.Mark line) more h.0 ∙ append_assoc test (i.JumpFalse jump ∷ inner) tail)
      ∙ quiet-test scope (at + 1) jump e (inner ++ tail) (subst (λ n. is_mark (slice_get code n) ≡ true) to_end ends)
      (calm-mark code false (inner ++ tail) begins)
  branch-orderly l at line e b (otherwise c) h ends =
      let scope = l.scope in
      let test = whole_code classes scope (at + 1) e in
      let inside = at + 1 + length test + 1 in
      let block = block_code classes scope inside b in
      let jump = inside + length block + 3 in
      let other_at = inside + length block + 2 + 1 in
      let other = block_code classes scope other_at c in
      let target = inside + length block + 2 + 1 + length other + 2 in
      let second = other ++ i.Mark line ∷ i.End (length scope) ∷ [] in
      let first_part = block ++ i.Mark line ∷ i.End (length scope) ∷ i.Jump target ∷ [] in
      let inner = block ++ (i.Mark line ∷ i.End (length scope) ∷ i.Jump target ∷ second) in
      let more = test ++ (i.JumpFalse jump ∷ inner) in
      let tail = drop (at + length (i.Mark line ∷ more)) code in
      let front = i.Mark line ∷ (test ++ i.JumpFalse jump ∷ []) in
      let flat : i.Mark line ∷ more ≡ (front ++ first_part) ++ second =
      ap (λ l. i.Mark line ∷ l) (sym (append_assoc test (i.JumpFalse jump ∷ []) inner)
      ∙ ap (λ l. (test ++ i.JumpFalse jump ∷ []) ++ l) (sym
      (append_assoc block (i.Mark line ∷ i.End (length scope) ∷ i.Jump target ∷ []) second))
      ∙ sym (append_assoc (test ++ i.JumpFalse jump ∷ []) first_part second)) in
      let to_other : at + length (front ++ first_part) ≡ jump =
      omega (
        arith,
        length-append front first_part,
        length-append test (i.JumpFalse jump ∷ []),
        length-append block
            (i.Mark line ∷ i.End (length scope) ∷ i.Jump target ∷ []),
      ) in
      let stands = subst (λ n. StandsIn code l n second) to_other
      (back_in code l at (front ++ first_part) second (subst (StandsIn code l at) flat h)) in
      let other_tail = drop (jump + length second) code in
      let marked : is_mark (slice_get code jump) ≡ true =
      marked_at jump second stands.0 (ap (λ l. is_mark (slice_get l 0)) (append_assoc other (i.Mark line ∷ i.End (length scope) ∷ []) other_tail)
      ∙ block_starts classes scope other_at line c (i.End (length scope) ∷ other_tail)) in
      let begins : is_mark (slice_get (inner ++ tail) 0) ≡ true =
      ap (λ l. is_mark (slice_get l 0)) (append_assoc block (i.Mark line ∷ i.End (length scope) ∷ i.Jump target ∷ second) tail)
      ∙ block_starts classes scope inside line b (i.End (length scope) ∷ i.Jump target ∷ (second ++ tail)) in
      ap (orderly code (at + 1) false) (behind_first code at (i.Mark line) more h.0 ∙ append_assoc test (i.JumpFalse jump ∷ inner) tail)
      ∙ quiet-test scope (at + 1) jump e (inner ++ tail) marked (calm-mark code false (inner ++ tail) begins)

  while-orderly : (l : Level) (at line : ℕ) (e : Expr) (b : Block) → StandsIn code l at (kind_code classes l.scope at line (while e b))
      → is_mark (slice_get code (at + length (kind_code classes l.scope at line (while e b)))) ≡ true
      → orderly code (at + 1) false (drop (at + 1) code) ≡ true
  while-orderly l at line e b h ends =
      let scope = l.scope in
      let test = whole_code classes scope (at + 1) e in
      let inside = at + 1 + length test + 1 in
      let block = block_code classes scope inside b in
      let jump = inside + length block + 3 in
      let closing = i.Mark line ∷ i.End (length scope) ∷ i.Jump at ∷ [] in
      let inner = block ++ closing in
      let more = test ++ (i.JumpFalse jump ∷ inner) in
      let end = at + length (i.Mark line ∷ more) in
      let tail = drop end code in
      let to_end : end ≡ jump = omega (arith, length-append test (i.JumpFalse jump ∷ inner), length-append block closing) in
      let begins : is_mark (slice_get (inner ++ tail) 0) ≡ true = ap (λ l. is_mark (slice_get l 0)) (append_assoc block closing tail)
      ∙ block_starts classes scope inside line b (i.End (length scope) ∷ i.Jump at ∷ tail) in
      ap (orderly code (at + 1) false) (behind_first code at (i.Mark line) more h.0 ∙ append_assoc test (i.JumpFalse jump ∷ inner) tail)
      ∙ quiet-test scope (at + 1) jump e (inner ++ tail) (subst (λ n. is_mark (slice_get code n) ≡ true) to_end ends)
      (calm-mark code false (inner ++ tail) begins)

  -- each other statement but `return` is quiet in front of its end
  quiet-orderly : (at line : ℕ) (ops : List Op) → Quiet code (at + 1) ops → Stands code at (i.Mark line ∷ ops)
      → calm code false (drop (at + length (i.Mark line ∷ ops)) code) ≡ true → orderly code (at + 1) false (drop (at + 1) code) ≡ true
  quiet-orderly at line ops q h ends = ap (orderly code (at + 1) false) (behind_first code at (i.Mark line) ops h)
      ∙ q (drop (at + length (i.Mark line ∷ ops)) code) ends

  enter-quiet : (scope : Scope) (at line : ℕ) (p : Path) (z : Name) (b : Block) (closing : List Op)
      → Quiet code at (let front = enter_code classes scope p.base p.fields in front
      ++ (block_code classes (scope_inside classes scope p z) (at + length front) b ++ i.Mark line ∷ closing))
  enter-quiet scope at line p z b closing rest h =
      let front = enter_code classes scope p.base p.fields in
      let block = block_code classes (scope_inside classes scope p z) (at + length front) b in
      let last = i.Mark line ∷ closing in
      ap (orderly code at false) (append_assoc front (block ++ last) rest)
      ∙ quiet-enter scope at p.base p.fields ((block ++ last) ++ rest)
      (calm-mark code false ((block ++ last) ++ rest) (ap (λ l. is_mark (slice_get l 0)) (append_assoc block last rest)
      ∙ block_starts classes (scope_inside classes scope p z) (at + length front) line b (closing ++ rest)))

  kind-orderly : (l : Level) (at line : ℕ) (k : StmtKind) → GoesOn k → StandsIn code l at (kind_code classes l.scope at line k)
      → is_mark (slice_get code (at + length (kind_code classes l.scope at line k))) ≡ true
      → calm code false (drop (at + length (kind_code classes l.scope at line k)) code) ≡ true → orderly code (at + 1) false (drop (at + 1) code)
      ≡ true
  kind-orderly l at line (declare x t r) g h ends quiet =
      quiet-orderly at line (right_code classes l.scope (at + 1) r ++ i.Store (length l.scope) ∷ pace_code r)
      (quiet-declare l.scope (at + 1) (length l.scope) r) h.0 quiet
  kind-orderly l at line (assign p r) g h ends quiet = quiet-orderly at line (assign_code classes l.scope (at + 1) p.base p.fields r)
      (quiet-assign l.scope (at + 1) p.base p.fields r) h.0 quiet
  kind-orderly l at line (assign_element q e r) g h ends quiet = quiet-orderly at line (assign_element_code classes l.scope (at + 1) q e r)
      (quiet-element l.scope (at + 1) q e r) h.0 quiet
  kind-orderly l at line (call c) g h ends quiet =
      let ops = call_code classes l.scope (at + 1) c in
      let result = call_result classes l.scope c in
      quiet-orderly at line (ops ++ dropped_code result)
      (λ rest e. ap (orderly code (at + 1) false) (append_assoc ops (dropped_code result) rest)
      ∙ quiet-call code classes l.scope (at + 1) c (dropped_code result ++ rest) (calm-dropped result rest e)) h.0 quiet
  kind-orderly l at line (swap y p) g h ends quiet = quiet-orderly at line (swap_code classes l.scope y p.base p.fields)
      (quiet-swap l.scope (at + 1) y p.base p.fields) h.0 quiet
  kind-orderly l at line (branch e b other) g h ends quiet = branch-orderly l at line e b other h ends
  kind-orderly l at line (while e b) g h ends quiet = while-orderly l at line e b h ends
  kind-orderly l at line (enter p z b giving) g h ends quiet =
      let front = enter_code classes l.scope p.base p.fields in
      let inside = scope_inside classes l.scope p z in
      let closing = leave_op (scope_at_end classes inside b) (length l.scope) giving ∷ [] in
      quiet-orderly at line (front ++ (block_code classes inside (at + 1 + length front) b ++ i.Mark line ∷ closing))
      (enter-quiet l.scope (at + 1) line p z b closing) h.0 quiet
  kind-orderly l at line (print e) g h ends quiet =
      let whole = whole_code classes l.scope (at + 1) e in
      quiet-orderly at line (whole ++ i.Print ∷ []) (λ rest c. ap (orderly code (at + 1) false) (append_assoc whole (i.Print ∷ []) rest)
      ∙ quiet-whole code classes l.scope (at + 1) e (i.Print ∷ rest) c) h.0 quiet
  kind-orderly l at line collect g h ends quiet = quiet-orderly at line (i.Collect ∷ []) (λ rest c. c) h.0 quiet
  kind-orderly l at line (return e) g h ends quiet = absurd g

  return-orderly : (l : Level) (at line : ℕ) (e : Expr) → StandsIn code l at (kind_code classes l.scope at line (return e))
      → orderly code (at + 1) false (drop (at + 1) code) ≡ true
  return-orderly l at line e h =
      let whole = whole_code classes l.scope (at + 1) e in
      let tail = drop (at + length (i.Mark line ∷ whole ++ i.Ret ∷ [])) code in
      ap (orderly code (at + 1) false) (behind_first code at (i.Mark line) (whole ++ i.Ret ∷ []) h.0 ∙ append_assoc whole (i.Ret ∷ []) tail)
      ∙ quiet-whole code classes l.scope (at + 1) e (i.Ret ∷ tail) refl

  -- the end of a block
  calm-behind : (os : List Op) (n : ℕ) (items : List Item) (ls : List Level) → slice_get code n ≡ slice_get os 0
      → Lies classes code ls items (behind_end (slice_get os 0) n) → calm code false os ≡ true
  calm-behind [] n items ls is lies = refl
  calm-behind (i.Jump t ∷ os) n items ls is lies = refl
  calm-behind (i.Mark line ∷ os) n items ls is lies = refl
  calm-behind (i.Halt ∷ os) n items ls is lies = refl
  calm-behind (o ∷ os) n [] ls is lies = absurd (true≢false (sym (ap is_halt (sym is ∙ lies))))
  calm-behind (o ∷ os) n (j ∷ rest) ls is lies = absurd (true≢false (sym (ap is_mark (sym is) ∙ lies_at_mark classes code ls j rest n lies)))

  -- where an item lies that has one behind it
  do-orderly : (l : Level) (ls : List Level) (line : ℕ) (k : StmtKind) (j : Item) (rest : List Item) (at : ℕ) → GoesOn k
      → Lies classes code (l ∷ ls) (Do (stmt line k) ∷ j ∷ rest) at
      → (levels : List Level) → Lies classes code levels (j ∷ rest) (at + length (kind_code classes l.scope at line k))
      → orderly code (at + 1) false (drop (at + 1) code) ≡ true
  do-orderly l ls line k j rest at g h levels lies =
      let end = at + length (kind_code classes l.scope at line k) in
      kind-orderly l at line k g h.0 (lies_at_mark classes code levels j rest end lies) (calm-lies classes code levels j rest end lies)

  pub statement-orderly : (l : Level) (ls : List Level) (line : ℕ) (k : StmtKind) (j : Item) (rest : List Item) (at : ℕ)
      → Lies classes code (l ∷ ls) (Do (stmt line k) ∷ j ∷ rest) at → orderly code (at + 1) false (drop (at + 1) code) ≡ true
  statement-orderly l ls line (declare x t r) j rest at h = do-orderly l ls line (declare x t r) j rest at tt h
      (record l { scope = scope_behind classes l.scope (declare x t r) } ∷ ls) h.1
  statement-orderly l ls line (return e) j rest at h = return-orderly l at line e h.0
  statement-orderly l ls line k j rest at h = do-orderly l ls line k j rest at tt h (l ∷ ls) h.1

  pub end-orderly : (l : Level) (ls : List Level) (k : ℕ) (rest : List Item) (at : ℕ) → Lies classes code (l ∷ ls) (EndAt k ∷ rest) at
      → orderly code (at + 1) false (drop (at + 1) code) ≡ true
  end-orderly l ls k rest at h =
      let two : at + 1 + 1 ≡ at + 2 = omega arith in
      ap (orderly code (at + 1) false) (drop-stands code (at + 1) (i.End k ∷ []) h.1 ∙ ap (λ n. i.End k ∷ drop n code) two)
      ∙ calm-behind (drop (at + 2) code) (at + 2) rest (record l { scope = take k l.scope } ∷ ls) (sym (first-drop code (at + 2)))
      (subst (λ o. Lies classes code (record l { scope = take k l.scope } ∷ ls) rest (behind_end o (at + 2))) (sym (first-drop code (at + 2)))
      h.2)

  pub leave-orderly : (l : Level) (ls : List Level) (k : ℕ) (j : Item) (rest : List Item) (at : ℕ)
      → Lies classes code (l ∷ ls) (LeaveAt k ∷ j ∷ rest) at → orderly code (at + 1) false (drop (at + 1) code) ≡ true
  leave-orderly l ls k j rest at h =
      let two : at + 1 + 1 ≡ at + 2 = omega arith in
      ap (orderly code (at + 1) false) (drop-stands code (at + 1) (i.Leave k ∷ []) h.1 ∙ ap (λ n. i.Leave k ∷ drop n code) two)
      ∙ calm-lies classes code (record l { scope = take k l.scope } ∷ ls) j rest (at + 2) h.2

  pub leave-giving-orderly : (l : Level) (ls : List Level) (line k : ℕ) (w : Name) (j : Item) (rest : List Item) (at : ℕ)
      → Lies classes code (l ∷ ls) (LeaveGiving line k w ∷ j ∷ rest) at → orderly code (at + 1) false (drop (at + 1) code) ≡ true
  leave-giving-orderly l ls line k w j rest at h =
      let o = i.LeaveGiving (slot_of l.scope (Some w)) k in
      let two : at + length (i.Mark line ∷ o ∷ []) ≡ at + 2 = omega arith in
      ap (orderly code (at + 1) false) (behind_first code at (i.Mark line) (o ∷ []) h.0 ∙ ap (λ n. o ∷ drop n code) two)
      ∙ calm-lies classes code (record l { scope = take k l.scope } ∷ ls) j rest (at + 2) h.1

  pub back-orderly : (l : Level) (ls : List Level) (rest : List Item) (at : ℕ) → Lies classes code (l ∷ ls) (Back ∷ rest) at
      → orderly code (at + 1) false (drop (at + 1) code) ≡ true
  back-orderly l ls rest at h = ap (orderly code (at + 1) false) (drop-stands code (at + 1) (i.RetVoid ∷ []) h.1)
