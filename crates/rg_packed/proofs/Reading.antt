-- What a source spells has lines that are bounded, and its array classes have no members.
use Rattle.std.proofs.Common.{◌≡◌, refl, ℕ, suc, List, length, Ok}
use Rattle.std.specs.List.{AllByRecursion}
use Rattle.rg_base.specs.declared.token.Token.{Token}
use Rattle.rg_base.specs.Tokens.{cut}
use Rattle.rg_tree.specs.Tree.{Tree}
use Rattle.rg_tree.specs.declared.counts.Counts.{Counts}
use Rattle.rg_tree.specs.Forms.{Form, Given}
use Rattle.rg_tree.specs.Forms as form
use Rattle.rg_tree.specs.Grammar.{Spells, Reads, program_class, program_main, class_row, tmp_class_row, members_row, element_row, field_row}
use Rattle.rg_tree.specs.Grammar.{method_row, no_members, cap_row, at_row, no_at, giving_row, no_giving, size_row, element_of}
use Rattle.rg_tree.specs.Grammar.{plain_type, ref_type, first_param, no_params, next_param, no_more_params, some_result, no_result, manager_row}
use Rattle.rg_tree.specs.Grammar.{block_row, no_stmts, more_stmts, let_row, assign_row, call_row, swap_row, if_row, while_row, enter_row, print_row}
use Rattle.rg_tree.specs.Grammar.{collect_row, return_row, else_row, else_none, path_row, next_field, no_fields, new_row, freeze_row, merge_row}
use Rattle.rg_tree.specs.Grammar.{input_row, result_row, value_row, new_plain, new_temporary, new_region, call_start, call_base, call_further}
use Rattle.rg_tree.specs.Grammar.{call_args, no_args, first_arg, next_arg, no_more_args, expr_row, or_row, no_or, and_row, and_further, no_and}
use Rattle.rg_tree.specs.Grammar.{not_row, no_not, cmp_row, compared, not_compared, sum_row, sum_further, no_sum, mul_row, mul_further, no_mul, minus}
use Rattle.rg_tree.specs.Grammar.{no_minus, literal, parens, path_value, is_row, no_is}
use Rattle.rg_packed.proofs.Early.{AreEarly, cut-early}
use Rattle.rg_packed.proofs.Lined.{IsLinedElse, IsLinedBlock, IsLinedStmt, IsLinedMember, HasLinedMembers, IsLinedClass, IsLined}
use Rattle.rg_packed.proofs.Lined.{assigned-lined, then-lined}

-- what the lines of tokens say of what is read of them
abbrev IsRead : (most : ℕ) → (f : Form) → Given f → Type 0
IsRead most form.Program t = IsLined most t
IsRead most form.Class k = IsLinedClass most k
IsRead most form.ClassRest r = HasLinedMembers most r.0 r.1
IsRead most form.Members ms = AllByRecursion (IsLinedMember most) ms
IsRead most form.Block b = IsLinedBlock most b
IsRead most form.Stmts b = IsLinedBlock most b
IsRead most form.Stmt s = IsLinedStmt most s
IsRead most form.Else o = IsLinedElse most o
IsRead most _ a = Unit {0}

module _ {source : List ℕ} (most : ℕ) where
  -- each reading keeps lines
  lined : {f : Form} {c d : Counts} {ts us : List Token} {a : Given f} → Reads source f c ts a d us → AreEarly most ts
      → IsRead most f a × AreEarly most us
  lined (program_class x y) early =
      let p = lined x early in
      let q = lined y p.1 in
      (record { classes = (p.0, q.0.classes); body = q.0.body; line = q.0.line }, q.1)
  lined (program_main e x y) early =
      let p = lined x early.1 in let q = lined y p.1 in (record { classes = tt; body = q.0; line = early.0 }, q.1)
  lined (class_row e f h x) early = lined x early.1.1
  lined (tmp_class_row e i f h x) early = lined x early.1.1.1
  lined (members_row e h x f) early = let p = lined x early.1 in (p.0, p.1.1)
  lined (element_row e h x f i) early = let p = lined x early.1 in (refl, p.1.1.1)
  lined (field_row e h i x j z) early =
      let p = lined x early.1.1 in let q = lined z p.1.1 in ((tt, q.0), q.1)
  lined (method_row e x f h i j y l m n z) early =
      let p = lined x early.1 in
      let q = lined y p.1.1.1 in
      let r = lined m q.1.1 in
      let v = lined n r.1 in
      let w = lined z v.1 in
      (((early.0, v.0), w.0), w.1)
  lined (no_members e) early = (tt, early)
  lined (cap_row e) early = (tt, early.1)
  lined (plain_type e) early = (tt, early.1)
  lined (ref_type x e) early = let p = lined x early in (tt, p.1.1)
  lined (first_param e h i x z) early = let p = lined x early.1.1 in let q = lined z p.1 in (tt, q.1)
  lined (no_params e) early = (tt, early)
  lined (next_param e f h i x z) early = let p = lined x early.1.1.1 in let q = lined z p.1 in (tt, q.1)
  lined (no_more_params e) early = (tt, early)
  lined (some_result e x) early = let p = lined x early.1 in (tt, p.1)
  lined (no_result e) early = (tt, early)
  lined (manager_row e) early = (tt, early.1)
  lined (block_row e h x f) early = let p = lined x early.1 in (p.0, p.1.1)
  lined (no_stmts e) early = (tt, early)
  lined (more_stmts {a = a} {b = b} e x y) early =
      let p = lined x early in let q = lined y p.1 in (then-lined most a b p.0 q.0, q.1)
  lined (let_row e f h i x j v l) early = let p = lined x early.1.1.1 in let q = lined v p.1.1 in ((early.0, tt), q.1.1)
  lined (assign_row {q = a} {o = o} {r = r} x y e v f) early =
      let p = lined x early in
      let q = lined y p.1 in
      let z = lined v q.1.1 in
      ((early.0, assigned-lined most a o r), z.1.1)
  lined (call_row x e) early = let p = lined x early in ((early.0, tt), p.1.1)
  lined (swap_row e f h x i) early = let p = lined x early.1.1.1 in ((early.0, tt), p.1.1)
  lined (if_row e x y v) early =
      let p = lined x early.1 in
      let q = lined y p.1 in
      let r = lined v q.1 in
      ((early.0, (q.0, r.0)), r.1)
  lined (while_row e x y) early = let p = lined x early.1 in let q = lined y p.1 in ((early.0, q.0), q.1)
  lined (enter_row e x f h i y w) early =
      let p = lined x early.1 in
      let q = lined y p.1.1.1 in
      let r = lined w q.1 in
      ((early.0, q.0), r.1)
  lined (print_row e x f) early = let p = lined x early.1 in ((early.0, tt), p.1.1)
  lined (collect_row e f) early = ((early.0, tt), early.1.1)
  lined (return_row e x f) early = let p = lined x early.1 in ((early.0, tt), p.1.1)
  lined (at_row e h x f) early = let p = lined x early.1 in (tt, p.1.1)
  lined (no_at e) early = (tt, early)
  lined (giving_row e f h) early = (tt, early.1.1.1)
  lined (no_giving e) early = (tt, early)
  lined (else_row e x) early = let p = lined x early.1 in (p.0, p.1)
  lined (else_none e) early = (tt, early)
  lined (path_row e x) early = let p = lined x early.1 in (tt, p.1)
  lined (next_field e f x) early = let p = lined x early.1.1 in (tt, p.1)
  lined (no_fields e) early = (tt, early)
  lined (new_row e x) early = let p = lined x early.1 in (tt, p.1)
  lined (freeze_row e f) early = (tt, early.1.1)
  lined (merge_row e f) early = (tt, early.1.1)
  lined (input_row e) early = (tt, early.1)
  lined (result_row x) early = let p = lined x early in (tt, p.1)
  lined (value_row e x) early = let p = lined x early in (tt, p.1)
  lined (new_plain e x) early = let p = lined x early.1 in (tt, p.1)
  lined (new_temporary e f x) early = let p = lined x early.1.1 in (tt, p.1)
  lined (new_region e f x h y) early = let p = lined x early.1.1 in let q = lined y p.1.1 in (tt, q.1)
  lined (call_start e x f h y) early = let p = lined x early.1 in let q = lined y p.1.1.1 in (tt, q.1)
  lined (call_base e) early = (tt, early.1)
  lined (call_further e f x) early = let p = lined x early.1.1 in (tt, p.1)
  lined (call_args e h x f) early = let p = lined x early.1 in (tt, p.1.1)
  lined (no_args e) early = (tt, early)
  lined (first_arg e x y) early = let p = lined x early in let q = lined y p.1 in (tt, q.1)
  lined (next_arg e x y) early = let p = lined x early.1 in let q = lined y p.1 in (tt, q.1)
  lined (no_more_args e) early = (tt, early)
  lined (expr_row x y) early = let p = lined x early in let q = lined y p.1 in (tt, q.1)
  lined (or_row e h x y) early = let p = lined x early.1 in let q = lined y p.1 in (tt, q.1)
  lined (no_or e) early = (tt, early)
  lined (and_row x y) early = let p = lined x early in let q = lined y p.1 in (tt, q.1)
  lined (and_further e h x y) early = let p = lined x early.1 in let q = lined y p.1 in (tt, q.1)
  lined (no_and e) early = (tt, early)
  lined (not_row e x) early = let p = lined x early.1 in (tt, p.1)
  lined (no_not e x) early = let p = lined x early in (tt, p.1)
  lined (cmp_row x y) early = let p = lined x early in let q = lined y p.1 in (tt, q.1)
  lined (compared e h x) early = let p = lined x early.1 in (tt, p.1)
  lined (not_compared e) early = (tt, early)
  lined (sum_row x y) early = let p = lined x early in let q = lined y p.1 in (tt, q.1)
  lined (sum_further e h x y) early = let p = lined x early.1 in let q = lined y p.1 in (tt, q.1)
  lined (no_sum e) early = (tt, early)
  lined (mul_row x y) early = let p = lined x early in let q = lined y p.1 in (tt, q.1)
  lined (mul_further e h x y) early = let p = lined x early.1 in let q = lined y p.1 in (tt, q.1)
  lined (no_mul e) early = (tt, early)
  lined (minus e x) early = let p = lined x early.1 in (tt, p.1)
  lined (no_minus e x) early = let p = lined x early in (tt, p.1)
  lined (literal e) early = (tt, early.1)
  lined (parens e h x f) early = let p = lined x early.1 in (tt, p.1.1)
  lined (size_row e x) early = let p = lined x early.1 in (tt, p.1)
  lined (path_value x y) early = let p = lined x early in let q = lined y p.1 in (tt, q.1)
  lined (is_row e f) early = (tt, early.1.1)
  lined (element_of e h x f) early = let p = lined x early.1 in (tt, p.1.1)
  lined (no_is e) early = (tt, early)

-- the lines of a source are at most one more than its bytes
pub spelt-lined : (source : List ℕ) (t : Tree) (tokens : List Token) → cut source ≡ Ok tokens → Spells source t tokens →
    IsLined (suc (length source)) t
spelt-lined source t tokens h s = (lined (suc (length source)) s.1 (cut-early source tokens h)).0
