-- What is read fits: signs are counted, numbers are small, names have no brackets, and the text needs no more of these than the source had.
use Rattle.std.proofs.Common.{◌≡◌, refl, ℕ, true, false, List, IfSome, arith}
use Rattle.std.specs.List.{AllByRecursion}
use Rattle.rg_base.specs.declared.token.Token.{Token}
use Rattle.rg_tree.specs.declared.counts.Counts.{Counts}
use Rattle.rg_tree.specs.Forms.{Form, Given}
use Rattle.rg_tree.specs.Forms as form
use Rattle.rg_tree.specs.Grammar.{text, Reads, program_class, program_main, class_row, tmp_class_row, members_row, element_row, field_row}
use Rattle.rg_tree.specs.Grammar.{method_row, no_members, cap_row, at_row, no_at, giving_row, no_giving, size_row, element_of}
use Rattle.rg_tree.specs.Grammar.{plain_type, ref_type, first_param, no_params, next_param, no_more_params, some_result, no_result, manager_row}
use Rattle.rg_tree.specs.Grammar.{block_row, no_stmts, more_stmts, let_row, assign_row, call_row, swap_row, if_row, while_row, enter_row, print_row}
use Rattle.rg_tree.specs.Grammar.{collect_row, return_row, else_row, else_none, path_row, next_field, no_fields, new_row, freeze_row, merge_row}
use Rattle.rg_tree.specs.Grammar.{input_row, result_row, value_row, new_plain, new_temporary, new_region, call_start, call_base, call_further}
use Rattle.rg_tree.specs.Grammar.{call_args, no_args, first_arg, next_arg, no_more_args, expr_row, or_row, no_or, and_row, and_further, no_and}
use Rattle.rg_tree.specs.Grammar.{not_row, no_not, cmp_row, compared, not_compared, sum_row, sum_further, no_sum, mul_row, mul_further, no_mul}
use Rattle.rg_tree.specs.Grammar.{minus}
use Rattle.rg_tree.specs.Grammar.{no_minus, literal, parens, path_value, is_row, no_is}
use Rattle.rg_limits.specs.Bare.{IsBare, IsBarePath, IsBareType, IsBareParam}
use Rattle.rg_within.proofs.Tokens.{AreFine}
use Rattle.rg_within.proofs.Spent.{Spent, still, behind, before, local-spent, param-spent, field-spent, no-room, Fits, looser, or-levels}
use Rattle.rg_within.proofs.Spent.{and-levels}
use Rattle.rg_within.proofs.Spent.{comparison-levels, sum-levels, product-levels, operator-fits, not-fits, neg-fits, parens-fits, path-fits}
use Rattle.rg_within.proofs.Spent.{is_nil-fits}
use Rattle.rg_within.proofs.Spent.{size-fits, element-fits, literal-fits}
use Rattle.rg_within.proofs.Pieces.{name-of, base-bare, plain_type-bare, longer-bare, ArgsFit, args-fit, no-args, IndexFits, at-fits, no-index}
use Rattle.rg_within.proofs.Pieces.{CallFits, call-behind, args-call, RightFits, value-fits, input-fits, StmtFits, BlockFits, BracedFits, ElseFits}
use Rattle.rg_within.proofs.Pieces.{declare-fits, assigned-fits, call-fits, swap-fits, print-fits, return-fits, collect-fits, while-fits}
use Rattle.rg_within.proofs.Pieces.{branch-fits}
use Rattle.rg_within.proofs.Pieces.{otherwise-fits, enter-fits, then-fits, braced, MembersFit, field-fits, method-fits, RestFits, members-rest}
use Rattle.rg_within.proofs.Pieces.{element-rest, ClassFits, class-fits, ProgramFits, program-more, program-ends}

-- what was read, between two counts
abbrev pub Fitting : (f : Form) → Given f → Counts → Counts → Type 0
Fitting form.Program t c d = ProgramFits c t
Fitting form.Class k c d = ClassFits c d k
Fitting form.ClassRest r c d = RestFits c d r.0 r.1
Fitting form.Members ms c d = MembersFit c d ms
Fitting form.Cap a c d = Spent 0 c d
Fitting form.Type' y c d = Spent 0 c d × IsBareType y
Fitting form.Params ps c d = Spent 0 c d × AllByRecursion IsBareParam ps
Fitting form.MoreParams ps c d = Spent 0 c d × AllByRecursion IsBareParam ps
Fitting form.Result o c d = Spent 0 c d × IfSome o IsBareType
Fitting form.Manager m c d = Spent 0 c d
Fitting form.Block b c d = BracedFits c d b
Fitting form.Stmts b c d = BlockFits c d b
Fitting form.Stmt s c d = c.signs ≡ 0 → StmtFits c d s
Fitting form.At o c d = IndexFits c d o
Fitting form.Giving o c d = Spent 0 c d × IfSome o IsBare
Fitting form.Else o c d = ElseFits c d o
Fitting form.Path q c d = Spent 0 c d × IsBarePath q
Fitting form.Fields fs c d = Spent 0 c d × AllByRecursion IsBare fs
Fitting form.Right r c d = RightFits c d r
Fitting form.New r c d = RightFits c d r
Fitting form.Call a c d = CallFits c d a
Fitting form.CallBase v c d = Spent 0 c d × IfSome v IsBare
Fitting (form.CallRest q m) a c d = IsBarePath q → IsBare m → CallFits c d a
Fitting form.Args es c d = ArgsFit c d es
Fitting form.MoreArgs es c d = ArgsFit c d es
Fitting form.Expr e c d = Fits 0 c d e
Fitting (form.OrRest a) e c d = (b : Counts) → Fits 0 b c a → Fits 0 b d e
Fitting form.And e c d = Fits 1 c d e
Fitting (form.AndRest a) e c d = (b : Counts) → Fits 1 b c a → Fits 1 b d e
Fitting form.Not e c d = Fits 2 c d e
Fitting form.Cmp e c d = Fits 3 c d e
Fitting (form.CmpRest a) e c d = (b : Counts) → Fits 4 b c a → Fits 3 b d e
Fitting form.Sum e c d = Fits 4 c d e
Fitting (form.SumRest a) e c d = (b : Counts) → Fits 4 b c a → Fits 4 b d e
Fitting form.Mul e c d = Fits 5 c d e
Fitting (form.MulRest a) e c d = (b : Counts) → Fits 5 b c a → Fits 5 b d e
Fitting form.Unary e c d = Fits 6 c d e
Fitting form.Primary e c d = Fits 7 c d e
Fitting (form.Is q) e c d = (b : Counts) → Spent 0 b c → IsBarePath q → Fits 7 b d e

module _ {source : List ℕ} where
  -- each reading fits
  pub fitting : {f : Form} {c d : Counts} {ts us : List Token} {a : Given f} → Reads source f c ts a d us → AreFine source ts
      → Fitting f a c d × AreFine source us
  fitting (program_class x y) fine = let p = fitting x fine in let q = fitting y p.1 in (program-more p.0 q.0, q.1)
  fitting (program_main {t = t} {m = m} e x y) fine =
      let p = fitting x fine.1 in let q = fitting y p.1 in (program-ends m t.line p.0 q.0, q.1)
  fitting (class_row {t = t} {u = u} {r = r} e f h x) fine =
      let p = fitting x fine.1.1 in (class-fits false (text source u) r t.line h (name-of u.kind (text source u) f fine.1.0) p.0, p.1)
  fitting (tmp_class_row {t = t} {u = u} {r = r} e i f h x) fine =
      let p = fitting x fine.1.1.1 in (class-fits true (text source u) r t.line h (name-of u.kind (text source u) f fine.1.1.0) p.0, p.1)
  fitting (members_row e h x f) fine = let p = fitting x fine.1 in (members-rest h p.0, p.1.1)
  fitting (element_row {y = y} e h x f i) fine = let p = fitting x fine.1 in (element-rest y h p.0, p.1.1.1)
  fitting (field_row {t = t} {y = y} e h i x j z) fine =
      let p = fitting x fine.1.1 in
      let q = fitting z p.1.1 in
      (field-fits (text source t) y t.line (name-of t.kind (text source t) e fine.0) (field-spent h) p.0 q.0, q.1)
  fitting (method_row {e = e'} {t = t} {u = u} {a = a} {ps = ps} {o = o} {b = b} e x f h i j y l m n z) fine =
      let p = fitting x fine.1 in
      let q = fitting y p.1.1.1 in
      let r = fitting m q.1.1 in
      let v = fitting n r.1 in
      let w = fitting z v.1 in (
        method-fits (record { receiver = a; name = text source u; params = ps; result = o; body = b; line = t.line }) e'
            (name-of u.kind (text source u) f p.1.0) p.0 h j q.0 r.0 v.0 w.0,
        w.1,
      )
  fitting (no_members {c = c} e) fine =
      (record { signs = tt; small = tt; bare = tt; brackets = refl; room = no-room c.brackets }, fine)
  fitting (cap_row e) fine = (still, fine.1)
  fitting (plain_type {t = t} {y = y} e) fine = ((still, plain_type-bare t.kind y e), fine.1)
  fitting (ref_type {t = t} x e) fine = let p = fitting x fine in ((p.0, name-of t.kind (text source t) e p.1.0), p.1.1)
  fitting (first_param {t = t} e h i x z) fine =
      let p = fitting x fine.1.1 in
      let q = fitting z p.1 in (
        (
          behind (param-spent h) (behind p.0.0 q.0.0),
          (record { name = name-of t.kind (text source t) e fine.0; ty = p.0.1 }, q.0.1),
        ),
        q.1,
      )
  fitting (no_params e) fine = ((still, tt), fine)
  fitting (next_param {u = u} e f h i x z) fine =
      let p = fitting x fine.1.1.1 in
      let q = fitting z p.1 in (
        (
          behind (param-spent h) (behind p.0.0 q.0.0),
          (record { name = name-of u.kind (text source u) f fine.1.0; ty = p.0.1 }, q.0.1),
        ),
        q.1,
      )
  fitting (no_more_params e) fine = ((still, tt), fine)
  fitting (some_result e x) fine = let p = fitting x fine.1 in ((p.0.0, p.0.1), p.1)
  fitting (no_result e) fine = ((still, tt), fine)
  fitting (manager_row e) fine = (still, fine.1)
  fitting (block_row e h x f) fine = let p = fitting x fine.1 in (braced h p.0, p.1.1)
  fitting (no_stmts {c = c} e) fine =
      (record { signs = tt; small = tt; bare = tt; brackets = refl; room = no-room c.brackets }, fine)
  fitting (more_stmts {a = a} e x y) fine = let p = fitting x fine in let q = fitting y p.1 in (then-fits a (p.0 refl) q.0, q.1)
  fitting (let_row {u = u} {y = y} e f h i x j v l) fine =
      let p = fitting x fine.1.1.1 in
      let q = fitting v p.1.1 in
      (λ z. declare-fits (text source u) y (name-of u.kind (text source u) f fine.1.0) (local-spent h) p.0 q.0 z, q.1.1)
  fitting (assign_row {q = a} {o = o} x y e v f) fine =
      let p = fitting x fine in
      let q = fitting y p.1 in
      let r = fitting v q.1.1 in
      (λ z. assigned-fits a o p.0 q.0 r.0 z, r.1.1)
  fitting (call_row x e) fine = let p = fitting x fine in (λ z. call-fits p.0 z, p.1.1)
  fitting (swap_row {u = u} {q = a} e f h x i) fine =
      let p = fitting x fine.1.1.1 in
      (λ z. swap-fits (text source u) a (name-of u.kind (text source u) f fine.1.0) p.0, p.1.1)
  fitting (if_row e x y v) fine =
      let p = fitting x fine.1 in
      let q = fitting y p.1 in
      let r = fitting v q.1 in
      (λ z. branch-fits p.0 q.0 r.0 z, r.1)
  fitting (while_row e x y) fine = let p = fitting x fine.1 in let q = fitting y p.1 in (λ z. while-fits p.0 q.0 z, q.1)
  fitting (enter_row {v = v} {q = a} e x f h i y w) fine =
      let p = fitting x fine.1 in
      let q = fitting y p.1.1.1 in
      let r = fitting w q.1 in
      (λ z. enter-fits a (text source v) p.0 (name-of v.kind (text source v) h p.1.1.0) (local-spent i) q.0 r.0, r.1)
  fitting (print_row e x f) fine = let p = fitting x fine.1 in (λ z. print-fits p.0 z, p.1.1)
  fitting (collect_row e f) fine = (λ z. collect-fits, fine.1.1)
  fitting (return_row e x f) fine = let p = fitting x fine.1 in (λ z. return-fits p.0 z, p.1.1)
  fitting (at_row e h x f) fine = let p = fitting x fine.1 in (at-fits h p.0, p.1.1)
  fitting (no_at e) fine = (no-index, fine)
  fitting (giving_row {u = u} e f h) fine = ((still, name-of u.kind (text source u) f fine.1.0), fine.1.1.1)
  fitting (no_giving e) fine = ((still, tt), fine)
  fitting (else_row e x) fine = let p = fitting x fine.1 in (otherwise-fits p.0, p.1)
  fitting (else_none {c = c} e) fine =
      (record { signs = tt; small = tt; bare = tt; brackets = refl; room = no-room c.brackets }, fine)
  fitting (path_row {t = t} {b = b} e x) fine =
      let p = fitting x fine.1 in
      ((p.0.0, record { base = base-bare t.kind (text source t) b e fine.0; fields = p.0.1 }), p.1)
  fitting (next_field {u = u} e f x) fine =
      let p = fitting x fine.1.1 in ((p.0.0, (name-of u.kind (text source u) f fine.1.0, p.0.1)), p.1)
  fitting (no_fields e) fine = ((still, tt), fine)
  fitting (new_row e x) fine = let p = fitting x fine.1 in (p.0, p.1)
  fitting (freeze_row {c = c} {u = u} e f) fine = (
    record { spent = still; small = tt; bare = name-of u.kind (text source u) f fine.1.0; room = no-room c.brackets },
    fine.1.1,
  )
  fitting (merge_row {c = c} {u = u} e f) fine = (
    record { spent = still; small = tt; bare = name-of u.kind (text source u) f fine.1.0; room = no-room c.brackets },
    fine.1.1,
  )
  fitting (input_row {c = c} {t = t} {r = r} e) fine = (input-fits t.kind r c e, fine.1)
  fitting (result_row x) fine = let p = fitting x fine in (record { spent = p.0.spent; small = p.0.small; bare = p.0.bare; room = p.0.room }, p.1)
  fitting (value_row e x) fine = let p = fitting x fine in (value-fits p.0, p.1)
  fitting (new_plain {t = t} e x) fine =
      let p = fitting x fine.1 in (
        record {
          spent = p.0.spent;
          small = p.0.small;
          bare = (name-of t.kind (text source t) e fine.0, p.0.bare);
          room = p.0.room;
        },
        p.1,
      )
  fitting (new_temporary {u = u} e f x) fine =
      let p = fitting x fine.1.1 in (
        record {
          spent = p.0.spent;
          small = p.0.small;
          bare = (name-of u.kind (text source u) f fine.1.0, p.0.bare);
          room = p.0.room;
        },
        p.1,
      )
  fitting (new_region {u = u} e f x h y) fine =
      let p = fitting x fine.1.1 in
      let q = fitting y p.1.1 in (
        record {
          spent = before p.0.spent q.0;
          small = p.0.small;
          bare = (name-of u.kind (text source u) f fine.1.0, p.0.bare);
          room = p.0.room;
        },
        q.1,
      )
  fitting (call_start {v = v} e x f h y) fine =
      let p = fitting x fine.1 in
      let q = fitting y p.1.1.1 in
      (call-behind p.0.0 (q.0 (record { base = p.0.1; fields = tt }) (name-of v.kind (text source v) h p.1.1.0)), q.1)
  fitting (call_base {t = t} {b = b} e) fine = ((still, base-bare t.kind (text source t) b e fine.0), fine.1)
  fitting (call_further {u = u} {q = a} {m = m} e f x) fine =
      let p = fitting x fine.1.1 in
      (λ hq hm. p.0 (longer-bare a m hq hm) (name-of u.kind (text source u) f fine.1.0), p.1)
  fitting (call_args {q = a} {m = m} e h x f) fine = let p = fitting x fine.1 in (λ hq hm. args-call a m h hq hm p.0, p.1.1)
  fitting (no_args e) fine = (no-args, fine)
  fitting (first_arg e x y) fine = let p = fitting x fine in let q = fitting y p.1 in (args-fit p.0 q.0, q.1)
  fitting (next_arg e x y) fine = let p = fitting x fine.1 in let q = fitting y p.1 in (args-fit p.0 q.0, q.1)
  fitting (no_more_args e) fine = (no-args, fine)
  fitting (expr_row {c = c} x y) fine =
      let p = fitting x fine in let q = fitting y p.1 in (q.0 c (looser 0 1 (omega arith) p.0), q.1)
  fitting (or_row e h x y) fine =
      let p = fitting x fine.1 in let q = fitting y p.1 in (λ b i. q.0 b (operator-fits or-levels i h p.0), q.1)
  fitting (no_or e) fine = (λ b i. i, fine)
  fitting (and_row {c = c} x y) fine =
      let p = fitting x fine in let q = fitting y p.1 in (q.0 c (looser 1 2 (omega arith) p.0), q.1)
  fitting (and_further e h x y) fine =
      let p = fitting x fine.1 in let q = fitting y p.1 in (λ b i. q.0 b (operator-fits and-levels i h p.0), q.1)
  fitting (no_and e) fine = (λ b i. i, fine)
  fitting (not_row e x) fine = let p = fitting x fine.1 in (not-fits p.0, p.1)
  fitting (no_not e x) fine = let p = fitting x fine in (looser 2 3 (omega arith) p.0, p.1)
  fitting (cmp_row {c = c} x y) fine = let p = fitting x fine in let q = fitting y p.1 in (q.0 c p.0, q.1)
  fitting (compared {t = t} {o = o} e h x) fine =
      let p = fitting x fine.1 in (λ b i. operator-fits (comparison-levels t.kind o e) i h p.0, p.1)
  fitting (not_compared e) fine = (λ b i. looser 3 4 (omega arith) i, fine)
  fitting (sum_row {c = c} x y) fine =
      let p = fitting x fine in let q = fitting y p.1 in (q.0 c (looser 4 5 (omega arith) p.0), q.1)
  fitting (sum_further {t = t} {o = o} e h x y) fine =
      let p = fitting x fine.1 in
      let q = fitting y p.1 in
      (λ b i. q.0 b (operator-fits (sum-levels t.kind o e) i h p.0), q.1)
  fitting (no_sum e) fine = (λ b i. i, fine)
  fitting (mul_row {c = c} x y) fine =
      let p = fitting x fine in let q = fitting y p.1 in (q.0 c (looser 5 6 (omega arith) p.0), q.1)
  fitting (mul_further {t = t} {o = o} e h x y) fine =
      let p = fitting x fine.1 in
      let q = fitting y p.1 in
      (λ b i. q.0 b (operator-fits (product-levels t.kind o e) i h p.0), q.1)
  fitting (no_mul e) fine = (λ b i. i, fine)
  fitting (minus e x) fine = let p = fitting x fine.1 in (neg-fits p.0, p.1)
  fitting (no_minus e x) fine = let p = fitting x fine in (looser 6 7 (omega arith) p.0, p.1)
  fitting (literal {c = c} {t = t} {a = a} e) fine = (literal-fits t.kind (text source t) a c e fine.0, fine.1)
  fitting (parens e h x f) fine = let p = fitting x fine.1 in (parens-fits h p.0, p.1.1)
  fitting (size_row {q = a} e x) fine = let p = fitting x fine.1 in (size-fits a p.0.0 p.0.1, p.1)
  fitting (path_value {c = c} x y) fine = let p = fitting x fine in let q = fitting y p.1 in (q.0 c p.0.0 p.0.1, q.1)
  fitting (is_row {q = a} e f) fine = (λ b i h. is_nil-fits a i h, fine.1.1)
  fitting (element_of {q = a} e h x f) fine = let p = fitting x fine.1 in (λ b i j. element-fits a i j h p.0, p.1.1)
  fitting (no_is {q = a} e) fine = (λ b i h. path-fits a i h, fine)
