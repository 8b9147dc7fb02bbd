-- What a source spells, its lexemes spell: each reading from a source tells it.
use Rattle.std.proofs.Common.{◌≡◌, ℕ, suc, ◌+◌, ◌*◌, true, false, List, [], ◌∷◌, ◌++◌, length, replicate, None, Some, refl, sym, ◌∙◌, ap}
use Rattle.std.proofs.Common.{subst, arith}
use Rattle.rg_base.specs.declared.words.Keyword.TheVariants as w
use Rattle.rg_base.specs.declared.words.Sign.TheVariants as s
use Rattle.rg_base.specs.declared.token.Kind.TheVariants as k
use Rattle.rg_base.specs.declared.token.Token.{Token}
use Rattle.rg_base.specs.Tokens.{line_behind}
use Rattle.rg_tree.specs.declared.rows.BinOp.TheVariants.{Or, And}
use Rattle.rg_tree.specs.declared.counts.Counts.{Counts}
use Rattle.rg_tree.specs.Tree.{Name, size, declare, assign, assign_element, call, swap, branch, while, enter, print, collect, return, no_else}
use Rattle.rg_tree.specs.Tree.{otherwise, empty, then, field, method, Tree}
use Rattle.rg_tree.specs.Lineless.{stmt_lineless, block_lineless, else_lineless, class_lineless, lineless}
use Rattle.rg_tree.specs.Counts.{no_signs}
use Rattle.rg_tree.specs.Forms as form
use Rattle.rg_tree.specs.Forms.{Form, Given}
use Rattle.rg_tree.specs.Grammar.{Reads, text, with_class, program_class, program_main, class_row, tmp_class_row, members_row, element_row}
use Rattle.rg_tree.specs.Grammar.{field_row, method_row, no_members, at_row, no_at, giving_row, no_giving, size_row, element_of}
use Rattle.rg_tree.specs.Grammar.{cap_row, plain_type, ref_type, first_param, no_params, next_param, no_more_params, some_result, no_result}
use Rattle.rg_tree.specs.Grammar.{manager_row, block_row, no_stmts, more_stmts, let_row, assign_row, call_row, swap_row, if_row, while_row, enter_row}
use Rattle.rg_tree.specs.Grammar.{print_row, collect_row, return_row, else_row, else_none, path_row, next_field, no_fields, new_row, freeze_row}
use Rattle.rg_tree.specs.Grammar.{merge_row, input_row, result_row, value_row, new_plain, new_temporary, new_region, call_start, call_base}
use Rattle.rg_tree.specs.Grammar.{call_further, call_args, no_args, first_arg, next_arg, no_more_args, expr_row, or_row, no_or, and_row, and_further}
use Rattle.rg_tree.specs.Grammar.{no_and, not_row, no_not, cmp_row, compared, not_compared, sum_row, sum_further, no_sum, mul_row, mul_further}
use Rattle.rg_tree.specs.Grammar.{no_mul, minus, no_minus, literal, parens, path_value, is_row, no_is}
use Rattle.rg_print.proofs.Canon.Lexemes.{word, mark, named, space, newline, indent, dotted, index_lexemes, right_lexemes, giving_lexemes, braces}
use Rattle.rg_print.proofs.Canon.Lexemes.{stmt_lexemes, else_lexemes, block_lexemes, more_param_lexemes, param_lexemes, result_lexemes}
use Rattle.rg_print.proofs.Canon.Lexemes.{members_lexemes, program_lexemes}
use Rattle.rg_print.proofs.Canon.LexemeCuts.{token_at, tokens_at}
use Rattle.rg_print.proofs.Canon.FineTokens.{AreFine}
use Rattle.rg_print.proofs.Canon.LexemesApart.{path-apart, ty-apart, expr-apart, index-apart, call-apart, right-apart}
use Rattle.rg_print.proofs.Canon.Readings.{next-tokens_at}
use Rattle.rg_print.proofs.Canon.SameLines.{name-of, names-push, class-same, field-same, method-same}
use Rattle.rg_print.proofs.Canon.PartReads.{Fits, AtFits, CallFits, call-plain, right-plain, leads, cap-read, manager-read, ty-read, expr-read}
use Rattle.rg_print.proofs.Canon.PartReads.{index-read, call-read, right-read}
use Rattle.rg_print.proofs.Canon.ExprLimits.{depth_at, looser, loosest, at_zero, binary-fits, parens-fits, literal-fits, path-fits}
use Rattle.rg_print.proofs.Canon.ExprLimits.{is_nil-fits, size-fits, element-fits}
use Rattle.rg_print.proofs.Canon.ExprLimits.{comparison-levels, sum-levels, product-levels, operator-fits}
use Rattle.rg_print.proofs.Canon.CanonFacts.{stmt-begins, block-begins, ends-brace, ends-semicolon, blanks-blank, more_params-goes, plain_type-plain}
use Rattle.rg_print.proofs.Canon.CanonFacts.{base-plain, input-fits, ProgramWritten, Told, stmt-apart, stmt-read, path-reads, assign-reads}

module _ (S source : List ℕ) where
  -- each reading tells it
  told : {f : Form} {c d : Counts} {ts us : List Token} {a : Given f} → Reads source f c ts a d us → AreFine source ts
      → Told S f c a d × AreFine source us
  told (program_class {k = a} {r = b} x y) fine =
      let r = told x fine in
      let q = told y r.1 in (
        record {
          apart = r.0.apart (program_lexemes b) q.0.apart;
          reads = λ from line h.
              let u = r.0.reads from line (program_lexemes b) h in
              let v = q.0.reads u.read.from u.read.line u.read.spelt in
              record {
                tree = with_class u.tree v.tree;
                same = ap (λ z. with_class z (lineless v.tree)) u.same ∙ ap (with_class (class_lineless a)) v.same;
                read = record {
                  from = v.read.from;
                  line = v.read.line;
                  spelt = v.read.spelt;
                  reads = program_class u.read.reads v.read.reads;
                };
              };
        },
        q.1,
      )
  told (program_main {m = m} {b = b} e x y) fine =
      let r = told x fine.1 in
      let q = told y r.1 in (
        record {
          apart = (refl, (refl, (refl, (refl, q.0.apart 0 (newline ∷ []) (refl, tt)))));
          reads = λ from line h.
              let u = leads S _ _ _ r.0 (manager-read S m _ (from + 4 + 1) line (space ∷ braces 0 (block_lexemes 1 b) (newline ∷ [])) h) in
              let v = q.0.reads 0 (u.from + 1) u.line (newline ∷ []) u.spelt in
              record {
                tree = record { classes = []; manager = m; body = v.tree; line = line };
                same = ap (λ z. record { classes = []; manager = m; body = z; line = 0 }) v.same;
                read = record {
                  from = v.read.from + 1;
                  line = line_behind v.read.line (10 ∷ []);
                  spelt = v.read.spelt;
                  reads = program_main refl u.reads v.read.reads;
                };
              };
        },
        q.1,
      )
  told (class_row {u = u} {r = a} e f h x) fine =
      let r = told x fine.1.1 in
      let n = text source u in
      let name = name-of source u f fine.1.0 in (
        record {
          apart = λ rest y. (refl, (refl, (name, refl, (refl, r.0.apart rest y))));
          reads = λ from line rest y.
              let q = r.0.reads (from + 5 + 1 + length n + 1) line rest y.1 in
              record {
                tree = record {
                  name = text S (token_at k.Name (from + 5 + 1) (length n) line);
                  is_tmp = false;
                  element = q.tree.0;
                  members = q.tree.1;
                  line = line;
                };
                same = class-same false (text S (token_at k.Name (from + 5 + 1) (length n) line)) n q.tree a line 0 y.0 q.same;
                read = record { from = q.read.from; line = q.read.line; spelt = q.read.spelt; reads = class_row refl refl h q.read.reads };
              };
        },
        r.1,
      )
  told (tmp_class_row {u = u} {r = a} e m f h x) fine =
      let r = told x fine.1.1.1 in
      let n = text source u in
      let name = name-of source u f fine.1.1.0 in (
        record {
          apart = λ rest y. (refl, (refl, (refl, (refl, (name, refl, (refl, r.0.apart rest y))))));
          reads = λ from line rest y.
              let q = r.0.reads (from + 3 + 1 + 5 + 1 + length n + 1) line rest y.1 in
              record {
                tree = record {
                  name = text S (token_at k.Name (from + 3 + 1 + 5 + 1) (length n) line);
                  is_tmp = true;
                  element = q.tree.0;
                  members = q.tree.1;
                  line = line;
                };
                same = class-same true (text S (token_at k.Name (from + 3 + 1 + 5 + 1) (length n) line)) n q.tree a line 0 y.0 q.same;
                read = record { from = q.read.from; line = q.read.line; spelt = q.read.spelt; reads = tmp_class_row refl refl refl h q.read.reads };
              };
        },
        r.1,
      )
  told (members_row {ms = ms} e h x f) fine =
      let r = told x fine.1 in (
        record {
          apart = λ rest y. (tt, (refl, r.0.apart (mark s.CloseBrace ∷ newline ∷ rest) (tt, (refl, y))));
          reads = λ from line rest y.
              let q = r.0.reads (from + 1 + 1) (line_behind line (10 ∷ [])) (mark s.CloseBrace ∷ newline ∷ rest) refl y in
              record {
                tree = (None, q.tree);
                same = let e = q.same in cc;
                read = record {
                  from = q.read.from + 1 + 1;
                  line = line_behind q.read.line (10 ∷ []);
                  spelt = q.read.spelt;
                  reads = members_row refl h q.read.reads refl;
                };
              };
        },
        r.1.1,
      )
  told (element_row {y = y} e h x f i) fine =
      let r = told x fine.1 in (
        record {
          apart = λ rest v.
              (tt, ty-apart y (mark s.CloseBracket ∷ mark s.Semicolon ∷ newline ∷ rest) r.0.0 refl (tt, (tt, (refl, v))));
          reads = λ from line rest v.
              let u = leads S _ _ _ r.0.1 (ty-read S y _ (from + 1) line (mark s.CloseBracket ∷ mark s.Semicolon ∷ newline ∷ rest) v) in
              record {
                tree = (Some y, []);
                same = refl;
                read = record {
                  from = u.from + 1 + 1 + 1;
                  line = line_behind u.line (10 ∷ []);
                  spelt = u.spelt;
                  reads = element_row refl h u.reads refl refl;
                };
              };
        },
        r.1.1.1,
      )
  told (field_row {t = t} {y = y} {ms = ms} e h i x j z) fine =
      let r = told x fine.1.1 in
      let q = told z r.1.1 in
      let n = text source t in
      let name = name-of source t e fine.0 in (
        record {
          apart = λ rest v. (refl, (name, refl, (tt, (refl, ty-apart y (mark s.Semicolon ∷ newline ∷ members_lexemes ms rest) r.0.0 refl (tt, (refl, q.0.apart rest v))))));
          reads = λ from line rest m v.
              let u = leads S _ _ _ r.0.1 (ty-read S y _ (from + 2 + length n + 1 + 1) line
              (mark s.Semicolon ∷ newline ∷ members_lexemes ms rest) v.1) in
              let o = q.0.reads (u.from + 1 + 1) (line_behind u.line (10 ∷ [])) rest m u.spelt in
              record {
                tree = field (record { name = text S (token_at k.Name (from + 2) (length n) line); ty = y; line = line }) ∷ o.tree;
                same = field-same (text S (token_at k.Name (from + 2) (length n) line)) n y o.tree ms line 0 v.0 o.same;
                read = record {
                  from = o.read.from;
                  line = o.read.line;
                  spelt = o.read.spelt;
                  reads = field_row refl h refl u.reads refl o.read.reads;
                };
              };
        },
        q.1,
      )
  told (method_row {u = u} {a = a} {ps = ps} {o = o} {b = b} {ms = ms} e x f h i j y l m n z) fine =
      let rx = told x fine.1 in
      let ry = told y rx.1.1.1 in
      let rm = told m ry.1.1 in
      let rn = told n rm.1 in
      let rz = told z rn.1 in
      let nm = text source u in
      let name = name-of source u f rx.1.0 in (
        record {
          apart = λ rest v.
              let body = space ∷ braces 1 (block_lexemes 2 b) (newline ∷ members_lexemes ms rest) in (
                refl,
                (
                  refl,
                  (
                    refl,
                    (
                      refl,
                      (
                        refl,
                        (
                          name,
                          refl,
                          (
                            tt,
                            ry.0.apart (mark s.CloseParen ∷ result_lexemes o body) refl
                                (tt, rm.0.apart body refl (refl, rn.0.apart 1 (newline ∷ members_lexemes ms rest) (refl, rz.0.apart rest v))),
                          ),
                        ),
                      ),
                    ),
                  ),
                ),
              );
          reads = λ from line rest mk v.
              let body = space ∷ braces 1 (block_lexemes 2 b) (newline ∷ members_lexemes ms rest) in
              let list = mark s.OpenParen ∷ param_lexemes ps (mark s.CloseParen ∷ result_lexemes o body) in
              let ux = leads S _ _ _ rx.0 (cap-read S a _ (from + 2 + 3 + 1) line (space ∷ named nm ∷ list) v) in
              let uy = ry.0.reads (ux.from + 1 + length nm + 1) ux.line (mark s.CloseParen ∷ result_lexemes o body) refl ux.spelt.1 in
              let um = rm.0.reads (uy.from + 1) uy.line body refl uy.spelt in
              let un = rn.0.reads 1 (um.from + 1) um.line (newline ∷ members_lexemes ms rest) um.spelt in
              let uz = rz.0.reads (un.read.from + 1) (line_behind un.read.line (10 ∷ [])) rest mk un.read.spelt in
              record {
                tree = method (record {
                  receiver = a;
                  name = text S (token_at k.Name (ux.from + 1) (length nm) ux.line);
                  params = ps;
                  result = o;
                  body = un.tree;
                  line = line;
                }) ∷ uz.tree;
                same = method-same a (text S (token_at k.Name (ux.from + 1)
                    (length nm) ux.line)) nm ps o un.tree b uz.tree ms line 0 ux.spelt.0 un.same uz.same;
                read = record {
                  from = uz.read.from;
                  line = uz.read.line;
                  spelt = uz.read.spelt;
                  reads = method_row refl ux.reads refl h refl j uy.reads refl um.reads un.read.reads uz.read.reads;
                };
              };
        },
        rz.1,
      )
  told (no_members e) fine = (
    record {
      apart = λ rest v. v;
      reads = λ from line rest m v. record {
        tree = [];
        same = refl;
        read = record { from = from; line = line; spelt = v; reads = no_members (rw (next-tokens_at from line rest) m) };
      };
    },
    fine,
  )
  told (cap_row e) fine = (refl, fine.1)
  told (plain_type {t = t} {y = y} e) fine = ((plain_type-plain t.kind y e, refl), fine.1)
  told (ref_type {t = t} x e) fine = let r = told x fine in ((name-of source t e r.1.0, r.0), r.1.1)
  told (first_param {c = c} {f = g} {t = t} {y = y} {ps = ps} e h i x z) fine =
      let r = told x fine.1.1 in
      let q = told z r.1 in
      let n = text source t in
      let name = name-of source t e fine.0 in (
        record {
          apart = λ rest o v. (name, refl, (tt, (refl, ty-apart y (more_param_lexemes ps rest) r.0.0 (more_params-goes ps rest o) (q.0.apart rest o v))));
          reads = λ from line rest m v.
              let u = leads S _ _ _ r.0.1 (ty-read S y _ (from + length n + 1 + 1) line (more_param_lexemes ps rest) v.1) in
              let o = q.0.reads u.from u.line rest m u.spelt in
              record {
                from = o.from;
                line = o.line;
                spelt = o.spelt;
                reads = subst (λ w. Reads S form.Params c (tokens_at from line (param_lexemes (record { name = n; ty = y } ∷ ps) rest))
                    (record { name = w; ty = y } ∷ ps) g (tokens_at o.from o.line rest)) v.0 (first_param refl h refl u.reads o.reads);
              };
        },
        q.1,
      )
  told (no_params e) fine = (
    record {
      apart = λ rest g v. v;
      reads = λ from line rest m v. record { from = from; line = line; spelt = v; reads = no_params (rw (next-tokens_at from line rest) m) };
    },
    fine,
  )
  told (next_param {c = c} {f = g} {u = t} {y = y} {ps = ps} e f h i x z) fine =
      let r = told x fine.1.1.1 in
      let q = told z r.1 in
      let n = text source t in
      let name = name-of source t f fine.1.0 in (
        record {
          apart = λ rest o v. (tt, (refl, (name, refl, (tt, (refl, ty-apart y (more_param_lexemes ps rest) r.0.0 (more_params-goes ps rest o) (q.0.apart rest o v))))));
          reads = λ from line rest m v.
              let u = leads S _ _ _ r.0.1 (ty-read S y _ (from + 1 + 1 + length n + 1 + 1) line (more_param_lexemes ps rest) v.1) in
              let o = q.0.reads u.from u.line rest m u.spelt in
              record {
                from = o.from;
                line = o.line;
                spelt = o.spelt;
                reads = subst (λ w. Reads S form.MoreParams c (tokens_at from line (more_param_lexemes (record { name = n; ty = y } ∷ ps) rest))
                    (record { name = w; ty = y } ∷ ps) g (tokens_at o.from o.line rest)) v.0 (next_param refl refl h refl u.reads o.reads);
              };
        },
        q.1,
      )
  told (no_more_params e) fine = (
    record {
      apart = λ rest g v. v;
      reads = λ from line rest m v. record { from = from; line = line; spelt = v; reads = no_more_params (rw (next-tokens_at from line rest) m) };
    },
    fine,
  )
  told (some_result {y = y} e x) fine =
      let r = told x fine.1 in (
        record {
          apart = λ rest g v. (tt, (refl, ty-apart y rest r.0.0 g v));
          reads = λ from line rest m v.
              let u = leads S _ _ _ r.0.1 (ty-read S y _ (from + 1 + 1) line rest v) in
              record { from = u.from; line = u.line; spelt = u.spelt; reads = some_result refl u.reads };
        },
        r.1,
      )
  told (no_result e) fine = (
    record {
      apart = λ rest g v. v;
      reads = λ from line rest m v. record { from = from; line = line; spelt = v; reads = no_result (rw (next-tokens_at from line rest) m) };
    },
    fine,
  )
  told (manager_row e) fine = (refl, fine.1)
  told (block_row {b = b} e h x f) fine =
      let r = told x fine.1 in (
        record {
          apart = λ n rest v. (tt, (refl, r.0.apart (suc n) (indent n ∷ mark s.CloseBrace ∷ rest) (blanks-blank (2 * n), (tt, v))));
          reads = λ n from line rest v.
              let blanks = replicate {A = ℕ} (2 * n) 32 in
              let q = r.0.reads (suc n) (from + 1 + 1) (line_behind line (10 ∷ [])) (indent n ∷ mark s.CloseBrace ∷ rest) refl v in
              record {
                tree = q.tree;
                same = q.same;
                read = record {
                  from = q.read.from + length blanks + 1;
                  line = line_behind q.read.line blanks;
                  spelt = q.read.spelt;
                  reads = block_row refl h q.read.reads refl;
                };
              };
        },
        r.1.1,
      )
  told (no_stmts e) fine = (
    record {
      apart = λ n rest v. v;
      reads = λ n from line rest m v. record {
        tree = empty;
        same = refl;
        read = record { from = from; line = line; spelt = v; reads = no_stmts (rw (next-tokens_at from line rest) m) };
      };
    },
    fine,
  )
  told (more_stmts {c = c} {d = d} {a = a} {b = b} e x y) fine =
      let r = told x fine in
      let q = told y r.1 in (
        record {
          apart = λ n rest v. stmt-apart S n a (no_signs c) d r.0 (block_lexemes n b rest) (q.0.apart n rest v);
          reads = λ n from line rest m v.
              let u = stmt-read S n a (no_signs c) d r.0 from line (block_lexemes n b rest) (block-begins n b rest m) v in
              let o = q.0.reads n u.read.from u.read.line rest m u.read.spelt in
              record {
                tree = then u.tree o.tree;
                same = ap (λ z. then z (block_lineless o.tree)) u.same ∙ ap (then (stmt_lineless a)) o.same;
                read = record {
                  from = o.read.from;
                  line = o.read.line;
                  spelt = o.read.spelt;
                  reads = more_stmts (rw (next-tokens_at from line (stmt_lexemes n a (block_lexemes n b rest))) (stmt-begins n a
                      (block_lexemes n b rest)).stmts)
                      u.read.reads o.read.reads;
                };
              };
        },
        q.1,
      )
  told (let_row {u = u} {y = y} {r = a} e f h i x j z l) fine =
      let r = told x fine.1.1.1 in
      let q = told z r.1.1 in
      let n = text source u in
      let name = name-of source u f fine.1.0 in (
        record {
          apart = λ d rest v. (
            refl,
            (
              refl,
              (
                name,
                refl,
                (
                  tt,
                  (
                    refl,
                    ty-apart y (space ∷ mark s.Assign ∷ space ∷ right_lexemes a
                        (mark s.Semicolon ∷ rest)) r.0.0 refl
                        (refl, (refl, (refl, right-apart a (mark s.Semicolon ∷ rest) (right-plain a _ _ q.0) refl (tt, v)))),
                  ),
                ),
              ),
            ),
          );
          reads = λ d from line rest m v.
              let o = leads S _ _ _ r.0.1 (ty-read S y _ (from + 3 + 1 + length n + 1 + 1) line
              (space ∷ mark s.Assign ∷ space ∷ right_lexemes a (mark s.Semicolon ∷ rest)) v.1) in
              let g = right-read S a _ _ (o.from + 1 + 1 + 1) o.line (mark s.Semicolon ∷ rest) q.0 ends-semicolon o.spelt in
              record {
                at = line;
                kind = declare (text S (token_at k.Name (from + 3 + 1) (length n) line)) y a;
                same = ap (λ w. declare w y a) v.0;
                read = record { from = g.from + 1; line = g.line; spelt = g.spelt; reads = let_row refl refl h refl o.reads refl g.reads refl };
              };
        },
        q.1.1,
      )
  told (assign_row {q = p0} {o = None} {r = a} x z e y f) fine =
      let r = told x fine in
      let n = told z r.1 in
      let q = told y n.1.1 in (
        record {
          apart = λ d rest v. path-apart p0 (space ∷ mark s.Assign ∷ space ∷ right_lexemes a (mark s.Semicolon ∷ rest)) r.0.0 refl
              (refl, (refl, (refl, right-apart a (mark s.Semicolon ∷ rest) (right-plain a _ _ q.0) refl (tt, v))));
          reads = λ d from line rest m v.
              let after = right_lexemes a (mark s.Semicolon ∷ rest) in
              let o = path-reads S p0 _ _ (r.0.1 ∙ n.0) from line (space ∷ mark s.Assign ∷ space ∷ after) refl v in
              let g = right-read S a _ _ (o.from + 1 + 1 + 1) o.line (mark s.Semicolon ∷ rest) q.0 ends-semicolon o.spelt in
              let w = assign-reads S p0.base _ _ _ _ from line (dotted p0.fields
              (space ∷ mark s.Assign ∷ space ∷ after)) _ _ _ _ _ p0 None a o.reads (no_at refl) refl g.reads refl in
              record {
                at = w.0;
                kind = assign p0 a;
                same = refl;
                read = record { from = g.from + 1; line = g.line; spelt = g.spelt; reads = w.1 };
              };
        },
        q.1.1,
      )
  told (assign_row {q = p0} {o = Some i} {r = a} x z e y f) fine =
      let r = told x fine in
      let n = told z r.1 in
      let q = told y n.1.1 in (
        record {
          apart = λ d rest v.
              let after = space ∷ mark s.Assign ∷ space ∷ right_lexemes a (mark s.Semicolon ∷ rest) in
              path-apart p0 (index_lexemes i after) r.0.0 refl
              (index-apart i after n.0.inner.plain
              (refl, (refl, (refl, right-apart a (mark s.Semicolon ∷ rest) (right-plain a _ _ q.0) refl (tt, v)))));
          reads = λ d from line rest m v.
              let after = space ∷ mark s.Assign ∷ space ∷ right_lexemes a (mark s.Semicolon ∷ rest) in
              let o = path-reads S p0 _ _ r.0.1 from line (index_lexemes i after) refl v in
              let l = index-read S i _ _ o.from o.line after n.0 o.spelt in
              let g = right-read S a _ _ (l.from + 1 + 1 + 1) l.line (mark s.Semicolon ∷ rest) q.0 ends-semicolon l.spelt in
              let w = assign-reads S p0.base _ _ _ _ from line (dotted p0.fields
              (index_lexemes i after)) _ _ _ _ _ p0 (Some i) a o.reads l.reads refl g.reads refl in
              record {
                at = w.0;
                kind = assign_element p0 i a;
                same = refl;
                read = record { from = g.from + 1; line = g.line; spelt = g.spelt; reads = w.1 };
              };
        },
        q.1.1,
      )
  told (call_row {a = a} x e) fine =
      let r = told x fine in (
        record {
          apart = λ d rest v. call-apart a (mark s.Semicolon ∷ rest) (call-plain a _ _ r.0) (tt, v);
          reads = λ d from line rest m v.
              let o = call-read S a _ _ from line (mark s.Semicolon ∷ rest) r.0 v in
              record {
                at = line;
                kind = call a;
                same = refl;
                read = record { from = o.from + 1; line = o.line; spelt = o.spelt; reads = call_row o.reads refl };
              };
        },
        r.1.1,
      )
  told (swap_row {u = u} {q = p0} e f h x i) fine =
      let r = told x fine.1.1.1 in
      let n = text source u in
      let name = name-of source u f fine.1.0 in (
        record {
          apart = λ d rest v. (refl, (refl, (name, refl, (tt, (refl, path-apart p0 (mark s.Semicolon ∷ rest) r.0.0 refl (tt, v))))));
          reads = λ d from line rest m v.
              let o = path-reads S p0 _ _ r.0.1 (from + 4 + 1 + length n + 1 + 1) line (mark s.Semicolon ∷ rest) refl v.1 in
              record {
                at = line;
                kind = swap (text S (token_at k.Name (from + 4 + 1) (length n) line)) p0;
                same = ap (λ w. swap w p0) v.0;
                read = record { from = o.from + 1; line = o.line; spelt = o.spelt; reads = swap_row refl refl refl o.reads refl };
              };
        },
        r.1.1,
      )
  told (if_row {a = a} {b = b} {o = o} e x y z) fine =
      let r = told x fine.1 in
      let q = told y r.1 in
      let t = told z q.1 in (
        record {
          apart = λ d rest v. (
            refl,
            (
              refl,
              expr-apart a r.0.plain (space ∷ braces d (block_lexemes (suc d) b) (else_lexemes d o rest)) refl
                  (refl, q.0.apart d (else_lexemes d o rest) (t.0.apart d rest v)),
            ),
          );
          reads = λ d from line rest m v.
              let i = expr-read S a _ _ (from + 2 + 1) line (space ∷ braces d (block_lexemes (suc d) b) (else_lexemes d o rest)) r.0 ends-brace v in
              let j = q.0.reads d (i.from + 1) i.line (else_lexemes d o rest) i.spelt in
              let l = t.0.reads d j.read.from j.read.line rest m.no_else j.read.spelt in
              record {
                at = line;
                kind = branch a j.tree l.tree;
                same = ap (λ w. branch a w (else_lineless l.tree)) j.same ∙ ap (branch a (block_lineless b)) l.same;
                read = record {
                  from = l.read.from;
                  line = l.read.line;
                  spelt = l.read.spelt;
                  reads = if_row refl i.reads j.read.reads l.read.reads;
                };
              };
        },
        t.1,
      )
  told (while_row {a = a} {b = b} e x y) fine =
      let r = told x fine.1 in
      let q = told y r.1 in (
        record {
          apart = λ d rest v. (refl, (refl, expr-apart a r.0.plain (space ∷ braces d (block_lexemes (suc d) b) rest) refl (refl, q.0.apart d rest v)));
          reads = λ d from line rest m v.
              let i = expr-read S a _ _ (from + 5 + 1) line (space ∷ braces d (block_lexemes (suc d) b) rest) r.0 ends-brace v in
              let j = q.0.reads d (i.from + 1) i.line rest i.spelt in
              record {
                at = line;
                kind = while a j.tree;
                same = ap (while a) j.same;
                read = record { from = j.read.from; line = j.read.line; spelt = j.read.spelt; reads = while_row refl i.reads j.read.reads };
              };
        },
        q.1,
      )
  told (enter_row {v = t} {q = p0} {b = b} {o = g} e x f h i y z) fine =
      let r = told x fine.1 in
      let q = told y r.1.1.1 in
      let l = told z q.1 in
      let n = text source t in
      let name = name-of source t h r.1.1.0 in (
        record {
          apart = λ d rest v.
              let body = space ∷ braces d (block_lexemes (suc d) b) (giving_lexemes g rest) in (
                refl,
                (
                  refl,
                  path-apart p0 (space ∷ word w.As ∷ space ∷ named n ∷ body) r.0.0 refl
                      (refl, (refl, (refl, (name, refl, (refl, q.0.apart d (giving_lexemes g rest) (l.0.apart rest v)))))),
                ),
              );
          reads = λ d from line rest m v.
              let body = space ∷ braces d (block_lexemes (suc d) b) (giving_lexemes g rest) in
              let o = path-reads S p0 _ _ r.0.1 (from + 5 + 1) line (space ∷ word w.As ∷ space ∷ named n ∷ body) refl v in
              let j = q.0.reads d (o.from + 1 + 2 + 1 + length n + 1) o.line (giving_lexemes g rest) o.spelt.1 in
              let u = l.0.reads j.read.from j.read.line rest m.no_giving j.read.spelt in
              record {
                at = line;
                kind = enter p0 (text S (token_at k.Name (o.from + 1 + 2 + 1) (length n) o.line)) j.tree g;
                same = ap (λ z. enter p0 z (block_lineless j.tree) g) o.spelt.0 ∙ ap (λ z. enter p0 n z g) j.same;
                read = record {
                  from = u.from;
                  line = u.line;
                  spelt = u.spelt;
                  reads = enter_row refl o.reads refl refl i j.read.reads u.reads;
                };
              };
        },
        l.1,
      )
  told (print_row {a = a} e x f) fine =
      let r = told x fine.1 in (
        record {
          apart = λ d rest v. (refl, (refl, expr-apart a r.0.plain (mark s.Semicolon ∷ rest) refl (tt, v)));
          reads = λ d from line rest m v.
              let i = expr-read S a _ _ (from + 5 + 1) line (mark s.Semicolon ∷ rest) r.0 ends-semicolon v in
              record {
                at = line;
                kind = print a;
                same = refl;
                read = record { from = i.from + 1; line = i.line; spelt = i.spelt; reads = print_row refl i.reads refl };
              };
        },
        r.1.1,
      )
  told (collect_row e f) fine = (
    record {
      apart = λ d rest v. (refl, (tt, v));
      reads = λ d from line rest m v. record {
        at = line;
        kind = collect;
        same = refl;
        read = record { from = from + 7 + 1; line = line; spelt = v; reads = collect_row refl refl };
      };
    },
    fine.1.1,
  )
  told (return_row {a = a} e x f) fine =
      let r = told x fine.1 in (
        record {
          apart = λ d rest v. (refl, (refl, expr-apart a r.0.plain (mark s.Semicolon ∷ rest) refl (tt, v)));
          reads = λ d from line rest m v.
              let i = expr-read S a _ _ (from + 6 + 1) line (mark s.Semicolon ∷ rest) r.0 ends-semicolon v in
              record {
                at = line;
                kind = return a;
                same = refl;
                read = record { from = i.from + 1; line = i.line; spelt = i.spelt; reads = return_row refl i.reads refl };
              };
        },
        r.1.1,
      )
  told (at_row {d = d} {e = g} e h x f) fine =
      let r = told x fine.1 in
      (record { within = d; opens = h; behind = g; inner = r.0; closes = refl }, r.1.1)
  told (no_at e) fine = (refl, fine)
  told (giving_row {c = c} {u = u} e f h) fine =
      let n = text source u in
      let name = name-of source u f fine.1.0 in (
        record {
          apart = λ rest v. (refl, (refl, (refl, (name, refl, (tt, v)))));
          reads = λ from line rest m v. record {
            from = from + 1 + 6 + 1 + length n + 1;
            line = line;
            spelt = v.1;
            reads = subst (λ w. Reads S form.Giving c (tokens_at from line (giving_lexemes (Some n) rest)) (Some w) c
                (tokens_at (from + 1 + 6 + 1 + length n + 1) line rest)) v.0 (giving_row refl refl refl);
          };
        },
        fine.1.1.1,
      )
  told (no_giving e) fine = (
    record {
      apart = λ rest v. v;
      reads = λ from line rest m v. record { from = from; line = line; spelt = v; reads = no_giving (rw (next-tokens_at from line rest) m) };
    },
    fine,
  )
  told (else_row {b = b} e x) fine =
      let r = told x fine.1 in (
        record {
          apart = λ d rest v. (refl, (refl, (refl, r.0.apart d rest v)));
          reads = λ d from line rest m v.
              let j = r.0.reads d (from + 1 + 4 + 1) line rest v in
              record {
                tree = otherwise j.tree;
                same = ap otherwise j.same;
                read = record { from = j.read.from; line = j.read.line; spelt = j.read.spelt; reads = else_row refl j.read.reads };
              };
        },
        r.1,
      )
  told (else_none e) fine = (
    record {
      apart = λ d rest v. v;
      reads = λ d from line rest m v. record {
        tree = no_else;
        same = refl;
        read = record { from = from; line = line; spelt = v; reads = else_none (rw (next-tokens_at from line rest) m) };
      };
    },
    fine,
  )
  told (path_row {t = t} {b = b} e x) fine =
      let r = told x fine.1 in
      ((record { base = base-plain t.kind (text source t) b e fine.0; fields = r.0.0 }, r.0.1), r.1)
  told (next_field {u = u} e f x) fine = let r = told x fine.1.1 in (((name-of source u f fine.1.0, r.0.0), r.0.1), r.1)
  told (no_fields e) fine = ((tt, refl), fine)
  told (new_row e x) fine = told x fine.1
  told (freeze_row {u = u} e f) fine = ((name-of source u f fine.1.0, refl), fine.1.1)
  told (merge_row {u = u} e f) fine = ((name-of source u f fine.1.0, refl), fine.1.1)
  told (input_row {c = c} {t = t} {r = a} e) fine = (input-fits t.kind a c e, fine.1)
  told (result_row x) fine = told x fine
  told (value_row e x) fine = told x fine
  told (new_plain {t = t} e x) fine = let r = told x fine.1 in ((name-of source t e fine.0, r.0), r.1)
  told (new_temporary {u = u} e f x) fine = let r = told x fine.1.1 in ((name-of source u f fine.1.0, r.0), r.1)
  told (new_region {c = c} {u = u} {o = o} e f x h y) fine =
      let r = told x fine.1.1 in
      let q = told y r.1.1 in
      ((name-of source u f fine.1.0, subst (λ z. AtFits c o z) q.0 r.0), q.1)
  told (call_start {e = g} {v = v} {a = a} e x f h y) fine =
      let r = told x fine.1 in
      let q = told y r.1.1.1 in
      (subst (λ z. CallFits z a g) (sym r.0.1) (q.0 (record { base = r.0.0; fields = tt }) (name-of source v h r.1.1.0)), q.1)
  told (call_base {t = t} {b = b} e) fine = ((base-plain t.kind (text source t) b e fine.0, refl), fine.1)
  told (call_further {u = u} {q = q} {m = m} e f x) fine =
      let r = told x fine.1.1 in
      (λ h i. r.0 (record { base = h.base; fields = names-push q.fields m h.fields i }) (name-of source u f fine.1.0), r.1)
  told (call_args {d = d} {e = g} e h x f) fine =
      let r = told x fine.1 in
      (λ i j. record { target = i; method = j; within = d; opens = h; behind = g; args = r.0; closes = refl }, r.1.1)
  told (no_args e) fine = (refl, fine)
  told (first_arg {d = d} e x y) fine = let r = told x fine in let q = told y r.1 in ((d, (r.0, q.0)), q.1)
  told (next_arg {d = d} e x y) fine = let r = told x fine.1 in let q = told y r.1 in ((d, (r.0, q.0)), q.1)
  told (no_more_args e) fine = (refl, fine)
  told (expr_row {c = c} x y) fine = let r = told x fine in let q = told y r.1 in (q.0 c (loosest 1 r.0), q.1)
  told (or_row {c = c} {d = d} {e = g} {a = a} {b = b} e h x y) fine =
      let r = told x fine.1 in
      let q = told y r.1 in
      (λ i j. q.0 i (binary-fits Or a b i c d g (at_zero j) h r.0), q.1)
  told (no_or e) fine = (λ i j. j, fine)
  told (and_row {c = c} x y) fine = let r = told x fine in let q = told y r.1 in (q.0 c (looser 1 2 (omega arith) r.0), q.1)
  told (and_further {c = c} {d = d} {e = g} {a = a} {b = b} e h x y) fine =
      let r = told x fine.1 in
      let q = told y r.1 in
      (λ i j. q.0 i (binary-fits And a b i c d g j h r.0), q.1)
  told (no_and e) fine = (λ i j. j, fine)
  told (not_row e x) fine =
      let r = told x fine.1 in
      let f = r.0 in
      (record { plain = f.plain; room = f.room; spent = f.spent; few = f.few }, r.1)
  told (no_not e x) fine = let r = told x fine in (looser 2 3 (omega arith) r.0, r.1)
  told (cmp_row {c = c} x y) fine = let r = told x fine in let q = told y r.1 in (q.0 c r.0, q.1)
  told (compared {c = c} {d = d} {e = g} {t = t} {o = o} {a = a} {b = b} e h x) fine =
      let r = told x fine.1 in
      (λ i j. operator-fits 4 4 3 o a b i c d g (comparison-levels t.kind o e) j h r.0, r.1)
  told (not_compared e) fine = (λ i j. looser 3 4 (omega arith) j, fine)
  told (sum_row {c = c} x y) fine = let r = told x fine in let q = told y r.1 in (q.0 c (looser 4 5 (omega arith) r.0), q.1)
  told (sum_further {c = c} {d = d} {e = g} {t = t} {o = o} {a = a} {b = b} e h x y) fine =
      let r = told x fine.1 in
      let q = told y r.1 in
      (λ i j. q.0 i (operator-fits 4 5 4 o a b i c d g (sum-levels t.kind o e) j h r.0), q.1)
  told (no_sum e) fine = (λ i j. j, fine)
  told (mul_row {c = c} x y) fine = let r = told x fine in let q = told y r.1 in (q.0 c (looser 5 6 (omega arith) r.0), q.1)
  told (mul_further {c = c} {d = d} {e = g} {t = t} {o = o} {a = a} {b = b} e h x y) fine =
      let r = told x fine.1 in
      let q = told y r.1 in
      (λ i j. q.0 i (operator-fits 5 6 5 o a b i c d g (product-levels t.kind o e) j h r.0), q.1)
  told (no_mul e) fine = (λ i j. j, fine)
  told (minus e x) fine =
      let r = told x fine.1 in
      let f = r.0 in
      (record { plain = f.plain; room = f.room; spent = f.spent; few = f.few }, r.1)
  told (no_minus e x) fine = let r = told x fine in (looser 6 7 (omega arith) r.0, r.1)
  told (literal {c = c} {t = t} {a = a} e) fine = (literal-fits t.kind (text source t) a c e fine.0, fine.1)
  told (parens {c = c} {d = d} {e = g} {a = a} e h x f) fine = let r = told x fine.1 in (parens-fits a c d g h r.0, r.1.1)
  told (size_row {c = c} {q = q} e x) fine =
      let r = told x fine.1 in (subst (λ z. Fits c (depth_at 7 (size q)) (size q) z) r.0.1 (size-fits q c r.0.0), r.1)
  told (path_value {e = g} {a = a} x y) fine =
      let r = told x fine in
      let q = told y r.1 in
      (subst (λ z. Fits z (depth_at 7 a) a g) (sym r.0.1) (q.0 r.0.0), q.1)
  told (is_row {c = c} {q = q} e f) fine = (λ h. is_nil-fits q c h, fine.1.1)
  told (element_of {c = c} {d = d} {e = g} {q = q} {a = a} e h x f) fine =
      let r = told x fine.1 in (λ i. element-fits q a c d g i h r.0, r.1.1)
  told (no_is {c = c} {q = q} e) fine = (λ h. path-fits q c h, fine)

  -- what the reading of a whole program tells
  pub program-told : (c d : Counts) (ts us : List Token) (r : Tree) → Reads source form.Program c ts r d us → AreFine source ts
      → ProgramWritten S c r d
  program-told c d ts us r x fine = (told x fine).0
