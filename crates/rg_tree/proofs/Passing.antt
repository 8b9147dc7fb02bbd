-- What stops behind what is read stops a reading that expects it.
use Rattle.std.proofs.Common.{◌≡◌, ℕ, List, ◌∷◌, ◌++◌, Option, Some, Ok, refl, ap}
use Rattle.rg_base.specs.declared.words.Keyword.TheVariants as w
use Rattle.rg_base.specs.declared.token.Kind.{Kind}
use Rattle.rg_base.specs.declared.token.Kind.TheVariants as k
use Rattle.rg_base.specs.declared.token.Token.{Token}
use Rattle.rg_base.specs.declared.fault.Code.{Code}
use Rattle.rg_tree.specs.Phrases.{Symbol, that, sign, name, class_name, field_name, method_name, param_name, local_name, the}
use Rattle.rg_tree.specs.Phrases as p
use Rattle.rg_tree.specs.declared.counts.Counts.{Counts}
use Rattle.rg_tree.specs.Counts.{entered, behind}
use Rattle.rg_tree.specs.Table.{row}
use Rattle.rg_tree.specs.Operators.{base_of}
use Rattle.rg_tree.specs.Forms.{Form, Given}
use Rattle.rg_tree.specs.Grammar.{Reads, program_class, program_main, class_row, tmp_class_row, members_row, element_row, field_row}
use Rattle.rg_tree.specs.Grammar.{method_row, no_members, cap_row, at_row, no_at, giving_row, no_giving, size_row, element_of}
use Rattle.rg_tree.specs.Grammar.{plain_type, ref_type, first_param, no_params, next_param, no_more_params, some_result, no_result, manager_row}
use Rattle.rg_tree.specs.Grammar.{block_row, no_stmts, more_stmts, let_row, assign_row, call_row, swap_row, if_row, while_row, enter_row, print_row}
use Rattle.rg_tree.specs.Grammar.{collect_row, return_row, else_row, else_none, path_row, next_field, no_fields, new_row, freeze_row, merge_row}
use Rattle.rg_tree.specs.Grammar.{input_row, result_row, value_row, new_plain, new_temporary, new_region, call_start, call_base, call_further}
use Rattle.rg_tree.specs.Grammar.{call_args, no_args, first_arg, next_arg, no_more_args, expr_row, or_row, no_or, and_row, and_further, no_and}
use Rattle.rg_tree.specs.Grammar.{not_row, no_not, cmp_row, compared, not_compared, sum_row, sum_further, no_sum, mul_row, mul_further, no_mul, minus}
use Rattle.rg_tree.specs.Grammar.{no_minus, literal, parens, path_value, is_row, no_is}
use Rattle.rg_tree.specs.Forms as form
use Rattle.rg_tree.specs.Stuck.{Stops, by_row, fits}
use Rattle.rg_tree.proofs.ByRows.{phrase_of, base_symbol, cap_of-behind, plain_type_of-behind, manager_of-behind, input_of-behind, literal_of-behind}
use Rattle.rg_tree.proofs.ByRows.{row_of, row_of-holds, cap_of-row, plain_type_of-row, manager_of-row, input_of-row, comparison_of-row}
use Rattle.rg_tree.proofs.ByRows.{literal_of-row, base_of-begins}
use Rattle.rg_tree.proofs.Stopping.{kind_is, expected-base_symbol}

-- all but the whole program, behind which nothing is expected
abbrev pub IsPart : Form → Type 0
IsPart form.Program = ⊥
IsPart _ = Unit {0}

-- a token that is expected as itself
there : {x : Kind} {ss : List Symbol} {c d : Counts} {t : Token} {ts at : List Token} {f : Code} → t.kind ≡ x → behind x c ≡ Ok d
    → Stops ss d ts f at → Stops (that x ∷ ss) c (t ∷ ts) f at
there {x} e h y = fits {y = that x} (kind_is e) h y

-- a name, or self
base_there : {ss : List Symbol} {c : Counts} {t : Token} {ts at : List Token} {f : Code} (n : List ℕ) (b : Option (List ℕ))
    → base_of t.kind n ≡ Some b → Stops ss c ts f at → Stops (base_symbol t.kind ∷ ss) c (t ∷ ts) f at
base_there {c = c} {t = t} n b e y =
    fits {y = base_symbol t.kind} (expected-base_symbol t.kind) ((base_of-begins t.kind n b e).counted c) y

-- a reading that stops in its row stops where what is read is expected
turn_back : {source : List ℕ} {f : Form} {c d : Counts} {ts us : List Token} {a : Given f}
    (r : Reads source f c ts a d us) {ss : List Symbol} {at : List Token} {e : Code}
    → Stops (row_of r ++ ss) (entered (phrase_of f) c) ts e at → Stops (the (phrase_of f) ∷ ss) c ts e at
turn_back r y = by_row (row_of-holds r) y

-- where a reading stops behind what is read, one that expects it stops
pub passes : {source : List ℕ} {f : Form} {c d : Counts} {ts us : List Token} {a : Given f} (r : Reads source f c ts a d us) → IsPart f
    → {ss : List Symbol} {at : List Token} {e : Code} → Stops ss d us e at → Stops (the (phrase_of f) ∷ ss) c ts e at
passes (program_class x y) within z = absurd within
passes (program_main e x y) within z = absurd within
passes (class_row e f h x) within z = turn_back (class_row e f h x) (there e refl (fits {y = class_name} (kind_is f) h (passes x tt z)))
passes (tmp_class_row e m f h x) within z =
    turn_back (tmp_class_row e m f h x) (there e refl (there m refl (fits {y = class_name} (kind_is f) h (passes x tt z))))
passes (members_row e h x f) within z = turn_back (members_row e h x f) (there e h (passes x tt (there f refl z)))
passes (element_row e h x f i) within z = turn_back (element_row e h x f i) (there e h (passes x tt (there f refl (there i refl z))))
passes (field_row e h i x j y) within z =
    turn_back (field_row e h i x j y) (fits {y = field_name} (kind_is e) h (there i refl (passes x tt (there j refl (passes y tt z)))))
passes (method_row e x f h i j y l m n o) within z =
    turn_back (method_row e x f h i j y l m n o)
    (there e refl (passes x tt
    (fits {y = method_name} (kind_is f) h (there i j (passes y tt (there l refl (passes m tt (passes n tt (passes o tt z)))))))))
passes (no_members e) within z = by_row (ap (row p.Members) e) z
passes (cap_row e) within z = by_row (cap_of-row _ _ e) (there refl (cap_of-behind _ _ _ e) z)
passes (plain_type e) within z = by_row (plain_type_of-row _ _ e) (there refl (plain_type_of-behind _ _ _ e) z)
passes (ref_type x e) within z = turn_back (ref_type x e) (passes x tt (fits {y = name} (kind_is e) refl z))
passes (first_param e h i x y) within z =
    turn_back (first_param e h i x y) (fits {y = param_name} (kind_is e) h (there i refl (passes x tt (passes y tt z))))
passes (no_params e) within z = by_row (ap (row p.Params) e) z
passes (next_param e f h i x y) within z =
    turn_back (next_param e f h i x y) (there e refl (fits {y = param_name} (kind_is f) h (there i refl (passes x tt (passes y tt z)))))
passes (no_more_params e) within z = by_row (ap (row p.MoreParams) e) z
passes (some_result e x) within z = turn_back (some_result e x) (there e refl (passes x tt z))
passes (no_result e) within z = by_row (ap (row p.Result) e) z
passes (manager_row e) within z = by_row (manager_of-row _ _ e) (there refl (manager_of-behind _ _ _ e) z)
passes (block_row e h x f) within z = turn_back (block_row e h x f) (there e h (passes x tt (there f refl z)))
passes (no_stmts e) within z = by_row (ap (row p.Stmts) e) z
passes (more_stmts e x y) within z = turn_back (more_stmts e x y) (passes x tt (passes y tt z))
passes (let_row e f h i x j y l) within z =
    turn_back (let_row e f h i x j y l)
    (there e refl (fits {y = local_name} (kind_is f) h (there i refl (passes x tt (there j refl (passes y tt (there l refl z)))))))
passes (assign_row x v e y f) within z =
    turn_back (assign_row x v e y f) (passes x tt (passes v tt (there e refl (passes y tt (there f refl z)))))
passes (call_row x e) within z = turn_back (call_row x e) (passes x tt (there e refl z))
passes (swap_row e f h x i) within z =
    turn_back (swap_row e f h x i) (there e refl (fits {y = name} (kind_is f) refl (there h refl (passes x tt (there i refl z)))))
passes (if_row e x y v) within z = turn_back (if_row e x y v) (there e refl (passes x tt (passes y tt (passes v tt z))))
passes (while_row e x y) within z = turn_back (while_row e x y) (there e refl (passes x tt (passes y tt z)))
passes (enter_row e x f h i y v) within z =
    turn_back (enter_row e x f h i y v)
    (there e refl (passes x tt (there f refl (fits {y = local_name} (kind_is h) i (passes y tt (passes v tt z))))))
passes (print_row e x f) within z = turn_back (print_row e x f) (there e refl (passes x tt (there f refl z)))
passes (collect_row e f) within z = by_row (ap (λ o. row p.Stmt (Some o)) e) (there e refl (there f refl z))
passes (return_row e x f) within z = turn_back (return_row e x f) (there e refl (passes x tt (there f refl z)))
passes (at_row e h x f) within z = turn_back (at_row e h x f) (there e h (passes x tt (there f refl z)))
passes (no_at e) within z = by_row e z
passes (giving_row e f h) within z =
    by_row (ap (λ o. row p.Giving (Some o)) e) (there e refl (fits {y = name} (kind_is f) refl (there h refl z)))
passes (no_giving e) within z = by_row e z
passes (else_row e x) within z = turn_back (else_row e x) (there e refl (passes x tt z))
passes (else_none e) within z = by_row e z
passes (path_row e x) within z = turn_back (path_row e x) (base_there _ _ e (passes x tt z))
passes (next_field e f x) within z = turn_back (next_field e f x) (there e refl (fits {y = name} (kind_is f) refl (passes x tt z)))
passes (no_fields e) within z = by_row e z
passes (new_row e x) within z = turn_back (new_row e x) (there e refl (passes x tt z))
passes (freeze_row e f) within z = by_row (ap (λ o. row p.Right (Some o)) e) (there e refl (fits {y = name} (kind_is f) refl z))
passes (merge_row e f) within z = by_row (ap (λ o. row p.Right (Some o)) e) (there e refl (fits {y = name} (kind_is f) refl z))
passes (input_row e) within z = by_row (input_of-row _ _ e) (there refl (input_of-behind _ _ _ e) z)
passes (result_row x) within z = turn_back (result_row x) (passes x tt z)
passes (value_row e x) within z = turn_back (value_row e x) (passes x tt z)
passes (new_plain e x) within z = turn_back (new_plain e x) (fits {y = name} (kind_is e) refl (passes x tt z))
passes (new_temporary e f x) within z = turn_back (new_temporary e f x) (there e refl (fits {y = name} (kind_is f) refl (passes x tt z)))
passes (new_region e f x h y) within z =
    turn_back (new_region e f x h y) (there e refl (fits {y = name} (kind_is f) refl (passes x tt (there h refl (passes y tt z)))))
passes (call_start e x f h y) within z =
    turn_back (call_start e x f h y) (there e refl (passes x tt (there f refl (fits {y = name} (kind_is h) refl (passes y tt z)))))
passes (call_base e) within z = by_row (base_of-begins _ _ _ e).call_base (base_there _ _ e z)
passes (call_further e f x) within z = turn_back (call_further e f x) (there e refl (fits {y = name} (kind_is f) refl (passes x tt z)))
passes (call_args e h x f) within z = by_row (ap (λ o. row p.CallRest (Some o)) e) (there e h (passes x tt (there f refl z)))
passes (no_args e) within z = by_row (ap (row p.Args) e) z
passes (first_arg e x y) within z = turn_back (first_arg e x y) (passes x tt (passes y tt z))
passes (next_arg e x y) within z = turn_back (next_arg e x y) (there e refl (passes x tt (passes y tt z)))
passes (no_more_args e) within z = by_row (ap (row p.MoreArgs) e) z
passes (expr_row x y) within z = turn_back (expr_row x y) (passes x tt (passes y tt z))
passes (or_row e h x y) within z = turn_back (or_row e h x y) (fits {y = sign (k.Word w.Or)} (kind_is e) h (passes x tt (passes y tt z)))
passes (no_or e) within z = by_row e z
passes (and_row x y) within z = turn_back (and_row x y) (passes x tt (passes y tt z))
passes (and_further e h x y) within z = turn_back (and_further e h x y) (fits {y = sign (k.Word w.And)} (kind_is e) h (passes x tt (passes y tt z)))
passes (no_and e) within z = by_row e z
passes (not_row e x) within z = turn_back (not_row e x) (there e refl (passes x tt z))
passes (no_not e x) within z = turn_back (no_not e x) (passes x tt z)
passes (cmp_row x y) within z = turn_back (cmp_row x y) (passes x tt (passes y tt z))
passes (compared {t = t} e h x) within z = by_row (comparison_of-row _ _ e) (fits {y = sign t.kind} refl h (passes x tt z))
passes (not_compared e) within z = by_row e z
passes (sum_row x y) within z = turn_back (sum_row x y) (passes x tt (passes y tt z))
passes (sum_further {t = t} e h x y) within z = turn_back (sum_further {t = t} e h x y) (fits {y = sign t.kind} refl h (passes x tt (passes y tt z)))
passes (no_sum e) within z = by_row e z
passes (mul_row x y) within z = turn_back (mul_row x y) (passes x tt (passes y tt z))
passes (mul_further {t = t} e h x y) within z = turn_back (mul_further {t = t} e h x y) (fits {y = sign t.kind} refl h (passes x tt (passes y tt z)))
passes (no_mul e) within z = by_row e z
passes (minus e x) within z = turn_back (minus e x) (there e refl (passes x tt z))
passes (no_minus e x) within z = turn_back (no_minus e x) (passes x tt z)
passes (literal e) within z = by_row (literal_of-row _ _ e) (there refl (literal_of-behind _ _ _ e) z)
passes (parens e h x f) within z = turn_back (parens e h x f) (there e h (passes x tt (there f refl z)))
passes (size_row e x) within z = turn_back (size_row e x) (there e refl (passes x tt z))
passes (path_value x y) within z = turn_back (path_value x y) (passes x tt (passes y tt z))
passes (is_row e f) within z = by_row (ap (λ o. row p.Is (Some o)) e) (there e refl (there f refl z))
passes (element_of {q = q} e h x f) within z = turn_back (element_of {q = q} e h x f) (there e h (passes x tt (there f refl z)))
passes (no_is e) within z = by_row e z
