-- A reading stops at one place with one code, and behind what is read.
use Rattle.std.proofs.Common.{◌≡◌, ℕ, List, [], ◌∷◌, ◌++◌, Option, Some, Result, Ok, refl, sym, ap, subst}
use Rattle.rg_base.specs.declared.words.Keyword.TheVariants as w
use Rattle.rg_base.specs.declared.token.Kind.{Kind}
use Rattle.rg_base.specs.declared.token.Kind.TheVariants as k
use Rattle.rg_base.specs.declared.token.Token.{Token}
use Rattle.rg_base.specs.declared.fault.Code.{Code}
use Rattle.rg_tree.specs.Phrases.{Phrase, Symbol, that, sign, name, class_name, field_name, method_name, param_name, local_name, finish, the}
use Rattle.rg_tree.specs.Phrases as p
use Rattle.rg_tree.specs.declared.counts.Counts.{Counts}
use Rattle.rg_tree.specs.Counts.{counted, entered, behind}
use Rattle.rg_tree.specs.Table.{next, row}
use Rattle.rg_tree.specs.Operators.{base_of}
use Rattle.rg_tree.specs.Tree.{Tree}
use Rattle.rg_tree.specs.Forms.{Form, Given}
use Rattle.rg_tree.specs.Grammar.{Reads, Spells, program_class, program_main, class_row, tmp_class_row, members_row, element_row, field_row}
use Rattle.rg_tree.specs.Grammar.{method_row, no_members, cap_row, at_row, no_at, giving_row, no_giving, size_row, element_of}
use Rattle.rg_tree.specs.Grammar.{plain_type, ref_type, first_param, no_params, next_param, no_more_params, some_result, no_result, manager_row}
use Rattle.rg_tree.specs.Grammar.{block_row, no_stmts, more_stmts, let_row, assign_row, call_row, swap_row, if_row, while_row, enter_row, print_row}
use Rattle.rg_tree.specs.Grammar.{collect_row, return_row, else_row, else_none, path_row, next_field, no_fields, new_row, freeze_row, merge_row}
use Rattle.rg_tree.specs.Grammar.{input_row, result_row, value_row, new_plain, new_temporary, new_region, call_start, call_base, call_further}
use Rattle.rg_tree.specs.Grammar.{call_args, no_args, first_arg, next_arg, no_more_args, expr_row, or_row, no_or, and_row, and_further, no_and}
use Rattle.rg_tree.specs.Grammar.{not_row, no_not, cmp_row, compared, not_compared, sum_row, sum_further, no_sum, mul_row, mul_further, no_mul, minus}
use Rattle.rg_tree.specs.Grammar.{no_minus, literal, parens, path_value, is_row, no_is}
use Rattle.rg_tree.specs.Stuck.{expected, Stops, no_row, by_row, another, past, fits, Stuck}
use Rattle.rg_tree.proofs.ByRows.{phrase_of, base_symbol, cap_of-behind, plain_type_of-behind, manager_of-behind, input_of-behind, literal_of-behind}
use Rattle.rg_tree.proofs.ByRows.{row_of, row_of-holds, cap_of-row, plain_type_of-row, manager_of-row, input_of-row, comparison_of-row}
use Rattle.rg_tree.proofs.ByRows.{literal_of-row, base_of-begins}

same_row : (x : Phrase) (o : Option Kind) (r q ss : List Symbol) {c : Counts} {ts at : List Token} {f : Code} → row x o ≡ Some r
    → row x o ≡ Some q → Stops (q ++ ss) c ts f at → Stops (r ++ ss) c ts f at
same_row x o r q ss {c} {ts} {at} {f} e h y = let i : q ≡ r = cc in subst (λ z. Stops (z ++ ss) c ts f at) i y

same_counts : {ss : List Symbol} {r : Result Counts Code} {d e : Counts} {ts at : List Token} {f : Code} → r ≡ Ok d → r ≡ Ok e
    → Stops ss e ts f at → Stops ss d ts f at
same_counts {ss} {r} {d} {e} {ts} {at} {f} h i y = let j : e ≡ d = cc in subst (λ z. Stops ss z ts f at) j y

-- the token that is there is the expected one
is_expected : {r : Option (Option Kind)} {o : Option Kind} {k : Kind} → r ≡ Some o → r ≡ Some (Some k) → Some k ≡ o
is_expected e h = cc

pub Stops-unique : {ss : List Symbol} {c : Counts} {ts a b : List Token} {f e : Code} → Stops ss c ts f a → Stops ss c ts e b → (f ≡ e) × (a ≡ b)
Stops-unique (no_row x) (no_row y) = (refl, refl)
Stops-unique (no_row x) (by_row y q) = cc
Stops-unique (no_row x) (another i y) = cc
Stops-unique (no_row x) (past i y) = cc
Stops-unique (no_row x) (fits i y q) = cc
Stops-unique (by_row x r) (no_row y) = cc
Stops-unique (by_row x r) (by_row y q) = Stops-unique r (same_row _ _ _ _ _ x y q)
Stops-unique (by_row x r) (another i y) = cc
Stops-unique (by_row x r) (past i y) = cc
Stops-unique (by_row x r) (fits i y q) = cc
Stops-unique (another i x) (no_row y) = cc
Stops-unique (another i x) (by_row y q) = cc
Stops-unique (another i x) (another j y) = (refl, refl)
Stops-unique (another i x) (past j y) = absurd (x (is_expected i j))
Stops-unique (another i x) (fits j y q) = absurd (x (is_expected i j))
Stops-unique (past i x) (no_row y) = cc
Stops-unique (past i x) (by_row y q) = cc
Stops-unique (past i x) (another j y) = absurd (y (is_expected j i))
Stops-unique (past i x) (past j y) = (cc, refl)
Stops-unique (past i x) (fits j y q) = cc
Stops-unique (fits i x r) (no_row y) = cc
Stops-unique (fits i x r) (by_row y q) = cc
Stops-unique (fits i x r) (another j y) = absurd (y (is_expected j i))
Stops-unique (fits i x r) (past j y) = cc
Stops-unique (fits i x r) (fits j y q) = Stops-unique r (same_counts x y q)

-- A row that is known, and a token that is.

after_row : {x : Phrase} {r ss : List Symbol} {c : Counts} {ts at : List Token} {f : Code} → row x (next ts) ≡ Some r
    → Stops (the x ∷ ss) c ts f at → Stops (r ++ ss) (entered x c) ts f at
after_row e (no_row y) = cc
after_row e (by_row y q) = same_row _ _ _ _ _ e y q
after_row e (another i y) = cc
after_row e (past i y) = cc
after_row e (fits i y q) = cc

after_token : {y : Symbol} {ss : List Symbol} {c d : Counts} {t : Token} {ts at : List Token} {f : Code} → expected y ≡ Some (Some t.kind)
    → counted y c ≡ Ok d → Stops (y ∷ ss) c (t ∷ ts) f at → Stops ss d ts f at
after_token h e (no_row y) = cc
after_token h e (by_row y q) = cc
after_token h e (another j y) = absurd (y (is_expected j h))
after_token h e (past j y) = cc
after_token h e (fits j y q) = same_counts e y q

-- the end, where it is expected
at_end : {ss : List Symbol} {c : Counts} {at : List Token} {f : Code} → Stops (finish ∷ ss) c [] f at → ⊥
at_end (another i h) = absurd (h cc)

-- a token of that kind
pub kind_is : {k l : Kind} → k ≡ l → ◌≡◌ {A = Option (Option Kind)} (Some (Some l)) (Some (Some k))
kind_is e = ap (λ z. Some (Some z)) (sym e)

-- a name, or self, is expected as itself
pub expected-base_symbol : (x : Kind) → expected (base_symbol x) ≡ Some (Some x)
expected-base_symbol k.Name = refl
expected-base_symbol (k.Number z) = refl
expected-base_symbol (k.Word v) = refl
expected-base_symbol (k.Mark v) = refl

-- behind a token that is expected as itself
after : {x : Kind} {ss : List Symbol} {c d : Counts} {t : Token} {ts at : List Token} {f : Code} → t.kind ≡ x → behind x c ≡ Ok d
    → Stops (that x ∷ ss) c (t ∷ ts) f at → Stops ss d ts f at
after {x} e h y = after_token {y = that x} (kind_is e) h y

-- behind a name, or self
after_base : {ss : List Symbol} {c : Counts} {t : Token} {ts at : List Token} {f : Code} (n : List ℕ) (b : Option (List ℕ))
    → base_of t.kind n ≡ Some b → Stops (base_symbol t.kind ∷ ss) c (t ∷ ts) f at → Stops ss c ts f at
after_base {c = c} {t = t} n b e y =
    after_token {y = base_symbol t.kind} (expected-base_symbol t.kind) ((base_of-begins t.kind n b e).counted c) y

-- a reading that expects something that is read goes on with its row
pub turn : {source : List ℕ} {f : Form} {c d : Counts} {ts us : List Token} {a : Given f}
    (r : Reads source f c ts a d us) {ss : List Symbol} {at : List Token} {e : Code} → Stops (the (phrase_of f) ∷ ss) c ts e at
    → Stops (row_of r ++ ss) (entered (phrase_of f) c) ts e at
turn r y = after_row (row_of-holds r) y

-- a reading that expects what is read stops behind it
pub follows : {source : List ℕ} {f : Form} {c d : Counts} {ts us : List Token} {a : Given f}
    (r : Reads source f c ts a d us) {ss : List Symbol} {at : List Token} {e : Code}
    → Stops (the (phrase_of f) ∷ ss) c ts e at → Stops ss d us e at
follows (program_class x y) z = follows y (follows x (turn (program_class x y) z))
follows (program_main e x y) z = absurd (at_end (follows y (follows x (after e refl (turn (program_main e x y) z)))))
follows (class_row e f h x) z = follows x (after_token {y = class_name} (kind_is f) h (after e refl (turn (class_row e f h x) z)))
follows (tmp_class_row e m f h x) z =
    follows x (after_token {y = class_name} (kind_is f) h (after m refl (after e refl (turn (tmp_class_row e m f h x) z))))
follows (members_row e h x f) z = after f refl (follows x (after e h (turn (members_row e h x f) z)))
follows (element_row e h x f i) z = after i refl (after f refl (follows x (after e h (turn (element_row e h x f i) z))))
follows (field_row e h i x j y) z =
    follows y (after j refl (follows x (after i refl (after_token {y = field_name} (kind_is e) h (turn (field_row e h i x j y) z)))))
follows (method_row e x f h i j y l m n o) z =
    follows o (follows n (follows m
    (after l refl (follows y
    (after i j (after_token {y = method_name} (kind_is f) h (follows x (after e refl (turn (method_row e x f h i j y l m n o) z)))))))))
follows (no_members e) z = after_row (ap (row p.Members) e) z
follows (cap_row e) z = after refl (cap_of-behind _ _ _ e) (after_row (cap_of-row _ _ e) z)
follows (plain_type e) z = after refl (plain_type_of-behind _ _ _ e) (after_row (plain_type_of-row _ _ e) z)
follows (ref_type x e) z = after_token {y = name} (kind_is e) refl (follows x (turn (ref_type x e) z))
follows (first_param e h i x y) z = follows y (follows x (after i refl (after_token {y = param_name} (kind_is e) h (turn (first_param e h i x y) z))))
follows (no_params e) z = after_row (ap (row p.Params) e) z
follows (next_param e f h i x y) z =
    follows y (follows x (after i refl (after_token {y = param_name} (kind_is f) h (after e refl (turn (next_param e f h i x y) z)))))
follows (no_more_params e) z = after_row (ap (row p.MoreParams) e) z
follows (some_result e x) z = follows x (after e refl (turn (some_result e x) z))
follows (no_result e) z = after_row (ap (row p.Result) e) z
follows (manager_row e) z = after refl (manager_of-behind _ _ _ e) (after_row (manager_of-row _ _ e) z)
follows (block_row e h x f) z = after f refl (follows x (after e h (turn (block_row e h x f) z)))
follows (no_stmts e) z = after_row (ap (row p.Stmts) e) z
follows (more_stmts e x y) z = follows y (follows x (turn (more_stmts e x y) z))
follows (let_row e f h i x j y l) z =
    after l refl (follows y (after j refl
    (follows x (after i refl (after_token {y = local_name} (kind_is f) h (after e refl (turn (let_row e f h i x j y l) z)))))))
follows (assign_row x v e y f) z = after f refl (follows y (after e refl (follows v (follows x (turn (assign_row x v e y f) z)))))
follows (call_row x e) z = after e refl (follows x (turn (call_row x e) z))
follows (swap_row e f h x i) z =
    after i refl (follows x (after h refl (after_token {y = name} (kind_is f) refl (after e refl (turn (swap_row e f h x i) z)))))
follows (if_row e x y v) z = follows v (follows y (follows x (after e refl (turn (if_row e x y v) z))))
follows (while_row e x y) z = follows y (follows x (after e refl (turn (while_row e x y) z)))
follows (enter_row e x f h i y v) z =
    follows v (follows y
    (after_token {y = local_name} (kind_is h) i (after f refl (follows x (after e refl (turn (enter_row e x f h i y v) z))))))
follows (print_row e x f) z = after f refl (follows x (after e refl (turn (print_row e x f) z)))
follows (collect_row e f) z = after f refl (after e refl (after_row (ap (λ o. row p.Stmt (Some o)) e) z))
follows (return_row e x f) z = after f refl (follows x (after e refl (turn (return_row e x f) z)))
follows (at_row e h x f) z = after f refl (follows x (after e h (turn (at_row e h x f) z)))
follows (no_at e) z = after_row e z
follows (giving_row e f h) z =
    after h refl (after_token {y = name} (kind_is f) refl (after e refl (after_row (ap (λ o. row p.Giving (Some o)) e) z)))
follows (no_giving e) z = after_row e z
follows (else_row e x) z = follows x (after e refl (turn (else_row e x) z))
follows (else_none e) z = after_row e z
follows (path_row e x) z = follows x (after_base _ _ e (turn (path_row e x) z))
follows (next_field e f x) z = follows x (after_token {y = name} (kind_is f) refl (after e refl (turn (next_field e f x) z)))
follows (no_fields e) z = after_row e z
follows (new_row e x) z = follows x (after e refl (turn (new_row e x) z))
follows (freeze_row e f) z = after_token {y = name} (kind_is f) refl (after e refl (after_row (ap (λ o. row p.Right (Some o)) e) z))
follows (merge_row e f) z = after_token {y = name} (kind_is f) refl (after e refl (after_row (ap (λ o. row p.Right (Some o)) e) z))
follows (input_row e) z = after refl (input_of-behind _ _ _ e) (after_row (input_of-row _ _ e) z)
follows (result_row x) z = follows x (turn (result_row x) z)
follows (value_row e x) z = follows x (turn (value_row e x) z)
follows (new_plain e x) z = follows x (after_token {y = name} (kind_is e) refl (turn (new_plain e x) z))
follows (new_temporary e f x) z = follows x (after_token {y = name} (kind_is f) refl (after e refl (turn (new_temporary e f x) z)))
follows (new_region e f x h y) z =
    follows y (after h refl (follows x (after_token {y = name} (kind_is f) refl (after e refl (turn (new_region e f x h y) z)))))
follows (call_start e x f h y) z =
    follows y (after_token {y = name} (kind_is h) refl (after f refl (follows x (after e refl (turn (call_start e x f h y) z)))))
follows (call_base e) z = after_base _ _ e (after_row (base_of-begins _ _ _ e).call_base z)
follows (call_further e f x) z = follows x (after_token {y = name} (kind_is f) refl (after e refl (turn (call_further e f x) z)))
follows (call_args e h x f) z = after f refl (follows x (after e h (after_row (ap (λ o. row p.CallRest (Some o)) e) z)))
follows (no_args e) z = after_row (ap (row p.Args) e) z
follows (first_arg e x y) z = follows y (follows x (turn (first_arg e x y) z))
follows (next_arg e x y) z = follows y (follows x (after e refl (turn (next_arg e x y) z)))
follows (no_more_args e) z = after_row (ap (row p.MoreArgs) e) z
follows (expr_row x y) z = follows y (follows x (turn (expr_row x y) z))
follows (or_row e h x y) z = follows y (follows x (after_token {y = sign (k.Word w.Or)} (kind_is e) h (turn (or_row e h x y) z)))
follows (no_or e) z = after_row e z
follows (and_row x y) z = follows y (follows x (turn (and_row x y) z))
follows (and_further e h x y) z = follows y (follows x (after_token {y = sign (k.Word w.And)} (kind_is e) h (turn (and_further e h x y) z)))
follows (no_and e) z = after_row e z
follows (not_row e x) z = follows x (after e refl (turn (not_row e x) z))
follows (no_not e x) z = follows x (turn (no_not e x) z)
follows (cmp_row x y) z = follows y (follows x (turn (cmp_row x y) z))
follows (compared {t = t} e h x) z = follows x (after_token {y = sign t.kind} refl h (after_row (comparison_of-row _ _ e) z))
follows (not_compared e) z = after_row e z
follows (sum_row x y) z = follows y (follows x (turn (sum_row x y) z))
follows (sum_further {t = t} e h x y) z = follows y (follows x (after_token {y = sign t.kind} refl h (turn (sum_further {t = t} e h x y) z)))
follows (no_sum e) z = after_row e z
follows (mul_row x y) z = follows y (follows x (turn (mul_row x y) z))
follows (mul_further {t = t} e h x y) z = follows y (follows x (after_token {y = sign t.kind} refl h (turn (mul_further {t = t} e h x y) z)))
follows (no_mul e) z = after_row e z
follows (minus e x) z = follows x (after e refl (turn (minus e x) z))
follows (no_minus e x) z = follows x (turn (no_minus e x) z)
follows (literal e) z = after refl (literal_of-behind _ _ _ e) (after_row (literal_of-row _ _ e) z)
follows (parens e h x f) z = after f refl (follows x (after e h (turn (parens e h x f) z)))
follows (size_row e x) z = follows x (after e refl (turn (size_row e x) z))
follows (path_value x y) z = follows y (follows x (turn (path_value x y) z))
follows (is_row e f) z = after f refl (after e refl (after_row (ap (λ o. row p.Is (Some o)) e) z))
follows (element_of {q = q} e h x f) z = after f refl (follows x (after e h (turn (element_of {q = q} e h x f) z)))
follows (no_is e) z = after_row e z

-- nothing stops without anything expected
nothing-stops : {c : Counts} {ts at : List Token} {e : Code} → Stops [] c ts e at → ⊥
nothing-stops s = elim s [ ]

pub spelt-not_stuck : (source : List ℕ) (a : Tree) (ts at : List Token) (f : Code) → Spells source a ts → Stuck ts f at → ⊥
spelt-not_stuck source a ts at f r s = nothing-stops (follows r.1 s)
