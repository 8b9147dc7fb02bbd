-- How many names a reading counts: as many as what was read has.
use Rattle.std.proofs.Common.{◌≡◌, ℕ, suc, ◌+◌, ◌≤◌, List, length, All, Option, None, Some, Ok, refl, sym, ap, arith}
use Rattle.std.proofs.lemmas.Bool.Decides.{nat_tests}
use Rattle.std.proofs.lemmas.List.Elements.{All-nil, All-cons}
use Rattle.rg_tree.proofs.Callers.{within-ok}
use Rattle.rg_base.specs.declared.token.Token.{Token}
use Rattle.rg_base.specs.declared.limits.TheConstants.{PARAMETERS, BODY_NAMES}
use Rattle.rg_tree.specs.Tree.{Path, Expr, Right, stmt, Class}
use Rattle.rg_tree.specs.declared.counts.Counts.{Counts}
use Rattle.rg_tree.specs.Counts.{opened, closed, one_method, one_param, one_local, one_sign}
use Rattle.rg_tree.specs.Forms.{Form, Given}
use Rattle.rg_tree.specs.Forms as form
use Rattle.rg_tree.specs.Grammar.{assigned, Reads, program_class, program_main, class_row, tmp_class_row, members_row, element_row, field_row}
use Rattle.rg_tree.specs.Grammar.{method_row, no_members, cap_row, at_row, no_at, giving_row, no_giving, size_row, element_of}
use Rattle.rg_tree.specs.Grammar.{plain_type, ref_type, first_param, no_params, next_param, no_more_params, some_result, no_result, manager_row}
use Rattle.rg_tree.specs.Grammar.{block_row, no_stmts, more_stmts, let_row, assign_row, call_row, swap_row, if_row, while_row, enter_row, print_row}
use Rattle.rg_tree.specs.Grammar.{collect_row, return_row, else_row, else_none, path_row, next_field, no_fields, new_row, freeze_row, merge_row}
use Rattle.rg_tree.specs.Grammar.{input_row, result_row, value_row, new_plain, new_temporary, new_region, call_start, call_base, call_further}
use Rattle.rg_tree.specs.Grammar.{call_args, no_args, first_arg, next_arg, no_more_args, expr_row, or_row, no_or, and_row, and_further, no_and}
use Rattle.rg_tree.specs.Grammar.{not_row, no_not, cmp_row, compared, not_compared, sum_row, sum_further, no_sum, mul_row, mul_further, no_mul, minus}
use Rattle.rg_tree.specs.Grammar.{no_minus, literal, parens, path_value, is_row, no_is}
use Rattle.rg_rules.specs.Names.{stmt_names, else_names, block_names, HasFewNames, FewNames}

-- neither names nor parameters were counted
pub record Still (c d : Counts) : Type 0 where
  pub names : d.names ≡ c.names
  pub params : d.params ≡ c.params

-- so many names were counted, within the limit
pub record NamesGrow (n : ℕ) (c d : Counts) : Type 0 where
  pub names : d.names ≡ c.names + n
  pub few : c.names ≤ BODY_NAMES → d.names ≤ BODY_NAMES

-- so many parameters were counted, within their limit
pub record ParamsGrow (n : ℕ) (c d : Counts) : Type 0 where
  pub names : d.names ≡ c.names + n
  pub params : d.params ≡ c.params + n
  pub few : c.params ≤ PARAMETERS → d.params ≤ PARAMETERS

-- what was read, and how the counts grew
abbrev pub Grows : (f : Form) → Given f → Counts → Counts → Type 0
Grows form.Program r c d = FewNames r
Grows form.Class k c d = All HasFewNames k.members
Grows form.ClassRest r c d = All HasFewNames r.1
Grows form.Members ms c d = All HasFewNames ms
Grows form.Params ps c d = ParamsGrow (length ps) c d
Grows form.MoreParams ps c d = ParamsGrow (length ps) c d
Grows form.Block b c d = NamesGrow (block_names b) c d
Grows form.Stmts b c d = NamesGrow (block_names b) c d
Grows form.Stmt s c d = NamesGrow (stmt_names s) c d
Grows form.Else o c d = NamesGrow (else_names o) c d
Grows _ a c d = Still c d

-- The counts of single tokens.

opened-still : {c d : Counts} → opened c ≡ Ok d → Still c d
opened-still {c} {d} h =
    let e = (within-ok _ _ _ d h).1 in record { names = sym (ap (λ (x : Counts). x.names) e); params = sym (ap (λ (x : Counts). x.params) e) }

sign-still : {c d : Counts} → one_sign c ≡ Ok d → Still c d
sign-still {c} {d} h =
    let e = (within-ok _ _ _ d h).1 in record { names = sym (ap (λ (x : Counts). x.names) e); params = sym (ap (λ (x : Counts). x.params) e) }

method-still : {c d : Counts} → one_method c ≡ Ok d → Still c d
method-still {c} {d} h =
    let e = (within-ok _ _ _ d h).1 in record { names = sym (ap (λ (x : Counts). x.names) e); params = sym (ap (λ (x : Counts). x.params) e) }

local-grows : {c d : Counts} → one_local c ≡ Ok d → NamesGrow 1 c d
local-grows {c} {d} h =
    let w = within-ok _ _ _ d h in
    let e : c.names + 1 ≡ d.names = ap (λ (x : Counts). x.names) w.1 in
    record { names = sym e; few = λ l. grind (arith, nat_tests, w.0, e) }

param-grows : {c d : Counts} → one_param c ≡ Ok d → ParamsGrow 1 c d
param-grows {c} {d} h =
    let w = within-ok _ _ _ d h in
    let n : c.names + 1 ≡ d.names = ap (λ (x : Counts). x.names) w.1 in
    let p : c.params + 1 ≡ d.params = ap (λ (x : Counts). x.params) w.1 in
    record { names = sym n; params = sym p; few = λ l. grind (arith, nat_tests, w.0, p) }

-- One reading behind another.

still : {c : Counts} → Still c c
still = record { names = refl; params = refl }

on : {c d e : Counts} → Still c d → Still d e → Still c e
on a b = record { names = omega (arith, a.names, b.names); params = omega (arith, a.params, b.params) }

shut : {c d : Counts} → Still c d → Still c (closed d)
shut a = record { names = a.names; params = a.params }

params-none : {c : Counts} → ParamsGrow 0 c c
params-none = record { names = omega arith; params = omega arith; few = λ l. l }

-- one parameter, its type, and the other parameters
params-more : {c d e f : Counts} {n : ℕ} → ParamsGrow 1 c d → Still d e → ParamsGrow n e f → ParamsGrow (suc n) c f
params-more a b r = record {
  names = omega (arith, a.names, b.names, r.names);
  params = omega (arith, a.params, b.params, r.params);
  few = λ l. let m = a.few l in r.few (omega (arith, m, b.params));
}

names-none : {c d : Counts} → Still c d → NamesGrow 0 c d
names-none a = record { names = omega (arith, a.names); few = λ l. omega (arith, a.names) }

names-behind : {c d e : Counts} {n : ℕ} → Still c d → NamesGrow n d e → NamesGrow n c e
names-behind a b = record { names = omega (arith, a.names, b.names); few = λ l. b.few (omega (arith, a.names)) }

names-before : {c d e : Counts} {n : ℕ} → NamesGrow n c d → Still d e → NamesGrow n c e
names-before a b = record { names = omega (arith, a.names, b.names); few = λ l. let m = a.few l in omega (arith, m, b.names) }

names-both : {c d e : Counts} {m n : ℕ} → NamesGrow m c d → NamesGrow n d e → NamesGrow (m + n) c e
names-both a b = record { names = omega (arith, a.names, b.names); few = λ l. b.few (a.few l) }

names-suc : {c d e : Counts} {n : ℕ} → NamesGrow 1 c d → NamesGrow n d e → NamesGrow (suc n) c e
names-suc a b = record { names = omega (arith, a.names, b.names); few = λ l. b.few (a.few l) }

names-shut : {c d : Counts} {n : ℕ} → NamesGrow n c d → NamesGrow n c (closed d)
names-shut a = record { names = a.names; few = a.few }

-- a method's body has as many names as are counted from `def` to its end
method-few : {c d e f g h i : Counts} {m n : ℕ} → c.names ≡ 1 → c.params ≡ 0 → Still c d → Still d e → Still e f → ParamsGrow m f g →
    Still (closed g) h → NamesGrow n h i → suc m + n ≤ BODY_NAMES
method-few s z a b o p r w =
    let q = p.few (omega (arith, a.params, b.params, o.params)) in
    let l = w.few (omega (arith, q, a.names, b.names, o.names, p.names, a.params, b.params, o.params, p.params, r.names)) in
    omega (arith, l, a.names, b.names, o.names, p.names, r.names, w.names)

-- main's body has as many names as are counted from `main` to its end
main-few : {c d e : Counts} {n : ℕ} → c.names ≡ 0 → Still c d → NamesGrow n d e → n ≤ BODY_NAMES
main-few z a w = let l = w.few (omega (arith, a.names)) in omega (arith, l, a.names, w.names)

-- an assignment has no names
names-assigned : {c d : Counts} (line : ℕ) (q : Path) (o : Option Expr) (r : Right) → Still c d → NamesGrow (stmt_names (stmt line (assigned q o r))) c d
names-assigned line q None r a = names-none a
names-assigned line q (Some e) r a = names-none a

-- what is read has as many names as were counted
pub grows : {source : List ℕ} {f : Form} {c d : Counts} {ts us : List Token} {a : Given f} → Reads source f c ts a d us → Grows f a c d
grows (program_class {k = k} {r = r} x y) = record {
  methods = All-cons (λ (m : Class). All HasFewNames m.members) k r.classes (grows x) (grows y).methods;
  main = (grows y).main;
}
grows (program_main e x y) = record { methods = All-nil (λ (m : Class). All HasFewNames m.members); main = main-few refl (grows x) (grows y) }
grows (class_row e f h x) = grows x
grows (tmp_class_row e m f h x) = grows x
grows (members_row e h x f) = grows x
grows (element_row e h x f i) = All-nil HasFewNames
grows (field_row e h i x j y) = All-cons HasFewNames _ _ tt (grows y)
grows (method_row e x f h i j y l m n o) =
    All-cons HasFewNames _ _ (method-few refl refl (grows x) (method-still h) (opened-still j) (grows y) (grows m) (grows n)) (grows o)
grows (no_members e) = All-nil HasFewNames
grows (cap_row e) = still
grows (plain_type e) = still
grows (ref_type x e) = grows x
grows (first_param e h i x y) = params-more (param-grows h) (grows x) (grows y)
grows (no_params e) = params-none
grows (next_param e f h i x y) = params-more (param-grows h) (grows x) (grows y)
grows (no_more_params e) = params-none
grows (some_result e x) = grows x
grows (no_result e) = still
grows (manager_row e) = still
grows (block_row e h x f) = names-shut (names-behind (opened-still h) (grows x))
grows (no_stmts e) = names-none (record { names = refl; params = refl })
grows (more_stmts e x y) = names-both (names-behind (record { names = refl; params = refl }) (grows x)) (grows y)
grows (let_row e f h i x j y l) = names-before (local-grows h) (on (grows x) (grows y))
grows (assign_row {t = t} {q = q} {o = o} {r = r} x y e z f) = names-assigned t.line q o r (on (grows x) (on (grows y) (grows z)))
grows (call_row x e) = names-none (grows x)
grows (swap_row e f h x i) = names-none (grows x)
grows (if_row e x y z) = names-behind (grows x) (names-both (grows y) (grows z))
grows (while_row e x y) = names-behind (grows x) (grows y)
grows (enter_row e x f h i y z) = names-before (names-behind (grows x) (names-suc (local-grows i) (grows y))) (grows z)
grows (print_row e x f) = names-none (grows x)
grows (collect_row e f) = names-none still
grows (return_row e x f) = names-none (grows x)
grows (else_row e x) = grows x
grows (else_none e) = names-none still
grows (at_row e h x f) = shut (on (opened-still h) (grows x))
grows (no_at e) = still
grows (giving_row e f h) = still
grows (no_giving e) = still
grows (path_row e x) = grows x
grows (next_field e f x) = grows x
grows (no_fields e) = still
grows (new_row e x) = grows x
grows (freeze_row e f) = still
grows (merge_row e f) = still
grows (input_row e) = still
grows (result_row x) = grows x
grows (value_row e x) = grows x
grows (new_plain e x) = grows x
grows (new_temporary e f x) = grows x
grows (new_region e f x h y) = on (grows x) (grows y)
grows (call_start e x f h y) = on (grows x) (grows y)
grows (call_base e) = still
grows (call_further e f x) = grows x
grows (call_args e h x f) = shut (on (opened-still h) (grows x))
grows (no_args e) = still
grows (first_arg e x y) = on (grows x) (grows y)
grows (next_arg e x y) = on (grows x) (grows y)
grows (no_more_args e) = still
grows (expr_row x y) = on (grows x) (grows y)
grows (or_row e h x y) = on (sign-still h) (on (grows x) (grows y))
grows (no_or e) = still
grows (and_row x y) = on (grows x) (grows y)
grows (and_further e h x y) = on (sign-still h) (on (grows x) (grows y))
grows (no_and e) = still
grows (not_row e x) = grows x
grows (no_not e x) = grows x
grows (cmp_row x y) = on (grows x) (grows y)
grows (compared e h x) = on (sign-still h) (grows x)
grows (not_compared e) = still
grows (sum_row x y) = on (grows x) (grows y)
grows (sum_further e h x y) = on (sign-still h) (on (grows x) (grows y))
grows (no_sum e) = still
grows (mul_row x y) = on (grows x) (grows y)
grows (mul_further e h x y) = on (sign-still h) (on (grows x) (grows y))
grows (no_mul e) = still
grows (minus e x) = grows x
grows (no_minus e x) = grows x
grows (literal e) = still
grows (parens e h x f) = shut (on (opened-still h) (grows x))
grows (size_row e x) = grows x
grows (path_value x y) = on (grows x) (grows y)
grows (is_row e f) = still
grows (element_of e h x f) = shut (on (opened-still h) (grows x))
grows (no_is e) = still
