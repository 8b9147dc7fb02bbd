-- The grammar computed: the tree of some tokens with its derivation, found within so many steps.
use Rattle.std.proofs.Common.{◌≡◌, ℕ, zero, suc, Bool, true, false, List, [], ◌∷◌, Option, Some, None, Result, Ok, Err, refl}
use Rattle.std.specs.Bool.{Decides}
use Rattle.rg_tree.specs.declared.rows.BinOp.TheVariants.{Or, And}
use Rattle.rg_base.specs.declared.words.Keyword.TheVariants as w
use Rattle.rg_base.specs.declared.words.Sign.TheVariants as s
use Rattle.rg_base.specs.declared.token.Kind.{Kind}
use Rattle.rg_base.specs.declared.token.Kind.TheVariants as k
use Rattle.rg_base.specs.declared.token.Token.{Token}
use Rattle.rg_base.specs.declared.fault.Code.{Code}
use Rattle.rg_tree.specs.Tree.{binary, Tree}
use Rattle.rg_tree.specs.Phrases.{Symbol, the}
use Rattle.rg_tree.specs.Phrases as p
use Rattle.rg_tree.specs.declared.counts.Counts.{Counts}
use Rattle.rg_tree.specs.Counts.{at_start, opened, closed, one_class, one_field, one_method, one_param, one_local, one_sign, method_begins}
use Rattle.rg_tree.specs.Counts.{main_begins, no_signs}
use Rattle.rg_tree.specs.Table.{next, row}
use Rattle.rg_tree.specs.Operators.{cap_of, plain_type_of, manager_of, base_of, input_of, comparison_of, sum_of, product_of, literal_of}
use Rattle.rg_tree.specs.Forms as form
use Rattle.rg_tree.specs.Forms.{Form, Given}
use Rattle.rg_tree.specs.Grammar.{Reads, Spells, text, longer, program_class, program_main, class_row, tmp_class_row, members_row, element_row}
use Rattle.rg_tree.specs.Grammar.{field_row, method_row, at_row, no_at, giving_row, no_giving, size_row, element_of}
use Rattle.rg_tree.specs.Grammar.{no_members, cap_row, plain_type, ref_type, first_param, no_params, next_param, no_more_params, some_result}
use Rattle.rg_tree.specs.Grammar.{no_result, manager_row, block_row, no_stmts, more_stmts, let_row, assign_row, call_row, swap_row, if_row, while_row}
use Rattle.rg_tree.specs.Grammar.{enter_row, print_row, collect_row, return_row, else_row, else_none, path_row, next_field, no_fields, new_row}
use Rattle.rg_tree.specs.Grammar.{freeze_row, merge_row, input_row, result_row, value_row, new_plain, new_temporary, new_region, call_start}
use Rattle.rg_tree.specs.Grammar.{call_base, call_further, call_args, no_args, first_arg, next_arg, no_more_args, expr_row, or_row, no_or, and_row}
use Rattle.rg_tree.specs.Grammar.{and_further, no_and, not_row, no_not, cmp_row, compared, not_compared, sum_row, sum_further, no_sum, mul_row}
use Rattle.rg_tree.specs.Grammar.{mul_further, no_mul, minus, no_minus, literal, parens, path_value, is_row, no_is}
use Rattle.rg_tree.proofs.SameKinds.{same_kind, same_kind-Decides, same_next, same_next-Decides}

-- what was read, and that it was
pub record Reading (source : List ℕ) (f : Form) (c : Counts) (ts : List Token) : Type 0 where
  pub tree : Given f
  pub counts : Counts
  pub rest : List Token
  pub reads : Reads source f c ts tree counts rest

abbrev found : {source : List ℕ} {f : Form} {c d : Counts} {ts us : List Token} {a : Given f} → Reads source f c ts a d us
    → Option (Reading source f c ts)
found {source} {f} {c} {d} {ts} {us} {a} r = Some (record { tree = a; counts = d; rest = us; reads = r })

-- on with what there is
abbrev bind : {A B : Type 0} → Option A → (A → Option B) → Option B
bind None go = None
bind (Some a) go = go a

-- or the second, where there is no first
abbrev or_else : {A : Type 0} → Option A → (Unit {0} → Option A) → Option A
or_else (Some a) go = Some a
or_else None go = go tt

-- on where a test holds
abbrev where_true : {P B : Type 0} (b : Bool) → Decides b P → (P → Option B) → Option B
where_true true d go = go (d.0 refl)
where_true false d go = None

-- on behind a token of that kind
abbrev take : (P : List Token → Type 0) (x : Kind) (ts : List Token) → ((t : Token) (us : List Token) → t.kind ≡ x → Option (P (t ∷ us)))
    → Option (P ts)
take P x [] go = None
take P x (t ∷ us) go = where_true (same_kind t.kind x) (same_kind-Decides t.kind x) (go t us)

-- on behind any token
abbrev any : (P : List Token → Type 0) (ts : List Token) → ((t : Token) (us : List Token) → Option (P (t ∷ us))) → Option (P ts)
any P [] go = None
any P (t ∷ us) go = go t us

-- on where that token is next
abbrev before : {B : Type 0} (x : Kind) (ts : List Token) → (next ts ≡ Some x → Option B) → Option B
before x ts go = where_true (same_next (next ts) (Some x)) (same_next-Decides (next ts) (Some x)) go

abbrev behind_at : {B : Type 0} {source : List ℕ} {f : Form} {c d : Counts} {ts : List Token} {a : Given f} (x : Kind) (us : List Token)
    → Reads source f c ts a d us
    → ((t : Token) (vs : List Token) → t.kind ≡ x → Reads source f c ts a d (t ∷ vs) → Option B) → Option B
behind_at x [] r go = None
behind_at x (t ∷ vs) r go = where_true (same_kind t.kind x) (same_kind-Decides t.kind x) (λ e. go t vs e r)

-- on behind a token of that kind, behind what was read
abbrev behind : {B : Type 0} {source : List ℕ} {f : Form} {c : Counts} {ts : List Token} (x : Kind) (r : Reading source f c ts)
    → ((t : Token) (vs : List Token) → t.kind ≡ x → Reads source f c ts r.tree r.counts (t ∷ vs) → Option B) → Option B
behind x r go = behind_at x r.rest r.reads go

abbrev behind_two_at : {B : Type 0} {source : List ℕ} {f : Form} {c d : Counts} {ts : List Token} {a : Given f} (x y : Kind)
    (us : List Token) → Reads source f c ts a d us
    → ((t u : Token) (vs : List Token) → t.kind ≡ x → u.kind ≡ y → Reads source f c ts a d (t ∷ u ∷ vs) → Option B) → Option B
behind_two_at x y [] r go = None
behind_two_at x y (t ∷ []) r go = None
behind_two_at x y (t ∷ u ∷ vs) r go =
    where_true (same_kind t.kind x) (same_kind-Decides t.kind x) (λ e. where_true (same_kind u.kind y) (same_kind-Decides u.kind y) (λ h.
    go t u vs e h r))

-- on behind two tokens, behind what was read
abbrev behind_two : {B : Type 0} {source : List ℕ} {f : Form} {c : Counts} {ts : List Token} (x y : Kind) (r : Reading source f c ts)
    → ((t u : Token) (vs : List Token) → t.kind ≡ x → u.kind ≡ y → Reads source f c ts r.tree r.counts (t ∷ u ∷ vs) → Option B) → Option B
behind_two x y r go = behind_two_at x y r.rest r.reads go

abbrev ended_at : {B : Type 0} {source : List ℕ} {f : Form} {c d : Counts} {ts : List Token} {a : Given f} (us : List Token)
    → Reads source f c ts a d us
    → (Reads source f c ts a d [] → Option B) → Option B
ended_at [] r go = go r
ended_at (t ∷ us) r go = None

-- on where nothing is left
abbrev ended : {B : Type 0} {source : List ℕ} {f : Form} {c : Counts} {ts : List Token} (r : Reading source f c ts)
    → (Reads source f c ts r.tree r.counts [] → Option B) → Option B
ended r go = ended_at r.rest r.reads go

-- on within a limit
abbrev allowed : {B : Type 0} (r : Result Counts Code) → ((d : Counts) → r ≡ Ok d → Option B) → Option B
allowed (Ok d) go = go d refl
allowed (Err f) go = None

-- on with what a token is
abbrev known : {A B : Type 0} (o : Option A) → ((a : A) → o ≡ Some a → Option B) → Option B
known None go = None
known (Some a) go = go a refl

-- on where the table has an empty row
abbrev nothing : {B : Type 0} (r : Option (List Symbol)) → (r ≡ Some [] → Option B) → Option B
nothing (Some []) go = go refl
nothing _ go = None

-- on where the table's row begins with a phrase: a row without a next token
abbrev stmts_next : {B : Type 0} (r : Option (List Symbol)) → (r ≡ Some (the p.Stmt ∷ the p.Stmts ∷ []) → Option B) → Option B
stmts_next (Some (the p.Stmt ∷ the p.Stmts ∷ [])) go = go refl
stmts_next _ go = None

abbrev expr_next : {B : Type 0} (r : Option (List Symbol)) → (r ≡ Some (the p.Expr ∷ []) → Option B) → Option B
expr_next (Some (the p.Expr ∷ [])) go = go refl
expr_next _ go = None

abbrev args_next : {B : Type 0} (r : Option (List Symbol)) → (r ≡ Some (the p.Expr ∷ the p.MoreArgs ∷ []) → Option B) → Option B
args_next (Some (the p.Expr ∷ the p.MoreArgs ∷ [])) go = go refl
args_next _ go = None

abbrev cmp_next : {B : Type 0} (r : Option (List Symbol)) → (r ≡ Some (the p.Cmp ∷ []) → Option B) → Option B
cmp_next (Some (the p.Cmp ∷ [])) go = go refl
cmp_next _ go = None

abbrev primary_next : {B : Type 0} (r : Option (List Symbol)) → (r ≡ Some (the p.Primary ∷ []) → Option B) → Option B
primary_next (Some (the p.Primary ∷ [])) go = go refl
primary_next _ go = None

-- the reading of a form from some counts and tokens, where there is one within so many steps
abbrev pub reading : (source : List ℕ) → ℕ → (f : Form) (c : Counts) (ts : List Token) → Option (Reading source f c ts)
reading source zero f c ts = None
reading source (suc n) form.Program c ts =
    or_else (take (Reading source form.Program c) (k.Word w.Main) ts (λ t us e.
    bind (reading source n form.Manager (main_begins c) us) (λ m. bind (reading source n form.Block m.counts m.rest) (λ b.
    ended b (λ q. found (program_main e m.reads q)))))) (λ _.
    bind (reading source n form.Class c ts) (λ a. bind (reading source n form.Program a.counts a.rest) (λ r. found (program_class a.reads r.reads))))
reading source (suc n) form.Class c ts =
    or_else (take (Reading source form.Class c) (k.Word w.Class) ts (λ t rs e. take (λ zs.
    Reading source form.Class c (t ∷ zs)) k.Name rs (λ u us h. allowed (one_class c) (λ d l.
    bind (reading source n form.ClassRest d us) (λ r. found (class_row e h l r.reads)))))) (λ _.
    take (Reading source form.Class c) (k.Word w.Tmp) ts (λ t rs e. take (λ zs.
    Reading source form.Class c (t ∷ zs)) (k.Word w.Class) rs (λ y ys o. take (λ zs.
    Reading source form.Class c (t ∷ y ∷ zs)) k.Name ys (λ u us h. allowed (one_class c) (λ d l.
    bind (reading source n form.ClassRest d us) (λ r. found (tmp_class_row e o h l r.reads)))))))
reading source (suc n) form.ClassRest c ts =
    or_else (take (Reading source form.ClassRest c) (k.Mark s.OpenBrace) ts (λ t us e. allowed (opened c) (λ d l.
    bind (reading source n form.Members d us) (λ r. behind (k.Mark s.CloseBrace) r (λ u vs h q. found (members_row e l q h)))))) (λ _.
    take (Reading source form.ClassRest c) (k.Mark s.OpenBracket) ts (λ t us e. allowed (opened c) (λ d l.
    bind (reading source n form.Type' d us) (λ y. behind_two (k.Mark s.CloseBracket) (k.Mark s.Semicolon) y (λ u v vs h i q.
    found (element_row e l q h i))))))
reading source (suc n) form.Members c ts =
    or_else (take (Reading source form.Members c) k.Name ts (λ t us e. allowed (one_field c) (λ d l. take (λ zs.
    Reading source form.Members c (t ∷ zs)) (k.Mark s.Colon) us (λ u vs h. bind (reading source n form.Type' d vs) (λ y.
    behind (k.Mark s.Semicolon) y (λ v xs i q. bind (reading source n form.Members y.counts xs) (λ r.
    found (field_row e l h q i r.reads)))))))) (λ _.
    or_else (take (Reading source form.Members c) (k.Word w.Def) ts (λ t us e. bind (reading source n form.Cap (method_begins c) us) (λ a.
    behind_two k.Name (k.Mark s.OpenParen) a (λ u v vs h i q. allowed (one_method a.counts) (λ d l. allowed (opened d) (λ b m.
    bind (reading source n form.Params b vs) (λ y. behind (k.Mark s.CloseParen) y (λ x xs j z.
    bind (reading source n form.Result (closed y.counts) xs) (λ r. bind (reading source n form.Block r.counts r.rest) (λ body.
    bind (reading source n form.Members body.counts body.rest) (λ ms.
    found (method_row e q h l i m z j r.reads body.reads ms.reads)))))))))))) (λ _.
    before (k.Mark s.CloseBrace) ts (λ e. found (no_members e))))
reading source (suc n) form.Cap c ts =
    any (Reading source form.Cap c) ts (λ t us. known (cap_of t.kind) (λ a e. found (cap_row e)))
reading source (suc n) form.Type' c ts =
    or_else (any (Reading source form.Type' c) ts (λ t us. known (plain_type_of t.kind) (λ a e. found (plain_type e)))) (λ _.
    bind (reading source n form.Cap c ts) (λ a. behind k.Name a (λ t us e q. found (ref_type q e))))
reading source (suc n) form.Params c ts =
    or_else (take (Reading source form.Params c) k.Name ts (λ t us e. allowed (one_param c) (λ d l. take (λ zs.
    Reading source form.Params c (t ∷ zs)) (k.Mark s.Colon) us (λ u vs h. bind (reading source n form.Type' d vs) (λ y.
    bind (reading source n form.MoreParams y.counts y.rest) (λ r. found (first_param e l h y.reads r.reads))))))) (λ _.
    before (k.Mark s.CloseParen) ts (λ e. found (no_params e)))
reading source (suc n) form.MoreParams c ts =
    or_else (take (Reading source form.MoreParams c) (k.Mark s.Comma) ts (λ t us e. take (λ zs.
    Reading source form.MoreParams c (t ∷ zs)) k.Name us (λ u vs h. allowed (one_param c) (λ d l. take (λ zs.
    Reading source form.MoreParams c (t ∷ u ∷ zs)) (k.Mark s.Colon) vs (λ v xs i. bind (reading source n form.Type' d xs) (λ y.
    bind (reading source n form.MoreParams y.counts y.rest) (λ r. found (next_param e h l i y.reads r.reads)))))))) (λ _.
    before (k.Mark s.CloseParen) ts (λ e. found (no_more_params e)))
reading source (suc n) form.Result c ts =
    or_else (take (Reading source form.Result c) (k.Mark s.Colon) ts (λ t us e. bind (reading source n form.Type' c us) (λ y.
    found (some_result e y.reads)))) (λ _.
    before (k.Mark s.OpenBrace) ts (λ e. found (no_result e)))
reading source (suc n) form.Manager c ts =
    any (Reading source form.Manager c) ts (λ t us. known (manager_of t.kind) (λ a e. found (manager_row e)))
reading source (suc n) form.Block c ts =
    take (Reading source form.Block c) (k.Mark s.OpenBrace) ts (λ t us e. allowed (opened c) (λ d l.
    bind (reading source n form.Stmts d us) (λ b. behind (k.Mark s.CloseBrace) b (λ u vs h q. found (block_row e l q h)))))
reading source (suc n) form.Stmts c ts =
    or_else (before (k.Mark s.CloseBrace) ts (λ e. found (no_stmts e))) (λ _.
    stmts_next (row p.Stmts (next ts)) (λ e. bind (reading source n form.Stmt (no_signs c) ts) (λ a.
    bind (reading source n form.Stmts a.counts a.rest) (λ b. found (more_stmts e a.reads b.reads)))))
reading source (suc n) form.Stmt c ts =
    or_else (take (Reading source form.Stmt c) (k.Word w.Let) ts (λ t us e. take (λ zs.
    Reading source form.Stmt c (t ∷ zs)) k.Name us (λ u vs h. allowed (one_local c) (λ d l. take (λ zs.
    Reading source form.Stmt c (t ∷ u ∷ zs)) (k.Mark s.Colon) vs (λ v xs i. bind (reading source n form.Type' d xs) (λ y.
    behind (k.Mark s.Assign) y (λ x ys j q. bind (reading source n form.Right y.counts ys) (λ r.
    behind (k.Mark s.Semicolon) r (λ z zs m o. found (let_row e h l i q j o m)))))))))) (λ _.
    or_else (any (Reading source form.Stmt c) ts (λ t us. bind (reading source n form.Path c (t ∷ us)) (λ a.
    bind (reading source n form.At a.counts a.rest) (λ o. behind (k.Mark s.Assign) o (λ u vs e q.
    bind (reading source n form.Right o.counts vs) (λ r.
    behind (k.Mark s.Semicolon) r (λ v xs h z. found (assign_row a.reads q e z h)))))))) (λ _.
    or_else (any (Reading source form.Stmt c) ts (λ t us. bind (reading source n form.Call c (t ∷ us)) (λ a.
    behind (k.Mark s.Semicolon) a (λ u vs e q. found (call_row q e))))) (λ _.
    or_else (take (Reading source form.Stmt c) (k.Word w.Swap) ts (λ t us e. take (λ zs.
    Reading source form.Stmt c (t ∷ zs)) k.Name us (λ u vs h. take (λ zs.
    Reading source form.Stmt c (t ∷ u ∷ zs)) (k.Mark s.Comma) vs (λ v xs i. bind (reading source n form.Path c xs) (λ a.
    behind (k.Mark s.Semicolon) a (λ x ys j q. found (swap_row e h i q j))))))) (λ _.
    or_else (take (Reading source form.Stmt c) (k.Word w.If) ts (λ t us e. bind (reading source n form.Expr c us) (λ a.
    bind (reading source n form.Block a.counts a.rest) (λ b. bind (reading source n form.Else b.counts b.rest) (λ o.
    found (if_row e a.reads b.reads o.reads)))))) (λ _.
    or_else (take (Reading source form.Stmt c) (k.Word w.While) ts (λ t us e. bind (reading source n form.Expr c us) (λ a.
    bind (reading source n form.Block a.counts a.rest) (λ b. found (while_row e a.reads b.reads))))) (λ _.
    or_else (take (Reading source form.Stmt c) (k.Word w.Enter) ts (λ t us e. bind (reading source n form.Path c us) (λ a.
    behind_two (k.Word w.As) k.Name a (λ u v vs h i q. allowed (one_local a.counts) (λ d l.
    bind (reading source n form.Block d vs) (λ b. bind (reading source n form.Giving b.counts b.rest) (λ o.
    found (enter_row e q h i l b.reads o.reads)))))))) (λ _.
    or_else (take (Reading source form.Stmt c) (k.Word w.Print) ts (λ t us e. bind (reading source n form.Expr c us) (λ a.
    behind (k.Mark s.Semicolon) a (λ u vs h q. found (print_row e q h))))) (λ _.
    or_else (take (Reading source form.Stmt c) (k.Word w.Collect) ts (λ t us e. take (λ zs.
    Reading source form.Stmt c (t ∷ zs)) (k.Mark s.Semicolon) us (λ u vs h. found (collect_row e h)))) (λ _.
    take (Reading source form.Stmt c) (k.Word w.Return) ts (λ t us e. bind (reading source n form.Expr c us) (λ a.
    behind (k.Mark s.Semicolon) a (λ u vs h q. found (return_row e q h)))))))))))))
reading source (suc n) form.At c ts =
    or_else (take (Reading source form.At c) (k.Mark s.OpenBracket) ts (λ t us e. allowed (opened c) (λ d l.
    bind (reading source n form.Expr d us) (λ a. behind (k.Mark s.CloseBracket) a (λ u vs h q. found (at_row e l q h)))))) (λ _.
    nothing (row p.At (next ts)) (λ e. found (no_at e)))
reading source (suc n) form.Giving c ts =
    or_else (take (Reading source form.Giving c) (k.Word w.Giving) ts (λ t us e. take (λ zs.
    Reading source form.Giving c (t ∷ zs)) k.Name us (λ u vs h. take (λ zs.
    Reading source form.Giving c (t ∷ u ∷ zs)) (k.Mark s.Semicolon) vs (λ v xs i. found (giving_row e h i))))) (λ _.
    nothing (row p.Giving (next ts)) (λ e. found (no_giving e)))
reading source (suc n) form.Else c ts =
    or_else (take (Reading source form.Else c) (k.Word w.Else) ts (λ t us e. bind (reading source n form.Block c us) (λ b.
    found (else_row e b.reads)))) (λ _.
    nothing (row p.Else (next ts)) (λ e. found (else_none e)))
reading source (suc n) form.Path c ts =
    any (Reading source form.Path c) ts (λ t us. known (base_of t.kind (text source t)) (λ b e.
    bind (reading source n form.Fields c us) (λ r. found (path_row e r.reads))))
reading source (suc n) form.Fields c ts =
    or_else (take (Reading source form.Fields c) (k.Mark s.Dot) ts (λ t us e. take (λ zs.
    Reading source form.Fields c (t ∷ zs)) k.Name us (λ u vs h. bind (reading source n form.Fields c vs) (λ r.
    found (next_field e h r.reads))))) (λ _.
    nothing (row p.Fields (next ts)) (λ e. found (no_fields e)))
reading source (suc n) form.Right c ts =
    or_else (take (Reading source form.Right c) (k.Word w.New) ts (λ t us e. bind (reading source n form.New c us) (λ r.
    found (new_row e r.reads)))) (λ _.
    or_else (take (Reading source form.Right c) (k.Word w.Freeze) ts (λ t us e. take (λ zs.
    Reading source form.Right c (t ∷ zs)) k.Name us (λ u vs h. found (freeze_row e h)))) (λ _.
    or_else (take (Reading source form.Right c) (k.Word w.Merge) ts (λ t us e. take (λ zs.
    Reading source form.Right c (t ∷ zs)) k.Name us (λ u vs h. found (merge_row e h)))) (λ _.
    or_else (any (Reading source form.Right c) ts (λ t us. known (input_of t.kind) (λ a e. found (input_row e)))) (λ _.
    or_else (bind (reading source n form.Call c ts) (λ a. found (result_row a.reads))) (λ _.
    expr_next (row p.Right (next ts)) (λ e. bind (reading source n form.Expr c ts) (λ a. found (value_row e a.reads))))))))
reading source (suc n) form.New c ts =
    or_else (take (Reading source form.New c) k.Name ts (λ t us e. bind (reading source n form.At c us) (λ o. found (new_plain e o.reads)))) (λ _.
    or_else (take (Reading source form.New c) (k.Word w.Tmp) ts (λ t us e. take (λ zs.
    Reading source form.New c (t ∷ zs)) k.Name us (λ u vs h. bind (reading source n form.At c vs) (λ o. found (new_temporary e h o.reads))))) (λ _.
    take (Reading source form.New c) (k.Word w.Iso) ts (λ t us e. take (λ zs. Reading source form.New c (t ∷ zs)) k.Name us (λ u vs h.
    bind (reading source n form.At c vs) (λ o. behind (k.Word w.In) o (λ v xs i q. bind (reading source n form.Manager o.counts xs) (λ m.
    found (new_region e h q i m.reads))))))))
reading source (suc n) form.Call c ts =
    take (Reading source form.Call c) (k.Word w.Call) ts (λ t us e. bind (reading source n form.CallBase c us) (λ b.
    behind_two (k.Mark s.Dot) k.Name b (λ u v vs h i q.
    bind (reading source n (form.CallRest (record { base = b.tree; fields = [] }) (text source v)) b.counts vs) (λ a.
    found (call_start e q h i a.reads)))))
reading source (suc n) form.CallBase c ts =
    any (Reading source form.CallBase c) ts (λ t us. known (base_of t.kind (text source t)) (λ b e. found (call_base e)))
reading source (suc n) (form.CallRest a m) c ts =
    or_else (take (Reading source (form.CallRest a m) c) (k.Mark s.Dot) ts (λ t us e. take (λ zs.
    Reading source (form.CallRest a m) c (t ∷ zs)) k.Name us (λ u vs h.
    bind (reading source n (form.CallRest (longer a m) (text source u)) c vs) (λ r. found (call_further e h r.reads))))) (λ _.
    take (Reading source (form.CallRest a m) c) (k.Mark s.OpenParen) ts (λ t us e. allowed (opened c) (λ d l.
    bind (reading source n form.Args d us) (λ r. behind (k.Mark s.CloseParen) r (λ u vs h q. found (call_args e l q h))))))
reading source (suc n) form.Args c ts =
    or_else (before (k.Mark s.CloseParen) ts (λ e. found (no_args e))) (λ _.
    args_next (row p.Args (next ts)) (λ e. bind (reading source n form.Expr c ts) (λ a.
    bind (reading source n form.MoreArgs a.counts a.rest) (λ r. found (first_arg e a.reads r.reads)))))
reading source (suc n) form.MoreArgs c ts =
    or_else (take (Reading source form.MoreArgs c) (k.Mark s.Comma) ts (λ t us e. bind (reading source n form.Expr c us) (λ a.
    bind (reading source n form.MoreArgs a.counts a.rest) (λ r. found (next_arg e a.reads r.reads))))) (λ _.
    before (k.Mark s.CloseParen) ts (λ e. found (no_more_args e)))
reading source (suc n) form.Expr c ts =
    bind (reading source n form.And c ts) (λ a. bind (reading source n (form.OrRest a.tree) a.counts a.rest) (λ r. found (expr_row a.reads r.reads)))
reading source (suc n) (form.OrRest a) c ts =
    or_else (take (Reading source (form.OrRest a) c) (k.Word w.Or) ts (λ t us e. allowed (one_sign c) (λ d l.
    bind (reading source n form.And d us) (λ b. bind (reading source n (form.OrRest (binary Or a b.tree)) b.counts b.rest) (λ r.
    found (or_row e l b.reads r.reads)))))) (λ _.
    nothing (row p.OrRest (next ts)) (λ e. found (no_or e)))
reading source (suc n) form.And c ts =
    bind (reading source n form.Not c ts) (λ a. bind (reading source n (form.AndRest a.tree) a.counts a.rest) (λ r. found (and_row a.reads r.reads)))
reading source (suc n) (form.AndRest a) c ts =
    or_else (take (Reading source (form.AndRest a) c) (k.Word w.And) ts (λ t us e. allowed (one_sign c) (λ d l.
    bind (reading source n form.Not d us) (λ b. bind (reading source n (form.AndRest (binary And a b.tree)) b.counts b.rest) (λ r.
    found (and_further e l b.reads r.reads)))))) (λ _.
    nothing (row p.AndRest (next ts)) (λ e. found (no_and e)))
reading source (suc n) form.Not c ts =
    or_else (take (Reading source form.Not c) (k.Word w.Not) ts (λ t us e. bind (reading source n form.Cmp c us) (λ a.
    found (not_row e a.reads)))) (λ _.
    cmp_next (row p.Not (next ts)) (λ e. bind (reading source n form.Cmp c ts) (λ a. found (no_not e a.reads))))
reading source (suc n) form.Cmp c ts =
    bind (reading source n form.Sum c ts) (λ a. bind (reading source n (form.CmpRest a.tree) a.counts a.rest) (λ r. found (cmp_row a.reads r.reads)))
reading source (suc n) (form.CmpRest a) c ts =
    or_else (any (Reading source (form.CmpRest a) c) ts (λ t us. known (comparison_of t.kind) (λ o e. allowed (one_sign c) (λ d l.
    bind (reading source n form.Sum d us) (λ b. found (compared e l b.reads)))))) (λ _.
    nothing (row p.CmpRest (next ts)) (λ e. found (not_compared e)))
reading source (suc n) form.Sum c ts =
    bind (reading source n form.Mul c ts) (λ a. bind (reading source n (form.SumRest a.tree) a.counts a.rest) (λ r. found (sum_row a.reads r.reads)))
reading source (suc n) (form.SumRest a) c ts =
    or_else (any (Reading source (form.SumRest a) c) ts (λ t us. known (sum_of t.kind) (λ o e. allowed (one_sign c) (λ d l.
    bind (reading source n form.Mul d us) (λ b. bind (reading source n (form.SumRest (binary o a b.tree)) b.counts b.rest) (λ r.
    found (sum_further e l b.reads r.reads))))))) (λ _.
    nothing (row p.SumRest (next ts)) (λ e. found (no_sum e)))
reading source (suc n) form.Mul c ts =
    bind (reading source n form.Unary c ts) (λ a. bind (reading source n (form.MulRest a.tree) a.counts a.rest) (λ r.
    found (mul_row a.reads r.reads)))
reading source (suc n) (form.MulRest a) c ts =
    or_else (any (Reading source (form.MulRest a) c) ts (λ t us. known (product_of t.kind) (λ o e. allowed (one_sign c) (λ d l.
    bind (reading source n form.Unary d us) (λ b. bind (reading source n (form.MulRest (binary o a b.tree)) b.counts b.rest) (λ r.
    found (mul_further e l b.reads r.reads))))))) (λ _.
    nothing (row p.MulRest (next ts)) (λ e. found (no_mul e)))
reading source (suc n) form.Unary c ts =
    or_else (take (Reading source form.Unary c) (k.Mark s.Minus) ts (λ t us e. bind (reading source n form.Primary c us) (λ a.
    found (minus e a.reads)))) (λ _.
    primary_next (row p.Unary (next ts)) (λ e. bind (reading source n form.Primary c ts) (λ a. found (no_minus e a.reads))))
reading source (suc n) form.Primary c ts =
    or_else (any (Reading source form.Primary c) ts (λ t us. known (literal_of t.kind) (λ a e. found (literal e)))) (λ _.
    or_else (take (Reading source form.Primary c) (k.Mark s.OpenParen) ts (λ t us e. allowed (opened c) (λ d l.
    bind (reading source n form.Expr d us) (λ a. behind (k.Mark s.CloseParen) a (λ u vs h q. found (parens e l q h)))))) (λ _.
    or_else (take (Reading source form.Primary c) (k.Word w.Size) ts (λ t us e. bind (reading source n form.Path c us) (λ a.
    found (size_row e a.reads)))) (λ _.
    bind (reading source n form.Path c ts) (λ a. bind (reading source n (form.Is a.tree) a.counts a.rest) (λ r.
    found (path_value a.reads r.reads))))))
reading source (suc n) (form.Is a) c ts =
    or_else (take (Reading source (form.Is a) c) (k.Word w.Is) ts (λ t us e. take (λ zs.
    Reading source (form.Is a) c (t ∷ zs)) (k.Word w.Nil) us (λ u vs h. found (is_row e h)))) (λ _.
    or_else (take (Reading source (form.Is a) c) (k.Mark s.OpenBracket) ts (λ t us e. allowed (opened c) (λ d l.
    bind (reading source n form.Expr d us) (λ b. behind (k.Mark s.CloseBracket) b (λ u vs h q. found (element_of e l q h)))))) (λ _.
    nothing (row p.Is (next ts)) (λ e. found (no_is e))))

abbrev left_none : {source : List ℕ} {ts : List Token} (r : Reading source form.Program at_start ts) → Option ((a : Tree) × Spells source a ts)
left_none r = ended r (λ q. Some (r.tree, (r.counts, q)))

-- the tree that the tokens spell, where it is found within so many steps
abbrev pub tree_within : (n : ℕ) (source : List ℕ) (ts : List Token) → Option ((a : Tree) × Spells source a ts)
tree_within n source ts = bind (reading source n form.Program at_start ts) left_none
