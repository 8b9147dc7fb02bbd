-- The lexemes of types, calls and right sides are read as these, with the counts that they fit.
use Rattle.std.proofs.Common.{◌≡◌, ℕ, ◌+◌, ◌<◌, ◌≤◌, List, [], ◌∷◌, ◌++◌, length, Option, Some, None, Ok, refl, sym, ap, subst, append_assoc}
use Rattle.rg_base.specs.declared.words.Cap.{Cap}
use Rattle.rg_base.specs.declared.words.Cap.TheVariants.{Mut, Tmp, Paused, Imm, Iso}
use Rattle.rg_base.specs.declared.words.Manager.{Manager}
use Rattle.rg_base.specs.declared.words.Manager.TheVariants.{Arena, Count, Trace}
use Rattle.rg_base.specs.declared.words.Keyword.TheVariants as w
use Rattle.rg_base.specs.declared.words.Sign.TheVariants as s
use Rattle.rg_base.specs.declared.token.Kind.{Kind}
use Rattle.rg_base.specs.declared.token.Kind.TheVariants as k
use Rattle.rg_base.specs.declared.token.Token.{Token}
use Rattle.rg_tree.specs.declared.counts.Counts.{Counts}
use Rattle.rg_tree.specs.Tree.{Name, Variable, Path, Ty, int, bool, ref, Expr, Call, Right, value, new, new_tmp, new_iso, freeze, merge, read, more}
use Rattle.rg_tree.specs.Tree.{result_of}
use Rattle.rg_tree.specs.Counts.{opened, closed}
use Rattle.rg_tree.specs.Phrases as p
use Rattle.rg_tree.specs.Table.{row}
use Rattle.rg_tree.specs.Operators.{cap_of, manager_of}
use Rattle.rg_tree.specs.Forms as form
use Rattle.rg_tree.specs.Forms.{Form, Given}
use Rattle.rg_tree.specs.Grammar.{Reads, text, longer, cap_row, plain_type, ref_type, manager_row, new_row, freeze_row, merge_row, input_row}
use Rattle.rg_tree.specs.Grammar.{result_row, value_row, new_plain, new_temporary, new_region, call_start, call_base, call_further, call_args}
use Rattle.rg_tree.specs.Grammar.{no_args, first_arg, next_arg, no_more_args, at_row, no_at}
use Rattle.rg_print.proofs.Canon.Lexemes.{Lexeme, word, mark, named, space, cap_word, manager_word, base_lexeme, dotted, ty_lexemes, expr_lexemes}
use Rattle.rg_print.proofs.Canon.Lexemes.{index_lexemes, size_lexemes, more_arg_lexemes, arg_lexemes, call_lexemes, right_lexemes}
use Rattle.rg_print.proofs.Canon.LexemeCuts.{IsName, tokens_at}
use Rattle.rg_print.proofs.Canon.LexemesApart.{PathPlain, ExprPlain, ArgsPlain, CallPlain, SizePlain, RightPlain}
use Rattle.rg_print.proofs.Canon.Readings.{ends-all, first_kind, next-tokens_at, Ends0, with_signs, signs, depth, Spelt, Read}
use Rattle.rg_print.proofs.Canon.ExprReads.{expr-whole, stands}

-- from some counts an expression whose parentheses go so deep leads to others, within the limits
pub record Fits (c : Counts) (n : ℕ) (e : Expr) (d : Counts) : Type 0 where
  pub plain : ExprPlain e
  pub room : 0 < n → c.brackets + n ≤ 64
  pub spent : d ≡ with_signs c (c.signs + signs e)
  pub few : 0 < signs e → c.signs + signs e ≤ 512

-- the same of an expression in brackets, of arguments, of a call and of a right side
pub record IndexFits (c : Counts) (e : Expr) (d : Counts) : Type 0 where
  pub within : Counts
  pub opens : opened c ≡ Ok within
  pub behind : Counts
  pub inner : Fits within (depth e) e behind
  pub closes : closed behind ≡ d

abbrev pub AtFits : Counts → Option Expr → Counts → Type 0
AtFits c None d = c ≡ d
AtFits c (Some e) d = IndexFits c e d

abbrev pub ArgsFit : Counts → List Expr → Counts → Type 0
ArgsFit c [] d = c ≡ d
ArgsFit c (e ∷ es) d = (m : Counts) × (Fits c (depth e) e m × ArgsFit m es d)

pub record CallFits (c : Counts) (a : Call) (d : Counts) : Type 0 where
  pub target : PathPlain a.target
  pub method : IsName a.method
  pub within : Counts
  pub opens : opened c ≡ Ok within
  pub behind : Counts
  pub args : ArgsFit within a.args behind
  pub closes : closed behind ≡ d

abbrev pub RightFits : Counts → Right → Counts → Type 0
RightFits c (value e) d = Fits c (depth e) e d
RightFits c (new n o) d = IsName n × AtFits c o d
RightFits c (new_tmp n o) d = IsName n × AtFits c o d
RightFits c (new_iso n o m) d = IsName n × AtFits c o d
RightFits c (freeze n) d = IsName n × (c ≡ d)
RightFits c (merge n) d = IsName n × (c ≡ d)
RightFits c read d = c ≡ d
RightFits c more d = c ≡ d
RightFits c (result_of a) d = CallFits c a d

-- What fits has names and numbers within their limits.

args-plain : (es : List Expr) (c d : Counts) → ArgsFit c es d → ArgsPlain es
args-plain [] c d h = tt
args-plain (e ∷ es) c d h = (h.1.0.plain, args-plain es h.0 d h.1.1)

pub call-plain : (a : Call) (c d : Counts) → CallFits c a d → CallPlain a
call-plain a c d h = record { target = h.target; method = h.method; args = args-plain a.args h.within h.behind h.args }

size-plain : (o : Option Expr) (c d : Counts) → AtFits c o d → SizePlain o
size-plain None c d h = tt
size-plain (Some e) c d h = h.inner.plain

pub right-plain : (r : Right) (c d : Counts) → RightFits c r d → RightPlain r
right-plain (value e) c d h = h.plain
right-plain (new n o) c d h = (h.0, size-plain o c d h.1)
right-plain (new_tmp n o) c d h = (h.0, size-plain o c d h.1)
right-plain (new_iso n o m) c d h = (h.0, size-plain o c d h.1)
right-plain read c d h = tt
right-plain more c d h = tt
right-plain (result_of a) c d h = call-plain a c d h
right-plain _ c d h = h.0

-- what goes on no expression is no bracket
no_at-row : (o : Option Kind) → Ends0 o → row p.At o ≡ Some []
no_at-row o f = go o f.below.below.below.below.below.is
  where
    go : (o : Option Kind) → row p.Is o ≡ Some [] → row p.At o ≡ Some []
    go (Some (k.Mark s.OpenBracket)) h = cc
    go _ h = refl

-- the words of capabilities and managers
cap-is : (a : Cap) → cap_of (k.Word (cap_word a)) ≡ Some a
cap-is Mut = refl
cap-is Tmp = refl
cap-is Paused = refl
cap-is Imm = refl
cap-is Iso = refl

manager-is : (m : Manager) → manager_of (k.Word (manager_word m)) ≡ Some m
manager-is Arena = refl
manager-is Count = refl
manager-is Trace = refl

module _ (S : List ℕ) where
  -- with equal counts behind
  pub leads : {f : Form} {ts : List Token} {a : Given f} {rest : List Lexeme} (c d e : Counts) → d ≡ e → Read S f c ts a d rest
      → Read S f c ts a e rest
  leads {f} {ts} {a} {rest} c d e h r = subst (λ x. Read S f c ts a x rest) h r

  -- capabilities, managers and types
  pub cap-read : (a : Cap) (c : Counts) (from line : ℕ) (rest : List Lexeme) → Spelt S from (word (cap_word a) ∷ rest)
      → Read S form.Cap c (tokens_at from line (word (cap_word a) ∷ rest)) a c rest
  cap-read a c from line rest h = record { from = _; line = line; spelt = h; reads = cap_row (cap-is a) }

  pub manager-read : (m : Manager) (c : Counts) (from line : ℕ) (rest : List Lexeme) → Spelt S from (word (manager_word m) ∷ rest)
      → Read S form.Manager c (tokens_at from line (word (manager_word m) ∷ rest)) m c rest
  manager-read m c from line rest h = record { from = _; line = line; spelt = h; reads = manager_row (manager-is m) }

  pub ty-read : (t : Ty) (c : Counts) (from line : ℕ) (rest : List Lexeme) → Spelt S from (ty_lexemes t rest)
      → Read S form.Type' c (tokens_at from line (ty_lexemes t rest)) t c rest
  ty-read int c from line rest h = record { from = from + 3; line = line; spelt = h; reads = plain_type refl }
  ty-read bool c from line rest h = record { from = from + 4; line = line; spelt = h; reads = plain_type refl }
  ty-read (ref a n) c from line rest h =
      let r = cap-read a c from line (space ∷ named n ∷ rest) h in
      record {
        from = r.from + 1 + length n;
        line = r.line;
        spelt = r.spelt.1;
        reads = subst (λ x. Reads S form.Type' c (tokens_at from line (ty_lexemes (ref a n) rest)) (ref a x) c (tokens_at
            (r.from + 1 + length n) r.line rest))
            r.spelt.0 (ref_type r.reads refl);
      }

  -- an expression to its end
  pub expr-read : (e : Expr) (c d : Counts) (from line : ℕ) (rest : List Lexeme) → Fits c (depth e) e d → Ends0 (first_kind rest)
      → Spelt S from (expr_lexemes e rest) → Read S form.Expr c (tokens_at from line (expr_lexemes e rest)) e d rest
  expr-read e c d from line rest v f h = leads c (with_signs c (c.signs + signs e)) d (sym v.spent)
      (expr-whole S (expr_lexemes e) e (depth e) (stands S e).bare c c.signs (c.signs + signs e) from line rest
      (record { room = v.room; sum = refl; few = v.few }) f h)

  -- what ends an argument
  argument-ends : (es : List Expr) (rest : List Lexeme) → Ends0 (first_kind (more_arg_lexemes es (mark s.CloseParen ∷ rest)))
  argument-ends [] rest = ends-all refl refl refl refl refl refl refl
  argument-ends (e ∷ es) rest = ends-all refl refl refl refl refl refl refl

  -- arguments, up to the parenthesis that closes
  more_args-read : (es : List Expr) (c d : Counts) (from line : ℕ) (rest : List Lexeme) → ArgsFit c es d
      → Spelt S from (more_arg_lexemes es (mark s.CloseParen ∷ rest))
      → Read S form.MoreArgs c (tokens_at from line (more_arg_lexemes es (mark s.CloseParen ∷ rest))) es d (mark s.CloseParen ∷ rest)
  more_args-read [] c d from line rest v h = leads c c d v (record { from = from; line = line; spelt = h; reads = no_more_args refl })
  more_args-read (e ∷ es) c d from line rest v h =
      let r = expr-read e c v.0 (from + 1 + 1) line (more_arg_lexemes es (mark s.CloseParen ∷ rest)) v.1.0 (argument-ends es rest) h in
      let q = more_args-read es v.0 d r.from r.line rest v.1.1 r.spelt in
      record { from = q.from; line = q.line; spelt = q.spelt; reads = next_arg refl r.reads q.reads }

  args-read : (es : List Expr) (c d : Counts) (from line : ℕ) (rest : List Lexeme) → ArgsFit c es d
      → Spelt S from (arg_lexemes es (mark s.CloseParen ∷ rest))
      → Read S form.Args c (tokens_at from line (arg_lexemes es (mark s.CloseParen ∷ rest))) es d (mark s.CloseParen ∷ rest)
  args-read [] c d from line rest v h = leads c c d v (record { from = from; line = line; spelt = h; reads = no_args refl })
  args-read (e ∷ es) c d from line rest v h =
      let all = more_arg_lexemes es (mark s.CloseParen ∷ rest) in
      let r = expr-read e c v.0 from line all v.1.0 (argument-ends es rest) h in
      let q = more_args-read es v.0 d r.from r.line rest v.1.1 r.spelt in
      record {
        from = q.from;
        line = q.line;
        spelt = q.spelt;
        reads = first_arg (rw (next-tokens_at from line (expr_lexemes e all)) ((stands S e).begins all).args) r.reads q.reads;
      }

  -- Calls.

  -- what begins the path of a call
  base-read : (b : Variable) (c : Counts) (from line : ℕ) (rest : List Lexeme) → Spelt S from (base_lexeme b ∷ rest)
      → Read S form.CallBase c (tokens_at from line (base_lexeme b ∷ rest)) b c rest
  base-read None c from line rest h = record { from = from + 4; line = line; spelt = h; reads = call_base refl }
  base-read (Some x) c from line rest h =
      record { from = from + length x; line = line; spelt = h.1; reads = call_base (ap (λ n. Some (Some n)) h.0) }

  -- a further name, and the first one, by its text
  further : {c d : Counts} {t u : Token} {ts us : List Token} {q : Path} {m : Name} {a : Call} (n : Name)
      → t.kind ≡ k.Mark s.Dot → u.kind ≡ k.Name → text S u ≡ n → Reads S (form.CallRest (longer q m) n) c ts a d us
      → Reads S (form.CallRest q m) c (t ∷ u ∷ ts) a d us
  further {c} {d} {t} {u} {ts} {us} {q} {m} {a} n h i e r =
      call_further h i (subst (λ x. Reads S (form.CallRest (longer q m) x) c ts a d us) (sym e) r)

  start : {c d e : Counts} {t u v : Token} {ts us vs : List Token} {b : Variable} {a : Call} (n : Name)
      → t.kind ≡ k.Word w.Call → Reads S form.CallBase c ts b d (u ∷ v ∷ us) → u.kind ≡ k.Mark s.Dot → v.kind ≡ k.Name → text S v ≡ n
      → Reads S (form.CallRest (record { base = b; fields = [] }) n) d us a e vs → Reads S form.Call c (t ∷ ts) a e vs
  start {c} {d} {e} {t} {u} {v} {ts} {us} {vs} {b} {a} n h x i j l r =
      call_start h x i j (subst (λ z. Reads S (form.CallRest (record { base = b; fields = [] }) z) d us a e vs) (sym l) r)

  module _ (c i o d : Counts) (es : List Expr) (last : Name) (opens : opened c ≡ Ok i) (fit : ArgsFit i es o) (closes : closed o ≡ d) where
    -- arguments, behind the method of a path
    behind-read : (q : Path) (from line : ℕ) (rest : List Lexeme) → Spelt S from (mark s.OpenParen ∷ arg_lexemes es (mark s.CloseParen ∷ rest))
        → Read S (form.CallRest q last) c (tokens_at from line (mark s.OpenParen ∷ arg_lexemes es (mark s.CloseParen ∷ rest)))
        (record { target = q; method = last; args = es }) d rest
    behind-read q from line rest h =
        let r = args-read es i o (from + 1) line rest fit h in
        leads c (closed o) d closes (record { from = r.from + 1; line = r.line; spelt = r.spelt; reads = call_args refl opens r.reads refl })

    -- further names, and arguments
    names-read : (fs : List Name) (q : Path) (m : Name) (from line : ℕ) (rest : List Lexeme)
        → Spelt S from (dotted fs (mark s.Dot ∷ named last ∷ mark s.OpenParen ∷ arg_lexemes es (mark s.CloseParen ∷ rest)))
        → Read S (form.CallRest q m) c
        (tokens_at from line (dotted fs (mark s.Dot ∷ named last ∷ mark s.OpenParen ∷ arg_lexemes es (mark s.CloseParen ∷ rest))))
        (record { target = record { base = q.base; fields = q.fields ++ m ∷ fs }; method = last; args = es }) d rest
    names-read [] q m from line rest h =
        let r = behind-read (longer q m) (from + 1 + length last) line rest h.1 in
        record { from = r.from; line = r.line; spelt = r.spelt; reads = further last refl refl h.0 r.reads }
    names-read (f ∷ fs) q m from line rest h =
        let all = dotted (f ∷ fs) (mark s.Dot ∷ named last ∷ mark s.OpenParen ∷ arg_lexemes es (mark s.CloseParen ∷ rest)) in
        let r = names-read fs (longer q m) f (from + 1 + length f) line rest h.1 in
        subst (λ z. Read S (form.CallRest q m) c (tokens_at from line all)
        (record { target = record { base = q.base; fields = z }; method = last; args = es }) d rest)
        (append_assoc q.fields (m ∷ []) (f ∷ fs))
        (record { from = r.from; line = r.line; spelt = r.spelt; reads = further f refl refl h.0 r.reads })

    -- the whole call, by its path
    target-read : (b : Variable) (fs : List Name) (from line : ℕ) (rest : List Lexeme)
        → Spelt S from (call_lexemes (record { target = record { base = b; fields = fs }; method = last; args = es }) rest)
        → Read S form.Call c (tokens_at from line (call_lexemes (record {
          target = record { base = b; fields = fs };
          method = last;
          args = es;
        }) rest))
        (record { target = record { base = b; fields = fs }; method = last; args = es }) d rest
    target-read b [] from line rest h =
        let all = mark s.OpenParen ∷ arg_lexemes es (mark s.CloseParen ∷ rest) in
        let x = base-read b c (from + 4 + 1) line (mark s.Dot ∷ named last ∷ all) h in
        let r = behind-read (record { base = b; fields = [] }) (x.from + 1 + length last) x.line rest x.spelt.1 in
        record { from = r.from; line = r.line; spelt = r.spelt; reads = start last refl x.reads refl refl x.spelt.0 r.reads }
    target-read b (f ∷ fs) from line rest h =
        let all = dotted fs (mark s.Dot ∷ named last ∷ mark s.OpenParen ∷ arg_lexemes es (mark s.CloseParen ∷ rest)) in
        let x = base-read b c (from + 4 + 1) line (mark s.Dot ∷ named f ∷ all) h in
        let r = names-read fs (record { base = b; fields = [] }) f (x.from + 1 + length f) x.line rest x.spelt.1 in
        record { from = r.from; line = r.line; spelt = r.spelt; reads = start f refl x.reads refl refl x.spelt.0 r.reads }

  pub call-read : (a : Call) (c d : Counts) (from line : ℕ) (rest : List Lexeme) → CallFits c a d → Spelt S from (call_lexemes a rest)
      → Read S form.Call c (tokens_at from line (call_lexemes a rest)) a d rest
  call-read a c d from line rest v h =
      target-read c v.within v.behind d a.args a.method v.opens v.args v.closes a.target.base a.target.fields from line rest h

  -- Expressions in brackets.

  pub index-read : (e : Expr) (c d : Counts) (from line : ℕ) (rest : List Lexeme) → IndexFits c e d → Spelt S from (index_lexemes e rest)
      → Read S form.At c (tokens_at from line (index_lexemes e rest)) (Some e) d rest
  index-read e c d from line rest v h =
      let r = expr-read e v.within v.behind (from + 1) line (mark s.CloseBracket ∷ rest) v.inner (ends-all refl refl refl refl refl refl refl) h in
      leads c (closed v.behind) d v.closes
      (record { from = r.from + 1; line = r.line; spelt = r.spelt; reads = at_row refl v.opens r.reads refl })

  -- a size, where there is one, up to a token that begins none
  size-read : (o : Option Expr) (c d : Counts) (from line : ℕ) (rest : List Lexeme) → AtFits c o d → row p.At (first_kind rest) ≡ Some []
      → Spelt S from (size_lexemes o rest) → Read S form.At c (tokens_at from line (size_lexemes o rest)) o d rest
  size-read None c d from line rest v f h =
      leads c c d v (record { from = from; line = line; spelt = h; reads = no_at (rw (next-tokens_at from line rest) f) })
  size-read (Some e) c d from line rest v f h =
      let r = index-read e c d (from + 1) line rest v h in
      record { from = r.from; line = r.line; spelt = r.spelt; reads = r.reads }

  -- Right sides.

  pub right-read : (a : Right) (c d : Counts) (from line : ℕ) (rest : List Lexeme) → RightFits c a d → Ends0 (first_kind rest)
      → Spelt S from (right_lexemes a rest) → Read S form.Right c (tokens_at from line (right_lexemes a rest)) a d rest
  right-read (value e) c d from line rest v f h =
      let r = expr-read e c d from line rest v f h in
      record {
        from = r.from;
        line = r.line;
        spelt = r.spelt;
        reads = value_row (rw (next-tokens_at from line (expr_lexemes e rest)) ((stands S e).begins rest).right) r.reads;
      }
  right-read (new n o) c d from line rest v f h =
      let r = size-read o c d (from + 3 + 1 + length n) line rest v.1 (no_at-row _ f) h.1 in
      record {
        from = r.from;
        line = r.line;
        spelt = r.spelt;
        reads = subst (λ x. Reads S form.Right c (tokens_at from line (right_lexemes (new n o) rest)) (new x o) d (tokens_at r.from r.line rest))
            h.0 (new_row refl (new_plain refl r.reads));
      }
  right-read (new_tmp n o) c d from line rest v f h =
      let r = size-read o c d (from + 3 + 1 + 3 + 1 + length n) line rest v.1 (no_at-row _ f) h.1 in
      record {
        from = r.from;
        line = r.line;
        spelt = r.spelt;
        reads = subst (λ x. Reads S form.Right c (tokens_at from line (right_lexemes (new_tmp n o) rest)) (new_tmp x o) d
            (tokens_at r.from r.line rest)) h.0 (new_row refl (new_temporary refl refl r.reads));
      }
  right-read (new_iso n o m) c d from line rest v f h =
      let all = space ∷ word w.In ∷ space ∷ word (manager_word m) ∷ rest in
      let r = size-read o c d (from + 3 + 1 + 3 + 1 + length n) line all v.1 refl h.1 in
      let q = manager-read m d (r.from + 1 + 2 + 1) r.line rest r.spelt in
      record {
        from = q.from;
        line = q.line;
        spelt = q.spelt;
        reads = subst (λ x. Reads S form.Right c (tokens_at from line (right_lexemes (new_iso n o m) rest)) (new_iso x o m) d
            (tokens_at q.from q.line rest)) h.0 (new_row refl (new_region refl refl r.reads refl q.reads));
      }
  right-read (freeze n) c d from line rest v f h = leads c c d v.1 (record {
    from = from + 6 + 1 + length n;
    line = line;
    spelt = h.1;
    reads = subst (λ x. Reads S form.Right c (tokens_at from line (right_lexemes (freeze n) rest)) (freeze x) c
        (tokens_at (from + 6 + 1 + length n) line rest)) h.0 (freeze_row refl refl);
  })
  right-read (merge n) c d from line rest v f h = leads c c d v.1 (record {
    from = from + 5 + 1 + length n;
    line = line;
    spelt = h.1;
    reads = subst (λ x. Reads S form.Right c (tokens_at from line (right_lexemes (merge n) rest)) (merge x) c
        (tokens_at (from + 5 + 1 + length n) line rest)) h.0 (merge_row refl refl);
  })
  right-read read c d from line rest v f h = leads c c d v (record { from = from + 4; line = line; spelt = h; reads = input_row refl })
  right-read more c d from line rest v f h = leads c c d v (record { from = from + 4; line = line; spelt = h; reads = input_row refl })
  right-read (result_of a) c d from line rest v f h =
      let r = call-read a c d from line rest v h in
      record { from = r.from; line = r.line; spelt = r.spelt; reads = result_row r.reads }
