-- What the parts of a program spend of the limits, and that their names have no brackets.
use Rattle.std.proofs.Common.{◌≡◌, refl, sym, ap, ◌∙◌, subst, ℕ, suc, ◌+◌, ◌≤◌, max, Bool as Truth, List, [], ◌∷◌, ◌++◌, All}
use Rattle.std.proofs.Common.{Option, Some, None, IfSome, option_to_list, Ok, arith}
use Rattle.std.specs.List.{AllByRecursion}
use Rattle.std.proofs.lemmas.List.Elements.{All-nil, All-cons, All-from_recursion}
use Rattle.rg_base.specs.declared.limits.TheConstants.{STATEMENT_SIGNS}
use Rattle.rg_base.specs.declared.words.Keyword.TheVariants as w
use Rattle.rg_base.specs.declared.words.Manager.{Manager}
use Rattle.rg_base.specs.declared.token.Kind.{Kind}
use Rattle.rg_base.specs.declared.token.Kind.TheVariants as k
use Rattle.rg_tree.specs.declared.counts.Counts.{Counts}
use Rattle.rg_tree.specs.Tree.{Name, Variable, Path, Ty, int, bool, Expr, Call, Right, value, read, more, Member, field, method, Method}
use Rattle.rg_tree.specs.Tree.{Stmt, stmt, StmtKind, declare, call, swap, branch, while, enter, print, collect, return, Else, otherwise}
use Rattle.rg_tree.specs.Tree.{Block, then as next, Class, Tree}
use Rattle.rg_tree.specs.Counts.{opened, closed, one_class, one_method, no_signs, method_begins, main_begins}
use Rattle.rg_tree.specs.Grammar.{assigned, longer, with_class}
use Rattle.rg_tree.specs.Operators.{plain_type_of, base_of, input_of}
use Rattle.rg_tree.proofs.Callers.{within-ok}
use Rattle.rg_limits.specs.Each.{right_exprs, HoldsWithin, HoldsBehind, HoldsInBlock, HoldsInMember, HoldsOfEach}
use Rattle.rg_limits.specs.Signs.{expr_signs, exprs_signs, HasFewOwnSigns}
use Rattle.rg_limits.specs.Numbers.{HasSmall, HasOwnSmall}
use Rattle.rg_limits.specs.Bare.{IsBare, IsBarePath, IsBareType, IsBareExpr, IsBareCall, IsBareRight, IsBareKind, IsBareElse, IsBareBlock}
use Rattle.rg_limits.specs.Bare.{IsBareParam}
use Rattle.rg_limits.specs.Bare.{IsBareMember, HasBareMembers, IsBareClass, IsBareTree}
use Rattle.rg_limits.specs.Opens.{expr_opens, exprs_opens, call_opens, index_opens, right_opens, kind_opens, else_opens, block_opens}
use Rattle.rg_limits.specs.Opens.{members_opens, class_opens, tree_opens}
use Rattle.rg_within.proofs.Tokens.{FineKind}
use Rattle.rg_within.proofs.Spent.{Spent, still, behind, as-many, method-spent, opened-so, shut, Room, no-room, as-deep, within, Fits}

-- Names and words by their tokens

pub name-of : (kind : Kind) (n : Name) → kind ≡ k.Name → FineKind kind n → IsBare n
name-of kind n e h = subst (λ x. FineKind x n) e h

pub base-bare : (kind : Kind) (n : Name) (v : Variable) → base_of kind n ≡ Some v → FineKind kind n → IfSome v IsBare
base-bare k.Name n v h f = let e : Some n ≡ v = cc in subst (λ x. IfSome x IsBare) e f
base-bare (k.Word w.SelfWord) n v h f = let e : None ≡ v = cc in subst (λ x. IfSome x IsBare) e tt
base-bare _ n v h f = cc

pub plain_type-bare : (kind : Kind) (t : Ty) → plain_type_of kind ≡ Some t → IsBareType t
plain_type-bare (k.Word w.Int) t h = let e : int ≡ t = cc in subst IsBareType e tt
plain_type-bare (k.Word w.Bool) t h = let e : bool ≡ t = cc in subst IsBareType e tt
plain_type-bare _ t h = cc

longer-all : (fs : List Name) (f : Name) → AllByRecursion IsBare fs → IsBare f → AllByRecursion IsBare (fs ++ f ∷ [])
longer-all [] f h i = (i, tt)
longer-all (g ∷ fs) f h i = (h.0, longer-all fs f h.1 i)

pub longer-bare : (q : Path) (f : Name) → IsBarePath q → IsBare f → IsBarePath (longer q f)
longer-bare q f h i = record { base = h.base; fields = longer-all q.fields f h.fields i }

-- Expressions in a row

pub record ArgsFit (c d : Counts) (es : List Expr) : Type 0 where
  pub spent : Spent (exprs_signs es) c d
  pub small : AllByRecursion HasSmall es
  pub bare : AllByRecursion IsBareExpr es
  pub room : Room c.brackets (exprs_opens es)

both-spent : {a b : ℕ} {c d e : Counts} → Spent a c d → Spent b d e → Spent (a + b) c e
both-spent x y = record {
  signs = omega (arith, x.signs, y.signs);
  few = λ l. y.few (x.few l);
  brackets = omega (arith, x.brackets, y.brackets);
}

both-room : {c d : Counts} {m : ℕ} (i j : ℕ) → Spent m c d → Room c.brackets i → Room d.brackets j → Room c.brackets (max i j)
both-room i j s x y = omega (arith, s.brackets, x, y)

pub args-fit : {c d e : Counts} {a : Expr} {es : List Expr} → Fits 0 c d a → ArgsFit d e es → ArgsFit c e (a ∷ es)
args-fit {a = a} {es = es} x y = record {
  spent = both-spent x.spent y.spent;
  small = (x.small, y.small);
  bare = (x.bare, y.bare);
  room = both-room (expr_opens a) (exprs_opens es) x.spent x.room y.room;
}

pub no-args : {c : Counts} → ArgsFit c c []
no-args {c} = record { spent = still; small = tt; bare = tt; room = no-room c.brackets }

-- Indices, calls and right sides

pub record IndexFits (c d : Counts) (o : Option Expr) : Type 0 where
  pub spent : Spent (exprs_signs (option_to_list o)) c d
  pub small : AllByRecursion HasSmall (option_to_list o)
  pub bare : IfSome o IsBareExpr
  pub room : Room c.brackets (index_opens o)

alone : (n : ℕ) → n ≡ n + 0
alone n = omega arith

pub at-fits : {c d e : Counts} {a : Expr} → opened c ≡ Ok d → Fits 0 d e a → IndexFits c (closed e) (Some a)
at-fits {a = a} h x = record {
  spent = as-many (shut h x.spent) (alone (expr_signs a));
  small = (x.small, tt);
  bare = x.bare;
  room = within (expr_opens a) (opened-so h) x.room;
}

pub no-index : {c : Counts} → IndexFits c c None
no-index {c} = record { spent = still; small = tt; bare = tt; room = no-room c.brackets }

pub record CallFits (c d : Counts) (a : Call) : Type 0 where
  pub spent : Spent (exprs_signs a.args) c d
  pub small : AllByRecursion HasSmall a.args
  pub bare : IsBareCall a
  pub room : Room c.brackets (call_opens a)

pub call-behind : {c d e : Counts} {a : Call} → Spent 0 c d → CallFits d e a → CallFits c e a
call-behind {a = a} s x = record { spent = behind s x.spent; small = x.small; bare = x.bare; room = as-deep (call_opens a) s x.room }

pub args-call : {c d e : Counts} {es : List Expr} (q : Path) (m : Name) → opened c ≡ Ok d → IsBarePath q → IsBare m → ArgsFit d e es
    → CallFits c (closed e) (record { target = q; method = m; args = es })
args-call {es = es} q m h hq hm x = record {
  spent = shut h x.spent;
  small = x.small;
  bare = record { target = hq; method = hm; args = x.bare };
  room = within (exprs_opens es) (opened-so h) x.room;
}

pub record RightFits (c d : Counts) (r : Right) : Type 0 where
  pub spent : Spent (exprs_signs (right_exprs r)) c d
  pub small : AllByRecursion HasSmall (right_exprs r)
  pub bare : IsBareRight r
  pub room : Room c.brackets (right_opens r)

pub value-fits : {c d : Counts} {a : Expr} → Fits 0 c d a → RightFits c d (value a)
value-fits {a = a} x = record { spent = as-many x.spent (alone (expr_signs a)); small = (x.small, tt); bare = x.bare; room = x.room }

pub input-fits : (kind : Kind) (r : Right) (c : Counts) → input_of kind ≡ Some r → RightFits c c r
input-fits (k.Word w.Read) r c h =
    let e : read ≡ r = cc in
    subst (RightFits c c) e (record { spent = still; small = tt; bare = tt; room = no-room c.brackets })
input-fits (k.Word w.More) r c h =
    let e : more ≡ r = cc in
    subst (RightFits c c) e (record { spent = still; small = tt; bare = tt; room = no-room c.brackets })
input-fits _ r c h = cc

-- Statements

-- what a statement says, where no signs are counted in front of it
pub record KindFits (c d : Counts) (k : StmtKind) : Type 0 where
  pub signs : HasFewOwnSigns k × HoldsWithin HasFewOwnSigns k
  pub small : HasOwnSmall k × HoldsWithin HasOwnSmall k
  pub bare : IsBareKind k
  pub brackets : d.brackets ≡ c.brackets
  pub room : Room c.brackets (kind_opens k)

abbrev pub StmtFits : Counts → Counts → Stmt → Type 0
StmtFits c d (stmt line k) = KindFits c d k

-- the statements of a block
pub record BlockFits (c d : Counts) (b : Block) : Type 0 where
  pub signs : HoldsInBlock HasFewOwnSigns b
  pub small : HoldsInBlock HasOwnSmall b
  pub bare : IsBareBlock b
  pub brackets : d.brackets ≡ c.brackets
  pub room : Room c.brackets (block_opens b)

-- a block in its braces
pub record BracedFits (c d : Counts) (b : Block) : Type 0 where
  pub signs : HoldsInBlock HasFewOwnSigns b
  pub small : HoldsInBlock HasOwnSmall b
  pub bare : IsBareBlock b
  pub brackets : d.brackets ≡ c.brackets
  pub room : Room c.brackets (suc (block_opens b))

-- what stands behind the first block of an `if`
pub record ElseFits (c d : Counts) (o : Else) : Type 0 where
  pub signs : HoldsBehind HasFewOwnSigns o
  pub small : HoldsBehind HasOwnSmall o
  pub bare : IsBareElse o
  pub brackets : d.brackets ≡ c.brackets
  pub room : Room c.brackets (else_opens o)

-- signs from the first token of a statement on
few-own : {c d : Counts} {n : ℕ} → Spent n c d → c.signs ≡ 0 → n ≤ STATEMENT_SIGNS
few-own s z = let l = s.few (omega (arith, z)) in omega (arith, l, z, s.signs)

pub declare-fits : {c d e f : Counts} {r : Right} (x : Name) (t : Ty) → IsBare x → Spent 0 c d → Spent 0 d e × IsBareType t → RightFits e f r
    → c.signs ≡ 0 → KindFits c f (declare x t r)
declare-fits {r = r} x t hx s y v z =
    let front = behind s y.0 in
    let all = behind front v.spent in
    record {
      signs = (few-own all z, tt);
      small = (v.small, tt);
      bare = (hx, y.1, v.bare);
      brackets = all.brackets;
      room = as-deep (right_opens r) front v.room;
    }

pub assigned-fits : {c d e f : Counts} {r : Right} (q : Path) (o : Option Expr) → Spent 0 c d × IsBarePath q → IndexFits d e o → RightFits e f r
    → c.signs ≡ 0 → KindFits c f (assigned q o r)
assigned-fits {r = r} q None x y v z =
    let front = behind x.0 y.spent in
    let all = behind front v.spent in
    record {
      signs = (few-own all z, tt);
      small = (v.small, tt);
      bare = (x.1, v.bare);
      brackets = all.brackets;
      room = as-deep (right_opens r) front v.room;
    }
assigned-fits {c} {d} {e} {f} {r} q (Some a) x y v z =
    let front = behind x.0 y.spent in
    let all : Spent (exprs_signs (a ∷ right_exprs r)) c f = as-many (both-spent front v.spent) (omega arith) in
    record {
      signs = (few-own all z, tt);
      small = ((y.small.0, v.small), tt);
      bare = (x.1, y.bare, v.bare);
      brackets = all.brackets;
      room = both-room (suc (expr_opens a)) (right_opens r) front (as-deep (suc (expr_opens a)) x.0 y.room) v.room;
    }

pub call-fits : {c d : Counts} {a : Call} → CallFits c d a → c.signs ≡ 0 → KindFits c d (call a)
call-fits x z = record {
  signs = (few-own x.spent z, tt);
  small = (x.small, tt);
  bare = x.bare;
  brackets = x.spent.brackets;
  room = x.room;
}

none-few : 0 ≤ STATEMENT_SIGNS
none-few = omega arith

pub swap-fits : {c d : Counts} (y : Name) (q : Path) → IsBare y → Spent 0 c d × IsBarePath q → KindFits c d (swap y q)
swap-fits {c} y q h x = record {
  signs = (none-few, tt);
  small = (tt, tt);
  bare = (h, x.1);
  brackets = x.0.brackets;
  room = no-room c.brackets;
}

-- one expression
one-few : {c d : Counts} {a : Expr} → Fits 0 c d a → c.signs ≡ 0 → exprs_signs (a ∷ []) ≤ STATEMENT_SIGNS
one-few {a = a} x z = few-own (as-many x.spent (alone (expr_signs a))) z

pub print-fits : {c d : Counts} {a : Expr} → Fits 0 c d a → c.signs ≡ 0 → KindFits c d (print a)
print-fits x z = record {
  signs = (one-few x z, tt);
  small = ((x.small, tt), tt);
  bare = x.bare;
  brackets = x.spent.brackets;
  room = x.room;
}

pub return-fits : {c d : Counts} {a : Expr} → Fits 0 c d a → c.signs ≡ 0 → KindFits c d (return a)
return-fits x z = record {
  signs = (one-few x z, tt);
  small = ((x.small, tt), tt);
  bare = x.bare;
  brackets = x.spent.brackets;
  room = x.room;
}

pub collect-fits : {c : Counts} → KindFits c c collect
collect-fits {c} = record { signs = (none-few, tt); small = (tt, tt); bare = tt; brackets = refl; room = no-room c.brackets }

pub while-fits : {c d e : Counts} {a : Expr} {b : Block} → Fits 0 c d a → BracedFits d e b → c.signs ≡ 0 → KindFits c e (while a b)
while-fits {a = a} {b = b} x y z = record {
  signs = (one-few x z, y.signs);
  small = ((x.small, tt), y.small);
  bare = (x.bare, y.bare);
  brackets = y.brackets ∙ x.spent.brackets;
  room = both-room (expr_opens a) (suc (block_opens b)) x.spent x.room y.room;
}

pub branch-fits : {c d e f : Counts} {a : Expr} {b : Block} {o : Else} → Fits 0 c d a → BracedFits d e b → ElseFits e f o → c.signs ≡ 0
    → KindFits c f (branch a b o)
branch-fits {c} {d} {e} {f} {a} {b} {o} x y v z =
    let inner : Room d.brackets (max (suc (block_opens b)) (else_opens o)) = omega (arith, y.brackets, y.room, v.room) in
    record {
      signs = (one-few x z, (y.signs, v.signs));
      small = ((x.small, tt), (y.small, v.small));
      bare = (x.bare, y.bare, v.bare);
      brackets = v.brackets ∙ y.brackets ∙ x.spent.brackets;
      room = both-room (expr_opens a) (max (suc (block_opens b)) (else_opens o)) x.spent x.room inner;
    }

pub otherwise-fits : {c d : Counts} {b : Block} → BracedFits c d b → ElseFits c d (otherwise b)
otherwise-fits x = record { signs = x.signs; small = x.small; bare = x.bare; brackets = x.brackets; room = x.room }

pub enter-fits : {c d e f g : Counts} {b : Block} {o : Option Name} (q : Path) (x : Name) → Spent 0 c d × IsBarePath q → IsBare x → Spent 0 d e
    → BracedFits e f b → Spent 0 f g × IfSome o IsBare → KindFits c g (enter q x b o)
enter-fits {b = b} q x p hx l y v =
    let front = behind p.0 l in
    record {
      signs = (none-few, y.signs);
      small = (tt, y.small);
      bare = (p.1, hx, y.bare, v.1);
      brackets = v.0.brackets ∙ y.brackets ∙ front.brackets;
      room = as-deep (suc (block_opens b)) front y.room;
    }

-- Blocks

pub then-fits : {c d e : Counts} {b : Block} (a : Stmt) → StmtFits (no_signs c) d a → BlockFits d e b → BlockFits c e (next a b)
then-fits {b = b} (stmt line k) x y = record {
  signs = (x.signs, y.signs);
  small = (x.small, y.small);
  bare = (x.bare, y.bare);
  brackets = y.brackets ∙ x.brackets;
  room = omega (arith, x.brackets, x.room, y.room);
}

pub braced : {c d e : Counts} {b : Block} → opened c ≡ Ok d → BlockFits d e b → BracedFits c (closed e) b
braced {b = b} h x =
    let o = opened-so h in
    record {
      signs = x.signs;
      small = x.small;
      bare = x.bare;
      brackets = omega (arith, o.brackets, x.brackets);
      room = within (block_opens b) o x.room;
    }

-- Members

pub record MembersFit (c d : Counts) (ms : List Member) : Type 0 where
  pub signs : AllByRecursion (HoldsInMember HasFewOwnSigns) ms
  pub small : AllByRecursion (HoldsInMember HasOwnSmall) ms
  pub bare : AllByRecursion IsBareMember ms
  pub brackets : d.brackets ≡ c.brackets
  pub room : Room c.brackets (members_opens ms)

pub field-fits : {c d e f : Counts} {ms : List Member} (x : Name) (t : Ty) (line : ℕ) → IsBare x → Spent 0 c d → Spent 0 d e × IsBareType t
    → MembersFit e f ms → MembersFit c f (field (record { name = x; ty = t; line = line }) ∷ ms)
field-fits {ms = ms} x t line hx s y v =
    let front = behind s y.0 in
    record {
      signs = (tt, v.signs);
      small = (tt, v.small);
      bare = ((hx, y.1), v.bare);
      brackets = v.brackets ∙ front.brackets;
      room = omega (arith, front.brackets, v.room);
    }

pub method-fits : {c d f g h i j : Counts} {ms : List Member} (m : Method) (e : Counts) → IsBare m.name → Spent 0 (method_begins c) d
    → one_method d ≡ Ok e → opened e ≡ Ok f → Spent 0 f g × AllByRecursion IsBareParam m.params → Spent 0 (closed g) h × IfSome m.result IsBareType
    → BracedFits h i m.body → MembersFit i j ms → MembersFit c j (method m ∷ ms)
method-fits {c} {d} {f} {g} {h} {i} {j} {ms} m e name receiver one open' params result body rest =
    let front : Spent 0 d h = behind (method-spent one) (behind (shut open' params.0) result.0) in
    let same : h.brackets ≡ c.brackets = front.brackets ∙ receiver.brackets in
    let back : i.brackets ≡ c.brackets = body.brackets ∙ same in
    record {
      signs = (body.signs, rest.signs);
      small = (body.small, rest.small);
      bare = ((name, params.1, result.1, body.bare), rest.bare);
      brackets = rest.brackets ∙ back;
      room = omega (arith, same, back, body.room, rest.room);
    }

-- Classes

pub record RestFits (c d : Counts) (o : Option Ty) (ms : List Member) : Type 0 where
  pub signs : AllByRecursion (HoldsInMember HasFewOwnSigns) ms
  pub small : AllByRecursion (HoldsInMember HasOwnSmall) ms
  pub bare : HasBareMembers o ms
  pub brackets : d.brackets ≡ c.brackets
  pub room : Room c.brackets (suc (members_opens ms))

pub members-rest : {c d e : Counts} {ms : List Member} → opened c ≡ Ok d → MembersFit d e ms → RestFits c (closed e) None ms
members-rest {ms = ms} h x =
    let o = opened-so h in
    record {
      signs = x.signs;
      small = x.small;
      bare = x.bare;
      brackets = omega (arith, o.brackets, x.brackets);
      room = within (members_opens ms) o x.room;
    }

pub element-rest : {c d e : Counts} (t : Ty) → opened c ≡ Ok d → Spent 0 d e × IsBareType t → RestFits c (closed e) (Some t) []
element-rest {c} {d} t h x = record {
  signs = tt;
  small = tt;
  bare = (x.1, refl);
  brackets = (shut h x.0).brackets;
  room = within 0 (opened-so h) (no-room d.brackets);
}

pub record ClassFits (c d : Counts) (k : Class) : Type 0 where
  pub signs : AllByRecursion (HoldsInMember HasFewOwnSigns) k.members
  pub small : AllByRecursion (HoldsInMember HasOwnSmall) k.members
  pub bare : IsBareClass k
  pub brackets : d.brackets ≡ c.brackets
  pub room : Room c.brackets (class_opens k)

class-same : (c d : Counts) → one_class c ≡ Ok d → d.brackets ≡ c.brackets
class-same c d h = sym (ap (λ (x : Counts). x.brackets) (within-ok _ _ _ d h).1)

pub class-fits : {c d e : Counts} (b : Truth) (x : Name) (r : Option Ty × List Member) (line : ℕ) → one_class c ≡ Ok d → IsBare x
    → RestFits d e r.0 r.1 → ClassFits c e (record { name = x; is_tmp = b; element = r.0; members = r.1; line = line })
class-fits {c} {d} b x r line h hx v =
    let same : d.brackets ≡ c.brackets = class-same c d h in
    record {
      signs = v.signs;
      small = v.small;
      bare = record { name = hx; members = v.bare };
      brackets = v.brackets ∙ same;
      room = omega (arith, same, v.room);
    }

-- Programs

pub record ProgramFits (c : Counts) (t : Tree) : Type 0 where
  pub signs : HoldsOfEach HasFewOwnSigns t
  pub small : HoldsOfEach HasOwnSmall t
  pub bare : IsBareTree t
  pub room : Room c.brackets (tree_opens t)

-- each member of a class is such
abbrev InClass : (StmtKind → Type 0) → Class → Type 0
InClass P c = All (HoldsInMember P) c.members

each-more : (P : StmtKind → Type 0) (k : Class) (t : Tree) → AllByRecursion (HoldsInMember P) k.members → HoldsOfEach P t
    → HoldsOfEach P (with_class k t)
each-more P k t h i = record {
  methods = All-cons (InClass P) k t.classes (All-from_recursion (HoldsInMember P) k.members h) i.methods;
  main = i.main;
}

pub program-more : {c d : Counts} {k : Class} {t : Tree} → ClassFits c d k → ProgramFits d t → ProgramFits c (with_class k t)
program-more {k = k} {t = t} x y = record {
  signs = each-more HasFewOwnSigns k t x.signs y.signs;
  small = each-more HasOwnSmall k t x.small y.small;
  bare = record { classes = (x.bare, y.bare.classes); body = y.bare.body };
  room = omega (arith, x.brackets, x.room, y.room);
}

pub program-ends : {c d e : Counts} {b : Block} (m : Manager) (line : ℕ) → Spent 0 (main_begins c) d → BracedFits d e b
    → ProgramFits c (record { classes = []; manager = m; body = b; line = line })
program-ends {c} {d} {e} {b} m line s x =
    let same : d.brackets ≡ c.brackets = s.brackets in
    record {
      signs = record { methods = All-nil (InClass HasFewOwnSigns); main = x.signs };
      small = record { methods = All-nil (InClass HasOwnSmall); main = x.small };
      bare = record { classes = tt; body = x.bare };
      room = omega (arith, same, x.room);
    }
