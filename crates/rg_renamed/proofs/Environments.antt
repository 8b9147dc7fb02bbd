-- The scope of a body has the names and the declared types of its environment, at each point of an accepted program.
use Rattle.std.proofs.Common.{◌≡◌, refl, sym, ap, ◌∙◌, subst, ℕ, Bool as Truth, true, false, List, [], ◌∷◌, ◌++◌, length, map, find}
use Rattle.std.proofs.Common.{if◌then◌else◌, Option, Some, None, ok_or, unwrap_or, Result, Ok, arith}
use Rattle.rg_base.specs.declared.words.Cap.{Cap}
use Rattle.rg_base.specs.declared.words.Cap.TheVariants.{Mut, Tmp, Paused, Imm, Iso}
use Rattle.rg_base.specs.declared.ty.Ty.{Ty}
use Rattle.rg_base.specs.declared.ty.Ty.TheVariants.{Int, Bool, Ref}
use Rattle.rg_base.specs.declared.fault.Code.TheVariants.{Unknown, Capability, Return, Loop}
use Rattle.rg_tree.specs.Tree.{Name, Variable, Path, Expr, Call, StmtKind, declare, assign, assign_element, call, swap, branch, while}
use Rattle.rg_tree.specs.Tree.{enter, print, collect, return, Else, Block, Class}
use Rattle.rg_rules.specs.Answers.{test, at_line}
use Rattle.rg_rules.specs.Capabilities.{adapt, pause, iso_class, may_write, printable}
use Rattle.rg_rules.specs.Types.{field_type}
use Rattle.rg_rules.specs.Environment.{Env, Entry, same_variable, entry_of, at_depth, seen_type, lent, closed, covers}
use Rattle.rg_rules.specs.Environment.{marked_entry}
use Rattle.rg_rules.specs.Paths.{read_through, look_up, walk_field, walk_fields, walk, all_but_last, last_field, walk_receiver}
use Rattle.rg_rules.specs.Expressions.{judge_expr}
use Rattle.rg_rules.specs.Rights.{judge_call}
use Rattle.rg_rules.specs.Statements.{judge_test, judge_enter, judge_giving, judge_call_alone, judge_print, judge_return, judge_kind}
use Rattle.rg_rules.specs.Statements.{judge_else, judge_block}
use Rattle.rg_rules.proofs.Answers.{bind-ok, then-ok, test-then, ok_or-ok, at_line-ok}
use Rattle.rg_rules.proofs.Path.{look_up-ok}
use Rattle.rg_rules.proofs.Header.{good_type-type_of}
use Rattle.rg_sound.proofs.Frames.Entry.{Distinct, Keeps, Keeps-same, Stays, Stays-same, Stays-trans, Stays-distinct}
use Rattle.rg_sound.proofs.Frames.Entry.{Stays-closed, Stays-joined}
use Rattle.rg_sound.proofs.Frames.JudgeRight.{judge_expr-stays, judge_call-stays, judge_right-stays}
use Rattle.rg_sound.proofs.Frames.Judge.{judge_declare-parts, judge_assign-stays, judge_assign_element-stays, judge_swap-parts, judge_test-stays}
use Rattle.rg_sound.proofs.Frames.Judge.{judge_enter-variable, judge_enter-field, judge_enter-inner, left-stays, judge_else-goes, judge_block-goes}
use Rattle.rg_code.specs.Lowering.{Slot, Scope, type_in, type_behind, type_along, class_of, scope_behind, scope_inside}
use Rattle.rg_build.specs.Maps.{types_in}

-- Answers

pub ok-is : {A E : Type 0} {a b : A} → ◌≡◌ {A = Result A E} (Ok a) (Ok b) → a ≡ b
ok-is h = grind arith

pub some-is : {A : Type 0} {a b : A} → Some a ≡ Some b → a ≡ b
some-is h = grind arith

pub none-some : {A : Type 0} {a : A} → None ≡ Some a → ⊥
none-some h = grind arith

-- Classes of types

abbrev pub class_is : Ty → Option ℕ
class_is Int = None
class_is Bool = None
class_is (Ref cap c) = Some c

pause-class : (t : Ty) → class_is (pause t) ≡ class_is t
pause-class Int = refl
pause-class Bool = refl
pause-class (Ref cap c) = refl

seen-by : (b : Truth) (t : Ty) → class_is (if b then t else pause t) ≡ class_is t
seen-by true t = refl
seen-by false t = pause-class t

pub seen-class : (env : Env) (e : Entry) → class_is (seen_type env e) ≡ class_is e.ty
seen-class env e = seen-by (at_depth env e) e.ty

pub read-class : (receiver : Cap) (declared x : Ty) → read_through receiver declared ≡ Ok x → class_is x ≡ class_is declared
read-class receiver Int x h = ap class_is (sym (ok-is h))
read-class receiver Bool x h = ap class_is (sym (ok-is h))
read-class receiver (Ref cap c) x h = let p = bind-ok (ok_or (adapt receiver cap) Capability) _ x h in ap class_is (sym (ok-is p.2))

pub behind-type : (cs : List Class) (t : Ty) (f : Name) (c : ℕ) (d : Ty) → class_is t ≡ Some c → field_type cs c f ≡ Some d → type_behind cs t f ≡ d
behind-type cs Int f c d h g = absurd (none-some h)
behind-type cs Bool f c d h g = absurd (none-some h)
behind-type cs (Ref cap k) f c d h g =
    ap (λ (n : ℕ). unwrap_or (field_type cs n f) Int) (some-is h) ∙ ap (λ (o : Option Ty). unwrap_or o Int) g

pub fields-class : (cs : List Class) (fs : List Name) (t u r : Ty) → class_is u ≡ class_is t → walk_fields cs u fs ≡ Ok r →
    class_is (type_along cs t fs) ≡ class_is r
fields-class cs [] t u r e h = sym e ∙ ap class_is (ok-is h)
fields-class cs (f ∷ fs) t u r e h =
    let p = bind-ok (walk_field cs u f) _ r h in
    let q = bind-ok (look_up cs u f) _ p.0 p.1 in
    let k = look_up-ok cs u f q.0 q.1 in
    let behind : type_behind cs t f ≡ q.0.ty = behind-type cs t f k.class q.0.ty (sym e ∙ ap class_is k.reference) k.declared in
    fields-class cs fs (type_behind cs t f) p.0 r (read-class q.0.receiver q.0.ty p.0 q.2 ∙ ap class_is (sym behind)) p.2

pub along-last : (cs : List Class) (t : Ty) (f : Name) (fs : List Name) →
    type_along cs t (f ∷ fs) ≡ type_behind cs (type_along cs t (all_but_last f fs)) (last_field f fs)
along-last cs t f [] = refl
along-last cs t f (g ∷ gs) = along-last cs (type_behind cs t f) g gs

pub iso-of : (cs : List Class) (t : Ty) (c : ℕ) → iso_class t ≡ Some c → class_of cs t ≡ c
iso-of cs Int c h = absurd (none-some h)
iso-of cs Bool c h = absurd (none-some h)
iso-of cs (Ref Mut d) c h = absurd (none-some h)
iso-of cs (Ref Tmp d) c h = absurd (none-some h)
iso-of cs (Ref Paused d) c h = absurd (none-some h)
iso-of cs (Ref Imm d) c h = absurd (none-some h)
iso-of cs (Ref Iso d) c h = some-is h

-- Scopes

-- the variables of a scope have the names and types of entries, in order
abbrev pub Matches : List Entry → Scope → Type 0
Matches [] [] = Unit {0}
Matches [] (s ∷ ss) = ⊥
Matches (e ∷ es) [] = ⊥
Matches (e ∷ es) (s ∷ ss) = (s.name ≡ e.name) × (s.ty ≡ e.ty) × Matches es ss

pub matches-types : (es : List Entry) (ss : Scope) → Matches es ss → types_in ss ≡ map (λ (e : Entry). e.ty) es
matches-types [] [] h = refl
matches-types [] (s ∷ ss) h = absurd h
matches-types (e ∷ es) [] h = absurd h
matches-types (e ∷ es) (s ∷ ss) h = rw (h.1, matches-types es ss h.2) refl

pub matches-more : (es : List Entry) (ss : Scope) (e : Entry) (s : Slot) → Matches es ss → s.name ≡ e.name → s.ty ≡ e.ty →
    Matches (es ++ e ∷ []) (ss ++ s ∷ [])
matches-more [] [] e s h n y = (n, y, tt)
matches-more [] (x ∷ ss) e s h n y = absurd h
matches-more (x ∷ es) [] e s h n y = absurd h
matches-more (x ∷ es) (z ∷ ss) e s h n y = (h.0, h.1, matches-more es ss e s h.2 n y)

matches-keeps : (a b : List Entry) (ss : Scope) → Keeps a b → length b ≡ length a → Matches a ss → Matches b ss
matches-keeps [] [] ss k l h = h
matches-keeps [] (y ∷ b) ss k l h = absurd (omega (arith, l))
matches-keeps (x ∷ a) [] ss k l h = absurd k
matches-keeps (x ∷ a) (y ∷ b) [] k l h = absurd h
matches-keeps (x ∷ a) (y ∷ b) (s ∷ ss) k l h = (
  h.0 ∙ sym (ap (λ (o : Entry). o.name) k.0),
  h.1 ∙ sym (ap (λ (o : Entry). o.ty) k.0),
  matches-keeps a b ss k.1 (omega (arith, l)) h.2,
)

pub matches-stays : (a b : Env) (ss : Scope) → Stays a b → Matches a.entries ss → Matches b.entries ss
matches-stays a b ss g h = matches-keeps a.entries b.entries ss g.keeps g.count h

type-by : (b : Truth) (s : Slot) (e o : Entry) (ss : Scope) (x : Variable) (rest : Option Entry) → s.ty ≡ e.ty →
    (rest ≡ Some o → type_in ss x ≡ o.ty) → (if b then Some e else rest) ≡ Some o → (if b then s.ty else type_in ss x) ≡ o.ty
type-by true s e o ss x rest y h g = y ∙ ap (λ (q : Entry). q.ty) (some-is g)
type-by false s e o ss x rest y h g = h g

-- the declared type of a variable that is there
pub type-found : (es : List Entry) (ss : Scope) (x : Variable) (o : Entry) → Matches es ss →
    find (λ (e : Entry). same_variable e.name x) es ≡ Some o → type_in ss x ≡ o.ty
type-found [] ss x o h g = absurd (none-some g)
type-found (e ∷ es) [] x o h g = absurd h
type-found (e ∷ es) (s ∷ ss) x o h g =
    subst (λ (n : Variable). (if same_variable n x then s.ty else type_in ss x) ≡ o.ty) (sym h.0)
    (type-by (same_variable e.name x) s e o ss x (find (λ (q : Entry). same_variable q.name x) es) h.1 (λ r. type-found es ss x o h.2 r) g)

marked-matches : (x : Variable) (es : List Entry) (ss : Scope) → Matches es ss → Matches (map (marked_entry x lent) es) ss
marked-matches x [] ss h = h
marked-matches x (e ∷ es) [] h = absurd h
marked-matches x (e ∷ es) (s ∷ ss) h = by_mark (same_variable e.name x) (marked-matches x es ss h.2)
  where
    by_mark : (b : Truth) → Matches (map (marked_entry x lent) es) ss →
        Matches ((if b then record e { readiness = lent } else e) ∷ map (marked_entry x lent) es) (s ∷ ss)
    by_mark true r = (h.0, h.1, r)
    by_mark false r = (h.0, h.1, r)

-- the variables in front of the block of an `enter`
pub inside-matches : (cs : List Class) (env out : Env) (ss : Scope) (x : Variable) (fs : List Name) (z : Name) → Matches env.entries ss →
    judge_enter cs env x fs z ≡ Ok out → Matches out.entries (scope_inside cs ss (record { base = x; fields = fs }) z)
inside-matches cs env out ss x [] z m h =
    let p = judge_enter-variable cs env out x z h in
    let found : type_in ss x ≡ p.entry.ty = type-found env.entries ss x p.entry m p.there in
    let class : class_of cs (type_in ss x) ≡ p.class = ap (class_of cs) found ∙ iso-of cs p.entry.ty p.class p.iso in
    subst (λ (o : Env). Matches o.entries (scope_inside cs ss (record { base = x; fields = [] }) z)) (sym p.out_is)
    (matches-more (map (marked_entry x lent) env.entries) ss _ _ (marked-matches x env.entries ss m) refl (ap (λ (c : ℕ). Ref Mut c) class))
inside-matches cs env out ss x (f ∷ fs) z m h =
    let p = judge_enter-field cs env out x f fs z h in
    let r = bind-ok (walk_receiver cs env x f fs) _ p.ty p.writable in
    let w = test-then (may_write r.0.receiver) _ _ p.ty r.2 in
    let q = bind-ok (walk cs env x (all_but_last f fs)) _ r.0 r.1 in
    let k = look_up-ok cs q.0 (last_field f fs) r.0 q.2 in
    let e = bind-ok (ok_or (entry_of env x) Unknown) _ q.0 q.1 in
    let there = ok_or-ok (entry_of env x) Unknown e.0 e.1 in
    let found : type_in ss x ≡ e.0.ty = type-found env.entries ss x e.0 m there in
    let front : class_is (type_along cs (type_in ss x) (all_but_last f fs)) ≡ class_is q.0 =
    fields-class cs (all_but_last f fs) (type_in ss x) (seen_type env e.0) q.0 (seen-class env e.0 ∙ ap class_is (sym found)) e.2 in
    let behind : type_along cs (type_in ss x) (f ∷ fs) ≡ r.0.ty =
    along-last cs (type_in ss x) f fs
    ∙ behind-type cs (type_along cs (type_in ss x) (all_but_last f fs)) (last_field f fs) k.class r.0.ty
    (front ∙ ap class_is k.reference) k.declared in
    let class : class_of cs (type_along cs (type_in ss x) (f ∷ fs)) ≡ p.class =
    ap (class_of cs) (behind ∙ ok-is w.1) ∙ iso-of cs p.ty p.class p.iso in
    subst (λ (o : Env). Matches o.entries (scope_inside cs ss (record { base = x; fields = f ∷ fs }) z)) (sym p.out_is)
    (matches-more env.entries ss _ _ m refl (ap (λ (c : ℕ). Ref Mut c) class))

-- Statements

call_alone-stays : (cs : List Class) (env out : Env) (c : Call) → Distinct env.entries → judge_call_alone cs env c ≡ Ok out → Stays env out
call_alone-stays cs env out c d h =
    let j = bind-ok (judge_call cs env c) _ out h in subst (Stays env) (ok-is j.2) (judge_call-stays cs env c j.0 d j.1)

print-stays : (cs : List Class) (env out : Env) (e : Expr) → Distinct env.entries → judge_print cs env e ≡ Ok out → Stays env out
print-stays cs env out e d h =
    let j = bind-ok (judge_expr cs env None e) _ out h in
    let t = test-then (printable j.0.ty) _ _ out j.2 in
    subst (Stays env) (ok-is t.1) (judge_expr-stays cs env None e j.0 d j.1)

return-stays : (cs : List Class) (last : Option Ty) (env out : Env) (e : Expr) → Distinct env.entries → judge_return cs last env e ≡ Ok out →
    Stays env out
return-stays cs last env out e d h =
    let t = bind-ok (ok_or last Return) _ out h in
    let j = bind-ok (judge_expr cs env (Some t.0) e) _ out t.2 in
    subst (Stays env) (ok-is j.2) (judge_expr-stays cs env (Some t.0) e j.0 d j.1)

branch-stays : (cs : List Class) (line : ℕ) (last : Option Ty) (env out : Env) (e : Expr) (b : Block) (other : Else) → Distinct env.entries →
    judge_kind cs last line env (branch e b other) ≡ Ok out → Stays env out
branch-stays cs line last env out e b other d h =
    let f = bind-ok (at_line line (judge_test cs env e)) _ out h in
    let a = bind-ok (judge_block cs None f.0 b) _ out f.2 in
    let c = bind-ok (judge_else cs f.0 other) _ out a.2 in
    let t = judge_test-stays cs env f.0 e d (at_line-ok line _ f.0 f.1) in
    let n = Stays-distinct env f.0 d t in
    let g = judge_block-goes cs None f.0 a.0 b n a.1 in
    let k = judge_else-goes cs f.0 c.0 other n c.1 in
    let p = Stays-closed f.0 f.0 a.0 (Keeps-same f.0.entries) g.keeps in
    let q = Stays-closed f.0 f.0 c.0 (Keeps-same f.0.entries) k.keeps in
    let j = Stays-joined f.0 (closed f.0 a.0) (closed f.0 c.0) p q in
    subst (Stays env) (ok-is c.2) (Stays-trans env f.0 _ t j)

while-stays : (cs : List Class) (line : ℕ) (last : Option Ty) (env out : Env) (e : Expr) (b : Block) →
    judge_kind cs last line env (while e b) ≡ Ok out → Stays env out
while-stays cs line last env out e b h =
    let f = bind-ok (at_line line (judge_test cs env e)) _ out h in
    let a = bind-ok (judge_block cs None f.0 b) _ out f.2 in
    let c = then-ok (at_line line (test (covers env a.0) Loop)) _ out a.2 in
    subst (Stays env) (ok-is c.2) (Stays-same env)

enter-stays : (cs : List Class) (line : ℕ) (last : Option Ty) (env out : Env) (p : Path) (z : Name) (b : Block) (giving : Option Name) →
    Distinct env.entries → judge_kind cs last line env (enter p z b giving) ≡ Ok out → Stays env out
enter-stays cs line last env out p z b giving d h =
    let f = bind-ok (at_line line (judge_enter cs env p.base p.fields z)) _ out h in
    let a = bind-ok (judge_block cs None f.0 b) _ out f.2 in
    let w = then-ok (at_line line (judge_giving a.0 z giving)) _ out a.2 in
    let n = at_line-ok line (judge_enter cs env p.base p.fields z) f.0 f.1 in
    let i = judge_enter-inner cs env f.0 p.base p.fields z d n in
    let g = judge_block-goes cs None f.0 a.0 b i.distinct a.1 in
    subst (Stays env) (ok-is w.2) (left-stays cs env f.0 a.0 p.base p.fields z d n g.keeps)

-- behind a statement
pub behind-matches : (cs : List Class) (last : Option Ty) (line : ℕ) (env out : Env) (ss : Scope) (k : StmtKind) → Distinct env.entries →
    Matches env.entries ss → judge_kind cs last line env k ≡ Ok out → Matches out.entries (scope_behind cs ss k)
behind-matches cs last line env out ss (declare x t r) d m h =
    let p = judge_declare-parts cs env out x t r (at_line-ok line _ out h) in
    let g = judge_right-stays cs env p.declared r p.judged d p.typed in
    subst (λ (o : Env). Matches o.entries (scope_behind cs ss (declare x t r))) (sym p.out_is)
    (matches-more p.judged.env.entries ss _ _ (matches-stays env p.judged.env ss g m) refl (sym (good_type-type_of cs t p.declared p.good)))
behind-matches cs last line env out ss (assign p r) d m h =
    matches-stays env out ss (judge_assign-stays cs env out p.base p.fields r d (at_line-ok line _ out h)) m
behind-matches cs last line env out ss (assign_element q e r) d m h =
    matches-stays env out ss (judge_assign_element-stays cs env out q.base q.fields e r d (at_line-ok line _ out h)) m
behind-matches cs last line env out ss (call c) d m h =
    matches-stays env out ss (call_alone-stays cs env out c d (at_line-ok line _ out h)) m
behind-matches cs last line env out ss (swap y p) d m h =
    let s = judge_swap-parts cs env out y p (at_line-ok line _ out h) in
    subst (λ (o : Env). Matches o.entries ss) (sym s.out_is) m
behind-matches cs last line env out ss (branch e b other) d m h = matches-stays env out ss (branch-stays cs line last env out e b other d h) m
behind-matches cs last line env out ss (while e b) d m h = matches-stays env out ss (while-stays cs line last env out e b h) m
behind-matches cs last line env out ss (enter p z b giving) d m h =
    matches-stays env out ss (enter-stays cs line last env out p z b giving d h) m
behind-matches cs last line env out ss (print e) d m h = matches-stays env out ss (print-stays cs env out e d (at_line-ok line _ out h)) m
behind-matches cs last line env out ss collect d m h = subst (λ (o : Env). Matches o.entries ss) (ok-is h) m
behind-matches cs last line env out ss (return e) d m h =
    matches-stays env out ss (return-stays cs last env out e d (at_line-ok line _ out h)) m
