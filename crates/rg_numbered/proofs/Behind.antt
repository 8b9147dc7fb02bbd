-- Behind a statement, and in front of the block of an `enter`, the scope has the environment's names and types, and the names of its slots.
use Rattle.std.proofs.Common.{◌≡◌, refl, sym, ap, ◌∙◌, subst, ℕ, Bool as Truth, List, [], ◌∷◌, length, map, Option, Some, None, ok_or, Ok}
use Rattle.rg_base.specs.declared.words.Cap.TheVariants.{Mut}
use Rattle.rg_base.specs.declared.ty.Ty.{Ty}
use Rattle.rg_base.specs.declared.ty.Ty.TheVariants.{Ref}
use Rattle.rg_base.specs.declared.fault.Code.TheVariants.{Return, Loop}
use Rattle.rg_tree.specs.Tree.{Name, Variable, Path, Expr, Call, StmtKind, declare, assign, assign_element, call, swap, branch, while}
use Rattle.rg_tree.specs.Tree.{enter, print, collect, return, Else, Block, Class}
use Rattle.rg_rules.specs.Answers.{test, at_line}
use Rattle.rg_rules.specs.Capabilities.{printable}
use Rattle.rg_rules.specs.Environment.{Env, lent, closed, covers, marked_entry}
use Rattle.rg_rules.specs.Expressions.{judge_expr}
use Rattle.rg_rules.specs.Rights.{judge_call}
use Rattle.rg_rules.specs.Statements.{judge_test, judge_enter, judge_giving, judge_call_alone, judge_print, judge_return, judge_kind}
use Rattle.rg_rules.specs.Statements.{judge_else, judge_block}
use Rattle.rg_rules.proofs.Answers.{bind-ok, then-ok, test-then, at_line-ok}
use Rattle.rg_rules.proofs.Header.{good_type-type_of}
use Rattle.rg_sound.proofs.Frames.Entry.{Distinct, Keeps-same, Stays, Stays-same, Stays-trans, Stays-distinct, Stays-closed, Stays-joined}
use Rattle.rg_sound.proofs.Frames.JudgeRight.{judge_expr-stays, judge_call-stays, judge_right-stays}
use Rattle.rg_sound.proofs.Frames.Judge.{judge_declare-parts, judge_assign-stays, judge_assign_element-stays, judge_swap-parts, judge_test-stays}
use Rattle.rg_sound.proofs.Frames.Judge.{judge_enter-variable, judge_enter-field, judge_enter-inner, left-stays, judge_else-goes, judge_block-goes}
use Rattle.rg_sound.proofs.Frames.Judge.{judge_kind-goes}
use Rattle.rg_code.specs.Lowering.{Scope, type_in, type_along, class_of, scope_behind, scope_inside}
use Rattle.rg_verify_expressions.specs.Naming.{variable_name}
use Rattle.rg_numbered.specs.ModuleNames.{HasSlotNames}
use Rattle.rg_numbered.proofs.Classes.{ClassesNamed}
use Rattle.rg_numbered.proofs.Scopes.{ok-is, iso-of, Matches, matches-more, matches-stays, marked-matches, type-found, IsScoped, scoped-variable}
use Rattle.rg_numbered.proofs.Scopes.{scoped-stays, scoped-more, PathKnown, writable}

call_alone-stays : (cs : List Class) (env out : Env) (c : Call) → Distinct env.entries → judge_call_alone cs env c ≡ Ok out → Stays env out
call_alone-stays cs env out c d h =
    let j = bind-ok (judge_call cs env c) _ out h in subst (Stays env) (ok-is j.2) (judge_call-stays cs env c j.0 d j.1)

print-stays : (cs : List Class) (env out : Env) (e : Expr) → Distinct env.entries → judge_print cs env e ≡ Ok out → Stays env out
print-stays cs env out e d h =
    let j = bind-ok (judge_expr cs env None e) _ out h in
    let t = test-then (printable j.0.ty) _ _ out j.2 in
    subst (Stays env) (ok-is t.1) (judge_expr-stays cs env None e j.0 d j.1)

return-stays : (cs : List Class) (last : Option Ty) (env out : Env) (e : Expr) → Distinct env.entries → judge_return cs last env e ≡ Ok out →
    Stays env out
return-stays cs last env out e d h =
    let t = bind-ok (ok_or last Return) _ out h in
    let j = bind-ok (judge_expr cs env (Some t.0) e) _ out t.2 in
    subst (Stays env) (ok-is j.2) (judge_expr-stays cs env (Some t.0) e j.0 d j.1)

branch-stays : (cs : List Class) (line : ℕ) (last : Option Ty) (env out : Env) (e : Expr) (b : Block) (other : Else) → Distinct env.entries →
    judge_kind cs last line env (branch e b other) ≡ Ok out → Stays env out
branch-stays cs line last env out e b other d h =
    let f = bind-ok (at_line line (judge_test cs env e)) _ out h in
    let a = bind-ok (judge_block cs None f.0 b) _ out f.2 in
    let c = bind-ok (judge_else cs f.0 other) _ out a.2 in
    let t = judge_test-stays cs env f.0 e d (at_line-ok line _ f.0 f.1) in
    let n = Stays-distinct env f.0 d t in
    let g = judge_block-goes cs None f.0 a.0 b n a.1 in
    let k = judge_else-goes cs f.0 c.0 other n c.1 in
    let p = Stays-closed f.0 f.0 a.0 (Keeps-same f.0.entries) g.keeps in
    let q = Stays-closed f.0 f.0 c.0 (Keeps-same f.0.entries) k.keeps in
    let j = Stays-joined f.0 (closed f.0 a.0) (closed f.0 c.0) p q in
    subst (Stays env) (ok-is c.2) (Stays-trans env f.0 _ t j)

while-stays : (cs : List Class) (line : ℕ) (last : Option Ty) (env out : Env) (e : Expr) (b : Block) →
    judge_kind cs last line env (while e b) ≡ Ok out → Stays env out
while-stays cs line last env out e b h =
    let f = bind-ok (at_line line (judge_test cs env e)) _ out h in
    let a = bind-ok (judge_block cs None f.0 b) _ out f.2 in
    let c = then-ok (at_line line (test (covers env a.0) Loop)) _ out a.2 in
    subst (Stays env) (ok-is c.2) (Stays-same env)

enter-stays : (cs : List Class) (line : ℕ) (last : Option Ty) (env out : Env) (p : Path) (z : Name) (b : Block) (giving : Option Name) →
    Distinct env.entries → judge_kind cs last line env (enter p z b giving) ≡ Ok out → Stays env out
enter-stays cs line last env out p z b giving d h =
    let f = bind-ok (at_line line (judge_enter cs env p.base p.fields z)) _ out h in
    let a = bind-ok (judge_block cs None f.0 b) _ out f.2 in
    let w = then-ok (at_line line (judge_giving a.0 z giving)) _ out a.2 in
    let n = at_line-ok line (judge_enter cs env p.base p.fields z) f.0 f.1 in
    let i = judge_enter-inner cs env f.0 p.base p.fields z d n in
    let g = judge_block-goes cs None f.0 a.0 b i.distinct a.1 in
    subst (Stays env) (ok-is w.2) (left-stays cs env f.0 a.0 p.base p.fields z d n g.keeps)

module _ (cs : List Class) (names : ClassesNamed cs) (m : Truth) where
  module _ (env out : Env) (ss : Scope) (s : IsScoped m env ss) where
    -- in front of the block of an `enter`, with the path that was entered
    pub inside-scoped : (x : Variable) (fs : List Name) (z : Name) → z ≡ variable_name (length ss) → judge_enter cs env x fs z ≡ Ok out →
        PathKnown cs ss m x fs × IsScoped m out (scope_inside cs ss (record { base = x; fields = fs }) z)
    inside-scoped x [] z e h =
        let p = judge_enter-variable cs env out x z h in
        let i = judge_enter-inner cs env out x [] z s.distinct h in
        let found : type_in ss x ≡ p.entry.ty = type-found env.entries ss x p.entry s.matches p.there in
        let class : class_of cs (type_in ss x) ≡ p.class = ap (class_of cs) found ∙ iso-of cs p.entry.ty p.class p.iso in
        let match : Matches out.entries (scope_inside cs ss (record { base = x; fields = [] }) z) =
        subst (λ (o : Env). Matches o.entries (scope_inside cs ss (record { base = x; fields = [] }) z)) (sym p.out_is)
        (matches-more (map (marked_entry x lent) env.entries) ss _ _ (marked-matches x env.entries ss s.matches) refl
        (ap (λ (c : ℕ). Ref Mut c) class)) in (
          record { base = scoped-variable m env ss x p.entry s p.there; fields = tt },
          scoped-more m ss z (Ref Mut (class_of cs (type_in ss x))) out i.distinct match s.slots s.self e,
        )
    inside-scoped x (f ∷ fs) z e h =
        let p = judge_enter-field cs env out x f fs z h in
        let i = judge_enter-inner cs env out x (f ∷ fs) z s.distinct h in
        let w = writable cs names m env ss s x f fs p.ty p.writable in
        let t = type_along cs (type_in ss x) (f ∷ fs) in
        let class : class_of cs t ≡ p.class = ap (class_of cs) w.1 ∙ iso-of cs p.ty p.class p.iso in
        let match : Matches out.entries (scope_inside cs ss (record { base = x; fields = f ∷ fs }) z) =
        subst (λ (o : Env). Matches o.entries (scope_inside cs ss (record { base = x; fields = f ∷ fs }) z)) (sym p.out_is)
        (matches-more env.entries ss _ _ s.matches refl (ap (λ (c : ℕ). Ref Mut c) class)) in
        (w.0, scoped-more m ss z (Ref Mut (class_of cs t)) out i.distinct match s.slots s.self e)

    -- behind a statement
    pub behind-scoped : (last : Option Ty) (line : ℕ) (k : StmtKind) → HasSlotNames (length ss) k → judge_kind cs last line env k ≡ Ok out →
        IsScoped m out (scope_behind cs ss k)
    behind-scoped last line (declare x t r) e h =
        let p = judge_declare-parts cs env out x t r (at_line-ok line _ out h) in
        let g = judge_right-stays cs env p.declared r p.judged s.distinct p.typed in
        let d = judge_kind-goes cs last line env out (declare x t r) s.distinct h in
        let match : Matches out.entries (scope_behind cs ss (declare x t r)) =
        subst (λ (o : Env). Matches o.entries (scope_behind cs ss (declare x t r))) (sym p.out_is)
        (matches-more p.judged.env.entries ss _ _ (matches-stays env p.judged.env ss g s.matches) refl
        (sym (good_type-type_of cs t p.declared p.good))) in
        scoped-more m ss x _ out d.distinct match s.slots s.self e
    behind-scoped last line (assign p r) e h =
        scoped-stays m env out ss s (judge_assign-stays cs env out p.base p.fields r s.distinct (at_line-ok line _ out h))
    behind-scoped last line (assign_element q i r) e h =
        scoped-stays m env out ss s (judge_assign_element-stays cs env out q.base q.fields i r s.distinct (at_line-ok line _ out h))
    behind-scoped last line (call c) e h = scoped-stays m env out ss s (call_alone-stays cs env out c s.distinct (at_line-ok line _ out h))
    behind-scoped last line (swap y p) e h =
        let q = judge_swap-parts cs env out y p (at_line-ok line _ out h) in subst (λ (o : Env). IsScoped m o ss) (sym q.out_is) s
    behind-scoped last line (branch i b other) e h = scoped-stays m env out ss s (branch-stays cs line last env out i b other s.distinct h)
    behind-scoped last line (while i b) e h = scoped-stays m env out ss s (while-stays cs line last env out i b h)
    behind-scoped last line (enter p z b giving) e h = scoped-stays m env out ss s (enter-stays cs line last env out p z b giving s.distinct h)
    behind-scoped last line (print i) e h = scoped-stays m env out ss s (print-stays cs env out i s.distinct (at_line-ok line _ out h))
    behind-scoped last line collect e h = subst (λ (o : Env). IsScoped m o ss) (ok-is h) s
    behind-scoped last line (return i) e h = scoped-stays m env out ss s (return-stays cs last env out i s.distinct (at_line-ok line _ out h))
