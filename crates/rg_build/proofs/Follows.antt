-- What of the code of an accepted program follows from its classes, heads and instructions: each body has one instruction that ends it, the
-- last one.
use Rattle.std.proofs.Common.{◌≡◌, refl, sym, ap, ◌∙◌, subst, ℕ, suc, ◌+◌, false, true, List, [], ◌∷◌, ◌++◌, length}
use Rattle.std.proofs.Common.{map, drop, Option, Some, None, option_map, Ok, append_assoc, arith}
use Rattle.std.proofs.lemmas.Bool.{false≢true}
use Rattle.std.proofs.lemmas.List.{append-nil, length-map}
use Rattle.std.proofs.Math.Seq.{drop-append_seam}
use Rattle.rg_base.specs.declared.fault.Code.TheVariants.{Return}
use Rattle.rg_base.specs.declared.ty.Ty.{Ty}
use Rattle.rg_base.specs.declared.value.Word.{Word}
use Rattle.rg_tree.specs.Tree.{Name, Variable, Ty as Written, int, bool, ref, Expr}
use Rattle.rg_tree.specs.Tree.{Call, stmt, StmtKind}
use Rattle.rg_tree.specs.Tree.{declare, assign, assign_element, call, swap, branch, while, enter, print, collect, return, Else, no_else, otherwise}
use Rattle.rg_tree.specs.Tree.{Block, empty as none, then as next, Method, Member, field, method, Class, Tree}
use Rattle.rg_rules.specs.Types.{type_of, param_types}
use Rattle.rg_rules.specs.Environment.{Env, empty}
use Rattle.rg_rules.specs.Answers.{test, at_line}
use Rattle.rg_rules.specs.Statements.{judge_kind, judge_else, judge_block, judge_test, judge_enter, last_of}
use Rattle.rg_rules.specs.Bodies.{method_env, main_body, method_body, judge_body, is_return, last_is_return, gives_result, judge_method}
use Rattle.rg_rules.specs.Bodies.{judge_members}
use Rattle.rg_rules.specs.Bodies.{judge_methods}
use Rattle.rg_rules.specs.Acceptance.{Accepted}
use Rattle.rg_rules.proofs.Answers.{bind-ok, then-ok, test-ok, at_line-ok}
use Rattle.rg_rules.proofs.Acceptance.{Accepted-parts}
use Rattle.rg_code.specs.declared.op.Op.{Op}
use Rattle.rg_code.specs.declared.op.Op.TheVariants as i
use Rattle.rg_code.specs.declared.code.Entry.{Entry}
use Rattle.rg_code.specs.Lowering.{Scope}
use Rattle.rg_code.specs.Lowering.{whole_code, call_code, call_result, right_code, pace_code, dropped_code, assign_code}
use Rattle.rg_code.specs.Lowering.{assign_element_code, swap_code, enter_code, leave_op, kind_code, else_code, block_code, scope_behind}
use Rattle.rg_code.specs.Lowering.{scope_inside, scope_at_end, else_gap}
use Rattle.rg_code.specs.Lowering.{method_scope, method_end_code, method_code, main_code, slots_of, Methods, with_method, members_code, methods_code}
use Rattle.rg_code.specs.Lowering.{opening_word, opening_words, opening_of, lowered}
use Rattle.rg_spell.specs.declared.rows.Head.{Head}
use Rattle.rg_module.specs.Follows as follows
use Rattle.rg_module.specs.Follows.{start, opening, ends_body, body, entries, code_for}
use Rattle.rg_build.proofs.Quiet.{GoesOn, going, behind_right, whole-quiet, call-quiet, assign-quiet, assign_element-quiet, swap-quiet, enter-quiet}
use Rattle.rg_build.proofs.Quiet.{dropped-quiet}
use Rattle.rg_build.specs.ModuleOf.{field_types, shape_of, shapes_of, head_of, member_heads, class_heads, heads_of}

pub goes-then : (a b : List Op) → GoesOn a → GoesOn b → GoesOn (a ++ b)
goes-then [] b h g = g
goes-then (o ∷ os) b h g = (h.0, goes-then os b h.1 g)

-- the body in front of instructions is what goes on, with what ends it
pub body-ends : (a : List Op) (o : Op) (rest : List Op) → GoesOn a → ends_body o ≡ true → body (a ++ o ∷ rest) ≡ a ++ o ∷ []
body-ends [] o rest h e = rw e refl
body-ends (p ∷ a) o rest h e = rw (h.0, body-ends a o rest h.1 e) refl

-- what is quiet goes on

whole-goes : (cs : List Class) (sc : Scope) (at : ℕ) (e : Expr) → GoesOn (whole_code cs sc at e)
whole-goes cs sc at e = going (whole_code cs sc at e) (whole-quiet cs sc at e)

call-goes : (cs : List Class) (sc : Scope) (at : ℕ) (c : Call) → GoesOn (call_code cs sc at c)
call-goes cs sc at c = going (call_code cs sc at c) (call-quiet cs sc at c)

dropped-goes : (t : Option Ty) → GoesOn (dropped_code t)
dropped-goes t = going (dropped_code t) (dropped-quiet t)

enter-goes : (cs : List Class) (sc : Scope) (x : Variable) (fs : List Name) → GoesOn (enter_code cs sc x fs)
enter-goes cs sc x fs = going (enter_code cs sc x fs) (enter-quiet cs sc x fs)

leave-goes : (sc : Scope) (s : ℕ) (w : Option Name) → ends_body (leave_op sc s w) ≡ false
leave-goes sc s None = refl
leave-goes sc s (Some w) = refl

last_of-none : (b : Block) → last_of None b ≡ None
last_of-none none = refl
last_of-none (next s b) = refl

no-return : {B : Type 0} (cs : List Class) (line : ℕ) (env out : Env) (e : Expr) → judge_kind cs None line env (return e) ≡ Ok out → B
no-return cs line env out e h = grind arith

mutual
  -- a statement that may give no result, and has no fault
  pub kind-goes : (cs : List Class) (sc : Scope) (at line : ℕ) (env out : Env) (k : StmtKind) → judge_kind cs None line env k ≡ Ok out →
      GoesOn (kind_code cs sc at line k)
  kind-goes cs sc at line env out (declare x t r) h =
      (refl, going (right_code cs sc (at + 1) r ++ i.Store (length sc) ∷ pace_code r) (behind_right cs sc (at + 1) r (i.Store (length sc)) refl))
  kind-goes cs sc at line env out (assign p r) h =
      (refl, going (assign_code cs sc (at + 1) p.base p.fields r) (assign-quiet cs sc (at + 1) p.base p.fields r))
  kind-goes cs sc at line env out (assign_element q e r) h =
      (refl, going (assign_element_code cs sc (at + 1) q e r) (assign_element-quiet cs sc (at + 1) q e r))
  kind-goes cs sc at line env out (call c) h = (
    refl,
    goes-then (call_code cs sc (at + 1) c) (dropped_code (call_result cs sc c)) (call-goes cs sc (at + 1) c)
        (dropped-goes (call_result cs sc c)),
  )
  kind-goes cs sc at line env out (swap y p) h = (refl, going (swap_code cs sc y p.base p.fields) (swap-quiet cs sc y p.base p.fields))
  kind-goes cs sc at line env out (branch e b other) h =
      let p = bind-ok (at_line line (judge_test cs env e)) _ out h in
      let q = bind-ok (judge_block cs None p.0 b) _ out p.2 in
      let r = bind-ok (judge_else cs p.0 other) _ out q.2 in
      let inside = at + 1 + length (whole_code cs sc (at + 1) e) + 1 in
      let block = block_code cs sc inside b in (
        refl,
        goes-then (whole_code cs sc (at + 1) e)
            (i.JumpFalse (inside + length block + else_gap other) ∷
            (block ++ i.Mark line ∷ i.End (length sc) ∷ else_code cs sc (inside + length block + 2) line other))
            (whole-goes cs sc (at + 1) e) (
              refl,
              goes-then block (i.Mark line ∷ i.End (length sc) ∷ else_code cs sc (inside + length block + 2) line other)
                  (block-goes cs sc inside p.0 q.0 b q.1)
                  (refl, (refl, else-goes cs sc (inside + length block + 2) line p.0 r.0 other r.1)),
            ),
      )
  kind-goes cs sc at line env out (while e b) h =
      let p = bind-ok (at_line line (judge_test cs env e)) _ out h in
      let q = bind-ok (judge_block cs None p.0 b) _ out p.2 in
      let inside = at + 1 + length (whole_code cs sc (at + 1) e) + 1 in
      let block = block_code cs sc inside b in (
        refl,
        goes-then (whole_code cs sc (at + 1) e)
            (i.JumpFalse (inside + length block + 3) ∷ (block ++ i.Mark line ∷ i.End (length sc) ∷ i.Jump at ∷ []))
            (whole-goes cs sc (at + 1) e) (
              refl,
              goes-then block (i.Mark line ∷ i.End (length sc) ∷ i.Jump at ∷ []) (block-goes cs sc inside p.0 q.0 b q.1)
                  (refl, (refl, (refl, tt))),
            ),
      )
  kind-goes cs sc at line env out (enter p z b giving) h =
      let f = bind-ok (at_line line (judge_enter cs env p.base p.fields z)) _ out h in
      let q = bind-ok (judge_block cs None f.0 b) _ out f.2 in
      let front = enter_code cs sc p.base p.fields in
      let inside = scope_inside cs sc p z in
      let block = block_code cs inside (at + 1 + length front) b in (
        refl,
        goes-then front (block ++ i.Mark line ∷ leave_op (scope_at_end cs inside b) (length sc) giving ∷ [])
            (enter-goes cs sc p.base p.fields)
            (goes-then block (i.Mark line ∷ leave_op (scope_at_end cs inside b) (length sc) giving ∷ [])
            (block-goes cs inside (at + 1 + length front) f.0 q.0 b q.1)
            (refl, (leave-goes (scope_at_end cs inside b) (length sc) giving, tt))),
      )
  kind-goes cs sc at line env out (print e) h =
      (refl, goes-then (whole_code cs sc (at + 1) e) (i.Print ∷ []) (whole-goes cs sc (at + 1) e) (refl, tt))
  kind-goes cs sc at line env out collect h = (refl, (refl, tt))
  kind-goes cs sc at line env out (return e) h = no-return cs line env out e h

  else-goes : (cs : List Class) (sc : Scope) (at line : ℕ) (env out : Env) (other : Else) → judge_else cs env other ≡ Ok out →
      GoesOn (else_code cs sc at line other)
  else-goes cs sc at line env out no_else h = tt
  else-goes cs sc at line env out (otherwise b) h =
      let block = block_code cs sc (at + 1) b in (
        refl,
        goes-then block (i.Mark line ∷ i.End (length sc) ∷ []) (block-goes cs sc (at + 1) env out b h) (refl, (refl, tt)),
      )

  -- a block in which no result may be given, and has no fault
  pub block-goes : (cs : List Class) (sc : Scope) (at : ℕ) (env out : Env) (b : Block) → judge_block cs None env b ≡ Ok out →
      GoesOn (block_code cs sc at b)
  block-goes cs sc at env out none h = tt
  block-goes cs sc at env out (next (stmt line k) b) h =
      let m = bind-ok (judge_kind cs (last_of None b) line env k) _ out h in
      let first = kind_code cs sc at line k in
      let right : judge_kind cs None line env k ≡ Ok m.0 = subst (λ (o : Option Ty). judge_kind cs o line env k ≡ Ok m.0) (last_of-none b) m.1 in
      goes-then first (block_code cs (scope_behind cs sc k) (at + length first) b) (kind-goes cs sc at line env m.0 k right)
      (block-goes cs (scope_behind cs sc k) (at + length first) m.0 out b m.2)

-- instructions of which the last one, and no other, ends a body
pub record Ends (ops : List Op) (o : Op) : Type 0 where
  pub front : List Op
  pub goes : GoesOn front
  pub is : ops ≡ front ++ o ∷ []
  pub ends : ends_body o ≡ true

pub body-is : (ops : List Op) (o : Op) (rest : List Op) → Ends ops o → body (ops ++ rest) ≡ ops
body-is ops o rest e =
    let split : ops ++ rest ≡ e.front ++ o ∷ rest = ap (λ (os : List Op). os ++ rest) e.is ∙ append_assoc e.front (o ∷ []) rest in
    ap body split ∙ body-ends e.front o rest e.goes e.ends ∙ sym e.is

after-first : (first rest : List Op) (o : Op) → GoesOn first → Ends rest o → Ends (first ++ rest) o
after-first first rest o g e = record {
  front = first ++ e.front;
  goes = goes-then first e.front g e.goes;
  is = ap (λ (os : List Op). first ++ os) e.is ∙ sym (append_assoc first e.front (o ∷ []));
  ends = e.ends;
}

return-ends : (cs : List Class) (sc : Scope) (at line : ℕ) (k : StmtKind) → is_return k ≡ true → Ends (kind_code cs sc at line k ++ []) i.Ret
return-ends cs sc at line (return e) h = record {
  front = i.Mark line ∷ whole_code cs sc (at + 1) e;
  goes = (refl, whole-goes cs sc (at + 1) e);
  is = append-nil (i.Mark line ∷ (whole_code cs sc (at + 1) e ++ i.Ret ∷ []));
  ends = refl;
}
return-ends cs sc at line _ h = absurd (false≢true h)

-- a block that ends in `return`
result-ends : (cs : List Class) (sc : Scope) (at : ℕ) (ty : Ty) (env out : Env) (line : ℕ) (k : StmtKind) (b : Block) →
    judge_block cs (Some ty) env (next (stmt line k) b) ≡ Ok out → last_is_return k b ≡ true →
    Ends (block_code cs sc at (next (stmt line k) b)) i.Ret
result-ends cs sc at ty env out line k none h r = return-ends cs sc at line k r
result-ends cs sc at ty env out line k (next (stmt below other) b) h r =
    let m = bind-ok (judge_kind cs None line env k) _ out h in
    let first = kind_code cs sc at line k in
    after-first first (block_code cs (scope_behind cs sc k) (at + length first) (next (stmt below other) b)) i.Ret
    (kind-goes cs sc at line env m.0 k m.1)
    (result-ends cs (scope_behind cs sc k) (at + length first) ty m.0 out below other b m.2 r)

-- Methods

-- the last instruction of a method
abbrev pub last_op : (result : Option Written) → Op
last_op None = i.RetVoid
last_op (Some t) = i.Ret

method-ends_by : (cs : List Class) (sc : Scope) (at line : ℕ) (result : Option Written) (env out : Env) (b : Block) →
    judge_block cs (option_map (type_of cs) result) env b ≡ Ok out → gives_result result b ≡ true →
    Ends (block_code cs sc at b ++ method_end_code line result) (last_op result)
method-ends_by cs sc at line None env out b h g = record {
  front = block_code cs sc at b ++ i.Mark line ∷ [];
  goes = goes-then (block_code cs sc at b) (i.Mark line ∷ []) (block-goes cs sc at env out b h) (refl, tt);
  is = sym (append_assoc (block_code cs sc at b) (i.Mark line ∷ []) (i.RetVoid ∷ []));
  ends = refl;
}
method-ends_by cs sc at line (Some t) env out none h g = absurd (false≢true g)
method-ends_by cs sc at line (Some t) env out (next (stmt above k) b) h g =
    let code = block_code cs sc at (next (stmt above k) b) in
    subst (λ (ops : List Op). Ends ops i.Ret) (sym (append-nil code)) (result-ends cs sc at (type_of cs t) env out above k b h g)

pub method-ends : (cs : List Class) (at c : ℕ) (m : Method) → judge_method cs c m ≡ Ok tt → Ends (method_code cs at c m) (last_op m.result)
method-ends cs at c m h =
    let p = then-ok (judge_body cs (method_body cs c m)) _ tt h in
    let g = test-ok (gives_result m.result m.body) Return tt (at_line-ok m.line (test (gives_result m.result m.body) Return) tt p.2) in
    method-ends_by cs (method_scope cs c m) at m.line m.result (method_env cs c m) p.0 m.body p.1 g

-- a method's entry follows from its head and its body
entry-follows : (cs : List Class) (at c : ℕ) (m : Method) (heads : List Head) (others : Methods) → judge_method cs c m ≡ Ok tt →
    others.entries ≡ entries (at + length (method_code cs at c m)) heads others.ops →
    (with_method at (suc (length m.params)) (method_code cs at c m) others).entries
    ≡ entries at (head_of cs c m ∷ heads) (method_code cs at c m ++ others.ops)
entry-follows cs at c m heads others h e =
    let own = method_code cs at c m in
    let b : body (own ++ others.ops) ≡ own = body-is own (last_op m.result) others.ops (method-ends cs at c m h) in
    let n : length (param_types cs m) ≡ length m.params = length-map m.params _ in
    let behind : drop (length own) (own ++ others.ops) ≡ others.ops = drop-append_seam own others.ops in
    rw (b, n, behind)
    (ap (λ (es : List Entry). record { at = at; given = suc (length m.params); slots = slots_of (suc (length m.params)) own } ∷ es) e)

members-follow : (cs : List Class) (at c : ℕ) (ms : List Member) (heads : List Head) (go : ℕ → Methods) → judge_members cs c ms ≡ Ok tt →
    ((behind : ℕ) → (go behind).entries ≡ entries behind heads (go behind).ops) →
    (members_code cs at c ms go).entries ≡ entries at (member_heads cs c ms ++ heads) (members_code cs at c ms go).ops
members-follow cs at c [] heads go h e = e at
members-follow cs at c (field f ∷ ms) heads go h e = members-follow cs at c ms heads go h e
members-follow cs at c (method m ∷ ms) heads go h e =
    let p = then-ok (judge_method cs c m) _ tt h in
    let behind = at + length (method_code cs at c m) in
    entry-follows cs at c m (member_heads cs c ms ++ heads) (members_code cs behind c ms go) p.1 (members-follow cs behind c ms heads go p.2 e)

methods-follow : (cs : List Class) (at c : ℕ) (ks : List Class) → judge_methods cs c ks ≡ Ok tt →
    (methods_code cs at c ks).entries ≡ entries at (class_heads cs c ks) (methods_code cs at c ks).ops
methods-follow cs at c [] h = refl
methods-follow cs at c (k ∷ ks) h =
    let p = then-ok (judge_members cs c k.members) _ tt h in
    members-follow cs at c k.members (class_heads cs (suc c) ks) (λ behind. methods_code cs behind (suc c) ks) p.1
    (λ behind. methods-follow cs behind (suc c) ks p.2)

-- Classes

start-is : (cs : List Class) (t : Written) → opening_word t ≡ start (type_of cs t)
start-is cs int = refl
start-is cs bool = refl
start-is cs (ref cap x) = refl

words-are : (cs : List Class) (ms : List Member) → opening_words ms ≡ map start (field_types cs ms)
words-are cs [] = refl
words-are cs (field f ∷ ms) = rw (start-is cs f.ty, words-are cs ms) refl
words-are cs (method m ∷ ms) = words-are cs ms

opening-is : (cs : List Class) (element : Option Written) (ms : List Member) →
    opening_of element ms ≡ follows.opening_of (field_types cs ms) (option_map (type_of cs) element)
opening-is cs None ms = words-are cs ms
opening-is cs (Some t) ms = ap (λ (w : Word). w ∷ []) (start-is cs t)

openings-are : (cs ks : List Class) → map (λ (c : Class). opening_of c.element c.members) ks ≡ map opening (map (shape_of cs) ks)
openings-are cs [] = refl
openings-are cs (k ∷ ks) = rw (opening-is cs k.element k.members, openings-are cs ks) refl

-- The program

main-ends : (t : Tree) (out : Env) → judge_body t.classes (main_body t) ≡ Ok out → Ends (main_code t) i.Halt
main-ends t out h = record {
  front = block_code t.classes [] 0 t.body ++ i.Mark t.line ∷ i.End 0 ∷ [];
  goes = goes-then (block_code t.classes [] 0 t.body) (i.Mark t.line ∷ i.End 0 ∷ [])
      (block-goes t.classes [] 0 empty out t.body h) (refl, (refl, tt));
  is = sym (append_assoc (block_code t.classes [] 0 t.body) (i.Mark t.line ∷ i.End 0 ∷ []) (i.Halt ∷ []));
  ends = refl;
}

pub code-follows : (t : Tree) → Accepted t → lowered t ≡ code_for (shapes_of t.classes) (heads_of t.classes) (lowered t).ops
code-follows t a =
    let p = Accepted-parts t a in
    let main = main_code t in
    let methods = methods_code t.classes (length main) 0 t.classes in
    let b : body (main ++ methods.ops) ≡ main = body-is main i.Halt methods.ops (main-ends t p.out p.main) in
    let behind : drop (length main) (main ++ methods.ops) ≡ methods.ops = drop-append_seam main methods.ops in
    let es : methods.entries ≡ entries (length main) (heads_of t.classes) methods.ops =
    methods-follow t.classes (length main) 0 t.classes p.methods in
    rw (b, behind, openings-are t.classes t.classes, es) refl
