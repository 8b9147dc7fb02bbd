-- Behind a statement there are the variables that were in front of it: at the same depths, and lent where they were.
use Rattle.std.proofs.Common.{◌≡◌, refl, sym, ◌∙◌, ap, ℕ, ◌+◌, true, false, ◌||◌, not as negated, List, [], ◌∷◌, ◌++◌, length, take, map, slice_get}
use Rattle.std.proofs.Common.{Option, Some, None, ok_or, Ok, arith}
use Rattle.std.proofs.lemmas.List.{length-map}
use Rattle.std.proofs.lemmas.Bool.{not-true}
use Rattle.rg_base.specs.declared.ty.Ty.{Ty}
use Rattle.rg_base.specs.declared.ty.Ty.TheVariants.{Int, Bool, Ref}
use Rattle.rg_base.specs.declared.words.Cap.TheVariants.{Mut}
use Rattle.rg_base.specs.declared.fault.Code.TheVariants.{Unknown, Mismatch, Loop, Return}
use Rattle.rg_tree.specs.Tree.{Name, Variable, Ty as Written, Path, Expr, Call, Right, Stmt, stmt, StmtKind, declare, assign, assign_element, call}
use Rattle.rg_tree.specs.Tree.{swap}
use Rattle.rg_tree.specs.Tree.{branch, while, enter, print, collect, return, Else, no_else, otherwise, Block, empty as none, then as next, Class}
use Rattle.rg_tree.proofs.TreesFrom.{slice_get-push}
use Rattle.rg_rules.specs.Answers.{test, at_line}
use Rattle.rg_rules.specs.Capabilities.{is_iso, iso_class, same_type, stays_at_depth, may_write, printable}
use Rattle.rg_rules.specs.Types.{good_type}
use Rattle.rg_rules.specs.Environment.{Readiness, Env, Entry, entry_of, gone, visible, at_depth, with_variable, marked_entry, marked, is_ready}
use Rattle.rg_rules.specs.Environment.{is_lent, ready, lent, deeper, closed, joined, covers}
use Rattle.rg_rules.specs.Paths.{Looked, walk_array, writable_field}
use Rattle.rg_rules.specs.Expressions.{Judged, judge_expr}
use Rattle.rg_rules.specs.Rights.{judge_call, judge_right}
use Rattle.rg_rules.specs.Statements.{judge_declare, is_call, judge_assign, judge_assign_element, judge_call_alone, swapped_field}
use Rattle.rg_rules.specs.Statements.{judge_swap, judge_test, judge_enter, judge_giving, left, judge_print, judge_return, last_of, judge_stmt}
use Rattle.rg_rules.specs.Statements.{judge_kind, judge_else, judge_block}
use Rattle.rg_rules.proofs.Answers.{bind-ok, then-ok, test-then, ok_or-ok, at_line-ok}
use Rattle.rg_sound.proofs.Frames.Entry.{Absent, Absent-keeps, Absent-marked, Distinct-marked, stays-entry, Distinct, visible-absent}
use Rattle.rg_sound.proofs.Frames.Entry.{settled_readiness, Keeps, Keeps-same, Keeps-trans, Keeps-append, Keeps-take, length-take-Keeps}
use Rattle.rg_sound.proofs.Frames.Entry.{Keeps-left}
use Rattle.rg_sound.proofs.Frames.Entry.{Stays, Goes, Stays-same, Stays-trans, Stays-distinct, Stays-goes, Goes-trans, Stays-marked}
use Rattle.rg_sound.proofs.Frames.Entry.{Goes-with_variable, Stays-closed, Stays-joined, Distinct-snoc}
use Rattle.rg_sound.proofs.Frames.JudgeRight.{ready-settled, judge_expr-stays, judge_call-stays, judge_right-stays}

-- Statements

-- `let x: T = r`: its parts
pub record Declared (classes : List Class) (env out : Env) (x : Name) (t : Written) (r : Right) : Type 0 where
  pub absent : Absent (Some x) env.entries
  pub declared : Ty
  pub good : good_type classes t ≡ Ok declared
  pub judged : Judged
  pub typed : judge_right classes env declared r ≡ Ok judged
  pub out_is : out ≡ with_variable judged.env (Some x) declared true

pub judge_declare-parts : (classes : List Class) (env out : Env) (x : Name) (t : Written) (r : Right) → judge_declare classes env x t r ≡ Ok out →
    Declared classes env out x t r
judge_declare-parts classes env out x t r h =
    let a = test-then (negated (visible env (Some x))) _ _ out h in
    let d = bind-ok (good_type classes t) _ out a.1 in
    let j = bind-ok (judge_right classes env d.0 r) _ out d.2 in
    let e : with_variable j.0.env (Some x) d.0 true ≡ out = grind arith in
    record { absent = visible-absent env (Some x) a.0; declared = d.0; good = d.1; judged = j.0; typed = j.1; out_is = sym e }

Absent-stays : (x : Variable) (a b : Env) → Stays a b → Absent x a.entries → Absent x b.entries
Absent-stays x a b g h = Absent-keeps x a.entries b.entries g.keeps g.count h

judge_declare-goes : (classes : List Class) (env out : Env) (x : Name) (t : Written) (r : Right) → Distinct env.entries →
    judge_declare classes env x t r ≡ Ok out → Goes env out
judge_declare-goes classes env out x t r d h =
    let p = judge_declare-parts classes env out x t r h in
    let g = judge_right-stays classes env p.declared r p.judged d p.typed in
    let dis = Stays-distinct env p.judged.env d g in
    let gone = Absent-stays (Some x) env p.judged.env g p.absent in
    rw p.out_is (Goes-trans env p.judged.env _ (Stays-goes env p.judged.env d g) (Goes-with_variable p.judged.env (Some x) p.declared true dis gone))

-- `x = r`: its parts
pub record Assigned (classes : List Class) (env out : Env) (x : Variable) (r : Right) : Type 0 where
  pub entry : Entry
  pub there : entry_of env x ≡ Some entry
  pub at : (at_depth env entry || negated (stays_at_depth entry.ty)) ≡ true
  pub not_lent : is_lent entry.readiness ≡ false
  pub judged : Judged
  pub typed : judge_right classes env entry.ty r ≡ Ok judged
  pub out_is : out ≡ marked x ready judged.env

pub judge_assign-parts : (classes : List Class) (env out : Env) (x : Variable) (r : Right) → judge_assign classes env x [] r ≡ Ok out →
    Assigned classes env out x r
judge_assign-parts classes env out x r h =
    let e = bind-ok (ok_or (entry_of env x) Unknown) _ out h in
    let a = test-then (e.0.assignable) _ _ out e.2 in
    let d = test-then (at_depth env e.0 || negated (stays_at_depth e.0.ty)) _ _ out a.1 in
    let l = test-then (negated (is_lent e.0.readiness)) _ _ out d.1 in
    let j = bind-ok (judge_right classes env e.0.ty r) _ out l.1 in
    let i : marked x ready j.0.env ≡ out = grind arith in
    record {
      entry = e.0;
      there = ok_or-ok (entry_of env x) Unknown e.0 e.1;
      at = d.0;
      not_lent = not-true (is_lent e.0.readiness) l.0;
      judged = j.0;
      typed = j.1;
      out_is = sym i;
    }

not_lent-settled : (r : Readiness) → is_lent r ≡ false → settled_readiness ready ≡ settled_readiness r
not_lent-settled ready h = refl
not_lent-settled gone h = refl
not_lent-settled lent h = grind arith

-- `q.f = r`: its parts
pub record FieldAssigned (classes : List Class) (env out : Env) (x : Variable) (f : Name) (fs : List Name) (r : Right) : Type 0 where
  pub ty : Ty
  pub writable : writable_field classes env x f fs ≡ Ok ty
  pub not_iso : is_iso ty ≡ false
  pub not_call : is_call r ≡ false
  pub judged : Judged
  pub typed : judge_right classes env ty r ≡ Ok judged
  pub out_is : out ≡ judged.env

pub judge_assign-field : (classes : List Class) (env out : Env) (x : Variable) (f : Name) (fs : List Name) (r : Right) →
    judge_assign classes env x (f ∷ fs) r ≡ Ok out → FieldAssigned classes env out x f fs r
judge_assign-field classes env out x f fs r h =
    let t = bind-ok (writable_field classes env x f fs) _ out h in
    let i = test-then (negated (is_iso t.0)) _ _ out t.2 in
    let c = test-then (negated (is_call r)) _ _ out i.1 in
    let j = bind-ok (judge_right classes env t.0 r) _ out c.1 in
    let e : j.0.env ≡ out = grind arith in
    record {
      ty = t.0;
      writable = t.1;
      not_iso = not-true (is_iso t.0) i.0;
      not_call = not-true (is_call r) c.0;
      judged = j.0;
      typed = j.1;
      out_is = sym e;
    }

pub judge_assign-stays : (classes : List Class) (env out : Env) (x : Variable) (fs : List Name) (r : Right) → Distinct env.entries →
    judge_assign classes env x fs r ≡ Ok out → Stays env out
judge_assign-stays classes env out x [] r d h =
    let p = judge_assign-parts classes env out x r h in
    let g = judge_right-stays classes env p.entry.ty r p.judged d p.typed in
    let now = stays-entry env p.judged.env x p.entry g p.there in
    let same = not_lent-settled p.entry.readiness p.not_lent ∙ sym (ap (λ (o : Entry). o.readiness) now.2) in
    rw p.out_is (Stays-trans env p.judged.env _ g (Stays-marked x ready p.judged.env now.0 now.1 same (Stays-distinct env p.judged.env d g)))
judge_assign-stays classes env out x (f ∷ fs) r d h =
    let p = judge_assign-field classes env out x f fs r h in rw p.out_is (judge_right-stays classes env p.ty r p.judged d p.typed)

-- `q[e] = r`: its parts
pub record ElementAssigned (classes : List Class) (env out : Env) (x : Variable) (fs : List Name) (e : Expr) (r : Right) : Type 0 where
  pub array : Looked
  pub walked : walk_array classes env x fs ≡ Ok array
  pub writes : may_write array.receiver ≡ true
  pub not_call : is_call r ≡ false
  pub index : Judged
  pub index_typed : judge_expr classes env (Some Int) e ≡ Ok index
  pub judged : Judged
  pub typed : judge_right classes index.env array.ty r ≡ Ok judged
  pub out_is : out ≡ judged.env

pub judge_assign-element : (classes : List Class) (env out : Env) (x : Variable) (fs : List Name) (e : Expr) (r : Right) →
    judge_assign_element classes env x fs e r ≡ Ok out → ElementAssigned classes env out x fs e r
judge_assign-element classes env out x fs e r h =
    let a = bind-ok (walk_array classes env x fs) _ out h in
    let w = test-then (may_write a.0.receiver) _ _ out a.2 in
    let c = test-then (negated (is_call r)) _ _ out w.1 in
    let i = bind-ok (judge_expr classes env (Some Int) e) _ out c.1 in
    let j = bind-ok (judge_right classes i.0.env a.0.ty r) _ out i.2 in
    let o : j.0.env ≡ out = grind arith in
    record {
      array = a.0;
      walked = a.1;
      writes = w.0;
      not_call = not-true (is_call r) c.0;
      index = i.0;
      index_typed = i.1;
      judged = j.0;
      typed = j.1;
      out_is = sym o;
    }

pub judge_assign_element-stays : (classes : List Class) (env out : Env) (x : Variable) (fs : List Name) (e : Expr) (r : Right) →
    Distinct env.entries →
    judge_assign_element classes env x fs e r ≡ Ok out → Stays env out
judge_assign_element-stays classes env out x fs e r d h =
    let p = judge_assign-element classes env out x fs e r h in
    let g = judge_expr-stays classes env (Some Int) e p.index d p.index_typed in
    let k = judge_right-stays classes p.index.env p.array.ty r p.judged (Stays-distinct env p.index.env d g) p.typed in
    rw p.out_is (Stays-trans env p.index.env p.judged.env g k)

judge_call_alone-stays : (classes : List Class) (env out : Env) (c : Call) → Distinct env.entries → judge_call_alone classes env c ≡ Ok out →
    Stays env out
judge_call_alone-stays classes env out c d h =
    let j = bind-ok (judge_call classes env c) _ out h in
    let e : j.0.env ≡ out = grind arith in rw (← e) (judge_call-stays classes env c j.0 d j.1)

-- `swap y, q.f`: its parts
pub record Swapped (classes : List Class) (env out : Env) (y : Name) (p : Path) : Type 0 where
  pub entry : Entry
  pub there : entry_of env (Some y) ≡ Some entry
  pub iso : is_iso entry.ty ≡ true
  pub ready : is_ready entry.readiness ≡ true
  pub ty : Ty
  pub field : swapped_field classes env p.base p.fields ≡ Ok ty
  pub same : same_type ty entry.ty ≡ true
  pub out_is : out ≡ env

pub judge_swap-parts : (classes : List Class) (env out : Env) (y : Name) (p : Path) → judge_swap classes env y p ≡ Ok out →
    Swapped classes env out y p
judge_swap-parts classes env out y p h =
    let e = bind-ok (ok_or (entry_of env (Some y)) Unknown) _ out h in
    let i = test-then (is_iso e.0.ty) _ _ out e.2 in
    let r = test-then (is_ready e.0.readiness) _ _ out i.1 in
    let t = bind-ok (swapped_field classes env p.base p.fields) _ out r.1 in
    let s = test-then (same_type t.0 e.0.ty) _ _ out t.2 in
    let o : env ≡ out = grind arith in
    record {
      entry = e.0;
      there = ok_or-ok (entry_of env (Some y)) Unknown e.0 e.1;
      iso = i.0;
      ready = r.0;
      ty = t.0;
      field = t.1;
      same = s.0;
      out_is = sym o;
    }

pub judge_test-stays : (classes : List Class) (env out : Env) (e : Expr) → Distinct env.entries → judge_test classes env e ≡ Ok out → Stays env out
judge_test-stays classes env out e d h =
    let j = bind-ok (judge_expr classes env (Some Bool) e) _ out h in
    let o : j.0.env ≡ out = grind arith in rw (← o) (judge_expr-stays classes env (Some Bool) e j.0 d j.1)

judge_print-stays : (classes : List Class) (env out : Env) (e : Expr) → Distinct env.entries → judge_print classes env e ≡ Ok out → Stays env out
judge_print-stays classes env out e d h =
    let j = bind-ok (judge_expr classes env None e) _ out h in
    let t = test-then (printable j.0.ty) _ _ out j.2 in
    let o : j.0.env ≡ out = grind arith in rw (← o) (judge_expr-stays classes env None e j.0 d j.1)

judge_return-stays : (classes : List Class) (last : Option Ty) (env out : Env) (e : Expr) → Distinct env.entries →
    judge_return classes last env e ≡ Ok out →
    Stays env out
judge_return-stays classes last env out e d h =
    let t = bind-ok (ok_or last Return) _ out h in
    let j = bind-ok (judge_expr classes env (Some t.0) e) _ out t.2 in
    let o : j.0.env ≡ out = grind arith in rw (← o) (judge_expr-stays classes env (Some t.0) e j.0 d j.1)

-- `enter x as z`: its parts
pub record EntersVariable (env out : Env) (x : Variable) (z : Name) : Type 0 where
  pub entry : Entry
  pub there : entry_of env x ≡ Some entry
  pub class : ℕ
  pub iso : iso_class entry.ty ≡ Some class
  pub ready : is_ready entry.readiness ≡ true
  pub absent : Absent (Some z) env.entries
  pub out_is : out ≡ with_variable (deeper (marked x lent env)) (Some z) (Ref Mut class) true

pub judge_enter-variable : (classes : List Class) (env out : Env) (x : Variable) (z : Name) → judge_enter classes env x [] z ≡ Ok out →
    EntersVariable env out x z
judge_enter-variable classes env out x z h =
    let e = bind-ok (ok_or (entry_of env x) Unknown) _ out h in
    let c = bind-ok (ok_or (iso_class e.0.ty) Mismatch) _ out e.2 in
    let r = test-then (is_ready e.0.readiness) _ _ out c.2 in
    let v = test-then (negated (visible env (Some z))) _ _ out r.1 in
    let o : with_variable (deeper (marked x lent env)) (Some z) (Ref Mut c.0) true ≡ out = grind arith in
    record {
      entry = e.0;
      there = ok_or-ok (entry_of env x) Unknown e.0 e.1;
      class = c.0;
      iso = ok_or-ok (iso_class e.0.ty) Mismatch c.0 c.1;
      ready = r.0;
      absent = visible-absent env (Some z) v.0;
      out_is = sym o;
    }

-- `enter q.f as z`: its parts
pub record EntersField (classes : List Class) (env out : Env) (x : Variable) (f : Name) (fs : List Name) (z : Name) : Type 0 where
  pub ty : Ty
  pub writable : writable_field classes env x f fs ≡ Ok ty
  pub class : ℕ
  pub iso : iso_class ty ≡ Some class
  pub absent : Absent (Some z) env.entries
  pub out_is : out ≡ with_variable (deeper env) (Some z) (Ref Mut class) true

pub judge_enter-field : (classes : List Class) (env out : Env) (x : Variable) (f : Name) (fs : List Name) (z : Name) →
    judge_enter classes env x (f ∷ fs) z ≡ Ok out → EntersField classes env out x f fs z
judge_enter-field classes env out x f fs z h =
    let t = bind-ok (writable_field classes env x f fs) _ out h in
    let c = bind-ok (ok_or (iso_class t.0) Mismatch) _ out t.2 in
    let v = test-then (negated (visible env (Some z))) _ _ out c.2 in
    let o : with_variable (deeper env) (Some z) (Ref Mut c.0) true ≡ out = grind arith in
    record {
      ty = t.0;
      writable = t.1;
      class = c.0;
      iso = ok_or-ok (iso_class t.0) Mismatch c.0 c.1;
      absent = visible-absent env (Some z) v.0;
      out_is = sym o;
    }

-- the entries that an `enter` puts in front of its block
abbrev pub lent_entries : Variable → List Name → List Entry → List Entry
lent_entries x [] es = map (marked_entry x lent) es
lent_entries x (f ∷ fs) es = es

-- the environment in front of the block of an `enter`: one deeper, the entered variable lent, and no two names the same
pub record Inner (env out : Env) (x : Variable) (fs : List Name) : Type 0 where
  pub depth : out.depth ≡ env.depth + 1
  pub keeps : Keeps (lent_entries x fs env.entries) out.entries
  pub distinct : Distinct out.entries

pub judge_enter-inner : (classes : List Class) (env out : Env) (x : Variable) (fs : List Name) (z : Name) → Distinct env.entries →
    judge_enter classes env x fs z ≡ Ok out → Inner env out x fs
judge_enter-inner classes env out x [] z d h =
    let p = judge_enter-variable classes env out x z h in
    let new : Entry = record { name = Some z; ty = Ref Mut p.class; depth = env.depth + 1; readiness = ready; assignable = true } in
    let es = map (marked_entry x lent) env.entries in
    rw p.out_is (record {
      depth = refl;
      keeps = Keeps-append es (new ∷ []);
      distinct = Distinct-snoc es new (Distinct-marked x lent env.entries d) (Absent-marked (Some z) x lent env.entries p.absent);
    })
judge_enter-inner classes env out x (f ∷ fs) z d h =
    let p = judge_enter-field classes env out x f fs z h in
    let new : Entry = record { name = Some z; ty = Ref Mut p.class; depth = env.depth + 1; readiness = ready; assignable = true } in
    rw p.out_is (record { depth = refl; keeps = Keeps-append env.entries (new ∷ []); distinct = Distinct-snoc env.entries new d p.absent })

-- the variable of the bridge stands behind those in front of the `enter`
pub record BridgeAt (env out : Env) (z : Name) : Type 0 where
  pub entry : Entry
  pub there : slice_get out.entries (length env.entries) ≡ Some entry
  pub name : entry.name ≡ Some z
  pub class : ℕ
  pub type_is : entry.ty ≡ Ref Mut class

bridge-behind : (env : Env) (es : List Entry) (z : Name) (c : ℕ) (out : Env) → length es ≡ length env.entries →
    out.entries ≡ es ++ record { name = Some z; ty = Ref Mut c; depth = env.depth + 1; readiness = ready; assignable = true } ∷ [] →
    BridgeAt env out z
bridge-behind env es z c out long is =
    let new : Entry = record { name = Some z; ty = Ref Mut c; depth = env.depth + 1; readiness = ready; assignable = true } in
    record {
      entry = new;
      there = ap (λ q. slice_get q (length env.entries)) is ∙ ap (slice_get (es ++ new ∷ [])) (sym long) ∙ slice_get-push es new;
      name = refl;
      class = c;
      type_is = refl;
    }

pub judge_enter-bridge : (classes : List Class) (env out : Env) (x : Variable) (fs : List Name) (z : Name) → judge_enter classes env x fs z ≡ Ok out →
    BridgeAt env out z
judge_enter-bridge classes env out x [] z h =
    let p = judge_enter-variable classes env out x z h in
    bridge-behind env (map (marked_entry x lent) env.entries) z p.class out (length-map env.entries (marked_entry x lent))
    (ap (λ (q : Env). q.entries) p.out_is)
judge_enter-bridge classes env out x (f ∷ fs) z h =
    let p = judge_enter-field classes env out x f fs z h in
    bridge-behind env env.entries z p.class out refl (ap (λ (q : Env). q.entries) p.out_is)

pub length-lent : (x : Variable) (fs : List Name) (es : List Entry) → length (lent_entries x fs es) ≡ length es
length-lent x [] es = length-map es (marked_entry x lent)
length-lent x (f ∷ fs) es = refl

-- behind an `enter` there are the variables that were in front of it, if the block has only added some
pub left-stays : (classes : List Class) (env mid out : Env) (x : Variable) (fs : List Name) (z : Name) → Distinct env.entries →
    judge_enter classes env x fs z ≡ Ok mid → Keeps mid.entries out.entries → Stays env (left x fs (closed env out))
left-stays classes env mid out x [] z d h k =
    let p = judge_enter-variable classes env mid x z h in
    let i = judge_enter-inner classes env mid x [] z d h in
    let c = Keeps-trans (map (marked_entry x lent) env.entries) mid.entries out.entries i.keeps k in
    let e = length-lent x [] env.entries in
    let t : Keeps (map (marked_entry x lent) env.entries) (take (length env.entries) out.entries) =
    rw (← e) (Keeps-take (map (marked_entry x lent) env.entries) out.entries c) in
    let n : length (take (length env.entries) out.entries) ≡ length env.entries =
    rw (← e) (length-take-Keeps (map (marked_entry x lent) env.entries) out.entries c) in
    record {
      depth = refl;
      keeps = Keeps-left x env.entries (take (length env.entries) out.entries) p.entry p.there (ready-settled p.entry.readiness p.ready) d t;
      count = length-map (take (length env.entries) out.entries) (marked_entry x ready) ∙ n;
    }
left-stays classes env mid out x (f ∷ fs) z d h k =
    let i = judge_enter-inner classes env mid x (f ∷ fs) z d h in Stays-closed env mid out i.keeps k

mutual
  pub judge_stmt-goes : (classes : List Class) (last : Option Ty) (env out : Env) (s : Stmt) → Distinct env.entries →
      judge_stmt classes last env s ≡ Ok out →
      Goes env out
  judge_stmt-goes classes last env out (stmt line k) d h = judge_kind-goes classes last line env out k d h

  pub judge_kind-goes : (classes : List Class) (last : Option Ty) (line : ℕ) (env out : Env) (k : StmtKind) → Distinct env.entries →
      judge_kind classes last line env k ≡ Ok out → Goes env out
  judge_kind-goes classes last line env out (declare x t r) d h = judge_declare-goes classes env out x t r d (at_line-ok line _ out h)
  judge_kind-goes classes last line env out (assign p r) d h =
      Stays-goes env out d (judge_assign-stays classes env out p.base p.fields r d (at_line-ok line _ out h))
  judge_kind-goes classes last line env out (assign_element q e r) d h =
      Stays-goes env out d (judge_assign_element-stays classes env out q.base q.fields e r d (at_line-ok line _ out h))
  judge_kind-goes classes last line env out (call c) d h = Stays-goes env out d (judge_call_alone-stays classes env out c d (at_line-ok line _ out h))
  judge_kind-goes classes last line env out (swap y p) d h =
      let s = judge_swap-parts classes env out y p (at_line-ok line _ out h) in rw s.out_is (Stays-goes env env d (Stays-same env))
  judge_kind-goes classes last line env out (branch e first other) d h =
      let f = bind-ok (at_line line (judge_test classes env e)) _ out h in
      let a = bind-ok (judge_block classes None f.0 first) _ out f.2 in
      let b = bind-ok (judge_else classes f.0 other) _ out a.2 in
      let o : joined (closed f.0 a.0) (closed f.0 b.0) ≡ out = grind arith in
      let t = judge_test-stays classes env f.0 e d (at_line-ok line _ f.0 f.1) in
      let e = Stays-distinct env f.0 d t in
      let g = judge_block-goes classes None f.0 a.0 first e a.1 in
      let h = judge_else-goes classes f.0 b.0 other e b.1 in
      let c = Stays-closed f.0 f.0 a.0 (Keeps-same f.0.entries) g.keeps in
      let q = Stays-closed f.0 f.0 b.0 (Keeps-same f.0.entries) h.keeps in
      let j = Stays-joined f.0 (closed f.0 a.0) (closed f.0 b.0) c q in
      rw (← o) (Stays-goes env _ d (Stays-trans env f.0 _ t j))
  judge_kind-goes classes last line env out (while e body) d h =
      let f = bind-ok (at_line line (judge_test classes env e)) _ out h in
      let a = bind-ok (judge_block classes None f.0 body) _ out f.2 in
      let c = then-ok (at_line line (test (covers env a.0) Loop)) _ out a.2 in
      let o : env ≡ out = grind arith in rw (← o) (Stays-goes env env d (Stays-same env))
  judge_kind-goes classes last line env out (enter p z body giving) d h =
      let f = bind-ok (at_line line (judge_enter classes env p.base p.fields z)) _ out h in
      let a = bind-ok (judge_block classes None f.0 body) _ out f.2 in
      let w = then-ok (at_line line (judge_giving a.0 z giving)) _ out a.2 in
      let o : left p.base p.fields (closed env a.0) ≡ out = let q = w.2 in grind arith in
      let n = at_line-ok line (judge_enter classes env p.base p.fields z) f.0 f.1 in
      let i = judge_enter-inner classes env f.0 p.base p.fields z d n in
      let g = judge_block-goes classes None f.0 a.0 body i.distinct a.1 in
      rw (← o) (Stays-goes env _ d (left-stays classes env f.0 a.0 p.base p.fields z d n g.keeps))
  judge_kind-goes classes last line env out (print e) d h = Stays-goes env out d (judge_print-stays classes env out e d (at_line-ok line _ out h))
  judge_kind-goes classes last line env out collect d h = let o : env ≡ out = grind arith in rw (← o) (Stays-goes env env d (Stays-same env))
  judge_kind-goes classes last line env out (return e) d h = Stays-goes env out d
      (judge_return-stays classes last env out e d (at_line-ok line _ out h))

  pub judge_else-goes : (classes : List Class) (env out : Env) (other : Else) → Distinct env.entries → judge_else classes env other ≡ Ok out →
      Goes env out
  judge_else-goes classes env out no_else d h = let o : env ≡ out = grind arith in rw (← o) (Stays-goes env env d (Stays-same env))
  judge_else-goes classes env out (otherwise b) d h = judge_block-goes classes None env out b d h

  pub judge_block-goes : (classes : List Class) (result : Option Ty) (env out : Env) (b : Block) → Distinct env.entries →
      judge_block classes result env b ≡ Ok out →
      Goes env out
  judge_block-goes classes result env out none d h = let o : env ≡ out = grind arith in rw (← o) (Stays-goes env env d (Stays-same env))
  judge_block-goes classes result env out (next s b) d h =
      let m = bind-ok (judge_stmt classes (last_of result b) env s) _ out h in
      let g = judge_stmt-goes classes (last_of result b) env m.0 s d m.1 in
      Goes-trans env m.0 out g (judge_block-goes classes result m.0 out b g.distinct m.2)
