-- Blocks that were judged are those with numbers, given their names again.
use Rattle.std.proofs.Common.{◌≡◌, refl, sym, ap, ◌∙◌, subst, ℕ, ◌+◌, Bool as Truth, List, [], ◌∷◌, ◌++◌, length, Option, Some}
use Rattle.std.proofs.Common.{None, option_map, ok_or, Ok, arith}
use Rattle.std.proofs.lemmas.List.{length-append}
use Rattle.rg_base.specs.declared.ty.Ty.{Ty}
use Rattle.rg_base.specs.declared.ty.Ty.TheVariants.{Int, Bool}
use Rattle.rg_base.specs.declared.fault.Code.TheVariants.{Unknown, Return}
use Rattle.rg_tree.specs.Tree as tree
use Rattle.rg_tree.specs.Tree.{Name, Variable, Path, Expr, Right, stmt, StmtKind, declare, assign, assign_element, call, swap, branch, while, enter}
use Rattle.rg_tree.specs.Tree.{print, collect, return, Else, no_else, otherwise, Block, empty, then as next, Class}
use Rattle.rg_rules.specs.Answers.{at_line}
use Rattle.rg_rules.specs.Types.{type_of}
use Rattle.rg_rules.specs.Environment.{Env, entry_of}
use Rattle.rg_rules.specs.Paths.{all_but_last, last_field}
use Rattle.rg_rules.specs.Expressions.{judge_expr}
use Rattle.rg_rules.specs.Rights.{judge_call}
use Rattle.rg_rules.specs.Statements.{judge_assign, judge_assign_element, judge_test, judge_enter, judge_giving, judge_kind, judge_else, judge_block}
use Rattle.rg_rules.specs.Statements.{swapped_field, last_of}
use Rattle.rg_rules.proofs.Answers.{bind-ok, then-ok, ok_or-ok, at_line-ok}
use Rattle.rg_sound.proofs.Frames.JudgeRight.{judge_expr-stays}
use Rattle.rg_sound.proofs.Frames.Judge.{judge_declare-parts, judge_assign-parts, judge_assign-field, judge_assign-element, judge_swap-parts}
use Rattle.rg_sound.proofs.Frames.Judge.{judge_test-stays}
use Rattle.rg_code.specs.Lowering.{Slot, Scope, slot_of, type_in, type_along, type_behind, class_of}
use Rattle.rg_code.specs.Lowering.{field_number, held_number, scope_behind, scope_inside}
use Rattle.rg_code.specs.Lowering.{scope_at_end}
use Rattle.rg_verify_expressions.specs.Naming.{variable_name, written}
use Rattle.rg_verify_expressions.specs.Raised.{path_named, named, IsPathFound}
use Rattle.rg_verify_expressions.specs.Statements as numbers
use Rattle.rg_verify_expressions.specs.Found as found
use Rattle.rg_verify_expressions.specs.Found.{right_named, kind_named, else_named, block_named, IsEntryFound, IsGivingFound}
use Rattle.rg_verify_expressions.specs.Found.{IsKindFound, IsElseFound, IsBlockFound}
use Rattle.rg_numbered.specs.Numbered.{field_numbers, path_numbers, numbered, numbered_right, numbered_assign, numbered_swap, bridge_class}
use Rattle.rg_numbered.specs.Numbered.{numbered_enter, giving_slot, numbered_kind, numbered_else, numbered_block}
use Rattle.rg_numbered.specs.ModuleNames.{slots_behind, HasSlotNames, HasElseSlotNames, HaveSlotNames}
use Rattle.rg_numbered.proofs.Classes.{ClassesNamed, good-written}
use Rattle.rg_numbered.proofs.Scopes.{ok-is, IsScoped, scoped-variable, scoped-stays, PathKnown, writable, path-again, path-found}
use Rattle.rg_numbered.proofs.Expressions.{IsExprNumbered, again, alone, array-walked, expr-numbered, call-numbered, right-numbered}
use Rattle.rg_numbered.proofs.Behind.{inside-scoped, behind-scoped}

abbrev IsKindNumbered : List Class → Scope → Truth → StmtKind → Type 0
IsKindNumbered cs ss m k = (kind_named m (length ss) (numbered_kind cs ss k) ≡ k) × IsKindFound cs ss m (numbered_kind cs ss k)

abbrev IsElseNumbered : List Class → Scope → Truth → Else → Type 0
IsElseNumbered cs ss m o = (else_named m (length ss) (numbered_else cs ss o) ≡ o) × IsElseFound cs ss m (numbered_else cs ss o)

-- a block, with the scope at its end
pub record BlockNumbered (cs : List Class) (ss : Scope) (m : Truth) (out : Env) (b : Block) : Type 0 where
  pub named : block_named m (length ss) (numbered_block cs ss b) ≡ b
  pub found : IsBlockFound cs ss m (numbered_block cs ss b)
  pub scoped : IsScoped m out (scope_at_end cs ss b)

-- Counts of slots

more-count : (ss : Scope) (s : Slot) → length (ss ++ s ∷ []) ≡ length ss + 1
more-count ss s = length-append ss (s ∷ [])

pub behind-count : (cs : List Class) (ss : Scope) (k : StmtKind) → length (scope_behind cs ss k) ≡ slots_behind (length ss) k
behind-count cs ss (declare x t r) = more-count ss _
behind-count cs ss (assign p r) = refl
behind-count cs ss (assign_element q e r) = refl
behind-count cs ss (call c) = refl
behind-count cs ss (swap y p) = refl
behind-count cs ss (branch e b other) = refl
behind-count cs ss (while e b) = refl
behind-count cs ss (enter p z b giving) = refl
behind-count cs ss (print e) = refl
behind-count cs ss collect = refl
behind-count cs ss (return e) = refl

assign-count : (cs : List Class) (ss : Scope) (n : ℕ) (x : Variable) (fs : List Name) (r : numbers.Right) →
    found.slots_behind n (numbered_assign cs ss x fs r) ≡ n
assign-count cs ss n x [] r = refl
assign-count cs ss n x (f ∷ fs) r = refl

swap-count : (cs : List Class) (ss : Scope) (n y : ℕ) (x : Variable) (fs : List Name) → found.slots_behind n (numbered_swap cs ss y x fs) ≡ n
swap-count cs ss n y x [] = refl
swap-count cs ss n y x (f ∷ fs) = refl

enter-count : (cs : List Class) (ss : Scope) (n : ℕ) (x : Variable) (fs : List Name) (b : numbers.Block) (w : Option ℕ) →
    found.slots_behind n (numbered_enter cs ss x fs b w) ≡ n
enter-count cs ss n x [] b w = refl
enter-count cs ss n x (f ∷ fs) b w = refl

numbers-count : (cs : List Class) (ss : Scope) (n : ℕ) (k : StmtKind) → found.slots_behind n (numbered_kind cs ss k) ≡ slots_behind n k
numbers-count cs ss n (declare x t r) = refl
numbers-count cs ss n (assign p r) = assign-count cs ss n p.base p.fields (numbered_right cs ss r)
numbers-count cs ss n (assign_element q e r) = refl
numbers-count cs ss n (call c) = refl
numbers-count cs ss n (swap y p) = swap-count cs ss n (slot_of ss (Some y)) p.base p.fields
numbers-count cs ss n (branch e b other) = refl
numbers-count cs ss n (while e b) = refl
numbers-count cs ss n (enter p z b giving) = enter-count cs ss n p.base p.fields _ _
numbers-count cs ss n (print e) = refl
numbers-count cs ss n collect = refl
numbers-count cs ss n (return e) = refl

-- Paths up to a last field

split-numbers : (cs : List Class) (t : Ty) (f : Name) (fs : List Name) →
    field_numbers cs t (all_but_last f fs) ++ field_number cs (type_along cs t (all_but_last f fs)) (last_field f fs) ∷ []
    ≡ field_numbers cs t (f ∷ fs)
split-numbers cs t f [] = refl
split-numbers cs t f (g ∷ gs) = ap (λ (ks : List ℕ). field_number cs t f ∷ ks) (split-numbers cs (type_behind cs t f) g gs)

-- a path that is itself again by these numbers, and is found by them
abbrev IsPathBy : List Class → Scope → Truth → Variable → List Name → List ℕ → Type 0
IsPathBy cs ss m x fs ks = (path_named m (slot_of ss x) ks ≡ record { base = x; fields = fs }) × IsPathFound cs ss m (slot_of ss x) ks

whole-path : (cs : List Class) (ss : Scope) (m : Truth) (x : Variable) (fs : List Name) → PathKnown cs ss m x fs →
    IsPathBy cs ss m x fs (path_numbers cs ss x fs)
whole-path cs ss m x fs h = (path-again cs ss m x fs h, path-found cs ss m x fs h)

last-path : (cs : List Class) (ss : Scope) (m : Truth) (x : Variable) (f : Name) (fs : List Name) → PathKnown cs ss m x (f ∷ fs) →
    IsPathBy cs ss m x (f ∷ fs) (path_numbers cs ss x (all_but_last f fs) ++ held_number cs ss x f fs ∷ [])
last-path cs ss m x f fs h =
    subst (IsPathBy cs ss m x (f ∷ fs)) (sym (split-numbers cs (type_in ss x) f fs)) (whole-path cs ss m x (f ∷ fs) h)

-- Windows

-- the variable that gives a bridge
abbrev IsGivingNumbered : Scope → Option Name → Type 0
IsGivingNumbered ss w = (option_map variable_name (giving_slot ss w) ≡ w) × IsGivingFound ss (giving_slot ss w)

giving-numbered : (m : Truth) (env : Env) (ss : Scope) (z : Name) (w : Option Name) (u : Unit {0}) → IsScoped m env ss → judge_giving env z w ≡ Ok u →
    IsGivingNumbered ss w
giving-numbered m env ss z None u s h = (refl, tt)
giving-numbered m env ss z (Some w) u s h =
    let e = bind-ok (ok_or (entry_of env (Some w)) Unknown) _ u h in
    let a = alone m ss w (scoped-variable m env ss (Some w) e.0 s (ok_or-ok (entry_of env (Some w)) Unknown e.0 e.1)) in
    (ap (λ (x : Name). Some x) a.0, a.1)

module _ (cs : List Class) (m : Truth) (ss : Scope) (x : Variable) (fs : List Name) (z : Name) (b : Block) (w : Option Name) where
  abbrev inside : Scope
  inside = scope_inside cs ss (record { base = x; fields = fs }) z

  -- what is entered by a path of these numbers, in a scope
  record EnteredIn (ks : List ℕ) (I : Scope) : Type 0 where
    block : IsBlockFound cs I m (numbered_block cs inside b)
    giving : IsGivingFound (scope_at_end cs I (block_named m (length I) (numbered_block cs inside b))) (giving_slot (scope_at_end cs inside b) w)

  record Entered (ks : List ℕ) : Type 0 where
    named : tree.enter (path_named m (slot_of ss x) ks) (variable_name (length ss)) (block_named m (length ss + 1) (numbered_block cs inside b))
        (option_map variable_name (giving_slot (scope_at_end cs inside b) w)) ≡ tree.enter (record { base = x; fields = fs }) z b w
    entry : IsEntryFound cs ss m (slot_of ss x) ks (bridge_class cs ss x fs)
    inner : EnteredIn ks (scope_inside cs ss (path_named m (slot_of ss x) ks) (variable_name (length ss)))

  entered : (ks : List ℕ) → IsPathBy cs ss m x fs ks → z ≡ variable_name (length ss) →
      block_named m (length inside) (numbered_block cs inside b) ≡ b → IsBlockFound cs inside m (numbered_block cs inside b) →
      IsGivingNumbered (scope_at_end cs inside b) w → Entered ks
  entered ks p e n h g =
      let inner = numbered_block cs inside b in
      let given = giving_slot (scope_at_end cs inside b) w in
      let path : Path = record { base = x; fields = fs } in
      let same : inside ≡ scope_inside cs ss (path_named m (slot_of ss x) ks) (variable_name (length ss)) =
      ap (scope_inside cs ss path) e ∙ sym (ap (λ (q : Path). scope_inside cs ss q (variable_name (length ss))) p.0) in
      let block : block_named m (length ss + 1) inner ≡ b = ap (λ (k : ℕ). block_named m k inner) (sym (more-count ss _)) ∙ n in
      record {
        named = ap (λ (q : Path). tree.enter q (variable_name (length ss)) (block_named m (length ss + 1) inner) (option_map variable_name given)) p.0
            ∙ ap (λ (y : Name). tree.enter path y (block_named m (length ss + 1) inner) (option_map variable_name given)) (sym e)
            ∙ ap (λ (c : Block). tree.enter path z c (option_map variable_name given)) block ∙ ap (tree.enter path z b) g.0;
        entry = record { path = p.1; class = ap (λ (q : Path). class_of cs (type_along cs (type_in ss q.base) q.fields)) p.0 };
        inner = subst (EnteredIn ks) same
            (record { block = h; giving = subst (λ (c : Block). IsGivingFound (scope_at_end cs inside c) given) (sym n) g.1 });
      }

enter-numbered : (cs : List Class) (m : Truth) (ss : Scope) (x : Variable) (fs : List Name) (z : Name) (b : Block) (w : Option Name) →
    PathKnown cs ss m x fs → z ≡ variable_name (length ss) →
    block_named m (length (inside cs m ss x fs z b w)) (numbered_block cs (inside cs m ss x fs z b w) b) ≡ b →
    IsBlockFound cs (inside cs m ss x fs z b w) m (numbered_block cs (inside cs m ss x fs z b w) b) →
    IsGivingNumbered (scope_at_end cs (inside cs m ss x fs z b w) b) w →
    IsKindNumbered cs ss m (tree.enter (record { base = x; fields = fs }) z b w)
enter-numbered cs m ss x [] z b w p e n h g =
    let r = entered cs m ss x [] z b w [] (whole-path cs ss m x [] p) e n h g in (r.named, (r.entry, r.inner.block, r.inner.giving))
enter-numbered cs m ss x (f ∷ fs) z b w p e n h g =
    let ks = path_numbers cs ss x (all_but_last f fs) ++ held_number cs ss x f fs ∷ [] in
    let r = entered cs m ss x (f ∷ fs) z b w ks (last-path cs ss m x f fs p) e n h g in (r.named, (r.entry, r.inner.block, r.inner.giving))

module _ (cs : List Class) (names : ClassesNamed cs) (m : Truth) where
  module _ (env : Env) (ss : Scope) (s : IsScoped m env ss) where
    assign-numbered : (out : Env) (x : Variable) (fs : List Name) (r : Right) → judge_assign cs env x fs r ≡ Ok out →
        IsKindNumbered cs ss m (tree.assign (record { base = x; fields = fs }) r)
    assign-numbered out x [] r h =
        let p = judge_assign-parts cs env out x r h in
        let k = whole-path cs ss m x [] (record { base = scoped-variable m env ss x p.entry s p.there; fields = tt }) in
        let v = right-numbered cs names m env ss s p.entry.ty r p.judged p.typed in (
          ap (λ (q : Path). tree.assign q (right_named m (numbered_right cs ss r))) k.0 ∙ ap (tree.assign (record { base = x; fields = [] })) v.0,
          (k.1, v.1),
        )
    assign-numbered out x (f ∷ fs) r h =
        let p = judge_assign-field cs env out x f fs r h in
        let k = last-path cs ss m x f fs (writable cs names m env ss s x f fs p.ty p.writable).0 in
        let v = right-numbered cs names m env ss s p.ty r p.judged p.typed in (
          ap (λ (q : Path). tree.assign q (right_named m (numbered_right cs ss r))) k.0 ∙ ap (tree.assign (record { base = x; fields = f ∷ fs })) v.0,
          (k.1, v.1),
        )

    element-numbered : (out : Env) (q : Path) (e : Expr) (r : Right) → judge_assign_element cs env q.base q.fields e r ≡ Ok out →
        IsKindNumbered cs ss m (assign_element q e r)
    element-numbered out q e r h =
        let p = judge_assign-element cs env out q.base q.fields e r h in
        let k = array-walked cs names m env ss s q.base q.fields p.array p.walked in
        let i = expr-numbered cs names m env ss (Some Int) e p.index s p.index_typed in
        let mid = scoped-stays m env p.index.env ss s (judge_expr-stays cs env (Some Int) e p.index s.distinct p.index_typed) in
        let v = right-numbered cs names m p.index.env ss mid p.array.ty r p.judged p.typed in (
          ap (λ (y : Path). tree.assign_element y (named m (numbered cs ss e)) (right_named m (numbered_right cs ss r))) (again cs ss m q k)
              ∙ ap (λ (y : Expr). tree.assign_element q y (right_named m (numbered_right cs ss r))) i.0
              ∙ ap (tree.assign_element q e) v.0,
          (path-found cs ss m q.base q.fields k, i.1, v.1),
        )

    swap-path : (y : Name) (x : Variable) (fs : List Name) (t : Ty) → swapped_field cs env x fs ≡ Ok t →
        variable_name (slot_of ss (Some y)) ≡ y → found.IsSlotFound ss (slot_of ss (Some y)) →
        IsKindNumbered cs ss m (tree.swap y (record { base = x; fields = fs }))
    swap-path y x [] t h e g = grind arith
    swap-path y x (f ∷ fs) t h e g =
        let k = last-path cs ss m x f fs (writable cs names m env ss s x f fs t h).0 in
        (ap (tree.swap (variable_name (slot_of ss (Some y)))) k.0 ∙ ap (λ (z : Name). tree.swap z (record { base = x; fields = f ∷ fs })) e, (g, k.1))

    test-numbered : (out : Env) (e : Expr) → judge_test cs env e ≡ Ok out → IsExprNumbered cs ss m e
    test-numbered out e h =
        let j = bind-ok (judge_expr cs env (Some Bool) e) _ out h in expr-numbered cs names m env ss (Some Bool) e j.0 s j.1

  mutual
    kind-numbered : (last : Option Ty) (line : ℕ) (env out : Env) (ss : Scope) (k : StmtKind) → IsScoped m env ss → HasSlotNames (length ss) k →
        judge_kind cs last line env k ≡ Ok out → IsKindNumbered cs ss m k
    kind-numbered last line env out ss (declare x t r) s e h =
        let p = judge_declare-parts cs env out x t r (at_line-ok line _ out h) in
        let w = good-written cs t p.declared names p.good in
        let v = right-numbered cs names m env ss s p.declared r p.judged p.typed in (
          ap (λ (y : Name). tree.declare y (written (type_of cs t)) (right_named m (numbered_right cs ss r))) (sym e)
              ∙ ap (λ (y : tree.Ty). tree.declare x y (right_named m (numbered_right cs ss r))) w
              ∙ ap (tree.declare x t) v.0,
          (ap (type_of cs) w, v.1),
        )
    kind-numbered last line env out ss (assign p r) s e h = assign-numbered env ss s out p.base p.fields r (at_line-ok line _ out h)
    kind-numbered last line env out ss (assign_element q i r) s e h = element-numbered env ss s out q i r (at_line-ok line _ out h)
    kind-numbered last line env out ss (call c) s e h =
        let p = bind-ok (judge_call cs env c) _ out (at_line-ok line _ out h) in
        let r = call-numbered cs names m env ss s c p.0 p.1 in (ap tree.call r.0, r.1)
    kind-numbered last line env out ss (swap y p) s e h =
        let q = judge_swap-parts cs env out y p (at_line-ok line _ out h) in
        let a = alone m ss y (scoped-variable m env ss (Some y) q.entry s q.there) in
        swap-path env ss s y p.base p.fields q.ty q.field a.0 a.1
    kind-numbered last line env out ss (branch i b other) s e h =
        let f = bind-ok (at_line line (judge_test cs env i)) _ out h in
        let a = bind-ok (judge_block cs None f.0 b) _ out f.2 in
        let c = bind-ok (judge_else cs f.0 other) _ out a.2 in
        let t = at_line-ok line (judge_test cs env i) f.0 f.1 in
        let mid = scoped-stays m env f.0 ss s (judge_test-stays cs env f.0 i s.distinct t) in
        let x = test-numbered env ss s f.0 i t in
        let y = block-numbered None f.0 a.0 ss b mid e.0 a.1 in
        let z = else-numbered f.0 c.0 ss other mid e.1 c.1 in (
          ap (λ (q : Expr). tree.branch q (block_named m (length ss) (numbered_block cs ss b)) (else_named m (length ss)
              (numbered_else cs ss other))) x.0
              ∙ ap (λ (q : Block). tree.branch i q (else_named m (length ss) (numbered_else cs ss other))) y.named
              ∙ ap (tree.branch i b) z.0,
          (x.1, y.found, z.1),
        )
    kind-numbered last line env out ss (while i b) s e h =
        let f = bind-ok (at_line line (judge_test cs env i)) _ out h in
        let a = bind-ok (judge_block cs None f.0 b) _ out f.2 in
        let t = at_line-ok line (judge_test cs env i) f.0 f.1 in
        let mid = scoped-stays m env f.0 ss s (judge_test-stays cs env f.0 i s.distinct t) in
        let x = test-numbered env ss s f.0 i t in
        let y = block-numbered None f.0 a.0 ss b mid e a.1 in
        (ap (λ (q : Expr). tree.while q (block_named m (length ss) (numbered_block cs ss b))) x.0 ∙ ap (tree.while i) y.named, (x.1, y.found))
    kind-numbered last line env out ss (enter p z b giving) s e h =
        let f = bind-ok (at_line line (judge_enter cs env p.base p.fields z)) _ out h in
        let a = bind-ok (judge_block cs None f.0 b) _ out f.2 in
        let w = then-ok (at_line line (judge_giving a.0 z giving)) _ out a.2 in
        let i = inside-scoped cs names m env f.0 ss s p.base p.fields z e.0 (at_line-ok line (judge_enter cs env p.base p.fields z) f.0 f.1) in
        let y = block-numbered None f.0 a.0 (scope_inside cs ss p z) b i.1
        (subst (λ (n : ℕ). HaveSlotNames n b) (sym (more-count ss _)) e.1) a.1 in
        let g = giving-numbered m a.0 (scope_at_end cs (scope_inside cs ss p z) b) z giving w.0 y.scoped
        (at_line-ok line (judge_giving a.0 z giving) w.0 w.1) in
        enter-numbered cs m ss p.base p.fields z b giving i.0 e.0 y.named y.found g
    kind-numbered last line env out ss (print i) s e h =
        let j = bind-ok (judge_expr cs env None i) _ out (at_line-ok line _ out h) in
        let r = expr-numbered cs names m env ss None i j.0 s j.1 in (ap tree.print r.0, r.1)
    kind-numbered last line env out ss collect s e h = (refl, tt)
    kind-numbered last line env out ss (return i) s e h =
        let t = bind-ok (ok_or last Return) _ out (at_line-ok line _ out h) in
        let j = bind-ok (judge_expr cs env (Some t.0) i) _ out t.2 in
        let r = expr-numbered cs names m env ss (Some t.0) i j.0 s j.1 in (ap tree.return r.0, r.1)

    else-numbered : (env out : Env) (ss : Scope) (o : Else) → IsScoped m env ss → HasElseSlotNames (length ss) o → judge_else cs env o ≡ Ok out →
        IsElseNumbered cs ss m o
    else-numbered env out ss no_else s e h = (refl, tt)
    else-numbered env out ss (otherwise b) s e h = let y = block-numbered None env out ss b s e h in (ap tree.otherwise y.named, y.found)

    pub block-numbered : (result : Option Ty) (env out : Env) (ss : Scope) (b : Block) → IsScoped m env ss → HaveSlotNames (length ss) b →
        judge_block cs result env b ≡ Ok out → BlockNumbered cs ss m out b
    block-numbered result env out ss empty s e h = record { named = refl; found = tt; scoped = subst (λ (o : Env). IsScoped m o ss) (ok-is h) s }
    block-numbered result env out ss (next (stmt line k) b) s e h =
        let j = bind-ok (judge_kind cs (last_of result b) line env k) _ out h in
        let first = kind-numbered (last_of result b) line env j.0 ss k s e.0 j.1 in
        let behind = scope_behind cs ss k in
        let mid = behind-scoped cs names m env j.0 ss s (last_of result b) line k e.0 j.1 in
        let rest = block-numbered result j.0 out behind b mid (subst (λ (n : ℕ). HaveSlotNames n b) (sym (behind-count cs ss k)) e.1) j.2 in
        let count = numbers-count cs ss (length ss) k ∙ sym (behind-count cs ss k) in
        let inner = numbered_block cs behind b in
        record {
          named = ap (λ (q : StmtKind). next (stmt line q) (block_named m (found.slots_behind (length ss) (numbered_kind cs ss k)) inner)) first.0
              ∙ ap (λ (n : ℕ). next (stmt line k) (block_named m n inner)) count ∙ ap (next (stmt line k)) rest.named;
          found = (first.1, subst (λ (q : StmtKind). IsBlockFound cs (scope_behind cs ss q) m inner) (sym first.0) rest.found);
          scoped = rest.scoped;
        }
