-- Blocks with numbers of what was judged fit where their maps stand.
use Rattle.std.proofs.Common.{◌≡◌, refl, sym, ap, ◌∙◌, subst, ℕ, suc, ◌+◌, ◌<◌, Bool as Truth, true}
use Rattle.std.proofs.Common.{false, if◌then◌else◌, List, [], ◌∷◌, ◌++◌, length}
use Rattle.std.proofs.Common.{find, Option, Some, None, option_map, slice_get, ok_or, Ok, append_assoc, length-append, arith}
use Rattle.std.proofs.lemmas.Bool.{false≢true}
use Rattle.std.proofs.lemmas.List.{append-nil, length-map}
use Rattle.rg_base.specs.declared.ty.Ty.{Ty}
use Rattle.rg_base.specs.declared.fault.Code.TheVariants.{Unknown}
use Rattle.rg_tree.specs.Tree.{Name, Variable, Call, Right, value, new, new_tmp, new_iso, freeze, merge}
use Rattle.rg_tree.specs.Tree.{read, more, result_of, stmt, StmtKind, declare}
use Rattle.rg_tree.specs.Tree.{assign, assign_element, call, swap, branch, while, enter, print, collect, return}
use Rattle.rg_tree.specs.Tree.{Expr, Else, no_else, otherwise, Block}
use Rattle.rg_tree.specs.Tree.{empty, then as next, Ty as Written, Method, Class}
use Rattle.rg_rules.specs.Answers.{at_line}
use Rattle.rg_rules.specs.Types.{type_of, methods_of, method_named, method_result}
use Rattle.rg_rules.specs.Environment.{Env, Entry, same_variable, empty as no_variables}
use Rattle.rg_rules.specs.Paths.{all_but_last, walk, follow}
use Rattle.rg_rules.specs.Expressions.{Judged}
use Rattle.rg_rules.specs.Rights.{Called, judge_call, judge_right}
use Rattle.rg_rules.specs.Statements.{judge_assign, judge_test, judge_enter, judge_kind, judge_else, judge_block, last_of}
use Rattle.rg_rules.specs.Bodies.{is_return, ends_in_return, gives_result, method_env}
use Rattle.rg_rules.proofs.Answers.{bind-ok, ok_or-ok, at_line-ok}
use Rattle.rg_rules.proofs.Acceptance.{Accepted-parts, Accepted-method}
use Rattle.rg_rules.proofs.Path.{follow-ok}
use Rattle.rg_sound.proofs.Frames.JudgeRight.{judge_expr-stays}
use Rattle.rg_sound.proofs.Frames.Judge.{judge_declare-parts, judge_assign-parts, judge_assign-field, judge_assign-element, judge_test-stays}
use Rattle.rg_code.specs.declared.op.Op.{Op}
use Rattle.rg_code.specs.declared.op.Op.TheVariants as i
use Rattle.rg_code.specs.Lowering.{Slot, Scope, slot_of, type_in, type_along, method_place, number_called, target_class, call_result, held_number}
use Rattle.rg_code.specs.Lowering.{scope_behind, scope_inside, scope_at_end, method_scope}
use Rattle.rg_build.specs.Maps.{is_end_marked}
use Rattle.rg_build.specs.ModuleOf.{laid}
use Rattle.rg_verify_expressions.specs.declared.callee.Callee.{Callee}
use Rattle.rg_verify_expressions.specs.Raised.{path_ops}
use Rattle.rg_verify_expressions.specs.Statements as numbers
use Rattle.rg_verify_expressions.specs.Statements.{types_behind, types_inside, whole_ops, leave_op, else_gap, kind_ops, else_ops, block_ops}
use Rattle.rg_verify_expressions.specs.Found.{types_of}
use Rattle.rg_verify_expressions.specs.Blocks.{Given, is_last}
use Rattle.rg_verify_expressions.specs.Standing.{IsCallee, IsRightFit, IsKindFit, IsElseFit, IsBlockFit}
use Rattle.rg_numbered.specs.Numbered.{path_numbers, numbered, numbered_call, numbered_right, numbered_assign, numbered_swap, bridge_class}
use Rattle.rg_numbered.specs.Numbered.{numbered_enter, giving_slot, numbered_kind, numbered_else, numbered_block}
use Rattle.rg_numbered.specs.ModuleNames.{HasSlotNames, HasElseSlotNames, HaveSlotNames}
use Rattle.rg_numbered.proofs.Classes.{none-some, ClassesNamed, class_is}
use Rattle.rg_numbered.proofs.Scopes.{Matches, class_of-is, IsScoped, scoped-stays, walked}
use Rattle.rg_numbered.proofs.Behind.{inside-scoped, behind-scoped}
use Rattle.rg_numbered.proofs.Statements.{behind-count}
use Rattle.rg_numbered.proofs.Bodies.{names-of, main-scoped, method-scoped}
use Rattle.rg_fitted.specs.Laws.{AreMethodsOf, end_mark, FitsThere, AcceptedAreFit}
use Rattle.rg_fitted.proofs.Laid.{Laid, skip, here, mapped, inside_laid}
use Rattle.rg_fitted.proofs.Maps.{inner_types, else_types, block_types, inside-types, behind-types, same-maps}
use Rattle.rg_fitted.proofs.Marks.{marks-then, none-then, path-none, whole-none, kind-marks, block-marks}

-- Slots

slot-below : (es : List Entry) (ss : Scope) (x : Variable) (o : Entry) → Matches es ss →
    find (λ (e : Entry). same_variable e.name x) es ≡ Some o → slot_of ss x < length ss
slot-below [] ss x o h g = absurd (none-some g)
slot-below (e ∷ es) [] x o h g = absurd h
slot-below (e ∷ es) (s ∷ ss) x o h g =
    subst (λ (n : Variable). (if same_variable n x then 0 else suc (slot_of ss x)) < suc (length ss)) (sym h.0)
    (by (same_variable e.name x) (λ r. slot-below es ss x o h.2 r) g)
  where
    by : (b : Truth) → (find (λ (q : Entry). same_variable q.name x) es ≡ Some o → slot_of ss x < length ss) →
        (if b then Some e else find (λ (q : Entry). same_variable q.name x) es) ≡ Some o → (if b then 0 else suc (slot_of ss x)) < suc (length ss)
    by true r g = omega arith
    by false r g = let l = r g in omega (arith, l)

not-next : (ss : Scope) (n : ℕ) → n < length ss → n ≡ length (types_of ss) → ⊥
not-next ss n l e = let m = length-map ss (λ (s : Slot). s.ty) in omega (arith, l, e, m)

-- The ends of blocks

-- a mark stands at the end, or the last statement is a `return`, or nothing is there
abbrev Closed : (marked : Truth) → Block → Type 0
Closed true b = Unit {0}
Closed false empty = Unit {0}
Closed false (next s b) = ends_in_return (next s b) ≡ true

closed-behind : (marked : Truth) (line : ℕ) (k : StmtKind) (b : Block) → Closed marked (next (stmt line k) b) → Closed marked b
closed-behind true line k b h = tt
closed-behind false line k empty h = tt
closed-behind false line k (next (stmt l o) b) h = h

closed-method : (r : Option Written) (b : Block) → gives_result r b ≡ true → Closed (is_end_marked r) b
closed-method None b h = tt
closed-method (Some t) empty h = tt
closed-method (Some t) (next s b) h = h

-- a block begins with a mark
abbrev HasMark : (marked : Truth) → Block → Type 0
HasMark marked (next s b) = Unit {0}
HasMark true empty = Unit {0}
HasMark false empty = ⊥

marked-has : (b : Block) → HasMark true b
marked-has empty = tt
marked-has (next s b) = tt

abbrev is_declare : StmtKind → Truth
is_declare (declare x t r) = true
is_declare (assign p r) = false
is_declare (assign_element q e r) = false
is_declare (call c) = false
is_declare (swap y p) = false
is_declare (branch e b other) = false
is_declare (while e b) = false
is_declare (enter p z b giving) = false
is_declare (print e) = false
is_declare collect = false
is_declare (return e) = false

declare-goes : (k : StmtKind) → is_declare k ≡ true → is_return k ≡ false
declare-goes (declare x t r) h = refl
declare-goes (assign p r) h = refl
declare-goes (assign_element q e r) h = refl
declare-goes (call c) h = refl
declare-goes (swap y p) h = refl
declare-goes (branch e b other) h = refl
declare-goes (while e b) h = refl
declare-goes (enter p z b giving) h = refl
declare-goes (print e) h = refl
declare-goes collect h = refl
declare-goes (return e) h = absurd (false≢true h)

closed-declare : (marked : Truth) (line : ℕ) (k : StmtKind) (b : Block) → is_declare k ≡ true → Closed marked (next (stmt line k) b) →
    HasMark marked b
closed-declare marked line k (next s b) e h = tt
closed-declare true line k empty e h = tt
closed-declare false line k empty e h = absurd (false≢true (sym (declare-goes k e) ∙ h))

kind-begins : (types : List Ty) (at line : ℕ) (k : numbers.Kind) → (os : List Op) × (kind_ops types at line k ≡ i.Mark line ∷ os)
kind-begins types at line (numbers.declare t r) = (_, refl)
kind-begins types at line (numbers.assign s r) = (_, refl)
kind-begins types at line (numbers.write s ks k r) = (_, refl)
kind-begins types at line (numbers.write_element s ks e r) = (_, refl)
kind-begins types at line (numbers.call c) = (_, refl)
kind-begins types at line (numbers.swap y s ks k) = (_, refl)
kind-begins types at line (numbers.branch e b other) = (_, refl)
kind-begins types at line (numbers.while e b) = (_, refl)
kind-begins types at line (numbers.enter s c b w) = (_, refl)
kind-begins types at line (numbers.enter_field s ks k c b w) = (_, refl)
kind-begins types at line (numbers.print e) = (_, refl)
kind-begins types at line numbers.collect = (_, refl)
kind-begins types at line (numbers.return e) = (_, refl)

-- the map in front of a block
first-map : (cs : List Class) (ss : Scope) (marked : Truth) (b : Block) → HasMark marked b → (maps : List (List Ty)) (at line : ℕ) (rest : List Op)
    (ms : List (List Ty)) →
    Laid maps at (block_ops (types_of ss) at (numbered_block cs ss b) ++ (end_mark marked line ++ rest))
    (block_types marked (types_of ss) (numbered_block cs ss b) ++ ms) → slice_get maps at ≡ Some (types_of ss)
first-map cs ss true empty m maps at line rest ms h = here maps at line rest (types_of ss) ms h
first-map cs ss false empty m maps at line rest ms h = absurd m
first-map cs ss marked (next (stmt l k) b) m maps at line rest ms h =
    let types = types_of ss in
    let kind = numbered_kind cs ss k in
    let inner = numbered_block cs (scope_behind cs ss k) b in
    let others = block_ops (types_behind types kind) (at + length (kind_ops types at l kind)) inner in
    let behind = end_mark marked line ++ rest in
    let maps_behind = (inner_types types kind ++ block_types marked (types_behind types kind) inner) ++ ms in
    let p = kind-begins types at l kind in
    here maps at l ((p.0 ++ others) ++ behind) types maps_behind (h ∙ ap (λ (q : List Op). laid ((q ++ others) ++ behind) (types ∷ maps_behind)) p.1)

-- nothing stands behind a `return`
no-return : {B : Type 0} (cs : List Class) (line : ℕ) (env out : Env) (e : Expr) → judge_kind cs None line env (return e) ≡ Ok out → B
no-return cs line env out e h = grind arith

assign-last : (cs : List Class) (ss : Scope) (x : Variable) (fs : List Name) (r : numbers.Right) → is_last (numbered_assign cs ss x fs r) ≡ false
assign-last cs ss x [] r = refl
assign-last cs ss x (f ∷ fs) r = refl

swap-last : (cs : List Class) (ss : Scope) (y : ℕ) (x : Variable) (fs : List Name) → is_last (numbered_swap cs ss y x fs) ≡ false
swap-last cs ss y x [] = refl
swap-last cs ss y x (f ∷ fs) = refl

enter-last : (cs : List Class) (ss : Scope) (x : Variable) (fs : List Name) (b : numbers.Block) (w : Option ℕ) →
    is_last (numbered_enter cs ss x fs b w) ≡ false
enter-last cs ss x [] b w = refl
enter-last cs ss x (f ∷ fs) b w = refl

last-block : (cs : List Class) (ss : Scope) (result : Option Ty) (line : ℕ) (env out : Env) (k : StmtKind) (b : Block) →
    judge_kind cs (last_of result b) line env k ≡ Ok out → is_last (numbered_kind cs ss k) ≡ true →
    numbered_block cs (scope_behind cs ss k) b ≡ numbers.empty
last-block cs ss result line env out (declare x t r) b h e = absurd (false≢true e)
last-block cs ss result line env out (assign p r) b h e =
    absurd (false≢true (sym (assign-last cs ss p.base p.fields (numbered_right cs ss r)) ∙ e))
last-block cs ss result line env out (assign_element q n r) b h e = absurd (false≢true e)
last-block cs ss result line env out (call c) b h e = absurd (false≢true e)
last-block cs ss result line env out (swap y p) b h e = absurd (false≢true (sym (swap-last cs ss _ p.base p.fields) ∙ e))
last-block cs ss result line env out (branch n c other) b h e = absurd (false≢true e)
last-block cs ss result line env out (while n c) b h e = absurd (false≢true e)
last-block cs ss result line env out (enter p z c giving) b h e = absurd (false≢true (sym (enter-last cs ss p.base p.fields _ _) ∙ e))
last-block cs ss result line env out (print n) b h e = absurd (false≢true e)
last-block cs ss result line env out collect b h e = absurd (false≢true e)
last-block cs ss result line env out (return n) empty h e = refl
last-block cs ss result line env out (return n) (next s b) h e = no-return cs line env out n h

module _ (cs : List Class) (names : ClassesNamed cs) (m : Truth) (g : Given) (methods : AreMethodsOf cs g.methods) where
  module _ (env : Env) (ss : Scope) (s : IsScoped m env ss) where
    call-fit : (c : Call) (j : Called) → judge_call cs env c ≡ Ok j → IsCallee g.methods (numbered_call cs ss c).callee
    call-fit c j h =
        let x = c.target.base in
        let fs = c.target.fields in
        let t = bind-ok (walk cs env x fs) _ j h in
        let r = bind-ok (follow t.0) _ j t.2 in
        let d = bind-ok (ok_or (method_named cs r.0.class c.method) Unknown) _ j r.2 in
        let k = walked cs names m env ss s x fs t.0 t.1 in
        let class : target_class cs ss c ≡ r.0.class =
        class_of-is cs (type_along cs (type_in ss x) fs) r.0.class (k.1 ∙ ap class_is (follow-ok t.0 r.0 r.1).reference) in
        let there : method_named cs (target_class cs ss c) c.method ≡ Some d.0 =
        ap (λ (n : ℕ). method_named cs n c.method) class ∙ ok_or-ok (method_named cs r.0.class c.method) Unknown d.0 d.1 in
        let n = number_called cs (target_class cs ss c) c.method in
        let p = method_place (methods_of cs (target_class cs ss c)) c.method in
        let result : call_result cs ss c ≡ method_result cs d.0 =
        ap (λ (o : Option Method). elim o [ None ↦ None | Some q ↦ method_result cs q ]) there in
        ap (option_map (λ (q : Callee). record q { number = n })) (methods (target_class cs ss c) c.method d.0 there)
        ∙ ap (λ (o : Option Ty). Some (record { number = n; place = p; result = o })) (sym result)

    right-fit : (w : Ty) (r : Right) (j : Judged) → judge_right cs env w r ≡ Ok j → IsRightFit g.methods (numbered_right cs ss r)
    right-fit w (value e) j h = tt
    right-fit w (new x n) j h = tt
    right-fit w (new_tmp x n) j h = tt
    right-fit w (new_iso x n manager) j h = tt
    right-fit w (freeze y) j h = tt
    right-fit w (merge y) j h = tt
    right-fit w read j h = tt
    right-fit w more j h = tt
    right-fit w (result_of c) j h = let p = bind-ok (judge_call cs env c) _ j h in call-fit c p.0 p.1

    assign-fit : (out : Env) (at line : ℕ) (x : Variable) (fs : List Name) (r : Right) → judge_assign cs env x fs r ≡ Ok out →
        IsKindFit g (types_of ss) at line (numbered_assign cs ss x fs (numbered_right cs ss r))
    assign-fit out at line x [] r h =
        let p = judge_assign-parts cs env out x r h in (
          right-fit p.entry.ty r p.judged p.typed,
          not-next ss (slot_of ss x) (slot-below env.entries ss x p.entry s.matches p.there),
        )
    assign-fit out at line x (f ∷ fs) r h = let p = judge_assign-field cs env out x f fs r h in right-fit p.ty r p.judged p.typed

  swap-fit : (ss : Scope) (types : List Ty) (at line y : ℕ) (x : Variable) (fs : List Name) → IsKindFit g types at line (numbered_swap cs ss y x fs)
  swap-fit ss types at line y x [] = tt
  swap-fit ss types at line y x (f ∷ fs) = tt

  -- a block in front of which the types are these, wherever it stands
  abbrev FitsInside : (types : List Ty) → (line : ℕ) → numbers.Block → Type 0
  FitsInside types line b = (to : ℕ) (rest : List Op) (ms : List (List Ty)) →
      Laid g.maps to (block_ops types to b ++ i.Mark line ∷ rest) (block_types true types b ++ ms) →
      IsBlockFit g types to b × (slice_get g.maps to ≡ Some types)

  enter-fit : (ss : Scope) (types : List Ty) (at line : ℕ) (x : Variable) (fs : List Name) (b : numbers.Block) (w : Option ℕ) (rest : List Op)
      (ms : List (List Ty)) → FitsInside (types_inside types (bridge_class cs ss x fs)) line b →
      Laid g.maps at (kind_ops types at line (numbered_enter cs ss x fs b w) ++ rest)
      ((types ∷ inner_types types (numbered_enter cs ss x fs b w)) ++ ms) → IsKindFit g types at line (numbered_enter cs ss x fs b w)
  enter-fit ss types at line x [] b w rest ms fits h =
      let c = bridge_class cs ss x [] in
      let T = types_inside types c in
      let n = length types in
      let to = at + 1 + 1 in
      let bt = block_types true T b in
      let same : (types ∷ bt) ++ ms ≡ (types ∷ (bt ++ [])) ++ ms = ap (λ (q : List (List Ty)). (types ∷ q) ++ ms) (sym (append-nil bt)) in
      let front = i.Enter (slot_of ss x) n ∷ [] in
      let tail = i.Mark line ∷ leave_op n w ∷ [] in
      let l = inside_laid g.maps at to line front (block_ops T to b) tail rest types bt [] ms refl (omega arith)
      (h ∙ ap (laid (kind_ops types at line (numbered_enter cs ss x [] b w) ++ rest)) same) in
      let p = fits to (leave_op n w ∷ rest) ms l in (mapped g.maps to types _ p.1, p.0)
  enter-fit ss types at line x (f ∷ fs) b w rest ms fits h =
      let c = bridge_class cs ss x (f ∷ fs) in
      let T = types_inside types c in
      let n = length types in
      let path = path_ops (slot_of ss x) (path_numbers cs ss x (all_but_last f fs)) in
      let last = i.EnterField (held_number cs ss x f fs) n ∷ [] in
      let front = path ++ last in
      let to = at + 1 + length front in
      let bt = block_types true T b in
      let same : (types ∷ bt) ++ ms ≡ (types ∷ (bt ++ [])) ++ ms = ap (λ (q : List (List Ty)). (types ∷ q) ++ ms) (sym (append-nil bt)) in
      let tail = i.Mark line ∷ leave_op n w ∷ [] in
      let none = none-then path last (path-none (slot_of ss x) (path_numbers cs ss x (all_but_last f fs))) refl in
      let l = inside_laid g.maps at to line front (block_ops T to b) tail rest types bt [] ms none (omega arith)
      (h ∙ ap (laid (kind_ops types at line (numbered_enter cs ss x (f ∷ fs) b w) ++ rest)) same) in
      let p = fits to (leave_op n w ∷ rest) ms l in (mapped g.maps to types _ p.1, p.0)

  mutual
    kind-fit : (last : Option Ty) (line : ℕ) (env out : Env) (ss : Scope) (k : StmtKind) → IsScoped m env ss → HasSlotNames (length ss) k →
        judge_kind cs last line env k ≡ Ok out → (at : ℕ) (rest : List Op) (ms : List (List Ty)) →
        Laid g.maps at (kind_ops (types_of ss) at line (numbered_kind cs ss k) ++ rest)
        ((types_of ss ∷ inner_types (types_of ss) (numbered_kind cs ss k)) ++ ms) →
        (is_declare k ≡ true →
        slice_get g.maps (at + length (kind_ops (types_of ss) at line (numbered_kind cs ss k))) ≡ Some (types_of (scope_behind cs ss k))) →
        IsKindFit g (types_of ss) at line (numbered_kind cs ss k)
    kind-fit last line env out ss (declare x t r) s e h at rest ms l n =
        let p = judge_declare-parts cs env out x t r (at_line-ok line _ out h) in
        let kind = numbered_kind cs ss (declare x t r) in (
          right-fit env ss s p.declared r p.judged p.typed,
          mapped g.maps (at + length (kind_ops (types_of ss) at line kind)) (types_of ss) (type_of cs t)
              (n refl ∙ ap (λ (q : List Ty). Some q) (behind-types cs ss (declare x t r))),
        )
    kind-fit last line env out ss (assign p r) s e h at rest ms l n = assign-fit env ss s out at line p.base p.fields r (at_line-ok line _ out h)
    kind-fit last line env out ss (assign_element q v r) s e h at rest ms l n =
        let p = judge_assign-element cs env out q.base q.fields v r (at_line-ok line _ out h) in
        let mid = scoped-stays m env p.index.env ss s (judge_expr-stays cs env _ v p.index s.distinct p.index_typed) in
        right-fit p.index.env ss mid p.array.ty r p.judged p.typed
    kind-fit last line env out ss (call c) s e h at rest ms l n =
        let p = bind-ok (judge_call cs env c) _ out (at_line-ok line _ out h) in call-fit env ss s c p.0 p.1
    kind-fit last line env out ss (swap y p) s e h at rest ms l n =
        swap-fit ss (types_of ss) at line (slot_of ss (Some y)) p.base p.fields
    kind-fit last line env out ss (branch v b other) s e h at rest ms l n =
        let f = bind-ok (at_line line (judge_test cs env v)) _ out h in
        let a = bind-ok (judge_block cs None f.0 b) _ out f.2 in
        let o = bind-ok (judge_else cs f.0 other) _ out a.2 in
        let mid = scoped-stays m env f.0 ss s (judge_test-stays cs env f.0 v s.distinct (at_line-ok line (judge_test cs env v) f.0 f.1)) in
        let types = types_of ss in
        let test = whole_ops types (at + 1) (numbered cs ss v) in
        let inside = at + 1 + length test + 1 in
        let first = numbered_block cs ss b in
        let second = numbered_else cs ss other in
        let block = block_ops types inside first in
        let behind = inside + length block + 2 in
        let others = else_ops types behind line second in
        let jump = i.JumpFalse (inside + length block + else_gap second) ∷ [] in
        let tail = i.Mark line ∷ i.End (length types) ∷ others in
        let bt = block_types true types first in
        let et = else_types types second in
        let long = length-append test jump in
        let inner = inside_laid g.maps at inside line (test ++ jump) block tail rest types bt et ms
        (none-then test jump (whole-none types (at + 1) (numbered cs ss v)) refl) (omega (arith, long))
        (l ∙ ap (λ (q : List Op). laid ((i.Mark line ∷ q) ++ rest) ((types ∷ (bt ++ et)) ++ ms)) (sym (append_assoc test jump (block ++ tail)))) in
        let end = i.Mark line ∷ i.End (length types) ∷ [] in
        let count = marks-then block end in
        let whole = block-marks types inside true first in
        let ends = length-append block end in
        let outer = skip g.maps inside behind (block ++ end) (others ++ rest) bt (et ++ ms) (omega (arith, count, whole)) (omega (arith, ends))
        (inner ∙ ap (λ (q : List Op). laid q (bt ++ (et ++ ms))) (sym (append_assoc block end (others ++ rest)))) in (
          block-fit None f.0 a.0 ss b mid e.0 a.1 true tt inside line (i.End (length types) ∷ (others ++ rest)) (et ++ ms) inner,
          else-fit line f.0 o.0 ss other mid e.1 o.1 behind rest ms outer,
        )
    kind-fit last line env out ss (while v b) s e h at rest ms l n =
        let f = bind-ok (at_line line (judge_test cs env v)) _ out h in
        let a = bind-ok (judge_block cs None f.0 b) _ out f.2 in
        let mid = scoped-stays m env f.0 ss s (judge_test-stays cs env f.0 v s.distinct (at_line-ok line (judge_test cs env v) f.0 f.1)) in
        let types = types_of ss in
        let test = whole_ops types (at + 1) (numbered cs ss v) in
        let inside = at + 1 + length test + 1 in
        let first = numbered_block cs ss b in
        let block = block_ops types inside first in
        let jump = i.JumpFalse (inside + length block + 3) ∷ [] in
        let tail = i.Mark line ∷ i.End (length types) ∷ i.Jump at ∷ [] in
        let bt = block_types true types first in
        let long = length-append test jump in
        let same : (types ∷ bt) ++ ms ≡ (types ∷ (bt ++ [])) ++ ms = ap (λ (q : List (List Ty)). (types ∷ q) ++ ms) (sym (append-nil bt)) in
        let inner = inside_laid g.maps at inside line (test ++ jump) block tail rest types bt [] ms
        (none-then test jump (whole-none types (at + 1) (numbered cs ss v)) refl) (omega (arith, long))
        (l ∙ ap (λ (q : List Op). laid ((i.Mark line ∷ q) ++ rest) ((types ∷ bt) ++ ms)) (sym (append_assoc test jump (block ++ tail)))
        ∙ ap (laid ((i.Mark line ∷ ((test ++ jump) ++ (block ++ tail))) ++ rest)) same) in
        block-fit None f.0 a.0 ss b mid e a.1 true tt inside line (i.End (length types) ∷ i.Jump at ∷ rest) ms inner
    kind-fit last line env out ss (enter p z b giving) s e h at rest ms l n =
        let f = bind-ok (at_line line (judge_enter cs env p.base p.fields z)) _ out h in
        let a = bind-ok (judge_block cs None f.0 b) _ out f.2 in
        let d = inside-scoped cs names m env f.0 ss s p.base p.fields z e.0 (at_line-ok line (judge_enter cs env p.base p.fields z) f.0 f.1) in
        let inside = scope_inside cs ss p z in
        let inner = numbered_block cs inside b in
        let count = length-append ss (record { name = Some z; ty = _ } ∷ []) in
        let slots : HaveSlotNames (length inside) b = subst (λ (k : ℕ). HaveSlotNames k b) (sym count) e.1 in
        let fits : FitsInside (types_inside (types_of ss) (bridge_class cs ss p.base p.fields)) line inner =
        subst (λ (q : List Ty). FitsInside q line inner) (inside-types cs ss p z) (λ to more ns k. (
          block-fit None f.0 a.0 inside b d.1 slots a.1 true tt to line more ns k,
          first-map cs inside true b
              (marked-has b) g.maps to line more ns k,
        )) in
        enter-fit ss (types_of ss) at line p.base p.fields inner (giving_slot (scope_at_end cs inside b) giving) rest ms fits l
    kind-fit last line env out ss (print v) s e h at rest ms l n = tt
    kind-fit last line env out ss collect s e h at rest ms l n = tt
    kind-fit last line env out ss (return v) s e h at rest ms l n = tt

    else-fit : (line : ℕ) (env out : Env) (ss : Scope) (o : Else) → IsScoped m env ss → HasElseSlotNames (length ss) o →
        judge_else cs env o ≡ Ok out →
        (at : ℕ) (rest : List Op) (ms : List (List Ty)) →
        Laid g.maps at (else_ops (types_of ss) at line (numbered_else cs ss o) ++ rest) (else_types (types_of ss) (numbered_else cs ss o) ++ ms) →
        IsElseFit g (types_of ss) at (numbered_else cs ss o)
    else-fit line env out ss no_else s e h at rest ms l = tt
    else-fit line env out ss (otherwise b) s e h at rest ms l =
        let types = types_of ss in
        let first = numbered_block cs ss b in
        let block = block_ops types (at + 1) first in
        let tail = i.Mark line ∷ i.End (length types) ∷ [] in
        let bt = block_types true types first in
        let inner = skip g.maps at (at + 1) (i.Jump (at + 1 + length block + 2) ∷ []) ((block ++ tail) ++ rest) [] (bt ++ ms) refl (omega arith) l in
        block-fit None env out ss b s e h true tt (at + 1) line (i.End (length types) ∷ rest) ms
        (inner ∙ ap (λ (q : List Op). laid q (bt ++ ms)) (append_assoc block tail rest))

    block-fit : (result : Option Ty) (env out : Env) (ss : Scope) (b : Block) → IsScoped m env ss → HaveSlotNames (length ss) b →
        judge_block cs result env b ≡ Ok out → (marked : Truth) → Closed marked b → (at line : ℕ) (rest : List Op) (ms : List (List Ty)) →
        Laid g.maps at (block_ops (types_of ss) at (numbered_block cs ss b) ++ (end_mark marked line ++ rest))
        (block_types marked (types_of ss) (numbered_block cs ss b) ++ ms) → IsBlockFit g (types_of ss) at (numbered_block cs ss b)
    block-fit result env out ss empty s e h marked d at line rest ms l = tt
    block-fit result env out ss (next (stmt n k) b) s e h marked d at line rest ms l =
        let j = bind-ok (judge_kind cs (last_of result b) n env k) _ out h in
        let behind = scope_behind cs ss k in
        let types = types_of ss in
        let kind = numbered_kind cs ss k in
        let inner = numbered_block cs behind b in
        let T = types_behind types kind in
        let first = kind_ops types at n kind in
        let to = at + length first in
        let others = block_ops T to inner in
        let end = end_mark marked line ++ rest in
        let own = inner_types types kind in
        let bt = block_types marked T inner in
        let code = append_assoc first others end in
        let maps : (types ∷ (own ++ bt)) ++ ms ≡ (types ∷ own) ++ (bt ++ ms) = ap (λ (q : List (List Ty)). types ∷ q) (append_assoc own bt ms) in
        let whole : Laid g.maps at (first ++ (others ++ end)) ((types ∷ own) ++ (bt ++ ms)) =
        l ∙ ap (λ (q : List Op). laid q ((types ∷ (own ++ bt)) ++ ms)) code ∙ ap (laid (first ++ (others ++ end))) maps in
        let goes = skip g.maps at to first (others ++ end) (types ∷ own) (bt ++ ms) (kind-marks types at n kind) refl whole in
        let same = behind-types cs ss k in
        let there : Laid g.maps to (block_ops (types_of behind) to inner ++ end) (block_types marked (types_of behind) inner ++ ms) =
        subst (λ (q : List Ty). Laid g.maps to (block_ops q to inner ++ end) (block_types marked q inner ++ ms)) (sym same) goes in
        let mid = behind-scoped cs names m env j.0 ss s (last_of result b) n k e.0 j.1 in
        let count = behind-count cs ss k in
        let slots : HaveSlotNames (length behind) b = subst (λ (q : ℕ). HaveSlotNames q b) (sym count) e.1 in (
          kind-fit (last_of result b) n env j.0 ss k s e.0 j.1 at (others ++ end) (bt ++ ms) whole
              (λ is. first-map cs behind marked b (closed-declare marked n k b is d) g.maps to line rest ms there),
          last-block cs ss result n env j.0 k b j.1,
          subst (λ (q : List Ty). IsBlockFit g q to inner) same
              (block-fit result j.0 out behind b mid slots j.2 marked (closed-behind marked n k b d) to line rest ms there),
        )

-- a body that was judged
body-fits : (cs : List Class) (names : ClassesNamed cs) (m : Truth) (result : Option Ty) (env out : Env) (ss : Scope) (b : Block) (marked : Truth) →
    IsScoped m env ss → HaveSlotNames (length ss) b → judge_block cs result env b ≡ Ok out → Closed marked b → FitsThere cs ss marked b
body-fits cs names m result env out ss b marked s e h d g at methods stand =
    let ops = block_ops (types_of ss) at (numbered_block cs ss b) ++ (end_mark marked stand.line ++ stand.rest) in
    block-fit cs names m g methods result env out ss b s e h marked d at stand.line stand.rest stand.others
    (stand.laid_are ∙ ap (λ (q : List (List Ty)). laid ops (q ++ stand.others)) (same-maps cs marked ss b))

pub accepted-fit : AcceptedAreFit
accepted-fit = record {
  main = λ t a n.
      let p = Accepted-parts t a in
      body-fits t.classes (names-of t n) false None no_variables p.out [] t.body true main-scoped n.main p.main tt;
  methods = λ t a n c x m h.
      let p = Accepted-method t a c x m h in
      let s = method-scoped t a n c x m h in
      body-fits t.classes (names-of t n) true (method_result t.classes m) (method_env t.classes c m) p.out (method_scope t.classes c m) m.body
      (is_end_marked m.result) s.0 s.1 p.body (closed-method m.result m.body p.gives);
}
