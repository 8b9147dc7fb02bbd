-- What an expression or an argument of an accepted program uses up is on the stack once it is computed.
use Rattle.std.proofs.Common.{◌≡◌, true, false, Bool as Truth, if◌then◌else◌, ◌⊎◌, inl, inr, List, [], ◌∷◌, ◌++◌, length, map, reverse, Option, Some}
use Rattle.std.proofs.Common.{Ok, refl, sym, ap, subst, ◌∙◌, arith, unwrap_or, slice_get, append_assoc, ℕ}
use Rattle.std.proofs.lemmas.List.{reverse-append}
use Rattle.rg_base.specs.declared.ty.Ty.{Ty}
use Rattle.rg_base.specs.declared.ty.Ty.TheVariants.{Int}
use Rattle.rg_base.specs.declared.object.Seen.{Seen}
use Rattle.rg_base.specs.declared.value.Val.{Val}
use Rattle.rg_base.specs.declared.value.Val.TheVariants as val
use Rattle.rg_tree.specs.Tree.{Variable, Expr, nil, path, element, Class}
use Rattle.rg_rules.specs.Capabilities.{is_iso}
use Rattle.rg_rules.specs.Environment.{Env}
use Rattle.rg_rules.specs.Expressions.{Judged, judge_expr}
use Rattle.rg_rules.specs.Rights.{judge_args}
use Rattle.rg_rules.specs.State.{Local, value_in}
use Rattle.rg_rules.specs.Evaluation.{value_of, values_of, uses}
use Rattle.rg_rules.proofs.Answers.{bind-ok}
use Rattle.rg_rules.proofs.Expression.{element-ok, number-not_iso}
use Rattle.rg_rules.proofs.Uses.{judge_expr-uses}
use Rattle.rg_sound.specs.Frames.{Named}
use Rattle.rg_sound.proofs.Frames.Named.{Named-iso}
use Rattle.rg_sound.proofs.Values.Right.{IsoExpr, is_variable, is_none, is_element, iso-expr}
use Rattle.rg_code.specs.Lowering.{slot_of, type_in, used_slots, used_by_all}
use Rattle.rg_code.specs.Places.{scope_of}
use Rattle.rg_stack.proofs.Basics.{ok-is}
use Rattle.rg_stack.proofs.Callers.Need.{AmongValues, AllOnStack}
use Rattle.rg_stack.proofs.Walks.Slot.{ShowsSlots, used-uses}
use Rattle.rg_stack.proofs.Walks.End.{UsesUp, slots_hold}
use Rattle.rg_stack.proofs.Judgements.Owes.{expr-named}

module _ (classes : List Class) (store : List Seen) (slots : List Val) (locals : List Local) (shows : ShowsSlots slots locals) where
  variable_up : (x : Variable) (v : Val) (stack : List Val) (t : Truth) → value_in locals x ≡ v
      → AllOnStack (if t then slot_of (scope_of locals) x ∷ [] else []) slots (v ∷ stack)
  variable_up x v stack true is = (inr (inl (sym (slots_hold (scope_of locals) slots locals shows refl x ∙ is))), tt)
  variable_up x v stack false is = tt

  none_up : (e : Expr) (stack : List Val) → uses locals e ≡ [] → UsesUp classes store slots locals (scope_of locals) e stack
  none_up e stack none v got = subst (λ us. AllOnStack us slots (v ∷ stack))
      (sym (used-uses locals e ∙ ap (map (slot_of (scope_of locals))) none)) tt

  iso_up : (env : Env) (w : Option Ty) (j : Judged) (e : Expr) (stack : List Val) → Named env.entries locals → judge_expr classes env w e ≡ Ok j
      → IsoExpr classes env e j → UsesUp classes store slots locals (scope_of locals) e stack
  iso_up env w j nil stack named typed is_none = λ v got. tt
  iso_up env w j (path q) stack named typed (is_variable {x = x} entry there iso ready ty) = λ v got.
      variable_up x v stack (is_iso (type_in (scope_of locals) x)) (ok-is (value_in locals x) v got)
  iso_up env w j (element q e) stack named typed (is_element _ _) =
      let p = element-ok classes env w q e j typed in
      none_up (element q e) stack (judge_expr-uses classes env locals (Named-iso env locals named) (Some Int) e p.index p.judged
      (number-not_iso classes env e p.index p.judged))
  iso_up env w j _ stack named typed h = elim h [ ]

  -- an expression
  pub uses-up : (env : Env) (w : Option Ty) (e : Expr) (j : Judged) (stack : List Val) → Named env.entries locals
      → judge_expr classes env w e ≡ Ok j → UsesUp classes store slots locals (scope_of locals) e stack
  uses-up env w e j stack named typed = by (is_iso j.ty) refl
    where
      by : (b : Truth) → is_iso j.ty ≡ b → UsesUp classes store slots locals (scope_of locals) e stack
      by false n = none_up e stack (judge_expr-uses classes env locals (Named-iso env locals named) w e j typed n)
      by true n = iso_up env w j e stack named typed (iso-expr classes env w e j typed n)

  -- Arguments

  among_right : (u : Val) (xs ys : List Val) → AmongValues u ys → AmongValues u (xs ++ ys)
  among_right u [] ys h = h
  among_right u (x ∷ xs) ys h = inr (among_right u xs ys h)

  among_reverse : (u : Val) (vs more : List Val) → AmongValues u vs → AmongValues u (reverse vs ++ more)
  among_reverse u [] more h = absurd h
  among_reverse u (v ∷ vs) more h =
      let is : reverse (v ∷ vs) ++ more ≡ reverse vs ++ (v ∷ more) =
      ap (λ l. l ++ more) (reverse-append (v ∷ []) vs) ∙ append_assoc (reverse vs) (v ∷ []) more in
      subst (AmongValues u) (sym is) (by h (λ k. among_reverse u vs (v ∷ more) k))
    where
      by : (v ≡ u) ⊎ AmongValues u vs → (AmongValues u vs → AmongValues u (reverse vs ++ (v ∷ more))) → AmongValues u (reverse vs ++ (v ∷ more))
      by (inl same) rest = among_right u (reverse vs) (v ∷ more) (inl same)
      by (inr k) rest = rest k

  on_both : (us ws : List ℕ) (stack : List Val) → AllOnStack us slots stack → AllOnStack ws slots stack → AllOnStack (us ++ ws) slots stack
  on_both [] ws stack h k = k
  on_both (u ∷ us) ws stack h k = (h.0, on_both us ws stack h.1 k)

  on_more : (us : List ℕ) (v : Val) (stack : List Val) → AmongValues v stack → AllOnStack us slots (v ∷ []) → AllOnStack us slots stack
  on_more [] v stack among h = tt
  on_more (u ∷ us) v stack among h = (by h.0, on_more us v stack among h.1)
    where
      by : (unwrap_or (slice_get slots u) val.Nil ≡ val.Nil) ⊎ AmongValues (unwrap_or (slice_get slots u) val.Nil) (v ∷ [])
          → (unwrap_or (slice_get slots u) val.Nil ≡ val.Nil) ⊎ AmongValues (unwrap_or (slice_get slots u) val.Nil) stack
      by (inl is) = inl is
      by (inr (inl is)) = inr (subst (λ w. AmongValues w stack) is among)
      by (inr (inr none)) = absurd none

  args_up : (ts : List Ty) (es : List Expr) (env out : Env) (vs stack : List Val) → Named env.entries locals → judge_args classes env ts es ≡ Ok out
      → length es ≡ length ts → values_of classes store locals es ≡ Ok vs → ((u : Val) → AmongValues u vs → AmongValues u stack)
      → AllOnStack (used_by_all (scope_of locals) es) slots stack
  args_up ts [] env out vs stack named h many got among = tt
  args_up [] (e ∷ es) env out vs stack named h many got among = absurd (omega (arith, many))
  args_up (t ∷ ts) (e ∷ es) env out vs stack named h many got among =
      let p = bind-ok (judge_expr classes env (Some t) e) _ out h in
      let v = bind-ok (value_of classes store locals e) _ vs got in
      let us = bind-ok (values_of classes store locals es) _ vs v.2 in
      let is : v.0 ∷ us.0 ≡ vs = grind arith in
      let less : length es ≡ length ts = omega (arith, many) in
      on_both (used_slots (scope_of locals) e) (used_by_all (scope_of locals) es) stack
      (on_more (used_slots (scope_of locals) e) v.0 stack (among v.0 (subst (AmongValues v.0) is (inl refl)))
      (uses-up env (Some t) e p.0 [] named p.1 v.0 v.1))
      (args_up ts es p.0.env out us.0 stack (expr-named classes env locals (Some t) e p.0 p.1 named) p.2 less us.1
      (λ u h. among u (subst (AmongValues u) is (inr h))))

  -- the arguments of a call
  pub args-up : (ts : List Ty) (es : List Expr) (env out : Env) → Named env.entries locals → judge_args classes env ts es ≡ Ok out
      → length es ≡ length ts → (v : Val) (vs : List Val) → values_of classes store locals es ≡ Ok vs
      → AllOnStack (used_by_all (scope_of locals) es) slots (reverse vs ++ v ∷ [])
  args-up ts es env out named h many v vs got = args_up ts es env out vs (reverse vs ++ v ∷ []) named h many got
      (λ u h. among_reverse u vs (v ∷ []) h)
