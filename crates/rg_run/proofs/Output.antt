-- Each step only adds to the output, as long as the last thing to do ends main.
use Rattle.std.proofs.Common.{◌≡◌, inl, ℕ, zero, suc, ◌+◌, true, false, List, [], ◌∷◌, ◌++◌, refl, sym, ap, ◌∙◌, subst, append-nil, append_assoc}
use Rattle.std.proofs.Common.{arith}
use Rattle.rg_base.specs.declared.value.Val.{Val}
use Rattle.rg_base.specs.declared.outcome.Outcome.TheVariants as outcome
use Rattle.rg_tree.specs.Tree.{Expr, stmt, print}
use Rattle.rg_tree.specs.Tree.{Class}
use Rattle.rg_rules.specs.Items.{Item, Do}
use Rattle.rg_rules.specs.State.{State}
use Rattle.rg_rules.specs.Evaluation.{computed}
use Rattle.rg_rules.specs.Steps.{next, Stepped, Went, Trapped, step_first, step_kind}
use Rattle.rg_rules.specs.Runs.{Ran, plain_from}
use Rattle.rg_rules.proofs.Answers.{bind-ok}
use Rattle.rg_rules.proofs.Step.{stepped-went}
use Rattle.rg_rules.proofs.Run.{one_more, one_more-went, one_more-trapped, one_more-done, plain_from-suc}
use Rattle.rg_plain.specs.Outcomes.{EndsMain}
use Rattle.rg_values.specs.Printing.{item_prints}
use Rattle.rg_plain.proofs.Behind.{settles_by, ends_by}

-- the second list goes on behind the first
abbrev pub GoesOn : List Val → List Val → Type 0
GoesOn xs ys = (more : List Val) × (ys ≡ xs ++ more)

GoesOn-same : (xs ys : List Val) → ys ≡ xs → GoesOn xs ys
GoesOn-same xs ys e = ([], e ∙ sym (append-nil xs))

GoesOn-again : (xs ys zs : List Val) → GoesOn xs ys → GoesOn ys zs → GoesOn xs zs
GoesOn-again xs ys zs a b = (a.0 ++ b.0, b.1 ∙ ap (λ q. q ++ b.0) a.1 ∙ append_assoc xs a.0 b.0)

module _ (classes : List Class) (s u : State) (first : Item) (rest : List Item) (items : s.items ≡ first ∷ rest) (ends : EndsMain s.items)
    (went : next classes s ≡ Went u) where
  quiet_by : (its : List Item) → u.items ≡ its → item_prints first ≡ false → u.output ≡ s.output
  quiet_by [] is quiet = (settles_by classes s u first rest items ends outcome.Running true went (inl quiet) (λ e. is) (λ e. cc)).2
  quiet_by (i ∷ its) is quiet = (settles_by classes s u first rest items ends outcome.Running false went (inl quiet) (λ e. cc) (λ e some. cc)).2

  quiet : item_prints first ≡ false → GoesOn s.output u.output
  quiet q = GoesOn-same _ _ (quiet_by u.items refl q)

  printed : (line : ℕ) (e : Expr) → first ≡ Do (stmt line (print e)) → GoesOn s.output u.output
  printed line e is =
      let t : State = record s { items = rest } in
      let step = sym (ap (step_first classes s) (items ∙ ap (λ i. i ∷ rest) is)) ∙ went in
      let done = bind-ok (computed classes t e) _ u (stepped-went line (step_kind classes t line (print e)) u step) in
      let ok = done.2 in
      let is : record done.0.0 { output = s.output ++ done.0.1 ∷ [] } ≡ u = grind arith in
      (done.0.1 ∷ [], sym (ap (λ q. q.output) is))

  next-ends : EndsMain u.items
  next-ends = ends_by classes s u first rest items ends outcome.Running went

  next-goes_on : (i : Item) → first ≡ i → GoesOn s.output u.output
  next-goes_on (Do (stmt line (print e))) is = printed line e is
  next-goes_on _ is = quiet (ap item_prints is)

-- a run behind another one: its output goes on, and the last thing to do still ends main
pub record Later (r q : Ran) : Type 0 where
  pub output : GoesOn r.state.output q.state.output
  pub ends : EndsMain q.state.items

Later-same : (r q : Ran) → EndsMain r.state.items → q.state ≡ r.state → Later r q
Later-same r q ends same =
    let P : State → Type 0 = λ u. EndsMain u.items in
    record { output = GoesOn-same _ _ (ap (λ u. u.output) same); ends = subst P (sym same) ends }

one_more-by : (classes : List Class) (r : Ran) (items : List Item) (step : Stepped) → EndsMain r.state.items → r.state.items ≡ items →
    next classes r.state ≡ step → Later r (one_more classes r)
one_more-by classes r [] step ends is e =
    Later-same r (one_more classes r) ends (ap (λ q. q.state) (one_more-done classes r.steps r.state is))
one_more-by classes r (i ∷ rest) (Went u) ends is e =
    let same : (one_more classes r).state ≡ u = ap (λ q. q.state) (one_more-went classes r.steps r.state u i rest is e) in
    let P : State → Type 0 = λ q. GoesOn r.state.output q.output in
    let Q : State → Type 0 = λ q. EndsMain q.items in
    record {
      output = subst P (sym same) (next-goes_on classes r.state u i rest is ends e i refl);
      ends = subst Q (sym same) (next-ends classes r.state u i rest is ends e);
    }
one_more-by classes r (i ∷ rest) (Trapped kind line) ends is e =
    Later-same r (one_more classes r) ends (ap (λ q. q.state) (one_more-trapped classes r.steps r.state kind line e))

one_more-later : (classes : List Class) (r : Ran) → EndsMain r.state.items → Later r (one_more classes r)
one_more-later classes r ends = one_more-by classes r r.state.items (next classes r.state) ends refl refl

-- a run of more steps is behind one of fewer
pub run-later : (classes : List Class) (made d n : ℕ) (s : State) → EndsMain s.items →
    Later (plain_from classes n made s) (plain_from classes (d + n) made s)
unfolding plain_from
run-later classes made d n s ends = more d
  where
    from : (k : ℕ) → EndsMain (plain_from classes k made s).state.items
    from zero = ends
    from (suc k) =
        let P : Ran → Type 0 = λ r. EndsMain r.state.items in
        subst P (sym (plain_from-suc classes k made s)) (one_more-later classes (plain_from classes k made s) (from k)).ends

    more : (d : ℕ) → Later (plain_from classes n made s) (plain_from classes (d + n) made s)
    more zero =
        let same : zero + n ≡ n = omega arith in
        Later-same _ _ (from n) (ap (λ k. (plain_from classes k made s).state) same)
    more (suc d) =
        let P : Ran → Type 0 = λ r. Later (plain_from classes n made s) r in
        let before = more d in
        let step = one_more-later classes (plain_from classes (d + n) made s) before.ends in
        let same : suc d + n ≡ suc (d + n) = omega arith in
        let is = ap (λ k. plain_from classes k made s) same ∙ plain_from-suc classes (d + n) made s in
        subst P (sym is) (record { output = GoesOn-again _ _ _ before.output step.output; ends = step.ends })
