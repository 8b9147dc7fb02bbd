-- The code of arguments leaves their values on the stack.
use Rattle.std.proofs.Common.{◌≡◌, ℕ, ◌+◌, List, [], ◌∷◌, ◌++◌, length, reverse, Result, Ok, Err, refl, sym, ap, ◌∙◌, arith, append_assoc}
use Rattle.std.proofs.Common.{length-append}
use Rattle.std.proofs.lemmas.List.{reverse-append}
use Rattle.rg_base.specs.declared.value.Val.{Val}
use Rattle.rg_base.specs.declared.object.Seen.{Seen}
use Rattle.rg_base.specs.declared.outcome.Trap.{Trap}
use Rattle.rg_tree.specs.Tree.{Variable, Expr, Class}
use Rattle.rg_rules.specs.Answers.{◌>>=◌}
use Rattle.rg_rules.specs.State.{Local, value_in}
use Rattle.rg_rules.specs.Values.{Computed}
use Rattle.rg_rules.specs.Evaluation.{value_of, values_of}
use Rattle.rg_code.specs.declared.op.Op.{Op}
use Rattle.rg_code.specs.Code.{Code}
use Rattle.rg_code.specs.Lowering.{Scope, slot_of, expr_code, exprs_code}
use Rattle.rg_stack.specs.Machine.{slot_at}
use Rattle.rg_stack.specs.Effects.{Walked, Traps, with_value}
use Rattle.rg_stack.specs.Tops.{Work}
use Rattle.rg_stack.specs.Given.{given_walk as walk}
use Rattle.rg_stack.proofs.Walks.Walk.{Agrees, walk-expr}
use Rattle.rg_stack.specs.Machine.{Window}

-- goes on with values, or traps
abbrev pub with_values : Result (List Val) Trap → (List Val → Walked) → Walked
with_values (Ok vs) go = go vs
with_values (Err t) go = Traps t

-- the same for each value, object or list of values
pub each_value : (c : Computed) (f g : Val → Walked) → ((v : Val) → c ≡ Ok v → f v ≡ g v) → with_value c f ≡ with_value c g
each_value (Ok v) f g h = h v refl
each_value (Err t) f g h = refl

pub each_list : (r : Result (List Val) Trap) (f g : List Val → Walked) → ((vs : List Val) → f vs ≡ g vs) → with_values r f ≡ with_values r g
each_list (Ok vs) f g h = h vs
each_list (Err t) f g h = refl

-- the rules give of each argument what they give of an expression
abbrev pub AllAgree : List Class → List Seen → List Window → List Local → Scope → List Expr → Type 0
AllAgree classes store windows locals scope [] = Unit {0}
AllAgree classes store windows locals scope (e ∷ es) = Agrees classes store windows locals scope e × AllAgree classes store windows locals scope es

-- one argument before the others
first_then : (c : Computed) (r : Result (List Val) Trap) (f : Val → Walked) (g : List Val → Walked)
    → ((v : Val) → f v ≡ with_values r (λ vs. g (v ∷ vs)))
    → with_value c f ≡ with_values (◌>>=◌ c (λ v. ◌>>=◌ r (λ vs. Ok (v ∷ vs)))) g
first_then (Ok v) (Ok vs) f g h = h v
first_then (Ok v) (Err t) f g h = h v
first_then (Err t) r f g h = refl

module _ (classes : List Class) (code : Code) where
  pub walk-exprs : (es : List Expr) (locals : List Local) (scope : Scope) (at : ℕ) (rest : List Op) (stack : List Val) (w : Work)
      → ((x : Variable) → slot_at w.machine (slot_of scope x) ≡ value_in locals x)
      → AllAgree classes w.machine.store w.machine.windows locals scope es
      → walk code (exprs_code classes scope at es ++ rest) at 0 stack w
      ≡ with_values (values_of classes w.machine.store locals es)
      (λ vs. walk code rest (at + length (exprs_code classes scope at es)) 0 (reverse vs ++ stack) w)
  walk-exprs [] locals scope at rest stack w slots h = let e : at ≡ at + 0 = omega arith in ap (λ n. walk code rest n 0 stack w) e
  walk-exprs (x ∷ es) locals scope at rest stack w slots h =
      let first = expr_code classes scope at x in
      let others = exprs_code classes scope (at + length first) es in
      let e : at + length first + length others ≡ at + length (first ++ others) = omega (arith, length-append first others) in
      ap (λ l. walk code l at 0 stack w) (append_assoc first others rest)
      ∙ walk-expr classes code x locals scope at (others ++ rest) stack w slots h.0
      ∙ first_then (value_of classes w.machine.store locals x) (values_of classes w.machine.store locals es)
      (λ v. walk code (others ++ rest) (at + length first) 0 (v ∷ stack) w)
      (λ vs. walk code rest (at + length (first ++ others)) 0 (reverse vs ++ stack) w)
      (λ v. walk-exprs es locals scope (at + length first) rest (v ∷ stack) w slots h.1
      ∙ each_list (values_of classes w.machine.store locals es) _ _ (λ vs.
      ap (λ n. walk code rest n 0 (reverse vs ++ v ∷ stack) w) e
      ∙ ap (λ s. walk code rest (at + length (first ++ others)) 0 s w)
      (sym (ap (λ r. r ++ stack) (reverse-append (v ∷ []) vs) ∙ append_assoc (reverse vs) (v ∷ []) stack))))
