-- The step of `q[e] = r` up to its right side.
use Rattle.std.proofs.Common.{◌≡◌, ℕ, List, Result, Ok, Err, refl, ◌∙◌, ap}
use Rattle.rg_base.specs.declared.object.Seen.{Seen}
use Rattle.rg_base.specs.declared.outcome.Trap.{Trap}
use Rattle.rg_base.specs.declared.value.Val.{Val}
use Rattle.rg_tree.specs.declared.rows.Path as row_path
use Rattle.rg_tree.specs.Tree.{Path, Expr, Right, Class}
use Rattle.rg_tree.specs.Rows.Tables.{Tables}
use Rattle.rg_tree.specs.Rows.RowTrees.{classes_of, path_of, expr_at}
use Rattle.rg_rules.specs.Answers.{◌>>=◌}
use Rattle.rg_rules.specs.State.{Drops, State, locals_of}
use Rattle.rg_rules.specs.Evaluation.{object_at, element_place, path_value, value_of}
use Rattle.rg_rules.specs.RightSides.{with_right}
use Rattle.rg_rules.specs.Steps.{put_element, step_assign_element}
use Rattle.rg_values.specs.declared.targets.Left.TheVariants as left
use Rattle.rg_values.specs.declared.targets.Aim.TheVariants as aim
use Rattle.rg_values.specs.declared.values.elements.Indexed.{Indexed}
use Rattle.rg_values.specs.Shown as shown
use Rattle.rg_values.specs.Kept.{Kept, plain_of}
use Rattle.rg_values.specs.Spots.{element_at, ElementIs, AimIs}

-- what comes behind the place of an element
place-then : (r : Result ℕ Trap) (at : Val) (go : Val × ℕ → Result State Trap) →
    ◌>>=◌ r (λ k. go (at, k)) ≡ ◌>>=◌ (◌>>=◌ r (λ k. Ok (at, k))) go
place-then (Ok k) at go = refl
place-then (Err kind) at go = refl

index-then : (i : Result Val Trap) (o : Seen) (at : Val) (go : Val × ℕ → Result State Trap) →
    ◌>>=◌ i (λ n. ◌>>=◌ (element_place o n) (λ k. go (at, k))) ≡ ◌>>=◌ (◌>>=◌ i (λ n. ◌>>=◌ (element_place o n) (λ k. Ok (at, k)))) go
index-then (Ok n) o at go = place-then (element_place o n) at go
index-then (Err kind) o at go = refl

object-then : (r : Result Seen Trap) (i : Result Val Trap) (at : Val) (go : Val × ℕ → Result State Trap) →
    ◌>>=◌ r (λ o. ◌>>=◌ i (λ n. ◌>>=◌ (element_place o n) (λ k. go (at, k))))
    ≡ ◌>>=◌ (◌>>=◌ r (λ o. ◌>>=◌ i (λ n. ◌>>=◌ (element_place o n) (λ k. Ok (at, k))))) go
object-then (Ok o) i at go = index-then i o at go
object-then (Err kind) i at go = refl

array-then : (a : Result Val Trap) (store : List Seen) (i : Result Val Trap) (go : Val × ℕ → Result State Trap) →
    ◌>>=◌ a (λ at. ◌>>=◌ (object_at store at) (λ o. ◌>>=◌ i (λ n. ◌>>=◌ (element_place o n) (λ k. go (at, k)))))
    ≡ ◌>>=◌ (◌>>=◌ a (λ at. ◌>>=◌ (object_at store at) (λ o. ◌>>=◌ i (λ n. ◌>>=◌ (element_place o n) (λ k. Ok (at, k)))))) go
array-then (Ok at) store i go = object-then (object_at store at) i at go
array-then (Err kind) store i go = refl

-- the step is what is done at the element
element-step : (cs : List Class) (s : State) (q : Path) (e : Expr) (r : Right) →
    step_assign_element cs s q e r ≡ ◌>>=◌ (element_at cs s.store (locals_of s) q e) (λ w. with_right cs s Drops (put_element w.0 w.1) r)
element-step cs s q e r =
    array-then (path_value cs s.store (locals_of s) q) s.store (value_of cs s.store (locals_of s) e)
    (λ w. with_right cs s Drops (put_element w.0 w.1) r)

-- where the value goes, or the trap
pub element-aim : (t : Tables) (k : Kept) (p : row_path.Path) (e : ℕ) (w : Indexed) →
    ElementIs (classes_of t) k.store (shown.locals_of t k.frame.locals) (path_of t p) (expr_at t e) (Ok w) →
    AimIs t k (left.SetAt p e) (Ok (aim.Element w.place w.element))
element-aim t k p e w is = (
  is.1,
  λ input rest line r.
      let s : State = record (plain_of t k input) { items = rest } in
      element-step (classes_of t) s (path_of t p) (expr_at t e) r
      ∙ ap (λ q. ◌>>=◌ q (λ n. with_right (classes_of t) s Drops (put_element n.0 n.1) r)) is.0,
)

pub element-cut : (t : Tables) (k : Kept) (p : row_path.Path) (e : ℕ) (kind : Trap) →
    ElementIs (classes_of t) k.store (shown.locals_of t k.frame.locals) (path_of t p) (expr_at t e) (Err kind) →
    AimIs t k (left.SetAt p e) (Err kind)
element-cut t k p e kind is = λ input rest line r.
    let s : State = record (plain_of t k input) { items = rest } in
    element-step (classes_of t) s (path_of t p) (expr_at t e) r
    ∙ ap (λ q. ◌>>=◌ q (λ n. with_right (classes_of t) s Drops (put_element n.0 n.1) r)) is
