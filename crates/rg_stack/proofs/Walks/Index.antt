-- Arrays: the element that a value names, where the array has it.
use Rattle.std.proofs.Common.{◌≡◌, ℕ, true, false, ◌&&◌, List, ◌∷◌, length, Result, Ok, Err, ap, ◌∙◌, slice_get, unwrap_or}
use Rattle.std.specs.Prelude.{not, nat_lt}
use Rattle.std.proofs.lemmas.Bool.{lt-ltb, and_from, not_from_false}
use Rattle.rg_base.specs.declared.value.Val.{Val}
use Rattle.rg_base.specs.declared.value.Val.TheVariants as val
use Rattle.rg_base.specs.declared.object.Seen.{Seen}
use Rattle.rg_base.specs.declared.outcome.Trap.{Trap}
use Rattle.rg_base.specs.declared.outcome.Trap.TheVariants as trap
use Rattle.rg_rules.specs.Values.{as_int}
use Rattle.rg_rules.specs.Evaluation.{object_at, place_among, element_place}
use Rattle.rg_rules.proofs.Answers.{ok_or-ok}
use Rattle.rg_sound.proofs.Values.Value.{place-within}
use Rattle.rg_code.specs.declared.op.Op.TheVariants as i
use Rattle.rg_code.specs.Code.{Code}
use Rattle.rg_stack.specs.Machine.{Machine}
use Rattle.rg_stack.specs.Effects.{place_named, element_in}
use Rattle.rg_stack.specs.Needs.{needs, is_closed, of_element}

-- the place that a value names is the one that `bound` found
pub named-place : (o : Seen) (x : Val) (k : ℕ) → element_place o x ≡ Ok k → place_named o x ≡ k
named-place o x k h = ap (λ q. unwrap_or q (length o.fields)) (ok_or-ok (place_among (length o.fields) (as_int x)) trap.Index k h)

pub named-there : (o : Seen) (x : Val) (k : ℕ) → element_place o x ≡ Ok k → nat_lt (place_named o x) (length o.fields) ≡ true
named-there o x k h = ap (λ n. nat_lt n (length o.fields)) (named-place o x k h) ∙ lt-ltb k (length o.fields) (place-within o x k h)

-- its value
pub element-of : (store : List Seen) (r x : Val) (o : Seen) (k : ℕ) → object_at store r ≡ Ok o → element_place o x ≡ Ok k
    → element_in store r x ≡ unwrap_or (slice_get o.fields k) val.Nil
element-of store r x o k there place =
    ap (λ (q : Result Seen Trap). elim q [ Ok o ↦ unwrap_or (slice_get o.fields (place_named o x)) val.Nil | Err t ↦ val.Nil ]) there
    ∙ ap (λ n. unwrap_or (slice_get o.fields n) val.Nil) (named-place o x k place)

-- it may be read
pub element-given : (code : Code) (m : Machine) (r x : Val) (stack : List Val) (o : Seen) (k : ℕ) → object_at m.store r ≡ Ok o
    → element_place o x ≡ Ok k → is_closed m r ≡ false → is_closed m x ≡ false → needs code i.Element (x ∷ r ∷ stack) m ≡ true
element-given code m r x stack o k there place array index =
    and_from (not (is_closed m x) && not (is_closed m r)) (of_element m r x (λ o k. true))
    (and_from (not (is_closed m x)) (not (is_closed m r)) (not_from_false (is_closed m x) index) (not_from_false (is_closed m r) array))
    (ap (λ (q : Result Seen Trap). elim q [ Ok o ↦ nat_lt (place_named o x) (length o.fields) && true | Err t ↦ true ]) there
    ∙ ap (λ b. b && true) (named-there o x k place))
