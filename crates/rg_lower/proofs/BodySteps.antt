-- Parameters in their slots, and how many slots a body has.
use Rattle.std.proofs.Common.{◌≡◌, refl, ap, ◌∙◌, ℕ, zero, suc, ◌+◌, ◌≤◌, max, List, [], ◌∷◌, ◌++◌, map, length, drop, Some, slice_get}
use Rattle.std.proofs.Common.{length-append, arith}
use Rattle.std.proofs.Common.{◌<◌, All, get_or, subst}
use Rattle.std.proofs.lemmas.List.Elements.{All-get_or, All-head, All-tail}
use Rattle.std.proofs.lemmas.Option.{get_or_from_slice_get, slice_get_within}
use Rattle.std.proofs.Math.Seq.{drop-append_seam}
use Rattle.rg_base.proofs.Callers.Lists.{drop-get}
use Rattle.rg_tree.specs.Tree.{Method}
use Rattle.rg_tree.specs.Rows.Tables.{Tables}
use Rattle.rg_tree.specs.Rows.RowTrees.{classes_of, param_at}
use Rattle.rg_code.specs.declared.op.Op.{Op}
use Rattle.rg_code.specs.Code.{Code, with_entry}
use Rattle.rg_code.specs.Lowering.{with_params, method_scope, block_code, method_end_code, method_code, above, slots_of}
use Rattle.rg_lower.specs.declared.slots.Held.{Held}
use Rattle.rg_lower.specs.Inner.Slots.{scope_of, AreHeldIn}
use Rattle.rg_lower.specs.Inner.Emitted.{with_ops}
use Rattle.rg_lower.specs.Inner.Methods.{with_body}
use Rattle.rg_lower.proofs.Codes.{with_ops-then}

-- some parameters have their slots, and the others are left
pub record ParamsUpTo (t : Tables) (front : List Held) (params : List ℕ) (held : List Held) (rest : List ℕ) : Type 0 where
  pub scope : with_params (classes_of t) (scope_of t held) (map (param_at t) rest)
      ≡ with_params (classes_of t) (scope_of t front) (map (param_at t) params)
  pub held_in : AreHeldIn t held
  pub count : length held + length rest ≡ length front + length params

-- what holds of all holds of one that is there
pub All-there : {X : Type 0} (P : X → Type 0) (xs : List X) (i : ℕ) (x : X) → slice_get xs i ≡ Some x → All P xs → P x
All-there P xs i x g a = subst P (get_or_from_slice_get xs i x x g) (All-get_or P xs i x (slice_get_within xs i x g) a)

-- and what holds of all images, of the image of one that is there
pub All-mapped : {X Y : Type 0} (P : Y → Type 0) (f : X → Y) (xs : List X) (i : ℕ) (d : X) → i < length xs → All P (map f xs) → P (f (get_or xs i d))
All-mapped P f [] i d l a = absurd (omega arith)
All-mapped P f (x ∷ xs) zero d l a = All-head P (f x) (map f xs) a
All-mapped P f (x ∷ xs) (suc i) d l a = All-mapped P f xs i d (omega arith) (All-tail P (f x) (map f xs) a)

-- one more instruction is counted
pub slots-step : (given : ℕ) (ops : List Op) (at : ℕ) (o : Op) (most next all : ℕ) → slice_get ops at ≡ Some o →
    max most (slots_of given (drop at ops)) ≡ all
    → next ≡ max most (above o) → max next (slots_of given (drop (at + 1) ops)) ≡ all
slots-step given ops at o most next all g h n =
    let s : at + 1 ≡ suc at = omega arith in
    let r : max most (max (above o) (slots_of given (drop (suc at) ops))) ≡ all = rw (drop-get ops at o g) at h in
    rw (s, n) (omega (arith, r))

-- a method with its entry
pub method-written : (t : Tables) (k : ℕ) (m : Method) (held : List Held) (old blocked ended new : Code) (at given slots : ℕ) →
    scope_of t held ≡ method_scope (classes_of t) k m → blocked ≡ with_ops old (block_code (classes_of t) (scope_of t held) (length old.ops) m.body) →
    ended ≡ with_ops blocked (method_end_code m.line m.result) → at ≡ length old.ops → given ≡ suc (length m.params) →
    slots ≡ slots_of given (drop at ended.ops) → new ≡ with_entry ended (record { at = at; given = given; slots = slots }) →
    new ≡ with_body old (suc (length m.params)) (method_code (classes_of t) (length old.ops) k m)
method-written t k m held old blocked ended new at given slots h b e a g s n =
    let body : List Op = method_code (classes_of t) (length old.ops) k m in
    let b' : blocked ≡ with_ops old (block_code (classes_of t) (method_scope (classes_of t) k m) (length old.ops) m.body) = rw h at b in
    let e' : ended ≡ with_ops old body = rw (e, b') (with_ops-then old _ (method_end_code m.line m.result)) in
    let s' : slots ≡ slots_of (suc (length m.params)) body =
    s ∙ ap (λ (n : ℕ). slots_of n (drop at ended.ops)) g ∙ ap (λ (n : ℕ). slots_of (suc (length m.params)) (drop n ended.ops)) a
    ∙ ap (λ (c : Code). slots_of (suc (length m.params)) (drop (length old.ops) c.ops)) e'
    ∙ ap (slots_of (suc (length m.params))) (drop-append_seam old.ops body) in
    rw (n, e', a, g, s') refl

-- a body lies behind its first address
pub body-there : (old blocked ended : Code) (a b : List Op) (at : ℕ) → at ≡ length old.ops → blocked ≡ with_ops old a →
    ended ≡ with_ops blocked b → at ≤ length ended.ops
body-there old blocked ended a b at o h e = rw (o, e, h) (omega (arith, length-append (old.ops ++ a) b, length-append old.ops a))
