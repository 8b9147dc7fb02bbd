-- What is calm, and what is orderly, behind some instructions. For callers.
use Rattle.std.proofs.Common.{◌≡◌, ℕ, zero, suc, ◌+◌, true, false, true≢false, Bool as Truth, List, [], ◌∷◌, drop, refl, sym, subst, arith}
use Rattle.std.proofs.Common.{slice_get}
use Rattle.std.proofs.lemmas.Bool.{and_from}
use Rattle.rg_code.specs.declared.op.Op.{Op}
use Rattle.rg_code.specs.declared.op.Op.TheVariants as i
use Rattle.rg_code.specs.Places.{is_mark}
use Rattle.rg_stack.specs.Refusals.{Manner, Ends, Clears, Settles, Takes, Computes, Prepares, Calls, Chooses, Passes, manner, room_behind, calm_by}
use Rattle.rg_stack.specs.Refusals.{calm}
use Rattle.rg_stack.specs.Refusals.{computes, all_compute}
use Rattle.rg_stack.specs.Refusals.{orderly_by, orderly}
use Rattle.rg_stack.proofs.Basics.{and-left, and-right}

-- what begins with a mark is calm
pub calm-mark : (code : List Op) (room : Truth) (os : List Op) → is_mark (slice_get os 0) ≡ true → calm code room os ≡ true
calm-mark code room [] e = refl
calm-mark code room (i.Mark line ∷ os) e = refl
calm-mark code room (o ∷ os) e = absurd (true≢false (sym e))

-- what is calm is orderly
pub calm-orderly : (code : List Op) (at : ℕ) (room : Truth) (os : List Op) → calm code room os ≡ true → orderly code at room os ≡ true
calm-orderly code at room [] e = refl
calm-orderly code at room (o ∷ os) e = by (manner o) e (calm-orderly code (at + 1) false os)
  where
    by : (m : Manner) → calm_by code room m (calm code (room_behind m room) os) ≡ true
        → (calm code false os ≡ true → orderly code (at + 1) false os ≡ true)
        → orderly_by code at room m os (calm code (room_behind m room) os) (orderly code (at + 1) (room_behind m room) os) ≡ true
    by Ends e go = refl
    by Clears e go = e
    by Settles e go = e
    by Takes e go = absurd (true≢false (sym e))
    by Computes e go = absurd (true≢false (sym e))
    by Prepares e go = absurd (true≢false (sym e))
    by Calls e go = e
    by (Chooses t) e go = and_from _ _ (and-left _ _ e) (go (and-right _ _ e))
    by (Passes t) e go = absurd (true≢false (sym e))

-- instructions that work on the stack alone are passed over
pub orderly-skip : (code : List Op) (n at : ℕ) (os : List Op) → all_compute n os ≡ true → orderly code at false os ≡ true
    → orderly code (at + n) false (drop n os) ≡ true
orderly-skip code zero at os a e = let same : at ≡ at + 0 = omega arith in subst (λ k. orderly code k false os ≡ true) same e
orderly-skip code (suc n) at [] a e = refl
orderly-skip code (suc n) at (o ∷ os) a e =
    let same : at + 1 + n ≡ at + suc n = omega arith in
    subst (λ k. orderly code k false (drop n os) ≡ true) same
    (orderly-skip code n (at + 1) os (and-right _ _ a) (by (manner o) (and-left _ _ a) e))
  where
    by : (m : Manner) → computes m ≡ true
        → orderly_by code at false m os (calm code (room_behind m false) os) (orderly code (at + 1) (room_behind m false) os) ≡ true
        → orderly code (at + 1) false os ≡ true
    by Ends c h = absurd (true≢false (sym c))
    by Clears c h = absurd (true≢false (sym c))
    by Settles c h = absurd (true≢false (sym c))
    by Takes c h = absurd (true≢false (sym c))
    by Computes c h = h
    by Prepares c h = absurd (true≢false (sym c))
    by Calls c h = absurd (true≢false (sym c))
    by (Chooses t) c h = absurd (true≢false (sym c))
    by (Passes t) c h = and-right _ _ h
