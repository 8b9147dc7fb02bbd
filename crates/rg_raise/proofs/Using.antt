-- What fronts use up, and where a place ends, found along their instructions.
use Rattle.std.proofs.Common.{◌≡◌, ◌==◌, ℕ, suc, ◌+◌, ◌-◌, ◌≤◌, ◌<◌, Bool as Truth, true, false, if◌then◌else◌, List, ◌∷◌}
use Rattle.std.proofs.Common.{Option, Some, None, refl, sym, ap, ◌∙◌, arith}
use Rattle.std.proofs.lemmas.Bool.{eq-eqb}
use Rattle.rg_base.specs.declared.ty.Ty.{Ty}
use Rattle.rg_raise.specs.Uses.{and_then, use_at, uses, ends_at, behind_place}
use Rattle.rg_code.specs.declared.op.Op.{Op}
use Rattle.rg_verify_expressions.specs.Signs.{clear_of}
use Rattle.rg_verify_expressions.specs.Blocks.{sign, cleared}

-- What is left to be cleared is cleared as all is.
pub record Clearing (types : List Ty) (ops : List Op) (from clears end at to : ℕ) : Type 0 where
  pub same : cleared ops (uses types ops (end - at) at) to ≡ cleared ops (uses types ops (end - from) from) clears

left-over : (end at : ℕ) → at < end → end - at ≡ suc (end - (at + 1))
left-over end at lt = omega (arith, lt)

module _ {types : List Ty} {ops : List Op} {from clears end at to : ℕ} (c : Clearing types ops from clears end at to) where
  pub clearing-end : end ≤ at → Some to ≡ cleared ops (uses types ops (end - from) from) clears
  clearing-end le =
      let none : end - at ≡ 0 = omega (arith, le) in
      ap (λ (n : ℕ). cleared ops (uses types ops n at) to) (sym none) ∙ c.same

  module _ (lt : at < end) where
    next : (o : Option ℕ) → use_at types ops at (at + 1) ≡ o
        → cleared ops (and_then o (uses types ops (end - (at + 1)) (at + 1))) to ≡ cleared ops (uses types ops (end - from) from) clears
    next o e =
        let rest = uses types ops (end - (at + 1)) (at + 1) in
        ap (λ (x : Option ℕ). cleared ops (and_then x rest) to) (sym e)
        ∙ ap (λ (n : ℕ). cleared ops (uses types ops n at) to) (sym (left-over end at lt)) ∙ c.same

    -- nothing is used up
    pub clearing-over : use_at types ops at (at + 1) ≡ None → Clearing types ops from clears end (at + 1) to
    clearing-over e = record { same = next None e }

    -- a slot is, and cleared
    pub clearing-on : (s t : ℕ) → use_at types ops at (at + 1) ≡ Some s → sign clear_of ops to ≡ Some t → t ≡ s
        → Clearing types ops from clears end (at + 1) (to + 1)
    clearing-on s t e f same =
        let rest = uses types ops (end - (at + 1)) (at + 1) in
        let yes : (t == s) ≡ true = eq-eqb t s same in
        let one : suc to ≡ to + 1 = omega arith in
        let step : cleared ops (s ∷ rest) to ≡ cleared ops rest (suc to) = rw (cleared, f, yes) refl in
        record { same = ap (cleared ops rest) (sym one) ∙ sym step ∙ next (Some s) e }

    -- a slot is, and isn't cleared
    pub clearing-not : (s : ℕ) → use_at types ops at (at + 1) ≡ Some s → sign clear_of ops to ≡ None
        → None ≡ cleared ops (uses types ops (end - from) from) clears
    clearing-not s e f =
        let rest = uses types ops (end - (at + 1)) (at + 1) in
        let step : cleared ops (s ∷ rest) to ≡ None = rw (cleared, f) refl in
        sym step ∙ next (Some s) e

    -- another one is cleared
    pub clearing-other : (s t : ℕ) → use_at types ops at (at + 1) ≡ Some s → sign clear_of ops to ≡ Some t → (t == s) ≡ false
        → None ≡ cleared ops (uses types ops (end - from) from) clears
    clearing-other s t e f apart =
        let rest = uses types ops (end - (at + 1)) (at + 1) in
        let step : cleared ops (s ∷ rest) to ≡ None = rw (cleared, f, apart) refl in
        sym step ∙ next (Some s) e

-- the place that is looked for is the first one of all
module _ (ops : List Op) (from end at : ℕ) (same : behind_place ops (end - at) at ≡ behind_place ops (end - from) from) where
  pub passing-end : end ≤ at → at ≡ behind_place ops (end - from) from
  passing-end le =
      let none : end - at ≡ 0 = omega (arith, le) in
      ap (λ (n : ℕ). behind_place ops n at) (sym none) ∙ same

  module _ (lt : at < end) where
    passing-by : (b : Truth) → ends_at ops at (at + 1) ≡ b
        → (if b then at + 1 else behind_place ops (end - (at + 1)) (at + 1)) ≡ behind_place ops (end - from) from
    passing-by b e =
        ap (λ (x : Truth). if x then at + 1 else behind_place ops (end - (at + 1)) (at + 1)) (sym e)
        ∙ ap (λ (n : ℕ). behind_place ops n at) (sym (left-over end at lt)) ∙ same

    pub passing-found : ends_at ops at (at + 1) ≡ true → at + 1 ≡ behind_place ops (end - from) from
    passing-found e = passing-by true e

    pub passing-on : ends_at ops at (at + 1) ≡ false → behind_place ops (end - (at + 1)) (at + 1) ≡ behind_place ops (end - from) from
    passing-on e = passing-by false e
