-- What is read where a piece of code stands: the other way round than in Pieces.
use Rattle.std.proofs.Common.{◌≡◌, ◌==◌, ℕ, zero, suc, ◌+◌, Bool as Truth, true, List, [], ◌∷◌, ◌++◌, length, drop, map}
use Rattle.std.proofs.Common.{slice_get, Option, Some, None, refl, sym, ap, ◌∙◌, subst, arith}
use Rattle.std.proofs.lemmas.Bool.{eq-eqb}
use Rattle.rg_code.specs.declared.op.Op.{Op}
use Rattle.rg_code.specs.declared.op.Op.TheVariants as i
use Rattle.rg_code.specs.Lowering.{clears}
use Rattle.rg_verify_expressions.specs.Raised.{Raised, Front, expression, ops_of, all_ops, fronts_ops}
use Rattle.rg_verify_expressions.specs.Parts.{part_of, Ends}
use Rattle.rg_verify_expressions.specs.Signs.{mark_of, clear_of}
use Rattle.rg_verify_expressions.specs.Blocks.{◌>>=◌, ◌>>◌, test, sign, fronts_at, values_in, cleared, ended, Piece}
use Rattle.rg_verify_expressions.proofs.Again.{stand-raised}
use Rattle.rg_verify_expressions.proofs.Pieces.{bind-some, mark-is, piece-parts}

-- What a block tells, by its parts

pub bind-is : {A B : Type 0} (o : Option A) (go : A → Option B) (a : A) → o ≡ Some a → ◌>>=◌ o go ≡ go a
bind-is o go a e = ap (λ (x : Option _). ◌>>=◌ x go) e

pub then-is : {A B : Type 0} (o : Option A) (rest : Option B) (a : A) → o ≡ Some a → ◌>>◌ o rest ≡ rest
then-is o rest a e = ap (λ (x : Option _). ◌>>◌ x rest) e

pub test-is : {B : Type 0} (t : Truth) (rest : Option B) → t ≡ true → ◌>>◌ (test t) rest ≡ rest
test-is t rest e = ap (λ (x : Truth). ◌>>◌ (test x) rest) e

pub same-is : {B : Type 0} (a b : ℕ) (rest : Option B) → a ≡ b → ◌>>◌ (test (a == b)) rest ≡ rest
same-is a b rest e = test-is (a == b) rest (eq-eqb a b e)

-- what is left of a list begins with the element at its number
drop-is : {X : Type 0} (xs : List X) (n : ℕ) (x : X) (ys : List X) → drop n xs ≡ x ∷ ys → slice_get xs n ≡ Some x
drop-is [] zero x ys h = absurd cc
drop-is [] (suc n) x ys h = absurd cc
drop-is (z ∷ zs) zero x ys h = cc
drop-is (z ∷ zs) (suc n) x ys h = drop-is zs n x ys h

module _ (ops : List Op) where
  -- a mark is nothing else
  pub marked : {A : Type 0} (of : Op → Option A) (at line : ℕ) → ((l : ℕ) → of (i.Mark l) ≡ None) → sign mark_of ops at ≡ Some line
      → sign of ops at ≡ None
  marked of at line none h =
      let (o, there, is) = bind-some (slice_get ops at) mark_of line h in
      ap (λ (x : Option Op). ◌>>=◌ x of) there ∙ ap of (mark-is o line is) ∙ none line

  ends-here : (at : ℕ) → sign part_of ops at ≡ None → Ends (drop at ops)
  ends-here at h = by (drop at ops) refl
    where
      by : (os : List Op) → drop at ops ≡ os → Ends os
      by [] e = tt
      by (o ∷ os) e = sym (ap (λ (x : Option Op). ◌>>=◌ x part_of) (drop-is ops at o os e)) ∙ h

module _ {ops : List Op} where
  -- the first instruction of a piece
  pub first : {A : Type 0} (of : Op → Option A) {at end : ℕ} {o : Op} {os : List Op} → Piece ops at (o ∷ os) end → sign of ops at ≡ of o
  first of {at = at} {end = end} {o = o} {os = os} p =
      ap (λ (x : Option Op). ◌>>=◌ x of) (drop-is ops at o (os ++ drop end ops) p.parts)

  -- and what stands behind it
  pub behind : {at end : ℕ} {o : Op} {os : List Op} → Piece ops at (o ∷ os) end → Piece ops (suc at) os end
  behind {at = at} {end = end} {o = o} {os = os} p =
      let one : at + 1 ≡ suc at = omega arith in
      let q = piece-parts ops at end (o ∷ []) os p in
      subst (λ (n : ℕ). Piece ops n os end) one q.1

  -- a piece of one instruction, and of none
  pub past : {at end : ℕ} {o : Op} → Piece ops at (o ∷ []) end → suc at ≡ end
  past p = omega (arith, p.place)

  pub past-two : {at end : ℕ} {o q : Op} → Piece ops at (o ∷ q ∷ []) end → suc (suc at) ≡ end
  past-two p = omega (arith, p.place)

  pub stays : {at end : ℕ} → Piece ops at [] end → at ≡ end
  stays p = omega (arith, p.place)

  -- Fronts

  pub fronts-told : (fs : List Front) (at mid : ℕ) → Piece ops at (fronts_ops at fs) mid → sign part_of ops mid ≡ None
      → fronts_at ops at ≡ Some (fs, mid)
  fronts-told fs at mid p e =
      stand-raised (drop at ops) at fs mid (record { rest = drop mid ops; parts = p.parts; place = p.place; ends = ends-here ops mid e })

  -- Slots that are cleared

  pub cleared-told : (ss : List ℕ) (at end : ℕ) → Piece ops at (clears ss) end → cleared ops ss at ≡ Some end
  cleared-told [] at end p = ap Some (stays p)
  cleared-told (s ∷ ss) at end p =
      bind-is (sign clear_of ops at) _ s (first _ p) ∙ same-is s s (cleared ops ss (suc at)) refl ∙ cleared-told ss (suc at) end (behind p)

  -- what isn't told in front of them, if not behind them
  pub behind-clears : {A : Type 0} (of : Op → Option A) (ss : List ℕ) (at end : ℕ) → ((s : ℕ) → of (i.Clear s) ≡ None)
      → Piece ops at (clears ss) end → sign of ops end ≡ None → sign of ops at ≡ None
  behind-clears of [] at end none p h = ap (λ (n : ℕ). sign of ops n) (stays p) ∙ h
  behind-clears of (s ∷ ss) at end none p h = first of p ∙ none s

  -- The end of a block

  pub ended-told : (of : Op → Option ℕ) (op : ℕ → Op) (line n at end : ℕ) → ((m : ℕ) → of (op m) ≡ Some m)
      → Piece ops at (i.Mark line ∷ op n ∷ []) end → ended of ops line n at ≡ Some end
  ended-told of op line n at end tells p =
      bind-is (sign mark_of ops at) _ line (first _ p) ∙ same-is line line _ refl
      ∙ bind-is (sign of ops (suc at)) _ n (first of (behind p) ∙ tells n) ∙ same-is n n (Some (suc (suc at))) refl ∙ ap Some (past-two p)

-- Expressions in order are fronts

pub values-told : (es : List Raised) → values_in (map expression es) ≡ Some es
values-told [] = refl
values-told (e ∷ es) = bind-is (values_in (map expression es)) _ es (values-told es)

pub values-code : (es : List Raised) (at : ℕ) → fronts_ops at (map expression es) ≡ all_ops at es
values-code [] at = refl
values-code (e ∷ es) at = let one = ops_of at e in ap (λ (os : List Op). one ++ os) (values-code es (at + length one))
