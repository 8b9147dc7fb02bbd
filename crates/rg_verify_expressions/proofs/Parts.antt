-- Instructions of expressions, by what they are there.
use Rattle.std.proofs.Common.{◌≡◌, ℕ, List, [], ◌∷◌, ◌++◌, Some, refl, subst}
use Rattle.rg_tree.specs.declared.rows.BinOp.{BinOp}
use Rattle.rg_tree.specs.declared.rows.BinOp.TheVariants as op
use Rattle.rg_code.specs.declared.op.Op.{Op}
use Rattle.rg_code.specs.declared.op.Op.TheVariants as i
use Rattle.rg_code.specs.Lowering.{gap, operator_code}
use Rattle.rg_verify_expressions.specs.declared.part.Part.{Part}
use Rattle.rg_verify_expressions.specs.declared.part.Part.TheVariants as part
use Rattle.rg_verify_expressions.specs.declared.part.Junction.TheVariants as junctions
use Rattle.rg_verify_expressions.specs.Parts.{part_of}
use Rattle.rg_verify_expressions.proofs.Settling.{jump_of}

-- an operator whose instruction stands behind both operands
pub record Stands (b : BinOp) (o : Op) : Type 0 where
  pub behind : (end : ℕ) (right : List Op) → operator_code b end right ≡ right ++ o ∷ []
  pub together : gap b ≡ 0

-- the instruction of a part
abbrev pub IsOf : Op → Part → Type 0
IsOf o (part.Int z) = o ≡ i.Int z
IsOf o (part.Bool b) = o ≡ i.Bool b
IsOf o part.Nil = o ≡ i.Nil
IsOf o (part.Load s) = o ≡ i.Load s
IsOf o (part.Field k) = o ≡ i.Field k
IsOf o part.IsNil = o ≡ i.IsNil
IsOf o part.Size = o ≡ i.Size
IsOf o part.Check = o ≡ i.Check
IsOf o part.Bound = o ≡ i.Bound
IsOf o part.Element = o ≡ i.Element
IsOf o part.Neg = o ≡ i.Neg
IsOf o part.Not = o ≡ i.Not
IsOf o (part.Operator b) = Stands b o
IsOf o (part.Between j to) = o ≡ jump_of j to

operator : (b : BinOp) (o : Op) (p : Part) → ((end : ℕ) (right : List Op) → operator_code b end right ≡ right ++ o ∷ []) → gap b ≡ 0
    → Some (part.Operator b) ≡ Some p → IsOf o p
operator b o p behind together e =
    let same : part.Operator b ≡ p = cc in
    subst (IsOf o) same (record { behind = behind; together = together })

of-same : (o : Op) (q p : Part) → IsOf o q → Some q ≡ Some p → IsOf o p
of-same o q p is e =
    let same : q ≡ p = cc in
    subst (IsOf o) same is

pub is-of : (o : Op) (p : Part) → part_of o ≡ Some p → IsOf o p
is-of (i.Int z) p e = of-same (i.Int z) (part.Int z) p refl e
is-of (i.Bool b) p e = of-same (i.Bool b) (part.Bool b) p refl e
is-of i.Nil p e = of-same i.Nil part.Nil p refl e
is-of (i.Load s) p e = of-same (i.Load s) (part.Load s) p refl e
is-of (i.Field k) p e = of-same (i.Field k) (part.Field k) p refl e
is-of i.IsNil p e = of-same i.IsNil part.IsNil p refl e
is-of i.Size p e = of-same i.Size part.Size p refl e
is-of i.Check p e = of-same i.Check part.Check p refl e
is-of i.Bound p e = of-same i.Bound part.Bound p refl e
is-of i.Element p e = of-same i.Element part.Element p refl e
is-of i.Neg p e = of-same i.Neg part.Neg p refl e
is-of i.Not p e = of-same i.Not part.Not p refl e
is-of i.Add p e = operator op.Add i.Add p (λ end right. refl) refl e
is-of i.Sub p e = operator op.Sub i.Sub p (λ end right. refl) refl e
is-of i.Mul p e = operator op.Mul i.Mul p (λ end right. refl) refl e
is-of i.Div p e = operator op.Div i.Div p (λ end right. refl) refl e
is-of i.Rem p e = operator op.Rem i.Rem p (λ end right. refl) refl e
is-of i.Eq p e = operator op.Eq i.Eq p (λ end right. refl) refl e
is-of i.Ne p e = operator op.Ne i.Ne p (λ end right. refl) refl e
is-of i.Lt p e = operator op.Lt i.Lt p (λ end right. refl) refl e
is-of i.Le p e = operator op.Le i.Le p (λ end right. refl) refl e
is-of i.Gt p e = operator op.Gt i.Gt p (λ end right. refl) refl e
is-of i.Ge p e = operator op.Ge i.Ge p (λ end right. refl) refl e
is-of (i.And to) p e = of-same (i.And to) (part.Between junctions.And to) p refl e
is-of (i.Or to) p e = of-same (i.Or to) (part.Between junctions.Or to) p refl e
is-of o p e = absurd cc
