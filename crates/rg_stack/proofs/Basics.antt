-- What many files need of options, truth values, answers and instructions. For crates above too.
use Rattle.std.proofs.Common.{◌≡◌, true, false, true≢false, ◌&&◌, ◌||◌, Bool as Truth, Option, Some, None, Result, Ok, Err, refl, sym, ap, arith}
use Rattle.rg_code.specs.declared.op.Op.{Op}
use Rattle.rg_code.specs.declared.op.Op.TheVariants as i

-- nothing isn't something
pub none-some : {A : Type 0} {B : Type 0} (a : A) → None ≡ Some a → B
none-some a e = grind arith

-- parts of what holds together, and of what holds of none

pub and-left : (a b : Truth) → (a && b) ≡ true → a ≡ true
and-left true b e = refl
and-left false b e = e

pub and-right : (a b : Truth) → (a && b) ≡ true → b ≡ true
and-right true b e = e
and-right false b e = absurd (true≢false (sym e))

pub or-left : (a b : Truth) → (a || b) ≡ false → a ≡ false
or-left true b e = absurd (true≢false e)
or-left false b e = refl

-- answers that are the same
pub ok-is : {A E : Type 0} (a b : A) → ◌≡◌ {A = Result A E} (Ok a) (Ok b) → a ≡ b
ok-is a b e = ap (λ r. elim r [ Ok x ↦ x | Err t ↦ a ]) e

pub err-ok : {A E : Type 0} (e : E) (a : A) → ◌≡◌ {A = Result A E} (Err e) (Ok a) → ⊥
err-ok e a h = true≢false (sym (ap (λ r. elim r [ Ok x ↦ true | Err t ↦ false ]) h))

-- whether an instruction is `halt`
abbrev pub is_halt : Option Op → Truth
is_halt None = false
is_halt (Some i.Halt) = true
is_halt (Some o) = false
