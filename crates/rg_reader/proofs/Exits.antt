-- What holds of the result at the exit of a `?`.
use Rattle.std.proofs.Common.{◌≡◌, Result, IfErr, refl}
use Rattle.std.specs.Result.{IsErr, IsErrAnd, OnOk}
use Rattle.std.proofs.lemmas.Result.{IfOk-from_err, err_from_is_err_and}
use Rattle.rg_reader.specs.declared.reader.halt.Halt.{Halt}
use Rattle.rg_reader.specs.declared.reader.halt.Halt.TheVariants as halt

-- there is no value
pub no-ok : {T E : Type 0} (r : Result T E) (P : Type 0) → IsErr r → OnOk r P
no-ok r P h = IfOk-from_err r (λ v. P) h

-- want of memory is handed on
pub no-memory : {T : Type 0} (r : Result T Halt) → IsErrAnd r (λ y. y ≡ halt.Memory) → IfErr r (λ e. e ≡ halt.Memory)
no-memory r h = let p = err_from_is_err_and r h in rw (p.1, p.2) refl
