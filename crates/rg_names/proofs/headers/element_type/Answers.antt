use Rattle.std.proofs.Common.{ℕ, Bool as Truth, not, Ok, Err, arith}
use Rattle.std.proofs.lemmas.Result.{err_from_is_err_and}
use Rattle.rg_base.specs.declared.ty.Ty.{Ty}
use Rattle.rg_base.specs.declared.fault.Code.TheVariants.{BadType}
use Rattle.rg_base.specs.declared.fault.Stop.{Stop}
use Rattle.rg_base.specs.declared.fault.Stop.TheVariants.{Fault, Memory}
use Rattle.rg_rules.specs.Answers.{◌>>=◌, ◌>>◌, test, Answer, at_line}
use Rattle.rg_names.specs.Judged.{FailsAs}
use Rattle.rg_names.specs.Inner.Headings.{judge_field, is_iso_row}
use Rattle.rg_names.proofs.headers.element_type.Goals as goal

-- a fault of the type is that of the elements, whatever is asked behind it
fails-first : (line : ℕ) (r : Answer Ty) (d : Truth) (s : Stop) →
    FailsAs (at_line line r) s → FailsAs (at_line line (◌>>=◌ r (λ ty. ◌>>◌ (test d BadType) (Ok ty)))) s
fails-first line r d Memory h = tt
fails-first line (Ok ty) d (Fault f) h = grind arith
fails-first line (Err e) d (Fault f) h = h

pub returns-in_err-ty-clause-judged : goal.returns-in_err-ty-clause-judged
returns-in_err-ty-clause-judged c =
    let p = err_from_is_err_and c.from_residual.result c.from_residual.ensures.1 in
    rw (p.1, p.2) (fails-first c.args.line (judge_field c.args.heads.now c.args.is_tmp c.args.row) (not (is_iso_row c.args.row)) _
    c.in_err-ty.ensures.judged)
