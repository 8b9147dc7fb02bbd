use Rattle.std.proofs.Common.{refl}
use Rattle.rg_make.proofs.Adding.{adds-two}
use Rattle.rg_make.proofs.builder.path_row.Goals as goal

pub returns : goal.returns
returns c =
    adds-two (λ b s. record { base = b; fields = s }) (λ b s. record { base = b; fields = s }) (λ u b s. refl)
    (λ u b s p q. record { base = p; fields = q }) c.in_ok-base.ensures c.in_ok-fields.ensures
