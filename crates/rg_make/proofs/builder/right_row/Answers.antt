use Rattle.std.proofs.Common.{None, refl}
use Rattle.rg_tree.specs.declared.rows.Right.TheVariants as row
use Rattle.rg_tree.specs.Tree as tree
use Rattle.rg_make.proofs.Adding.{adds-one}
use Rattle.rg_make.proofs.builder.right_row.Goals as goal

pub returns-in_ok-name-in-New : goal.returns-in_ok-name-in-New
returns-in_ok-name-in-New c =
    rw c.in-New.is
    (adds-one (λ n. row.New n None) (λ n. tree.new n None) (λ u n. refl) (λ u n p. (p, tt)) c.in_ok-name-in-New.ensures)

pub returns-in_ok-name-in-NewIso : goal.returns-in_ok-name-in-NewIso
returns-in_ok-name-in-NewIso c =
    rw c.in-NewIso.is
    (adds-one (λ n. row.NewIso n None c.in-NewIso.manager) (λ n. tree.new_iso n None c.in-NewIso.manager) (λ u n. refl) (λ u n p. (p, tt)) c.in_ok-name-in-NewIso.ensures)
