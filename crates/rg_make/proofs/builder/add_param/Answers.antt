use Rattle.std.proofs.Common.{refl}
use Rattle.rg_tree.specs.declared.rows.TypeRow.TheVariants as type
use Rattle.rg_tree.specs.Tree as tree
use Rattle.rg_tree.specs.Rows.RowTrees.{param_of}
use Rattle.rg_tree.specs.Rows.RowsExist.{IsParamIn}
use Rattle.rg_make.proofs.Adding.{adds-there, adds-one, adds-over}
use Rattle.rg_make.proofs.Numbers.{param-put}
use Rattle.rg_make.proofs.builder.add_param.Goals as goal

pub add_param-requires : goal.add_param-requires
add_param-requires c =
    adds-there (adds-one {at = param_of} {exists = IsParamIn} (λ n. record { name = n; ty = type.Int }) (λ n. record { name = n; ty = tree.int })
    (λ u n. refl) (λ u n h. record { name = h; ty = tt }) c.in_ok-name.ensures)

pub returns : goal.returns
returns c =
    let e = c.in_ok-number.ensures in
    adds-over (λ p. p)
    (adds-one {at = param_of} {exists = IsParamIn} (λ n. record { name = n; ty = type.Int }) (λ n. record { name = n; ty = tree.int })
    (λ u n. refl) (λ u n h. record { name = h; ty = tt }) c.in_ok-name.ensures)
    (param-put _ e.keeps e.program _ e.number e.tree e.row)
