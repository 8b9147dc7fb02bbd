use Rattle.rg_values.proofs.values.expressions.+value.Given as goal

abbrev pub decreases-value : goal.decreases-value
decreases-value l = l.e
