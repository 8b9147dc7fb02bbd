use Rattle.rg_values.proofs.values.uses.+use_up.Given as goal

abbrev pub decreases-use_up : goal.decreases-use_up
decreases-use_up l = l.e
