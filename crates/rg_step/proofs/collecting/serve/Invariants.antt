use Rattle.rg_step.proofs.collecting.serve.Given as goal

abbrev pub ghosts-gather : goal.ghosts-gather
ghosts-gather g a = record { name = a.blank.name; parts = a.blank.parts }
