use Rattle.rg_heap_tests.proofs.sliding.cells_that_are_kept_move_down.Given as goal

abbrev pub ghosts-moved : goal.ghosts-moved
ghosts-moved g a = record { name = a.blank.name; parts = a.blank.parts }
