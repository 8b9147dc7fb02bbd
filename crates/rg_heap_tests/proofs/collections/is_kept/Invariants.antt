use Rattle.rg_heap_tests.proofs.collections.is_kept.Given as goal

abbrev pub ghosts-kept : goal.ghosts-kept
ghosts-kept a = record { name = a.blank.name; parts = a.blank.parts }
