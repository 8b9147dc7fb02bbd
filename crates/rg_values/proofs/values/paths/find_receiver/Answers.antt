use Rattle.rg_values.proofs.values.paths.find_receiver.Goals as goal

pub returns-clause-class : goal.returns-clause-class
returns-clause-class c = c.requires.objects c.in_ok-place.place c.index-store-place.result c.in_ok-place.ensures.1
