use Rattle.rg_tests.proofs.modules.is_as_said.Goals as goal

pub encode-requires : goal.encode-requires
encode-requires c = c.in-Ok.ensures.spelt.spelt
