use Rattle.rg_renamed.proofs.laws.modules_are_raised.Goals as goal

pub returns : goal.returns
returns c = λ t a w. record {
  accepted = c.renamed_is_accepted.ensures t a w.parts w.names;
  within = c.renamed_is_within_limits.ensures t w;
  its_module = c.same_module.ensures t a w.parts w.names;
  numbered = c.renamed_is_numbered.ensures t a;
}
