-- The three parts of what a method says in front of its body, judged in order.
use Rattle.std.proofs.Common.{◌≡◌, ℕ, Ok, ap, ◌∙◌}
use Rattle.rg_base.specs.declared.fault.Stop.{Stop}
use Rattle.rg_rules.specs.Answers.{◌>>◌, Answer, Passed, at_line}
use Rattle.rg_names.specs.Judged.{FailsAs}
use Rattle.rg_names.proofs.Outcomes.{at_line-then}
use Rattle.rg_names.proofs.Fails.{FailsAs-first, FailsAs-second, FailsAs-same}

module _ (line : ℕ) (a b d : Answer Passed) where
  in_order : at_line line (◌>>◌ a (◌>>◌ b d)) ≡ ◌>>◌ (at_line line a) (◌>>◌ (at_line line b) (at_line line d))
  in_order = at_line-then line a (◌>>◌ b d) ∙ ap (◌>>◌ (at_line line a)) (at_line-then line b d)

  pub fails-at_first : (s : Stop) → FailsAs (at_line line a) s → FailsAs (at_line line (◌>>◌ a (◌>>◌ b d))) s
  fails-at_first s f = FailsAs-same _ _ s in_order (FailsAs-first (at_line line a) _ s f)

  pub fails-at_second : (s : Stop) → at_line line a ≡ Ok tt → FailsAs (at_line line b) s → FailsAs (at_line line (◌>>◌ a (◌>>◌ b d))) s
  fails-at_second s p f = FailsAs-same _ _ s in_order (FailsAs-second (at_line line a) _ tt s p (FailsAs-first (at_line line b) _ s f))

  pub fails-at_third : (s : Stop) → at_line line a ≡ Ok tt → at_line line b ≡ Ok tt → FailsAs (at_line line d) s →
      FailsAs (at_line line (◌>>◌ a (◌>>◌ b d))) s
  fails-at_third s p q f =
      FailsAs-same _ _ s in_order (FailsAs-second (at_line line a) _ tt s p (FailsAs-second (at_line line b) _ tt s q f))

  pub passes : at_line line a ≡ Ok tt → at_line line b ≡ Ok tt → at_line line d ≡ Ok tt → at_line line (◌>>◌ a (◌>>◌ b d)) ≡ Ok tt
  passes p q r = rw (in_order, p, q) r
