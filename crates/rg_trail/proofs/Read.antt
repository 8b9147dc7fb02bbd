-- A source that is read has few names.
use Rattle.std.proofs.Common.{ℕ, List, Result, Ok, Err, IfOk}
use Rattle.rg_base.specs.declared.fault.Stop.{Stop}
use Rattle.rg_base.specs.declared.token.Token.{Token}
use Rattle.rg_tree.specs.Grammar.{Spells}
use Rattle.rg_tree.specs.Rows.RowTrees.{program_of}
use Rattle.rg_tree.specs.Rows.Tables.{Tables}
use Rattle.rg_rules.specs.Names.{FewNames}
use Rattle.rg_check.specs.Laws.{SpeltHasFewNames}

pub few-names : (source : List ℕ) (ts : List Token) (r : Result Tables Stop) → SpeltHasFewNames
    → IfOk r (λ p. Spells source (program_of p) ts) → IfOk r (λ p. FewNames (program_of p))
few-names source ts (Ok p) law h = law source (program_of p) ts h
few-names source ts (Err e) law h = tt
