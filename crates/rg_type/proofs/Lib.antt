-- The lemmas that the answers of rg_type use; none is for crates above.
mod Alike
mod ExpressionEnvs
mod StatementEnvs
mod ScopeSteps
mod BlockSteps
mod AddSteps
mod Branches
mod RowRules
mod RightSteps
