-- The lemmas that the answers of rg_expressions use; none is for crates above.
mod PathSteps
mod ExpressionSteps
