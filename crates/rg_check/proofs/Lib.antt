-- The lemmas that the answers of rg_check use; none is for crates above.
mod Outcomes
mod BlockSteps
mod ParamSteps
mod MayBeJudged
mod MethodSteps
mod Spelling
mod WholeSteps
