-- The lemmas that the answers of rg_plan use.
mod PieceSteps
mod Digits
mod Visible
mod NameSteps
mod OwnedSteps
mod GoodPlans
mod Examples
