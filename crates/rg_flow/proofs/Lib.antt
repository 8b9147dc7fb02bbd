-- The lemmas that the answers of rg_flow use; none is for crates above.
mod Set
mod NameTests
mod Place
mod Flows
mod FlowSteps
mod Envs
mod Scope
