-- The lemmas that the answers of rg_names use; those with pub are open to crates above.
mod Naming
pub mod Fails
mod Outcomes
mod HeadSteps
mod TypeFacts
mod ParamSteps
mod TypeSteps
mod SignatureSteps
mod MemberSteps
mod EntrySteps
mod RestSteps
mod ClassSteps
mod Places
mod FoundIn
mod MembersFound
mod ClassFound
mod ElementFound
mod NewNames
mod GoodHeaders
mod TableFacts
