-- Lemmas that give what an instruction needs from the judgements and the invariant (docs/architecture.md, "The stack machine").
pub mod Follow
pub mod Judge
pub mod Fit
pub mod Owes
pub mod Use
pub mod Middle
pub mod Statement
pub mod Begin
pub mod Spot
pub mod Item
pub mod Make
pub mod Base
