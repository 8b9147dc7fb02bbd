-- Programs that are the same but for the lines that no mark of their code has, and the laws that these lines change nothing else
-- (docs/architecture.md, "Modules").
pub mod Unlined
pub mod Laws
