-- What a machine shows of one program it shows of each that is the same but for the lines that no mark has (docs/architecture.md, "Modules").
pub mod Standing
pub mod Laws
