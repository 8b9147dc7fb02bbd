-- What the tests of cells and collections build (docs/architecture.md, "Tests").
pub mod Tops
pub mod Traced
