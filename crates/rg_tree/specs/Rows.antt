-- The flat tables of a program, and the tree that they are (docs/language.md, "The tree").
pub mod RowTrees
pub mod RowsExist
pub mod Tables
