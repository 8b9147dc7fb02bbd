-- The lemmas that the answers of rg_parse use; none is for crates above.
mod ClassRows
mod ProgramRows
mod RightRows
mod Span
mod StmtRows
mod StuckSources
