-- Definitions that only the clauses of private functions name.
pub mod Runs
