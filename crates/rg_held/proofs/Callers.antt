-- What callers cite: which regions are beneath others, what an instruction needs, what is forgotten, the opening, steps, what a step frees, and
-- that what is gone stays so.
pub mod Beneath
pub mod Need
pub mod Forget
pub mod Opening
pub mod Step
pub mod Freed
pub mod Gone
