-- The machine as a whole. For callers: how main's items end.
pub mod Machine
