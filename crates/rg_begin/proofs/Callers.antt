-- What callers cite: that a program runs on the machine with which a behaviour begins.
pub mod Runs
