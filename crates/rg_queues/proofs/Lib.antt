-- Lemmas on the queues of cowns: LastOnes is for callers, too.
pub mod LastOnes
mod Steps
