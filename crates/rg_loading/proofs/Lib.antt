-- Lemmas on what cowns come to, and plans whose images were read by hand; none is for crates above.
mod Brought
mod Coming
mod One
mod Read
mod Examples
