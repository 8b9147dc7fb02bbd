-- Lemmas on content and on files in memory; Content is for crates above.
pub mod Content
mod Piece
mod Shelves
mod Told
mod Walks
