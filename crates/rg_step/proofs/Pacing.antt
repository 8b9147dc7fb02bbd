-- How often a step asks the pacers, and which of its collections are a yes of theirs.
pub mod Yes
pub mod Paced
pub mod Asked
pub mod CountingSince
