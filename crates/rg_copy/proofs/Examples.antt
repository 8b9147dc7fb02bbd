-- The definition tried on small heaps.
mod Slides
