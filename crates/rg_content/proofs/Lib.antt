-- The lemmas by which a content is read off the machine.
mod SameCargo
mod Heap
mod Field
mod Told
mod Examples
