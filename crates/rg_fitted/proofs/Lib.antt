-- Lemmas on maps where code stands.
mod Laid
mod Callees
mod Maps
mod Marks
mod Fit
mod Ends
mod Entries
mod Bodies
mod Places
