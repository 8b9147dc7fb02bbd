-- Bodies that are told, by what stands there and by their rows.
mod Places
mod Returned
mod Reading
mod Stand
mod Making
mod Turns
mod Examples
