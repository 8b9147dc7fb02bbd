-- Lemmas on worlds over machines: Events is for callers, too.
pub mod Events
mod Asking
mod Empty
mod Lists
mod Fronts
mod Shown
mod Behind
mod Stepped
mod Returned
mod Opened
mod Members
mod First
