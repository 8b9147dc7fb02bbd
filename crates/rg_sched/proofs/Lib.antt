-- Lemmas on schedules that are run.
mod Asking
mod Numbered
