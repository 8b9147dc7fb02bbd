-- The lemmas by which the law is proved.
mod Managers
mod Shown
mod Lasts
mod Along
mod Examples
