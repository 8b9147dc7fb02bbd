-- What goes: regions with all beneath them, and temporaries.
pub mod Released
pub mod Records
pub mod Temporaries
pub mod Lists
pub mod Beneath
pub mod Managers
pub mod After
