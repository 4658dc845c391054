pub mod Places
pub mod Shifts
pub mod Lookups
pub mod Orders
pub mod Edits
