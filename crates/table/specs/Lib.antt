pub mod Presence
pub mod Grid
pub mod Meanings
