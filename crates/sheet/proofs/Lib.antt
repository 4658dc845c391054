pub mod Places
pub mod Rows
pub mod Once
pub mod Sheets
