pub mod Faults
pub mod Headers
pub mod Makings
pub mod Works
pub mod Tells
pub mod Statements
pub mod Claims
