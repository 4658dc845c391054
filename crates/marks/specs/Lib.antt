pub mod Keys
pub mod Faults
pub mod Events
pub mod Marked
