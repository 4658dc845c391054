pub mod Faults
pub mod Lines
pub mod Plans
pub mod Books
pub mod Settles
