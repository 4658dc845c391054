pub mod Bytes
pub mod Cells
pub mod Counts
pub mod Changes
